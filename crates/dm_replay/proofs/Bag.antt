-- Messages that are taken out of the bag, and put in.
use Rattle.std.specs.Prelude.{◌≡◌, ⊤, ℕ, Bool, true, false, is_some, if◌then◌else◌}
use Rattle.std.proofs.Common.{refl, sym, subst, ap, arith, ◌∙◌}
use Rattle.std.proofs.lemmas.Grind.{common_steps}
use Rattle.std.specs.declared.option.Option.{Option}
use Rattle.std.specs.declared.option.Option.TheVariants.{None, Some}
use Rattle.dm_link.specs.declared.Pid.{Pid}
use Rattle.dm_link.specs.Lawful.{IsMachine}
use Rattle.dm_message.specs.declared.Message.{Message}
use Rattle.dm_message.specs.declared.MsgId.{MsgId}
use Rattle.dm_message.specs.Ids.{id_eq}
use Rattle.dm_message.specs.Lawful.{IsLawfulMessage}
use Rattle.dm_message.specs.Plain.{PlainMessage, PlainWhat, plain_message, plain_what, with_what}
use Rattle.dm_onekernel.specs.declared.boot.Boot.{Boot}
use Rattle.dm_onekernel.specs.Kernel.{OneKernel, with_message, with_sent}
use Rattle.dm_onekernel.specs.Options.{bind}
use Rattle.dm_onekernel.specs.Service.{without_message}
use Rattle.dm_replay.specs.declared.kernel.Kernel.{Kernel}
use Rattle.dm_replay.specs.Named.{held}
use Rattle.dm_replay.specs.Sound.{IsFitMessage, IsSound}
use Rattle.dm_replay.specs.State.{one_kernel, plain_held, put_in}

held_without : (c : Bool) (o : Option Message) → plain_held (if c then None else o) ≡ (if c then None else plain_held o)
held_without true o = refl
held_without false o = refl

held_with : (c : Bool) (m : Message) (o : Option Message) → plain_held (if c then Some m else o) ≡ (if c then plain_message m else plain_held o)
held_with true m o = refl
held_with false m o = refl

-- the kernel once a message is taken out, or put in
pub state_taken : (b : Boot) (k new : Kernel) (id : MsgId) → new ≡ record k { bag = new.bag } → ((i : MsgId) → held new.bag i ≡ (if id_eq id i then None else held k.bag i))
    → one_kernel b new ≡ without_message (one_kernel b k) id
state_taken b k new id is e =
    ap (one_kernel b) is ∙ (λ i. record (one_kernel b k) { bag = λ j. (ap plain_held (e j) ∙ held_without (id_eq id j) (held k.bag j)) i })

pub state_put : (b : Boot) (k new : Kernel) (m : Message) → new ≡ record k { bag = new.bag } → ((i : MsgId) → held new.bag i ≡ (if id_eq m.id i then Some m else held k.bag i))
    → one_kernel b new ≡ with_message (one_kernel b k) m.id (plain_message m)
state_put b k new m is e =
    ap (one_kernel b) is ∙ (λ i. record (one_kernel b k) { bag = λ j. (ap plain_held (e j) ∙ held_with (id_eq m.id j) m (held k.bag j)) i })

-- it is sound still
pub bag_sound : (n : ℕ) (k new : Kernel) → new ≡ record k { bag = new.bag } → IsSound n k → ((i : MsgId) (m : Message) → held new.bag i ≡ Some m → IsFitMessage i m) → IsSound n new
bag_sound n k new is h fit =
    subst (IsSound n) (sym is)
    (record {
      processes = h.processes;
      bag = fit;
      notes = h.notes;
      noted = h.noted;
      made = h.made;
      board = h.board;
      board_sent = h.board_sent;
      manager = h.manager;
      manager_sent = h.manager_sent;
      children = h.children;
    })

left : (c : Bool) (i : MsgId) (m : Message) (o : Option Message) → (if c then None else o) ≡ Some m → (o ≡ Some m → IsFitMessage i m) → IsFitMessage i m
left true i m o e h = absurd (cc)
left false i m o e h = h e

pub sound_taken : (n : ℕ) (k new : Kernel) (id : MsgId) → new ≡ record k { bag = new.bag } → ((i : MsgId) → held new.bag i ≡ (if id_eq id i then None else held k.bag i)) → IsSound n k → IsSound n new
sound_taken n k new id is e h = bag_sound n k new is h (λ i m there. left (id_eq id i) i m (held k.bag i) (sym (e i) ∙ there) (h.bag i m))

senders : (m i : MsgId) → id_eq m i ≡ true → m.from ≡ i.from
senders m i is = grind (arith, common_steps)

one_more : (i : MsgId) (c : Bool) (x m : Message) (o : Option Message) → id_eq x.id i ≡ c → IsLawfulMessage x → (if c then Some x else o) ≡ Some m → (o ≡ Some m → IsFitMessage i m) → IsFitMessage i m
one_more i true x m o is lawful e h =
    let same : x ≡ m = cc in
    record { lawful = subst IsLawfulMessage same lawful; home = subst IsMachine (ap (λ (p : Pid). p.home) (senders x.id i is)) lawful.from }
one_more i false x m o is lawful e h = h e

pub sound_put : (n : ℕ) (k new : Kernel) (x : Message) → new ≡ record k { bag = new.bag } → ((i : MsgId) → held new.bag i ≡ (if id_eq x.id i then Some x else held k.bag i)) → IsLawfulMessage x → IsSound n k
    → IsSound n new
sound_put n k new x is e lawful h = bag_sound n k new is h (λ i m there. one_more i (id_eq x.id i) x m (held k.bag i) refl lawful (sym (e i) ∙ there) (h.bag i m))

-- a message that the kernel without machines has, if there is one
abbrev pub IsPlain : Option Message → Type 0
IsPlain None = ⊤
IsPlain (Some m) = is_some (plain_what m.what) ≡ true

-- it enters the bag under its own name
named : (s : OneKernel) (m : Message) (o : Option PlainWhat) → is_some o ≡ true → with_message s m.id (with_what m o) ≡ with_sent s (with_what m o)
named s m None e = absurd (cc)
named s m (Some v) e = refl

pub enters : (s : OneKernel) (m : Option Message) → IsPlain m → put_in s m ≡ with_sent s (bind m plain_message)
enters s None h = refl
enters s (Some m) h = named s m (plain_what m.what) h

said_plainly : (m : Message) (o : Option PlainWhat) (w : PlainMessage) → with_what m o ≡ Some w → is_some o ≡ true
said_plainly m None w e = absurd (cc)
said_plainly m (Some v) w e = refl

pub is_plain : (m : Message) (w : PlainMessage) → plain_message m ≡ Some w → IsPlain (Some m)
is_plain m w e = said_plainly m (plain_what m.what) w e

-- an answer that is told enters the bag
sent_what : (u : OneKernel) (g : Message) (o : Option PlainWhat) → is_some o ≡ true → bind (with_what g o) (λ a. Some (with_sent u (Some a))) ≡ Some (with_sent u (with_what g o))
sent_what u g None e = absurd (cc)
sent_what u g (Some w) e = refl

pub puts_answer : (u : OneKernel) (g : Message) (o : Option PlainMessage) → o ≡ plain_message g → IsPlain (Some g) → bind o (λ a. Some (with_sent u (Some a))) ≡ Some (put_in u (Some g))
puts_answer u g o e h = ap (λ o. bind o (λ a. Some (with_sent u (Some a)))) e ∙ sent_what u g (plain_what g.what) h ∙ ap Some (sym (enters u (Some g) h))
