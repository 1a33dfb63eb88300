-- Requests to move that processes follow, once they are noted, or answered.
use Rattle.std.specs.Prelude.{◌≡◌, ℕ, Bool, true, false, cond, if◌then◌else◌, option_map}
use Rattle.std.proofs.Common.{refl, sym, subst, ap, arith, ◌∙◌}
use Rattle.std.proofs.lemmas.Grind.{common_steps}
use Rattle.std.specs.BTreeMap.{get, is_at}
use Rattle.std.specs.declared.option.Option.{Option}
use Rattle.std.specs.declared.option.Option.TheVariants.{None, Some}
use Rattle.dm_link.specs.declared.Pid.{Pid}
use Rattle.dm_link.specs.Lawful.{IsMachine}
use Rattle.dm_link.specs.Names.{pid_cmp, pid_eq}
use Rattle.dm_linktable.proofs.ReceiverOrder.{pid_eq_same}
use Rattle.dm_message.specs.declared.MsgId.{MsgId}
use Rattle.dm_message.specs.Ids.{id_eq}
use Rattle.dm_onekernel.specs.declared.boot.Boot.{Boot}
use Rattle.dm_onekernel.specs.Kernel.{with_note, without_note}
use Rattle.dm_replay.specs.declared.kernel.Kernel.{Kernel}
use Rattle.dm_replay.specs.declared.kernel.Note.{Note}
use Rattle.dm_replay.specs.Named.{held}
use Rattle.dm_replay.specs.Sound.{IsFitNote, IsSound}
use Rattle.dm_replay.specs.State.{one_kernel, plain_note}

same_at : (p q : Pid) → is_at (pid_cmp p) q ≡ pid_eq p q
same_at p q = grind (arith, common_steps)

chosen : (c d : Bool) (w x o : Option Note) → c ≡ d → x ≡ cond c w o → option_map plain_note x ≡ (if d then option_map plain_note w else option_map plain_note o)
chosen true true w x o same e = ap (option_map plain_note) e
chosen false false w x o same e = ap (option_map plain_note) e
chosen true false w x o same e = absurd (cc)
chosen false true w x o same e = absurd (cc)

-- the kernel once a request is noted
pub state_noted : (b : Boot) (k new : Kernel) (p : Pid) (n : Note) → new ≡ record k { notes = new.notes; noted = new.noted }
    → ((q : Pid) → get pid_cmp new.notes q ≡ cond (is_at (pid_cmp p) q) (Some n) (get pid_cmp k.notes q)) → ((i : MsgId) → held new.noted i ≡ (if id_eq n.id i then Some p else held k.noted i))
    → one_kernel b new ≡ with_note (one_kernel b k) p (plain_note n)
state_noted b k new p n is e f =
    ap (one_kernel b) is
    ∙ (λ i. record (one_kernel b k) { notes = λ q. chosen (is_at (pid_cmp p) q) (pid_eq p q) (Some n) (get pid_cmp new.notes q) (get pid_cmp k.notes q) (same_at p q) (e q) i; noted = λ j. f j i })

-- and once it is answered
pub state_answered : (b : Boot) (k new : Kernel) (p : Pid) (id : MsgId) → new ≡ record k { notes = new.notes; noted = new.noted }
    → ((q : Pid) → get pid_cmp new.notes q ≡ cond (is_at (pid_cmp p) q) None (get pid_cmp k.notes q)) → ((i : MsgId) → held new.noted i ≡ (if id_eq id i then None else held k.noted i))
    → one_kernel b new ≡ without_note (one_kernel b k) p id
state_answered b k new p id is e f =
    ap (one_kernel b) is
    ∙ (λ i. record (one_kernel b k) { notes = λ q. chosen (is_at (pid_cmp p) q) (pid_eq p q) None (get pid_cmp new.notes q) (get pid_cmp k.notes q) (same_at p q) (e q) i; noted = λ j. f j i })

-- it is sound still
pub notes_sound : (n : ℕ) (k new : Kernel) → new ≡ record k { notes = new.notes; noted = new.noted } → IsSound n k → ((q : Pid) (x : Note) → get pid_cmp new.notes q ≡ Some x → IsFitNote q x)
    → ((i : MsgId) (q : Pid) → held new.noted i ≡ Some q → IsMachine i.from.home) → IsSound n new
notes_sound n k new is h fit named =
    subst (IsSound n) (sym is)
    (record {
      processes = h.processes;
      bag = h.bag;
      notes = fit;
      noted = named;
      made = h.made;
      board = h.board;
      board_sent = h.board_sent;
      manager = h.manager;
      manager_sent = h.manager_sent;
      children = h.children;
    })

fit_with : (p q : Pid) (c : Bool) (n x : Note) (o : Option Note) → pid_eq p q ≡ c → IsFitNote p n → cond c (Some n) o ≡ Some x → (o ≡ Some x → IsFitNote q x) → IsFitNote q x
fit_with p q true n x o is f e h = let same : n ≡ x = cc in subst (IsFitNote q) same (subst (λ (r : Pid). IsFitNote r n) (pid_eq_same p q is) f)
fit_with p q false n x o is f e h = h e

fit_without : (q : Pid) (c : Bool) (x : Note) (o : Option Note) → cond c None o ≡ Some x → (o ≡ Some x → IsFitNote q x) → IsFitNote q x
fit_without q true x o e h = absurd (cc)
fit_without q false x o e h = h e

named_with : (m i : MsgId) (c : Bool) (p q : Pid) (o : Option Pid) → id_eq m i ≡ c → IsMachine m.from.home → (if c then Some p else o) ≡ Some q → (o ≡ Some q → IsMachine i.from.home) → IsMachine i.from.home
named_with m i true p q o is f e h = subst IsMachine (ap (λ (r : Pid). r.home) (senders m i is)) f
  where
    senders : (m i : MsgId) → id_eq m i ≡ true → m.from ≡ i.from
    senders m i is = grind (arith, common_steps)
named_with m i false p q o is f e h = h e

named_without : (i : MsgId) (c : Bool) (q : Pid) (o : Option Pid) → (if c then None else o) ≡ Some q → (o ≡ Some q → IsMachine i.from.home) → IsMachine i.from.home
named_without i true q o e h = absurd (cc)
named_without i false q o e h = h e

pub sound_noted : (n : ℕ) (k new : Kernel) (p : Pid) (x : Note) → new ≡ record k { notes = new.notes; noted = new.noted }
    → ((q : Pid) → get pid_cmp new.notes q ≡ cond (is_at (pid_cmp p) q) (Some x) (get pid_cmp k.notes q)) → ((i : MsgId) → held new.noted i ≡ (if id_eq x.id i then Some p else held k.noted i))
    → IsSound n k → IsFitNote p x → IsMachine x.id.from.home → IsSound n new
sound_noted n k new p x is e f h fit home =
    notes_sound n k new is h
    (λ q y there. fit_with p q (is_at (pid_cmp p) q) x y (get pid_cmp k.notes q) (sym (same_at p q)) fit (sym (e q) ∙ there) (h.notes q y))
    (λ i q there. named_with x.id i (id_eq x.id i) p q (held k.noted i) refl home (sym (f i) ∙ there) (h.noted i q))

pub sound_answered : (n : ℕ) (k new : Kernel) (p : Pid) (id : MsgId) → new ≡ record k { notes = new.notes; noted = new.noted }
    → ((q : Pid) → get pid_cmp new.notes q ≡ cond (is_at (pid_cmp p) q) None (get pid_cmp k.notes q)) → ((i : MsgId) → held new.noted i ≡ (if id_eq id i then None else held k.noted i))
    → IsSound n k → IsSound n new
sound_answered n k new p id is e f h =
    notes_sound n k new is h
    (λ q y there. fit_without q (is_at (pid_cmp p) q) y (get pid_cmp k.notes q) (sym (e q) ∙ there) (h.notes q y))
    (λ i q there. named_without i (id_eq id i) q (held k.noted i) (sym (f i) ∙ there) (h.noted i q))
