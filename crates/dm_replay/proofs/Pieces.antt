-- What answers and requests for pieces say, and where they go.
use Rattle.std.specs.Prelude.{◌≡◌, ◌-◌, ◌==◌, ⊤, ℕ, Bool, true, false, if◌then◌else◌, is_some, take, drop}
use Rattle.std.proofs.Common.{refl, sym, subst, ap, ◌∙◌}
use Rattle.std.specs.declared.option.Option.{Option}
use Rattle.std.specs.declared.option.Option.TheVariants.{None, Some}
use Rattle.dm_link.specs.declared.Pid.{Pid}
use Rattle.dm_message.specs.declared.Message.{Message}
use Rattle.dm_message.specs.declared.What.{What}
use Rattle.dm_message.specs.declared.What.TheVariants as what
use Rattle.dm_message.specs.Plain.{PlainWhat, plain_message, plain_what, with_what}
use Rattle.dm_process.specs.declared.process.Direction.{Direction}
use Rattle.dm_process.specs.declared.process.Direction.TheVariants as direction
use Rattle.dm_process.specs.declared.process.Process.{Process}
use Rattle.dm_process.specs.declared.process.Status.{Status}
use Rattle.dm_process.specs.declared.process.Status.TheVariants as status
use Rattle.dm_onekernel.specs.Kernel.{OneKernel, with_sent}
use Rattle.dm_onekernel.specs.Options.{bind}
use Rattle.dm_onekernel.specs.Pieces as pieces
use Rattle.dm_onekernel.specs.Pieces.{piece_of, written_at as written}
use Rattle.dm_onekernel.specs.PlainProcess.{PlainProcess}
use Rattle.dm_onekernel.specs.Step.{goes_on}
use Rattle.dm_onekernel.specs.declared.label.Reply.TheVariants as reply
use Rattle.dm_datamove.specs.declared.Landed.{Landed}
use Rattle.dm_datamove.specs.declared.Landed.TheVariants as landed
use Rattle.dm_datamove.specs.declared.Rest.{Rest}
use Rattle.dm_datamove.specs.Landing.{Landing, landing, lands_what, goes_on as moves_on, done, asks as asks_next, behind}
use Rattle.dm_datamove.specs.Requests.{request_of}
use Rattle.dm_datamove.specs.Serving.{answer, answer_of, answer_with}
use Rattle.dm_replay.specs.Serving.{lands_at, serves_at}
use Rattle.dm_replay.specs.State.{put_in}
use Rattle.dm_replay.proofs.Bag.{enters}

-- an answer has a plain meaning
pub answer_said : (here : ℕ) (p : Process) (m : Message) (w : What) (g : Message) → answer_with here p m (answer_of p w) ≡ Some g → is_some (plain_what g.what) ≡ true
answer_said here p m (what.Read base len) g e =
    let same : answer here p.moves m (what.Block (record { items = take len (drop base p.memory) })) ≡ g = cc in subst (λ (g : Message). is_some (plain_what g.what) ≡ true) same refl
answer_said here p m (what.Write base bytes) g e =
    let same : answer here p.moves m what.Written ≡ g = cc in subst (λ (g : Message). is_some (plain_what g.what) ≡ true) same refl
answer_said here p m w g e = absurd (cc)

-- and so has a request
request_said : (p : Process) (dir : Direction) (base own left : ℕ) → is_some (plain_what (request_of p dir base own left)) ≡ true
request_said p direction.FromArea base own left = refl
request_said p direction.IntoArea base own left = refl

abbrev pub IsSaidLanded : Landed → Type 0
IsSaidLanded (landed.Next m) = is_some (plain_what m.what) ≡ true
IsSaidLanded (landed.Done c) = ⊤

if_said : (b : Bool) (d e : Landing) → IsSaidLanded d.landed → IsSaidLanded e.landed → IsSaidLanded (if b then d else e).landed
if_said true d e f g = f
if_said false d e f g = g

on_said : (here : ℕ) (p : Process) (r : Rest) → IsSaidLanded (moves_on here p r).landed
on_said here p r =
    if_said (r.left - piece_of r.left == 0) (done reply.Done p) (asks_next here p (behind r)) tt (request_said p (behind r).dir (behind r).base (behind r).own (behind r).left)

what_said : (here : ℕ) (p : Process) (r : Rest) (dir : Direction) (w : What) (d : Landing) → lands_what here p r dir w ≡ Some d → IsSaidLanded d.landed
what_said here p r direction.FromArea (what.Block bytes) d e =
    let is : moves_on here (record p { memory = written p.memory r.own bytes.items }) r ≡ d = cc in
    subst (λ (d : Landing). IsSaidLanded d.landed) is (on_said here (record p { memory = written p.memory r.own bytes.items }) r)
what_said here p r direction.IntoArea what.Written d e = let is : moves_on here p r ≡ d = cc in subst (λ (d : Landing). IsSaidLanded d.landed) is (on_said here p r)
what_said here p r dir what.Gone d e = let is : done reply.Gone p ≡ d = cc in subst (λ (d : Landing). IsSaidLanded d.landed) is tt
what_said here p r dir w d e = absurd (cc)

pub landing_said : (here : ℕ) (p : Process) (w : What) (s : Status) (d : Landing) → landing here p w s ≡ Some d → IsSaidLanded d.landed
landing_said here p w status.Ready d e = absurd (cc)
landing_said here p w (status.Waiting mask base size) d e = absurd (cc)
landing_said here p w (status.Moving dir owner base own left pending) d e = what_said here p (record { dir = dir; owner = owner; base = base; own = own; left = left }) dir w d e

-- the owner goes on, and its answer enters the bag
owner_goes : (s : OneKernel) (p : Pid) (y : PlainProcess) (g : Message) (o : Option PlainWhat) → is_some o ≡ true
    → serves_at s p (bind (with_what g o) (λ a. Some (record { process = y; answer = a }))) ≡ Some (with_sent (goes_on s p y) (with_what g o))
owner_goes s p y g None e = absurd (cc)
owner_goes s p y g (Some w) e = refl

pub served_puts : (s t : OneKernel) (p : Pid) (y : PlainProcess) (g : Message) (o : Option pieces.Served) → bind (plain_message g) (λ a. Some (record { process = y; answer = a })) ≡ o → is_some (plain_what g.what) ≡ true → t ≡ goes_on s p y
    → serves_at s p o ≡ Some (put_in t (Some g))
served_puts s t p y g o e said is =
    sym (ap (serves_at s p) e)
    ∙ owner_goes s p y g (plain_what g.what) said
    ∙ ap Some (sym (enters (goes_on s p y) (Some g) said))
    ∙ ap (λ (u : OneKernel). Some (put_in u (Some g))) (sym is)

-- the mover goes on, and its next request enters the bag
mover_goes : (s : OneKernel) (p : Pid) (y : PlainProcess) (g : Message) (o : Option PlainWhat) → is_some o ≡ true
    → lands_at s p (bind (with_what g o) (λ a. Some (pieces.Next a y))) ≡ Some (with_sent (goes_on s p y) (with_what g o))
mover_goes s p y g None e = absurd (cc)
mover_goes s p y g (Some w) e = refl

pub landed_puts : (s t : OneKernel) (p : Pid) (y : PlainProcess) (g : Message) (o : Option pieces.Landed) → bind (plain_message g) (λ a. Some (pieces.Next a y)) ≡ o → is_some (plain_what g.what) ≡ true → t ≡ goes_on s p y
    → lands_at s p o ≡ Some (put_in t (Some g))
landed_puts s t p y g o e said is =
    sym (ap (lands_at s p) e)
    ∙ mover_goes s p y g (plain_what g.what) said
    ∙ ap Some (sym (enters (goes_on s p y) (Some g) said))
    ∙ ap (λ (u : OneKernel). Some (put_in u (Some g))) (sym is)
