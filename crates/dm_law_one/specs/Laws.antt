-- What holds of every run of the kernel without machines, whatever its steps are.
use Rattle.std.specs.Prelude.{◌≡◌, ◌⊎◌, ℕ, ◌+◌, ◌≤◌, ◌&&◌, is_some, if◌then◌else◌, List, [], ◌∷◌, length}
use Rattle.std.specs.declared.option.Option.{Option}
use Rattle.std.specs.declared.option.Option.TheVariants.{None, Some}
use Rattle.std.specs.Option.{is_none}
use Rattle.dm_link.specs.declared.Pid.{Pid}
use Rattle.dm_message.specs.declared.MsgId.{MsgId}
use Rattle.dm_message.specs.Ids.{id_eq, id_of}
use Rattle.dm_message.specs.Plain.{PlainMessage}
use Rattle.dm_process.specs.declared.process.Direction.{Direction}
use Rattle.dm_onekernel.specs.declared.boot.Boot.{Boot}
use Rattle.dm_onekernel.specs.declared.label.Label.{Label}
use Rattle.dm_onekernel.specs.declared.label.Label.TheVariants as label
use Rattle.dm_onekernel.specs.declared.label.Why.{Why}
use Rattle.dm_onekernel.specs.Boot.{IsValid}
use Rattle.dm_onekernel.specs.PlainProcess.{PlainProcess, Moving}
use Rattle.dm_onekernel.specs.Kernel.{Alive, Ended, MoveNote, OneKernel}
use Rattle.dm_onekernel.specs.Pieces.{answer_id}
use Rattle.dm_onekernel.specs.Start.{start}
use Rattle.dm_onekernel.specs.Step.{step, replay}

-- 1 for a step that receives the message
abbrev pub reception : MsgId → Label → ℕ
reception id (label.Receive p j) = if id_eq id j then 1 else 0
reception id (label.Ran p k) = 0
reception id (label.Call p n c) = 0
reception id (label.Send p j) = 0
reception id (label.Wait p) = 0
reception id (label.Out p w) = 0
reception id (label.End p y) = 0
reception id (label.Refuse p j c) = 0
reception id (label.Dropped j) = 0
reception id (label.Served j) = 0
reception id (label.Gone j) = 0
reception id (label.Took j) = 0
reception id (label.Created j child) = 0
reception id (label.NoSpace j slots blocks) = 0
reception id (label.Asked j) = 0
reception id (label.Answered j o) = 0

-- how many of these steps receive the message
abbrev pub receptions : MsgId → List Label → ℕ
receptions id [] = 0
receptions id (l ∷ ls) = reception id l + receptions id ls

-- no message is received twice
abbrev pub ReceivesOnce : Type 0
ReceivesOnce = (b : Boot) (ls : List Label) (s : OneKernel) (id : MsgId) → IsValid b → replay (start b) ls ≡ Some s → receptions id ls ≤ 1

-- 1 where the bag has the message after a step, and didn't have it before
abbrev pub entry : MsgId → OneKernel → OneKernel → ℕ
entry id s t = if is_none (s.bag id) && is_some (t.bag id) then 1 else 0

-- how often the message enters the bag on the way, as far as there are steps
abbrev pub entries_on : MsgId → OneKernel → Option OneKernel → (OneKernel → ℕ) → ℕ
entries_on id s None go = 0
entries_on id s (Some t) go = entry id s t + go t

abbrev pub entries : MsgId → OneKernel → List Label → ℕ
entries id s [] = 0
entries id s (l ∷ ls) = entries_on id s (step s l) (λ t. entries id t ls)

-- no message enters the bag twice: a name is given once
abbrev pub EntersOnce : Type 0
EntersOnce = (b : Boot) (ls : List Label) (id : MsgId) → IsValid b → entries id (start b) ls ≤ 1

-- a message of the bag is never overwritten: a step leaves it as it is, or takes it out
abbrev pub StaysOrLeaves : Type 0
StaysOrLeaves =
    (b : Boot) (ls : List Label) (s t : OneKernel) (l : Label) (id : MsgId) (m : PlainMessage) →
    IsValid b → replay (start b) ls ≡ Some s → step s l ≡ Some t → s.bag id ≡ Some m → (t.bag id ≡ None) ⊎ (t.bag id ≡ Some m)

-- a run of a boot file up to s, and from there to t
abbrev pub Leads : Boot → List Label → OneKernel → List Label → OneKernel → Type 0
Leads b ls s ms t = (replay (start b) ls ≡ Some s) × (replay s ms ≡ Some t)

-- a process that has ended stays so, for the same reason
abbrev pub EndedStays : Type 0
EndedStays = (b : Boot) (ls ms : List Label) (s t : OneKernel) (p : Pid) (y : Why) → IsValid b → Leads b ls s ms t → s.processes p ≡ Some (Ended y) → t.processes p ≡ Some (Ended y)

-- the counts of messages only rise
pub record CountsRise (b : Boot) (ls ms : List Label) (s t : OneKernel) : Type 0 where
  pub process : (p : Pid) (x y : PlainProcess) → s.processes p ≡ Some (Alive x) → t.processes p ≡ Some (Alive y) → x.sent ≤ y.sent
  pub switchboard : s.switchboard.sent ≤ t.switchboard.sent
  pub manager : s.manager.sent ≤ t.manager.sent
  pub made : (home : ℕ) → s.made home ≤ t.made home
  pub children : length s.manager.children ≤ length t.manager.children

abbrev pub CountsOnlyRise : Type 0
CountsOnlyRise = (b : Boot) (ls ms : List Label) (s t : OneKernel) → IsValid b → Leads b ls s ms t → CountsRise b ls ms s t

abbrev pub in_bag : {M : Type 0} → Option M → ℕ
in_bag None = 0
in_bag (Some m) = 1

-- a process that moves data has exactly one message under its pending number: the request, or the answer to it
abbrev pub MoverHasOne : Type 0
MoverHasOne =
    (b : Boot) (ls : List Label) (s : OneKernel) (p : Pid) (x : PlainProcess) (dir : Direction) (owner : Pid) (base own left pending : ℕ) →
    IsValid b → replay (start b) ls ≡ Some s → s.processes p ≡ Some (Alive x) → x.status ≡ Moving dir owner base own left pending →
    in_bag (s.bag (id_of p pending)) + in_bag (s.bag (answer_id (id_of p pending))) ≡ 1

-- of the requests to move that processes follow: each process follows one at most, and each request is followed by one process at
-- most, which lives; such a request isn't in the bag any more, nor is an answer to it
pub record NotesAgree (s : OneKernel) : Type 0 where
  pub noted : (p : Pid) (n : MoveNote) → s.notes p ≡ Some n → s.noted n.id ≡ Some p
  pub follows : (i : MsgId) (p : Pid) → s.noted i ≡ Some p → (n : MoveNote) × (s.notes p ≡ Some n) × (n.id ≡ i)
  pub lives : (p : Pid) (n : MoveNote) → s.notes p ≡ Some n → (x : PlainProcess) × (s.processes p ≡ Some (Alive x))
  pub taken : (i : MsgId) (p : Pid) → s.noted i ≡ Some p → (s.bag i ≡ None) × (s.bag (answer_id i) ≡ None)

abbrev pub NotesAlwaysAgree : Type 0
NotesAlwaysAgree = (b : Boot) (ls : List Label) (s : OneKernel) → IsValid b → replay (start b) ls ≡ Some s → NotesAgree s

-- a step is one of a process: it executes, calls, receives or ends, or a message for it is served
abbrev pub IsOwnStep : OneKernel → Pid → Label → Type 0
IsOwnStep s p (label.Ran q k) = q ≡ p
IsOwnStep s p (label.Call q n c) = q ≡ p
IsOwnStep s p (label.Send q id) = q ≡ p
IsOwnStep s p (label.Wait q) = q ≡ p
IsOwnStep s p (label.Out q w) = q ≡ p
IsOwnStep s p (label.End q y) = q ≡ p
IsOwnStep s p (label.Receive q id) = q ≡ p
IsOwnStep s p (label.Refuse q id c) = q ≡ p
IsOwnStep s p (label.Served id) = (m : PlainMessage) × (s.bag id ≡ Some m) × (m.to ≡ p)
IsOwnStep s p (label.Asked id) = (m : PlainMessage) × (s.bag id ≡ Some m) × (m.to ≡ p)
IsOwnStep s p (label.Dropped id) = ⊥
IsOwnStep s p (label.Gone id) = ⊥
IsOwnStep s p (label.Took id) = ⊥
IsOwnStep s p (label.Created id child) = ⊥
IsOwnStep s p (label.NoSpace id slots blocks) = ⊥
IsOwnStep s p (label.Answered id o) = ⊥

-- while a process follows a request to move, no step is its own, and its value stays
abbrev pub NotedRests : Type 0
NotedRests =
    (b : Boot) (ls : List Label) (s t : OneKernel) (l : Label) (p : Pid) (n : MoveNote) → IsValid b → replay (start b) ls ≡ Some s → step s l ≡ Some t → s.notes p ≡ Some n
    → (IsOwnStep s p l → ⊥) × (t.processes p ≡ s.processes p)
