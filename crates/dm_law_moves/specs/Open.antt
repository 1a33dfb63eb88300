-- What a process or a server that moves is spared, by the printed lines: from its line of step 1 on, until step 8 or `stays` is said of it.
use Rattle.std.specs.Prelude.{◌≡◌, ◌≢◌, ⊤, Bool, true, false, if◌then◌else◌, is_some, List, [], ◌∷◌, ◌++◌}
use Rattle.std.specs.declared.option.Option.{Option}
use Rattle.std.specs.declared.option.Option.TheVariants.{None, Some}
use Rattle.dm_link.specs.declared.Pid.{Pid}
use Rattle.dm_message.specs.declared.MsgId.{MsgId}
use Rattle.dm_message.specs.declared.kind.MessageKind.{MessageKind}
use Rattle.dm_message.specs.Sorts.{Sort, sort_of}
use Rattle.dm_message.specs.Sorts as sort
use Rattle.dm_message.specs.Plain.{PlainMessage}
use Rattle.dm_onekernel.specs.declared.boot.Boot.{Boot}
use Rattle.dm_onekernel.specs.declared.label.Label.{Label}
use Rattle.dm_onekernel.specs.declared.label.Label.TheVariants as label
use Rattle.dm_link.specs.Names.{pid_eq}
use Rattle.dm_onekernel.specs.Boot.{IsValid, manager, switchboard}
use Rattle.dm_onekernel.specs.Kernel.{Manager, OneKernel, Switchboard}
use Rattle.dm_onekernel.specs.Start.{start}
use Rattle.dm_onekernel.specs.Step.{replay}
use Rattle.dm_schedule.specs.declared.Step.{Step}
use Rattle.dm_line.specs.declared.line.Line.{Line}
use Rattle.dm_line.specs.declared.line.Line.TheVariants as line
use Rattle.dm_law_rule.specs.Apart.{AllSpare}
use Rattle.dm_law_rule.specs.Parts.{Spelled}
use Rattle.dm_law_rule.specs.Phases.{Phase, Nowhere, Rests, Over, Moves, is_due, IsIn}
use Rattle.dm_law_rule.specs.Point.{Point, label_of, labels, kernel_after, first_point, after}
use Rattle.dm_law_rule.specs.Rule.{group_of}
use Rattle.dm_law_always.specs.Order.{LeadsBy}
use Rattle.dm_law_moves.specs.Stages.{Mark, Reached, Lacking, Calling, marks, left_open}

-- the last of these marks, if its migration isn't over: step 8 ends it, and so does staying
abbrev pub open_mark : Option Mark → List Mark → Option Mark
open_mark last [] = last
open_mark last (m ∷ ms) = open_mark (left_open m) ms

-- by these lines a migration of the process has begun that isn't over
abbrev pub is_open : Pid → List Line → Bool
is_open p ls = is_some (open_mark None (marks p ls))

-- the last mark while the one message about a migration that is under way is of this kind; other kinds are of none
abbrev pub mark_told : Sort → Option Mark
mark_told (sort.Between sort.Ask) = Some (Reached 2)
mark_told (sort.Between sort.Refuse) = Some Lacking
mark_told (sort.Between sort.PullState) = Some (Reached 3)
mark_told (sort.Between sort.State) = Some (Reached 3)
mark_told (sort.Between sort.PullBlock) = Some (Reached 4)
mark_told (sort.Between sort.Memory) = Some (Reached 4)
mark_told (sort.Between sort.AllTaken) = Some (Reached 5)
mark_told (sort.Between sort.Restart) = Some (Reached 7)
mark_told (sort.Between sort.CallOff) = Some Calling
mark_told s = None

abbrev pub mark_by : MessageKind → Option Mark
mark_by k = mark_told (sort_of k)

-- a process that doesn't move has no open mark
abbrev pub mark_while : Phase → Option Mark
mark_while Nowhere = None
mark_while (Rests at) = None
mark_while (Over at) = None
mark_while (Moves k source destination id) = mark_by k

-- wherever the rule leads, each process is in a phase, and the open mark among the lines so far says which message of its
-- migration is under way, or that it doesn't move
abbrev pub OpenMoves : Type 0
OpenMoves =
    (b : Boot) (es : List Step) (ls : List Line) (pt : Point) (p : Pid) → IsValid b → LeadsBy b (first_point b) es ls pt
    → (phase : Phase) × IsIn pt.view p phase × (is_due phase ≡ false) × (open_mark None (marks p ls) ≡ mark_while phase)

-- the plain value of a server, if this is one: what the switchboard or the manager keeps
pub data ServerValue : Type 0 where
  BoardValue : (board : Switchboard) → ServerValue
  ManagerValue : (manager : Manager) → ServerValue

abbrev pub server_value : Pid → OneKernel → Option ServerValue
server_value p s = if pid_eq p switchboard then Some (BoardValue s.switchboard) else if pid_eq p manager then Some (ManagerValue s.manager) else None

-- a group leaves a process or a server alone
pub record IsSpared (pt : Point) (w : Spelled) (p : Pid) : Type 0 where
  -- no ran, call, send, wait, out, end, receive or refuse is the process's, and no message for it is served
  pub others : AllSpare pt.kernel p w.lines
  -- no message for it is taken, where it is a server: none that is in the bag before such a line
  pub untaken : (earlier later : List Line) (before : Point) (id : MsgId) (m : PlainMessage) → w.lines ≡ earlier ++ line.Label (label.Took id) ∷ later → after pt earlier ≡ Some before → before.kernel.bag id ≡ Some m → m.to ≢ p
  -- no message for it is dropped: none that is in the bag before such a line
  pub kept : (earlier later : List Line) (before : Point) (id : MsgId) (m : PlainMessage) → w.lines ≡ earlier ++ line.Label (label.Dropped id) ∷ later → after pt earlier ≡ Some before → before.kernel.bag id ≡ Some m → m.to ≢ p
  -- its plain value stays, and that of a server too
  pub same : w.point.kernel.processes p ≡ pt.kernel.processes p
  pub server : server_value p w.point.kernel ≡ server_value p pt.kernel

-- wherever the rule leads: as long as by the lines so far a migration of a process is open, the next group leaves it alone
abbrev pub OpenSpares : Type 0
OpenSpares =
    (b : Boot) (es : List Step) (ls : List Line) (pt : Point) (d : Step) (w : Spelled) (p : Pid) → IsValid b → LeadsBy b (first_point b) es ls pt → is_open p ls ≡ true → group_of b pt d ≡ Some w → IsSpared pt w p

-- the message of this name isn't for the process
abbrev pub IsNotFor : OneKernel → Pid → MsgId → Type 0
IsNotFor s p id = (m : PlainMessage) → s.bag id ≡ Some m → m.to ≢ p

-- a step of the kernel without machines is another's: it isn't the process's, and the message that it is about isn't for the
-- process; a row a label
abbrev pub IsAnothers : OneKernel → Pid → Label → Type 0
IsAnothers s p (label.Ran q k) = q ≢ p
IsAnothers s p (label.Call q n c) = q ≢ p
IsAnothers s p (label.Send q id) = q ≢ p
IsAnothers s p (label.Wait q) = q ≢ p
IsAnothers s p (label.Out q w) = q ≢ p
IsAnothers s p (label.End q y) = q ≢ p
IsAnothers s p (label.Receive q id) = q ≢ p
IsAnothers s p (label.Refuse q id c) = q ≢ p
IsAnothers s p (label.Dropped id) = IsNotFor s p id
IsAnothers s p (label.Served id) = IsNotFor s p id
IsAnothers s p (label.Gone id) = IsNotFor s p id
IsAnothers s p (label.Took id) = IsNotFor s p id
IsAnothers s p (label.Created id q) = (q ≢ p) × IsNotFor s p id
IsAnothers s p (label.NoSpace id a b) = IsNotFor s p id
IsAnothers s p (label.Asked id) = IsNotFor s p id
IsAnothers s p (label.Answered id o) = s.noted id ≢ Some p

-- the step that a line is, if it is one
abbrev pub IsAnothersIf : OneKernel → Pid → Option Label → Type 0
IsAnothersIf s p None = ⊤
IsAnothersIf s p (Some l) = IsAnothers s p l

-- a line behind others: where their labels lead, it is another's, and leaves the process's plain value
pub record StaysAt (b : Boot) (earlier : List Line) (l : Line) (p : Pid) : Type 0 where
  pub before : OneKernel
  pub comes : replay (start b) (labels earlier) ≡ Some before
  pub behind : OneKernel
  pub goes : kernel_after before (label_of l) ≡ Some behind
  pub anothers : IsAnothersIf before p (label_of l)
  pub same : behind.processes p ≡ before.processes p
  pub server : server_value p behind ≡ server_value p before

-- each line between a process's step 1 and its step 8 or `stays` is another's, and leaves its plain value
abbrev pub OpenStays : Type 0
OpenStays =
    (b : Boot) (es : List Step) (ls earlier later : List Line) (l : Line) (pt : Point) (p : Pid) → IsValid b → LeadsBy b (first_point b) es ls pt → ls ≡ earlier ++ l ∷ later → is_open p earlier ≡ true → StaysAt b earlier l p

-- each of these lines is said while a migration of the process is open
abbrev pub AllOpen : Pid → List Line → List Line → Type 0
AllOpen p earlier [] = ⊤
AllOpen p earlier (l ∷ ls) = (is_open p earlier ≡ true) × AllOpen p (earlier ++ l ∷ []) ls

-- so between the step 1 of a process or a server and its step 8 or `stays` its plain value is the same behind all lines
abbrev pub OpenKeeps : Type 0
OpenKeeps =
    (b : Boot) (es : List Step) (ls earlier between later : List Line) (pt : Point) (p : Pid) (s t : OneKernel) → IsValid b → LeadsBy b (first_point b) es ls pt → ls ≡ earlier ++ (between ++ later) → AllOpen p earlier between
    → replay (start b) (labels earlier) ≡ Some s → replay s (labels between) ≡ Some t → (t.processes p ≡ s.processes p) × (server_value p t ≡ server_value p s)
