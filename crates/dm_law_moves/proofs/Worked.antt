-- Lines of migrations in and out of order, and what ends a directive, computed.
use Rattle.dm_law_moves.proofs.Names.{◌≡◌, true, false, List, [], ◌∷◌, refl, Option, None, Some, Pid, pid_of, MsgId, MessageKind, Step, Stage, id_of, Line, Told, Target, marks, in_order, count, asks, ends}

abbrev p : Pid
p = pid_of 0 3

abbrev q : Pid
q = pid_of 1 3

-- what comes before step 3, where the other machine has room
abbrev asked : List Line → List Line
asked ls = Line.Head (Step.Turn 0) ∷ Line.Migration Stage.Frozen p ∷ Line.Migration Stage.Asked p ∷ ls

abbrev moved : List Line → List Line
moved ls =
    asked
    (Line.Migration Stage.Accepted p ∷ Line.Migration Stage.Frozen q ∷ Line.Migration Stage.StateTaken p ∷ Line.Migration Stage.MemoryTaken p ∷ Line.SentOn p 2 ∷ Line.Migration Stage.Left p ∷ Line.Migration Stage.Restarted p ∷ ls)

-- a move, a refusal and half a move, one after another; another process's steps between them are none of its own
all_right : in_order None (marks p (moved (asked (Line.Lacks p 0 4 ∷ Line.Stays p ∷ asked [])))) ≡ true
all_right = refl

others : in_order None (marks q (moved [])) ≡ true
others = refl

-- a step left out, one that comes twice, and what is out of place
left_out : in_order None (marks p (asked (Line.Migration Stage.StateTaken p ∷ []))) ≡ false
left_out = refl

twice : in_order None (marks p (asked (Line.Migration Stage.Asked p ∷ []))) ≡ false
twice = refl

stays_at_once : in_order None (marks p (asked (Line.Stays p ∷ []))) ≡ false
stays_at_once = refl

lacks_late : in_order None (marks p (asked (Line.Migration Stage.Accepted p ∷ Line.Lacks p 0 4 ∷ []))) ≡ false
lacks_late = refl

goes_on_after_stays : in_order None (marks p (asked (Line.Lacks p 0 4 ∷ Line.Stays p ∷ Line.Migration Stage.Accepted p ∷ []))) ≡ false
goes_on_after_stays = refl

moves_without_asking : in_order None (marks p (moved (Line.Migration Stage.Accepted p ∷ []))) ≡ false
moves_without_asking = refl

-- three directives to move a process: one that it follows, one to where it is, and one that no line ended yet
abbrev request : MsgId
request = id_of (pid_of 0 0) 7

abbrev told : MsgId → Option Told
told i = Some (record { kind = MessageKind.Migrate; receiver = p; about = Target 1 })

abbrev lines : List Line
lines = Line.Head (Step.Migrate p 1) ∷ moved (Line.Head (Step.Migrate q 0) ∷ Line.NoChild q ∷ Line.Head (Step.Migrate p 1) ∷ Line.Here request ∷ Line.Head (Step.Migrate p 0) ∷ [])

asked_three : count (asks p) lines ≡ 3
asked_three = refl

ended_two : count (ends told p) lines ≡ 2
ended_two = refl

asked_one : count (asks q) lines ≡ 1
asked_one = refl

ended_one : count (ends told q) lines ≡ 1
ended_one = refl
