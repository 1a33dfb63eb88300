-- Where a migration is open by some lines, and which steps are another's, computed.
use Rattle.dm_law_moves.proofs.Names.{◌≡◌, true, false, List, [], ◌∷◌, refl, Pid, pid_of, MsgId, PlainMessage, Label, Step, Stage, OneKernel, Some, Line, is_open, IsAnothers}

abbrev p : Pid
p = pid_of 0 3

abbrev q : Pid
q = pid_of 1 3

abbrev begun : List Line → List Line
begun ls = Line.Head (Step.Turn 0) ∷ Line.Migration Stage.Frozen p ∷ ls

abbrev arrived : List Line → List Line
arrived ls =
    begun
    (Line.Migration Stage.Asked p ∷ Line.Migration Stage.Accepted p ∷ Line.Migration Stage.StateTaken p ∷ Line.Migration Stage.MemoryTaken p ∷ Line.SentOn p 2 ∷ Line.Migration Stage.Left p ∷ ls)

-- not before step 1, but from its line on, and until step 8 or `stays`
before : is_open p (Line.Head (Step.Turn 0) ∷ []) ≡ false
before = refl

first : is_open p (begun []) ≡ true
first = refl

lacks : is_open p (begun (Line.Migration Stage.Asked p ∷ Line.Lacks p 0 4 ∷ [])) ≡ true
lacks = refl

stays : is_open p (begun (Line.Migration Stage.Asked p ∷ Line.Lacks p 0 4 ∷ Line.Stays p ∷ [])) ≡ false
stays = refl

last : is_open p (arrived []) ≡ true
last = refl

over : is_open p (arrived (Line.Migration Stage.Restarted p ∷ [])) ≡ false
over = refl

again : is_open p (arrived (Line.Migration Stage.Restarted p ∷ begun [])) ≡ true
again = refl

-- another process's migration opens and ends none of its own
other : is_open q (arrived []) ≡ false
other = refl

still : is_open p (begun (Line.Migration Stage.Restarted q ∷ [])) ≡ true
still = refl

-- its own steps are not another's, and neither is the drop of a message for it
its_own : (s : OneKernel) → IsAnothers s p (Label.Ran p 3) → ⊥
its_own s h = h refl

for_it : (s : OneKernel) (id : MsgId) (m : PlainMessage) → s.bag id ≡ Some m → m.to ≡ p → IsAnothers s p (Label.Dropped id) → ⊥
for_it s id m there to h = h m there to
