-- What the marks of a process say of its pieces: a machine accepted it, and then all of it was taken, or the migration was called off,
-- or pieces of it are under way still.
use Rattle.dm_law_moves.proofs.Names.{◌≡◌, ℕ, ◌+◌, ◌==◌, Bool, true, false, List, [], ◌∷◌, refl, arith, nat_tests, if◌then◌else◌, Option, None, Some, left_true, right_true, Pid, pid_eq, Line, Stage, Mark, Reached, Lacking, in_order}
use Rattle.dm_law_moves.proofs.Names.{left_open, with_mark, marks, count, Calling, follows, calls}
use Rattle.dm_law_moves.proofs.Ends.Parts.{one_if}
use Rattle.dm_law_moves.proofs.Stages.Spares.{open_after}

-- pieces of a process are under way behind steps 3 and 4
abbrev pub weight : Option Mark → ℕ
weight (Some (Reached n)) = if n == 3 then 1 else if n == 4 then 1 else 0
weight _ = 0

abbrev gain : Mark → ℕ
gain (Reached n) = if n == 3 then 1 else 0
gain _ = 0

abbrev loss : Mark → ℕ
loss (Reached n) = if n == 5 then 1 else 0
loss Calling = 1
loss _ = 0

abbrev sum_by : (Mark → ℕ) → List Mark → ℕ
sum_by f [] = 0
sum_by f (m ∷ ms) = f m + sum_by f ms

mark_weighs : (o : Option Mark) (m : Mark) → follows o m ≡ true → weight o + gain m ≡ loss m + weight (left_open m)
mark_weighs None (Reached k) e = grind (arith, nat_tests)
mark_weighs (Some (Reached n)) (Reached k) e = grind (arith, nat_tests)
mark_weighs (Some (Reached n)) Lacking e = grind (arith, nat_tests)
mark_weighs (Some (Reached n)) Calling e = grind (arith, nat_tests)
mark_weighs o m e = grind (arith, nat_tests)

marks_weigh : (o : Option Mark) (ms : List Mark) → in_order o ms ≡ true → weight o + sum_by gain ms ≡ sum_by loss ms + weight (open_after o ms)
marks_weigh o [] e = omega arith
marks_weigh o (m ∷ ms) e =
    let first = mark_weighs o m (left_true (follows o m) (in_order (left_open m) ms) e) in
    let rest = marks_weigh (left_open m) ms (right_true (follows o m) (in_order (left_open m) ms) e) in
    omega (arith, first, rest)

-- the lines that say so
abbrev pub takes_on : Pid → Line → Bool
takes_on p (Line.Migration Stage.Accepted q) = pid_eq p q
takes_on p _ = false

abbrev pub takes_all : Pid → Line → Bool
takes_all p (Line.Migration Stage.MemoryTaken q) = pid_eq p q
takes_all p _ = false

line_gains : (p : Pid) (l : Line) (ms : List Mark) → one_if (takes_on p) l + sum_by gain ms ≡ sum_by gain (with_mark p l ms)
line_gains p l ms = grind (arith, nat_tests)

line_loses : (p : Pid) (l : Line) (ms : List Mark) → (one_if (takes_all p) l + one_if (calls p) l) + sum_by loss ms ≡ sum_by loss (with_mark p l ms)
line_loses p l ms = grind (arith, nat_tests)

lines_gain : (p : Pid) (ls : List Line) → count (takes_on p) ls ≡ sum_by gain (marks p ls)
lines_gain p [] = refl
lines_gain p (l ∷ ls) = let first = line_gains p l (marks p ls) in let rest = lines_gain p ls in omega (arith, first, rest)

lines_lose : (p : Pid) (ls : List Line) → count (takes_all p) ls + count (calls p) ls ≡ sum_by loss (marks p ls)
lines_lose p [] = refl
lines_lose p (l ∷ ls) = let first = line_loses p l (marks p ls) in let rest = lines_lose p ls in omega (arith, first, rest)

-- of each migration that was accepted
pub lines_weigh : (p : Pid) (ls : List Line) → in_order None (marks p ls) ≡ true → count (takes_on p) ls ≡ (count (takes_all p) ls + count (calls p) ls) + weight (open_after None (marks p ls))
lines_weigh p ls e =
    let sum = marks_weigh None (marks p ls) e in
    let gains = lines_gain p ls in
    let loses = lines_lose p ls in
    omega (arith, sum, gains, loses)
