-- What is counted of migrations that are called off, computed: one as the state is asked for, and the next one as it is on its way.
use Rattle.dm_law_moves.proofs.Names.{◌≡◌, ℕ, List, [], ◌∷◌, ◌++◌, refl, Option, Some, bind, Pid, pid_of, Boot, Step, Line, Point, first_point, group_of, count, instruction, One, calls, stales}

abbrev p : Pid
p = pid_of 0 3

abbrev q : Pid
q = pid_of 1 3

abbrev two : Boot
two = record {
  numbers = 1048576;
  quantum = 16;
  format = One;
  machines = record { slots = 2; blocks = 2 } ∷ record { slots = 2; blocks = 2 } ∷ [];
  images = record { bytes = 20 ∷ 0 ∷ 0 ∷ 7 ∷ []; blocks = 1 } ∷ [];
  processes = record { pid = p; name = []; image = 0; links = [] } ∷ record { pid = q; name = []; image = 0; links = [] } ∷ [];
}

-- how many migrations of a process are called off in the groups of these directives, and how many pieces of it come too late
record Counted : Type 0 where
  called : ℕ
  late : ℕ

abbrev counted_from : Boot → Point → Pid → List Line → List Step → Option Counted
counted_from b pt r ls [] = Some (record { called = count (calls r) ls; late = count (stales pt.view.told r) ls })
counted_from b pt r ls (e ∷ es) = bind (group_of b pt e) (λ w. counted_from b w.point r (ls ++ w.lines) es)

abbrev counted : Pid → List Step → Option Counted
counted r es = counted_from two (first_point two) r [] es

-- the process moves, and the move is called off where it was accepted
abbrev called_first : List Step → List Step
called_first es = Step.Migrate p 1 ∷ Step.Turn 0 ∷ Step.Deliver 0 1 0 ∷ Step.Turn 1 ∷ Step.CallOff p 1 ∷ es

-- the source answers yet, hears that it is called off, and what it answered comes
abbrev answered_late : List Step → List Step
answered_late es = Step.Deliver 1 0 1 ∷ Step.Turn 0 ∷ Step.Deliver 1 0 2 ∷ Step.Turn 0 ∷ Step.Deliver 0 1 2 ∷ Step.Turn 1 ∷ es

-- it moves again, and that is called off where the state is on its way
abbrev called_again : List Step → List Step
called_again es = Step.Migrate p 1 ∷ Step.Turn 0 ∷ Step.Deliver 0 1 4 ∷ Step.Turn 1 ∷ Step.Deliver 1 0 5 ∷ Step.Turn 0 ∷ Step.CallOff p 1 ∷ es

-- which comes
abbrev comes_late : List Step
comes_late = Step.Deliver 0 1 6 ∷ Step.Turn 1 ∷ []

one_left_over : counted p (called_first []) ≡ Some (record { called = 1; late = 0 })
unfolding instruction
one_left_over = refl

one_too_late : counted p (called_first (answered_late [])) ≡ Some (record { called = 1; late = 1 })
unfolding instruction
one_too_late = refl

two_called : counted p (called_first (answered_late (called_again []))) ≡ Some (record { called = 2; late = 1 })
unfolding instruction
two_called = refl

two_too_late : counted p (called_first (answered_late (called_again comes_late))) ≡ Some (record { called = 2; late = 2 })
unfolding instruction
two_too_late = refl

-- none of them is another process's
none_of_another : counted q (called_first (answered_late (called_again comes_late))) ≡ Some (record { called = 0; late = 0 })
unfolding instruction
none_of_another = refl
