-- The answer: a function of the system, the bounds and the question.
use Rattle.std.specs.Prelude.{ℕ, zero, suc, ◌+◌, ◌-◌, Bool, if◌then◌else◌, List, [], ◌∷◌}
use Rattle.dm_onekernel.specs.declared.boot.Boot.{Boot}
use Rattle.dm_schedule.specs.declared.Step.{Step}
use Rattle.dm_explore.specs.declared.answer.Answer.{Answer as TheAnswer}
use Rattle.dm_explore.specs.declared.answer.Answer.TheVariants as the
use Rattle.dm_explore.specs.Asked.{Bounds, Question}
use Rattle.dm_explore.specs.Finds.{finds}
use Rattle.dm_explore.specs.Past.{steps_of}
use Rattle.dm_explore.specs.Places.{Place, tried}

pub data Answer : Type 0 where
  -- the first of the shortest schedules in which it is found
  Found : (steps : List Step) → Answer
  -- there is none within so many directives; so many schedules were tried
  NoneWithin : (depth : ℕ) → (tried : ℕ) → Answer
  -- more than so many would be tried
  Undecided : (most : ℕ) → Answer

-- an answer of the code
abbrev pub answer_said : TheAnswer → Answer
answer_said (the.Found steps) = Found steps.items
answer_said (the.None depth tried) = NoneWithin depth tried
answer_said (the.Undecided most) = Undecided most

-- what comes of looking through some places in order, where so many more may be tried
pub data Looked : Type 0 where
  FoundAt : (place : Place) → Looked
  -- how many more may be tried then
  Nothing : (left : ℕ) → Looked
  Enough : Looked

abbrev pub look_through : (Place → Bool) → ℕ → List Place → Looked
look_through test left [] = Nothing left
look_through test zero (p ∷ ps) = Enough
look_through test (suc left) (p ∷ ps) = if test p then FoundAt p else look_through test left ps

-- where nothing is found among some, the next ones are looked through
abbrev pub and_then : Bounds → Looked → (ℕ → Answer) → Answer
and_then q (FoundAt p) next = Found (steps_of p.done)
and_then q (Nothing left) next = next left
and_then q Enough next = Undecided q.most

-- schedules of n directives, then of one more, and so on, so many lengths; so many more may be tried
abbrev pub by_length : Boot → Bounds → Question → ℕ → ℕ → ℕ → Answer
by_length b q x zero n left = NoneWithin q.depth (q.most - left)
by_length b q x (suc lengths) n left = and_then q (look_through (finds b x) left (tried b q n)) (λ rest. by_length b q x lengths (n + 1) rest)

abbrev pub answer : Boot → Bounds → Question → Answer
answer b q x = by_length b q x q.depth 1 q.most
