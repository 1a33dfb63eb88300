-- Tests, sums and lists over the first machines.
use Rattle.std.specs.Prelude.{ℕ, zero, suc, ◌+◌, Bool, true, ◌&&◌, List, [], ◌++◌}

-- whether each of the first n passes a test
abbrev pub all_below : ℕ → (ℕ → Bool) → Bool
all_below zero test = true
all_below (suc n) test = all_below n test && test n

-- the sum of a number of each of the first n
abbrev pub sum_below : (ℕ → ℕ) → ℕ → ℕ
sum_below f zero = 0
sum_below f (suc n) = sum_below f n + f n

-- the lists of each of the first n, one behind the other
abbrev pub joined_below : {X : Type 0} → (ℕ → List X) → ℕ → List X
joined_below f zero = []
joined_below f (suc n) = joined_below f n ++ f n
