-- Which machines a set has.
use Rattle.std.specs.Prelude.{◌≡◌, ◌<◌, ◌≤◌, ℕ, Bool, true, false, ◌==◌, List, filter}
use Rattle.std.specs.List.{range_with_len}
use Rattle.std.specs.Int.{bit_at}
use Rattle.dm_records.specs.declared.machines.Machines.{Machines}

unfoldable pub has : Machines → ℕ → Bool
has machines n = bit_at machines.bits n == 1

-- those of all machines that there may be, in order, of which this is so
unfoldable pub machines_with : (ℕ → Bool) → List ℕ
machines_with f = filter f (range_with_len 0 16)

-- from machine m on, machine k is the first of them
pub record IsFirstFrom (machines : Machines) (m k : ℕ) : Type 0 where
  pub from : m ≤ k
  pub within : k < 16
  pub there : has machines k ≡ true
  pub before : (n : ℕ) → m ≤ n → n < k → has machines n ≡ false
