-- Numbers drawn one after another.
use Rattle.std.specs.Prelude.{ℕ, ◌+◌, ◌*◌, ◌/◌, ◌%◌, ◌^◌}

-- the state of the generator behind this one
unfoldable pub stepped : ℕ → ℕ
stepped x = (6364136223846793005 * x + 1442695040888963407) % 2 ^ 64

-- the number below n that is drawn from a state
unfoldable pub drawn : ℕ → ℕ → ℕ
drawn n x = stepped x / 2 ^ 33 % n
