-- What kernels tell each other of migrations stays in the order in which it was put.
use Rattle.std.specs.Prelude.{◌≡◌, ◌≢◌, ℕ, ◌+◌, Bool, true, false, ◌&&◌, nat_le, if◌then◌else◌, List, [], ◌∷◌, ◌++◌}
use Rattle.std.specs.Option.{option_map_or}
use Rattle.dm_link.specs.Names.{pid_of, pid_eq}
use Rattle.dm_message.specs.declared.MsgId.{MsgId}
use Rattle.dm_law_rule.specs.View.{View}
use Rattle.dm_law_rule.specs.Spots.{untaken}
use Rattle.dm_law_rule.specs.Phases.{is_between}

-- those of which g is true have ascending numbers, from so much on
abbrev pub ordered : (MsgId → Bool) → ℕ → List MsgId → Bool
ordered g from [] = true
ordered g from (i ∷ is) = if g i then nat_le from i.n && ordered g (i.n + 1) is else ordered g from is

-- a machine's kernel tells this of a migration
abbrev pub is_between_from : View → ℕ → MsgId → Bool
is_between_from v a i = pid_eq i.from (pid_of a 0) && option_map_or (λ t. is_between t.kind) (v.told i) false

-- of what one kernel tells another of migrations, what stands first was put first: first the other's inbox, then what it hasn't
-- taken yet
abbrev pub KernelsInOrder : View → Type 0
KernelsInOrder v = (a c : ℕ) → a ≢ c → ordered (is_between_from v a) 0 (v.inbox c ++ untaken (v.pair a c)) ≡ true
