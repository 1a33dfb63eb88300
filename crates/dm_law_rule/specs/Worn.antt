-- When a run can't go on: a message would be routed between two machines that count as many as they may.
use Rattle.std.specs.Prelude.{◌≡◌, ℕ, Bool, nat_le, if◌then◌else◌, List, [], ◌∷◌, length}
use Rattle.std.specs.declared.option.Option.{Option}
use Rattle.std.specs.declared.option.Option.TheVariants.{None, Some}
use Rattle.dm_onekernel.specs.declared.boot.Boot.{Boot}
use Rattle.dm_schedule.specs.declared.Step.{Step}
use Rattle.dm_line.specs.declared.line.Line.{Line}
use Rattle.dm_law_rule.specs.Acts.{Act, act_of}
use Rattle.dm_law_rule.specs.Acts as act
use Rattle.dm_law_rule.specs.View.{View, view_after}
use Rattle.dm_law_rule.specs.Point.{Point}
use Rattle.dm_law_rule.specs.Parts.{Spelled}
use Rattle.dm_law_rule.specs.Rule.{group_of}
use Rattle.dm_line.specs.Todo.{Two, or}

abbrev pub is_full : ℕ → View → ℕ → ℕ → Bool
is_full numbers v a b = nat_le numbers (length (v.pair a b).ids)

-- the pair of a put, if it counts as many messages as it may
abbrev pub full_route : ℕ → View → Act → Option Two
full_route numbers v (act.Routes a b id k q) = if is_full numbers v a b then Some (record { from = a; to = b }) else None
full_route numbers v x = None

-- the first put among these lines whose pair counts as many messages as it may before it
abbrev pub worn_in : ℕ → View → List Line → Option Two
worn_in numbers v [] = None
worn_in numbers v (l ∷ ls) = or (full_route numbers v (act_of l)) (worn_in numbers (view_after v l) ls)

-- the group of this directive would route a message between these two machines, which count as many as they may, and none
-- before it
pub record IsWorn (b : Boot) (pt : Point) (e : Step) (from to : ℕ) : Type 0 where
  pub group : Spelled
  pub due : group_of b pt e ≡ Some group
  pub first : worn_in b.numbers pt.view group.lines ≡ Some (record { from = from; to = to })
