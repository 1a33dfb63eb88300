-- A directive to move finds the manager away exactly where by the printed lines the manager's own migration is open.
use Rattle.std.specs.Prelude.{◌≡◌, ℕ, Bool, true, false, List, [], ◌∷◌}
use Rattle.std.specs.declared.option.Option.TheVariants.{Some}
use Rattle.dm_link.specs.declared.Pid.{Pid}
use Rattle.dm_onekernel.specs.declared.boot.Boot.{Boot}
use Rattle.dm_onekernel.specs.Boot.{IsValid, manager}
use Rattle.dm_schedule.specs.declared.Step.{Step}
use Rattle.dm_schedule.specs.declared.Step.TheVariants as step
use Rattle.dm_line.specs.declared.line.Line.{Line}
use Rattle.dm_line.specs.declared.line.Line.TheVariants as line
use Rattle.dm_law_rule.specs.Parts.{Spelled}
use Rattle.dm_law_rule.specs.Point.{Point, first_point}
use Rattle.dm_law_rule.specs.Rule.{group_of}
use Rattle.dm_law_always.specs.Order.{LeadsBy}
use Rattle.dm_law_moves.specs.Ends.{count, is_away_line}
use Rattle.dm_law_moves.specs.Open.{is_open}

-- wherever the rule leads: as long as by the lines so far a migration of the manager is open, the group of a directive to move is its
-- head and `away`; and where none is, no line of it is `away`
abbrev pub AwayWhileOpen : Type 0
AwayWhileOpen =
    (b : Boot) (es : List Step) (ls : List Line) (pt : Point) (p : Pid) (m : ℕ) (w : Spelled) → IsValid b → LeadsBy b (first_point b) es ls pt → group_of b pt (step.Migrate p m) ≡ Some w
    → (is_open manager ls ≡ true → w.lines ≡ line.Head (step.Migrate p m) ∷ line.Away ∷ []) × (is_open manager ls ≡ false → count is_away_line w.lines ≡ 0)
