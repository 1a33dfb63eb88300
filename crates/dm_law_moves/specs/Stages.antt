-- The lines of a process's migrations, in order: steps 1 to 8; or steps 1 and 2, and then `lacks` and `stays`; or steps 1 to 3 or 1 to 4,
-- and then `called` and `stays`; one migration after another.
use Rattle.std.specs.Prelude.{◌≡◌, ℕ, ◌+◌, ◌==◌, ◌&&◌, ◌||◌, Bool, true, false, if◌then◌else◌, List, [], ◌∷◌}
use Rattle.std.specs.declared.option.Option.{Option}
use Rattle.std.specs.declared.option.Option.TheVariants.{None, Some}
use Rattle.dm_link.specs.declared.Pid.{Pid}
use Rattle.dm_link.specs.Names.{pid_eq}
use Rattle.dm_onekernel.specs.declared.boot.Boot.{Boot}
use Rattle.dm_onekernel.specs.Boot.{IsValid}
use Rattle.dm_schedule.specs.declared.Step.{Step}
use Rattle.dm_line.specs.declared.line.Line.{Line}
use Rattle.dm_law_rule.specs.Acts.{Act, act_of}
use Rattle.dm_law_rule.specs.Acts as act
use Rattle.dm_line.specs.declared.line.Stage.{Stage}
use Rattle.dm_line.specs.declared.line.Stage.TheVariants as stage
use Rattle.dm_law_rule.specs.Point.{Point, first_point}
use Rattle.dm_law_always.specs.Order.{LeadsBy}

-- what a line says of a migration: a step, that the process can't come, that it is called off, or that it stays
pub data Mark : Type 0 where
  Reached : (n : ℕ) → Mark
  Lacking : Mark
  Calling : Mark
  Staying : Mark

abbrev pub step_number : Stage → ℕ
step_number stage.Frozen = 1
step_number stage.Asked = 2
step_number stage.Accepted = 3
step_number stage.StateTaken = 4
step_number stage.MemoryTaken = 5
step_number stage.Left = 7
step_number stage.Restarted = 8

abbrev pub mark_for : Pid → Pid → Mark → List Mark → List Mark
mark_for p q m ms = if pid_eq p q then m ∷ ms else ms

abbrev pub mark_in : Pid → Act → List Mark → List Mark
mark_in p (act.Migrates s q) ms = mark_for p q (Reached (step_number s)) ms
mark_in p (act.AllGoOn q) ms = mark_for p q (Reached 6) ms
mark_in p (act.AllGoBack q) ms = mark_for p q Calling ms
mark_in p (act.Lacks q) ms = mark_for p q Lacking ms
mark_in p (act.Stays q) ms = mark_for p q Staying ms
mark_in p x ms = ms

abbrev pub with_mark : Pid → Line → List Mark → List Mark
with_mark p l ms = mark_in p (act_of l) ms

abbrev pub marks : Pid → List Line → List Mark
marks p [] = []
marks p (l ∷ ls) = with_mark p l (marks p ls)

-- what may follow: with no migration under way step 1; a step follows the one before it; what lacks room comes after step 2, what
-- is called off after step 3 or 4, and then the process stays
abbrev pub follows : Option Mark → Mark → Bool
follows None (Reached k) = k == 1
follows None Lacking = false
follows None Calling = false
follows None Staying = false
follows (Some (Reached n)) (Reached k) = k == n + 1
follows (Some (Reached n)) Lacking = n == 2
follows (Some (Reached n)) Calling = (n == 3) || (n == 4)
follows (Some (Reached n)) Staying = false
follows (Some Lacking) (Reached k) = false
follows (Some Lacking) Lacking = false
follows (Some Lacking) Calling = false
follows (Some Lacking) Staying = true
follows (Some Calling) (Reached k) = false
follows (Some Calling) Lacking = false
follows (Some Calling) Calling = false
follows (Some Calling) Staying = true
follows (Some Staying) m = false

-- step 8 ends a migration, and so does staying
abbrev pub left_open : Mark → Option Mark
left_open (Reached n) = if n == 8 then None else Some (Reached n)
left_open Lacking = Some Lacking
left_open Calling = Some Calling
left_open Staying = None

abbrev pub in_order : Option Mark → List Mark → Bool
in_order last [] = true
in_order last (m ∷ ms) = follows last m && in_order (left_open m) ms

-- wherever the rule leads
abbrev pub StepsInOrder : Type 0
StepsInOrder = (b : Boot) (es : List Step) (ls : List Line) (pt : Point) (p : Pid) → IsValid b → LeadsBy b (first_point b) es ls pt → in_order None (marks p ls) ≡ true
