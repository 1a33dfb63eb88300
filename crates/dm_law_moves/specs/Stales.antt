-- As many pieces of a process come too late as migrations of it were called off.
use Rattle.std.specs.Prelude.{◌≡◌, ◌≤◌, Bool, false, List}
use Rattle.std.specs.Option.{option_map_or}
use Rattle.std.specs.declared.option.Option.{Option}
use Rattle.dm_link.specs.declared.Pid.{Pid}
use Rattle.dm_link.specs.Names.{pid_eq}
use Rattle.dm_message.specs.declared.MsgId.{MsgId}
use Rattle.dm_onekernel.specs.declared.boot.Boot.{Boot}
use Rattle.dm_onekernel.specs.Boot.{IsValid}
use Rattle.dm_schedule.specs.declared.Step.{Step}
use Rattle.dm_line.specs.declared.line.Line.{Line}
use Rattle.dm_line.specs.declared.line.Line.TheVariants as line
use Rattle.dm_law_rule.specs.Acts.{Act, act_of}
use Rattle.dm_law_rule.specs.Acts as act
use Rattle.dm_law_rule.specs.Point.{Point, first_point}
use Rattle.dm_law_rule.specs.Quiet.{IsQuiet}
use Rattle.dm_law_rule.specs.View.{Told, About}
use Rattle.dm_law_rule.specs.View as view
use Rattle.dm_law_always.specs.Order.{LeadsBy}
use Rattle.dm_law_moves.specs.Ends.{count}

-- a migration of this process is called off
abbrev pub calls_by : Pid → Act → Bool
calls_by p (act.AllGoBack q) = pid_eq p q
calls_by p a = false

abbrev pub calls : Pid → Line → Bool
calls p l = calls_by p (act_of l)

-- what is told of a message is about this process
abbrev pub is_about : Pid → About → Bool
is_about p (view.Of q) = pid_eq p q
is_about p view.NothingElse = false
is_about p (view.Target m) = false
is_about p (view.Place q at moves) = false

-- a piece of this process comes too late
abbrev pub stales : (MsgId → Option Told) → Pid → Line → Bool
stales told p (line.Stale id) = option_map_or (λ t. is_about p t.about) (told id) false
stales told p l = false

-- wherever the rule leads, no more pieces of a process have come too late than migrations of it were called off; and as many, where
-- nothing is on its way
pub record Stales (pt : Point) (ls : List Line) (p : Pid) : Type 0 where
  pub few : count (stales pt.view.told p) ls ≤ count (calls p) ls
  pub all : IsQuiet pt.kernel.machines pt.view → count (stales pt.view.told p) ls ≡ count (calls p) ls

abbrev pub StalesAlways : Type 0
StalesAlways = (b : Boot) (es : List Step) (ls : List Line) (pt : Point) (p : Pid) → IsValid b → LeadsBy b (first_point b) es ls pt → Stales pt ls p
