-- The words of the command line, as `clap` takes them, and what they ask for.
use Rattle.std.specs.Prelude.{◌≡◌, ⊤, ℕ, Bool, true, List, [], ◌∷◌, codes, map, option_and_then, option_map, if◌then◌else◌}
use Rattle.std.specs.Str.{bytes_eq}
use Rattle.std.specs.declared.option.Option.{Option}
use Rattle.std.specs.declared.option.Option.TheVariants.{None, Some}
use Rattle.clap.specs.Walk.{Row, is_empty}
use Rattle.clap.specs.Simple.{App, Shape, app_of, new_shape, subcommand_of, with_subcommand}
use Rattle.clap.specs.Faults.{fault_of}
use Rattle.clap.specs.Built.{AddsSubcommand}
use Rattle.clap.specs.declared.builder.command.Command.{Command as TheCommand}
use Rattle.dm_words.specs.declared.form.Form.{Form}
use Rattle.dm_words.specs.declared.form.Form.TheVariants as form
use Rattle.dm_words.specs.declared.words.Request.{Request as TheRequest}
use Rattle.dm_words.specs.declared.words.Request.TheVariants as the
use Rattle.dm_words.specs.Request.{Request, Chart, Check, Count, Drill, Explain, Explore, Judge, OwnDrill, Run, Look, CheckLabels}
use Rattle.dm_words.specs.ChartWords.{chart_command, chart_request, takes_chart}
use Rattle.dm_words.specs.CheckWords.{check_command, check_request, has_just_one}
use Rattle.dm_words.specs.CountWords.{count_command, count_request}
use Rattle.dm_words.specs.DrillWords.{IsWithin, OwnIsWithin, drill_command, drill_request, takes_drill}
use Rattle.dm_words.specs.ExplainWords.{explain_command, explain_request, takes_explain}
use Rattle.dm_words.specs.ExploreWords.{ExploreIsWithin, explore_command, explore_request, takes_explore}
use Rattle.dm_words.specs.LookWords.{has_groups, look_command, look_request}
use Rattle.dm_words.specs.RunWords.{run_command, run_request}
use Rattle.dm_words.specs.Usage.{forms}

-- a command: its name and its options, which of their values it takes, and what its matches ask for
pub record Command : Type 0 where
  pub shape : Shape
  pub takes : List Row → Bool
  pub request : List Row → Option Request

-- any values
abbrev pub any : List Row → Bool
any rows = true

-- that of a form, a row each
abbrev pub command_of : Form → Command
command_of form.Run = record { shape = run_command; takes = any; request = run_request }
command_of form.Check = record { shape = check_command; takes = has_just_one; request = check_request }
command_of form.Chart = record { shape = chart_command; takes = takes_chart; request = chart_request }
command_of form.Explain = record { shape = explain_command; takes = takes_explain; request = explain_request }
command_of form.Count = record { shape = count_command; takes = any; request = count_request }
command_of form.Look = record { shape = look_command; takes = has_groups; request = look_request }
command_of form.Explore = record { shape = explore_command; takes = takes_explore; request = explore_request }
command_of form.Drill = record { shape = drill_command; takes = takes_drill; request = drill_request }

-- the commands of the program
abbrev pub commands : List Command
commands = map command_of forms

abbrev pub with_commands : App → List Command → App
with_commands a [] = a
with_commands a (c ∷ cs) = with_commands (with_subcommand a c.shape) cs

-- `demosmp`, before its commands, with no other word in place of one
abbrev pub bare : App
bare = record { top = record (new_shape (codes "demosmp")) { disable_help_subcommand = true; subcommand_required = true }; subs = [] }

-- `demosmp COMMAND ..`
abbrev pub demosmp : App
demosmp = with_commands bare commands

-- whatever command line takes the command in has this shape behind its others
abbrev pub HasShape : Shape → TheCommand → Type 0
HasShape shape c = (old new : TheCommand) → AddsSubcommand old c new → app_of new ≡ with_subcommand (app_of old) shape

-- what the matches of the command of this name ask for
abbrev pub request_in : List Command → List ℕ → List Row → Option Request
request_in [] name rows = None
request_in (c ∷ cs) name rows = if bytes_eq name c.shape.name then c.request rows else request_in cs name rows

-- the same of a name and its matches
abbrev pub request_at : List ℕ × List Row → Option Request
request_at found = request_in commands found.0 found.1

-- whether the command of this name takes the values of its options
abbrev pub takes_in : List Command → List ℕ → List Row → Bool
takes_in [] name rows = true
takes_in (c ∷ cs) name rows = if bytes_eq name c.shape.name then c.takes rows else takes_in cs name rows

abbrev pub AreTaken : Option (List ℕ × List Row) → Type 0
AreTaken None = ⊤
AreTaken (Some found) = takes_in commands found.0 found.1 ≡ true

-- the command takes the words: no step of their parse fails, and the numbers that they say are in their ranges
pub record IsTaken (words : List (List ℕ)) : Type 0 where
  pub passes : fault_of demosmp words ≡ []
  pub values : AreTaken (subcommand_of demosmp words)

-- what the words ask for, where the command takes them
abbrev pub request_of : List (List ℕ) → Option Request
request_of words = if is_empty (fault_of demosmp words) then option_and_then request_at (subcommand_of demosmp words) else None

-- a request of the code, by its names alone
abbrev pub request_said : TheRequest → Request
request_said (the.Run boot schedule) = Run boot.now schedule.now
request_said (the.Check boot trace) = Check boot.now trace.now
request_said (the.CheckLabels boot labels) = CheckLabels boot.now labels.now
request_said (the.Chart boot schedule first last) = Chart boot.now schedule.now first last
request_said (the.Explain boot schedule) = Explain boot.now (option_map (λ s. s.now) schedule)
request_said (the.Judge boot trace) = Judge boot.now trace.now
request_said (the.Count boot schedule) = Count boot.now schedule.now
request_said (the.Look boot schedule groups names) = Look boot.now schedule.now groups names
request_said (the.Explore boot line exploration) = Explore boot.now (option_map (λ s. s.now) line) exploration
request_said (the.Drill drill) = Drill drill
request_said (the.OwnDrill boot drill) = OwnDrill boot.now drill

-- the numbers of a drill are in their ranges
abbrev pub IsInRange : TheRequest → Type 0
IsInRange (the.Run boot schedule) = ⊤
IsInRange (the.Check boot trace) = ⊤
IsInRange (the.CheckLabels boot labels) = ⊤
IsInRange (the.Chart boot schedule first last) = ⊤
IsInRange (the.Explain boot schedule) = ⊤
IsInRange (the.Judge boot trace) = ⊤
IsInRange (the.Count boot schedule) = ⊤
IsInRange (the.Look boot schedule groups names) = ⊤
IsInRange (the.Explore boot line exploration) = ExploreIsWithin exploration
IsInRange (the.Drill drill) = IsWithin drill
IsInRange (the.OwnDrill boot drill) = OwnIsWithin drill
