-- The options of a command as the parse takes them, one after another.
use Rattle.std.specs.Prelude.{ℕ, ◌≡◌, false, List, [], ◌∷◌, map}
use Rattle.clap.specs.Walk.{Rule, rule_of}
use Rattle.clap.specs.Simple.{App, Shape, app_of, new_shape, with_subcommand}
use Rattle.clap.specs.declared.builder.arg.Arg.{Arg as TheArg}
use Rattle.clap.specs.declared.builder.command.Command.{Command as TheCommand}
use Rattle.clap.specs.declared.builder.command.Command.TheViews.{out-Command as fields_of}
use Rattle.dm_words.specs.declared.argument.CommandForm.{CommandForm}
use Rattle.dm_words.specs.declared.argument.CommandOption.{CommandOption}
use Rattle.dm_words.specs.declared.argument.CommandOption.TheVariants.{Needed, Free, Many, Flag}
use Rattle.dm_words.specs.DrillWords.{flag_option}
use Rattle.dm_words.specs.ExploreWords.{many_option}
use Rattle.dm_words.specs.FileWords.{file_option, free_option}

-- an option of its command alone
pub record IsOption (rule : Rule) (o : TheArg) : Type 0 where
  pub is : rule_of o ≡ rule
  pub local : o.global ≡ false

-- a command with options of its own alone
pub record HasOptions (a : App) (c : TheCommand) : Type 0 where
  pub is : app_of c ≡ a
  pub local : (fields_of c).has_globals ≡ false

-- how the parse takes an option
abbrev pub option_rule : CommandOption → Rule
option_rule (Needed name) = file_option name.now
option_rule (Free name) = free_option name.now
option_rule (Many name) = many_option name.now
option_rule (Flag name) = flag_option name.now

-- a command of this name that takes these options
abbrev pub with_options : List ℕ → List CommandOption → Shape
with_options name options = record (new_shape name) { rules = map option_rule options }

-- the shape of a command
abbrev pub form_shape : CommandForm → Shape
form_shape form = with_options form.name.now form.options.now

-- a command line with commands of these shapes behind its others
abbrev pub with_shapes : App → List Shape → App
with_shapes a [] = a
with_shapes a (s ∷ ss) = with_shapes (with_subcommand a s) ss
