-- The words of the command `drill`.
use Rattle.std.specs.Prelude.{ℕ, ◌≤◌, Bool, true, false, nat_le, not, ◌&&◌, if◌then◌else◌, List, [], ◌∷◌, codes, is_some, option_and_then}
use Rattle.std.specs.Option.{option_map_or}
use Rattle.std.specs.Str.{bytes_eq}
use Rattle.std.specs.declared.option.Option.{Option}
use Rattle.std.specs.declared.option.Option.TheVariants.{None, Some}
use Rattle.clap.specs.Walk.{Row, Rule, first_of}
use Rattle.clap.specs.Simple.{Shape, new_rule, new_shape}
use Rattle.clap.specs.declared.builder.action.ArgAction.TheVariants.{SetTrue}
use Rattle.dm_text.specs.Reading.{read_u32, read_u8}
use Rattle.dm_draw.specs.declared.drill.Drill.{Drill as TheDrill}
use Rattle.dm_draw.specs.declared.drill.OwnDrill.{OwnDrill as TheOwnDrill}
use Rattle.dm_draw.specs.declared.drill.Shows.{Shows}
use Rattle.dm_draw.specs.declared.drill.Shows.TheVariants as shows
use Rattle.dm_words.specs.FileWords.{free_option}
use Rattle.dm_words.specs.Request.{Request, Drill, OwnDrill}

-- the option `--name NUMBER`, which has to be there
abbrev pub number_option : List ℕ → Rule
number_option name = record (new_rule name) { long = Some name; required = true }

-- the option `--name`, which may be there
abbrev pub flag_option : List ℕ → Rule
flag_option name = record (new_rule name) { long = Some name; action = Some SetTrue }

-- `drill --seed N --lines L (--machines M [--trace] | --boot FILE [--trace | --schedule])`
abbrev pub drill_command : Shape
drill_command = record (new_shape (codes "drill")) {
  rules = number_option (codes "seed") ∷ number_option (codes "lines") ∷ free_option (codes "machines") ∷ free_option (codes "boot") ∷ flag_option (codes "trace") ∷ flag_option (codes "schedule") ∷ [];
}

-- a number, if it is one of these
abbrev pub if_within : ℕ → ℕ → ℕ → Option ℕ
if_within least most n = if nat_le least n && nat_le n most then Some n else None

-- the numbers that a word says, in decimal digits without a sign or a 0 in front
abbrev pub seed_in : List ℕ → Option ℕ
seed_in word = read_u32 word

abbrev pub machines_in : List ℕ → Option ℕ
machines_in word = option_and_then (if_within 2 16) (read_u8 word)

abbrev pub lines_in : List ℕ → Option ℕ
lines_in word = option_and_then (if_within 1 10000) (read_u32 word)

-- and the options of these names
abbrev pub seed_of : List Row → Option ℕ
seed_of rows = option_and_then seed_in (first_of (codes "seed") rows)

abbrev pub machines_asked : List Row → Option ℕ
machines_asked rows = option_and_then machines_in (first_of (codes "machines") rows)

abbrev pub lines_asked : List Row → Option ℕ
lines_asked rows = option_and_then lines_in (first_of (codes "lines") rows)

-- whether a flag is there
abbrev pub is_set : List ℕ → Bool
is_set word = bytes_eq word (codes "true")

abbrev pub flag_of : List ℕ → List Row → Bool
flag_of name rows = option_map_or is_set (first_of name rows) false

abbrev pub trace_of : List Row → Bool
trace_of rows = flag_of (codes "trace") rows

abbrev pub schedule_of : List Row → Bool
schedule_of rows = flag_of (codes "schedule") rows

-- what is drawn then
abbrev pub drawn_by : Bool → Option ℕ → Option ℕ → Option ℕ → Option Request
drawn_by trace (Some seed) (Some machines) (Some lines) = Some (Drill (record { seed = seed; machines = machines; lines = lines; trace = trace }))
drawn_by trace (Some seed) (Some machines) None = None
drawn_by trace (Some seed) None lines = None
drawn_by trace None machines lines = None

-- a system that is drawn is run
abbrev pub run_by : Bool → Bool → Option ℕ → Option ℕ → Option ℕ → Option Request
run_by true trace seed machines lines = None
run_by false trace seed machines lines = drawn_by trace seed machines lines

-- what is written of a drill of a boot file's system, by the two flags, of which one may be there
abbrev pub shows_by : Bool → Bool → Option Shows
shows_by false false = Some shows.Summary
shows_by true false = Some shows.Groups
shows_by false true = Some shows.Directives
shows_by true true = None

-- what is drawn for it
abbrev pub own_by : List ℕ → Option Shows → Option ℕ → Option ℕ → Option Request
own_by boot (Some shown) (Some seed) (Some lines) = Some (OwnDrill boot (record { seed = seed; lines = lines; shows = shown }))
own_by boot (Some shown) (Some seed) None = None
own_by boot (Some shown) None lines = None
own_by boot None seed lines = None

-- with a boot file, with a number of machines, and with neither or both
abbrev pub drill_by : Option (List ℕ) → Option (List ℕ) → List Row → Option Request
drill_by None machines rows = run_by (schedule_of rows) (trace_of rows) (seed_of rows) (machines_asked rows) (lines_asked rows)
drill_by (Some boot) None rows = own_by boot (shows_by (trace_of rows) (schedule_of rows)) (seed_of rows) (lines_asked rows)
drill_by (Some boot) (Some machines) rows = None

-- what its matches ask for
abbrev pub drill_request : List Row → Option Request
drill_request rows = drill_by (first_of (codes "boot") rows) (first_of (codes "machines") rows) rows

-- its system is drawn for a number of machines in its range, or is that of a boot file; only for this one directives are written, and
-- then not its groups too
abbrev pub has_system : Option (List ℕ) → Option (List ℕ) → List Row → Bool
has_system None machines rows = is_some (machines_asked rows) && not (schedule_of rows)
has_system (Some boot) None rows = not (trace_of rows && schedule_of rows)
has_system (Some boot) (Some machines) rows = false

-- and the two numbers are there, and in their ranges
abbrev pub takes_drill : List Row → Bool
takes_drill rows = is_some (seed_of rows) && (is_some (lines_asked rows) && has_system (first_of (codes "boot") rows) (first_of (codes "machines") rows) rows)

-- the ranges of its numbers
pub record IsWithin (d : TheDrill) : Type 0 where
  pub least : 2 ≤ d.machines
  pub most : d.machines ≤ 16
  pub few : d.lines ≤ 10000

abbrev pub OwnIsWithin : TheOwnDrill → Type 0
OwnIsWithin d = d.lines ≤ 10000
