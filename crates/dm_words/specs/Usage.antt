-- What was wrong with words that ask for nothing, the form of their command, and where help is.
use Rattle.std.specs.Prelude.{ℕ, ◌+◌, ◌==◌, ◌&&◌, nat_le, nat_lt, Bool, true, false, not, if◌then◌else◌, List, [], ◌∷◌, ◌++◌, codes, length, take, drop, slice_index, is_some}
use Rattle.std.specs.List.{count_by, find, list_any, position}
use Rattle.std.specs.Str.{bytes_eq}
use Rattle.std.specs.declared.option.Option.{Option}
use Rattle.std.specs.declared.option.Option.TheVariants.{None, Some}
use Rattle.dm_text.specs.Reading.{read_u32, read_u8}
use Rattle.dm_shape.specs.Begins.{wrong_word}
use Rattle.dm_words.specs.declared.form.Form.{Form}
use Rattle.dm_words.specs.declared.form.Form.TheVariants as form
use Rattle.dm_words.specs.declared.option.OptionName.{OptionName}
use Rattle.dm_words.specs.declared.option.OptionName.TheVariants as option
use Rattle.dm_words.specs.declared.usage.Fault.{Fault}
use Rattle.dm_words.specs.declared.usage.Said.{Said}
use Rattle.dm_words.specs.declared.walk.Outcome.{Outcome}
use Rattle.dm_words.specs.declared.walk.Outcome.TheVariants as the
use Rattle.dm_words.specs.ChartWords.{group_in}
use Rattle.dm_words.specs.DrillWords.{lines_in, machines_in, seed_in}
use Rattle.dm_words.specs.ExploreWords.{depth_in, most_in}
use Rattle.dm_words.specs.Written.{is_equals, is_text, stuck_name, written_move}

-- all commands, and the word of each
abbrev pub forms : List Form
forms = form.Run ∷ form.Check ∷ form.Chart ∷ form.Explain ∷ form.Count ∷ form.Look ∷ form.Explore ∷ form.Drill ∷ []

abbrev pub form_word : Form → List ℕ
form_word form.Run = codes "run"
form_word form.Check = codes "check"
form_word form.Chart = codes "chart"
form_word form.Explain = codes "explain"
form_word form.Count = codes "count"
form_word form.Look = codes "look"
form_word form.Explore = codes "explore"
form_word form.Drill = codes "drill"

unfoldable pub form_named : List ℕ → Option Form
form_named word = find (λ f. bytes_eq word (form_word f)) forms

-- the word of an option
abbrev pub option_word : OptionName → List ℕ
option_word option.Boot = codes "--boot"
option_word option.Schedule = codes "--schedule"
option_word option.Trace = codes "--trace"
option_word option.Labels = codes "--labels"
option_word option.At = codes "--at"
option_word option.Names = codes "--names"
option_word option.From = codes "--from"
option_word option.To = codes "--to"
option_word option.Seed = codes "--seed"
option_word option.Lines = codes "--lines"
option_word option.Machines = codes "--machines"
option_word option.WithTrace = codes "--trace"
option_word option.WithSchedule = codes "--schedule"
option_word option.Depth = codes "--depth"
option_word option.Line = codes "--line"
option_word option.Stuck = codes "--stuck"
option_word option.Move = codes "--move"
option_word option.CallOff = codes "--calloff"
option_word option.Ticks = codes "--ticks"
option_word option.Repeats = codes "--repeats"
option_word option.Acks = codes "--acks"
option_word option.Most = codes "--most"

-- how its value is written where a form shows it, nothing where it has none
abbrev pub value_word : OptionName → List ℕ
value_word option.Boot = codes " FILE"
value_word option.Schedule = codes " FILE"
value_word option.Trace = codes " FILE"
value_word option.Labels = codes " FILE"
value_word option.At = codes " G"
value_word option.Names = []
value_word option.From = codes " G"
value_word option.To = codes " G"
value_word option.Seed = codes " N"
value_word option.Lines = codes " L"
value_word option.Machines = codes " M"
value_word option.WithTrace = []
value_word option.WithSchedule = []
value_word option.Depth = codes " N"
value_word option.Line = codes " TEXT"
value_word option.Stuck = codes " P"
value_word option.Move = codes " P=M"
value_word option.CallOff = codes " P=M"
value_word option.Ticks = codes " K"
value_word option.Repeats = codes " K"
value_word option.Acks = []
value_word option.Most = codes " S"

abbrev pub takes_value : OptionName → Bool
takes_value option.Boot = true
takes_value option.Schedule = true
takes_value option.Trace = true
takes_value option.Labels = true
takes_value option.At = true
takes_value option.Names = false
takes_value option.From = true
takes_value option.To = true
takes_value option.Seed = true
takes_value option.Lines = true
takes_value option.Machines = true
takes_value option.WithTrace = false
takes_value option.WithSchedule = false
takes_value option.Depth = true
takes_value option.Line = true
takes_value option.Stuck = true
takes_value option.Move = true
takes_value option.CallOff = true
takes_value option.Ticks = true
takes_value option.Repeats = true
takes_value option.Acks = false
takes_value option.Most = true

-- what its value must be
abbrev pub range_words : OptionName → List ℕ
range_words option.Boot = []
range_words option.Schedule = []
range_words option.Trace = []
range_words option.Labels = []
range_words option.At = codes ": 0 to 4294967295"
range_words option.Names = []
range_words option.From = codes ": 1 to 4294967295"
range_words option.To = codes ": 1 to 4294967295"
range_words option.Seed = codes ": 0 to 4294967295"
range_words option.Lines = codes ": 1 to 10000"
range_words option.Machines = codes ": 2 to 16"
range_words option.WithTrace = []
range_words option.WithSchedule = []
range_words option.Depth = codes ": 1 to 64"
range_words option.Line = codes ": no line of a group has this word there"
range_words option.Stuck = codes ": a process as in 0.3"
range_words option.Move = codes ": a process and a machine as in 0.3=1"
range_words option.CallOff = codes ": a process and a machine as in 0.3=1"
range_words option.Ticks = codes ": 0 to 255"
range_words option.Repeats = codes ": 0 to 255"
range_words option.Acks = []
range_words option.Most = codes ": 1 to 4294967295"

unfoldable pub can_be : OptionName → List ℕ → Bool
can_be option.Boot v = true
can_be option.Schedule v = true
can_be option.Trace v = true
can_be option.Labels v = true
can_be option.At v = is_some (read_u32 v)
can_be option.Names v = true
can_be option.From v = is_some (group_in v)
can_be option.To v = is_some (group_in v)
can_be option.Seed v = is_some (seed_in v)
can_be option.Lines v = is_some (lines_in v)
can_be option.Machines v = is_some (machines_in v)
can_be option.WithTrace v = true
can_be option.WithSchedule v = true
can_be option.Depth v = is_some (depth_in v)
can_be option.Line v = is_text v
can_be option.Stuck v = is_some (stuck_name v)
can_be option.Move v = is_some (written_move v)
can_be option.CallOff v = is_some (written_move v)
can_be option.Ticks v = is_some (read_u8 v)
can_be option.Repeats v = is_some (read_u8 v)
can_be option.Acks v = true
can_be option.Most v = is_some (most_in v)

-- the options of a command, and those that have to be there
abbrev pub options_of : Form → List OptionName
options_of form.Run = option.Boot ∷ option.Schedule ∷ []
options_of form.Check = option.Boot ∷ option.Trace ∷ option.Labels ∷ []
options_of form.Chart = option.Boot ∷ option.Schedule ∷ option.From ∷ option.To ∷ []
options_of form.Explain = option.Boot ∷ option.Schedule ∷ option.Trace ∷ []
options_of form.Count = option.Boot ∷ option.Schedule ∷ []
options_of form.Look = option.Boot ∷ option.Schedule ∷ option.At ∷ option.Names ∷ []
options_of form.Explore = option.Boot ∷ option.Depth ∷ option.Line ∷ option.Stuck ∷ option.Move ∷ option.CallOff ∷ option.Ticks ∷ option.Repeats ∷ option.Acks ∷ option.Most ∷ []
options_of form.Drill = option.Seed ∷ option.Lines ∷ option.Machines ∷ option.Boot ∷ option.WithTrace ∷ option.WithSchedule ∷ []

abbrev pub needed_of : Form → List OptionName
needed_of form.Run = option.Boot ∷ option.Schedule ∷ []
needed_of form.Check = option.Boot ∷ []
needed_of form.Chart = option.Boot ∷ option.Schedule ∷ []
needed_of form.Explain = option.Boot ∷ []
needed_of form.Count = option.Boot ∷ option.Schedule ∷ []
needed_of form.Look = option.Boot ∷ option.Schedule ∷ option.At ∷ []
needed_of form.Explore = option.Boot ∷ option.Depth ∷ []
needed_of form.Drill = option.Seed ∷ option.Lines ∷ []

-- behind what was wrong: the command's form, and where help is
abbrev pub form_lines : Form → List ℕ
form_lines form.Run = codes "\nform: demosmp run --boot FILE --schedule FILE\nhelp: ./demosmp help, docs/FORMATS.md\n"
form_lines form.Check = codes "\nform: demosmp check --boot FILE (--trace FILE | --labels FILE)\nhelp: ./demosmp help, docs/FORMATS.md\n"
form_lines form.Chart = codes "\nform: demosmp chart --boot FILE --schedule FILE [--from G] [--to G]\nhelp: ./demosmp help, docs/FORMATS.md\n"
form_lines form.Explain = codes "\nform: demosmp explain --boot FILE [--schedule FILE | --trace FILE]\nhelp: ./demosmp help, docs/FORMATS.md\n"
form_lines form.Count = codes "\nform: demosmp count --boot FILE --schedule FILE\nhelp: ./demosmp help, docs/FORMATS.md\n"
form_lines form.Look = codes "\nform: demosmp look --boot FILE --schedule FILE --at G [--names]\nhelp: ./demosmp help, docs/FORMATS.md\n"
form_lines form.Explore = codes "\nform: demosmp explore --boot FILE --depth N (--line TEXT | --stuck P..) [--move P=M].. [--calloff P=M].. [--ticks K] [--repeats K] [--acks] [--most S]\nhelp: ./demosmp help, docs/FORMATS.md\n"
form_lines form.Drill = codes "\nform: demosmp drill --seed N --lines L (--machines M [--trace] | --boot FILE [--trace | --schedule])\nhelp: ./demosmp help, docs/FORMATS.md\n"

abbrev pub command_lines : List ℕ
command_lines = codes "\ncommands: run, check, chart, explain, count, look, explore, drill\nhelp: ./demosmp help, docs/FORMATS.md\n"

-- a word is an option, and no value, where it begins with a dash and goes on
abbrev pub is_dashed : List ℕ → Bool
is_dashed w = nat_lt 1 (length w) && (slice_index w 0 == 45)

-- what a word has before its first `=`, and behind it
abbrev pub front_to : List ℕ → Option ℕ → List ℕ
front_to w None = w
front_to w (Some k) = take k w

abbrev pub front : List ℕ → List ℕ
front w = front_to w (position is_equals w)

abbrev pub behind : List ℕ → Option ℕ → Option (List ℕ)
behind w None = None
behind w (Some k) = Some (drop (k + 1) w)

abbrev pub attached : List ℕ → Option (List ℕ)
attached w = behind w (position is_equals w)

-- a word names this option
unfoldable pub names : OptionName → List ℕ → Bool
names o w = bytes_eq (front w) (option_word o)

unfoldable pub is_named : OptionName → List (List ℕ) → Bool
is_named o ws = list_any (names o) ws

-- how often it may come, and whether so many words name it already
abbrev pub may_repeat : OptionName → Bool
may_repeat option.Boot = false
may_repeat option.Schedule = false
may_repeat option.Trace = false
may_repeat option.Labels = false
may_repeat option.At = false
may_repeat option.Names = false
may_repeat option.From = false
may_repeat option.To = false
may_repeat option.Seed = false
may_repeat option.Lines = false
may_repeat option.Machines = false
may_repeat option.WithTrace = false
may_repeat option.WithSchedule = false
may_repeat option.Depth = false
may_repeat option.Line = false
may_repeat option.Stuck = true
may_repeat option.Move = true
may_repeat option.CallOff = true
may_repeat option.Ticks = false
may_repeat option.Repeats = false
may_repeat option.Acks = false
may_repeat option.Most = false

abbrev pub most_times : OptionName → ℕ
most_times o = if may_repeat o then 16 else 1

unfoldable pub is_enough : OptionName → List (List ℕ) → Bool
is_enough o ws = nat_le (most_times o) (count_by (names o) ws)

-- the option of a command that a word names
unfoldable pub option_named : Form → List ℕ → Option OptionName
option_named f w = find (λ o. names o w) (options_of f)

-- the value of an option that a word names, with these words behind it
abbrev pub value_among : Option (List ℕ) → List (List ℕ) → Option (List ℕ)
value_among (Some v) ws = Some v
value_among None [] = None
value_among None (v ∷ ws) = Some v

unfoldable pub value_here : List ℕ → List (List ℕ) → Option (List ℕ)
value_here w ws = value_among (attached w) ws

-- the value of the first word that names an option
unfoldable pub value_of : OptionName → List (List ℕ) → Option (List ℕ)
value_of o [] = None
value_of o (w ∷ ws) = if names o w then value_here w ws else value_of o ws

-- the first value of an option that isn't what it must be
abbrev pub is_bad_value : OptionName → Option (List ℕ) → Bool
is_bad_value o None = false
is_bad_value o (Some v) = not (can_be o v)

unfoldable pub bad_value_of : OptionName → List (List ℕ) → Option (List ℕ)
bad_value_of o [] = None
bad_value_of o (w ∷ ws) = if names o w && is_bad_value o (value_here w ws) then value_here w ws else bad_value_of o ws

abbrev pub or_nothing : Option (List ℕ) → List ℕ
or_nothing None = []
or_nothing (Some v) = v

-- what is wrong, in four pieces
abbrev pub told : List ℕ → List ℕ → List ℕ → List ℕ → List (List ℕ)
told one two three four = one ∷ two ∷ three ∷ four ∷ []

abbrev pub no_such_option : List ℕ → List (List ℕ)
no_such_option w = told (codes "no such option: ") w [] []

abbrev pub too_many : List ℕ → List (List ℕ)
too_many w = told (codes "a word too many: ") w [] []

abbrev pub no_value : OptionName → List (List ℕ)
no_value o = told (option_word o) (codes " without a value") [] []

abbrev pub has_value : OptionName → List (List ℕ)
has_value o = told (option_word o) (codes " takes no value") [] []

abbrev pub too_often : OptionName → List (List ℕ)
too_often o = told (option_word o) (if may_repeat o then codes " more than 16 times" else codes " twice") [] []

abbrev pub missing : OptionName → List (List ℕ)
missing o = told (codes "missing: ") (option_word o) (value_word o) []

abbrev pub has_zero : List ℕ → Bool
has_zero v = nat_lt 1 (length v) && (slice_index v 0 == 48)

-- whether its value is a number
abbrev pub is_number : OptionName → Bool
is_number option.Boot = false
is_number option.Schedule = false
is_number option.Trace = false
is_number option.Labels = false
is_number option.At = true
is_number option.Names = false
is_number option.From = true
is_number option.To = true
is_number option.Seed = true
is_number option.Lines = true
is_number option.Machines = true
is_number option.WithTrace = false
is_number option.WithSchedule = false
is_number option.Depth = true
is_number option.Line = false
is_number option.Stuck = false
is_number option.Move = false
is_number option.CallOff = false
is_number option.Ticks = true
is_number option.Repeats = true
is_number option.Acks = false
is_number option.Most = true

abbrev pub due_words : OptionName → List ℕ → List ℕ
due_words o v = if is_number o && has_zero v then codes ": no 0 may stand in front" else range_words o

-- of a text the first word is told with which no line of a group begins any more
abbrev pub value_told : OptionName → List ℕ → List ℕ
value_told option.Line v = or_nothing (wrong_word v)
value_told o v = v

abbrev pub bad_value : OptionName → List ℕ → List (List ℕ)
bad_value o v = told (option_word o) (codes " ") (value_told o v) (due_words o v)

-- word by word: what is wrong there, or the option that waits for its value behind it
pub data Step : Type 0 where
  Wrong : (what : List (List ℕ)) → Step
  On : (waits : Option OptionName) → Step

-- an option that is met in a word, with these words behind it
abbrev pub met_by : OptionName → Option (List ℕ) → Step
met_by o (Some v) = if takes_value o then On None else Wrong (has_value o)
met_by o None = if takes_value o then On (Some o) else On None

unfoldable pub met : OptionName → List ℕ → List (List ℕ) → Step
met o w ws = if is_enough o ws then Wrong (too_often o) else met_by o (attached w)

abbrev pub met_option : Option OptionName → List ℕ → List (List ℕ) → Step
met_option None w ws = Wrong (no_such_option w)
met_option (Some o) w ws = met o w ws

abbrev pub step_by : Form → Option OptionName → Bool → List ℕ → List (List ℕ) → Step
step_by f None true w ws = met_option (option_named f w) w ws
step_by f None false w ws = Wrong (too_many w)
step_by f (Some o) true w ws = Wrong (no_value o)
step_by f (Some o) false w ws = On None

unfoldable pub step : Form → Option OptionName → List ℕ → List (List ℕ) → Step
step f waits w ws = step_by f waits (is_dashed w) w ws

abbrev pub at_end : Option OptionName → Option (List (List ℕ))
at_end None = None
at_end (Some o) = Some (no_value o)

abbrev pub on : Step → (Option OptionName → Option (List (List ℕ))) → Option (List (List ℕ))
on (Wrong what) go = Some what
on (On waits) go = go waits

unfoldable pub walk : Form → Option OptionName → List (List ℕ) → Option (List (List ℕ))
walk f waits [] = at_end waits
walk f waits (w ∷ ws) = on (step f waits w ws) (λ next. walk f next ws)

-- an option that has to be there and isn't
unfoldable pub absent : Form → List (List ℕ) → Option OptionName
absent f ws = find (λ o. not (is_named o ws)) (needed_of f)

-- one with a value that isn't what it must be
unfoldable pub is_bad : OptionName → List (List ℕ) → Bool
is_bad o ws = is_some (bad_value_of o ws)

unfoldable pub bad : Form → List (List ℕ) → Option OptionName
bad f ws = find (λ o. is_bad o ws) (options_of f)

-- options that don't go together
abbrev pub check_clash : Bool → Bool → List ℕ
check_clash true true = codes "--trace and --labels: just one of them"
check_clash true false = []
check_clash false true = []
check_clash false false = codes "missing: --trace FILE or --labels FILE"

abbrev pub explain_clash : Bool → Bool → List ℕ
explain_clash true true = codes "--schedule and --trace: one of them at most"
explain_clash true false = []
explain_clash false other = []

-- where these go together, words are refused only for a name that no schedule for the boot file can have
abbrev pub explore_clash : Bool → Bool → List ℕ
explore_clash true true = codes "--line and --stuck: just one of them"
explore_clash true false = codes "--move or --calloff: a process or machine that no schedule for this boot file can name"
explore_clash false true = codes "--stuck, --move or --calloff: a process or machine that no schedule for this boot file can name"
explore_clash false false = codes "missing: --line TEXT or --stuck P"

abbrev pub flags_clash : Bool → Bool → List ℕ
flags_clash true true = codes "--trace and --schedule: one of them at most"
flags_clash true false = []
flags_clash false other = []

abbrev pub drill_clash : Bool → Bool → Bool → Bool → List ℕ
drill_clash true true trace schedule = codes "--machines and --boot: just one of them"
drill_clash false false trace schedule = codes "missing: --machines M or --boot FILE"
drill_clash false true trace schedule = flags_clash trace schedule
drill_clash true false trace true = codes "--schedule: only with --boot"
drill_clash true false trace false = []

unfoldable pub clash : Form → List (List ℕ) → List ℕ
clash form.Run ws = []
clash form.Check ws = check_clash (is_named option.Trace ws) (is_named option.Labels ws)
clash form.Chart ws = []
clash form.Explain ws = explain_clash (is_named option.Schedule ws) (is_named option.Trace ws)
clash form.Count ws = []
clash form.Look ws = []
clash form.Explore ws = explore_clash (is_named option.Line ws) (is_named option.Stuck ws)
clash form.Drill ws = drill_clash (is_named option.Machines ws) (is_named option.Boot ws) (is_named option.WithTrace ws) (is_named option.WithSchedule ws)

abbrev pub clash_told : List ℕ → List (List ℕ)
clash_told [] = told (codes "these words ask for nothing") [] [] []
clash_told (c ∷ cs) = told (c ∷ cs) [] [] []

-- what is wrong behind a command's word: word by word, then an option that is missing, a value, and what doesn't go together
abbrev pub bad_told : Form → List (List ℕ) → Option OptionName → List (List ℕ)
bad_told f ws (Some o) = bad_value o (or_nothing (bad_value_of o ws))
bad_told f ws None = clash_told (clash f ws)

abbrev pub absent_told : Form → List (List ℕ) → Option OptionName → List (List ℕ)
absent_told f ws (Some o) = missing o
absent_told f ws None = bad_told f ws (bad f ws)

abbrev pub walk_told : Form → List (List ℕ) → Option (List (List ℕ)) → List (List ℕ)
walk_told f ws (Some what) = what
walk_told f ws None = absent_told f ws (absent f ws)

unfoldable pub wrong_told : Form → List (List ℕ) → List (List ℕ)
wrong_told f ws = walk_told f ws (walk f None ws)

abbrev pub command_told : Option Form → List ℕ → List (List ℕ) → List (List ℕ)
command_told None c ws = told (codes "no such command: ") c [] [] ++ command_lines ∷ []
command_told (Some f) c ws = wrong_told f ws ++ form_lines f ∷ []

abbrev pub behind_name : List (List ℕ) → List (List ℕ)
behind_name [] = told (codes "no command") [] [] [] ++ command_lines ∷ []
behind_name (c ∷ ws) = command_told (form_named c) c ws

-- of all words, the program's name first
unfoldable pub usage_pieces : List (List ℕ) → List (List ℕ)
usage_pieces [] = behind_name []
usage_pieces (name ∷ ws) = behind_name ws

-- what the code says, as pieces
abbrev pub pieces_told : Fault → List (List ℕ)
pieces_told t = told t.one.now t.two.now t.three.now t.four.now

abbrev pub pieces_of : Said → List (List ℕ)
pieces_of u = pieces_told u.told ++ u.lines.now ∷ []

abbrev pub step_of : Outcome → Step
step_of (the.Wrong what) = Wrong (pieces_told what)
step_of (the.On waits) = On waits
