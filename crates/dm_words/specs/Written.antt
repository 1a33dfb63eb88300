-- Numbers, processes and texts as the words of `explore` have them.
use Rattle.std.specs.Prelude.{ℕ, ◌+◌, Bool, ◌==◌, nat_lt, is_none, if◌then◌else◌, List, drop, take}
use Rattle.std.specs.List.{position}
use Rattle.std.specs.Option.{option_and_then, option_map}
use Rattle.std.specs.declared.option.Option.{Option}
use Rattle.std.specs.declared.option.Option.TheVariants.{None, Some}
use Rattle.dm_link.specs.declared.Pid.{Pid}
use Rattle.dm_schedule.specs.Numbers.{number_of_word, process_of}
use Rattle.dm_shape.specs.Begins.{wrong_word}
use Rattle.dm_words.specs.declared.explore.WrittenMove.{WrittenMove}
use Rattle.dm_words.specs.declared.explore.WrittenName.{WrittenName}

-- words with which a line of a group may begin, with one blank between
abbrev pub is_text : List ℕ → Bool
is_text text = is_none (wrong_word text)

-- a process as a schedule has it, whatever machines there are
abbrev pub as_written : Pid → WrittenName
as_written p = record { home = p.home; num = p.num }

abbrev pub written_name : List ℕ → Option WrittenName
written_name word = option_map as_written (process_of word)

-- and not a kernel or a server, which never gets stuck
abbrev pub if_process : WrittenName → Option WrittenName
if_process p = if nat_lt p.num 3 then None else Some p

abbrev pub stuck_name : List ℕ → Option WrittenName
stuck_name word = option_and_then if_process (written_name word)

-- an equals sign
abbrev pub is_equals : ℕ → Bool
is_equals c = c == 61

-- the move that a process and a number make, if both are there
abbrev pub move_from : Option WrittenName → Option ℕ → Option WrittenMove
move_from name machine = option_and_then (λ p. option_map (λ m. record { name = p; machine = m }) machine) name

-- a process, an equals sign and a machine
unfoldable pub written_move : List ℕ → Option WrittenMove
written_move word = option_and_then (λ i. move_from (written_name (take i word)) (number_of_word (drop (i + 1) word))) (position is_equals word)
