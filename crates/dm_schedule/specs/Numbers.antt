-- Numbers and names of processes as they are written.
use Rattle.std.specs.Prelude.{ℕ, Bool, ◌==◌, ◌&&◌, nat_le, ◌+◌, if◌then◌else◌, Option, None, List, length, take, drop}
use Rattle.std.specs.List.{position}
use Rattle.std.specs.Option.{option_and_then, option_map}
use Rattle.dm_link.specs.Names.{pid_of}
use Rattle.dm_link.specs.declared.Pid.{Pid}
use Rattle.dm_reading.specs.Numbers.{number_after}

-- the number that a word is: one to ten digits
unfoldable pub number_of_word : List ℕ → Option ℕ
number_of_word word = if nat_le 1 (length word) && nat_le (length word) 10 then number_after 0 word else None

-- the name that two numbers make, if both are there
abbrev pub pid_from_numbers : Option ℕ → Option ℕ → Option Pid
pid_from_numbers home num = option_and_then (λ h. option_map (pid_of h) num) home

-- a point
abbrev pub is_point : ℕ → Bool
is_point c = c == 46

-- the name of a process that a word is: a number, a point and a number
unfoldable pub process_of : List ℕ → Option Pid
process_of word = option_and_then (λ i. pid_from_numbers (number_of_word (take i word)) (number_of_word (drop (i + 1) word))) (position is_point word)
