-- The words of the command `explore`.
use Rattle.std.specs.Prelude.{ℕ, zero, suc, ◌≤◌, Bool, false, not, ◌&&◌, nat_le, is_some, if◌then◌else◌, List, [], ◌∷◌, codes, length, replicate}
use Rattle.std.specs.Option.{option_and_then, option_map, option_map_or, unwrap_or}
use Rattle.std.specs.declared.option.Option.{Option}
use Rattle.std.specs.declared.option.Option.TheVariants.{None, Some}
use Rattle.clap.specs.Walk.{Row, Rule, all_of, first_of}
use Rattle.clap.specs.Simple.{Shape, new_rule, new_shape}
use Rattle.clap.specs.declared.builder.action.ArgAction.TheVariants.{Append}
use Rattle.dm_text.specs.Reading.{read_u32, read_u8}
use Rattle.dm_words.specs.declared.explore.Exploration.{Exploration}
use Rattle.dm_words.specs.declared.explore.WrittenMove.{WrittenMove}
use Rattle.dm_words.specs.declared.explore.WrittenName.{WrittenName}
use Rattle.dm_words.specs.DrillWords.{flag_of, flag_option, if_within, number_option}
use Rattle.dm_words.specs.FileWords.{file_option, free_option}
use Rattle.dm_words.specs.Request.{Request, Explore}
use Rattle.dm_words.specs.Written.{is_text, stuck_name, written_move}

-- the option `--name VALUE`, which may be there more than once
abbrev pub many_option : List ℕ → Rule
many_option name = record (new_rule name) { long = Some name; action = Some Append }

-- `explore --boot FILE --depth N (--line TEXT | --stuck P..) [--move P=M].. [--calloff P=M].. [--ticks K] [--repeats K] [--acks]
-- [--most S]`
abbrev pub explore_command : Shape
explore_command = record (new_shape (codes "explore")) {
  rules = file_option (codes "boot") ∷ number_option (codes "depth") ∷ free_option (codes "line") ∷ many_option (codes "stuck")
      ∷ many_option (codes "move") ∷ many_option (codes "calloff") ∷ free_option (codes "ticks") ∷ free_option (codes "repeats")
      ∷ flag_option (codes "acks") ∷ free_option (codes "most") ∷ [];
}

-- the numbers that a word says, in decimal digits without a sign or a 0 in front
abbrev pub depth_in : List ℕ → Option ℕ
depth_in word = option_and_then (if_within 1 64) (read_u8 word)

abbrev pub most_in : List ℕ → Option ℕ
most_in word = option_and_then (λ n. if nat_le 1 n then Some n else None) (read_u32 word)

-- and the options of these names
abbrev pub depth_of : List Row → Option ℕ
depth_of rows = option_and_then depth_in (first_of (codes "depth") rows)

abbrev pub most_of : List Row → Option ℕ
most_of rows = option_map_or most_in (first_of (codes "most") rows) (Some 1000000)

abbrev pub few_of : List ℕ → List Row → Option ℕ
few_of name rows = option_map_or read_u8 (first_of name rows) (Some 0)

abbrev pub acks_of : List Row → Bool
acks_of rows = flag_of (codes "acks") rows

-- what each of these words says, where each says something
abbrev pub all_read : {X : Type 0} → (List ℕ → Option X) → List (List ℕ) → Option (List X)
all_read read [] = Some []
all_read read (w ∷ ws) = option_and_then (λ x. option_map (λ xs. x ∷ xs) (all_read read ws)) (read w)

-- places that are filled by these, from the first on
abbrev pub filling : {X : Type 0} → ℕ → List X → List (Option X)
filling n [] = replicate n None
filling zero (x ∷ xs) = []
filling (suc n) (x ∷ xs) = Some x ∷ filling n xs

-- what words say, sixteen at most, in places from the first on
abbrev pub in_places : {X : Type 0} → (List ℕ → Option X) → List (List ℕ) → Option (List (Option X))
in_places read words = if nat_le (length words) 16 then option_map (filling 16) (all_read read words) else None

-- what all uses of an option say
abbrev pub listed : {X : Type 0} → (List ℕ → Option X) → List ℕ → List Row → Option (List (Option X))
listed read name rows = in_places read (unwrap_or (all_of name rows) [])

-- an exploration with these numbers, where they are there, that names nothing yet
abbrev pub with_numbers : Option ℕ → Option ℕ → Option ℕ → Option ℕ → Bool → Option Exploration
with_numbers (Some depth) (Some most) (Some ticks) (Some repeats) acks = Some (record {
  depth = depth;
  most = most;
  stuck = replicate 16 None;
  moves = replicate 16 None;
  call_offs = replicate 16 None;
  ticks = ticks;
  repeats = repeats;
  acks = acks;
})
with_numbers (Some depth) (Some most) (Some ticks) None acks = None
with_numbers (Some depth) (Some most) None repeats acks = None
with_numbers (Some depth) None ticks repeats acks = None
with_numbers None most ticks repeats acks = None

-- one that names these, where all of it is there
abbrev pub with_names : Option Exploration → Option (List (Option WrittenName)) → Option (List (Option WrittenMove)) → Option (List (Option WrittenMove)) → Option Exploration
with_names (Some e) (Some stuck) (Some moves) (Some calls) = Some (record e { stuck = stuck; moves = moves; call_offs = calls })
with_names (Some e) (Some stuck) (Some moves) None = None
with_names (Some e) (Some stuck) None calls = None
with_names (Some e) None moves calls = None
with_names None stuck moves calls = None

abbrev pub exploration_of : List Row → Option Exploration
exploration_of rows =
    with_names (with_numbers (depth_of rows) (most_of rows) (few_of (codes "ticks") rows) (few_of (codes "repeats") rows) (acks_of rows))
    (listed stuck_name (codes "stuck") rows) (listed written_move (codes "move") rows) (listed written_move (codes "calloff") rows)

-- whether a process is named
abbrev pub is_first_named : {X : Type 0} → List (Option X) → Bool
is_first_named [] = false
is_first_named (x ∷ xs) = is_some x

-- a line is looked for, or processes, and not both
abbrev pub looking_for : Option (List ℕ) → Exploration → Bool
looking_for (Some line) e = is_text line && not (is_first_named e.stuck)
looking_for None e = is_first_named e.stuck

abbrev pub exploring : Option (List ℕ) → Option (List ℕ) → Option Exploration → Option Request
exploring (Some boot) line (Some e) = if looking_for line e then Some (Explore boot line e) else None
exploring (Some boot) line None = None
exploring None line e = None

-- what its matches ask for
abbrev pub explore_request : List Row → Option Request
explore_request rows = exploring (first_of (codes "boot") rows) (first_of (codes "line") rows) (exploration_of rows)

-- whether its options have values that it takes
abbrev pub takes_explore : List Row → Bool
takes_explore rows = option_map_or (looking_for (first_of (codes "line") rows)) (exploration_of rows) false

-- the ranges of its numbers
pub record ExploreIsWithin (e : Exploration) : Type 0 where
  pub least : 1 ≤ e.depth
  pub most : e.depth ≤ 64
  pub some : 1 ≤ e.most
