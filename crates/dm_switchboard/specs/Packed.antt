-- The switchboard as bytes: the one spelling of it, and what some bytes spell, or the first rule that they break.
use Rattle.std.specs.Prelude.{◌≡◌, ℕ, zero, suc, List, [], ◌∷◌, ◌++◌, length, not, is_some, None, Ok}
use Rattle.std.specs.declared.result.Result.{Result}
use Rattle.std.specs.List.{All, flat_map}
use Rattle.dm_packet.specs.declared.PacketError.{PacketError}
use Rattle.dm_packet.specs.declared.PacketError.TheVariants as bad
use Rattle.dm_packet.specs.Field.{Field, ◌>>=◌, number, number_within, run, tested, both, made, counted}
use Rattle.dm_packet.specs.Fields.{link}
use Rattle.dm_packet.specs.Widths.{Fits, FitsLink}
use Rattle.dm_statebytes.specs.declared.StateBytesError.{StateBytesError}
use Rattle.dm_statebytes.specs.Servers.{only_read, server_front, whole_of}
use Rattle.dm_onekernel.specs.Boot.{switchboard}
use Rattle.dm_switchboard.specs.Board.{Board, Named}
use Rattle.dm_switchboard.specs.Lawful.{IsLawfulBoard}
use Rattle.dm_switchboard.specs.Taking.{link_named}

-- 1 to 16 bytes behind their number
abbrev pub name : Field (List ℕ)
name = counted (number_within 1 1 16) run

-- one that none of the names before it is
abbrev pub name_behind : List Named → Field (List ℕ)
name_behind earlier = tested name (λ n. not (is_some (link_named n earlier))) bad.Limit

-- such a name, and its link
abbrev pub named_behind : List Named → Field Named
named_behind earlier = made (both (name_behind earlier) (λ _. link)) (λ e. record { name = e.0; link = e.1 }) (λ k. (k.name, k.link))

abbrev pub spell_named : Named → List ℕ
spell_named k = name.spell k.name ++ link.spell k.link

-- so many names with their links, of which none is another or one of those before them
abbrev pub read_names : ℕ → List Named → List ℕ → Result (List Named × List ℕ) PacketError
read_names zero earlier bytes = Ok ([], bytes)
read_names (suc n) earlier bytes = (named_behind earlier).read bytes >>= λ first. read_names n (earlier ++ first.0 ∷ []) first.1 >>= λ others. Ok (first.0 ∷ others.0, others.1)

abbrev pub names_behind : List Named → ℕ → Field (List Named)
names_behind earlier n = record {
  spell = λ ks. flat_map spell_named ks;
  read = λ bytes. read_names n earlier bytes;
}

-- their number, and the names
abbrev pub names : Field (List Named)
names = counted (number 4) (names_behind [])

-- the version, the switchboard's name, its two counts, and the names in their order
abbrev pub board : Field Board
board = made (both (server_front switchboard) (λ _. names)) (λ b. record { names = b.1; sent = b.0.0; moves = b.0.1 }) (λ b. ((b.sent, b.moves), b.names))

-- what all the bytes spell, as the reader has it
abbrev pub read_board : List ℕ → Result Board PacketError
read_board bytes = board.read bytes >>= only_read

-- the one spelling of a switchboard
unfoldable pub board_spelling : Board → List ℕ
board_spelling b = board.spell b

-- what the bytes spell, all of them, or the first rule that they break
unfoldable pub board_of_bytes : List ℕ → Result Board StateBytesError
board_of_bytes bytes = whole_of board bytes

-- none of these names is one of those before it
abbrev pub AreApart : List Named → List Named → Type 0
AreApart earlier [] = Unit {0}
AreApart earlier (k ∷ ks) = (link_named k.name earlier ≡ None) × AreApart (earlier ++ k ∷ []) ks

-- no name stands twice
abbrev pub HaveOwnNames : List Named → Type 0
HaveOwnNames ks = AreApart [] ks

abbrev pub FitsNamed : Named → Type 0
FitsNamed k = FitsLink k.link

-- the numbers that fields have room for: what the program holds fits by its types, but for how many names there are
pub record FitsBoard (b : Board) : Type 0 where
  pub few : Fits 4 (length b.names)
  pub names : All FitsNamed b.names
  pub sent : Fits 4 b.sent
  pub moves : Fits 4 b.moves

-- the switchboards that are spelled
pub record IsSpelledBoard (b : Board) : Type 0 where
  pub lawful : IsLawfulBoard b
  pub apart : HaveOwnNames b.names
  pub fits : FitsBoard b
