-- The words that lines begin with, and the operands of each.
use Rattle.std.specs.Prelude.{ℕ, List, [], ◌∷◌, Option, codes}
use Rattle.std.specs.List.{find}
use Rattle.std.specs.Str.{bytes_eq}
use Rattle.dm_schedule.specs.declared.keywords.Keyword.{Keyword}
use Rattle.dm_schedule.specs.declared.keywords.Keyword.TheVariants.{Turn, Tick, Deliver, Migrate, CallOff, Round, Spin, Settle, Rest}

-- all keywords
abbrev pub keywords : List Keyword
keywords = Turn ∷ Tick ∷ Deliver ∷ Migrate ∷ CallOff ∷ Round ∷ Spin ∷ Settle ∷ Rest ∷ []

-- what an operand is: a machine, a process, the place of a packet, or a number of rounds or passes
pub data Operand : Type 0 where
  Machine : Operand
  Process : Operand
  Packet : Operand
  Rounds : Operand

-- each keyword: the word that it is, and its operands
abbrev pub keyword_row : Keyword → List ℕ × List Operand
keyword_row Turn = (codes "turn", Machine ∷ [])
keyword_row Tick = (codes "tick", Machine ∷ [])
keyword_row Deliver = (codes "deliver", Machine ∷ Machine ∷ Packet ∷ [])
keyword_row Migrate = (codes "migrate", Process ∷ Machine ∷ [])
keyword_row CallOff = (codes "calloff", Process ∷ Machine ∷ [])
keyword_row Round = (codes "round", [])
keyword_row Spin = (codes "spin", Rounds ∷ [])
keyword_row Settle = (codes "settle", [])
keyword_row Rest = (codes "rest", Rounds ∷ [])

abbrev pub word_of_keyword : Keyword → List ℕ
word_of_keyword k = (keyword_row k).0

abbrev pub operands : Keyword → List Operand
operands k = (keyword_row k).1

-- the keyword that a word is, if it is one
unfoldable pub keyword_of : List ℕ → Option Keyword
keyword_of word = find (λ k. bytes_eq word (word_of_keyword k)) keywords
