-- How many messages of each kind were put.
use Rattle.std.specs.Prelude.{◌≡◌, ⊤, ℕ, ◌+◌, ◌==◌, nat_lt, Bool, not, if◌then◌else◌, codes, List, [], ◌∷◌, ◌++◌, map, vec_len}
use Rattle.std.specs.Fmt.{decimal}
use Rattle.dm_message.specs.declared.kind.MessageKind.{MessageKind}
use Rattle.dm_message.specs.Kinds.{all_kinds, number_of, word_of}
use Rattle.dm_drill.specs.declared.kinds.KindTally.{KindTally}

-- of a kind: all that were put, and those that were routed from one machine to another
pub record KindTotal : Type 0 where
  pub kind : MessageKind
  pub all : ℕ
  pub between : ℕ

abbrev pub none_of : MessageKind → KindTotal
none_of kind = record { kind = kind; all = 0; between = 0 }

-- none of any kind, by the kinds' numbers
abbrev pub no_kinds : List KindTotal
no_kinds = map none_of all_kinds

-- their kinds have the numbers from this one on
abbrev pub AreNumbered : ℕ → List KindTotal → Type 0
AreNumbered n [] = ⊤
AreNumbered n (t ∷ ts) = (number_of t.kind ≡ n) × AreNumbered (n + 1) ts

-- a message was put from one machine to another, or to the same
abbrev pub is_between : ℕ → ℕ → Bool
is_between from to = not (from == to)

abbrev pub one_more_of : Bool → KindTotal → KindTotal
one_more_of far t = record t { all = t.all + 1; between = if far then t.between + 1 else t.between }

-- if it is of this kind, one more was put
abbrev pub with_put : MessageKind → Bool → KindTotal → KindTotal
with_put kind far t = if number_of t.kind == number_of kind then one_more_of far t else t

-- the line of a kind, if it was put: its word, and both numbers
abbrev pub kind_line : KindTotal → List ℕ
kind_line t = if nat_lt 0 t.all then word_of t.kind ++ codes " " ++ decimal t.all ++ codes " " ++ decimal t.between ++ codes "\n" else []

-- those of the kinds that were put
unfoldable pub kind_lines : List KindTotal → List ℕ
kind_lines [] = []
kind_lines (t ∷ ts) = kind_line t ++ kind_lines ts

-- what a count of the code shows
abbrev pub kind_shown : KindTally → KindTotal
kind_shown k = record { kind = k.kind; all = vec_len k.all.marks; between = vec_len k.between.marks }
