-- Words of which there are only some.
use Rattle.std.specs.Prelude.{ℕ, Bool, List, [], ◌∷◌, codes}
use Rattle.std.specs.List.{list_any}
use Rattle.std.specs.Str.{bytes_eq}
use Rattle.dm_shape.specs.declared.choice.Choice.{Choice}
use Rattle.dm_shape.specs.declared.choice.Choice.TheVariants as choice

-- a word is one of these
abbrev pub one_of : List (List ℕ) → List ℕ → Bool
one_of words word = list_any (λ w. bytes_eq word w) words

-- the words of each choice, a row a choice
abbrev pub words_of : Choice → List (List ℕ)
words_of choice.At = codes "at" ∷ []
words_of choice.Moves = codes "moves" ∷ []
words_of choice.Code = codes "code" ∷ []
words_of choice.Channel = codes "channel" ∷ []
words_of choice.Area = codes "area" ∷ []
words_of choice.Ended = codes "ended" ∷ []
words_of choice.Ready = codes "ready" ∷ []
words_of choice.Waiting = codes "waiting" ∷ []
words_of choice.Moving = codes "moving" ∷ []
words_of choice.Six = codes "6" ∷ []
words_of choice.Stage = codes "1" ∷ codes "2" ∷ codes "3" ∷ codes "4" ∷ codes "5" ∷ codes "7" ∷ codes "8" ∷ []
words_of choice.Load = codes "data" ∷ codes "ack" ∷ []
words_of choice.Standing = codes "here" ∷ codes "leaving" ∷ codes "arriving" ∷ []
words_of choice.Going = codes "go" ∷ codes "stopped" ∷ []
words_of choice.LinkKind = codes "general" ∷ codes "reply" ∷ []
words_of choice.Rights = codes "-" ∷ codes "r" ∷ codes "w" ∷ codes "rw" ∷ []
