-- The words that labels begin with.
use Rattle.std.specs.Prelude.{ℕ, List, [], ◌∷◌, codes}
use Rattle.std.specs.List.{find}
use Rattle.std.specs.Str.{bytes_eq}
use Rattle.std.specs.declared.option.Option.{Option}
use Rattle.dm_labels.specs.declared.names.Name.{Name}
use Rattle.dm_labels.specs.declared.names.Name.TheVariants as name

-- all names
abbrev pub names : List Name
names = name.Ran ∷ name.Call ∷ name.Send ∷ name.Wait ∷ name.Out ∷ name.End ∷ name.Receive ∷ name.Refuse ∷ name.Took ∷ name.Served ∷ name.Gone ∷ name.Dropped ∷ name.Created ∷ name.NoSpace ∷ name.Asked ∷ name.Answered ∷ []

-- the word of each
abbrev pub word_of : Name → List ℕ
word_of name.Ran = codes "ran"
word_of name.Call = codes "call"
word_of name.Send = codes "send"
word_of name.Wait = codes "wait"
word_of name.Out = codes "out"
word_of name.End = codes "end"
word_of name.Receive = codes "receive"
word_of name.Refuse = codes "refuse"
word_of name.Took = codes "took"
word_of name.Served = codes "served"
word_of name.Gone = codes "gone"
word_of name.Dropped = codes "dropped"
word_of name.Created = codes "created"
word_of name.NoSpace = codes "nospace"
word_of name.Asked = codes "asked"
word_of name.Answered = codes "answered"

-- the name that a word is, if it is one
unfoldable pub name_of : List ℕ → Option Name
name_of word = find (λ n. bytes_eq word (word_of n)) names
