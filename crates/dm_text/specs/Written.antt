-- What the words of the code stand for, what it puts of a line, and what is kept where memory lacks.
use Rattle.std.specs.Prelude.{◌≡◌, ℕ, List, [], ◌∷◌, codes, length, map, take}
use Rattle.std.specs.Fmt.{decimal}
use Rattle.dm_link.specs.declared.Link.{Link}
use Rattle.dm_line.specs.declared.end_line.Doing.{Doing}
use Rattle.dm_line.specs.declared.end_line.EndLine.{EndLine}
use Rattle.dm_line.specs.declared.line.Line.{Line}
use Rattle.dm_line.specs.declared.line.Load.{Load}
use Rattle.dm_line.specs.declared.line.Load.TheVariants as load
use Rattle.dm_text.specs.declared.word.Word.{Word}
use Rattle.dm_text.specs.declared.word.Word.TheVariants as word
use Rattle.dm_text.specs.Ends.{doing_row, end_row, link_row}
use Rattle.dm_text.specs.Text.{line_row}
use Rattle.dm_text.specs.Words.{LineWord, hex, id_word, pid_word}

abbrev pub word_text : Word → List ℕ
word_text (word.Name name) = name.now
word_text (word.Byte n) = decimal n
word_text (word.Number n) = decimal n
word_text (word.Wide n) = decimal n
word_text (word.Process p) = pid_word p
word_text (word.Message id) = id_word id
word_text (word.Bytes bytes) = hex bytes.now

abbrev pub spellings : List LineWord → List (List ℕ)
spellings words = map (λ w. w.spelling) words

abbrev pub line_words : Line → List (List ℕ)
line_words l = spellings (line_row l)

abbrev pub end_words : EndLine → List (List ℕ)
end_words e = spellings (end_row e)

abbrev pub doing_words : Doing → List (List ℕ)
doing_words d = spellings (doing_row d)

abbrev pub link_words : Link → List (List ℕ)
link_words l = spellings (link_row l)

-- what a packet carries
abbrev pub load_words : Load → List (List ℕ)
load_words (load.Data n) = codes "data" ∷ decimal n ∷ []
load_words (load.Ack n) = codes "ack" ∷ decimal n ∷ []

-- the text begins as it did before
abbrev pub Keeps : List ℕ → List ℕ → Type 0
Keeps before text = take (length before) text ≡ before
