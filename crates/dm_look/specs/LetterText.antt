-- What is in messages, as text: the lines `content` and `carries`.
use Rattle.std.specs.Prelude.{ℕ, ◌+◌, codes, List, [], ◌∷◌, ◌++◌, length}
use Rattle.std.specs.Option.{option_map_or}
use Rattle.std.specs.Fmt.{decimal}
use Rattle.std.specs.declared.option.Option.{Option}
use Rattle.dm_link.specs.declared.Link.{Link}
use Rattle.dm_message.specs.declared.MsgId.{MsgId}
use Rattle.dm_message.specs.Kinds.{plain_kind, word_of}
use Rattle.dm_message.specs.Outcomes.{code_of_outcome}
use Rattle.dm_message.specs.Plain as plain
use Rattle.dm_message.specs.Plain.{PlainWhat}
use Rattle.dm_look.specs.Letters.{Letter}
use Rattle.dm_text.specs.Text.{spelled_line}
use Rattle.dm_text.specs.Words.{hex, id_word, pid_word}
use Rattle.dm_text.specs.Written.{link_words}

-- a body: its length, and all of it where there is any
abbrev pub body_words : List ℕ → List (List ℕ)
body_words [] = codes "length" ∷ codes "0" ∷ []
body_words (x ∷ xs) = codes "length" ∷ decimal (length (x ∷ xs)) ∷ codes "body" ∷ hex (x ∷ xs) ∷ []

-- what a message says, a row a kind
abbrev pub what_words : PlainWhat → List (List ℕ)
what_words (plain.User code channel body links) = codes "code" ∷ decimal code ∷ codes "channel" ∷ decimal channel ∷ body_words body
what_words plain.Stop = []
what_words plain.Resume = []
what_words plain.Kill = []
what_words (plain.Read base len) = codes "base" ∷ decimal base ∷ codes "length" ∷ decimal len ∷ []
what_words (plain.Write base bytes) = codes "base" ∷ decimal base ∷ body_words bytes
what_words (plain.Block bytes) = body_words bytes
what_words plain.Written = []
what_words plain.Gone = []
what_words (plain.Create image links) = codes "image" ∷ decimal image ∷ []
what_words (plain.Created pid) = codes "process" ∷ pid_word pid ∷ []
what_words plain.NoRoom = []
what_words (plain.Move machine) = codes "machine" ∷ decimal machine ∷ []
what_words (plain.Moved outcome) = codes "result" ∷ decimal (code_of_outcome outcome) ∷ []

-- its name, its kind, who gets it, and what it says
abbrev pub content_words : Letter → List (List ℕ)
content_words l = codes "content" ∷ id_word l.id ∷ word_of (plain_kind l.what) ∷ pid_word l.receiver ∷ what_words l.what

-- an enclosed link, by its place from 0
abbrev pub carries_words : MsgId → ℕ → Link → List (List ℕ)
carries_words id place link = codes "carries" ∷ id_word id ∷ decimal place ∷ link_words link

-- the links from a place on
abbrev pub carried_text : MsgId → ℕ → List Link → List ℕ
carried_text id place [] = []
carried_text id place (x ∷ xs) = spelled_line (carries_words id place x) ++ carried_text id (place + 1) xs

abbrev pub letter_text : Letter → List ℕ
letter_text l = spelled_line (content_words l) ++ carried_text l.id 0 l.links

-- of a message of which nothing is told there is none
abbrev pub text_of_letter : Option Letter → List ℕ
text_of_letter o = option_map_or letter_text o []

-- those of letters, one after another
unfoldable pub text_of_letters : List Letter → List ℕ
text_of_letters [] = []
text_of_letters (l ∷ ls) = letter_text l ++ text_of_letters ls
