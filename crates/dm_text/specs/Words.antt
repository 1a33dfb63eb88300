-- The words of lines: how each is spelled, and what has to be so for it to be read back.
use Rattle.std.specs.Prelude.{ℕ, ◌^◌, ◌<◌, ⊤, ◌/◌, ◌%◌, ◌+◌, nat_lt, Bool, if◌then◌else◌, codes, List, [], ◌∷◌, ◌++◌, flat_map}
use Rattle.std.specs.Fmt.{decimal}
use Rattle.std.specs.List.{All}
use Rattle.dm_link.specs.declared.Pid.{Pid}
use Rattle.dm_message.specs.declared.MsgId.{MsgId}

-- a process is written m.n
abbrev pub pid_word : Pid → List ℕ
pid_word p = decimal p.home ++ codes "." ++ decimal p.num

abbrev pub mark : Bool → List ℕ
mark answer = if answer then codes "!" else []

-- a message is written m.n#k, and the answer to it m.n#k!
abbrev pub id_word : MsgId → List ℕ
id_word i = pid_word i.from ++ codes "#" ++ decimal i.n ++ mark i.answer

-- bytes are written in hex, with small letters
abbrev pub hex_digit : ℕ → ℕ
hex_digit n = if nat_lt n 10 then 48 + n else 87 + n

abbrev pub hex : List ℕ → List ℕ
hex bytes = flat_map (λ b. hex_digit (b / 16) ∷ hex_digit (b % 16) ∷ []) bytes

-- the numbers of a name are within their types
abbrev pub PidFits : Pid → Type 0
PidFits p = (p.home < 2 ^ 8) × (p.num < 2 ^ 32)

-- a word of a line, and what has to be so for it to be read back
pub record LineWord : Type 1 where
  pub spelling : List ℕ
  pub Fits : Type 0

-- a word as it stands
abbrev pub said : List ℕ → LineWord
said w = record { spelling = w; Fits = ⊤ }

-- a number of so many bits
abbrev pub sized : ℕ → ℕ → LineWord
sized bits n = record { spelling = decimal n; Fits = n < 2 ^ bits }

abbrev pub process_word : Pid → LineWord
process_word p = record { spelling = pid_word p; Fits = PidFits p }

abbrev pub message_word : MsgId → LineWord
message_word i = record { spelling = id_word i; Fits = PidFits i.from × (i.n < 2 ^ 32) }

abbrev pub bytes_word : List ℕ → LineWord
bytes_word bytes = record { spelling = hex bytes; Fits = All (λ b. b < 2 ^ 8) bytes }

-- a word that leaves something out, which is so
abbrev pub only_if : Type 0 → LineWord → LineWord
only_if So w = record { spelling = w.spelling; Fits = So × w.Fits }

-- all words can be read back
abbrev pub AllFit : List LineWord → Type 0
AllFit [] = ⊤
AllFit (w ∷ ws) = w.Fits × AllFit ws
