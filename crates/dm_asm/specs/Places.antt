-- The lines and addresses of the labels.
use Rattle.std.specs.Prelude.{ℕ, Bool, false, ◌%◌, ◌==◌, ◌&&◌, nat_le, ◌+◌, ◌-◌, if◌then◌else◌, Option, Some, None, is_some, unwrap_or, option_map, List, [], ◌∷◌, codes, length, take, slice_index}
use Rattle.std.specs.Str.{bytes_eq}
use Rattle.dm_reading.specs.Words.{source_words}
use Rattle.dm_asm.specs.Calls.{call_size}
use Rattle.dm_asm.specs.declared.forms.Form.{Form}
use Rattle.dm_asm.specs.declared.forms.Form.TheVariants.{Instruction, Calling, Word, Byte, Zero, Align, Ascii, Equ}
use Rattle.dm_asm.specs.declared.labels.Place.{Place}
use Rattle.dm_asm.specs.Forms.{form_of}
use Rattle.dm_asm.specs.Lines.{without_comment}
use Rattle.dm_asm.specs.Numbers.{is_label_name, is_multiple, literal_value}
use Rattle.dm_asm.specs.Texts.{text_in, text_operand}

-- the label that a word is with its colon
abbrev pub label_in : List ℕ → Option (List ℕ)
label_in word =
    let name = take (length word - 1) word in
    if (slice_index word (length word - 1) == 58) && is_label_name name then Some name else None

-- the word that gives a label a value of its own
abbrev pub is_equ : List ℕ → Bool
is_equ word = bytes_eq word (codes ".equ")

-- the label that .equ gives a value, by the words behind it
abbrev pub label_given : List (List ℕ) → Option (List ℕ)
label_given [] = None
label_given (name ∷ ws) = if is_label_name name then Some name else None

-- the label before a line's colon, or else that to which the line gives a value
abbrev pub label_or_given : Option (List ℕ) → List ℕ → List (List ℕ) → Option (List ℕ)
label_or_given (Some name) w ws = Some name
label_or_given None w ws = if is_equ w then label_given ws else None

-- the label of a line of words
abbrev pub label_of_words : List (List ℕ) → Option (List ℕ)
label_of_words [] = None
label_of_words (w ∷ ws) = label_or_given (label_in w) w ws

-- the number that .equ gives, by the words behind it, if that is a good one
abbrev pub number_given : List (List ℕ) → ℕ
number_given (name ∷ word ∷ []) = unwrap_or (option_map (λ n. if nat_le n 4294967295 then n else 0) (literal_value word)) 0
number_given _ = 0

-- the value of the label of a line of words at an address
abbrev pub label_value : ℕ → List (List ℕ) → ℕ
label_value at [] = at
label_value at (w ∷ ws) = if is_equ w then number_given ws else at

-- the words begin with .equ
abbrev pub begins_equ : List (List ℕ) → Bool
begins_equ [] = false
begins_equ (w ∷ ws) = is_equ w

-- .equ stands behind a label, where it can't
abbrev pub is_misplaced : List (List ℕ) → Bool
is_misplaced [] = false
is_misplaced (w ∷ ws) = is_some (label_in w) && begins_equ ws

-- what stands behind the label of a line of words
abbrev pub behind_label : List (List ℕ) → List (List ℕ)
behind_label [] = []
behind_label (w ∷ ws) = if is_some (label_in w) then ws else w ∷ ws

-- how many bytes the operand of .zero asks for, if that is a good number
abbrev pub zeros_size : List (List ℕ) → ℕ
zeros_size (word ∷ []) = unwrap_or (option_map (λ n. if nat_le n 65536 then n else 0) (literal_value word)) 0
zeros_size _ = 0

-- how many bytes it is from an address to the next multiple of a number
unfoldable pub padding : ℕ → ℕ → ℕ
padding at n = if at % n == 0 then 0 else n - at % n

-- how many bytes the operand of .align asks for at an address, if that is a good number
abbrev pub padding_size : ℕ → List (List ℕ) → ℕ
padding_size at (word ∷ []) = unwrap_or (option_map (λ n. if is_multiple n then padding at n else 0) (literal_value word)) 0
padding_size at _ = 0

-- how many bytes the text of .ascii has, if it is a good one
abbrev pub text_size : Option (List ℕ) → ℕ
text_size text = length (unwrap_or text [])

-- how many bytes a line counts at an address whose word is this, with this text and these operands
abbrev pub form_size : ℕ → Option (List ℕ) → Option Form → List (List ℕ) → ℕ
form_size at text None ws = 0
form_size at text (Some (Instruction op)) ws = 4
form_size at text (Some (Calling c)) ws = call_size c
form_size at text (Some Word) ws = 4
form_size at text (Some Byte) ws = length ws
form_size at text (Some Zero) ws = zeros_size ws
form_size at text (Some Align) ws = padding_size at ws
form_size at text (Some Ascii) ws = text_size (text_operand text ws)
form_size at text (Some Equ) ws = 0

-- how many bytes a statement counts at an address, in a line with this text
abbrev pub statement_size : ℕ → Option (List ℕ) → List (List ℕ) → ℕ
statement_size at text [] = 0
statement_size at text (w ∷ ws) = form_size at text (form_of w) ws

-- how many bytes a line counts at an address
unfoldable pub line_size : ℕ → List ℕ → ℕ
line_size at line = statement_size at (text_in (without_comment line)) (behind_label (source_words (without_comment line)))

-- the value of a line's label at an address
unfoldable pub line_value : ℕ → List ℕ → ℕ
line_value at line = label_value at (source_words (without_comment line))

-- whether a line has this label
unfoldable pub has_label : List ℕ → List ℕ → Bool
has_label line name = unwrap_or (option_map (bytes_eq name) (label_of_words (source_words (without_comment line)))) false

-- the first of two, if any
abbrev pub first_of : Option Place → Option Place → Option Place
first_of None other = other
first_of (Some place) other = Some place

-- the first of these lines that has a label, with its value; they begin with this line at this address
abbrev pub place_from : ℕ → ℕ → List (List ℕ) → List ℕ → Option Place
place_from number at [] name = None
place_from number at (l ∷ ls) name =
    if has_label l name then Some (record { line = number; address = line_value at l }) else place_from (number + 1) (at + line_size at l) ls name
