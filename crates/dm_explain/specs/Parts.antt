-- What an explanation is made of: words, numbers, and texts and lines of files.
use Rattle.std.specs.Prelude.{ℕ, ◌+◌, ◌&&◌, nat_le, if◌then◌else◌, ℤ, pos, negsuc, codes, List, [], ◌++◌, map}
use Rattle.std.specs.Fmt.{decimal}
use Rattle.std.specs.declared.option.Option.{Option}
use Rattle.std.specs.declared.option.Option.TheVariants.{None, Some}
use Rattle.dm_text.specs.Words.{pid_word}
use Rattle.dm_explain.specs.declared.part.Part.{Part}
use Rattle.dm_explain.specs.declared.part.Part.TheVariants as part

-- a byte as it is shown: one that isn't printed is shown as a question mark
abbrev pub shown_byte : ℕ → ℕ
shown_byte b = if nat_le 32 b && nat_le b 126 then b else 63

unfoldable pub shown : List ℕ → List ℕ
shown text = map shown_byte text

-- a text of a file, in quotation marks
unfoldable pub quoted : List ℕ → List ℕ
quoted text = codes "\"" ++ shown text ++ codes "\""

-- an integer
abbrev pub integer_word : ℤ → List ℕ
integer_word (pos n) = decimal n
integer_word (negsuc n) = codes "-" ++ decimal (n + 1)

unfoldable pub integer_text : Option ℤ → List ℕ
integer_text None = []
integer_text (Some z) = integer_word z

abbrev pub part_text : Part → List ℕ
part_text (part.Text t) = t.now
part_text (part.Count n) = decimal n
part_text (part.Number n) = decimal n
part_text (part.Byte n) = decimal n
part_text (part.Process p) = pid_word p
part_text (part.Integer o) = integer_text o
part_text (part.Name t) = t.now
part_text (part.Quoted t) = quoted t.now
part_text (part.Line t) = quoted t.now
