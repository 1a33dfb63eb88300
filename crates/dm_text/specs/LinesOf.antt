-- The lines that a text spells: by the bytes alone, whatever wrote them.
use Rattle.std.specs.Prelude.{ℕ, ◌==◌, if◌then◌else◌, List, [], ◌∷◌, length}
use Rattle.std.specs.declared.option.Option.{Option}
use Rattle.std.specs.declared.option.Option.TheVariants.{None, Some}
use Rattle.dm_line.specs.declared.end_line.EndLine.{EndLine}
use Rattle.dm_line.specs.declared.line.Line.{Line}
use Rattle.dm_text.specs.Reading.{pieces, ◌<*>◌}
use Rattle.dm_text.specs.Rows.{or_else}
use Rattle.dm_text.specs.LabelsOf.{head_named, label_named}
use Rattle.dm_text.specs.GroupsOf.{group_named}
use Rattle.dm_text.specs.EndsOf.{end_named}

-- the line of a name and the words after it
abbrev pub line_named : List ℕ → List (List ℕ) → Option Line
line_named w ws = or_else (head_named w ws) (or_else (label_named w ws) (group_named w ws))

abbrev pub line_of_words : List (List ℕ) → Option Line
line_of_words [] = None
line_of_words (w ∷ ws) = line_named w ws

-- the line of these bytes, which have no line feed
unfoldable pub line_of : List ℕ → Option Line
line_of bytes = line_of_words (pieces 32 bytes)

-- the line of a piece that ends with a line feed, and those after it; nothing may stand after the last line feed
abbrev pub lines_from : List ℕ → List (List ℕ) → Option (List Line)
lines_from p [] = if length p == 0 then Some [] else None
lines_from p (q ∷ ps) = Some (λ l ls. l ∷ ls) <*> line_of p <*> lines_from q ps

-- the lines of these pieces, of which the last stands after the last line feed
abbrev pub lines_in : List (List ℕ) → Option (List Line)
lines_in [] = None
lines_in (p ∷ ps) = lines_from p ps

-- the lines that a text spells, or None where it spells none
unfoldable pub lines_of : List ℕ → Option (List Line)
lines_of bytes = lines_in (pieces 10 bytes)

-- the same of the lines at the end
abbrev pub end_of_words : List (List ℕ) → Option EndLine
end_of_words [] = None
end_of_words (w ∷ ws) = end_named w ws

unfoldable pub end_of : List ℕ → Option EndLine
end_of bytes = end_of_words (pieces 32 bytes)

abbrev pub ends_from : List ℕ → List (List ℕ) → Option (List EndLine)
ends_from p [] = if length p == 0 then Some [] else None
ends_from p (q ∷ ps) = Some (λ e es. e ∷ es) <*> end_of p <*> ends_from q ps

-- what a run prints: the lines of its groups, then the lines at the end
pub record Trace : Type 0 where
  pub lines : List Line
  pub ends : List EndLine

-- a line before others
abbrev pub led_by : Line → Trace → Trace
led_by l t = record { lines = l ∷ t.lines; ends = t.ends }

-- lines at the end alone
abbrev pub at_end : List EndLine → Trace
at_end es = record { lines = []; ends = es }

-- a piece is a line of a group, and the others follow it; or it is one of the lines at the end, and no line of a group follows
abbrev pub led_or_ended : Option Line → Option Trace → Option (List EndLine) → Option Trace
led_or_ended (Some l) rest ends = Some (led_by l) <*> rest
led_or_ended None rest ends = Some at_end <*> ends

abbrev pub trace_from : List ℕ → List (List ℕ) → Option Trace
trace_from p [] = if length p == 0 then Some (at_end []) else None
trace_from p (q ∷ ps) = led_or_ended (line_of p) (trace_from q ps) (ends_from p (q ∷ ps))

abbrev pub trace_in : List (List ℕ) → Option Trace
trace_in [] = None
trace_in (p ∷ ps) = trace_from p ps

-- the lines of groups and at the end that a text spells, or None where it spells none
unfoldable pub trace_of : List ℕ → Option Trace
trace_of bytes = trace_in (pieces 10 bytes)
