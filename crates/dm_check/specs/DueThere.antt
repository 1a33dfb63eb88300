-- What was due in a line of a text, where each line before it stands.
use Rattle.std.specs.Prelude.{ℕ, zero, suc, ◌+◌, ◌-◌, Bool, true, false, if◌then◌else◌, List, [], ◌∷◌, ◌++◌, length, option_map}
use Rattle.std.specs.declared.option.Option.{Option}
use Rattle.std.specs.declared.option.Option.TheVariants.{None, Some}
use Rattle.dm_schedule.specs.declared.Step.{Step}
use Rattle.dm_line.specs.declared.end_line.EndLine.{EndLine}
use Rattle.dm_line.specs.declared.line.Line.{Line}
use Rattle.dm_line.specs.Todo.{Two}
use Rattle.dm_text.specs.Reading.{pieces}
use Rattle.dm_shape.specs.Shapes.{has_shape}
use Rattle.dm_check.specs.Checking.{first_line, head_of_line, is_final}
use Rattle.dm_check.specs.Judge.{Course, Due, Head, InGroup, Nothing, End, Judgement, Stands, Falls, can_hold, taken}
use Rattle.dm_check.specs.declared.refusal.Group.{Group}
use Rattle.dm_check.specs.declared.refusal.WasDue.{WasDue}
use Rattle.dm_check.specs.declared.refusal.WasDue.TheVariants as was

-- behind the groups of these directives, the pair that the group of one more would wear out, if it would
abbrev pub Wearing : Type 0
Wearing = List Step → Step → Option Two

-- what is told of the last of these directives and of the lines of its group; the groups of others stand before it
abbrev pub told_of_last : Course → List Step → List Step → (Step → List Line → WasDue) → Option WasDue
told_of_last c before [] told = None
told_of_last c before (e ∷ []) told = option_map (told e) (c.group before e)
told_of_last c before (e ∷ d ∷ es) told = told_of_last c (before ++ e ∷ []) (d ∷ es) told

-- a line of a group was due in the line of this number, or in the one before it, and these of the group behind it: so many of its
-- lines stand before, and the first is its head
abbrev pub line_told : (Line → Group → WasDue) → Course → ℕ → Line → List Line → List Step → Option WasDue
line_told told c number l ls es = told_of_last c [] es (λ e group. told l (record { line = number + length (l ∷ ls) - length group; head = e }))

-- these of the lines at the end were
abbrev pub end_told : List EndLine → WasDue
end_told [] = was.Nothing
end_told (e ∷ es) = was.End e

-- a head stands there: its group would wear a pair out, or its first line was due
abbrev pub worn_told : Step → Option Two → WasDue
worn_told e None = was.Head
worn_told e (Some two) = was.Worn two.from two.to e

abbrev pub group_told : ℕ → Step → Option Two → Option (List Line) → WasDue
group_told number e worn None = worn_told e worn
group_told number e worn (Some []) = was.Head
group_told number e worn (Some (l ∷ ls)) = was.Line l (record { line = number; head = e })

-- a head was due, or `final`: what stands there says which
abbrev pub head_told : Course → Wearing → List Step → ℕ → Option Step → Bool → WasDue
head_told c wears es number (Some e) final = if can_hold c.machines e then group_told number e (wears es e) (c.group es e) else was.Head
head_told c wears es number None true = end_told (c.ends es)
head_told c wears es number None false = was.Head

-- what is due, told as that of the line of this number, with which the rest of a text in pieces begins
abbrev pub due_told : Course → Wearing → Due → ℕ → List (List ℕ) → Option WasDue
due_told c wears (Head es) number ps = Some (head_told c wears es number (head_of_line (first_line ps)) (is_final (first_line ps)))
due_told c wears (InGroup l ls es) number ps = line_told was.Line c number l ls es
due_told c wears (Nothing p) number ps = None
due_told c wears (End es n) number ps = Some (end_told es)

-- nothing is due behind a line that says of a process that it ran fewer instructions than it does: so what was due is what was due
-- in that line
abbrev pub before_told : Course → Due → ℕ → Option WasDue
before_told c (InGroup l ls es) number = line_told was.Before c number l ls es
before_told c (Head es) number = None
before_told c (Nothing p) number = None
before_told c (End es n) number = None

-- so it is in the next line; no line stands there, so nothing is due behind that
abbrev pub fewer_told : Course → Due → ℕ → ℕ → Option WasDue
fewer_told c due number zero = before_told c due number
fewer_told c due number (suc n) = None

-- so many lines behind a line of this number, where this was due, if it stands
abbrev pub behind_told : Course → Due → ℕ → ℕ → Judgement → (Due → Option WasDue) → Option WasDue
behind_told c due number n (Falls fault) next = None
behind_told c due number n (Stands (Nothing p)) next = fewer_told c due number n
behind_told c due number n (Stands (Head es)) next = next (Head es)
behind_told c due number n (Stands (InGroup l ls es)) next = next (InGroup l ls es)
behind_told c due number n (Stands (End es k)) next = next (End es k)

-- what was due behind so many lines of a text in pieces, each of which stands, from a line of this number on
abbrev pub due_behind : Course → Wearing → Due → ℕ → ℕ → List (List ℕ) → Option WasDue
due_behind c wears due number zero ps = due_told c wears due number ps
due_behind c wears due number (suc n) [] = None
due_behind c wears due number (suc n) (l ∷ ps) =
    if has_shape l then behind_told c due number n (taken c due l) (λ d. due_behind c wears d (number + 1) n ps) else None

-- what was due in the line of this number, counted from 1, of a text
unfoldable pub was_due : Course → Wearing → List ℕ → ℕ → Option WasDue
was_due c wears bytes zero = None
was_due c wears bytes (suc before) = due_behind c wears (Head []) 1 before (pieces 10 bytes)
