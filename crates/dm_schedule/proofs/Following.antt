-- Directives that were read, and the lines that follow.
use Rattle.dm_schedule.proofs.Names.{ℕ, ◌+◌, ◌≡◌, List, [], ◌∷◌, ◌++◌, refl, ap, sym, append_assoc, Option, Some, None, Ok, Err, option_to_list, append-nil, Directive, LineFault, words, Schedule, Accepted, Refused, also, line_directive}
use Rattle.dm_schedule.proofs.Names.{lines_from}

-- some directives, and then those that follow
abbrev pub before : List Directive → Schedule → Schedule
before ds (Accepted more) = Accepted (ds ++ more)
before ds (Refused line fault) = Refused line fault

-- one more directive that was read
pub before_also : (ds : List Directive) (d : Directive) (rest : Schedule) → before ds (also d rest) ≡ before (ds ++ d ∷ []) rest
before_also ds d (Accepted more) = ap Accepted (sym (append_assoc ds (d ∷ []) more))
before_also ds d (Refused line fault) = refl

-- no line is left
pub ends : (machines line : ℕ) (ds : List Directive) → before ds (lines_from machines line []) ≡ Accepted ds
unfolding lines_from
ends machines line ds = ap Accepted (append-nil ds)

-- a line that is bad
pub stops : (machines line : ℕ) (ds : List Directive) (l : List ℕ) (ls : List (List ℕ)) (fault : LineFault) → line_directive machines (words l) ≡ Err fault → before ds (lines_from machines line (l ∷ ls)) ≡ Refused line fault
unfolding lines_from
stops machines line ds l ls fault e = rw e refl

-- a line that says something or nothing
pub goes_on : (machines line : ℕ) (ds : List Directive) (l : List ℕ) (ls : List (List ℕ)) (found : Option Directive) → line_directive machines (words l) ≡ Ok found → before ds (lines_from machines line (l ∷ ls)) ≡ before (ds ++ option_to_list found) (lines_from machines (line + 1) ls)
unfolding lines_from
goes_on machines line ds l ls None e = rw (e, append-nil ds) refl
goes_on machines line ds l ls (Some d) e = rw e (before_also ds d (lines_from machines (line + 1) ls))
