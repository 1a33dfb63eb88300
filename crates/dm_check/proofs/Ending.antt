-- The lines at the end of a world that is checked.
use Rattle.dm_check.proofs.Names.{◌≡◌, ℕ, true, List, ap, sym, ◌∙◌, subst, None, All, length, Boot, Step, Line, EndLine, ends_of, pieces, WorldState, Went, SaysAs, IsFull, Course, first_line, head_of_line, is_final, judged_from}
use Rattle.dm_check.specs.Judge as judge
use Rattle.dm_check.proofs.Judging.{due_ends}

-- what says what the machines say has their lines at the end, and each has a shape
pub full_there : (b : Boot) (k : Course) (es : List Step) (gs : List (List Line)) (w : WorldState) (ends : List EndLine) → SaysAs b k → Went b es gs w → ends ≡ ends_of b w → All IsFull ends
full_there b k es gs w ends s went said = subst (All IsFull) (s.ends es gs w went ∙ sym said) (s.full es gs w went)

-- where the lines at the end are due, the verdict is that on them
pub ended_by : (b : Boot) (k : Course) (es : List Step) (gs : List (List Line)) (w : WorldState) (number : ℕ) (text : List ℕ) (ends : List EndLine) → SaysAs b k → Went b es gs w → ends ≡ ends_of b w
    → head_of_line (first_line (pieces 10 text)) ≡ None → is_final (first_line (pieces 10 text)) ≡ true → judged_from k (judge.Head es) number (pieces 10 text) ≡ judged_from k (judge.End ends (length es)) number (pieces 10 text)
ended_by b k es gs w number text ends s went said head final =
    due_ends k es number (pieces 10 text) head final ∙ ap (λ (ls : List EndLine). judged_from k (judge.End ls (length es)) number (pieces 10 text)) (s.ends es gs w went ∙ sym said)
