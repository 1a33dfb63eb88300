-- What becomes of the verdict at each line of a text.
use Rattle.dm_check.proofs.Names.{◌≡◌, ◌<◌, ℕ, suc, ◌+◌, ◌==◌, Bool, true, false, if◌then◌else◌, List, [], ◌∷◌, ◌++◌, length, refl, ap, sym, ◌∙◌, subst, append_assoc, arith, Some, None, codes, All, bytes_eq}
use Rattle.dm_check.proofs.Names.{nat_tests, bytes_eq-Decides, Step, Line, EndLine, end_words, EndFits, LineFits, Course}
use Rattle.dm_check.proofs.Names.{pieces, line_words, text, end_text, text_of_ends, text_of_lines, end_words_are, line_words-are, line_bytes, spelled_bytes, pieces_of_line, IsFull, head_step, has_shape, some_piece, cut_is}
use Rattle.dm_check.proofs.Names.{first_is, lines_have, ends_have, heads_have, TraceFault, NotALine, NotDue, NotTheEnd, CheckError, FallsBy, RefusedSo, first_line, head_of_line, is_final, Verdict, Ended, Refused, Due}
use Rattle.dm_check.proofs.Names.{Stands, Falls, is_line_text, behind_line, told, at_end, at_head, begins_group, can_hold, taken, text_ended, judged_from, Stray, StrayedSo}
use Rattle.dm_check.specs.declared.stop.CheckError.TheVariants as stop
use Rattle.dm_check.specs.Judge as judge
use Rattle.dm_check.specs.declared.follow.Stray.TheVariants as stray
pub use Rattle.dm_run.proofs.Going.{if_err}
pub use Rattle.dm_run.proofs.Printing.{text_append as lines_append}

-- a refusal is the verdict
pub refused_as : (v : Verdict) (x : CheckError) (line : ℕ) (f : TraceFault) → x ≡ stop.Refused line f → v ≡ Refused line f → RefusedSo v x
refused_as v x line f e h = subst (RefusedSo v) (sym e) h

-- so is a stray
pub strayed_as : (v : Verdict) (x : Stray) (line : ℕ) (f : TraceFault) (due : Line) → x ≡ stray.Here line f due → v ≡ Refused line f → StrayedSo v x
strayed_as v x line f due e h = subst (StrayedSo v) (sym e) h

-- nothing is left
pub none_left : (xs : List ℕ) → (length xs == 0) ≡ true → xs ≡ []
none_left [] h = refl
none_left (x ∷ xs) h = absurd (some (length (x ∷ xs)) (omega arith) h)
  where
    some : (k : ℕ) → 0 < k → (k == 0) ≡ true → ⊥
    some k m e = let f : k ≡ 0 = grind (arith, nat_tests, e) in omega arith

-- the first line of a text, where more pieces follow
pub first_of : (w : List ℕ) (ps : List (List ℕ)) → (ps ≡ [] → ⊥) → first_line (w ∷ ps) ≡ Some w
first_of w [] some = absurd (some refl)
first_of w (p ∷ ps) some = refl

-- the text is over
pub at_text_end : (c : Course) (due : Due) (number : ℕ) → judged_from c due number (pieces 10 []) ≡ text_ended due number
unfolding pieces
at_text_end c due number = refl

-- the line stands, or falls, or is none of the format; a line feed is behind it
pub goes_from : (c : Course) (due d : Due) (number : ℕ) (l : List ℕ) (ps : List (List ℕ)) → (ps ≡ [] → ⊥) → has_shape l ≡ true → taken c due l ≡ Stands d → judged_from c due number (l ∷ ps) ≡ judged_from c d (number + 1) ps
goes_from c due d number l [] some shape is = absurd (some refl)
goes_from c due d number l (q ∷ ps) some shape is = rw (shape, is) refl

pub falls_from : (c : Course) (due : Due) (f : TraceFault) (number : ℕ) (l : List ℕ) (ps : List (List ℕ)) → (ps ≡ [] → ⊥) → has_shape l ≡ true → taken c due l ≡ Falls f → judged_from c due number (l ∷ ps) ≡ Refused number f
falls_from c due f number l [] some shape is = absurd (some refl)
falls_from c due f number l (q ∷ ps) some shape is = rw (shape, is) refl

pub no_shape_from : (c : Course) (due : Due) (number : ℕ) (l : List ℕ) (ps : List (List ℕ)) → (ps ≡ [] → ⊥) → has_shape l ≡ false → judged_from c due number (l ∷ ps) ≡ Refused number NotALine
no_shape_from c due number l [] some shape = absurd (some refl)
no_shape_from c due number l (q ∷ ps) some shape = rw shape refl

-- no line feed is behind it
pub no_feed : (c : Course) (due : Due) (number : ℕ) (l : List ℕ) → (length l == 0) ≡ false → judged_from c due number (l ∷ []) ≡ Refused number NotALine
no_feed c due number l e = rw e refl

-- two things due that take a line alike
pub taken_alike : (c : Course) (due d : Due) (number : ℕ) (l q : List ℕ) (ps : List (List ℕ)) → taken c due l ≡ taken c d l → judged_from c due number (l ∷ q ∷ ps) ≡ judged_from c d number (l ∷ q ∷ ps)
taken_alike c due d number l q ps e = rw e refl

-- a line is that of a text
pub text_same : (bytes printed : List ℕ) → bytes ++ codes "\n" ≡ printed → is_line_text bytes printed ≡ true
text_same bytes printed e = (bytes_eq-Decides (bytes ++ codes "\n") printed).1 e

pub text_other : (bytes printed : List ℕ) → (bytes ++ codes "\n" ≡ printed → ⊥) → is_line_text bytes printed ≡ false
text_other bytes printed h = by_test (is_line_text bytes printed) refl
  where
    by_test : (t : Bool) → is_line_text bytes printed ≡ t → is_line_text bytes printed ≡ false
    by_test true e = absurd (h ((bytes_eq-Decides (bytes ++ codes "\n") printed).0 e))
    by_test false e = e

-- the line that is due stands
pub line_stands : (c : Course) (l : Line) (ls : List Line) (es : List Step) (number : ℕ) (bytes rest : List ℕ) → LineFits l → bytes ≡ text l ++ rest
    → judged_from c (judge.InGroup l ls es) number (pieces 10 bytes) ≡ judged_from c (behind_line ls es) (number + 1) (pieces 10 rest)
line_stands c l ls es number bytes rest h e =
    let w : List ℕ = line_bytes (line_words l) in
    let is : w ++ codes "\n" ≡ text l = sym (spelled_bytes (line_words l)) in
    ap (λ t. judged_from c (judge.InGroup l ls es) number (pieces 10 t)) e
    ∙ ap (judged_from c (judge.InGroup l ls es) number) (pieces_of_line (line_words l) rest (line_words-are l h))
    ∙ goes_from c (judge.InGroup l ls es) (behind_line ls es) number w (pieces 10 rest) (some_piece 10 rest) (lines_have l w h is)
    (ap (λ (t : Bool). if t then Stands (behind_line ls es) else told c.quantum l (pieces 32 w)) (text_same w (text l) is))

pub end_stands : (c : Course) (l : EndLine) (ls : List EndLine) (n number : ℕ) (bytes rest : List ℕ) → EndFits l → IsFull l → bytes ≡ end_text l ++ rest
    → judged_from c (judge.End (l ∷ ls) n) number (pieces 10 bytes) ≡ judged_from c (judge.End ls n) (number + 1) (pieces 10 rest)
end_stands c l ls n number bytes rest h f e =
    let w : List ℕ = line_bytes (end_words l) in
    let is : w ++ codes "\n" ≡ end_text l = sym (spelled_bytes (end_words l)) in
    ap (λ t. judged_from c (judge.End (l ∷ ls) n) number (pieces 10 t)) e
    ∙ ap (judged_from c (judge.End (l ∷ ls) n) number) (pieces_of_line (end_words l) rest (end_words_are l h))
    ∙ goes_from c (judge.End (l ∷ ls) n) (judge.End ls n) number w (pieces 10 rest) (some_piece 10 rest) (ends_have l w h f is)
    (ap (λ (t : Bool). if t then Stands (judge.End ls n) else Falls NotTheEnd) (text_same w (end_text l) is))

-- all lines of a group stand
pub group_stands : (c : Course) (ls : List Line) (es : List Step) (number : ℕ) (rest : List ℕ) → All LineFits ls
    → judged_from c (behind_line ls es) number (pieces 10 (text_of_lines ls ++ rest)) ≡ judged_from c (judge.Head es) (number + length ls) (pieces 10 rest)
unfolding text_of_lines
group_stands c [] es number rest h = ap (λ k. judged_from c (judge.Head es) k (pieces 10 rest)) (omega arith)
group_stands c (l ∷ ls) es number rest h =
    let here : LineFits l = h 0 l (omega arith) in
    let k : number + 1 + length ls ≡ number + length (l ∷ ls) = omega arith in
    line_stands c l ls es number ((text l ++ text_of_lines ls) ++ rest) (text_of_lines ls ++ rest) here (append_assoc (text l) (text_of_lines ls) rest)
    ∙ group_stands c ls es (number + 1) rest (λ i d x. h (suc i) d (omega arith))
    ∙ ap (λ j. judged_from c (judge.Head es) j (pieces 10 rest)) k

-- all lines at the end stand
pub ends_stand : (c : Course) (ls : List EndLine) (n number : ℕ) → All EndFits ls → All IsFull ls → judged_from c (judge.End ls n) number (pieces 10 (text_of_ends ls)) ≡ Ended n
unfolding text_of_ends
ends_stand c [] n number h f = at_text_end c (judge.End [] n) number
ends_stand c (l ∷ ls) n number h f =
    let here : EndFits l = h 0 l (omega arith) in
    let full : IsFull l = f 0 l (omega arith) in
    end_stands c l ls n number (end_text l ++ text_of_ends ls) (text_of_ends ls) here full refl
    ∙ ends_stand c ls n (number + 1) (λ i d x. h (suc i) d (omega arith)) (λ i d x. f (suc i) d (omega arith))

-- where a text doesn't begin with the line that is due, its first line is another one
pub other_line : (l : Line) (bytes w rest : List ℕ) → ((others : List ℕ) → bytes ≡ text l ++ others → ⊥) → pieces 10 bytes ≡ w ∷ pieces 10 rest → is_line_text w (text l) ≡ false
other_line l bytes w rest other cut =
    let is : bytes ≡ w ++ 10 ∷ rest = cut_is 10 bytes w rest cut in
    text_other w (text l) (λ e. other rest (is ∙ sym (append_assoc w (codes "\n") rest) ∙ ap (λ t. t ++ rest) e))

-- so it is told as that
pub told_other : (c : Course) (l : Line) (ls : List Line) (es : List Step) (bytes w rest : List ℕ) → ((others : List ℕ) → bytes ≡ text l ++ others → ⊥) → pieces 10 bytes ≡ w ∷ pieces 10 rest
    → taken c (judge.InGroup l ls es) w ≡ told c.quantum l (pieces 32 w)
told_other c l ls es bytes w rest other cut = ap (λ (t : Bool). if t then Stands (behind_line ls es) else told c.quantum l (pieces 32 w)) (other_line l bytes w rest other cut)

-- so it falls at the end
pub falls_at_end : (c : Course) (l : EndLine) (ls : List EndLine) (n number : ℕ) (bytes : List ℕ) → ((others : List ℕ) → bytes ≡ end_text l ++ others → ⊥) → FallsBy c (judge.End (l ∷ ls) n) number bytes NotTheEnd
falls_at_end c l ls n number bytes other = record { ends = λ e. refl; lines = λ w is. by_pieces w (pieces 10 bytes) refl is }
  where
    by_pieces : (w : List ℕ) (ps : List (List ℕ)) → pieces 10 bytes ≡ ps → first_line ps ≡ Some w → taken c (judge.End (l ∷ ls) n) w ≡ Falls NotTheEnd
    by_pieces w [] cut is = absurd (cc)
    by_pieces w (p ∷ []) cut is = absurd (cc)
    by_pieces w (p ∷ q ∷ ps) cut is =
        let f : p ≡ w = cc in
        let (rest, e) = first_is 10 bytes p q ps cut in
        let g : bytes ≡ w ++ 10 ∷ rest = e ∙ ap (λ t. t ++ 10 ∷ rest) f in
        let apart = text_other w (end_text l) (λ k. other rest (g ∙ sym (append_assoc w (codes "\n") rest) ∙ ap (λ t. t ++ rest) k)) in
        ap (λ (t : Bool). if t then Stands (judge.End ls n) else Falls NotTheEnd) apart

-- each line of the format falls, and so does the end of the text
pub falls_so : (c : Course) (due : Due) (number : ℕ) (bytes w rest : List ℕ) (f : TraceFault) → FallsBy c due number bytes f → pieces 10 bytes ≡ w ∷ pieces 10 rest → has_shape w ≡ true → judged_from c due number (pieces 10 bytes) ≡ Refused number f
falls_so c due number bytes w rest f h cut shape =
    ap (judged_from c due number) cut ∙ falls_from c due f number w (pieces 10 rest) (some_piece 10 rest) shape (h.lines w (ap first_line cut ∙ first_of (pieces 10 rest) (some_piece 10 rest)))
  where
    first_of : (ps : List (List ℕ)) → (ps ≡ [] → ⊥) → first_line (w ∷ ps) ≡ Some w
    first_of [] some = absurd (some refl)
    first_of (p ∷ ps) some = refl

pub falls_over : (c : Course) (due : Due) (number : ℕ) (bytes : List ℕ) (f : TraceFault) → FallsBy c due number bytes f → bytes ≡ [] → judged_from c due number (pieces 10 bytes) ≡ Refused number f
falls_over c due number bytes f h e = ap (λ t. judged_from c due number (pieces 10 t)) e ∙ at_text_end c due number ∙ h.ends e

-- the group of a head is due
pub taken_group : (c : Course) (es : List Step) (l : List ℕ) (e : Step) (first : Line) (others : List Line) → head_step l ≡ Some e → can_hold c.machines e ≡ true → c.group es e ≡ Some (first ∷ others)
    → taken c (judge.Head es) l ≡ taken c (behind_line (first ∷ others) (es ++ e ∷ [])) l
taken_group c es l e first others head held due =
    ap (at_head c es l) head
    ∙ ap (λ (t : Bool). if t then begins_group c.quantum (c.group es e) (es ++ e ∷ []) l else Falls NotDue) held
    ∙ ap (λ o. begins_group c.quantum o (es ++ e ∷ []) l) due

pub due_group : (c : Course) (es : List Step) (number : ℕ) (ps : List (List ℕ)) (e : Step) (first : Line) (others : List Line) → head_of_line (first_line ps) ≡ Some e → can_hold c.machines e ≡ true → c.group es e ≡ Some (first ∷ others)
    → judged_from c (judge.Head es) number ps ≡ judged_from c (behind_line (first ∷ others) (es ++ e ∷ [])) number ps
due_group c es number [] e first others head held due = absurd (cc)
due_group c es number (l ∷ []) e first others head held due = absurd (cc)
due_group c es number (l ∷ q ∷ ps) e first others head held due = taken_alike c (judge.Head es) (behind_line (first ∷ others) (es ++ e ∷ [])) number l q ps (taken_group c es l e first others head held due)

-- no group is
pub no_group : (c : Course) (es : List Step) (number : ℕ) (ps : List (List ℕ)) (e : Step) → head_of_line (first_line ps) ≡ Some e → ((bytes : List ℕ) → at_head c es bytes (Some e) ≡ Falls NotDue) → judged_from c (judge.Head es) number ps ≡ Refused number NotDue
no_group c es number [] e head none = absurd (cc)
no_group c es number (l ∷ []) e head none = absurd (cc)
no_group c es number (l ∷ q ∷ ps) e head none = falls_from c (judge.Head es) NotDue number l (q ∷ ps) (λ x. cc) (heads_have l e head) (ap (at_head c es l) head ∙ none l)

-- the lines at the end are due
pub taken_ends : (c : Course) (es : List Step) (l : List ℕ) → head_step l ≡ None → bytes_eq l (codes "final") ≡ true → taken c (judge.Head es) l ≡ taken c (judge.End (c.ends es) (length es)) l
taken_ends c es l head is = ap (at_head c es l) head ∙ ap (λ (t : Bool). if t then at_end (c.ends es) (length es) l else Falls NotDue) is

pub due_ends : (c : Course) (es : List Step) (number : ℕ) (ps : List (List ℕ)) → head_of_line (first_line ps) ≡ None → is_final (first_line ps) ≡ true → judged_from c (judge.Head es) number ps ≡ judged_from c (judge.End (c.ends es) (length es)) number ps
due_ends c es number [] head is = absurd (cc)
due_ends c es number (l ∷ []) head is = absurd (cc)
due_ends c es number (l ∷ q ∷ ps) head is = taken_alike c (judge.Head es) (judge.End (c.ends es) (length es)) number l q ps (taken_ends c es l head is)
