-- What was due in a line of a text, line by line.
use Rattle.dm_check.proofs.Names.{◌≡◌, ℕ, zero, suc, ◌+◌, ◌-◌, Bool, true, false, if◌then◌else◌, List, [], ◌∷◌, ◌++◌, length, take, drop, refl, ap, sym, ◌∙◌, append_assoc, append-nil, length-append, arith, option_map, Some, None, Option}
use Rattle.dm_check.proofs.Names.{All, codes, Step, Line, EndLine, EndFits, LineFits, Course, pieces, line_words, end_words, text, end_text, text_of_ends, text_of_lines, line_words-are, end_words_are, line_bytes, spelled_bytes}
use Rattle.dm_check.proofs.Names.{pieces_of_line, IsFull, has_shape, lines_have, ends_have, first_line, head_of_line, is_final, Due, Judgement, Stands, Falls, NotDue, NotTheEnd, is_line_text, behind_line, told, at_end, can_hold, taken}
use Rattle.dm_check.proofs.Names.{Wearing, Group, WasDue, behind_told, due_behind, group_told, head_told, line_told, told_of_last}
use Rattle.dm_link.specs.declared.Pid.{Pid}
use Rattle.dm_line.specs.declared.line.Line.TheVariants as line
use Rattle.dm_check.specs.Judge as judge
use Rattle.dm_check.specs.declared.refusal.WasDue.TheVariants as was
use Rattle.dm_check.proofs.Judging.{taken_ends, taken_group, text_same}

-- something is due, or the line falls: no line says of a process that it ran fewer instructions
abbrev IsGoing : Due → Type 0
IsGoing (judge.Head es) = Unit {0}
IsGoing (judge.InGroup l ls es) = Unit {0}
IsGoing (judge.Nothing p) = ⊥
IsGoing (judge.End es n) = Unit {0}

abbrev IsPlain : Judgement → Type 0
IsPlain (Stands d) = IsGoing d
IsPlain (Falls f) = Unit {0}

behind_goes : (ls : List Line) (es : List Step) → IsGoing (behind_line ls es)
behind_goes [] es = tt
behind_goes (l ∷ ls) es = tt

next_is : (c : Course) (due d : Due) (number n : ℕ) (next : Due → Option WasDue) → IsGoing d → behind_told c due number n (Stands d) next ≡ next d
next_is c due (judge.Head es) number n next h = refl
next_is c due (judge.InGroup l ls es) number n next h = refl
next_is c due (judge.Nothing p) number n next h = absurd h
next_is c due (judge.End es k) number n next h = refl

-- two things due that take a line alike
told_alike : (c : Course) (due d : Due) (number n : ℕ) (next : Due → Option WasDue) (j : Judgement) → IsPlain j → behind_told c due number n j next ≡ behind_told c d number n j next
told_alike c due d number n next (Stands (judge.Head es)) h = refl
told_alike c due d number n next (Stands (judge.InGroup l ls es)) h = refl
told_alike c due d number n next (Stands (judge.Nothing p)) h = absurd h
told_alike c due d number n next (Stands (judge.End es k)) h = refl
told_alike c due d number n next (Falls f) h = refl

-- a line stands
due_from : (c : Course) (wears : Wearing) (due : Due) (number n : ℕ) (l : List ℕ) (ps : List (List ℕ)) (j : Judgement) → has_shape l ≡ true → taken c due l ≡ j
    → due_behind c wears due number (suc n) (l ∷ ps) ≡ behind_told c due number n j (λ d. due_behind c wears d (number + 1) n ps)
due_from c wears due number n l ps j shape is =
    ap (λ (t : Bool). if t then behind_told c due number n (taken c due l) (λ d. due_behind c wears d (number + 1) n ps) else None) shape
    ∙ ap (λ (k : Judgement). behind_told c due number n k (λ d. due_behind c wears d (number + 1) n ps)) is

due_goes : (c : Course) (wears : Wearing) (due d : Due) (number n : ℕ) (l : List ℕ) (ps : List (List ℕ)) → has_shape l ≡ true → taken c due l ≡ Stands d → IsGoing d → due_behind c wears due number (suc n) (l ∷ ps) ≡ due_behind c wears d (number + 1) n ps
due_goes c wears due d number n l ps shape is going = due_from c wears due number n l ps (Stands d) shape is ∙ next_is c due d number n (λ d. due_behind c wears d (number + 1) n ps) going

-- it says of a process that it ran fewer instructions
pub due_fewer : (c : Course) (wears : Wearing) (l : Line) (ls : List Line) (es : List Step) (number : ℕ) (w : List ℕ) (ps : List (List ℕ)) (p : Pid) → has_shape w ≡ true → taken c (judge.InGroup l ls es) w ≡ Stands (judge.Nothing p)
    → due_behind c wears (judge.InGroup l ls es) number 1 (w ∷ ps) ≡ line_told was.Before c number l ls es
due_fewer c wears l ls es number w ps p shape is = due_from c wears (judge.InGroup l ls es) number 0 w ps (Stands (judge.Nothing p)) shape is

-- the line that is due stands
line_due : (c : Course) (wears : Wearing) (l : Line) (ls : List Line) (es : List Step) (number n : ℕ) (bytes rest : List ℕ) → LineFits l → bytes ≡ text l ++ rest
    → due_behind c wears (judge.InGroup l ls es) number (suc n) (pieces 10 bytes) ≡ due_behind c wears (behind_line ls es) (number + 1) n (pieces 10 rest)
line_due c wears l ls es number n bytes rest h e =
    let w : List ℕ = line_bytes (line_words l) in
    let is : w ++ codes "\n" ≡ text l = sym (spelled_bytes (line_words l)) in
    ap (λ t. due_behind c wears (judge.InGroup l ls es) number (suc n) (pieces 10 t)) e
    ∙ ap (due_behind c wears (judge.InGroup l ls es) number (suc n)) (pieces_of_line (line_words l) rest (line_words-are l h))
    ∙ due_goes c wears (judge.InGroup l ls es) (behind_line ls es) number n w (pieces 10 rest) (lines_have l w h is)
    (ap (λ (t : Bool). if t then Stands (behind_line ls es) else told c.quantum l (pieces 32 w)) (text_same w (text l) is))
    (behind_goes ls es)

end_due : (c : Course) (wears : Wearing) (l : EndLine) (ls : List EndLine) (k number n : ℕ) (bytes rest : List ℕ) → EndFits l → IsFull l → bytes ≡ end_text l ++ rest
    → due_behind c wears (judge.End (l ∷ ls) k) number (suc n) (pieces 10 bytes) ≡ due_behind c wears (judge.End ls k) (number + 1) n (pieces 10 rest)
end_due c wears l ls k number n bytes rest h f e =
    let w : List ℕ = line_bytes (end_words l) in
    let is : w ++ codes "\n" ≡ end_text l = sym (spelled_bytes (end_words l)) in
    ap (λ t. due_behind c wears (judge.End (l ∷ ls) k) number (suc n) (pieces 10 t)) e
    ∙ ap (due_behind c wears (judge.End (l ∷ ls) k) number (suc n)) (pieces_of_line (end_words l) rest (end_words_are l h))
    ∙ due_goes c wears (judge.End (l ∷ ls) k) (judge.End ls k) number n w (pieces 10 rest) (ends_have l w h f is)
    (ap (λ (t : Bool). if t then Stands (judge.End ls k) else Falls NotTheEnd) (text_same w (end_text l) is))
    tt

-- the first lines of a group stand
pub front_due : (c : Course) (wears : Wearing) (front back : List Line) (es : List Step) (number n : ℕ) (rest : List ℕ) → All LineFits front
    → due_behind c wears (behind_line (front ++ back) es) number (length front + n) (pieces 10 (text_of_lines front ++ rest)) ≡ due_behind c wears (behind_line back es) (number + length front) n (pieces 10 rest)
unfolding text_of_lines
front_due c wears [] back es number n rest h =
    let none : 0 + n ≡ n = omega arith in
    let same : number ≡ number + 0 = omega arith in
    ap (λ k. due_behind c wears (behind_line back es) number k (pieces 10 rest)) none ∙ ap (λ k. due_behind c wears (behind_line back es) k n (pieces 10 rest)) same
front_due c wears (l ∷ ls) back es number n rest h =
    let here : LineFits l = h 0 l (omega arith) in
    let more : length (l ∷ ls) + n ≡ suc (length ls + n) = omega arith in
    let last : number + 1 + length ls ≡ number + length (l ∷ ls) = omega arith in
    ap (λ k. due_behind c wears (judge.InGroup l (ls ++ back) es) number k (pieces 10 ((text l ++ text_of_lines ls) ++ rest))) more
    ∙ line_due c wears l (ls ++ back) es number (length ls + n) ((text l ++ text_of_lines ls) ++ rest) (text_of_lines ls ++ rest) here (append_assoc (text l) (text_of_lines ls) rest)
    ∙ front_due c wears ls back es (number + 1) n rest (λ i d x. h (suc i) d (omega arith))
    ∙ ap (λ k. due_behind c wears (behind_line back es) k n (pieces 10 rest)) last

-- the first of the lines at the end
pub ends_due : (c : Course) (wears : Wearing) (front back : List EndLine) (k number n : ℕ) (rest : List ℕ) → All EndFits front → All IsFull front
    → due_behind c wears (judge.End (front ++ back) k) number (length front + n) (pieces 10 (text_of_ends front ++ rest)) ≡ due_behind c wears (judge.End back k) (number + length front) n (pieces 10 rest)
unfolding text_of_ends
ends_due c wears [] back k number n rest h f =
    let none : 0 + n ≡ n = omega arith in
    let same : number ≡ number + 0 = omega arith in
    ap (λ j. due_behind c wears (judge.End back k) number j (pieces 10 rest)) none ∙ ap (λ j. due_behind c wears (judge.End back k) j n (pieces 10 rest)) same
ends_due c wears (l ∷ ls) back k number n rest h f =
    let here : EndFits l = h 0 l (omega arith) in
    let full : IsFull l = f 0 l (omega arith) in
    let more : length (l ∷ ls) + n ≡ suc (length ls + n) = omega arith in
    let last : number + 1 + length ls ≡ number + length (l ∷ ls) = omega arith in
    ap (λ j. due_behind c wears (judge.End (l ∷ (ls ++ back)) k) number j (pieces 10 ((end_text l ++ text_of_ends ls) ++ rest))) more
    ∙ end_due c wears l (ls ++ back) k number (length ls + n) ((end_text l ++ text_of_ends ls) ++ rest) (text_of_ends ls ++ rest) here full (append_assoc (end_text l) (text_of_ends ls) rest)
    ∙ ends_due c wears ls back k (number + 1) n rest (λ i d x. h (suc i) d (omega arith)) (λ i d x. f (suc i) d (omega arith))
    ∙ ap (λ j. due_behind c wears (judge.End back k) j n (pieces 10 rest)) last

-- a head takes its own line alone, and so do the lines at the end
plain_test : (others : List Line) (es : List Step) (t : Bool) → IsPlain (if t then Stands (behind_line others es) else Falls NotDue)
plain_test others es true = behind_goes others es
plain_test others es false = tt

end_test : (es : List EndLine) (n : ℕ) (t : Bool) → IsPlain (if t then Stands (judge.End es n) else Falls NotTheEnd)
end_test es n true = tt
end_test es n false = tt

plain_end : (es : List EndLine) (n : ℕ) (l : List ℕ) → IsPlain (at_end es n l)
plain_end [] n l = tt
plain_end (e ∷ es) n l = end_test es n (is_line_text l (end_text e))

-- the group of a head is due
pub head_due : (c : Course) (wears : Wearing) (es : List Step) (number n : ℕ) (ps : List (List ℕ)) (e : Step) (others : List Line) → head_of_line (first_line ps) ≡ Some e → can_hold c.machines e ≡ true → c.group es e ≡ Some (line.Head e ∷ others)
    → due_behind c wears (judge.Head es) number (suc n) ps ≡ due_behind c wears (judge.InGroup (line.Head e) others (es ++ e ∷ [])) number (suc n) ps
head_due c wears es number n [] e others head held due = absurd (cc)
head_due c wears es number n (l ∷ []) e others head held due = absurd (cc)
head_due c wears es number n (l ∷ q ∷ ps) e others head held due =
    let d : Due = judge.InGroup (line.Head e) others (es ++ e ∷ []) in
    let next : Due → Option WasDue = λ d. due_behind c wears d (number + 1) n (q ∷ ps) in
    by_shape (has_shape l) (ap (λ (j : Judgement). behind_told c (judge.Head es) number n j next) (taken_group c es l e (line.Head e) others head held due)
    ∙ told_alike c (judge.Head es) d number n next (taken c d l) (plain_test others (es ++ e ∷ []) (is_line_text l (text (line.Head e)))))
  where
    by_shape : {x y : Option WasDue} (t : Bool) → x ≡ y → (if t then x else None) ≡ (if t then y else None)
    by_shape true e = e
    by_shape false e = refl

-- the lines at the end are
pub final_due : (c : Course) (wears : Wearing) (es : List Step) (number n : ℕ) (ps : List (List ℕ)) → head_of_line (first_line ps) ≡ None → is_final (first_line ps) ≡ true
    → due_behind c wears (judge.Head es) number (suc n) ps ≡ due_behind c wears (judge.End (c.ends es) (length es)) number (suc n) ps
final_due c wears es number n [] head is = absurd (cc)
final_due c wears es number n (l ∷ []) head is = absurd (cc)
final_due c wears es number n (l ∷ q ∷ ps) head is =
    let d : Due = judge.End (c.ends es) (length es) in
    let next : Due → Option WasDue = λ d. due_behind c wears d (number + 1) n (q ∷ ps) in
    by_shape (has_shape l) (ap (λ (j : Judgement). behind_told c (judge.Head es) number n j next) (taken_ends c es l head is)
    ∙ told_alike c (judge.Head es) d number n next (taken c d l) (plain_end (c.ends es) (length es) l))
  where
    by_shape : {x y : Option WasDue} (t : Bool) → x ≡ y → (if t then x else None) ≡ (if t then y else None)
    by_shape true e = e
    by_shape false e = refl

-- what is told of the last directive and its group
pub last_told : (c : Course) (before es : List Step) (e : Step) (told : Step → List Line → WasDue) → told_of_last c before (es ++ e ∷ []) told ≡ option_map (told e) (c.group (before ++ es) e)
last_told c before [] e told = ap (λ (ds : List Step). option_map (told e) (c.group ds e)) (sym (append-nil before))
last_told c before (d ∷ []) e told = refl
last_told c before (d ∷ x ∷ xs) e told = last_told c (before ++ d ∷ []) (x ∷ xs) e told ∙ ap (λ (ds : List Step). option_map (told e) (c.group ds e)) (append_assoc before (d ∷ []) (x ∷ xs))

-- lines that are cut in two
pub cut_at : {X : Type 0} (i : ℕ) (xs : List X) (d : X) (ys : List X) → drop i xs ≡ d ∷ ys → (length (take i xs) ≡ i) × (take i xs ++ d ∷ ys ≡ xs)
cut_at zero xs d ys e = (refl, sym e)
cut_at (suc i) [] d ys e = absurd (cc)
cut_at (suc i) (x ∷ xs) d ys e = let (size, is) = cut_at i xs d ys e in (omega (arith, size), ap (λ t. x ∷ t) is)

-- a line of the group of a head
pub line_told_is : (c : Course) (told : Line → Group → WasDue) (es : List Step) (e : Step) (lines : List Line) (number i : ℕ) (d : Line) (others : List Line) → c.group es e ≡ Some lines → drop i lines ≡ d ∷ others
    → line_told told c (number + i) d others (es ++ e ∷ []) ≡ Some (told d (record { line = number; head = e }))
line_told_is c told es e lines number i d others due left =
    let (size, is) = cut_at i lines d others left in
    let whole : length lines ≡ length (take i lines ++ d ∷ others) = ap (λ (ls : List Line). length ls) (sym is) in
    let count : number + i + length (d ∷ others) - length lines ≡ number = omega (arith, size, whole, length-append (take i lines) (d ∷ others)) in
    last_told c [] es e (λ (x : Step) (group : List Line). told d (record { line = number + i + length (d ∷ others) - length group; head = x }))
    ∙ ap (option_map (λ (group : List Line). told d (record { line = number + i + length (d ∷ others) - length group; head = e }))) due
    ∙ ap (λ (k : ℕ). Some (told d (record { line = k; head = e }))) count

-- a head that begins a group was due itself
pub head_told_is : (c : Course) (wears : Wearing) (es : List Step) (number : ℕ) (ps : List (List ℕ)) (e : Step) (l : Line) (others : List Line) → head_of_line (first_line ps) ≡ Some e → can_hold c.machines e ≡ true → c.group es e ≡ Some (l ∷ others)
    → due_behind c wears (judge.Head es) number zero ps ≡ Some (was.Line l (record { line = number; head = e }))
head_told_is c wears es number ps e l others head held due =
    ap (λ o. Some (head_told c wears es number o (is_final (first_line ps)))) head
    ∙ ap (λ (t : Bool). Some (if t then group_told number e (wears es e) (c.group es e) else was.Head)) held
    ∙ ap (λ o. Some (group_told number e (wears es e) o)) due
