-- With the line that was due in its place, no line up to it is refused.
use Rattle.dm_law_runs.proofs.Names.{◌≡◌, ◌<◌, ℕ, zero, suc, ◌+◌, ◌-◌, inl, inr, take, length-append, rule_ends, Bool, true, false, if◌then◌else◌, List, [], ◌∷◌, ◌++◌, length, codes, refl, ap, sym, ◌∙◌, subst, arith, Option, Boot, Step}
use Rattle.dm_law_runs.proofs.Names.{Line, EndLine, Spelled, Two, Point, first_point, group_of, worn_in, bind, bind-is}
use Rattle.std.proofs.Common.{Some, None}
use Rattle.dm_law_runs.proofs.Names.{pieces, text, end_text, heads_read, head_step, has_shape, LineFits, EndFits, IsFull, TraceFault, NotDue, NotTheEnd, Course, Due, Head, InGroup, End, Refused, Judgement, first_line, head_of_line, is_final}
use Rattle.dm_check.specs.Judge.{Stands, Falls}
use Rattle.dm_law_runs.proofs.Names.{taken, judged, judged_from, told, at_end, at_head, begins_group, behind_line, can_hold, verdict, verdict_by, by_rule, led, rule_group, unless_worn}
use Rattle.std.specs.Prelude.{◌⊎◌, option_map}
use Rattle.dm_line.specs.declared.end_line.EndLine.TheVariants as end
use Rattle.dm_line.specs.declared.line.Line.TheVariants as line
use Rattle.dm_shape.proofs.ShapeLaws.{ends_have, lines_have}
use Rattle.dm_check.specs.DueThere.{Wearing, before_told, behind_told, due_behind, due_told, end_told, fewer_told, group_told, head_told, line_told, told_of_last, worn_told}
unfoldable use Rattle.dm_check.specs.DueThere.{was_due}
use Rattle.dm_check.specs.Judge as judge
use Rattle.dm_check.specs.declared.refusal.Group.{Group}
use Rattle.dm_check.specs.declared.refusal.WasDue.{WasDue}
use Rattle.dm_check.specs.declared.refusal.WasDue.TheVariants as was
use Rattle.dm_check.proofs.Judging.{goes_from, text_same}
use Rattle.dm_law_runs.specs.Traces.DueStands.{DueLinesStand, HasInPlace, worn_by_rule}
unfoldable use Rattle.dm_law_runs.specs.Traces.DueStands.{due_by_rule}
use Rattle.dm_law_runs.proofs.Traces.First.{from_here}
use Rattle.dm_law_runs.proofs.Traces.Groups.{group_head}

-- each group of a system begins with its head
abbrev IsHeadedBy : Course → Type 0
IsHeadedBy c = (es : List Step) (e : Step) (ls : List Line) → c.group es e ≡ Some ls → (rest : List Line) × (ls ≡ line.Head e ∷ rest)

-- a line with its line feed stands there
record Standing (c : Course) (due : Due) (w : List ℕ) : Type 0 where
  next : Due
  shape : has_shape w ≡ true
  stands : taken c due w ≡ Stands next

-- so no line up to it is refused
stands_on : (c : Course) (due : Due) (number m : ℕ) (f : TraceFault) (w q : List ℕ) (qs : List (List ℕ)) → Standing c due w → judged_from c due number (w ∷ q ∷ qs) ≡ Refused m f → number < m
stands_on c due number m f w q qs s is =
    let more : judged c s.next (number + 1) q qs ≡ Refused m f = sym (goes_from c due s.next number w (q ∷ qs) (λ e. cc) s.shape s.stands) ∙ is in
    let k = from_here c s.next (number + 1) m f q qs more in
    omega (arith, k)

-- a line of a group that is due
line_standing : (c : Course) (l : Line) (ls : List Line) (es : List Step) (w : List ℕ) → LineFits l → w ++ codes "\n" ≡ text l → Standing c (InGroup l ls es) w
line_standing c l ls es w fits is = record {
  next = behind_line ls es;
  shape = lines_have l w fits is;
  stands = ap (λ (t : Bool). if t then Stands (behind_line ls es) else told c.quantum l (pieces 32 w)) (text_same w (text l) is);
}

end_standing : (c : Course) (e : EndLine) (es : List EndLine) (n : ℕ) (w : List ℕ) → EndFits e → IsFull e → w ++ codes "\n" ≡ end_text e → Standing c (End (e ∷ es) n) w
end_standing c e es n w fits full is = record {
  next = End es n;
  shape = ends_have e w fits full is;
  stands = ap (λ (t : Bool). if t then Stands (End es n) else Falls NotTheEnd) (text_same w (end_text e) is);
}

-- the head of a group that is due
head_standing : (c : Course) (es : List Step) (e : Step) (others : List Line) (w : List ℕ) → can_hold c.machines e ≡ true → c.group es e ≡ Some (line.Head e ∷ others) → LineFits (line.Head e) → w ++ codes "\n" ≡ text (line.Head e) → Standing c (Head es) w
head_standing c es e others w held group fits is = record {
  next = behind_line others (es ++ e ∷ []);
  shape = lines_have (line.Head e) w fits is;
  stands =
      ap (at_head c es w) (heads_read e w fits is)
      ∙ ap (λ (t : Bool). if t then begins_group c.quantum (c.group es e) (es ++ e ∷ []) w else Falls NotDue) held
      ∙ ap (λ o. begins_group c.quantum o (es ++ e ∷ []) w) group
      ∙ ap (λ (t : Bool). if t then Stands (behind_line others (es ++ e ∷ [])) else told c.quantum (line.Head e) (pieces 32 w)) (text_same w (text (line.Head e)) is);
}

-- what is told of the last directive is of the line that is due
mapped_line : (l m : Line) (at : List Line → Group) (g : Group) (o : Option (List Line)) → option_map (λ (group : List Line). was.Line l (at group)) o ≡ Some (was.Line m g) → l ≡ m
mapped_line l m at g None e = absurd (cc)
mapped_line l m at g (Some ls) e = cc

told_line : (c : Course) (before es : List Step) (l m : Line) (at : Step → List Line → Group) (g : Group) → told_of_last c before es (λ (e : Step) (group : List Line). was.Line l (at e group)) ≡ Some (was.Line m g) → l ≡ m
told_line c before [] l m at g e = absurd (cc)
told_line c before (d ∷ []) l m at g e = mapped_line l m (at d) g (c.group before d) e
told_line c before (d ∷ x ∷ xs) l m at g e = told_line c (before ++ d ∷ []) (x ∷ xs) l m at g e

mapped_before : (l m : Line) (at : List Line → Group) (g : Group) (o : Option (List Line)) → option_map (λ (group : List Line). was.Before l (at group)) o ≡ Some (was.Before m g) → l ≡ m
mapped_before l m at g None e = absurd (cc)
mapped_before l m at g (Some ls) e = cc

told_before : (c : Course) (before es : List Step) (l m : Line) (at : Step → List Line → Group) (g : Group) → told_of_last c before es (λ (e : Step) (group : List Line). was.Before l (at e group)) ≡ Some (was.Before m g) → l ≡ m
told_before c before [] l m at g e = absurd (cc)
told_before c before (d ∷ []) l m at g e = mapped_before l m (at d) g (c.group before d) e
told_before c before (d ∷ x ∷ xs) l m at g e = told_before c (before ++ d ∷ []) (x ∷ xs) l m at g e

-- and of no other sort
abbrev IsLine : WasDue → Type 0
IsLine (was.Line l g) = Unit {0}
IsLine _ = ⊥

abbrev IsBefore : WasDue → Type 0
IsBefore (was.Before l g) = Unit {0}
IsBefore _ = ⊥

abbrev IsSuch : (WasDue → Type 0) → Option WasDue → Type 0
IsSuch P None = Unit {0}
IsSuch P (Some d) = P d

mapped_such : (P : WasDue → Type 0) (told : List Line → WasDue) (o : Option (List Line)) → ((ls : List Line) → P (told ls)) → IsSuch P (option_map told o)
mapped_such P told None h = tt
mapped_such P told (Some ls) h = h ls

last_such : (P : WasDue → Type 0) (c : Course) (before es : List Step) (told : Step → List Line → WasDue) → ((e : Step) (ls : List Line) → P (told e ls)) → IsSuch P (told_of_last c before es told)
last_such P c before [] told h = tt
last_such P c before (d ∷ []) told h = mapped_such P (told d) (c.group before d) (h d)
last_such P c before (d ∷ x ∷ xs) told h = last_such P c (before ++ d ∷ []) (x ∷ xs) told h

such_is : (P : WasDue → Type 0) (o : Option WasDue) (d : WasDue) → o ≡ Some d → IsSuch P o → P d
such_is P o d e h = subst (IsSuch P) e h

-- where a head is due, or the lines at the end: what is told is a line of a group only if it begins one
record Begins (c : Course) (es : List Step) (l : Line) : Type 0 where
  head : Step
  others : List Line
  is : l ≡ line.Head head
  held : can_hold c.machines head ≡ true
  group : c.group es head ≡ Some (line.Head head ∷ others)

end_no_line : (es : List EndLine) (l : Line) (g : Group) → end_told es ≡ was.Line l g → ⊥
end_no_line [] l g e = cc
end_no_line (x ∷ es) l g e = cc

worn_no_line : (d : Step) (o : Option Two) (l : Line) (g : Group) → worn_told d o ≡ was.Line l g → ⊥
worn_no_line d None l g e = cc
worn_no_line d (Some two) l g e = cc

head_line : (c : Course) (wears : Wearing) (es : List Step) (number : ℕ) (l : Line) (g : Group) (o : Option Step) (final : Bool) → IsHeadedBy c → head_told c wears es number o final ≡ was.Line l g → Begins c es l
head_line c wears es number l g None true headed e = absurd (end_no_line (c.ends es) l g e)
head_line c wears es number l g None false headed e = absurd (cc)
head_line c wears es number l g (Some d) final headed e = by_held (can_hold c.machines d) refl e
  where
    by_group : (o : Option (List Line)) → can_hold c.machines d ≡ true → c.group es d ≡ o → group_told number d (wears es d) o ≡ was.Line l g → Begins c es l
    by_group None held group is = absurd (worn_no_line d (wears es d) l g is)
    by_group (Some []) held group is = absurd (cc)
    by_group (Some (x ∷ xs)) held group is =
        let (rest, begins) = headed es d (x ∷ xs) group in
        let same : x ≡ l = cc in
        let first : x ≡ line.Head d = cc in
        record { head = d; others = rest; is = sym same ∙ first; held = held; group = group ∙ ap (λ (ls : List Line). Some ls) begins }

    by_held : (t : Bool) → can_hold c.machines d ≡ t → (if t then group_told number d (wears es d) (c.group es d) else was.Head) ≡ was.Line l g → Begins c es l
    by_held true held is = by_group (c.group es d) held refl is
    by_held false held is = absurd (cc)

-- a line of a group was due there
there_line : (c : Course) (wears : Wearing) (due : Due) (number : ℕ) (ps : List (List ℕ)) (l : Line) (g : Group) (w : List ℕ) → IsHeadedBy c → due_told c wears due number ps ≡ Some (was.Line l g) → LineFits l → w ++ codes "\n" ≡ text l → Standing c due w
there_line c wears (Head es) number ps l g w headed e fits is =
    let told : head_told c wears es number (head_of_line (first_line ps)) (is_final (first_line ps)) ≡ was.Line l g = cc in
    let k = head_line c wears es number l g (head_of_line (first_line ps)) (is_final (first_line ps)) headed told in
    head_standing c es k.head k.others w k.held k.group (subst LineFits k.is fits) (is ∙ ap text k.is)
there_line c wears (InGroup x ls es) number ps l g w headed e fits is =
    let same : x ≡ l = told_line c [] es x l (λ e group. record { line = number + length (x ∷ ls) - length group; head = e }) g e in
    line_standing c x ls es w (subst LineFits (sym same) fits) (is ∙ ap text (sym same))
there_line c wears (judge.Nothing p) number ps l g w headed e fits is = absurd (cc)
there_line c wears (End es n) number ps l g w headed e fits is = absurd (end_no_line es l g (let k : end_told es ≡ was.Line l g = cc in k))

-- so was one in the line before
before_line : (c : Course) (due : Due) (number : ℕ) (l : Line) (g : Group) (w : List ℕ) → before_told c due number ≡ Some (was.Before l g) → LineFits l → w ++ codes "\n" ≡ text l → Standing c due w
before_line c (Head es) number l g w e fits is = absurd (cc)
before_line c (InGroup x ls es) number l g w e fits is =
    let same : x ≡ l = told_before c [] es x l (λ e group. record { line = number + length (x ∷ ls) - length group; head = e }) g e in
    line_standing c x ls es w (subst LineFits (sym same) fits) (is ∙ ap text (sym same))
before_line c (judge.Nothing p) number l g w e fits is = absurd (cc)
before_line c (End es n) number l g w e fits is = absurd (cc)

-- and one of those at the end: `final` is their first
abbrev IsFinalBy : Course → Type 0
IsFinalBy c = (es : List Step) → (c.ends es ≡ []) ⊎ ((rest : List EndLine) × (c.ends es ≡ end.Final ∷ rest))

take_own : (w ys : List ℕ) → take (length w) (w ++ ys) ≡ w
take_own [] ys = refl
take_own (x ∷ xs) ys = ap (λ (t : List ℕ). x ∷ t) (take_own xs ys)

final_is : (w : List ℕ) → w ++ codes "\n" ≡ end_text end.Final → w ≡ codes "final"
final_is w is =
    let size : length w ≡ 5 = let k : length (w ++ codes "\n") ≡ 6 = ap length is in omega (arith, k, length-append w (codes "\n")) in
    sym (take_own w (codes "\n")) ∙ ap (λ (n : ℕ). take n (w ++ codes "\n")) size ∙ ap (λ (t : List ℕ). take 5 t) is

final_taken : (c : Course) (es : List Step) (rest : List EndLine) (w : List ℕ) → c.ends es ≡ end.Final ∷ rest → w ++ codes "\n" ≡ end_text end.Final → taken c (Head es) w ≡ Stands (End rest (length es))
unfolding head_step pieces
final_taken c es rest w ends is =
    ap (λ (t : List ℕ). taken c (Head es) t) (final_is w is) ∙ ap (λ (xs : List EndLine). at_end xs (length es) (codes "final")) ends

end_is : (es : List EndLine) (e : EndLine) → end_told es ≡ was.End e → (rest : List EndLine) × (es ≡ e ∷ rest)
end_is [] e h = absurd (cc)
end_is (x ∷ es) e h = let same : x ≡ e = cc in (es, ap (λ (y : EndLine). y ∷ es) same)

group_no_end : (number : ℕ) (d : Step) (o : Option Two) (ls : Option (List Line)) (e : EndLine) → group_told number d o ls ≡ was.End e → ⊥
group_no_end number d None None e h = cc
group_no_end number d (Some two) None e h = cc
group_no_end number d o (Some []) e h = cc
group_no_end number d o (Some (l ∷ ls)) e h = cc

head_end : (c : Course) (wears : Wearing) (es : List Step) (number : ℕ) (e : EndLine) (o : Option Step) (final : Bool) → head_told c wears es number o final ≡ was.End e → (rest : List EndLine) × (c.ends es ≡ e ∷ rest)
head_end c wears es number e None true h = end_is (c.ends es) e h
head_end c wears es number e None false h = absurd (cc)
head_end c wears es number e (Some d) final h = absurd (by_held (can_hold c.machines d) h)
  where
    by_held : (t : Bool) → (if t then group_told number d (wears es d) (c.group es d) else was.Head) ≡ was.End e → ⊥
    by_held true k = group_no_end number d (wears es d) (c.group es d) e k
    by_held false k = cc

there_end : (c : Course) (wears : Wearing) (due : Due) (number : ℕ) (ps : List (List ℕ)) (e : EndLine) (w : List ℕ) → IsFinalBy c → due_told c wears due number ps ≡ Some (was.End e) → EndFits e → IsFull e → w ++ codes "\n" ≡ end_text e → Standing c due w
there_end c wears (Head es) number ps e w finals h fits full is =
    let told : head_told c wears es number (head_of_line (first_line ps)) (is_final (first_line ps)) ≡ was.End e = cc in
    let (others, ends) = head_end c wears es number e (head_of_line (first_line ps)) (is_final (first_line ps)) told in
    elim (finals es) [
      | inl none ↦ absurd (let bad : e ∷ others ≡ [] = sym ends ∙ none in cc)
      | inr some ↦
          let both : e ∷ others ≡ end.Final ∷ some.0 = sym ends ∙ some.1 in
          let first : e ≡ end.Final = cc in
          record { next = End some.0 (length es); shape = ends_have e w fits full is; stands = final_taken c es some.0 w some.1 (is ∙ ap end_text first) }
    ]
there_end c wears (InGroup x ls es) number ps e w finals h fits full is =
    absurd (such_is IsLine (line_told was.Line c number x ls es) (was.End e) h (last_such IsLine c [] es (λ d group. was.Line x (record { line = number + length (x ∷ ls) - length group; head = d })) (λ d group. tt)))
there_end c wears (judge.Nothing p) number ps e w finals h fits full is = absurd (cc)
there_end c wears (End es n) number ps e w finals h fits full is =
    let told : end_told es ≡ was.End e = cc in
    let (others, ends) = end_is es e told in
    subst (λ (xs : List EndLine). Standing c (End xs n) w) (sym ends) (end_standing c e others n w fits full is)

-- a line that stands, or that says of a process that it ran fewer instructions
data Onward (c : Course) (wears : Wearing) (due : Due) (number n : ℕ) (p : List ℕ) (ps : List (List ℕ)) (x : WasDue) : Type 0 where
  On : has_shape p ≡ true → (d : Due) → taken c due p ≡ Stands d → due_behind c wears d (number + 1) n ps ≡ Some x → Onward c wears due number n p ps x
  Here : n ≡ 0 → before_told c due number ≡ Some x → Onward c wears due number n p ps x

fewer_is : (c : Course) (due : Due) (number n : ℕ) (x : WasDue) → fewer_told c due number n ≡ Some x → (n ≡ 0) × (before_told c due number ≡ Some x)
fewer_is c due number zero x e = (refl, e)
fewer_is c due number (suc n) x e = absurd (cc)

onward : (c : Course) (wears : Wearing) (due : Due) (number n : ℕ) (p : List ℕ) (ps : List (List ℕ)) (x : WasDue) → due_behind c wears due number (suc n) (p ∷ ps) ≡ Some x → Onward c wears due number n p ps x
onward c wears due number n p ps x e = by_shape (has_shape p) refl e
  where
    by_told : (j : Judgement) → has_shape p ≡ true → taken c due p ≡ j → behind_told c due number n j (λ d. due_behind c wears d (number + 1) n ps) ≡ Some x → Onward c wears due number n p ps x
    by_told (Falls f) shape is told = absurd (cc)
    by_told (Stands (Head es)) shape is told = On shape (Head es) is told
    by_told (Stands (InGroup l ls es)) shape is told = On shape (InGroup l ls es) is told
    by_told (Stands (judge.Nothing q)) shape is told = let k = fewer_is c due number n x told in Here k.0 k.1
    by_told (Stands (End es k)) shape is told = On shape (End es k) is told

    by_shape : (t : Bool) → has_shape p ≡ t → (if t then behind_told c due number n (taken c due p) (λ d. due_behind c wears d (number + 1) n ps) else None) ≡ Some x → Onward c wears due number n p ps x
    by_shape true shape told = by_told (taken c due p) shape refl told
    by_shape false shape told = absurd (cc)

some_left : (n : ℕ) (l : List ℕ) (ps : List (List ℕ)) → HasInPlace n l ps [] → ⊥
some_left zero l ps h = h
some_left (suc n) l [] h = h
some_left (suc n) l (p ∷ ps) h = h

-- so it goes on with the same line of another text
goes_same : (c : Course) (due d : Due) (number n m : ℕ) (f : TraceFault) (line p q : List ℕ) (ps qs : List (List ℕ)) → has_shape p ≡ true → taken c due p ≡ Stands d → p ≡ q → HasInPlace n line ps qs → judged_from c due number (q ∷ qs) ≡ Refused m f → judged_from c d (number + 1) qs ≡ Refused m f
goes_same c due d number n m f line p q ps qs shape is same place e =
    sym (goes_from c due d number q qs (λ k. some_left n line ps (subst (HasInPlace n line ps) k place)) (subst (λ (w : List ℕ). has_shape w ≡ true) same shape) (subst (λ (w : List ℕ). taken c due w ≡ Stands d) same is)) ∙ e

-- a line is told with the lines before it
line_lands : (c : Course) (wears : Wearing) (n number : ℕ) (due : Due) (ps qs : List (List ℕ)) (l : Line) (g : Group) (m : ℕ) (f : TraceFault) → IsHeadedBy c → LineFits l → due_behind c wears due number n ps ≡ Some (was.Line l g) → HasInPlace n (text l) ps qs → judged_from c due number qs ≡ Refused m f → number + n < m
line_lands c wears zero number due ps [] l g m f headed fits due_is place is = absurd place
line_lands c wears zero number due ps (q ∷ []) l g m f headed fits due_is place is = absurd place
line_lands c wears zero number due ps (q ∷ r ∷ qs) l g m f headed fits due_is place is =
    let k = stands_on c due number m f q r qs (there_line c wears due number ps l g q headed due_is fits place) is in
    omega (arith, k)
line_lands c wears (suc n) number due [] qs l g m f headed fits due_is place is = absurd place
line_lands c wears (suc n) number due (p ∷ ps) [] l g m f headed fits due_is place is = absurd place
line_lands c wears (suc n) number due (p ∷ ps) (q ∷ qs) l g m f headed fits due_is place is = by_onward (λ d more e. line_lands c wears n (number + 1) d ps qs l g m f headed fits more place.1 e) (onward c wears due number n p ps (was.Line l g) due_is)
  where
    by_onward : ((d : Due) → due_behind c wears d (number + 1) n ps ≡ Some (was.Line l g) → judged_from c d (number + 1) qs ≡ Refused m f → number + 1 + n < m) → Onward c wears due number n p ps (was.Line l g) → number + suc n < m
    by_onward again (On shape d stands more) =
        let k = again d more (goes_same c due d number n m f (text l) p q ps qs shape stands place.0 place.1 is) in
        omega (arith, k)
    by_onward again (Here none before) = absurd (no_line due before)
      where
        no_line : (due : Due) → before_told c due number ≡ Some (was.Line l g) → ⊥
        no_line (Head es) e = cc
        no_line (InGroup x ls es) e = such_is IsBefore (line_told was.Before c number x ls es) (was.Line l g) e (last_such IsBefore c [] es (λ d group. was.Before x (record { line = number + length (x ∷ ls) - length group; head = d })) (λ d group. tt))
        no_line (judge.Nothing q) e = cc
        no_line (End es k) e = cc

end_lands : (c : Course) (wears : Wearing) (n number : ℕ) (due : Due) (ps qs : List (List ℕ)) (x : EndLine) (m : ℕ) (f : TraceFault) → IsFinalBy c → EndFits x → IsFull x → due_behind c wears due number n ps ≡ Some (was.End x) → HasInPlace n (end_text x) ps qs → judged_from c due number qs ≡ Refused m f → number + n < m
end_lands c wears zero number due ps [] x m f finals fits full due_is place is = absurd place
end_lands c wears zero number due ps (q ∷ []) x m f finals fits full due_is place is = absurd place
end_lands c wears zero number due ps (q ∷ r ∷ qs) x m f finals fits full due_is place is =
    let k = stands_on c due number m f q r qs (there_end c wears due number ps x q finals due_is fits full place) is in
    omega (arith, k)
end_lands c wears (suc n) number due [] qs x m f finals fits full due_is place is = absurd place
end_lands c wears (suc n) number due (p ∷ ps) [] x m f finals fits full due_is place is = absurd place
end_lands c wears (suc n) number due (p ∷ ps) (q ∷ qs) x m f finals fits full due_is place is = by_onward (λ d more e. end_lands c wears n (number + 1) d ps qs x m f finals fits full more place.1 e) (onward c wears due number n p ps (was.End x) due_is)
  where
    by_onward : ((d : Due) → due_behind c wears d (number + 1) n ps ≡ Some (was.End x) → judged_from c d (number + 1) qs ≡ Refused m f → number + 1 + n < m) → Onward c wears due number n p ps (was.End x) → number + suc n < m
    by_onward again (On shape d stands more) =
        let k = again d more (goes_same c due d number n m f (end_text x) p q ps qs shape stands place.0 place.1 is) in
        omega (arith, k)
    by_onward again (Here none before) = absurd (no_end due before)
      where
        no_end : (due : Due) → before_told c due number ≡ Some (was.End x) → ⊥
        no_end (Head es) e = cc
        no_end (InGroup y ls es) e = such_is IsBefore (line_told was.Before c number y ls es) (was.End x) e (last_such IsBefore c [] es (λ d group. was.Before y (record { line = number + length (y ∷ ls) - length group; head = d })) (λ d group. tt))
        no_end (judge.Nothing q) e = cc
        no_end (End es k) e = cc

-- where a head is due, or the lines at the end, or this line, none is told as that of the line before
there_no_before : (c : Course) (wears : Wearing) (due : Due) (number : ℕ) (ps : List (List ℕ)) (l : Line) (g : Group) → due_told c wears due number ps ≡ Some (was.Before l g) → ⊥
there_no_before c wears (Head es) number ps l g e = by_head (head_of_line (first_line ps)) (is_final (first_line ps)) (let k : head_told c wears es number (head_of_line (first_line ps)) (is_final (first_line ps)) ≡ was.Before l g = cc in k)
  where
    by_ends : (xs : List EndLine) → end_told xs ≡ was.Before l g → ⊥
    by_ends [] k = cc
    by_ends (x ∷ xs) k = cc

    by_group : (d : Step) (o : Option Two) (ls : Option (List Line)) → group_told number d o ls ≡ was.Before l g → ⊥
    by_group d None None k = cc
    by_group d (Some two) None k = cc
    by_group d o (Some []) k = cc
    by_group d o (Some (x ∷ xs)) k = cc

    by_held : (d : Step) (t : Bool) → (if t then group_told number d (wears es d) (c.group es d) else was.Head) ≡ was.Before l g → ⊥
    by_held d true k = by_group d (wears es d) (c.group es d) k
    by_held d false k = cc

    by_head : (o : Option Step) (final : Bool) → head_told c wears es number o final ≡ was.Before l g → ⊥
    by_head None true k = by_ends (c.ends es) k
    by_head None false k = cc
    by_head (Some d) final k = by_held d (can_hold c.machines d) k
there_no_before c wears (InGroup x ls es) number ps l g e = such_is IsLine (line_told was.Line c number x ls es) (was.Before l g) e (last_such IsLine c [] es (λ d group. was.Line x (record { line = number + length (x ∷ ls) - length group; head = d })) (λ d group. tt))
there_no_before c wears (judge.Nothing p) number ps l g e = cc
there_no_before c wears (End [] n) number ps l g e = cc
there_no_before c wears (End (x ∷ es) n) number ps l g e = cc

-- so it is with the line before
before_lands : (c : Course) (wears : Wearing) (n number : ℕ) (due : Due) (ps qs : List (List ℕ)) (l : Line) (g : Group) (m : ℕ) (f : TraceFault) → LineFits l → due_behind c wears due number (suc n) ps ≡ Some (was.Before l g) → HasInPlace n (text l) ps qs → judged_from c due number qs ≡ Refused m f → number + n < m
before_lands c wears zero number due [] qs l g m f fits due_is place is = absurd (cc)
before_lands c wears zero number due (p ∷ ps) [] l g m f fits due_is place is = absurd place
before_lands c wears zero number due (p ∷ ps) (q ∷ []) l g m f fits due_is place is = absurd place
before_lands c wears zero number due (p ∷ ps) (q ∷ r ∷ qs) l g m f fits due_is place is = by_onward (onward c wears due number 0 p ps (was.Before l g) due_is)
  where
    by_onward : Onward c wears due number 0 p ps (was.Before l g) → number + 0 < m
    by_onward (On shape d stands more) = absurd (there_no_before c wears d (number + 1) ps l g more)
    by_onward (Here none before) = let k = stands_on c due number m f q r qs (before_line c due number l g q before fits place) is in omega (arith, k)
before_lands c wears (suc n) number due [] qs l g m f fits due_is place is = absurd place
before_lands c wears (suc n) number due (p ∷ ps) [] l g m f fits due_is place is = absurd place
before_lands c wears (suc n) number due (p ∷ ps) (q ∷ qs) l g m f fits due_is place is = by_onward (λ d more e. before_lands c wears n (number + 1) d ps qs l g m f fits more place.1 e) (onward c wears due number (suc n) p ps (was.Before l g) due_is)
  where
    by_onward : ((d : Due) → due_behind c wears d (number + 1) (suc n) ps ≡ Some (was.Before l g) → judged_from c d (number + 1) qs ≡ Refused m f → number + 1 + n < m) → Onward c wears due number (suc n) p ps (was.Before l g) → number + suc n < m
    by_onward again (On shape d stands more) =
        let k = again d more (goes_same c due d number n m f (text l) p q ps qs shape stands place.0 place.1 is) in
        omega (arith, k)
    by_onward again (Here none before) = absurd (omega (arith, none))

-- the rule's groups begin with their heads, and the lines at the end with `final`
rule_headed : (b : Boot) → IsHeadedBy (by_rule b)
rule_headed b es e ls due = by_point (led b (first_point b) es) due
  where
    by_worn : (w : Spelled) (pt : Point) → group_of b pt e ≡ Some w → (o : Option Two) → unless_worn o w.lines ≡ Some ls → (rest : List Line) × (ls ≡ line.Head e ∷ rest)
    by_worn w pt is None more = let (rest, head) = group_head b pt e w is in let same : w.lines ≡ ls = cc in (rest, sym same ∙ head)
    by_worn w pt is (Some two) more = absurd (cc)

    by_point : (o : Option Point) → bind o (rule_group b e) ≡ Some ls → (rest : List Line) × (ls ≡ line.Head e ∷ rest)
    by_point None is = absurd (cc)
    by_point (Some pt) is =
        let (w, here, more) = bind-is (group_of b pt e) (λ (v : Spelled). unless_worn (worn_in b.numbers pt.view v.lines) v.lines) ls is in
        by_worn w pt here (worn_in b.numbers pt.view w.lines) more

rule_final : (b : Boot) → IsFinalBy (by_rule b)
rule_final b es = by_point (led b (first_point b) es) refl
  where
    by_point : (o : Option Point) → led b (first_point b) es ≡ o → ((by_rule b).ends es ≡ []) ⊎ ((rest : List EndLine) × ((by_rule b).ends es ≡ end.Final ∷ rest))
    by_point None is = inl (ap rule_ends is)
    by_point (Some pt) is = inr (_, ap rule_ends is)

pub due_lines : DueLinesStand
unfolding verdict verdict_by due_by_rule was_due
due_lines = record {
  line = λ b bytes others before l g told fits place n f is.
      let k = line_lands (by_rule b) (worn_by_rule b) before 1 (Head []) (pieces 10 bytes) (pieces 10 others) l g n f (rule_headed b) fits told place is in
      omega (arith, k);
  in_place = λ b bytes others before l g told fits place n f is.
      let k = before_lands (by_rule b) (worn_by_rule b) before 1 (Head []) (pieces 10 bytes) (pieces 10 others) l g n f fits told place is in
      omega (arith, k);
  end = λ b bytes others before e told fits full place n f is.
      let k = end_lands (by_rule b) (worn_by_rule b) before 1 (Head []) (pieces 10 bytes) (pieces 10 others) e n f (rule_final b) fits full told place is in
      omega (arith, k);
}
