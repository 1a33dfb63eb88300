-- A text that strays from what is due, and what was due there.
use Rattle.dm_check.proofs.Names.{◌≡◌, ◌<◌, ◌≤◌, ℕ, zero, suc, ◌+◌, Bool, true, false, if◌then◌else◌, List, [], ◌∷◌, ◌++◌, length, take, drop, get_or, drop-cons, refl, ap, sym, ◌∙◌, subst, arith, Some, None, All, codes, bytes_eq, Boot, Step, Line, EndLine, EndFits, LineFits, IsFull, pieces, text_of_ends, text_of_lines}
use Rattle.dm_check.proofs.Names.{◌==◌, NotTheEnd, All-nil, All-cons, false≢true, at_end, take-append-drop, WorldState, WearsBy, Course, Due, Refused, Stands, Falls, NotDue, TraceFault, CheckError, RefusedBy, behind_line, begins_group, at_head, can_hold, head_of_line, first_line, is_final, judged_from, told, taken, head_step, FallsBy}
use Rattle.dm_check.proofs.Names.{Wearing, WasDue, Refusal, JudgeError, Stray, due_behind, end_told, group_told, head_told, was_due, EndsStray, FallsFrom, GroupStrays, HasChecked, IsAt, IsStray, JudgedBy, JudgedFrom, JudgedThere, LacksGroup, LineStrays, NoneDue, StandsTo, StrayedSo, StraysEnd, TellsFewer, strayed, told_of_none}
use Rattle.dm_line.specs.declared.line.Line.TheVariants as line
use Rattle.dm_check.specs.Judge as judge
use Rattle.dm_check.specs.declared.follow.Stray.TheVariants as stray
use Rattle.dm_check.specs.declared.refusal.JudgeError.TheVariants as error
use Rattle.dm_check.specs.declared.refusal.WasDue.TheVariants as was
use Rattle.dm_check.specs.declared.stop.CheckError.TheVariants as no
use Rattle.dm_check.specs.declared.trace.NoneDue.TheVariants as none
use Rattle.dm_check.proofs.Dues.{cut_at, due_fewer, ends_due, final_due, front_due, head_due, head_told_is, line_told_is}
use Rattle.dm_check.proofs.Judging.{due_ends, due_group, no_group}

-- an error that is this one
judged_as : (b : Boot) (c : Course) (due : Due) (number : ℕ) (ps : List (List ℕ)) (x : JudgeError) (r : Refusal) → x ≡ error.Refused r → FallsFrom b c due number ps r → JudgedFrom b c due number ps x
judged_as b c due number ps x r e h = subst (JudgedFrom b c due number ps) (sym e) h

-- a stray at this line
pub strays_here : (quantum : ℕ) (l : Line) (bytes : List ℕ) (number : ℕ) (fault : TraceFault) (x : Stray) → x ≡ stray.Here number fault l → LineStrays quantum l bytes number x
strays_here quantum l bytes number fault x e = subst (LineStrays quantum l bytes number) (sym e) (refl, refl)

-- a stray at a line, among others
stray_on : (quantum : ℕ) (lines : List Line) (i number : ℕ) (l : Line) (others : List Line) (all rest : List ℕ) (x : Stray) → drop i lines ≡ l ∷ others → all ≡ text_of_lines (take i lines) ++ rest → LineStrays quantum l rest (number + i) x → GroupStrays quantum lines all number x
stray_on quantum lines i number l others all rest (stray.NoMemory lack) left read h = tt
stray_on quantum lines i number l others all rest (stray.Here line fault due) left read (same, there) =
    record { index = i; rest = rest; stands = record { others = others; left = left ∙ ap (λ (d : Line). d ∷ others) (sym same); read = read }; counted = there }
stray_on quantum lines i number l others all rest (stray.Behind line fault due) left read (same, there, fewer) =
    record { index = i; rest = rest; stands = record { others = others; left = left ∙ ap (λ (d : Line). d ∷ others) (sym same); read = read }; counted = there; fewer = subst (λ (d : Line). TellsFewer quantum d rest) (sym same) fewer }

-- behind the first of some lines, so many
pub stray_behind : (quantum : ℕ) (lines : List Line) (i first number : ℕ) (d : Line) (all rest : List ℕ) (x : Stray) → i < length lines → number ≡ first + i → all ≡ text_of_lines (take i lines) ++ rest → LineStrays quantum (get_or lines i d) rest number x → GroupStrays quantum lines all first x
stray_behind quantum lines i first number d all rest x h there read off =
    stray_on quantum lines i first (get_or lines i d) (drop (suc i) lines) all rest x (drop-cons lines i d h) read (subst (λ (k : ℕ). LineStrays quantum (get_or lines i d) rest k x) there off)

-- the same of the lines at the end
pub ends_stray : (ends : List EndLine) (i first number : ℕ) (all rest : List ℕ) (x : CheckError) → i ≤ length ends → number ≡ first + i → all ≡ text_of_ends (take i ends) ++ rest → IsAt number x → EndsStray ends all first x
ends_stray ends i first number all rest (no.NoMemory lack) few there read at = tt
ends_stray ends i first number all rest (no.Refused line fault) few there read at = record { index = i; rest = rest; few = few; read = read; counted = at ∙ there }

-- so many are taken, where there are as many
take_size : {X : Type 0} (i : ℕ) (xs : List X) → i ≤ length xs → length (take i xs) ≡ i
take_size zero xs h = refl
take_size (suc i) [] h = absurd (omega (arith, h))
take_size (suc i) (x ∷ xs) h = omega (arith, take_size i xs (omega (arith, h)))

-- what holds of each of some holds of each of the first of them
all_front : {X : Type 0} (P : X → Type 0) (a b : List X) → All P (a ++ b) → All P a
all_front P [] b h = All-nil P
all_front P (x ∷ xs) b h = All-cons P x xs (h 0 x (omega arith)) (all_front P xs b (λ i d k. h (suc i) d (omega arith)))

-- the lines of the group of a head stand up to one of them
stands_on : (c : Course) (wears : Wearing) (es : List Step) (e : Step) (more : List Line) (bytes : List ℕ) (number j n : ℕ) (due : Line) (rest : List ℕ) → All LineFits (line.Head e ∷ more) → head_of_line (first_line (pieces 10 bytes)) ≡ Some e → can_hold c.machines e ≡ true
    → c.group es e ≡ Some (line.Head e ∷ more) → (s : StandsTo (line.Head e ∷ more) bytes (suc j) due rest)
    → due_behind c wears (judge.Head es) number (suc (j + n)) (pieces 10 bytes) ≡ due_behind c wears (judge.InGroup due s.others (es ++ e ∷ [])) (number + suc j) n (pieces 10 rest)
stands_on c wears es e more bytes number j n due rest fits head held group s =
    let lines : List Line = line.Head e ∷ more in
    let front : List Line = take (suc j) lines in
    let (size, is) = cut_at (suc j) lines due s.others s.left in
    let whole : All LineFits (front ++ due ∷ s.others) = subst (All LineFits) (sym is) fits in
    let count : suc (j + n) ≡ length front + n = omega (arith, size) in
    let at : number + length front ≡ number + suc j = omega (arith, size) in
    head_due c wears es number (j + n) (pieces 10 bytes) e more head held group
    ∙ ap (λ (ls : List Line). due_behind c wears (behind_line ls (es ++ e ∷ [])) number (suc (j + n)) (pieces 10 bytes)) (sym is)
    ∙ ap (λ (k : ℕ). due_behind c wears (behind_line (front ++ due ∷ s.others) (es ++ e ∷ [])) number k (pieces 10 bytes)) count
    ∙ ap (λ (t : List ℕ). due_behind c wears (behind_line (front ++ due ∷ s.others) (es ++ e ∷ [])) number (length front + n) (pieces 10 t)) s.read
    ∙ front_due c wears front (due ∷ s.others) (es ++ e ∷ []) number n rest (all_front LineFits front (due ∷ s.others) whole)
    ∙ ap (λ (k : ℕ). due_behind c wears (judge.InGroup due s.others (es ++ e ∷ [])) k n (pieces 10 rest)) at

-- what was due there: at the head, or behind it
due_here : (c : Course) (wears : Wearing) (es : List Step) (e : Step) (more : List Line) (bytes : List ℕ) (number i : ℕ) (due : Line) (rest : List ℕ) → All LineFits (line.Head e ∷ more) → head_of_line (first_line (pieces 10 bytes)) ≡ Some e → can_hold c.machines e ≡ true
    → c.group es e ≡ Some (line.Head e ∷ more) → StandsTo (line.Head e ∷ more) bytes i due rest → due_behind c wears (judge.Head es) number i (pieces 10 bytes) ≡ Some (was.Line due (record { line = number; head = e }))
due_here c wears es e more bytes number zero due rest fits head held group s =
    let first : line.Head e ≡ due = let left = s.left in cc in
    head_told_is c wears es number (pieces 10 bytes) e (line.Head e) more head held group ∙ ap (λ (l : Line). Some (was.Line l (record { line = number; head = e }))) first
due_here c wears es e more bytes number (suc j) due rest fits head held group s =
    let same : suc j ≡ suc (j + 0) = omega arith in
    ap (λ (k : ℕ). due_behind c wears (judge.Head es) number k (pieces 10 bytes)) same
    ∙ stands_on c wears es e more bytes number j 0 due rest fits head held group s
    ∙ line_told_is c was.Line es e (line.Head e ∷ more) number (suc j) due s.others group s.left

-- what was due in the line before, which says of a process that it ran fewer instructions: no head is told otherwise
due_before : (c : Course) (wears : Wearing) (es : List Step) (e : Step) (more : List Line) (bytes : List ℕ) (number i : ℕ) (due : Line) (rest : List ℕ) → All LineFits (line.Head e ∷ more) → head_of_line (first_line (pieces 10 bytes)) ≡ Some e → can_hold c.machines e ≡ true
    → c.group es e ≡ Some (line.Head e ∷ more) → StandsTo (line.Head e ∷ more) bytes i due rest → TellsFewer c.quantum due rest → due_behind c wears (judge.Head es) number (suc i) (pieces 10 bytes) ≡ Some (was.Before due (record { line = number; head = e }))
due_before c wears es e more bytes number zero due rest fits head held group s f =
    let first : due ≡ line.Head e = let left = s.left in cc in
    let bad : Falls NotDue ≡ Stands (judge.Nothing f.pid) = ap (λ (l : Line). told c.quantum l (pieces 32 f.line)) (sym first) ∙ f.tells in
    absurd (cc)
due_before c wears es e more bytes number (suc j) due rest fits head held group s f =
    let same : suc (suc j) ≡ suc (j + 1) = omega arith in
    let d : Due = judge.InGroup due s.others (es ++ e ∷ []) in
    let fewer : taken c d f.line ≡ Stands (judge.Nothing f.pid) =
    ap (λ (t : Bool). if t then Stands (behind_line s.others (es ++ e ∷ [])) else told c.quantum due (pieces 32 f.line)) f.other ∙ f.tells in
    ap (λ (k : ℕ). due_behind c wears (judge.Head es) number k (pieces 10 bytes)) same
    ∙ stands_on c wears es e more bytes number j 1 due rest fits head held group s
    ∙ ap (λ (ps : List (List ℕ)). due_behind c wears d (number + suc j) 1 ps) f.cut
    ∙ due_fewer c wears due s.others (es ++ e ∷ []) (number + suc j) f.line (pieces 10 f.rest) f.pid f.shape fewer
    ∙ line_told_is c was.Before es e (line.Head e ∷ more) number (suc j) due s.others group s.left

-- so a stray from the group of a head is judged
by_stray : (b : Boot) (c : Course) (es : List Step) (e : Step) (more : List Line) (bytes : List ℕ) (number : ℕ) (x : Stray) → All LineFits (line.Head e ∷ more) → head_of_line (first_line (pieces 10 bytes)) ≡ Some e → can_hold c.machines e ≡ true
    → c.group es e ≡ Some (line.Head e ∷ more) → GroupStrays c.quantum (line.Head e ∷ more) bytes number x → StrayedSo (judged_from c (behind_line (line.Head e ∷ more) (es ++ e ∷ [])) number (pieces 10 bytes)) x
    → JudgedFrom b c (judge.Head es) number (pieces 10 bytes) (strayed x (record { line = number; head = e }))
by_stray b c es e more bytes number (stray.NoMemory lack) fits head held group strays refused = tt
by_stray b c es e more bytes number (stray.Here l fault due) fits head held group strays refused = record {
  index = strays.index;
  counted = strays.counted;
  verdict = due_group c es number (pieces 10 bytes) e (line.Head e) more head held group ∙ refused;
  due_is = λ wears u. due_here c wears es e more bytes number strays.index due strays.rest fits head held group strays.stands;
}
by_stray b c es e more bytes number (stray.Behind l fault due) fits head held group strays refused = record {
  index = suc strays.index;
  counted = let there : l ≡ number + strays.index + 1 = strays.counted in omega (arith, there);
  verdict = due_group c es number (pieces 10 bytes) e (line.Head e) more head held group ∙ refused;
  due_is = λ wears u. due_before c wears es e more bytes number strays.index due strays.rest fits head held group strays.stands strays.fewer;
}

pub stray_judged : (b : Boot) (c : Course) (es : List Step) (e : Step) (lines more : List Line) (bytes : List ℕ) (number : ℕ) (x : JudgeError) → lines ≡ line.Head e ∷ more → All LineFits lines → head_of_line (first_line (pieces 10 bytes)) ≡ Some e → can_hold c.machines e ≡ true
    → c.group es e ≡ Some lines → IsStray c.quantum e lines bytes number x → JudgedFrom b c (judge.Head es) number (pieces 10 bytes) x
stray_judged b c es e lines more bytes number x begins fits head held group s =
    subst (JudgedFrom b c (judge.Head es) number (pieces 10 bytes)) (sym s.is)
    (by_stray b c es e more bytes number s.stray (subst (All LineFits) begins fits) head held (group ∙ ap (λ (ls : List Line). Some ls) begins)
    (subst (λ (ls : List Line). GroupStrays c.quantum ls bytes number s.stray) begins s.strays)
    (subst (λ (ls : List Line). StrayedSo (judged_from c (behind_line ls (es ++ e ∷ [])) number (pieces 10 bytes)) s.stray) begins (s.refused c (es ++ e ∷ []) refl)))

-- no group is due behind this head
abbrev NoGroup : Boot → WorldState → Step → ℕ → JudgeError → Type 0
NoGroup b old e number x = (ps : List (List ℕ)) → head_of_line (first_line ps) ≡ Some e → JudgedThere b old number ps x

-- that of a directive that no schedule can hold
unheld_judged : (b : Boot) (w : WorldState) (e : Step) (number : ℕ) (x : JudgeError) → x ≡ error.Refused (record { line = number; fault = NotDue; due = was.Head }) → can_hold (length b.machines) e ≡ false → NoGroup b w e number x
unheld_judged b w e number x is unheld ps head k es gs s went =
    let here : can_hold k.machines e ≡ false = ap (λ (n : ℕ). can_hold n e) s.machines ∙ unheld in
    judged_as b k (judge.Head es) number ps x (record { line = number; fault = NotDue; due = was.Head }) is (record {
      index = 0;
      counted = omega arith;
      verdict = no_group k es number ps e head (λ l. ap (λ (t : Bool). if t then begins_group k.quantum (k.group es e) (es ++ e ∷ []) l else Falls NotDue) here);
      due_is = λ wears u.
          ap (λ o. Some (head_told k wears es number o (is_final (first_line ps)))) head
          ∙ ap (λ (t : Bool). Some (if t then group_told number e (wears es e) (k.group es e) else was.Head)) here;
    })

-- and that of one that would wear a pair out
worn_judged : (b : Boot) (w : WorldState) (e : Step) (number from to : ℕ) (x : JudgeError) → x ≡ error.Refused (record { line = number; fault = NotDue; due = was.Worn from to e }) → can_hold (length b.machines) e ≡ true → WearsBy b w e from to → NoGroup b w e number x
worn_judged b w e number from to x is held d ps head k es gs s went =
    let here : can_hold k.machines e ≡ true = ap (λ (n : ℕ). can_hold n e) s.machines ∙ held in
    let none : k.group es e ≡ None = s.worn es gs w e from to went d in
    judged_as b k (judge.Head es) number ps x (record { line = number; fault = NotDue; due = was.Worn from to e }) is (record {
      index = 0;
      counted = omega arith;
      verdict = no_group k es number ps e head (λ l.
          ap (λ (t : Bool). if t then begins_group k.quantum (k.group es e) (es ++ e ∷ []) l else Falls NotDue) here ∙ ap (λ o. begins_group k.quantum o (es ++ e ∷ []) l) none);
      due_is = λ wears u.
          ap (λ o. Some (head_told k wears es number o (is_final (first_line ps)))) head
          ∙ ap (λ (t : Bool). Some (if t then group_told number e (wears es e) (k.group es e) else was.Head)) here
          ∙ ap (λ o. Some (group_told number e (wears es e) o)) none
          ∙ ap (λ o. Some (group_told number e o None)) (u es gs w e from to went d);
    })

-- so what is told of it is judged
pub none_judged : (b : Boot) (w : WorldState) (e : Step) (number : ℕ) (why : NoneDue) (x : JudgeError) → LacksGroup b w e why → x ≡ told_of_none why e number → (ps : List (List ℕ)) → head_of_line (first_line ps) ≡ Some e → JudgedThere b w number ps x
none_judged b w e number none.Unheld x lacks is = unheld_judged b w e number x is lacks
none_judged b w e number (none.Worn from to) x (held, worn) is = worn_judged b w e number from to x is held worn
none_judged b w e number (none.NoMemory lack) x lacks is = λ ps head k es gs s went. subst (JudgedFrom b k (judge.Head es) number ps) (sym is) tt

-- where neither a head nor `final` stands
falls_between : (c : Course) (es : List Step) (number : ℕ) (bytes : List ℕ) → (length bytes == 0) ≡ false → head_of_line (first_line (pieces 10 bytes)) ≡ None → is_final (first_line (pieces 10 bytes)) ≡ false → FallsBy c (judge.Head es) number bytes NotDue
falls_between c es number bytes some head final = record { ends = λ e. absurd (false≢true (sym some ∙ ap (λ (t : List ℕ). length t == 0) e)); lines = λ l is. by_line l is (ap head_of_line (sym is) ∙ head) (ap is_final (sym is) ∙ final) }
  where
    by_line : (l : List ℕ) → first_line (pieces 10 bytes) ≡ Some l → head_step l ≡ None → bytes_eq l (codes "final") ≡ false → taken c (judge.Head es) l ≡ Falls NotDue
    by_line l is none other = ap (at_head c es l) none ∙ ap (λ (t : Bool). if t then at_end (c.ends es) (length es) l else Falls NotDue) other

pub between_judged : (b : Boot) (w : WorldState) (number : ℕ) (bytes : List ℕ) (fault : TraceFault) (x : JudgeError) → x ≡ error.Refused (record { line = number; fault = fault; due = was.Head }) → (length bytes == 0) ≡ false → head_of_line (first_line (pieces 10 bytes)) ≡ None
    → is_final (first_line (pieces 10 bytes)) ≡ false → ((c : Course) (due : Due) (n : ℕ) → FallsBy c due n bytes NotDue → judged_from c due n (pieces 10 bytes) ≡ Refused n fault) → JudgedThere b w number (pieces 10 bytes) x
between_judged b w number bytes fault x is some head final falls k es gs s went =
    judged_as b k (judge.Head es) number (pieces 10 bytes) x (record { line = number; fault = fault; due = was.Head }) is (record {
      index = 0;
      counted = omega arith;
      verdict = falls k (judge.Head es) number (falls_between k es number bytes some head final);
      due_is = λ wears u. ap (λ o. Some (head_told k wears es number o (is_final (first_line (pieces 10 bytes))))) head ∙ ap (λ (t : Bool). Some (head_told k wears es number None t)) final;
    })

-- behind the last of the lines at the end
pub falls_behind : (c : Course) (n number : ℕ) (bytes : List ℕ) → (length bytes == 0) ≡ false → FallsBy c (judge.End [] n) number bytes NotTheEnd
falls_behind c n number bytes some = record { ends = λ e. absurd (false≢true (sym some ∙ ap (λ (t : List ℕ). length t == 0) e)); lines = λ l is. refl }

-- among the lines at the end
due_end_there : (c : Course) (wears : Wearing) (es : List Step) (ends : List EndLine) (number : ℕ) (bytes : List ℕ) (i : ℕ) (rest : List ℕ) → c.ends es ≡ ends → All EndFits ends → All IsFull ends → head_of_line (first_line (pieces 10 bytes)) ≡ None → is_final (first_line (pieces 10 bytes)) ≡ true
    → i ≤ length ends → bytes ≡ text_of_ends (take i ends) ++ rest → due_behind c wears (judge.Head es) number i (pieces 10 bytes) ≡ Some (end_told (drop i ends))
due_end_there c wears es ends number bytes zero rest said fits full head final few read =
    ap (λ o. Some (head_told c wears es number o (is_final (first_line (pieces 10 bytes))))) head ∙ ap (λ (t : Bool). Some (head_told c wears es number None t)) final ∙ ap (λ (xs : List EndLine). Some (end_told xs)) said
due_end_there c wears es ends number bytes (suc j) rest said fits full head final few read =
    let front : List EndLine = take (suc j) ends in
    let back : List EndLine = drop (suc j) ends in
    let is : front ++ back ≡ ends = take-append-drop (suc j) ends in
    let size : length front ≡ suc j = take_size (suc j) ends few in
    let count : suc j ≡ length front + 0 = omega (arith, size) in
    final_due c wears es number j (pieces 10 bytes) head final
    ∙ ap (λ (xs : List EndLine). due_behind c wears (judge.End xs (length es)) number (suc j) (pieces 10 bytes)) (said ∙ sym is)
    ∙ ap (λ (k : ℕ). due_behind c wears (judge.End (front ++ back) (length es)) number k (pieces 10 bytes)) count
    ∙ ap (λ (t : List ℕ). due_behind c wears (judge.End (front ++ back) (length es)) number (length front + 0) (pieces 10 t)) read
    ∙ ends_due c wears front back (length es) number 0 rest (all_front EndFits front back (subst (All EndFits) (sym is) fits)) (all_front IsFull front back (subst (All IsFull) (sym is) full))

pub end_judged : (b : Boot) (c : Course) (es : List Step) (ends : List EndLine) (number : ℕ) (bytes : List ℕ) (line : ℕ) (fault : TraceFault) (due : WasDue) (index : ℕ) (x : JudgeError) → x ≡ error.Refused (record { line = line; fault = fault; due = due }) → due ≡ end_told (drop index ends)
    → line ≡ number + index → c.ends es ≡ ends → All EndFits ends → All IsFull ends → head_of_line (first_line (pieces 10 bytes)) ≡ None → is_final (first_line (pieces 10 bytes)) ≡ true → StraysEnd ends bytes number line
    → judged_from c (judge.End ends (length es)) number (pieces 10 bytes) ≡ Refused line fault → JudgedFrom b c (judge.Head es) number (pieces 10 bytes) x
end_judged b c es ends number bytes line fault due index x is due_is counted said fits full head final strays refused =
    let there : line ≡ number + strays.index = strays.counted in
    let same : strays.index ≡ index = omega (arith, there, counted) in
    judged_as b c (judge.Head es) number (pieces 10 bytes) x (record { line = line; fault = fault; due = due }) is (record {
      index = strays.index;
      counted = there;
      verdict = due_ends c es number (pieces 10 bytes) head final ∙ ap (λ (xs : List EndLine). judged_from c (judge.End xs (length es)) number (pieces 10 bytes)) said ∙ refused;
      due_is = λ wears u.
          due_end_there c wears es ends number bytes strays.index strays.rest said fits full head final strays.few strays.read
          ∙ ap (λ (k : ℕ). Some (end_told (drop k ends))) same ∙ ap (λ (d : WasDue). Some d) (sym due_is);
    })

-- what is left is refused, so the text is, and what was due there is what was due in it
pub judged_on : (b : Boot) (bytes rest : List ℕ) (number groups : ℕ) (w : WorldState) (x : JudgeError) → HasChecked b bytes rest number groups w → JudgedThere b w number (pieces 10 rest) x → JudgedBy b bytes x
unfolding was_due
judged_on b bytes rest number groups w (error.NoMemory lack) h there = tt
judged_on b bytes rest number groups w (error.Refused r) h there = λ k s.
    let f : FallsFrom b k (judge.Head h.steps) number (pieces 10 rest) r = there k h.steps h.lines s h.went in
    let line : r.line ≡ suc (h.before + f.index) = omega (arith, f.counted, h.counted) in
    record {
      verdict = h.goes k s ∙ f.verdict;
      due_is = λ wears u. ap (λ (n : ℕ). was_due k wears bytes n) line ∙ h.due k wears f.index s ∙ f.due_is wears u;
    }

-- so a judged text is refused, or want of memory says nothing
pub refused_by : (b : Boot) (bytes : List ℕ) (x : JudgeError) (r : Refusal) → x ≡ error.Refused r → JudgedBy b bytes x → RefusedBy b bytes (no.Refused r.line r.fault)
refused_by b bytes x r e h k s = let there : JudgedBy b bytes (error.Refused r) = subst (JudgedBy b bytes) e h in (there k s).verdict
