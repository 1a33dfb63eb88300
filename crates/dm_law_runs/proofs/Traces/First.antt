-- A refusal is at the first bad line: what stands behind that line doesn't matter, and it is no line exactly where that is said.
use Rattle.dm_law_runs.proofs.Names.{◌++◌, ◌&&◌, nat_lt, nat_le, codes, bytes_eq, text, end_text, head_step, behind_line, can_hold, is_line_text}
use Rattle.dm_law_runs.proofs.Names.{◌≡◌, ◌≤◌, ◌<◌, ℕ, zero, suc, ◌+◌, ◌==◌, Bool, true, false, if◌then◌else◌, List, [], ◌∷◌, length, refl, ◌∙◌, subst, arith, Option, ⊤, pieces, EndLine, Line, Step, has_shape}
use Rattle.std.proofs.Common.{Some, None}
use Rattle.dm_law_runs.proofs.Names.{TraceFault, NotALine, NotDue, NotAStep, NotTheEnd, Course, Due, Head, InGroup, End, Verdict, Refused, Judgement, if_stands, text_ended, taken, judged, judged_from, told, told_label, told_count}
use Rattle.dm_check.specs.Judge.{Stands, Falls}
use Rattle.dm_law_runs.proofs.Names.{falls_as_step, at_end, at_first_line, at_head, at_line, begins_group, verdict, verdict_by, by_rule, AreSame, IsNoLine, RefusalsAreFirst}
use Rattle.dm_onekernel.specs.declared.label.Label.{Label}
use Rattle.dm_onekernel.specs.declared.label.Label.TheVariants as label
use Rattle.dm_line.specs.declared.line.Line.TheVariants as line
use Rattle.dm_check.specs.Judge as judge
use Rattle.dm_link.specs.declared.Pid.{Pid}
use Rattle.dm_check.specs.Classes.{tells_call, tells_made, tells_reception, told_ran}

-- no line before the one that is judged is refused
line_from : (number n : ℕ) (f : TraceFault) (s : Bool) (j : Judgement) (next : Due → Verdict) → ((d : Due) → next d ≡ Refused n f → number ≤ n) → (if s then if_stands number j next else Refused number NotALine) ≡ Refused n f → number ≤ n
line_from number n f false j next h is = let e : number ≡ n = cc in omega arith
line_from number n f true (Stands d) next h is = h d is
line_from number n f true (Falls g) next h is = let e : number ≡ n = cc in omega arith

end_from : (number n : ℕ) (f : TraceFault) (due : Due) → text_ended due number ≡ Refused n f → number ≡ n
end_from number n f (Head es) is = cc
end_from number n f (InGroup l ls es) is = cc
end_from number n f (judge.Nothing p) is = cc
end_from number n f (End [] k) is = cc
end_from number n f (End (e ∷ es) k) is = cc

pub last_from : (number n : ℕ) (f : TraceFault) (due : Due) (t : Bool) → (if t then text_ended due number else Refused number NotALine) ≡ Refused n f → number ≡ n
last_from number n f due true is = end_from number n f due is
last_from number n f due false is = cc

pub from_here : (c : Course) (due : Due) (number n : ℕ) (f : TraceFault) (p : List ℕ) (ps : List (List ℕ)) → judged c due number p ps ≡ Refused n f → number ≤ n
from_here c due number n f p [] is = let e = last_from number n f due (length p == 0) is in omega (arith, e)
from_here c due number n f p (q ∷ ps) is =
    line_from number n f (has_shape p) (taken c due p) (λ d. judged c d (number + 1) q ps) (λ d e. let k = from_here c d (number + 1) n f q ps e in omega (arith, k)) is

-- what stands behind a line that is refused doesn't matter
line_same : (number n : ℕ) (f : TraceFault) (s : Bool) (j : Judgement) (next other : Due → Verdict) → ((d : Due) → next d ≡ Refused n f → other d ≡ Refused n f) → (if s then if_stands number j next else Refused number NotALine) ≡ Refused n f
    → (if s then if_stands number j other else Refused number NotALine) ≡ Refused n f
line_same number n f false j next other h is = is
line_same number n f true (Stands d) next other h is = h d is
line_same number n f true (Falls g) next other h is = is

same_here : (c : Course) (due : Due) (number k n : ℕ) (f : TraceFault) (p q : List ℕ) (ps qs : List (List ℕ)) → number + k ≡ n → judged c due number p ps ≡ Refused n f → AreSame (suc k) (p ∷ ps) (q ∷ qs) → judged c due number q qs ≡ Refused n f
same_here c due number zero n f p q [] qs at is same = absurd (same.1.0 refl)
same_here c due number zero n f p q (p' ∷ ps) [] at is same = absurd (same.1.1 refl)
same_here c due number zero n f p q (p' ∷ ps) (q' ∷ qs) at is same =
    subst (λ (l : List ℕ). (if has_shape l then if_stands number (taken c due l) (λ d. judged c d (number + 1) q' qs) else Refused number NotALine) ≡ Refused n f) same.0
    (line_same number n f (has_shape p) (taken c due p) (λ d. judged c d (number + 1) p' ps) (λ d. judged c d (number + 1) q' qs) (λ d e. absurd (let m = from_here c d (number + 1) n f p' ps e in omega (arith, m, at))) is)
same_here c due number (suc k) n f p q [] qs at is same = absurd same.1
same_here c due number (suc k) n f p q (p' ∷ ps) [] at is same = absurd same.1
same_here c due number (suc k) n f p q (p' ∷ ps) (q' ∷ qs) at is same =
    subst (λ (l : List ℕ). (if has_shape l then if_stands number (taken c due l) (λ d. judged c d (number + 1) q' qs) else Refused number NotALine) ≡ Refused n f) same.0
    (line_same number n f (has_shape p) (taken c due p) (λ d. judged c d (number + 1) p' ps) (λ d. judged c d (number + 1) q' qs) (λ d e. same_here c d (number + 1) k n f p' q' ps qs (omega (arith, at)) e same.1) is)

-- a line of the format never falls as none
abbrev IsOther : Judgement → Type 0
IsOther (Stands d) = ⊤
IsOther (Falls NotALine) = ⊥
IsOther (Falls NotDue) = ⊤
IsOther (Falls NotAStep) = ⊤
IsOther (Falls NotTheEnd) = ⊤

if_other : (t : Bool) (x y : Judgement) → IsOther x → IsOther y → IsOther (if t then x else y)
if_other true x y h k = h
if_other false x y h k = k

step_other : (t : Bool) → IsOther (falls_as_step t)
step_other true = tt
step_other false = tt

count_other : (quantum : ℕ) (p : Pid) (k : ℕ) (o : Option ℕ) → IsOther (told_count quantum p k o)
count_other quantum p k None = tt
count_other quantum p k (Some n) = if_other (nat_lt n k) (Stands (judge.Nothing p)) (falls_as_step (nat_lt k n && nat_le n quantum)) tt (step_other (nat_lt k n && nat_le n quantum))

label_other : (quantum : ℕ) (l : Label) (ws : List (List ℕ)) → IsOther (told_label quantum l ws)
label_other quantum (label.Ran p k) ws = count_other quantum p k (told_ran p ws)
label_other quantum (label.Call p n c) ws = step_other (tells_call p ws)
label_other quantum (label.Send p i) ws = step_other (tells_call p ws)
label_other quantum (label.Wait p) ws = step_other (tells_call p ws)
label_other quantum (label.Out p w) ws = step_other (tells_call p ws)
label_other quantum (label.End p y) ws = step_other (tells_call p ws)
label_other quantum (label.Receive p i) ws = step_other (tells_reception p i ws)
label_other quantum (label.Refuse p i c) ws = step_other (tells_reception p i ws)
label_other quantum (label.Created i p) ws = step_other (tells_made i ws)
label_other quantum l ws = tt

told_other : (quantum : ℕ) (l : Line) (ws : List (List ℕ)) → IsOther (told quantum l ws)
told_other quantum (line.Label l) ws = label_other quantum l ws
told_other quantum l ws = tt

line_other : (quantum : ℕ) (l : Line) (ls : List Line) (es : List Step) (bytes : List ℕ) → IsOther (at_line quantum l ls es bytes)
line_other quantum l ls es bytes = if_other (is_line_text bytes (text l)) (Stands (behind_line ls es)) (told quantum l (pieces 32 bytes)) tt (told_other quantum l (pieces 32 bytes))

end_other : (es : List EndLine) (n : ℕ) (bytes : List ℕ) → IsOther (at_end es n bytes)
end_other [] n bytes = tt
end_other (e ∷ es) n bytes = if_other (is_line_text bytes (end_text e)) (Stands (End es n)) (Falls NotTheEnd) tt tt

first_other : (quantum : ℕ) (ls : List Line) (es : List Step) (bytes : List ℕ) → IsOther (at_first_line quantum ls es bytes)
first_other quantum [] es bytes = tt
first_other quantum (l ∷ ls) es bytes = line_other quantum l ls es bytes

group_other : (quantum : ℕ) (o : Option (List Line)) (es : List Step) (bytes : List ℕ) → IsOther (begins_group quantum o es bytes)
group_other quantum None es bytes = tt
group_other quantum (Some ls) es bytes = first_other quantum ls es bytes

head_other : (c : Course) (es : List Step) (bytes : List ℕ) (o : Option Step) → IsOther (at_head c es bytes o)
head_other c es bytes None = if_other (bytes_eq bytes (codes "final")) (at_end (c.ends es) (length es) bytes) (Falls NotDue) (end_other (c.ends es) (length es) bytes) tt
head_other c es bytes (Some e) = if_other (can_hold c.machines e) (begins_group c.quantum (c.group es e) (es ++ e ∷ []) bytes) (Falls NotDue) (group_other c.quantum (c.group es e) (es ++ e ∷ []) bytes) tt

taken_other : (c : Course) (due : Due) (l : List ℕ) → IsOther (taken c due l)
taken_other c (Head es) l = head_other c es l (head_step l)
taken_other c (InGroup m ls es) l = line_other c.quantum m ls es l
taken_other c (judge.Nothing p) l = step_other (tells_call p (pieces 32 l))
taken_other c (End es n) l = end_other es n l

-- it is no line exactly where that is said
record Says (f : TraceFault) (P : Type 0) : Type 0 where
  said : f ≡ NotALine → P
  so : P → f ≡ NotALine

fault_other : (f : TraceFault) → IsOther (Falls f) → f ≡ NotALine → ⊥
fault_other NotALine h e = h
fault_other NotDue h e = cc
fault_other NotAStep h e = cc
fault_other NotTheEnd h e = cc

ended_other : (number n : ℕ) (f : TraceFault) (due : Due) → text_ended due number ≡ Refused n f → f ≡ NotALine → ⊥
ended_other number n f (Head es) is e = cc
ended_other number n f (InGroup l ls es) is e = cc
ended_other number n f (judge.Nothing p) is e = cc
ended_other number n f (End [] k) is e = cc
ended_other number n f (End (x ∷ es) k) is e = cc

last_says : (number n : ℕ) (f : TraceFault) (due : Due) (t : Bool) → (if t then text_ended due number else Refused number NotALine) ≡ Refused n f → Says f (t ≡ false)
last_says number n f due true is = record { said = λ e. absurd (ended_other number n f due is e); so = λ e. absurd (cc) }
last_says number n f due false is = record { said = λ e. refl; so = λ e. cc }

first_says : (number n : ℕ) (f : TraceFault) (s : Bool) (j : Judgement) (next : Due → Verdict) → IsOther j → ((d : Due) → next d ≡ Refused n f → ⊥) → (if s then if_stands number j next else Refused number NotALine) ≡ Refused n f → Says f (s ≡ false)
first_says number n f false j next other h is = record { said = λ e. refl; so = λ e. cc }
first_says number n f true (Stands d) next other h is = absurd (h d is)
first_says number n f true (Falls g) next other h is = let same : g ≡ f = cc in record { said = λ e. absurd (fault_other g other (same ∙ e)); so = λ e. absurd (cc) }

line_says : (number n : ℕ) (f : TraceFault) (P : Type 0) (s : Bool) (j : Judgement) (next : Due → Verdict) → number < n → ((d : Due) → next d ≡ Refused n f → Says f P) → (if s then if_stands number j next else Refused number NotALine) ≡ Refused n f → Says f P
line_says number n f P false j next less h is = absurd (let e : number ≡ n = cc in omega (arith, less, e))
line_says number n f P true (Stands d) next less h is = h d is
line_says number n f P true (Falls g) next less h is = absurd (let e : number ≡ n = cc in omega (arith, less, e))

says_here : (c : Course) (due : Due) (number k n : ℕ) (f : TraceFault) (p : List ℕ) (ps : List (List ℕ)) → number + k ≡ n → judged c due number p ps ≡ Refused n f → Says f (IsNoLine k (p ∷ ps))
says_here c due number zero n f p [] at is = last_says number n f due (length p == 0) is
says_here c due number (suc k) n f p [] at is = absurd (let e = last_from number n f due (length p == 0) is in omega (arith, e, at))
says_here c due number zero n f p (q ∷ ps) at is =
    first_says number n f (has_shape p) (taken c due p) (λ d. judged c d (number + 1) q ps) (taken_other c due p) (λ d e. let m = from_here c d (number + 1) n f q ps e in omega (arith, m, at)) is
says_here c due number (suc k) n f p (q ∷ ps) at is =
    line_says number n f (IsNoLine k (q ∷ ps)) (has_shape p) (taken c due p) (λ d. judged c d (number + 1) q ps) (omega (arith, at)) (λ d e. says_here c d (number + 1) k n f q ps (omega (arith, at)) e) is

record FirstOf (c : Course) (ps : List (List ℕ)) (n : ℕ) (f : TraceFault) : Type 0 where
  counted : 1 ≤ n
  same : (qs : List (List ℕ)) → AreSame n ps qs → judged_from c (Head []) 1 qs ≡ Refused n f
  says : (before : ℕ) → before + 1 ≡ n → Says f (IsNoLine before ps)

first_of : (c : Course) (ps : List (List ℕ)) (n : ℕ) (f : TraceFault) → judged_from c (Head []) 1 ps ≡ Refused n f → FirstOf c ps n f
first_of c [] n f is = absurd (cc)
first_of c (p ∷ ps) zero f is = absurd (let m = from_here c (Head []) 1 zero f p ps is in omega (arith, m))
first_of c (p ∷ ps) (suc k) f is = record {
  counted = omega arith;
  same = by_others;
  says = λ before at. says_here c (Head []) 1 before (suc k) f p ps (omega (arith, at)) is;
}
  where
    by_others : (qs : List (List ℕ)) → AreSame (suc k) (p ∷ ps) qs → judged_from c (Head []) 1 qs ≡ Refused (suc k) f
    by_others [] h = absurd h
    by_others (q ∷ qs) h = same_here c (Head []) 1 k (suc k) f p q ps qs (omega arith) is h

pub refusals_first : RefusalsAreFirst
unfolding verdict verdict_by
refusals_first b bytes n f is =
    let r = first_of (by_rule b) (pieces 10 bytes) n f is in
    record {
      counted = r.counted;
      same = λ others h. r.same (pieces 10 others) h;
      no_line = λ before at e. (r.says before at).said e;
      only_so = λ before at h. (r.says before at).so h;
    }
