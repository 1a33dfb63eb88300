-- The lines before the one at which a text is refused begin what the system prints: line by line, what is due there is what is left
-- of a run that begins with the lines so far.
use Rattle.dm_law_runs.proofs.Names.{◌≡◌, ◌<◌, ℕ, zero, suc, ◌+◌, ◌==◌, Bool, true, false, nat_lt, nat_le, ◌&&◌, if◌then◌else◌, List, [], ◌∷◌, ◌++◌, length, codes, get_or, refl, ap, sym, ◌∙◌, subst, append_assoc, arith, nat_tests}
use Rattle.std.proofs.Common.{append-nil}
use Rattle.dm_law_runs.proofs.Names.{Option, Boot, IsValid, Pid, Step, Line, EndLine, Label, Point, first_point, end_lines, joined, pieces, text, end_text, text_of_lines, text_of_ends, head_step, has_shape, bytes_eq}
use Rattle.std.proofs.Common.{Some, None}
use Rattle.dm_law_runs.proofs.Names.{TraceFault, NotALine, NotDue, NotTheEnd, Course, Due, Head, InGroup, End, Verdict, Refused, Judgement, if_stands, taken, judged, judged_from, told, told_label, told_count, falls_as_step, at_end}
use Rattle.dm_check.specs.Judge.{Stands, Falls}
use Rattle.dm_law_runs.proofs.Names.{at_head, at_line, begins_group, behind_line, can_hold, is_line_text, verdict, verdict_by, by_rule}
use Rattle.std.proofs.lemmas.Slice.Eq.{bytes_eq-Decides}
use Rattle.dm_onekernel.specs.declared.label.Label.TheVariants as label
use Rattle.dm_line.specs.declared.line.Line.TheVariants as line
use Rattle.dm_check.specs.Classes.{tells_call, tells_made, tells_reception, told_ran}
use Rattle.dm_check.specs.Judge as judge
use Rattle.dm_check.proofs.Judging.{lines_append}
use Rattle.dm_law_runs.specs.Traces.Before.{Begins, Fewer, Printed, LinesBeforeArePrinted, RunOf, first_lines, text_of_run}
use Rattle.dm_law_runs.proofs.Traces.First.{last_from}
use Rattle.dm_law_runs.proofs.Traces.Going.{Came, came_first, came_on, due_group}
use Rattle.dm_law_runs.proofs.Traces.Led.{ends_there, led_of}
use Rattle.dm_law_mirror.proofs.Going.{joined_last}

-- these lines are left of the last group of a run, whose text begins so
record DueLines (b : Boot) (said : List ℕ) (left : List Line) (es : List Step) : Type 0 where
  groups : List (List Line)
  end : Point
  came : Came b es groups end
  is : text_of_lines (joined groups) ≡ said ++ text_of_lines left

-- these of the lines at its end
record DueEnds (b : Boot) (said : List ℕ) (left : List EndLine) : Type 0 where
  steps : List Step
  groups : List (List Line)
  end : Point
  came : Came b steps groups end
  is : text_of_lines (joined groups) ++ text_of_ends (end_lines end) ≡ said ++ text_of_ends left

-- what is due behind a text
abbrev IsDue : Boot → List ℕ → Due → Type 0
IsDue b said (Head es) = DueLines b said [] es
IsDue b said (InGroup l ls es) = DueLines b said (l ∷ ls) es
IsDue b said (judge.Nothing p) = ⊥
IsDue b said (End es n) = DueEnds b said es

abbrev run_of : {b : Boot} {es : List Step} {gs : List (List Line)} {pt : Point} → Came b es gs pt → RunOf b
run_of {b} {es} {gs} {pt} c = record { steps = es; groups = gs; end = pt; good = c.good; held = c.held; heads = c.heads }

-- so the text begins one of a run
record Onward (b : Boot) (said : List ℕ) : Type 0 where
  run : RunOf b
  rest : List ℕ
  is : text_of_run b run ≡ said ++ rest

lines_onward : (b : Boot) (said : List ℕ) (left : List Line) (es : List Step) → DueLines b said left es → Onward b said
lines_onward b said left es d = record {
  run = run_of d.came;
  rest = text_of_lines left ++ text_of_ends (end_lines d.end);
  is = ap (λ (t : List ℕ). t ++ text_of_ends (end_lines d.end)) d.is ∙ append_assoc said (text_of_lines left) (text_of_ends (end_lines d.end));
}

onward : (b : Boot) (said : List ℕ) (due : Due) → IsDue b said due → Onward b said
onward b said (Head es) d = lines_onward b said [] es d
onward b said (InGroup l ls es) d = lines_onward b said (l ∷ ls) es d
onward b said (judge.Nothing p) d = absurd d
onward b said (End es n) d = record { run = run_of d.came; rest = text_of_ends es; is = d.is }

-- a line with its line feed
abbrev fed : List ℕ → List ℕ
fed l = l ++ codes "\n"

-- a line says that a process ran fewer instructions than the system prints there
record TellsFewer (b : Boot) (said l : List ℕ) : Type 0 where
  run : RunOf b
  rest : List ℕ
  pid : Pid
  fewer : ℕ
  ran : ℕ
  is : text_of_run b run ≡ said ++ text (line.Label (label.Ran pid ran)) ++ rest
  told : told_ran pid (pieces 32 l) ≡ Some fewer
  less : fewer < ran

-- a line that stands is the one that is due, or says so
data Goes (b : Boot) (said l : List ℕ) (d : Due) : Type 0 where
  On : IsDue b (said ++ fed l) d → Goes b said l d
  Less : (p : Pid) → d ≡ judge.Nothing p → TellsFewer b said l → Goes b said l d

behind_due : (b : Boot) (said : List ℕ) (ls : List Line) (es : List Step) → DueLines b said ls es → IsDue b said (behind_line ls es)
behind_due b said [] es d = d
behind_due b said (l ∷ ls) es d = d

-- another line than the due one that stands
record TellsRan (l : Line) (ws : List (List ℕ)) (d : Due) : Type 0 where
  pid : Pid
  fewer : ℕ
  ran : ℕ
  due : d ≡ judge.Nothing pid
  is : l ≡ line.Label (label.Ran pid ran)
  told : told_ran pid ws ≡ Some fewer
  less : fewer < ran

step_falls : (t : Bool) (d : Due) → falls_as_step t ≡ Stands d → ⊥
step_falls true d e = cc
step_falls false d e = cc

count_ran : (quantum : ℕ) (p : Pid) (k : ℕ) (ws : List (List ℕ)) (d : Due) (o : Option ℕ) → told_ran p ws ≡ o → told_count quantum p k o ≡ Stands d → TellsRan (line.Label (label.Ran p k)) ws d
count_ran quantum p k ws d None told e = absurd (cc)
count_ran quantum p k ws d (Some n) told e = by_test (nat_lt n k) refl e
  where
    by_test : (t : Bool) → nat_lt n k ≡ t → (if t then Stands (judge.Nothing p) else falls_as_step (nat_lt k n && nat_le n quantum)) ≡ Stands d → TellsRan (line.Label (label.Ran p k)) ws d
    by_test true less is = record { pid = p; fewer = n; ran = k; due = let f : Stands d ≡ Stands (judge.Nothing p) = sym is in cc; is = refl; told = told; less = grind (arith, nat_tests) }
    by_test false less is = absurd (step_falls (nat_lt k n && nat_le n quantum) d is)

label_ran : (quantum : ℕ) (l : Label) (ws : List (List ℕ)) (d : Due) → told_label quantum l ws ≡ Stands d → TellsRan (line.Label l) ws d
label_ran quantum (label.Ran p k) ws d e = count_ran quantum p k ws d (told_ran p ws) refl e
label_ran quantum (label.Call p n c) ws d e = absurd (step_falls (tells_call p ws) d e)
label_ran quantum (label.Send p i) ws d e = absurd (step_falls (tells_call p ws) d e)
label_ran quantum (label.Wait p) ws d e = absurd (step_falls (tells_call p ws) d e)
label_ran quantum (label.Out p w) ws d e = absurd (step_falls (tells_call p ws) d e)
label_ran quantum (label.End p y) ws d e = absurd (step_falls (tells_call p ws) d e)
label_ran quantum (label.Receive p i) ws d e = absurd (step_falls (tells_reception p i ws) d e)
label_ran quantum (label.Refuse p i c) ws d e = absurd (step_falls (tells_reception p i ws) d e)
label_ran quantum (label.Created i p) ws d e = absurd (step_falls (tells_made i ws) d e)
label_ran quantum l ws d e = absurd (cc)

other_ran : (quantum : ℕ) (l : Line) (ws : List (List ℕ)) (d : Due) → told quantum l ws ≡ Stands d → TellsRan l ws d
other_ran quantum (line.Label l) ws d e = label_ran quantum l ws d e
other_ran quantum l ws d e = absurd (cc)

-- a line where this one of a group is due
line_test : (b : Boot) (quantum : ℕ) (said : List ℕ) (l : Line) (ls : List Line) (es : List Step) (w : List ℕ) (d : Due) (t : Bool) → DueLines b said (l ∷ ls) es → is_line_text w (text l) ≡ t
    → (if t then Stands (behind_line ls es) else told quantum l (pieces 32 w)) ≡ Stands d → Goes b said w d
unfolding text_of_lines
line_test b quantum said l ls es w d true h same is =
    let line_is : fed w ≡ text l = (bytes_eq-Decides (fed w) (text l)).0 same in
    let f : behind_line ls es ≡ d = cc in
    let next : DueLines b (said ++ fed w) ls es = record {
      groups = h.groups;
      end = h.end;
      came = h.came;
      is = h.is ∙ ap (λ (t : List ℕ). said ++ (t ++ text_of_lines ls)) (sym line_is) ∙ sym (append_assoc said (fed w) (text_of_lines ls));
    } in
    On (subst (IsDue b (said ++ fed w)) f (behind_due b (said ++ fed w) ls es next))
line_test b quantum said l ls es w d false h other is =
    let k = other_ran quantum l (pieces 32 w) d is in
    let ends : List ℕ = text_of_ends (end_lines h.end) in
    Less k.pid k.due (record {
      run = run_of h.came;
      rest = text_of_lines ls ++ ends;
      pid = k.pid;
      fewer = k.fewer;
      ran = k.ran;
      is =
          ap (λ (t : List ℕ). t ++ ends) h.is
          ∙ append_assoc said (text l ++ text_of_lines ls) ends
          ∙ ap (λ (t : List ℕ). said ++ t) (append_assoc (text l) (text_of_lines ls) ends)
          ∙ sym (append_assoc said (text l) (text_of_lines ls ++ ends))
          ∙ ap (λ (x : Line). said ++ text x ++ (text_of_lines ls ++ ends)) k.is;
      told = k.told;
      less = k.less;
    })

line_goes : (b : Boot) (quantum : ℕ) (said : List ℕ) (l : Line) (ls : List Line) (es : List Step) (w : List ℕ) (d : Due) → DueLines b said (l ∷ ls) es → at_line quantum l ls es w ≡ Stands d → Goes b said w d
line_goes b quantum said l ls es w d h is = line_test b quantum said l ls es w d (is_line_text w (text l)) h refl is

-- one where these of the lines at the end are
end_test : (b : Boot) (said : List ℕ) (x : EndLine) (es : List EndLine) (n : ℕ) (w : List ℕ) (d : Due) (t : Bool) → DueEnds b said (x ∷ es) → is_line_text w (end_text x) ≡ t → (if t then Stands (End es n) else Falls NotTheEnd) ≡ Stands d → Goes b said w d
unfolding text_of_ends
end_test b said x es n w d true h same is =
    let line_is : fed w ≡ end_text x = (bytes_eq-Decides (fed w) (end_text x)).0 same in
    let f : End es n ≡ d = cc in
    let next : DueEnds b (said ++ fed w) es = record {
      steps = h.steps;
      groups = h.groups;
      end = h.end;
      came = h.came;
      is = h.is ∙ ap (λ (t : List ℕ). said ++ (t ++ text_of_ends es)) (sym line_is) ∙ sym (append_assoc said (fed w) (text_of_ends es));
    } in
    On (subst (IsDue b (said ++ fed w)) f next)
end_test b said x es n w d false h other is = absurd (cc)

end_goes : (b : Boot) (said : List ℕ) (es : List EndLine) (n : ℕ) (w : List ℕ) (d : Due) → DueEnds b said es → at_end es n w ≡ Stands d → Goes b said w d
end_goes b said [] n w d h is = absurd (cc)
end_goes b said (x ∷ es) n w d h is = end_test b said x es n w d (is_line_text w (end_text x)) h refl is

new_group : (b : Boot) (said : List ℕ) (es : List Step) (e : Step) (ls : List Line) → IsValid b → DueLines b said [] es → can_hold (length b.machines) e ≡ true → (by_rule b).group es e ≡ Some ls → DueLines b said ls (es ++ e ∷ [])
unfolding text_of_lines
new_group b said es e ls valid h held due =
    let g = due_group b es h.end e ls (led_of b es (first_point b) h.end h.came.leads) due in
    record {
      groups = h.groups ++ g.group.lines ∷ [];
      end = g.group.point;
      came = came_on b es h.groups h.end e g.group valid h.came held g.due g.fresh;
      is =
          ap text_of_lines (joined_last h.groups g.group.lines)
          ∙ lines_append (joined h.groups) g.group.lines
          ∙ ap (λ (t : List ℕ). t ++ text_of_lines g.group.lines) (h.is ∙ append-nil said)
          ∙ ap (λ (xs : List Line). said ++ text_of_lines xs) g.lines;
    }

group_goes : (b : Boot) (said : List ℕ) (es : List Step) (e : Step) (w : List ℕ) (d : Due) (o : Option (List Line)) → IsValid b → DueLines b said [] es → can_hold (length b.machines) e ≡ true → (by_rule b).group es e ≡ o
    → begins_group b.quantum o (es ++ e ∷ []) w ≡ Stands d → Goes b said w d
group_goes b said es e w d None valid h held due is = absurd (cc)
group_goes b said es e w d (Some []) valid h held due is = absurd (cc)
group_goes b said es e w d (Some (l ∷ ls)) valid h held due is = line_goes b b.quantum said l ls (es ++ e ∷ []) w d (new_group b said es e (l ∷ ls) valid h held due) is

-- the lines at the end are
new_ends : (b : Boot) (said : List ℕ) (es : List Step) → DueLines b said [] es → DueEnds b said ((by_rule b).ends es)
unfolding text_of_lines
new_ends b said es h = record {
  steps = es;
  groups = h.groups;
  end = h.end;
  came = h.came;
  is =
      ap (λ (t : List ℕ). t ++ text_of_ends (end_lines h.end)) (h.is ∙ append-nil said)
      ∙ ap (λ (xs : List EndLine). said ++ text_of_ends xs) (sym (ends_there b es h.end (led_of b es (first_point b) h.end h.came.leads)));
}

head_goes : (b : Boot) (said : List ℕ) (es : List Step) (w : List ℕ) (d : Due) (o : Option Step) → IsValid b → DueLines b said [] es → at_head (by_rule b) es w o ≡ Stands d → Goes b said w d
head_goes b said es w d (Some e) valid h is = by_test (can_hold (length b.machines) e) refl is
  where
    by_test : (t : Bool) → can_hold (length b.machines) e ≡ t → (if t then begins_group b.quantum ((by_rule b).group es e) (es ++ e ∷ []) w else Falls NotDue) ≡ Stands d → Goes b said w d
    by_test true held is = group_goes b said es e w d ((by_rule b).group es e) valid h held refl is
    by_test false held is = absurd (cc)
head_goes b said es w d None valid h is = by_test (bytes_eq w (codes "final")) is
  where
    by_test : (t : Bool) → (if t then at_end ((by_rule b).ends es) (length es) w else Falls NotDue) ≡ Stands d → Goes b said w d
    by_test true is = end_goes b said ((by_rule b).ends es) (length es) w d (new_ends b said es h) is
    by_test false is = absurd (cc)

due_goes : (b : Boot) (said : List ℕ) (due : Due) (w : List ℕ) (d : Due) → IsValid b → IsDue b said due → taken (by_rule b) due w ≡ Stands d → Goes b said w d
due_goes b said (Head es) w d valid h is = head_goes b said es w d (head_step w) valid h is
due_goes b said (InGroup l ls es) w d valid h is = line_goes b b.quantum said l ls es w d h is
due_goes b said (judge.Nothing p) w d valid h is = absurd h
due_goes b said (End es n) w d valid h is = end_goes b said es n w d h is

-- the first lines behind a text, as `Begins` has them of a whole one
data BeginsHere (b : Boot) (said : List ℕ) (ps : List (List ℕ)) (lines : ℕ) : Type 0 where
  Alike : (r : RunOf b) → (rest : List ℕ) → text_of_run b r ≡ (said ++ first_lines lines ps) ++ rest → BeginsHere b said ps lines
  Lower : (r : RunOf b) → (rest : List ℕ) → (before : ℕ) → (p : Pid) → (fewer ran : ℕ) → before + 1 ≡ lines
      → text_of_run b r ≡ (said ++ first_lines before ps) ++ text (line.Label (label.Ran p ran)) ++ rest → told_ran p (pieces 32 (get_or ps before [])) ≡ Some fewer → fewer < ran → BeginsHere b said ps lines

-- none of them
begins_none : (b : Boot) (said : List ℕ) (ps : List (List ℕ)) → Onward b said → BeginsHere b said ps zero
begins_none b said ps o = Alike o.run o.rest (o.is ∙ ap (λ (t : List ℕ). t ++ o.rest) (sym (append-nil said)))

-- one more before them
begins_more : (b : Boot) (said w : List ℕ) (ps : List (List ℕ)) (lines : ℕ) → BeginsHere b (said ++ fed w) ps lines → BeginsHere b said (w ∷ ps) (suc lines)
begins_more b said w ps lines (Alike r rest is) = Alike r rest (is ∙ ap (λ (t : List ℕ). t ++ rest) (append_assoc said (fed w) (first_lines lines ps)))
begins_more b said w ps lines (Lower r rest before p fewer ran one is told less) =
    Lower r rest (suc before) p fewer ran (omega (arith, one)) (is ∙ ap (λ (t : List ℕ). t ++ text (line.Label (label.Ran p ran)) ++ rest) (append_assoc said (fed w) (first_lines before ps))) told less

begins_fewer : (b : Boot) (said w : List ℕ) (ps : List (List ℕ)) → TellsFewer b said w → BeginsHere b said (w ∷ ps) 1
begins_fewer b said w ps t =
    Lower t.run t.rest zero t.pid t.fewer t.ran (omega arith) (t.is ∙ ap (λ (s : List ℕ). s ++ text (line.Label (label.Ran t.pid t.ran)) ++ t.rest) (sym (append-nil said))) t.told t.less

-- a line that stands, of a text that is refused behind it
line_on : (X : Type 0) (number n : ℕ) (f : TraceFault) (s : Bool) (j : Judgement) (next : Due → Verdict) → number < n → ((d : Due) → j ≡ Stands d → next d ≡ Refused n f → X) → (if s then if_stands number j next else Refused number NotALine) ≡ Refused n f → X
line_on X number n f false j next less go is = absurd (let e : number ≡ n = cc in omega (arith, less, e))
line_on X number n f true (Stands d) next less go is = go d refl is
line_on X number n f true (Falls g) next less go is = absurd (let e : number ≡ n = cc in omega (arith, less, e))

-- no line stands behind one that tells of too few instructions
falls_here : (number n : ℕ) (f : TraceFault) (s t : Bool) (next : Due → Verdict) → (if s then if_stands number (falls_as_step t) next else Refused number NotALine) ≡ Refused n f → number ≡ n
falls_here number n f false t next is = cc
falls_here number n f true true next is = cc
falls_here number n f true false next is = cc

refused_here : (c : Course) (p : Pid) (number n : ℕ) (f : TraceFault) (w : List ℕ) (ps : List (List ℕ)) → judged c (judge.Nothing p) number w ps ≡ Refused n f → number ≡ n
refused_here c p number n f w [] is = last_from number n f (judge.Nothing p) (length w == 0) is
refused_here c p number n f w (v ∷ ps) is = falls_here number n f (has_shape w) (tells_call p (pieces 32 w)) (λ d. judged c d (number + 1) v ps) is

begins_on : (b : Boot) (said w : List ℕ) (ps : List (List ℕ)) (number k n : ℕ) (f : TraceFault) (v : List ℕ) (d : Due) → Goes b said w d → number + suc k ≡ n → judged (by_rule b) d (number + 1) v ps ≡ Refused n f
    → (IsDue b (said ++ fed w) d → BeginsHere b (said ++ fed w) (v ∷ ps) k) → BeginsHere b said (w ∷ v ∷ ps) (suc k)
begins_on b said w ps number k n f v d (On next) at is go = begins_more b said w (v ∷ ps) k (go next)
begins_on b said w ps number k n f v d (Less p due_is t) at is go =
    let last : number + 1 ≡ n = refused_here (by_rule b) p (number + 1) n f v ps (subst (λ (x : Due). judged (by_rule b) x (number + 1) v ps ≡ Refused n f) due_is is) in
    let one : 1 ≡ suc k = omega (arith, last, at) in
    subst (BeginsHere b said (w ∷ v ∷ ps)) one (begins_fewer b said w (v ∷ ps) t)

begins_from : (b : Boot) (due : Due) (said : List ℕ) (number k n : ℕ) (f : TraceFault) (w : List ℕ) (ps : List (List ℕ)) → IsValid b → IsDue b said due → number + k ≡ n → judged (by_rule b) due number w ps ≡ Refused n f → BeginsHere b said (w ∷ ps) k
begins_from b due said number zero n f w ps valid h at is = begins_none b said (w ∷ ps) (onward b said due h)
begins_from b due said number (suc k) n f w [] valid h at is = absurd (let e = last_from number n f due (length w == 0) is in omega (arith, e, at))
begins_from b due said number (suc k) n f w (v ∷ ps) valid h at is =
    line_on (BeginsHere b said (w ∷ v ∷ ps) (suc k)) number n f (has_shape w) (taken (by_rule b) due w) (λ d. judged (by_rule b) d (number + 1) v ps) (omega (arith, at))
    (λ d stands more.
    begins_on b said w ps number k n f v d (due_goes b said due w d valid h stands) at more (λ next. begins_from b d (said ++ fed w) (number + 1) k n f v ps valid next (omega (arith, at)) more)) is

first_due : (b : Boot) → DueLines b [] [] []
unfolding text_of_lines
first_due b = record { groups = []; end = first_point b; came = came_first b; is = refl }

whole : (b : Boot) (bytes : List ℕ) (lines : ℕ) → BeginsHere b [] (pieces 10 bytes) lines → Begins b bytes lines
whole b bytes lines (Alike r rest is) = Printed r rest is
whole b bytes lines (Lower r rest before p fewer ran one is told less) = Fewer r rest before p fewer ran one is told less

pub lines_before : LinesBeforeArePrinted
unfolding verdict verdict_by
lines_before b bytes n f valid is before at = whole b bytes before (by_pieces (pieces 10 bytes) is)
  where
    by_pieces : (ps : List (List ℕ)) → judged_from (by_rule b) (Head []) 1 ps ≡ Refused n f → BeginsHere b [] ps before
    by_pieces [] e = absurd (cc)
    by_pieces (w ∷ ps) e = begins_from b (Head []) [] 1 before n f w ps valid (first_due b) (omega (arith, at)) e
