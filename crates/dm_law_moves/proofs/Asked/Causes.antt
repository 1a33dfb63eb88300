-- The answer to a request to move follows at once on a line that is its cause.
use Rattle.dm_law_moves.proofs.Names.{◌≡◌, Bool, true, false, List, [], ◌∷◌, ◌++◌, length, refl, ap, ◌∙◌, sym, subst, inl, inr, cases_Bool, false≢true, if◌then◌else◌, Option, None, Some, Pid, pid_eq, pid_eq-is, MsgId, Outcome, MoveNote}
use Rattle.dm_law_moves.proofs.Names.{PlainMessage, Boot, IsValid, Label, Line, Step, Told, View, Point, Part, Says, Routes, Spelled, spelled, group_of, group_is, answers_move, LeadsBy, Both, both_start, both_group, run_start, run_group}
use Rattle.dm_law_moves.proofs.Names.{Run, begun, receiver_of, append_assoc, answer_id, AnswersHaveCauses, HasCause, IsCause, is_answer_by, letter_of, act_of, arith, none_some}
use Rattle.dm_law_moves.proofs.Leading.{All, AllLines, Saying, parts_say, next_of}
use Rattle.dm_law_moves.proofs.Ends.Sources.{Sources, group_acts}
use Rattle.dm_law_moves.proofs.Ends.Always.{step_for}
use Rattle.dm_law_moves.proofs.Open.Stays.{Lies, First, Later, lies, none_there}
use Rattle.dm_law_moves.proofs.Ends.Parts.{Extends}
use Rattle.dm_law_moves.proofs.Ends.Groups.{unmarked_answer}
use Rattle.dm_law_moves.proofs.Asked.Following.{Row, Plain, Ends, IsHere, Leaves, AllUnmarked, EndLine, outcome_row, plain_notes, ends_notes, here_notes, here_gone, leaves_notes}
use Rattle.dm_law_moves.proofs.At.RestPairs.{within_run}

-- lines that answer no request
abbrev Unsaid : Line → Type 0
Unsaid l = is_answer_by (act_of l) ≡ false

unmarked_unsaid : (ps : List Part) → AllUnmarked ps → All (Saying Unsaid) ps
unmarked_unsaid [] so = tt
unmarked_unsaid (Says l ∷ ps) so = (unmarked_answer l so.0, unmarked_unsaid ps so.1)
unmarked_unsaid (p ∷ ps) so = (tt, unmarked_unsaid ps so.1)

-- where the answer stands among lines that say one
none_answers : (xs earlier g : List Line) (i : MsgId) (o : Outcome) → AllLines Unsaid xs → xs ≡ earlier ++ Line.Label (Label.Answered i o) ∷ g → ⊥
none_answers [] [] g i o h e = cc
none_answers [] (y ∷ earlier) g i o h e = cc
none_answers (x ∷ xs) [] g i o h e = let f : x ≡ Line.Label (Label.Answered i o) = cc in false≢true (sym h.0 ∙ ap (λ (l : Line). is_answer_by (act_of l)) f)
none_answers (x ∷ xs) (y ∷ earlier) g i o h e = none_answers xs earlier g i o h.1 (let f : xs ≡ earlier ++ Line.Label (Label.Answered i o) ∷ g = cc in f)

record Stands (earlier xs : List Line) (i j : MsgId) (o r : Outcome) : Type 0 where
  lines : earlier ≡ xs
  request : i ≡ j
  outcome : o ≡ r

only_answer : (xs zs earlier g : List Line) (j i : MsgId) (r o : Outcome) → AllLines Unsaid xs → AllLines Unsaid zs → xs ++ Line.Label (Label.Answered j r) ∷ zs ≡ earlier ++ Line.Label (Label.Answered i o) ∷ g → Stands earlier xs i j o r
only_answer [] zs [] g j i r o h k e = record { lines = refl; request = cc; outcome = cc }
only_answer [] zs (y ∷ earlier) g j i r o h k e = absurd (none_answers zs earlier g i o k (let f : zs ≡ earlier ++ Line.Label (Label.Answered i o) ∷ g = cc in f))
only_answer (x ∷ xs) zs [] g j i r o h k e = absurd (let f : x ≡ Line.Label (Label.Answered i o) = cc in false≢true (sym h.0 ∙ ap (λ (l : Line). is_answer_by (act_of l)) f))
only_answer (x ∷ xs) zs (y ∷ earlier) g j i r o h k e =
    let s = only_answer xs zs earlier g j i r o h.1 k (let f : xs ++ Line.Label (Label.Answered j r) ∷ zs ≡ earlier ++ Line.Label (Label.Answered i o) ∷ g = cc in f) in
    let same : y ≡ x = cc in
    record { lines = ap (λ (l : Line). l ∷ earlier) same ∙ ap (λ (ls : List Line). x ∷ ls) s.lines; request = s.request; outcome = s.outcome }

-- whom each request that is followed was for
abbrev NotesTold : Point → Type 0
NotesTold pt = (p : Pid) (n : MoveNote) → pt.kernel.notes p ≡ Some n → (t : Told) × (pt.view.told n.id ≡ Some t) × (t.receiver ≡ p)

told_as : (o : Option Told) (q : Pid) → receiver_of o ≡ Some q → (t : Told) × (o ≡ Some t) × (t.receiver ≡ q)
told_as None q e = none_some q e
told_as (Some t) q e = (t, refl, cc)

in_bag_told : (b : Boot) (pt : Point) → Run b pt → (i : MsgId) (m : PlainMessage) → pt.kernel.bag i ≡ Some m → (t : Told) × (pt.view.told i ≡ Some t) × (t.receiver ≡ m.to)
in_bag_told b pt h i m there =
    let state = h.based.phased.state in
    told_as (pt.view.told i) m.to (state.stands.told i m.to (letter_of state.r state.e state.own pt.kernel i m there state.sound))

noted_none : (c : Bool) (o : Option MoveNote) (n : MoveNote) → (if c then None else o) ≡ Some n → o ≡ Some n
noted_none true o n e = none_some n e
noted_none false o n e = e

told_on : (pt : Point) (v : View) → Extends pt.view.told v.told → (i : MsgId) (p : Pid) → (t : Told) × (pt.view.told i ≡ Some t) × (t.receiver ≡ p) → (t : Told) × (v.told i ≡ Some t) × (t.receiver ≡ p)
told_on pt v ext i p (t, told, for_) = (t, ext i t told, for_)

row_told : (b : Boot) (pt : Point) (d : Step) (ps : List Part) (w : Spelled) → Run b pt → Extends pt.view.told w.point.view.told → NotesTold pt → spelled (begun pt d) ps ≡ Some w → Row pt d ps → NotesTold w.point
row_told b pt d ps w run ext h e (Plain so) p n noted = told_on pt w.point.view ext n.id p (h p n (sym (plain_notes p ps (begun pt d) w so e) ∙ noted))
row_told b pt d ps w run ext h e (Ends q k l r was end are) p n noted =
    let sane = run.based.phased.sane in
    let notes = ends_notes (begun pt d) q p k l r w (sane.sound.notes.noted q k was) end (ap (spelled (begun pt d)) (sym are) ∙ e) in
    told_on pt w.point.view ext n.id p (h p n (noted_none (pid_eq q p) (pt.kernel.notes p) n (sym notes ∙ noted)))
row_told b pt d ps w run ext h e (IsHere id msg there here are) p n noted = elim (cases_Bool (pid_eq msg.to p)) [
  | inl same ↦ absurd (let f : None ≡ Some n = sym (here_gone (begun pt d) id msg p w there same (ap (spelled (begun pt d)) (sym are) ∙ e)) ∙ noted in cc)
  | inr off ↦ told_on pt w.point.view ext n.id p (h p n (sym (here_notes (begun pt d) id msg p w there off (ap (spelled (begun pt d)) (sym are) ∙ e)) ∙ noted))
]
row_told b pt d ps w run ext h e (Leaves id msg to unasked there here what are) p n noted =
    let now : MoveNote = record { id = id; asker = msg.sender } in
    let notes : (if pid_eq msg.to p then Some now else pt.kernel.notes p) ≡ Some n = sym (leaves_notes (begun pt d) id msg to p w there (ap (spelled (begun pt d)) (sym are) ∙ e)) ∙ noted in
    elim (cases_Bool (pid_eq msg.to p)) [
      | inl same ↦
          let f : Some now ≡ Some n = sym (ap (λ (c : Bool). if c then Some now else pt.kernel.notes p) same) ∙ notes in
          let name : id ≡ n.id = (let g : now ≡ n = cc in ap (λ (k : MoveNote). k.id) g) in
          let (t, told, for_) = in_bag_told b pt run id msg there in
          told_on pt w.point.view ext n.id p (t, ap pt.view.told (sym name) ∙ told, for_ ∙ pid_eq-is msg.to p same)
      | inr off ↦ told_on pt w.point.view ext n.id p (h p n (sym (ap (λ (c : Bool). if c then Some now else pt.kernel.notes p) off) ∙ notes))
    ]

group_told : (b : Boot) (pt : Point) (d : Step) (w : Spelled) → Run b pt → Extends pt.view.told w.point.view.told → NotesTold pt → group_of b pt d ≡ Some w → NotesTold w.point
group_told b pt d w run ext h e =
    let k = group_is b pt d w e in
    subst NotesTold k.point (row_told b pt d k.parts k.rest run (subst (λ (x : Point). Extends pt.view.told x.view.told) (sym k.point) ext) h k.said (outcome_row b pt d k.parts k.is))

-- a line, and the lines of the parts behind it
says_lines : (pt : Point) (l : Line) (ps : List Part) (w : Spelled) → spelled pt (Says l ∷ ps) ≡ Some w → (next : Point) × (rest : Spelled) × (spelled next ps ≡ Some rest) × ((l ∷ rest.lines) ≡ w.lines)
says_lines pt l ps w e = search (arith, next_of)

cause_is : (i : MsgId) (q : Pid) (r : Outcome) (l : Line) → EndLine q r l → IsCause i q r l
cause_is i q Outcome.Done l e = inl e
cause_is i q Outcome.Stayed l e = e
cause_is i q Outcome.Ended l e = e

end_unsaid : (q : Pid) (r : Outcome) (l : Line) → EndLine q r l → Unsaid l
end_unsaid q Outcome.Done l e = ap (λ (k : Line). is_answer_by (act_of k)) e
end_unsaid q Outcome.Stayed l e = ap (λ (k : Line). is_answer_by (act_of k)) e
end_unsaid q Outcome.Ended l e = absurd e

has_cause : (told : MsgId → Option Told) (d : Step) (l : Line) (earlier : List Line) (i j : MsgId) (o r : Outcome) (q : Pid) → Stands earlier (Line.Head d ∷ l ∷ []) i j o r → (t : Told) × (told j ≡ Some t) × (t.receiver ≡ q)
    → IsCause j q r l → HasCause told earlier i o
has_cause told d l earlier i j o r q s (t, was, for_) cause =
    subst (λ (x : MsgId). HasCause told earlier x o) (sym s.request)
    (subst (HasCause told earlier j) (sym s.outcome) (record { before = Line.Head d ∷ []; cause = l; behind = s.lines; request = t; was_put = was; is = subst (λ (x : Pid). IsCause j x r l) (sym for_) cause }))

row_cause : (b : Boot) (pt : Point) (d : Step) (ps : List Part) (w : Spelled) (earlier g : List Line) (i : MsgId) (o : Outcome) → Run b pt → NotesTold pt → spelled (begun pt d) ps ≡ Some w
    → (Line.Head d ∷ w.lines) ≡ earlier ++ Line.Label (Label.Answered i o) ∷ g → Row pt d ps → HasCause pt.view.told earlier i o
row_cause b pt d ps w earlier g i o run h e split (Plain so) = absurd (none_answers (Line.Head d ∷ w.lines) earlier g i o (refl, (parts_say Unsaid (λ a b i k q. refl) (λ a b n l. refl)) ps (begun pt d) w (unmarked_unsaid ps so) e) split)
row_cause b pt d ps w earlier g i o run h e split (Ends q n l r noted end are) =
    let (next, rest, more, lines) = says_lines (begun pt d) l (answers_move n.id r) w (ap (spelled (begun pt d)) (sym are) ∙ e) in
    let (last, end_, more_, lines_) = says_lines next (Line.Label (Label.Answered n.id r)) (Routes (answer_id n.id) ∷ []) rest more in
    let all : Line.Head d ∷ l ∷ Line.Label (Label.Answered n.id r) ∷ end_.lines ≡ earlier ++ Line.Label (Label.Answered i o) ∷ g = ap (λ (ls : List Line). Line.Head d ∷ l ∷ ls) lines_ ∙ ap (λ (ls : List Line). Line.Head d ∷ ls) lines ∙ split in
    let s = only_answer (Line.Head d ∷ l ∷ []) end_.lines earlier g n.id i r o (refl, (end_unsaid q r l end, tt)) ((parts_say Unsaid (λ a b i k q. refl) (λ a b n l. refl)) (Routes (answer_id n.id) ∷ []) last end_ (tt, tt) more_) all in
    has_cause pt.view.told d l earlier i n.id o r q s (h q n noted) (cause_is n.id q r l end)
row_cause b pt d ps w earlier g i o run h e split (IsHere id msg there here are) =
    let l = Line.Label (Label.Asked id) in
    let (next, rest, more, lines) = says_lines (begun pt d) l (answers_move id Outcome.Done) w (ap (spelled (begun pt d)) (sym are) ∙ e) in
    let (last, end_, more_, lines_) = says_lines next (Line.Label (Label.Answered id Outcome.Done)) (Routes (answer_id id) ∷ []) rest more in
    let all : Line.Head d ∷ l ∷ Line.Label (Label.Answered id Outcome.Done) ∷ end_.lines ≡ earlier ++ Line.Label (Label.Answered i o) ∷ g = ap (λ (ls : List Line). Line.Head d ∷ l ∷ ls) lines_ ∙ ap (λ (ls : List Line). Line.Head d ∷ ls) lines ∙ split in
    let s = only_answer (Line.Head d ∷ l ∷ []) end_.lines earlier g id i Outcome.Done o (refl, (refl, tt)) ((parts_say Unsaid (λ a b i k q. refl) (λ a b n l. refl)) (Routes (answer_id id) ∷ []) last end_ (tt, tt) more_) all in
    has_cause pt.view.told d l earlier i id o Outcome.Done msg.to s (in_bag_told b pt run id msg there) (inr refl)
row_cause b pt d ps w earlier g i o run h e split (Leaves id msg to unasked there here what are) =
    let ok : All (Saying Unsaid) ps = subst (All (Saying Unsaid)) (sym are) (refl, (refl, (refl, (tt, tt)))) in
    absurd (none_answers (Line.Head d ∷ w.lines) earlier g i o (refl, (parts_say Unsaid (λ a b i k q. refl) (λ a b n l. refl)) ps (begun pt d) w ok e) split)

group_cause : (b : Boot) (pt : Point) (d : Step) (w : Spelled) (earlier g : List Line) (i : MsgId) (o : Outcome) → Run b pt → NotesTold pt → group_of b pt d ≡ Some w → w.lines ≡ earlier ++ Line.Label (Label.Answered i o) ∷ g
    → HasCause pt.view.told earlier i o
group_cause b pt d w earlier g i o run h e split =
    let k = group_is b pt d w e in
    row_cause b pt d k.parts k.rest earlier g i o run h k.said (ap (λ (x : Spelled). x.lines) k.whole ∙ split) (outcome_row b pt d k.parts k.is)

cause_on : (f g : MsgId → Option Told) (earlier : List Line) (i : MsgId) (o : Outcome) → Extends f g → HasCause f earlier i o → HasCause g earlier i o
cause_on f g earlier i o ext h = record { before = h.before; cause = h.cause; behind = h.behind; request = h.request; was_put = ext i h.request h.was_put; is = h.is }

cause_behind : (f : MsgId → Option Told) (xs between earlier : List Line) (i : MsgId) (o : Outcome) → earlier ≡ xs ++ between → HasCause f between i o → HasCause f earlier i o
cause_behind f xs between earlier i o are h =
    record { before = xs ++ h.before; cause = h.cause; behind = are ∙ ap (λ (ls : List Line). xs ++ ls) h.behind ∙ sym (append_assoc xs h.before (h.cause ∷ [])); request = h.request; was_put = h.was_put; is = h.is }

-- a run
record Behind (b : Boot) (pt end : Point) (ls : List Line) : Type 0 where
  grows : Extends pt.view.told end.view.told
  causes : (earlier later : List Line) (i : MsgId) (o : Outcome) → ls ≡ earlier ++ Line.Label (Label.Answered i o) ∷ later → HasCause end.view.told earlier i o

run_causes : (b : Boot) (es : List Step) (ls : List Line) (pt end : Point) → IsValid b → LeadsBy b pt es ls end → Both b pt → Sources (length b.machines) pt.view → NotesTold pt → Behind b pt end ls
run_causes b [] ls pt end valid (none, at) h sources told = search (arith, none_there)
run_causes b (d ∷ ds) ls pt end valid (w, rest, fit, is, split, more) h sources told =
    let next : Both b w.point = both_group run_group b pt d w valid fit is h in
    let acts = group_acts (length b.machines) b pt d w (step_for b pt d h fit) (within_run b pt h.run) is sources in
    let r = run_causes b ds rest w.point end valid more next acts.sources (group_told b pt d w h.run acts.grows told is) in
    record {
      grows = λ i t e. r.grows i t (acts.grows i t e);
      causes = λ earlier later i o f. by_lies earlier later i o (λ j t e. r.grows j t (acts.grows j t e)) r (lies w.lines rest earlier later (Line.Label (Label.Answered i o)) (sym split ∙ f));
    }
  where
    by_lies : (earlier later : List Line) (i : MsgId) (o : Outcome) → Extends pt.view.told end.view.told → Behind b w.point end rest → Lies w.lines rest earlier later (Line.Label (Label.Answered i o)) → HasCause end.view.told earlier i o
    by_lies earlier later i o ext r (First g f) = cause_on pt.view.told end.view.told earlier i o ext (group_cause b pt d w earlier g i o h.run told is f)
    by_lies earlier later i o ext r (Later between are f) = cause_behind end.view.told w.lines between earlier i o are (r.causes between later i o f)

-- wherever the rule leads
pub answers_have_causes : AnswersHaveCauses
answers_have_causes b es ls earlier later pt i o valid leads split = search (arith, run_causes, both_start, run_start)
