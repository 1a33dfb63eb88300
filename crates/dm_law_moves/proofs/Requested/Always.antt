-- Moves go where they were to go, and what the answer to a request says holds: by the line itself, in its group.
use Rattle.dm_law_moves.proofs.Names.{◌≡◌, ℕ, ◌+◌, Bool, true, false, List, [], ◌∷◌, ◌++◌, length, refl, ap, ◌∙◌, sym, subst, inl, inr, false≢true, if◌then◌else◌, Option, None, Some, Pid, pid_eq, pid_eq-is, pid_eq-same, MsgId, MessageKind}
use Rattle.dm_law_moves.proofs.Names.{Outcome, MoveNote, Boot, IsValid, PlainMessage, Label, Line, Stage, Step, Known, Here, Frozen, Incoming, at_record_at, view_after, first_point, after, Point, moved, label_of, kernel_after, Part, Says}
use Rattle.dm_law_moves.proofs.Names.{Routes, Owns, Spelled, spelled, sends_on, called_parts, to_kernel, leaves_for, answers_move, tells_asker, answer_id, group_of, by_group, begun, said_by, bind, OneKernel, append_assoc, InPhases}
use Rattle.dm_law_moves.proofs.Names.{destination_expects, Both, PlainWhat, Told, Of, target_of, ◌==◌, both_start, both_group, run_start, run_group, LeadsBy, is_moving, count, Mark, Reached}
use Rattle.dm_law_moves.proofs.Names.{Lacking, Calling, Staying, marks, mark_for, step_number, left_open, follows, in_order, is_answer_by, act_of, left_true, right_true, nat_tests, arith, Act, source_holds, mark_in, Request, Directive}
use Rattle.dm_law_moves.proofs.Names.{starts, takes_in, IsNamedMachine, MovesAsNamed, IsRefused, IsSo, AnswersSo, AnswersAreSo}
use Rattle.dm_law_rule.specs.Acts as act
use Rattle.dm_law_rule.specs.Rule as rule
use Rattle.dm_law_moves.specs.Requested.{Follows}
use Rattle.dm_law_moves.proofs.After.{after-append}
use Rattle.dm_law_moves.proofs.Leading.{All, Saying, AllLines, parts_say, next_of}
use Rattle.dm_law_moves.proofs.Open.Stays.{Lies, First, Later, lies, none_there}
use Rattle.dm_law_moves.proofs.Stages.Spares.{open_after, marks-append, mark_same}
use Rattle.dm_law_moves.proofs.Stages.Always.{steps_in_order}
use Rattle.dm_law_moves.proofs.Ends.Parts.{count-append}
use Rattle.dm_law_moves.proofs.Asked.Following.{EndLine}
use Rattle.dm_law_moves.proofs.Requested.Deeds.{Deed, Mild, Directs, Calls, IsThere, SetsOff, Obeys, Answers, Ends, AtFront, AnswerLine, EndsBy, AllMild, is_wild, outcome_deed}
use Rattle.dm_law_moves.proofs.Requested.Kept.{Kept, Off, Why, source_at, target_at, token_for, off_on, kept_start, kept_group, sends_all, asker_all, plain_next}
use Rattle.dm_law_moves.proofs.Requested.Backs.{quiet_more}

-- a line that stands among lines of which only one is such
none_is : (f : Line → Bool) (xs earlier g : List Line) (l : Line) → AllLines (λ x. f x ≡ false) xs → f l ≡ true → xs ≡ earlier ++ l ∷ g → ⊥
none_is f [] [] g l h such e = cc
none_is f [] (y ∷ earlier) g l h such e = cc
none_is f (x ∷ xs) [] g l h such e = let same : x ≡ l = cc in false≢true (sym h.0 ∙ ap f same ∙ such)
none_is f (x ∷ xs) (y ∷ earlier) g l h such e = none_is f xs earlier g l h.1 such (let k : xs ≡ earlier ++ l ∷ g = cc in k)

record Is (xs earlier : List Line) (y l : Line) : Type 0 where
  lines : earlier ≡ xs
  line : l ≡ y

only_is : (f : Line → Bool) (xs zs earlier g : List Line) (y l : Line) → AllLines (λ x. f x ≡ false) xs → AllLines (λ x. f x ≡ false) zs → f l ≡ true → xs ++ y ∷ zs ≡ earlier ++ l ∷ g → Is xs earlier y l
only_is f [] zs [] g y l h k such e = record { lines = refl; line = (let same : y ≡ l = cc in sym same) }
only_is f [] zs (x ∷ earlier) g y l h k such e = absurd (none_is f zs earlier g l k such (let m : zs ≡ earlier ++ l ∷ g = cc in m))
only_is f (x ∷ xs) zs [] g y l h k such e = let same : x ≡ l = cc in absurd (false≢true (sym h.0 ∙ ap f same ∙ such))
only_is f (x ∷ xs) zs (z ∷ earlier) g y l h k such e =
    let s = only_is f xs zs earlier g y l h.1 k such (let m : xs ++ y ∷ zs ≡ earlier ++ l ∷ g = cc in m) in
    let same : z ≡ x = cc in
    record { lines = ap (λ (v : Line). v ∷ earlier) same ∙ ap (λ (vs : List Line). x ∷ vs) s.lines; line = s.line }

-- a process comes, or is refused
takes_said : (p : Pid) (ps : List Part) (z : Point) (r : Spelled) → All (Saying (λ l. takes_in p l ≡ false)) ps → spelled z ps ≡ Some r → AllLines (λ l. takes_in p l ≡ false) r.lines
takes_said p ps z r so e = parts_say (λ l. takes_in p l ≡ false) (λ a b i k q. refl) (λ a b n l. refl) ps z r so e

mild_takes : (p : Pid) (ps : List Part) → AllMild ps → All (Saying (λ l. takes_in p l ≡ false)) ps
mild_takes p [] h = tt
mild_takes p (Says l ∷ ps) h = (by_line l h.0, mild_takes p ps h.1)
  where
    by_line : (l : Line) → is_wild l ≡ false → takes_in p l ≡ false
    by_line l e = grind (arith, nat_tests)
mild_takes p (x ∷ ps) h = (tt, mild_takes p ps h.1)

follows_why : (b : Boot) (before : List Line) (p : Pid) (s d : ℕ) (o : Option MoveNote) → Why b before p s d o → Follows b before p s d
follows_why b before p s d None why = Directive why
follows_why b before p s d (Some n) (first, are, asked) = Request first n.id are asked

-- the machine of a group is the one that was named
named_at : (b : Boot) (ls : List Line) (pt : Point) (d : Step) (p : Pid) (s m : ℕ) (o : Option MoveNote) → Kept b ls pt → (begun pt d).view.acting ≡ m → Off b ls p s m o → IsNamedMachine b (ls ++ Line.Head d ∷ []) p
named_at b ls pt d p s m o h acting off =
    let more = off_on b ls (Line.Head d ∷ []) p s m o off refl in
    record {
      before = more.before;
      between = more.between;
      began = more.are;
      last = more.last;
      source = s;
      target = m;
      follows = follows_why b more.before p s m o more.why;
      point = begun pt d;
      stands = after-append ls (Line.Head d ∷ []) (first_point b) pt (begun pt d) h.run refl;
      acting = acting;
    }

-- of a group whose first line is such
first_takes : (b : Boot) (ls : List Line) (pt : Point) (d : Step) (q p : Pid) (l k : Line) (s m : ℕ) (ps : List Part) (r : Spelled) (earlier g : List Line) → Kept b ls pt → (begun pt d).view.acting ≡ m → label_of l ≡ None → takes_in p l ≡ pid_eq p q → All (Saying (λ x. takes_in p x ≡ false)) ps
    → Off b ls q s m (pt.kernel.notes q) → spelled (begun pt d) (Says l ∷ ps) ≡ Some r → takes_in p k ≡ true → Line.Head d ∷ r.lines ≡ earlier ++ k ∷ g → IsNamedMachine b (ls ++ earlier) p
first_takes b ls pt d q p l k s m ps r earlier g h acting none is so off said takes split =
    let (rest, more, lines, end) = plain_next (begun pt d) l ps r none said in
    let at_ = only_is (takes_in p) (Line.Head d ∷ []) rest.lines earlier g l k (refl, tt) (takes_said p ps (moved (begun pt d) l (begun pt d).kernel) rest so more) takes (ap (λ (xs : List Line). Line.Head d ∷ xs) lines ∙ split) in
    let same : p ≡ q = pid_eq-is p q (sym is ∙ ap (takes_in p) (sym at_.line) ∙ takes) in
    subst (λ (xs : List Line). IsNamedMachine b (ls ++ xs) p) (sym at_.lines) (subst (λ (x : Pid). IsNamedMachine b (ls ++ Line.Head d ∷ []) x) (sym same) (named_at b ls pt d q s m (pt.kernel.notes q) h acting off))

coming_off : (b : Boot) (ls : List Line) (pt : Point) (q : Pid) (s m : ℕ) → Kept b ls pt → pt.view.known m q ≡ Incoming s → Off b ls q s m (pt.kernel.notes q)
coming_off b ls pt q s m h known = subst (λ (x : Known). is_moving x ≡ true → Off b ls q (source_at m x) (target_at m x) (pt.kernel.notes q)) known (h.moving m q) refl

leaving_off : (b : Boot) (ls : List Line) (pt : Point) (q : Pid) (m d : ℕ) → Kept b ls pt → pt.view.known m q ≡ Frozen d → Off b ls q m d (pt.kernel.notes q)
leaving_off b ls pt q m d h known = subst (λ (x : Known). is_moving x ≡ true → Off b ls q (source_at m x) (target_at m x) (pt.kernel.notes q)) known (h.moving m q) refl

-- whose message comes to an end here
ask_off : (b : Boot) (ls : List Line) (pt : Point) (m : ℕ) (i : MsgId) (is : List MsgId) (t : Told) (q : Pid) → Kept b ls pt → InPhases pt.view → AtFront pt (Step.Turn m) m i is t → t.about ≡ Of q → t.kind ≡ MessageKind.Ask → (s : ℕ) × Off b ls q s m (pt.kernel.notes q)
ask_off b ls pt m i is t q h phases f about ask =
    let token = token_for pt phases (Step.Turn m) m i is t q MessageKind.Ask f about ask refl refl refl in
    let held = source_holds pt.view q MessageKind.Ask token.s token.d (Some i) token.phase refl in
    (token.s, leaving_off b ls pt q token.s m h (held ∙ ap Frozen (sym token.at)))

restart_off : (b : Boot) (ls : List Line) (pt : Point) (m : ℕ) (i : MsgId) (is : List MsgId) (t : Told) (q : Pid) → Kept b ls pt → InPhases pt.view → AtFront pt (Step.Turn m) m i is t → t.about ≡ Of q → t.kind ≡ MessageKind.Restart → (s : ℕ) × Off b ls q s m (pt.kernel.notes q)
restart_off b ls pt m i is t q h phases f about kind =
    let token = token_for pt phases (Step.Turn m) m i is t q MessageKind.Restart f about kind refl refl refl in
    let known = destination_expects pt.view q MessageKind.Restart token.s token.d (Some i) token.phase refl refl in
    (token.s, coming_off b ls pt q token.s m h (ap (λ (x : ℕ). pt.view.known x q) token.at ∙ known))

stays_off : (b : Boot) (ls : List Line) (pt : Point) (m : ℕ) (i : MsgId) (is : List MsgId) (t : Told) (q : Pid) → Kept b ls pt → InPhases pt.view → AtFront pt (Step.Turn m) m i is t → t.about ≡ Of q → EndsBy t.kind Outcome.Stayed → (d : ℕ) × Off b ls q m d (pt.kernel.notes q)
stays_off b ls pt m i is t q h phases f about (inl kind) =
    let token = token_for pt phases (Step.Turn m) m i is t q MessageKind.Refuse f about kind refl refl refl in
    (token.d, leaving_off b ls pt q m token.d h (ap (λ (x : ℕ). pt.view.known x q) token.at ∙ source_holds pt.view q MessageKind.Refuse token.s token.d (Some i) token.phase refl))
stays_off b ls pt m i is t q h phases f about (inr kind) =
    let token = token_for pt phases (Step.Turn m) m i is t q MessageKind.CallOff f about kind refl refl refl in
    (token.d, leaving_off b ls pt q m token.d h (ap (λ (x : ℕ). pt.view.known x q) token.at ∙ source_holds pt.view q MessageKind.CallOff token.s token.d (Some i) token.phase refl))

no_takes : (b : Boot) (ls : List Line) (d : Step) (p : Pid) (k : Line) (ps : List Part) (z : Point) (r : Spelled) (earlier g : List Line) → All (Saying (λ x. takes_in p x ≡ false)) ps → spelled z ps ≡ Some r → takes_in p k ≡ true → Line.Head d ∷ r.lines ≡ earlier ++ k ∷ g → IsNamedMachine b (ls ++ earlier) p
no_takes b ls d p k ps z r earlier g so said takes split = absurd (none_is (takes_in p) (Line.Head d ∷ r.lines) earlier g k (refl, takes_said p ps z r so said) takes split)

deed_takes : (b : Boot) (ls : List Line) (pt : Point) (d : Step) (ps : List Part) (r : Spelled) (p : Pid) (k : Line) (earlier g : List Line) → Kept b ls pt → InPhases pt.view → spelled (begun pt d) ps ≡ Some r → takes_in p k ≡ true → Line.Head d ∷ r.lines ≡ earlier ++ k ∷ g → Deed pt d ps
    → IsNamedMachine b (ls ++ earlier) p
deed_takes b ls pt d ps r p k earlier g h phases said takes split (Mild so) = no_takes b ls d p k ps (begun pt d) r earlier g (mild_takes p ps so) said takes split
deed_takes b ls pt d ps r p k earlier g h phases said takes split (Directs q m to turn are) = no_takes b ls d p k (Owns MessageKind.Migrate q to ∷ []) (begun pt d) r earlier g (tt, tt) (ap (spelled (begun pt d)) (sym are) ∙ said) takes split
deed_takes b ls pt d ps r p k earlier g h phases said takes split (Calls m q from turn known are) =
    first_takes b ls pt d q p (Line.Called q (length (pt.view.held m q))) k from m (sends_on from (pt.view.held m q) ++ to_kernel MessageKind.CallOff from ∷ []) r earlier g h (ap (λ (x : Step). (begun pt x).view.acting) turn) refl refl
    (sends_all (Saying (λ x. takes_in p x ≡ false)) (λ i to. tt) from (pt.view.held m q) (to_kernel MessageKind.CallOff from ∷ []) (tt, tt)) (coming_off b ls pt q from m h known) (ap (spelled (begun pt d)) (sym are) ∙ said) takes split
deed_takes b ls pt d ps r p k earlier g h phases said takes split (IsThere m id msg at_ what are) = no_takes b ls d p k (rule.says (Label.Asked id) ∷ answers_move id Outcome.Done) (begun pt d) r earlier g (refl, (refl, (tt, tt))) (ap (spelled (begun pt d)) (sym are) ∙ said) takes split
deed_takes b ls pt d ps r p k earlier g h phases said takes split (SetsOff m id msg to at_ what are) = no_takes b ls d p k (rule.says (Label.Asked id) ∷ leaves_for msg.to to) (begun pt d) r earlier g (refl, (refl, (refl, (tt, tt)))) (ap (spelled (begun pt d)) (sym are) ∙ said) takes split
deed_takes b ls pt d ps r p k earlier g h phases said takes split (Obeys m i is t f migrate here are) = no_takes b ls d p k (leaves_for t.receiver (target_of (Some t))) (begun pt d) r earlier g (refl, (refl, (tt, tt))) (ap (spelled (begun pt d)) (sym are) ∙ said) takes split
deed_takes b ls pt d ps r p k earlier g h phases said takes split (Answers m i is t q l c f about ask line fresh are) =
    let (s, off) = ask_off b ls pt m i is t q h phases (record { turn = refl; box = f.box; told = f.told }) about ask in
    first_takes b ls pt d q p l k s m (to_kernel c i.from.home ∷ []) r earlier g h (ap (λ (x : Step). (begun pt x).view.acting) f.turn) (answer_label q l line) (answer_takes p q l line) (tt, tt) off (ap (spelled (begun pt d)) (sym are) ∙ said) takes split
  where
    answer_label : (q : Pid) (l : Line) → AnswerLine q l → label_of l ≡ None
    answer_label q l (inl e) = ap label_of e
    answer_label q l (inr (s, c, e)) = ap label_of e

    answer_takes : (p q : Pid) (l : Line) → AnswerLine q l → takes_in p l ≡ pid_eq p q
    answer_takes p q l (inl e) = ap (takes_in p) e
    answer_takes p q l (inr (s, c, e)) = ap (takes_in p) e
deed_takes b ls pt d ps r p k earlier g h phases said takes split (Ends m i is t q l Outcome.Done f about kind end are) =
    let (s, off) = restart_off b ls pt m i is t q h phases (record { turn = refl; box = f.box; told = f.told }) about kind in
    first_takes b ls pt d q p l k s m (tells_asker (pt.kernel.notes q) Outcome.Done) r earlier g h (ap (λ (x : Step). (begun pt x).view.acting) f.turn) (ap label_of end) (ap (takes_in p) end)
    (asker_all (Saying (λ x. takes_in p x ≡ false)) (λ i x. refl) (λ i. tt) (pt.kernel.notes q) Outcome.Done) off (ap (spelled (begun pt d)) (sym are) ∙ said) takes split
deed_takes b ls pt d ps r p k earlier g h phases said takes split (Ends m i is t q l Outcome.Stayed f about kind end are) =
    no_takes b ls d p k (Says l ∷ tells_asker (pt.kernel.notes q) Outcome.Stayed) (begun pt d) r earlier g (ap (takes_in p) end, asker_all (Saying (λ x. takes_in p x ≡ false)) (λ i x. refl) (λ i. tt) (pt.kernel.notes q) Outcome.Stayed) (ap (spelled (begun pt d)) (sym are) ∙ said) takes split
deed_takes b ls pt d ps r p k earlier g h phases said takes split (Ends m i is t q l Outcome.Ended f about kind end are) = absurd kind

group_takes : (b : Boot) (ls : List Line) (pt : Point) (d : Step) (w : Spelled) (p : Pid) (k : Line) (earlier g : List Line) → Kept b ls pt → InPhases pt.view → group_of b pt d ≡ Some w → takes_in p k ≡ true → w.lines ≡ earlier ++ k ∷ g → IsNamedMachine b (ls ++ earlier) p
group_takes b ls pt d w p k earlier g h phases is takes split =
    by_group (λ v. v.lines ≡ earlier ++ k ∷ g → IsNamedMachine b (ls ++ earlier) p) b pt d w (λ ps rest outcome said split. deed_takes b ls pt d ps rest p k earlier g h phases said takes split (outcome_deed b pt d ps outcome)) is split

-- where a process stays, it was refused
abbrev open_refused : Option Mark → Bool
open_refused (Some Lacking) = true
open_refused (Some Calling) = true
open_refused _ = false

order_rest : (o : Option Mark) (xs ys : List Mark) → in_order o (xs ++ ys) ≡ true → in_order (open_after o xs) ys ≡ true
order_rest o [] ys e = e
order_rest o (x ∷ xs) ys e = order_rest (left_open x) xs ys (right_true (follows o x) (in_order (left_open x) (xs ++ ys)) e)

stays_last : (o : Option Mark) → open_refused o ≡ false → follows o Staying ≡ true → ⊥
stays_last o e f = grind (arith, nat_tests)

reached_open : (n : ℕ) → open_refused (left_open (Reached n)) ≡ false
reached_open n = by_test (n == 8)
  where
    by_test : (c : Bool) → open_refused (if c then None else Some (Reached n)) ≡ false
    by_test true = refl
    by_test false = refl

refused_later : (p : Pid) (x : Line) (xs : List Line) → IsRefused p xs → IsRefused p (x ∷ xs)
refused_later p x xs h = record { earlier = x ∷ h.earlier; line = h.line; later = h.later; are = ap (λ (ys : List Line). x ∷ ys) h.are; is = h.is }

-- a mark of the process, or none
one_mark : (p q : Pid) (o : Option Mark) (m : Mark) (ms : List Mark) (X : Type 0) → open_refused (left_open m) ≡ false → open_refused o ≡ false → ((o : Option Mark) → open_refused o ≡ false → in_order o ms ≡ true → X) → in_order o (mark_for p q m ms) ≡ true → X
one_mark p q o m ms X now before go e = by_test (pid_eq p q) e
  where
    by_test : (c : Bool) → in_order o (if c then m ∷ ms else ms) ≡ true → X
    by_test true e = go (left_open m) now (right_true (follows o m) (in_order (left_open m) ms) e)
    by_test false e = go o before e

-- it is refused here, or it is another that is
here_mark : (p q : Pid) (o : Option Mark) (m : Mark) (ms : List Mark) (X : Type 0) → open_refused o ≡ false → ((o : Option Mark) → open_refused o ≡ false → in_order o ms ≡ true → X) → (p ≡ q → X) → in_order o (mark_for p q m ms) ≡ true → X
here_mark p q o m ms X before go here e = by_test (pid_eq p q) refl e
  where
    by_test : (c : Bool) → pid_eq p q ≡ c → in_order o (if c then m ∷ ms else ms) ≡ true → X
    by_test true same e = here (pid_eq-is p q same)
    by_test false off e = go o before e

refused_step : (p : Pid) (o : Option Mark) (x : Line) (xs : List Line) (ms : List Mark) (a : Act) → open_refused o ≡ false → ((o : Option Mark) → open_refused o ≡ false → in_order o ms ≡ true → IsRefused p xs) → act_of x ≡ a → in_order o (mark_in p a ms) ≡ true → IsRefused p (x ∷ xs)
refused_step p o x xs ms (act.Lacks q) before go is e =
    here_mark p q o Lacking ms (IsRefused p (x ∷ xs)) before (λ u f g. refused_later p x xs (go u f g)) (λ same. record { earlier = []; line = x; later = xs; are = refl; is = inl (is ∙ ap act.Lacks (sym same)) }) e
refused_step p o x xs ms (act.AllGoBack q) before go is e =
    here_mark p q o Calling ms (IsRefused p (x ∷ xs)) before (λ u f g. refused_later p x xs (go u f g)) (λ same. record { earlier = []; line = x; later = xs; are = refl; is = inr (is ∙ ap act.AllGoBack (sym same)) }) e
refused_step p o x xs ms (act.Migrates s q) before go is e = one_mark p q o (Reached (step_number s)) ms (IsRefused p (x ∷ xs)) (reached_open (step_number s)) before (λ u f g. refused_later p x xs (go u f g)) e
refused_step p o x xs ms (act.AllGoOn q) before go is e = one_mark p q o (Reached 6) ms (IsRefused p (x ∷ xs)) refl before (λ u f g. refused_later p x xs (go u f g)) e
refused_step p o x xs ms (act.Stays q) before go is e = one_mark p q o Staying ms (IsRefused p (x ∷ xs)) refl before (λ u f g. refused_later p x xs (go u f g)) e
refused_step p o x xs ms _ before go is e = refused_later p x xs (go o before e)

refused : (p : Pid) (d : Step) (tail xs : List Line) (o : Option Mark) → open_refused o ≡ false → in_order o (marks p (xs ++ Line.Head d ∷ Line.Stays p ∷ tail)) ≡ true → IsRefused p xs
refused p d tail [] o before e =
    let ms = marks p tail in
    let f : in_order o (Staying ∷ ms) ≡ true = ap (in_order o) (sym (mark_same p Staying ms)) ∙ e in
    absurd (stays_last o before (left_true (follows o Staying) (in_order (left_open Staying) ms) f))
refused p d tail (x ∷ xs) o before e = refused_step p o x xs (marks p (xs ++ Line.Head d ∷ Line.Stays p ∷ tail)) (act_of x) before (λ u f g. refused p d tail xs u f g) refl e

stays_refused : (p : Pid) (d : Step) (ls before between tail : List Line) → ls ≡ before ++ Line.Migration Stage.Frozen p ∷ between → in_order None (marks p (ls ++ Line.Head d ∷ Line.Stays p ∷ tail)) ≡ true → IsRefused p between
stays_refused p d ls before between tail are e =
    let ys = Line.Head d ∷ Line.Stays p ∷ tail in
    let start = Line.Migration Stage.Frozen p in
    let whole : ls ++ ys ≡ before ++ start ∷ (between ++ ys) = ap (λ (xs : List Line). xs ++ ys) are ∙ append_assoc before (start ∷ between) ys in
    let apart : in_order None (marks p before ++ marks p (start ∷ (between ++ ys))) ≡ true = ap (in_order None) (sym (marks-append p before (start ∷ (between ++ ys)))) ∙ ap (λ (xs : List Line). in_order None (marks p xs)) (sym whole) ∙ e in
    let o = open_after None (marks p before) in
    let from : in_order o (Reached 1 ∷ marks p (between ++ ys)) ≡ true = ap (in_order o) (sym (mark_same p (Reached 1) (marks p (between ++ ys)))) ∙ order_rest None (marks p before) (marks p (start ∷ (between ++ ys))) apart in
    refused p d tail between (Some (Reached 1)) refl (right_true (follows o (Reached 1)) (in_order (Some (Reached 1)) (marks p (between ++ ys))) from)

-- a request is answered
abbrev Silent : Part → Type 0
Silent = Saying (λ l. is_answer_by (act_of l) ≡ false)

silent_lines : (ps : List Part) (z : Point) (r : Spelled) → All Silent ps → spelled z ps ≡ Some r → AllLines (λ l. is_answer_by (act_of l) ≡ false) r.lines
silent_lines ps z r so e = parts_say (λ l. is_answer_by (act_of l) ≡ false) (λ a b i k q. refl) (λ a b n l. refl) ps z r so e

mild_silent : (ps : List Part) → AllMild ps → All Silent ps
mild_silent [] h = tt
mild_silent (Says l ∷ ps) h = (by_line l h.0, mild_silent ps h.1)
  where
    by_line : (l : Line) → is_wild l ≡ false → is_answer_by (act_of l) ≡ false
    by_line l e = grind (arith, nat_tests)
mild_silent (x ∷ ps) h = (tt, mild_silent ps h.1)

no_answer : (b : Boot) (ls : List Line) (d : Step) (i : MsgId) (o : Outcome) (ps : List Part) (z : Point) (r : Spelled) (earlier g : List Line) → All Silent ps → spelled z ps ≡ Some r → Line.Head d ∷ r.lines ≡ earlier ++ Line.Label (Label.Answered i o) ∷ g → AnswersSo b (ls ++ earlier) i o
no_answer b ls d i o ps z r earlier g so said split = absurd (none_is (λ l. is_answer_by (act_of l)) (Line.Head d ∷ r.lines) earlier g (Line.Label (Label.Answered i o)) (refl, silent_lines ps z r so said) refl split)

-- where it stands, behind these lines
record AnswerAt (xs earlier : List Line) (j i : MsgId) (r o : Outcome) : Type 0 where
  lines : earlier ≡ xs
  request : i ≡ j
  outcome : o ≡ r

answer_at : (xs earlier g : List Line) (j i : MsgId) (r o : Outcome) (z : Point) (w : Spelled) → AllLines (λ l. is_answer_by (act_of l) ≡ false) xs → spelled z (answers_move j r) ≡ Some w → xs ++ w.lines ≡ earlier ++ Line.Label (Label.Answered i o) ∷ g → AnswerAt xs earlier j i r o
answer_at xs earlier g j i r o z w so said split =
    let l = Line.Label (Label.Answered j r) in
    let n = next_of z (Says l) (Routes (answer_id j) ∷ []) w said in
    let are : l ∷ [] ≡ n.steps.lines = (let f : Some (l ∷ []) ≡ Some n.steps.lines = n.steps.are in cc) in
    let lines : l ∷ n.rest.lines ≡ w.lines = ap (λ (ys : List Line). ys ++ n.rest.lines) are ∙ n.lines in
    let s = only_is (λ l. is_answer_by (act_of l)) xs n.rest.lines earlier g l (Line.Label (Label.Answered i o)) so (silent_lines (Routes (answer_id j) ∷ []) n.next n.rest (tt, tt) n.more) refl (ap (λ (ys : List Line). xs ++ ys) lines ∙ split) in
    let same : Line.Label (Label.Answered i o) ≡ l = s.line in
    record { lines = s.lines; request = cc; outcome = cc }

answer_as : (b : Boot) (ls xs earlier : List Line) (j i : MsgId) (r o : Outcome) → AnswerAt xs earlier j i r o → AnswersSo b (ls ++ xs) j r → AnswersSo b (ls ++ earlier) i o
answer_as b ls xs earlier j i r o at_ h =
    subst (λ (k : MsgId). AnswersSo b (ls ++ earlier) k o) (sym at_.request) (subst (AnswersSo b (ls ++ earlier) j) (sym at_.outcome) (subst (λ (ys : List Line). AnswersSo b (ls ++ ys) j r) (sym at_.lines) h))

there_answers : (b : Boot) (ls : List Line) (pt : Point) (m : ℕ) (id : MsgId) (msg : PlainMessage) (r : Spelled) (earlier g : List Line) (i : MsgId) (o : Outcome) → Kept b ls pt → pt.kernel.bag id ≡ Some msg → pt.view.known m msg.to ≡ Here → msg.what ≡ PlainWhat.Move m
    → spelled (begun pt (Step.Turn m)) (rule.says (Label.Asked id) ∷ answers_move id Outcome.Done) ≡ Some r → Line.Head (Step.Turn m) ∷ r.lines ≡ earlier ++ Line.Label (Label.Answered i o) ∷ g → AnswersSo b (ls ++ earlier) i o
there_answers b ls pt m id msg r earlier g i o h there here what said split =
    let d = Step.Turn m in
    let start = begun pt d in
    let l = Line.Label (Label.Asked id) in
    let n = next_of start (Says l) (answers_move id Outcome.Done) r said in
    let k = said_by start n.next l n.steps in
    let z = moved start l k.kernel in
    let are : l ∷ [] ≡ n.steps.lines = (let f : Some (l ∷ []) ≡ Some n.steps.lines = n.steps.are in cc) in
    let lines : l ∷ n.rest.lines ≡ r.lines = ap (λ (ys : List Line). ys ++ n.rest.lines) are ∙ n.lines in
    let first = ls ++ Line.Head d ∷ [] in
    let xs = Line.Head d ∷ l ∷ [] in
    let goes : after pt xs ≡ Some z = ap (λ (x : Option OneKernel). bind (bind x (λ (s : OneKernel). Some (moved start l s))) (λ (y : Point). after y [])) k.step in
    answer_as b ls xs earlier id i Outcome.Done o (answer_at xs earlier g id i Outcome.Done o n.next n.rest (refl, (refl, tt)) n.more (ap (λ (ys : List Line). Line.Head d ∷ ys) lines ∙ split))
    (record {
      process = msg.to;
      source = m;
      target = m;
      before = first;
      between = [];
      asked = sym (append_assoc ls (Line.Head d ∷ []) (l ∷ []));
      once = omega arith;
      request = record { point = start; stands = after-append ls (Line.Head d ∷ []) (first_point b) pt start h.run refl; request = msg; there = there; receiver = refl; named = what; acting = refl; here = here };
      point = z;
      stands = after-append ls xs (first_point b) pt z h.run goes;
      here = here;
      so = refl;
    })

-- the answer to the request that a process follows
noted_answers : (b : Boot) (ls : List Line) (pt : Point) (m : ℕ) (q : Pid) (n : MoveNote) (l : Line) (a : Outcome) (s e : ℕ) (r : Spelled) (earlier g : List Line) (i : MsgId) (o : Outcome) → Kept b ls pt → Off b ls q s e (Some n) → label_of l ≡ None → is_answer_by (act_of l) ≡ false → starts q l ≡ false
    → (view_after (begun pt (Step.Turn m)).view l).acting ≡ m → (view_after (begun pt (Step.Turn m)).view l).known m q ≡ Here → ((off : Off b ls q s e (Some n)) → AnswerAt (Line.Head (Step.Turn m) ∷ l ∷ []) earlier n.id i a o → IsSo q s e m (Line.Migration Stage.Frozen q ∷ (off.between ++ Line.Head (Step.Turn m) ∷ l ∷ [])) a)
    → spelled (begun pt (Step.Turn m)) (Says l ∷ answers_move n.id a) ≡ Some r → Line.Head (Step.Turn m) ∷ r.lines ≡ earlier ++ Line.Label (Label.Answered i o) ∷ g → AnswersSo b (ls ++ earlier) i o
noted_answers b ls pt m q n l a s e r earlier g i o h off none silent starts_none acting here so said split =
    let d = Step.Turn m in
    let start = begun pt d in
    let (rest, more, lines, end) = plain_next start l (answers_move n.id a) r none said in
    let z = moved start l start.kernel in
    let xs = Line.Head d ∷ l ∷ [] in
    let at_ = answer_at xs earlier g n.id i a o z rest (refl, (silent, tt)) more (ap (λ (ys : List Line). Line.Head d ∷ ys) lines ∙ split) in
    let (first, are, asked) = off.why in
    let frozen = Line.Migration Stage.Frozen q in
    let goes : after pt xs ≡ Some z = ap (λ (x : Option Label). bind (bind (kernel_after pt.kernel x) (λ (u : OneKernel). Some (moved start l u))) (λ (y : Point). after y [])) none in
    let whole : ls ++ xs ≡ first ++ Line.Label (Label.Asked n.id) ∷ (frozen ∷ (off.between ++ xs)) =
    ap (λ (ys : List Line). ys ++ xs) (off.are ∙ ap (λ (ys : List Line). ys ++ frozen ∷ off.between) are) ∙ append_assoc (first ++ Line.Label (Label.Asked n.id) ∷ []) (frozen ∷ off.between) xs
    ∙ append_assoc first (Line.Label (Label.Asked n.id) ∷ []) (frozen ∷ (off.between ++ xs)) in
    let sum = count-append (starts q) off.between xs in
    let last = off.last in
    let one : count (starts q) (frozen ∷ (off.between ++ xs)) ≡ 1 + count (starts q) (off.between ++ xs) = ap (λ (c : Bool). (if c then 1 else 0) + count (starts q) (off.between ++ xs)) (pid_eq-same q) in
    let none_ : count (starts q) xs ≡ 0 = quiet_more q (Line.Head d) (l ∷ []) refl (quiet_more q l [] starts_none refl) in
    answer_as b ls xs earlier n.id i a o at_
    (record {
      process = q;
      source = s;
      target = e;
      before = first;
      between = frozen ∷ (off.between ++ xs);
      asked = whole;
      once = omega (arith, sum, last, one, none_);
      request = asked;
      point = z;
      stands = after-append ls xs (first_point b) pt z h.run goes;
      here = ap (λ (x : ℕ). z.view.known x q) acting ∙ here;
      so = subst (λ (x : ℕ). IsSo q s e x (frozen ∷ (off.between ++ xs)) a) (sym acting) (so off at_);
    })

done_answers : (b : Boot) (ls : List Line) (pt : Point) (m : ℕ) (q : Pid) (n : MoveNote) (s : ℕ) (r : Spelled) (earlier g : List Line) (i : MsgId) (o : Outcome) → Kept b ls pt → Off b ls q s m (Some n)
    → spelled (begun pt (Step.Turn m)) (Says (Line.Migration Stage.Restarted q) ∷ answers_move n.id Outcome.Done) ≡ Some r → Line.Head (Step.Turn m) ∷ r.lines ≡ earlier ++ Line.Label (Label.Answered i o) ∷ g → AnswersSo b (ls ++ earlier) i o
done_answers b ls pt m q n s r earlier g i o h off =
    noted_answers b ls pt m q n (Line.Migration Stage.Restarted q) Outcome.Done s m r earlier g i o h off refl refl refl refl (at_record_at pt.view.known m q Here) (λ k at_. refl)

stays_answers : (b : Boot) (ls : List Line) (pt : Point) (m : ℕ) (q : Pid) (n : MoveNote) (e : ℕ) (r : Spelled) (earlier g tail : List Line) (i : MsgId) (o : Outcome) → Kept b ls pt → Off b ls q m e (Some n) → in_order None (marks q (ls ++ (earlier ++ tail))) ≡ true
    → spelled (begun pt (Step.Turn m)) (Says (Line.Stays q) ∷ answers_move n.id Outcome.Stayed) ≡ Some r → Line.Head (Step.Turn m) ∷ r.lines ≡ earlier ++ Line.Label (Label.Answered i o) ∷ g → AnswersSo b (ls ++ earlier) i o
stays_answers b ls pt m q n e r earlier g tail i o h off order =
    let d = Step.Turn m in
    let xs = Line.Head d ∷ Line.Stays q ∷ [] in
    noted_answers b ls pt m q n (Line.Stays q) Outcome.Stayed m e r earlier g i o h off refl refl refl refl (at_record_at pt.view.known m q Here) (λ k at_. (
      refl,
      (let was = stays_refused q d ls k.before k.between tail k.are (ap (λ (ys : List Line). in_order None (marks q (ls ++ (ys ++ tail)))) (sym at_.lines) ∙ order) in
          record { earlier = Line.Migration Stage.Frozen q ∷ was.earlier; line = was.line; later = was.later ++ xs; are = ap (λ (ys : List Line). Line.Migration Stage.Frozen q ∷ ys) (ap (λ (ys : List Line). ys ++ xs) was.are ∙ append_assoc was.earlier (was.line ∷ was.later) xs); is = was.is }),
    ))

ends_answers : (b : Boot) (ls : List Line) (pt : Point) (m : ℕ) (is_ : List MsgId) (j : MsgId) (t : Told) (q : Pid) (l : Line) (a : Outcome) (asked : Option MoveNote) (r : Spelled) (earlier g tail : List Line) (i : MsgId) (o : Outcome) → Kept b ls pt → InPhases pt.view → AtFront pt (Step.Turn m) m j is_ t → t.about ≡ Of q → EndsBy t.kind a
    → EndLine q a l → pt.kernel.notes q ≡ asked → in_order None (marks q (ls ++ (earlier ++ tail))) ≡ true → spelled (begun pt (Step.Turn m)) (Says l ∷ tells_asker asked a) ≡ Some r → Line.Head (Step.Turn m) ∷ r.lines ≡ earlier ++ Line.Label (Label.Answered i o) ∷ g → AnswersSo b (ls ++ earlier) i o
ends_answers b ls pt m is_ j t q l Outcome.Done (Some n) r earlier g tail i o h phases f about kind end noted order said split =
    let (s, off) = restart_off b ls pt m j is_ t q h phases f about kind in
    done_answers b ls pt m q n s r earlier g i o h (subst (Off b ls q s m) noted off) (ap (λ (x : Line). spelled (begun pt (Step.Turn m)) (Says x ∷ answers_move n.id Outcome.Done)) (sym end) ∙ said) split
ends_answers b ls pt m is_ j t q l Outcome.Stayed (Some n) r earlier g tail i o h phases f about kind end noted order said split =
    let (e, off) = stays_off b ls pt m j is_ t q h phases f about kind in
    stays_answers b ls pt m q n e r earlier g tail i o h (subst (Off b ls q m e) noted off) order (ap (λ (x : Line). spelled (begun pt (Step.Turn m)) (Says x ∷ answers_move n.id Outcome.Stayed)) (sym end) ∙ said) split
ends_answers b ls pt m is_ j t q l Outcome.Ended asked r earlier g tail i o h phases f about kind end noted order said split = absurd kind
ends_answers b ls pt m is_ j t q l a None r earlier g tail i o h phases f about kind end noted order said split = no_answer b ls (Step.Turn m) i o (Says l ∷ []) (begun pt (Step.Turn m)) r earlier g (silent a end, tt) said split
  where
    silent : (a : Outcome) → EndLine q a l → is_answer_by (act_of l) ≡ false
    silent Outcome.Done end = ap (λ (x : Line). is_answer_by (act_of x)) end
    silent Outcome.Stayed end = ap (λ (x : Line). is_answer_by (act_of x)) end
    silent Outcome.Ended end = absurd end

deed_answers : (b : Boot) (ls : List Line) (pt : Point) (d : Step) (ps : List Part) (r : Spelled) (earlier g tail : List Line) (i : MsgId) (o : Outcome) → Kept b ls pt → InPhases pt.view → ((p : Pid) → in_order None (marks p (ls ++ (earlier ++ tail))) ≡ true) → spelled (begun pt d) ps ≡ Some r
    → Line.Head d ∷ r.lines ≡ earlier ++ Line.Label (Label.Answered i o) ∷ g → Deed pt d ps → AnswersSo b (ls ++ earlier) i o
deed_answers b ls pt d ps r earlier g tail i o h phases order said split (Mild so) = no_answer b ls d i o ps (begun pt d) r earlier g (mild_silent ps so) said split
deed_answers b ls pt d ps r earlier g tail i o h phases order said split (Directs q m to turn are) = no_answer b ls d i o (Owns MessageKind.Migrate q to ∷ []) (begun pt d) r earlier g (tt, tt) (ap (spelled (begun pt d)) (sym are) ∙ said) split
deed_answers b ls pt d ps r earlier g tail i o h phases order said split (Calls m q from turn known are) =
    no_answer b ls d i o (called_parts q (pt.view.held m q) from) (begun pt d) r earlier g (refl, sends_all Silent (λ j to. tt) from (pt.view.held m q) (to_kernel MessageKind.CallOff from ∷ []) (tt, tt)) (ap (spelled (begun pt d)) (sym are) ∙ said) split
deed_answers b ls pt d ps r earlier g tail i o h phases order said split (IsThere m id msg at_ what are) =
    subst (λ (x : Step). spelled (begun pt x) (rule.says (Label.Asked id) ∷ answers_move id Outcome.Done) ≡ Some r → Line.Head x ∷ r.lines ≡ earlier ++ Line.Label (Label.Answered i o) ∷ g → AnswersSo b (ls ++ earlier) i o) (sym at_.turn)
    (there_answers b ls pt m id msg r earlier g i o h at_.there at_.here what) (ap (spelled (begun pt d)) (sym are) ∙ said) split
deed_answers b ls pt d ps r earlier g tail i o h phases order said split (SetsOff m id msg to at_ what are) = no_answer b ls d i o (rule.says (Label.Asked id) ∷ leaves_for msg.to to) (begun pt d) r earlier g (refl, (refl, (refl, (tt, tt)))) (ap (spelled (begun pt d)) (sym are) ∙ said) split
deed_answers b ls pt d ps r earlier g tail i o h phases order said split (Obeys m j is t f migrate here are) = no_answer b ls d i o (leaves_for t.receiver (target_of (Some t))) (begun pt d) r earlier g (refl, (refl, (tt, tt))) (ap (spelled (begun pt d)) (sym are) ∙ said) split
deed_answers b ls pt d ps r earlier g tail i o h phases order said split (Answers m j is t q l k f about ask line fresh are) = no_answer b ls d i o (Says l ∷ to_kernel k j.from.home ∷ []) (begun pt d) r earlier g (silent line, (tt, tt)) (ap (spelled (begun pt d)) (sym are) ∙ said) split
  where
    silent : AnswerLine q l → is_answer_by (act_of l) ≡ false
    silent (inl e) = ap (λ (x : Line). is_answer_by (act_of x)) e
    silent (inr (s, c, e)) = ap (λ (x : Line). is_answer_by (act_of x)) e
deed_answers b ls pt d ps r earlier g tail i o h phases order said split (Ends m j is t q l a f about kind end are) =
    subst (λ (x : Step). spelled (begun pt x) (Says l ∷ tells_asker (pt.kernel.notes q) a) ≡ Some r → Line.Head x ∷ r.lines ≡ earlier ++ Line.Label (Label.Answered i o) ∷ g → AnswersSo b (ls ++ earlier) i o) (sym f.turn)
    (ends_answers b ls pt m is j t q l a (pt.kernel.notes q) r earlier g tail i o h phases (record { turn = refl; box = f.box; told = f.told }) about kind end refl (order q)) (ap (spelled (begun pt d)) (sym are) ∙ said) split

group_answers : (b : Boot) (ls : List Line) (pt : Point) (d : Step) (w : Spelled) (earlier g tail : List Line) (i : MsgId) (o : Outcome) → Kept b ls pt → InPhases pt.view → ((p : Pid) → in_order None (marks p (ls ++ (earlier ++ tail))) ≡ true) → group_of b pt d ≡ Some w → w.lines ≡ earlier ++ Line.Label (Label.Answered i o) ∷ g → AnswersSo b (ls ++ earlier) i o
group_answers b ls pt d w earlier g tail i o h phases order is split =
    by_group (λ v. v.lines ≡ earlier ++ Line.Label (Label.Answered i o) ∷ g → AnswersSo b (ls ++ earlier) i o) b pt d w (λ ps rest outcome said split. deed_answers b ls pt d ps rest earlier g tail i o h phases order said split (outcome_deed b pt d ps outcome)) is split

-- a run, group by group: what holds of each line where it stands, by its group
along_groups : (b : Boot) (C : List Line → Line → Type 0)
    → ((ls : List Line) (pt : Point) (d : Step) (w : Spelled) (earlier g tail : List Line) (l : Line) → Kept b ls pt → InPhases pt.view → ((p : Pid) → in_order None (marks p (ls ++ (earlier ++ tail))) ≡ true) → group_of b pt d ≡ Some w → w.lines ≡ earlier ++ l ∷ g → C (ls ++ earlier) l)
    → IsValid b → (es : List Step) (past ls : List Line) (pt end : Point) → LeadsBy b pt es ls end → Both b pt → Kept b past pt → ((p : Pid) → in_order None (marks p (past ++ ls)) ≡ true) → (earlier later : List Line) (l : Line) → ls ≡ earlier ++ l ∷ later → C (past ++ earlier) l
along_groups b C one valid [] past ls pt end (none, at_) both h order earlier later l split = absurd (none_there earlier later l (sym none ∙ split))
along_groups b C one valid (d ∷ ds) past ls pt end (w, rest, fit, is, are, more) both h order earlier later l split =
    let next : Both b w.point = both_group run_group b pt d w valid fit is both in
    let kept = kept_group b past pt d w h both.run next.run.based.phased.phases is in
    let order_ : (p : Pid) → in_order None (marks p ((past ++ w.lines) ++ rest)) ≡ true = λ p. ap (λ (xs : List Line). in_order None (marks p xs)) (append_assoc past w.lines rest ∙ ap (λ (xs : List Line). past ++ xs) (sym are)) ∙ order p in
    by_lies kept order_ (λ between l later e. along_groups b C one valid ds (past ++ w.lines) rest w.point end more next kept order_ between later l e) (lies w.lines rest earlier later l (sym are ∙ split))
  where
    by_lies : Kept b (past ++ w.lines) w.point → ((p : Pid) → in_order None (marks p ((past ++ w.lines) ++ rest)) ≡ true) → ((between : List Line) (l : Line) (later : List Line) → rest ≡ between ++ l ∷ later → C ((past ++ w.lines) ++ between) l) → Lies w.lines rest earlier later l → C (past ++ earlier) l
    by_lies kept order_ go (First g f) =
        one past pt d w earlier g (l ∷ later) l h both.run.based.phased.phases (λ p. ap (λ (xs : List Line). in_order None (marks p (past ++ xs))) (sym split) ∙ order p) is f
    by_lies kept order_ go (Later between e f) = subst (λ (xs : List Line). C xs l) (append_assoc past w.lines between ∙ ap (λ (xs : List Line). past ++ xs) (sym e)) (go between l later f)

-- wherever the rule leads
pub moves_as_named : MovesAsNamed
moves_as_named b es ls earlier later l pt p valid leads split =
    along_groups b (λ xs k. takes_in p k ≡ true → IsNamedMachine b xs p) (λ xs o d w ys g tail k h phases order is f takes. group_takes b xs o d w p k ys g h phases is takes f) valid es [] ls (first_point b) pt leads (both_start run_start b valid) (kept_start b)
    (λ q. steps_in_order b es ls pt q valid leads) earlier later l split

pub answers_are_so : AnswersAreSo
answers_are_so b es ls earlier later pt i o valid leads split =
    along_groups b (λ xs k. k ≡ Line.Label (Label.Answered i o) → AnswersSo b xs i o) (λ xs e d w ys g tail k h phases order is f same. group_answers b xs e d w ys g tail i o h phases order is (f ∙ ap (λ (x : Line). ys ++ x ∷ g) same)) valid es [] ls (first_point b) pt leads
    (both_start run_start b valid) (kept_start b) (λ q. steps_in_order b es ls pt q valid leads) earlier later (Line.Label (Label.Answered i o)) split refl
