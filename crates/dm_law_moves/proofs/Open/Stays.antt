-- Each line between a process's step 1 and its step 8 or `stays` is another's, and leaves its plain value.
use Rattle.dm_law_moves.proofs.Names.{◌≡◌, ℕ, true, false, List, [], ◌∷◌, ◌++◌, is_some, refl, ap, ◌∙◌, sym, subst, Option, None, Some, Pid, MsgId, MessageKind, Boot, IsValid, OneKernel, bind, bind-is, Step, Line, Spelled, Moves, IsIn}
use Rattle.dm_law_moves.proofs.Names.{Point, label_of, kernel_after, moved, after_line, after, first_point, group_of, first_view, rooted, is_fixed, LeadsBy, Both, both_start, both_group, after_replay, Run, run_start, run_group, IsAnothersIf}
use Rattle.dm_law_moves.proofs.Names.{OpenStays, Mark, marks, append_assoc, start, replay, labels, labels-append, replay-append, AllOpen, OpenKeeps, nat_tests, arith, Known, KnownIs, View, kind_leaves, by_group, Phase, Nowhere, Rests, Over}
use Rattle.dm_law_moves.proofs.After.{after-append, group_after}
use Rattle.dm_law_moves.proofs.Open.Apart.{AllAlone, moving_off, moving_alone, kernel_same, alone_rest, anothers_if, source_knows, moving_lives}
use Rattle.dm_law_moves.specs.Open.{server_value}
use Rattle.dm_law_moves.proofs.Open.Servers.{kernel_value}
use Rattle.dm_law_rule.proofs.Apart.Steps.{spares_of}
use Rattle.dm_law_moves.proofs.Open.Moves.{open_is, none_due}
use Rattle.dm_law_moves.proofs.Stages.Always.{group_marked}
use Rattle.dm_law_moves.proofs.Stages.Spares.{mark_in, open_after, open-append, marks-append}
use Rattle.dm_law_moves.proofs.Open.Fine.{Fine, group_fine, fine_at, Shut, shut_at, none_open, parts_shut, outcome_shut}
use Rattle.dm_law_moves.proofs.Stages.Waits.{group_waits}

-- a line behind others, from some point on
record At (pt : Point) (earlier : List Line) (l : Line) (p : Pid) : Type 0 where
  mid : Point
  comes : after pt earlier ≡ Some mid
  next : OneKernel
  goes : kernel_after mid.kernel (label_of l) ≡ Some next
  anothers : IsAnothersIf mid.kernel p (label_of l)
  same : next.processes p ≡ mid.kernel.processes p
  server : server_value p next ≡ server_value p mid.kernel

-- where lines lead, the first of them do
record Meets (pt : Point) (xs : List Line) (l : Line) : Type 0 where
  mid : Point
  comes : after pt xs ≡ Some mid
  next : OneKernel
  goes : kernel_after mid.kernel (label_of l) ≡ Some next

meets : (xs ys : List Line) (l : Line) (pt end : Point) → after pt (xs ++ l ∷ ys) ≡ Some end → Meets pt xs l
meets [] ys l pt end e =
    let (next, first, rest) = bind-is (after_line pt l) (λ (q : Point). after q ys) end e in
    let (s, is, last) = bind-is (kernel_after pt.kernel (label_of l)) (λ (s : OneKernel). Some (moved pt l s)) next first in
    record { mid = pt; comes = refl; next = s; goes = is }
meets (x ∷ xs) ys l pt end e =
    let (next, first, rest) = bind-is (after_line pt x) (λ (q : Point). after q (xs ++ l ∷ ys)) end e in
    let k = meets xs ys l next end rest in
    record { mid = k.mid; comes = ap (λ (o : Option Point). bind o (λ (q : Point). after q xs)) first ∙ k.comes; next = k.next; goes = k.goes }

moving_at : (b : Boot) (pt : Point) (d : Step) (w : Spelled) (p : Pid) (k : MessageKind) (s t : ℕ) (id : Option MsgId) (earlier g : List Line) (l : Line) → Run b pt → IsIn pt.view p (Moves k s t id) → group_of b pt d ≡ Some w
    → w.lines ≡ earlier ++ l ∷ g → is_some (open_after (mark_in (Moves k s t id)) (marks p earlier)) ≡ true → At pt earlier l p
moving_at b pt d w p k s t id earlier g l run phase e split begun =
    -- a group of a process that moves
    let leaves_free : (n : ℕ) (u : OneKernel) (v : View) (m : ℕ) (p : Pid) (k : MessageKind) (d : ℕ) (x : Known) → kind_leaves k d x ≡ true → KnownIs n u.processes v m p x → is_fixed p ≡ false = λ n u v m p k d x e h. grind (arith, nat_tests) in
    let m = meets earlier g l pt w.point (ap (after pt) (sym split) ∙ group_after b pt d w e) in
    let phased = run.based.phased in
    let alone = moving_alone b pt d w p k s t id (rooted pt phased.sane phased.ground) phase e in
    let rest = alone_rest p earlier (l ∷ g) pt m.mid (subst (AllAlone p pt) split alone) m.comes in
    let fine = fine_at p (mark_in (Moves k s t id)) earlier g l pt m.mid (subst (Fine p pt (mark_in (Moves k s t id))) split (group_fine p (mark_in (Moves k s t id)) b pt d w phased.sane (moving_off pt p k s t id phase) e)) m.comes begun in
    let free = leaves_free pt.kernel.machines pt.kernel pt.view s p k t (pt.view.known s p) (source_knows k s t id (pt.view.known s p) (phase.known s)) (run.kept.known s p) in
    record {
      mid = m.mid;
      comes = m.comes;
      next = m.next;
      goes = m.goes;
      anothers = anothers_if m.mid.kernel m.next p (label_of l) free (λ y over. moving_lives b pt p k s t id y run phase (sym rest.same ∙ over)) fine rest.rest.0 m.goes;
      same = kernel_same m.mid.kernel m.next p (label_of l) (spares_of m.mid.kernel p (label_of l) rest.rest.0) m.goes;
      server = kernel_value m.mid.kernel m.next p (label_of l) rest.rest.0 m.goes;
    }

resting_at : (b : Boot) (pt : Point) (d : Step) (w : Spelled) (p : Pid) (earlier g : List Line) (l : Line) → group_of b pt d ≡ Some w → w.lines ≡ earlier ++ l ∷ g → is_some (open_after None (marks p earlier)) ≡ true → At pt earlier l p
resting_at b pt d w p earlier g l e split begun =
    let m = meets earlier g l pt w.point (ap (after pt) (sym split) ∙ group_after b pt d w e) in
    let group_shut : (p : Pid) (b : Boot) (pt : Point) (d : Step) (w : Spelled) → group_of b pt d ≡ Some w → Shut p None w.lines =
    λ p b pt d w. by_group (λ v. Shut p None v.lines) b pt d w (λ ps rest is said. (none_open (Line.Head d), parts_shut p ps (moved pt (Line.Head d) pt.kernel) rest (outcome_shut p b pt d ps is) said)) in
    let none = shut_at p None earlier g l (subst (Shut p None) split (group_shut p b pt d w e)) begun in
    search (arith, m.mid, m.comes, m.next, m.goes, m.mid.kernel)

-- a line is among the first lines or among the others
pub data Lies (xs ys earlier later : List Line) (l : Line) : Type 0 where
  First : (g : List Line) → xs ≡ earlier ++ l ∷ g → Lies xs ys earlier later l
  Later : (between : List Line) → earlier ≡ xs ++ between → ys ≡ between ++ l ∷ later → Lies xs ys earlier later l

pub lies : (xs ys earlier later : List Line) (l : Line) → xs ++ ys ≡ earlier ++ l ∷ later → Lies xs ys earlier later l
lies [] ys earlier later l e = Later earlier refl e
lies (x ∷ xs) ys [] later l e = First xs (let f : x ≡ l = cc in ap (λ (z : Line). z ∷ xs) f)
lies (x ∷ xs) ys (z ∷ earlier) later l e = next (lies xs ys earlier later l (let f : xs ++ ys ≡ earlier ++ l ∷ later = cc in f))
  where
    same : x ≡ z
    same = cc

    next : Lies xs ys earlier later l → Lies (x ∷ xs) ys (z ∷ earlier) later l
    next (First g f) = First g (ap (λ (v : Line). v ∷ xs) same ∙ ap (λ (vs : List Line). z ∷ vs) f)
    next (Later between f g) = Later between (ap (λ (v : Line). v ∷ earlier) (sym same) ∙ ap (λ (vs : List Line). x ∷ vs) f) g

-- a run
pub none_there : (earlier later : List Line) (l : Line) → [] ≡ earlier ++ l ∷ later → ⊥
none_there [] later l e = cc
none_there (x ∷ earlier) later l e = cc

-- of a group, in either phase
first_at : (b : Boot) (pt : Point) (d : Step) (w : Spelled) (p : Pid) (phase : Phase) (earlier g : List Line) (l : Line) → Run b pt → IsIn pt.view p phase → group_of b pt d ≡ Some w → w.lines ≡ earlier ++ l ∷ g → is_some (open_after (mark_in phase) (marks p earlier)) ≡ true → At pt earlier l p
first_at b pt d w p (Moves k s t id) earlier g l run is e split begun = moving_at b pt d w p k s t id earlier g l run is e split begun
first_at b pt d w p Nowhere earlier g l run is e split begun = resting_at b pt d w p earlier g l e split begun
first_at b pt d w p (Rests at) earlier g l run is e split begun = resting_at b pt d w p earlier g l e split begun
first_at b pt d w p (Over at) earlier g l run is e split begun = resting_at b pt d w p earlier g l e split begun

by_lies : (b : Boot) (ds : List Step) (pt end : Point) (d : Step) (w : Spelled) (rest earlier later : List Line) (l : Line) (p : Pid) (h : Both b pt) (k : Both b w.point) → group_of b pt d ≡ Some w → is_some (open_after (mark_in (h.run.based.phased.phases.of p)) (marks p earlier)) ≡ true
    → ((between : List Line) → rest ≡ between ++ l ∷ later → is_some (open_after (mark_in (k.run.based.phased.phases.of p)) (marks p between)) ≡ true → At w.point between l p) → Lies w.lines rest earlier later l → At pt earlier l p
by_lies b ds pt end d w rest earlier later l p h k e begun go (First g split) = let phases = h.run.based.phased.phases in first_at b pt d w p (phases.of p) earlier g l h.run (phases.each p) e split begun
by_lies b ds pt end d w rest earlier later l p h k e begun go (Later between are others) =
    let a = h.run.based.phased in
    let c = k.run.based.phased in
    let o = mark_in (a.phases.of p) in
    let g = group_marked b pt d w e a p (a.phases.of p) (c.phases.of p) (a.phases.each p) (c.phases.each p) (none_due pt.view a.phases p) (none_due w.point.view c.phases p)
    (group_waits b pt d w p (a.phases.of p) a (rooted pt a.sane a.ground) (a.phases.each p) (none_due pt.view a.phases p) e) in
    let same : open_after o (marks p earlier) ≡ open_after (mark_in (c.phases.of p)) (marks p between) =
    ap (λ (xs : List Line). open_after o (marks p xs)) are ∙ ap (open_after o) (marks-append p w.lines between) ∙ open-append o (marks p w.lines) (marks p between) ∙ ap (λ (x : Option Mark). open_after x (marks p between)) g.1 in
    let at = go between others (ap is_some (sym same) ∙ begun) in
    record {
      mid = at.mid;
      comes = ap (after pt) are ∙ after-append w.lines between pt w.point at.mid (group_after b pt d w e) at.comes;
      next = at.next;
      goes = at.goes;
      anothers = at.anothers;
      same = at.same;
      server = at.server;
    }

run_at : (b : Boot) (es : List Step) (ls earlier later : List Line) (l : Line) (pt end : Point) (p : Pid) → IsValid b → LeadsBy b pt es ls end → (h : Both b pt) → ls ≡ earlier ++ l ∷ later → is_some (open_after (mark_in (h.run.based.phased.phases.of p)) (marks p earlier)) ≡ true → At pt earlier l p
run_at b [] ls earlier later l pt end p valid (none, at) h split begun = absurd (none_there earlier later l (sym none ∙ split))
run_at b (d ∷ ds) ls earlier later l pt end p valid (w, rest, fit, is, are, more) h split begun =
    let k : Both b w.point = both_group run_group b pt d w valid fit is h in
    by_lies b ds pt end d w rest earlier later l p h k is begun (λ between others on. run_at b ds rest between later l w.point end p valid more k others on) (lies w.lines rest earlier later l (sym are ∙ split))

-- wherever the rule leads
pub open_stays : OpenStays
open_stays b es ls earlier later l pt p valid leads split begun =
    let h = both_start run_start b valid in
    let phases = h.run.based.phased.phases in
    let none : mark_in (phases.of p) ≡ None = grind (arith, nat_tests, (phases.each p), (none_due (first_view b) phases p)) in
    let at = run_at b es ls earlier later l (first_point b) pt p valid leads h split (ap (λ (o : Option Mark). is_some (open_after o (marks p earlier))) none ∙ ap is_some (sym (open_is None (marks p earlier))) ∙ begun) in
    record { before = at.mid.kernel; comes = after_replay earlier (first_point b) at.mid at.comes; behind = at.next; goes = at.goes; anothers = at.anothers; same = at.same; server = at.server }

keeps : (b : Boot) (es : List Step) (ls earlier between later : List Line) (pt : Point) (p : Pid) (s t : OneKernel) → IsValid b → LeadsBy b (first_point b) es ls pt → ls ≡ earlier ++ (between ++ later) → AllOpen p earlier between → replay (start b) (labels earlier) ≡ Some s
    → replay s (labels between) ≡ Some t → (t.processes p ≡ s.processes p) × (server_value p t ≡ server_value p s)
keeps b es ls earlier [] later pt p s t valid leads split on e f = let g : t ≡ s = cc in (ap (λ (k : OneKernel). k.processes p) g, ap (server_value p) g)
keeps b es ls earlier (l ∷ between) later pt p s t valid leads split on e f =
    let a = open_stays b es ls earlier (between ++ later) l pt p valid leads split on.0 in
    let at : a.before ≡ s = (let k : Some a.before ≡ Some s = sym a.comes ∙ e in cc) in
    let goes : kernel_after s (label_of l) ≡ Some a.behind = ap (λ (k : OneKernel). kernel_after k (label_of l)) (sym at) ∙ a.goes in
    let here : replay (start b) (labels (earlier ++ l ∷ [])) ≡ Some a.behind =
    ap (replay (start b)) (labels-append earlier (l ∷ [])) ∙ replay-append (labels earlier) (labels (l ∷ [])) (start b) s a.behind e (grind (arith, nat_tests)) in
    let more : ls ≡ (earlier ++ l ∷ []) ++ (between ++ later) = split ∙ sym (append_assoc earlier (l ∷ []) (between ++ later)) in
    -- one line
    let rest_of : replay a.behind (labels between) ≡ Some t = grind (arith, nat_tests, bind-is) in
    let k = keeps b es ls (earlier ++ l ∷ []) between later pt p a.behind t valid leads more on.1 here rest_of in
    (k.0 ∙ a.same ∙ ap (λ (k : OneKernel). k.processes p) at, k.1 ∙ a.server ∙ ap (server_value p) at)

-- wherever the rule leads
pub open_keeps : OpenKeeps
open_keeps = keeps
