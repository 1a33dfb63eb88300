-- Wherever the rule leads there are trails that all addresses are on; where a process doesn't move, its trail ends where it is.
use Rattle.dm_law_moves.proofs.Names.{◌≡◌, ◌≢◌, ℕ, ◌+◌, ◌==◌, Bool, true, false, List, [], ◌∷◌, length, ap, ◌∙◌, sym, subst, inl, inr, arith, if◌then◌else◌, slice_get, Option, Some, Pid, MsgId, MessageKind, Boot, bind, Step, bind-is, Line}
use Rattle.dm_law_moves.proofs.Names.{Leads, Phase, Nowhere, Rests, Over, Moves, IsIn, is_away, is_here, Point, first_point, after, after_line, Trails, Trodden, first_trodden, along, trails_after, View, Known, Unknown, parts, along_treads}
use Rattle.dm_law_moves.proofs.Names.{treads_start, Treads, is_moving, IsThere, eq_self, not_false, nat_tests, IsValid, IsStep, Spelled, group_of, first_trails, TrailsAlways, first_view, eq_is, start_known, Carries, trails_always_by, Both}
use Rattle.dm_law_moves.proofs.Names.{both_start, both_group, run_start, run_group, is_some, refl, cases_Bool, false≢true, None, Place, Label, Life, OneKernel, after_step, Stage, kernel_after, at_record, Told, About, NothingElse, Here}
use Rattle.dm_law_moves.proofs.Names.{Frozen, Forward, view_after, handled, receiver_of, served_told, hushed, grown_none, Phased, queued_known, held_known, dropped_known, Sane, label_no_place, is_server, KnownStands, group_keeps, Loud}
use Rattle.dm_law_moves.proofs.Names.{keeps_by, set_all, killed_or, named_real, is_made, IsNamed, ByHolder, ByOwn, ByRequest, ByUpdate, ByForward, queued_topic, held_topic, or_first, run_always, sets, seen, label_of, Of, Incoming, HasEnded}
use Rattle.dm_law_moves.proofs.Names.{is_unknown, living_phase, server_phase, suc, ◌||◌, is_alive, is_fixed, zero, aim, is_over, is_gone, TrailsIn}
use Rattle.dm_law_always.proofs.Found.Core.{IsReal}
use Rattle.dm_onekernel.specs.Step as kernel
use Rattle.dm_law_rule.specs.View as view
use Rattle.dm_law_moves.proofs.Real.Always.{over_made}
use Rattle.dm_law_moves.proofs.After.{group_after, keeps_always}
use Rattle.dm_law_moves.proofs.Stages.Spares.{restart_late}
use Rattle.dm_law_moves.proofs.Trail.Placed.{Placed, Places, is_held}
use Rattle.dm_law_moves.proofs.Trail.Ranges.{Ranged, group_ranged, start_ranged}
use Rattle.dm_law_moves.proofs.At.RestAlways.{is_here_is as here_is, is_unknown_is as unknown_is}
use Rattle.dm_law_moves.proofs.Trail.Loose.{AllGood, good_fit, good_places, along_after}
use Rattle.dm_law_moves.proofs.Trail.Rows.{group_good}
use Rattle.dm_law_moves.proofs.Promise.Spots.{TrailKnown}
use Rattle.dm_law_always.proofs.Fits.Rises.{or_on}

places_start : (b : Boot) → Places (first_view b) first_trails
places_start b p = grind (arith, nat_tests, eq_is, start_known)

-- what holds of all points that the rule leads to
pub record Holds (b : Boot) (x : Trodden) : Type 0 where
  pub valid : IsValid b
  pub both : Both b x.point
  pub places : Places x.point.view x.trails
  pub ranged : Ranged (length b.machines) x.point x.trails

good : (b : Boot) (x : Trodden) (e : Step) (w : Spelled) → group_of b x.point e ≡ Some w → Holds b x → Treads x.point x.trails → AllGood x.point x.trails w.lines
good b x e w is h on = let run = h.both.run in group_good b x.point x.trails e w is run.based.phased run.based.known run.kept run.based.unmoved h.places on

behind_group : (b : Boot) (x y : Trodden) (e : Step) (w : Spelled) → IsStep x.point.kernel.machines e → group_of b x.point e ≡ Some w → along x w.lines ≡ Some y → Holds b x → Treads x.point x.trails → Holds b y
behind_group b x y e w step is comes h on =
    let f : Some w.point ≡ Some y.point = sym (group_after b x.point e w is) ∙ along_after w.lines x y comes in
    let g : w.point ≡ y.point = cc in
    record { valid = h.valid; both = subst (Both b) g (both_group run_group b x.point e w h.valid step is h.both); places = good_places w.lines x y comes (good b x e w is h on); ranged = group_ranged b (length b.machines) x y e w (subst (λ (n : ℕ). IsStep n e) h.both.run.based.machines step) is comes (good_fit w.lines x.point x.trails (good b x e w is h on)) on h.ranged }

pub ranges_in : (b : Boot) (x : Trodden) → Holds b x → TrailsIn x.point.kernel.machines x.point.kernel x.trails
ranges_in b x h = subst (λ (n : ℕ). TrailsIn n x.point.kernel x.trails) (sym h.both.run.based.machines) h.ranged.ranges

-- what lives is known at home
pub at_home : (s : OneKernel) (v : View) (p : Pid) → KnownStands s v → is_alive s p ≡ true → v.known p.home p ≢ Unknown
at_home s v p h lives = h.home p lives

pub carries : Carries Holds
carries = record {
  start = λ b valid. record { valid = valid; both = both_start run_start b valid; places = places_start b; ranged = subst (λ (n : ℕ). Ranged n (first_point b) (first_trodden b).trails) (both_start run_start b valid).run.based.machines (start_ranged b (both_start run_start b valid)) };
  fits = λ b x e w step is h on. good_fit w.lines x.point x.trails (good b x e w is h on);
  keeps = λ b x y e w step is comes h on. behind_group b x y e w step is comes h on;
  ranges = λ b x h. ranges_in b x h;
  there = λ b x h p lives. (p.home, at_home x.point.kernel x.point.view p h.both.run.based.known lives);
}

pub trails_always : TrailsAlways
trails_always = trails_always_by Holds carries

abbrev trodden : Point → Trails → Trodden
trodden pt t = record { point = pt; trails = t }

-- wherever lines lead, trails lead along
along_there : (ls : List Line) (pt end : Point) (t : Trails) → after pt ls ≡ Some end → (u : Trails) × (along (trodden pt t) ls ≡ Some (trodden end u))
along_there [] pt end t e = let f : pt ≡ end = cc in (t, ap (λ (q : Point). Some (trodden q t)) f)
along_there (l ∷ ls) pt end t e =
    let (next, first, rest) = bind-is (after_line pt l) (λ (q : Point). after q ls) end e in
    let (u, is) = along_there ls next end (trails_after pt.view t l) rest in
    (u, ap (λ (o : Option Point). bind o (λ (n : Point). along (trodden n (trails_after pt.view t l)) ls)) first ∙ is)

-- and so it is group by group
record Trod (b : Boot) (pt : Point) : Type 0 where
  trails : Trails
  holds : Holds b (trodden pt trails)
  treads : Treads pt trails

trod_on : (b : Boot) (es : List Step) (pt end : Point) → Leads b pt es end → Trod b pt → Trod b end
trod_on b [] pt end leads h = subst (Trod b) leads h
trod_on b (e ∷ es) pt end (w, fit, is, rest) h =
    let x = trodden pt h.trails in
    let (u, comes) = along_there w.lines pt w.point h.trails (group_after b pt e w is) in
    trod_on b es w.point end rest
    (record {
      trails = u;
      holds = carries.keeps b x (trodden w.point u) e w fit is comes h.holds h.treads;
      treads = along_treads w.lines x (trodden w.point u) comes (carries.fits b x e w fit is h.holds h.treads) h.treads;
    })

at_self : (m : ℕ) (x y : Bool) → (if m == m then x else y) ≡ true → x ≡ true
at_self m x y e = sym (ap (λ (c : Bool). if c then x else y) (eq_self m)) ∙ e

never_moves : (v : View) (p : Pid) (k : MessageKind) (s d : ℕ) (o : Option MsgId) → IsIn v p (Moves k s d o) → ((m : ℕ) → is_moving (v.known m p) ≡ false) → ⊥
never_moves v p k s d o h still = search (arith, v.known s p, still s, at_self, h.known, not_false, parts, restart_late)

-- nobody has it in such a phase, or expects it
gone_away : (v : View) (p : Pid) (phase : Phase) → IsIn v p phase → is_gone phase ≡ true → (m : ℕ) → is_away (v.known m p) ≡ true
gone_away v p Nowhere h gone m = ap is_away (unknown_is (v.known m p) (h.known m))
gone_away v p (Over at) h gone m = over_away (at == m) (v.known m p) (h.known m)
  where
    over_away : (c : Bool) (k : Known) → (if c then is_unknown k else is_away k) ≡ true → is_away k ≡ true
    over_away true k e = ap is_away (unknown_is k e)
    over_away false k e = e
gone_away v p (Rests at) h gone m = absurd (false≢true gone)
gone_away v p (Moves k s d o) h gone m = absurd (false≢true gone)

long_in : (v : View) (t : Trails) (p : Pid) (phase : Phase) → IsIn v p phase → Placed v t p → ((m : ℕ) → is_moving (v.known m p) ≡ false) → length (t p) ≡ v.moves p + 1
long_in v t p Nowhere h on still = on.gone (gone_away v p Nowhere h refl)
long_in v t p (Rests at) h on still = on.long at (grind (arith, nat_tests, (at_self at (is_here (v.known at p)) (is_away (v.known at p)) (h.known at))))
long_in v t p (Over at) h on still = on.gone (gone_away v p (Over at) h refl)
long_in v t p (Moves k s d o) h on still = absurd (never_moves v p k s d o h still)

-- what has ended was last where its trail ends
last_of : (xs : List ℕ) (n : ℕ) → length xs ≡ n + 1 → (m : ℕ) × (slice_get xs n ≡ Some m)
last_of [] n long = absurd (omega (arith, long))
last_of (x ∷ xs) zero long = (x, refl)
last_of (x ∷ xs) (suc n) long = last_of xs n (omega (arith, long))

-- what was made, and is on no machine, has ended
ended_if : (b : Boot) (pt : Point) (p : Pid) (phase : Phase) → Both b pt → is_made pt.kernel p ≡ true → IsIn pt.view p phase → is_gone phase ≡ true → HasEnded pt.kernel p
ended_if b pt p phase h made is gone = elim (cases_Bool (is_server p)) [
  | inl server ↦ absurd (false≢true (sym (server_phase pt p phase h.run.based.phased server is) ∙ gone))
  | inr process ↦ by_life (pt.kernel.processes p) refl (sym (ap (λ (c : Bool). c || is_some (pt.kernel.processes p)) process) ∙ made)
]
  where
    by_life : (o : Option Life) → pt.kernel.processes p ≡ o → is_some o ≡ true → HasEnded pt.kernel p
    by_life None e some = absurd (false≢true some)
    by_life (Some (Life.Ended y)) e some = (y, e)
    by_life (Some (Life.Alive x)) e some = absurd (false≢true (sym (living_phase pt p x phase h.run.based.phased e is) ∙ gone))

gone_there : (b : Boot) (pt : Point) (t : Trails) (p : Pid) (phase : Phase) → Both b pt → is_made pt.kernel p ≡ true → IsIn pt.view p phase → is_gone phase ≡ true → Placed pt.view t p → (m : ℕ) × (slice_get (t p) (pt.view.moves p) ≡ Some m) × IsThere pt p m
gone_there b pt t p phase h made is gone on =
    let away = gone_away pt.view p phase is gone in
    let (m, at) = last_of (t p) (pt.view.moves p) (on.gone away) in
    (m, at, record { now = inr (ended_if b pt p phase h made is gone); away = λ n off. away n })

there_in : (b : Boot) (pt : Point) (t : Trails) (p : Pid) (phase : Phase) → Both b pt → is_made pt.kernel p ≡ true → IsIn pt.view p phase → Placed pt.view t p → ((m : ℕ) → is_moving (pt.view.known m p) ≡ false) → (m : ℕ) × (slice_get (t p) (pt.view.moves p) ≡ Some m) × IsThere pt p m
there_in b pt t p Nowhere h made is on still = gone_there b pt t p Nowhere h made is refl on
there_in b pt t p (Over at) h made is on still = gone_there b pt t p (Over at) h made is refl on
there_in b pt t p (Rests at) h made is on still =
    let v = pt.view in
    let here = at_self at (is_here (v.known at p)) (is_away (v.known at p)) (is.known at) in
    (at, on.now at (ap is_held (here_is (v.known at p) here)), record { now = inl (here_is (v.known at p) here); away = λ m off. (sym (ap (λ (d : Bool). if d then (is_here (v.known m p)) else (is_away (v.known m p))) off) ∙ (is.known m)) })
there_in b pt t p (Moves k s d o) h made is on still = absurd (never_moves pt.view p k s d o is still)

-- wherever the rule leads
pub trail_known : TrailKnown
trail_known b es pt valid leads =
    let first : Trod b (first_point b) = record { trails = (first_trodden b).trails; holds = carries.start b valid; treads = treads_start b valid } in
    let h = trod_on b es (first_point b) pt leads first in
    let phases = h.holds.both.run.based.phased.phases in (
      h.trails,
      record {
        addresses = h.treads.links;
        about = h.treads.own.about;
        long = λ p still. long_in pt.view h.trails p (phases.of p) (phases.each p) (h.holds.places p) still;
        there = λ p made still. there_in b pt h.trails p (phases.of p) h.holds.both made (phases.each p) (h.holds.places p) still;
      },
    )

-- Whom a place is named for is a kernel, a server or a process that was made.

-- a process that leaves a machine, or has left it, or comes to one
abbrev passes : Known → Bool
passes (Frozen to) = true
passes (Incoming from) = true
passes (Forward at_ moves) = true
passes _ = false

-- a server is, too; as a word that searches don't open
WasMade : OneKernel → Pid → Type 0
WasMade s p = is_made s p ≡ true

was_made : (s : OneKernel) (p : Pid) → is_made s p ≡ true → WasMade s p
unfolding WasMade
was_made s p e = e

made_was : (s : OneKernel) (p : Pid) → WasMade s p → is_made s p ≡ true
unfolding WasMade
made_was s p h = h

-- only servers and processes that were made leave machines, and only of these a place is told
record Passing (s : OneKernel) (v : View) : Type 0 where
  known : (m : ℕ) (p : Pid) → passes (v.known m p) ≡ true → WasMade s p
  told : (i : MsgId) (u : Told) (p : Pid) (m c : ℕ) → v.told i ≡ Some u → u.about ≡ view.Place p m c → WasMade s p
  topic : (p : Pid) (m c : ℕ) → v.topic ≡ view.Place p m c → WasMade s p

-- what was made stays made
abbrev Goes : OneKernel → OneKernel → Type 0
Goes s t = (p : Pid) → WasMade s p → WasMade t p

pub none_is : (o : Option Life) → is_some o ≡ false → o ≡ None
none_is o e = grind (arith, nat_tests)

some_goes : (pt : Point) (t : OneKernel) (l : Label) (p : Pid) → Sane pt → kernel.step pt.kernel l ≡ Some t → is_some (pt.kernel.processes p) ≡ true → is_some (t.processes p) ≡ true
some_goes pt t l p h e some = elim (cases_Bool (is_some (t.processes p))) [
  | inl there ↦ there
  | inr none ↦
      let a = after_step h.r h.e pt.kernel t l e h.sound in
      let before : pt.kernel.processes p ≡ None = grown_none (pt.kernel.processes p) (t.processes p) (a.grown.lives p) (none_is (t.processes p) none) in
      absurd (false≢true (sym (ap is_some before) ∙ some))
]

goes_label : (pt : Point) (t : OneKernel) (l : Label) → Sane pt → kernel.step pt.kernel l ≡ Some t → Goes pt.kernel t
goes_label pt t l h e p made = was_made t p (or_on (is_server p) (is_some (pt.kernel.processes p)) (is_some (t.processes p)) (some_goes pt t l p h e) (made_was pt.kernel p made))

-- whoever lives was made
some_alive : (o : Option Life) → is_some (kernel.alive o) ≡ true → is_some o ≡ true
some_alive None e = e
some_alive (Some x) e = refl

alive_made : (s : OneKernel) (p : Pid) → is_alive s p ≡ true → WasMade s p
alive_made s p lives = was_made s p (or_on (is_server p) (is_some (kernel.alive (s.processes p))) (is_some (s.processes p)) (some_alive (s.processes p)) lives)

goes_by : (pt : Point) (t : OneKernel) (o : Option Label) → Sane pt → kernel_after pt.kernel o ≡ Some t → Goes pt.kernel t
goes_by pt t None h e p made = subst (λ (k : OneKernel). WasMade k p) (let f : pt.kernel ≡ t = cc in f) made
goes_by pt t (Some l) h e p some = goes_label pt t l h e p some

-- what a line is about
no_place : (T : Type 0) (a : About) (p : Pid) (m c : ℕ) → a ≡ NothingElse → a ≡ view.Place p m c → T
no_place T a p m c e f = absurd (let g : NothingElse ≡ view.Place p m c = sym e ∙ f in cc)

stage_made : (s : OneKernel) (v : View) (q : Pid) (k : Stage) (p : Pid) (m c : ℕ) → Passing s v → (view.after_stage v q k).topic ≡ view.Place p m c → WasMade s p
stage_made s v q Stage.Asked p m c h e = h.topic p m c e
stage_made s v q Stage.Restarted p m c h e = h.topic p m c e
stage_made s v q Stage.Frozen p m c h e = cc (sym (sets v q v.topic).topic ∙ e)
stage_made s v q _ p m c h e = cc

line_made : (s : OneKernel) (v : View) (l : Line) → Passing s v → (p : Pid) (m c : ℕ) → (view_after v l).topic ≡ view.Place p m c → WasMade s p
line_made s v l h1 p m c h2 =
    let proto_made : (s : OneKernel) (v : View) (i : MsgId) (o : Option Told) (p : Pid) (m c : ℕ) → v.told i ≡ o → Passing s v → (view.after_proto (handled v i) o).topic ≡ view.Place p m c → WasMade s p =
    λ s v i o p m c is h e. grind (arith, nat_tests, no_place) in
    let head_made : (s : OneKernel) (v : View) (d : Step) (p : Pid) (m c : ℕ) → (view.after_head v d).topic ≡ view.Place p m c → WasMade s p = λ s v d p m c e. grind (arith, nat_tests, no_place) in
    let forwarded_made : (s : OneKernel) (v : View) (o : Option Pid) (p : Pid) (m c : ℕ) → Passing s v → (view.forwarded_for v o).topic ≡ view.Place p m c → WasMade s p = λ s v o p m c h e. grind (arith, nat_tests) in
    let buried_made : (s : OneKernel) (v : View) (i : MsgId) (o : Option Told) (p : Pid) (m c : ℕ) → Passing s v → (view.buried_for (handled v i) o).topic ≡ view.Place p m c → WasMade s p = λ s v i o p m c h e. grind (arith, nat_tests, no_place) in
    let no_of : (T : Type 0) (q p : Pid) (m c : ℕ) → Of q ≡ view.Place p m c → T = λ T q p m c e. cc in
    search (arith, head_made, label_no_place, forwarded_made, proto_made, buried_made, v.told, stage_made, no_of, queued_topic, held_topic)

-- a line after which the same leave
line_passing : (pt : Point) (t : OneKernel) (l : Line) → Goes pt.kernel t → ((m : ℕ) (p : Pid) → passes ((view_after pt.view l).known m p) ≡ true → WasMade pt.kernel p) → (view_after pt.view l).told ≡ pt.view.told → Passing pt.kernel pt.view
    → Passing t (view_after pt.view l)
line_passing pt t l goes known told h = grind (arith, nat_tests, line_made)

same_known : (s : OneKernel) (v w : View) → w.known ≡ v.known → Passing s v → (m : ℕ) (p : Pid) → passes (w.known m p) ≡ true → WasMade s p
same_known s v w known h m p e = h.known m p (sym (ap (λ (f : ℕ → Pid → Known). passes (f m p)) known) ∙ e)

point_known : (s : OneKernel) (v w : View) → ((m : ℕ) (p : Pid) → w.known m p ≡ v.known m p) → Passing s v → (m : ℕ) (p : Pid) → passes (w.known m p) ≡ true → WasMade s p
point_known s v w known h m p e = h.known m p (sym (ap passes (known m p)) ∙ e)

set_known : (s : OneKernel) (v w : View) (q : Pid) (k : Known) → w.known ≡ at_record v.known v.acting q k → (passes k ≡ true → WasMade s q) → Passing s v → (m : ℕ) (p : Pid) → passes (w.known m p) ≡ true → WasMade s p
set_known s v w q k known new h m p e = grind (arith, nat_tests, set_all)

served_known : (s : OneKernel) (v : View) (i : MsgId) (o : Option Told) → Passing s v → (m : ℕ) (p : Pid) → passes ((served_told (handled v i) o).known m p) ≡ true → WasMade s p
served_known s v i o h m p e = grind (arith, nat_tests, killed_or, set_known)

-- a machine forgets a process
forgotten_known : (s : OneKernel) (v : View) (i : MsgId) (a : About) → Passing s v → (m : ℕ) (p : Pid) → passes ((view.forgotten (handled v i) a).known m p) ≡ true → WasMade s p
forgotten_known s v i (Of q) h m p e = set_known s v (view.forgotten (handled v i) (Of q)) q Unknown refl (λ f. absurd (false≢true f)) h m p e
forgotten_known s v i _ h m p e = h.known m p e

buried_known : (s : OneKernel) (v : View) (i : MsgId) (o : Option Told) → Passing s v → (m : ℕ) (p : Pid) → passes ((view.buried_for (handled v i) o).known m p) ≡ true → WasMade s p
buried_known s v i None h m p e = h.known m p e
buried_known s v i (Some t) h m p e = forgotten_known s v i t.about h m p e

-- a put tells of what the group is about
put_told : (v : View) (a b : ℕ) (i : MsgId) (k : MessageKind) (q : Pid) (s : OneKernel) (j : MsgId) (u : Told) (p : Pid) (m c : ℕ) → Passing s v → (view.after_put v a b i k q).told j ≡ Some u → u.about ≡ view.Place p m c → WasMade s p
put_told v a b i k q s j u p m c h e f = grind (arith, nat_tests)

passing_seen : (s t : OneKernel) (v : View) (l : Line) → Passing t (view_after v l) → Passing t (seen s v l)
passing_seen s t v l h = search (arith, h.known, h.told, h.topic)

passing_loud : Loud (λ pt. Passing pt.kernel pt.view)
passing_loud = record {
  rides = grind (arith, nat_tests, put_told);
  quiet = λ pt w t l e s told alike sane is h. passing_seen pt.kernel t pt.view l
      (line_passing pt t l (goes_by pt t (label_of l) sane is) (same_known pt.kernel pt.view (view_after pt.view l) (ap (λ (x : View). x.known) e ∙ s.known) h) (ap (λ (x : View). x.told) e ∙ told) h);
  ran = λ pt t p k here alike sane is h. line_passing pt t (Line.Label (Label.Ran p k)) (goes_label pt t (Label.Ran p k) sane is) h.known refl h;
  receive = λ pt t p id here alike sane is h. line_passing pt t (Line.Label (Label.Receive p id)) (goes_label pt t (Label.Receive p id) sane is) h.known refl h;
  refuse = λ pt t p id c here alike sane is h. line_passing pt t (Line.Label (Label.Refuse p id c)) (goes_label pt t (Label.Refuse p id c) sane is) h.known refl h;
  end = λ pt t p y rests sane is h.
      let l = Line.Label (Label.End p y) in
      line_passing pt t l (goes_label pt t (Label.End p y) sane is) (set_known pt.kernel pt.view (view_after pt.view l) p Unknown refl (λ f. absurd (false≢true f)) h) refl h;
  dropped = λ pt t id alike sane is h.
      let l = Line.Label (Label.Dropped id) in
      line_passing pt t l (goes_label pt t (Label.Dropped id) sane is) (point_known pt.kernel pt.view (view_after pt.view l) (λ m q. dropped_known (handled pt.view id) id (receiver_of (pt.view.told id)) m q) h) (hushed pt.view l refl).told h;
  served = λ pt t id serves sane is h.
      let l = Line.Label (Label.Served id) in
      line_passing pt t l (goes_label pt t (Label.Served id) sane is) (served_known pt.kernel pt.view id (pt.view.told id) h) (hushed pt.view l refl).told h;
  created = λ pt t id p unborn sane is h.
      let l = Line.Label (Label.Created id p) in
      line_passing pt t l (goes_label pt t (Label.Created id p) sane is) (set_known pt.kernel pt.view (view_after pt.view l) p Here refl (λ f. absurd (false≢true f)) h) refl h;
  queued = grind (arith, nat_tests, line_passing, point_known, queued_known, hushed);
  held = grind (arith, nat_tests, line_passing, point_known, held_known, hushed);
  frozen = λ pt p lives here h.
      let l = Line.Migration Stage.Frozen p in
      line_passing pt pt.kernel l (λ q e. e) (set_known pt.kernel pt.view (view_after pt.view l) p (Frozen (aim pt.view pt.view.topic)) (sets pt.view p pt.view.topic).known (λ f. alive_made pt.kernel p lives) h) (hushed pt.view l refl).told h;
  accepted = λ pt p lives away h.
      let l = Line.Migration Stage.Accepted p in
      line_passing pt pt.kernel l (λ q e. e) (set_known pt.kernel pt.view (view_after pt.view l) p (Incoming (view.front_of (pt.view.inbox pt.view.acting))) refl (λ f. alive_made pt.kernel p lives) h) (hushed pt.view l refl).told h;
  left = grind (arith, nat_tests, line_passing, set_known);
  restarted = grind (arith, nat_tests, line_passing, set_known);
  stays_ = grind (arith, nat_tests, line_passing, set_known);
  called = λ pt p n calling h.
      line_passing pt pt.kernel (Line.Called p n) (λ q e. e)
      (set_known pt.kernel pt.view (view_after pt.view (Line.Called p n)) p (view.goes_back (pt.view.known pt.view.acting p) (pt.view.moves p)) refl (λ f. h.known pt.view.acting p (ap passes calling.comes)) h) refl h;
  buried = λ pt id n need sane h. line_passing pt pt.kernel (Line.Buried id n) (λ q e. e) (buried_known pt.kernel pt.view id (pt.view.told id) h) (hushed pt.view (Line.Buried id n) refl).told h;
  sent_on = λ pt p n h. line_passing pt pt.kernel (Line.SentOn p n) (λ q e. e) h.known refl h;
}

-- at the start no process leaves
passing_start : (b : Boot) → Passing (first_point b).kernel (first_point b).view
passing_start b = grind (arith, nat_tests, start_known, no_place)

passing_group : (b : Boot) (pt : Point) (d : Step) (w : Spelled) → group_of b pt d ≡ Some w → Phased pt → KnownStands pt.kernel pt.view → Passing pt.kernel pt.view → Passing w.point.kernel w.point.view
passing_group b pt d w is phased known h = group_keeps (λ q. Passing q.kernel q.view) (keeps_by (λ q. Passing q.kernel q.view) passing_loud) b pt d w is phased known h

-- wherever the rule leads
pub record Passed (b : Boot) (pt : Point) : Type 0 where
  both : Both b pt
  passing : Passing pt.kernel pt.view

pub passed_always : (b : Boot) (es : List Step) (pt : Point) → IsValid b → Leads b (first_point b) es pt → Passed b pt
passed_always b es pt valid way = record {
  both = run_always b es pt valid way;
  passing = keeps_always b (λ q. Passing q.kernel q.view) (λ q d w fit is run h. passing_group b q d w is run.based.phased run.based.known h) valid (passing_start b) es pt way;
}

known_made : (s : OneKernel) (v : View) (q : Pid) → KnownStands s v → v.known q.home q ≢ Unknown → is_made s q ≡ true
known_made s v q h some = elim (cases_Bool (is_server q)) [
  | inl server ↦ ap (λ (c : Bool). c || is_some (s.processes q)) server
  | inr process ↦ or_first (is_server q) (is_some (s.processes q)) (let agree = h.agree q.home q process in let e_ : is_some (s.processes q) ≡ true = grind (arith, nat_tests) in e_)
]

fixed_made : (s : OneKernel) (q : Pid) → (q.num == 0) ≡ false → is_fixed q ≡ true → is_made s q ≡ true
fixed_made s q other fixed = absurd (false≢true (sym other ∙ fixed))

real_made : (s : OneKernel) (v : View) (n : ℕ) (q : Pid) → KnownStands s v → (q.num == 0) ≡ false → IsReal n s.processes v q → is_made s q ≡ true
real_made s v n q h other real = elim real [
  | inl fixed ↦ fixed_made s q other fixed.0
  | inr there ↦ elim (cases_Bool (is_over (s.processes q))) [
    | inl over ↦ or_first (is_server q) (is_some (s.processes q)) (over_made (s.processes q) over)
    | inr lives ↦ known_made s v q h (there.1 lives)
  ]
]

pub made_by : (b : Boot) (pt : Point) (q : Pid) (place : Place) → Passed b pt → (q.num == 0) ≡ false → IsNamed pt q place → is_made pt.kernel q ≡ true
made_by b pt q place h other (ByHolder g is at_) = real_made pt.kernel pt.view pt.kernel.machines q h.both.run.based.known other (named_real pt pt.kernel.machines g q h.both.run.kept is)
made_by b pt q place h other (ByOwn i u own told to at_) = grind (arith, nat_tests, real_made)
made_by b pt q place h other (ByRequest i u own told asks to at_) = subst (λ (p : Pid). is_made pt.kernel p ≡ true) to refl
made_by b pt q place h other (ByUpdate i u told about) = made_was pt.kernel q (h.passing.told i u q place.at place.moves told about)
made_by b pt q place h other (ByForward m e) = made_was pt.kernel q (h.passing.known m q (ap passes e))
