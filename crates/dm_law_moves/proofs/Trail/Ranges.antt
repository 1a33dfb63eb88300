-- Each machine of the trail of a process that was made is one that there is, whether the process lives or has ended: each line keeps it.
use Rattle.dm_law_moves.proofs.Names.{◌≡◌, ◌≢◌, ℕ, ◌<◌, ◌||◌, Bool, true, false, List, [], ◌∷◌, ◌++◌, length, refl, ap, ◌∙◌, sym, subst, inl, inr, arith, cases_Bool, false≢true, nat_tests, is_some, if◌then◌else◌, slice_get, Option, None}
use Rattle.dm_law_moves.proofs.Names.{Some, Pid, pid_eq, pid_eq-is, pid_eq-same, MessageKind, Boot, Step, IsStep, Label, Life, Line, OneKernel, bind-is, Point, moved, after_line, Spelled, group_of, by_group, label_of, kernel_after, Trails}
use Rattle.dm_law_moves.proofs.Names.{Trodden, first_trodden, along, trails_after, Treads, line_treads, LineFits, HeadIn, Within, line_within, is_made, is_server, life_sort, SetLife, step_alike, step_ends, step_serves, step_creates}
use Rattle.dm_law_moves.proofs.Names.{source_holds, destination_expects, destination, is_kill, plain_kind, touches, IsNetLine, Known, Incoming, Frozen, Unknown, Both, first_point, map, zero, suc, BootProcess, option_map}
use Rattle.dm_law_moves.proofs.Names.{BootImage, first_life, life_at, started, plain_link, TrailsIn, some_alike, none_some}
use Rattle.dm_onekernel.specs.Step as kernel
use Rattle.dm_law_rule.proofs.Trails.Along.{AllFit}
use Rattle.dm_law_moves.proofs.At.RestOnly.{is_dead}
use Rattle.dm_law_moves.proofs.Leading.{AllLines, parts_say, outcome_says}
use Rattle.dm_law_always.proofs.Fits.Rises.{or_on}

-- what machines know is known by machines that there are, and so are those of trails
pub record Ranged (n : ℕ) (pt : Point) (t : Trails) : Type 0 where
  pub within : Within n pt.view
  pub ranges : TrailsIn n pt.kernel t

-- who is made
abbrev is_creation : Label → Bool
is_creation (Label.Created id p) = true
is_creation l = false

alike_some : (a b : Option Life) → life_sort a ≡ life_sort b → is_some a ≡ true → is_some b ≡ true
alike_some a b e some = sym (some_alike a b e) ∙ some

set_made : (s t : OneKernel) (p q : Pid) (x : Option Bool) → SetLife s t p x → is_some (s.processes p) ≡ true → is_some (t.processes q) ≡ true → is_some (s.processes q) ≡ true
set_made s t p q x set was some = elim (cases_Bool (pid_eq p q)) [
  | inl same ↦ subst (λ (r : Pid). is_some (s.processes r) ≡ true) (pid_eq-is p q same) was
  | inr off ↦ alike_some (t.processes q) (s.processes q) (set.off q off) some
]

-- a step that makes nobody
label_made : (s t : OneKernel) (l : Label) (q : Pid) → is_creation l ≡ false → kernel.step s l ≡ Some t → is_some (t.processes q) ≡ true → is_some (s.processes q) ≡ true
label_made s t (Label.End p y) q none is some = let k = step_ends s t p y is in set_made s t p q (Some false) k.set (ap is_some k.alive) some
label_made s t (Label.Served id) q none is some =
    let k = step_serves s t id is in
    elim (cases_Bool (is_kill (plain_kind k.message.what))) [
      | inl kills ↦ set_made s t k.message.to q (Some false) (k.served.kill kills) (ap is_some k.alive) some
      | inr mild ↦ alike_some (t.processes q) (s.processes q) (k.served.other mild q) some
    ]
label_made s t (Label.Created id p) q none is some = absurd (false≢true (sym none))
label_made s t l q none is some = alike_some (t.processes q) (s.processes q) (step_alike s t l refl is q) some

-- the trails stay, and who is made was made
ranges_same : (n : ℕ) (s u : OneKernel) (t : Trails) → ((q : Pid) → is_some (u.processes q) ≡ true → is_some (s.processes q) ≡ true) → TrailsIn n s t → TrailsIn n u t
ranges_same n s u t made h = record { within = λ p is. h.within p (or_on (is_server p) (is_some (u.processes p)) (is_some (s.processes p)) (made p) is) }

-- a process is made at home, on a machine that there is
first_only : (xs : List ℕ) (home c m n : ℕ) → slice_get xs 0 ≡ Some home → length xs ≡ 1 → home < n → slice_get xs c ≡ Some m → m < n
first_only [] home c m n first long less e = absurd (omega (arith, long))
first_only (x ∷ []) home zero_ m n first long less e = one_only x home zero_ m n (let f : x ≡ home = cc in f) less e
  where
    one_only : (x home c m n : ℕ) → x ≡ home → home < n → slice_get (x ∷ []) c ≡ Some m → m < n
    one_only x home c m n is less e = grind (arith, nat_tests)
first_only (x ∷ y ∷ xs) home c m n first long less e = absurd (omega (arith, long))

created_ranges : (n : ℕ) (s u : OneKernel) (t : Trails) (p : Pid) → SetLife s u p (Some true) → slice_get (t p) 0 ≡ Some p.home → length (t p) ≡ 1 → p.home < n → TrailsIn n s t → TrailsIn n u t
created_ranges n s u t p set first long less h = record {
  within = λ q is c m e. elim (cases_Bool (pid_eq p q)) [
    | inl same ↦ first_only (t p) p.home c m n first long less (ap (λ (r : Pid). slice_get (t r) c) (pid_eq-is p q same) ∙ e)
    | inr off ↦ h.within q (or_on (is_server q) (is_some (u.processes q)) (is_some (s.processes q)) (alike_some (u.processes q) (s.processes q) (set.off q off)) is) c m e
  ];
}

-- a trail that grows
get_more : (xs : List ℕ) (d c m n : ℕ) → slice_get (xs ++ d ∷ []) c ≡ Some m → ((k x : ℕ) → slice_get xs k ≡ Some x → x < n) → d < n → m < n
get_more [] d zero m n e h less = let f : d ≡ m = cc in subst (λ (k : ℕ). k < n) f less
get_more [] d (suc c) m n e h less = none_some m e
get_more (x ∷ xs) d zero m n e h less = h 0 m e
get_more (x ∷ xs) d (suc c) m n e h less = get_more xs d c m n e (λ k y g. h (suc k) y g) less

sent_ranges : (n : ℕ) (s : OneKernel) (t u : Trails) (p : Pid) (d : ℕ) → u p ≡ t p ++ d ∷ [] → ((q : Pid) → pid_eq p q ≡ false → u q ≡ t q) → d < n → TrailsIn n s t → TrailsIn n s u
sent_ranges n s t u p d more same less h = record {
  within = λ q is c m e. elim (cases_Bool (pid_eq p q)) [
    | inl on ↦ get_more (t p) d c m n (ap (λ (xs : List ℕ). slice_get xs c) (sym more) ∙ ap (λ (r : Pid). slice_get (u r) c) (pid_eq-is p q on) ∙ e)
        (λ k x g. h.within p (ap (is_made s) (pid_eq-is p q on) ∙ is) k x g) less
    | inr off ↦ h.within q is c m (ap (λ (xs : List ℕ). slice_get xs c) (sym (same q off)) ∙ e)
  ];
}

-- each line
label_ranges : (n : ℕ) (pt : Point) (s : OneKernel) (t : Trails) (l : Label) → kernel.step pt.kernel l ≡ Some s → LineFits pt t (Line.Label l) → Treads pt t → Ranged n pt t → TrailsIn n s t
label_ranges n pt s t (Label.Created id p) is fits on h =
    let (unknown, home, stood) = fits.known in
    let none = stood.unmade refl in
    let long = stood.long in
    created_ranges n pt.kernel s t p (step_creates pt.kernel s id p is) (on.trail p).begins (omega (arith, long, none)) (subst (λ (k : ℕ). k < n) (sym home) h.within.acting) h.ranges
label_ranges n pt s t l is fits on h = ranges_same n pt.kernel s t (λ q some. label_made pt.kernel s l q refl is some) h.ranges

still_ranges : (n : ℕ) (pt : Point) (s : OneKernel) (t : Trails) → Some pt.kernel ≡ Some s → TrailsIn n pt.kernel t → TrailsIn n s t
still_ranges n pt s t is h = let f : pt.kernel ≡ s = cc in subst (λ (x : OneKernel). TrailsIn n x t) f h

line_ranges : (n : ℕ) (pt : Point) (s : OneKernel) (t : Trails) (l : Line) → kernel_after pt.kernel (label_of l) ≡ Some s → LineFits pt t l → Treads pt t → Ranged n pt t → TrailsIn n s (trails_after pt.view t l)
line_ranges n pt s t (Line.Label l) is fits on h = label_ranges n pt s t l is fits on h
line_ranges n pt s t (Line.SentOn p k) is fits on h =
    let v = pt.view in
    let holds : v.known v.acting p ≡ Frozen fits.d = ap (λ (m : ℕ). v.known m p) fits.acts ∙ source_holds v p MessageKind.AllTaken fits.s fits.d fits.o fits.phase refl in
    let comes = destination_expects v p MessageKind.AllTaken fits.s fits.d fits.o fits.phase refl refl in
    let less : fits.d < n = h.within.known fits.d p (λ e. let f : Incoming fits.s ≡ Unknown = sym comes ∙ e in cc) in
    let u = trails_after v t (Line.SentOn p k) in
    still_ranges n pt s u is
    (sent_ranges n pt.kernel t u p fits.d (ap (λ (c : Bool). if c then t p ++ destination (v.known v.acting p) else t p) (pid_eq-same p) ∙ ap (λ (x : Known). t p ++ destination x) holds)
    (λ q off. ap (λ (c : Bool). if c then t p ++ destination (v.known v.acting p) else t q) off) less h.ranges)
line_ranges n pt s t l is fits on h = still_ranges n pt s t is h.ranges

line_ranged : (n : ℕ) (pt : Point) (s : OneKernel) (t : Trails) (l : Line) → kernel_after pt.kernel (label_of l) ≡ Some s → LineFits pt t l → HeadIn n l → Treads pt t → Ranged n pt t → Ranged n (moved pt l s) (trails_after pt.view t l)
line_ranged n pt s t l is fits head on h =
    let w = line_within n pt.view l head h.within in
    record { within = record { known = w.known; acting = w.acting }; ranges = line_ranges n pt s t l is fits on h }

-- lines, one after another
lines_ranged : (n : ℕ) (ls : List Line) (x y : Trodden) → along x ls ≡ Some y → AllFit x.point x.trails ls → AllLines (HeadIn n) ls → Treads x.point x.trails → Ranged n x.point x.trails → Ranged n y.point y.trails
lines_ranged n [] x y is fits heads on h = let f : x ≡ y = cc in subst (λ (z : Trodden). Ranged n z.point z.trails) f h
lines_ranged n (l ∷ ls) x y is fits heads on h =
    let u = trails_after x.point.view x.trails l in
    let (next, comes, rest) = bind-is (after_line x.point l) (λ (q : Point). along (record { point = q; trails = u }) ls) y is in
    let (s, step_, last) = bind-is (kernel_after x.point.kernel (label_of l)) (λ (s : OneKernel). Some (moved x.point l s)) next comes in
    let f : moved x.point l s ≡ next = cc in
    lines_ranged n ls (record { point = next; trails = u }) y rest (fits.1 next comes) heads.1 (line_treads x.point next x.trails l comes fits.0 on)
    (subst (λ (q : Point). Ranged n q u) f (line_ranged n x.point s x.trails l step_ fits.0 heads.0 on h))

-- a group begins with a head, and has no other
group_heads : (b : Boot) (n : ℕ) (pt : Point) (d : Step) (w : Spelled) → IsStep n d → group_of b pt d ≡ Some w → AllLines (HeadIn n) w.lines
group_heads b n pt d w fit = by_group (λ v. AllLines (HeadIn n) v.lines) b pt d w (λ ps rest is said. (
  fit,
  parts_say (HeadIn n) (λ x y i k q. tt) (λ x y k l. tt) ps (moved pt (Line.Head d) pt.kernel) rest (outcome_says (HeadIn n) quiet_in net_in b pt d ps is) said,
))
  where
    quiet_in : (l : Line) → touches l ≡ false → HeadIn n l
    quiet_in (Line.Head e) off = absurd (false≢true (sym off))
    quiet_in l off = tt

    net_in : (l : Line) → IsNetLine l → HeadIn n l
    net_in (Line.Head e) net = absurd net
    net_in l net = tt

pub group_ranged : (b : Boot) (n : ℕ) (x y : Trodden) (d : Step) (w : Spelled) → IsStep n d → group_of b x.point d ≡ Some w → along x w.lines ≡ Some y → AllFit x.point x.trails w.lines → Treads x.point x.trails → Ranged n x.point x.trails → Ranged n y.point y.trails
group_ranged b n x y d w fit is comes fits on h = lines_ranged n w.lines x y comes fits (group_heads b n x.point d w fit is) on h

-- before the first line each process that was made lives
first_lives : (b : Boot) (ps : List BootProcess) (q : Pid) → is_dead (life_at b ps q) ≡ false
first_lives b [] q = refl
first_lives b (p ∷ ps) q = elim (pid_eq p.pid q) as (λ c. is_dead (if c then first_life b p else life_at b ps q) ≡ false) [
  | true ↦ (elim (slice_get b.images p.image) as (λ o. is_dead (option_map (λ (i : BootImage). Life.Alive (started b.format i (map plain_link p.links))) o) ≡ false) [ None ↦ refl | Some i ↦ refl ])
  | false ↦ first_lives b ps q
]

made_alive : (c : Bool) (o : Option Life) → is_dead o ≡ false → (c || is_some o) ≡ true → (c || is_some (kernel.alive o)) ≡ true
made_alive true o lives made = refl
made_alive false (Some (Life.Alive x)) lives made = refl
made_alive false (Some (Life.Ended y)) lives made = absurd (false≢true (sym lives))
made_alive false None lives made = absurd (false≢true made)

-- and its home, where it is known, is its trail
pub start_ranged : (b : Boot) → Both b (first_point b) → Ranged (first_point b).kernel.machines (first_point b) (first_trodden b).trails
start_ranged b both =
    let pt = first_point b in
    let run = both.run in
    let known : (q : Pid) → is_made pt.kernel q ≡ true → pt.view.known q.home q ≢ Unknown = λ q made. run.based.known.home q (made_alive (is_server q) (pt.kernel.processes q) (first_lives b b.processes q) made) in
    record {
      within = record { known = λ m q some. run.found.known_within m q some; acting = run.kept.acting };
      ranges = record { within = λ p made c m e. first_only (p.home ∷ []) p.home c m pt.kernel.machines refl refl (run.found.known_within p.home p (known p made)) e };
    }
