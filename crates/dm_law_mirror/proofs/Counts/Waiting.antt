-- What waits for a process was routed: it is no more than all that was.
use Rattle.dm_law_mirror.proofs.Names.{◌≡◌, ◌≢◌, inl, inr, ℕ, zero, suc, ◌+◌, ◌<◌, ◌≤◌, ◌==◌, ◌&&◌, Bool, true, false, List, [], ◌∷◌, ◌++◌, length, is_some, refl, ap, ◌∙◌, sym, subst, arith, if◌then◌else◌, Option, Some, cases_Bool, false≢true}
use Rattle.dm_law_mirror.proofs.Names.{nat_tests, Pid, id_eq, MsgId, MessageKind, Boot, id_eq-is, id_eq-same, Line, Point, Held, Queue, standing, times, View, Pair, Told, after_put, first_told, first_view, routed_on, view_after, hushed, is_put}
use Rattle.dm_law_mirror.proofs.Names.{StandsAsBag-elsewhere, StandsAsBag-one, times-append, letters, Run, cases_zero, last_there, ◌*◌, map, option_map, slice_get, None, pid_eq, plain_link, BootImage, BootProcess, IsValid, processes_are_valid}
use Rattle.dm_law_mirror.proofs.Names.{starting_at, Alive, life_at, first_point, Known, known_at, room_from, pid_eq-is, Phase, Rests, kind_comes, is_between, knows, kind_leaves, at_pid, at_record, rests_here, InPhases, stands_first, sort_of}
use Rattle.dm_law_mirror.proofs.Names.{is_piece}
use Rattle.dm_law_one.proofs.Names.{begun}
use Rattle.std.proofs.Common.{length-append}
use Rattle.dm_law_mirror.proofs.Counts.Pairs.{line_ids, same_of, PairsWithin, Still}
use Rattle.dm_law_mirror.proofs.Totals.{from_one, ids_of, sum_to, total, sum_more, Grows, total_grows}
use Rattle.dm_law_mirror.proofs.Counts.AtEnds.{Under, FrontRestarts}
use Rattle.dm_law_mirror.proofs.Machines.{few_machines}
use Rattle.dm_law_mirror.proofs.Numbering.{listed, one_if}
use Rattle.dm_law_mirror.proofs.Raises.{sent_of}
use Rattle.dm_law_mirror.proofs.May.OwnKernel.{is_moved}
use Rattle.dm_law_mirror.proofs.LeftOver.{plainly_due}

-- whatever was told of was routed
pub record IsRouted (v : View) (i : MsgId) : Type 0 where
  pub from : ℕ
  pub to : ℕ
  pub there : 1 ≤ times i (v.pair from to).ids

abbrev pub Routed : View → Type 0
Routed v = (i : MsgId) → is_some (v.told i) ≡ true → IsRouted v i

still_routed : (v : View) (l : Line) → is_put l ≡ false → Routed v → Routed (view_after v l)
still_routed v l off h = λ i told.
    let k = h i (sym (ap (λ (f : MsgId → Option Told). is_some (f i)) (hushed v l off).told) ∙ told) in
    let there = k.there in
    record { from = k.from; to = k.to; there = omega (arith, there, ap (times i) (line_ids v l off k.from k.to)) }

more_times : (j i : MsgId) (ids : List MsgId) → times j ids ≤ times j (ids ++ i ∷ [])
more_times j i ids = let e = times-append j ids (i ∷ []) in omega (arith, e)

put_there : (f : ℕ → ℕ → Pair) (a b : ℕ) (i : MsgId) → 1 ≤ times i (if (a == a) && (b == b) then routed_on a b (f a b) i else f a b).ids
put_there f a b i = grind (arith, nat_tests, last_there)

put_routed : (v : View) (a b : ℕ) (i : MsgId) (k : MessageKind) (q : Pid) → Routed v → Routed (after_put v a b i k q)
put_routed v a b i k q h = λ j told. elim (cases_Bool (id_eq i j)) [
  | inl same ↦ record { from = a; to = b; there = subst (λ (g : MsgId). 1 ≤ times g ((after_put v a b i k q).pair a b).ids) (id_eq-is i j same) (put_there v.pair a b i) }
  | inr off ↦
      let r = h j (sym (ap (λ (c : Bool). is_some (if c then Some (first_told (v.told i) (record { kind = k; receiver = q; about = v.topic })) else v.told j)) off) ∙ told) in
      record { from = r.from; to = r.to; there = (let e_ : 1 ≤ times j (if ((a == r.from) && (b == r.to)) then routed_on a b (v.pair a b) i else v.pair r.from r.to).ids = grind (arith, nat_tests, same_of, more_times, r.there) in e_) }
]

pub line_routed : (v : View) (l : Line) → Routed v → Routed (view_after v l)
line_routed v (Line.Put a b i k q) h = put_routed v a b i k q h
line_routed v any_ h = still_routed v any_ refl h

-- a list whose elements are among another's is no longer
abbrev remove : MsgId → List MsgId → List MsgId
remove i [] = []
remove i (y ∷ ys) = if id_eq i y then ys else y ∷ remove i ys

remove_length : (i : MsgId) (ys : List MsgId) → 1 ≤ times i ys → length ys ≡ length (remove i ys) + 1
remove_length i [] least = absurd (omega (arith, least))
remove_length i (y ∷ ys) least = elim (cases_Bool (id_eq i y)) [
  | inl same ↦ let e = ap (λ (c : Bool). length (if c then ys else y ∷ remove i ys)) same in omega (arith, e)
  | inr off ↦
      omega (arith, (ap (λ (c : Bool). length (if c then ys else y ∷ remove i ys)) off), remove_length i ys (omega (arith, ap (λ (c : Bool). (if c then 1 else 0) + times i ys) off, least)))
]

remove_times : (i j : MsgId) (ys : List MsgId) → times j ys ≤ times j (remove i ys) + one_if (id_eq j i)
remove_times i j [] = omega arith
remove_times i j (y ∷ ys) = elim (cases_Bool (id_eq i y)) [
  | inl same ↦
      omega (arith, (ap (λ (c : Bool). times j (if c then ys else y ∷ remove i ys)) same), (ap (λ (g : MsgId). one_if (id_eq j g)) (sym (id_eq-is i y same))))
  | inr off ↦
      omega (arith, (ap (λ (c : Bool). times j (if c then ys else y ∷ remove i ys)) off), remove_times i j ys)
]

length_by : (xs ys : List MsgId) → ((i : MsgId) → times i xs ≤ times i ys) → length xs ≤ length ys
length_by [] ys h = omega arith
length_by (x ∷ xs) ys h =
    let first : times x (x ∷ xs) ≡ 1 + times x xs = ap (λ (c : Bool). one_if c + times x xs) (id_eq-same x) in
    let rest = length_by xs (remove x ys) (λ i. let a = h i in let c = remove_times x i ys in omega (arith, a, c)) in
    omega (arith, remove_length x ys (omega (arith, first, h x)), rest)

-- all that was routed, in one list
abbrev list_to : ℕ → (ℕ → List MsgId) → List MsgId
list_to zero f = []
list_to (suc n) f = list_to n f ++ f n

list_length : (n : ℕ) (f : ℕ → List MsgId) (g : ℕ → ℕ) → ((k : ℕ) → length (f k) ≡ g k) → length (list_to n f) ≡ sum_to n g
list_length zero f g h = refl
list_length (suc n) f g h = let e = length-append (list_to n f) (f n) in let r = list_length n f g h in let k = h n in omega (arith, e, r, k)

list_times : (n : ℕ) (f : ℕ → List MsgId) (i : MsgId) (k : ℕ) → k < n → times i (f k) ≤ times i (list_to n f)
list_times zero f i k lt = absurd (omega (arith, lt))
list_times (suc n) f i k lt = elim (cases_Bool (k == n)) [
  | inl same ↦ omega (arith, times-append i (list_to n f) (f n), ap (λ (j : ℕ). times i (f j)) (same_of k n same))
  | inr off ↦ omega (arith, times-append i (list_to n f) (f n), list_times n f i k (grind (arith, nat_tests)))
]

abbrev from_machine : View → ℕ → ℕ → List MsgId
from_machine v n a = list_to n (λ c. (v.pair a c).ids)

abbrev all_ids : View → ℕ → List MsgId
all_ids v n = list_to n (from_machine v n)

some_times : (i : MsgId) (ids : List MsgId) → 1 ≤ times i ids → 1 ≤ length ids
some_times i [] least = absurd (omega (arith, least))
some_times i (x ∷ xs) least = omega arith

routed_in : (v : View) (n : ℕ) (i : MsgId) → PairsWithin n v → IsRouted v i → 1 ≤ times i (all_ids v n)
routed_in v n i within r =
    let there = r.there in
    let at_ = within r.from r.to (some_times i (v.pair r.from r.to).ids there) in
    omega (arith, there, (list_times n (λ c. (v.pair r.from c).ids) i r.to at_.1), list_times n (from_machine v n) i r.from at_.0)

queue_held : (m : ℕ) (p : Pid) → Held m p ≢ Queue m p
queue_held m p e = cc

waits_once : (b : Boot) (pt : Point) (m : ℕ) (p : Pid) (i : MsgId) → Run b pt → times i (pt.view.queue m p) + times i (pt.view.held m p) ≤ 1
waits_once b pt m p i run =
    let state = run.based.phased.state in
    let o = letters state.own pt.kernel.bag i in
    let f = standing pt.view i in
    let kept = state.stands.kept i in
    elim (cases_zero (f (Queue m p))) [
      | inl z ↦ elim (cases_zero (f (Held m p))) [
        | inl y ↦ omega (arith, z, y)
        | inr some ↦ let e = StandsAsBag-one o f (Held m p) some kept in omega (arith, z, e)
      ]
      | inr some ↦
          omega (arith, StandsAsBag-one o f (Queue m p) some kept, StandsAsBag-elsewhere o f (Queue m p) (Held m p) some (queue_held m p) kept)
    ]

waits_among : (b : Boot) (pt : Point) (n m : ℕ) (p : Pid) (i : MsgId) → Run b pt → PairsWithin n pt.view → Routed pt.view → times i (pt.view.queue m p) + times i (pt.view.held m p) ≤ times i (all_ids pt.view n)
waits_among b pt n m p i run within routed =
    let once = waits_once b pt m p i run in
    elim (cases_zero (times i (pt.view.queue m p))) [
      | inl z ↦ elim (cases_zero (times i (pt.view.held m p))) [
        | inl y ↦ omega (arith, z, y)
        | inr some ↦ let k = routed_in pt.view n i within (routed i (run.found.told i (Held m p) some)) in omega (arith, z, once, k)
      ]
      | inr some ↦ let k = routed_in pt.view n i within (routed i (run.found.told i (Queue m p) some)) in omega (arith, once, k)
    ]

pub waiting_few : (b : Boot) (pt : Point) (n : ℕ) → Run b pt → PairsWithin n pt.view → Routed pt.view → (m : ℕ) (p : Pid) → length (pt.view.queue m p) + length (pt.view.held m p) ≤ total pt.view n
waiting_few b pt n run within routed m p =
    let xs = pt.view.queue m p in
    let ys = pt.view.held m p in
    let most = length_by (xs ++ ys) (all_ids pt.view n) (λ i. let e = times-append i xs ys in let k = waits_among b pt n m p i run within routed in omega (arith, e, k)) in
    omega (arith, length-append xs ys, most, (list_length n (from_machine pt.view n) (from_one pt.view n) (λ a. list_length n (λ c. (pt.view.pair a c).ids) (ids_of pt.view a) (λ c. refl))))

-- No process has moved more often than messages were routed in all.

-- and one that may restart where it comes has moved less often
pub record MovesFew (n : ℕ) (v : View) : Type 0 where
  pub moves : (p : Pid) → v.moves p ≤ total v n
  pub moving : (p : Pid) (d s k j : ℕ) → v.known d p ≡ Known.Incoming s → v.known s p ≡ Known.Forward k j → v.moves p + 1 ≤ total v n

-- a group that moves nothing
pub moves_still : (n : ℕ) (v w : View) → Grows v w → Still v w → MovesFew n v → MovesFew n w
moves_still n v w g s h =
    let more = total_grows v w n g in
    record {
      moves = λ p. let e = ap (λ (f : Pid → ℕ). f p) s.moves in let few = h.moves p in omega (arith, e, few, more);
      moving = λ p d c k j at_d at_s. let e = ap (λ (f : Pid → ℕ). f p) s.moves in let few = h.moving p d c k j (s.incoming d p c at_d) (s.forward c p k j at_s) in omega (arith, e, few, more);
    }

pub moves_put : (n : ℕ) (v w : View) → total v n + 1 ≤ total w n → w.moves ≡ v.moves → MovesFew n v → MovesFew n w
moves_put n v w more same h = record {
  moves = λ p. let e = ap (λ (f : Pid → ℕ). f p) same in let few = h.moves p in omega (arith, e, few, more);
  moving = λ p d c k j at_d at_s. let e = ap (λ (f : Pid → ℕ). f p) same in let few = h.moves p in omega (arith, e, few, more);
}

-- a process restarts
forward_at : (d : ℕ) (n : Known) → kind_leaves MessageKind.Restart d n ≡ true → (k : ℕ) × (j : ℕ) × (n ≡ Known.Forward k j)
forward_at d n e = grind (arith, nat_tests)

incoming_from : (s : ℕ) (n : Known) → kind_comes MessageKind.Restart s n ≡ true → n ≡ Known.Incoming s
incoming_from s n e = grind (arith, nat_tests)

may_move : (b : Boot) (pt : Point) (m : ℕ) (p : Pid) (n : ℕ) → Run b pt → FrontRestarts pt m p → MovesFew n pt.view → pt.view.moves p + 1 ≤ total pt.view n
may_move b pt m p n run f h =
    let c = is_moved b pt m f.id f.told p run f.told_is (ap is_between f.kind_is) f.about (stands_first pt.view m f.id f.rest f.box) (plainly_due pt.view p f.id f.told (ap (λ (k : MessageKind). is_piece (sort_of k)) f.kind_is)) in
    let (k, j, at_s) = forward_at c.d (pt.view.known c.s p) (ap (λ (x : MessageKind). kind_leaves x c.d (pt.view.known c.s p)) (sym f.kind_is) ∙ c.source) in
    h.moving p c.d c.s k j (incoming_from c.s (pt.view.known c.d p) (ap (λ (x : MessageKind). kind_comes x c.s (pt.view.known c.d p)) (sym f.kind_is) ∙ c.destination)) at_s

rests_alone : (v : View) (m d s : ℕ) (p : Pid) → InPhases v → v.known m p ≡ Known.Here → v.known d p ≡ Known.Incoming s → ⊥
rests_alone v m d s p h here incoming =
    let rests : h.of p ≡ Rests m = rests_here (h.of p) m (sym (ap (knows (h.of p) m) here) ∙ (h.each p).known m) in
    false≢true (sym (either (m == d)) ∙ (sym (ap (λ (f : Phase). knows f d (Known.Incoming s)) rests) ∙ sym (ap (knows (h.of p) d) incoming) ∙ (h.each p).known d))
  where
    either : (c : Bool) → (if c then false else false) ≡ false
    either true = refl
    either false = refl

known_here : (f : ℕ → Pid → Known) (m : ℕ) (p : Pid) → at_record f m p Known.Here m p ≡ Known.Here
known_here f m p = ap (λ (c : Bool). if c then Known.Here else f m p) (let t : ((m == m) && pid_eq p p) ≡ true = grind (arith, nat_tests) in t)

moving_by : (n m : ℕ) (v w : View) (p q : Pid) (d s k j : ℕ) (c : Bool) → pid_eq p q ≡ c → total v n ≤ total w n → w.moves ≡ at_pid v.moves p (v.moves p + 1) → w.known ≡ at_record v.known m p Known.Here → InPhases w → MovesFew n v
    → w.known d q ≡ Known.Incoming s → w.known s q ≡ Known.Forward k j → w.moves q + 1 ≤ total w n
moving_by n m v w p q d s k j true e more moves known phases h at_d at_s =
    absurd (rests_alone w m d s q phases (ap (w.known m) (sym (pid_eq-is p q e)) ∙ ap (λ (f : ℕ → Pid → Known). f m p) known ∙ known_here v.known m p) at_d)
moving_by n m v w p q d s k j false e more moves known phases h at_d at_s = grind (arith, nat_tests)

pub moves_restart : (b : Boot) (pt : Point) (m n : ℕ) (p : Pid) (w : View) → Run b pt → FrontRestarts pt m p → total pt.view n ≤ total w n → w.moves ≡ at_pid pt.view.moves p (pt.view.moves p + 1) → w.known ≡ at_record pt.view.known m p Known.Here → InPhases w → MovesFew n pt.view → MovesFew n w
moves_restart b pt m n p w run f more moves known phases h =
    let v = pt.view in
    let mine = may_move b pt m p n run f h in
    record {
      moves = λ q.
          let few : (if (pid_eq p q) then v.moves p + 1 else v.moves q) ≤ (total v n) = grind (arith, nat_tests, (h.moves q)) in
          omega (arith, ap (λ (g : Pid → ℕ). g q) moves, few, more);
      moving = λ q d s k j at_d at_s. moving_by n m v w p q d s k j (pid_eq p q) refl more moves known phases h at_d at_s;
    }

-- No count is too great at the start.

-- where a run begins
first_of_home : (b : Boot) (m : ℕ) → IsValid b → m < length b.machines → starting_at m b.processes ≤ 64
first_of_home b m valid lt = let k = (room_from b m valid lt).made in omega (arith, k)

starting_one : (m : ℕ) (p : BootProcess) (ps : List BootProcess) → starting_at m ps ≤ starting_at m (p ∷ ps)
starting_one m p ps = omega arith

-- the processes of all machines
all_processes : (b : Boot) (earlier ps : List BootProcess) → processes_are_valid b earlier ps ≡ true → length ps ≤ sum_to (length b.machines) (λ m. starting_at m ps)
all_processes b earlier [] h = omega arith
all_processes b earlier (p ∷ ps) h =
    let k = listed b earlier p ps h in
    let mine : starting_at p.pid.home ps + 1 ≤ starting_at p.pid.home (p ∷ ps) = (let e : (p.pid.home == p.pid.home) ≡ true = grind (arith, nat_tests) in let f : one_if (p.pid.home == p.pid.home) ≡ 1 = ap one_if e in omega (arith, f)) in
    omega (arith, all_processes b (earlier ++ p ∷ []) ps k.rest, (sum_more (length b.machines) (λ m. starting_at m ps) (λ m. starting_at m (p ∷ ps)) p.pid.home (λ m. starting_one m p ps) k.home mine))

sum_within : (n k : ℕ) (f : ℕ → ℕ) → n ≤ k → ((i : ℕ) → i < k → f i ≤ 64) → sum_to n f ≤ n * 64
sum_within zero k f le h = omega arith
sum_within (suc n) k f le h = let r = sum_within n k f (omega (arith, le)) h in let one = h n (omega (arith, le)) in omega (arith, r, one)

starting_few : (m : ℕ) (ps : List BootProcess) → starting_at m ps ≤ length ps
starting_few m [] = omega arith
starting_few m (p ∷ ps) = let h = starting_few m ps in one_few (p.pid.home == m) (starting_at m ps) (length ps) h
  where
    one_few : (c : Bool) (k n : ℕ) → k ≤ n → (if c then 1 else 0) + k ≤ suc n
    one_few true k n le = omega (arith, le)
    one_few false k n le = omega (arith, le)

none_sent : (b : Boot) (ps : List BootProcess) (p : Pid) → sent_of (life_at b ps p) ≡ 0
none_sent b [] p = refl
none_sent b (q ∷ qs) p = by (pid_eq q.pid p) (slice_get b.images q.image) (none_sent b qs p)
  where
    by : (c : Bool) (o : Option BootImage) → sent_of (life_at b qs p) ≡ 0 → sent_of (if c then option_map (λ image. Alive (begun b.format image (map plain_link q.links))) o else life_at b qs p) ≡ 0
    by true None e = refl
    by true (Some i) e = refl
    by false o e = e

children_few : (ps : List BootProcess) → length (map (λ (p : BootProcess). p.pid) ps) ≡ length ps
children_few [] = refl
children_few (p ∷ ps) = let h = children_few ps in omega (arith, h)

-- 16 machines have at most 64 processes each
abbrev pub first_count : ℕ
first_count = 1024

pub under_start : (b : Boot) (n : ℕ) → IsValid b → Under (first_count + total (first_view b) n) (first_point b).kernel
under_start b n valid =
    let few : length b.processes ≤ 1024 = grind (arith, nat_tests, all_processes, sum_within, first_of_home, few_machines) in
    let children = children_few b.processes in
    record {
      sent = λ p. let e = none_sent b b.processes p in omega (arith, e);
      board = omega arith;
      manager = omega arith;
      children = omega (arith, few, children);
      made = λ h. let k = starting_few h b.processes in omega (arith, few, k);
      names = omega arith;
    }

-- nothing comes at first
abbrev comes_now : Known → Bool
comes_now (Known.Incoming from) = true
comes_now _ = false

none_comes : (ps : List BootProcess) (m : ℕ) (q : Pid) → comes_now (known_at ps m q) ≡ false
none_comes [] m q = grind (arith, nat_tests)
none_comes (p ∷ ps) m q = grind (arith, nat_tests, (none_comes ps m q))

pub moves_start : (b : Boot) (n : ℕ) → MovesFew n (first_view b)
moves_start b n = record {
  moves = λ p. omega arith;
  moving = λ p d s k j at_d at_s. absurd (false≢true (sym (none_comes b.processes d p) ∙ ap comes_now at_d));
}
