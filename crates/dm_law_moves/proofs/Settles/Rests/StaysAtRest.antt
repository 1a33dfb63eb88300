-- Where all is at rest nothing comes of a directive, but of one to move a process.
use Rattle.dm_law_moves.proofs.Names.{Bool, ◌≡◌, ◌≢◌, ℕ, zero, suc, ◌+◌, ◌-◌, ◌<◌, ◌≤◌, ◌==◌, ◌&&◌, true, false, nat_lt, List, [], ◌∷◌, ◌++◌, length, refl, ap, ◌∙◌, sym, subst, arith, if◌then◌else◌, slice_get, Option, None, Some}
use Rattle.dm_law_moves.proofs.Names.{false≢true, nat_tests, Pid, MsgId, Boot, Step, Line, Load, Leads, Point, first_point, moved, after_line, bind, behind, Part, Says, Transmits, Spelled, spelled, packet_line, group_of, outcome, turns}
use Rattle.dm_law_moves.proofs.Names.{at_least, calls_off, comes, arrives, less, less-left, marked, numbers_from, outstanding_count, pair_window, repeats, resends, takes_on, kept_from, sum_below, at_pair, set_is, set_other, two_of}
use Rattle.dm_law_moves.proofs.Names.{Addresses, Pair, SentLoad, View, Known, is_moving, IsQuiet, PairStands, pairs_stand_always, AtRest, IsAtRest, first_runnable, goes_round, BringsNothing, RestLasts}
use Rattle.dm_law_moves.proofs.At.Always.{at_rest_always}
use Rattle.dm_law_moves.proofs.Promise.Finds.{leads_append}
use Rattle.dm_law_moves.proofs.Names.{StaysAtRest, StaysSo, delivery_brings, packet_brings, eqb-false, lt-ltb}
use Rattle.dm_law_moves.proofs.Settles.Rests.RestsPairs.{acknowledged, repeated}

-- a pair that is as it was, but for its packets
pub record Same (p q : Pair) : Type 0 where
  pub ids : q.ids ≡ p.ids
  pub taken : q.taken ≡ p.taken
  pub acked : q.acked ≡ p.acked

abbrev AllSame : (ℕ → ℕ → Pair) → (ℕ → ℕ → Pair) → Type 0
AllSame f g = (a c : ℕ) → Same (f a c) (g a c)

same_pair : (p : Pair) → Same p p
same_pair p = record { ids = refl; taken = refl; acked = refl }

all_same : (f : ℕ → ℕ → Pair) → AllSame f f
all_same f a c = same_pair (f a c)

set_one : (f g : ℕ → ℕ → Pair) (a c : ℕ) (p : Pair) → Same (f a c) p → AllSame f g → AllSame f (at_pair g a c p)
set_one f g a c p one all x y = by ((a == x) && (c == y)) refl
  where
    by : (o : Bool) → ((a == x) && (c == y)) ≡ o → Same (f x y) (at_pair g a c p x y)
    by true e =
        let k = two_of a c x y e in
        let here : Same (f x y) p = subst (λ (n : ℕ). Same (f n y) p) k.0 (subst (λ (n : ℕ). Same (f a n) p) k.1 one) in
        subst (Same (f x y)) (sym (set_is g a c p x y e)) here
    by false e = subst (Same (f x y)) (sym (set_other g a c p x y e)) (all x y)

stays_quiet : (n : ℕ) (v u : View) → AllSame v.pair u.pair → u.inbox ≡ v.inbox → IsQuiet n v → IsQuiet n u
stays_quiet n v u same inbox quiet = record {
  taken = λ a c i j. (same a c).taken ∙ quiet.taken a c i j ∙ ap length (sym (same a c).ids);
  acked = λ a c i j apart. (same a c).acked ∙ quiet.acked a c i j apart ∙ ap length (sym (same a c).ids);
  inbox = λ m i. ap (λ (f : ℕ → List MsgId). f m) inbox ∙ quiet.inbox m i;
}

-- a group, where what follows its head is known
group_by : (b : Boot) (pt : Point) (e : Step) (ps : List Part) → outcome b pt e ≡ Some ps → group_of b pt e ≡ bind (spelled (moved pt (Line.Head e) pt.kernel) ps) (λ w. Some (behind (Line.Head e ∷ []) w))
group_by b pt e ps is = ap (λ (o : Option (List Part)). bind o (λ parts. bind (after_line pt (Line.Head e)) (λ begun. bind (spelled begun parts) (λ w. Some (behind (Line.Head e ∷ []) w))))) is

abbrev begun : Point → Step → Point
begun pt e = moved pt (Line.Head e) pt.kernel

-- a sum and lists of nothing
sum_none : (f : ℕ → ℕ) (n : ℕ) → ((j : ℕ) → j < n → f j ≡ 0) → sum_below f n ≡ 0
sum_none f zero each = refl
sum_none f (suc n) each =
    let first = sum_none f n (λ j i. each j (omega (arith, i))) in
    let last = each n (omega arith) in
    omega (arith, first, last)

none_out : (same : Bool) (k : ℕ) → (same ≡ false → k ≡ 0) → (if same then 0 else k) ≡ 0
none_out true k none = refl
none_out false k none = none refl

none_again : (m j from k : ℕ) (same : Bool) → (same ≡ false → k ≡ 0) → (if same then [] else repeats m j (numbers_from from k)) ≡ []
none_again m j from k true none = refl
none_again m j from k false none = ap (λ (d : ℕ). repeats m j (numbers_from from d)) (none refl)

none_resent : (v : View) (m n : ℕ) → ((j : ℕ) → j < n → (m == j) ≡ false → (v.pair m j).gone - (v.pair m j).acked ≡ 0) → resends v m n ≡ []
none_resent v m zero each = refl
none_resent v m (suc n) each =
    let p = v.pair m n in
    let last = if m == n then [] else repeats m n (numbers_from p.acked (p.gone - p.acked)) in
    ap (λ (ps : List Part). ps ++ last) (none_resent v m n (λ j i. each j (omega (arith, i))))
    ∙ none_again m n p.acked (p.gone - p.acked) (m == n) (each n (omega arith))

-- of a calling off
no_call : (pt : Point) (m : ℕ) (p : Pid) (k : Known) → is_moving k ≡ false → calls_off pt m p k ≡ Says (Line.NoCall p) ∷ []
no_call pt m p (Known.Incoming from) e = absurd (false≢true (sym e))
no_call pt m p _ e = refl

-- of a packet
no_more : (m n : ℕ) → n ≤ m → at_least m n ≡ m
no_more m n h = grind (arith, nat_tests)

not_back : (a c : ℕ) → a ≢ c → ((a == c) && (c == a)) ≡ false
not_back a c apart = grind (arith, nat_tests)

comes_old : (a c n : ℕ) (p q : Pair) → n < p.taken → comes a c p q (Load.Data n) ≡ Says (Line.Old a c n) ∷ Transmits c a (Load.Ack p.taken) ∷ []
comes_old a c n p q h =
    let old = Says (Line.Old a c n) ∷ Transmits c a (Load.Ack p.taken) ∷ [] in
    let early = Says (Line.Early a c n) ∷ Transmits c a (Load.Ack p.taken) ∷ [] in
    let next = takes_on a c n (kept_from p.kept (n + 1) pair_window) in
    ap (λ (o : Bool). if o then old else if nat_lt p.taken n then early else next) (lt-ltb n p.taken h)

comes_acked : (a c n : ℕ) (p q : Pair) → length q.ids ≤ q.gone → comes a c p q (Load.Ack n) ≡ Says (Line.Acked a c n) ∷ []
comes_acked a c n p q all =
    let top = at_least q.acked n in
    let least = less-left (length q.ids - q.gone) (top + pair_window - q.gone) in
    let none : less (length q.ids - q.gone) (top + pair_window - q.gone) ≡ 0 = omega (arith, least, all) in
    ap (λ (d : ℕ). Says (Line.Acked a c n) ∷ repeats c a (numbers_from q.gone d)) none

-- at a point where all is at rest
module _ (b : Boot) (es : List Step) (pt : Point) (leads : Leads b (first_point b) es pt) (rest : IsAtRest pt.kernel.machines pt) where
  as_was : (u : View) (a : Addresses) → u.known ≡ pt.view.known → u.queue ≡ pt.view.queue → u.ring ≡ pt.view.ring → u.inbox ≡ pt.view.inbox → AllSame pt.view.pair u.pair → StaysSo pt (record { kernel = pt.kernel; view = u; addresses = a })
  as_was u a known queue ring inbox same = record {
    kernel = refl;
    known = known;
    queue = queue;
    rest = record {
      quiet = stays_quiet pt.kernel.machines pt.view u same inbox rest.quiet;
      served = λ m i.
          ap (λ (q : ℕ → Pid → List MsgId). first_runnable pt.kernel (q m) (u.ring m)) queue
          ∙ ap (λ (r : ℕ → List Pid). first_runnable pt.kernel (pt.view.queue m) (r m)) ring
          ∙ rest.served m i;
    };
  }

  turn_brings : (m : ℕ) → m < pt.kernel.machines → BringsNothing b pt (Step.Turn m)
  turn_brings m i =
      let e = Step.Turn m in
      let l = Line.Idle m in
      let end = moved (begun pt e) l pt.kernel in
      record {
        group = record { lines = Line.Head e ∷ l ∷ []; point = end };
        is = group_by b pt e (Says l ∷ []) (ap (turns b pt m) (rest.quiet.inbox m i) ∙ ap (goes_round b pt m) (rest.served m i));
        says = refl;
        stays = as_was end.view end.addresses refl refl refl refl (all_same pt.view.pair);
      }

  stands : (a c : ℕ) → a ≢ c → PairStands (pt.view.pair a c) (pt.view.pair c a)
  stands a c apart = (pairs_stand_always b es pt a c leads apart).0

  all_acked : (m j : ℕ) → m < pt.kernel.machines → j < pt.kernel.machines → (m == j) ≡ false → (pt.view.pair m j).gone - (pt.view.pair m j).acked ≡ 0
  all_acked m j here there off =
      let apart = eqb-false m j off in
      let within = (stands m j apart).gone in
      let acked = rest.quiet.acked m j here there apart in
      omega (arith, within, acked)

  tick_brings : (m : ℕ) → m < pt.kernel.machines → BringsNothing b pt (Step.Tick m)
  tick_brings m i =
      let n = pt.kernel.machines in
      let e = Step.Tick m in
      let l = Line.Resent m 0 in
      let end = moved (begun pt e) l pt.kernel in
      let each = λ (j : ℕ) (k : j < n) (off : (m == j) ≡ false). all_acked m j i k off in
      let count : outstanding_count pt.view m n ≡ 0 = sum_none (λ j. if m == j then 0 else (pt.view.pair m j).gone - (pt.view.pair m j).acked) n (λ j k. none_out (m == j) ((pt.view.pair m j).gone - (pt.view.pair m j).acked) (each j k)) in
      let none : resends pt.view m n ≡ [] = none_resent pt.view m n each in
      record {
        group = record { lines = Line.Head e ∷ l ∷ []; point = end };
        is = group_by b pt e (Says l ∷ []) (ap (λ (k : ℕ). Some (Says (Line.Resent m k) ∷ resends pt.view m n)) count ∙ ap (λ (ps : List Part). Some (Says l ∷ ps)) none);
        says = refl;
        stays = as_was end.view end.addresses refl refl refl refl (all_same pt.view.pair);
      }

  call_brings : (p : Pid) (m : ℕ) → AtRest pt → BringsNothing b pt (Step.CallOff p m)
  call_brings p m still =
      let e = Step.CallOff p m in
      let l = Line.NoCall p in
      let end = moved (begun pt e) l pt.kernel in
      record {
        group = record { lines = Line.Head e ∷ l ∷ []; point = end };
        is = group_by b pt e (Says l ∷ []) (ap Some (no_call pt m p (pt.view.known m p) (still.still m p)));
        says = refl;
        stays = as_was end.view end.addresses refl refl refl refl (all_same pt.view.pair);
      }

  -- a delivery marks a packet
  abbrev marks : ℕ → ℕ → ℕ → ℕ → ℕ → Pair
  marks a c k = at_pair pt.view.pair a c (marked (pt.view.pair a c) k)

  marks_same : (a c k : ℕ) → AllSame pt.view.pair (marks a c k)
  marks_same a c k = set_one pt.view.pair pt.view.pair a c (marked (pt.view.pair a c) k) (record { ids = refl; taken = refl; acked = refl }) (all_same pt.view.pair)

  nothing_brings : (a c k : ℕ) → slice_get (pt.view.pair a c).wire k ≡ None → BringsNothing b pt (Step.Deliver a c k)
  nothing_brings a c k found =
      let e = Step.Deliver a c k in
      let l = Line.Nothing in
      let end = moved (begun pt e) l pt.kernel in
      record {
        group = record { lines = Line.Head e ∷ l ∷ []; point = end };
        is = group_by b pt e (Says l ∷ []) (ap (λ (o : Option SentLoad). Some (arrives a c (pt.view.pair a c) (pt.view.pair c a) o)) found);
        says = sym (ap (λ (o : Option SentLoad). Line.Head e ∷ delivery_brings pt.view a c o) found);
        stays = as_was end.view end.addresses refl refl refl refl (marks_same a c k);
      }

  -- what follows the head of a packet's delivery, by what it carries
  carried : (a c k : ℕ) (s : SentLoad) (l : Load) → slice_get (pt.view.pair a c).wire k ≡ Some s → s.load ≡ l → outcome b pt (Step.Deliver a c k) ≡ Some (comes a c (pt.view.pair a c) (pt.view.pair c a) l)
  carried a c k s l found carries =
      ap (λ (o : Option SentLoad). Some (arrives a c (pt.view.pair a c) (pt.view.pair c a) o)) found ∙ ap (λ (x : Load). Some (comes a c (pt.view.pair a c) (pt.view.pair c a) x)) carries

  said : (a c k : ℕ) (s : SentLoad) (l : Load) → slice_get (pt.view.pair a c).wire k ≡ Some s → s.load ≡ l → packet_brings pt.view a c l ≡ delivery_brings pt.view a c (slice_get (pt.view.pair a c).wire k)
  said a c k s l found carries = ap (packet_brings pt.view a c) (sym carries) ∙ sym (ap (delivery_brings pt.view a c) found)

  data_brings : (a c k n : ℕ) (s : SentLoad) → a < pt.kernel.machines → c < pt.kernel.machines → a ≢ c → slice_get (pt.view.pair a c).wire k ≡ Some s → s.load ≡ Load.Data n → BringsNothing b pt (Step.Deliver a c k)
  data_brings a c k n s i j apart found carries =
      let p = pt.view.pair a c in
      let q = pt.view.pair c a in
      let e = Step.Deliver a c k in
      let old = Line.Old a c n in
      let ack = Load.Ack p.taken in
      let first = moved (begun pt e) old pt.kernel in
      let packet = packet_line first.view c a ack in
      let end = moved first packet pt.kernel in
      let all = rest.quiet.taken a c i j in
      let within = (stands a c apart).gone in
      let out = (stands a c apart).out k n s found carries in
      let taken : n < p.taken = omega (arith, out, within, all) in
      let back : marks a c k c a ≡ q = set_other pt.view.pair a c (marked p k) c a (not_back a c apart) in
      let same = marks_same a c k in
      record {
        group = record { lines = Line.Head e ∷ old ∷ packet ∷ []; point = end };
        is = group_by b pt e (Says old ∷ Transmits c a ack ∷ []) (carried a c k s (Load.Data n) found carries ∙ ap Some (comes_old a c n p q taken));
        says = ap (λ (x : Pair). Line.Head e ∷ old ∷ Line.Packet c a (length x.wire) ack ∷ []) back ∙ ap (λ (ls : List Line). Line.Head e ∷ ls) (said a c k s (Load.Data n) found carries);
        stays = as_was end.view end.addresses refl refl refl refl
            (set_one pt.view.pair (marks a c k) c a (repeated ack (marks a c k c a)) (record { ids = (same c a).ids; taken = (same c a).taken; acked = (same c a).acked }) same);
      }

  ack_brings : (a c k n : ℕ) (s : SentLoad) → a < pt.kernel.machines → c < pt.kernel.machines → a ≢ c → slice_get (pt.view.pair a c).wire k ≡ Some s → s.load ≡ Load.Ack n → BringsNothing b pt (Step.Deliver a c k)
  ack_brings a c k n s i j apart found carries =
      let p = pt.view.pair a c in
      let q = pt.view.pair c a in
      let e = Step.Deliver a c k in
      let l = Line.Acked a c n in
      let end = moved (begun pt e) l pt.kernel in
      let other : c ≢ a = λ x. apart (sym x) in
      let taken = rest.quiet.taken c a j i in
      let acked = rest.quiet.acked c a j i other in
      let gone = (stands c a other).taken in
      let counted = (stands a c apart).counted k n s found carries in
      let all : length q.ids ≤ q.gone = omega (arith, taken, gone) in
      let few : n ≤ q.acked = omega (arith, counted, taken, acked) in
      let same = marks_same a c k in
      record {
        group = record { lines = Line.Head e ∷ l ∷ []; point = end };
        is = group_by b pt e (Says l ∷ []) (carried a c k s (Load.Ack n) found carries ∙ ap Some (comes_acked a c n p q all));
        says = ap (λ (ls : List Line). Line.Head e ∷ ls) (said a c k s (Load.Ack n) found carries);
        stays = as_was end.view end.addresses refl refl refl refl
            (set_one pt.view.pair (marks a c k) c a (acknowledged n (marks a c k c a))
            (record { ids = (same c a).ids; taken = (same c a).taken; acked = ap (λ (x : ℕ). at_least x n) (same c a).acked ∙ no_more q.acked n few }) same);
      }

  packet_comes : (a c k : ℕ) (s : SentLoad) (l : Load) → a < pt.kernel.machines → c < pt.kernel.machines → a ≢ c → slice_get (pt.view.pair a c).wire k ≡ Some s → s.load ≡ l → BringsNothing b pt (Step.Deliver a c k)
  packet_comes a c k s (Load.Data n) i j apart found carries = data_brings a c k n s i j apart found carries
  packet_comes a c k s (Load.Ack n) i j apart found carries = ack_brings a c k n s i j apart found carries

  deliver_brings : (a c k : ℕ) (o : Option SentLoad) → a < pt.kernel.machines → c < pt.kernel.machines → a ≢ c → slice_get (pt.view.pair a c).wire k ≡ o → BringsNothing b pt (Step.Deliver a c k)
  deliver_brings a c k None i j apart found = nothing_brings a c k found
  deliver_brings a c k (Some s) i j apart found = packet_comes a c k s s.load i j apart found refl

pub stays_at_rest : StaysAtRest
stays_at_rest b es pt (Step.Turn m) valid leads rest fit still = turn_brings b es pt leads rest m fit
stays_at_rest b es pt (Step.Tick m) valid leads rest fit still = tick_brings b es pt leads rest m fit
stays_at_rest b es pt (Step.Deliver a c k) valid leads rest fit still = deliver_brings b es pt leads rest a c k (slice_get (pt.view.pair a c).wire k) fit.0 fit.1 fit.2 refl
stays_at_rest b es pt (Step.Migrate p m) valid leads rest fit still = absurd still
stays_at_rest b es pt (Step.CallOff p m) valid leads rest fit still = call_brings b es pt leads rest p m (at_rest_always b es pt valid leads rest.quiet)

-- so whatever comes then
stays_same : (pt mid end : Point) → StaysSo pt mid → StaysSo mid end → StaysSo pt end
stays_same pt mid end first later = record { kernel = later.kernel ∙ first.kernel; known = later.known ∙ first.known; queue = later.queue ∙ first.queue; rest = later.rest }

-- the group of a directive is the one that it has
one_group : (b : Boot) (pt : Point) (e : Step) (w : Spelled) → group_of b pt e ≡ Some w → BringsNothing b pt e → StaysSo pt w.point
one_group b pt e w is brings =
    let same : Some brings.group ≡ Some w = sym brings.is ∙ is in
    let group : brings.group ≡ w = cc in
    subst (λ (x : Spelled). StaysSo pt x.point) group brings.stays

pub rest_lasts : RestLasts
rest_lasts b es [] pt end valid leads rest still goes = subst (StaysSo pt) goes (record { kernel = refl; known = refl; queue = refl; rest = rest })
rest_lasts b es (d ∷ ds) pt end valid leads rest still (w, fit, is, more) =
    let first = one_group b pt d w is (stays_at_rest b es pt d valid leads rest fit still.0) in
    let on = leads_append b es (d ∷ []) (first_point b) pt w.point leads (w, fit, is, refl) in
    stays_same pt w.point end first (rest_lasts b (es ++ d ∷ []) ds w.point end valid on first.rest still.1 more)
