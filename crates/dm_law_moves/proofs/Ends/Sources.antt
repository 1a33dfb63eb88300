-- Messages come only from machines that there are; and what was told stays.
use Rattle.dm_law_moves.proofs.Names.{◌≡◌, ℕ, ◌<◌, ◌≤◌, ◌==◌, Bool, true, false, List, [], refl, ◌∙◌, subst, arith, Option, Some, Pid, MsgId, MessageKind, Boot, Step, id_eq-is, Line, at_pair, IsStep, View, Pair, Told, view_after, after_head}
use Rattle.dm_law_moves.proofs.Names.{after_put, Point, Part, Spelled, spelled, group_of, group_is, IsNetLine, is_put, eq_is, touches, pair_same, taken_pair, put_at, PacketsKeep, put_told_off, begun, nat_tests, moved, About, ◌⊎◌, ◌∷◌, ◌++◌}
use Rattle.dm_law_moves.proofs.Names.{ap, sym, inl, inr, if◌then◌else◌, None, cases_Bool, id_eq, id_eq-same, at_machine, at_record, Here, handled, handled_first, held_for, receiver_of, released, with_ring, knowing, Again, sends_on, Spot}
use Rattle.dm_law_moves.proofs.Names.{Queue, Held, Inbox, Untaken, times, ids_at, standing, at_record_at, parts, eq_self, fits_put, fits_packet, one_of, handled_spots, held_spots, put_spots, put_there, put_spot, times-append, PairsFit, Sane}
use Rattle.dm_law_moves.proofs.Names.{part_sane, pid_eq-is, last_there, fewer_record, Within, line_within, none_some}
pub use Rattle.dm_law_rule.proofs.Moves.States.{again_told}
use Rattle.dm_law_rule.specs.View as view
use Rattle.dm_law_moves.proofs.Ends.Parts.{first_kept, Extends, told_by, packet_smooth, part_count, Somewhere, Smooth, Plain, smooth_trans, smooth_still, stands_as, stands_was, other_than as other_front}
use Rattle.dm_law_moves.proofs.Leading.{All, Behind, whatever_put, parts_lead, Saying, outcome_says, next_of, part_leads}
use Rattle.dm_law_moves.proofs.Ends.Open.{front_one, first_spots, zero_cases}

-- nothing was routed from another machine
abbrev pub Sources : ℕ → View → Type 0
Sources n v = (a b : ℕ) → n ≤ a → (v.pair a b).ids ≡ []

-- a pair that keeps what was routed
pair_ids : (f : ℕ → ℕ → Pair) (a b : ℕ) (p : Pair) → p.ids ≡ (f a b).ids → (c d : ℕ) → (at_pair f a b p c d).ids ≡ (f c d).ids
pair_ids f a b p e c d = grind (arith, nat_tests, eq_is)

pub head_ids : (v : View) (d : Step) (a b : ℕ) → ((after_head v d).pair a b).ids ≡ (v.pair a b).ids
head_ids v d a b = grind (arith, nat_tests, pair_ids)

pub line_ids : (v : View) (l : Line) → is_put l ≡ false → (a b : ℕ) → ((view_after v l).pair a b).ids ≡ (v.pair a b).ids
line_ids v l e a b = grind (arith, nat_tests, head_ids, pair_ids, taken_pair, pair_same)

-- no line but a head sets the machine that acts
abbrev is_head : Line → Bool
is_head (Line.Head d) = true
is_head l = false

-- what stands between the lines of a group
pub record Acts (n : ℕ) (f : MsgId → Option Told) (v : View) : Type 0 where
  pub acting : v.acting < n
  pub sources : Sources n v
  pub grows : Extends f v.told

line_acts : (n : ℕ) (f : MsgId → Option Told) (v : View) (l : Line) → is_head l ≡ false → is_put l ≡ false → Acts n f v → Acts n f (view_after v l)
line_acts n f v l head quiet h = grind (arith, nat_tests, line_ids, told_by)

-- parts
abbrev IsSaid : Line → Type 0
IsSaid l = (is_head l ≡ false) × (is_put l ≡ false)

abbrev Goes : Part → Type 0
Goes = Saying IsSaid

acts_behind : (n : ℕ) (f : MsgId → Option Told) (pt : Point) (p : Part) → Goes p → Acts n f pt.view → Behind (λ q. Acts n f q.view) pt p
acts_behind n f pt p ok h =
    let put_acts : (n : ℕ) (f : MsgId → Option Told) (v : View) (b : ℕ) (i : MsgId) (k : MessageKind) (q : Pid) → Acts n f v → Acts n f (after_put v v.acting b i k q) = λ n f v b i k q h.
    let put_grows : (v : View) (a b : ℕ) (i : MsgId) (k : MessageKind) (q : Pid) → Extends v.told (after_put v a b i k q).told = λ v a b i k q j t e. grind (arith, nat_tests, id_eq-is, put_at, first_kept, put_told_off) in
    let other_source : (a c n : ℕ) → a < n → n ≤ c → (a == c) ≡ false = λ a c n less le. grind (arith, nat_tests, eq_is) in grind (arith, nat_tests, other_source, put_grows) in
    let acts_about : (n : ℕ) (f : MsgId → Option Told) (v : View) (a : About) → Acts n f v → Acts n f (view.about v a) = λ n f v a h. record { acting = h.acting; sources = h.sources; grows = h.grows } in
    whatever_put (λ q. Acts n f q.view) pt p (λ l is s step. let k = subst Goes is ok in acts_about n f (view_after pt.view l) (moved pt l s).view.topic (line_acts n f pt.view l k.0 k.1 h)) (λ b i k q. put_acts n f pt.view b i k q h) h

-- each group
pub group_acts : (n : ℕ) (b : Boot) (pt : Point) (d : Step) (w : Spelled) → IsStep n d → Within n pt.view → group_of b pt d ≡ Some w → Sources n pt.view → Acts n pt.view.told w.point.view
group_acts n b pt d w fit within e h =
    -- what the parts of a group are
    let net_goes : (l : Line) → IsNetLine l → (is_head l ≡ false) × (is_put l ≡ false) = λ l e. grind (arith, nat_tests) in
    let fit_goes : (l : Line) → touches l ≡ false → (is_head l ≡ false) × (is_put l ≡ false) = λ l e. grind (arith, nat_tests) in
    let g = group_is b pt d w e in
    let start : Acts n pt.view.told (begun pt d).view = record { acting = (line_within n pt.view (Line.Head d) fit within).acting; sources = λ x y le. head_ids pt.view d x y ∙ h x y le; grows = λ i t told. told_by pt.view (Line.Head d) refl i ∙ told } in
    let parts_act : (n : ℕ) (f : MsgId → Option Told) (ps : List Part) (pt : Point) (w : Spelled) → All Goes ps → spelled pt ps ≡ Some w → Acts n f pt.view → Acts n f w.point.view =
    λ n f. parts_lead (λ q. Acts n f q.view) (λ q a b k l h. line_acts n f q.view (Line.Packet a b k l) refl refl h) Goes (acts_behind n f) in
    subst (λ (q : Point). Acts n pt.view.told q.view) g.point (parts_act n pt.view.told g.parts (begun pt d) g.rest (outcome_says IsSaid fit_goes net_goes b pt d g.parts g.is) g.said start)

-- Messages that go on, those that are held, and those that come back from a held list: all stand somewhere again.

-- one message stands elsewhere, and the others where they stood
pub smooth_moves : (picks : Told → Bool) (v w : View) (i : MsgId) → ((j : MsgId) → w.told j ≡ v.told j) → Somewhere v i → Somewhere w i → ((j : MsgId) → id_eq i j ≡ false → (z : Spot) → standing w j z ≡ standing v j z) → Smooth picks v w
smooth_moves picks v w i told was now spots = record {
  kept = λ j t e. told j ∙ e;
  fresh = λ j t e a. sym (told j) ∙ e;
  on = λ j t e a s. elim (cases_Bool (id_eq i j)) [
    | inl same ↦ subst (λ (x : MsgId). Somewhere w x) (id_eq-is i j same) now
    | inr apart ↦ stands_as v w j (spots j apart) s
  ];
  back = λ j t e a s. elim (cases_Bool (id_eq i j)) [
    | inl same ↦ subst (λ (x : MsgId). Somewhere v x) (id_eq-is i j same) was
    | inr apart ↦ stands_was v w j (spots j apart) s
  ];
}

held_there : (v : View) (i : MsgId) (o : Option Pid) (q : Pid) → o ≡ Some q → Somewhere (held_for v i o) i
held_there v i None q e = none_some q e
held_there v i (Some r) q e = (Held v.acting r, subst (λ n. 1 ≤ n) (sym (ap (times i) (at_record_at v.held v.acting r (v.held v.acting r ++ i ∷ [])))) (last_there i (v.held v.acting r)))

pub held_smooth : (picks : Told → Bool) (v : View) (i : MsgId) (is : List MsgId) (t : Told) → v.inbox v.acting ≡ i ∷ is → v.told i ≡ Some t → Smooth picks v (view_after v (Line.Held i))
held_smooth picks v i is t front told =
    let o = receiver_of (v.told i) in
    smooth_moves picks v (view_after v (Line.Held i)) i (told_by v (Line.Held i) refl) (Inbox v.acting, front_one v v.acting i is front) (held_there (handled v i) i o t.receiver (ap receiver_of told))
    (λ j e z. held_spots (handled v i) i j o e z ∙ handled_spots v i j e z)

-- messages on the way from their lists to their puts
pub record Sending (picks : Told → Bool) (v : View) (js : List MsgId) (w : View) : Type 0 where
  pub told : (i : MsgId) → w.told i ≡ v.told i
  pub on : (i : MsgId) (t : Told) → v.told i ≡ Some t → picks t ≡ true → Somewhere v i → Somewhere w i ⊎ (1 ≤ times i js)
  pub back : (i : MsgId) (t : Told) → v.told i ≡ Some t → picks t ≡ true → Somewhere w i → Somewhere v i
  pub from : (i : MsgId) (t : Told) → v.told i ≡ Some t → picks t ≡ true → 1 ≤ times i js → Somewhere v i
  pub known : (m : ℕ) (q : Pid) → w.known m q ≡ v.known m q
  pub fits : PairsFit w
  pub acting : w.acting ≡ v.acting

pub sending_put : (picks : Told → Bool) (v : View) (j : MsgId) (js : List MsgId) (w : View) (b : ℕ) (u : Told) → w.told j ≡ Some u → Sending picks v (j ∷ js) w → Sending picks v js (after_put w w.acting b j u.kind u.receiver)
sending_put picks v j js w b u told h =
    let n = after_put w w.acting b j u.kind u.receiver in
    let same = again_told w w.acting b j u told in
    let spots : (i : MsgId) → id_eq j i ≡ false → (z : Spot) → standing n i z ≡ standing w i z = λ i e z. put_spots w w.acting b j i u.kind u.receiver h.fits e z in
    let there : Somewhere n j = (put_spot w.acting b, put_there w w.acting b j u.kind u.receiver h.fits) in
    let first : one_of j j ≡ 1 = ap (λ (c : Bool). if c then 1 else 0) (id_eq-same j) in
    record {
      told = λ i. same i ∙ h.told i;
      on = λ i t e c st. elim (cases_Bool (id_eq i j)) [
        | inl is ↦ inl (subst (λ (x : MsgId). Somewhere n x) (sym (id_eq-is i j is)) there)
        | inr apart ↦ elim (h.on i t e c st) [
          | inl x ↦ grind (arith, nat_tests, id_eq-is, stands_as)
          | inr x ↦ let none : one_of i j ≡ 0 = ap (λ (c : Bool). if c then 1 else 0) apart in inr (omega (arith, x, none))
        ]
      ];
      back = λ i t e c st. elim (cases_Bool (id_eq j i)) [
        | inl is ↦
            let ji : j ≡ i = id_eq-is j i is in
            let listed : 1 ≤ times i (j ∷ js) = subst (λ (x : MsgId). 1 ≤ times x (j ∷ js)) ji (omega (arith, first)) in
            h.from i t e c listed
        | inr off ↦ h.back i t e c (stands_was w n i (spots i off) st)
      ];
      from = λ i t e c least. h.from i t e c (omega (arith, least));
      known = h.known;
      fits = fits_put w w.acting b j u.kind u.receiver h.fits;
      acting = h.acting;
    }

-- all are put again
pub record Sent (picks : Told → Bool) (v : View) (ps : List Part) (w : Spelled) : Type 0 where
  pub next : Point
  pub sending : Sending picks v [] next.view
  pub sane : Sane next
  pub rest : Spelled
  pub more : spelled next ps ≡ Some rest
  pub point : rest.point ≡ w.point

pub all_sent : (picks : Told → Bool) (v : View) (js : List MsgId) (b : ℕ) (ps : List Part) (pt : Point) (w : Spelled) → Sending picks v js pt.view → Sane pt → spelled pt (sends_on b js ++ ps) ≡ Some w → Sent picks v ps w
all_sent picks v [] b ps pt w h sane e = record { next = pt; sending = h; sane = sane; rest = w; more = e; point = refl }
all_sent picks v (j ∷ js) b ps pt w h sane e =
    let sending_packet : (picks : Told → Bool) (v : View) (js : List MsgId) → PacketsKeep (λ q. Sending picks v js q.view) = λ picks v js q a b k l h.
    let c = packet_smooth picks q.view a b k l in
    record {
      told = h.told;
      on = λ i t e y s. elim (h.on i t e y s) [ inl x ↦ inl (c.on i t (h.told i ∙ e) y x) | inr x ↦ inr x ];
      back = λ i t e y s. h.back i t e y (c.back i t (h.told i ∙ e) y s);
      from = h.from;
      known = h.known;
      fits = fits_packet q.view a b k l h.fits;
      acting = h.acting;
    } in
    let n = next_of pt (Again j b) (sends_on b js ++ ps) w e in
    let step = part_leads (λ (q : Point). Sending picks v js q.view) (sending_packet picks v js) pt n.next (Again j b) (λ t there. sending_put picks v j js pt.view b t there h) n.steps in
    let r = all_sent picks v js b ps n.next n.rest step (part_sane pt n.next (Again j b) n.steps.lines tt n.steps.are n.steps.leads sane) n.more in
    record { next = r.next; sending = r.sending; sane = r.sane; rest = r.rest; more = r.more; point = ◌∙◌ {a = r.rest.point} r.point n.point }

pub sent_smooth : (picks : Told → Bool) (v w : View) → Sending picks v [] w → Smooth picks v w
sent_smooth picks v w h = grind (arith, nat_tests)

pub sends_count : (f : Line → Bool) (b : ℕ) (js : List MsgId) (ps : List Part) → part_count f (sends_on b js ++ ps) ≡ part_count f ps
sends_count f b [] ps = refl
sends_count f b (j ∷ js) ps = sends_count f b js ps

-- what begins: the front goes, and the lists of a process are emptied
pub emptied_on : (f : ℕ → Pid → List MsgId) (a : ℕ) (q : Pid) (i : MsgId) (m : ℕ) (r : Pid) → 1 ≤ times i (f m r) → (1 ≤ times i (at_record f a q [] m r)) ⊎ (1 ≤ times i (f a q))
emptied_on f a q i m r least = grind (arith, nat_tests, parts, eq_is, pid_eq-is)

abbrev sent_view : View → Pid → ℕ → View
sent_view v q n = view_after v (Line.SentOn q n)

pub both_first : (i : MsgId) (xs ys : List MsgId) → 1 ≤ times i xs → 1 ≤ times i (xs ++ ys)
both_first i xs ys least = let a = times-append i xs ys in omega (arith, a, least)

pub both_second : (i : MsgId) (xs ys : List MsgId) → 1 ≤ times i ys → 1 ≤ times i (xs ++ ys)
both_second i xs ys least = let a = times-append i xs ys in omega (arith, a, least)

sent_on : (v : View) (q : Pid) (n : ℕ) (i : MsgId) → ((z : Spot) → standing (handled_first v) i z ≡ standing v i z) → (z : Spot) → 1 ≤ standing v i z → Somewhere (sent_view v q n) i ⊎ (1 ≤ times i (v.queue v.acting q ++ v.held v.acting q))
sent_on v q n i same (Queue m r) st = elim (emptied_on v.queue v.acting q i m r st) [
  | inl x ↦ inl (Queue m r, x)
  | inr x ↦ inr (both_first i (v.queue v.acting q) (v.held v.acting q) x)
]
sent_on v q n i same (Held m r) st = elim (emptied_on v.held v.acting q i m r st) [
  | inl x ↦ inl (Held m r, x)
  | inr x ↦ inr (both_second i (v.queue v.acting q) (v.held v.acting q) x)
]
sent_on v q n i same (Inbox m) st = inl (Inbox m, subst (λ k. 1 ≤ k) (sym (same (Inbox m))) st)
sent_on v q n i same (Untaken a b) st = inl (Untaken a b, st)

sent_back : (v : View) (q : Pid) (n : ℕ) (i : MsgId) → ((z : Spot) → standing (handled_first v) i z ≡ standing v i z) → (z : Spot) → 1 ≤ standing (sent_view v q n) i z → Somewhere v i
sent_back v q n i same (Queue m r) st = (Queue m r, fewer_record v.queue v.acting q i m r st)
sent_back v q n i same (Held m r) st = (Held m r, fewer_record v.held v.acting q i m r st)
sent_back v q n i same (Inbox m) st = (Inbox m, subst (λ k. 1 ≤ k) (same (Inbox m)) st)
sent_back v q n i same (Untaken a b) st = (Untaken a b, st)

both_stand : (v : View) (q : Pid) (i : MsgId) → 1 ≤ times i (v.queue v.acting q ++ v.held v.acting q) → Somewhere v i
both_stand v q i least =
    let sum = times-append i (v.queue v.acting q) (v.held v.acting q) in
    elim (zero_cases (times i (v.queue v.acting q))) [
      | inl none ↦ (Held v.acting q, omega (arith, least, sum, none))
      | inr some ↦ (Queue v.acting q, some)
    ]

pub sent_begins : (picks : Told → Bool) (v : View) (q : Pid) (n : ℕ) (i : MsgId) (is : List MsgId) → v.inbox v.acting ≡ i ∷ is → Plain picks v i → PairsFit v → Sending picks v (v.queue v.acting q ++ v.held v.acting q) (sent_view v q n)
sent_begins picks v q n i is front plain fits =
    let same : (j : MsgId) → id_eq i j ≡ false → (z : Spot) → standing (handled_first v) j z ≡ standing v j z = first_spots v (handled_first v) i is front (λ z. refl) in
    record {
      told = λ j. refl;
      on = λ j t e a s. sent_on v q n j (same j (other_front picks v i j t plain e a)) s.0 s.1;
      back = λ j t e a s. sent_back v q n j (same j (other_front picks v i j t plain e a)) s.0 s.1;
      from = λ j t e a least. both_stand v q j least;
      known = λ m r. refl;
      fits = record { within = fits.within; home = fits.home };
      acting = refl;
    }

-- the held messages of a process come to the front of the inbox
released_on : (v : View) (q : Pid) (i : MsgId) (z : Spot) → 1 ≤ standing v i z → Somewhere (released v q) i
released_on v q i (Queue m r) st = (Queue m r, st)
released_on v q i (Held m r) st = elim (emptied_on v.held v.acting q i m r st) [
  | inl x ↦ (Held m r, x)
  | inr x ↦ (
    Inbox v.acting,
    subst (λ k. 1 ≤ k) (sym (ap (λ (c : Bool). times i (if c then v.held v.acting q ++ v.inbox v.acting else v.inbox v.acting)) (eq_self v.acting))) (both_first i (v.held v.acting q) (v.inbox v.acting) x),
  )
]
released_on v q i (Inbox m) st = elim (cases_Bool (v.acting == m)) [
  | inl same ↦
      let here : 1 ≤ times i (v.inbox v.acting) = subst (λ (k : ℕ). 1 ≤ times i (v.inbox k)) (sym (eq_is v.acting m same)) st in
      (Inbox m, subst (λ k. 1 ≤ k) (sym (ap (λ (c : Bool). times i (if c then v.held v.acting q ++ v.inbox v.acting else v.inbox m)) same)) (both_second i (v.held v.acting q) (v.inbox v.acting) here))
  | inr off ↦ (Inbox m, subst (λ k. 1 ≤ k) (sym (ap (λ (c : Bool). times i (if c then v.held v.acting q ++ v.inbox v.acting else v.inbox m)) off)) st)
]
released_on v q i (Untaken a b) st = (Untaken a b, st)

released_back : (v : View) (q : Pid) (i : MsgId) (z : Spot) → 1 ≤ standing (released v q) i z → Somewhere v i
released_back v q i (Queue m r) st = (Queue m r, st)
released_back v q i (Held m r) st = (Held m r, fewer_record v.held v.acting q i m r st)
released_back v q i (Inbox m) st = elim (cases_Bool (v.acting == m)) [
  | inl same ↦
      let now : times i (at_machine v.inbox v.acting (v.held v.acting q ++ v.inbox v.acting) m) ≡ times i (v.held v.acting q ++ v.inbox v.acting) = ap (λ (c : Bool). times i (if c then v.held v.acting q ++ v.inbox v.acting else v.inbox m)) same in
      let sum = times-append i (v.held v.acting q) (v.inbox v.acting) in
      elim (zero_cases (times i (v.held v.acting q))) [
        | inl none ↦ (Inbox v.acting, omega (arith, st, now, sum, none))
        | inr some ↦ (Held v.acting q, some)
      ]
  | inr off ↦ (Inbox m, subst (λ k. 1 ≤ k) (ap (λ (c : Bool). times i (if c then v.held v.acting q ++ v.inbox v.acting else v.inbox m)) off) st)
]
released_back v q i (Untaken a b) st = (Untaken a b, st)

pub rejoins_smooth : (picks : Told → Bool) (v : View) (q : Pid) → Smooth picks v (view.rejoins v q)
rejoins_smooth picks v q =
    let u = view.seated (with_ring (knowing v q Here) (view.ring_with (v.ring v.acting) q)) q in
    let here_off : (z : Spot) → ids_at u z ≡ ids_at v z = λ z. grind (arith, nat_tests) in
    let released_smooth : Smooth picks u (released u q) = record { kept = λ i t e. e; fresh = λ i t e a. e; on = λ i t e a s. released_on u q i s.0 s.1; back = λ i t e a s. released_back u q i s.0 s.1 } in
    smooth_trans picks v u (released u q) (smooth_still picks v u (λ i. refl) (λ i z. ap (times i) (here_off z))) released_smooth
