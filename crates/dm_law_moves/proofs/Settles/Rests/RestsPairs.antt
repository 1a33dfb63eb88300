-- What each change of a pair keeps of what has been done on it.
use Rattle.dm_law_moves.proofs.Names.{◌≡◌, ◌⊎◌, ℕ, zero, suc, ◌+◌, ◌-◌, ◌<◌, ◌≤◌, Bool, true, false, List, [], ◌∷◌, ◌++◌, length, refl, ap, ◌∙◌, sym, subst, inl, inr, arith, if◌then◌else◌, slice_get, Option, Some, leb_tells}
use Rattle.dm_processor.proofs.Names.{length-append}
use Rattle.dm_law_moves.proofs.Names.{nat_tests, MsgId, Load, goes_out, pair_window, has, less, numbers_from, Pair, SentLoad, at_least, gone_after, marked, marked_at, HasCome, HasPacket, PairRests, at_least-more}
use Rattle.dm_law_moves.proofs.Settles.Wires.{come_marked, come_put, has_last, has_marked, has_put, new_packet}

-- the pair that leads back has more packets, and no more acknowledgements of its own were delivered
pub rests_back : (p q r : Pair) → ((l : Load) → HasPacket q.wire l → HasPacket r.wire l) → ((n : ℕ) → HasCome r.wire (Load.Ack n) → HasCome q.wire (Load.Ack n)) → PairRests p q → PairRests p r
rests_back p q r more same h = record {
  gone = h.gone;
  next = h.next;
  sent = h.sent;
  there = h.there;
  answered = elim h.answered [ inl z ↦ inl z | inr a ↦ inr (more (Load.Ack p.taken) a) ];
  heard = λ n c. h.heard n (same n c);
}

-- a packet is put, of what has gone out before, or an acknowledgement
abbrev pub repeated : Load → Pair → Pair
repeated l p = record p { gone = gone_after l p.gone; wire = p.wire ++ new_packet l ∷ [] }

pub repeat_rests : (l : Load) (p q : Pair) → gone_after l p.gone ≡ p.gone → PairRests p q → PairRests (repeated l p) q
repeat_rests l p q same h = record {
  gone = elim h.gone [ inl e ↦ inl (same ∙ e) | inr e ↦ inr (same ∙ e) ];
  next = h.next;
  sent = λ n less_. has_put p.wire (new_packet l) (Load.Data n) (h.sent n (let g : n < gone_after l p.gone = less_ in omega (arith, g, same)));
  there = λ n c. h.there n (come_put p.wire l (Load.Data n) c);
  answered = h.answered;
  heard = h.heard;
}

pub repeat_back : (l : Load) (p q : Pair) → PairRests q p → PairRests q (repeated l p)
repeat_back l p q h = rests_back q p (repeated l p) (λ k g. has_put p.wire (new_packet l) k g) (λ n c. come_put p.wire l (Load.Ack n) c) h

-- a route, with no packet where the window is full or others wait
abbrev pub routed : Pair → MsgId → Pair
routed p id = record p { ids = p.ids ++ id ∷ [] }

one_longer : (ids : List MsgId) (id : MsgId) → length (ids ++ id ∷ []) ≡ length ids + 1
one_longer ids id = length-append ids (id ∷ [])

window_full : (p : Pair) → goes_out p ≡ false → p.gone ≤ p.acked + pair_window → p.gone ≡ length p.ids → p.gone ≡ p.acked + pair_window
window_full p e full all = grind (arith, nat_tests)

pub route_rests : (p q : Pair) (id : MsgId) → goes_out p ≡ false → p.gone ≤ p.acked + pair_window → PairRests p q → PairRests (routed p id) q
route_rests p q id e full h = record {
  gone = elim h.gone [ inl all ↦ inr (window_full p e full all) | inr most ↦ inr most ];
  next = h.next;
  sent = h.sent;
  there = h.there;
  answered = h.answered;
  heard = h.heard;
}

-- a route, and the message goes out at once
abbrev pub routed_out : Pair → MsgId → Pair
routed_out p id = repeated (Load.Data (length p.ids)) (routed p id)

all_gone : (p : Pair) → goes_out p ≡ true → p.gone ≡ length p.ids
all_gone p e = grind (arith, nat_tests)

next_gone : (p : Pair) → p.gone ≡ length p.ids → gone_after (Load.Data (length p.ids)) p.gone ≡ p.gone + 1
next_gone p e = grind (arith, nat_tests)

pub out_rests : (p q : Pair) (id : MsgId) → goes_out p ≡ true → PairRests p q → PairRests (routed_out p id) q
out_rests p q id e h =
    let all = all_gone p e in
    let next = next_gone p all in
    let longer = one_longer p.ids id in
    let l = Load.Data (length p.ids) in
    record {
      gone = inl (omega (arith, all, next, longer));
      next = h.next;
      sent = λ n less_. elim (leb_tells (suc n) p.gone) [
        | inl small ↦ has_put p.wire (new_packet l) (Load.Data n) (h.sent n small.1)
        | inr large ↦
            let g : n < gone_after l p.gone = less_ in
            let far = large.1 in
            let is : length p.ids ≡ n = omega (arith, g, next, all, far) in
            subst (λ (k : ℕ). HasPacket (p.wire ++ new_packet l ∷ []) (Load.Data k)) is (has_last p.wire l)
      ];
      there = λ n c. h.there n (come_put p.wire l (Load.Data n) c);
      answered = h.answered;
      heard = h.heard;
    }

-- a data packet is delivered: its number was taken, or is kept, and the count of what was taken then is acknowledged
pub record Comes (p p' : Pair) (k n : ℕ) : Type 0 where
  pub ids : p'.ids ≡ p.ids
  pub gone : p'.gone ≡ p.gone
  pub acked : p'.acked ≡ p.acked
  pub wire : p'.wire ≡ (marked p k).wire
  pub taken : p.taken ≤ p'.taken
  pub next : has p'.taken p'.kept ≡ false
  pub new : (n < p'.taken) ⊎ (has n p'.kept ≡ true)
  pub keeps : (j : ℕ) → has j p.kept ≡ true → (j < p'.taken) ⊎ (has j p'.kept ≡ true)

data_number : (m n : ℕ) → Load.Data m ≡ Load.Data n → m ≡ n
data_number m n e = cc

come_of : (p p' : Pair) (k : ℕ) (s : SentLoad) (l : Load) → slice_get p.wire k ≡ Some s → p'.wire ≡ (marked p k).wire → HasCome p'.wire l → HasCome p.wire l ⊎ (s.load ≡ l)
come_of p p' k s l is e c =
    let same : p'.wire ≡ marked_as p k s = e ∙ ap (λ (o : Option SentLoad). at_mark p k o) is in
    come_marked p.wire k s l (subst (λ (ss : List SentLoad). HasCome ss l) same c)
  where
    at_mark : Pair → ℕ → Option SentLoad → List SentLoad
    at_mark p k o = marked_at p.wire k o

    marked_as : Pair → ℕ → SentLoad → List SentLoad
    marked_as p k s = marked_at p.wire k (Some s)

pub data_rests : (p p' q : Pair) (k n : ℕ) (s : SentLoad) → slice_get p.wire k ≡ Some s → s.load ≡ Load.Data n → Comes p p' k n → PairRests p q → PairRests p' (repeated (Load.Ack p'.taken) q)
data_rests p p' q k n s is carries c h = record {
  gone = elim h.gone [
    | inl e ↦ inl (c.gone ∙ e ∙ ap length (sym c.ids))
    | inr e ↦ inr (c.gone ∙ e ∙ ap (λ (m : ℕ). m + pair_window) (sym c.acked))
  ];
  next = c.next;
  sent = λ m less_. subst (λ (ss : List SentLoad). HasPacket ss (Load.Data m)) (sym c.wire) (has_marked p.wire k (slice_get p.wire k) (Load.Data m) refl (h.sent m (let e = c.gone in let g : m < p'.gone = less_ in omega (arith, e, g))));
  there = λ m come. elim (come_of p p' k s (Load.Data m) is c.wire come) [
    | inl old ↦ elim (h.there m old) [
      | inl t ↦ inl (let more = c.taken in omega (arith, t, more))
      | inr kept ↦ c.keeps m kept
    ]
    | inr e ↦ let same : n ≡ m = data_number n m (sym carries ∙ e) in subst (λ (j : ℕ). (j < p'.taken) ⊎ (has j p'.kept ≡ true)) same c.new
  ];
  answered = inr (has_last q.wire (Load.Ack p'.taken));
  heard = λ m come. let e = c.acked in let g : m ≤ p.acked = h.heard m (come_put q.wire (Load.Ack p'.taken) (Load.Ack m) come) in omega (arith, e, g);
}

no_ack : (n m : ℕ) → Load.Data n ≡ Load.Ack m → ⊥
no_ack n m e = cc

no_data : (n m : ℕ) → Load.Ack n ≡ Load.Data m → ⊥
no_data n m e = cc

pub data_back : (p p' q : Pair) (k n : ℕ) (s : SentLoad) → slice_get p.wire k ≡ Some s → s.load ≡ Load.Data n → Comes p p' k n → PairRests q p → PairRests (repeated (Load.Ack p'.taken) q) p'
data_back p p' q k n s is carries c h =
    repeat_rests (Load.Ack p'.taken) q p' refl
    (rests_back q p p' (λ l g. subst (λ (ss : List SentLoad). HasPacket ss l) (sym c.wire) (has_marked p.wire k (slice_get p.wire k) l refl g))
    (λ m come. elim (come_of p p' k s (Load.Ack m) is c.wire come) [ inl old ↦ old | inr e ↦ absurd (no_ack n m (sym carries ∙ e)) ]) h)

-- an acknowledgement is delivered: messages that waited go out
abbrev pub sent_all : List ℕ → Pair → Pair
sent_all [] p = p
sent_all (n ∷ ns) p = sent_all ns (repeated (Load.Data n) p)

abbrev pub acknowledged : ℕ → Pair → Pair
acknowledged n p = record p { acked = at_least p.acked n }

pub record Gone (p p' : Pair) (m : ℕ) : Type 0 where
  pub ids : p'.ids ≡ p.ids
  pub taken : p'.taken ≡ p.taken
  pub acked : p'.acked ≡ p.acked
  pub kept : p'.kept ≡ p.kept
  pub gone : p'.gone ≡ p.gone + m
  pub has_ : (l : Load) → HasPacket p.wire l → HasPacket p'.wire l
  pub new : (n : ℕ) → p.gone ≤ n → n < p.gone + m → HasPacket p'.wire (Load.Data n)
  pub come : (l : Load) → HasCome p'.wire l → HasCome p.wire l

next_one : (p : Pair) → gone_after (Load.Data p.gone) p.gone ≡ p.gone + 1
next_one p = grind (arith, nat_tests)

pub all_sent : (m n : ℕ) (p : Pair) → p.gone ≡ n → Gone p (sent_all (numbers_from n m) p) m
all_sent zero n p e = record { ids = refl; taken = refl; acked = refl; kept = refl; gone = omega arith; has_ = λ l h. h; new = λ k a b. absurd (omega (arith, a, b)); come = λ l h. h }
all_sent (suc m) n p e =
    let l = Load.Data n in
    let first = repeated l p in
    let on : first.gone ≡ n + 1 = ap (λ (k : ℕ). gone_after (Load.Data k) p.gone) (sym e) ∙ next_one p ∙ ap (λ (k : ℕ). k + 1) e in
    let g = all_sent m (n + 1) first on in
    let out = g.gone in
    record {
      ids = g.ids;
      taken = g.taken;
      acked = g.acked;
      kept = g.kept;
      gone = omega (arith, out, on, e);
      has_ = λ k h. g.has_ k (has_put p.wire (new_packet l) k h);
      new = λ k from to. elim (leb_tells (suc n) k) [
        | inl later ↦ g.new k (let x = later.1 in omega (arith, on, x)) (omega (arith, on, to, e))
        | inr here ↦
            let x = here.1 in
            let is : n ≡ k = omega (arith, x, from, e) in
            subst (λ (j : ℕ). HasPacket (sent_all (numbers_from (n + 1) m) first).wire (Load.Data j)) is (g.has_ l (has_last p.wire l))
      ];
      come = λ k h. come_put p.wire l k (g.come k h);
    }

less_is : (m n : ℕ) → (less m n ≡ m) ⊎ (less m n ≡ n)
less_is m n = elim (leb_tells m n) [
  | inl e ↦ inl (ap (λ (c : Bool). if c then m else n) e.0)
  | inr e ↦ inr (ap (λ (c : Bool). if c then m else n) e.0)
]

least_new : (m n : ℕ) → n ≤ at_least m n
least_new m n = grind (arith, nat_tests)

-- q is the pair whose messages are acknowledged, and p the one that brings it
abbrev pub heard_of : Pair → ℕ → ℕ → Pair
heard_of q n top = sent_all (numbers_from q.gone (less (length q.ids - q.gone) (top + pair_window - q.gone))) (acknowledged n q)

ack_number : (m n : ℕ) → Load.Ack m ≡ Load.Ack n → m ≡ n
ack_number m n e = cc

pub ack_rests : (p q : Pair) (k n top : ℕ) (s : SentLoad) → slice_get p.wire k ≡ Some s → s.load ≡ Load.Ack n → at_least q.acked n ≡ top → q.gone ≤ length q.ids → q.gone ≤ q.acked + pair_window → PairRests q p → PairRests (heard_of q n top) (marked p k)
ack_rests p q k n top s is carries most within full h =
    let m = less (length q.ids - q.gone) (top + pair_window - q.gone) in
    let q' = heard_of q n top in
    let g = all_sent m q.gone (acknowledged n q) refl in
    let up = at_least-more q.acked n in
    let out = g.gone in
    let acked : q'.acked ≡ top = g.acked ∙ most in
    record {
      gone = elim (less_is (length q.ids - q.gone) (top + pair_window - q.gone)) [
        | inl e ↦ inl (let long : length q'.ids ≡ length q.ids = ap length g.ids in omega (arith, out, e, within, long))
        | inr e ↦ inr (omega (arith, out, e, acked, full, up, most))
      ];
      next = ap (λ (j : ℕ). has j q'.kept) g.taken ∙ ap (has q.taken) g.kept ∙ h.next;
      sent = λ j less_. elim (leb_tells (suc j) q.gone) [
        | inl small ↦ g.has_ (Load.Data j) (h.sent j small.1)
        | inr large ↦ g.new j (let x = large.1 in omega (arith, x)) (let x : j < q'.gone = less_ in omega (arith, x, out))
      ];
      there = λ j c. elim (h.there j (g.come (Load.Data j) c)) [
        | inl t ↦ inl (let e = g.taken in omega (arith, e, t))
        | inr kept ↦ inr (ap (has j) g.kept ∙ kept)
      ];
      answered = elim h.answered [
        | inl z ↦ inl (g.taken ∙ z)
        | inr a ↦ inr (subst (λ (j : ℕ). HasPacket (marked p k).wire (Load.Ack j)) (sym g.taken) (has_marked p.wire k (slice_get p.wire k) (Load.Ack q.taken) refl a))
      ];
      heard = λ j c. elim (come_of p (marked p k) k s (Load.Ack j) is refl c) [
        | inl old ↦ let x = h.heard j old in omega (arith, x, up, acked, most)
        | inr e ↦ let same : n ≡ j = ack_number n j (sym carries ∙ e) in let x = least_new q.acked n in omega (arith, same, x, acked, most)
      ];
    }

pub ack_back : (p q : Pair) (k n top : ℕ) (s : SentLoad) → slice_get p.wire k ≡ Some s → s.load ≡ Load.Ack n → PairRests p q → PairRests (marked p k) (heard_of q n top)
ack_back p q k n top s is carries h =
    let m = less (length q.ids - q.gone) (top + pair_window - q.gone) in
    let g = all_sent m q.gone (acknowledged n q) refl in
    record {
      gone = h.gone;
      next = h.next;
      sent = λ j less_. has_marked p.wire k (slice_get p.wire k) (Load.Data j) refl (h.sent j less_);
      there = λ j c. elim (come_of p (marked p k) k s (Load.Data j) is refl c) [ inl old ↦ h.there j old | inr e ↦ absurd (no_data n j (sym carries ∙ e)) ];
      answered = elim h.answered [ inl z ↦ inl z | inr a ↦ inr (g.has_ (Load.Ack p.taken) a) ];
      heard = λ j c. h.heard j (g.come (Load.Ack j) c);
    }
