-- What each kind of line does to the lists that messages stand in.
use Rattle.dm_law_rule.proofs.Names.{◌≡◌, ◌≢◌, ℕ, ◌+◌, ◌≤◌, ◌==◌, ◌&&◌, Bool, true, false, zero, suc, not, filter, List, [], ◌∷◌, ◌++◌, refl, ap, ◌∙◌, sym, subst, arith, length, inl, inr, if◌then◌else◌, drop, slice_get, Option, None, Some}
use Rattle.dm_law_rule.proofs.Names.{cases_Bool, false≢true, drop-append-le, length-append, drop-length, nat_tests, Pid, pid_eq, MsgId, MessageKind, id_eq, at_machine, at_pair, at_id, at_record, without_id, without_front, View, Pair, Told}
use Rattle.dm_law_rule.proofs.Names.{handled, receiver_of, Spot, Queue, Inbox, Untaken, times, untaken, ids_at, standing, StandsAsBag, pid_eq-is, pid_eq-same, id_eq-is, id_eq-same, and_parts, eqb-true, false_from_ne_true, none_some}
use Rattle.dm_law_rule.specs.View as view
use Rattle.dm_law_rule.proofs.Standing.{times-append}
use Rattle.dm_law_rule.proofs.Once.{Kept, SameBut, one_of, once_stays, once_comes, once_goes, once_moves}
pub use Rattle.std.proofs.lemmas.Bool.{and_parts as parts, eqb-true as eq_is, false_from_ne_true as not_true}

-- the messages that are under way, and whom they are for
abbrev pub Bag : Type 0
Bag = MsgId → Option Pid

-- the bag without a message
abbrev pub hidden : {M : Type 0} → Option MsgId → (MsgId → Option M) → MsgId → Option M
hidden None bag i = bag i
hidden (Some j) bag i = if id_eq j i then None else bag i

-- each message stands once, its put has told its receiver, and what is queued for a process is for it
pub record Stands (bag : Bag) (v : View) : Type 0 where
  pub kept : Kept bag v
  pub told : (i : MsgId) (x : Pid) → bag i ≡ Some x → receiver_of (v.told i) ≡ Some x
  pub mine : (m : ℕ) (p : Pid) (i : MsgId) (x : Pid) → 1 ≤ times i (v.queue m p) → bag i ≡ Some x → x ≡ p

-- the same bag, pointwise
pub Stands-same : (bag other : Bag) (v : View) → ((i : MsgId) → other i ≡ bag i) → Stands bag v → Stands other v
Stands-same bag other v e h = search arith

-- a line that moves no message
pub Stands-stays : (bag : Bag) (v w : View) → ((z : Spot) → ids_at w z ≡ ids_at v z) → ((i : MsgId) → w.told i ≡ v.told i) → Stands bag v → Stands bag w
Stands-stays bag v w off told h = record {
  kept = once_stays v w bag bag (λ i. refl) off h.kept;
  told = λ i x k. ap receiver_of (told i) ∙ h.told i x k;
  mine = λ m p i x least k. h.mine m p i x (subst (λ n. 1 ≤ n) (ap (times i) (off (Queue m p))) least) k;
}

pub at_machine_at : {X : Type 0} (f : ℕ → X) (m : ℕ) (x : X) → at_machine f m x m ≡ x
at_machine_at f m x = ap (λ (c : Bool). if c then x else f m) (let k : (m == m) ≡ true = grind (arith, nat_tests) in k)

pub at_machine_off : {X : Type 0} (f : ℕ → X) (m n : ℕ) (x : X) → (m == n) ≡ false → at_machine f m x n ≡ f n
at_machine_off f m n x e = ap (λ (c : Bool). if c then x else f n) e

pub at_record_off : {X : Type 0} (f : ℕ → Pid → X) (m n : ℕ) (p q : Pid) (x : X) → ((m == n) && pid_eq p q) ≡ false → at_record f m p x n q ≡ f n q
at_record_off f m n p q x e = ap (λ (c : Bool). if c then x else f n q) e

pub eq_self : (m : ℕ) → (m == m) ≡ true
eq_self m = grind (arith, nat_tests)

pub at_record_at : {X : Type 0} (f : ℕ → Pid → X) (m : ℕ) (p : Pid) (x : X) → at_record f m p x m p ≡ x
at_record_at f m p x = ap (λ (c : Bool). if c && pid_eq p p then x else f m p) (eq_self m) ∙ ap (λ (c : Bool). if c then x else f m p) (pid_eq-same p)

pub inbox_apart : (m n : ℕ) → Inbox n ≢ Inbox m → (m == n) ≡ false
inbox_apart m n apart = false_from_ne_true (m == n) (λ e. apart (ap Inbox (sym (eqb-true m n e))))

pub queue_apart : (m n : ℕ) (p q : Pid) → Queue n q ≢ Queue m p → ((m == n) && pid_eq p q) ≡ false
queue_apart m n p q apart = false_from_ne_true ((m == n) && pid_eq p q) (λ e. let k = and_parts (m == n) (pid_eq p q) e in apart (ap (λ x. Queue x q) (sym (eqb-true m n k.0)) ∙ ap (Queue m) (sym (pid_eq-is p q k.1))))

-- the front of the acting machine's inbox goes
pub front_goes : (v : View) (i : MsgId) (is : List MsgId) → v.inbox v.acting ≡ i ∷ is → without_front i (v.inbox v.acting) ≡ is
front_goes v i is e = ap (without_front i) e ∙ ap (λ (c : Bool). if c then is else i ∷ is) (id_eq-same i)

pub handled_off : (v : View) (i : MsgId) (z : Spot) → z ≢ Inbox v.acting → ids_at (handled v i) z ≡ ids_at v z
handled_off v i (Inbox m) apart = at_machine_off v.inbox v.acting m (without_front i (v.inbox v.acting)) (inbox_apart v.acting m apart)
handled_off v i _ apart = refl

pub handled_at : (v : View) (i : MsgId) (is : List MsgId) (j : MsgId) → v.inbox v.acting ≡ i ∷ is → times j (ids_at v (Inbox v.acting)) ≡ times j (ids_at (handled v i) (Inbox v.acting)) + one_of j i
handled_at v i is j e =
    let now : ids_at (handled v i) (Inbox v.acting) ≡ is = at_machine_at v.inbox v.acting (without_front i (v.inbox v.acting)) ∙ front_goes v i is e in
    let a : times j (v.inbox v.acting) ≡ times j (i ∷ is) = ap (times j) e in
    grind (arith, nat_tests)

pub hidden_at : (bag : Bag) (i : MsgId) → hidden (Some i) bag i ≡ None
hidden_at bag i = ap (λ (c : Bool). if c then None else bag i) (id_eq-same i)

pub hidden_off : (bag : Bag) (i : MsgId) → SameBut i bag (hidden (Some i) bag)
hidden_off bag i j e = ap (λ (c : Bool). if c then None else bag j) e

pub hidden_some : (bag : Bag) (i j : MsgId) (x : Pid) → hidden (Some i) bag j ≡ Some x → bag j ≡ Some x
hidden_some bag i j x e = elim (cases_Bool (id_eq i j)) [
  | inl same ↦ absurd (let k : None ≡ Some x = sym (ap (λ (c : Bool). if c then None else bag j) same) ∙ e in cc)
  | inr apart ↦ sym (hidden_off bag i j apart) ∙ e
]

-- the message at the front of the inbox is taken out of the bag too
pub Stands-handled : (bag : Bag) (v w : View) (i : MsgId) (is : List MsgId) → v.inbox v.acting ≡ i ∷ is → ((z : Spot) → ids_at w z ≡ ids_at (handled v i) z) → ((j : MsgId) → w.told j ≡ v.told j)
    → Stands bag v → Stands (hidden (Some i) bag) w
Stands-handled bag v w i is front same told h =
    Stands-stays (hidden (Some i) bag) (handled v i) w same told
    (record {
      kept = once_goes v (handled v i) bag (hidden (Some i) bag) i (Inbox v.acting) (hidden_at bag i) (hidden_off bag i) (λ j. handled_at v i is j front) (λ z apart. handled_off v i z apart) h.kept;
      told = λ j x k. h.told j x (hidden_some bag i j x k);
      mine = λ m p j x least k. h.mine m p j x least (hidden_some bag i j x k);
    })

abbrev pub is_inbox : Spot → Bool
is_inbox (Inbox m) = true
is_inbox _ = false

-- a message goes from the front of the inbox to the back of its receiver's queue

pub spots_differ : (m n : ℕ) (p : Pid) → Inbox m ≢ Queue n p
spots_differ m n p e = let k : true ≡ false = ap is_inbox e in false≢true (sym k)

pub one_more : (j i : MsgId) (xs : List MsgId) → times j (xs ++ i ∷ []) ≡ times j xs + one_of j i
one_more j i xs = let a = times-append j xs (i ∷ []) in let b : times j (i ∷ []) ≡ one_of j i + 0 = refl in omega (arith, a, b)

pub Stands-queued : (bag : Bag) (v w : View) (i : MsgId) (is : List MsgId) (x : Pid) → v.inbox v.acting ≡ i ∷ is → bag i ≡ Some x → w ≡ view.queued_for (handled v i) i (receiver_of (v.told i))
    → Stands bag v → Stands bag w
Stands-queued bag v w i is x front there is_w h =
    -- whom a queue's messages are for, once one more stands there
    let queue_mine : (bag : Bag) (v : View) (i : MsgId) (x : Pid) (p : Pid) → bag i ≡ Some x → x ≡ p → Stands bag v → (m : ℕ) (q : Pid) (j : MsgId) (y : Pid)
    → 1 ≤ times j (at_record v.queue v.acting p (v.queue v.acting p ++ i ∷ []) m q) → bag j ≡ Some y → y ≡ q =
    λ bag v i x p there to h m q j y least is. search (arith, and_parts, pid_eq-is, one_more, id_eq-is, at_record_off) in
    let queued_off : (v : View) (i : MsgId) (p : Pid) (z : Spot) → z ≢ Inbox v.acting → z ≢ Queue v.acting p
    → ids_at (record (handled v i) { queue = at_record v.queue v.acting p (v.queue v.acting p ++ i ∷ []) }) z ≡ ids_at v z =
    λ v i p z h1 h2. search (arith, at_record_off, queue_apart, at_machine_off, inbox_apart) in
    let told : receiver_of (v.told i) ≡ Some x = h.told i x there in
    let u = record (handled v i) { queue = at_record v.queue v.acting x (v.queue v.acting x ++ i ∷ []) } in
    let e : u ≡ w = sym (let e_ : view.queued_for (handled v i) i (receiver_of (v.told i)) ≡ record (handled v i) { queue = at_record v.queue v.acting x (v.queue v.acting x ++ i ∷ []) } = search arith in e_) ∙ sym is_w in
    subst (Stands bag) e
    (record {
      kept = once_moves v u bag bag i (Inbox v.acting) (Queue v.acting x) (spots_differ v.acting v.acting x) (λ j. refl) (λ j. handled_at v i is j front)
          (λ j. ap (times j) (at_record_at v.queue v.acting x (v.queue v.acting x ++ i ∷ [])) ∙ one_more j i (v.queue v.acting x)) (λ z a b. queued_off v i x z a b) h.kept;
      told = h.told;
      mine = queue_mine bag v i x x there refl h;
    })

-- a message that stands in a queue is taken out of it, and out of the bag
pub without_counts : (j i : MsgId) (xs : List MsgId) → 1 ≤ times i xs → times j xs ≡ times j (without_id i xs) + one_of j i
without_counts j i [] least = absurd (omega arith)
without_counts j i (y ∷ ys) least = elim (cases_Bool (id_eq i y)) [
  | inl same ↦
      let is : i ≡ y = id_eq-is i y same in
      let b : one_of j i ≡ one_of j y = ap (one_of j) is in omega (arith, (let a : times j (without_id i (y ∷ ys)) ≡ times j ys = ap (times j) (ap (λ (c : Bool). if c then ys else y ∷ without_id i ys) same) in a), b)
  | inr apart ↦
      let deeper : 1 ≤ times i ys = omega (arith, least, (let none : one_of i y ≡ 0 = ap (λ (c : Bool). if c then 1 else 0) apart in none)) in
      let k = without_counts j i ys deeper in omega (arith, (let a : times j (without_id i (y ∷ ys)) ≡ times j (y ∷ without_id i ys) = ap (times j) (ap (λ (c : Bool). if c then ys else y ∷ without_id i ys) apart) in a), k)
]

queue_off : (v : View) (p : Pid) (rest : List MsgId) (z : Spot) → z ≢ Queue v.acting p → ids_at (record v { queue = at_record v.queue v.acting p rest }) z ≡ ids_at v z
queue_off v p rest (Queue m q) a = at_record_off v.queue v.acting m p q rest (queue_apart v.acting m p q a)
queue_off v p rest _ a = refl

pub Stands-dequeued : (bag : Bag) (v w : View) (i : MsgId) (p : Pid) (rest : List MsgId) → ((j : MsgId) → times j (v.queue v.acting p) ≡ times j rest + one_of j i)
    → ((z : Spot) → ids_at w z ≡ ids_at (record v { queue = at_record v.queue v.acting p rest }) z) → ((j : MsgId) → w.told j ≡ v.told j) → Stands bag v → Stands (hidden (Some i) bag) w
Stands-dequeued bag v w i p rest counts same told h =
    let u = record v { queue = at_record v.queue v.acting p rest } in
    Stands-stays (hidden (Some i) bag) u w same told
    (record {
      kept = once_goes v u bag (hidden (Some i) bag) i (Queue v.acting p) (hidden_at bag i) (hidden_off bag i)
          (λ j. let c = counts j in let n : times j (ids_at u (Queue v.acting p)) ≡ times j rest = ap (times j) (at_record_at v.queue v.acting p rest) in omega (arith, c, n)) (λ z apart. queue_off v p rest z apart) h.kept;
      told = λ j x k. h.told j x (hidden_some bag i j x k);
      mine = λ m q j x least k. h.mine m q j x (elim (cases_Bool ((v.acting == m) && pid_eq p q)) [
        | inl same ↦
            let both_ = and_parts (v.acting == m) (pid_eq p q) same in
            let was : 1 ≤ times j (v.queue v.acting p) = omega (arith, least, ap (times j) (ap (λ (c : Bool). if c then rest else v.queue m q) same), counts j) in
            subst (λ x. 1 ≤ times j (v.queue m x)) (pid_eq-is p q both_.1) (subst (λ x. 1 ≤ times j (v.queue x p)) (eqb-true v.acting m both_.0) was)
        | inr apart ↦ subst (λ n. 1 ≤ n) (ap (times j) (at_record_off v.queue v.acting m p q rest apart)) least
      ]) (hidden_some bag i j x k);
    })

-- what stands at a place of a list, and what is behind it
pub at_place : (xs : List MsgId) (k : ℕ) (x : MsgId) → slice_get xs k ≡ Some x → drop k xs ≡ x ∷ drop (suc k) xs
at_place [] k x e = none_some x e
at_place (y ∷ ys) zero x e = let f : y ≡ x = cc in ap (λ v. v ∷ ys) f
at_place (y ∷ ys) (suc k) x e = at_place ys k x e

pub past_place : (xs : List MsgId) (k : ℕ) → slice_get xs k ≡ None → (drop k xs ≡ []) × (drop (suc k) xs ≡ [])
past_place [] zero e = (refl, refl)
past_place [] (suc k) e = (refl, refl)
past_place (y ∷ ys) zero e = cc
past_place (y ∷ ys) (suc k) e = past_place ys k e

pub pair_off : {X : Type 0} (f : ℕ → ℕ → X) (a b c d : ℕ) (x : X) → ((a == c) && (b == d)) ≡ false → at_pair f a b x c d ≡ f c d
pair_off f a b c d x e = ap (λ (t : Bool). if t then x else f c d) e

pub pair_at : {X : Type 0} (f : ℕ → ℕ → X) (a b : ℕ) (x : X) → at_pair f a b x a b ≡ x
pair_at f a b x = ap (λ (t : Bool). if t && (b == b) then x else f a b) (eq_self a) ∙ ap (λ (t : Bool). if t then x else f a b) (eq_self b)

pub untaken_apart : (a b c d : ℕ) → Untaken c d ≢ Untaken a b → ((a == c) && (b == d)) ≡ false
untaken_apart a b c d apart = false_from_ne_true ((a == c) && (b == d)) (λ e. let k = and_parts (a == c) (b == d) e in apart (ap (λ x. Untaken x d) (sym (eqb-true a c k.0)) ∙ ap (Untaken a) (sym (eqb-true b d k.1))))

-- a pair that is set to one with the same untaken messages
pub pair_keeps : (f : ℕ → ℕ → Pair) (a b : ℕ) (p : Pair) → untaken p ≡ untaken (f a b) → (c d : ℕ) → untaken (at_pair f a b p c d) ≡ untaken (f c d)
pair_keeps f a b p same c d = elim (cases_Bool ((a == c) && (b == d))) [
  | inl here ↦
      let k = and_parts (a == c) (b == d) here in
      ap untaken (ap (λ (t : Bool). if t then p else f c d) here) ∙ same ∙ ap (λ x. untaken (f x b)) (eqb-true a c k.0) ∙ ap (λ x. untaken (f c x)) (eqb-true b d k.1)
  | inr apart ↦ ap untaken (pair_off f a b c d p apart)
]

-- the bag with a message under its name
abbrev pub having : MsgId → Pid → Bag → Bag
having i x bag j = if id_eq i j then Some x else bag j

pub having_off : (i : MsgId) (x : Pid) (bag : Bag) → SameBut i bag (having i x bag)
having_off i x bag j e = ap (λ (c : Bool). if c then Some x else bag j) e

-- a message comes to a spot that is no queue, and its put tells its receiver
comes_told : (bag : Bag) (v w : View) (i : MsgId) (x : Pid) → ((j : MsgId) → id_eq i j ≡ false → w.told j ≡ v.told j) → receiver_of (w.told i) ≡ Some x → Stands bag v
    → (j : MsgId) (y : Pid) → having i x bag j ≡ Some y → receiver_of (w.told j) ≡ Some y
comes_told bag v w i x others mine h j y is = elim (cases_Bool (id_eq i j)) [
  | inl same ↦
      let k : Some x ≡ Some y = sym (ap (λ (c : Bool). if c then Some x else bag j) same) ∙ is in
      let xy : x ≡ y = cc in sym (ap (λ t. receiver_of (w.told t)) (id_eq-is i j same)) ∙ mine ∙ ap (λ (t : Pid). Some t) xy
  | inr apart ↦ ap receiver_of (others j apart) ∙ h.told j y (sym (having_off i x bag j apart) ∙ is)
]

-- a queue has none of a message that isn't in the bag
not_queued : (bag : Bag) (v : View) (m : ℕ) (p : Pid) (i : MsgId) → bag i ≡ None → Stands bag v → times i (v.queue m p) ≡ 0
not_queued bag v m p i none h = (elim (bag i) as (λ m_. m_ ≡ None → StandsAsBag m_ (standing v i) → (standing v i) (Queue m p) ≡ 0)
    [ None ↦ λ e h_. h_ (Queue m p) | Some x ↦ λ e h_. cc ]) none (h.kept i)

comes_mine : (bag : Bag) (v : View) (i : MsgId) (x : Pid) → bag i ≡ None → Stands bag v → (m : ℕ) (p : Pid) (j : MsgId) (y : Pid) → 1 ≤ times j (v.queue m p) → having i x bag j ≡ Some y → y ≡ p
comes_mine bag v i x none h m p j y least is = elim (cases_Bool (id_eq i j)) [
  | inl same ↦ absurd (let e : i ≡ j = id_eq-is i j same in let z : times j (v.queue m p) ≡ 0 = subst (λ t. times t (v.queue m p) ≡ 0) e (not_queued bag v m p i none h) in omega (arith, least, z))
  | inr apart ↦ h.mine m p j y least (sym (having_off i x bag j apart) ∙ is)
]

-- a message comes to a spot, and nothing else changes
pub Stands-comes : (bag : Bag) (v w : View) (i : MsgId) (x : Pid) (y : Spot) → bag i ≡ None → ((j : MsgId) → times j (ids_at w y) ≡ times j (ids_at v y) + one_of j i) → ((z : Spot) → z ≢ y → ids_at w z ≡ ids_at v z)
    → ((m : ℕ) (p : Pid) → w.queue m p ≡ v.queue m p) → ((j : MsgId) → id_eq i j ≡ false → w.told j ≡ v.told j) → receiver_of (w.told i) ≡ Some x → Stands bag v → Stands (having i x bag) w
Stands-comes bag v w i x y none at_y off queues others mine h = record {
  kept = once_comes v w bag (having i x bag) i y x none (ap (λ (c : Bool). if c then Some x else bag i) (id_eq-same i)) (having_off i x bag) at_y off h.kept;
  told = comes_told bag v w i x others mine h;
  mine = λ m p j z least is. comes_mine bag v i x none h m p j z (subst (λ n. 1 ≤ n) (ap (times j) (queues m p)) least) is;
}

-- a put: on the pair of a machine with itself the message comes to the inbox, on another to the pair's end
told_at : (v : View) (i : MsgId) (t : Told) (q : Pid) → (view.first_told (v.told i) t).receiver ≡ q → receiver_of (at_id v.told i (Some (view.first_told (v.told i) t)) i) ≡ Some q
told_at v i t q is = ap receiver_of (ap (λ (c : Bool). if c then Some (view.first_told (v.told i) t) else v.told i) (id_eq-same i)) ∙ ap Some is

-- a first put tells of the receiver, and a later one tells nothing else
pub untold_tells : (o : Option Told) (t : Told) → o ≡ None → (view.first_told o t).receiver ≡ t.receiver
untold_tells None t e = refl
untold_tells (Some u) t e = cc

told_off : (v : View) (i j : MsgId) (t : Option Told) → id_eq i j ≡ false → at_id v.told i t j ≡ v.told j
told_off v i j t e = ap (λ (c : Bool). if c then t else v.told j) e

pub Stands-put-home : (bag : Bag) (v : View) (m : ℕ) (i : MsgId) (k : MessageKind) (x : Pid) → bag i ≡ None → (view.first_told (v.told i) (record { kind = k; receiver = x; about = v.topic })).receiver ≡ x → (v.pair m m).taken ≡ length (v.pair m m).ids
    → Stands bag v → Stands (having i x bag) (view.after_put v m m i k x)
Stands-put-home bag v m i k x none untold full h =
    let put_home_off : (v : View) (m : ℕ) (i : MsgId) (k : MessageKind) (q : Pid) (z : Spot) → z ≢ Inbox m → (view.after_put v m m i k q).inbox ≡ at_machine v.inbox m (v.inbox m ++ i ∷ [])
    → untaken (view.routed_on m m (v.pair m m) i) ≡ untaken (v.pair m m) → ids_at (view.after_put v m m i k q) z ≡ ids_at v z =
    λ v m i k q z h1 h2 h3. grind (arith, nat_tests, at_machine_off, inbox_apart, pair_keeps) in
    let w = view.after_put v m m i k x in
    let t : Told = record { kind = k; receiver = x; about = v.topic } in
    let inbox : w.inbox ≡ at_machine v.inbox m (v.inbox m ++ i ∷ []) = ap (λ (c : Bool). if c then at_machine v.inbox m (v.inbox m ++ i ∷ []) else v.inbox) (eq_self m) in
    let put_home_untaken : (m : ℕ) (p : Pair) (i : MsgId) → p.taken ≡ length p.ids → untaken (view.routed_on m m p i) ≡ untaken p = λ m p i full.
    let taken : (view.routed_on m m p i).taken ≡ length p.ids + 1 = ap (λ (c : Bool). if c then p.taken + 1 else p.taken) (eq_self m) ∙ ap (λ n. n + 1) full in
    ap (λ n. drop n (p.ids ++ i ∷ [])) taken ∙ subst (λ n. drop n (p.ids ++ i ∷ []) ≡ []) (length-append p.ids (i ∷ [])) (drop-length (p.ids ++ i ∷ [])) ∙ sym (ap (λ n. drop n p.ids) full ∙ drop-length p.ids) in
    Stands-comes bag v w i x (Inbox m) none
    (λ j. ap (times j) (ap (λ f. f m) inbox ∙ at_machine_at v.inbox m (v.inbox m ++ i ∷ [])) ∙ one_more j i (v.inbox m))
    (λ z apart. put_home_off v m i k x z apart inbox (put_home_untaken m (v.pair m m) i full)) (λ n p. refl) (λ j apart. told_off v i j (Some (view.first_told (v.told i) t)) apart) (told_at v i t x untold) h

pub Stands-put-away : (bag : Bag) (v : View) (a b : ℕ) (i : MsgId) (k : MessageKind) (x : Pid) → (a == b) ≡ false → bag i ≡ None → (view.first_told (v.told i) (record { kind = k; receiver = x; about = v.topic })).receiver ≡ x → (v.pair a b).taken ≤ length (v.pair a b).ids
    → Stands bag v → Stands (having i x bag) (view.after_put v a b i k x)
Stands-put-away bag v a b i k x apart none untold within h =
    let w = view.after_put v a b i k x in
    let t : Told = record { kind = k; receiver = x; about = v.topic } in
    let inbox : w.inbox ≡ v.inbox = ap (λ (c : Bool). if c then at_machine v.inbox b (v.inbox b ++ i ∷ []) else v.inbox) apart in
    let put_away_untaken : (a b : ℕ) (p : Pair) (i : MsgId) → (a == b) ≡ false → p.taken ≤ length p.ids → untaken (view.routed_on a b p i) ≡ untaken p ++ i ∷ [] = λ a b p i apart within.
    ap (λ n. drop n (p.ids ++ i ∷ [])) (ap (λ (c : Bool). if c then p.taken + 1 else p.taken) apart) ∙ drop-append-le p.taken p.ids (i ∷ []) within in
    Stands-comes bag v w i x (Untaken a b) none
    (λ j. ap (times j) (ap untaken (pair_at v.pair a b (view.routed_on a b (v.pair a b) i)) ∙ put_away_untaken a b (v.pair a b) i apart within) ∙ one_more j i (untaken (v.pair a b)))
    (λ z off. (let e_ : ids_at (view.after_put v a b i k x) z ≡ ids_at v z = search (arith, pair_off, untaken_apart) in e_)) (λ n p. refl) (λ j other. told_off v i j (Some (view.first_told (v.told i) t)) other) (told_at v i t x untold) h

-- a message is taken: the oldest that wasn't goes to the inbox, or there is none
abbrev pub taken_pair : Pair → ℕ → Pair
taken_pair p n = record p { taken = p.taken + 1; kept = filter (λ k. not (k == n)) p.kept }

pub taken_by : (bag : Bag) (v : View) (a b n : ℕ) (o : Option MsgId) → slice_get (v.pair a b).ids (v.pair a b).taken ≡ o → Stands bag v → Stands bag (view.taken_id (view.with_pair v a b (taken_pair (v.pair a b) n)) b o)
taken_by bag v a b n None is h =
    let k = past_place (v.pair a b).ids (v.pair a b).taken is in
    let next : (v.pair a b).taken + 1 ≡ suc (v.pair a b).taken = omega arith in
    Stands-stays bag v (view.with_pair v a b (taken_pair (v.pair a b) n)) (λ z. elim z as (λ z_. ids_at (view.with_pair v a b (taken_pair (v.pair a b) n)) z_ ≡ ids_at v z_)
    [ Untaken c d ↦ pair_keeps v.pair a b (taken_pair (v.pair a b) n) (ap (λ m. drop m (v.pair a b).ids) next ∙ k.1 ∙ sym k.0) c d | _ ↦ refl ]) (λ j. refl) h
taken_by bag v a b n (Some i) is h =
    let taken_off : (v : View) (a b n : ℕ) (i : MsgId) (z : Spot) → z ≢ Untaken a b → z ≢ Inbox b → ids_at (record (view.with_pair v a b (taken_pair (v.pair a b) n)) { inbox = at_machine v.inbox b (v.inbox b ++ i ∷ []) }) z ≡ ids_at v z =
    λ v a b n i z h1 h2. search (arith, at_machine_off, inbox_apart, pair_off, untaken_apart) in
    let u = record (view.with_pair v a b (taken_pair (v.pair a b) n)) { inbox = at_machine v.inbox b (v.inbox b ++ i ∷ []) } in
    let next : (v.pair a b).taken + 1 ≡ suc (v.pair a b).taken = omega arith in
    let front : untaken (v.pair a b) ≡ i ∷ drop (suc (v.pair a b).taken) (v.pair a b).ids = at_place (v.pair a b).ids (v.pair a b).taken i is in
    let now : ids_at u (Untaken a b) ≡ drop (suc (v.pair a b).taken) (v.pair a b).ids = ap untaken (pair_at v.pair a b (taken_pair (v.pair a b) n)) ∙ ap (λ m. drop m (v.pair a b).ids) next in
    let taken_spots : (a b : ℕ) → Untaken a b ≢ Inbox b = λ a b e. false≢true (ap is_inbox e) in
    record {
      kept = once_moves v u bag bag i (Untaken a b) (Inbox b) (taken_spots a b) (λ j. refl)
          (λ j. let x : times j (untaken (v.pair a b)) ≡ times j (i ∷ drop (suc (v.pair a b).taken) (v.pair a b).ids) = ap (times j) front in let y : times j (ids_at u (Untaken a b)) ≡ times j (drop (suc (v.pair a b).taken) (v.pair a b).ids) = ap (times j) now in omega (arith, x, y))
          (λ j. ap (times j) (at_machine_at v.inbox b (v.inbox b ++ i ∷ [])) ∙ one_more j i (v.inbox b)) (λ z x y. taken_off v a b n i z x y) h.kept;
      told = h.told;
      mine = h.mine;
    }
