-- Each message stands where its receiver is at home: what lines do to the lists that messages stand in.
use Rattle.dm_law_rule.proofs.Names.{◌≡◌, ℕ, zero, suc, ◌+◌, ◌≤◌, ◌==◌, ◌&&◌, Bool, true, false, List, [], ◌∷◌, ◌++◌, drop, refl, ap, ◌∙◌, sym, arith, nat_le, if◌then◌else◌, slice_get, Option, None, Some, nat_tests, Pid, MsgId, id_eq}
use Rattle.dm_law_rule.proofs.Names.{MessageKind, PlainMessage, Label, OneKernel, at_machine, at_pair, at_record, without_id, without_front, untaken, View, Pair, after_label, served_told, ends_by, handled, taken_id, is_for_home, are_for_home}
use Rattle.dm_law_rule.proofs.Names.{both_true, sort_of, and_parts, none_some}
use Rattle.dm_law_rule.specs.View as view

-- each of these messages has entered, and is for a receiver of this home as long as it is in the bag
abbrev pub stands : OneKernel → (MsgId → ℕ) → ℕ → MsgId → Bool
stands s e m i = nat_le 1 (e i) && is_for_home m (s.bag i)

abbrev pub all_stand : OneKernel → (MsgId → ℕ) → ℕ → List MsgId → Bool
all_stand s e m [] = true
all_stand s e m (i ∷ is) = stands s e m i && all_stand s e m is

pub are_for : (s : OneKernel) (e : MsgId → ℕ) (m : ℕ) (is : List MsgId) → all_stand s e m is ≡ true → are_for_home s m is ≡ true
are_for s e m [] h = refl
are_for s e m (i ∷ is) h =
    let k = and_parts (stands s e m i) (all_stand s e m is) h in
    both_true (is_for_home m (s.bag i)) (are_for_home s m is) (and_parts (nat_le 1 (e i)) (is_for_home m (s.bag i)) k.0).1 (are_for s e m is k.1)

pub all_stand_last : (s : OneKernel) (e : MsgId → ℕ) (m : ℕ) (is : List MsgId) (i : MsgId) → all_stand s e m is ≡ true → stands s e m i ≡ true → all_stand s e m (is ++ i ∷ []) ≡ true
all_stand_last s e m [] i h k = both_true (stands s e m i) true k refl
all_stand_last s e m (j ∷ js) i h k =
    let w = and_parts (stands s e m j) (all_stand s e m js) h in
    both_true (stands s e m j) (all_stand s e m (js ++ i ∷ [])) w.0 (all_stand_last s e m js i w.1 k)

pub all_stand_front : (s : OneKernel) (e : MsgId → ℕ) (m : ℕ) (i : MsgId) (is : List MsgId) → all_stand s e m is ≡ true → all_stand s e m (without_front i is) ≡ true
all_stand_front s e m i is h1 = search (arith, and_parts)

pub all_stand_without : (s : OneKernel) (e : MsgId → ℕ) (m : ℕ) (i : MsgId) (is : List MsgId) → all_stand s e m is ≡ true → all_stand s e m (without_id i is) ≡ true
all_stand_without s e m i [] h = refl
all_stand_without s e m i (j ∷ js) h =
    let w = and_parts (stands s e m j) (all_stand s e m js) h in
    (elim (id_eq i j) as (λ b. all_stand s e m (if b then js else j ∷ (without_id i js)) ≡ true)
    [ true ↦ w.1 | false ↦ both_true (stands s e m j) (all_stand s e m (without_id i js)) w.0 (all_stand_without s e m i js w.1) ])

pub drop_last : (s : OneKernel) (e : MsgId → ℕ) (m n : ℕ) (is : List MsgId) (i : MsgId) → all_stand s e m (drop n is) ≡ true → stands s e m i ≡ true → all_stand s e m (drop n (is ++ i ∷ [])) ≡ true
drop_last s e m zero is i h k = all_stand_last s e m is i h k
drop_last s e m (suc n) [] i h k = elim n as (λ n_. all_stand s e m (drop n_ []) ≡ true) [ zero ↦ refl | suc f ↦ refl ]
drop_last s e m (suc n) (j ∷ js) i h k = drop_last s e m n js i h k

pub drop_one : (s : OneKernel) (e : MsgId → ℕ) (m n : ℕ) (is : List MsgId) → all_stand s e m (drop n is) ≡ true → all_stand s e m (drop (suc n) is) ≡ true
drop_one s e m n [] h = refl
drop_one s e m zero (j ∷ js) h = (and_parts (stands s e m j) (all_stand s e m js) h).1
drop_one s e m (suc n) (j ∷ js) h = drop_one s e m n js h

pub drop_first : (s : OneKernel) (e : MsgId → ℕ) (m n : ℕ) (is : List MsgId) (i : MsgId) → slice_get is n ≡ Some i → all_stand s e m (drop n is) ≡ true → stands s e m i ≡ true
drop_first s e m n [] i f h = none_some i f
drop_first s e m zero (j ∷ js) i f h = let k : j ≡ i = cc in ap (stands s e m) (sym k) ∙ (and_parts (stands s e m j) (all_stand s e m js) h).0
drop_first s e m (suc n) (j ∷ js) i f h = drop_first s e m n js i f h

-- the kernel goes on: what has entered, and is in the bag, was there already
abbrev pub Old : (MsgId → ℕ) → OneKernel → OneKernel → Type 0
Old e s t = (i : MsgId) (x : PlainMessage) → nat_le 1 (e i) ≡ true → t.bag i ≡ Some x → s.bag i ≡ Some x

pub stand_on : (s t : OneKernel) (e f : MsgId → ℕ) (m : ℕ) (is : List MsgId) → Old e s t → ((i : MsgId) → e i ≤ f i) → all_stand s e m is ≡ true → all_stand t f m is ≡ true
stand_on s t e f m [] old le h = refl
stand_on s t e f m (i ∷ is) old le h =
    let w = and_parts (stands s e m i) (all_stand s e m is) h in
    let x = and_parts (nat_le 1 (e i)) (is_for_home m (s.bag i)) w.0 in
    let more = le i in
    let for_home_on : (m : ℕ) (a b : Option PlainMessage) → ((x : PlainMessage) → b ≡ Some x → a ≡ Some x) → is_for_home m a ≡ true → is_for_home m b ≡ true =
    λ m a b h k. (elim b as (λ b_. (((x : PlainMessage) → b_ ≡ Some x → a ≡ Some x)) → is_for_home m b_ ≡ true) [ None ↦ λ h'. refl | Some x' ↦ λ h'. sym (ap (is_for_home m) (h' x' refl)) ∙ k ]) h in
    both_true (stands t f m i) (all_stand t f m is)
    (both_true (nat_le 1 (f i)) (is_for_home m (t.bag i)) (let g : nat_le 1 (f i) ≡ true = grind (arith, nat_tests) in g) (for_home_on m (s.bag i) (t.bag i) (λ y there. old i y x.0 there) x.1))
    (stand_on s t e f m is old le w.1)

pub record ListsHome (s : OneKernel) (e : MsgId → ℕ) (v : View) : Type 0 where
  pub inbox : (m : ℕ) → all_stand s e m (v.inbox m) ≡ true
  pub queue : (m : ℕ) (p : Pid) → all_stand s e m (v.queue m p) ≡ true
  pub untaken : (a m : ℕ) → all_stand s e m (untaken (v.pair a m)) ≡ true

-- one machine's inbox, one process's queue
pub inbox_set : (s : OneKernel) (e : MsgId → ℕ) (f : ℕ → List MsgId) (m : ℕ) (is : List MsgId) → all_stand s e m is ≡ true → ((n : ℕ) → all_stand s e n (f n) ≡ true) → (n : ℕ) → all_stand s e n (at_machine f m is n) ≡ true
inbox_set s e f m is h k n = search arith

pub queue_set : (s : OneKernel) (e : MsgId → ℕ) (f : ℕ → Pid → List MsgId) (m : ℕ) (p : Pid) (is : List MsgId) → all_stand s e m is ≡ true → ((n : ℕ) (q : Pid) → all_stand s e n (f n q) ≡ true) → (n : ℕ) (q : Pid) → all_stand s e n (at_record f m p is n q) ≡ true
queue_set s e f m p is h k n q = search arith

-- a label's lists
pub handled_lists : (s : OneKernel) (e : MsgId → ℕ) (v : View) (id : MsgId) → ListsHome s e v → ListsHome s e (handled v id)
handled_lists s e v id h = search (arith, inbox_set, all_stand_front)

pub label_lists : (s : OneKernel) (e : MsgId → ℕ) (v : View) (l : Label) → ListsHome s e v → ListsHome s e (after_label v l)
label_lists s e v (Label.Ran p k) h = record { inbox = h.inbox; queue = h.queue; untaken = h.untaken }
label_lists s e v (Label.End p y) h = record { inbox = h.inbox; queue = h.queue; untaken = h.untaken }
label_lists s e v (Label.Receive p id) h = record {
  inbox = h.inbox;
  queue = queue_set s e v.queue v.acting p (without_id id (v.queue v.acting p)) (all_stand_without s e v.acting id (v.queue v.acting p) (h.queue v.acting p)) h.queue;
  untaken = h.untaken;
}
label_lists s e v (Label.Refuse p id c) h = record { inbox = h.inbox; queue = h.queue; untaken = h.untaken }
label_lists s e v (Label.Dropped id) h =
    let dropped_lists : (s : OneKernel) (e : MsgId → ℕ) (v : View) (id : MsgId) (o : Option Pid) → ListsHome s e v → ListsHome s e (view.dropped_for v id o) = λ s e v id o h1. search (arith, queue_set, all_stand_front) in
    dropped_lists s e (handled v id) id (view.receiver_of (v.told id)) (handled_lists s e v id h)
label_lists s e v (Label.Served id) h =
    let kills_lists : (s : OneKernel) (e : MsgId → ℕ) (v : View) (k : MessageKind) (o : Option Pid) → ListsHome s e v → ListsHome s e (ends_by (sort_of k) v o) = λ s e v k o h1. search arith in
    elim (v.told id) as (λ o. ListsHome s e (served_told (handled v id) o))
    [ None ↦ (handled_lists s e v id h) | Some t ↦ kills_lists s e (handled v id) t.kind (Some t.receiver) (handled_lists s e v id h) ]
label_lists s e v (Label.Gone id) h = handled_lists s e v id h
label_lists s e v (Label.Took id) h = handled_lists s e v id h
label_lists s e v (Label.Created id p) h = let k = handled_lists s e v id h in record { inbox = k.inbox; queue = k.queue; untaken = k.untaken }
label_lists s e v (Label.NoSpace id f b) h = handled_lists s e v id h
label_lists s e v (Label.Asked id) h = handled_lists s e v id h
label_lists s e v _ h = h

pub pair_set : (s : OneKernel) (e : MsgId → ℕ) (f : ℕ → ℕ → Pair) (a b : ℕ) (p : Pair) → all_stand s e b (untaken p) ≡ true → ((c d : ℕ) → all_stand s e d (untaken (f c d)) ≡ true) → (c d : ℕ) → all_stand s e d (untaken (at_pair f a b p c d)) ≡ true
pair_set s e f a b p h k c d =
    -- a pair changes
    let pair_if : (s : OneKernel) (e : MsgId → ℕ) (b d : ℕ) (c : Bool) (p q : Pair) → (b == d) ≡ true → all_stand s e b (untaken p) ≡ true → all_stand s e d (untaken q) ≡ true → all_stand s e d (untaken (if c then p else q)) ≡ true =
    λ s e b d c p q same h k. elim c as (λ c_. all_stand s e d (untaken (if c_ then p else q)) ≡ true) [ true ↦ let at : b ≡ d = grind (arith, nat_tests) in ap (λ (i : ℕ). all_stand s e i (untaken p)) (sym at) ∙ h | false ↦ k ] in
    ap (λ (x : Bool). all_stand s e d (untaken (if x then p else f c d))) (let e_ : ((a == c) && (b == d)) ≡ ((b == d) && (a == c)) = search arith in e_)
    ∙ (search (arith, pair_if))

-- a message is routed
pub routed_stands : (s : OneKernel) (e : MsgId → ℕ) (a b : ℕ) (p : Pair) (id : MsgId) (c : Bool) → stands s e b id ≡ true → all_stand s e b (untaken p) ≡ true → all_stand s e b (drop (if c then p.taken + 1 else p.taken) (p.ids ++ id ∷ [])) ≡ true
routed_stands s e a b p id true at h = search (arith, drop_one, drop_last)
routed_stands s e a b p id false at h = drop_last s e b p.taken p.ids id h at

-- a message is taken
pub taken_with : (s : OneKernel) (e : MsgId → ℕ) (v : View) (b : ℕ) (o : Option MsgId) → ((i : MsgId) → o ≡ Some i → stands s e b i ≡ true) → ListsHome s e v → ListsHome s e (taken_id v b o)
taken_with s e v b None at h = h
taken_with s e v b (Some id) at h = record { inbox = inbox_set s e v.inbox b (v.inbox b ++ id ∷ []) (all_stand_last s e b (v.inbox b) id (h.inbox b) (at id refl)) h.inbox; queue = h.queue; untaken = h.untaken }
