-- Messages of one sender to one process on one channel stand in the order in which they were sent: each line keeps it.
use Rattle.dm_law_always.proofs.Names.{Inbox, ◌≡◌, ℕ, suc, ◌+◌, ◌≤◌, ◌<◌, ◌==◌, ◌&&◌, Bool, true, false, not, List, [], ◌∷◌, ◌++◌, refl, ap, ◌∙◌, sym, subst, is_some, arith, if◌then◌else◌, Option, None, Some, false≢true, Pid, pid_eq, MsgId}
use Rattle.dm_law_always.proofs.Names.{id_of, PlainMessage, PlainWhat, Label, Life, OneKernel, counts, is_counted, Grown, LifeGrows, after_step, at_machine, at_record, without_front, untaken, View, after_label, handled, Point, served_keeps}
use Rattle.dm_law_always.proofs.Names.{Each, not_kernels, Sane, pid_eq-is, entry, reception, came_from, zero, drop, ◌⊎◌, inl, inr, cases_Bool, nat_tests, without_id, at_pair, Pair, not_false, ordered, first_one, first_not, put_one, put_not}
use Rattle.dm_law_always.proofs.Names.{drop_one, context}
use Rattle.dm_law_always.proofs.Fits.Rises.{Each-on, both, two}
use Rattle.dm_law_always.proofs.Queued.{is_user}
use Rattle.dm_onekernel.specs.Step as kernel
use Rattle.dm_law_rule.specs.View as view

-- fewer are of the kind
pub fewer : (g h : MsgId → Bool) (from : ℕ) (is : List MsgId) → Each (λ (i : MsgId). h i ≡ true → g i ≡ true) is → ordered g from is ≡ true → ordered h from is ≡ true
fewer g h from [] f e = refl
fewer g h from (i ∷ is) f e = elim (cases_Bool (h i)) [
  | inl one ↦ let k = first_one g from i is (f.0 one) e in put_one h from i is one k.0 (fewer g h (i.n + 1) is f.1 k.1)
  | inr not_ ↦ put_not h from i is not_ (fewer g h from is f.1 (drop_one g from i is e))
]

-- one more at the end
pub add_last : (g : MsgId → Bool) (from : ℕ) (is : List MsgId) (j : MsgId) → Each (λ (i : MsgId). g i ≡ true → i.n < j.n) is → from ≤ j.n → ordered g from is ≡ true → ordered g from (is ++ j ∷ []) ≡ true
add_last g from [] j below le h = search (arith, put_one, put_not)
add_last g from (i ∷ is) j below le h = elim (cases_Bool (g i)) [
  | inl one ↦ let k = first_one g from i is one h in let b = below.0 one in put_one g from i (is ++ j ∷ []) one k.0 (add_last g (i.n + 1) is j below.1 (omega (arith, b)) k.1)
  | inr not_ ↦ put_not g from i (is ++ j ∷ []) not_ (add_last g from is j below.1 le (first_not g from i is not_ h))
]

-- Each over two lists
pub Each-both : {X : Type 0} (P : X → Type 0) (xs ys : List X) → Each P xs → Each P ys → Each P (xs ++ ys)
Each-both P [] ys h k = k
Each-both P (x ∷ xs) ys h k = (h.0, Each-both P xs ys h.1 k)

-- lists with fewer messages
pub record Thins (xs ys : List MsgId) : Type 0 where
  pub order : (g : MsgId → Bool) (from : ℕ) (rest : List MsgId) → ordered g from (ys ++ rest) ≡ true → ordered g from (xs ++ rest) ≡ true
  pub told : (g : MsgId → Bool) → Each (λ (i : MsgId). g i ≡ true) ys → Each (λ (i : MsgId). g i ≡ true) xs

pub thins_same : (xs ys : List MsgId) → xs ≡ ys → Thins xs ys
thins_same xs ys e = search arith

pub thins_front : (i : MsgId) (xs : List MsgId) → Thins (without_front i xs) xs
thins_front i xs = search (arith, thins_same, drop_one)

pub thins_without : (i : MsgId) (xs : List MsgId) → Thins (without_id i xs) xs
thins_without i [] = thins_same [] [] refl
thins_without i (x ∷ xs) = search (arith, drop_one, context, (thins_without i xs))

-- the end of a list that one is put behind
pub drop_end : (n : ℕ) (xs : List MsgId) (j : MsgId) → (drop n (xs ++ j ∷ []) ≡ drop n xs ++ j ∷ []) ⊎ (drop n (xs ++ j ∷ []) ≡ [])
drop_end zero xs j = inl refl
drop_end (suc zero) [] j = inr refl
drop_end (suc (suc n)) [] j = inr refl
drop_end (suc n) (x ∷ xs) j = drop_end n xs j

-- Messages of one sender to one process on one channel stand in the order in which they were sent: each line keeps it.

-- messages from one to another on a channel, from a number on
pub record Which : Type 0 where
  pub from : Pid
  pub to : Pid
  pub channel : ℕ
  pub floor : ℕ

abbrev pub on_channel : ℕ → PlainWhat → Bool
on_channel c (PlainWhat.User code channel body links) = channel == c
on_channel c w = false

abbrev pub is_mine : Which → Option PlainMessage → Bool
is_mine q None = false
is_mine q (Some x) = pid_eq x.to q.to && on_channel q.channel x.what

abbrev pub is_one : OneKernel → Which → MsgId → Bool
is_one s q i = (pid_eq i.from q.from && not i.answer) && is_mine q (s.bag i)

abbrev pub is_told : View → MsgId → Bool
is_told v i = is_some (v.told i)

-- all that waits for the process, its queue first
abbrev pub awaiting : Which → View → List MsgId
awaiting q v = v.queue q.to.home q.to ++ (v.inbox q.to.home ++ untaken (v.pair q.from.home q.to.home))

-- a user message on the way from a machine is of a sender whose home that is
abbrev pub Sourced : OneKernel → ℕ → MsgId → Type 0
Sourced s a i = (x : PlainMessage) → s.bag i ≡ Some x → is_user x.what ≡ true → i.from.home ≡ a

abbrev pub AllTold : View → List MsgId → Type 0
AllTold v is = Each (λ (i : MsgId). is_told v i ≡ true) is

pub record Ord (q : Which) (s : OneKernel) (v : View) : Type 0 where
  pub order : ordered (is_one s q) q.floor (awaiting q v) ≡ true
  pub floor : (n : ℕ) → n < q.floor → counts s (id_of q.from n) ≡ true
  pub last_told : (n : ℕ) → suc n ≡ q.floor → is_told v (id_of q.from n) ≡ true
  pub queue_told : AllTold v (v.queue q.to.home q.to)
  pub inbox_told : AllTold v (v.inbox q.to.home)
  pub away_told : (a : ℕ) → AllTold v (untaken (v.pair a q.to.home))
  pub sourced : (a : ℕ) → Each (Sourced s a) (untaken (v.pair a q.to.home))
  pub loop : untaken (v.pair q.to.home q.to.home) ≡ []

-- lists that only get fewer
pub record ThinFor (q : Which) (v w : View) : Type 0 where
  pub queue : Thins (w.queue q.to.home q.to) (v.queue q.to.home q.to)
  pub inbox : Thins (w.inbox q.to.home) (v.inbox q.to.home)
  pub away : (a : ℕ) → untaken (w.pair a q.to.home) ≡ untaken (v.pair a q.to.home)
  pub told : (i : MsgId) → is_told v i ≡ true → is_told w i ≡ true

pub told_on : (v w : View) (is : List MsgId) → ((i : MsgId) → is_told v i ≡ true → is_told w i ≡ true) → AllTold v is → AllTold w is
told_on v w is f h = Each-on (λ (i : MsgId). is_told v i ≡ true) (λ (i : MsgId). is_told w i ≡ true) f is h

pub ord_view : (q : Which) (s : OneKernel) (v w : View) → ThinFor q v w → Ord q s v → Ord q s w
ord_view q s v w t h =
    let g = is_one s q in
    let m = q.to.home in
    let uv = untaken (v.pair q.from.home m) in
    let uw = untaken (w.pair q.from.home m) in
    record {
      order = context g q.floor (w.queue m q.to) (v.inbox m ++ uv) (w.inbox m ++ uw)
          (λ k e. t.inbox.order g k uw (ap (λ xs. ordered g k (v.inbox m ++ xs)) (t.away q.from.home) ∙ e))
          (t.queue.order g q.floor (v.inbox m ++ uv) h.order);
      floor = h.floor;
      last_told = λ n e. t.told (id_of q.from n) (h.last_told n e);
      queue_told = told_on v w (w.queue m q.to) t.told (t.queue.told (is_told v) h.queue_told);
      inbox_told = told_on v w (w.inbox m) t.told (t.inbox.told (is_told v) h.inbox_told);
      away_told = λ a. told_on v w (untaken (w.pair a m)) t.told (subst (AllTold v) (sym (t.away a)) (h.away_told a));
      sourced = λ a. subst (Each (Sourced s a)) (sym (t.away a)) (h.sourced a);
      loop = t.away m ∙ h.loop;
    }

Each-two : {X : Type 0} (P Q R : X → Type 0) → ((x : X) → P x → Q x → R x) → (xs : List X) → Each P xs → Each Q xs → Each R xs
Each-two P Q R f [] h k = tt
Each-two P Q R f (x ∷ xs) h k = (f x h.0 k.0, Each-two P Q R f xs h.1 k.1)

pub all_told : (q : Which) (s : OneKernel) (v : View) → Ord q s v → AllTold v (awaiting q v)
all_told q s v h = search (arith, Each-both, h.queue_told, h.inbox_told, h.away_told)

pub ord_step : (q : Which) (s t : OneKernel) (v : View) → ((i : MsgId) (x : PlainMessage) → is_told v i ≡ true → t.bag i ≡ Some x → s.bag i ≡ Some x) → ((i : MsgId) → counts s i ≡ true → counts t i ≡ true) → Ord q s v → Ord q t v
ord_step q s t v was grows h = record {
  order = fewer (is_one s q) (is_one t q) q.floor (awaiting q v)
      (Each-on (λ (i : MsgId). is_told v i ≡ true) (λ (i : MsgId). is_one t q i ≡ true → is_one s q i ≡ true) (λ i told. (λ h. search arith)) (awaiting q v) (all_told q s v h)) h.order;
  floor = λ n less. grows (id_of q.from n) (h.floor n less);
  last_told = h.last_told;
  queue_told = h.queue_told;
  inbox_told = h.inbox_told;
  away_told = h.away_told;
  sourced = λ a. Each-two (λ (i : MsgId). is_told v i ≡ true) (Sourced s a) (Sourced t a) (λ i told f x there. f x (was i x told there)) (untaken (v.pair a q.to.home)) (h.away_told a) (h.sourced a);
  loop = h.loop;
}

-- counts only grow
life_counts : (n : ℕ) (a b : Option Life) → LifeGrows a b → is_counted n a ≡ true → is_counted n b ≡ true
life_counts n a b h1 h2 = search arith

pub counts_grown : (s t : OneKernel) → Grown s t → (i : MsgId) → counts s i ≡ true → counts t i ≡ true
counts_grown s t g i h = grind (arith, nat_tests, i.n, s.switchboard.sent, s.manager.sent, t.switchboard.sent, t.manager.sent, g.switchboard, g.manager, life_counts)

-- labels
pub thin_same : (q : Which) (v w : View) → w.queue q.to.home q.to ≡ v.queue q.to.home q.to → Thins (w.inbox q.to.home) (v.inbox q.to.home) → ((a : ℕ) → untaken (w.pair a q.to.home) ≡ untaken (v.pair a q.to.home)) → ((i : MsgId) → w.told i ≡ v.told i) → ThinFor q v w
thin_same q v w queue inbox away told = search (arith, thins_same, w.queue, q.to.home, q.to, v.queue)

pub handled_thin : (v : View) (i : MsgId) (n : ℕ) → Thins ((handled v i).inbox n) (v.inbox n)
handled_thin v i n = search (arith, without_front i (v.inbox v.acting), thins_same (v.inbox n) (v.inbox n) refl, thins_front)

thin_handled : (q : Which) (v : View) (i : MsgId) → ThinFor q v (handled v i)
thin_handled q v i = thin_same q v (handled v i) refl (handled_thin v i q.to.home) (λ a. refl) (λ j. refl)

pub box_same : (v : View) (n : ℕ) → Thins (v.inbox n) (v.inbox n)
box_same v n = thins_same (v.inbox n) (v.inbox n) refl

queue_thin : (v : View) (p : Pid) (xs : List MsgId) (n : ℕ) (r : Pid) → Thins xs (v.queue v.acting p) → Thins (at_record v.queue v.acting p xs n r) (v.queue n r)
queue_thin v p xs n r t = search (arith, v.acting, pid_eq-is)

dropped_thin : (q : Which) (v : View) (i : MsgId) (o : Option Pid) → ThinFor q v (view.dropped_for (handled v i) i o)
dropped_thin q v i None = thin_handled q v i
dropped_thin q v i (Some p) = search (arith, queue_thin, v.queue, v.acting, q.to.home, q.to, thins_front, handled_thin)

pub thin_label : (q : Which) (v : View) (l : Label) → ThinFor q v (after_label v l)
thin_label q v (Label.Ran p k) = thin_same q v (after_label v (Label.Ran p k)) refl (box_same v q.to.home) (λ a. refl) (λ j. refl)
thin_label q v (Label.End p y) = thin_same q v (after_label v (Label.End p y)) refl (box_same v q.to.home) (λ a. refl) (λ j. refl)
thin_label q v (Label.Receive p id) = search (arith, queue_thin, v.queue, v.acting, q.to.home, q.to, thins_without, box_same)
thin_label q v (Label.Refuse p id c) = thin_same q v (after_label v (Label.Refuse p id c)) refl (box_same v q.to.home) (λ a. refl) (λ j. refl)
thin_label q v (Label.Dropped id) = dropped_thin q v id (view.receiver_of (v.told id))
thin_label q v (Label.Served id) =
    let (spots, told, pair, acting, queue) = served_keeps (handled v id) (v.told id) in
    let box = subst (λ (xs : List MsgId). Thins xs (v.inbox q.to.home)) (sym (spots (Inbox q.to.home))) (handled_thin v id q.to.home) in
    thin_same q v (view.served_told (handled v id) (v.told id)) (ap (λ f. f q.to.home q.to) queue) box (λ a. ap (λ f. untaken (f a q.to.home)) pair) told
thin_label q v (Label.Gone id) = thin_handled q v id
thin_label q v (Label.Took id) = thin_handled q v id
thin_label q v (Label.Created id p) = thin_same q v (after_label v (Label.Created id p)) refl (handled_thin v id q.to.home) (λ a. refl) (λ j. refl)
thin_label q v (Label.NoSpace id f b) = thin_handled q v id
thin_label q v (Label.Asked id) = thin_handled q v id
thin_label q v _ = thin_same q v v refl (box_same v q.to.home) (λ a. refl) (λ j. refl)

pub was_told : (pt : Point) (l : Label) (t : OneKernel) (h : Sane pt) → kernel.step pt.kernel l ≡ Some t → (i : MsgId) (x : PlainMessage) → is_told pt.view i ≡ true → t.bag i ≡ Some x → pt.kernel.bag i ≡ Some x
was_told pt l t h is i x told there =
    let a = after_step h.r h.e pt.kernel t l is h.sound in
    came_from (pt.kernel.bag i) (t.bag i) (h.e i) x (a.sound.entered.once i) there (λ y was. a.only i y x was there)
    (λ zero_. absurd (false≢true (sym (ap is_some (h.untold i zero_ (not_kernels (λ j. h.r j + reception j l) (λ j. h.e j + entry j pt.kernel t) t i x there a.sound))) ∙ told)))

pub ord_label : (q : Which) (pt : Point) (l : Label) (t : OneKernel) → Sane pt → kernel.step pt.kernel l ≡ Some t → Ord q pt.kernel pt.view → Ord q t (after_label pt.view l)
ord_label q pt l t h step o =
    let a = after_step h.r h.e pt.kernel t l step h.sound in
    ord_view q t pt.view (after_label pt.view l) (thin_label q pt.view l)
    (ord_step q pt.kernel t pt.view (was_told pt l t h step) (counts_grown pt.kernel t a.grown) o)

-- Routes, deliveries and queues keep the order in which messages were sent.

pub append-assoc : (xs ys zs : List MsgId) → (xs ++ ys) ++ zs ≡ xs ++ (ys ++ zs)
append-assoc [] ys zs = refl
append-assoc (x ∷ xs) ys zs = ap (λ ws. x ∷ ws) (append-assoc xs ys zs)

pub append-none : (xs : List MsgId) → xs ++ [] ≡ xs
append-none [] = refl
append-none (x ∷ xs) = ap (λ ws. x ∷ ws) (append-none xs)

-- the message is the last that its sender counts, and no put has told it
abbrev pub next_id : MsgId → MsgId
next_id j = record { from = j.from; n = j.n + 1; answer = false }

pub record Last (s : OneKernel) (v : View) (j : MsgId) : Type 0 where
  pub home : j.from.home ≡ v.acting
  pub last : counts s (next_id j) ≡ false
  pub untold : v.told j ≡ None

counts_below : (s : OneKernel) (i j : MsgId) → counts s i ≡ true → counts s j ≡ false → i.from ≡ j.from → i.n < j.n
counts_below s i j e f same = search (arith, i.from, j.n, s.switchboard.sent, s.manager.sent, s.processes, i.n)

-- what it is to be one
pub record One (s : OneKernel) (q : Which) (i : MsgId) : Type 0 where
  pub from : i.from ≡ q.from
  pub own : i.answer ≡ false
  pub x : PlainMessage
  pub there : s.bag i ≡ Some x
  pub to : x.to ≡ q.to
  pub user : is_user x.what ≡ true
  pub on : on_channel q.channel x.what ≡ true

one_by : (s : OneKernel) (q : Which) (i : MsgId) (o : Option PlainMessage) → s.bag i ≡ o → i.from ≡ q.from → i.answer ≡ false → is_mine q o ≡ true → One s q i
one_by s q i o h1 h2 h3 h4 = search (arith, both, q.to, q.channel, pid_eq-is)

pub one_is : (s : OneKernel) (q : Which) (i : MsgId) → is_one s q i ≡ true → One s q i
one_is s q i h = search (arith, both, i.from, q.from, i.answer, s.bag, one_by, pid_eq-is, not_false)

-- one more of the kind at the end of all
told_apart : (v : View) (i j : MsgId) → is_told v i ≡ true → v.told j ≡ None → i ≡ j → false ≡ true
told_apart v i j told none e = sym (ap is_some none) ∙ sym (ap (is_told v) e) ∙ told

strictly : (a b : ℕ) → a < b + 1 → (a ≡ b → false ≡ true) → a < b
strictly a b le apart = search arith

-- one more of the kind at the end of all
same_id : (i j : MsgId) → i.from ≡ j.from → i.n ≡ j.n → i.answer ≡ j.answer → i ≡ j
same_id i j e f g = λ k. record { from = e k; n = f k; answer = g k }

below_last : (q : Which) (s : OneKernel) (v : View) (i j : MsgId) → ((k : MsgId) (y : PlainMessage) → s.bag k ≡ Some y → counts s k ≡ true) → is_told v i ≡ true → is_one s q j ≡ true → Last s v j → is_one s q i ≡ true → i.n < j.n
below_last q s v i j bagged told mine last one =
    let a = one_is s q i one in
    let b = one_is s q j mine in
    let same : i.from ≡ j.from = a.from ∙ sym b.from in
    strictly i.n j.n (counts_below s i (next_id j) (bagged i a.x a.there) last.last same) (λ e. told_apart v i j told last.untold (same_id i j same e (a.own ∙ sym b.own)))

floor_below : (q : Which) (s : OneKernel) (v : View) (j : MsgId) (f : ℕ) → q.floor ≡ f → Ord q s v → is_one s q j ≡ true → Last s v j → q.floor ≤ j.n
floor_below q s v j zero is h mine last = omega (arith, is)
floor_below q s v j (suc n) is h mine last =
    let b = one_is s q j mine in
    let counted = h.floor n (omega (arith, is)) in
    let less = counts_below s (id_of q.from n) (next_id j) counted last.last (sym b.from) in
    let apart = strictly n j.n less (λ e. told_apart v (id_of q.from n) j (h.last_told n (sym is)) last.untold (same_id (id_of q.from n) j (sym b.from) e (sym b.own))) in
    omega (arith, is, apart)

pub order_last : (q : Which) (s : OneKernel) (v : View) (j : MsgId) → ((k : MsgId) (y : PlainMessage) → s.bag k ≡ Some y → counts s k ≡ true) → Ord q s v → is_one s q j ≡ true → Last s v j → ordered (is_one s q) q.floor (awaiting q v ++ j ∷ []) ≡ true
order_last q s v j bagged h mine last =
    add_last (is_one s q) q.floor (awaiting q v) j
    (Each-on (λ (i : MsgId). is_told v i ≡ true) (λ (i : MsgId). is_one s q i ≡ true → i.n < j.n) (λ i told one. below_last q s v i j bagged told mine last one) (awaiting q v) (all_told q s v h)) (floor_below q s v j q.floor refl h mine last) h.order

-- one that is not of the kind, anywhere
pub order_not : (g : MsgId → Bool) (from : ℕ) (pre post : List MsgId) (j : MsgId) → g j ≡ false → ordered g from (pre ++ post) ≡ true → ordered g from (pre ++ j ∷ post) ≡ true
order_not g from pre post j e h = context g from pre post (j ∷ post) (λ k f. put_not g k j post e f) h

-- a pair's list after one was set
pub pair_at : (f : ℕ → ℕ → Pair) (a b c d : ℕ) (p : Pair) (T : List MsgId → Type 0) → (a ≡ c → b ≡ d → T (untaken p)) → T (untaken (f c d)) → T (untaken (at_pair f a b p c d))
pair_at f a b c d p T h1 h2 = search (arith, both)

pub pair_off : (f : ℕ → ℕ → Pair) (a b c d : ℕ) (p : Pair) → (b == d) ≡ false → untaken (at_pair f a b p c d) ≡ untaken (f c d)
pair_off f a b c d p e = pair_at f a b c d p (λ (xs : List MsgId). xs ≡ untaken (f c d)) (λ x y. absurd (let g : (b == d) ≡ true = grind (arith, nat_tests) in false≢true (sym e ∙ g))) refl

pub pair_on : (f : ℕ → ℕ → Pair) (a b : ℕ) (p : Pair) → untaken (at_pair f a b p a b) ≡ untaken p
pair_on f a b p = let x : ((a == a) && (b == b)) ≡ true = (let e : (a == a) ≡ true = grind (arith, nat_tests) in let g : (b == b) ≡ true = grind (arith, nat_tests) in two (a == a) (b == b) e g) in ap (λ (c : Bool). untaken (if c then p else f a b)) x

pub pair_else : (f : ℕ → ℕ → Pair) (a b c d : ℕ) (p : Pair) → (a == c) ≡ false → untaken (at_pair f a b p c d) ≡ untaken (f c d)
pair_else f a b c d p e = pair_at f a b c d p (λ (xs : List MsgId). xs ≡ untaken (f c d)) (λ x y. absurd (let g : (a == c) ≡ true = grind (arith, nat_tests) in false≢true (sym e ∙ g))) refl

pub box_on : (f : ℕ → List MsgId) (m : ℕ) (xs : List MsgId) → at_machine f m xs m ≡ xs
box_on f m xs = let e : (m == m) ≡ true = grind (arith, nat_tests) in ap (λ (c : Bool). if c then xs else f m) e

pub box_off : (f : ℕ → List MsgId) (m n : ℕ) (xs : List MsgId) → (m == n) ≡ false → at_machine f m xs n ≡ f n
box_off f m n xs e = ap (λ (c : Bool). if c then xs else f n) e

-- an order carried over to lists that are equal
pub order_as : (g : MsgId → Bool) (from : ℕ) (xs ys : List MsgId) → ys ≡ xs → ordered g from xs ≡ true → ordered g from ys ≡ true
order_as g from xs ys e h = ap (ordered g from) e ∙ h
