-- Lines that leave the migrations of all processes as they are.
use Rattle.dm_law_rule.proofs.Names.{◌≡◌, ℕ, zero, suc, ◌+◌, ◌==◌, ◌&&◌, Bool, true, false, List, [], ◌∷◌, ◌++◌, drop, length, refl, ap, ◌∙◌, sym, subst, inl, inr, arith, if◌then◌else◌, Option, None, Some, cases_Bool, length-append}
use Rattle.dm_law_rule.proofs.Names.{drop-length, Pid, MsgId, MessageKind, id_eq, Load, Line, at_machine, at_pair, at_record, without_id, without_front, View, Pair, Told, handled, queued_for, held_for, dropped_for, forwarded_for, view_after}
use Rattle.dm_law_rule.proofs.Names.{after_put, routed_on, Spot, Inbox, Untaken, times, untaken, standing, is_between, pid_eq-is, id_eq-is, id_eq-same, id_eq-swap, nat_tests, and_parts, eqb-true, Label, Stage, Step, About, Of, Target}
use Rattle.dm_law_rule.proofs.Names.{after_head, served_told, ends_by, sort_of, false≢true, none_some}
use Rattle.dm_law_rule.specs.View as view
use Rattle.dm_law_rule.proofs.Standing.{times-append}
use Rattle.dm_law_rule.proofs.Once.{one_of}
use Rattle.dm_law_rule.proofs.Lines.{pair_keeps, taken_pair}
use Rattle.dm_law_rule.proofs.States.{PairsFit, put_told_off}
use Rattle.dm_law_rule.proofs.Phases.Calm.{Calm, Plain, calm_others, calm_still}

-- whether all of a process has come changes where it is accepted, and where all has come
abbrev pub keeps_come : Line → Bool
keeps_come (Line.Migration Stage.Accepted p) = false
keeps_come (Line.Migration Stage.MemoryTaken p) = false
keeps_come l = true

come_head : (v : View) (d : Step) → (after_head v d).come ≡ v.come
come_head v (Step.Turn m) = refl
come_head v _ = refl

come_served : (v : View) (o : Option Told) → (served_told v o).come ≡ v.come
come_served v None = refl
come_served v (Some t) = elim t.kind as (λ k. (ends_by (sort_of k) v (Some t.receiver)).come ≡ v.come) [ MessageKind.Kill ↦ refl | _ ↦ refl ]

come_dropped : (v : View) (i : MsgId) (o : Option Pid) → (dropped_for v i o).come ≡ v.come
come_dropped v i None = refl
come_dropped v i (Some p) = refl

come_label : (v : View) (l : Label) → (view.after_label v l).come ≡ v.come
come_label v (Label.Served i) = come_served (handled v i) (v.told i)
come_label v (Label.Dropped i) = come_dropped (handled v i) i (view.receiver_of (v.told i))
come_label v _ = refl

come_taken : (v : View) (b : ℕ) (o : Option MsgId) → (view.taken_id v b o).come ≡ v.come
come_taken v b None = refl
come_taken v b (Some i) = refl

come_queued : (v : View) (i : MsgId) (o : Option Pid) → ((queued_for v i o).come ≡ v.come) × ((held_for v i o).come ≡ v.come) × ((forwarded_for v o).come ≡ v.come)
come_queued v i None = (refl, refl, refl)
come_queued v i (Some p) = (refl, refl, refl)

pub come_sets : (v : View) (p : Pid) (a : About) → (view.sets_off v p a).come ≡ v.come
come_sets v p (Target m) = refl
come_sets v p _ = refl

come_asks : (v : View) (a : About) → ((view.asks_on v a).known ≡ v.known) × ((view.asks_on v a).come ≡ v.come)
come_asks v (Of p) = (refl, refl)
come_asks v _ = (refl, refl)

-- a message of pieces: nothing is learned, and the next goes the other way
pub proto_knows : (v : View) (o : Option Told) → ((view.after_proto v o).known ≡ v.known) × ((view.after_proto v o).come ≡ v.come)
proto_knows v None = (refl, refl)
proto_knows v (Some t) = elim t.kind as (λ k. ((view.follows_by v t.about (sort_of k)).known ≡ v.known) × ((view.follows_by v t.about (sort_of k)).come ≡ v.come)) [ MessageKind.State ↦ come_asks v t.about | MessageKind.Memory ↦ come_asks v t.about | _ ↦ (refl, refl) ]

come_buried : (v : View) (o : Option Told) → (view.buried_for v o).come ≡ v.come
come_buried v None = refl
come_buried v (Some t) = elim t.about as (λ a. (view.forgotten v a).come ≡ v.come) [ view.Of p ↦ refl | _ ↦ refl ]

pub come_same : (v : View) (l : Line) → keeps_come l ≡ true → (view_after v l).come ≡ v.come
come_same v (Line.Head d) h = come_head v d
come_same v (Line.Label l) h = come_label v l
come_same v (Line.Taken a b n) h = come_taken (view.with_pair v a b (taken_pair (v.pair a b) n)) b (view.oldest (v.pair a b))
come_same v (Line.Queued i) h = (come_queued (handled v i) i (view.receiver_of (v.told i))).0
come_same v (Line.Held i) h = (come_queued (handled v i) i (view.receiver_of (v.told i))).1
come_same v (Line.Forwarded i m) h = (come_queued (handled v i) i (view.receiver_of (v.told i))).2
come_same v (Line.Buried i n) h = come_buried (handled v i) (v.told i)
come_same v (Line.Proto i) h = (proto_knows (handled v i) (v.told i)).1
come_same v (Line.Migration Stage.Accepted p) h = absurd (false≢true h)
come_same v (Line.Migration Stage.MemoryTaken p) h = absurd (false≢true h)
come_same v (Line.Migration Stage.Frozen p) h = come_sets v p v.topic
come_same v _ h = refl

pub come_at : (v : View) (l : Line) (p : Pid) → keeps_come l ≡ true → (view_after v l).come p ≡ v.come p
come_at v l p h = ap (λ (f : Pid → Bool). f p) (come_same v l h)

-- lists with one message more or less count the others alike
pub off_zero : (i j : MsgId) → id_eq i j ≡ false → one_of j i ≡ 0
off_zero i j e = ap (λ (c : Bool). if c then 1 else 0) (id_eq-swap j i ∙ e)

pub last_times : (i j : MsgId) (xs : List MsgId) → id_eq i j ≡ false → times j (xs ++ i ∷ []) ≡ times j xs
last_times i j xs e = let a = times-append j xs (i ∷ []) in let z = off_zero i j e in omega (arith, a, z)

one_less : (i j x : MsgId) (xs ys : List MsgId) (b : Bool) → id_eq i x ≡ b → id_eq i j ≡ false → times j ys ≡ times j xs → times j (if b then xs else x ∷ ys) ≡ times j (x ∷ xs)
one_less i j x xs ys true is e same = let ix : i ≡ x = id_eq-is i x is in let z : one_of j x ≡ 0 = ap (one_of j) (sym ix) ∙ off_zero i j e in omega (arith, z)
one_less i j x xs ys false is e same = omega (arith, same)

pub front_times : (i j : MsgId) (xs : List MsgId) → id_eq i j ≡ false → times j (without_front i xs) ≡ times j xs
front_times i j [] e = refl
front_times i j (x ∷ xs) e = one_less i j x xs xs (id_eq i x) refl e refl

pub without_times : (i j : MsgId) (xs : List MsgId) → id_eq i j ≡ false → times j (without_id i xs) ≡ times j xs
without_times i j [] e = refl
without_times i j (x ∷ xs) e = one_less i j x xs (without_id i xs) (id_eq i x) refl e (without_times i j xs e)

drop_times : (i j : MsgId) (n : ℕ) (xs : List MsgId) → id_eq i j ≡ false → times j (drop n (xs ++ i ∷ [])) ≡ times j (drop n xs)
drop_times i j zero xs e = last_times i j xs e
drop_times i j (suc n) [] e = elim n as (λ n_. times j (drop n_ []) ≡ 0) [ zero ↦ refl | suc e ↦ refl ]
drop_times i j (suc n) (x ∷ xs) e = drop_times i j n xs e

-- one machine's list, one record's, one pair's
pub machine_times : (f : ℕ → List MsgId) (m : ℕ) (x : List MsgId) (j : MsgId) → times j x ≡ times j (f m) → (n : ℕ) → times j (at_machine f m x n) ≡ times j (f n)
machine_times f m x j e n = elim (cases_Bool (m == n)) [
  | inl same ↦ ap (λ (c : Bool). times j (if c then x else f n)) same ∙ e ∙ ap (λ (k : ℕ). times j (f k)) (eqb-true m n same)
  | inr apart ↦ ap (λ (c : Bool). times j (if c then x else f n)) apart
]

pub record_times : (f : ℕ → Pid → List MsgId) (m : ℕ) (p : Pid) (x : List MsgId) (j : MsgId) → times j x ≡ times j (f m p) → (n : ℕ) (q : Pid) → times j (at_record f m p x n q) ≡ times j (f n q)
record_times f m p x j e n q = grind (arith, nat_tests, and_parts, eqb-true, pid_eq-is)

pub pair_times : (f : ℕ → ℕ → Pair) (a b : ℕ) (p : Pair) (j : MsgId) → times j (untaken p) ≡ times j (untaken (f a b)) → (c d : ℕ) → times j (untaken (at_pair f a b p c d)) ≡ times j (untaken (f c d))
pair_times f a b p j e c d = elim (cases_Bool ((a == c) && (b == d))) [
  | inl same ↦
      let both = and_parts (a == c) (b == d) same in
      ap (λ (t : Bool). times j (untaken (if t then p else f c d))) same ∙ e ∙ ap (λ (k : ℕ). times j (untaken (f k b))) (eqb-true a c both.0) ∙ ap (λ (k : ℕ). times j (untaken (f c k))) (eqb-true b d both.1)
  | inr apart ↦ ap (λ (t : Bool). times j (untaken (if t then p else f c d))) apart
]

-- the front of an inbox goes, and may come to a queue or a held list, or go from a queue
pub handled_spots : (v : View) (i j : MsgId) → id_eq i j ≡ false → (z : Spot) → standing (handled v i) j z ≡ standing v j z
handled_spots v i j e (Inbox m) = machine_times v.inbox v.acting (without_front i (v.inbox v.acting)) j (front_times i j (v.inbox v.acting) e) m
handled_spots v i j e _ = refl

pub queued_spots : (v : View) (i j : MsgId) (o : Option Pid) → id_eq i j ≡ false → (z : Spot) → standing (queued_for v i o) j z ≡ standing v j z
queued_spots v i j o h1 z = search (arith, record_times, last_times)

pub held_spots : (v : View) (i j : MsgId) (o : Option Pid) → id_eq i j ≡ false → (z : Spot) → standing (held_for v i o) j z ≡ standing v j z
held_spots v i j o h1 z = search (arith, record_times, last_times)

pub dropped_spots : (v : View) (i j : MsgId) (o : Option Pid) → id_eq i j ≡ false → (z : Spot) → standing (dropped_for v i o) j z ≡ standing v j z
dropped_spots v i j o h1 z = search (arith, record_times, front_times)

pub forwarded_spots : (v : View) (j : MsgId) (o : Option Pid) (z : Spot) → standing (forwarded_for v o) j z ≡ standing v j z
forwarded_spots v j o z = search arith

pub queued_known : (v : View) (i : MsgId) (o : Option Pid) (m : ℕ) (p : Pid) → (queued_for v i o).known m p ≡ v.known m p
queued_known v i None m p = refl
queued_known v i (Some q) m p = refl

pub held_known : (v : View) (i : MsgId) (o : Option Pid) (m : ℕ) (p : Pid) → (held_for v i o).known m p ≡ v.known m p
held_known v i None m p = refl
held_known v i (Some q) m p = refl

pub dropped_known : (v : View) (i : MsgId) (o : Option Pid) (m : ℕ) (p : Pid) → (dropped_for v i o).known m p ≡ v.known m p
dropped_known v i None m p = refl
dropped_known v i (Some q) m p = refl

pub forwarded_known : (v : View) (o : Option Pid) (m : ℕ) (p : Pid) → (forwarded_for v o).known m p ≡ v.known m p
forwarded_known v None m p = refl
forwarded_known v (Some q) m p = refl

-- a put of a message that is none of the protocol, where each pair of a machine with itself has taken all
put_inbox : (v : View) (a b : ℕ) (i j : MsgId) (c : Bool) → id_eq i j ≡ false → (n : ℕ) → times j ((if c then at_machine v.inbox b (v.inbox b ++ i ∷ []) else v.inbox) n) ≡ times j (v.inbox n)
put_inbox v a b i j true e n = machine_times v.inbox b (v.inbox b ++ i ∷ []) j (last_times i j (v.inbox b) e) n
put_inbox v a b i j false e n = refl

put_pair : (a b : ℕ) (p : Pair) (i j : MsgId) (c : Bool) → (a == b) ≡ c → id_eq i j ≡ false → (c ≡ true → p.taken ≡ length p.ids) → times j (untaken (routed_on a b p i)) ≡ times j (untaken p)
put_pair a b p i j true is e full =
    let gone : drop (p.taken + 1) (p.ids ++ i ∷ []) ≡ [] = subst (λ k. drop k (p.ids ++ i ∷ []) ≡ []) (length-append p.ids (i ∷ []) ∙ ap (λ k. k + 1) (sym (full refl))) (drop-length (p.ids ++ i ∷ [])) in
    ap (λ (x : Bool). times j (drop (if x then p.taken + 1 else p.taken) (p.ids ++ i ∷ []))) is ∙ (ap (times j) gone ∙ sym (ap (times j) (ap (λ k. drop k p.ids) (full refl) ∙ drop-length p.ids)))
put_pair a b p i j false is e full =
    ap (λ (x : Bool). times j (drop (if x then p.taken + 1 else p.taken) (p.ids ++ i ∷ []))) is ∙ drop_times i j p.taken p.ids e

pub home_full : (v : View) (a b : ℕ) → PairsFit v → (a == b) ≡ true → (v.pair a b).taken ≡ length (v.pair a b).ids
home_full v a b fits is = let e : a ≡ b = eqb-true a b is in subst (λ n. (v.pair a n).taken ≡ length (v.pair a n).ids) e (fits.home a)

pub put_spots : (v : View) (a b : ℕ) (i j : MsgId) (k : MessageKind) (q : Pid) → PairsFit v → id_eq i j ≡ false → (z : Spot) → standing (after_put v a b i k q) j z ≡ standing v j z
put_spots v a b i j k q h1 h2 z = search (arith, put_inbox, pair_times, put_pair, home_full)

pub put_at : (v : View) (a b : ℕ) (i : MsgId) (k : MessageKind) (q : Pid) → (after_put v a b i k q).told i ≡ Some (view.first_told (v.told i) (record { kind = k; receiver = q; about = v.topic }))
put_at v a b i k q = ap (λ (c : Bool). if c then Some (view.first_told (v.told i) (record { kind = k; receiver = q; about = v.topic })) else v.told i) (id_eq-same i)

pub first_kept : (o : Option Told) (u t : Told) → o ≡ Some t → Some (view.first_told o u) ≡ Some t
first_kept None u t e = none_some t e
first_kept (Some s) u t e = e

pub put_calm : (v : View) (a b : ℕ) (i : MsgId) (k : MessageKind) (q : Pid) → PairsFit v → is_between k ≡ false → Plain v i → Calm v (after_put v a b i k q)
put_calm v a b i k q fits e plain =
    let u : Told = record { kind = k; receiver = q; about = v.topic } in
    calm_others v (after_put v a b i k q) i plain
    (λ t is. (let f : Some (view.first_told (v.told i) u) ≡ Some t = sym (put_at v a b i k q) ∙ is in let g : view.first_told (v.told i) u ≡ t = cc in
    subst (λ (s : Told). is_between s.kind ≡ false) g (let e_ : is_between (view.first_told (v.told i) (record { kind = k; receiver = q; about = v.topic })).kind ≡ false = grind (arith, nat_tests) in e_)))
    (λ t is. put_at v a b i k q ∙ first_kept (v.told i) u t is)
    (record { known = λ m p. refl; come = λ p. refl; told = λ j apart. put_told_off v a b i j k q apart; spots = λ j apart z. put_spots v a b i j k q fits apart z })

-- a packet
pub packet_calm : (v : View) (a b k : ℕ) (l : Load) → Calm v (view_after v (Line.Packet a b k l))
packet_calm v a b k l =
    calm_still v (view_after v (Line.Packet a b k l)) (λ m p. refl) (λ p. refl) (λ i. refl) (λ i z.
    (elim z as (λ z_. standing (view_after v (Line.Packet a b k l)) i z_ ≡ standing v i z_) [ Untaken c' d' ↦ ap (times i) (pair_keeps v.pair a b _ refl c' d') | _ ↦ refl ]))
