-- Each line leaves messages where they stood, moves them within a machine, or brings one.
use Rattle.dm_law_always.proofs.Names.{◌≡◌, ◌⊎◌, ℕ, zero, suc, ◌+◌, ◌≤◌, ◌==◌, Bool, true, false, not, filter, List, [], ◌∷◌, ◌++◌, refl, sym, subst, inl, inr, arith, ⊤, if◌then◌else◌, drop, Option, None, Some, Pid, MsgId, MessageKind, Label}
use Rattle.dm_law_always.proofs.Names.{id_eq-is, id_eq-same, Line, Stage, at_machine, at_pair, at_record, without_id, without_front, View, Pair, Told, About, view_after, after_label, after_put, after_taken, after_stage, after_proto, handled}
use Rattle.dm_law_always.proofs.Names.{handled_first, queued_for, held_for, forwarded_for, rejoins, served_told, receiver_of, taken_id, oldest, routed_on, Spot, Queue, Held, Inbox, Untaken, times, untaken, standing, eq_is, parts, at_place}
use Rattle.dm_law_always.proofs.Names.{pair_keeps, times-append, machine_of, ap, ◌∙◌, cases_Bool, Place, manager, OneKernel, is_kernels, own_id, Addresses, Holder, Receiver, Sender, Gets, given, holder_eq, place_known}
use Rattle.dm_law_always.proofs.Names.{all_follow, is_told_back, told_back_gets, forwards, place_told, is_behind, updated_to, updated, own_given, first_gives, one_of, put_told_off, put_at, Goes, Comes, Named, Links, holder_is}
use Rattle.dm_law_always.proofs.Names.{unnamed_receiver, unnamed_sender, put_named, told_again, is_own, leads_where, behind_where, plain_gives, ◌<◌, is_some, nat_tests, PlainMessage, is_fixed, by_step, MoveNote, sort_of, dropped_for, is_made, is_server, ◌||◌}
use Rattle.dm_law_rule.proofs.Trails.Places.{Owns}
use Rattle.dm_law_always.proofs.Based.Sets.{set_all, without_fewer, front_fewer, last_of}
use Rattle.dm_law_always.proofs.Fits.Constants.{step_constant}
use Rattle.dm_law_always.proofs.Own.Told.{Origin, brings}
use Rattle.dm_law_rule.specs.View as view
use Rattle.dm_onekernel.specs.Service as service
use Rattle.dm_onekernel.specs.Step as kernel
use Rattle.dm_law_rule.proofs.Trails.Puts.{routed_named}

-- of each message that stands somewhere, with the machine
abbrev pub Places : (MsgId → ℕ → Type 0) → View → Type 0
Places G v = (i : MsgId) (z : Spot) → 1 ≤ standing v i z → G i (machine_of z)

places_of : (G : MsgId → ℕ → Type 0) (v : View) → ((m : ℕ) (p : Pid) (i : MsgId) → 1 ≤ times i (v.queue m p) → G i m) → ((m : ℕ) (p : Pid) (i : MsgId) → 1 ≤ times i (v.held m p) → G i m) → ((m : ℕ) (i : MsgId) → 1 ≤ times i (v.inbox m) → G i m)
    → ((a b : ℕ) (i : MsgId) → 1 ≤ times i (untaken (v.pair a b)) → G i b) → Places G v
places_of G v h1 h2 h3 h4 = search arith

-- lists that are set
set_machine : (G : MsgId → ℕ → Type 0) (f : ℕ → List MsgId) (m : ℕ) (xs : List MsgId) → ((i : MsgId) → 1 ≤ times i xs → G i m) → ((n : ℕ) (i : MsgId) → 1 ≤ times i (f n) → G i n) → (n : ℕ) (i : MsgId) → 1 ≤ times i (at_machine f m xs n) → G i n
set_machine G f m xs here rest n i e = search (arith, eq_is)

set_record : (G : MsgId → ℕ → Type 0) (f : ℕ → Pid → List MsgId) (m : ℕ) (p : Pid) (xs : List MsgId) → ((i : MsgId) → 1 ≤ times i xs → G i m) → ((n : ℕ) (q : Pid) (i : MsgId) → 1 ≤ times i (f n q) → G i n)
    → (n : ℕ) (q : Pid) (i : MsgId) → 1 ≤ times i (at_record f m p xs n q) → G i n
set_record G f m p xs here rest n q i e = set_all (λ k r ys. (j : MsgId) → 1 ≤ times j ys → G j k) f m p xs here (λ k r off. rest k r) n q i e

set_pair : (G : MsgId → ℕ → Type 0) (f : ℕ → ℕ → Pair) (a b : ℕ) (x : Pair) → ((i : MsgId) → 1 ≤ times i (untaken x) → G i b) → ((c d : ℕ) (i : MsgId) → 1 ≤ times i (untaken (f c d)) → G i d)
    → (c d : ℕ) (i : MsgId) → 1 ≤ times i (untaken (at_pair f a b x c d)) → G i d
set_pair G f a b x here rest c d i e = search (arith, eq_is, parts)

-- what stands in a shorter list stood in the longer
pub more_front : (i j : MsgId) (xs : List MsgId) → 1 ≤ times i xs → 1 ≤ times i (j ∷ xs)
more_front i j xs e = omega (arith, e)

first_fewer : (i : MsgId) (xs : List MsgId) → 1 ≤ times i (drop 1 xs) → 1 ≤ times i xs
first_fewer i [] e = e
first_fewer i (x ∷ xs) e = more_front i x xs e

-- of two lists put together, or with one more
either : (i : MsgId) (xs ys : List MsgId) → 1 ≤ times i (xs ++ ys) → (1 ≤ times i xs) ⊎ (1 ≤ times i ys)
either i xs ys h1 = search (arith, times-append)

one_is : (i j : MsgId) → 1 ≤ times i (j ∷ []) → i ≡ j
one_is i j e = search (arith, id_eq-is)

last_or : (G : MsgId → ℕ → Type 0) (m : ℕ) (j : MsgId) (xs : List MsgId) → G j m → ((i : MsgId) → 1 ≤ times i xs → G i m) → (i : MsgId) → 1 ≤ times i (xs ++ j ∷ []) → G i m
last_or G m j xs new old i e = last_of (G i m) i j xs e (old i) (λ same. subst (λ (k : MsgId). G k m) (sym same) new)

drop_suc : (i : MsgId) (xs : List MsgId) (k : ℕ) → 1 ≤ times i (drop (suc k) xs) → 1 ≤ times i (drop k xs)
drop_suc i [] zero e = e
drop_suc i [] (suc k) e = e
drop_suc i (x ∷ xs) zero e = more_front i x xs e
drop_suc i (x ∷ xs) (suc k) e = drop_suc i xs k e

drop_more : (i : MsgId) (xs : List MsgId) (k : ℕ) → 1 ≤ times i (drop (k + 1) xs) → 1 ≤ times i (drop k xs)
drop_more i xs k e = drop_suc i xs k (subst (λ (n : ℕ). 1 ≤ times i (drop n xs)) (let f : k + 1 ≡ suc k = omega arith in f) e)

drop_last : (G : MsgId → Type 0) (j : MsgId) (xs : List MsgId) (k : ℕ) → G j → ((i : MsgId) → 1 ≤ times i (drop k xs) → G i) → (i : MsgId) → 1 ≤ times i (drop k (xs ++ j ∷ [])) → G i
drop_last G j [] zero new old i e = subst G (sym (one_is i j e)) new
drop_last G j [] (suc k) new old i e = absurd (omega (arith, (let f : times i (drop k []) ≡ 0 = nothing k in f), e))
  where
    nothing : (n : ℕ) → times i (drop n []) ≡ 0
    nothing zero = refl
    nothing (suc n) = refl
drop_last G j (x ∷ xs) zero new old i e = elim (either i (x ∷ xs) (j ∷ []) e) [
  | inl was ↦ old i was
  | inr is ↦ subst G (sym (one_is i j is)) new
]
drop_last G j (x ∷ xs) (suc k) new old i e = drop_last G j xs k new old i e

-- the same lists
places_as : (G : MsgId → ℕ → Type 0) (v w : View) → w.queue ≡ v.queue → w.held ≡ v.held → w.inbox ≡ v.inbox → ((a b : ℕ) → untaken (w.pair a b) ≡ untaken (v.pair a b)) → Places G v → Places G w
places_as G v w queue held inbox out h = search (arith, places_of)

-- another inbox on the acting machine
places_inbox : (G : MsgId → ℕ → Type 0) (v w : View) (m : ℕ) (xs : List MsgId) → w.queue ≡ v.queue → w.held ≡ v.held → w.inbox ≡ at_machine v.inbox m xs → ((a b : ℕ) → untaken (w.pair a b) ≡ untaken (v.pair a b)) → ((i : MsgId) → 1 ≤ times i xs → G i m) → Places G v
    → Places G w
places_inbox G v w m xs queue held inbox out here h = search (arith, places_of, set_machine, v.inbox)

pub places_handled : (G : MsgId → ℕ → Type 0) (v : View) (id : MsgId) → Places G v → Places G (handled v id)
places_handled G v id h = places_inbox G v (handled v id) v.acting (without_front id (v.inbox v.acting)) refl refl refl (λ a b. refl) (λ i e. h i (Inbox v.acting) (front_fewer i id (v.inbox v.acting) e)) h

places_first : (G : MsgId → ℕ → Type 0) (v : View) → Places G v → Places G (handled_first v)
places_first G v h = places_inbox G v (handled_first v) v.acting (drop 1 (v.inbox v.acting)) refl refl refl (λ a b. refl) (λ i e. h i (Inbox v.acting) (first_fewer i (v.inbox v.acting) e)) h

places_queued : (G : MsgId → ℕ → Type 0) (v : View) (id : MsgId) (o : Option Pid) → G id v.acting → Places G v → Places G (queued_for v id o)
places_queued G v id None new h = h
places_queued G v id (Some p) new h =
    places_of G (queued_for v id (Some p)) (λ m q i e. set_record G v.queue v.acting p (v.queue v.acting p ++ id ∷ []) (last_or G v.acting id (v.queue v.acting p) new (λ j f. h j (Queue v.acting p) f)) (λ n r j f. h j (Queue n r) f) m q i e)
    (λ m q i e. h i (Held m q) e) (λ m i e. h i (Inbox m) e) (λ a b i e. h i (Untaken a b) e)

places_held : (G : MsgId → ℕ → Type 0) (v : View) (id : MsgId) (o : Option Pid) → G id v.acting → Places G v → Places G (held_for v id o)
places_held G v id None new h = h
places_held G v id (Some p) new h =
    places_of G (held_for v id (Some p)) (λ m q i e. h i (Queue m q) e) (λ m q i e. set_record G v.held v.acting p (v.held v.acting p ++ id ∷ []) (last_or G v.acting id (v.held v.acting p) new (λ j f. h j (Held v.acting p) f)) (λ n r j f. h j (Held n r) f) m q i e)
    (λ m i e. h i (Inbox m) e) (λ a b i e. h i (Untaken a b) e)

places_queue_less : (G : MsgId → ℕ → Type 0) (v w : View) (p : Pid) (xs : List MsgId) → w.queue ≡ at_record v.queue v.acting p xs → w.held ≡ v.held → w.inbox ≡ v.inbox → w.pair ≡ v.pair → ((i : MsgId) → 1 ≤ times i xs → 1 ≤ times i (v.queue v.acting p)) → Places G v → Places G w
places_queue_less G v w p xs queue held inbox pair less h = search (arith, places_of, set_record, v.queue, v.acting)

places_dropped : (G : MsgId → ℕ → Type 0) (v : View) (id : MsgId) (o : Option Pid) → Places G v → Places G (dropped_for v id o)
places_dropped G v id None h = h
places_dropped G v id (Some p) h = places_queue_less G v (dropped_for v id (Some p)) p (without_front id (v.queue v.acting p)) refl refl refl refl (λ i e. front_fewer i id (v.queue v.acting p) e) h

-- the held messages come to the inbox
places_rejoins : (G : MsgId → ℕ → Type 0) (v : View) (p : Pid) → Places G v → Places G (rejoins v p)
places_rejoins G v p h =
    places_of G (rejoins v p) (λ m q i e. h i (Queue m q) e) (λ m q i e. set_record G v.held v.acting p [] (λ j f. absurd (omega (arith, f))) (λ n r j f. h j (Held n r) f) m q i e)
    (λ m i e. set_machine G v.inbox v.acting (v.held v.acting p ++ v.inbox v.acting)
    (λ j f. elim (either j (v.held v.acting p) (v.inbox v.acting) f) [ inl was ↦ h j (Held v.acting p) was | inr was ↦ h j (Inbox v.acting) was ]) (λ n j f. h j (Inbox n) f) m i e)
    (λ a b i e. h i (Untaken a b) e)

-- a message that a machine takes
places_taken_id : (G : MsgId → ℕ → Type 0) (v : View) (b : ℕ) (o : Option MsgId) → ((i : MsgId) → o ≡ Some i → G i b) → Places G v → Places G (taken_id v b o)
places_taken_id G v b None new h = h
places_taken_id G v b (Some j) new h = places_inbox G v (taken_id v b (Some j)) b (v.inbox b ++ j ∷ []) refl refl refl (λ c d. refl) (last_or G b j (v.inbox b) (new j refl) (λ i f. h i (Inbox b) f)) h

places_taken : (G : MsgId → ℕ → Type 0) (v : View) (a b n : ℕ) → Places G v → Places G (after_taken v a b n)
places_taken G v a b n h =
    let p = v.pair a b in
    let q : Pair = record p { taken = p.taken + 1; kept = filter (λ k. not (k == n)) p.kept } in
    let u = view.with_pair v a b q in
    places_taken_id G u b (oldest p) (λ i e. h i (Untaken a b) (search (arith, p.taken, p.ids, at_place, id_eq-same)))
    (places_of G u (λ m r i e. h i (Queue m r) e) (λ m r i e. h i (Held m r) e) (λ m i e. h i (Inbox m) e)
    (λ c d i e. set_pair G v.pair a b q (λ j f. h j (Untaken a b) (drop_more j p.ids p.taken f)) (λ x y j f. h j (Untaken x y) f) c d i e))

-- a put
routed_untaken : (G : MsgId → Type 0) (a b : ℕ) (p : Pair) (id : MsgId) → G id → ((i : MsgId) → 1 ≤ times i (untaken p) → G i) → (i : MsgId) → 1 ≤ times i (untaken (routed_on a b p id)) → G i
routed_untaken G a b p id new old i e = by (a == b) e
  where
    by : (c : Bool) → 1 ≤ times i (drop (if c then p.taken + 1 else p.taken) (p.ids ++ id ∷ [])) → G i
    by true f = drop_last G id p.ids p.taken new old i (drop_more i (p.ids ++ id ∷ []) p.taken f)
    by false f = drop_last G id p.ids p.taken new old i f

put_inbox : (G : MsgId → ℕ → Type 0) (f : ℕ → List MsgId) (b : ℕ) (id : MsgId) (c : Bool) → G id b → ((m : ℕ) (i : MsgId) → 1 ≤ times i (f m) → G i m) → (m : ℕ) (i : MsgId) → 1 ≤ times i ((if c then at_machine f b (f b ++ id ∷ []) else f) m) → G i m
put_inbox G f b id true new old m i e = set_machine G f b (f b ++ id ∷ []) (last_or G b id (f b) new (old b)) old m i e
put_inbox G f b id false new old m i e = old m i e

pub places_put : (G : MsgId → ℕ → Type 0) (v : View) (a b : ℕ) (id : MsgId) (k : MessageKind) (q : Pid) → G id b → Places G v → Places G (after_put v a b id k q)
places_put G v a b id k q new h =
    places_of G (after_put v a b id k q) (λ m p i e. h i (Queue m p) e) (λ m p i e. h i (Held m p) e) (λ m i e. put_inbox G v.inbox b id (a == b) new (λ n j f. h j (Inbox n) f) m i e)
    (λ c d i e. set_pair G v.pair a b (routed_on a b (v.pair a b) id) (routed_untaken (λ (j : MsgId). G j b) a b (v.pair a b) id new (λ j f. h j (Untaken a b) f)) (λ x y j f. h j (Untaken x y) f) c d i e)

places_served : (G : MsgId → ℕ → Type 0) (v : View) (o : Option Told) → Places G v → Places G (served_told v o)
places_served G v None h = h
places_served G v (Some t) h = search (arith, t.kind, t.receiver, places_as)

pub places_label : (G : MsgId → ℕ → Type 0) (v : View) (l : Label) → Places G v → Places G (after_label v l)
places_label G v (Label.Ran p k) h = places_as G v (after_label v (Label.Ran p k)) refl refl refl (λ a b. refl) h
places_label G v (Label.End p y) h = places_as G v (after_label v (Label.End p y)) refl refl refl (λ a b. refl) h
places_label G v (Label.Refuse p id c) h = places_as G v (after_label v (Label.Refuse p id c)) refl refl refl (λ a b. refl) h
places_label G v (Label.Receive p id) h = places_queue_less G v (after_label v (Label.Receive p id)) p (without_id id (v.queue v.acting p)) refl refl refl refl (λ i e. without_fewer i id (v.queue v.acting p) e) h
places_label G v (Label.Dropped id) h = places_dropped G (handled v id) id (receiver_of (v.told id)) (places_handled G v id h)
places_label G v (Label.Served id) h = places_served G (handled v id) (v.told id) (places_handled G v id h)
places_label G v (Label.Gone id) h = places_handled G v id h
places_label G v (Label.Took id) h = places_handled G v id h
places_label G v (Label.Created id p) h = places_as G (handled v id) (after_label v (Label.Created id p)) refl refl refl (λ a b. refl) (places_handled G v id h)
places_label G v (Label.NoSpace id f b) h = places_handled G v id h
places_label G v (Label.Asked id) h = places_handled G v id h
places_label G v _ h = h

-- the topic is no place
pub places_about : (G : MsgId → ℕ → Type 0) (v : View) (a : About) → Places G v → Places G (view.about v a)
places_about G v a h = places_as G v (view.about v a) refl refl refl (λ b c. refl) h

-- step 4 of a server leaves the message
places_for : (G : MsgId → ℕ → Type 0) (v : View) (c : Bool) → Places G v → Places G (record v { inbox = if c then v.inbox else (handled_first v).inbox })
places_for G v true h = places_as G v (record v { inbox = v.inbox }) refl refl refl (λ a b. refl) h
places_for G v false h = places_as G (handled_first v) (record v { inbox = (handled_first v).inbox }) refl refl refl (λ a b. refl) (places_first G v h)

pub places_stage : (G : MsgId → ℕ → Type 0) (v : View) (p : Pid) (s : Stage) → Places G v → Places G (after_stage v p s)
places_stage G v p Stage.Asked h = h
places_stage G v p Stage.Frozen h = search (arith, v.topic, places_as, places_first)
places_stage G v p Stage.Left h = places_as G v (after_stage v p Stage.Left) refl refl refl (λ a b. refl) h
places_stage G v p Stage.Restarted h = places_as G (rejoins (handled_first v) p) (after_stage v p Stage.Restarted) refl refl refl (λ a b. refl) (places_rejoins G (handled_first v) p (places_first G v h))
places_stage G v p Stage.StateTaken h = places_as G (view.handled_for v p) (after_stage v p Stage.StateTaken) refl refl refl (λ a b. refl) (places_for G v (is_server p) h)
places_stage G v p any_ h = places_as G (handled_first v) (after_stage v p any_) refl refl refl (λ a b. refl) (places_first G v h)

places_proto : (G : MsgId → ℕ → Type 0) (v : View) (o : Option Told) → Places G v → Places G (after_proto v o)
places_proto G v None h = places_as G v (after_proto v None) refl refl refl (λ a b. refl) h
places_proto G v (Some t) h = search (arith, places_as, t.about, t.kind)

pub places_forwarded : (G : MsgId → ℕ → Type 0) (v : View) (o : Option Pid) → Places G v → Places G (forwarded_for v o)
places_forwarded G v None h = h
places_forwarded G v (Some p) h = places_as G v (forwarded_for v (Some p)) refl refl refl (λ a b. refl) h

-- a process is forgotten
pub places_forgotten : (G : MsgId → ℕ → Type 0) (v : View) (a : About) → Places G v → Places G (view.forgotten v a)
places_forgotten G v (view.Of p) h = places_as G v (view.forgotten v (view.Of p)) refl refl refl (λ b c. refl) h
places_forgotten G v (view.Target m) h = h
places_forgotten G v (view.Place p m c) h = h
places_forgotten G v view.NothingElse h = h

places_buried : (G : MsgId → ℕ → Type 0) (v : View) (o : Option Told) → Places G v → Places G (view.buried_for v o)
places_buried G v None h = h
places_buried G v (Some t) h = places_forgotten G v t.about h

-- what a line brings
abbrev pub Brings : (MsgId → ℕ → Type 0) → View → Line → Type 0
Brings G v (Line.Put a b id k q) = G id b
Brings G v (Line.Queued id) = G id v.acting
Brings G v (Line.Held id) = G id v.acting
Brings G v _ = ⊤

pub places_line : (G : MsgId → ℕ → Type 0) (v : View) (l : Line) → Brings G v l → Places G v → Places G (view_after v l)
places_line G v (Line.Head d) new h = search (arith, places_as, pair_keeps)
places_line G v (Line.Label l) new h = places_label G v l h
places_line G v (Line.Put a b id k q) new h = places_put G v a b id k q new h
places_line G v (Line.Packet a b k l) new h = places_as G v (view_after v (Line.Packet a b k l)) refl refl refl (λ c d. pair_keeps v.pair a b (record (v.pair a b) { gone = view.gone_after l (v.pair a b).gone; wire = (v.pair a b).wire ++ record { load = l; delivered = false } ∷ [] }) refl c d) h
places_line G v (Line.Taken a b n) new h = places_taken G v a b n h
places_line G v (Line.Early a b n) new h = places_as G v (view_after v (Line.Early a b n)) refl refl refl (λ c d. pair_keeps v.pair a b (record (v.pair a b) { kept = n ∷ filter (λ k. not (k == n)) (v.pair a b).kept }) refl c d) h
places_line G v (Line.Acked a b n) new h = places_as G v (view_after v (Line.Acked a b n)) refl refl refl (λ c d. pair_keeps v.pair b a (record (v.pair b a) { acked = view.at_least (v.pair b a).acked n }) refl c d) h
places_line G v (Line.Queued id) new h = places_queued G (handled v id) id (receiver_of (v.told id)) new (places_handled G v id h)
places_line G v (Line.Held id) new h = places_held G (handled v id) id (receiver_of (v.told id)) new (places_handled G v id h)
places_line G v (Line.Forwarded id m) new h = places_forwarded G (handled v id) (receiver_of (v.told id)) (places_handled G v id h)
places_line G v (Line.Updated id n) new h = places_handled G v id h
places_line G v (Line.Buried id n) new h = places_buried G (handled v id) (v.told id) (places_handled G v id h)
places_line G v (Line.Migration s p) new h = places_stage G v p s h
places_line G v (Line.SentOn p n) new h = search (arith, places_of, set_record, (handled_first v).queue, (handled_first v).acting, (handled_first v).held, (places_first G v h))
places_line G v (Line.Called p n) new h =
    places_of G (view_after v (Line.Called p n)) (λ m q i e. h i (Queue m q) e) (λ m q i e. set_record G v.held v.acting p [] (λ j f. absurd (omega (arith, f))) (λ r s j f. h j (Held r s) f) m q i e) (λ m i e. h i (Inbox m) e) (λ a b i e. h i (Untaken a b) e)
places_line G v (Line.Lacks p a b) new h = places_as G (handled_first v) (view_after v (Line.Lacks p a b)) refl refl refl (λ c d. refl) (places_first G v h)
places_line G v (Line.Stays p) new h = let w = view.staying v p in places_rejoins G (handled_first w) p (places_first G w (places_as G v w refl refl refl (λ a b. refl) h))
places_line G v (Line.Here id) new h = places_handled G v id h
places_line G v (Line.NoMove id) new h = places_handled G v id h
places_line G v (Line.Stale id) new h = places_handled G v id h
places_line G v (Line.Proto id) new h = places_proto G (handled v id) (v.told id) (places_handled G v id h)
places_line G v _ new h = h

-- Lines that give addresses beside the kernel keep each where its process is known: a message that is forwarded, messages that
-- are sent on, an update, and puts.

-- each address is one of these
abbrev pub AllAre : (Pid → Place → Type 0) → OneKernel → View → Addresses → Type 0
AllAre P s v a = (h : Holder) (q : Pid) → Named s v h q → P q (a h)

-- what holders get is
abbrev pub AllGet : (Pid → Place → Type 0) → OneKernel → View → List Gets → Type 0
AllGet P s v [] = ⊤
AllGet P s v (g ∷ gs) = ((q : Pid) → Named s v g.holder q → P q g.place) × AllGet P s v gs

pub given_are : (P : Pid → Place → Type 0) (s : OneKernel) (v : View) (a : Addresses) (gs : List Gets) → AllAre P s v a → AllGet P s v gs → AllAre P s v (given a gs)
given_are P s v a [] h all g q e = h g q e
given_are P s v a (x ∷ xs) h all g q e = elim (cases_Bool (holder_eq x.holder g)) [
  | inl same ↦
      subst (P q) (sym (ap (λ (c : Bool). if c then x.place else given a xs g) same))
      (all.0 q (subst (λ (k : Holder). Named s v k q) (sym (holder_is x.holder g same)) e))
  | inr apart ↦ subst (P q) (sym (ap (λ (c : Bool). if c then x.place else given a xs g) apart)) (given_are P s v a xs h all.1 g q e)
]

-- what was told stays
told_back : (s : OneKernel) (v w : View) (h : Holder) (q : Pid) → w.told ≡ v.told → Named s w h q → Named s v h q
told_back s v w h q same (Links e) = Links e
told_back s v w h q same (Owns (Goes i u is k told r)) = Owns (Goes i u is k (sym (ap (λ (f : MsgId → Option Told). f i) same) ∙ told) r)
told_back s v w h q same (Owns (Comes i u is mine told k r)) = Owns (Comes i u is mine (sym (ap (λ (f : MsgId → Option Told). f i) same) ∙ told) k r)

pub all_as : (P : Pid → Place → Type 0) (s : OneKernel) (v w : View) (a : Addresses) → w.told ≡ v.told → AllAre P s v a → AllAre P s w a
all_as P s v w a same h g q e = h g q (told_back s v w g q same e)

-- a message that is forwarded, and the update for its sender
back_gets : (P : Pid → Place → Type 0) (s : OneKernel) (v : View) (a : Addresses) (id : MsgId) (b : Bool) → s.bag (own_id v) ≡ None → v.told (own_id v) ≡ None → AllGet P s v (told_back_gets v a id b)
back_gets P s v a id true bag told = ((λ q e. absurd (unnamed_receiver s v (own_id v) q bag told e)), ((λ q e. absurd (unnamed_sender s v (own_id v) q bag told e)), tt))
back_gets P s v a id false bag told = tt

pub forwarded_all : (P : Pid → Place → Type 0) (s : OneKernel) (v : View) (a : Addresses) (id : MsgId) (u : Told) → v.told id ≡ Some u → ((q : Pid) → Named s v (Receiver id) q → P q (place_known (v.known v.acting u.receiver) (v.moves u.receiver) (a (Receiver id))))
    → s.bag (own_id v) ≡ None → v.told (own_id v) ≡ None → AllAre P s v a → AllAre P s v (given a (forwards v a id (v.told id)))
forwarded_all P s v a id u told to bag fresh h =
    subst (λ (o : Option Told). AllAre P s v (given a (forwards v a id o))) (sym told) (given_are P s v a (forwards v a id (Some u)) h (to, back_gets P s v a id (is_told_back u.kind) bag fresh))

-- the messages of a process are sent on
follow_gets : (P : Pid → Place → Type 0) (s : OneKernel) (v : View) (a : Addresses) (p : Pid) (ids : List MsgId) → ((i : MsgId) (q : Pid) → 1 ≤ times i ids → Named s v (Receiver i) q → P q (place_known (v.known v.acting p) (v.moves p) (a (Receiver i))))
    → AllGet P s v (all_follow v a p ids)
follow_gets P s v a p [] to = tt
follow_gets P s v a p (i ∷ is) to = ((λ q e. to i q first e), follow_gets P s v a p is (λ j q least. to j q (more j least)))
  where
    first : 1 ≤ times i (i ∷ is)
    first = let e : one_of i i ≡ 1 = ap (λ (c : Bool). if c then 1 else 0) (id_eq-same i) in omega (arith, e)

    more : (j : MsgId) → 1 ≤ times j is → 1 ≤ times j (i ∷ is)
    more j least = omega (arith, least)

pub sent_on_all : (P : Pid → Place → Type 0) (s : OneKernel) (v : View) (a : Addresses) (p : Pid) (ids : List MsgId)
    → ((i : MsgId) (q : Pid) → 1 ≤ times i ids → Named s v (Receiver i) q → P q (place_known (v.known v.acting p) (v.moves p) (a (Receiver i)))) → AllAre P s v a → AllAre P s v (given a (all_follow v a p ids))
sent_on_all P s v a p ids to h = given_are P s v a (all_follow v a p ids) h (follow_gets P s v a p ids to)

update_by : (P : Pid → Place → Type 0) (s : OneKernel) (v : View) (a : Addresses) (r p : Pid) (place : Place) → P p place → AllAre P s v a → AllAre P s v (updated_to s a (Some r) (Some (p, place)))
update_by P s v a r p place on h g q e = elim (cases_Bool (is_behind s a r p place.moves g)) [
  | inl yes_ ↦
      subst (P q) (sym (ap (λ (c : Bool). if c then place else a g) yes_))
      (subst (λ (x : Pid). P x place) (leads_where s v g p q (behind_where s a r p place.moves g yes_) e) on)
  | inr not_ ↦ subst (P q) (sym (ap (λ (c : Bool). if c then place else a g) not_)) (h g q e)
]

update_about : (P : Pid → Place → Type 0) (s : OneKernel) (v : View) (a : Addresses) (r : Pid) (x : About) → ((p : Pid) (m c : ℕ) → x ≡ view.Place p m c → P p (record { at = m; moves = c })) → AllAre P s v a → AllAre P s v (updated_to s a (Some r) (place_told x))
update_about P s v a r (view.Place p m c) on h = update_by P s v a r p (record { at = m; moves = c }) (on p m c refl) h
update_about P s v a r _ on h = h

pub updated_all : (P : Pid → Place → Type 0) (s : OneKernel) (v : View) (a : Addresses) (o : Option Told) → ((u : Told) (p : Pid) (m c : ℕ) → o ≡ Some u → u.about ≡ view.Place p m c → P p (record { at = m; moves = c })) → AllAre P s v a → AllAre P s v (updated s v a o)
updated_all P s v a None on h = h
updated_all P s v a (Some u) on h = update_about P s v a u.receiver u.about (λ p m c e. on u p m c refl e) h

pub updated_leaves : (s : OneKernel) (v : View) (a : Addresses) (o : Option Told) (i : MsgId) → updated s v a o (Receiver i) ≡ a (Receiver i)
updated_leaves s v a None i = refl
updated_leaves s v a (Some u) i = search (arith, u.receiver, u.about)

pub put_all : (P : Pid → Place → Type 0) (s : OneKernel) (v : View) (a : Addresses) (x y : ℕ) (id : MsgId) (k : MessageKind) (q : Pid) → s.bag id ≡ None → v.told id ≡ None → P q (given a (own_given s v a id q (sort_of k)) (Receiver id))
    → (k ≡ MessageKind.Migrate → P manager (given a (own_given s v a id q (sort_of k)) (Sender id))) → AllAre P s v a → AllAre P s (after_put v x y id k q) (given a (first_gives (v.told id) (own_given s v a id q (sort_of k))))
put_all P s v a x y id k q bag none to from h g r e =
    subst (λ (o : Option Told). P r (given a (first_gives o (own_given s v a id q (sort_of k))) g)) (sym none)
    (elim (put_named s v x y id k q g r none e) [
      | inl old ↦ given_are P s v a (own_given s v a id q (sort_of k)) h (search arith) g r old
      | inr new ↦ elim new [
        | inl way ↦ subst (λ (i : Holder). P r (given a (own_given s v a id q (sort_of k)) i)) (sym way.0) (subst (λ (p : Pid). P p (given a (own_given s v a id q (sort_of k)) (Receiver id))) way.1 to)
        | inr way ↦ subst (λ (i : Holder). P r (given a (own_given s v a id q (sort_of k)) i)) (sym way.0) (subst (λ (p : Pid). P p (given a (own_given s v a id q (sort_of k)) (Sender id))) way.2 (from way.1))
      ]
    ])

pub routed_gives : (s : OneKernel) (v : View) (a : Addresses) (id : MsgId) (k : MessageKind) (q : Pid) → is_own k ≡ false → (o : Option Told) (h : Holder) → given a (first_gives o (own_given s v a id q (sort_of k))) h ≡ a h
routed_gives s v a id k q plain None h = ap (λ (gs : List Gets). given a gs h) (plain_gives s v a id q k plain)
routed_gives s v a id k q plain (Some u) h = refl

pub put_routed : (P : Pid → Place → Type 0) (s : OneKernel) (v : View) (a : Addresses) (x y : ℕ) (id : MsgId) (k : MessageKind) (q : Pid) → is_kernels id ≡ false → is_own k ≡ false → v.told id ≡ None → AllAre P s v a
    → AllAre P s (after_put v x y id k q) (given a (first_gives (v.told id) (own_given s v a id q (sort_of k))))
put_routed P s v a x y id k q other plain none h g r e = subst (P r) (sym (routed_gives s v a id k q plain (v.told id) g)) (h g r (routed_named s v x y id k q g r other plain none e))

-- a message that was put before
pub put_again : (P : Pid → Place → Type 0) (s : OneKernel) (v : View) (a : Addresses) (x y : ℕ) (id : MsgId) (k : MessageKind) (q : Pid) (u : Told) → v.told id ≡ Some u → AllAre P s v a → AllAre P s (after_put v x y id k q) (given a (first_gives (v.told id) (own_given s v a id q (sort_of k))))
put_again P s v a x y id k q u told h g r e =
    subst (λ (o : Option Told). P r (given a (first_gives o (own_given s v a id q (sort_of k))) g)) (sym told) (h g r (again_back s v x y id k q u told g r e))
  where
    again_back : (s : OneKernel) (v : View) (x y : ℕ) (id : MsgId) (k : MessageKind) (q : Pid) (u : Told) → v.told id ≡ Some u → (h : Holder) (r : Pid) → Named s (after_put v x y id k q) h r → Named s v h r
    again_back s v x y id k q u told h r (Links e) = Links e
    again_back s v x y id k q u told h r (Owns (Goes i t is own now to)) = Owns (Goes i t is own (sym (told_again v x y id k q u told i) ∙ now) to)
    again_back s v x y id k q u told h r (Owns (Comes i t is mine now move to)) = Owns (Comes i t is mine (sym (told_again v x y id k q u told i) ∙ now) move to)

-- what is told behind a put: what was told before, or this
pub put_tells : (v : View) (x y : ℕ) (id : MsgId) (k : MessageKind) (q : Pid) (i : MsgId) (u : Told) → (after_put v x y id k q).told i ≡ Some u
    → (v.told i ≡ Some u) ⊎ ((id ≡ i) × (v.told id ≡ None) × (record { kind = k; receiver = q; about = v.topic } ≡ u))
put_tells v x y id k q i u h1 = search (arith, id_eq-is, v.told, put_at, put_told_off, v.topic)

-- What a step of the kernel without machines leaves: how many machines there are, and who sends.

-- who sends messages: a kernel of so many machines, a server, or a process that was made
abbrev pub Sends : ℕ → OneKernel → Pid → Type 0
Sends n s q = ((is_fixed q ≡ true) × (q.home < n)) ⊎ (is_made s q ≡ true)

-- each message that comes is one of these
pub record Leaves (n : ℕ) (s t : OneKernel) : Type 0 where
  pub machines : t.machines ≡ s.machines
  pub senders : (j : MsgId) (x : PlainMessage) → t.bag j ≡ Some x → (s.bag j ≡ Some x) ⊎ Sends n s x.sender

-- kernels
kernel_fixed : (s : OneKernel) (p : Pid) → service.is_kernel s p ≡ true → is_fixed p ≡ true
kernel_fixed s p e = grind (arith, nat_tests)

-- each step leaves them, and what servers take and kernels make is for them
abbrev IsFor : OneKernel → MsgId → Type 0
IsFor s id = (m : PlainMessage) → s.bag id ≡ Some m → is_fixed m.to ≡ true

for_it : (s : OneKernel) (id : MsgId) (m : PlainMessage) → s.bag id ≡ Some m → is_fixed m.to ≡ true → IsFor s id
for_it s id m there fixed x is = let f : Some m ≡ Some x = sym there ∙ is in let g : m ≡ x = cc in subst (λ (y : PlainMessage). is_fixed y.to ≡ true) g fixed

pub created_for : (s t : OneKernel) (id : MsgId) (child : Pid) → kernel.step s (Label.Created id child) ≡ Some t → IsFor s id
created_for s t id child = search (arith, by_step, for_it, kernel_fixed)

or_true : (c : Bool) → (c || true) ≡ true
or_true true = refl
or_true false = refl

origin_sends : (n : ℕ) (s : OneKernel) (x : PlainMessage) → s.machines ≡ n → 0 < n → Origin s x → Sends n s x.sender
origin_sends n s x same some (inl made) = inr (ap (λ (c : Bool). is_server x.sender || c) made ∙ or_true (is_server x.sender))
origin_sends n s x same some (inr (inl server)) = inr (ap (λ (c : Bool). c || is_some (s.processes x.sender)) server)
origin_sends n s x same some (inr (inr (kern, plain))) =
    let less : x.sender.home < s.machines = grind (arith, nat_tests) in
    inl (kernel_fixed s x.sender kern, subst (λ (k : ℕ). x.sender.home < k) same less)

pub step_leaves : (n : ℕ) (s t : OneKernel) (l : Label) → s.machines ≡ n → 0 < n → ((p : Pid) (k : MoveNote) → s.notes p ≡ Some k → is_some (s.processes p) ≡ true) → kernel.step s l ≡ Some t → Leaves n s t
step_leaves n s t l same some lives is = record {
  machines = (step_constant s t l is).machines;
  senders = λ j x e. elim (brings s t l lives is j x e) [
    | inl old ↦ inl old
    | inr new ↦ inr (origin_sends n s x same some new)
  ];
}
