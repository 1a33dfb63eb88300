-- What each line does to inboxes, and to what was routed and not taken.
use Rattle.dm_law_moves.proofs.Names.{◌≡◌, ℕ, ◌+◌, ◌<◌, ◌≤◌, ◌==◌, ◌&&◌, Bool, true, false, not, filter, List, [], ◌∷◌, ◌++◌, drop, refl, ap, ◌∙◌, inl, inr, arith, ⊤, if◌then◌else◌, Option, None, Some, cases_Bool, eqb_tells, nat_tests}
use Rattle.dm_law_moves.proofs.Names.{Pid, MsgId, MessageKind, Label, Step, Line, Stage, sum_below, at_machine, at_pair, without_front, untaken, About, NothingElse, Target, Pair, Told, View, asks_on, dropped_for, follows_by, forwarded_for}
use Rattle.dm_law_moves.proofs.Names.{handled, held_for, ends_by, receiver_of, served_told, view_after, pair_same, touches, weight, weight_of, weight_to, at_machine_at, sort_of, is_server}
use Rattle.dm_law_always.proofs.Names.{queued_for}
use Rattle.dm_law_rule.specs.View as view
use Rattle.dm_law_moves.proofs.Settles.Weights.{first_weight, front_taken, front_weight, spike, spike_here, spike_off, sum_le, sum_moves, weight-append}

-- what a line does to the acting machine's inbox: nothing, its front goes, if it is this message, or whatever it is, or unless a server
-- has come, or whatever it is unless it has gone already, or it goes and what was held for a process comes before the others
pub data Effect : Type 0 where
  Stays : Effect
  Front : (id : MsgId) → Effect
  First : Effect
  Chunk : (process : Pid) → Effect
  Sets : Effect
  Returns : (process : Pid) → Effect

abbrev pub label_effect : Label → Effect
label_effect (Label.Dropped id) = Front id
label_effect (Label.Served id) = Front id
label_effect (Label.Gone id) = Front id
label_effect (Label.Took id) = Front id
label_effect (Label.Created id p) = Front id
label_effect (Label.NoSpace id a b) = Front id
label_effect (Label.Asked id) = Front id
label_effect _ = Stays

abbrev pub stage_effect : Pid → Stage → Effect
stage_effect p Stage.Frozen = Sets
stage_effect p Stage.Asked = Stays
stage_effect p Stage.Left = Stays
stage_effect p Stage.StateTaken = Chunk p
stage_effect p Stage.Restarted = Returns p
stage_effect p _ = First

-- but for puts and what a stream takes
abbrev pub effect : Line → Effect
effect (Line.Label l) = label_effect l
effect (Line.Queued id) = Front id
effect (Line.Held id) = Front id
effect (Line.Forwarded id m) = Front id
effect (Line.Updated id n) = Front id
effect (Line.Buried id n) = Front id
effect (Line.Migration s p) = stage_effect p s
effect (Line.SentOn p n) = First
effect (Line.Lacks p a b) = First
effect (Line.Stays p) = Returns p
effect (Line.Here id) = Front id
effect (Line.NoMove id) = Front id
effect (Line.Stale id) = Front id
effect (Line.Proto id) = Front id
effect _ = Stays

abbrev pub comes_in : Line → Bool
comes_in (Line.Put a b id k q) = true
comes_in (Line.Taken a b n) = true
comes_in l = false

abbrev first_gone : View → ℕ → List MsgId
first_gone v = at_machine v.inbox v.acting (drop 1 (v.inbox v.acting))

-- where the group has said already that a process is asked to move, the front has gone
abbrev pub sets_inbox : View → About → ℕ → List MsgId
sets_inbox v (Target m) = v.inbox
sets_inbox v a = first_gone v

abbrev pub inbox_by : View → Effect → ℕ → List MsgId
inbox_by v Stays = v.inbox
inbox_by v (Front id) = at_machine v.inbox v.acting (without_front id (v.inbox v.acting))
inbox_by v First = first_gone v
inbox_by v (Chunk p) = if is_server p then v.inbox else first_gone v
inbox_by v Sets = sets_inbox v v.topic
inbox_by v (Returns p) = at_machine (first_gone v) v.acting (v.held v.acting p ++ first_gone v v.acting)

queued_inbox : (v : View) (id : MsgId) (o : Option Pid) → (queued_for v id o).inbox ≡ v.inbox
queued_inbox v id None = refl
queued_inbox v id (Some p) = refl

held_inbox : (v : View) (id : MsgId) (o : Option Pid) → (held_for v id o).inbox ≡ v.inbox
held_inbox v id None = refl
held_inbox v id (Some p) = refl

dropped_inbox : (v : View) (id : MsgId) (o : Option Pid) → (dropped_for v id o).inbox ≡ v.inbox
dropped_inbox v id None = refl
dropped_inbox v id (Some p) = refl

forwarded_inbox : (v : View) (o : Option Pid) → (forwarded_for v o).inbox ≡ v.inbox
forwarded_inbox v None = refl
forwarded_inbox v (Some p) = refl

kills_inbox : (k : MessageKind) (v : View) (o : Option Pid) → (ends_by (sort_of k) v o).inbox ≡ v.inbox
kills_inbox MessageKind.Kill v None = refl
kills_inbox MessageKind.Kill v (Some p) = refl
kills_inbox k v o = refl

served_inbox : (v : View) (o : Option Told) → (served_told v o).inbox ≡ v.inbox
served_inbox v None = refl
served_inbox v (Some t) = kills_inbox t.kind v (Some t.receiver)

asks_inbox : (v : View) (a : About) → (asks_on v a).inbox ≡ v.inbox
asks_inbox v NothingElse = refl
asks_inbox v _ = refl

follows_inbox : (v : View) (a : About) (k : MessageKind) → (follows_by v a (sort_of k)).inbox ≡ v.inbox
follows_inbox v a MessageKind.State = asks_inbox v a
follows_inbox v a MessageKind.Memory = asks_inbox v a
follows_inbox v a k = refl

proto_inbox : (v : View) (o : Option Told) → (view.after_proto v o).inbox ≡ v.inbox
proto_inbox v None = refl
proto_inbox v (Some t) = follows_inbox v t.about t.kind

forgotten_inbox : (v : View) (a : About) → (view.forgotten v a).inbox ≡ v.inbox
forgotten_inbox v NothingElse = refl
forgotten_inbox v _ = refl

buried_inbox : (v : View) (o : Option Told) → (view.buried_for v o).inbox ≡ v.inbox
buried_inbox v None = refl
buried_inbox v (Some t) = forgotten_inbox v t.about

label_inbox : (v : View) (l : Label) → (view.after_label v l).inbox ≡ inbox_by v (label_effect l)
label_inbox v (Label.Dropped id) = dropped_inbox (handled v id) id (receiver_of (v.told id))
label_inbox v (Label.Served id) = served_inbox (handled v id) (v.told id)
label_inbox v _ = refl

sets_off_inbox : (v : View) (p : Pid) (a : About) → (view.sets_off v p a).inbox ≡ sets_inbox v a
sets_off_inbox v p (Target m) = refl
sets_off_inbox v p _ = refl

stage_inbox : (v : View) (p : Pid) (s : Stage) → (view.after_stage v p s).inbox ≡ inbox_by v (stage_effect p s)
stage_inbox v p Stage.Frozen = sets_off_inbox v p v.topic
stage_inbox v p _ = refl

head_inbox : (v : View) (d : Step) → (view.after_head v d).inbox ≡ v.inbox
head_inbox v (Step.Turn m) = refl
head_inbox v _ = refl

pub line_inbox : (v : View) (l : Line) → comes_in l ≡ false → (view_after v l).inbox ≡ inbox_by v (effect l)
line_inbox v (Line.Head d) e = head_inbox v d
line_inbox v (Line.Label l) e = label_inbox v l
line_inbox v (Line.Put a b id k q) e = cc
line_inbox v (Line.Taken a b n) e = cc
line_inbox v (Line.Queued id) e = queued_inbox (handled v id) id (receiver_of (v.told id))
line_inbox v (Line.Held id) e = held_inbox (handled v id) id (receiver_of (v.told id))
line_inbox v (Line.Forwarded id m) e = forwarded_inbox (handled v id) (receiver_of (v.told id))
line_inbox v (Line.Buried id n) e = buried_inbox (handled v id) (v.told id)
line_inbox v (Line.Migration s p) e = stage_inbox v p s
line_inbox v (Line.Proto id) e = proto_inbox (handled v id) (v.told id)
line_inbox v _ e = refl

-- what comes back from a held list
abbrev pub back_in : View → Effect → List MsgId
back_in v (Returns p) = v.held v.acting p
back_in v _ = []

-- the message at the front goes
abbrev pub takes_front : MsgId → Effect → Type 0
takes_front i Stays = ⊥
takes_front i (Front id) = id ≡ i
takes_front i (Chunk p) = is_server p ≡ false
takes_front i _ = ⊤

-- one machine's inbox is set
set_weight : (f : MsgId → ℕ) (inbox : ℕ → List MsgId) (a : ℕ) (ys : List MsgId) (x y m : ℕ) → weight f ys + x ≤ weight f (inbox a) + y → weight f (at_machine inbox a ys m) + spike a x m ≤ weight f (inbox m) + spike a y m
set_weight f inbox a ys x y m h = elim (eqb_tells a m) [
  | inl e ↦
      let here : weight f (at_machine inbox a ys m) ≡ weight f ys = ap (λ (c : Bool). weight f (if c then ys else inbox m)) e.0 in
      let was : weight f (inbox a) ≡ weight f (inbox m) = ap (λ (k : ℕ). weight f (inbox k)) e.1 in
      let p = spike_here a x m e.1 in
      let q = spike_here a y m e.1 in
      omega (arith, h, here, was, p, q)
  | inr e ↦
      let same : weight f (at_machine inbox a ys m) ≡ weight f (inbox m) = ap (λ (c : Bool). weight f (if c then ys else inbox m)) e.0 in
      let p = spike_off a x m e.1 in
      omega (arith, same, p)
]

first_less : (f : MsgId → ℕ) (v : View) (m : ℕ) → weight f (first_gone v m) ≤ weight f (v.inbox m) + spike v.acting 0 m
first_less f v m =
    let h = set_weight f v.inbox v.acting (drop 1 (v.inbox v.acting)) 0 0 m (let g = first_weight f (v.inbox v.acting) in omega (arith, g)) in omega (arith, h)

sets_less : (f : MsgId → ℕ) (v : View) (a : About) (m : ℕ) → weight f (sets_inbox v a m) ≤ weight f (v.inbox m) + spike v.acting 0 m
sets_less f v (Target k) m = omega arith
sets_less f v _ m = first_less f v m

chunk_less : (f : MsgId → ℕ) (v : View) (server : Bool) (m : ℕ) → weight f ((if server then v.inbox else first_gone v) m) ≤ weight f (v.inbox m) + spike v.acting 0 m
chunk_less f v true m = omega arith
chunk_less f v false m = first_less f v m

-- an inbox gains no more than what comes back
pub effect_weight : (f : MsgId → ℕ) (v : View) (e : Effect) (m : ℕ) → weight f (inbox_by v e m) ≤ weight f (v.inbox m) + spike v.acting (weight f (back_in v e)) m
effect_weight f v Stays m = omega arith
effect_weight f v (Front id) m =
    let h = set_weight f v.inbox v.acting (without_front id (v.inbox v.acting)) 0 0 m (let g = front_weight f id (v.inbox v.acting) in omega (arith, g)) in omega (arith, h)
effect_weight f v First m = first_less f v m
effect_weight f v (Chunk p) m = chunk_less f v (is_server p) m
effect_weight f v Sets m = sets_less f v v.topic m
effect_weight f v (Returns p) m =
    let ys = v.held v.acting p in
    let first = first_gone v in
    let there : first v.acting ≡ drop 1 (v.inbox v.acting) = at_machine_at v.inbox v.acting (drop 1 (v.inbox v.acting)) in
    let a = first_less f v m in
    let all = weight-append f ys (first v.acting) in
    let b = set_weight f first v.acting (ys ++ first v.acting) 0 (weight f ys) m (omega (arith, all)) in
    omega (arith, a, b)

first_loses : (f : MsgId → ℕ) (v : View) (i : MsgId) (is : List MsgId) (m : ℕ) → v.inbox v.acting ≡ i ∷ is
    → weight f (first_gone v m) + spike v.acting (f i) m ≤ weight f (v.inbox m) + spike v.acting 0 m
first_loses f v i is m front =
    let all : weight f (v.inbox v.acting) ≡ weight f (i ∷ is) = ap (weight f) front in
    let less : weight f (drop 1 (v.inbox v.acting)) ≡ weight f is = ap (λ (xs : List MsgId). weight f (drop 1 xs)) front in
    set_weight f v.inbox v.acting (drop 1 (v.inbox v.acting)) (f i) 0 m (omega (arith, all, less))

-- and where the front goes it loses that
pub effect_takes : (f : MsgId → ℕ) (v : View) (e : Effect) (i : MsgId) (is : List MsgId) (m : ℕ) → v.inbox v.acting ≡ i ∷ is → v.topic ≡ NothingElse → takes_front i e
    → weight f (inbox_by v e m) + spike v.acting (f i) m ≤ weight f (v.inbox m) + spike v.acting (weight f (back_in v e)) m
effect_takes f v Stays i is m front topic takes = absurd takes
effect_takes f v (Front id) i is m front topic takes =
    let all : weight f (v.inbox v.acting) ≡ weight f (i ∷ is) = ap (weight f) front in
    let less : weight f (without_front id (v.inbox v.acting)) ≡ weight f (without_front i (i ∷ is)) = ap (λ (j : MsgId). weight f (without_front j (v.inbox v.acting))) takes ∙ ap (λ (xs : List MsgId). weight f (without_front i xs)) front in
    let g = front_taken f i is in
    set_weight f v.inbox v.acting (without_front id (v.inbox v.acting)) (f i) 0 m (omega (arith, all, less, g))
effect_takes f v First i is m front topic takes = first_loses f v i is m front
effect_takes f v (Chunk p) i is m front topic takes =
    let same : weight f ((if is_server p then v.inbox else first_gone v) m) ≡ weight f (first_gone v m) = ap (λ (c : Bool). weight f ((if c then v.inbox else first_gone v) m)) takes in
    let h = first_loses f v i is m front in
    omega (arith, same, h)
effect_takes f v Sets i is m front topic takes =
    let same : weight f (sets_inbox v v.topic m) ≡ weight f (first_gone v m) = ap (λ (a : About). weight f (sets_inbox v a m)) topic in
    let h = first_loses f v i is m front in
    omega (arith, same, h)
effect_takes f v (Returns p) i is m front topic takes =
    let ys = v.held v.acting p in
    let first = first_gone v in
    let a = first_loses f v i is m front in
    let whole = weight-append f ys (first v.acting) in
    let b = set_weight f first v.acting (ys ++ first v.acting) 0 (weight f ys) m (omega (arith, whole)) in
    omega (arith, a, b)

-- what was routed and not taken stays, but for puts and what a stream takes
untaken_at : (f : ℕ → ℕ → Pair) (a b : ℕ) (p : Pair) → p.ids ≡ (f a b).ids → p.taken ≡ (f a b).taken → (c d : ℕ) → untaken (at_pair f a b p c d) ≡ untaken (f c d)
untaken_at f a b p ids taken c d = elim (cases_Bool ((a == c) && (b == d))) [
  | inl same ↦
      let one : a ≡ c = grind (arith, nat_tests) in
      let two : b ≡ d = grind (arith, nat_tests) in
      ap (λ (t : Bool). untaken (if t then p else f c d)) same ∙ ap (λ (n : ℕ). drop n p.ids) taken ∙ ap (drop (f a b).taken) ids ∙ ap (λ (n : ℕ). untaken (f n b)) one ∙ ap (λ (n : ℕ). untaken (f c n)) two
  | inr apart ↦ ap (λ (t : Bool). untaken (if t then p else f c d)) apart
]

head_untaken : (v : View) (d : Step) (a c : ℕ) → untaken ((view.after_head v d).pair a c) ≡ untaken (v.pair a c)
head_untaken v (Step.Deliver x y k) a c = untaken_at v.pair x y (view.marked (v.pair x y) k) refl refl a c
head_untaken v _ a c = refl

other_untaken : (v : View) (l : Line) → touches l ≡ false → (a c : ℕ) → untaken ((view_after v l).pair a c) ≡ untaken (v.pair a c)
other_untaken v l e a c = ap (λ (f : ℕ → ℕ → Pair). untaken (f a c)) (pair_same v l e)

pub line_untaken : (v : View) (l : Line) → comes_in l ≡ false → (a c : ℕ) → untaken ((view_after v l).pair a c) ≡ untaken (v.pair a c)
line_untaken v (Line.Head d) e a c = head_untaken v d a c
line_untaken v (Line.Put x y id k q) e a c = cc
line_untaken v (Line.Taken x y n) e a c = cc
line_untaken v (Line.Packet x y k l) e a c = untaken_at v.pair x y (record (v.pair x y) { gone = view.gone_after l (v.pair x y).gone; wire = (v.pair x y).wire ++ record { load = l; delivered = false } ∷ [] }) refl refl a c
line_untaken v (Line.Early x y n) e a c = untaken_at v.pair x y (record (v.pair x y) { kept = n ∷ filter (λ k. not (k == n)) (v.pair x y).kept }) refl refl a c
line_untaken v (Line.Acked x y n) e a c = untaken_at v.pair y x (record (v.pair y x) { acked = view.at_least (v.pair y x).acked n }) refl refl a c
line_untaken v (Line.Label l) e a c = other_untaken v (Line.Label l) refl a c
line_untaken v (Line.Queued id) e a c = other_untaken v (Line.Queued id) refl a c
line_untaken v (Line.Held id) e a c = other_untaken v (Line.Held id) refl a c
line_untaken v (Line.Forwarded id m) e a c = other_untaken v (Line.Forwarded id m) refl a c
line_untaken v (Line.Buried id n) e a c = other_untaken v (Line.Buried id n) refl a c
line_untaken v (Line.Migration s p) e a c = other_untaken v (Line.Migration s p) refl a c
line_untaken v (Line.Proto id) e a c = other_untaken v (Line.Proto id) refl a c
line_untaken v _ e a c = refl

sum_untaken : (f : MsgId → ℕ) (n : ℕ) (v w : View) (m : ℕ) → ((a c : ℕ) → untaken (w.pair a c) ≡ untaken (v.pair a c)) → sum_below (λ a. weight f (untaken (w.pair a m))) n ≤ sum_below (λ a. weight f (untaken (v.pair a m))) n
sum_untaken f n v w m same = sum_le (λ a. weight f (untaken (w.pair a m))) (λ a. weight f (untaken (v.pair a m))) n (λ a l. let e = ap (weight f) (same a m) in omega (arith, e))

-- so what is on its way gains no more than what comes back
pub line_weight : (f : MsgId → ℕ) (n : ℕ) (v : View) (l : Line) → comes_in l ≡ false → (m : ℕ) → weight_to f n (view_after v l) m ≤ weight_to f n v m + spike v.acting (weight f (back_in v (effect l))) m
line_weight f n v l e m =
    let box : weight f ((view_after v l).inbox m) ≡ weight f (inbox_by v (effect l) m) = ap (λ (g : ℕ → List MsgId). weight f (g m)) (line_inbox v l e) in
    let h = effect_weight f v (effect l) m in
    let s = sum_untaken f n v (view_after v l) m (line_untaken v l e) in
    omega (arith, box, h, s)

-- and loses the front that goes
pub line_takes_to : (f : MsgId → ℕ) (n : ℕ) (v : View) (l : Line) (i : MsgId) (is : List MsgId) → comes_in l ≡ false → v.inbox v.acting ≡ i ∷ is
    → v.topic ≡ NothingElse → takes_front i (effect l) → (m : ℕ) → weight_to f n (view_after v l) m + spike v.acting (f i) m ≤ weight_to f n v m + spike v.acting (weight f (back_in v (effect l))) m
line_takes_to f n v l i is e front topic takes m =
    let box : weight f ((view_after v l).inbox m) ≡ weight f (inbox_by v (effect l) m) = ap (λ (g : ℕ → List MsgId). weight f (g m)) (line_inbox v l e) in
    let k = effect_takes f v (effect l) i is m front topic takes in
    let s = sum_untaken f n v (view_after v l) m (line_untaken v l e) in
    omega (arith, box, k, s)

pub line_takes : (f : MsgId → ℕ) (n : ℕ) (v : View) (l : Line) (i : MsgId) (is : List MsgId) → comes_in l ≡ false → v.inbox v.acting ≡ i ∷ is
    → v.topic ≡ NothingElse → takes_front i (effect l) → v.acting < n → weight_of f n (view_after v l) + f i ≤ weight_of f n v + weight f (back_in v (effect l))
line_takes f n v l i is e front topic takes small =
    sum_moves (weight_to f n v) (weight_to f n (view_after v l)) n v.acting (f i) v.acting (weight f (back_in v (effect l))) small (λ m h. line_takes_to f n v l i is e front topic takes m)

-- a line that brings nothing back
no_spike : (k m : ℕ) → spike k 0 m ≡ 0
no_spike k m = elim (eqb_tells k m) [ inl e ↦ spike_here k 0 m e.1 | inr e ↦ spike_off k 0 m e.1 ]

pub calm_to : (f : MsgId → ℕ) (n : ℕ) (v : View) (l : Line) → comes_in l ≡ false → back_in v (effect l) ≡ [] → (m : ℕ) → weight_to f n (view_after v l) m ≤ weight_to f n v m
calm_to f n v l e none m =
    let k = line_weight f n v l e m in
    let z : spike v.acting (weight f (back_in v (effect l))) m ≡ 0 = ap (λ (xs : List MsgId). spike v.acting (weight f xs) m) none ∙ no_spike v.acting m in
    omega (arith, k, z)

pub calm_weight : (f : MsgId → ℕ) (n : ℕ) (v : View) (l : Line) → comes_in l ≡ false → back_in v (effect l) ≡ [] → weight_of f n (view_after v l) ≤ weight_of f n v
calm_weight f n v l e none = sum_le (weight_to f n (view_after v l)) (weight_to f n v) n (λ m h. calm_to f n v l e none m)
