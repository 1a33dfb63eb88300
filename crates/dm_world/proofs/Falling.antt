-- Each step of a directive leaves fewer steps.
use Rattle.dm_world.proofs.Names.{Pid, keeps_over, over_in, with_over, Why, ◌≡◌, ℕ, zero, suc, ◌+◌, ◌-◌, ◌^◌, ◌<◌, ◌≤◌, Bool, true, false, ◌==◌, List, [], ◌∷◌, ◌++◌, length, refl, sym, ap, subst, ◌∙◌, inl, inr, arith, Result}
use Rattle.dm_world.proofs.Names.{⊤, ◌&&◌, if◌then◌else◌, option_map, Option, None, Some, Ok, Err, eqb_tells, leb_tells, slice_get_cases, Packet, PacketError, packet_of, Data, Ack, Sent, bytes_at, just_put, marked, after_mark, is_pair}
use Rattle.dm_world.proofs.Names.{Boot, Step, Out, Acted, Acts, Goes, Worn, spoken, with_packet, sum_below, Pass, Round, Settle, Cursor, One, Passing, Packets, Turns, End, Falls, IsFresh, LeavesFewer, LeavesNoMore}
use Rattle.dm_world.proofs.Names.{TakesTurn, room, room_of, seen_count, turns_of, first_unseen, Happened, Said, Says, WorldState, WornOut, acted, delivers, reads, turned, world_step, Rest}
use Rattle.dm_world.proofs.Names.{asks_at, seat_of}
use Rattle.dm_packet.specs.declared.Packet.TheVariants as packet
use Rattle.dm_schedule.specs.declared.Step.TheVariants as step
use Rattle.dm_node.specs.declared.out.Out.TheVariants as out
use Rattle.dm_node.specs.Acts as node

abbrev one_if : Bool → ℕ
one_if t = if t then 1 else 0

-- packets that are put are new
put_seen : (ps : List Sent) (bytes : List ℕ) → seen_count (ps ++ just_put bytes ∷ []) ≡ seen_count ps
put_seen [] bytes = refl
put_seen (p ∷ ps) bytes = ap (λ k. one_if p.seen + k) (put_seen ps bytes)

put_if_seen : (t : Bool) (ps : List Sent) (bytes : List ℕ) → seen_count (if t then ps ++ just_put bytes ∷ [] else ps) ≡ seen_count ps
put_if_seen true ps bytes = put_seen ps bytes
put_if_seen false ps bytes = refl

packet_seen : (wires : ℕ → ℕ → List Sent) (p : Packet) (a c : ℕ) → seen_count (with_packet wires p a c) ≡ seen_count (wires a c)
packet_seen wires (packet.Data from to k m) a c = put_if_seen (is_pair from to a c) (wires a c) _
packet_seen wires (packet.Ack from to k) a c = put_if_seen (is_pair from to a c) (wires a c) _

spoken_seen : (outs : List Out) (wires : ℕ → ℕ → List Sent) (a c : ℕ) → seen_count ((spoken wires outs).wires a c) ≡ seen_count (wires a c)
spoken_seen [] wires a c = refl
spoken_seen (out.Says l ∷ outs) wires a c = spoken_seen outs wires a c
spoken_seen (out.Sends p ∷ outs) wires a c = spoken_seen outs (with_packet wires p) a c ∙ packet_seen wires p a c

-- a mark counts at most one more
head_seen : (t : Bool) (k : ℕ) → one_if t + k ≤ 1 + k
head_seen true k = omega arith
head_seen false k = omega arith

one_small : (t : Bool) → one_if t ≤ 1
one_small true = omega arith
one_small false = omega arith

marked_seen : (ps : List Sent) (k : ℕ) → seen_count ps ≤ seen_count (marked ps k)
marked_seen [] k = omega arith
marked_seen (p ∷ ps) zero = head_seen p.seen (seen_count ps)
marked_seen (p ∷ ps) (suc k) = let h = marked_seen ps k in omega (arith, h)

-- and one more where the packet was new
later_or : (t : Bool) (o : Option ℕ) (j k : ℕ) → (if t then o else Some j) ≡ Some k → (o ≡ Some k → j + 1 ≤ k) → j ≤ k
later_or true o j k e h = let f = h e in omega (arith, f)
later_or false o j k e h = let f : j ≡ k = cc in omega (arith, f)

later : (ps : List Sent) (j k : ℕ) → first_unseen j ps ≡ Some k → j ≤ k
later [] j k e = absurd (cc)
later (p ∷ ps) j k e = later_or p.seen (first_unseen (j + 1) ps) j k e (later ps (j + 1) k)

abbrev IsOneMore : List Sent → ℕ → Type 0
IsOneMore ps i = (seen_count (marked ps i) ≡ suc (seen_count ps)) × (seen_count ps < length ps) × (i < length ps)

fresh_later : (p : Sent) (ps : List Sent) (i : ℕ) → IsOneMore ps i → IsOneMore (p ∷ ps) (suc i)
fresh_later p ps i h =
    let more = h.0 in
    let few = h.1 in
    let within = h.2 in
    let small : one_if p.seen ≤ 1 = one_small p.seen in
    (omega (arith, more), omega (arith, few, small), omega (arith, within))

seen_within : (ps : List Sent) → seen_count ps ≤ length ps
seen_within [] = omega arith
seen_within (p ∷ ps) = let h = seen_within ps in let s : one_if p.seen ≤ 1 = one_small p.seen in omega (arith, h, s)

fresh_here : (p : Sent) (ps : List Sent) → p.seen ≡ false → IsOneMore (p ∷ ps) zero
fresh_here p ps e =
    let h = seen_within ps in
    let f : one_if p.seen ≡ 0 = ap one_if e in
    (omega (arith, f), omega (arith, f, h), omega arith)

fresh_or : (p : Sent) (ps : List Sent) (j k i : ℕ) (t : Bool) → p.seen ≡ t → (if t then first_unseen (j + 1) ps else Some j) ≡ Some k → k ≡ j + i
    → ((l : ℕ) → first_unseen (j + 1) ps ≡ Some k → k ≡ (j + 1) + l → IsOneMore ps l) → IsOneMore (p ∷ ps) i
fresh_or p ps j k i false is e f h =
    let g : j ≡ k = cc in
    let none : 0 ≡ i = omega (arith, f, g) in
    subst (IsOneMore (p ∷ ps)) none (fresh_here p ps is)
fresh_or p ps j k i true is e f h =
    let g : j + 1 ≤ k = later ps (j + 1) k e in
    let some : suc (i - 1) ≡ i = omega (arith, f, g) in
    let next : k ≡ (j + 1) + (i - 1) = omega (arith, f, g) in
    subst (IsOneMore (p ∷ ps)) some (fresh_later p ps (i - 1) (h (i - 1) e next))

fresh_at : (ps : List Sent) (j k i : ℕ) → first_unseen j ps ≡ Some k → k ≡ j + i → IsOneMore ps i
fresh_at [] j k i e f = absurd (cc)
fresh_at (p ∷ ps) j k i e f = fresh_or p ps j k i p.seen refl e f (λ l g m. fresh_at ps (j + 1) k l g m)

pub fresh_marked : (ps : List Sent) (k : ℕ) → first_unseen 0 ps ≡ Some k → IsOneMore ps k
fresh_marked ps k e = fresh_at ps 0 k k e (omega arith)

-- what a step does to the marks
abbrev SeenMore : WorldState → WorldState → Type 0
SeenMore w v = (a c : ℕ) → seen_count (w.wires a c) ≤ seen_count (v.wires a c)

abbrev pub MoreIn : WorldState → Option Happened → Type 0
MoreIn w None = ⊤
MoreIn w (Some (Says s)) = SeenMore w s.state
MoreIn w (Some (WornOut from to)) = ⊤

same_more : (k l : ℕ) → l ≡ k → k ≤ l
same_more k l e = omega (arith, e)

acted_more : (w : WorldState) (e : Step) (m : ℕ) (d : Acted) → SeenMore w (acted w e m d).state
acted_more w e m d a c = same_more _ _ (spoken_seen d.outs w.wires a c)

turned_more : (w : WorldState) (e : Step) (m : ℕ) (o : Option Acts) → MoreIn w (turned w e m o)
turned_more w e m None = tt
turned_more w e m (Some (Goes d)) = acted_more w e m d
turned_more w e m (Some (Worn from to)) = tt

kept_more : (w : WorldState) (kept : Pid → Option Why) (o : Option Happened) → MoreIn (record w { ended = kept }) o → MoreIn w o
kept_more w kept None h = tt
kept_more w kept (Some (Says s)) h = h
kept_more w kept (Some (WornOut from to)) h = tt

reads_more : (w : WorldState) (e : Step) (a c : ℕ) (r : Result Packet PacketError) → MoreIn w (reads w e a c r)
reads_more w e a c (Ok (packet.Data from to k m)) = acted_more w e c (node.arrives (w.nodes c) a (Data k m))
reads_more w e a c (Ok (packet.Ack from to k)) = acted_more w e c (node.arrives (w.nodes c) a (Ack k))
reads_more w e a c (Err bad) = tt

mark_if_more : (t : Bool) (ps : List Sent) (k : ℕ) → seen_count ps ≤ seen_count (if t then marked ps k else ps)
mark_if_more true ps k = marked_seen ps k
mark_if_more false ps k = omega arith

marked_more : (w : WorldState) (a c k : ℕ) (o : Option Happened) → MoreIn (record w { wires = after_mark w.wires a c k }) o → MoreIn w o
marked_more w a c k None h = tt
marked_more w a c k (Some (Says s)) h = λ x y. let f = h x y in let g = mark_if_more (is_pair a c x y) (w.wires x y) k in omega (arith, f, g)
marked_more w a c k (Some (WornOut from to)) h = tt

delivers_more : (w : WorldState) (e : Step) (a c k : ℕ) (o : Option (List ℕ)) → MoreIn w (delivers w e a c k o)
delivers_more w e a c k None = λ x y. omega arith
delivers_more w e a c k (Some bytes) =
    marked_more w a c k (reads (record w { wires = after_mark w.wires a c k }) e a c (packet_of bytes)) (reads_more (record w { wires = after_mark w.wires a c k }) e a c (packet_of bytes))

asks_more : (w : WorldState) (e : Step) (p : Pid) (m : ℕ) (o : Option ℕ) → MoreIn w (asks_at w e p m o)
asks_more w e p m None = λ a c. omega arith
asks_more w e p m (Some s) = turned_more w e s (node.asks_move (w.nodes s) p m)

pub step_more : (b : Boot) (w : WorldState) (e : Step) → MoreIn w (world_step b w e)
step_more b w (step.Turn m) =
    let o = node.turn b (w.nodes m) in
    kept_more w (with_over w.ended (over_in o)) (world_step b w (step.Turn m)) (turned_more (keeps_over w o) (step.Turn m) m o)
step_more b w (step.Tick m) = acted_more w (step.Tick m) m (node.tick (w.nodes m))
step_more b w (step.Deliver a c k) = delivers_more w (step.Deliver a c k) a c k (bytes_at (w.wires a c) k)
step_more b w (step.Migrate p m) = asks_more w (step.Migrate p m) p m (seat_of (length b.machines) w.nodes)
step_more b w (step.CallOff p m) = turned_more w (step.CallOff p m) m (node.calls_off (w.nodes m) p)

more_said : (w : WorldState) (o : Option Happened) (s : Said) → o ≡ Some (Says s) → MoreIn w o → SeenMore w s.state
more_said w o s e h = subst (MoreIn w) e h

-- a new packet is delivered
abbrev pub OneIn : WorldState → ℕ → ℕ → Option Happened → Type 0
OneIn w a c None = ⊤
OneIn w a c (Some (Says s)) = seen_count (w.wires a c) < seen_count (s.state.wires a c)
OneIn w a c (Some (WornOut from to)) = ⊤

pair_same : {X : Type 0} (a c : ℕ) (x y : X) → (if is_pair a c a c then x else y) ≡ x
pair_same a c x y =
    elim (eqb_tells a a) [
      | inl e ↦
          elim (eqb_tells c c) [
            | inl f ↦ ap (λ (t : Bool). if t && (c == c) then x else y) e.0 ∙ ap (λ (t : Bool). if t then x else y) f.0
            | inr f ↦ absurd (f.1 refl)
          ]
      | inr e ↦ absurd (e.1 refl)
    ]

one_more_in : (w : WorldState) (a c k : ℕ) (o : Option Happened) → IsOneMore (w.wires a c) k → MoreIn (record w { wires = after_mark w.wires a c k }) o → OneIn w a c o
one_more_in w a c k None one h = tt
one_more_in w a c k (Some (Says s)) one h =
    let f = h a c in
    let g : seen_count (after_mark w.wires a c k a c) ≡ seen_count (marked (w.wires a c) k) = ap seen_count (pair_same a c (marked (w.wires a c) k) (w.wires a c)) in
    let i = one.0 in
    omega (arith, f, g, i)
one_more_in w a c k (Some (WornOut from to)) one h = tt

some_bytes : (ps : List Sent) (k : ℕ) → k < length ps → bytes_at ps k ≡ None → ⊥
some_bytes ps k h e =
    elim ((slice_get_cases ps k).1) [
      | inl r ↦ let f : option_map (λ (x : Sent). x.bytes) (Some r.0) ≡ None = sym (ap (option_map (λ (x : Sent). x.bytes)) r.2) ∙ e in cc
      | inr r ↦ let p = r.0 in absurd (omega (arith, p, h))
    ]

fresh_delivers : (w : WorldState) (e : Step) (a c k : ℕ) (o : Option (List ℕ)) → bytes_at (w.wires a c) k ≡ o → IsOneMore (w.wires a c) k → OneIn w a c (delivers w e a c k o)
fresh_delivers w e a c k None is one = absurd (some_bytes (w.wires a c) k one.2 is)
fresh_delivers w e a c k (Some bytes) is one =
    one_more_in w a c k (reads (record w { wires = after_mark w.wires a c k }) e a c (packet_of bytes)) one
    (reads_more (record w { wires = after_mark w.wires a c k }) e a c (packet_of bytes))

one_said : (w : WorldState) (a c : ℕ) (o : Option Happened) (s : Said) → o ≡ Some (Says s) → OneIn w a c o → seen_count (w.wires a c) < seen_count (s.state.wires a c)
one_said w a c o s e h = subst (OneIn w a c) e h

-- sums
sum_le : (f g : ℕ → ℕ) (n : ℕ) → ((k : ℕ) → f k ≤ g k) → sum_below f n ≤ sum_below g n
sum_le f g zero h = omega arith
sum_le f g (suc n) h = let i = sum_le f g n h in let j = h n in omega (arith, i, j)

sum_lt : (f g : ℕ → ℕ) (n m : ℕ) → m < n → ((k : ℕ) → f k ≤ g k) → f m < g m → sum_below f n < sum_below g n
sum_lt f g zero m k h l = absurd (omega arith)
sum_lt f g (suc n) m k h l =
    elim (leb_tells (suc m) n) [
      | inl e ↦ let i = sum_lt f g n m e.1 h l in let j = h n in omega (arith, i, j)
      | inr e ↦
          let d = e.1 in
          let last : m ≡ n = omega (arith, d) in
          let i = sum_le f g n h in
          let j : f n < g n = subst (λ x. f x < g x) last l in
          omega (arith, i, j)
    ]

less_left : (m x y : ℕ) → x ≤ y → m - y ≤ m - x
less_left m x y h = omega (arith, h)

fewer_left : (m x y : ℕ) → x < y → x < m → m - y < m - x
fewer_left m x y h k = omega (arith, h, k)

pub room_stays : (n : ℕ) (w v : WorldState) → ((a c : ℕ) → seen_count (w.wires a c) ≤ seen_count (v.wires a c)) → room n v ≤ room n w
unfolding room
room_stays n w v h =
    sum_le (λ a. sum_below (λ c. room_of v a c) n) (λ a. sum_below (λ c. room_of w a c) n) n
    (λ a. sum_le (room_of v a) (room_of w a) n (λ c. less_left (2 ^ 64) (seen_count (w.wires a c)) (seen_count (v.wires a c)) (h a c)))

pub room_falls : (n : ℕ) (w v : WorldState) (a c : ℕ) → a < n → c < n → ((x y : ℕ) → seen_count (w.wires x y) ≤ seen_count (v.wires x y)) → seen_count (w.wires a c) < seen_count (v.wires a c)
    → seen_count (w.wires a c) < 2 ^ 64 → room n v < room n w
unfolding room
room_falls n w v a c la lc h one small =
    let each = λ (x y : ℕ). less_left (2 ^ 64) (seen_count (w.wires x y)) (seen_count (v.wires x y)) (h x y) in
    sum_lt (λ x. sum_below (λ y. room_of v x y) n) (λ x. sum_below (λ y. room_of w x y) n) n a la (λ x. sum_le (room_of v x) (room_of w x) n (each x))
    (sum_lt (room_of v a) (room_of w a) n c lc (each a) (fewer_left (2 ^ 64) (seen_count (w.wires a c)) (seen_count (v.wires a c)) one small))

-- a step that is counted
pub counted_fewer : (n : ℕ) (w : WorldState) (c after : Cursor) (e : Step) → turns_of n after < turns_of n c → LeavesFewer n w c e after
counted_fewer n w c after e h b s is =
    let r : room n s.state ≤ room n w = room_stays n w s.state (more_said w (world_step b w e) s is (step_more b w e)) in
    omega (arith, r, h)

counted_no_more : (n : ℕ) (w : WorldState) (c after : Cursor) (e : Step) → turns_of n after ≤ turns_of n c → LeavesNoMore n w c e after
counted_no_more n w c after e h b s is =
    let r : room n s.state ≤ room n w = room_stays n w s.state (more_said w (world_step b w e) s is (step_more b w e)) in
    omega (arith, r, h)

-- a new packet
packet_fewer : (n : ℕ) (w : WorldState) (cursor after : Cursor) (a c k : ℕ) → IsFresh n w a c k → turns_of n after ≤ turns_of n cursor → LeavesFewer n w cursor (step.Deliver a c k) after
packet_fewer n w cursor after a c k fresh h b s is =
    let e = step.Deliver a c k in
    let more = more_said w (world_step b w e) s is (step_more b w e) in
    let one = fresh_marked (w.wires a c) k fresh.first in
    let few = one.1 in
    let short = fresh.short in
    let new = one_said w a c (world_step b w e) s is (fresh_delivers w e a c k (bytes_at (w.wires a c) k) refl one) in
    let r : room n s.state < room n w = room_falls n w s.state a c fresh.from fresh.to more new (omega (arith, few, short)) in
    omega (arith, r, h)

pub one_falls : (n : ℕ) (w : WorldState) (e : Step) → Falls n w (One e) e (Passing (Round 0) End)
one_falls n w e = counted_fewer n w (One e) (Passing (Round 0) End) e (omega arith)

pub packet_falls : (n : ℕ) (w : WorldState) (p : Pass) (from to a c k : ℕ) → IsFresh n w a c k → Falls n w (Passing p (Packets from to)) (step.Deliver a c k) (Passing p (Packets a c))
packet_falls n w (Round j) from to a c k fresh = packet_fewer n w (Passing (Round j) (Packets from to)) (Passing (Round j) (Packets a c)) a c k fresh (omega arith)
packet_falls n w (Rest j) from to a c k fresh = packet_fewer n w (Passing (Rest j) (Packets from to)) (Passing (Rest j) (Packets a c)) a c k fresh (omega arith)
packet_falls n w Settle from to a c k fresh = (tt, (fresh, packet_fewer n w (Passing Settle (Packets from to)) (Passing Settle (Packets a c)) a c k fresh (omega arith)))

pub turn_falls : (n : ℕ) (w : WorldState) (p : Pass) (m k : ℕ) → TakesTurn n w p m k → Falls n w (Passing p (Turns m)) (step.Turn k) (Passing p (Turns (k + 1)))
turn_falls n w (Round j) m k h =
    let from = h.from in
    let within = h.within in
    counted_fewer n w (Passing (Round j) (Turns m)) (Passing (Round j) (Turns (k + 1))) (step.Turn k) (omega (arith, from, within))
turn_falls n w (Rest j) m k h =
    let from = h.from in
    let within = h.within in
    counted_fewer n w (Passing (Rest j) (Turns m)) (Passing (Rest j) (Turns (k + 1))) (step.Turn k) (omega (arith, from, within))
turn_falls n w Settle m k h = (tt, (h.within, h.takes, counted_no_more n w (Passing Settle (Turns m)) (Passing Settle (Turns (k + 1))) (step.Turn k) (omega arith)))
