-- What each event of a delivery makes of a pair: its stream, its wire, and what the lines say of it.
use Rattle.dm_law_mirror.proofs.Names.{drop-map, ◌≡◌, ℕ, zero, suc, ◌+◌, ◌-◌, ◌<◌, max, List, [], ◌∷◌, map, drop, refl, ap, ◌∙◌, sym, subst, arith, slice_get, option_map, Option, Some, nat_tests, slice_get-map, Message, MsgId, with_acked}
use Rattle.dm_law_mirror.proofs.Names.{kept_once, advanced, next, Data, Ack, load_at, Stream, Deliver, TakeKept, Acknowledge, DeliverBack, OtherAck, happens, get-drop, drop-more, Sent, Boot, Pair, at_least, has, AreMessages, bytes_of, line_of}
use Rattle.dm_law_mirror.proofs.Names.{is_some, Receiving, kept_under, StreamStands-happens, ◌==◌, ◌&&◌, Bool, not, filter, nat_lt, length, if◌then◌else◌, moved_up, arrival, after_arrival, after_next, Old, Early, place-moved_up}
use Rattle.dm_law_mirror.proofs.Names.{place-kept_same, place-kept_other, eq_not, marked}
use Rattle.dm_stream.specs.Packets.{Packet, Load}
use Rattle.dm_stream.specs.Stream.{arrives, hears}
use Rattle.dm_stream.specs.declared.receiver.Arrived.TheVariants.{Taken}
use Rattle.dm_law_rule.proofs.QuietTests.{eq_is}
pub use Rattle.dm_law_rule.proofs.Trails.Leads.{less_test}
use Rattle.dm_wire.specs.Sent as wire
use Rattle.dm_line.specs.declared.line.Load.TheVariants as load
use Rattle.dm_law_rule.specs.View as view
use Rattle.dm_stream.specs.Order as order
use Rattle.dm_law_mirror.proofs.Streams.{Joined, bytes_put, lines_put, with_back, with_bytes, with_line, with_out}

-- The messages that a receiver keeps are those that the lines name as kept, after each arrival.

-- the numbers without this one
abbrev pub off : ℕ → List ℕ → List ℕ
off n ks = filter (λ k. not (k == n)) ks

pub has_off : (j n : ℕ) (ks : List ℕ) → has j (off n ks) ≡ (not (j == n) && has j ks)
has_off j n [] = grind (arith, nat_tests)
has_off j n (k ∷ ks) = grind (arith, nat_tests, (has_off j n ks))

module _ {M : Type 0} where
  -- what a receiver knows when the next message has come
  pub after_next_is : (r : Receiving M) (m : M) → next r ≡ Some m → after_next r ≡ advanced r
  after_next_is r m e = ap (λ (o : Option M). record { count = if is_some o then r.count + 1 else r.count; kept = if is_some o then moved_up r.kept else r.kept }) e

  pub after_taken_is : (r : Receiving M) (n : ℕ) (m : M) → n ≡ r.count → after_arrival r n m ≡ advanced r
  after_taken_is r n m e = grind (arith, nat_tests, nat_lt, eq_is)

  pub arrival_taken : (r : Receiving M) (n : ℕ) (m : M) → n ≡ r.count → arrival r n m ≡ Taken m
  arrival_taken r n m e = ap (λ (c : Bool). if c then Taken m else if nat_lt n r.count then Old else Early) (eq_is n r.count e)

  pub after_old_is : (r : Receiving M) (n : ℕ) (m : M) → n < r.count → after_arrival r n m ≡ r
  after_old_is r n m e = grind (arith, nat_tests, nat_lt, eq_not, less_test)

  pub arrival_old : (r : Receiving M) (n : ℕ) (m : M) → n < r.count → arrival r n m ≡ Old
  arrival_old r n m e = grind (arith, nat_tests, nat_lt, eq_not, less_test)

  pub after_early_is : (r : Receiving M) (n : ℕ) (m : M) → r.count < n → after_arrival r n m ≡ record { count = r.count; kept = kept_once r.kept (n - r.count) m }
  after_early_is r n m e = grind (arith, nat_tests, nat_lt, eq_not)

  pub arrival_early : (r : Receiving M) (n : ℕ) (m : M) → r.count < n → arrival r n m ≡ Early
  arrival_early r n m e = grind (arith, nat_tests, nat_lt, eq_not)

  -- the next kept message is the one under the count
  pub next_is : (r : Receiving M) → next r ≡ kept_under r r.count
  next_is r = grind (arith, nat_tests)

  -- the next message is taken
  pub kept_taken : (r : Receiving M) (ks : List ℕ) → ((n : ℕ) → is_some (kept_under r n) ≡ has n ks) → (n : ℕ) → is_some (kept_under (advanced r) n) ≡ has n (off r.count ks)
  kept_taken r ks h n = grind (arith, nat_tests, place-moved_up, h n, has_off n r.count ks)

  -- a message comes early
  pub kept_early : (r : Receiving M) (ks : List ℕ) (k : ℕ) (m : M) → r.count < k → k < r.count + 8 → length r.kept ≡ 8 → ((n : ℕ) → is_some (kept_under r n) ≡ has n ks) → (n : ℕ) → is_some (kept_under (record { count = r.count; kept = kept_once r.kept (k - r.count) m }) n) ≡ has n (k ∷ off k ks)
  kept_early r ks k m low high places h n = grind (arith, nat_tests, place-kept_same, place-kept_other, h n, has_off n k ks)

-- Marks on the wire, and the messages of a pair by their place.

-- a mark on the wire, as the lines say it and as bytes
pub mark_next : (s : view.SentLoad) (ss : List view.SentLoad) (k : ℕ) (o : Option view.SentLoad) → view.marked_at (s ∷ ss) (suc k) o ≡ s ∷ view.marked_at ss k o
mark_next s ss k o = grind (arith, nat_tests)

lines_marked : (xs : List (Packet Message)) (k : ℕ) → map line_of (marked xs k) ≡ view.marked_at (map line_of xs) k (slice_get (map line_of xs) k)
lines_marked [] k = refl
lines_marked (x ∷ xs) zero = refl
lines_marked (x ∷ xs) (suc k) = ap (λ (ss : List view.SentLoad). line_of x ∷ ss) (lines_marked xs k) ∙ sym (mark_next (line_of x) (map line_of xs) k (slice_get (map line_of xs) k))

bytes_marked : (a c : ℕ) (xs : List (Packet Message)) (k : ℕ) → wire.marked (map (bytes_of a c) xs) k ≡ map (bytes_of a c) (marked xs k)
bytes_marked a c [] k = refl
bytes_marked a c (x ∷ xs) zero = refl
bytes_marked a c (x ∷ xs) (suc k) = ap (λ (ss : List Sent). bytes_of a c x ∷ ss) (bytes_marked a c xs k)

packets_marked : (xs : List (Packet Message)) (ss : List view.SentLoad) (k : ℕ) → map line_of xs ≡ ss → map line_of (marked xs k) ≡ view.marked_at ss k (slice_get ss k)
packets_marked xs ss k e = lines_marked xs k ∙ ap (λ (s : List view.SentLoad). view.marked_at s k (slice_get s k)) e

wire_marked : (a c : ℕ) (w : List Sent) (xs : List (Packet Message)) (k : ℕ) → w ≡ map (bytes_of a c) xs → wire.marked w k ≡ map (bytes_of a c) (marked xs k)
wire_marked a c w xs k e = ap (λ (s : List Sent). wire.marked s k) e ∙ bytes_marked a c xs k

pub message_is : (bag : MsgId → Option Message) (ids : List MsgId) (given : List Message) (t : ℕ) (i : MsgId) (m : Message) → AreMessages bag (drop t ids) (drop t given) → slice_get ids t ≡ Some i → slice_get given t ≡ Some m → bag i ≡ Some m
message_is bag ids given t i m h e is =
    let named : slice_get (drop t ids) 0 ≡ Some i = get-drop t ids 0 t (omega arith) ∙ e in
    let there : slice_get (drop t given) 0 ≡ Some m = get-drop t given 0 t (omega arith) ∙ is in
    let left : slice_get (map bag (drop t ids)) 0 ≡ Some (bag i) = slice_get-map bag (drop t ids) 0 ∙ ap (option_map bag) named in
    let same : Some (bag i) ≡ Some (Some m) = sym left ∙ ap (λ (xs : List (Option Message)). slice_get xs 0) h ∙ (slice_get-map Some (drop t given) 0 ∙ ap (option_map Some) there) in
    cc

pub untaken_next : (bag : MsgId → Option Message) (ids : List MsgId) (ms : List Message) (t : ℕ) → AreMessages bag (drop t ids) (drop t ms) → AreMessages bag (drop (t + 1) ids) (drop (t + 1) ms)
untaken_next bag ids ms t h =
    let f : AreMessages bag (drop 1 (drop t ids)) (drop 1 (drop t ms)) = sym (drop-map bag 1 (drop t ids)) ∙ ap (drop 1) h ∙ drop-map Some 1 (drop t ms) in
    subst (λ (xs : List MsgId). AreMessages bag xs (drop (t + 1) ms)) (drop-more t 1 (t + 1) ids refl) (subst (λ (xs : List Message). AreMessages bag (drop 1 (drop t ids)) xs) (drop-more t 1 (t + 1) ms refl) f)

max_is : (m n : ℕ) → max m n ≡ at_least m n
max_is m n = grind (arith, nat_tests)

module _ (b : Boot) (bag : MsgId → Option Message) (a c : ℕ) (s : Stream Message) (w : List Sent) (p : Pair) where
  -- a message comes, and the receiver is so then
  pub data_comes : (k n : ℕ) (m : Message) (r : Receiving Message) (t : ℕ) (ks : List ℕ) → load_at s.out k ≡ Some (Data n m) → after_arrival s.receiver n m ≡ r → r.count ≡ t → ((j : ℕ) → is_some (kept_under r j) ≡ has j ks)
      → AreMessages bag (drop t p.ids) (drop t s.given) → Joined b bag a c s w p → Joined b bag a c (arrives (record s { out = marked s.out k }) (Some (Data n m))) (wire.marked w k) (record (view.marked p k) { taken = t; kept = ks })
  data_comes k n m r t ks e is count kept untaken h = search (
    subst (λ (o : Option (Load Message)). order.StreamStands (arrives (record s { out = marked s.out k }) o)) e (StreamStands-happens s (Deliver k) h.stream),
    ap (λ (z : Receiving Message). z.count) is ∙ count,
    λ (j : ℕ). ap (λ (z : Receiving Message). is_some (kept_under z j)) is ∙ kept j,
    packets_marked s.out p.wire k h.packets,
    wire_marked a c w s.out k h.bytes,
  )

  -- a message that is kept is taken
  pub kept_comes : (m : Message) → next s.receiver ≡ Some m → Joined b bag a c s w p → Joined b bag a c (happens s TakeKept) w (record p { taken = p.taken + 1; kept = off s.receiver.count p.kept })
  kept_comes m e h = search (
    StreamStands-happens s TakeKept h.stream,
    untaken_next bag p.ids s.given p.taken h.untaken,
    ap (λ (z : Receiving Message). z.count) (after_next_is s.receiver m e) ∙ ap (λ (i : ℕ). i + 1) h.taken,
    λ (j : ℕ). ap (λ (z : Receiving Message). is_some (kept_under z j)) (after_next_is s.receiver m e) ∙ kept_taken s.receiver p.kept h.kept j,
  )

  -- an acknowledgement for the stream the other way comes
  pub other_comes : (k n : ℕ) → load_at s.out k ≡ Some (Ack n) → Joined b bag a c s w p → Joined b bag a c (record s { out = marked s.out k }) (wire.marked w k) (view.marked p k)
  other_comes k n e h = search (
    subst (λ (o : Option (Load Message)). order.StreamStands (arrives (record s { out = marked s.out k }) o)) e (StreamStands-happens s (Deliver k) h.stream),
    packets_marked s.out p.wire k h.packets,
    wire_marked a c w s.out k h.bytes,
  )

  -- on the wire back a message comes, or an acknowledgement
  pub back_comes : (k n : ℕ) (m : Message) → load_at s.back k ≡ Some (Data n m) → Joined b bag a c s w p → Joined b bag a c (record s { back = marked s.back k }) w p
  back_comes k n m e h = search (subst (λ (o : Option (Load Message)). order.StreamStands (hears (record s { back = marked s.back k }) o)) e (StreamStands-happens s (DeliverBack k) h.stream))

  pub acked_comes : (k n : ℕ) → load_at s.back k ≡ Some (Ack n) → Joined b bag a c s w p → Joined b bag a c (record s { sender = with_acked s.sender n; back = marked s.back k }) w (record p { acked = at_least p.acked n })
  acked_comes k n e h = search (
    subst (λ (o : Option (Load Message)). order.StreamStands (hears (record s { back = marked s.back k }) o)) e (StreamStands-happens s (DeliverBack k) h.stream),
    ap (λ (i : ℕ). max i n) h.acked ∙ max_is p.acked n,
  )

  -- the receiver acknowledges what it has taken
  pub acknowledges : Joined b bag a c s w p → Joined b bag a c (with_back s (Ack s.receiver.count)) w p
  acknowledges h = search (StreamStands-happens s Acknowledge h.stream)

  -- on the wire out, for the stream the other way
  pub other_acknowledges : (n : ℕ) → Joined b bag a c s w p → Joined b bag a c (with_out s (Ack n)) (with_bytes a c w (Ack n)) (with_line p (load.Ack n))
  other_acknowledges n h = search (StreamStands-happens s (OtherAck n) h.stream, lines_put s.out (Ack n) p.wire h.packets, bytes_put a c s.out (Ack n) w h.bytes)
