-- A point determines the kernel with places, but for the queues: what is a process or a message without places, and has the
-- places of the addresses, is the one that stands there.
use Rattle.dm_law_places.proofs.Names.{◌≡◌, ℕ, zero, suc, List, [], ◌∷◌, map, refl, ap, ◌∙◌, sym, option_map, slice_get, Option, Some, ArrayVec, Pid, Addr, Link, place_of, plain_link, link_at, plain_slot, MsgId, Message, What, arith, nat_tests}
use Rattle.dm_law_places.proofs.Names.{PlainMessage, PlainWhat, plain_message, plain_what, Process, Status, plain_process, plain_status, PlainProcess, View, Addresses, MirrorsMessage, MirrorsProcess, enclosed, owner_at, PointDetermines}
use Rattle.dm_law_places.proofs.Keeps.{parts, there_of}
use Rattle.dm_law_places.proofs.Queues.{with_queue}
use Rattle.dm_law_places.proofs.Whats.{user_what, create_what, read_what, write_what, block_what, stop_what, resume_what, kill_what, written_what, gone_what, created_what, no_room_what, move_what, moved_what}

addr_is : (x y : Addr) → x.pid ≡ y.pid → place_of x ≡ place_of y → x ≡ y
addr_is x y e f = λ i. record { pid = e i; at = (f i).at; moves = (f i).moves }

link_is : (x y : Link) → plain_link x ≡ plain_link y → place_of x.addr ≡ place_of y.addr → x ≡ y
link_is x y e f = grind (arith, nat_tests)

array_is : {A : Type 0} (x y : ArrayVec A) → x.items ≡ y.items → x ≡ y
array_is x y e = λ i. record { items = e i }

-- links of messages and tables
links_are : (xs ys : List Link) → map plain_link xs ≡ map plain_link ys → ((k : ℕ) (x y : Link) → slice_get xs k ≡ Some x → slice_get ys k ≡ Some y → place_of x.addr ≡ place_of y.addr) → xs ≡ ys
links_are [] [] e h = refl
links_are [] (y ∷ ys) e h = cc
links_are (x ∷ xs) [] e h = cc
links_are (x ∷ xs) (y ∷ ys) e h =
    let f : plain_link x ≡ plain_link y = cc in
    let g : map plain_link xs ≡ map plain_link ys = cc in
    let first : x ≡ y = link_is x y f (h zero x y refl refl) in
    let rest : xs ≡ ys = links_are xs ys g (λ k u w. h (suc k) u w) in λ i. first i ∷ rest i

slot_is : (x y : Option Link) → plain_slot x ≡ plain_slot y → ((u w : Link) → x ≡ Some u → y ≡ Some w → place_of u.addr ≡ place_of w.addr) → x ≡ y
slot_is x y h1 h2 = search (arith, link_is)

slots_are : (xs ys : List (Option Link)) → map plain_slot xs ≡ map plain_slot ys → ((k : ℕ) (u w : Link) → link_at xs k ≡ Some u → link_at ys k ≡ Some w → place_of u.addr ≡ place_of w.addr) → xs ≡ ys
slots_are [] [] e h = refl
slots_are [] (y ∷ ys) e h = cc
slots_are (x ∷ xs) [] e h = cc
slots_are (x ∷ xs) (y ∷ ys) e h =
    let f : plain_slot x ≡ plain_slot y = cc in
    let g : map plain_slot xs ≡ map plain_slot ys = cc in
    let first : x ≡ y = slot_is x y f (λ u w. h zero u w) in
    let rest : xs ≡ ys = slots_are xs ys g (λ k u w. h (suc k) u w) in λ i. first i ∷ rest i

status_is : (s t : Status) → plain_status s ≡ plain_status t → ((o p : Addr) → owner_at s ≡ Some o → owner_at t ≡ Some p → place_of o ≡ place_of p) → s ≡ t
status_is Status.Ready Status.Ready e h = refl
status_is (Status.Waiting mask base size) (Status.Waiting m b c) e h = cc
status_is (Status.Moving dir owner base own left pending) (Status.Moving d o b w l p) e h =
    let pid : owner.pid ≡ o.pid = cc in
    let same : owner ≡ o = addr_is owner o pid (h owner o refl refl) in cc
status_is _ (Status.Waiting m b c) e h = cc
status_is _ (Status.Moving d o b w l p) e h = cc
status_is _ Status.Ready e h = cc

-- two processes that mirror the same one are one, but for the queue
pub process_is : (v : View) (a : Addresses) (p : Pid) (x y : Process) (q : List Message) → plain_process x ≡ plain_process y → MirrorsProcess v a p x → MirrorsProcess v a p y → with_queue x q ≡ with_queue y q
process_is v a p x y q e h k =
    let table : x.table ≡ y.table = slots_are x.table y.table (ap (λ (z : PlainProcess). z.links) e) (λ n u w f g. sym (h.slots n u f) ∙ k.slots n w g) in
    let stands : x.status ≡ y.status = status_is x.status y.status (ap (λ (z : PlainProcess). z.status) e) (λ o r f g. sym (h.owner o f) ∙ k.owner r g) in
    grind (arith, nat_tests)

-- what two messages say
what_is : (w z : What) (u : PlainWhat) → plain_what w ≡ Some u → plain_what z ≡ Some u → ((k : ℕ) (x y : Link) → slice_get (enclosed w) k ≡ Some x → slice_get (enclosed z) k ≡ Some y → place_of x.addr ≡ place_of y.addr) → w ≡ z
what_is w z (PlainWhat.User code channel bytes ls) e f h =
    let m = user_what w code channel bytes ls e in
    let n = user_what z code channel bytes ls f in
    let body : m.body ≡ n.body = array_is m.body n.body (m.bytes_are ∙ sym n.bytes_are) in
    let links : m.links ≡ n.links = array_is m.links n.links
    (links_are m.links.items n.links.items (m.links_are ∙ sym n.links_are) (λ k x y g j. h k x y (ap (λ (v : What). slice_get (enclosed v) k) m.is ∙ g) (ap (λ (v : What). slice_get (enclosed v) k) n.is ∙ j))) in
    m.is ∙ (λ i. What.User code channel (body i) (links i)) ∙ sym n.is
what_is w z (PlainWhat.Create image ls) e f h =
    let m = create_what w image ls e in
    let n = create_what z image ls f in
    let links : m.links ≡ n.links = array_is m.links n.links
    (links_are m.links.items n.links.items (m.links_are ∙ sym n.links_are) (λ k x y g j. h k x y (ap (λ (v : What). slice_get (enclosed v) k) m.is ∙ g) (ap (λ (v : What). slice_get (enclosed v) k) n.is ∙ j))) in
    m.is ∙ (λ i. What.Create image (links i)) ∙ sym n.is
what_is w z (PlainWhat.Write base bytes) e f h = grind (arith, nat_tests, write_what, array_is)
what_is w z (PlainWhat.Block bytes) e f h = grind (arith, nat_tests, block_what, array_is)
what_is w z (PlainWhat.Read base len) e f h = read_what w base len e ∙ sym (read_what z base len f)
what_is w z PlainWhat.Stop e f h = stop_what w e ∙ sym (stop_what z f)
what_is w z PlainWhat.Resume e f h = resume_what w e ∙ sym (resume_what z f)
what_is w z PlainWhat.Kill e f h = kill_what w e ∙ sym (kill_what z f)
what_is w z PlainWhat.Written e f h = written_what w e ∙ sym (written_what z f)
what_is w z PlainWhat.Gone e f h = gone_what w e ∙ sym (gone_what z f)
what_is w z (PlainWhat.Created child) e f h = created_what w child e ∙ sym (created_what z child f)
what_is w z PlainWhat.NoRoom e f h = no_room_what w e ∙ sym (no_room_what z f)
what_is w z (PlainWhat.Move machine) e f h = move_what w machine e ∙ sym (move_what z machine f)
what_is w z (PlainWhat.Moved outcome) e f h = moved_what w outcome e ∙ sym (moved_what z outcome f)

-- two messages that mirror the same one are one
pub message_is : (a : Addresses) (i : MsgId) (m n : Message) (k : PlainMessage) → plain_message m ≡ Some k → plain_message n ≡ Some k → MirrorsMessage a i m → MirrorsMessage a i n → m ≡ n
message_is a i m n k e f h j = grind (arith, nat_tests, parts, addr_is, what_is)

pub point_determines : PointDetermines
point_determines s v a l m h k = (
  λ i x e.
      let (n, there, says) = there_of s l i x h.plain e in
      let (r, stands, means) = there_of s m i x k.plain e in
      there ∙ ap Some (message_is a i n r x says means (h.places.message i n there) (k.places.message i r stands)) ∙ sym stands,
  λ p x y e f.
      process_is v a p x y y.queue (grind (arith, nat_tests, option_map, h.plain.processes p, k.plain.processes p)) (h.places.process p x e) (k.places.process p y f),
)
