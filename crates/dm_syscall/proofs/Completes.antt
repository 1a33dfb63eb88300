-- How a receive ends, without places and lawfully.
use Rattle.dm_syscall.proofs.Names.{◌≡◌, ◌∙◌, ℕ, zero, suc, ◌+◌, ◌≤◌, Bool, true, false, List, [], ◌∷◌, length, map, take, drop, Some, None, slice_get, refl, ap, sym, arith, if◌then◌else◌, ◌&&◌, All, IfSome, length-set, length-map, map-set}
use Rattle.dm_syscall.proofs.Names.{All-append, All-drop, All-set, All-take, nat_tests, Option, Addr, Link, IsLawfulEnclosed, pid_eq, PlainLink, plain_link, first_empty, plain_slot, pid_eq_self, Message, MsgId, What, IsLawfulMessage}
use Rattle.dm_syscall.proofs.Names.{IsLawfulWhat, PlainMessage, User, plain_message, Process, Status, IsLawfulProcess, IsLawfulStatus, SlotIsLawful, on_mask, what_is_on, Reply, reply_code, bind, written_at, plain_process, plain_status}
use Rattle.dm_syscall.proofs.Names.{Ready, receive_refusals, received_regs, first_failed, length-written, Completed, Completion, IsAwaited, Placed, completes, completes_unless, completion, place_into, place_links, plain_completed, receives}
use Rattle.dm_syscall.proofs.Names.{refusal}
use Rattle.dm_message.specs.declared.What.TheVariants as what
use Rattle.dm_process.specs.declared.process.Status.TheVariants as status
use Rattle.dm_onekernel.specs.Receiving as kernel
use Rattle.dm_syscall.proofs.PlainCalls.{first_of}

abbrev plain_placed : Placed → kernel.RegsAndLinks
plain_placed t = record { regs = t.regs; links = map plain_slot t.table }

into_plainly : (t : Placed) (r : ℕ) (l : Link) (o : Option ℕ) → kernel.place_into (plain_placed t) r (plain_link l) o ≡ plain_placed (place_into t r l o)
into_plainly t r l None = refl
into_plainly t r l (Some slot) = λ i. record { regs = (place_into t r l (Some slot)).regs; links = sym (map-set plain_slot t.table slot (Some l)) i }

places_plainly : (t : Placed) (r : ℕ) (ls : List Link) → kernel.place_links (plain_placed t) r (map plain_link ls) ≡ plain_placed (place_links t r ls)
places_plainly t r [] = refl
places_plainly t r (l ∷ ls) =
    ap (λ t. kernel.place_links t (r + 1) (map plain_link ls))
    (ap (kernel.place_into (plain_placed t) r (plain_link l)) (first_of t.table) ∙ into_plainly t r l (first_empty t.table))
    ∙ places_plainly (place_into t r l (first_empty t.table)) (r + 1) ls

-- what becomes of a receive, without places
abbrev plain : Completion → kernel.Completed
plain d = plain_completed d.completed d.process

receives_plainly : (p : Process) (place : ℕ) (id : MsgId) (base code channel : ℕ) (body : List ℕ) (links : List Link)
    → plain (receives p place id base code channel body links) ≡ kernel.Receives (kernel.with_received (plain_process p) base code channel body (map plain_link links))
receives_plainly p place id base code channel body links =
    let t : Placed = record { regs = received_regs p.regs code channel (length body) (length links); table = p.table } in
    let n : length links ≡ length (map plain_link links) = sym (length-map links plain_link) in
    let e : plain_placed (place_links t 5 links)
    ≡ kernel.place_links (record { regs = received_regs p.regs code channel (length body) (length (map plain_link links)); links = map plain_slot p.table }) 5 (map plain_link links) =
    sym (places_plainly t 5 links)
    ∙ ap (λ n. kernel.place_links (record { regs = received_regs p.regs code channel (length body) n; links = map plain_slot p.table }) 5 (map plain_link links)) n
    in
    ap (λ (t : kernel.RegsAndLinks). kernel.Receives (record (plain_process p) { regs = t.regs; memory = written_at p.memory base body; links = t.links; status = Ready })) e

unless_plainly : (o : Option Reply) (p : Process) (d : Completion) (x : _) → plain d ≡ kernel.Receives x → plain (completes_unless o p d) ≡ kernel.completes_unless o (plain_process p) x
unless_plainly None p d x e = e
unless_plainly (Some c) p d x e = refl

passes : (b c : Bool) (x : Option kernel.Completed) → b ≡ true → c ≡ true → (if b && c then x else None) ≡ x
passes b c x e f = rw (e, f) refl

what_plainly : (p : Process) (place mask base cap : ℕ) (id : MsgId) (to sender : Addr) (w : What) (d : Completion) (m : PlainMessage) → what_is_on mask w ≡ true → completes p place id base cap w ≡ Some d
    → plain_message (record { id = id; to = to; sender = sender; what = w }) ≡ Some m → m.to ≡ p.pid → kernel.completes_what p.pid (plain_process p) m mask base cap m.what ≡ Some (plain d)
what_plainly p place mask base cap id to sender (what.User code channel body links) d m on e same here =
    let pm : PlainMessage = record { id = id; to = to.pid; sender = sender.pid; what = User code channel body.items (map plain_link links.items) } in
    let em : m ≡ pm = cc in
    let t : to.pid ≡ p.pid = sym (ap (λ (m : PlainMessage). m.to) em) ∙ here in
    let named : pid_eq to.pid p.pid ≡ true = ap (λ q. pid_eq q p.pid) t ∙ pid_eq_self p.pid in
    let f : completes_unless (first_failed (receive_refusals (plain_process p) cap body.items (map plain_link links.items))) p (receives p place id base code channel body.items links.items) ≡ d = cc in
    ap (λ (m : PlainMessage). kernel.completes_what p.pid (plain_process p) m mask base cap m.what) em
    ∙ passes (pid_eq to.pid p.pid) (on_mask mask channel) (Some (kernel.completes (plain_process p) base cap code channel body.items (map plain_link links.items))) named on
    ∙ ap Some
    (sym
    (unless_plainly (first_failed (receive_refusals (plain_process p) cap body.items (map plain_link links.items))) p (receives p place id base code channel body.items links.items)
    (kernel.with_received (plain_process p) base code channel body.items (map plain_link links.items))
    (receives_plainly p place id base code channel body.items links.items))
    ∙ ap plain f)
what_plainly p place mask base cap id to sender w d m on e same here = absurd (cc)

pub status_plainly : (p : Process) (place : ℕ) (s : Status) (o : Option Message) (d : Completion) (m : PlainMessage) → IsAwaited s o → completion p place s o ≡ Some d → bind o plain_message ≡ Some m
    → m.to ≡ p.pid → kernel.completes_status p.pid (plain_process p) m (plain_status s) ≡ Some (plain d)
status_plainly p place (status.Waiting mask base cap) (Some x) d m h e same here = what_plainly p place mask base cap x.id x.to x.sender x.what d m h e same here
status_plainly p place s o d m h e same here = absurd h

-- a receive ends as in the kernel without machines
pub completes_plainly : (p q : Process) (place : ℕ) (c : Completed) (m : PlainMessage) → IsAwaited p.status (slice_get p.queue place)
    → completion p place p.status (slice_get p.queue place) ≡ Some (record { completed = c; process = q }) → bind (slice_get p.queue place) plain_message ≡ Some m → m.to ≡ p.pid → p.stopped ≡ false
    → kernel.completes_with p.pid (plain_process p) m ≡ Some (plain_completed c q)
completes_plainly p q place c m h e same here goes =
    ap (λ b. if b then None else kernel.completes_status p.pid (plain_process p) m (plain_status p.status)) goes
    ∙ status_plainly p place p.status (slice_get p.queue place) (record { completed = c; process = q }) m h e same here

-- the table and the registers once links are placed
record IsPlaced (t u : Placed) : Type 0 where
  pub regs : length u.regs.r ≡ length t.regs.r
  pub slots : length u.table ≡ length t.table
  pub links : All SlotIsLawful u.table

into_lawfully : (t : Placed) (r : ℕ) (l : Link) (o : Option ℕ) → IsLawfulEnclosed l → All SlotIsLawful t.table → IsPlaced t (place_into t r l o)
into_lawfully t r l None link all = record { regs = refl; slots = refl; links = all }
into_lawfully t r l (Some slot) link all =
    record {
      regs = length-set t.regs.r r slot;
      slots = length-set t.table slot (Some l);
      links = All-set SlotIsLawful t.table slot (Some l) link all;
    }

places_lawfully : (t : Placed) (r : ℕ) (ls : List Link) → All IsLawfulEnclosed ls → All SlotIsLawful t.table → IsPlaced t (place_links t r ls)
places_lawfully t r [] links all = record { regs = refl; slots = refl; links = all }
places_lawfully t r (l ∷ ls) links all =
    let u : Placed = place_into t r l (first_empty t.table) in
    let one : IsPlaced t u = into_lawfully t r l (first_empty t.table) (links 0 l (omega arith)) all in
    let more : IsPlaced u (place_links u (r + 1) ls) = places_lawfully u (r + 1) ls (λ k d h. links (suc k) d (omega arith)) one.links in
    record { regs = more.regs ∙ one.regs; slots = more.slots ∙ one.slots; links = more.links }

received_length : (r : _) (code channel len count : ℕ) → length (received_regs r code channel len count).r ≡ length r.r
received_length r code channel len count = simp length-set

-- a message of the queue
got_is : (queue : List Message) (i : ℕ) → All IsLawfulMessage queue → IfSome (slice_get queue i) IsLawfulMessage
got_is [] i all = tt
got_is (m ∷ queue) zero all = all 0 m (omega arith)
got_is (m ∷ queue) (suc i) all = got_is queue i (λ k d h. all (suc k) d (omega arith))

receives_lawfully : (p : Process) (place : ℕ) (id : MsgId) (base code channel : ℕ) (body : List ℕ) (links : List Link) → IsLawfulProcess p → base + length body ≤ length p.memory
    → All IsLawfulEnclosed links → IsLawfulProcess (receives p place id base code channel body links).process
receives_lawfully p place id base code channel body links lawful fits all =
    let t : Placed = record { regs = received_regs p.regs code channel (length body) (length links); table = p.table } in
    let placed : IsPlaced t (place_links t 5 links) = places_lawfully t 5 links all lawful.links in
    let n : length (written_at p.memory base body) ≡ length p.memory = length-written p.memory base body fits in
    record {
      home = lawful.home;
      registers = placed.regs ∙ received_length p.regs code channel (length body) (length links) ∙ lawful.registers;
      size = rw n lawful.size;
      links = placed.links;
      slots = rw placed.slots lawful.slots;
      status = tt;
      queue = All-append IsLawfulMessage (take place p.queue) (drop (suc place) p.queue) (All-take IsLawfulMessage place p.queue lawful.queue) (All-drop IsLawfulMessage (suc place) p.queue lawful.queue);
    }

refuses_lawfully : (c : Reply) (p : Process) → IsLawfulProcess p → IsLawfulProcess (refusal c p).process
refuses_lawfully c p lawful =
    record {
      home = lawful.home;
      registers = length-set p.regs.r 0 (reply_code c) ∙ lawful.registers;
      size = lawful.size;
      links = lawful.links;
      slots = lawful.slots;
      status = tt;
      queue = lawful.queue;
    }

unless_lawfully : (o : Option Reply) (p : Process) (d : Completion) → IsLawfulProcess p → (o ≡ None → IsLawfulProcess d.process) → IsLawfulProcess (completes_unless o p d).process
unless_lawfully None p d lawful h = h refl
unless_lawfully (Some c) p d lawful h = refuses_lawfully c p lawful

body_fits : (p : _) (cap : ℕ) (body : List ℕ) (links : List PlainLink) → first_failed (receive_refusals p cap body links) ≡ None → length body ≤ cap
body_fits p cap body links e = grind (arith, nat_tests)

what_lawfully : (p : Process) (place : ℕ) (id : MsgId) (mask base cap : ℕ) (w : What) (d : Completion) → IsLawfulProcess p → base + cap ≤ length p.memory → what_is_on mask w ≡ true → IsLawfulWhat w
    → completes p place id base cap w ≡ Some d → IsLawfulProcess d.process
what_lawfully p place id mask base cap (what.User code channel body links) d lawful fits on h e =
    let f : d ≡ completes_unless (first_failed (receive_refusals (plain_process p) cap body.items (map plain_link links.items))) p (receives p place id base code channel body.items links.items) = cc in
    rw f
    (unless_lawfully (first_failed (receive_refusals (plain_process p) cap body.items (map plain_link links.items))) p (receives p place id base code channel body.items links.items) lawful
    (λ ok.
    let n : length body.items ≤ cap = body_fits (plain_process p) cap body.items (map plain_link links.items) ok in
    receives_lawfully p place id base code channel body.items links.items lawful (omega arith) h.3))
what_lawfully p place id mask base cap w d lawful fits on h e = absurd (cc)

status_lawfully : (p : Process) (place : ℕ) (s : Status) (o : Option Message) (d : Completion) → IsLawfulProcess p → IsLawfulStatus (length p.memory) s → IsAwaited s o → IfSome o IsLawfulMessage
    → completion p place s o ≡ Some d → IsLawfulProcess d.process
status_lawfully p place (status.Waiting mask base cap) (Some m) d lawful fits h message e = what_lawfully p place m.id mask base cap m.what d lawful fits h message.what e
status_lawfully p place s o d lawful fits h message e = absurd h

-- the process is lawful afterwards
pub completes_lawfully : (p q : Process) (place : ℕ) (c : Completed) → IsLawfulProcess p → IsAwaited p.status (slice_get p.queue place)
    → completion p place p.status (slice_get p.queue place) ≡ Some (record { completed = c; process = q }) → IsLawfulProcess q
completes_lawfully p q place c lawful h e =
    status_lawfully p place p.status (slice_get p.queue place) (record { completed = c; process = q }) lawful lawful.status h (got_is p.queue place lawful.queue) e
