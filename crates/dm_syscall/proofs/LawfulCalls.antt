-- What a call leaves and gives is lawful.
use Rattle.dm_syscall.proofs.Names.{◌≡◌, ◌∙◌, ℕ, zero, suc, ◌+◌, ◌<◌, ◌≤◌, Bool, true, false, ◌==◌, List, [], ◌∷◌, length, take, drop, Some, None, refl, arith, if◌then◌else◌, All, cons_option, set, length-set, All-cons, All-nil, All-set}
use Rattle.dm_syscall.proofs.Names.{common_steps, nat_tests, Option, Link, IsLawfulEnclosed, plain_link, first_empty, link_at, plain_slot, Process, Direction, Status, direction_numbered, IsLawfulProcess, IsLawfulStatus, SlotIsLawful, Regs}
use Rattle.dm_syscall.proofs.Names.{Reply, reply_code, plain_process, PlainProcess, reg, setting, first_failed, CallNumber, Exit, Out, Make, Copy, Drop, Send, Receive, Move, Unknown, call_number, holds_reply, is_outside, is_reply}
use Rattle.dm_syscall.proofs.Names.{make_refusals, move_refusals, send_refusals, Rest, IsRest, IsLawfulLanding, asks_lawfully, asks, emptied, links_in, Done, after_send, begins, calls, copies, does_call, drops, listed, makes, message_over}
use Rattle.dm_syscall.proofs.Names.{moves, moves_bytes, moves_over, own_link, puts_link, replied, sends, unless_refused, waits, whole, IsLawfulCalled}
use Rattle.dm_process.specs.declared.process.Status.TheVariants as status
use Rattle.dm_onekernel.specs.declared.label.Reply.TheVariants as reply
use Rattle.dm_syscall.specs.declared.Called.TheVariants as called

pub record IsLawfulDone (d : Done) : Type 0 where
  pub called : IsLawfulCalled d.called
  pub process : IsLawfulProcess d.process

-- a lawful process with other registers, links, status and count of sends
pub changed : (p : Process) (r : Regs) (t : List (Option Link)) (s : Status) (sent : ℕ) → IsLawfulProcess p → length r.r ≡ length p.regs.r → All SlotIsLawful t → length t ≡ length p.table
    → IsLawfulStatus (length p.memory) s → IsLawfulProcess (record p { regs = r; table = t; status = s; sent = sent })
changed p r t s sent lawful n links m status =
    record {
      home = lawful.home;
      registers = n ∙ lawful.registers;
      size = lawful.size;
      links = links;
      slots = rw m lawful.slots;
      status = status;
      queue = lawful.queue;
    }

replied_lawfully : (c : Reply) (p : Process) → IsLawfulProcess p → IsLawfulDone (replied c p)
replied_lawfully c p lawful =
    record { called = tt; process = changed p (setting p.regs 0 (reply_code c)) p.table p.status p.sent lawful (length-set p.regs.r 0 (reply_code c)) lawful.links refl lawful.status }

unless_lawfully : (o : Option Reply) (p : Process) (d : Done) → IsLawfulProcess p → (o ≡ None → IsLawfulDone d) → IsLawfulDone (unless_refused o p d)
unless_lawfully None p d lawful h = h refl
unless_lawfully (Some c) p d lawful h = replied_lawfully c p lawful

if_lawfully : (b : Bool) (d e : Done) → IsLawfulDone d → (b ≡ false → IsLawfulDone e) → IsLawfulDone (if b then d else e)
if_lawfully true d e f g = f
if_lawfully false d e f g = g refl

-- the largest memory
size_most : (p : Process) → IsLawfulProcess p → length p.memory ≤ 65536
size_most p lawful = omega (arith, lawful.size.1, lawful.size.3)

-- what a slot holds is lawful
slot_is : (table : List (Option Link)) (n : ℕ) → All SlotIsLawful table → SlotIsLawful (link_at table n)
slot_is [] n all = tt
slot_is (s ∷ table) zero all = all 0 None (omega arith)
slot_is (s ∷ table) (suc n) all = slot_is table n (λ k d h. all (suc k) d (omega arith))

puts_lawfully : (p : Process) (l : Link) (o : Option ℕ) → IsLawfulProcess p → IsLawfulEnclosed l → IsLawfulDone (puts_link p l o)
puts_lawfully p l None lawful link = replied_lawfully reply.TableFull p lawful
puts_lawfully p l (Some slot) lawful link =
    record {
      called = tt;
      process =
          changed p (setting (setting p.regs 0 (reply_code reply.Done)) 1 slot) (set p.table slot (Some l)) p.status p.sent lawful
          (length-set (set p.regs.r 0 (reply_code reply.Done)) 1 slot ∙ length-set p.regs.r 0 (reply_code reply.Done))
          (All-set SlotIsLawful p.table slot (Some l) link lawful.links)
          (length-set p.table slot (Some l))
          lawful.status;
    }

-- what MAKE's refusals leave
record IsMakeable (p : PlainProcess) : Type 0 where
  pub channel : reg p.regs 2 ≤ 31
  pub area : reg p.regs 4 + reg p.regs 5 ≤ length p.memory

make_passed : (p : PlainProcess) → first_failed (make_refusals p) ≡ None → IsMakeable p
make_passed p e = record { channel = grind (arith, nat_tests); area = grind (arith, nat_tests) }

makes_lawfully : (here : ℕ) (p : Process) → here < 16 → IsLawfulProcess p → IsLawfulDone (makes here p)
makes_lawfully here p machine lawful =
    unless_lawfully (first_failed (make_refusals (plain_process p))) p (puts_link p (own_link here p) (first_empty p.table)) lawful
    (λ e.
    let m : IsMakeable (plain_process p) = make_passed (plain_process p) e in
    let s : length p.memory ≤ 65536 = size_most p lawful in
    puts_lawfully p (own_link here p) (first_empty p.table) lawful
    (record { link = record { addr = record { home = lawful.home; at = omega arith }; channel = m.channel; area = omega (arith, m.area) }; not_to_kernel = refl }))

copies_lawfully : (p : Process) (o : Option Link) → IsLawfulProcess p → SlotIsLawful o → IsLawfulDone (copies p o)
copies_lawfully p None lawful link = replied_lawfully reply.NoLink p lawful
copies_lawfully p (Some l) lawful link =
    if_lawfully (is_reply l.kind) (replied reply.NotCopyable p) (puts_link p l (first_empty p.table)) (replied_lawfully reply.NotCopyable p lawful)
    (λ e. puts_lawfully p l (first_empty p.table) lawful link)

drops_lawfully : (p : Process) (o : Option Link) → IsLawfulProcess p → IsLawfulDone (drops p o)
drops_lawfully p None lawful = replied_lawfully reply.NoLink p lawful
drops_lawfully p (Some l) lawful =
    record {
      called = tt;
      process =
          changed p (setting p.regs 0 (reply_code reply.Done)) (set p.table (reg p.regs 1) None) p.status p.sent lawful
          (length-set p.regs.r 0 (reply_code reply.Done))
          (All-set SlotIsLawful p.table (reg p.regs 1) None tt lawful.links)
          (length-set p.table (reg p.regs 1) None)
          lawful.status;
    }

-- the enclosed links are lawful, and not more than the slots
cons_lawfully : (o : Option Link) (ls : List Link) → SlotIsLawful o → All IsLawfulEnclosed ls → All IsLawfulEnclosed (cons_option o ls)
cons_lawfully None ls h all = all
cons_lawfully (Some l) ls h all = All-cons IsLawfulEnclosed l ls h all

enclosed_lawfully : (table : List (Option Link)) (slots : List ℕ) → All SlotIsLawful table → All IsLawfulEnclosed (links_in table slots)
enclosed_lawfully table [] all = All-nil IsLawfulEnclosed
enclosed_lawfully table (s ∷ ss) all = cons_lawfully (link_at table s) (links_in table ss) (slot_is table s all) (enclosed_lawfully table ss all)

cons_most : (o : Option Link) (ls : List Link) → length (cons_option o ls) ≤ suc (length ls)
cons_most None ls = omega arith
cons_most (Some l) ls = omega arith

enclosed_most : (table : List (Option Link)) (slots : List ℕ) → length (links_in table slots) ≤ length slots
enclosed_most table [] = omega arith
enclosed_most table (s ∷ ss) = omega (arith, cons_most (link_at table s) (links_in table ss), enclosed_most table ss)

-- the table is lawful after a send
pub record IsTableOf (old new : List (Option Link)) : Type 0 where
  pub links : All SlotIsLawful new
  pub length : length new ≡ length old

if_emptied : (b : Bool) (table : List (Option Link)) (s : ℕ) → All SlotIsLawful table → IsTableOf table (if b then set table s None else table)
if_emptied true table s all = record { links = All-set SlotIsLawful table s None tt all; length = length-set table s None }
if_emptied false table s all = record { links = all; length = refl }

emptied_lawfully : (table : List (Option Link)) (slots : List ℕ) → All SlotIsLawful table → IsTableOf table (emptied table slots)
emptied_lawfully table [] all = record { links = all; length = refl }
emptied_lawfully table (s ∷ ss) all =
    let t : List (Option Link) = if holds_reply (plain_slot (link_at table s)) then set table s None else table in
    let one : IsTableOf table t = if_emptied (holds_reply (plain_slot (link_at table s))) table s all in
    let more : IsTableOf t (emptied t ss) = emptied_lawfully t ss one.links in
    record { links = more.links; length = more.length ∙ one.length }

-- what SEND's refusals leave
record IsSendable (p : PlainProcess) : Type 0 where
  pub body : reg p.regs 3 ≤ 256
  pub list : reg p.regs 4 ≤ 4

send_passed : (p : PlainProcess) → first_failed (send_refusals p) ≡ None → IsSendable p
send_passed p e = record { body = grind (arith, nat_tests); list = grind (arith, nat_tests) }

take_most : (n : ℕ) (xs : List ℕ) → length (take n xs) ≤ n
take_most n xs = grind (arith, common_steps)

sends_lawfully : (here : ℕ) (p : Process) (o : Option Link) → here < 16 → IsLawfulProcess p → SlotIsLawful o → IsLawfulDone (sends here p o)
sends_lawfully here p None machine lawful link = replied_lawfully reply.NoLink p lawful
sends_lawfully here p (Some l) machine lawful link =
    unless_lawfully (first_failed (send_refusals (plain_process p))) p (record { called = called.Sent (message_over here p l); process = after_send p }) lawful
    (λ e.
    let m : IsSendable (plain_process p) = send_passed (plain_process p) e in
    let t : IsTableOf p.table (emptied p.table (reg p.regs 1 ∷ listed p)) = emptied_lawfully p.table (reg p.regs 1 ∷ listed p) lawful.links in
    record {
      called = record {
        from = lawful.home;
        answer = refl;
        to = link.link.addr;
        sender = record { home = lawful.home; at = omega arith };
        what = (
          link.link.channel,
          omega (arith, m.body, take_most (reg p.regs 3) (drop (reg p.regs 2) p.memory)),
          omega (arith, m.list, enclosed_most p.table (listed p), take_most (reg p.regs 4) (drop (reg p.regs 5) p.memory)),
          enclosed_lawfully p.table (listed p) lawful.links,
        );
      };
      process =
          changed p (setting p.regs 0 (reply_code reply.Done)) (emptied p.table (reg p.regs 1 ∷ listed p)) p.status (p.sent + 1) lawful
          (length-set p.regs.r 0 (reply_code reply.Done))
          t.links
          t.length
          lawful.status;
    })

inside : (p : PlainProcess) (base len : ℕ) → is_outside p base len ≡ false → base + len ≤ length p.memory
inside p base len e = grind (arith, nat_tests)

waits_lawfully : (p : Process) → IsLawfulProcess p → IsLawfulDone (waits p)
waits_lawfully p lawful =
    if_lawfully (is_outside (plain_process p) (reg p.regs 2) (reg p.regs 3)) (replied reply.BadRange p)
    (record { called = called.Waits; process = record p { status = status.Waiting (reg p.regs 1) (reg p.regs 2) (reg p.regs 3) } })
    (replied_lawfully reply.BadRange p lawful)
    (λ e.
    record {
      called = tt;
      process =
          changed p p.regs p.table (status.Waiting (reg p.regs 1) (reg p.regs 2) (reg p.regs 3)) p.sent lawful refl lawful.links refl
          (inside (plain_process p) (reg p.regs 2) (reg p.regs 3) e);
    })

-- what MOVE's refusals leave
record IsMovable (p : PlainProcess) (len : ℕ) : Type 0 where
  pub area : reg p.regs 3 + reg p.regs 5 ≤ len
  pub own : reg p.regs 4 + reg p.regs 5 ≤ length p.memory

move_passed : (p : PlainProcess) (l : Link) (dir : Direction) → first_failed (move_refusals p (plain_link l) dir) ≡ None → IsMovable p l.area.len
move_passed p l dir e = record { area = grind (arith, nat_tests); own = grind (arith, nat_tests) }

begins_lawfully : (here : ℕ) (p : Process) (r : Rest) → here < 16 → IsLawfulProcess p → IsRest (length p.memory) r → IsLawfulDone (begins here p r)
begins_lawfully here p r machine lawful rest =
    let l : IsLawfulLanding (asks here p r) = asks_lawfully here p r machine lawful rest in record { called = l.landed; process = l.process }

some_left : (n : ℕ) → (n == 0) ≡ false → 1 ≤ n
some_left n e = grind (arith, nat_tests)

moves_lawfully : (here : ℕ) (p : Process) (l : Link) (dir : Direction) → here < 16 → IsLawfulProcess p → IsLawfulEnclosed l → IsMovable (plain_process p) l.area.len → IsLawfulDone (moves_bytes here p l dir)
moves_lawfully here p l dir machine lawful link m =
    if_lawfully (reg p.regs 5 == 0) (replied reply.Done p) (begins here p (whole p l dir)) (replied_lawfully reply.Done p lawful)
    (λ e.
    begins_lawfully here p (whole p l dir) machine lawful
    (record { owner = link.link.addr; some = some_left (reg p.regs 5) e; area = omega (arith, link.link.area, m.area); own = m.own }))

over_lawfully : (here : ℕ) (p : Process) (l : Link) (o : Option Direction) → here < 16 → IsLawfulProcess p → IsLawfulEnclosed l → IsLawfulDone (moves_over here p l o)
over_lawfully here p l None machine lawful link = replied_lawfully reply.BadKind p lawful
over_lawfully here p l (Some dir) machine lawful link =
    unless_lawfully (first_failed (move_refusals (plain_process p) (plain_link l) dir)) p (moves_bytes here p l dir) lawful
    (λ e. moves_lawfully here p l dir machine lawful link (move_passed (plain_process p) l dir e))

slot_lawfully : (here : ℕ) (p : Process) (o : Option Link) → here < 16 → IsLawfulProcess p → SlotIsLawful o → IsLawfulDone (moves here p o)
slot_lawfully here p None machine lawful link = replied_lawfully reply.NoLink p lawful
slot_lawfully here p (Some l) machine lawful link = over_lawfully here p l (direction_numbered (reg p.regs 2)) machine lawful link

does_lawfully : (here : ℕ) (p : Process) (k : CallNumber) → here < 16 → IsLawfulProcess p → IsLawfulDone (does_call here p k)
does_lawfully here p Exit machine lawful = record { called = tt; process = lawful }
does_lawfully here p Out machine lawful = let d : IsLawfulDone (replied reply.Done p) = replied_lawfully reply.Done p lawful in record { called = tt; process = d.process }
does_lawfully here p Make machine lawful = makes_lawfully here p machine lawful
does_lawfully here p Copy machine lawful = copies_lawfully p (link_at p.table (reg p.regs 1)) lawful (slot_is p.table (reg p.regs 1) lawful.links)
does_lawfully here p Drop machine lawful = drops_lawfully p (link_at p.table (reg p.regs 1)) lawful
does_lawfully here p Send machine lawful = sends_lawfully here p (link_at p.table (reg p.regs 1)) machine lawful (slot_is p.table (reg p.regs 1) lawful.links)
does_lawfully here p Receive machine lawful = waits_lawfully p lawful
does_lawfully here p Move machine lawful = slot_lawfully here p (link_at p.table (reg p.regs 1)) machine lawful (slot_is p.table (reg p.regs 1) lawful.links)
does_lawfully here p Unknown machine lawful = record { called = tt; process = lawful }

pub call_lawfully : (here : ℕ) (p : Process) (n : ℕ) → here < 16 → IsLawfulProcess p → IsLawfulDone (calls here p n)
call_lawfully here p n machine lawful = does_lawfully here p (call_number n) machine lawful

-- a call sends at most one message
unless_counts : (o : Option Reply) (p : Process) (d : Done) → d.process.sent ≤ p.sent + 1 → (unless_refused o p d).process.sent ≤ p.sent + 1
unless_counts None p d h = h
unless_counts (Some c) p d h = omega arith

if_counts : (b : Bool) (p : Process) (d e : Done) → d.process.sent ≤ p.sent + 1 → e.process.sent ≤ p.sent + 1 → (if b then d else e).process.sent ≤ p.sent + 1
if_counts true p d e f g = f
if_counts false p d e f g = g

puts_counts : (p : Process) (l : Link) (o : Option ℕ) → (puts_link p l o).process.sent ≤ p.sent + 1
puts_counts p l None = omega arith
puts_counts p l (Some slot) = omega arith

copies_counts : (p : Process) (o : Option Link) → (copies p o).process.sent ≤ p.sent + 1
copies_counts p None = omega arith
copies_counts p (Some l) = if_counts (is_reply l.kind) p (replied reply.NotCopyable p) (puts_link p l (first_empty p.table)) (omega arith) (puts_counts p l (first_empty p.table))

drops_counts : (p : Process) (o : Option Link) → (drops p o).process.sent ≤ p.sent + 1
drops_counts p None = omega arith
drops_counts p (Some l) = omega arith

sends_counts : (here : ℕ) (p : Process) (o : Option Link) → (sends here p o).process.sent ≤ p.sent + 1
sends_counts here p None = omega arith
sends_counts here p (Some l) =
    unless_counts (first_failed (send_refusals (plain_process p))) p (record { called = called.Sent (message_over here p l); process = after_send p }) (omega arith)

waits_counts : (p : Process) → (waits p).process.sent ≤ p.sent + 1
waits_counts p =
    if_counts (is_outside (plain_process p) (reg p.regs 2) (reg p.regs 3)) p (replied reply.BadRange p)
    (record { called = called.Waits; process = record p { status = status.Waiting (reg p.regs 1) (reg p.regs 2) (reg p.regs 3) } })
    (omega arith)
    (omega arith)

over_counts : (here : ℕ) (p : Process) (l : Link) (o : Option Direction) → (moves_over here p l o).process.sent ≤ p.sent + 1
over_counts here p l None = omega arith
over_counts here p l (Some dir) =
    unless_counts (first_failed (move_refusals (plain_process p) (plain_link l) dir)) p (moves_bytes here p l dir)
    (if_counts (reg p.regs 5 == 0) p (replied reply.Done p) (begins here p (whole p l dir)) (omega arith) (omega arith))

moves_counts : (here : ℕ) (p : Process) (o : Option Link) → (moves here p o).process.sent ≤ p.sent + 1
moves_counts here p None = omega arith
moves_counts here p (Some l) = over_counts here p l (direction_numbered (reg p.regs 2))

does_counts : (here : ℕ) (p : Process) (k : CallNumber) → (does_call here p k).process.sent ≤ p.sent + 1
does_counts here p Exit = omega arith
does_counts here p Out = omega arith
does_counts here p Make = unless_counts (first_failed (make_refusals (plain_process p))) p (puts_link p (own_link here p) (first_empty p.table)) (puts_counts p (own_link here p) (first_empty p.table))
does_counts here p Copy = copies_counts p (link_at p.table (reg p.regs 1))
does_counts here p Drop = drops_counts p (link_at p.table (reg p.regs 1))
does_counts here p Send = sends_counts here p (link_at p.table (reg p.regs 1))
does_counts here p Receive = waits_counts p
does_counts here p Move = moves_counts here p (link_at p.table (reg p.regs 1))
does_counts here p Unknown = omega arith

pub call_counts : (here : ℕ) (p : Process) (n : ℕ) → (calls here p n).process.sent ≤ p.sent + 1
call_counts here p n = does_counts here p (call_number n)
