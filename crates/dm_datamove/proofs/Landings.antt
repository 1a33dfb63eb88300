-- The landing of a piece, without places and lawfully.
use Rattle.dm_datamove.proofs.Names.{◌≡◌, ◌∙◌, ℕ, ◌+◌, ◌-◌, ◌<◌, ◌≤◌, Bool, true, false, ◌==◌, length, take, drop, Some, None, refl, ap, arith, common_steps, nat_tests, Option, if◌then◌else◌, ◌&&◌, nat_le, length-set, bind, Addr, MsgId}
use Rattle.dm_datamove.proofs.Names.{Message, What, kind_of, PlainMessage, plain_message, IsLawfulWhat, IsPiece, is_answer, Process, Status, Direction, IsLawfulProcess, IsLawfulStatus, Reply, plain_process, plain_status, Moving, piece_of}
use Rattle.dm_datamove.proofs.Names.{written_at, lands, lands_what, Rest, Landed, IsRest, request_of, Landing, IsAnswerOf, IsAwaited, IsLawfulLanded, asks, behind, done, goes_on, landing, plain_landed, plainly_landed}
use Rattle.dm_message.specs.declared.What.TheVariants as what
use Rattle.dm_process.specs.declared.process.Status.TheVariants as status
use Rattle.dm_process.specs.declared.process.Direction.TheVariants as direction
use Rattle.dm_onekernel.specs.declared.label.Reply.TheVariants as reply
use Rattle.dm_onekernel.specs.Pieces as pieces
use Rattle.dm_datamove.specs.Landing as places
use Rattle.dm_datamove.proofs.Services.{length-written, with_memory}

-- what a landing comes to, without places
abbrev plain : Landing → Option pieces.Landed
plain l = plain_landed l.landed l.process

pub ends_plainly : (c : Reply) (p : Process) → plain (done c p) ≡ Some (pieces.done c (plain_process p))
ends_plainly c p = refl

asks_way : (here : ℕ) (p : Process) (dir : Direction) (owner : Addr) (base own left : ℕ)
    → plain (asks here p (record { dir = dir; owner = owner; base = base; own = own; left = left })) ≡ Some (pieces.next_request (pieces.requests p.pid (plain_process p) dir owner.pid base own left))
asks_way here p direction.FromArea owner base own left = refl
asks_way here p direction.IntoArea owner base own left = refl

asks_plainly : (here : ℕ) (p : Process) (r : Rest) → plain (asks here p r) ≡ Some (pieces.next_request (pieces.requests p.pid (plain_process p) r.dir r.owner.pid r.base r.own r.left))
asks_plainly here p r = asks_way here p r.dir r.owner r.base r.own r.left

if_plainly : (b : Bool) (l m : Landing) (x y : pieces.Landed) → plain l ≡ Some x → plain m ≡ Some y → plain (if b then l else m) ≡ Some (if b then x else y)
if_plainly true l m x y e f = e
if_plainly false l m x y e f = f

pub goes_on_plainly : (here : ℕ) (p : Process) (r : Rest)
    → plain (goes_on here p r) ≡ Some (pieces.move_goes_on p.pid (plain_process p) r.dir r.owner.pid r.base r.own r.left (piece_of r.left))
goes_on_plainly here p r =
    if_plainly (r.left - piece_of r.left == 0) _ _ _ _ (ends_plainly reply.Done p) (asks_plainly here p (behind r))

passes : (b c : Bool) (x y : Option pieces.Landed) → b ≡ true → c ≡ true → x ≡ y → x ≡ (if b then (if c then y else None) else None)
passes b c x y e f g = rw (e, f) g

passes_one : (b : Bool) (x y : Option pieces.Landed) → b ≡ true → x ≡ y → x ≡ (if b then y else None)
passes_one b x y e g = rw e g

-- an answer to the request that is under way, as the kernel without machines lands it
abbrev plainly : Process → Direction → Addr → ℕ → ℕ → ℕ → ℕ → Option PlainMessage → Option pieces.Landed
plainly p dir owner base own left pending m = bind m (λ m. lands p.pid (plain_process p) m (Moving dir owner.pid base own left pending))

moving_plainly : (here : ℕ) (p : Process) (dir : Direction) (owner : Addr) (base own left pending : ℕ) (id : MsgId) (to sender : Addr) (w : What) (l : Landing)
    → id.n ≡ pending → IsAnswerOf dir left w → own + left ≤ length p.memory
    → places.lands_what here p (record { dir = dir; owner = owner; base = base; own = own; left = left }) dir w ≡ Some l
    → plain l ≡ plainly p dir owner base own left pending (plain_message (record { id = id; to = to; sender = sender; what = w }))
moving_plainly here p direction.FromArea owner base own left pending id to sender (what.Block bytes) l n h fits e =
    let r : Rest = record { dir = direction.FromArea; owner = owner; base = base; own = own; left = left } in
    let q : Process = record p { memory = written_at p.memory own bytes.items } in
    let f : l ≡ goes_on here q r = cc in
    let t : (id.n == pending) ≡ true = grind (arith, nat_tests) in
    let u : ((length bytes.items == piece_of left) && nat_le (own + left) (length p.memory)) ≡ true = grind (arith, nat_tests) in
    passes (id.n == pending) ((length bytes.items == piece_of left) && nat_le (own + left) (length p.memory)) _ _ t u (ap plain f ∙ goes_on_plainly here q r)
moving_plainly here p direction.IntoArea owner base own left pending id to sender what.Written l n h fits e =
    let r : Rest = record { dir = direction.IntoArea; owner = owner; base = base; own = own; left = left } in
    let f : l ≡ goes_on here p r = cc in
    let t : (id.n == pending) ≡ true = grind (arith, nat_tests) in
    let u : nat_le (own + left) (length p.memory) ≡ true = grind (arith, nat_tests) in
    passes (id.n == pending) (nat_le (own + left) (length p.memory)) _ _ t u (ap plain f ∙ goes_on_plainly here p r)
moving_plainly here p direction.FromArea owner base own left pending id to sender what.Gone l n h fits e =
    let f : l ≡ done reply.Gone p = cc in
    let t : (id.n == pending) ≡ true = grind (arith, nat_tests) in
    passes_one (id.n == pending) _ _ t (ap plain f ∙ ends_plainly reply.Gone p)
moving_plainly here p direction.IntoArea owner base own left pending id to sender what.Gone l n h fits e =
    let f : l ≡ done reply.Gone p = cc in
    let t : (id.n == pending) ≡ true = grind (arith, nat_tests) in
    passes_one (id.n == pending) _ _ t (ap plain f ∙ ends_plainly reply.Gone p)
moving_plainly here p dir owner base own left pending id to sender w l n h fits e = absurd h

status_plainly : (here : ℕ) (p : Process) (m : Message) (s : Status) (l : Landing) → IsAwaited s m → IsLawfulStatus (length p.memory) s → landing here p m.what s ≡ Some l
    → plain l ≡ bind (plain_message m) (λ m. lands p.pid (plain_process p) m (plain_status s))
status_plainly here p m status.Ready l h lawful e = absurd h
status_plainly here p m (status.Waiting mask base cap) l h lawful e = absurd h
status_plainly here p m (status.Moving dir owner base own left pending) l h lawful e =
    moving_plainly here p dir owner base own left pending m.id m.to m.sender m.what l h.0 h.1 lawful.4 e

-- the landing is that of the kernel without machines
pub lands_plainly : (here : ℕ) (p q : Process) (m : Message) (l : Landed) → IsAwaited p.status m → IsLawfulProcess p
    → landing here p m.what p.status ≡ Some (record { landed = l; process = q }) → plain_landed l q ≡ plainly_landed p (plain_message m)
lands_plainly here p q m l h lawful e = status_plainly here p m p.status (record { landed = l; process = q }) h lawful.status e

-- both of what a landing gives are lawful
pub record IsLawfulLanding (l : Landing) : Type 0 where
  pub landed : IsLawfulLanded l.landed
  pub process : IsLawfulProcess l.process

ends_lawfully : (c : Reply) (p : Process) → IsLawfulProcess p → IsLawfulLanding (done c p)
ends_lawfully c p lawful =
    record {
      landed = tt;
      process = record {
        home = lawful.home;
        registers = rw length-set lawful.registers;
        size = lawful.size;
        links = lawful.links;
        slots = lawful.slots;
        status = tt;
        queue = lawful.queue;
      };
    }

piece_is : (left : ℕ) → 1 ≤ left → IsPiece (piece_of left)
piece_is left h = grind (arith, nat_tests)

piece_le : (left : ℕ) → piece_of left ≤ left
piece_le left = grind (arith, nat_tests)

asked_lawfully : (p : Process) (dir : Direction) (base own left : ℕ) → 1 ≤ left → base + left ≤ 65536 → own + left ≤ length p.memory → IsLawfulWhat (request_of p dir base own left)
asked_lawfully p direction.FromArea base own left some area fits = let k : piece_of left ≤ left = piece_le left in (piece_is left some, omega arith)
asked_lawfully p direction.IntoArea base own left some area fits =
    let k : piece_of left ≤ left = piece_le left in
    let n : length (take (piece_of left) (drop own p.memory)) ≡ piece_of left = grind (arith, common_steps) in
    rw n (piece_is left some, omega arith)

kind_is : (p : Process) (dir : Direction) (base own left : ℕ) → false ≡ is_answer (kind_of (request_of p dir base own left))
kind_is p direction.FromArea base own left = refl
kind_is p direction.IntoArea base own left = refl

pub asks_lawfully : (here : ℕ) (p : Process) (r : Rest) → here < 16 → IsLawfulProcess p → IsRest (length p.memory) r → IsLawfulLanding (asks here p r)
asks_lawfully here p r machine lawful rest =
    record {
      landed = record {
        from = lawful.home;
        answer = kind_is p r.dir r.base r.own r.left;
        to = rest.owner;
        sender = record { home = lawful.home; at = omega arith };
        what = asked_lawfully p r.dir r.base r.own r.left rest.some rest.area rest.own;
      };
      process = record {
        home = lawful.home;
        registers = lawful.registers;
        size = lawful.size;
        links = lawful.links;
        slots = lawful.slots;
        status = (rest.owner, rest.some, omega arith, rest.area, rest.own);
        queue = lawful.queue;
      };
    }

behind_is : (size : ℕ) (r : Rest) → IsRest size r → (r.left - piece_of r.left == 0) ≡ false → IsRest size (behind r)
behind_is size r rest more =
    let k : piece_of r.left ≤ r.left = piece_le r.left in
    record { owner = rest.owner; some = grind (arith, nat_tests); area = omega (arith, rest.area); own = omega (arith, rest.own) }

if_lawfully : (b : Bool) (l m : Landing) → IsLawfulLanding l → (b ≡ false → IsLawfulLanding m) → IsLawfulLanding (if b then l else m)
if_lawfully true l m f g = f
if_lawfully false l m f g = g refl

goes_on_lawfully : (here : ℕ) (p : Process) (r : Rest) → here < 16 → IsLawfulProcess p → IsRest (length p.memory) r → IsLawfulLanding (goes_on here p r)
goes_on_lawfully here p r machine lawful rest =
    if_lawfully (r.left - piece_of r.left == 0) (done reply.Done p) (asks here p (behind r)) (ends_lawfully reply.Done p lawful)
    (λ more. asks_lawfully here p (behind r) machine lawful (behind_is (length p.memory) r rest more))

piece_fits : (left own size len : ℕ) → own + left ≤ size → len ≡ piece_of left → own + len ≤ size
piece_fits left own size len h e = let k : piece_of left ≤ left = piece_le left in omega arith

what_lawfully : (here : ℕ) (p : Process) (r : Rest) (dir : Direction) (w : What) (l : Landing) → here < 16 → IsLawfulProcess p → IsRest (length p.memory) r → IsAnswerOf dir r.left w
    → places.lands_what here p r dir w ≡ Some l → IsLawfulLanding l
what_lawfully here p r direction.FromArea (what.Block bytes) l machine lawful rest h e =
    let fits : r.own + length bytes.items ≤ length p.memory = piece_fits r.left r.own (length p.memory) (length bytes.items) rest.own h in
    let n : length (written_at p.memory r.own bytes.items) ≡ length p.memory = length-written p.memory r.own bytes.items fits in
    let q : Process = record p { memory = written_at p.memory r.own bytes.items } in
    let f : l ≡ goes_on here q r = cc in
    rw f (goes_on_lawfully here q r machine (with_memory p (written_at p.memory r.own bytes.items) n lawful) (rw n rest))
what_lawfully here p r direction.IntoArea what.Written l machine lawful rest h e =
    let f : l ≡ goes_on here p r = cc in rw f (goes_on_lawfully here p r machine lawful rest)
what_lawfully here p r direction.FromArea what.Gone l machine lawful rest h e =
    let f : l ≡ done reply.Gone p = cc in rw f (ends_lawfully reply.Gone p lawful)
what_lawfully here p r direction.IntoArea what.Gone l machine lawful rest h e =
    let f : l ≡ done reply.Gone p = cc in rw f (ends_lawfully reply.Gone p lawful)
what_lawfully here p r dir w l machine lawful rest h e = absurd h

status_lawfully : (here : ℕ) (p : Process) (m : Message) (s : Status) (l : Landing) → here < 16 → IsLawfulProcess p → IsAwaited s m → IsLawfulStatus (length p.memory) s
    → landing here p m.what s ≡ Some l → IsLawfulLanding l
status_lawfully here p m status.Ready l machine lawful h s e = absurd h
status_lawfully here p m (status.Waiting mask base cap) l machine lawful h s e = absurd h
status_lawfully here p m (status.Moving dir owner base own left pending) l machine lawful h s e =
    what_lawfully here p (record { dir = dir; owner = owner; base = base; own = own; left = left }) dir m.what l machine lawful
    (record { owner = s.0; some = s.1; area = s.3; own = s.4 }) h.1 e

-- what a landing gives is lawful, and so is the mover after it
pub lands_lawfully : (here : ℕ) (p q : Process) (m : Message) (l : Landed) → here < 16 → IsLawfulProcess p → IsAwaited p.status m
    → landing here p m.what p.status ≡ Some (record { landed = l; process = q }) → IsLawfulLanding (record { landed = l; process = q })
lands_lawfully here p q m l machine lawful h e = status_lawfully here p m p.status (record { landed = l; process = q }) machine lawful h lawful.status e
