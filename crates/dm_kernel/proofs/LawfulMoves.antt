-- What the rows of a migration give is lawful.
use Rattle.dm_kernel.proofs.Names.{◌≡◌, ◌∙◌, ℕ, ◌+◌, ◌-◌, ◌*◌, ◌/◌, min, ◌<◌, ◌≤◌, Bool, true, false, ◌==◌, List, [], ◌∷◌, ◌++◌, length, map, drop, Some, None, refl, sym, subst, ap, arith, All, IfSome, IfOk, Result, Ok, Err, length-drop}
use Rattle.dm_kernel.proofs.Names.{length-take, All-append, All-cons, All-head, All-nil, All-push, All-tail, Option, Addr, Pid, IsMachine, IsLawfulAddr, is_told_back, kernel_at, update_of, applied_lawful, Asker, Message, What, kind_of}
use Rattle.dm_kernel.proofs.Names.{IsLawfulMessage, IsLawfulWhat, IsServer, is_answer, Process, IsLawfulProcess, Taken, free_blocks, free_slots, Here, Frozen, Incoming, Forward, Wanted, Chunk, Block, Nothing, Arrival, expected}
use Rattle.dm_kernel.proofs.Names.{pull, with_block, with_chunk, with_held_too, with_piece, Departure, all_sent_on, ask_of, frozen, sent_on, with_held, HasChunk, chunk_bytes, chunk_of, lawful_all, Boot, manager, slots_of, MoveError}
use Rattle.dm_kernel.proofs.Names.{asks_to_move, moves_lawful, Part, Routes, asks_manager, asks_move, told_to_move, accepts, answers_ask, holds_arriving, restarts, restarts_as, takes_piece, took_piece, freezes, gives_piece}
use Rattle.dm_kernel.proofs.Names.{holds_leaving, leaves, migrates, stays, board_follows, forwards, forwards_and, manager_follows, process_follows, AreLawful, IsLawfulArrival, IsLawfulDeparture, IsLawfulPart, IsLawfulState}
use Rattle.dm_kernel.proofs.Names.{MayRestart, KernelState, own, own_id, Outcome, asker_of, moved_answer, asked_to_move, freezing, tells_asker, with_frozen, IsLawfulAsker, with_sent, state_of, incoming_of, all_sent_back, comes_from}
use Rattle.dm_kernel.proofs.Names.{is_whole, calling_off, calls_arriving_off, calls_off, hears_piece, is_not_called, says_stale, turns_back, without_arriving, IsLawfulKnown, IsLawfulTurned, KernelKnown, zero, suc, range_with_len}
use Rattle.dm_kernel.proofs.Names.{All-filter, buries, preds_of, ends_with, after_end, hears_bury, without_process, forgets, preceded, drops, Why, machines_with}
use Rattle.dm_kernel.proofs.Names.{Board, IsLawfulBoard, IsLawfulManager, IsLawfulResident, IsNamed, Managing, Resident, has_room_for, inl, inr, manager_in, manager_of, moves_of, name_of, piece_lines, queue_lawful, queue_of, tells_of}
use Rattle.dm_message.specs.declared.What.TheVariants as what
use Rattle.dm_message.specs.declared.Outcome.TheVariants as ends
use Rattle.dm_procman.specs.declared.moving.MoveError.TheVariants as no
use Rattle.dm_resident.specs.declared.Resident.TheVariants as resident
use Rattle.dm_resident.specs.Residents as residents
use Rattle.dm_procman.proofs.Lawful as manage
use Rattle.dm_procman.specs.Managing.{retargeted_manager}
use Rattle.dm_switchboard.specs.Board.{retargeted_named}
use Rattle.dm_switchboard.proofs.Lawful as board
use Rattle.dm_kernel.proofs.LawfulRows.{Lawfully, all_dropped, all_said, forgotten, if_lawfully, knows, none_said, routed, said, with_less, with_more, with_process, without}
use Rattle.dm_migrate.proofs.Messages.{lawful_on}
use Rattle.dm_migrate.proofs.Pieces.{length-chunk}

-- messages of the kernel's own, and messages that go on
pub kernel_address : (here : ℕ) → here < 16 → IsLawfulAddr (kernel_at here)
kernel_address here machine = record { home = omega arith; at = omega arith }

pub own_lawfully : (s : KernelState) (to : Addr) (w : What) → s.here < 16 → IsLawfulAddr to → is_answer (kind_of w) ≡ false → IsLawfulWhat w → IsLawfulMessage (own s to w)
own_lawfully s to w machine lawful no_answer what =
    record { from = omega arith; answer = sym no_answer; to = lawful; sender = kernel_address s.here machine; what = what }

update_lawfully : (s : KernelState) (m : Message) (at moves : ℕ) → s.here < 16 → IsMachine at → IsLawfulMessage m → IsLawfulMessage (update_of m (own_id s) s.here at moves)
update_lawfully s m at moves here machine h =
    record { from = omega arith; answer = refl; to = h.sender; sender = kernel_address s.here here; what = record { home = h.to.home; at = machine } }

routed_and : (m : Message) (parts : List Part) → IsLawfulMessage m → AreLawful parts → AreLawful (Routes m ∷ parts)
routed_and m parts h rest = record { each = All-cons IsLawfulPart (Routes m) parts h rest.each }

all_routed : (ms : List Message) (parts : List Part) → All IsLawfulMessage ms → AreLawful parts → AreLawful (map Routes ms ++ parts)
all_routed [] parts h rest = rest
all_routed (m ∷ ms) parts h rest =
    routed_and m (map Routes ms ++ parts) (All-head IsLawfulMessage m ms h) (all_routed ms parts (All-tail IsLawfulMessage m ms h) rest)

-- a process has ended: its predecessors are told
all_machines : (a n : ℕ) → a + n ≤ 16 → All IsMachine (range_with_len a n)
all_machines a zero h = All-nil IsMachine
all_machines a (suc n) h = All-cons IsMachine a (range_with_len (a + 1) n) (omega arith) (all_machines (a + 1) n (omega arith))

are_machines : (s : KernelState) (p : Pid) → All IsMachine (preds_of s p)
unfolding machines_with
are_machines s p = All-filter (s.preds p) IsMachine (range_with_len 0 16) (all_machines 0 16 (omega arith))

all_told : (s : KernelState) (p : Pid) (ms : List ℕ) → s.here < 16 → IsMachine p.home → All IsMachine ms → AreLawful (buries s p ms)
all_told s p [] here home h = none_said
all_told s p (m ∷ ms) here home h =
    let to : IsMachine m = All-head IsMachine m ms h in
    routed_and (own s (kernel_at m) (what.Bury p)) (buries (with_sent s) p ms) (own_lawfully s (kernel_at m) (what.Bury p) here (kernel_address m (omega arith)) refl home)
    (all_told (with_sent s) p ms here home (All-tail IsMachine m ms h))

pub over_lawfully : (s : KernelState) (p : Pid) (x : Process) → s.here < 16 → IsMachine p.home → AreLawful (ends_with s p x)
over_lawfully s p x here home =
    record { each = All-append IsLawfulPart (drops x.queue) (buries s p (preds_of s p)) (all_dropped x.queue).each (all_told s p (preds_of s p) here home (are_machines s p)).each }

pub after_lawfully : (s : KernelState) (p : Pid) (x : Process) (y : Why) → IsLawfulState s → IsLawfulState (after_end s p x y)
after_lawfully s p x y h =
    let gone : IsLawfulState (without_process s p x y) = without s p x y h in record { records = gone.records; room = gone.room; inbox = gone.inbox }

pub buries_lawfully : (s : KernelState) (m : Message) (p : Pid) → s.here < 16 → IsMachine p.home → IsLawfulState s → Lawfully (hears_bury s m p)
buries_lawfully s m p here home h =
    let gone : IsLawfulState (forgets s p) = forgotten s p h in
    record {
      state = record { records = gone.records; room = gone.room; inbox = gone.inbox };
      parts = said (all_told s p (preds_of s p) here home (are_machines s p));
    }

-- a machine more may send on to this one
pub preceded_lawful : (s : KernelState) (p : Pid) (machine : ℕ) → IsLawfulState s → IsLawfulState (preceded s p machine)
preceded_lawful s p machine h = record { records = h.records; room = h.room; inbox = h.inbox }

-- a message goes on
forwards_lawfully_and : (s : KernelState) (m : Message) (at moves : ℕ) (told : Bool) → s.here < 16 → IsMachine at → IsLawfulState s → IsLawfulMessage m → Lawfully (forwards_and s m at moves told)
forwards_lawfully_and s m at moves true here machine h message =
    record {
      state = record { records = h.records; room = h.room; inbox = h.inbox };
      parts = said (routed_and _ _ (lawful_on at moves m machine message) (routed _ (update_lawfully s m at moves here machine message)));
    }
forwards_lawfully_and s m at moves false here machine h message = record { state = h; parts = said (routed _ (lawful_on at moves m machine message)) }

pub forwards_lawfully : (s : KernelState) (m : Message) (at moves : ℕ) → s.here < 16 → IsMachine at → IsLawfulState s → IsLawfulMessage m → Lawfully (forwards s m at moves)
forwards_lawfully s m at moves here machine h message = forwards_lawfully_and s m at moves (is_told_back (kind_of m.what)) here machine h message

-- links follow
pub process_follows_lawfully : (s : KernelState) (m : Message) (x : Process) (about : Addr) → IsLawfulState s → IsLawfulProcess x → IsLawfulAddr about → Lawfully (process_follows s m x about)
process_follows_lawfully s m x about h lawful addr =
    record { state = with_process s m.to.pid _ h (applied_lawful about.pid about.at about.moves x addr.at lawful); parts = said none_said }

pub board_follows_lawfully : (s : KernelState) (m : Message) (v : Board) (about : Addr) → IsLawfulState s → IsLawfulBoard v → IsLawfulAddr about → Lawfully (board_follows s m v about)
board_follows_lawfully s m v about h lawful addr =
    record {
      state = record { records = knows s m.to.pid (Here (resident.Board (record v { names = map (retargeted_named about.pid about.at about.moves) v.names }))) h (board.retargeted_lawful about.pid about.at about.moves v.names addr.at lawful); room = h.room; inbox = h.inbox };
      parts = said none_said;
    }

pub manager_follows_lawfully : (s : KernelState) (m : Message) (v : Managing) (about : Addr) → IsLawfulState s → IsLawfulManager v → IsLawfulAddr about → Lawfully (manager_follows s m v about)
manager_follows_lawfully s m v about h lawful addr =
    record {
      state = record { records = knows s m.to.pid (Here (resident.Manager (retargeted_manager about.pid about.at about.moves v))) h (manage.retargeted_lawful about.pid about.at about.moves v addr.at lawful); room = h.room; inbox = h.inbox };
      parts = said none_said;
    }

-- a process leaves
blocks_are : (memory : List ℕ) (blocks : ℕ) → length memory ≡ 256 * blocks → length memory / 256 ≡ blocks
blocks_are memory blocks h = omega arith

ask_lawfully : (r : Resident) (asker : Option Asker) → IsLawfulResident r → IsNamed r → IsLawfulAsker asker → IsLawfulWhat (ask_of r asker)
ask_lawfully (resident.Process x) asker h none lawful =
    let blocks : length x.memory / 256 ≡ h.size.0 = blocks_are x.memory h.size.0 h.size.1 in
    let least : 1 ≤ h.size.0 = h.size.2 in
    let most : h.size.0 ≤ 256 = h.size.3 in
    (h.home, ((omega arith), ((λ (zero : length x.memory / 256 ≡ 0). absurd (omega arith)), (λ (server : IsServer x.pid). absurd (none server)))), lawful)
ask_lawfully (resident.Board v) asker h none lawful = (omega arith, ((omega arith), ((λ zero. (refl, inl refl)), (λ server. refl))), lawful)
ask_lawfully (resident.Manager v) asker h none lawful = (omega arith, ((omega arith), ((λ zero. (refl, inr refl)), (λ server. refl))), lawful)

frozen_lawfully : (s : KernelState) (p : Pid) (x : Resident) (machine : ℕ) (asker : Option Asker) → IsLawfulState s → IsLawfulResident x → IsMachine machine → IsLawfulAsker asker
    → IsLawfulState (with_sent (with_frozen s p x machine asker))
frozen_lawfully s p x machine asker h lawful to asks =
    record {
      records = knows s p (Frozen (frozen x machine asker)) h (record { resident = lawful; to = to; asker = asks; held = All-nil IsLawfulMessage });
      room = h.room;
      inbox = h.inbox;
    }

freezing_lawfully : (s : KernelState) (p : Pid) (x : Resident) (machine : ℕ) (asker : Option Asker) → s.here < 16 → IsLawfulResident x → IsNamed x → IsMachine machine → IsLawfulAsker asker
    → AreLawful (freezing s p x machine asker)
freezing_lawfully s p x machine asker here lawful none to asks =
    said (said (routed _ (own_lawfully s (kernel_at machine) (ask_of x asker) here (kernel_address machine (omega arith)) refl (ask_lawfully x asker lawful none asks))))

pub migrates_lawfully : (s : KernelState) (m : Message) (x : Resident) (machine : ℕ) → s.here < 16 → IsLawfulState s → IsLawfulResident x → IsNamed x → IsMachine machine
    → Lawfully (migrates s m x machine)
migrates_lawfully s m x machine here h lawful none to =
    if_lawfully (machine == s.here) _ (freezes s m.to.pid x machine) (λ same. record { state = h; parts = said none_said })
    (λ other. record { state = frozen_lawfully s m.to.pid x machine None h lawful to tt; parts = freezing_lawfully s m.to.pid x machine None here lawful none to tt })

-- who asked for a move is told how it ended
tells_lawfully : (here : ℕ) (x : Process) (outcome : Outcome) (asker : Option Asker) → here < 16 → IsLawfulProcess x → IsLawfulAsker asker → AreLawful (tells_asker here x outcome asker)
tells_lawfully here x outcome None machine lawful asks = none_said
tells_lawfully here x outcome (Some k) machine lawful asks =
    said (routed (moved_answer here x outcome k) (record { from = omega arith; answer = refl; to = asks; sender = record { home = lawful.home; at = omega arith }; what = tt }))

tells_of_lawfully : (here : ℕ) (r : Resident) (outcome : Outcome) (asker : Option Asker) → here < 16 → IsLawfulResident r → IsLawfulAsker asker → AreLawful (tells_of here r outcome asker)
tells_of_lawfully here (resident.Process x) outcome asker machine lawful asks = tells_lawfully here x outcome asker machine lawful asks
tells_of_lawfully here (resident.Board v) outcome asker machine lawful asks = none_said
tells_of_lawfully here (resident.Manager v) outcome asker machine lawful asks = none_said

pub asked_lawfully : (s : KernelState) (m : Message) (x : Process) (machine : ℕ) → s.here < 16 → IsLawfulState s → IsLawfulMessage m → IsLawfulProcess x → ¬ IsServer x.pid → IsMachine machine
    → Lawfully (asked_to_move s m x machine)
asked_lawfully s m x machine here h message lawful none to =
    if_lawfully (machine == s.here) _ _
    (λ same. record { state = h; parts = said (tells_lawfully s.here x ends.Done (Some (asker_of m)) here lawful message.sender) })
    (λ other.
    record {
      state = frozen_lawfully s m.to.pid (resident.Process x) machine (Some (asker_of m)) h lawful to message.sender;
      parts = said (freezing_lawfully s m.to.pid (resident.Process x) machine (Some (asker_of m)) here lawful none to message.sender);
    })

pub holds_leaving_lawfully : (s : KernelState) (m : Message) (d : Departure) → IsLawfulState s → IsLawfulDeparture d → IsLawfulMessage m → Lawfully (holds_leaving s m d)
holds_leaving_lawfully s m d h lawful message =
    record {
      state =
          record {
            records = knows s m.to.pid (Frozen (with_held d m)) h (record { resident = lawful.resident; to = lawful.to; asker = lawful.asker; held = All-push IsLawfulMessage d.held m lawful.held message });
            room = h.room;
            inbox = h.inbox;
          };
      parts = said none_said;
    }

pub stays_lawfully : (s : KernelState) (p : Pid) (d : Departure) → s.here < 16 → IsLawfulState s → IsLawfulDeparture d → Lawfully (stays s p d)
stays_lawfully s p d here h lawful =
    record {
      state =
          record {
            records = knows s p (Here d.resident) h lawful.resident;
            room = h.room;
            inbox = All-append IsLawfulMessage d.held s.inbox lawful.held h.inbox;
          };
      parts = said (tells_of_lawfully s.here d.resident ends.Stayed d.asker here lawful.resident lawful.asker);
    }

pub gives_lawfully : (s : KernelState) (m : Message) (w : What) → s.here < 16 → IsLawfulState s → IsLawfulMessage m → is_answer (kind_of w) ≡ false → IsLawfulWhat w → Lawfully (gives_piece s m w)
gives_lawfully s m w here h message no_answer lawful =
    record {
      state = record { records = h.records; room = h.room; inbox = h.inbox };
      parts = said (routed _ (own_lawfully s m.sender w here message.sender no_answer lawful));
    }

chunk_size : (state : List ℕ) (k : ℕ) → HasChunk state k → (1 ≤ length (chunk_bytes state k)) × (length (chunk_bytes state k) ≤ 512)
chunk_size state k h =
    let n : length (chunk_bytes state k) ≡ min 512 (length state - 512 * k) = length-chunk state k in
    let some : 512 * k < length state = h in
    (omega arith, omega arith)

pub chunk_lawfully : (r : Resident) (k : ℕ) → IsMachine (name_of r).home → HasChunk (state_of r) k → IsLawfulWhat (chunk_of (name_of r) (state_of r) k)
chunk_lawfully r k home h =
    let size : (1 ≤ length (chunk_bytes (state_of r) k)) × (length (chunk_bytes (state_of r) k) ≤ 512) = chunk_size (state_of r) k h in (home, size.0, size.1)

pub leaves_lawfully : (s : KernelState) (p : Pid) (d : Departure) → s.here < 16 → IsMachine p.home → IsLawfulState s → IsLawfulDeparture d → Lawfully (leaves s p d)
leaves_lawfully s p d here home h lawful =
    let on : All IsLawfulMessage (all_sent_on d) =
    lawful_all d.to (moves_of d.resident + 1) (all_sent_on d) (queue_of d.resident) d.held refl lawful.to (queue_lawful d.resident lawful.resident) lawful.held
    in
    let to : IsMachine d.to = lawful.to in
    record {
      state =
          record {
            records = knows s p (Forward d.to (moves_of d.resident + 1)) h lawful.to;
            room = with_less s.room (residents.blocks_of d.resident) h.room;
            inbox = h.inbox;
          };
      parts = said (all_routed (all_sent_on d) _ on (said (routed _ (own_lawfully s (kernel_at d.to) (what.Restart p) here (kernel_address d.to (omega arith)) refl home))));
    }

-- a process comes
free_lawfully : (r : Taken) → r.slots ≤ 64 → r.blocks ≤ 4096 → (free_slots r ≤ 64) × (free_blocks r ≤ 4096)
free_lawfully r slots blocks = (omega arith, omega arith)

accepts_lawfully : (b : Boot) (s : KernelState) (m : Message) (p : Pid) (blocks moves size : ℕ) (asker : Option Asker) (room : Bool) → s.here < 16 → IsLawfulState s → IsLawfulMessage m
    → IsMachine p.home → IsLawfulAsker asker → Lawfully (accepts b s m p blocks moves size asker room)
accepts_lawfully b s m p blocks moves size asker true here h message home asks =
    record {
      state =
          record {
            records = knows s p (Incoming (expected p m.id.from.home blocks moves size asker (slots_of b.format))) h (record { home = home; source = message.from; asker = asks; held = All-nil IsLawfulMessage });
            room = with_more s.room blocks h.room;
            inbox = h.inbox;
          };
      parts = said (routed _ (own_lawfully s m.sender (what.PullState p 0) here message.sender refl home));
    }
accepts_lawfully b s m p blocks moves size asker false here h message home asks =
    let free : (free_slots s.room ≤ 64) × (free_blocks s.room ≤ 4096) = free_lawfully s.room h.room.slots h.room.blocks in
    record {
      state = record { records = h.records; room = h.room; inbox = h.inbox };
      parts = said (routed _ (own_lawfully s m.sender (what.Refuse p (free_slots s.room) (free_blocks s.room)) here message.sender refl (home, free.0, free.1)));
    }

pub asks_lawfully : (b : Boot) (s : KernelState) (m : Message) (p : Pid) (blocks moves size : ℕ) (asker : Option Asker) → s.here < 16 → IsLawfulState s → IsLawfulMessage m → IsMachine p.home
    → IsLawfulAsker asker → Lawfully (answers_ask b s m p blocks moves size asker)
asks_lawfully b s m p blocks moves size asker here h message home asks = accepts_lawfully b s m p blocks moves size asker (has_room_for s.room blocks) here h message home asks

pub holds_arriving_lawfully : (s : KernelState) (m : Message) (a : Arrival) → IsLawfulState s → IsLawfulArrival a → IsLawfulMessage m → Lawfully (holds_arriving s m a)
holds_arriving_lawfully s m a h lawful message =
    record {
      state =
          record {
            records = knows s m.to.pid (Incoming (with_held_too a m)) h (record { home = lawful.home; source = lawful.source; asker = lawful.asker; held = All-push IsLawfulMessage a.held m lawful.held message });
            room = h.room;
            inbox = h.inbox;
          };
      parts = said none_said;
    }

pull_lawfully : (p : Pid) (w : Wanted) → IsMachine p.home → IsLawfulWhat (pull p w)
pull_lawfully p (Chunk k) home = home
pull_lawfully p (Block k) home = home
pull_lawfully p Nothing home = home

pull_asks : (p : Pid) (w : Wanted) → is_answer (kind_of (pull p w)) ≡ false
pull_asks p (Chunk k) = refl
pull_asks p (Block k) = refl
pull_asks p Nothing = refl

took_lawfully : (s : KernelState) (m : Message) (p : Pid) (a : Arrival) → s.here < 16 → IsLawfulState s → IsLawfulMessage m → IsLawfulArrival a → Lawfully (took_piece s m p (Some a))
took_lawfully s m p a here h message lawful =
    record {
      state = record { records = knows s p (Incoming a) h lawful; room = h.room; inbox = h.inbox };
      parts = all_said (piece_lines m.id p a.blocks a.wanted) _ (routed _ (own_lawfully s m.sender (pull a.pid a.wanted) here message.sender (pull_asks a.pid a.wanted) (pull_lawfully a.pid a.wanted lawful.home)));
    }

piece_lawfully : (s : KernelState) (m : Message) (p : Pid) (a : Arrival) (w : What) → s.here < 16 → IsLawfulState s → IsLawfulMessage m → IsLawfulArrival a → Lawfully (took_piece s m p (with_piece a w))
piece_lawfully s m p a (what.State q k last bytes) here h message lawful =
    took_lawfully s m p (with_chunk a k last bytes.items) here h message (record { home = lawful.home; source = lawful.source; asker = lawful.asker; held = lawful.held })
piece_lawfully s m p a (what.Memory q k bytes) here h message lawful =
    took_lawfully s m p (with_block a k bytes) here h message (record { home = lawful.home; source = lawful.source; asker = lawful.asker; held = lawful.held })
piece_lawfully s m p a w here h message lawful = tt

pub takes_lawfully : (s : KernelState) (m : Message) (p : Pid) (a : Arrival) → s.here < 16 → IsLawfulState s → IsLawfulMessage m → IsLawfulArrival a → Lawfully (takes_piece s m p a)
takes_lawfully s m p a here h message lawful = piece_lawfully s m p a m.what here h message lawful

restarts_as_lawfully : (s : KernelState) (p : Pid) (a : Arrival) (x : Resident) → s.here < 16 → IsLawfulState s → IsLawfulArrival a → IsLawfulResident x → Lawfully (restarts_as s p a (Some x))
restarts_as_lawfully s p a x here h lawful whole =
    record {
      state =
          record {
            records = knows s p (Here x) h whole;
            room = h.room;
            inbox = All-append IsLawfulMessage a.held s.inbox lawful.held h.inbox;
          };
      parts = said (tells_of_lawfully s.here x ends.Done a.asker here whole lawful.asker);
    }

pub restarts_lawfully : (b : Boot) (s : KernelState) (p : Pid) (a : Arrival) → s.here < 16 → IsLawfulState s → IsLawfulArrival a → MayRestart b a → Lawfully (restarts b s p a)
restarts_lawfully b s p a here h lawful may =
    subst (λ (o : Option Resident). Lawfully (restarts_as s p a o)) (sym may.restarts) (restarts_as_lawfully s p a may.resident here h lawful may.lawful)

-- what comes of a piece, if it is waited for
pub hears_lawfully : (s : KernelState) (m : Message) (p : Pid) (o : Option Arrival) → s.here < 16 → IsLawfulState s → IsLawfulMessage m → IfSome o IsLawfulArrival → Lawfully (hears_piece s m p o)
hears_lawfully s m p None here h message lawful = record { state = h; parts = said none_said }
hears_lawfully s m p (Some a) here h message lawful =
    if_lawfully (comes_from a m.id.from.home) (takes_piece s m p a) (says_stale s m) (λ awaited. takes_lawfully s m p a here h message lawful)
    (λ other. record { state = h; parts = said none_said })

-- a migration is called off
turns_back_lawfully : (s : KernelState) (p : Pid) (a : Arrival) → s.here < 16 → IsLawfulState s → IsLawfulArrival a → IsLawfulTurned (record { state = with_sent (without_arriving s p a); parts = calling_off s p a })
turns_back_lawfully s p a here h lawful =
    let back : All IsLawfulMessage (all_sent_back a) = lawful_all a.source a.moves (all_sent_back a) [] a.held refl lawful.source (All-nil IsLawfulMessage) lawful.held in
    let to : IsMachine a.source = lawful.source in
    record {
      state =
          record {
            records = knows s p (Forward a.source a.moves) h lawful.source;
            room = with_less s.room a.blocks h.room;
            inbox = h.inbox;
          };
      parts = said (all_routed (all_sent_back a) _ back (routed _ (own_lawfully s (kernel_at a.source) (what.CallOff a.pid) here (kernel_address a.source (omega arith)) refl lawful.home)));
    }

arriving_called_off : (s : KernelState) (p : Pid) (o : Option Arrival) → s.here < 16 → IsLawfulState s → IfSome o IsLawfulArrival → Lawfully (calls_arriving_off s p o)
arriving_called_off s p None here h lawful = record { state = h; parts = said none_said }
arriving_called_off s p (Some a) here h lawful =
    if_lawfully (is_whole a.wanted) (is_not_called s p) (turns_back s p a) (λ all. record { state = h; parts = said none_said }) (λ some. turns_back_lawfully s p a here h lawful)

pub arriving_known : (o : Option KernelKnown) → IfSome o IsLawfulKnown → IfSome (incoming_of o) IsLawfulArrival
arriving_known None h = tt
arriving_known (Some (Here x)) h = tt
arriving_known (Some (Frozen d)) h = tt
arriving_known (Some (Incoming a)) h = h
arriving_known (Some (Forward place moves)) h = tt

pub called_off_lawfully : (s : KernelState) (p : Pid) → s.here < 16 → IsLawfulState s → Lawfully (calls_off s p)
called_off_lawfully s p here h = arriving_called_off s p (incoming_of (s.records p)) here h (arriving_known (s.records p) (h.records p))

-- a process is told to move
told_lawfully : (s : KernelState) (p : Pid) (r : Result Message MoveError) → IsLawfulState s → IfOk r IsLawfulMessage → Lawfully (told_to_move s p r)
told_lawfully s p (Ok m) h lawful =
    record { state = record { records = h.records; room = h.room; inbox = h.inbox }; parts = routed m lawful }
told_lawfully s p (Err no.Unknown) h lawful = record { state = h; parts = said none_said }

asks_manager_lawfully : (s : KernelState) (p : Pid) (machine : ℕ) (o : Option Managing) → s.here < 16 → IsMachine machine → IsLawfulState s → IfSome o IsLawfulManager → Lawfully (asks_manager s p machine o)
asks_manager_lawfully s p machine None here to h lawful = tt
asks_manager_lawfully s p machine (Some g) here to h lawful =
    told_lawfully s p (asks_to_move s.here g p machine (own_id s)) h (moves_lawful s.here g p machine (own_id s) lawful (omega arith) to (omega arith) refl)

resident_manager : (r : Resident) → IsLawfulResident r → IfSome (manager_of r) IsLawfulManager
resident_manager (resident.Process x) h = tt
resident_manager (resident.Board b) h = tt
resident_manager (resident.Manager g) h = h

manager_known : (o : Option KernelKnown) → IfSome o IsLawfulKnown → IfSome (manager_in o) IsLawfulManager
manager_known None h = tt
manager_known (Some (Here r)) h = resident_manager r h
manager_known (Some (Frozen d)) h = tt
manager_known (Some (Incoming a)) h = tt
manager_known (Some (Forward place moves)) h = tt

pub asks_move_lawfully : (s : KernelState) (p : Pid) (machine : ℕ) → s.here < 16 → IsMachine machine → IsLawfulState s → Lawfully (asks_move s p machine)
asks_move_lawfully s p machine here to h = asks_manager_lawfully s p machine (manager_in (s.records manager)) here to h (manager_known (s.records manager) (h.records manager))
