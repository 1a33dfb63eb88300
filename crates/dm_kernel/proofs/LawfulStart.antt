-- A machine as the boot file has it may take a turn, and is lawful.
use Rattle.dm_kernel.proofs.Names.{◌≡◌, ◌∙◌, ℕ, ◌+◌, ◌*◌, ◌/◌, ◌<◌, ◌≤◌, Bool, true, false, ◌==◌, if◌then◌else◌, List, [], ◌∷◌, ◌++◌, length, Some, None, slice_get, refl, ap, sym, subst, arith, ⊤, ◌&&◌, ◌||◌, nat_le, not, All, IfSome}
use Rattle.dm_kernel.proofs.Names.{common_steps, All-cons, All-nil, and_parts, nat_tests, Option, Ok, Link, Pid, IsLawfulEnclosed, pid_eq, pid_eq_same, IsLawfulMessage, Process, IsLawfulProcess, HasTaken, Taken, with_reserved, Here, Frozen}
use Rattle.dm_kernel.proofs.Names.{Incoming, Forward, Boot, BootImage, BootMachine, BootProcess, IsValid, blocks_at, blocks_of_image, controls_child, image_is_valid, images_are_valid, leads_somewhere, leads_to_process, leads_to_server}
use Rattle.dm_kernel.proofs.Names.{link_is_valid, links_are_valid, machine_is_valid, manager, memory_size, process_is_valid, process_named, processes_are_valid, slots_of, starting_at, switchboard, memory_of, started_lawful, starting}
use Rattle.dm_kernel.proofs.Names.{begins_process, child_of, empty, opened, room_of, with_all, with_child, IsLawfulKnown, IsLawfulRoom, IsLawfulState, FrontMay, MayTurn, KernelState, KernelKnown, blocks_of}
use Rattle.dm_kernel.proofs.Names.{Board, IsLawfulBoard, IsLawfulManager, IsServer, Managing, Resident, IsLawfulNamed, bare, with_servers, ◌⊎◌, inl, inr}
use Rattle.dm_resident.specs.declared.Resident.TheVariants as resident
use Rattle.dm_onekernel.proofs.Lawful.{child_lawfully, few_machines, home_of, links_lawfully, links_of}
use Rattle.dm_onekernel.proofs.Making.{image_fits}
use Rattle.dm_kernel.proofs.LawfulRows.{same_room}
use Rattle.dm_kernel.proofs.Opening.{machine_fits}

-- a process that hasn't executed anything yet stands in its room
record Fresh (s : KernelState) (p : Pid) (x : Process) : Type 0 where
  pid : x.pid ≡ p
  named : ¬ IsServer p
  lawful : IsLawfulProcess x
  sent : x.sent ≡ 0
  room : HasTaken s.room (blocks_of x)

record AreFresh (s : KernelState) : Type 0 where
  processes : (p : Pid) (x : Process) → s.records p ≡ Some (Here (resident.Process x)) → Fresh s p x
  inbox : s.inbox ≡ []
  sent : s.sent ≡ 0

grown : (r : Taken) (n blocks : ℕ) → HasTaken r n → HasTaken (with_reserved r blocks) n
grown r n blocks h = let some : 0 < r.taken_slots = h.0 in let all : n ≤ r.taken_blocks = h.1 in (omega arith, omega arith)

fresh_or : (s : KernelState) (test : Bool) (p q : Pid) (c x : Process) (blocks : ℕ) (o : Option KernelKnown) → pid_eq p q ≡ test → c.pid ≡ p → ¬ IsServer p → IsLawfulProcess c → c.sent ≡ 0 → blocks_of c ≡ blocks
    → (o ≡ Some (Here (resident.Process x)) → Fresh s q x) → (if test then Some (Here (resident.Process c)) else o) ≡ Some (Here (resident.Process x)) → Fresh (with_child s p c blocks) q x
fresh_or s true p q c x blocks o is named none lawful sent size h e =
    let same : c ≡ x = cc in
    let all : blocks_of c ≤ s.room.taken_blocks + blocks = omega arith in
    subst (Fresh (with_child s p c blocks) q) same (record { pid = named ∙ pid_eq_same p q is; named = λ server. none (subst IsServer (sym (pid_eq_same p q is)) server); lawful = lawful; sent = sent; room = (omega arith, all) })
fresh_or s false p q c x blocks o is named none lawful sent size h e =
    let f : Fresh s q x = h e in record { pid = f.pid; named = f.named; lawful = f.lawful; sent = f.sent; room = grown s.room (blocks_of x) blocks f.room }

memory_blocks : (i : BootImage) → image_is_valid i ≡ true → length (memory_of i) ≡ 256 * i.blocks
memory_blocks i valid = grind (arith, common_steps, nat_tests)

child_blocks : (n blocks : ℕ) → n ≡ 256 * blocks → n / 256 ≡ blocks
child_blocks n blocks e = omega arith

child_fresh : (b : Boot) (s : KernelState) (p : BootProcess) (i : BootImage) → p.pid.home ≤ 15 → ¬ IsServer p.pid → image_is_valid i ≡ true → length p.links ≤ slots_of b.format → All IsLawfulEnclosed p.links → AreFresh s
    → AreFresh (with_child s p.pid (child_of b p.pid i p.links) i.blocks)
child_fresh b s p i home none valid few lawful h =
    record {
      processes =
          λ q x e.
          fresh_or s (pid_eq p.pid q) p.pid q (child_of b p.pid i p.links) x i.blocks (s.records q) refl refl none (child_lawfully b p.pid i p.links home valid few lawful) refl
          (child_blocks (length (memory_of i)) i.blocks (memory_blocks i valid))
          (h.processes q x)
          e;
      inbox = h.inbox;
      sent = h.sent;
    }

begins_fresh : (b : Boot) (s : KernelState) (p : BootProcess) (o : Option BootImage) (test : Bool) → (p.pid.home == s.here) ≡ test → slice_get b.images p.image ≡ o → images_are_valid b.images ≡ true → p.pid.home ≤ 15 → ¬ IsServer p.pid
    → length p.links ≤ slots_of b.format → All IsLawfulEnclosed p.links → AreFresh s → AreFresh (begins_process b s p o)
begins_fresh b s p None test is e valid home none few lawful h = h
begins_fresh b s p (Some i) true is e valid home none few lawful h = rw is (child_fresh b s p i home none (image_fits b.images p.image i valid e) few lawful h)
begins_fresh b s p (Some i) false is e valid home none few lawful h = rw is h

-- the processes of a boot file bear numbers behind those of the servers
numbered_behind : (b : Boot) (others : ℕ) (p : BootProcess) → process_is_valid b others p ≡ true → 3 ≤ p.pid.num
numbered_behind b others p valid = grind (arith, nat_tests)

no_server : (p : Pid) → 3 ≤ p.num → ¬ IsServer p
no_server p behind server = behind_both p behind server.1
  where
    behind_both : (p : Pid) → 3 ≤ p.num → (p.num ≡ 1) ⊎ (p.num ≡ 2) → ⊥
    behind_both p behind (inl one) = absurd (omega arith)
    behind_both p behind (inr two) = absurd (omega arith)

all_fresh : (b : Boot) (earlier ps : List BootProcess) (s : KernelState) → IsValid b → length b.machines ≤ 16 → processes_are_valid b earlier ps ≡ true → AreFresh s → AreFresh (with_all b s ps)
all_fresh b earlier [] s valid few h fresh = fresh
all_fresh b earlier (p ∷ ps) s valid few h fresh =
    let parts : (process_is_valid b (starting_at p.pid.home earlier) p ≡ true) × (processes_are_valid b (earlier ++ p ∷ []) ps ≡ true) =
    and_parts (process_is_valid b (starting_at p.pid.home earlier) p) (processes_are_valid b (earlier ++ p ∷ []) ps) h
    in
    let links : (length p.links ≤ slots_of b.format) × (links_are_valid b p.links ≡ true) = links_of b (starting_at p.pid.home earlier) p parts.0 in
    let home : p.pid.home < length b.machines = home_of b (starting_at p.pid.home earlier) p parts.0 in
    all_fresh b (earlier ++ p ∷ []) ps (begins_process b s p (slice_get b.images p.image)) valid few parts.1
    (begins_fresh b s p (slice_get b.images p.image) (p.pid.home == s.here) refl refl valid.images (omega arith) (no_server p.pid (numbered_behind b (starting_at p.pid.home earlier) p parts.0)) links.0 (links_lawfully b p.links valid few links.1) fresh)

pub here_or : (test : Bool) (s t : KernelState) → t.here ≡ s.here → (if test then t else s).here ≡ s.here
here_or true s t e = e
here_or false s t e = refl

pub here_still : (b : Boot) (s : KernelState) (p : BootProcess) (o : Option BootImage) → (begins_process b s p o).here ≡ s.here
here_still b s p None = refl
here_still b s p (Some i) = here_or (p.pid.home == s.here) s (with_child s p.pid (child_of b p.pid i p.links) i.blocks) refl

pub here_always : (b : Boot) (s : KernelState) (ps : List BootProcess) → (with_all b s ps).here ≡ s.here
here_always b s [] = refl
here_always b s (p ∷ ps) = here_always b (begins_process b s p (slice_get b.images p.image)) ps ∙ here_still b s p (slice_get b.images p.image)

-- no process is here at first
no_process : (set : Bool) (r : Resident) (o : Option KernelKnown) (x : Process) → ((y : Process) → r ≡ resident.Process y → ⊥) → (o ≡ Some (Here (resident.Process x)) → ⊥) → (if set then Some (Here r) else o) ≡ Some (Here (resident.Process x)) → ⊥
no_process true r o x server none e = server x (cc)
no_process false r o x server none e = none e

servers_fresh : (b : Boot) (m : ℕ) → AreFresh (with_servers b (bare b m))
servers_fresh b m =
    record {
      processes =
          λ p x e.
          absurd (no_process (pid_eq manager p) (resident.Manager (starting b)) _ x (λ y is. absurd (cc))
          (λ f. no_process (pid_eq switchboard p) (resident.Board (record { names = []; sent = 0; moves = 0 })) None x (λ y is. absurd (cc)) (λ g. absurd (cc)) f) e);
      inbox = refl;
      sent = refl;
    }

empty_fresh : (b : Boot) (m : ℕ) (test : Bool) → AreFresh (if test then with_servers b (bare b m) else bare b m)
empty_fresh b m true = servers_fresh b m
empty_fresh b m false = record { processes = λ p x e. absurd (cc); inbox = refl; sent = refl }

fresh_at_first : (b : Boot) (m : ℕ) → IsValid b → AreFresh (opened b m)
fresh_at_first b m valid = all_fresh b [] b.processes (empty b m) valid (few_machines (length b.machines) valid.few_machines) valid.processes (empty_fresh b m (m == 0))

-- what a machine opens with: nothing leaves, comes or has gone, the servers are lawful, and it has no more than packets can tell of
abbrev NoneMoves : Option KernelKnown → Type 0
NoneMoves None = ⊤
NoneMoves (Some (Here (resident.Process x))) = ⊤
NoneMoves (Some (Here (resident.Board v))) = IsLawfulBoard v
NoneMoves (Some (Here (resident.Manager v))) = IsLawfulManager v
NoneMoves (Some (Frozen leaving)) = ⊥
NoneMoves (Some (Incoming arriving)) = ⊥
NoneMoves (Some (Forward machine moves)) = ⊥

record Opens (s : KernelState) : Type 0 where
  known : (p : Pid) → NoneMoves (s.records p)
  room : IsLawfulRoom s.room

none_or : (test : Bool) (r : Resident) (o : Option KernelKnown) → NoneMoves (Some (Here r)) → NoneMoves o → NoneMoves (if test then Some (Here r) else o)
none_or true r o lawful h = lawful
none_or false r o lawful h = h

child_opens : (s : KernelState) (p : Pid) (x : Process) (blocks : ℕ) → Opens s → Opens (with_child s p x blocks)
child_opens s p x blocks h =
    record { known = λ q. none_or (pid_eq p q) (resident.Process x) (s.records q) tt (h.known q); room = same_room s.room _ _ h.room }

opens_or : (test : Bool) (s t : KernelState) → Opens t → Opens s → Opens (if test then t else s)
opens_or true s t h k = h
opens_or false s t h k = k

begins_open : (b : Boot) (s : KernelState) (p : BootProcess) (o : Option BootImage) → Opens s → Opens (begins_process b s p o)
begins_open b s p None h = h
begins_open b s p (Some i) h =
    opens_or (p.pid.home == s.here) s (with_child s p.pid (child_of b p.pid i p.links) i.blocks) (child_opens s p.pid (child_of b p.pid i p.links) i.blocks h) h

all_open : (b : Boot) (s : KernelState) (ps : List BootProcess) → Opens s → Opens (with_all b s ps)
all_open b s [] h = h
all_open b s (p ∷ ps) h = all_open b (begins_process b s p (slice_get b.images p.image)) ps (begins_open b s p (slice_get b.images p.image) h)

few_of : (b : Boot) (n : ℕ) (r : BootMachine) → machine_is_valid b n r ≡ true → IsLawfulRoom (room_of (Some r))
few_of b n r valid =
    let few = and_parts (nat_le r.slots 64) (nat_le r.blocks 4096 && (nat_le (starting_at n b.processes) r.slots && nat_le (blocks_at n b.images b.processes) r.blocks)) valid in
    let more = and_parts (nat_le r.blocks 4096) (nat_le (starting_at n b.processes) r.slots && nat_le (blocks_at n b.images b.processes) r.blocks) few.1 in
    record { slots = grind (arith, nat_tests, few.0); blocks = grind (arith, nat_tests, more.0) }

room_fits : (b : Boot) (m : ℕ) (o : Option BootMachine) → IsValid b → slice_get b.machines m ≡ o → IsLawfulRoom (room_of o)
room_fits b m None valid at = record { slots = omega arith; blocks = omega arith }
room_fits b m (Some r) valid at = few_of b (0 + m) r (machine_fits b 0 b.machines m r valid.machines at)

bare_opens : (b : Boot) (m : ℕ) → IsValid b → Opens (bare b m)
bare_opens b m valid = record { known = λ p. tt; room = room_fits b m (slice_get b.machines m) valid refl }

-- the switchboard has no names, and the manager is the boot file's
servers_open : (b : Boot) (s : KernelState) → IsValid b → Opens s → Opens (with_servers b s)
servers_open b s valid h =
    record {
      known =
          λ p. none_or (pid_eq manager p) (resident.Manager (starting b)) _ (started_lawful (Ok (starting b)) b valid refl)
          (none_or (pid_eq switchboard p) (resident.Board (record { names = []; sent = 0; moves = 0 })) (s.records p) (All-nil IsLawfulNamed) (h.known p));
      room = h.room;
    }

empty_opens : (b : Boot) (m : ℕ) → IsValid b → (test : Bool) → Opens (if test then with_servers b (bare b m) else bare b m)
empty_opens b m valid true = servers_open b (bare b m) valid (bare_opens b m valid)
empty_opens b m valid false = bare_opens b m valid

opens : (b : Boot) (m : ℕ) → IsValid b → Opens (opened b m)
opens b m valid = all_open b (empty b m) b.processes (empty_opens b m valid (m == 0))

known_lawful : (o : Option KernelKnown) → NoneMoves o → ((x : Process) → o ≡ Some (Here (resident.Process x)) → IsLawfulProcess x) → IfSome o IsLawfulKnown
known_lawful None h k = tt
known_lawful (Some (Here (resident.Process x))) h k = k x refl
known_lawful (Some (Here (resident.Board v))) h k = h
known_lawful (Some (Here (resident.Manager v))) h k = h
known_lawful (Some (Frozen leaving)) h k = absurd h
known_lawful (Some (Incoming arriving)) h k = absurd h
known_lawful (Some (Forward machine moves)) h k = absurd h

-- a machine that opens may take a turn
pub opened_may : (b : Boot) (m : ℕ) → IsValid b → m < length b.machines → MayTurn b (opened b m)
opened_may b m valid h =
    let fresh : AreFresh (opened b m) = fresh_at_first b m valid in
    let few : length b.machines ≤ 16 = few_machines (length b.machines) valid.few_machines in
    let here : (opened b m).here ≡ m = here_always b (empty b m) b.processes ∙ here_or (m == 0) (bare b m) (with_servers b (bare b m)) refl in
    record {
      here = subst (λ (k : ℕ). k < 16) (sym here) (omega arith);
      sent = subst (λ (n : ℕ). n + 16 ≤ 4294967295) (sym fresh.sent) (omega arith);
      processes =
          λ p x e.
          let f : Fresh (opened b m) p x = fresh.processes p x e in
          record { pid = f.pid; named = f.named; lawful = f.lawful; sent = subst (λ (n : ℕ). n < 4294967295) (sym f.sent) (omega arith); room = f.room };
      front = subst (FrontMay b (opened b m)) (sym fresh.inbox) tt;
    }

-- and is lawful
pub opened_lawful : (b : Boot) (m : ℕ) → IsValid b → IsLawfulState (opened b m)
opened_lawful b m valid =
    let fresh : AreFresh (opened b m) = fresh_at_first b m valid in
    record {
      records = λ p. known_lawful ((opened b m).records p) ((opens b m valid).known p) (λ x e. let f : Fresh (opened b m) p x = fresh.processes p x e in f.lawful);
      room = (opens b m valid).room;
      inbox = subst (All IsLawfulMessage) (sym fresh.inbox) (All-nil IsLawfulMessage);
    }
