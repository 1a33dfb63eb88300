-- How the machine of a boot file comes to be, one process at a time.
use Rattle.dm_kernel.proofs.Names.{◌≡◌, ℕ, zero, suc, ◌+◌, ◌<◌, ◌≤◌, Bool, true, false, ◌==◌, if◌then◌else◌, List, [], ◌∷◌, length, Some, None, slice_get, refl, sym, subst, arith, ◌&&◌, nat_le, common_steps, and_parts, nat_tests, Option}
use Rattle.dm_kernel.proofs.Names.{at, Boot, BootImage, BootMachine, BootProcess, IsValid, blocks_at, blocks_of_image, machine_is_valid, machines_are_valid, starting_at, Kernel, KernelState, bare, begins_process, child_of, empty, with_child, with_servers}
use Rattle.dm_kernel.proofs.Names.{IsIn, kernel_state}

-- a kernel's state, as a whole
pub is_state : (k : Kernel) (s : KernelState) → IsIn k s → kernel_state k ≡ s
is_state k s h =
    λ i. record {
      here = h.here i;
      records = λ q. h.records q i;
      preds = λ q n. h.preds q n i;
      ring = h.ring i;
      inbox = h.inbox i;
      made = h.made i;
      sent = h.sent i;
      room = h.room i;
      over = h.over i;
    }

-- the processes that are left have their room
pub record HasRoomFor (b : Boot) (m : ℕ) (s : KernelState) (rest : List BootProcess) : Type 0 where
  pub here : s.here ≡ m
  pub slots : s.room.taken_slots + starting_at m rest ≤ s.room.slots
  pub blocks : s.room.taken_blocks + blocks_at m b.images rest ≤ s.room.blocks
  pub made : s.made + starting_at m rest ≤ 64

stands : (b : Boot) (m : ℕ) (s : KernelState) (p : BootProcess) (ps : List BootProcess) (i : BootImage) (test : Bool)
    → s.room.taken_slots + ((if test then 1 else 0) + starting_at m ps) ≤ s.room.slots
    → s.room.taken_blocks + ((if test then i.blocks else 0) + blocks_at m b.images ps) ≤ s.room.blocks
    → s.made + ((if test then 1 else 0) + starting_at m ps) ≤ 64 → s.here ≡ m
    → HasRoomFor b m (if test then with_child s p.pid (child_of b p.pid i p.links) i.blocks else s) ps
stands b m s p ps i true slots blocks made here = record { here = here; slots = omega arith; blocks = omega arith; made = omega arith }
stands b m s p ps i false slots blocks made here = record { here = here; slots = omega arith; blocks = omega arith; made = omega arith }

begun : (b : Boot) (m : ℕ) (s : KernelState) (p : BootProcess) (ps : List BootProcess) (o : Option BootImage)
    → s.room.taken_slots + ((if p.pid.home == m then 1 else 0) + starting_at m ps) ≤ s.room.slots
    → s.room.taken_blocks + ((if p.pid.home == m then blocks_of_image o else 0) + blocks_at m b.images ps) ≤ s.room.blocks
    → s.made + ((if p.pid.home == m then 1 else 0) + starting_at m ps) ≤ 64 → s.here ≡ m → HasRoomFor b m (begins_process b s p o) ps
begun b m s p ps None slots blocks made here = record { here = here; slots = omega arith; blocks = omega arith; made = omega arith }
begun b m s p ps (Some i) slots blocks made here =
    subst (λ (k : ℕ). HasRoomFor b m (if p.pid.home == k then with_child s p.pid (child_of b p.pid i p.links) i.blocks else s) ps) (sym here)
    (stands b m s p ps i (p.pid.home == m) slots blocks made here)

pub room_then : (b : Boot) (m : ℕ) (s : KernelState) (p : BootProcess) (ps : List BootProcess) → HasRoomFor b m s (p ∷ ps) → HasRoomFor b m (begins_process b s p (slice_get b.images p.image)) ps
room_then b m s p ps h = begun b m s p ps (slice_get b.images p.image) h.slots h.blocks h.made h.here

-- a machine of a boot file has room for all its processes
pub machine_fits : (b : Boot) (j : ℕ) (rs : List BootMachine) (i : ℕ) (r : BootMachine) → machines_are_valid b j rs ≡ true → slice_get rs i ≡ Some r → machine_is_valid b (j + i) r ≡ true
machine_fits b j [] i r valid at = absurd (grind arith)
machine_fits b j (x ∷ xs) zero r valid at =
    let is : x ≡ r = grind (arith, common_steps) in
    let k : j + zero ≡ j = omega arith in
    subst (λ (r : BootMachine). machine_is_valid b (j + zero) r ≡ true) is
    (subst (λ (k : ℕ). machine_is_valid b k x ≡ true) (sym k) (and_parts (machine_is_valid b j x) (machines_are_valid b (j + 1) xs) valid).0)
machine_fits b j (x ∷ xs) (suc i) r valid at =
    let next : slice_get xs i ≡ Some r = grind (arith, common_steps) in
    let k : j + 1 + i ≡ j + suc i = omega arith in
    subst (λ (k : ℕ). machine_is_valid b k r ≡ true) k (machine_fits b (j + 1) xs i r (and_parts (machine_is_valid b j x) (machines_are_valid b (j + 1) xs) valid).1 next)

-- with the servers or without
room_or : (b : Boot) (m : ℕ) (ps : List BootProcess) (test : Bool) → HasRoomFor b m (bare b m) ps → HasRoomFor b m (if test then with_servers b (bare b m) else bare b m) ps
room_or b m ps true h = record { here = h.here; slots = h.slots; blocks = h.blocks; made = h.made }
room_or b m ps false h = h

fits : (b : Boot) (m : ℕ) (r : BootMachine) → machine_is_valid b m r ≡ true → slice_get b.machines m ≡ Some r → HasRoomFor b m (empty b m) b.processes
fits b m r valid at =
    let few = and_parts (nat_le r.slots 64) (nat_le r.blocks 4096 && (nat_le (starting_at m b.processes) r.slots && nat_le (blocks_at m b.images b.processes) r.blocks)) valid in
    let more = and_parts (nat_le r.blocks 4096) (nat_le (starting_at m b.processes) r.slots && nat_le (blocks_at m b.images b.processes) r.blocks) few.1 in
    let all = and_parts (nat_le (starting_at m b.processes) r.slots) (nat_le (blocks_at m b.images b.processes) r.blocks) more.1 in
    let most : r.slots ≤ 64 = grind (arith, nat_tests, few.0) in
    let slots : starting_at m b.processes ≤ r.slots = grind (arith, nat_tests, all.0) in
    let blocks : blocks_at m b.images b.processes ≤ r.blocks = grind (arith, nat_tests, all.1) in
    room_or b m b.processes (m == 0) (record { here = refl; slots = rw at (omega arith); blocks = rw at (omega arith); made = omega arith })

pub room_at_first : (b : Boot) (m : ℕ) (r : BootMachine) → IsValid b → slice_get b.machines m ≡ Some r → HasRoomFor b m (empty b m) b.processes
room_at_first b m r valid at =
    let k : 0 + m ≡ m = omega arith in
    fits b m r (subst (λ (k : ℕ). machine_is_valid b k r ≡ true) k (machine_fits b 0 b.machines m r valid.machines at)) at

machine_at : (rs : List BootMachine) (i : ℕ) → i < length rs → (r : BootMachine) × (slice_get rs i ≡ Some r)
machine_at [] i h = absurd (omega arith)
machine_at (r ∷ rs) zero h = (r, grind (arith, common_steps))
machine_at (r ∷ rs) (suc i) h =
    let next : (r : BootMachine) × (slice_get rs i ≡ Some r) = machine_at rs i (grind (arith, common_steps)) in
    let there : slice_get rs i ≡ Some next.0 = next.1 in
    (next.0, grind (arith, common_steps))

pub room_from : (b : Boot) (m : ℕ) → IsValid b → m < length b.machines → HasRoomFor b m (empty b m) b.processes
room_from b m valid h =
    let r : (r : BootMachine) × (slice_get b.machines m ≡ Some r) = machine_at b.machines m h in room_at_first b m r.0 valid r.1

-- with the servers, if it is machine 0
pub empty_in : (k : Kernel) (b : Boot) (m : ℕ) (s : KernelState) → s ≡ bare b m → IsIn k (if s.here == 0 then with_servers b s else s) → IsIn k (empty b m)
empty_in k b m s e h = subst (λ (u : KernelState). IsIn k (if u.here == 0 then with_servers b u else u)) e h
