-- How large what is at a place is, by its bytes and by the rule.
use Rattle.dm_law_mirror.proofs.Names.{◌≡◌, ℕ, ◌+◌, ◌*◌, Bool, List, [], ◌∷◌, length, map, refl, ap, ◌∙◌, sym, subst, arith, nat_tests, if◌then◌else◌, option_map, option_map_or, Option, Some, flat_map, length-append, flat_map-cons, Link, Shell}
use Rattle.dm_law_mirror.proofs.Names.{plain_link, registers, shell_of, spell_slot, numbers_size, state_of, plain_status, links_size, status_size, shell_spelling, Pid, pid_eq, Message, MsgId, Resident, Board, Managing, Named, Addr, Pending, Placed}
use Rattle.dm_law_mirror.proofs.Names.{plain_board, plain_manager, plain_process, plain_named, plain_pending, OneKernel, MirrorsKernel, HereStands, manager, resident_at, Switchboard, Manager, length-map}
unfoldable use Rattle.dm_switchboard.specs.Packed.{board_spelling}
use Rattle.dm_switchboard.specs.Packed.{spell_named}
unfoldable use Rattle.dm_procman.specs.Packed.{manager_spelling}
use Rattle.dm_procman.specs.Packed.{request}
use Rattle.dm_packet.specs.Fields.{addr}
use Rattle.dm_resident.specs.Residents as residents
use Rattle.dm_resident.specs.Lawful.{IsLawfulResident}
use Rattle.dm_onekernel.specs.Step as kernel
use Rattle.dm_law_rule.specs.Migrating.{Size, board_size, manager_size, names_size, process_size, requests_size, size_of}
use Rattle.dm_law_mirror.proofs.Residents.{OfBoard, OfManager, OfProcess, not_board, not_manager, process_there, who}

-- a process
slots_length : (xs : List (Option Link)) → length (flat_map spell_slot xs) ≡ links_size (map (option_map plain_link) xs)
slots_length [] = omega arith
slots_length (x ∷ xs) =
    let slot_length : length (spell_slot x) ≡ option_map_or (λ _. 24) (option_map plain_link x) 0 = grind (arith, nat_tests) in
    omega (arith, (ap length (flat_map-cons spell_slot x xs) ∙ length-append (spell_slot x) (flat_map spell_slot xs)), slot_length, slots_length xs)

registers_length : (xs : List ℕ) → length xs ≡ 16 → length (registers.spell xs) ≡ 64
unfolding registers
registers_length xs e = omega (arith, e, numbers_size xs)

shell_length : (s : Shell) → length s.regs.r ≡ 16 → length (shell_spelling s) ≡ 102 + status_size (plain_status s.status) + links_size (map (option_map plain_link) s.table)
unfolding shell_spelling
shell_length s sixteen = grind (arith, nat_tests, flat_map, length-append, registers_length, slots_length)

-- the switchboard: each name with its length and its link
named_length : (k : Named) → length (spell_named k) ≡ 25 + length k.name
named_length k = grind (arith, nat_tests, length-append)

names_length : (ks : List Named) → length (flat_map spell_named ks) ≡ names_size (map plain_named ks)
names_length [] = omega arith
names_length (k ∷ ks) = omega (arith, (ap length (flat_map-cons spell_named k ks) ∙ length-append (spell_named k) (flat_map spell_named ks)), named_length k, names_length ks)

board_length : (v : Board) → length (board_spelling v) ≡ board_size (plain_board v)
unfolding board_spelling
board_length v = grind (arith, nat_tests, length-append, names_length)

-- the manager: the addresses of children, and the pending requests with their links
addrs_length : (xs : List Addr) → length (flat_map addr.spell xs) ≡ 10 * length xs
addrs_length [] = omega arith
addrs_length (x ∷ xs) =
    let one : length (addr.spell x) ≡ 10 = grind (arith, nat_tests, length-append) in
    omega (arith, (ap length (flat_map-cons addr.spell x xs) ∙ length-append (addr.spell x) (flat_map addr.spell xs)), one, addrs_length xs)

request_length : (r : Pending) → length (request.spell r) ≡ 6 + option_map_or (λ _. 24) (plain_pending r).answer 0
request_length r = grind (arith, nat_tests, length-append)

requests_length : (rs : List Pending) → length (flat_map request.spell rs) ≡ requests_size (map plain_pending rs)
requests_length [] = omega arith
requests_length (r ∷ rs) = omega (arith, (ap length (flat_map-cons request.spell r rs) ∙ length-append (request.spell r) (flat_map request.spell rs)), request_length r, requests_length rs)

manager_length : (g : Managing) → length (manager_spelling g) ≡ manager_size (plain_manager g)
unfolding manager_spelling
manager_length g = grind (arith, nat_tests, length-append, length-map, addrs_length, requests_length)

-- by the rule
abbrev pub size_at : Resident → Size
size_at (Resident.Process x) = process_size (plain_process x)
size_at (Resident.Board v) = record { state = board_size (plain_board v); blocks = 0 }
size_at (Resident.Manager g) = record { state = manager_size (plain_manager g); blocks = 0 }

pub size_queue : (q : List Message) (r : Resident) → size_at (residents.with_queue q r) ≡ size_at r
size_queue q (Resident.Process x) = refl
size_queue q (Resident.Board v) = refl
size_queue q (Resident.Manager g) = refl

-- by its bytes
pub size_blocks : (r : Resident) → (size_at r).blocks ≡ residents.blocks_of r
size_blocks (Resident.Process x) = refl
size_blocks (Resident.Board v) = refl
size_blocks (Resident.Manager g) = refl

pub size_state : (r : Resident) → IsLawfulResident r → (size_at r).state ≡ length (state_of r)
size_state (Resident.Process x) h = sym (shell_length (shell_of x) h.registers)
size_state (Resident.Board v) h = sym (board_length v)
size_state (Resident.Manager g) h = sym (manager_length g)

pub sized : (s : OneKernel) (l : Placed) (p : Pid) (r : Resident) → MirrorsKernel s l → resident_at l p ≡ Some r → size_of s p ≡ Some (size_at r)
sized s l p r h e = elim (who p) [
  | OfProcess off ↦
      let (x, is, there) = process_there l p r off e in
      ap (λ (c : Bool). if c then Some (record { state = board_size s.switchboard; blocks = 0 }) else if pid_eq p manager then Some (record { state = manager_size s.manager; blocks = 0 }) else option_map process_size (kernel.alive (s.processes p))) (not_board p off)
      ∙ ap (λ (c : Bool). if c then Some (record { state = manager_size s.manager; blocks = 0 }) else option_map process_size (kernel.alive (s.processes p))) (not_manager p off)
      ∙ ap (option_map process_size) (h.processes p ∙ ap (option_map plain_process) there) ∙ ap (λ (z : Resident). Some (size_at z)) (sym is)
  | OfBoard at_board ↦
      let f : Resident.Board l.board ≡ r = let g : Some (Resident.Board l.board) ≡ Some r = subst (λ (q : Pid). resident_at l q ≡ Some r) at_board e in cc in
      ap (size_of s) at_board ∙ ap (λ (b : Switchboard). Some (record { state = board_size b; blocks = 0 })) (sym h.board) ∙ ap (λ (z : Resident). Some (size_at z)) f
  | OfManager at_manager ↦
      let f : Resident.Manager l.manager ≡ r = let g : Some (Resident.Manager l.manager) ≡ Some r = subst (λ (q : Pid). resident_at l q ≡ Some r) at_manager e in cc in
      ap (size_of s) at_manager ∙ ap (λ (b : Manager). Some (record { state = manager_size b; blocks = 0 })) (sym h.manager) ∙ ap (λ (z : Resident). Some (size_at z)) f
]

-- so it is with what is here, whatever waits for it
pub here_sized : (s : OneKernel) (l : Placed) (p : Pid) (queue : List MsgId) (r : Resident) → MirrorsKernel s l → HereStands l p queue r → size_of s p ≡ Some (size_at r)
here_sized s l p queue r h here = sized s l p (residents.with_queue here.0.0 r) h here.0.1 ∙ ap Some (size_queue here.0.0 r)
