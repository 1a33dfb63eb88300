-- How long the state bytes of a process are.
use Rattle.dm_statebytes.proofs.Names.{◌≡◌, ℕ, ◌+◌, ◌*◌, ◌≤◌, List, [], ◌∷◌, ◌++◌, length, Option, None, Some, Result, Ok, Err, sym, ap, subst, ◌∙◌, arith, inl, inr, ◌⊎◌, OnOk, flat_map, length-append, flat_map-cons, Link, Status, Ready}
use Rattle.dm_statebytes.proofs.Names.{Waiting, Moving, number, IsBytes, StateBytesError, Shell, IsLawfulShell, front, shell_front, registers, shell_of_bytes, shell_spelling, spell_status, mask_of, spell_slot}
use Rattle.dm_statebytes.proofs.Shells.{shell_takes}

slot_size : (o : Option Link) → length (spell_slot o) ≤ 24
slot_size None = omega arith
slot_size (Some l) = omega arith

slots_size : (xs : List (Option Link)) → length (flat_map spell_slot xs) ≤ 24 * length xs
slots_size [] = omega arith
slots_size (x ∷ xs) =
    let one : length (flat_map spell_slot (x ∷ xs)) ≡ length (spell_slot x) + length (flat_map spell_slot xs) = ap length (flat_map-cons spell_slot x xs) ∙ length-append (spell_slot x) (flat_map spell_slot xs) in
    omega (arith, one, slot_size x, slots_size xs)

pub numbers_size : (xs : List ℕ) → length (flat_map (number 4).spell xs) ≡ 4 * length xs
numbers_size [] = omega arith
numbers_size (x ∷ xs) =
    let one : length (flat_map (number 4).spell (x ∷ xs)) ≡ length ((number 4).spell x) + length (flat_map (number 4).spell xs) = ap length (flat_map-cons (number 4).spell x xs) ∙ length-append ((number 4).spell x) (flat_map (number 4).spell xs) in
    omega (arith, one, numbers_size xs)

registers_size : (xs : List ℕ) → length xs ≡ 16 → length (registers.spell xs) ≡ 64
unfolding registers
registers_size xs e = omega (arith, e, numbers_size xs)

status_size : (size : ℕ) (s : Status) → (1 ≤ length (spell_status size s)) × (length (spell_status size s) ≤ 28)
status_size size Ready = (omega arith, omega arith)
status_size size (Waiting mask base most) = (omega arith, omega arith)
status_size size (Moving dir owner base own left pending) = (omega arith, omega arith)

abbrev pub IsSize : ℕ → Type 0
IsSize n = (102 ≤ n) × (n ≤ 3201)

pub front_size : (s : Shell) → length s.regs.r ≡ 16 → (86 ≤ length (front.spell (shell_front s))) × (length (front.spell (shell_front s)) ≤ 113)
front_size s sixteen =
    let st = spell_status (256 * s.blocks) s.status in
    let r = registers.spell s.regs.r in
    let pc = (number 4).spell s.regs.pc in
    let counts = (number 4).spell s.sent ++ ((number 4).spell s.moves ++ (r ++ pc)) in
    let regs_len : length (r ++ pc) ≡ 68 = length-append r pc ∙ omega (arith, registers_size s.regs.r sixteen) in
    let counts_len : length counts ≡ 76 = omega (arith, regs_len) in
    let front_len : length (front.spell (shell_front s)) ≡ 9 + (length st + 76) = omega (arith, length-append st counts, counts_len) in
    let bounds = status_size (256 * s.blocks) s.status in
    (omega (arith, front_len, bounds.0), omega (arith, front_len, bounds.1))

pub shell_size : (s : Shell) → length s.regs.r ≡ 16 → length s.table ≤ 128 → IsSize (length (shell_spelling s))
unfolding shell_spelling
shell_size s sixteen few =
    let links = flat_map spell_slot s.table in
    let mask = (number 16).spell (mask_of s.table) in
    let table_len : length (mask ++ links) ≡ 16 + length links = omega arith in
    let whole : length (shell_spelling s) ≡ length (front.spell (shell_front s)) + length (mask ++ links) = length-append (front.spell (shell_front s)) (mask ++ links) in
    let bounds = front_size s sixteen in
    (omega (arith, whole, table_len, bounds.0), omega (arith, whole, table_len, bounds.1, slots_size s.table))

few_slots : (cap : ℕ) → (cap ≡ 32) ⊎ (cap ≡ 128) → cap ≤ 128
few_slots cap (inl e) = omega (arith, e)
few_slots cap (inr e) = omega (arith, e)

pub lawful_size : (cap : ℕ) (s : Shell) → (cap ≡ 32) ⊎ (cap ≡ 128) → IsLawfulShell cap s → IsSize (length (shell_spelling s))
lawful_size cap s known lawful = shell_size s lawful.registers (omega (arith, lawful.slots, few_slots cap known))

pub is_short : (bytes : List ℕ) (cap : ℕ) (r : Result Shell StateBytesError) → (cap ≡ 32) ⊎ (cap ≡ 128) → IsBytes bytes → r ≡ shell_of_bytes bytes cap → OnOk r (length bytes ≤ 3201)
is_short bytes cap (Ok s) known h e =
    let t = shell_takes bytes cap s known h (sym e) in
    subst (λ (spelled : List ℕ). length spelled ≤ 3201) (sym t.0) (lawful_size cap s known t.1).1
is_short bytes cap (Err d) known h e = tt
