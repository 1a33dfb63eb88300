-- A process is read as it is spelled.
use Rattle.dm_statebytes.proofs.Names.{◌≡◌, ℕ, ◌*◌, ◌^◌, ◌<◌, ◌≤◌, true, eqb, List, [], ◌∷◌, ◌++◌, length, Option, None, Some, Result, Ok, Err, refl, sym, ap, subst, ◌∙◌, arith, ◌⊎◌, ◌==◌, IfOk, AllByRecursion, eqb-true, eq-eqb, append-nil}
use Rattle.dm_statebytes.proofs.Names.{nil_from_length, All-from_recursion, recursion_from_All, Link, Regs, SlotIsLawful, PacketError, ◌>>=◌, both, number, pid, yes_or_no, Fits, IsBytes, IsField, IsField-both, IsField-for, IsField-made}
use Rattle.dm_statebytes.proofs.Names.{IsField-number, IsField-tested, IsField-repeated_field, bind_ok, guard_ok, IsSpelledPid, number_within_is, pid_is, yes_or_no_is, StateBytesError, Shell, IsLawfulShell, Front, blocks, by_rule}
use Rattle.dm_statebytes.proofs.Names.{only_shell, front, shell_front, registers, regs, shell, shell_of_bytes, shell_with, shell_spelling, status, version, table, FitsShell, FitsSlot}
use Rattle.dm_packet.specs.declared.PacketError.TheVariants as bad
use Rattle.dm_statebytes.proofs.Statuses.{IsSpelledStatus, status_is}
use Rattle.dm_statebytes.proofs.Tables.{IsSpelledTable, SlotIsSpelled, table_is}

version_is : IsField (version 3) (λ v. v ≡ 3)
version_is =
    IsField-for (version 3) (λ v. (v < 256 ^ 1) × (eqb v 3 ≡ true)) (λ v. v ≡ 3) (IsField-tested (number 1) (λ v. v < 256 ^ 1) (IsField-number 1) (λ v. v == 3) bad.Version)
    (λ v fits. eqb-true v 3 fits.1)
    (λ v e. (omega (arith, e), eq-eqb v 3 e))

abbrev IsCount : ℕ → Type 0
IsCount n = (1 ≤ n) × (n ≤ 256)

blocks_is : IsField blocks IsCount
blocks_is = number_within_is 2 1 256 (omega arith)

registers_is : IsField registers (λ r. (length r ≡ 16) × AllByRecursion (Fits 4) r)
unfolding registers
registers_is = IsField-repeated_field (number 4) (Fits 4) (IsField-number 4) 16

abbrev IsSpelledRegs : Regs → Type 0
IsSpelledRegs r = ((length r.r ≡ 16) × AllByRecursion (Fits 4) r.r) × Fits 4 r.pc

regs_is : IsField regs IsSpelledRegs
regs_is =
    let parts = IsField-both registers (λ r. (length r ≡ 16) × AllByRecursion (Fits 4) r) registers_is (λ _. number 4) (λ _. Fits 4) (λ _. IsField-number 4) in
    IsField-made (both registers (λ _. number 4)) (λ r. ((length r.0 ≡ 16) × AllByRecursion (Fits 4) r.0) × Fits 4 r.1) parts (λ r. record { r = r.0; pc = r.1 }) (λ r. (r.r, r.pc)) IsSpelledRegs
    (λ r fits. (refl, fits))
    (λ r fits. (fits, refl))

abbrev IsFront : Front → Type 0
IsFront f = (f.0 ≡ 3) × (IsSpelledPid f.1.0 × (IsCount f.1.1.0 × (Unit {0} × (IsSpelledStatus (256 * f.1.1.0) f.1.1.1.1.0 × (Fits 4 f.1.1.1.1.1.0 × (Fits 4 f.1.1.1.1.1.1.0 × IsSpelledRegs f.1.1.1.1.1.1.1))))))

front_is : IsField front IsFront
front_is =
    let from_moves = IsField-both (number 4) (Fits 4) (IsField-number 4) (λ _. regs) (λ _. IsSpelledRegs) (λ _. regs_is) in
    let from_sent = IsField-both (number 4) (Fits 4) (IsField-number 4) (λ _. both (number 4) (λ _. regs)) (λ _ f. Fits 4 f.0 × IsSpelledRegs f.1) (λ _. from_moves) in
    let from_status = λ (n : ℕ). IsField-both (status (256 * n)) (IsSpelledStatus (256 * n)) (status_is (256 * n)) (λ _. both (number 4) (λ _. both (number 4) (λ _. regs))) (λ _ f. Fits 4 f.0 × (Fits 4 f.1.0 × IsSpelledRegs f.1.1)) (λ _. from_sent) in
    let from_stopped = λ (n : ℕ). IsField-both (yes_or_no bad.Flags) (λ _. Unit {0}) (yes_or_no_is bad.Flags) (λ _. both (status (256 * n)) (λ _. both (number 4) (λ _. both (number 4) (λ _. regs)))) (λ _ f. IsSpelledStatus (256 * n) f.0 × (Fits 4 f.1.0 × (Fits 4 f.1.1.0 × IsSpelledRegs f.1.1.1))) (λ _. from_status n) in
    let from_blocks = IsField-both blocks IsCount blocks_is (λ n. both (yes_or_no bad.Flags) (λ _. both (status (256 * n)) (λ _. both (number 4) (λ _. both (number 4) (λ _. regs))))) (λ n f. Unit {0} × (IsSpelledStatus (256 * n) f.1.0 × (Fits 4 f.1.1.0 × (Fits 4 f.1.1.1.0 × IsSpelledRegs f.1.1.1.1)))) from_stopped in
    let from_pid = IsField-both pid IsSpelledPid pid_is (λ _. both blocks (λ n. both (yes_or_no bad.Flags) (λ _. both (status (256 * n)) (λ _. both (number 4) (λ _. both (number 4) (λ _. regs)))))) (λ _ f. IsCount f.0 × (Unit {0} × (IsSpelledStatus (256 * f.0) f.1.1.0 × (Fits 4 f.1.1.1.0 × (Fits 4 f.1.1.1.1.0 × IsSpelledRegs f.1.1.1.1.1))))) (λ _. from_blocks) in
    IsField-both (version 3) (λ v. v ≡ 3) version_is (λ _. both pid (λ _. both blocks (λ n. both (yes_or_no bad.Flags) (λ _. both (status (256 * n)) (λ _. both (number 4) (λ _. both (number 4) (λ _. regs))))))) (λ _ f. IsSpelledPid f.0 × (IsCount f.1.0 × (Unit {0} × (IsSpelledStatus (256 * f.1.0) f.1.1.1.0 × (Fits 4 f.1.1.1.1.0 × (Fits 4 f.1.1.1.1.1.0 × IsSpelledRegs f.1.1.1.1.1.1)))))) (λ _. from_pid)

-- slots, seen place by place

lawful_slots : (xs : List (Option Link)) → AllByRecursion SlotIsSpelled xs → AllByRecursion SlotIsLawful xs
lawful_slots [] fits = tt
lawful_slots (None ∷ xs) fits = (tt, lawful_slots xs fits.1)
lawful_slots (Some l ∷ xs) fits = (fits.0.0, lawful_slots xs fits.1)

fitting_slots : (xs : List (Option Link)) → AllByRecursion SlotIsSpelled xs → AllByRecursion FitsSlot xs
fitting_slots [] fits = tt
fitting_slots (None ∷ xs) fits = (tt, fitting_slots xs fits.1)
fitting_slots (Some l ∷ xs) fits = (fits.0.1, fitting_slots xs fits.1)

spelled_slots : (xs : List (Option Link)) → AllByRecursion SlotIsLawful xs → AllByRecursion FitsSlot xs → AllByRecursion SlotIsSpelled xs
spelled_slots [] lawful fits = tt
spelled_slots (None ∷ xs) lawful fits = (tt, spelled_slots xs lawful.1 fits.1)
spelled_slots (Some l ∷ xs) lawful fits = ((lawful.0, fits.0), spelled_slots xs lawful.1 fits.1)

-- the whole

abbrev pub IsSpelledShell : ℕ → Shell → Type 0
IsSpelledShell cap s = IsLawfulShell cap s × FitsShell s

abbrev IsWhole : ℕ → Front × List (Option Link) → Type 0
IsWhole cap s = IsFront s.0 × IsSpelledTable cap s.1

made_of : (cap : ℕ) (s : Front × List (Option Link)) → IsWhole cap s → IsSpelledShell cap (shell_with s)
made_of cap s fits =
    let f = fits.0 in
    let r = f.1.1.1.1.1.1.1 in
    let slots = fits.1.1 in (
      record {
        home = f.1.0.0;
        registers = r.0.0;
        blocks = f.1.1.0;
        links = All-from_recursion SlotIsLawful s.1 (lawful_slots s.1 slots);
        slots = fits.1.0;
        status = f.1.1.1.1.0.0;
      },
      record {
        pid = f.1.0.1;
        status = f.1.1.1.1.0.1;
        sent = f.1.1.1.1.1.0;
        moves = f.1.1.1.1.1.1.0;
        registers = All-from_recursion (Fits 4) s.0.1.1.1.1.1.1.1.r r.0.1;
        pc = r.1;
        links = All-from_recursion FitsSlot s.1 (fitting_slots s.1 slots);
      },
    )

parts_of : (cap : ℕ) (s : Shell) → IsSpelledShell cap s → IsWhole cap (shell_front s, s.table)
parts_of cap s fits =
    let lawful = fits.0 in
    let widths = fits.1 in
    let slots = spelled_slots s.table (recursion_from_All SlotIsLawful s.table lawful.links) (recursion_from_All FitsSlot s.table widths.links) in
    let r : IsSpelledRegs s.regs = ((lawful.registers, recursion_from_All (Fits 4) s.regs.r widths.registers), widths.pc) in
    ((refl, ((lawful.home, widths.pid), (lawful.blocks, (tt, ((lawful.status, widths.status), (widths.sent, (widths.moves, r))))))), (lawful.slots, slots))

same_version : (s : Front × List (Option Link)) → s.0.0 ≡ 3 → (shell_front (shell_with s), s.1) ≡ s
same_version s e i = ((sym e i, s.0.1), s.1)

pub shell_is : (cap : ℕ) → (cap ≡ 32) ⊎ (cap ≡ 128) → IsField (shell cap) (IsSpelledShell cap)
shell_is cap known =
    let whole = IsField-both front IsFront front_is (λ _. table cap) (λ _. IsSpelledTable cap) (λ _. table_is cap known) in
    IsField-made (both front (λ _. table cap)) (IsWhole cap) whole shell_with (λ s. (shell_front s, s.table)) (IsSpelledShell cap)
    (λ s fits. (same_version s fits.0.0, made_of cap s fits))
    (λ s fits. (parts_of cap s fits, refl))

abbrev fine : Shell → Result Shell StateBytesError
fine s = Ok s

by_rule_ok : (r : Result Shell PacketError) (s : Shell) → by_rule r ≡ fine s → r ≡ Ok s
by_rule_ok (Ok t) s e = cc
by_rule_ok (Err d) s e = absurd cc

ended_ok : (t : Shell × List ℕ) (s : Shell) → only_shell t ≡ Ok s → (t.1 ≡ []) × (t.0 ≡ s)
ended_ok t s e = let g = guard_ok (eqb (length t.1) 0) bad.Trailing t.0 s e in (nil_from_length t.1 (eqb-true _ _ g.0), g.1)

-- what some bytes are read as is lawful, and they are its spelling
pub shell_takes : (bytes : List ℕ) (cap : ℕ) (s : Shell) → (cap ≡ 32) ⊎ (cap ≡ 128) → IsBytes bytes → shell_of_bytes bytes cap ≡ Ok s → (bytes ≡ shell_spelling s) × IsLawfulShell cap s × FitsShell s
unfolding shell_of_bytes shell_spelling
shell_takes bytes cap s known h e =
    let whole = by_rule_ok ((shell cap).read bytes >>= only_shell) s e in
    let a = bind_ok ((shell cap).read bytes) only_shell s whole in
    let end = ended_ok a.0 s a.2 in
    let t = (shell_is cap known).takes bytes a.0.0 a.0.1 h a.1 in
    let parts : bytes ≡ (shell cap).spell a.0.0 = t.parts ∙ ap (λ (rest : List ℕ). (shell cap).spell a.0.0 ++ rest) end.0 ∙ append-nil ((shell cap).spell a.0.0) in
    subst (λ (x : Shell). (bytes ≡ (shell cap).spell x) × IsLawfulShell cap x × FitsShell x) end.1 (parts, t.fits.0, t.fits.1)

-- the spelling of a lawful process is read as that process, and nothing is left
pub shell_back : (cap : ℕ) (s : Shell) → (cap ≡ 32) ⊎ (cap ≡ 128) → IsLawfulShell cap s → FitsShell s → (shell cap).read (shell_spelling s) ≡ Ok (s, [])
unfolding shell_spelling
shell_back cap s known lawful fits = ap (shell cap).read (sym (append-nil ((shell cap).spell s))) ∙ (shell_is cap known).again s [] (lawful, fits)

-- bytes that are read so are those of the process
pub shell_ended : (cap : ℕ) (bytes : List ℕ) (s : Shell) → (shell cap).read bytes ≡ Ok (s, []) → shell_of_bytes bytes cap ≡ Ok s
unfolding shell_of_bytes
shell_ended cap bytes s e = ap (λ (r : Result (Shell × List ℕ) PacketError). by_rule (r >>= only_shell)) e

pub shell_again : (cap : ℕ) (s : Shell) → (cap ≡ 32) ⊎ (cap ≡ 128) → IsLawfulShell cap s → FitsShell s → shell_of_bytes (shell_spelling s) cap ≡ Ok s
shell_again cap s known lawful fits = shell_ended cap (shell_spelling s) s (shell_back cap s known lawful fits)

-- what a result that the bytes gave says of them
pub is_found : (bytes : List ℕ) (cap : ℕ) (r : Result Shell StateBytesError) → (cap ≡ 32) ⊎ (cap ≡ 128) → IsBytes bytes → r ≡ shell_of_bytes bytes cap → IfOk r (λ s. IsLawfulShell cap s × (bytes ≡ shell_spelling s))
is_found bytes cap (Ok s) known h e = let t = shell_takes bytes cap s known h (sym e) in (t.1, t.0)
is_found bytes cap (Err d) known h e = tt
