-- Lists of slots and links, and the registers of a call.
use Rattle.dm_law_rule.proofs.Names.{◌≡◌, ℕ, zero, suc, ◌+◌, ◌%◌, ◌==◌, Bool, true, false, List, [], ◌∷◌, length, refl, ◌⊎◌, inl, inr, arith, nat_le, if◌then◌else◌, slice_set, slice_index, Option, None, Some, nat_tests, PlainLink, link_at}
use Rattle.dm_law_rule.proofs.Names.{Regs, Opcode, Fault, opcode_of, Row, instruction, past, none_some}
use Rattle.dm_processor.specs.Instructions as row
use Rattle.dm_onekernel.specs.Calls as calls

-- a slot that was set holds what it was set to, and the others what they held
pub set_link : {L : Type 0} (slots : List (Option L)) (k j : ℕ) (y : Option L) (l : L) → link_at (slice_set slots k y) j ≡ Some l
    → (((k == j) ≡ true) × (y ≡ Some l)) ⊎ (((k == j) ≡ false) × (link_at slots j ≡ Some l))
set_link [] k j y l e = none_some l e
set_link (x ∷ xs) zero zero y l e = inl (refl, e)
set_link (x ∷ xs) zero (suc j) y l e = inr (let f : (0 == suc j) ≡ false = grind (arith, nat_tests) in f, e)
set_link (x ∷ xs) (suc k) zero y l e = inr (let f : (suc k == 0) ≡ false = grind (arith, nat_tests) in f, e)
set_link (x ∷ xs) (suc k) (suc j) y l e = elim (set_link xs k j y l e) [
  | inl h ↦ inl (let g = h.0 in let f : (suc k == suc j) ≡ true = grind (arith, nat_tests) in f, h.1)
  | inr h ↦ inr (let g = h.0 in let f : (suc k == suc j) ≡ false = grind (arith, nat_tests) in f, h.1)
]

-- of slots some of which were emptied
pub emptied_link : {L : Type 0} (slots : List (Option L)) (k j : ℕ) (l : L) → link_at (slice_set slots k None) j ≡ Some l → link_at slots j ≡ Some l
emptied_link slots k j l e = elim (set_link slots k j None l e) [ inl h ↦ let g : None ≡ Some l = h.1 in cc | inr h ↦ h.1 ]

emptied_if : {L : Type 0} (b : Bool) (slots : List (Option L)) (k j : ℕ) (l : L) → link_at (if b then slice_set slots k None else slots) j ≡ Some l → link_at slots j ≡ Some l
emptied_if true slots k j l e = emptied_link slots k j l e
emptied_if false slots k j l e = e

pub without_replies_link : (ss : List ℕ) (slots : List (Option PlainLink)) (j : ℕ) (l : PlainLink) → link_at (calls.without_replies slots ss) j ≡ Some l → link_at slots j ≡ Some l
without_replies_link [] slots j l e = e
without_replies_link (s ∷ ss) slots j l e =
    emptied_if (calls.holds_reply (link_at slots s)) slots s j l
    (without_replies_link ss (if calls.holds_reply (link_at slots s) then slice_set slots s None else slots) j l e)

-- no instruction but a call's is a call, and a call goes past it
past_if : (b : Bool) (w : Row) (f : _) (n : ℕ) (r q : Regs) → (w ≡ row.Calls n r → r ≡ q) → (if b then w else row.Faults f) ≡ row.Calls n r → r ≡ q
past_if b w f n r q h1 h2 = search arith

past_word : (bytes : List ℕ) (at n : ℕ) (w : Row) (r q : Regs) → (w ≡ row.Calls n r → r ≡ q) → row.word_row bytes at w ≡ row.Calls n r → r ≡ q
past_word bytes at n w r q h e = past_if (nat_le (at + 4) (length bytes)) (if at % 4 == 0 then w else row.Faults Fault.Unaligned) Fault.OutOfRange n r q (λ f. past_if (at % 4 == 0) w Fault.Unaligned n r q h f) e

past_effect : (o : Opcode) (regs : Regs) (m : List ℕ) (a b c n : ℕ) (r : Regs) → row.effect o regs m a b c ≡ row.Calls n r → r ≡ past regs
past_effect o regs m a b c n r h1 = let plain_no : (x : Regs) (y : List ℕ) (n : ℕ) (r q : Regs) → row.Plain x y ≡ row.Calls n r → r ≡ q = λ x y n r q e. cc in search (arith, past_word, plain_no, past_if)

past_operation : (o : Option Opcode) (regs : Regs) (m : List ℕ) (a b c n : ℕ) (r : Regs) → row.operation_row o regs m a b c ≡ row.Calls n r → r ≡ past regs
past_operation o regs m a b c n r h1 = grind (arith, nat_tests, past_if, past_effect)

pub past_call : (regs : Regs) (m : List ℕ) (n : ℕ) (r : Regs) → instruction regs m ≡ row.Calls n r → r ≡ past regs
unfolding instruction
past_call regs m n r e =
    past_word m regs.pc n (row.operation_row (opcode_of (slice_index m regs.pc)) regs m (slice_index m (regs.pc + 1)) (slice_index m (regs.pc + 2)) (slice_index m (regs.pc + 3))) r (past regs)
    (λ f. past_operation (opcode_of (slice_index m regs.pc)) regs m (slice_index m (regs.pc + 1)) (slice_index m (regs.pc + 2)) (slice_index m (regs.pc + 3)) n r f) e
