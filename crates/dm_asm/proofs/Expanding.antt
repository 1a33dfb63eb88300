-- A call with its operands has the bytes of the instructions that it stands for.
use Rattle.dm_asm.proofs.Names.{◌≡◌, ℕ, zero, suc, ◌+◌, ◌-◌, ◌≤◌, Bool, true, false, if◌then◌else◌, List, [], ◌∷◌, ◌++◌, length, replicate, ap, append_assoc, refl, sym, ◌∙◌, arith, codes, is_some, ok_or, Option, Some, None, Result, Ok, Err, Opcode, Place, Why, ◌>>=◌}
use Rattle.dm_asm.proofs.Names.{argument_of, call_bytes, call_registers, call_rest, cleared, fields, instruction_bytes, literal_value, making, operand_value, register, setting, settings, takes_arguments, value}
use Rattle.dm_asm.proofs.Sizes.{few-operands}
unfoldable use Rattle.dm_asm.specs.Expanded.{lines_bytes, setting_lines}
use Rattle.dm_asm.specs.Expanded.{call_lines, making_line, register_word, setting_line}
unfoldable use Rattle.dm_asm.specs.Operands.{call_operand, call_value}
unfoldable use Rattle.dm_asm.specs.Numbers.{call_named}
use Rattle.dm_asm.specs.Calls.{argument_by, is_set, takes_values}
use Rattle.dm_asm.specs.Numbers.{register_of}
use Rattle.dm_asm.specs.declared.calls.Argument.{Argument}
use Rattle.dm_asm.specs.declared.calls.Argument.TheVariants.{Register, Value}
use Rattle.dm_asm.specs.declared.calls.CallWord.{CallWord}
use Rattle.dm_asm.specs.declared.calls.CallWord.TheVariants as call
use Rattle.dm_asm.specs.declared.refusals.Why.TheVariants.{BadRegister}
use Rattle.dm_processor.specs.declared.opcodes.Opcode.TheVariants.{Li, Mov}

-- a register of a call, by its word
register-is : (r : ℕ) → r ≤ 5 → register_of (register_word r) ≡ Some r
register-is zero few = refl
register-is (suc zero) few = refl
register-is (suc (suc zero)) few = refl
register-is (suc (suc (suc zero))) few = refl
register-is (suc (suc (suc (suc zero)))) few = refl
register-is (suc (suc (suc (suc (suc zero))))) few = refl
register-is (suc (suc (suc (suc (suc (suc r)))))) few = absurd (omega (arith, few))

-- what follows a register, and what follows a value
behind-register : {A : Type 0} (o : Option ℕ) (ws : List (List ℕ)) (r : ℕ) (f : ℕ × List (List ℕ) → Result A Why) → o ≡ Some r → ((ok_or o BadRegister >>= λ v. Ok (v, ws)) >>= f) ≡ f (r, ws)
behind-register o ws r f e = ap (λ p. (ok_or p BadRegister >>= λ v. Ok (v, ws)) >>= f) e

behind-value : {A : Type 0} (y : Result ℕ Why) (ws : List (List ℕ)) (v : ℕ) (f : ℕ × List (List ℕ) → Result A Why) → y ≡ Ok v → ((y >>= λ v. Ok (v, ws)) >>= f) ≡ f (v, ws)
behind-value y ws v f e = ap (λ p. (p >>= λ v. Ok (v, ws)) >>= f) e

li-bytes : (places : List ℕ → Option Place) (at r v : ℕ) (w : List ℕ) → r ≤ 5 → operand_value places 65535 w ≡ Ok v → instruction_bytes places at Li (register_word r ∷ w ∷ []) ≡ Ok (setting r (Value v))
unfolding fields register value
li-bytes places at r v w few e =
    ap (λ z. z >>= λ last. Ok (1 ∷ last)) (behind-register (register_of (register_word r)) (w ∷ []) r _ (register-is r few) ∙ behind-value (operand_value places 65535 w) [] v _ e)

mov-bytes : (places : List ℕ → Option Place) (at r q : ℕ) (w : List ℕ) → r ≤ 5 → register_of w ≡ Some q → instruction_bytes places at Mov (register_word r ∷ w ∷ []) ≡ Ok (setting r (Register q))
unfolding fields register
mov-bytes places at r q w few e =
    ap (λ z. z >>= λ last. Ok (3 ∷ last)) (behind-register (register_of (register_word r)) (w ∷ []) r _ (register-is r few) ∙ behind-register (register_of w) [] q _ e)

-- a value, where one may stand
valued : (places : List ℕ → Option Place) (at r : ℕ) (w : List ℕ) (b : Bool) (y : Result ℕ Why) (a : Argument) → r ≤ 5 → operand_value places 65535 w ≡ y → (if b then (y >>= λ v. Ok (Value v)) else Err BadRegister) ≡ Ok a
    → instruction_bytes places at Li (register_word r ∷ w ∷ []) ≡ Ok (setting r a)
valued places at r w true (Ok v) a few e h =
    let same : Value v ≡ a = cc in
    li-bytes places at r v w few e ∙ ap (λ x. Ok (setting r x)) same
valued places at r w true (Err why) a few e h = absurd (cc)
valued places at r w false y a few e h = absurd (cc)

copied : (places : List ℕ → Option Place) (at r q : ℕ) (w : List ℕ) (b : Bool) (a : Argument) → r ≤ 5 → register_of w ≡ Some q → (if b then Err BadRegister else Ok (Register q)) ≡ Ok a
    → instruction_bytes places at Mov (register_word r ∷ w ∷ []) ≡ Ok (setting r a)
copied places at r q w true a few e h = absurd (cc)
copied places at r q w false a few e h =
    let same : Register q ≡ a = cc in
    mov-bytes places at r q w few e ∙ ap (λ x. Ok (setting r x)) same

by-register : (places : List ℕ → Option Place) (at : ℕ) (c : CallWord) (r : ℕ) (w : List ℕ) (o : Option ℕ) (a : Argument) → r ≤ 5 → register_of w ≡ o → argument_by places c r w o ≡ Ok a
    → instruction_bytes places at (if is_some o then Mov else Li) (register_word r ∷ w ∷ []) ≡ Ok (setting r a)
by-register places at c r w None a few e h = valued places at r w (takes_values c) (operand_value places 65535 w) a few refl h
by-register places at c r w (Some q) a few e h = copied places at r q w (is_set r q) a few e h

argument-bytes : (places : List ℕ → Option Place) (at : ℕ) (c : CallWord) (r : ℕ) (w : List ℕ) (a : Argument) → r ≤ 5 → argument_of places c r w ≡ Ok a → instruction_bytes places at (setting_line r w).0 (setting_line r w).1 ≡ Ok (setting r a)
unfolding argument_of
argument-bytes places at c r w a few h = by-register places at c r w (register_of w) a few refl h

-- what stands behind some lines has these bytes, wherever it stands
abbrev Behind : (List ℕ → Option Place) → List (Opcode × List (List ℕ)) → List ℕ → Type 0
Behind places tail b = (at : ℕ) → lines_bytes places at tail ≡ Ok b

-- an operand, and those behind it
one-more : (places : List ℕ → Option Place) (at : ℕ) (c : CallWord) (r : ℕ) (w : List ℕ) (ls : List (Opcode × List (List ℕ))) (ws : List (List ℕ)) (bytes b : List ℕ) (x : Result Argument Why) (y : Result (List ℕ) Why) → r ≤ 5 → argument_of places c r w ≡ x → settings places c (r + 1) ws ≡ y
    → ((others : List ℕ) → settings places c (r + 1) ws ≡ Ok others → lines_bytes places (at + 4) ls ≡ Ok (others ++ b))
    → (x >>= λ a. (y >>= λ others. Ok (setting r a ++ others))) ≡ Ok bytes → lines_bytes places at (setting_line r w ∷ ls) ≡ Ok (bytes ++ b)
unfolding lines_bytes
one-more places at c r w ls ws bytes b (Ok a) (Ok others) few ex ey behind h =
    let same : setting r a ++ others ≡ bytes = cc in
    ap (λ z. z >>= λ first. (lines_bytes places (at + 4) ls >>= λ more. Ok (first ++ more))) (argument-bytes places at c r w a few ex)
    ∙ ap (λ z. z >>= λ more. Ok (setting r a ++ more)) (behind others ey)
    ∙ ap Ok (sym (append_assoc (setting r a) others b) ∙ ap (λ bs. bs ++ b) same)
one-more places at c r w ls ws bytes b (Ok a) (Err why) few ex ey behind h = absurd (cc)
one-more places at c r w ls ws bytes b (Err why) y few ex ey behind h = absurd (cc)

settings-bytes : (places : List ℕ → Option Place) (at : ℕ) (c : CallWord) (r : ℕ) (ws : List (List ℕ)) (bytes : List ℕ) (tail : List (Opcode × List (List ℕ))) (b : List ℕ) → r + length ws ≤ 6 → Behind places tail b → settings places c r ws ≡ Ok bytes
    → lines_bytes places at (setting_lines r ws ++ tail) ≡ Ok (bytes ++ b)
unfolding settings setting_lines
settings-bytes places at c r [] bytes tail b few t h =
    let same : [] ≡ bytes = cc in
    t at ∙ ap (λ bs. Ok (bs ++ b)) same
settings-bytes places at c r (w ∷ ws) bytes tail b few t h =
    one-more places at c r w (setting_lines (r + 1) ws ++ tail) ws bytes b (argument_of places c r w) (settings places c (r + 1) ws) (omega (arith, few)) refl refl
    (λ others e. settings-bytes places (at + 4) c (r + 1) ws others tail b (omega (arith, few)) t e)
    h

-- registers that are set to 0
cleared-bytes : (places : List ℕ → Option Place) (at r n : ℕ) (tail : List (Opcode × List (List ℕ))) (b : List ℕ) → r + n ≤ 6 → Behind places tail b → lines_bytes places at (setting_lines r (replicate n (codes "0")) ++ tail) ≡ Ok (cleared r n ++ b)
unfolding setting_lines lines_bytes cleared operand_value literal_value
cleared-bytes places at r zero tail b few t = t at
cleared-bytes places at r (suc n) tail b few t =
    ap (λ z. z >>= λ first. (lines_bytes places (at + 4) (setting_lines (r + 1) (replicate n (codes "0")) ++ tail) >>= λ more. Ok (first ++ more))) (li-bytes places at r 0 (codes "0") (omega (arith, few)) refl)
    ∙ ap (λ z. z >>= λ more. Ok (setting r (Value 0) ++ more)) (cleared-bytes places (at + 4) (r + 1) n tail b (omega (arith, few)) t)
    ∙ ap Ok (sym (append_assoc (setting r (Value 0)) (cleared (r + 1) n) b))

-- the call itself
making-bytes : (places : List ℕ → Option Place) (at : ℕ) (c : CallWord) → lines_bytes places at (making_line c ∷ []) ≡ Ok (making c)
unfolding lines_bytes fields call_operand call_value call_named literal_value
making-bytes places at call.Exit = refl
making-bytes places at call.Out = refl
making-bytes places at call.Make = refl
making-bytes places at call.Copy = refl
making-bytes places at call.Drop = refl
making-bytes places at call.Send = refl
making-bytes places at call.Receive = refl
making-bytes places at call.Move = refl

-- no call has more than five registers
most-registers : (c : CallWord) → call_registers c ≤ 5
most-registers call.Exit = omega arith
most-registers call.Out = omega arith
most-registers call.Make = omega arith
most-registers call.Copy = omega arith
most-registers call.Drop = omega arith
most-registers call.Send = omega arith
most-registers call.Receive = omega arith
most-registers call.Move = omega arith

set-bytes : (places : List ℕ → Option Place) (at : ℕ) (c : CallWord) (ws : List (List ℕ)) (bytes : List ℕ) (y : Result (List ℕ) Why) → length ws ≤ call_registers c → settings places c 1 ws ≡ y → (y >>= λ set. Ok (set ++ call_rest c (length ws))) ≡ Ok bytes
    → lines_bytes places at (call_lines c ws) ≡ Ok bytes
set-bytes places at c ws bytes (Ok set) few e h =
    let most = most-registers c in
    settings-bytes places at c 1 ws set (setting_lines (1 + length ws) (replicate (call_registers c - length ws) (codes "0")) ++ making_line c ∷ []) (call_rest c (length ws)) (omega (arith, few, most))
    (λ n. cleared-bytes places n (1 + length ws) (call_registers c - length ws) (making_line c ∷ []) (making c) (omega (arith, few, most)) (λ m. making-bytes places m c))
    e
    ∙ h
set-bytes places at c ws bytes (Err why) few e h = absurd (cc)

pub expanded_so : (places : List ℕ → Option Place) (at : ℕ) (c : CallWord) (ws : List (List ℕ)) (bytes : List ℕ) → takes_arguments c (length ws) ≡ true → call_bytes places c ws ≡ Ok bytes → lines_bytes places at (call_lines c ws) ≡ Ok bytes
unfolding call_bytes
expanded_so places at c ws bytes taken h = set-bytes places at c ws bytes (settings places c 1 ws) (few-operands c (length ws) taken) refl h
