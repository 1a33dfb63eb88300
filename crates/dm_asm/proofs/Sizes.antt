-- A line makes as many bytes as it counts.
use Rattle.dm_asm.proofs.Names.{ℕ, suc, Bool, true, false, nat_le, ◌≡◌, refl, ap, List, [], ◌∷◌, length, replicate, arith, Option, Some, None, Result, Ok, Err, if◌then◌else◌, nat_tests, length-replicate, Opcode, Form, Instruction, Word}
use Rattle.dm_asm.proofs.Names.{zero, ◌+◌, ◌-◌, ◌*◌, ◌≤◌, ◌++◌, ◌∙◌, length-append, Calling, Equ, argument_of, call_bytes, call_registers, call_size, cleared, is_misplaced, making, name_operand, setting, settings, takes_arguments}
use Rattle.dm_asm.specs.declared.calls.Argument.{Argument}
use Rattle.dm_asm.specs.declared.calls.Argument.TheVariants.{Register, Value}
use Rattle.dm_asm.specs.declared.calls.CallWord.{CallWord}
use Rattle.dm_asm.specs.declared.calls.CallWord.TheVariants as call
use Rattle.dm_asm.proofs.Names.{Align, Ascii, BadNumber, is_multiple, multiple, padding, text_in, text_operand, wanted_multiple}
use Rattle.dm_asm.proofs.Names.{Byte, Zero, Shape, RegisterValue, TwoRegisters, ThreeRegisters, Access, Jump, Branch, Call, Place, Why, OperandCount, OutOfRange, form_of, shape_of, source_words, without_comment, literal_value, fields}
use Rattle.dm_asm.proofs.Names.{call_operand, number_operand, register, target, value, wanted_number, behind_label, form_size, label_of_words, line_size, statement_size, ◌>>=◌, form_bytes, instruction_bytes, is_twice, line_bytes, listed_bytes}
use Rattle.dm_asm.proofs.Names.{statement_bytes, takes_operands, ok_or, option_map, unwrap_or, UnknownWord, LabelTwice}

-- so many bytes, if any
abbrev pub HasLength : ℕ → Result (List ℕ) Why → Type 0
HasLength n (Ok bytes) = length bytes ≡ n
HasLength n (Err why) = Unit {0}

-- bytes that are made of a value
of-value : {A : Type 0} (n : ℕ) (r : Result A Why) (f : A → Result (List ℕ) Why) → ((x : A) → HasLength n (f x)) → HasLength n (r >>= f)
of-value n (Ok x) f h = h x
of-value n (Err why) f h = tt

-- bytes that are made of bytes
of-bytes : (m n : ℕ) (r : Result (List ℕ) Why) (f : List ℕ → Result (List ℕ) Why) → HasLength m r → ((bs : List ℕ) → length bs ≡ m → HasLength n (f bs)) → HasLength n (r >>= f)
of-bytes m n (Ok bs) f e h = h bs e
of-bytes m n (Err why) f e h = tt

-- bytes where a test holds
where_true : (n : ℕ) (b : Bool) (why : Why) (r : Result (List ℕ) Why) → (b ≡ true → HasLength n r) → HasLength n (if b then r else Err why)
where_true n true why r h = h refl
where_true n false why r h = tt

where_false : (n : ℕ) (b : Bool) (why : Why) (r : Result (List ℕ) Why) → HasLength n r → HasLength n (if b then Err why else r)
where_false n true why r h = tt
where_false n false why r h = h

three-fields : (places : List ℕ → Option Place) (at : ℕ) (shape : Shape) (ws : List (List ℕ)) → HasLength 3 (fields places at shape ws)
unfolding fields
three-fields places at RegisterValue ws = of-value 3 (register ws) _ (λ a. of-value 3 (value places 65535 a.1) _ (λ v. refl))
three-fields places at TwoRegisters ws = of-value 3 (register ws) _ (λ a. of-value 3 (register a.1) _ (λ b. refl))
three-fields places at ThreeRegisters ws = of-value 3 (register ws) _ (λ a. of-value 3 (register a.1) _ (λ b. of-value 3 (register b.1) _ (λ c. refl)))
three-fields places at Access ws = of-value 3 (register ws) _ (λ a. of-value 3 (register a.1) _ (λ b. of-value 3 (number_operand 255 b.1) _ (λ c. refl)))
three-fields places at Jump ws = of-value 3 (value places 65535 ws) _ (λ v. refl)
three-fields places at Branch ws = of-value 3 (register ws) _ (λ a. of-value 3 (register a.1) _ (λ b. of-value 3 (target places at b.1) _ (λ d. refl)))
three-fields places at Call ws = of-value 3 (call_operand ws) _ (λ n. refl)

four-bytes : (places : List ℕ → Option Place) (at : ℕ) (op : Opcode) (ws : List (List ℕ)) → HasLength 4 (instruction_bytes places at op ws)
four-bytes places at op ws = of-bytes 3 4 (fields places at (shape_of op) ws) _ (three-fields places at (shape_of op) ws) (λ bs e. ap suc e)

as-listed : (ws : List (List ℕ)) → HasLength (length ws) (listed_bytes ws)
unfolding listed_bytes
as-listed [] = refl
as-listed (w ∷ ws) = of-value (length (w ∷ ws)) (wanted_number 255 (literal_value w)) _ (λ first. of-bytes (length ws) (length (w ∷ ws)) (listed_bytes ws) _ (as-listed ws) (λ others e. ap suc e))

-- an instruction before others has four bytes
pub setting-behind : (r : ℕ) (a : Argument) (bs : List ℕ) → length (setting r a ++ bs) ≡ 4 + length bs
setting-behind r (Register q) bs = omega arith
setting-behind r (Value v) bs = omega arith

as-set : (places : List ℕ → Option Place) (c : CallWord) (r : ℕ) (ws : List (List ℕ)) → HasLength (4 * length ws) (settings places c r ws)
unfolding settings
as-set places c r [] = refl
as-set places c r (w ∷ ws) =
    of-value (4 * length (w ∷ ws)) (argument_of places c r w) _ (λ a. of-bytes (4 * length ws) (4 * length (w ∷ ws)) (settings places c (r + 1) ws) _ (as-set places c (r + 1) ws) (λ others e. setting-behind r a others ∙ omega (arith, e)))

as-cleared : (r n : ℕ) → length (cleared r n) ≡ 4 * n
unfolding cleared
as-cleared r zero = refl
as-cleared r (suc n) = let e = as-cleared (r + 1) n in setting-behind r (Value 0) (cleared (r + 1) n) ∙ omega (arith, e)

-- a call has a register for each of its operands
pub few-operands : (c : CallWord) (n : ℕ) → takes_arguments c n ≡ true → n ≤ call_registers c
few-operands call.Exit n h = grind (arith, nat_tests)
few-operands call.Out n h = grind (arith, nat_tests)
few-operands call.Make n h = grind (arith, nat_tests)
few-operands call.Copy n h = grind (arith, nat_tests)
few-operands call.Drop n h = grind (arith, nat_tests)
few-operands call.Send n h = grind (arith, nat_tests)
few-operands call.Receive n h = grind (arith, nat_tests)
few-operands call.Move n h = grind (arith, nat_tests)

-- what stands behind the instructions for the operands
pub rest-length : (c : CallWord) (n : ℕ) → length (cleared (1 + n) (call_registers c - n) ++ making c) ≡ 4 * (call_registers c - n) + 4
rest-length c n = length-append (cleared (1 + n) (call_registers c - n)) (making c) ∙ ap (λ k. k + 4) (as-cleared (1 + n) (call_registers c - n))

call-length : (places : List ℕ → Option Place) (c : CallWord) (ws : List (List ℕ)) → takes_arguments c (length ws) ≡ true → HasLength (call_size c) (call_bytes places c ws)
unfolding call_bytes
call-length places c ws h =
    let few = few-operands c (length ws) h in
    of-bytes (4 * length ws) (call_size c) (settings places c 1 ws) _ (as-set places c 1 ws) (λ bs e. let behind = rest-length c (length ws) in length-append bs _ ∙ omega (arith, e, few, behind))

-- zeros, by the test of their number
zeros-by : (b : Bool) (n : ℕ) → HasLength (if b then n else 0) (((if b then Ok n else Err OutOfRange) >>= λ v. Ok (v, [])) >>= λ (m : ℕ × List (List ℕ)). Ok (replicate m.0 0))
zeros-by true n = length-replicate n 0
zeros-by false n = tt

zeros-of : (o : Option ℕ) → HasLength (unwrap_or (option_map (λ n. if nat_le n 65536 then n else 0) o) 0) ((wanted_number 65536 o >>= λ v. Ok (v, [])) >>= λ (m : ℕ × List (List ℕ)). Ok (replicate m.0 0))
zeros-of None = tt
zeros-of (Some n) = zeros-by (nat_le n 65536) n

-- zeros up to a multiple, by the test of its number
padding-by : (b : Bool) (at n : ℕ) → HasLength (if b then padding at n else 0) (((if b then Ok n else Err OutOfRange) >>= λ v. Ok (v, [])) >>= λ (m : ℕ × List (List ℕ)). Ok (replicate (padding at m.0) 0))
padding-by true at n = length-replicate (padding at n) 0
padding-by false at n = tt

padding-of : (at : ℕ) (o : Option ℕ) → HasLength (unwrap_or (option_map (λ n. if is_multiple n then padding at n else 0) o) 0) ((wanted_multiple o >>= λ v. Ok (v, [])) >>= λ (m : ℕ × List (List ℕ)). Ok (replicate (padding at m.0) 0))
padding-of at None = tt
padding-of at (Some n) = padding-by (is_multiple n) at n

-- a text
text-length : (o : Option (List ℕ)) → HasLength (length (unwrap_or o [])) (ok_or o BadNumber)
text-length None = tt
text-length (Some bytes) = refl

form-length : (places : List ℕ → Option Place) (at : ℕ) (text : Option (List ℕ)) (form : Form) (ws : List (List ℕ)) → takes_operands form (length ws) ≡ true → HasLength (form_size at text (Some form) ws) (form_bytes places at text form ws)
unfolding number_operand multiple
form-length places at text (Instruction op) ws h = four-bytes places at op ws
form-length places at text (Calling c) ws h = call-length places c ws h
form-length places at text Word ws h = of-value 4 (value places 4294967295 ws) _ (λ w. refl)
form-length places at text Byte ws h = as-listed ws
form-length places at text Zero [] h = tt
form-length places at text Zero (w ∷ []) h = zeros-of (literal_value w)
form-length places at text Zero (w ∷ v ∷ ws) h = absurd (grind (arith, nat_tests))
form-length places at text Align [] h = tt
form-length places at text Align (w ∷ []) h = padding-of at (literal_value w)
form-length places at text Align (w ∷ v ∷ ws) h = absurd (grind (arith, nat_tests))
form-length places at text Ascii ws h = text-length (text_operand text ws)
form-length places at text Equ ws h = of-value 0 (name_operand ws) _ (λ name. of-value 0 (number_operand 4294967295 name.1) _ (λ n. refl))

named-length : (places : List ℕ → Option Place) (at : ℕ) (twice : Bool) (text : Option (List ℕ)) (o : Option Form) (ws : List (List ℕ))
    → HasLength (form_size at text o ws) (ok_or o UnknownWord >>= λ form. if twice then Err LabelTwice else (if takes_operands form (length ws) then form_bytes places at text form ws else Err OperandCount))
named-length places at twice text None ws = tt
named-length places at twice text (Some form) ws =
    where_false (form_size at text (Some form) ws) twice _ _ (where_true (form_size at text (Some form) ws) (takes_operands form (length ws)) OperandCount _ (form-length places at text form ws))

statement-length : (places : List ℕ → Option Place) (at : ℕ) (twice : Bool) (text : Option (List ℕ)) (ws : List (List ℕ)) → HasLength (statement_size at text ws) (statement_bytes places at twice text ws)
unfolding statement_bytes
statement-length places at twice text [] = where_false 0 twice _ _ refl
statement-length places at twice text (w ∷ ws) = named-length places at twice text (form_of w) ws

-- a line makes as many bytes as it counts
pub line-length : (places : List ℕ → Option Place) (number at : ℕ) (line : List ℕ) → HasLength (line_size at line) (line_bytes places number at line)
unfolding line_bytes line_size
line-length places number at line =
    let ws = source_words (without_comment line) in
    where_false (line_size at line) (is_misplaced ws) UnknownWord _ (statement-length places at (is_twice places number (label_of_words ws)) (text_in (without_comment line)) (behind_label ws))
