-- A text gives no image exactly where a line of it is refused.
use Rattle.dm_explain.proofs.Names.{◌≡◌, ℕ, ◌+◌, ◌<◌, ◌==◌, suc, Bool, true, false, if◌then◌else◌, List, [], ◌∷◌, ◌++◌, length, refl, ap, sym, subst, ◌∙◌, arith, Place, Why, or_why, operand_why, operands_why, source_lines}
use Rattle.std.proofs.lemmas.List.{length-append, length-replicate}
use Rattle.std.specs.Prelude.{◌*◌, ◌&&◌, nat_le, nat_lt, Option, None, Some, Result, Ok, Err, ok_or, option_map, replicate, unwrap_or}
use Rattle.std.specs.Result.{result_err}
use Rattle.dm_processor.proofs.Names.{nat_tests}
use Rattle.dm_processor.specs.Opcodes.{opcode_number}
use Rattle.dm_processor.specs.declared.opcodes.Opcode.{Opcode}
use Rattle.dm_reading.specs.Words.{source_words}
use Rattle.dm_asm.proofs.Sizes.{few-operands, rest-length, setting-behind}
unfoldable use Rattle.dm_asm.specs.Calls.{argument_of, call_bytes, settings}
use Rattle.dm_asm.specs.Calls.{call_registers, call_rest, call_size, setting, takes_arguments}
use Rattle.dm_asm.specs.declared.calls.Argument.{Argument}
use Rattle.dm_asm.specs.declared.calls.CallWord.{CallWord}
use Rattle.dm_asm.specs.declared.forms.Form.{Form}
use Rattle.dm_asm.specs.declared.forms.Form.TheVariants.{Instruction, Calling, Word, Byte, Zero, Align, Ascii, Equ}
use Rattle.dm_asm.specs.declared.forms.Shape.{Shape}
use Rattle.dm_asm.specs.declared.forms.Shape.TheVariants.{RegisterValue, TwoRegisters, ThreeRegisters, Access, Jump, Branch, Call}
use Rattle.dm_asm.specs.declared.refusals.Why.TheVariants.{UnknownWord, BadRegister, BadNumber, OutOfRange, LabelTwice, OperandCount, TooLong}
unfoldable use Rattle.dm_asm.specs.Assembled.{assembled, places_of, with_line}
use Rattle.dm_asm.specs.Assembled.{from_line, with_lines}
unfoldable use Rattle.dm_asm.specs.Forms.{form_of}
use Rattle.dm_asm.specs.Forms.{operand_count, shape_of}
use Rattle.dm_asm.specs.Lines.{without_comment}
unfoldable use Rattle.dm_asm.specs.Numbers.{literal_value}
use Rattle.dm_asm.specs.Numbers.{is_multiple, register_of}
unfoldable use Rattle.dm_asm.specs.Operands.{call_operand, call_value, distance_of, fields, multiple, name_operand, number_operand, operand_value, register, target, value}
use Rattle.dm_asm.specs.Operands.{wanted_multiple, wanted_name, wanted_number}
unfoldable use Rattle.dm_asm.specs.Places.{line_size, padding}
use Rattle.dm_asm.specs.Places.{behind_label, form_size, is_misplaced, label_of_words, statement_size}
use Rattle.dm_asm.specs.Refusals.{◌>>=◌}
unfoldable use Rattle.dm_asm.specs.Statements.{line_bytes, listed_bytes, statement_bytes}
use Rattle.dm_asm.specs.Statements.{form_bytes, instruction_bytes, is_twice, takes_operands}
unfoldable use Rattle.dm_asm.specs.Texts.{text_in}
use Rattle.dm_asm.specs.Texts.{text_operand}
use Rattle.dm_explain.specs.declared.source.Last.TheVariants as last
unfoldable use Rattle.dm_explain.specs.BadSources.{takes_named}
use Rattle.dm_explain.specs.BadSources.{shape_takes, takes, takes_of}
unfoldable use Rattle.dm_explain.specs.TextFaults.{line_why, statement_why}
use Rattle.dm_explain.specs.TextFaults.{given_why, is_due, is_text, long_why, named_why, text_why, words_why}
use Rattle.dm_explain.specs.FirstRefused.{first_refused, refusal_of, refused_or}

-- so many bytes where there is no reason, and else the reason
abbrev IsOf : ℕ → Option Why → Result (List ℕ) Why → Type 0
IsOf size o (Ok bytes) = (o ≡ None) × (length bytes ≡ size)
IsOf size o (Err why) = o ≡ Some why

-- an operand, and what is made of it
of-operand : (size : ℕ) (o : Option Why) (r : Result ℕ Why) (ws : List (List ℕ)) (f : ℕ × List (List ℕ) → Result (List ℕ) Why) → ((v : ℕ) → IsOf size o (f (v, ws))) → IsOf size (or_why (result_err r) o) ((r >>= λ v. Ok (v, ws)) >>= f)
of-operand size o (Ok v) ws f h = h v
of-operand size o (Err why) ws f h = refl

-- bytes that are made of bytes
of-bytes : (size more : ℕ) (o : Option Why) (r : Result (List ℕ) Why) (f : List ℕ → List ℕ) → IsOf size o r → ((bs : List ℕ) → length bs ≡ size → length (f bs) ≡ more) → IsOf more o (r >>= λ bs. Ok (f bs))
of-bytes size more o (Ok bs) f h k = (h.0, k bs h.1)
of-bytes size more o (Err why) f h k = h

-- the operands of an instruction
fields-of : (places : List ℕ → Option Place) (at : ℕ) (s : Shape) (ws : List (List ℕ)) → (length ws == operand_count s) ≡ true → IsOf 3 (operands_why places at (shape_takes s) 1 ws) (fields places at s ws)
unfolding fields register value number_operand target call_operand operands_why operand_why
fields-of places at RegisterValue [] h = absurd (cc)
fields-of places at RegisterValue (a ∷ []) h = absurd (cc)
fields-of places at RegisterValue (a ∷ v ∷ []) h =
    of-operand 3 _ (ok_or (register_of a) BadRegister) (v ∷ []) _ (λ n. of-operand 3 None (operand_value places 65535 v) [] _ (λ m. (refl, refl)))
fields-of places at RegisterValue (a ∷ v ∷ x ∷ ws) h = absurd (grind (arith, nat_tests))
fields-of places at TwoRegisters [] h = absurd (cc)
fields-of places at TwoRegisters (a ∷ []) h = absurd (cc)
fields-of places at TwoRegisters (a ∷ b ∷ []) h =
    of-operand 3 _ (ok_or (register_of a) BadRegister) (b ∷ []) _ (λ n. of-operand 3 None (ok_or (register_of b) BadRegister) [] _ (λ m. (refl, refl)))
fields-of places at TwoRegisters (a ∷ b ∷ x ∷ ws) h = absurd (grind (arith, nat_tests))
fields-of places at ThreeRegisters [] h = absurd (cc)
fields-of places at ThreeRegisters (a ∷ []) h = absurd (cc)
fields-of places at ThreeRegisters (a ∷ b ∷ []) h = absurd (cc)
fields-of places at ThreeRegisters (a ∷ b ∷ d ∷ []) h =
    of-operand 3 _ (ok_or (register_of a) BadRegister) (b ∷ d ∷ []) _ (λ n. of-operand 3 _ (ok_or (register_of b) BadRegister) (d ∷ []) _ (λ m. of-operand 3 None (ok_or (register_of d) BadRegister) [] _ (λ k. (refl, refl))))
fields-of places at ThreeRegisters (a ∷ b ∷ d ∷ x ∷ ws) h = absurd (grind (arith, nat_tests))
fields-of places at Access [] h = absurd (cc)
fields-of places at Access (a ∷ []) h = absurd (cc)
fields-of places at Access (a ∷ b ∷ []) h = absurd (cc)
fields-of places at Access (a ∷ b ∷ d ∷ []) h =
    of-operand 3 _ (ok_or (register_of a) BadRegister) (b ∷ d ∷ []) _ (λ n. of-operand 3 _ (ok_or (register_of b) BadRegister) (d ∷ []) _ (λ m. of-operand 3 None (wanted_number 255 (literal_value d)) [] _ (λ k. (refl, refl))))
fields-of places at Access (a ∷ b ∷ d ∷ x ∷ ws) h = absurd (grind (arith, nat_tests))
fields-of places at Jump [] h = absurd (cc)
fields-of places at Jump (v ∷ []) h = of-operand 3 None (operand_value places 65535 v) [] _ (λ m. (refl, refl))
fields-of places at Jump (v ∷ x ∷ ws) h = absurd (grind (arith, nat_tests))
fields-of places at Branch [] h = absurd (cc)
fields-of places at Branch (a ∷ []) h = absurd (cc)
fields-of places at Branch (a ∷ b ∷ []) h = absurd (cc)
fields-of places at Branch (a ∷ b ∷ d ∷ []) h =
    of-operand 3 _ (ok_or (register_of a) BadRegister) (b ∷ d ∷ []) _ (λ n. of-operand 3 _ (ok_or (register_of b) BadRegister) (d ∷ []) _ (λ m. of-operand 3 None (distance_of places at d) [] _ (λ k. (refl, refl))))
fields-of places at Branch (a ∷ b ∷ d ∷ x ∷ ws) h = absurd (grind (arith, nat_tests))
fields-of places at Call [] h = absurd (cc)
fields-of places at Call (n ∷ []) h = of-operand 3 None (call_value n) [] _ (λ m. (refl, refl))
fields-of places at Call (n ∷ x ∷ ws) h = absurd (grind (arith, nat_tests))

-- no instruction has a text
no-text : (s : Shape) → is_text (shape_takes s).last ≡ false
no-text RegisterValue = refl
no-text TwoRegisters = refl
no-text ThreeRegisters = refl
no-text Access = refl
no-text Jump = refl
no-text Branch = refl
no-text Call = refl

instruction-of : (places : List ℕ → Option Place) (at : ℕ) (text : Option (List ℕ)) (op : Opcode) (ws : List (List ℕ)) → (length ws == operand_count (shape_of op)) ≡ true
    → IsOf 4 (given_why places at text (shape_takes (shape_of op)) ws) (instruction_bytes places at op ws)
instruction-of places at text op ws h =
    subst (λ (b : Bool). IsOf 4 (if b then text_why text ws else operands_why places at (shape_takes (shape_of op)) 1 ws) (instruction_bytes places at op ws)) (sym (no-text (shape_of op)))
    (of-bytes 3 4 (operands_why places at (shape_takes (shape_of op)) 1 ws) (fields places at (shape_of op) ws) (λ bs. opcode_number op ∷ bs) (fields-of places at (shape_of op) ws h) (λ bs e. ap suc e))

-- a listed byte is no register
byte-why : (places : List ℕ → Option Place) (at i : ℕ) (w : List ℕ) → 0 < i → operand_why places at (takes 0 last.Bytes) i w ≡ result_err (wanted_number 255 (literal_value w))
unfolding operand_why
byte-why places at i w some =
    let behind : nat_le i 0 ≡ false = grind (arith, nat_tests) in
    ap (λ (b : Bool). if b then result_err (ok_or (register_of w) BadRegister) else result_err (wanted_number 255 (literal_value w))) behind

-- a listed byte, and the others
listed-by : (n : ℕ) (o : Option Why) (r : Result ℕ Why) (others : Result (List ℕ) Why) → IsOf n o others → IsOf (suc n) (or_why (result_err r) o) (r >>= λ first. (others >>= λ bs. Ok (first ∷ bs)))
listed-by n o (Ok first) others h = of-bytes n (suc n) o others (λ bs. first ∷ bs) h (λ bs e. ap suc e)
listed-by n o (Err why) others h = refl

listed-of : (places : List ℕ → Option Place) (at i : ℕ) (ws : List (List ℕ)) → 0 < i → IsOf (length ws) (operands_why places at (takes 0 last.Bytes) i ws) (listed_bytes ws)
unfolding operands_why listed_bytes
listed-of places at i [] some = (refl, refl)
listed-of places at i (w ∷ ws) some =
    subst (λ (o : Option Why). IsOf (suc (length ws)) (or_why o (operands_why places at (takes 0 last.Bytes) (i + 1) ws)) (wanted_number 255 (literal_value w) >>= λ first. (listed_bytes ws >>= λ bs. Ok (first ∷ bs))))
    (sym (byte-why places at i w some))
    (listed-by (length ws) (operands_why places at (takes 0 last.Bytes) (i + 1) ws) (wanted_number 255 (literal_value w)) (listed_bytes ws) (listed-of places at (i + 1) ws (omega (arith, some))))

-- an operand of a call is no register behind which it stands
argument-why : (places : List ℕ → Option Place) (at : ℕ) (c : CallWord) (i : ℕ) (w : List ℕ) → 0 < i → operand_why places at (takes 0 (last.Arguments c)) i w ≡ result_err (argument_of places c i w)
unfolding operand_why
argument-why places at c i w some =
    let behind : nat_le i 0 ≡ false = grind (arith, nat_tests) in
    ap (λ (b : Bool). if b then result_err (ok_or (register_of w) BadRegister) else result_err (argument_of places c i w)) behind

-- the instruction for an operand, and the others
setting-by : (n i : ℕ) (o : Option Why) (r : Result Argument Why) (others : Result (List ℕ) Why) → IsOf n o others → IsOf (4 + n) (or_why (result_err r) o) (r >>= λ a. (others >>= λ bs. Ok (setting i a ++ bs)))
setting-by n i o (Ok a) others h = of-bytes n (4 + n) o others (λ bs. setting i a ++ bs) h (λ bs e. setting-behind i a bs ∙ ap (λ k. 4 + k) e)
setting-by n i o (Err why) others h = refl

settings-of : (places : List ℕ → Option Place) (at : ℕ) (c : CallWord) (i : ℕ) (ws : List (List ℕ)) → 0 < i → IsOf (4 * length ws) (operands_why places at (takes 0 (last.Arguments c)) i ws) (settings places c i ws)
unfolding operands_why settings
settings-of places at c i [] some = (refl, refl)
settings-of places at c i (w ∷ ws) some =
    let size : 4 + 4 * length ws ≡ 4 * length (w ∷ ws) = omega arith in
    subst (λ n. IsOf n (or_why (operand_why places at (takes 0 (last.Arguments c)) i w) (operands_why places at (takes 0 (last.Arguments c)) (i + 1) ws)) (argument_of places c i w >>= λ a. (settings places c (i + 1) ws >>= λ bs. Ok (setting i a ++ bs)))) size
    (subst (λ (o : Option Why). IsOf (4 + 4 * length ws) (or_why o (operands_why places at (takes 0 (last.Arguments c)) (i + 1) ws)) (argument_of places c i w >>= λ a. (settings places c (i + 1) ws >>= λ bs. Ok (setting i a ++ bs))))
    (sym (argument-why places at c i w some))
    (setting-by (4 * length ws) i (operands_why places at (takes 0 (last.Arguments c)) (i + 1) ws) (argument_of places c i w) (settings places c (i + 1) ws) (settings-of places at c (i + 1) ws (omega (arith, some)))))

-- a call with as many operands as it takes
call-of : (places : List ℕ → Option Place) (at : ℕ) (c : CallWord) (ws : List (List ℕ)) → takes_arguments c (length ws) ≡ true → IsOf (call_size c) (operands_why places at (takes 0 (last.Arguments c)) 1 ws) (call_bytes places c ws)
unfolding call_bytes
call-of places at c ws h =
    let few = few-operands c (length ws) h in
    of-bytes (4 * length ws) (call_size c) (operands_why places at (takes 0 (last.Arguments c)) 1 ws) (settings places c 1 ws) (λ bs. bs ++ call_rest c (length ws)) (settings-of places at c 1 ws (omega arith))
    (λ bs e. let behind = rest-length c (length ws) in length-append bs (call_rest c (length ws)) ∙ omega (arith, e, few, behind))

-- zeros, by the test of their number
zeros-by : (b : Bool) (n : ℕ) → IsOf (if b then n else 0) (or_why (result_err (if b then Ok n else Err OutOfRange)) None) (((if b then Ok n else Err OutOfRange) >>= λ v. Ok (v, [])) >>= λ (m : ℕ × List (List ℕ)). Ok (replicate m.0 0))
zeros-by true n = (refl, length-replicate n 0)
zeros-by false n = refl

zeros-of : (o : Option ℕ)
    → IsOf (unwrap_or (option_map (λ n. if nat_le n 65536 then n else 0) o) 0) (or_why (result_err (wanted_number 65536 o)) None) ((wanted_number 65536 o >>= λ v. Ok (v, [])) >>= λ (m : ℕ × List (List ℕ)). Ok (replicate m.0 0))
zeros-of None = refl
zeros-of (Some n) = zeros-by (nat_le n 65536) n

-- zeros up to a multiple, by the test of its number
padding-by : (b : Bool) (at n : ℕ)
    → IsOf (if b then padding at n else 0) (or_why (result_err (if b then Ok n else Err OutOfRange)) None) (((if b then Ok n else Err OutOfRange) >>= λ v. Ok (v, [])) >>= λ (m : ℕ × List (List ℕ)). Ok (replicate (padding at m.0) 0))
padding-by true at n = (refl, length-replicate (padding at n) 0)
padding-by false at n = refl

padding-of : (at : ℕ) (o : Option ℕ)
    → IsOf (unwrap_or (option_map (λ n. if is_multiple n then padding at n else 0) o) 0) (or_why (result_err (wanted_multiple o)) None) ((wanted_multiple o >>= λ v. Ok (v, [])) >>= λ (m : ℕ × List (List ℕ)). Ok (replicate (padding at m.0) 0))
padding-of at None = refl
padding-of at (Some n) = padding-by (is_multiple n) at n

-- a text
text-of : (o : Option (List ℕ)) → IsOf (length (unwrap_or o [])) (result_err (ok_or o BadNumber)) (ok_or o BadNumber)
text-of None = refl
text-of (Some bytes) = (refl, refl)

-- an instruction or directive with as many operands as it takes
form-of : (places : List ℕ → Option Place) (at : ℕ) (text : Option (List ℕ)) (form : Form) (ws : List (List ℕ)) → takes_operands form (length ws) ≡ true
    → IsOf (form_size at text (Some form) ws) (given_why places at text (takes_of form) ws) (form_bytes places at text form ws)
unfolding value name_operand number_operand multiple operands_why operand_why
form-of places at text (Instruction op) ws h = instruction-of places at text op ws h
form-of places at text (Calling c) ws h = call-of places at c ws h
form-of places at text Word [] h = absurd (cc)
form-of places at text Word (w ∷ []) h = of-operand 4 None (operand_value places 4294967295 w) [] _ (λ n. (refl, refl))
form-of places at text Word (w ∷ x ∷ ws) h = absurd (grind (arith, nat_tests))
form-of places at text Byte ws h = listed-of places at 1 ws (omega arith)
form-of places at text Zero [] h = absurd (cc)
form-of places at text Zero (w ∷ []) h = zeros-of (literal_value w)
form-of places at text Zero (w ∷ x ∷ ws) h = absurd (grind (arith, nat_tests))
form-of places at text Align [] h = absurd (cc)
form-of places at text Align (w ∷ []) h = padding-of at (literal_value w)
form-of places at text Align (w ∷ x ∷ ws) h = absurd (grind (arith, nat_tests))
form-of places at text Ascii ws h = text-of (text_operand text ws)
form-of places at text Equ [] h = absurd (cc)
form-of places at text Equ (a ∷ []) h = absurd (cc)
form-of places at text Equ (a ∷ b ∷ []) h = of-operand 0 _ (wanted_name a) (b ∷ []) _ (λ n. of-operand 0 None (wanted_number 4294967295 (literal_value b)) [] _ (λ m. (refl, refl)))
form-of places at text Equ (a ∷ b ∷ x ∷ ws) h = absurd (grind (arith, nat_tests))

-- as many operands are due as it takes
shape-due : (s : Shape) (n : ℕ) → is_due (shape_takes s).registers (shape_takes s).last n ≡ (n == operand_count s)
shape-due RegisterValue n = refl
shape-due TwoRegisters n = refl
shape-due ThreeRegisters n = refl
shape-due Access n = refl
shape-due Jump n = refl
shape-due Branch n = refl
shape-due Call n = refl

due-as-taken : (form : Form) (n : ℕ) → is_due (takes_of form).registers (takes_of form).last n ≡ takes_operands form n
due-as-taken (Instruction op) n = shape-due (shape_of op) n
due-as-taken (Calling c) n = refl
due-as-taken Word n = refl
due-as-taken Byte n = refl
due-as-taken Zero n = refl
due-as-taken Align n = refl
due-as-taken Ascii n = refl
due-as-taken Equ n = refl

-- by the test of how many operands there are
taken-by : (places : List ℕ → Option Place) (at : ℕ) (text : Option (List ℕ)) (form : Form) (ws : List (List ℕ)) (b : Bool) → takes_operands form (length ws) ≡ b
    → IsOf (form_size at text (Some form) ws) (if b then given_why places at text (takes_of form) ws else Some OperandCount) (if b then form_bytes places at text form ws else Err OperandCount)
taken-by places at text form ws true h = form-of places at text form ws h
taken-by places at text form ws false h = refl

-- by the word, and by the label's being defined before
named-of : (places : List ℕ → Option Place) (at : ℕ) (twice : Bool) (text : Option (List ℕ)) (o : Option Form) (ws : List (List ℕ))
    → IsOf (form_size at text o ws) (named_why places at twice text (option_map takes_of o) ws)
    (ok_or o UnknownWord >>= λ form. if twice then Err LabelTwice else (if takes_operands form (length ws) then form_bytes places at text form ws else Err OperandCount))
named-of places at twice text None ws = refl
named-of places at true text (Some form) ws = refl
named-of places at false text (Some form) ws =
    subst (λ (b : Bool). IsOf (form_size at text (Some form) ws) (if b then given_why places at text (takes_of form) ws else Some OperandCount)
    (if takes_operands form (length ws) then form_bytes places at text form ws else Err OperandCount))
    (sym (due-as-taken form (length ws)))
    (taken-by places at text form ws (takes_operands form (length ws)) refl)

nothing-of : (twice : Bool) → IsOf 0 (if twice then Some LabelTwice else None) (if twice then Err LabelTwice else Ok [])
nothing-of true = refl
nothing-of false = (refl, refl)

statement-of : (places : List ℕ → Option Place) (at : ℕ) (twice : Bool) (text : Option (List ℕ)) (ws : List (List ℕ)) → IsOf (statement_size at text ws) (statement_why places at twice text ws) (statement_bytes places at twice text ws)
unfolding statement_why statement_bytes takes_named
statement-of places at twice text [] = nothing-of twice
statement-of places at twice text (w ∷ ws) = named-of places at twice text (form_of w) ws

-- where .equ stands behind a label
misplaced-by : (size : ℕ) (b : Bool) (o : Option Why) (r : Result (List ℕ) Why) → IsOf size o r → IsOf size (if b then Some UnknownWord else o) (if b then Err UnknownWord else r)
misplaced-by size true o r h = refl
misplaced-by size false o r h = h

line-of : (places : List ℕ → Option Place) (number at : ℕ) (line : List ℕ) → IsOf (line_size at line) (words_why places number at (text_in (without_comment line)) (source_words (without_comment line))) (line_bytes places number at line)
unfolding line_bytes line_size
line-of places number at line =
    let ws = source_words (without_comment line) in
    misplaced-by (line_size at line) (is_misplaced ws) _ _ (statement-of places at (is_twice places number (label_of_words ws)) (text_in (without_comment line)) (behind_label ws))

-- an image of so many bytes, no more than there may be, where there is no reason, and else the reason
abbrev IsImage : ℕ → Option Why → Result (List ℕ) Why → Type 0
IsImage size o (Ok image) = (o ≡ None) × (length image ≡ size) × (nat_le (length image) 65536 ≡ true)
IsImage size o (Err why) = o ≡ Some why

not-long : (at size : ℕ) → nat_le (at + size) 65536 ≡ true → long_why at size ≡ None
not-long at size h =
    let within : (nat_le at 65536 && nat_lt 65536 (at + size)) ≡ false = grind (arith, nat_tests) in
    ap (λ (b : Bool). if b then Some TooLong else None) within

too-long : (at size : ℕ) → nat_le at 65536 ≡ true → nat_le (at + size) 65536 ≡ false → long_why at size ≡ Some TooLong
too-long at size short h =
    let past : (nat_le at 65536 && nat_lt 65536 (at + size)) ≡ true = grind (arith, nat_tests) in
    ap (λ (b : Bool). if b then Some TooLong else None) past

-- by the test of its length
long-by : (b : Bool) (new : List ℕ) (at size : ℕ) (o : Option Why) → o ≡ None → nat_le at 65536 ≡ true → length new ≡ at + size → nat_le (length new) 65536 ≡ b
    → IsImage (at + size) (or_why o (long_why at size)) (if b then Ok new else Err TooLong)
long-by true new at size o none short is test =
    (ap (λ p. or_why p (long_why at size)) none ∙ not-long at size (ap (λ n. nat_le n 65536) (sym is) ∙ test), is, test)
long-by false new at size o none short is test =
    ap (λ p. or_why p (long_why at size)) none ∙ too-long at size short (ap (λ n. nat_le n 65536) (sym is) ∙ test)

image-by : (r : Result (List ℕ) Why) (image : List ℕ) (size : ℕ) (o : Option Why) → nat_le (length image) 65536 ≡ true → IsOf size o r
    → IsImage (length image + size) (or_why o (long_why (length image) size)) ((r >>= λ more. Ok (image ++ more)) >>= λ longer. if nat_le (length longer) 65536 then Ok longer else Err TooLong)
image-by (Ok bytes) image size o short h =
    long-by (nat_le (length (image ++ bytes)) 65536) (image ++ bytes) (length image) size o h.0 short (length-append image bytes ∙ ap (λ k. length image + k) h.1) refl
image-by (Err why) image size o short h = ap (λ p. or_why p (long_why (length image) size)) h

-- an image with a line
image-of : (places : List ℕ → Option Place) (number : ℕ) (image line : List ℕ) → nat_le (length image) 65536 ≡ true
    → IsImage (length image + line_size (length image) line) (line_why places number (length image) line) (with_line places number image line)
unfolding with_line line_why
image-of places number image line short =
    image-by (line_bytes places number (length image) line) image (line_size (length image) line) _ short (line-of places number (length image) line)

-- an image, or a line that is refused, and what the later lines give
lines-by : (number next : ℕ) (o : Option Why) (r : Result (List ℕ) Why) (f : List ℕ → Result (List ℕ) (ℕ × Why)) (later : ℕ → Option (ℕ × Why)) → IsImage next o r
    → ((new : List ℕ) → nat_le (length new) 65536 ≡ true → refusal_of (f new) ≡ later (length new))
    → refusal_of (from_line number r f) ≡ refused_or o number (later next)
lines-by number next o (Ok new) f later h k = k new h.2 ∙ ap later h.1 ∙ sym (ap (λ p. refused_or p number (later next)) h.0)
lines-by number next o (Err why) f later h k = sym (ap (λ p. refused_or p number (later next)) h)

lines-of : (places : List ℕ → Option Place) (number : ℕ) (image : List ℕ) (ls : List (List ℕ)) → nat_le (length image) 65536 ≡ true → refusal_of (with_lines places number image ls) ≡ first_refused places number (length image) ls
lines-of places number image [] short = refl
lines-of places number image (l ∷ ls) short =
    lines-by number (length image + line_size (length image) l) (line_why places number (length image) l) (with_line places number image l) (λ new. with_lines places (number + 1) new ls) (λ n. first_refused places (number + 1) n ls)
    (image-of places number image l short) (λ new fits. lines-of places (number + 1) new ls fits)

pub first_is_told : (text : List ℕ) → refusal_of (assembled text) ≡ first_refused (places_of text) 1 0 (source_lines text)
unfolding assembled
first_is_told text = lines-of (places_of text) 1 [] (source_lines text) refl
