-- The instructions and directives by their words, and what their operands are.
use Rattle.std.specs.Prelude.{ℕ, List, Option, None, Some, if◌then◌else◌, codes, option_map}
use Rattle.std.specs.List.{find}
use Rattle.std.specs.Str.{bytes_eq}
use Rattle.dm_processor.specs.Opcodes.{opcodes, opcode_word}
use Rattle.dm_processor.specs.declared.opcodes.Opcode.{Opcode}
use Rattle.dm_processor.specs.declared.opcodes.Opcode.TheVariants.{Li, Lih, Mov, Lw, Sw, Lb, Sb, Jmp, Beq, Bne, Bltu, Sys}
use Rattle.dm_asm.specs.Calls.{call_word, call_words}
use Rattle.dm_asm.specs.declared.calls.CallWord.{CallWord}
use Rattle.dm_asm.specs.declared.forms.Form.{Form}
use Rattle.dm_asm.specs.declared.forms.Form.TheVariants.{Instruction, Calling, Word, Byte, Zero, Align, Ascii, Equ}
use Rattle.dm_asm.specs.declared.forms.Shape.{Shape}
use Rattle.dm_asm.specs.declared.forms.Shape.TheVariants.{RegisterValue, TwoRegisters, ThreeRegisters, Access, Jump, Branch, Call}

-- a call with operands, or what else a word names
abbrev pub calling_or : Option CallWord → Option Form → Option Form
calling_or None other = other
calling_or (Some c) other = Some (Calling c)

-- the instruction, call with operands or directive that a word names
unfoldable pub form_of : List ℕ → Option Form
form_of word =
    if bytes_eq word (codes ".word") then Some Word
    else (if bytes_eq word (codes ".byte") then Some Byte
    else (if bytes_eq word (codes ".zero") then Some Zero
    else (if bytes_eq word (codes ".align") then Some Align
    else (if bytes_eq word (codes ".ascii") then Some Ascii
    else (if bytes_eq word (codes ".equ") then Some Equ
    else calling_or (find (λ c. bytes_eq word (call_word c)) call_words) (option_map Instruction (find (λ op. bytes_eq word (opcode_word op)) opcodes)))))))

-- what the operands of an instruction are
abbrev pub shape_of : Opcode → Shape
shape_of Li = RegisterValue
shape_of Lih = RegisterValue
shape_of Mov = TwoRegisters
shape_of Lw = Access
shape_of Sw = Access
shape_of Lb = Access
shape_of Sb = Access
shape_of Jmp = Jump
shape_of Beq = Branch
shape_of Bne = Branch
shape_of Bltu = Branch
shape_of Sys = Call
shape_of op = ThreeRegisters

-- how many operands an instruction has
abbrev pub operand_count : Shape → ℕ
operand_count Jump = 1
operand_count Call = 1
operand_count RegisterValue = 2
operand_count TwoRegisters = 2
operand_count shape = 3
