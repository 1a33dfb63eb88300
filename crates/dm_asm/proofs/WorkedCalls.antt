-- The definitions, computed on worked texts with calls, given labels, characters and sums.
use Rattle.dm_asm.proofs.Names.{◌≡◌, ℕ, Ok, Err, Result, List, [], ◌∷◌, ◌++◌, map, codes, refl, Some, Why, assembled, places_of, with_line, form_of, source_lines, words_between, literal_value, distance_of, fields, number_operand, register, target}
use Rattle.dm_asm.proofs.Names.{argument_of, call_bytes, cleared, line_value, name_operand, settings, padding, multiple, text_behind, text_in, call_named, call_value, call_operand, value, operand_value, has_label, line_size, why_code, line_bytes, listed_bytes, statement_bytes}

-- the line and the number of a refusal; 0 and 0 where there is an image
abbrev refusal : Result (List ℕ) (ℕ × Why) → ℕ × ℕ
refusal (Ok _) = (0, 0)
refusal (Err at) = (at.0, why_code at.1)

-- the bytes of an image; 256 where there is none
abbrev image : Result (List ℕ) (ℕ × Why) → List ℕ
image (Ok bytes) = bytes
image (Err at) = 256 ∷ []

-- texts, and the texts of instructions and numbers alone that mean the same
abbrev same : List (List ℕ × List ℕ)
same =
    (codes "send 3", codes "li r1 3\nli r2 0\nli r3 0\nli r4 0\nli r5 0\nsys 6") ∷
    (codes "send 0 t 2\nt: .byte 1", codes "li r1 0\nli r2 t\nli r3 2\nli r4 0\nli r5 0\nsys 6\nt: .byte 1") ∷
    (codes "send r9, t+1, 1, 2, 'a'\nt: .byte 1", codes "mov r1 r9\nli r2 25\nli r3 1\nli r4 2\nli r5 97\nsys 6\nt: .byte 1") ∷
    (codes "send r1 r2 r3 r4 r5", codes "mov r1 r1\nmov r2 r2\nmov r3 r3\nmov r4 r4\nmov r5 r5\nsys 6") ∷
    (codes "send r2 r3 r4 r5 r6", codes "mov r1 r2\nmov r2 r3\nmov r3 r4\nmov r4 r5\nmov r5 r6\nsys 6") ∷
    (codes "receive 65535", codes "li r1 65535\nli r2 0\nli r3 0\nsys 7") ∷
    (codes "receive 1 b 8 ; x\nb:", codes "li r1 1\nli r2 16\nli r3 8\nsys 7") ∷
    (codes "make 7 2 1", codes "li r1 7\nli r2 2\nli r3 1\nli r4 0\nli r5 0\nsys 3") ∷
    (codes "make r0 2 12 b 64\nb:", codes "mov r1 r0\nli r2 2\nli r3 12\nli r4 24\nli r5 64\nsys 3") ∷
    (codes "make 1 2 3 r4 r5", codes "li r1 1\nli r2 2\nli r3 3\nmov r4 r4\nmov r5 r5\nsys 3") ∷
    (codes "move 0 1 0x100 b r15\nb:", codes "li r1 0\nli r2 1\nli r3 256\nli r4 24\nmov r5 r15\nsys 8") ∷
    (codes "copy 1", codes "li r1 1\nsys 4") ∷
    (codes "copy r2", codes "mov r1 r2\nsys 4") ∷
    (codes "drop 0", codes "li r1 0\nsys 5") ∷
    (codes "drop r1", codes "mov r1 r1\nsys 5") ∷
    (codes "out r7", codes "mov r1 r7\nsys 2") ∷
    (codes "out r1", codes "mov r1 r1\nsys 2") ∷
    (codes "exit", codes "sys 1") ∷
    (codes "send: send send\nout: exit\njmp out", codes "li r1 0\nli r2 0\nli r3 0\nli r4 0\nli r5 0\nsys 6\nsys 1\njmp 24") ∷
    (codes "r16: jmp r16\nr01: jmp r01", codes "jmp 0\njmp 4") ∷
    (codes ".equ n 5\nli r1 n", codes "li r1 5") ∷
    (codes "x: li r1 n\n.equ n 0x10\njmp x", codes "x: li r1 16\njmp x") ∷
    (codes ".equ n 'A'\n.word n+1", codes ".word 66") ∷
    (codes ".equ n 4294967295\n.word n", codes ".word 4294967295") ∷
    (codes ".equ n 3\nsend n n+1 n", codes "li r1 3\nli r2 4\nli r3 3\nli r4 0\nli r5 0\nsys 6") ∷
    (codes ".byte 'a' '" ++ 34 ∷ codes "' ''' '~' '!'", codes ".byte 97 34 39 126 33") ∷
    (codes "lb r1 r2 'a'\nsys '!'\n.zero '!'\n.align '!'", codes "lb r1 r2 97\nsys 33\n.zero 33\n.align 33") ∷
    (codes "li r1 l+4\njmp l+0x4\nlih r1 l+'a'\nl: .word l+0\n.word l+4294967283", codes "li r1 16\njmp 16\nlih r1 109\nl: .word 12\n.word 4294967295") ∷ []

-- texts that are refused, and some that are just taken
abbrev refused : List (List ℕ × (ℕ × ℕ))
refused =
    (codes "send", (1, 7)) ∷
    (codes "send 1 2", (1, 7)) ∷
    (codes "send 1 2 3 4", (1, 7)) ∷
    (codes "send 1 2 3 4 5 6", (1, 7)) ∷
    (codes "receive", (1, 7)) ∷
    (codes "receive 1 2", (1, 7)) ∷
    (codes "receive 1 2 3 4", (1, 7)) ∷
    (codes "make 1 2", (1, 7)) ∷
    (codes "make 1 2 3 4", (1, 7)) ∷
    (codes "make 1 2 3 4 5 6", (1, 7)) ∷
    (codes "move 1 2 3 4", (1, 7)) ∷
    (codes "move 1 2 3 4 5 6", (1, 7)) ∷
    (codes "copy", (1, 7)) ∷
    (codes "copy 1 2", (1, 7)) ∷
    (codes "drop", (1, 7)) ∷
    (codes "drop 1 2", (1, 7)) ∷
    (codes "out", (1, 7)) ∷
    (codes "out r1 r2", (1, 7)) ∷
    (codes "exit 1", (1, 7)) ∷
    (codes "out 5", (1, 2)) ∷
    (codes "out x", (1, 2)) ∷
    (codes "out r16", (1, 2)) ∷
    (codes "send 0 r1 2", (1, 2)) ∷
    (codes "send r2 r1 2", (1, 2)) ∷
    (codes "send 0 1 r2", (1, 2)) ∷
    (codes "send 0 1 r1", (1, 2)) ∷
    (codes "make 1 2 3 r3 5", (1, 2)) ∷
    (codes "make 1 2 3 r4 r4", (1, 2)) ∷
    (codes "move 1 r1 3 4 5", (1, 2)) ∷
    (codes "make 0 r0 r0", (0, 0)) ∷
    (codes "send r16", (1, 5)) ∷
    (codes "send -1", (1, 3)) ∷
    (codes "send 65535", (0, 0)) ∷
    (codes "send 65536", (1, 4)) ∷
    (codes "send x", (1, 5)) ∷
    (codes "send Foo", (1, 5)) ∷
    (codes "send 0 l 1\n.zero 65511\nl:", (0, 0)) ∷
    (codes "send 0 l 1\n.zero 65512\nl:", (1, 4)) ∷
    (codes "send x 70000 -1", (1, 5)) ∷
    (codes "send 70000 x -1", (1, 4)) ∷
    (codes "send 0 -1 x", (1, 3)) ∷
    (codes "send 0 r1 x", (1, 2)) ∷
    (codes "send x r1 1", (1, 5)) ∷
    (codes "x: send\nx: exit 1", (1, 7)) ∷
    (codes "x: exit\nx: exit 1", (2, 6)) ∷
    (codes "SEND 0", (1, 1)) ∷
    (codes "send: send", (1, 7)) ∷
    (codes ".zero 65512\nsend 0", (0, 0)) ∷
    (codes ".zero 65516\nsend 0", (2, 8)) ∷
    (codes "li r1 t+x\nt:", (1, 3)) ∷
    (codes "li r1 t+\nt:", (1, 3)) ∷
    (codes "li r1 u+x", (1, 3)) ∷
    (codes "li r1 t+4", (1, 5)) ∷
    (codes "li r1 t+99999999999", (1, 5)) ∷
    (codes "li r1 t+65531\nt:", (0, 0)) ∷
    (codes "li r1 t+65532\nt:", (1, 4)) ∷
    (codes "li r1 t+99999999999999999999\nt:", (1, 4)) ∷
    (codes "li r1 t+4+4\nt:", (1, 3)) ∷
    (codes "li r1 t-4\nt:", (1, 5)) ∷
    (codes "li r1 4+4", (1, 3)) ∷
    (codes "li r1 +4", (1, 3)) ∷
    (codes "beq r0 r0 t+4\nt:", (1, 5)) ∷
    (codes ".word l+4294967295\nl:", (1, 4)) ∷
    (codes "li r1 'ab'", (1, 3)) ∷
    (codes "li r1 ''", (1, 3)) ∷
    (codes "li r1 'a", (1, 3)) ∷
    (codes "li r1 '" ++ 127 ∷ codes "'", (1, 3)) ∷
    (codes "li r1 ' '", (1, 7)) ∷
    (codes "li r1 ','", (1, 7)) ∷
    (codes "li r1 ';'", (1, 3)) ∷
    (codes ".equ", (1, 7)) ∷
    (codes ".equ x", (1, 7)) ∷
    (codes ".equ x 1 2", (1, 7)) ∷
    (codes ".equ X", (1, 7)) ∷
    (codes ".equ 5x 1", (1, 3)) ∷
    (codes ".equ X 1", (1, 3)) ∷
    (codes ".equ x: 1", (1, 3)) ∷
    (codes ".equ r1 1", (1, 3)) ∷
    (codes ".equ r16 1", (0, 0)) ∷
    (codes ".equ abcdefghijklmno_ 1", (0, 0)) ∷
    (codes ".equ abcdefghijklmnopq 1", (1, 3)) ∷
    (codes ".equ x y", (1, 3)) ∷
    (codes ".equ x -1", (1, 3)) ∷
    (codes ".equ X 4294967296", (1, 3)) ∷
    (codes ".equ x 4294967295", (0, 0)) ∷
    (codes ".equ x 4294967296", (1, 4)) ∷
    (codes ".equ x 65535\nli r1 x", (0, 0)) ∷
    (codes ".equ x 65536\nli r1 x", (2, 4)) ∷
    (codes ".equ x 1\n.equ x 1", (2, 6)) ∷
    (codes "x:\n.equ x 1", (2, 6)) ∷
    (codes ".equ x 1\nx:", (2, 6)) ∷
    (codes ".equ x 1\n.equ x", (2, 6)) ∷
    (codes "x: .equ y 1", (1, 1)) ∷
    (codes "x: .equ", (1, 1)) ∷
    (codes ".equ x 1\nx: .equ y 1", (2, 1)) ∷
    (codes "x: .equ y 1\nli r1 y", (1, 1)) ∷
    (codes ".EQU x 1", (1, 1)) ∷
    (codes "lw r1 r2 n\n.equ n 1", (1, 3)) ∷
    (codes ".byte n\n.equ n 1", (1, 3)) ∷
    (codes ".zero 65536\n.equ x 1", (0, 0)) ∷
    (codes "r1: exit", (1, 1)) ∷
    (codes "r0:", (1, 1)) ∷
    (codes "r15:", (1, 1)) ∷
    (codes "r1:\njmp r1", (1, 1)) ∷
    (codes "x: r1: exit", (1, 1)) ∷ []

pub same_images : map (λ row. assembled row.0) same ≡ map (λ row. Ok (image (assembled row.1))) same
unfolding argument_of call_bytes cleared line_value name_operand settings padding multiple text_behind text_in assembled places_of with_line form_of source_lines words_between literal_value call_named call_value call_operand operand_value distance_of register number_operand value target fields line_size has_label listed_bytes statement_bytes line_bytes
same_images = refl

pub refused_so : map (λ row. refusal (assembled row.0)) refused ≡ map (λ row. row.1) refused
unfolding argument_of call_bytes cleared line_value name_operand settings padding multiple text_behind text_in assembled places_of with_line form_of source_lines words_between literal_value call_named call_value call_operand operand_value distance_of register number_operand value target fields line_size has_label listed_bytes statement_bytes line_bytes
refused_so = refl

-- each call has its size, whatever its operands are
pub sizes_are_these : places_of (codes "send 0\nreceive 1\nmake 1 2 3\nmove 1 2 3 4 5\ncopy 1\ndrop 1\nout r1\nexit\ne:") (codes "e") ≡ Some (record { line = 9; address = 116 })
unfolding argument_of call_bytes cleared line_value name_operand settings padding multiple text_behind text_in assembled places_of with_line form_of source_lines words_between literal_value call_named call_value call_operand operand_value distance_of register number_operand value target fields line_size has_label listed_bytes statement_bytes line_bytes
sizes_are_these = refl

-- and so have calls that are refused
pub refused_sizes_are_these : places_of (codes "send\nreceive\nmake x\nmove x\ncopy\ndrop\nout 1\nexit 1\ne:") (codes "e") ≡ Some (record { line = 9; address = 116 })
unfolding argument_of call_bytes cleared line_value name_operand settings padding multiple text_behind text_in assembled places_of with_line form_of source_lines words_between literal_value call_named call_value call_operand operand_value distance_of register number_operand value target fields line_size has_label listed_bytes statement_bytes line_bytes
refused_sizes_are_these = refl

-- a branch leads to a given label as to an address
pub given_labels_are_places : assembled (codes ".equ l 8\nbeq r0 r0 l") ≡ Ok (17 ∷ 0 ∷ 0 ∷ 1 ∷ [])
unfolding argument_of call_bytes cleared line_value name_operand settings padding multiple text_behind text_in assembled places_of with_line form_of source_lines words_between literal_value call_named call_value call_operand operand_value distance_of register number_operand value target fields line_size has_label listed_bytes statement_bytes line_bytes
given_labels_are_places = refl

-- the bytes of a call
pub send_is_these_bytes : assembled (codes "send 3 r9 258") ≡ Ok (1 ∷ 1 ∷ 0 ∷ 3 ∷ 3 ∷ 2 ∷ 9 ∷ 0 ∷ 1 ∷ 3 ∷ 1 ∷ 2 ∷ 1 ∷ 4 ∷ 0 ∷ 0 ∷ 1 ∷ 5 ∷ 0 ∷ 0 ∷ 20 ∷ 0 ∷ 0 ∷ 6 ∷ [])
unfolding argument_of call_bytes cleared line_value name_operand settings padding multiple text_behind text_in assembled places_of with_line form_of source_lines words_between literal_value call_named call_value call_operand operand_value distance_of register number_operand value target fields line_size has_label listed_bytes statement_bytes line_bytes
send_is_these_bytes = refl
