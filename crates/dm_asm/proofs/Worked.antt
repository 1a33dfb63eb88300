-- The definitions, computed on worked texts.
use Rattle.dm_asm.proofs.Names.{◌≡◌, ℕ, Ok, Err, Result, List, [], ◌∷◌, ◌++◌, map, codes, refl, Why, assembled, places_of, with_line, form_of, source_lines, words_between, literal_value, distance_of, fields, number_operand, register, target}
use Rattle.dm_asm.proofs.Names.{line_value, padding, multiple, text_behind, text_in, call_named, call_value, call_operand, value, operand_value, has_label, line_size, why_code, line_bytes, listed_bytes, statement_bytes}

-- the line and the number of a refusal; 0 and 0 where there is an image
abbrev refusal : Result (List ℕ) (ℕ × Why) → ℕ × ℕ
refusal (Ok _) = (0, 0)
refusal (Err at) = (at.0, why_code at.1)

-- texts and their bytes: the forms, each instruction, the first text of the smallest run
abbrev images : List (List ℕ × List ℕ)
images =
    (codes "li r1 0" ++ 10 ∷ codes "li r2 1" ++ 10 ∷ codes "sub r1 r1 r2" ++ 10 ∷ codes "sys 2" ++ 10 ∷ [], (1 ∷ 1 ∷ 0 ∷ 0 ∷ 1 ∷ 2 ∷ 0 ∷ 1 ∷ 5 ∷ 1 ∷ 1 ∷ 2 ∷ 20 ∷ 0 ∷ 0 ∷ 2 ∷ [])) ∷
    (codes "l: beq r0 r0 l", (17 ∷ 0 ∷ 0 ∷ 255 ∷ [])) ∷
    ([], []) ∷
    (codes " ; x" ++ 10 ∷ 9 ∷ codes "," ++ 13 ∷ 10 ∷ [], []) ∷
    (codes "a: .byte 9" ++ 10 ∷ codes "b: .word b", (9 ∷ 0 ∷ 0 ∷ 0 ∷ 1 ∷ [])) ∷
    (codes ".word 0xDeadBeef", (222 ∷ 173 ∷ 190 ∷ 239 ∷ [])) ∷
    (codes ".byte 1,2 0x03" ++ 9 ∷ codes "255" ++ 13 ∷ 10 ∷ [], (1 ∷ 2 ∷ 3 ∷ 255 ∷ [])) ∷
    (codes ".zero 3" ++ 10 ∷ codes ".zero 0", (0 ∷ 0 ∷ 0 ∷ [])) ∷
    (codes "mov r15 r10", (3 ∷ 15 ∷ 10 ∷ 0 ∷ [])) ∷
    (codes "sb r1 r2 255", (15 ∷ 1 ∷ 2 ∷ 255 ∷ [])) ∷
    (codes "jmp li" ++ 10 ∷ codes "li: lih r1, li", (16 ∷ 0 ∷ 0 ∷ 4 ∷ 2 ∷ 1 ∷ 0 ∷ 4 ∷ [])) ∷
    (codes "sys 7;8", (20 ∷ 0 ∷ 0 ∷ 7 ∷ [])) ∷
    (codes "li r1 007", (1 ∷ 1 ∷ 0 ∷ 7 ∷ [])) ∷
    (codes "bltu r1 r2 l" ++ 10 ∷ codes "l:", (19 ∷ 1 ∷ 2 ∷ 0 ∷ [])) ∷
    (codes "li r2 t" ++ 10 ∷ codes "li r3 2" ++ 10 ∷ codes "sys 6" ++ 10 ∷ codes "sys 1" ++ 10 ∷ codes "t: .byte 104 105", (1 ∷ 2 ∷ 0 ∷ 16 ∷ 1 ∷ 3 ∷ 0 ∷ 2 ∷ 20 ∷ 0 ∷ 0 ∷ 6 ∷ 20 ∷ 0 ∷ 0 ∷ 1 ∷ 104 ∷ 105 ∷ [])) ∷
    (codes "li r1 258", (1 ∷ 1 ∷ 1 ∷ 2 ∷ [])) ∷
    (codes "lih r2 772", (2 ∷ 2 ∷ 3 ∷ 4 ∷ [])) ∷
    (codes "mov r3 r4", (3 ∷ 3 ∷ 4 ∷ 0 ∷ [])) ∷
    (codes "add r1 r2 r3", (4 ∷ 1 ∷ 2 ∷ 3 ∷ [])) ∷
    (codes "sub r2 r3 r4", (5 ∷ 2 ∷ 3 ∷ 4 ∷ [])) ∷
    (codes "mul r3 r4 r5", (6 ∷ 3 ∷ 4 ∷ 5 ∷ [])) ∷
    (codes "and r4 r5 r6", (7 ∷ 4 ∷ 5 ∷ 6 ∷ [])) ∷
    (codes "or r5 r6 r7", (8 ∷ 5 ∷ 6 ∷ 7 ∷ [])) ∷
    (codes "xor r6 r7 r8", (9 ∷ 6 ∷ 7 ∷ 8 ∷ [])) ∷
    (codes "shl r7 r8 r9", (10 ∷ 7 ∷ 8 ∷ 9 ∷ [])) ∷
    (codes "shr r8 r9 r10", (11 ∷ 8 ∷ 9 ∷ 10 ∷ [])) ∷
    (codes "lw r9 r10 11", (12 ∷ 9 ∷ 10 ∷ 11 ∷ [])) ∷
    (codes "sw r10 r11 12", (13 ∷ 10 ∷ 11 ∷ 12 ∷ [])) ∷
    (codes "lb r11 r12 13", (14 ∷ 11 ∷ 12 ∷ 13 ∷ [])) ∷
    (codes "sb r12 r13 14", (15 ∷ 12 ∷ 13 ∷ 14 ∷ [])) ∷
    (codes "jmp 515", (16 ∷ 0 ∷ 2 ∷ 3 ∷ [])) ∷
    (codes "l: bne r2 r3 l", (18 ∷ 2 ∷ 3 ∷ 255 ∷ [])) ∷
    (codes "bltu r3 r4 l" ++ 10 ∷ codes "l:", (19 ∷ 3 ∷ 4 ∷ 0 ∷ [])) ∷
    (codes "sys 8", (20 ∷ 0 ∷ 0 ∷ 8 ∷ [])) ∷
    (codes "sys EXIT", (20 ∷ 0 ∷ 0 ∷ 1 ∷ [])) ∷
    (codes "sys OUT", (20 ∷ 0 ∷ 0 ∷ 2 ∷ [])) ∷
    (codes "sys MAKE", (20 ∷ 0 ∷ 0 ∷ 3 ∷ [])) ∷
    (codes "sys COPY", (20 ∷ 0 ∷ 0 ∷ 4 ∷ [])) ∷
    (codes "sys DROP", (20 ∷ 0 ∷ 0 ∷ 5 ∷ [])) ∷
    (codes "sys SEND", (20 ∷ 0 ∷ 0 ∷ 6 ∷ [])) ∷
    (codes "sys RECEIVE", (20 ∷ 0 ∷ 0 ∷ 7 ∷ [])) ∷
    (codes "sys MOVE", (20 ∷ 0 ∷ 0 ∷ 8 ∷ [])) ∷
    (codes ".byte 9" ++ 10 ∷ codes ".align 4" ++ 10 ∷ codes "b: .word b" ++ 10 ∷ codes ".align 4" ++ 10 ∷ codes ".align 1" ++ 10 ∷ codes ".align 0x3", (9 ∷ 0 ∷ 0 ∷ 0 ∷ 0 ∷ 0 ∷ 0 ∷ 4 ∷ 0 ∷ [])) ∷
    (codes ".align 65536", []) ∷
    (codes "t: .ascii " ++ 34 ∷ codes "a,  ~!" ++ 34 ∷ codes " , ; x" ++ 34 ∷ 10 ∷ codes "u: .byte 7" ++ 10 ∷ codes ".align 2" ++ 10 ∷ codes ".word u", (97 ∷ 44 ∷ 32 ∷ 32 ∷ 126 ∷ 33 ∷ 7 ∷ 0 ∷ 0 ∷ 0 ∷ 0 ∷ 6 ∷ [])) ∷
    (codes ".ascii " ++ 34 ∷ 34 ∷ 13 ∷ [], []) ∷ []

-- texts that are refused, and some that are just taken
abbrev refused : List (List ℕ × (ℕ × ℕ))
refused =
    (codes "hop", (1, 1)) ∷
    (10 ∷ 10 ∷ codes "X: sys 1", (3, 1)) ∷
    (codes "x:sys 1", (1, 1)) ∷
    (codes "x : sys 1", (1, 1)) ∷
    (codes "a: b: sys 1", (1, 1)) ∷
    (codes "abcdefghijklmnopq:", (1, 1)) ∷
    (codes "abcdefghijklmno_:", (0, 0)) ∷
    (codes "1a:", (1, 1)) ∷
    (codes "jmp x" ++ 10 ∷ codes "x: hop", (2, 1)) ∷
    (codes "a:" ++ 10 ∷ codes "a: hop", (2, 1)) ∷
    (codes "mov r1 r16", (1, 2)) ∷
    (codes "mov r01 r1", (1, 2)) ∷
    (codes "mov r1 x", (1, 2)) ∷
    (codes "jmp Foo", (1, 5)) ∷
    (codes "jmp r1", (1, 5)) ∷
    (codes "li r1 _", (1, 5)) ∷
    (codes "a:" ++ 10 ∷ codes "a:", (2, 6)) ∷
    (codes "sys", (1, 7)) ∷
    (codes "sys 1 2", (1, 7)) ∷
    (codes ".byte", (1, 7)) ∷
    (codes "mov x", (1, 7)) ∷
    (codes "beq r0 r0 7", (1, 3)) ∷
    (codes "li r1 -1", (1, 3)) ∷
    (codes "li r1 0x", (1, 3)) ∷
    (codes "li r1 0X1", (1, 3)) ∷
    (codes "sys x", (1, 3)) ∷
    (codes "li r1 65535", (0, 0)) ∷
    (codes "li r1 65536", (1, 4)) ∷
    (codes "li r1 99999999999999999999999999", (1, 4)) ∷
    (codes "sys send", (1, 3)) ∷
    (codes "sys SEN", (1, 3)) ∷
    (codes "sys SENDS", (1, 3)) ∷
    (codes "sys SEND 1", (1, 7)) ∷
    (codes "SEND", (1, 1)) ∷
    (codes "jmp SEND", (1, 5)) ∷
    (codes "sys 255", (0, 0)) ∷
    (codes "sys 256", (1, 4)) ∷
    (codes "lw r1 r1 256", (1, 4)) ∷
    (codes ".byte 256", (1, 4)) ∷
    (codes ".word 4294967295", (0, 0)) ∷
    (codes ".word 4294967296", (1, 4)) ∷
    (codes "beq r0 r0 l" ++ 10 ∷ codes ".zero 508" ++ 10 ∷ codes "l:", (0, 0)) ∷
    (codes "beq r0 r0 l" ++ 10 ∷ codes ".zero 512" ++ 10 ∷ codes "l:", (1, 4)) ∷
    (codes "l: .zero 508" ++ 10 ∷ codes "beq r0 r0 l", (0, 0)) ∷
    (codes "l: .zero 512" ++ 10 ∷ codes "beq r0 r0 l", (2, 4)) ∷
    (codes "beq r0 r0 l" ++ 10 ∷ codes ".byte 1" ++ 10 ∷ codes "l:", (1, 4)) ∷
    (codes "li r1 l" ++ 10 ∷ codes ".zero 65532" ++ 10 ∷ codes "l:", (1, 4)) ∷
    (codes ".zero 65537", (1, 4)) ∷
    (codes ".align 0", (1, 4)) ∷
    (codes ".align 65537", (1, 4)) ∷
    (codes ".align x", (1, 3)) ∷
    (codes ".align", (1, 7)) ∷
    (codes ".align 4 4", (1, 7)) ∷
    (codes ".ascii", (1, 7)) ∷
    (codes ".ascii x", (1, 3)) ∷
    (codes ".ascii x " ++ 34 ∷ codes "y" ++ 34 ∷ [], (1, 3)) ∷
    (codes ".ascii " ++ 34 ∷ [], (1, 3)) ∷
    (codes ".ascii " ++ 34 ∷ codes "a b", (1, 3)) ∷
    (codes ".ascii " ++ 34 ∷ codes "a;b" ++ 34 ∷ [], (1, 3)) ∷
    (codes ".ascii " ++ 34 ∷ codes "a" ++ 34 ∷ codes " 1", (1, 3)) ∷
    (codes ".ascii " ++ 34 ∷ codes "a" ++ 34 ∷ codes "b" ++ 34 ∷ [], (1, 3)) ∷
    (codes ".ascii " ++ 34 ∷ 9 ∷ 34 ∷ [], (1, 3)) ∷
    (codes ".ascii " ++ 34 ∷ 127 ∷ 34 ∷ [], (1, 3)) ∷
    (codes ".ascii" ++ 34 ∷ codes "a" ++ 34 ∷ [], (1, 1)) ∷ []

pub images_are_these : map (λ row. assembled row.0) images ≡ map (λ row. Ok row.1) images
unfolding line_value padding multiple text_behind text_in assembled places_of with_line form_of source_lines words_between literal_value call_named call_value call_operand operand_value distance_of register number_operand value target fields line_size has_label listed_bytes statement_bytes line_bytes
images_are_these = refl

pub refused_so : map (λ row. refusal (assembled row.0)) refused ≡ map (λ row. row.1) refused
unfolding line_value padding multiple text_behind text_in assembled places_of with_line form_of source_lines words_between literal_value call_named call_value call_operand operand_value distance_of register number_operand value target fields line_size has_label listed_bytes statement_bytes line_bytes
refused_so = refl
