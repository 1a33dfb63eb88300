-- The definitions, computed on worked texts, for two machines.
use Rattle.dm_schedule.proofs.Names.{◌≡◌, ℕ, List, [], ◌∷◌, ◌++◌, map, codes, refl, keyword_of, lines, words_between, number_of_word, process_of, Schedule, Accepted, Refused, directive_of, directives_of, line_directive, lines_from, number_of_fault}
use Rattle.dm_schedule.specs.declared.Directive.TheVariants as directive
use Rattle.dm_schedule.specs.declared.Step.TheVariants as step

-- the first bad line and the number of what is wrong there; 0 and 0 where there is none
abbrev refusal : Schedule → ℕ × ℕ
refusal (Accepted _) = (0, 0)
refusal (Refused line fault) = (line, number_of_fault fault)

-- words, lines and counts
abbrev texts : List (List ℕ × (ℕ × ℕ))
texts =
    (codes "hop", (1, 1)) ∷
    (255 ∷ [], (1, 1)) ∷
    (codes "Turn 0", (1, 1)) ∷
    (codes "turn" ++ 13 ∷ codes "0", (1, 1)) ∷
    (13 ∷ [], (1, 1)) ∷
    (13 ∷ 13 ∷ 10 ∷ [], (1, 1)) ∷
    (13 ∷ 10 ∷ 9 ∷ 10 ∷ [], (0, 0)) ∷
    (codes "turn", (1, 2)) ∷
    (codes "turn # 0", (1, 2)) ∷
    (codes "tick 0 0", (1, 2)) ∷
    (codes "tick x 0", (1, 2)) ∷
    (codes "deliver 0 0", (1, 2)) ∷
    (codes "migrate 0.3", (1, 2)) ∷
    (codes "round 0", (1, 2)) ∷
    (codes "spin", (1, 2)) ∷
    (codes "rest", (1, 2)) ∷
    (codes "rest 3 3", (1, 2)) ∷
    (codes "turn #", (1, 3)) ∷
    (codes "turn 0" ++ 13 ∷ [], (1, 3)) ∷
    (codes "turn 0" ++ 13 ∷ codes "0" ++ 10 ∷ [], (1, 3)) ∷
    (codes "turn 0" ++ 13 ∷ 13 ∷ 10 ∷ [], (1, 3)) ∷
    (codes "  # hop" ++ 10 ∷ codes "#hop" ++ 13 ∷ 10 ∷ 9 ∷ codes "#", (0, 0)) ∷
    (codes "turn 0" ++ 10 ∷ codes "turn 2", (2, 4)) ∷
    (codes "turn 2" ++ 10 ∷ codes "hop", (1, 4)) ∷
    (codes "#" ++ 10 ∷ 10 ∷ codes " " ++ 9 ∷ 13 ∷ 10 ∷ codes "hop" ++ 10 ∷ codes "turn 2", (4, 1)) ∷ []

-- numbers and limits
abbrev numbers : List (List ℕ × (ℕ × ℕ))
numbers =
    (codes "turn x", (1, 3)) ∷
    (codes "turn +1", (1, 3)) ∷
    (codes "turn 00000000000", (1, 3)) ∷
    (codes "turn 99999999999", (1, 3)) ∷
    (codes "turn 9999999999", (1, 4)) ∷
    (codes "turn 0000000001", (0, 0)) ∷
    (codes "turn 2", (1, 4)) ∷
    (codes "tick 256", (1, 4)) ∷
    (codes "deliver 9 x 0", (1, 4)) ∷
    (codes "deliver x 9 0", (1, 3)) ∷
    (codes "deliver 0 0 x", (1, 3)) ∷
    (codes "deliver 0 0 4294967296", (1, 4)) ∷
    (codes "deliver 0 0 0", (1, 5)) ∷
    (codes "deliver 1 01 0", (1, 5)) ∷
    (codes "deliver 0 1 4294967295", (0, 0)) ∷
    (codes "deliver 0 1 4294967296", (1, 4)) ∷
    (codes "migrate 0.3.1 1", (1, 3)) ∷
    (codes "migrate 0 1", (1, 3)) ∷
    (codes "migrate 0. 1", (1, 3)) ∷
    (codes "migrate .3 1", (1, 3)) ∷
    (codes "migrate 9.x 1", (1, 3)) ∷
    (codes "migrate 0.00000000003 1", (1, 3)) ∷
    (codes "migrate 2.3 x", (1, 4)) ∷
    (codes "migrate 1.3 1", (0, 0)) ∷
    (codes "migrate 0.4294967295 1", (0, 0)) ∷
    (codes "migrate 0.4294967296 1", (1, 4)) ∷
    (codes "migrate 0.3 2", (1, 4)) ∷
    (codes "spin 0", (1, 4)) ∷
    (codes "spin 1", (0, 0)) ∷
    (codes "spin 65536", (0, 0)) ∷
    (codes "spin 65537", (1, 4)) ∷
    (codes "rest x", (1, 3)) ∷
    (codes "rest 0", (1, 4)) ∷
    (codes "rest 1", (0, 0)) ∷
    (codes "rest 65536", (0, 0)) ∷
    (codes "rest 65537", (1, 4)) ∷ []

pub texts_are_refused_so : map (λ row. refusal (directives_of row.0 2)) texts ≡ map (λ row. row.1) texts
unfolding directives_of lines_from line_directive directive_of keyword_of lines words_between number_of_word process_of
texts_are_refused_so = refl

pub numbers_are_refused_so : map (λ row. refusal (directives_of row.0 2)) numbers ≡ map (λ row. row.1) numbers
unfolding directives_of lines_from line_directive directive_of keyword_of lines words_between number_of_word process_of
numbers_are_refused_so = refl

pub in_order :
    directives_of (codes "turn 00" ++ 13 ∷ 10 ∷ 10 ∷ 9 ∷ codes " tick" ++ 9 ∷ codes "1 " ++ 10 ∷ codes "# turn 1" ++ 10 ∷ codes "round" ++ 10 ∷ codes "deliver 1 0 7" ++ 10 ∷ codes "spin 65536" ++ 10 ∷ codes "settle" ++ 10 ∷ codes "rest 03" ++ 10 ∷ codes "migrate 00.03 01") 2
    ≡ Accepted (directive.One (step.Turn 0) ∷ directive.One (step.Tick 1) ∷ directive.Round ∷ directive.One (step.Deliver 1 0 7)
    ∷ directive.Spin 65536 ∷ directive.Settle ∷ directive.Rest 3 ∷ directive.One (step.Migrate (record { home = 0; num = 3 }) 1) ∷ [])
unfolding directives_of lines_from line_directive directive_of keyword_of lines words_between number_of_word process_of
in_order = refl
