-- The words begin behind what stands between them, and the first ends at the next such byte.
use Rattle.dm_reading.proofs.Names.{◌+◌, ◌-◌, ◌<◌, ◌∷◌, ◌∙◌, ap, sym, length, take, drop, length-drop, not, arith, length-take-le, words_between, stands_in}
use Rattle.dm_reading.proofs.Cuts.{take_rest, place_below}
use Rattle.dm_reading.proofs.WordCuts.{words-start, words-first, words-whole, start_is_word}
use Rattle.dm_reading.proofs.words.split_word.Goals as goal

pub returns-in-Some-clause-some : goal.returns-in-Some-clause-some
returns-in-Some-clause-some c =
    let test = stands_in c.args.gap in
    let xs = c.args.line.now in
    let ys = take (length xs - c.args.start) (drop c.args.start xs) in
    words-start test xs c.args.start c.requires
    ∙ ap (words_between test) (sym (take_rest c.args.start xs))
    ∙ words-first test ys c.in-Some.end (sym c.in-Some.ensures) (start_is_word test xs ys c.args.start c.in-Some.end c.requires (take_rest c.args.start xs) (sym c.in-Some.ensures))
    ∙ ap (λ r. take c.in-Some.end ys ∷ words_between test r) (sym (take_rest (c.in-Some.end + 1) ys))

pub returns-in-Some-clause-word : goal.returns-in-Some-clause-word
returns-in-Some-clause-word c =
    let test = stands_in c.args.gap in
    let xs = c.args.line.now in
    let ys = take (length xs - c.args.start) (drop c.args.start xs) in
    let positive : 0 < c.in-Some.end = start_is_word test xs ys c.args.start c.in-Some.end c.requires (take_rest c.args.start xs) (sym c.in-Some.ensures) in
    let below : c.in-Some.end < length ys = place_below test ys c.in-Some.end (sym c.in-Some.ensures) in
    omega (arith, length-take-le c.in-Some.end ys (omega arith))

pub returns-in-None-clause-some : goal.returns-in-None-clause-some
returns-in-None-clause-some c =
    let test = stands_in c.args.gap in
    let xs = c.args.line.now in
    let ys = take (length xs - c.args.start) (drop c.args.start xs) in
    let below : c.args.start < length xs = place_below (λ d. not (test d)) xs c.args.start c.requires in
    words-start test xs c.args.start c.requires
    ∙ ap (words_between test) (sym (take_rest c.args.start xs))
    ∙ words-whole test ys (sym c.in-None.ensures) (rw (take_rest c.args.start xs) (omega (arith, length-drop c.args.start xs)))
