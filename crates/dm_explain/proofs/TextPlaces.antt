-- Where a text stands in a file, byte by byte.
use Rattle.dm_explain.proofs.Names.{◌≡◌, ℕ, ◌<◌, true, false, if◌then◌else◌, List, [], ◌∷◌, length, drop, refl, ap, sym, ◌∙◌, arith, line_before, next_line, opens}
use Rattle.std.specs.Prelude.{slice_index}
use Rattle.std.specs.declared.option.Option.TheVariants.{None, Some}

pub before-end : (text : List ℕ) (n : ℕ) (xs : List ℕ) → length xs ≡ 0 → line_before text n xs ≡ None
unfolding line_before
before-end text n [] none = refl
before-end text n (c ∷ cs) none = absurd (omega arith)

pub before-here : (text : List ℕ) (n : ℕ) (xs : List ℕ) → 0 < length xs → opens text xs ≡ true → line_before text n xs ≡ Some n
unfolding line_before
before-here text n [] some here = absurd (omega arith)
before-here text n (c ∷ cs) some here = ap (λ b. if b then Some n else line_before text (next_line n c) cs) here

pub before-later : (text : List ℕ) (n m : ℕ) (xs ys : List ℕ) → 0 < length xs → opens text xs ≡ false → m ≡ next_line n (slice_index xs 0) → ys ≡ drop 1 xs → line_before text m ys ≡ line_before text n xs
unfolding line_before
before-later text n m [] ys some fails next behind = absurd (omega arith)
before-later text n m (c ∷ cs) ys some fails next behind =
    ap (λ k. line_before text k ys) next
    ∙ ap (λ zs. line_before text (next_line n c) zs) behind
    ∙ sym (ap (λ b. if b then Some n else line_before text (next_line n c) cs) fails)

pub ruleset place_lemmas = (before-end, before-here, before-later)
