-- The instructions that calls with operands stand for, one after the other.
use Rattle.dm_asm.proofs.Names.{◌≡◌, ℕ, zero, suc, ◌+◌, ◌-◌, ◌<◌, List, [], ◌∷◌, ◌++◌, ap, refl, sym, ◌∙◌, arith, append_assoc, append-nil, Option, Result, Ok, Err, Place, Why, ◌>>=◌, bytes_behind}
use Rattle.dm_asm.proofs.Names.{argument_of, cleared, setting, settings}
use Rattle.dm_asm.specs.declared.calls.Argument.{Argument}
use Rattle.dm_asm.specs.declared.calls.Argument.TheVariants.{Value}
use Rattle.dm_asm.specs.declared.calls.CallWord.{CallWord}

-- instructions behind an image and others before them
pub behind-more : (image first : List ℕ) (r : Result (List ℕ) Why) → bytes_behind (image ++ first) r ≡ bytes_behind image (r >>= λ others. Ok (first ++ others))
behind-more image first (Ok bytes) = ap Ok (append_assoc image first bytes)
behind-more image first (Err why) = refl

-- a register is set to its operand
pub settings-more : (places : List ℕ → Option Place) (c : CallWord) (r : ℕ) (image word : List ℕ) (ws : List (List ℕ)) (a : Argument) → Ok a ≡ argument_of places c r word
    → bytes_behind (image ++ setting r a) (settings places c (r + 1) ws) ≡ bytes_behind image (settings places c r (word ∷ ws))
unfolding settings
settings-more places c r image word ws a e = rw (← e) (behind-more image (setting r a) (settings places c (r + 1) ws))

-- an operand is refused
pub settings-refused : (places : List ℕ → Option Place) (c : CallWord) (r : ℕ) (image word : List ℕ) (ws : List (List ℕ)) (why : Why) → Err why ≡ argument_of places c r word
    → bytes_behind image (settings places c r (word ∷ ws)) ≡ Err why
unfolding settings
settings-refused places c r image word ws why e = rw (← e) refl

-- no operand is left
pub settings-none : (places : List ℕ → Option Place) (c : CallWord) (r : ℕ) (image : List ℕ) → bytes_behind image (settings places c r []) ≡ Ok image
unfolding settings
settings-none places c r image = ap Ok (append-nil image)

-- a register more is set to 0
pub cleared-more : (image : List ℕ) (r left : ℕ) → 0 < left → (image ++ setting r (Value 0)) ++ cleared (r + 1) (left - 1) ≡ image ++ cleared r left
unfolding cleared
cleared-more image r zero some = absurd (omega arith)
cleared-more image r (suc left) some =
    let one : suc left - 1 ≡ left = omega arith in
    ap (λ n. (image ++ setting r (Value 0)) ++ cleared (r + 1) n) one ∙ append_assoc image (setting r (Value 0)) (cleared (r + 1) left)

-- none is left
pub cleared-none : (image : List ℕ) (r left : ℕ) → left ≡ 0 → image ≡ image ++ cleared r left
unfolding cleared
cleared-none image r left none = sym (append-nil image) ∙ ap (λ n. image ++ cleared r n) (sym none)
