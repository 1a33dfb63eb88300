-- A file that is read piece by piece.
use Rattle.dm_front.proofs.Names.{◌≡◌, ℕ, ◌+◌, ◌-◌, ◌≤◌, List, ◌++◌, length, take, drop, ap, sym, subst, ◌∙◌, append_assoc, length-append, arith, length-drop, Option, Ok, None, Some, take-append-drop, length-take-le, drop-drop, ReadsFile}
use Rattle.dm_front.proofs.Names.{ReadsTold, StartsSo, SoFar}

-- the bytes after those that were read, once more were read
pub rest_after : (content bytes into : List ℕ) (n : ℕ) → take n into ≡ take n (drop (length bytes) content) → n ≤ length content - length bytes → content ≡ bytes ++ drop (length bytes) content → content ≡ (bytes ++ take n into) ++ drop (length (bytes ++ take n into)) content
rest_after content bytes into n t w s =
    let R : List ℕ = drop (length bytes) content in
    let e : length (bytes ++ take n into) ≡ length bytes + n =
    length-append bytes (take n into) ∙ ap (λ l. length bytes + length l) t ∙ ap (λ k. length bytes + k) (length-take-le n R (omega (arith, length-drop (length bytes) content))) in
    s
    ∙ ap (λ r. bytes ++ r) (sym (take-append-drop n R))
    ∙ sym (append_assoc bytes (take n R) (drop n R))
    ∙ ap (λ l. (bytes ++ l) ++ drop n R) (sym t)
    ∙ ap (λ r. (bytes ++ take n into) ++ r) (drop-drop n (length bytes) content ∙ ap (λ k. drop k content) (sym e))

-- one more piece
pub starts_more : (E : Type 0) (content : Option (List ℕ)) (bytes into : List ℕ) (n : ℕ) → ReadsFile {E = E} content (length bytes) (Ok n) into → StartsSo content bytes → StartsSo content (bytes ++ take n into)
starts_more E None bytes into n r s = cc
starts_more E (Some content) bytes into n r s = rest_after content bytes into n r.next r.left s

pub so_far_more : (E : Type 0) (told : Option (List ℕ → Option (List ℕ))) (name bytes into new : List ℕ) (n from : ℕ) → ReadsTold {E = E} told name from (Ok n) into → from ≡ length bytes → new ≡ bytes ++ take n into → SoFar told name bytes → SoFar told name new
so_far_more E None name bytes into new n from r f e s = s
so_far_more E (Some files) name bytes into new n from r f e s =
    subst (λ b. StartsSo (files name) b) (sym e) (starts_more E (files name) bytes into n (subst (λ k. ReadsFile {E = E} (files name) k (Ok n) into) f r) s)
