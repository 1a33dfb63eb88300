-- Copying part by part.
use Rattle.std.proofs.Common.{drop_of_length-le}
use Rattle.std.proofs.lemmas.List.{append-nil, drop-replicate, length-replicate}
use Rattle.dm_processor.proofs.Names.{ℕ, ◌≡◌, ◌+◌, ◌-◌, ◌≤◌, List, [], ◌++◌, length, take, drop, replicate, ap, sym, ◌∙◌, arith, length-append, take-add, take-append_seam, drop-append-add, length-take-le, take_all, zero-add, common_steps}

-- a list that begins with so many elements of another list
take_seam : (xs ys : List ℕ) (n : ℕ) → length xs ≡ n → take n (xs ++ ys) ≡ xs
take_seam xs ys n e = ap (λ (k : ℕ). take k (xs ++ ys)) (sym e) ∙ take-append_seam xs ys

-- and what follows them
drop_seam : (xs ys : List ℕ) (n k : ℕ) → length xs ≡ n → drop (n + k) (xs ++ ys) ≡ drop k ys
drop_seam xs ys n k e = ap (λ (m : ℕ). drop (m + k) (xs ++ ys)) (sym e) ∙ drop-append-add xs ys k

-- one part more is copied out
pub copied_out : (into new rest m : List ℕ) (done n r at : ℕ) → new ≡ (take done into ++ take n rest) ++ drop (done + length (take n rest)) into → rest ≡ take r (drop (at + done) m) → n ≤ r → n ≤ length rest → done ≤ length into → take done into ≡ take done (drop at m) → take (done + n) new ≡ take (done + n) (drop at m)
copied_out into new rest m done n r at e f i j k h =
    let a : length (take done into) ≡ done = length-take-le done into k in
    let b : length (take n rest) ≡ n = length-take-le n rest j in
    let l : length (take done into ++ take n rest) ≡ done + n = omega (arith, length-append (take done into) (take n rest)) in
    let p : take n rest ≡ take n (drop done (drop at m)) = grind (arith, common_steps, f) in
    ap (λ (x : List ℕ). take (done + n) x) e
    ∙ take_seam (take done into ++ take n rest) _ (done + n) l
    ∙ ap (λ (x : List ℕ). x ++ take n rest) h
    ∙ ap (λ (x : List ℕ). take done (drop at m) ++ x) p
    ∙ sym (take-add done n (drop at m))

-- one part more is copied in
pub copied_in : (m old new from : List ℕ) (at done n : ℕ) → at + done ≤ length m → done + n ≤ length from → old ≡ (take at m ++ take done from) ++ drop (at + done) m → new ≡ (take (at + done) old ++ take n (drop done from)) ++ drop (at + done + n) old → new ≡ (take at m ++ take (done + n) from) ++ drop (at + (done + n)) m
copied_in m old new from at done n i j e f =
    let a : length (take at m) ≡ at = length-take-le at m (omega arith) in
    let b : length (take done from) ≡ done = length-take-le done from (omega arith) in
    let l : length (take at m ++ take done from) ≡ at + done = omega (arith, length-append (take at m) (take done from)) in
    let p : take (at + done) old ≡ take at m ++ take done from = ap (λ (x : List ℕ). take (at + done) x) e ∙ take_seam (take at m ++ take done from) _ (at + done) l in
    let q : drop (at + done + n) old ≡ drop n (drop (at + done) m) = ap (λ (x : List ℕ). drop (at + done + n) x) e ∙ drop_seam (take at m ++ take done from) _ (at + done) n l in
    let s : take (done + n) from ≡ take done from ++ take n (drop done from) = take-add done n from in
    grind (arith, common_steps, f, p, q, s)

-- zeros that begin with an image
pub image_in : (image z now new : List ℕ) (n k len : ℕ) → k ≡ n → length image ≤ n → z ≡ replicate k 0 → now ≡ z → new ≡ image ++ drop (0 + length image) now → n ≤ len → take len (new ++ drop (length new) z) ≡ image ++ replicate (n - length image) 0
image_in image z now new n k len e h zs same w l =
    let f : z ≡ replicate n 0 = zs ∙ ap (λ (j : ℕ). replicate j 0) e in
    let a : new ≡ image ++ replicate (n - length image) 0 = w ∙ ap (λ (j : ℕ). image ++ drop j now) (zero-add (length image)) ∙ ap (λ (t : List ℕ). image ++ drop (length image) t) (same ∙ f) ∙ ap (λ (t : List ℕ). image ++ t) (drop-replicate (length image) n 0) in
    let b : length new ≡ n = ap length a ∙ omega (arith, h, length-append image (replicate (n - length image) 0), length-replicate {A = ℕ} (n - length image) 0) in
    let c : length z ≡ n = ap length f ∙ length-replicate {A = ℕ} n 0 in
    let d : drop (length new) z ≡ [] = drop_of_length-le z (omega (arith, b, c)) in
    ap (λ (t : List ℕ). take len (new ++ t)) d ∙ ap (take len) (append-nil new) ∙ take_all len new (omega (arith, b, l)) ∙ a
