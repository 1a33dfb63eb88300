-- The bytes of a list of blocks, by their places.
use Rattle.dm_processor.proofs.Names.{ℕ, zero, suc, ◌≡◌, ◌+◌, ◌-◌, ◌*◌, ◌<◌, ◌≤◌, List, [], ◌∷◌, ◌++◌, length, take, drop, get_or, replicate, ◌/◌, ◌%◌, zero-add, refl, ap, sym, ◌∙◌, arith, set, length-set, take-append-add, drop-append-add}
use Rattle.dm_processor.proofs.Names.{get_or_append_left, get_or-append-add, set-append_left, set-append_right, take_all, length-take-le, take-append-le, drop-append-le, replicate-append-replicate, common_steps, concat, AreWhole}

-- so many blocks of 256 bytes
pub length-concat : (bs : List (List ℕ)) → AreWhole bs → length (concat bs) ≡ 256 * length bs
length-concat [] w = refl
length-concat (b ∷ bs) w = let e = length-concat bs w.1 in grind (arith, common_steps, e, w.0)

-- a block as long as the one that it replaces
pub AreWhole-set : (bs : List (List ℕ)) (k : ℕ) (b : List ℕ) → AreWhole bs → length b ≡ 256 → AreWhole (set bs k b)
AreWhole-set [] k b w h = tt
AreWhole-set (c ∷ bs) zero b w h = (h, w.1)
AreWhole-set (c ∷ bs) (suc k) b w h = (w.0, AreWhole-set bs k b w.1 h)

-- each block has its length
pub AreWhole-get : (bs : List (List ℕ)) (k : ℕ) (d : List ℕ) → AreWhole bs → k < length bs → length (get_or bs k d) ≡ 256
AreWhole-get [] k d w h = absurd (omega arith)
AreWhole-get (b ∷ bs) zero d w h = w.0
AreWhole-get (b ∷ bs) (suc k) d w h = AreWhole-get bs k d w.1 (omega arith)

-- a byte, by its block and its place in it
pub concat-get : (bs : List (List ℕ)) (k j : ℕ) (d : List ℕ) → AreWhole bs → k < length bs → j < 256 → get_or (concat bs) (256 * k + j) 0 ≡ get_or (get_or bs k d) j 0
concat-get [] k j d w h i = absurd (omega arith)
concat-get (b ∷ bs) zero j d w h i = rw (zero-add j) (get_or_append_left b (concat bs) 0 j (omega (arith, w.0)))
concat-get (b ∷ bs) (suc k) j d w h i =
    let e : 256 * suc k + j ≡ length b + (256 * k + j) = omega (arith, w.0) in
    rw (e, get_or-append-add) (concat-get bs k j d w.1 (omega arith) i)

-- a part of a block, by its place in all
pub concat-part : (bs : List (List ℕ)) (k j n : ℕ) (d : List ℕ) → AreWhole bs → k < length bs → j + n ≤ 256 → take n (drop (256 * k + j) (concat bs)) ≡ take n (drop j (get_or bs k d))
concat-part [] k j n d w h i = absurd (omega arith)
concat-part (b ∷ bs) zero j n d w h i =
    grind (arith, common_steps, w.0, drop-append-le j b (concat bs) (omega (arith, w.0)))
concat-part (b ∷ bs) (suc k) j n d w h i =
    let e : 256 * suc k + j ≡ length b + (256 * k + j) = omega (arith, w.0) in
    rw (e, drop-append-add) (concat-part bs k j n d w.1 (omega arith) i)

-- a change of a part of a block, by its place in all
pub concat-write : (bs : List (List ℕ)) (k j : ℕ) (x d : List ℕ) → AreWhole bs → k < length bs → j + length x ≤ 256 → concat (set bs k ((take j (get_or bs k d) ++ x) ++ drop (j + length x) (get_or bs k d))) ≡ (take (256 * k + j) (concat bs) ++ x) ++ drop (256 * k + j + length x) (concat bs)
concat-write [] k j x d w h i = absurd (omega arith)
concat-write (b ∷ bs) zero j x d w h i =
    grind (arith, common_steps, w.0, take-append-le j b (concat bs) (omega (arith, w.0)), drop-append-le (j + length x) b (concat bs) (omega (arith, w.0)))
concat-write (b ∷ bs) (suc k) j x d w h i =
    let e : 256 * suc k + j ≡ length b + (256 * k + j) = omega (arith, w.0) in
    let f : 256 * suc k + j + length x ≡ length b + (256 * k + j + length x) = omega (arith, w.0) in
    rw (f, e, take-append-add, drop-append-add)
    (grind (arith, common_steps, concat-write bs k j x d w.1 (omega arith) i))

-- a change of a byte, by its block and its place in it
pub concat-set : (bs : List (List ℕ)) (k j v : ℕ) (d : List ℕ) → AreWhole bs → k < length bs → j < 256 → concat (set bs k (set (get_or bs k d) j v)) ≡ set (concat bs) (256 * k + j) v
concat-set [] k j v d w h i = absurd (omega arith)
concat-set (b ∷ bs) zero j v d w h i = rw (zero-add j) (sym (set-append_left b (concat bs) j v (omega (arith, w.0))))
concat-set (b ∷ bs) (suc k) j v d w h i =
    let e : 256 * suc k + j - 256 ≡ 256 * k + j = omega arith in
    rw (set-append_right b (concat bs) 256 (256 * suc k + j) v w.0 (omega arith), e)
    (ap (λ (r : List ℕ). b ++ r) (concat-set bs k j v d w.1 (omega arith) i))

-- blocks of zeros
pub concat-zeros : (n : ℕ) → concat (replicate n (replicate 256 0)) ≡ replicate (256 * n) 0
concat-zeros zero = refl
concat-zeros (suc n) =
    let e : 256 + 256 * n ≡ 256 * suc n = omega arith in
    ap (λ (r : List ℕ). replicate 256 0 ++ r) (concat-zeros n) ∙ replicate-append-replicate 256 (256 * n) 0 ∙ ap (λ (m : ℕ). replicate m 0) e

-- blocks of zeros are whole
pub AreWhole-zeros : (n : ℕ) → AreWhole (replicate n (replicate 256 0))
AreWhole-zeros zero = tt
AreWhole-zeros (suc n) = (refl, AreWhole-zeros n)

-- the block of a byte
pub block_below : (bs : List (List ℕ)) (at : ℕ) → AreWhole bs → at < length (concat bs) → at / 256 < length bs
block_below bs at w h = omega (arith, length-concat bs w)

-- a byte, by its place in all
pub byte-concat : (bs : List (List ℕ)) (at : ℕ) → AreWhole bs → at < length (concat bs) → get_or (get_or bs (at / 256) []) (at % 256) 0 ≡ get_or (concat bs) at 0
byte-concat bs at w h =
    let e : 256 * (at / 256) + at % 256 ≡ at = omega arith in
    let f : at / 256 < length bs = block_below bs at w h in
    sym (concat-get bs (at / 256) (at % 256) [] w f (omega arith)) ∙ ap (λ (k : ℕ). get_or (concat bs) k 0) e

-- a change of a byte, by its place in all
pub set-concat : (bs : List (List ℕ)) (at v : ℕ) → AreWhole bs → at < length (concat bs) → concat (set bs (at / 256) (set (get_or bs (at / 256) []) (at % 256) v)) ≡ set (concat bs) at v
set-concat bs at v w h =
    let e : 256 * (at / 256) + at % 256 ≡ at = omega arith in
    let f : at / 256 < length bs = block_below bs at w h in
    concat-set bs (at / 256) (at % 256) v [] w f (omega arith) ∙ ap (λ (k : ℕ). set (concat bs) k v) e

-- the blocks stay whole when a byte changes
pub AreWhole-set_byte : (bs : List (List ℕ)) (at v : ℕ) → AreWhole bs → at < length (concat bs) → AreWhole (set bs (at / 256) (set (get_or bs (at / 256) []) (at % 256) v))
AreWhole-set_byte bs at v w h =
    let f : at / 256 < length bs = block_below bs at w h in
    AreWhole-set bs (at / 256) _ w (length-set (get_or bs (at / 256) []) (at % 256) v ∙ AreWhole-get bs (at / 256) [] w f)

-- the rest of a block, by its place in all
pub rest-concat : (bs : List (List ℕ)) (at : ℕ) → AreWhole bs → at < length (concat bs) → take (length (get_or bs (at / 256) []) - at % 256) (drop (at % 256) (get_or bs (at / 256) [])) ≡ take (256 - at % 256) (drop at (concat bs))
rest-concat bs at w h =
    let e : 256 * (at / 256) + at % 256 ≡ at = omega arith in
    let f : at / 256 < length bs = block_below bs at w h in
    let l : length (get_or bs (at / 256) []) ≡ 256 = AreWhole-get bs (at / 256) [] w f in
    ap (λ (n : ℕ). take (n - at % 256) (drop (at % 256) (get_or bs (at / 256) []))) l
    ∙ sym (concat-part bs (at / 256) (at % 256) (256 - at % 256) [] w f (omega arith))
    ∙ ap (λ (k : ℕ). take (256 - at % 256) (drop k (concat bs))) e

-- the four bytes of a word stand in one block
pub four_concat : (bs : List (List ℕ)) (at : ℕ) → AreWhole bs → at + 4 ≤ length (concat bs) → at % 4 ≡ 0 → take 4 (drop (at % 256) (get_or bs (at / 256) [])) ≡ take 4 (drop at (concat bs))
four_concat bs at w h aligned =
    let e : 256 * (at / 256) + at % 256 ≡ at = omega arith in
    let f : at / 256 < length bs = block_below bs at w (omega arith) in
    sym (concat-part bs (at / 256) (at % 256) 4 [] w f (omega arith)) ∙ ap (λ (k : ℕ). take 4 (drop k (concat bs))) e

-- how long the rest of a block is
pub length-rest : (bs : List (List ℕ)) (at : ℕ) → AreWhole bs → at < length (concat bs) → length (get_or bs (at / 256) []) ≡ 256
length-rest bs at w h = AreWhole-get bs (at / 256) [] w (block_below bs at w h)

-- a change of a part of a block, by its place in all
pub write-concat : (bs : List (List ℕ)) (at : ℕ) (x : List ℕ) → AreWhole bs → at < length (concat bs) → at % 256 + length x ≤ 256 → concat (set bs (at / 256) ((take (at % 256) (get_or bs (at / 256) []) ++ x) ++ drop (at % 256 + length x) (get_or bs (at / 256) []))) ≡ (take at (concat bs) ++ x) ++ drop (at + length x) (concat bs)
write-concat bs at x w h i =
    let e : 256 * (at / 256) + at % 256 ≡ at = omega arith in
    let f : at / 256 < length bs = block_below bs at w h in
    concat-write bs (at / 256) (at % 256) x [] w f i ∙ ap (λ (k : ℕ). (take k (concat bs) ++ x) ++ drop (k + length x) (concat bs)) e

-- the blocks stay whole when a part of one changes
pub AreWhole-write : (bs : List (List ℕ)) (at : ℕ) (x : List ℕ) → AreWhole bs → at < length (concat bs) → at % 256 + length x ≤ 256 → AreWhole (set bs (at / 256) ((take (at % 256) (get_or bs (at / 256) []) ++ x) ++ drop (at % 256 + length x) (get_or bs (at / 256) [])))
AreWhole-write bs at x w h i =
    let f : at / 256 < length bs = block_below bs at w h in
    let l : length (get_or bs (at / 256) []) ≡ 256 = AreWhole-get bs (at / 256) [] w f in
    AreWhole-set bs (at / 256) _ w (grind (arith, common_steps, l))

-- what was written to a block, by its place in all
pub concat-written : (bs : List (List ℕ)) (at n : ℕ) (x new : List ℕ) → AreWhole bs → at < length (concat bs) → n ≤ length x → at % 256 + n ≤ 256 → new ≡ (take (at % 256) (get_or bs (at / 256) []) ++ take n x) ++ drop (at % 256 + length (take n x)) (get_or bs (at / 256) []) → concat (set bs (at / 256) new) ≡ (take at (concat bs) ++ take n x) ++ drop (at + n) (concat bs)
concat-written bs at n x new w h i j e =
    let l : length (take n x) ≡ n = length-take-le n x i in
    ap (λ (b : List ℕ). concat (set bs (at / 256) b)) e
    ∙ write-concat bs at (take n x) w h (omega (arith, l))
    ∙ ap (λ (k : ℕ). (take at (concat bs) ++ take n x) ++ drop (at + k) (concat bs)) l

-- what was written to a block leaves the blocks whole
pub AreWhole-written : (bs : List (List ℕ)) (at n : ℕ) (x new : List ℕ) → AreWhole bs → at < length (concat bs) → n ≤ length x → at % 256 + n ≤ 256 → new ≡ (take (at % 256) (get_or bs (at / 256) []) ++ take n x) ++ drop (at % 256 + length (take n x)) (get_or bs (at / 256) []) → AreWhole (set bs (at / 256) new)
AreWhole-written bs at n x new w h i j e =
    let l : length (take n x) ≡ n = length-take-le n x i in
    rw e (AreWhole-write bs at (take n x) w h (omega (arith, l)))

-- what follows a block
drop_seam : (b r : List ℕ) (n k : ℕ) → length b ≡ k → drop (k + n) (b ++ r) ≡ drop n r
drop_seam b r n k e = rw (← e) (drop-append-add b r n)

-- a whole block, by its place in all
pub block-concat : (bs : List (List ℕ)) (k : ℕ) → AreWhole bs → k < length bs → get_or bs k [] ≡ take 256 (drop (256 * k) (concat bs))
block-concat bs k w h =
    let l : length (get_or bs k []) ≡ 256 = AreWhole-get bs k [] w h in
    let e : 256 * k + 0 ≡ 256 * k = omega arith in
    sym (take_all 256 (get_or bs k []) (omega (arith, l)))
    ∙ sym (concat-part bs k 0 256 [] w h (omega arith))
    ∙ ap (λ (n : ℕ). take 256 (drop n (concat bs))) e

-- another block, by its place in all
pub put-concat : (bs : List (List ℕ)) (k : ℕ) (new : List ℕ) → AreWhole bs → k < length bs → length new ≡ 256 → concat (set bs k new) ≡ (take (256 * k) (concat bs) ++ new) ++ drop (256 * k + 256) (concat bs)
put-concat [] k new w h i = absurd (omega arith)
put-concat (b ∷ bs) zero new w h i =
    let e : drop (256 + 0) (b ++ concat bs) ≡ drop 0 (concat bs) = drop_seam b (concat bs) 0 256 w.0 in
    ap (λ (r : List ℕ). new ++ r) (sym e)
put-concat (b ∷ bs) (suc k) new w h i =
    let e : 256 * suc k ≡ length b + 256 * k = omega (arith, w.0) in
    let f : 256 * suc k + 256 ≡ length b + (256 * k + 256) = omega (arith, w.0) in
    rw (f, e, take-append-add, drop-append-add)
    (grind (arith, common_steps, put-concat bs k new w.1 (omega arith) i))

-- a list of blocks, by the places of its bytes
pub ruleset places = (block_below, byte-concat, set-concat, AreWhole-set_byte, rest-concat, length-rest, write-concat, AreWhole-write, length-concat, block-concat, put-concat, AreWhole-set)
