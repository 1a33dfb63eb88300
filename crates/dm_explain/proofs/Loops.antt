-- Loops that look for the first that isn't good, and for a line.
use Rattle.dm_explain.proofs.Names.{◌≡◌, ℕ, ◌+◌, ◌-◌, ◌<◌, ◌≤◌, zero, suc, Bool, true, false, ◌||◌, if◌then◌else◌, List, [], ◌∷◌, length, get_or, drop, map, slice_get, refl, ap, ◌∙◌, None, arith, drop_of_length-le, Value, Data}
use Rattle.dm_explain.proofs.Names.{get_item, items_view, has_another, has_only, is_later, first_bad, key_fault, other_keys_told, wish_fault, Wish, line_or_nothing}
use Rattle.dm_explain.proofs.Pieces.{get_or_same, read_at}

pub bad-end : {K W : Type 0} (f : K → W) (good : W → Bool) (told : W → List ℕ) (other : List ℕ) (ks : List K) (i : ℕ) → length ks ≤ i → first_bad good told other (map f (drop i ks)) ≡ other
unfolding first_bad
bad-end f good told other ks i past = ap (λ ys. first_bad good told other (map f ys)) (drop_of_length-le ks past)

pub bad-more : {K W : Type 0} (f : K → W) (good : W → Bool) (told : W → List ℕ) (other : List ℕ) (ks : List K) (i : ℕ) (k : K) → i < length ks → k ≡ get_or ks i k → good (f k) ≡ true → first_bad good told other (map f (drop i ks)) ≡ first_bad good told other (map f (drop (i + 1) ks))
unfolding first_bad
bad-more f good told other ks i k within read passes =
    ap (λ ys. first_bad good told other (map f ys)) (read_at ks i k within read)
    ∙ ap (λ t. if t then first_bad good told other (map f (drop (i + 1) ks)) else told (f k)) passes

pub bad-here : {K W : Type 0} (f : K → W) (good : W → Bool) (told : W → List ℕ) (other : List ℕ) (ks : List K) (i : ℕ) (k : K) → i < length ks → k ≡ get_or ks i k → good (f k) ≡ false → first_bad good told other (map f (drop i ks)) ≡ told (f k)
unfolding first_bad
bad-here f good told other ks i k within read fails =
    ap (λ ys. first_bad good told other (map f ys)) (read_at ks i k within read)
    ∙ ap (λ t. if t then first_bad good told other (map f (drop (i + 1) ks)) else told (f k)) fails

-- the same of elements that are copied
pub bad-more-copied : {K W : Type 0} (f : K → W) (good : W → Bool) (told : W → List ℕ) (other : List ℕ) (ks : List K) (i : ℕ) (d : K) → i < length ks → good (f (get_or ks i d)) ≡ true → first_bad good told other (map f (drop i ks)) ≡ first_bad good told other (map f (drop (i + 1) ks))
bad-more-copied f good told other ks i d within passes = bad-more f good told other ks i (get_or ks i d) within (get_or_same ks i d (get_or ks i d) within) passes

pub bad-here-copied : {K W : Type 0} (f : K → W) (good : W → Bool) (told : W → List ℕ) (other : List ℕ) (ks : List K) (i : ℕ) (d : K) → i < length ks → good (f (get_or ks i d)) ≡ false → first_bad good told other (map f (drop i ks)) ≡ told (f (get_or ks i d))
bad-here-copied f good told other ks i d within fails = bad-here f good told other ks i (get_or ks i d) within (get_or_same ks i d (get_or ks i d) within) fails

pub ruleset bad_lemmas = (bad-end, bad-more, bad-here)

-- keys that aren't those that a table may have
pub other-keys : (ws : List Wish) (other : List ℕ) (d : Data) → has_only (map (λ w. w.key) ws) d ≡ false → key_fault ws other d ≡ other_keys_told ws (map (λ w. w.key) ws) d
unfolding key_fault
other-keys ws other d fails = ap (λ b. if b then wish_fault ws other d else other_keys_told ws (map (λ w. w.key) ws) d) fails

-- the first of some lines, and a later one
pub line-first : (ls : List (List ℕ)) (l : List ℕ) (rest : List (List ℕ)) (left : ℕ) → ls ≡ l ∷ rest → left ≡ 0 → line_or_nothing (slice_get ls left) ≡ l
line-first ls l rest left is none = ap (λ xs. line_or_nothing (slice_get xs left)) is ∙ ap (λ n. line_or_nothing (slice_get (l ∷ rest) n)) none

pub line-later : (ls : List (List ℕ)) (l : List ℕ) (rest : List (List ℕ)) (left : ℕ) → ls ≡ l ∷ rest → (left ≡ 0 → ⊥) → line_or_nothing (slice_get ls left) ≡ line_or_nothing (slice_get rest (left - 1))
line-later ls l rest zero is some = absurd (some refl)
line-later ls l rest (suc left) is some =
    let one : left ≡ suc left - 1 = omega arith in
    ap (λ xs. line_or_nothing (slice_get xs (suc left))) is ∙ ap (λ n. line_or_nothing (slice_get rest n)) one

pub ruleset line_lemmas = (line-first, line-later)

-- no element stands behind the last
pub missing-item : (vs : List Value) (k : ℕ) → length vs ≤ k → get_item k (items_view vs) ≡ None
missing-item [] k past = refl
missing-item (v ∷ vs) zero past = absurd (omega arith)
missing-item (v ∷ vs) (suc k) past = missing-item vs k (omega arith)

pub ruleset missing_lemmas = (missing-item)

-- whether a part has its first among the elements from a place on
pub another-end : (last : ℕ) (ns : List ℕ) (i : ℕ) → length ns ≤ i → has_another last i (drop i ns) ≡ false
unfolding has_another
another-end last ns i past = ap (has_another last i) (drop_of_length-le ns past)

another-at : (last : ℕ) (ns : List ℕ) (i d : ℕ) → i < length ns → has_another last i (drop i ns) ≡ is_later last i (get_or ns i d) || has_another last (i + 1) (drop (i + 1) ns)
unfolding has_another
another-at last ns i d within = ap (has_another last i) (read_at ns i (get_or ns i d) within (get_or_same ns i d (get_or ns i d) within))

pub another-more : (last : ℕ) (ns : List ℕ) (i d : ℕ) → i < length ns → is_later last i (get_or ns i d) ≡ false → has_another last i (drop i ns) ≡ has_another last (i + 1) (drop (i + 1) ns)
another-more last ns i d within fails = another-at last ns i d within ∙ ap (λ b. b || has_another last (i + 1) (drop (i + 1) ns)) fails

pub another-here : (last : ℕ) (ns : List ℕ) (i d : ℕ) → i < length ns → is_later last i (get_or ns i d) ≡ true → has_another last i (drop i ns) ≡ true
another-here last ns i d within holds = another-at last ns i d within ∙ ap (λ b. b || has_another last (i + 1) (drop (i + 1) ns)) holds
