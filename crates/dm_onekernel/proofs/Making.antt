-- How a process is made of an image of the boot file, one link at a time.
use Rattle.std.specs.Prelude.{◌≡◌, ℕ, zero, suc, ◌+◌, ◌-◌, ◌<◌, ◌≤◌, true, List, [], ◌∷◌, ◌++◌, length, map, replicate, take, slice_get, get_or, IfOk}
use Rattle.std.proofs.Common.{IfErr, IsOk, MatchResult, refl, sym, ap, arith, ◌∙◌}
use Rattle.std.proofs.Math.ListN.{set}
use Rattle.std.proofs.Math.Seq.{set-append_seam}
use Rattle.std.proofs.lemmas.Grind.{common_steps}
use Rattle.std.proofs.lemmas.List.{length-map, take_more}
use Rattle.std.specs.List.{position_or_len}
use Rattle.std.specs.Option.{is_none}
use Rattle.std.specs.declared.option.Option.{Option}
use Rattle.std.specs.declared.option.Option.TheVariants.{None, Some}
use Rattle.std.specs.declared.result.Result.{Result}
use Rattle.std.specs.declared.result.Result.TheVariants.{Ok, Err}
use Rattle.dm_link.specs.declared.Link.{Link}
use Rattle.dm_linktable.specs.Slots.{first_empty}
use Rattle.dm_onekernel.specs.declared.boot.BootImage.{BootImage}
use Rattle.dm_onekernel.specs.Boot.{image_is_valid, images_are_valid}
use Rattle.dm_onekernel.specs.Start.{slots_with}

-- the links before the first empty slot
links_before : (links : List Link) (rest : List (Option Link)) → position_or_len is_none (map Some links ++ None ∷ rest) ≡ length links
links_before [] rest = refl
links_before (l ∷ ls) rest = grind (arith, links_before ls rest)

with_room : (slots : ℕ) (links : List Link) → length links < slots → slots_with slots links ≡ map Some links ++ None ∷ replicate (slots - (length links + 1)) None
with_room slots links h =
    let e : slots - length links ≡ suc (slots - (length links + 1)) = omega arith in ap (λ k. map Some links ++ replicate k None) e

-- the next link goes into the slot after them
pub next_slot : (slots : ℕ) (links : List Link) → length links < slots → first_empty (slots_with slots links) ≡ Some (length links)
next_slot slots links h =
    let rest : List (Option Link) = replicate (slots - (length links + 1)) None in
    let e : slots_with slots links ≡ map Some links ++ None ∷ rest = with_room slots links h in
    let p : position_or_len is_none (map Some links ++ None ∷ rest) ≡ length links = links_before links rest in
    let n : length (map Some links ++ None ∷ rest) ≡ length links + suc (length rest) = grind (arith, common_steps) in
    rw e (grind (arith, p, n))

pub one_more_link : (slots : ℕ) (links : List Link) (l : Link) → length links < slots
    → set (slots_with slots links) (length links) (Some l) ≡ slots_with slots (links ++ l ∷ [])
one_more_link slots links l h =
    let rest : List (Option Link) = replicate (slots - (length links + 1)) None in
    let e : slots_with slots links ≡ map Some links ++ None ∷ rest = with_room slots links h in
    let n : length (map Some links) ≡ length links = length-map links Some in
    let s : set (map Some links ++ None ∷ rest) (length (map Some links)) (Some l) ≡ map Some links ++ Some l ∷ rest = set-append_seam (map Some links) None rest (Some l) in
    let m : length (links ++ l ∷ []) ≡ length links + 1 = grind (arith, common_steps) in
    grind (arith, common_steps, e, n, s, m)

-- an image of a boot file fits its memory
pub image_fits : (images : List BootImage) (i : ℕ) (x : BootImage) → images_are_valid images ≡ true → slice_get images i ≡ Some x → image_is_valid x ≡ true
image_fits [] i x valid at = grind arith
image_fits (y ∷ ys) zero x valid at = grind (arith, common_steps)
image_fits (y ∷ ys) (suc i) x valid at = grind (arith, common_steps, image_fits ys i x)

taken : (links : List Link) (i slots : ℕ) → i < length links → length links ≤ slots → length (take i links) ≡ i
taken links i slots h k = grind (arith, common_steps)

is_ok : (r : Result ℕ Link) (empty : Option ℕ) (n : ℕ) (l : Link) → empty ≡ Some n → IfErr r (λ back. (empty ≡ None) × (back ≡ l)) → IsOk r
is_ok (Ok a) empty n l e h = grind arith
is_ok (Err b) empty n l e h = let f : empty ≡ None = h.0 in cc

-- the table has room for the next link
pub has_room : (r : Result ℕ Link) (slots i : ℕ) (links : List Link) (table : List (Option Link)) (l : Link) → i < length links → length links ≤ slots
    → table ≡ slots_with slots (take i links) → IfErr r (λ back. (first_empty table ≡ None) × (back ≡ l)) → IsOk r
has_room r slots i links table l h k t full =
    let n : length (take i links) ≡ i = taken links i slots h k in
    let m : length (take i links) < slots = omega arith in
    is_ok r (first_empty table) (length (take i links)) l (ap first_empty t ∙ next_slot slots (take i links) m) full

after_put : (r : Result ℕ Link) (empty : Option ℕ) (n : ℕ) (table new : List (Option Link)) (l : Link) → empty ≡ Some n → IsOk r
    → IfOk r (λ slot. empty ≡ Some slot) → MatchResult r (λ slot. new ≡ set table slot (Some l)) (λ _. new ≡ table) → new ≡ set table n (Some l)
after_put (Ok a) empty n table new l e ok slot after = let f : n ≡ a = cc in rw f after
after_put (Err b) empty n table new l e ok slot after = absurd (cc)

-- the link stands after the others
pub puts_next : (r : Result ℕ Link) (slots i : ℕ) (links : List Link) (table new : List (Option Link)) (l : Link) → i < length links → length links ≤ slots
    → table ≡ slots_with slots (take i links) → l ≡ get_or links i l → IfErr r (λ back. (first_empty table ≡ None) × (back ≡ l)) → IfOk r (λ slot. first_empty table ≡ Some slot)
    → MatchResult r (λ slot. new ≡ set table slot (Some l)) (λ _. new ≡ table) → new ≡ slots_with slots (take (i + 1) links)
puts_next r slots i links table new l h k t here full slot after =
    let xs : List Link = take i links in
    let n : length xs ≡ i = taken links i slots h k in
    let m : length xs < slots = omega arith in
    let p : new ≡ set table (length xs) (Some l) = after_put r (first_empty table) (length xs) table new l (ap first_empty t ∙ next_slot slots xs m) (has_room r slots i links table l h k t full) slot after in
    let q : take (i + 1) links ≡ xs ++ l ∷ [] = take_more links i l h ∙ ap (λ x. xs ++ x ∷ []) (sym here) in
    p ∙ ap (λ w. set w (length xs) (Some l)) t ∙ one_more_link slots xs l m ∙ sym (ap (slots_with slots) q)
