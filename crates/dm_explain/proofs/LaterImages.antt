-- The texts of images behind a place, image by image.
use Rattle.dm_explain.proofs.Names.{◌≡◌, ℕ, ◌+◌, ◌<◌, ◌≤◌, if◌then◌else◌, List, [], ◌++◌, length, get_or, drop, ap, sym, ◌∙◌, append_assoc, append-nil, codes, Value, items_view, view, later_images}
use Rattle.std.specs.Prelude.{nat_lt}
use Rattle.dm_boot.proofs.Elements.{element_at, no_more}
use Rattle.dm_boot.specs.Tables.{text_at}
use Rattle.dm_explain.specs.Told.{whole_program_told}

-- no image is left
pub images-end : (file : List ℕ) (place : ℕ) (done : List ℕ) (vs : List Value) (i : ℕ) → length vs ≤ i → done ++ later_images file place i (items_view (drop i vs)) ≡ done
unfolding later_images
images-end file place done vs i past = ap (λ ts. done ++ later_images file place i ts) (no_more vs i past) ∙ append-nil done

-- an image was told, where it stands behind the place, and others are left
pub images-more : (file : List ℕ) (place : ℕ) (done : List ℕ) (vs : List Value) (i : ℕ) (v : Value) → i < length vs → v ≡ get_or vs i v
    → done ++ later_images file place i (items_view (drop i vs)) ≡ (done ++ (if nat_lt place i then whole_program_told file (view v) (text_at (codes "text") (view v)) else [])) ++ later_images file place (i + 1) (items_view (drop (i + 1) vs))
unfolding later_images
images-more file place done vs i v within read =
    ap (λ ts. done ++ later_images file place i ts) (element_at vs i v within read)
    ∙ sym (append_assoc done (if nat_lt place i then whole_program_told file (view v) (text_at (codes "text") (view v)) else []) (later_images file place (i + 1) (items_view (drop (i + 1) vs))))
