use Rattle.dm_boot.proofs.Imports.{◌≡◌, ℕ, Some, None, Ok, List, ap, sym, ◌∙◌, Items, items_view, view, BootImage, BootRule, ImageText, ImageBytes, before_images, map_items, image_tables, images_of, image_of, broken_or, first_broken}
use Rattle.dm_boot.proofs.Imports.{image_rules, first_unassembled, first_long, unless, unless_at}
use Rattle.dm_boot.proofs.Parts.{images-whole, at-ok, at-err, pass-err, few-images}
use Rattle.dm_boot.proofs.system.read_images.Goals as goal

pub returns-in-Some-clause-images : goal.returns-in-Some-clause-images
returns-in-Some-clause-images c =
    let d = view c.args.document.now.top.now in
    let broken : first_broken before_images d ≡ Some (c.in-Some.rule, c.in-Some.place) = ap (λ (rs : List BootRule). first_broken rs d) (sym c.before_images-before.ensures) ∙ sym c.first_broken.ensures ∙ c.in-Some.is in
    rw (images-whole d, broken)

pub returns-in-Err-clause-images : goal.returns-in-Err-clause-images
returns-in-Err-clause-images c =
    let d = view c.args.document.now.top.now in
    let none : first_broken before_images d ≡ None = ap (λ (rs : List BootRule). first_broken rs d) (sym c.before_images-before.ensures) ∙ sym c.first_broken.ensures ∙ c.in_default.is in
    let ts = items_view c.items_at.result.now in
    let same : ts ≡ image_tables d = c.items_at.ensures in
    pass-err (unless_at ImageText (first_unassembled 0 ts) (map_items image_of ts)) (unless (first_broken image_rules d) (images_of d)) c.in-Err.e
    (λ (x : BootRule × ℕ) h.
    let said : broken_or ImageText (first_unassembled 0 (image_tables d)) (broken_or ImageBytes (first_long 0 (images_of d)) None) ≡ Some x =
    ap (λ (us : Items). broken_or ImageText (first_unassembled 0 us) (broken_or ImageBytes (first_long 0 (images_of d)) None)) (sym same)
    ∙ at-err ImageText (first_unassembled 0 ts) (broken_or ImageBytes (first_long 0 (images_of d)) None) (map_items image_of ts) x h in
    rw (images-whole d, none, said))
    c.in-Err.ensures

pub returns-in-Some-first_long-clause-images : goal.returns-in-Some-first_long-clause-images
returns-in-Some-first_long-clause-images c =
    let d = view c.args.document.now.top.now in
    let none : first_broken before_images d ≡ None = ap (λ (rs : List BootRule). first_broken rs d) (sym c.before_images-before.ensures) ∙ sym c.first_broken.ensures ∙ c.in_default.is in
    let ts = items_view c.items_at.result.now in
    let same : ts ≡ image_tables d = c.items_at.ensures in
    let (all, built) = at-ok ImageText (first_unassembled 0 ts) (map_items image_of ts) c.in-Ok.images c.in-Ok.ensures in
    let texts : first_unassembled 0 (image_tables d) ≡ None = rw (← same) all in
    let long : first_long 0 (images_of d) ≡ Some c.in-Some-first_long.place = rw (← same, built) (ap (first_long 0) (sym c.as_slice.ensures) ∙ sym c.first_long.ensures ∙ c.in-Some-first_long.is) in
    rw (images-whole d, none, texts, long)

pub returns-clause-images : goal.returns-clause-images
returns-clause-images c =
    let d = view c.args.document.now.top.now in
    let none : first_broken before_images d ≡ None = ap (λ (rs : List BootRule). first_broken rs d) (sym c.before_images-before.ensures) ∙ sym c.first_broken.ensures ∙ c.in_default.is in
    let ts = items_view c.items_at.result.now in
    let same : ts ≡ image_tables d = c.items_at.ensures in
    let (all, built) = at-ok ImageText (first_unassembled 0 ts) (map_items image_of ts) c.in-Ok.images c.in-Ok.ensures in
    let texts : first_unassembled 0 (image_tables d) ≡ None = rw (← same) all in
    let whole : images_of d ≡ c.in-Ok.images = rw (← same) built in
    let long : first_long 0 (images_of d) ≡ None = rw whole (ap (first_long 0) (sym c.as_slice.ensures) ∙ sym c.first_long.ensures ∙ c.in_default-first_long.is) in
    rw (images-whole d, none, texts, long) (ap (λ (l : List BootImage). Ok l) whole)

pub returns-clause-few : goal.returns-clause-few
returns-clause-few c =
    let d = view c.args.document.now.top.now in
    let none : first_broken before_images d ≡ None = ap (λ (rs : List BootRule). first_broken rs d) (sym c.before_images-before.ensures) ∙ sym c.first_broken.ensures ∙ c.in_default.is in
    few-images d none
