use Rattle.dm_boot.proofs.Imports.{ℕ, view, BootRule, images_of, first_broken, image_rules, unless, boot_of_table}
use Rattle.dm_boot.proofs.Parts.{pass-err, whole-stops-images}
use Rattle.dm_boot.proofs.system.read_system.Goals as goal

pub returns-in-Err : goal.returns-in-Err
returns-in-Err c =
    let d = view c.args.document.now.top.now in
    pass-err (unless (first_broken image_rules d) (images_of d)) (boot_of_table d) c.in-Err.e
    (λ (x : BootRule × ℕ) h. whole-stops-images d (images_of d) x h)
    c.in-Err.ensures.images
