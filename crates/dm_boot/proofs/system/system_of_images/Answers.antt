use Rattle.dm_boot.proofs.Imports.{◌≡◌, ℕ, ◌++◌, sym, view, BootRule, images_of, machines_of, processes_of, system_of, first_broken, process_rules, link_rules, unless, boot_of_table}
use Rattle.dm_boot.proofs.Parts.{unless-ok, pass-err, whole-stops-later, whole-ok}
use Rattle.dm_boot.proofs.system.system_of_images.Goals as goal

pub returns-in-Err-read_linked : goal.returns-in-Err-read_linked
returns-in-Err-read_linked c =
    let d = view c.args.document.now.top.now in
    pass-err (unless (first_broken (process_rules ++ link_rules) d) (processes_of d)) (boot_of_table d) c.in-Err-read_linked.e
    (λ (x : BootRule × ℕ) h. whole-stops-later d (processes_of d) x c.requires.none h)
    c.in-Err-read_linked.ensures

pub returns-in-Ok-read_linked : goal.returns-in-Ok-read_linked
returns-in-Ok-read_linked c =
    let d = view c.args.document.now.top.now in
    let (none_later, processes) = unless-ok (first_broken (process_rules ++ link_rules) d) (processes_of d) c.in-Ok-read_linked.processes c.in-Ok-read_linked.ensures in
    let machines : machines_of d ≡ c.in-Ok.machines = cc (c.in-Ok.ensures, c.items_at.ensures) in
    let images : images_of d ≡ c.args.images = sym c.requires.images in
    let built : system_of d ≡ c.system_with.result = rw (machines, images, processes) (sym c.system_with.ensures) in
    whole-ok d c.system_with.result c.requires.none none_later built
