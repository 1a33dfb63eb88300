use Rattle.dm_migrate.proofs.Names.{◌∙◌, ap, refl, Err}
use Rattle.dm_procman.specs.Packed.{manager_of_bytes}
use Rattle.dm_migrate.proofs.Servers.{once_more, spelled_so}
use Rattle.dm_migrate.proofs.arriving.manager_of.Goals as goal

pub moved-requires : goal.moved-requires
moved-requires c =
    let whole = c.requires.manager refl c.args.machines c.args.images in
    once_more whole.0 c.in-Ok.manager (manager_of_bytes c.args.machines c.args.images c.args.state.now) whole.1 c.in-Ok.ensures.exact whole.2

pub unreachable-requires : goal.unreachable-requires
unreachable-requires c =
    let whole = c.requires.manager refl c.args.machines c.args.images in
    spelled_so c.unpack.result c.in-Err-StateBytes.field-0-0 whole.0 (manager_of_bytes c.args.machines c.args.images c.args.state.now) whole.1 (c.in-Err-StateBytes.is ∙ ap Err c.in-Err-StateBytes.field-0-is) c.unpack.ensures.exact
