use Rattle.dm_cmd_count.proofs.Names.{Status, all_read, passed_on, Alone, FirstOfBoot}
use Rattle.dm_ending.specs.declared.status.Input.TheVariants as input
use Rattle.dm_cmd_count.proofs.own_drill.read_drawn.Goals as goal

pub returns-in_err-boot-clause-said : goal.returns-in_err-boot-clause-said
returns-in_err-boot-clause-said g c =
    passed_on (λ (s : Status). FirstOfBoot (g.F.Shelf.told c.args.shelf.now) c.args.boot.now s c.read_system.new.said.items) c.from_residual.result c.in_err-boot.field-0.0 c.from_residual.ensures c.in_err-boot.ensures.said

pub returns-in-Err-clause-shelf : goal.returns-in-Err-clause-shelf
returns-in-Err-clause-shelf g c = all_read (Alone input.Boot c.args.boot.now) _ _ c.in_ok-boot.ensures.shelf (λ i e. cc)
