use Rattle.dm_draw.proofs.Names.{rules, ap, length, subst, sym, ◌∙◌, Boot, IsValid, boot_of_machines}
use Rattle.dm_draw.proofs.Valid.{boot_valid}
use Rattle.dm_draw.proofs.Within.{boot_machines}
use Rattle.dm_draw.proofs.boot.drill_boot.Goals as goal

pub returns-clause-boot : goal.returns-clause-boot
unfolding boot_of_machines
returns-clause-boot c = search rules

pub returns-clause-valid : goal.returns-clause-valid
returns-clause-valid c = subst IsValid (sym (returns-clause-boot c)) (boot_valid c.args.machines c.requires.0 c.requires.1)

pub returns-clause-machines : goal.returns-clause-machines
returns-clause-machines c = ap (λ (b : Boot). length b.machines) (returns-clause-boot c) ∙ boot_machines c.args.machines
