use Rattle.dm_procman.proofs.Names.{◌≤◌, subst, arith}
use Rattle.dm_statebytes.proofs.Servers.{unpacked_found, unpacked_only}
use Rattle.dm_procman.specs.Packed.{IsSpelledManager, manager_of_bytes, manager_spelling, managing}
use Rattle.dm_procman.proofs.Packed.{managing_is}
use Rattle.dm_procman.proofs.ProcMan.unpack.Goals as goal

pub returns-clause-found : goal.returns-clause-found
unfolding manager_of_bytes manager_spelling
returns-clause-found c = λ few.
    unpacked_found (managing c.args.machines c.args.images) (IsSpelledManager c.args.machines c.args.images) (managing_is c.args.machines c.args.images few) c.args.bytes.now c.manager_at.result (λ i. omega (arith, c.type_inv.bytes i)) c.manager_at.ensures

pub returns-clause-only : goal.returns-clause-only
unfolding manager_of_bytes manager_spelling
returns-clause-only c = λ g fits spelled.
    let few : c.args.machines ≤ 16 = subst (λ m. m ≤ 16) fits.machines fits.lawful.machines in
    unpacked_only (managing c.args.machines c.args.images) (IsSpelledManager c.args.machines c.args.images) (managing_is c.args.machines c.args.images few) c.args.bytes.now c.manager_at.result g c.manager_at.ensures fits spelled
