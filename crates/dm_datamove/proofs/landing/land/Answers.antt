-- What follows from the exact landing.
use Rattle.dm_datamove.proofs.Landings.{IsLawfulLanding, lands_lawfully, lands_plainly}
use Rattle.dm_datamove.proofs.landing.land.Goals as goal

pub returns-clause-plain : goal.returns-clause-plain
returns-clause-plain c =
    lands_plainly c.args.here c.args.process.now c.land_awaited.new.process c.args.message.now c.in_ok-landed.landed c.requires.awaited c.requires.lawful c.in_ok-landed.ensures.exact

pub returns-clause-lawful : goal.returns-clause-lawful
returns-clause-lawful c =
    let l : IsLawfulLanding (record { landed = c.in_ok-landed.landed; process = c.land_awaited.new.process }) =
    lands_lawfully c.args.here c.args.process.now c.land_awaited.new.process c.args.message.now c.in_ok-landed.landed c.requires.here c.requires.lawful c.requires.awaited c.in_ok-landed.ensures.exact
    in
    l.process

pub returns-clause-lawful_next : goal.returns-clause-lawful_next
returns-clause-lawful_next c =
    let l : IsLawfulLanding (record { landed = c.in_ok-landed.landed; process = c.land_awaited.new.process }) =
    lands_lawfully c.args.here c.args.process.now c.land_awaited.new.process c.args.message.now c.in_ok-landed.landed c.requires.here c.requires.lawful c.requires.awaited c.in_ok-landed.ensures.exact
    in
    l.landed
