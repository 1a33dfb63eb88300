use Rattle.dm_records.proofs.Names.{rules, refl, sym, IsSome, at}
use Rattle.dm_records.specs.declared.record.Record.TheVariants.{Incoming}
use Rattle.dm_records.proofs.Kept.{same_set}
use Rattle.dm_records.proofs.records.Records.incoming_mut.Goals as goal

pub returns-in-Some : goal.returns-in-Some
returns-in-Some g c =
    let there : IsSome (at c.args.self.now c.args.pid) = search rules in
    let as_before = c.get_mut.follows.holds c.in-Some.entry.now there in
    ((refl, (λ w s. c.get_mut.follows.holds (Incoming w) there), ((λ q. same_set (at c.args.self.now) (at (c.get_mut.follows.lender c.in-Some.entry.now) q) c.args.pid q c.in-Some.entry.now (sym c.in-Some.ensures.value) (as_before.0 q)), as_before.1)), record { writes_back = tt; value = search rules })
