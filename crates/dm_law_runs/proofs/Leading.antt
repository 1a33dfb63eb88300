-- Good groups are a run by the rule.
use Rattle.dm_law_runs.proofs.Names.{first_point, joined}
use Rattle.dm_law_moves.proofs.Open.Moves.{leads_of}
use Rattle.dm_law_mirror.proofs.Leading.{good_leads}
use Rattle.dm_law_runs.specs.Leading.{GoodIsOfRule}

pub good_is_of_rule : GoodIsOfRule
good_is_of_rule b ds gs end left valid fit good =
    let l = good_leads b ds gs end left valid fit good in
    record { steps = l.0; by_lines = l.1; by_steps = leads_of b l.0 (joined gs) (first_point b) end l.1 }
