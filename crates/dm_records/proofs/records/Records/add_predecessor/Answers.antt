use Rattle.std.specs.Prelude.{option_and_then}
use Rattle.dm_records.proofs.Names.{rules, get, pid_cmp, at}
use Rattle.dm_records.specs.Records.{HasPlace, known_in}
use Rattle.dm_records.proofs.Kept.{seen_kept, seen_set, still_some}
use Rattle.dm_records.proofs.records.Records.add_predecessor.Goals as goal

pub returns-clause-records : goal.returns-clause-records
unfolding at
returns-clause-records g c = λ q.
    seen_kept (λ o. option_and_then known_in o) (get pid_cmp c.args.self.now.places) (get pid_cmp (c.get_mut.follows.lender (record { known = c.get_mut-place.result.now.known; predecessors = c.with-place.result })) q) c.args.pid q (record { known = c.get_mut-place.result.now.known; predecessors = c.with-place.result }) (search rules) (search rules)

pub returns-clause-places : goal.returns-clause-places
unfolding HasPlace
returns-clause-places g c = λ q s.
    still_some (get pid_cmp c.args.self.now.places) (get pid_cmp (c.get_mut.follows.lender (record { known = c.get_mut-place.result.now.known; predecessors = c.with-place.result })) q) c.args.pid q (record { known = c.get_mut-place.result.now.known; predecessors = c.with-place.result }) (seen_set (λ o. o) (get pid_cmp c.args.self.now.places) (get pid_cmp (c.get_mut.follows.lender (record { known = c.get_mut-place.result.now.known; predecessors = c.with-place.result })) q) c.args.pid q (record { known = c.get_mut-place.result.now.known; predecessors = c.with-place.result }) (search rules)) s
