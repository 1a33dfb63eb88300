-- What a place is set to is what stands there, and the other places stay.
use Rattle.dm_records.proofs.Names.{IsSome, refl, rules, get, pid_cmp, at, pred_at}
use Rattle.std.specs.Option.{option_map_or}
use Rattle.std.specs.Prelude.{false, option_and_then}
use Rattle.std.proofs.Common.{Some}
use Rattle.dm_records.specs.Records.{known_in, precedes}
use Rattle.dm_records.proofs.Kept.{seen_kept, seen_set}
use Rattle.dm_records.proofs.records.Records.get_mut.Goals as goal

pub returns-in-Some : goal.returns-in-Some
unfolding at pred_at
returns-in-Some g c =
    let there : IsSome (get pid_cmp c.args.self.now.places c.args.pid) = search rules in
    let old = get pid_cmp c.args.self.now.places in
    ((refl, (λ w s. ((λ q. seen_set (λ o. option_and_then known_in o) old (get pid_cmp (c.get_mut.follows.lender (record { known = Some w; predecessors = c.get_mut-in-Some.result.now.predecessors })) q) c.args.pid q (record { known = Some w; predecessors = c.get_mut-in-Some.result.now.predecessors }) (((c.get_mut.follows.holds (record { known = Some w; predecessors = c.get_mut-in-Some.result.now.predecessors })).3 there).0 q)), (λ q n. seen_kept (λ o. option_map_or (λ place. precedes place n) o false) old (get pid_cmp (c.get_mut.follows.lender (record { known = Some w; predecessors = c.get_mut-in-Some.result.now.predecessors })) q) c.args.pid q (record { known = Some w; predecessors = c.get_mut-in-Some.result.now.predecessors }) (search rules) (((c.get_mut.follows.holds (record { known = Some w; predecessors = c.get_mut-in-Some.result.now.predecessors })).3 there).0 q)))), ((λ q. seen_kept (λ o. option_and_then known_in o) old (get pid_cmp (c.get_mut.follows.lender (record { known = c.get_mut-in-Some.result.now.known; predecessors = c.get_mut-in-Some.result.now.predecessors })) q) c.args.pid q (record { known = c.get_mut-in-Some.result.now.known; predecessors = c.get_mut-in-Some.result.now.predecessors }) (search rules) (((c.get_mut.follows.holds (record { known = c.get_mut-in-Some.result.now.known; predecessors = c.get_mut-in-Some.result.now.predecessors })).3 there).0 q)), (λ q n. seen_kept (λ o. option_map_or (λ place. precedes place n) o false) old (get pid_cmp (c.get_mut.follows.lender (record { known = c.get_mut-in-Some.result.now.known; predecessors = c.get_mut-in-Some.result.now.predecessors })) q) c.args.pid q (record { known = c.get_mut-in-Some.result.now.known; predecessors = c.get_mut-in-Some.result.now.predecessors }) (search rules) (((c.get_mut.follows.holds (record { known = c.get_mut-in-Some.result.now.known; predecessors = c.get_mut-in-Some.result.now.predecessors })).3 there).0 q)))), record { writes_back = tt; value = search rules })
