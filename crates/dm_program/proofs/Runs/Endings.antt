-- What a run that was worn says, by the rule.
use Rattle.dm_program.proofs.Runs.Names.{◌≡◌, ℕ, List, Boot, Directive, Line, all_of, first_point, WearsAfter}
use Rattle.dm_program.proofs.Names.{by_rule}
use Rattle.dm_run.specs.Printed as run
use Rattle.dm_program.proofs.Runs.Decisions.{Wearing, wears_once}

wearing : (b : Boot) (ds : List Directive) (groups : List (List Line)) (from to : ℕ) (w : WearsAfter b ds groups from to) → Wearing b w.end w.left from to
wearing b ds groups from to w = record { next = w.next; next_is = w.next_is; worn = w.worn }

-- two runs that were worn were worn between the same machines
pub worn_same : (b : Boot) (ds : List Directive) (gs hs : List (List Line)) (from to from' to' : ℕ) → WearsAfter b ds gs from to → WearsAfter b ds hs from' to' → (from ≡ from') × (to ≡ to')
worn_same b ds gs hs from to from' to' w v =
    wears_once b (first_point b) (all_of ds) gs hs w.end v.end w.left v.left from to from' to' w.good.run (wearing b ds gs from to w) v.good.run (wearing b ds hs from' to' v)

-- the same, said of a place
pub wears_after : (b : Boot) (ds : List Directive) (gs : List (List Line)) (from to : ℕ) → run.WearsAfter by_rule b ds gs from to → WearsAfter b ds gs from to
wears_after b ds gs from to w = record { end = w.at.end; left = w.at.left; good = w.good; next = w.worn.next; next_is = w.worn.next_is; worn = w.worn.worn }
