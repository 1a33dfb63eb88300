-- What the status of a drill says.
use Rattle.dm_cmd_count.proofs.Names.{ℕ, Bool, List, [], ◌∷◌, Option, Result, Ok, Err, Boot, Directive, World, Stop, IsFor, IsDrawn, Ended, ended_with, All, All-nil, All-cons, All-head, All-tail, Notion, Report, CountedSays}
use Rattle.dm_schedule.specs.declared.Directive.TheVariants as directive
use Rattle.dm_schedule.specs.declared.Step.TheVariants as step
use Rattle.dm_ending.specs.declared.stop.Stop.TheVariants as stop

-- what is drawn for so many machines can be done on them
for_machines : (machines : ℕ) (d : Directive) → IsDrawn machines d → IsFor machines d
for_machines machines (directive.One (step.Turn m)) h = h
for_machines machines (directive.One (step.Tick m)) h = h
for_machines machines (directive.One (step.Deliver a b k)) h = h
for_machines machines (directive.One (step.Migrate p m)) h = h
for_machines machines (directive.One (step.CallOff p m)) h = h
for_machines machines directive.Round h = tt
for_machines machines (directive.Spin k) h = absurd h
for_machines machines directive.Settle h = tt
for_machines machines (directive.Rest k) h = absurd h

pub all_for : (machines : ℕ) (ds : List Directive) → All (IsDrawn machines) ds → All (IsFor machines) ds
all_for machines [] h = All-nil (IsFor machines)
all_for machines (d ∷ ds) h = All-cons (IsFor machines) d ds (for_machines machines d (All-head (IsDrawn machines) d ds h)) (all_for machines ds (All-tail (IsDrawn machines) d ds h))

-- what a run comes to that is counted, as a drill is
pub counted_says : (A : Type 0) (r : Notion) (tr : Bool) (k : Report) (b : Boot) (ds : List Directive) (before after : Option (List ℕ)) (w : Option World) (x : Result A Stop) → Ended r tr k b ds before after w x → CountedSays r tr k b ds before after w (ended_with x)
counted_says A r tr k b ds before after w (Ok x) h = h
counted_says A r tr k b ds before after w (Err (stop.NoMemory lack)) h = h
counted_says A r tr k b ds before after w (Err stop.WriteFault) h = h
counted_says A r tr k b ds before after w (Err (stop.Worn from to)) h = h
