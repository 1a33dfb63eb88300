-- What the commands promise that run a schedule.
use Rattle.dm_cmd_run.proofs.Names.{ℕ, List, Option, Result, Ok, Err, Boot, Directive, World, Stop, Ended, WriteFault, ended_with, Notion, RunSays}
use Rattle.dm_ending.specs.declared.stop.Stop.TheVariants as stop

-- and says what it has written
pub run_says : (A : Type 0) (r : Notion) (b : Boot) (ds : List Directive) (before after : Option (List ℕ)) (w : Option World) (x : Result A Stop) → Ended r b ds before after w x → RunSays r b ds before after w (ended_with x)
run_says A r b ds before after w (Ok x) h = h
run_says A r b ds before after w (Err (stop.NoMemory lack)) h = h
run_says A r b ds before after w (Err stop.WriteFault) h = h
run_says A r b ds before after w (Err (stop.Worn from to)) h = h
