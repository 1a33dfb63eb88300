-- What the command `run` promises: with each status that it ends with, what was written by then.
use Rattle.std.specs.Prelude.{ℕ, List}
use Rattle.dm_run.specs.Notion.{Notion}
use Rattle.dm_run.specs.Printed.{IsBegun, IsOfFirst, IsWhole, RunWears}
use Rattle.dm_ending.specs.declared.status.Input.TheVariants as input
use Rattle.dm_front.specs.Asked.{Both}
use Rattle.dm_front.specs.Decided.{RunIsDecided}
use Rattle.dm_front.specs.Firsts.{FirstOfFiles}
use Rattle.dm_front.specs.Promise.{Promise}
use Rattle.dm_front.specs.Runs.{RanSays, RunMeets, RunSaying}

-- what was written of the run of this system by these directives, by a notion of a run
abbrev pub RunSays : Notion → RunSaying
RunSays r b ds before after world s =
    RanSays (IsWhole r b ds before after world) (IsOfFirst r b ds before after) (IsBegun r b ds before after world) (λ from to. RunWears r b ds before after from to) s

-- all that the command promises, with files of these names
abbrev pub run_promise : Notion → List ℕ → List ℕ → Promise
run_promise r boot schedule = record {
  names = Both boot input.Schedule schedule;
  meets = λ a world s. RunMeets (RunSays r) boot schedule a world s;
  first = λ files s said. FirstOfFiles files boot schedule s said;
  refuses = λ files. ⊥;
  decided = λ o s. RunIsDecided r boot schedule o s;
}
