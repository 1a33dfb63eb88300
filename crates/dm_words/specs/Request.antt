-- What the program is asked to do: a command, and what its words name.
use Rattle.std.specs.Prelude.{ℕ, Bool, List}
use Rattle.std.specs.declared.option.Option.{Option}
use Rattle.dm_draw.specs.declared.drill.Drill.{Drill as TheDrill}
use Rattle.dm_draw.specs.declared.drill.OwnDrill.{OwnDrill as TheOwnDrill}
use Rattle.dm_words.specs.declared.explore.Exploration.{Exploration}

-- a row a command
pub data Request : Type 0 where
  -- to run the schedule of the second name on the system of the boot file of the first
  Run : (boot : List ℕ) → (schedule : List ℕ) → Request
  -- to check that the trace of the second name is what the system of the boot file of the first prints
  Check : (boot : List ℕ) → (trace : List ℕ) → Request
  -- to check that the labels of the second name are steps of one kernel without machines, from the boot file of the first on
  CheckLabels : (boot : List ℕ) → (labels : List ℕ) → Request
  -- to draw the run of the schedule of the second name on the system of the boot file of the first: the groups from a number to a
  -- number, where these are there
  Chart : (boot : List ℕ) → (schedule : List ℕ) → (first last : Option ℕ) → Request
  -- to say what the boot file of the first name says, and the schedule of the second where there is one, or what is wrong
  Explain : (boot : List ℕ) → (schedule : Option (List ℕ)) → Request
  -- to check that trace too, and to say what was due where it isn't so
  Judge : (boot : List ℕ) → (trace : List ℕ) → Request
  -- to run the schedule of the second name on the system of the boot file of the first, and count what happens
  Count : (boot : List ℕ) → (schedule : List ℕ) → Request
  -- to say where the run of the schedule of the second name stands behind so many groups, and what is in the messages, with the names
  -- of the boot file's processes or without
  Look : (boot : List ℕ) → (schedule : List ℕ) → (groups : ℕ) → (names : Bool) → Request
  -- to look through the schedules of the system of the boot file of this name, for a line that begins so, or, where there is none, for
  -- the processes that get stuck which are named there
  Explore : (boot : List ℕ) → (line : Option (List ℕ)) → (exploration : Exploration) → Request
  -- to do the drill that is drawn from these numbers
  Drill : (drill : TheDrill) → Request
  -- to do the drill of the system of the boot file of this name that is drawn from these numbers, or to write its directives
  OwnDrill : (boot : List ℕ) → (drill : TheOwnDrill) → Request
