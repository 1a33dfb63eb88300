-- What the command `explore` promises: with each status that it ends with, why it comes and what was written by then.
use Rattle.std.specs.Prelude.{◌≡◌, ⊤, ℕ, ◌⊎◌, Bool, true, false, ◌&&◌, nat_le, nat_lt, List, ◌++◌, filter_map, length, map}
use Rattle.std.specs.List.{list_all}
use Rattle.std.specs.declared.option.Option.{Option}
use Rattle.std.specs.declared.option.Option.TheVariants.{None, Some}
use Rattle.dm_link.specs.declared.Pid.{Pid}
use Rattle.dm_link.specs.Names.{pid_of}
use Rattle.dm_onekernel.specs.declared.boot.Boot.{Boot}
use Rattle.dm_onekernel.specs.Boot.{IsValid}
use Rattle.dm_schedule.specs.declared.Step.{Step}
use Rattle.dm_schedule.specs.declared.Step.TheVariants as step
use Rattle.dm_outside.specs.Outside.{appended}
use Rattle.dm_run.specs.Appended.{IsCutShort}
use Rattle.dm_explore.specs.Answers.{Answer, Found, NoneWithin, Undecided}
use Rattle.dm_explore.specs.AnswerText.{answer_text}
use Rattle.dm_explore.specs.Asked.{Bounds, Question, Line, Stuck}
use Rattle.dm_world.specs.declared.world.World.{World}
use Rattle.dm_ending.specs.declared.status.Input.TheVariants as input
use Rattle.dm_ending.specs.declared.status.Status.{Status}
use Rattle.dm_ending.specs.declared.status.Status.TheVariants as status
use Rattle.dm_words.specs.ExploreWords.{ExploreIsWithin}
use Rattle.dm_words.specs.declared.explore.Exploration.{Exploration}
use Rattle.dm_words.specs.declared.explore.WrittenMove.{WrittenMove}
use Rattle.dm_words.specs.declared.explore.WrittenName.{WrittenName}
use Rattle.dm_cmd_explore.specs.declared.named.Asks.{Asks}
use Rattle.dm_cmd_explore.specs.declared.named.Asks.TheVariants as asks
use Rattle.dm_ending.specs.Status.{IsWant}
use Rattle.dm_explore.specs.Answers.{answer}
use Rattle.dm_front.specs.Asked.{Alone}
use Rattle.dm_front.specs.Firsts.{FirstOfBoot}
use Rattle.dm_front.specs.Promise.{Promise}
use Rattle.dm_front.specs.Inputs.{NoBoot, SaysBoot}
use Rattle.dm_front.specs.Meets.{MeetsOutside}
use Rattle.dm_front.specs.Systems.{RefusesSystem}
use Rattle.dm_front.specs.Outside.{Around, Never, NeverFails, Outside, outside}

-- what is written in some places
abbrev pub itself : {X : Type 0} → Option X → Option X
itself x = x

abbrev pub all_written : {X : Type 0} → List (Option X) → List X
all_written xs = filter_map itself xs

-- a schedule for so many machines may name this process, and this process and machine
abbrev pub is_name_for : ℕ → WrittenName → Bool
is_name_for machines p = nat_lt p.home machines && nat_le p.num 4294967295

abbrev pub is_move_for : ℕ → WrittenMove → Bool
is_move_for machines x = is_name_for machines x.name && nat_lt x.machine machines

-- so it is with all that is named
abbrev pub are_for : ℕ → Exploration → Bool
are_for machines e =
    list_all (is_move_for machines) (all_written e.moves) && list_all (is_move_for machines) (all_written e.call_offs) && list_all (is_name_for machines) (all_written e.stuck)

abbrev pub pid_named : WrittenName → Pid
pid_named p = pid_of p.home p.num

abbrev pub move_asked : WrittenMove → Step
move_asked x = step.Migrate (pid_named x.name) x.machine

abbrev pub call_asked : WrittenMove → Step
call_asked x = step.CallOff (pid_named x.name) x.machine

-- by what is asked for
abbrev pub asked_as : Asks → WrittenMove → Step
asked_as asks.Move = move_asked
asked_as asks.CallOff = call_asked

-- the bounds, and what is looked for
abbrev pub bounds_for : Exploration → Bounds
bounds_for e = record {
  depth = e.depth;
  most = e.most;
  requests = map move_asked (all_written e.moves) ++ map call_asked (all_written e.call_offs);
  ticks = e.ticks;
  repeats = e.repeats;
  acks = e.acks;
}

abbrev pub question_of : Option (List ℕ) → List Pid → Question
question_of (Some line) pids = Line line
question_of None pids = Stuck pids

abbrev pub question_for : Option (List ℕ) → Exploration → Question
question_for line e = question_of line (map pid_named (all_written e.stuck))

-- what an answer means, for a system, bounds and what is looked for
abbrev pub AnswerMeans : Type 1
AnswerMeans = Boot → Bounds → Question → Answer → Type 0

-- the answer, and what it means
abbrev pub Answers : AnswerMeans → Boot → Option (List ℕ) → Exploration → Answer → Type 0
Answers Means b line e a = Means b (bounds_for e) (question_for line e) a

-- all that is named may be so, and this answer was appended
pub record TellsAnswer (Means : AnswerMeans) (b : Boot) (line : Option (List ℕ)) (e : Exploration) (before after : Option (List ℕ)) (a : Answer) : Type 0 where
  pub named : are_for (length b.machines) e ≡ true
  pub means : Answers Means b line e a
  pub written : after ≡ appended before (answer_text a)

-- or begun
pub record BeginsAnswer (Means : AnswerMeans) (b : Boot) (line : Option (List ℕ)) (e : Exploration) (before after : Option (List ℕ)) : Type 0 where
  pub answer : Answer
  pub named : are_for (length b.machines) e ≡ true
  pub means : Answers Means b line e answer
  pub begun : IsCutShort before (answer_text answer) after

-- something is named that a schedule for this system can't name, and nothing was written
pub record NamesNone (b : Boot) (e : Exploration) (before after : Option (List ℕ)) : Type 0 where
  pub named : are_for (length b.machines) e ≡ false
  pub nothing : after ≡ before

-- the status of an answer that is written
abbrev pub status_of_answer : Answer → Status
status_of_answer (Found es) = status.Done
status_of_answer (NoneWithin depth tried) = status.NotFound
status_of_answer (Undecided most) = status.Undecided

-- why there is no answer: something is named that a schedule for so many machines can't name, or memory lacks
abbrev pub GivesNone : ℕ → Exploration → Status → Type 0
GivesNone machines e status.Usage = are_for machines e ≡ false
GivesNone machines e (status.NoMemory lack) = ⊤
GivesNone machines e _ = ⊥

-- one of some names can't be, or memory lacks
abbrev pub IsOutside : Bool → Status → Type 0
IsOutside all status.Usage = all ≡ false
IsOutside all (status.NoMemory lack) = ⊤
IsOutside all _ = ⊥

-- the answer was appended, or begun, or nothing was for want of memory
abbrev pub TellsOrNot : Option (List ℕ) → Option (List ℕ) → Answer → Status → Type 0
TellsOrNot before after a (status.NoMemory lack) = after ≡ before
TellsOrNot before after a status.WriteFault = IsCutShort before (answer_text a) after
TellsOrNot before after a status.Done = (status.Done ≡ status_of_answer a) × (after ≡ appended before (answer_text a))
TellsOrNot before after a status.NotFound = (status.NotFound ≡ status_of_answer a) × (after ≡ appended before (answer_text a))
TellsOrNot before after a status.Undecided = (status.Undecided ≡ status_of_answer a) × (after ≡ appended before (answer_text a))
TellsOrNot before after a _ = ⊥

-- what a status says of a system, by what the sink told before and after
abbrev pub ExploreSays : AnswerMeans → Boot → Option (List ℕ) → Exploration → Option (List ℕ) → Option (List ℕ) → Status → Type 0
ExploreSays Means b line e before after status.Done = (es : List Step) × TellsAnswer Means b line e before after (Found es)
ExploreSays Means b line e before after status.NotFound = (tried : ℕ) × TellsAnswer Means b line e before after (NoneWithin e.depth tried)
ExploreSays Means b line e before after status.Undecided = TellsAnswer Means b line e before after (Undecided e.most)
ExploreSays Means b line e before after status.Usage = NamesNone b e before after
ExploreSays Means b line e before after (status.NoMemory lack) = after ≡ before
ExploreSays Means b line e before after status.WriteFault = BeginsAnswer Means b line e before after
ExploreSays Means b line e before after _ = ⊥

-- a system was explored, that of the boot file
pub record Explores (Means : AnswerMeans) (boot : List ℕ) (line : Option (List ℕ)) (e : Exploration) (o : Outside) (s : Status) : Type 0 where
  pub system : Boot
  pub says_boot : SaysBoot o.files boot system
  pub valid : IsValid system
  pub says : ExploreSays Means system line e o.before o.after s

-- or the file gave no system
abbrev pub SaysExplore : AnswerMeans → List ℕ → Option (List ℕ) → Exploration → Outside → Status → Type 0
SaysExplore Means boot line e o s = Explores Means boot line e o s ⊎ Never (NoBoot o.files boot) o s

-- all that the command promises, with a boot file of this name
pub record ExploreMeets (Means : AnswerMeans) {F K : Type 0} (boot : List ℕ) (line : Option (List ℕ)) (e : Exploration) (a : Around F K) (world : Option World) (s : Status) : Type 0 where
  pub within : ExploreIsWithin e
  pub says : SaysExplore Means boot line e (outside a world) s
  pub refuses : RefusesSystem boot (outside a world) s
  pub no_world : world ≡ None
  pub met : MeetsOutside (Alone input.Boot boot) a s

-- words that the command takes are refused as words all the same where one of the names can't be in the boot file's system
pub record RefusesNames (files : Option (List ℕ → Option (List ℕ))) (boot : List ℕ) (e : Exploration) : Type 0 where
  pub system : Boot
  pub says_boot : SaysBoot files boot system
  pub named : are_for (length system.machines) e ≡ false

-- where no read and no write fails and memory is there, the answer is a function of the system, the bounds and what is looked for
pub record ExploreIsDecided (boot : List ℕ) (line : Option (List ℕ)) (e : Exploration) (o : Outside) (s : Status) : Type 0 where
  pub answers : (files : List ℕ → Option (List ℕ)) (b : Boot) → o.files ≡ Some files → SaysBoot (Some files) boot b → are_for (length b.machines) e ≡ true → NeverFails o
      → (s ≡ status_of_answer (answer b (bounds_for e) (question_for line e))) ⊎ IsWant s
  pub refuses : (files : List ℕ → Option (List ℕ)) (b : Boot) → o.files ≡ Some files → SaysBoot (Some files) boot b → are_for (length b.machines) e ≡ false → NeverFails o → (s ≡ status.Usage) ⊎ IsWant s

abbrev pub explore_promise : AnswerMeans → List ℕ → Option (List ℕ) → Exploration → Promise
explore_promise Means boot line e = record {
  names = Alone input.Boot boot;
  meets = λ a world s. ExploreMeets Means boot line e a world s;
  first = λ files s said. FirstOfBoot files boot s said;
  refuses = λ files. RefusesNames files boot e;
  decided = λ o s. ExploreIsDecided boot line e o s;
}
