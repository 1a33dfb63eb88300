-- What the program promises, by what its words ask for.
use Rattle.std.specs.Prelude.{◌≡◌, ℕ, List, [], ◌∷◌, ◌++◌, Vec, String, map, string_bytes}
use Rattle.std.specs.List.{concat}
use Rattle.std.specs.declared.alloc.Global.{Global}
use Rattle.std.specs.declared.option.Option.{Option}
use Rattle.std.specs.declared.process.ExitCode.{ExitCode}
use Rattle.std.specs.declared.result.Result.{Result}
use Rattle.std.specs.declared.result.Result.TheVariants.{Ok, Err}
use Rattle.std.specs.Process.{exit_status}
use Rattle.dm_world.specs.declared.world.World.{World}
use Rattle.dm_run.specs.Appended.{Written}
use Rattle.dm_ending.specs.declared.status.Status.{Status}
use Rattle.dm_ending.specs.Status.{code_of, line_of_status}
use Rattle.dm_words.specs.declared.words.WordsError.{WordsError}
use Rattle.dm_words.specs.Refused.{status_of_no}
use Rattle.dm_words.specs.Request.{Request}
use Rattle.dm_words.specs.Words.{request_of}
use Rattle.dm_front.specs.Asked.{Nothing}
use Rattle.dm_front.specs.Meets.{MeetsOutside}
use Rattle.dm_front.specs.Outside.{Around, SinkAround, Untouched, outside}
use Rattle.dm_program.specs.Commands.{promised}
use Rattle.dm_program.specs.Given.{GivenFirst, given_pieces}
use Rattle.dm_program.specs.Rule.{of_rule}

-- what was asked for was done, as the rule has it; the files decide what it comes to; and so it is with the shelf and the sink,
-- whatever was asked for
pub record ProgramMeets {F K : Type 0} (r : Option Request) (a : Around F K) (world : Option World) (s : Status) : Type 0 where
  pub does : (promised of_rule r).meets a world s
  pub decided : (promised of_rule r).decided (outside a world) s
  pub met : MeetsOutside (promised of_rule r).names a s

-- there are no words: nothing is read or written, and there is no world
pub record HasNoWords {F K : Type 0} (reason : WordsError) (a : Around F K) (world : Option World) (s : Status) : Type 0 where
  pub why : s ≡ status_of_no reason
  pub untouched : Untouched a world
  pub met : MeetsOutside Nothing a s

-- with the words that were given, each of them and no other, in order, or with none
abbrev pub GivenMeets : {F K : Type 0} → Result (Vec (String Global) Global) WordsError → Around F K → Option World → Status → Type 0
GivenMeets (Ok words) a world s = ProgramMeets (request_of (map string_bytes words.items)) a world s
GivenMeets (Err reason) a world s = HasNoWords reason a world s

-- the program has ended with a status: what is said of it, what is said of a file that is refused and its line were offered to standard
-- error, and its number is the program's
pub record Finishes {F K E : Type 0} (given : Result (Vec (String Global) Global) WordsError) (a : Around F K) (errors : SinkAround E) (code : ExitCode) : Type 0 where
  pub status : Status
  pub world : Option World
  pub meets : GivenMeets given a world status
  pub said : List ℕ
  pub first : GivenFirst given (a.shelf.told a.shelf.old) status said
  pub says : Written (errors.told errors.old) (concat (given_pieces given status ++ said ∷ line_of_status status ∷ [])) (errors.told errors.new) (errors.faults errors.old) (errors.faults errors.new) (errors.last_failed errors.new)
  pub number : exit_status code ≡ code_of status
