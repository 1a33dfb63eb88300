-- What is seen behind the first groups of a run, by a notion of a run.
use Rattle.std.specs.Prelude.{◌≡◌, ⊤, ℕ, Bool, Vec, List, ◌++◌, length}
use Rattle.std.specs.declared.alloc.Global.{Global}
use Rattle.std.specs.declared.result.Result.{Result}
use Rattle.std.specs.declared.result.Result.TheVariants.{Ok, Err}
use Rattle.dm_message.specs.declared.Message.{Message}
use Rattle.dm_onekernel.specs.declared.boot.Boot.{Boot}
use Rattle.dm_schedule.specs.declared.Directive.{Directive}
use Rattle.dm_line.specs.declared.end_line.EndLine.{EndLine}
use Rattle.dm_line.specs.declared.line.Line.{Line}
use Rattle.dm_node.specs.declared.stop.Stop.{Stop}
use Rattle.dm_node.specs.declared.stop.Stop.TheVariants.{NoMemory, Worn}
use Rattle.dm_text.specs.Text.{text_of_ends, text_of_lines}
use Rattle.dm_run.specs.Notion.{Notion, by_world}
use Rattle.dm_look.specs.Groups.{IsAt, WearsBefore, last_group}
use Rattle.dm_look.specs.Letters.{Letter}
use Rattle.dm_look.specs.LetterText.{text_of_letters}
use Rattle.dm_look.specs.Names.{names_if}
use Rattle.dm_look.specs.Waiting.{AreLetters, waiting}

-- which letters there are where a run has come
abbrev pub Holding : Notion → Type 1
Holding r = Boot → r.Place → List Letter → Type 0

-- by the world
abbrev pub held_by_world : Holding by_world
held_by_world b p letters = AreLetters (waiting (length b.machines) p.state) letters

-- the names of the processes, where they are asked for; the lines of a group, where everything stands behind it, and what is in the
-- messages
abbrev pub look_text : List ℕ → List Line → List EndLine → List Letter → List ℕ
look_text names last ends letters = names ++ text_of_lines last ++ text_of_ends ends ++ text_of_letters letters

-- behind a text stands what is in these messages, by their names
pub record TellsLetters (found : List Message) (old new : List ℕ) : Type 0 where
  pub letters : List Letter
  pub are : AreLetters found letters
  pub told : new ≡ old ++ text_of_letters letters

-- that is the text of what is seen behind so many groups of the directives, with the names of the processes or without
pub record IsSeen (r : Notion) (Holds : Holding r) (b : Boot) (ds : List Directive) (most : ℕ) (names : Bool) (text : List ℕ) : Type 0 where
  pub groups : List (List Line)
  pub at : r.Place
  pub there : IsAt r b ds most groups at
  pub letters : List Letter
  pub holds : Holds b at letters
  pub text_is : text ≡ look_text (names_if names b) (last_group groups) (r.ends b at) letters

-- or the run came to no end before
abbrev pub IsLooked : (r : Notion) → Holding r → Boot → List Directive → ℕ → Bool → Result (Vec ℕ Global) Stop → Type 0
IsLooked r Holds b ds most names (Ok text) = IsSeen r Holds b ds most names text.items
IsLooked r Holds b ds most names (Err (NoMemory lack)) = ⊤
IsLooked r Holds b ds most names (Err (Worn from to)) = WearsBefore r b ds most from to
