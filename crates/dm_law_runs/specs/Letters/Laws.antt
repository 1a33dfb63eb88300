-- What is said of the messages that wait is what the kernel without machines holds.
use Rattle.std.specs.Prelude.{◌≡◌, List, length}
use Rattle.dm_onekernel.specs.declared.boot.Boot.{Boot}
use Rattle.dm_onekernel.specs.Boot.{IsValid}
use Rattle.dm_schedule.specs.declared.Step.{Step}
use Rattle.dm_law_rule.specs.Laws.{Leads}
use Rattle.dm_law_rule.specs.Point.{Point, first_point}
use Rattle.dm_world.specs.World.{WorldState}
use Rattle.dm_law_mirror.specs.Stands.{Stands}
use Rattle.dm_look.specs.Letters.{Letter}
use Rattle.dm_look.specs.Waiting.{AreLetters, waiting}
use Rattle.dm_law_runs.specs.Letters.Letters.{HoldsLetters}

-- wherever the rule leads and the world stands, what is in the messages that wait is what the kernel without machines holds
abbrev pub LettersAreSaid : Type 0
LettersAreSaid =
    (b : Boot) (es : List Step) (w : WorldState) (pt : Point) (letters : List Letter) → IsValid b → Leads b (first_point b) es pt → Stands b w pt → AreLetters (waiting (length b.machines) w) letters
    → HoldsLetters pt letters

-- and that is one list
abbrev pub LettersAreOne : Type 0
LettersAreOne = (pt : Point) (ls ms : List Letter) → HoldsLetters pt ls → HoldsLetters pt ms → ls ≡ ms
