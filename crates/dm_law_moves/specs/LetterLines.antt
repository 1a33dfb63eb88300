-- At the end each message that the kernel without machines holds stands in just one line: of a queue, of what is held back, of an inbox or of a
-- stream, and there once.
use Rattle.std.specs.Prelude.{◌≡◌, Bool, true, false, is_some, nat_le, List, [], ◌∷◌, filter}
use Rattle.std.specs.declared.option.Option.TheVariants.{None}
use Rattle.dm_message.specs.declared.MsgId.{MsgId}
use Rattle.dm_onekernel.specs.declared.boot.Boot.{Boot}
use Rattle.dm_onekernel.specs.Boot.{IsValid}
use Rattle.dm_schedule.specs.declared.Step.{Step}
use Rattle.dm_line.specs.declared.end_line.EndLine.{EndLine}
use Rattle.dm_line.specs.declared.end_line.EndLine.TheVariants as end
use Rattle.dm_law_rule.specs.Ends.{end_lines}
use Rattle.dm_law_rule.specs.Laws.{Leads}
use Rattle.dm_law_rule.specs.Point.{Point, first_point}
use Rattle.dm_law_rule.specs.Spots.{times}
use Rattle.dm_law_rule.specs.View.{is_kernels}

-- the messages that a line says stand in its list; a row a line
abbrev pub ids_of : EndLine → List MsgId
ids_of (end.Queue q ids) = ids
ids_of (end.Holding m q ids) = ids
ids_of (end.Inbox m ids) = ids
ids_of (end.Stream m n ids) = ids
ids_of end.Final = []
ids_of (end.Ended q because) = []
ids_of (end.Process q at stands doing stopped sent) = []
ids_of (end.Registers q r pc) = []
ids_of (end.Memory q block bytes) = []
ids_of (end.Link q slot l) = []
ids_of (end.Server q sent) = []
ids_of (end.Place q at stands) = []
ids_of (end.Name name l) = []
ids_of (end.Child n q at) = []
ids_of (end.Pending id) = []
ids_of (end.Groups n) = []

-- a line that says so of this message
abbrev pub lists : MsgId → EndLine → Bool
lists id l = nat_le 1 (times id (ids_of l))

-- one line of these has the message, and once
pub record IsListed (id : MsgId) (ls : List EndLine) : Type 0 where
  pub line : EndLine
  pub alone : filter (lists id) ls ≡ line ∷ []
  pub once : times id (ids_of line) ≡ 1

-- wherever the rule leads: each message that the kernel holds is in one line, and no other but those of machines' own kernels is in any
pub record LettersStand (pt : Point) (ls : List EndLine) : Type 0 where
  pub held : (id : MsgId) → is_some (pt.kernel.bag id) ≡ true → IsListed id ls
  pub others : (id : MsgId) → pt.kernel.bag id ≡ None → is_kernels id ≡ false → filter (lists id) ls ≡ []

abbrev pub LettersStandInLines : Type 0
LettersStandInLines = (b : Boot) (es : List Step) (pt : Point) → IsValid b → Leads b (first_point b) es pt → LettersStand pt (end_lines pt)
