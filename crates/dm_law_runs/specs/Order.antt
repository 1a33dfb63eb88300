-- Where no directive of a schedule moves a process, and none is asked to move, messages are received in the order in which they were
-- sent.
use Rattle.std.specs.Prelude.{◌≡◌, ⊤, ℕ, ◌<◌, List, [], ◌∷◌, ◌++◌, length}
use Rattle.std.specs.List.{All}
use Rattle.dm_link.specs.declared.Pid.{Pid}
use Rattle.dm_message.specs.Ids.{id_of}
use Rattle.dm_onekernel.specs.declared.boot.Boot.{Boot}
use Rattle.dm_onekernel.specs.declared.label.Label.{Label}
use Rattle.dm_onekernel.specs.declared.label.Label.TheVariants as label
use Rattle.dm_onekernel.specs.Boot.{IsValid}
use Rattle.dm_schedule.specs.declared.Directive.{Directive}
use Rattle.dm_schedule.specs.declared.Directive.TheVariants as directive
use Rattle.dm_line.specs.declared.line.Line.{Line}
use Rattle.dm_line.specs.Todo.{Todo}
use Rattle.dm_law_rule.specs.Laws.{AskNone, IsStill}
use Rattle.dm_law_rule.specs.Point.{Point, labels}
use Rattle.dm_law_always.specs.Order.{StandsOn}
use Rattle.dm_law_mirror.specs.Run.{IsGood, joined}
use Rattle.dm_law_mirror.specs.Todo.{IsDirective}

-- a directive that moves no process; a row a directive
abbrev pub MovesNothing : Directive → Type 0
MovesNothing (directive.One s) = IsStill s
MovesNothing directive.Round = ⊤
MovesNothing (directive.Spin n) = ⊤
MovesNothing directive.Settle = ⊤
MovesNothing (directive.Rest n) = ⊤

abbrev pub MoveNothing : List Directive → Type 0
MoveNothing [] = ⊤
MoveNothing (d ∷ ds) = MovesNothing d × MoveNothing ds

-- of the messages that one process or server sent, those that a process receives on one channel
abbrev pub GoodInOrder : Type 0
GoodInOrder =
    (b : Boot) (ds : List Directive) (gs : List (List Line)) (end : Point) (left : Todo) (before between after : List Label) (from to : Pid) (n k channel : ℕ) →
    IsValid b → All (IsDirective (length b.machines)) ds → MoveNothing ds → AskNone (joined gs) → IsGood b ds gs end left
    → labels (joined gs) ≡ before ++ label.Receive to (id_of from n) ∷ (between ++ label.Receive to (id_of from k) ∷ after)
    → StandsOn b before (id_of from n) channel → StandsOn b (before ++ label.Receive to (id_of from n) ∷ between) (id_of from k) channel → n < k
