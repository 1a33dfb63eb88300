-- How things look: the classes of the style sheet (Legend.antt).
use Rattle.std.specs.Prelude.{ℕ, ◌==◌, Bool, true, false, if◌then◌else◌, List, codes}
use Rattle.dm_message.specs.declared.kind.MessageKind.{MessageKind}
use Rattle.dm_message.specs.declared.kind.MessageKind.TheVariants as kind
use Rattle.dm_schedule.specs.declared.Step.{Step}
use Rattle.dm_schedule.specs.declared.Step.TheVariants as step
use Rattle.dm_chart.specs.declared.style.Style.{Style}
use Rattle.dm_chart.specs.declared.style.Style.TheVariants as style

-- how the arrow of a message looks that is put for the first time
abbrev pub style_of_kind : MessageKind → Style
style_of_kind kind.User = style.User
style_of_kind kind.Stop = style.Service
style_of_kind kind.Resume = style.Service
style_of_kind kind.Kill = style.Service
style_of_kind kind.Read = style.Service
style_of_kind kind.Write = style.Service
style_of_kind kind.Block = style.Service
style_of_kind kind.Written = style.Service
style_of_kind kind.Gone = style.Service
style_of_kind kind.Create = style.Service
style_of_kind kind.Created = style.Service
style_of_kind kind.NoRoom = style.Service
style_of_kind kind.Migrate = style.Moving
style_of_kind kind.Update = style.Update
style_of_kind kind.Ask = style.Moving
style_of_kind kind.Refuse = style.Moving
style_of_kind kind.PullState = style.Moving
style_of_kind kind.State = style.Moving
style_of_kind kind.PullBlock = style.Moving
style_of_kind kind.Memory = style.Moving
style_of_kind kind.AllTaken = style.Moving
style_of_kind kind.Restart = style.Moving
style_of_kind kind.Move = style.Moving
style_of_kind kind.Moved = style.Moving
style_of_kind kind.CallOff = style.Moving
style_of_kind kind.Bury = style.Moving

-- that of one that was put before, by the directive of its group: it goes on, or back where a migration is called off
abbrev pub style_again : Step → Style
style_again (step.Turn m) = style.Onward
style_again (step.Tick m) = style.Onward
style_again (step.Deliver a b k) = style.Onward
style_again (step.Migrate p m) = style.Onward
style_again (step.CallOff p m) = style.Back

-- that of a message, by the directive of its group and whether it was put before
abbrev pub style_of : Step → MessageKind → Bool → Style
style_of e k true = style_again e
style_of e k false = style_of_kind k

abbrev pub arrow_class : Style → List ℕ
arrow_class style.User = codes "k0"
arrow_class style.Service = codes "k1"
arrow_class style.Moving = codes "k2"
arrow_class style.Update = codes "k3"
arrow_class style.Onward = codes "k4"
arrow_class style.Back = codes "k5"

-- the arrow of a message to its own machine
abbrev pub loop_name : Style → List ℕ
loop_name style.User = codes "#l0"
loop_name style.Service = codes "#l1"
loop_name style.Moving = codes "#l2"
loop_name style.Update = codes "#l3"
loop_name style.Onward = codes "#l4"
loop_name style.Back = codes "#l5"

-- an arrow's words
abbrev pub label_class : Style → List ℕ
label_class style.User = codes "n0"
label_class style.Service = codes "n1"
label_class style.Moving = codes "n2"
label_class style.Update = codes "n3"
label_class style.Onward = codes "n4"
label_class style.Back = codes "n5"

-- the colour of a process, by its lane: each of the twelve has its own
abbrev pub tint : ℕ → List ℕ
tint n =
    if n == 0 then codes "#5c6bc0"
    else if n == 1 then codes "#ef6c00"
    else if n == 2 then codes "#26a69a"
    else if n == 3 then codes "#ec407a"
    else if n == 4 then codes "#8d6e63"
    else if n == 5 then codes "#7cb342"
    else if n == 6 then codes "#ffb300"
    else if n == 7 then codes "#546e7a"
    else if n == 8 then codes "#ab47bc"
    else if n == 9 then codes "#29b6f6"
    else if n == 10 then codes "#c0ca33"
    else codes "#d32f2f"
