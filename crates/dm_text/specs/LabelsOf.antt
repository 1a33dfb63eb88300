-- The heads of groups, and the steps of the kernel without machines, read from their words.
use Rattle.std.specs.Prelude.{ℕ, if◌then◌else◌, List, codes}
use Rattle.std.specs.declared.option.Option.{Option}
use Rattle.std.specs.declared.option.Option.TheVariants.{None}
use Rattle.dm_onekernel.specs.declared.label.Label.TheVariants as label
use Rattle.dm_schedule.specs.declared.Step.TheVariants as step
use Rattle.dm_line.specs.declared.line.Line.{Line}
use Rattle.dm_line.specs.declared.line.Line.TheVariants as line
use Rattle.dm_text.specs.Reading.{read_u8, read_u16, read_u32, read_u64, read_pid, read_id, read_reply, read_outcome, read_why}
use Rattle.dm_text.specs.Rows.{is, of1, of2, of3}

abbrev pub head_named : List ℕ → List (List ℕ) → Option Line
head_named w ws =
    if is w (codes "turn") then of1 read_u8 (λ m. line.Head (step.Turn m)) ws
    else if is w (codes "tick") then of1 read_u8 (λ m. line.Head (step.Tick m)) ws
    else if is w (codes "deliver") then of3 read_u8 read_u8 read_u64 (λ a b k. line.Head (step.Deliver a b k)) ws
    else if is w (codes "migrate") then of2 read_pid read_u8 (λ p m. line.Head (step.Migrate p m)) ws
    else if is w (codes "calloff") then of2 read_pid read_u8 (λ p m. line.Head (step.CallOff p m)) ws
    else None

abbrev pub label_named : List ℕ → List (List ℕ) → Option Line
label_named w ws =
    if is w (codes "ran") then of2 read_pid read_u32 (λ p k. line.Label (label.Ran p k)) ws
    else if is w (codes "call") then of3 read_pid read_u8 read_reply (λ p n c. line.Label (label.Call p n c)) ws
    else if is w (codes "send") then of2 read_pid read_id (λ p i. line.Label (label.Send p i)) ws
    else if is w (codes "wait") then of1 read_pid (λ p. line.Label (label.Wait p)) ws
    else if is w (codes "out") then of2 read_pid read_u32 (λ p v. line.Label (label.Out p v)) ws
    else if is w (codes "end") then of2 read_pid read_why (λ p y. line.Label (label.End p y)) ws
    else if is w (codes "receive") then of2 read_pid read_id (λ p i. line.Label (label.Receive p i)) ws
    else if is w (codes "refuse") then of3 read_pid read_id read_reply (λ p i c. line.Label (label.Refuse p i c)) ws
    else if is w (codes "dropped") then of1 read_id (λ i. line.Label (label.Dropped i)) ws
    else if is w (codes "served") then of1 read_id (λ i. line.Label (label.Served i)) ws
    else if is w (codes "gone") then of1 read_id (λ i. line.Label (label.Gone i)) ws
    else if is w (codes "took") then of1 read_id (λ i. line.Label (label.Took i)) ws
    else if is w (codes "created") then of2 read_id read_pid (λ i p. line.Label (label.Created i p)) ws
    else if is w (codes "nospace") then of3 read_id read_u8 read_u16 (λ i s b. line.Label (label.NoSpace i s b)) ws
    else if is w (codes "asked") then of1 read_id (λ i. line.Label (label.Asked i)) ws
    else if is w (codes "answered") then of2 read_id read_outcome (λ i o. line.Label (label.Answered i o)) ws
    else None
