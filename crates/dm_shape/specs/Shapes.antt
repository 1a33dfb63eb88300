-- The shapes of lines: a table of names, and of what the words behind them are.
use Rattle.std.specs.Prelude.{ℕ, zero, suc, Bool, true, false, if◌then◌else◌, List, [], ◌∷◌, codes}
use Rattle.std.specs.List.{list_any, list_all}
use Rattle.std.specs.Str.{bytes_eq}
use Rattle.dm_reading.specs.Cuts.{pieces}
use Rattle.dm_shape.specs.declared.choice.Choice.{Choice}
use Rattle.dm_shape.specs.declared.choice.Choice.TheVariants as choice
use Rattle.dm_shape.specs.declared.sort.Sort.{Sort}
use Rattle.dm_shape.specs.declared.sort.Sort.TheVariants as sort
use Rattle.dm_shape.specs.declared.shape.Shape.{Shape}
use Rattle.dm_shape.specs.declared.shape.Shape.TheVariants as shape
use Rattle.dm_shape.specs.declared.shape.HeadShape.{HeadShape}
use Rattle.dm_shape.specs.declared.shape.HeadShape.TheVariants as head_shape
use Rattle.dm_shape.specs.declared.shape.KernelShape.{KernelShape}
use Rattle.dm_shape.specs.declared.shape.KernelShape.TheVariants as kernel_shape
use Rattle.dm_shape.specs.declared.shape.GroupShape.{GroupShape}
use Rattle.dm_shape.specs.declared.shape.GroupShape.TheVariants as group_shape
use Rattle.dm_shape.specs.declared.shape.EndShape.{EndShape}
use Rattle.dm_shape.specs.declared.shape.EndShape.TheVariants as end_shape
use Rattle.dm_shape.specs.Sorts.{is_of}

-- a name, words of these sorts behind it, and, where it lists, names of messages, one or more
pub record ShapeRow : Type 0 where
  pub name : List ℕ
  pub sorts : List Sort
  pub lists : Bool

abbrev pub row : List ℕ → List Sort → ShapeRow
row name sorts = record { name = name; sorts = sorts; lists = false }

abbrev pub listing : List ℕ → List Sort → ShapeRow
listing name sorts = record { name = name; sorts = sorts; lists = true }

abbrev pub choose : Choice → Sort
choose c = sort.Choice c

-- so many numbers
abbrev pub numbers : ℕ → List Sort
numbers zero = []
numbers (suc n) = sort.Number ∷ numbers n

-- KIND Q at M moves C code C channel H area BASE LEN RIGHTS
abbrev pub link_sorts : List Sort
link_sorts =
    choose choice.LinkKind ∷ sort.Process ∷ choose choice.At ∷ sort.Machine ∷ choose choice.Moves ∷ sort.Number
    ∷ choose choice.Code ∷ sort.Number ∷ choose choice.Channel ∷ sort.Number ∷ choose choice.Area ∷ sort.Number ∷ sort.Number ∷ choose choice.Rights ∷ []

-- the row of each head of a group
abbrev pub head_row : HeadShape → ShapeRow
head_row head_shape.Turn = row (codes "turn") (sort.Machine ∷ [])
head_row head_shape.Tick = row (codes "tick") (sort.Machine ∷ [])
head_row head_shape.Deliver = row (codes "deliver") (sort.Machine ∷ sort.Machine ∷ sort.Packet ∷ [])
head_row head_shape.Migrate = row (codes "migrate") (sort.Process ∷ sort.Machine ∷ [])
head_row head_shape.CallOff = row (codes "calloff") (sort.Process ∷ sort.Machine ∷ [])

-- of each step of the kernel without machines
abbrev pub kernel_row : KernelShape → ShapeRow
kernel_row kernel_shape.Ran = row (codes "ran") (sort.Process ∷ sort.Number ∷ [])
kernel_row kernel_shape.Call = row (codes "call") (sort.Process ∷ sort.Number ∷ sort.Number ∷ [])
kernel_row kernel_shape.Send = row (codes "send") (sort.Process ∷ sort.Message ∷ [])
kernel_row kernel_shape.Wait = row (codes "wait") (sort.Process ∷ [])
kernel_row kernel_shape.Out = row (codes "out") (sort.Process ∷ sort.Number ∷ [])
kernel_row kernel_shape.End = row (codes "end") (sort.Process ∷ sort.Number ∷ [])
kernel_row kernel_shape.Receive = row (codes "receive") (sort.Process ∷ sort.Message ∷ [])
kernel_row kernel_shape.Refuse = row (codes "refuse") (sort.Process ∷ sort.Message ∷ sort.Number ∷ [])
kernel_row kernel_shape.Dropped = row (codes "dropped") (sort.Message ∷ [])
kernel_row kernel_shape.Served = row (codes "served") (sort.Message ∷ [])
kernel_row kernel_shape.Gone = row (codes "gone") (sort.Message ∷ [])
kernel_row kernel_shape.Took = row (codes "took") (sort.Message ∷ [])
kernel_row kernel_shape.Created = row (codes "created") (sort.Message ∷ sort.Process ∷ [])
kernel_row kernel_shape.NoSpace = row (codes "nospace") (sort.Message ∷ sort.Number ∷ sort.Number ∷ [])
kernel_row kernel_shape.Asked = row (codes "asked") (sort.Message ∷ [])
kernel_row kernel_shape.Answered = row (codes "answered") (sort.Message ∷ sort.Number ∷ [])

-- of each other line of a group
abbrev pub group_row : GroupShape → ShapeRow
group_row group_shape.Idle = row (codes "idle") (sort.Machine ∷ [])
group_row group_shape.Put = row (codes "put") (sort.Machine ∷ sort.Machine ∷ sort.Message ∷ sort.Kind ∷ sort.Process ∷ [])
group_row group_shape.Packet = row (codes "packet") (sort.Machine ∷ sort.Machine ∷ sort.Packet ∷ choose choice.Load ∷ sort.Number ∷ [])
group_row group_shape.Taken = row (codes "taken") (sort.Machine ∷ sort.Machine ∷ sort.Number ∷ [])
group_row group_shape.Old = row (codes "old") (sort.Machine ∷ sort.Machine ∷ sort.Number ∷ [])
group_row group_shape.Early = row (codes "early") (sort.Machine ∷ sort.Machine ∷ sort.Number ∷ [])
group_row group_shape.Acked = row (codes "acked") (sort.Machine ∷ sort.Machine ∷ sort.Number ∷ [])
group_row group_shape.Nothing = row (codes "none") []
group_row group_shape.Resent = row (codes "resent") (sort.Machine ∷ sort.Number ∷ [])
group_row group_shape.Queued = row (codes "queued") (sort.Message ∷ [])
group_row group_shape.Held = row (codes "held") (sort.Message ∷ [])
group_row group_shape.Forwarded = row (codes "forwarded") (sort.Message ∷ sort.Machine ∷ [])
group_row group_shape.Updated = row (codes "updated") (sort.Message ∷ sort.Number ∷ [])
group_row group_shape.Buried = row (codes "buried") (sort.Message ∷ sort.Number ∷ [])
group_row group_shape.Stage = row (codes "step") (choose choice.Stage ∷ sort.Process ∷ [])
group_row group_shape.SentOn = row (codes "step") (choose choice.Six ∷ sort.Process ∷ sort.Number ∷ [])
group_row group_shape.Lacks = row (codes "lacks") (sort.Process ∷ sort.Number ∷ sort.Number ∷ [])
group_row group_shape.Called = row (codes "called") (sort.Process ∷ sort.Number ∷ [])
group_row group_shape.Stays = row (codes "stays") (sort.Process ∷ [])
group_row group_shape.Here = row (codes "here") (sort.Message ∷ [])
group_row group_shape.NoMove = row (codes "nomove") (sort.Message ∷ [])
group_row group_shape.Stale = row (codes "stale") (sort.Message ∷ [])
group_row group_shape.Proto = row (codes "proto") (sort.Message ∷ [])
group_row group_shape.NoChild = row (codes "nochild") (sort.Process ∷ [])
group_row group_shape.Away = row (codes "away") []
group_row group_shape.NoCall = row (codes "nocall") (sort.Process ∷ [])

-- of each line at the end of a run
abbrev pub end_row : EndShape → ShapeRow
end_row end_shape.Final = row (codes "final") []
end_row end_shape.Ended = row (codes "process") (sort.Process ∷ choose choice.Ended ∷ sort.Number ∷ [])
end_row end_shape.Ready =
    row (codes "process") (sort.Process ∷ choose choice.At ∷ sort.Machine ∷ choose choice.Standing ∷ choose choice.Ready ∷ choose choice.Going ∷ sort.Number ∷ [])
end_row end_shape.Waiting =
    row (codes "process") (sort.Process ∷ choose choice.At ∷ sort.Machine ∷ choose choice.Standing ∷ choose choice.Waiting ∷ sort.Number ∷ sort.Number ∷ sort.Number ∷ choose choice.Going ∷ sort.Number ∷ [])
end_row end_shape.Moving =
    row (codes "process") (sort.Process ∷ choose choice.At ∷ sort.Machine ∷ choose choice.Standing ∷ choose choice.Moving ∷ sort.Number ∷ sort.Process ∷ sort.Number ∷ sort.Number ∷ sort.Number ∷ choose choice.Going ∷ sort.Number ∷ [])
end_row end_shape.Registers = row (codes "registers") (sort.Process ∷ numbers 17)
end_row end_shape.Memory = row (codes "memory") (sort.Process ∷ sort.Number ∷ sort.Block ∷ [])
end_row end_shape.Link = row (codes "link") (sort.Process ∷ sort.Number ∷ link_sorts)
end_row end_shape.Server = row (codes "server") (sort.Process ∷ sort.Number ∷ [])
end_row end_shape.Place = row (codes "place") (sort.Process ∷ choose choice.At ∷ sort.Machine ∷ choose choice.Standing ∷ [])
end_row end_shape.Name = row (codes "name") (sort.Name ∷ link_sorts)
end_row end_shape.Child = row (codes "child") (sort.Number ∷ sort.Process ∷ choose choice.At ∷ sort.Machine ∷ [])
end_row end_shape.Pending = row (codes "pending") (sort.Message ∷ [])
end_row end_shape.Queue = listing (codes "queue") (sort.Process ∷ [])
end_row end_shape.Holding = listing (codes "holding") (sort.Machine ∷ sort.Process ∷ [])
end_row end_shape.Inbox = listing (codes "inbox") (sort.Machine ∷ [])
end_row end_shape.Stream = listing (codes "stream") (sort.Machine ∷ sort.Machine ∷ [])
end_row end_shape.Groups = row (codes "end") (sort.Groups ∷ [])

-- the row of each shape
abbrev pub row_of : Shape → ShapeRow
row_of (shape.Head s) = head_row s
row_of (shape.Kernel s) = kernel_row s
row_of (shape.Group s) = group_row s
row_of (shape.End s) = end_row s

abbrev pub all_shapes : List Shape
all_shapes =
    shape.Head head_shape.Turn ∷ shape.Head head_shape.Tick ∷ shape.Head head_shape.Deliver ∷ shape.Head head_shape.Migrate ∷ shape.Head head_shape.CallOff
    ∷ shape.Kernel kernel_shape.Ran ∷ shape.Kernel kernel_shape.Call ∷ shape.Kernel kernel_shape.Send ∷ shape.Kernel kernel_shape.Wait ∷ shape.Kernel kernel_shape.Out ∷ shape.Kernel kernel_shape.End ∷ shape.Kernel kernel_shape.Receive ∷ shape.Kernel kernel_shape.Refuse
    ∷ shape.Kernel kernel_shape.Dropped ∷ shape.Kernel kernel_shape.Served ∷ shape.Kernel kernel_shape.Gone ∷ shape.Kernel kernel_shape.Took ∷ shape.Kernel kernel_shape.Created ∷ shape.Kernel kernel_shape.NoSpace ∷ shape.Kernel kernel_shape.Asked ∷ shape.Kernel kernel_shape.Answered
    ∷ shape.Group group_shape.Idle ∷ shape.Group group_shape.Put ∷ shape.Group group_shape.Packet ∷ shape.Group group_shape.Taken ∷ shape.Group group_shape.Old ∷ shape.Group group_shape.Early ∷ shape.Group group_shape.Acked ∷ shape.Group group_shape.Nothing
    ∷ shape.Group group_shape.Resent ∷ shape.Group group_shape.Queued ∷ shape.Group group_shape.Held ∷ shape.Group group_shape.Forwarded ∷ shape.Group group_shape.Updated ∷ shape.Group group_shape.Buried ∷ shape.Group group_shape.Stage ∷ shape.Group group_shape.SentOn ∷ shape.Group group_shape.Lacks ∷ shape.Group group_shape.Called
    ∷ shape.Group group_shape.Stays ∷ shape.Group group_shape.Here ∷ shape.Group group_shape.NoMove ∷ shape.Group group_shape.Stale ∷ shape.Group group_shape.Proto ∷ shape.Group group_shape.NoChild ∷ shape.Group group_shape.Away ∷ shape.Group group_shape.NoCall
    ∷ shape.End end_shape.Final ∷ shape.End end_shape.Ended ∷ shape.End end_shape.Ready ∷ shape.End end_shape.Waiting ∷ shape.End end_shape.Moving ∷ shape.End end_shape.Registers ∷ shape.End end_shape.Memory ∷ shape.End end_shape.Link
    ∷ shape.End end_shape.Server ∷ shape.End end_shape.Place ∷ shape.End end_shape.Name ∷ shape.End end_shape.Child ∷ shape.End end_shape.Pending ∷ shape.End end_shape.Queue ∷ shape.End end_shape.Holding ∷ shape.End end_shape.Inbox ∷ shape.End end_shape.Stream
    ∷ shape.End end_shape.Groups ∷ []

-- behind the words of a row: nothing, or, where it lists, names of messages, one or more
abbrev pub ends_so : Bool → List (List ℕ) → Bool
ends_so false [] = true
ends_so false (w ∷ ws) = false
ends_so true [] = false
ends_so true (w ∷ ws) = list_all (is_of sort.Message) (w ∷ ws)

abbrev pub fit : List Sort → Bool → List (List ℕ) → Bool
fit [] lists ws = ends_so lists ws
fit (s ∷ ss) lists [] = false
fit (s ∷ ss) lists (w ∷ ws) = if is_of s w then fit ss lists ws else false

-- the words of a line are those of a row
abbrev pub is_row : ShapeRow → List (List ℕ) → Bool
is_row r [] = false
is_row r (w ∷ ws) = if bytes_eq w r.name then fit r.sorts r.lists ws else false

-- a text without line feed is of a shape: its words have one space between
unfoldable pub is_of_shape : Shape → List ℕ → Bool
is_of_shape s line = is_row (row_of s) (pieces 32 line)

-- it is a line of the format
unfoldable pub has_shape : List ℕ → Bool
has_shape line = list_any (λ s. is_of_shape s line) all_shapes
