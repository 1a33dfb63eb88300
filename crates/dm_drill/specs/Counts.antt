-- What a drill counts of the lines that are printed.
use Rattle.std.specs.Prelude.{◌+◌, if◌then◌else◌, List, [], ◌∷◌, map, vec_len}
use Rattle.dm_onekernel.specs.declared.label.Label.{Label}
use Rattle.dm_onekernel.specs.declared.label.Label.TheVariants as label
use Rattle.dm_line.specs.declared.line.Line.{Line}
use Rattle.dm_line.specs.declared.line.Line.TheVariants as line
use Rattle.dm_line.specs.declared.line.Stage.{Stage}
use Rattle.dm_line.specs.Stages.{is_last}
use Rattle.std.specs.declared.option.Option.{Option}
use Rattle.std.specs.declared.option.Option.TheVariants.{None, Some}
use Rattle.dm_drill.specs.declared.counts.Counted.{Counted}
use Rattle.dm_drill.specs.declared.counts.Counted.TheVariants as counted_
use Rattle.dm_drill.specs.declared.counts.Counts.{Counts}
use Rattle.dm_drill.specs.Kinds.{is_between, no_kinds, with_put}
use Rattle.dm_drill.specs.Totals.{Totals}

-- a process has come to the end of its move, at its new machine
abbrev pub sort_of_step : Stage → Option Counted
sort_of_step s = if is_last s then Some counted_.Moved else None

-- a message was received
abbrev pub sort_of_label : Label → Option Counted
sort_of_label (label.Ran p n) = None
sort_of_label (label.Call p n r) = None
sort_of_label (label.Send p id) = None
sort_of_label (label.Wait p) = None
sort_of_label (label.Out p word) = None
sort_of_label (label.End p why) = None
sort_of_label (label.Receive p id) = Some counted_.Received
sort_of_label (label.Refuse p id r) = None
sort_of_label (label.Dropped id) = None
sort_of_label (label.Served id) = None
sort_of_label (label.Gone id) = None
sort_of_label (label.Took id) = None
sort_of_label (label.Created id p) = None
sort_of_label (label.NoSpace id s b) = None
sort_of_label (label.Asked id) = None
sort_of_label (label.Answered id o) = None

-- as what a line is counted
abbrev pub counted_as : Line → Option Counted
counted_as (line.Head s) = None
counted_as (line.Idle m) = None
counted_as (line.Label l) = sort_of_label l
counted_as (line.Put a b id kind q) = Some (counted_.Put kind (is_between a b))
counted_as (line.Packet a b k l) = Some counted_.Packet
counted_as (line.Taken a b n) = Some counted_.Taken
counted_as (line.Old a b n) = Some counted_.Old
counted_as (line.Early a b n) = Some counted_.Early
counted_as (line.Acked a b n) = None
counted_as line.Nothing = None
counted_as (line.Resent m n) = None
counted_as (line.Queued id) = None
counted_as (line.Held id) = Some counted_.Held
counted_as (line.Forwarded id m) = Some counted_.Forwarded
counted_as (line.Updated id n) = None
counted_as (line.Buried id n) = None
counted_as (line.Migration s p) = sort_of_step s
counted_as (line.SentOn p n) = None
counted_as (line.Called p n) = None
counted_as (line.Lacks p s b) = None
counted_as (line.Stays p) = Some counted_.Stayed
counted_as (line.Here id) = None
counted_as (line.NoMove id) = None
counted_as (line.Stale id) = None
counted_as (line.Proto id) = None
counted_as (line.NoChild p) = None
counted_as (line.NoCall p) = None
counted_as line.Away = None

-- one more of these
abbrev pub one_more : Option Counted → Totals → Totals
one_more None t = t
one_more (Some (counted_.Put kind far)) t = record t { puts = t.puts + 1; kinds = map (with_put kind far) t.kinds }
one_more (Some counted_.Packet) t = record t { packets = t.packets + 1 }
one_more (Some counted_.Taken) t = record t { taken = t.taken + 1 }
one_more (Some counted_.Old) t = record t { repeated = t.repeated + 1 }
one_more (Some counted_.Early) t = record t { early = t.early + 1 }
one_more (Some counted_.Received) t = record t { received = t.received + 1 }
one_more (Some counted_.Moved) t = record t { moved = t.moved + 1 }
one_more (Some counted_.Stayed) t = record t { stayed = t.stayed + 1 }
one_more (Some counted_.Forwarded) t = record t { forwarded = t.forwarded + 1 }
one_more (Some counted_.Held) t = record t { held = t.held + 1 }

-- with the lines of a group
unfoldable pub with_group_lines : Totals → List Line → Totals
with_group_lines t [] = t
with_group_lines t (l ∷ ls) = with_group_lines (one_more (counted_as l) t) ls

abbrev pub with_group : Totals → List Line → Totals
with_group t g = with_group_lines (record t { groups = t.groups + 1 }) g

-- with the lines of groups
unfoldable pub with_groups : Totals → List (List Line) → Totals
with_groups t [] = t
with_groups t (g ∷ gs) = with_groups (with_group t g) gs

abbrev pub nothing : Totals
nothing = record { groups = 0; puts = 0; packets = 0; taken = 0; repeated = 0; early = 0; received = 0; moved = 0; stayed = 0; forwarded = 0; held = 0; kinds = no_kinds }

-- how many groups there are, and lines of each sort
abbrev pub totals_of : List (List Line) → Totals
totals_of gs = with_groups nothing gs

-- what the counts of the code show
abbrev pub shown : Counts → Totals
shown c = record {
  groups = vec_len c.groups.marks;
  puts = vec_len c.puts.marks;
  packets = vec_len c.packets.marks;
  taken = vec_len c.taken.marks;
  repeated = vec_len c.repeated.marks;
  early = vec_len c.early.marks;
  received = vec_len c.received.marks;
  moved = vec_len c.moved.marks;
  stayed = vec_len c.stayed.marks;
  forwarded = vec_len c.forwarded.marks;
  held = vec_len c.held.marks;
  kinds = c.kinds;
}
