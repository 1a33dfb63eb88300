-- What each line is for a picture, a row a line.
use Rattle.std.specs.Prelude.{ℕ, ◌==◌, if◌then◌else◌}
use Rattle.dm_link.specs.declared.Pid.{Pid}
use Rattle.dm_onekernel.specs.declared.label.Label.{Label}
use Rattle.dm_onekernel.specs.declared.label.Label.TheVariants as label
use Rattle.dm_onekernel.specs.declared.label.Reply.{Reply}
use Rattle.dm_onekernel.specs.declared.label.Reply.TheVariants as reply
use Rattle.dm_line.specs.declared.line.Line.{Line}
use Rattle.dm_line.specs.declared.line.Line.TheVariants as line
use Rattle.dm_line.specs.declared.line.Load.{Load}
use Rattle.dm_line.specs.declared.line.Load.TheVariants as load
use Rattle.dm_line.specs.declared.line.Stage.{Stage}
use Rattle.dm_line.specs.declared.line.Stage.TheVariants as stage
use Rattle.dm_chart.specs.declared.role.Life.TheVariants as life
use Rattle.dm_chart.specs.declared.role.Role.{Role}
use Rattle.dm_chart.specs.declared.role.Role.TheVariants as role

-- a call that was done is seen by what it did; one that was refused has a note
abbrev pub call_role : Reply → Role
call_role reply.Done = role.Unseen
call_role reply.NoLink = role.Note life.Same
call_role reply.TableFull = role.Note life.Same
call_role reply.BadKind = role.Note life.Same
call_role reply.BadRange = role.Note life.Same
call_role reply.NoRight = role.Note life.Same
call_role reply.TooLong = role.Note life.Same
call_role reply.Gone = role.Note life.Same
call_role reply.NotCopyable = role.Note life.Same

abbrev pub label_role : Label → Role
label_role (label.Ran p k) = role.Unseen
label_role (label.Call p n c) = call_role c
label_role (label.Send p i) = role.Unseen
label_role (label.Wait p) = role.Note (life.Waits p)
label_role (label.Out p w) = role.Note life.Same
label_role (label.End p y) = role.Note (life.Ends p)
label_role (label.Receive p i) = role.Note (life.Wakes p)
label_role (label.Refuse p i c) = role.Note (life.Wakes p)
label_role (label.Dropped i) = role.Note life.Same
label_role (label.Served i) = role.Note (life.Served i)
label_role (label.Gone i) = role.Note life.Same
label_role (label.Took i) = role.Unseen
label_role (label.Created i p) = role.Note (life.Made p)
label_role (label.NoSpace i s b) = role.Note life.Same
label_role (label.Asked i) = role.Note life.Same
label_role (label.Answered i o) = role.Note life.Same

-- acknowledgements aren't drawn
abbrev pub packet_role : ℕ → ℕ → ℕ → Load → Role
packet_role a b k (load.Data n) = role.Packet a b k n
packet_role a b k (load.Ack n) = role.Unseen

-- a tick that has nothing to send again isn't seen
abbrev pub resent_role : ℕ → Role
resent_role n = if n == 0 then role.Unseen else role.Note life.Same

-- a process's life on a machine ends at step 2 of its migration, and goes on at step 8
abbrev pub stage_role : Stage → Pid → Role
stage_role stage.Frozen p = role.Note life.Same
stage_role stage.Asked p = role.Note (life.Leaves p)
stage_role stage.Accepted p = role.Note life.Same
stage_role stage.StateTaken p = role.Note life.Same
stage_role stage.MemoryTaken p = role.Note life.Same
stage_role stage.Left p = role.Note life.Same
stage_role stage.Restarted p = role.Note (life.From p)

unfoldable pub role_of : Line → Role
role_of (line.Head s) = role.Head s
role_of (line.Idle m) = role.Unseen
role_of (line.Label l) = label_role l
role_of (line.Put a b id kind q) = role.Put (record { from = a; to = b; id = id; kind = kind; receiver = q })
role_of (line.Packet a b k l) = packet_role a b k l
role_of (line.Taken a b n) = role.Taken a b n
role_of (line.Old a b n) = role.Again a b n
role_of (line.Early a b n) = role.Early a b n
role_of (line.Acked a b n) = role.Unseen
role_of line.Nothing = role.Unseen
role_of (line.Resent m n) = resent_role n
role_of (line.Queued id) = role.Unseen
role_of (line.Held id) = role.Note life.Same
role_of (line.Forwarded id m) = role.Note life.Same
role_of (line.Updated id n) = role.Note life.Same
role_of (line.Buried id n) = role.Note life.Same
role_of (line.Migration s p) = stage_role s p
role_of (line.SentOn p n) = role.Note life.Same
role_of (line.Called p n) = role.Note life.Same
role_of (line.Lacks p s b) = role.Note life.Same
role_of (line.Stays p) = role.Note (life.From p)
role_of (line.Here id) = role.Note life.Same
role_of (line.NoMove id) = role.Note life.Same
role_of (line.Stale id) = role.Note life.Same
role_of (line.Proto id) = role.Unseen
role_of (line.NoChild p) = role.Note life.Same
role_of (line.NoCall p) = role.Note life.Same
role_of line.Away = role.Note life.Same
