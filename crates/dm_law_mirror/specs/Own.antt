-- The kernels' own messages carry what their first puts told.
use Rattle.std.specs.Prelude.{◌≡◌, true}
use Rattle.std.specs.declared.option.Option.TheVariants.{None, Some}
use Rattle.dm_message.specs.declared.Message.{Message}
use Rattle.dm_message.specs.declared.MsgId.{MsgId}
use Rattle.dm_message.specs.declared.What.{What}
use Rattle.dm_message.specs.declared.What.TheVariants as what
use Rattle.dm_message.specs.declared.kind.MessageKind.TheVariants as kind
use Rattle.dm_message.specs.Kinds.{kind_of}
use Rattle.dm_message.specs.Plain.{plain_message}
use Rattle.dm_onekernel.specs.Boot.{manager}
use Rattle.dm_law_rule.specs.View.{About, NothingElse, Target, Of, Place, Told, View, is_kernels}
use Rattle.dm_law_places.specs.Placed.{Placed}

-- what a message is about, by what it carries
abbrev pub about_of : What → About
about_of (what.Migrate machine) = Target machine
about_of (what.Update about) = Place about.pid about.at about.moves
about_of (what.Ask pid blocks moves size asker) = Of pid
about_of (what.Refuse pid slots blocks) = Of pid
about_of (what.PullState pid chunk) = Of pid
about_of (what.State pid chunk last bytes) = Of pid
about_of (what.PullBlock pid block) = Of pid
about_of (what.Memory pid block bytes) = Of pid
about_of (what.AllTaken pid) = Of pid
about_of (what.Restart pid) = Of pid
about_of (what.CallOff pid) = Of pid
about_of (what.Bury pid) = Of pid
about_of w = NothingElse

-- what was told of a message when it was first put
abbrev pub told_of : Message → Told
told_of m = record { kind = kind_of m.what; receiver = m.to.pid; about = about_of m.what }

-- a message without a plain meaning is a kernel's own, and was told as what it is
pub record OwnStands (v : View) (i : MsgId) (m : Message) : Type 0 where
  pub told : v.told i ≡ Some (told_of m)
  pub mine : is_kernels i ≡ true
  -- a request to move a process is the manager's
  pub sender : kind_of m.what ≡ kind.Migrate → m.sender.pid ≡ manager

abbrev pub AllOwnStand : View → Placed → Type 0
AllOwnStand v l = (i : MsgId) (m : Message) → l.bag i ≡ Some m → plain_message m ≡ None → OwnStands v i m
