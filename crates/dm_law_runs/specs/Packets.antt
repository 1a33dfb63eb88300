-- What a data packet spells: the message that was routed under its number, whenever it is put, and until the end of the run.
use Rattle.std.specs.Prelude.{◌≡◌, ◌≢◌, ℕ, ◌<◌, ◌≤◌, List, [], ◌∷◌, slice_get}
use Rattle.std.specs.declared.option.Option.{Option}
use Rattle.std.specs.declared.option.Option.TheVariants.{None, Some}
use Rattle.dm_message.specs.declared.Message.{Message}
use Rattle.dm_message.specs.Plain.{plain_message}
use Rattle.dm_packet.specs.declared.Packet.TheVariants as packet
use Rattle.dm_packet.specs.Packets.{spelling}
use Rattle.dm_wire.specs.Sent.{bytes_at}
use Rattle.dm_onekernel.specs.declared.boot.Boot.{Boot}
use Rattle.dm_onekernel.specs.Boot.{IsValid}
use Rattle.dm_schedule.specs.declared.Step.{Step}
use Rattle.dm_line.specs.declared.line.Load.{Load}
use Rattle.dm_line.specs.declared.line.Load.TheVariants as load
use Rattle.dm_law_rule.specs.Laws.{IsStep, Leads}
use Rattle.dm_law_rule.specs.Point.{Point, first_point}
use Rattle.dm_law_rule.specs.View.{SentLoad}
use Rattle.dm_world.specs.World.{WorldState}
use Rattle.dm_law_mirror.specs.Own.{told_of}
use Rattle.dm_law_mirror.specs.Run.{GoesOn}
use Rattle.dm_law_mirror.specs.Stands.{Stands}

-- the number of a message that a packet carries, by the printed lines
abbrev pub number_in : Load → Option ℕ
number_in (load.Data n) = Some n
number_in (load.Ack n) = None

abbrev pub number_of : Option SentLoad → Option ℕ
number_of None = None
number_of (Some s) = number_in s.load

-- packet k of the wire from machine a to machine c carries message number n
abbrev pub HasNumber : Point → ℕ → ℕ → ℕ → ℕ → Type 0
HasNumber pt a c k n = number_of (slice_get (pt.view.pair a c).wire k) ≡ Some n

-- the world goes on by these directives, and stands for where the rule leads
abbrev pub GoesTo : Boot → WorldState → Point → List Step → WorldState → Point → Type 0
GoesTo b w pt [] u q = (w ≡ u) × (pt ≡ q)
GoesTo b w pt (e ∷ es) u q = (g : GoesOn b w pt e) × IsStep pt.kernel.machines e × GoesTo b g.said.state g.group.point es u q

-- these bytes are the packet of the message that was routed from a to c under number n, and that nobody has taken at this point
pub record Spells (pt : Point) (a c n : ℕ) (bytes : Option (List ℕ)) : Type 0 where
  pub message : Message
  pub routed : slice_get (pt.view.pair a c).ids n ≡ Some message.id
  pub are : bytes ≡ Some (spelling (packet.Data a c n message))
  -- it is the message of the kernel without machines, or a kernel's own that was told of as what it is
  pub plain : plain_message message ≡ pt.kernel.bag message.id
  pub own : plain_message message ≡ None → pt.view.told message.id ≡ Some (told_of message)

-- a packet that is put under a number, now or later, first or again, spells the message that was routed under it, as it was before it
-- was taken
abbrev pub PacketsSpell : Type 0
PacketsSpell =
    (b : Boot) (es more : List Step) (w u : WorldState) (pt q : Point) (a c j k n : ℕ) → IsValid b → Leads b (first_point b) es pt → Stands b w pt → GoesTo b w pt more u q
    → a < pt.kernel.machines → c < pt.kernel.machines → a ≢ c → (pt.view.pair a c).taken ≤ n → HasNumber pt a c j n → HasNumber q a c k n → Spells pt a c n (bytes_at (u.wires a c) k)

-- and all packets of a number have the same bytes, whenever they are put, and whether the message was taken or not
abbrev pub PacketsAgree : Type 0
PacketsAgree =
    (b : Boot) (es more : List Step) (w u : WorldState) (pt q : Point) (a c j k n : ℕ) → IsValid b → Leads b (first_point b) es pt → Stands b w pt → GoesTo b w pt more u q
    → a < pt.kernel.machines → c < pt.kernel.machines → a ≢ c → HasNumber pt a c j n → HasNumber q a c k n → bytes_at (u.wires a c) k ≡ bytes_at (w.wires a c) j
