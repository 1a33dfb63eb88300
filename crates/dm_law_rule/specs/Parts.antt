-- A group is its head and then parts, and each part is a line or two.
use Rattle.std.specs.Prelude.{ℕ, ◌-◌, Bool, ◌==◌, ◌&&◌, nat_lt, if◌then◌else◌, List, [], ◌∷◌, ◌++◌, length}
use Rattle.std.specs.declared.option.Option.{Option}
use Rattle.std.specs.declared.option.Option.TheVariants.{Some}
use Rattle.dm_link.specs.declared.Pid.{Pid}
use Rattle.dm_message.specs.declared.MsgId.{MsgId}
use Rattle.dm_message.specs.declared.kind.MessageKind.{MessageKind}
use Rattle.dm_message.specs.Kinds.{plain_kind}
use Rattle.dm_onekernel.specs.Options.{bind}
use Rattle.dm_line.specs.declared.line.Line.{Line}
use Rattle.dm_line.specs.declared.line.Line.TheVariants as line
use Rattle.dm_line.specs.declared.line.Load.{Load}
use Rattle.dm_line.specs.declared.line.Load.TheVariants as load
use Rattle.dm_law_rule.specs.View.{View, Pair, own_id}
use Rattle.dm_law_rule.specs.Addresses.{Receiver}
use Rattle.dm_law_rule.specs.Point.{Point, after}

-- a line that says what happens; a message of the bag that is routed, a message that goes on to another machine, or the next
-- message of the acting machine's kernel; a packet alone: an acknowledgement, a repeat, or a message that an
-- acknowledgement lets go
pub data Part : Type 0 where
  Says : (said : Line) → Part
  Routes : (id : MsgId) → Part
  Again : (id : MsgId) → (to : ℕ) → Part
  Owns : (kind : MessageKind) → (receiver : Pid) → (to : ℕ) → Part
  Transmits : (from : ℕ) → (to : ℕ) → (carried : Load) → Part

-- at most so many messages are out and not acknowledged
abbrev pub pair_window : ℕ
pair_window = 8

-- the message that is routed next on a pair goes out at once: none waits, and the window isn't full
abbrev pub goes_out : Pair → Bool
goes_out p = (p.gone == length p.ids) && nat_lt (p.gone - p.acked) pair_window

abbrev pub packet_line : View → ℕ → ℕ → Load → Line
packet_line v a b l = line.Packet a b (length (v.pair a b).wire) l

-- a message goes from the acting machine to this one
abbrev pub puts : View → ℕ → MsgId → MessageKind → Pid → List Line
puts v b id k q =
    line.Put v.acting b id k q
    ∷ (if (v.acting == b) then [] else if goes_out (v.pair v.acting b) then packet_line v v.acting b (load.Data (length (v.pair v.acting b).ids)) ∷ [] else [])

-- the lines of a part; there are none where a message isn't in the bag, or one that goes on was never put
abbrev pub lines_of : Point → Part → Option (List Line)
lines_of pt (Says l) = Some (l ∷ [])
lines_of pt (Routes id) = bind (pt.kernel.bag id) (λ m. Some (puts pt.view (pt.addresses (Receiver id)).at id (plain_kind m.what) m.to))
lines_of pt (Again id b) = bind (pt.view.told id) (λ t. Some (puts pt.view b id t.kind t.receiver))
lines_of pt (Owns k q b) = Some (puts pt.view b (own_id pt.view) k q)
lines_of pt (Transmits a b l) = Some (packet_line pt.view a b l ∷ [])

-- lines, and the point that they lead to
pub record Spelled : Type 0 where
  pub lines : List Line
  pub point : Point

-- what follows lines, with these before it
abbrev pub behind : List Line → Spelled → Spelled
behind ls w = record { lines = ls ++ w.lines; point = w.point }

-- the lines of parts, one part after the other, and where they lead
abbrev pub spelled : Point → List Part → Option Spelled
spelled pt [] = Some (record { lines = []; point = pt })
spelled pt (p ∷ ps) = bind (lines_of pt p) (λ ls. bind (after pt ls) (λ next. bind (spelled next ps) (λ rest. Some (behind ls rest))))
