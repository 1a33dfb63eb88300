-- Each line of a group has the shape of its row.
use Rattle.dm_shape.proofs.Imports.{◌≡◌, ℕ, List, true, false, refl, Line, LineFits, Shape, line_words, is_row, row_of, pieces}
use Rattle.dm_shape.specs.Begins.{fitting_row}
unfoldable use Rattle.dm_shape.specs.Begins.{fitting_shape}
use Rattle.dm_onekernel.specs.declared.label.Label.TheVariants as label
use Rattle.dm_schedule.specs.declared.Step.TheVariants as step
use Rattle.dm_line.specs.declared.line.Line.TheVariants as line
use Rattle.dm_line.specs.declared.line.Load.TheVariants as load
use Rattle.dm_shape.specs.declared.shape.Shape.TheVariants as shape
use Rattle.dm_shape.specs.declared.shape.HeadShape.TheVariants as head_shape
use Rattle.dm_shape.specs.declared.shape.KernelShape.TheVariants as kernel_shape
use Rattle.dm_shape.specs.declared.shape.GroupShape.TheVariants as group_shape
use Rattle.dm_shape.proofs.Listed.{has_row, listed}
use Rattle.dm_shape.proofs.WordsFit.{machine_fits, number_fits, packet_fits, process_fits, message_fits, small_fits, short_fits, reply_fits, why_fits, outcome_fits, kind_fits, stage_fits, six_fits, data_fits, ack_fits}

-- a row of which some words are, that a line of a group may have
pub record RowOf (ws : List (List ℕ)) : Type 0 where
  pub shape_ : Shape
  pub plain : (row_of shape_).lists ≡ false
  pub printed : (t : List ℕ) → fitting_shape shape_ t ≡ fitting_row (row_of shape_) (pieces 32 t)
  pub is : is_row (row_of shape_) ws ≡ true

pub line_row : (l : Line) → LineFits l → RowOf (line_words l)
unfolding fitting_shape
line_row (line.Head (step.Turn m)) h = record { shape_ = shape.Head head_shape.Turn; plain = refl; printed = λ t. refl; is = (rw (machine_fits m h.1.0) refl) }
line_row (line.Head (step.Tick m)) h = record { shape_ = shape.Head head_shape.Tick; plain = refl; printed = λ t. refl; is = (rw (machine_fits m h.1.0) refl) }
line_row (line.Head (step.Deliver a b k)) h = record { shape_ = shape.Head head_shape.Deliver; plain = refl; printed = λ t. refl; is = (rw (machine_fits a h.1.0, machine_fits b h.1.1.0, packet_fits k h.1.1.1.0) refl) }
line_row (line.Head (step.Migrate p m)) h = record { shape_ = shape.Head head_shape.Migrate; plain = refl; printed = λ t. refl; is = (rw (process_fits p h.1.0, machine_fits m h.1.1.0) refl) }
line_row (line.Head (step.CallOff p m)) h = record { shape_ = shape.Head head_shape.CallOff; plain = refl; printed = λ t. refl; is = (rw (process_fits p h.1.0, machine_fits m h.1.1.0) refl) }
line_row (line.Idle m) h = record { shape_ = shape.Group group_shape.Idle; plain = refl; printed = λ t. refl; is = (rw (machine_fits m h.1.0) refl) }
line_row (line.Label (label.Ran p k)) h = record { shape_ = shape.Kernel kernel_shape.Ran; plain = refl; printed = λ t. refl; is = (rw (process_fits p h.1.0, number_fits k h.1.1.0) refl) }
line_row (line.Label (label.Call p n c)) h = record { shape_ = shape.Kernel kernel_shape.Call; plain = refl; printed = λ t. refl; is = (rw (process_fits p h.1.0, small_fits n h.1.1.0, reply_fits c) refl) }
line_row (line.Label (label.Send p i)) h = record { shape_ = shape.Kernel kernel_shape.Send; plain = refl; printed = λ t. refl; is = (rw (process_fits p h.1.0, message_fits i h.1.1.0) refl) }
line_row (line.Label (label.Wait p)) h = record { shape_ = shape.Kernel kernel_shape.Wait; plain = refl; printed = λ t. refl; is = (rw (process_fits p h.1.0) refl) }
line_row (line.Label (label.Out p w)) h = record { shape_ = shape.Kernel kernel_shape.Out; plain = refl; printed = λ t. refl; is = (rw (process_fits p h.1.0, number_fits w h.1.1.0) refl) }
line_row (line.Label (label.End p y)) h = record { shape_ = shape.Kernel kernel_shape.End; plain = refl; printed = λ t. refl; is = (rw (process_fits p h.1.0, why_fits y) refl) }
line_row (line.Label (label.Receive p i)) h = record { shape_ = shape.Kernel kernel_shape.Receive; plain = refl; printed = λ t. refl; is = (rw (process_fits p h.1.0, message_fits i h.1.1.0) refl) }
line_row (line.Label (label.Refuse p i c)) h = record { shape_ = shape.Kernel kernel_shape.Refuse; plain = refl; printed = λ t. refl; is = (rw (process_fits p h.1.0, message_fits i h.1.1.0, reply_fits c) refl) }
line_row (line.Label (label.Dropped i)) h = record { shape_ = shape.Kernel kernel_shape.Dropped; plain = refl; printed = λ t. refl; is = (rw (message_fits i h.1.0) refl) }
line_row (line.Label (label.Served i)) h = record { shape_ = shape.Kernel kernel_shape.Served; plain = refl; printed = λ t. refl; is = (rw (message_fits i h.1.0) refl) }
line_row (line.Label (label.Gone i)) h = record { shape_ = shape.Kernel kernel_shape.Gone; plain = refl; printed = λ t. refl; is = (rw (message_fits i h.1.0) refl) }
line_row (line.Label (label.Took i)) h = record { shape_ = shape.Kernel kernel_shape.Took; plain = refl; printed = λ t. refl; is = (rw (message_fits i h.1.0) refl) }
line_row (line.Label (label.Created i p)) h = record { shape_ = shape.Kernel kernel_shape.Created; plain = refl; printed = λ t. refl; is = (rw (message_fits i h.1.0, process_fits p h.1.1.0) refl) }
line_row (line.Label (label.NoSpace i s b)) h = record { shape_ = shape.Kernel kernel_shape.NoSpace; plain = refl; printed = λ t. refl; is = (rw (message_fits i h.1.0, small_fits s h.1.1.0, short_fits b h.1.1.1.0) refl) }
line_row (line.Label (label.Asked i)) h = record { shape_ = shape.Kernel kernel_shape.Asked; plain = refl; printed = λ t. refl; is = (rw (message_fits i h.1.0) refl) }
line_row (line.Label (label.Answered i o)) h = record { shape_ = shape.Kernel kernel_shape.Answered; plain = refl; printed = λ t. refl; is = (rw (message_fits i h.1.0, outcome_fits o) refl) }
line_row (line.Put a b i k q) h = record { shape_ = shape.Group group_shape.Put; plain = refl; printed = λ t. refl; is = (rw (machine_fits a h.1.0, machine_fits b h.1.1.0, message_fits i h.1.1.1.0, kind_fits k, process_fits q h.1.1.1.1.1.0) refl) }
line_row (line.Packet a b k (load.Data n)) h = record {
  shape_ = shape.Group group_shape.Packet;
  plain = refl;
  printed = λ t. refl;
  is = (rw (
    machine_fits a h.1.0,
    machine_fits b h.1.1.0,
    packet_fits k h.1.1.1.0,
    data_fits,
    number_fits n h.1.1.1.1.1.0,
  ) refl);
}
line_row (line.Packet a b k (load.Ack n)) h = record {
  shape_ = shape.Group group_shape.Packet;
  plain = refl;
  printed = λ t. refl;
  is = (rw (
    machine_fits a h.1.0,
    machine_fits b h.1.1.0,
    packet_fits k h.1.1.1.0,
    ack_fits,
    number_fits n h.1.1.1.1.1.0,
  ) refl);
}
line_row (line.Taken a b n) h = record { shape_ = shape.Group group_shape.Taken; plain = refl; printed = λ t. refl; is = (rw (machine_fits a h.1.0, machine_fits b h.1.1.0, number_fits n h.1.1.1.0) refl) }
line_row (line.Old a b n) h = record { shape_ = shape.Group group_shape.Old; plain = refl; printed = λ t. refl; is = (rw (machine_fits a h.1.0, machine_fits b h.1.1.0, number_fits n h.1.1.1.0) refl) }
line_row (line.Early a b n) h = record { shape_ = shape.Group group_shape.Early; plain = refl; printed = λ t. refl; is = (rw (machine_fits a h.1.0, machine_fits b h.1.1.0, number_fits n h.1.1.1.0) refl) }
line_row (line.Acked a b n) h = record { shape_ = shape.Group group_shape.Acked; plain = refl; printed = λ t. refl; is = (rw (machine_fits a h.1.0, machine_fits b h.1.1.0, number_fits n h.1.1.1.0) refl) }
line_row line.Nothing h = record { shape_ = shape.Group group_shape.Nothing; plain = refl; printed = λ t. refl; is = (refl) }
line_row (line.Resent m n) h = record { shape_ = shape.Group group_shape.Resent; plain = refl; printed = λ t. refl; is = (rw (machine_fits m h.1.0, number_fits n h.1.1.0) refl) }
line_row (line.Queued i) h = record { shape_ = shape.Group group_shape.Queued; plain = refl; printed = λ t. refl; is = (rw (message_fits i h.1.0) refl) }
line_row (line.Held i) h = record { shape_ = shape.Group group_shape.Held; plain = refl; printed = λ t. refl; is = (rw (message_fits i h.1.0) refl) }
line_row (line.Forwarded i m) h = record { shape_ = shape.Group group_shape.Forwarded; plain = refl; printed = λ t. refl; is = (rw (message_fits i h.1.0, machine_fits m h.1.1.0) refl) }
line_row (line.Updated i n) h = record { shape_ = shape.Group group_shape.Updated; plain = refl; printed = λ t. refl; is = (rw (message_fits i h.1.0, number_fits n h.1.1.0) refl) }
line_row (line.Buried i n) h = record { shape_ = shape.Group group_shape.Buried; plain = refl; printed = λ t. refl; is = (rw (message_fits i h.1.0, number_fits n h.1.1.0) refl) }
line_row (line.Migration s p) h = record { shape_ = shape.Group group_shape.Stage; plain = refl; printed = λ t. refl; is = (rw (stage_fits s, process_fits p h.1.1.0) refl) }
line_row (line.SentOn p n) h = record { shape_ = shape.Group group_shape.SentOn; plain = refl; printed = λ t. refl; is = (rw (six_fits, process_fits p h.1.1.0, number_fits n h.1.1.1.0) refl) }
line_row (line.Called p n) h = record { shape_ = shape.Group group_shape.Called; plain = refl; printed = λ t. refl; is = (rw (process_fits p h.1.0, number_fits n h.1.1.0) refl) }
line_row (line.Lacks p s b) h = record { shape_ = shape.Group group_shape.Lacks; plain = refl; printed = λ t. refl; is = (rw (process_fits p h.1.0, small_fits s h.1.1.0, short_fits b h.1.1.1.0) refl) }
line_row (line.Stays p) h = record { shape_ = shape.Group group_shape.Stays; plain = refl; printed = λ t. refl; is = (rw (process_fits p h.1.0) refl) }
line_row (line.Here i) h = record { shape_ = shape.Group group_shape.Here; plain = refl; printed = λ t. refl; is = (rw (message_fits i h.1.0) refl) }
line_row (line.NoMove i) h = record { shape_ = shape.Group group_shape.NoMove; plain = refl; printed = λ t. refl; is = (rw (message_fits i h.1.0) refl) }
line_row (line.Stale i) h = record { shape_ = shape.Group group_shape.Stale; plain = refl; printed = λ t. refl; is = (rw (message_fits i h.1.0) refl) }
line_row (line.Proto i) h = record { shape_ = shape.Group group_shape.Proto; plain = refl; printed = λ t. refl; is = (rw (message_fits i h.1.0) refl) }
line_row (line.NoChild p) h = record { shape_ = shape.Group group_shape.NoChild; plain = refl; printed = λ t. refl; is = (rw (process_fits p h.1.0) refl) }
line_row (line.NoCall p) h = record { shape_ = shape.Group group_shape.NoCall; plain = refl; printed = λ t. refl; is = (rw (process_fits p h.1.0) refl) }
line_row line.Away h = record { shape_ = shape.Group group_shape.Away; plain = refl; printed = λ t. refl; is = (refl) }

pub line_has_row : (l : Line) → LineFits l → has_row (line_words l) ≡ true
line_has_row l h = let r = line_row l h in listed (λ x. is_row (row_of x) (line_words l)) r.shape_ r.is
