-- Where a run stands after its lines so far.
use Rattle.std.specs.Prelude.{List, [], ◌∷◌, filter_map}
use Rattle.std.specs.Option.{option_map_or}
-- a label, where there is one, before others
pub use Rattle.std.specs.List.{cons_option as with_label}
use Rattle.std.specs.declared.option.Option.{Option}
use Rattle.std.specs.declared.option.Option.TheVariants.{None, Some}
use Rattle.dm_onekernel.specs.declared.boot.Boot.{Boot}
use Rattle.dm_message.specs.Plain as what
use Rattle.dm_message.specs.Plain.{PlainMessage, PlainWhat}
use Rattle.dm_onekernel.specs.declared.label.Label.{Label}
use Rattle.dm_onekernel.specs.declared.label.Label.TheVariants as label
use Rattle.dm_onekernel.specs.Kernel.{OneKernel}
use Rattle.dm_onekernel.specs.Options.{bind}
use Rattle.dm_onekernel.specs.Start.{start}
use Rattle.dm_onekernel.specs.Step as kernel
use Rattle.dm_line.specs.declared.line.Line.{Line}
use Rattle.dm_line.specs.declared.line.Line.TheVariants as line
use Rattle.dm_law_rule.specs.Acts.{act_of}
use Rattle.dm_law_rule.specs.View.{About, NothingElse, Target, View, about, view_after, first_view}
use Rattle.dm_law_rule.specs.Addresses.{Addresses, addresses_by, first_addresses}

-- the machine that a message says its receiver is to move to
abbrev pub move_target : PlainWhat → About
move_target (what.Move machine) = Target machine
move_target w = NothingElse

-- the kernel without machines, the view and the addresses
pub record Point : Type 0 where
  pub kernel : OneKernel
  pub view : View
  pub addresses : Addresses

-- the step of the kernel that a line is, if it is one
abbrev pub label_of : Line → Option Label
label_of (line.Label l) = Some l
label_of l = None

-- the labels among the lines
abbrev pub labels : List Line → List Label
labels ls = filter_map label_of ls

-- the kernel after a line: a label is a step, and the other lines change nothing
abbrev pub kernel_after : OneKernel → Option Label → Option OneKernel
kernel_after s label = option_map_or (kernel.step s) label (Some s)

-- where a process goes that is asked to move, no line says: the kernel's message does
abbrev pub topic_by : OneKernel → About → Option Label → About
topic_by s topic (Some (label.Asked id)) = option_map_or (λ m. move_target m.what) (s.bag id) NothingElse
topic_by s topic l = topic

-- the view behind a line: what the line changes, and what the group is about then
abbrev pub seen : OneKernel → View → Line → View
seen s v l = about (view_after v l) (topic_by s (view_after v l).topic (label_of l))

-- the point behind a line, where the kernel behind it is known
abbrev pub moved : Point → Line → OneKernel → Point
moved pt l s = record { kernel = s; view = seen pt.kernel pt.view l; addresses = addresses_by pt.kernel pt.view pt.addresses (act_of l) }

-- where a run stands after one more line, if the kernel can take its label
abbrev pub after_line : Point → Line → Option Point
after_line pt l = bind (kernel_after pt.kernel (label_of l)) (λ s. Some (moved pt l s))

-- after more lines, if the kernel can take their labels
abbrev pub after : Point → List Line → Option Point
after pt [] = Some pt
after pt (l ∷ ls) = bind (after_line pt l) (λ next. after next ls)

-- before the first line
abbrev pub first_point : Boot → Point
first_point b = record { kernel = start b; view = first_view b; addresses = first_addresses b }
