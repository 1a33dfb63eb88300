-- What the command `check` promises of labels is kept.
use Rattle.dm_cmd_check.proofs.Names.{ℕ, List, NoMemory, Kept, lack_unread, Both, outside, labels_promise}
use Rattle.dm_ending.specs.declared.status.Input.TheVariants as input
use Rattle.dm_cmd_check.proofs.LabelOutcomes.{labels_never, labels_taken}
use Rattle.dm_cmd_check.proofs.LabelsDecided.{labels_decided}

-- it speaks of no machines, so there is one promise
pub labels_kept : (boot labels : List ℕ) → Kept (labels_promise boot labels) (labels_promise boot labels)
labels_kept boot labels = record {
  carried = λ a world s h. h;
  first = λ files s said h. h;
  lacks = λ a world lack h nothing. labels_never boot labels a world (NoMemory lack) tt (lack_unread (Both boot input.Labels labels) a world lack h nothing) h.unwritten h.no_world;
  silent = λ files lack said e. e;
  met = λ a world s h. h.met;
  taken = λ a world s h e. labels_taken boot labels a world s h e;
  decided = λ a world s h. labels_decided boot labels (outside a world) s h.says h.met.sink.blames;
}
