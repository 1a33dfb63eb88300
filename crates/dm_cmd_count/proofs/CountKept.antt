-- What the command `count` promises is kept.
use Rattle.dm_cmd_count.proofs.Names.{ℕ, false, List, length, All, IsValid, Boot, Directive, Carries, Notion, IsFor, Decides, run_decided, Kept, run_met, run_taken, runs_lack, outside, CountSays, count_promise}
use Rattle.dm_drill.specs.declared.report.Report.TheVariants as report
use Rattle.dm_cmd_count.proofs.Counted.{counted_said, counted_tells}

pub count_kept : (r q : Notion) (boot schedule : List ℕ) → Decides q → ((b : Boot) (ds : List Directive) → IsValid b → All (IsFor (length b.machines)) ds → Carries r q b ds) → Kept (count_promise r boot schedule) (count_promise q boot schedule)
count_kept r q boot schedule d carries = record {
  carried = λ a world s h. run_met (CountSays r) (CountSays q) boot schedule a world s (λ b ds before after valid each says. counted_said r q false report.OfRun b ds before after world s (carries b ds valid each) says) h;
  first = λ files s said h. h;
  lacks = λ a world lack h nothing. runs_lack (CountSays r) boot schedule a world lack h nothing;
  silent = λ files lack said e. e;
  met = λ a world s h. h.met;
  taken = λ a world s h e. run_taken (CountSays r) boot schedule a world s (λ b ds before after w k. k) h e;
  decided = λ a world s h. run_decided q (CountSays q) boot schedule (outside a world) s d (λ b ds. counted_tells q false report.OfRun b ds _ _ world d) h.says h.met.sink.blames;
}
