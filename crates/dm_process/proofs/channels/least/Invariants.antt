use Rattle.std.specs.Prelude.{slice_index_or}
use Rattle.dm_process.proofs.Names.{◌≡◌, ℕ, ◌<◌, ◌≤◌, true}
use Rattle.dm_process.specs.Mail.{on_mask}
use Rattle.dm_process.proofs.channels.least.Given as goal

abbrev pub invariant-loop-channel : goal.invariant-loop-channel
invariant-loop-channel l = record {
  within : l.passed ≤ l.len;
  least : (c : ℕ) → c < l.channel → on_mask l.mask c ≡ true → l.passed ≤ slice_index_or l.places c 0;
}
