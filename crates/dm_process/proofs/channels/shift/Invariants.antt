use Rattle.std.specs.Prelude.{slice_index_or, nat_lt, if◌then◌else◌}
use Rattle.dm_process.proofs.Names.{◌≡◌, ℕ, ◌<◌, false}
use Rattle.dm_process.specs.Passed.{shifted}
use Rattle.dm_process.proofs.channels.shift.Given as goal

abbrev pub invariant-loop-channel : goal.invariant-loop-channel
invariant-loop-channel l = record {
  shifted : (c : ℕ) → slice_index_or l.places c 0 ≡ (if nat_lt c l.channel then shifted l.place (slice_index_or l.fn.places c 0) else slice_index_or l.fn.places c 0);
  none : l.any ≡ false → (c : ℕ) → c < l.channel → slice_index_or l.places c 0 ≡ 0;
}
