use Rattle.dm_switchboard.proofs.Imports.{◌≡◌, counted, followed}
use Rattle.dm_switchboard.proofs.names.retarget_names.Given as goal

abbrev pub invariant-loop-place : goal.invariant-loop-place
invariant-loop-place l = record {
  names : l.names.entries ≡ followed l.about l.at l.moves l.place l.fn.names.entries;
  changed : l.changed ≡ counted l.about l.moves l.place l.fn.names.entries;
}
