use Rattle.dm_procman.proofs.Names.{◌≡◌, is_behind, retargeted}
use Rattle.dm_procman.proofs.Following.{counted, followed}
use Rattle.dm_procman.proofs.moving.retarget_children.Given as goal

abbrev pub invariant-loop-child : goal.invariant-loop-child
invariant-loop-child l = record {
  told : l.children ≡ followed (retargeted l.about l.at l.moves) l.child-index l.fn.children;
  changed : l.changed ≡ counted (is_behind l.about l.moves) l.child-index l.fn.children;
}
