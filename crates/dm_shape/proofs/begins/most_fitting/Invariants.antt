use Rattle.std.specs.Prelude.{◌≡◌, drop}
use Rattle.dm_shape.specs.Begins.{most_fitting}
use Rattle.dm_shape.proofs.begins.most_fitting.Given as goal

-- what comes of the shapes that are left comes of all
abbrev pub invariant-loop-shape : goal.invariant-loop-shape
invariant-loop-shape l = most_fitting l.most (drop l.shape-index l.shapes) l.text ≡ most_fitting 0 l.shapes l.text
