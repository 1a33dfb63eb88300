-- The table of the labels.
use Rattle.std.specs.Prelude.{ℕ, List, Option}
use Rattle.std.specs.BTreeMap.{get_by}
use Rattle.std.specs.Cmp.Lexicographic.{slice_cmp}
use Rattle.std.specs.Ordering.{nat_cmp}
use Rattle.dm_asm.specs.declared.labels.Labels.{Labels}
use Rattle.dm_asm.specs.declared.labels.Place.{Place}

-- where a table has a label
unfoldable pub place_in : Labels → List ℕ → Option Place
place_in labels name = get_by (λ k. slice_cmp nat_cmp name k.now) labels.map
