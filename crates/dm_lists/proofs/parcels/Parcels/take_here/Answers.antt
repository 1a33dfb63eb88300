use Rattle.std.proofs.Common.{rules}
use Rattle.std.proofs.lemmas.List.Edits.{remove-append_right}
use Rattle.dm_lists.proofs.parcels.Parcels.take_here.Goals as goal

pub returns-else-place-before-clause-rest : goal.returns-else-place-before-clause-rest
returns-else-place-before-clause-rest g c = search (rules, remove-append_right)
