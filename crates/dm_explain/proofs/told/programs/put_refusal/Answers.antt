use Rattle.dm_explain.proofs.Pieces.{append_three}
unfoldable use Rattle.dm_explain.specs.Told.{refusal_told}
use Rattle.dm_explain.proofs.told.programs.put_refusal.Goals as goal

pub returns : goal.returns
unfolding refusal_told
returns c = rw (c.in_ok-put_note.ensures, c.in_ok-put_again.ensures, append_three) at c.put_place.ensures
