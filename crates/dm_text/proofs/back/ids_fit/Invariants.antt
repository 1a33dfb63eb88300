use Rattle.dm_text.proofs.Names.{ℕ, ◌<◌, get_or, MsgId, IdFits}
use Rattle.dm_text.proofs.back.ids_fit.Given as goal

-- those before the loop's place
abbrev pub invariant-loop-id : goal.invariant-loop-id
invariant-loop-id l = (k : ℕ) (d : MsgId) → k < l.id-index → IdFits (get_or l.ids k d)
