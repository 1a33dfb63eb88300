-- A text is cut at the first such byte.
use Rattle.dm_reading.proofs.Names.{◌+◌, ◌∷◌, ap, sym, ◌∙◌, take, pieces}
use Rattle.dm_reading.proofs.Cuts.{pieces-at, pieces-whole, take_rest}
use Rattle.dm_reading.proofs.pieces.split.Goals as goal

pub returns-in-Some : goal.returns-in-Some
returns-in-Some c =
    pieces-at c.args.at c.args.text.now c.in-Some.i (sym c.place_of.ensures ∙ c.in-Some.is)
    ∙ ap (λ t. take c.in-Some.i c.args.text.now ∷ pieces c.args.at t) (sym (take_rest (c.in-Some.i + 1) c.args.text.now))

pub returns-in-None : goal.returns-in-None
returns-in-None c = pieces-whole c.args.at c.args.text.now (sym c.place_of.ensures ∙ c.in-None.is)
