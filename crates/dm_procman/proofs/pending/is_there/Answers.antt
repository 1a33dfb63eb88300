use Rattle.std.specs.Prelude.{is_some}
use Rattle.dm_procman.proofs.Names.{ℕ, Option, ap, sym, ◌∙◌}
use Rattle.dm_procman.proofs.Numbered.{has_behind, has_under}
use Rattle.dm_procman.proofs.pending.is_there.Goals as goal

pub returns-then-contains_key : goal.returns-then-contains_key
returns-then-contains_key c =
    c.if-contains_key.true
    ∙ has_under c.args.number c.args.ascending.now.entries c.args.others.now c.requires (sym c.contains_key.ensures ∙ c.if-contains_key.true)

pub returns-else-contains_key : goal.returns-else-contains_key
returns-else-contains_key c =
    c.is_some.ensures ∙ ap (λ (o : Option ℕ). is_some o) c.place_of.ensures
    ∙ has_behind c.args.number c.args.ascending.now.entries c.args.others.now c.requires (sym c.contains_key.ensures ∙ c.if-contains_key.false)
