-- Nothing stands on a wire to a machine past the sixteenth.
use Rattle.dm_wire.proofs.Names.{packets_on, ◌<◌, ℕ, ap, sym, ◌∙◌, position, is_unseen, subst}
use Rattle.dm_wire.proofs.Pending.{if_none, if_some, none_at}
use Rattle.dm_wire.proofs.wire.Wire.first_open.Goals as goal

pub returns-clause-none : goal.returns-clause-none
returns-clause-none c =
    let w = c.self.inside in
    let there : c.from.result < 16 = subst (λ (k : ℕ). k < 16) (sym c.from.ensures) c.requires in
    rw (sym c.self.view_is)
    (if_none c.first_from.result
    (λ empty b from. sym (ap (λ (k : ℕ). position is_unseen (packets_on w.pairs.items k b)) c.from.ensures) ∙ none_at w.pending w.pairs.items c.from.result b _ c.self.invariant.to there (empty b from))
    c.first_from.ensures.none)

pub returns-clause-some : goal.returns-clause-some
returns-clause-some c =
    let w = c.self.inside in
    let there : c.from.result < 16 = subst (λ (k : ℕ). k < 16) (sym c.from.ensures) c.requires in
    rw (sym c.self.view_is)
    (if_some c.first_from.result
    (λ k first. (first.from, λ b from below. sym (ap (λ (k : ℕ). position is_unseen (packets_on w.pairs.items k b)) c.from.ensures) ∙ none_at w.pending w.pairs.items c.from.result b _ c.self.invariant.to there (first.before b from below)))
    c.first_from.ensures.some)
