-- Where all packets of a pair were delivered, a mark leaves it so.
use Rattle.dm_wire.proofs.Names.{is_pair, packets_on, ◌∙◌, ap, position, is_unseen}
use Rattle.dm_wire.proofs.Pending.{none_after}
use Rattle.dm_wire.proofs.wire.Wire.mark.Goals as goal

pub invariant_of-self-else-is_none : goal.invariant_of-self-else-is_none
invariant_of-self-else-is_none c = record {
  from = λ a b less off.
      ap (position is_unseen) (c.mark.ensures a b)
      ∙ none_after (is_pair c.args.a c.args.b a b) (packets_on c.self.inside.pairs.items a b) c.args.number (c.self.invariant.from a b less off);
  to = λ a b none lt less off.
      ap (position is_unseen) (c.mark.ensures a b)
      ∙ none_after (is_pair c.args.a c.args.b a b) (packets_on c.self.inside.pairs.items a b) c.args.number (c.self.invariant.to a b none lt less off);
}
