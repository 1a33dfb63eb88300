-- The label was not there.
use Rattle.dm_asm.proofs.Names.{place_in}
use Rattle.dm_asm.proofs.Defined.{defined}
use Rattle.dm_asm.proofs.labels.Labels.define.Goals as goal

pub returns : goal.returns
unfolding place_in
returns c = record {
  ok =
      defined c.args.name.now c.args.self.now.map c.insert.new.map c.args.place c.in_ok-insert.ensures.updates c.if-contains_key.ensures;
}
