use Rattle.dm_wire.proofs.Names.{◌≡◌, ◌-◌, suc, ap, sym, ◌∙◌, arith, beginning}
use Rattle.dm_wire.proofs.Bytes.{begins_behind, begins_first}
use Rattle.dm_wire.proofs.packets.beginning.Goals as goal

pub returns-then-number-eq0 : goal.returns-then-number-eq0
returns-then-number-eq0 c = sym (ap (beginning 0 c.args.ends.now) c.if-number-eq0.true ∙ begins_first 0 c.args.ends.now)

pub returns-else-number-eq0 : goal.returns-else-number-eq0
returns-else-number-eq0 c =
    let before : suc (c.args.number - 1) ≡ c.args.number = omega arith in
    sym (begins_behind 0 c.args.ends.now (c.args.number - 1) (omega arith)) ∙ ap (beginning 0 c.args.ends.now) before
