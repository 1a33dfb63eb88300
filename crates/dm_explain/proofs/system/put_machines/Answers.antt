use Rattle.dm_explain.proofs.Names.{◌+◌, ◌++◌, List, ℕ, ap, drop, sym, ◌∙◌, each, machine_told}
use Rattle.dm_explain.proofs.Pieces.{each-copied, each-end}
use Rattle.dm_explain.proofs.system.put_machines.Goals as goal

pub loop-i-preserved : goal.loop-i-preserved
loop-i-preserved c =
    ap (λ (t : List ℕ). t ++ each machine_told (c.loop-i.i + 1) (drop (c.loop-i.i + 1) c.args.machines.now)) c.in_ok-put_machine.ensures
    ∙ (sym (each-copied machine_told c.loop-i.into.items c.args.machines.now c.loop-i.i _ c.loop-i-test.true) ∙ c.loop-i.invariant)

pub returns : goal.returns
returns c = sym (each-end machine_told c.loop-i.into.items c.args.machines.now c.loop-i.i c.loop-i-test.false) ∙ c.loop-i.invariant
