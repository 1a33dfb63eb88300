use Rattle.dm_explain.proofs.Names.{◌+◌, ◌++◌, List, ℕ, ap, drop, sym, ◌∙◌, items_view, each, boot_process_told}
use Rattle.dm_explain.proofs.Pieces.{each-end, each-more}
use Rattle.dm_explain.proofs.system.put_processes.Goals as goal

pub loop-i-preserved : goal.loop-i-preserved
loop-i-preserved c =
    ap (λ (t : List ℕ). t ++ each (boot_process_told (items_view c.args.tables.now)) (c.loop-i.i + 1) (drop (c.loop-i.i + 1) c.args.processes.now)) c.in_ok-put_process.ensures
    ∙ (sym (each-more (boot_process_told (items_view c.args.tables.now)) c.loop-i.into.items c.args.processes.now c.loop-i.i c.index-processes-i.result c.loop-i-test.true c.index-processes-i.is) ∙ c.loop-i.invariant)

pub returns : goal.returns
returns c = sym (each-end (boot_process_told (items_view c.args.tables.now)) c.loop-i.into.items c.args.processes.now c.loop-i.i c.loop-i-test.false) ∙ c.loop-i.invariant
