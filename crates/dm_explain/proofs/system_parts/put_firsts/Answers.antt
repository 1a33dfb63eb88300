use Rattle.dm_explain.proofs.Names.{◌+◌, ◌++◌, List, ℕ, ap, drop, sym, ◌∙◌, each}
use Rattle.dm_explain.specs.SystemParts.{first_told}
use Rattle.dm_explain.proofs.Pieces.{each-copied, each-end}
use Rattle.dm_explain.proofs.system_parts.put_firsts.Goals as goal

pub loop-place-preserved : goal.loop-place-preserved
loop-place-preserved c =
    let told = first_told c.args.processes.now c.args.numbers.now in
    ap (λ (t : List ℕ). t ++ each told (c.loop-place.place + 1) (drop (c.loop-place.place + 1) c.args.numbers.now)) c.in_ok-put_first.ensures
    ∙ (sym (each-copied told c.loop-place.into.items c.args.numbers.now c.loop-place.place _ c.loop-place-test.true) ∙ c.loop-place.invariant)

pub returns : goal.returns
returns c = sym (each-end (first_told c.args.processes.now c.args.numbers.now) c.loop-place.into.items c.args.numbers.now c.loop-place.place c.loop-place-test.false) ∙ c.loop-place.invariant
