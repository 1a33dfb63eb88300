use Rattle.dm_explain.proofs.Names.{◌+◌, ◌++◌, List, ℕ, ap, drop, sym, ◌∙◌, each}
use Rattle.dm_explain.specs.SystemParts.{member_told}
use Rattle.dm_explain.proofs.Pieces.{each-copied, each-end}
use Rattle.dm_explain.proofs.system_parts.put_members.Goals as goal

pub loop-place-preserved : goal.loop-place-preserved
loop-place-preserved c =
    let told = member_told c.args.processes.now c.args.part in
    ap (λ (t : List ℕ). t ++ each told (c.loop-place.place + 1) (drop (c.loop-place.place + 1) c.args.numbers.now)) c.in_ok-put_member.ensures
    ∙ (sym (each-copied told c.loop-place.into.items c.args.numbers.now c.loop-place.place _ c.loop-place-test.true) ∙ c.loop-place.invariant)

pub returns : goal.returns
returns c = sym (each-end (member_told c.args.processes.now c.args.part) c.loop-place.into.items c.args.numbers.now c.loop-place.place c.loop-place-test.false) ∙ c.loop-place.invariant
