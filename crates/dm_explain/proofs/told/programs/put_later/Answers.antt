use Rattle.dm_explain.proofs.Names.{◌≡◌, length, rules, sym, ◌∙◌, place_in, source_lines, view}
use Rattle.dm_reading.proofs.LineCuts.{source_lines-none}
use Rattle.dm_explain.proofs.TextFaults.{later-end}
use Rattle.dm_explain.proofs.told.programs.put_later.Goals as goal

pub returns : goal.returns
returns c =
    let none : length c.loop-rest.rest.now ≡ 0 = search rules in
    sym (later-end (view c.args.program.now.image.now) c.args.program.now.before c.args.program.now.first (place_in c.args.program.now.labels.now) c.loop-rest.number c.loop-rest.at c.loop-rest.into.items (source_lines c.loop-rest.rest.now) (source_lines-none c.loop-rest.rest.now none))
    ∙ c.loop-rest.invariant.same
