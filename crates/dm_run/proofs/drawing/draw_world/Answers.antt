use Rattle.dm_run.proofs.Names.{◌≡◌, ap, sym, subst, ◌∙◌, Err, world_state, HasEnded, IsCollected, Kept, Keeps, none_kept}
use Rattle.dm_chart.specs.declared.kept.Part.{Part}
use Rattle.dm_node.specs.declared.stop.Stop.{Stop}
use Rattle.dm_run.proofs.Pictures.{whole_drawn, worn_drawn}
use Rattle.dm_run.proofs.drawing.draw_world.Goals as goal

pub collect-requires-clause-none : goal.collect-requires-clause-none
collect-requires-clause-none c = c.new-kept.ensures ∙ ap (λ (k : Kept). none_kept k.part) (sym c.new-kept.ensures)

pub returns-in-Ok : goal.returns-in-Ok
returns-in-Ok c =
    let part = ap (λ (k : Kept). k.part) c.new-kept.ensures in
    let came = subst (λ (p : Part). HasEnded c.args.world.now.boot c.args.directives.now (Keeps p c.collect.new.kept) (world_state c.collect.new.world)) part c.in-Ok.ensures.came in
    whole_drawn c.args.part c.args.world.now.boot c.args.directives.now c.args.machines c.args.starts.now.pids c.args.starts.now.names.items c.collect.new.kept (world_state c.collect.new.world) c.in_ok-whole-in-Ok.whole.items
    came c.requires.machines c.requires.pids c.requires.names c.in_ok-whole-in-Ok.ensures

pub returns-in-Err-Worn : goal.returns-in-Err-Worn
returns-in-Err-Worn c =
    let part = ap (λ (k : Kept). k.part) c.new-kept.ensures in
    let came = subst (λ (p : Part). IsCollected {A = Unit {0}} p c.args.world.now.boot c.args.directives.now c.collect.new.kept (world_state c.collect.new.world) (Err c.in-Err-Worn.field-0)) part c.in-Err-Worn.ensures.came in
    let worn = subst (λ (s : Stop). IsCollected {A = Unit {0}} c.args.part c.args.world.now.boot c.args.directives.now c.collect.new.kept (world_state c.collect.new.world) (Err s)) c.in-Err-Worn.field-0-is came in
    worn_drawn c.args.part c.args.world.now.boot c.args.directives.now c.args.machines c.args.starts.now.pids c.args.starts.now.names.items c.collect.new.kept c.in_ok-text-in-Err-Worn.text.items c.in-Err-Worn.from c.in-Err-Worn.to
    worn c.requires.machines c.requires.pids c.requires.names c.in_ok-text-in-Err-Worn.ensures
