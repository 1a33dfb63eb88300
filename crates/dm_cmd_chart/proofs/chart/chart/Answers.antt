use Rattle.dm_cmd_chart.proofs.Names.{List, subst, sym, None, Directive, Status, by_world, IsBeforeWorn, IsDrawn, PictureIsWhole, Drawn, ChartSays}
use Rattle.dm_cmd_chart.proofs.Charting.{whole_says, worn_says}
use Rattle.dm_cmd_chart.proofs.chart.chart.Goals as goal

pub returns-in-Ok-Whole-clause-says : goal.returns-in-Ok-Whole-clause-says
returns-in-Ok-Whole-clause-says g c =
    let drawn : PictureIsWhole c.args.part by_world c.args.inputs.boot c.args.inputs.directives.items c.in-Ok-Whole.text.items =
    subst (λ (ds : List Directive). PictureIsWhole c.args.part by_world c.args.inputs.boot ds c.in-Ok-Whole.text.items) c.as_slice.ensures.value
    (subst (λ (d : Drawn). IsDrawn c.args.part by_world c.args.inputs.boot c.as_slice.result.now d) c.in-Ok-Whole.field-0-is c.in-Ok-Whole.ensures) in
    subst (λ (s : Status). ChartSays c.args.part by_world c.args.inputs.boot c.args.inputs.directives.items (g.K.Sink.told c.args.out.now) (g.K.Sink.told c.write_all.new.sink) None s) (sym c.ended.ensures)
    (whole_says c.args.part by_world c.args.inputs.boot c.args.inputs.directives.items c.in-Ok-Whole.text.items (g.K.Sink.told c.args.out.now) (g.K.Sink.told c.write_all.new.sink) c.write_all.result drawn
    (rw c.as_slice-in-Ok-Whole.ensures.value at c.write_all.ensures.all) (rw c.as_slice-in-Ok-Whole.ensures.value at c.write_all.ensures.cut))

pub returns-in-Ok-Worn-clause-says : goal.returns-in-Ok-Worn-clause-says
returns-in-Ok-Worn-clause-says g c =
    let drawn : IsBeforeWorn c.args.part by_world c.args.inputs.boot c.args.inputs.directives.items c.in-Ok-Worn.text.items c.in-Ok-Worn.from c.in-Ok-Worn.to =
    subst (λ (ds : List Directive). IsBeforeWorn c.args.part by_world c.args.inputs.boot ds c.in-Ok-Worn.text.items c.in-Ok-Worn.from c.in-Ok-Worn.to) c.as_slice.ensures.value
    (subst (λ (d : Drawn). IsDrawn c.args.part by_world c.args.inputs.boot c.as_slice.result.now d) c.in-Ok-Worn.field-0-is c.in-Ok-Worn.ensures) in
    subst (λ (s : Status). ChartSays c.args.part by_world c.args.inputs.boot c.args.inputs.directives.items (g.K.Sink.told c.args.out.now) (g.K.Sink.told c.write_all-in-Ok-Worn.new.sink) None s) (sym c.ended-in-Ok-Worn.ensures)
    (worn_says c.args.part by_world c.args.inputs.boot c.args.inputs.directives.items c.in-Ok-Worn.text.items c.in-Ok-Worn.from c.in-Ok-Worn.to (g.K.Sink.told c.args.out.now) (g.K.Sink.told c.write_all-in-Ok-Worn.new.sink) c.write_all-in-Ok-Worn.result drawn
    (rw c.as_slice-in-Ok-Worn.ensures.value at c.write_all-in-Ok-Worn.ensures.all) (rw c.as_slice-in-Ok-Worn.ensures.value at c.write_all-in-Ok-Worn.ensures.cut))
