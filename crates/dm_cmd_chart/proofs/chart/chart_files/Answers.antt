use Rattle.dm_cmd_chart.proofs.Names.{None, subst, Part, around, shelf_around, sink_around, by_world, ChartMeets, ChartSays}
use Rattle.dm_cmd_chart.proofs.chart.chart_files.Goals as goal

pub returns-clause-meets : goal.returns-clause-meets
returns-clause-meets g c =
    let a = around (shelf_around g.F.Shelf.asked g.F.Shelf.told g.F.Shelf.faults g.F.Shelf.last_failed c.args.shelf.now c.chart_part.new.shelf) (sink_around g.K.Sink.told g.K.Sink.faults g.K.Sink.last_failed c.args.out.now c.chart_part.new.out) in
    subst (λ (p : Part). ChartMeets (ChartSays p by_world) c.args.boot.now c.args.schedule.now a None c.chart_part.result) c.part_of.ensures c.chart_part.ensures.meets
