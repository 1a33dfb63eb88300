use Rattle.dm_chart.proofs.Names.{sym, ◌∙◌}
use Rattle.dm_chart.proofs.Layered.{packet_hidden}
use Rattle.dm_chart.proofs.lines.put_sending.Goals as goal

pub returns-then-not-packet_shows : goal.returns-then-not-packet_shows
returns-then-not-packet_shows c =
    packet_hidden c.args.frame.now c.args.into.now.items c.args.sending.from c.args.sending.to c.args.sending.k c.args.sending.row c.args.sending.own c.args.spot c.args.after.now (sym c.packet_shows.ensures ∙ c.if-not-packet_shows.true)
