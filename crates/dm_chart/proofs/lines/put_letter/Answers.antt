use Rattle.dm_chart.proofs.Names.{sym, ◌∙◌}
use Rattle.dm_chart.specs.Behind.{was_put}
use Rattle.dm_chart.specs.Shapes.{comes_at}
use Rattle.dm_chart.specs.Styles.{style_of}
use Rattle.dm_chart.proofs.Layered.{letter_hidden}
use Rattle.dm_chart.proofs.lines.put_letter.Goals as goal

pub returns-then-not-letter_shows : goal.returns-then-not-letter_shows
returns-then-not-letter_shows c = letter_hidden c.args.frame.now c.args.into.now.items (style_of c.args.spot.step c.args.letter.kind (was_put c.args.letter.id c.args.before.now)) c.args.letter c.args.spot.row (comes_at c.args.letter.from c.args.letter.to c.args.before.now c.args.spot c.args.after.now) (sym c.letter_shows.ensures ∙ c.if-not-letter_shows.true)
