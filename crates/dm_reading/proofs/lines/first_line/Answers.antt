-- A text is cut at its first line feed.
use Rattle.dm_reading.proofs.Names.{◌+◌, sym, length, drop-length}
use Rattle.dm_reading.proofs.Cuts.{take_rest}
use Rattle.dm_reading.proofs.LineCuts.{lines-first, lines-whole}
use Rattle.dm_reading.proofs.lines.first_line.Goals as goal

pub returns-in-Some-clause-lines : goal.returns-in-Some-clause-lines
returns-in-Some-clause-lines c =
    rw (take_rest (c.in-Some.end + 1) c.args.text.now) (lines-first c.args.text.now c.in-Some.end c.line_length.result (sym c.in-Some.ensures) c.line_length.ensures.length)

pub returns-in-None-clause-lines : goal.returns-in-None-clause-lines
returns-in-None-clause-lines c =
    rw (take_rest (length c.args.text.now) c.args.text.now, drop-length c.args.text.now) (lines-whole c.args.text.now (sym c.in-None.ensures) c.requires)
