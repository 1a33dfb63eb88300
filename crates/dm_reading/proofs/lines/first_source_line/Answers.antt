-- A text is cut at its first line feed.
use Rattle.dm_reading.proofs.Names.{◌+◌, sym, length, drop-length, source_lines, ends_line}
use Rattle.dm_reading.proofs.Cuts.{cut-position, cut-whole, take_rest}
use Rattle.dm_reading.proofs.lines.first_source_line.Goals as goal

pub returns-in-Some-clause-lines : goal.returns-in-Some-clause-lines
unfolding source_lines
returns-in-Some-clause-lines c =
    rw (take_rest (c.in-Some.end + 1) c.args.text.now) (cut-position ends_line c.args.text.now c.in-Some.end (sym c.in-Some.ensures))

pub returns-in-None-clause-lines : goal.returns-in-None-clause-lines
unfolding source_lines
returns-in-None-clause-lines c =
    rw (take_rest (length c.args.text.now) c.args.text.now, drop-length c.args.text.now) (cut-whole ends_line c.args.text.now (sym c.in-None.ensures) c.requires)
