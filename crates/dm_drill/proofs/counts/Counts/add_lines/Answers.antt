use Rattle.std.proofs.lemmas.List.Elements.{All-more}
use Rattle.dm_drill.proofs.Names.{ℕ, List, take, sym, ap, ◌∙◌, arith, Option, Line, LineFits, one_more, shown, with_group_lines, Totals, Counted}
use Rattle.dm_drill.proofs.Counting.{lines_none, lines_more}
use Rattle.dm_drill.proofs.counts.Counts.add_lines.Goals as goal

pub loop-line-init : goal.loop-line-init
loop-line-init c = record {
  counted = sym (lines_none (shown c.args.self.now) c.args.lines.now);
  fits = λ k d h. absurd (omega arith);
}

pub loop-line-preserved : goal.loop-line-preserved
loop-line-preserved c =
    let t : Totals = shown c.args.self.now in
    let ls : List Line = c.args.lines.now in
    let i : ℕ = c.loop-line.line-index in
    record {
      counted =
          c.in_ok-add.ensures
          ∙ (ap (one_more c.sort_of.result) c.loop-line.invariant.counted
          ∙ (ap (λ (s : Option Counted). one_more s (with_group_lines t (take i ls))) c.sort_of.ensures ∙ sym (lines_more t ls i _ c.loop-line-test.true)));
      fits = All-more LineFits ls i _ c.loop-line-test.true c.loop-line.invariant.fits c.line_fits.ensures;
    }
