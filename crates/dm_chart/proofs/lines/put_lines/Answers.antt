use Rattle.dm_chart.proofs.Names.{[], ◌++◌, Spot, all_drawn, ap, arith, shapes_from, sym, ◌∙◌, take_rest}
use Rattle.dm_chart.proofs.NotShown.{before_first, before_more}
use Rattle.dm_chart.proofs.Walks.{walk-end, walk-more}
use Rattle.dm_chart.proofs.lines.put_lines.Goals as goal

pub loop-i-init : goal.loop-i-init
loop-i-init c = record { drawn = ap (λ (s : Spot). c.args.into.now.items ++ all_drawn c.args.frame.now (shapes_from c.args.frame.now.rows c.args.lines.now [] s c.args.lines.now)) c.first_spot-spot.ensures; before = λ h. before_first c.args.frame.now.hidden c.first_spot-spot.result c.first_spot-spot.ensures }

pub put_unless-requires : goal.put_unless-requires
put_unless-requires c = λ t.
    let within = c.is_over.ensures.within t in
    let at = c.loop-i.invariant.before (omega arith) in
    let none = c.requires.nothing c.loop-i.i within (c.is_over.ensures.over t) c.args.frame.now.layer c.loop-i.spot _ at.row at.begun at.more in
    rw take_rest none

pub loop-i-preserved : goal.loop-i-preserved
loop-i-preserved c = record {
  drawn =
      sym (walk-more c.args.frame.now _ _ _ _ _ _ _ _ c.loop-i-test.true c.next_spot-spot.ensures.spot (rw take_rest at c.in_ok-put_unless.ensures))
      ∙ c.loop-i.invariant.drawn;
  before = before_more c.args.frame.now.hidden c.loop-i.i _ c.loop-i.spot c.next_spot-spot.result _ c.requires.few c.next_spot-spot.ensures.spot c.loop-i.invariant.before;
}

pub returns : goal.returns
returns c = sym (walk-end c.args.frame.now _ _ _ _ _ _ _ c.loop-i-test.false) ∙ c.loop-i.invariant.drawn
