use Rattle.dm_chart.proofs.Names.{◌≡◌, Bool, Frame, Line, List, subst, sym}
use Rattle.dm_chart.specs.Left.{IsLeft}
use Rattle.dm_chart.proofs.chart.put_layers.Goals as goal

-- of the same lines
same_left : (f : Frame) (all lines : List Line) (found left : List Bool) → IsLeft f lines found → lines ≡ all → left ≡ found → IsLeft f all left
same_left f all lines found left h e i = subst (λ (ls : List Bool). IsLeft f all ls) (sym i) (subst (λ (ls : List Line). IsLeft f ls found) e h)

pub put_shapes-requires : goal.put_shapes-requires
put_shapes-requires c = same_left c.args.frame.now c.args.kept.now.lines c.as_slice-lines.result.now c.in_ok-found.found c.as_slice-left.result.now c.in_ok-found.ensures c.as_slice-lines.ensures c.as_slice-left.ensures

pub put_shapes-requires-2 : goal.put_shapes-requires-2
put_shapes-requires-2 c = same_left c.args.frame.now c.args.kept.now.lines c.as_slice-lines.result.now c.in_ok-found.found c.as_slice-left.result.now c.in_ok-found.ensures c.as_slice-lines.ensures c.as_slice-left.ensures

pub put_shapes-requires-3 : goal.put_shapes-requires-3
put_shapes-requires-3 c = same_left c.args.frame.now c.args.kept.now.lines c.as_slice-lines.result.now c.in_ok-found.found c.as_slice-left.result.now c.in_ok-found.ensures c.as_slice-lines.ensures c.as_slice-left.ensures
