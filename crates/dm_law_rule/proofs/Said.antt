-- A line is said, alone or before a message that is routed.
use Rattle.dm_law_rule.proofs.Names.{◌≡◌, [], ◌∷◌, None, Some, MsgId, OneKernel, Line, View, view_after, Point, label_of, kernel_after, moved, seen, Says, Routes, Spelled, spelled, arith, List, Part, bind-is, lines_of, bind, after, behind, ◌∙◌}
use Rattle.dm_law_rule.proofs.Names.{puts, Receiver, plain_kind, sym}
use Rattle.dm_law_rule.proofs.States.{State, says_next, said, State-at, PairsFit, PutNext, puts_next, by_packet, by_put}

pub fits_as : (v w : View) → w.pair ≡ v.pair → PairsFit v → PairsFit w
fits_as v w e h = search arith

pub record Steady (pt : Point) : Type 0 where
  pub state : State None pt
  pub fits : PairsFit pt.view

-- one line is said, and that is all
pub one_line : (pt : Point) (l : Line) (w : Spelled) → spelled pt (Says l ∷ []) ≡ Some w → ((s : OneKernel) → kernel_after pt.kernel (label_of l) ≡ Some s → State None (moved pt l s)) → State None w.point
one_line pt l w e h =
    let k = says_next pt l [] w e in
    State-at None k.rest.point w.point k.point (State-at None (moved pt l k.s) k.rest.point (said (moved pt l k.s) k.rest k.more) (h k.s k.is))

-- a message enters by a line, and is routed
pub line_and_route : (pt : Point) (l : Line) (i : MsgId) (w : Spelled) → spelled pt (Says l ∷ Routes i ∷ []) ≡ Some w → (view_after pt.view l).pair ≡ pt.view.pair → PairsFit pt.view
    → ((s : OneKernel) → kernel_after pt.kernel (label_of l) ≡ Some s → State (Some i) (moved pt l s)) → State None w.point
line_and_route pt l i w e pair fits h =
    let k = says_next pt l (Routes i ∷ []) w e in
    -- a message of the bag is routed
    let routes_next : (pt : Point) (i : MsgId) (ps : List Part) (w : Spelled) → State (Some i) pt → PairsFit pt.view → spelled pt (Routes i ∷ ps) ≡ Some w → PutNext (State None) ps w = λ pt i ps w h fits e.
    let (ls, lines, rest) = bind-is (lines_of pt (Routes i)) (λ ls. bind (after pt ls) (λ n. bind (spelled n ps) (λ v. Some (behind ls v)))) w e in
    let (x, there, last) = bind-is (pt.kernel.bag i) (λ m. Some (puts pt.view (pt.addresses (Receiver i)).at i (plain_kind m.what) m.to)) ls lines in
    puts_next (State None) (by_packet None) pt (Routes i) (pt.addresses (Receiver i)).at i (plain_kind x.what) x.to ps w (lines ∙ sym last) (by_put pt (pt.addresses (Receiver i)).at i x there fits h) e in
    let n = routes_next (moved pt l k.s) i [] k.rest (h k.s k.is) (fits_as pt.view (seen pt.kernel pt.view l) pair fits) k.more in
    State-at None k.rest.point w.point k.point (State-at None n.rest.point k.rest.point n.point (State-at None n.next n.rest.point (said n.next n.rest n.more) n.stands))
