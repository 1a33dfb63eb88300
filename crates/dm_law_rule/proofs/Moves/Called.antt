-- A migration is called off: the held list of the process is emptied, its messages go back, and the kernel of the machine that it was to leave is told.
use Rattle.dm_law_rule.proofs.Names.{◌≡◌, ◌≢◌, ℕ, ◌≤◌, [], ◌∷◌, ◌++◌, refl, ap, ◌∙◌, sym, subst, arith, length, inl, inr, Option, None, Some, Pid, pid_of, MsgId, MessageKind, Line, View, view_after, at_record, Point, moved, Spelled, spelled}
use Rattle.dm_law_rule.proofs.Names.{sends_on, to_kernel, Spot, Held, times, ids_at, standing, StandsAsBag, StandsNowhere}
use Rattle.dm_law_rule.proofs.Standing.{spot_cases, StandsAsBag-same, StandsAsBag-one, StandsAsBag-elsewhere}
use Rattle.dm_law_rule.proofs.Once.{Kept}
use Rattle.dm_law_rule.proofs.Bags.{cases_zero}
use Rattle.dm_law_rule.proofs.Lines.{Bag, Stands, Stands-stays, at_record_off, at_record_at}
use Rattle.dm_law_rule.proofs.Letters.{letters}
use Rattle.dm_law_rule.proofs.Pairs.Lines.{pair_same}
use Rattle.dm_law_rule.proofs.States.{State, State-at, PairsFit}
use Rattle.dm_law_rule.proofs.Said.{fits_as}
use Rattle.dm_law_rule.proofs.Moves.Lists.{held_apart, without_all, without_off, without_at, without_some, under_way}
use Rattle.dm_law_rule.proofs.Moves.States.{Between}
use Rattle.dm_law_rule.proofs.Moves.Sent.{steadied, line_next, owns_ends, all_again}
use Rattle.dm_law_rule.proofs.Requests.{called_parts}

-- the held list of a process is emptied
abbrev pub unheld : View → Pid → View
unheld v p = record v { held = at_record v.held v.acting p [] }

pub called_off : (v : View) (p : Pid) (n : ℕ) (z : Spot) → ids_at (view_after v (Line.Called p n)) z ≡ ids_at (unheld v p) z
called_off v p n z = search arith

held_once : (bag : Bag) (v : View) (p : Pid) (i : MsgId) → Kept bag v → times i (v.held v.acting p) ≤ 1
held_once bag v p i kept = elim (cases_zero (standing v i (Held v.acting p))) [
  | inl none ↦ omega (arith, none)
  | inr least ↦ let one = StandsAsBag-one (bag i) (standing v i) (Held v.acting p) least (kept i) in omega (arith, one)
]

unheld_kept : (bag : Bag) (v : View) (p : Pid) → Kept bag v → Kept (without_all (v.held v.acting p) bag) (unheld v p)
unheld_kept bag v p kept i =
    let y = Held v.acting p in
    let off : (z : Spot) → z ≢ y → ids_at (unheld v p) z ≡ ids_at v z = λ z apart. search (arith, at_record_off, held_apart) in
    let gone : standing (unheld v p) i y ≡ 0 = ap (times i) (at_record_at v.held v.acting p []) in
    elim (cases_zero (standing v i y)) [
      | inl none ↦
          subst (λ (m : Option Pid). StandsAsBag m (standing (unheld v p) i)) (sym (without_off (v.held v.acting p) bag i none))
          (StandsAsBag-same (bag i) (standing v i) (standing (unheld v p) i) (λ z. elim (spot_cases z y) [
            | inl is ↦ ap (standing (unheld v p) i) is ∙ gone ∙ sym none ∙ ap (standing v i) (sym is)
            | inr other ↦ ap (times i) (off z other)
          ]) (kept i))
      | inr least ↦
          let nowhere : StandsNowhere (standing (unheld v p) i) = λ z. elim (spot_cases z y) [
            | inl is ↦ ap (standing (unheld v p) i) is ∙ gone
            | inr other ↦ ap (times i) (off z other) ∙ StandsAsBag-elsewhere (bag i) (standing v i) y z least other (kept i)
          ] in
          subst (λ (m : Option Pid). StandsAsBag m (standing (unheld v p) i)) (sym (without_at (v.held v.acting p) bag i least)) nowhere
    ]

-- what was held is on the way to its puts
pub called_way : (pt : Point) (p : Pid) (n : ℕ) → State None pt → Between (pt.view.held pt.view.acting p) (moved pt (Line.Called p n) pt.kernel)
called_way pt p n h =
    let v = pt.view in
    let bag = letters h.own pt.kernel.bag in
    let ids = v.held v.acting p in
    let left : Stands (without_all ids bag) (unheld v p) =
    record { kept = unheld_kept bag v p h.stands.kept; told = λ i x e. h.stands.told i x (without_some ids bag i x e); mine = λ m q i x least e. h.stands.mine m q i x least (without_some ids bag i x e) } in
    record {
      r = h.r;
      e = h.e;
      sound = h.sound;
      own = h.own;
      stands = Stands-stays (without_all ids bag) (unheld v p) (view_after v (Line.Called p n)) (λ z. called_off v p n z) (λ j. refl) left;
      untold = h.untold;
      numbered = h.numbered;
      way = λ j least. (let (q, way) = under_way (bag j) (standing v j) (Held v.acting p) least (h.stands.kept j) in (q, way, h.stands.told j q way));
      once = λ j. held_once bag v p j h.stands.kept;
    }

-- it goes back, and the other kernel is told
pub called_row : (pt : Point) (p : Pid) (from : ℕ) (w : Spelled) → State None pt → PairsFit pt.view → spelled pt (called_parts p (pt.view.held pt.view.acting p) from) ≡ Some w → State None w.point
called_row pt p from w h fit e =
    let ids = pt.view.held pt.view.acting p in
    let end = to_kernel MessageKind.CallOff from ∷ [] in
    let l = Line.Called p (length ids) in
    let n = line_next pt l (sends_on from ids ++ end) w refl e in
    let next = moved pt l pt.kernel in
    let a = all_again ids next from end n.rest (record { between = called_way pt p (length ids) h; fits = fits_as pt.view next.view (pair_same pt.view l refl) fit }) n.more in
    State-at None n.rest.point w.point n.point
    (State-at None a.rest.point n.rest.point a.point (owns_ends a.next MessageKind.CallOff (pid_of from 0) from a.rest (steadied a.next a.stands) a.more))
