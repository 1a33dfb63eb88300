-- Wherever the rule leads, on each pair of machines each has done its part.
use Rattle.dm_law_moves.proofs.Names.{◌≡◌, ◌==◌, false, List, [], ◌∷◌, refl, ap, ◌∙◌, subst, inl, arith, slice_get, Some, nat_tests, Boot, Step, Line, IsStep, Leads, migrates, Says, Spelled, spelled, Point, first_point, moved, arrives}
use Rattle.dm_law_moves.proofs.Names.{group_of, outstanding_count, resends, first_view, arrives_net, group_is, Pairs, Pairs-group, Pairs-start, AllFit, migrates_fit, resends_fit, turns_fit, PairsRestAlways, acked_out_by, calls_off}
use Rattle.dm_law_moves.proofs.Names.{calls_off_fit}
use Rattle.dm_law_moves.proofs.Settles.Rests.RestsComes.{arrives_rest, net_pairs}
use Rattle.dm_law_moves.proofs.Settles.Rests.RestsParts.{Rest, parts_rest}
use Rattle.dm_law_rule.proofs.Phases.Rests.{eq_other}

pub rest_start : (b : Boot) → Rest (first_view b).pair
rest_start b a c e = record {
  gone = inl refl;
  next = refl;
  sent = λ n h. absurd (omega (arith, h));
  there = λ n h. absurd h;
  answered = inl refl;
  heard = λ n h. absurd h;
}

pub rest_group : (b : Boot) (pt : Point) (d : Step) (w : Spelled) → IsStep pt.kernel.machines d → group_of b pt d ≡ Some w → Pairs pt.view → Rest pt.view.pair → Rest w.point.view.pair
rest_group b pt (Step.Turn m) w fit is pairs h =
    let g = group_is b pt (Step.Turn m) w is in
    let begun = moved pt (Line.Head (Step.Turn m)) pt.kernel in
    subst (λ (q : Point). Rest q.view.pair) g.point (parts_rest g.parts begun g.rest (turns_fit begun.view.pair b pt m (pt.view.inbox m) g.parts g.is) pairs h g.said)
rest_group b pt (Step.Tick m) w fit is pairs h =
    let g = group_is b pt (Step.Tick m) w is in
    let begun = moved pt (Line.Head (Step.Tick m)) pt.kernel in
    let says = Says (Line.Resent m (outstanding_count pt.view m pt.kernel.machines)) ∷ resends pt.view m pt.kernel.machines in
    let parts : says ≡ g.parts = let f = g.is in cc in
    let fits : AllFit pt.view.pair says = (refl, resends_fit pt.view m pt.kernel.machines (λ n. acked_out_by pt.view m n (m == n) refl pairs)) in
    subst (λ (q : Point). Rest q.view.pair) g.point (parts_rest says begun g.rest fits pairs h (ap (spelled begun) parts ∙ g.said))
rest_group b pt (Step.Deliver a c k) w fit is pairs h =
    let g = group_is b pt (Step.Deliver a c k) w is in
    let begun = moved pt (Line.Head (Step.Deliver a c k)) pt.kernel in
    let apart = fit.2 in
    let ac : (a == c) ≡ false = grind (arith, nat_tests) in
    let f = pt.view.pair in
    let o = slice_get (f a c).wire k in
    let comes = arrives a c (f a c) (f c a) o in
    let parts : comes ≡ g.parts = let x = g.is in cc in
    let said : spelled begun comes ≡ Some g.rest = ap (spelled begun) parts ∙ g.said in
    let pairs_are = net_pairs comes begun g.rest (arrives_net a c (f a c) (f c a) o) said in
    subst (λ (q : Point). Rest q.view.pair) g.point
    (arrives_rest f g.rest.point.view.pair a c k o ac refl (pairs.stand.apart a c ac) (pairs.stand.apart c a (eq_other a c ac)) (pairs.kept a c) h pairs_are)
rest_group b pt (Step.Migrate p m) w fit is pairs h =
    let g = group_is b pt (Step.Migrate p m) w is in
    let begun = moved pt (Line.Head (Step.Migrate p m)) pt.kernel in
    let parts : migrates pt p ≡ g.parts = let x = g.is in cc in
    subst (λ (q : Point). Rest q.view.pair) g.point
    (parts_rest g.parts begun g.rest (subst (AllFit begun.view.pair) parts (migrates_fit begun.view.pair pt p)) pairs h g.said)
rest_group b pt (Step.CallOff p m) w fit is pairs h =
    let g = group_is b pt (Step.CallOff p m) w is in
    let begun = moved pt (Line.Head (Step.CallOff p m)) pt.kernel in
    let parts : calls_off pt m p (pt.view.known m p) ≡ g.parts = let x = g.is in cc in
    subst (λ (q : Point). Rest q.view.pair) g.point
    (parts_rest g.parts begun g.rest (subst (AllFit begun.view.pair) parts (calls_off_fit begun.view.pair pt m p)) pairs h g.said)

rest_on : (b : Boot) (es : List Step) (pt end : Point) → Leads b pt es end → Pairs pt.view → Rest pt.view.pair → Rest end.view.pair
rest_on b [] pt end leads pairs h = subst (λ (q : Point). Rest q.view.pair) leads h
rest_on b (e ∷ es) pt end (w, fit, is, more) pairs h = rest_on b es w.point end more (Pairs-group b pt e w fit is pairs) (rest_group b pt e w fit is pairs h)

pub rest_always : (b : Boot) (es : List Step) (pt : Point) → Leads b (first_point b) es pt → Rest pt.view.pair
rest_always b es pt leads = rest_on b es (first_point b) pt leads (Pairs-start b) (rest_start b)

pub pairs_rest_always : PairsRestAlways
pairs_rest_always b es pt a c leads apart = rest_always b es pt leads a c (let e : (a == c) ≡ false = grind (arith, nat_tests) in e)
