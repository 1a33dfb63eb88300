-- A directive that doesn't meet the last one that was done finds its machine, its packet and the manager as they were before that one.
use Rattle.dm_law_mirror.proofs.Names.{◌≡◌, ◌≢◌, ◌==◌, ℕ, false, List, ◌∷◌, length, ap, ◌∙◌, sym, subst, arith, nat_tests, Some, Boot, IsValid, Step, Line, WorldState, Said, SamePacket, here}
use Rattle.std.specs.List.{Contains}
use Rattle.dm_world.specs.Local.{acts_on}
use Rattle.dm_run.specs.Runs.{IsStep}
use Rattle.dm_run.specs.Went.{Does}
use Rattle.dm_law_mirror.proofs.Local.{acts_locally}
use Rattle.dm_law_mirror.proofs.Staying.{kernel_stays}
use Rattle.dm_explore.specs.Asked.{Bounds}
use Rattle.dm_explore.specs.Order.{delivers_of, is_away, machine_of, meet}
use Rattle.dm_explore.specs.Past.{Did, groups_of, puts_in, steps_of}
use Rattle.dm_explore.specs.Places.{Place, after_step, chosen_at, sight}
use Rattle.dm_explore.specs.Search.{HasGone}
use Rattle.dm_law_runs.proofs.Choices.Behind.{gone_back}
use Rattle.dm_law_runs.proofs.Choices.ByRule.Fine.{IsFine, fine_same}
use Rattle.dm_law_runs.proofs.Choices.Neighbours.Acting.{SameSeat, acts_less, acts_same, machine_acts, machine_same}
use Rattle.dm_law_runs.proofs.Choices.Neighbours.Changing.{Settled, marks_leave, settled_same}
use Rattle.dm_law_runs.proofs.Choices.Neighbours.Going.{seats_stay, settled_by}
use Rattle.dm_law_runs.proofs.Choices.Neighbours.Places.{behind_of, did_of, next_place}
use Rattle.dm_law_runs.proofs.Choices.Neighbours.Reaching.{is_at}
use Rattle.dm_law_runs.proofs.Choices.Neighbours.Rows.{SeesAt, earlier, of_row, row_of}
use Rattle.dm_law_runs.proofs.Choices.Neighbours.Top.{not_same, parts_of, sees_at}

seat_back : (b : Boot) (e : Step) (w u : WorldState) → SameSeat b e w u → SameSeat b e u w
seat_back b (Step.Turn m) w u h = tt
seat_back b (Step.Tick m) w u h = tt
seat_back b (Step.Deliver a c k) w u h = tt
seat_back b (Step.Migrate p m) w u h = sym h
seat_back b (Step.CallOff p m) w u h = tt

-- it could be done before: it is a choice there, and what it needs there it has behind too
pub record IsSooner (b : Boot) (q : Bounds) (p u : Place) (e : Step) : Type 0 where
  pub among : Contains (chosen_at b q p) e
  pub fine : IsFine b p.state e → IsFine b u.state e

sooner_said : (b : Boot) (q : Bounds) (p : Place) (d e : Step) (s : Said) → IsValid b → HasGone b p → Does b p.state d s.lines s.state → meet (did_of b p d s) e (machine_of (sight b (next_place b p d s)) e) (is_away (sight b (next_place b p d s)) e) ≡ false
    → IsStep (length b.machines) e → Contains (chosen_at b q (next_place b p d s)) e → IsSooner b q p (next_place b p d s) e
sooner_said b q p d e s valid gone does apart fits among =
    let n = length b.machines in
    let es = steps_of p.done in
    let gs = groups_of p.done in
    let w = p.state in
    let v = s.state in
    let u = next_place b p d s in
    let x = did_of b p d s in
    let m = acts_on b w d in
    let k = acts_on b v e in
    let parts = parts_of x.away (is_away (sight b u) e) (x.machine == machine_of (sight b u) e) (delivers_of (puts_in x.lines) e) apart in
    let differ : machine_of (sight b p) d ≢ machine_of (sight b u) e = λ same. (let off : (machine_of (sight b p) d == machine_of (sight b u) e) ≡ false = parts.machine in grind (arith, nat_tests)) in
    let acts_differ : m ≢ k = λ same. differ (machine_acts b d w ∙ same ∙ sym (machine_acts b e v)) in
    let back : k ≢ m = λ same. acts_differ (sym same) in
    let here_d : here (w.nodes m) ≡ m = is_at b es gs w m valid gone.went (acts_less b w d does.fits) in
    let (more, puts) = acts_locally kernel_stays b w d s here_d does.happens in
    let node_e : w.nodes k ≡ v.nodes k = sym (puts.nodes k back ∙ marks_leave d w k) in
    let seats_e : SameSeat b e v w = seats_stay b es gs v w e valid gone.went parts.second node_e in
    let acts_e : acts_on b w e ≡ k = acts_same b e v w seats_e in
    let settled_e : Settled e w v = settled_by b es gs w d e s valid gone.went does fits parts.brings in
    let packet_e : SamePacket e w v = settled_same e m more d w v puts settled_e in
    let node_there : v.nodes (acts_on b w e) ≡ w.nodes (acts_on b w e) = subst (λ (j : ℕ). v.nodes j ≡ w.nodes j) (sym acts_e) (sym node_e) in
    let machine_e : machine_of (sight b p) e ≡ machine_of (sight b u) e = machine_same b e v w seats_e in
    let others : machine_of (sight b p) d ≢ machine_of (sight b p) e = λ same. differ (same ∙ machine_e) in
    let sees : SeesAt (sight b u) (sight b p) (machine_of (sight b u) e) = subst (SeesAt (sight b u) (sight b p)) (sym (machine_acts b e v)) (sees_at n v w k node_e) in
    record {
      among = of_row n q (sight b p) p.done e (earlier n q (sight b p) (sight b u) x p.done e sees differ (not_same (sight b p) d e others) parts.brings (row_of n q (sight b u) (x ∷ p.done) e among));
      fine = fine_same b w v e (seat_back b e v w seats_e) node_there packet_e;
    }

pub sooner : (b : Boot) (q : Bounds) (p u : Place) (d e : Step) (x : Did) → IsValid b → HasGone b p → HasGone b u → after_step b p d ≡ Some u → u.done ≡ x ∷ p.done → meet x e (machine_of (sight b u) e) (is_away (sight b u) e) ≡ false → IsStep (length b.machines) e → Contains (chosen_at b q u) e
    → IsSooner b q p u e
sooner b q p u d e x valid gone_p gone_u after done apart fits among =
    let h = behind_of b p d u after in
    let s = h.said in
    let g = gone_back b p u d gone_p.led_ gone_u after in
    let state_is : u.state ≡ s.state = ap (λ (z : Place). z.state) (sym h.is) in
    let lines_are : g.lines ≡ s.lines = (let i = g.does.happens in let j = h.happens in let same : record { state = u.state; lines = g.lines } ≡ s = cc in ap (λ (z : Said). z.lines) same) in
    let does : Does b p.state d s.lines s.state = subst (λ (z : WorldState). Does b p.state d s.lines z) state_is (subst (λ (ls : List Line). Does b p.state d ls u.state) lines_are g.does) in
    let x_is : x ≡ did_of b p d s = (let both : x ∷ p.done ≡ did_of b p d s ∷ p.done = sym done ∙ ap (λ (z : Place). z.done) (sym h.is) in cc) in
    let apart_there : meet (did_of b p d s) e (machine_of (sight b (next_place b p d s)) e) (is_away (sight b (next_place b p d s)) e) ≡ false =
    subst (λ (z : Place). meet (did_of b p d s) e (machine_of (sight b z) e) (is_away (sight b z) e) ≡ false) (sym h.is) (subst (λ (y : Did). meet y e (machine_of (sight b u) e) (is_away (sight b u) e) ≡ false) x_is apart) in
    subst (λ (z : Place). IsSooner b q p z e) h.is (sooner_said b q p d e s valid gone_p does apart_there fits (subst (λ (z : Place). Contains (chosen_at b q z) e) (sym h.is) among))
