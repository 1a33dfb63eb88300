-- Two directives one behind the other that don't meet may change places.
use Rattle.dm_law_mirror.proofs.Names.{◌≡◌, ◌≢◌, ◌==◌, ◌&&◌, ◌||◌, ℕ, Bool, true, false, not, nat_lt, is_some, ◌∷◌, length, refl, ap, ◌∙◌, sym, subst, arith, nat_tests, Some, Boot, IsValid, Step, NodeState, WorldState, Said, world_step}
use Rattle.std.specs.List.{Contains}
use Rattle.dm_kernel.specs.Turn.{first_runnable}
use Rattle.dm_stream.specs.Sending.{given_count}
use Rattle.dm_world.specs.Local.{acts_on}
use Rattle.dm_world.specs.World.{Says}
use Rattle.dm_run.specs.Went.{Does}
use Rattle.dm_explore.specs.Asked.{Bounds}
use Rattle.dm_explore.specs.Order.{delivers_of, is_away, machine_of}
use Rattle.dm_explore.specs.Past.{Did, groups_of, is_same, puts_in, steps_of}
use Rattle.dm_explore.specs.Places.{Place, after_step, chosen_at, sight}
use Rattle.dm_explore.specs.Search.{AreAsked, HasGone}
use Rattle.dm_explore.specs.Sights.{Sight, any_below, world_sight}
use Rattle.dm_law_runs.specs.Choices.Chosen.{Change, IsApart, WasPut}
use Rattle.dm_law_runs.specs.Choices.Laws.{NeighboursChange}
use Rattle.dm_law_runs.proofs.Choices.Neighbours.Acting.{away_same, machine_acts, machine_same}
use Rattle.dm_law_runs.proofs.Choices.Neighbours.Going.{Swapped, swapped}
use Rattle.dm_law_runs.proofs.Choices.Neighbours.Places.{after_by, behind_of, did_of, gone_back, gone_on, gone_once, next_place, put_there}
use Rattle.dm_law_runs.proofs.Choices.Neighbours.Rows.{Row, SeesAt, earlier, later, of_row, row_of, row_put}

-- what is seen of a machine that stays
pub sees_at : (n : ℕ) (w u : WorldState) (m : ℕ) → u.nodes m ≡ w.nodes m → SeesAt (world_sight n w) (world_sight n u) m
sees_at n w u m same = record {
  acts = ap (λ (x : NodeState). nat_lt 0 (length x.kernel.inbox) || is_some (first_runnable x.kernel.records x.kernel.ring)) same;
  waits = λ a. ap (λ (x : NodeState). nat_lt (x.senders a).gone (given_count (x.senders a))) same;
  resends = ap (λ (x : NodeState). any_below n (λ c. not (m == c) && nat_lt (x.senders c).acked (x.senders c).gone)) same;
}

-- directives of different machines aren't the same request
pub not_same : (s : Sight) (d e : Step) → machine_of s d ≢ machine_of s e → is_same d e ≡ false
not_same s (Step.Migrate p m) (Step.Migrate q n) apart = absurd (apart refl)
not_same s (Step.CallOff p m) (Step.CallOff q n) apart = grind (arith, nat_tests)
not_same s _ _ apart = refl

pub apart_back : (m n : ℕ) → m ≢ n → n ≢ m
apart_back m n apart same = apart (sym same)

-- what it means that two don't meet
pub record Parts (c d m b : Bool) : Type 0 where
  pub first : c ≡ false
  pub second : d ≡ false
  pub machine : m ≡ false
  pub brings : b ≡ false

pub parts_of : (c d m b : Bool) → (c || d || m || b) ≡ false → Parts c d m b
parts_of false false false false e = record { first = refl; second = refl; machine = refl; brings = refl }
parts_of true d m b e = absurd (let f : true ≡ false = e in cc)
parts_of false true m b e = absurd (let f : true ≡ false = e in cc)
parts_of false false true b e = absurd (let f : true ≡ false = e in cc)
parts_of false false false true e = absurd (let f : true ≡ false = e in cc)

-- both were done by a run of the world
record Done (b : Boot) (p : Place) (d e : Step) (s t : Said) : Type 0 where
  first : Does b p.state d s.lines s.state
  second : Does b s.state e t.lines t.state

done_of : (b : Boot) (p : Place) (d e : Step) (s t : Said) → HasGone b p → world_step b p.state d ≡ Some (Says s) → HasGone b (next_place b (next_place b p d s) e t) → Done b p d e s t
done_of b p d e s t hp happens hv =
    let u = next_place b p d s in
    let x = did_of b p d s in
    let y = did_of b u e t in
    let last = gone_back b (next_place b u e t) y (x ∷ p.done) hv refl in
    let first = gone_back b last.before x p.done last.gone last.done in
    let same : first.before ≡ p = gone_once b first.before p first.gone hp first.done in
    let there : after_step b p d ≡ Some last.before = ap (λ (q : Place). after_step b q d) (sym same) ∙ first.after_ in
    let middle : last.before ≡ u = let f : after_step b p d ≡ Some u = after_by b p d s happens in cc in
    record {
      first = subst (λ (q : Place). Does b p.state d s.lines q.state) middle (subst (λ (q : Place). Does b q.state d s.lines last.before.state) same first.does);
      second = subst (λ (q : Place). Does b q.state e t.lines t.state) middle last.does;
    }

change_by : (b : Boot) (p : Place) (d e : Step) (s t : Said) → IsValid b → HasGone b p → world_step b p.state d ≡ Some (Says s) → HasGone b (next_place b (next_place b p d s) e t) → WasPut p.done d → IsApart b (did_of b p d s) (next_place b p d s) e
    → Change b p (next_place b (next_place b p d s) e t) d e (did_of b p d s) (did_of b (next_place b p d s) e t)
change_by b p d e s t valid hp happens hv put apart =
    let n = length b.machines in
    let u = next_place b p d s in
    let x = did_of b p d s in
    let y = did_of b u e t in
    let done = done_of b p d e s t hp happens hv in
    let parts = parts_of x.away (is_away (sight b u) e) (x.machine == machine_of (sight b u) e) (delivers_of (puts_in x.lines) e) apart in
    let differ : machine_of (sight b p) d ≢ machine_of (sight b u) e = λ same. (let off : (machine_of (sight b p) d == machine_of (sight b u) e) ≡ false = parts.machine in grind (arith, nat_tests)) in
    let acts_differ : acts_on b p.state d ≢ acts_on b s.state e = λ same. differ (machine_acts b d p.state ∙ same ∙ sym (machine_acts b e s.state)) in
    let k : Swapped b p.state d e s t = swapped b (steps_of p.done) (groups_of p.done) p.state d e s t (record {
      valid = valid;
      went = hp.went;
      first = done.first;
      second = done.second;
      seat_d = parts.first;
      seat_e = parts.second;
      apart = acts_differ;
      brings_none = parts.brings;
      there = put_there b p d valid hp done.first.fits put;
    }) in
    let middle = next_place b p e k.first in
    let last = next_place b middle d k.last in
    let machine_e : machine_of (sight b p) e ≡ machine_of (sight b u) e = machine_same b e s.state p.state k.seats_e in
    let away_e : is_away (sight b p) e ≡ is_away (sight b u) e = away_same b e s.state p.state k.seats_e in
    let machine_d : machine_of (sight b middle) d ≡ machine_of (sight b p) d = machine_same b d p.state k.first.state k.seats_d in
    let away_d : is_away (sight b middle) d ≡ is_away (sight b p) d = away_same b d p.state k.first.state k.seats_d in
    let did_e : did_of b p e k.first ≡ y = λ i. record { step = e; machine = machine_e i; away = away_e i; lines = k.lines_first i } in
    let did_d : did_of b middle d k.last ≡ x = λ i. record { step = d; machine = machine_d i; away = away_d i; lines = k.lines_last i } in
    let gone : HasGone b middle = gone_on b p e k.first hp k.does_first in
    let others : machine_of (sight b p) d ≢ machine_of (sight b p) e = λ same. differ (same ∙ machine_e) in
    record {
      between = middle;
      last = last;
      first = after_by b p e k.first k.does_first.happens;
      second = after_by b middle d k.last k.does_last.happens;
      done = λ i. did_e i ∷ p.done;
      both = λ i. did_d i ∷ did_e i ∷ p.done;
      same = k.same;
      gone = gone_on b middle d k.last gone k.does_last;
      chosen = λ q asked chosen_d v after_v chosen_e.
          (let same : v ≡ u = (let f : after_step b p d ≡ Some u = after_by b p d s happens in cc) in
          let row_e : Row n q (sight b u) (x ∷ p.done) e = row_of n q (sight b u) (x ∷ p.done) e (subst (λ (z : Place). Contains (chosen_at b q z) e) same chosen_e) in
          let row_d : Row n q (sight b p) p.done d = row_of n q (sight b p) p.done d chosen_d in
          let sees_e : SeesAt (sight b u) (sight b p) (machine_of (sight b u) e) = subst (SeesAt (sight b u) (sight b p)) (sym (machine_acts b e s.state)) (sees_at n s.state p.state (acts_on b s.state e) k.node_e) in
          let sees_d : SeesAt (sight b p) (sight b middle) (machine_of (sight b p) d) = subst (SeesAt (sight b p) (sight b middle)) (sym (machine_acts b d p.state)) (sees_at n p.state k.first.state (acts_on b p.state d) k.node_d) in
          let sooner = earlier n q (sight b p) (sight b u) x p.done e sees_e differ (not_same (sight b p) d e others) parts.brings row_e in
          let after_ = later n q (sight b p) (sight b u) (sight b middle) x (did_of b p e k.first) p.done d asked refl sees_d (apart_back (machine_of (sight b p) d) (machine_of (sight b u) e) differ) (not_same (sight b p) e d (apart_back (machine_of (sight b p) d) (machine_of (sight b p) e) others)) row_e row_d in
          (of_row n q (sight b p) p.done e sooner, of_row n q (sight b middle) (did_of b p e k.first ∷ p.done) d after_));
    }

-- whatever names the places and what was done
change_of : (b : Boot) (p u v : Place) (d e : Step) (x y : Did) (s t : Said) → IsValid b → HasGone b p → HasGone b v → WasPut p.done d → world_step b p.state d ≡ Some (Says s) → next_place b p d s ≡ u → next_place b u e t ≡ v → u.done ≡ x ∷ p.done → v.done ≡ y ∷ x ∷ p.done → IsApart b x u e → Change b p v d e x y
change_of b p u v d e x y s t valid hp hv put happens is_u is_v done_u done_v apart =
    let v_is : next_place b (next_place b p d s) e t ≡ v = ap (λ (q : Place). next_place b q e t) is_u ∙ is_v in
    let x_is : did_of b p d s ≡ x = (let f : did_of b p d s ∷ p.done ≡ x ∷ p.done = ap (λ (q : Place). q.done) is_u ∙ done_u in cc) in
    let y_is : did_of b (next_place b p d s) e t ≡ y = (let f : did_of b (next_place b p d s) e t ∷ did_of b p d s ∷ p.done ≡ y ∷ x ∷ p.done = ap (λ (q : Place). q.done) v_is ∙ done_v in cc) in
    let apart_ : IsApart b (did_of b p d s) (next_place b p d s) e = subst (λ (z : Did). IsApart b z (next_place b p d s) e) (sym x_is) (subst (λ (q : Place). IsApart b x q e) (sym is_u) apart) in
    subst (λ (z : Did). Change b p v d e x z) y_is
    (subst (λ (z : Did). Change b p v d e z (did_of b (next_place b p d s) e t)) x_is
    (subst (λ (q : Place). Change b p q d e (did_of b p d s) (did_of b (next_place b p d s) e t)) v_is
    (change_by b p d e s t valid hp happens (subst (HasGone b) (sym v_is) hv) put apart_)))

pub neighbours_change : NeighboursChange
neighbours_change b p v d e x y valid hp hv put h =
    let first = behind_of b p d h.between h.first in
    let second = behind_of b h.between e v h.second in
    change_of b p h.between v d e x y first.said second.said valid hp hv put first.happens first.is second.is h.done h.both h.apart

-- what may be chosen at a place is no delivery of a packet that wasn't put
pub chosen_put : (b : Boot) (q : Bounds) (p : Place) (d : Step) → AreAsked (length b.machines) q → Contains (chosen_at b q p) d → WasPut p.done d
chosen_put b q p d asked h = row_put (length b.machines) q (sight b p) p.done d asked (row_of (length b.machines) q (sight b p) p.done d h)
