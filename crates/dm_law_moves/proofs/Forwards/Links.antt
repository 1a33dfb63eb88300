-- Where all is at rest, a process that was told of a forward has links that lead to where the other is.
use Rattle.dm_law_moves.proofs.Names.{◌≡◌, ◌≢◌, ℕ, ◌+◌, ◌≤◌, ◌||◌, Bool, cases_Bool, inl, inr, true, false, List, [], ◌∷◌, ◌++◌, is_some, refl, ap, ◌∙◌, sym, subst, arith, slice_get, slice_get_within, Some, Pid, Place, MsgId, Boot, OneKernel, receptions, reached, Sound}
use Rattle.dm_law_moves.proofs.Names.{Step, IsStep, Leads, Point, first_point, labels, Trails, View, Unknown, Forward, actor, is_server, KnownStands, group_replay, run_always, AtRest, IsThere, CountsPromise, update_of, IsUnderWay, is_made, or_first, nat_tests}
use Rattle.dm_law_moves.proofs.At.Always.{at_rest_always}
use Rattle.dm_law_moves.proofs.Forwards.Told.{forwards_tell}
use Rattle.dm_law_moves.proofs.Promise.Always.{promises_always, same_some}
use Rattle.dm_law_moves.proofs.Promise.Finds.{lines_by, leads_append}
use Rattle.dm_law_moves.proofs.Trail.Known.{trail_known}
use Rattle.dm_law_moves.proofs.Real.Always.{made_by as life_stays}
use Rattle.dm_law_moves.proofs.Promise.Spots.{lines_told, OnTrail}

-- a process that was made stays made
made_on : (b : Boot) (es : List Step) (pt end : Point) (q : Pid) (r e : MsgId → ℕ) → Leads b pt es end → Sound r e pt.kernel → is_some (pt.kernel.processes q) ≡ true → is_some (end.kernel.processes q) ≡ true
made_on b [] pt end q r e leads h there = ap (λ (x : Point). is_some (x.kernel.processes q)) (sym leads) ∙ there
made_on b (d ∷ es) pt end q r e (w, fit, is, rest) h there =
    let k = reached r e pt.kernel w.point.kernel (labels w.lines) (group_replay b pt d w is) h in
    made_on b es w.point end q (λ i. r i + receptions i (labels w.lines)) k.e' rest k.sound (life_stays (pt.kernel.processes q) (w.point.kernel.processes q) (k.grown.lives q) there)

-- what a machine forwards for is a process that was made

-- where all is at rest, a process is where the update tells, or has moved on
record AtPlace (pt : Point) (q : Pid) (place : Place) : Type 0 where
  least : place.moves ≤ pt.view.moves q
  there : pt.view.moves q ≡ place.moves → IsThere pt q place.at

at_place : (pt : Point) (t : Trails) (id : MsgId) (p q : Pid) (place : Place) → OnTrail pt t → AtRest pt → pt.view.told id ≡ Some (update_of p q place) → is_made pt.kernel q ≡ true → AtPlace pt q place
at_place pt t id p q place on rest told made =
    let (m, now, there) = on.there q made (λ n. rest.still n q) in
    let said : slice_get (t q) place.moves ≡ Some place.at = on.about id (update_of p q place) q place.at place.moves told refl in
    let within = slice_get_within (t q) place.moves place.at said in
    let long = on.long q (λ n. rest.still n q) in
    record { least = omega (arith, within, long); there = λ same. subst (IsThere pt q) (same_some m place.at (sym now ∙ ap (slice_get (t q)) same ∙ said)) there }

-- wherever the rule leads
pub counts_promise : CountsPromise
counts_promise b before between start pt d sent p q place valid comes forwards known goes quiet =
    let forwarded_some : (v : View) (m : ℕ) (q : Pid) (to moves : ℕ) → v.known m q ≡ Forward to moves → v.known m q ≢ Unknown = λ v m q to moves known e. let f : Forward to moves ≡ Unknown = sym known ∙ e in cc in
    let forwarded_made : (s : OneKernel) (v : View) (m : ℕ) (q : Pid) (to moves : ℕ) → is_server q ≡ false → KnownStands s v → v.known m q ≡ Forward to moves → is_some (s.processes q) ≡ true =
    λ s v m q to moves process h known. let agree = h.agree m q process in (let e_ : is_some (s.processes q) ≡ true = grind (arith, nat_tests) in e_) in
    let run = (run_always b before start valid comes).run in
    let t = forwards_tell b before start d sent p q place.at valid comes forwards in
    let moves : t.moves ≡ place.moves = cc (sym t.known ∙ known) in
    let way : IsUnderWay sent.point.view t.update p q place = subst (λ (n : ℕ). IsUnderWay sent.point.view t.update p q (record { at = place.at; moves = n })) moves t.way in
    let fit = subst (IsStep start.kernel.machines) (sym t.turn) (run.found.known_within (actor start.view d) q (forwarded_some start.view (actor start.view d) q place.at place.moves known)) in
    let first = before ++ d ∷ [] in
    let told : Leads b (first_point b) first sent.point = leads_append b before (d ∷ []) (first_point b) start sent.point comes (sent, fit, forwards.is, refl) in
    let all : Leads b (first_point b) (first ++ between) pt = leads_append b first between (first_point b) sent.point pt told goes in
    let sane = run.based.phased.sane in
    let still : is_made pt.kernel q ≡ true = elim (cases_Bool (is_server q)) [
      | inl server ↦ ap (λ (c : Bool). c || is_some (pt.kernel.processes q)) server
      | inr process ↦ or_first (is_server q) (is_some (pt.kernel.processes q))
          (made_on b (d ∷ between) start pt q sane.r sane.e (sent, fit, forwards.is, goes) sane.sound (forwarded_made start.kernel start.view (actor start.view d) q place.at place.moves process run.based.known known))
    ] in
    let (trails, on) = trail_known b (first ++ between) pt valid all in
    let lines = lines_by b between sent.point pt goes in
    let told_end = lines_told lines.lines sent.point pt t.update (update_of p q place) lines.leads way.told in
    let at = at_place pt trails t.update p q place on (at_rest_always b (first ++ between) pt valid all quiet) told_end still in
    let promised = promises_always b first between sent.point pt t.update p q place valid told way goes quiet in
    record {
      update = t.update;
      way = way;
      handled = promised;
      least = at.least;
      there = at.there;
      links = λ same k unfilled leads. promised.place_kept k same unfilled leads;
    }
