-- Each update that is under way keeps its promise: where all is at rest, the links that its receiver hasn't filled since lead to
-- where the process is that it is about.
use Rattle.dm_law_moves.proofs.Names.{◌≡◌, ℕ, ◌+◌, ◌<◌, ◌≤◌, List, [], ◌∷◌, ◌++◌, length, refl, ap, ◌∙◌, sym, arith, slice_get, Some, slice_get_within, Pid, Place, MsgId, Boot, IsValid, pid_eq-same, Step, Line, Slot, leads_to, Leads, Point}
use Rattle.dm_law_moves.proofs.Names.{first_point, Trails, based_group, based_always, Based, AtRest, AtRestAlways, update_of, Promised, PromisesAlways, UpdatesAlways, nat_tests}
use Rattle.dm_law_moves.proofs.At.Always.{at_rest_always}
use Rattle.dm_law_moves.proofs.Updates.Always.{updates_always}
use Rattle.dm_law_moves.proofs.Trail.Known.{trail_known}
use Rattle.dm_law_moves.proofs.Promise.Spots.{Stands, Grounds, lines_before, lines_told, OnTrail, TrailKnown}
use Rattle.dm_law_moves.proofs.After.{group_after}
use Rattle.dm_law_moves.proofs.Promise.Finds.{lines_by, leads_append, Handles, find_handled, update_own}

pub same_some : (m n : ℕ) → Some m ≡ Some n → m ≡ n
same_some m n e = cc

-- what the record of the update says is what was told

-- and where all is at rest, it names the place that the update told
kept_place : (pt : Point) (t : Trails) (id : MsgId) (p q : Pid) (place : Place) (k : ℕ) → OnTrail pt t → AtRest pt → pt.view.told id ≡ Some (update_of p q place) → pt.view.moves q ≡ place.moves → leads_to pt.kernel (Slot p k) ≡ Some q → place.moves ≤ (pt.addresses (Slot p k)).moves
    → pt.addresses (Slot p k) ≡ place
kept_place pt t id p q place k on rest told same leads least =
    let a = pt.addresses (Slot p k) in
    let there : slice_get (t q) a.moves ≡ Some a.at = on.addresses (Slot p k) q leads in
    let less : a.moves < length (t q) = slice_get_within (t q) a.moves a.at there in
    let long : length (t q) ≡ pt.view.moves q + 1 = on.long q (λ m. rest.still m q) in
    let moves : a.moves ≡ place.moves = omega (arith, least, less, long, same) in
    let said : slice_get (t q) place.moves ≡ Some place.at = on.about id (update_of p q place) q place.at place.moves told refl in
    λ i. record { at = (same_some a.at place.at (sym there ∙ ap (slice_get (t q)) moves ∙ said)) i; moves = moves i }

promised_by : UpdatesAlways → TrailKnown → (b : Boot) (before between : List Step) (told pt : Point) (id : MsgId) (p q : Pid) (place : Place) → IsValid b → Leads b (first_point b) before told → Leads b (first_point b) (before ++ between) pt → AtRest pt
    → told.view.told id ≡ Some (update_of p q place) → Handles b told pt between id → Promised b told pt between id p q place
promised_by updates trail b before between told pt id p q place valid comes all rest is h =
    let first : Leads b (first_point b) (before ++ h.early) h.handled = leads_append b before h.early (first_point b) told h.handled comes h.comes in
    let early = lines_by b h.early told h.handled h.comes in
    let told_handled : h.handled.view.told id ≡ Some (update_of p q place) = lines_told early.lines told h.handled id (update_of p q place) early.leads is in
    let told_group : h.group.point.view.told id ≡ Some (update_of p q place) = lines_told h.group.lines h.handled h.group.point id (update_of p q place) (group_after b h.handled h.directive h.group h.is) told_handled in
    let late = lines_by b h.late h.group.point pt h.rest in
    let told_end : pt.view.told id ≡ Some (update_of p q place) = lines_told late.lines h.group.point pt id (update_of p q place) late.leads told_group in
    let grounds_of : (b : Boot) (pt : Point) → Based b pt → Grounds pt.kernel = λ b pt h. record { r = h.phased.sane.r; e = h.phased.sane.e; sound = h.phased.sane.sound; pending = h.pending } in
    let grounds = grounds_of b h.group.point (based_group b h.handled h.directive h.group h.fit h.is (based_always b (before ++ h.early) h.handled valid first)) in
    let update = (updates b (before ++ h.early) h.handled h.directive h.group id h.count (Line.Head h.directive ∷ []) [] valid first h.is h.says).1 in
    let (t, on) = trail b (before ++ between) pt valid all in
    record {
      early = h.early;
      directive = h.directive;
      late = h.late;
      are = h.are;
      handled = h.handled;
      comes = h.comes;
      group = h.group;
      is = h.is;
      count = h.count;
      says = h.says;
      lines = late.lines;
      goes = late.goes;
      place_kept = λ k same unfilled leads.
          let was = lines_before late.lines h.group.point pt p q k (pt.addresses (Slot p k)).moves late.leads grounds unfilled (record { leads = leads; fewer = omega arith }) in
          let least : place.moves ≤ (h.group.point.addresses (Slot p k)).moves = grind (arith, nat_tests, pid_eq-same, was.leads) in
          let fewer = was.fewer in
          kept_place pt t id p q place k on rest told_end same leads (omega (arith, least, fewer));
    }

-- wherever the rule leads
pub promises_by : UpdatesAlways → AtRestAlways → TrailKnown → PromisesAlways
promises_by updates rests trail b before between told pt id p q place valid comes way leads quiet =
    let all = leads_append b before between (first_point b) told pt comes leads in
    let rest = rests b (before ++ between) pt valid all quiet in
    let phased = (based_always b before told valid comes).phased in
    let stands : Stands told.view id = record { spot = way.spot; least = way.stands } in
    let own = update_own told id (update_of p q place) (told.kernel.bag id) refl refl way.told stands phased in
    promised_by updates trail b before between told pt id p q place valid comes all rest way.told
    (find_handled b between told pt id p q place leads phased way.told stands (λ z. rest.own id z own))

pub promises_always : PromisesAlways
promises_always = promises_by updates_always at_rest_always trail_known
