-- No message goes to a machine that there isn't.
use Rattle.dm_law_moves.proofs.Names.{◌≡◌, ◌≢◌, ℕ, zero, suc, ◌-◌, ◌≤◌, ◌==◌, Bool, true, false, List, [], ◌∷◌, ◌++◌, length, refl, ap, ◌∙◌, subst, inl, inr, arith, if◌then◌else◌, Some, eqb_tells, MsgId, Boot, IsValid, Step, Line, Leads}
use Rattle.dm_law_moves.proofs.Names.{migrates, Part, Says, Routes, Again, Owns, Transmits, Spelled, Point, first_point, moved, group_of, numbers_from, outstanding_count, repeats, resends, Pair, View, GroupIs, group_is, pairs_stand_always}
use Rattle.dm_law_moves.proofs.Names.{AllFit, migrates_fit, turns_fit, run_always, calls_off, calls_off_fit}
use Rattle.dm_law_moves.proofs.At.RestPairs.{routed_always}
use Rattle.dm_law_moves.proofs.Promise.Finds.{leads_append}
use Rattle.dm_law_moves.proofs.Settles.Falls.Delivers.{deliver_ids}
use Rattle.dm_law_moves.proofs.Settles.Grows.{AllLight, Grows, parts_grow}
use Rattle.dm_law_moves.proofs.Settles.Falls.TurnFalls.{to_within}

abbrev pub Far : ℕ → View → Type 0
Far n v = (a c : ℕ) → n ≤ c → (v.pair a c).ids ≡ []

-- the parts of a turn, a tick and a migration take nothing
fit_light : (f : ℕ → ℕ → Pair) (ps : List Part) → AllFit f ps → AllLight ps
fit_light f [] h = tt
fit_light f (Says l ∷ ps) h = (h.0, fit_light f ps h.1)
fit_light f (Routes i ∷ ps) h = (tt, fit_light f ps h.1)
fit_light f (Again i b ∷ ps) h = (tt, fit_light f ps h.1)
fit_light f (Owns k q b ∷ ps) h = (tt, fit_light f ps h.1)
fit_light f (Transmits a b l ∷ ps) h = (tt, fit_light f ps h.1)

both_light : (ps qs : List Part) → AllLight ps → AllLight qs → AllLight (ps ++ qs)
both_light [] qs h k = k
both_light (p ∷ ps) qs h k = (h.0, both_light ps qs h.1 k)

repeats_light : (a b : ℕ) (ns : List ℕ) → AllLight (repeats a b ns)
repeats_light a b [] = tt
repeats_light a b (n ∷ ns) = (tt, repeats_light a b ns)

unless_light : (c : Bool) (ps : List Part) → AllLight ps → AllLight (if c then [] else ps)
unless_light true ps h = tt
unless_light false ps h = h

resends_light : (v : View) (m b : ℕ) → AllLight (resends v m b)
resends_light v m zero = tt
resends_light v m (suc b) =
    let ps = repeats m b (numbers_from (v.pair m b).acked ((v.pair m b).gone - (v.pair m b).acked)) in
    both_light (resends v m b) (if m == b then [] else ps) (resends_light v m b) (unless_light (m == b) ps (repeats_light m b (numbers_from (v.pair m b).acked ((v.pair m b).gone - (v.pair m b).acked))))

light_grows : (b : Boot) (pt : Point) (d : Step) (w : Spelled) (g : GroupIs b pt d w) → (moved pt (Line.Head d) pt.kernel).view.pair ≡ pt.view.pair → AllLight g.parts → Grows pt.view.pair w.point.view.pair
light_grows b pt d w g same light =
    subst (λ (f : ℕ → ℕ → Pair). Grows f w.point.view.pair) same
    (subst (λ (q : Point). Grows (moved pt (Line.Head d) pt.kernel).view.pair q.view.pair) g.point (parts_grow g.parts (moved pt (Line.Head d) pt.kernel) g.rest light g.said))

-- so a message that such a group routes is on its way then, to a machine that there is
nothing_far : (b : Boot) (es fs : List Step) (v w : Point) (a c : ℕ) (ids : List MsgId) → (w.view.pair a c).ids ≡ ids → IsValid b → Leads b (first_point b) es v → Leads b (first_point b) fs w → Grows v.view.pair w.view.pair → a ≢ c → (a == c) ≡ false
    → (v.view.pair a c).ids ≡ [] → w.kernel.machines ≤ c → ids ≡ []
nothing_far b es fs v w a c [] is valid before leads grows apart off none far = refl
nothing_far b es fs v w a c (i ∷ ids) is valid before leads grows apart off none far =
    let s = (pairs_stand_always b es v a c before apart).0 in
    let t = s.taken in
    let g = s.gone in
    let empty : length (v.view.pair a c).ids ≡ 0 = ap length none in
    let some : length (w.view.pair a c).ids ≡ suc (length ids) = ap length is in
    let same = grows.taken a c off in
    let within_ = to_within b fs w a c valid leads (omega (arith, t, g, empty, some, same)) in
    absurd (omega (arith, within_, far))

grown_far : (b : Boot) (es fs : List Step) (v w : Point) → IsValid b → Leads b (first_point b) es v → Leads b (first_point b) fs w → Grows v.view.pair w.view.pair → Far (length b.machines) v.view → Far (length b.machines) w.view
grown_far b es fs v w valid before leads grows h a c most = elim (eqb_tells a c) [
  | inl e ↦ (routed_always b fs w valid leads).none a c (let same = e.1 in omega (arith, same, most))
  | inr e ↦
      let machines = (run_always b fs w valid leads).run.based.machines in
      nothing_far b es fs v w a c (w.view.pair a c).ids refl valid before leads grows e.1 e.0 (h a c most) (omega (arith, machines, most))
]

far_group : (b : Boot) (es fs : List Step) (v : Point) (d : Step) (w : Spelled) → IsValid b → Leads b (first_point b) es v → Leads b (first_point b) fs w.point → group_of b v d ≡ Some w → Far (length b.machines) v.view → Far (length b.machines) w.point.view
far_group b es fs v (Step.Turn m) w valid before leads e h =
    let g = group_is b v (Step.Turn m) w e in
    grown_far b es fs v w.point valid before leads (light_grows b v (Step.Turn m) w g refl (fit_light v.view.pair g.parts (turns_fit v.view.pair b v m (v.view.inbox m) g.parts g.is))) h
far_group b es fs v (Step.Tick m) w valid before leads e h =
    let g = group_is b v (Step.Tick m) w e in
    let parts = Says (Line.Resent m (outstanding_count v.view m v.kernel.machines)) ∷ resends v.view m v.kernel.machines in
    let are : parts ≡ g.parts = let t = g.is in cc in
    grown_far b es fs v w.point valid before leads (light_grows b v (Step.Tick m) w g refl (subst AllLight are (refl, resends_light v.view m v.kernel.machines))) h
far_group b es fs v (Step.Deliver x y k) w valid before leads e h = λ a c most. deliver_ids b v x y k w e a c ∙ h a c most
far_group b es fs v (Step.Migrate p m) w valid before leads e h =
    let g = group_is b v (Step.Migrate p m) w e in
    let are : migrates v p ≡ g.parts = let t = g.is in cc in
    grown_far b es fs v w.point valid before leads (light_grows b v (Step.Migrate p m) w g refl (subst AllLight are (fit_light v.view.pair (migrates v p) (migrates_fit v.view.pair v p)))) h
far_group b es fs v (Step.CallOff p m) w valid before leads e h =
    let g = group_is b v (Step.CallOff p m) w e in
    let are : calls_off v m p (v.view.known m p) ≡ g.parts = let t = g.is in cc in
    grown_far b es fs v w.point valid before leads (light_grows b v (Step.CallOff p m) w g refl (subst AllLight are (fit_light v.view.pair (calls_off v m p (v.view.known m p)) (calls_off_fit v.view.pair v m p)))) h

far_on : (b : Boot) (es ds : List Step) (v w : Point) → IsValid b → Leads b (first_point b) es v → Leads b v ds w → Far (length b.machines) v.view → Far (length b.machines) w.view
far_on b es [] v w valid before leads h = subst (λ (q : Point). Far (length b.machines) q.view) leads h
far_on b es (d ∷ ds) v w valid before (x, fit, is, more) h =
    let next : Leads b (first_point b) (es ++ d ∷ []) x.point = leads_append b es (d ∷ []) (first_point b) v x.point before (x, fit, is, refl) in
    far_on b (es ++ d ∷ []) ds x.point w valid next more (far_group b es (es ++ d ∷ []) v d x valid before next is h)

-- wherever the rule leads
pub far_always : (b : Boot) (es : List Step) (pt : Point) → IsValid b → Leads b (first_point b) es pt → Far (length b.machines) pt.view
far_always b es pt valid leads = far_on b [] es (first_point b) pt valid refl leads (λ a c most. refl)
