-- Wherever the rule leads there is a kernel with places, where something holds at each point that gives what groups need.
use Rattle.dm_law_places.proofs.Names.{◌≡◌, ℕ, ◌||◌, Bool, true, false, List, [], ◌∷◌, is_some, refl, subst, Option, None, Some, Life, Pid, MsgId, PlainMessage, Boot, IsValid, manager, Step, start-sound, ascends}
use Rattle.dm_law_places.proofs.Names.{IsStep, Leads, Spelled, Point, first_point, group_of, Placed, placed_start, GroupNeeds, MirrorsPoint, PlainWhat, id_of, is_server}
use Rattle.dm_law_places.proofs.Any.AnyGroup.{group_follows}
use Rattle.dm_law_places.proofs.Any.AnyPart.{SoundAt}
use Rattle.dm_law_places.proofs.Starts.{start_mirrors}

-- from a point on, and from the start
pub run_follows : (b : Boot) (Holds : Point → Type 0) → ((p : Point) → Holds p → GroupNeeds p) → ((p : Point) (d : Step) (w : Spelled) → IsStep p.kernel.machines d → group_of b p d ≡ Some w → Holds p → Holds w.point)
    → (es : List Step) (pt end : Point) (l : Placed) → Leads b pt es end → Holds pt → SoundAt pt.kernel → MirrorsPoint pt l → (m : Placed) × MirrorsPoint end m
run_follows b Holds gives goes [] pt end l leads h sound mirrors = (l, subst (λ (q : Point). MirrorsPoint q l) leads mirrors)
run_follows b Holds gives goes (d ∷ es) pt end l (w, fit, is, rest) h sound mirrors =
    let (m, on, after) = group_follows b pt l d w sound (gives pt h) is mirrors in
    run_follows b Holds gives goes es w.point end m rest (goes pt d w fit is h) after on

pub places_follow_by : (b : Boot) (Holds : Point → Type 0) → ((p : Point) → Holds p → GroupNeeds p) → ((p : Point) (d : Step) (w : Spelled) → IsStep p.kernel.machines d → group_of b p d ≡ Some w → Holds p → Holds w.point)
    → (es : List Step) (pt : Point) → IsValid b → Holds (first_point b) → Leads b (first_point b) es pt → (l : Placed) × MirrorsPoint pt l
places_follow_by b Holds gives goes es pt valid first leads =
    run_follows b Holds gives goes es (first_point b) pt (placed_start b) leads first (record { r = λ i. 0; e = λ i. 0; sound = start-sound b valid }) (start_mirrors b)

not_either : (server : Bool) (o : Option Life) → (server || is_some o) ≡ false → (server ≡ false) × (o ≡ None)
not_either false None e = (refl, refl)
not_either false (Some life) e = absurd cc
not_either true o e = absurd cc

-- what each point of the rule gives: servers count their moves, and what was never made has none
pub group_needs : (pt : Point) → ascends 0 pt.kernel.manager.pending pt.kernel.manager.sent ≡ true → ((p : Pid) → is_server p ≡ false → pt.kernel.processes p ≡ None → pt.view.moves p ≡ 0)
    → ((i : MsgId) (x : PlainMessage) (machine : ℕ) → pt.kernel.bag i ≡ Some x → x.what ≡ PlainWhat.Move machine → i ≡ id_of manager i.n) → GroupNeeds pt
group_needs pt pending unmoved asks = record {
  pending = pending;
  unmoved = λ p e. let parts = not_either (is_server p) (pt.kernel.processes p) e in unmoved p parts.0 parts.1;
  asks = asks;
}
