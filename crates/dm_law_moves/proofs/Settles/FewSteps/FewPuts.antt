-- Where no process moves, and only user messages for processes and updates are on their way, a settle puts few messages.
use Rattle.dm_law_moves.proofs.Names.{◌≡◌, ℕ, ◌<◌, ◌≤◌, List, [], ◌∷◌, ◌++◌, refl, ap, ◌∙◌, sym, subst, arith, slice_get, Some, MsgId, Boot, IsValid, Step, Line, IsStep, Leads, Spelled, Point, first_point, arrives, group_of, Told, View}
use Rattle.dm_law_moves.proofs.Names.{arrives_net, run_always, count, FewPuts, weight_to, IsSettleStep, SettlesBy, says_put}
use Rattle.dm_law_moves.proofs.Ends.Parts.{count-append}
use Rattle.dm_law_moves.proofs.Promise.Finds.{leads_append}
use Rattle.dm_law_moves.proofs.Settles.Falls.DeliverFalls.{Keeps, deliver_keeps, kept_all}
use Rattle.dm_law_moves.proofs.Settles.FewSteps.PutTurns.{turn_puts}
use Rattle.dm_law_moves.proofs.Settles.Routes.{group_count, net_count}
use Rattle.dm_law_moves.proofs.Settles.FewSteps.Ways.{Falls, LightWay, heavy, light_way, light_way_kept, none_kept, total, total_kept, value, value_most}
use Rattle.dm_law_moves.proofs.Settles.Weights.{sum_le}

-- a delivery puts nothing
keeps_fall : (n : ℕ) (v w : View) (puts : ℕ) → puts ≡ 0 → LightWay n v → Keeps n v w → Falls n v w puts
keeps_fall n v w puts zero_ h k =
    let kept : (j : MsgId) (t : Told) → v.told j ≡ Some t → w.told j ≡ Some t = λ j t e. subst (λ (f : MsgId → _). f j ≡ Some t) (sym k.told) e in
    let all = sum_le (λ m. weight_to (value w n m) n w m) (λ m. weight_to (value w n m) n v m) n (λ m l. k.weight_ (value w n m) m) in
    let same = total_kept n v w h k.known kept in
    let none = none_kept n v w h kept in
    let dull = kept_all (heavy w) n v w k in
    record { less = omega (arith, all, same, zero_); light_way = light_way_kept n v w k.known h (omega (arith, none, dull)) }

deliver_puts : (b : Boot) (pt : Point) (n a c k : ℕ) (w : Spelled) → a < n → LightWay n pt.view → group_of b pt (Step.Deliver a c k) ≡ Some w → Falls n pt.view w.point.view (count says_put w.lines)
deliver_puts b pt n a c k w from h e =
    let v = pt.view in
    let parts = arrives a c (v.pair a c) (v.pair c a) (slice_get (v.pair a c).wire k) in
    let none : count says_put w.lines ≡ 0 = group_count b pt (Step.Deliver a c k) w parts e refl ∙ net_count parts (arrives_net a c (v.pair a c) (v.pair c a) (slice_get (v.pair a c).wire k)) in
    keeps_fall n v w.point.view (count says_put w.lines) none h (deliver_keeps b pt n a c k w from e)

group_falls : (b : Boot) (es : List Step) (pt : Point) (d : Step) (w : Spelled) → IsValid b → Leads b (first_point b) es pt → LightWay pt.kernel.machines pt.view → IsStep pt.kernel.machines d → IsSettleStep pt.view d → group_of b pt d ≡ Some w
    → Falls pt.kernel.machines pt.view w.point.view (count says_put w.lines)
group_falls b es pt (Step.Turn m) w valid way h fit is e = turn_puts b es pt m w valid way h fit is e
group_falls b es pt (Step.Deliver a c k) w valid way h fit is e = deliver_puts b pt pt.kernel.machines a c k w fit.0 h e
group_falls b es pt _ w valid way h fit is e = absurd is

-- one group after the other
few_on : (b : Boot) (es ds : List Step) (pt end : Point) (ls : List Line) (n : ℕ) → pt.kernel.machines ≡ n → IsValid b → Leads b (first_point b) es pt → LightWay n pt.view → SettlesBy b pt ds ls end → count says_put ls ≤ total (value pt.view n) n pt.view
few_on b es [] pt end ls n machines valid way h (none, same) = let zero_ : count says_put ls ≡ 0 = ap (count says_put) none in omega (arith, zero_)
few_on b es (d ∷ ds) pt end ls n machines valid way h (w, rest, fit, is, e, are, more) =
    let falls = subst (λ (k : ℕ). Falls k pt.view w.point.view (count says_put w.lines)) machines (group_falls b es pt d w valid way (subst (λ (k : ℕ). LightWay k pt.view) (sym machines) h) fit is e) in
    let later : Leads b (first_point b) (es ++ d ∷ []) w.point = leads_append b es (d ∷ []) (first_point b) pt w.point way (w, fit, e, refl) in
    let same : w.point.kernel.machines ≡ n = (run_always b (es ++ d ∷ []) w.point valid later).run.based.machines ∙ sym (run_always b es pt valid way).run.based.machines ∙ machines in
    let few = few_on b (es ++ d ∷ []) ds w.point end rest n same valid later falls.light_way more in
    let all : count says_put ls ≡ count says_put (w.lines ++ rest) = ap (count says_put) are in
    let both = count-append says_put w.lines rest in
    let less = falls.less in
    omega (arith, few, all, both, less)

pub few_puts : FewPuts
few_puts b es ds pt end ls valid way light settles =
    let n = pt.kernel.machines in
    let few = few_on b es ds pt end ls n refl valid way (light_way n pt.view light) settles in
    let most = value_most n pt.view in
    omega (arith, few, most)
