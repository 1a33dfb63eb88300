-- The parts of turns and ticks keep the pairs of machines wherever they stand.
use Rattle.dm_law_rule.proofs.Names.{◌≡◌, ℕ, zero, suc, ◌+◌, ◌-◌, ◌≤◌, ◌==◌, Bool, true, false, List, [], ◌∷◌, refl, arith, if◌then◌else◌, Option, None, Some, MsgId, plain_kind, PlainMessage, Boot, View, Pair, Point, Part, first_runnable, Pid}
use Rattle.dm_law_rule.proofs.Names.{comes_to, turns, numbers_from, repeats, resends, Addresses, MessageKind, forwards_on}
use Rattle.dm_law_rule.proofs.Pairs.Lines.{AllFit, AllFit-both}
use Rattle.dm_law_rule.proofs.Serving.{Loose, loose_round, loose_handles}
use Rattle.dm_law_rule.proofs.Hearing.{hears_kept, kept_forward}
use Rattle.dm_law_rule.proofs.Pairs.Migrating.{fit_kept}

fit_loose : (f : ℕ → ℕ → Pair) → Loose (AllFit f)
fit_loose f = record { none = tt; label = λ l ps h. (refl, h); routes = λ i ps h. (tt, h); buries = λ to ps h. (tt, h) }

comes_fit : (f : ℕ → ℕ → Pair) (b : Boot) (pt : Point) (m : ℕ) (id : MsgId) (o : Option PlainMessage) (ps : List Part) → comes_to b pt m id o ≡ Some ps → AllFit f ps
comes_fit f b pt m id None ps e = hears_kept (AllFit f) (fit_kept f) b pt m id (pt.view.told id) ps e
comes_fit f b pt m id (Some msg) ps e =
    let forwards_fit : (f : ℕ → ℕ → Pair) (a : Addresses) (id : MsgId) (k : MessageKind) (sender : Pid) (to : ℕ) → AllFit f (forwards_on a id k sender to) = λ f a id k sender to. kept_forward (AllFit f) (fit_kept f) a id k sender to in
    loose_handles (AllFit f) (AllFit f) (fit_loose f) (λ qs h. h) b pt m id msg ps (λ here. (refl, tt)) (refl, tt) (λ to here is apart. (refl, (refl, (refl, (tt, tt))))) (λ to moves at_. forwards_fit f pt.addresses id (plain_kind msg.what) msg.sender to) e

pub turns_fit : (f : ℕ → ℕ → Pair) (b : Boot) (pt : Point) (m : ℕ) (ids : List MsgId) (ps : List Part) → turns b pt m ids ≡ Some ps → AllFit f ps
turns_fit f b pt m [] ps e = loose_round (AllFit f) (fit_loose f) b pt m (first_runnable pt.kernel (pt.view.queue m) (pt.view.ring m)) ps (refl, tt) e
turns_fit f b pt m (i ∷ is) ps e = comes_fit f b pt m i (pt.kernel.bag i) ps e

-- what is out goes out again
pub repeats_fit : (f : ℕ → ℕ → Pair) (a b n k : ℕ) → (a == b) ≡ false → n + k ≤ (f a b).gone → AllFit f (repeats a b (numbers_from n k))
repeats_fit f a b n zero ab le = tt
repeats_fit f a b n (suc k) ab le = ((ab, omega (arith, le)), repeats_fit f a b (n + 1) k ab (omega (arith, le)))

resent_fit : (v : View) (m b : ℕ) (same : Bool) → (m == b) ≡ same → (v.pair m b).acked ≤ (v.pair m b).gone
    → AllFit v.pair (if same then [] else repeats m b (numbers_from (v.pair m b).acked ((v.pair m b).gone - (v.pair m b).acked)))
resent_fit v m b true e le = tt
resent_fit v m b false e le = repeats_fit v.pair m b (v.pair m b).acked ((v.pair m b).gone - (v.pair m b).acked) e (omega (arith, le))

pub resends_fit : (v : View) (m n : ℕ) → ((b : ℕ) → (v.pair m b).acked ≤ (v.pair m b).gone) → AllFit v.pair (resends v m n)
resends_fit v m zero h = tt
resends_fit v m (suc b) h =
    AllFit-both v.pair (resends v m b) (if m == b then [] else repeats m b (numbers_from (v.pair m b).acked ((v.pair m b).gone - (v.pair m b).acked)))
    (resends_fit v m b h) (resent_fit v m b (m == b) refl (h b))
