-- The predecessors of a process are machines that there are.
use Rattle.dm_law_always.proofs.Names.{ℕ, zero, suc, ◌+◌, ◌<◌, ◌≤◌, Bool, true, false, List, [], ◌∷◌, arith, filter, if◌then◌else◌, preds_of, range_with_len, Pid, Point, ⊤}

abbrev pub AllBelow : ℕ → List ℕ → Type 0
AllBelow n [] = ⊤
AllBelow n (m ∷ ms) = (m < n) × AllBelow n ms

kept_below : (n m : ℕ) (ms : List ℕ) (c : Bool) → m < n → AllBelow n ms → AllBelow n (if c then m ∷ ms else ms)
kept_below n m ms true le h = (le, h)
kept_below n m ms false le h = h

pub filter_below : (n : ℕ) (f : ℕ → Bool) (ms : List ℕ) → AllBelow n ms → AllBelow n (filter f ms)
filter_below n f [] h = tt
filter_below n f (m ∷ ms) h = kept_below n m (filter f ms) (f m) h.0 (filter_below n f ms h.1)

pub range_below : (n from len : ℕ) → from + len ≤ n → AllBelow n (range_with_len from len)
range_below n from zero le = tt
range_below n from (suc len) le = (omega (arith, le), range_below n (from + 1) len (omega (arith, le)))

pub preds_below : (o : Point) (m : ℕ) (p : Pid) → AllBelow o.kernel.machines (preds_of o m p)
preds_below o m p = filter_below o.kernel.machines (o.view.preds m p) (range_with_len 0 o.kernel.machines) (range_below o.kernel.machines 0 o.kernel.machines (omega arith))
