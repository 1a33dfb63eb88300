-- What is left for turns never rises in a settle, and each turn takes one of it.
use Rattle.dm_law_moves.proofs.Names.{◌≡◌, ℕ, ◌+◌, ◌*◌, ◌^◌, ◌<◌, ◌≤◌, List, [], ◌∷◌, ◌++◌, length, refl, sym, subst, arith, Some, Boot, IsValid, Step, IsKept, IsStep, Leads, Spelled, Point, first_point, group_of, run_always}
use Rattle.dm_law_moves.proofs.Promise.Finds.{leads_append}
use Rattle.dm_law_moves.proofs.Names.{IsLess, Left, Messages, Numbers, Packets, Releases, left, turns_left, TurnsFall}
use Rattle.dm_law_moves.proofs.Settles.Falls.DeliverFalls.{deliver_falls}
use Rattle.dm_law_moves.proofs.Settles.FewSteps.Few.{IsFew, few_left}
use Rattle.dm_law_moves.proofs.Settles.Falls.TurnFalls.{FewerMessages, FewerNumbers, FewerReleases, IsFewer, turn_fewer}

-- one number of three, of which a higher one weighs more than all that the lower ones can be
by_numbers : (a r m x y z : ℕ) → r ≤ 268435456 → m ≤ 268435456 → a < x → a * 2 ^ 60 + r * 2 ^ 30 + m + 1 ≤ x * 2 ^ 60 + y * 2 ^ 30 + z
by_numbers a r m x y z few less h = omega (arith, few, less, h)

by_releases : (a r m x y z : ℕ) → m ≤ 268435456 → a ≤ x → r < y → a * 2 ^ 60 + r * 2 ^ 30 + m + 1 ≤ x * 2 ^ 60 + y * 2 ^ 30 + z
by_releases a r m x y z few h k = omega (arith, few, h, k)

by_messages : (a r m x y z : ℕ) → a ≤ x → r ≤ y → m < z → a * 2 ^ 60 + r * 2 ^ 30 + m + 1 ≤ x * 2 ^ 60 + y * 2 ^ 30 + z
by_messages a r m x y z h k l = omega (arith, h, k, l)

by_packets : (a r m x y z : ℕ) → a ≤ x → r ≤ y → m ≤ z → a * 2 ^ 60 + r * 2 ^ 30 + m ≤ x * 2 ^ 60 + y * 2 ^ 30 + z
by_packets a r m x y z h k l = omega (arith, h, k, l)

-- so it falls, or stays where only packets are fewer
fewer_turns : (x y : Left) → IsFew x → IsFewer x y → turns_left x + 1 ≤ turns_left y
fewer_turns x y few (FewerNumbers a) = by_numbers x.numbers x.releases x.messages y.numbers y.releases y.messages few.releases few.messages a
fewer_turns x y few (FewerReleases a b) = by_releases x.numbers x.releases x.messages y.numbers y.releases y.messages few.messages a b
fewer_turns x y few (FewerMessages a b c) = by_messages x.numbers x.releases x.messages y.numbers y.releases y.messages a b c

no_more_turns : (x y : Left) → IsFew x → IsLess x y → turns_left x + 0 ≤ turns_left y
no_more_turns x y few (Numbers a) = let h = by_numbers x.numbers x.releases x.messages y.numbers y.releases y.messages few.releases few.messages a in omega (arith, h)
no_more_turns x y few (Releases a b) = let h = by_releases x.numbers x.releases x.messages y.numbers y.releases y.messages few.messages a b in omega (arith, h)
no_more_turns x y few (Messages a b c) = let h = by_messages x.numbers x.releases x.messages y.numbers y.releases y.messages a b c in omega (arith, h)
no_more_turns x y few (Packets a b c d) = let h = by_packets x.numbers x.releases x.messages y.numbers y.releases y.messages a b c in omega (arith, h)

-- what is left behind a group is little, too
few_behind : (b : Boot) (es : List Step) (pt : Point) (e : Step) (w : Spelled) → IsValid b → Leads b (first_point b) es pt → IsStep pt.kernel.machines e → group_of b pt e ≡ Some w → IsKept b w.point → IsFew (left b.numbers pt.kernel.machines w.point.view)
few_behind b es pt e w valid leads fit is kept =
    let later : Leads b (first_point b) (es ++ e ∷ []) w.point = leads_append b es (e ∷ []) (first_point b) pt w.point leads (w, fit, is, refl) in
    let machines : pt.kernel.machines ≡ length b.machines = (run_always b es pt valid leads).run.based.machines in
    subst (λ (k : ℕ). IsFew (left b.numbers k w.point.view)) (sym machines) (few_left b (es ++ e ∷ []) w.point valid later kept)

pub turns_fall : TurnsFall
turns_fall b es pt (Step.Turn m) w valid leads fit is e kept =
    fewer_turns (left b.numbers pt.kernel.machines w.point.view) (left b.numbers pt.kernel.machines pt.view) (few_behind b es pt (Step.Turn m) w valid leads fit e kept) (turn_fewer b es pt m w valid leads fit is e kept)
turns_fall b es pt (Step.Deliver a c k) w valid leads fit is e kept =
    no_more_turns (left b.numbers pt.kernel.machines w.point.view) (left b.numbers pt.kernel.machines pt.view) (few_behind b es pt (Step.Deliver a c k) w valid leads fit e kept)
    (deliver_falls b es pt a c k w b.numbers leads fit.0 fit.1 fit.2 is e)
turns_fall b es pt _ w valid leads fit is e kept = absurd is
