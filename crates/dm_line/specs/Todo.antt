-- What is left to do of the directives, and the elementary one that follows.
use Rattle.std.specs.Prelude.{ℕ, zero, suc, ◌+◌, Bool, true, false, not, ◌==◌, ◌&&◌, ◌||◌, if◌then◌else◌, List, [], ◌∷◌, ◌++◌}
pub use Rattle.std.specs.Option.{option_or as or}
use Rattle.std.specs.Option.{option_map_or}
use Rattle.std.specs.List.{flat_map}
use Rattle.std.specs.declared.option.Option.{Option}
use Rattle.std.specs.declared.option.Option.TheVariants.{None, Some}
use Rattle.dm_schedule.specs.declared.Step.{Step}
use Rattle.dm_schedule.specs.declared.Step.TheVariants as step
use Rattle.dm_schedule.specs.declared.Directive.{Directive}
use Rattle.dm_schedule.specs.declared.Directive.TheVariants as directive
use Rattle.dm_line.specs.Each.{all_below}
use Rattle.dm_line.specs.declared.pass.Pass.{Pass}
use Rattle.dm_line.specs.declared.pass.Pass.TheVariants.{Round, Settle, Rest}

-- an ordered pair of machines
pub record Two : Type 0 where
  pub from : ℕ
  pub to : ℕ

-- what is left to do: of a pass, the pairs whose packets come and the machines that may take their turns; of what directive it
-- is; further directives
pub record Todo : Type 0 where
  pub pairs : List Two
  pub machines : List ℕ
  pub pass : Pass
  pub directives : List Directive

-- the machines below n, ascending; the pairs of different ones
abbrev pub below : ℕ → List ℕ
below zero = []
below (suc n) = below n ++ n ∷ []

abbrev pub pairs_with : ℕ → List ℕ → List Two
pairs_with a [] = []
pairs_with a (b ∷ bs) = if a == b then pairs_with a bs else record { from = a; to = b } ∷ pairs_with a bs

abbrev pub pairs_of : List ℕ → List ℕ → List Two
pairs_of as_ bs = flat_map (λ a. pairs_with a bs) as_

-- what is seen of the machines: the first packet of each pair that was never delivered; whether the inbox of a machine has a
-- message, and whether it has a process that can be served; and whether nothing is on its way any more
pub record Seen : Type 0 where
  pub first : ℕ → ℕ → Option ℕ
  pub mail : ℕ → Bool
  pub serves : ℕ → Bool
  pub quiet : Bool

-- a machine's turn would not be idle
abbrev pub can_act : Seen → ℕ → Bool
can_act seen m = seen.mail m || seen.serves m

-- all is at rest: nothing is on its way, and none of so many machines has a process that can be served
abbrev pub at_rest : ℕ → Seen → Bool
at_rest machines seen = seen.quiet && all_below machines (λ m. not (seen.serves m))

-- an elementary directive, and what is left then
pub record Next : Type 0 where
  pub step : Step
  pub left : Todo

abbrev pub next_and_left : Step → Todo → Option Next
next_and_left s t = Some (record { step = s; left = t })

-- no pass is left, but these directives
abbrev pub all_of : List Directive → Todo
all_of ds = record { pairs = []; machines = []; pass = Round 0; directives = ds }

abbrev pub pass_begun : ℕ → Pass → List Directive → Todo
pass_begun machines p ds = record { pairs = pairs_of (below machines) (below machines); machines = below machines; pass = p; directives = ds }

-- the next of some pairs whose wire has a packet that was never delivered; `first` gives the first of each pair
abbrev pub next_delivery : (ℕ → ℕ → Option ℕ) → List Two → Option (Step × List Two)
next_delivery first [] = None
next_delivery first (p ∷ ps) = option_map_or (λ k. Some (step.Deliver p.from p.to k, p ∷ ps)) (first p.from p.to) (next_delivery first ps)

-- in a round each machine takes its turn, in a settle those that have mail, in a rest those whose turn would not be idle
abbrev pub takes_turn : Pass → Seen → ℕ → Bool
takes_turn (Round k) seen m = true
takes_turn Settle seen m = seen.mail m
takes_turn (Rest k) seen m = can_act seen m

-- the turn of the next machine that takes its own, once no delivery is left
abbrev pub next_turn : (ℕ → Bool) → Todo → List ℕ → Option Next
next_turn takes t [] = None
next_turn takes t (m ∷ ms) = if takes m then next_and_left (step.Turn m) (record t { pairs = []; machines = ms }) else next_turn takes t ms

abbrev pub in_pass : Seen → Todo → Option (Step × List Two) → Option Next
in_pass seen t (Some d) = next_and_left d.0 (record t { pairs = d.1 })
in_pass seen t None = next_turn (takes_turn t.pass seen) t t.machines

abbrev pub begin_pass : ℕ → Seen → Pass → List Directive → Option Next
begin_pass machines seen p ds = in_pass seen (pass_begun machines p ds) (next_delivery seen.first (pairs_of (below machines) (below machines)))

-- where all is quiet no pass of a settle begins, and where all is at rest none of a rest, and what is behind it follows; so it does
-- where a pass has nothing to do, but that is so only where all is quiet, or at rest
abbrev pub settles : Bool → Option Next → Option Next → Option Next
settles over pass behind = if over then behind else or pass behind

-- the next directive; a spin of no rounds is passed over, and a rest of no passes
abbrev pub next_directive : ℕ → Seen → List Directive → Option Next
next_directive machines seen [] = None
next_directive machines seen (directive.One s ∷ ds) = next_and_left s (all_of ds)
next_directive machines seen (directive.Round ∷ ds) = begin_pass machines seen (Round 0) ds
next_directive machines seen (directive.Spin zero ∷ ds) = next_directive machines seen ds
next_directive machines seen (directive.Spin (suc n) ∷ ds) = begin_pass machines seen (Round n) ds
next_directive machines seen (directive.Settle ∷ ds) = settles seen.quiet (begin_pass machines seen Settle ds) (next_directive machines seen ds)
next_directive machines seen (directive.Rest zero ∷ ds) = next_directive machines seen ds
next_directive machines seen (directive.Rest (suc n) ∷ ds) = settles (at_rest machines seen) (begin_pass machines seen (Rest n) ds) (next_directive machines seen ds)

-- where a pass is over, the next one of its directive begins, and where there is none, the next directive
abbrev pub next_pass : ℕ → Seen → Pass → List Directive → Option Next
next_pass machines seen (Round zero) ds = next_directive machines seen ds
next_pass machines seen (Round (suc k)) ds = begin_pass machines seen (Round k) ds
next_pass machines seen Settle ds = settles seen.quiet (begin_pass machines seen Settle ds) (next_directive machines seen ds)
next_pass machines seen (Rest zero) ds = next_directive machines seen ds
next_pass machines seen (Rest (suc k)) ds = settles (at_rest machines seen) (begin_pass machines seen (Rest k) ds) (next_directive machines seen ds)

-- a pass of a settle is over, also in its midst, where all is quiet, and one of a rest where all is at rest
abbrev pub is_over : ℕ → Seen → Pass → Bool
is_over machines seen (Round k) = false
is_over machines seen Settle = seen.quiet
is_over machines seen (Rest k) = at_rest machines seen

-- the elementary directive that follows
abbrev pub following : ℕ → Seen → Todo → Option Next
following machines seen t =
    or (if is_over machines seen t.pass then None else in_pass seen t (next_delivery seen.first t.pairs)) (next_pass machines seen t.pass t.directives)
