-- What comes next of a pass, and where it is over.
use Rattle.dm_world.proofs.Names.{◌≡◌, ◌≢◌, ℕ, suc, ◌+◌, ◌-◌, ◌<◌, ◌≤◌, ◌==◌, ◌&&◌, not, Bool, true, false, List, [], drop, length, refl, sym, ap, ◌∙◌, arith, ⊤, ◌||◌, if◌then◌else◌, IsSome, Option, None, Some}
use Rattle.dm_world.proofs.Names.{false≢true, nat_tests, Step, Directive, Pass, Round, Settle, Next, Todo, Two, below, begin_pass, in_pass, next_delivery, next_directive, next_pass, next_turn, or, settles, takes_turn, Cursor}
use Rattle.dm_world.proofs.Names.{Packets, FirstTurnIs, InPassIs, NextPassIs, RoundGoes, as_next, pairs_at, todo_at, all_heard}
use Rattle.dm_world.proofs.Names.{world_is_quiet, WorldState, Seen, at_rest, Rest, world_seen}
use Rattle.dm_schedule.specs.declared.Step.TheVariants as step
use Rattle.dm_world.proofs.Passing.{drop-below, past_below, rows_are_pairs}

-- a pass begins with the first pair
begins : (n : ℕ) (seen : Seen) (p : Pass) (ds : List Directive) → begin_pass n seen p ds ≡ in_pass seen (todo_at n p (Packets 0 0) ds) (next_delivery seen.first (pairs_at n 0 0))
begins n seen p ds =
    ap (λ (ps : List Two). in_pass seen (record { pairs = ps; machines = below n; pass = p; directives = ds }) (next_delivery seen.first ps)) (rows_are_pairs n 0)

some_or : (n : ℕ) (ds : List Directive) (r : Option (Step × Cursor)) (o : Option Next) → IsSome r → as_next n ds r ≡ or (as_next n ds r) o
some_or n ds None o h = absurd (false≢true h)
some_or n ds (Some r) o h = refl

pub one_fewer : (n : ℕ) (w : WorldState) (k : ℕ) (ds : List Directive) (r : Option (Step × Cursor)) → 0 < k → InPassIs n w (Round (k - 1)) (Packets 0 0) ds r → RoundGoes (Round (k - 1)) r → NextPassIs n w (Round k) ds r
one_fewer n w k ds r some h goes e =
    let is : k ≡ suc (k - 1) = omega (arith, some) in
    ap (λ (j : ℕ). next_pass n (world_seen n w) (Round j) ds) is
    ∙ begins n (world_seen n w) (Round (k - 1)) ds
    ∙ h
    ∙ some_or n ds r (next_directive n (world_seen n w) ds) goes

-- where a directive isn't over its next pass begins
goes_on : (n : ℕ) (w : WorldState) (p : Pass) (ds : List Directive) (r : Option (Step × Cursor)) (over : Bool) → InPassIs n w p (Packets 0 0) ds r → over ≡ false
    → settles over (begin_pass n (world_seen n w) p ds) (next_directive n (world_seen n w) ds) ≡ or (as_next n ds r) (next_directive n (world_seen n w) ds)
goes_on n w p ds r over h e =
    let behind = next_directive n (world_seen n w) ds in
    ap (λ (q : Bool). settles q (begin_pass n (world_seen n w) p ds) behind) e ∙ ap (λ (o : Option Next). or o behind) (begins n (world_seen n w) p ds ∙ h)

pub settle_next : (n : ℕ) (w : WorldState) (ds : List Directive) (r : Option (Step × Cursor)) → InPassIs n w Settle (Packets 0 0) ds r → NextPassIs n w Settle ds r
settle_next n w ds r h e = goes_on n w Settle ds r (world_is_quiet n w) h e

-- so does a rest of some passes
pub rest_next : (n : ℕ) (w : WorldState) (k : ℕ) (ds : List Directive) (r : Option (Step × Cursor)) → 0 < k → InPassIs n w (Rest (k - 1)) (Packets 0 0) ds r → NextPassIs n w (Rest k) ds r
rest_next n w k ds r some h e =
    let is : k ≡ suc (k - 1) = omega (arith, some) in
    ap (λ (j : ℕ). next_pass n (world_seen n w) (Rest j) ds) is ∙ goes_on n w (Rest (k - 1)) ds r (at_rest n (world_seen n w)) h e

pub takes_next : (n : ℕ) (w : WorldState) (p : Pass) (k : ℕ) → k < n → takes_turn p (world_seen n w) k ≡ true → FirstTurnIs n w p k (Some k)
takes_next n w p k small e t =
    ap (next_turn (takes_turn p (world_seen n w)) t) (drop-below n k small)
    ∙ ap (λ (b : Bool). if b then Some (record { step = step.Turn k; left = record t { pairs = []; machines = drop (k + 1) (below n) } }) else next_turn (takes_turn p (world_seen n w)) t (drop (k + 1) (below n))) e

pub passes_over : (n : ℕ) (w : WorldState) (p : Pass) (k : ℕ) (t : Todo) → k < n → takes_turn p (world_seen n w) k ≡ false
    → next_turn (takes_turn p (world_seen n w)) t (drop k (below n)) ≡ next_turn (takes_turn p (world_seen n w)) t (drop (k + 1) (below n))
passes_over n w p k t small e =
    ap (next_turn (takes_turn p (world_seen n w)) t) (drop-below n k small)
    ∙ ap (λ (b : Bool). if b then Some (record { step = step.Turn k; left = record t { pairs = []; machines = drop (k + 1) (below n) } }) else next_turn (takes_turn p (world_seen n w)) t (drop (k + 1) (below n))) e

pub none_left : (n : ℕ) (w : WorldState) (p : Pass) (k : ℕ) → n ≤ k → FirstTurnIs n w p k None
none_left n w p k h t = ap (next_turn (takes_turn p (world_seen n w)) t) (past_below n k h)

-- from an earlier machine on, where those between take no turn
abbrev pub PassedTo : ℕ → WorldState → Pass → ℕ → ℕ → Type 0
PassedTo n w p m k = (t : Todo) → next_turn (takes_turn p (world_seen n w)) t (drop m (below n)) ≡ next_turn (takes_turn p (world_seen n w)) t (drop k (below n))

-- in a round none is passed over
abbrev pub Stays : Pass → ℕ → ℕ → Type 0
Stays (Round j) m k = k ≡ m
Stays Settle m k = ⊤
Stays (Rest j) m k = ⊤

pub stays_on : (p : Pass) (seen : Seen) (m k i : ℕ) → takes_turn p seen k ≡ false → Stays p m i
stays_on (Round j) seen m k i e = absurd (false≢true (sym e))
stays_on Settle seen m k i e = tt
stays_on (Rest j) seen m k i e = tt

-- why not all is quiet
pub not_heard : (w : WorldState) (a c : ℕ) → a ≢ c → (length ((w.nodes a).senders c).unacked == 0) ≡ false → all_heard w a c ≡ false
not_heard w a c apart e = ap (λ (b : Bool). b || (length ((w.nodes a).senders c).unacked == 0)) (let f : (a == c) ≡ false = grind (arith, nat_tests) in f) ∙ e

pub has_some : (mail rest : Bool) → mail ≡ true → (not mail && rest) ≡ false
has_some mail rest e = ap (λ (b : Bool). not b && rest) e

pub lacks_heard : (mail rest : Bool) → rest ≡ false → (not mail && rest) ≡ false
lacks_heard true rest e = refl
lacks_heard false rest e = e
