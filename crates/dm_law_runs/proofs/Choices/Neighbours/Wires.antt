-- The packets that a directive puts are on the wires, under the numbers that its lines say.
use Rattle.dm_law_mirror.proofs.Names.{◌≡◌, ◌≢◌, ◌<◌, ◌≤◌, ℕ, true, false, List, length, ap, ◌∙◌, sym, inl, inr, ◌⊎◌, arith, Boot, IsValid, Step, Line, WorldState, Said, false≢true}
use Rattle.dm_run.specs.Went.{Does, Went}
use Rattle.dm_law_mirror.proofs.Machines.{machines_are, machines_group}
use Rattle.dm_law_mirror.proofs.Puts.{wire_length}
use Rattle.dm_explore.specs.Order.{delivers_of}
use Rattle.dm_explore.specs.Past.{puts_in}
use Rattle.dm_law_runs.proofs.Choices.Neighbours.Changing.{Settled}
use Rattle.std.proofs.lemmas.Bool.{cases_lt}
use Rattle.dm_law_runs.proofs.Choices.Neighbours.Numbers.{group_numbered, long, says_put}
use Rattle.dm_law_runs.proofs.Choices.Neighbours.Reaching.{has_ran, rule_says}

-- of two machines
pub record NumberedOn (w : WorldState) (ls : List Line) (u : WorldState) (a c : ℕ) : Type 0 where
  pub grows : length (w.wires a c) ≤ length (u.wires a c)
  pub below : (k : ℕ) → says_put ls a c k ≡ true → k < length (u.wires a c)
  pub each : (k : ℕ) → length (w.wires a c) ≤ k → k < length (u.wires a c) → says_put ls a c k ≡ true

pub wires_numbered : (b : Boot) (es : List Step) (gs : List (List Line)) (w : WorldState) (e : Step) (lines : List Line) (u : WorldState) (a c : ℕ) → IsValid b → Went b es gs w → Does b w e lines u → a < length b.machines → c < length b.machines → a ≢ c → NumberedOn w lines u a c
wires_numbered b es gs w e lines u a c valid went d a_in c_in apart =
    let h = has_ran b es gs w valid went in
    let pt = h.point in
    let r = rule_says b es gs pt w e lines u valid h.ran d in
    let g = r.goes_ in
    let q = g.group.point in
    let machines = machines_are b es pt h.ran.leads in
    let still = machines_group b pt e g.group g.due in
    let ((l, hist, stands), counts) = h.ran.stands in
    let ((l2, hist2, stands2), counts2) = g.stands in
    let before : length (w.wires a c) ≡ long pt.view a c = wire_length b pt l w hist a c (stands.pairs a c (omega (arith, a_in, machines)) (omega (arith, c_in, machines)) apart) in
    let after_ : length (g.said.state.wires a c) ≡ long q.view a c = wire_length b q l2 g.said.state hist2 a c (stands2.pairs a c (omega (arith, a_in, machines, still)) (omega (arith, c_in, machines, still)) apart) in
    let behind : length (u.wires a c) ≡ long q.view a c = ap (λ (x : Said). length (x.state.wires a c)) (sym r.same) ∙ after_ in
    let lines_are : g.group.lines ≡ lines = sym g.lines ∙ ap (λ (x : Said). x.lines) r.same in
    let n = group_numbered b pt e g.group g.due in
    record {
      grows = (let f = n.grows a c in omega (arith, f, before, behind));
      below = λ k is. (let f = n.below a c k (ap (λ (ls : List Line). says_put ls a c k) lines_are ∙ is) in omega (arith, f, behind));
      each = λ k least less. ap (λ (ls : List Line). says_put ls a c k) (sym lines_are) ∙ n.each a c k (omega (arith, least, before)) (omega (arith, less, behind));
    }

-- a delivery of no packet that was put here is settled
where_settled : (p n k : ℕ) → p ≤ n → ((p ≤ k) → (k < n) → ⊥) → (k < p) ⊎ (n ≤ k)
where_settled p n k le none = elim (cases_lt k p) [
  | inl less ↦ inl less
  | inr least ↦ elim (cases_lt k n) [ inl less ↦ absurd (none least less) | inr past ↦ inr past ]
]

pub not_put_settled : (w u : WorldState) (ls : List Line) (a c k : ℕ) → NumberedOn w ls u a c → delivers_of (puts_in ls) (Step.Deliver a c k) ≡ false → Settled (Step.Deliver a c k) w u
not_put_settled w u ls a c k h none = where_settled (length (w.wires a c)) (length (u.wires a c)) k h.grows (λ least less. false≢true (sym none ∙ h.each k least less))
