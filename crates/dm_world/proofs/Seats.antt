-- The machine where the manager is.
use Rattle.dm_world.proofs.Names.{◌≡◌, ℕ, zero, suc, ◌+◌, ◌<◌, Bool, true, false, if◌then◌else◌, ap, subst, ◌∙◌, inl, inr, arith, is_some, Option, None, Some, eqb_tells, or, NodeState, manager, manager_in, seat_of, sym, length, List, Node, World, WorldState, IsWorld, MayAskAt, MayAskMove, IsLawfulState, node_in}

abbrev pub has_manager : (ℕ → NodeState) → ℕ → Bool
has_manager nodes m = is_some (manager_in ((nodes m).kernel.records manager))

within_or : (n s : ℕ) (o : Option ℕ) (t : Bool) → or o (if t then Some n else None) ≡ Some s → (o ≡ Some s → s < n) → s < suc n
within_or n s (Some x) t e h = let f = h e in omega (arith, f)
within_or n s None true e h = let f : n ≡ s = cc in omega (arith, f)
within_or n s None false e h = absurd (cc)

-- it is one of the machines
pub seat_within : (n : ℕ) (nodes : ℕ → NodeState) (s : ℕ) → seat_of n nodes ≡ Some s → s < n
seat_within zero nodes s e = absurd (cc)
seat_within (suc n) nodes s e = within_or n s (seat_of n nodes) (has_manager nodes n) e (λ f. seat_within n nodes s f)

-- the first that has the manager
pub first_seat : (n k : ℕ) (nodes : ℕ → NodeState) → k < n → seat_of k nodes ≡ None → has_manager nodes k ≡ true → seat_of n nodes ≡ Some k
first_seat zero k nodes below none here = absurd (omega (arith, below))
first_seat (suc n) k nodes below none here =
    elim (eqb_tells k n) [
      | inl e ↦
          subst (λ (j : ℕ). seat_of (suc j) nodes ≡ Some k) e.1
          (ap (λ (o : Option ℕ). or o (if has_manager nodes k then Some k else None)) none ∙ ap (λ (t : Bool). if t then Some k else None) here)
      | inr e ↦
          let apart = e.1 in
          ap (λ (o : Option ℕ). or o (if has_manager nodes n then Some n else None)) (first_seat n k nodes (omega (arith, below, apart)) none here)
    ]

-- in a world it is that which the code finds
pub seat_here : (w : World) (nodes : List Node) (o : Option ℕ) → IsWorld w → nodes ≡ w.nodes.items → o ≡ seat_of (length nodes) (node_in w.boot nodes) → seat_of (length w.boot.machines) (node_in w.boot w.nodes.items) ≡ o
seat_here w nodes o h same e =
    ap (λ (n : ℕ). seat_of n (node_in w.boot w.nodes.items)) (sym h.machines) ∙ (ap (λ (ns : List Node). seat_of (length ns) (node_in w.boot ns)) (sym same) ∙ sym e)

-- the manager may be asked there
pub may_ask : (w : WorldState) (o : Option ℕ) (s : ℕ) → o ≡ Some s → MayAskAt w o → MayAskMove (w.nodes s) × IsLawfulState (w.nodes s).kernel
may_ask w o s e h = subst (MayAskAt w) e h

-- one more machine hasn't it
pub no_seat : (k : ℕ) (nodes : ℕ → NodeState) → seat_of k nodes ≡ None → has_manager nodes k ≡ false → seat_of (k + 1) nodes ≡ None
no_seat k nodes none away =
    let next : k + 1 ≡ suc k = omega arith in
    ap (λ (j : ℕ). seat_of j nodes) next ∙ (ap (λ (o : Option ℕ). or o (if has_manager nodes k then Some k else None)) none ∙ ap (λ (t : Bool). if t then Some k else None) away)
