-- The manager's requests with places: their numbers ascend, so that each has its own.
use Rattle.dm_law_places.proofs.Names.{◌≡◌, ℕ, zero, suc, ◌+◌, ◌==◌, Bool, true, false, List, [], ◌∷◌, ◌++◌, length, ap, ◌∙◌, sym, ◌⊎◌, inl, inr, arith, if◌then◌else◌, map, option_map, nat_le, nat_lt, Some, cases_Bool, nat_tests, length-map}
use Rattle.dm_law_places.proofs.Names.{Pid, Addr, place_of, Pending, at_home, plain_child, plain_pending, child_address, pending_request, without_pending, plain_pending_numbered, Addresses, gets, given, Child, unmoved, ascends, and-both}
use Rattle.dm_law_places.proofs.Names.{get_last, numbered_from, none_some}

pub numbered_below : (ps : List Pending) (from to n : ℕ) (r : Pending) → ascends from (map plain_pending ps) to ≡ true → pending_request n ps ≡ Some r → (nat_le from n ≡ true) × (nat_lt n to ≡ true)
numbered_below ps from to n r e f = numbered_from (map plain_pending ps) from to n (plain_pending r) e (plain_pending_numbered n ps ∙ ap (option_map plain_pending) f)

pub pending_last : (ps : List Pending) (n : ℕ) (z r : Pending) → ((q : Pending) → pending_request n ps ≡ Some q → (z.n == n) ≡ false) → pending_request n (ps ++ z ∷ []) ≡ Some r
    → (((z.n == n) ≡ true) × (z ≡ r)) ⊎ (((z.n == n) ≡ false) × (pending_request n ps ≡ Some r))
pending_last [] n z r h e = grind (arith, nat_tests)
pending_last (p ∷ ps) n z r h e = elim (cases_Bool (p.n == n)) [
  | inl same ↦
      let one : pending_request n (p ∷ ps) ≡ Some p = ap (λ (b : Bool). if b then Some p else pending_request n ps) same in
      let f : Some p ≡ Some r = sym (ap (λ (b : Bool). if b then Some p else pending_request n (ps ++ z ∷ [])) same) ∙ e in
      inr (h p one, one ∙ f)
  | inr apart ↦
      let off : pending_request n (p ∷ ps) ≡ pending_request n ps = ap (λ (b : Bool). if b then Some p else pending_request n ps) apart in
      elim (pending_last ps n z r (λ q f. h q (off ∙ f)) (sym (ap (λ (b : Bool). if b then Some p else pending_request n (ps ++ z ∷ [])) apart) ∙ e)) [
        | inl g ↦ inl g
        | inr g ↦ inr (g.0, off ∙ g.1)
      ]
]

pub still_pending : (ps : List Pending) (from to n k : ℕ) (r : Pending) → ascends from (map plain_pending ps) to ≡ true → pending_request k (without_pending n ps) ≡ Some r → pending_request k ps ≡ Some r
still_pending [] from to n k r e f = f
still_pending (p ∷ ps) from to n k r e f =
    let w = and-both (nat_le from p.n) (ascends (p.n + 1) (map plain_pending ps) to) e in
    elim (cases_Bool (p.n == n)) [
      | inl same ↦
          let g : pending_request k ps ≡ Some r = sym (ap (λ (b : Bool). pending_request k (if b then ps else p ∷ without_pending n ps)) same) ∙ f in
          let above = (numbered_below ps (p.n + 1) to k r w.1 g).0 in
          let off : (p.n == k) ≡ false = grind (arith, nat_tests) in
          ap (λ (b : Bool). if b then Some p else pending_request k ps) off ∙ g
      | inr apart ↦
          let g : pending_request k (p ∷ without_pending n ps) ≡ Some r = sym (ap (λ (b : Bool). pending_request k (if b then ps else p ∷ without_pending n ps)) apart) ∙ f in
          elim (cases_Bool (p.n == k)) [
            | inl is ↦ ap (λ (b : Bool). if b then Some p else pending_request k ps) is ∙ sym (ap (λ (b : Bool). if b then Some p else pending_request k (without_pending n ps)) is) ∙ g
            | inr off ↦
                ap (λ (b : Bool). if b then Some p else pending_request k ps) off
                ∙ still_pending ps (p.n + 1) to n k r w.1 (sym (ap (λ (b : Bool). if b then Some p else pending_request k (without_pending n ps)) off) ∙ g)
          ]
    ]

-- a new child is the last
pub child_last : (cs : List Addr) (child : Pid) (n : ℕ) (c : Addr) (a : Addresses) → ((k : ℕ) (w : Addr) → child_address cs k ≡ Some w → a (Child k) ≡ place_of w) → child_address (cs ++ at_home child ∷ []) n ≡ Some c
    → given a (gets (Child (length (map plain_child cs) + 1)) (unmoved child.home) ∷ []) (Child n) ≡ place_of c
child_last cs child zero c a h e = none_some c e
child_last cs child (suc n) c a h e =
    let count : length (map plain_child cs) ≡ length cs = length-map cs plain_child in
    ap (λ (k : ℕ). if k + 1 == suc n then unmoved child.home else a (Child (suc n))) count
    ∙ elim (get_last cs (at_home child) n c e) [
      | inl g ↦
          let f = g.0 in
          let same : ((length cs + 1) == suc n) ≡ true = grind (arith, nat_tests) in
          ap (λ (b : Bool). if b then unmoved child.home else a (Child (suc n))) same ∙ ap place_of g.1
      | inr g ↦
          let f = g.0 in
          let apart : ((length cs + 1) == suc n) ≡ false = grind (arith, nat_tests) in
          ap (λ (b : Bool). if b then unmoved child.home else a (Child (suc n))) apart ∙ h (suc n) c g.1
    ]
