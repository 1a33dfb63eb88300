-- What the ring of a machine lists is here.
use Rattle.dm_law_rule.proofs.Names.{◌≡◌, ℕ, ◌==◌, ◌&&◌, Bool, true, false, not, List, [], ◌∷◌, ◌++◌, refl, ap, ◌∙◌, sym, subst, ⊤, if◌then◌else◌, false≢true, Pid, pid_eq, at_machine, at_record, without, moved_back, View, Known, Here}
use Rattle.dm_law_rule.proofs.Names.{pid_eq-is, pid_eq-same, arith, eqb-true, is_server, ring_with}
use Rattle.dm_law_rule.proofs.Requests.{by_test}

abbrev pub AllHere : (Pid → Known) → List Pid → Type 0
AllHere f [] = ⊤
AllHere f (p ∷ ps) = (f p ≡ Here) × AllHere f ps

pub record Rings (v : View) : Type 0 where
  pub each : (m : ℕ) → AllHere (v.known m) (v.ring m)

pub all_append : (f : Pid → Known) (ps qs : List Pid) → AllHere f ps → AllHere f qs → AllHere f (ps ++ qs)
all_append f [] qs h k = k
all_append f (p ∷ ps) qs h k = (h.0, all_append f ps qs h.1 k)

-- something else is known of one
abbrev pub learnt : (Pid → Known) → Pid → Known → Pid → Known
learnt f p k q = if pid_eq p q then k else f q

pub all_learnt : (f : Pid → Known) (p : Pid) (k : Known) (ps : List Pid) → (f p ≡ Here → k ≡ Here) → AllHere f ps → AllHere (learnt f p k) ps
all_learnt f p k [] keeps h = tt
all_learnt f p k (q ∷ qs) keeps h = (
  (search (arith, pid_eq-is)),
  all_learnt f p k qs keeps h.1,
)

-- the others of a ring
without_row : (f g : Pid → Known) (p q : Pid) (ps : List Pid) (b : Bool) → pid_eq p q ≡ b → ((x : Pid) → pid_eq p x ≡ false → f x ≡ Here → g x ≡ Here) → f q ≡ Here → AllHere g ps → AllHere g (if not b then q ∷ ps else ps)
without_row f g p q ps true e keeps h rest = rest
without_row f g p q ps false e keeps h rest = (keeps q e h, rest)

all_without : (f g : Pid → Known) (p : Pid) (ps : List Pid) → ((x : Pid) → pid_eq p x ≡ false → f x ≡ Here → g x ≡ Here) → AllHere f ps → AllHere g (without p ps)
all_without f g p [] keeps h = tt
all_without f g p (q ∷ qs) keeps h = without_row f g p q (without p qs) (pid_eq p q) refl keeps h.0 (all_without f g p qs keeps h.1)

pub learnt_without : (f : Pid → Known) (p : Pid) (k : Known) (ps : List Pid) → AllHere f ps → AllHere (learnt f p k) (without p ps)
learnt_without f p k ps h = all_without f (learnt f p k) p ps (λ x off is. ap (λ (c : Bool). if c then k else f x) off ∙ is) h

pub all_moved : (f : Pid → Known) (p : Pid) (ps : List Pid) → f p ≡ Here → AllHere f ps → AllHere f (moved_back p ps)
all_moved f p ps here h = all_append f (without p ps) (p ∷ []) (all_without f f p ps (λ x off is. is) h) (here, tt)

pub learnt_last : (f : Pid → Known) (p : Pid) (ps : List Pid) → AllHere f ps → AllHere (learnt f p Here) (ps ++ p ∷ [])
learnt_last f p ps h = all_append (learnt f p Here) ps (p ∷ []) (all_learnt f p Here ps (λ e. refl) h) (ap (λ (c : Bool). if c then Here else f p) (pid_eq-same p), tt)

-- it comes to the ring's back, and a server to no ring
pub learnt_with : (f : Pid → Known) (p : Pid) (ps : List Pid) → AllHere f ps → AllHere (learnt f p Here) (ring_with ps p)
learnt_with f p ps h = by_test (AllHere (learnt f p Here)) (is_server p) ps (ps ++ p ∷ []) (all_learnt f p Here ps (λ e. refl) h) (learnt_last f p ps h)

-- one machine's ring
ring_if : (f : Pid → Known) (c : Bool) (x y : List Pid) → (c ≡ true → AllHere f x) → (c ≡ false → AllHere f y) → AllHere f (if c then x else y)
ring_if f true x y h k = h refl
ring_if f false x y h k = k refl

-- what one machine knows
known_if : (v : View) (p : Pid) (k : Known) (m : ℕ) (xs : List Pid) (c : Bool) → (v.acting == m) ≡ c → (c ≡ true → AllHere (learnt (v.known v.acting) p k) xs) → (c ≡ false → AllHere (v.known m) xs) → AllHere (λ q. if c && pid_eq p q then k else v.known m q) xs
known_if v p k m xs true e h off = subst (λ (n : ℕ). AllHere (learnt (v.known n) p k) xs) (eqb-true v.acting m e) (h refl)
known_if v p k m xs false e h off = off refl

pub rings_same : (v w : View) → w.known ≡ v.known → w.ring ≡ v.ring → Rings v → Rings w
rings_same v w known ring h = record {
  each = λ m. subst (λ (f : ℕ → Pid → Known). AllHere (f m) (w.ring m)) (sym known) (subst (λ (r : ℕ → List Pid). AllHere (v.known m) (r m)) (sym ring) (h.each m));
}

pub rings_ring : (v w : View) (ring : List Pid) → w.known ≡ v.known → w.ring ≡ at_machine v.ring v.acting ring → AllHere (v.known v.acting) ring → Rings v → Rings w
rings_ring v w ring known is here h = record {
  each = λ m. subst (λ (f : ℕ → Pid → Known). AllHere (f m) (w.ring m)) (sym known) (subst (λ (r : ℕ → List Pid). AllHere (v.known m) (r m)) (sym is)
      (ring_if (v.known m) (v.acting == m) ring (v.ring m) (λ same. subst (λ (n : ℕ). AllHere (v.known n) ring) (eqb-true v.acting m same) here) (λ off. h.each m)));
}

pub rings_learn : (v w : View) (p : Pid) (k : Known) (ring : List Pid) → w.known ≡ at_record v.known v.acting p k → w.ring ≡ at_machine v.ring v.acting ring → AllHere (learnt (v.known v.acting) p k) ring → Rings v → Rings w
rings_learn v w p k ring known is here h = record {
  each = λ m. subst (λ (f : ℕ → Pid → Known). AllHere (f m) (w.ring m)) (sym known) (subst (λ (r : ℕ → List Pid). AllHere (at_record v.known v.acting p k m) (r m)) (sym is)
      (ring_if (at_record v.known v.acting p k m) (v.acting == m) ring (v.ring m)
      (λ same. known_if v p k m ring (v.acting == m) refl (λ e. here) (λ off. absurd (false≢true (sym off ∙ same))))
      (λ off. known_if v p k m (v.ring m) (v.acting == m) refl (λ same. absurd (false≢true (sym off ∙ same))) (λ e. h.each m))));
}

pub rings_known : (v w : View) (p : Pid) (k : Known) → w.known ≡ at_record v.known v.acting p k → w.ring ≡ v.ring → (v.known v.acting p ≡ Here → k ≡ Here) → Rings v → Rings w
rings_known v w p k known is keeps h = record {
  each = λ m. subst (λ (f : ℕ → Pid → Known). AllHere (f m) (w.ring m)) (sym known) (subst (λ (r : ℕ → List Pid). AllHere (at_record v.known v.acting p k m) (r m)) (sym is)
      (known_if v p k m (v.ring m) (v.acting == m) refl
      (λ same. subst (λ (n : ℕ). AllHere (learnt (v.known v.acting) p k) (v.ring n)) (eqb-true v.acting m same) (all_learnt (v.known v.acting) p k (v.ring v.acting) keeps (h.each v.acting)))
      (λ off. h.each m)));
}
