-- What machines learn of a process agrees with its trail.
use Rattle.dm_law_rule.proofs.Names.{◌≡◌, ◌≢◌, ◌⊎◌, ℕ, zero, suc, ◌+◌, ◌<◌, ◌==◌, Bool, true, false, List, [], ◌∷◌, ◌++◌, length, refl, ap, ◌∙◌, sym, inl, inr, arith, nat_tests, if◌then◌else◌, slice_get, Some, slice_get_within, false≢true, Pid}
use Rattle.dm_law_rule.proofs.Names.{View, Known, Unknown, Here, Incoming, Forward, Trails, Trail, eqb-true, none_some}
use Rattle.dm_law_rule.proofs.Lines.{eq_self}

-- lists that grow at the end
pub get_more : {X : Type 0} (xs ys : List X) (c : ℕ) (m : X) → slice_get xs c ≡ Some m → slice_get (xs ++ ys) c ≡ Some m
get_more [] ys c m e = none_some m e
get_more (x ∷ xs) ys zero m e = e
get_more (x ∷ xs) ys (suc c) m e = get_more xs ys c m e

get_end : {X : Type 0} (xs : List X) (d : X) → slice_get (xs ++ d ∷ []) (length xs) ≡ Some d
get_end [] d = refl
get_end (x ∷ xs) d = get_end xs d

pub get_at_end : {X : Type 0} (xs : List X) (d : X) (j : ℕ) → length xs ≡ j → slice_get (xs ++ d ∷ []) j ≡ Some d
get_at_end xs d j e = sym (ap (λ (k : ℕ). slice_get (xs ++ d ∷ []) k) e) ∙ get_end xs d

pub get_either : {X : Type 0} (xs : List X) (d : X) (c : ℕ) (m : X) → slice_get (xs ++ d ∷ []) c ≡ Some m → (slice_get xs c ≡ Some m) ⊎ (d ≡ m)
get_either [] d zero m e = inr (let f : d ≡ m = cc in f)
get_either [] d (suc c) m e = inl e
get_either (x ∷ xs) d zero m e = inl e
get_either (x ∷ xs) d (suc c) m e = get_either xs d c m e

-- the same is known of it, and its trail is the same
pub trail_same : {lives : Bool} (v w : View) (t u : Trails) (p : Pid) → ((m : ℕ) → w.known m p ≡ v.known m p) → u p ≡ t p → Trail lives v t p → Trail lives w u p
trail_same v w t u p known same h = record {
  begins = ap (λ (xs : List ℕ). slice_get xs 0) same ∙ h.begins;
  named = λ m k j e. ap (λ (xs : List ℕ). slice_get xs j) same ∙ h.named m k j (sym (known m) ∙ e);
  behind = λ m k j c e f. h.behind m k j c (sym (known m) ∙ e) (sym (ap (λ (xs : List ℕ). slice_get xs c) same) ∙ f);
  kept = λ on m n c e f g. h.kept on m n c (λ x. e (known n ∙ x)) (sym (ap (λ (xs : List ℕ). slice_get xs c) same) ∙ f) (sym (known m) ∙ g);
}

-- of what doesn't live less is said
pub trail_less : (lives less : Bool) (v : View) (t : Trails) (p : Pid) → (less ≡ true → lives ≡ true) → Trail lives v t p → Trail less v t p
trail_less lives less v t p on h = record { begins = h.begins; named = h.named; behind = h.behind; kept = λ e. h.kept (on e) }

-- of two that are known one is
not_forward : (b : Bool) (x y : Known) (k j : ℕ) → x ≢ Forward k j → (if b then x else y) ≡ Forward k j → y ≡ Forward k j
not_forward true x y k j off e = absurd (off e)
not_forward false x y k j off e = e

is_known : (b : Bool) (x y : Known) → x ≢ Unknown → y ≢ Unknown → (if b then x else y) ≢ Unknown
is_known true x y e f = e
is_known false x y e f = f

-- the acting machine learns that a process is here, leaves or comes
abbrev Learnt : View → View → Pid → Known → Type 0
Learnt v w p x = (m : ℕ) → w.known m p ≡ (if v.acting == m then x else v.known m p)

pub trail_learns : {lives : Bool} (v w : View) (t : Trails) (p : Pid) (x : Known) (n : ℕ) → Learnt v w p x → ((k j : ℕ) → x ≢ Forward k j) → x ≢ Unknown → v.known n p ≢ Unknown → Trail lives v t p → Trail lives w t p
trail_learns v w t p x n known off there before h = record {
  begins = h.begins;
  named = λ m k j e. h.named m k j (not_forward (v.acting == m) x (v.known m p) k j (off k j) (sym (known m) ∙ e));
  behind = λ m k j c e f. h.behind m k j c (not_forward (v.acting == m) x (v.known m p) k j (off k j) (sym (known m) ∙ e)) f;
  kept = λ on m i c e f g. is_known (v.acting == m) x (v.known m p) there (h.kept on m n c before f) (sym (known m) ∙ g);
}

-- or nothing any more of one that has ended
pub trail_forgets : (lives : Bool) (v w : View) (t : Trails) (p : Pid) → Learnt v w p Unknown → Trail lives v t p → Trail false w t p
trail_forgets lives v w t p known h = record {
  begins = h.begins;
  named = λ m k j e. h.named m k j (not_forward (v.acting == m) Unknown (v.known m p) k j (λ x. cc) (sym (known m) ∙ e));
  behind = λ m k j c e f. h.behind m k j c (not_forward (v.acting == m) Unknown (v.known m p) k j (λ x. cc) (sym (known m) ∙ e)) f;
  kept = λ on. absurd (false≢true on);
}

pub trail_made : {lives : Bool} (lived : Bool) (v w : View) (t : Trails) (p : Pid) → Learnt v w p Here → ((m : ℕ) → v.known m p ≡ Unknown) → ((c m : ℕ) → slice_get (t p) c ≡ Some m → m ≡ v.acting) → Trail lived v t p → Trail lives w t p
trail_made lived v w t p known unknown only h = record {
  begins = h.begins;
  named = λ m k j e. h.named m k j (not_forward (v.acting == m) Here (v.known m p) k j (λ x. cc) (sym (known m) ∙ e));
  behind = λ m k j c e f. h.behind m k j c (not_forward (v.acting == m) Here (v.known m p) k j (λ x. cc) (sym (known m) ∙ e)) f;
  kept = λ on m i c e f g.
      let none : Here ≡ Unknown = sym (known v.acting ∙ ap (λ (b : Bool). if b then Here else v.known v.acting p) (eq_self v.acting)) ∙ sym (ap (λ (k : ℕ). w.known k p) (only c m f)) ∙ g in cc;
}

-- its messages are sent on to a machine where it comes: the trail has one machine more
pub trail_grows : {lives : Bool} (v w : View) (t u : Trails) (p : Pid) (d from : ℕ) → ((m : ℕ) → w.known m p ≡ v.known m p) → u p ≡ t p ++ d ∷ [] → v.known d p ≡ Incoming from → Trail lives v t p → Trail lives w u p
trail_grows v w t u p d from known more comes h = search (arith, get_more, get_either)

-- the machine that it leaves forwards from then on
forward_is : (b : Bool) (d n : ℕ) (y : Known) (k j : ℕ) → (if b then Forward d n else y) ≡ Forward k j → ((b ≡ true) × (d ≡ k) × (n ≡ j)) ⊎ (y ≡ Forward k j)
forward_is true d n y k j e = inl (refl, (let f : d ≡ k = cc in f), (let f : n ≡ j = cc in f))
forward_is false d n y k j e = inr e

pub trail_left : {lives : Bool} (v w : View) (t : Trails) (p : Pid) (d n : ℕ) → Learnt v w p (Forward d n) → v.known v.acting p ≢ Unknown → slice_get (t p) n ≡ Some d → length (t p) ≡ n + 1 → d ≢ v.acting → Trail lives v t p → Trail lives w t p
trail_left v w t p d n known there at long apart h = record {
  begins = h.begins;
  named = λ m k j e. elim (forward_is (v.acting == m) d n (v.known m p) k j (sym (known m) ∙ e)) [
    | inl x ↦ sym (ap (λ (i : ℕ). slice_get (t p) i) x.2) ∙ at ∙ ap Some x.1
    | inr y ↦ h.named m k j y
  ];
  behind = λ m k j c e f. elim (forward_is (v.acting == m) d n (v.known m p) k j (sym (known m) ∙ e)) [
    | inl x ↦ less m c j f x.0 x.2
    | inr y ↦ h.behind m k j c y f
  ];
  kept = λ on m i c e f g. is_known (v.acting == m) (Forward d n) (v.known m p) (λ x. cc) (h.kept on m v.acting c there f) (sym (known m) ∙ g);
}
  where
    before : (c a l j : ℕ) → c < l → l ≡ a + 1 → (c == a) ≡ false → a ≡ j → c < j
    before c a l j x y z e = grind (arith, nat_tests)

    less : (m c j : ℕ) → slice_get (t p) c ≡ Some m → (v.acting == m) ≡ true → n ≡ j → c < j
    less m c j f s e =
        let within = slice_get_within (t p) c m f in
        search (arith, eqb-true)
