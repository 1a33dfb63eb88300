-- What a field reads is the field that was written, and what was written is read again.
use Rattle.dm_packet.proofs.Names.{◌≡◌, ℕ, zero, suc, ◌^◌, ◌<◌, Bool, true, false, cond, ltb, List, [], ◌∷◌, ◌++◌, length, take, drop, Result, Ok, Err, refl, sym, ap, subst, ◌∙◌, append_assoc, arith, AllByRecursion, flat_map, ltb-false}
use Rattle.dm_packet.proofs.Names.{le-ltb, take_at, drop_at, take-append-drop, length-append, length-take, flat_map-cons, big_bytes, big_number, big_from-lt, big_number-reads_back, length-bytes_high_first, PacketError, Missing, ◌>>=◌}
use Rattle.dm_packet.proofs.Names.{Field, both, counted, made, number, read_times, repeated_field, run, tested}
use Rattle.dm_packet.proofs.Numbers.{IsBytes, IsBytes-drop, bytes_of_number}

-- what a field took from the front of some bytes
pub record Took {X : Type 0} (f : Field X) (Fits : X → Type 0) (bytes : List ℕ) (x : X) (rest : List ℕ) : Type 0 where
  pub parts : bytes ≡ f.spell x ++ rest
  pub rest_fits : IsBytes rest
  pub fits : Fits x

-- a field that reads what it spells, each value in one way
pub record IsField {X : Type 0} (f : Field X) (Fits : X → Type 0) : Type 0 where
  pub takes : (bytes : List ℕ) (x : X) (rest : List ℕ) → IsBytes bytes → f.read bytes ≡ Ok (x, rest) → Took f Fits bytes x rest
  pub again : (x : X) (rest : List ℕ) → Fits x → f.read (f.spell x ++ rest) ≡ Ok (x, rest)

-- the value of a step that did not fail
pub bind_ok : {A B : Type 0} (r : Result A PacketError) (f : A → Result B PacketError) (y : B) → (r >>= f) ≡ Ok y → (x : A) × (r ≡ Ok x) × (f x ≡ Ok y)
bind_ok (Ok x) f y e = (x, refl, e)
bind_ok (Err d) f y e = absurd cc

-- a test that did not fail
pub guard_ok : {A : Type 0} (b : Bool) (d : PacketError) (x y : A) → cond b (Ok x) (Err d) ≡ Ok y → (b ≡ true) × (x ≡ y)
guard_ok true d x y e = (refl, cc)
guard_ok false d x y e = absurd cc

abbrev done : {A : Type 0} → A → Result A PacketError
done x = Ok x

pub ok_is : {A : Type 0} (x y : A) → done x ≡ done y → x ≡ y
ok_is x y e = cc

-- the same, where the answer is given as a pair
pub took_same : {X : Type 0} (f : Field X) (Fits : X → Type 0) (bytes : List ℕ) (p q : X × List ℕ) → done p ≡ done q → Took f Fits bytes p.0 p.1 → Took f Fits bytes q.0 q.1
took_same {X} f Fits bytes p q e took = subst (λ (r : X × List ℕ). Took f Fits bytes r.0 r.1) (ok_is p q e) took

pub IsField-tested : {X : Type 0} (f : Field X) (Fits : X → Type 0) (is : IsField f Fits) (test : X → Bool) (rule : PacketError) → IsField (tested f test rule) (λ x. Fits x × (test x ≡ true))
IsField-tested {X} f Fits is test rule = record {
  takes = λ bytes x rest h e.
      let a = bind_ok (f.read bytes) (λ y. cond (test y.0) (Ok y) (Err rule)) (x, rest) e in
      let g = guard_ok (test a.0.0) rule a.0 (x, rest) a.2 in
      let same : f.read bytes ≡ Ok (x, rest) = a.1 ∙ ap done g.1 in
      let took = is.takes bytes x rest h same in
      record { parts = took.parts; rest_fits = took.rest_fits; fits = (took.fits, ap (λ (p : X × List ℕ). test p.0) (sym g.1) ∙ g.0) };
  again = λ x rest fits. rw (is.again x rest fits.0, fits.1) refl;
}

-- one text behind another
pub then_parts : (bytes front between back rest : List ℕ) → bytes ≡ front ++ between → between ≡ back ++ rest → bytes ≡ (front ++ back) ++ rest
then_parts bytes front between back rest first second = first ∙ ap (λ (r : List ℕ). front ++ r) second ∙ sym (append_assoc front back rest)

pub IsField-both : {X Y : Type 0} (f : Field X) (FitsX : X → Type 0) (isx : IsField f FitsX) (g : X → Field Y) (FitsY : X → Y → Type 0) (isy : (x : X) → IsField (g x) (FitsY x)) → IsField (both f g) (λ p. FitsX p.0 × FitsY p.0 p.1)
IsField-both {X} {Y} f FitsX isx g FitsY isy = record {
  takes = λ bytes p rest h e.
      let a = bind_ok (f.read bytes) (λ x. (g x.0).read x.1 >>= λ y. Ok ((x.0, y.0), y.1)) (p, rest) e in
      let b = bind_ok ((g a.0.0).read a.0.1) (λ y. Ok ((a.0.0, y.0), y.1)) (p, rest) a.2 in
      let t = isx.takes bytes a.0.0 a.0.1 h a.1 in
      let u = (isy a.0.0).takes a.0.1 b.0.0 b.0.1 t.rest_fits b.1 in
      let whole = then_parts bytes (f.spell a.0.0) a.0.1 ((g a.0.0).spell b.0.0) b.0.1 t.parts u.parts in
      took_same (both f g) (λ p. FitsX p.0 × FitsY p.0 p.1) bytes ((a.0.0, b.0.0), b.0.1) (p, rest) b.2
      (record { parts = whole; rest_fits = u.rest_fits; fits = (t.fits, u.fits) });
  again = λ p rest fits.
      rw (append_assoc (f.spell p.0) ((g p.0).spell p.1) rest, isx.again p.0 ((g p.0).spell p.1 ++ rest) fits.0, (isy p.0).again p.1 rest fits.1) refl;
}

-- the same bytes as other values: what fits there is what is made of what fits here
pub IsField-made : {X Y : Type 0} (f : Field X) (Fits : X → Type 0) → IsField f Fits → (make : X → Y) (parts : Y → X) (Others : Y → Type 0) → ((x : X) → Fits x → (parts (make x) ≡ x) × Others (make x))
    → ((y : Y) → Others y → Fits (parts y) × (make (parts y) ≡ y)) → IsField (made f make parts) Others
IsField-made {X} {Y} f Fits is make parts Others there back = record {
  takes = λ bytes y rest h e.
      let a = bind_ok (f.read bytes) (λ x. Ok (make x.0, x.1)) (y, rest) e in
      let t = is.takes bytes a.0.0 a.0.1 h a.1 in
      let same = there a.0.0 t.fits in
      took_same (made f make parts) Others bytes (make a.0.0, a.0.1) (y, rest) a.2
      (record { parts = rw same.0 t.parts; rest_fits = t.rest_fits; fits = same.1 });
  again = λ y rest others. let same = back y others in rw (is.again (parts y) rest same.0, same.1) refl;
}

-- a test that finds bytes missing, and did not
missing_ok : {A : Type 0} (b : Bool) (x y : A) → cond b (Err Missing) (Ok x) ≡ Ok y → (b ≡ false) × (x ≡ y)
missing_ok true x y e = absurd cc
missing_ok false x y e = (refl, cc)

pub IsField-number : (n : ℕ) → IsField (number n) (λ x. x < 256 ^ n)
IsField-number n = record {
  takes = λ bytes x rest h e.
      let g = missing_ok (ltb (length bytes) n) (big_number n bytes, drop n bytes) (x, rest) e in
      let spelled = bytes_of_number n bytes h (ltb-false _ _ g.0) in
      let parts : bytes ≡ big_bytes n (big_number n bytes) ++ drop n bytes = sym (take-append-drop n bytes) ∙ ap (λ (front : List ℕ). front ++ drop n bytes) (sym spelled) in
      subst (λ (p : ℕ × List ℕ). Took (number n) (λ x. x < 256 ^ n) bytes p.0 p.1) g.1
      (record { parts = parts; rest_fits = IsBytes-drop n bytes h; fits = big_from-lt 0 n bytes h });
  again = λ x rest fits.
      let len = length-bytes_high_first n x in
      let long : ltb (length (big_bytes n x ++ rest)) n ≡ false = le-ltb _ _ (omega (arith, len, length-append (big_bytes n x) rest)) in
      rw (long, big_number-reads_back n x rest fits, drop_at (big_bytes n x) rest n len) refl;
}

pub IsField-run : (n : ℕ) → IsField (run n) (λ xs. length xs ≡ n)
IsField-run n = record {
  takes = λ bytes xs rest h e.
      let g = missing_ok (ltb (length bytes) n) (take n bytes, drop n bytes) (xs, rest) e in
      let long = ltb-false _ _ g.0 in
      subst (λ (p : List ℕ × List ℕ). Took (run n) (λ xs. length xs ≡ n) bytes p.0 p.1) g.1
      (record { parts = sym (take-append-drop n bytes); rest_fits = IsBytes-drop n bytes h; fits = omega (arith, long, length-take n bytes) });
  again = λ xs rest fits.
      let long : ltb (length (xs ++ rest)) n ≡ false = le-ltb _ _ (omega (arith, fits, length-append xs rest)) in
      rw (long, take_at xs rest n fits, drop_at xs rest n fits) refl;
}

times_takes : {X : Type 0} (f : Field X) (Fits : X → Type 0) (is : IsField f Fits) (n : ℕ) (bytes : List ℕ) (xs : List X) (rest : List ℕ) → IsBytes bytes → read_times f.read n bytes ≡ Ok (xs, rest)
    → Took (repeated_field f n) (λ xs. (length xs ≡ n) × AllByRecursion Fits xs) bytes xs rest
times_takes {X} f Fits is zero bytes xs rest h e =
    took_same (repeated_field f 0) (λ xs. (length xs ≡ 0) × AllByRecursion Fits xs) bytes ([], bytes) (xs, rest) e
    (record { parts = refl; rest_fits = h; fits = (refl, tt) })
times_takes {X} f Fits is (suc n) bytes xs rest h e =
    let a = bind_ok (f.read bytes) (λ first. read_times f.read n first.1 >>= λ others. Ok (first.0 ∷ others.0, others.1)) (xs, rest) e in
    let b = bind_ok (read_times f.read n a.0.1) (λ others. Ok (a.0.0 ∷ others.0, others.1)) (xs, rest) a.2 in
    let t = is.takes bytes a.0.0 a.0.1 h a.1 in
    let u = times_takes f Fits is n a.0.1 b.0.0 b.0.1 t.rest_fits b.1 in
    let parts : bytes ≡ flat_map f.spell (a.0.0 ∷ b.0.0) ++ b.0.1 =
    then_parts bytes (f.spell a.0.0) a.0.1 (flat_map f.spell b.0.0) b.0.1 t.parts u.parts
    ∙ ap (λ (front : List ℕ). front ++ b.0.1) (sym (flat_map-cons f.spell a.0.0 b.0.0)) in
    took_same (repeated_field f (suc n)) (λ xs. (length xs ≡ suc n) × AllByRecursion Fits xs) bytes (a.0.0 ∷ b.0.0, b.0.1) (xs, rest) b.2
    (record { parts = parts; rest_fits = u.rest_fits; fits = (ap suc u.fits.0, (t.fits, u.fits.1)) })

times_again : {X : Type 0} (f : Field X) (Fits : X → Type 0) (is : IsField f Fits) (xs : List X) (rest : List ℕ) → AllByRecursion Fits xs → read_times f.read (length xs) (flat_map f.spell xs ++ rest) ≡ Ok (xs, rest)
times_again f Fits is [] rest fits = refl
times_again f Fits is (x ∷ xs) rest fits =
    let regrouped : flat_map f.spell (x ∷ xs) ++ rest ≡ f.spell x ++ (flat_map f.spell xs ++ rest) =
    ap (λ (front : List ℕ). front ++ rest) (flat_map-cons f.spell x xs) ∙ append_assoc (f.spell x) (flat_map f.spell xs) rest in
    ap (read_times f.read (suc (length xs))) regrouped ∙ rw (is.again x (flat_map f.spell xs ++ rest) fits.0, times_again f Fits is xs rest fits.1) refl

pub IsField-repeated_field : {X : Type 0} (f : Field X) (Fits : X → Type 0) → IsField f Fits → (n : ℕ) → IsField (repeated_field f n) (λ xs. (length xs ≡ n) × AllByRecursion Fits xs)
IsField-repeated_field f Fits is n = record {
  takes = λ bytes xs rest h e. times_takes f Fits is n bytes xs rest h e;
  again = λ xs rest fits. rw (sym fits.0) (times_again f Fits is xs rest fits.1);
}

-- a field by other words for what fits
pub IsField-for : {X : Type 0} (f : Field X) (Fits Others : X → Type 0) → IsField f Fits → ((x : X) → Fits x → Others x) → ((x : X) → Others x → Fits x) → IsField f Others
IsField-for f Fits Others is there back = record {
  takes = λ bytes x rest h e. let t = is.takes bytes x rest h e in record { parts = t.parts; rest_fits = t.rest_fits; fits = there x t.fits };
  again = λ x rest fits. is.again x rest (back x fits);
}

pub IsField-counted : {X : Type 0} (count : Field ℕ) (FitsCount : ℕ → Type 0) → IsField count FitsCount → (elements : ℕ → Field (List X)) (Fits : List X → Type 0) → ((n : ℕ) → IsField (elements n) (λ xs. (length xs ≡ n) × Fits xs))
    → IsField (counted count elements) (λ xs. FitsCount (length xs) × Fits xs)
IsField-counted {X} count FitsCount is elements Fits are =
    let one = IsField-both count FitsCount is elements (λ n xs. (length xs ≡ n) × Fits xs) are in
    IsField-made (both count elements) (λ (p : ℕ × List X). FitsCount p.0 × ((length p.1 ≡ p.0) × Fits p.1)) one (λ p. p.1) (λ xs. (length xs, xs)) (λ xs. FitsCount (length xs) × Fits xs)
    (λ p fits. ((λ i. (fits.1.0 i, p.1)), (rw fits.1.0 fits.0, fits.1.1)))
    (λ xs fits. ((fits.0, (refl, fits.1)), refl))
