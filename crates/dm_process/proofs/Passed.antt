-- How far a queue was looked through, channel by channel.
use Rattle.std.specs.Prelude.{◌==◌, ◌&&◌, ◌++◌, nat_lt, slice_index_or, replicate, Bool, Option, if◌then◌else◌, ◌/◌, ◌%◌, ◌^◌}
use Rattle.std.proofs.Common.{◌-◌, inl, inr}
use Rattle.std.proofs.lemmas.Bool.Decides.{nat_tests}
use Rattle.dm_message.specs.declared.What.{What}
use Rattle.dm_message.specs.declared.What.TheVariants as what
use Rattle.dm_process.proofs.Names.{◌≡◌, ℕ, zero, suc, ◌<◌, ◌≤◌, true, false, List, [], ◌∷◌, length, take, Some, None, remove, slice_get, refl, sym, subst, ap, ◌∙◌, arith, Message, first_on, is_on, HasPassed}
use Rattle.dm_process.specs.Mail.{on_mask, what_is_on}
use Rattle.std.specs.Prelude.{OnErr, OnOk, is_some}
use Rattle.std.specs.declared.result.Result.{Result}
use Rattle.std.specs.declared.result.Result.TheVariants.{Err, Ok}
use Rattle.dm_process.specs.Passed.{WasSearched, AreOff, ArePassed, IsKept, shifted, what_is_of}

abbrev pub IsZero : ℕ → Type 0
IsZero n = n ≡ 0

-- fewer aren't on it either
pub fewer_off : (c k n : ℕ) (ms : List Message) → k ≤ n → AreOff c n ms → AreOff c k ms
fewer_off c zero n ms le h = tt {0}
fewer_off c (suc k) zero ms le h = absurd (omega (arith, le))
fewer_off c (suc k) (suc n) [] le h = h
fewer_off c (suc k) (suc n) (m ∷ ms) le h = (h.0, fewer_off c k n ms (omega (arith, le)) h.1)

not_true : (b : Bool) → (b ≡ true → ⊥) → b ≡ false
not_true true h = absurd (h refl)
not_true false h = refl

first_true : (a b : Bool) → (a && b) ≡ true → a ≡ true
first_true true b h = refl
first_true false b h = absurd (cc h)

in_range : (mask c : ℕ) → on_mask mask c ≡ true → c < 32
in_range mask c on = grind (arith, nat_tests, first_true (nat_lt c 32) ((mask / 2 ^ c) % 2 == 1) on)

same_channel : (c : ℕ) → (c == c) ≡ false → ⊥
same_channel c h = grind (arith, nat_tests, h)

-- what is on no channel of the mask isn't on the mask
off_mask : (mask : ℕ) (w : What) → ((c : ℕ) → c < 32 → on_mask mask c ≡ true → what_is_of c w ≡ false) → what_is_on mask w ≡ false
off_mask mask (what.User code channel body links) h = not_true (on_mask mask channel) (λ on. same_channel channel (h channel (in_range mask channel on) on))
off_mask mask w h = refl

equal : (a b : ℕ) → (a == b) ≡ true → a ≡ b
equal a b e = grind (arith, nat_tests, e)

-- and the other way round
off_channel : (mask c : ℕ) (w : What) → on_mask mask c ≡ true → what_is_on mask w ≡ false → what_is_of c w ≡ false
off_channel mask c (what.User code channel body links) on off =
    not_true (channel == c) (λ same. absurd (cc (sym off ∙ ap (on_mask mask) (equal channel c same) ∙ on)))
off_channel mask c w on off = refl

none_on : (mask n : ℕ) (ms : List Message) → n ≤ length ms → ((c : ℕ) → c < 32 → on_mask mask c ≡ true → AreOff c n ms) → first_on mask (take n ms) ≡ None
none_on mask zero ms le h = refl
none_on mask (suc n) [] le h = absurd (omega (arith, le))
none_on mask (suc n) (m ∷ ms) le h =
    ap (λ b. if b then Some m else first_on mask (take n ms)) (off_mask mask m.what (λ c lt on. (h c lt on).0))
    ∙ none_on mask n ms (omega (arith, le)) (λ c lt on. (h c lt on).1)

-- what is known for each channel is known for a mask, up to the least of its channels
pub passed_for : (mask n : ℕ) (places : List ℕ) (ms : List Message) → n ≤ length ms → ((c : ℕ) → c < 32 → on_mask mask c ≡ true → n ≤ slice_index_or places c 0) → ArePassed places ms → HasPassed mask n ms
passed_for mask n places ms le least h = record {
  within = le;
  none = none_on mask n ms le (λ c lt on. fewer_off c n (slice_index_or places c 0) ms (least c lt on) (h c lt));
}

is_none : (b : Bool) (m : Message) (rest : Option Message) → (if b then Some m else rest) ≡ None → (b ≡ false) × (rest ≡ None)
is_none true m rest h = absurd (cc h)
is_none false m rest h = (refl, h)

all_off : (mask c n : ℕ) (ms : List Message) → on_mask mask c ≡ true → n ≤ length ms → first_on mask (take n ms) ≡ None → AreOff c n ms
all_off mask c zero ms on le none = tt {0}
all_off mask c (suc n) [] on le none = absurd (omega (arith, le))
all_off mask c (suc n) (m ∷ ms) on le none =
    let p = is_none (is_on mask m) m (first_on mask (take n ms)) none in
    (off_channel mask c m.what on p.0, all_off mask c n ms on (omega (arith, le)) p.1)

-- what is known for a mask is known for its channels
pub kept_passed : (mask passed : ℕ) (old new : List ℕ) (ms : List Message) → HasPassed mask passed ms → ArePassed old ms → ((c : ℕ) → c < 32 → IsKept mask passed c (slice_index_or old c 0) (slice_index_or new c 0)) → ArePassed new ms
kept_passed mask passed old new ms last others kept = λ c lt.
    elim (kept c lt) [
      | inl e ↦ subst (λ (n : ℕ). AreOff c n ms) (sym e) (others c lt)
      | inr e ↦ subst (λ (n : ℕ). AreOff c n ms) (sym e.1) (all_off mask c passed ms e.0 last.within last.none)
    ]

-- one more message
pub one_more_off : (c n : ℕ) (ms : List Message) (m : Message) → AreOff c n ms → AreOff c n (ms ++ m ∷ [])
one_more_off c zero ms m h = tt {0}
one_more_off c (suc n) [] m h = absurd h
one_more_off c (suc n) (x ∷ ms) m h = (h.0, one_more_off c n ms m h.1)

-- one is taken
before_it : (c n i : ℕ) (ms : List Message) → n ≤ i → AreOff c n ms → AreOff c n (remove ms i)
before_it c zero i ms le h = tt {0}
before_it c (suc n) i [] le h = absurd h
before_it c (suc n) zero (m ∷ ms) le h = absurd (omega (arith, le))
before_it c (suc n) (suc i) (m ∷ ms) le h = (h.0, before_it c n i ms (omega (arith, le)) h.1)

behind_it : (c n i : ℕ) (ms : List Message) → i ≤ n → AreOff c (suc n) ms → AreOff c n (remove ms i)
behind_it c n i [] le h = absurd h
behind_it c n zero (m ∷ ms) le h = h.1
behind_it c zero (suc i) (m ∷ ms) le h = absurd (omega (arith, le))
behind_it c (suc n) (suc i) (m ∷ ms) le h = (h.0, behind_it c n i ms (omega (arith, le)) h.1)

shifted_off : (b : Bool) (c n i : ℕ) (ms : List Message) → b ≡ nat_lt i n → AreOff c n ms → AreOff c (if b then n - 1 else n) (remove ms i)
shifted_off true c zero i ms e h = absurd (grind (arith, nat_tests, e))
shifted_off true c (suc n) i ms e h =
    let fewer : suc n - 1 ≡ n = omega arith in
    subst (λ (k : ℕ). AreOff c k (remove ms i)) (sym fewer) (behind_it c n i ms (grind (arith, nat_tests, e)) h)
shifted_off false c n i ms e h = before_it c n i ms (grind (arith, nat_tests, e)) h

pub taken_passed : (i : ℕ) (old new : List ℕ) (ms : List Message) → ((c : ℕ) → c < 32 → slice_index_or new c 0 ≡ shifted i (slice_index_or old c 0)) → ArePassed old ms → ArePassed new (remove ms i)
taken_passed i old new ms is h = λ c lt.
    subst (λ (n : ℕ). AreOff c n (remove ms i)) (sym (is c lt)) (shifted_off (nat_lt i (slice_index_or old c 0)) c (slice_index_or old c 0) i ms refl (h c lt))

pub zero_at : (n c : ℕ) → IsZero (slice_index_or (replicate n 0) c 0)
zero_at zero c = refl
zero_at (suc n) zero = refl
zero_at (suc n) (suc c) = zero_at n c

-- nothing is known
pub none_passed : (ms : List Message) → ArePassed (replicate 32 0) ms
none_passed ms = λ c lt. subst (λ (n : ℕ). AreOff c n ms) (sym (zero_at 32 c)) (tt {0})

-- one message more
within_more : (n : ℕ) (ms : List Message) (m : Message) → n ≤ length ms → n ≤ length (ms ++ m ∷ [])
within_more n [] m le = omega (arith, le)
within_more zero (x ∷ ms) m le = omega arith
within_more (suc n) (x ∷ ms) m le = omega (arith, within_more n ms m (omega (arith, le)))

same_front : (n : ℕ) (ms : List Message) (m : Message) → n ≤ length ms → take n (ms ++ m ∷ []) ≡ take n ms
same_front zero ms m le = refl
same_front (suc n) [] m le = absurd (omega (arith, le))
same_front (suc n) (x ∷ ms) m le = ap (λ (xs : List Message). x ∷ xs) (same_front n ms m (omega (arith, le)))

more_searched : (mask passed : ℕ) (places : List ℕ) (ms : List Message) (m : Message) → WasSearched mask passed places ms → WasSearched mask passed places (ms ++ m ∷ [])
more_searched mask passed places ms m h = record {
  last = record { within = within_more passed ms m h.last.within; none = ap (first_on mask) (same_front passed ms m h.last.within) ∙ h.last.none };
  others = λ c lt. one_more_off c (slice_index_or places c 0) ms m (h.others c lt);
}

pub pushed : {A E : Type 0} (r : Result A E) (mask passed : ℕ) (places : List ℕ) (old new : List Message) (m : Message) → OnOk r (new ≡ old ++ m ∷ []) → OnErr r (new ≡ old) → WasSearched mask passed places old → WasSearched mask passed places new
pushed (Ok x) mask passed places old new m ok err h = subst (WasSearched mask passed places) (sym ok) (more_searched mask passed places old m h)
pushed (Err x) mask passed places old new m ok err h = subst (WasSearched mask passed places) (sym err) h

-- a message is on the mask where the search ends before the last
there : (ms : List Message) (i : ℕ) → i < length ms → is_some (slice_get ms i) ≡ true
there [] i lt = absurd (omega (arith, lt))
there (x ∷ ms) zero lt = refl
there (x ∷ ms) (suc i) lt = there ms i (omega (arith, lt))

match_at : (b : Bool) (mask i : ℕ) (ms : List Message) → nat_lt i (length ms) ≡ b → i ≤ length ms → (i < length ms → slice_get ms i ≡ first_on mask ms) → (i ≡ length ms → first_on mask ms ≡ None) → b ≡ is_some (first_on mask ms)
match_at true mask i ms e le first none =
    let lt : i < length ms = grind (arith, nat_tests, e) in
    sym (there ms i lt) ∙ ap (λ (o : Option Message). is_some o) (first lt)
match_at false mask i ms e le first none =
    let all : i ≡ length ms = grind (arith, nat_tests, e, le) in
    sym (ap (λ (o : Option Message). is_some o) (none all))

pub has_one : (mask i : ℕ) (ms : List Message) → i ≤ length ms → (i < length ms → slice_get ms i ≡ first_on mask ms) → (i ≡ length ms → first_on mask ms ≡ None) → nat_lt i (length ms) ≡ is_some (first_on mask ms)
has_one mask i ms le first none = match_at (nat_lt i (length ms)) mask i ms refl le first none
