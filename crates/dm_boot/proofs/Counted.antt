-- Slots and blocks of a machine, counted.
use Rattle.std.proofs.Common.{◌≢◌, replicate}
use Rattle.std.proofs.lemmas.List.{get_or-set_same, get_or-set_other}
use Rattle.std.proofs.Math.ListN.{set, length-set}
use Rattle.dm_boot.proofs.Imports.{◌≡◌, ℕ, ◌+◌, ◌*◌, ◌<◌, ◌≤◌, ◌==◌, zero, suc, Bool, true, false, cond, nat_lt, List, [], ◌∷◌, ◌++◌, length, get_or, slice_get, refl, ap, sym, ◌∙◌, arith, nat_tests, Data, BootImage, BootMachine, BootProcess}
use Rattle.dm_boot.proofs.Imports.{starting_at, blocks_at, blocks_of_image, home_of, start_of, fits_machine, fits_after}
use Rattle.dm_boot.specs.Started.{started}
use Rattle.dm_boot.specs.declared.taken.Taken.{Taken}

-- one more at the end
pub starting-push : (m : ℕ) (ps : List BootProcess) (p : BootProcess) → starting_at m (ps ++ p ∷ []) ≡ starting_at m ps + cond (p.pid.home == m) 1 0
starting-push m [] p = omega arith
starting-push m (q ∷ ps) p = omega (arith, starting-push m ps p)

pub taking-push : (m : ℕ) (is : List BootImage) (ps : List BootProcess) (p : BootProcess) → blocks_at m is (ps ++ p ∷ []) ≡ blocks_at m is ps + cond (p.pid.home == m) (blocks_of_image (slice_get is p.image)) 0
taking-push m is [] p = omega arith
taking-push m is (q ∷ ps) p = omega (arith, taking-push m is ps p)

-- bounds that hold on each machine stay, where they do on the new process's
pub slots-push : (ps : List BootProcess) (p : BootProcess) → ((m : ℕ) → starting_at m ps ≤ 255) → starting_at p.pid.home ps < 255 → (m : ℕ) → starting_at m (ps ++ p ∷ []) ≤ 255
slots-push ps p few room m = grind (arith, nat_tests, starting-push m ps p, few m)

pub blocks-push : (is : List BootImage) (ps : List BootProcess) (p : BootProcess) → ((m : ℕ) → blocks_at m is ps ≤ 65535) → blocks_at p.pid.home is ps + blocks_of_image (slice_get is p.image) ≤ 65535 → (m : ℕ) → blocks_at m is (ps ++ p ∷ []) ≤ 65535
blocks-push is ps p few room m = grind (arith, nat_tests, taking-push m is ps p, few m)

-- how many start on the first n machines
abbrev pub starting_below : ℕ → List BootProcess → ℕ
starting_below n [] = 0
starting_below n (p ∷ ps) = cond (nat_lt p.pid.home n) 1 0 + starting_below n ps

below-push : (n : ℕ) (ps : List BootProcess) (p : BootProcess) → starting_below n (ps ++ p ∷ []) ≡ starting_below n ps + cond (nat_lt p.pid.home n) 1 0
below-push n [] p = omega arith
below-push n (q ∷ ps) p = omega (arith, below-push n ps p)

pub below-one : (n : ℕ) (ps : List BootProcess) (p : BootProcess) → p.pid.home < n → starting_below n (ps ++ p ∷ []) ≡ starting_below n ps + 1
below-one n ps p small = grind (arith, nat_tests, below-push n ps p)

below_step : (h n : ℕ) → cond (nat_lt h (suc n)) 1 0 ≡ cond (nat_lt h n) 1 0 + cond (h == n) 1 0
below_step h n = grind (arith, nat_tests)

below-suc : (n : ℕ) (ps : List BootProcess) → starting_below (suc n) ps ≡ starting_below n ps + starting_at n ps
below-suc n [] = refl
below-suc n (p ∷ ps) = omega (arith, below-suc n ps, below_step p.pid.home n)

below-zero : (ps : List BootProcess) → starting_below 0 ps ≡ 0
below-zero [] = refl
below-zero (p ∷ ps) = grind (arith, nat_tests, below-zero ps)

pub below-most : (n : ℕ) (ps : List BootProcess) → ((m : ℕ) → starting_at m ps ≤ 255) → starting_below n ps ≤ 255 * n
below-most zero ps few = omega (arith, below-zero ps)
below-most (suc n) ps few = omega (arith, below-suc n ps, few n, below-most n ps few)

-- one number of a row grows, as a count of one machine does
count-cases : (xs : List ℕ) (h n m old new : ℕ) (here : Bool) → here ≡ (h == m) → h < length xs → get_or xs m 0 ≡ old → new ≡ old + cond (h == m) n 0 → get_or (set xs h (get_or xs h 0 + n)) m 0 ≡ new
count-cases xs h n m old new true is within so more =
    let same : m ≡ h = grind (arith, nat_tests) in
    let sum : new ≡ old + n = rw (← is) at more in
    let before : get_or xs h 0 ≡ old = ap (λ k. get_or xs k 0) (sym same) ∙ so in
    rw same (get_or-set_same xs h (get_or xs h 0 + n) 0 within ∙ omega (arith, before, sum))
count-cases xs h n m old new false is within so more =
    let apart : m ≢ h = grind (arith, nat_tests) in
    let sum : new ≡ old + 0 = rw (← is) at more in
    get_or-set_other xs h m (get_or xs h 0 + n) 0 apart ∙ omega (arith, so, sum)

count-add : (xs : List ℕ) (f g : ℕ → ℕ) (h n : ℕ) → h < length xs → ((m : ℕ) → get_or xs m 0 ≡ f m) → ((m : ℕ) → g m ≡ f m + cond (h == m) n 0) → (m : ℕ) → get_or (set xs h (get_or xs h 0 + n)) m 0 ≡ g m
count-add xs f g h n within so more m = count-cases xs h n m (f m) (g m) (h == m) refl within (so m) (more m)

-- what is taken of each machine is what these processes take
pub record Counts (taken : Taken) (images : List BootImage) (ps : List BootProcess) : Type 0 where
  pub machines : length taken.slots ≡ 16
  pub machines_too : length taken.blocks ≡ 16
  pub slots : (m : ℕ) → get_or taken.slots m 0 ≡ starting_at m ps
  pub blocks : (m : ℕ) → get_or taken.blocks m 0 ≡ blocks_at m images ps

nothing-at : (n m : ℕ) → ◌≡◌ {A = ℕ} (get_or (replicate n 0) m 0) 0
nothing-at zero m = refl
nothing-at (suc n) zero = refl
nothing-at (suc n) (suc m) = nothing-at n m

pub counts-none : (taken : Taken) (images : List BootImage) → taken.slots ≡ replicate 16 0 → taken.blocks ≡ replicate 16 0 → Counts taken images []
counts-none taken images slots blocks = record {
  machines = ap length slots;
  machines_too = ap length blocks;
  slots = λ m. rw slots (nothing-at 16 m);
  blocks = λ m. rw blocks (nothing-at 16 m);
}

pub counts-push : (taken new : Taken) (images : List BootImage) (ps : List BootProcess) (p : BootProcess) (more : ℕ) → Counts taken images ps → p.pid.home ≤ 15 → more ≡ blocks_of_image (slice_get images p.image)
    → new.slots ≡ set taken.slots p.pid.home (get_or taken.slots p.pid.home 0 + 1) → new.blocks ≡ set taken.blocks p.pid.home (get_or taken.blocks p.pid.home 0 + more) → Counts new images (ps ++ p ∷ [])
counts-push taken new images ps p more counts low is slots blocks =
    let within : p.pid.home < length taken.slots = omega (arith, counts.machines) in
    let within_too : p.pid.home < length taken.blocks = omega (arith, counts.machines_too) in
    record {
      machines = ap length slots ∙ length-set taken.slots p.pid.home (get_or taken.slots p.pid.home 0 + 1) ∙ counts.machines;
      machines_too = ap length blocks ∙ length-set taken.blocks p.pid.home (get_or taken.blocks p.pid.home 0 + more) ∙ counts.machines_too;
      slots = λ m. rw slots (count-add taken.slots (λ k. starting_at k ps) (λ k. starting_at k (ps ++ p ∷ [])) p.pid.home 1 within counts.slots (λ k. starting-push k ps p) m);
      blocks = λ m. rw (blocks, is) (count-add taken.blocks (λ k. blocks_at k images ps) (λ k. blocks_at k images (ps ++ p ∷ [])) p.pid.home (blocks_of_image (slice_get images p.image)) within_too counts.blocks (λ k. taking-push k images ps p) m);
    }

-- a process and whether it fits, by what is counted
pub started-counted : (d : Data) (ps : List BootProcess) (t : Data) (others : ℕ) → others ≡ starting_at (home_of t) ps → started d t others ≡ start_of d ps t
unfolding start_of
started-counted d ps t others e = rw e refl

pub fits-counted : (machines : List BootMachine) (taken : Taken) (images : List BootImage) (ps : List BootProcess) (p : BootProcess) (more : ℕ) → Counts taken images ps → more ≡ blocks_of_image (slice_get images p.image)
    → fits_machine (slice_get machines p.pid.home) (get_or taken.slots p.pid.home 0) (get_or taken.blocks p.pid.home 0) more ≡ fits_after machines images ps p
unfolding fits_after
fits-counted machines taken images ps p more counts is = rw (counts.slots p.pid.home, counts.blocks p.pid.home, is) refl
