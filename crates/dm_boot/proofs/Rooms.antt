-- Processes that fit their machines, one after the other.
use Rattle.dm_boot.proofs.Imports.{◌≡◌, ℕ, ◌+◌, ◌<◌, ◌≤◌, ◌==◌, Bool, true, false, cond, nat_le, nat_lt, List, [], ◌∷◌, ◌++◌, length, slice_get, Option, Some, None, refl, ap, sym, ◌∙◌, arith, append_assoc, append-nil, length-append}
use Rattle.dm_boot.proofs.Imports.{and_parts, nat_tests, Data, Items, no_items, item, BootMachine, BootImage, BootProcess, starting_at, blocks_at, blocks_of_image, first_failing, machines_of, images_of, start_of, starts_from, starts_of}
use Rattle.dm_boot.proofs.Imports.{fits_machine, fits_after, has_place}
use Rattle.dm_boot.proofs.Bounds.{if-none}
use Rattle.dm_boot.proofs.Counted.{starting-push, taking-push}
use Rattle.dm_boot.proofs.Placed.{place-here}

-- these processes fit machine m
pub record Fit (machines : List BootMachine) (images : List BootImage) (ps : List BootProcess) (m : ℕ) (r : BootMachine) : Type 0 where
  pub slots : starting_at m ps ≤ r.slots
  pub blocks : blocks_at m images ps ≤ r.blocks

-- they fit each machine
abbrev pub AllFit : List BootMachine → List BootImage → List BootProcess → Type 0
AllFit machines images ps = (m : ℕ) (r : BootMachine) → slice_get machines m ≡ Some r → Fit machines images ps m r

pub fit-none : (machines : List BootMachine) (images : List BootImage) → AllFit machines images []
fit-none machines images m r h = record { slots = omega arith; blocks = omega arith }

fits-parts : (o : Option BootMachine) (r : BootMachine) (a b n : ℕ) → o ≡ Some r → fits_machine o a b n ≡ true → (a < r.slots) × (b + n ≤ r.blocks)
fits-parts None r a b n e h = absurd (cc)
fits-parts (Some s) r a b n e h =
    let same : s ≡ r = cc in
    let (few, low) = and_parts (nat_lt a s.slots) (nat_le (b + n) s.blocks) h in
    let one : a < s.slots = grind (arith, nat_tests) in
    let two : b + n ≤ s.blocks = grind (arith, nat_tests) in
    (rw (← same) one, rw (← same) two)

fit-here : (here : Bool) (taken new slots : ℕ) → new ≡ taken + cond here 1 0 → (here ≡ true → taken < slots) → taken ≤ slots → new ≤ slots
fit-here true taken new slots e room few =
    let below = room refl in
    omega arith
fit-here false taken new slots e room few = omega arith

room-here : (here : Bool) (taken new n blocks : ℕ) → new ≡ taken + cond here n 0 → (here ≡ true → taken + n ≤ blocks) → taken ≤ blocks → new ≤ blocks
room-here true taken new n blocks e room few =
    let below = room refl in
    omega arith
room-here false taken new n blocks e room few = omega arith

same_number : (a b : ℕ) → (a == b) ≡ true → a ≡ b
same_number a b h = grind (arith, nat_tests)

fit-push : (machines : List BootMachine) (images : List BootImage) (ps : List BootProcess) (p : BootProcess) → AllFit machines images ps → fits_after machines images ps p ≡ true → AllFit machines images (ps ++ p ∷ [])
unfolding fits_after
fit-push machines images ps p fit fits m r at =
    let n = blocks_of_image (slice_get images p.image) in
    let parts : ((p.pid.home == m) ≡ true) → (starting_at m ps < r.slots) × (blocks_at m images ps + n ≤ r.blocks) = λ here.
    let e = same_number p.pid.home m here in
    fits-parts (slice_get machines m) r (starting_at m ps) (blocks_at m images ps) n at
    (ap (λ (k : ℕ). fits_machine (slice_get machines k) (starting_at k ps) (blocks_at k images ps) n) (sym e) ∙ fits) in
    let old = fit m r at in
    record {
      slots = fit-here (p.pid.home == m) (starting_at m ps) (starting_at m (ps ++ p ∷ [])) r.slots (starting-push m ps p) (λ here. (parts here).0) old.slots;
      blocks = room-here (p.pid.home == m) (blocks_at m images ps) (blocks_at m images (ps ++ p ∷ [])) n r.blocks (taking-push m images ps p) (λ here. (parts here).1) old.blocks;
    }

-- where each process has a place, all fit
pub fit-from : (d : Data) (done : List BootProcess) (i : ℕ) (ts : Items) → done ++ starts_from d done ts ≡ starts_of d → length done ≡ i → AllFit (machines_of d) (images_of d) done → first_failing (has_place d) i ts ≡ None → AllFit (machines_of d) (images_of d) (starts_of d)
unfolding first_failing starts_from
fit-from d done i no_items whole many fit h =
    let e : done ≡ starts_of d = sym (append-nil done) ∙ whole in
    rw (← e) fit
fit-from d done i (item t ts) whole many fit h =
    let s = start_of d done t in
    let (placed, rest) = if-none (has_place d i t) (first_failing (has_place d) (i + 1) ts) i h in
    let fits : fits_after (machines_of d) (images_of d) done s ≡ true = sym (place-here d done (starts_from d done (item t ts)) i t whole many) ∙ placed in
    let more : length (done ++ s ∷ []) ≡ i + 1 = simp length-append (omega arith) in
    fit-from d (done ++ s ∷ []) (i + 1) ts (append_assoc done (s ∷ []) (starts_from d (done ++ s ∷ []) ts) ∙ whole) more (fit-push (machines_of d) (images_of d) done s fit fits) rest
