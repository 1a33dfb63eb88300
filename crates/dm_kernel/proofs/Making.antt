-- What the rules of a boot file say of each image and each process.
use Rattle.dm_kernel.proofs.Names.{◌≡◌, ◌∙◌, IsOk, IfErr, IfOk, MatchResult, ◌<◌, ◌≤◌, ℕ, zero, suc, ◌+◌, ◌-◌, true, List, [], ◌∷◌, ◌++◌, length, map, replicate, take, drop, refl, sym, ap, subst, add-one, arith, Some, None, slice_get, set}
use Rattle.dm_kernel.proofs.Names.{get_or, drop-cons, set-append_seam, length-map, take_more, Result, Ok, Err, common_steps, slice_get_read, and_parts, nat_tests, position_or_len, is_none, Option, Link, first_empty, Boot, BootImage}
use Rattle.dm_kernel.proofs.Names.{BootProcess, image_is_valid, images_are_valid, process_is_valid, processes_are_valid, slots_of, starting_at, slots_with}
use Rattle.dm_onekernel.proofs.Making.{image_fits}

pub image_at : (images items : List BootImage) (i j : ℕ) (x : BootImage) → images_are_valid images ≡ true → i < length images → items ≡ images → j ≡ i → x ≡ get_or items j x
    → image_is_valid x ≡ true
image_at images items i j x valid h same there here =
    let e : x ≡ get_or images i x = cc in image_fits images i x valid (slice_get_read images (length images) i x refl h e)

-- its image is there, and its links go into its table
pub record IsFine (b : Boot) (x : BootProcess) : Type 0 where
  pub image : x.image < length b.images
  pub links : length x.links ≤ slots_of b.format

one_fine : (b : Boot) (others : ℕ) (x : BootProcess) → process_is_valid b others x ≡ true → IsFine b x
one_fine b others x valid =
    record { image = grind (arith, common_steps, nat_tests); links = grind (arith, common_steps, nat_tests) }

parts : (b : Boot) (earlier : List BootProcess) (p : BootProcess) (ps : List BootProcess) → processes_are_valid b earlier (p ∷ ps) ≡ true
    → (process_is_valid b (starting_at p.pid.home earlier) p ≡ true) × (processes_are_valid b (earlier ++ p ∷ []) ps ≡ true)
parts b earlier p ps valid = and_parts (process_is_valid b (starting_at p.pid.home earlier) p) (processes_are_valid b (earlier ++ p ∷ []) ps) valid

fine_at : (b : Boot) (earlier ps : List BootProcess) (i : ℕ) (x : BootProcess) → processes_are_valid b earlier ps ≡ true → slice_get ps i ≡ Some x → IsFine b x
fine_at b earlier [] i x valid at = absurd (grind arith)
fine_at b earlier (y ∷ ys) zero x valid at =
    let is : y ≡ x = grind (arith, common_steps) in
    subst (IsFine b) is (one_fine b (starting_at y.pid.home earlier) y (parts b earlier y ys valid).0)
fine_at b earlier (y ∷ ys) (suc i) x valid at =
    let next : slice_get ys i ≡ Some x = grind (arith, common_steps) in
    fine_at b (earlier ++ y ∷ []) ys i x (parts b earlier y ys valid).1 next

pub is_fine : (b : Boot) (earlier ps items : List BootProcess) (i : ℕ) (x : BootProcess) → processes_are_valid b earlier ps ≡ true → items ≡ ps → i < length items
    → x ≡ get_or items i x → IsFine b x
is_fine b earlier ps items i x valid same h here =
    let at : slice_get items i ≡ Some x = slice_get_read items (length items) i x refl h here in
    fine_at b earlier ps i x valid (ap (λ l. slice_get l i) (sym same) ∙ at)

pub drop_at : (ps : List BootProcess) (i : ℕ) (x : BootProcess) → i < length ps → x ≡ get_or ps i x → drop i ps ≡ x ∷ drop (i + 1) ps
drop_at ps i x h here = rw add-one (drop-cons ps i x h ∙ ap (λ y. y ∷ drop (suc i) ps) (sym here))
