-- The processes without their links, as a loop goes through them.
use Rattle.dm_boot.proofs.Imports.{◌≡◌, ℕ, ◌+◌, ◌<◌, ◌≤◌, true, false, Some, List, [], ◌∷◌, ◌++◌, length, get_or, drop, take, ap, sym, ◌∙◌, append_assoc, append-nil, take-append_seam, Value, Data, view, items_view, BootMachine, BootImage}
use Rattle.dm_boot.proofs.Imports.{BootProcess, first_failing, machines_of, images_of, start_of, starts_from, starts_of, fits_after, has_place}
use Rattle.dm_boot.proofs.Elements.{element_at, no_more, failing-more, failing-here}

pub starts-end : (d : Data) (done : List BootProcess) (vs : List Value) (i : ℕ) → length vs ≤ i → done ++ starts_from d done (items_view (drop i vs)) ≡ done
unfolding starts_from
starts-end d done vs i past = ap (λ ts. done ++ starts_from d done ts) (no_more vs i past) ∙ append-nil done

pub starts-more : (d : Data) (done : List BootProcess) (vs : List Value) (i : ℕ) (v : Value) → i < length vs → v ≡ get_or vs i v → done ++ starts_from d done (items_view (drop i vs)) ≡ (done ++ start_of d done (view v) ∷ []) ++ starts_from d (done ++ start_of d done (view v) ∷ []) (items_view (drop (i + 1) vs))
unfolding starts_from
starts-more d done vs i v within read =
    let s = start_of d done (view v) in
    ap (λ ts. done ++ starts_from d done ts) (element_at vs i v within read)
    ∙ sym (append_assoc done (s ∷ []) (starts_from d (done ++ s ∷ []) (items_view (drop (i + 1) vs))))

-- whether a process has a place, seen from those that were built so far
pub place-here : (d : Data) (done rest : List BootProcess) (i : ℕ) (t : Data) → done ++ rest ≡ starts_of d → length done ≡ i → has_place d i t ≡ fits_after (machines_of d) (images_of d) done (start_of d done t)
unfolding has_place
place-here d done rest i t whole many =
    let e : take i (starts_of d) ≡ done = rw (← whole, ← many) (take-append_seam done rest) in
    ap (λ earlier. fits_after (machines_of d) (images_of d) earlier (start_of d earlier t)) e

-- a step of the loop: what was built, the tables, the place, its table and its process
pub record Step (d : Data) (machines : List BootMachine) (images : List BootImage) (done rest : List BootProcess) (vs : List Value) (i : ℕ) (v : Value) (s : BootProcess) : Type 0 where
  pub machines_are : machines ≡ machines_of d
  pub images_are : images ≡ images_of d
  pub whole : done ++ rest ≡ starts_of d
  pub many : length done ≡ i
  pub within : i < length vs
  pub read : v ≡ get_or vs i v
  pub start : s ≡ start_of d done (view v)

place-step : {d : Data} {machines : List BootMachine} {images : List BootImage} {done rest : List BootProcess} {vs : List Value} {i : ℕ} {v : Value} {s : BootProcess} → Step d machines images done rest vs i v s → has_place d i (view v) ≡ fits_after machines images done s
place-step {d = d} {done = done} {rest = rest} {i = i} {v = v} h = rw (h.machines_are, h.images_are, h.start) (place-here d done rest i (view v) h.whole h.many)

pub step-kept : {d : Data} {machines : List BootMachine} {images : List BootImage} {done rest : List BootProcess} {vs : List Value} {i : ℕ} {v : Value} {s : BootProcess} → Step d machines images done rest vs i v s → fits_after machines images done s ≡ true → first_failing (has_place d) i (items_view (drop i vs)) ≡ first_failing (has_place d) (i + 1) (items_view (drop (i + 1) vs))
step-kept {d = d} {vs = vs} {i = i} {v = v} h fits = failing-more (has_place d) vs i v h.within h.read (place-step h ∙ fits)

pub step-broken : {d : Data} {machines : List BootMachine} {images : List BootImage} {done rest : List BootProcess} {vs : List Value} {i : ℕ} {v : Value} {s : BootProcess} → Step d machines images done rest vs i v s → fits_after machines images done s ≡ false → first_failing (has_place d) i (items_view (drop i vs)) ≡ Some i
step-broken {d = d} {vs = vs} {i = i} {v = v} h fits = failing-here (has_place d) vs i v h.within h.read (place-step h ∙ fits)

pub step-built : {d : Data} {machines : List BootMachine} {images : List BootImage} {done rest : List BootProcess} {vs : List Value} {i : ℕ} {v : Value} {s : BootProcess} → Step d machines images done rest vs i v s → done ++ starts_from d done (items_view (drop i vs)) ≡ (done ++ s ∷ []) ++ starts_from d (done ++ s ∷ []) (items_view (drop (i + 1) vs))
step-built {d = d} {done = done} {vs = vs} {i = i} {v = v} h = rw h.start (starts-more d done vs i v h.within h.read)
