-- Where a run begins, the boot file's processes with their links mirror the first point.
use Rattle.dm_law_places.proofs.Names.{◌≡◌, ℕ, zero, suc, Bool, List, [], ◌∷◌, refl, ap, ◌∙◌, sym, inl, inr, if◌then◌else◌, map, option_map, slice_get, Option, None, Some, cases_Bool, Pid, Addr, pid_eq, place_of, plain_link, Process}
use Rattle.dm_law_places.proofs.Names.{begun_process, BootImage, BootProcess, Boot, slots_of, Alive, Life, plain_process, memory_of, slots_with, child_at_home, plain_child, pid_eq-is, first_view, first_addresses, links_at, unmoved}
use Rattle.dm_law_places.proofs.Names.{MirrorsProcess, started, started_at, StartMirrors, option_map_or, arith, none_some}
use Rattle.dm_law_places.proofs.Labels.Creates.{begun_link, begun_plainly}
use Rattle.dm_onekernel.specs.Start as one
use Rattle.dm_onekernel.specs.Step as kernel

-- without places
started_plainly_of : (b : Boot) (p : BootProcess) (o : Option BootImage)
    → kernel.alive (option_map (λ image. Alive (one.begun b.format image (map plain_link p.links))) o)
    ≡ option_map plain_process (option_map (λ image. begun_process p.pid (memory_of image) (slots_with (slots_of b.format) p.links)) o)
started_plainly_of b p None = refl
started_plainly_of b p (Some image) = ap Some (begun_plainly b.format p.pid image p.links)

started_if : (b : Boot) (p : BootProcess) (c : Bool) (x : Option Life) (y : Option Process) → kernel.alive x ≡ option_map plain_process y
    → kernel.alive (if c then one.first_life b p else x) ≡ option_map plain_process (if c then started b p else y)
started_if b p c x y h1 = search (arith, started_plainly_of)

started_plainly : (b : Boot) (ps : List BootProcess) (q : Pid) → kernel.alive (one.life_at b ps q) ≡ option_map plain_process (started_at b ps q)
started_plainly b [] q = refl
started_plainly b (p ∷ ps) q = started_if b p (pid_eq p.pid q) (one.life_at b ps q) (started_at b ps q) (started_plainly b ps q)

children_plainly : (ps : List BootProcess) → map plain_child (map child_at_home ps) ≡ map (λ (p : BootProcess). p.pid) ps
children_plainly [] = refl
children_plainly (p ∷ ps) = ap (λ (qs : List Pid). p.pid ∷ qs) (children_plainly ps)

-- its links are the file's
begun_kept : (b : Boot) (p : BootProcess) (q : Pid) (x : Process) (o : Option BootImage) → p.pid ≡ q → links_at b.processes q ≡ p.links
    → option_map (λ image. begun_process p.pid (memory_of image) (slots_with (slots_of b.format) p.links)) o ≡ Some x → MirrorsProcess (first_view b) (first_addresses b) q x
begun_kept b p q x o h1 h2 h3 = search (arith, begun_link)

started_kept : (b : Boot) (ps : List BootProcess) (q : Pid) (x : Process) → links_at b.processes q ≡ links_at ps q → started_at b ps q ≡ Some x → MirrorsProcess (first_view b) (first_addresses b) q x
started_kept b [] q x at e = none_some x e
started_kept b (p ∷ ps) q x at e = elim (cases_Bool (pid_eq p.pid q)) [
  | inl same ↦
      begun_kept b p q x (slice_get b.images p.image) (pid_eq-is p.pid q same) (at ∙ ap (λ (c : Bool). if c then p.links else links_at ps q) same)
      (sym (ap (λ (c : Bool). if c then started b p else started_at b ps q) same) ∙ e)
  | inr apart ↦
      started_kept b ps q x (at ∙ ap (λ (c : Bool). if c then p.links else links_at ps q) apart) (sym (ap (λ (c : Bool). if c then started b p else started_at b ps q) apart) ∙ e)
]

child_kept_of : (ps : List BootProcess) (n : ℕ) (c : Addr) → slice_get (map child_at_home ps) n ≡ Some c → unmoved (option_map_or (λ (p : BootProcess). p.pid.home) (slice_get ps n) 0) ≡ place_of c
child_kept_of [] n c e = none_some c e
child_kept_of (p ∷ ps) zero c e = let f : child_at_home p ≡ c = cc in ap place_of f
child_kept_of (p ∷ ps) (suc n) c e = child_kept_of ps n c e

pub start_mirrors : StartMirrors
start_mirrors b = search (arith, started_plainly b b.processes, children_plainly, started_kept, child_kept_of)
