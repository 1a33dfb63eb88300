-- The processes of the boot file, one after the other, from the last on.
use Rattle.std.specs.Prelude.{◌≡◌, ℕ, zero, suc, ◌+◌, ◌-◌, ◌<◌, ◌≤◌, Bool, true, false, ◌==◌, if◌then◌else◌, List, [], ◌∷◌, ◌++◌, length, map, drop, get_or, slice_get, slice_index, option_map}
use Rattle.std.proofs.Common.{refl, sym, subst, ap, arith, add-one, drop-cons, ◌∙◌}
use Rattle.std.proofs.Math.Seq.{drop-length}
use Rattle.std.proofs.lemmas.Bool.{and_parts}
use Rattle.std.proofs.lemmas.Bool.Decides.{nat_tests}
use Rattle.std.proofs.lemmas.Grind.{common_steps}
use Rattle.std.proofs.lemmas.Option.{slice_get_read}
use Rattle.std.specs.List.{All}
use Rattle.std.specs.declared.option.Option.{Option}
use Rattle.std.specs.declared.option.Option.TheVariants.{None, Some}
use Rattle.dm_link.specs.Lawful.{IsLawfulEnclosed}
use Rattle.dm_link.specs.Names.{pid_eq}
use Rattle.dm_link.specs.Plain.{plain_link}
use Rattle.dm_onekernel.specs.declared.boot.Boot.{Boot}
use Rattle.dm_onekernel.specs.declared.boot.BootImage.{BootImage}
use Rattle.dm_onekernel.specs.declared.boot.BootMachine.{BootMachine}
use Rattle.dm_onekernel.specs.declared.boot.BootProcess.{BootProcess}
use Rattle.dm_onekernel.specs.Boot.{IsValid, machine_is_valid, machines_are_valid, process_is_valid, processes_are_valid, slots_of, starting_at}
use Rattle.dm_onekernel.specs.Kernel.{Life, Alive, OneKernel}
use Rattle.dm_onekernel.specs.Service.{with_created}
use Rattle.dm_onekernel.specs.Start.{begun, first_life, life_at, start}
use Rattle.dm_replay.specs.Begun.{started}
use Rattle.dm_replay.specs.declared.kernel.Kernel.{Kernel}
use Rattle.dm_replay.specs.Sound.{IsOf, IsSound, first_count}
use Rattle.dm_replay.specs.State.{one_kernel}
use Rattle.dm_replay.specs.Steps.{Stays}
use Rattle.dm_onekernel.proofs.Lawful.{links_lawfully, links_of, few_machines, home_of}

-- a process of the boot file can be made, and its links can be enclosed
pub record IsFine (b : Boot) (x : BootProcess) : Type 0 where
  pub home : x.pid.home < length b.machines
  pub image : x.image < length b.images
  pub links : length x.links ≤ slots_of b.format
  pub enclosed : All IsLawfulEnclosed x.links

image_of : (b : Boot) (others : ℕ) (p : BootProcess) → process_is_valid b others p ≡ true → p.image < length b.images
image_of b others p valid = grind (arith, common_steps, nat_tests)

fine_at : (b : Boot) (earlier ps : List BootProcess) (i : ℕ) (x : BootProcess) → IsValid b → processes_are_valid b earlier ps ≡ true → slice_get ps i ≡ Some x → IsFine b x
fine_at b earlier [] i x valid h at = absurd (grind arith)
fine_at b earlier (y ∷ ys) zero x valid h at =
    let is : y ≡ x = grind (arith, common_steps) in
    let one = (and_parts (process_is_valid b (starting_at y.pid.home earlier) y) (processes_are_valid b (earlier ++ y ∷ []) ys) h).0 in
    let links = links_of b (starting_at y.pid.home earlier) y one in
    subst (IsFine b) is
    (record {
      home = home_of b (starting_at y.pid.home earlier) y one;
      image = image_of b (starting_at y.pid.home earlier) y one;
      links = links.0;
      enclosed = links_lawfully b y.links valid (few_machines (length b.machines) valid.few_machines) links.1;
    })
fine_at b earlier (y ∷ ys) (suc i) x valid h at =
    let next : slice_get ys i ≡ Some x = grind (arith, common_steps) in
    fine_at b (earlier ++ y ∷ []) ys i x valid (and_parts (process_is_valid b (starting_at y.pid.home earlier) y) (processes_are_valid b (earlier ++ y ∷ []) ys) h).1 next

pub is_fine : (b : Boot) (items : List BootProcess) (i : ℕ) (x : BootProcess) → IsValid b → items ≡ b.processes → i < length items → x ≡ get_or items i x → IsFine b x
is_fine b items i x valid same h here =
    let at : slice_get items i ≡ Some x = slice_get_read items (length items) i x refl h here in
    fine_at b [] b.processes i x valid valid.processes (ap (λ l. slice_get l i) (sym same) ∙ at)

pub drop_at : (ps : List BootProcess) (i : ℕ) (x : BootProcess) → i < length ps → x ≡ get_or ps i x → drop i ps ≡ x ∷ drop (i + 1) ps
drop_at ps i x h here = rw add-one (drop-cons ps i x h ∙ ap (λ y. y ∷ drop (suc i) ps) (sym here))

-- the image that a process names
pub image_there : (images items : List BootImage) (i j : ℕ) (x : BootImage) → items ≡ images → j ≡ i → i < length images → x ≡ get_or items j x → slice_get images i ≡ Some x
image_there images items i j x same is h here =
    slice_get_read images (length images) i x refl h (here ∙ ap (λ k. get_or items k x) is ∙ ap (λ (xs : List BootImage). get_or xs i x) same)

pub image_at : (images : List BootImage) (i : ℕ) (x y : BootImage) → slice_get images i ≡ Some x → slice_get images i ≡ Some y → x ≡ y
image_at images i x y e f = let both : Some x ≡ Some y = sym e ∙ f in cc

-- one process more stands before the others
life_first : (c : Bool) (o : Option BootImage) (i : BootImage) (b : Boot) (p : BootProcess) (rest : Option Life) → slice_get b.images p.image ≡ Some i
    → (if c then Some (Alive (begun b.format i (map plain_link p.links))) else rest) ≡ (if c then first_life b p else rest)
life_first true o i b p rest e = sym (ap (λ o. option_map (λ image. Alive (begun b.format image (map plain_link p.links))) o) e)
life_first false o i b p rest e = refl

pub one_more : (b : Boot) (p : BootProcess) (ps : List BootProcess) (i : BootImage) → slice_get b.images p.image ≡ Some i
    → with_created (started b ps) p.pid i (map plain_link p.links) ≡ started b (p ∷ ps)
one_more b p ps i e =
    λ k. record (started b (p ∷ ps)) {
      processes = λ q. life_first (pid_eq p.pid q) None i b p (life_at b ps q) e k;
      made = λ m. count m k;
    }
  where
    count : (m : ℕ) → starting_at m ps + (if p.pid.home == m then 1 else 0) ≡ starting_at m (p ∷ ps)
    count m = omega arith

-- no home has more than 64
machine_fits : (b : Boot) (j : ℕ) (rs : List BootMachine) (i : ℕ) (r : BootMachine) → machines_are_valid b j rs ≡ true → slice_get rs i ≡ Some r → machine_is_valid b (j + i) r ≡ true
machine_fits b j [] i r valid at = absurd (grind arith)
machine_fits b j (x ∷ xs) zero r valid at =
    let is : x ≡ r = grind (arith, common_steps) in
    let k : j + zero ≡ j = omega arith in
    subst (λ (r : BootMachine). machine_is_valid b (j + zero) r ≡ true) is
    (subst (λ (k : ℕ). machine_is_valid b k x ≡ true) (sym k) (and_parts (machine_is_valid b j x) (machines_are_valid b (j + 1) xs) valid).0)
machine_fits b j (x ∷ xs) (suc i) r valid at =
    let next : slice_get xs i ≡ Some r = grind (arith, common_steps) in
    let k : j + 1 + i ≡ j + suc i = omega arith in
    subst (λ (k : ℕ). machine_is_valid b k r ≡ true) k (machine_fits b (j + 1) xs i r (and_parts (machine_is_valid b j x) (machines_are_valid b (j + 1) xs) valid).1 next)

element_at : {A : Type 0} (xs : List A) (i : ℕ) → i < length xs → (x : A) × (slice_get xs i ≡ Some x)
element_at [] i h = absurd (omega (arith, h))
element_at (x ∷ xs) zero h = (x, grind (arith, common_steps))
element_at {A = A} (x ∷ xs) (suc i) h =
    let next : (y : A) × (slice_get xs i ≡ Some y) = element_at xs i (omega (arith, h)) in
    let there : slice_get xs i ≡ Some next.0 = next.1 in
    (next.0, grind (arith, common_steps))

few_slots : (b : Boot) (m : ℕ) (r : BootMachine) → machine_is_valid b m r ≡ true → starting_at m b.processes ≤ 64
few_slots b m r valid = grind (arith, nat_tests)

pub few_of_home : (b : Boot) (m : ℕ) → IsValid b → m < length b.machines → starting_at m b.processes ≤ 64
few_of_home b m valid h =
    let r = element_at b.machines m h in
    let same : 0 + m ≡ m = omega arith in
    few_slots b m r.0 (subst (λ (k : ℕ). machine_is_valid b k r.0 ≡ true) same (machine_fits b 0 b.machines m r.0 valid.machines r.1))

pub fewer : (m i : ℕ) (ps : List BootProcess) → starting_at m (drop i ps) ≤ starting_at m ps
fewer m zero ps = omega arith
fewer m (suc i) [] = omega arith
fewer m (suc i) (p ∷ ps) = let h = fewer m i ps in omega (arith, h)

-- the processes from the place on have begun
pub record HasBegun (b : Boot) (left : ℕ) (k : Kernel) : Type 0 where
  pub within : left ≤ length b.processes
  pub state : one_kernel b k ≡ started b (drop left b.processes)
  pub sound : IsSound 0 k
  pub of : IsOf b k
  pub labels : k.labels ≡ 0

-- so no home has more than its 64
pub few_made : (b : Boot) (left m : ℕ) (k : Kernel) → IsValid b → m < length b.machines → HasBegun b left k → slice_index k.made m ≤ 64
few_made b left m k valid h begun =
    let made : slice_index k.made m ≡ starting_at m (drop left b.processes) = ap (λ (s : OneKernel). s.made m) begun.state in
    let most = few_of_home b m valid h in
    let fewer = fewer m left b.processes in
    omega (arith, made, most, fewer)

-- the next one is fine
pub next_fine : (b : Boot) (items : List BootProcess) (left : ℕ) (k : Kernel) (x : BootProcess) → IsValid b → items ≡ b.processes → HasBegun b left k → 0 < left → x ≡ get_or items (left - 1) x → IsFine b x
next_fine b items left k x valid same h some here =
    let within = h.within in
    let all : length items ≡ length b.processes = ap length same in
    is_fine b items (left - 1) x valid same (omega (arith, within, all, some)) here

-- and stands before those that have begun
pub begins_next : (b : Boot) (items : List BootProcess) (left : ℕ) (k new : Kernel) (x : BootProcess) → IsValid b → items ≡ b.processes → HasBegun b left k → 0 < left → x ≡ get_or items (left - 1) x
    → ((i : BootImage) → slice_get b.images x.image ≡ Some i → one_kernel b new ≡ with_created (one_kernel b k) x.pid i (map plain_link x.links))
    → ((n : ℕ) → IsSound n k → All IsLawfulEnclosed x.links → slice_index k.made x.pid.home < first_count + n → IsSound n new) → Stays k new → HasBegun b (left - 1) new
begins_next b items left k new x valid same h some here state sound stays =
    let fine : IsFine b x = next_fine b items left k x valid same h some here in
    let image : (i : BootImage) × (slice_get b.images x.image ≡ Some i) = element_at b.images x.image fine.image in
    let few : slice_index k.made x.pid.home ≤ 64 = few_made b left x.pid.home k valid fine.home h in
    let within : left ≤ length b.processes = h.within in
    let before : left - 1 < length b.processes = omega (arith, within, some) in
    let back : left - 1 + 1 ≡ left = omega (arith, some) in
    let it : x ≡ get_or b.processes (left - 1) x = here ∙ ap (λ (ps : List BootProcess). get_or ps (left - 1) x) same in
    let rest : drop (left - 1) b.processes ≡ x ∷ drop left b.processes = drop_at b.processes (left - 1) x before it ∙ ap (λ n. x ∷ drop n b.processes) back in
    record {
      within = omega (arith, within);
      state = state image.0 image.1
          ∙ ap (λ (s : OneKernel). with_created s x.pid image.0 (map plain_link x.links)) h.state
          ∙ one_more b x (drop left b.processes) image.0 image.1
          ∙ ap (started b) (sym rest);
      sound = sound 0 h.sound fine.enclosed (omega (arith, few));
      of = record { machines = stays.machines ∙ h.of.machines; images = stays.images ∙ h.of.images };
      labels = stays.labels ∙ h.labels;
    }

-- none has begun at the list's end
pub none_begun : (b : Boot) (k : Kernel) → one_kernel b k ≡ started b [] → IsSound 0 k → IsOf b k → k.labels ≡ 0 → HasBegun b (length b.processes) k
none_begun b k state sound of labels =
    record {
      within = omega arith;
      state = state ∙ ap (started b) (sym (drop-length b.processes));
      sound = sound;
      of = of;
      labels = labels;
    }
