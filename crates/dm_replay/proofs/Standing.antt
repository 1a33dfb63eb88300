-- A process that begins, beside the others.
use Rattle.std.specs.Prelude.{◌≡◌, ◌≤◌, ◌+◌, ◌-◌, ◌<◌, ◌==◌, ℕ, zero, suc, Bool, true, false, if◌then◌else◌, List, [], ◌∷◌, ◌++◌, length, map, replicate, option_map, slice_index, slice_set}
use Rattle.std.proofs.Common.{refl, sym, subst, ap, arith, ◌∙◌}
use Rattle.std.proofs.lemmas.Bool.Decides.{nat_tests}
use Rattle.std.proofs.lemmas.Grind.{common_steps}
use Rattle.std.specs.declared.option.Option.{Option}
use Rattle.std.specs.declared.option.Option.TheVariants.{None, Some}
use Rattle.dm_link.specs.declared.Link.{Link}
use Rattle.dm_link.specs.declared.Pid.{Pid}
use Rattle.dm_link.specs.Names.{pid_eq}
use Rattle.dm_link.specs.Plain.{PlainLink, plain_link}
use Rattle.dm_process.specs.declared.process.Process.{Process}
use Rattle.dm_replay.specs.declared.life.Life.TheVariants.{Alive}
use Rattle.dm_replay.specs.Living.{at, with_life}
use Rattle.dm_onekernel.specs.declared.boot.Boot.{Boot}
use Rattle.dm_onekernel.specs.declared.boot.BootImage.{BootImage}
use Rattle.dm_onekernel.specs.Boot.{slots_of}
use Rattle.dm_onekernel.specs.Kernel as one
use Rattle.dm_onekernel.specs.Plain.{plain_process}
use Rattle.dm_onekernel.specs.Service.{with_created}
use Rattle.dm_onekernel.specs.Start.{begun, slots_with}
use Rattle.dm_replay.specs.declared.kernel.Kernel.{Kernel}
use Rattle.dm_onekernel.specs.Child.{child_of}
use Rattle.dm_replay.specs.Sound.{IsFit, IsSound, first_count}
use Rattle.dm_replay.specs.State.{one_kernel}
use Rattle.dm_replay.proofs.Taken.{fit_with, lives_with}

-- its links without places
none_plain : (n : ℕ) → map (option_map plain_link) (replicate n None) ≡ replicate n None
none_plain zero = refl
none_plain (suc n) = ap (λ (xs : List (Option PlainLink)). None ∷ xs) (none_plain n)

links_before : (links : List Link) (rest : List (Option Link)) → map (option_map plain_link) (map Some links ++ rest) ≡ map Some (map plain_link links) ++ map (option_map plain_link) rest
links_before [] rest = refl
links_before (l ∷ ls) rest = ap (λ (xs : List (Option PlainLink)). Some (plain_link l) ∷ xs) (links_before ls rest)

slots_plain : (slots : ℕ) (links : List Link) → map (option_map plain_link) (slots_with slots links) ≡ slots_with slots (map plain_link links)
slots_plain slots links =
    let same : length (map plain_link links) ≡ length links = grind (arith, common_steps) in
    links_before links (replicate (slots - length links) None)
    ∙ ap (λ (xs : List (Option PlainLink)). map Some (map plain_link links) ++ xs) (none_plain (slots - length links))
    ∙ ap (λ n. map Some (map plain_link links) ++ replicate (slots - n) None) (sym same)

-- it is that of the kernel without machines
pub child_plain : (b : Boot) (p : Pid) (i : BootImage) (links : List Link) → plain_process (child_of b p i links) ≡ begun b.format i (map plain_link links)
child_plain b p i links = λ k. record (begun b.format i (map plain_link links)) { links = slots_plain (slots_of b.format) links k }

-- it counts among those of its home
one_made : (made : List ℕ) (home m : ℕ) → home < length made → slice_index (slice_set made home (slice_index made home + 1)) m ≡ slice_index made m + (if home == m then 1 else 0)
one_made made home m h = grind (arith, common_steps, nat_tests)

-- the kernel once it stands
pub state_stood : (b : Boot) (k new : Kernel) (p : Pid) (x : Process) (i : BootImage) (links : List Link) → new ≡ record k { processes = new.processes; made = new.made }
    → ((q : Pid) → at new.processes q ≡ with_life (at k.processes) p (Alive x) q) → new.made ≡ slice_set k.made p.home (slice_index k.made p.home + 1) → p.home < length k.made → x ≡ child_of b p i links
    → one_kernel b new ≡ with_created (one_kernel b k) p i (map plain_link links)
state_stood b k new p x i links is e made h child =
    let plain : plain_process x ≡ begun b.format i (map plain_link links) = ap plain_process child ∙ child_plain b p i links in
    ap (one_kernel b) is
    ∙ (λ j. record (one_kernel b k) {
      processes = λ q. (lives_with (at k.processes) (at new.processes) p (Alive x) e q ∙ ap (λ y. if pid_eq p q then Some (one.Alive y) else (one_kernel b k).processes q) plain) j;
      made = λ m. (ap (λ (xs : List ℕ). slice_index xs m) made ∙ one_made k.made p.home m h) j;
    })

-- it is sound still
few_made : (made : List ℕ) (home n : ℕ) (m : ℕ) → home < length made → ((m : ℕ) → slice_index made m ≤ first_count + n) → slice_index made home < first_count + n
    → slice_index (slice_set made home (slice_index made home + 1)) m ≤ first_count + n
few_made made home n m h few less =
    rw (one_made made home m h) (by (home == m) refl)
  where
    by : (c : Bool) → (home == m) ≡ c → slice_index made m + (if c then 1 else 0) ≤ first_count + n
    by true is = let same : home ≡ m = grind (arith, nat_tests) in let l : slice_index made m < first_count + n = subst (λ k. slice_index made k < first_count + n) same less in omega (arith, l)
    by false is = let f = few m in omega (arith, f)

pub sound_stood : (n : ℕ) (k new : Kernel) (p : Pid) (x : Process) → new ≡ record k { processes = new.processes; made = new.made } → ((q : Pid) → at new.processes q ≡ with_life (at k.processes) p (Alive x) q)
    → new.made ≡ slice_set k.made p.home (slice_index k.made p.home + 1) → p.home < length k.made → slice_index k.made p.home < first_count + n → IsFit n p x → IsSound n k → IsSound n new
sound_stood n k new p x is e made home less fit h =
    subst (IsSound n) (sym is)
    (record {
      processes = fit_with n (at k.processes) (at new.processes) p x e fit h.processes;
      bag = h.bag;
      notes = h.notes;
      noted = h.noted;
      made = λ m. subst (λ (xs : List ℕ). slice_index xs m ≤ first_count + n) (sym made) (few_made k.made p.home n m home h.made less);
      board = h.board;
      board_sent = h.board_sent;
      manager = h.manager;
      manager_sent = h.manager_sent;
      children = h.children;
    })
