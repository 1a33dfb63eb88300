-- A boot file says one thing: why there is no system is a function of it, where no read fails and memory is there.
use Rattle.dm_front.proofs.Names.{◌≡◌, ◌⊎◌, inl, inr, ℕ, List, refl, sym, subst, ◌∙◌, Option, Some, Boot, RoseOrFull, Status, Done, Usage, ReadFault, NoMemory, WriteFault, BootRefused, ScheduleRefused, TooLong, Worn, TraceRefused}
use Rattle.dm_front.proofs.Names.{LabelsRefused, NotFound, Undecided, NoBoot, SaysBoot, IsWant}
use Rattle.dm_ending.specs.declared.status.Input.TheVariants as input
use Rattle.dm_front.proofs.Outcomes.{Files, boot_part, long_boot, refused_boot, said_boot, want_or_not}

-- why there is no system is a function of the boot file, where no read fails and memory is there
pub no_boot : (files : Files) (boot : List ℕ) (old new : ℕ) (s : Status) → (RoseOrFull old new → ⊥) → (IsWant s → ⊥) → NoBoot (Some files) boot old new s → boot_part (files boot) (λ b. Done) ≡ s
no_boot files boot old new Done quiet some h = absurd h
no_boot files boot old new Usage quiet some h = absurd h
no_boot files boot old new (ReadFault input.Boot) quiet some h = absurd (quiet h)
no_boot files boot old new (ReadFault input.Schedule) quiet some h = absurd h
no_boot files boot old new (ReadFault input.Trace) quiet some h = absurd h
no_boot files boot old new (ReadFault input.Labels) quiet some h = absurd h
no_boot files boot old new (NoMemory lack) quiet some h = absurd (some (lack, refl))
no_boot files boot old new WriteFault quiet some h = absurd h
no_boot files boot old new (BootRefused number place) quiet some h = refused_boot files boot number place _ h
no_boot files boot old new (ScheduleRefused line why) quiet some h = absurd h
no_boot files boot old new (TooLong input.Boot) quiet some h = long_boot files boot _ h
no_boot files boot old new (TooLong input.Schedule) quiet some h = absurd h
no_boot files boot old new (TooLong input.Trace) quiet some h = absurd h
no_boot files boot old new (TooLong input.Labels) quiet some h = absurd h
no_boot files boot old new (Worn from to) quiet some h = absurd h
no_boot files boot old new (TraceRefused line why) quiet some h = absurd h
no_boot files boot old new (LabelsRefused line) quiet some h = absurd h
no_boot files boot old new NotFound quiet some h = absurd h
no_boot files boot old new Undecided quiet some h = absurd h

-- where the file gives a system, only want of memory comes before the drill
pub only_lack : (boot : List ℕ) (told : Option Files) (files : Files) (old new : ℕ) (b : Boot) (t : Status) → told ≡ Some files → NoBoot told boot old new t → SaysBoot (Some files) boot b → (RoseOrFull old new → ⊥) → IsWant t
only_lack boot told files old new b t is h says quiet = elim (want_or_not t) [
  | inl want ↦ want
  | inr other ↦
      let k : NoBoot (Some files) boot old new t = subst (λ f. NoBoot f boot old new t) is h in
      absurd (subst (NoBoot (Some files) boot old new) (sym (no_boot files boot old new t quiet other k) ∙ said_boot files boot b (λ x. Done) says) k)
]

-- two reasons why there is no system are one, unless one of them is want of memory
pub one_lack : (boot : List ℕ) (told : Option Files) (files : Files) (old new : ℕ) (s t : Status) → told ≡ Some files → NoBoot told boot old new t → NoBoot (Some files) boot old new s → (IsWant s → ⊥) → (RoseOrFull old new → ⊥) → (t ≡ s) ⊎ IsWant t
one_lack boot told files old new s t is h g some quiet = elim (want_or_not t) [
  | inl want ↦ inr want
  | inr other ↦ inl (sym (no_boot files boot old new t quiet other (subst (λ f. NoBoot f boot old new t) is h)) ∙ no_boot files boot old new s quiet some g)
]
