-- Files come to one thing: why there is nothing to check is a function of them, where no read fails and memory is there.
use Rattle.dm_cmd_check.proofs.Names.{◌≡◌, ◌⊎◌, inl, inr, ℕ, List, length, refl, ap, sym, subst, ◌∙◌, cond, Option, Some, None, nat_lt, Boot, RoseOrFull, Status, Done, Usage, ReadFault, NoMemory, WriteFault, BootRefused, ScheduleRefused}
use Rattle.dm_cmd_check.proofs.Names.{TooLong, Worn, TraceRefused, LabelsRefused, NotFound, Undecided, HasTrace, NoTrace, most_trace, IsLonger, AfterBoot, IsWant, Files, boot_part, above, not_above, long_boot, refused_boot, said_boot}
use Rattle.dm_cmd_check.proofs.Names.{want_or_not}
use Rattle.dm_ending.specs.declared.status.Input.TheVariants as input

-- what the bytes of a trace come to, unless it is checked
abbrev trace_part : Option (List ℕ) → Status
trace_part None = Usage
trace_part (Some bytes) = cond (nat_lt most_trace (length bytes)) (TooLong input.Trace) Done

abbrev outcome : Files → List ℕ → List ℕ → Status
outcome files boot trace = boot_part (files boot) (λ b. trace_part (files trace))

long_trace : (files : Files) (boot trace : List ℕ) → AfterBoot (Some files) boot (λ machines. IsLonger (Some files) trace most_trace) → outcome files boot trace ≡ TooLong input.Trace
long_trace files boot trace h =
    said_boot files boot h.b (λ b. trace_part (files trace)) h.says
    ∙ ap trace_part h.holds.1
    ∙ ap (λ t. cond t (TooLong input.Trace) Done) (above most_trace (length h.holds.0) h.holds.2)

had_trace : (files : Files) (boot trace : List ℕ) (b : Boot) (bytes : List ℕ) → HasTrace (Some files) boot trace b bytes → outcome files boot trace ≡ Done
had_trace files boot trace b bytes h =
    said_boot files boot b (λ b. trace_part (files trace)) h.says_boot
    ∙ ap trace_part h.file.is
    ∙ ap (λ t. cond t (TooLong input.Trace) Done) (not_above most_trace (length bytes) h.file.within)

-- why there is nothing to check is what the files come to
no_trace : (files : Files) (boot trace : List ℕ) (old new : ℕ) (s : Status) → (RoseOrFull old new → ⊥) → (IsWant s → ⊥) → NoTrace (Some files) boot trace old new s → outcome files boot trace ≡ s
no_trace files boot trace old new Done quiet some h = absurd h
no_trace files boot trace old new Usage quiet some h = absurd h
no_trace files boot trace old new (ReadFault input.Boot) quiet some h = absurd (quiet h)
no_trace files boot trace old new (ReadFault input.Schedule) quiet some h = absurd h
no_trace files boot trace old new (ReadFault input.Trace) quiet some h = absurd (quiet h.holds)
no_trace files boot trace old new (ReadFault input.Labels) quiet some h = absurd h
no_trace files boot trace old new (NoMemory lack) quiet some h = absurd (some (lack, refl))
no_trace files boot trace old new WriteFault quiet some h = absurd h
no_trace files boot trace old new (BootRefused number place) quiet some h = refused_boot files boot number place _ h
no_trace files boot trace old new (ScheduleRefused line why) quiet some h = absurd h
no_trace files boot trace old new (TooLong input.Boot) quiet some h = long_boot files boot _ h
no_trace files boot trace old new (TooLong input.Schedule) quiet some h = absurd h
no_trace files boot trace old new (TooLong input.Trace) quiet some h = long_trace files boot trace h
no_trace files boot trace old new (TooLong input.Labels) quiet some h = absurd h
no_trace files boot trace old new (Worn from to) quiet some h = absurd h
no_trace files boot trace old new (TraceRefused line why) quiet some h = absurd h
no_trace files boot trace old new (LabelsRefused line) quiet some h = absurd h
no_trace files boot trace old new NotFound quiet some h = absurd h
no_trace files boot trace old new Undecided quiet some h = absurd h

-- a trace that is there leaves no other reason than want of memory
pub only_want : (boot trace : List ℕ) (told : Option Files) (files : Files) (old new : ℕ) (b : Boot) (bytes : List ℕ) (t : Status) → told ≡ Some files → NoTrace told boot trace old new t → HasTrace (Some files) boot trace b bytes → (RoseOrFull old new → ⊥) → IsWant t
only_want boot trace told files old new b bytes t is h has quiet = elim (want_or_not t) [
  | inl want ↦ want
  | inr other ↦
      let k : NoTrace (Some files) boot trace old new t = subst (λ f. NoTrace f boot trace old new t) is h in
      let e : t ≡ Done = sym (no_trace files boot trace old new t quiet other k) ∙ had_trace files boot trace b bytes has in
      absurd (subst (NoTrace (Some files) boot trace old new) e k)
]

-- two reasons are one
pub one_reason : (boot trace : List ℕ) (told : Option Files) (files : Files) (old new : ℕ) (s t : Status) → told ≡ Some files → NoTrace told boot trace old new t → NoTrace (Some files) boot trace old new s → (IsWant s → ⊥) → (RoseOrFull old new → ⊥) → (t ≡ s) ⊎ IsWant t
one_reason boot trace told files old new s t is h g some quiet = elim (want_or_not t) [
  | inl want ↦ inr want
  | inr other ↦ inl (sym (no_trace files boot trace old new t quiet other (subst (λ f. NoTrace f boot trace old new t) is h)) ∙ no_trace files boot trace old new s quiet some g)
]
