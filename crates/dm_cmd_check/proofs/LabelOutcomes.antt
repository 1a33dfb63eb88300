-- What `check` promises of labels: why there is nothing to judge is a function of the files, where no read fails and memory is there.
use Rattle.dm_cmd_check.proofs.Names.{◌≡◌, ◌⊎◌, inl, inr, ℕ, List, length, refl, ap, sym, subst, ◌∙◌, cond, Option, Some, None, nat_lt, Boot, IsValid, World, RoseOrFull, Status, Done, Usage, ReadFault, NoMemory, WriteFault, BootRefused}
use Rattle.dm_cmd_check.proofs.Names.{ScheduleRefused, TooLong, Worn, TraceRefused, LabelsRefused, NotFound, Undecided, IsLonger, AfterBoot, IsWant, all_read, unwritten, Files, boot_part, above, not_above, long_boot, refused_boot}
use Rattle.dm_cmd_check.proofs.Names.{said_boot, want_or_not, Both, HasLabels, LabelsMeet, LabelsSay, NoLabels, most_labels, MeetsShelf, MeetsSink, Around}
use Rattle.dm_ending.specs.declared.status.Input.TheVariants as input

-- what the bytes of labels come to, unless they are judged
abbrev labels_part : Option (List ℕ) → Status
labels_part None = Usage
labels_part (Some bytes) = cond (nat_lt most_labels (length bytes)) (TooLong input.Labels) Done

abbrev outcome : Files → List ℕ → List ℕ → Status
outcome files boot labels = boot_part (files boot) (λ b. labels_part (files labels))

long_labels : (files : Files) (boot labels : List ℕ) → AfterBoot (Some files) boot (λ machines. IsLonger (Some files) labels most_labels) → outcome files boot labels ≡ TooLong input.Labels
long_labels files boot labels h =
    said_boot files boot h.b (λ b. labels_part (files labels)) h.says
    ∙ ap labels_part h.holds.1
    ∙ ap (λ t. cond t (TooLong input.Labels) Done) (above most_labels (length h.holds.0) h.holds.2)

had_labels : (files : Files) (boot labels : List ℕ) (b : Boot) (bytes : List ℕ) → HasLabels (Some files) boot labels b bytes → outcome files boot labels ≡ Done
had_labels files boot labels b bytes h =
    said_boot files boot b (λ b. labels_part (files labels)) h.says_boot
    ∙ ap labels_part h.file.is
    ∙ ap (λ t. cond t (TooLong input.Labels) Done) (not_above most_labels (length bytes) h.file.within)

-- why there is nothing to judge is what the files come to
no_labels : (files : Files) (boot labels : List ℕ) (old new : ℕ) (s : Status) → (RoseOrFull old new → ⊥) → (IsWant s → ⊥) → NoLabels (Some files) boot labels old new s → outcome files boot labels ≡ s
no_labels files boot labels old new Done quiet some h = absurd h
no_labels files boot labels old new Usage quiet some h = absurd h
no_labels files boot labels old new (ReadFault input.Boot) quiet some h = absurd (quiet h)
no_labels files boot labels old new (ReadFault input.Schedule) quiet some h = absurd h
no_labels files boot labels old new (ReadFault input.Trace) quiet some h = absurd h
no_labels files boot labels old new (ReadFault input.Labels) quiet some h = absurd (quiet h.holds)
no_labels files boot labels old new (NoMemory lack) quiet some h = absurd (some (lack, refl))
no_labels files boot labels old new WriteFault quiet some h = absurd h
no_labels files boot labels old new (BootRefused number place) quiet some h = refused_boot files boot number place _ h
no_labels files boot labels old new (ScheduleRefused line why) quiet some h = absurd h
no_labels files boot labels old new (TooLong input.Boot) quiet some h = long_boot files boot _ h
no_labels files boot labels old new (TooLong input.Schedule) quiet some h = absurd h
no_labels files boot labels old new (TooLong input.Trace) quiet some h = absurd h
no_labels files boot labels old new (TooLong input.Labels) quiet some h = long_labels files boot labels h
no_labels files boot labels old new (Worn from to) quiet some h = absurd h
no_labels files boot labels old new (TraceRefused line why) quiet some h = absurd h
no_labels files boot labels old new (LabelsRefused line) quiet some h = absurd h
no_labels files boot labels old new NotFound quiet some h = absurd h
no_labels files boot labels old new Undecided quiet some h = absurd h

-- labels that are there leave no other reason than want of memory
pub only_want : (boot labels : List ℕ) (told : Option Files) (files : Files) (old new : ℕ) (b : Boot) (bytes : List ℕ) (t : Status) → told ≡ Some files → NoLabels told boot labels old new t → HasLabels (Some files) boot labels b bytes → (RoseOrFull old new → ⊥) → IsWant t
only_want boot labels told files old new b bytes t is h has quiet = elim (want_or_not t) [
  | inl want ↦ want
  | inr other ↦
      let k : NoLabels (Some files) boot labels old new t = subst (λ f. NoLabels f boot labels old new t) is h in
      let e : t ≡ Done = sym (no_labels files boot labels old new t quiet other k) ∙ had_labels files boot labels b bytes has in
      absurd (subst (NoLabels (Some files) boot labels old new) e k)
]

-- two reasons are one
one_reason : (boot labels : List ℕ) (told : Option Files) (files : Files) (old new : ℕ) (s t : Status) → told ≡ Some files → NoLabels told boot labels old new t → NoLabels (Some files) boot labels old new s → (IsWant s → ⊥) → (RoseOrFull old new → ⊥) → (t ≡ s) ⊎ IsWant t
one_reason boot labels told files old new s t is h g some quiet = elim (want_or_not t) [
  | inl want ↦ inr want
  | inr other ↦ inl (sym (no_labels files boot labels old new t quiet other (subst (λ f. NoLabels f boot labels old new t) is h)) ∙ no_labels files boot labels old new s quiet some g)
]

-- there are labels, and something was said of them that reads nothing
pub labels_meet : {F K : Type 0} (boot labels : List ℕ) (a : Around F K) (s : Status) (b : Boot) (bytes : List ℕ) → HasLabels (a.shelf.told a.shelf.old) boot labels b bytes → IsValid b → MeetsShelf (Both boot input.Labels labels) a.shelf Done
    → LabelsSay b bytes (a.sink.told a.sink.old) (a.sink.told a.sink.new) s → MeetsSink a.sink s → LabelsMeet boot labels a None s
labels_meet boot labels a s b bytes has valid shelf says sink = record {
  says = inl (record { system = b; bytes = bytes; has = has; valid = valid; says = says });
  refuses = λ files due told why some quiet. absurd (some (only_want boot labels (Some files) files _ _ b bytes due refl why (subst (λ f. HasLabels f boot labels b bytes) told has) quiet));
  no_world = refl;
  met = record {
    shelf = all_read (Both boot input.Labels labels) a.shelf s shelf (λ i e. subst (λ (x : Status). LabelsSay b bytes (a.sink.told a.sink.old) (a.sink.told a.sink.new) x) e says);
    sink = sink;
  };
}

-- there are none, and nothing was done
pub labels_never : {F K : Type 0} (boot labels : List ℕ) (a : Around F K) (world : Option World) (s : Status) → NoLabels (a.shelf.told a.shelf.old) boot labels (a.shelf.faults a.shelf.old) (a.shelf.faults a.shelf.new) s → MeetsShelf (Both boot input.Labels labels) a.shelf s → a.sink.new ≡ a.sink.old
    → world ≡ None → LabelsMeet boot labels a world s
labels_never boot labels a world s why shelf same no_world = record {
  says = inr (record { why = why; nothing = ap a.sink.told same; no_world = no_world });
  refuses = λ files due told other some quiet. one_reason boot labels (a.shelf.told a.shelf.old) files _ _ due s told why other some quiet;
  no_world = no_world;
  met = record { shelf = shelf; sink = unwritten a.sink s same (λ e. subst (λ (x : Status). NoLabels (a.shelf.told a.shelf.old) boot labels (a.shelf.faults a.shelf.old) (a.shelf.faults a.shelf.new) x) e why) };
}

-- the words were not refused
pub labels_taken : {F K : Type 0} (boot labels : List ℕ) (a : Around F K) (world : Option World) (s : Status) → LabelsMeet boot labels a world s → s ≡ Usage → ⊥
labels_taken boot labels a world s h e = elim h.says [
  | inl r ↦ subst (LabelsSay r.system r.bytes (a.sink.told a.sink.old) (a.sink.told a.sink.new)) e r.says
  | inr n ↦ subst (NoLabels (a.shelf.told a.shelf.old) boot labels (a.shelf.faults a.shelf.old) (a.shelf.faults a.shelf.new)) e n.why
]
