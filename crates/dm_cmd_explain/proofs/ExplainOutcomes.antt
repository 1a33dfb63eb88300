-- What is said of files, and how the program ends that has said it.
use Rattle.dm_cmd_explain.proofs.Names.{◌≡◌, ◌⊎◌, inl, inr, ℕ, List, refl, ap, sym, subst, ◌∙◌, Option, Some, None, TheNoMemory, Boot, RoseOrFull, Status, Done, Usage, ReadFault, NoMemory, WriteFault, BootRefused, ScheduleRefused, TooLong}
use Rattle.dm_cmd_explain.proofs.Names.{Worn, TraceRefused, LabelsRefused, NotFound, Undecided, BeforeRun, NoInputs, TellsFiles, Wrote, NoBoot, NoFiles, BlamesSink, IsWant, Input, World, all_read, unwritten, perhaps_both, ExplainMeets}
use Rattle.dm_cmd_explain.proofs.Names.{MeetsShelf, MeetsSink, Around, Files, boot_part, no_files, outcome, said_boot, said_files, want_or_not, no_boot, says_boot, BootRule, rule_number, BootTold, Vec, Global, TellsRead}
use Rattle.dm_ending.specs.declared.status.Input.TheVariants as input
use Rattle.dm_explain.specs.declared.explain.BootTold.TheVariants as told_as

-- memory may lack
pub wants_memory : (files : Option Files) (boot : List ℕ) (schedule : Option (List ℕ)) (old new : ℕ) (lack : TheNoMemory) → NoInputs files boot schedule old new (NoMemory lack)
wants_memory files boot None old new lack = tt
wants_memory files boot (Some schedule) old new lack = tt

-- a status that is due blames no write
pub due_unwritten : (files : Option Files) (boot : List ℕ) (schedule : Option (List ℕ)) (text : List ℕ) (s : Status) → TellsFiles files boot schedule s text → s ≡ WriteFault → ⊥
due_unwritten files boot schedule text s h e = subst (λ (x : Status). TellsFiles files boot schedule x text) e h

-- and the program that has said it blames no read
pub wrote_unread : (files : Option Files) (boot : List ℕ) (schedule : Option (List ℕ)) (text : List ℕ) (before after : Option (List ℕ)) (k k' : ℕ) (due s : Status) → TellsFiles files boot schedule due text → Wrote due text before after k k' s → (i : Input) → s ≡ ReadFault i → ⊥
wrote_unread files boot schedule text before after k k' due s h w i e = elim w [
  | inl a ↦ subst (λ (x : Status). TellsFiles files boot schedule x text) (sym a.ends ∙ e) h
  | inr b ↦ let f : WriteFault ≡ ReadFault i = sym b.ends ∙ e in cc
]

-- what is due is how a run ends before it runs
before_run : (files : Option Files) (boot : List ℕ) (schedule : Option (List ℕ)) (text : List ℕ) (old new : ℕ) (s : Status) → TellsFiles files boot schedule s text → BeforeRun files boot schedule old new s
before_run files boot None text old new Done h = inl (refl, record { system = h.system; says = says_boot files boot h.system text h.told })
before_run files boot (Some schedule) text old new Done h = inl (
  refl,
  record {
    system = h.system;
    directives = h.schedule_told.tells.directives;
    says = record {
      says_boot = says_boot files boot h.system h.first h.boot_told;
      says_directives = record { bytes = h.schedule_told.bytes; file = h.schedule_told.file; says = h.schedule_told.tells.says };
    };
  },
)
before_run files boot None text old new (BootRefused number place) h = inr (record { bytes = h.bytes; file = h.file; rule = h.rule; refused = h.told.refused; number_is = h.number_is })
before_run files boot (Some schedule) text old new (BootRefused number place) h = inr (record { bytes = h.bytes; file = h.file; rule = h.rule; refused = h.told.refused; number_is = h.number_is })
before_run files boot None text old new (ScheduleRefused line why) h = absurd h
before_run files boot (Some schedule) text old new (ScheduleRefused line why) h = inr (record {
  b = h.system;
  says = says_boot files boot h.system h.first h.boot_told;
  holds = record { bytes = h.schedule_told.bytes; file = h.schedule_told.file; fault = h.schedule_told.tells.fault; refused = h.schedule_told.tells.refused; why_is = h.schedule_told.tells.why_is };
})
before_run files boot schedule text old new Usage h = absurd h
before_run files boot schedule text old new (ReadFault i) h = absurd h
before_run files boot schedule text old new (NoMemory lack) h = absurd h
before_run files boot schedule text old new WriteFault h = absurd h
before_run files boot schedule text old new (TooLong i) h = absurd h
before_run files boot schedule text old new (Worn from to) h = absurd h
before_run files boot schedule text old new (TraceRefused line why) h = absurd h
before_run files boot schedule text old new (LabelsRefused line) h = absurd h
before_run files boot schedule text old new NotFound h = absurd h
before_run files boot schedule text old new Undecided h = absurd h

pub as_run : (files : Option Files) (boot : List ℕ) (schedule : Option (List ℕ)) (text : List ℕ) (before after : Option (List ℕ)) (old new k k' : ℕ) (due s : Status) → TellsFiles files boot schedule due text → Wrote due text before after k k' s → (s ≡ WriteFault) ⊎ BeforeRun files boot schedule old new s
as_run files boot schedule text before after old new k k' due s h w = elim w [
  | inl a ↦ inr (subst (λ (x : Status). BeforeRun files boot schedule old new x) (sym a.ends) (before_run files boot schedule text old new due h))
  | inr b ↦ inl b.ends
]

-- how a run of these files ends before it runs
abbrev end_of : Files → List ℕ → Option (List ℕ) → Status
end_of files boot None = boot_part (files boot) (λ b. Done)
end_of files boot (Some schedule) = outcome files boot schedule

is_end : (files : Files) (boot : List ℕ) (schedule : Option (List ℕ)) (old new : ℕ) (s : Status) → (RoseOrFull old new → ⊥) → (IsWant s → ⊥) → BeforeRun (Some files) boot schedule old new s → end_of files boot schedule ≡ s
is_end files boot None old new s quiet some h = elim h [
  | inl said ↦ said_boot files boot said.1.system (λ b. Done) said.1.says ∙ sym said.0
  | inr why ↦ no_boot files boot old new s quiet some why
]
is_end files boot (Some schedule) old new s quiet some h = elim h [
  | inl said ↦ said_files files boot schedule said.1.system said.1.directives said.1.says ∙ sym said.0
  | inr why ↦ no_files files boot schedule old new s quiet some why
]

-- so there is one end, unless it is want of memory or the sink failed
pub one_end : (told : Option Files) (files : Files) (boot : List ℕ) (schedule : Option (List ℕ)) (old new k k' : ℕ) (due s : Status) → told ≡ Some files → (s ≡ WriteFault) ⊎ BeforeRun told boot schedule old new s → BlamesSink k k' s
    → BeforeRun (Some files) boot schedule old new due → (IsWant due → ⊥) → (RoseOrFull old new → ⊥) → (RoseOrFull k k' → ⊥) → (s ≡ due) ⊎ IsWant s
one_end told files boot schedule old new k k' due s is runs sink want some quiet steady = elim (want_or_not s) [
  | inl lack ↦ inr lack
  | inr other ↦ elim runs [
    | inl e ↦ absurd (steady (subst (λ (x : Status). BlamesSink k k' x) e sink))
    | inr b ↦
        inl (sym (is_end files boot schedule old new s quiet other (subst (λ (f : Option Files). BeforeRun f boot schedule old new s) is b)) ∙ is_end files boot schedule old new due quiet some want)
  ]
]

-- no reason blames a write
pub inputs_unwritten : (files : Option Files) (boot : List ℕ) (schedule : Option (List ℕ)) (old new : ℕ) (s : Status) → NoInputs files boot schedule old new s → s ≡ WriteFault → ⊥
inputs_unwritten files boot None old new s h e = subst (NoBoot files boot old new) e h
inputs_unwritten files boot (Some schedule) old new s h e = subst (NoFiles files boot schedule old new) e h

-- what is said of a boot file that breaks a rule, and of one that breaks none
pub refused_told : (files : Option Files) (boot : List ℕ) (schedule : Option (List ℕ)) (rule : BootRule) (number place : ℕ) (text : Vec ℕ Global) (told : BootTold) → told ≡ told_as.Refused rule place text → number ≡ rule_number rule → TellsRead files boot told → TellsFiles files boot schedule (BootRefused number place) text.items
refused_told files boot schedule rule number place text told is e h =
    let k : TellsRead files boot (told_as.Refused rule place text) = subst (TellsRead files boot) is h in
    record { bytes = k.bytes; file = k.file; rule = rule; told = k.explains; number_is = e }

-- where there is no system nothing is said
pub no_system : (files : Option Files) (boot : List ℕ) (schedule : Option (List ℕ)) (old new : ℕ) (s : Status) → NoBoot files boot old new s → NoInputs files boot schedule old new s
no_system files boot None old new s h = h
no_system files boot (Some schedule) old new Done h = absurd h
no_system files boot (Some schedule) old new Usage h = absurd h
no_system files boot (Some schedule) old new (ReadFault input.Boot) h = h
no_system files boot (Some schedule) old new (ReadFault input.Schedule) h = absurd h
no_system files boot (Some schedule) old new (ReadFault input.Trace) h = absurd h
no_system files boot (Some schedule) old new (ReadFault input.Labels) h = absurd h
no_system files boot (Some schedule) old new (NoMemory lack) h = tt
no_system files boot (Some schedule) old new WriteFault h = absurd h
no_system files boot (Some schedule) old new (BootRefused number place) h = h
no_system files boot (Some schedule) old new (ScheduleRefused line why) h = absurd h
no_system files boot (Some schedule) old new (TooLong input.Boot) h = h
no_system files boot (Some schedule) old new (TooLong input.Schedule) h = absurd h
no_system files boot (Some schedule) old new (TooLong input.Trace) h = absurd h
no_system files boot (Some schedule) old new (TooLong input.Labels) h = absurd h
no_system files boot (Some schedule) old new (Worn from to) h = absurd h
no_system files boot (Some schedule) old new (TraceRefused line why) h = absurd h
no_system files boot (Some schedule) old new (LabelsRefused line) h = absurd h
no_system files boot (Some schedule) old new NotFound h = absurd h
no_system files boot (Some schedule) old new Undecided h = absurd h

-- files were explained
pub explains_meet : {F K : Type 0} (boot : List ℕ) (schedule : Option (List ℕ)) (a : Around F K) (due s : Status) (text : List ℕ) → TellsFiles (a.shelf.told a.shelf.old) boot schedule due text
    → Wrote due text (a.sink.told a.sink.old) (a.sink.told a.sink.new) (a.sink.faults a.sink.old) (a.sink.faults a.sink.new) s → MeetsShelf (perhaps_both boot schedule) a.shelf Done → MeetsSink a.sink s → ExplainMeets boot schedule a None s
explains_meet boot schedule a due s text tells wrote shelf sink =
    let files = a.shelf.told a.shelf.old in
    let old = a.shelf.faults a.shelf.old in
    let new = a.shelf.faults a.shelf.new in
    let runs = as_run files boot schedule text (a.sink.told a.sink.old) (a.sink.told a.sink.new) old new (a.sink.faults a.sink.old) (a.sink.faults a.sink.new) due s tells wrote in
    record {
      says = inl (record { due = due; text = text; tells = tells; wrote = wrote });
      as_run = runs;
      decides = λ there end told before some never. one_end files there boot schedule old new (a.sink.faults a.sink.old) (a.sink.faults a.sink.new) end s told runs sink.blames before some never.reads never.writes;
      no_world = refl;
      met = record {
        shelf = all_read (perhaps_both boot schedule) a.shelf s shelf (wrote_unread files boot schedule text (a.sink.told a.sink.old) (a.sink.told a.sink.new) (a.sink.faults a.sink.old) (a.sink.faults a.sink.new) due s tells wrote);
        sink = sink;
      };
    }

-- none were, and nothing was done
pub never_meets : {F K : Type 0} (boot : List ℕ) (schedule : Option (List ℕ)) (a : Around F K) (world : Option World) (s : Status) → NoInputs (a.shelf.told a.shelf.old) boot schedule (a.shelf.faults a.shelf.old) (a.shelf.faults a.shelf.new) s → MeetsShelf (perhaps_both boot schedule) a.shelf s
    → a.sink.new ≡ a.sink.old → world ≡ None → ExplainMeets boot schedule a world s
never_meets boot schedule a world s why shelf same no_world =
    let files = a.shelf.told a.shelf.old in
    let old = a.shelf.faults a.shelf.old in
    let new = a.shelf.faults a.shelf.new in
    let sink : MeetsSink a.sink s = unwritten a.sink s same (inputs_unwritten files boot schedule old new s why) in
    record {
      says = inr (record { why = why; nothing = ap a.sink.told same; no_world = no_world });
      as_run = inr (inr why);
      decides = λ there end told before some never. one_end files there boot schedule old new (a.sink.faults a.sink.old) (a.sink.faults a.sink.new) end s told (inr (inr why)) sink.blames before some never.reads never.writes;
      no_world = no_world;
      met = record { shelf = shelf; sink = sink };
    }
