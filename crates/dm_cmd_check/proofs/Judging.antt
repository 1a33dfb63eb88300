-- What `explain` promises of a trace.
use Rattle.dm_cmd_check.proofs.Names.{◌≡◌, inl, inr, ℕ, List, refl, ap, sym, subst, ◌∙◌, Option, None, TheNoMemory, Boot, World, Input, Status, Done, Usage, ReadFault, NoMemory, WriteFault, BootRefused, ScheduleRefused, TooLong, Worn}
use Rattle.dm_cmd_check.proofs.Names.{TraceRefused, LabelsRefused, NotFound, Undecided, NoTrace, NoBoot, Wrote, all_read, unwritten, Both, TraceMeans, IsUntold, JudgeMeets, JudgeTells, NoneJudged, MeetsShelf, MeetsSink, Around}
use Rattle.dm_ending.specs.declared.status.Input.TheVariants as input

-- a status that is due blames no read and no write
pub due_unwritten : (m : TraceMeans) (files : Option (List ℕ → Option (List ℕ))) (boot trace text : List ℕ) (s : Status) → JudgeTells m files boot trace s text → s ≡ WriteFault → ⊥
due_unwritten m files boot trace text s h e = let k : JudgeTells m files boot trace WriteFault text = subst (λ (x : Status). JudgeTells m files boot trace x text) e h in k.tells

due_unread : (m : TraceMeans) (files : Option (List ℕ → Option (List ℕ))) (boot trace text : List ℕ) (s : Status) (i : Input) → JudgeTells m files boot trace s text → s ≡ ReadFault i → ⊥
due_unread m files boot trace text s i h e = let k : JudgeTells m files boot trace (ReadFault i) text = subst (λ (x : Status). JudgeTells m files boot trace x text) e h in k.tells

wrote_unread : (m : TraceMeans) (files : Option (List ℕ → Option (List ℕ))) (boot trace text : List ℕ) (before after : Option (List ℕ)) (k k' : ℕ) (due s : Status) → JudgeTells m files boot trace due text → Wrote due text before after k k' s → (i : Input) → s ≡ ReadFault i → ⊥
wrote_unread m files boot trace text before after k k' due s h w i e = elim w [
  | inl a ↦ due_unread m files boot trace text due i h (sym a.ends ∙ e)
  | inr b ↦ let f : WriteFault ≡ ReadFault i = sym b.ends ∙ e in cc
]

-- files were judged
pub judges_meet : {F K : Type 0} (m : TraceMeans) (boot trace : List ℕ) (a : Around F K) (due s : Status) (text : List ℕ) → JudgeTells m (a.shelf.told a.shelf.old) boot trace due text
    → Wrote due text (a.sink.told a.sink.old) (a.sink.told a.sink.new) (a.sink.faults a.sink.old) (a.sink.faults a.sink.new) s → MeetsShelf (Both boot input.Trace trace) a.shelf Done → MeetsSink a.sink s → JudgeMeets m boot trace a None s
judges_meet m boot trace a due s text tells wrote shelf sink = record {
  says = inl (record { due = due; text = text; tells = tells; wrote = wrote });
  no_world = refl;
  met = record {
    shelf = all_read (Both boot input.Trace trace) a.shelf s shelf (wrote_unread m (a.shelf.told a.shelf.old) boot trace text (a.sink.told a.sink.old) (a.sink.told a.sink.new) (a.sink.faults a.sink.old) (a.sink.faults a.sink.new) due s tells wrote);
    sink = sink;
  };
}

-- none were, and nothing was done
pub never_judges : {F K : Type 0} (m : TraceMeans) (boot trace : List ℕ) (a : Around F K) (world : Option World) (s : Status) → NoneJudged (a.shelf.told a.shelf.old) boot trace (a.shelf.faults a.shelf.old) (a.shelf.faults a.shelf.new) s → MeetsShelf (Both boot input.Trace trace) a.shelf s
    → a.sink.new ≡ a.sink.old → world ≡ None → JudgeMeets m boot trace a world s
never_judges m boot trace a world s why shelf same no_world = record {
  says = inr (record { why = why; nothing = ap a.sink.told same; no_world = no_world });
  no_world = no_world;
  met = record { shelf = shelf; sink = unwritten a.sink s same (λ e. subst (λ (x : Status). NoTrace (a.shelf.told a.shelf.old) boot trace (a.shelf.faults a.shelf.old) (a.shelf.faults a.shelf.new) x) e why.why) };
}

-- want of memory
pub lack_judged : (files : Option (List ℕ → Option (List ℕ))) (boot trace : List ℕ) (old new : ℕ) (lack : TheNoMemory) → NoneJudged files boot trace old new (NoMemory lack)
lack_judged files boot trace old new lack = record { why = tt; silent = tt }

-- a boot file that gives nothing, but for one that breaks a rule
pub no_boot_judged : (files : Option (List ℕ → Option (List ℕ))) (boot trace : List ℕ) (old new : ℕ) (s : Status) → IsUntold s → NoBoot files boot old new s → NoneJudged files boot trace old new s
no_boot_judged files boot trace old new (ReadFault input.Boot) silent h = record { why = h; silent = silent }
no_boot_judged files boot trace old new (ReadFault input.Schedule) silent h = absurd h
no_boot_judged files boot trace old new (ReadFault input.Trace) silent h = absurd h
no_boot_judged files boot trace old new (ReadFault input.Labels) silent h = absurd h
no_boot_judged files boot trace old new (NoMemory lack) silent h = record { why = tt; silent = silent }
no_boot_judged files boot trace old new (BootRefused number place) silent h = absurd silent
no_boot_judged files boot trace old new (TooLong input.Boot) silent h = record { why = h; silent = silent }
no_boot_judged files boot trace old new (TooLong input.Schedule) silent h = absurd h
no_boot_judged files boot trace old new (TooLong input.Trace) silent h = absurd h
no_boot_judged files boot trace old new (TooLong input.Labels) silent h = absurd h
no_boot_judged files boot trace old new Done silent h = absurd h
no_boot_judged files boot trace old new Usage silent h = absurd h
no_boot_judged files boot trace old new WriteFault silent h = absurd h
no_boot_judged files boot trace old new (ScheduleRefused line why) silent h = absurd h
no_boot_judged files boot trace old new (Worn from to) silent h = absurd h
no_boot_judged files boot trace old new (TraceRefused line why) silent h = absurd h
no_boot_judged files boot trace old new (LabelsRefused line) silent h = absurd h
no_boot_judged files boot trace old new NotFound silent h = absurd h
no_boot_judged files boot trace old new Undecided silent h = absurd h

-- no reason is that a word was refused
pub judge_taken : {F K : Type 0} (m : TraceMeans) (boot trace : List ℕ) (a : Around F K) (world : Option World) (s : Status) → JudgeMeets m boot trace a world s → s ≡ Usage → ⊥
judge_taken m boot trace a world s h e = elim h.says [
  | inl r ↦ elim r.wrote [
    | inl w ↦ let k : JudgeTells m (a.shelf.told a.shelf.old) boot trace Usage r.text = subst (λ (x : Status). JudgeTells m (a.shelf.told a.shelf.old) boot trace x r.text) (sym w.ends ∙ e) r.tells in k.tells
    | inr w ↦ let f : WriteFault ≡ Usage = sym w.ends ∙ e in cc
  ]
  | inr n ↦ subst (NoTrace (a.shelf.told a.shelf.old) boot trace (a.shelf.faults a.shelf.old) (a.shelf.faults a.shelf.new)) e n.why.why
]
