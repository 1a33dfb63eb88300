-- What the commands promise that run a schedule.
use Rattle.dm_front.proofs.Names.{◌≡◌, ◌≤◌, inl, inr, ℕ, List, refl, ap, subst, length, Option, Some, None, Result, Ok, Err, Boot, IsValid, Directive, World, All, IsFor, Stop, Blames, StopsThere, Input, Status, Done, ReadFault, WriteFault}
use Rattle.dm_front.proofs.Names.{AcceptsFiles, NoFiles, ended_with, Both, MeetsShelf, MeetsSink, Around, SinkAround, RunMeets, RunSaying, TheNoMemory, NoMemory, Usage, Untouched}
use Rattle.dm_ending.specs.declared.stop.Stop.TheVariants as stop
use Rattle.dm_ending.specs.declared.status.Input.TheVariants as input
use Rattle.dm_front.proofs.Meeting.{all_read, unwritten}
use Rattle.dm_front.proofs.Outcomes.{one_reason, only_want}
use Rattle.dm_front.proofs.Meeting.{lack_unread}

-- a run that ended, or stopped, blames the sink as it should
pub ended_sink : {A K : Type 0} (k : SinkAround K) (r : Result A Stop) → Blames (k.faults k.old) (k.faults k.new) r → StopsThere (k.last_failed k.new) r → k.faults k.old ≤ k.faults k.new → MeetsSink k (ended_with r)
ended_sink k (Ok x) h l n = record { blames = h; last = λ e. absurd cc; counts = n }
ended_sink k (Err (stop.NoMemory lack)) h l n = record { blames = h; last = λ e. absurd cc; counts = n }
ended_sink k (Err stop.WriteFault) h l n = record { blames = h; last = λ e. l; counts = n }
ended_sink k (Err (stop.Worn from to)) h l n = record { blames = h; last = λ e. absurd cc; counts = n }

-- the files say a system and directives, and something was done with them that reads nothing
pub runs_meet : {F K : Type 0} (Says : RunSaying) (boot schedule : List ℕ) (a : Around F K) (world : Option World) (s : Status) (b : Boot) (ds : List Directive) → AcceptsFiles (a.shelf.told a.shelf.old) boot schedule b ds → IsValid b → All (IsFor (length b.machines)) ds
    → MeetsShelf (Both boot input.Schedule schedule) a.shelf Done → Says b ds (a.sink.told a.sink.old) (a.sink.told a.sink.new) world s → ((i : Input) → Says b ds (a.sink.told a.sink.old) (a.sink.told a.sink.new) world (ReadFault i) → ⊥) → MeetsSink a.sink s → RunMeets Says boot schedule a world s
runs_meet Says boot schedule a world s b ds accepts valid each shelf says never sink = record {
  says = inl (record { system = b; directives = ds; accepts = accepts; valid = valid; within = each; says = says });
  refuses = λ files due told why some quiet.
      absurd (some (only_want boot schedule (Some files) files _ _ b ds due refl why (subst (λ f. AcceptsFiles f boot schedule b ds) told accepts) quiet));
  met = record {
    shelf = all_read (Both boot input.Schedule schedule) a.shelf s shelf (λ i e. never i (subst (λ (x : Status). Says b ds (a.sink.told a.sink.old) (a.sink.told a.sink.new) world x) e says));
    sink = sink;
  };
}

-- they don't, and nothing was done
pub never_meets : {F K : Type 0} (Says : RunSaying) (boot schedule : List ℕ) (a : Around F K) (world : Option World) (s : Status) → NoFiles (a.shelf.told a.shelf.old) boot schedule (a.shelf.faults a.shelf.old) (a.shelf.faults a.shelf.new) s
    → MeetsShelf (Both boot input.Schedule schedule) a.shelf s → a.sink.new ≡ a.sink.old → world ≡ None → RunMeets Says boot schedule a world s
never_meets Says boot schedule a world s why shelf same no_world = record {
  says = inr (record { why = why; nothing = ap a.sink.told same; no_world = no_world });
  refuses = λ files due told other some quiet. one_reason boot schedule (a.shelf.told a.shelf.old) files _ _ due s told why other some quiet;
  met = record { shelf = shelf; sink = unwritten a.sink s same (λ e. subst (λ (x : Status). NoFiles (a.shelf.told a.shelf.old) boot schedule (a.shelf.faults a.shelf.old) (a.shelf.faults a.shelf.new) x) e why) };
}

-- nor was it for want of memory
pub runs_lack : {F K : Type 0} (Says : RunSaying) (boot schedule : List ℕ) (a : Around F K) (world : Option World) (lack : TheNoMemory) → Untouched a world → ((name : List ℕ) → a.shelf.asked a.shelf.old name a.shelf.old) → RunMeets Says boot schedule a world (NoMemory lack)
runs_lack Says boot schedule a world lack h nothing = never_meets Says boot schedule a world (NoMemory lack) tt (lack_unread (Both boot input.Schedule schedule) a world lack h nothing) h.unwritten h.no_world

-- what is promised in some terms is in others
pub run_met : {F K : Type 0} (Says More : RunSaying) (boot schedule : List ℕ) (a : Around F K) (world : Option World) (s : Status)
    → ((b : Boot) (ds : List Directive) (before after : Option (List ℕ)) → IsValid b → All (IsFor (length b.machines)) ds → Says b ds before after world s → More b ds before after world s) → RunMeets Says boot schedule a world s → RunMeets More boot schedule a world s
run_met Says More boot schedule a world s more h = record {
  says = elim h.says [
    | inl r ↦ inl (record { system = r.system; directives = r.directives; accepts = r.accepts; valid = r.valid; within = r.within; says = more r.system r.directives _ _ r.valid r.within r.says })
    | inr n ↦ inr n
  ];
  refuses = h.refuses;
  met = h.met;
}

-- words that were taken are not refused as words
pub run_taken : {F K : Type 0} (Says : RunSaying) (boot schedule : List ℕ) (a : Around F K) (world : Option World) (s : Status) → ((b : Boot) (ds : List Directive) (before after : Option (List ℕ)) (w : Option World) → Says b ds before after w Usage → ⊥) → RunMeets Says boot schedule a world s → s ≡ Usage → ⊥
run_taken Says boot schedule a world s never h e = elim h.says [
  | inl r ↦ never r.system r.directives (a.sink.told a.sink.old) (a.sink.told a.sink.new) world (subst (Says r.system r.directives (a.sink.told a.sink.old) (a.sink.told a.sink.new) world) e r.says)
  | inr n ↦ subst (NoFiles (a.shelf.told a.shelf.old) boot schedule (a.shelf.faults a.shelf.old) (a.shelf.faults a.shelf.new)) e n.why
]
