-- What the command `check` promises of a trace is kept.
use Rattle.dm_cmd_check.proofs.Names.{◌≡◌, inl, inr, ℕ, Bool, List, subst, Option, Some, IsValid, Boot, World, good_verdict, Verdict, WasDue, Status, Done, Usage, ReadFault, NoMemory, WriteFault, BootRefused, ScheduleRefused, TooLong, Worn}
use Rattle.dm_cmd_check.proofs.Names.{TraceRefused, LabelsRefused, NotFound, Undecided, Kept, lack_unread, Both, Around, outside, CheckMeets, CheckSaying, CheckSays, IsGoodTrace, NoTrace, RefusesTrace, TraceMeans, check_promise}
use Rattle.dm_ending.specs.declared.status.Input.TheVariants as input
use Rattle.dm_cmd_check.proofs.CheckDecided.{DecidesTraces, check_decided}
use Rattle.dm_cmd_check.proofs.Checking.{never_meets}

-- what is said of traces in some terms is said in others
pub record CarriesTraces (m n : TraceMeans) (b : Boot) : Type 0 where
  pub comes_to : (bytes : List ℕ) (v : Verdict) → m.comes_to b bytes v → n.comes_to b bytes v
  pub is_of : (bytes : List ℕ) (groups : ℕ) (ended : Bool) → m.is_of b bytes groups ended → n.is_of b bytes groups ended
  pub due_in : (bytes : List ℕ) (line : ℕ) (due : WasDue) → m.due_in b bytes line due → n.due_in b bytes line due

pub good_said : (m n : TraceMeans) (b : Boot) (bytes : List ℕ) (groups : ℕ) (ended : Bool) → CarriesTraces m n b → IsGoodTrace m b bytes groups ended → IsGoodTrace n b bytes groups ended
good_said m n b bytes groups ended c h = record { verdict = c.comes_to bytes (good_verdict groups ended) h.verdict; trace = c.is_of bytes groups ended h.trace }

refused_said : (m n : TraceMeans) (b : Boot) (bytes : List ℕ) (line why : ℕ) → CarriesTraces m n b → RefusesTrace m b bytes line why → RefusesTrace n b bytes line why
refused_said m n b bytes line why c h = record { fault = h.fault; refused = c.comes_to bytes _ h.refused; why_is = h.why_is }

check_said : (m n : TraceMeans) (b : Boot) (bytes : List ℕ) (before after : Option (List ℕ)) (s : Status) → CarriesTraces m n b → CheckSays m b bytes before after s → CheckSays n b bytes before after s
check_said m n b bytes before after Done c h = record { groups = h.groups; ended = h.ended; good = good_said m n b bytes h.groups h.ended c h.good; written = h.written }
check_said m n b bytes before after Usage c h = absurd h
check_said m n b bytes before after (ReadFault i) c h = absurd h
check_said m n b bytes before after (NoMemory lack) c h = h
check_said m n b bytes before after WriteFault c h = record { groups = h.groups; ended = h.ended; good = good_said m n b bytes h.groups h.ended c h.good; begun = h.begun }
check_said m n b bytes before after (BootRefused number place) c h = absurd h
check_said m n b bytes before after (ScheduleRefused line why) c h = absurd h
check_said m n b bytes before after (TooLong i) c h = absurd h
check_said m n b bytes before after (Worn from to) c h = absurd h
check_said m n b bytes before after (TraceRefused line why) c h = (refused_said m n b bytes line why c h.0, h.1)
check_said m n b bytes before after (LabelsRefused line) c h = absurd h
check_said m n b bytes before after NotFound c h = absurd h
check_said m n b bytes before after Undecided c h = absurd h

check_met : {F K : Type 0} (Says More : CheckSaying) (boot trace : List ℕ) (a : Around F K) (world : Option World) (s : Status)
    → ((b : Boot) (bytes : List ℕ) (before after : Option (List ℕ)) → IsValid b → Says b bytes before after s → More b bytes before after s) → CheckMeets Says boot trace a world s → CheckMeets More boot trace a world s
check_met Says More boot trace a world s more h = record {
  says = elim h.says [
    | inl r ↦ inl (record { system = r.system; bytes = r.bytes; has = r.has; valid = r.valid; says = more r.system r.bytes _ _ r.valid r.says })
    | inr n ↦ inr n
  ];
  refuses = h.refuses;
  no_world = h.no_world;
  met = h.met;
}

-- words that were taken are not refused as words
check_taken : {F K : Type 0} (Says : CheckSaying) (boot trace : List ℕ) (a : Around F K) (world : Option World) (s : Status) → ((b : Boot) (bytes : List ℕ) (before after : Option (List ℕ)) → Says b bytes before after Usage → ⊥) → CheckMeets Says boot trace a world s → s ≡ Usage → ⊥
check_taken Says boot trace a world s never h e = elim h.says [
  | inl r ↦ never r.system r.bytes (a.sink.told a.sink.old) (a.sink.told a.sink.new) (subst (Says r.system r.bytes (a.sink.told a.sink.old) (a.sink.told a.sink.new)) e r.says)
  | inr n ↦ subst (NoTrace (a.shelf.told a.shelf.old) boot trace (a.shelf.faults a.shelf.old) (a.shelf.faults a.shelf.new)) e n.why
]

pub check_kept : (m n : TraceMeans) (boot trace : List ℕ) → DecidesTraces n → ((b : Boot) → IsValid b → CarriesTraces m n b) → Kept (check_promise m boot trace) (check_promise n boot trace)
check_kept m n boot trace d carries = record {
  carried = λ a world s h. check_met (CheckSays m) (CheckSays n) boot trace a world s (λ b bytes before after valid says. check_said m n b bytes before after s (carries b valid) says) h;
  first = λ files s said h. h;
  lacks = λ a world lack h nothing. never_meets (CheckSays m) boot trace a world (NoMemory lack) tt (lack_unread (Both boot input.Trace trace) a world lack h nothing) h.unwritten h.no_world;
  silent = λ files lack said e. e;
  met = λ a world s h. h.met;
  taken = λ a world s h e. check_taken (CheckSays m) boot trace a world s (λ b bytes before after k. k) h e;
  decided = λ a world s h. check_decided n boot trace (outside a world) s d h.says h.met.sink.blames;
}
