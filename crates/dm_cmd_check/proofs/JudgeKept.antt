-- What `explain` promises of a trace is kept.
use Rattle.dm_cmd_check.proofs.Names.{inl, inr, ℕ, List, Option, IsValid, Boot, World, Status, Done, Usage, ReadFault, NoMemory, WriteFault, BootRefused, ScheduleRefused, TooLong, Worn, TraceRefused, LabelsRefused, NotFound, Undecided}
use Rattle.dm_cmd_check.proofs.Names.{Kept, lack_unread, Both, Around, TraceMeans, JudgeMeets, JudgeTells, TellsJudged, TellsTrace, judge_promise}
use Rattle.dm_ending.specs.declared.status.Input.TheVariants as input
use Rattle.dm_cmd_check.proofs.CheckKept.{CarriesTraces, good_said}
use Rattle.dm_cmd_check.proofs.Judging.{judge_taken, lack_judged, never_judges}

-- what is said of a trace, and of what was due in it
tells_trace : (m n : TraceMeans) (b : Boot) (bytes : List ℕ) (due : Status) (text : List ℕ) → CarriesTraces m n b → TellsTrace m b bytes due text → TellsTrace n b bytes due text
tells_trace m n b bytes Done text c h = record { groups = h.groups; ended = h.ended; good = good_said m n b bytes h.groups h.ended c h.good; text_is = h.text_is }
tells_trace m n b bytes (TraceRefused line why) text c h = record {
  refusal = h.refusal;
  refused = c.comes_to bytes _ h.refused;
  due = c.due_in bytes h.refusal.line h.refusal.due h.due;
  line_is = h.line_is;
  why_is = h.why_is;
  text_is = h.text_is;
}
tells_trace m n b bytes Usage text c h = absurd h
tells_trace m n b bytes (ReadFault i) text c h = absurd h
tells_trace m n b bytes (NoMemory lack) text c h = absurd h
tells_trace m n b bytes WriteFault text c h = absurd h
tells_trace m n b bytes (BootRefused number place) text c h = absurd h
tells_trace m n b bytes (ScheduleRefused line why) text c h = absurd h
tells_trace m n b bytes (TooLong i) text c h = absurd h
tells_trace m n b bytes (Worn from to) text c h = absurd h
tells_trace m n b bytes (LabelsRefused line) text c h = absurd h
tells_trace m n b bytes NotFound text c h = absurd h
tells_trace m n b bytes Undecided text c h = absurd h

tells_judged : (m n : TraceMeans) (files : Option (List ℕ → Option (List ℕ))) (boot trace : List ℕ) (due : Status) (text : List ℕ) → ((b : Boot) → IsValid b → CarriesTraces m n b) → TellsJudged m files boot trace due text → TellsJudged n files boot trace due text
tells_judged m n files boot trace due text c h = record { system = h.system; bytes = h.bytes; has = h.has; valid = h.valid; tells = tells_trace m n h.system h.bytes due text (c h.system h.valid) h.tells }

judge_told : (m n : TraceMeans) (files : Option (List ℕ → Option (List ℕ))) (boot trace : List ℕ) (due : Status) (text : List ℕ) → ((b : Boot) → IsValid b → CarriesTraces m n b) → JudgeTells m files boot trace due text → JudgeTells n files boot trace due text
judge_told m n files boot trace (BootRefused number place) text c h = h
judge_told m n files boot trace Done text c h = tells_judged m n files boot trace Done text c h
judge_told m n files boot trace (TraceRefused line why) text c h = tells_judged m n files boot trace (TraceRefused line why) text c h
judge_told m n files boot trace Usage text c h = absurd h.tells
judge_told m n files boot trace (ReadFault i) text c h = absurd h.tells
judge_told m n files boot trace (NoMemory lack) text c h = absurd h.tells
judge_told m n files boot trace WriteFault text c h = absurd h.tells
judge_told m n files boot trace (ScheduleRefused line why) text c h = absurd h.tells
judge_told m n files boot trace (TooLong i) text c h = absurd h.tells
judge_told m n files boot trace (Worn from to) text c h = absurd h.tells
judge_told m n files boot trace (LabelsRefused line) text c h = absurd h.tells
judge_told m n files boot trace NotFound text c h = absurd h.tells
judge_told m n files boot trace Undecided text c h = absurd h.tells

judge_met : {F K : Type 0} (m n : TraceMeans) (boot trace : List ℕ) (a : Around F K) (world : Option World) (s : Status) → ((b : Boot) → IsValid b → CarriesTraces m n b) → JudgeMeets m boot trace a world s → JudgeMeets n boot trace a world s
judge_met m n boot trace a world s c h = record {
  says = elim h.says [
    | inl r ↦ inl (record { due = r.due; text = r.text; tells = judge_told m n (a.shelf.told a.shelf.old) boot trace r.due r.text c r.tells; wrote = r.wrote })
    | inr k ↦ inr k
  ];
  no_world = h.no_world;
  met = h.met;
}

pub judge_kept : (m n : TraceMeans) (boot trace : List ℕ) → ((b : Boot) → IsValid b → CarriesTraces m n b) → Kept (judge_promise m boot trace) (judge_promise n boot trace)
judge_kept m n boot trace carries = record {
  carried = λ a world s h. judge_met m n boot trace a world s carries h;
  first = λ files s said h. h;
  lacks = λ a world lack h nothing.
      never_judges m boot trace a world (NoMemory lack) (lack_judged (a.shelf.told a.shelf.old) boot trace (a.shelf.faults a.shelf.old) (a.shelf.faults a.shelf.new) lack) (lack_unread (Both boot input.Trace trace) a world lack h nothing) h.unwritten h.no_world;
  silent = λ files lack said e. e;
  met = λ a world s h. h.met;
  taken = λ a world s h e. judge_taken m boot trace a world s h e;
  decided = λ a world s h. tt;
}
