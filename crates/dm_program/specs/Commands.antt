-- What the program promises, by what its words ask for: a row a request, each that of its command's crate.
use Rattle.std.specs.declared.option.Option.{Option}
use Rattle.std.specs.declared.option.Option.TheVariants.{None, Some}
use Rattle.dm_look.specs.Looked.{Holding, held_by_world}
use Rattle.dm_run.specs.Notion.{Notion, by_world}
use Rattle.dm_words.specs.Request.{Request, Chart, Check, CheckLabels, Count, Drill, Explain, Explore, Judge, Look, OwnDrill, Run}
use Rattle.dm_front.specs.Promise.{Promise, nothing_promise}
use Rattle.dm_cmd_chart.specs.Charts.{chart_promise}
use Rattle.dm_cmd_check.specs.ByWorld.{traced_by_world}
use Rattle.dm_cmd_check.specs.Checks.{TraceMeans}
use Rattle.dm_cmd_check.specs.Promises.{check_promise, judge_promise, labels_promise}
use Rattle.dm_cmd_count.specs.Drills.{count_promise, drill_promise}
use Rattle.dm_cmd_count.specs.OwnDrills.{own_promise}
use Rattle.dm_cmd_explain.specs.Explains.{explain_promise}
use Rattle.dm_cmd_explore.specs.ByWorld.{answered_by_world}
use Rattle.dm_cmd_explore.specs.Explores.{AnswerMeans, explore_promise}
use Rattle.dm_cmd_look.specs.Looks.{look_promise}
use Rattle.dm_cmd_run.specs.Runs.{run_promise}

-- what is said of runs and of traces: by the machines, or by their rule
pub record Terms : Type 1 where
  pub run : Notion
  -- what is in the messages, where a run has come
  pub holds : Holding run
  pub trace : TraceMeans
  -- what comes of exploring
  pub answer : AnswerMeans

-- by the machines
abbrev pub of_world : Terms
of_world = record { run = by_world; holds = held_by_world; trace = traced_by_world; answer = answered_by_world }

-- a row a request
abbrev pub promise_of : Terms → Request → Promise
promise_of t (Run boot schedule) = run_promise t.run boot schedule
promise_of t (Check boot trace) = check_promise t.trace boot trace
promise_of t (CheckLabels boot labels) = labels_promise boot labels
promise_of t (Chart boot schedule first last) = chart_promise t.run boot schedule first last
promise_of t (Explain boot schedule) = explain_promise boot schedule
promise_of t (Judge boot trace) = judge_promise t.trace boot trace
promise_of t (Count boot schedule) = count_promise t.run boot schedule
promise_of t (Look boot schedule groups names) = look_promise t.run t.holds boot schedule groups names
promise_of t (Explore boot line exploration) = explore_promise t.answer boot line exploration
promise_of t (Drill drill) = drill_promise t.run drill
promise_of t (OwnDrill boot drill) = own_promise t.run boot drill

-- and where the words ask for nothing
abbrev pub promised : Terms → Option Request → Promise
promised t None = nothing_promise
promised t (Some r) = promise_of t r
