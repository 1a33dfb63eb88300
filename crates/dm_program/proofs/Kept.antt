-- Each promise is kept: what the commands say of the machines is so by the rule. A row a request, each by its command's crate; above the
-- rows is what these ask of the rule.
use Rattle.dm_program.proofs.Names.{◌≡◌, ℕ, true, List, length, sym, ◌∙◌, Option, Some, IsValid, Boot, Answer, answered, held_by_world, by_world, Fits, ExploreIsWithin, Request, Chart, Check, CheckLabels, Count, Explain, Explore, Judge}
use Rattle.dm_program.proofs.Names.{Look, OwnDrill, Run, Exploration, Decides, Kept, chart_kept, DecidesTraces, check_kept, judge_kept, labels_kept, traced_by_world, count_kept, drill_kept, own_kept, explain_kept, DecidesAnswers}
use Rattle.dm_program.proofs.Names.{explore_kept, asked_for, answered_by_world, Answers, are_for, bounds_for, question_for, NoneBefore, look_kept, run_kept, of_world, promise_of, by_rule, answered_by_rule, held_by_rule, of_rule}
use Rattle.dm_program.proofs.Names.{traced_by_rule}
use Rattle.dm_words.specs.Request.{Drill}
use Rattle.dm_program.proofs.Runs.ByRule.{carries}
use Rattle.dm_program.proofs.Runs.Endings.{wears_after, worn_same}
use Rattle.dm_program.proofs.Runs.Looks.{not_before, sees}
use Rattle.dm_program.proofs.Traces.{carries_traces}

-- the rule decides runs, what is seen of them, and traces; and what an answer means says which one it is
decides : Decides by_rule
decides = record {
  lasts = λ b ds groups p good over rests gs from to w. rests.lasts gs from to (wears_after b ds gs from to w);
  once = λ b ds gs hs from to x y w v. worn_same b ds gs hs from to x y (wears_after b ds gs from to w) (wears_after b ds hs x y v);
}

none_before : NoneBefore by_rule
none_before = record { never = λ b ds most from to gs p there hs w fewer. not_before b ds most from to gs p there hs (wears_after b ds hs from to w) fewer }

decides_traces : DecidesTraces traced_by_rule
decides_traces = record { one = λ b bytes v w h k. sym h ∙ k }

decides_answers : DecidesAnswers answered_by_rule
decides_answers = record { is = λ b q x a h. h.0 }

-- an answer by the machines is one of all good runs of choices
answers : (line : Option (List ℕ)) (e : Exploration) (b : Boot) → IsValid b → ExploreIsWithin e → (a : Answer) → are_for (length b.machines) e ≡ true → Answers answered_by_world b line e a → Answers answered_by_rule b line e a
answers line e b valid within a named means = (means.0, answered b (bounds_for e) (question_for line e) a valid (asked_for (length b.machines) e named within) means.0 means.1)

-- a row a request
pub kept : (r : Request) → Fits (Some r) → Kept (promise_of of_world r) (promise_of of_rule r)
kept (Run boot schedule) fits = run_kept by_world by_rule boot schedule decides carries
kept (Check boot trace) fits = check_kept traced_by_world traced_by_rule boot trace decides_traces carries_traces
kept (CheckLabels boot labels) fits = labels_kept boot labels
kept (Chart boot schedule first last) fits = chart_kept by_world by_rule boot schedule first last decides carries
kept (Explain boot schedule) fits = explain_kept boot schedule
kept (Judge boot trace) fits = judge_kept traced_by_world traced_by_rule boot trace carries_traces
kept (Count boot schedule) fits = count_kept by_world by_rule boot schedule decides carries
kept (Look boot schedule groups names) fits = look_kept by_world by_rule held_by_world held_by_rule boot schedule groups names decides none_before carries sees
kept (Explore boot line e) fits = explore_kept answered_by_world answered_by_rule boot line e fits decides_answers (answers line e)
kept (Drill d) fits = drill_kept by_rule d fits decides carries
kept (OwnDrill boot d) fits = own_kept by_world by_rule boot d decides carries
