use Rattle.std.specs.Prelude.{◌≡◌, IfOk, length}
use Rattle.std.proofs.Common.{refl, sym, subst}
use Rattle.dm_onekernel.specs.declared.boot.Boot.{Boot}
use Rattle.dm_explore.specs.Answers.{answer, answer_said}
use Rattle.dm_explore.specs.Asked.{bounds_said, question_said}
use Rattle.dm_explore.specs.Search.{AllWent, AreAsked}
use Rattle.dm_explore.proofs.Going.{starts}
use Rattle.dm_explore.proofs.search.explore.Goals as goal

pub answer-requires-clause-first : goal.answer-requires-clause-first
answer-requires-clause-first c =
    starts _ c.in_ok-world.ensures.fresh c.in_ok-world.ensures.running (subst (λ (b : Boot). AreAsked (length b.machines) (bounds_said c.args.bounds.now)) (sym c.in_ok-world.ensures.boot) c.requires.asked) c.new-past.ensures refl

pub returns-clause-answer : goal.returns-clause-answer
returns-clause-answer c =
    subst (λ (b : Boot). IfOk c.answer.result (λ a. answer_said a ≡ answer b (bounds_said c.args.bounds.now) (question_said c.args.question))) c.in_ok-world.ensures.boot c.answer.ensures.answer

pub returns-clause-went : goal.returns-clause-went
returns-clause-went c = subst (λ (b : Boot). IfOk c.answer.result (λ a. AllWent b (bounds_said c.args.bounds.now) (answer_said a))) c.in_ok-world.ensures.boot c.answer.ensures.went
