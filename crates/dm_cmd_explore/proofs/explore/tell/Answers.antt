use Rattle.dm_cmd_explore.proofs.Names.{List, sym, subst, ap, ◌∙◌, Status, answer_said, unless_failed, TellsOrNot}
use Rattle.dm_cmd_explore.proofs.Exploring.{told_or_begun}
use Rattle.dm_cmd_explore.proofs.explore.tell.Goals as goal

pub returns-in-Ok-clause-says : goal.returns-in-Ok-clause-says
returns-in-Ok-clause-says g c =
    subst (λ (s : Status). TellsOrNot (g.K.Sink.told c.args.out.now) (g.K.Sink.told c.write_all.new.sink) (answer_said c.args.answer.now) s) (sym (c.ended.ensures ∙ ap (unless_failed c.write_all.result) c.status_of_answer.ensures))
    (told_or_begun (g.K.Sink.told c.args.out.now) (g.K.Sink.told c.write_all.new.sink) (answer_said c.args.answer.now) c.write_all.result
    (rw c.in-Ok.ensures at (rw c.as_slice.ensures.value at c.write_all.ensures.all)) (rw c.in-Ok.ensures at (rw c.as_slice.ensures.value at c.write_all.ensures.cut)))
