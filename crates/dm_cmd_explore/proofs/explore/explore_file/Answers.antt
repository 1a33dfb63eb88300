use Rattle.dm_cmd_explore.proofs.Names.{List, ℕ, refl, option_map, Status, unwritten, silent_boot, answer_said, ExploreSays, GivesNone, bounds_for, question_for, sink_around, answered_by_world}
use Rattle.dm_cmd_explore.proofs.Exploring.{answer_within, explore_meets, explore_never, never_refused, none_told, none_writes, told}
use Rattle.dm_cmd_explore.proofs.explore.explore_file.Goals as goal

pub returns-in-Ok-answer_of : goal.returns-in-Ok-answer_of
returns-in-Ok-answer_of g c =
    let line = option_map (λ l. l.now) c.args.line in
    let e = c.args.exploration.now in
    let b = c.in-Ok.system in
    let a = answer_said c.in-Ok-answer_of.answer in
    let says : ExploreSays answered_by_world b line e (g.K.Sink.told c.args.out.now) (g.K.Sink.told c.tell.new.out) c.tell.result =
    told answered_by_world b line e (g.K.Sink.told c.args.out.now) (g.K.Sink.told c.tell.new.out) a c.tell.result (answer_within b (bounds_for e) (question_for line e) a c.in-Ok-answer_of.ensures.answer.0)
    c.in-Ok-answer_of.ensures.named c.in-Ok-answer_of.ensures.answer c.tell.ensures.says in
    record {
      meets = explore_meets answered_by_world c.args.boot.now line e _ c.tell.result b c.requires.within c.in-Ok.ensures.says c.in-Ok.ensures.valid c.in-Ok.ensures.shelf says c.tell.ensures.sink;
      said = silent_boot (λ (s : Status). ExploreSays answered_by_world b line e (g.K.Sink.told c.args.out.now) (g.K.Sink.told c.tell.new.out) s) _ _ c.tell.result _ (λ number place h. h) says c.in-Ok.ensures.said;
    }

pub returns-in-Err-answer_of : goal.returns-in-Err-answer_of
returns-in-Err-answer_of g c =
    let line = option_map (λ l. l.now) c.args.line in
    let e = c.args.exploration.now in
    let b = c.in-Ok.system in
    let s = c.in-Err-answer_of.status in
    let k = sink_around g.K.Sink.told g.K.Sink.faults g.K.Sink.last_failed c.args.out.now c.args.out.now in
    let says = none_told answered_by_world b line e (g.K.Sink.told c.args.out.now) s c.in-Err-answer_of.ensures.none in
    record {
      meets = explore_meets answered_by_world c.args.boot.now line e _ s b c.requires.within c.in-Ok.ensures.says c.in-Ok.ensures.valid c.in-Ok.ensures.shelf says (unwritten k s refl (none_writes _ e s c.in-Err-answer_of.ensures.none));
      said = silent_boot (GivesNone _ e) _ _ s _ (λ number place h. h) c.in-Err-answer_of.ensures.none c.in-Ok.ensures.said;
    }

pub returns-in-Err : goal.returns-in-Err
returns-in-Err g c = record {
  meets = explore_never answered_by_world c.args.boot.now _ c.args.exploration.now _ _ c.in-Err.status c.requires.within c.in-Err.ensures.none c.in-Err.ensures.shelf refl refl;
  said = c.in-Err.ensures.said;
}
