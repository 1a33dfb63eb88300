use Rattle.dm_cmd_count.proofs.Names.{List, subst, refl, Directive, Status, silent_boot, by_world, OwnSays, directives_for}
use Rattle.dm_cmd_count.proofs.OwnDrilling.{never_read, never_refused, own_meets, own_never}
use Rattle.dm_cmd_count.proofs.own_drill.drill_file.Goals as goal

pub returns-in-Ok : goal.returns-in-Ok
returns-in-Ok g c =
    let d = c.args.drill.now in
    let b = c.in-Ok.inputs.boot in
    let says : OwnSays by_world d b (directives_for b d) (g.K.Sink.told c.args.out.now) (g.K.Sink.told c.show.new.out) c.show.new.world c.show.result =
    subst (λ (ds : List Directive). OwnSays by_world d b ds (g.K.Sink.told c.args.out.now) (g.K.Sink.told c.show.new.out) c.show.new.world c.show.result) c.in-Ok.ensures.drawn c.show.ensures.says in
    record {
      meets = own_meets (OwnSays by_world d) c.args.boot.now d _ c.show.new.world c.show.result b c.in-Ok.ensures.says c.in-Ok.ensures.valid c.in-Ok.ensures.shelf says (λ i h. never_read by_world d d.shows b (directives_for b d) _ _ _ i h) c.show.ensures.sink;
      said = silent_boot (λ (s : Status). OwnSays by_world d b (directives_for b d) (g.K.Sink.told c.args.out.now) (g.K.Sink.told c.show.new.out) c.show.new.world s) _ _ c.show.result _
          (λ number place h. never_refused by_world d d.shows b (directives_for b d) _ _ _ number place h) says c.in-Ok.ensures.said;
    }

pub returns-in-Err : goal.returns-in-Err
returns-in-Err g c = record { meets = own_never (OwnSays by_world c.args.drill.now) c.args.boot.now c.args.drill.now _ _ c.in-Err.status c.in-Err.ensures.none c.in-Err.ensures.shelf refl refl; said = c.in-Err.ensures.said }
