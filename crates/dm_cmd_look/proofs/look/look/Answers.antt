use Rattle.dm_cmd_look.proofs.Names.{List, None, refl, subst, sym, Err, Directive, Status, WearsBefore, IsLooked, IsSeen, held_by_world, Stop, by_world, LookSays}
use Rattle.dm_cmd_look.proofs.Looking.{seen_says}
use Rattle.dm_cmd_look.proofs.look.look.Goals as goal

pub returns-in-Ok-clause-says : goal.returns-in-Ok-clause-says
returns-in-Ok-clause-says g c =
    let seen : IsSeen by_world held_by_world c.args.inputs.boot c.args.inputs.directives.items c.args.groups c.args.names c.in-Ok.text.items =
    subst (λ (ds : List Directive). IsSeen by_world held_by_world c.args.inputs.boot ds c.args.groups c.args.names c.in-Ok.text.items) c.as_slice.ensures.value c.in-Ok.ensures in
    subst (λ (s : Status). LookSays by_world held_by_world c.args.groups c.args.names c.args.inputs.boot c.args.inputs.directives.items (g.K.Sink.told c.args.out.now) (g.K.Sink.told c.write_all.new.sink) None s) (sym c.ended.ensures)
    (seen_says by_world held_by_world c.args.groups c.args.names c.args.inputs.boot c.args.inputs.directives.items c.in-Ok.text.items (g.K.Sink.told c.args.out.now) (g.K.Sink.told c.write_all.new.sink) c.write_all.result seen
    (rw c.as_slice-in-Ok.ensures.value at c.write_all.ensures.all) (rw c.as_slice-in-Ok.ensures.value at c.write_all.ensures.cut))

pub returns-in-Err-Worn-clause-says : goal.returns-in-Err-Worn-clause-says
returns-in-Err-Worn-clause-says g c = record {
  worn = subst (λ (ds : List Directive). WearsBefore by_world c.args.inputs.boot ds c.args.groups c.in-Err-Worn.from c.in-Err-Worn.to) c.as_slice.ensures.value
      (subst (λ (s : Stop). IsLooked by_world held_by_world c.args.inputs.boot c.as_slice.result.now c.args.groups c.args.names (Err s)) c.in-Err-Worn.field-0-is c.in-Err-Worn.ensures);
  nothing = refl;
}
