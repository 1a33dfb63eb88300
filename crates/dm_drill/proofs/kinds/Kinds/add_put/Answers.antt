use Rattle.std.proofs.Common.{rules}
use Rattle.std.proofs.lemmas.Result.{on_ok_weaker}
use Rattle.dm_drill.proofs.Names.{◌<◌, ◌∙◌, ap, length, map, kind_shown, with_put}
use Rattle.dm_drill.proofs.Numbered.{numbered_set, put_there}
use Rattle.dm_drill.proofs.kinds.Kinds.add_put.Goals as goal

pub invariant_of-self : goal.invariant_of-self
invariant_of-self c =
    let within : c.place.result < length c.self.inside.tallies = search rules in
    numbered_set kind_shown 1 c.place.result c.self.inside.tallies c.add_one.new.self _ c.self.invariant within c.add_one.ensures.kind

pub returns : goal.returns
returns c =
    let within : c.place.result < length c.self.inside.tallies = search rules in
    on_ok_weaker c.add_one.result
    (λ more. put_there kind_shown c.args.kind c.args.far 1 c.place.result c.self.inside.tallies c.add_one.new.self _ c.self.invariant c.place.ensures.number within more ∙ ap (map (with_put c.args.kind c.args.far)) c.self.view_is) c.add_one.ensures.more
