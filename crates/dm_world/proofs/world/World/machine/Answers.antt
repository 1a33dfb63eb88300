use Rattle.dm_world.proofs.Names.{◌<◌, length, ap, ◌∙◌, sym, subst, HasStreams, node_state}
use Rattle.dm_world.proofs.Nodes.{is_node_at, node_at}
use Rattle.dm_world.proofs.world.World.machine.Goals as goal

pub returns-clause-state : goal.returns-clause-state
returns-clause-state c =
    let nodes = c.args.self.now.nodes.items in
    let within : c.args.m < length nodes = rw c.requires.world.machines c.requires.within in
    ap node_state c.index.ensures ∙ node_at c.args.self.now.boot nodes c.from.result c.args.m c.index.result.now c.from.ensures within

pub returns-clause-streams : goal.returns-clause-streams
returns-clause-streams c =
    let nodes = c.args.self.now.nodes.items in
    let within : c.args.m < length nodes = rw c.requires.world.machines c.requires.within in
    subst HasStreams (sym c.index.ensures) (is_node_at nodes c.from.result c.args.m c.index.result.now c.from.ensures within c.requires.world.nodes).streams
