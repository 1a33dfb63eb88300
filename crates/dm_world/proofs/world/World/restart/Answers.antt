use Rattle.dm_world.proofs.Names.{get, pid_cmp, Pid, ◌≡◌, None, rules, ended_in}
use Rattle.dm_world.proofs.Nodes.{all_opened}
use Rattle.dm_world.proofs.world.World.restart.Goals as goal

pub returns-clause-state : goal.returns-clause-state
unfolding ended_in
returns-clause-state c =
    let nodes = all_opened c.args.self.now.boot c.in_ok-self.field-0.items c.in_ok-self.ensures.opened in
    let none : (p : Pid) → get pid_cmp c.new-2.result p ≡ None = search rules in
    λ i. record { nodes = λ m. nodes m i; wires = λ a b. c.new.ensures a b i; ended = λ p. none p i; groups = 0 }
