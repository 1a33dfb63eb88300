use Rattle.dm_draw.proofs.Names.{◌≡◌, directives_by, own_drawn, state_behind}
use Rattle.dm_draw.proofs.own.own_directives.Given as goal

abbrev pub invariant-loop : goal.invariant-loop
invariant-loop l =
    record {
      drawn : l.directives.items ≡ directives_by (own_drawn l.machines l.processes) l.seed l.counter;
      state : l.generator.state ≡ state_behind (own_drawn l.machines l.processes) l.seed l.counter;
    }
