use Rattle.dm_draw.proofs.Names.{◌≡◌, directive_drawn, directives_by, state_behind}
use Rattle.dm_draw.proofs.directives.drill_directives.Given as goal

abbrev pub invariant-loop : goal.invariant-loop
invariant-loop l =
    record {
      drawn : l.directives.items ≡ directives_by (directive_drawn l.machines) l.seed l.counter;
      state : l.generator.state ≡ state_behind (directive_drawn l.machines) l.seed l.counter;
    }
