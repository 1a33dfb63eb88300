use Rattle.dm_program.proofs.entry.finish.Goals as goal

pub returns : goal.returns
returns g c = record {
  status = c.run_given-status.result;
  world = c.run_given-status.new.world;
  meets = c.run_given-status.ensures.meets;
  said = c.run_given-status.new.said.items;
  first = c.run_given-status.ensures.said;
  says = rw c.as_slice.ensures.value at c.end.ensures.says;
  number = c.end.ensures.number;
}
