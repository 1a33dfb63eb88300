use Rattle.dm_stream.proofs.Follows.{IsAllThere-stands, MayCome-stands}
use Rattle.dm_stream.proofs.Together.{stands}
use Rattle.dm_stream.proofs.Names.{run, start}
use Rattle.dm_stream.proofs.law.any_schedule.Goals as goal

pub returns : goal.returns
returns g c = record {
  in_order = λ numbers es small. (stands numbers es small).in_order;
  may_come = λ numbers es small. MayCome-stands (run es (start numbers)) (stands numbers es small);
  at_rest = λ numbers es small r. IsAllThere-stands (run es (start numbers)) (stands numbers es small) r;
}
