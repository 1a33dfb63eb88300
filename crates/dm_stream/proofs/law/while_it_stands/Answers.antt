use Rattle.dm_stream.proofs.Follows.{IsAllThere-stands, IsAtRest-stands, MayCome-stands, UnderWay-stands}
use Rattle.dm_stream.proofs.law.while_it_stands.Goals as goal

pub returns : goal.returns
returns g c = record { may_come = MayCome-stands; under_way = UnderWay-stands; delivered = IsAtRest-stands; at_rest = IsAllThere-stands }
