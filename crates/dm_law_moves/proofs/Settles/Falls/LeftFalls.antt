-- Each group of a settle leaves less.
use Rattle.dm_law_moves.proofs.Names.{Step, LeftFalls}
use Rattle.dm_law_moves.proofs.Settles.Falls.DeliverFalls.{deliver_falls}
use Rattle.dm_law_moves.proofs.Settles.Falls.TurnFalls.{turn_falls}

pub left_falls : LeftFalls
left_falls b es pt (Step.Turn m) w valid leads fit is e kept = turn_falls b es pt m w valid leads fit is e kept
left_falls b es pt (Step.Deliver a c k) w valid leads fit is e kept = deliver_falls b es pt a c k w b.numbers leads fit.0 fit.1 fit.2 is e
left_falls b es pt _ w valid leads fit is e kept = absurd is
