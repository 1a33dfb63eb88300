-- What an answer of exploring means, by the machines.
use Rattle.std.specs.Prelude.{◌≡◌}
use Rattle.dm_explore.specs.Answers.{answer}
use Rattle.dm_explore.specs.Search.{AllWent}
use Rattle.dm_cmd_explore.specs.Explores.{AnswerMeans}

-- an answer of exploring is that by the machines, and runs of them went to each place that was tried
abbrev pub answered_by_world : AnswerMeans
answered_by_world b q x a = (answer b q x ≡ a) × AllWent b q a
