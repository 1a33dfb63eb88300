use Rattle.std.specs.Prelude.{is_some, nat_lt}
use Rattle.dm_process.proofs.Names.{ℕ, List, Message, ap, ◌∙◌, first_on}
use Rattle.dm_process.proofs.Passed.{has_one}
use Rattle.dm_process.proofs.mailbox.Mailbox.has_match.Goals as goal

pub returns : goal.returns
returns c =
    let p = c.first_place.ensures in
    ap (λ (n : ℕ). nat_lt c.first_place.result n) c.len.ensures
    ∙ has_one c.args.mask c.first_place.result c.self.inside.messages p.passed.within p.first p.none
    ∙ ap (λ (ms : List Message). is_some (first_on c.args.mask ms)) c.self.view_is
