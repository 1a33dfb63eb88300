use Rattle.dm_world.proofs.Names.{◌≡◌, ◌++◌, List, Message, ap, ◌∙◌, length, world_state}
use Rattle.std.specs.Prelude.{map}
use Rattle.dm_look.specs.Waiting.{given_by, kept_at}
use Rattle.dm_look.proofs.Finding.{three_found}
use Rattle.dm_look.proofs.waiting.find_at.Goals as goal

pub returns : goal.returns
returns c =
    let w = world_state c.args.world.now in
    let machines = length c.args.world.now.boot.machines in
    let same : c.inbox.result.now ≡ (w.nodes c.args.m).kernel.inbox = c.inbox.ensures ∙ (ap (λ k. k.inbox) c.kernel.ensures ∙ ap (λ n. n.kernel.inbox) c.machine.ensures.state) in
    three_found (kept_at machines w c.args.m) (w.nodes c.args.m).kernel.inbox (given_by machines w c.args.m) _ _ _ _ c.in_ok-find_kept.ensures
    (c.in_ok-find_in_inbox.ensures ∙ ap (λ (ms : List Message). map (λ x. x.now) c.find_kept.new.found.items ++ ms) same) c.in_ok-find_given.ensures
