use Rattle.dm_migrate.proofs.Names.{get_or, set, ◌≡◌, ◌∙◌, ap, arith, length, sent_on}
use Rattle.dm_migrate.proofs.Readdressed.{first_sent, set_sent, all_sent}
use Rattle.dm_migrate.proofs.arriving.send_back.Goals as goal

pub loop-message-preserved : goal.loop-message-preserved
loop-message-preserved c =
    let f = sent_on c.args.to c.args.moves in
    ap (λ v. set c.loop-message.messages c.loop-message.message-index v) c.relocate.ensures.place
    ∙ ap (λ xs. set xs c.loop-message.message-index (f (get_or xs c.loop-message.message-index c.message-item.result))) c.loop-message.invariant
    ∙ set_sent f c.loop-message.message-index c.args.messages.now c.message-item.result c.loop-message-test.true

pub returns : goal.returns
returns c =
    let end : c.loop-message.message-index ≡ length c.args.messages.now = omega (arith, c.loop-message.auto.message-index-end, c.loop-message-test.false) in
    c.loop-message.invariant ∙ ap (λ n. first_sent (sent_on c.args.to c.args.moves) n c.args.messages.now) end ∙ all_sent (sent_on c.args.to c.args.moves) c.args.messages.now
