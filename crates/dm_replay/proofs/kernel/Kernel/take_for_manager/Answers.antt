use Rattle.std.specs.Prelude.{◌+◌}
use Rattle.std.proofs.Common.{arith, refl, sym, ◌∙◌}
use Rattle.std.proofs.lemmas.Result.{on_ok_weaker}
use Rattle.dm_message.specs.Plain.{plain_message}
use Rattle.dm_onekernel.specs.Kernel.{OneKernel}
use Rattle.dm_procman.specs.Managing.{plain_manager}
use Rattle.dm_replay.specs.State.{one_kernel, put_in}
use Rattle.dm_replay.specs.declared.kernel.Kernel.{Kernel}
use Rattle.dm_replay.proofs.Giving.{becomes_gives}
use Rattle.dm_replay.proofs.Managing.{takes_keeps}
use Rattle.dm_replay.proofs.Rows.{stays_both, weaker}
use Rattle.dm_replay.proofs.Serving.{for_manager, manager_not, manager_so}
use Rattle.dm_replay.proofs.kernel.Kernel.take_for_manager.Goals as goal

pub take-requires-clause-row : goal.take-requires-clause-row
take-requires-clause-row c = for_manager c.args.self.now.manager c.args.message.now.id.n c.args.message.now.what (sym c.is_for_manager.ensures ∙ c.if-not-is_for_manager.false)

pub take-requires-clause-counts : goal.take-requires-clause-counts
take-requires-clause-counts c = omega (arith, c.requires.sound.manager_sent, c.requires.room)

pub take-requires-clause-children : goal.take-requires-clause-children
take-requires-clause-children c = omega (arith, c.requires.sound.children, c.requires.room)

pub put_sent-requires : goal.put_sent-requires
put_sent-requires c = c.in_ok-sent.ensures.lawful_message c.requires.sound.manager c.requires.lawful

pub returns-clause-steps : goal.returns-clause-steps
returns-clause-steps c = λ b of.
    let keeps = takes_keeps 0 c.args.self.now.manager c.args.message.now.id.n c.args.message.now.what _ c.in_ok-sent.ensures.exact in
    becomes_gives c.put_sent.result b (record c.args.self.now { manager = c.take.new.self }) c.put_sent.new.self (λ (u : OneKernel). put_in u c.in_ok-sent.sent) _ c.put_sent.ensures.state c.put_sent.ensures.memory
    (manager_so (one_kernel b c.args.self.now) (one_kernel b (record c.args.self.now { manager = c.take.new.self })) (plain_message c.args.message.now) (plain_manager c.take.new.self) c.args.self.now.manager.machines c.args.self.now.manager.images c.in_ok-sent.sent
    c.in_ok-sent.ensures.plain of.machines of.images refl keeps.plain)

pub returns-clause-sound : goal.returns-clause-sound
returns-clause-sound c =
    let keeps = takes_keeps 0 c.args.self.now.manager c.args.message.now.id.n c.args.message.now.what _ c.in_ok-sent.ensures.exact in
    let h = weaker c.args.self.now.labels (c.args.self.now.labels + 1) c.args.self.now (omega arith) c.requires.sound in
    let sent = keeps.sent in
    let few = c.requires.sound.manager_sent in
    let children = keeps.children in
    let many = c.requires.sound.children in
    c.put_sent.ensures.sound (c.args.self.now.labels + 1)
    (record {
      processes = h.processes;
      bag = h.bag;
      notes = h.notes;
      noted = h.noted;
      made = h.made;
      board = h.board;
      board_sent = h.board_sent;
      manager = c.take.ensures.lawful c.requires.sound.manager c.requires.lawful;
      manager_sent = omega (arith, sent, few);
      children = omega (arith, children, many);
    })

pub returns-then-not-is_for_manager-clause-steps : goal.returns-then-not-is_for_manager-clause-steps
returns-then-not-is_for_manager-clause-steps c = λ b of.
    manager_not (one_kernel b c.args.self.now) c.args.self.now.manager c.args.message.now refl (sym c.is_for_manager.ensures ∙ c.if-not-is_for_manager.true)

pub returns-clause-stays : goal.returns-clause-stays
returns-clause-stays c =
    let keeps = takes_keeps 0 c.args.self.now.manager c.args.message.now.id.n c.args.message.now.what _ c.in_ok-sent.ensures.exact in
    let taken : Kernel = record c.args.self.now { manager = c.take.new.self } in
    on_ok_weaker c.put_sent.result (stays_both c.args.self.now taken c.put_sent.new.self (record { labels = refl; machines = keeps.machines; images = keeps.images })) c.put_sent.ensures.stays
