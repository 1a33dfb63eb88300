use Rattle.std.specs.Prelude.{◌+◌}
use Rattle.std.proofs.Common.{ap, arith, refl}
use Rattle.dm_message.specs.Kinds.{kind_of}
use Rattle.dm_message.specs.Plain.{plain_message}
use Rattle.dm_onekernel.specs.Kernel.{OneKernel}
use Rattle.dm_switchboard.specs.Board.{plain_board}
use Rattle.dm_replay.specs.State.{one_kernel, put_in}
use Rattle.dm_replay.proofs.Boarding.{board_keeps}
use Rattle.dm_replay.proofs.Giving.{becomes_gives}
use Rattle.dm_replay.proofs.Rows.{weaker}
use Rattle.dm_replay.proofs.Serving.{board_so}
use Rattle.dm_replay.proofs.kernel.Kernel.take_for_board.Goals as goal

pub take-requires-clause-user : goal.take-requires-clause-user
take-requires-clause-user c = ap kind_of c.in-User.is

pub take-requires-clause-counts : goal.take-requires-clause-counts
take-requires-clause-counts c = omega (arith, c.requires.sound.board_sent, c.requires.room)

pub put_sent-requires : goal.put_sent-requires
put_sent-requires c = c.in_ok-took-in-User.ensures.lawful_answer c.requires.sound.board c.requires.lawful

pub returns-in_ok-took-in-User-clause-steps : goal.returns-in_ok-took-in-User-clause-steps
returns-in_ok-took-in-User-clause-steps c = λ b.
    let keeps = board_keeps 0 c.args.self.now.board c.args.message.now.what _ c.in_ok-took-in-User.ensures.exact in
    becomes_gives c.put_sent.result b (record c.args.self.now { board = c.take.new.self }) c.put_sent.new.self (λ (u : OneKernel). put_in u c.in_ok-took-in-User.took.answer) _ c.put_sent.ensures.state c.put_sent.ensures.memory
    (board_so (one_kernel b c.args.self.now) (one_kernel b (record c.args.self.now { board = c.take.new.self })) (plain_message c.args.message.now) (plain_board c.take.new.self) c.in_ok-took-in-User.took.answer c.in_ok-took-in-User.ensures.plain refl keeps.plain)

pub returns-in_ok-took-in-User-clause-sound : goal.returns-in_ok-took-in-User-clause-sound
returns-in_ok-took-in-User-clause-sound c =
    let keeps = board_keeps 0 c.args.self.now.board c.args.message.now.what _ c.in_ok-took-in-User.ensures.exact in
    let h = weaker c.args.self.now.labels (c.args.self.now.labels + 1) c.args.self.now (omega arith) c.requires.sound in
    let sent = keeps.sent in
    let few = c.requires.sound.board_sent in
    c.put_sent.ensures.sound (c.args.self.now.labels + 1)
    (record {
      processes = h.processes;
      bag = h.bag;
      notes = h.notes;
      noted = h.noted;
      made = h.made;
      board = c.take.ensures.lawful c.requires.sound.board c.requires.lawful;
      board_sent = omega (arith, sent, few);
      manager = h.manager;
      manager_sent = h.manager_sent;
      children = h.children;
    })
