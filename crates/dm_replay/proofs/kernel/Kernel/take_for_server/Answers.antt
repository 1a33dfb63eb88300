use Rattle.std.specs.Prelude.{◌+◌, OnOk}
use Rattle.std.proofs.Common.{arith, subst, sym, ◌∙◌}
use Rattle.dm_onekernel.specs.Service.{takes}
use Rattle.dm_replay.specs.Sound.{IsSound}
use Rattle.dm_replay.specs.State.{one_kernel}
use Rattle.dm_replay.proofs.Rows.{given_as, passes, refused}
use Rattle.dm_replay.proofs.ServerRows.{took_board, took_manager, took_nobody}
use Rattle.dm_replay.proofs.kernel.Kernel.take_for_server.Goals as goal

pub returns-in_err-message-clause-gives : goal.returns-in_err-message-clause-gives
returns-in_err-message-clause-gives c =
    let s = one_kernel c.args.boot.now c.args.self.now in
    passes c.from_residual.result c.in_err-message.field-0.0 _ _ c.from_residual.ensures (refused c.in_err-message.field-0.0 (s.bag c.args.id) (takes s c.args.id) (c.in_err-message.ensures.gives c.args.boot.now))

pub take_for_board-requires-clause-sound : goal.take_for_board-requires-clause-sound
take_for_board-requires-clause-sound c = subst (λ n. IsSound n c.take_message.new.self) (sym c.in_ok-message.ensures.stays.labels) (c.in_ok-message.ensures.sound c.args.self.now.labels c.requires.sound)

pub take_for_board-requires-clause-room : goal.take_for_board-requires-clause-room
take_for_board-requires-clause-room c = let same = c.in_ok-message.ensures.stays.labels in omega (arith, same, c.requires.room)

pub take_for_board-requires-clause-lawful : goal.take_for_board-requires-clause-lawful
take_for_board-requires-clause-lawful c = c.in_ok-message.ensures.fit c.args.self.now.labels c.requires.sound

pub take_for_manager-requires-clause-sound : goal.take_for_manager-requires-clause-sound
take_for_manager-requires-clause-sound c = subst (λ n. IsSound n c.take_message.new.self) (sym c.in_ok-message.ensures.stays.labels) (c.in_ok-message.ensures.sound c.args.self.now.labels c.requires.sound)

pub take_for_manager-requires-clause-room : goal.take_for_manager-requires-clause-room
take_for_manager-requires-clause-room c = let same = c.in_ok-message.ensures.stays.labels in omega (arith, same, c.requires.room)

pub take_for_manager-requires-clause-lawful : goal.take_for_manager-requires-clause-lawful
take_for_manager-requires-clause-lawful c = c.in_ok-message.ensures.fit c.args.self.now.labels c.requires.sound

pub returns-then-is_switchboard-clause-gives : goal.returns-then-is_switchboard-clause-gives
returns-then-is_switchboard-clause-gives c =
    let b = c.args.boot.now in
    given_as c.take_for_board.result _ _ _
    (took_board (one_kernel b c.args.self.now) (one_kernel b c.take_message.new.self) c.args.id c.in_ok-message.message (c.in_ok-message.ensures.out b) (c.in_ok-message.ensures.gives b) (sym c.is_switchboard.ensures ∙ c.if-is_switchboard.true))
    (c.take_for_board.ensures.steps b)

pub returns-then-is_switchboard-clause-sound : goal.returns-then-is_switchboard-clause-sound
returns-then-is_switchboard-clause-sound c = subst (λ n. OnOk c.take_for_board.result (IsSound (n + 1) c.take_for_board.new.self)) c.in_ok-message.ensures.stays.labels c.take_for_board.ensures.sound

pub returns-then-is_manager-clause-gives : goal.returns-then-is_manager-clause-gives
returns-then-is_manager-clause-gives c =
    let b = c.args.boot.now in
    given_as c.take_for_manager.result _ _ _
    (took_manager (one_kernel b c.args.self.now) (one_kernel b c.take_message.new.self) c.args.id c.in_ok-message.message (c.in_ok-message.ensures.out b) (c.in_ok-message.ensures.gives b) (sym c.is_switchboard.ensures ∙ c.if-is_switchboard.false) (sym c.is_manager.ensures ∙ c.if-is_manager.true))
    (c.take_for_manager.ensures.steps b (record { machines = c.in_ok-message.ensures.stays.machines ∙ c.requires.of.machines; images = c.in_ok-message.ensures.stays.images ∙ c.requires.of.images }))

pub returns-then-is_manager-clause-sound : goal.returns-then-is_manager-clause-sound
returns-then-is_manager-clause-sound c = subst (λ n. OnOk c.take_for_manager.result (IsSound (n + 1) c.take_for_manager.new.self)) c.in_ok-message.ensures.stays.labels c.take_for_manager.ensures.sound

pub returns-clause-gives : goal.returns-clause-gives
returns-clause-gives c =
    let b = c.args.boot.now in
    took_nobody (one_kernel b c.args.self.now) c.args.id c.in_ok-message.message (c.in_ok-message.ensures.gives b) (sym c.is_switchboard.ensures ∙ c.if-is_switchboard.false) (sym c.is_manager.ensures ∙ c.if-is_manager.false)
