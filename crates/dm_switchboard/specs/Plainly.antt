-- What the switchboard does, without places.
use Rattle.std.specs.declared.option.Option.{Option}
use Rattle.std.specs.declared.option.Option.TheVariants.{Some}
use Rattle.dm_message.specs.Plain.{PlainMessage, plain_message}
use Rattle.dm_onekernel.specs.Options.{bind}
use Rattle.dm_onekernel.specs.Switchboard as one
use Rattle.dm_switchboard.specs.declared.Took.{Took}
use Rattle.dm_switchboard.specs.Board.{Board, plain_board}

-- the board and the answer, as the kernel without machines has them
abbrev pub plain_taken : Board → Took → Option one.BoardTook
plain_taken b t = Some (record { switchboard = plain_board b; answer = bind t.answer plain_message })

-- what the kernel without machines makes of the message
abbrev pub plainly_taken : Board → Option PlainMessage → Option one.BoardTook
plainly_taken b m = bind m (λ m. one.board_takes (plain_board b) m m.what)
