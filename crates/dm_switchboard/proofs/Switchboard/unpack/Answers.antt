use Rattle.dm_switchboard.proofs.Imports.{arith}
use Rattle.dm_statebytes.proofs.Servers.{unpacked_found, unpacked_only}
use Rattle.dm_switchboard.specs.Packed.{IsSpelledBoard, board, board_of_bytes, board_spelling}
use Rattle.dm_switchboard.proofs.Packed.{board_is}
use Rattle.dm_switchboard.proofs.Switchboard.unpack.Goals as goal

pub returns-clause-found : goal.returns-clause-found
unfolding board_of_bytes board_spelling
returns-clause-found c = unpacked_found board IsSpelledBoard board_is c.args.bytes.now c.board_at.result (λ i. omega (arith, c.type_inv.bytes i)) c.board_at.ensures

pub returns-clause-only : goal.returns-clause-only
unfolding board_of_bytes board_spelling
returns-clause-only c = λ b fits spelled. unpacked_only board IsSpelledBoard board_is c.args.bytes.now c.board_at.result b c.board_at.ensures fits spelled
