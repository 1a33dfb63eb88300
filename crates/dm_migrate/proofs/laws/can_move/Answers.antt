use Rattle.dm_migrate.proofs.Way.{board_can_move, manager_can_move, process_can_move}
use Rattle.dm_migrate.proofs.laws.can_move.Goals as goal

pub returns-clause-process : goal.returns-clause-process
returns-clause-process g = process_can_move

pub returns-clause-board : goal.returns-clause-board
returns-clause-board g = board_can_move

pub returns-clause-manager : goal.returns-clause-manager
returns-clause-manager g = manager_can_move
