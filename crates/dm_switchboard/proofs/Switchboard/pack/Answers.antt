use Rattle.dm_switchboard.proofs.Imports.{◌≡◌, subst, Board, IfOk}
use Rattle.std.specs.Prelude.{OnOk}
use Rattle.dm_switchboard.specs.Packed.{FitsBoard, HaveOwnNames, board, board_spelling}
use Rattle.dm_switchboard.proofs.Loops.{packed_again}
use Rattle.dm_switchboard.proofs.Switchboard.pack.Goals as goal

pub returns-clause-ok : goal.returns-clause-ok
unfolding board_spelling
returns-clause-ok c = subst (λ (b : Board). IfOk c.board_bytes.result (λ v. v.items ≡ board.spell b)) c.self.view_is c.board_bytes.ensures.put

pub returns-clause-apart : goal.returns-clause-apart
returns-clause-apart c = subst (λ (b : Board). HaveOwnNames b.names) c.self.view_is c.board_bytes.ensures.apart

pub returns-clause-again : goal.returns-clause-again
returns-clause-again c =
    packed_again c.board_bytes.result (λ v. v.items) c.args.self.now
    (subst (λ (b : Board). IfOk c.board_bytes.result (λ v. v.items ≡ board.spell b)) c.self.view_is c.board_bytes.ensures.put)
    (subst (λ (b : Board). OnOk c.board_bytes.result (FitsBoard b)) c.self.view_is c.board_bytes.ensures.fits)
    (subst (λ (b : Board). HaveOwnNames b.names) c.self.view_is c.board_bytes.ensures.apart)
    c.requires.lawful
