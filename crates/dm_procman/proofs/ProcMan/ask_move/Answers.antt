use Rattle.dm_procman.proofs.Names.{sym, subst, ap, ◌∙◌, IfOk, Option, Addr, IsLawfulMessage, Managing, known_address, tells_to_move}
use Rattle.dm_procman.proofs.Lawful.{moves_lawful}
use Rattle.dm_procman.proofs.ProcMan.ask_move.Goals as goal

pub returns-clause-lawful : goal.returns-clause-lawful
returns-clause-lawful c l here to h a =
    let is =
    c.move_message.ensures
    ∙ ap (λ (o : Option Addr). tells_to_move c.args.here c.self.inside.moves c.args.id c.args.to o) c.address_of.ensures
    ∙ ap (λ (g : Managing). tells_to_move c.args.here g.moves c.args.id c.args.to (known_address c.args.here c.args.self.now c.args.pid)) c.self.view_is
    in
    subst (λ r. IfOk r IsLawfulMessage) (sym is) (moves_lawful c.args.here c.args.self.now c.args.pid c.args.to c.args.id l here to h a)
