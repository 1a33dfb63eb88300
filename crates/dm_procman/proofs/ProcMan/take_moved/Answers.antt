-- The answer is made before the request is settled, and says the same.
use Rattle.std.specs.Prelude.{is_some}
use Rattle.dm_procman.proofs.Names.{ap, sym, ◌∙◌, ◌+◌, if◌then◌else◌, Bool, Some, Managing, settled, [], takes_moved, code_of_outcome}
use Rattle.dm_procman.proofs.Answering.{settles}
use Rattle.dm_procman.proofs.ProcMan.take_moved.Goals as goal

pub returns-clause-exact : goal.returns-clause-exact
returns-clause-exact c =
    let g = c.args.self.now in
    let n = c.args.number in
    let r = c.request_numbered-request.result in
    let counted : Bool → Managing = λ b. record (settled g n) { sent = if b then g.sent + 1 else g.sent } in
    ap (takes_moved c.args.here g n c.args.outcome) c.request_numbered-request.ensures
    ∙ ap Some (settles c.args.here n g c.settle.new.self r.answer (code_of_outcome c.args.outcome) [] c.in_ok-answer.answer (rw (sym c.code.ensures) c.in_ok-answer.ensures) (c.settle.ensures ∙ ap counted c.is_some.ensures))
