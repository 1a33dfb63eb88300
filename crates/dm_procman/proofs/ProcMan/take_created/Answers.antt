-- The answer is made before the child is added and the request is settled, and says the same.
use Rattle.std.specs.Prelude.{is_some}
use Rattle.dm_procman.proofs.Names.{ap, sym, ◌∙◌, ◌+◌, ◌++◌, ◌∷◌, [], if◌then◌else◌, Bool, Some, Link, Managing, answers_over, at_home, settled, takes_created}
use Rattle.dm_procman.proofs.Answering.{childless, settles}
use Rattle.dm_procman.proofs.ProcMan.take_created.Goals as goal

pub returns-clause-exact : goal.returns-clause-exact
returns-clause-exact c =
    let g = c.args.self.now in
    let n = c.args.number in
    let link = c.request_numbered-request.result.answer in
    let control = c.next_control-control.result in
    let children = g.children ++ at_home c.args.pid ∷ [] in
    let h : Managing = record g { children = children } in
    let counted : Bool → Managing = λ b. record (settled h n) { sent = if b then h.sent + 1 else h.sent } in
    let behind : Managing → Managing = λ x. record (settled x n) { sent = if c.is_some.result then x.sent + 1 else x.sent } in
    ap (takes_created c.args.here g n c.args.pid) c.request_numbered-request.ensures
    ∙ ap (λ (l : Link). Some (answers_over c.args.here (settled h n) link 0 (l ∷ []))) (sym c.next_control-control.ensures)
    ∙ ap Some
    (settles c.args.here n h c.settle.new.self link 0 (control ∷ []) c.in_ok-answer.answer (c.in_ok-answer.ensures ∙ childless c.args.here g children link 0 (control ∷ []))
    (c.settle.ensures ∙ ap behind c.in_ok-add_child.ensures.ok ∙ ap counted c.is_some.ensures))
