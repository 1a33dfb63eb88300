-- Each message of a migration that stands anywhere is the one that is under way of a process that moves, or is left over.
use Rattle.dm_law_moves.proofs.Names.{token_is, run_always, ProtocolMoves, ◌≡◌, ap, ◌∙◌, sym, subst, inl, inr, Some, Told, MessageKind, Moves, IsIn, told_between, Token, LeftOver, token_at}

pub protocol_moves : ProtocolMoves
protocol_moves b es pt i t z valid leads told between stands =
    let phases = (run_always b es pt valid leads).run.based.phased.phases in
    let (p, about, which) = token_is pt.view phases i t z told between stands in
    elim which [
      | Token k s d is ↦
          (let token = token_at pt.view p (phases.of p) k s d i is (phases.each p) in
          let f : Some t ≡ Some (told_between p k s d) = sym told ∙ token.told in
          let same : t ≡ told_between p k s d = cc in
          let kind_is : t.kind ≡ k = ap (λ (x : Told). x.kind) same in
          inl (record { process = p; about = about; source = s; destination = d; moves = subst (λ (c : MessageKind). IsIn pt.view p (Moves c s d (Some i))) (sym kind_is) (subst (IsIn pt.view p) is (phases.each p)) }))
      | LeftOver left ↦ inr (record { process = p; phase = phases.of p; is = phases.each p; left = left })
    ]
