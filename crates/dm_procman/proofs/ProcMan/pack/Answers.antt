use Rattle.dm_procman.proofs.Names.{◌≡◌, ◌∙◌, subst, IfOk, Addr, List, Managing, Pending}
use Rattle.std.specs.Prelude.{OnOk}
use Rattle.std.specs.List.{All}
use Rattle.dm_packet.specs.Widths.{FitsAddr}
use Rattle.dm_statebytes.specs.Servers.{FitCounts}
use Rattle.dm_procman.specs.Packed.{FitsRequest, manager_parts, manager_spelling, parts_of}
use Rattle.dm_procman.proofs.Loops.{fits_of, packed_again, same_parts}
use Rattle.dm_procman.proofs.ProcMan.pack.Goals as goal

pub returns-clause-ok : goal.returns-clause-ok
unfolding manager_spelling
returns-clause-ok c =
    let s = c.self.inside in
    let put = same_parts c.manager_bytes.result (λ v. v.items) (s.sent, s.moves) c.as_slice-children.result.now s.children s.board c.as_slice-requests.result.now s.pending c.as_slice-children.ensures (c.as_slice-requests.ensures.value ∙ c.in_ok-pending.ensures) c.manager_bytes.ensures.put in
    subst (λ (g : Managing). IfOk c.manager_bytes.result (λ v. v.items ≡ manager_parts.spell (parts_of g))) c.self.view_is put

pub returns-clause-again : goal.returns-clause-again
returns-clause-again c =
    let s = c.self.inside in
    let r = c.manager_bytes.result in
    let is = c.self.view_is in
    let put = same_parts r (λ v. v.items) (s.sent, s.moves) c.as_slice-children.result.now s.children s.board c.as_slice-requests.result.now s.pending c.as_slice-children.ensures (c.as_slice-requests.ensures.value ∙ c.in_ok-pending.ensures) c.manager_bytes.ensures.put in
    let counts = subst (λ (g : Managing). FitCounts (g.sent, g.moves)) is c.manager_bytes.ensures.counts in
    let board = subst (λ (g : Managing). FitsAddr g.board) is c.manager_bytes.ensures.board in
    let children = subst (λ (g : Managing). OnOk r (All FitsAddr g.children)) is (subst (λ (cs : List Addr). OnOk r (All FitsAddr cs)) c.as_slice-children.ensures c.manager_bytes.ensures.children) in
    let pending = subst (λ (g : Managing). OnOk r (All FitsRequest g.pending)) is (subst (λ (rs : List Pending). OnOk r (All FitsRequest rs)) (c.as_slice-requests.ensures.value ∙ c.in_ok-pending.ensures) c.manager_bytes.ensures.pending) in
    packed_again r (λ v. v.items) c.args.self.now (subst (λ (g : Managing). IfOk r (λ v. v.items ≡ manager_parts.spell (parts_of g))) is put)
    (fits_of r c.args.self.now counts board children pending c.requires.few) c.requires.lawful
