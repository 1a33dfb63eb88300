use Rattle.dm_migrate.proofs.Names.{◌∙◌, ap, subst, sym, Option, Some, Process, IsLawfulProcess, IsLawfulResident, IsBody, IsComing, Parts, memory_in}
use Rattle.std.specs.Option.{IfSome}
use Rattle.dm_migrate.specs.declared.arriving.Body.{Body}
use Rattle.dm_migrate.proofs.arriving.Arriving.restart.Goals as goal
use Rattle.dm_migrate.proofs.arriving.Arriving.restart.Goals.{in-Some, in-None+in_ok-resident-in-None}
use Rattle.dm_migrate.proofs.Coming.{all_come, of_ok}

-- what is there, in the words of the fields, with this body
abbrev parts : (c : goal.After-drop-state-2) → Option Body → Parts
parts c o = record { pid = c.self.inside.pid; source = c.self.inside.source; moves = c.self.inside.moves; asker = c.self.inside.asker; cap = c.self.inside.cap; state = c.self.inside.state.items; memory = memory_in o; wanted = c.self.inside.wanted; held = c.self.inside.held.items }

pub returns-clause-lawful : goal.returns-clause-lawful
returns-clause-lawful c few =
    elim c.match-body.branch [
      | in-Some w ↦
          let body : Body = w.in-Some.body in
          let coming : IsComing (parts c (Some body)) = subst (λ (o : Option Body). IsComing (parts c o)) w.in-Some.is c.self.invariant.0 in
          let is_body : IsBody c.self.inside.cap body = subst (λ (o : Option Body). IfSome o (IsBody c.self.inside.cap)) w.in-Some.is c.self.invariant.1 in
          let lawful : IsLawfulProcess w.revive.result =
          subst (λ (p : Process). IsLawfulProcess p) (sym w.revive.ensures)
          (all_come (parts c (Some body)) w.unwrap-shell.result w.deref.result.now coming (ap (λ x. x.wanted) c.self.view_is ∙ c.requires) is_body.0 w.deref.ensures.value (sym w.unpack.ensures.exact ∙ w.unwrap-shell.ensures)
          (of_ok _ w.unpack.result w.unwrap-shell.result w.unwrap-shell.ensures w.unpack.ensures.found).0) in
          subst IsLawfulResident (sym w.resident-is) lawful
      | in-None+in_ok-resident-in-None w ↦ subst IsLawfulResident (sym w.resident-is) (w.in_ok-resident-in-None.ensures.lawful few)
    ]
