-- A process that is looked at stays as it is.
use Rattle.dm_kernel.proofs.Names.{◌≡◌, ◌∙◌, Some, ap, sym, at, process_in, with_record, Here, Process, kernel_state, known_is_runnable}
use Rattle.dm_resident.specs.declared.Resident.TheVariants as resident
use Rattle.dm_kernel.proofs.Known.{has_some, here_runs, none_runs, same_state, set_again}
use Rattle.dm_kernel.proofs.Rounds.{here_does}
use Rattle.dm_kernel.proofs.kernel.Kernel.service_of.Goals as goal

pub returns-in-Some-clause-unchanged : goal.returns-in-Some-clause-unchanged
returns-in-Some-clause-unchanged c =
    let x = c.in-Some.process.now in
    let was : process_in (at c.args.self.now.records c.args.pid) ≡ Some x = sym c.in-Some.ensures.value in
    let set = c.process_mut.follows.holds c.service.new.self (has_some _ x was) in
    same_state (kernel_state c.args.self.now) _ _ (λ q.
    set.0 q
    ∙ ap (λ (y : Process). with_record (at c.args.self.now.records) c.args.pid (Here (resident.Process y)) q) c.service.ensures.unchanged
    ∙ set_again (at c.args.self.now.records) c.args.pid x was q) set.1

pub returns-in-Some-clause-runnable : goal.returns-in-Some-clause-runnable
returns-in-Some-clause-runnable c =
    let x = c.in-Some.process.now in
    let was : process_in (at c.args.self.now.records c.args.pid) ≡ Some x = sym c.in-Some.ensures.value in
    c.service.ensures.runnable
    ∙ sym (here_runs (at c.args.self.now.records c.args.pid) x was)
    ∙ sym (ap known_is_runnable (
    (c.process_mut.follows.holds c.service.new.self (has_some _ x was)).0 c.args.pid
    ∙ ap (λ (y : Process). with_record (at c.args.self.now.records) c.args.pid (Here (resident.Process y)) c.args.pid) c.service.ensures.unchanged
    ∙ set_again (at c.args.self.now.records) c.args.pid x was c.args.pid
    ))

pub returns-in-Some-clause-service : goal.returns-in-Some-clause-service
returns-in-Some-clause-service c =
    let x = c.in-Some.process.now in
    let was : process_in (at c.args.self.now.records c.args.pid) ≡ Some x = sym c.in-Some.ensures.value in
    here_does (at c.args.self.now.records c.args.pid) _ x c.service.result was (
    (c.process_mut.follows.holds c.service.new.self (has_some _ x was)).0 c.args.pid
    ∙ ap (λ (y : Process). with_record (at c.args.self.now.records) c.args.pid (Here (resident.Process y)) c.args.pid) c.service.ensures.unchanged
    ∙ set_again (at c.args.self.now.records) c.args.pid x was c.args.pid
    ) c.service.ensures.service

pub returns-in-None-clause-unchanged : goal.returns-in-None-clause-unchanged
returns-in-None-clause-unchanged c = same_state (kernel_state c.args.self.now) _ _ c.process_mut.follows.holds-at-none.0 c.process_mut.follows.holds-at-none.1

pub returns-in-None-clause-runnable : goal.returns-in-None-clause-runnable
returns-in-None-clause-runnable c =
    sym (ap known_is_runnable (c.process_mut.follows.holds-at-none.0 c.args.pid) ∙ none_runs (at c.args.self.now.records c.args.pid) (sym c.in-None.ensures.value))
