-- Nothing of what is known changes where a message is taken.
use Rattle.dm_kernel.proofs.Names.{refl, subst, FrontMay, kernel_state}
use Rattle.dm_kernel.proofs.Known.{acts_still}
use Rattle.dm_kernel.proofs.LawfulTurns.{may_front}
use Rattle.dm_kernel.proofs.kernel.Kernel.turn.Goals as goal

pub handle-requires-clause-may : goal.handle-requires-clause-may
handle-requires-clause-may c =
    let s = kernel_state c.args.self.now in
    may_front c.args.boot.now s c.in-Some.message c.pop.new.self (subst (FrontMay c.args.boot.now s) c.in-Some.ensures c.requires.may.front)

pub handle-requires-clause-processes : goal.handle-requires-clause-processes
handle-requires-clause-processes c = λ p x h. acts_still (kernel_state c.args.self.now) _ p x refl (c.requires.may.processes p x h)

pub go_round-requires-clause-processes : goal.go_round-requires-clause-processes
go_round-requires-clause-processes c = λ p x h. acts_still (kernel_state c.args.self.now) _ p x refl (c.requires.may.processes p x h)
