-- Nothing is known of how far it was looked through.
use Rattle.dm_process.proofs.Names.{ℕ, List, refl, subst, sym, arith}
use Rattle.dm_process.proofs.Passed.{none_passed}
use Rattle.dm_process.specs.Passed.{ArePassed}
use Rattle.dm_process.proofs.mailbox.Mailbox.new.Goals as goal

pub invariant_of-result : goal.invariant_of-result
invariant_of-result c = record { last = record { within = omega arith; none = refl }; others = subst (λ (places : List ℕ). ArePassed places c.new.result) (sym c.new-2.ensures) (none_passed c.new.result) }
