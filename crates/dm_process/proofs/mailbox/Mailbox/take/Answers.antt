-- What was looked through before it stays so.
use Rattle.dm_process.proofs.Names.{ℕ, ◌<◌, List, length, remove, subst, sym, Message, HasPassed}
use Rattle.dm_process.proofs.Passed.{taken_passed}
use Rattle.dm_process.proofs.Search.{taken}
use Rattle.dm_process.specs.Passed.{ArePassed}
use Rattle.dm_process.proofs.mailbox.Mailbox.take.Goals as goal

pub invariant_of-self : goal.invariant_of-self
invariant_of-self c =
    let b = c.self.inside in
    let there : c.args.place < length b.messages = subst (λ (ms : List Message). c.args.place < length ms) (sym c.self.view_is) c.requires in
    record {
      last = subst (HasPassed b.mask c.min-self-inside.result) (sym c.take.ensures.rest)
          (subst (λ (n : ℕ). HasPassed b.mask n (remove b.messages c.args.place)) (sym c.min-self-inside.ensures) (taken b.mask b.messages b.passed c.args.place there c.self.invariant.last));
      others = subst (ArePassed c.shift.new.self) (sym c.take.ensures.rest) (taken_passed c.args.place b.places c.shift.new.self b.messages c.shift.ensures c.self.invariant.others);
    }
