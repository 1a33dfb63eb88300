use Rattle.std.specs.Prelude.{◌+◌}
use Rattle.std.proofs.Common.{ap, arith, subst, sym, ◌∙◌}
use Rattle.std.specs.declared.option.Option.TheVariants.{Some}
use Rattle.dm_message.specs.Plain.{plain_message}
use Rattle.dm_onekernel.specs.Kernel.{OneKernel}
use Rattle.dm_onekernel.specs.Plain.{plain_process}
use Rattle.dm_datamove.specs.declared.Landed.{Landed}
use Rattle.dm_datamove.specs.Landing.{plain_landed, plainly_landed}
use Rattle.dm_process.specs.declared.process.Process.{Process}
use Rattle.dm_replay.specs.Serving.{lands_at}
use Rattle.dm_replay.specs.State.{one_kernel, put_in}
use Rattle.dm_replay.proofs.Giving.{becomes_gives}
use Rattle.dm_replay.proofs.Keeping.{landing_lands}
use Rattle.dm_replay.proofs.Pieces.{IsSaidLanded, landed_puts, landing_said}
use Rattle.dm_replay.proofs.Rows.{weaker}
use Rattle.dm_replay.proofs.Serves.{awaited, not_awaited}
use Rattle.dm_replay.proofs.kernel.Kernel.land_piece.Goals as goal

pub returns-then-not-awaits-clause-steps : goal.returns-then-not-awaits-clause-steps
returns-then-not-awaits-clause-steps c = λ b.
    ap (lands_at (one_kernel b c.args.self.now) c.args.message.now.to.pid) (not_awaited c.args.process c.args.message.now (sym c.awaits.ensures ∙ c.if-not-awaits.true))

pub land-requires-clause-lawful : goal.land-requires-clause-lawful
land-requires-clause-lawful c = c.requires.fit.lawful

pub land-requires-clause-awaited : goal.land-requires-clause-awaited
land-requires-clause-awaited c = awaited c.args.process.status c.args.message.now (sym c.awaits.ensures ∙ c.if-not-awaits.false)

pub land-requires-clause-counts : goal.land-requires-clause-counts
land-requires-clause-counts c = omega (arith, c.requires.fit.sent, c.requires.room)

pub returns-in-Next-clause-steps : goal.returns-in-Next-clause-steps
returns-in-Next-clause-steps c = λ b.
    let y : Process = c.land.new.process in
    let g = c.in-Next.request in
    becomes_gives c.put_message.result b c.put_back.new.self c.put_message.new.self (λ (u : OneKernel). put_in u (Some g)) _ c.put_message.ensures.state c.put_message.ensures.memory
    (landed_puts (one_kernel b c.args.self.now) (one_kernel b c.put_back.new.self) c.args.message.now.to.pid (plain_process y) g (plainly_landed c.args.process (plain_message c.args.message.now))
    (sym (ap (λ (l : Landed). plain_landed l y) c.in-Next.is) ∙ c.in_ok-landed.ensures.plain)
    (subst IsSaidLanded c.in-Next.is (landing_said 0 c.args.process c.args.message.now.what c.args.process.status _ c.in_ok-landed.ensures.exact)) (c.put_back.ensures.state b))

pub returns-in-Next-clause-sound : goal.returns-in-Next-clause-sound
returns-in-Next-clause-sound c =
    let k = landing_lands 0 c.args.process c.args.message.now.what c.args.process.status _ c.in_ok-landed.ensures.exact in
    let few = c.requires.fit.sent in
    let more = k.sent in
    c.put_message.ensures.sound (c.args.self.now.labels + 1)
    (c.put_back.ensures.sound (c.args.self.now.labels + 1) (weaker c.args.self.now.labels (c.args.self.now.labels + 1) c.args.self.now (omega arith) c.requires.sound)
    (record { pid = k.pid ∙ c.requires.fit.pid; lawful = c.in_ok-landed.ensures.lawful; sent = omega (arith, few, more) }))

pub returns-in-Done-clause-steps : goal.returns-in-Done-clause-steps
returns-in-Done-clause-steps c = λ b.
    let y : Process = c.land.new.process in
    ap (lands_at (one_kernel b c.args.self.now) c.args.message.now.to.pid) (sym c.in_ok-landed.ensures.plain ∙ ap (λ (l : Landed). plain_landed l y) c.in-Done.is) ∙ ap Some (sym (c.put_back.ensures.state b))

pub returns-in-Done-clause-sound : goal.returns-in-Done-clause-sound
returns-in-Done-clause-sound c =
    let k = landing_lands 0 c.args.process c.args.message.now.what c.args.process.status _ c.in_ok-landed.ensures.exact in
    let few = c.requires.fit.sent in
    let more = k.sent in
    c.put_back.ensures.sound (c.args.self.now.labels + 1) (weaker c.args.self.now.labels (c.args.self.now.labels + 1) c.args.self.now (omega arith) c.requires.sound)
    (record { pid = k.pid ∙ c.requires.fit.pid; lawful = c.in_ok-landed.ensures.lawful; sent = omega (arith, few, more) })
