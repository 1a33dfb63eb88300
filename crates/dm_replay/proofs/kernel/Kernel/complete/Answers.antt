use Rattle.std.specs.Prelude.{◌≡◌, ◌++◌, [], ◌∷◌, List, slice_get}
use Rattle.std.proofs.Common.{ap, arith, subst, sym, ◌∙◌}
use Rattle.dm_message.specs.declared.Message.{Message}
use Rattle.dm_onekernel.specs.Plain.{plain_process}
use Rattle.dm_onekernel.specs.Options.{bind}
use Rattle.dm_onekernel.specs.Receiving.{completes_with}
use Rattle.dm_onekernel.specs.Step.{at_hand}
use Rattle.dm_process.specs.declared.process.Process.{Process}
use Rattle.dm_process.specs.Lawful.{IsLawfulProcess}
use Rattle.dm_syscall.specs.Completing.{IsAwaited, plain_completed}
use Rattle.dm_replay.specs.State.{one_kernel}
use Rattle.dm_replay.proofs.Completing.{IsPlainly, awaits_it, comes_so, completing_as, completing_not, no_place, placed, queue_lawful}
use Rattle.dm_replay.proofs.Keeping.{completion_completes}
use Rattle.dm_replay.proofs.Receives.{not_for}
use Rattle.dm_replay.proofs.Rows.{passes, refused}
use Rattle.dm_replay.proofs.kernel.Kernel.complete.Goals as goal

pub returns-in_err-process-clause-gives : goal.returns-in_err-process-clause-gives
returns-in_err-process-clause-gives c = λ b.
    let s = one_kernel b c.args.self.now in
    passes c.from_residual.result c.in_err-process.field-0.0 _ _ c.from_residual.ensures (refused c.in_err-process.field-0.0 (at_hand s c.args.pid) (λ x. bind (s.bag c.args.id) (completes_with c.args.pid x)) (c.in_err-process.ensures.gives b))

pub returns-in_err-message-clause-gives : goal.returns-in_err-message-clause-gives
returns-in_err-message-clause-gives c = λ b.
    passes c.from_residual-in_err-message.result c.in_err-message.field-0.0 _ _ c.from_residual-in_err-message.ensures
    (completing_not (one_kernel b c.args.self.now) (one_kernel b c.take_at_hand.new.self) c.args.pid c.args.id (plain_process c.in_ok-process.process) c.in_err-message.field-0.0 (c.in_ok-process.ensures.out b) (c.in_ok-process.ensures.gives b) (c.in_err-message.ensures.gives b))

pub returns-then-not-is_for-clause-gives : goal.returns-then-not-is_for-clause-gives
returns-then-not-is_for-clause-gives c = λ b.
    completing_as (one_kernel b c.args.self.now) (one_kernel b c.take_at_hand.new.self) c.args.pid c.args.id (plain_process c.in_ok-process.process) c.in_ok-message.message (c.in_ok-process.ensures.out b) (c.in_ok-process.ensures.gives b) (c.in_ok-message.ensures.gives b)
    ∙ not_for c.args.pid c.in_ok-process.process c.in_ok-message.message (sym c.is_for.ensures ∙ c.if-not-is_for.true)

pub returns-in_default-clause-gives : goal.returns-in_default-clause-gives
returns-in_default-clause-gives c = λ b.
    let m : Message = c.in_ok-message.message in
    let y : Process = record c.in_ok-process.process { queue = c.push.new.self } in
    let queue : y.queue ≡ m ∷ [] = c.in_ok-push.ensures.ok ∙ ap (λ (q : List Message). q ++ c.in_ok-parcel.parcel ∷ []) c.new.ensures ∙ ap (λ (x : Message). x ∷ []) c.in_ok-parcel.ensures in
    completing_as (one_kernel b c.args.self.now) (one_kernel b c.take_at_hand.new.self) c.args.pid c.args.id (plain_process c.in_ok-process.process) m (c.in_ok-process.ensures.out b) (c.in_ok-process.ensures.gives b) (c.in_ok-message.ensures.gives b)
    ∙ no_place c.args.pid c.service.result y m (sym c.place_of.ensures ∙ c.in_default.is) c.service.ensures.runnable c.service.ensures.service queue

pub complete_receive-completed-requires-clause-lawful : goal.complete_receive-completed-requires-clause-lawful
complete_receive-completed-requires-clause-lawful c =
    let m : Message = c.in_ok-message.message in
    let y : Process = record c.in_ok-process.process { queue = c.push.new.self } in
    let queue : y.queue ≡ m ∷ [] = c.in_ok-push.ensures.ok ∙ ap (λ (q : List Message). q ++ c.in_ok-parcel.parcel ∷ []) c.new.ensures ∙ ap (λ (x : Message). x ∷ []) c.in_ok-parcel.ensures in
    let sound = c.in_ok-process.ensures.sound c.args.self.now.labels c.requires.sound in
    subst IsLawfulProcess (sym c.service.ensures.unchanged)
    (queue_lawful c.in_ok-process.process c.push.new.self m queue (c.in_ok-message.ensures.fit c.args.self.now.labels sound) (c.in_ok-process.ensures.fit c.args.self.now.labels c.requires.sound).lawful)

pub complete_receive-completed-requires-clause-awaited : goal.complete_receive-completed-requires-clause-awaited
complete_receive-completed-requires-clause-awaited c =
    let m : Message = c.in_ok-message.message in
    let y : Process = record c.in_ok-process.process { queue = c.push.new.self } in
    let queue : y.queue ≡ m ∷ [] = c.in_ok-push.ensures.ok ∙ ap (λ (q : List Message). q ++ c.in_ok-parcel.parcel ∷ []) c.new.ensures ∙ ap (λ (x : Message). x ∷ []) c.in_ok-parcel.ensures in
    let k = placed c.service.result y c.in-Some.place (sym c.place_of.ensures ∙ c.in-Some.is) c.service.ensures.runnable c.service.ensures.service in
    subst (λ (z : Process). IsAwaited z.status (slice_get z.queue c.in-Some.place)) (sym c.service.ensures.unchanged) (awaits_it y m k.mask c.in-Some.place queue k.takes)

pub returns-clause-gives : goal.returns-clause-gives
returns-clause-gives c = λ b.
    let m : Message = c.in_ok-message.message in
    let y : Process = record c.in_ok-process.process { queue = c.push.new.self } in
    let queue : y.queue ≡ m ∷ [] = c.in_ok-push.ensures.ok ∙ ap (λ (q : List Message). q ++ c.in_ok-parcel.parcel ∷ []) c.new.ensures ∙ ap (λ (x : Message). x ∷ []) c.in_ok-parcel.ensures in
    let k = placed c.service.result y c.in-Some.place (sym c.place_of.ensures ∙ c.in-Some.is) c.service.ensures.runnable c.service.ensures.service in
    let same = c.service.ensures.unchanged in
    let fit = c.in_ok-process.ensures.fit c.args.self.now.labels c.requires.sound in
    completing_as (one_kernel b c.args.self.now) (one_kernel b c.take_at_hand.new.self) c.args.pid c.args.id (plain_process c.in_ok-process.process) m (c.in_ok-process.ensures.out b) (c.in_ok-process.ensures.gives b) (c.in_ok-message.ensures.gives b)
    ∙ comes_so c.args.pid y m k.mask c.in-Some.place (plain_completed c.complete_receive-completed.result c.complete_receive-completed.new.process) queue k.takes k.runnable fit.pid (sym c.is_for.ensures ∙ c.if-not-is_for.false)
    (subst (λ (z : Process). IsPlainly z c.in-Some.place (plain_completed c.complete_receive-completed.result c.complete_receive-completed.new.process)) same c.complete_receive-completed.ensures.plain)

pub returns-clause-fit : goal.returns-clause-fit
returns-clause-fit c =
    let fit = c.in_ok-process.ensures.fit c.args.self.now.labels c.requires.sound in
    let d = completion_completes c.service.new.self c.in-Some.place c.service.new.self.status _ _ c.complete_receive-completed.ensures.exact in
    let same = c.service.ensures.unchanged in
    let few = fit.sent in
    let sent = d.sent ∙ ap (λ (z : Process). z.sent) same in
    record { pid = d.pid ∙ ap (λ (z : Process). z.pid) same ∙ fit.pid; lawful = c.complete_receive-completed.ensures.lawful; sent = omega (arith, few, sent) }

pub returns-clause-sound : goal.returns-clause-sound
returns-clause-sound c = c.in_ok-process.ensures.sound c.args.self.now.labels c.requires.sound
