-- The process can be served, and nothing was changed to see it; those before it stay idle.
use Rattle.dm_kernel.proofs.Names.{◌≡◌, ◌∙◌, ap, refl, subst, sym, Some, true, at, IsServiceOf, Process, MeetsSome, CanTellAll, MayAct, kernel_state, IsHere, KernelState, first_runnable, known_is_runnable, AreIdle}
use Rattle.dm_kernel.proofs.Idling.{first_can, idle_moved, remembers, serves_idle, went_round}
use Rattle.dm_kernel.proofs.Known.{can_serve, holds_at}
use Rattle.dm_kernel.proofs.kernel.Kernel.go_round.Goals as goal

pub serve-requires-clause-process : goal.serve-requires-clause-process
serve-requires-clause-process c =
    let k = c.first_service.new.self in
    let p = c.at-pid.result.now in
    let same = c.first_service.ensures.unchanged in
    can_serve (kernel_state k) _ p c.in-Some.service (at k.records p) refl (subst CanTellAll (sym same) c.requires.sent)
    (λ x h. subst (λ (s : KernelState). MayAct s p x) (sym same) (c.requires.processes p x (sym (ap (λ (s : KernelState). s.records p) same) ∙ h)))
    (holds_at (λ q. IsHere (λ (x : Process). IsServiceOf x c.in-Some.service) (at k.records q)) _ p c.at-pid.ensures c.in-Some.ensures.service)

pub returns-in_ok-parts-in-Some-clause-answers : goal.returns-in_ok-parts-in-Some-clause-answers
returns-in_ok-parts-in-Some-clause-answers c =
    let k = c.first_service.new.self in
    let p = c.at-pid.result.now in
    let first : first_runnable (at k.records) k.ring ≡ Some p = sym c.in-Some.ensures.first ∙ c.at-pid.ensures in
    remembers c.serve.new.self c.in_ok-parts-in-Some.parts.items c.in-Some.place _
    (subst (MeetsSome c.serve.new.self c.in_ok-parts-in-Some.parts.items)
    (went_round c.args.boot.now (kernel_state c.args.self.now) (kernel_state k) c.move_back.new.ring p c.first_service.ensures.unchanged first (c.move_back.ensures p c.at-pid.ensures)) c.in_ok-parts-in-Some.ensures)

pub returns-in_ok-parts-in-Some-clause-idle : goal.returns-in_ok-parts-in-Some-clause-idle
returns-in_ok-parts-in-Some-clause-idle c =
    let k = c.first_service.new.self in
    let p = c.at-pid.result.now in
    let place = c.in-Some.place in
    let can : known_is_runnable (at k.records p) ≡ true = first_can (at k.records) k.ring p (sym c.in-Some.ensures.first ∙ c.at-pid.ensures) in
    let moved : AreIdle (at k.records) c.move_back.new.ring place =
    subst (λ r. AreIdle (at k.records) r place) (sym (c.move_back.ensures p c.at-pid.ensures)) (idle_moved (at k.records) k.ring place p c.at-pid.ensures can c.in-Some.ensures.before)
    in
    serves_idle c.serve.new.self c.in_ok-parts-in-Some.parts.items c.args.boot.now.quantum (record (kernel_state k) { ring = c.move_back.new.ring }) p place can moved c.in_ok-parts-in-Some.ensures
