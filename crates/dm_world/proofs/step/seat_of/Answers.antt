use Rattle.dm_world.proofs.Names.{◌≡◌, ◌<◌, NodeState, is_some, length, arith, ap, sym, refl, ◌∙◌, node_in, node_state, manager, manager_in, seat_of}
use Rattle.dm_records.specs.Records.{at}
use Rattle.dm_kernel.specs.declared.kernel.Kernel.{Kernel}
use Rattle.dm_world.proofs.Nodes.{node_at}
use Rattle.dm_world.proofs.Seats.{first_seat, has_manager, no_seat}
use Rattle.dm_world.proofs.step.seat_of.Goals as goal

pub loop-place-init : goal.loop-place-init
loop-place-init c = λ b. refl

pub returns-then-has_manager : goal.returns-then-has_manager
returns-then-has_manager c = λ b.
    let nodes = c.args.nodes.now in
    let i = c.loop-place.place in
    let within : i < length nodes = omega (arith, c.loop-place-test.true) in
    let state : node_state c.index-nodes-place.result ≡ node_in b nodes i = ap node_state c.index-nodes-place.is ∙ node_at b nodes i i c.index-nodes-place.result refl within in
    let kernel : c.kernel.result.now ≡ c.index-nodes-place.result.kernel = c.kernel.ensures in
    let there : has_manager (node_in b nodes) i ≡ is_some (manager_in (at c.index-nodes-place.result.kernel.records manager)) = ap (λ (n : NodeState). is_some (manager_in (n.kernel.records manager))) (sym state) in
    let was : is_some (manager_in (at c.index-nodes-place.result.kernel.records manager)) ≡ is_some (manager_in (at c.kernel.result.now.records manager)) = ap (λ (k : Kernel). is_some (manager_in (at k.records manager))) (sym kernel) in
    sym (first_seat (length nodes) i (node_in b nodes) within (c.loop-place.invariant b) (there ∙ (was ∙ (sym c.has_manager.ensures ∙ c.if-has_manager.true))))

pub loop-place-preserved : goal.loop-place-preserved
loop-place-preserved c = λ b.
    let nodes = c.args.nodes.now in
    let i = c.loop-place.place in
    let within : i < length nodes = omega (arith, c.loop-place-test.true) in
    let state : node_state c.index-nodes-place.result ≡ node_in b nodes i = ap node_state c.index-nodes-place.is ∙ node_at b nodes i i c.index-nodes-place.result refl within in
    let kernel : c.kernel.result.now ≡ c.index-nodes-place.result.kernel = c.kernel.ensures in
    let there : has_manager (node_in b nodes) i ≡ is_some (manager_in (at c.index-nodes-place.result.kernel.records manager)) = ap (λ (n : NodeState). is_some (manager_in (n.kernel.records manager))) (sym state) in
    let was : is_some (manager_in (at c.index-nodes-place.result.kernel.records manager)) ≡ is_some (manager_in (at c.kernel.result.now.records manager)) = ap (λ (k : Kernel). is_some (manager_in (at k.records manager))) (sym kernel) in
    no_seat i (node_in b nodes) (c.loop-place.invariant b) (there ∙ (was ∙ (sym c.has_manager.ensures ∙ c.if-has_manager.false)))

pub returns : goal.returns
returns c = λ b.
    let nodes = c.args.nodes.now in
    let all : c.loop-place.place ≡ length nodes = omega (arith, c.loop-place.auto.place-end, c.loop-place-test.false) in
    sym (c.loop-place.invariant b) ∙ ap (λ k. seat_of k (node_in b nodes)) all
