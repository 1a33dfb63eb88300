use Rattle.dm_kernel.specs.Begun as kernel
use Rattle.dm_kernel.specs.Meets as kernels
use Rattle.dm_node.proofs.Beginnings.{begun}
use Rattle.dm_node.proofs.Parts.{kernel_is}
use Rattle.dm_node.proofs.node.Node.new.Goals as goal

pub returns-clause-state : goal.returns-clause-state
returns-clause-state c =
    let b = c.args.boot.now in
    let k = c.in_ok-kernel.kernel in
    begun (kernels.kernel_state k) c.len.result c.in_ok-senders.senders.items c.in_ok-receivers.receivers.items b c.args.here
    (kernel_is k (kernel.opened b c.args.here) c.in_ok-kernel.ensures.state) c.len.ensures c.in_ok-senders.ensures c.in_ok-receivers.ensures
