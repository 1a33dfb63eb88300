-- The servers begin on what is bare.
use Rattle.dm_kernel.proofs.Names.{bare, kernel_state}
use Rattle.dm_kernel.proofs.Opening.{empty_in, is_state}
use Rattle.dm_kernel.proofs.kernel.Kernel.empty.Goals as goal

pub returns : goal.returns
returns c =
    empty_in c.begin_servers.new.self c.args.boot.now c.args.here (kernel_state c.bare-kernel.result)
    (is_state c.bare-kernel.result (bare c.args.boot.now c.args.here) c.bare-kernel.ensures)
    c.in_ok-begin_servers.ensures
