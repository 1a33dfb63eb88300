-- What a server takes fits it.
use Rattle.dm_kernel.proofs.Names.{◌≡◌, ℕ, ◌<◌, length, What, kind_of, IsForManager, Board, Managing, KernelState, FitsBoard, FitsManager, most}
use Rattle.dm_message.specs.declared.What.TheVariants as what
use Rattle.dm_message.specs.declared.kind.MessageKind.TheVariants as kind

pub user_fits : (s : KernelState) (v : Board) (w : What) → kind_of w ≡ kind.User → v.sent < most → FitsBoard s v w
user_fits s v (what.User code channel body links) e few = few
user_fits s v w e few = absurd (cc)

pub managed_fits : (s : KernelState) (v : Managing) (n : ℕ) (w : What) → IsForManager v n w → v.sent < most → length v.children < most → FitsManager s v n w
managed_fits s v n (what.Update about) h sent children = absurd h
managed_fits s v n (what.Migrate machine) h sent children = absurd h
managed_fits s v n w h sent children = (h, sent, children)
