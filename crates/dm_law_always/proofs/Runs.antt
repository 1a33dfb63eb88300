-- All that holds wherever the rule leads, migrations included.
use Rattle.dm_law_always.proofs.Names.{◌≡◌, ℕ, ◌≤◌, true, false, length, None, Some, Pid, MsgId, Boot, ascends, Point, times, Told, Phased, KernelFits, Found, KnownStands, is_server}
use Rattle.dm_law_always.proofs.Based.Noted.{Away}
use Rattle.dm_law_always.proofs.Based.Queues.{LiveLists}
use Rattle.dm_law_always.proofs.Queued.{IsQueued}
use Rattle.dm_law_always.proofs.Found.Always.{FoundBy}

-- what the kernel without machines and the lines say of processes and of what waits for them
pub record Based (b : Boot) (pt : Point) : Type 0 where
  -- pairs, where messages stand, what was told of them, and how far each migration has come
  pub phased : Phased pt
  pub fits : KernelFits pt.kernel
  pub images : pt.kernel.images ≡ b.images
  pub machines : pt.kernel.machines ≡ length b.machines
  pub format : pt.kernel.format ≡ b.format
  -- a queue has user messages for its process, and a held list has messages for it
  pub queued : (n : ℕ) (p : Pid) (i : MsgId) → 1 ≤ times i (pt.view.queue n p) → IsQueued (phased.state.e i) p (pt.kernel.bag i)
  pub held : (n : ℕ) (p : Pid) (i : MsgId) → 1 ≤ times i (pt.view.held n p) → (t : Told) × (pt.view.told i ≡ Some t) × (t.receiver ≡ p)
  -- a queue only where a process is or leaves, of those that haven't ended; held messages only where it leaves or comes
  pub lists : LiveLists pt.kernel pt.view
  pub known : KnownStands pt.kernel pt.view
  -- what follows a request to move is here on no machine
  pub noted : Away None pt.kernel pt.view
  -- the manager's pending requests stand in the order in which it sent them
  pub pending : ascends 0 pt.kernel.manager.pending pt.kernel.manager.sent ≡ true
  -- what was never made, and is no server, has never moved
  pub unmoved : (p : Pid) → is_server p ≡ false → pt.kernel.processes p ≡ None → pt.view.moves p ≡ 0

-- and where messages stand
pub record Run (b : Boot) (pt : Point) : Type 0 where
  pub based : Based b pt
  pub found : Found pt
  -- by what each group keeps
  pub kept : FoundBy pt
