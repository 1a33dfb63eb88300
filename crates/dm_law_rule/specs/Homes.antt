-- As long as nothing moves, or is asked to: each address names the home of its process, with count 0, and each message stands where its
-- receiver is at home.
use Rattle.std.specs.Prelude.{◌≡◌, ℕ, ◌+◌, Bool, true, false, ◌==◌, ◌&&◌, nat_le, List, [], ◌∷◌, slice_get}
use Rattle.std.specs.declared.option.Option.{Option}
use Rattle.std.specs.declared.option.Option.TheVariants.{None, Some}
use Rattle.dm_link.specs.declared.Pid.{Pid}
use Rattle.dm_link.specs.Plain.{PlainLink}
use Rattle.dm_message.specs.declared.MsgId.{MsgId}
use Rattle.dm_message.specs.Plain as what
use Rattle.dm_message.specs.Plain.{PlainMessage, PlainWhat}
use Rattle.dm_onekernel.specs.Kernel.{MoveNote, Pending, OneKernel}
use Rattle.dm_law_rule.specs.Point.{Point}
use Rattle.dm_law_rule.specs.Spots.{untaken}
use Rattle.dm_law_rule.specs.Addresses.{Holder, Receiver, Sender, Enclosed, AskedBy, unmoved, link_target, leads_to}

-- the links of a message
abbrev pub links_in : PlainWhat → List PlainLink
links_in (what.User code channel body links) = links
links_in (what.Create image links) = links
links_in what.Stop = []
links_in what.Resume = []
links_in what.Kill = []
links_in (what.Read base len) = []
links_in (what.Write base bytes) = []
links_in (what.Block bytes) = []
links_in what.Written = []
links_in what.Gone = []
links_in (what.Created pid) = []
links_in what.NoRoom = []
links_in (what.Move machine) = []
links_in (what.Moved outcome) = []

abbrev pub to_of : Option PlainMessage → Option Pid
to_of None = None
to_of (Some m) = Some m.to

abbrev pub sender_of : Option PlainMessage → Option Pid
sender_of None = None
sender_of (Some m) = Some m.sender

abbrev pub enclosed_of : Option PlainMessage → ℕ → Option PlainLink
enclosed_of None k = None
enclosed_of (Some m) k = slice_get (links_in m.what) k

-- who asked a process to move
abbrev pub asker_in : Option MoveNote → Option Pid
asker_in None = None
asker_in (Some n) = Some n.asker

-- whom a holder's address is of
abbrev pub names : OneKernel → Holder → Option Pid
names s (Receiver id) = to_of (s.bag id)
names s (Sender id) = sender_of (s.bag id)
names s (Enclosed id k) = link_target (enclosed_of (s.bag id) k)
names s (AskedBy p) = asker_in (s.notes p)
names s h = leads_to s h

-- each process of these has this home
abbrev pub are_home : ℕ → List Pid → Bool
are_home m [] = true
are_home m (p ∷ ps) = (p.home == m) && are_home m ps

-- each message of these that is in the bag has a receiver of this home
abbrev pub is_for_home : ℕ → Option PlainMessage → Bool
is_for_home m None = true
is_for_home m (Some x) = x.to.home == m

abbrev pub are_for_home : OneKernel → ℕ → List MsgId → Bool
are_for_home s m [] = true
are_for_home s m (i ∷ is) = is_for_home m (s.bag i) && are_for_home s m is

-- the numbers of these requests ascend, from so much on and below so much
abbrev pub ascends : ℕ → List Pending → ℕ → Bool
ascends from [] to = nat_le from to
ascends from (r ∷ rs) to = nat_le from r.n && ascends (r.n + 1) rs to

-- no process has moved, and no machine forwards to another: each address, and whatever waits on a machine, is of a process whose home
-- that is
pub record Homes (pt : Point) : Type 0 where
  pub home : (h : Holder) (q : Pid) → names pt.kernel h ≡ Some q → pt.addresses h ≡ unmoved q.home
  pub moves : (p : Pid) → pt.view.moves p ≡ 0
  pub preds : (m n : ℕ) (p : Pid) → pt.view.preds m p n ≡ false
  pub ring : (m : ℕ) → are_home m (pt.view.ring m) ≡ true
  pub inbox : (m : ℕ) → are_for_home pt.kernel m (pt.view.inbox m) ≡ true
  pub queue : (m : ℕ) (p : Pid) → are_for_home pt.kernel m (pt.view.queue m p) ≡ true
  -- the manager's pending requests stand in the order in which it sent them
  pub pending : ascends 0 pt.kernel.manager.pending pt.kernel.manager.sent ≡ true
  pub untaken : (a m : ℕ) → are_for_home pt.kernel m (untaken (pt.view.pair a m)) ≡ true
