-- Each message stands where its receiver is known, if it lives; and nothing waits for a process where it isn't.
use Rattle.std.specs.Prelude.{◌≡◌, ◌≢◌, ℕ, ◌<◌, ◌≤◌, Bool, true, false, ◌==◌, is_some, []}
use Rattle.std.specs.declared.option.Option.TheVariants.{Some}
use Rattle.dm_link.specs.declared.Pid.{Pid}
use Rattle.dm_message.specs.declared.MsgId.{MsgId}
use Rattle.dm_message.specs.declared.kind.MessageKind.TheVariants as kind
use Rattle.dm_law_rule.specs.Addresses.{Holder, Receiver, Sender}
use Rattle.dm_law_rule.specs.Homes.{names}
use Rattle.dm_law_rule.specs.Point.{Point}
use Rattle.dm_law_rule.specs.Trails.{is_alive}
use Rattle.dm_law_rule.specs.Spots.{Spot, Queue, Held, Inbox, Untaken, standing}
use Rattle.dm_law_rule.specs.View.{View, Known, Unknown, Here, Frozen, Incoming, Forward, Told, Target, is_kernels}

-- the machine that a message comes to from a spot
abbrev pub machine_of : Spot → ℕ
machine_of (Queue m p) = m
machine_of (Held m p) = m
machine_of (Inbox m) = m
machine_of (Untaken a b) = b

-- kernels never move
abbrev pub is_fixed : Pid → Bool
is_fixed q = q.num == 0

-- each message stands where its address leads and its receiver is known, if it lives; and addresses and what machines know name
-- machines that there are
pub record Found (pt : Point) : Type 0 where
  -- whatever stands somewhere was told of
  pub told : (i : MsgId) (z : Spot) → 1 ≤ standing pt.view i z → is_some (pt.view.told i) ≡ true
  -- it stands where its address leads
  pub at_ : (i : MsgId) (z : Spot) → 1 ≤ standing pt.view i z → (pt.addresses (Receiver i)).at ≡ machine_of z
  -- there its receiver is known, if it lives, as servers do; a kernel is at home
  pub process : (i : MsgId) (z : Spot) (t : Told) → 1 ≤ standing pt.view i z → pt.view.told i ≡ Some t → is_fixed t.receiver ≡ false → is_alive pt.kernel t.receiver ≡ true → pt.view.known (machine_of z) t.receiver ≢ Unknown
  pub fixed : (i : MsgId) (z : Spot) (t : Told) → 1 ≤ standing pt.view i z → pt.view.told i ≡ Some t → is_fixed t.receiver ≡ true → machine_of z ≡ t.receiver.home
  -- each address, and whatever machines know of others, names a machine that there is
  pub within : (h : Holder) (q : Pid) → names pt.kernel h ≡ Some q → (pt.addresses h).at < pt.kernel.machines
  pub own_within : (i : MsgId) (t : Told) → pt.view.told i ≡ Some t → is_kernels i ≡ true → (pt.addresses (Receiver i)).at < pt.kernel.machines
  pub asker_within : (i : MsgId) (t : Told) → pt.view.told i ≡ Some t → is_kernels i ≡ true → t.kind ≡ kind.Migrate → (pt.addresses (Sender i)).at < pt.kernel.machines
  pub target_within : (i : MsgId) (t : Told) (m : ℕ) → pt.view.told i ≡ Some t → t.about ≡ Target m → m < pt.kernel.machines
  pub forward_within : (m k j : ℕ) (p : Pid) → pt.view.known m p ≡ Forward k j → k < pt.kernel.machines
  pub frozen_within : (m k : ℕ) (p : Pid) → pt.view.known m p ≡ Frozen k → k < pt.kernel.machines
  pub incoming_within : (m k : ℕ) (p : Pid) → pt.view.known m p ≡ Incoming k → k < pt.kernel.machines
  pub known_within : (m : ℕ) (p : Pid) → pt.view.known m p ≢ Unknown → m < pt.kernel.machines

-- a queue only where a process is or leaves; held messages only where it leaves or comes
abbrev pub has_no_queue : Known → Bool
has_no_queue Unknown = true
has_no_queue Here = false
has_no_queue (Frozen to) = false
has_no_queue (Incoming from) = true
has_no_queue (Forward at moves) = true

abbrev pub has_nothing_held : Known → Bool
has_nothing_held Unknown = true
has_nothing_held Here = true
has_nothing_held (Frozen to) = false
has_nothing_held (Incoming from) = false
has_nothing_held (Forward at moves) = true

pub record ListsStand (v : View) : Type 0 where
  pub queue : (m : ℕ) (p : Pid) → has_no_queue (v.known m p) ≡ true → v.queue m p ≡ []
  pub held : (m : ℕ) (p : Pid) → has_nothing_held (v.known m p) ≡ true → v.held m p ≡ []
