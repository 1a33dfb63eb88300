-- The machines that each process has been on; that each address names one of them, at its place; and that from there the forwards lead
-- to the process.
use Rattle.std.specs.Prelude.{◌≡◌, ◌≢◌, ℕ, zero, suc, ◌+◌, ◌<◌, Bool, true, false, not, ◌&&◌, ◌||◌, nat_lt, is_some, List, [], ◌∷◌, ◌++◌, length, slice_get}
use Rattle.std.specs.declared.option.Option.{Option}
use Rattle.std.specs.declared.option.Option.TheVariants.{None, Some}
use Rattle.dm_link.specs.declared.Pid.{Pid}
use Rattle.dm_link.specs.Names.{Place}
use Rattle.dm_message.specs.declared.MsgId.{MsgId}
use Rattle.dm_message.specs.declared.kind.MessageKind.TheVariants as kind
use Rattle.dm_onekernel.specs.declared.boot.Boot.{Boot}
use Rattle.dm_onekernel.specs.Boot.{IsValid, manager}
use Rattle.dm_onekernel.specs.Kernel.{OneKernel}
use Rattle.dm_onekernel.specs.Options.{bind}
use Rattle.dm_onekernel.specs.Step as kernel
use Rattle.dm_schedule.specs.declared.Step.{Step}
use Rattle.dm_line.specs.declared.line.Line.{Line}
use Rattle.dm_law_rule.specs.Acts.{Act, act_of}
use Rattle.dm_law_rule.specs.Acts as act
use Rattle.dm_line.specs.Sets.{at_pid}
use Rattle.dm_law_rule.specs.View.{View, Told, Known, Unknown, Here, Frozen, Incoming, Forward, is_kernels}
use Rattle.dm_law_rule.specs.View as view
pub use Rattle.dm_law_rule.specs.View.{is_server}
use Rattle.dm_law_rule.specs.Addresses.{Addresses, Holder, Receiver, Sender}
use Rattle.dm_law_rule.specs.Homes.{names}
use Rattle.dm_law_rule.specs.Point.{Point, first_point, after_line}
use Rattle.dm_law_rule.specs.Parts.{Spelled}
use Rattle.dm_law_rule.specs.Rule.{group_of}
use Rattle.dm_law_rule.specs.Laws.{IsStep}
use Rattle.dm_law_rule.specs.Phases.{Phase, Nowhere, Rests, Over, Moves, is_restart}

-- the machines that a process has been on, in order: at place c the one where it was after c moves. From the moment that its
-- messages are sent on, the machine that it goes to is the last
abbrev pub Trails : Type 0
Trails = Pid → List ℕ

-- each process is made at home
abbrev pub first_trails : Trails
first_trails p = p.home ∷ []

abbrev pub destination : Known → List ℕ
destination (Frozen to) = to ∷ []
destination k = []

-- only where its messages are sent on
abbrev pub trails_by : View → Trails → Act → Trails
trails_by v t (act.AllGoOn p) = at_pid t p (t p ++ destination (v.known v.acting p))
trails_by v t x = t

abbrev pub trails_after : View → Trails → Line → Trails
trails_after v t l = trails_by v t (act_of l)

-- a point, and the trails so far
pub record Trodden : Type 0 where
  pub point : Point
  pub trails : Trails

abbrev pub first_trodden : Boot → Trodden
first_trodden b = record { point = first_point b; trails = first_trails }

abbrev pub along : Trodden → List Line → Option Trodden
along x [] = Some x
along x (l ∷ ls) = bind (after_line x.point l) (λ next. along (record { point = next; trails = trails_after x.point.view x.trails l }) ls)

-- a place is on the trail of a process: the machine where it was after so many moves
abbrev pub IsOn : Trails → Pid → Place → Type 0
IsOn t q place = slice_get (t q) place.moves ≡ Some place.at

-- a server, or a process that was made
abbrev pub is_made : OneKernel → Pid → Bool
is_made s p = is_server p || is_some (s.processes p)

-- a server, or a process that was made and hasn't ended
abbrev pub is_alive : OneKernel → Pid → Bool
is_alive s p = is_server p || is_some (kernel.alive (s.processes p))

-- what machines know of a process agrees with its trail
pub record Trail (lives : Bool) (v : View) (t : Trails) (p : Pid) : Type 0 where
  -- it begins at home
  pub begins : slice_get (t p) 0 ≡ Some p.home
  -- a forward names the machine at its place, which is behind each place where the forwarding machine stands
  pub named : (m k j : ℕ) → v.known m p ≡ Forward k j → slice_get (t p) j ≡ Some k
  pub behind : (m k j c : ℕ) → v.known m p ≡ Forward k j → slice_get (t p) c ≡ Some m → c < j
  -- where one machine knows a process that lives, each machine of its trail does
  pub kept : lives ≡ true → (m n c : ℕ) → v.known n p ≢ Unknown → slice_get (t p) c ≡ Some m → v.known m p ≢ Unknown

-- where a process is, or leaves from
abbrev pub phase_place : Pid → Phase → ℕ
phase_place p Nowhere = p.home
phase_place p (Rests at) = at
phase_place p (Over at) = at
phase_place p (Moves k s d id) = s

-- the machine where its messages were sent on to
abbrev pub next_if : Bool → ℕ → Option ℕ
next_if true d = Some d
next_if false d = None

abbrev pub next_in : Phase → Option ℕ
next_in Nowhere = None
next_in (Rests at) = None
next_in (Over at) = None
next_in (Moves k s d id) = next_if (is_restart k) d

abbrev pub rest_of : Option ℕ → ℕ
rest_of None = 0
rest_of (Some d) = 1

-- how long a trail is, and where it ends
pub record StoodOnTrail (v : View) (t : Trails) (p : Pid) (phase : Phase) : Type 0 where
  pub now : slice_get (t p) (v.moves p) ≡ Some (phase_place p phase)
  pub next : (d : ℕ) → next_in phase ≡ Some d → slice_get (t p) (v.moves p + 1) ≡ Some d
  pub long : length (t p) ≡ v.moves p + 1 + rest_of (next_in phase)
  pub unmade : phase ≡ Nowhere → v.moves p ≡ 0

-- each address is a place on the trail of the process that it is of
abbrev pub AddressesOn : OneKernel → Addresses → Trails → Type 0
AddressesOn s a t = (h : Holder) (q : Pid) → names s h ≡ Some q → IsOn t q (a h)

-- so are those of a kernel's own messages: where one goes, for a request to move a process who is told, and what an update says
pub record OwnOn (v : View) (a : Addresses) (t : Trails) : Type 0 where
  pub receiver : (i : MsgId) (u : Told) → is_kernels i ≡ true → v.told i ≡ Some u → IsOn t u.receiver (a (Receiver i))
  pub sender : (i : MsgId) (u : Told) → is_kernels i ≡ true → v.told i ≡ Some u → u.kind ≡ kind.Migrate → IsOn t manager (a (Sender i))
  pub about : (i : MsgId) (u : Told) (p : Pid) (m c : ℕ) → v.told i ≡ Some u → u.about ≡ view.Place p m c → slice_get (t p) c ≡ Some m
  pub topic : (p : Pid) (m c : ℕ) → v.topic ≡ view.Place p m c → slice_get (t p) c ≡ Some m

-- all of it, where the phases of the processes are known
pub record Trailed (pt : Point) (t : Trails) (of : Pid → Phase) : Type 0 where
  pub trail : (p : Pid) → Trail (is_alive pt.kernel p) pt.view t p
  pub stood : (p : Pid) → StoodOnTrail pt.view t p (of p)
  pub links : AddressesOn pt.kernel pt.addresses t
  pub own : OwnOn pt.view pt.addresses t

-- from a machine, with a count, the forwards lead with rising counts to where a process is here, frozen or incoming, within so many
-- steps; or, of one that has ended, to a machine that knows nothing of it
abbrev pub leads_on : Bool → Known → ℕ → (ℕ → ℕ → Bool) → Bool
leads_on over Unknown c next = over
leads_on over Here c next = true
leads_on over (Frozen to) c next = true
leads_on over (Incoming from) c next = true
leads_on over (Forward at moves) c next = nat_lt c moves && next moves at

abbrev pub leads : Bool → View → Pid → ℕ → ℕ → ℕ → Bool
leads over v p zero c m = leads_on over (v.known m p) c (λ d k. false)
leads over v p (suc n) c m = leads_on over (v.known m p) c (leads over v p n)

-- the rule leads from a point and its trails to others, group by group
abbrev pub LeadsAlong : Boot → Trodden → List Step → Trodden → Type 0
LeadsAlong b x [] end = x ≡ end
LeadsAlong b x (e ∷ es) end = (w : Spelled) × (y : Trodden) × IsStep x.point.kernel.machines e × (group_of b x.point e ≡ Some w) × (along x w.lines ≡ Some y) × LeadsAlong b y es end

-- wherever the rule leads, each address names a machine at its place of the trail of its process, and from there the forwards
-- lead to the process in fewer steps than there are machines; or, where it has ended, to a machine without a record
abbrev pub TrailsAlways : Type 0
TrailsAlways =
    (b : Boot) (es : List Step) (x : Trodden) (h : Holder) (q : Pid) (n : ℕ) → IsValid b → LeadsAlong b (first_trodden b) es x → names x.point.kernel h ≡ Some q → is_made x.point.kernel q ≡ true → x.point.kernel.machines ≡ suc n
    → IsOn x.trails q (x.point.addresses h) × (leads (not (is_alive x.point.kernel q)) x.point.view q n (x.point.addresses h).moves (x.point.addresses h).at ≡ true)
