-- What a turn says before the messages that it sends are routed.
use Rattle.dm_law_mirror.proofs.Names.{◌≡◌, ◌≢◌, ℕ, ◌+◌, ◌≤◌, Bool, true, false, not, ◌==◌, ◌&&◌, List, [], ◌∷◌, ◌++◌, length, map, is_some, ⊤, Option, None, Some, Pid, place_of, kernel_at, Message, MsgId, MessageKind, Stage, kind_of}
use Rattle.dm_law_mirror.proofs.Names.{plain_message, Cargo, cargo_at, incoming_of, Boot, manager, Step, Line, Receiver, Sender, given, own_given, is_between, Point, after, moved, outcome, at_machine, Spot, Queue, Held, Inbox, Untaken}
use Rattle.dm_law_mirror.proofs.Names.{standing, Known, Here, Frozen, Incoming, Of, Told, own_id, id_of, pid_of, ap, arith, Placed, Mirrors, enclosed, KernelState, Turned, AllOwnStand, about_of, told_of, KernelStands, AllRecords, Carries}
use Rattle.dm_law_mirror.proofs.Names.{TokensStand, destination_of, Part, sort_of, ◌⊎◌, View, LeftCarries, is_due_piece, OneKernel, Why, pid_eq, if◌then◌else◌, turns, ◌∙◌, sym, subst, inl, inr, cases_Bool, pid_eq-is, why_ended, resident_at}
use Rattle.dm_onekernel.specs.Kernel as kernels
use Rattle.dm_law_mirror.proofs.Residents.{SameSystem}
use Rattle.dm_law_rule.specs.Parts as rule

-- behind the head of a turn
abbrev pub begun : Point → ℕ → Point
begun pt m = moved pt (Line.Head (Step.Turn m)) pt.kernel

-- a spot that isn't on machine m
abbrev pub is_elsewhere : ℕ → Spot → Bool
is_elsewhere m (Queue n p) = not (n == m)
is_elsewhere m (Held n p) = not (n == m)
is_elsewhere m (Inbox n) = not (n == m)
is_elsewhere m (Untaken a c) = true

-- a machine has a process or a server, holds it back or expects it
abbrev pub has_process : Known → Bool
has_process Here = true
has_process (Frozen to) = true
has_process (Incoming from) = true
has_process _ = false

-- what a turn on machine m leaves of the other machines and of the pairs, before its messages are routed
pub record Elsewhere (m : ℕ) (pt : Point) (l : Placed) (next : Point) (placed : Placed) : Type 0 where
  pub acting : next.view.acting ≡ m
  pub groups : next.view.groups ≡ pt.view.groups
  pub pair : (a c : ℕ) → next.view.pair a c ≡ pt.view.pair a c
  pub inbox : (n : ℕ) → n ≢ m → next.view.inbox n ≡ pt.view.inbox n
  pub ring : (n : ℕ) → n ≢ m → next.view.ring n ≡ pt.view.ring n
  pub known : (n : ℕ) (p : Pid) → n ≢ m → next.view.known n p ≡ pt.view.known n p
  pub queue : (n : ℕ) (p : Pid) → n ≢ m → next.view.queue n p ≡ pt.view.queue n p
  pub held : (n : ℕ) (p : Pid) → n ≢ m → next.view.held n p ≡ pt.view.held n p
  pub preds : (n : ℕ) (p : Pid) → n ≢ m → next.view.preds n p ≡ pt.view.preds n p
  pub count : (n : ℕ) → next.view.count n ≡ pt.view.count n
  pub told : next.view.told ≡ pt.view.told
  pub machines : next.kernel.machines ≡ pt.kernel.machines
  pub made : (n : ℕ) → n ≢ m → next.kernel.made n ≡ pt.kernel.made n
  -- what another machine has, holds back or expects stays, and so does who waits to hear of it
  pub resident : (n : ℕ) (p : Pid) → n ≢ m → has_process (pt.view.known n p) ≡ true → resident_at placed p ≡ resident_at l p
  pub notes : (n : ℕ) (p : Pid) → n ≢ m → has_process (pt.view.known n p) ≡ true → placed.notes p ≡ l.notes p
  -- the blocks of what another machine knows stay
  pub life : (n : ℕ) (p : Pid) → n ≢ m → has_process (pt.view.known n p) ≡ true → next.kernel.processes p ≡ pt.kernel.processes p
  -- a message that stands elsewhere stays
  pub bag : (i : MsgId) (s : Spot) → is_elsewhere m s ≡ true → 1 ≤ standing pt.view i s → placed.bag i ≡ l.bag i
  -- as many machines and images are known of
  pub system : SameSystem l placed

-- a message that is routed: one of the bag for the first time, one that goes on, or the next of the machine's kernel
pub data Route : Type 0 where
  First : (message : Message) → Route
  On : (message : Message) → Route
  Own : (message : Message) → Route

abbrev pub message_of : Route → Message
message_of (First x) = x
message_of (On x) = x
message_of (Own x) = x

-- the machine's parts, and the rule's
abbrev pub part_of : Route → Part
part_of r = Part.Routes (message_of r)

abbrev pub rule_part_of : Route → rule.Part
rule_part_of (First x) = rule.Routes x.id
rule_part_of (On x) = rule.Again x.id x.to.at
rule_part_of (Own x) = rule.Owns (kind_of x.what) x.to.pid x.to.at

-- a kernel's own message carries what it is to, where it is of a migration
pub record IsCarried (placed : Placed) (asked : ℕ) (records : AllRecords) (p : Pid) (x : Message) : Type 0 where
  pub cargo : Cargo
  pub there : cargo_at placed p ≡ Some cargo
  pub sender : x.sender ≡ kernel_at x.id.from.home
  pub carries : Carries p cargo asked (incoming_of (records (destination_of x.id (told_of x)) p)) x.what

-- or it is left over, as it is behind this point
pub record IsLeftOver (v : View) (placed : Placed) (p : Pid) (x : Message) : Type 0 where
  pub over : is_due_piece v p x.id (told_of x) ≡ false
  pub sender : x.sender ≡ kernel_at x.id.from.home
  pub carries : LeftCarries p (cargo_at placed p) x.what

-- the name of what the acting machine's kernel says behind so many other messages of its own
abbrev pub own_behind : View → ℕ → MsgId
own_behind v j = id_of (pid_of v.acting 0) (v.count v.acting + j)

-- the next of its own is behind none
pub own_first : (v : View) → own_id v ≡ own_behind v 0
own_first v = let e : v.count v.acting ≡ v.count v.acting + 0 = omega arith in ap (id_of (pid_of v.acting 0)) e

-- the machine's kernel may put this message behind so many others of its own, where the machines have these records
pub record MayOwn (pt : Point) (placed : Placed) (records : AllRecords) (j : ℕ) (x : Message) : Type 0 where
  pub id : x.id ≡ own_behind pt.view j
  pub plain : plain_message x ≡ None
  pub encloses : enclosed x.what ≡ []
  pub bag : placed.bag x.id ≡ None
  pub untold : pt.view.told x.id ≡ None
  pub receiver : given pt.addresses (own_given pt.kernel pt.view pt.addresses x.id x.to.pid (sort_of (kind_of x.what))) (Receiver x.id) ≡ place_of x.to
  pub sender : given pt.addresses (own_given pt.kernel pt.view pt.addresses x.id x.to.pid (sort_of (kind_of x.what))) (Sender x.id) ≡ place_of x.sender
  pub about : pt.view.topic ≡ about_of x.what
  -- a request to move a process is the manager's
  pub asker : kind_of x.what ≡ MessageKind.Migrate → x.sender.pid ≡ manager
  pub carried : is_between (kind_of x.what) ≡ true → (p : Pid) → about_of x.what ≡ Of p → IsCarried placed (pt.view.asked p) records p x ⊎ IsLeftOver pt.view placed p x

-- a message may be put, behind so many of the kernel's own
abbrev pub MayPut : Point → Placed → AllRecords → ℕ → Route → Type 0
MayPut pt placed records j (First x) = (placed.bag x.id ≡ Some x) × (is_some (plain_message x) ≡ true)
MayPut pt placed records j (On x) = (placed.bag x.id ≡ Some x) × ((t : Told) × (pt.view.told x.id ≡ Some t) × (t.kind ≡ kind_of x.what) × (t.receiver ≡ x.to.pid)) × (is_between (kind_of x.what) ≡ false)
MayPut pt placed records j (Own x) = MayOwn pt placed records j x

-- where a process leaves, its machine's last line and message stand behind the messages that go on
pub data Late : Type 0 where
  Nothing : Late
  Leaves : (process : Pid) → (restart : Message) → Late

abbrev pub late_parts : Late → List Part
late_parts Nothing = []
late_parts (Leaves p x) = Part.Says (Line.Migration Stage.Left p) ∷ Part.Routes x ∷ []

abbrev pub late_rule_parts : Late → List rule.Part
late_rule_parts Nothing = []
late_rule_parts (Leaves p x) = rule.Says (Line.Migration Stage.Left p) ∷ rule_part_of (Own x) ∷ []

abbrev pub late_point : Point → Late → Point
late_point pt Nothing = pt
late_point pt (Leaves p x) = moved pt (Line.Migration Stage.Left p) pt.kernel

-- how many of these are the kernel's own
abbrev pub is_own : Route → ℕ
is_own (Own x) = 1
is_own _ = 0

abbrev pub owns : List Route → ℕ
owns [] = 0
owns (r ∷ rs) = is_own r + owns rs

-- they may be put one after the other, behind so many of the kernel's own
abbrev pub AllMayPut : Point → Placed → AllRecords → ℕ → List Route → Type 0
AllMayPut pt placed records j [] = ⊤
AllMayPut pt placed records j (r ∷ rs) = MayPut pt placed records j r × AllMayPut pt placed records (j + is_own r) rs

abbrev pub late_owns : Late → ℕ
late_owns Nothing = 0
late_owns (Leaves p x) = 1

abbrev pub LateMay : Point → Placed → AllRecords → ℕ → Late → Type 0
LateMay pt placed records j Nothing = ⊤
LateMay pt placed records j (Leaves p x) = MayOwn pt placed records j x

-- the lines name the process that leaves before its messages go on
abbrev pub LateTopic : Point → Late → Type 0
LateTopic pt Nothing = ⊤
LateTopic pt (Leaves p x) = pt.view.topic ≡ Of p

-- who has ended behind a directive: nobody; or one process, by a turn, which the machine's kernel then says
pub data EndsSo (d : Step) (s t : OneKernel) (before now : Option (Pid × Why)) : Type 0 where
  NoneEnds : now ≡ before → ((q : Pid) → why_ended (t.processes q) ≡ why_ended (s.processes q)) → EndsSo d s t before now
  OneEnds : (m : ℕ) (p : Pid) (y : Why) → d ≡ Step.Turn m → now ≡ Some (p, y) → ((q : Pid) → why_ended (t.processes q) ≡ (if pid_eq p q then Some y else why_ended (s.processes q))) → EndsSo d s t before now

pub spared : (s t : OneKernel) (p : Pid) → ((q : Pid) → pid_eq p q ≡ false → t.processes q ≡ s.processes q) → why_ended (t.processes p) ≡ why_ended (s.processes p) → (q : Pid) → why_ended (t.processes q) ≡ why_ended (s.processes q)
spared s t p others same q = elim (cases_Bool (pid_eq p q)) [
  | inl is ↦ subst (λ (r : Pid). why_ended (t.processes r) ≡ why_ended (s.processes r)) (pid_eq-is p q is) same
  | inr off ↦ ap why_ended (others q off)
]

pub one_ends : (s t : OneKernel) (p : Pid) (y : Why) → ((q : Pid) → pid_eq p q ≡ false → t.processes q ≡ s.processes q) → t.processes p ≡ Some (kernels.Ended y) → (q : Pid) → why_ended (t.processes q) ≡ (if pid_eq p q then Some y else why_ended (s.processes q))
one_ends s t p y others is q = elim (cases_Bool (pid_eq p q)) [
  | inl same ↦ subst (λ (r : Pid). why_ended (t.processes r) ≡ Some y) (pid_eq-is p q same) (ap why_ended is) ∙ sym (ap (λ (c : Bool). if c then Some y else why_ended (s.processes q)) same)
  | inr off ↦ ap why_ended (others q off) ∙ sym (ap (λ (c : Bool). if c then Some y else why_ended (s.processes q)) off)
]

-- machine m's turn, or its part in a directive to move a process, from a point with the head said, with this kernel with places, these
-- records of all machines and this kernel of the machine: what the kernel and the rule come to
pub record Turns (b : Boot) (m : ℕ) (d : Step) (turned : Option Turned) (pt start : Point) (l : Placed) (records : AllRecords) (k : KernelState) : Type 0 where
  pub state : KernelState
  pub says : List Line
  pub routes : List Route
  pub late : Late
  pub turn : turned ≡ Some (record { state = state; parts = map Part.Says says ++ map part_of routes ++ late_parts late })
  pub outcome : outcome b pt d ≡ Some (map rule.Says says ++ map rule_part_of routes ++ late_rule_parts late)
  pub next : Point
  pub after : after start says ≡ Some next
  pub placed : Placed
  pub mirrors : Mirrors next.kernel next.view next.addresses placed
  pub kernel : KernelStands b (late_point next late) placed m state
  -- the kernel of the machine has counted its own messages of this turn already
  pub sent : k.sent ≡ pt.view.count m → state.sent ≡ next.view.count m + (owns routes + late_owns late)
  pub over : EndsSo d pt.kernel next.kernel k.over state.over
  pub topic : LateTopic next late
  pub elsewhere : Elsewhere m start l (late_point next late) placed
  pub may : AllMayPut (late_point next late) placed (at_machine records m state.records) 0 routes
  pub late_may : LateMay (late_point next late) placed (at_machine records m state.records) (owns routes) late
  pub own : AllOwnStand (late_point next late).view placed
  pub tokens : TokensStand (late_point next late).view placed (at_machine records m state.records)

-- a row of a turn that is no migration's: it says labels, or that a message is queued or that the machine idles, and routes at most one
-- message of the bag, or tells predecessors that a process has ended; what moves stays as it is
abbrev pub is_moving : Known → Bool
is_moving (Frozen to) = true
is_moving (Incoming from) = true
is_moving _ = false

abbrev pub is_still : Line → Bool
is_still (Line.Label e) = true
is_still (Line.Queued id) = true
is_still (Line.Idle m) = true
is_still _ = false

abbrev pub are_still : List Line → Bool
are_still [] = true
are_still (l ∷ ls) = is_still l && are_still ls

abbrev pub routed : Option Message → List Part
routed None = []
routed (Some x) = Part.Routes x ∷ []

abbrev pub rule_routed : Option Message → List rule.Part
rule_routed None = []
rule_routed (Some x) = rule.Routes x.id ∷ []

abbrev pub IsSent : Placed → Option Message → Type 0
IsSent placed None = ⊤
IsSent placed (Some x) = (placed.bag x.id ≡ Some x) × (is_some (plain_message x) ≡ true)

-- what a row routes behind its lines: at most one message of the bag; or, where a process has ended, the kernel's own messages to its
-- predecessors
pub data Gives : Type 0 where
  Sends : (message : Option Message) → Gives
  Tells : (messages : List Message) → Gives

abbrev pub given_parts : Gives → List Part
given_parts (Sends o) = routed o
given_parts (Tells xs) = map Part.Routes xs

abbrev pub rule_own : Message → rule.Part
rule_own x = rule_part_of (Own x)

abbrev pub rule_given : Gives → List rule.Part
rule_given (Sends o) = rule_routed o
rule_given (Tells xs) = map rule_own xs

-- they may be put, where the kernel has counted its own messages as the lines have
abbrev pub AreGiven : ℕ → ℕ → Point → Placed → Gives → Type 0
AreGiven counted said next placed (Sends o) = IsSent placed o
AreGiven counted said next placed (Tells xs) = counted ≡ said → (records : AllRecords) → AllMayPut next placed records 0 (map Own xs)

-- and then it has counted these, too
abbrev pub AreCounted : ℕ → ℕ → Gives → Type 0
AreCounted before now (Sends o) = now ≡ before
AreCounted before now (Tells xs) = now ≡ before + length xs

pub record Row (b : Boot) (m : ℕ) (pt : Point) (l : Placed) (k : KernelState) : Type 0 where
  pub state : KernelState
  pub says : List Line
  pub route : Gives
  pub turn : turns b k k.inbox ≡ Some (record { state = state; parts = map Part.Says says ++ given_parts route })
  pub outcome : outcome b pt (Step.Turn m) ≡ Some (map rule.Says says ++ rule_given route)
  pub next : Point
  pub after : after (begun pt m) says ≡ Some next
  pub placed : Placed
  pub mirrors : Mirrors next.kernel next.view next.addresses placed
  pub kernel : KernelStands b next placed m state
  pub elsewhere : Elsewhere m (begun pt m) l next placed
  pub sent : AreGiven k.sent (pt.view.count m) next placed route
  pub still : are_still says ≡ true
  pub over : EndsSo (Step.Turn m) pt.kernel next.kernel k.over state.over
  -- it counts the kernel's own messages, and what leaves or comes here stays
  pub count : AreCounted k.sent state.sent route
  pub moving : (p : Pid) → is_moving (pt.view.known m p) ≡ true → (resident_at placed p ≡ resident_at l p) × (state.records p ≡ k.records p) × (placed.notes p ≡ l.notes p)
  -- the kernels' own messages stay
  pub own : (i : MsgId) (x : Message) → plain_message x ≡ None → l.bag i ≡ Some x → placed.bag i ≡ Some x
  pub own_back : (i : MsgId) (x : Message) → plain_message x ≡ None → placed.bag i ≡ Some x → l.bag i ≡ Some x

abbrev pub TurnsAt : Boot → ℕ → Point → Placed → AllRecords → KernelState → Type 0
TurnsAt b m pt l records k = Turns b m (Step.Turn m) (turns b k k.inbox) pt (begun pt m) l records k
