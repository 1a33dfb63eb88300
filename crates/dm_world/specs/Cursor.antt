-- How far a directive has come: what is left to do then, and how much that can be at most.
use Rattle.std.specs.Prelude.{◌≡◌, ◌≢◌, ⊤, ℕ, ◌+◌, ◌-◌, ◌*◌, ◌^◌, ◌<◌, ◌≤◌, Bool, true, false, nat_lt, if◌then◌else◌, IsSome, List, [], ◌∷◌, ◌++◌, drop, length}
use Rattle.std.specs.declared.option.Option.{Option}
use Rattle.std.specs.declared.option.Option.TheVariants.{None, Some}
use Rattle.dm_wire.specs.Sent.{Sent}
use Rattle.dm_onekernel.specs.declared.boot.Boot.{Boot}
use Rattle.dm_schedule.specs.declared.Step.{Step}
use Rattle.dm_schedule.specs.declared.Step.TheVariants as step
use Rattle.dm_schedule.specs.declared.Directive.{Directive}
use Rattle.dm_schedule.specs.declared.Directive.TheVariants as directive
use Rattle.dm_line.specs.Each.{sum_below}
use Rattle.dm_line.specs.declared.pass.Pass.{Pass}
use Rattle.dm_line.specs.declared.pass.Pass.TheVariants.{Round, Settle, Rest}
use Rattle.dm_line.specs.Todo.{Next, Todo, Two, all_of, below, in_pass, next_delivery, next_directive, next_pass, next_turn, or, is_over, pairs_of, pairs_with, takes_turn}
use Rattle.dm_world.specs.declared.cursor.Cursor.{Cursor}
use Rattle.dm_world.specs.declared.cursor.Cursor.TheVariants.{One, Passing}
use Rattle.dm_world.specs.declared.cursor.Place.{Place}
use Rattle.dm_world.specs.declared.cursor.Place.TheVariants.{Packets, Turns, End}
use Rattle.dm_world.specs.Next.{world_has_mail, world_next_step, world_seen, world_undelivered}
use Rattle.dm_world.specs.World.{Said, Says, WorldState, world_step}

-- the ordered pairs of n machines from this one on
unfoldable pub pairs_at : ℕ → ℕ → ℕ → List Two
pairs_at n a c = if nat_lt a n then pairs_with a (drop c (below n)) ++ pairs_of (drop (a + 1) (below n)) (below n) else []

-- the pairs and the machines that are left of a pass
abbrev pub pairs_left : ℕ → Place → List Two
pairs_left n (Packets from to) = pairs_at n from to
pairs_left n (Turns m) = []
pairs_left n End = []

abbrev pub machines_left : ℕ → Place → List ℕ
machines_left n (Packets from to) = below n
machines_left n (Turns m) = drop m (below n)
machines_left n End = []

-- what is left to do, with further directives behind it
abbrev pub todo_at : ℕ → Pass → Place → List Directive → Todo
todo_at n p place ds = record { pairs = pairs_left n place; machines = machines_left n place; pass = p; directives = ds }

abbrev pub todo_of : ℕ → Cursor → List Directive → Todo
todo_of n (One s) ds = all_of (directive.One s ∷ ds)
todo_of n (Passing p place) ds = todo_at n p place ds

abbrev pub as_next : ℕ → List Directive → Option (Step × Cursor) → Option Next
as_next n ds None = None
as_next n ds (Some r) = Some (record { step = r.0; left = todo_of n r.1 ds })

-- the step that comes next, if one does, with how far the directive has come then
abbrev pub found : Bool → Step → Cursor → Option (Step × Cursor)
found is s c = if is then Some (s, c) else None

-- the step that comes next and what is left behind it, or none is left of the directive
abbrev pub NextIs : ℕ → WorldState → Cursor → List Directive → Option (Step × Cursor) → Type 0
NextIs n w c ds r = world_next_step n w (todo_of n c ds) ≡ or (as_next n ds r) (world_next_step n w (all_of ds))

-- the same of the pass itself, and of the passes behind it
abbrev pub InPassIs : ℕ → WorldState → Pass → Place → List Directive → Option (Step × Cursor) → Type 0
InPassIs n w p place ds r = in_pass (world_seen n w) (todo_at n p place ds) (next_delivery (world_undelivered w) (pairs_left n place)) ≡ as_next n ds r

abbrev pub NextPassIs : ℕ → WorldState → Pass → List Directive → Option (Step × Cursor) → Type 0
NextPassIs n w p ds r =
    is_over n (world_seen n w) p ≡ false → next_pass n (world_seen n w) p ds ≡ or (as_next n ds r) (next_directive n (world_seen n w) ds)

-- the first packet that was never delivered, of the pairs from this one on
abbrev pub found_at : ℕ → ℕ × ℕ × ℕ → Step × List Two
found_at n p = (step.Deliver p.0 p.1 p.2, pairs_at n p.0 p.1)

abbrev pub FirstIs : ℕ → WorldState → List Two → Option (ℕ × ℕ × ℕ) → Type 0
FirstIs n w ps None = next_delivery (world_undelivered w) ps ≡ None
FirstIs n w ps (Some p) = next_delivery (world_undelivered w) ps ≡ Some (found_at n p)

-- of the pairs from machine a to the machines from c on, with others behind them
abbrev pub row_at : ℕ → ℕ → ℕ → List Two → List Two
row_at n a c rest = pairs_with a (drop c (below n)) ++ rest

abbrev pub RowIs : ℕ → WorldState → ℕ → ℕ → List Two → Option (ℕ × ℕ) → Type 0
RowIs n w a c rest None = next_delivery (world_undelivered w) (row_at n a c rest) ≡ next_delivery (world_undelivered w) rest
RowIs n w a c rest (Some p) = next_delivery (world_undelivered w) (row_at n a c rest) ≡ Some (step.Deliver a p.0 p.1, row_at n a p.0 rest)

-- the first machine from this one on that takes its turn in a pass
abbrev pub turn_at : ℕ → Option ℕ → Todo → Option Next
turn_at n None t = None
turn_at n (Some k) t = Some (record { step = step.Turn k; left = record t { pairs = []; machines = drop (k + 1) (below n) } })

abbrev pub FirstTurnIs : ℕ → WorldState → Pass → ℕ → Option ℕ → Type 0
FirstTurnIs n w p m o = (t : Todo) → next_turn (takes_turn p (world_seen n w)) t (drop m (below n)) ≡ turn_at n o t

pub record TakesTurn (n : ℕ) (w : WorldState) (p : Pass) (m k : ℕ) : Type 0 where
  pub from : m ≤ k
  pub within : k < n
  pub takes : takes_turn p (world_seen n w) k ≡ true

-- a round isn't over before the turns
abbrev pub RoundGoes : {A : Type 0} → Pass → Option A → Type 0
RoundGoes (Round k) o = IsSome o
RoundGoes Settle o = ⊤
RoundGoes (Rest k) o = ⊤

-- how many packets of a wire were delivered; there can't be as many as 2 ^ 64 packets
abbrev pub seen_count : List Sent → ℕ
seen_count [] = 0
seen_count (p ∷ ps) = (if p.seen then 1 else 0) + seen_count ps

abbrev pub room_of : WorldState → ℕ → ℕ → ℕ
room_of w a c = 2 ^ 64 - seen_count (w.wires a c)

-- how many packets of n machines can still be delivered that weren't yet
unfoldable pub room : ℕ → WorldState → ℕ
room n w = sum_below (λ a. sum_below (λ c. room_of w a c) n) n

-- how many turns are left of a pass
abbrev pub turns_at : ℕ → Place → ℕ
turns_at n (Packets from to) = n
turns_at n (Turns m) = n - m
turns_at n End = 0

-- how many turns are left of rounds or of the passes of a rest, or the one directive; the turns of a settle aren't counted here
abbrev pub turns_of : ℕ → Cursor → ℕ
turns_of n (One s) = 1
turns_of n (Passing (Round k) place) = turns_at n place + n * k
turns_of n (Passing Settle place) = 0
turns_of n (Passing (Rest k) place) = turns_at n place + n * k

-- how many steps can be left of a directive at most, the turns of a settle aside
abbrev pub left : ℕ → WorldState → Cursor → ℕ
left n w c = room n w + turns_of n c

-- a step that is done leaves fewer, or no more
abbrev pub LeavesFewer : ℕ → WorldState → Cursor → Step → Cursor → Type 0
LeavesFewer n w c e after = (b : Boot) (s : Said) → world_step b w e ≡ Some (Says s) → left n s.state after < left n w c

abbrev pub LeavesNoMore : ℕ → WorldState → Cursor → Step → Cursor → Type 0
LeavesNoMore n w c e after = (b : Boot) (s : Said) → world_step b w e ≡ Some (Says s) → left n s.state after ≤ left n w c

-- packet k from machine a to machine c was never delivered
pub record IsFresh (n : ℕ) (w : WorldState) (a c k : ℕ) : Type 0 where
  pub from : a < n
  pub to : c < n
  pub apart : a ≢ c
  pub first : world_undelivered w a c ≡ Some k
  pub short : length (w.wires a c) < 2 ^ 64

-- a settle goes on with a packet that was never delivered, or with the turn of a machine that has mail
abbrev pub IsSettling : Cursor → Type 0
IsSettling (One s) = ⊥
IsSettling (Passing (Round k) place) = ⊥
IsSettling (Passing Settle place) = ⊤
IsSettling (Passing (Rest k) place) = ⊥

abbrev pub SettleGoes : ℕ → WorldState → Cursor → Step → Cursor → Type 0
SettleGoes n w c (step.Turn m) after = (m < n) × (world_has_mail w m ≡ true) × LeavesNoMore n w c (step.Turn m) after
SettleGoes n w c (step.Deliver a b k) after = IsFresh n w a b k × LeavesFewer n w c (step.Deliver a b k) after
SettleGoes n w c (step.Tick m) after = ⊥
SettleGoes n w c (step.Migrate p m) after = ⊥
SettleGoes n w c (step.CallOff p m) after = ⊥

abbrev pub Falls : ℕ → WorldState → Cursor → Step → Cursor → Type 0
Falls n w (One s) e after = LeavesFewer n w (One s) e after
Falls n w (Passing (Round k) place) e after = LeavesFewer n w (Passing (Round k) place) e after
Falls n w (Passing Settle place) e after = IsSettling after × SettleGoes n w (Passing Settle place) e after
Falls n w (Passing (Rest k) place) e after = LeavesFewer n w (Passing (Rest k) place) e after
