-- The directives that may be chosen at a place, in order; those that wear a pair of machines are among them.
use Rattle.std.specs.Prelude.{ℕ, Bool, true, false, not, ◌==◌, ◌&&◌, ◌||◌, nat_lt, if◌then◌else◌, List, [], ◌∷◌, ◌++◌, filter, map}
use Rattle.std.specs.List.{flat_map}
use Rattle.dm_schedule.specs.declared.Step.{Step}
use Rattle.dm_schedule.specs.declared.Step.TheVariants as step
use Rattle.dm_line.specs.Todo.{below}
use Rattle.dm_explore.specs.Asked.{Bounds}
use Rattle.dm_explore.specs.Past.{Did, count_of, is_same, repeats, sent, ticks, times, was_delivered}
use Rattle.dm_explore.specs.declared.past.Put.{Put}
use Rattle.dm_explore.specs.Sights.{Sight}

-- 1. turns that wouldn't be idle, machines ascending
abbrev pub turns : ℕ → Sight → List Step
turns n s = map step.Turn (filter s.acts (below n))

-- a packet may be delivered: an acknowledgement only where a message waits for one, or all may
abbrev pub may_come : Bounds → Sight → Put → Bool
may_come q s p = not p.acks || q.acks || s.waits p.to p.from

-- a packet may be delivered that was so before, or was not
abbrev pub as_said : Bool → Bool → Bool
as_said true x = x
as_said false x = not x

abbrev pub is_due : Bounds → Sight → List Did → Bool → Put → Bool
is_due q s ds again p = as_said again (was_delivered ds p.from p.to p.k) && may_come q s p

-- and went from machine a to machine c
abbrev pub is_due_on : Bounds → Sight → List Did → Bool → ℕ → ℕ → Put → Bool
is_due_on q s ds again a c p = (p.from == a) && (p.to == c) && is_due q s ds again p

abbrev pub delivery : Put → Step
delivery p = step.Deliver p.from p.to p.k

abbrev pub of_pair : Bounds → Sight → List Did → Bool → ℕ → ℕ → List Step
of_pair q s ds again a c = map delivery (filter (is_due_on q s ds again a c) (sent ds))

-- the machines but for this one, ascending
abbrev pub others : ℕ → ℕ → List ℕ
others n a = filter (λ c. not (a == c)) (below n)

abbrev pub of_machine : ℕ → Bounds → Sight → List Did → Bool → ℕ → List Step
of_machine n q s ds again a = flat_map (of_pair q s ds again a) (others n a)

-- 2. and 3. deliveries, pair by pair, and by the packets' numbers
abbrev pub deliveries : ℕ → Bounds → Sight → List Did → Bool → List Step
deliveries n q s ds again = flat_map (of_machine n q s ds again) (below n)

abbrev pub where_fewer : ℕ → ℕ → List Step → List Step
where_fewer k most es = if nat_lt k most then es else []

-- 4. ticks by which something is sent again
abbrev pub tick_choices : ℕ → Sight → List Step
tick_choices n s = map step.Tick (filter s.resends (below n))

-- how many of these requests are this one
abbrev pub count_here : Step → List Step → ℕ
count_here e es = count_of (λ d. is_same d e) es

-- 5. and 6. requests that are left of these, of equal ones the first: as many of them stand before it as were made
abbrev pub requests_left : List Step → List Step → List Did → List Step
requests_left before [] ds = []
requests_left before (e ∷ es) ds =
    (if count_here e before == times e ds then e ∷ [] else []) ++ requests_left (before ++ e ∷ []) es ds

abbrev pub choices : ℕ → Bounds → Sight → List Did → List Step
choices n q s ds =
    turns n s
    ++ deliveries n q s ds false
    ++ where_fewer (repeats ds) q.repeats (deliveries n q s ds true)
    ++ where_fewer (ticks ds) q.ticks (tick_choices n s)
    ++ requests_left [] q.requests ds
