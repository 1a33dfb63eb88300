-- The elementary directive that comes next, by the marks on the wires, the inboxes and the ends of the streams.
use Rattle.std.specs.Prelude.{ℕ, ◌+◌, Bool, not, ◌==◌, ◌&&◌, ◌||◌, nat_lt, if◌then◌else◌, is_some, List, [], ◌∷◌, length}
use Rattle.std.specs.declared.option.Option.{Option}
use Rattle.std.specs.declared.option.Option.TheVariants.{None, Some}
use Rattle.dm_wire.specs.Sent.{Sent}
use Rattle.dm_line.specs.Each.{all_below}
use Rattle.dm_line.specs.Todo.{Todo, Next, Seen, following}
use Rattle.dm_kernel.specs.Turn.{first_runnable}
use Rattle.dm_world.specs.World.{WorldState}

-- the first packet of a wire that was never delivered, counted from k
abbrev pub first_unseen : ℕ → List Sent → Option ℕ
first_unseen k [] = None
first_unseen k (p ∷ ps) = if p.seen then first_unseen (k + 1) ps else Some k

abbrev pub world_undelivered : WorldState → ℕ → ℕ → Option ℕ
world_undelivered w a c = first_unseen 0 (w.wires a c)

-- whether a machine's inbox has a message
abbrev pub world_has_mail : WorldState → ℕ → Bool
world_has_mail w m = nat_lt 0 (length (w.nodes m).kernel.inbox)

-- whether a machine has a process that is here and can be served
abbrev pub world_serves : WorldState → ℕ → Bool
world_serves w m = is_some (first_runnable (w.nodes m).kernel.records (w.nodes m).kernel.ring)

-- whether all that machine a gave to its stream to machine c, if that is another, is acknowledged
abbrev pub all_heard : WorldState → ℕ → ℕ → Bool
all_heard w a c = (a == c) || (length ((w.nodes a).senders c).unacked == 0)

-- whether nothing is on its way between so many machines: no inbox has a message, and no stream keeps one
abbrev pub world_is_quiet : ℕ → WorldState → Bool
world_is_quiet n w = all_below n (λ a. not (world_has_mail w a) && all_below n (all_heard w a))

-- what is seen of so many machines
abbrev pub world_seen : ℕ → WorldState → Seen
world_seen machines w = record { first = world_undelivered w; mail = world_has_mail w; serves = world_serves w; quiet = world_is_quiet machines w }

abbrev pub world_next_step : ℕ → WorldState → Todo → Option Next
world_next_step machines w t = following machines (world_seen machines w) t
