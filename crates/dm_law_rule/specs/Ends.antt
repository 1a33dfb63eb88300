-- The lines at the end of a run: where everything stands then, by the kernel without machines, the view and the addresses.
use Rattle.std.specs.Prelude.{ℕ, zero, suc, ◌/◌, Bool, true, false, not, ◌==◌, ◌&&◌, if◌then◌else◌, option_map, List, [], ◌∷◌, ◌++◌, length, map}
use Rattle.std.specs.Option.{option_map_or}
use Rattle.std.specs.List.{enumerate_from, flat_map}
use Rattle.std.specs.declared.option.Option.{Option}
use Rattle.std.specs.declared.option.Option.TheVariants.{None, Some}
use Rattle.dm_link.specs.declared.Link.{Link}
use Rattle.dm_link.specs.declared.Pid.{Pid}
use Rattle.dm_link.specs.Names.{Place}
use Rattle.dm_link.specs.Plain.{PlainLink}
use Rattle.dm_message.specs.Ids.{id_of}
use Rattle.dm_onekernel.specs.Boot.{switchboard, manager}
use Rattle.dm_onekernel.specs.PlainProcess.{PlainProcess, PlainStatus, Ready, Waiting, Moving}
use Rattle.dm_onekernel.specs.Kernel.{Life, Alive, NamedLink, Pending}
use Rattle.dm_onekernel.specs.Kernel as kernel
use Rattle.dm_line.specs.declared.end_line.EndLine.{EndLine}
use Rattle.dm_line.specs.declared.end_line.EndLine.TheVariants as end
use Rattle.dm_line.specs.declared.end_line.Standing.{Standing}
use Rattle.dm_line.specs.declared.end_line.Standing.TheVariants as standing
use Rattle.dm_line.specs.declared.end_line.Doing.{Doing}
use Rattle.dm_line.specs.declared.end_line.Doing.TheVariants as doing
use Rattle.dm_line.specs.Todo.{or}
use Rattle.dm_line.specs.Ends.{memory_lines, home_with, joined_below, list_line}
use Rattle.dm_law_rule.specs.View.{View, Known, Here, Frozen, Incoming}
use Rattle.dm_law_rule.specs.Addresses.{Addresses, Slot, Child, Name}
use Rattle.dm_law_rule.specs.Point.{Point}
use Rattle.dm_law_rule.specs.Spots.{untaken}

-- a link that leads to a place
abbrev pub leading : PlainLink → Place → Link
leading l p =
    record { addr = record { pid = l.to; at = p.at; moves = p.moves }; kind = l.kind; to_kernel = l.to_kernel; code = l.code; channel = l.channel; area = l.area }

-- where a process stands
pub record Stood : Type 0 where
  pub at : ℕ
  pub standing : Standing

-- how a machine that knows this of a process has it
abbrev pub standing_of : Known → Option Standing
standing_of Here = Some standing.Here
standing_of (Frozen to) = Some standing.Leaving
standing_of k = None

abbrev pub awaits : Known → Option Standing
awaits (Incoming from) = Some standing.Arriving
awaits k = None

abbrev pub stood_at : ℕ → Option Standing → Option Stood
stood_at m found = option_map (λ s. record { at = m; standing = s }) found

-- the first of n machines that has it like this
abbrev pub first_with : (Known → Option Standing) → View → Pid → ℕ → Option Stood
first_with f v p zero = None
first_with f v p (suc n) = or (first_with f v p n) (stood_at n (f (v.known n p)))

-- a process is here or leaves, or else it arrives
abbrev pub stood : View → Pid → ℕ → Option Stood
stood v p n = or (first_with standing_of v p n) (first_with awaits v p n)

abbrev pub stands_here : Standing → Bool
stands_here standing.Here = true
stands_here standing.Leaving = false
stands_here standing.Arriving = false

-- what the lines say of a status: not which request is under way
abbrev pub doing_of : PlainStatus → Doing
doing_of Ready = doing.Ready
doing_of (Waiting mask base cap_) = doing.Waiting mask base cap_
doing_of (Moving dir owner base own left pending) = doing.Moving dir owner base own left

-- the links of the slots from k on
abbrev pub slot_line : Addresses → Pid → ℕ → Option PlainLink → List EndLine
slot_line a p k slot = option_map_or (λ l. end.Link p k (leading l (a (Slot p k))) ∷ []) slot []

abbrev pub link_lines : Addresses → Pid → ℕ → List (Option PlainLink) → List EndLine
link_lines a p k ls = flat_map (λ e. slot_line a p e.0 e.1) (enumerate_from k ls)

abbrev pub state_lines : Addresses → Pid → PlainProcess → List EndLine
state_lines a p x =
    end.Registers p x.regs.r x.regs.pc ∷ memory_lines p x.memory (length x.memory / 256) ++ link_lines a p 0 x.links

abbrev pub alive_lines : Addresses → Pid → PlainProcess → Option Stood → List EndLine
alive_lines a p x found =
    option_map_or (λ s. end.Process p s.at s.standing (doing_of x.status) x.stopped x.sent ∷ state_lines a p x) found []

abbrev pub process_lines : Point → Pid → Option Life → List EndLine
process_lines pt p None = []
process_lines pt p (Some (Alive x)) = alive_lines pt.addresses p x (stood pt.view p pt.kernel.machines)
process_lines pt p (Some (kernel.Ended because)) = end.Ended p because ∷ []

-- all of the first homes
abbrev pub homes_with : Point → (Pid → List EndLine) → ℕ → List EndLine
homes_with pt f n = joined_below (λ home. home_with f home (pt.kernel.made home)) n

-- a place that isn't machine 0, here
abbrev pub is_moved : Stood → Bool
is_moved s = not ((s.at == 0) && stands_here s.standing)

-- where a server stands, unless it is here on machine 0
abbrev pub place_line : Pid → Stood → List EndLine
place_line p s = if is_moved s then end.Place p s.at s.standing ∷ [] else []

-- how many messages it has sent, and where it stands
abbrev pub sent_lines : Pid → ℕ → Option Stood → List EndLine
sent_lines p sent found = end.Server p sent ∷ option_map_or (place_line p) found []

-- for each process that was ever made, by home and by number
abbrev pub each_process : Point → (Pid → List EndLine) → List EndLine
each_process pt f = homes_with pt f pt.kernel.machines

-- for the servers, and for each process
abbrev pub each_holder : Point → (Pid → List EndLine) → List EndLine
each_holder pt f = f switchboard ++ f manager ++ each_process pt f

-- the switchboard's names from place n on, in order
abbrev pub name_lines : Addresses → ℕ → List NamedLink → List EndLine
name_lines a n ks = map (λ e. end.Name (record { items = e.1.name }) (leading e.1.link (a (Name e.0)))) (enumerate_from n ks)

-- the manager's children from number n on
abbrev pub child_lines : Addresses → ℕ → List Pid → List EndLine
child_lines a n ps = map (λ e. end.Child e.0 e.1 (a (Child e.0)).at) (enumerate_from n ps)

abbrev pub pending_lines : List Pending → List EndLine
pending_lines rs = map (λ r. end.Pending (id_of manager r.n)) rs

-- the queue of a process, on the machine where it is
abbrev pub queue_at : View → Pid → Option Stood → List EndLine
queue_at v p found = option_map_or (λ s. list_line (end.Queue p) (v.queue s.at p)) found []

abbrev pub queue_lines : Point → List EndLine
queue_lines pt = each_process pt (λ p. queue_at pt.view p (first_with standing_of pt.view p pt.kernel.machines))

abbrev pub holding_lines : Point → List EndLine
holding_lines pt = joined_below (λ m. each_holder pt (λ p. list_line (end.Holding m p) (pt.view.held m p))) pt.kernel.machines

abbrev pub inbox_lines : Point → List EndLine
inbox_lines pt = joined_below (λ m. list_line (end.Inbox m) (pt.view.inbox m)) pt.kernel.machines

-- what was routed and not taken
abbrev pub stream_lines : Point → List EndLine
stream_lines pt = joined_below (λ a. joined_below (λ b. list_line (end.Stream a b) (untaken (pt.view.pair a b))) pt.kernel.machines) pt.kernel.machines

abbrev pub server_lines : Point → List EndLine
server_lines pt =
    sent_lines switchboard pt.kernel.switchboard.sent (stood pt.view switchboard pt.kernel.machines)
    ++ sent_lines manager pt.kernel.manager.sent (stood pt.view manager pt.kernel.machines)
    ++ name_lines pt.addresses 0 pt.kernel.switchboard.names
    ++ child_lines pt.addresses 1 pt.kernel.manager.children
    ++ pending_lines pt.kernel.manager.pending

-- all that a run leaves behind, in the order in which it is printed
abbrev pub end_lines : Point → List EndLine
end_lines pt =
    end.Final
    ∷ each_process pt (λ p. process_lines pt p (pt.kernel.processes p))
    ++ server_lines pt
    ++ queue_lines pt
    ++ holding_lines pt
    ++ inbox_lines pt
    ++ stream_lines pt
    ++ end.Groups pt.view.groups
    ∷ []
