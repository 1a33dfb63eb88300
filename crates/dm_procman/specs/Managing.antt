-- What the process manager keeps, with the places that its addresses and links lead to.
use Rattle.std.specs.Prelude.{ℕ, ◌+◌, Bool, false, if◌then◌else◌, List, [], map, length, option_map, count_by}
use Rattle.std.specs.declared.option.Option.{Option}
use Rattle.std.specs.declared.option.Option.TheVariants.{None, Some}
use Rattle.dm_link.specs.declared.Pid.{Pid}
use Rattle.dm_link.specs.declared.Addr.{Addr}
use Rattle.dm_link.specs.declared.Link.{Link}
use Rattle.dm_link.specs.Places.{is_behind, retargeted, retargeted_link}
use Rattle.dm_link.specs.Plain.{plain_link}
use Rattle.dm_onekernel.specs.declared.boot.Boot.{Boot}
use Rattle.dm_onekernel.specs.declared.boot.BootProcess.{BootProcess}
use Rattle.dm_onekernel.specs.Boot.{switchboard}
use Rattle.dm_onekernel.specs.Kernel.{Manager}
use Rattle.dm_onekernel.specs.Kernel as one
use Rattle.dm_procman.specs.declared.pending.Pending.{Pending}

-- the children, child 1 first; the requests without a taken answer; where the switchboard is; how many messages were
-- sent, and how often the manager has moved; and how many machines and images there are
pub record Managing : Type 0 where
  pub children : List Addr
  pub pending : List Pending
  pub board : Addr
  pub sent : ℕ
  pub moves : ℕ
  pub machines : ℕ
  pub images : ℕ

-- the manager without places
abbrev pub plain_pending : Pending → one.Pending
plain_pending r = record { n = r.n; kind = r.kind; answer = option_map plain_link r.answer }

abbrev pub plain_child : Addr → Pid
plain_child a = a.pid

abbrev pub plain_manager : Managing → Manager
plain_manager g = record { children = map plain_child g.children; pending = map plain_pending g.pending; sent = g.sent }

-- where a process starts: on its home machine
abbrev pub at_home : Pid → Addr
at_home p = record { pid = p; at = p.home; moves = 0 }

abbrev pub child_at_home : BootProcess → Addr
child_at_home p = at_home p.pid

-- the manager at the start: its children are the processes of the boot file
abbrev pub starting : Boot → Managing
starting b =
    record { children = map child_at_home b.processes; pending = []; board = at_home switchboard; sent = 0; moves = 0; machines = length b.machines; images = length b.images }

-- a request's link, if it has one, where it is told that a process is at another place, after so many moves
abbrev pub retargeted_pending : Pid → ℕ → ℕ → Pending → Pending
retargeted_pending about at moves r = record r { answer = option_map (retargeted_link about at moves) r.answer }

abbrev pub answer_is_behind : Pid → ℕ → Option Link → Bool
answer_is_behind about moves None = false
answer_is_behind about moves (Some l) = is_behind about moves l.addr

abbrev pub pending_is_behind : Pid → ℕ → Pending → Bool
pending_is_behind about moves r = answer_is_behind about moves r.answer

abbrev pub retargeted_manager : Pid → ℕ → ℕ → Managing → Managing
retargeted_manager about at moves g =
    record g { children = map (retargeted about at moves) g.children; pending = map (retargeted_pending about at moves) g.pending; board = retargeted about at moves g.board }

-- how many of its addresses and links are to this process, and know fewer moves of it
abbrev pub behind_in : Pid → ℕ → Managing → ℕ
behind_in about moves g =
    (if is_behind about moves g.board then 1 else 0) + (count_by (is_behind about moves) g.children + count_by (pending_is_behind about moves) g.pending)
