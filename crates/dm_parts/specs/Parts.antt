-- The parts of a system: what the links of its boot file join, one by one. A process stands at its place in the file, from 0 on, and
-- the switchboard behind the last.
use Rattle.std.specs.Prelude.{ℕ, zero, suc, ◌+◌, ◌-◌, ◌==◌, nat_lt, if◌then◌else◌, List, [], ◌∷◌, length, map, position, slice_get}
use Rattle.std.specs.declared.option.Option.{Option}
use Rattle.std.specs.declared.option.Option.TheVariants.{None, Some}
use Rattle.dm_link.specs.declared.Link.{Link}
use Rattle.dm_link.specs.declared.Pid.{Pid}
use Rattle.dm_link.specs.Names.{pid_eq}
use Rattle.dm_onekernel.specs.declared.boot.Boot.{Boot}
use Rattle.dm_onekernel.specs.declared.boot.BootProcess.{BootProcess}
use Rattle.dm_onekernel.specs.Boot.{switchboard, manager}

-- n places from this one on, each a part by itself
abbrev pub alone : ℕ → ℕ → List ℕ
alone place zero = []
alone place (suc n) = place ∷ alone (place + 1) n

-- the child that a code names; code 0 names none
abbrev pub child_place : ℕ → Option ℕ
child_place code = if code == 0 then None else Some (code - 1)

abbrev pub place_of : List BootProcess → Pid → Option ℕ
place_of ps q = position (λ p. pid_eq p.pid q) ps

-- the place that a link joins with its holder's: that of whom it leads to; to the manager that of the child which its code names,
-- and none with code 0
unfoldable pub joins : Boot → Link → Option ℕ
joins b l =
    if pid_eq l.addr.pid switchboard then Some (length b.processes)
    else if pid_eq l.addr.pid manager then child_place l.code
    else place_of b.processes l.addr.pid

-- a part has a number, the same at each of its places. Two parts become one, under the lesser
abbrev pub renamed : ℕ → ℕ → ℕ → ℕ
renamed from to number = if number == from then to else number

abbrev pub joined : List ℕ → Option ℕ → Option ℕ → List ℕ
joined parts None second = parts
joined parts (Some x) None = parts
joined parts (Some x) (Some y) = if nat_lt x y then map (renamed y x) parts else if nat_lt y x then map (renamed x y) parts else parts

abbrev pub with_link : List ℕ → ℕ → Option ℕ → List ℕ
with_link parts place None = parts
with_link parts place (Some other) = joined parts (slice_get parts place) (slice_get parts other)

unfoldable pub with_links : Boot → ℕ → List ℕ → List Link → List ℕ
with_links b place parts [] = parts
with_links b place parts (l ∷ ls) = with_links b place (with_link parts place (joins b l)) ls

unfoldable pub with_processes : Boot → ℕ → List ℕ → List BootProcess → List ℕ
with_processes b place parts [] = parts
with_processes b place parts (p ∷ ps) = with_processes b (place + 1) (with_links b place parts p.links) ps

-- the number of the part of each place
abbrev pub parts_of : Boot → List ℕ
parts_of b = with_processes b 0 (alone 0 (length b.processes + 1)) b.processes
