-- A process with a record has a place, in which its predecessors stand.
use Rattle.dm_kernel.proofs.Names.{◌≡◌, IsSome, Some, None, rules, Option, Pid, Here, Frozen, Incoming, Forward, frozen_of, KernelKnown, pid_eq_self, option_and_then, get, pid_cmp, HasPlace, at, known_in, with_record, Record, Place}
use Rattle.dm_kernel.proofs.Names.{Records}

some_place : {H L A : Type 0} (o : Option (Place H L A)) → IsSome (option_and_then known_in o) → IsSome o
some_place None h = h
some_place (Some place) h = search rules

pub has_a_place : {H L A : Type 0} (records : Records H L A) (p : Pid) → IsSome (at records p) → HasPlace records p
unfolding at HasPlace
has_a_place records p h = some_place (get pid_cmp records.places p) h

-- a process that leaves has a record
pub frozen_known : (o : Option KernelKnown) → IsSome (frozen_of o) → IsSome o
frozen_known None h = h
frozen_known (Some (Here x)) h = search rules
frozen_known (Some (Frozen leaving)) h = search rules
frozen_known (Some (Incoming arriving)) h = search rules
frozen_known (Some (Forward machine moves)) h = search rules

-- and so has one whose record is set
pub set_known : {H L A : Type 0} (records : Pid → Option (Record H L A)) (o : Option (Record H L A)) (p : Pid) (k : Record H L A) → o ≡ with_record records p k p → IsSome o
set_known records o p k e = rw (e, pid_eq_self p) (search rules)
