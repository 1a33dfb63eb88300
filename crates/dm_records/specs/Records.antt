-- What a machine's records say, as a function of the process.
use Rattle.std.specs.Prelude.{◌≡◌, ℕ, Bool, false, ◌==◌, ◌&&◌, ◌||◌, if◌then◌else◌, IsSome, option_and_then}
use Rattle.std.specs.Option.{option_map_or}
use Rattle.std.specs.declared.option.Option.{Option}
use Rattle.std.specs.declared.option.Option.TheVariants.{None, Some}
use Rattle.std.specs.BTreeMap.{get}
use Rattle.dm_link.specs.declared.Pid.{Pid}
use Rattle.dm_link.specs.Names.{pid_eq, pid_cmp}
use Rattle.dm_records.specs.declared.record.Record.{Record}
use Rattle.dm_records.specs.declared.record.Record.TheVariants.{Here, Frozen, Incoming, Forward}
use Rattle.dm_records.specs.declared.records.Place.{Place}
use Rattle.dm_records.specs.declared.records.Records.{Records}
use Rattle.dm_records.specs.Machines.{has}

-- what a place has
abbrev pub known_in : {H L A : Type 0} → Place H L A → Option (Record H L A)
known_in place = place.known

abbrev pub precedes : {H L A : Type 0} → Place H L A → ℕ → Bool
precedes place n = has place.predecessors n

-- the record of a process
unfoldable pub at : {H L A : Type 0} → Records H L A → Pid → Option (Record H L A)
at records q = option_and_then known_in (get pid_cmp records.places q)

-- whether another machine is a predecessor of a process
unfoldable pub pred_at : {H L A : Type 0} → Records H L A → Pid → ℕ → Bool
pred_at records q n = option_map_or (λ place. precedes place n) (get pid_cmp records.places q) false

-- a process has a place, with its record or without
unfoldable pub HasPlace : {H L A : Type 0} → Records H L A → Pid → Type 0
HasPlace records q = IsSome (get pid_cmp records.places q)

-- the records with that of p set
abbrev pub with_record : {H L A : Type 0} → (Pid → Option (Record H L A)) → Pid → Record H L A → Pid → Option (Record H L A)
with_record records p entry q = if pid_eq p q then Some entry else records q

-- the records without that of p
abbrev pub without_record : {H L A : Type 0} → (Pid → Option (Record H L A)) → Pid → Pid → Option (Record H L A)
without_record records p q = if pid_eq p q then None else records q

-- the predecessors with one more of p
abbrev pub with_pred : (Pid → ℕ → Bool) → Pid → ℕ → Pid → ℕ → Bool
with_pred preds p m q n = (pid_eq p q && (m == n)) || preds q n

-- the predecessors without those of p
abbrev pub without_preds : (Pid → ℕ → Bool) → Pid → Pid → ℕ → Bool
without_preds preds p q n = if pid_eq p q then false else preds q n

-- the predecessors stay
abbrev pub KeepsPreds : {H L A : Type 0} → Records H L A → Records H L A → Type 0
KeepsPreds before after = (q : Pid) (n : ℕ) → pred_at after q n ≡ pred_at before q n

-- the process, where it is here
abbrev pub process_of : {H L A : Type 0} → Record H L A → Option H
process_of (Here process) = Some process
process_of entry = None

-- the process, where it leaves
abbrev pub leaving_of : {H L A : Type 0} → Record H L A → Option L
leaving_of (Frozen leaving) = Some leaving
leaving_of entry = None

-- what has come of the process, where parts have come
abbrev pub arriving_of : {H L A : Type 0} → Record H L A → Option A
arriving_of (Incoming arriving) = Some arriving
arriving_of entry = None

-- the same of a record that there may be
abbrev pub here_of : {H L A : Type 0} → Option (Record H L A) → Option H
here_of None = None
here_of (Some entry) = process_of entry

abbrev pub frozen_of : {H L A : Type 0} → Option (Record H L A) → Option L
frozen_of None = None
frozen_of (Some entry) = leaving_of entry

abbrev pub incoming_of : {H L A : Type 0} → Option (Record H L A) → Option A
incoming_of entry = option_and_then arriving_of entry

-- each process that had a record has one
abbrev pub Grows : {H L A : Type 0} → (Pid → Option (Record H L A)) → (Pid → Option (Record H L A)) → Type 0
Grows before after = (q : Pid) → IsSome (before q) → IsSome (after q)
