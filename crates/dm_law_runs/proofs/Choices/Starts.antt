-- At the start nobody waits and nobody moves data.
use Rattle.std.specs.Prelude.{◌≡◌, ℕ, zero, suc, Bool, true, false, ◌==◌, if◌then◌else◌, List, [], ◌∷◌, length, fold, slice_get}
use Rattle.std.specs.List.{list_any}
use Rattle.std.specs.Option.{option_map_or}
use Rattle.std.specs.declared.option.Option.{Option}
use Rattle.std.specs.declared.option.Option.TheVariants.{None, Some}
use Rattle.std.proofs.Common.{refl}
use Rattle.std.proofs.lemmas.Bool.{and_right, or_from}
use Rattle.dm_link.specs.declared.Pid.{Pid}
use Rattle.dm_link.specs.Names.{pid_eq}
use Rattle.dm_onekernel.specs.declared.boot.Boot.{Boot}
use Rattle.dm_onekernel.specs.declared.boot.BootImage.{BootImage}
use Rattle.dm_onekernel.specs.declared.boot.BootProcess.{BootProcess}
use Rattle.dm_onekernel.specs.Boot.{switchboard, manager}
use Rattle.dm_records.specs.declared.record.Record.TheVariants.{Here}
use Rattle.dm_procman.specs.Managing.{starting}
use Rattle.dm_resident.specs.declared.Resident.{Resident}
use Rattle.dm_resident.specs.declared.Resident.TheVariants as resident
use Rattle.dm_kernel.specs.State.{KernelKnown, KernelState, process_in}
use Rattle.dm_kernel.specs.Begun.{bare, begins_process, empty, opened, with_child, with_servers}
use Rattle.dm_onekernel.specs.Child.{child_of}
use Rattle.dm_world.specs.World.{first_world}
use Rattle.dm_explore.specs.Finds.{is_stuck, rests}
use Rattle.dm_explore.specs.Places.{first_place, sight}
use Rattle.dm_explore.specs.Sights.{any_below, is_lingering, world_lingers}

-- nobody waits or moves data in this kernel
abbrev Quiet : KernelState → Type 0
Quiet s = (q : Pid) → option_map_or is_lingering (process_in (s.records q)) false ≡ false

-- a record of one that doesn't
one_more : (records : Pid → Option KernelKnown) (p : Pid) (r : Resident) → option_map_or is_lingering (process_in (Some (Here r))) false ≡ false → ((q : Pid) → option_map_or is_lingering (process_in (records q)) false ≡ false)
    → (q : Pid) → option_map_or is_lingering (process_in (if pid_eq p q then Some (Here r) else records q)) false ≡ false
one_more records p r here h q = by (pid_eq p q)
  where
    by : (t : Bool) → option_map_or is_lingering (process_in (if t then Some (Here r) else records q)) false ≡ false
    by true = here
    by false = h q

begins_quiet : (b : Boot) (s : KernelState) (p : BootProcess) (i : Option BootImage) → Quiet s → Quiet (begins_process b s p i)
begins_quiet b s p None h = h
begins_quiet b s p (Some i) h = by (p.pid.home == s.here)
  where
    by : (t : Bool) → Quiet (if t then with_child s p.pid (child_of b p.pid i p.links) i.blocks else s)
    by true = one_more s.records p.pid (resident.Process (child_of b p.pid i p.links)) refl h
    by false = h

empty_quiet : (b : Boot) (m : ℕ) → Quiet (empty b m)
empty_quiet b m = by (m == 0)
  where
    by : (t : Bool) → Quiet (if t then with_servers b (bare b m) else bare b m)
    by true = one_more (λ q. if pid_eq switchboard q then Some (Here (resident.Board (record { names = []; sent = 0; moves = 0 }))) else None) manager (resident.Manager (starting b)) refl
        (one_more (λ q. None) switchboard (resident.Board (record { names = []; sent = 0; moves = 0 })) refl (λ q. refl))
    by false = λ q. refl

fold_quiet : (b : Boot) (s : KernelState) (ps : List BootProcess) → Quiet s → Quiet (fold (λ s p. begins_process b s p (slice_get b.images p.image)) s ps)
fold_quiet b s [] h = h
fold_quiet b s (p ∷ ps) h = fold_quiet b (begins_process b s p (slice_get b.images p.image)) ps (begins_quiet b s p (slice_get b.images p.image) h)

opened_quiet : (b : Boot) (m : ℕ) → Quiet (opened b m)
opened_quiet b m = fold_quiet b (empty b m) b.processes (empty_quiet b m)

none_below : (n : ℕ) (test : ℕ → Bool) → ((m : ℕ) → test m ≡ false) → any_below n test ≡ false
none_below zero test h = refl
none_below (suc n) test h = or_from (any_below n test) (test n) (none_below n test h) (h n)

first_lingers : (b : Boot) (p : Pid) → world_lingers (length b.machines) (first_world b) p ≡ false
first_lingers b p = none_below (length b.machines) (λ m. option_map_or is_lingering (process_in (((first_world b).nodes m).kernel.records p)) false) (λ m. opened_quiet b m p)

none_of : (test : Pid → Bool) (ps : List Pid) → ((p : Pid) → test p ≡ false) → list_any test ps ≡ false
none_of test [] h = refl
none_of test (p ∷ ps) h = or_from (test p) (list_any test ps) (h p) (none_of test ps h)

pub none_stuck_first : (b : Boot) (ps : List Pid) → is_stuck (length b.machines) (sight b (first_place b)) [] ps ≡ false
none_stuck_first b ps = and_right (rests (length b.machines) (sight b (first_place b)) []) (list_any (world_lingers (length b.machines) (first_world b)) ps) (none_of (world_lingers (length b.machines) (first_world b)) ps (first_lingers b))
