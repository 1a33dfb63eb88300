-- A machine as the boot file has it, and the processes that begin on it.
use Rattle.std.specs.Prelude.{ℕ, ◌+◌, ◌==◌, false, if◌then◌else◌, List, [], ◌∷◌, ◌++◌, fold, slice_get}
use Rattle.std.specs.declared.option.Option.{Option}
use Rattle.std.specs.declared.option.Option.TheVariants.{None, Some}
use Rattle.dm_link.specs.declared.Pid.{Pid}
use Rattle.dm_process.specs.declared.process.Process.{Process}
use Rattle.dm_room.specs.Room.{Taken, nothing_taken, with_reserved}
use Rattle.dm_records.specs.declared.record.Record.TheVariants.{Here}
use Rattle.dm_records.specs.Records.{with_record}
use Rattle.dm_procman.specs.Managing.{starting}
use Rattle.dm_onekernel.specs.declared.boot.BootMachine.{BootMachine}
use Rattle.dm_onekernel.specs.declared.boot.BootImage.{BootImage}
use Rattle.dm_onekernel.specs.declared.boot.BootProcess.{BootProcess}
use Rattle.dm_onekernel.specs.declared.boot.Boot.{Boot}
use Rattle.dm_onekernel.specs.Child.{child_of}
use Rattle.dm_onekernel.specs.Boot.{switchboard, manager}
use Rattle.dm_resident.specs.declared.Resident.TheVariants as resident
use Rattle.dm_kernel.specs.State.{KernelState, with_known}

-- it stands at the ring's back, and takes a slot and its blocks
abbrev pub with_child : KernelState → Pid → Process → ℕ → KernelState
with_child s child x blocks =
    record s {
      records = with_record s.records child (Here (resident.Process x));
      ring = s.ring ++ child ∷ [];
      made = s.made + 1;
      room = with_reserved s.room blocks;
    }

-- the processes of the boot file, those whose home the machine is
abbrev pub begins_process : Boot → KernelState → BootProcess → Option BootImage → KernelState
begins_process b s p None = s
begins_process b s p (Some i) = if p.pid.home == s.here then with_child s p.pid (child_of b p.pid i p.links) i.blocks else s

abbrev pub room_of : Option BootMachine → Taken
room_of None = nothing_taken 0 0
room_of (Some r) = nothing_taken r.slots r.blocks

-- the servers begin here
abbrev pub with_servers : Boot → KernelState → KernelState
with_servers b s =
    with_known (with_known s switchboard (Here (resident.Board (record { names = []; sent = 0; moves = 0 })))) manager (Here (resident.Manager (starting b)))

-- without any process, and without the servers
abbrev pub bare : Boot → ℕ → KernelState
bare b m =
    record {
      here = m;
      records = λ p. None;
      preds = λ p n. false;
      ring = [];
      inbox = [];
      made = 0;
      sent = 0;
      room = room_of (slice_get b.machines m);
      over = None;
    }

-- the servers are on machine 0
abbrev pub empty : Boot → ℕ → KernelState
empty b m = if m == 0 then with_servers b (bare b m) else bare b m

abbrev pub opened : Boot → ℕ → KernelState
opened b m = fold (λ s p. begins_process b s p (slice_get b.images p.image)) (empty b m) b.processes
