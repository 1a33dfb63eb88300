-- The kernel with places as the boot file has it.
use Rattle.std.specs.Prelude.{if◌then◌else◌, List, [], ◌∷◌, slice_get, option_map}
use Rattle.std.specs.declared.option.Option.{Option}
use Rattle.std.specs.declared.option.Option.TheVariants.{None}
use Rattle.dm_link.specs.declared.Pid.{Pid}
use Rattle.dm_link.specs.Names.{pid_eq}
use Rattle.dm_process.specs.declared.process.Process.{Process}
use Rattle.dm_process.specs.Begun.{begun_process}
use Rattle.dm_onekernel.specs.declared.boot.BootProcess.{BootProcess}
use Rattle.dm_onekernel.specs.declared.boot.Boot.{Boot}
use Rattle.dm_onekernel.specs.Boot.{slots_of}
use Rattle.dm_onekernel.specs.Start.{memory_of, slots_with}
use Rattle.dm_procman.specs.Managing.{starting}
use Rattle.dm_law_places.specs.Placed.{Placed}

-- a process of the boot file as it begins, with the file's links
abbrev pub started : Boot → BootProcess → Option Process
started b p = option_map (λ image. begun_process p.pid (memory_of image) (slots_with (slots_of b.format) p.links)) (slice_get b.images p.image)

abbrev pub started_at : Boot → List BootProcess → Pid → Option Process
started_at b [] q = None
started_at b (p ∷ ps) q = if pid_eq p.pid q then started b p else started_at b ps q

abbrev pub placed_start : Boot → Placed
placed_start b =
    record { processes = started_at b b.processes; bag = λ i. None; notes = λ p. None; noted = λ i. None; board = record { names = []; sent = 0; moves = 0 }; manager = starting b }
