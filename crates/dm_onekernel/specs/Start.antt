-- The kernel without machines as the boot file has it.
use Rattle.std.specs.Prelude.{ℕ, ◌*◌, ◌-◌, false, if◌then◌else◌, List, [], ◌∷◌, ◌++◌, length, map, replicate, slice_get, option_map}
use Rattle.std.specs.declared.option.Option.{Option}
use Rattle.std.specs.declared.option.Option.TheVariants.{None, Some}
use Rattle.dm_link.specs.declared.Pid.{Pid}
use Rattle.dm_link.specs.Names.{pid_eq}
use Rattle.dm_link.specs.Plain.{PlainLink, plain_link}
use Rattle.dm_onekernel.specs.declared.boot.Format.{Format}
use Rattle.dm_onekernel.specs.declared.boot.BootImage.{BootImage}
use Rattle.dm_onekernel.specs.declared.boot.BootProcess.{BootProcess}
use Rattle.dm_onekernel.specs.declared.boot.Boot.{Boot}
use Rattle.dm_onekernel.specs.Boot.{slots_of, starting_at}
use Rattle.dm_onekernel.specs.PlainProcess.{PlainProcess, Ready}
use Rattle.dm_onekernel.specs.Kernel.{Life, Alive, OneKernel}

-- the memory of an image: its bytes, then zeros
abbrev pub memory_of : BootImage → List ℕ
memory_of i = i.bytes ++ replicate (256 * i.blocks - length i.bytes) 0

-- the links from slot 0 on, then empty slots
abbrev pub slots_with : {L : Type 0} → ℕ → List L → List (Option L)
slots_with slots links = map Some links ++ replicate (slots - length links) None

-- a process that hasn't executed anything yet
abbrev pub begun : Format → BootImage → List PlainLink → PlainProcess
begun f image links =
    record {
      regs = record { r = replicate 16 0; pc = 0 };
      memory = memory_of image;
      links = slots_with (slots_of f) links;
      status = Ready;
      stopped = false;
      sent = 0;
    }

-- a process of the boot file as it begins
abbrev pub first_life : Boot → BootProcess → Option Life
first_life b p = option_map (λ image. Alive (begun b.format image (map plain_link p.links))) (slice_get b.images p.image)

-- the processes of the boot file by name
abbrev pub life_at : Boot → List BootProcess → Pid → Option Life
life_at b [] q = None
life_at b (p ∷ ps) q = if pid_eq p.pid q then first_life b p else life_at b ps q

-- before the first step: the processes of the boot file, all the manager's children, and no message
abbrev pub start : Boot → OneKernel
start b =
    record {
      format = b.format;
      machines = length b.machines;
      images = b.images;
      processes = life_at b b.processes;
      made = λ m. starting_at m b.processes;
      bag = λ i. None;
      notes = λ p. None;
      noted = λ i. None;
      switchboard = record { names = []; sent = 0 };
      manager = record { children = map (λ (p : BootProcess). p.pid) b.processes; pending = []; sent = 0 };
    }
