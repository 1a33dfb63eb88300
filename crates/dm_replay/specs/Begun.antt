-- A process that begins.
use Rattle.std.specs.Prelude.{Bool, List, ◌==◌, ◌&&◌, nat_lt, length, option_map, slice_get}
use Rattle.std.specs.declared.option.Option.{Option}
use Rattle.std.specs.declared.option.Option.TheVariants.{None}
use Rattle.dm_message.specs.declared.What.{What}
use Rattle.dm_message.specs.declared.What.TheVariants as what
use Rattle.dm_link.specs.declared.Link.{Link}
use Rattle.dm_link.specs.declared.Pid.{Pid}
use Rattle.dm_onekernel.specs.declared.boot.Boot.{Boot}
use Rattle.dm_onekernel.specs.declared.boot.BootImage.{BootImage}
use Rattle.dm_onekernel.specs.declared.boot.BootProcess.{BootProcess}
use Rattle.dm_onekernel.specs.Boot.{starting_at}
use Rattle.dm_onekernel.specs.Kernel.{OneKernel}
use Rattle.dm_onekernel.specs.Start.{life_at, start}

-- the image and the links that a request to make a process names, if it is one and the image is there
abbrev pub asked_in : List BootImage → What → Option (BootImage × List Link)
asked_in images (what.Create image links) = option_map (λ i. (i, links.items)) (slice_get images image)
asked_in images w = None

-- the kernel of a machine
abbrev pub is_kernel : Boot → Pid → Bool
is_kernel b p = (p.num == 0) && nat_lt p.home (length b.machines)

-- the kernel as these processes of the boot file begin, before the first label
abbrev pub started : Boot → List BootProcess → OneKernel
started b ps = record (start b) { processes = life_at b ps; made = λ m. starting_at m ps }
