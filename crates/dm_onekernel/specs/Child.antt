-- A process as it is made of an image.
use Rattle.std.specs.Prelude.{List}
use Rattle.dm_link.specs.declared.Link.{Link}
use Rattle.dm_link.specs.declared.Pid.{Pid}
use Rattle.dm_process.specs.declared.process.Process.{Process}
use Rattle.dm_process.specs.Begun.{begun_process}
use Rattle.dm_onekernel.specs.declared.boot.Boot.{Boot}
use Rattle.dm_onekernel.specs.declared.boot.BootImage.{BootImage}
use Rattle.dm_onekernel.specs.Boot.{slots_of}
use Rattle.dm_onekernel.specs.Start.{memory_of, slots_with}

-- a process of this image with these links from slot 0 on, which hasn't executed anything yet
abbrev pub child_of : Boot → Pid → BootImage → List Link → Process
child_of b p i links = begun_process p (memory_of i) (slots_with (slots_of b.format) links)
