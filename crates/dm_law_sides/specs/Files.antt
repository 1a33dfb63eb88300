-- Sides of places in the boot file. A process stands at its place there, from 0 on, and the switchboard behind the last.
use Rattle.std.specs.Prelude.{◌≡◌, ℕ, List, length, slice_get}
use Rattle.std.specs.Option.{option_map_or}
use Rattle.std.specs.declared.option.Option.TheVariants.{Some}
use Rattle.dm_link.specs.declared.Pid.{Pid}
use Rattle.dm_onekernel.specs.declared.boot.Boot.{Boot}
use Rattle.dm_onekernel.specs.declared.label.Label.{Label}
use Rattle.dm_onekernel.specs.Boot.{IsValid}
use Rattle.dm_onekernel.specs.Kernel.{OneKernel}
use Rattle.dm_onekernel.specs.Start.{start}
use Rattle.dm_onekernel.specs.Step.{replay}
use Rattle.dm_parts.specs.Laws.{EachKeeps}
use Rattle.dm_parts.specs.Parts.{parts_of, place_of}
use Rattle.dm_law_sides.specs.Sides.{Sides, Keeps, sides_after}

-- the place of a process of the file, and for the switchboard that behind the last
abbrev pub place_at : Boot → Pid → ℕ
place_at b p = option_map_or (λ n. n) (place_of b.processes p) (length b.processes)

-- the sides that places give. The manager hasn't sent anything yet
abbrev pub sides_at : Boot → (ℕ → ℕ) → Sides
sides_at b side = record { of = λ p. side (place_at b p); told = λ n. 0 }

-- in whatever way places have sides: where each link of the file keeps to one, so does everything at the start
abbrev pub FileKeeps : Type 0
FileKeeps = (b : Boot) (side : ℕ → ℕ) → IsValid b → EachKeeps b side → Keeps (start b) (sides_at b side)

-- and after every run
abbrev pub FilesKeepToSides : Type 0
FilesKeepToSides =
    (b : Boot) (side : ℕ → ℕ) (ls : List Label) (s : OneKernel) → IsValid b → EachKeeps b side → replay (start b) ls ≡ Some s → Keeps s (sides_after (start b) ls (sides_at b side))

-- the number of the part of a place, as `explain` says it
abbrev pub part_at : Boot → ℕ → ℕ
part_at b place = option_map_or (λ n. n) (slice_get (parts_of b) place) 0

-- the parts of a file are such sides
abbrev pub PartsKeep : Type 0
PartsKeep = (b : Boot) → IsValid b → EachKeeps b (part_at b)

-- after every run everything keeps to the parts of the file
abbrev pub RunsKeepToParts : Type 0
RunsKeepToParts = (b : Boot) (ls : List Label) (s : OneKernel) → IsValid b → replay (start b) ls ≡ Some s → Keeps s (sides_after (start b) ls (sides_at b (part_at b)))
