-- A process without its name and its links, where so many of its machine are there already.
use Rattle.std.specs.Prelude.{ℕ, ◌+◌, []}
use Rattle.toml.specs.Data.{Data}
use Rattle.dm_link.specs.Names.{pid_of}
use Rattle.dm_onekernel.specs.declared.boot.BootProcess.{BootProcess}
use Rattle.dm_onekernel.specs.Boot.{first_number}
use Rattle.dm_boot.specs.Tables.{or_zero}
use Rattle.dm_boot.specs.Build.{home_of, image_place}

-- it has the next number of its machine
abbrev pub started : Data → Data → ℕ → BootProcess
started d t others = record {
  pid = pid_of (home_of t) (first_number + others);
  name = [];
  image = or_zero (image_place d t);
  links = [];
}
