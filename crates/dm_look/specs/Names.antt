-- The names that the boot file gives its processes, as text: the lines `name`.
use Rattle.std.specs.Prelude.{ℕ, Bool, true, false, codes, List, [], ◌∷◌}
use Rattle.std.specs.List.{flat_map}
use Rattle.dm_onekernel.specs.declared.boot.Boot.{Boot}
use Rattle.dm_onekernel.specs.declared.boot.BootProcess.{BootProcess}
use Rattle.dm_text.specs.Text.{spelled_line}
use Rattle.dm_text.specs.Words.{pid_word}

-- its number, and its name
abbrev pub name_line : BootProcess → List ℕ
name_line p = spelled_line (codes "name" ∷ pid_word p.pid ∷ p.name ∷ [])

-- a line for each process, in the order of the file
abbrev pub text_of_names : List BootProcess → List ℕ
text_of_names ps = flat_map name_line ps

-- where they are asked for
abbrev pub names_if : Bool → Boot → List ℕ
names_if true b = text_of_names b.processes
names_if false b = []
