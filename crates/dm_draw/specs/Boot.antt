-- The system of a drill: every machine is the home of two processes, each with a link to the next process and one to an area of
-- the process half way round.
use Rattle.std.specs.Prelude.{ℕ, zero, suc, ◌+◌, ◌*◌, ◌/◌, ◌%◌, Bool, true, false, List, [], ◌∷◌, ◌++◌}
use Rattle.dm_link.specs.declared.Pid.{Pid}
use Rattle.dm_link.specs.declared.Link.{Link}
use Rattle.dm_link.specs.declared.Kind.TheVariants.{General}
use Rattle.dm_link.specs.Names.{pid_of}
use Rattle.dm_onekernel.specs.declared.boot.Format.TheVariants.{One}
use Rattle.dm_onekernel.specs.declared.boot.BootMachine.{BootMachine}
use Rattle.dm_onekernel.specs.declared.boot.BootImage.{BootImage}
use Rattle.dm_onekernel.specs.declared.boot.BootProcess.{BootProcess}
use Rattle.dm_onekernel.specs.declared.boot.Boot.{Boot}
use Rattle.dm_onekernel.specs.Boot.{first_number}

-- a machine with room for three processes of one block
abbrev pub small_machine : BootMachine
small_machine = record { slots = 3; blocks = 3 }

abbrev pub small_machines : ℕ → List BootMachine
small_machines zero = []
small_machines (suc n) = small_machines n ++ small_machine ∷ []

-- process i of a drill, on one of so many machines
abbrev pub pid_at : ℕ → ℕ → Pid
pid_at machines i = pid_of (i % machines) (first_number + i / machines)

-- the bytes of the one program: it sends over link 0 the four bytes of its first instruction, receives, moves data over link 1, and
-- goes round
abbrev pub program : List ℕ
program =
    1 ∷ 1 ∷ 0 ∷ 0 ∷
    1 ∷ 3 ∷ 0 ∷ 4 ∷
    1 ∷ 4 ∷ 0 ∷ 0 ∷
    20 ∷ 0 ∷ 0 ∷ 6 ∷
    1 ∷ 1 ∷ 0 ∷ 1 ∷
    1 ∷ 2 ∷ 0 ∷ 200 ∷
    1 ∷ 3 ∷ 0 ∷ 8 ∷
    20 ∷ 0 ∷ 0 ∷ 7 ∷
    1 ∷ 1 ∷ 0 ∷ 1 ∷
    1 ∷ 2 ∷ 0 ∷ 0 ∷
    1 ∷ 3 ∷ 0 ∷ 0 ∷
    1 ∷ 4 ∷ 0 ∷ 240 ∷
    1 ∷ 5 ∷ 0 ∷ 8 ∷
    20 ∷ 0 ∷ 0 ∷ 8 ∷
    16 ∷ 0 ∷ 0 ∷ 0 ∷ []

abbrev pub image : BootImage
image = record { bytes = program; blocks = 1 }

-- a general link to process i, to an area of it
abbrev pub link_to_process : ℕ → ℕ → ℕ → ℕ → ℕ → Link
link_to_process machines i code base len =
    record { addr = record { pid = pid_at machines i; at = i % machines; moves = 0 }; kind = General; to_kernel = false; code = code; channel = 0; area = record { base = base; len = len; read = read len; write = false } }
  where
    read : ℕ → Bool
    read zero = false
    read (suc n) = true

-- process i: link 0 to the next process, its code this process's place; link 1 to sixteen bytes of the process half way round
abbrev pub process_at : ℕ → ℕ → BootProcess
process_at machines i = record {
  pid = pid_at machines i;
  name = [];
  image = 0;
  links = link_to_process machines ((i + 1) % (2 * machines)) i 0 0 ∷ link_to_process machines ((i + machines) % (2 * machines)) 0 192 16 ∷ [];
}

-- the first n processes
abbrev pub first_processes : ℕ → ℕ → List BootProcess
first_processes machines zero = []
first_processes machines (suc n) = first_processes machines n ++ process_at machines n ∷ []

-- the system of so many machines
unfoldable pub boot_of_machines : ℕ → Boot
boot_of_machines machines = record {
  numbers = 1048576;
  quantum = 16;
  format = One;
  machines = small_machines machines;
  images = image ∷ [];
  processes = first_processes machines (2 * machines);
}
