-- What the tables of a boot file build, where no rule is broken.
use Rattle.std.specs.Prelude.{ℕ, ◌+◌, ◌-◌, ◌==◌, ◌&&◌, nat_le, None, Some, option_and_then, Bool, false, List, [], ◌∷◌, ◌++◌, codes, slice_get, option_map, unwrap_or, if◌then◌else◌}
use Rattle.std.specs.declared.option.Option.{Option}
use Rattle.toml.specs.Data.{Data, Items, no_items, item, as_str}
use Rattle.dm_link.specs.declared.Pid.{Pid}
use Rattle.dm_link.specs.declared.Area.{Area}
use Rattle.dm_link.specs.declared.Link.{Link}
use Rattle.dm_link.specs.declared.Kind.{Kind}
use Rattle.dm_link.specs.declared.Kind.TheVariants.{General}
use Rattle.dm_link.specs.Names.{pid_of}
use Rattle.dm_onekernel.specs.declared.boot.Format.{Format}
use Rattle.dm_onekernel.specs.declared.boot.Format.TheVariants.{One, Two}
use Rattle.dm_onekernel.specs.declared.boot.BootMachine.{BootMachine}
use Rattle.dm_onekernel.specs.declared.boot.BootImage.{BootImage}
use Rattle.dm_onekernel.specs.declared.boot.BootProcess.{BootProcess}
use Rattle.dm_onekernel.specs.declared.boot.Boot.{Boot}
use Rattle.dm_onekernel.specs.Boot.{first_number, starting_at, switchboard, manager}
use Rattle.dm_onekernel.specs.Calls.{kind_of_flag}
use Rattle.dm_asm.specs.Assembled.{places_of}
use Rattle.dm_boot.specs.Tables.{has_value, named, text_at, truth_at, number_at, or_zero, items_at, map_items, element_place}
use Rattle.dm_boot.specs.Text.{bytes_of_image, is_switchboard, is_manager}

-- the tables of the machines, the images and the processes
abbrev pub machine_tables : Data → Items
machine_tables d = items_at (codes "machine") d

abbrev pub image_tables : Data → Items
image_tables d = items_at (codes "image") d

abbrev pub process_tables : Data → Items
process_tables d = items_at (codes "process") d

-- the settings of the top table, and what they are where the file says nothing
abbrev pub numbers_of : Data → Option ℕ
numbers_of d = number_at 1048576 1 1048576 (codes "numbers") d

abbrev pub quantum_of : Data → Option ℕ
quantum_of d = number_at 16 1 1000 (codes "quantum") d

abbrev pub format_number : Data → Option ℕ
format_number d = number_at 1 1 2 (codes "format") d

-- which limits hold
unfoldable pub format_of : Data → Format
format_of d = if or_zero (format_number d) == 2 then Two else One

-- the room of a machine
abbrev pub slots_in : Data → Option ℕ
slots_in t = number_at 0 0 64 (codes "slots") t

abbrev pub blocks_in : Data → Option ℕ
blocks_in t = number_at 0 0 4096 (codes "blocks") t

unfoldable pub boot_machine : Data → BootMachine
boot_machine t = record { slots = or_zero (slots_in t); blocks = or_zero (blocks_in t) }

abbrev pub machines_of : Data → List BootMachine
machines_of d = map_items boot_machine (machine_tables d)

-- the blocks of an image's memory
abbrev pub image_blocks : Data → Option ℕ
image_blocks t = number_at 1 1 256 (codes "blocks") t

-- what the memory of an image's processes starts with
unfoldable pub image_of : Data → BootImage
image_of t = record { bytes = unwrap_or (bytes_of_image (text_at (codes "text") t)) []; blocks = or_zero (image_blocks t) }

abbrev pub images_of : Data → List BootImage
images_of d = map_items image_of (image_tables d)

-- the machine on which a process starts
abbrev pub machine_number : Data → Option ℕ
machine_number t = number_at 0 0 15 (codes "machine") t

abbrev pub home_of : Data → ℕ
home_of t = or_zero (machine_number t)

-- the place of its image
abbrev pub image_place : Data → Data → Option ℕ
image_place d t = element_place (text_at (codes "image") t) (image_tables d)

-- a process without its name and its links: it has the next number of its machine after these earlier processes
unfoldable pub start_of : Data → List BootProcess → Data → BootProcess
start_of d earlier t = record {
  pid = pid_of (home_of t) (first_number + starting_at (home_of t) earlier);
  name = [];
  image = or_zero (image_place d t);
  links = [];
}

-- the processes of these tables, after the earlier ones
unfoldable pub starts_from : Data → List BootProcess → Items → List BootProcess
starts_from d earlier no_items = []
starts_from d earlier (item t ts) = start_of d earlier t ∷ starts_from d (earlier ++ start_of d earlier t ∷ []) ts

-- all processes, without their names and links
unfoldable pub starts_of : Data → List BootProcess
starts_of d = starts_from d [] (process_tables d)

-- the process or server with a name
unfoldable pub pid_named : Data → List BootProcess → List ℕ → Pid
pid_named d starts name =
    if is_switchboard name then switchboard
    else if is_manager name then manager
    else unwrap_or (option_map (λ p. p.pid) (slice_get starts (or_zero (element_place name (process_tables d))))) (pid_of 0 0)

-- the numbers of a link; 0 where the table has none
abbrev pub code_in : ℕ → Data → Option ℕ
code_in most t = number_at 0 0 most (codes "code") t

abbrev pub channel_in : Data → Option ℕ
channel_in t = number_at 0 0 31 (codes "channel") t

abbrev pub base_in : ℕ → Data → Option ℕ
base_in most t = number_at 0 0 most (codes "base") t

abbrev pub len_in : ℕ → Data → Option ℕ
len_in most t = number_at 0 0 most (codes "len") t

-- the text of the image of the process with this name; empty where there is none
unfoldable pub program_of : Data → List ℕ → List ℕ
program_of d name =
    unwrap_or (option_map (λ t. text_at (codes "text") t) (option_and_then (λ t. named (text_at (codes "image") t) (image_tables d)) (named name (process_tables d)))) []

-- how far an address is behind another, if it isn't before it
abbrev pub behind : ℕ → ℕ → Option ℕ
behind from at = if nat_le from at && nat_le at 65536 then Some (at - from) else None

-- how far a label of a program stands behind an address, if there is one and it doesn't stand before
unfoldable pub label_behind : List ℕ → ℕ → List ℕ → Option ℕ
label_behind program from label = option_and_then (λ p. behind from p.address) (places_of program label)

-- the number at a key, or how far the label there stands behind an address
unfoldable pub place_at : List ℕ → ℕ → List ℕ → Data → Option ℕ
place_at program from key t = if has_value as_str key t then label_behind program from (text_at key t) else number_at 0 0 65536 key t

-- where the area of a link begins, and how long it is; a label as length is where it ends
abbrev pub base_of : List ℕ → Data → Option ℕ
base_of program t = place_at program 0 (codes "base") t

abbrev pub len_of : List ℕ → Data → Option ℕ
len_of program t = place_at program (or_zero (base_of program t)) (codes "len") t

-- a link to a process where it starts
abbrev pub link_at_home : Pid → Kind → ℕ → ℕ → Area → Link
link_at_home p kind code channel area =
    record { addr = record { pid = p; at = p.home; moves = 0 }; kind = kind; to_kernel = false; code = code; channel = channel; area = area }

-- the link to a process with this program that a table says
unfoldable pub link_to : Pid → List ℕ → Data → Link
link_to p program t = link_at_home p (kind_of_flag (truth_at (codes "reply") t)) (or_zero (code_in 4294967295 t)) (or_zero (channel_in t)) (record {
  base = or_zero (base_of program t);
  len = or_zero (len_of program t);
  read = truth_at (codes "read") t;
  write = truth_at (codes "write") t;
})

-- a general link to the manager with the number of a child, which counts from 1 in the order of the file
unfoldable pub link_of_control : ℕ → Link
link_of_control child = link_at_home manager General child 0 (record { base = 0; len = 0; read = false; write = false })

-- the link controls a child
abbrev pub is_control : Data → Bool
is_control t = has_value as_str (codes "control") t

unfoldable pub link_of : Data → List BootProcess → Data → Link
link_of d starts t =
    if is_control t then link_of_control (or_zero (element_place (text_at (codes "control") t) (process_tables d)) + 1)
    else link_to (pid_named d starts (text_at (codes "to") t)) (program_of d (text_at (codes "to") t)) t

-- the tables of a process's links
abbrev pub link_tables : Data → Items
link_tables t = items_at (codes "links") t

-- these processes, each with the name and the links of its table
unfoldable pub linked_all : Data → List BootProcess → List BootProcess → Items → List BootProcess
linked_all d starts [] ts = []
linked_all d starts (p ∷ ps) no_items = []
linked_all d starts (p ∷ ps) (item t ts) = record p { name = text_at (codes "name") t; links = map_items (link_of d starts) (link_tables t) } ∷ linked_all d starts ps ts

abbrev pub processes_of : Data → List BootProcess
processes_of d = linked_all d (starts_of d) (starts_of d) (process_tables d)

-- a system with these machines, images and processes
unfoldable pub system_with : Data → List BootMachine → List BootImage → List BootProcess → Boot
system_with d machines images processes = record {
  numbers = or_zero (numbers_of d);
  quantum = or_zero (quantum_of d);
  format = format_of d;
  machines = machines;
  images = images;
  processes = processes;
}
