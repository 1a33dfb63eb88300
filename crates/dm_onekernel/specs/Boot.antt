-- What a system may start with.
use Rattle.std.specs.Prelude.{◌≡◌, ℕ, ◌+◌, ◌*◌, Bool, true, false, not, ◌==◌, ◌&&◌, ◌||◌, nat_le, nat_lt, if◌then◌else◌, List, [], ◌∷◌, ◌++◌, length, slice_get}
use Rattle.std.specs.declared.option.Option.{Option}
use Rattle.std.specs.declared.option.Option.TheVariants.{None, Some}
use Rattle.dm_link.specs.declared.Pid.{Pid}
use Rattle.dm_link.specs.declared.Area.{Area}
use Rattle.dm_link.specs.declared.Kind.{Kind}
use Rattle.dm_link.specs.declared.Kind.TheVariants.{General, Reply}
use Rattle.dm_link.specs.declared.Link.{Link}
use Rattle.dm_link.specs.Names.{pid_of, pid_eq}
use Rattle.dm_onekernel.specs.declared.boot.Format.{Format}
use Rattle.dm_onekernel.specs.declared.boot.Format.TheVariants.{One, Two}
use Rattle.dm_onekernel.specs.declared.boot.BootMachine.{BootMachine}
use Rattle.dm_onekernel.specs.declared.boot.BootImage.{BootImage}
use Rattle.dm_onekernel.specs.declared.boot.BootProcess.{BootProcess}
use Rattle.dm_onekernel.specs.declared.boot.Boot.{Boot}

-- the link slots of a process
abbrev pub slots_of : Format → ℕ
slots_of One = 32
slots_of Two = 128

-- the greatest length of a message's body
abbrev pub body_of : Format → ℕ
body_of One = 64
body_of Two = 256

-- the number of the first process of a machine: 0 is the kernel's, 1 and 2 are the servers'
abbrev pub first_number : ℕ
first_number = 3

-- how many of these processes start on a machine
abbrev pub starting_at : ℕ → List BootProcess → ℕ
starting_at m [] = 0
starting_at m (p ∷ ps) = (if p.pid.home == m then 1 else 0) + starting_at m ps

-- the blocks of an image, if there is one
abbrev pub blocks_of_image : Option BootImage → ℕ
blocks_of_image None = 0
blocks_of_image (Some i) = i.blocks

-- the blocks that they take there
abbrev pub blocks_at : ℕ → List BootImage → List BootProcess → ℕ
blocks_at m images [] = 0
blocks_at m images (p ∷ ps) = (if p.pid.home == m then blocks_of_image (slice_get images p.image) else 0) + blocks_at m images ps

-- the process with this name among them
abbrev pub process_named : Pid → List BootProcess → Option BootProcess
process_named q [] = None
process_named q (p ∷ ps) = if pid_eq p.pid q then Some p else process_named q ps

-- the bytes of a process's memory
abbrev pub memory_size : Boot → Option BootProcess → ℕ
memory_size b None = 0
memory_size b (Some p) = 256 * blocks_of_image (slice_get b.images p.image)

abbrev pub is_general : Kind → Bool
is_general General = true
is_general Reply = false

-- the switchboard and the process manager
abbrev pub switchboard : Pid
switchboard = pid_of 0 1

abbrev pub manager : Pid
manager = pid_of 0 2

-- an area within so many bytes
abbrev pub area_is_within : ℕ → Area → Bool
area_is_within size a = nat_le (a.base + a.len) size

abbrev pub area_is_empty : Area → Bool
area_is_empty a = (a.base == 0) && ((a.len == 0) && (not a.read && not a.write))

-- a link to a process that the file names: where it starts, and its area in that process's memory
abbrev pub leads_to_process : Boot → Link → Option BootProcess → Bool
leads_to_process b l None = false
leads_to_process b l (Some p) = (l.addr.at == p.pid.home) && area_is_within (memory_size b (Some p)) l.area

-- a link to a server: on machine 0, without code and area
abbrev pub leads_to_server : Link → Bool
leads_to_server l = (l.addr.at == 0) && ((l.code == 0) && area_is_empty l.area)

-- a link that controls a child: general, to the manager, on channel 0, its code the child's number
abbrev pub controls_child : Boot → Link → Bool
controls_child b l =
    pid_eq l.addr.pid manager && ((l.addr.at == 0) && (is_general l.kind && ((l.channel == 0) && (area_is_empty l.area && (nat_le 1 l.code && nat_le l.code (length b.processes))))))

abbrev pub leads_somewhere : Boot → Link → Bool
leads_somewhere b l =
    if pid_eq l.addr.pid switchboard then leads_to_server l
    else if pid_eq l.addr.pid manager then leads_to_server l || controls_child b l
    else leads_to_process b l (process_named l.addr.pid b.processes)

-- a link of the boot file
abbrev pub link_is_valid : Boot → Link → Bool
link_is_valid b l = (l.addr.moves == 0) && (not l.to_kernel && (nat_le l.channel 31 && leads_somewhere b l))

abbrev pub links_are_valid : Boot → List Link → Bool
links_are_valid b [] = true
links_are_valid b (l ∷ ls) = link_is_valid b l && links_are_valid b ls

-- the image fits its memory
abbrev pub image_is_valid : BootImage → Bool
image_is_valid i = nat_le 1 i.blocks && (nat_le i.blocks 256 && nat_le (length i.bytes) (256 * i.blocks))

abbrev pub images_are_valid : List BootImage → Bool
images_are_valid [] = true
images_are_valid (i ∷ is) = image_is_valid i && images_are_valid is

-- a process on a machine of the file, numbered there after so many others, with an image and links of the file
abbrev pub process_is_valid : Boot → ℕ → BootProcess → Bool
process_is_valid b others p =
    nat_lt p.pid.home (length b.machines) && ((p.pid.num == first_number + others)
    && (nat_lt p.image (length b.images) && (nat_le (length p.links) (slots_of b.format) && links_are_valid b p.links)))

-- each machine numbers its processes in the order of the file
abbrev pub processes_are_valid : Boot → List BootProcess → List BootProcess → Bool
processes_are_valid b earlier [] = true
processes_are_valid b earlier (p ∷ ps) = process_is_valid b (starting_at p.pid.home earlier) p && processes_are_valid b (earlier ++ p ∷ []) ps

-- the processes of machine m fit it
abbrev pub machine_is_valid : Boot → ℕ → BootMachine → Bool
machine_is_valid b m r =
    nat_le r.slots 64 && (nat_le r.blocks 4096 && (nat_le (starting_at m b.processes) r.slots && nat_le (blocks_at m b.images b.processes) r.blocks))

abbrev pub machines_are_valid : Boot → ℕ → List BootMachine → Bool
machines_are_valid b m [] = true
machines_are_valid b m (r ∷ rs) = machine_is_valid b m r && machines_are_valid b (m + 1) rs

-- a system of 1 to 16 machines may start with this
pub record IsValid (b : Boot) : Type 0 where
  pub least_numbers : nat_le 1 b.numbers ≡ true
  pub most_numbers : nat_le b.numbers 1048576 ≡ true
  pub least_quantum : nat_le 1 b.quantum ≡ true
  pub most_quantum : nat_le b.quantum 1000 ≡ true
  pub some_machines : nat_le 1 (length b.machines) ≡ true
  pub few_machines : nat_le (length b.machines) 16 ≡ true
  pub machines : machines_are_valid b 0 b.machines ≡ true
  pub few_images : nat_le (length b.images) 256 ≡ true
  pub images : images_are_valid b.images ≡ true
  pub processes : processes_are_valid b [] b.processes ≡ true
