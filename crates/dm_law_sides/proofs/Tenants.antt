-- Parts and their sides, computed on examples/tenants.toml. The bytes of images are left out: nothing here reads them.
use Rattle.dm_law_always.proofs.Names.{◌≡◌, ℕ, [], ◌∷◌, false, refl, if◌then◌else◌, ◌==◌, pid_of, Boot, BootImage, IsValid, Link, Pid, manager, start, switchboard}
use Rattle.dm_link.specs.declared.Kind.TheVariants.{General}
use Rattle.dm_onekernel.specs.declared.boot.Format.TheVariants.{One}
use Rattle.dm_parts.specs.Laws.{EachKeeps}
use Rattle.dm_parts.specs.Parts.{joins, parts_of, with_links, with_processes}
use Rattle.dm_law_sides.specs.Sides.{Keeps}
use Rattle.dm_law_sides.specs.Files.{part_at, sides_at}
use Rattle.dm_law_sides.proofs.Files.{file_keeps, parts_keep}

abbrev leads_to : Pid → Link
leads_to p = record { addr = record { pid = p; at = p.home; moves = 0 }; kind = General; to_kernel = false; code = 0; channel = 0; area = record { base = 0; len = 0; read = false; write = false } }

abbrev one_block : BootImage
one_block = record { bytes = []; blocks = 1 }

abbrev pub tenants : Boot
tenants = record {
  numbers = 1048576;
  quantum = 16;
  format = One;
  machines = record { slots = 3; blocks = 3 } ∷ record { slots = 3; blocks = 3 } ∷ [];
  images = one_block ∷ one_block ∷ one_block ∷ one_block ∷ [];
  processes =
      record { pid = pid_of 0 3; name = []; image = 0; links = [] }
      ∷ record { pid = pid_of 1 3; name = []; image = 1; links = leads_to (pid_of 0 3) ∷ [] }
      ∷ record { pid = pid_of 0 4; name = []; image = 2; links = leads_to manager ∷ [] }
      ∷ [];
}

valid : IsValid tenants
valid = record { least_numbers = refl; most_numbers = refl; least_quantum = refl; most_quantum = refl; some_machines = refl; few_machines = refl; machines = refl; few_images = refl; images = refl; processes = refl }

-- the server and the client are one part, the parent another, and the switchboard one by itself
pub parts : parts_of tenants ≡ 0 ∷ 0 ∷ 2 ∷ 3 ∷ []
unfolding with_processes with_links joins
parts = refl

-- so their sides are
pub of_server : (sides_at tenants (part_at tenants)).of (pid_of 0 3) ≡ 0
unfolding with_processes with_links joins
of_server = refl

pub of_client : (sides_at tenants (part_at tenants)).of (pid_of 1 3) ≡ 0
unfolding with_processes with_links joins
of_client = refl

pub of_parent : (sides_at tenants (part_at tenants)).of (pid_of 0 4) ≡ 2
unfolding with_processes with_links joins
of_parent = refl

pub of_switchboard : (sides_at tenants (part_at tenants)).of switchboard ≡ 3
unfolding with_processes with_links joins
of_switchboard = refl

-- and everything keeps to them at the start
pub keeps : Keeps (start tenants) (sides_at tenants (part_at tenants))
keeps = file_keeps tenants (part_at tenants) valid (parts_keep tenants valid)

-- sides that part the client from the server aren't such sides: its link crosses
abbrev torn : ℕ → ℕ
torn place = if place == 1 then 1 else 0

pub crosses : EachKeeps tenants torn → ⊥
unfolding joins
crosses h =
    let same : torn 1 ≡ torn 0 = h 1 0 (record { process = record { pid = pid_of 1 3; name = []; image = 1; links = leads_to (pid_of 0 3) ∷ [] }; holder = refl; slot = 0; link = leads_to (pid_of 0 3); held = refl; joins = refl }) in
    absurd (let f : 1 ≡ 0 = same in cc)
