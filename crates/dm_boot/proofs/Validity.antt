-- The system of a boot file is one that may start.
use Rattle.dm_boot.proofs.Imports.{◌≡◌, ℕ, ◌+◌, ◌≤◌, ◌==◌, ◌&&◌, zero, suc, Bool, true, false, if◌then◌else◌, nat_le, nat_lt, List, [], ◌∷◌, ◌++◌, length, slice_get, codes, Option, Some, None, Result, Ok, Err, refl, ap, sym, subst, ◌∙◌}
use Rattle.dm_boot.proofs.Imports.{arith, and_parts, nat_tests, list_all, is_some, IfOk, Data, Items, no_items, item, get_item, table, Members, BootMachine, BootImage, BootProcess, Boot, IsValid, first_number, slots_of, starting_at}
use Rattle.dm_boot.proofs.Imports.{blocks_at, links_are_valid, image_is_valid, images_are_valid, process_is_valid, processes_are_valid, machine_is_valid, machines_are_valid, TopKeys, Settings, MachineCount, MachineKeys, MachineRoom}
use Rattle.dm_boot.proofs.Imports.{ImageCount, ImageKeys, ImageName, ImageBlocks, ImageText, ImageBytes, ProcessKeys, ProcessName, ProcessMachine, ProcessImage, ProcessRoom, LinkCount, LinkTarget, LinkLimits, BootError, count, or_zero}
use Rattle.dm_boot.proofs.Imports.{all_items, first_failing, map_items, machine_tables, image_tables, process_tables, link_tables, numbers_of, quantum_of, format_number, format_of, slots_in, blocks_in, boot_machine, machines_of}
use Rattle.dm_boot.proofs.Imports.{image_blocks, image_of, images_of, machine_number, home_of, image_place, start_of, starts_from, starts_of, links_of, link_of, linked, linked_all, name_in, processes_of, is_control, system_of, system_with, keeps}
use Rattle.dm_boot.proofs.Imports.{subjects, broken_at, first_broken, rules, has_good_settings, has_good_machine_count, has_good_room, has_good_image_count, image_fits, is_below, has_machine, has_link_count, has_target, is_limited, Answers}
use Rattle.dm_boot.proofs.Imports.{boot_of, boot_of_table, document_of, option_map, unwrap_or, Document}
use Rattle.dm_boot.proofs.Parts.{none-head, at_top, unless-ok}
use Rattle.dm_boot.proofs.Bounds.{if-none, none-is, number-bounds, both-pass, length-map, place-within}
use Rattle.dm_boot.proofs.Rooms.{AllFit, fit-none, fit-from}
use Rattle.dm_boot.proofs.Counted.{starting-push}
use Rattle.dm_boot.proofs.Found.{linked-starting, linked-blocks}
use Rattle.dm_boot.proofs.Leads.{link-valid}

-- the rules that a document keeps
pub record Kept (d : Data) : Type 0 where
  pub settings : broken_at Settings d ≡ None
  pub machine_count : broken_at MachineCount d ≡ None
  pub machine_room : broken_at MachineRoom d ≡ None
  pub image_count : broken_at ImageCount d ≡ None
  pub image_blocks : broken_at ImageBlocks d ≡ None
  pub image_bytes : broken_at ImageBytes d ≡ None
  pub machine : broken_at ProcessMachine d ≡ None
  pub image : broken_at ProcessImage d ≡ None
  pub room : broken_at ProcessRoom d ≡ None
  pub link_count : broken_at LinkCount d ≡ None
  pub target : broken_at LinkTarget d ≡ None
  pub limits : broken_at LinkLimits d ≡ None

kept : (d : Data) → first_broken rules d ≡ None → Kept d
kept d h =
    let a1 = none-head TopKeys _ d h in
    let a2 = none-head Settings _ d a1.1 in
    let a3 = none-head MachineCount _ d a2.1 in
    let a4 = none-head MachineKeys _ d a3.1 in
    let a5 = none-head MachineRoom _ d a4.1 in
    let a6 = none-head ImageCount _ d a5.1 in
    let a7 = none-head ImageKeys _ d a6.1 in
    let a8 = none-head ImageName _ d a7.1 in
    let a9 = none-head ImageBlocks _ d a8.1 in
    let b1 = none-head ImageText _ d a9.1 in
    let b2 = none-head ImageBytes _ d b1.1 in
    let b3 = none-head ProcessKeys _ d b2.1 in
    let b4 = none-head ProcessName _ d b3.1 in
    let b5 = none-head ProcessMachine _ d b4.1 in
    let b6 = none-head ProcessImage _ d b5.1 in
    let b7 = none-head ProcessRoom _ d b6.1 in
    let b8 = none-head LinkCount _ d b7.1 in
    let b9 = none-head LinkTarget _ d b8.1 in
    let b10 = none-head LinkLimits _ d b9.1 in
    record {
      settings = a2.0;
      machine_count = a3.0;
      machine_room = a5.0;
      image_count = a6.0;
      image_blocks = a9.0;
      image_bytes = b2.0;
      machine = b5.0;
      image = b6.0;
      room = b7.0;
      link_count = b8.0;
      target = b9.0;
      limits = b10.0;
    }

and-true : {a b : Bool} → a ≡ true → b ≡ true → (a && b) ≡ true
and-true {a = true} h k = k
and-true {a = false} h k = absurd (cc)

-- images
image-valid : (i : ℕ) (t : Data) → is_some (image_blocks t) ≡ true → image_fits (image_of t) ≡ true → image_is_valid (image_of t) ≡ true
unfolding image_fits image_of
image-valid i t blocks fits =
    let (least, most) = number-bounds 1 1 256 (codes "blocks") t refl refl blocks in
    and-true least (and-true most fits)

images-all : (is : List BootImage) → images_are_valid is ≡ list_all image_is_valid is
images-all [] = refl
images-all (i ∷ is) = ap (λ (b : Bool). image_is_valid i && b) (images-all is)

images-valid : (d : Data) → Kept d → images_are_valid (images_of d) ≡ true
unfolding broken_at keeps subjects
images-valid d k = images-all (images_of d) ∙ both-pass (λ _ t. is_some (image_blocks t)) (λ _ t. image_fits (image_of t)) image_of image_is_valid image-valid 0 (image_tables d) k.image_blocks k.image_bytes

-- machines
slots-at : (m : ℕ) (rs : List BootMachine) → list_all (λ r. nat_le r.slots 64 && nat_le r.blocks 4096) rs ≡ true → (r : BootMachine) → slice_get rs m ≡ Some r → (nat_le r.slots 64 ≡ true) × (nat_le r.blocks 4096 ≡ true)
slots-at zero [] all r h = absurd (cc)
slots-at (suc m) [] all r h = absurd (cc)
slots-at zero (s ∷ rs) all r h =
    let e : s ≡ r = cc in
    let here = (and_parts (nat_le s.slots 64 && nat_le s.blocks 4096) (list_all (λ x. nat_le x.slots 64 && nat_le x.blocks 4096) rs) all).0 in
    rw (← e) (and_parts (nat_le s.slots 64) (nat_le s.blocks 4096) here)
slots-at (suc m) (s ∷ rs) all r h = slots-at m rs (and_parts (nat_le s.slots 64 && nat_le s.blocks 4096) (list_all (λ x. nat_le x.slots 64 && nat_le x.blocks 4096) rs) all).1 r h

rooms-valid : (d : Data) → Kept d → list_all (λ r. nat_le r.slots 64 && nat_le r.blocks 4096) (machines_of d) ≡ true
unfolding broken_at keeps subjects has_good_room boot_machine
rooms-valid d k = both-pass (λ _ t. has_good_room t) (λ _ t. has_good_room t) boot_machine (λ r. nat_le r.slots 64 && nat_le r.blocks 4096) (λ i t good _.
    let (slots, blocks) = and_parts (is_some (slots_in t)) (is_some (blocks_in t)) good in
    and-true (number-bounds 0 0 64 (codes "slots") t refl refl slots).1 (number-bounds 0 0 4096 (codes "blocks") t refl refl blocks).1) 0 (machine_tables d) k.machine_room k.machine_room

machines-from : (b : Boot) (m : ℕ) (rs : List BootMachine) → ((j : ℕ) (r : BootMachine) → slice_get rs j ≡ Some r → machine_is_valid b (m + j) r ≡ true) → machines_are_valid b m rs ≡ true
machines-from b m [] each = refl
machines-from b m (r ∷ rs) each =
    let here : machine_is_valid b m r ≡ true = subst (λ (n : ℕ). machine_is_valid b n r ≡ true) (omega arith) (each 0 r refl) in
    and-true here (machines-from b (m + 1) rs (λ j s h.
    subst (λ (n : ℕ). machine_is_valid b n s ≡ true) (omega arith) (each (suc j) s h)))

le-test : (a b : ℕ) → a ≤ b → nat_le a b ≡ true
le-test a b h = grind (arith, nat_tests)

all-fit : (d : Data) → Kept d → AllFit (machines_of d) (images_of d) (starts_of d)
unfolding broken_at keeps subjects starts_of
all-fit d k = fit-from d [] 0 (process_tables d) refl refl (fit-none (machines_of d) (images_of d)) k.room

machines-valid : (d : Data) → Kept d → machines_are_valid (system_of d) 0 (machines_of d) ≡ true
unfolding system_with starts_of
machines-valid d k = machines-from (system_of d) 0 (machines_of d) (λ j r h.
    let (slots, blocks) = slots-at j (machines_of d) (rooms-valid d k) r h in
    let fit = all-fit d k j r h in
    let few : starting_at j (processes_of d) ≤ r.slots = rw (linked-starting d (starts_of d) [] (process_tables d) j) fit.slots in
    let low : blocks_at j (images_of d) (processes_of d) ≤ r.blocks = rw (linked-blocks d (starts_of d) [] (process_tables d) j (images_of d)) fit.blocks in
    let valid : machine_is_valid (system_of d) j r ≡ true = and-true slots (and-true blocks (and-true (le-test (starting_at j (processes_of d)) r.slots few) (le-test (blocks_at j (images_of d) (processes_of d)) r.blocks low))) in
    subst (λ (n : ℕ). machine_is_valid (system_of d) n r ≡ true) (omega arith) valid)

-- links
links-valid : (d : Data) (ls : Items) → ((k : ℕ) (t : Data) → get_item k (process_tables d) ≡ Some t → is_some (image_place d t) ≡ true) → all_items (has_target d) ls ≡ true → all_items (is_limited d) ls ≡ true → links_are_valid (system_of d) (map_items (link_of d (starts_of d)) ls) ≡ true
unfolding map_items
links-valid d no_items images targets limits = refl
links-valid d (item l ls) images targets limits =
    let (target, more) = and_parts (has_target d l) (all_items (has_target d) ls) targets in
    let (limit, rest) = and_parts (is_limited d l) (all_items (is_limited d) ls) limits in
    and-true (link-valid d l (is_control l) refl images target limit) (links-valid d ls images more rest)

-- processes
image-at : (d : Data) (i : ℕ) (ts : Items) → first_failing (λ _ t. is_some (image_place d t)) i ts ≡ None → (k : ℕ) (t : Data) → get_item k ts ≡ Some t → is_some (image_place d t) ≡ true
unfolding first_failing
image-at d i no_items h zero t at = absurd (cc)
image-at d i no_items h (suc k) t at = absurd (cc)
image-at d i (item u ts) h zero t at =
    let e : u ≡ t = cc in
    rw (← e) (if-none (is_some (image_place d u)) (first_failing (λ _ x. is_some (image_place d x)) (i + 1) ts) i h).0
image-at d i (item u ts) h (suc k) t at = image-at d (i + 1) ts (if-none (is_some (image_place d u)) (first_failing (λ _ x. is_some (image_place d x)) (i + 1) ts) i h).1 k t at

below : (n : ℕ) (o : Option ℕ) → is_below n o ≡ true → nat_lt (or_zero o) n ≡ true
below n None h = absurd (cc)
below n (Some m) h = h

length-links : (d t : Data) → length (links_of d (starts_of d) t) ≡ count (link_tables t)
length-links d t = length-map (link_of d (starts_of d)) (link_tables t)

-- what is known of each process's table
pub record Good (d : Data) (t : Data) : Type 0 where
  pub machine : has_machine d t ≡ true
  pub image : is_some (image_place d t) ≡ true
  pub count : has_link_count d t ≡ true
  pub target : all_items (has_target d) (link_tables t) ≡ true
  pub limits : all_items (is_limited d) (link_tables t) ≡ true

process-valid : (d : Data) (done : List BootProcess) (t : Data) (others : ℕ) → ((k : ℕ) (u : Data) → get_item k (process_tables d) ≡ Some u → is_some (image_place d u) ≡ true) → Good d t → others ≡ starting_at (home_of t) done → process_is_valid (system_of d) others (linked (start_of d done t) (name_in t) (links_of d (starts_of d) t)) ≡ true
unfolding system_with start_of has_machine has_link_count
process-valid d done t others images good e =
    let home : nat_lt (home_of t) (length (machines_of d)) ≡ true = rw (length-map boot_machine (machine_tables d)) (below (count (machine_tables d)) (machine_number t) good.machine) in
    let number : (first_number + starting_at (home_of t) done == first_number + others) ≡ true = grind (arith, nat_tests) in
    let (j, place) = none-is (image_place d t) good.image in
    let within = place-within _ (image_tables d) j place in
    let image : nat_lt (or_zero (image_place d t)) (length (images_of d)) ≡ true = rw (length-map image_of (image_tables d), place) (grind (arith, nat_tests)) in
    let few : nat_le (length (links_of d (starts_of d) t)) (slots_of (format_of d)) ≡ true = rw (length-links d t) good.count in
    and-true home (and-true number (and-true image (and-true few (links-valid d (link_tables t) images good.target good.limits))))

-- the tables from place i on, whose rules hold
pub record GoodFrom (d : Data) (i : ℕ) (ts : Items) : Type 0 where
  pub machine : first_failing (λ _ t. has_machine d t) i ts ≡ None
  pub image : first_failing (λ _ t. is_some (image_place d t)) i ts ≡ None
  pub count : first_failing (λ _ t. has_link_count d t) i ts ≡ None
  pub target : first_failing (λ _ t. all_items (has_target d) (link_tables t)) i ts ≡ None
  pub limits : first_failing (λ _ t. all_items (is_limited d) (link_tables t)) i ts ≡ None

good-parts : (d : Data) (i : ℕ) (t : Data) (ts : Items) → GoodFrom d i (item t ts) → Good d t × GoodFrom d (i + 1) ts
unfolding first_failing
good-parts d i t ts h =
    let a = if-none (has_machine d t) (first_failing (λ _ x. has_machine d x) (i + 1) ts) i h.machine in
    let b = if-none (is_some (image_place d t)) (first_failing (λ _ x. is_some (image_place d x)) (i + 1) ts) i h.image in
    let e = if-none (has_link_count d t) (first_failing (λ _ x. has_link_count d x) (i + 1) ts) i h.count in
    let f = if-none (all_items (has_target d) (link_tables t)) (first_failing (λ _ x. all_items (has_target d) (link_tables x)) (i + 1) ts) i h.target in
    let g = if-none (all_items (is_limited d) (link_tables t)) (first_failing (λ _ x. all_items (is_limited d) (link_tables x)) (i + 1) ts) i h.limits in
    (record { machine = a.0; image = b.0; count = e.0; target = f.0; limits = g.0 }, record { machine = a.1; image = b.1; count = e.1; target = f.1; limits = g.1 })

home-is : (d : Data) (done : List BootProcess) (t : Data) → (start_of d done t).pid.home ≡ home_of t
unfolding start_of
home-is d done t = refl

processes-from : (d : Data) (done earlier : List BootProcess) (i : ℕ) (ts : Items) → ((k : ℕ) (u : Data) → get_item k (process_tables d) ≡ Some u → is_some (image_place d u) ≡ true) → GoodFrom d i ts → ((m : ℕ) → starting_at m earlier ≡ starting_at m done) → processes_are_valid (system_of d) earlier (linked_all d (starts_of d) (starts_from d done ts) ts) ≡ true
unfolding starts_from linked_all
processes-from d done earlier i no_items images good same = refl
processes-from d done earlier i (item t ts) images good same =
    let s = start_of d done t in
    let p = linked s (name_in t) (links_of d (starts_of d) t) in
    let (here, rest) = good-parts d i t ts good in
    let home : s.pid.home ≡ home_of t = home-is d done t in
    let others : starting_at s.pid.home earlier ≡ starting_at (home_of t) done = same s.pid.home ∙ ap (λ (m : ℕ). starting_at m done) home in
    and-true (process-valid d done t (starting_at s.pid.home earlier) images here others)
    (processes-from d (done ++ s ∷ []) (earlier ++ p ∷ []) (i + 1) ts images rest (λ m.
    starting-push m earlier p ∙ ap (λ (n : ℕ). n + (if s.pid.home == m then 1 else 0)) (same m) ∙ sym (starting-push m done s)))

-- the whole
valid : (d : Data) → Kept d → IsValid (system_of d)
unfolding system_with starts_of broken_at keeps subjects first_failing has_good_settings has_good_machine_count has_good_image_count
valid d k =
    let settings = at_top Settings d refl k.settings in
    let (numbers, more) = and_parts (is_some (numbers_of d)) (is_some (quantum_of d) && is_some (format_number d)) settings in
    let (quantum, format) = and_parts (is_some (quantum_of d)) (is_some (format_number d)) more in
    let (least_numbers, most_numbers) = number-bounds 1048576 1 1048576 (codes "numbers") d refl refl numbers in
    let (least_quantum, most_quantum) = number-bounds 16 1 1000 (codes "quantum") d refl refl quantum in
    let machines = at_top MachineCount d refl k.machine_count in
    let (some, few) = and_parts (nat_le 1 (count (machine_tables d))) (nat_le (count (machine_tables d)) 16) machines in
    let images = at_top ImageCount d refl k.image_count in
    let here = image-at d 0 (process_tables d) k.image in
    record {
      least_numbers = least_numbers;
      most_numbers = most_numbers;
      least_quantum = least_quantum;
      most_quantum = most_quantum;
      some_machines = rw (length-map boot_machine (machine_tables d)) some;
      few_machines = rw (length-map boot_machine (machine_tables d)) few;
      machines = machines-valid d k;
      few_images = rw (length-map image_of (image_tables d)) images;
      images = images-valid d k;
      processes = processes-from d [] [] 0 (process_tables d) here (record { machine = k.machine; image = k.image; count = k.link_count; target = k.target; limits = k.limits }) (λ m. refl);
    }

table-valid : (d : Data) (b : Boot) → boot_of_table d ≡ Ok b → IsValid b
unfolding boot_of_table
table-valid d b h =
    let (none, built) = unless-ok (first_broken rules d) (system_of d) b h in
    subst IsValid built (valid d (kept d none))

document-valid : (o : Option Members) (b : Boot) → unwrap_or (option_map (λ ms. boot_of_table (table ms)) o) (Err (Document, 0)) ≡ Ok b → IsValid b
document-valid None b h = absurd (cc)
document-valid (Some ms) b h = table-valid (table ms) b h

-- the system of a boot file may start
pub boot-valid : (bytes : List ℕ) (b : Boot) → boot_of bytes ≡ Ok b → IsValid b
unfolding boot_of
boot-valid bytes b h = document-valid (document_of bytes) b h

pub answers-valid : (bytes : List ℕ) (r : Result Boot BootError) → Answers (boot_of bytes) r → IfOk r (λ b. IsValid b)
answers-valid bytes (Ok b) h = boot-valid bytes b h
answers-valid bytes (Err e) h = tt

pub ruleset valid_lemmas = (answers-valid)
