-- Each link of a boot file leads somewhere.
use Rattle.dm_boot.proofs.Imports.{◌≡◌, ℕ, ◌+◌, ◌*◌, ◌<◌, ◌≤◌, ◌==◌, ◌&&◌, ◌||◌, not, Bool, true, false, if◌then◌else◌, nat_le, List, [], length, slice_get, codes, Option, Some, None, refl, ap, sym, subst, ◌∙◌, arith, and_parts, nat_tests}
use Rattle.dm_boot.proofs.Imports.{is_some, Data, get_item, Pid, Link, pid_of, pid_eq, BootProcess, Boot, first_number, process_named, switchboard, manager, blocks_of_image, memory_size, leads_to_process, leads_to_server, controls_child}
use Rattle.dm_boot.proofs.Imports.{link_is_valid, area_is_within, count, or_zero, text_at, truth_at, element_place, named, is_switchboard, is_manager, is_server_name, process_tables, image_tables, image_place, image_of, images_of}
use Rattle.dm_boot.proofs.Imports.{starts_of, linked, link_of, link_to, link_of_control, pid_named, pid_of_start, is_control, code_in, channel_in, base_in, len_in, base_of, len_of, place_at, program_of, system_of, system_with, has_target, is_plain, is_limited, has_area}
use Rattle.dm_boot.proofs.Imports.{memory_size_of}
use Rattle.dm_boot.proofs.Bounds.{none-is, number-bounds, number-zero, place-zero, map-at, place-within, item-at}
use Rattle.dm_boot.proofs.Found.{Start, linked-length, start-at, numbered-none, found-start, found-linked}

pub processes-length : (d : Data) → length (system_of d).processes ≡ count (process_tables d)
unfolding system_with starts_of
processes-length d = linked-length d (starts_of d) [] (process_tables d)

and-true : {a b : Bool} → a ≡ true → b ≡ true → (a && b) ≡ true
and-true {a = true} h k = k
and-true {a = false} h k = absurd (cc)

or-right : (a b : Bool) → b ≡ true → (a || b) ≡ true
or-right true b h = refl
or-right false b h = h

not-false : (b : Bool) → not b ≡ true → b ≡ false
not-false true h = absurd (cc)
not-false false h = refl

-- a link that controls a child
control-valid : (d : Data) (child : ℕ) → nat_le 1 child ≡ true → nat_le child (length (system_of d).processes) ≡ true → link_is_valid (system_of d) (link_of_control child) ≡ true
unfolding link_of_control
control-valid d child least most = or-right (leads_to_server (link_of_control child)) (controls_child (system_of d) (link_of_control child)) (and-true least most)

-- a link to a server
plain-server : (p : Pid) (program : List ℕ) (l : Data) → p.home ≡ 0 → is_plain l ≡ true → leads_to_server (link_to p program l) ≡ true
unfolding is_plain link_to
plain-server p program l home h =
    let (code, h1) = and_parts (is_some (code_in 0 l)) _ h in
    let (base, h2) = and_parts (is_some (base_in 0 l)) _ h1 in
    let (len, h3) = and_parts (is_some (len_in 0 l)) _ h2 in
    let (read, write) = and_parts (not (truth_at (codes "read") l)) (not (truth_at (codes "write") l)) h3 in
    rw (home, number-zero 4294967295 (codes "code") l code, place-zero program (or_zero (place_at program 0 (codes "base") l)) (codes "len") l len, place-zero program 0 (codes "base") l base, not-false (truth_at (codes "read") l) read, not-false (truth_at (codes "write") l) write)

channel-small : (p : Pid) (program : List ℕ) (l : Data) → is_some (channel_in l) ≡ true → nat_le (link_to p program l).channel 31 ≡ true
unfolding link_to
channel-small p program l h = (number-bounds 0 0 31 (codes "channel") l refl refl h).1

switchboard-valid : (d : Data) (program : List ℕ) (l : Data) → is_some (channel_in l) ≡ true → is_plain l ≡ true → link_is_valid (system_of d) (link_to switchboard program l) ≡ true
unfolding link_to
switchboard-valid d program l channel plain = and-true (channel-small switchboard program l channel) (plain-server switchboard program l refl plain)

or-left : (a b : Bool) → a ≡ true → (a || b) ≡ true
or-left true b h = refl
or-left false b h = absurd (cc)

manager-valid : (d : Data) (program : List ℕ) (l : Data) → is_some (channel_in l) ≡ true → is_plain l ≡ true → link_is_valid (system_of d) (link_to manager program l) ≡ true
unfolding link_to
manager-valid d program l channel plain = and-true (channel-small manager program l channel) (or-left (leads_to_server (link_to manager program l)) (controls_child (system_of d) (link_to manager program l)) (plain-server manager program l refl plain))

-- a link to a process
no-and : (a b : Bool) → b ≡ false → (a && b) ≡ false
no-and true b h = h
no-and false b h = refl

no-server : (q : Pid) (n : ℕ) → n < first_number → first_number ≤ q.num → pid_eq q (pid_of 0 n) ≡ false
no-server q n small large =
    let apart : (q.num == n) ≡ false = grind (arith, nat_tests) in
    no-and (q.home == 0) (q.num == n) apart

equal : (n : ℕ) → (n == n) ≡ true
equal n = grind (arith, nat_tests)

leads-process : (b : Boot) (l : Link) (o : Option BootProcess) (p : BootProcess) → o ≡ Some p → l.addr.at ≡ p.pid.home → area_is_within (memory_size b (Some p)) l.area ≡ true → leads_to_process b l o ≡ true
leads-process b l None p e at within = absurd (cc)
leads-process b l (Some q) p e at within =
    let same : q ≡ p = cc in
    let home : (l.addr.at == q.pid.home) ≡ true = rw (same, at) (equal p.pid.home) in
    and-true home (rw same within)

process-valid : (d : Data) (program : List ℕ) (l : Data) (s : BootProcess) (p : BootProcess) → is_some (channel_in l) ≡ true → first_number ≤ s.pid.num → process_named s.pid (system_of d).processes ≡ Some p → p.pid ≡ s.pid → area_is_within (memory_size (system_of d) (Some p)) (link_to s.pid program l).area ≡ true → link_is_valid (system_of d) (link_to s.pid program l) ≡ true
unfolding link_to
process-valid d program l s p channel number found same within =
    let a : pid_eq s.pid switchboard ≡ false = no-server s.pid 1 (omega arith) number in
    let b : pid_eq s.pid manager ≡ false = no-server s.pid 2 (omega arith) number in
    let leads : leads_to_process (system_of d) (link_to s.pid program l) (process_named s.pid (system_of d).processes) ≡ true = leads-process (system_of d) (link_to s.pid program l) (process_named s.pid (system_of d).processes) p found (ap (λ (q : Pid). q.home) (sym same)) within in
    and-true (channel-small s.pid program l channel) (rw (a, b) leads)

-- the memory of a process that the file names
memory-is : (d : Data) (name : List ℕ) (k : ℕ) (t : Data) (s : BootProcess) → element_place name (process_tables d) ≡ Some k → get_item k (process_tables d) ≡ Some t → Start d t s → is_some (image_place d t) ≡ true → memory_size_of d name ≡ 256 * blocks_of_image (slice_get (images_of d) s.image)
unfolding memory_size_of named image_of
memory-is d name k t s place at start has_image =
    let (j, f) = none-is (image_place d t) has_image in
    let (u, there) = item-at (image_tables d) j (place-within (text_at (codes "image") t) (image_tables d) j f) in
    let image : slice_get (images_of d) j ≡ Some (image_of u) = map-at image_of (image_tables d) j u there in
    let e : s.image ≡ j = start.image ∙ ap or_zero f in
    rw (place, at, f, there, e, image)

pid-at : (starts : List BootProcess) (o : Option ℕ) (k : ℕ) (s : BootProcess) → o ≡ Some k → slice_get starts k ≡ Some s → pid_of_start (slice_get starts (or_zero o)) ≡ s.pid
pid-at starts o k s e at = ap (λ (x : Option ℕ). pid_of_start (slice_get starts (or_zero x))) e ∙ ap pid_of_start at

-- a link that isn't a control link, by the name that it has
to-valid : (d l : Data) (a m : Bool) → ((k : ℕ) (t : Data) → get_item k (process_tables d) ≡ Some t → is_some (image_place d t) ≡ true)
    → ((a || m) || is_some (element_place (text_at (codes "to") l) (process_tables d))) ≡ true
    → (is_some (channel_in l) && (if a || m then is_plain l else is_some (code_in 4294967295 l) && has_area (memory_size_of d (text_at (codes "to") l)) (program_of d (text_at (codes "to") l)) l)) ≡ true
    → link_is_valid (system_of d) (link_to (if a then switchboard else if m then manager else pid_of_start (slice_get (starts_of d) (or_zero (element_place (text_at (codes "to") l) (process_tables d))))) (program_of d (text_at (codes "to") l)) l) ≡ true
unfolding starts_of has_area link_to system_with
to-valid d l true m images target limit =
    let (channel, plain) = and_parts (is_some (channel_in l)) (is_plain l) limit in
    switchboard-valid d (program_of d (text_at (codes "to") l)) l channel plain
to-valid d l false true images target limit =
    let (channel, plain) = and_parts (is_some (channel_in l)) (is_plain l) limit in
    manager-valid d (program_of d (text_at (codes "to") l)) l channel plain
to-valid d l false false images target limit =
    let name = text_at (codes "to") l in
    let program = program_of d name in
    let (channel, more) = and_parts (is_some (channel_in l)) (is_some (code_in 4294967295 l) && has_area (memory_size_of d name) program l) limit in
    let (code, area) = and_parts (is_some (code_in 4294967295 l)) (has_area (memory_size_of d name) program l) more in
    let (base, rest) = and_parts (is_some (base_of program l)) (is_some (len_of program l) && nat_le (or_zero (base_of program l) + or_zero (len_of program l)) (memory_size_of d name)) area in
    let (len, within) = and_parts (is_some (len_of program l)) (nat_le (or_zero (base_of program l) + or_zero (len_of program l)) (memory_size_of d name)) rest in
    let (k, place) = none-is (element_place name (process_tables d)) target in
    let (t, at) = item-at (process_tables d) k (place-within name (process_tables d) k place) in
    let (s, says) = start-at d [] (process_tables d) k t at in
    let found = found-start d [] (process_tables d) k s numbered-none says.0 in
    let (name_too, (ls, found_too)) = found-linked d (starts_of d) [] (process_tables d) s.pid s found in
    let size = memory-is d name k t s place at says.1 (images k t at) in
    let pid = pid-at (starts_of d) (element_place name (process_tables d)) k s place says.0 in
    subst (λ (q : Pid). link_is_valid (system_of d) (link_to q program l) ≡ true) (sym pid) (process-valid d program l s (linked s name_too ls) channel says.1.number found_too refl (rw (← size) within))

-- a link of the file
pub link-valid : (d l : Data) (b : Bool) → b ≡ is_control l → ((k : ℕ) (t : Data) → get_item k (process_tables d) ≡ Some t → is_some (image_place d t) ≡ true) → has_target d l ≡ true → is_limited d l ≡ true → link_is_valid (system_of d) (link_of d (starts_of d) l) ≡ true
unfolding has_target is_limited link_of pid_named is_server_name
link-valid d l true control images target limit =
    let named_here = rw (← control) at target in
    let (k, place) = none-is (element_place (text_at (codes "control") l) (process_tables d)) named_here in
    let below = place-within (text_at (codes "control") l) (process_tables d) k place in
    let many = processes-length d in
    let least : nat_le 1 (k + 1) ≡ true = grind (arith, nat_tests) in
    let most : nat_le (k + 1) (length (system_of d).processes) ≡ true = grind (arith, nat_tests) in
    rw (← control, place) (control-valid d (k + 1) least most)
link-valid d l false control images target limit =
    let target_too = rw (← control) at target in
    let limit_too = rw (← control) at limit in
    rw (← control) (to-valid d l (is_switchboard (text_at (codes "to") l)) (is_manager (text_at (codes "to") l)) images target_too limit_too)
