-- What the processes of a boot file take of each machine.
use Rattle.dm_law_mirror.proofs.Names.{◌≡◌, inl, inr, ℕ, zero, suc, ◌+◌, ◌*◌, ◌/◌, ◌<◌, ◌≤◌, ◌==◌, Bool, true, false, List, [], ◌∷◌, ◌++◌, length, refl, ap, ◌∙◌, sym, arith, if◌then◌else◌, slice_get, common_steps, Option, None, Some}
use Rattle.dm_law_mirror.proofs.Names.{cases_Bool, nat_tests, Pid, pid_of, pid_eq, BootImage, BootProcess, Boot, IsValid, starting_at, blocks_at, blocks_of_image, image_is_valid, processes_are_valid, process_named, bind, first_life, memory_of}
use Rattle.dm_law_mirror.proofs.Names.{image_fits, first_point, Room, and, taken_at, taken_by, taken_of_home, Known, is_server}
use Rattle.dm_law_mirror.proofs.Numbering.{Listed, listed, named_is, none_again, life_named, one_if, starting-last, known_of_life, first_known}
pub use Rattle.dm_law_mirror.proofs.Machines.{first_alive}

abbrev nothing : Room
nothing = record { slots = 0; blocks = 0 }

pub first_apart : (b : Boot) (m : ℕ) (q : Pid) → IsValid b → (q.home == m) ≡ false → (first_point b).view.known m q ≡ Known.Unknown
first_apart b m q valid off = first_known b m q valid ∙ ap (λ (c : Bool). if c then (if is_server q then Known.Here else known_of_life (bind (process_named q b.processes) (first_life b))) else Known.Unknown) off

pub first_mine : (b : Boot) (m : ℕ) (q : Pid) (p : BootProcess) → IsValid b → (q.home == m) ≡ true → process_named q b.processes ≡ Some p → (first_point b).view.known m q ≡ Known.Here
first_mine b m q p valid on named =
    let no_server : (q : Pid) → 3 ≤ q.num → is_server q ≡ false = λ q least. grind (arith, nat_tests) in
    let n = named_is b [] b.processes q p valid.processes named in
    first_known b m q valid
    ∙ ap (λ (c : Bool). if c then (if is_server q then Known.Here else known_of_life (bind (process_named q b.processes) (first_life b))) else Known.Unknown) on
    ∙ ap (λ (c : Bool). if c then Known.Here else known_of_life (bind (process_named q b.processes) (first_life b))) (no_server q (omega (arith, n.least)))
    ∙ ap (λ (o : Option BootProcess). known_of_life (bind o (first_life b))) named
    ∙ ap known_of_life (first_alive b p n.image n.there)

home_off : (b : Boot) (m home n : ℕ) → IsValid b → (home == m) ≡ false → taken_of_home (first_point b) m home n ≡ nothing
home_off b m home zero valid off = refl
home_off b m home (suc n) valid off =
    -- a process elsewhere takes nothing
    let taken_off : taken_by (first_point b) m (pid_of home (3 + n)) ≡ nothing = grind (arith, nat_tests, first_apart) in
    ap (λ r. and r (taken_by (first_point b) m (pid_of home (3 + n)))) (home_off b m home n valid off) ∙ ap (and nothing) taken_off

-- a process here takes a slot, and the blocks of its image
pub memory_blocks : (i : BootImage) → image_is_valid i ≡ true → length (memory_of i) / 256 ≡ i.blocks
memory_blocks i valid = let e : length (memory_of i) ≡ 256 * i.blocks = grind (arith, common_steps, nat_tests) in omega (arith, e)

taken_on : (b : Boot) (m : ℕ) (q : Pid) (p : BootProcess) → IsValid b → (q.home == m) ≡ true → process_named q b.processes ≡ Some p → taken_by (first_point b) m q ≡ record { slots = 1; blocks = blocks_of_image (slice_get b.images p.image) }
taken_on b m q p valid on named = grind (arith, nat_tests, named_is, life_named, first_alive, first_mine, memory_blocks, image_fits)

-- those of the list that are here, in order
abbrev AreOfFile : Boot → List BootProcess → Type 0
AreOfFile b ps = (q : Pid) (x : BootProcess) → process_named q ps ≡ Some x → process_named q b.processes ≡ Some x

rest_of_file : (b : Boot) (earlier : List BootProcess) (p : BootProcess) (ps : List BootProcess) → Listed b earlier p ps → AreOfFile b (p ∷ ps) → AreOfFile b ps
rest_of_file b earlier p ps k all q x named = by (pid_eq p.pid q) refl
  where
    by : (c : Bool) → pid_eq p.pid q ≡ c → process_named q b.processes ≡ Some x
    by true e = absurd (let f : None ≡ Some x = sym (none_again b earlier p ps q k e) ∙ named in cc)
    by false e = all q x (ap (λ (c : Bool). if c then Some p else process_named q ps) e ∙ named)

self_named : (b : Boot) (p : BootProcess) (ps : List BootProcess) → AreOfFile b (p ∷ ps) → process_named p.pid b.processes ≡ Some p
self_named b p ps all = all p.pid p (let e : pid_eq p.pid p.pid ≡ true = grind (arith, nat_tests) in ap (λ (c : Bool). if c then Some p else process_named p.pid ps) e)

abbrev blocks_if : Bool → ℕ → ℕ
blocks_if c n = if c then n else 0

-- the sums so far, and of the rest
record Sums (b : Boot) (m : ℕ) (earlier ps : List BootProcess) : Type 0 where
  slots : (taken_of_home (first_point b) m m (starting_at m earlier + starting_at m ps)).slots ≡ (taken_of_home (first_point b) m m (starting_at m earlier)).slots + starting_at m ps
  blocks : (taken_of_home (first_point b) m m (starting_at m earlier + starting_at m ps)).blocks ≡ (taken_of_home (first_point b) m m (starting_at m earlier)).blocks + blocks_at m b.images ps

sums_on : (b : Boot) (m : ℕ) (earlier : List BootProcess) (p : BootProcess) (ps : List BootProcess) (c : Bool) → (p.pid.home == m) ≡ c → IsValid b → Listed b earlier p ps → AreOfFile b (p ∷ ps) → Sums b m (earlier ++ p ∷ []) ps → Sums b m earlier (p ∷ ps)
sums_on b m earlier p ps false home valid k all rest =
    let one : one_if (p.pid.home == m) ≡ 0 = ap one_if home in
    let more = starting-last m earlier p in
    let count : starting_at m (earlier ++ p ∷ []) ≡ starting_at m earlier = omega (arith, one, more) in
    let whole : starting_at m (earlier ++ p ∷ []) + starting_at m ps ≡ starting_at m earlier + starting_at m (p ∷ ps) = omega (arith, one, more) in
    let slots : (taken_of_home (first_point b) m m (starting_at m earlier + starting_at m (p ∷ ps))).slots ≡ (taken_of_home (first_point b) m m (starting_at m earlier)).slots + starting_at m ps =
    sym (ap (λ n. (taken_of_home (first_point b) m m n).slots) whole) ∙ rest.slots ∙ ap (λ n. (taken_of_home (first_point b) m m n).slots + starting_at m ps) count in
    let blocks : (taken_of_home (first_point b) m m (starting_at m earlier + starting_at m (p ∷ ps))).blocks ≡ (taken_of_home (first_point b) m m (starting_at m earlier)).blocks + blocks_at m b.images ps =
    sym (ap (λ n. (taken_of_home (first_point b) m m n).blocks) whole) ∙ rest.blocks ∙ ap (λ n. (taken_of_home (first_point b) m m n).blocks + blocks_at m b.images ps) count in
    let many : blocks_if (p.pid.home == m) (blocks_of_image (slice_get b.images p.image)) ≡ 0 = ap (λ t. blocks_if t (blocks_of_image (slice_get b.images p.image))) home in
    record { slots = omega (arith, slots, one); blocks = omega (arith, blocks, many) }
sums_on b m earlier p ps true home valid k all rest =
    let n = starting_at m earlier in
    let one : one_if (p.pid.home == m) ≡ 1 = ap one_if home in
    let more = starting-last m earlier p in
    let count : starting_at m (earlier ++ p ∷ []) ≡ suc n = omega (arith, one, more) in
    let whole : starting_at m (earlier ++ p ∷ []) + starting_at m ps ≡ n + starting_at m (p ∷ ps) = omega (arith, one, more) in
    let at : p.pid.home ≡ m = grind (arith, nat_tests) in
    let name : p.pid ≡ pid_of m (3 + n) = (let num : p.pid.num ≡ 3 + n = k.number ∙ ap (λ h. 3 + starting_at h earlier) at in λ i. record { home = at i; num = num i }) in
    let mine : taken_by (first_point b) m (pid_of m (3 + n)) ≡ record { slots = 1; blocks = blocks_of_image (slice_get b.images p.image) } =
    ap (taken_by (first_point b) m) (sym name) ∙ taken_on b m p.pid p valid home (self_named b p ps all) in
    let slots : (taken_of_home (first_point b) m m (n + starting_at m (p ∷ ps))).slots ≡ (taken_of_home (first_point b) m m n).slots + (taken_by (first_point b) m (pid_of m (3 + n))).slots + starting_at m ps =
    sym (ap (λ n. (taken_of_home (first_point b) m m n).slots) whole) ∙ rest.slots ∙ ap (λ n. (taken_of_home (first_point b) m m n).slots + starting_at m ps) count in
    let blocks : (taken_of_home (first_point b) m m (n + starting_at m (p ∷ ps))).blocks ≡ (taken_of_home (first_point b) m m n).blocks + (taken_by (first_point b) m (pid_of m (3 + n))).blocks + blocks_at m b.images ps =
    sym (ap (λ n. (taken_of_home (first_point b) m m n).blocks) whole) ∙ rest.blocks ∙ ap (λ n. (taken_of_home (first_point b) m m n).blocks + blocks_at m b.images ps) count in
    let my_slots : (taken_by (first_point b) m (pid_of m (3 + n))).slots ≡ 1 = ap (λ (r : Room). r.slots) mine in
    let my_blocks : (taken_by (first_point b) m (pid_of m (3 + n))).blocks ≡ blocks_of_image (slice_get b.images p.image) = ap (λ (r : Room). r.blocks) mine in
    let many : blocks_if (p.pid.home == m) (blocks_of_image (slice_get b.images p.image)) ≡ blocks_of_image (slice_get b.images p.image) = ap (λ t. blocks_if t (blocks_of_image (slice_get b.images p.image))) home in
    record { slots = omega (arith, slots, my_slots, one); blocks = omega (arith, blocks, my_blocks, many) }

sums : (b : Boot) (m : ℕ) (earlier ps : List BootProcess) → IsValid b → processes_are_valid b earlier ps ≡ true → AreOfFile b ps → Sums b m earlier ps
sums b m earlier [] valid h all =
    let whole : starting_at m earlier + 0 ≡ starting_at m earlier = omega arith in
    let slots = ap (λ n. (taken_of_home (first_point b) m m n).slots) whole in
    let blocks = ap (λ n. (taken_of_home (first_point b) m m n).blocks) whole in
    record { slots = omega (arith, slots); blocks = omega (arith, blocks) }
sums b m earlier (p ∷ ps) valid h all =
    let k = listed b earlier p ps h in
    sums_on b m earlier p ps (p.pid.home == m) refl valid k all (sums b m (earlier ++ p ∷ []) ps valid k.rest (rest_of_file b earlier p ps k all))

-- all homes: only the machine's own processes are there
abbrev of_home : Boot → ℕ → Room
of_home b m = taken_of_home (first_point b) m m (starting_at m b.processes)

and_nothing : (r : Room) → and r nothing ≡ r
and_nothing r = let s : r.slots + 0 ≡ r.slots = omega arith in let k : r.blocks + 0 ≡ r.blocks = omega arith in λ i. record { slots = s i; blocks = k i }

nothing_and : (r : Room) → and nothing r ≡ r
nothing_and r = let s : 0 + r.slots ≡ r.slots = omega arith in let k : 0 + r.blocks ≡ r.blocks = omega arith in λ i. record { slots = s i; blocks = k i }

taken_below : (b : Boot) (m n : ℕ) → IsValid b → n ≤ m → taken_at (first_point b) m n ≡ nothing
taken_below b m zero valid le = refl
taken_below b m (suc n) valid le =
    ap (λ r. and r (taken_of_home (first_point b) m n (starting_at n b.processes))) (taken_below b m n valid (omega (arith, le)))
    ∙ ap (and nothing) (home_off b m n (starting_at n b.processes) valid (grind (arith, nat_tests)))

taken_above : (b : Boot) (m n : ℕ) → IsValid b → m < n → taken_at (first_point b) m n ≡ of_home b m
taken_above b m zero valid lt = absurd (omega (arith, lt))
taken_above b m (suc n) valid lt = elim (cases_Bool (n == m)) [
  | inl same ↦
      let e : n ≡ m = grind (arith, nat_tests) in
      ap (λ r. and r (taken_of_home (first_point b) m n (starting_at n b.processes))) (taken_below b m n valid (omega (arith, e)))
      ∙ nothing_and (taken_of_home (first_point b) m n (starting_at n b.processes)) ∙ ap (λ h. taken_of_home (first_point b) m h (starting_at h b.processes)) e
  | inr apart ↦
      ap (λ r. and r (taken_of_home (first_point b) m n (starting_at n b.processes))) (taken_above b m n valid (grind (arith, nat_tests)))
      ∙ ap (and (of_home b m)) (home_off b m n (starting_at n b.processes) valid apart) ∙ and_nothing (of_home b m)
]

-- what is taken of machine m
pub record FirstTaken (b : Boot) (m : ℕ) : Type 0 where
  pub slots : (taken_at (first_point b) m (length b.machines)).slots ≡ starting_at m b.processes
  pub blocks : (taken_at (first_point b) m (length b.machines)).blocks ≡ blocks_at m b.images b.processes

pub first_taken : (b : Boot) (m : ℕ) → IsValid b → m < length b.machines → FirstTaken b m
first_taken b m valid lt =
    let s = sums b m [] b.processes valid valid.processes (λ q x e. e) in
    let all = taken_above b m (length b.machines) valid lt in
    let slots = s.slots in let blocks = s.blocks in
    let count : 0 + starting_at m b.processes ≡ starting_at m b.processes = omega arith in
    record {
      slots = ap (λ (r : Room). r.slots) all ∙ (let f = ap (λ n. (taken_of_home (first_point b) m m n).slots) count in omega (arith, f, slots));
      blocks = ap (λ (r : Room). r.blocks) all ∙ (let f = ap (λ n. (taken_of_home (first_point b) m m n).blocks) count in omega (arith, f, blocks));
    }
