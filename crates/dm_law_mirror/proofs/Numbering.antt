-- How a boot file numbers its processes: those of each home from the first number on, in the order of the file.
use Rattle.dm_law_mirror.proofs.Names.{◌≡◌, inl, inr, ℕ, ◌+◌, ◌<◌, ◌≤◌, ◌==◌, Bool, true, false, List, [], ◌∷◌, ◌++◌, length, refl, ap, ◌∙◌, sym, subst, is_some, nat_le, nat_lt, arith, ◌&&◌, if◌then◌else◌, slice_get, Option, None, Some}
use Rattle.dm_law_mirror.proofs.Names.{cases_Bool, nat_tests, Pid, pid_of, pid_eq, BootImage, BootProcess, Boot, starting_at, slots_of, links_are_valid, processes_are_valid, process_is_valid, process_named, Life, bind, first_life, life_at}
use Rattle.dm_law_mirror.proofs.Names.{started, started_at, pid_eq-is, both, get_some, IsValid, first_point, Known, is_server}
pub use Rattle.dm_law_always.proofs.Based.Start.{known_first, known_of_life, one_if, starting-last}

pub life_named : (b : Boot) (ps : List BootProcess) (q : Pid) → life_at b ps q ≡ bind (process_named q ps) (first_life b)
life_named b [] q = refl
life_named b (p ∷ ps) q = grind (arith, nat_tests, (life_named b ps q))

pub started_named : (b : Boot) (ps : List BootProcess) (q : Pid) → started_at b ps q ≡ bind (process_named q ps) (started b)
started_named b [] q = refl
started_named b (p ∷ ps) q = grind (arith, nat_tests, (started_named b ps q))

-- a process of a list after some others of the file
pub record Listed (b : Boot) (earlier : List BootProcess) (p : BootProcess) (ps : List BootProcess) : Type 0 where
  pub home : p.pid.home < length b.machines
  pub number : p.pid.num ≡ 3 + starting_at p.pid.home earlier
  pub image : BootImage
  pub there : slice_get b.images p.image ≡ Some image
  pub rest : processes_are_valid b (earlier ++ p ∷ []) ps ≡ true

pub some_of : {X : Type 0} (o : Option X) → is_some o ≡ true → (x : X) × (o ≡ Some x)
some_of o e = grind (arith, nat_tests)

pub listed : (b : Boot) (earlier : List BootProcess) (p : BootProcess) (ps : List BootProcess) → processes_are_valid b earlier (p ∷ ps) ≡ true → Listed b earlier p ps
listed b earlier p ps h =
    let k = both (process_is_valid b (starting_at p.pid.home earlier) p) (processes_are_valid b (earlier ++ p ∷ []) ps) h in
    let n = 3 + starting_at p.pid.home earlier in
    let one = both (nat_lt p.pid.home (length b.machines)) ((p.pid.num == n) && (nat_lt p.image (length b.images) && (nat_le (length p.links) (slots_of b.format) && links_are_valid b p.links))) k.0 in
    let second = both (p.pid.num == n) (nat_lt p.image (length b.images) && (nat_le (length p.links) (slots_of b.format) && links_are_valid b p.links)) one.1 in
    let three = both (nat_lt p.image (length b.images)) (nat_le (length p.links) (slots_of b.format) && links_are_valid b p.links) second.1 in
    let home = one.0 in
    let number = second.0 in
    let (image, there) = some_of (slice_get b.images p.image) (get_some b.images p.image three.0) in
    record { home = grind (arith, nat_tests); number = grind (arith, nat_tests); image = image; there = there; rest = k.1 }

-- the number of the process that comes next
pub number_of : (b : Boot) (earlier : List BootProcess) (p : BootProcess) (ps : List BootProcess) (q : Pid) → Listed b earlier p ps → p.pid ≡ q → q.num ≡ 3 + starting_at q.home earlier
number_of b earlier p ps q k is = sym (ap (λ (v : Pid). v.num) is) ∙ k.number ∙ ap (λ (v : Pid). 3 + starting_at v.home earlier) is

pub none_below : (b : Boot) (earlier ps : List BootProcess) (q : Pid) → processes_are_valid b earlier ps ≡ true → q.num < 3 + starting_at q.home earlier → process_named q ps ≡ None
none_below b earlier [] q h low = refl
none_below b earlier (p ∷ ps) q h low =
    let k = listed b earlier p ps h in
    let more = starting-last q.home earlier p in
    let apart : pid_eq p.pid q ≡ false = grind (arith, nat_tests, number_of, pid_eq-is) in
    ap (λ (c : Bool). if c then Some p else process_named q ps) apart ∙ none_below b (earlier ++ p ∷ []) ps q k.rest (omega (arith, low, more))

-- the first of a list isn't named again
pub none_again : (b : Boot) (earlier : List BootProcess) (p : BootProcess) (ps : List BootProcess) (q : Pid) → Listed b earlier p ps → pid_eq p.pid q ≡ true → process_named q ps ≡ None
none_again b earlier p ps q k same = grind (arith, nat_tests, pid_eq-is, number_of, starting-last, none_below)

-- a process that a list names
pub record Named (b : Boot) (earlier ps : List BootProcess) (q : Pid) (p : BootProcess) : Type 0 where
  pub is : p.pid ≡ q
  pub home : q.home < length b.machines
  pub least : 3 + starting_at q.home earlier ≤ q.num
  pub most : q.num < 3 + (starting_at q.home earlier + starting_at q.home ps)
  pub image : BootImage
  pub there : slice_get b.images p.image ≡ Some image

named_if : (b : Boot) (earlier : List BootProcess) (p : BootProcess) (ps : List BootProcess) (q : Pid) (x : BootProcess) (c : Bool) → pid_eq p.pid q ≡ c → Listed b earlier p ps → (if c then Some p else process_named q ps) ≡ Some x
    → (process_named q ps ≡ Some x → Named b (earlier ++ p ∷ []) ps q x) → Named b earlier (p ∷ ps) q x
named_if b earlier p ps q x true e k is rest =
    let same : p ≡ x = cc in
    let name = pid_eq-is p.pid q e in
    let n = number_of b earlier p ps q k name in
    let home : p.pid.home ≡ q.home = ap (λ (v : Pid). v.home) name in
    let one : one_if (p.pid.home == q.home) ≡ 1 = (let e : (p.pid.home == q.home) ≡ true = grind (arith, nat_tests) in ap one_if e) in
    subst (Named b earlier (p ∷ ps) q) same
    (record { is = name; home = omega (arith, home, k.home); least = omega (arith, n); most = omega (arith, n, one); image = k.image; there = k.there })
named_if b earlier p ps q x false e k is rest =
    let r = rest is in
    let more = starting-last q.home earlier p in
    let least = r.least in
    let most = r.most in
    record { is = r.is; home = r.home; least = omega (arith, least, more); most = omega (arith, most, more); image = r.image; there = r.there }

pub named_is : (b : Boot) (earlier ps : List BootProcess) (q : Pid) (x : BootProcess) → processes_are_valid b earlier ps ≡ true → process_named q ps ≡ Some x → Named b earlier ps q x
named_is b earlier [] q x h is = absurd (let f : None ≡ Some x = is in cc)
named_is b earlier (p ∷ ps) q x h is =
    let k = listed b earlier p ps h in
    named_if b earlier p ps q x (pid_eq p.pid q) refl k is (named_is b (earlier ++ p ∷ []) ps q x k.rest)

pub named_all : (b : Boot) (earlier ps : List BootProcess) (home n : ℕ) → processes_are_valid b earlier ps ≡ true → starting_at home earlier ≤ n → n < starting_at home earlier + starting_at home ps → is_some (process_named (pid_of home (3 + n)) ps) ≡ true
named_all b earlier [] home n h least most = absurd (omega (arith, least, most))
named_all b earlier (p ∷ ps) home n h least most = elim (cases_Bool (pid_eq p.pid (pid_of home (3 + n)))) [
  | inl same ↦ ap (λ (c : Bool). is_some (if c then Some p else process_named (pid_of home (3 + n)) ps)) same
  | inr apart ↦
      let k = listed b earlier p ps h in
      ap (λ (c : Bool). is_some (if c then Some p else process_named (pid_of home (3 + n)) ps)) apart
      ∙ named_all b (earlier ++ p ∷ []) ps home n k.rest (grind (arith, nat_tests, starting-last)) (omega (arith, most, starting-last home earlier p))
]

-- What machines know at the start: the home of each process of the boot file has it, and nobody else knows anything of it.

pub first_known : (b : Boot) (m : ℕ) (q : Pid) → IsValid b → (first_point b).view.known m q ≡ (if q.home == m then (if is_server q then Known.Here else known_of_life (bind (process_named q b.processes) (first_life b))) else Known.Unknown)
first_known b m q valid =
    known_first b [] b.processes m q valid.processes ∙ ap (λ (o : Option Life). if q.home == m then (if is_server q then Known.Here else known_of_life o) else Known.Unknown) (life_named b b.processes q)
