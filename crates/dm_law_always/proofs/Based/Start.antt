-- Before the first line, what machines know agrees with the kernel without machines.
use Rattle.dm_law_always.proofs.Names.{◌≡◌, ℕ, ◌+◌, ◌==◌, ◌&&◌, ◌||◌, Bool, true, false, List, [], ◌∷◌, ◌++◌, map, refl, ap, ◌∙◌, sym, ◌≢◌, is_some, nat_lt, inl, inr, arith, if◌then◌else◌, slice_get, option_map, Option, None, Some}
use Rattle.dm_law_always.proofs.Names.{cases_Bool, false≢true, nat_tests, Pid, pid_eq, plain_link, BootImage, BootProcess, Boot, IsValid, switchboard, manager, starting_at, processes_are_valid, Life, Alive, begun, first_life, life_at}
use Rattle.dm_law_always.proofs.Names.{pid_eq-is, pid_eq-same, pid_eq-swap, first_point, Known, known_at, ring_at, is_server, KnownStands, agrees, rings, turns_here, eq_self}
use Rattle.dm_onekernel.specs.Step as kernel
use Rattle.dm_law_always.proofs.Fits.Rises.{both}
use Rattle.dm_law_always.proofs.Fits.Start.{get_some}

abbrev pub one_if : Bool → ℕ
one_if c = if c then 1 else 0

-- a process is here while it lives
abbrev pub known_of_life : Option Life → Known
known_of_life None = Known.Unknown
known_of_life (Some (Alive x)) = Known.Here
known_of_life (Some (Life.Ended y)) = Known.Unknown

abbrev is_alive : Option Life → Bool
is_alive (Some (Alive x)) = true
is_alive _ = false

-- a process of a list after some others of the file
record Listed (b : Boot) (earlier : List BootProcess) (p : BootProcess) (ps : List BootProcess) : Type 0 where
  number : p.pid.num ≡ 3 + starting_at p.pid.home earlier
  image : is_some (slice_get b.images p.image) ≡ true
  rest : processes_are_valid b (earlier ++ p ∷ []) ps ≡ true

listed : (b : Boot) (earlier : List BootProcess) (p : BootProcess) (ps : List BootProcess) → processes_are_valid b earlier (p ∷ ps) ≡ true → Listed b earlier p ps
listed b earlier p ps h = search (arith, both, p.pid.home, b.machines, p.pid.num, p.image, b.images, p.links, b.format, get_some)

pub starting-last : (m : ℕ) (ps : List BootProcess) (p : BootProcess) → starting_at m (ps ++ p ∷ []) ≡ starting_at m ps + one_if (p.pid.home == m)
starting-last m [] p = omega arith
starting-last m (q ∷ qs) p = let h = starting-last m qs p in omega (arith, h)

-- a number below those that are left is none of theirs
none_later : (b : Boot) (earlier ps : List BootProcess) (q : Pid) → processes_are_valid b earlier ps ≡ true → nat_lt q.num (3 + starting_at q.home earlier) ≡ true → life_at b ps q ≡ None
none_later b earlier [] q h low = refl
none_later b earlier (p ∷ ps) q h low =
    let k = listed b earlier p ps h in
    let number = k.number in
    let more = starting-last q.home earlier p in
    let apart : pid_eq p.pid q ≡ false = apart_of (pid_eq p.pid q) refl in
    let next : nat_lt q.num (3 + starting_at q.home (earlier ++ p ∷ [])) ≡ true = grind (arith, nat_tests) in
    ap (λ (c : Bool). if c then first_life b p else life_at b ps q) apart ∙ none_later b (earlier ++ p ∷ []) ps q k.rest next
  where
    apart_of : (c : Bool) → pid_eq p.pid q ≡ c → pid_eq p.pid q ≡ false
    apart_of false e = e
    apart_of true e =
        let is : p.pid ≡ q = pid_eq-is p.pid q e in
        let k = listed b earlier p ps h in
        let number : q.num ≡ 3 + starting_at q.home earlier = sym (ap (λ (v : Pid). v.num) is) ∙ k.number ∙ ap (λ (v : Pid). 3 + starting_at v.home earlier) is in
        let off : nat_lt q.num (3 + starting_at q.home earlier) ≡ false = grind (arith, nat_tests) in
        absurd (false≢true (sym off ∙ low))

alive_first : (b : Boot) (p : BootProcess) (o : Option BootImage) → is_some o ≡ true
    → (known_of_life (option_map (λ (image : BootImage). Alive (begun b.format image (map plain_link p.links))) o) ≡ Known.Here) × (is_alive (option_map (λ (image : BootImage). Alive (begun b.format image (map plain_link p.links))) o) ≡ true)
alive_first b p o h1 = search arith

-- what machines know at the start
pub servers_known : (q : Pid) (m : ℕ) (c : Bool) → is_server q ≡ c → (if (m == 0) && c then Known.Here else Known.Unknown) ≡ (if q.home == m then (if c then Known.Here else Known.Unknown) else Known.Unknown)
servers_known q m c h1 = search (arith, q.home)

pub known_first : (b : Boot) (earlier ps : List BootProcess) (m : ℕ) (q : Pid) → processes_are_valid b earlier ps ≡ true
    → known_at ps m q ≡ (if q.home == m then (if is_server q then Known.Here else known_of_life (life_at b ps q)) else Known.Unknown)
known_first b earlier [] m q h = servers_known q m (is_server q) refl
known_first b earlier (p ∷ ps) m q h = elim (cases_Bool (pid_eq p.pid q)) [
  | inl same ↦
      let k = listed b earlier p ps h in
      let is : p.pid ≡ q = pid_eq-is p.pid q same in
      let number : q.num ≡ 3 + starting_at q.home earlier = sym (ap (λ (v : Pid). v.num) is) ∙ k.number ∙ ap (λ (v : Pid). 3 + starting_at v.home earlier) is in
      let server : is_server q ≡ false = (let e : pid_eq q switchboard ≡ false = grind (arith, nat_tests) in let d : pid_eq q manager ≡ false = grind (arith, nat_tests) in ap (λ (c : Bool). c || pid_eq q manager) e ∙ d) in
      let life : known_of_life (life_at b (p ∷ ps) q) ≡ Known.Here = ap (λ (c : Bool). known_of_life (if c then first_life b p else life_at b ps q)) same ∙ (alive_first b p (slice_get b.images p.image) k.image).0 in
      let rest = known_first b (earlier ++ p ∷ []) ps m q k.rest in
      ap (λ (c : Bool). if c && (p.pid.home == m) then Known.Here else known_at ps m q) same
      ∙ ap (λ (v : Pid). if v.home == m then Known.Here else known_at ps m q) is
      ∙ here_or (q.home == m) (known_at ps m q) (if is_server q then Known.Here else known_of_life (life_at b ps q)) rest
      ∙ ap (λ (v : Known). if q.home == m then v else Known.Unknown) (sym life)
      ∙ ap (λ (c : Bool). if q.home == m then (if c then Known.Here else known_of_life (life_at b (p ∷ ps) q)) else Known.Unknown) (sym server)
  | inr apart ↦
      let k = listed b earlier p ps h in
      ap (λ (c : Bool). if c && (p.pid.home == m) then Known.Here else known_at ps m q) apart ∙ known_first b (earlier ++ p ∷ []) ps m q k.rest
      ∙ ap (λ (c : Bool). if q.home == m then (if is_server q then Known.Here else known_of_life (if c then first_life b p else life_at b ps q)) else Known.Unknown) (sym apart)
]
  where
    here_or : (c : Bool) (x y : Known) → x ≡ (if c then y else Known.Unknown) → (if c then Known.Here else x) ≡ (if c then Known.Here else Known.Unknown)
    here_or true x y e = refl
    here_or false x y e = e

-- rings at the start
ring_if : (q p : Pid) (qs : List Pid) (c : Bool) → rings q (if c then p ∷ qs else qs) ≡ one_if (c && pid_eq q p) + rings q qs
ring_if q p qs c = search arith

ring_first : (b : Boot) (earlier ps : List BootProcess) (m : ℕ) (q : Pid) → processes_are_valid b earlier ps ≡ true → rings q (ring_at ps m) ≡ one_if ((q.home == m) && is_alive (life_at b ps q))
ring_first b earlier [] m q h = search (arith, q.home)
ring_first b earlier (p ∷ ps) m q h = elim (cases_Bool (pid_eq p.pid q)) [
  | inl same ↦
      let k = listed b earlier p ps h in
      let is : p.pid ≡ q = pid_eq-is p.pid q same in
      let number : q.num ≡ 3 + starting_at q.home earlier = sym (ap (λ (v : Pid). v.num) is) ∙ k.number ∙ ap (λ (v : Pid). 3 + starting_at v.home earlier) is in
      let home : p.pid.home ≡ q.home = ap (λ (v : Pid). v.home) is in
      let more = starting-last q.home earlier p in
      let one : one_if (p.pid.home == q.home) ≡ 1 = (let e : (p.pid.home == q.home) ≡ true = grind (arith, nat_tests) in ap one_if e) in
      let low : nat_lt q.num (3 + starting_at q.home (earlier ++ p ∷ [])) ≡ true = grind (arith, nat_tests) in
      let none : life_at b ps q ≡ None = none_later b (earlier ++ p ∷ []) ps q k.rest low in
      let rest : rings q (ring_at ps m) ≡ 0 = ring_first b (earlier ++ p ∷ []) ps m q k.rest ∙ ap (λ (o : Option Life). one_if ((q.home == m) && is_alive o)) none ∙ never (q.home == m) in
      let first = ring_if q p.pid (ring_at ps m) (p.pid.home == m) in
      let mine : one_if ((p.pid.home == m) && pid_eq q p.pid) ≡ one_if ((q.home == m) && true) = ap (λ (v : Pid). one_if ((v.home == m) && pid_eq q v)) is ∙ ap (λ (c : Bool). one_if ((q.home == m) && c)) (pid_eq-same q) in
      let alive : one_if ((q.home == m) && is_alive (life_at b (p ∷ ps) q)) ≡ one_if ((q.home == m) && true) =
      ap (λ (c : Bool). one_if ((q.home == m) && is_alive (if c then first_life b p else life_at b ps q))) same ∙ ap (λ (c : Bool). one_if ((q.home == m) && c)) (alive_first b p (slice_get b.images p.image) k.image).1 in
      omega (arith, first, rest, mine, alive)
  | inr apart ↦
      let k = listed b earlier p ps h in
      let rest = ring_first b (earlier ++ p ∷ []) ps m q k.rest in
      let first = ring_if q p.pid (ring_at ps m) (p.pid.home == m) in
      let mine : one_if ((p.pid.home == m) && pid_eq q p.pid) ≡ 0 = ap (λ (c : Bool). one_if ((p.pid.home == m) && c)) (pid_eq-swap q p.pid ∙ apart) ∙ never (p.pid.home == m) in
      let alive : one_if ((q.home == m) && is_alive (life_at b (p ∷ ps) q)) ≡ one_if ((q.home == m) && is_alive (life_at b ps q)) = ap (λ (c : Bool). one_if ((q.home == m) && is_alive (if c then first_life b p else life_at b ps q))) apart in
      omega (arith, first, rest, mine, alive)
]
  where
    never : (c : Bool) → one_if (c && false) ≡ 0
    never true = refl
    never false = refl

is_first : (b : Boot) (m : ℕ) (q : Pid) (c : Bool) → IsValid b → is_server q ≡ c → known_at b.processes m q ≡ (if q.home == m then (if c then Known.Here else known_of_life (life_at b b.processes q)) else Known.Unknown)
is_first b m q c valid e = known_first b [] b.processes m q valid.processes ∙ ap (λ (x : Bool). if q.home == m then (if x then Known.Here else known_of_life (life_at b b.processes q)) else Known.Unknown) e

server_home : (q : Pid) (c : Bool) → pid_eq q switchboard ≡ c → (c || pid_eq q manager) ≡ true → (q.home ≡ 0) × (nat_lt q.num 3 ≡ true)
server_home q c h1 h2 = search arith

server_none : (b : Boot) (q : Pid) → IsValid b → is_server q ≡ true → life_at b b.processes q ≡ None
server_none b q valid e = search (arith, server_home, none_later, b.processes, valid.processes, q.num, q.home)

ring_by : (b : Boot) (m : ℕ) (q : Pid) (c : Bool) → IsValid b → is_server q ≡ c → rings q (ring_at b.processes m) ≡ turns_here c (known_at b.processes m q)
ring_by b m q true valid e =
    ring_first b [] b.processes m q valid.processes ∙ ap (λ (o : Option Life). one_if ((q.home == m) && is_alive o)) (server_none b q valid e) ∙ never (q.home == m)
  where
    never : (c : Bool) → one_if (c && false) ≡ 0
    never true = refl
    never false = refl
ring_by b m q false valid e =
    ring_first b [] b.processes m q valid.processes ∙ search arith ∙ ap (turns_here false) (sym (is_first b m q false valid e))

-- what they know agrees
agrees_first : (c : Bool) (o : Option Life) → agrees (if c then known_of_life o else Known.Unknown) o ≡ true
agrees_first c o = search arith

some_first : (o : Option Life) → is_some (kernel.alive o) ≡ true → known_of_life o ≢ Known.Unknown
some_first (Some (Alive x)) lives e = cc
some_first (Some (Life.Ended y)) lives e = false≢true lives
some_first None lives e = false≢true lives

-- a server is at home, and so is a process that lives
home_first : (b : Boot) (q : Pid) (c : Bool) → IsValid b → is_server q ≡ c → (c || is_some (kernel.alive (life_at b b.processes q))) ≡ true → known_at b.processes q.home q ≢ Known.Unknown
home_first b q true valid e lives unknown =
    let here : known_at b.processes q.home q ≡ Known.Here = is_first b q.home q true valid e ∙ ap (λ (c : Bool). if c then Known.Here else Known.Unknown) (eq_self q.home) in
    let f : Known.Here ≡ Known.Unknown = sym here ∙ unknown in cc
home_first b q false valid e lives unknown =
    some_first (life_at b b.processes q) lives (sym (is_first b q.home q false valid e ∙ ap (λ (c : Bool). if c then known_of_life (life_at b b.processes q) else Known.Unknown) (eq_self q.home)) ∙ unknown)

pub known_start : (b : Boot) → IsValid b → KnownStands (first_point b).kernel (first_point b).view
known_start b valid = record {
  agree = λ m q e. ap (λ (k : Known). agrees k (life_at b b.processes q)) (is_first b m q false valid e) ∙ agrees_first (q.home == m) (life_at b b.processes q);
  home = λ q lives. home_first b q (is_server q) valid refl lives;
  ring = λ m q. ring_by b m q (is_server q) valid refl;
}
