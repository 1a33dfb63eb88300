-- Places of processes in the boot file: each is the first with its name.
use Rattle.std.proofs.Common.{◌≡◌, ℕ, zero, suc, ◌+◌, ◌≤◌, ◌==◌, ◌&&◌, Bool, true, false, List, [], ◌∷◌, ◌++◌, length, refl, ap, sym, ◌∙◌, inl, inr, arith, slice_get, nat_lt}
use Rattle.std.specs.Prelude.{if◌then◌else◌, position}
use Rattle.std.specs.List.{position_or_len}
use Rattle.std.specs.declared.option.Option.TheVariants.{None, Some}
use Rattle.std.proofs.lemmas.Bool.{and_parts, cases_Bool}
use Rattle.std.proofs.lemmas.Grind.{common_steps}
use Rattle.dm_processor.proofs.Names.{nat_tests}
use Rattle.dm_link.specs.declared.Pid.{Pid}
use Rattle.dm_link.specs.Names.{pid_eq}
use Rattle.dm_onekernel.specs.declared.boot.Boot.{Boot}
use Rattle.dm_onekernel.specs.declared.boot.BootProcess.{BootProcess}
use Rattle.dm_onekernel.specs.Boot.{process_is_valid, process_named, processes_are_valid, starting_at}
use Rattle.dm_onekernel.specs.Kernel.{Life}
use Rattle.dm_onekernel.specs.Start.{first_life, life_at}
use Rattle.dm_parts.specs.Parts.{place_of}

-- the first that passes
module _ {X : Type 0} (p : X → Bool) where
  pub position_here : (x : X) (xs : List X) → p x ≡ true → position p (x ∷ xs) ≡ Some 0
  position_here x xs e =
      let zero_ : position_or_len p (x ∷ xs) ≡ 0 = grind (arith, common_steps) in
      let within : nat_lt 0 (length (x ∷ xs)) ≡ true = grind (arith, nat_tests) in
      ap (λ (n : ℕ). if nat_lt n (length (x ∷ xs)) then Some n else None) zero_ ∙ ap (λ (c : Bool). if c then Some 0 else None) within

  next_by : (n k len : ℕ) (c : Bool) → nat_lt k len ≡ c → (if c then Some k else None) ≡ Some n → (if nat_lt (k + 1) (len + 1) then Some (k + 1) else None) ≡ Some (suc n)
  next_by n k len true e is =
      let same : k ≡ n = cc in
      let within : nat_lt (k + 1) (len + 1) ≡ true = grind (arith, nat_tests) in
      ap (λ (d : Bool). if d then Some (k + 1) else None) within ∙ ap Some (omega (arith, same))
  next_by n k len false e is = cc

  pub position_next : (x : X) (xs : List X) (n : ℕ) → p x ≡ false → position p xs ≡ Some n → position p (x ∷ xs) ≡ Some (suc n)
  position_next x xs n e is =
      let more : position_or_len p (x ∷ xs) ≡ position_or_len p xs + 1 = grind (arith, common_steps) in
      let long : length (x ∷ xs) ≡ length xs + 1 = omega arith in
      ap (λ (k : ℕ). if nat_lt k (length (x ∷ xs)) then Some k else None) more
      ∙ ap (λ (k : ℕ). if nat_lt (position_or_len p xs + 1) k then Some (position_or_len p xs + 1) else None) long
      ∙ next_by n (position_or_len p xs) (length xs) (nat_lt (position_or_len p xs) (length xs)) refl is

-- a process by its name, and where it stands
pub record LivesAt (b : Boot) (ps : List BootProcess) (q : Pid) (life : Life) : Type 0 where
  pub number : ℕ
  pub process : BootProcess
  pub place : place_of ps q ≡ Some number
  pub there : slice_get ps number ≡ Some process
  pub begins : first_life b process ≡ Some life

pub lives_at : (b : Boot) (ps : List BootProcess) (q : Pid) (life : Life) → life_at b ps q ≡ Some life → LivesAt b ps q life
lives_at b [] q life e = cc
lives_at b (p ∷ ps) q life e = elim (cases_Bool (pid_eq p.pid q)) [
  | inl same ↦ record {
    number = 0;
    process = p;
    place = position_here (λ (r : BootProcess). pid_eq r.pid q) p ps same;
    there = refl;
    begins = sym (ap (λ (c : Bool). if c then first_life b p else life_at b ps q) same) ∙ e;
  }
  | inr apart ↦
      let h = lives_at b ps q life (sym (ap (λ (c : Bool). if c then first_life b p else life_at b ps q) apart) ∙ e) in
      record {
        number = suc h.number;
        process = h.process;
        place = position_next (λ (r : BootProcess). pid_eq r.pid q) p ps h.number apart h.place;
        there = h.there;
        begins = h.begins;
      }
]

pub named_at : (ps : List BootProcess) (q : Pid) (p : BootProcess) → process_named q ps ≡ Some p → (n : ℕ) × (place_of ps q ≡ Some n)
named_at [] q p e = cc
named_at (r ∷ ps) q p e = elim (cases_Bool (pid_eq r.pid q)) [
  | inl same ↦ (0, position_here (λ (v : BootProcess). pid_eq v.pid q) r ps same)
  | inr apart ↦
      let (n, is) = named_at ps q p (sym (ap (λ (c : Bool). if c then Some r else process_named q ps) apart) ∙ e) in
      (suc n, position_next (λ (v : BootProcess). pid_eq v.pid q) r ps n apart is)
]

-- each machine numbers its processes in their order
starting-append : (m : ℕ) (ps qs : List BootProcess) → starting_at m (ps ++ qs) ≡ starting_at m ps + starting_at m qs
starting-append m [] qs = omega arith
starting-append m (p ∷ ps) qs = omega (arith, starting-append m ps qs)

number_of : (b : Boot) (others : ℕ) (p : BootProcess) → process_is_valid b others p ≡ true → p.pid.num ≡ 3 + others
number_of b others p h = grind (arith, nat_tests)

numbered_from : (b : Boot) (earlier ps : List BootProcess) (n : ℕ) (p : BootProcess) → processes_are_valid b earlier ps ≡ true → slice_get ps n ≡ Some p → 3 + starting_at p.pid.home earlier ≤ p.pid.num
numbered_from b earlier [] n p h e = cc
numbered_from b earlier (q ∷ ps) zero p h e =
    let same : q ≡ p = cc in
    let number = number_of b (starting_at q.pid.home earlier) q (and_parts (process_is_valid b (starting_at q.pid.home earlier) q) (processes_are_valid b (earlier ++ q ∷ []) ps) h).0 in
    let num : q.pid.num ≡ p.pid.num = ap (λ (v : BootProcess). v.pid.num) same in
    let home : starting_at q.pid.home earlier ≡ starting_at p.pid.home earlier = ap (λ (v : BootProcess). starting_at v.pid.home earlier) same in
    omega arith
numbered_from b earlier (q ∷ ps) (suc n) p h e =
    let more = numbered_from b (earlier ++ q ∷ []) ps n p (and_parts (process_is_valid b (starting_at q.pid.home earlier) q) (processes_are_valid b (earlier ++ q ∷ []) ps) h).1 e in
    let sum = starting-append p.pid.home earlier (q ∷ []) in
    omega (arith, more, sum)

pid_is : (p q : Pid) → pid_eq p q ≡ true → (p.home ≡ q.home) × (p.num ≡ q.num)
pid_is p q e = let k = and_parts (p.home == q.home) (p.num == q.num) e in (grind (arith, nat_tests), grind (arith, nat_tests))

pid_self : (p : Pid) → pid_eq p p ≡ true
pid_self p =
    let home : (p.home == p.home) ≡ true = grind (arith, nat_tests) in
    let num : (p.num == p.num) ≡ true = grind (arith, nat_tests) in
    ap (λ (c : Bool). c && (p.num == p.num)) home ∙ num

later_apart : (b : Boot) (earlier ps : List BootProcess) (q p : BootProcess) (n : ℕ) → processes_are_valid b earlier (q ∷ ps) ≡ true → slice_get ps n ≡ Some p → pid_eq q.pid p.pid ≡ true → ⊥
later_apart b earlier ps q p n h e same =
    let valid = and_parts (process_is_valid b (starting_at q.pid.home earlier) q) (processes_are_valid b (earlier ++ q ∷ []) ps) h in
    let number = number_of b (starting_at q.pid.home earlier) q valid.0 in
    let more = numbered_from b (earlier ++ q ∷ []) ps n p valid.1 e in
    let sum = starting-append p.pid.home earlier (q ∷ []) in
    let is = pid_is q.pid p.pid same in
    let home : starting_at q.pid.home earlier ≡ starting_at p.pid.home earlier = ap (λ (m : ℕ). starting_at m earlier) is.0 in
    let one : (q.pid.home == p.pid.home) ≡ true = (let k = is.0 in grind (arith, nat_tests)) in
    let counted : starting_at p.pid.home (q ∷ []) ≡ 1 + 0 = ap (λ (c : Bool). (if c then 1 else 0) + 0) one in
    let num = is.1 in
    absurd (omega (arith, number, more, sum, home, counted, num))

pub place_self : (b : Boot) (earlier ps : List BootProcess) (n : ℕ) (p : BootProcess) → processes_are_valid b earlier ps ≡ true → slice_get ps n ≡ Some p → place_of ps p.pid ≡ Some n
place_self b earlier [] n p h e = cc
place_self b earlier (q ∷ ps) zero p h e =
    let same : q ≡ p = cc in
    position_here (λ (r : BootProcess). pid_eq r.pid p.pid) q ps (ap (λ (v : BootProcess). pid_eq v.pid p.pid) same ∙ pid_self p.pid)
place_self b earlier (q ∷ ps) (suc n) p h e =
    let rest = (and_parts (process_is_valid b (starting_at q.pid.home earlier) q) (processes_are_valid b (earlier ++ q ∷ []) ps) h).1 in
    let apart : pid_eq q.pid p.pid ≡ false = elim (cases_Bool (pid_eq q.pid p.pid)) [ inl same ↦ absurd (later_apart b earlier ps q p n h e same) | inr off ↦ off ] in
    position_next (λ (r : BootProcess). pid_eq r.pid p.pid) q ps n apart (place_self b (earlier ++ q ∷ []) ps n p rest e)

-- who has a place has the number of a process
pub numbered : (b : Boot) (earlier ps : List BootProcess) (q : Pid) (p : BootProcess) (n : ℕ) → processes_are_valid b earlier ps ≡ true → slice_get ps n ≡ Some p → pid_eq p.pid q ≡ true → 3 ≤ q.num
numbered b earlier ps q p n h e same =
    let least = numbered_from b earlier ps n p h e in
    let num = (pid_is p.pid q same).1 in
    omega (arith, least, num)
