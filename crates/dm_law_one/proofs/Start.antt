-- Where a run begins.
use Rattle.dm_law_one.proofs.Names.{◌≡◌, ℕ, ◌+◌, ◌==◌, Bool, true, List, [], ◌∷◌, ◌++◌, refl, ap, ◌∙◌, sym, nat_lt, nat_le, is_some, inl, inr, arith, if◌then◌else◌, map, option_map, slice_get, Option, None, Some, cases_Bool, false≢true}
use Rattle.dm_law_one.proofs.Names.{nat_tests, Pid, pid_eq, BootProcess, Boot, IsValid, processes_are_valid, starting_at, start, life_at, first_life, begun, BootImage, PlainProcess, Alive, plain_link}
use Rattle.dm_law_one.proofs.Counted.{pending_of}
use Rattle.dm_law_one.proofs.Equal.{pid_eq-is}
use Rattle.dm_law_one.proofs.Entered.{Entered, Made}
use Rattle.dm_law_one.proofs.Movers.{Movers}
use Rattle.dm_law_one.proofs.Notes.{Notes}

starting-append : (m : ℕ) (ps qs : List BootProcess) → starting_at m (ps ++ qs) ≡ starting_at m ps + starting_at m qs
starting-append m [] qs = omega arith
starting-append m (p ∷ ps) qs = omega (arith, starting-append m ps qs)

record Numbered (b : Boot) (earlier ps : List BootProcess) (q : Pid) : Type 0 where
  least : nat_le 3 q.num ≡ true
  most : nat_lt q.num (3 + (starting_at q.home earlier + starting_at q.home ps)) ≡ true

numbered : (b : Boot) (earlier ps : List BootProcess) (q : Pid) → processes_are_valid b earlier ps ≡ true → is_some (life_at b ps q) ≡ true → Numbered b earlier ps q
numbered b earlier [] q valid there = absurd (false≢true there)
numbered b earlier (p ∷ ps) q valid there = elim (cases_Bool (pid_eq p.pid q)) [
  | inl same ↦
      let is : p.pid ≡ q = pid_eq-is p.pid q same in
      let number : (p.pid.num == 3 + starting_at p.pid.home earlier) ≡ true = grind (arith, nat_tests) in
      let mine : p.pid.home ≡ q.home = ap (λ (v : Pid). v.home) is in
      let num : p.pid.num ≡ q.num = ap (λ (v : Pid). v.num) is in
      record { least = grind (arith, nat_tests); most = grind (arith, nat_tests) }
  | inr apart ↦
      let rest : processes_are_valid b (earlier ++ p ∷ []) ps ≡ true = grind (arith, nat_tests) in
      let below : is_some (life_at b ps q) ≡ true = sym (ap (λ (c : Bool). is_some (if c then first_life b p else life_at b ps q)) apart) ∙ there in
      let h = numbered b (earlier ++ p ∷ []) ps q rest below in
      let sum = starting-append q.home earlier (p ∷ []) in
      record { least = h.least; most = let k = h.most in grind (arith, nat_tests) }
]

pub start-made : (b : Boot) → IsValid b → Made (start b)
start-made b valid = record {
  least = λ p there. (numbered b [] b.processes p valid.processes there).least;
  most = λ p there. let k = (numbered b [] b.processes p valid.processes there).most in grind (arith, nat_tests);
}

pub start-entered : (b : Boot) → Entered (λ i. 0) (λ i. 0) (start b)
start-entered b = record {
  counted = λ i le. absurd (omega arith);
  answers = λ i a le. refl;
  once = λ i. omega arith;
  fewer = λ i. omega arith;
  named = λ i m k. absurd (let f : None ≡ Some m = k in cc);
  requests = λ i m k. absurd (let f : None ≡ Some m = k in cc);
}

ready_first : (b : Boot) (p : BootProcess) (i : Option BootImage) (x : PlainProcess) → option_map (λ image. Alive (begun b.format image (map plain_link p.links))) i ≡ Some (Alive x) → pending_of x.status ≡ None
ready_first b p None x e = cc
ready_first b p (Some i) x e = let k : begun b.format i (map plain_link p.links) ≡ x = cc in sym (ap (λ (v : PlainProcess). pending_of v.status) k)

none_waits : (b : Boot) (ps : List BootProcess) (q : Pid) (x : PlainProcess) → life_at b ps q ≡ Some (Alive x) → pending_of x.status ≡ None
none_waits b [] q x e = cc
none_waits b (p ∷ ps) q x e = elim (cases_Bool (pid_eq p.pid q)) [
  | inl same ↦ ready_first b p (slice_get b.images p.image) x (sym (ap (λ (c : Bool). if c then first_life b p else life_at b ps q) same) ∙ e)
  | inr apart ↦ none_waits b ps q x (sym (ap (λ (c : Bool). if c then first_life b p else life_at b ps q) apart) ∙ e)
]

pub start-movers : (b : Boot) → Movers (start b)
start-movers b = record {
  senders = λ i m k. absurd (let f : None ≡ Some m = k in cc);
  requests = λ i m k. absurd (let f : None ≡ Some m = k in cc);
  returns = λ i m k. absurd (let f : None ≡ Some m = k in cc);
  mover = λ p x n alive waits. absurd (let k : None ≡ Some n = sym (none_waits b b.processes p x alive) ∙ waits in cc);
}

pub start-notes : (b : Boot) → Notes (λ i. 0) (start b)
start-notes b = record {
  noted = λ p n k. absurd (let f : None ≡ Some n = k in cc);
  follows = λ i p k. absurd (let f : None ≡ Some p = k in cc);
  lives = λ p n k. absurd (let f : None ≡ Some n = k in cc);
  followed = λ i p k. absurd (let f : None ≡ Some p = k in cc);
}
