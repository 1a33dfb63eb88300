-- Where a run begins, each address names the home of its process.
use Rattle.dm_law_rule.proofs.Names.{◌≡◌, ℕ, zero, suc, ◌==◌, ◌&&◌, ◌||◌, Bool, true, false, List, [], ◌∷◌, ◌++◌, length, refl, ap, ◌∙◌, sym, arith, nat_le, inl, inr, if◌then◌else◌, map, option_map, slice_get, replicate, Option, None, Some}
use Rattle.dm_law_rule.proofs.Names.{cases_Bool, nat_tests, Pid, Link, place_of, pid_eq, PlainLink, plain_link, link_at, BootProcess, BootImage, Boot, IsValid, switchboard, manager, processes_are_valid, starting_at, slots_of, PlainProcess}
use Rattle.dm_law_rule.proofs.Names.{start, life_at, first_life, begun, Alive, pid_eq-is, ring_at, first_point, unmoved, links_at, first_addresses, Homes, are_home, left_true, right_true, option_map_or, none_some}
use Rattle.dm_law_rule.proofs.Homes.{IsHome, HomeProcess, AtHome, homes_are}
use Rattle.dm_onekernel.specs.Boot as boot
use Rattle.dm_onekernel.specs.Manager as manage
use Rattle.dm_onekernel.specs.Step as kernel

-- a link of the boot file leads to a home
named_is : (q : Pid) (ps : List BootProcess) (p : BootProcess) → boot.process_named q ps ≡ Some p → p.pid ≡ q
named_is q [] p e = none_some p e
named_is q (r ∷ ps) p e = elim (cases_Bool (pid_eq r.pid q)) [
  | inl same ↦ let f : Some r ≡ Some p = sym (ap (λ (c : Bool). if c then Some r else boot.process_named q ps) same) ∙ e in let g : r ≡ p = cc in ap (λ (v : BootProcess). v.pid) (sym g) ∙ pid_eq-is r.pid q same
  | inr apart ↦ named_is q ps p (sym (ap (λ (c : Bool). if c then Some r else boot.process_named q ps) apart) ∙ e)
]

process_at : (b : Boot) (l : Link) (o : Option BootProcess) → ((p : BootProcess) → o ≡ Some p → p.pid ≡ l.addr.pid) → boot.leads_to_process b l o ≡ true → l.addr.at ≡ l.addr.pid.home
process_at b l None h e = cc
process_at b l (Some p) h e = let k : p.pid.home ≡ l.addr.pid.home = ap (λ (v : Pid). v.home) (h p refl) in let f : (l.addr.at == p.pid.home) ≡ true = grind (arith, nat_tests) in grind (arith, nat_tests)

somewhere_by : (b : Boot) (l : Link) (c d : Bool) → pid_eq l.addr.pid switchboard ≡ c → pid_eq l.addr.pid manager ≡ d
    → (if c then boot.leads_to_server l else if d then boot.leads_to_server l || boot.controls_child b l else boot.leads_to_process b l (boot.process_named l.addr.pid b.processes)) ≡ true → l.addr.at ≡ l.addr.pid.home
somewhere_by b l true d is as_ e = grind (arith, nat_tests)
somewhere_by b l false true is as_ e =
    search arith
somewhere_by b l false false is as_ e = process_at b l (boot.process_named l.addr.pid b.processes) (named_is l.addr.pid b.processes) e

link_home : (b : Boot) (l : Link) → boot.link_is_valid b l ≡ true → place_of l.addr ≡ unmoved l.addr.pid.home
link_home b l e =
    let first : (l.addr.moves == 0) ≡ true = left_true (l.addr.moves == 0) _ e in
    let rest : boot.leads_somewhere b l ≡ true = right_true (nat_le l.channel 31) (boot.leads_somewhere b l) (right_true _ _ (right_true (l.addr.moves == 0) _ e)) in
    let at : l.addr.at ≡ l.addr.pid.home = somewhere_by b l (pid_eq l.addr.pid switchboard) (pid_eq l.addr.pid manager) refl refl rest in
    ap (λ (n : ℕ). record { at = n; moves = l.addr.moves }) at ∙ ap (λ (n : ℕ). record { at = l.addr.pid.home; moves = n }) (let none : l.addr.moves ≡ 0 = grind (arith, nat_tests) in none)

-- the links of a process as it begins
empty_slot : (n k : ℕ) (l : PlainLink) → link_at (replicate n None) k ≡ Some l → ⊥
empty_slot zero k l e = none_some l e
empty_slot (suc n) zero l e = none_some l e
empty_slot (suc n) (suc k) l e = empty_slot n k l e

first_link : (b : Boot) (ls : List Link) (n k : ℕ) (l : PlainLink) → boot.links_are_valid b ls ≡ true → link_at (map Some (map plain_link ls) ++ replicate n None) k ≡ Some l → option_map_or (λ w. place_of w.addr) (slice_get ls k) (unmoved 0) ≡ unmoved l.to.home
first_link b [] n k l valid e = absurd (empty_slot n k l e)
first_link b (x ∷ xs) n zero l valid e =
    link_home b x (left_true (boot.link_is_valid b x) (boot.links_are_valid b xs) valid) ∙ ap unmoved (ap (λ (v : PlainLink). v.to.home) (let f : plain_link x ≡ l = cc in f))
first_link b (x ∷ xs) n (suc k) l valid e = first_link b xs n k l (right_true (boot.link_is_valid b x) (boot.links_are_valid b xs) valid) e

begun_home : (b : Boot) (earlier ps : List BootProcess) (q : Pid) (x : PlainProcess) → processes_are_valid b earlier ps ≡ true → links_at b.processes q ≡ links_at ps q
    → kernel.alive (life_at b ps q) ≡ Some x → HomeProcess IsHome (first_addresses b) q x
begun_home b earlier [] q x valid at e = none_some x e
begun_home b earlier (p ∷ ps) q x valid at e =
    let links_valid : (b : Boot) (n : ℕ) (p : BootProcess) → boot.process_is_valid b n p ≡ true → boot.links_are_valid b p.links ≡ true = λ b n p e.
    let last = boot.links_are_valid b p.links in
    let few = nat_le (length p.links) (slots_of b.format) in
    search (arith, right_true) in
    let begun_home_of : (b : Boot) (p : BootProcess) (q : Pid) (x : PlainProcess) (o : Option BootImage) → boot.links_are_valid b p.links ≡ true → links_at b.processes q ≡ p.links
    → kernel.alive (option_map (λ image. Alive (begun b.format image (map plain_link p.links))) o) ≡ Some x → HomeProcess IsHome (first_addresses b) q x =
    λ b p q x o h1 h2 h3. search (arith, first_link) in
    elim (cases_Bool (pid_eq p.pid q)) [
      | inl same ↦
          begun_home_of b p q x (slice_get b.images p.image) (links_valid b (starting_at p.pid.home earlier) p (left_true _ _ valid)) (at ∙ ap (λ (c : Bool). if c then p.links else links_at ps q) same)
          (sym (ap (λ (c : Bool). kernel.alive (if c then first_life b p else life_at b ps q)) same) ∙ e)
      | inr apart ↦
          begun_home b (earlier ++ p ∷ []) ps q x (right_true _ _ valid) (at ∙ ap (λ (c : Bool). if c then p.links else links_at ps q) apart)
          (sym (ap (λ (c : Bool). kernel.alive (if c then first_life b p else life_at b ps q)) apart) ∙ e)
    ]

child_home_of : (ps : List BootProcess) (n : ℕ) (q : Pid) → slice_get (map (λ (p : BootProcess). p.pid) ps) n ≡ Some q → unmoved (option_map_or (λ (p : BootProcess). p.pid.home) (slice_get ps n) 0) ≡ unmoved q.home
child_home_of [] n q e = none_some q e
child_home_of (p ∷ ps) zero q e = let f : p.pid ≡ q = cc in ap (λ (v : Pid). unmoved v.home) f
child_home_of (p ∷ ps) (suc n) q e = child_home_of ps n q e

child_home : (ps : List BootProcess) (n : ℕ) (q : Pid) → manage.child_numbered (map (λ (p : BootProcess). p.pid) ps) n ≡ Some q → unmoved (option_map_or (λ (p : BootProcess). p.pid.home) (manage.child_numbered ps n) 0) ≡ unmoved q.home
child_home ps zero q e = none_some q e
child_home ps (suc n) q e = child_home_of ps n q e

pub start_at_home : (b : Boot) → IsValid b → AtHome IsHome (start b) (first_addresses b)
start_at_home b valid = record {
  rooted = λ q. refl;
  processes = λ q x e. begun_home b [] b.processes q x valid.processes refl e;
  messages = λ i m e. absurd (let f : None ≡ Some m = e in cc);
  children = λ n q e. child_home b.processes n q e;
  named = λ n k e. absurd (let f : None ≡ Some k = e in cc);
  answers = λ n r l e f. absurd (let g : None ≡ Some r = e in cc);
  askers = λ p n e. absurd (let f : None ≡ Some n = e in cc);
  board = refl;
  pending = refl;
}

ring_home : (m : ℕ) (ps : List BootProcess) → are_home m (ring_at ps m) ≡ true
ring_home m [] = refl
ring_home m (p ∷ ps) = (elim (p.pid.home == m) as (λ c. (p.pid.home == m) ≡ c → are_home m (if c then p.pid ∷ (ring_at ps m) else (ring_at ps m)) ≡ true)
    [ true ↦ λ is. ap (λ (v : Bool). v && are_home m (ring_at ps m)) is ∙ (ring_home m ps) | false ↦ λ is. (ring_home m ps) ]) refl

pub Homes-start : (b : Boot) → IsValid b → Homes (first_point b)
Homes-start b valid = search (arith, homes_are IsHome (start b) (first_addresses b) (start_at_home b valid), ring_home, b.processes)
