-- The processes of the file, found by their names.
use Rattle.dm_boot.proofs.Imports.{◌≡◌, ℕ, ◌+◌, ◌<◌, ◌≤◌, ◌==◌, ◌&&◌, zero, suc, Bool, true, false, cond, List, [], ◌∷◌, ◌++◌, length, slice_get, Option, Some, None, refl, ap, sym, ◌∙◌, arith, append_assoc, nat_tests, Data, Items, no_items}
use Rattle.dm_boot.proofs.Imports.{item, get_item, Pid, Link, pid_eq, BootImage, BootProcess, first_number, starting_at, blocks_at, blocks_of_image, process_named, count, or_zero, home_of, image_place, start_of, starts_from, linked}
use Rattle.dm_boot.proofs.Imports.{linked_all, links_of, name_in}
use Rattle.dm_boot.proofs.Counted.{starting-push}

pub linked-length : (d : Data) (all done : List BootProcess) (ts : Items) → length (linked_all d all (starts_from d done ts) ts) ≡ count ts
unfolding starts_from linked_all
linked-length d all done no_items = refl
linked-length d all done (item t ts) = omega (arith, linked-length d all (done ++ start_of d done t ∷ []) ts)

-- links take no slot and no block
pub linked-starting : (d : Data) (all done : List BootProcess) (ts : Items) (m : ℕ) → starting_at m (linked_all d all (starts_from d done ts) ts) ≡ starting_at m (starts_from d done ts)
unfolding starts_from linked_all
linked-starting d all done no_items m = refl
linked-starting d all done (item t ts) m = ap (λ (n : ℕ). cond ((start_of d done t).pid.home == m) 1 0 + n) (linked-starting d all (done ++ start_of d done t ∷ []) ts m)

pub linked-blocks : (d : Data) (all done : List BootProcess) (ts : Items) (m : ℕ) (images : List BootImage) → blocks_at m images (linked_all d all (starts_from d done ts) ts) ≡ blocks_at m images (starts_from d done ts)
unfolding starts_from linked_all
linked-blocks d all done no_items m images = refl
linked-blocks d all done (item t ts) m images =
    ap (λ (n : ℕ). cond ((start_of d done t).pid.home == m) (blocks_of_image (slice_get images (start_of d done t).image)) 0 + n) (linked-blocks d all (done ++ start_of d done t ∷ []) ts m images)

-- what is known of a process and its table
pub record Start (d : Data) (t : Data) (s : BootProcess) : Type 0 where
  pub home : s.pid.home ≡ home_of t
  pub number : first_number ≤ s.pid.num
  pub image : s.image ≡ or_zero (image_place d t)

pub start-is : (d : Data) (done : List BootProcess) (t : Data) → Start d t (start_of d done t)
unfolding start_of
start-is d done t = record { home = refl; number = omega arith; image = refl }

start-number : (d : Data) (done : List BootProcess) (t : Data) → (start_of d done t).pid.num ≡ first_number + starting_at (start_of d done t).pid.home done
unfolding start_of
start-number d done t = refl

-- the process of the table at a place
pub start-at : (d : Data) (done : List BootProcess) (ts : Items) (k : ℕ) (t : Data) → get_item k ts ≡ Some t → (s : BootProcess) × ((slice_get (starts_from d done ts) k ≡ Some s) × Start d t s)
unfolding starts_from
start-at d done no_items zero t h = absurd (cc)
start-at d done no_items (suc k) t h = absurd (cc)
start-at d done (item u ts) zero t h =
    let e : u ≡ t = cc in
    (start_of d done u, (refl, rw (← e) (start-is d done u)))
start-at d done (item u ts) (suc k) t h = start-at d (done ++ start_of d done u ∷ []) ts k t h

-- a number that these processes don't have yet
abbrev pub Numbered : List BootProcess → Type 0
Numbered ps = (q : Pid) → first_number + starting_at q.home ps ≤ q.num → process_named q ps ≡ None

named-step : (b : Bool) (p : BootProcess) (rest joined more : Option BootProcess) → (cond b (Some p) rest) ≡ None → (rest ≡ None → joined ≡ more) → cond b (Some p) joined ≡ more
named-step true p rest joined more h then = absurd (cc)
named-step false p rest joined more h then = then h

named-append : (q : Pid) (ps more : List BootProcess) → process_named q ps ≡ None → process_named q (ps ++ more) ≡ process_named q more
named-append q [] more h = refl
named-append q (p ∷ ps) more h = named-step (pid_eq p.pid q) p (process_named q ps) (process_named q (ps ++ more)) (process_named q more) h (λ rest. named-append q ps more rest)

pub numbered-none : Numbered []
numbered-none q h = refl

apart-by : (a b : Bool) → (a ≡ true → b ≡ true → ⊥) → (a && b) ≡ false
apart-by true true h = absurd (h refl refl)
apart-by true false h = refl
apart-by false b h = refl

apart : (p q : Pid) (n : ℕ) → p.num ≡ n → (p.home ≡ q.home → n < q.num) → pid_eq p q ≡ false
apart p q n e later = apart-by (p.home == q.home) (p.num == q.num) (λ here. λ same.
    let h : p.home ≡ q.home = grind (arith, nat_tests) in
    let g : p.num ≡ q.num = grind (arith, nat_tests) in
    let below = later h in
    absurd (omega arith))

same-test : (a b : ℕ) → a ≡ b → (a == b) ≡ true
same-test a b h = grind (arith, nat_tests)

numbered-push : (d : Data) (done : List BootProcess) (t : Data) → Numbered done → Numbered (done ++ start_of d done t ∷ [])
numbered-push d done t old q h =
    let s = start_of d done t in
    let pushed = starting-push q.home done s in
    let fewer : first_number + starting_at q.home done ≤ q.num = omega arith in
    let new : pid_eq s.pid q ≡ false = apart s.pid q (first_number + starting_at s.pid.home done) (start-number d done t) (λ (same : s.pid.home ≡ q.home).
    let here : starting_at q.home (done ++ s ∷ []) ≡ starting_at q.home done + 1 = pushed ∙ ap (λ (b : Bool). starting_at q.home done + cond b 1 0) (same-test s.pid.home q.home same) in
    let e : starting_at s.pid.home done ≡ starting_at q.home done = ap (λ (m : ℕ). starting_at m done) same in
    omega arith) in
    named-append q done (s ∷ []) (old q fewer) ∙ ap (λ (b : Bool). cond b (Some s) None) new

pid-itself : (p : Pid) → pid_eq p p ≡ true
pid-itself p = rw (same-test p.home p.home refl, same-test p.num p.num refl)

-- each process is found by its name
nothing-there : (k : ℕ) (s : BootProcess) → ◌≡◌ {A = Option BootProcess} (slice_get [] k) (Some s) → ⊥
nothing-there zero s h = absurd (cc)
nothing-there (suc k) s h = absurd (cc)

pub found-start : (d : Data) (done : List BootProcess) (ts : Items) (k : ℕ) (s : BootProcess) → Numbered done → slice_get (starts_from d done ts) k ≡ Some s → process_named s.pid (done ++ starts_from d done ts) ≡ Some s
unfolding starts_from
found-start d done no_items k s old h = absurd (nothing-there k s h)
found-start d done (item t ts) zero s old h =
    let u = start_of d done t in
    let rest = starts_from d (done ++ u ∷ []) ts in
    let e : u ≡ s = cc in
    let fresh : process_named u.pid done ≡ None = old u.pid (rw (start-number d done t) (omega arith)) in
    rw (← e) (named-append u.pid done (u ∷ rest) fresh ∙ ap (λ (b : Bool). cond b (Some u) (process_named u.pid rest)) (pid-itself u.pid))
found-start d done (item t ts) (suc k) s old h =
    let u = start_of d done t in
    let rest = starts_from d (done ++ u ∷ []) ts in
    ap (process_named s.pid) (sym (append_assoc done (u ∷ []) rest)) ∙ found-start d (done ++ u ∷ []) ts k s (numbered-push d done t old) h

-- and so it is with its name and its links
abbrev pub IsLinked : Option BootProcess → BootProcess → Type 0
IsLinked o s = (name : List ℕ) × ((links : List Link) × (o ≡ Some (linked s name links)))

linked-step : (b : Bool) (u s : BootProcess) (name : List ℕ) (ls : List Link) (rest more : Option BootProcess) → cond b (Some u) rest ≡ Some s → (rest ≡ Some s → IsLinked more s) → IsLinked (cond b (Some (linked u name ls)) more) s
linked-step true u s name ls rest more h then =
    let e : u ≡ s = cc in
    (name, (ls, ap (λ (p : BootProcess). Some (linked p name ls)) e))
linked-step false u s name ls rest more h then = then h

pub found-linked : (d : Data) (all done : List BootProcess) (ts : Items) (q : Pid) (s : BootProcess) → process_named q (starts_from d done ts) ≡ Some s → IsLinked (process_named q (linked_all d all (starts_from d done ts) ts)) s
unfolding starts_from linked_all
found-linked d all done no_items q s h = absurd (cc)
found-linked d all done (item t ts) q s h =
    let u = start_of d done t in
    linked-step (pid_eq u.pid q) u s (name_in t) (links_of d all t) (process_named q (starts_from d (done ++ u ∷ []) ts)) (process_named q (linked_all d all (starts_from d (done ++ u ∷ []) ts) ts)) h
    (λ (rest : process_named q (starts_from d (done ++ u ∷ []) ts) ≡ Some s). found-linked d all (done ++ u ∷ []) ts q s rest)
