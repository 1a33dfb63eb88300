-- What the processes of the lines take of a machine's room: it stays where each of them takes the same, and changes with one
-- that takes something else, or is made.
use Rattle.dm_law_mirror.proofs.Names.{◌≡◌, ◌≢◌, ℕ, zero, suc, ◌+◌, ◌<◌, ◌≤◌, refl, ap, ◌∙◌, sym, inl, inr, arith, eqb_tells, Pid, pid_of, first_number, Point, Room, and, taken_by, taken_of_home, taken_at, nat_tests, is_server, false}
use Rattle.dm_law_mirror.proofs.Residents.{made_no_server}

-- a process of another home, or with another number
home_apart : (home n : ℕ) (p : Pid) → home ≢ p.home → pid_of home n ≢ p
home_apart home n p h e = h (ap (λ (q : Pid). q.home) e)

number_apart : (home n : ℕ) (p : Pid) → n ≢ p.num → pid_of home n ≢ p
number_apart home n p h e = h (ap (λ (q : Pid). q.num) e)

-- the first processes of a home take the same
pub same_home : (pt next : Point) (m home n : ℕ) → ((k : ℕ) → k < n → taken_by next m (pid_of home (first_number + k)) ≡ taken_by pt m (pid_of home (first_number + k)))
    → taken_of_home next m home n ≡ taken_of_home pt m home n
same_home pt next m home zero f = refl
same_home pt next m home (suc n) f = λ i. and (same_home pt next m home n (λ k h. f k (omega arith)) i) (f n (omega arith) i)

same_made : (pt next : Point) (m home : ℕ) → next.kernel.made home ≡ pt.kernel.made home → ((n : ℕ) → taken_by next m (pid_of home n) ≡ taken_by pt m (pid_of home n))
    → taken_of_home next m home (next.kernel.made home) ≡ taken_of_home pt m home (pt.kernel.made home)
same_made pt next m home e f = ap (taken_of_home next m home) e ∙ same_home pt next m home (pt.kernel.made home) (λ k h. f (first_number + k))

-- the first homes
pub same_homes : (pt next : Point) (m homes : ℕ)
    → ((home : ℕ) → home < homes → taken_of_home next m home (next.kernel.made home) ≡ taken_of_home pt m home (pt.kernel.made home))
    → taken_at next m homes ≡ taken_at pt m homes
same_homes pt next m zero f = refl
same_homes pt next m (suc home) f = λ i. and (same_homes pt next m home (λ k h. f k (omega arith)) i) (f home (omega arith) i)

-- two points whose machine m has the same of each process take the same there
pub taken_same : (pt next : Point) (m : ℕ) → next.kernel.machines ≡ pt.kernel.machines → ((h : ℕ) → next.kernel.made h ≡ pt.kernel.made h)
    → ((p : Pid) → taken_by next m p ≡ taken_by pt m p) → taken_at next m next.kernel.machines ≡ taken_at pt m pt.kernel.machines
taken_same pt next m machines made same = grind (arith, nat_tests, same_homes, same_made)

-- n takes y where o took x
record Changed (o n x y : Room) : Type 0 where
  slots : n.slots + x.slots ≡ o.slots + y.slots
  blocks : n.blocks + x.blocks ≡ o.blocks + y.blocks

-- the change is in the first part, or in the second
changed_first : (o n x y r s : Room) → Changed o n x y → s ≡ r → Changed (and o r) (and n s) x y
changed_first o n x y r s h e =
    let c : s.slots ≡ r.slots = ap (λ (t : Room). t.slots) e in
    let d : s.blocks ≡ r.blocks = ap (λ (t : Room). t.blocks) e in
    record { slots = omega (arith, h.slots, c); blocks = omega (arith, h.blocks, d) }

changed_second : (o n x y r s : Room) → Changed o n x y → s ≡ r → Changed (and r o) (and s n) x y
changed_second o n x y r s h e =
    let c : s.slots ≡ r.slots = ap (λ (t : Room). t.slots) e in
    let d : s.blocks ≡ r.blocks = ap (λ (t : Room). t.blocks) e in
    record { slots = omega (arith, h.slots, c); blocks = omega (arith, h.blocks, d) }

changed_itself : (o n x y : Room) → o ≡ x → n ≡ y → Changed o n x y
changed_itself o n x y e f =
    let a : o.slots ≡ x.slots = ap (λ (t : Room). t.slots) e in
    let b : o.blocks ≡ x.blocks = ap (λ (t : Room). t.blocks) e in
    let c : n.slots ≡ y.slots = ap (λ (t : Room). t.slots) f in
    let d : n.blocks ≡ y.blocks = ap (λ (t : Room). t.blocks) f in
    record { slots = omega (arith, a, c); blocks = omega (arith, b, d) }

-- the process is one of the first of its home
changed_home : (pt next : Point) (m : ℕ) (p : Pid) (n : ℕ) → first_number ≤ p.num → p.num < first_number + n → ((q : Pid) → q ≢ p → taken_by next m q ≡ taken_by pt m q)
    → Changed (taken_of_home pt m p.home n) (taken_of_home next m p.home n) (taken_by pt m p) (taken_by next m p)
changed_home pt next m p zero first below others = absurd (omega (arith, first, below))
changed_home pt next m p (suc n) first below others =
    elim (eqb_tells p.num (first_number + n)) [
      | inl e ↦
          let same : pid_of p.home (first_number + n) ≡ p = λ i. record { home = p.home; num = sym e.1 i } in
          changed_second (taken_by pt m (pid_of p.home (first_number + n))) (taken_by next m (pid_of p.home (first_number + n))) (taken_by pt m p) (taken_by next m p)
          (taken_of_home pt m p.home n) (taken_of_home next m p.home n)
          (changed_itself (taken_by pt m (pid_of p.home (first_number + n))) (taken_by next m (pid_of p.home (first_number + n))) (taken_by pt m p) (taken_by next m p) (ap (taken_by pt m) same) (ap (taken_by next m) same))
          (same_home pt next m p.home n (λ k h. others (pid_of p.home (first_number + k)) (number_apart p.home (first_number + k) p (let f : p.num ≡ first_number + n = e.1 in λ z. omega (arith, f, z, h)))))
      | inr e ↦
          changed_first (taken_of_home pt m p.home n) (taken_of_home next m p.home n) (taken_by pt m p) (taken_by next m p)
          (taken_by pt m (pid_of p.home (first_number + n))) (taken_by next m (pid_of p.home (first_number + n)))
          (changed_home pt next m p n first (let f : p.num ≢ first_number + n = e.1 in omega (arith, f, below)) others)
          (others (pid_of p.home (first_number + n)) (number_apart p.home (first_number + n) p (λ z. e.1 (sym z))))
    ]

changed_homes : (pt next : Point) (m : ℕ) (p : Pid) (homes : ℕ) → ((h : ℕ) → next.kernel.made h ≡ pt.kernel.made h) → p.home < homes → first_number ≤ p.num
    → p.num < first_number + pt.kernel.made p.home → ((q : Pid) → q ≢ p → taken_by next m q ≡ taken_by pt m q)
    → Changed (taken_at pt m homes) (taken_at next m homes) (taken_by pt m p) (taken_by next m p)
changed_homes pt next m p zero made within first below others = absurd (omega (arith, within))
changed_homes pt next m p (suc home) made within first below others =
    elim (eqb_tells home p.home) [
      | inl e ↦
          let here : Changed (taken_of_home pt m p.home (pt.kernel.made p.home)) (taken_of_home next m p.home (pt.kernel.made p.home)) (taken_by pt m p) (taken_by next m p) =
          changed_home pt next m p (pt.kernel.made p.home) first below others in
          let there : Changed (taken_of_home pt m home (pt.kernel.made home)) (taken_of_home next m home (next.kernel.made home)) (taken_by pt m p) (taken_by next m p) =
          grind (arith, nat_tests) in
          changed_second (taken_of_home pt m home (pt.kernel.made home)) (taken_of_home next m home (next.kernel.made home)) (taken_by pt m p) (taken_by next m p)
          (taken_at pt m home) (taken_at next m home) there
          (same_homes pt next m home (λ h low. same_made pt next m h (made h) (λ n. others (pid_of h n) (home_apart h n p (let f : home ≡ p.home = e.1 in λ z. omega (arith, f, z, low))))))
      | inr e ↦
          changed_first (taken_at pt m home) (taken_at next m home) (taken_by pt m p) (taken_by next m p)
          (taken_of_home pt m home (pt.kernel.made home)) (taken_of_home next m home (next.kernel.made home))
          (changed_homes pt next m p home made (let f : home ≢ p.home = e.1 in omega (arith, f, within)) first below others)
          (same_made pt next m home (made home) (λ n. others (pid_of home n) (home_apart home n p e.1)))
    ]

-- one process p of those made takes something else
pub taken_changed : (pt next : Point) (m : ℕ) (p : Pid) → next.kernel.machines ≡ pt.kernel.machines → ((h : ℕ) → next.kernel.made h ≡ pt.kernel.made h)
    → p.home < pt.kernel.machines → first_number ≤ p.num → p.num < first_number + pt.kernel.made p.home
    → ((q : Pid) → q ≢ p → taken_by next m q ≡ taken_by pt m q)
    → ((taken_at next m next.kernel.machines).slots + (taken_by pt m p).slots ≡ (taken_at pt m pt.kernel.machines).slots + (taken_by next m p).slots)
    × ((taken_at next m next.kernel.machines).blocks + (taken_by pt m p).blocks ≡ (taken_at pt m pt.kernel.machines).blocks + (taken_by next m p).blocks)
taken_changed pt next m p machines made within first below others = grind (arith, nat_tests, changed_homes)

-- what a server takes isn't counted
pub taken_but_servers : (pt next : Point) (m : ℕ) → next.kernel.machines ≡ pt.kernel.machines → ((h : ℕ) → next.kernel.made h ≡ pt.kernel.made h)
    → ((p : Pid) → is_server p ≡ false → taken_by next m p ≡ taken_by pt m p) → taken_at next m next.kernel.machines ≡ taken_at pt m pt.kernel.machines
taken_but_servers pt next m machines made same =
    ap (taken_at next m) machines
    ∙ same_homes pt next m pt.kernel.machines (λ home less. ap (taken_of_home next m home) (made home) ∙ same_home pt next m home (pt.kernel.made home) (λ k few. same (pid_of home (first_number + k)) (made_no_server home k)))

made_home : (pt next : Point) (m home : ℕ) → next.kernel.made home ≡ pt.kernel.made home + 1
    → ((q : Pid) → q ≢ pid_of home (first_number + pt.kernel.made home) → taken_by next m q ≡ taken_by pt m q)
    → taken_of_home next m home (next.kernel.made home) ≡ and (taken_of_home pt m home (pt.kernel.made home)) (taken_by next m (pid_of home (first_number + pt.kernel.made home)))
made_home pt next m home made others =
    let n = pt.kernel.made home in
    let one : next.kernel.made home ≡ suc n = omega (arith, made) in
    ap (taken_of_home next m home) one
    ∙ ap (λ (r : Room). and r (taken_by next m (pid_of home (first_number + n))))
    (same_home pt next m home n (λ k less. others (pid_of home (first_number + k)) (number_apart home (first_number + k) (pid_of home (first_number + n)) (λ e. omega (arith, e, less)))))

pub made_homes : (pt next : Point) (m home homes : ℕ) → home < homes → next.kernel.made home ≡ pt.kernel.made home + 1 → ((h : ℕ) → h ≢ home → next.kernel.made h ≡ pt.kernel.made h)
    → ((q : Pid) → q ≢ pid_of home (first_number + pt.kernel.made home) → taken_by next m q ≡ taken_by pt m q)
    → taken_at next m homes ≡ and (taken_at pt m homes) (taken_by next m (pid_of home (first_number + pt.kernel.made home)))
made_homes pt next m home zero within one made others = absurd (omega (arith, within))
made_homes pt next m home (suc h) within one made others =
    let new = taken_by next m (pid_of home (first_number + pt.kernel.made home)) in
    let apart = λ (k : ℕ) (f : k ≢ home). same_made pt next m k (made k f) (λ n. others (pid_of k n) (home_apart k n (pid_of home (first_number + pt.kernel.made home)) f)) in
    elim (eqb_tells h home) [
      | inl e ↦
          let below = same_homes pt next m h (λ k low. apart k (let f : h ≡ home = e.1 in λ z. omega (arith, f, z, low))) in
          let here : taken_of_home next m h (next.kernel.made h) ≡ and (taken_of_home pt m h (pt.kernel.made h)) new = grind (arith, nat_tests, made_home) in
          let and_second : and (taken_at pt m h) (and (taken_of_home pt m h (pt.kernel.made h)) new) ≡ and (and (taken_at pt m h) (taken_of_home pt m h (pt.kernel.made h))) new = grind (arith, nat_tests) in
          (λ i. and (below i) (here i)) ∙ and_second
      | inr e ↦
          -- the order of what is added
          let and_first : and (and (taken_at pt m h) new) (taken_of_home pt m h (pt.kernel.made h)) ≡ and (and (taken_at pt m h) (taken_of_home pt m h (pt.kernel.made h))) new = grind (arith, nat_tests) in
          (λ i. and (made_homes pt next m home h (let f : h ≢ home = e.1 in omega (arith, f, within)) one made others i) (apart h e.1 i))
          ∙ and_first
    ]
