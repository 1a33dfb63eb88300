-- What is drawn for so many machines is for machines that are there.
use Rattle.dm_draw.proofs.Names.{◌≡◌, ◌≢◌, ◌⊎◌, inl, inr, ℕ, zero, suc, ◌+◌, ◌-◌, ◌*◌, ◌/◌, ◌%◌, ◌^◌, ◌<◌, ◌≤◌, ◌==◌, nat_lt, Bool, true, false, if◌then◌else◌, List, [], ◌∷◌, ◌++◌, length, length-append, refl, ap, ◌∙◌, sym, subst, arith}
use Rattle.dm_draw.proofs.Names.{All, All-nil, All-cons, All-append, mod_below, mod-mul-add, Directive, boot_of_machines, small_machines, small_machine, Drawn, IsDrawn, deliver_drawn, directive_drawn, directives_by, migrate_drawn, nat_tests, Option, None, Some, Pid, BootProcess, arrival_drawn, behind_process, calloff_drawn, move_drawn, own_drawn, process_drawn}
use Rattle.dm_draw.proofs.Names.{round_drawn, state_behind, tick_drawn, turn_drawn, drawn, stepped}
use Rattle.dm_schedule.specs.declared.Step.TheVariants as step
use Rattle.dm_schedule.specs.declared.Directive.TheVariants as directive
use Rattle.dm_draw.proofs.Drawing.{drawn_next, drawn_none}

pub drawn_below : (n x : ℕ) → 0 < n → drawn n x < n
unfolding drawn
drawn_below n x h = mod_below (stepped x / 2 ^ 33) n h

-- which of two numbers is the lesser
lesser : (m n : ℕ) → (m < n) ⊎ (n ≤ m)
lesser zero zero = inr (omega arith)
lesser zero (suc n) = inl (omega arith)
lesser (suc m) zero = inr (omega arith)
lesser (suc m) (suc n) = elim (lesser m n) [
  | inl h ↦ inl (omega (arith, h))
  | inr h ↦ inr (omega (arith, h))
]

-- a machine that lies fewer steps round than there are machines is another
another : (n a r : ℕ) → a < n → r < n - 1 → a ≢ (a + 1 + r) % n
another n a r h k = λ same. elim (lesser (a + 1 + r) n) [
  | inl l ↦
      let e : (0 * n + (a + 1 + r)) % n ≡ a + 1 + r = mod-mul-add 0 n (a + 1 + r) l in
      let f : 0 * n + (a + 1 + r) ≡ a + 1 + r = omega arith in
      let g : (a + 1 + r) % n ≡ a + 1 + r = ap (λ x. x % n) (sym f) ∙ e in
      omega (arith, same, g)
  | inr l ↦
      let e : (1 * n + (a + 1 + r - n)) % n ≡ a + 1 + r - n = mod-mul-add 1 n (a + 1 + r - n) (omega (arith, h, k, l)) in
      let f : 1 * n + (a + 1 + r - n) ≡ a + 1 + r = omega (arith, l) in
      let g : (a + 1 + r) % n ≡ a + 1 + r - n = ap (λ x. x % n) (sym f) ∙ e in
      omega (arith, same, g, h, k, l)
]

delivers : (n x : ℕ) → 2 ≤ n → IsDrawn n (deliver_drawn n x).directive
delivers n x least =
    let a = drawn_below n x (omega (arith, least)) in
    let r = drawn_below (n - 1) (stepped x) (omega (arith, least)) in
    (a, mod_below (drawn n x + 1 + drawn (n - 1) (stepped x)) n (omega (arith, least)), another n (drawn n x) (drawn (n - 1) (stepped x)) a r)

pub directive_fits : (n x : ℕ) → 2 ≤ n → IsDrawn n (directive_drawn n x).directive
unfolding directive_drawn
directive_fits n x least = go (nat_lt (drawn 8 x) 3) (drawn 8 x == 3) (drawn 8 x == 4) (drawn 8 x == 5)
  where
    some : 0 < n
    some = omega (arith, least)

    go : (a b c d : Bool) → IsDrawn n (if a then turn_drawn n (stepped x) else if b then tick_drawn n (stepped x) else if c then migrate_drawn n (stepped x) else if d then deliver_drawn n (stepped x) else round_drawn (stepped x)).directive
    go true b c d = drawn_below n (stepped x) some
    go false true c d = drawn_below n (stepped x) some
    go false false true d = drawn_below n (stepped (stepped (stepped x))) some
    go false false false true = delivers n (stepped x) least
    go false false false false = tt

-- a machine that is alone takes a turn
arrives : (n x : ℕ) (b : Bool) → (n == 1) ≡ b → 1 ≤ n → IsDrawn n (if b then record { directive = directive.One (step.Turn 0); state = x } else deliver_drawn n x).directive
arrives n x true e least = omega (arith, least)
arrives n x false e least = delivers n x (more n e least)
  where
    more : (n : ℕ) → (n == 1) ≡ false → 1 ≤ n → 2 ≤ n
    more n e least = grind (arith, nat_tests)

moves : (n : ℕ) (p : Option Pid) (x : ℕ) → 0 < n → IsDrawn n (move_drawn n p x).directive
moves n None x some = drawn_below n x some
moves n (Some p) x some = drawn_below n x some

calls : (n : ℕ) (p : Option Pid) (x : ℕ) → 0 < n → IsDrawn n (calloff_drawn n p x).directive
calls n None x some = drawn_below n x some
calls n (Some p) x some = drawn_below n x some

pub own_fits : (n : ℕ) (ps : List BootProcess) (x : ℕ) → 1 ≤ n → IsDrawn n (own_drawn n ps x).directive
unfolding own_drawn
own_fits n ps x least = go (nat_lt (drawn 9 x) 3) (drawn 9 x == 3) (drawn 9 x == 4) (drawn 9 x == 5) (drawn 9 x == 8)
  where
    some : 0 < n
    some = omega (arith, least)

    y : ℕ
    y = stepped x

    p : Option Pid
    p = process_drawn ps y

    z : ℕ
    z = behind_process p y

    go : (a b c d e : Bool) → IsDrawn n (if a then turn_drawn n y else if b then tick_drawn n y else if c then move_drawn n p z else if d then arrival_drawn n y else if e then calloff_drawn n p z else round_drawn y).directive
    go true b c d e = drawn_below n y some
    go false true c d e = drawn_below n y some
    go false false true d e = moves n p z some
    go false false false true e = arrives n y (n == 1) refl least
    go false false false false true = calls n p z some
    go false false false false false = tt

-- so each of those that are drawn is
pub directives_fit : (n : ℕ) (draw : ℕ → Drawn) (x k : ℕ) → ((s : ℕ) → IsDrawn n (draw s).directive) → All (IsDrawn n) (directives_by draw x k)
directives_fit n draw x zero each = subst (All (IsDrawn n)) (sym (drawn_none draw x)) (All-nil (IsDrawn n))
directives_fit n draw x (suc k) each =
    let d : Directive = (draw (state_behind draw x k)).directive in
    subst (All (IsDrawn n)) (sym (drawn_next draw x k)) (All-append (IsDrawn n) (directives_by draw x k) (d ∷ []) (directives_fit n draw x k each) (All-cons (IsDrawn n) d [] (each (state_behind draw x k)) (All-nil (IsDrawn n))))

pub directives_count : (draw : ℕ → Drawn) (x k : ℕ) → length (directives_by draw x k) ≡ k
directives_count draw x zero = ap (λ (ds : List Directive). length ds) (drawn_none draw x)
directives_count draw x (suc k) =
    let d : Directive = (draw (state_behind draw x k)).directive in
    let e : length (directives_by draw x (suc k)) ≡ length (directives_by draw x k ++ d ∷ []) = ap (λ (ds : List Directive). length ds) (drawn_next draw x k) in
    let f = length-append (directives_by draw x k) (d ∷ []) in
    let g = directives_count draw x k in
    omega (arith, e, f, g)

machines_count : (n : ℕ) → length (small_machines n) ≡ n
machines_count zero = refl
machines_count (suc n) =
    let f = length-append (small_machines n) (small_machine ∷ []) in
    let g = machines_count n in
    omega (arith, f, g)

pub boot_machines : (n : ℕ) → length (boot_of_machines n).machines ≡ n
unfolding boot_of_machines
boot_machines n = machines_count n
