-- How many forwarding addresses lead from a machine to a process.
use Rattle.dm_law_moves.proofs.Names.{◌≡◌, ℕ, zero, suc, ◌≤◌, ◌&&◌, Bool, true, false, nat_lt, refl, ap, ◌∙◌, sym, arith, false≢true, Pid, leads, leads_on, View, Known, Forward, right_true}

abbrev pub Knows : Type 0
Knows = ℕ → Pid → Known

abbrev pub steps_on : Known → (ℕ → ℕ) → ℕ
steps_on (Forward at moves) next = suc (next at)
steps_on _ next = 0

-- within so many steps
abbrev pub distance : Knows → Pid → ℕ → ℕ → ℕ
distance known p zero m = 0
distance known p (suc n) m = steps_on (known m p) (distance known p n)

not_both : (b : Bool) → (b && false) ≡ true → ⊥
not_both true e = absurd (false≢true e)
not_both false e = absurd (false≢true e)

-- where the addresses lead to the process in so many steps, or to where it ended, one step more finds none more
none_left : (over : Bool) (k : Known) (c : ℕ) (next : ℕ → ℕ) → leads_on over k c (λ d j. false) ≡ true → steps_on k next ≡ 0
none_left over (Forward at moves) c next e = absurd (not_both (nat_lt c moves) e)
none_left over _ c next e = refl

same_left : (over : Bool) (k : Known) (c : ℕ) (next : ℕ → ℕ → Bool) (f g : ℕ → ℕ) → leads_on over k c next ≡ true → ((at d : ℕ) → next d at ≡ true → f at ≡ g at) → steps_on k f ≡ steps_on k g
same_left over (Forward at moves) c next f g e h = ap suc (h at moves (right_true (nat_lt c moves) (next moves at) e))
same_left over _ c next f g e h = refl

settled : (over : Bool) (v : View) (p : Pid) (n c m : ℕ) → leads over v p n c m ≡ true → distance v.known p (suc n) m ≡ distance v.known p n m
settled over v p zero c m e = none_left over (v.known m p) c (distance v.known p zero) e
settled over v p (suc n) c m e = same_left over (v.known m p) c (leads over v p n) (distance v.known p (suc n)) (distance v.known p n) e (λ at d f. settled over v p n d at f)

-- so each leads one step nearer
pub nearer : (over : Bool) (v : View) (p : Pid) (n c m at moves : ℕ) → leads over v p n c m ≡ true → v.known m p ≡ Forward at moves → distance v.known p n m ≡ suc (distance v.known p n at)
nearer over v p n c m at moves e known = sym (settled over v p n c m e) ∙ ap (λ (k : Known). steps_on k (distance v.known p n)) known

few_left : (k : Known) (n : ℕ) (next : ℕ → ℕ) → ((at : ℕ) → next at ≤ n) → steps_on k next ≤ suc n
few_left (Forward at moves) n next h = let k = h at in omega (arith, k)
few_left _ n next h = omega arith

pub within_steps : (known : Knows) (p : Pid) (n m : ℕ) → distance known p n m ≤ n
within_steps known p zero m = omega arith
within_steps known p (suc n) m = few_left (known m p) n (distance known p n) (λ at. within_steps known p n at)
