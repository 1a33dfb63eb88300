-- What only grows: lives go on or end, and counts rise.
use Rattle.dm_law_one.proofs.Names.{◌≡◌, ℕ, ◌≤◌, Bool, refl, ap, sym, subst, inl, inr, arith, length, ⊤, if◌then◌else◌, ◌∙◌, Option, None, Some, cases_Bool, Pid, pid_eq, Life, Alive, Ended, MoveNote, PlainProcess, Switchboard, Manager}
use Rattle.dm_law_one.proofs.Names.{OneKernel, with_process}
use Rattle.dm_law_one.proofs.Equal.{pid_eq-is}
use Rattle.dm_law_one.proofs.Notes.{other_process}

abbrev pub AliveGrows : ℕ → Option Life → Type 0
AliveGrows n None = ⊥
AliveGrows n (Some (Alive z)) = n ≤ z.sent
AliveGrows n (Some (Ended y)) = ⊤

-- an ended process stays so, and a living one counts no less
abbrev pub LifeGrows : Option Life → Option Life → Type 0
LifeGrows None after = ⊤
LifeGrows (Some (Ended y)) after = after ≡ Some (Ended y)
LifeGrows (Some (Alive x)) after = AliveGrows x.sent after

pub record Grown (s t : OneKernel) : Type 0 where
  pub lives : (p : Pid) → LifeGrows (s.processes p) (t.processes p)
  pub switchboard : s.switchboard.sent ≤ t.switchboard.sent
  pub manager : s.manager.sent ≤ t.manager.sent
  pub made : (home : ℕ) → s.made home ≤ t.made home
  pub children : length s.manager.children ≤ length t.manager.children

pub LifeGrows-same : (a : Option Life) → LifeGrows a a
LifeGrows-same None = tt
LifeGrows-same (Some (Ended y)) = refl
LifeGrows-same (Some (Alive x)) = omega arith

AliveGrows-less : (m n : ℕ) (c : Option Life) → m ≤ n → AliveGrows n c → AliveGrows m c
AliveGrows-less m n None le h = h
AliveGrows-less m n (Some (Alive z)) le h = omega arith
AliveGrows-less m n (Some (Ended y)) le h = tt

pub LifeGrows-trans : (a b c : Option Life) → LifeGrows a b → LifeGrows b c → LifeGrows a c
LifeGrows-trans None b c h k = tt
LifeGrows-trans (Some (Ended y)) b c h k = subst (λ v. LifeGrows v c) h k
LifeGrows-trans (Some (Alive x)) None c h k = absurd h
LifeGrows-trans (Some (Alive x)) (Some (Alive z)) c h k = AliveGrows-less x.sent z.sent c h k
LifeGrows-trans (Some (Alive x)) (Some (Ended y)) c h k = subst (AliveGrows x.sent) (sym k) tt

pub Grown-same : (s : OneKernel) → Grown s s
Grown-same s = record { lives = λ p. LifeGrows-same (s.processes p); switchboard = omega arith; manager = omega arith; made = λ m. omega arith; children = omega arith }

pub Grown-trans : (s t u : OneKernel) → Grown s t → Grown t u → Grown s u
Grown-trans s t u h k = record {
  lives = λ p. LifeGrows-trans (s.processes p) (t.processes p) (u.processes p) (h.lives p) (k.lives p);
  switchboard = omega (arith, h.switchboard, k.switchboard);
  manager = omega (arith, h.manager, k.manager);
  made = λ m. omega (arith, h.made m, k.made m);
  children = omega (arith, h.children, k.children);
}

pub with_process-lives : (s : OneKernel) (p : Pid) (life : Life) → LifeGrows (s.processes p) (Some life) → (q : Pid) → LifeGrows (s.processes q) ((with_process s p life).processes q)
with_process-lives s p life g q = elim (cases_Bool (pid_eq p q)) [
  | inl same ↦
      let is : p ≡ q = pid_eq-is p q same in
      subst (LifeGrows (s.processes q)) (sym (ap (λ (b : Bool). if b then Some life else s.processes q) same)) (subst (λ v. LifeGrows (s.processes v) (Some life)) is g)
  | inr apart ↦ subst (LifeGrows (s.processes q)) (sym (ap (λ (b : Bool). if b then Some life else s.processes q) apart)) (LifeGrows-same (s.processes q))
]

-- what one step does to processes: they only grow, and one that follows a request rests
pub record Went (s t : OneKernel) : Type 0 where
  pub grown : Grown s t
  pub rests : (p : Pid) (n : MoveNote) → s.notes p ≡ Some n → t.processes p ≡ s.processes p

-- a process goes on, or ends, that follows nothing
pub Went-process : (s t : OneKernel) (p : Pid) (x : PlainProcess) (life : Life) → s.processes p ≡ Some (Alive x) → LifeGrows (Some (Alive x)) (Some life) → s.notes p ≡ None
    → ((q : Pid) → t.processes q ≡ (with_process s p life).processes q) → ((m : ℕ) → t.made m ≡ s.made m) → t.switchboard ≡ s.switchboard → t.manager ≡ s.manager → Went s t
Went-process s t p x life is grows free same made b g = record {
  grown = record {
    lives = λ q. subst (LifeGrows (s.processes q)) (sym (same q)) (with_process-lives s p life (subst (λ v. LifeGrows v (Some life)) (sym is) grows) q);
    switchboard = let k : t.switchboard.sent ≡ s.switchboard.sent = ap (λ (v : Switchboard). v.sent) b in omega (arith, k);
    manager = let k : t.manager.sent ≡ s.manager.sent = ap (λ (v : Manager). v.sent) g in omega (arith, k);
    made = λ m. let k = made m in omega (arith, k);
    children = let k : length t.manager.children ≡ length s.manager.children = ap (λ (v : Manager). length v.children) g in omega (arith, k);
  };
  rests = λ q n notes. same q ∙ ap (λ (c : Bool). if c then Some life else s.processes q) (other_process s p q n free notes);
}

-- no process changes
pub Went-bag : (s t : OneKernel) → ((q : Pid) → t.processes q ≡ s.processes q) → ((m : ℕ) → t.made m ≡ s.made m) → s.switchboard.sent ≤ t.switchboard.sent → s.manager.sent ≤ t.manager.sent
    → length s.manager.children ≤ length t.manager.children → Went s t
Went-bag s t same made b g c = record {
  grown = record { lives = λ q. subst (LifeGrows (s.processes q)) (sym (same q)) (LifeGrows-same (s.processes q)); switchboard = b; manager = g; made = λ m. let k = made m in omega (arith, k); children = c };
  rests = λ q n notes. same q;
}
