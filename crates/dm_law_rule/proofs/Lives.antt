-- Nothing is known of a process that was never made.
use Rattle.dm_law_rule.proofs.Names.{◌≡◌, ℕ, ◌≤◌, ap, ◌∙◌, sym, Option, None, Pid, Life, OneKernel, at_record, View, Known, Unknown, Here, pid_eq-is, LifeGrows, arith, and_parts}

-- processes are numbered from 3; the servers are none
pub record Lives (s : OneKernel) (v : View) : Type 0 where
  pub none : (p : Pid) → s.processes p ≡ None → 3 ≤ p.num → (n : ℕ) → v.known n p ≡ Unknown

-- a process was made
abbrev pub Lived : OneKernel → Pid → Type 0
Lived s p = s.processes p ≡ None → 3 ≤ p.num → ⊥

pub lived_here : (s : OneKernel) (v : View) (p : Pid) (m : ℕ) → Lives s v → v.known m p ≡ Here → Lived s p
lived_here s v p m h here none le = absurd (let f : Unknown ≡ Here = sym (h.none p none le m) ∙ here in cc)

-- what was made stays so
abbrev pub Kept : OneKernel → OneKernel → Type 0
Kept s t = (p : Pid) → t.processes p ≡ None → s.processes p ≡ None

pub grown_none : (a b : Option Life) → LifeGrows a b → b ≡ None → a ≡ None
grown_none a b h1 h2 = search arith

pub lives_same : (s t : OneKernel) (v w : View) → Kept s t → w.known ≡ v.known → Lives s v → Lives t w
lives_same s t v w kept known h = record { none = λ p is le n. ap (λ (f : ℕ → Pid → Known). f n p) known ∙ h.none p (kept p is) le n }

pub lives_learn : (s t : OneKernel) (v w : View) (p : Pid) (k : Known) → Kept s t → w.known ≡ at_record v.known v.acting p k → (t.processes p ≡ None → 3 ≤ p.num → k ≡ Unknown) → Lives s v → Lives t w
lives_learn s t v w p k kept known new h = record {
  none = λ q is le n. ap (λ (f : ℕ → Pid → Known). f n q) known ∙ (search (arith, pid_eq-is, and_parts));
}
