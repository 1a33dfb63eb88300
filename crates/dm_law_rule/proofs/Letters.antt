-- The messages that are under way: those of the bag, and the kernels' own.
use Rattle.dm_law_rule.proofs.Names.{◌≡◌, ℕ, Bool, true, false, refl, ap, ◌∙◌, sym, arith, is_some, inl, inr, if◌then◌else◌, Option, None, Some, cases_Bool, nat_tests, pid_eq, MsgId, PlainMessage, Label, switchboard, manager, bind, OneKernel}
use Rattle.dm_law_rule.proofs.Names.{is_kernels, to_of, id_eq-is, Made, counts, is_counted, unentered, Sound, bind-is}
use Rattle.dm_onekernel.specs.Step as step
use Rattle.dm_law_rule.proofs.Lines.{Bag, hidden}
use Rattle.dm_law_rule.proofs.Bags.{BagStep, out_of}

-- whom a message is for: a kernel's own by what is known of those, and another by the bag
abbrev pub letters : Bag → (MsgId → Option PlainMessage) → Bag
letters own bag i = if is_kernels i then own i else to_of (bag i)

pub letters_own : (own : Bag) (bag : MsgId → Option PlainMessage) (i : MsgId) → is_kernels i ≡ true → letters own bag i ≡ own i
letters_own own bag i e = ap (λ (c : Bool). if c then own i else to_of (bag i)) e

pub letters_bag : (own : Bag) (bag : MsgId → Option PlainMessage) (i : MsgId) → is_kernels i ≡ false → letters own bag i ≡ to_of (bag i)
letters_bag own bag i e = ap (λ (c : Bool). if c then own i else to_of (bag i)) e

pub from_kernel : (i : MsgId) → is_kernels i ≡ true → i.from.num ≡ 0
from_kernel i e = grind (arith, nat_tests)

not_counted : (s : OneKernel) (i : MsgId) → i.from.num ≡ 0 → Made s → counts s i ≡ false
not_counted s i z h =
    let a : pid_eq i.from switchboard ≡ false = grind (arith, nat_tests) in
    let b : pid_eq i.from manager ≡ false = grind (arith, nat_tests) in
    let c : is_counted i.n (s.processes i.from) ≡ false = (elim (s.processes i.from) as (λ o. s.processes i.from ≡ o → is_counted i.n o ≡ false)
    [ None ↦ λ e. refl | Some life ↦ λ e. absurd (let k = h.least i.from (ap is_some e) in grind (arith, nat_tests)) ]) refl in
    grind (arith, nat_tests)

pub kernels_fresh : (r e : MsgId → ℕ) (s : OneKernel) (i : MsgId) → Sound r e s → is_kernels i ≡ true → e i ≡ 0
kernels_fresh r e s i h k = unentered r e s i h.entered (not_counted s i (from_kernel i k) h.made)

pub not_kernels : (r e : MsgId → ℕ) (s : OneKernel) (i : MsgId) (x : PlainMessage) → s.bag i ≡ Some x → Sound r e s → is_kernels i ≡ false
not_kernels r e s i x is h = grind (arith, nat_tests, kernels_fresh)

-- a message of the bag is under way to its receiver
pub letter_of : (r e : MsgId → ℕ) (own : Bag) (s : OneKernel) (i : MsgId) (x : PlainMessage) → s.bag i ≡ Some x → Sound r e s → letters own s.bag i ≡ Some x.to
letter_of r e own s i x is h = letters_bag own s.bag i (not_kernels r e s i x is h) ∙ ap to_of is

-- what goes by a step was in the bag
pub record InBag (s : OneKernel) (i : MsgId) : Type 0 where
  pub message : PlainMessage
  pub there : s.bag i ≡ Some message

in_first : (s t : OneKernel) (i : MsgId) (go : PlainMessage → Option OneKernel) (j : MsgId) → bind (s.bag i) go ≡ Some t → i ≡ j → InBag s j
in_first s t i go j is e = let (m, there, rest) = bind-is (s.bag i) go t is in record { message = m; there = ap s.bag (sym e) ∙ there }

pub gone_in : (s t : OneKernel) (l : Label) (j : MsgId) → step.step s l ≡ Some t → out_of l ≡ Some j → InBag s j
gone_in s t l j h1 h2 = search (arith, bind-is, in_first)

-- a step, seen in the messages that are under way
hidden_keeps : (o : Option MsgId) (bag : Bag) (i : MsgId) → ((j : MsgId) → o ≡ Some j → is_kernels j ≡ false) → is_kernels i ≡ true → hidden o bag i ≡ bag i
hidden_keeps o bag i h1 h2 = search (arith, id_eq-is)

hidden_to : (o : Option MsgId) (own : Bag) (bag : MsgId → Option PlainMessage) (i : MsgId) → is_kernels i ≡ false → hidden o (letters own bag) i ≡ to_of (hidden o bag i)
hidden_to o own bag i h1 = search (arith, letters_bag)

pub letters_step : (e : MsgId → ℕ) (own : Bag) (s t : OneKernel) (out put : Option MsgId) → BagStep e s t out put → ((j : MsgId) → out ≡ Some j → is_kernels j ≡ false) → ((j : MsgId) → put ≡ Some j → is_kernels j ≡ false)
    → (i : MsgId) → hidden put (letters own t.bag) i ≡ hidden out (letters own s.bag) i
letters_step e own s t out put b no_out no_put i = elim (cases_Bool (is_kernels i)) [
  | inl k ↦ hidden_keeps put (letters own t.bag) i no_put k ∙ letters_own own t.bag i k ∙ sym (letters_own own s.bag i k) ∙ sym (hidden_keeps out (letters own s.bag) i no_out k)
  | inr k ↦ hidden_to put own t.bag i k ∙ ap to_of (b.same i) ∙ sym (hidden_to out own s.bag i k)
]
