-- The numbers in names of messages are below the counts of their senders.
use Rattle.dm_law_moves.proofs.Names.{◌≡◌, ℕ, ◌<◌, true, false, nat_lt, refl, ap, ◌∙◌, sym, inl, inr, arith, None, Some, nat_tests, pid_of, MsgId, id_of, PlainMessage, OneKernel, in_bag, is_counted, counts, pid_eq-same, Sound, not_server}
use Rattle.dm_law_moves.proofs.Names.{counts_process, Point, Told, is_kernels, Sane, run_always, IsBelow, NumbersAlways, cases_zero}

-- what has entered is counted
below : (r e : MsgId → ℕ) (s : OneKernel) (i : MsgId) → Sound r e s → counts s i ≡ true → IsBelow s i
below r e s i h c = record {
  of_process = λ x alive.
      let k : nat_lt i.n x.sent ≡ true = sym (counts_process s i.from i refl (not_server s i.from x alive h.made) ∙ ap (is_counted i.n) alive) ∙ c in
      grind (arith, nat_tests);
  of_switchboard = grind (arith, nat_tests, pid_eq-same);
  of_manager = grind (arith, nat_tests, pid_eq-same);
}

pub bag_counted : (r e : MsgId → ℕ) (s : OneKernel) (i : MsgId) (m : PlainMessage) → Sound r e s → s.bag i ≡ Some m → counts s i ≡ true
bag_counted r e s i m h there = h.entered.counted i (let f = h.entered.fewer i in let g : in_bag (s.bag i) ≡ 1 = ap in_bag there in omega (arith, f, g))

pub told_counted : (pt : Point) (i : MsgId) (t : Told) → (h : Sane pt) → pt.view.told i ≡ Some t → is_kernels i ≡ false → counts pt.kernel i ≡ true
told_counted pt i t h told other = elim (cases_zero (h.e i)) [
  | inl none ↦ absurd (let f : None ≡ Some t = sym (h.untold i none other) ∙ told in cc)
  | inr some ↦ h.sound.entered.counted i some
]

own_below : (pt : Point) (i : MsgId) (t : Told) → Sane pt → pt.view.told i ≡ Some t → is_kernels i ≡ true → i.n < pt.view.count i.from.home
own_below pt i t h told own =
    -- a kernel's own message is named by its machine
    let own_name : (i : MsgId) → is_kernels i ≡ true → id_of (pid_of i.from.home 0) i.n ≡ i = λ i e. grind (arith, nat_tests) in
    grind (arith, nat_tests, own_name)

-- wherever the rule leads
pub numbers_always : NumbersAlways
numbers_always b es pt valid leads =
    let sane = (run_always b es pt valid leads).run.based.phased.sane in
    search (below, bag_counted, told_counted, own_below)
