-- A machine's kernel that stands for a point may take a turn.
use Rattle.dm_law_mirror.proofs.Names.{◌≡◌, ℕ, ◌<◌, ◌==◌, true, false, List, [], ◌∷◌, map, refl, ap, ◌∙◌, sym, subst, arith, All, Option, None, Some, nat_tests, All-head, Pid, Message, MsgId, IsLawfulMessage, PlainMessage}
use Rattle.dm_law_mirror.proofs.Names.{plain_message, Boot, IsValid, Point, OwnTold, Run, for_whom, Placed, Mirrors, IsLawfulState, FitsKnown, FrontMay, MayHandle, MayTurn, KernelState, MadeStands}
use Rattle.dm_law_mirror.proofs.Names.{KernelStands, AllOwnStand, TokensStand, ◌+◌, ◌≤◌}
use Rattle.dm_law_mirror.proofs.May.Own.{own_front, own_row, front_row, may_act, FrontSo, front_so, kernel_create, kernel_row}
use Rattle.dm_law_mirror.proofs.May.OwnKernel.{Around, own_kernel}
use Rattle.dm_law_mirror.proofs.Counts.Pairs.{CountsFew}

-- the message at the front, one of the bag
handles : (b : Boot) (pt : Point) (l : Placed) (m : ℕ) (k : KernelState) (i : MsgId) (is : List MsgId) (x : Message) (p : PlainMessage) → Run b pt → MadeStands pt.kernel → CountsFew pt → Mirrors pt.kernel pt.view pt.addresses l → KernelStands b pt l m k → k.sent + 16 ≤ 4294967295 → IsLawfulMessage x
    → pt.view.inbox m ≡ i ∷ is → FrontSo pt m i x p → MayHandle b k x
handles b pt l m k i is x p run made counts mirrors h all lawful box f = record {
  lawful = lawful;
  for_kernel = λ num.
      let zero_ : p.to.num ≡ 0 = (let e : (p.to.num == 0) ≡ true = ap (λ (q : Pid). q.num == 0) (sym f.to) ∙ num in grind (arith, nat_tests)) in
      let few = counts.made m in
      let count = h.made in
      kernel_row b pt k i x p p.what f.what_is (kernel_create pt.kernel p p.what (for_whom pt.kernel i p p.what f.fits) made zero_) f.fits run.based.images (omega (arith, few, count));
  for_process = λ num.
      let sent : k.sent < 4294967295 = omega (arith, all) in
      let num_ : (p.to.num == 0) ≡ false = ap (λ (q : Pid). q.num == 0) (sym f.to) ∙ num in
      subst (λ (q : Pid). FitsKnown k x (k.records q)) (sym f.to) (front_row b pt l m k i is x p run made mirrors h counts sent all box f num_);
}

-- or a kernel's own
pub own_handles : (b : Boot) (pt : Point) (l : Placed) (ks : ℕ → KernelState) (m : ℕ) (i : MsgId) (x : Message) → Around b pt l ks m i x → IsLawfulState (ks m) → (ks m).sent + 16 ≤ 4294967295 → IsLawfulMessage x → MayHandle b (ks m) x
own_handles b pt l ks m i x h whole all lawful =
    let stands = h.nodes m h.within in
    let sent : (ks m).sent < 4294967295 = omega (arith, all) in
    record {
      lawful = lawful;
      for_kernel = λ num. own_kernel b pt l ks m i x h num sent all;
      for_process = λ num. own_row b pt l m (ks m) i x h.run h.mirrors stands whole h.counts sent h.front num;
    }

-- all that stands where machine m takes a turn
pub record Stand (b : Boot) (pt : Point) (l : Placed) (ks : ℕ → KernelState) (m : ℕ) : Type 0 where
  pub valid : IsValid b
  pub run : Run b pt
  pub told : OwnTold pt
  pub made : MadeStands pt.kernel
  pub counts : CountsFew pt
  pub mirrors : Mirrors pt.kernel pt.view pt.addresses l
  pub nodes : (n : ℕ) → n < pt.kernel.machines → KernelStands b pt l n (ks n)
  pub own : AllOwnStand pt.view l
  pub tokens : TokensStand pt.view l (λ n. (ks n).records)
  pub within : m < pt.kernel.machines
  -- it has counted its kernel's own messages as the lines have
  pub sent : (ks m).sent ≡ pt.view.count m

pub any_handles : (b : Boot) (pt : Point) (l : Placed) (ks : ℕ → KernelState) (m : ℕ) (i : MsgId) (is : List MsgId) (x : Message) (o : Option PlainMessage) → plain_message x ≡ o → Stand b pt l ks m → IsLawfulState (ks m) → pt.view.inbox m ≡ i ∷ is → l.bag i ≡ Some x → IsLawfulMessage x → MayHandle b (ks m) x
any_handles b pt l ks m i is x None plain h whole box there lawful =
    own_handles b pt l ks m i x
    (record { valid = h.valid; run = h.run; made = h.made; counts = h.counts; mirrors = h.mirrors; nodes = h.nodes; tokens = h.tokens; within = h.within; front = own_front b pt l m i is x h.run h.told h.own box there plain }) whole
    (let sent = h.sent in let few = h.counts.own m in omega (arith, sent, few)) lawful
any_handles b pt l ks m i is x (Some p) plain h whole box there lawful =
    handles b pt l m (ks m) i is x p h.run h.made h.counts h.mirrors (h.nodes m h.within)
    (let sent = h.sent in let few = h.counts.own m in omega (arith, sent, few)) lawful box (front_so b pt l m i is x p h.run h.mirrors box there plain)

front_may : (b : Boot) (pt : Point) (l : Placed) (ks : ℕ → KernelState) (m : ℕ) (ids : List MsgId) (xs : List Message) → Stand b pt l ks m → IsLawfulState (ks m) → pt.view.inbox m ≡ ids → map l.bag ids ≡ map Some xs → All IsLawfulMessage xs → FrontMay b (ks m) xs
front_may b pt l ks m ids [] h whole box are lawful = tt
front_may b pt l ks m [] (x ∷ xs) h whole box are lawful = cc
front_may b pt l ks m (i ∷ is) (x ∷ xs) h whole box are lawful = any_handles b pt l ks m i is x (plain_message x) refl h whole box (cc) (All-head IsLawfulMessage x xs lawful)

pub may_turn : (b : Boot) (pt : Point) (l : Placed) (ks : ℕ → KernelState) (m : ℕ) → m < 16 → Stand b pt l ks m → IsLawfulState (ks m) → MayTurn b (ks m)
may_turn b pt l ks m small h lawful =
    let stands = h.nodes m h.within in
    search (
      arith,
      stands.here,
      (let sent = h.sent in let few = h.counts.own m in let all : (ks m).sent + 16 ≤ 4294967295 = omega (arith, sent, few) in all),
      small,
      may_act b pt l m (ks m) h.made h.counts h.mirrors stands lawful,
      front_may b pt l ks m (pt.view.inbox m) (ks m).inbox h lawful refl stands.inbox lawful.inbox,
    )
