-- No message is taken twice: it entered once, and what takes it leaves it nowhere.
use Rattle.dm_law_always.proofs.Names.{◌≡◌, ℕ, ◌+◌, ◌≤◌, Bool, false, List, [], ◌∷◌, refl, ap, ◌∙◌, sym, subst, arith, inl, inr, if◌then◌else◌, Option, None, Some, cases_Bool, none_some, option_map_or}
use Rattle.dm_law_always.proofs.Names.{MsgId, id_eq, id_eq-is, id_eq-same, Label, OneKernel, PlainMessage, PlainProcess, Sound, start, start-sound, after_step, replay, bind, bind-is, entry, reception, in_bag}
use Rattle.dm_law_always.proofs.Names.{BagStep, bag_created, bag_dropped, bag_gone, bag_no_space, bag_receive, bag_served, bag_took}
use Rattle.dm_law_rule.proofs.Bags.{bag_asked, bag_none}
use Rattle.dm_law_rule.proofs.Lines.{hidden}
use Rattle.dm_onekernel.specs.Receiving as receiving
use Rattle.dm_onekernel.specs.Service as service
use Rattle.dm_onekernel.specs.Step as kernel
use Rattle.dm_law_always.specs.Taken.{TakenOnce, taken, taking, takings}

-- a message was there, and is gone
record Out (s t : OneKernel) (id : MsgId) : Type 0 where
  m : PlainMessage
  was : s.bag id ≡ Some m
  gone : t.bag id ≡ None

hidden_at : (bag : MsgId → Option PlainMessage) (i : MsgId) → hidden (Some i) bag i ≡ None
hidden_at bag i = ap (λ (c : Bool). if c then None else bag i) (id_eq-same i)

gone_by : (r e : MsgId → ℕ) (s t : OneKernel) (id : MsgId) (m : PlainMessage) (put : Option MsgId) → s.bag id ≡ Some m → BagStep e s t (Some id) put → Sound r e s → t.bag id ≡ None
gone_by r e s t id m None was step_ h = step_.same id ∙ hidden_at s.bag id
gone_by r e s t id m (Some j) was step_ h = elim (cases_Bool (id_eq j id)) [
  | inl same ↦ absurd (
      let is : j ≡ id = id_eq-is j id same in
      let none : s.bag id ≡ None = sym (ap s.bag is) ∙ bag_none r e s j (step_.fresh j refl) h.entered in
      let e : None ≡ Some m = sym none ∙ was in
      cc)
  | inr apart ↦ sym (ap (λ (c : Bool). if c then None else t.bag id) apart) ∙ step_.same id ∙ hidden_at s.bag id
]

out_by : (r e : MsgId → ℕ) (s t : OneKernel) (id : MsgId) (m : PlainMessage) (put : Option MsgId) → s.bag id ≡ Some m → BagStep e s t (Some id) put → Sound r e s → Out s t id
out_by r e s t id m put was step_ h = record { m = m; was = was; gone = gone_by r e s t id m put was step_ h }

out_step : (r e : MsgId → ℕ) (s t : OneKernel) (l : Label) (id : MsgId) → kernel.step s l ≡ Some t → Sound r e s → taken l ≡ Some id → Out s t id
out_step r e s t (Label.Receive p i) id is h e_ =
    let same : i ≡ id = cc in
    let (c, done, last) = bind-is (kernel.completing s p i) (kernel.receives s p i) t is in
    let (x, hand, rest) = bind-is (kernel.at_hand s p) (λ (v : PlainProcess). bind (s.bag i) (receiving.completes_with p v)) c done in
    let (m, there, end) = bind-is (s.bag i) (receiving.completes_with p x) c rest in
    subst (Out s t) same (out_by r e s t i m None there (bag_receive e s t p i is) h)
out_step r e s t (Label.Served i) id is h e_ =
    let same : i ≡ id = cc in
    let b = bag_served r e s t i is h in
    subst (Out s t) same (out_by r e s t i b.m _ b.there b.is h)
out_step r e s t (Label.Took i) id is h e_ =
    let same : i ≡ id = cc in
    let b = bag_took r e s t i is h in
    subst (Out s t) same (out_by r e s t i b.m _ b.there b.is h)
out_step r e s t (Label.Dropped i) id is h e_ =
    let same : i ≡ id = cc in
    let (m, there, rest) = bind-is (s.bag i) (λ v. bind (kernel.why_ended (s.processes v.to)) (kernel.drops s i v)) t is in
    subst (Out s t) same (out_by r e s t i m None there (bag_dropped e s t i is) h)
out_step r e s t (Label.Gone i) id is h e_ =
    let same : i ≡ id = cc in
    let (m, there, rest) = bind-is (s.bag i) (λ v. bind (kernel.why_ended (s.processes v.to)) (kernel.says_gone s i v)) t is in
    subst (Out s t) same (out_by r e s t i m _ there (bag_gone r e s t i is h) h)
out_step r e s t (Label.Created i child) id is h e_ =
    let same : i ≡ id = cc in
    let (m, there, rest) = bind-is (s.bag i) (λ v. service.creates s i v child v.what) t is in
    subst (Out s t) same (out_by r e s t i m _ there (bag_created r e s t i child is h) h)
out_step r e s t (Label.NoSpace i slots blocks) id is h e_ =
    let same : i ≡ id = cc in
    let (m, there, rest) = bind-is (s.bag i) (λ v. service.has_no_room s i v v.what) t is in
    subst (Out s t) same (out_by r e s t i m _ there (bag_no_space r e s t i slots blocks is h) h)
out_step r e s t (Label.Asked i) id is h e_ =
    let same : i ≡ id = cc in
    let (m, there, rest) = bind-is (s.bag i) (λ v. bind (kernel.at_hand s v.to) (λ p. service.follows_request s i v v.what)) t is in
    subst (Out s t) same (out_by r e s t i m None there (bag_asked e s t i is) h)
out_step r e s t _ id is h e_ = none_some id e_

-- a step that doesn't take it leaves it, or it enters
entered_or : (id : MsgId) (s t : OneKernel) (o p : Option PlainMessage) → s.bag id ≡ o → t.bag id ≡ p → in_bag (t.bag id) ≤ in_bag (s.bag id) + entry id s t
entered_or id s t o None was is = let none : in_bag (t.bag id) ≡ 0 = ap in_bag is in omega (arith, none)
entered_or id s t (Some m) (Some n) was is = let one : in_bag (t.bag id) ≡ 1 = ap in_bag is in let old : in_bag (s.bag id) ≡ 1 = ap in_bag was in omega (arith, one, old)
entered_or id s t None (Some n) was is =
    let one : in_bag (t.bag id) ≡ 1 = ap in_bag is in
    let new : entry id s t ≡ 1 = cc in
    omega (arith, one, new)

taken_by : (r e : MsgId → ℕ) (s t : OneKernel) (l : Label) (id : MsgId) (o : Option MsgId) → kernel.step s l ≡ Some t → Sound r e s → taken l ≡ o → taking id l + in_bag (t.bag id) ≤ in_bag (s.bag id) + entry id s t
taken_by r e s t l id None is h e_ =
    let none : taking id l ≡ 0 = ap (λ (o : Option MsgId). if option_map_or (id_eq id) o false then 1 else 0) e_ in
    let k = entered_or id s t (s.bag id) (t.bag id) refl refl in
    omega (arith, none, k)
taken_by r e s t l id (Some i) is h e_ = elim (cases_Bool (id_eq id i)) [
  | inl same ↦
      let name : id ≡ i = id_eq-is id i same in
      let out = out_step r e s t l i is h e_ in
      let one : taking id l ≡ 1 = ap (λ (o : Option MsgId). if option_map_or (id_eq id) o false then 1 else 0) e_ ∙ ap (λ (c : Bool). if c then 1 else 0) same in
      let was : in_bag (s.bag id) ≡ 1 = ap (λ (j : MsgId). in_bag (s.bag j)) name ∙ ap in_bag out.was in
      let gone : in_bag (t.bag id) ≡ 0 = ap (λ (j : MsgId). in_bag (t.bag j)) name ∙ ap in_bag out.gone in
      omega (arith, one, was, gone)
  | inr apart ↦
      let none : taking id l ≡ 0 = ap (λ (o : Option MsgId). if option_map_or (id_eq id) o false then 1 else 0) e_ ∙ ap (λ (c : Bool). if c then 1 else 0) apart in
      let k = entered_or id s t (s.bag id) (t.bag id) refl refl in
      omega (arith, none, k)
]

takings_few : (ls : List Label) (r e : MsgId → ℕ) (s t : OneKernel) (id : MsgId) (n : ℕ) → replay s ls ≡ Some t → Sound r e s → n + in_bag (s.bag id) ≤ e id → n + takings id ls ≤ 1
takings_few [] r e s t id n is h few = let once = h.entered.once id in omega (arith, few, once)
takings_few (l ∷ ls) r e s t id n is h few =
    let (u, first, rest) = bind-is (kernel.step s l) (λ (v : OneKernel). replay v ls) t is in
    let k = taken_by r e s u l id (taken l) first h refl in
    let more = takings_few ls (λ i. r i + reception i l) (λ i. e i + entry i s u) u t id (n + taking id l) rest (after_step r e s u l first h).sound (omega (arith, few, k)) in
    omega (arith, more)

pub taken_once : TakenOnce
taken_once b ls s id valid is = let k = takings_few ls (λ i. 0) (λ i. 0) (start b) s id 0 is (start-sound b valid) (omega arith) in omega (arith, k)
