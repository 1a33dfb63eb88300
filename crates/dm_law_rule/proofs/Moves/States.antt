-- What migration says keeps that each message stands once: the kernels' own messages come and go, and messages go on.
use Rattle.dm_law_rule.proofs.Names.{◌≡◌, ℕ, suc, ◌+◌, ◌≤◌, ◌==◌, Bool, true, false, List, ◌∷◌, refl, ap, ◌∙◌, sym, subst, arith, inl, inr, if◌then◌else◌, Option, None, Some, cases_Bool, false≢true, nat_tests, Pid, pid_of, MsgId, MessageKind}
use Rattle.dm_law_rule.proofs.Names.{id_eq, id_of, PlainMessage, Line, Load, at_machine, View, Told, view_after, handled_first, receiver_of, is_kernels, own_id, to_of, Point, moved, seen, Inbox, times, standing, id_eq-is, id_eq-same, Sound}
use Rattle.dm_law_rule.proofs.Names.{false_from_ne_true, none_some}
use Rattle.dm_law_rule.specs.View as view
use Rattle.dm_law_rule.proofs.Once.{one_of}
use Rattle.dm_law_rule.proofs.Lines.{Bag, hidden, having, Stands, Stands-same, Stands-stays, Stands-handled, untold_tells, having_off}
use Rattle.dm_law_rule.proofs.Letters.{letters, letters_own, letters_bag}
use Rattle.dm_law_rule.proofs.Seen.{Stands-about}
use Rattle.dm_law_rule.proofs.Hushed.{is_put, hushed}
use Rattle.dm_law_rule.proofs.States.{State, PairsFit, put_stands, put_told_off, numbered_as, packet_off}
use Rattle.dm_law_rule.proofs.Moves.Lists.{without_all, without_off, under_way, first_off}

-- a kernel's own message goes
pub hidden_letters : (own : Bag) (bag : MsgId → Option PlainMessage) (i : MsgId) → is_kernels i ≡ true → (j : MsgId) → letters (hidden (Some i) own) bag j ≡ hidden (Some i) (letters own bag) j
hidden_letters own bag i k j = elim (cases_Bool (id_eq i j)) [
  | inl same ↦
      let is : i ≡ j = id_eq-is i j same in
      letters_own (hidden (Some i) own) bag j (subst (λ (x : MsgId). is_kernels x ≡ true) is k) ∙ ap (λ (c : Bool). if c then None else own j) same ∙ sym (ap (λ (c : Bool). if c then None else letters own bag j) same)
  | inr apart ↦
      ap (λ (x : Option Pid). if is_kernels j then x else to_of (bag j)) (ap (λ (c : Bool). if c then None else own j) apart) ∙ sym (ap (λ (c : Bool). if c then None else letters own bag j) apart)
]

-- the message at the front of the inbox stands there
pub front_one : (v : View) (m : ℕ) (i : MsgId) (is : List MsgId) → v.inbox m ≡ i ∷ is → 1 ≤ standing v i (Inbox m)
front_one v m i is front =
    let b : one_of i i ≡ 1 = ap (λ (c : Bool). if c then 1 else 0) (id_eq-same i) in omega (arith, ap (times i) front, b)

pub inbox_way : (pt : Point) (m : ℕ) (i : MsgId) (is : List MsgId) (h : State None pt) → pt.view.inbox m ≡ i ∷ is → (q : Pid) × (letters h.own pt.kernel.bag i ≡ Some q)
inbox_way pt m i is h front = under_way (letters h.own pt.kernel.bag i) (standing pt.view i) (Inbox m) (front_one pt.view m i is front) (h.stands.kept i)

pub front_way : (pt : Point) (i : MsgId) (is : List MsgId) (h : State None pt) → pt.view.inbox pt.view.acting ≡ i ∷ is → (q : Pid) × (letters h.own pt.kernel.bag i ≡ Some q)
front_way pt i is h front = inbox_way pt pt.view.acting i is h front

-- one that isn't in the bag is a kernel's own
pub kernels_by : (own : Bag) (bag : MsgId → Option PlainMessage) (i : MsgId) (q : Pid) (b : Bool) → is_kernels i ≡ b → bag i ≡ None → letters own bag i ≡ Some q → b ≡ true
kernels_by own bag i q true k none is = refl
kernels_by own bag i q false k none is = absurd (let f : None ≡ Some q = sym (letters_bag own bag i k ∙ ap to_of none) ∙ is in cc)

pub front_kernels : (pt : Point) (i : MsgId) (is : List MsgId) → State None pt → pt.view.inbox pt.view.acting ≡ i ∷ is → pt.kernel.bag i ≡ None → is_kernels i ≡ true
front_kernels pt i is h front none = let (q, way) = front_way pt i is h front in kernels_by h.own pt.kernel.bag i q (is_kernels i) refl none way

-- a line handles a kernel's own message at the front of the inbox, and no other moves
pub by_own : (pt : Point) (l : Line) (i : MsgId) (is : List MsgId) → is_put l ≡ false → (h : State None pt) → pt.view.inbox pt.view.acting ≡ i ∷ is → is_kernels i ≡ true
    → (Stands (hidden (Some i) (letters h.own pt.kernel.bag)) (handled_first pt.view) → Stands (hidden (Some i) (letters h.own pt.kernel.bag)) (view_after pt.view l)) → State None (moved pt l pt.kernel)
by_own pt l i is quiet h front mine go =
    let hush = hushed pt.view l quiet in
    let bag = letters h.own pt.kernel.bag in
    let first : Stands (hidden (Some i) bag) (handled_first pt.view) = Stands-handled bag pt.view (handled_first pt.view) i is front (first_off pt.view i is front) (λ j. refl) h.stands in
    record {
      r = h.r;
      e = h.e;
      sound = h.sound;
      own = hidden (Some i) h.own;
      stands = Stands-about (letters (hidden (Some i) h.own) pt.kernel.bag) (view_after pt.view l) (seen pt.kernel pt.view l).topic (Stands-same (hidden (Some i) bag) (letters (hidden (Some i) h.own) pt.kernel.bag) (view_after pt.view l) (hidden_letters h.own pt.kernel.bag i mine) (go first));
      untold = λ j zero_ other. ap (λ (f : MsgId → Option Told). f j) hush.told ∙ h.untold j zero_ other;
      numbered = numbered_as pt.view (view_after pt.view l) hush.count hush.told h.numbered;
      pending = λ j k. cc;
      there = λ j k. cc;
    }

-- where messages are on the way from their lists to their puts
pub record Between (gone : List MsgId) (pt : Point) : Type 0 where
  pub r : MsgId → ℕ
  pub e : MsgId → ℕ
  pub sound : Sound r e pt.kernel
  pub own : Bag
  pub stands : Stands (without_all gone (letters own pt.kernel.bag)) pt.view
  pub untold : (i : MsgId) → e i ≡ 0 → is_kernels i ≡ false → pt.view.told i ≡ None
  pub numbered : (m n : ℕ) → pt.view.count m ≤ n → pt.view.told (id_of (pid_of m 0) n) ≡ None
  pub way : (i : MsgId) → 1 ≤ times i gone → (q : Pid) × (letters own pt.kernel.bag i ≡ Some q) × (receiver_of (pt.view.told i) ≡ Some q)
  pub once : (i : MsgId) → times i gone ≤ 1

pub between_packet : (gone : List MsgId) (q : Point) (a b k : ℕ) (l : Load) → Between gone q → Between gone (moved q (Line.Packet a b k l) q.kernel)
between_packet gone q a b k l h = record {
  r = h.r;
  e = h.e;
  sound = h.sound;
  own = h.own;
  stands = Stands-stays (without_all gone (letters h.own q.kernel.bag)) q.view (view_after q.view (Line.Packet a b k l)) (λ z. packet_off q.view a b k l z) (λ i. refl) h.stands;
  untold = h.untold;
  numbered = h.numbered;
  way = h.way;
  once = h.once;
}

-- the first of them is put again
told_same : (o : Option Told) (t u : Told) → o ≡ Some t → view.first_told o u ≡ t
told_same None t u e = none_some t e
told_same (Some s) t u e = let f : s ≡ t = cc in f

pub not_first : (i : MsgId) (o : Option Told) (t : Told) → o ≡ Some t → view.is_own i o ≡ false
not_first i None t e = none_some t e
not_first i (Some s) t e = refl

pub again_told : (v : View) (a b : ℕ) (i : MsgId) (t : Told) → v.told i ≡ Some t → (j : MsgId) → (view.after_put v a b i t.kind t.receiver).told j ≡ v.told j
again_told v a b i t is j = elim (cases_Bool (id_eq i j)) [
  | inl same ↦
      ap (λ (c : Bool). if c then Some (view.first_told (v.told i) (record { kind = t.kind; receiver = t.receiver; about = v.topic })) else v.told j) same
      ∙ ap Some (told_same (v.told i) t (record { kind = t.kind; receiver = t.receiver; about = v.topic }) is) ∙ sym is ∙ ap v.told (id_eq-is i j same)
  | inr apart ↦ put_told_off v a b i j t.kind t.receiver apart
]

again_bag : (i : MsgId) (is : List MsgId) (q : Pid) (bag : Bag) → bag i ≡ Some q → times i is ≡ 0 → (j : MsgId) → without_all is bag j ≡ having i q (without_all (i ∷ is) bag) j
again_bag i is q bag there none j = elim (cases_Bool (id_eq i j)) [
  | inl same ↦
      subst (λ (x : MsgId). without_all is bag x ≡ Some q) (id_eq-is i j same) (without_off is bag i none ∙ there) ∙ sym (ap (λ (c : Bool). if c then Some q else without_all (i ∷ is) bag j) same)
  | inr apart ↦ sym (ap (λ (c : Bool). if c then None else without_all is bag j) apart) ∙ sym (having_off i q (without_all (i ∷ is) bag) j apart)
]

pub again : (pt : Point) (b : ℕ) (i : MsgId) (is : List MsgId) (t : Told) → PairsFit pt.view → pt.view.told i ≡ Some t → Between (i ∷ is) pt → Between is (moved pt (Line.Put pt.view.acting b i t.kind t.receiver) pt.kernel)
again pt b i is t fits told h =
    let v = pt.view in
    let l = Line.Put v.acting b i t.kind t.receiver in
    let bag = letters h.own pt.kernel.bag in
    let mine : one_of i i ≡ 1 = ap (λ (c : Bool). if c then 1 else 0) (id_eq-same i) in
    let (q, there, tells) = h.way i (omega (arith, mine)) in
    let to : t.receiver ≡ q = (let f : Some t.receiver ≡ Some q = sym (ap receiver_of told) ∙ tells in cc) in
    let none : times i is ≡ 0 = (let k = h.once i in omega (arith, mine, k)) in
    let same : (view.first_told (v.told i) (record { kind = t.kind; receiver = t.receiver; about = v.topic })).receiver ≡ t.receiver = ap (λ (u : Told). u.receiver) (told_same (v.told i) t (record { kind = t.kind; receiver = t.receiver; about = v.topic }) told) in
    let put = put_stands (without_all (i ∷ is) bag) v b i t.kind t.receiver (v.acting == b) refl (ap (λ (c : Bool). if c then None else without_all is bag i) (id_eq-same i)) same fits h.stands in
    let count : (view_after v l).count ≡ v.count = ap (λ (c : Bool). if c then at_machine v.count i.from.home (v.count i.from.home + 1) else v.count) (not_first i (v.told i) t told) in
    record {
      r = h.r;
      e = h.e;
      sound = h.sound;
      own = h.own;
      stands = Stands-same (having i t.receiver (without_all (i ∷ is) bag)) (without_all is bag) (view_after v l) (again_bag i is t.receiver bag (there ∙ ap Some (sym to)) none) put;
      untold = λ j zero_ other. again_told v v.acting b i t told j ∙ h.untold j zero_ other;
      numbered = λ m n le. again_told v v.acting b i t told (id_of (pid_of m 0) n) ∙ h.numbered m n (subst (λ (f : ℕ → ℕ). f m ≤ n) count le);
      way = λ j least. (let (p, x, y) = h.way j (omega (arith, least)) in (p, x, ap receiver_of (again_told v v.acting b i t told j) ∙ y));
      once = λ j. (let k = h.once j in omega (arith, k));
    }

own_bag : (own : Bag) (bag : MsgId → Option PlainMessage) (i : MsgId) (q : Pid) → is_kernels i ≡ true → (j : MsgId) → letters (having i q own) bag j ≡ having i q (letters own bag) j
own_bag own bag i q k j = elim (cases_Bool (id_eq i j)) [
  | inl same ↦
      let is : i ≡ j = id_eq-is i j same in
      letters_own (having i q own) bag j (subst (λ (x : MsgId). is_kernels x ≡ true) is k) ∙ ap (λ (c : Bool). if c then Some q else own j) same ∙ sym (ap (λ (c : Bool). if c then Some q else letters own bag j) same)
  | inr apart ↦
      ap (λ (x : Option Pid). if is_kernels j then x else to_of (bag j)) (ap (λ (c : Bool). if c then Some q else own j) apart) ∙ sym (ap (λ (c : Bool). if c then Some q else letters own bag j) apart)
]

other_number : (a c m n : ℕ) → suc c ≤ n → id_eq (id_of (pid_of a 0) c) (id_of (pid_of m 0) n) ≡ false
other_number a c m n le = false_from_ne_true (id_eq (id_of (pid_of a 0) c) (id_of (pid_of m 0) n)) (λ e. let f : c ≡ n = ap (λ (i : MsgId). i.n) (id_eq-is (id_of (pid_of a 0) c) (id_of (pid_of m 0) n) e) in absurd (omega (arith, le, f)))

other_home : (a c m n : ℕ) → (a == m) ≡ false → id_eq (id_of (pid_of a 0) c) (id_of (pid_of m 0) n) ≡ false
other_home a c m n off = false_from_ne_true (id_eq (id_of (pid_of a 0) c) (id_of (pid_of m 0) n)) (λ e. let f : a ≡ m = ap (λ (i : MsgId). i.from.home) (id_eq-is (id_of (pid_of a 0) c) (id_of (pid_of m 0) n) e) in absurd (let g : (a == m) ≡ true = grind (arith, nat_tests) in false≢true (sym off ∙ g)))

own_counts : (v : View) (a b : ℕ) (k : MessageKind) (q : Pid) → v.told (own_id v) ≡ None → (view.after_put v a b (own_id v) k q).count ≡ at_machine v.count v.acting (v.count v.acting + 1)
own_counts v a b k q none = ap (λ (o : Option Told). if view.is_own (own_id v) o then at_machine v.count v.acting (v.count v.acting + 1) else v.count) none

pub own_numbered : (v : View) (a b : ℕ) (k : MessageKind) (q : Pid) → v.told (own_id v) ≡ None → ((m n : ℕ) → v.count m ≤ n → v.told (id_of (pid_of m 0) n) ≡ None)
    → (m n : ℕ) → (view.after_put v a b (own_id v) k q).count m ≤ n → (view.after_put v a b (own_id v) k q).told (id_of (pid_of m 0) n) ≡ None
own_numbered v a b k q none h m n le = search (arith, own_counts, other_number, put_told_off, other_home)

pub by_own_put : (pt : Point) (b : ℕ) (k : MessageKind) (q : Pid) → PairsFit pt.view → State None pt → State None (moved pt (Line.Put pt.view.acting b (own_id pt.view) k q) pt.kernel)
by_own_put pt b k q fits h =
    let v = pt.view in
    let i = own_id v in
    let bag = letters h.own pt.kernel.bag in
    let untold : v.told i ≡ None = h.numbered v.acting (v.count v.acting) (omega arith) in
    let none : bag i ≡ None = (elim (bag i) as (λ o. bag i ≡ o → o ≡ None)
    [ None ↦ λ is. refl | Some q ↦ λ is. absurd (let f : None ≡ Some q = sym (ap receiver_of untold) ∙ h.stands.told i q is in cc) ]) refl in
    -- the next message of the acting machine's kernel
    let own_kernels : (v : View) → is_kernels (own_id v) ≡ true = λ v. refl in
    record {
      r = h.r;
      e = h.e;
      sound = h.sound;
      own = having i q h.own;
      stands = Stands-same (having i q bag) (letters (having i q h.own) pt.kernel.bag) (view_after v (Line.Put v.acting b i k q)) (own_bag h.own pt.kernel.bag i q (own_kernels v))
          (put_stands bag v b i k q (v.acting == b) refl none (untold_tells (v.told i) (record { kind = k; receiver = q; about = v.topic }) untold) fits h.stands);
      untold = λ j zero_ other. put_told_off v v.acting b i j k q (false_from_ne_true (id_eq (own_id v) j) (λ e. false≢true (sym other ∙ sym (ap is_kernels (id_eq-is (own_id v) j e)) ∙ own_kernels v))) ∙ h.untold j zero_ other;
      numbered = own_numbered v v.acting b k q untold h.numbered;
      pending = λ j x. cc;
      there = λ j x. cc;
    }
