-- Each group keeps that each message stands once.
use Rattle.dm_law_rule.proofs.Names.{◌≡◌, ℕ, ◌+◌, ◌≤◌, ◌==◌, Bool, true, false, List, [], ◌∷◌, refl, ap, ◌∙◌, sym, subst, arith, length, inl, inr, if◌then◌else◌, Option, None, Some, cases_Bool, nat_tests, Pid, MsgId, MessageKind, plain_kind}
use Rattle.dm_law_rule.proofs.Names.{id_eq, PlainMessage, Label, bind, OneKernel, Line, Load, View, Told, view_after, Point, label_of, kernel_after, moved, seen, after_line, after, Part, Says, Transmits, Spelled, lines_of, puts, goes_out}
use Rattle.dm_law_rule.proofs.Names.{packet_line, behind, spelled, Spot, Untaken, ids_at, entry, in_bag, reception, id_eq-is, Sound, bind-is, after_step, false≢true, pid_of, id_of, at_machine, is_kernels, false_from_ne_true, eqb-true}
use Rattle.dm_onekernel.specs.Step as kernel
use Rattle.dm_law_rule.specs.View as view
use Rattle.dm_law_rule.proofs.Hushed.{is_put, hushed}
use Rattle.dm_law_rule.proofs.Letters.{letters, letters_step, letter_of, not_kernels}
use Rattle.dm_law_rule.proofs.Lines.{Bag, hidden, hidden_off, having, Stands, Stands-same, Stands-stays, Stands-put-home, Stands-put-away, untold_tells, pair_keeps, hidden_at}
use Rattle.dm_law_rule.proofs.Seen.{Stands-about}
use Rattle.dm_law_rule.proofs.Bags.{BagStep}
pub use Rattle.std.proofs.lemmas.Bool.{false_from_ne_true as not_true}

-- where a group has come: what is under way, but a message that is still to be routed, stands once
pub record State (pend : Option MsgId) (pt : Point) : Type 0 where
  pub r : MsgId → ℕ
  pub e : MsgId → ℕ
  pub sound : Sound r e pt.kernel
  -- whom the kernels' own messages are for that are under way
  pub own : Bag
  pub stands : Stands (hidden pend (letters own pt.kernel.bag)) pt.view
  pub untold : (i : MsgId) → e i ≡ 0 → is_kernels i ≡ false → pt.view.told i ≡ None
  pub numbered : (m n : ℕ) → pt.view.count m ≤ n → pt.view.told (id_of (pid_of m 0) n) ≡ None
  pub pending : (j : MsgId) → pend ≡ Some j → pt.view.told j ≡ None
  pub there : (j : MsgId) → pend ≡ Some j → (x : PlainMessage) × (pt.kernel.bag j ≡ Some x)

-- a kernel's own numbers stay untold
pub numbered_as : (v w : View) → w.count ≡ v.count → w.told ≡ v.told → ((m n : ℕ) → v.count m ≤ n → v.told (id_of (pid_of m 0) n) ≡ None) → (m n : ℕ) → w.count m ≤ n → w.told (id_of (pid_of m 0) n) ≡ None
numbered_as v w c t h m n le = ap (λ (f : MsgId → Option Told). f (id_of (pid_of m 0) n)) t ∙ h m n (subst (λ (f : ℕ → ℕ). f m ≤ n) c le)

-- a step of the kernel that one message goes by, and one enters
pub by_label : (pt : Point) (l : Label) (s : OneKernel) (out put : Option MsgId) (h : State None pt) → kernel.step pt.kernel l ≡ Some s → ((j : MsgId) → out ≡ Some j → is_kernels j ≡ false) → BagStep h.e pt.kernel s out put
    → Stands (hidden out (letters h.own pt.kernel.bag)) (view_after pt.view (Line.Label l)) → ((i : MsgId) → (view_after pt.view (Line.Label l)).told i ≡ pt.view.told i) → State put (moved pt (Line.Label l) s)
by_label pt l s out put h is gone bag stands told =
    let a = after_step h.r h.e pt.kernel s l is h.sound in
    let put_in : (j : MsgId) → put ≡ Some j → is_kernels j ≡ false = λ j k. (let (x, there) = bag.there j k in not_kernels (λ i. h.r i + reception i l) (λ i. h.e i + entry i pt.kernel s) s j x there a.sound) in
    let hush = hushed pt.view (Line.Label l) refl in
    record {
      own = h.own;
      numbered = numbered_as pt.view (view_after pt.view (Line.Label l)) hush.count hush.told h.numbered;
      r = λ i. h.r i + reception i l;
      e = λ i. h.e i + entry i pt.kernel s;
      sound = a.sound;
      stands = Stands-about (hidden put (letters h.own s.bag)) (view_after pt.view (Line.Label l)) (seen pt.kernel pt.view (Line.Label l)).topic
          (Stands-same (hidden out (letters h.own pt.kernel.bag)) (hidden put (letters h.own s.bag)) (view_after pt.view (Line.Label l)) (letters_step h.e h.own pt.kernel s out put bag gone put_in) stands);
      untold = λ i zero_ other. told i ∙ h.untold i (omega (arith, zero_)) other;
      pending = λ j k. told j ∙ h.untold j (bag.fresh j k) (put_in j k);
      there = bag.there;
    }

-- a line that is no step and no put
pub by_line : (pend : Option MsgId) (pt : Point) (l : Line) → is_put l ≡ false → (h : State pend pt) → Stands (hidden pend (letters h.own pt.kernel.bag)) (view_after pt.view l) → ((i : MsgId) → (view_after pt.view l).told i ≡ pt.view.told i) → State pend (moved pt l pt.kernel)
by_line pend pt l quiet h stands told = record {
  own = h.own;
  numbered = (let hush = hushed pt.view l quiet in numbered_as pt.view (view_after pt.view l) hush.count hush.told h.numbered);
  r = h.r;
  e = h.e;
  sound = h.sound;
  stands = Stands-about (hidden pend (letters h.own pt.kernel.bag)) (view_after pt.view l) (seen pt.kernel pt.view l).topic stands;
  untold = λ i zero_ other. told i ∙ h.untold i zero_ other;
  pending = λ j k. told j ∙ h.pending j k;
  there = h.there;
}

-- the first part is a line
pub record SaysNext (pt : Point) (l : Line) (ps : List Part) (w : Spelled) : Type 0 where
  pub s : OneKernel
  pub is : kernel_after pt.kernel (label_of l) ≡ Some s
  pub rest : Spelled
  pub more : spelled (moved pt l s) ps ≡ Some rest
  pub point : rest.point ≡ w.point

line_is : (pt : Point) (l : Line) (next : Point) → after pt (l ∷ []) ≡ Some next → (s : OneKernel) × (kernel_after pt.kernel (label_of l) ≡ Some s) × (moved pt l s ≡ next)
line_is pt l next e =
    let (mid, first, last) = bind-is (after_line pt l) (λ n. after n []) next e in
    let (s, is, rest) = bind-is (kernel_after pt.kernel (label_of l)) (λ s. Some (moved pt l s)) mid first in
    (s, is, (let f : moved pt l s ≡ mid = cc in f) ∙ (let g : mid ≡ next = cc in g))

pub says_next : (pt : Point) (l : Line) (ps : List Part) (w : Spelled) → spelled pt (Says l ∷ ps) ≡ Some w → SaysNext pt l ps w
says_next pt l ps w e =
    let (next, took, rest) = bind-is (after pt (l ∷ [])) (λ n. bind (spelled n ps) (λ v. Some (behind (l ∷ []) v))) w e in
    let (v, more, last) = bind-is (spelled next ps) (λ v. Some (behind (l ∷ []) v)) w rest in
    let (s, is, same) = line_is pt l next took in
    record { s = s; is = is; rest = v; more = ap (λ n. spelled n ps) same ∙ more; point = ap (λ (x : Spelled). x.point) (let f : behind (l ∷ []) v ≡ w = cc in f) }

-- the first part is a packet
pub record SentNext (pt : Point) (a b : ℕ) (l : Load) (ps : List Part) (w : Spelled) : Type 0 where
  pub rest : Spelled
  pub more : spelled (moved pt (packet_line pt.view a b l) pt.kernel) ps ≡ Some rest
  pub point : rest.point ≡ w.point

pub transmits_next : (pt : Point) (a b : ℕ) (l : Load) (ps : List Part) (w : Spelled) → spelled pt (Transmits a b l ∷ ps) ≡ Some w → SentNext pt a b l ps w
transmits_next pt a b l ps w e = search (arith, says_next)

-- nothing more is said
pub said : (pt : Point) (w : Spelled) → spelled pt [] ≡ Some w → pt ≡ w.point
said pt w e = let f : record { lines = []; point = pt } ≡ w = cc in ap (λ (x : Spelled). x.point) f

pub State-at : (pend : Option MsgId) (pt next : Point) → pt ≡ next → State pend pt → State pend next
State-at pend pt next e h = subst (State pend) e h

-- a packet moves no message
pub packet_off : (v : View) (a b k : ℕ) (l : Load) (z : Spot) → ids_at (view_after v (Line.Packet a b k l)) z ≡ ids_at v z
packet_off v a b k l (Untaken c d) = pair_keeps v.pair a b _ refl c d
packet_off v a b k l _ = refl

pub by_packet : (pend : Option MsgId) (pt : Point) (a b k : ℕ) (l : Load) → State pend pt → State pend (moved pt (Line.Packet a b k l) pt.kernel)
by_packet pend pt a b k l h =
    by_line pend pt (Line.Packet a b k l) refl h (Stands-stays (hidden pend (letters h.own pt.kernel.bag)) pt.view (view_after pt.view (Line.Packet a b k l)) (λ z. packet_off pt.view a b k l z) (λ i. refl) h.stands) (λ i. refl)

-- each pair has taken at most what was routed, and a machine's pair with itself all of it
pub record PairsFit (v : View) : Type 0 where
  pub within : (a b : ℕ) → (v.pair a b).taken ≤ length (v.pair a b).ids
  pub home : (a : ℕ) → (v.pair a a).taken ≡ length (v.pair a a).ids

pub having_back : (bag : Bag) (i : MsgId) (x : Pid) → bag i ≡ Some x → (j : MsgId) → bag j ≡ having i x (hidden (Some i) bag) j
having_back bag i x e j = elim (cases_Bool (id_eq i j)) [
  | inl same ↦ let is : i ≡ j = id_eq-is i j same in sym (ap bag is) ∙ e ∙ sym (ap (λ (c : Bool). if c then Some x else hidden (Some i) bag j) same)
  | inr apart ↦ sym (hidden_off bag i j apart) ∙ sym (ap (λ (c : Bool). if c then Some x else hidden (Some i) bag j) apart)
]

pub put_told_off : (v : View) (a b : ℕ) (i j : MsgId) (k : MessageKind) (q : Pid) → id_eq i j ≡ false → (view.after_put v a b i k q).told j ≡ v.told j
put_told_off v a b i j k q apart = ap (λ (c : Bool). if c then Some (view.first_told (v.told i) (record { kind = k; receiver = q; about = v.topic })) else v.told j) apart

pub put_stands : (bag : Bag) (v : View) (b : ℕ) (i : MsgId) (k : MessageKind) (q : Pid) (c : Bool) → (v.acting == b) ≡ c → bag i ≡ None → (view.first_told (v.told i) (record { kind = k; receiver = q; about = v.topic })).receiver ≡ q
    → PairsFit v → Stands bag v → Stands (having i q bag) (view.after_put v v.acting b i k q)
put_stands bag v b i k q true is none tells fits h =
    subst (λ m. Stands (having i q bag) (view.after_put v v.acting m i k q)) (eqb-true v.acting b is)
    (Stands-put-home bag v v.acting i k q none tells (fits.home v.acting) h)
put_stands bag v b i k q false is none tells fits h = Stands-put-away bag v v.acting b i k q is none tells (fits.within v.acting b) h

pub numbered_put : (v : View) (a b : ℕ) (i : MsgId) (k : MessageKind) (q : Pid) → is_kernels i ≡ false → v.told i ≡ None → ((m n : ℕ) → v.count m ≤ n → v.told (id_of (pid_of m 0) n) ≡ None)
    → (m n : ℕ) → (view.after_put v a b i k q).count m ≤ n → (view.after_put v a b i k q).told (id_of (pid_of m 0) n) ≡ None
numbered_put v a b i k q other untold h m n le =
    -- a put of a message that is no kernel's own leaves the kernels' counts, and what is told of theirs
    let not_own : view.is_own i (v.told i) ≡ false = grind (arith, nat_tests) in
    let kernels_id : id_eq i (id_of (pid_of m 0) n) ≡ false = false_from_ne_true (id_eq i (id_of (pid_of m 0) n)) (λ e. let is = id_eq-is i (id_of (pid_of m 0) n) e in false≢true (sym other ∙ ap is_kernels is)) in
    put_told_off v a b i (id_of (pid_of m 0) n) k q kernels_id ∙ h m n (subst (λ (f : ℕ → ℕ). f m ≤ n) (ap (λ (c : Bool). if c then at_machine v.count i.from.home (v.count i.from.home + 1) else v.count) not_own) le)

pub by_put : (pt : Point) (b : ℕ) (i : MsgId) (x : PlainMessage) → pt.kernel.bag i ≡ Some x → PairsFit pt.view → State (Some i) pt → State None (moved pt (Line.Put pt.view.acting b i (plain_kind x.what) x.to) pt.kernel)
by_put pt b i x is fits h =
    let not_same : (e : MsgId → ℕ) (i j : MsgId) → 1 ≤ e i → e j ≡ 0 → id_eq i j ≡ false =
    λ e i j least zero_. false_from_ne_true (id_eq i j) (λ k. let is : i ≡ j = id_eq-is i j k in let z : e i ≡ 0 = ap e is ∙ zero_ in absurd (omega (arith, least, z))) in
    let in_bag_entered : (r e : MsgId → ℕ) (s : OneKernel) (i : MsgId) (x : PlainMessage) → s.bag i ≡ Some x → Sound r e s → 1 ≤ e i =
    λ r e s i x is h. let f = h.entered.fewer i in let g : in_bag (s.bag i) ≡ 1 = ap in_bag is in omega (arith, f, g) in
    let l = Line.Put pt.view.acting b i (plain_kind x.what) x.to in
    let v = pt.view in
    let bag = letters h.own pt.kernel.bag in
    let untold : v.told i ≡ None = h.pending i refl in
    let there = letter_of h.r h.e h.own pt.kernel i x is h.sound in
    record {
      own = h.own;
      numbered = numbered_put v v.acting b i (plain_kind x.what) x.to (not_kernels h.r h.e pt.kernel i x is h.sound) untold h.numbered;
      r = h.r;
      e = h.e;
      sound = h.sound;
      stands = Stands-same (having i x.to (hidden (Some i) bag)) bag (view_after v l) (having_back bag i x.to there) (put_stands (hidden (Some i) bag) v b i (plain_kind x.what) x.to (v.acting == b) refl (hidden_at bag i) (untold_tells (v.told i) (record { kind = plain_kind x.what; receiver = x.to; about = v.topic }) untold) fits h.stands);
      untold = λ j zero_ other. put_told_off v v.acting b i j (plain_kind x.what) x.to (not_same h.e i j (in_bag_entered h.r h.e pt.kernel i x is h.sound) zero_) ∙ h.untold j zero_ other;
      pending = λ j k. cc;
      there = λ j k. cc;
    }

-- a message is put, and goes out where it may: what a put and packets keep is kept
pub record PutNext (P : Point → Type 0) (ps : List Part) (w : Spelled) : Type 0 where
  pub next : Point
  pub stands : P next
  pub rest : Spelled
  pub more : spelled next ps ≡ Some rest
  pub point : rest.point ≡ w.point

abbrev pub PacketsKeep : (Point → Type 0) → Type 0
PacketsKeep P = (q : Point) (a b k : ℕ) (l : Load) → P q → P (moved q (Line.Packet a b k l) q.kernel)

packets_or_none : (P : Point → Type 0) (keep : PacketsKeep P) (v : View) (b : ℕ) (ls : List Line) (ps : List Part) (w : Spelled) (mid : Point) (c d : Bool) → P mid
    → bind (after mid (if c then [] else if d then packet_line v v.acting b (Load.Data (length (v.pair v.acting b).ids)) ∷ [] else [])) (λ n. bind (spelled n ps) (λ r. Some (behind ls r))) ≡ Some w
    → PutNext P ps w
packets_or_none P keep v b ls ps w mid true d h e =
    let (r, more, last) = bind-is (spelled mid ps) (λ r. Some (behind ls r)) w e in
    let f : behind ls r ≡ w = cc in record { next = mid; stands = h; rest = r; more = more; point = ap (λ (t : Spelled). t.point) f }
packets_or_none P keep v b ls ps w mid false false h e =
    let (r, more, last) = bind-is (spelled mid ps) (λ r. Some (behind ls r)) w e in
    let f : behind ls r ≡ w = cc in record { next = mid; stands = h; rest = r; more = more; point = ap (λ (t : Spelled). t.point) f }
packets_or_none P keep v b ls ps w mid false true h e =
    let l = packet_line v v.acting b (Load.Data (length (v.pair v.acting b).ids)) in
    let (n, took, rest) = bind-is (after mid (l ∷ [])) (λ n. bind (spelled n ps) (λ r. Some (behind ls r))) w e in
    let (r, more, last) = bind-is (spelled n ps) (λ r. Some (behind ls r)) w rest in
    let (s, is, same_) = line_is mid l n took in
    let f : behind ls r ≡ w = cc in
    let at : moved mid l mid.kernel ≡ n = ap (moved mid l) (let kept : mid.kernel ≡ s = let k = is in cc in kept) ∙ same_ in
    record { next = n; stands = subst P at (keep mid v.acting b (length (v.pair v.acting b).wire) (Load.Data (length (v.pair v.acting b).ids)) h); rest = r; more = more; point = ap (λ (t : Spelled). t.point) f }

pub puts_next : (P : Point → Type 0) (keep : PacketsKeep P) (pt : Point) (part : Part) (b : ℕ) (i : MsgId) (k : MessageKind) (q : Pid) (ps : List Part) (w : Spelled) → lines_of pt part ≡ Some (puts pt.view b i k q)
    → P (moved pt (Line.Put pt.view.acting b i k q) pt.kernel) → spelled pt (part ∷ ps) ≡ Some w → PutNext P ps w
puts_next P keep pt part b i k q ps w lines h e =
    let whole : bind (Some (puts pt.view b i k q)) (λ ls. bind (after pt ls) (λ n. bind (spelled n ps) (λ r. Some (behind ls r)))) ≡ Some w = ap (λ o. bind o (λ ls. bind (after pt ls) (λ n. bind (spelled n ps) (λ r. Some (behind ls r))))) (sym lines) ∙ e in
    packets_or_none P keep pt.view b (puts pt.view b i k q) ps w (moved pt (Line.Put pt.view.acting b i k q) pt.kernel) (pt.view.acting == b) (goes_out (pt.view.pair pt.view.acting b)) h whole
