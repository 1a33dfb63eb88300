-- What is carried between groups: each forwarding address is held back by a predecessor, or by the word that will remove it.
use Rattle.dm_law_moves.proofs.Names.{◌≡◌, ℕ, ◌<◌, ◌==◌, ◌&&◌, ◌||◌, Bool, true, false, refl, ap, ◌∙◌, sym, subst, inl, inr, arith, nat_tests, if◌then◌else◌, Option, None, Some, cases_Bool, Pid, pid_of, pid_eq, pid_eq-is, MsgId, MessageKind}
use Rattle.dm_law_moves.proofs.Names.{id_eq, id_eq-is, at_record, at_record_off, parts, eq_is, View, Told, About, Of, Known, Unknown, Incoming, Forward, after_put, Spot, standing, times, sort_of, is_calloff, PairsFit, about_off, put_spots}
use Rattle.dm_law_moves.proofs.Names.{put_there, put_spot, put_at, put_told_off, tells_end}
use Rattle.dm_law_rule.specs.View as view
use Rattle.dm_law_moves.proofs.Ends.Parts.{Somewhere, Extends, Smooth, first_kept, stands_as}

-- what removes a forwarding address of machine m to machine k: a burial, for m; or m's word that it has called the move off, for k, to
-- which m is a predecessor from then on
pub data Clears (m k : ℕ) (i : MsgId) (t : Told) : Type 0 where
  Buries : t.kind ≡ MessageKind.Bury → t.receiver ≡ pid_of m 0 → Clears m k i t
  CallsOff : t.kind ≡ MessageKind.CallOff → t.receiver ≡ pid_of k 0 → i.from ≡ pid_of m 0 → Clears m k i t

-- such messages are of these kinds, and for kernels
abbrev pub clears : MessageKind → Bool
clears k = is_calloff k || tells_end (sort_of k)

abbrev pub is_word : Told → Bool
is_word t = clears t.kind && (t.receiver.num == 0)

pub clears_word : (m k : ℕ) (i : MsgId) (t : Told) → Clears m k i t → is_word t ≡ true
clears_word m k i t (Buries is to) = ap (λ (x : MessageKind). clears x && (t.receiver.num == 0)) is ∙ ap (λ (q : Pid). q.num == 0) to
clears_word m k i t (CallsOff is to from) = ap (λ (x : MessageKind). clears x && (t.receiver.num == 0)) is ∙ ap (λ (q : Pid). q.num == 0) to

-- one of them stands somewhere
pub record Word (v : View) (p : Pid) (m k : ℕ) : Type 0 where
  pub message : MsgId
  pub told : Told
  pub is : v.told message ≡ Some told
  pub about : told.about ≡ Of p
  pub clears : Clears m k message told
  pub stands : Somewhere v message

pub data IsKept (v : View) (p : Pid) (m k : ℕ) : Type 0 where
  ByPred : v.preds k p m ≡ true → IsKept v p m k
  ByWord : Word v p m k → IsKept v p m k

pub record Preds (n : ℕ) (v : View) : Type 0 where
  pub back : (m k c : ℕ) (p : Pid) → v.known m p ≡ Forward k c → IsKept v p m k
  pub others : (m : ℕ) (p : Pid) → v.preds m p m ≡ false
  pub none : (m r : ℕ) (p : Pid) → v.known m p ≡ Unknown → v.preds m p r ≡ false
  pub within : (m r : ℕ) (p : Pid) → v.preds m p r ≡ true → r < n
  pub comes : (k s : ℕ) (p : Pid) → v.known k p ≡ Incoming s → v.preds k p s ≡ true

-- Each of these messages that stood somewhere still does, but for one that is handled.
pub record Lasts (o : Option MsgId) (v w : View) : Type 0 where
  pub kept : Extends v.told w.told
  pub on : (i : MsgId) (t : Told) → v.told i ≡ Some t → is_word t ≡ true → (o ≡ Some i → ⊥) → Somewhere v i → Somewhere w i

pub lasts_same : (o : Option MsgId) (v : View) → Lasts o v v
lasts_same o v = record { kept = λ i t e. e; on = λ i t e c off s. s }

pub lasts_trans : (o : Option MsgId) (u v w : View) → Lasts o u v → Lasts o v w → Lasts o u w
lasts_trans o u v w h k = record { kept = λ i t e. k.kept i t (h.kept i t e); on = λ i t e c off s. k.on i t (h.kept i t e) c off (h.on i t e c off s) }

pub lasts_any : (o : Option MsgId) (v w : View) → Lasts None v w → Lasts o v w
lasts_any o v w h = record { kept = h.kept; on = λ i t e c off s. h.on i t e c (λ k. cc) s }

pub lasts_smooth : (o : Option MsgId) (v w : View) → Smooth is_word v w → Lasts o v w
lasts_smooth o v w h = record { kept = h.kept; on = λ i t e c off s. h.on i t e c s }

pub lasts_still : (o : Option MsgId) (v w : View) → ((i : MsgId) → w.told i ≡ v.told i) → ((i : MsgId) (z : Spot) → standing w i z ≡ standing v i z) → Lasts o v w
lasts_still o v w told spots = record { kept = λ i t e. told i ∙ e; on = λ i t e c off s. stands_as v w i (spots i) s }

-- one message goes
pub lasts_but : (v w : View) (i : MsgId) → ((j : MsgId) → w.told j ≡ v.told j) → ((j : MsgId) → id_eq i j ≡ false → (z : Spot) → standing w j z ≡ standing v j z) → Lasts (Some i) v w
lasts_but v w i told spots = record {
  kept = λ j t e. told j ∙ e;
  on = λ j t e c off s. elim (cases_Bool (id_eq i j)) [
    | inl same ↦ absurd (off (ap Some (id_eq-is i j same)))
    | inr apart ↦ stands_as v w j (spots j apart) s
  ];
}

pub lasts_about : (o : Option MsgId) (v w : View) (a : About) → Lasts o v w → Lasts o v (view.about w a)
lasts_about o v w a h = lasts_trans o v w (view.about w a) h (lasts_still o w (view.about w a) (λ i. refl) (λ i z. ap (times i) (about_off w a z)))

-- whatever is put, all that stood stand on
put_grows : (v : View) (a b : ℕ) (i : MsgId) (k : MessageKind) (q : Pid) → Extends v.told (after_put v a b i k q).told
put_grows v a b i k q j t e = grind (arith, nat_tests, id_eq-is, put_at, first_kept, put_told_off)

pub lasts_put : (o : Option MsgId) (v : View) (a b : ℕ) (i : MsgId) (k : MessageKind) (q : Pid) → PairsFit v → Lasts o v (after_put v a b i k q)
lasts_put o v a b i k q fits = record {
  kept = put_grows v a b i k q;
  on = λ j t e c off s. elim (cases_Bool (id_eq i j)) [
    | inl same ↦ subst (λ (x : MsgId). Somewhere (after_put v a b i k q) x) (id_eq-is i j same) (put_spot a b, put_there v a b i k q fits)
    | inr apart ↦ stands_as v (after_put v a b i k q) j (λ z. put_spots v a b i j k q fits apart z) s
  ];
}

pub word_on : (o : Option MsgId) (v w : View) (p : Pid) (m k : ℕ) → Lasts o v w → (x : Word v p m k) → (o ≡ Some x.message → ⊥) → Word w p m k
word_on o v w p m k h x off = record {
  message = x.message;
  told = x.told;
  is = h.kept x.message x.told x.is;
  about = x.about;
  clears = x.clears;
  stands = h.on x.message x.told x.is (clears_word m k x.message x.told x.clears) off x.stands;
}

-- nothing is learned
pub preds_same : (n : ℕ) (v w : View) → ((m : ℕ) (q : Pid) → w.known m q ≡ v.known m q) → ((m : ℕ) (q : Pid) (r : ℕ) → w.preds m q r ≡ v.preds m q r) → Lasts None v w → Preds n v → Preds n w
preds_same n v w known preds lasts h = record {
  back = λ m k c p e. elim (h.back m k c p (sym (known m p) ∙ e)) [
    | ByPred b ↦ ByPred (preds k p m ∙ b)
    | ByWord x ↦ ByWord (word_on None v w p m k lasts x (λ e. cc))
  ];
  others = λ m p. preds m p m ∙ h.others m p;
  none = λ m r p e. preds m p r ∙ h.none m r p (sym (known m p) ∙ e);
  within = λ m r p e. h.within m r p (sym (preds m p r) ∙ e);
  comes = λ k s p e. preds k p s ∙ h.comes k s p (sym (known k p) ∙ e);
}

-- One machine learns of one process.
pub at_there : {X : Type 0} (f : ℕ → Pid → X) (a : ℕ) (p : Pid) (x : X) (m : ℕ) (q : Pid) → ((a == m) && pid_eq p q) ≡ true → at_record f a p x m q ≡ x
at_there f a p x m q e = ap (λ (c : Bool). if c then x else f m q) e

pub record Both (a m : ℕ) (p q : Pid) : Type 0 where
  pub machine : a ≡ m
  pub process : p ≡ q

pub both_are : (a m : ℕ) (p q : Pid) → ((a == m) && pid_eq p q) ≡ true → Both a m p q
both_are a m p q e = let k = parts (a == m) (pid_eq p q) e in record { machine = eq_is a m k.0; process = pid_eq-is p q k.1 }

-- what it knows then, and its predecessors
pub record Sets (n : ℕ) (v w : View) (a : ℕ) (p : Pid) (x : Known) (y : ℕ → Bool) : Type 0 where
  pub known : (m : ℕ) (q : Pid) → w.known m q ≡ at_record v.known a p x m q
  pub preds : (m : ℕ) (q : Pid) (r : ℕ) → w.preds m q r ≡ at_record v.preds a p y m q r
  -- where it forwards now, this is held back; so is each machine that was a predecessor; and so are the others
  pub mine : (k c : ℕ) → x ≡ Forward k c → IsKept w p a k
  pub was : (m : ℕ) → v.preds a p m ≡ true → IsKept w p m a
  pub words : (q : Pid) (m k : ℕ) → ((a == m) && pid_eq p q) ≡ false → Word v q m k → IsKept w q m k
  pub others : y a ≡ false
  pub none : x ≡ Unknown → (r : ℕ) → y r ≡ false
  pub within : (r : ℕ) → y r ≡ true → r < n
  pub comes : (s : ℕ) → x ≡ Incoming s → y s ≡ true

known_there : (n : ℕ) (v w : View) (a : ℕ) (p : Pid) (x : Known) (y : ℕ → Bool) → Sets n v w a p x y → (m : ℕ) (q : Pid) → ((a == m) && pid_eq p q) ≡ true → w.known m q ≡ x
known_there n v w a p x y s m q e = s.known m q ∙ at_there v.known a p x m q e

known_off : (n : ℕ) (v w : View) (a : ℕ) (p : Pid) (x : Known) (y : ℕ → Bool) → Sets n v w a p x y → (m : ℕ) (q : Pid) → ((a == m) && pid_eq p q) ≡ false → w.known m q ≡ v.known m q
known_off n v w a p x y s m q e = s.known m q ∙ at_record_off v.known a m p q x e

preds_there : (n : ℕ) (v w : View) (a : ℕ) (p : Pid) (x : Known) (y : ℕ → Bool) → Sets n v w a p x y → (m : ℕ) (q : Pid) (r : ℕ) → ((a == m) && pid_eq p q) ≡ true → w.preds m q r ≡ y r
preds_there n v w a p x y s m q r e = s.preds m q r ∙ ap (λ (f : ℕ → Bool). f r) (at_there v.preds a p y m q e)

preds_off : (n : ℕ) (v w : View) (a : ℕ) (p : Pid) (x : Known) (y : ℕ → Bool) → Sets n v w a p x y → (m : ℕ) (q : Pid) (r : ℕ) → ((a == m) && pid_eq p q) ≡ false → w.preds m q r ≡ v.preds m q r
preds_off n v w a p x y s m q r e = s.preds m q r ∙ ap (λ (f : ℕ → Bool). f r) (at_record_off v.preds a m p q y e)

kept_on : (n : ℕ) (v w : View) (a : ℕ) (p : Pid) (x : Known) (y : ℕ → Bool) → Sets n v w a p x y → (q : Pid) (m k : ℕ) → ((a == m) && pid_eq p q) ≡ false → IsKept v q m k → IsKept w q m k
kept_on n v w a p x y s q m k apart (ByWord one) = s.words q m k apart one
kept_on n v w a p x y s q m k apart (ByPred b) = elim (cases_Bool ((a == k) && pid_eq p q)) [
  | inl same ↦
      let h = both_are a k p q same in
      let mine : v.preds a p m ≡ true = subst (λ (j : ℕ). v.preds j p m ≡ true) (sym h.machine) (subst (λ (r : Pid). v.preds k r m ≡ true) (sym h.process) b) in
      subst (λ (j : ℕ). IsKept w q m j) h.machine (subst (λ (r : Pid). IsKept w r m a) h.process (s.was m mine))
  | inr off ↦ ByPred (preds_off n v w a p x y s k q m off ∙ b)
]

pub preds_set : (n : ℕ) (v w : View) (a : ℕ) (p : Pid) (x : Known) (y : ℕ → Bool) → Sets n v w a p x y → Preds n v → Preds n w
preds_set n v w a p x y s h = record {
  back = λ m k c q e. elim (cases_Bool ((a == m) && pid_eq p q)) [
    | inl same ↦
        let is = both_are a m p q same in
        let kept = s.mine k c (sym (known_there n v w a p x y s m q same) ∙ e) in
        subst (λ (j : ℕ). IsKept w q j k) is.machine (subst (λ (r : Pid). IsKept w r a k) is.process kept)
    | inr apart ↦ kept_on n v w a p x y s q m k apart (h.back m k c q (sym (known_off n v w a p x y s m q apart) ∙ e))
  ];
  others = λ m q. elim (cases_Bool ((a == m) && pid_eq p q)) [
    | inl same ↦ preds_there n v w a p x y s m q m same ∙ subst (λ (j : ℕ). y j ≡ false) (both_are a m p q same).machine s.others
    | inr apart ↦ preds_off n v w a p x y s m q m apart ∙ h.others m q
  ];
  none = λ m r q e. elim (cases_Bool ((a == m) && pid_eq p q)) [
    | inl same ↦ preds_there n v w a p x y s m q r same ∙ s.none (sym (known_there n v w a p x y s m q same) ∙ e) r
    | inr apart ↦ preds_off n v w a p x y s m q r apart ∙ h.none m r q (sym (known_off n v w a p x y s m q apart) ∙ e)
  ];
  within = λ m r q e. elim (cases_Bool ((a == m) && pid_eq p q)) [
    | inl same ↦ s.within r (sym (preds_there n v w a p x y s m q r same) ∙ e)
    | inr apart ↦ h.within m r q (sym (preds_off n v w a p x y s m q r apart) ∙ e)
  ];
  comes = λ k r q e. elim (cases_Bool ((a == k) && pid_eq p q)) [
    | inl same ↦ preds_there n v w a p x y s k q r same ∙ s.comes r (sym (known_there n v w a p x y s k q same) ∙ e)
    | inr apart ↦ preds_off n v w a p x y s k q r apart ∙ h.comes k r q (sym (known_off n v w a p x y s k q apart) ∙ e)
  ];
}

-- only what it knows changes, and that isn't that it knows nothing
own_record : {X : Type 0} (f : ℕ → Pid → X) (a : ℕ) (p : Pid) (m : ℕ) (q : Pid) → at_record f a p (f a p) m q ≡ f m q
own_record f a p m q = elim (cases_Bool ((a == m) && pid_eq p q)) [
  | inl same ↦ let k = both_are a m p q same in at_there f a p (f a p) m q same ∙ ap (λ (j : ℕ). f j p) k.machine ∙ ap (f m) k.process
  | inr apart ↦ at_record_off f a m p q (f a p) apart
]

pub preds_knows : (n : ℕ) (v w : View) (a : ℕ) (p : Pid) (x : Known) → ((m : ℕ) (q : Pid) → w.known m q ≡ at_record v.known a p x m q) → ((m : ℕ) (q : Pid) (r : ℕ) → w.preds m q r ≡ v.preds m q r) → ((k c : ℕ) → x ≡ Forward k c → IsKept w p a k)
    → (x ≡ Unknown → ⊥) → ((s : ℕ) → x ≡ Incoming s → v.preds a p s ≡ true) → Lasts None v w → Preds n v → Preds n w
preds_knows n v w a p x known preds mine some comes lasts h = preds_set n v w a p x (v.preds a p) (record {
  known = known;
  preds = λ m q r. preds m q r ∙ ap (λ (f : ℕ → Bool). f r) (sym (own_record v.preds a p m q));
  mine = mine;
  was = λ m e. ByPred (preds a p m ∙ e);
  words = λ q m k apart one. ByWord (word_on None v w q m k lasts one (λ e. cc));
  others = h.others a p;
  none = λ e. absurd (some e);
  within = λ r e. h.within a r p e;
  comes = comes;
}) h
