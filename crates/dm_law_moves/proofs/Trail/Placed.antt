-- Where a process is on its trail: at the end, or one machine before it while the message that restarts it is under way.
use Rattle.dm_law_moves.proofs.Names.{◌≡◌, ◌≢◌, ◌⊎◌, ℕ, ◌+◌, ◌==◌, Bool, true, false, length, refl, ap, ◌∙◌, sym, subst, inl, inr, arith, cases_Bool, false≢true, if◌then◌else◌, slice_get, Option, Some, Pid, pid_eq, MsgId, MessageKind}
use Rattle.dm_law_moves.proofs.Names.{pid_eq-is, at_record, View, Known, Unknown, Here, Frozen, Incoming, Forward, Moves, IsIn, knows, kind_comes, is_restart, is_away, Trails, eq_is, eq_self, set_off, kind_leaves, nat_tests}
use Rattle.dm_law_rule.proofs.Trails.Steps.{set_at}

-- a machine has a process, or holds it while it leaves
abbrev pub is_held : Known → Bool
is_held Here = true
is_held (Frozen to) = true
is_held _ = false

pub record Placed (v : View) (t : Trails) (p : Pid) : Type 0 where
  pub now : (m : ℕ) → is_held (v.known m p) ≡ true → slice_get (t p) (v.moves p) ≡ Some m
  pub long : (m : ℕ) → is_held (v.known m p) ≡ true → length (t p) ≡ v.moves p + 1
  -- its source forwards, and its destination still expects it
  pub next : (s d c : ℕ) → v.known s p ≡ Forward d c → v.known d p ≡ Incoming s → slice_get (t p) (v.moves p + 1) ≡ Some d
  pub longer : (s d c : ℕ) → v.known s p ≡ Forward d c → v.known d p ≡ Incoming s → length (t p) ≡ v.moves p + 2
  -- no machine has it or expects it: it was never made, or has ended
  pub gone : ((m : ℕ) → is_away (v.known m p) ≡ true) → length (t p) ≡ v.moves p + 1

abbrev pub Places : View → Trails → Type 0
Places v t = (p : Pid) → Placed v t p

pub placed_same : (v w : View) (t u : Trails) (p : Pid) → ((m : ℕ) → w.known m p ≡ v.known m p) → w.moves p ≡ v.moves p → u p ≡ t p → Placed v t p → Placed w u p
placed_same v w t u p known moves same h = grind (arith, nat_tests)

-- the acting machine learns something of a process
abbrev pub Learnt : View → View → Pid → Known → Type 0
Learnt v w p x = (m : ℕ) → w.known m p ≡ (if v.acting == m then x else v.known m p)

learnt_here : (v w : View) (p : Pid) (x : Known) → Learnt v w p x → w.known v.acting p ≡ x
learnt_here v w p x known = known v.acting ∙ ap (λ (c : Bool). if c then x else v.known v.acting p) (eq_self v.acting)

pub record Off (v w : View) (p : Pid) (m : ℕ) : Type 0 where
  pub off : (v.acting == m) ≡ false
  pub is : w.known m p ≡ v.known m p

learnt_either : (v w : View) (p : Pid) (x : Known) (m : ℕ) → Learnt v w p x → ((v.acting ≡ m) × (w.known m p ≡ x)) ⊎ Off v w p m
learnt_either v w p x m known = grind (arith, nat_tests, eq_is)

held_off : (T : Type 0) (k : Known) → is_held k ≡ true → is_away k ≡ true → T
held_off T Here held away = absurd (false≢true away)
held_off T (Frozen to) held away = absurd (false≢true away)
held_off T _ held away = absurd (false≢true held)

-- it has it, where it is at the end of the trail
pub placed_held : (v w : View) (t : Trails) (p : Pid) (x : Known) → Learnt v w p x → w.moves p ≡ v.moves p → is_held x ≡ true → slice_get (t p) (v.moves p) ≡ Some v.acting → length (t p) ≡ v.moves p + 1 → Placed v t p → Placed w t p
placed_held v w t p x known moves held at long h = record {
  now = λ m e. elim (learnt_either v w p x m known) [
    | inl new ↦ ap (slice_get (t p)) moves ∙ at ∙ ap Some new.0
    | inr old ↦ ap (slice_get (t p)) moves ∙ h.now m (sym (ap is_held old.is) ∙ e)
  ];
  long = λ m e. long ∙ ap (λ (n : ℕ). n + 1) (sym moves);
  next = λ s d c e f. let k = both s d c e f in ap (λ (n : ℕ). slice_get (t p) (n + 1)) moves ∙ h.next s d c k.0 k.1;
  longer = λ s d c e f. let k = both s d c e f in h.longer s d c k.0 k.1 ∙ sym (ap (λ (n : ℕ). n + 2) moves);
  gone = λ e. held_off (length (t p) ≡ w.moves p + 1) x held (ap is_away (sym (learnt_here v w p x known)) ∙ e v.acting);
}
  where
    passed : (m : ℕ) (k : Known) → w.known m p ≡ k → is_held k ≡ false → v.known m p ≡ k
    passed m k e off = elim (learnt_either v w p x m known) [
      | inl new ↦ absurd (false≢true (sym off ∙ ap is_held (sym e ∙ new.1) ∙ held))
      | inr old ↦ sym old.is ∙ e
    ]

    both : (s d c : ℕ) → w.known s p ≡ Forward d c → w.known d p ≡ Incoming s → (v.known s p ≡ Forward d c) × (v.known d p ≡ Incoming s)
    both s d c e f = (passed s (Forward d c) e refl, passed d (Incoming s) f refl)

-- some other machine has it, or expects it
pub record Elsewhere (v : View) (p : Pid) : Type 0 where
  pub machine : ℕ
  pub off : (v.acting == machine) ≡ false
  pub there : is_away (v.known machine p) ≡ false

elsewhere_still : (T : Type 0) (v w : View) (p : Pid) (x : Known) → Learnt v w p x → Elsewhere v p → ((m : ℕ) → is_away (w.known m p) ≡ true) → T
elsewhere_still T v w p x known other away =
    let same : w.known other.machine p ≡ v.known other.machine p = known other.machine ∙ ap (λ (c : Bool). if c then x else v.known other.machine p) other.off in
    absurd (false≢true (sym other.there ∙ ap is_away (sym same) ∙ away other.machine))

-- it forgets it, where nobody else has it or expects it
pub placed_forgets : (v w : View) (t : Trails) (p : Pid) → Learnt v w p Unknown → w.moves p ≡ v.moves p → ((m : ℕ) → (v.acting == m) ≡ false → is_away (v.known m p) ≡ true) → length (t p) ≡ v.moves p + 1 → Placed w t p
placed_forgets v w t p known moves away long = record {
  now = λ m e. absurd (none m e);
  long = λ m e. absurd (none m e);
  next = λ s d c e f. absurd (off s d f);
  longer = λ s d c e f. absurd (off s d f);
  gone = λ e. long ∙ ap (λ (n : ℕ). n + 1) (sym moves);
}
  where
    none : (m : ℕ) → is_held (w.known m p) ≡ true → ⊥
    none m e = elim (learnt_either v w p Unknown m known) [
      | inl new ↦ false≢true (sym (ap is_held new.1) ∙ e)
      | inr old ↦ held_off ⊥ (v.known m p) (sym (ap is_held old.is) ∙ e) (away m old.off)
    ]

    off : (s d : ℕ) → w.known d p ≡ Incoming s → ⊥
    off s d f = elim (learnt_either v w p Unknown d known) [
      | inl new ↦ (let g : Unknown ≡ Incoming s = sym new.1 ∙ f in cc)
      | inr old ↦ false≢true (ap is_away (sym f ∙ old.is) ∙ away d old.off)
    ]

-- it expects it from a machine that doesn't forward
pub placed_comes : (v w : View) (t : Trails) (p : Pid) (from : ℕ) → Learnt v w p (Incoming from) → w.moves p ≡ v.moves p → ((d c : ℕ) → v.known from p ≢ Forward d c) → Placed v t p → Placed w t p
placed_comes v w t p from known moves off h = record {
  now = λ m e. elim (learnt_either v w p (Incoming from) m known) [
    | inl new ↦ absurd (false≢true (sym (ap is_held new.1) ∙ e))
    | inr old ↦ ap (λ (n : ℕ). slice_get (t p) n) moves ∙ h.now m (sym (ap is_held old.is) ∙ e)
  ];
  long = λ m e. elim (learnt_either v w p (Incoming from) m known) [
    | inl new ↦ absurd (false≢true (sym (ap is_held new.1) ∙ e))
    | inr old ↦ h.long m (sym (ap is_held old.is) ∙ e) ∙ sym (ap (λ (n : ℕ). n + 1) moves)
  ];
  next = λ s d c e f. let k = both s d c e f in ap (λ (n : ℕ). slice_get (t p) (n + 1)) moves ∙ h.next s d c k.0 k.1;
  longer = λ s d c e f. let k = both s d c e f in h.longer s d c k.0 k.1 ∙ sym (ap (λ (n : ℕ). n + 2) moves);
  gone = λ e. absurd (false≢true (ap is_away (sym (learnt_here v w p (Incoming from) known)) ∙ e v.acting));
}
  where
    both : (s d c : ℕ) → w.known s p ≡ Forward d c → w.known d p ≡ Incoming s → (v.known s p ≡ Forward d c) × (v.known d p ≡ Incoming s)
    both s d c e f = elim (learnt_either v w p (Incoming from) s known) [
      | inl new ↦ absurd (let g : Incoming from ≡ Forward d c = sym new.1 ∙ e in cc)
      | inr old ↦ elim (learnt_either v w p (Incoming from) d known) [
        | inl new ↦ absurd (let g : Incoming from ≡ Incoming s = sym new.1 ∙ f in let k : s ≡ from = cc in off d c (subst (λ (i : ℕ). v.known i p ≡ Forward d c) k (sym old.is ∙ e)))
        | inr older ↦ (sym old.is ∙ e, sym older.is ∙ f)
      ]
    ]

-- it restarts it
pub placed_restarts : (v w : View) (t : Trails) (p : Pid) → Learnt v w p Here → w.moves p ≡ v.moves p + 1 → slice_get (t p) (v.moves p + 1) ≡ Some v.acting → length (t p) ≡ v.moves p + 2 → ((m : ℕ) → is_held (v.known m p) ≡ true → ⊥)
    → ((d s : ℕ) → v.known d p ≡ Incoming s → d ≡ v.acting) → Placed w t p
placed_restarts v w t p known moves at long none only = record {
  now = λ m e. elim (learnt_either v w p Here m known) [
    | inl new ↦ ap (λ (n : ℕ). slice_get (t p) n) moves ∙ at ∙ ap Some new.0
    | inr old ↦ absurd (none m (sym (ap is_held old.is) ∙ e))
  ];
  long = λ m e. omega (arith, long, moves);
  next = λ s d c e f. absurd (off d s f);
  longer = λ s d c e f. absurd (off d s f);
  gone = λ e. absurd (false≢true (ap is_away (sym (learnt_here v w p Here known)) ∙ e v.acting));
}
  where
    off : (d s : ℕ) → w.known d p ≡ Incoming s → ⊥
    off d s f = elim (learnt_either v w p Here d known) [
      | inl new ↦ (let g : Here ≡ Incoming s = sym new.1 ∙ f in cc)
      | inr old ↦ (let k = only d s (sym old.is ∙ f) in let g : Here ≡ Incoming s = sym (learnt_here v w p Here known) ∙ sym (ap (λ (i : ℕ). w.known i p) k) ∙ f in cc)
    ]

-- it forwards from then on
pub placed_left : (v w : View) (t : Trails) (p : Pid) (d n : ℕ) → Learnt v w p (Forward d n) → w.moves p ≡ v.moves p → slice_get (t p) (v.moves p + 1) ≡ Some d → length (t p) ≡ v.moves p + 2
    → ((m : ℕ) → (v.acting == m) ≡ false → is_held (v.known m p) ≡ true → ⊥) → ((k s : ℕ) → v.known k p ≡ Incoming s → k ≡ d) → Elsewhere v p → Placed w t p
placed_left v w t p d n known moves at long none only other = record {
  now = λ m e. absurd (off m e);
  long = λ m e. absurd (off m e);
  next = λ s k c e f. ap (λ (i : ℕ). slice_get (t p) (i + 1)) moves ∙ at ∙ ap Some (sym (to k s f));
  longer = λ s k c e f. long ∙ sym (ap (λ (i : ℕ). i + 2) moves);
  gone = elsewhere_still (length (t p) ≡ w.moves p + 1) v w p (Forward d n) known other;
}
  where
    off : (m : ℕ) → is_held (w.known m p) ≡ true → ⊥
    off m e = elim (learnt_either v w p (Forward d n) m known) [
      | inl new ↦ false≢true (sym (ap is_held new.1) ∙ e)
      | inr old ↦ none m old.off (sym (ap is_held old.is) ∙ e)
    ]

    to : (k s : ℕ) → w.known k p ≡ Incoming s → k ≡ d
    to k s f = elim (learnt_either v w p (Forward d n) k known) [
      | inl new ↦ absurd (let g : Forward d n ≡ Incoming s = sym new.1 ∙ f in cc)
      | inr old ↦ only k s (sym old.is ∙ f)
    ]

-- it is called off: who expected it forwards to where it is held
pub placed_back : (v w : View) (t : Trails) (p : Pid) (from n : ℕ) → Learnt v w p (Forward from n) → w.moves p ≡ v.moves p → ((k s : ℕ) → v.known k p ≡ Incoming s → k ≡ v.acting) → Elsewhere v p → Placed v t p → Placed w t p
placed_back v w t p from n known moves only other h = record {
  now = λ m e. ap (slice_get (t p)) moves ∙ h.now m (held m e);
  long = λ m e. h.long m (held m e) ∙ ap (λ (i : ℕ). i + 1) (sym moves);
  next = λ s k c e f. absurd (none k s f);
  longer = λ s k c e f. absurd (none k s f);
  gone = elsewhere_still (length (t p) ≡ w.moves p + 1) v w p (Forward from n) known other;
}
  where
    held : (m : ℕ) → is_held (w.known m p) ≡ true → is_held (v.known m p) ≡ true
    held m e = elim (learnt_either v w p (Forward from n) m known) [
      | inl new ↦ absurd (false≢true (sym (ap is_held new.1) ∙ e))
      | inr old ↦ sym (ap is_held old.is) ∙ e
    ]

    none : (k s : ℕ) → w.known k p ≡ Incoming s → ⊥
    none k s f = elim (learnt_either v w p (Forward from n) k known) [
      | inl new ↦ (let g : Forward from n ≡ Incoming s = sym new.1 ∙ f in cc)
      | inr old ↦ false≢true (sym old.off ∙ ap (λ (i : ℕ). v.acting == i) (only k s (sym old.is ∙ f)) ∙ eq_self v.acting)
    ]

pub places_set : (v w : View) (t u : Trails) (p : Pid) (x : Known) → w.known ≡ at_record v.known v.acting p x → ((q : Pid) → pid_eq p q ≡ false → w.moves q ≡ v.moves q) → ((q : Pid) → pid_eq p q ≡ false → u q ≡ t q)
    → ((q : Pid) → pid_eq p q ≡ false → Placed v t q) → (Learnt v w p x → Placed w u p) → Places w u
places_set v w t u p x known moves same h on q = elim (cases_Bool (pid_eq p q)) [
  | inl is ↦ subst (Placed w u) (pid_eq-is p q is) (on (λ m. ap (λ (f : ℕ → Pid → Known). f m p) known ∙ set_at v p x m))
  | inr apart ↦ placed_same v w t u q (λ m. ap (λ (f : ℕ → Pid → Known). f m q) known ∙ set_off v p x m q apart) (moves q apart) (same q apart) (h q apart)
]

-- a machine that has a process learns something else of it, and still has it
pub places_held : (v w : View) (t : Trails) (p : Pid) (x : Known) → w.known ≡ at_record v.known v.acting p x → w.moves ≡ v.moves → is_held x ≡ true → is_held (v.known v.acting p) ≡ true → Places v t → Places w t
places_held v w t p x known moves held had h =
    let same : (q : Pid) → w.moves q ≡ v.moves q = λ q. ap (λ (f : Pid → ℕ). f q) moves in
    places_set v w t t p x known (λ q apart. same q) (λ q apart. refl) (λ q apart. h q)
    (λ learnt. placed_held v w t p x learnt (same p) held ((h p).now v.acting had) ((h p).long v.acting had) (h p))

-- a machine forgets a process
pub places_forgets : (v w : View) (t : Trails) (p : Pid) → w.known ≡ at_record v.known v.acting p Unknown → w.moves ≡ v.moves → ((m : ℕ) → (v.acting == m) ≡ false → is_away (v.known m p) ≡ true) → length (t p) ≡ v.moves p + 1 → Places v t → Places w t
places_forgets v w t p known moves away long h =
    let same : (q : Pid) → w.moves q ≡ v.moves q = λ q. ap (λ (f : Pid → ℕ). f q) moves in
    places_set v w t t p Unknown known (λ q apart. same q) (λ q apart. refl) (λ q apart. h q) (λ learnt. placed_forgets v w t p learnt (same p) away long)

-- its source has it, until the message is under way that restarts it
pub moves_held : (v : View) (p : Pid) (k : MessageKind) (s d m : ℕ) (o : Option MsgId) → IsIn v p (Moves k s d o) → is_held (v.known m p) ≡ true → (s ≡ m) × (is_restart k ≡ false)
moves_held v p k s d m o h held = grind (arith, nat_tests, eq_is, (h.known m))

incoming_by : (k : MessageKind) (s d m from : ℕ) (b c : Bool) → (d == m) ≡ c → (if b then kind_leaves k d (Incoming from) else if c then kind_comes k s (Incoming from) else is_away (Incoming from)) ≡ true → m ≡ d
incoming_by k s d m from b c is e = grind (arith, nat_tests, eq_is)

-- and its destination alone expects it
pub moves_comes : (v : View) (p : Pid) (k : MessageKind) (s d m from : ℕ) (o : Option MsgId) → IsIn v p (Moves k s d o) → v.known m p ≡ Incoming from → m ≡ d
moves_comes v p k s d m from o h at = incoming_by k s d m from (s == m) (d == m) refl (sym (ap (λ (x : Known). knows (Moves k s d o) m x) at) ∙ h.known m)
