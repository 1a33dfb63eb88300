-- Each line of a migration, of an end and of a birth keeps what machines know in agreement with the trails.
use Rattle.dm_law_rule.proofs.Names.{◌≡◌, ◌≢◌, ℕ, ◌+◌, ◌==◌, Bool, true, false, not, List, [], ◌∷◌, ◌++◌, length, refl, ap, ◌∙◌, sym, subst, inl, inr, arith, if◌then◌else◌, slice_get, Option, Some, cases_Bool, false≢true, append-nil, Pid}
use Rattle.dm_law_rule.proofs.Names.{pid_eq, MsgId, MessageKind, Line, Stage, at_record, View, Known, Unknown, Here, Frozen, Incoming, view_after, front_of, gone_to, Nowhere, Moves, IsIn, kind_comes, is_restart, is_early, is_between, is_away}
use Rattle.dm_law_rule.proofs.Names.{Trails, Trail, StoodOnTrail, destination, trails_after, pid_eq-is, pid_eq-same, kind_leaves, and_parts, eqb-true, false_from_ne_true, slice_get_within, is_calloff, HasCome, tells_come, ◌&&◌, Phase, Rests}
use Rattle.dm_law_rule.proofs.Names.{Over, knows, is_here, is_unknown, not-true, sort_of, goes_back}
use Rattle.dm_law_rule.proofs.Lines.{eq_self}
use Rattle.dm_law_rule.proofs.Seen.{aim, sets}
use Rattle.dm_law_rule.proofs.Trails.Known.{trail_same, trail_less, trail_learns, trail_forgets, trail_made, trail_left, trail_grows}

pub holds_is : (k : MessageKind) (d : ℕ) (x : Known) → is_restart k ≡ false → kind_leaves k d x ≡ true → x ≡ Frozen d
holds_is k d x h1 h2 = search (arith, and_parts, eqb-true)

pub expects_is : (k : MessageKind) (s : ℕ) (x : Known) → is_early k ≡ false → is_calloff k ≡ false → kind_comes k s x ≡ true → x ≡ Incoming s
expects_is k s x h1 h2 h3 = search (arith, and_parts, eqb-true)

pub two_apart : (v : View) (p : Pid) (k : MessageKind) (s d : ℕ) (o : Option MsgId) → IsIn v p (Moves k s d o) → d ≢ s
two_apart v p k s d o h e = let both = and_parts (is_between k) (not (s == d)) h.apart in false≢true (sym (ap not (ap (λ (n : ℕ). s == n) e ∙ eq_self s)) ∙ both.1)

pub source_holds : (v : View) (p : Pid) (k : MessageKind) (s d : ℕ) (o : Option MsgId) → IsIn v p (Moves k s d o) → is_restart k ≡ false → v.known s p ≡ Frozen d
source_holds v p k s d o h e = holds_is k d (v.known s p) e (sym (ap (λ (c : Bool). if c then kind_leaves k d (v.known s p) else if d == s then kind_comes k s (v.known s p) else is_away (v.known s p)) (eq_self s)) ∙ h.known s)

pub destination_comes : (v : View) (p : Pid) (k : MessageKind) (s d : ℕ) (o : Option MsgId) → IsIn v p (Moves k s d o) → kind_comes k s (v.known d p) ≡ true
destination_comes v p k s d o h =
    let off : (s == d) ≡ false = false_from_ne_true (s == d) (λ x. two_apart v p k s d o h (sym (eqb-true s d x))) in
    sym (ap (λ (c : Bool). if c then kind_leaves k d (v.known d p) else if d == d then kind_comes k s (v.known d p) else is_away (v.known d p)) off ∙ ap (λ (c : Bool). if c then kind_comes k s (v.known d p) else is_away (v.known d p)) (eq_self d)) ∙ h.known d

pub destination_expects : (v : View) (p : Pid) (k : MessageKind) (s d : ℕ) (o : Option MsgId) → IsIn v p (Moves k s d o) → is_early k ≡ false → is_calloff k ≡ false → v.known d p ≡ Incoming s
destination_expects v p k s d o h e f = expects_is k s (v.known d p) e f (destination_comes v p k s d o h)

-- where it has answered, it knows the process
pub destination_knows : (v : View) (p : Pid) (k : MessageKind) (s d : ℕ) (o : Option MsgId) → IsIn v p (Moves k s d o) → is_early k ≡ false → v.known d p ≢ Unknown
destination_knows v p k s d o h e f = false≢true (sym e ∙ subst (λ (x : Known). kind_comes k s x ≡ true) f (destination_comes v p k s d o h))

-- what is on its way here moves from where the machine expects it
pub record Coming (phase : Phase) (m from : ℕ) : Type 0 where
  pub kind : MessageKind
  pub id : Option MsgId
  pub is : phase ≡ Moves kind from m id
  pub late : is_early kind ≡ false
  pub on : is_calloff kind ≡ false

coming_moves : (k : MessageKind) (s d : ℕ) (o : Option MsgId) (m from : ℕ) (b c : Bool) → (d == m) ≡ c → (if b then kind_leaves k d (Incoming from) else if c then kind_comes k s (Incoming from) else is_away (Incoming from)) ≡ true → Coming (Moves k s d o) m from
coming_moves k s d o m from true c to e = absurd (false≢true e)
coming_moves k s d o m from false true to e =
    let x = and_parts (not (is_early k)) (not (is_calloff k) && (s == from)) e in
    let y = and_parts (not (is_calloff k)) (s == from) x.1 in
    record {
      kind = k;
      id = o;
      is = ap (λ (n : ℕ). Moves k n d o) (eqb-true s from y.1) ∙ ap (λ (n : ℕ). Moves k from n o) (eqb-true d m to);
      late = not-true (is_early k) x.0;
      on = not-true (is_calloff k) y.0;
    }
coming_moves k s d o m from false false to e = absurd (false≢true e)

pub coming_is : (phase : Phase) (m from : ℕ) → knows phase m (Incoming from) ≡ true → Coming phase m from
coming_is Nowhere m from e = absurd (false≢true e)
coming_is (Rests at) m from e = absurd ((elim (at == m) as (λ c. (if c then is_here (Incoming from) else is_away (Incoming from)) ≡ true → ⊥) [ true ↦ λ f. false≢true f | false ↦ λ f. false≢true f ]) e)
coming_is (Over at) m from e = absurd ((elim (at == m) as (λ c. (if c then is_unknown (Incoming from) else is_away (Incoming from)) ≡ true → ⊥) [ true ↦ λ f. false≢true f | false ↦ λ f. false≢true f ]) e)
coming_is (Moves k s d o) m from e = coming_moves k s d o m from (s == m) (d == m) refl e

-- its source knows it
pub source_knows : (v : View) (p : Pid) (k : MessageKind) (s d : ℕ) (o : Option MsgId) → IsIn v p (Moves k s d o) → v.known s p ≢ Unknown
source_knows v p k s d o h f = false≢true (subst (λ (x : Known). kind_leaves k d x ≡ true) f (sym (ap (λ (c : Bool). if c then kind_leaves k d (v.known s p) else if d == s then kind_comes k s (v.known s p) else is_away (v.known s p)) (eq_self s)) ∙ h.known s))

-- and where not all of it has come the source holds it
pub holds_on : (v : View) (p : Pid) (k : MessageKind) (s d : ℕ) (o : Option MsgId) → IsIn v p (Moves k s d o) → v.come p ≡ false → is_restart k ≡ false
holds_on v p k s d o h off = (elim k as (λ j. HasCome (tells_come (sort_of j)) (v.come p) → is_restart j ≡ false) [ MessageKind.Restart ↦ λ come. absurd (false≢true (sym off ∙ come)) | _ ↦ λ come. refl ]) h.come

-- one machine learns something of one process
pub set_at : (v : View) (p : Pid) (x : Known) (m : ℕ) → at_record v.known v.acting p x m p ≡ (if v.acting == m then x else v.known m p)
set_at v p x m = search (arith, pid_eq-same)

pub set_off : (v : View) (p : Pid) (x : Known) (m : ℕ) (q : Pid) → pid_eq p q ≡ false → at_record v.known v.acting p x m q ≡ v.known m q
set_off v p x m q h1 = search arith

pub set_trail : {lives : Bool} (v w : View) (t : Trails) (p q : Pid) (x : Known) → w.known ≡ at_record v.known v.acting p x → (((m : ℕ) → w.known m p ≡ (if v.acting == m then x else v.known m p)) → Trail lives v t p → Trail lives w t p) → Trail lives v t q → Trail lives w t q
set_trail {lives} v w t p q x known on h = elim (cases_Bool (pid_eq p q)) [
  | inl same ↦
      let is : p ≡ q = pid_eq-is p q same in
      subst (Trail lives w t) is (on (λ m. ap (λ (f : ℕ → Pid → Known). f m p) known ∙ set_at v p x m) (subst (Trail lives v t) (sym is) h))
  | inr apart ↦ trail_same v w t t q (λ m. ap (λ (f : ℕ → Pid → Known). f m q) known ∙ set_off v p x m q apart) refl h
]

-- step 1: it leaves
pub frozen_trail : {lives : Bool} (v : View) (t : Trails) (p q : Pid) → v.known v.acting p ≡ Here → Trail lives v t q → Trail lives (view_after v (Line.Migration Stage.Frozen p)) t q
frozen_trail v t p q here h =
    let x = Frozen (aim v v.topic) in
    set_trail v (view_after v (Line.Migration Stage.Frozen p)) t p q x (sets v p v.topic).known (λ known on. trail_learns v (view_after v (Line.Migration Stage.Frozen p)) t p x v.acting known (λ k j e. cc) (λ e. cc) (λ e. let f : Here ≡ Unknown = sym here ∙ e in cc) on) h

-- step 3: it is accepted, and its source knows it
pub accepted_trail : {lives : Bool} (v : View) (t : Trails) (p q : Pid) (k : MessageKind) (s d : ℕ) (o : Option MsgId) → IsIn v p (Moves k s d o) → is_restart k ≡ false → Trail lives v t q → Trail lives (view_after v (Line.Migration Stage.Accepted p)) t q
accepted_trail v t p q k s d o phase e h =
    let x = Incoming (front_of (v.inbox v.acting)) in
    set_trail v (view_after v (Line.Migration Stage.Accepted p)) t p q x refl
    (λ known on. trail_learns v (view_after v (Line.Migration Stage.Accepted p)) t p x s known (λ i j f. cc) (λ f. cc) (λ f. let g : Frozen d ≡ Unknown = sym (source_holds v p k s d o phase e) ∙ f in cc) on) h

-- it is here again: step 8, or it stays
pub back_trail : {lives : Bool} (v w : View) (t : Trails) (p q : Pid) (n : ℕ) → w.known ≡ at_record v.known v.acting p Here → v.known n p ≢ Unknown → Trail lives v t q → Trail lives w t q
back_trail v w t p q n known there h = set_trail v w t p q Here known (λ at on. trail_learns v w t p Here n at (λ i j f. cc) (λ f. cc) there on) h

pub stays_trail : {lives : Bool} (v : View) (t : Trails) (p q : Pid) (k : MessageKind) (s d : ℕ) (o : Option MsgId) → IsIn v p (Moves k s d o) → is_restart k ≡ false → Trail lives v t q → Trail lives (view_after v (Line.Stays p)) t q
stays_trail v t p q k s d o phase e h = back_trail v (view_after v (Line.Stays p)) t p q s refl (λ f. let g : Frozen d ≡ Unknown = sym (source_holds v p k s d o phase e) ∙ f in cc) h

-- it ends: its machine knows nothing of it any more
pub ended_trail : (lived lives : Bool) (v w : View) (t : Trails) (p q : Pid) → w.known ≡ at_record v.known v.acting p Unknown → (lives ≡ true → lived ≡ true) → (pid_eq p q ≡ true → lives ≡ false) → Trail lived v t q → Trail lives w t q
ended_trail lived lives v w t p q known before over h = elim (cases_Bool (pid_eq p q)) [
  | inl same ↦
      let is : p ≡ q = pid_eq-is p q same in
      subst (λ (b : Bool). Trail b w t q) (sym (over same))
      (subst (Trail false w t) is (trail_forgets lived v w t p (λ m. ap (λ (f : ℕ → Pid → Known). f m p) known ∙ set_at v p Unknown m) (subst (Trail lived v t) (sym is) h)))
  | inr apart ↦ trail_same v w t t q (λ m. ap (λ (f : ℕ → Pid → Known). f m q) known ∙ set_off v p Unknown m q apart) refl (trail_less lived lives v t q before h)
]

-- the trail of a process that was never made is its home alone
home_alone : (lives : Bool) (v : View) (t : Trails) (p : Pid) → Trail lives v t p → StoodOnTrail v t p Nowhere → (c m : ℕ) → slice_get (t p) c ≡ Some m → m ≡ p.home
home_alone lives v t p h s c m e =
    let within = slice_get_within (t p) c m e in
    search arith

-- it is made at home
pub born_trail : (lived lives : Bool) (v w : View) (t : Trails) (p q : Pid) → w.known ≡ at_record v.known v.acting p Here → ((m : ℕ) → v.known m p ≡ Unknown) → p.home ≡ v.acting → StoodOnTrail v t p Nowhere
    → (pid_eq p q ≡ false → lives ≡ true → lived ≡ true) → Trail lived v t q → Trail lives w t q
born_trail lived lives v w t p q known unknown home stood before h = elim (cases_Bool (pid_eq p q)) [
  | inl same ↦
      let is : p ≡ q = pid_eq-is p q same in
      let old : Trail lived v t p = subst (Trail lived v t) (sym is) h in
      subst (Trail lives w t) is
      (trail_made lived v w t p (λ m. ap (λ (f : ℕ → Pid → Known). f m p) known ∙ set_at v p Here m) unknown (λ c m e. home_alone lived v t p old stood c m e ∙ home) old)
  | inr apart ↦ trail_same v w t t q (λ m. ap (λ (f : ℕ → Pid → Known). f m q) known ∙ set_off v p Here m q apart) refl (trail_less lived lives v t q (before apart) h)
]

-- step 6: what came for it is sent on, and its trail is longer by its destination
pub sent_on_at : (v : View) (t : Trails) (p : Pid) (n d : ℕ) → v.known v.acting p ≡ Frozen d → trails_after v t (Line.SentOn p n) p ≡ t p ++ d ∷ []
sent_on_at v t p n d holds = ap (λ (c : Bool). if c then t p ++ destination (v.known v.acting p) else t p) (pid_eq-same p) ∙ ap (λ (x : Known). t p ++ destination x) holds

pub sent_on_grows : (v : View) (t : Trails) (p : Pid) (n d : ℕ) → v.known v.acting p ≡ Frozen d → (q : Pid) → (ds : List ℕ) × (trails_after v t (Line.SentOn p n) q ≡ t q ++ ds)
sent_on_grows v t p n d holds q = elim (cases_Bool (pid_eq p q)) [
  | inl same ↦ let is : p ≡ q = pid_eq-is p q same in (d ∷ [], subst (λ (r : Pid). trails_after v t (Line.SentOn p n) r ≡ t r ++ d ∷ []) is (sent_on_at v t p n d holds))
  | inr apart ↦ ([], ap (λ (c : Bool). if c then t p ++ destination (v.known v.acting p) else t q) apart ∙ sym (append-nil (t q)))
]

pub sent_on_trail : {lives : Bool} (v : View) (t : Trails) (p q : Pid) (n s d : ℕ) (o : Option MsgId) → IsIn v p (Moves MessageKind.AllTaken s d o) → v.acting ≡ s → Trail lives v t q → Trail lives (view_after v (Line.SentOn p n)) (trails_after v t (Line.SentOn p n)) q
sent_on_trail {lives} v t p q n s d o phase acts h =
    let holds : v.known v.acting p ≡ Frozen d = ap (λ (m : ℕ). v.known m p) acts ∙ source_holds v p MessageKind.AllTaken s d o phase refl in
    elim (cases_Bool (pid_eq p q)) [
      | inl same ↦
          let is : p ≡ q = pid_eq-is p q same in
          subst (Trail lives (view_after v (Line.SentOn p n)) (trails_after v t (Line.SentOn p n))) is
          (trail_grows v (view_after v (Line.SentOn p n)) t (trails_after v t (Line.SentOn p n)) p d s (λ m. refl) (sent_on_at v t p n d holds) (destination_expects v p MessageKind.AllTaken s d o phase refl refl) (subst (Trail lives v t) (sym is) h))
      | inr apart ↦
          trail_same v (view_after v (Line.SentOn p n)) t (trails_after v t (Line.SentOn p n)) q (λ m. refl)
          (ap (λ (c : Bool). if c then t p ++ destination (v.known v.acting p) else t q) apart) h
    ]

-- then the source forwards
pub left_line_trail : {lives : Bool} (v : View) (t : Trails) (p q : Pid) (d : ℕ) → v.known v.acting p ≡ Frozen d → slice_get (t p) (v.moves p + 1) ≡ Some d → length (t p) ≡ v.moves p + 2 → d ≢ v.acting → Trail lives v t q → Trail lives (view_after v (Line.Migration Stage.Left p)) t q
left_line_trail v t p q d holds at long apart h =
    let w = view_after v (Line.Migration Stage.Left p) in
    set_trail v w t p q (gone_to (v.known v.acting p) (v.moves p + 1)) refl
    (λ known on. trail_left v w t p d (v.moves p + 1) (λ m. known m ∙ ap (λ (x : Known). if v.acting == m then gone_to x (v.moves p + 1) else v.known m p) holds) (λ e. let f : Frozen d ≡ Unknown = sym holds ∙ e in cc) at (omega (arith, long)) apart on) h

-- it is called off: the machine that it was to come to forwards to where it stands
pub called_trail : {lives : Bool} (v : View) (t : Trails) (p q : Pid) (n from : ℕ) → v.known v.acting p ≡ Incoming from → slice_get (t p) (v.moves p) ≡ Some from → length (t p) ≡ v.moves p + 1 → from ≢ v.acting → Trail lives v t q → Trail lives (view_after v (Line.Called p n)) t q
called_trail v t p q n from comes at long apart h =
    let w = view_after v (Line.Called p n) in
    set_trail v w t p q (goes_back (v.known v.acting p) (v.moves p)) refl
    (λ known on. trail_left v w t p from (v.moves p) (λ m. known m ∙ ap (λ (x : Known). if v.acting == m then goes_back x (v.moves p) else v.known m p) comes) (λ e. let f : Incoming from ≡ Unknown = sym comes ∙ e in cc) at long apart on) h
