-- Of what kernels tell each other of migrations: what is due, and what is left over of a migration that was called off.
use Rattle.dm_law_mirror.proofs.Names.{◌≡◌, ℕ, ◌≤◌, ◌==◌, ◌&&◌, ◌||◌, Bool, true, false, not, refl, ap, ◌∙◌, sym, subst, arith, if◌then◌else◌, Option, None, Some, false≢true, nat_tests, Pid, pid_of, MsgId, MessageKind, What, kind_of}
use Rattle.dm_law_mirror.proofs.Names.{plain_what, Phase, Moves, IsIn, is_between, is_early, tells_onward, receiver_in, sender_in, told_between, Spot, standing, View, Known, Incoming, Frozen, Of, Told, InPhases, token_at, token_is, kind_comes}
use Rattle.dm_law_mirror.proofs.Names.{is_due, Placed, Mirrors, IsSuch, AllRecords, Carries, TokenStands, TokensStand, destination_of, cargo_at, cargo_of, Cargo, HasBlock, HasChunk, incoming_of, sort_of, eq_self, about_same, option_map, Asker}
use Rattle.dm_law_mirror.proofs.Names.{Resident, resident_at, Arrival, Record, AllOwnStand, told_of, with_what, Point, and_false, at_record, cases_Bool, inbox_is, inl, inr, pid_eq, pid_eq-is, Inbox, LeftCarries, LeftStands, is_due_piece, is_piece, source_of}
use Rattle.dm_law_mirror.proofs.Names.{is_whole, brings_piece, pulls_piece, Asks, Comes, HasCome, IsLeft, IsToken, is_calloff, knows, tells_come, is_waited_from, false_from_ne_true, waited_is, LeftOver, Token, TokenOrLeft, coming_is}
use Rattle.dm_law_mirror.proofs.Names.{destination_comes, destination_expects, source_holds}
use Rattle.dm_kernel.specs.State as machine
use Rattle.dm_law_mirror.proofs.Cargoes.{cargo_same, is_cargo_of}
use Rattle.dm_law_mirror.proofs.Residents.{resident_is}

-- By what it is told as.

pub some_told : (t u : Told) → Some t ≡ Some u → t ≡ u
some_told t u e = cc

pub piece_late : (k : MessageKind) → is_piece (sort_of k) ≡ true → (is_early k ≡ false) × (is_calloff k ≡ false)
piece_late MessageKind.PullState e = (refl, refl)
piece_late MessageKind.State e = (refl, refl)
piece_late MessageKind.PullBlock e = (refl, refl)
piece_late MessageKind.Memory e = (refl, refl)
piece_late _ e = absurd (false≢true e)

pub pulls_back : (k : MessageKind) → pulls_piece (sort_of k) ≡ true → (tells_onward (sort_of k) ≡ false) × (is_piece (sort_of k) ≡ true)
pulls_back MessageKind.PullState e = (refl, refl)
pulls_back MessageKind.PullBlock e = (refl, refl)
pulls_back _ e = absurd (false≢true e)

pub brings_on : (k : MessageKind) → brings_piece (sort_of k) ≡ true → (tells_onward (sort_of k) ≡ true) × (is_piece (sort_of k) ≡ true) × (pulls_piece (sort_of k) ≡ false)
brings_on MessageKind.State e = (refl, refl, refl)
brings_on MessageKind.Memory e = (refl, refl, refl)
brings_on _ e = absurd (false≢true e)

source_if : (c : Bool) (s d : ℕ) → (if c then (if c then s else d) else (if c then d else s)) ≡ s
source_if c s d = grind (arith, nat_tests)

destination_if : (c : Bool) (s d : ℕ) → (if c then (if c then d else s) else (if c then s else d)) ≡ d
destination_if c s d = grind (arith, nat_tests)

-- the two machines of a process that moves
source_is : (p : Pid) (k : MessageKind) (s d : ℕ) (i : MsgId) → i.from ≡ pid_of (sender_in k s d) 0 → source_of i (told_between p k s d) ≡ s
source_is p k s d i from = ap (λ (q : Pid). if tells_onward (sort_of k) then q.home else receiver_in k s d) from ∙ source_if (tells_onward (sort_of k)) s d

pub destination_is : (p : Pid) (k : MessageKind) (s d : ℕ) (i : MsgId) → i.from ≡ pid_of (sender_in k s d) 0 → destination_of i (told_between p k s d) ≡ d
destination_is p k s d i from = ap (λ (q : Pid). if tells_onward (sort_of k) then receiver_in k s d else q.home) from ∙ destination_if (tells_onward (sort_of k)) s d

waits : (v : View) (p : Pid) (s d a c : ℕ) → a ≡ s → c ≡ d → v.known d p ≡ Incoming s → is_waited_from a (v.known c p) ≡ true
waits v p s d a c e f g = ap (λ (n : ℕ). is_waited_from a (v.known n p)) f ∙ ap (is_waited_from a) g ∙ ap (λ (n : ℕ). n == s) e ∙ eq_self s

not_or : (b w : Bool) → (b ≡ true → w ≡ true) → (not b || w) ≡ true
not_or true w h = h refl
not_or false w h = refl

or_off : (b w : Bool) → b ≡ true → w ≡ false → (not b || w) ≡ false
or_off true w e f = f
or_off false w e f = absurd (false≢true e)

or_piece : (b w : Bool) → (not b || w) ≡ false → (b ≡ true) × (w ≡ false)
or_piece true w e = (refl, e)
or_piece false w e = absurd (false≢true (sym e))

-- the one message of a migration under way is due
due_is : (v : View) (p : Pid) (k : MessageKind) (s d : ℕ) (i : MsgId) → IsIn v p (Moves k s d (Some i)) → is_due_piece v p i (told_between p k s d) ≡ true
due_is v p k s d i h =
    let t = told_between p k s d in
    let token : IsToken v p k s d i = h.token in
    not_or (is_piece (sort_of k)) (is_waited_from (source_of i t) (v.known (destination_of i t) p))
    (λ piece. let late = piece_late k piece in waits v p s d (source_of i t) (destination_of i t) (source_is p k s d i token.from) (destination_is p k s d i token.from) (destination_expects v p k s d (Some i) h late.0 late.1))

called_waits : (s a : ℕ) (x : Known) → kind_comes MessageKind.CallOff s x ≡ true → is_waited_from a x ≡ false
called_waits s a (Incoming m) e = absurd (false≢true e)
called_waits s a _ e = refl

-- a piece is left over where it isn't awaited
pub piece_over : (v : View) (p : Pid) (i : MsgId) (t : Told) (s d : ℕ) → brings_piece (sort_of t.kind) ≡ true → t ≡ told_between p t.kind s d → i.from ≡ pid_of s 0 → (v.known d p ≡ Incoming s → ⊥) → is_due_piece v p i t ≡ false
piece_over v p i t s d brings say sender off =
    let on = brings_on t.kind brings in
    let from : source_of i t ≡ s = ap (λ (c : Bool). if c then i.from.home else t.receiver.home) on.0 ∙ ap (λ (q : Pid). q.home) sender in
    let to : destination_of i t ≡ d =
    ap (λ (c : Bool). if c then t.receiver.home else i.from.home) on.0 ∙ ap (λ (u : Told). u.receiver.home) say ∙ ap (λ (c : Bool). if c then d else s) on.0 in
    or_off (is_piece (sort_of t.kind)) (is_waited_from (source_of i t) (v.known (destination_of i t) p)) on.1
    (false_from_ne_true (is_waited_from (source_of i t) (v.known (destination_of i t) p))
    (λ e. off (sym (ap (λ (n : ℕ). v.known n p) to) ∙ waited_is (source_of i t) (v.known (destination_of i t) p) e ∙ ap Incoming from)))

-- and what is left over isn't
pub over_is : (v : View) (p : Pid) (phase : Phase) (i : MsgId) (t : Told) → IsIn v p phase → IsLeft v p phase i t → is_due_piece v p i t ≡ false
over_is v p phase i t h (Asks s d j pulls say way is first) =
    let back = pulls_back t.kind pulls in
    let to : destination_of i t ≡ d = ap (λ (c : Bool). if c then t.receiver.home else i.from.home) back.0 ∙ ap (λ (q : Pid). q.home) way.sender in
    let off : is_waited_from (source_of i t) (v.known (destination_of i t) p) ≡ false =
    ap (λ (n : ℕ). is_waited_from (source_of i t) (v.known n p)) to
    ∙ called_waits s (source_of i t) (v.known d p) (destination_comes v p MessageKind.CallOff s d j (subst (λ (x : Phase). IsIn v p x) is h)) in
    or_off (is_piece (sort_of t.kind)) (is_waited_from (source_of i t) (v.known (destination_of i t) p)) back.1 off
over_is v p phase i t h (Comes s d brings say way off first) = piece_over v p i t s d brings say way.sender off

-- the phase whose message it is
pub record DueOf (v : View) (p : Pid) (now : Phase) (i : MsgId) (t : Told) : Type 0 where
  pub kind : MessageKind
  pub s : ℕ
  pub d : ℕ
  pub phase : now ≡ Moves kind s d (Some i)
  pub told : t ≡ told_between p kind s d
  pub from : i.from ≡ pid_of (sender_in kind s d) 0
  pub kind_is : t.kind ≡ kind

-- what stands somewhere is due, or left over
pub data Which (v : View) (p : Pid) (phase : Phase) (i : MsgId) (t : Told) : Type 0 where
  IsDue : DueOf v p phase i t → is_due_piece v p i t ≡ true → Which v p phase i t
  IsOver : IsLeft v p phase i t → is_due_piece v p i t ≡ false → Which v p phase i t

which_is : (v : View) (h : InPhases v) (q : Pid) (i : MsgId) (t : Told) → v.told i ≡ Some t → TokenOrLeft v q (h.of q) i t → Which v q (h.of q) i t
which_is v h q i t told (Token k s d phase) =
    let token = token_at v q (h.of q) k s d i phase (h.each q) in
    let same : t ≡ told_between q k s d = some_told t (told_between q k s d) (sym told ∙ token.told) in
    IsDue (record { kind = k; s = s; d = d; phase = phase; told = same; from = token.from; kind_is = ap (λ (u : Told). u.kind) same })
    (subst (λ (u : Told). is_due_piece v q i u ≡ true) (sym same) (due_is v q k s d i (subst (λ (x : Phase). IsIn v q x) phase (h.each q))))
which_is v h q i t told (LeftOver left) = IsOver left (over_is v q (h.of q) i t (h.each q) left)

pub which : (v : View) (h : InPhases v) (p : Pid) (i : MsgId) (t : Told) (z : Spot) → v.told i ≡ Some t → is_between t.kind ≡ true → t.about ≡ Of p → 1 ≤ standing v i z → Which v p (h.of p) i t
which v h p i t z told between about st =
    let (q, of_q, is) = token_is v h i t z told between st in
    subst (λ (r : Pid). Which v r (h.of r) i t) (about_same q p (sym of_q ∙ about)) (which_is v h q i t told is)

of_due : (v : View) (p : Pid) (phase : Phase) (i : MsgId) (t : Told) → is_due_piece v p i t ≡ true → Which v p phase i t → DueOf v p phase i t
of_due v p phase i t due (IsDue d e) = d
of_due v p phase i t due (IsOver left off) = absurd (false≢true (sym off ∙ due))

of_over : (v : View) (p : Pid) (phase : Phase) (i : MsgId) (t : Told) → is_due_piece v p i t ≡ false → Which v p phase i t → IsLeft v p phase i t
of_over v p phase i t off (IsDue d due) = absurd (false≢true (sym off ∙ due))
of_over v p phase i t off (IsOver left e) = left

pub due_of : (v : View) (h : InPhases v) (p : Pid) (i : MsgId) (t : Told) (z : Spot) → v.told i ≡ Some t → is_between t.kind ≡ true → t.about ≡ Of p → 1 ≤ standing v i z → is_due_piece v p i t ≡ true → DueOf v p (h.of p) i t
due_of v h p i t z told between about st due = of_due v p (h.of p) i t due (which v h p i t z told between about st)

pub over_of : (v : View) (h : InPhases v) (p : Pid) (i : MsgId) (t : Told) (z : Spot) → v.told i ≡ Some t → is_between t.kind ≡ true → t.about ≡ Of p → 1 ≤ standing v i z → is_due_piece v p i t ≡ false → IsLeft v p (h.of p) i t
over_of v h p i t z told between about st off = of_over v p (h.of p) i t off (which v h p i t z told between about st)

-- what asks for no piece and brings none is due
pub plainly_due : (v : View) (p : Pid) (i : MsgId) (t : Told) → is_piece (sort_of t.kind) ≡ false → is_due_piece v p i t ≡ true
plainly_due v p i t e = ap (λ (b : Bool). not b || is_waited_from (source_of i t) (v.known (destination_of i t) p)) e

pub over_piece : (v : View) (p : Pid) (i : MsgId) (t : Told) → is_due_piece v p i t ≡ false → (is_piece (sort_of t.kind) ≡ true) × (is_waited_from (source_of i t) (v.known (destination_of i t) p) ≡ false)
over_piece v p i t e = or_piece (is_piece (sort_of t.kind)) (is_waited_from (source_of i t) (v.known (destination_of i t) p)) e

-- where no machine awaits more than before, what is left over stays so
pub still_over : (v w : View) (p : Pid) (i : MsgId) (t : Told) → is_due_piece v p i t ≡ false → ((n from : ℕ) → is_waited_from from (w.known n p) ≡ true → is_waited_from from (v.known n p) ≡ true) → is_due_piece w p i t ≡ false
still_over v w p i t off kept =
    let both = over_piece v p i t off in
    or_off (is_piece (sort_of t.kind)) (is_waited_from (source_of i t) (w.known (destination_of i t) p)) both.0
    (false_from_ne_true (is_waited_from (source_of i t) (w.known (destination_of i t) p)) (λ e. false≢true (sym both.1 ∙ kept (destination_of i t) (source_of i t) e)))

pub due_same : (v w : View) (p : Pid) (i : MsgId) (t : Told) → ((n from : ℕ) → is_waited_from from (w.known n p) ≡ is_waited_from from (v.known n p)) → is_due_piece w p i t ≡ is_due_piece v p i t
due_same v w p i t same = ap (λ (b : Bool). not (is_piece (sort_of t.kind)) || b) (same (destination_of i t) (source_of i t))

pub known_due : (v w : View) (p : Pid) (i : MsgId) (t : Told) → ((n : ℕ) → w.known n p ≡ v.known n p) → is_due_piece w p i t ≡ is_due_piece v p i t
known_due v w p i t known = due_same v w p i t (λ n from. ap (is_waited_from from) (known n))

-- a machine that comes to know something else than that it awaits a process awaits no more
kept_by : (c : Bool) (x y : Known) (from : ℕ) → is_waited_from from x ≡ false → is_waited_from from (if c then x else y) ≡ true → is_waited_from from y ≡ true
kept_by true x y from e w = absurd (false≢true (sym e ∙ w))
kept_by false x y from e w = w

pub record_kept : (f : ℕ → Pid → Known) (m : ℕ) (p q : Pid) (x : Known) → ((from : ℕ) → is_waited_from from x ≡ false) → (n from : ℕ) → is_waited_from from (at_record f m p x n q) ≡ true → is_waited_from from (f n q) ≡ true
record_kept f m p q x off n from w = kept_by ((m == n) && pid_eq p q) x (f n q) from (off from) w

pub record_apart : (f : ℕ → Pid → Known) (m n : ℕ) (p q : Pid) (x : Known) → pid_eq p q ≡ false → at_record f m p x n q ≡ f n q
record_apart f m n p q x off = ap (λ (c : Bool). if c then x else f n q) (and_false (m == n) (pid_eq p q) off)

-- What each carries.

-- what stands for a message of a migration, due or left over
abbrev pub OneStands : View → Placed → AllRecords → Pid → MsgId → Told → Type 0
OneStands v l r p i t = (is_due_piece v p i t ≡ true → TokenStands v l r p i t) × (is_due_piece v p i t ≡ false → LeftStands l p i)

pub one_keeps : (v w : View) (l placed : Placed) (r s : AllRecords) (p : Pid) (i : MsgId) (t : Told) → is_due_piece w p i t ≡ is_due_piece v p i t → (is_due_piece v p i t ≡ true → TokenStands v l r p i t → TokenStands w placed s p i t)
    → (is_due_piece v p i t ≡ false → LeftStands l p i → LeftStands placed p i) → OneStands v l r p i t → OneStands w placed s p i t
one_keeps v w l placed r s p i t same due over h = (λ e. let was = sym same ∙ e in due was (h.0 was), λ e. let was = sym same ∙ e in over was (h.1 was))

left_carries : (p : Pid) (c d : Option Cargo) (w : What) → (pulls_piece (sort_of (kind_of w)) ≡ true → d ≡ c) → LeftCarries p c w → LeftCarries p d w
left_carries p c d (What.PullState q chunk) same h = (h.0, subst (IsSuch (λ (x : Cargo). HasChunk x.state chunk)) (sym (same refl)) h.1)
left_carries p c d (What.PullBlock q block) same h = (h.0, subst (IsSuch (λ (x : Cargo). HasBlock x.memory block)) (sym (same refl)) h.1)
left_carries p c d (What.State q chunk last bytes) same h = h
left_carries p c d (What.Memory q block bytes) same h = h
left_carries p c d _ same h = absurd h

pub left_keeps : (l placed : Placed) (p : Pid) (i : MsgId) (h : LeftStands l p i) → (pulls_piece (sort_of (kind_of h.message.what)) ≡ true → cargo_at placed p ≡ cargo_at l p) → placed.bag i ≡ Some h.message → LeftStands placed p i
left_keeps l placed p i h cargo is = record { message = h.message; is = is; sender = h.sender; carries = left_carries p (cargo_at l p) (cargo_at placed p) h.message.what cargo h.carries }

-- whoever waits to hear of it
asked_otherwise : (p : Pid) (o : Option Resident) (a b : Option Asker) (w : What) → LeftCarries p (option_map (λ (x : Resident). cargo_of x a) o) w → LeftCarries p (option_map (λ (x : Resident). cargo_of x b) o) w
asked_otherwise p (Some x) a b (What.PullState q chunk) h = h
asked_otherwise p (Some x) a b (What.PullBlock q block) h = h
asked_otherwise p None a b (What.PullState q chunk) h = absurd h.1
asked_otherwise p None a b (What.PullBlock q block) h = absurd h.1
asked_otherwise p o a b (What.State q chunk last bytes) h = h
asked_otherwise p o a b (What.Memory q block bytes) h = h
asked_otherwise p o a b _ h = absurd h

pub left_asks : (l placed : Placed) (p : Pid) (i : MsgId) (h : LeftStands l p i) → resident_at placed p ≡ resident_at l p → placed.bag i ≡ Some h.message → LeftStands placed p i
left_asks l placed p i h same is = record {
  message = h.message;
  is = is;
  sender = h.sender;
  carries = subst (λ (o : Option Resident). LeftCarries p (option_map (λ (x : Resident). cargo_of x (placed.notes p)) o) h.message.what) (sym same)
      (asked_otherwise p (resident_at l p) (l.notes p) (placed.notes p) h.message.what h.carries);
}

-- where nothing that they are read by changes, and what stands stood before
pub token_same : (v w : View) (l placed : Placed) (r s : AllRecords) (p : Pid) (i : MsgId) (t : Told) → cargo_at placed p ≡ cargo_at l p → w.asked p ≡ v.asked p → ((n : ℕ) → s n p ≡ r n p) → (x : TokenStands v l r p i t) → placed.bag i ≡ Some x.message
    → TokenStands w placed s p i t
token_same v w l placed r s p i t cargo asked records x is = record {
  cargo = x.cargo;
  there = cargo ∙ x.there;
  message = x.message;
  is = is;
  sender = x.sender;
  carries = subst (λ (n : ℕ). Carries p x.cargo n (incoming_of (s (destination_of i t) p)) x.message.what) (sym asked)
      (subst (λ (o : Option machine.KernelKnown). Carries p x.cargo (v.asked p) (incoming_of o) x.message.what) (sym (records (destination_of i t))) x.carries);
}

pub tokens_less : (v w : View) (l : Placed) (r s : AllRecords) → ((i : MsgId) → w.told i ≡ v.told i) → ((p : Pid) → w.asked p ≡ v.asked p) → ((n : ℕ) (p : Pid) → w.known n p ≡ v.known n p) → ((n : ℕ) (p : Pid) → s n p ≡ r n p)
    → ((i : MsgId) (t : Told) (z : Spot) → v.told i ≡ Some t → is_between t.kind ≡ true → 1 ≤ standing w i z → (y : Spot) × (1 ≤ standing v i y)) → TokensStand v l r → TokensStand w l s
tokens_less v w l r s told asked known records stood h p i t z is between about st =
    let was : v.told i ≡ Some t = sym (told i) ∙ is in
    let (y, there) = stood i t z was between st in
    one_keeps v w l l r s p i t (known_due v w p i t (λ n. known n p)) (λ due x. token_same v w l l r s p i t refl (asked p) (λ n. records n p) x x.is) (λ off x. x) (h p i t y was between about there)

-- what it carries has no plain meaning
pub carries_plain : (p : Pid) (x : Cargo) (n : ℕ) (a : Option Arrival) (w : What) → Carries p x n a w → plain_what w ≡ None
carries_plain p x n a w h = grind (arith, nat_tests)

-- what is due was told as what it is
pub due_told : (v : View) (l : Placed) (r : AllRecords) (p : Pid) (i : MsgId) (t : Told) (x : TokenStands v l r p i t) → AllOwnStand v l → v.told i ≡ Some t → t ≡ told_of x.message
due_told v l r p i t x own told =
    some_told t (told_of x.message) (sym told ∙ (own i x.message x.is (ap (with_what x.message) (carries_plain p x.cargo (v.asked p) (incoming_of (r (destination_of i t) p)) x.message.what x.carries))).told)

-- it is a kernel's own message
pub left_plain : (p : Pid) (c : Option Cargo) (w : What) → LeftCarries p c w → plain_what w ≡ None
left_plain p c w h = grind (arith, nat_tests)

-- and was told as what it is
pub left_told : (v : View) (l : Placed) (p : Pid) (i : MsgId) (t : Told) (h : LeftStands l p i) → AllOwnStand v l → v.told i ≡ Some t → t ≡ told_of h.message
left_told v l p i t h own told =
    some_told t (told_of h.message) (sym told ∙ (own i h.message h.is (ap (with_what h.message) (left_plain p (cargo_at l p) h.message.what h.carries))).told)

-- what is left over and asks for a piece: it is held back where it is asked for
pub left_held : (v : View) (p : Pid) (phase : Phase) (i : MsgId) (t : Told) → IsIn v p phase → IsLeft v p phase i t → pulls_piece (sort_of t.kind) ≡ true → (s : ℕ) × (d : ℕ) × (v.known s p ≡ Frozen d)
left_held v p phase i t h (Asks s d j pulls say way is first) asks = (s, d, source_holds v p MessageKind.CallOff s d j (subst (λ (x : Phase). IsIn v p x) is h) refl)
left_held v p phase i t h (Comes s d brings say way off first) asks = absurd (false≢true (sym (brings_on t.kind brings).2 ∙ asks))

-- at the front of the machine that it asks
pub record PulledHere (v : View) (p : Pid) (i : MsgId) (t : Told) (m : ℕ) : Type 0 where
  pub d : ℕ
  pub known : v.known m p ≡ Frozen d
  pub from : i.from ≡ pid_of d 0
  pub receiver : t.receiver ≡ pid_of m 0
  -- there it isn't awaited any more
  pub away : v.known d p ≡ Incoming m → ⊥

pub pulled_here : (v : View) (p : Pid) (phase : Phase) (i : MsgId) (t : Told) (m : ℕ) → IsIn v p phase → IsLeft v p phase i t → pulls_piece (sort_of t.kind) ≡ true → 1 ≤ standing v i (Inbox m) → PulledHere v p i t m
pulled_here v p phase i t m h (Asks s d j pulls say way is first) asks st =
    let inside : IsIn v p (Moves MessageKind.CallOff s d j) = subst (λ (x : Phase). IsIn v p x) is h in
    let here : m ≡ s = inbox_is m d s (way.ways (Inbox m) st) in
    let back = pulls_back t.kind pulls in
    record {
      d = d;
      known = ap (λ (n : ℕ). v.known n p) here ∙ source_holds v p MessageKind.CallOff s d j inside refl;
      from = way.sender;
      receiver = ap (λ (u : Told). u.receiver) say ∙ ap (λ (c : Bool). pid_of (if c then d else s) 0) back.0 ∙ ap (λ (n : ℕ). pid_of n 0) (sym here);
      away = λ e. false≢true (sym (called_waits s m (v.known d p) (destination_comes v p MessageKind.CallOff s d j inside)) ∙ ap (is_waited_from m) e ∙ eq_self m);
    }
pulled_here v p phase i t m h (Comes s d brings say way off first) asks st = absurd (false≢true (sym (brings_on t.kind brings).2 ∙ asks))

-- What is due becomes left over where it is awaited no more.

pub left_of : (p : Pid) (c : Cargo) (n : ℕ) (a : Option Arrival) (o : Option Cargo) (w : What) → c.pid ≡ p → o ≡ Some c → is_piece (sort_of (kind_of w)) ≡ true → Carries p c n a w → LeftCarries p o w
left_of p c n a o (What.PullState q chunk) named is piece h = (h.0, subst (IsSuch (λ (x : Cargo). HasChunk x.state chunk)) (sym is) h.1.1)
left_of p c n a o (What.PullBlock q block) named is piece h = (h.0, subst (IsSuch (λ (x : Cargo). HasBlock x.memory block)) (sym is) h.1.1)
left_of p c n a o (What.State q chunk last bytes) named is piece h = (let e : q ≡ c.pid = cc (h.0) in e ∙ named)
left_of p c n a o (What.Memory q block bytes) named is piece h = (let e : q ≡ c.pid = cc (h.0) in e ∙ named)
left_of p c n a o _ named is piece h = absurd (false≢true piece)

-- it bears the name of what it is of
pub cargo_named : (pt : Point) (l : Placed) (p : Pid) (c : Cargo) → Mirrors pt.kernel pt.view pt.addresses l → cargo_at l p ≡ Some c → c.pid ≡ p
cargo_named pt l p c mirrors is =
    let of = is_cargo_of (resident_at l p) (l.notes p) c is in
    ap (λ (z : Cargo). z.pid) (sym of.is) ∙ (resident_is pt.kernel pt.view pt.addresses l p of.resident mirrors of.there).name

pub due_left : (pt : Point) (l : Placed) (r : AllRecords) (p : Pid) (i : MsgId) (t : Told) (h : TokenStands pt.view l r p i t) → Mirrors pt.kernel pt.view pt.addresses l → is_piece (sort_of (kind_of h.message.what)) ≡ true → LeftStands l p i
due_left pt l r p i t h mirrors piece = record {
  message = h.message;
  is = h.is;
  sender = h.sender;
  carries = left_of p h.cargo (pt.view.asked p) (incoming_of (r (destination_of i t) p)) (cargo_at l p) h.message.what (cargo_named pt l p h.cargo mirrors h.there) h.there piece h.carries;
}

-- what is left over while a process moves that isn't called off is a piece
abbrev kind_in : Phase → MessageKind
kind_in (Moves k s d o) = k
kind_in _ = MessageKind.Bury

pub piece_only : (v : View) (p : Pid) (k : MessageKind) (s d : ℕ) (o : Option MsgId) (i : MsgId) (t : Told) → is_calloff k ≡ false → IsLeft v p (Moves k s d o) i t → brings_piece (sort_of t.kind) ≡ true
piece_only v p k s d o i t on (Asks a c j pulls say way is first) = absurd (false≢true (sym on ∙ ap is_calloff (ap kind_in is)))
piece_only v p k s d o i t on (Comes a c brings say way off first) = brings

pub onward_on : (k : MessageKind) → tells_onward (sort_of k) ≡ true → is_calloff k ≡ false
onward_on MessageKind.CallOff e = absurd (false≢true e)
onward_on _ e = refl

-- Whether all of a process has come, by what is asked for where it comes.

come_by : (p : Pid) (c : Cargo) (n : ℕ) (a : Arrival) (w : What) (come : Bool) → is_early (kind_of w) ≡ false → is_calloff (kind_of w) ≡ false → HasCome (tells_come (sort_of (kind_of w))) come → Carries p c n (Some a) w → come ≡ is_whole a.wanted
come_by p c n a (What.PullState q chunk) come late on is h = is ∙ ap is_whole (sym h.2)
come_by p c n a (What.State q chunk last bytes) come late on is h = is ∙ ap is_whole (sym h.2)
come_by p c n a (What.PullBlock q block) come late on is h = is ∙ ap is_whole (sym h.2)
come_by p c n a (What.Memory q block bytes) come late on is h = is ∙ ap is_whole (sym h.2)
come_by p c n a (What.AllTaken q) come late on is h = is ∙ ap is_whole (sym h.1)
come_by p c n a (What.Restart q) come late on is h = is ∙ ap is_whole (sym h.1)
come_by p c n a (What.Ask q blocks moves size asker) come late on is h = absurd (false≢true (sym late))
come_by p c n a (What.Refuse q slots blocks) come late on is h = absurd (false≢true (sym late))
come_by p c n a (What.CallOff q) come late on is h = absurd (false≢true (sym on))
come_by p c n a _ come late on is h = absurd h

-- what moves to a machine that awaits it: the one message of its migration
pub record Awaited (v : View) (p : Pid) (now : Phase) (m from : ℕ) : Type 0 where
  pub kind : MessageKind
  pub id : MsgId
  pub phase : now ≡ Moves kind from m (Some id)
  pub late : is_early kind ≡ false
  pub on : is_calloff kind ≡ false

awaited_by : (v : View) (h : InPhases v) (p : Pid) (m from : ℕ) (k : MessageKind) (o : Option MsgId) → h.of p ≡ Moves k from m o → is_early k ≡ false → is_calloff k ≡ false → Awaited v p (h.of p) m from
awaited_by v h p m from k None is late on = (let e = h.put p (ap is_due is) in let f : ⊥ = cc in absurd f)
awaited_by v h p m from k (Some i) is late on = record { kind = k; id = i; phase = is; late = late; on = on }

pub awaited : (v : View) (h : InPhases v) (p : Pid) (m from : ℕ) → v.known m p ≡ Incoming from → Awaited v p (h.of p) m from
awaited v h p m from is =
    let c = coming_is (h.of p) m from (sym (ap (knows (h.of p) m) is) ∙ (h.each p).known m) in
    awaited_by v h p m from c.kind c.id c.is c.late c.on

pub come_is : (v : View) (h : InPhases v) (l : Placed) (records : AllRecords) (p : Pid) (m from : ℕ) (a : Arrival) → TokensStand v l records → AllOwnStand v l → v.known m p ≡ Incoming from → records m p ≡ Some (Record.Incoming a) → v.come p ≡ is_whole a.wanted
come_is v h l records p m from a tokens own known is =
    let w = awaited v h p m from known in
    let token = token_at v p (h.of p) w.kind from m w.id w.phase (h.each p) in
    let inside : IsIn v p (Moves w.kind from m (Some w.id)) = subst (λ (x : Phase). IsIn v p x) w.phase (h.each p) in
    let t = told_between p w.kind from m in
    let between : is_between w.kind ≡ true = left_and (is_between w.kind) (not (from == m)) inside.apart in
    let x = (tokens p w.id t token.spot token.told between refl token.stands).0 (due_is v p w.kind from m w.id inside) in
    let kind : w.kind ≡ kind_of x.message.what = ap (λ (u : Told). u.kind) (due_told v l records p w.id t x own token.told) in
    let to : records (destination_of w.id t) p ≡ Some (Record.Incoming a) = ap (λ (n : ℕ). records n p) (destination_is p w.kind from m w.id token.from) ∙ is in
    come_by p x.cargo (v.asked p) a x.message.what (v.come p) (ap is_early (sym kind) ∙ w.late) (ap is_calloff (sym kind) ∙ w.on)
    (subst (λ (k : MessageKind). HasCome (tells_come (sort_of k)) (v.come p)) kind inside.come) (subst (λ (o : Option machine.KernelKnown). Carries p x.cargo (v.asked p) (incoming_of o) x.message.what) to x.carries)
  where
    left_and : (a b : Bool) → (a && b) ≡ true → a ≡ true
    left_and true b e = refl
    left_and false b e = absurd (false≢true e)

-- Where a machine calls a process off that comes to it: what was asked for is left over, and all else stands.

-- the phase says of what moves whether it has come
wanted_piece : (k : MessageKind) (come : Bool) → is_between k ≡ true → is_early k ≡ false → is_calloff k ≡ false → HasCome (tells_come (sort_of k)) come → come ≡ false → is_piece (sort_of k) ≡ true
wanted_piece MessageKind.PullState come between late on is e = refl
wanted_piece MessageKind.State come between late on is e = refl
wanted_piece MessageKind.PullBlock come between late on is e = refl
wanted_piece MessageKind.Memory come between late on is e = refl
wanted_piece MessageKind.AllTaken come between late on is e = absurd (false≢true (sym e ∙ is))
wanted_piece MessageKind.Restart come between late on is e = absurd (false≢true (sym e ∙ is))
wanted_piece MessageKind.Ask come between late on is e = absurd (false≢true (sym late))
wanted_piece MessageKind.Refuse come between late on is e = absurd (false≢true (sym late))
wanted_piece MessageKind.CallOff come between late on is e = absurd (false≢true (sym on))
wanted_piece _ come between late on is e = absurd (false≢true between)

-- what a calling off of process p at machine m leaves of what was seen, of the kernel with places and of what machines know
pub record CallsOff (v w : View) (l placed : Placed) (before after : AllRecords) (p : Pid) (m from : ℕ) : Type 0 where
  pub comes : v.known m p ≡ Incoming from
  pub less : v.come p ≡ false
  pub forwards : is_waited_from from (w.known m p) ≡ false
  pub told : w.told ≡ v.told
  pub asked : (q : Pid) → w.asked q ≡ v.asked q
  pub known : (n : ℕ) (q : Pid) → pid_eq p q ≡ false → w.known n q ≡ v.known n q
  pub kept : (n c : ℕ) → is_waited_from c (w.known n p) ≡ true → is_waited_from c (v.known n p) ≡ true
  pub residents : (q : Pid) → resident_at placed q ≡ resident_at l q
  pub notes : (q : Pid) → placed.notes q ≡ l.notes q
  pub records : (n : ℕ) (q : Pid) → pid_eq p q ≡ false → after n q ≡ before n q
  pub stood : (i : MsgId) (z : Spot) → 1 ≤ standing w i z → 1 ≤ standing v i z
  pub bag : (i : MsgId) (t : Told) (z : Spot) → v.told i ≡ Some t → is_between t.kind ≡ true → 1 ≤ standing w i z → placed.bag i ≡ l.bag i

pub tokens_called : (pt : Point) (w : View) (l placed : Placed) (before after : AllRecords) (p : Pid) (m from : ℕ) → InPhases pt.view → Mirrors pt.kernel pt.view pt.addresses l → AllOwnStand pt.view l → CallsOff pt.view w l placed before after p m from
    → TokensStand pt.view l before → TokensStand w placed after
tokens_called pt w l placed before after p m from phases mirrors own c h q i t z told between about st =
    let v = pt.view in
    let was : v.told i ≡ Some t = ap (λ (f : MsgId → Option Told). f i) (sym c.told) ∙ told in
    let least = c.stood i z st in
    let same = c.bag i t z was between st in
    let stands : OneStands v l before q i t = h q i t z was between about least in
    let cargo = cargo_same l placed q (c.residents q) (c.notes q) in
    elim (cases_Bool (pid_eq p q)) [
      | inr apart ↦
          one_keeps v w l placed before after q i t (known_due v w q i t (λ n. c.known n q apart)) (λ due x. token_same v w l placed before after q i t cargo (c.asked q) (λ n. c.records n q apart) x (same ∙ x.is))
          (λ off x. left_keeps l placed q i x (λ asks. cargo) (same ∙ x.is)) stands
      | inl is_p ↦
          let is : p ≡ q = pid_eq-is p q is_p in
          let mine : t.about ≡ Of p = about ∙ ap Of (sym is) in
          let x = called_over pt w l before p m from i t z phases mirrors own was between mine least c.comes c.less c.forwards c.kept (subst (λ (r : Pid). OneStands v l before r i t) (sym is) stands) in
          let y = left_keeps l placed p i x.1 (λ asks. cargo_same l placed p (c.residents p) (c.notes p)) (same ∙ x.1.is) in
          subst (λ (r : Pid). OneStands w placed after r i t) is (λ due. absurd (false≢true (sym x.0 ∙ due)), λ off. y)
    ]
  where
    -- what stands for it is left over then
    called_over : (pt : Point) (w : View) (l : Placed) (before : AllRecords) (p : Pid) (m from : ℕ) (i : MsgId) (t : Told) (z : Spot) → InPhases pt.view → Mirrors pt.kernel pt.view pt.addresses l → AllOwnStand pt.view l → pt.view.told i ≡ Some t → is_between t.kind ≡ true → t.about ≡ Of p
        → 1 ≤ standing pt.view i z → pt.view.known m p ≡ Incoming from → pt.view.come p ≡ false → is_waited_from from (w.known m p) ≡ false → ((n c : ℕ) → is_waited_from c (w.known n p) ≡ true → is_waited_from c (pt.view.known n p) ≡ true) → OneStands pt.view l before p i t
        → (is_due_piece w p i t ≡ false) × LeftStands l p i
    called_over pt w l before p m from i t z phases mirrors own told between about least comes less forwards kept stands =
        let v = pt.view in
        let a = awaited v phases p m from comes in
        elim (which v phases p i t z told between about least) [
          | IsOver left off ↦ (still_over v w p i t off kept, stands.1 off)
          | IsDue u due ↦
              let one : Moves a.kind from m (Some a.id) ≡ Moves u.kind u.s u.d (Some i) = sym a.phase ∙ u.phase in
              let kind : a.kind ≡ u.kind = cc in
              let s_is : from ≡ u.s = cc in
              let d_is : m ≡ u.d = cc in
              let inside : IsIn v p (Moves a.kind from m (Some a.id)) = subst (λ (x : Phase). IsIn v p x) a.phase (phases.each p) in
              let piece : is_piece (sort_of t.kind) ≡ true =
              ap (λ (k : MessageKind). is_piece (sort_of k)) (u.kind_is ∙ sym kind) ∙ wanted_piece a.kind (v.come p) (ap is_between (kind ∙ sym u.kind_is) ∙ between) a.late a.on inside.come less in
              let x = stands.0 due in
              let named : t ≡ told_of x.message = due_told v l before p i t x own told in
              let to : destination_of i t ≡ m = ap (destination_of i) u.told ∙ destination_is p u.kind u.s u.d i u.from ∙ sym d_is in
              let of : source_of i t ≡ from = ap (source_of i) u.told ∙ source_is p u.kind u.s u.d i u.from ∙ sym s_is in
              let off : is_due_piece w p i t ≡ false =
              or_off (is_piece (sort_of t.kind)) (is_waited_from (source_of i t) (w.known (destination_of i t) p)) piece
              (ap (λ (n : ℕ). is_waited_from (source_of i t) (w.known n p)) to ∙ ap (λ (n : ℕ). is_waited_from n (w.known m p)) of ∙ forwards) in
              (off, due_left pt l before p i t x mirrors (ap (λ (y : Told). is_piece (sort_of y.kind)) (sym named) ∙ piece))
        ]
