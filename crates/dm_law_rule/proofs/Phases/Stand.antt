-- Each process is in a phase; what handles the one message about a process, and what puts the next.
use Rattle.dm_law_rule.proofs.Names.{◌≡◌, ◌⊎◌, ℕ, ◌≤◌, Bool, true, false, refl, ap, ◌∙◌, sym, subst, inl, inr, arith, if◌then◌else◌, Option, None, Some, cases_Bool, false≢true, Pid, pid_eq, MsgId, MessageKind, at_pid, View, Told, Of, Known}
use Rattle.dm_law_rule.proofs.Names.{Spot, Queue, id_eq, id_eq-is, false_from_ne_true, Held, Inbox, Untaken, standing, is_between, is_apart, Phase, Moves, knows, is_due, token_in, sender_in, receiver_in, told_between, IsToken, HasToken, Alone}
use Rattle.dm_law_rule.proofs.Names.{IsIn, pid_eq-is, pid_eq-same, IsLeft, IsBefore, Asks, Comes, ComesIn, is_calloff, Incoming, ◌<◌, ◌==◌, not, not-true, right_true, eqb-true, is_away, kind_comes, kind_leaves, sort_of, pulls_piece}
use Rattle.dm_law_rule.proofs.Names.{brings_piece, none_some}
use Rattle.dm_law_rule.proofs.Lines.{eq_self}
use Rattle.dm_message.specs.declared.kind.MessageKind.TheVariants as kind
use Rattle.dm_law_rule.proofs.Phases.Calm.{Came, Calm, calm_in, between_of, stands_where, left_on, left_same}

-- all processes, where the next message about at most this one isn't put yet
pub record PhasesBut (o : Option Pid) (v : View) : Type 0 where
  pub of : Pid → Phase
  pub each : (p : Pid) → IsIn v p (of p)
  -- what kernels tell each other of migrations is about a process
  pub about : (i : MsgId) (t : Told) → v.told i ≡ Some t → is_between t.kind ≡ true → (p : Pid) × (t.about ≡ Of p)
  pub put : (p : Pid) → is_due (of p) ≡ true → o ≡ Some p

abbrev pub InPhases : View → Type 0
InPhases v = PhasesBut None v

-- no other is due
abbrev pub OnlyDue : Option Pid → Pid → Type 0
OnlyDue o p = (q : Pid) → pid_eq p q ≡ false → o ≡ Some q → ⊥

pub none_only : (p : Pid) → OnlyDue None p
none_only p q off e = cc

pub some_only : (p : Pid) → OnlyDue (Some p) p
some_only p q off e = let f : p ≡ q = cc in false≢true (sym off ∙ ap (pid_eq p) (sym f) ∙ pid_eq-same p)

abbrev pub due_of : Phase → Pid → Option Pid
due_of phase p = if is_due phase then Some p else None

abbrev pub calm_phases : {o : Option Pid} (v w : View) → Calm v w → PhasesBut o v → PhasesBut o w
calm_phases v w c h = record {
  of = h.of;
  each = λ p. calm_in v w p (h.of p) c (h.each p);
  about = λ i t told b. h.about i t (c.fresh i t told b) b;
  put = h.put;
}

-- what a message of the protocol is that stands somewhere: the token of its process, or left over
pub data TokenOrLeft (v : View) (p : Pid) (phase : Phase) (i : MsgId) (t : Told) : Type 0 where
  Token : (k : MessageKind) (s d : ℕ) → phase ≡ Moves k s d (Some i) → TokenOrLeft v p phase i t
  LeftOver : IsLeft v p phase i t → TokenOrLeft v p phase i t

-- the phase whose token it is
pub phase_of : (phase : Phase) (i : MsgId) → token_in phase ≡ Some i → (k : MessageKind) × (s : ℕ) × (d : ℕ) × (phase ≡ Moves k s d (Some i))
phase_of (Moves k s d id) i e = (k, s, d, ap (λ (o : Option MsgId). Moves k s d o) e)
phase_of _ i e = none_some i e

pub token_is : (v : View) (h : InPhases v) (i : MsgId) (t : Told) (z : Spot) → v.told i ≡ Some t → is_between t.kind ≡ true → 1 ≤ standing v i z → (p : Pid) × (t.about ≡ Of p) × TokenOrLeft v p (h.of p) i t
token_is v h i t z told b st =
    let (p, about) = h.about i t told b in (
      p,
      about,
      elim ((h.each p).alone i t z told b about st) [
        | inl is ↦ let (k, s, d, phase) = phase_of (h.of p) i is in Token k s d phase
        | inr left ↦ LeftOver left
      ],
    )

-- the token of a phase
pub token_at : (v : View) (p : Pid) (phase : Phase) (k : MessageKind) (s d : ℕ) (i : MsgId) → phase ≡ Moves k s d (Some i) → IsIn v p phase → IsToken v p k s d i
token_at v p phase k s d i e h = (subst (λ (x : Phase). IsIn v p x) e h).token

-- it stands in no queue and no held list
abbrev is_list : Spot → Bool
is_list (Inbox m) = false
is_list (Untaken a b) = false
is_list _ = true

-- where what is left over stands
pub left_ways : (v : View) (p : Pid) (phase : Phase) (i : MsgId) (t : Told) (z : Spot) → IsLeft v p phase i t → 1 ≤ standing v i z → is_list z ≡ false
left_ways v p phase i t z (Asks s d j pulls told way is first) st = elim (way.ways z st) [ inl x ↦ ap is_list x | inr x ↦ ap is_list x ]
left_ways v p phase i t z (Comes s d brings told way off first) st = elim (way.ways z st) [ inl x ↦ ap is_list x | inr x ↦ ap is_list x ]

-- and that it is told to a kernel
pub left_receiver : (v : View) (p : Pid) (phase : Phase) (i : MsgId) (t : Told) → IsLeft v p phase i t → t.receiver.num ≡ 0
left_receiver v p phase i t (Asks s d j pulls told way is first) = ap (λ (y : Told). y.receiver.num) told
left_receiver v p phase i t (Comes s d brings told way off first) = ap (λ (y : Told). y.receiver.num) told

listed_free : (v : View) (h : InPhases v) (i : MsgId) (t : Told) (z : Spot) → is_list z ≡ true → v.told i ≡ Some t → 1 ≤ standing v i z → (b : Bool) → is_between t.kind ≡ b → b ≡ false
listed_free v h i t z l told st true b =
    let (p, about, is) = token_is v h i t z told b st in
    let at : (x : TokenOrLeft v p (h.of p) i t) → is_list z ≡ false = λ x. elim x [
      | Token k s d is ↦ elim ((token_at v p (h.of p) k s d i is (h.each p)).ways z st) [ inl x ↦ ap is_list x | inr x ↦ ap is_list x ]
      | LeftOver left ↦ left_ways v p (h.of p) i t z left st
    ] in
    absurd (false≢true (sym (at is) ∙ l))
listed_free v h i t z l told st false b = refl

pub queued_plain : (v : View) (m : ℕ) (p : Pid) (i : MsgId) (t : Told) → InPhases v → v.told i ≡ Some t → 1 ≤ standing v i (Queue m p) → is_between t.kind ≡ false
queued_plain v m p i t h told st = listed_free v h i t (Queue m p) refl told st (is_between t.kind) refl

pub held_plain : (v : View) (m : ℕ) (p : Pid) (i : MsgId) (t : Told) → InPhases v → v.told i ≡ Some t → 1 ≤ standing v i (Held m p) → is_between t.kind ≡ false
held_plain v m p i t h told st = listed_free v h i t (Held m p) refl told st (is_between t.kind) refl

-- the phase of one process changes
pub phase_set : {o : Option Pid} (v w : View) (p : Pid) (next : Phase) (u : Option Pid) (h : PhasesBut o v) → OnlyDue o p → (is_due next ≡ true → u ≡ Some p) → ((q : Pid) → pid_eq p q ≡ false → IsIn w q (h.of q)) → IsIn w p next
    → ((i : MsgId) (t : Told) → w.told i ≡ Some t → is_between t.kind ≡ true → (q : Pid) × (t.about ≡ Of q)) → PhasesBut u w
phase_set v w p next u h only now others mine about = record {
  of = at_pid h.of p next;
  each = λ q. elim (cases_Bool (pid_eq p q)) [
    | inl same ↦ subst (λ (x : Phase). IsIn w q x) (sym (ap (λ (c : Bool). if c then next else h.of q) same)) (subst (λ (x : Pid). IsIn w x next) (pid_eq-is p q same) mine)
    | inr apart ↦ subst (λ (x : Phase). IsIn w q x) (sym (ap (λ (c : Bool). if c then next else h.of q) apart)) (others q apart)
  ];
  about = about;
  put = λ q due. elim (cases_Bool (pid_eq p q)) [
    | inl same ↦ now (sym (ap (λ (c : Bool). is_due (if c then next else h.of q)) same) ∙ due) ∙ ap Some (pid_eq-is p q same)
    | inr apart ↦ absurd (only q apart (h.put q (sym (ap (λ (c : Bool). is_due (if c then next else h.of q)) apart) ∙ due)))
  ];
}

-- a machine knows something else of a process about which nothing is under way: it ends, it is made
pub record Learns (v w : View) (p : Pid) : Type 0 where
  pub calm : (m : ℕ) (q : Pid) → pid_eq p q ≡ false → w.known m q ≡ v.known m q
  pub come : (q : Pid) → pid_eq p q ≡ false → w.come q ≡ v.come q
  pub fresh : (i : MsgId) (t : Told) → w.told i ≡ Some t → is_between t.kind ≡ true → v.told i ≡ Some t
  pub kept : (i : MsgId) (t : Told) → v.told i ≡ Some t → w.told i ≡ Some t
  -- no message of the protocol comes, and none goes that isn't about it
  pub back : (i : MsgId) (t : Told) → v.told i ≡ Some t → is_between t.kind ≡ true → (z : Spot) → 1 ≤ standing w i z → Came v i z
  pub on : (i : MsgId) (t : Told) (q : Pid) → pid_eq p q ≡ false → v.told i ≡ Some t → is_between t.kind ≡ true → t.about ≡ Of q → (z : Spot) → 1 ≤ standing v i z → (y : Spot) × (1 ≤ standing w i y)

learns_has : (v w : View) (p q : Pid) (phase : Phase) → pid_eq p q ≡ false → is_apart phase ≡ true → Learns v w p → HasToken v q phase → HasToken w q phase
learns_has v w p q (Moves k s d (Some id)) apart a c h =
    let t = told_between q k s d in
    let (y, x) = c.on id t q apart h.told (between_of k s d a) refl h.spot h.stands in
    record {
      told = c.kept id t h.told;
      from = h.from;
      spot = y;
      stands = x;
      ways = λ z st. stands_where v id (sender_in k s d) (receiver_in k s d) z h.ways (c.back id t h.told (between_of k s d a) z st);
    }
learns_has v w p q _ apart a c h = tt

-- what stands now stood before
learns_was : (v w : View) (p q : Pid) (phase : Phase) (i : MsgId) (t : Told) (z : Spot) → Learns v w p → Alone v q phase → w.told i ≡ Some t → is_between t.kind ≡ true → t.about ≡ Of q → 1 ≤ standing w i z → (token_in phase ≡ Some i) ⊎ IsLeft v q phase i t
learns_was v w p q phase i t z c h told b about st =
    let was = c.fresh i t told b in
    elim (c.back i t was b z st) [ inl s ↦ h i t z was b about s | inr x ↦ let (y, s, is) = x in h i t y was b about s ]

learns_alone : (v w : View) (p q : Pid) (phase : Phase) → pid_eq p q ≡ false → Learns v w p → Alone v q phase → Alone w q phase
learns_alone v w p q phase apart c h i t z told b about st = elim (learns_was v w p q phase i t z c h told b about st) [
  | inl is ↦ inl is
  | inr left ↦ inr (left_same v w q phase i t (λ y s. c.back i t (c.fresh i t told b) b y s) (λ m. c.calm m q apart) left)
]

-- it stood somewhere
pub came_from : (v : View) (i : MsgId) (z : Spot) → Came v i z → (y : Spot) × (1 ≤ standing v i y)
came_from v i z c = elim c [ inl s ↦ (z, s) | inr x ↦ let (y, s, is) = x in (y, s) ]

-- what is left over in the next phase of a process: what was its token or left over, and stands yet
abbrev pub LeavesOver : View → View → Pid → Phase → Phase → Type 0
LeavesOver v w p now next = (i : MsgId) (t : Told) (z : Spot) → v.told i ≡ Some t → is_between t.kind ≡ true → t.about ≡ Of p → 1 ≤ standing w i z → ((y : Spot) → 1 ≤ standing w i y → Came v i y) → (token_in now ≡ Some i) ⊎ IsLeft v p now i t → IsLeft w p next i t

-- the process itself comes to a phase without a message under way
none_left : (v w : View) (p : Pid) (now next : Phase) → Learns v w p → Alone v p now → LeavesOver v w p now next → Alone w p next
none_left v w p now next c h left i t z told b about st =
    let was = c.fresh i t told b in
    inr (left i t z was b about st (λ y s. c.back i t was b y s) (learns_was v w p p now i t z c h told b about st))

-- whether the move is called off in this phase
abbrev pub calls_in : Phase → Bool
calls_in (Moves k s d o) = is_calloff k
calls_in phase = false

pub never_called : (now : Phase) (s d : ℕ) (j : Option MsgId) → calls_in now ≡ false → now ≡ Moves kind.CallOff s d j → ⊥
never_called now s d j off is = false≢true (sym off ∙ ap calls_in is)

-- what asks for a move isn't put yet
pub none_first : (next : Phase) (s d : ℕ) (i : MsgId) (j : Option MsgId) → token_in next ≡ None → next ≡ Moves kind.Ask s d j → IsBefore i j
none_first next s d i j none is = subst (λ (o : Option MsgId). IsBefore i o) (sym none ∙ ap token_in is) tt

-- the token is gone, and the machines await nothing else than before
pub quiet_left : (v w : View) (p : Pid) (now next : Phase) → token_in next ≡ None → calls_in now ≡ false → ((m s : ℕ) → w.known m p ≡ Incoming s → v.known m p ≡ Incoming s) → ((i : MsgId) → token_in now ≡ Some i → (z : Spot) → standing w i z ≡ 0) → LeavesOver v w p now next
quiet_left v w p now next none off known gone i t z told b about st back was = elim was [
  | inl mine ↦ absurd (let none_ : standing w i z ≡ 0 = gone i mine z in omega (arith, st, none_))
  | inr left ↦ left_on v w p now next i t back (λ s d j pulls way is first. absurd (never_called now s d j off is)) (λ s d brings way away first here. away (known d s here)) (λ s d j brings way first is. none_first next s d i j none is) left
]

rests_token : (w : View) (p : Pid) (phase : Phase) → token_in phase ≡ None → HasToken w p phase
rests_token w p (Moves k s d (Some i)) e = cc
rests_token w p _ e = tt

-- the phases behind, and the one that changed
pub record Turned (w : View) (p : Pid) (next : Phase) : Type 0 where
  pub phases : PhasesBut (due_of next p) w
  pub now : phases.of p ≡ next

pub learns_phases : {o : Option Pid} (v w : View) (p : Pid) (next : Phase) (h : PhasesBut o v) → OnlyDue o p → Learns v w p → token_in next ≡ None → is_apart next ≡ true → ((m : ℕ) → knows next m (w.known m p) ≡ true) → ComesIn next (w.come p)
    → LeavesOver v w p (h.of p) next → Turned w p next
unfolding phase_set
learns_phases v w p next h only c none apart known come left = record {
  phases = phase_set v w p next (due_of next p) h only (λ (e : is_due next ≡ true). ap (λ (x : Bool). if x then Some p else None) e) (λ q off. record {
    known = λ m. ap (knows (h.of q) m) (c.calm m q off) ∙ (h.each q).known m;
    token = learns_has v w p q (h.of q) off (h.each q).apart c (h.each q).token;
    alone = learns_alone v w p q (h.of q) off c (h.each q).alone;
    apart = (h.each q).apart;
    come = subst (λ (x : Bool). ComesIn (h.of q) x) (sym (c.come q off)) (h.each q).come;
  })
      (record { known = known; token = rests_token w p next none; alone = none_left v w p (h.of p) next c (h.each p).alone left; apart = apart; come = come })
      (λ i t told b. h.about i t (c.fresh i t told b) b);
  now = ap (λ (x : Bool). if x then next else h.of p) (pid_eq-same p);
}

-- what a machine learns is nothing that it awaits
pub kept_awaited : (b : Bool) (x y : Known) (s : ℕ) → ((s : ℕ) → x ≡ Incoming s → ⊥) → (if b then x else y) ≡ Incoming s → y ≡ Incoming s
kept_awaited true x y s off e = absurd (off s e)
kept_awaited false x y s off e = e

-- only a message that is left over goes
pub record Gone (v w : View) (i : MsgId) : Type 0 where
  pub known : w.known ≡ v.known
  pub come : w.come ≡ v.come
  pub told : w.told ≡ v.told
  pub spots : (j : MsgId) → id_eq i j ≡ false → (z : Spot) → standing w j z ≡ standing v j z
  pub nowhere : (z : Spot) → standing w i z ≡ 0

gone_has : (v w : View) (i : MsgId) (p : Pid) (phase : Phase) → Gone v w i → (token_in phase ≡ Some i → ⊥) → HasToken v p phase → HasToken w p phase
gone_has v w i p (Moves k s d (Some j)) c off h =
    let apart : id_eq i j ≡ false = false_from_ne_true (id_eq i j) (λ e. off (ap Some (sym (id_eq-is i j e)))) in
    record {
      told = ap (λ (f : MsgId → Option Told). f j) c.told ∙ h.told;
      from = h.from;
      spot = h.spot;
      stands = subst (λ n. 1 ≤ n) (sym (c.spots j apart h.spot)) h.stands;
      ways = λ z st. h.ways z (subst (λ n. 1 ≤ n) (c.spots j apart z) st);
    }
gone_has v w i p _ c off h = tt

-- it stood before, where it stands
gone_back : (v w : View) (i j : MsgId) (z : Spot) → Gone v w i → 1 ≤ standing w j z → 1 ≤ standing v j z
gone_back v w i j z c st = elim (cases_Bool (id_eq i j)) [
  | inl same ↦ absurd (let none : standing w j z ≡ 0 = subst (λ (y : MsgId). standing w y z ≡ 0) (id_eq-is i j same) (c.nowhere z) in omega (arith, st, none))
  | inr apart ↦ subst (λ n. 1 ≤ n) (c.spots j apart z) st
]

gone_in : (v w : View) (i : MsgId) (p : Pid) (phase : Phase) → Gone v w i → (token_in phase ≡ Some i → ⊥) → IsIn v p phase → IsIn w p phase
gone_in v w i p phase c off h = record {
  known = λ m. ap (λ (f : ℕ → Pid → Known). knows phase m (f m p)) c.known ∙ h.known m;
  token = gone_has v w i p phase c off h.token;
  alone = λ j t z told b about st. elim (h.alone j t z (sym (ap (λ (f : MsgId → Option Told). f j) c.told) ∙ told) b about (gone_back v w i j z c st)) [
    | inl is ↦ inl is
    | inr left ↦ inr (left_same v w p phase j t (λ y s. inl (gone_back v w i j y c s)) (λ m. ap (λ (f : ℕ → Pid → Known). f m p) c.known) left)
  ];
  apart = h.apart;
  come = subst (λ (f : Pid → Bool). ComesIn phase (f p)) (sym c.come) h.come;
}

-- and each process is in the same phase
pub record Same (v w : View) (h : InPhases v) : Type 0 where
  pub phases : InPhases w
  pub same : (p : Pid) → phases.of p ≡ h.of p

pub gone_phases : (v w : View) (i : MsgId) (h : InPhases v) → Gone v w i → ((p : Pid) → token_in (h.of p) ≡ Some i → ⊥) → Same v w h
gone_phases v w i h c off = record {
  phases = record {
    of = h.of;
    each = λ p. gone_in v w i p (h.of p) c (off p) (h.each p);
    about = λ j t told b. h.about j t (sym (ap (λ (f : MsgId → Option Told). f j) c.told) ∙ told) b;
    put = h.put;
  };
  same = λ p. refl;
}

-- a piece goes from the source to the destination
pub piece_ways : (k : MessageKind) (s d : ℕ) → brings_piece (sort_of k) ≡ true → (sender_in k s d ≡ s) × (receiver_in k s d ≡ d)
piece_ways MessageKind.State s d e = (refl, refl)
piece_ways MessageKind.Memory s d e = (refl, refl)
piece_ways _ s d e = absurd (false≢true e)

-- what asks for one the other way
pub pull_ways : (k : MessageKind) (s d : ℕ) → pulls_piece (sort_of k) ≡ true → (sender_in k s d ≡ d) × (receiver_in k s d ≡ s)
pull_ways MessageKind.PullState s d e = (refl, refl)
pull_ways MessageKind.PullBlock s d e = (refl, refl)
pull_ways _ s d e = absurd (false≢true e)

pub never_both : (k : MessageKind) → pulls_piece (sort_of k) ≡ true → brings_piece (sort_of k) ≡ false
never_both MessageKind.PullState e = refl
never_both MessageKind.PullBlock e = refl
never_both _ e = absurd (false≢true e)

comes_by : (from : ℕ) (y : Known) → kind_comes MessageKind.State from y ≡ true → y ≡ Incoming from
comes_by from (Incoming m) e = ap Incoming (sym (eqb-true from m e))
comes_by from _ e = absurd (false≢true e)

awaits : (k : MessageKind) (from : ℕ) (y : Known) → brings_piece (sort_of k) ≡ true → kind_comes k from y ≡ true → y ≡ Incoming from
awaits MessageKind.State from y brings e = comes_by from y e
awaits MessageKind.Memory from y brings e = comes_by from y e
awaits _ from y brings e = absurd (false≢true brings)

-- what the destination knows
pub comes_known : (v : View) (p : Pid) (k : MessageKind) (s d : ℕ) (o : Option MsgId) → IsIn v p (Moves k s d o) → kind_comes k s (v.known d p) ≡ true
comes_known v p k s d o h =
    let y = v.known d p in
    let off : (s == d) ≡ false = not-true (s == d) (right_true (is_between k) (not (s == d)) h.apart) in
    ap (λ (c : Bool). if c then kind_comes k s y else is_away y) (sym (eq_self d)) ∙ ap (λ (c : Bool). if c then kind_leaves k d y else if d == d then kind_comes k s y else is_away y) (sym off) ∙ h.known d

-- a piece that is its process's token is awaited
pub piece_awaited : (v : View) (p : Pid) (k : MessageKind) (s d : ℕ) (o : Option MsgId) → IsIn v p (Moves k s d o) → brings_piece (sort_of k) ≡ true → v.known d p ≡ Incoming s
piece_awaited v p k s d o h brings =
    awaits k s (v.known d p) brings (comes_known v p k s d o h)

-- where a move is called off nothing is awaited
called_comes : (from : ℕ) (y : Known) → kind_comes MessageKind.CallOff from y ≡ true → y ≡ Incoming from → ⊥
called_comes from (Incoming m) e is = false≢true e
called_comes from _ e is = cc

pub called_known : (v : View) (p : Pid) (s d : ℕ) (o : Option MsgId) → IsIn v p (Moves MessageKind.CallOff s d o) → v.known d p ≡ Incoming s → ⊥
called_known v p s d o h here = called_comes s (v.known d p) (comes_known v p MessageKind.CallOff s d o h) here

-- what is left over is no token
pub left_apart : (v : View) (p : Pid) (phase : Phase) (i : MsgId) (t : Told) → IsIn v p phase → v.told i ≡ Some t → IsLeft v p phase i t → token_in phase ≡ Some i → ⊥
left_apart v p phase i t h told (Asks s d j pulls say way is first) mine =
    let same : j ≡ Some i = sym (ap token_in is) ∙ mine in
    let less : i.n < i.n = subst (λ (o : Option MsgId). IsBefore i o) same first in omega (arith, less)
left_apart v p phase i t h told (Comes s d brings say way off first) mine =
    let (k, a, b, is) = phase_of phase i mine in
    let now : IsIn v p (Moves k a b (Some i)) = subst (λ (x : Phase). IsIn v p x) is h in
    let both : told_between p k a b ≡ told_between p t.kind s d = (let f : Some t ≡ Some (told_between p k a b) = sym told ∙ now.token.told in let g : t ≡ told_between p k a b = cc in sym g ∙ say) in
    let kind_is : k ≡ t.kind = ap (λ (y : Told). y.kind) both in
    let bring : brings_piece (sort_of k) ≡ true = ap (λ (x : MessageKind). brings_piece (sort_of x)) kind_is ∙ brings in
    let to : receiver_in k a b ≡ receiver_in t.kind s d = ap (λ (y : Told). y.receiver.home) both in
    let from : sender_in k a b ≡ s = ap (λ (q : Pid). q.home) (sym now.token.from ∙ way.sender) in
    let ends = piece_ways k a b bring in
    let last = piece_ways t.kind s d brings in
    let at : a ≡ s = sym ends.0 ∙ from in
    let bd : b ≡ d = sym ends.1 ∙ to ∙ last.1 in
    off (subst (λ (n : ℕ). v.known d p ≡ Incoming n) at (subst (λ (m : ℕ). v.known m p ≡ Incoming a) bd (piece_awaited v p k a b (Some i) now bring)))
