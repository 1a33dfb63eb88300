-- What leaves the migrations of all processes as they are.
use Rattle.dm_law_rule.proofs.Names.{◌≡◌, ◌⊎◌, ℕ, ◌≤◌, ◌==◌, ◌&&◌, not, Bool, true, false, refl, ap, ◌∙◌, sym, subst, inl, inr, Option, Some, false≢true, Pid, MsgId, MessageKind, id_eq, View, Told, Spot, Queue, Held, Inbox, Untaken, standing}
use Rattle.dm_law_rule.proofs.Names.{id_eq-is, is_between, is_apart, told_between, Phase, Moves, token_in, sender_in, receiver_in, HasToken, IsIn, left_true, About, times, arith, nat_tests, false_from_ne_true, IsWay, IsLeft, IsBefore, Asks}
use Rattle.dm_law_rule.proofs.Names.{Comes, ComesIn, knows, Incoming, sort_of, pulls_piece, brings_piece}
use Rattle.dm_law_rule.specs.View as view
use Rattle.dm_message.specs.declared.kind.MessageKind.TheVariants as kind
use Rattle.dm_law_rule.proofs.Seen.{about_off}

-- the machine that a spot is on, or leads to
abbrev pub machine_of : Spot → ℕ
machine_of (Queue m p) = m
machine_of (Held m p) = m
machine_of (Inbox m) = m
machine_of (Untaken a b) = b

-- a message stood there, or has come to an inbox from a spot of that machine
abbrev pub Came : View → MsgId → Spot → Type 0
Came v i z = (1 ≤ standing v i z) ⊎ ((y : Spot) × (1 ≤ standing v i y) × (z ≡ Inbox (machine_of y)))

pub record Calm (v w : View) : Type 0 where
  pub known : (m : ℕ) (p : Pid) → w.known m p ≡ v.known m p
  pub come : (p : Pid) → w.come p ≡ v.come p
  -- no message of the protocol is told of anew, and what was told stays
  pub fresh : (i : MsgId) (t : Told) → w.told i ≡ Some t → is_between t.kind ≡ true → v.told i ≡ Some t
  pub kept : (i : MsgId) (t : Told) → v.told i ≡ Some t → w.told i ≡ Some t
  -- none of them comes or goes
  pub back : (i : MsgId) (t : Told) → v.told i ≡ Some t → is_between t.kind ≡ true → (z : Spot) → 1 ≤ standing w i z → Came v i z
  pub on : (i : MsgId) (t : Told) → v.told i ≡ Some t → is_between t.kind ≡ true → (z : Spot) → 1 ≤ standing v i z → (y : Spot) × (1 ≤ standing w i y)

pub calm_same : (v : View) → Calm v v
calm_same v = record { known = λ m p. refl; come = λ p. refl; fresh = λ i t e b. e; kept = λ i t e. e; back = λ i t e b z s. inl s; on = λ i t e b z s. (z, s) }

pub calm_trans : (u v w : View) → Calm u v → Calm v w → Calm u w
calm_trans u v w h k = record {
  known = λ m p. k.known m p ∙ h.known m p;
  come = λ p. k.come p ∙ h.come p;
  fresh = λ i t e b. h.fresh i t (k.fresh i t e b) b;
  kept = λ i t e. k.kept i t (h.kept i t e);
  back = λ i t e b z s. grind (arith, nat_tests, h.back i t e b, k.back i t (h.kept i t e) b z s);
  on = λ i t e b z s. (let (y, x) = h.on i t e b z s in k.on i t (h.kept i t e) b y x);
}

-- a phase goes on
pub stands_where : (v : View) (i : MsgId) (from to : ℕ) (z : Spot) → ((y : Spot) → 1 ≤ standing v i y → (y ≡ Inbox to) ⊎ (y ≡ Untaken from to)) → Came v i z → (z ≡ Inbox to) ⊎ (z ≡ Untaken from to)
stands_where v i from to z h c = search arith

-- the kind of a token is one of the protocol
pub between_of : (k : MessageKind) (s d : ℕ) → (is_between k && not (s == d)) ≡ true → is_between k ≡ true
between_of k s d e = left_true (is_between k) (not (s == d)) e

calm_has : (v w : View) (p : Pid) (phase : Phase) → is_apart phase ≡ true → Calm v w → HasToken v p phase → HasToken w p phase
calm_has v w p (Moves k s d (Some id)) a c h =
    let (y, x) = c.on id (told_between p k s d) h.told (between_of k s d a) h.spot h.stands in
    record {
      told = c.kept id (told_between p k s d) h.told;
      from = h.from;
      spot = y;
      stands = x;
      ways = λ z st. stands_where v id (sender_in k s d) (receiver_in k s d) z h.ways (c.back id (told_between p k s d) h.told (between_of k s d a) z st);
    }
calm_has v w p _ a c h = tt

-- a message of one kernel to another's stays on its way
pub way_on : (v w : View) (i : MsgId) (from to : ℕ) → ((z : Spot) → 1 ≤ standing w i z → Came v i z) → IsWay v i from to → IsWay w i from to
way_on v w i from to back h = record { sender = h.sender; own = h.own; ways = λ z st. stands_where v i from to z h.ways (back z st) }

-- what is left over stays so in the next phase, where what asks for a piece stands before what calls the move off, and no piece is awaited or
-- stands behind what asks for the move
pub left_on : (v w : View) (p : Pid) (now next : Phase) (i : MsgId) (t : Told) → ((z : Spot) → 1 ≤ standing w i z → Came v i z)
    → ((s d : ℕ) (j : Option MsgId) → pulls_piece (sort_of t.kind) ≡ true → IsWay v i d s → now ≡ Moves kind.CallOff s d j → IsBefore i j → (u : Option MsgId) × (next ≡ Moves kind.CallOff s d u) × IsBefore i u)
    → ((s d : ℕ) → brings_piece (sort_of t.kind) ≡ true → IsWay v i s d → (v.known d p ≡ Incoming s → ⊥) → ((j : Option MsgId) → now ≡ Moves kind.Ask s d j → IsBefore i j) → w.known d p ≡ Incoming s → ⊥)
    → ((s d : ℕ) (j : Option MsgId) → brings_piece (sort_of t.kind) ≡ true → IsWay v i s d → ((u : Option MsgId) → now ≡ Moves kind.Ask s d u → IsBefore i u) → next ≡ Moves kind.Ask s d j → IsBefore i j)
    → IsLeft v p now i t → IsLeft w p next i t
left_on v w p now next i t back asks known before (Asks s d j pulls told way is first) = let (u, then_, earlier) = asks s d j pulls way is first in Asks s d u pulls told (way_on v w i d s back way) then_ earlier
left_on v w p now next i t back asks known before (Comes s d brings told way off first) = Comes s d brings told (way_on v w i s d back way) (known s d brings way off first) (λ j. before s d j brings way first)

-- in the same phase
pub left_same : (v w : View) (p : Pid) (phase : Phase) (i : MsgId) (t : Told) → ((z : Spot) → 1 ≤ standing w i z → Came v i z) → ((m : ℕ) → w.known m p ≡ v.known m p) → IsLeft v p phase i t → IsLeft w p phase i t
left_same v w p phase i t back same h =
    left_on v w p phase phase i t back (λ s d j pulls way is first. (j, is, first)) (λ s d brings way off first now. off (sym (same d) ∙ now)) (λ s d j brings way first is. first j is) h

pub calm_in : (v w : View) (p : Pid) (phase : Phase) → Calm v w → IsIn v p phase → IsIn w p phase
calm_in v w p phase c h = record {
  known = λ m. ap (knows phase m) (c.known m p) ∙ h.known m;
  token = calm_has v w p phase h.apart c h.token;
  alone = λ i t z told b about st.
      (let was = c.fresh i t told b in
      let here : (token_in phase ≡ Some i) ⊎ IsLeft v p phase i t = elim (c.back i t was b z st) [ inl s ↦ h.alone i t z was b about s | inr x ↦ let (y, s, is) = x in h.alone i t y was b about s ] in
      elim here [ inl is ↦ inl is | inr left ↦ inr (left_same v w p phase i t (λ y s. c.back i t was b y s) (λ m. c.known m p) left) ]);
  apart = h.apart;
  come = subst (λ (x : Bool). ComesIn phase x) (sym (c.come p)) h.come;
}

-- only one message stands elsewhere, and it is none of the protocol
pub record Others (v w : View) (i : MsgId) : Type 0 where
  pub known : (m : ℕ) (p : Pid) → w.known m p ≡ v.known m p
  pub come : (p : Pid) → w.come p ≡ v.come p
  pub told : (j : MsgId) → id_eq i j ≡ false → w.told j ≡ v.told j
  pub spots : (j : MsgId) → id_eq i j ≡ false → (z : Spot) → standing w j z ≡ standing v j z

-- what is told of it, before and behind, is no kind of the protocol
abbrev pub Plain : View → MsgId → Type 0
Plain v i = (t : Told) → v.told i ≡ Some t → is_between t.kind ≡ false

pub other_than : (v : View) (i j : MsgId) (t : Told) → Plain v i → v.told j ≡ Some t → is_between t.kind ≡ true → id_eq i j ≡ false
other_than v i j t plain told b = false_from_ne_true (id_eq i j) (λ e. let is : i ≡ j = id_eq-is i j e in false≢true (sym (plain t (ap v.told is ∙ told)) ∙ b))

pub calm_others : (v w : View) (i : MsgId) → Plain v i → Plain w i → ((t : Told) → v.told i ≡ Some t → w.told i ≡ Some t) → Others v w i → Calm v w
calm_others v w i plain after kept h = record {
  known = h.known;
  come = h.come;
  fresh = λ j t e b. sym (h.told j (other_than w i j t after e b)) ∙ e;
  kept = λ j t e. (search (arith, id_eq-is));
  back = λ j t e b z s. inl (subst (λ n. 1 ≤ n) (h.spots j (other_than v i j t plain e b) z) s);
  on = λ j t e b z s. (z, subst (λ n. 1 ≤ n) (sym (h.spots j (other_than v i j t plain e b) z)) s);
}

-- nothing stands elsewhere
pub calm_still : (v w : View) → ((m : ℕ) (p : Pid) → w.known m p ≡ v.known m p) → ((p : Pid) → w.come p ≡ v.come p) → ((i : MsgId) → w.told i ≡ v.told i) → ((i : MsgId) (z : Spot) → standing w i z ≡ standing v i z) → Calm v w
calm_still v w known come told spots = record {
  known = known;
  come = come;
  fresh = λ i t e b. sym (told i) ∙ e;
  kept = λ i t e. told i ∙ e;
  back = λ i t e b z s. inl (subst (λ n. 1 ≤ n) (spots i z) s);
  on = λ i t e b z s. (z, subst (λ n. 1 ≤ n) (sym (spots i z)) s);
}

-- the topic is no part of it
pub calm_about : (v w : View) (a : About) → Calm v w → Calm v (view.about w a)
calm_about v w a c = calm_trans v w (view.about w a) c (calm_still w (view.about w a) (λ m p. refl) (λ p. refl) (λ i. refl) (λ i z. ap (times i) (about_off w a z)))
