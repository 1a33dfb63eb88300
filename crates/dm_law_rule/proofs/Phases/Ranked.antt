-- What kernels tell each other of migrations stays in order, line by line.
use Rattle.dm_law_rule.proofs.Names.{◌≡◌, ◌⊎◌, ℕ, ◌+◌, ◌<◌, ◌≤◌, ◌==◌, ◌&&◌, Bool, true, false, List, [], ◌∷◌, ◌++◌, refl, ap, ◌∙◌, sym, subst, inl, inr, arith, ⊤, if◌then◌else◌, length, drop, slice_get, drop-append-le, drop-length}
use Rattle.dm_law_rule.proofs.Names.{length-append, cases_Bool, false≢true, nat_tests, Option, None, Some, Pid, pid_of, pid_eq, pid_eq-same, MsgId, MessageKind, id_eq, id_eq-is, id_of, Load, Label, Stage, Step, Line, at_machine, at_pair}
use Rattle.dm_law_rule.proofs.Names.{at_record, without_front, View, Pair, Told, About, NothingElse, Target, own_id, view_after, after_put, after_head, after_label, handled, handled_first, queued_for, held_for, dropped_for, forwarded_for}
use Rattle.dm_law_rule.proofs.Names.{receiver_of, served_told, ends_by, sort_of, released, is_between, untaken, times, both_true, id_eq-same, routed_on, option_map_or, eqb-true, false_from_ne_true, and_parts, append_assoc, and_right, ordered, is_server}
use Rattle.dm_law_rule.specs.View as view
use Rattle.dm_law_rule.proofs.Hushed.{is_put, hushed}
use Rattle.dm_law_rule.proofs.Standing.{times-append}
use Rattle.dm_law_rule.proofs.Once.{one_of}
use Rattle.dm_law_rule.proofs.Lines.{at_machine_off, pair_off, pair_keeps, taken_pair}
use Rattle.dm_law_rule.proofs.Pairs.Lines.{touches, pair_same}
use Rattle.dm_law_rule.proofs.States.{PairsFit, put_told_off}
use Rattle.dm_law_rule.proofs.Ordered.{Thinner, thinner_front, thinner_first, context, narrower, with_other, others_first, last_later, last_more}
use Rattle.dm_law_rule.proofs.Phases.Lines.{put_at}
use Rattle.dm_law_rule.proofs.Phases.Net.{none_taken, taken_front, stream_back, taken_view}
use Rattle.dm_law_rule.proofs.Phases.Quiet.{Tame}

-- from this machine's kernel, and not told to be anything else than of a migration
abbrev pub may_be : View → ℕ → MsgId → Bool
may_be v a i = pid_eq i.from (pid_of a 0) && option_map_or (λ t. is_between t.kind) (v.told i) true

-- the kernel's next
abbrev pub next_of : View → ℕ → MsgId
next_of v a = id_of (pid_of a 0) (v.count a)

-- what leads from one machine to another, with the next that the kernel puts
abbrev pub way : View → ℕ → ℕ → List MsgId
way v a c = v.inbox c ++ (untaken (v.pair a c) ++ next_of v a ∷ [])

-- none of this machine's kernel, or of no kernel but this one
abbrev pub IsNone : View → MsgId → Type 0
IsNone v i = (a : ℕ) → may_be v a i ≡ false

abbrev pub IsOnly : View → ℕ → MsgId → Type 0
IsOnly v a i = (x : ℕ) → (a == x) ≡ false → may_be v x i ≡ false

pub record Ranked (v : View) : Type 0 where
  pub order : (a c : ℕ) → (a == c) ≡ false → ordered (may_be v a) 0 (way v a c) ≡ true
  pub sent : (a c : ℕ) (i : MsgId) → 1 ≤ times i (untaken (v.pair a c)) → IsOnly v a i
  pub held : (m : ℕ) (p : Pid) (i : MsgId) → 1 ≤ times i (v.held m p) → IsNone v i

-- what was told may only be told of more
abbrev pub Narrows : View → View → Type 0
Narrows v w = (a : ℕ) (i : MsgId) → may_be w a i ≡ true → may_be v a i ≡ true

narrow_off : (v w : View) (a : ℕ) (i : MsgId) → Narrows v w → may_be v a i ≡ false → may_be w a i ≡ false
narrow_off v w a i n off = false_from_ne_true (may_be w a i) (λ e. false≢true (sym off ∙ n a i e))

narrows_same : (v w : View) → ((i : MsgId) → w.told i ≡ v.told i) → Narrows v w
narrows_same v w same a i e = ap (λ (o : Option Told). pid_eq i.from (pid_of a 0) && option_map_or (λ t. is_between t.kind) o true) (sym (same i)) ∙ e

pub tame_none : (v : View) (i : MsgId) → Tame v i → IsNone v i
tame_none v i h a =
    and_right (pid_eq i.from (pid_of a 0)) (option_map_or (λ t. is_between t.kind) (v.told i) true) (ap (λ (o : Option Told). option_map_or (λ t. is_between t.kind) o true) h.told ∙ h.plain)

-- nothing is put, and lists only get fewer
record Thin (v w : View) : Type 0 where
  told : (i : MsgId) → w.told i ≡ v.told i
  count : (a : ℕ) → w.count a ≡ v.count a
  inbox : (c : ℕ) → Thinner (w.inbox c) (v.inbox c)
  away : (a c : ℕ) → untaken (w.pair a c) ≡ untaken (v.pair a c)
  held : (m : ℕ) (p : Pid) (i : MsgId) → 1 ≤ times i (w.held m p) → 1 ≤ times i (v.held m p)

thin_ranked : (v w : View) → Thin v w → Ranked v → Ranked w
thin_ranked v w t h =
    let n = narrows_same v w t.told in
    record {
      order = λ a c off.
          (let was : ordered (may_be v a) 0 (v.inbox c ++ (untaken (w.pair a c) ++ next_of w a ∷ [])) ≡ true = ap (λ (xs : List MsgId). ordered (may_be v a) 0 (v.inbox c ++ (xs ++ next_of w a ∷ []))) (t.away a c) ∙ ap (λ (k : ℕ). ordered (may_be v a) 0 (v.inbox c ++ (untaken (v.pair a c) ++ id_of (pid_of a 0) k ∷ []))) (t.count a) ∙ h.order a c off in
          narrower (may_be v a) (may_be w a) 0 (way w a c) (n a) (t.inbox c (may_be v a) 0 (untaken (w.pair a c) ++ next_of w a ∷ []) was));
      sent = λ a c i there x off. narrow_off v w x i n (h.sent a c i (subst (λ (xs : List MsgId). 1 ≤ times i xs) (t.away a c) there) x off);
      held = λ m p i there x. narrow_off v w x i n (h.held m p i (t.held m p i there) x);
    }

-- no list changes but for what was taken, gone or delivered
pub thin_off : (v w : View) → w.told ≡ v.told → w.count ≡ v.count → w.inbox ≡ v.inbox → w.held ≡ v.held → ((a c : ℕ) → untaken (w.pair a c) ≡ untaken (v.pair a c)) → Ranked v → Ranked w
thin_off v w told count inbox held away h = thin_ranked v w (record {
  told = λ i. ap (λ (f : MsgId → Option Told). f i) told;
  count = λ a. ap (λ (f : ℕ → ℕ). f a) count;
  inbox = λ c g from rest e. ap (λ (f : ℕ → List MsgId). ordered g from (f c ++ rest)) inbox ∙ e;
  away = away;
  held = λ m p i there. subst (λ (f : ℕ → Pid → List MsgId). 1 ≤ times i (f m p)) held there;
}) h

-- the lists that a line changes which says nothing of pairs
record Lists (v w : View) : Type 0 where
  inbox : (c : ℕ) → Thinner (w.inbox c) (v.inbox c)
  held : (m : ℕ) (p : Pid) (i : MsgId) → 1 ≤ times i (w.held m p) → 1 ≤ times i (v.held m p)

lists_same : (v w : View) → w.inbox ≡ v.inbox → w.held ≡ v.held → Lists v w
lists_same v w inbox held = record {
  inbox = λ c g from rest e. ap (λ (f : ℕ → List MsgId). ordered g from (f c ++ rest)) inbox ∙ e;
  held = λ m p i there. subst (λ (f : ℕ → Pid → List MsgId). 1 ≤ times i (f m p)) held there;
}

machine_thinner : (f : ℕ → List MsgId) (m : ℕ) (xs : List MsgId) (c : ℕ) → Thinner xs (f m) → Thinner (at_machine f m xs c) (f c)
machine_thinner f m xs c t g from rest e = elim (cases_Bool (m == c)) [
  | inl same ↦
      ap (λ (b : Bool). ordered g from ((if b then xs else f c) ++ rest)) same ∙ t g from rest (ap (λ (k : ℕ). ordered g from (f k ++ rest)) (eqb-true m c same) ∙ e)
  | inr apart ↦ ap (λ (b : Bool). ordered g from ((if b then xs else f c) ++ rest)) apart ∙ e
]

lists_less : (v w : View) (xs : List MsgId) → Thinner xs (v.inbox v.acting) → w.inbox ≡ at_machine v.inbox v.acting xs → w.held ≡ v.held → Lists v w
lists_less v w xs t inbox held = record {
  inbox = λ c g from rest e. ap (λ (f : ℕ → List MsgId). ordered g from (f c ++ rest)) inbox ∙ machine_thinner v.inbox v.acting xs c t g from rest e;
  held = λ m p i there. subst (λ (f : ℕ → Pid → List MsgId). 1 ≤ times i (f m p)) held there;
}

-- the front of the acting machine's inbox goes
lists_handled : (v w : View) (i : MsgId) → w.inbox ≡ (handled v i).inbox → w.held ≡ v.held → Lists v w
lists_handled v w i inbox held = lists_less v w (without_front i (v.inbox v.acting)) (thinner_front i (v.inbox v.acting)) inbox held

lists_first : (v w : View) → w.inbox ≡ (handled_first v).inbox → w.held ≡ v.held → Lists v w
lists_first v w inbox held = lists_less v w (drop 1 (v.inbox v.acting)) (thinner_first (v.inbox v.acting)) inbox held

-- lines that put nothing behind anything, and give nothing back
abbrev pub IsLess : Line → Type 0
IsLess (Line.Head s) = ⊥
IsLess (Line.Put a b i k q) = ⊥
IsLess (Line.Packet a b k l) = ⊥
IsLess (Line.Taken a b n) = ⊥
IsLess (Line.Early a b n) = ⊥
IsLess (Line.Acked a b n) = ⊥
IsLess (Line.Held i) = ⊥
IsLess (Line.Stays p) = ⊥
IsLess (Line.Migration Stage.Restarted p) = ⊥
IsLess (Line.Migration s p) = ⊤
IsLess l = ⊤

label_lists : (v : View) (l : Label) → Lists v (after_label v l)
label_lists v l =
    let dropped : (v : View) (i : MsgId) (o : Option Pid) → Lists v (dropped_for (handled v i) i o) = λ v i o. elim o as (λ o_. Lists v (dropped_for (handled v i) i o_)) [ None ↦ lists_handled v (handled v i) i refl refl | Some q ↦ lists_handled v (dropped_for (handled v i) i (Some q)) i refl refl ] in
    let ends : (v : View) (i : MsgId) (k : MessageKind) (q : Pid) → Lists v (ends_by (sort_of k) (handled v i) (Some q)) = λ v i k q. elim k as (λ k_. Lists v (ends_by (sort_of k_) (handled v i) (Some q)))
    [ MessageKind.Kill ↦ lists_handled v (ends_by (sort_of MessageKind.Kill) (handled v i) (Some q)) i refl refl | _ ↦ lists_handled v (handled v i) i refl refl ] in
    let served : (v : View) (i : MsgId) (o : Option Told) → Lists v (served_told (handled v i) o) = λ v i o. elim o as (λ o_. Lists v (served_told (handled v i) o_)) [ None ↦ lists_handled v (handled v i) i refl refl | Some t ↦ ends v i t.kind t.receiver ] in
    elim l as (λ l_. Lists v (after_label v l_)) [
      | Label.Dropped i ↦ dropped v i (receiver_of (v.told i))
      | Label.Served i ↦ served v i (v.told i)
      | Label.Gone i ↦ lists_handled v (handled v i) i refl refl
      | Label.Took i ↦ lists_handled v (handled v i) i refl refl
      | Label.Created i p ↦ lists_handled v (after_label v (Label.Created i p)) i refl refl
      | Label.NoSpace i a b ↦ lists_handled v (handled v i) i refl refl
      | Label.Asked i ↦ lists_handled v (handled v i) i refl refl
      | Label.Receive p i ↦ lists_same v (after_label v (Label.Receive p i)) refl refl
      | Label.Ran p k ↦ lists_same v (after_label v (Label.Ran p k)) refl refl
      | Label.End p y ↦ lists_same v (after_label v (Label.End p y)) refl refl
      | Label.Refuse p i c ↦ lists_same v (after_label v (Label.Refuse p i c)) refl refl
      | _ ↦ lists_same v v refl refl
    ]

line_lists : (v : View) (l : Line) → IsLess l → Lists v (view_after v l)
line_lists v l h =
    let queued : (v : View) (i : MsgId) (o : Option Pid) → Lists v (queued_for (handled v i) i o) = λ v i o. elim o as (λ o_. Lists v (queued_for (handled v i) i o_)) [ None ↦ lists_handled v (handled v i) i refl refl | Some q ↦ lists_handled v (queued_for (handled v i) i (Some q)) i refl refl ] in
    let buried : (v : View) (i : MsgId) (o : Option Told) → Lists v (view.buried_for (handled v i) o) = λ v i o. elim o as (λ o_. Lists v (view.buried_for (handled v i) o_)) [
      | None ↦ lists_handled v (handled v i) i refl refl
      | Some t ↦ elim t.about as (λ a. Lists v (view.forgotten (handled v i) a)) [ view.Of p ↦ lists_handled v (view.forgotten (handled v i) (view.Of p)) i refl refl | _ ↦ lists_handled v (handled v i) i refl refl ]
    ] in
    let forwarded : (v : View) (i : MsgId) (o : Option Pid) → Lists v (forwarded_for (handled v i) o) = λ v i o. elim o as (λ o_. Lists v (forwarded_for (handled v i) o_)) [ None ↦ lists_handled v (handled v i) i refl refl | Some q ↦ lists_handled v (forwarded_for (handled v i) (Some q)) i refl refl ] in
    let asks : (v : View) (a : About) → ((view.asks_on v a).inbox ≡ v.inbox) × ((view.asks_on v a).held ≡ v.held) = λ v a. elim a as (λ a_. ((view.asks_on v a_).inbox ≡ v.inbox) × ((view.asks_on v a_).held ≡ v.held)) [ NothingElse ↦ (refl, refl) | _ ↦ (refl, refl) ] in
    let follows : (v : View) (a : About) (k : MessageKind) → ((view.follows_by v a (sort_of k)).inbox ≡ v.inbox) × ((view.follows_by v a (sort_of k)).held ≡ v.held) = λ v a k. elim k as (λ k_. ((view.follows_by v a (sort_of k_)).inbox ≡ v.inbox) × ((view.follows_by v a (sort_of k_)).held ≡ v.held))
    [ MessageKind.State ↦ asks v a | MessageKind.Memory ↦ asks v a | _ ↦ (refl, refl) ] in
    let proto : (v : View) (i : MsgId) (o : Option Told) → Lists v (view.after_proto (handled v i) o) = λ v i o. elim o as (λ o_. Lists v (view.after_proto (handled v i) o_)) [
      | None ↦ lists_handled v (view.about (handled v i) NothingElse) i refl refl
      | Some t ↦ let f = follows (handled v i) t.about t.kind in lists_handled v (view.after_proto (handled v i) (Some t)) i f.0 f.1
    ] in
    let sets : (v : View) (p : Pid) (a : About) → Lists v (view.sets_off v p a) = λ v p a. elim a as (λ a_. Lists v (view.sets_off v p a_)) [ Target m ↦ lists_same v (view.sets_off v p (Target m)) refl refl | a_ ↦ lists_first v (view.sets_off v p a_) refl refl ] in
    let sent : (v : View) (p : Pid) → Lists v (record (handled_first v) { queue = at_record v.queue v.acting p []; held = at_record v.held v.acting p []; topic = view.Of p }) = λ v p. record {
      inbox = λ c. machine_thinner v.inbox v.acting (drop 1 (v.inbox v.acting)) c (thinner_first (v.inbox v.acting));
      held = λ m q i there. elim (cases_Bool ((v.acting == m) && pid_eq p q)) [
        | inl same ↦ absurd (let none : times i (at_record v.held v.acting p [] m q) ≡ 0 = ap (λ (c : Bool). times i (if c then [] else v.held m q)) same in omega (arith, there, none))
        | inr off ↦ subst (λ k. 1 ≤ k) (ap (λ (c : Bool). times i (if c then [] else v.held m q)) off) there
      ];
    } in
    let chunk : (v : View) (p : Pid) → Lists v (view_after v (Line.Migration Stage.StateTaken p)) = λ v p. elim (cases_Bool (is_server p)) [
      | inl server ↦ lists_same v (view_after v (Line.Migration Stage.StateTaken p)) (ap (λ (c : Bool). if c then v.inbox else (handled_first v).inbox) server) refl
      | inr process ↦ lists_first v (view_after v (Line.Migration Stage.StateTaken p)) (ap (λ (c : Bool). if c then v.inbox else (handled_first v).inbox) process) refl
    ] in
    let stage : (v : View) (p : Pid) (s : Stage) → IsLess (Line.Migration s p) → Lists v (view_after v (Line.Migration s p)) = λ v p s h. (elim s as (λ s_. IsLess (Line.Migration s_ p) → Lists v (view_after v (Line.Migration s_ p))) [
      | Stage.Frozen ↦ λ h_. sets v p v.topic
      | Stage.Restarted ↦ λ h_. absurd h_
      | Stage.Accepted ↦ λ h_. lists_first v (view_after v (Line.Migration Stage.Accepted p)) refl refl
      | Stage.StateTaken ↦ λ h_. chunk v p
      | Stage.MemoryTaken ↦ λ h_. lists_first v (view_after v (Line.Migration Stage.MemoryTaken p)) refl refl
      | Stage.Left ↦ λ h_. lists_same v (view_after v (Line.Migration Stage.Left p)) refl refl
      | Stage.Asked ↦ λ h_. lists_same v v refl refl
    ]) h in
    (elim l as (λ l_. IsLess l_ → Lists v (view_after v l_)) [
      | Line.Label x ↦ λ h_. label_lists v x
      | Line.Queued i ↦ λ h_. queued v i (receiver_of (v.told i))
      | Line.Forwarded i m ↦ λ h_. forwarded v i (receiver_of (v.told i))
      | Line.Updated i n ↦ λ h_. lists_handled v (handled v i) i refl refl
      | Line.Buried i n ↦ λ h_. buried v i (v.told i)
      | Line.Migration s p ↦ λ h_. stage v p s h_
      | Line.SentOn p n ↦ λ h_. sent v p
      | Line.Lacks p a b ↦ λ h_. lists_first v (view_after v (Line.Lacks p a b)) refl refl
      | Line.Here i ↦ λ h_. lists_handled v (handled v i) i refl refl
      | Line.NoMove i ↦ λ h_. lists_handled v (handled v i) i refl refl
      | Line.Proto i ↦ λ h_. proto v i (v.told i)
      | Line.Idle m ↦ λ h_. lists_same v v refl refl
      | Line.Old a b n ↦ λ h_. lists_same v v refl refl
      | Line.Nothing ↦ λ h_. lists_same v v refl refl
      | Line.Resent m n ↦ λ h_. lists_same v v refl refl
      | Line.NoChild p ↦ λ h_. lists_same v v refl refl
      | Line.NoCall p ↦ λ h_. lists_same v v refl refl
      | Line.Stale i ↦ λ h_. lists_handled v (handled v i) i refl refl
      | Line.Called p n ↦ λ h_. record {
        inbox = λ c g from rest e. e;
        held = λ m q i there. elim (cases_Bool ((v.acting == m) && pid_eq p q)) [
          | inl same ↦ absurd (let none : times i (at_record v.held v.acting p [] m q) ≡ 0 = ap (λ (c : Bool). times i (if c then [] else v.held m q)) same in omega (arith, there, none))
          | inr off ↦ subst (λ k. 1 ≤ k) (ap (λ (c : Bool). times i (if c then [] else v.held m q)) off) there
        ];
      }
      | Line.Away ↦ λ h_. lists_same v v refl refl
      | _ ↦ λ h_. absurd h_
    ]) h

pub less_ranked : (v : View) (l : Line) → is_put l ≡ false → touches l ≡ false → IsLess l → Ranked v → Ranked (view_after v l)
less_ranked v l quiet calm less h =
    let hush = hushed v l quiet in
    let lists = line_lists v l less in
    let pair = pair_same v l calm in
    thin_ranked v (view_after v l) (record {
      told = λ i. ap (λ (f : MsgId → Option Told). f i) hush.told;
      count = λ a. ap (λ (f : ℕ → ℕ). f a) hush.count;
      inbox = lists.inbox;
      away = λ a c. ap (λ (f : ℕ → ℕ → Pair). untaken (f a c)) pair;
      held = lists.held;
    }) h

-- a message is held
pub held_ranked : (v : View) (i : MsgId) (o : Option Pid) → IsNone v i → Ranked v → Ranked (held_for (handled v i) i o)
held_ranked v i None none h = less_ranked v (Line.Here i) refl refl tt h
held_ranked v i (Some q) none h =
    let less : Ranked (handled v i) = less_ranked v (Line.Here i) refl refl tt h in
    record {
      order = less.order;
      sent = less.sent;
      held = λ m p j there. elim (cases_Bool ((v.acting == m) && pid_eq q p)) [
        | inl same ↦
            let now : times j (v.held v.acting q) + (one_of j i + 0) ≡ times j (at_record v.held v.acting q (v.held v.acting q ++ i ∷ []) m p) = sym (times-append j (v.held v.acting q) (i ∷ [])) ∙ ap (λ (c : Bool). times j (if c then v.held v.acting q ++ i ∷ [] else v.held m p)) (sym same) in
            elim (cases_Bool (id_eq j i)) [
              | inl is ↦ subst (IsNone v) (sym (id_eq-is j i is)) none
              | inr off ↦ h.held v.acting q j (let zero_ : one_of j i ≡ 0 = ap (λ (c : Bool). if c then 1 else 0) off in omega (arith, there, now, zero_))
            ]
        | inr apart ↦ h.held m p j (subst (λ k. 1 ≤ k) (ap (λ (c : Bool). times j (if c then v.held v.acting q ++ i ∷ [] else v.held m p)) apart) there)
      ];
    }

-- the held messages of a process come to the front of the inbox
released_ranked : (v : View) (p : Pid) → Ranked v → Ranked (released v p)
released_ranked v p h = record {
  order = λ a c off. elim (cases_Bool (v.acting == c)) [
    | inl same ↦
        let is : v.acting ≡ c = eqb-true v.acting c same in
        let rest = untaken (v.pair a c) ++ next_of v a ∷ [] in
        ap (λ (b : Bool). ordered (may_be v a) 0 ((if b then v.held v.acting p ++ v.inbox v.acting else v.inbox c) ++ rest)) same
        ∙ ap (ordered (may_be v a) 0) (append_assoc (v.held v.acting p) (v.inbox v.acting) rest)
        ∙ others_first (may_be v a) 0 (v.held v.acting p) (v.inbox v.acting ++ rest) (λ i there. h.held v.acting p i there a) (ap (λ (k : ℕ). ordered (may_be v a) 0 (v.inbox k ++ rest)) is ∙ h.order a c off)
    | inr apart ↦ ap (λ (b : Bool). ordered (may_be v a) 0 ((if b then v.held v.acting p ++ v.inbox v.acting else v.inbox c) ++ (untaken (v.pair a c) ++ next_of v a ∷ []))) apart ∙ h.order a c off
  ];
  sent = h.sent;
  held = λ m q i there. elim (cases_Bool ((v.acting == m) && pid_eq p q)) [
    | inl same ↦ absurd (let none : times i (at_record v.held v.acting p [] m q) ≡ 0 = ap (λ (c : Bool). times i (if c then [] else v.held m q)) same in omega (arith, there, none))
    | inr off ↦ h.held m q i (subst (λ k. 1 ≤ k) (ap (λ (c : Bool). times i (if c then [] else v.held m q)) off) there)
  ];
}

pub back_ranked : (v : View) (p : Pid) → Ranked v → Ranked (view.rejoins (handled_first v) p)
back_ranked v p h =
    let u = view.seated (view.with_ring (view.knowing (handled_first v) p view.Here) (view.ring_with (v.ring v.acting) p)) p in
    let lists : Lists v u = lists_first v u refl refl in
    released_ranked u p (thin_ranked v u (record { told = λ i. refl; count = λ a. refl; inbox = lists.inbox; away = λ a c. refl; held = lists.held }) h)

-- a message is taken
pub taken_ranked : (v : View) (a b n : ℕ) (o : Option MsgId) → slice_get (v.pair a b).ids (v.pair a b).taken ≡ o → Ranked v → Ranked (view.taken_id (taken_view v a b n) b o)
taken_ranked v a b n None is h = thin_off v (taken_view v a b n) refl refl refl refl (λ x c. pair_keeps v.pair a b (taken_pair (v.pair a b) n) (none_taken (v.pair a b) n is) x c) h
taken_ranked v a b n (Some i) is h =
    let q = taken_pair (v.pair a b) n in
    let front = taken_front (v.pair a b) n i is in
    let there : 1 ≤ times i (untaken (v.pair a b)) = (let one : one_of i i ≡ 1 = ap (λ (c : Bool). if c then 1 else 0) (id_eq-same i) in omega (arith, one, ap (times i) front)) in
    record {
      order = λ x c off. (
          let g = may_be v x in
          let u = untaken (at_pair v.pair a b q x c) in
          let last = next_of v x ∷ [] in
          elim (cases_Bool (b == c)) [
            | inl same ↦
                let bc : b ≡ c = eqb-true b c same in
                ap (λ (t : Bool). ordered g 0 ((if t then v.inbox b ++ i ∷ [] else v.inbox c) ++ (u ++ last))) same
                ∙ elim (cases_Bool (a == x)) [
                  | inl from ↦
                      let ax : a ≡ x = eqb-true a x from in
                      let now : u ≡ untaken q = ap (λ (t : Bool). untaken (if t then q else v.pair x c)) (both_true (a == x) (b == c) from same) in
                      ap (λ (xs : List MsgId). ordered g 0 ((v.inbox b ++ i ∷ []) ++ (xs ++ last))) now
                      ∙ ap (ordered g 0) (append_assoc (v.inbox b) (i ∷ []) (untaken q ++ last))
                      ∙ ap (λ (xs : List MsgId). ordered g 0 (v.inbox b ++ (xs ++ last))) (sym front)
                      ∙ ap (λ (k : ℕ). ordered g 0 (v.inbox k ++ (untaken (v.pair a k) ++ last))) bc
                      ∙ ap (λ (k : ℕ). ordered g 0 (v.inbox c ++ (untaken (v.pair k c) ++ last))) ax
                      ∙ h.order x c off
                  | inr other ↦
                      let now : u ≡ untaken (v.pair x c) = ap (λ (t : Bool). untaken (if t && (b == c) then q else v.pair x c)) other in
                      ap (λ (xs : List MsgId). ordered g 0 ((v.inbox b ++ i ∷ []) ++ (xs ++ last))) now
                      ∙ with_other g 0 (v.inbox b) i (untaken (v.pair x c) ++ last) (h.sent a b i there x other) (ap (λ (k : ℕ). ordered g 0 (v.inbox k ++ (untaken (v.pair x c) ++ last))) bc ∙ h.order x c off)
                ]
            | inr apart ↦
                let now : u ≡ untaken (v.pair x c) = ap untaken (pair_off v.pair a b x c q (and_right (a == x) (b == c) apart)) in
                ap (λ (t : Bool). ordered g 0 ((if t then v.inbox b ++ i ∷ [] else v.inbox c) ++ (u ++ last))) apart
                ∙ ap (λ (xs : List MsgId). ordered g 0 (v.inbox c ++ (xs ++ last))) now ∙ h.order x c off
          ]
          );
      sent = λ x c j at_. h.sent x c j (stream_back v a b n i j x c front at_);
      held = h.held;
    }

-- what deliveries and repeats say, and heads
pub packet_ranked : (v : View) (a b k : ℕ) (l : Load) → Ranked v → Ranked (view_after v (Line.Packet a b k l))
packet_ranked v a b k l h = thin_off v (view_after v (Line.Packet a b k l)) refl refl refl refl (λ x c. pair_keeps v.pair a b (record (v.pair a b) { gone = view.gone_after l (v.pair a b).gone; wire = (v.pair a b).wire ++ record { load = l; delivered = false } ∷ [] }) refl x c) h

-- a put: the message is the kernel's next, or none of these
put_narrows : (v : View) (a b : ℕ) (i : MsgId) (k : MessageKind) (q : Pid) → Narrows v (after_put v a b i k q)
put_narrows v a b i k q x j e = elim (cases_Bool (id_eq i j)) [
  | inl same ↦ subst (λ (y : MsgId). may_be v x y ≡ true) (id_eq-is i j same)
      (let was : (pid_eq i.from (pid_of x 0) && option_map_or (λ t. is_between t.kind) (Some (view.first_told (v.told i) (record { kind = k; receiver = q; about = v.topic }))) true) ≡ true =
      ap (λ (o : Option Told). pid_eq i.from (pid_of x 0) && option_map_or (λ t. is_between t.kind) o true) (sym (put_at v a b i k q)) ∙ subst (λ (y : MsgId). may_be (after_put v a b i k q) x y ≡ true) (sym (id_eq-is i j same)) e in
      (elim (v.told i) as (λ o. (pid_eq i.from (pid_of x 0) && option_map_or (λ t. is_between t.kind) (Some (view.first_told o (record { kind = k; receiver = q; about = v.topic }))) true) ≡ true → (pid_eq i.from (pid_of x 0) && option_map_or (λ t. is_between t.kind) o true) ≡ true)
      [ None ↦ λ f. both_true (pid_eq i.from (pid_of x 0)) true (and_parts (pid_eq i.from (pid_of x 0)) (is_between k) f).0 refl | Some t ↦ λ f. f ]) was)
  | inr apart ↦ ap (λ (o : Option Told). pid_eq j.from (pid_of x 0) && option_map_or (λ t. is_between t.kind) o true) (sym (put_told_off v a b i j k q apart)) ∙ e
]

-- where it comes to
put_inbox : (v : View) (a b : ℕ) (i : MsgId) (k : MessageKind) (q : Pid) (c : ℕ) → ((after_put v a b i k q).inbox c ≡ v.inbox c) ⊎ (((after_put v a b i k q).inbox c ≡ v.inbox c ++ i ∷ []) × ((a == b) ≡ true) × ((b == c) ≡ true))
put_inbox v a b i k q c = elim (cases_Bool (a == b)) [
  | inl home ↦ elim (cases_Bool (b == c)) [
    | inl same ↦ inr (
      ap (λ (t : Bool). (if t then at_machine v.inbox b (v.inbox b ++ i ∷ []) else v.inbox) c) home ∙ ap (λ (t : Bool). if t then v.inbox b ++ i ∷ [] else v.inbox c) same ∙ ap (λ (m : ℕ). v.inbox m ++ i ∷ []) (eqb-true b c same),
      home,
      same,
    )
    | inr apart ↦ inl (ap (λ (t : Bool). (if t then at_machine v.inbox b (v.inbox b ++ i ∷ []) else v.inbox) c) home ∙ at_machine_off v.inbox b c (v.inbox b ++ i ∷ []) apart)
  ]
  | inr away ↦ inl (ap (λ (t : Bool). (if t then at_machine v.inbox b (v.inbox b ++ i ∷ []) else v.inbox) c) away)
]

routed_untaken : (a b : ℕ) (p : Pair) (i : MsgId) (home : Bool) → (a == b) ≡ home → p.taken ≤ length p.ids → (home ≡ true → p.taken ≡ length p.ids) → untaken (routed_on a b p i) ≡ (if home then untaken p else untaken p ++ i ∷ [])
routed_untaken a b p i true is within full =
    ap (λ (t : Bool). drop (if t then p.taken + 1 else p.taken) (p.ids ++ i ∷ [])) is
    ∙ subst (λ k. drop k (p.ids ++ i ∷ []) ≡ []) (length-append p.ids (i ∷ []) ∙ ap (λ k. k + 1) (sym (full refl))) (drop-length (p.ids ++ i ∷ []))
    ∙ sym (ap (λ k. drop k p.ids) (full refl) ∙ drop-length p.ids)
routed_untaken a b p i false is within full = ap (λ (t : Bool). drop (if t then p.taken + 1 else p.taken) (p.ids ++ i ∷ [])) is ∙ drop-append-le p.taken p.ids (i ∷ []) within

put_away : (v : View) (a b : ℕ) (i : MsgId) (k : MessageKind) (q : Pid) (x c : ℕ) → PairsFit v
    → (untaken ((after_put v a b i k q).pair x c) ≡ untaken (v.pair x c)) ⊎ ((untaken ((after_put v a b i k q).pair x c) ≡ untaken (v.pair x c) ++ i ∷ []) × ((a == b) ≡ false) × ((a == x) ≡ true) × ((b == c) ≡ true))
put_away v a b i k q x c fits = elim (cases_Bool ((a == x) && (b == c))) [
  | inl same ↦
      let both = and_parts (a == x) (b == c) same in
      let now : untaken ((after_put v a b i k q).pair x c) ≡ untaken (routed_on a b (v.pair a b) i) = ap (λ (t : Bool). untaken (if t then routed_on a b (v.pair a b) i else v.pair x c)) same in
      let at_ : untaken (v.pair a b) ≡ untaken (v.pair x c) = ap (λ (m : ℕ). untaken (v.pair m b)) (eqb-true a x both.0) ∙ ap (λ (m : ℕ). untaken (v.pair x m)) (eqb-true b c both.1) in
      elim (cases_Bool (a == b)) [
        | inl home ↦ inl (now ∙ routed_untaken a b (v.pair a b) i true home (fits.within a b) (λ e. subst (λ (m : ℕ). (v.pair a m).taken ≡ length (v.pair a m).ids) (eqb-true a b home) (fits.home a)) ∙ at_)
        | inr away ↦ inr (now ∙ routed_untaken a b (v.pair a b) i false away (fits.within a b) (λ e. absurd (false≢true e)) ∙ ap (λ (xs : List MsgId). xs ++ i ∷ []) at_, away, both.0, both.1)
      ]
  | inr apart ↦ inl (ap untaken (pair_off v.pair a b x c (routed_on a b (v.pair a b) i) apart))
]

-- another sort's message comes to lists, or doesn't
other_comes : (g : MsgId → Bool) (is js us ws last : List MsgId) (i : MsgId) → g i ≡ false → (js ≡ is) ⊎ (js ≡ is ++ i ∷ []) → (ws ≡ us) ⊎ (ws ≡ us ++ i ∷ []) → ordered g 0 (is ++ (us ++ last)) ≡ true → ordered g 0 (js ++ (ws ++ last)) ≡ true
other_comes g is js us ws last i off box away h =
    let first : ordered g 0 (is ++ (ws ++ last)) ≡ true = elim away [
      | inl same ↦ ap (λ (xs : List MsgId). ordered g 0 (is ++ (xs ++ last))) same ∙ h
      | inr more ↦ ap (λ (xs : List MsgId). ordered g 0 (is ++ (xs ++ last))) more ∙ context g 0 is (us ++ last) ((us ++ i ∷ []) ++ last) (λ k e. with_other g k us i last off e) h
    ] in
    elim box [
      | inl same ↦ ap (λ (xs : List MsgId). ordered g 0 (xs ++ (ws ++ last))) same ∙ first
      | inr more ↦ ap (λ (xs : List MsgId). ordered g 0 (xs ++ (ws ++ last))) more ∙ with_other g 0 is i (ws ++ last) off first
    ]

-- what isn't the message was there before
back_by : (i j : MsgId) (us ws : List MsgId) → id_eq j i ≡ false → (ws ≡ us) ⊎ (ws ≡ us ++ i ∷ []) → 1 ≤ times j ws → 1 ≤ times j us
back_by i j us ws off away there =
    let zero_ : one_of j i ≡ 0 = ap (λ (c : Bool). if c then 1 else 0) off in
    elim away [ inl same ↦ omega (arith, there, ap (times j) same) | inr more ↦ omega (arith, there, ap (times j) more, times-append j us (i ∷ []), zero_) ]

pub put_other : (v : View) (a b : ℕ) (i : MsgId) (k : MessageKind) (q : Pid) → PairsFit v → IsNone (after_put v a b i k q) i → (after_put v a b i k q).count ≡ v.count → Ranked v → Ranked (after_put v a b i k q)
put_other v a b i k q fits none count h =
    let w = after_put v a b i k q in
    let n = put_narrows v a b i k q in
    record {
      order = λ x c off. (
          let g = may_be w x in
          ap (λ (f : ℕ → ℕ). ordered g 0 (w.inbox c ++ (untaken (w.pair x c) ++ id_of (pid_of x 0) (f x) ∷ []))) count
          ∙ other_comes g (v.inbox c) (w.inbox c) (untaken (v.pair x c)) (untaken (w.pair x c)) (next_of v x ∷ []) i (none x)
          (elim (put_inbox v a b i k q c) [ inl same ↦ inl same | inr more ↦ inr more.0 ])
          (elim (put_away v a b i k q x c fits) [ inl same ↦ inl same | inr more ↦ inr more.0 ])
          (narrower (may_be v x) g 0 (way v x c) (n x) (h.order x c off))
          );
      sent = λ x c j there y off. elim (cases_Bool (id_eq j i)) [
        | inl is ↦ subst (λ (m : MsgId). may_be w y m ≡ false) (sym (id_eq-is j i is)) (none y)
        | inr other ↦ narrow_off v w y j n (h.sent x c j (back_by i j (untaken (v.pair x c)) (untaken (w.pair x c)) other (elim (put_away v a b i k q x c fits) [ inl same ↦ inl same | inr more ↦ inr more.0 ]) there) y off)
      ];
      held = λ m p j there y. narrow_off v w y j n (h.held m p j there y);
    }

-- the kernel's next message
next_count : (v : View) (b : ℕ) (k : MessageKind) (q : Pid) (x : ℕ) → v.told (own_id v) ≡ None → (after_put v v.acting b (own_id v) k q).count x ≡ (if v.acting == x then v.count v.acting + 1 else v.count x)
next_count v b k q x untold = ap (λ (o : Option Told). (if view.is_own (own_id v) o then at_machine v.count v.acting (v.count v.acting + 1) else v.count) x) untold

-- it is of this kernel alone
own_only : (v : View) (w : View) → IsOnly w v.acting (own_id v)
own_only v w x off = ap (λ (c : Bool). c && option_map_or (λ t. is_between t.kind) (w.told (own_id v)) true) (let e : pid_eq (pid_of v.acting 0) (pid_of x 0) ≡ false = grind (arith, nat_tests) in e)

-- a way to another machine, with the kernel's next at its end
own_comes : (g : MsgId → Bool) (is us ws : List MsgId) (i j : MsgId) → g i ≡ true → i.n < j.n → (ws ≡ us) ⊎ (ws ≡ us ++ i ∷ []) → ordered g 0 (is ++ (us ++ i ∷ [])) ≡ true → ordered g 0 (is ++ (ws ++ j ∷ [])) ≡ true
own_comes g is us ws i j one less away h = elim away [
  | inl same ↦ ap (λ (xs : List MsgId). ordered g 0 (is ++ (xs ++ j ∷ []))) same ∙ context g 0 is (us ++ i ∷ []) (us ++ j ∷ []) (λ k e. last_later g k us i j one (omega (arith, less)) e) h
  | inr more ↦
      ap (λ (xs : List MsgId). ordered g 0 (is ++ (xs ++ j ∷ []))) more
      ∙ context g 0 is (us ++ i ∷ []) ((us ++ i ∷ []) ++ j ∷ []) (λ k e. ap (ordered g k) (append_assoc us (i ∷ []) (j ∷ [])) ∙ last_more g k us i j one less e) h
]

pub put_own : (v : View) (b : ℕ) (k : MessageKind) (q : Pid) → PairsFit v → v.told (own_id v) ≡ None → Ranked v → Ranked (after_put v v.acting b (own_id v) k q)
put_own v b k q fits untold h =
    let a = v.acting in
    let i = own_id v in
    let w = after_put v a b i k q in
    let n = put_narrows v a b i k q in
    let mine : may_be v a i ≡ true = both_true (pid_eq i.from (pid_of a 0)) (option_map_or (λ t. is_between t.kind) (v.told i) true) (pid_eq-same (pid_of a 0)) (ap (λ (o : Option Told). option_map_or (λ t. is_between t.kind) o true) untold) in
    let away : (x c : ℕ) → (untaken (w.pair x c) ≡ untaken (v.pair x c)) ⊎ (untaken (w.pair x c) ≡ untaken (v.pair x c) ++ i ∷ []) = λ x c. elim (put_away v a b i k q x c fits) [ inl same ↦ inl same | inr more ↦ inr more.0 ] in
    record {
      order = λ x c off. elim (cases_Bool (a == x)) [
        | inl same ↦ (
            let ax : a ≡ x = eqb-true a x same in
            let g = may_be v x in
            let next : w.count x ≡ v.count a + 1 = next_count v b k q x untold ∙ ap (λ (t : Bool). if t then v.count a + 1 else v.count x) same in
            let box : w.inbox c ≡ v.inbox c = elim (put_inbox v a b i k q c) [
              | inl is ↦ is
              | inr more ↦ absurd (false≢true (sym off ∙ subst (λ (m : ℕ). (m == c) ≡ true) ax (subst (λ (m : ℕ). (m == c) ≡ true) (sym (eqb-true a b more.1)) more.2)))
            ] in
            let was : ordered g 0 (v.inbox c ++ (untaken (v.pair x c) ++ i ∷ [])) ≡ true = subst (λ (m : ℕ). ordered g 0 (v.inbox c ++ (untaken (v.pair x c) ++ id_of (pid_of m 0) (v.count m) ∷ [])) ≡ true) (sym ax) (h.order x c off) in
            narrower g (may_be w x) 0 (way w x c) (n x)
            (ap (λ (xs : List MsgId). ordered g 0 (xs ++ (untaken (w.pair x c) ++ next_of w x ∷ []))) box
            ∙ own_comes g (v.inbox c) (untaken (v.pair x c)) (untaken (w.pair x c)) i (next_of w x) (subst (λ (m : ℕ). may_be v m i ≡ true) ax mine) (omega (arith, next)) (away x c) was)
            )
        | inr other ↦ (
            let g = may_be w x in
            let next : w.count x ≡ v.count x = next_count v b k q x untold ∙ ap (λ (t : Bool). if t then v.count a + 1 else v.count x) other in
            ap (λ (m : ℕ). ordered g 0 (w.inbox c ++ (untaken (w.pair x c) ++ id_of (pid_of x 0) m ∷ []))) next
            ∙ other_comes g (v.inbox c) (w.inbox c) (untaken (v.pair x c)) (untaken (w.pair x c)) (next_of v x ∷ []) i (own_only v w x other)
            (elim (put_inbox v a b i k q c) [ inl same ↦ inl same | inr more ↦ inr more.0 ]) (away x c)
            (narrower (may_be v x) g 0 (way v x c) (n x) (h.order x c off))
            )
      ];
      sent = λ x c j there. elim (put_away v a b i k q x c fits) [
        | inl same ↦ (λ y off. narrow_off v w y j n (h.sent x c j (subst (λ (xs : List MsgId). 1 ≤ times j xs) same there) y off))
        | inr more ↦ elim (cases_Bool (id_eq j i)) [
          | inl is ↦ subst (λ (m : MsgId). IsOnly w x m) (sym (id_eq-is j i is)) (subst (λ (m : ℕ). IsOnly w m i) (eqb-true a x more.2) (own_only v w))
          | inr other ↦ (λ y off. narrow_off v w y j n (h.sent x c j (back_by i j (untaken (v.pair x c)) (untaken (w.pair x c)) other (inr more.0) there) y off))
        ]
      ];
      held = λ m p j there y. narrow_off v w y j n (h.held m p j there y);
    }

-- it has begun
pub ranked_head : (v : View) (d : Step) → Ranked v → Ranked (after_head v d)
ranked_head v (Step.Turn m) h = record { order = h.order; sent = h.sent; held = h.held }
ranked_head v (Step.Tick m) h = record { order = h.order; sent = h.sent; held = h.held }
ranked_head v (Step.Migrate p m) h = record { order = h.order; sent = h.sent; held = h.held }
ranked_head v (Step.CallOff p m) h = record { order = h.order; sent = h.sent; held = h.held }
ranked_head v (Step.Deliver a b k) h = thin_off v (after_head v (Step.Deliver a b k)) refl refl refl refl (λ x c. pair_keeps v.pair a b (view.marked (v.pair a b) k) refl x c) h
