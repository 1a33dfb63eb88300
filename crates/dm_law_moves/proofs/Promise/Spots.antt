-- A message that stands somewhere is left standing by each line that is no label, unless it is the one that the line takes.
use Rattle.dm_law_moves.proofs.Names.{◌≡◌, ℕ, ◌+◌, ◌≤◌, ◌==◌, ◌&&◌, false, List, [], ◌∷◌, ◌++◌, refl, ap, ◌∙◌, sym, subst, inl, inr, arith, ⊤, cases_Bool, Pid, pid_eq, MsgId, id_eq, Label, pid_eq-is, Line, Stage, View, view_after, handled}
use Rattle.dm_law_moves.proofs.Names.{handled_first, released, receiver_of, Spot, Queue, Held, Inbox, Untaken, times, ids_at, standing, at_machine_at, at_machine_off, at_record_off, eq_is, parts, times-append, first_off, home_again, act_of}
use Rattle.dm_law_moves.proofs.Names.{home_off, proto_off, accepted_off, memory_off, lacks_off, left_off, restarted_off, handled_spots, queued_spots, held_spots, forwarded_spots, ◌⊎◌, Bool, true, not, filter, if◌then◌else◌}
use Rattle.dm_law_moves.proofs.Names.{Option, None, Some, false≢true, MessageKind, OneKernel, id_eq-is, id_eq-same, Step, Load, Told, NothingElse, is_kernels, taken_id, held_for, Point, out_of, not_kernels, gone_in, at_record_at, not_true}
use Rattle.dm_law_moves.proofs.Names.{one_of, PairsFit, served_keeps, serving_off, created_off, IsNetLine, early_off, acked_off, emptied, both_lists, both_times, dropped_spots, put_spots, taken_calm, put_spot, put_there, Sane, packet_off}
use Rattle.dm_law_moves.proofs.Names.{received_spots, ended_off, nat_tests, About, Target, aim, about_off, after_step, Sound, bind-is, Addresses, Holder, Slot, Gets, gives, all_follow, first_gives, leads_to, updated, addresses_by, ascends}
use Rattle.dm_law_moves.proofs.Names.{label_of, kernel_after, after_line, after, moved, hushed, put_at, put_told_off, gives_to, fills, Unfilled, first_kept, length, slice_get, Boot, IsValid, Leads, first_point, Trails, AddressesOn, is_made}
use Rattle.dm_law_moves.proofs.Names.{is_moving, IsThere, unheld, called_off}
use Rattle.dm_law_moves.proofs.Names.{is_server, none_some}
use Rattle.dm_law_moves.proofs.LastPieces.{state_stays, state_goes}
use Rattle.dm_law_rule.proofs.Moves.Sent.{sent_off}
use Rattle.dm_law_moves.proofs.Promise.Slots.{not_given, step_pending, led_before}
use Rattle.dm_onekernel.specs.Step as kernel
use Rattle.dm_law_rule.specs.View as view
use Rattle.dm_law_moves.proofs.Burials.{buried_spots}
use Rattle.dm_law_one.proofs.Equal as equal
use Rattle.dm_law_rule.proofs.Moves.Rows.{for_off}

pub record Stands (v : View) (j : MsgId) : Type 0 where
  pub spot : Spot
  pub least : 1 ≤ standing v j spot

pub stands_as : (v w : View) (j : MsgId) → ((z : Spot) → standing w j z ≡ standing v j z) → Stands v j → Stands w j
stands_as v w j same h = record { spot = h.spot; least = subst (λ n. 1 ≤ n) (sym (same h.spot)) h.least }

pub stands_off : (v w : View) (j : MsgId) → ((z : Spot) → ids_at w z ≡ ids_at v z) → Stands v j → Stands w j
stands_off v w j off h = stands_as v w j (λ z. ap (times j) (off z)) h

-- another message is at the front of the inbox
pub record Front (v : View) (j : MsgId) : Type 0 where
  pub first : MsgId
  pub rest : List MsgId
  pub is : v.inbox v.acting ≡ first ∷ rest
  pub apart : id_eq first j ≡ false

pub first_stands : (v : View) (j : MsgId) → Front v j → Stands v j → Stands (handled_first v) j
first_stands v j f h = stands_as v (handled_first v) j (λ z. ap (times j) (first_off v f.first f.rest f.is z) ∙ handled_spots v f.first j f.apart z) h

-- behind the line that a process is asked to move, what it takes is taken already
abbrev pub Fronts : View → MsgId → About → Type 0
Fronts v j (Target m) = ⊤
Fronts v j a = Front v j

pub fronts : (v : View) (j : MsgId) (a : About) → Front v j → Fronts v j a
fronts v j (Target m) f = tt
fronts v j _ f = f

sets_stands : (v : View) (j : MsgId) (p : Pid) (a : About) → Fronts v j a → Stands v j → Stands (view.sets_off v p a) j
sets_stands v j p (Target m) f h = stands_off v (view.sets_off v p (Target m)) j (λ z. for_off v p m z) h
sets_stands v j p a f h = stands_off (handled_first v) (view.sets_off v p a) j (λ z. for_off (handled_first v) p (aim v a) z) (first_stands v j f h)

-- the topic is no place
pub about_stands : (v : View) (a : About) (j : MsgId) → Stands v j → Stands (view.about v a) j
about_stands v a j h = stands_off v (view.about v a) j (λ z. about_off v a z) h

-- what a line takes, where it takes something, is another message
abbrev pub Spares : MsgId → View → Line → Type 0
Spares j v (Line.Migration Stage.Asked p) = ⊤
Spares j v (Line.Migration Stage.Left p) = ⊤
Spares j v (Line.Queued i) = id_eq i j ≡ false
Spares j v (Line.Held i) = id_eq i j ≡ false
Spares j v (Line.Forwarded i m) = id_eq i j ≡ false
Spares j v (Line.Updated i n) = id_eq i j ≡ false
Spares j v (Line.Buried i n) = id_eq i j ≡ false
Spares j v (Line.Here i) = id_eq i j ≡ false
Spares j v (Line.NoMove i) = id_eq i j ≡ false
Spares j v (Line.Stale i) = id_eq i j ≡ false
Spares j v (Line.Proto i) = id_eq i j ≡ false
Spares j v (Line.Migration Stage.Frozen p) = Fronts v j v.topic
Spares j v (Line.Migration s p) = Front v j
Spares j v (Line.Lacks p a b) = Front v j
Spares j v (Line.Stays p) = Front v j
Spares j v (Line.Early a b n) = ⊥
Spares j v (Line.Acked a b n) = ⊥
Spares j v (Line.SentOn p n) = ⊥
Spares j v (Line.Called p n) = ⊥
Spares j v (Line.Head s) = ⊥
Spares j v (Line.Put a b i k q) = ⊥
Spares j v (Line.Packet a b k l) = ⊥
Spares j v (Line.Taken a b n) = ⊥
Spares j v _ = ⊤

-- held messages come to the front of the inbox
released_inbox : (v : View) (p : Pid) (j : MsgId) → 1 ≤ times j (v.held v.acting p) + times j (v.inbox v.acting) → Stands (released v p) j
released_inbox v p j e =
    let f : times j ((released v p).inbox v.acting) ≡ times j (v.held v.acting p ++ v.inbox v.acting) = ap (times j) (at_machine_at v.inbox v.acting (v.held v.acting p ++ v.inbox v.acting)) in
    let g : 1 ≤ times j ((v.held v.acting p) ++ (v.inbox v.acting)) = let f = times-append j (v.held v.acting p) (v.inbox v.acting) in omega (arith, e, f) in
    record { spot = Inbox v.acting; least = omega (arith, f, g) }

released_held : (v : View) (p : Pid) (j : MsgId) (m : ℕ) (q : Pid) → 1 ≤ times j (v.held m q) → Stands (released v p) j
released_held v p j m q e = elim (cases_Bool ((v.acting == m) && pid_eq p q)) [
  | inl same ↦
      let both = parts (v.acting == m) (pid_eq p q) same in
      let f : times j (v.held m q) ≡ times j (v.held v.acting p) = ap (λ (n : ℕ). times j (v.held n q)) (sym (eq_is v.acting m both.0)) ∙ ap (λ (r : Pid). times j (v.held v.acting r)) (sym (pid_eq-is p q both.1)) in
      released_inbox v p j (omega (arith, e, f))
  | inr off ↦
      let f : times j ((released v p).held m q) ≡ times j (v.held m q) = ap (times j) (at_record_off v.held v.acting m p q [] off) in
      record { spot = Held m q; least = omega (arith, e, f) }
]

released_other : (v : View) (p : Pid) (j : MsgId) (m : ℕ) → 1 ≤ times j (v.inbox m) → Stands (released v p) j
released_other v p j m e = elim (cases_Bool (v.acting == m)) [
  | inl same ↦
      let f : times j (v.inbox m) ≡ times j (v.inbox v.acting) = ap (λ (n : ℕ). times j (v.inbox n)) (sym (eq_is v.acting m same)) in
      released_inbox v p j (omega (arith, e, f))
  | inr off ↦
      let f : times j ((released v p).inbox m) ≡ times j (v.inbox m) = ap (times j) (at_machine_off v.inbox v.acting m (v.held v.acting p ++ v.inbox v.acting) off) in
      record { spot = Inbox m; least = omega (arith, e, f) }
]

released_at : (v : View) (p : Pid) (j : MsgId) (z : Spot) → 1 ≤ standing v j z → Stands (released v p) j
released_at v p j (Queue m q) e = record { spot = Queue m q; least = e }
released_at v p j (Held m q) e = released_held v p j m q e
released_at v p j (Inbox m) e = released_other v p j m e
released_at v p j (Untaken a b) e = record { spot = Untaken a b; least = e }

back_stands : (v : View) (p : Pid) (j : MsgId) → Front v j → Stands v j → Stands (released (home_again (handled_first v) p) p) j
back_stands v p j f h =
    let u = home_again (handled_first v) p in
    let k = stands_off (handled_first v) u j (home_off (handled_first v) p) (first_stands v j f h) in
    released_at u p j k.spot k.least

-- and another machine is a predecessor, behind a calling off
stays_off : (v : View) (p : Pid) (z : Spot) → ids_at (view_after v (Line.Stays p)) z ≡ ids_at (released (home_again (handled_first v) p) p) z
stays_off v p (Queue m q) = refl
stays_off v p (Held m q) = refl
stays_off v p (Inbox m) = refl
stays_off v p (Untaken a b) = refl

-- step 4 of a server takes no message
state_stands : (v : View) (j : MsgId) (p : Pid) (c : Bool) → is_server p ≡ c → Front v j → Stands v j → Stands (view_after v (Line.Migration Stage.StateTaken p)) j
state_stands v j p true server f h = stands_off v (view_after v (Line.Migration Stage.StateTaken p)) j (λ z. state_stays v p z server) h
state_stands v j p false free f h = stands_off (handled_first v) (view_after v (Line.Migration Stage.StateTaken p)) j (λ z. state_goes v p z free) (first_stands v j f h)

-- lines that are no steps
pub line_stands : (v : View) (j : MsgId) (l : Line) → Spares j v l → ((x : Label) → l ≡ Line.Label x → Stands (view_after v l) j) → Stands v j → Stands (view_after v l) j
line_stands v j (Line.Label x) e step_ h = step_ x refl
line_stands v j (Line.Idle m) e step_ h = h
line_stands v j (Line.Old a b n) e step_ h = h
line_stands v j Line.Nothing e step_ h = h
line_stands v j (Line.Resent m n) e step_ h = h
line_stands v j (Line.NoChild p) e step_ h = h
line_stands v j (Line.NoCall p) e step_ h = h
line_stands v j Line.Away e step_ h = h
line_stands v j (Line.Migration Stage.Asked p) e step_ h = h
line_stands v j (Line.Migration Stage.Left p) e step_ h = stands_off v (view_after v (Line.Migration Stage.Left p)) j (λ z. left_off v p z) h
line_stands v j (Line.Queued i) e step_ h = stands_as (handled v i) (view_after v (Line.Queued i)) j (λ z. queued_spots (handled v i) i j (receiver_of (v.told i)) e z) (stands_as v (handled v i) j (λ z. handled_spots v i j e z) h)
line_stands v j (Line.Held i) e step_ h = stands_as (handled v i) (view_after v (Line.Held i)) j (λ z. held_spots (handled v i) i j (receiver_of (v.told i)) e z) (stands_as v (handled v i) j (λ z. handled_spots v i j e z) h)
line_stands v j (Line.Forwarded i m) e step_ h = stands_as (handled v i) (view_after v (Line.Forwarded i m)) j (λ z. forwarded_spots (handled v i) j (receiver_of (v.told i)) z) (stands_as v (handled v i) j (λ z. handled_spots v i j e z) h)
line_stands v j (Line.Updated i n) e step_ h = stands_as v (handled v i) j (λ z. handled_spots v i j e z) h
line_stands v j (Line.Buried i n) e step_ h = stands_as v (view_after v (Line.Buried i n)) j (λ z. buried_spots v i j n e z) h
line_stands v j (Line.Here i) e step_ h = stands_as v (handled v i) j (λ z. handled_spots v i j e z) h
line_stands v j (Line.NoMove i) e step_ h = stands_as v (handled v i) j (λ z. handled_spots v i j e z) h
line_stands v j (Line.Stale i) e step_ h = stands_as v (handled v i) j (λ z. handled_spots v i j e z) h
line_stands v j (Line.Proto i) e step_ h = stands_off (handled v i) (view_after v (Line.Proto i)) j (λ z. proto_off (handled v i) (v.told i) z) (stands_as v (handled v i) j (λ z. handled_spots v i j e z) h)
line_stands v j (Line.Migration Stage.Frozen p) e step_ h = sets_stands v j p v.topic e h
line_stands v j (Line.Migration Stage.Accepted p) e step_ h = stands_off (handled_first v) (view_after v (Line.Migration Stage.Accepted p)) j (λ z. accepted_off v p z) (first_stands v j e h)
line_stands v j (Line.Migration Stage.StateTaken p) e step_ h = state_stands v j p (is_server p) refl e h
line_stands v j (Line.Migration Stage.MemoryTaken p) e step_ h = stands_off (handled_first v) (view_after v (Line.Migration Stage.MemoryTaken p)) j (λ z. memory_off v p z) (first_stands v j e h)
line_stands v j (Line.Migration Stage.Restarted p) e step_ h = stands_off (released (home_again (handled_first v) p) p) (view_after v (Line.Migration Stage.Restarted p)) j (λ z. restarted_off v p z) (back_stands v p j e h)
line_stands v j (Line.Lacks p a b) e step_ h = stands_off (handled_first v) (view_after v (Line.Lacks p a b)) j (λ z. lacks_off v p a b z) (first_stands v j e h)
line_stands v j (Line.Stays p) e step_ h = stands_off (released (home_again (handled_first v) p) p) (view_after v (Line.Stays p)) j (λ z. stays_off v p z) (back_stands v p j e h)
line_stands v j _ e step_ h = absurd e

-- a label takes a message of the bag, which is no kernel's own
bag_apart : (pt : Point) (t : OneKernel) (l : Label) (i j : MsgId) → Sane pt → kernel.step pt.kernel l ≡ Some t → out_of l ≡ Some i → is_kernels j ≡ true → id_eq i j ≡ false
bag_apart pt t l i j h is goes own = (let g = gone_in pt.kernel t l i is goes in not_true (id_eq i j) (λ f. false≢true (sym (not_kernels h.r h.e pt.kernel i g.message g.there h.sound) ∙ ap is_kernels (id_eq-is i j f) ∙ own)))

label_spots : (pt : Point) (t : OneKernel) (l : Label) (j : MsgId) → Sane pt → kernel.step pt.kernel l ≡ Some t → is_kernels j ≡ true → (z : Spot) → standing (view_after pt.view (Line.Label l)) j z ≡ standing pt.view j z
label_spots pt t (Label.Ran p k) j h is own z = ap (times j) (serving_off pt.view p z)
label_spots pt t (Label.End p y) j h is own z = ap (times j) (ended_off pt.view p z)
label_spots pt t (Label.Receive p id) j h is own z = received_spots pt.view p id j (bag_apart pt t (Label.Receive p id) id j h is refl own) z
label_spots pt t (Label.Refuse p id c) j h is own z = ap (times j) (serving_off pt.view p z)
label_spots pt t (Label.Dropped id) j h is own z = search (bag_apart, dropped_spots, handled_spots)
label_spots pt t (Label.Served id) j h is own z =
    ap (times j) ((served_keeps (handled pt.view id) (pt.view.told id)).0 z) ∙ handled_spots pt.view id j (bag_apart pt t (Label.Served id) id j h is refl own) z
label_spots pt t (Label.Gone id) j h is own z = handled_spots pt.view id j (bag_apart pt t (Label.Gone id) id j h is refl own) z
label_spots pt t (Label.Took id) j h is own z = handled_spots pt.view id j (bag_apart pt t (Label.Took id) id j h is refl own) z
label_spots pt t (Label.Created id p) j h is own z = ap (times j) (created_off pt.view id p z) ∙ handled_spots pt.view id j (bag_apart pt t (Label.Created id p) id j h is refl own) z
label_spots pt t (Label.NoSpace id a b) j h is own z = handled_spots pt.view id j (bag_apart pt t (Label.NoSpace id a b) id j h is refl own) z
label_spots pt t (Label.Asked id) j h is own z = handled_spots pt.view id j (bag_apart pt t (Label.Asked id) id j h is refl own) z
label_spots pt t _ j h is own z = refl

pub label_stands : (pt : Point) (t : OneKernel) (l : Label) (j : MsgId) → Sane pt → kernel.step pt.kernel l ≡ Some t → is_kernels j ≡ true → Stands pt.view j → Stands (view_after pt.view (Line.Label l)) j
label_stands pt t l j h is own s = stands_as pt.view (view_after pt.view (Line.Label l)) j (label_spots pt t l j h is own) s

-- puts and packets
pub put_this : (v : View) (a b : ℕ) (i : MsgId) (k : MessageKind) (q : Pid) → PairsFit v → Stands (view.after_put v a b i k q) i
put_this v a b i k q fits = record { spot = put_spot a b; least = put_there v a b i k q fits }

pub put_stands : (v : View) (a b : ℕ) (i : MsgId) (k : MessageKind) (q : Pid) (j : MsgId) → PairsFit v → Stands v j → Stands (view.after_put v a b i k q) j
put_stands v a b i k q j fits h = elim (cases_Bool (id_eq i j)) [
  | inl same ↦ subst (λ (x : MsgId). Stands (view.after_put v a b i k q) x) (id_eq-is i j same) (put_this v a b i k q fits)
  | inr apart ↦ stands_as v (view.after_put v a b i k q) j (λ z. put_spots v a b i j k q fits apart z) h
]

pub packet_stands : (v : View) (a b k : ℕ) (l : Load) (j : MsgId) → Stands v j → Stands (view_after v (Line.Packet a b k l)) j
packet_stands v a b k l j h = stands_off v (view_after v (Line.Packet a b k l)) j (packet_off v a b k l) h

-- what a process leaves behind: the message still stands somewhere, or goes on
either_list : (v : View) (p : Pid) (j : MsgId) → 1 ≤ standing v j (Queue v.acting p) + standing v j (Held v.acting p) → 1 ≤ times j (both_lists v p)
either_list v p j e = let f = both_times v p j in omega (arith, e, f)

emptied_at : (v : View) (p : Pid) (j : MsgId) (z : Spot) → 1 ≤ standing v j z → Stands (emptied v p) j ⊎ (1 ≤ times j (both_lists v p))
emptied_at v p j (Queue m q) e = elim (cases_Bool ((v.acting == m) && pid_eq p q)) [
  | inl same ↦ inr (let f : 1 ≤ times j (v.queue v.acting p) = grind (arith, nat_tests, parts, eq_is, pid_eq-is) in either_list v p j (omega (arith, f)))
  | inr off ↦ inl (record { spot = Queue m q; least = subst (λ (ids : List MsgId). 1 ≤ times j ids) (sym (at_record_off v.queue v.acting m p q [] off)) e })
]
emptied_at v p j (Held m q) e = elim (cases_Bool ((v.acting == m) && pid_eq p q)) [
  | inl same ↦ inr (let f : 1 ≤ times j (v.held v.acting p) = grind (arith, nat_tests, parts, eq_is, pid_eq-is) in either_list v p j (omega (arith, f)))
  | inr off ↦ inl (record { spot = Held m q; least = subst (λ (ids : List MsgId). 1 ≤ times j ids) (sym (at_record_off v.held v.acting m p q [] off)) e })
]
emptied_at v p j (Inbox m) e = inl (record { spot = Inbox m; least = e })
emptied_at v p j (Untaken a b) e = inl (record { spot = Untaken a b; least = e })

pub sent_stands : (v : View) (p : Pid) (n : ℕ) (j : MsgId) → Front v j → Stands v j → Stands (view_after v (Line.SentOn p n)) j ⊎ (1 ≤ times j (both_lists v p))
sent_stands v p n j f h =
    let k = first_stands v j f h in
    elim (emptied_at (handled_first v) p j k.spot k.least) [
      | inl there ↦ inl (stands_off (emptied (handled_first v) p) (view_after v (Line.SentOn p n)) j (sent_off v p n) there)
      | inr on ↦ inr on
    ]

-- what was held is sent back
unheld_at : (v : View) (p : Pid) (j : MsgId) (z : Spot) → 1 ≤ standing v j z → (1 ≤ standing (unheld v p) j z) ⊎ (1 ≤ times j (v.held v.acting p))
unheld_at v p j (Queue m q) h = inl h
unheld_at v p j (Inbox m) h = inl h
unheld_at v p j (Untaken a c) h = inl h
unheld_at v p j (Held m q) h = elim (cases_Bool ((v.acting == m) && pid_eq p q)) [
  | inl same ↦ inr (let both = parts (v.acting == m) (pid_eq p q) same in subst (λ (r : Pid). 1 ≤ times j (v.held v.acting r)) (sym (equal.pid_eq-is p q both.1)) (subst (λ (n : ℕ). 1 ≤ times j (v.held n q)) (sym (eq_is v.acting m both.0)) h))
  | inr off ↦ inl (subst (λ (xs : List MsgId). 1 ≤ times j xs) (sym (ap (λ (c : Bool). if c then [] else v.held m q) off)) h)
]

pub called_stands : (v : View) (p : Pid) (n : ℕ) (j : MsgId) → Stands v j → Stands (view_after v (Line.Called p n)) j ⊎ (1 ≤ times j (v.held v.acting p))
called_stands v p n j h = elim (unheld_at v p j h.spot h.least) [
  | inl there ↦ inl (stands_off (unheld v p) (view_after v (Line.Called p n)) j (called_off v p n) (record { spot = h.spot; least = there }))
  | inr goes ↦ inr goes
]

-- the message itself is held
held_by : (v : View) (i : MsgId) (o : Option Pid) (p : Pid) → o ≡ Some p → Stands (held_for v i o) i
held_by v i None p e = none_some p e
held_by v i (Some q) p e =
    let f : times i ((held_for v i (Some q)).held v.acting q) ≡ times i (v.held v.acting q ++ i ∷ []) = ap (times i) (at_record_at v.held v.acting q (v.held v.acting q ++ i ∷ [])) in
    let g = times-append i (v.held v.acting q) (i ∷ []) in
    let one : one_of i i ≡ 1 = ap (λ (c : Bool). if c then 1 else 0) (id_eq-same i) in
    record { spot = Held v.acting q; least = omega (arith, f, g, one) }

pub held_this : (v : View) (i : MsgId) (t : Told) → v.told i ≡ Some t → Stands (view_after v (Line.Held i)) i
held_this v i t e = held_by (handled v i) i (receiver_of (v.told i)) t.receiver (ap receiver_of e)

-- what a packet brings: where messages come to doesn't rest on what is told of them
abbrev all_asks : View → View
all_asks v = record v { told = λ i. Some (record { kind = MessageKind.Ask; receiver = record { home = 0; num = 0 }; about = NothingElse }) }

abbrev taking : View → ℕ → ℕ → ℕ → View
taking v a b n = let p = v.pair a b in view.with_pair v a b (record p { taken = p.taken + 1; kept = filter (λ k. not (k == n)) p.kept })

taken_stands : (v : View) (a b n : ℕ) (j : MsgId) → Stands v j → Stands (view_after v (Line.Taken a b n)) j
taken_stands v a b n j h =
    let same_at : 1 ≤ standing (all_asks v) j h.spot = grind (arith, nat_tests, h.least) in
    let (y, least) = (taken_calm (all_asks v) a b n).on j (record { kind = MessageKind.Ask; receiver = record { home = 0; num = 0 }; about = NothingElse }) refl refl h.spot same_at in
    let taken_same : ids_at (taken_id (taking v a b n) b (view.oldest (v.pair a b))) y ≡ ids_at (taken_id (all_asks (taking v a b n)) b (view.oldest (v.pair a b))) y = grind (arith, nat_tests) in
    record { spot = y; least = subst (λ (ids : List MsgId). 1 ≤ times j ids) (sym taken_same) least }

pub net_stands : (v : View) (l : Line) (j : MsgId) → IsNetLine l → Stands v j → Stands (view_after v l) j
net_stands v (Line.Taken a b n) j is h = taken_stands v a b n j h
net_stands v (Line.Old a b n) j is h = h
net_stands v (Line.Early a b n) j is h = stands_off v (view_after v (Line.Early a b n)) j (λ z. early_off v a b n z) h
net_stands v (Line.Acked a b n) j is h = stands_off v (view_after v (Line.Acked a b n)) j (λ z. acked_off v a b n z) h
net_stands v Line.Nothing j is h = h
net_stands v (Line.Resent m n) j is h = h
net_stands v _ j is h = absurd is

-- As long as no line gives a slot an address, its address doesn't come to know fewer moves; and what was told stays.

pub told_stays : (v : View) (l : Line) (j : MsgId) (t : Told) → v.told j ≡ Some t → (view_after v l).told j ≡ Some t
told_stays v (Line.Put a b i k q) j t e = grind (arith, nat_tests, id_eq-is, put_at, first_kept, put_told_off)
told_stays v (Line.Lacks r f c) j t e = ap (λ (f : MsgId → Option Told). f j) (hushed v (Line.Lacks r f c) refl).told ∙ e
told_stays v any_ j t e = ap (λ (f : MsgId → Option Told). f j) (hushed v any_ refl).told ∙ e

follow_spares : (v : View) (a : Addresses) (r : Pid) (ids : List MsgId) (p : Pid) (k : ℕ) → gives_to (Slot p k) (all_follow v a r ids) ≡ false
follow_spares v a r [] p k = refl
follow_spares v a r (i ∷ is) p k = follow_spares v a r is p k

moves_grow : (pt : Point) (l : Line) (p : Pid) (k : ℕ) → fills pt (Slot p k) l ≡ false → (pt.addresses (Slot p k)).moves ≤ ((addresses_by pt.kernel pt.view pt.addresses (act_of l)) (Slot p k)).moves
moves_grow pt l p k e =
    let first_spares : (o : Option Told) (gs : List Gets) (p : Pid) (k : ℕ) → gives_to (Slot p k) gs ≡ false → gives_to (Slot p k) (first_gives o gs) ≡ false = λ o gs p k e. grind (arith, nat_tests) in
    let told_grows : (s : OneKernel) (v : View) (a : Addresses) (o : Option Told) (h : Holder) → (a h).moves ≤ (updated s v a o h).moves = λ s v a o h. grind (arith, nat_tests) in
    search (arith, follow_spares, told_grows, first_spares, not_given)

-- what each line needs of the kernel, and keeps
pub record Grounds (s : OneKernel) : Type 0 where
  pub r : MsgId → ℕ
  pub e : MsgId → ℕ
  pub sound : Sound r e s
  pub pending : ascends 0 s.manager.pending s.manager.sent ≡ true

-- where the slot led before, and how many moves its address knew
pub record Before (pt : Point) (p q : Pid) (k moves : ℕ) : Type 0 where
  pub leads : leads_to pt.kernel (Slot p k) ≡ Some q
  pub fewer : (pt.addresses (Slot p k)).moves ≤ moves

grounds_by : (s t : OneKernel) (v : View) (o : Option Label) → kernel_after s o ≡ Some t → Grounds s → Grounds t
grounds_by s t v None is h = let f : s ≡ t = cc in subst Grounds f h
grounds_by s t v (Some x) is h = search (arith, (after_step h.r h.e s t x is h.sound).sound, step_pending s t v x is h.sound.entered.named h.pending)

led_by : (pt : Point) (t : OneKernel) (l : Line) (o : Option Label) (p q : Pid) (k : ℕ) → label_of l ≡ o → kernel_after pt.kernel o ≡ Some t → Grounds pt.kernel → ((x : Label) → o ≡ Some x → gives_to (Slot p k) (gives pt.kernel pt.view pt.addresses x) ≡ false) → leads_to t (Slot p k) ≡ Some q
    → leads_to pt.kernel (Slot p k) ≡ Some q
led_by pt t l None p q k of is h spared leads = let f : pt.kernel ≡ t = cc in ap (λ (s : OneKernel). leads_to s (Slot p k)) f ∙ leads
led_by pt t l (Some x) p q k of is h spared leads = led_before pt.kernel t pt.view pt.addresses x p q k is h.sound.entered.named h.pending (spared x refl) leads

line_before : (pt next : Point) (l : Line) (p q : Pid) (k moves : ℕ) → after_line pt l ≡ Some next → Grounds pt.kernel → fills pt (Slot p k) l ≡ false → Before next p q k moves → Before pt p q k moves
line_before pt next l p q k moves is h e before =
    let spared_by : (pt : Point) (l : Line) (p : Pid) (k : ℕ) (x : Label) → label_of l ≡ Some x → fills pt (Slot p k) l ≡ false → gives_to (Slot p k) (gives pt.kernel pt.view pt.addresses x) ≡ false =
    λ pt l p k x of e. grind (arith, nat_tests) in
    let (s, comes, last) = bind-is (kernel_after pt.kernel (label_of l)) (λ s. Some (moved pt l s)) next is in
    let f : moved pt l s ≡ next = cc in
    let was : Before (moved pt l s) p q k moves = subst (λ (x : Point). Before x p q k moves) (sym f) before in
    let grows = moves_grow pt l p k e in
    let fewer = was.fewer in
    record { leads = led_by pt s l (label_of l) p q k refl comes h (λ x of. spared_by pt l p k x of e) was.leads; fewer = omega (arith, grows, fewer) }

-- through lines none of which gives the slot an address
pub lines_before : (ls : List Line) (pt end : Point) (p q : Pid) (k moves : ℕ) → after pt ls ≡ Some end → Grounds pt.kernel → Unfilled pt (Slot p k) ls → Before end p q k moves → Before pt p q k moves
lines_before [] pt end p q k moves is h none before = let f : pt ≡ end = cc in subst (λ (x : Point). Before x p q k moves) (sym f) before
lines_before (l ∷ ls) pt end p q k moves is h none before =
    let (mid, first, rest) = bind-is (after_line pt l) (λ (next : Point). after next ls) end is in
    let (s, comes, last) = bind-is (kernel_after pt.kernel (label_of l)) (λ s. Some (moved pt l s)) mid first in
    let f : moved pt l s ≡ mid = cc in
    let grounds = subst (λ (x : Point). Grounds x.kernel) f (grounds_by pt.kernel s pt.view (label_of l) comes h) in
    line_before pt mid l p q k moves first h none.0 (lines_before ls mid end p q k moves rest grounds (none.1 mid first) before)

-- what was told stays through lines
pub lines_told : (ls : List Line) (pt end : Point) (j : MsgId) (t : Told) → after pt ls ≡ Some end → pt.view.told j ≡ Some t → end.view.told j ≡ Some t
lines_told [] pt end j t is e = let f : pt ≡ end = cc in ap (λ (x : Point). x.view.told j) (sym f) ∙ e
lines_told (l ∷ ls) pt end j t is e =
    let (mid, first, rest) = bind-is (after_line pt l) (λ (next : Point). after next ls) end is in
    let (s, comes, last) = bind-is (kernel_after pt.kernel (label_of l)) (λ s. Some (moved pt l s)) mid first in
    let f : moved pt l s ≡ mid = cc in
    lines_told ls mid end j t rest (ap (λ (x : Point). x.view.told j) (sym f) ∙ told_stays pt.view l j t e)

-- What trails say of addresses and updates.

-- addresses are on the trails of their processes, and so is what updates tell; where no machine waits for a process, its trail ends
-- where it is, and so it is there, if it was made
pub record OnTrail (pt : Point) (t : Trails) : Type 0 where
  pub addresses : AddressesOn pt.kernel pt.addresses t
  pub about : (i : MsgId) (u : Told) (p : Pid) (m c : ℕ) → pt.view.told i ≡ Some u → u.about ≡ About.Place p m c → slice_get (t p) c ≡ Some m
  pub long : (p : Pid) → ((m : ℕ) → is_moving (pt.view.known m p) ≡ false) → length (t p) ≡ pt.view.moves p + 1
  pub there : (p : Pid) → is_made pt.kernel p ≡ true → ((m : ℕ) → is_moving (pt.view.known m p) ≡ false) → (m : ℕ) × (slice_get (t p) (pt.view.moves p) ≡ Some m) × IsThere pt p m

abbrev pub TrailKnown : Type 0
TrailKnown = (b : Boot) (es : List Step) (pt : Point) → IsValid b → Leads b (first_point b) es pt → (t : Trails) × OnTrail pt t
