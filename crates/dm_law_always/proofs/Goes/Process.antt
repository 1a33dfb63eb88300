-- A message for a process at the front of the inbox can be handled.
use Rattle.dm_law_always.proofs.Names.{◌≡◌, ℕ, ◌+◌, ◌≤◌, ◌==◌, ◌&&◌, ◌||◌, Bool, true, false, ◌∷◌, length, refl, ap, ◌∙◌, sym, subst, is_some, nat_le, arith, if◌then◌else◌, take, drop, Option, None, Some, false≢true, Pid, pid_eq, MsgId}
use Rattle.dm_law_always.proofs.Names.{MessageKind, Label, Reply, Line, id_eq, plain_kind, PlainMessage, PlainWhat, Direction, Boot, Why, switchboard, manager, bind, PlainProcess, PlainStatus, Moving, Life, Alive, Ended, OneKernel}
use Rattle.dm_law_always.proofs.Names.{with_process, with_sent, answer_id, answer_to, without_message, is_dropped, is_of_memory, id_eq-is, out_off, LandsSo, lands-is, Addresses, forwards_on, Point, moved, Says, Routes, times, View, Known}
use Rattle.dm_law_always.proofs.Names.{has_bytes, is_server, awaits, status_awaits, move_fits, piece_fits, WhatFits, is_fixed, agrees, is_still, handled, MoveNote, Outcome, with_note, id_eq-same, pid_eq-same, answers_move, leaves_for, []}
use Rattle.dm_law_always.proofs.Names.{Inbox, ends_with}
use Rattle.dm_onekernel.specs.Pieces as pieces
use Rattle.dm_onekernel.specs.Service as service
use Rattle.dm_onekernel.specs.Step as kernel
use Rattle.dm_law_rule.specs.Rule as rule
use Rattle.dm_law_rule.specs.View as view
use Rattle.dm_law_always.proofs.Fits.Rises.{both, set_at}
use Rattle.dm_law_always.proofs.Found.Always.{unknown_over}
use Rattle.dm_law_always.proofs.Own.Told.{AnyOwns, EndsOwns, Later, OwnTold, NoOwns, ends_later, forwarded_place, forwards_own}
use Rattle.dm_law_always.proofs.Goes.Parts.{does_nothing, does_route, can_as, can_ends, can_say, can_line, can_plain, ArePlain, does_asks, does_plain, Quiet}
use Rattle.dm_law_always.proofs.Queued.{is_user}
use Rattle.dm_law_always.proofs.Order.Lines.{Which, Ord}
use Rattle.dm_law_always.proofs.Order.Puts.{ord_queued}
use Rattle.dm_law_always.proofs.Goes.Turns.{droppable_on, does_ends, dropped_is, ends_quiet, no_preds}
use Rattle.dm_law_always.proofs.Goes.Front.{begun, Calm, CanTurn, Front, name_of, served_is, told_receiver, is_manager, answer_there, sent_there, does_answers, here_free}

-- a served message's step
served_step_is : (s : OneKernel) (i : MsgId) (x : PlainMessage) (y : PlainProcess) (w : PlainWhat) (t : OneKernel) → s.bag i ≡ Some x → s.processes x.to ≡ Some (Alive y) → s.notes x.to ≡ None → x.what ≡ w → service.serves s i x y w ≡ Some t → kernel.step s (Label.Served i) ≡ Some t
served_step_is s i x y w t there alive free is e = search arith

-- stop, resume
can_set : (b : Boot) (m : ℕ) (o : Point) (i : MsgId) (x : PlainMessage) (y z : PlainProcess) (w : PlainWhat) → x.what ≡ w → o.kernel.processes x.to ≡ Some (Alive y) → o.kernel.notes x.to ≡ None → Front b m o i x → service.serves o.kernel i x y w ≡ Some (service.changed o.kernel i x z)
    → CanTurn m o (Some (rule.says (Label.Served i) ∷ []))
can_set b m o i x y z w is alive free f serves =
    let t = service.changed o.kernel i x z in
    let step = served_step_is o.kernel i x y w t f.there alive free is serves in
    can_say (Calm m o) m (begun o m) (Label.Served i) t [] step refl tt (does_nothing (Calm m o) (moved (begun o m) (Line.Label (Label.Served i)) t))

-- a message is served, and another one goes
can_answer : (b : Boot) (m : ℕ) (o : Point) (i : MsgId) (x : PlainMessage) (y z : PlainProcess) (w : PlainWhat) (k : PlainMessage) (j : MsgId) → x.what ≡ w → o.kernel.processes x.to ≡ Some (Alive y) → o.kernel.notes x.to ≡ None → Front b m o i x
    → service.serves o.kernel i x y w ≡ Some (with_sent (service.changed o.kernel i x z) (Some k)) → (with_sent (service.changed o.kernel i x z) (Some k)).bag j ≡ Some k → is_user k.what ≡ false
    → CanTurn m o (Some (rule.says (Label.Served i) ∷ Routes j ∷ []))
can_answer b m o i x y z w k j is alive free f serves there other =
    let t = with_sent (service.changed o.kernel i x z) (Some k) in
    let step = served_step_is o.kernel i x y w t f.there alive free is serves in
    can_say (Calm m o) m (begun o m) (Label.Served i) t (Routes j ∷ []) step refl (tt, tt) (does_route (Calm m o) (moved (begun o m) (Line.Label (Label.Served i)) t) j k there (λ c s user. absurd (false≢true (sym other ∙ user))))

-- a kill takes the queue with it, and the predecessors are told
can_kill : (b : Boot) (m : ℕ) (o : Point) (i : MsgId) (x : PlainMessage) (y : PlainProcess) → x.what ≡ PlainWhat.Kill → o.kernel.processes x.to ≡ Some (Alive y) → o.kernel.notes x.to ≡ None → Front b m o i x → CanTurn m o (Some (rule.says (Label.Served i) ∷ ends_with o m x.to))
can_kill b m o i x y is alive free f =
    let s = o.kernel in
    let v = (begun o m).view in
    let t = with_process (without_message s i) x.to (Ended Why.Killed) in
    let step = served_step_is s i x y PlainWhat.Kill t f.there alive free is refl in
    can_ends (Calm m o) m (begun o m) (Label.Served i) t (ends_with o m x.to) step (ends_quiet o m x.to)
    (EndsOwns (Label.Served i) (ends_with o m x.to) refl (λ u a. refl) (subst (λ (w : View). Later w.topic (ends_with o m x.to)) (sym (served_is b m o i x (handled v i) PlainWhat.Kill is f)) (ends_later o m x.to)))
    (does_ends (Calm m o) x.to Why.Killed o m (moved (begun o m) (Line.Label (Label.Served i)) t) (set_at (without_message s i) x.to (Ended Why.Killed))
    (droppable_on s t x.to (o.view.queue m x.to) (λ j least. out_off s i j (apart j least (id_eq i j) refl)) (f.drops x.to)) (λ c. no_preds o m x.to (λ n. c.preds n x.to)))
  where
    apart : (j : MsgId) → 1 ≤ times j (o.view.queue m x.to) → (c : Bool) → id_eq i j ≡ c → id_eq i j ≡ false
    apart j least false e = e
    apart j least true e = absurd (let k : times j (o.view.queue m x.to) ≡ 0 = sym (ap (λ v. times v (o.view.queue m x.to)) (id_eq-is i j e)) ∙ f.unqueued m x.to in omega (arith, least, k))

-- landings
record LandsTo (p : Pid) (y : PlainProcess) (x : PlainMessage) (st : PlainStatus) : Type 0 where
  c : pieces.Landed
  is : pieces.lands p y x st ≡ Some c

lands_what_to : (p : Pid) (y : PlainProcess) (dir : Direction) (owner : Pid) (base own left : ℕ) (w : PlainWhat) → piece_fits dir left w ≡ true → nat_le (own + left) (length y.memory) ≡ true → is_of_memory w ≡ false
    → (c : pieces.Landed) × (pieces.lands_what p y dir owner base own left w ≡ Some c)
lands_what_to p y Direction.FromArea owner base own left (PlainWhat.Block bytes) fits within off =
    let z = record y { memory = pieces.written_at y.memory own bytes } in
    let c = pieces.move_goes_on p z Direction.FromArea owner base own left (pieces.piece_of left) in
    (c, ap (λ (d : Bool). if d && nat_le (own + left) (length y.memory) then Some c else None) fits ∙ ap (λ (d : Bool). if d then Some c else None) within)
lands_what_to p y Direction.IntoArea owner base own left PlainWhat.Written fits within off =
    let c = pieces.move_goes_on p y Direction.IntoArea owner base own left (pieces.piece_of left) in
    (c, ap (λ (d : Bool). if d then Some c else None) within)
lands_what_to p y Direction.FromArea owner base own left PlainWhat.Gone fits within off = (pieces.done Reply.Gone y, refl)
lands_what_to p y Direction.IntoArea owner base own left PlainWhat.Gone fits within off = (pieces.done Reply.Gone y, refl)
lands_what_to p y _ owner base own left _ fits within off = cc

lands_to : (b : Boot) (p : Pid) (y : PlainProcess) (x : PlainMessage) (ps : _) (n : ℕ) (w : PlainWhat) (st : PlainStatus) → x.what ≡ w → x.id.n ≡ n → status_awaits st n w ≡ true → move_fits ps y st ≡ true → is_of_memory w ≡ false → LandsTo p y x st
lands_to b p y x ps n w (Moving dir owner base own left pending) is number waits fits off =
    let k = both (n == pending) (piece_fits dir left w) waits in
    let within = (both (has_bytes (base + left) (ps owner)) (nat_le (own + left) (length y.memory)) fits).1 in
    let (c, lands) = lands_what_to p y dir owner base own left w k.1 within off in
    search (arith, x.what, k.0)
lands_to b p y x ps n w _ is number waits fits off = cc

can_land_at : (b : Boot) (m : ℕ) (o : Point) (i : MsgId) (x : PlainMessage) (y : PlainProcess) (w : PlainWhat) (c : pieces.Landed) → x.what ≡ w → o.kernel.processes x.to ≡ Some (Alive y) → o.kernel.notes x.to ≡ None → Front b m o i x → service.serves o.kernel i x y w ≡ Some (service.landed o.kernel i x c)
    → LandsSo x.to y c → CanTurn m o (rule.landing_parts i (Some c))
can_land_at b m o i x y w (pieces.Next request z) is alive free f serves so =
    can_answer b m o i x y z w request request.id is alive free f serves (sent_there (service.changed o.kernel i x z) (Some request) request refl) (search arith)
can_land_at b m o i x y w (pieces.Done reply z) is alive free f serves so = can_set b m o i x y z w is alive free f serves

can_land : (b : Boot) (m : ℕ) (o : Point) (i : MsgId) (x : PlainMessage) (y : PlainProcess) (w : PlainWhat) → x.what ≡ w → o.kernel.processes x.to ≡ Some (Alive y) → o.kernel.notes x.to ≡ None → Front b m o i x
    → ((c : pieces.Landed) → pieces.lands x.to y x y.status ≡ Some c → service.serves o.kernel i x y w ≡ Some (service.landed o.kernel i x c)) → is_of_memory w ≡ false → awaits (o.kernel.processes x.to) i.n w ≡ true
    → CanTurn m o (rule.landing_parts i (pieces.lands x.to y x y.status))
can_land b m o i x y w is alive free f serves off waits =
    let status : status_awaits y.status i.n w ≡ true = sym (ap (λ (l : Option Life). awaits l i.n w) alive) ∙ waits in
    let k = lands_to b x.to y x o.kernel.processes i.n w y.status is (ap (λ (j : MsgId). j.n) (name_of b m o i x f)) status (f.run.based.fits.processes x.to y alive).move off in
    can_as (Calm m o) m (begun o m) (rule.landing_parts i (pieces.lands x.to y x y.status)) (rule.landing_parts i (Some k.c)) (ap (rule.landing_parts i) k.is) (can_land_at b m o i x y w k.c is alive free f (serves k.c k.is) (lands-is x.to y x y.status k.c k.is))

-- a queued message keeps its place
queued_order : (b : Boot) (m : ℕ) (o : Point) (i : MsgId) (x : PlainMessage) → Front b m o i x → x.to.home ≡ m → (k : Which) → Ord k o.kernel (begun o m).view → Ord k o.kernel (view.view_after (begun o m).view (Line.Queued i))
queued_order b m o i x f home k q =
    let v = (begun o m).view in
    let receiver : view.receiver_of (o.view.told i) ≡ Some x.to = ap view.receiver_of f.told_is ∙ ap Some (told_receiver b m o i x f) in
    subst (λ (r : Option Pid). Ord k o.kernel (view.queued_for (handled v i) i r)) (sym receiver) (ord_queued k o.kernel v i f.rest x.to f.box home (ap is_some f.told_is) q)

-- a process is asked to move: it is there already, or sets off
asked_is : (s : OneKernel) (i : MsgId) (x : PlainMessage) (y : PlainProcess) (to : ℕ) → s.bag i ≡ Some x → s.processes x.to ≡ Some (Alive y) → s.notes x.to ≡ None → x.what ≡ PlainWhat.Move to
    → kernel.step s (Label.Asked i) ≡ Some (with_note (without_message s i) x.to (record { id = i; asker = x.sender }))
asked_is s i x y to there alive free is = search arith

can_move : (b : Boot) (m : ℕ) (o : Point) (i : MsgId) (x : PlainMessage) (y : PlainProcess) (to : ℕ) (c : Bool) → x.what ≡ PlainWhat.Move to → o.kernel.processes x.to ≡ Some (Alive y) → o.kernel.notes x.to ≡ None → Front b m o i x
    → CanTurn m o (Some (rule.says (Label.Asked i) ∷ (if c then answers_move i Outcome.Done else leaves_for x.to to)))
can_move b m o i x y to true is alive free f =
    let s = o.kernel in
    let n : MoveNote = record { id = i; asker = x.sender } in
    let t = with_note (without_message s i) x.to n in
    let mid = moved (begun o m) (Line.Label (Label.Asked i)) t in
    record {
      ps = rule.says (Label.Asked i) ∷ answers_move i Outcome.Done;
      is = refl;
      does = does_asks (Calm m o) (begun o m) i t (answers_move i Outcome.Done) (asked_is s i x y to f.there alive free is)
          (does_answers ⊥ mid i x.to n Outcome.Done (ap (λ (c : Bool). if c then Some x.to else s.noted i) (id_eq-same i)) (ap (λ (c : Bool). if c then Some n else s.notes x.to) (pid_eq-same x.to)) refl);
      shape = Quiet refl;
      owns = NoOwns (tt, (tt, (tt, tt)));
    }
can_move b m o i x y to false is alive free f =
    let s = o.kernel in
    let t = with_note (without_message s i) x.to (record { id = i; asker = x.sender }) in
    let mid = moved (begun o m) (Line.Label (Label.Asked i)) t in
    record {
      ps = rule.says (Label.Asked i) ∷ leaves_for x.to to;
      is = refl;
      does = does_asks (Calm m o) (begun o m) i t (leaves_for x.to to) (asked_is s i x y to f.there alive free is) (does_plain ⊥ (leaves_for x.to to) mid (λ z. z) (refl, (refl, (tt, tt))));
      shape = Quiet refl;
      owns = AnyOwns (Line.Label (Label.Asked i)) (leaves_for x.to to) refl (λ a. (refl, tt));
    }

-- a row a kind
pub can_here : (b : Boot) (m : ℕ) (o : Point) (i : MsgId) (x : PlainMessage) (y : PlainProcess) (w : PlainWhat) → x.what ≡ w → (x.to.num == 0) ≡ false → pid_eq x.to manager ≡ false → o.kernel.processes x.to ≡ Some (Alive y) → o.kernel.notes x.to ≡ None → Front b m o i x → WhatFits o.kernel i x w
    → CanTurn m o (rule.here_handles o m i x y w)
can_here b m o i x y (PlainWhat.User code channel body links) is num other alive free f h = can_line (Calm m o) m (begun o m) (Line.Queued i) refl refl (λ c k q. queued_order b m o i x f (c.front i f.rest x f.box f.there) k q)
can_here b m o i x y PlainWhat.Stop is num other alive free f h = can_set b m o i x y (record y { stopped = true }) PlainWhat.Stop is alive free f refl
can_here b m o i x y PlainWhat.Resume is num other alive free f h = can_set b m o i x y (record y { stopped = false }) PlainWhat.Resume is alive free f refl
can_here b m o i x y PlainWhat.Kill is num other alive free f h = can_kill b m o i x y is alive free f
can_here b m o i x y (PlainWhat.Read base len) is num other alive free f h =
    let s = o.kernel in
    let within : nat_le (base + len) (length y.memory) ≡ true = sym (ap (has_bytes (base + len)) alive) ∙ h.0 in
    let k = answer_to x (PlainWhat.Block (take len (drop base y.memory))) in
    let reads : pieces.reads y x base len ≡ Some (record { process = y; answer = k }) = ap (λ (c : Bool). if c then Some (record { process = y; answer = k }) else None) within in
    can_answer b m o i x y y (PlainWhat.Read base len) k (answer_id i) is alive free f (ap (λ (c : Option pieces.Served). bind c (λ (r : pieces.Served). Some (service.answered s i x r))) reads)
    (answer_there (service.changed s i x y) i x (PlainWhat.Block (take len (drop base y.memory))) (name_of b m o i x f)) refl
can_here b m o i x y (PlainWhat.Write base bytes) is num other alive free f h =
    let s = o.kernel in
    let within : nat_le (base + length bytes) (length y.memory) ≡ true = sym (ap (has_bytes (base + length bytes)) alive) ∙ h.0 in
    let z = record y { memory = pieces.written_at y.memory base bytes } in
    let k = answer_to x PlainWhat.Written in
    let writes : pieces.writes y x base bytes ≡ Some (record { process = z; answer = k }) = ap (λ (c : Bool). if c then Some (record { process = z; answer = k }) else None) within in
    can_answer b m o i x y z (PlainWhat.Write base bytes) k (answer_id i) is alive free f (ap (λ (c : Option pieces.Served). bind c (λ (r : pieces.Served). Some (service.answered s i x r))) writes)
    (answer_there (service.changed s i x z) i x PlainWhat.Written (name_of b m o i x f)) refl
can_here b m o i x y (PlainWhat.Create image links) is num other alive free f h = search (arith, x.to.num)
can_here b m o i x y (PlainWhat.Created child) is num other alive free f h = search (arith, is_manager, x.to)
can_here b m o i x y PlainWhat.NoRoom is num other alive free f h =
    let (to, answer, pending) = h in
    absurd (false≢true (sym other ∙ is_manager x.to to))
can_here b m o i x y (PlainWhat.Move to) is num other alive free f h = can_move b m o i x y to (m == to) is alive free f
can_here b m o i x y (PlainWhat.Moved a) is num other alive free f h =
    let (to, answer, pending) = h in
    absurd (false≢true (sym other ∙ is_manager x.to to))
can_here b m o i x y any_ is num other alive free f h =
    can_land b m o i x y any_ is alive free f (λ c e. ap (λ (o_ : Option pieces.Landed). bind o_ (λ (r : pieces.Landed). Some (service.landed o.kernel i x r))) e) refl (ap (λ p. awaits (o.kernel.processes p) i.n any_) h.0 ∙ h.1)

-- a receiver that has ended
pub gone_is : (s : OneKernel) (i : MsgId) (x : PlainMessage) (y : Why) (v : PlainWhat) → s.bag i ≡ Some x → s.processes x.to ≡ Some (Ended y) → service.gone_what x.what ≡ Some v → kernel.step s (Label.Gone i) ≡ Some (with_sent (without_message s i) (Some (answer_to x v)))
gone_is s i x y v there ended answer = search arith

can_gone : (b : Boot) (m : ℕ) (o : Point) (i : MsgId) (x : PlainMessage) (y : Why) (v : PlainWhat) → service.gone_what x.what ≡ Some v → is_user v ≡ false → o.kernel.processes x.to ≡ Some (Ended y) → Front b m o i x → CanTurn m o (Some (rule.says (Label.Gone i) ∷ Routes (answer_id i) ∷ []))
can_gone b m o i x y v answer other ended f =
    let s = o.kernel in
    let t = with_sent (without_message s i) (Some (answer_to x v)) in
    can_say (Calm m o) m (begun o m) (Label.Gone i) t (Routes (answer_id i) ∷ []) (gone_is s i x y v f.there ended answer) refl (tt, tt)
    (does_route (Calm m o) (moved (begun o m) (Line.Label (Label.Gone i)) t) (answer_id i) (answer_to x v) (answer_there (without_message s i) i x v (name_of b m o i x f)) (λ c s_ user. absurd (false≢true (sym other ∙ user))))

can_drop : (b : Boot) (m : ℕ) (o : Point) (i : MsgId) (x : PlainMessage) (y : Why) → is_dropped x.what ≡ true → o.kernel.processes x.to ≡ Some (Ended y) → Front b m o i x → CanTurn m o (Some (rule.says (Label.Dropped i) ∷ []))
can_drop b m o i x y drops ended f =
    let t = without_message o.kernel i in
    can_say (Calm m o) m (begun o m) (Label.Dropped i) t [] (dropped_is o.kernel i x y f.there ended drops) refl tt (does_nothing (Calm m o) (moved (begun o m) (Line.Label (Label.Dropped i)) t))

pub can_ended : (b : Boot) (m : ℕ) (o : Point) (i : MsgId) (x : PlainMessage) (y : Why) (w : PlainWhat) → x.what ≡ w → (x.to.num == 0) ≡ false → pid_eq x.to manager ≡ false → o.kernel.processes x.to ≡ Some (Ended y) → Front b m o i x → WhatFits o.kernel i x w
    → CanTurn m o (rule.ended_handles i w)
can_ended b m o i x y (PlainWhat.Read base len) is num other ended f h = can_gone b m o i x y PlainWhat.Gone (ap service.gone_what is) refl ended f
can_ended b m o i x y (PlainWhat.Write base bytes) is num other ended f h = can_gone b m o i x y PlainWhat.Gone (ap service.gone_what is) refl ended f
can_ended b m o i x y (PlainWhat.Create image links) is num other ended f h = search (arith, x.to.num)
can_ended b m o i x y (PlainWhat.Created child) is num other ended f h = search (arith, is_manager, x.to)
can_ended b m o i x y PlainWhat.NoRoom is num other ended f h =
    let (to, answer, pending) = h in
    absurd (false≢true (sym other ∙ is_manager x.to to))
can_ended b m o i x y (PlainWhat.Move a) is num other ended f h = can_gone b m o i x y (PlainWhat.Moved Outcome.Ended) (ap service.gone_what is) refl ended f
can_ended b m o i x y (PlainWhat.Moved a) is num other ended f h =
    let (to, answer, pending) = h in
    absurd (false≢true (sym other ∙ is_manager x.to to))
can_ended b m o i x y _ is num other ended f h = can_drop b m o i x y (ap is_dropped is) ended f

-- by what the machine knows of it
pub alive_of : (l : Option Life) → agrees view.Here l ≡ true → (y : PlainProcess) × (l ≡ Some (Alive y))
alive_of (Some (Alive y)) e = (y, refl)
alive_of _ e = cc

-- a message goes on
pub forwards_plain : (v : View) (a : Addresses) (i : MsgId) (k : MessageKind) (sender : Pid) (to : ℕ) → is_some (v.told i) ≡ true → ArePlain v (forwards_on a i k sender to)
forwards_plain v a i k sender to told = search arith

-- a process that is no server
pub no_server : {X : Type 0} (d e : Bool) (x y z : X) → d ≡ false → e ≡ false → (if d then x else if e then y else z) ≡ z
no_server d e x y z h k = ap (λ (c : Bool). if c then x else if e then y else z) h ∙ ap (λ (c : Bool). if c then y else z) k

-- a receiver that nothing is known of where its message comes has ended
pub front_over : (b : Boot) (m : ℕ) (o : Point) (i : MsgId) (x : PlainMessage) → is_fixed x.to ≡ false → Front b m o i x → o.view.known m x.to ≡ view.Unknown → (y : Why) × (o.kernel.processes x.to ≡ Some (Ended y))
front_over b m o i x free f none =
    let to = told_receiver b m o i x f in
    let (y, over) = unknown_over o i (Inbox m) f.told f.run.based.phased f.run.kept f.first f.told_is (ap is_fixed to ∙ free) (ap (o.view.known m) to ∙ none) in
    (y, ap o.kernel.processes (sym to) ∙ over)

-- by what the machine knows of the receiver, be it a process or a server
pub can_known : (b : Boot) (m : ℕ) (o : Point) (i : MsgId) (x : PlainMessage) (k : Known) → o.view.known m x.to ≡ k → (k ≡ view.Unknown → CanTurn m o (rule.ended_handles i x.what)) → (k ≡ view.Here → CanTurn m o (rule.handles_here o m i x)) → Front b m o i x → OwnTold o
    → CanTurn m o (rule.process_handles o m i x k)
can_known b m o i x view.Unknown is over here f own = over refl
can_known b m o i x view.Here is over here f own = here refl
can_known b m o i x (view.Frozen to) is over here f own = can_plain (Calm m o) m (begun o m) (Says (Line.Held i) ∷ []) (λ c. false≢true (sym (ap is_still is) ∙ c.known x.to)) (refl, tt) (NoOwns (tt, tt))
can_known b m o i x (view.Incoming from) is over here f own = can_plain (Calm m o) m (begun o m) (Says (Line.Held i) ∷ []) (λ c. false≢true (sym (ap is_still is) ∙ c.known x.to)) (refl, tt) (NoOwns (tt, tt))
can_known b m o i x (view.Forward at_ moves) is over here f own =
    let v = (begun o m).view in
    can_plain (Calm m o) m (begun o m) (forwards_on o.addresses i (plain_kind x.what) x.sender at_) (λ c. false≢true (sym (ap is_still is) ∙ c.known x.to)) (forwards_plain v o.addresses i (plain_kind x.what) x.sender at_ (ap is_some f.told_is))
    (forwards_own v o.addresses i (plain_kind x.what) x.sender at_ (forwarded_place v i at_ f.told at_ moves f.told_is (ap (o.view.known m) (told_receiver b m o i x f) ∙ is)) (λ e. own.sender i x f.there e))

-- a process that is here lives
can_alive : (b : Boot) (m : ℕ) (o : Point) (i : MsgId) (x : PlainMessage) → o.view.known m x.to ≡ view.Here → (x.to.num == 0) ≡ false → pid_eq x.to switchboard ≡ false → pid_eq x.to manager ≡ false → Front b m o i x → CanTurn m o (rule.handles_here o m i x)
can_alive b m o i x is num one other f =
    let server : is_server x.to ≡ false = ap (λ (c : Bool). c || pid_eq x.to manager) one ∙ other in
    let (y, alive) = alive_of (o.kernel.processes x.to) (sym (ap (λ (k : Known). agrees k (o.kernel.processes x.to)) is) ∙ f.run.based.known.agree m x.to server) in
    can_as (Calm m o) m (begun o m) (rule.handles_here o m i x) (rule.here_handles o m i x y x.what) (no_server (pid_eq x.to switchboard) (pid_eq x.to manager) _ _ _ one other ∙ ap (λ (l : Option Life). bind (kernel.alive l) (λ (p : PlainProcess). rule.here_handles o m i x p x.what)) alive)
    (can_here b m o i x y x.what refl num other alive (here_free o.kernel o.view m x.to f.run.based.noted is) f (f.run.based.fits.messages i x f.there))

pub can_process : (b : Boot) (m : ℕ) (o : Point) (i : MsgId) (x : PlainMessage) → (x.to.num == 0) ≡ false → pid_eq x.to switchboard ≡ false → pid_eq x.to manager ≡ false → Front b m o i x → OwnTold o → CanTurn m o (rule.process_handles o m i x (o.view.known m x.to))
can_process b m o i x num one other f own = can_known b m o i x (o.view.known m x.to) refl
    (λ none. (
    let (y, over) = front_over b m o i x num f none in
    can_ended b m o i x y x.what refl num other over f (f.run.based.fits.messages i x f.there)
    ))
    (λ is. can_alive b m o i x is num one other f) f own
