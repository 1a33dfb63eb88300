-- The message at the front of the inbox: what it is for whom.
use Rattle.dm_law_always.proofs.Names.{◌≡◌, ℕ, ◌≤◌, ◌==◌, true, false, List, [], ◌∷◌, refl, ap, ◌∙◌, sym, subst, is_some, arith, Option, None, Some, Pid, pid_eq, MsgId, id_eq, plain_kind, Step, Line}
use Rattle.dm_law_always.proofs.Names.{PlainMessage, PlainWhat, Boot, switchboard, manager, OneKernel, with_sent, answer_id, answer_to, Made, id_eq-same, pid_eq-same, sent_at, Point, moved, Inbox, times, standing, View, Told, Sane, is_server}
use Rattle.dm_law_always.proofs.Names.{WhatFits, is_fixed, are_home, Part, is_still, is_here, bind, Label, MoveNote, Outcome, without_note, false≢true, Routes, answers_move, sort_of, none_some}
use Rattle.dm_law_always.proofs.Goes.Parts.{does_label, Does, does_nothing, does_route, sane_by, Can}
use Rattle.dm_law_always.proofs.Based.Noted.{Away}
use Rattle.dm_law_always.proofs.Runs.{Run}
use Rattle.dm_law_always.proofs.Goes.Turns.{Droppable}
use Rattle.dm_law_always.proofs.Found.Real.{has_some, waits_some}
use Rattle.dm_law_always.proofs.Order.Lines.{Last}
use Rattle.dm_onekernel.specs.Service as service
use Rattle.dm_onekernel.specs.Step as kernel
use Rattle.dm_law_rule.specs.Rule as rule
use Rattle.dm_law_rule.specs.View as view

-- behind the head of a turn
abbrev pub begun : Point → ℕ → Point
begun o m = moved o (Line.Head (Step.Turn m)) o.kernel

-- nothing has moved: on this machine nothing moves now, what it has is at home here, and no message is a kernel's own
pub record Calm (m : ℕ) (o : Point) : Type 0 where
  pub known : (p : Pid) → is_still (o.view.known m p) ≡ true
  pub preds : (n : ℕ) (p : Pid) → o.view.preds m p n ≡ false
  pub ring : are_home m (o.view.ring m) ≡ true
  pub front : (i : MsgId) (is : List MsgId) (x : PlainMessage) → o.view.inbox m ≡ i ∷ is → o.kernel.bag i ≡ Some x → x.to.home ≡ m
  pub none : (i : MsgId) (is : List MsgId) → o.view.inbox m ≡ i ∷ is → o.kernel.bag i ≡ None → ⊥

-- a turn in a run where nothing moves
abbrev pub CanTurn : ℕ → Point → Option (List Part) → Type 0
CanTurn m o ps = Can (Calm m o) m (begun o m) ps

pub begun_sane : (o : Point) (m : ℕ) → Sane o → Sane (begun o m)
begun_sane o m s = sane_by o (Line.Head (Step.Turn m)) o.kernel refl refl s

pub record Front (b : Boot) (m : ℕ) (o : Point) (i : MsgId) (x : PlainMessage) : Type 0 where
  pub rest : List MsgId
  pub box : o.view.inbox m ≡ i ∷ rest
  pub there : o.kernel.bag i ≡ Some x
  pub told : Told
  pub told_is : o.view.told i ≡ Some told
  pub first : 1 ≤ standing o.view i (Inbox m)
  pub unqueued : (n : ℕ) (p : Pid) → times i (o.view.queue n p) ≡ 0
  pub drops : (q : Pid) → Droppable o.kernel q (o.view.queue m q)
  pub run : Run b o

pub name_of : (b : Boot) (m : ℕ) (o : Point) (i : MsgId) (x : PlainMessage) → Front b m o i x → x.id ≡ i
name_of b m o i x f = f.run.based.phased.sane.sound.entered.named i x f.there

-- what was told of it
pub told_kind : (b : Boot) (m : ℕ) (o : Point) (i : MsgId) (x : PlainMessage) (f : Front b m o i x) → f.told.kind ≡ plain_kind x.what
told_kind b m o i x f = (f.run.based.phased.sane).tells.kind i x f.told f.there f.told_is

pub told_receiver : (b : Boot) (m : ℕ) (o : Point) (i : MsgId) (x : PlainMessage) (f : Front b m o i x) → f.told.receiver ≡ x.to
told_receiver b m o i x f = (f.run.based.phased.sane).tells.receiver i x f.told f.there f.told_is

-- a kernel is at home here
pub home_of : (b : Boot) (m : ℕ) (o : Point) (i : MsgId) (x : PlainMessage) → is_fixed x.to ≡ true → Front b m o i x → x.to.home ≡ m
home_of b m o i x fixed f =
    let to = told_receiver b m o i x f in
    sym (ap (λ (q : Pid). q.home) to) ∙ sym (f.run.found.fixed i (Inbox m) f.told f.first f.told_is (ap is_fixed to ∙ fixed))

-- what the view does with a served message of this kind
pub served_is : (b : Boot) (m : ℕ) (o : Point) (i : MsgId) (x : PlainMessage) (v : View) (w : PlainWhat) → x.what ≡ w → Front b m o i x → view.served_told v (o.view.told i) ≡ view.ends_by (sort_of (plain_kind w)) v (Some x.to)
served_is b m o i x v w is f =
    ap (view.served_told v) f.told_is ∙ ap (λ c. view.ends_by (sort_of c) v (Some f.told.receiver)) (told_kind b m o i x f ∙ ap plain_kind is) ∙ ap (λ p. view.ends_by (sort_of (plain_kind w)) v (Some p)) (told_receiver b m o i x f)

-- processes are numbered from 3
record IsProcess (s : OneKernel) (p : Pid) : Type 0 where
  number : (p.num == 0) ≡ false
  board : pid_eq p switchboard ≡ false
  manager_ : pid_eq p manager ≡ false

made_is : (s : OneKernel) (p : Pid) → is_some (s.processes p) ≡ true → Made s → IsProcess s p
made_is s p there h = search (arith, h.least)

-- what a message of this kind is for, if it isn't for a process that was made
abbrev pub ForOthers : PlainMessage → PlainWhat → Type 0
ForOthers x (PlainWhat.User code channel body links) = is_server x.to ≡ true
ForOthers x (PlainWhat.Create image links) = x.to.num ≡ 0
ForOthers x (PlainWhat.Created child) = x.to ≡ manager
ForOthers x PlainWhat.NoRoom = x.to ≡ manager
ForOthers x (PlainWhat.Moved outcome) = x.to ≡ manager
ForOthers x w = ⊥

pub data ForWhom (s : OneKernel) (x : PlainMessage) (w : PlainWhat) : Type 0 where
  ForProcess : (made : is_some (s.processes x.to) ≡ true) → ForWhom s x w
  ForOther : (other : ForOthers x w) → ForWhom s x w

pub for_whom : (s : OneKernel) (i : MsgId) (x : PlainMessage) (w : PlainWhat) → WhatFits s i x w → ForWhom s x w
for_whom s i x w h1 = search (arith, x.to, has_some, s.processes, waits_some, i.from, i.n)

-- a message for a kernel, for the switchboard, for the manager
pub process_not_kernel : (s : OneKernel) (p : Pid) → is_some (s.processes p) ≡ true → (p.num == 0) ≡ true → Made s → false ≡ true
process_not_kernel s p there e h = sym (made_is s p there h).number ∙ e

pub process_not_board : (s : OneKernel) (p : Pid) → is_some (s.processes p) ≡ true → pid_eq p switchboard ≡ true → Made s → false ≡ true
process_not_board s p there e h = sym (made_is s p there h).board ∙ e

pub process_not_manager : (s : OneKernel) (p : Pid) → is_some (s.processes p) ≡ true → pid_eq p manager ≡ true → Made s → false ≡ true
process_not_manager s p there e h = sym (made_is s p there h).manager_ ∙ e

pub is_manager : (p : Pid) → p ≡ manager → pid_eq p manager ≡ true
is_manager p e = ap (λ q. pid_eq q manager) e ∙ pid_eq-same manager

-- an answer stands in the bag under its request's name
pub answer_there : (u : OneKernel) (i : MsgId) (x : PlainMessage) (w : PlainWhat) → x.id ≡ i → (with_sent u (Some (answer_to x w))).bag (answer_id i) ≡ Some (answer_to x w)
answer_there u i x w name = sent_at u (answer_to x w) (answer_id i) (ap (λ (j : MsgId). id_eq (answer_id j) (answer_id i)) name ∙ id_eq-same (answer_id i))

-- a server's message, if there is one
pub does_routes : (C : Type 0) (pt : Point) (k : Option PlainMessage) → ((x : PlainMessage) → k ≡ Some x → pt.kernel.bag x.id ≡ Some x) → ((x : PlainMessage) → k ≡ Some x → C → Sane pt → Last pt.kernel pt.view x.id) → Does C pt (rule.routes k)
does_routes C pt None there last = does_nothing C pt
does_routes C pt (Some x) there last = does_route C pt x.id x (there x refl) (λ c s user. last x refl c s)

pub sent_there : (u : OneKernel) (k : Option PlainMessage) (x : PlainMessage) → k ≡ Some x → (with_sent u k).bag x.id ≡ Some x
sent_there u None x e = none_some x e
sent_there u (Some y) x e = let f : y ≡ x = cc in subst (λ (z : PlainMessage). (with_sent u (Some y)).bag z.id ≡ Some z) f (sent_at u y y.id (id_eq-same y.id))

-- the end of a move is answered
pub does_answers : (C : Type 0) (pt : Point) (i : MsgId) (p : Pid) (n : MoveNote) (r : Outcome) → pt.kernel.noted i ≡ Some p → pt.kernel.notes p ≡ Some n → service.ends_move pt.kernel i p n r ≡ Some (service.move_ended pt.kernel i p n r) → Does C pt (answers_move i r)
does_answers C pt i p n r noted notes ends =
    let s = pt.kernel in
    let k : PlainMessage = record { id = answer_id i; to = n.asker; sender = p; what = PlainWhat.Moved r } in
    let t = service.move_ended s i p n r in
    let step : kernel.step s (Label.Answered i r) ≡ Some t =
    ap (λ (o : Option Pid). bind o (λ (q : Pid). bind (s.notes q) (λ (z : MoveNote). service.ends_move s i q z r))) noted ∙ ap (λ (o : Option MoveNote). bind o (λ (z : MoveNote). service.ends_move s i p z r)) notes ∙ ends in
    does_label C pt (Label.Answered i r) t (Routes (answer_id i) ∷ []) step
    (does_route C (moved pt (Line.Label (Label.Answered i r)) t) (answer_id i) k (sent_at (without_note s p i) k (answer_id i) (id_eq-same (answer_id i))) (λ c sane user. absurd (false≢true user)))

-- what is here follows no request to move
pub here_free : (s : OneKernel) (v : View) (m : ℕ) (p : Pid) → Away None s v → v.known m p ≡ view.Here → s.notes p ≡ None
here_free s v m p h here = free (s.notes p) refl
  where
    free : (o : Option MoveNote) → s.notes p ≡ o → o ≡ None
    free None e = refl
    free (Some n) e = absurd (false≢true (sym (h.away p n e tt m) ∙ ap is_here here))
