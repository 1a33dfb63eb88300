-- Whom addresses are of is a kernel of a machine that there is, or a process or a server that its home knows.
use Rattle.dm_law_always.proofs.Names.{◌≡◌, ◌⊎◌, ℕ, zero, suc, ◌<◌, ◌==◌, ◌||◌, Bool, true, false, is_some, nat_lt, List, [], ◌∷◌, refl, ap, ◌∙◌, sym, subst, inl, inr, arith, if◌then◌else◌, slice_get, Option, None, Some, nat_tests, Pid}
use Rattle.dm_law_always.proofs.Names.{PlainLink, link_at, MsgId, PlainMessage, PlainWhat, switchboard, manager, PlainProcess, Life, Pending, Made, alive-is, View, Holder, Slot, Owner, Receiver, Sender, Enclosed, Child, Name, Answer, none_some}
use Rattle.dm_law_always.proofs.Names.{link_target, to_of, sender_of, names, Point, Each, has_bytes, is_server, LinkFits, WhatFits, awaits, is_fixed, gives_no_right, ◌&&◌, ◌+◌, MoveNote, AskedBy, ToBoard, asker_in, option_and_then, owner_in, Lives}
use Rattle.dm_onekernel.specs.Manager as manage
use Rattle.dm_onekernel.specs.Step as kernel
use Rattle.dm_law_always.proofs.Fits.Rises.{both, slot_link}
use Rattle.dm_law_always.proofs.Found.Core.{IsReal, LineCore, Core, lines_of_core, some_made, server_made}
use Rattle.dm_law_always.proofs.Found.Lists.{Sends}

pub made_free : (pt : Point) (q : Pid) → Made pt.kernel → is_some (pt.kernel.processes q) ≡ true → is_fixed q ≡ false
made_free pt q h some = search arith

made_real : (pt : Point) (n : ℕ) (q : Pid) → LineCore n pt → is_some (pt.kernel.processes q) ≡ true → IsReal n pt.kernel.processes pt.view q
made_real pt n q h some = inr (h.home q (some_made pt.kernel q some))

pub server_real : (pt : Point) (n : ℕ) (q : Pid) → LineCore n pt → is_server q ≡ true → IsReal n pt.kernel.processes pt.view q
server_real pt n q h e = inr (h.home q (server_made pt.kernel q e))

-- what fits
pub has_some : (n : ℕ) (o : Option Life) → has_bytes n o ≡ true → is_some o ≡ true
has_some n (Some l) e = refl
has_some n None e = cc

pub waits_some : (o : Option Life) (n : ℕ) (x : PlainWhat) → awaits o n x ≡ true → is_some o ≡ true
waits_some (Some l) n x e = refl
waits_some None n x e = cc

pub or_cases : (c d : Bool) → (c || d) ≡ true → (c ≡ true) ⊎ (d ≡ true)
or_cases true d e = inl refl
or_cases false d e = inr e

has_real : (pt : Point) (n k : ℕ) (q : Pid) → LineCore n pt → has_bytes k (pt.kernel.processes q) ≡ true → IsReal n pt.kernel.processes pt.view q
has_real pt n k q h e = made_real pt n q h (has_some k (pt.kernel.processes q) e)

link_real : (pt : Point) (n : ℕ) (l : PlainLink) → LineCore n pt → LinkFits pt.kernel.processes l → IsReal n pt.kernel.processes pt.view l.to
link_real pt n l h e = elim (or_cases (is_server l.to && gives_no_right l.area) (has_bytes (l.area.base + l.area.len) (pt.kernel.processes l.to)) e) [
  | inl server ↦ server_real pt n l.to h (both (is_server l.to) (gives_no_right l.area) server).0
  | inr process ↦ has_real pt n (l.area.base + l.area.len) l.to h process
]

kernel_real : (n k : ℕ) (l : Lives) (v : View) (q : Pid) → k ≡ n → q.num ≡ 0 → nat_lt q.home k ≡ true → IsReal n l v q
kernel_real n k l v q same num le = inl ((let f : (q.num == 0) ≡ true = grind (arith, nat_tests) in f), subst (λ (j : ℕ). q.home < j) same (let f : q.home < k = grind (arith, nat_tests) in f))

-- whom a user message is for
users_real : (pt : Point) (n : ℕ) (q : Pid) → LineCore n pt → (is_server q || has_bytes 0 (pt.kernel.processes q)) ≡ true → IsReal n pt.kernel.processes pt.view q
users_real pt n q h e = elim (or_cases (is_server q) (has_bytes 0 (pt.kernel.processes q)) e) [
  | inl server ↦ server_real pt n q h server
  | inr process ↦ has_real pt n 0 q h process
]

manager_real : (pt : Point) (n : ℕ) (q : Pid) → LineCore n pt → q ≡ manager → IsReal n pt.kernel.processes pt.view q
manager_real pt n q h e = server_real pt n q h (ap is_server e)

what_real : (pt : Point) (n : ℕ) (i : MsgId) (m : PlainMessage) (x : PlainWhat) → LineCore n pt → WhatFits pt.kernel i m x → IsReal n pt.kernel.processes pt.view m.to
what_real pt n i m x h1 h3 = search (arith, or_cases, m.to, pt.kernel.processes, server_real, users_real, manager_real, pt.view, has_real, made_real, has_some, i.from, waits_some, i.n, kernel_real, pt.kernel.machines)

-- one of a list
each_get : {X : Type 0} (P : X → Type 0) (xs : List X) (k : ℕ) (x : X) → Each P xs → slice_get xs k ≡ Some x → P x
each_get P [] k x h e = none_some x e
each_get P (y ∷ ys) zero x h e = let f : y ≡ x = cc in subst P f h.0
each_get P (y ∷ ys) (suc k) x h e = each_get P ys k x h.1 e

pub each_pending : (P : Pending → Type 0) (rs : List Pending) (k : ℕ) (r : Pending) → Each P rs → manage.pending_numbered k rs ≡ Some r → P r
each_pending P [] k r h e = none_some r e
each_pending P (x ∷ xs) k r h e = by (x.n == k) (each_pending P xs k r h.1) e
  where
    by : (c : Bool) → (manage.pending_numbered k xs ≡ Some r → P r) → (if c then Some x else manage.pending_numbered k xs) ≡ Some r → P r
    by true rest f = let g : x ≡ r = cc in subst P g h.0
    by false rest f = rest f

link_there : (o : Option PlainLink) (q : Pid) → link_target o ≡ Some q → (l : PlainLink) × (o ≡ Some l) × (l.to ≡ q)
link_there None q e = none_some q e
link_there (Some l) q e = (l, refl, (let f : l.to ≡ q = cc in f))

-- each kind of holder
slot_real : (pt : Point) (n : ℕ) (p : Pid) (k : ℕ) (q : Pid) (o : Option PlainProcess) → LineCore n pt → kernel.alive (pt.kernel.processes p) ≡ o → link_target (option_and_then (λ x. link_at x.links k) o) ≡ Some q
    → IsReal n pt.kernel.processes pt.view q
slot_real pt n p k q None h is e = none_some q e
slot_real pt n p k q (Some x) h is e =
    let (l, at, to) = link_there (link_at x.links k) q e in
    subst (IsReal n pt.kernel.processes pt.view) to (link_real pt n l h (slot_link pt.kernel.processes x.links k l at (h.fits.processes p x (alive-is (pt.kernel.processes p) x is)).slots))

owner_real : (pt : Point) (n : ℕ) (p q : Pid) (o : Option PlainProcess) → LineCore n pt → kernel.alive (pt.kernel.processes p) ≡ o → (option_and_then (λ x. owner_in x.status) o) ≡ Some q → IsReal n pt.kernel.processes pt.view q
owner_real pt n p q None h is e = none_some q e
owner_real pt n p q (Some x) h is e = search (arith, pt.view, made_real, has_some, pt.kernel.processes, both, (h.fits.processes p x (alive-is (pt.kernel.processes p) x is)).move)

receiver_real : (pt : Point) (n : ℕ) (i : MsgId) (q : Pid) (o : Option PlainMessage) → LineCore n pt → pt.kernel.bag i ≡ o → to_of o ≡ Some q → IsReal n pt.kernel.processes pt.view q
receiver_real pt n i q None h is e = none_some q e
receiver_real pt n i q (Some m) h is e = let f : m.to ≡ q = cc in subst (IsReal n pt.kernel.processes pt.view) f (what_real pt n i m m.what h (h.fits.messages i m is))

pub sends_real : (pt : Point) (n : ℕ) (q : Pid) → LineCore n pt → Sends n pt.kernel q → IsReal n pt.kernel.processes pt.view q
sends_real pt n q h s = search (arith, made_real)

sender_real : (pt : Point) (n : ℕ) (i : MsgId) (q : Pid) (o : Option PlainMessage) → LineCore n pt → pt.kernel.bag i ≡ o → sender_of o ≡ Some q → IsReal n pt.kernel.processes pt.view q
sender_real pt n i q None h is e = none_some q e
sender_real pt n i q (Some m) h is e = let f : m.sender ≡ q = cc in subst (IsReal n pt.kernel.processes pt.view) f (sends_real pt n m.sender h (h.senders i m is))

answer_real : (pt : Point) (n k : ℕ) (q : Pid) (o : Option Pending) → LineCore n pt → manage.pending_numbered k pt.kernel.manager.pending ≡ o → link_target (option_and_then (λ r. r.answer) o) ≡ Some q → IsReal n pt.kernel.processes pt.view q
answer_real pt n k q o h1 h3 h4 = search (arith, link_there, pt.kernel.processes, each_pending, pt.kernel.manager.pending, pt.view, link_real)

asker_real : (pt : Point) (n : ℕ) (p q : Pid) (o : Option MoveNote) → LineCore n pt → pt.kernel.notes p ≡ o → asker_in o ≡ Some q → IsReal n pt.kernel.processes pt.view q
asker_real pt n p q None h is e = none_some q e
asker_real pt n p q (Some z) h is e =
    let f : z.asker ≡ q = cc in
    subst (IsReal n pt.kernel.processes pt.view) (sym (h.fits.notes p z is).asker ∙ f) (server_real pt n manager h refl)

pub child_real : (pt : Point) (n k : ℕ) (q : Pid) → LineCore n pt → names pt.kernel (Child k) ≡ Some q → IsReal n pt.kernel.processes pt.view q
child_real pt n k q h e = search (arith, has_real, pt.kernel.processes, pt.kernel.manager.children, h.fits.children, each_get)

pub named_by : (pt : Point) (n : ℕ) (g : Holder) (q : Pid) → LineCore n pt → names pt.kernel g ≡ Some q → IsReal n pt.kernel.processes pt.view q
named_by pt n g q h e = by g e
  where
    by : (k : Holder) → names pt.kernel k ≡ Some q → IsReal n pt.kernel.processes pt.view q
    by (Slot p k) f = slot_real pt n p k q (kernel.alive (pt.kernel.processes p)) h refl f
    by (Owner p) f = owner_real pt n p q (kernel.alive (pt.kernel.processes p)) h refl f
    by (Receiver i) f = receiver_real pt n i q (pt.kernel.bag i) h refl f
    by (Sender i) f = sender_real pt n i q (pt.kernel.bag i) h refl f
    by (Enclosed i k) f = search (arith, link_there, pt.view, link_real, each_get, pt.kernel.processes, pt.kernel)
    by (Child k) f = child_real pt n k q h f
    by (Name k) f = search (arith, pt.view, link_real, each_get, pt.kernel.processes, pt.kernel.switchboard.names)
    by (AskedBy p) f = asker_real pt n p q (pt.kernel.notes p) h refl f
    by ToBoard f = (let e_ : switchboard ≡ q = cc in subst (IsReal n pt.kernel.processes pt.view) e_ (server_real pt n switchboard h refl))
    by (Answer k) f = answer_real pt n k q (manage.pending_numbered k pt.kernel.manager.pending) h refl f

pub named_real : (pt : Point) (n : ℕ) (g : Holder) (q : Pid) → Core n pt → names pt.kernel g ≡ Some q → IsReal n pt.kernel.processes pt.view q
named_real pt n g q h e = named_by pt n g q (lines_of_core n pt h) e
