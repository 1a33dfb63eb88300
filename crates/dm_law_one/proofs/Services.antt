-- What the steps of kernels and servers keep.
use Rattle.dm_law_one.proofs.Names.{◌≡◌, ℕ, ◌+◌, ◌-◌, ◌==◌, Bool, true, false, refl, ap, ◌∙◌, sym, subst, inl, inr, arith, if◌then◌else◌, take, drop, Option, None, Some, fun_ext, false≢true, Pid, pid_eq, MsgId, id_of, PlainMessage, PlainWhat}
use Rattle.dm_law_one.proofs.Names.{Direction, Label, bind, PlainProcess, PlainStatus, Ready, Moving, Life, Alive, Ended, OneKernel, with_process, with_sent, answer_id, answer_to, without_message, reception, Reply, Why, cond_some}
use Rattle.dm_onekernel.specs.Pieces as pieces
use Rattle.dm_onekernel.specs.Service as service
use Rattle.dm_onekernel.specs.Step as step
use Rattle.dm_law_one.proofs.Equal.{pid_eq-same, id_eq-same}
use Rattle.dm_law_one.proofs.Counted.{Sent, requests-sent, is_of_memory, is_piece, pending_of}
use Rattle.dm_law_one.proofs.Entered.{asks}
use Rattle.dm_law_one.proofs.Movers.{IsUnawaited, unawaited, unawaited_taken, stayed, sent_at}
use Rattle.dm_law_one.proofs.Grown.{Went-process}
use Rattle.dm_law_one.proofs.Sound.{Sound, plus, goes, ending, leaves, sends, answers}
use Rattle.dm_law_one.proofs.Steps.{Sent-from, bind-is, After, quiet, puts, was_none}
use Rattle.dm_law_one.proofs.Facts.{none_some}

-- the process takes a message that nobody waits for
takes_quiet : (r e : MsgId → ℕ) (s : OneKernel) (id : MsgId) (m : PlainMessage) (x y : PlainProcess) (l : Label) → IsUnawaited s id
    → s.processes m.to ≡ Some (Alive x) → s.notes m.to ≡ None → y.sent ≡ x.sent → pending_of y.status ≡ pending_of x.status
    → ((i : MsgId) → reception i l ≡ 0) → Sound r e s → After r e s l (service.changed s id m y)
takes_quiet r e s id m x y l un is free sent pending none h =
    let u = without_message s id in
    quiet r e s (service.changed s id m y) l none (stayed s id) (Went-process s (service.changed s id m y) m.to x (Alive y) is (omega (arith, sent)) free (λ q. refl) (λ n. refl) refl refl)
    (goes r e u m.to x y is sent (inl pending) (leaves r e s id un h))

-- a piece is served
serves_piece : (r e : MsgId → ℕ) (s : OneKernel) (id : MsgId) (m : PlainMessage) (x y : PlainProcess) (w : PlainWhat) (l : Label) → s.bag id ≡ Some m → s.processes m.to ≡ Some (Alive x) → s.notes m.to ≡ None
    → y.sent ≡ x.sent → pending_of y.status ≡ pending_of x.status
    → is_of_memory m.what ≡ true → asks m.what ≡ true → asks w ≡ false → is_of_memory w ≡ false → is_piece w ≡ true → ((i : MsgId) → reception i l ≡ 0) → Sound r e s
    → After r e s l (service.answered s id m (record { process = y; answer = answer_to m w }))
serves_piece r e s id m x y w l there is free sent pending memory asking answering not_memory piece none h =
    let v = step.goes_on s m.to y in
    let on = goes r e s m.to x y is sent (inl pending) h in
    let after = answers r e v id m w there asking answering not_memory (piece ∙ sym memory) on in
    let t = with_sent (without_message v id) (Some (answer_to m w)) in
    let name : m.id ≡ id = h.entered.named id m there in
    let a_id : (answer_to m w).id ≡ answer_id id = ap answer_id name in
    let after_ : Sound r (λ i. e i + plus (answer_to m w).id i) t = subst (λ v. Sound r (λ i. e i + plus v i) t) (sym a_id) after in
    puts r e s (without_message v id) (answer_to m w) l none
    (was_none r e s t (answer_to m w).id (answer_to m w) (sent_at (without_message v id) (answer_to m w) (answer_to m w).id (id_eq-same (answer_to m w).id)) after_ h)
    (stayed v id) (Went-process s t m.to x (Alive y) is (omega (arith, sent)) free (λ q. refl) (λ n. refl) refl refl) after_

-- what a landing comes to
abbrev pub LandsSo : Pid → PlainProcess → pieces.Landed → Type 0
LandsSo p x (pieces.Next m y) = Sent p x m y × (is_of_memory m.what ≡ true)
LandsSo p x (pieces.Done c y) = (y.sent ≡ x.sent) × (pending_of y.status ≡ None)

requests-memory : (p : Pid) (z : PlainProcess) (dir : Direction) (owner : Pid) (base own left : ℕ) → is_of_memory (pieces.requests p z dir owner base own left).message.what ≡ true
requests-memory p z Direction.FromArea owner base own left = refl
requests-memory p z Direction.IntoArea owner base own left = refl

goes_on-lands : (p : Pid) (x z : PlainProcess) (dir : Direction) (owner : Pid) (base own left : ℕ) (b : Bool) → z.sent ≡ x.sent → pending_of z.status ≡ pending_of x.status
    → LandsSo p x (if b then pieces.done Reply.Done z else pieces.next_request (pieces.requests p z dir owner base own left))
goes_on-lands p x z dir owner base own left true sent pending = (sent, refl)
goes_on-lands p x z dir owner base own left false sent pending =
    let q = pieces.requests p z dir owner base own left in
    (Sent-from p x z q.message q.process sent pending (requests-sent p z dir owner base own left), requests-memory p z dir owner base own left)

if_lands : (p : Pid) (x : PlainProcess) (b : Bool) (k c : pieces.Landed) → LandsSo p x k → (if b then Some k else None) ≡ Some c → LandsSo p x c
if_lands p x true k c h e = let f : k ≡ c = cc in subst (LandsSo p x) f h
if_lands p x false k c h e = none_some c e

lands_what-is : (p : Pid) (x : PlainProcess) (dir : Direction) (owner : Pid) (base own left : ℕ) (w : PlainWhat) (c : pieces.Landed) → pieces.lands_what p x dir owner base own left w ≡ Some c → LandsSo p x c
lands_what-is p x Direction.FromArea owner base own left (PlainWhat.Block bytes) c e =
    if_lands p x _ (pieces.move_goes_on p (record x { memory = pieces.written_at x.memory own bytes }) Direction.FromArea owner base own left (pieces.piece_of left)) c
    (goes_on-lands p x (record x { memory = pieces.written_at x.memory own bytes }) Direction.FromArea owner (base + pieces.piece_of left) (own + pieces.piece_of left) (left - pieces.piece_of left) (left - pieces.piece_of left == 0) refl refl) e
lands_what-is p x Direction.IntoArea owner base own left PlainWhat.Written c e =
    if_lands p x _ (pieces.move_goes_on p x Direction.IntoArea owner base own left (pieces.piece_of left)) c (goes_on-lands p x x Direction.IntoArea owner (base + pieces.piece_of left) (own + pieces.piece_of left) (left - pieces.piece_of left) (left - pieces.piece_of left == 0) refl refl) e
lands_what-is p x Direction.FromArea owner base own left PlainWhat.Gone c e = let k : pieces.done Reply.Gone x ≡ c = cc in subst (LandsSo p x) k (refl, refl)
lands_what-is p x Direction.IntoArea owner base own left PlainWhat.Gone c e = let k : pieces.done Reply.Gone x ≡ c = cc in subst (LandsSo p x) k (refl, refl)
lands_what-is p x _ owner base own left _ c e = none_some c e

if_lands_what : (p : Pid) (x : PlainProcess) (b : Bool) (dir : Direction) (owner : Pid) (base own left : ℕ) (w : PlainWhat) (c : pieces.Landed) → (if b then pieces.lands_what p x dir owner base own left w else None) ≡ Some c → LandsSo p x c
if_lands_what p x true dir owner base own left w c e = lands_what-is p x dir owner base own left w c e
if_lands_what p x false dir owner base own left w c e = none_some c e

pub lands-is : (p : Pid) (x : PlainProcess) (m : PlainMessage) (st : PlainStatus) (c : pieces.Landed) → pieces.lands p x m st ≡ Some c → LandsSo p x c
lands-is p x m (Moving dir owner base own left pending) c e = if_lands_what p x (m.id.n == pending) dir owner base own left m.what c e
lands-is p x m _ c e = none_some c e

twice_at : (b : Bool) (x y z : Option Life) → (if b then x else if b then y else z) ≡ (if b then x else z)
twice_at true x y z = refl
twice_at false x y z = refl

set_there : (s : OneKernel) (p : Pid) (x : PlainProcess) → (with_process s p (Alive x)).processes p ≡ Some (Alive x)
set_there s p x = ap (λ (b : Bool). if b then Some (Alive x) else s.processes p) (pid_eq-same p)

lands_still : (p : Pid) (x : PlainProcess) (m : PlainMessage) (y z : PlainProcess) → z.sent ≡ x.sent → is_of_memory m.what ≡ true → Sent p x m y → Sent p z m y
lands_still p x m y z sent memory w = record {
  id = w.id ∙ ap (id_of p) (sym sent);
  sender = w.sender;
  count = w.count ∙ ap (λ n. n + 1) (sym sent);
  piece = w.piece;
  is = elim w.is [
    | inl k ↦ absurd (false≢true (sym k.0 ∙ memory))
    | inr k ↦ inr (k.0, k.1 ∙ ap Some (sym sent))
  ];
}

-- a process that is set twice is as it was set last
twice : (s : OneKernel) (p : Pid) (a b : Life) → with_process (with_process s p a) p b ≡ with_process s p b
twice s p a b = ap (λ (f : Pid → Option Life). record s { processes = f }) (fun_ext (λ q. twice_at (pid_eq p q) (Some b) (Some a) (s.processes q)))

-- an answer has come
after_lands : (r e : MsgId → ℕ) (s : OneKernel) (id : MsgId) (m : PlainMessage) (x : PlainProcess) (c : pieces.Landed) (l : Label) → s.bag id ≡ Some m → s.processes m.to ≡ Some (Alive x) → s.notes m.to ≡ None
    → is_piece m.what ≡ true → LandsSo m.to x c
    → ((i : MsgId) → reception i l ≡ 0) → Sound r e s → After r e s l (service.landed s id m c)
after_lands r e s id m x (pieces.Done reply y) l there is free piece lands none h =
    let from : id.from ≡ m.to = sym (h.movers.returns id m there piece).0 in
    let v = step.goes_on s m.to y in
    let on = goes r e s m.to x y is lands.0 (inr lands.1) h in
    let sent = lands.0 in
    quiet r e s (without_message v id) l none (stayed v id) (Went-process s (without_message v id) m.to x (Alive y) is (omega (arith, sent)) free (λ q. refl) (λ n. refl) refl refl)
    (leaves r e v id (unawaited_taken s m.to y id lands.1 from) on)
after_lands r e s id m x (pieces.Next request y) l there is free piece lands none h =
    let from : id.from ≡ m.to = sym (h.movers.returns id m there piece).0 in
    let still = record x { status = Ready } in
    let v = step.goes_on s m.to still in
    let u = without_message v id in
    let on = leaves r e v id (unawaited_taken s m.to still id refl from) (goes r e s m.to x still is refl (inr refl) h) in
    let sent : Sent m.to still request y = lands_still m.to x request y still refl lands.1 lands.0 in
    let t = with_sent (with_process (without_message s id) m.to (Alive y)) (Some request) in
    let same : with_process u m.to (Alive y) ≡ with_process (without_message s id) m.to (Alive y) = twice (without_message s id) m.to (Alive still) (Alive y) in
    let after : Sound r (λ i. e i + plus request.id i) t =
    subst (λ w. Sound r (λ i. e i + plus request.id i) (with_sent w (Some request))) same (sends r e u m.to still y request (set_there (without_message s id) m.to still) sent on) in
    let count = lands.0.count in
    puts r e s (with_process (without_message s id) m.to (Alive y)) request l none
    (was_none r e s t request.id request (sent_at (with_process (without_message s id) m.to (Alive y)) request request.id (id_eq-same request.id)) after h)
    (stayed s id) (Went-process s t m.to x (Alive y) is (omega (arith, count)) free (λ q. refl) (λ n. refl) refl refl) after

lands_row : (r e : MsgId → ℕ) (s t : OneKernel) (id : MsgId) (m : PlainMessage) (x : PlainProcess) → s.bag id ≡ Some m → s.processes m.to ≡ Some (Alive x) → s.notes m.to ≡ None → is_piece m.what ≡ true
    → bind (pieces.lands m.to x m x.status) (λ c. Some (service.landed s id m c)) ≡ Some t → Sound r e s → After r e s (Label.Served id) t
lands_row r e s t id m x there is free piece e_ h =
    let (c, lands, last) = bind-is (pieces.lands m.to x m x.status) (λ v. Some (service.landed s id m v)) t e_ in
    let k : service.landed s id m c ≡ t = cc in
    subst (After r e s (Label.Served id)) k (after_lands r e s id m x c (Label.Served id) there is free piece (lands-is m.to x m x.status c lands) (λ i. refl) h)

-- served: a row a kind
pub after_serves : (r e : MsgId → ℕ) (s t : OneKernel) (id : MsgId) (m : PlainMessage) (x : PlainProcess) (w : PlainWhat) → m.what ≡ w → s.bag id ≡ Some m → s.processes m.to ≡ Some (Alive x) → s.notes m.to ≡ None
    → service.serves s id m x w ≡ Some t → Sound r e s → After r e s (Label.Served id) t
after_serves r e s t id m x PlainWhat.Stop w there is free e_ h =
    let y = record x { stopped = true } in
    let k : service.changed s id m y ≡ t = cc in
    subst (After r e s (Label.Served id)) k (takes_quiet r e s id m x y (Label.Served id) (unawaited s id m there (ap is_of_memory w) (ap is_piece w) h.movers) is free refl refl (λ i. refl) h)
after_serves r e s t id m x PlainWhat.Resume w there is free e_ h =
    let y = record x { stopped = false } in
    let k : service.changed s id m y ≡ t = cc in
    subst (After r e s (Label.Served id)) k (takes_quiet r e s id m x y (Label.Served id) (unawaited s id m there (ap is_of_memory w) (ap is_piece w) h.movers) is free refl refl (λ i. refl) h)
after_serves r e s t id m x PlainWhat.Kill w there is free e_ h =
    let u = without_message s id in
    let v = with_process u m.to (Ended Why.Killed) in
    let k : v ≡ t = cc in
    let un = unawaited s id m there (ap is_of_memory w) (ap is_piece w) h.movers in
    subst (After r e s (Label.Served id)) k
    (quiet r e s v (Label.Served id) (λ i. refl) (stayed s id) (Went-process s v m.to x (Ended Why.Killed) is tt free (λ q. refl) (λ n. refl) refl refl) (ending r e u m.to x Why.Killed is free (leaves r e s id un h)))
after_serves r e s t id m x (PlainWhat.Read base len) w there is free e_ h =
    let (c, served, last) = bind-is (pieces.reads x m base len) (λ v. Some (service.answered s id m v)) t e_ in
    let k = cond_some _ (record { process = x; answer = answer_to m (PlainWhat.Block (take len (drop base x.memory))) }) c served in
    let f : service.answered s id m c ≡ t = cc in
    subst (After r e s (Label.Served id)) (ap (service.answered s id m) k.1 ∙ f)
    (serves_piece r e s id m x x (PlainWhat.Block (take len (drop base x.memory))) (Label.Served id) there is free refl refl (ap is_of_memory w) (ap asks w) refl refl refl (λ i. refl) h)
after_serves r e s t id m x (PlainWhat.Write base bytes) w there is free e_ h =
    let (c, served, last) = bind-is (pieces.writes x m base bytes) (λ v. Some (service.answered s id m v)) t e_ in
    let y = record x { memory = pieces.written_at x.memory base bytes } in
    let k = cond_some _ (record { process = y; answer = answer_to m PlainWhat.Written }) c served in
    let f : service.answered s id m c ≡ t = cc in
    subst (After r e s (Label.Served id)) (ap (service.answered s id m) k.1 ∙ f)
    (serves_piece r e s id m x y PlainWhat.Written (Label.Served id) there is free refl refl (ap is_of_memory w) (ap asks w) refl refl refl (λ i. refl) h)
after_serves r e s t id m x (PlainWhat.Block bytes) w there is free e_ h = lands_row r e s t id m x there is free (ap is_piece w) e_ h
after_serves r e s t id m x PlainWhat.Written w there is free e_ h = lands_row r e s t id m x there is free (ap is_piece w) e_ h
after_serves r e s t id m x PlainWhat.Gone w there is free e_ h = lands_row r e s t id m x there is free (ap is_piece w) e_ h
after_serves r e s t id m x _ w there is free e_ h = none_some t e_
