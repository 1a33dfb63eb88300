-- What a message for a process comes to, from what its parts give.
use Rattle.std.specs.Prelude.{◌≡◌, ◌+◌, ◌==◌, ◌&&◌, nat_le, ℕ, Bool, true, false, if◌then◌else◌, length, map}
use Rattle.std.proofs.Common.{refl, sym, subst, ap, arith, ◌∙◌}
use Rattle.std.proofs.lemmas.Bool.Decides.{nat_tests}
use Rattle.std.specs.declared.option.Option.{Option}
use Rattle.std.specs.declared.option.Option.TheVariants.{None, Some}
use Rattle.arrayvec.specs.ArrayVec.{ArrayVec}
use Rattle.dm_link.specs.declared.Pid.{Pid}
use Rattle.dm_link.specs.Plain.{plain_link}
use Rattle.dm_message.specs.declared.Message.{Message}
use Rattle.dm_message.specs.declared.MsgId.{MsgId}
use Rattle.dm_message.specs.declared.What.{What}
use Rattle.dm_message.specs.declared.What.TheVariants as what
use Rattle.dm_message.specs.Plain as plain
use Rattle.dm_message.specs.Plain.{PlainMessage, PlainWhat, plain_message, plain_what, with_what}
use Rattle.dm_process.specs.declared.process.Direction.{Direction}
use Rattle.dm_process.specs.declared.process.Direction.TheVariants as direction
use Rattle.dm_process.specs.declared.process.Process.{Process}
use Rattle.dm_process.specs.declared.process.Status.{Status}
use Rattle.dm_process.specs.declared.process.Status.TheVariants as status
use Rattle.dm_onekernel.specs.Kernel.{Alive, Life, OneKernel, with_process, with_sent}
use Rattle.dm_onekernel.specs.Options.{bind}
use Rattle.dm_onekernel.specs.Pieces as pieces
use Rattle.dm_onekernel.specs.Plain.{plain_process, plain_status}
use Rattle.dm_onekernel.specs.PlainProcess.{PlainProcess}
use Rattle.dm_onekernel.specs.Service.{serves, without_message}
use Rattle.dm_onekernel.specs.Step.{at_hand, step}
use Rattle.dm_onekernel.specs.declared.label.Label.TheVariants as label
use Rattle.dm_datamove.specs.Landing.{IsAnswerOf, IsAwaited, plainly_landed}
use Rattle.dm_datamove.specs.Serving.{IsWithin, plainly_served, served_plainly}
use Rattle.dm_replay.specs.Serving.{landed_at, lands_at, serves_at}
use Rattle.dm_replay.specs.State.{without_process}
use Rattle.dm_replay.specs.Tests.{is_answer_of, is_awaited, is_within}
use Rattle.dm_replay.specs.Answers.{IsRefused}
use Rattle.dm_replay.specs.declared.kernel.Refusal.{Refusal}
use Rattle.dm_replay.specs.declared.kernel.Refusal.TheVariants as no
use Rattle.dm_replay.proofs.Receives.{nothing}
use Rattle.dm_replay.proofs.Rows.{returned}
use Rattle.dm_replay.proofs.Taken.{back}

-- the message without places
abbrev pub said : Message → PlainWhat → PlainMessage
said m w = record { id = m.id; to = m.to.pid; sender = m.sender.pid; what = w }

-- which row it is
pub served : (s : OneKernel) (id : MsgId) (m : Message) (x : PlainProcess) (w : PlainWhat) → s.bag id ≡ plain_message m → at_hand s m.to.pid ≡ Some x → plain_what m.what ≡ Some w
    → step s (label.Served id) ≡ serves s id (said m w) x w
served s id m x w e h k =
    ap (λ o. bind o (λ (m : PlainMessage). bind (at_hand s m.to) (λ p. serves s id m p m.what))) (e ∙ ap (with_what m) k) ∙ ap (λ o. bind o (λ p. serves s id (said m w) p w)) h

-- pieces, at a process that was taken out
serves_back : (s : OneKernel) (p : Pid) (o : Option pieces.Served) → serves_at (without_process s p) p o ≡ serves_at s p o
serves_back s p None = refl
serves_back s p (Some r) = ap (λ t. Some (with_sent t (Some r.answer))) (back s p (Alive r.process))

landed_back : (s : OneKernel) (p : Pid) (r : pieces.Landed) → landed_at (without_process s p) p r ≡ landed_at s p r
landed_back s p (pieces.Next request x) = ap (λ t. with_sent t (Some request)) (back s p (Alive x))
landed_back s p (pieces.Done reply x) = back s p (Alive x)

lands_back : (s : OneKernel) (p : Pid) (o : Option pieces.Landed) → lands_at (without_process s p) p o ≡ lands_at s p o
lands_back s p None = refl
lands_back s p (Some r) = ap Some (landed_back s p r)

pub serves_piece : (s t : OneKernel) (m : Message) (x : Process) (w : PlainWhat) → t ≡ without_process s m.to.pid → plain_what m.what ≡ Some w
    → serves_at t m.to.pid (served_plainly x (plain_message m)) ≡ serves_at s m.to.pid (plainly_served (plain_process x) (said m w) w)
serves_piece s t m x w e k =
    ap (λ t. serves_at t m.to.pid (served_plainly x (plain_message m))) e
    ∙ serves_back s m.to.pid (served_plainly x (plain_message m))
    ∙ ap (λ o. serves_at s m.to.pid (served_plainly x (with_what m o))) k

pub lands_piece : (s t : OneKernel) (m : Message) (x : Process) (w : PlainWhat) → t ≡ without_process s m.to.pid → plain_what m.what ≡ Some w
    → lands_at t m.to.pid (plainly_landed x (plain_message m)) ≡ lands_at s m.to.pid (pieces.lands x.pid (plain_process x) (said m w) (plain_status x.status))
lands_piece s t m x w e k =
    ap (λ t. lands_at t m.to.pid (plainly_landed x (plain_message m))) e
    ∙ lands_back s m.to.pid (plainly_landed x (plain_message m))
    ∙ ap (λ o. lands_at s m.to.pid (plainly_landed x (with_what m o))) k

-- what the tests say
pub within : (size : ℕ) (w : What) → is_within size w ≡ true → IsWithin size w
within size (what.Read base len) e = grind (arith, nat_tests)
within size (what.Write base bytes) e = grind (arith, nat_tests)
within size w e = absurd (cc)

no_piece : {X : Type 0} (c : Bool) (x : X) → c ≡ false → (if c then Some x else None) ≡ None
no_piece true x e = absurd (cc)
no_piece false x e = refl

outside_what : (x : PlainProcess) (m : Message) (w : What) → is_within (length x.memory) w ≡ false → bind (with_what m (plain_what w)) (λ m. plainly_served x m m.what) ≡ None
outside_what x m (what.Read base len) e = no_piece (nat_le (base + len) (length x.memory)) _ e
outside_what x m (what.Write base bytes) e = no_piece (nat_le (base + length bytes.items) (length x.memory)) _ e
outside_what x m what.Stop e = refl
outside_what x m w e = refl

pub outside : (x : Process) (m : Message) → is_within (length x.memory) m.what ≡ false → served_plainly x (plain_message m) ≡ None
outside x m e = outside_what (plain_process x) m m.what e

answers_so : (dir : Direction) (left : ℕ) (w : What) → is_answer_of dir left w ≡ true → IsAnswerOf dir left w
answers_so direction.FromArea left (what.Block bytes) e = grind (arith, nat_tests)
answers_so direction.FromArea left what.Gone e = tt
answers_so direction.IntoArea left what.Written e = tt
answers_so direction.IntoArea left what.Gone e = tt
answers_so direction.FromArea left w e = absurd (cc)
answers_so direction.IntoArea left w e = absurd (cc)

both : (a b : Bool) → a && b ≡ true → (a ≡ true) × (b ≡ true)
both true b e = (refl, e)
both false b e = absurd (cc)

pub awaited : (s : Status) (m : Message) → is_awaited s m.id.n m.what ≡ true → IsAwaited s m
awaited status.Ready m e = absurd (cc)
awaited (status.Waiting mask base size) m e = absurd (cc)
awaited (status.Moving dir owner base own left pending) m e =
    let h = both (m.id.n == pending) (is_answer_of dir left m.what) e in
    let same : (m.id.n == pending) ≡ true = h.0 in
    (grind (arith, nat_tests, same), answers_so dir left m.what h.1)

-- no answer to the request that is under way
if_false : {X : Type 0} (c : Bool) (o : Option X) → (c ≡ true → o ≡ None) → (if c then o else None) ≡ None
if_false true o h = h refl
if_false false o h = refl

and_false : {X : Type 0} (a b : Bool) (x : X) → a ≡ false → (if a && b then Some x else None) ≡ None
and_false true b x e = absurd (cc)
and_false false b x e = refl

not_answer : (pid : Pid) (x : PlainProcess) (m : Message) (dir : Direction) (owner : Pid) (base own left : ℕ) (w : What) → is_answer_of dir left w ≡ false
    → bind (plain_what w) (pieces.lands_what pid x dir owner base own left) ≡ None
not_answer pid x m direction.FromArea owner base own left (what.Block bytes) e = and_false (length bytes.items == pieces.piece_of left) _ _ e
not_answer pid x m direction.FromArea owner base own left what.Gone e = absurd (cc)
not_answer pid x m direction.IntoArea owner base own left what.Written e = absurd (cc)
not_answer pid x m direction.IntoArea owner base own left what.Gone e = absurd (cc)
not_answer pid x m direction.FromArea owner base own left w e = refl
not_answer pid x m direction.IntoArea owner base own left w e = refl

said_of : {X : Type 0} (m : Message) (o : Option PlainWhat) (pending : ℕ) (go : PlainWhat → Option X) → ((m.id.n == pending) ≡ true → bind o go ≡ None)
    → bind (with_what m o) (λ (w : PlainMessage). if w.id.n == pending then go w.what else None) ≡ None
said_of m None pending go h = refl
said_of m (Some w) pending go h = if_false (m.id.n == pending) (go w) h

so_false : (a b : Bool) → a && b ≡ false → a ≡ true → b ≡ false
so_false true b e h = e
so_false false b e h = absurd (cc)

awaits_not : (pid : Pid) (x : PlainProcess) (m : Message) (s : Status) → is_awaited s m.id.n m.what ≡ false
    → bind (plain_message m) (λ m. pieces.lands pid x m (plain_status s)) ≡ None
awaits_not pid x m status.Ready e = nothing (plain_message m) (λ (w : PlainMessage). pieces.lands pid x w (plain_status status.Ready)) (λ w. refl)
awaits_not pid x m (status.Waiting mask base size) e = nothing (plain_message m) (λ (w : PlainMessage). pieces.lands pid x w (plain_status (status.Waiting mask base size))) (λ w. refl)
awaits_not pid x m (status.Moving dir owner base own left pending) e =
    said_of m (plain_what m.what) pending (pieces.lands_what pid x dir owner.pid base own left)
    (λ same. not_answer pid x m dir owner.pid base own left m.what (so_false (m.id.n == pending) (is_answer_of dir left m.what) e same))

pub not_awaited : (x : Process) (m : Message) → is_awaited x.status m.id.n m.what ≡ false → plainly_landed x (plain_message m) ≡ None
not_awaited x m e = awaits_not x.pid (plain_process x) m x.status e

-- the process goes on, or has ended
pub served_so : (s m1 m2 n : OneKernel) (id : MsgId) (m : Message) (x : PlainProcess) (w : PlainWhat) (l : Life) → m1 ≡ without_message s id → s.bag id ≡ plain_message m → at_hand m1 m.to.pid ≡ Some x → plain_what m.what ≡ Some w
    → m2 ≡ without_process m1 m.to.pid → n ≡ with_process m2 m.to.pid l → serves s id (said m w) x w ≡ Some (with_process (without_message s id) m.to.pid l) → step s (label.Served id) ≡ Some n
served_so s m1 m2 n id m x w l out at hand k e f row =
    served s id m x w at (sym (ap (λ (u : OneKernel). at_hand u m.to.pid) out) ∙ hand) k
    ∙ row
    ∙ ap Some (sym (returned m1 m2 n m.to.pid l e f ∙ ap (λ (u : OneKernel). with_process u m.to.pid l) out))

-- a piece is served there
pub piece_so : (s m1 m2 : OneKernel) (id : MsgId) (m : Message) (x : Process) (w : PlainWhat) → m1 ≡ without_message s id → s.bag id ≡ plain_message m → at_hand m1 m.to.pid ≡ Some (plain_process x) → plain_what m.what ≡ Some w
    → m2 ≡ without_process m1 m.to.pid → serves s id (said m w) (plain_process x) w ≡ serves_at (without_message s id) m.to.pid (plainly_served (plain_process x) (said m w) w)
    → serves_at m2 m.to.pid (served_plainly x (plain_message m)) ≡ step s (label.Served id)
piece_so s m1 m2 id m x w out at hand k e row =
    serves_piece m1 m2 m x w e k
    ∙ ap (λ (u : OneKernel). serves_at u m.to.pid (plainly_served (plain_process x) (said m w) w)) out
    ∙ sym row
    ∙ sym (served s id m (plain_process x) w at (sym (ap (λ (u : OneKernel). at_hand u m.to.pid) out) ∙ hand) k)

-- an answer lands there
pub landing_so : (s m1 m2 : OneKernel) (id : MsgId) (m : Message) (x : Process) (w : PlainWhat) → m1 ≡ without_message s id → s.bag id ≡ plain_message m → at_hand m1 m.to.pid ≡ Some (plain_process x) → plain_what m.what ≡ Some w
    → m2 ≡ without_process m1 m.to.pid → x.pid ≡ m.to.pid → serves s id (said m w) (plain_process x) w ≡ lands_at (without_message s id) m.to.pid (pieces.lands m.to.pid (plain_process x) (said m w) (plain_status x.status))
    → lands_at m2 m.to.pid (plainly_landed x (plain_message m)) ≡ step s (label.Served id)
landing_so s m1 m2 id m x w out at hand k e named row =
    lands_piece m1 m2 m x w e k
    ∙ ap (λ (u : OneKernel). lands_at u m.to.pid (pieces.lands x.pid (plain_process x) (said m w) (plain_status x.status))) out
    ∙ ap (λ p. lands_at (without_message s id) m.to.pid (pieces.lands p (plain_process x) (said m w) (plain_status x.status))) named
    ∙ sym row
    ∙ sym (served s id m (plain_process x) w at (sym (ap (λ (u : OneKernel). at_hand u m.to.pid) out) ∙ hand) k)

-- nobody is at hand who could be served
none_served : (s : OneKernel) (id : MsgId) (m : Message) (e : Refusal) (o : Option PlainWhat) → IsRefused e (at_hand s m.to.pid)
    → IsRefused e (bind (with_what m o) (λ (m : PlainMessage). bind (at_hand s m.to) (λ p. serves s id m p m.what)))
none_served s id m no.NoStep None h = refl
none_served s id m no.NoStep (Some w) h = ap (λ o. bind o (λ p. serves s id (said m w) p w)) h
none_served s id m (no.NoMemory lack) o h = tt

pub not_at_hand : (s t : OneKernel) (id : MsgId) (m : Message) (e : Refusal) → t ≡ without_message s id → s.bag id ≡ plain_message m → IsRefused e (at_hand t m.to.pid) → IsRefused e (step s (label.Served id))
not_at_hand s t id m e out at h =
    subst (λ o. IsRefused e (bind o (λ (m : PlainMessage). bind (at_hand s m.to) (λ p. serves s id m p m.what)))) (sym at)
    (none_served s id m e (plain_what m.what) (subst (λ (u : OneKernel). IsRefused e (at_hand u m.to.pid)) out h))

-- a message that asks nothing of a kernel
none_for : (s : OneKernel) (id : MsgId) (m : Message) (w : PlainWhat) → ((x : PlainProcess) → serves s id (said m w) x w ≡ None) → bind (at_hand s m.to.pid) (λ p. serves s id (said m w) p w) ≡ None
none_for s id m w h = nothing (at_hand s m.to.pid) (λ p. serves s id (said m w) p w) h

-- what kernels serve
abbrev pub is_served_what : What → Bool
is_served_what what.Stop = true
is_served_what what.Resume = true
is_served_what what.Kill = true
is_served_what (what.Read base len) = true
is_served_what (what.Write base bytes) = true
is_served_what (what.Block bytes) = true
is_served_what what.Written = true
is_served_what what.Gone = true
is_served_what w = false

unserved_what : (s : OneKernel) (id : MsgId) (m : Message) (w : What) → is_served_what w ≡ false
    → bind (with_what m (plain_what w)) (λ (m : PlainMessage). bind (at_hand s m.to) (λ p. serves s id m p m.what)) ≡ None
unserved_what s id m what.Stop e = absurd (cc)
unserved_what s id m what.Resume e = absurd (cc)
unserved_what s id m what.Kill e = absurd (cc)
unserved_what s id m (what.Read base len) e = absurd (cc)
unserved_what s id m (what.Write base bytes) e = absurd (cc)
unserved_what s id m (what.Block bytes) e = absurd (cc)
unserved_what s id m what.Written e = absurd (cc)
unserved_what s id m what.Gone e = absurd (cc)
unserved_what s id m (what.User code channel body links) e = none_for s id m (plain.User code channel body.items (map plain_link links.items)) (λ x. refl)
unserved_what s id m (what.Create image links) e = none_for s id m (plain.Create image (map plain_link links.items)) (λ x. refl)
unserved_what s id m (what.Created pid) e = none_for s id m (plain.Created pid) (λ x. refl)
unserved_what s id m what.NoRoom e = none_for s id m plain.NoRoom (λ x. refl)
unserved_what s id m (what.Move machine) e = none_for s id m (plain.Move machine) (λ x. refl)
unserved_what s id m (what.Moved outcome) e = none_for s id m (plain.Moved outcome) (λ x. refl)
unserved_what s id m w e = refl

pub unserved : (s : OneKernel) (id : MsgId) (m : Message) → s.bag id ≡ plain_message m → is_served_what m.what ≡ false → step s (label.Served id) ≡ None
unserved s id m at e = ap (λ o. bind o (λ (m : PlainMessage). bind (at_hand s m.to) (λ p. serves s id m p m.what))) at ∙ unserved_what s id m m.what e

pub is_other : (w : What) → (w ≡ what.Stop → ⊥) → (w ≡ what.Resume → ⊥) → (w ≡ what.Kill → ⊥) → ((base len : ℕ) → w ≡ what.Read base len → ⊥) → ((base : ℕ) (bytes : ArrayVec ℕ) → w ≡ what.Write base bytes → ⊥)
    → ((bytes : ArrayVec ℕ) → w ≡ what.Block bytes → ⊥) → (w ≡ what.Written → ⊥) → (w ≡ what.Gone → ⊥) → is_served_what w ≡ false
is_other what.Stop stop resume kill read write block written gone = absurd (stop refl)
is_other what.Resume stop resume kill read write block written gone = absurd (resume refl)
is_other what.Kill stop resume kill read write block written gone = absurd (kill refl)
is_other (what.Read base len) stop resume kill read write block written gone = absurd (read base len refl)
is_other (what.Write base bytes) stop resume kill read write block written gone = absurd (write base bytes refl)
is_other (what.Block bytes) stop resume kill read write block written gone = absurd (block bytes refl)
is_other what.Written stop resume kill read write block written gone = absurd (written refl)
is_other what.Gone stop resume kill read write block written gone = absurd (gone refl)
is_other w stop resume kill read write block written gone = refl
