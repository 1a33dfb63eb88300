-- A step that isn't a process's own doesn't see what that process does: it is one behind it too.
use Rattle.dm_law_one.proofs.Names.{◌≡◌, ℕ, ◌+◌, ◌==◌, ◌&&◌, Bool, true, false, refl, ap, ◌∙◌, sym, subst, nat_lt, nat_le, arith, nat_tests, if◌then◌else◌, length, slice_get, take, drop, Option, None, Some, cases_Bool, inl, inr, Pid, pid_of, pid_eq, MsgId, id_eq, id_of, answer_id, answer_to, option_map_or, PlainMessage, PlainWhat}
use Rattle.dm_law_one.proofs.Names.{Replies, Sends, Waits, Outputs, Ends, PlainProcess, Life, Alive, Ended, MoveNote, OneKernel, with_process, with_sent, with_note, without_note, without_message, bind, when, serves, follows_request, gone_what, begun, first_number, instruction}
use Rattle.dm_law_one.proofs.Names.{Label, Reply, Why, Outcome, manager, switchboard, IsOwnStep}
use Rattle.dm_law_one.proofs.Facts.{none_some}
use Rattle.dm_law_one.proofs.Equal.{id_eq-is, pid_eq-is}
use Rattle.dm_law_one.proofs.Steps.{bind-is, when-is, nexts, Nexts}
use Rattle.dm_law_one.proofs.Services.{lands-is, LandsSo}
use Rattle.dm_law_one.proofs.Servers.{ServerSends, board_takes_lem, manager_takes_lem}
use Rattle.dm_law_one.proofs.Sound.{Sound, not_server}
use Rattle.dm_onekernel.specs.Codes.{reply_eq, why_eq}
use Rattle.dm_onekernel.specs.Manager as manage
use Rattle.dm_onekernel.specs.Pieces as pieces
use Rattle.dm_onekernel.specs.Receiving as receiving
use Rattle.dm_onekernel.specs.Service as service
use Rattle.dm_onekernel.specs.Step as kernel
use Rattle.dm_onekernel.specs.Switchboard as board
use Rattle.dm_law_always.proofs.Fits.Creates.{fresh_child}
use Rattle.dm_law_alike.proofs.Beside.{IsApart, Beside, beside_other, beside_out, beside_put, beside_note, beside_unnote, beside_board, beside_manager, beside_made}

-- a kernel, and what a process may do beside it: it lives and follows nothing, and its message has the name of its next one
pub record Going (c e : MsgId → ℕ) (p : Pid) (x : PlainProcess) (life : Life) (o : Option PlainMessage) (s t : OneKernel) : Type 0 where
  pub sound : Sound c e s
  pub alive : s.processes p ≡ Some (Alive x)
  pub free : s.notes p ≡ None
  pub own : (m : PlainMessage) → o ≡ Some m → m.id ≡ id_of p x.sent
  pub none : (m : PlainMessage) → o ≡ Some m → s.bag m.id ≡ None
  pub beside : Beside p life o s t

-- where a step leads beside another
pub record KernelBeside (p : Pid) (life : Life) (o : Option PlainMessage) (u : OneKernel) (k : Option OneKernel) : Type 0 where
  pub kernel : OneKernel
  pub is : k ≡ Some kernel
  pub beside : Beside p life o u kernel

by_same : (p : Pid) (life : Life) (o : Option PlainMessage) (v u w : OneKernel) → Beside p life o v w → Some v ≡ Some u → KernelBeside p life o u (Some w)
by_same p life o v u w h e = let f : v ≡ u = cc in record { kernel = w; is = refl; beside = subst (λ z. Beside p life o z w) f h }

when_beside : (p : Pid) (life : Life) (o : Option PlainMessage) (b : Bool) (v u w : OneKernel) → Beside p life o v w → when b v ≡ Some u → KernelBeside p life o u (when b w)
when_beside p life o true v u w h e = by_same p life o v u w h e
when_beside p life o false v u w h e = none_some u e

led : (p : Pid) (life : Life) (o : Option PlainMessage) (u : OneKernel) (a b : Option OneKernel) → b ≡ a → KernelBeside p life o u a → KernelBeside p life o u b
led p life o u a b e h = subst (KernelBeside p life o u) (sym e) h

-- a name isn't that of the message
apart_from : (p : Pid) (n : ℕ) (m : PlainMessage) (i : MsgId) → m.id ≡ id_of p n → pid_eq p i.from ≡ false → id_eq m.id i ≡ false
apart_from p n m i is apart = ap (λ v. id_eq v i) is ∙ (let e : id_eq (id_of p n) i ≡ false = grind (arith, nat_tests) in e)

apart_answer : (p : Pid) (n : ℕ) (m : PlainMessage) (i : MsgId) → m.id ≡ id_of p n → i.answer ≡ true → id_eq m.id i ≡ false
apart_answer p n m i is answer = ap (λ v. id_eq v i) is ∙ (let e : id_eq (id_of p n) i ≡ false = grind (arith, nat_tests) in e)

there_apart : (c e : MsgId → ℕ) (p : Pid) (x : PlainProcess) (life : Life) (o : Option PlainMessage) (s t : OneKernel) (i : MsgId) (m : PlainMessage) → Going c e p x life o s t → s.bag i ≡ Some m → IsApart o i
there_apart c e p x life o s t i m h is n e_ = elim (cases_Bool (id_eq n.id i)) [
  | inl same ↦ none_some m (sym (h.none n e_) ∙ ap s.bag (id_eq-is n.id i same) ∙ is)
  | inr off ↦ off
]

-- a message of the bag is there too
there_too : (p : Pid) (life : Life) (o : Option PlainMessage) (s t : OneKernel) (i : MsgId) (m : PlainMessage) → IsApart o i → s.bag i ≡ Some m → Beside p life o s t → t.bag i ≡ Some m
there_too p life None s t i m apart is h = h.bag i ∙ is
there_too p life (Some n) s t i m apart is h = h.bag i ∙ ap (λ (b : Bool). if b then Some n else s.bag i) (apart n refl) ∙ is

pub swapped : (p q : Pid) → pid_eq p q ≡ false → pid_eq q p ≡ false
swapped p q e = grind (arith, nat_tests)

pub other_by : (p q : Pid) → (p ≡ q → ⊥) → pid_eq p q ≡ false
other_by p q h = elim (cases_Bool (pid_eq p q)) [ inl same ↦ absurd (h (pid_eq-is p q same)) | inr apart ↦ apart ]

hand_same : (p : Pid) (life : Life) (o : Option PlainMessage) (s t : OneKernel) (q : Pid) → pid_eq p q ≡ false → Beside p life o s t → kernel.at_hand t q ≡ kernel.at_hand s q
hand_same p life o s t q apart h = λ i. option_map_or (λ note. None) (h.notes q i) (kernel.alive (h.others q apart i))

running_same : (p : Pid) (life : Life) (o : Option PlainMessage) (s t : OneKernel) (q : Pid) → pid_eq p q ≡ false → Beside p life o s t → kernel.running t q ≡ kernel.running s q
running_same p life o s t q apart h = ap (λ v. bind v (λ (x : PlainProcess). kernel.if_ready x x.status)) (hand_same p life o s t q apart h)

trap_same : (p : Pid) (life : Life) (o : Option PlainMessage) (s t : OneKernel) (q : Pid) → pid_eq p q ≡ false → Beside p life o s t → kernel.next_trap t q ≡ kernel.next_trap s q
trap_same p life o s t q apart h = ap (λ v. bind v (λ (x : PlainProcess). kernel.next_row q x (instruction x.regs x.memory))) (running_same p life o s t q apart h)

replies_beside : (p : Pid) (life : Life) (o : Option PlainMessage) (s t u : OneKernel) (q : Pid) (n : ℕ) (c : Reply) (a : kernel.Trap) → pid_eq q p ≡ false → Beside p life o s t → kernel.replies s q n c a ≡ Some u → KernelBeside p life o u (kernel.replies t q n c a)
replies_beside p life o s t u q n c (kernel.Calls k (Replies d y)) apart h e = when_beside p life o ((n == k) && reply_eq c d) (kernel.goes_on s q y) u (kernel.goes_on t q y) (beside_other p life o s t q (Alive y) apart h) e
replies_beside p life o s t u q n c _ apart h e = none_some u e

waits_beside : (p : Pid) (life : Life) (o : Option PlainMessage) (s t u : OneKernel) (q : Pid) (a : kernel.Trap) → pid_eq q p ≡ false → Beside p life o s t → kernel.waits s q a ≡ Some u → KernelBeside p life o u (kernel.waits t q a)
waits_beside p life o s t u q (kernel.Calls k (Waits y)) apart h e = by_same p life o (kernel.goes_on s q y) u (kernel.goes_on t q y) (beside_other p life o s t q (Alive y) apart h) e
waits_beside p life o s t u q _ apart h e = none_some u e

outputs_beside : (p : Pid) (life : Life) (o : Option PlainMessage) (s t u : OneKernel) (q : Pid) (w : ℕ) (a : kernel.Trap) → pid_eq q p ≡ false → Beside p life o s t → kernel.outputs s q w a ≡ Some u → KernelBeside p life o u (kernel.outputs t q w a)
outputs_beside p life o s t u q w (kernel.Calls k (Outputs v y)) apart h e = when_beside p life o (w == v) (kernel.goes_on s q y) u (kernel.goes_on t q y) (beside_other p life o s t q (Alive y) apart h) e
outputs_beside p life o s t u q w _ apart h e = none_some u e

ends_beside : (p : Pid) (life : Life) (o : Option PlainMessage) (s t u : OneKernel) (q : Pid) (y : Why) (a : kernel.Trap) → pid_eq q p ≡ false → Beside p life o s t → kernel.ends s q y a ≡ Some u → KernelBeside p life o u (kernel.ends t q y a)
ends_beside p life o s t u q y (kernel.Calls k (Ends v)) apart h e = when_beside p life o (why_eq y v) (with_process s q (Ended y)) u (with_process t q (Ended y)) (beside_other p life o s t q (Ended y) apart h) e
ends_beside p life o s t u q y (kernel.Faults v) apart h e = when_beside p life o (why_eq y (Why.Fault v)) (with_process s q (Ended y)) u (with_process t q (Ended y)) (beside_other p life o s t q (Ended y) apart h) e
ends_beside p life o s t u q y _ apart h e = none_some u e

sends_beside : (p : Pid) (n : ℕ) (life : Life) (o : Option PlainMessage) (s t u : OneKernel) (q : Pid) (id : MsgId) (a : kernel.Trap) → pid_eq p q ≡ false → ((m : PlainMessage) → o ≡ Some m → m.id ≡ id_of p n) → Nexts s q a → Beside p life o s t → kernel.sends s q id a ≡ Some u
    → KernelBeside p life o u (kernel.sends t q id a)
sends_beside p n life o s t u q id (kernel.Calls k (Sends m y)) apart own next h e =
    let (z, sent, pending, counted) = next.counts in
    let from : m.id.from ≡ q = ap (λ (v : MsgId). v.from) counted.id in
    let off : IsApart o m.id = λ v is. apart_from p n v m.id (own v is) (ap (pid_eq p) from ∙ apart) in
    when_beside p life o (id_eq id m.id) (with_sent (kernel.goes_on s q y) (Some m)) u (with_sent (kernel.goes_on t q y) (Some m))
    (beside_put p life o (kernel.goes_on s q y) (kernel.goes_on t q y) m off (beside_other p life o s t q (Alive y) (swapped p q apart) h)) e
sends_beside p n life o s t u q id _ apart own next h e = none_some u e

receives_beside : (p : Pid) (life : Life) (o : Option PlainMessage) (s t u : OneKernel) (q : Pid) (id : MsgId) (a : receiving.Completed) → pid_eq q p ≡ false → IsApart o id → Beside p life o s t → kernel.receives s q id a ≡ Some u → KernelBeside p life o u (kernel.receives t q id a)
receives_beside p life o s t u q id (receiving.Receives y) apart off h e =
    by_same p life o (kernel.goes_on (without_message s id) q y) u (kernel.goes_on (without_message t id) q y) (beside_other p life o (without_message s id) (without_message t id) q (Alive y) apart (beside_out p life o s t id off h)) e
receives_beside p life o s t u q id (receiving.Refuses d y) apart off h e = none_some u e

refuses_beside : (p : Pid) (life : Life) (o : Option PlainMessage) (s t u : OneKernel) (q : Pid) (c : Reply) (a : receiving.Completed) → pid_eq q p ≡ false → Beside p life o s t → kernel.refuses s q c a ≡ Some u → KernelBeside p life o u (kernel.refuses t q c a)
refuses_beside p life o s t u q c (receiving.Refuses d y) apart h e = when_beside p life o (reply_eq c d) (kernel.goes_on s q y) u (kernel.goes_on t q y) (beside_other p life o s t q (Alive y) apart h) e
refuses_beside p life o s t u q c (receiving.Receives y) apart h e = none_some u e

completing_same : (p : Pid) (life : Life) (o : Option PlainMessage) (s t : OneKernel) (q : Pid) (i : MsgId) (m : PlainMessage) → pid_eq p q ≡ false → IsApart o i → s.bag i ≡ Some m → Beside p life o s t → kernel.completing t q i ≡ kernel.completing s q i
completing_same p life o s t q i m apart off is h =
    let bag : t.bag i ≡ s.bag i = there_too p life o s t i m off is h ∙ sym is in
    λ k. bind (hand_same p life o s t q apart h k) (λ (x : PlainProcess). bind (bag k) (receiving.completes_with q x))

in_bag_by : (s : OneKernel) (q : Pid) (i : MsgId) (a : receiving.Completed) → kernel.completing s q i ≡ Some a → (m : PlainMessage) × (s.bag i ≡ Some m)
in_bag_by s q i a e =
    let (x, hand, rest) = bind-is (kernel.at_hand s q) (λ (v : PlainProcess). bind (s.bag i) (receiving.completes_with q v)) a e in
    let (m, is, last) = bind-is (s.bag i) (receiving.completes_with q x) a rest in
    (m, is)

-- a message for another process
pub record For (c e : MsgId → ℕ) (p : Pid) (x : PlainProcess) (life : Life) (o : Option PlainMessage) (s t : OneKernel) (id : MsgId) (m : PlainMessage) : Type 0 where
  pub going : Going c e p x life o s t
  pub there : s.bag id ≡ Some m
  pub other : pid_eq p m.to ≡ false

changed_beside : (c e : MsgId → ℕ) (p : Pid) (x : PlainProcess) (life : Life) (o : Option PlainMessage) (s t : OneKernel) (id : MsgId) (m : PlainMessage) (y : PlainProcess) → For c e p x life o s t id m → Beside p life o (service.changed s id m y) (service.changed t id m y)
changed_beside c e p x life o s t id m y h =
    beside_other p life o (without_message s id) (without_message t id) m.to (Alive y) (swapped p m.to h.other) (beside_out p life o s t id (there_apart c e p x life o s t id m h.going h.there) h.going.beside)

answer_off : (c e : MsgId → ℕ) (p : Pid) (x : PlainProcess) (life : Life) (o : Option PlainMessage) (s t : OneKernel) (i : MsgId) → Going c e p x life o s t → i.answer ≡ true → IsApart o i
answer_off c e p x life o s t i h answer v is = apart_answer p x.sent v i (h.own v is) answer

served_beside : (c e : MsgId → ℕ) (p : Pid) (x : PlainProcess) (life : Life) (o : Option PlainMessage) (s t u : OneKernel) (id : MsgId) (m : PlainMessage) (b : Bool) (r : pieces.Served) → For c e p x life o s t id m → r.answer.id.answer ≡ true
    → bind (if b then Some r else None) (λ v. Some (service.answered s id m v)) ≡ Some u → KernelBeside p life o u (bind (if b then Some r else None) (λ v. Some (service.answered t id m v)))
served_beside c e p x life o s t u id m true r h answer is =
    by_same p life o (service.answered s id m r) u (service.answered t id m r)
    (beside_put p life o (service.changed s id m r.process) (service.changed t id m r.process) r.answer (answer_off c e p x life o s t r.answer.id h.going answer) (changed_beside c e p x life o s t id m r.process h)) is
served_beside c e p x life o s t u id m false r h answer is = none_some u is

landed_beside : (c e : MsgId → ℕ) (p : Pid) (x : PlainProcess) (life : Life) (o : Option PlainMessage) (s t : OneKernel) (id : MsgId) (m : PlainMessage) (y : PlainProcess) (l : pieces.Landed) → For c e p x life o s t id m → LandsSo m.to y l
    → Beside p life o (service.landed s id m l) (service.landed t id m l)
landed_beside c e p x life o s t id m y (pieces.Next r z) h so =
    let from : r.id.from ≡ m.to = ap (λ (v : MsgId). v.from) so.0.id in
    beside_put p life o (service.changed s id m z) (service.changed t id m z) r (λ v is. apart_from p x.sent v r.id (h.going.own v is) (ap (pid_eq p) from ∙ h.other)) (changed_beside c e p x life o s t id m z h)
landed_beside c e p x life o s t id m y (pieces.Done d z) h so = changed_beside c e p x life o s t id m z h

lands_beside : (c e : MsgId → ℕ) (p : Pid) (x : PlainProcess) (life : Life) (o : Option PlainMessage) (s t u : OneKernel) (id : MsgId) (m : PlainMessage) (y : PlainProcess) → For c e p x life o s t id m
    → bind (pieces.lands m.to y m y.status) (λ v. Some (service.landed s id m v)) ≡ Some u → KernelBeside p life o u (bind (pieces.lands m.to y m y.status) (λ v. Some (service.landed t id m v)))
lands_beside c e p x life o s t u id m y h is =
    let (l, lands, last) = bind-is (pieces.lands m.to y m y.status) (λ v. Some (service.landed s id m v)) u is in
    led p life o u (Some (service.landed t id m l)) (bind (pieces.lands m.to y m y.status) (λ v. Some (service.landed t id m v))) (ap (λ v. bind v (λ w. Some (service.landed t id m w))) lands)
    (by_same p life o (service.landed s id m l) u (service.landed t id m l) (landed_beside c e p x life o s t id m y l h (lands-is m.to y m y.status l lands)) last)

serves_beside : (c e : MsgId → ℕ) (p : Pid) (x : PlainProcess) (life : Life) (o : Option PlainMessage) (s t u : OneKernel) (id : MsgId) (m : PlainMessage) (y : PlainProcess) (w : PlainWhat) → For c e p x life o s t id m → serves s id m y w ≡ Some u
    → KernelBeside p life o u (serves t id m y w)
serves_beside c e p x life o s t u id m y PlainWhat.Stop h is =
    by_same p life o (service.changed s id m (record y { stopped = true })) u (service.changed t id m (record y { stopped = true })) (changed_beside c e p x life o s t id m (record y { stopped = true }) h) is
serves_beside c e p x life o s t u id m y PlainWhat.Resume h is =
    by_same p life o (service.changed s id m (record y { stopped = false })) u (service.changed t id m (record y { stopped = false })) (changed_beside c e p x life o s t id m (record y { stopped = false }) h) is
serves_beside c e p x life o s t u id m y PlainWhat.Kill h is =
    by_same p life o (with_process (without_message s id) m.to (Ended Why.Killed)) u (with_process (without_message t id) m.to (Ended Why.Killed))
    (beside_other p life o (without_message s id) (without_message t id) m.to (Ended Why.Killed) (swapped p m.to h.other) (beside_out p life o s t id (there_apart c e p x life o s t id m h.going h.there) h.going.beside)) is
serves_beside c e p x life o s t u id m y (PlainWhat.Read base len) h is =
    served_beside c e p x life o s t u id m (nat_le (base + len) (length y.memory)) (record { process = y; answer = answer_to m (PlainWhat.Block (take len (drop base y.memory))) }) h refl is
serves_beside c e p x life o s t u id m y (PlainWhat.Write base bytes) h is =
    served_beside c e p x life o s t u id m (nat_le (base + length bytes) (length y.memory)) (record { process = record y { memory = pieces.written_at y.memory base bytes }; answer = answer_to m PlainWhat.Written }) h refl is
serves_beside c e p x life o s t u id m y (PlainWhat.Block bytes) h is = lands_beside c e p x life o s t u id m y h is
serves_beside c e p x life o s t u id m y PlainWhat.Written h is = lands_beside c e p x life o s t u id m y h is
serves_beside c e p x life o s t u id m y PlainWhat.Gone h is = lands_beside c e p x life o s t u id m y h is
serves_beside c e p x life o s t u id m y _ h is = none_some u is

-- what a server sends
server_off : (p server : Pid) (n k after : ℕ) (o a : Option PlainMessage) → ((m : PlainMessage) → o ≡ Some m → m.id ≡ id_of p n) → pid_eq p server ≡ false → ServerSends server k a after → (m : PlainMessage) → a ≡ Some m → IsApart o m.id
server_off p server n k after o (Some r) own apart so m is v e =
    let f : r ≡ m = cc in
    let from : m.id.from ≡ server = ap (λ (w : PlainMessage). w.id.from) (sym f) ∙ ap (λ (w : MsgId). w.from) so.0 in
    apart_from p n v m.id (own v e) (ap (pid_eq p) from ∙ apart)
server_off p server n k after o None own apart so m is v e = none_some m is

sent_beside : (p : Pid) (life : Life) (o a : Option PlainMessage) (s t : OneKernel) → ((m : PlainMessage) → a ≡ Some m → IsApart o m.id) → Beside p life o s t → Beside p life o (with_sent s a) (with_sent t a)
sent_beside p life o None s t off h = h
sent_beside p life o (Some m) s t off h = beside_put p life o s t m (off m refl) h

board_beside : (c e : MsgId → ℕ) (p : Pid) (x : PlainProcess) (life : Life) (o : Option PlainMessage) (s t u : OneKernel) (id : MsgId) (m : PlainMessage) → Going c e p x life o s t → s.bag id ≡ Some m
    → bind (board.board_takes s.switchboard m m.what) (λ k. Some (service.switchboard_took s id k)) ≡ Some u → KernelBeside p life o u (bind (board.board_takes t.switchboard m m.what) (λ k. Some (service.switchboard_took t id k)))
board_beside c e p x life o s t u id m h there is =
    let (k, takes, last) = bind-is (board.board_takes s.switchboard m m.what) (λ v. Some (service.switchboard_took s id v)) u is in
    let so = (board_takes_lem s.switchboard m m.what k takes).2 in
    let server = (not_server s p x h.alive h.sound.made).0 in
    let out = beside_out p life o s t id (there_apart c e p x life o s t id m h there) h.beside in
    led p life o u (Some (service.switchboard_took t id k)) (bind (board.board_takes t.switchboard m m.what) (λ v. Some (service.switchboard_took t id v)))
    (ap (λ v. bind (board.board_takes v m m.what) (λ w. Some (service.switchboard_took t id w))) h.beside.switchboard ∙ ap (λ v. bind v (λ w. Some (service.switchboard_took t id w))) takes)
    (by_same p life o (service.switchboard_took s id k) u (service.switchboard_took t id k)
    (sent_beside p life o k.answer (record (without_message s id) { switchboard = k.switchboard }) (record (without_message t id) { switchboard = k.switchboard })
    (server_off p switchboard x.sent s.switchboard.sent k.switchboard.sent o k.answer h.own server so) (beside_board p life o (without_message s id) (without_message t id) k.switchboard out)) last)

manager_beside : (c e : MsgId → ℕ) (p : Pid) (x : PlainProcess) (life : Life) (o : Option PlainMessage) (s t u : OneKernel) (id : MsgId) (m : PlainMessage) → Going c e p x life o s t → s.bag id ≡ Some m
    → bind (manage.manager_takes s.manager s.machines (length s.images) m m.what) (λ k. Some (service.manager_took s id k)) ≡ Some u
    → KernelBeside p life o u (bind (manage.manager_takes t.manager t.machines (length t.images) m m.what) (λ k. Some (service.manager_took t id k)))
manager_beside c e p x life o s t u id m h there is =
    let (k, takes, last) = bind-is (manage.manager_takes s.manager s.machines (length s.images) m m.what) (λ v. Some (service.manager_took s id v)) u is in
    let so = (manager_takes_lem s.manager s.machines (length s.images) m m.what k takes).2 in
    let server = (not_server s p x h.alive h.sound.made).1 in
    let out = beside_out p life o s t id (there_apart c e p x life o s t id m h there) h.beside in
    led p life o u (Some (service.manager_took t id k)) (bind (manage.manager_takes t.manager t.machines (length t.images) m m.what) (λ v. Some (service.manager_took t id v)))
    ((λ i. bind (manage.manager_takes (h.beside.manager i) (h.beside.machines i) (length (h.beside.images i)) m m.what) (λ w. Some (service.manager_took t id w))) ∙ ap (λ v. bind v (λ w. Some (service.manager_took t id w))) takes)
    (by_same p life o (service.manager_took s id k) u (service.manager_took t id k)
    (sent_beside p life o k.message (record (without_message s id) { manager = k.manager }) (record (without_message t id) { manager = k.manager })
    (server_off p manager x.sent s.manager.sent k.manager.sent o k.message h.own server so.sends) (beside_manager p life o (without_message s id) (without_message t id) k.manager out)) last)

takes_beside_if : (p : Pid) (life : Life) (o : Option PlainMessage) (u : OneKernel) (b c : Bool) (x y v w : Option OneKernel) → (x ≡ Some u → KernelBeside p life o u v) → (y ≡ Some u → KernelBeside p life o u w) → (if b then x else if c then y else None) ≡ Some u
    → KernelBeside p life o u (if b then v else if c then w else None)
takes_beside_if p life o u true c x y v w h k e = h e
takes_beside_if p life o u false true x y v w h k e = k e
takes_beside_if p life o u false false x y v w h k e = none_some u e

-- the receiver of a message to someone who has ended is another
ended_other : (s : OneKernel) (p q : Pid) (x : PlainProcess) (y : Why) → s.processes p ≡ Some (Alive x) → kernel.why_ended (s.processes q) ≡ Some y → pid_eq p q ≡ false
ended_other s p q x y alive e = other_by p q (λ same. none_some y (ap kernel.why_ended (sym alive ∙ ap s.processes same) ∙ e))

creates_beside : (c e : MsgId → ℕ) (p : Pid) (x : PlainProcess) (life : Life) (o : Option PlainMessage) (s t u : OneKernel) (id : MsgId) (m : PlainMessage) (child : Pid) (w : PlainWhat) → Going c e p x life o s t → s.bag id ≡ Some m → service.creates s id m child w ≡ Some u
    → KernelBeside p life o u (service.creates t id m child w)
creates_beside c e p x life o s t u id m child (PlainWhat.Create image links) h there is =
    let (i, found, rest) = bind-is (slice_get s.images image) (service.creates_of s id m child links) u is in
    let test = service.is_kernel s m.to && pid_eq child (pid_of m.to.home (first_number + s.made m.to.home)) in
    let (holds, last) = when-is test (with_sent (service.with_created (without_message s id) child i links) (Some (answer_to m (PlainWhat.Created child)))) u rest in
    let named : pid_eq child (pid_of m.to.home (first_number + s.made m.to.home)) ≡ true = grind (arith, nat_tests) in
    let fresh = fresh_child c e s child m.to.home (pid_eq-is child (pid_of m.to.home (first_number + s.made m.to.home)) named) h.sound in
    let other : pid_eq p child ≡ false = other_by p child (λ same. none_some (Alive x) (sym fresh ∙ ap s.processes (sym same) ∙ h.alive)) in
    let out = beside_out p life o s t id (there_apart c e p x life o s t id m h there) h.beside in
    let set : Beside p life o (with_process (without_message s id) child (Alive (begun s.format i links))) (with_process (without_message t id) child (Alive (begun t.format i links))) =
    subst (λ v. Beside p life o (with_process (without_message s id) child (Alive (begun s.format i links))) (with_process (without_message t id) child (Alive (begun v i links)))) (sym h.beside.format)
    (beside_other p life o (without_message s id) (without_message t id) child (Alive (begun s.format i links)) (swapped p child other) out) in
    let made = beside_made p life o (with_process (without_message s id) child (Alive (begun s.format i links))) (with_process (without_message t id) child (Alive (begun t.format i links))) (λ n. if child.home == n then 1 else 0) set in
    let put = beside_put p life o (service.with_created (without_message s id) child i links) (service.with_created (without_message t id) child i links) (answer_to m (PlainWhat.Created child)) (answer_off c e p x life o s t (answer_id m.id) h refl) made in
    led p life o u (when test (with_sent (service.with_created (without_message t id) child i links) (Some (answer_to m (PlainWhat.Created child))))) (bind (slice_get t.images image) (service.creates_of t id m child links))
    (ap (λ v. bind (slice_get v image) (service.creates_of t id m child links)) h.beside.images ∙ ap (λ v. bind v (service.creates_of t id m child links)) found
    ∙ ap (λ v. when (((m.to.num == 0) && nat_lt m.to.home v) && pid_eq child (pid_of m.to.home (first_number + t.made m.to.home))) (with_sent (service.with_created (without_message t id) child i links) (Some (answer_to m (PlainWhat.Created child))))) h.beside.machines
    ∙ ap (λ v. when (service.is_kernel s m.to && pid_eq child (pid_of m.to.home (first_number + v))) (with_sent (service.with_created (without_message t id) child i links) (Some (answer_to m (PlainWhat.Created child))))) (h.beside.made m.to.home))
    (when_beside p life o test (with_sent (service.with_created (without_message s id) child i links) (Some (answer_to m (PlainWhat.Created child)))) u (with_sent (service.with_created (without_message t id) child i links) (Some (answer_to m (PlainWhat.Created child)))) put rest)
creates_beside c e p x life o s t u id m child _ h there is = none_some u is

no_room_beside : (c e : MsgId → ℕ) (p : Pid) (x : PlainProcess) (life : Life) (o : Option PlainMessage) (s t u : OneKernel) (id : MsgId) (m : PlainMessage) (w : PlainWhat) → Going c e p x life o s t → s.bag id ≡ Some m → service.has_no_room s id m w ≡ Some u
    → KernelBeside p life o u (service.has_no_room t id m w)
no_room_beside c e p x life o s t u id m (PlainWhat.Create image links) h there is =
    let out = beside_out p life o s t id (there_apart c e p x life o s t id m h there) h.beside in
    led p life o u (when (service.is_kernel s m.to) (with_sent (without_message t id) (Some (answer_to m PlainWhat.NoRoom)))) (service.has_no_room t id m (PlainWhat.Create image links))
    (ap (λ v. when ((m.to.num == 0) && nat_lt m.to.home v) (with_sent (without_message t id) (Some (answer_to m PlainWhat.NoRoom)))) h.beside.machines)
    (when_beside p life o (service.is_kernel s m.to) (with_sent (without_message s id) (Some (answer_to m PlainWhat.NoRoom))) u (with_sent (without_message t id) (Some (answer_to m PlainWhat.NoRoom)))
    (beside_put p life o (without_message s id) (without_message t id) (answer_to m PlainWhat.NoRoom) (answer_off c e p x life o s t (answer_id m.id) h refl) out) is)
no_room_beside c e p x life o s t u id m _ h there is = none_some u is

asked_beside : (c e : MsgId → ℕ) (p : Pid) (x : PlainProcess) (life : Life) (o : Option PlainMessage) (s t u : OneKernel) (id : MsgId) (m : PlainMessage) (w : PlainWhat) → Going c e p x life o s t → s.bag id ≡ Some m → follows_request s id m w ≡ Some u
    → KernelBeside p life o u (follows_request t id m w)
asked_beside c e p x life o s t u id m (PlainWhat.Move machine) h there is =
    by_same p life o (with_note (without_message s id) m.to (record { id = id; asker = m.sender })) u (with_note (without_message t id) m.to (record { id = id; asker = m.sender }))
    (beside_note p life o (without_message s id) (without_message t id) m.to (record { id = id; asker = m.sender }) (beside_out p life o s t id (there_apart c e p x life o s t id m h there) h.beside)) is
asked_beside c e p x life o s t u id m _ h there is = none_some u is

gone_beside : (c e : MsgId → ℕ) (p : Pid) (x : PlainProcess) (life : Life) (o : Option PlainMessage) (s t u : OneKernel) (id : MsgId) (m : PlainMessage) (a : Option PlainWhat) → Going c e p x life o s t → s.bag id ≡ Some m
    → bind a (λ w. Some (with_sent (without_message s id) (Some (answer_to m w)))) ≡ Some u → KernelBeside p life o u (bind a (λ w. Some (with_sent (without_message t id) (Some (answer_to m w)))))
gone_beside c e p x life o s t u id m (Some w) h there is =
    by_same p life o (with_sent (without_message s id) (Some (answer_to m w))) u (with_sent (without_message t id) (Some (answer_to m w)))
    (beside_put p life o (without_message s id) (without_message t id) (answer_to m w) (answer_off c e p x life o s t (answer_id m.id) h refl) (beside_out p life o s t id (there_apart c e p x life o s t id m h there) h.beside)) is
gone_beside c e p x life o s t u id m None h there is = none_some u is

ended_beside : (c e : MsgId → ℕ) (p : Pid) (x : PlainProcess) (life : Life) (o : Option PlainMessage) (s t : OneKernel) (id : MsgId) (q : Pid) (n : MoveNote) (outcome : Outcome) → Going c e p x life o s t
    → Beside p life o (service.move_ended s id q n outcome) (service.move_ended t id q n outcome)
ended_beside c e p x life o s t id q n outcome h =
    beside_put p life o (without_note s q id) (without_note t q id) (record { id = answer_id id; to = n.asker; sender = q; what = PlainWhat.Moved outcome }) (answer_off c e p x life o s t (answer_id id) h refl) (beside_unnote p life o s t q id h.beside)

ends_move_beside : (c e : MsgId → ℕ) (p : Pid) (x : PlainProcess) (life : Life) (o : Option PlainMessage) (s t u : OneKernel) (id : MsgId) (q : Pid) (n : MoveNote) (outcome : Outcome) → Going c e p x life o s t → service.ends_move s id q n outcome ≡ Some u
    → KernelBeside p life o u (service.ends_move t id q n outcome)
ends_move_beside c e p x life o s t u id q n Outcome.Done h is = by_same p life o (service.move_ended s id q n Outcome.Done) u (service.move_ended t id q n Outcome.Done) (ended_beside c e p x life o s t id q n Outcome.Done h) is
ends_move_beside c e p x life o s t u id q n Outcome.Stayed h is = by_same p life o (service.move_ended s id q n Outcome.Stayed) u (service.move_ended t id q n Outcome.Stayed) (ended_beside c e p x life o s t id q n Outcome.Stayed h) is
ends_move_beside c e p x life o s t u id q n Outcome.Ended h is = none_some u is

-- a step that isn't the process's own
pub step_beside : (c e : MsgId → ℕ) (p : Pid) (x : PlainProcess) (life : Life) (o : Option PlainMessage) (s t u : OneKernel) (l : Label) → Going c e p x life o s t → (IsOwnStep s p l → ⊥) → kernel.step s l ≡ Some u → KernelBeside p life o u (kernel.step t l)
step_beside c e p x life o s t u (Label.Ran q k) h other is =
    let apart = other_by p q (λ same. other (sym same)) in
    let (y, runs, rest) = bind-is (kernel.running s q) (λ (w : PlainProcess). bind (kernel.plain_steps k (kernel.machine_of w)) (λ (m : kernel.Machine). Some (kernel.goes_on s q (kernel.with_machine w m)))) u is in
    let (m, plain, last) = bind-is (kernel.plain_steps k (kernel.machine_of y)) (λ (m : kernel.Machine). Some (kernel.goes_on s q (kernel.with_machine y m))) u rest in
    led p life o u (Some (kernel.goes_on t q (kernel.with_machine y m))) (kernel.step t (Label.Ran q k))
    (ap (λ v. bind v (λ (w : PlainProcess). bind (kernel.plain_steps k (kernel.machine_of w)) (λ (n : kernel.Machine). Some (kernel.goes_on t q (kernel.with_machine w n))))) (running_same p life o s t q apart h.beside ∙ runs)
    ∙ ap (λ v. bind v (λ (n : kernel.Machine). Some (kernel.goes_on t q (kernel.with_machine y n)))) plain)
    (by_same p life o (kernel.goes_on s q (kernel.with_machine y m)) u (kernel.goes_on t q (kernel.with_machine y m)) (beside_other p life o s t q (Alive (kernel.with_machine y m)) (swapped p q apart) h.beside) last)
step_beside c e p x life o s t u (Label.Call q n d) h other is =
    let apart = other_by p q (λ same. other (sym same)) in
    let (a, next, last) = bind-is (kernel.next_trap s q) (kernel.replies s q n d) u is in
    led p life o u (kernel.replies t q n d a) (kernel.step t (Label.Call q n d)) (ap (λ v. bind v (kernel.replies t q n d)) (trap_same p life o s t q apart h.beside ∙ next)) (replies_beside p life o s t u q n d a (swapped p q apart) h.beside last)
step_beside c e p x life o s t u (Label.Send q id) h other is =
    let apart = other_by p q (λ same. other (sym same)) in
    let (a, next, last) = bind-is (kernel.next_trap s q) (kernel.sends s q id) u is in
    led p life o u (kernel.sends t q id a) (kernel.step t (Label.Send q id)) (ap (λ v. bind v (kernel.sends t q id)) (trap_same p life o s t q apart h.beside ∙ next)) (sends_beside p x.sent life o s t u q id a apart h.own (nexts s q a next) h.beside last)
step_beside c e p x life o s t u (Label.Wait q) h other is =
    let apart = other_by p q (λ same. other (sym same)) in
    let (a, next, last) = bind-is (kernel.next_trap s q) (kernel.waits s q) u is in
    led p life o u (kernel.waits t q a) (kernel.step t (Label.Wait q)) (ap (λ v. bind v (kernel.waits t q)) (trap_same p life o s t q apart h.beside ∙ next)) (waits_beside p life o s t u q a (swapped p q apart) h.beside last)
step_beside c e p x life o s t u (Label.Out q w) h other is =
    let apart = other_by p q (λ same. other (sym same)) in
    let (a, next, last) = bind-is (kernel.next_trap s q) (kernel.outputs s q w) u is in
    led p life o u (kernel.outputs t q w a) (kernel.step t (Label.Out q w)) (ap (λ v. bind v (kernel.outputs t q w)) (trap_same p life o s t q apart h.beside ∙ next)) (outputs_beside p life o s t u q w a (swapped p q apart) h.beside last)
step_beside c e p x life o s t u (Label.End q y) h other is =
    let apart = other_by p q (λ same. other (sym same)) in
    let (a, next, last) = bind-is (kernel.next_trap s q) (kernel.ends s q y) u is in
    led p life o u (kernel.ends t q y a) (kernel.step t (Label.End q y)) (ap (λ v. bind v (kernel.ends t q y)) (trap_same p life o s t q apart h.beside ∙ next)) (ends_beside p life o s t u q y a (swapped p q apart) h.beside last)
step_beside c e p x life o s t u (Label.Receive q id) h other is =
    let apart = other_by p q (λ same. other (sym same)) in
    let (a, completes, last) = bind-is (kernel.completing s q id) (kernel.receives s q id) u is in
    let (m, there) = in_bag_by s q id a completes in
    let off = there_apart c e p x life o s t id m h there in
    led p life o u (kernel.receives t q id a) (kernel.step t (Label.Receive q id)) (ap (λ v. bind v (kernel.receives t q id)) (completing_same p life o s t q id m apart off there h.beside ∙ completes))
    (receives_beside p life o s t u q id a (swapped p q apart) off h.beside last)
step_beside c e p x life o s t u (Label.Refuse q id d) h other is =
    let apart = other_by p q (λ same. other (sym same)) in
    let (a, completes, last) = bind-is (kernel.completing s q id) (kernel.refuses s q d) u is in
    let (m, there) = in_bag_by s q id a completes in
    let off = there_apart c e p x life o s t id m h there in
    led p life o u (kernel.refuses t q d a) (kernel.step t (Label.Refuse q id d)) (ap (λ v. bind v (kernel.refuses t q d)) (completing_same p life o s t q id m apart off there h.beside ∙ completes)) (refuses_beside p life o s t u q d a (swapped p q apart) h.beside last)
step_beside c e p x life o s t u (Label.Served id) h other is =
    let (m, there, rest) = bind-is (s.bag id) (λ v. bind (kernel.at_hand s v.to) (λ y. serves s id v y v.what)) u is in
    let (y, hand, last) = bind-is (kernel.at_hand s m.to) (λ y. serves s id m y m.what) u rest in
    let apart = other_by p m.to (λ same. other (m, there, sym same)) in
    let too = there_too p life o s t id m (there_apart c e p x life o s t id m h there) there h.beside in
    led p life o u (serves t id m y m.what) (kernel.step t (Label.Served id))
    (ap (λ v. bind v (λ w. bind (kernel.at_hand t w.to) (λ z. serves t id w z w.what))) too ∙ ap (λ v. bind v (λ z. serves t id m z m.what)) (hand_same p life o s t m.to apart h.beside ∙ hand))
    (serves_beside c e p x life o s t u id m y m.what (record { going = h; there = there; other = apart }) last)
step_beside c e p x life o s t u (Label.Took id) h other is =
    let (m, there, last) = bind-is (s.bag id) (service.takes s id) u is in
    let too = there_too p life o s t id m (there_apart c e p x life o s t id m h there) there h.beside in
    led p life o u (service.takes t id m) (kernel.step t (Label.Took id)) (ap (λ v. bind v (service.takes t id)) too)
    (takes_beside_if p life o u (pid_eq m.to switchboard) (pid_eq m.to manager) (bind (board.board_takes s.switchboard m m.what) (λ k. Some (service.switchboard_took s id k)))
    (bind (manage.manager_takes s.manager s.machines (length s.images) m m.what) (λ k. Some (service.manager_took s id k))) (bind (board.board_takes t.switchboard m m.what) (λ k. Some (service.switchboard_took t id k)))
    (bind (manage.manager_takes t.manager t.machines (length t.images) m m.what) (λ k. Some (service.manager_took t id k))) (board_beside c e p x life o s t u id m h there) (manager_beside c e p x life o s t u id m h there) last)
step_beside c e p x life o s t u (Label.Dropped id) h other is =
    let (m, there, rest) = bind-is (s.bag id) (λ v. bind (kernel.why_ended (s.processes v.to)) (kernel.drops s id v)) u is in
    let (y, over, last) = bind-is (kernel.why_ended (s.processes m.to)) (kernel.drops s id m) u rest in
    let off = there_apart c e p x life o s t id m h there in
    let too = there_too p life o s t id m off there h.beside in
    let apart = ended_other s p m.to x y h.alive over in
    led p life o u (kernel.drops t id m y) (kernel.step t (Label.Dropped id))
    (ap (λ v. bind v (λ w. bind (kernel.why_ended (t.processes w.to)) (kernel.drops t id w))) too ∙ ap (λ v. bind v (kernel.drops t id m)) (ap kernel.why_ended (h.beside.others m.to apart) ∙ over))
    (when_beside p life o (service.is_dropped m.what) (without_message s id) u (without_message t id) (beside_out p life o s t id off h.beside) last)
step_beside c e p x life o s t u (Label.Gone id) h other is =
    let (m, there, rest) = bind-is (s.bag id) (λ v. bind (kernel.why_ended (s.processes v.to)) (kernel.says_gone s id v)) u is in
    let (y, over, last) = bind-is (kernel.why_ended (s.processes m.to)) (kernel.says_gone s id m) u rest in
    let too = there_too p life o s t id m (there_apart c e p x life o s t id m h there) there h.beside in
    let apart = ended_other s p m.to x y h.alive over in
    led p life o u (kernel.says_gone t id m y) (kernel.step t (Label.Gone id))
    (ap (λ v. bind v (λ w. bind (kernel.why_ended (t.processes w.to)) (kernel.says_gone t id w))) too ∙ ap (λ v. bind v (kernel.says_gone t id m)) (ap kernel.why_ended (h.beside.others m.to apart) ∙ over))
    (gone_beside c e p x life o s t u id m (gone_what m.what) h there last)
step_beside c e p x life o s t u (Label.Created id child) h other is =
    let (m, there, last) = bind-is (s.bag id) (λ v. service.creates s id v child v.what) u is in
    let too = there_too p life o s t id m (there_apart c e p x life o s t id m h there) there h.beside in
    led p life o u (service.creates t id m child m.what) (kernel.step t (Label.Created id child)) (ap (λ v. bind v (λ w. service.creates t id w child w.what)) too) (creates_beside c e p x life o s t u id m child m.what h there last)
step_beside c e p x life o s t u (Label.NoSpace id a b) h other is =
    let (m, there, last) = bind-is (s.bag id) (λ v. service.has_no_room s id v v.what) u is in
    let too = there_too p life o s t id m (there_apart c e p x life o s t id m h there) there h.beside in
    led p life o u (service.has_no_room t id m m.what) (kernel.step t (Label.NoSpace id a b)) (ap (λ v. bind v (λ w. service.has_no_room t id w w.what)) too) (no_room_beside c e p x life o s t u id m m.what h there last)
step_beside c e p x life o s t u (Label.Asked id) h other is =
    let (m, there, rest) = bind-is (s.bag id) (λ v. bind (kernel.at_hand s v.to) (λ y. follows_request s id v v.what)) u is in
    let (y, hand, last) = bind-is (kernel.at_hand s m.to) (λ y. follows_request s id m m.what) u rest in
    let apart = other_by p m.to (λ same. other (m, there, sym same)) in
    let too = there_too p life o s t id m (there_apart c e p x life o s t id m h there) there h.beside in
    led p life o u (follows_request t id m m.what) (kernel.step t (Label.Asked id))
    (ap (λ v. bind v (λ w. bind (kernel.at_hand t w.to) (λ z. follows_request t id w w.what))) too ∙ ap (λ v. bind v (λ z. follows_request t id m m.what)) (hand_same p life o s t m.to apart h.beside ∙ hand))
    (asked_beside c e p x life o s t u id m m.what h there last)
step_beside c e p x life o s t u (Label.Answered id a) h other is =
    let (q, noted, rest) = bind-is (s.noted id) (λ v. bind (s.notes v) (λ n. service.ends_move s id v n a)) u is in
    let (n, notes, last) = bind-is (s.notes q) (λ n. service.ends_move s id q n a) u rest in
    led p life o u (service.ends_move t id q n a) (kernel.step t (Label.Answered id a))
    (ap (λ v. bind v (λ w. bind (t.notes w) (λ z. service.ends_move t id w z a))) (h.beside.noted id ∙ noted) ∙ ap (λ v. bind v (λ z. service.ends_move t id q z a)) (h.beside.notes q ∙ notes))
    (ends_move_beside c e p x life o s t u id q n a h last)
