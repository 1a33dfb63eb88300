-- What a message of a data move says of the mover's status: the ways in which that stays.
use Rattle.dm_law_moves.proofs.Names.{◌≡◌, ℕ, ◌+◌, ◌≤◌, true, false, length, take, drop, refl, ap, ◌∙◌, sym, subst, nat_le, nat_lt, arith, ⊤, Option, None, Some, nat_tests, length-take, length-drop, Pid, MsgId, PlainMessage, PlainWhat}
use Rattle.dm_law_moves.proofs.Names.{Direction, PlainProcess, PlainStatus, Ready, Waiting, Moving, Life, Alive, OneKernel, with_process, with_sent, piece_of, answer_to, without_message, pending_of, counts, is_counted, stayed, came, Sound}
use Rattle.dm_law_moves.proofs.Names.{not_server, counts_process, not_counted, has_bytes, move_fits, KernelFits, both, set_if, set_at, Ended}
use Rattle.dm_law_always.proofs.Names.{Lives}
use Rattle.dm_onekernel.specs.Pieces as pieces

-- whom a message of a data move names as the area's owner
abbrev pub other_end : PlainMessage → PlainWhat → Option Pid
other_end m (PlainWhat.Read base len) = Some m.to
other_end m (PlainWhat.Write base bytes) = Some m.to
other_end m (PlainWhat.Block bytes) = Some m.sender
other_end m PlainWhat.Written = Some m.sender
other_end m PlainWhat.Gone = Some m.sender
other_end m _ = None

-- where a piece begins that is asked for, and how many bytes are to be written
abbrev pub Begins : ℕ → ℕ → PlainWhat → Type 0
Begins base left (PlainWhat.Read from len) = from ≡ base
Begins base left (PlainWhat.Write from bytes) = (from ≡ base) × (length bytes ≡ piece_of left)
Begins base left _ = ⊤

-- of a mover that waits for this number: the owner of its area, and the next piece
abbrev pub StatusSays : PlainStatus → ℕ → Pid → PlainWhat → Type 0
StatusSays Ready n q w = ⊤
StatusSays (Waiting mask base size) n q w = ⊤
StatusSays (Moving dir owner base own left pending) n q w = n ≡ pending → (q ≡ owner) × Begins base left w

-- what a message under this number says, if its mover lives and waits for that number
abbrev pub Says : Option Life → ℕ → Pid → PlainWhat → Type 0
Says None n q w = ⊤
Says (Some (Alive x)) n q w = StatusSays x.status n q w
Says (Some (Ended because)) n q w = ⊤

-- each message of a data move in the bag says it
abbrev pub AllSay : OneKernel → Type 0
AllSay s = (i : MsgId) (m : PlainMessage) (q : Pid) → s.bag i ≡ Some m → other_end m m.what ≡ Some q → Says (s.processes i.from) i.n q m.what

-- nobody waits for it
pub unawaited_says : (st : PlainStatus) (n : ℕ) (q : Pid) (w : PlainWhat) → (pending_of st ≡ Some n → ⊥) → StatusSays st n q w
unawaited_says st n q w f = grind (arith, nat_tests)

pub set_says : (s : OneKernel) (p : Pid) (l : Life) → ((i : MsgId) (m : PlainMessage) (q : Pid) → s.bag i ≡ Some m → i.from ≡ p → Says (s.processes p) i.n q m.what → Says (Some l) i.n q m.what) → AllSay s → AllSay (with_process s p l)
set_says s p l f h i m q there e = set_if (λ (o : Option Life). Says o i.n q m.what) s p i.from l (λ same. f i m q there same) (h i m q there e)

-- it waits for a number that it gives anew
pub fresh_says : (r e : MsgId → ℕ) (s : OneKernel) (p : Pid) (x y : PlainProcess) → s.processes p ≡ Some (Alive x) → pending_of y.status ≡ Some x.sent → Sound r e s → AllSay s → AllSay (with_process s p (Alive y))
fresh_says r e s p x y is pending sound h =
    set_says s p (Alive y)
    (λ i m q there from k. unawaited_says y.status i.n q m.what (λ f.
    let number : Some x.sent ≡ Some i.n = sym pending ∙ f in
    let n : x.sent ≡ i.n = cc in
    let counted : counts s i ≡ nat_lt i.n x.sent = counts_process s p i from (not_server s p x is sound.made) ∙ ap (is_counted i.n) is in
    let fresh : counts s i ≡ false = counted ∙ (let z : nat_lt i.n x.sent ≡ false = grind (arith, nat_tests) in z) in
    let none : None ≡ Some m = sym (not_counted r e s i fresh sound.entered) ∙ there in
    cc)) h

-- messages
pub out_says : (s : OneKernel) (id : MsgId) → AllSay s → AllSay (without_message s id)
out_says s id h i m q there e = h i m q (stayed s id i m there) e

pub put_says : (u : OneKernel) (x : PlainMessage) → ((q : Pid) → other_end x x.what ≡ Some q → Says (u.processes x.id.from) x.id.n q x.what) → AllSay u → AllSay (with_sent u (Some x))
put_says u x f h i m q there e = grind (arith, nat_tests, came)

pub other_says : (u : OneKernel) (x : PlainMessage) → other_end x x.what ≡ None → AllSay u → AllSay (with_sent u (Some x))
other_says u x none h = put_says u x (λ q e. absurd (let f : None ≡ Some q = sym none ∙ e in cc)) h

pub answer_says : (u : OneKernel) (id : MsgId) (m : PlainMessage) (w : PlainWhat) → m.id ≡ id → Says (u.processes id.from) id.n m.to m.what → other_end (answer_to m w) w ≡ Some m.to → ((base left : ℕ) → Begins base left w) → AllSay u → AllSay (with_sent u (Some (answer_to m w)))
answer_says u id m w name says end f h =
    put_says u (answer_to m w)
    (λ q e.
    let same : Some m.to ≡ Some q = sym end ∙ e in
    let to : m.to ≡ q = cc in
    let k : Says (u.processes id.from) id.n m.to w = grind (arith, nat_tests) in
    subst (λ (j : MsgId). Says (u.processes j.from) j.n q w) (sym name) (subst (λ (v : Pid). Says (u.processes id.from) id.n v w) to k)) h

-- a process that has sent the request for a piece
pub record Requests (p : Pid) (m : PlainMessage) (y : PlainProcess) : Type 0 where
  pub dir : Direction
  pub owner : Pid
  pub base : ℕ
  pub own : ℕ
  pub left : ℕ
  pub before : PlainProcess
  pub message : (pieces.requests p before dir owner base own left).message ≡ m
  pub process : (pieces.requests p before dir owner base own left).process ≡ y

-- the request of a process whose move lies within both memories says it
abbrev Asked : Lives → PlainMessage → PlainProcess → Type 0
Asked ps m y = move_fits ps y y.status ≡ true → (q : Pid) → other_end m m.what ≡ Some q → Says (Some (Alive y)) m.id.n q m.what

asked : (ps : Lives) (p : Pid) (z : PlainProcess) (dir : Direction) (owner : Pid) (base own left : ℕ) → Asked ps (pieces.requests p z dir owner base own left).message (pieces.requests p z dir owner base own left).process
asked ps p z Direction.FromArea owner base own left fits q e = λ n. let f : q ≡ owner = cc in (f, refl)
asked ps p z Direction.IntoArea owner base own left fits q e = λ n.
    let f : q ≡ owner = cc in
    let within : own + piece_of left ≤ (length z.memory) = grind (arith, nat_tests, (both (has_bytes (base + left) (ps owner)) (nat_le (own + left) (length z.memory)) fits).1) in
    let a = length-take (piece_of left) (drop own z.memory) in
    let b = length-drop own z.memory in
    let size : length (take (piece_of left) (drop own z.memory)) ≡ piece_of left = omega (arith, a, b, within) in
    (f, (refl, size))

pub request_says : (v : OneKernel) (p : Pid) (m : PlainMessage) (y : PlainProcess) → Requests p m y → m.id.from ≡ p → KernelFits (with_sent (with_process v p (Alive y)) (Some m)) → AllSay (with_process v p (Alive y)) → AllSay (with_sent (with_process v p (Alive y)) (Some m))
request_says v p m y w from fits h =
    let u = with_process v p (Alive y) in
    let at : u.processes p ≡ Some (Alive y) = set_at v p (Alive y) in
    let move : move_fits u.processes y y.status ≡ true = (fits.processes p y at).move in
    let first = asked u.processes p w.before w.dir w.owner w.base w.own w.left in
    let k : Asked u.processes m y = subst (λ (z : PlainProcess). Asked u.processes m z) w.process (subst (λ (x : PlainMessage). Asked u.processes x (pieces.requests p w.before w.dir w.owner w.base w.own w.left).process) w.message first) in
    put_says u m
    (λ q e. subst (λ (j : Pid). Says (u.processes j) m.id.n q m.what) (sym from) (subst (λ (o : Option Life). Says o m.id.n q m.what) (sym at) (k move q e))) h
