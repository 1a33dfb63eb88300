-- What kernels do with messages for living processes, and what receives come to.
use Rattle.dm_law_one.proofs.Names.{◌≡◌, ℕ, ◌+◌, ◌-◌, ◌==◌, ◌&&◌, Bool, true, false, refl, ap, ◌∙◌, sym, subst, nat_le, arith, nat_tests, if◌then◌else◌, List, length, take, drop, Option, None, Some, Pid, pid_eq, MsgId, option_map, option_map_or, PlainLink, PlainMessage, PlainWhat, Direction, Reply, Why}
use Rattle.dm_law_one.proofs.Names.{PlainProcess, PlainStatus, Ready, Waiting, Moving, Life, Alive, Ended, MoveNote, OneKernel, with_process, with_sent, without_message, answer_id, answer_to, first_failed, bind, serves, instruction}
use Rattle.dm_law_one.proofs.Facts.{none_some}
use Rattle.dm_law_one.proofs.Counted.{is_piece}
use Rattle.dm_law_one.proofs.Steps.{bind-is}
use Rattle.dm_onekernel.specs.Pieces as pieces
use Rattle.dm_onekernel.specs.Receiving as receiving
use Rattle.dm_onekernel.specs.Service as service
use Rattle.dm_onekernel.specs.Step as kernel
use Rattle.dm_process.specs.Mail.{on_mask}
use Rattle.dm_law_alike.specs.Alike.{Renaming, KeepsOrder, GoOn, Stands, under, status_by, TwinProcess, TwinLife, TwinNote, Twins}
use Rattle.dm_law_alike.proofs.Numbers.{some_same, answer_stands}
use Rattle.dm_law_alike.proofs.Ways.{twin_set, twin_out, twin_put}
use Rattle.dm_law_alike.proofs.Calling.{as_twin, twin_is, Both, both, twin_requests, NextTwin, twin_next}

-- the process there that is the twin of one here
pub record HandTwin (f : ℕ → Option ℕ) (x : PlainProcess) (o : Option PlainProcess) : Type 0 where
  pub process : PlainProcess
  pub is : o ≡ Some process
  pub twin : TwinProcess f x process

hand_of : (r : Renaming) (p : Pid) (a b : Option MoveNote) (u v : Option Life) (x : PlainProcess) → TwinNote r a b → TwinLife p (r p) u v → option_map_or (λ note. None) a (kernel.alive u) ≡ Some x
    → HandTwin (r p) x (option_map_or (λ note. None) b (kernel.alive v))
hand_of r p None None (Some (Alive z)) (Some (Alive y)) x n h e = record { process = y; is = refl; twin = subst (λ v. TwinProcess (r p) v y) (some_same z x e) h }
hand_of r p None None (Some (Alive z)) (Some (Ended y)) x n h e = absurd h
hand_of r p None None (Some (Alive z)) None x n h e = absurd h
hand_of r p None None (Some (Ended z)) v x n h e = none_some x e
hand_of r p None None None v x n h e = none_some x e
hand_of r p None (Some o) u v x n h e = absurd n
hand_of r p (Some o) b u v x n h e = none_some x e

pub twin_hand : (r : Renaming) (s t : OneKernel) (p : Pid) (x : PlainProcess) → Twins r s t → kernel.at_hand s p ≡ Some x → HandTwin (r p) x (kernel.at_hand t p)
twin_hand r s t p x h e = hand_of r p (s.notes p) (t.notes p) (s.processes p) (t.processes p) x (h.notes p) (h.processes p) e

ready_if : (f : ℕ → Option ℕ) (x y z : PlainProcess) (b c : Bool) → c ≡ b → TwinProcess f x y → (if b then None else Some x) ≡ Some z → HandTwin f z (if c then None else Some y)
ready_if f x y z true c same h e = none_some z e
ready_if f x y z false true same h e = absurd (cc)
ready_if f x y z false false same h e = record { process = y; is = refl; twin = subst (λ v. TwinProcess f v y) (some_same x z e) h }

ready_of : (f : ℕ → Option ℕ) (x y z : PlainProcess) (v w : PlainStatus) → status_by f v ≡ Some w → TwinProcess f x y → kernel.if_ready x v ≡ Some z → HandTwin f z (kernel.if_ready y w)
ready_of f x y z Ready w is h e = subst (λ (u : PlainStatus). HandTwin f z (kernel.if_ready y u)) (some_same Ready w is) (ready_if f x y z x.stopped y.stopped h.stopped h e)
ready_of f x y z (Waiting mask base cap) w is h e = none_some z e
ready_of f x y z (Moving dir owner base own left pending) w is h e = none_some z e

pub twin_running : (r : Renaming) (s t : OneKernel) (p : Pid) (x : PlainProcess) → Twins r s t → kernel.running s p ≡ Some x → HandTwin (r p) x (kernel.running t p)
twin_running r s t p x h e =
    let (z, hand, ready) = bind-is (kernel.at_hand s p) (λ (v : PlainProcess). kernel.if_ready v v.status) x e in
    let there = twin_hand r s t p z h hand in
    subst (λ o. HandTwin (r p) x (bind o (λ (v : PlainProcess). kernel.if_ready v v.status))) (sym there.is) (ready_of (r p) z there.process x z.status there.process.status there.twin.status there.twin ready)

pub twin_trap : (r : Renaming) (s t : OneKernel) (p : Pid) (a : kernel.Trap) → Twins r s t → kernel.next_trap s p ≡ Some a → NextTwin r p a (kernel.next_trap t p)
twin_trap r s t p a h e =
    let (x, runs, next) = bind-is (kernel.running s p) (λ (v : PlainProcess). kernel.next_row p v (instruction v.regs v.memory)) a e in
    let there = twin_running r s t p x h runs in
    subst (λ o. NextTwin r p a (bind o (λ (v : PlainProcess). kernel.next_row p v (instruction v.regs v.memory)))) (sym there.is) (twin_next r p x there.process a there.twin next)

-- what a receive comes to
abbrev pub TwinCompleted : (ℕ → Option ℕ) → receiving.Completed → receiving.Completed → Type 0
TwinCompleted f (receiving.Receives x) (receiving.Receives y) = TwinProcess f x y
TwinCompleted f (receiving.Refuses c x) (receiving.Refuses d y) = (d ≡ c) × TwinProcess f x y
TwinCompleted f _ _ = ⊥

pub record CompletesTwin (f : ℕ → Option ℕ) (c : receiving.Completed) (o : Option receiving.Completed) : Type 0 where
  pub completed : receiving.Completed
  pub is : o ≡ Some completed
  pub twin : TwinCompleted f c completed

refusal_of : (f : ℕ → Option ℕ) (x : PlainProcess) (st : PlainStatus) (k : ℕ) (o : Option Reply) (base code channel : ℕ) (body : List ℕ) (links : List PlainLink) → GoOn f x.sent k
    → TwinCompleted f (receiving.completes_unless o x (receiving.with_received x base code channel body links)) (receiving.completes_unless o (as_twin x st k) (receiving.with_received (as_twin x st k) base code channel body links))
refusal_of f x st k None base code channel body links h = record { regs = refl; memory = refl; links = refl; status = refl; stopped = refl; sent = h }
refusal_of f x st k (Some c) base code channel body links h = (refl, record { regs = refl; memory = refl; links = refl; status = refl; stopped = refl; sent = h })

completes_if : (f : ℕ → Option ℕ) (b : Bool) (c d e : receiving.Completed) → TwinCompleted f c d → (if b then Some c else None) ≡ Some e → CompletesTwin f e (if b then Some d else None)
completes_if f true c d e h is = record { completed = d; is = refl; twin = subst (λ v. TwinCompleted f v d) (some_same c e is) h }
completes_if f false c d e h is = none_some e is

completes_by : (f : ℕ → Option ℕ) (p : Pid) (x : PlainProcess) (st : PlainStatus) (k : ℕ) (m : PlainMessage) (j : MsgId) (mask base cap : ℕ) (w : PlainWhat) (c : receiving.Completed) → GoOn f x.sent k
    → receiving.completes_what p x m mask base cap w ≡ Some c → CompletesTwin f c (receiving.completes_what p (as_twin x st k) (under j m) mask base cap w)
completes_by f p x st k m j mask base cap (PlainWhat.User code channel body links) c h e =
    completes_if f (pid_eq m.to p && on_mask mask channel) (receiving.completes x base cap code channel body links) (receiving.completes (as_twin x st k) base cap code channel body links) c
    (refusal_of f x st k (first_failed (receiving.receive_refusals x cap body links)) base code channel body links h) e
completes_by f p x st k m j mask base cap _ c h e = none_some c e

completes_at : (f : ℕ → Option ℕ) (p : Pid) (x : PlainProcess) (st : PlainStatus) (k : ℕ) (m : PlainMessage) (j : MsgId) (v : PlainStatus) (c : receiving.Completed) → GoOn f x.sent k → status_by f v ≡ Some st
    → receiving.completes_status p x m v ≡ Some c → CompletesTwin f c (receiving.completes_status p (as_twin x st k) (under j m) st)
completes_at f p x st k m j (Waiting mask base cap) c h is e =
    subst (λ (u : PlainStatus). CompletesTwin f c (receiving.completes_status p (as_twin x st k) (under j m) u)) (some_same (Waiting mask base cap) st is) (completes_by f p x st k m j mask base cap m.what c h e)
completes_at f p x st k m j Ready c h is e = none_some c e
completes_at f p x st k m j (Moving dir owner base own left pending) c h is e = none_some c e

completes_stopped : (f : ℕ → Option ℕ) (b : Bool) (c : receiving.Completed) (o u : Option receiving.Completed) → (o ≡ Some c → CompletesTwin f c u) → (if b then None else o) ≡ Some c → CompletesTwin f c (if b then None else u)
completes_stopped f true c o u h e = none_some c e
completes_stopped f false c o u h e = h e

completes_as : (f : ℕ → Option ℕ) (p : Pid) (x : PlainProcess) (st : PlainStatus) (k : ℕ) (m : PlainMessage) (j : MsgId) (c : receiving.Completed) → Both f x st k → receiving.completes_with p x m ≡ Some c
    → CompletesTwin f c (receiving.completes_with p (as_twin x st k) (under j m))
completes_as f p x st k m j c h e =
    completes_stopped f x.stopped c (receiving.completes_status p x m x.status) (receiving.completes_status p (as_twin x st k) (under j m) st) (λ is. completes_at f p x st k m j x.status c h.sent h.status is) e

pub twin_completing : (r : Renaming) (s t : OneKernel) (p : Pid) (i j : MsgId) (c : receiving.Completed) → Stands r i j → Twins r s t → kernel.completing s p i ≡ Some c → CompletesTwin (r p) c (kernel.completing t p j)
twin_completing r s t p i j c st h e =
    let (x, hand, rest) = bind-is (kernel.at_hand s p) (λ (v : PlainProcess). bind (s.bag i) (receiving.completes_with p v)) c e in
    let (m, there, last) = bind-is (s.bag i) (receiving.completes_with p x) c rest in
    let y = twin_hand r s t p x h hand in
    let bag : t.bag j ≡ Some (under j m) = h.bag i j st ∙ ap (option_map (under j)) there in
    let k = completes_as (r p) p x y.process.status y.process.sent m j c (both (r p) x y.process y.twin) last in
    let l : CompletesTwin (r p) c (receiving.completes_with p y.process (under j m)) = subst (λ (v : PlainProcess). CompletesTwin (r p) c (receiving.completes_with p v (under j m))) (sym (twin_is (r p) x y.process y.twin)) k in
    subst (λ o. CompletesTwin (r p) c (bind o (λ (v : PlainProcess). bind (t.bag j) (receiving.completes_with p v)))) (sym y.is) (subst (λ o. CompletesTwin (r p) c (bind o (receiving.completes_with p y.process))) (sym bag) l)

-- what becomes of a data move whose answer has come
abbrev pub TwinLanded : Renaming → Pid → pieces.Landed → pieces.Landed → Type 0
TwinLanded r p (pieces.Next m x) (pieces.Next n y) = Stands r m.id n.id × (n ≡ under n.id m) × TwinProcess (r p) x y
TwinLanded r p (pieces.Done c x) (pieces.Done d y) = (d ≡ c) × TwinProcess (r p) x y
TwinLanded r p _ _ = ⊥

pub record LandsTwin (r : Renaming) (p : Pid) (c : pieces.Landed) (o : Option pieces.Landed) : Type 0 where
  pub landed : pieces.Landed
  pub is : o ≡ Some landed
  pub twin : TwinLanded r p c landed

landed_if : (r : Renaming) (p : Pid) (b : Bool) (c d e g : pieces.Landed) → TwinLanded r p c e → TwinLanded r p d g → TwinLanded r p (if b then c else d) (if b then e else g)
landed_if r p true c d e g h k = h
landed_if r p false c d e g h k = k

goes_on_twin : (r : Renaming) (p : Pid) (x : PlainProcess) (st : PlainStatus) (k : ℕ) (dir : Direction) (owner : Pid) (base own left piece : ℕ) → GoOn (r p) x.sent k
    → TwinLanded r p (pieces.move_goes_on p x dir owner base own left piece) (pieces.move_goes_on p (as_twin x st k) dir owner base own left piece)
goes_on_twin r p x st k dir owner base own left piece h =
    landed_if r p (left - piece == 0) (pieces.done Reply.Done x) (pieces.next_request (pieces.requests p x dir owner (base + piece) (own + piece) (left - piece)))
    (pieces.done Reply.Done (as_twin x st k)) (pieces.next_request (pieces.requests p (as_twin x st k) dir owner (base + piece) (own + piece) (left - piece)))
    (refl, record { regs = refl; memory = refl; links = refl; status = refl; stopped = refl; sent = h }) (twin_requests r p x st k dir owner (base + piece) (own + piece) (left - piece) h)

some_if : (r : Renaming) (p : Pid) (b : Bool) (c d e : pieces.Landed) → TwinLanded r p c d → (if b then Some c else None) ≡ Some e → LandsTwin r p e (if b then Some d else None)
some_if r p true c d e h is = record { landed = d; is = refl; twin = subst (λ v. TwinLanded r p v d) (some_same c e is) h }
some_if r p false c d e h is = none_some e is

gone_twin : (r : Renaming) (p : Pid) (x : PlainProcess) (st : PlainStatus) (k : ℕ) (c : pieces.Landed) → GoOn (r p) x.sent k → Some (pieces.done Reply.Gone x) ≡ Some c → LandsTwin r p c (Some (pieces.done Reply.Gone (as_twin x st k)))
gone_twin r p x st k c h is =
    record {
      landed = pieces.done Reply.Gone (as_twin x st k);
      is = refl;
      twin = subst (λ v. TwinLanded r p v (pieces.done Reply.Gone (as_twin x st k))) (some_same (pieces.done Reply.Gone x) c is) (refl, record { regs = refl; memory = refl; links = refl; status = refl; stopped = refl; sent = h });
    }

lands_by : (r : Renaming) (p : Pid) (x : PlainProcess) (st : PlainStatus) (k : ℕ) (dir : Direction) (owner : Pid) (base own left : ℕ) (w : PlainWhat) (c : pieces.Landed) → GoOn (r p) x.sent k
    → pieces.lands_what p x dir owner base own left w ≡ Some c → LandsTwin r p c (pieces.lands_what p (as_twin x st k) dir owner base own left w)
lands_by r p x st k Direction.FromArea owner base own left (PlainWhat.Block bytes) c h is =
    let z : PlainProcess = record x { memory = pieces.written_at x.memory own bytes } in
    some_if r p ((length bytes == pieces.piece_of left) && nat_le (own + left) (length x.memory)) (pieces.move_goes_on p z Direction.FromArea owner base own left (pieces.piece_of left))
    (pieces.move_goes_on p (as_twin z st k) Direction.FromArea owner base own left (pieces.piece_of left)) c (goes_on_twin r p z st k Direction.FromArea owner base own left (pieces.piece_of left) h) is
lands_by r p x st k Direction.FromArea owner base own left PlainWhat.Gone c h is = gone_twin r p x st k c h is
lands_by r p x st k Direction.IntoArea owner base own left PlainWhat.Written c h is =
    some_if r p (nat_le (own + left) (length x.memory)) (pieces.move_goes_on p x Direction.IntoArea owner base own left (pieces.piece_of left))
    (pieces.move_goes_on p (as_twin x st k) Direction.IntoArea owner base own left (pieces.piece_of left)) c (goes_on_twin r p x st k Direction.IntoArea owner base own left (pieces.piece_of left) h) is
lands_by r p x st k Direction.IntoArea owner base own left PlainWhat.Gone c h is = gone_twin r p x st k c h is
lands_by r p x st k dir owner base own left _ c h is = none_some c is

-- equal numbers stand for equal ones
pub numbers_eq : (r : Renaming) (p : Pid) (m n a b : ℕ) → KeepsOrder r → r p m ≡ Some a → r p n ≡ Some b → (a == b) ≡ (m == n)
numbers_eq r p m n a b h f g = let u = h.order p m n a b f g in let v = h.order p n m b a g f in grind (arith, nat_tests)

lands_if : (r : Renaming) (p : Pid) (b d : Bool) (o u : Option pieces.Landed) (c : pieces.Landed) → d ≡ b → (o ≡ Some c → LandsTwin r p c u) → (if b then o else None) ≡ Some c → LandsTwin r p c (if d then u else None)
lands_if r p true true o u c same h is = h is
lands_if r p true false o u c same h is = absurd (cc)
lands_if r p false d o u c same h is = none_some c is

pending_is : (dir : Direction) (owner : Pid) (base own left : ℕ) (o : Option ℕ) (st : PlainStatus) → option_map (λ n. Moving dir owner base own left n) o ≡ Some st → (n : ℕ) × (o ≡ Some n) × (Moving dir owner base own left n ≡ st)
pending_is dir owner base own left None st is = none_some st is
pending_is dir owner base own left (Some n) st is = (n, refl, some_same (Moving dir owner base own left n) st is)

lands_at : (r : Renaming) (p : Pid) (x : PlainProcess) (st : PlainStatus) (k : ℕ) (m : PlainMessage) (j : MsgId) (v : PlainStatus) (c : pieces.Landed) → KeepsOrder r → GoOn (r p) x.sent k → r p m.id.n ≡ Some j.n → status_by (r p) v ≡ Some st
    → pieces.lands p x m v ≡ Some c → LandsTwin r p c (pieces.lands p (as_twin x st k) (under j m) st)
lands_at r p x st k m j (Moving dir owner base own left pending) c keeps h n is e =
    let (q, other, whole) = pending_is dir owner base own left (r p pending) st is in
    subst (λ (u : PlainStatus). LandsTwin r p c (pieces.lands p (as_twin x st k) (under j m) u)) whole
    (lands_if r p (m.id.n == pending) (j.n == q) (pieces.lands_what p x dir owner base own left m.what) (pieces.lands_what p (as_twin x st k) dir owner base own left m.what) c
    (numbers_eq r p m.id.n pending j.n q keeps n other) (λ w. lands_by r p x st k dir owner base own left m.what c h w) e)
lands_at r p x st k m j Ready c keeps h n is e = none_some c e
lands_at r p x st k m j (Waiting mask base cap) c keeps h n is e = none_some c e

-- the kernel there that is the twin of one here
pub record KernelTwin (r : Renaming) (u : OneKernel) (o : Option OneKernel) : Type 0 where
  pub kernel : OneKernel
  pub is : o ≡ Some kernel
  pub twins : Twins r u kernel

pub kernel_twin : (r : Renaming) (v u k : OneKernel) → Twins r v k → Some v ≡ Some u → KernelTwin r u (Some k)
kernel_twin r v u k h e = record { kernel = k; is = refl; twins = subst (λ w. Twins r w k) (some_same v u e) h }

-- a message and its twin, with the processes that they are for
pub record ServesTwin (r : Renaming) (s t : OneKernel) (id j : MsgId) (m : PlainMessage) (x : PlainProcess) (st : PlainStatus) (k : ℕ) : Type 0 where
  pub keeps : KeepsOrder r
  pub twins : Twins r s t
  pub stands : Stands r id j
  pub name : m.id ≡ id
  pub both_ : Both (r m.to) x st k
  pub returns : is_piece m.what ≡ true → m.to ≡ id.from

changed_twin : (r : Renaming) (s t : OneKernel) (id j : MsgId) (m : PlainMessage) (a b : PlainProcess) → KeepsOrder r → Stands r id j → Twins r s t → TwinProcess (r m.to) a b → Twins r (service.changed s id m a) (service.changed t j (under j m) b)
changed_twin r s t id j m a b keeps st h twin = twin_set r (without_message s id) (without_message t j) m.to (Alive a) (Alive b) twin (twin_out r s t id j keeps st h)

answered_twin : (r : Renaming) (s t : OneKernel) (id j : MsgId) (m : PlainMessage) (a b : PlainProcess) (w : PlainWhat) → KeepsOrder r → Stands r id j → m.id ≡ id → Twins r s t → TwinProcess (r m.to) a b
    → Twins r (with_sent (service.changed s id m a) (Some (answer_to m w))) (with_sent (service.changed t j (under j m) b) (Some (answer_to (under j m) w)))
answered_twin r s t id j m a b w keeps st name h twin =
    let own : Stands r m.id j = subst (λ v. Stands r v j) (sym name) st in
    twin_put r (service.changed s id m a) (service.changed t j (under j m) b) (answer_to m w) (answer_id j) keeps (answer_stands r m.id j own) (changed_twin r s t id j m a b keeps st h twin)

served_if : (r : Renaming) (s t : OneKernel) (id j : MsgId) (m : PlainMessage) (b : Bool) (c d : pieces.Served) (u : OneKernel) → Twins r (service.answered s id m c) (service.answered t j (under j m) d)
    → bind (if b then Some c else None) (λ v. Some (service.answered s id m v)) ≡ Some u → KernelTwin r u (bind (if b then Some d else None) (λ v. Some (service.answered t j (under j m) v)))
served_if r s t id j m true c d u h e = kernel_twin r (service.answered s id m c) u (service.answered t j (under j m) d) h e
served_if r s t id j m false c d u h e = none_some u e

landed_twin : (r : Renaming) (s t : OneKernel) (id j : MsgId) (m : PlainMessage) (c d : pieces.Landed) → KeepsOrder r → Stands r id j → Twins r s t → TwinLanded r m.to c d → Twins r (service.landed s id m c) (service.landed t j (under j m) d)
landed_twin r s t id j m (pieces.Next a x) (pieces.Next b y) keeps st h twin =
    subst (λ (v : PlainMessage). Twins r (with_sent (service.changed s id m x) (Some a)) (with_sent (service.changed t j (under j m) y) (Some v))) (sym twin.1)
    (twin_put r (service.changed s id m x) (service.changed t j (under j m) y) a b.id keeps twin.0 (changed_twin r s t id j m x y keeps st h twin.2))
landed_twin r s t id j m (pieces.Done c x) (pieces.Done d y) keeps st h twin = changed_twin r s t id j m x y keeps st h twin.1
landed_twin r s t id j m (pieces.Next a x) (pieces.Done d y) keeps st h twin = absurd twin
landed_twin r s t id j m (pieces.Done c x) (pieces.Next b y) keeps st h twin = absurd twin

lands_twin : (r : Renaming) (s t : OneKernel) (id j : MsgId) (m : PlainMessage) (x : PlainProcess) (st : PlainStatus) (k : ℕ) (u : OneKernel) → ServesTwin r s t id j m x st k → m.to ≡ id.from
    → bind (pieces.lands m.to x m x.status) (λ v. Some (service.landed s id m v)) ≡ Some u → KernelTwin r u (bind (pieces.lands m.to (as_twin x st k) (under j m) st) (λ v. Some (service.landed t j (under j m) v)))
lands_twin r s t id j m x st k u h to e =
    let (c, lands, last) = bind-is (pieces.lands m.to x m x.status) (λ v. Some (service.landed s id m v)) u e in
    let n : r m.to m.id.n ≡ Some j.n = ap (λ p. r p m.id.n) to ∙ ap (λ (v : MsgId). r id.from v.n) h.name ∙ h.stands.n in
    let l = lands_at r m.to x st k m j x.status c h.keeps h.both_.sent n h.both_.status lands in
    subst (λ o. KernelTwin r u (bind o (λ v. Some (service.landed t j (under j m) v)))) (sym l.is)
    (kernel_twin r (service.landed s id m c) u (service.landed t j (under j m) l.landed) (landed_twin r s t id j m c l.landed h.keeps h.stands h.twins l.twin) last)

stopped_twin : (f : ℕ → Option ℕ) (x : PlainProcess) (st : PlainStatus) (k : ℕ) (b : Bool) → Both f x st k → TwinProcess f (record x { stopped = b }) (record x { stopped = b; status = st; sent = k })
stopped_twin f x st k b h = record { regs = refl; memory = refl; links = refl; status = h.status; stopped = refl; sent = h.sent }

serves_by : (r : Renaming) (s t : OneKernel) (id j : MsgId) (m : PlainMessage) (x : PlainProcess) (st : PlainStatus) (k : ℕ) (w : PlainWhat) (u : OneKernel) → ServesTwin r s t id j m x st k → m.what ≡ w
    → serves s id m x w ≡ Some u → KernelTwin r u (serves t j (under j m) (as_twin x st k) w)
serves_by r s t id j m x st k PlainWhat.Stop u h what e =
    kernel_twin r (service.changed s id m (record x { stopped = true })) u (service.changed t j (under j m) (record x { stopped = true; status = st; sent = k }))
    (changed_twin r s t id j m (record x { stopped = true }) (record x { stopped = true; status = st; sent = k }) h.keeps h.stands h.twins (stopped_twin (r m.to) x st k true h.both_)) e
serves_by r s t id j m x st k PlainWhat.Resume u h what e =
    kernel_twin r (service.changed s id m (record x { stopped = false })) u (service.changed t j (under j m) (record x { stopped = false; status = st; sent = k }))
    (changed_twin r s t id j m (record x { stopped = false }) (record x { stopped = false; status = st; sent = k }) h.keeps h.stands h.twins (stopped_twin (r m.to) x st k false h.both_)) e
serves_by r s t id j m x st k PlainWhat.Kill u h what e =
    kernel_twin r (with_process (without_message s id) m.to (Ended Why.Killed)) u (with_process (without_message t j) m.to (Ended Why.Killed))
    (twin_set r (without_message s id) (without_message t j) m.to (Ended Why.Killed) (Ended Why.Killed) refl (twin_out r s t id j h.keeps h.stands h.twins)) e
serves_by r s t id j m x st k (PlainWhat.Read base len) u h what e =
    let w = PlainWhat.Block (take len (drop base x.memory)) in
    served_if r s t id j m (nat_le (base + len) (length x.memory)) (record { process = x; answer = answer_to m w }) (record { process = as_twin x st k; answer = answer_to (under j m) w }) u
    (answered_twin r s t id j m x (as_twin x st k) w h.keeps h.stands h.name h.twins (record { regs = refl; memory = refl; links = refl; status = h.both_.status; stopped = refl; sent = h.both_.sent })) e
serves_by r s t id j m x st k (PlainWhat.Write base bytes) u h what e =
    let z : PlainProcess = record x { memory = pieces.written_at x.memory base bytes } in
    served_if r s t id j m (nat_le (base + length bytes) (length x.memory)) (record { process = z; answer = answer_to m PlainWhat.Written }) (record { process = as_twin z st k; answer = answer_to (under j m) PlainWhat.Written }) u
    (answered_twin r s t id j m z (as_twin z st k) PlainWhat.Written h.keeps h.stands h.name h.twins (record { regs = refl; memory = refl; links = refl; status = h.both_.status; stopped = refl; sent = h.both_.sent })) e
serves_by r s t id j m x st k (PlainWhat.Block bytes) u h what e = lands_twin r s t id j m x st k u h (h.returns (ap is_piece what)) e
serves_by r s t id j m x st k PlainWhat.Written u h what e = lands_twin r s t id j m x st k u h (h.returns (ap is_piece what)) e
serves_by r s t id j m x st k PlainWhat.Gone u h what e = lands_twin r s t id j m x st k u h (h.returns (ap is_piece what)) e
serves_by r s t id j m x st k _ u h what e = none_some u e

-- a message for a living process
pub twin_serves : (r : Renaming) (s t : OneKernel) (id j : MsgId) (m : PlainMessage) (x y : PlainProcess) (u : OneKernel) → KeepsOrder r → Twins r s t → Stands r id j → m.id ≡ id → (is_piece m.what ≡ true → m.to ≡ id.from) → TwinProcess (r m.to) x y
    → serves s id m x m.what ≡ Some u → KernelTwin r u (serves t j (under j m) y m.what)
twin_serves r s t id j m x y u keeps h st name returns twin e =
    subst (λ (v : PlainProcess). KernelTwin r u (serves t j (under j m) v m.what)) (sym (twin_is (r m.to) x y twin))
    (serves_by r s t id j m x y.status y.sent m.what u (record { keeps = keeps; twins = h; stands = st; name = name; both_ = both (r m.to) x y twin; returns = returns }) refl e)
