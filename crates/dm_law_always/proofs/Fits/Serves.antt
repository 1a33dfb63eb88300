-- What kernels do with messages keeps that all fits.
use Rattle.dm_law_always.proofs.Names.{◌≡◌, ℕ, ◌+◌, ◌-◌, ◌≤◌, ◌==◌, ◌&&◌, Bool, true, false, List, length, take, drop, refl, ap, ◌∙◌, sym, subst, nat_le, arith, if◌then◌else◌, Option, None, Some, nat_tests, length-take, length-drop, Pid}
use Rattle.dm_law_always.proofs.Names.{MsgId, id_of, Reply, PlainMessage, PlainWhat, Direction, PlainProcess, PlainStatus, Moving, Life, Alive, OneKernel, with_process, with_sent, answer_id, answer_to, without_message, is_of_memory, is_piece}
use Rattle.dm_law_always.proofs.Names.{pending_of, One, stayed, Sound, Each, Lives, has_bytes, SlotFits, move_fits, ProcessFits, piece_fits, status_awaits, awaits, WhatFits, KernelFits, inl, inr, cases_Bool, pid_eq, IsPending, MoveNote}
use Rattle.dm_law_always.proofs.Names.{NoteFits, Outcome, PendingKind, note-is, with_note, without_note, Label, id_eq-same, bind-is, none_some}
use Rattle.dm_onekernel.specs.Step as kernel
use Rattle.dm_onekernel.specs.Pieces as pieces
use Rattle.dm_onekernel.specs.Service as service
use Rattle.dm_law_always.proofs.Fits.Creates.{pending_at, GoesOn, written_longer, becomes, sent_fits}
use Rattle.dm_law_always.proofs.Fits.Rises.{both, two, move_on, Becomes, set_if, set_fits, set_at, set_rises, out_fits, put_fits, what_on, carries, pending_on, note_on, piece_less, SentFits, requests_fit}

-- a process that goes on waiting for the same
pub same_becomes : (s : OneKernel) (p : Pid) (x y : PlainProcess) → s.processes p ≡ Some (Alive x) → y.status ≡ x.status → GoesOn s.processes x y → Becomes s p (Alive y)
same_becomes s p x y is status goes = becomes s p x y is goes (λ i m there from e. ap (λ (st : PlainStatus). status_awaits st i.n m.what) status ∙ e)

-- the receiver of a message goes on
pub changed_fits : (s : OneKernel) (id : MsgId) (m : PlainMessage) (x y : PlainProcess) → s.processes m.to ≡ Some (Alive x) → y.status ≡ x.status → GoesOn s.processes x y → KernelFits s → KernelFits (service.changed s id m y)
changed_fits s id m x y is status g h =
    set_fits (without_message s id) m.to (Alive y) (same_becomes (without_message s id) m.to x y is status (record { memory = g.memory; slots = g.slots; move = g.move })) (out_fits s id h)

pub goes_same : (s : OneKernel) (p : Pid) (x y : PlainProcess) → length x.memory ≤ length y.memory → y.links ≡ x.links → y.status ≡ x.status → s.processes p ≡ Some (Alive x) → KernelFits s → GoesOn s.processes x y
goes_same s p x y le links status is h =
    let f = h.processes p x is in
    record {
      memory = le;
      slots = subst (Each (SlotFits s.processes)) (sym links) f.slots;
      move = subst (λ (st : PlainStatus). move_fits s.processes y st ≡ true) (sym status) (move_on s.processes s.processes (λ q n e. e) x y le x.status f.move);
    }

turns : (o : Option Life) (n : ℕ) (v w : PlainWhat) → ((dir : Direction) (left : ℕ) → piece_fits dir left v ≡ true → piece_fits dir left w ≡ true) → awaits o n v ≡ true → awaits o n w ≡ true
turns o n v w h1 h2 = search (arith, both, two)

read_block : (base len : ℕ) (bytes : List ℕ) → length bytes ≡ len → (dir : Direction) (left : ℕ) → piece_fits dir left (PlainWhat.Read base len) ≡ true → piece_fits dir left (PlainWhat.Block bytes) ≡ true
read_block base len bytes h1 dir left h2 = search arith

read_gone : (base len : ℕ) (dir : Direction) (left : ℕ) → piece_fits dir left (PlainWhat.Read base len) ≡ true → piece_fits dir left PlainWhat.Gone ≡ true
read_gone base len dir left h1 = search arith

write_written : (base : ℕ) (bytes : List ℕ) (dir : Direction) (left : ℕ) → piece_fits dir left (PlainWhat.Write base bytes) ≡ true → piece_fits dir left PlainWhat.Written ≡ true
write_written base bytes dir left h1 = search arith

write_gone : (base : ℕ) (bytes : List ℕ) (dir : Direction) (left : ℕ) → piece_fits dir left (PlainWhat.Write base bytes) ≡ true → piece_fits dir left PlainWhat.Gone ≡ true
write_gone base bytes dir left h1 = search arith

-- an answer to a request of a data move fits wherever whoever awaited the request still awaits it
answered_fits : (u : OneKernel) (id : MsgId) (m : PlainMessage) (v w : PlainWhat) → m.id ≡ id → m.sender ≡ id.from → ((dir : Direction) (left : ℕ) → piece_fits dir left v ≡ true → piece_fits dir left w ≡ true) → awaits (u.processes id.from) id.n v ≡ true
    → (m.sender ≡ m.id.from) × (awaits (u.processes m.id.from) m.id.n w ≡ true)
answered_fits u id m v w name sender f h =
    (sender ∙ sym (ap (λ (i : MsgId). i.from) name), ap (λ (i : MsgId). awaits (u.processes i.from) i.n w) name ∙ turns (u.processes id.from) id.n v w f h)

waits_on : (s : OneKernel) (id : MsgId) (m : PlainMessage) (x y : PlainProcess) (n : ℕ) (w : PlainWhat) (q : Pid) → s.processes m.to ≡ Some (Alive x) → y.status ≡ x.status → awaits (s.processes q) n w ≡ true → awaits ((service.changed s id m y).processes q) n w ≡ true
waits_on s id m x y n w q is status h =
    set_if (λ (o : Option Life). awaits o n w ≡ true) (without_message s id) m.to q (Alive y) (λ same e. ap (λ (st : PlainStatus). status_awaits st n w) status ∙ sym (ap (λ (o : Option Life). awaits o n w) is) ∙ e) h

read_length : (memory : List ℕ) (base len : ℕ) → base + len ≤ length memory → length (take len (drop base memory)) ≡ len
read_length memory base len le =
    let a = length-take len (drop base memory) in
    let b = length-drop base memory in
    omega (arith, a, b, le)

-- landings
pub record Lands (ps : Lives) (p : Pid) (x : PlainProcess) (m : PlainMessage) (y : PlainProcess) : Type 0 where
  pub goes : GoesOn ps x y
  pub what : SentFits ps y m m.what
  pub from : m.id.from ≡ p

abbrev pub LandedFits : Lives → Pid → PlainProcess → pieces.Landed → Type 0
LandedFits ps p x (pieces.Next m y) = Lands ps p x m y
LandedFits ps p x (pieces.Done c y) = GoesOn ps x y

done_fits : (ps : Lives) (p : Pid) (x z : PlainProcess) (c : _) → length x.memory ≤ length z.memory → z.links ≡ x.links → ProcessFits ps x → LandedFits ps p x (pieces.done c z)
done_fits ps p x z c le links h = record { memory = le; slots = subst (Each (SlotFits ps)) (sym links) h.slots; move = refl }

goes_on_by : (ps : Lives) (p : Pid) (x z : PlainProcess) (dir : Direction) (owner : Pid) (base own left : ℕ) (b : Bool) → length x.memory ≤ length z.memory → z.links ≡ x.links → ProcessFits ps x → has_bytes (base + left) (ps owner) ≡ true → nat_le (own + left) (length x.memory) ≡ true
    → LandedFits ps p x (if b then pieces.done Reply.Done z else pieces.next_request (pieces.requests p z dir owner (base + pieces.piece_of left) (own + pieces.piece_of left) (left - pieces.piece_of left)))
goes_on_by ps p x z dir owner base own left b h1 h2 h3 h4 h5 = grind (arith, nat_tests, done_fits, piece_less, requests_fit, z.memory)

if_lands : (ps : Lives) (p : Pid) (x : PlainProcess) (b : Bool) (k c : pieces.Landed) → LandedFits ps p x k → (if b then Some k else None) ≡ Some c → LandedFits ps p x c
if_lands ps p x b k c h1 h2 = search arith

lands_what_fits : (ps : Lives) (p : Pid) (x : PlainProcess) (dir : Direction) (owner : Pid) (base own left : ℕ) (w : PlainWhat) (c : pieces.Landed) → ProcessFits ps x → has_bytes (base + left) (ps owner) ≡ true → nat_le (own + left) (length x.memory) ≡ true
    → pieces.lands_what p x dir owner base own left w ≡ Some c → LandedFits ps p x c × (is_piece w ≡ true)
lands_what_fits ps p x Direction.FromArea owner base own left (PlainWhat.Block bytes) c h has within e =
    let z = record x { memory = pieces.written_at x.memory own bytes } in (
      if_lands ps p x ((length bytes == pieces.piece_of left) && nat_le (own + left) (length x.memory)) (pieces.move_goes_on p z Direction.FromArea owner base own left (pieces.piece_of left)) c
          (goes_on_by ps p x z Direction.FromArea owner base own left (left - pieces.piece_of left == 0) (written_longer x.memory own bytes) refl h has within) e,
      refl,
    )
lands_what_fits ps p x Direction.IntoArea owner base own left PlainWhat.Written c h has within e = (
  if_lands ps p x (nat_le (own + left) (length x.memory)) (pieces.move_goes_on p x Direction.IntoArea owner base own left (pieces.piece_of left)) c
      (goes_on_by ps p x x Direction.IntoArea owner base own left (left - pieces.piece_of left == 0) (omega arith) refl h has within) e,
  refl,
)
lands_what_fits ps p x Direction.FromArea owner base own left PlainWhat.Gone c h has within e = let k : pieces.done Reply.Gone x ≡ c = cc in (subst (LandedFits ps p x) k (done_fits ps p x x Reply.Gone (omega arith) refl h), refl)
lands_what_fits ps p x Direction.IntoArea owner base own left PlainWhat.Gone c h has within e = let k : pieces.done Reply.Gone x ≡ c = cc in (subst (LandedFits ps p x) k (done_fits ps p x x Reply.Gone (omega arith) refl h), refl)
lands_what_fits ps p x _ owner base own left _ c h has within e = none_some c e

-- a mover whose request is answered is awaited by no other message
record LandsIs (ps : Lives) (p : Pid) (x : PlainProcess) (m : PlainMessage) (c : pieces.Landed) : Type 0 where
  fits : LandedFits ps p x c
  pending : pending_of x.status ≡ Some m.id.n
  piece : is_piece m.what ≡ true

lands_by : (ps : Lives) (p : Pid) (x : PlainProcess) (m : PlainMessage) (st : PlainStatus) (c : pieces.Landed) → x.status ≡ st → ProcessFits ps x → pieces.lands p x m st ≡ Some c → LandsIs ps p x m c
lands_by ps p x m (Moving dir owner base own left pending) c is h e = search (arith, x.memory, h.move, both, m.what, lands_what_fits)
lands_by ps p x m _ c is h e = none_some c e

-- what a status awaits is under its pending number, and of a data move
awaited_is : (st : PlainStatus) (n k : ℕ) (w : PlainWhat) → pending_of st ≡ Some k → status_awaits st n w ≡ true → n ≡ k
awaited_is st n k w h1 h2 = search (arith, both)

abbrev of_move : PlainWhat → Type 0
of_move w = (b : Bool) → (is_of_memory w ≡ true → b ≡ true) → (is_piece w ≡ true → b ≡ true) → b ≡ true

awaited_of_move : (st : PlainStatus) (n : ℕ) (w : PlainWhat) → status_awaits st n w ≡ true → of_move w
awaited_of_move (Moving dir owner base own left pending) n w h b f g = search arith
awaited_of_move _ n w h b f g = cc

one_not : (a b : Option PlainMessage) (x y : PlainMessage) (c : Bool) → a ≡ Some x → b ≡ Some y → One a b → c ≡ true
one_not a b x y c h1 h2 h3 = search arith

pub name_is : (i : MsgId) (p : Pid) (n : ℕ) → i.from ≡ p → i.n ≡ n → i.answer ≡ false → i ≡ id_of p n
name_is i p n e f g = λ j. record { from = e j; n = f j; answer = g j }

answer_is : (i : MsgId) (p : Pid) (n : ℕ) → i.from ≡ p → i.n ≡ n → i.answer ≡ true → i ≡ answer_id (id_of p n)
answer_is i p n e f g = λ j. record { from = e j; n = f j; answer = g j }

pub alone : (r e : MsgId → ℕ) (s : OneKernel) (id : MsgId) (m : PlainMessage) (x : PlainProcess) → s.bag id ≡ Some m → s.processes m.to ≡ Some (Alive x) → is_piece m.what ≡ true → pending_of x.status ≡ Some m.id.n → Sound r e s
    → (i : MsgId) (k : PlainMessage) → (without_message s id).bag i ≡ Some k → i.from ≡ m.to → status_awaits x.status i.n k.what ≡ true → (b : Bool) → b ≡ true
alone r e s id m x there is piece pending h i k stands from waits b =
    let n = m.id.n in
    let name : m.id ≡ id = h.entered.named id m there in
    search (arith, h.movers.returns, m.to, answer_is, s.bag, h.movers.mover, stayed, i.n, awaited_is, x.status, k.what, awaited_of_move, name_is, h.movers.requests, one_not)

pub landed_fits : (r e : MsgId → ℕ) (s : OneKernel) (id : MsgId) (m : PlainMessage) (x : PlainProcess) (c : pieces.Landed) → s.bag id ≡ Some m → s.processes m.to ≡ Some (Alive x) → pieces.lands m.to x m x.status ≡ Some c → Sound r e s → KernelFits s
    → KernelFits (service.landed s id m c)
landed_fits r e s id m x (pieces.Done reply y) there is e_ h fits =
    let lands = lands_by s.processes m.to x m x.status (pieces.Done reply y) refl (fits.processes m.to x is) e_ in
    let g = lands.fits in
    set_fits (without_message s id) m.to (Alive y)
    (becomes (without_message s id) m.to x y is (record { memory = g.memory; slots = g.slots; move = g.move }) (λ i k stands from waits. alone r e s id m x there is lands.piece lands.pending h i k stands from waits (status_awaits y.status i.n k.what)))
    (out_fits s id fits)
landed_fits r e s id m x (pieces.Next request y) there is e_ h fits =
    let lands = lands_by s.processes m.to x m x.status (pieces.Next request y) refl (fits.processes m.to x is) e_ in
    let g = lands.fits in
    let v = without_message s id in
    let u = with_process v m.to (Alive y) in
    let b = becomes v m.to x y is (record { memory = g.goes.memory; slots = g.goes.slots; move = g.goes.move }) (λ i k stands from waits. alone r e s id m x there is lands.piece lands.pending h i k stands from waits (status_awaits y.status i.n k.what)) in
    put_fits u request (sent_fits v u m.to y request request.what (set_rises v m.to (Alive y) b.bytes) (set_at v m.to (Alive y)) g.from g.what) (set_fits v m.to (Alive y) b (out_fits s id fits))

-- a message to one that has ended
pub gone_fits : (r e : MsgId → ℕ) (s : OneKernel) (id : MsgId) (m : PlainMessage) (v w : PlainWhat) → m.what ≡ v → service.gone_what v ≡ Some w → WhatFits s id m v → s.bag id ≡ Some m → Sound r e s → WhatFits (without_message s id) (answer_id m.id) (answer_to m w) w
gone_fits r e s id m (PlainWhat.Read base len) w is answer f there h =
    let k : PlainWhat.Gone ≡ w = cc in
    subst (λ (x : PlainWhat). WhatFits (without_message s id) (answer_id m.id) (answer_to m x) x) k
    (answered_fits (without_message s id) id m (PlainWhat.Read base len) PlainWhat.Gone (h.entered.named id m there) (h.movers.senders id m there (ap is_of_memory is)) (read_gone base len) f.1)
gone_fits r e s id m (PlainWhat.Write base bytes) w is answer f there h =
    let k : PlainWhat.Gone ≡ w = cc in
    subst (λ (x : PlainWhat). WhatFits (without_message s id) (answer_id m.id) (answer_to m x) x) k
    (answered_fits (without_message s id) id m (PlainWhat.Write base bytes) PlainWhat.Gone (h.entered.named id m there) (h.movers.senders id m there (ap is_of_memory is)) (write_gone base bytes) f.1)
gone_fits r e s id m (PlainWhat.Move machine) w is answer f there h = search (arith, m.id, pending_at, h.entered.named)
gone_fits r e s id m _ w is answer f there h = cc

-- a read and a write are served
pub read_fits : (r e : MsgId → ℕ) (s : OneKernel) (id : MsgId) (m : PlainMessage) (x : PlainProcess) (base len : ℕ) → m.what ≡ PlainWhat.Read base len → WhatFits s id m (PlainWhat.Read base len) → s.bag id ≡ Some m → s.processes m.to ≡ Some (Alive x) → Sound r e s → KernelFits s
    → KernelFits (with_sent (service.changed s id m x) (Some (answer_to m (PlainWhat.Block (take len (drop base x.memory))))))
read_fits r e s id m x base len w f there is h fits =
    let within : nat_le (base + len) (length x.memory) ≡ true = sym (ap (has_bytes (base + len)) is) ∙ f.0 in
    let size = read_length x.memory base len (let le : base + len ≤ length x.memory = grind (arith, nat_tests) in le) in
    put_fits (service.changed s id m x) (answer_to m (PlainWhat.Block (take len (drop base x.memory))))
    (answered_fits (service.changed s id m x) id m (PlainWhat.Read base len) (PlainWhat.Block (take len (drop base x.memory))) (h.entered.named id m there) (h.movers.senders id m there (ap is_of_memory w)) (read_block base len (take len (drop base x.memory)) size)
    (waits_on s id m x x id.n (PlainWhat.Read base len) id.from is refl f.1))
    (changed_fits s id m x x is refl (goes_same s m.to x x (omega arith) refl refl is fits) fits)

pub write_fits : (r e : MsgId → ℕ) (s : OneKernel) (id : MsgId) (m : PlainMessage) (x : PlainProcess) (base : ℕ) (bytes : List ℕ) → m.what ≡ PlainWhat.Write base bytes → WhatFits s id m (PlainWhat.Write base bytes) → s.bag id ≡ Some m → s.processes m.to ≡ Some (Alive x) → Sound r e s
    → KernelFits s → KernelFits (with_sent (service.changed s id m (record x { memory = pieces.written_at x.memory base bytes })) (Some (answer_to m PlainWhat.Written)))
write_fits r e s id m x base bytes w f there is h fits =
    let y = record x { memory = pieces.written_at x.memory base bytes } in
    put_fits (service.changed s id m y) (answer_to m PlainWhat.Written)
    (answered_fits (service.changed s id m y) id m (PlainWhat.Write base bytes) PlainWhat.Written (h.entered.named id m there) (h.movers.senders id m there (ap is_of_memory w)) (write_written base bytes)
    (waits_on s id m x y id.n (PlainWhat.Write base bytes) id.from is refl f.1))
    (changed_fits s id m x y is refl (goes_same s m.to x y (written_longer x.memory base bytes) refl refl is fits) fits)

-- a process begins to follow a request to move
noted_fits : (s : OneKernel) (p : Pid) (n : MoveNote) → NoteFits s n → KernelFits s → KernelFits (with_note s p n)
noted_fits s p n new h =
    let t = with_note s p n in
    record {
      processes = h.processes;
      messages = λ i m is. what_on s t i m m.what (λ q k e. e) (λ e. e) (λ kind c. pending_on s t kind i refl) refl refl (h.messages i m is);
      names = h.names;
      answers = h.answers;
      notes = λ q k is. elim (cases_Bool (pid_eq p q)) [
        | inl same ↦
            let f : Some n ≡ Some k = sym (ap (λ (c : Bool). if c then Some n else s.notes q) same) ∙ is in
            let g : n ≡ k = cc in
            subst (NoteFits t) g (note_on s t n refl new)
        | inr apart ↦ note_on s t k refl (h.notes q k (sym (ap (λ (c : Bool). if c then Some n else s.notes q) apart) ∙ is))
      ];
      children = h.children;
    }

pub asked_fits : (s : OneKernel) (id : MsgId) (m : PlainMessage) (machine : ℕ) → WhatFits s id m (PlainWhat.Move machine) → KernelFits s → KernelFits (with_note (without_message s id) m.to (record { id = id; asker = m.sender }))
asked_fits s id m machine f fits = search (arith, noted_fits, m.to, pending_on, out_fits)

pub asked_noted : (s t : OneKernel) (id : MsgId) (m : PlainMessage) → kernel.step s (Label.Asked id) ≡ Some t → s.bag id ≡ Some m → t.noted id ≡ Some m.to
asked_noted s t id m is there = search (arith, bind-is, s.bag, id_eq-same)

-- the request that it followed is answered
unnoted_fits : (s : OneKernel) (p : Pid) (id : MsgId) → KernelFits s → KernelFits (without_note s p id)
unnoted_fits s p id h =
    let t = without_note s p id in
    carries s t (search (arith, h.processes, h.names, h.answers, h.children, pending_on, unnoted)) h
  where
    unnoted : (q : Pid) (n : MoveNote) (c : Bool) → (if c then None else s.notes q) ≡ Some n → s.notes q ≡ Some n
    unnoted q n true e = cc
    unnoted q n false e = e

pub move_ended_fits : (r e : MsgId → ℕ) (s : OneKernel) (id : MsgId) (p : Pid) (n : MoveNote) (o : Outcome) → s.noted id ≡ Some p → s.notes p ≡ Some n → Sound r e s → KernelFits s → KernelFits (service.move_ended s id p n o)
move_ended_fits r e s id p n o noted notes h fits =
    let f = fits.notes p n notes in
    let u = without_note s p id in
    let pending : IsPending s PendingKind.Move id = subst (IsPending s PendingKind.Move) (note-is e s id p n noted notes h.notes) f.pending in
    let k = pending_on s u PendingKind.Move id refl pending in
    put_fits u (record { id = answer_id id; to = n.asker; sender = p; what = PlainWhat.Moved o }) (f.asker, refl, record { from = k.from; pending = k.pending }) (unnoted_fits s p id fits)
