-- Each step keeps what the messages of data moves say.
use Rattle.dm_law_moves.proofs.Names.{◌≡◌, ℕ, ◌+◌, ◌==◌, true, false, List, [], ◌∷◌, refl, ap, ◌∙◌, sym, subst, arith, Option, None, Some, nat_tests, Pid, MsgId, id_of, PlainMessage, PlainWhat, Direction, Boot, Label, PlainProcess}
use Rattle.dm_law_moves.proofs.Names.{PlainStatus, Moving, Life, Alive, OneKernel, answer_id, is_of_memory, replay, Step, Point, labels, entry, reception, is_piece, pending_of, after_step, Sound, bind-is, piece_fits, status_awaits, WhatFits}
use Rattle.dm_law_moves.proofs.Names.{KernelFits, based_always, both, fits_step, group_replay, Based, HasEnded, HasPiece, MoversHavePieces, Spelled, group_of, InOrder, step_constant, ◌⊎◌, Bool, length, take, drop, inl, inr, ⊤, if◌then◌else◌}
use Rattle.dm_law_moves.proofs.Names.{PlainLink, switchboard, manager, Reply, Why, with_process, with_sent, Called, Sends, answer_to, first_failed, without_message, ServerSends, board_takes_lem, manager_takes_lem, lands-is, by_step, Lives}
use Rattle.dm_law_moves.proofs.Names.{Grown, stayed, came, Outcome, without_note, answers_piece, asks_piece, plain_kind, Ended, none_some}
use Rattle.dm_law_always.proofs.Names.{awaits}
use Rattle.dm_law_moves.specs.Movers.{Moves}
use Rattle.dm_law_rule.proofs.Names.{begun}
use Rattle.dm_law_moves.proofs.Movers.Says.{other_end, Begins, StatusSays, Says, AllSay, fresh_says, out_says, other_says, answer_says, Requests, request_says, set_says, unawaited_says}
use Rattle.dm_law_moves.proofs.After.{keeps_always}
use Rattle.dm_onekernel.specs.Step as kernel
use Rattle.dm_onekernel.specs.Calls as calls
use Rattle.dm_onekernel.specs.Pieces as pieces
use Rattle.dm_onekernel.specs.Service as service

-- what a call sends: no message of a data move, or the request for its first piece
abbrev CallSends : Pid → Called → Type 0
CallSends p (Sends m y) = (other_end m m.what ≡ None) ⊎ Requests p m y
CallSends p _ = ⊤

unless_sends : (p : Pid) (x : PlainProcess) (o : Option Reply) (c : Called) → CallSends p c → CallSends p (calls.unless_refused o x c)
unless_sends p x o c h = grind (arith, nat_tests)

sends_sends : (p : Pid) (x : PlainProcess) (o : Option PlainLink) → CallSends p (calls.send_call p x o)
sends_sends p x None = tt
sends_sends p x (Some l) = unless_sends p x (first_failed (calls.send_refusals x)) (Sends (calls.message_over p x l) (calls.after_send x)) (inl refl)

-- and the next instruction
abbrev NextSends : Pid → kernel.Trap → Type 0
NextSends p (kernel.Calls number called) = CallSends p called
NextSends p (kernel.Faults fault) = ⊤

next_sends : (s : OneKernel) (p : Pid) (n : kernel.Trap) → kernel.next_trap s p ≡ Some n → NextSends p n
next_sends s p n e =
    let moves_sends : (p : Pid) (x : PlainProcess) (o : Option PlainLink) → CallSends p (calls.move_call p x o) = λ p x o.
    let moves_over_sends : (p : Pid) (x : PlainProcess) (l : PlainLink) (o : Option Direction) → CallSends p (calls.moves_over p x l o) = λ p x l o. grind (arith, nat_tests, unless_sends) in
    grind (arith, nat_tests, moves_over_sends) in
    let if_sends : (p : Pid) (b : Bool) (c d : Called) → CallSends p c → CallSends p d → CallSends p (if b then c else d) = λ p b c d h k. grind (arith, nat_tests) in
    let drops_sends : (p : Pid) (x : PlainProcess) (o : Option PlainLink) → CallSends p (calls.drop_call x o) = λ p x o. grind (arith, nat_tests) in
    search (arith, bind-is, unless_sends, drops_sends, sends_sends, if_sends, moves_sends)

-- what a landing sends
abbrev LandsSends : Pid → pieces.Landed → Type 0
LandsSends p (pieces.Next m y) = Requests p m y
LandsSends p (pieces.Done c y) = ⊤

goes_on_sends : (p : Pid) (z : PlainProcess) (dir : Direction) (owner : Pid) (base own left : ℕ) (b : Bool) → LandsSends p (if b then pieces.done Reply.Done z else pieces.next_request (pieces.requests p z dir owner base own left))
goes_on_sends p z dir owner base own left b = grind (arith, nat_tests)

if_lands : (p : Pid) (b : Bool) (k c : pieces.Landed) → LandsSends p k → (if b then Some k else None) ≡ Some c → LandsSends p c
if_lands p b k c h e = grind (arith, nat_tests)

lands_what_sends : (p : Pid) (x : PlainProcess) (dir : Direction) (owner : Pid) (base own left : ℕ) (w : PlainWhat) (c : pieces.Landed) → pieces.lands_what p x dir owner base own left w ≡ Some c → LandsSends p c
lands_what_sends p x Direction.FromArea owner base own left (PlainWhat.Block bytes) c e = search (if_lands, goes_on_sends)
lands_what_sends p x Direction.IntoArea owner base own left PlainWhat.Written c e = search (if_lands, goes_on_sends)
lands_what_sends p x Direction.FromArea owner base own left PlainWhat.Gone c e = let f : pieces.done Reply.Gone x ≡ c = cc in subst (LandsSends p) f tt
lands_what_sends p x Direction.IntoArea owner base own left PlainWhat.Gone c e = let f : pieces.done Reply.Gone x ≡ c = cc in subst (LandsSends p) f tt
lands_what_sends p x _ owner base own left w c e = none_some c e

if_lands_what : (p : Pid) (x : PlainProcess) (b : Bool) (dir : Direction) (owner : Pid) (base own left : ℕ) (w : PlainWhat) (c : pieces.Landed) → (if b then pieces.lands_what p x dir owner base own left w else None) ≡ Some c → LandsSends p c
if_lands_what p x b dir owner base own left w c e = grind (arith, nat_tests, lands_what_sends)

pub memory_end : (m : PlainMessage) (w : PlainWhat) → is_of_memory w ≡ true → other_end m w ≡ Some m.to
memory_end m w e = grind (arith, nat_tests)

-- the answer of a receiver that has ended
gone_says : (s : OneKernel) (id : MsgId) (m : PlainMessage) (v : PlainWhat) → m.id ≡ id → s.bag id ≡ Some m → (w : PlainWhat) → m.what ≡ w → service.gone_what w ≡ Some v → AllSay s
    → AllSay (with_sent (without_message s id) (Some (answer_to m v)))
gone_says s id m v name there (PlainWhat.Read base len) is e h =
    let f : PlainWhat.Gone ≡ v = cc in
    subst (λ (x : PlainWhat). AllSay (with_sent (without_message s id) (Some (answer_to m x)))) f (answer_says (without_message s id) id m PlainWhat.Gone name (h id m m.to there (memory_end m m.what (ap is_of_memory is))) refl (λ a b. tt) (out_says s id h))
gone_says s id m v name there (PlainWhat.Write base bytes) is e h =
    let f : PlainWhat.Gone ≡ v = cc in
    subst (λ (x : PlainWhat). AllSay (with_sent (without_message s id) (Some (answer_to m x)))) f (answer_says (without_message s id) id m PlainWhat.Gone name (h id m m.to there (memory_end m m.what (ap is_of_memory is))) refl (λ a b. tt) (out_says s id h))
gone_says s id m v name there (PlainWhat.Move machine) is e h =
    let f : PlainWhat.Moved Outcome.Ended ≡ v = cc in
    subst (λ (x : PlainWhat). AllSay (with_sent (without_message s id) (Some (answer_to m x)))) f (other_says (without_message s id) (answer_to m (PlainWhat.Moved Outcome.Ended)) refl (out_says s id h))
gone_says s id m v name there _ is e h = none_some v e

-- every step
pub step_says : (r e : MsgId → ℕ) (s t : OneKernel) (l : Label) → kernel.step s l ≡ Some t → Sound r e s → KernelFits t → AllSay s → AllSay t
step_says r e s t l is_ sound =
    -- a process goes on waiting for the same
    -- what a server sends
    -- it waits for nothing
    let still_says : (s : OneKernel) (p : Pid) (y : PlainProcess) → pending_of y.status ≡ None → AllSay s → AllSay (with_process s p (Alive y)) =
    λ s p y still h. set_says s p (Alive y) (λ i m q there from k. unawaited_says y.status i.n q m.what (λ e. let f : None ≡ Some i.n = sym still ∙ e in cc)) h in
    let server_says : (u : OneKernel) (p : Pid) (o : Option PlainMessage) (n after : ℕ) → ServerSends p n o after → AllSay u → AllSay (with_sent u o) = λ u p o n after sends h. grind (arith, nat_tests, other_says) in
    let lands_sends : (p : Pid) (x : PlainProcess) (m : PlainMessage) (st : PlainStatus) (c : pieces.Landed) → pieces.lands p x m st ≡ Some c → LandsSends p c = λ p x m st c e. grind (arith, nat_tests, if_lands_what) in
    let same_says : (s : OneKernel) (p : Pid) (x y : PlainProcess) → s.processes p ≡ Some (Alive x) → y.status ≡ x.status → AllSay s → AllSay (with_process s p (Alive y)) = λ s p x y is status h. grind (arith, nat_tests, set_says) in
    let answered : (id : MsgId) (m : PlainMessage) (x y : PlainProcess) (w : PlainWhat) → Lives s id m x → y.status ≡ x.status → other_end m m.what ≡ Some m.to → other_end (answer_to m w) w ≡ Some m.to → ((base left : ℕ) → Begins base left w) → AllSay s
    → AllSay (with_sent (service.changed s id m y) (Some (answer_to m w))) = λ id m x y w v same asked end starts h. (
    let on : AllSay (with_process s m.to (Alive y)) = same_says s m.to x y v.alive same h in
    answer_says (service.changed s id m y) id m w (sound.entered.named id m v.there) (on id m m.to v.there asked) end starts (out_says (with_process s m.to (Alive y)) id on)
    ) in
    let ended_says : (s : OneKernel) (p : Pid) (y : Why) → AllSay s → AllSay (with_process s p (Ended y)) = λ s p y h. set_says s p (Ended y) (λ i m q there from k. tt) h in
    by_step (λ u. KernelFits u → AllSay s → AllSay u) s t l (record {
      ran = λ p k x m is w fits h. same_says s p x (kernel.with_machine x m) w.alive refl h;
      replies = λ p n k c d y is w fits h. (let (z, sent, pending, counted) = w.so.counts in still_says s p y (counted.1 ∙ pending ∙ w.so.is.still) h);
      sends = λ p id k m y is same w fits h.
          (let (z, sent, pending, counted) = w.so.counts in
          let from : m.id.from ≡ p = ap (λ (i : MsgId). i.from) counted.id in
          let on : AllSay (kernel.goes_on s p y) = elim counted.is [
            | inl a ↦ still_says s p y (a.1 ∙ pending ∙ w.so.is.still) h
            | inr a ↦ fresh_says r e s p w.so.x y w.so.is.alive (a.1 ∙ ap Some sent) sound h
          ] in
          elim (next_sends s p (kernel.Calls k (calls.Sends m y)) w.is) [
            | inl none ↦ other_says (kernel.goes_on s p y) m none on
            | inr asks ↦ request_says s p m y asks from fits on
          ]);
      waits = λ p k y is w fits h. (let (z, sent, pending, counted) = w.so.counts in still_says s p y counted.1 h);
      outputs = λ p word k v y is w fits h. (let (z, sent, pending, counted) = w.so.counts in still_says s p y (counted.1 ∙ pending ∙ w.so.is.still) h);
      ends = λ p y next is w fits h. ended_says s p y h;
      receives = λ p id y is w c fits h. still_says (without_message s id) p y w.is.1 (out_says s id h);
      refuses = λ p id c d y is w f fits h. still_says s p y w.is.1 h;
      dropped = λ id m y is w f fits h. out_says s id h;
      gone = λ id m y is w v f fits h. gone_says s id m v (sound.entered.named id m w.there) w.there m.what refl f h;
      asked = λ id m x machine is w f fits h. out_says s id h;
      answered = λ id o p n is f fits h. other_says (without_note s p id) (record { id = answer_id id; to = n.asker; sender = p; what = PlainWhat.Moved o }) refl h;
      stops = λ id m x b is w f fits h. same_says (without_message s id) m.to x (record x { stopped = b }) w.alive refl (out_says s id h);
      kills = λ id m x is w f fits h. ended_says (without_message s id) m.to Why.Killed (out_says s id h);
      reads = λ id m x base len is w f fits h. answered id m x x (PlainWhat.Block (take len (drop base x.memory))) w refl (ap (other_end m) f) refl (λ a b. tt) h;
      writes = λ id m x base bytes is w f fits h. answered id m x (record x { memory = pieces.written_at x.memory base bytes }) PlainWhat.Written w refl (ap (other_end m) f) refl (λ a b. tt) h;
      lands = λ id m x r_ y is w f c fits h.
          (let so = lands-is m.to x m x.status (pieces.Next r_ y) c in
          let from : r_.id.from ≡ m.to = ap (λ (i : MsgId). i.from) so.0.id in
          let waits : pending_of y.status ≡ Some x.sent = elim so.0.is [
            | inl a ↦ let f : false ≡ true = sym a.0 ∙ so.1 in cc
            | inr a ↦ a.1
          ] in
          let on : AllSay (with_process s m.to (Alive y)) = fresh_says r e s m.to x y w.alive waits sound h in
          request_says (without_message s id) m.to r_ y (lands_sends m.to x m x.status (pieces.Next r_ y) c) from fits (out_says (with_process s m.to (Alive y)) id on));
      done = λ id m x c y is w f g fits h. still_says (without_message s id) m.to y (lands-is m.to x m x.status (pieces.Done c y) g).1 (out_says s id h);
      board = grind (arith, nat_tests, server_says, board_takes_lem, out_says);
      manager = λ id m k is there c took fits h.
          server_says (record (without_message s id) { manager = k.manager }) manager k.message s.manager.sent k.manager.sent (manager_takes_lem s.manager s.machines (length s.images) m m.what k took).2.sends (out_says s id h);
      creates = λ id child m image links i is w found name fits h.
          other_says (service.with_created (without_message s id) child i links) (answer_to m (PlainWhat.Created child)) refl (still_says (without_message s id) child (begun s.format i links) refl (out_says s id h));
      no_room = λ id a b m image links is w fits h. other_says (without_message s id) (answer_to m PlainWhat.NoRoom) refl (out_says s id h);
    }) is_

-- each message that says that its sender has ended
abbrev pub GoneEnded : OneKernel → Type 0
GoneEnded s = (i : MsgId) (m : PlainMessage) → s.bag i ≡ Some m → m.what ≡ PlainWhat.Gone → HasEnded s m.sender

-- what is in the bag behind a step was there, or is no such message, or a right one
abbrev Came : OneKernel → OneKernel → Type 0
Came s t = (i : MsgId) (m : PlainMessage) → t.bag i ≡ Some m → (s.bag i ≡ Some m) ⊎ (m.what ≡ PlainWhat.Gone → HasEnded t m.sender)

put_came : (s u : OneKernel) (x : PlainMessage) → ((i : MsgId) (m : PlainMessage) → u.bag i ≡ Some m → s.bag i ≡ Some m) → (x.what ≡ PlainWhat.Gone → HasEnded u x.sender) → Came s (with_sent u (Some x))
put_came s u x sub f i m k = elim (came u x m i k) [
  | inl is ↦ inr (λ g. subst (λ (z : PlainMessage). HasEnded u z.sender) is.0 (f (ap (λ (z : PlainMessage). z.what) is.0 ∙ g)))
  | inr was ↦ inl (sub i m was)
]

no_piece : (v : PlainWhat) (s : OneKernel) (p : Pid) → is_piece v ≡ false → v ≡ PlainWhat.Gone → HasEnded s p
no_piece v s p e g = let f : false ≡ true = sym e ∙ ap is_piece g in cc

server_came : (s u : OneKernel) (p : Pid) (o : Option PlainMessage) (n after : _) → ServerSends p n o after → ((i : MsgId) (m : PlainMessage) → u.bag i ≡ Some m → s.bag i ≡ Some m) → Came s (with_sent u o)
server_came s u p None n after sends sub = λ i m k. inl (sub i m k)
server_came s u p (Some x) n after sends sub = put_came s u x sub (no_piece x.what u x.sender sends.3)

step_came : (s t : OneKernel) (l : Label) → kernel.step s l ≡ Some t → Came s t
step_came s t l = by_step (Came s) s t l (record {
  ran = λ p k x m is w i z there. inl there;
  replies = λ p n k c d y is w i z there. inl there;
  sends = λ p id k m y is same w.
      (let (z, sent, pending, counted) = w.so.counts in
      put_came s (kernel.goes_on s p y) m (λ i x there. there) (no_piece m.what (kernel.goes_on s p y) m.sender counted.piece));
  waits = λ p k y is w i z there. inl there;
  outputs = λ p w k v y is n i z there. inl there;
  ends = λ p y next is w i z there. inl there;
  receives = λ p id y is w c i z there. inl (stayed s id i z there);
  refuses = λ p id c d y is w e i z there. inl there;
  dropped = λ id m y is w e i z there. inl (stayed s id i z there);
  gone = λ id m y is w v e. put_came s (without_message s id) (answer_to m v) (stayed s id) (λ g. (y, w.ended));
  asked = λ id m x machine is w e i z there. inl (stayed s id i z there);
  answered = λ id o p n is f. put_came s (without_note s p id) (record { id = answer_id id; to = n.asker; sender = p; what = PlainWhat.Moved o }) (λ i x there. there) (λ g. cc);
  stops = λ id m x b is w e i z there. inl (stayed s id i z there);
  kills = λ id m x is w e i z there. inl (stayed s id i z there);
  reads = λ id m x base len is w e. put_came s (service.changed s id m x) (answer_to m (PlainWhat.Block (take len (drop base x.memory)))) (stayed s id) (λ g. cc);
  writes = λ id m x base bytes is w e. put_came s (service.changed s id m (record x { memory = pieces.written_at x.memory base bytes })) (answer_to m PlainWhat.Written) (stayed s id) (λ g. cc);
  lands = λ id m x r y is w e c. put_came s (service.changed s id m y) r (stayed s id) (no_piece r.what (service.changed s id m y) r.sender (lands-is m.to x m x.status (pieces.Next r y) c).0.piece);
  done = λ id m x c y is w e f i z there. inl (stayed s id i z there);
  board = λ id m k is there c took. server_came s (record (without_message s id) { switchboard = k.switchboard }) switchboard k.answer s.switchboard.sent k.switchboard.sent (board_takes_lem s.switchboard m m.what k took).2 (stayed s id);
  manager = λ id m k is there c took.
      server_came s (record (without_message s id) { manager = k.manager }) manager k.message s.manager.sent k.manager.sent (manager_takes_lem s.manager s.machines (length s.images) m m.what k took).2.sends (stayed s id);
  creates = λ id child m image links i is w found name. put_came s (service.with_created (without_message s id) child i links) (answer_to m (PlainWhat.Created child)) (stayed s id) (λ g. cc);
  no_room = λ id a b m image links is w. put_came s (without_message s id) (answer_to m PlainWhat.NoRoom) (stayed s id) (λ g. cc);
})

-- whoever has ended stays so
pub step_gone : (s t : OneKernel) (l : Label) → kernel.step s l ≡ Some t → Grown s t → GoneEnded s → GoneEnded t
step_gone s t l is grown h i m there gone = elim (step_came s t l is i m there) [
  | inl was ↦ let (y, ended) = h i m was gone in (y, (let e_ : (t.processes m.sender) ≡ Some (Ended y) = grind (arith, nat_tests, grown.lives m.sender) in e_))
  | inr new ↦ new gone
]

-- Wherever the rule leads, each living process that moves data has the message that its status says.

-- a run
replay_says : (ls : List Label) (r e : MsgId → ℕ) (s t : OneKernel) → replay s ls ≡ Some t → KernelFits s → InOrder s.manager → Sound r e s → AllSay s × GoneEnded s → AllSay t × GoneEnded t
replay_says [] r e s t is fits order sound h = let f : s ≡ t = cc in subst (λ (x : OneKernel). AllSay x × GoneEnded x) f h
replay_says (l ∷ ls) r e s t is fits order sound h =
    let (u, first, rest) = bind-is (kernel.step s l) (λ (x : OneKernel). replay x ls) t is in
    let next = fits_step r e s u l first sound order fits in
    let after = after_step r e s u l first sound in
    replay_says ls (λ i. r i + reception i l) (λ i. e i + entry i s u) u t rest next ((step_constant s u l first).pending order) after.sound (step_says r e s u l first sound next h.0, step_gone s u l first after.grown h.1)

-- what fits is awaited
memory_awaits : (s : OneKernel) (i : MsgId) (m : PlainMessage) (w : PlainWhat) → is_of_memory w ≡ true → WhatFits s i m w → awaits (s.processes i.from) i.n w ≡ true
memory_awaits s i m w e h = grind (arith, nat_tests)

piece_awaits : (s : OneKernel) (i : MsgId) (m : PlainMessage) (w : PlainWhat) → is_piece w ≡ true → WhatFits s i m w → awaits (s.processes i.from) i.n w ≡ true
piece_awaits s i m w e h = grind (arith, nat_tests)

-- what a mover's status says of what it waits for
status_fits : (st : PlainStatus) (dir : Direction) (owner : Pid) (base own left pending n : ℕ) (w : PlainWhat) → st ≡ Moving dir owner base own left pending → status_awaits st n w ≡ true → piece_fits dir left w ≡ true
status_fits st dir owner base own left pending n w is h = (both (n == pending) (piece_fits dir left w) (sym (ap (λ (v : PlainStatus). status_awaits v n w) is) ∙ h)).1

says_is : (st : PlainStatus) (dir : Direction) (owner : Pid) (base own left pending : ℕ) (q : Pid) (w : PlainWhat) → st ≡ Moving dir owner base own left pending → StatusSays st pending q w → (q ≡ owner) × Begins base left w
says_is st dir owner base own left pending q w is h = subst (λ (v : PlainStatus). StatusSays v pending q w) is h refl

has_piece : (r e : MsgId → ℕ) (s : OneKernel) (p : Pid) (x : PlainProcess) (dir : Direction) (owner : Pid) (base own left pending : ℕ) → s.processes p ≡ Some (Alive x) → x.status ≡ Moving dir owner base own left pending → Sound r e s → KernelFits s → AllSay s → GoneEnded s
    → HasPiece s p dir owner base left pending
has_piece r e s p x dir owner base own left pending alive status sound fits says gone =
    let i = id_of p pending in
    let j = answer_id i in
    let one = sound.movers.mover p x pending alive (ap pending_of status) in
    record {
      one = grind (arith, nat_tests);
      request = λ m there.
          let memory : is_of_memory m.what ≡ true = grind (arith, nat_tests) in
          let waits : status_awaits x.status pending m.what ≡ true = sym (ap (λ (o : Option Life). awaits o pending m.what) alive) ∙ memory_awaits s i m m.what memory (fits.messages i m there) in
          let said : StatusSays x.status pending m.to m.what = subst (λ (o : Option Life). Says o pending m.to m.what) alive (says i m m.to there (memory_end m m.what memory)) in
          let k = says_is x.status dir owner base own left pending m.to m.what status said in
          record {
            sender = sound.movers.senders i m there memory;
            receiver = k.0;
            asks = grind (arith, nat_tests, (status_fits x.status dir owner base own left pending pending m.what status waits), k.1);
          };
      answer = λ m there.
          let piece : is_piece m.what ≡ true = grind (arith, nat_tests) in
          let waits : status_awaits x.status pending m.what ≡ true = sym (ap (λ (o : Option Life). awaits o pending m.what) alive) ∙ piece_awaits s j m m.what piece (fits.messages j m there) in
          let said : StatusSays x.status pending m.sender m.what = subst (λ (o : Option Life). Says o pending m.sender m.what) alive (says j m m.sender there (grind (arith, nat_tests))) in
          let sender = (says_is x.status dir owner base own left pending m.sender m.what status said).0 in
          (search (arith, sound.movers.returns, status_fits, x.status));
    }

moves_by : (p : Pid) (x : PlainProcess) (i : MsgId) (st : PlainStatus) (w : PlainWhat) → x.status ≡ st → status_awaits st i.n w ≡ true → Moves p x (id_of p i.n)
moves_by p x i st w is h = grind (arith, nat_tests)

requests_move : (r e : MsgId → ℕ) (s : OneKernel) (i : MsgId) (m : PlainMessage) (x : PlainProcess) → s.bag i ≡ Some m → is_of_memory m.what ≡ true → s.processes m.sender ≡ Some (Alive x) → Sound r e s → KernelFits s → Moves m.sender x i
requests_move r e s i m x there memory alive sound fits =
    let sender : m.sender ≡ i.from = sound.movers.senders i m there memory in
    let asked : i.answer ≡ false = sound.movers.requests i m there memory in
    let lives : s.processes i.from ≡ Some (Alive x) = sym (ap s.processes sender) ∙ alive in
    let waits : status_awaits x.status i.n m.what ≡ true = sym (ap (λ (o : Option Life). awaits o i.n m.what) lives) ∙ memory_awaits s i m m.what memory (fits.messages i m there) in
    let name : id_of m.sender i.n ≡ i = λ j. record { from = sender j; n = i.n; answer = sym asked j } in
    subst (Moves m.sender x) name (moves_by m.sender x i x.status m.what refl waits)

answers_move : (r e : MsgId → ℕ) (s : OneKernel) (i : MsgId) (m : PlainMessage) (x : PlainProcess) → s.bag i ≡ Some m → is_piece m.what ≡ true → s.processes m.to ≡ Some (Alive x) → Sound r e s → KernelFits s → (q : MsgId) × (i ≡ answer_id q) × Moves m.to x q
answers_move r e s i m x there piece alive sound fits =
    let back = sound.movers.returns i m there piece in
    let lives : s.processes i.from ≡ Some (Alive x) = sym (ap s.processes back.0) ∙ alive in
    let waits : status_awaits x.status i.n m.what ≡ true = sym (ap (λ (o : Option Life). awaits o i.n m.what) lives) ∙ piece_awaits s i m m.what piece (fits.messages i m there) in
    let name : i ≡ answer_id (id_of m.to i.n) = λ j. record { from = sym back.0 j; n = i.n; answer = back.1 j } in
    (id_of m.to i.n, name, moves_by m.to x i x.status m.what refl waits)

-- wherever the rule leads
pub movers_have_pieces : MoversHavePieces
movers_have_pieces b es pt valid leads =
    -- messages of kinds
    let kind_memory : (w : PlainWhat) → asks_piece (plain_kind w) ≡ true → is_of_memory w ≡ true = λ w e. grind (arith, nat_tests) in
    let kind_piece : (w : PlainWhat) → answers_piece (plain_kind w) ≡ true → is_piece w ≡ true = λ w e. grind (arith, nat_tests) in
    let based = based_always b es pt valid leads in
    let s = pt.kernel in
    let sane = based.phased.sane in
    let says_on : (b : Boot) (pt : Point) (d : Step) (w : Spelled) → group_of b pt d ≡ Some w → Based b pt → AllSay pt.kernel × GoneEnded pt.kernel → AllSay w.point.kernel × GoneEnded w.point.kernel =
    λ b pt d w is based h. let sane = based.phased.sane in replay_says (labels w.lines) sane.r sane.e pt.kernel w.point.kernel (group_replay b pt d w is) based.fits based.pending sane.sound h in
    let says = keeps_always b (λ q. AllSay q.kernel × GoneEnded q.kernel) (λ q d w fit is run h. says_on b q d w is run.based h) valid (λ i m q there e. absurd (let f : None ≡ Some m = there in cc), λ i m there e. absurd (let f : None ≡ Some m = there in cc)) es pt leads in
    record {
      has = λ p x dir owner base own left pending alive status. has_piece sane.r sane.e s p x dir owner base own left pending alive status sane.sound based.fits says.0 says.1;
      requests = λ i m x there e alive. requests_move sane.r sane.e s i m x there (kind_memory m.what e) alive sane.sound based.fits;
      answers = λ i m x there e alive. answers_move sane.r sane.e s i m x there (kind_piece m.what e) alive sane.sound based.fits;
    }
