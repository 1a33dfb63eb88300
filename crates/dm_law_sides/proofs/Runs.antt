-- Each step keeps to sides, and so does each run.
use Rattle.dm_law_always.proofs.Names.{◌≡◌, ℕ, ◌+◌, ◌||◌, Bool, true, false, List, [], ◌∷◌, refl, ap, ◌∙◌, sym, subst, is_some, arith, nat_tests, nat_lt, if◌then◌else◌, Option, None, Some, take, drop, Pid, pid_eq, pid_of, PlainLink, MsgId, Boot, IsValid, start, replay}
use Rattle.dm_law_always.proofs.Names.{PlainMessage, PlainWhat, PlainProcess, Alive, Ended, OneKernel, Label, Why, Outcome, MoveNote, Called, with_process, with_sent, with_note, without_message, answer_id, answer_to, switchboard, manager, pid_eq-is, Each, first_number, BootImage, begun}
use Rattle.dm_law_always.proofs.Names.{Sound, KernelFits, Changes, by_step, after_step, start-sound, bind-is, note-is, reception, entry, SlotFits, option_map_or, none_some}
use Rattle.dm_onekernel.specs.Pieces as pieces
use Rattle.dm_onekernel.specs.Receiving as receiving
use Rattle.dm_onekernel.specs.Service as service
use Rattle.dm_onekernel.specs.Step as kernel
use Rattle.dm_law_always.proofs.Fits.Constants.{InOrder, step_constant}
use Rattle.dm_law_always.proofs.Fits.Creates.{fresh_child}
use Rattle.dm_law_always.proofs.Fits.Rises.{set_at}
use Rattle.dm_law_always.proofs.Fits.Start.{fits_step, start_fits}
use Rattle.dm_law_sides.specs.Sides.{Sides, side_of, next_sides, sides_after, is_there, IsOn, Keeping, MessageKeeps, OrderKeeps, PieceKeeps, Keeps, KeepsToSides}
use Rattle.dm_law_sides.proofs.Further.{Further, Holds, holds_of, alive_there, message_further, on_further}
use Rattle.dm_law_sides.proofs.Changes.{out_keeps, put_keeps, set_keeps, end_keeps, set_further, noted_keeps, unnoted_keeps, counted_in, told_counted, counted_side, sides_keep, took_further, took_told, created_further, created_of}
use Rattle.dm_law_sides.proofs.Calls.{next_keeps, same_holds, completing_keeps, lands_keeps, begun_holds, self_on, not_manager}
use Rattle.dm_law_sides.proofs.Servers.{board_keeps, manager_keeps}

-- a message of one that isn't the manager is on its sender's side
side_own : (k : Sides) (id : MsgId) (p : Pid) → id.from ≡ p → pid_eq p manager ≡ false → side_of k id ≡ k.of p
side_own k id p from off = ap (λ (q : Pid). if pid_eq q manager then k.told id.n else k.of q) from ∙ ap (λ (c : Bool). if c then k.told id.n else k.of p) off

-- a process sends, and goes on
sends_on : (s : OneKernel) (k : Sides) (p : Pid) (m : PlainMessage) (y : PlainProcess) → Holds s k (k.of p) y → MessageKeeps s k (k.of p) m m.what → m.id.from ≡ p → pid_eq p manager ≡ false → Keeps s k → Keeps (with_sent (with_process s p (Alive y)) (Some m)) k
sends_on s k p m y holds keeps from off h =
    let t = with_process s p (Alive y) in
    put_keeps t k m (subst (λ i. MessageKeeps t k i m m.what) (sym (side_own k m.id p from off)) (message_further s t k k (k.of p) m m.what (set_further s k p (Alive y)) keeps)) (set_keeps s k p y holds h)

-- a message goes, and its receiver goes on with the links and the area that it had
changed_keeps : (s : OneKernel) (k : Sides) (id : MsgId) (m : PlainMessage) (x y : PlainProcess) → s.processes m.to ≡ Some (Alive x) → y.links ≡ x.links → y.status ≡ x.status → Keeps s k → Keeps (service.changed s id m y) k
changed_keeps s k id m x y is links status h =
    let out = out_keeps s id k h in
    let holds : Holds (without_message s id) k (k.of m.to) y = same_holds (without_message s id) k (k.of m.to) x y links status (holds_of (without_message s id) k m.to x is out) in
    set_keeps (without_message s id) k m.to y holds out

-- a piece is served: the answer goes back
read_keeps : (s : OneKernel) (k : Sides) (id : MsgId) (m : PlainMessage) (x y : PlainProcess) (w : PlainWhat) → s.processes m.to ≡ Some (Alive x) → y.links ≡ x.links → y.status ≡ x.status
    → ((u : OneKernel) (i : ℕ) → PieceKeeps u k i (answer_to m w) → MessageKeeps u k i (answer_to m w) w) → PieceKeeps s k (side_of k m.id) m → Keeps s k → Keeps (with_sent (service.changed s id m y) (Some (answer_to m w))) k
read_keeps s k id m x y w is links status f piece h =
    let u = service.changed s id m y in
    let up : Further (without_message s id) k u k = set_further (without_message s id) k m.to (Alive y) in
    let i = side_of k m.id in
    put_keeps u k (answer_to m w) (f u i (on_further (without_message s id) u k k i m.to up piece.1, on_further (without_message s id) u k k i m.sender up piece.0)) (changed_keeps s k id m x y is links status h)

-- whatever a message for one that has ended is answered with
gone_keeps : (s : OneKernel) (k : Sides) (i : ℕ) (m : PlainMessage) (v w : PlainWhat) → service.gone_what v ≡ Some w → MessageKeeps s k i m v → MessageKeeps s k i (answer_to m w) w
gone_keeps s k i m (PlainWhat.Read base len) w e h = let f : PlainWhat.Gone ≡ w = cc in subst (λ (x : PlainWhat). MessageKeeps s k i (answer_to m x) x) f (h.1, h.0)
gone_keeps s k i m (PlainWhat.Write base bytes) w e h = let f : PlainWhat.Gone ≡ w = cc in subst (λ (x : PlainWhat). MessageKeeps s k i (answer_to m x) x) f (h.1, h.0)
gone_keeps s k i m (PlainWhat.Move machine) w e h = let f : PlainWhat.Moved Outcome.Ended ≡ w = cc in subst (λ (x : PlainWhat). MessageKeeps s k i (answer_to m x) x) f (h.0.0, h.0.1)
gone_keeps s k i m _ w e h = none_some w e

-- a process is made
none_there : (s : OneKernel) (child : Pid) (home : ℕ) → child ≡ pid_of home (first_number + s.made home) → s.processes child ≡ None → is_there s child ≡ false
none_there s child home name none =
    let off : pid_eq child switchboard ≡ false = (let num : child.num ≡ first_number + s.made home = ap (λ (p : Pid). p.num) name in grind (arith, nat_tests)) in
    ap (λ (c : Bool). c || is_some (s.processes child)) off ∙ ap is_some none

created_keeps : (r e : MsgId → ℕ) (s : OneKernel) (k : Sides) (id : MsgId) (child : Pid) (m : PlainMessage) (number : ℕ) (links : List PlainLink) (image : BootImage) → s.bag id ≡ Some m → m.what ≡ PlainWhat.Create number links → child ≡ pid_of m.to.home (first_number + s.made m.to.home)
    → Sound r e s → Keeps s k → Keeps (with_sent (service.with_created (without_message s id) child image links) (Some (answer_to m (PlainWhat.Created child)))) (next_sides s (Label.Created id child) k)
created_keeps r e s k id child m number links image there what name sound h =
    let none = none_there s child m.to.home name (fresh_child r e s child m.to.home name sound) in
    let j = next_sides s (Label.Created id child) k in
    let up = created_further s k id child none in
    let on = sides_keep r e s k j up sound h in
    let message : MessageKeeps s j (side_of j m.id) m (PlainWhat.Create number links) = subst (MessageKeeps s j (side_of j m.id) m) what (on.messages id m there) in
    let side : j.of child ≡ side_of j m.id = created_of s k id child ∙ ap (side_of k) (sym (sound.entered.named id m there)) ∙ sym (counted_side s s k j m.id up (counted_in r e s id m there sound)) in
    let v = without_message s id in
    let y = begun s.format image links in
    let out = out_keeps s id j on in
    let stands = set_keeps v j child y (begun_holds v j (j.of child) s.format image links (subst (λ i. Each (Keeping s j i) links) (sym side) message.1)) out in
    let u = service.with_created v child image links in
    let there_ : is_there u child ≡ true = alive_there (with_process v child (Alive y)) child (Alive y) (set_at v child (Alive y)) in
    put_keeps u j (answer_to m (PlainWhat.Created child)) ((message.0.0, message.0.1), (side, there_))
    (record { links = stands.links; areas = stands.areas; messages = stands.messages; names = stands.names; requests = stands.requests; notes = stands.notes })

-- a process begins to follow a request
asked_keeps : (r e : MsgId → ℕ) (s : OneKernel) (k : Sides) (id : MsgId) (m : PlainMessage) → s.bag id ≡ Some m → OrderKeeps s k (side_of k m.id) m → Sound r e s → Keeps s k → Keeps (with_note (without_message s id) m.to (record { id = id; asker = m.sender })) k
asked_keeps r e s k id m there order sound h =
    let name = sound.entered.named id m there in
    let from : id.from ≡ manager = sym (ap (λ (i : MsgId). i.from) name) ∙ order.0.1 in
    let sent : nat_lt m.id.n s.manager.sent ≡ true = told_counted s m.id (counted_in r e s id m there sound) (ap (λ (p : Pid). pid_eq p manager) order.0.1) in
    noted_keeps (without_message s id) k m.to (record { id = id; asker = m.sender })
    (subst (λ (i : MsgId). IsOn s k (side_of k i) m.to) name order.1, order.0.0, from, subst (λ (i : MsgId). nat_lt i.n s.manager.sent ≡ true) name sent) (out_keeps s id k h)

-- it has followed it
move_ended_keeps : (r e : MsgId → ℕ) (s : OneKernel) (k : Sides) (id : MsgId) (p : Pid) (n : MoveNote) (o : Outcome) → s.noted id ≡ Some p → s.notes p ≡ Some n → Sound r e s → Keeps s k → Keeps (service.move_ended s id p n o) k
move_ended_keeps r e s k id p n o noted notes sound h =
    let note = h.notes p n notes in
    let name : n.id ≡ id = note-is e s id p n noted notes sound.notes in
    put_keeps _ k (record { id = answer_id id; to = n.asker; sender = p; what = PlainWhat.Moved o }) (note.1, sym (ap (λ (i : MsgId). i.from) name) ∙ note.2) (unnoted_keeps s k p id h)

-- the rows of the steps
at_label : (s t : OneKernel) (k : Sides) (l l' : Label) → l ≡ l' → Keeps t (next_sides s l' k) → Keeps t (next_sides s l k)
at_label s t k l l' is h = subst (λ (v : Label). Keeps t (next_sides s v k)) (sym is) h

rows_keep : (r e : MsgId → ℕ) (s : OneKernel) (k : Sides) (l : Label) → Sound r e s → KernelFits s → Keeps s k → Changes (λ t. Keeps t (next_sides s l k)) s l
rows_keep r e s k l sound fits h =
    let made = sound.made in
    let slots : (p : Pid) (x : PlainProcess) → s.processes p ≡ Some (Alive x) → Each (SlotFits s.processes) x.links = λ p x is. (fits.processes p x is).slots in
    let on : (t : OneKernel) (l' : Label) → l ≡ l' → Keeps t (next_sides s l' k) → Keeps t (next_sides s l k) = λ t l' is f. at_label s t k l l' is f in
    let goes : (p : Pid) (y : PlainProcess) → Holds s k (k.of p) y → Keeps (with_process s p (Alive y)) k = λ p y holds. set_keeps s k p y holds h in
    let said : (id : MsgId) (m : PlainMessage) (w : PlainWhat) → s.bag id ≡ Some m → m.what ≡ w → MessageKeeps s k (side_of k m.id) m w = λ id m w there what. subst (MessageKeeps s k (side_of k m.id) m) what (h.messages id m there) in
    record {
      ran = λ p n x m is runs. on (kernel.goes_on s p (kernel.with_machine x m)) (Label.Ran p n) is
          (let holds = holds_of s k p x runs.alive h in goes p (kernel.with_machine x m) (record { links = holds.links; area = holds.area }));
      replies = λ p n c d d' y is w. on (kernel.goes_on s p y) (Label.Call p n d) is (goes p y (next_keeps s k p (kernel.Calls c (Called.Replies d' y)) made (λ x alive. slots p x alive) h w.is));
      sends = λ p id c m y is same w. on (with_sent (kernel.goes_on s p y) (Some m)) (Label.Send p id) is
          (let keeps = next_keeps s k p (kernel.Calls c (Called.Sends m y)) made (λ x alive. slots p x alive) h w.is in
          let (z, sent, pending, counted) = w.so.counts in
          sends_on s k p m y keeps.0 keeps.1 (ap (λ (i : MsgId). i.from) counted.id) (not_manager s p (ap is_some w.so.is.alive) made) h);
      waits = λ p c y is w. on (kernel.goes_on s p y) (Label.Wait p) is (goes p y (next_keeps s k p (kernel.Calls c (Called.Waits y)) made (λ x alive. slots p x alive) h w.is));
      outputs = λ p word c v y is w. on (kernel.goes_on s p y) (Label.Out p word) is (goes p y (next_keeps s k p (kernel.Calls c (Called.Outputs v y)) made (λ x alive. slots p x alive) h w.is));
      ends = λ p y next is w. on (with_process s p (Ended y)) (Label.End p y) is (end_keeps s k p y h);
      receives = λ p id y is c e. on (kernel.goes_on (without_message s id) p y) (Label.Receive p id) is
          (let holds : Holds s k (k.of p) y = completing_keeps s k p id (receiving.Receives y) made h e in
          set_keeps (without_message s id) k p y (record { links = holds.links; area = holds.area }) (out_keeps s id k h));
      refuses = λ p id c d y is w e. on (kernel.goes_on s p y) (Label.Refuse p id c) is (goes p y (completing_keeps s k p id (receiving.Refuses d y) made h e));
      dropped = λ id m y is w off. on (without_message s id) (Label.Dropped id) is (out_keeps s id k h);
      gone = λ id m y is w v answer. on (with_sent (without_message s id) (Some (answer_to m v))) (Label.Gone id) is
          (put_keeps (without_message s id) k (answer_to m v) (gone_keeps s k (side_of k m.id) m m.what v answer (h.messages id m w.there)) (out_keeps s id k h));
      stops = λ id m x b is w mild. on (service.changed s id m (record x { stopped = b })) (Label.Served id) is (changed_keeps s k id m x (record x { stopped = b }) w.alive refl refl h);
      kills = λ id m x is w kill. on (with_process (without_message s id) m.to (Ended Why.Killed)) (Label.Served id) is (end_keeps (without_message s id) k m.to Why.Killed (out_keeps s id k h));
      reads = λ id m x base len is w read. on (with_sent (service.changed s id m x) (Some (answer_to m (PlainWhat.Block (take len (drop base x.memory)))))) (Label.Served id) is
          (read_keeps s k id m x x (PlainWhat.Block (take len (drop base x.memory))) w.alive refl refl (λ u i f. f) (said id m (PlainWhat.Read base len) w.there read) h);
      writes = λ id m x base bytes is w write. on (with_sent (service.changed s id m (record x { memory = pieces.written_at x.memory base bytes })) (Some (answer_to m PlainWhat.Written))) (Label.Served id) is
          (read_keeps s k id m x (record x { memory = pieces.written_at x.memory base bytes }) PlainWhat.Written w.alive refl refl (λ u i f. f) (said id m (PlainWhat.Write base bytes) w.there write) h);
      lands = λ id m x n y is w mild last. on (with_sent (service.changed s id m y) (Some n)) (Label.Served id) is
          (let keeps = lands_keeps s k (k.of m.to) m.to x m x.status (pieces.Next n y) (h.links m.to x w.alive) (self_on s k m.to x w.alive) (h.areas m.to x w.alive) last in
          let v = without_message s id in
          sends_on v k m.to n y (record { links = keeps.0.links; area = keeps.0.area }) keeps.1 keeps.2 (not_manager s m.to (ap is_some w.alive) made) (out_keeps s id k h));
      done = λ id m x c y is w mild last. on (service.changed s id m y) (Label.Served id) is
          (let keeps : Holds s k (k.of m.to) y = lands_keeps s k (k.of m.to) m.to x m x.status (pieces.Done c y) (h.links m.to x w.alive) (self_on s k m.to x w.alive) (h.areas m.to x w.alive) last in
          set_keeps (without_message s id) k m.to y (record { links = keeps.links; area = keeps.area }) (out_keeps s id k h));
      board = λ id m t is there to took. on (service.switchboard_took s id t) (Label.Took id) is
          (let j = next_sides s (Label.Took id) k in
          let f = sides_keep r e s k j (took_further s k id) sound h in
          board_keeps s j id m m.what t to (f.messages id m there) took f);
      manager = λ id m t is there to took. on (service.manager_took s id t) (Label.Took id) is
          (let j = next_sides s (Label.Took id) k in
          let f = sides_keep r e s k j (took_further s k id) sound h in
          let new : j.told s.manager.sent ≡ side_of j m.id =
          took_told s k id ∙ ap (side_of k) (sym (sound.entered.named id m there)) ∙ sym (counted_side s s k j m.id (took_further s k id) (counted_in r e s id m there sound)) in
          manager_keeps s j id m t to new (f.messages id m there) took f);
      creates = λ id child m number links image is w found name. on (with_sent (service.with_created (without_message s id) child image links) (Some (answer_to m (PlainWhat.Created child)))) (Label.Created id child) is
          (created_keeps r e s k id child m number links image w.there w.what (pid_eq-is child (pid_of m.to.home (first_number + s.made m.to.home)) name) sound h);
      no_room = λ id a b m number links is w. on (with_sent (without_message s id) (Some (answer_to m PlainWhat.NoRoom))) (Label.NoSpace id a b) is
          (let f = said id m (PlainWhat.Create number links) w.there w.what in put_keeps (without_message s id) k (answer_to m PlainWhat.NoRoom) (f.0.0, f.0.1) (out_keeps s id k h));
      asked = λ id m x machine is w move. on (with_note (without_message s id) m.to (record { id = id; asker = m.sender })) (Label.Asked id) is
          (asked_keeps r e s k id m w.there (said id m (PlainWhat.Move machine) w.there move) sound h);
      answered = λ id o p n is w. on (service.move_ended s id p n o) (Label.Answered id o) is (move_ended_keeps r e s k id p n o w.noted w.notes sound h);
    }

pub keeps_step : (r e : MsgId → ℕ) (s t : OneKernel) (k : Sides) (l : Label) → kernel.step s l ≡ Some t → Sound r e s → KernelFits s → Keeps s k → Keeps t (next_sides s l k)
keeps_step r e s t k l is sound fits h = by_step (λ (v : OneKernel). Keeps v (next_sides s l k)) s t l (rows_keep r e s k l sound fits h) is

-- all that a run carries
pub record Carried (s : OneKernel) (k : Sides) : Type 0 where
  pub r : MsgId → ℕ
  pub e : MsgId → ℕ
  pub sound : Sound r e s
  pub order : InOrder s.manager
  pub fits : KernelFits s
  pub keeps : Keeps s k

pub carried_step : (s t : OneKernel) (k : Sides) (l : Label) → kernel.step s l ≡ Some t → Carried s k → Carried t (next_sides s l k)
carried_step s t k l is c = record {
  r = λ i. c.r i + reception i l;
  e = λ i. c.e i + entry i s t;
  sound = (after_step c.r c.e s t l is c.sound).sound;
  order = (step_constant s t l is).pending c.order;
  fits = fits_step c.r c.e s t l is c.sound c.order c.fits;
  keeps = keeps_step c.r c.e s t k l is c.sound c.fits c.keeps;
}

pub carried_run : (ls : List Label) (s t : OneKernel) (k : Sides) → replay s ls ≡ Some t → Carried s k → Carried t (sides_after s ls k)
carried_run [] s t k is c = let f : s ≡ t = cc in subst (λ (v : OneKernel). Carried v k) f c
carried_run (l ∷ ls) s t k is c =
    let (u, first, rest) = bind-is (kernel.step s l) (λ (v : OneKernel). replay v ls) t is in
    let same : sides_after u ls (next_sides s l k) ≡ sides_after s (l ∷ ls) k = sym (ap (λ (o : Option OneKernel). option_map_or (λ v. sides_after v ls (next_sides s l k)) o k) first) in
    subst (Carried t) same (carried_run ls u t (next_sides s l k) rest (carried_step s u k l first c))

pub carried_start : (b : Boot) (k : Sides) → IsValid b → Keeps (start b) k → Carried (start b) k
carried_start b k valid h = record { r = λ i. 0; e = λ i. 0; sound = start-sound b valid; order = refl; fits = start_fits b valid; keeps = h }

pub keeps_to_sides : KeepsToSides
keeps_to_sides b ls s k valid h is = (carried_run ls (start b) s k is (carried_start b k valid h)).keeps
