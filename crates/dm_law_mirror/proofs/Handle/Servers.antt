-- What the servers send has a plain meaning.
use Rattle.dm_law_mirror.proofs.Names.{◌≡◌, ℕ, ◌+◌, ◌==◌, Bool, true, false, List, [], ◌∷◌, ◌++◌, length, refl, ap, ◌∙◌, sym, subst, nat_lt, arith, if◌then◌else◌, option_map, Option, None, Some, nat_tests, Pid, pid_eq, MsgId}
use Rattle.dm_law_mirror.proofs.Names.{Message, Label, PlainMessage, PlainWhat, plain_message, Boot, switchboard, manager, Life, Manager, OneKernel, bind, plain_board, plain_request, control_link, Managing, at_home, plain_manager}
use Rattle.dm_law_mirror.proofs.Names.{plain_pending, plain_created, plain_no_room, plain_pending_numbered, plain_user, counts, unentered, ServerSends, board_takes_lem, manager_takes_lem, Point, blocks_of, bag_none, IsPending}
use Rattle.dm_law_mirror.proofs.Names.{WhatFits, StepNeeds, Placed, MirrorsKernel, board_took, manager_took, of_map, parts, plainly, user_what, created_what, no_room_what, handles, KernelState, AreMessages, Board, HereStands, Known, KnownStands, Record, Resident, handled, pid_eq-same, resident_at}
use Rattle.dm_law_mirror.proofs.Names.{turned, pending_is, is_some, Link, begun, code_of_outcome, PendingKind, moved_what, plain_moved, Switchboard, Pending}
use Rattle.dm_law_rule.proofs.Names.{Part}
pub use Rattle.dm_law_places.proofs.Frames.{kept_processes as placed_processes}
use Rattle.dm_onekernel.specs.Kernel as kernels
use Rattle.dm_onekernel.specs.Manager as one
use Rattle.dm_onekernel.specs.Service as service
use Rattle.dm_onekernel.specs.Step as kernel
use Rattle.dm_onekernel.specs.Switchboard as boards
use Rattle.dm_switchboard.specs.Taking as board
use Rattle.dm_procman.specs.Taking as manage
use Rattle.dm_law_rule.specs.Rule as rule
use Rattle.dm_law_places.specs.PlacedStep as placed
use Rattle.dm_kernel.specs.declared.part.Part as parts_
use Rattle.dm_kernel.specs.Handle as machine
use Rattle.dm_kernel.specs.State as state
use Rattle.dm_law_mirror.proofs.Handle.Rows.{IsLeft, here_left, mirrors_one, turns_row}
use Rattle.dm_resident.specs.Residents as residents
use Rattle.dm_law_mirror.proofs.Recorded.{recorded}
use Rattle.dm_law_mirror.proofs.Residents.{SameSystem, board_here, board_others, manager_here, manager_others}
use Rattle.dm_law_mirror.proofs.Handle.Taking.{Taking, map_same, sane_of, some_of, to_board, to_manager, rule_to_board, rule_to_manager}
use Rattle.dm_law_mirror.proofs.Turning.{routed, Row, rule_routed}
pub use Rattle.dm_law_places.proofs.Frames.{kept_board as board_of}
pub use Rattle.dm_law_places.proofs.Frames.{kept_manager as manager_of}

-- what is sent, if anything
abbrev pub IsPlain : Option Message → Type 0
IsPlain o = (a : Message) → o ≡ Some a → is_some (plain_message a) ≡ true

pub routes_plainly : (o : Option Message) → IsPlain o → rule.routes (bind o plain_message) ≡ rule_routed o
routes_plainly o h = grind (arith, nat_tests, some_of)

pub plain_one : (a : Message) → is_some (plain_message a) ≡ true → IsPlain (Some a)
plain_one a h x e = let f : a ≡ x = cc in ap (λ (n : Message). is_some (plain_message n)) (sym f) ∙ h

-- what the manager sends
pub answers_plain : (here : ℕ) (g : Managing) (o : Option Link) (code : ℕ) (ls : List Link) → IsPlain (manage.answers_over here g o code ls).message
answers_plain here g o code ls = grind (arith, nat_tests, plain_one)

user_plain : (here : ℕ) (g : Managing) (code : ℕ) (body : List ℕ) (ls : List Link) → IsPlain (manage.takes_user here g code body ls).message
user_plain here g code body ls = grind (arith, nat_tests, plain_one)

-- Messages that a server takes, and what it sends.

-- what is sent changes but the bag
pub sent_leaves : (u : OneKernel) (o : Option PlainMessage) → ((q : Pid) → (kernels.with_sent u o).processes q ≡ u.processes q) × ((n : ℕ) → (kernels.with_sent u o).made n ≡ u.made n) × ((kernels.with_sent u o).machines ≡ u.machines)
sent_leaves u None = (λ q. refl, λ n. refl, refl)
sent_leaves u (Some x) = (λ q. refl, λ n. refl, refl)

pub placed_bag : (l n : Placed) (o : Option Message) (j : MsgId) → l.bag j ≡ n.bag j → (placed.with_sent l o).bag j ≡ (placed.with_sent n o).bag j
placed_bag l n o j e = grind (arith, nat_tests)

pub placed_leaves : (l : Placed) (o : Option Message) → (q : Pid) → (placed.with_sent l o).notes q ≡ l.notes q
placed_leaves l None = λ q. refl
placed_leaves l (Some x) = λ q. refl

sent_resident : (l : Placed) (o : Option Message) (q : Pid) → resident_at (placed.with_sent l o) q ≡ resident_at l q
sent_resident l None q = refl
sent_resident l (Some a) q = refl

sent_images : (u : OneKernel) (o : Option PlainMessage) → (kernels.with_sent u o).images ≡ u.images
sent_images u None = refl
sent_images u (Some x) = refl

-- the kernels where a server has taken a message, before what it sends enters
abbrev took_kernel : OneKernel → MsgId → Switchboard → Manager → OneKernel
took_kernel s i g h = record (service.without_message s i) { switchboard = g; manager = h }

abbrev took_placed : Placed → MsgId → Board → Managing → Placed
took_placed l i v g = record (placed.without_message l i) { board = v; manager = g }

-- a server takes the message
pub record Takes (b : Boot) (m : ℕ) (pt : Point) (l : Placed) (k : KernelState) (y : Message) (w : PlainWhat) (c : Taking b m pt l k y w) : Type 0 where
  pub board : Switchboard
  pub manages : Manager
  pub sent : Option Message
  pub new_board : Board
  pub new_manager : Managing
  -- what it is then
  pub resident : Resident
  pub known : pt.view.known m y.to.pid ≡ Known.Here
  pub here : resident_at (took_placed l y.id new_board new_manager) y.to.pid ≡ Some (residents.with_queue [] resident)
  pub waits : AreMessages l.bag (pt.view.queue m y.to.pid) (residents.queue_of resident)
  pub others : (q : Pid) → pid_eq y.to.pid q ≡ false → resident_at (took_placed l y.id new_board new_manager) q ≡ resident_at l q
  pub step : kernel.step pt.kernel (Label.Took y.id) ≡ Some (kernels.with_sent (took_kernel pt.kernel y.id board manages) (bind sent plain_message))
  pub placed_is : placed.placed_step m pt.kernel.format pt.kernel.images l (Label.Took y.id) ≡ Some (placed.with_sent (took_placed l y.id new_board new_manager) sent)
  pub turn : handles b (record k { inbox = c.rest }) y ≡ turned (state.with_known (record k { inbox = c.rest }) y.to.pid (Record.Here resident)) (state.says (Label.Took y.id) ∷ machine.routes sent)
  pub outcome : rule.handles b pt m y.id (plainly y w) ≡ Some (rule.says (Label.Took y.id) ∷ rule.routes (bind sent plain_message))
  pub plain : IsPlain sent
  pub fresh : (q : PlainMessage) → bind sent plain_message ≡ Some q → counts pt.kernel q.id ≡ false

took_row : (b : Boot) (m : ℕ) (pt : Point) (l : Placed) (k : KernelState) (y : Message) (w : PlainWhat) (c : Taking b m pt l k y w) → Takes b m pt l k y w c → Row b m pt l k
took_row b m pt l k y w c h =
    let s = pt.kernel in
    let p = y.to.pid in
    let e = Label.Took y.id in
    let said = bind h.sent plain_message in
    let u = took_kernel s y.id h.board h.manages in
    let before = took_placed l y.id h.new_board h.new_manager in
    let next = kernels.with_sent u said in
    let on = placed.with_sent before h.sent in
    let k0 = record k { inbox = c.rest } in
    let after_ = state.with_known k0 p (Record.Here h.resident) in
    let seen = sane_of b m pt l k y w c in
    let needs : StepNeeds s (begun pt m).view e = c.run.based.pending in
    let mirrors = mirrors_one pt m e next (handled (begun pt m).view y.id) l on h.step refl needs h.placed_is c.mirrors in
    let system : SameSystem l on =
    record { machines = mirrors.plain.machines ∙ (sent_leaves u said).2 ∙ sym c.mirrors.plain.machines; images = mirrors.plain.images ∙ ap length (sent_images u said) ∙ sym c.mirrors.plain.images } in
    let lives : (q : Pid) → next.processes q ≡ s.processes q = (sent_leaves u said).0 in
    let stays : (q : Pid) → pid_eq p q ≡ false → resident_at on q ≡ resident_at l q = λ q off. sent_resident before h.sent q ∙ h.others q off in
    let records : (q : Pid) → pid_eq p q ≡ false → after_.records q ≡ k.records q = λ q off. ap (λ (d : Bool). if d then Some (Record.Here h.resident) else k.records q) off in
    -- a message that is sent, if any
    let routes_same : machine.routes h.sent ≡ routed h.sent = grind (arith, nat_tests) in
    turns_row b m pt l k y w c (record {
      label = e;
      next = next;
      placed = on;
      state = after_;
      route = h.sent;
      process = p;
      step = h.step;
      view = refl;
      needs = needs;
      placed_is = h.placed_is;
      turn = h.turn ∙ ap (λ (ps : List parts_.Part). turned after_ (state.says e ∷ ps)) routes_same;
      outcome = h.outcome ∙ ap (λ (ps : List Part). Some (rule.says e ∷ ps)) (routes_plainly h.sent h.plain);
      fresh = λ a is.
          let (q, plain) = some_of (plain_message a) (h.plain a is) in
          let none = h.fresh q (ap (λ (o : Option Message). bind o plain_message) is ∙ plain) in
          ap s.bag (parts a q plain).id ∙ bag_none seen.r seen.e s q.id (unentered seen.r seen.e s q.id seen.sound.entered none) seen.sound.entered;
      plain = h.plain;
      mine = λ bag holds.
          subst (KnownStands on p (pt.view.queue m p) (pt.view.held m p) (pt.view.known m p)) (sym (ap (λ (d : Bool). if d then Some (Record.Here h.resident) else k.records p) (pid_eq-same p)))
          (subst (λ (n : Known). KnownStands on p (pt.view.queue m p) (pt.view.held m p) n (Some (Record.Here h.resident))) (sym h.known)
          (([], sent_resident before h.sent p ∙ h.here), map_same l.bag on.bag (pt.view.queue m p) bag ∙ h.waits));
      leaves = search (
        (sent_leaves u said).2,
        (sent_leaves u said).1,
        lives,
        ap (λ (o : Option Life). blocks_of (kernel.alive o)) (lives p),
        ap kernel.why_ended (lives p),
        stays,
        system,
        records,
        placed_leaves before h.sent,
        λ (j : MsgId). placed_bag before (placed.without_message l y.id) h.sent j refl,
        λ (q : Pid) (is : IsLeft m pt q). here_left pt m p q c.run.based.phased.phases h.known is,
      );
    })

-- what the switchboard sends
pub board_row : (b : Boot) (m : ℕ) (pt : Point) (l : Placed) (k : KernelState) (y : Message) (w : PlainWhat) (ps : List Part) → Taking b m pt l k y w → pt.view.known m y.to.pid ≡ Known.Here → y.to.pid ≡ switchboard
    → rule.board_took y.id (boards.board_takes pt.kernel.switchboard (plainly y w) w) ≡ Some ps → Row b m pt l k
board_row b m pt l k y (PlainWhat.User code channel bytes ls) ps c known to goes =
    let s = pt.kernel in
    let w = PlainWhat.User code channel bytes ls in
    let x = plainly y w in
    let k0 = record k { inbox = c.rest } in
    let is : pid_eq y.to.pid switchboard ≡ true = ap (λ (q : Pid). pid_eq q switchboard) to in
    let num : (y.to.pid.num == 0) ≡ false = ap (λ (q : Pid). q.num == 0) to in
    let (r, recorded_, stands) = recorded b pt l m k y.to.pid Known.Here c.stands known in
    let board_is : r ≡ Resident.Board l.board = board_here l (pt.view.queue m y.to.pid) r (subst (λ (q : Pid). HereStands l q (pt.view.queue m y.to.pid) r) to stands) in
    let u = user_what y.what code channel bytes ls c.says in
    let t = board.takes_request m l.board u.body.items u.links.items in
    let kk : boards.BoardTook = record { switchboard = plain_board t.board; answer = bind t.took.answer plain_message } in
    let takes : boards.board_takes s.switchboard x w ≡ Some kk = grind (arith, nat_tests, plain_request) in
    let taken : board.takes m l.board y.what ≡ Some t = ap (board.takes m l.board) u.is in
    took_row b m pt l k y w c (record {
      board = kk.switchboard;
      manages = s.manager;
      sent = t.took.answer;
      new_board = t.board;
      new_manager = l.manager;
      resident = Resident.Board t.board;
      known = known;
      here = ap (resident_at (took_placed l y.id t.board l.manager)) to;
      waits = subst (λ (z : Resident). AreMessages l.bag (pt.view.queue m y.to.pid) (residents.queue_of z)) board_is stands.1;
      others = λ q off. board_others l (took_placed l y.id t.board l.manager) q refl refl (ap (λ (z : Pid). pid_eq z q) (sym to) ∙ off);
      step = ap (λ (o : Option PlainMessage). bind o (service.takes s y.id)) c.front.there
          ∙ ap (λ (d : Bool). if d then bind (boards.board_takes s.switchboard x x.what) (λ (z : boards.BoardTook). Some (service.switchboard_took s y.id z)) else if pid_eq x.to manager then bind (one.manager_takes s.manager s.machines (length s.images) x x.what) (λ (z : one.ManagerTook). Some (service.manager_took s y.id z)) else None) is
          ∙ ap (λ (o : Option boards.BoardTook). bind o (λ (z : boards.BoardTook). Some (service.switchboard_took s y.id z))) takes;
      placed_is = ap (λ (o : Option Message). bind o (placed.takes m (placed.without_message l y.id))) c.there
          ∙ ap (λ (d : Bool). if d then bind (board.takes m l.board y.what) (λ (z : board.Taken). Some (board_took (placed.without_message l y.id) z))
          else if pid_eq y.to.pid manager then bind (manage.takes m l.manager y.id.n y.what) (λ (z : manage.Taken). Some (manager_took (placed.without_message l y.id) z)) else None) is
          ∙ ap (λ (o : Option board.Taken). bind o (λ (z : board.Taken). Some (board_took (placed.without_message l y.id) z))) taken;
      turn = to_board b k0 y l.board num (recorded_ ∙ ap (λ (z : Resident). Some (Record.Here z)) board_is)
          ∙ ap (λ (n : ℕ). machine.board_took k0 y l.board (board.takes n l.board y.what)) c.stands.here ∙ ap (machine.board_took k0 y l.board) taken;
      outcome = rule_to_board b pt m y.id x num known is ∙ ap (rule.board_took y.id) takes;
      plain = grind (arith, nat_tests, plain_one);
      fresh = λ q e.
          let sends = subst (λ (o : Option PlainMessage). ServerSends switchboard s.switchboard.sent o kk.switchboard.sent) e (board_takes_lem s.switchboard x w kk takes).2 in
          ap (counts s) sends.0 ∙ (let z : nat_lt s.switchboard.sent s.switchboard.sent ≡ false = grind (arith, nat_tests) in z);
    })
board_row b m pt l k y w ps c known to goes = absurd (let f : None ≡ Some ps = goes in cc)

manager_by : (b : Boot) (m : ℕ) (pt : Point) (l : Placed) (k : KernelState) (y : Message) (w : PlainWhat) (t : manage.Taken) → Taking b m pt l k y w → pt.view.known m y.to.pid ≡ Known.Here → y.to.pid ≡ manager
    → manage.takes m l.manager y.id.n y.what ≡ Some t
    → one.manager_takes pt.kernel.manager pt.kernel.machines (length pt.kernel.images) (plainly y w) w ≡ Some (record { manager = plain_manager t.manager; message = bind t.message plain_message }) → IsPlain t.message → Row b m pt l k
manager_by b m pt l k y w t c known to taken takes plain =
    let s = pt.kernel in
    let x = plainly y w in
    let k0 = record k { inbox = c.rest } in
    let off : pid_eq y.to.pid switchboard ≡ false = ap (λ (q : Pid). pid_eq q switchboard) to in
    let is : pid_eq y.to.pid manager ≡ true = ap (λ (q : Pid). pid_eq q manager) to in
    let num : (y.to.pid.num == 0) ≡ false = ap (λ (q : Pid). q.num == 0) to in
    let (r, recorded_, stands) = recorded b pt l m k y.to.pid Known.Here c.stands known in
    let manager_is : r ≡ Resident.Manager l.manager = manager_here l (pt.view.queue m y.to.pid) r (subst (λ (q : Pid). HereStands l q (pt.view.queue m y.to.pid) r) to stands) in
    let kk : one.ManagerTook = record { manager = plain_manager t.manager; message = bind t.message plain_message } in
    took_row b m pt l k y w c (record {
      board = s.switchboard;
      manages = kk.manager;
      sent = t.message;
      new_board = l.board;
      new_manager = t.manager;
      resident = Resident.Manager t.manager;
      known = known;
      here = ap (resident_at (took_placed l y.id l.board t.manager)) to;
      waits = subst (λ (z : Resident). AreMessages l.bag (pt.view.queue m y.to.pid) (residents.queue_of z)) manager_is stands.1;
      others = λ q apart. manager_others l (took_placed l y.id l.board t.manager) q refl refl (ap (λ (z : Pid). pid_eq z q) (sym to) ∙ apart);
      step = ap (λ (o : Option PlainMessage). bind o (service.takes s y.id)) c.front.there
          ∙ ap (λ (d : Bool). if d then bind (boards.board_takes s.switchboard x x.what) (λ (z : boards.BoardTook). Some (service.switchboard_took s y.id z)) else if pid_eq x.to manager then bind (one.manager_takes s.manager s.machines (length s.images) x x.what) (λ (z : one.ManagerTook). Some (service.manager_took s y.id z)) else None) off
          ∙ ap (λ (d : Bool). if d then bind (one.manager_takes s.manager s.machines (length s.images) x x.what) (λ (z : one.ManagerTook). Some (service.manager_took s y.id z)) else None) is
          ∙ ap (λ (o : Option one.ManagerTook). bind o (λ (z : one.ManagerTook). Some (service.manager_took s y.id z))) takes;
      placed_is = ap (λ (o : Option Message). bind o (placed.takes m (placed.without_message l y.id))) c.there
          ∙ ap (λ (d : Bool). if d then bind (board.takes m l.board y.what) (λ (z : board.Taken). Some (board_took (placed.without_message l y.id) z))
          else if pid_eq y.to.pid manager then bind (manage.takes m l.manager y.id.n y.what) (λ (z : manage.Taken). Some (manager_took (placed.without_message l y.id) z)) else None) off
          ∙ ap (λ (d : Bool). if d then bind (manage.takes m l.manager y.id.n y.what) (λ (z : manage.Taken). Some (manager_took (placed.without_message l y.id) z)) else None) is
          ∙ ap (λ (o : Option manage.Taken). bind o (λ (z : manage.Taken). Some (manager_took (placed.without_message l y.id) z))) taken;
      turn = to_manager b k0 y l.manager num (recorded_ ∙ ap (λ (z : Resident). Some (Record.Here z)) manager_is)
          ∙ ap (λ (n : ℕ). machine.manager_took k0 y l.manager (manage.takes n l.manager y.id.n y.what)) c.stands.here ∙ ap (machine.manager_took k0 y l.manager) taken;
      outcome = rule_to_manager b pt m y.id x num known off is ∙ ap (rule.manager_parts y.id) takes;
      plain = plain;
      fresh = λ q e.
          let sends = subst (λ (o : Option PlainMessage). ServerSends manager s.manager.sent o kk.manager.sent) e (manager_takes_lem s.manager s.machines (length s.images) x w kk takes).2.sends in
          ap (counts s) sends.0 ∙ (let z : nat_lt s.manager.sent s.manager.sent ≡ false = grind (arith, nat_tests) in z);
    })

numbered : (s : OneKernel) (l : Placed) (n : ℕ) → MirrorsKernel s l → one.pending_numbered n s.manager.pending ≡ option_map plain_pending (manage.pending_request n l.manager.pending)
numbered s l n h = ap (λ (g : Manager). one.pending_numbered n g.pending) (sym h.manager) ∙ plain_pending_numbered n l.manager.pending

asked : (s : OneKernel) (l : Placed) (kind : PendingKind) (i : MsgId) → MirrorsKernel s l → IsPending s kind i → (r : Pending) × (manage.pending_request i.n l.manager.pending ≡ Some r)
asked s l kind i h p =
    let (r, there) = pending_is kind (one.pending_numbered i.n s.manager.pending) p.pending in
    let (z, found, same) = of_map plain_pending (manage.pending_request i.n l.manager.pending) r (sym there ∙ numbered s l i.n h) in
    (z, found)

abbrev created_of : ℕ → Managing → ℕ → Pid → Pending → manage.Taken
created_of here g n child r = manage.answers_over here (record (manage.settled g n) { children = g.children ++ at_home child ∷ [] }) r.answer 0 (control_link here g.moves (length g.children + 1) ∷ [])

-- the request is taken off, and its answer has one byte
abbrev settled_of : ℕ → Managing → ℕ → ℕ → Pending → manage.Taken
settled_of here g n code r = manage.answers_over here (manage.settled g n) r.answer code []

pub manager_row : (b : Boot) (m : ℕ) (pt : Point) (l : Placed) (k : KernelState) (y : Message) (w : PlainWhat) (ps : List Part) → Taking b m pt l k y w → pt.view.known m y.to.pid ≡ Known.Here → y.to.pid ≡ manager → WhatFits pt.kernel y.id (plainly y w) w
    → rule.manager_parts y.id (one.manager_takes pt.kernel.manager pt.kernel.machines (length pt.kernel.images) (plainly y w) w) ≡ Some ps → Row b m pt l k
manager_row b m pt l k y (PlainWhat.User code channel bytes ls) ps c known to fits goes =
    let h = c.mirrors.plain in
    let u = user_what y.what code channel bytes ls c.says in
    let t = manage.takes_user m l.manager code u.body.items u.links.items in
    manager_by b m pt l k y (PlainWhat.User code channel bytes ls) t c known to (ap (manage.takes m l.manager y.id.n) u.is)
    ((λ i. Some (one.takes_user (sym h.manager i) (sym h.machines i) (sym h.images i) code (sym u.bytes_are i) (sym u.links_are i))) ∙ sym (plain_user m l.manager code u.body.items u.links.items))
    (user_plain m l.manager code u.body.items u.links.items)
manager_row b m pt l k y (PlainWhat.Created child) ps c known to fits goes =
    let s = pt.kernel in
    let h = c.mirrors.plain in
    let (r, found) = asked s l PendingKind.Create y.id h fits.2 in
    let t = created_of m l.manager y.id.n child r in
    let taken : manage.takes_created m l.manager y.id.n child (manage.pending_request y.id.n l.manager.pending) ≡ Some t = ap (manage.takes_created m l.manager y.id.n child) found in
    manager_by b m pt l k y (PlainWhat.Created child) t c known to (ap (manage.takes m l.manager y.id.n) (created_what y.what child c.says) ∙ taken)
    (ap (one.takes_answer s.manager y.id.n (s.manager.children ++ child ∷ []) 0 (one.control_link (length s.manager.children + 1) ∷ [])) (numbered s l y.id.n h) ∙ ap (λ (g : Manager). (one.takes_answer g y.id.n (g.children ++ child ∷ []) 0 (one.control_link (length g.children + 1) ∷ [])) (option_map plain_pending (manage.pending_request y.id.n l.manager.pending))) (sym h.manager)
    ∙ sym (plain_created m l.manager y.id.n child (manage.pending_request y.id.n l.manager.pending) t taken))
    (answers_plain m (record (manage.settled l.manager y.id.n) { children = l.manager.children ++ at_home child ∷ [] }) r.answer 0 (control_link m l.manager.moves (length l.manager.children + 1) ∷ []))
manager_row b m pt l k y PlainWhat.NoRoom ps c known to fits goes =
    let s = pt.kernel in
    let h = c.mirrors.plain in
    let n = y.id.n in
    let (r, found) = asked s l PendingKind.Create y.id h fits.2 in
    let t = settled_of m l.manager n 1 r in
    let taken : manage.takes_no_room m l.manager n (manage.pending_request n l.manager.pending) ≡ Some t = ap (manage.takes_no_room m l.manager n) found in
    manager_by b m pt l k y PlainWhat.NoRoom t c known to (ap (manage.takes m l.manager n) (no_room_what y.what c.says) ∙ taken)
    (ap (one.takes_answer s.manager n s.manager.children 1 []) (numbered s l n h) ∙ ap (λ (g : Manager). (one.takes_answer g n g.children 1 []) (option_map plain_pending (manage.pending_request n l.manager.pending))) (sym h.manager)
    ∙ sym (plain_no_room m l.manager n (manage.pending_request n l.manager.pending) t taken))
    (answers_plain m (manage.settled l.manager n) r.answer 1 [])
manager_row b m pt l k y (PlainWhat.Moved outcome) ps c known to fits goes =
    let s = pt.kernel in
    let h = c.mirrors.plain in
    let n = y.id.n in
    let (r, found) = asked s l PendingKind.Move y.id h fits.2 in
    let t = settled_of m l.manager n (code_of_outcome outcome) r in
    let taken : manage.takes_moved m l.manager n outcome (manage.pending_request n l.manager.pending) ≡ Some t = ap (manage.takes_moved m l.manager n outcome) found in
    manager_by b m pt l k y (PlainWhat.Moved outcome) t c known to (ap (manage.takes m l.manager n) (moved_what y.what outcome c.says) ∙ taken)
    (ap (one.takes_answer s.manager n s.manager.children (code_of_outcome outcome) []) (numbered s l n h) ∙ ap (λ (g : Manager). (one.takes_answer g n g.children (code_of_outcome outcome) []) (option_map plain_pending (manage.pending_request n l.manager.pending))) (sym h.manager)
    ∙ sym (plain_moved m l.manager n outcome (manage.pending_request n l.manager.pending) t taken))
    (answers_plain m (manage.settled l.manager n) r.answer (code_of_outcome outcome) [])
manager_row b m pt l k y w ps c known to fits goes = absurd (let f : None ≡ Some ps = goes in cc)
