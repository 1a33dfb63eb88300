-- Messages for a process that has ended, of which nothing is known here: dropped, or answered that it is gone.
use Rattle.dm_law_mirror.proofs.Names.{◌≡◌, ℕ, true, List, [], ◌∷◌, refl, ap, ◌∙◌, sym, is_some, Option, None, Some, false≢true, Pid, MsgId, Message, Record, Label, PlainWhat, plain_message, gone_answer, Boot, Why, bind, answer_id, answer_to}
use Rattle.dm_law_mirror.proofs.Names.{without_message, is_dropped, Point, times, Known, View, handled, bag_none, bag_gone, agrees, WhatFits, is_manager, dropped_is, Placed, plainly, user_what, read_what, write_what, block_what, stop_what}
use Rattle.dm_law_mirror.proofs.Names.{resume_what, kill_what, written_what, gone_what, What, handles, process_handles, ended_handles, KernelState, Turned, turned, KnownStands, gone_is, ◌/◌, Bool, length, map, if◌then◌else◌, plain_kind}
use Rattle.dm_law_mirror.proofs.Names.{PlainMessage, arith, nat_tests, Process, Alive, Life, OneKernel, plain_process, PlainProcess, pid_eq-same, blocks_of, alive_of, served_is, of_map, with_queue, here_handles, with_here, AreMessages}
use Rattle.dm_law_mirror.proofs.Names.{is_server, pid_eq, false, begun, Outcome, move_what, here_free, sort_of, Ended, is_alive, Inbox, is_fixed, subst, told_receiver}
use Rattle.dm_law_always.proofs.Names.{with_sent}
use Rattle.dm_law_mirror.proofs.Recorded.{recorded, recorded_process}
use Rattle.dm_law_mirror.proofs.Residents.{here_process, not_board, not_manager, resident_same, same_manager}
use Rattle.dm_law_mirror.proofs.Names.{Resident, or-left, or-right, resident_at, ◌==◌}
use Rattle.dm_law_rule.proofs.Names.{Part}
use Rattle.dm_kernel.specs.declared.part.Part.TheVariants.{Routes}
pub use Rattle.dm_law_rule.proofs.Turns.{without_front_none as front_none, at_record_same as queue_same}
use Rattle.dm_law_mirror.proofs.Handle.Rows.{IsLeft, turns_row, here_left}
use Rattle.dm_law_mirror.proofs.Handle.Taking.{Taking, sane_of, known_on, map_same, IsProcess, no_kernel, not_server, to_process, rule_to_process, rule_to_here, to_ended}
use Rattle.dm_law_mirror.proofs.Turning.{Row, routed, rule_routed}
use Rattle.dm_law_mirror.proofs.Handle.Servers.{board_of, manager_of, placed_bag, placed_leaves, placed_processes, sent_leaves}
use Rattle.dm_law_rule.specs.Rule as rule
use Rattle.dm_law_rule.specs.View as view
use Rattle.dm_law_places.specs.PlacedStep as placed
use Rattle.dm_kernel.specs.Handle as machine
use Rattle.dm_kernel.specs.State as state
use Rattle.dm_onekernel.specs.Kernel as kernels
use Rattle.dm_onekernel.specs.Service as service
use Rattle.dm_onekernel.specs.Step as kernel
use Rattle.dm_law_mirror.proofs.Gone.{ended_by, not_alive, receiver_made}

-- the machine knows nothing of a process that has ended
pub record IsEnded (b : Boot) (m : ℕ) (pt : Point) (l : Placed) (k : KernelState) (p : Pid) : Type 0 where
  pub process : IsProcess p
  pub because : Why
  pub life : pt.kernel.processes p ≡ Some (Ended because)
  pub known : pt.view.known m p ≡ view.Unknown
  pub there : k.records p ≡ None

pub is_ended : (b : Boot) (m : ℕ) (pt : Point) (l : Placed) (k : KernelState) (y : Message) (w : PlainWhat) → Taking b m pt l k y w → (y.to.pid.num == 0) ≡ false → pt.view.known m y.to.pid ≡ view.Unknown → WhatFits pt.kernel y.id (plainly y w) w → IsEnded b m pt l k y.to.pid
is_ended b m pt l k y w c num known fits =
    let p = y.to.pid in
    let to : c.front.told.receiver ≡ p = told_receiver b m pt y.id (plainly y w) c.front in
    let gone : is_alive pt.kernel p ≡ false =
    subst (λ (q : Pid). is_alive pt.kernel q ≡ false) to
    (not_alive b pt y.id (Inbox m) c.front.told c.run c.front.first c.front.told_is (ap is_fixed to ∙ num) (ap (pt.view.known m) to ∙ known)) in
    let server : is_server p ≡ false = or-left (is_server p) (is_some (kernel.alive (pt.kernel.processes p))) gone in
    let (z, life) = ended_by (pt.kernel.processes p) (receiver_made pt.kernel y.id (plainly y w) w fits num server) (or-right (is_server p) (is_some (kernel.alive (pt.kernel.processes p))) gone) in
    record { process = record { number = num; no_board = not_board p server; no_manager = not_manager p server }; because = z; life = life; known = known; there = recorded b pt l m k p view.Unknown c.stands known }

-- the rows' parts
ended_turn : (b : Boot) (m : ℕ) (pt : Point) (l : Placed) (k : KernelState) (y : Message) (w : PlainWhat) (c : Taking b m pt l k y w) (o : Option Turned) → IsEnded b m pt l k y.to.pid → ended_handles (record k { inbox = c.rest }) y y.what ≡ o → handles b (record k { inbox = c.rest }) y ≡ o
ended_turn b m pt l k y w c o h e = to_ended b (record k { inbox = c.rest }) y h.process.number h.there ∙ e

dropped_view : (v : View) (i : MsgId) (o : Option Pid) → ((n : ℕ) (p : Pid) → times i (v.queue n p) ≡ 0) → view.dropped_for (handled v i) i o ≡ handled v i
dropped_view v i None none = refl
dropped_view v i (Some p) none = grind (arith, nat_tests, queue_same, front_none)

drop_row : (b : Boot) (m : ℕ) (pt : Point) (l : Placed) (k : KernelState) (y : Message) (w : PlainWhat) (c : Taking b m pt l k y w) → IsEnded b m pt l k y.to.pid → is_dropped w ≡ true → ended_handles (record k { inbox = c.rest }) y y.what ≡ machine.is_dropped (record k { inbox = c.rest }) y
    → rule.ended_handles y.id w ≡ Some (rule.says (Label.Dropped y.id) ∷ []) → Row b m pt l k
drop_row b m pt l k y w c h drops turn outcome =
    let s = pt.kernel in
    let p = y.to.pid in
    let next = without_message s y.id in
    turns_row b m pt l k y w c (record {
      label = Label.Dropped y.id;
      next = next;
      placed = placed.without_message l y.id;
      state = record k { inbox = c.rest };
      route = None;
      process = p;
      step = dropped_is s y.id (plainly y w) h.because c.front.there h.life drops;
      view = dropped_view (begun pt m).view y.id (view.receiver_of (pt.view.told y.id)) c.front.unqueued;
      needs = tt;
      placed_is = refl;
      turn = ended_turn b m pt l k y w c (machine.is_dropped (record k { inbox = c.rest }) y) h turn;
      outcome = rule_to_process b pt m y.id (plainly y w) h.process ∙ ap (rule.process_handles pt m y.id (plainly y w)) h.known ∙ outcome;
      fresh = λ a is. cc;
      plain = λ a is. cc;
      mine = λ bag holds. known_on l (placed.without_message l y.id) p (pt.view.queue m p) (pt.view.held m p) (pt.view.known m p) (k.records p)
          (same_manager l (placed.without_message l y.id) refl) refl refl bag holds (c.stands.known p);
      leaves = search (same_manager l (placed.without_message l y.id) refl);
    })

gone_row : (b : Boot) (m : ℕ) (pt : Point) (l : Placed) (k : KernelState) (y : Message) (w : PlainWhat) (c : Taking b m pt l k y w) → IsEnded b m pt l k y.to.pid → (u : PlainWhat)
    → service.gone_what w ≡ Some u → is_some (plain_message (gone_answer m y)) ≡ true
    → ended_handles (record k { inbox = c.rest }) y y.what ≡ machine.is_gone (record k { inbox = c.rest }) y
    → rule.ended_handles y.id w ≡ Some (rule.says (Label.Gone y.id) ∷ Part.Routes (answer_id y.id) ∷ []) → Row b m pt l k
gone_row b m pt l k y w c h u says plain turn outcome =
    let s = pt.kernel in
    let p = y.to.pid in
    let x = plainly y w in
    let k0 = record k { inbox = c.rest } in
    let next = with_sent (without_message s y.id) (Some (answer_to x u)) in
    let a = gone_answer m y in
    let on = placed.with_sent (placed.without_message l y.id) (Some a) in
    let step = gone_is s y.id x h.because u c.front.there h.life says in
    let seen = sane_of b m pt l k y w c in
    let bag = bag_gone seen.r seen.e s next y.id step seen.sound in
    turns_row b m pt l k y w c (record {
      label = Label.Gone y.id;
      next = next;
      placed = on;
      state = k0;
      route = Some a;
      process = p;
      step = step;
      view = refl;
      needs = tt;
      placed_is = ap (λ (o : Option Message). bind o (λ (z : Message). Some (placed.with_sent (placed.without_message l y.id) (Some (gone_answer m z))))) c.there;
      turn = ended_turn b m pt l k y w c (machine.is_gone k0 y) h turn ∙ ap (λ (n : ℕ). turned k0 (state.says (Label.Gone y.id) ∷ Routes (gone_answer n y) ∷ [])) c.stands.here;
      outcome = rule_to_process b pt m y.id (plainly y w) h.process ∙ ap (rule.process_handles pt m y.id (plainly y w)) h.known ∙ outcome;
      fresh = λ z is. let same : a ≡ z = cc in ap (λ (n : Message). s.bag n.id) (sym same) ∙ bag_none seen.r seen.e s (answer_id y.id) (bag.fresh (answer_id y.id) refl) seen.sound.entered;
      plain = λ z is. let same : a ≡ z = cc in ap (λ (n : Message). is_some (plain_message n)) (sym same) ∙ plain;
      mine = λ same holds. known_on l on p (pt.view.queue m p) (pt.view.held m p) (pt.view.known m p) (k.records p)
          (same_manager l on refl) refl refl same holds (c.stands.known p);
      leaves = search (same_manager l on refl);
    })

-- what is answered has a plain meaning
gone_plain : (m : ℕ) (y : Message) (w : What) → y.what ≡ w → is_some (plain_message (gone_answer m (record y { what = w }))) ≡ true → is_some (plain_message (gone_answer m y)) ≡ true
gone_plain m y w is e = ap (λ (v : What). is_some (plain_message (gone_answer m (record y { what = v })))) is ∙ e

-- a row a kind
pub ended_row : (b : Boot) (m : ℕ) (pt : Point) (l : Placed) (k : KernelState) (y : Message) (w : PlainWhat) (c : Taking b m pt l k y w) → IsEnded b m pt l k y.to.pid → WhatFits pt.kernel y.id (plainly y w) w → Row b m pt l k
ended_row b m pt l k y (PlainWhat.User code channel bytes ls) c h fits = drop_row b m pt l k y (PlainWhat.User code channel bytes ls) c h refl (ap (ended_handles (record k { inbox = c.rest }) y) (user_what y.what code channel bytes ls c.says).is) refl
ended_row b m pt l k y PlainWhat.Stop c h fits = drop_row b m pt l k y PlainWhat.Stop c h refl (ap (ended_handles (record k { inbox = c.rest }) y) (stop_what y.what c.says)) refl
ended_row b m pt l k y PlainWhat.Resume c h fits = drop_row b m pt l k y PlainWhat.Resume c h refl (ap (ended_handles (record k { inbox = c.rest }) y) (resume_what y.what c.says)) refl
ended_row b m pt l k y PlainWhat.Kill c h fits = drop_row b m pt l k y PlainWhat.Kill c h refl (ap (ended_handles (record k { inbox = c.rest }) y) (kill_what y.what c.says)) refl
ended_row b m pt l k y (PlainWhat.Block bytes) c h fits = drop_row b m pt l k y (PlainWhat.Block bytes) c h refl (ap (ended_handles (record k { inbox = c.rest }) y) (block_what y.what bytes c.says).is) refl
ended_row b m pt l k y PlainWhat.Written c h fits = drop_row b m pt l k y PlainWhat.Written c h refl (ap (ended_handles (record k { inbox = c.rest }) y) (written_what y.what c.says)) refl
ended_row b m pt l k y PlainWhat.Gone c h fits = drop_row b m pt l k y PlainWhat.Gone c h refl (ap (ended_handles (record k { inbox = c.rest }) y) (gone_what y.what c.says)) refl
ended_row b m pt l k y (PlainWhat.Read base len) c h fits =
    let is = read_what y.what base len c.says in
    gone_row b m pt l k y (PlainWhat.Read base len) c h PlainWhat.Gone refl (gone_plain m y (What.Read base len) is refl) (ap (ended_handles (record k { inbox = c.rest }) y) is) refl
ended_row b m pt l k y (PlainWhat.Write base bytes) c h fits =
    let g = write_what y.what base bytes c.says in
    gone_row b m pt l k y (PlainWhat.Write base bytes) c h PlainWhat.Gone refl (gone_plain m y (What.Write base g.body) g.is refl) (ap (ended_handles (record k { inbox = c.rest }) y) g.is) refl
ended_row b m pt l k y (PlainWhat.Create image links) c h fits = absurd (no_kernel y.to.pid h.process fits.0)
ended_row b m pt l k y (PlainWhat.Move machine) c h fits =
    let is = move_what y.what machine c.says in
    gone_row b m pt l k y (PlainWhat.Move machine) c h (PlainWhat.Moved Outcome.Ended) refl (gone_plain m y (What.Move machine) is refl) (ap (ended_handles (record k { inbox = c.rest }) y) is) refl
ended_row b m pt l k y _ c h fits = absurd (false≢true (sym h.process.no_manager ∙ is_manager y.to.pid fits.0))

-- A message that is served by the kernel of its receiver, a process that is here and goes on.

-- what the machine knows of a process that is here, and the kernel with places has it with another queue
pub record IsHere (b : Boot) (m : ℕ) (pt : Point) (l : Placed) (k : KernelState) (p : Pid) : Type 0 where
  pub process : IsProcess p
  pub x : Process
  pub queue : List Message
  pub there : k.records p ≡ Some (Record.Here (Resident.Process x))
  pub placed : l.processes p ≡ Some (with_queue x queue)
  pub waits : AreMessages l.bag (pt.view.queue m p) x.queue
  pub life : pt.kernel.processes p ≡ Some (Alive (plain_process x))
  -- it follows no request to move
  pub free : pt.kernel.notes p ≡ None
  pub known : pt.view.known m p ≡ view.Here
  pub pid : x.pid ≡ p

pub is_here : (b : Boot) (m : ℕ) (pt : Point) (l : Placed) (k : KernelState) (y : Message) (w : PlainWhat) → Taking b m pt l k y w → IsProcess y.to.pid → pt.view.known m y.to.pid ≡ view.Here → IsHere b m pt l k y.to.pid
is_here b m pt l k y w c h known =
    let p = y.to.pid in
    let server = not_server p h in
    let (z, life) = alive_of (pt.kernel.processes p) (sym (ap (λ (n : Known). agrees n (pt.kernel.processes p)) known) ∙ c.run.based.known.agree m p server) in
    let r = recorded_process b pt l m k p c.stands server known in
    let x = r.process in
    let (g, found, same) = of_map plain_process (l.processes p) z (sym (ap kernel.alive life) ∙ c.mirrors.plain.processes p) in
    let e : g ≡ with_queue x r.waits = let d : Some g ≡ Some (with_queue x r.waits) = sym found ∙ r.there in cc in
    let whole : plain_process (with_queue x r.waits) ≡ z = ap plain_process (sym e) ∙ same in
    record {
      process = h;
      x = x;
      queue = r.waits;
      there = r.is;
      placed = r.there;
      waits = r.messages;
      life = life ∙ ap (λ (n : PlainProcess). Some (Alive n)) (sym whole);
      free = here_free pt.kernel pt.view m p c.run.based.noted known;
      known = known;
      pid = (c.mirrors.places.process p (with_queue x r.waits) r.there).pid;
    }

-- the rows' parts
pub here_turn : (b : Boot) (m : ℕ) (pt : Point) (l : Placed) (k : KernelState) (y : Message) (w : PlainWhat) (c : Taking b m pt l k y w) (h : IsHere b m pt l k y.to.pid) (o : Option Turned) → here_handles (record k { inbox = c.rest }) y h.x y.what ≡ o → handles b (record k { inbox = c.rest }) y ≡ o
here_turn b m pt l k y w c h o e = to_process b (record k { inbox = c.rest }) y h.process ∙ ap (process_handles (record k { inbox = c.rest }) y) h.there ∙ e

pub here_outcome : (b : Boot) (m : ℕ) (pt : Point) (l : Placed) (k : KernelState) (y : Message) (w : PlainWhat) (h : IsHere b m pt l k y.to.pid) (o : Option (List Part)) → rule.here_handles pt m y.id (plainly y w) (plain_process h.x) w ≡ o → rule.handles b pt m y.id (plainly y w) ≡ o
here_outcome b m pt l k y w h o e = grind (arith, nat_tests, rule_to_here b pt m y.id (plainly y w) h.process h.known)

-- the kernel's step for a served message
pub served_step : (s : OneKernel) (i : MsgId) (x : PlainMessage) (z : PlainProcess) (t : OneKernel) → s.bag i ≡ Some x → s.processes x.to ≡ Some (Alive z) → s.notes x.to ≡ None
    → service.serves s i x z x.what ≡ Some t → kernel.step s (Label.Served i) ≡ Some t
served_step s i x z t there alive free e = grind (arith, nat_tests)

pub served_placed : (pt : Point) (l on : Placed) (m : ℕ) (y : Message) (x : Process) → l.bag y.id ≡ Some y → l.processes y.to.pid ≡ Some x → placed.serves m (placed.without_message l y.id) y x y.what ≡ Some on → placed.placed_step m pt.kernel.format pt.kernel.images l (Label.Served y.id) ≡ Some on
served_placed pt l on m y x there stands e = grind (arith, nat_tests)

-- the process goes on as z, and as pz without places; what is sent is o, and q without places
pub record Served (b : Boot) (m : ℕ) (pt : Point) (l : Placed) (k : KernelState) (y : Message) (w : PlainWhat) (c : Taking b m pt l k y w) (h : IsHere b m pt l k y.to.pid) : Type 0 where
  pub z : Process
  pub pz : PlainProcess
  pub o : Option Message
  pub q : Option PlainMessage
  pub serves : service.serves pt.kernel y.id (plainly y w) (plain_process h.x) w ≡ Some (kernels.with_sent (service.changed pt.kernel y.id (plainly y w) pz) q)
  pub placed_is : placed.serves m (placed.without_message l y.id) y (with_queue h.x h.queue) y.what ≡ Some (placed.with_sent (placed.with_process (placed.without_message l y.id) y.to.pid (Some (with_queue z h.queue))) o)
  pub turn : here_handles (record k { inbox = c.rest }) y h.x y.what ≡ turned (with_here (record k { inbox = c.rest }) y.to.pid z) (state.says (Label.Served y.id) ∷ routed o)
  pub outcome : rule.here_handles pt m y.id (plainly y w) (plain_process h.x) w ≡ Some (rule.says (Label.Served y.id) ∷ rule_routed o)
  pub queue : z.queue ≡ h.x.queue
  pub memory : length pz.memory ≡ length h.x.memory
  pub fresh : (a : Message) → o ≡ Some a → pt.kernel.bag a.id ≡ None
  pub plain : (a : Message) → o ≡ Some a → is_some (plain_message a) ≡ true
  pub quiet : (v : View) (p : Pid) → view.ends_by (sort_of (plain_kind w)) v (Some p) ≡ v

pub here_known : (on : Placed) (p : Pid) (queue held : List MsgId) (z : Process) (q : List Message) (r : Option state.KernelKnown) (n : Known) → is_server p ≡ false → r ≡ Some (Record.Here (Resident.Process z)) → n ≡ view.Here → on.processes p ≡ Some (with_queue z q) → AreMessages on.bag queue z.queue → KnownStands on p queue held n r
here_known on p queue held z q r n off is here there waits =
    subst (KnownStands on p queue held n) (sym is) (subst (λ (k : Known). KnownStands on p queue held k (Some (Record.Here (Resident.Process z)))) (sym here) (here_process on p queue z q off there waits))

pub served_row : (b : Boot) (m : ℕ) (pt : Point) (l : Placed) (k : KernelState) (y : Message) (w : PlainWhat) (c : Taking b m pt l k y w) (h : IsHere b m pt l k y.to.pid) → Served b m pt l k y w c h → Row b m pt l k
served_row b m pt l k y w c h d =
    let s = pt.kernel in
    let p = y.to.pid in
    let k0 = record k { inbox = c.rest } in
    let x = plainly y w in
    let u = service.changed s y.id x d.pz in
    let next = kernels.with_sent u d.q in
    let set = placed.with_process (placed.without_message l y.id) p (Some (with_queue d.z h.queue)) in
    let on = placed.with_sent set d.o in
    let e = Label.Served y.id in
    let v = handled (begun pt m).view y.id in
    let alive : next.processes p ≡ Some (Alive d.pz) = (sent_leaves u d.q).0 p ∙ ap (λ (g : Bool). if g then Some (Alive d.pz) else s.processes p) (pid_eq-same p) in
    let lives : (q : Pid) → pid_eq p q ≡ false → next.processes q ≡ s.processes q = λ q off. (sent_leaves u d.q).0 q ∙ ap (λ (g : Bool). if g then Some (Alive d.pz) else s.processes q) off in
    let residents : (q : Pid) → pid_eq p q ≡ false → resident_at on q ≡ resident_at l q =
    λ q off. resident_same l on q (placed_processes set d.o q ∙ ap (λ (g : Bool). if g then Some (with_queue d.z h.queue) else l.processes q) off) (board_of set d.o) (manager_of set d.o) in
    let records : (q : Pid) → pid_eq p q ≡ false → (with_here k0 p d.z).records q ≡ k.records q = λ q off. ap (λ (g : Bool). if g then Some (Record.Here (Resident.Process d.z)) else k.records q) off in
    turns_row b m pt l k y w c (record {
      label = e;
      next = next;
      placed = on;
      state = with_here k0 p d.z;
      route = d.o;
      process = p;
      step = served_step s y.id x (plain_process h.x) next c.front.there h.life h.free d.serves;
      view = served_is b m pt y.id x v w refl c.front ∙ d.quiet v p;
      needs = tt;
      placed_is = served_placed pt l on m y (with_queue h.x h.queue) c.there h.placed d.placed_is;
      turn = here_turn b m pt l k y w c h (turned (with_here k0 p d.z) (state.says e ∷ routed d.o)) d.turn;
      outcome = here_outcome b m pt l k y w h (Some (rule.says e ∷ rule_routed d.o)) d.outcome;
      fresh = d.fresh;
      plain = d.plain;
      mine = λ same holds. here_known on p (pt.view.queue m p) (pt.view.held m p) d.z h.queue ((with_here k0 p d.z).records p) (pt.view.known m p) (not_server p h.process)
          (ap (λ (g : Bool). if g then Some (Record.Here (Resident.Process d.z)) else k.records p) (pid_eq-same p)) h.known
          (placed_processes set d.o p ∙ ap (λ (g : Bool). if g then Some (with_queue d.z h.queue) else l.processes p) (pid_eq-same p))
          (map_same l.bag on.bag (pt.view.queue m p) same ∙ h.waits ∙ ap (map Some) (sym d.queue));
      leaves = search (
        placed_leaves set d.o,
        (sent_leaves u d.q).2,
        (sent_leaves u d.q).1,
        lives,
        ap kernel.why_ended alive ∙ sym (ap kernel.why_ended h.life),
        ap (λ (o : Option Life). blocks_of (kernel.alive o)) alive ∙ ap (λ (n : ℕ). n / 256) d.memory ∙ ap (λ (o : Option Life). blocks_of (kernel.alive o)) (sym h.life),
        residents,
        same_manager l on (manager_of set d.o),
        λ (j : MsgId). placed_bag set (placed.without_message l y.id) d.o j refl,
        records,
        λ (q : Pid) (is : IsLeft m pt q). here_left pt m p q c.run.based.phased.phases h.known is,
      );
    })
