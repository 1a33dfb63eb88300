-- A piece of a process's own data move lands: the next request goes out, or the move is over.
use Rattle.dm_law_mirror.proofs.Names.{◌≡◌, ℕ, ◌+◌, ◌≤◌, ◌==◌, ◌&&◌, Bool, true, false, List, [], ◌∷◌, length, refl, ap, ◌∙◌, sym, subst, is_some, nat_le, nat_lt, arith, if◌then◌else◌, Option, None, Some, nat_tests, Addr, Pid, MsgId, Message}
use Rattle.dm_law_mirror.proofs.Names.{What, id_of, plain_kind, Label, Reply, PlainMessage, PlainWhat, plain_message, plain_what, Process, Direction, Status, Landed, Rest, Landing, plain_landed, ends_plainly, goes_on_plainly, length-written}
use Rattle.dm_law_mirror.proofs.Names.{Boot, Alive, OneKernel, bind, piece_of, written_at, plain_process, plain_status, PlainProcess, counts, is_counted, unentered, lands-is, counts_process, not_server, bind-is, Routes, Point, View, bag_none}
use Rattle.dm_law_mirror.proofs.Names.{both, Placed, after_landing, parts, lands_match, with_queue, plainly, block_what, written_what, gone_what, here_handles, KernelState, take, drop, after_serving, answer, answer_of, answer_with}
use Rattle.dm_law_mirror.proofs.Names.{serving_answer, answer_id, answer_to, bag_served, served_id, has_bytes, WhatFits, answers_match, read_what, write_what, stop_what, resume_what, sort_of, some_is, none_some}
use Rattle.dm_law_rule.proofs.Names.{Part}
use Rattle.dm_law_mirror.proofs.Handle.Taking.{Taking, sane_of}
use Rattle.dm_law_mirror.proofs.Turning.{Row}
use Rattle.dm_law_mirror.proofs.Handle.Ended.{IsHere, served_row, served_step}
use Rattle.dm_datamove.specs.Landing as landing
use Rattle.dm_onekernel.specs.Pieces as pieces
use Rattle.dm_onekernel.specs.Service as service
use Rattle.dm_law_rule.specs.Rule as rule
use Rattle.dm_law_rule.specs.View as view
use Rattle.dm_law_places.specs.PlacedStep as placed
use Rattle.dm_kernel.specs.Handle as machine
use Rattle.dm_onekernel.specs.Kernel as kernels
use Rattle.dm_onekernel.specs.Step as kernel

-- a landing with places, and what it comes to without: the process keeps its queue and the length of its memory
record Lands (p : Pid) (x : Process) (o : Option Landing) (c : pieces.Landed) : Type 0 where
  d : Landing
  lands : o ≡ Some d
  plain : plain_landed d.landed d.process ≡ Some c
  queue : d.process.queue ≡ x.queue
  memory : length d.process.memory ≡ length x.memory

goes_lands : (here : ℕ) (p : Pid) (x y : Process) (o : Option Landing) (r : Rest) (c : pieces.Landed) → o ≡ Some (landing.goes_on here y r) → y.pid ≡ p → y.queue ≡ x.queue → length y.memory ≡ length x.memory
    → pieces.move_goes_on p (plain_process y) r.dir r.owner.pid r.base r.own r.left (piece_of r.left) ≡ c → Lands p x o c
goes_lands here p x y o r c e pid queue memory f =
    let queue_ : (landing.goes_on here y r).process.queue ≡ y.queue = grind (arith, nat_tests) in
    let memory_ : (landing.goes_on here y r).process.memory ≡ y.memory = grind (arith, nat_tests) in
    search (
      goes_on_plainly here y r ∙ ap (λ (q : Pid). Some (pieces.move_goes_on q (plain_process y) r.dir r.owner.pid r.base r.own r.left (piece_of r.left))) pid ∙ ap Some f,
      queue_ ∙ queue,
      ap length memory_ ∙ memory,
    )

lands_what_of : (here : ℕ) (p : Pid) (x : Process) (dir : Direction) (owner : Addr) (base own left : ℕ) (w : What) (u : PlainWhat) (c : pieces.Landed) → plain_what w ≡ Some u → x.pid ≡ p
    → pieces.lands_what p (plain_process x) dir owner.pid base own left u ≡ Some c → Lands p x (landing.lands_what here x (record { dir = dir; owner = owner; base = base; own = own; left = left }) dir w) c
lands_what_of here p x Direction.FromArea owner base own left w (PlainWhat.Block bytes) c is pid e =
    let r : Rest = record { dir = Direction.FromArea; owner = owner; base = base; own = own; left = left } in
    let b = block_what w bytes is in
    let y : Process = record x { memory = written_at x.memory own b.body.items } in
    let f = some_is ((length bytes == piece_of left) && nat_le (own + left) (length x.memory)) (pieces.move_goes_on p (record (plain_process x) { memory = written_at x.memory own bytes }) Direction.FromArea owner.pid base own left (piece_of left)) c e in
    let fits : own + length b.body.items ≤ length x.memory = subst (λ (bs : List ℕ). own + length bs ≤ length x.memory) (sym b.bytes_are) (grind (arith, nat_tests, both, nat_le, f.0)) in
    goes_lands here p x y (landing.lands_what here x r Direction.FromArea w) r c (ap (landing.lands_what here x r Direction.FromArea) b.is) pid refl (length-written x.memory own b.body.items fits)
    (ap (λ (bs : List ℕ). pieces.move_goes_on p (record (plain_process x) { memory = written_at x.memory own bs }) Direction.FromArea owner.pid base own left (piece_of left)) b.bytes_are ∙ f.1)
lands_what_of here p x Direction.IntoArea owner base own left w PlainWhat.Written c is pid e =
    let r : Rest = record { dir = Direction.IntoArea; owner = owner; base = base; own = own; left = left } in
    let f = some_is (nat_le (own + left) (length x.memory)) (pieces.move_goes_on p (plain_process x) Direction.IntoArea owner.pid base own left (piece_of left)) c e in
    goes_lands here p x x (landing.lands_what here x r Direction.IntoArea w) r c (ap (landing.lands_what here x r Direction.IntoArea) (written_what w is)) pid refl refl f.1
lands_what_of here p x Direction.FromArea owner base own left w PlainWhat.Gone c is pid e =
    let r : Rest = record { dir = Direction.FromArea; owner = owner; base = base; own = own; left = left } in
    let f : pieces.done Reply.Gone (plain_process x) ≡ c = cc in
    record { d = landing.done Reply.Gone x; lands = ap (landing.lands_what here x r Direction.FromArea) (gone_what w is); plain = ends_plainly Reply.Gone x ∙ ap Some f; queue = refl; memory = refl }
lands_what_of here p x Direction.IntoArea owner base own left w PlainWhat.Gone c is pid e =
    let r : Rest = record { dir = Direction.IntoArea; owner = owner; base = base; own = own; left = left } in
    let f : pieces.done Reply.Gone (plain_process x) ≡ c = cc in
    record { d = landing.done Reply.Gone x; lands = ap (landing.lands_what here x r Direction.IntoArea) (gone_what w is); plain = ends_plainly Reply.Gone x ∙ ap Some f; queue = refl; memory = refl }
lands_what_of here p x dir owner base own left w u c is pid e = none_some c e

lands_if : (here : ℕ) (p : Pid) (x : Process) (b : Bool) (dir : Direction) (owner : Addr) (base own left : ℕ) (w : What) (u : PlainWhat) (c : pieces.Landed) → plain_what w ≡ Some u → x.pid ≡ p
    → (if b then pieces.lands_what p (plain_process x) dir owner.pid base own left u else None) ≡ Some c → Lands p x (landing.lands_what here x (record { dir = dir; owner = owner; base = base; own = own; left = left }) dir w) c
lands_if here p x true dir owner base own left w u c is pid e = lands_what_of here p x dir owner base own left w u c is pid e
lands_if here p x false dir owner base own left w u c is pid e = none_some c e

lands_of : (here : ℕ) (p : Pid) (x : Process) (m : Message) (u : PlainWhat) (st : Status) (c : pieces.Landed) → plain_what m.what ≡ Some u → x.pid ≡ p → pieces.lands p (plain_process x) (plainly m u) (plain_status st) ≡ Some c → Lands p x (landing.landing here x m.what st) c
lands_of here p x m u (Status.Moving dir owner base own left pending) c is pid e = lands_if here p x (m.id.n == pending) dir owner base own left m.what u c is pid e
lands_of here p x m u _ c is pid e = none_some c e

-- a number that its sender doesn't count yet
own_fresh : (b : Boot) (m : ℕ) (pt : Point) (l : Placed) (k : KernelState) (y : Message) (w : PlainWhat) (c : Taking b m pt l k y w) (p : Pid) (z : PlainProcess) → pt.kernel.processes p ≡ Some (Alive z) → pt.kernel.bag (id_of p z.sent) ≡ None
own_fresh b m pt l k y w c p z life =
    let s = pt.kernel in
    let seen = sane_of b m pt l k y w c in
    let i = id_of p z.sent in
    let server = not_server s p z life seen.sound.made in
    let off : counts s i ≡ false = counts_process s p i refl server ∙ ap (is_counted z.sent) life ∙ (let f : nat_lt z.sent z.sent ≡ false = grind (arith, nat_tests) in f) in
    bag_none seen.r seen.e s i (unentered seen.r seen.e s i seen.sound.entered off) seen.sound.entered

-- what it comes to
abbrev Lands_as : PlainWhat → Type 0
Lands_as w = (s : OneKernel) (i : MsgId) (x : PlainMessage) (z : PlainProcess) → service.serves s i x z w ≡ bind (pieces.lands x.to z x z.status) (λ (r : pieces.Landed). Some (service.landed s i x r))

landed_row : (b : Boot) (m : ℕ) (pt : Point) (l : Placed) (k : KernelState) (y : Message) (w : PlainWhat) (c : Taking b m pt l k y w) (h : IsHere b m pt l k y.to.pid) (f : pieces.Landed) (d : Landing) (e : Landed) → d.landed ≡ e
    → Lands_as w → placed.serves m (placed.without_message l y.id) y (with_queue h.x h.queue) y.what ≡ placed.lands m (placed.without_message l y.id) y (with_queue h.x h.queue)
    → here_handles (record k { inbox = c.rest }) y h.x y.what ≡ machine.lands (record k { inbox = c.rest }) y (landing.landing k.here h.x y.what h.x.status)
    → rule.here_handles pt m y.id (plainly y w) (plain_process h.x) w ≡ rule.landing_parts y.id (pieces.lands y.to.pid (plain_process h.x) (plainly y w) (plain_process h.x).status)
    → ((v : View) (p : Pid) → view.ends_by (sort_of (plain_kind w)) v (Some p) ≡ v) → landing.landing m h.x y.what h.x.status ≡ Some d → pieces.lands y.to.pid (plain_process h.x) (plainly y w) (plain_process h.x).status ≡ Some f
    → plain_landed d.landed d.process ≡ Some f → d.process.queue ≡ h.x.queue → length d.process.memory ≡ length h.x.memory → Row b m pt l k
landed_row b m pt l k y w c h f d (Landed.Done r) e serves_as placed_as turn_as outcome_as quiet lands plain_lands plain queue memory =
    let s = pt.kernel in
    let k0 = record k { inbox = c.rest } in
    let x = plainly y w in
    let px = plain_process h.x in
    let z = d.process in
    let done : pieces.Done r (plain_process z) ≡ f = let g : Some (pieces.Done r (plain_process z)) ≡ Some f = sym (ap (λ (n : Landed). plain_landed n z) e) ∙ plain in cc in
    let is : pieces.lands y.to.pid px x px.status ≡ Some (pieces.Done r (plain_process z)) = plain_lands ∙ ap Some (sym done) in
    served_row b m pt l k y w c h (record {
      z = z;
      pz = plain_process z;
      o = None;
      q = None;
      serves = serves_as s y.id x px ∙ ap (λ (o : Option pieces.Landed). bind o (λ (n : pieces.Landed). Some (service.landed s y.id x n))) is;
      placed_is = placed_as ∙ lands_match m (placed.without_message l y.id) y h.x h.queue d lands ∙ ap (λ (n : Landed). Some (after_landing (placed.without_message l y.id) y.to.pid n (with_queue z h.queue))) e;
      turn = turn_as ∙ ap (λ (n : ℕ). machine.lands k0 y (landing.landing n h.x y.what h.x.status)) c.stands.here ∙ ap (machine.lands k0 y) lands ∙ ap (machine.lands_as k0 y z) e;
      outcome = outcome_as ∙ ap (rule.landing_parts y.id) is;
      queue = queue;
      memory = memory;
      fresh = λ a g. cc;
      plain = λ a g. cc;
      quiet = quiet;
    })
landed_row b m pt l k y w c h f d (Landed.Next n) e serves_as placed_as turn_as outcome_as quiet lands plain_lands plain queue memory =
    let s = pt.kernel in
    let k0 = record k { inbox = c.rest } in
    let p = y.to.pid in
    let x = plainly y w in
    let px = plain_process h.x in
    let z = d.process in
    let (q, says, last) = bind-is (plain_message n) (λ (g : PlainMessage). Some (pieces.Next g (plain_process z))) f (sym (ap (λ (g : Landed). plain_landed g z) e) ∙ plain) in
    let is : pieces.lands p px x px.status ≡ Some (pieces.Next q (plain_process z)) = plain_lands ∙ ap Some (sym (cc)) in
    let so = lands-is p px x px.status (pieces.Next q (plain_process z)) is in
    let name : n.id ≡ q.id = (parts n q says).id in
    served_row b m pt l k y w c h (record {
      z = z;
      pz = plain_process z;
      o = Some n;
      q = Some q;
      serves = serves_as s y.id x px ∙ ap (λ (o : Option pieces.Landed). bind o (λ (g : pieces.Landed). Some (service.landed s y.id x g))) is;
      placed_is = placed_as ∙ lands_match m (placed.without_message l y.id) y h.x h.queue d lands ∙ ap (λ (g : Landed). Some (after_landing (placed.without_message l y.id) p g (with_queue z h.queue))) e;
      turn = turn_as ∙ ap (λ (g : ℕ). machine.lands k0 y (landing.landing g h.x y.what h.x.status)) c.stands.here ∙ ap (machine.lands k0 y) lands ∙ ap (machine.lands_as k0 y z) e;
      outcome = outcome_as ∙ ap (rule.landing_parts y.id) is ∙ ap (λ (i : MsgId). Some (rule.says (Label.Served y.id) ∷ Routes i ∷ [])) (sym name);
      queue = queue;
      memory = memory;
      fresh = λ a g. let same : n ≡ a = cc in ap (λ (v : Message). s.bag v.id) (sym same) ∙ ap s.bag (name ∙ so.0.id) ∙ own_fresh b m pt l k y w c p px h.life;
      plain = λ a g. let same : n ≡ a = cc in ap (λ (v : Message). is_some (plain_message v)) (sym same) ∙ ap is_some says;
      quiet = quiet;
    })

lands_some : (i : MsgId) (o : Option pieces.Landed) (ps : List Part) → rule.landing_parts i o ≡ Some ps → (f : pieces.Landed) × (o ≡ Some f)
lands_some i o ps e = grind (arith, nat_tests)

land_row : (b : Boot) (m : ℕ) (pt : Point) (l : Placed) (k : KernelState) (y : Message) (w : PlainWhat) (ps : List Part) (c : Taking b m pt l k y w) (h : IsHere b m pt l k y.to.pid) → Lands_as w
    → placed.serves m (placed.without_message l y.id) y (with_queue h.x h.queue) y.what ≡ placed.lands m (placed.without_message l y.id) y (with_queue h.x h.queue)
    → here_handles (record k { inbox = c.rest }) y h.x y.what ≡ machine.lands (record k { inbox = c.rest }) y (landing.landing k.here h.x y.what h.x.status)
    → rule.here_handles pt m y.id (plainly y w) (plain_process h.x) w ≡ rule.landing_parts y.id (pieces.lands y.to.pid (plain_process h.x) (plainly y w) (plain_process h.x).status)
    → ((v : View) (p : Pid) → view.ends_by (sort_of (plain_kind w)) v (Some p) ≡ v) → rule.here_handles pt m y.id (plainly y w) (plain_process h.x) w ≡ Some ps → Row b m pt l k
land_row b m pt l k y w ps c h serves_as placed_as turn_as outcome_as quiet goes =
    let px = plain_process h.x in
    let (f, is) = lands_some y.id (pieces.lands y.to.pid px (plainly y w) px.status) ps (sym outcome_as ∙ goes) in
    let g = lands_of m y.to.pid h.x y w h.x.status f c.says h.pid is in
    landed_row b m pt l k y w c h f g.d g.d.landed refl serves_as placed_as turn_as outcome_as quiet g.lands is g.plain g.queue g.memory

pub block_row : (b : Boot) (m : ℕ) (pt : Point) (l : Placed) (k : KernelState) (y : Message) (bytes : List ℕ) (ps : List Part) (c : Taking b m pt l k y (PlainWhat.Block bytes)) (h : IsHere b m pt l k y.to.pid) → rule.here_handles pt m y.id (plainly y (PlainWhat.Block bytes)) (plain_process h.x) (PlainWhat.Block bytes) ≡ Some ps → Row b m pt l k
block_row b m pt l k y bytes ps c h goes =
    let is = (block_what y.what bytes c.says).is in
    land_row b m pt l k y (PlainWhat.Block bytes) ps c h (λ s i x z. refl) (ap (placed.serves m (placed.without_message l y.id) y (with_queue h.x h.queue)) is) (ap (here_handles (record k { inbox = c.rest }) y h.x) is) refl (λ v p. refl) goes

pub written_row : (b : Boot) (m : ℕ) (pt : Point) (l : Placed) (k : KernelState) (y : Message) (ps : List Part) (c : Taking b m pt l k y PlainWhat.Written) (h : IsHere b m pt l k y.to.pid) → rule.here_handles pt m y.id (plainly y PlainWhat.Written) (plain_process h.x) PlainWhat.Written ≡ Some ps → Row b m pt l k
written_row b m pt l k y ps c h goes =
    let is = written_what y.what c.says in
    land_row b m pt l k y PlainWhat.Written ps c h (λ s i x z. refl) (ap (placed.serves m (placed.without_message l y.id) y (with_queue h.x h.queue)) is) (ap (here_handles (record k { inbox = c.rest }) y h.x) is) refl (λ v p. refl) goes

pub gone_row : (b : Boot) (m : ℕ) (pt : Point) (l : Placed) (k : KernelState) (y : Message) (ps : List Part) (c : Taking b m pt l k y PlainWhat.Gone) (h : IsHere b m pt l k y.to.pid) → rule.here_handles pt m y.id (plainly y PlainWhat.Gone) (plain_process h.x) PlainWhat.Gone ≡ Some ps → Row b m pt l k
gone_row b m pt l k y ps c h goes =
    let is = gone_what y.what c.says in
    land_row b m pt l k y PlainWhat.Gone ps c h (λ s i x z. refl) (ap (placed.serves m (placed.without_message l y.id) y (with_queue h.x h.queue)) is) (ap (here_handles (record k { inbox = c.rest }) y h.x) is) refl (λ v p. refl) goes

-- Messages that stop and resume a process, and requests for a piece of its memory.

-- stop, resume
pub stop_row : (b : Boot) (m : ℕ) (pt : Point) (l : Placed) (k : KernelState) (y : Message) (c : Taking b m pt l k y PlainWhat.Stop) → IsHere b m pt l k y.to.pid → Row b m pt l k
stop_row b m pt l k y c h =
    let is = stop_what y.what c.says in
    served_row b m pt l k y PlainWhat.Stop c h (record {
      z = record h.x { stopped = true };
      pz = record (plain_process h.x) { stopped = true };
      o = None;
      q = None;
      serves = refl;
      placed_is = ap (placed.serves m (placed.without_message l y.id) y (with_queue h.x h.queue)) is;
      turn = ap (here_handles (record k { inbox = c.rest }) y h.x) is;
      outcome = refl;
      queue = refl;
      memory = refl;
      fresh = λ a e. cc;
      plain = λ a e. cc;
      quiet = λ v p. refl;
    })

pub resume_row : (b : Boot) (m : ℕ) (pt : Point) (l : Placed) (k : KernelState) (y : Message) (c : Taking b m pt l k y PlainWhat.Resume) → IsHere b m pt l k y.to.pid → Row b m pt l k
resume_row b m pt l k y c h =
    let is = resume_what y.what c.says in
    served_row b m pt l k y PlainWhat.Resume c h (record {
      z = record h.x { stopped = false };
      pz = record (plain_process h.x) { stopped = false };
      o = None;
      q = None;
      serves = refl;
      placed_is = ap (placed.serves m (placed.without_message l y.id) y (with_queue h.x h.queue)) is;
      turn = ap (here_handles (record k { inbox = c.rest }) y h.x) is;
      outcome = refl;
      queue = refl;
      memory = refl;
      fresh = λ a e. cc;
      plain = λ a e. cc;
      quiet = λ v p. refl;
    })

-- what a served message sends is new
pub served_fresh : (b : Boot) (m : ℕ) (pt : Point) (l : Placed) (k : KernelState) (y : Message) (w : PlainWhat) (c : Taking b m pt l k y w) (h : IsHere b m pt l k y.to.pid) (t : OneKernel) (i : MsgId) → kernel.step pt.kernel (Label.Served y.id) ≡ Some t
    → served_id y.id (plainly y w) (plain_process h.x) w ≡ Some i → pt.kernel.bag i ≡ None
served_fresh b m pt l k y w c h t i step is =
    let s = pt.kernel in
    let seen = sane_of b m pt l k y w c in
    let g = bag_served seen.r seen.e s t y.id step seen.sound in
    let same : g.m ≡ plainly y w = let f : Some g.m ≡ Some (plainly y w) = sym g.there ∙ c.front.there in cc in
    let one : g.x ≡ plain_process h.x = cc in
    bag_none seen.r seen.e s i (g.is.fresh i ((λ j. served_id y.id (same j) (one j) (same j).what) ∙ is)) seen.sound.entered

pub read_row : (b : Boot) (m : ℕ) (pt : Point) (l : Placed) (k : KernelState) (y : Message) (base len : ℕ) (c : Taking b m pt l k y (PlainWhat.Read base len)) → IsHere b m pt l k y.to.pid → WhatFits pt.kernel y.id (plainly y (PlainWhat.Read base len)) (PlainWhat.Read base len) → Row b m pt l k
read_row b m pt l k y base len c h fits =
    let s = pt.kernel in
    let w = PlainWhat.Read base len in
    let k0 = record k { inbox = c.rest } in
    let x = plainly y w in
    let px = plain_process h.x in
    let is = read_what y.what base len c.says in
    let bytes = take len (drop base h.x.memory) in
    let a = answer m h.x.moves y (What.Block (record { items = bytes })) in
    let q = answer_to x (PlainWhat.Block bytes) in
    let z = after_serving h.x y.what in
    let within = sym (ap (has_bytes (base + len)) h.life) ∙ fits.0 in
    let reads : pieces.reads px x base len ≡ Some (record { process = px; answer = q }) = ap (λ (d : Bool). if d then Some (record { process = px; answer = q }) else None) within in
    let serves : service.serves s y.id x px w ≡ Some (kernels.with_sent (service.changed s y.id x px) (Some q)) = ap (λ (o : Option pieces.Served). bind o (λ (r : pieces.Served). Some (service.answered s y.id x r))) reads in
    let answers : serving_answer m h.x y ≡ Some a = ap (λ (v : What). answer_with m h.x y (answer_of h.x v)) is in
    served_row b m pt l k y w c h (record {
      z = z;
      pz = px;
      o = Some a;
      q = Some q;
      serves = serves;
      placed_is = ap (placed.serves m (placed.without_message l y.id) y (with_queue h.x h.queue)) is ∙ answers_match m (placed.without_message l y.id) y a h.x h.queue answers;
      turn = ap (here_handles k0 y h.x) is ∙ ap (λ (n : ℕ). machine.answers_with k0 y z (serving_answer n h.x y)) c.stands.here ∙ ap (machine.answers_with k0 y z) answers;
      outcome = refl;
      queue = ap (λ (v : What). (after_serving h.x v).queue) is;
      memory = refl;
      fresh = λ n e. let f : a ≡ n = cc in ap (λ (g : Message). s.bag g.id) (sym f) ∙ served_fresh b m pt l k y w c h (kernels.with_sent (service.changed s y.id x px) (Some q)) (answer_id y.id)
          (served_step s y.id x px (kernels.with_sent (service.changed s y.id x px) (Some q)) c.front.there h.life h.free serves) refl;
      plain = λ n e. let f : a ≡ n = cc in ap (λ (v : Message). is_some (plain_message v)) (sym f);
      quiet = λ v p. refl;
    })

pub write_row : (b : Boot) (m : ℕ) (pt : Point) (l : Placed) (k : KernelState) (y : Message) (base : ℕ) (bytes : List ℕ) (c : Taking b m pt l k y (PlainWhat.Write base bytes)) → IsHere b m pt l k y.to.pid → WhatFits pt.kernel y.id (plainly y (PlainWhat.Write base bytes)) (PlainWhat.Write base bytes) → Row b m pt l k
write_row b m pt l k y base bytes c h fits =
    let s = pt.kernel in
    let w = PlainWhat.Write base bytes in
    let k0 = record k { inbox = c.rest } in
    let x = plainly y w in
    let px = plain_process h.x in
    let g = write_what y.what base bytes c.says in
    let a = answer m h.x.moves y What.Written in
    let q = answer_to x PlainWhat.Written in
    let z = after_serving h.x y.what in
    let pz : PlainProcess = record px { memory = written_at px.memory base bytes } in
    let within = sym (ap (has_bytes (base + length bytes)) h.life) ∙ fits.0 in
    let writes : pieces.writes px x base bytes ≡ Some (record { process = pz; answer = q }) = ap (λ (d : Bool). if d then Some (record { process = pz; answer = q }) else None) within in
    let serves : service.serves s y.id x px w ≡ Some (kernels.with_sent (service.changed s y.id x pz) (Some q)) = ap (λ (o : Option pieces.Served). bind o (λ (r : pieces.Served). Some (service.answered s y.id x r))) writes in
    let answers : serving_answer m h.x y ≡ Some a = ap (λ (v : What). answer_with m h.x y (answer_of h.x v)) g.is in
    served_row b m pt l k y w c h (record {
      z = z;
      pz = pz;
      o = Some a;
      q = Some q;
      serves = serves;
      placed_is = ap (placed.serves m (placed.without_message l y.id) y (with_queue h.x h.queue)) g.is ∙ answers_match m (placed.without_message l y.id) y a h.x h.queue answers;
      turn = ap (here_handles k0 y h.x) g.is ∙ ap (λ (n : ℕ). machine.answers_with k0 y z (serving_answer n h.x y)) c.stands.here ∙ ap (machine.answers_with k0 y z) answers;
      outcome = refl;
      queue = ap (λ (v : What). (after_serving h.x v).queue) g.is;
      memory = length-written h.x.memory base bytes (let f : base + length bytes ≤ length h.x.memory = grind (arith, nat_tests) in f);
      fresh = λ n e. let f : a ≡ n = cc in ap (λ (v : Message). s.bag v.id) (sym f) ∙ served_fresh b m pt l k y w c h (kernels.with_sent (service.changed s y.id x pz) (Some q)) (answer_id y.id)
          (served_step s y.id x px (kernels.with_sent (service.changed s y.id x pz) (Some q)) c.front.there h.life h.free serves) refl;
      plain = λ n e. let f : a ≡ n = cc in ap (λ (v : Message). is_some (plain_message v)) (sym f);
      quiet = λ v p. refl;
    })
