-- Most lines change nothing of what machines know, of rings, queues and held lists: what must be shown of the others.
use Rattle.dm_law_always.proofs.Names.{◌≡◌, ℕ, ◌+◌, ◌==◌, true, false, not, filter, refl, subst, Option, None, Some, Pid, MsgId, Step, Stage, Label, Reply, Why, OneKernel, Line, View, Told, About, Here, view_after, handled, receiver_of}
use Rattle.dm_law_always.proofs.Names.{is_away, is_here, Point, label_of, kernel_after, moved, hushed, Sane, has_nothing_held, Bool, ap, ◌∙◌, sym, inl, inr, if◌then◌else◌, cases_Bool, false≢true, pid_eq, plain_kind, PlainMessage, PlainWhat}
use Rattle.dm_law_always.proofs.Names.{Alive, Ended, Life, PlainProcess, answer_to, without_message, begun, pid_eq-is, pid_eq-same, is_kill, take, drop, by_step, is_some, seen, arith, LifeGrows, is_alive, is_server, ◌||◌}
use Rattle.dm_law_rule.proofs.Changes.{Lives}
use Rattle.dm_law_always.proofs.Based.Needs.{Resting, Serves, Unborn, Queues, Leaving, Calling, Needs, Rides, Keeps, TellsEnd}
pub use Rattle.dm_law_always.proofs.Based.Needs.{life_sort, is_over}
use Rattle.dm_onekernel.specs.Step as kernel
use Rattle.dm_law_rule.specs.View as view
use Rattle.dm_onekernel.specs.Kernel as kernels
use Rattle.dm_onekernel.specs.Pieces as pieces
use Rattle.dm_onekernel.specs.Service as service

abbrev pub Alike : OneKernel → OneKernel → Type 0
Alike s t = (q : Pid) → life_sort (t.processes q) ≡ life_sort (s.processes q)

pub some_alike : (a b : Option Life) → life_sort a ≡ life_sort b → is_some a ≡ is_some b
some_alike a b e = search arith

pub over_alike : (a b : Option Life) → life_sort a ≡ life_sort b → is_over a ≡ is_over b
over_alike a b e = search arith

pub over_is : (o : Option Life) → life_sort o ≡ Some false → is_over o ≡ true
over_is o e = search arith

-- what has ended stays so
pub ended_stays : (a b : Option Life) → LifeGrows a b → life_sort a ≡ Some false → life_sort b ≡ Some false
ended_stays None b grows e = cc
ended_stays (Some (Alive x)) b grows e = cc
ended_stays (Some (Ended y)) b grows e = ap life_sort grows

pub stays_over : (a b : Option Life) → LifeGrows a b → is_over a ≡ true → is_over b ≡ true
stays_over None b grows e = absurd (false≢true e)
stays_over (Some (Alive x)) b grows e = absurd (false≢true e)
stays_over (Some (Ended y)) b grows e = ap is_over grows

pub living_alike : (a b : Option Life) → life_sort a ≡ life_sort b → is_some (kernel.alive a) ≡ is_some (kernel.alive b)
living_alike a b e = search arith

-- who lived before still does, and a server does
pub alive_alike : (s t : OneKernel) (p : Pid) → life_sort (t.processes p) ≡ life_sort (s.processes p) → is_alive s p ≡ is_alive t p
alive_alike s t p e = ap (λ (c : Bool). is_server p || c) (sym (living_alike (t.processes p) (s.processes p) e))

-- one life is set, and the others stay
pub record SetLife (s t : OneKernel) (p : Pid) (sort : Option Bool) : Type 0 where
  pub at_ : life_sort (t.processes p) ≡ sort
  pub off : (q : Pid) → pid_eq p q ≡ false → life_sort (t.processes q) ≡ life_sort (s.processes q)

alike_sent : (s u : OneKernel) (o : Option PlainMessage) → Alike s u → Alike s (kernels.with_sent u o)
alike_sent s u o h q = search arith

set_life : (s u : OneKernel) (p : Pid) (life : Life) → u.processes ≡ s.processes → SetLife s (kernels.with_process u p life) p (life_sort (Some life))
set_life s u p life e = record {
  at_ = ap (λ (c : Bool). life_sort (if c then Some life else u.processes p)) (pid_eq-same p);
  off = λ q apart. ap (λ (c : Bool). life_sort (if c then Some life else u.processes q)) apart ∙ ap (λ (f : Pid → Option Life). life_sort (f q)) e;
}

alike_goes : (s u : OneKernel) (p : Pid) (x y : PlainProcess) → s.processes p ≡ Some (Alive x) → u.processes ≡ s.processes → Alike s (kernels.with_process u p (Alive y))
alike_goes s u p x y is e q = elim (cases_Bool (pid_eq p q)) [
  | inl same ↦ ap (λ (c : Bool). life_sort (if c then Some (Alive y) else u.processes q)) same ∙ sym (ap life_sort (ap s.processes (sym (pid_eq-is p q same)) ∙ is))
  | inr apart ↦ ap (λ (c : Bool). life_sort (if c then Some (Alive y) else u.processes q)) apart ∙ ap (λ (f : Pid → Option Life). life_sort (f q)) e
]

-- a kill ends its receiver, and the others leave it alive
pub record ServedLife (s t : OneKernel) (p : Pid) (w : PlainWhat) : Type 0 where
  pub kill : is_kill (plain_kind w) ≡ true → SetLife s t p (Some false)
  pub other : is_kill (plain_kind w) ≡ false → Alike s t

spared : (s t : OneKernel) (p : Pid) (w : PlainWhat) → is_kill (plain_kind w) ≡ false → Alike s t → ServedLife s t p w
spared s t p w e h = record { kill = λ k. absurd (false≢true (sym e ∙ k)); other = λ k. h }

-- a step that ends nobody and makes nobody
abbrev pub is_steady : Label → Bool
is_steady (Label.End p y) = false
is_steady (Label.Served id) = false
is_steady (Label.Created id p) = false
is_steady l = true

-- one that ends, one that a message ends, and one that is made
pub record EndsLife (s t : OneKernel) (p : Pid) : Type 0 where
  pub process : PlainProcess
  pub alive : s.processes p ≡ Some (Alive process)
  pub set : SetLife s t p (Some false)

pub record ServesLife (s t : OneKernel) (id : MsgId) : Type 0 where
  pub message : PlainMessage
  pub there : s.bag id ≡ Some message
  pub process : PlainProcess
  pub alive : s.processes message.to ≡ Some (Alive process)
  pub served : ServedLife s t message.to message.what

-- what each label leaves
abbrev LivesBy : OneKernel → Label → OneKernel → Type 0
LivesBy s (Label.End p y) t = EndsLife s t p
LivesBy s (Label.Served id) t = ServesLife s t id
LivesBy s (Label.Created id child) t = SetLife s t child (Some true)
LivesBy s l t = Alike s t

step_lives : (s t : OneKernel) (l : Label) → kernel.step s l ≡ Some t → LivesBy s l t
step_lives s t l =
    let by : (u : OneKernel) (k : Label) → l ≡ k → LivesBy s k u → LivesBy s l u = λ u k is h. subst (λ (x : Label). LivesBy s x u) (sym is) h in
    let served : (u : OneKernel) (id : MsgId) (m : PlainMessage) (x : PlainProcess) → l ≡ Label.Served id → Lives s id m x → is_kill (plain_kind m.what) ≡ false → Alike s u → LivesBy s l u =
    λ u id m x is w mild h. by u (Label.Served id) is (record { message = m; there = w.there; process = x; alive = w.alive; served = spared s u m.to m.what mild h }) in
    by_step (LivesBy s l) s t l (record {
      ran = λ p k x m is w. by (kernel.goes_on s p (kernel.with_machine x m)) (Label.Ran p k) is (alike_goes s s p x (kernel.with_machine x m) w.alive refl);
      replies = λ p n k c d y is w. by (kernel.goes_on s p y) (Label.Call p n c) is (alike_goes s s p w.so.x y w.so.is.alive refl);
      sends = λ p id k m y is same w. by (kernels.with_sent (kernel.goes_on s p y) (Some m)) (Label.Send p id) is (alike_goes s s p w.so.x y w.so.is.alive refl);
      waits = λ p k y is w. by (kernel.goes_on s p y) (Label.Wait p) is (alike_goes s s p w.so.x y w.so.is.alive refl);
      outputs = λ p w k v y is n. by (kernel.goes_on s p y) (Label.Out p w) is (alike_goes s s p n.so.x y n.so.is.alive refl);
      ends = λ p y next is w. by (kernels.with_process s p (Ended y)) (Label.End p y) is (record { process = w.so.x; alive = w.so.is.alive; set = set_life s s p (Ended y) refl });
      receives = λ p id y is w c. by (kernel.goes_on (without_message s id) p y) (Label.Receive p id) is (alike_goes s (without_message s id) p w.x y w.alive refl);
      refuses = λ p id c d y is w e. by (kernel.goes_on s p y) (Label.Refuse p id c) is (alike_goes s s p w.x y w.alive refl);
      dropped = λ id m y is w e. by (without_message s id) (Label.Dropped id) is (λ q. refl);
      gone = λ id m y is w v e. by (kernels.with_sent (without_message s id) (Some (answer_to m v))) (Label.Gone id) is (λ q. refl);
      asked = λ id m x machine is w e. by (kernels.with_note (without_message s id) m.to (record { id = id; asker = m.sender })) (Label.Asked id) is (λ q. refl);
      answered = λ id o p n is f. by (service.move_ended s id p n o) (Label.Answered id o) is (λ q. refl);
      stops = λ id m x b is w mild. (let y = record x { stopped = b } in served (service.changed s id m y) id m x is w mild.mild (alike_goes s (without_message s id) m.to x y w.alive refl));
      kills = λ id m x is w kill. by (kernels.with_process (without_message s id) m.to (Ended Why.Killed)) (Label.Served id) is (search (arith, w.there, w.alive, set_life, m.to));
      reads = λ id m x base len is w e.
          served (kernels.with_sent (service.changed s id m x) (Some (answer_to m (PlainWhat.Block (take len (drop base x.memory)))))) id m x is w (ap (λ v. is_kill (plain_kind v)) e) (alike_goes s (without_message s id) m.to x x w.alive refl);
      writes = λ id m x base bytes is w e.
          (let y = record x { memory = pieces.written_at x.memory base bytes } in
          served (kernels.with_sent (service.changed s id m y) (Some (answer_to m PlainWhat.Written))) id m x is w (ap (λ v. is_kill (plain_kind v)) e) (alike_goes s (without_message s id) m.to x y w.alive refl));
      lands = λ id m x r y is w mild c. served (kernels.with_sent (service.changed s id m y) (Some r)) id m x is w mild.mild (alike_goes s (without_message s id) m.to x y w.alive refl);
      done = λ id m x c y is w mild f. served (service.changed s id m y) id m x is w mild.mild (alike_goes s (without_message s id) m.to x y w.alive refl);
      board = λ id m k is there c took. by (service.switchboard_took s id k) (Label.Took id) is (alike_sent s (record (without_message s id) { switchboard = k.switchboard }) k.answer (λ q. refl));
      manager = λ id m k is there c took. by (service.manager_took s id k) (Label.Took id) is (alike_sent s (record (without_message s id) { manager = k.manager }) k.message (λ q. refl));
      creates = λ id child m image links i is w found name.
          (let h = set_life s (without_message s id) child (Alive (begun s.format i links)) refl in
          by (kernels.with_sent (service.with_created (without_message s id) child i links) (Some (answer_to m (PlainWhat.Created child)))) (Label.Created id child) is (record { at_ = h.at_; off = h.off }));
      no_room = λ id a b m image links is w. by (kernels.with_sent (without_message s id) (Some (answer_to m PlainWhat.NoRoom))) (Label.NoSpace id a b) is (λ q. refl);
    })

pub step_alike : (s t : OneKernel) (e : Label) → is_steady e ≡ true → kernel.step s e ≡ Some t → Alike s t
step_alike s t (Label.End p y) steady is = absurd (false≢true steady)
step_alike s t (Label.Served id) steady is = absurd (false≢true steady)
step_alike s t (Label.Created id child) steady is = absurd (false≢true steady)
step_alike s t l steady is = step_lives s t l is

pub step_ends : (s t : OneKernel) (p : Pid) (y : Why) → kernel.step s (Label.End p y) ≡ Some t → EndsLife s t p
step_ends s t p y = step_lives s t (Label.End p y)

pub step_serves : (s t : OneKernel) (id : MsgId) → kernel.step s (Label.Served id) ≡ Some t → ServesLife s t id
step_serves s t id = step_lives s t (Label.Served id)

pub step_creates : (s t : OneKernel) (id : MsgId) (child : Pid) → kernel.step s (Label.Created id child) ≡ Some t → SetLife s t child (Some true)
step_creates s t id child = step_lives s t (Label.Created id child)

-- Most lines change nothing of what machines know, of rings, queues and held lists: what must be shown of the others.

-- nothing of this changes
pub record Stays (v w : View) : Type 0 where
  pub known : w.known ≡ v.known
  pub ring : w.ring ≡ v.ring
  pub queue : w.queue ≡ v.queue
  pub held : w.held ≡ v.held
  pub moves : w.moves ≡ v.moves

stays : (v : View) → Stays v v
stays v = record { known = refl; ring = refl; queue = refl; held = refl; moves = refl }

forwarded_stays : (v : View) (o : Option Pid) → Stays v (view.forwarded_for v o)
forwarded_stays v o = search (arith, stays)

taken_stays : (v : View) (b : ℕ) (o : Option MsgId) → Stays v (view.taken_id v b o)
taken_stays v b o = search (arith, stays)

asks_stays : (v : View) (a : About) → Stays v (view.asks_on v a)
asks_stays v a = search (arith, stays)

proto_stays : (v : View) (o : Option Told) → Stays v (view.after_proto v o)
proto_stays v None = record { known = refl; ring = refl; queue = refl; held = refl; moves = refl }
proto_stays v (Some t) = search (arith, t.about, t.kind, asks_stays, stays)

-- what must be shown: of lines that change nothing of this, and of each of the others
pub record Loud (P : Point → Type 0) : Type 0 where
  pub rides : Rides P
  pub quiet : (pt : Point) (w : View) (t : OneKernel) (l : Line) → seen pt.kernel pt.view l ≡ w → Stays pt.view w → w.told ≡ pt.view.told → Alike pt.kernel t → Sane pt → kernel_after pt.kernel (label_of l) ≡ Some t → P pt → P (moved pt l t)
  pub ran : (pt : Point) (t : OneKernel) (p : Pid) (k : ℕ) → pt.view.known pt.view.acting p ≡ Here → Alike pt.kernel t → Sane pt → kernel.step pt.kernel (Label.Ran p k) ≡ Some t → P pt → P (moved pt (Line.Label (Label.Ran p k)) t)
  pub receive : (pt : Point) (t : OneKernel) (p : Pid) (id : MsgId) → pt.view.known pt.view.acting p ≡ Here → Alike pt.kernel t → Sane pt → kernel.step pt.kernel (Label.Receive p id) ≡ Some t → P pt → P (moved pt (Line.Label (Label.Receive p id)) t)
  pub refuse : (pt : Point) (t : OneKernel) (p : Pid) (id : MsgId) (c : Reply) → pt.view.known pt.view.acting p ≡ Here → Alike pt.kernel t → Sane pt → kernel.step pt.kernel (Label.Refuse p id c) ≡ Some t → P pt → P (moved pt (Line.Label (Label.Refuse p id c)) t)
  pub end : (pt : Point) (t : OneKernel) (p : Pid) (y : Why) → Resting pt.view p → Sane pt → kernel.step pt.kernel (Label.End p y) ≡ Some t → P pt → P (moved pt (Line.Label (Label.End p y)) t)
  pub dropped : (pt : Point) (t : OneKernel) (id : MsgId) → Alike pt.kernel t → Sane pt → kernel.step pt.kernel (Label.Dropped id) ≡ Some t → P pt → P (moved pt (Line.Label (Label.Dropped id)) t)
  pub served : (pt : Point) (t : OneKernel) (id : MsgId) → Serves pt.view id → Sane pt → kernel.step pt.kernel (Label.Served id) ≡ Some t → P pt → P (moved pt (Line.Label (Label.Served id)) t)
  pub created : (pt : Point) (t : OneKernel) (id : MsgId) (p : Pid) → Unborn pt.view p → Sane pt → kernel.step pt.kernel (Label.Created id p) ≡ Some t → P pt → P (moved pt (Line.Label (Label.Created id p)) t)
  pub queued : (pt : Point) (id : MsgId) → ((t : Told) → pt.view.told id ≡ Some t → Queues pt.view t id) → Sane pt → P pt → P (moved pt (Line.Queued id) pt.kernel)
  pub held : (pt : Point) (id : MsgId) → ((t : Told) → pt.view.told id ≡ Some t → has_nothing_held (pt.view.known pt.view.acting t.receiver) ≡ false) → Sane pt → P pt → P (moved pt (Line.Held id) pt.kernel)
  pub frozen : (pt : Point) (p : Pid) → is_alive pt.kernel p ≡ true → pt.view.known pt.view.acting p ≡ Here → P pt → P (moved pt (Line.Migration Stage.Frozen p) pt.kernel)
  pub accepted : (pt : Point) (p : Pid) → is_alive pt.kernel p ≡ true → is_away (pt.view.known pt.view.acting p) ≡ true → P pt → P (moved pt (Line.Migration Stage.Accepted p) pt.kernel)
  pub left : (pt : Point) (p : Pid) → Leaving pt.view p → P pt → P (moved pt (Line.Migration Stage.Left p) pt.kernel)
  pub restarted : (pt : Point) (p : Pid) → is_alive pt.kernel p ≡ true → is_here (pt.view.known pt.view.acting p) ≡ false → P pt → P (moved pt (Line.Migration Stage.Restarted p) pt.kernel)
  pub stays_ : (pt : Point) (p : Pid) → is_alive pt.kernel p ≡ true → is_here (pt.view.known pt.view.acting p) ≡ false → P pt → P (moved pt (Line.Stays p) pt.kernel)
  pub sent_on : (pt : Point) (p : Pid) (n : ℕ) → P pt → P (moved pt (Line.SentOn p n) pt.kernel)
  pub called : (pt : Point) (p : Pid) (n : ℕ) → Calling pt.view p → P pt → P (moved pt (Line.Called p n) pt.kernel)
  pub buried : (pt : Point) (id : MsgId) (n : ℕ) → TellsEnd pt.kernel pt.view id → Sane pt → P pt → P (moved pt (Line.Buried id n) pt.kernel)

-- a line that is no step
unmoved_kernel : (P : Point → Type 0) (pt : Point) (t : OneKernel) (l : Line) → Some pt.kernel ≡ Some t → P (moved pt l pt.kernel) → P (moved pt l t)
unmoved_kernel P pt t l e h = let f : pt.kernel ≡ t = cc in subst (λ (s : OneKernel). P (moved pt l s)) f h

quiet_line : (P : Point → Type 0) (loud : Loud P) (pt : Point) (l : Line) → kernel_after pt.kernel (label_of l) ≡ Some pt.kernel → Stays pt.view (view_after pt.view l) → (view_after pt.view l).told ≡ pt.view.told → Sane pt → P pt → P (moved pt l pt.kernel)
quiet_line P loud pt l is same told sane h = loud.quiet pt (seen pt.kernel pt.view l) pt.kernel l refl (record { known = same.known; ring = same.ring; queue = same.queue; held = same.held; moves = same.moves }) told (λ q. refl) sane is h

quiet_label : (P : Point → Type 0) (loud : Loud P) (pt : Point) (t : OneKernel) (l : Label) → Alike pt.kernel t → Stays pt.view (view_after pt.view (Line.Label l)) → (view_after pt.view (Line.Label l)).told ≡ pt.view.told → Sane pt → kernel.step pt.kernel l ≡ Some t → P pt → P (moved pt (Line.Label l) t)
quiet_label P loud pt t l alike same told sane is h = loud.quiet pt (seen pt.kernel pt.view (Line.Label l)) t (Line.Label l) refl (record { known = same.known; ring = same.ring; queue = same.queue; held = same.held; moves = same.moves }) told alike sane is h

label_keeps : (P : Point → Type 0) (loud : Loud P) (pt : Point) (t : OneKernel) (l : Label) → Needs pt (Line.Label l) → Sane pt → kernel.step pt.kernel l ≡ Some t → P pt → P (moved pt (Line.Label l) t)
label_keeps P loud pt t (Label.Ran p k) need sane is h = loud.ran pt t p k need (step_alike pt.kernel t (Label.Ran p k) refl is) sane is h
label_keeps P loud pt t (Label.Receive p id) need sane is h = loud.receive pt t p id need (step_alike pt.kernel t (Label.Receive p id) refl is) sane is h
label_keeps P loud pt t (Label.Refuse p id c) need sane is h = loud.refuse pt t p id c need (step_alike pt.kernel t (Label.Refuse p id c) refl is) sane is h
label_keeps P loud pt t (Label.Dropped id) need sane is h = loud.dropped pt t id (step_alike pt.kernel t (Label.Dropped id) refl is) sane is h
label_keeps P loud pt t (Label.End p y) need sane is h = loud.end pt t p y need sane is h
label_keeps P loud pt t (Label.Served id) need sane is h = loud.served pt t id need sane is h
label_keeps P loud pt t (Label.Created id p) need sane is h = loud.created pt t id p need sane is h
label_keeps P loud pt t any_ need sane is h = quiet_label P loud pt t any_ (step_alike pt.kernel t any_ refl is) (record { known = refl; ring = refl; queue = refl; held = refl; moves = refl }) refl sane is h

line_keeps : (P : Point → Type 0) (loud : Loud P) (pt : Point) (t : OneKernel) (l : Line) → Needs pt l → Sane pt → kernel_after pt.kernel (label_of l) ≡ Some t → P pt → P (moved pt l t)
line_keeps P loud pt t (Line.Label l) need sane is h = label_keeps P loud pt t l need sane is h
line_keeps P loud pt t (Line.Put a b i k q) need sane is h = absurd need
line_keeps P loud pt t (Line.Packet a b k l) need sane is h = absurd need
line_keeps P loud pt t (Line.Head (Step.Turn m)) need sane is h = unmoved_kernel P pt t (Line.Head (Step.Turn m)) is (quiet_line P loud pt (Line.Head (Step.Turn m)) refl (record { known = refl; ring = refl; queue = refl; held = refl; moves = refl }) refl sane h)
line_keeps P loud pt t (Line.Head (Step.Tick m)) need sane is h = unmoved_kernel P pt t (Line.Head (Step.Tick m)) is (quiet_line P loud pt (Line.Head (Step.Tick m)) refl (record { known = refl; ring = refl; queue = refl; held = refl; moves = refl }) refl sane h)
line_keeps P loud pt t (Line.Head (Step.Deliver a b k)) need sane is h = unmoved_kernel P pt t (Line.Head (Step.Deliver a b k)) is (quiet_line P loud pt (Line.Head (Step.Deliver a b k)) refl (record { known = refl; ring = refl; queue = refl; held = refl; moves = refl }) refl sane h)
line_keeps P loud pt t (Line.Head (Step.Migrate p m)) need sane is h = unmoved_kernel P pt t (Line.Head (Step.Migrate p m)) is (quiet_line P loud pt (Line.Head (Step.Migrate p m)) refl (record { known = refl; ring = refl; queue = refl; held = refl; moves = refl }) refl sane h)
line_keeps P loud pt t (Line.Head (Step.CallOff p m)) need sane is h = unmoved_kernel P pt t (Line.Head (Step.CallOff p m)) is (quiet_line P loud pt (Line.Head (Step.CallOff p m)) refl (record { known = refl; ring = refl; queue = refl; held = refl; moves = refl }) refl sane h)
line_keeps P loud pt t (Line.Migration Stage.Asked p) need sane is h = unmoved_kernel P pt t (Line.Migration Stage.Asked p) is (quiet_line P loud pt (Line.Migration Stage.Asked p) refl (record { known = refl; ring = refl; queue = refl; held = refl; moves = refl }) refl sane h)
line_keeps P loud pt t (Line.Migration Stage.StateTaken p) need sane is h =
    let l = Line.Migration Stage.StateTaken p in
    unmoved_kernel P pt t l is (quiet_line P loud pt l refl (record { known = refl; ring = refl; queue = refl; held = refl; moves = refl }) refl sane h)
line_keeps P loud pt t (Line.Migration Stage.MemoryTaken p) need sane is h = unmoved_kernel P pt t (Line.Migration Stage.MemoryTaken p) is (quiet_line P loud pt (Line.Migration Stage.MemoryTaken p) refl (record { known = refl; ring = refl; queue = refl; held = refl; moves = refl }) refl sane h)
line_keeps P loud pt t (Line.Forwarded id m) need sane is h = unmoved_kernel P pt t (Line.Forwarded id m) is (quiet_line P loud pt (Line.Forwarded id m) refl (let i = forwarded_stays (handled pt.view id) (receiver_of (pt.view.told id)) in record { known = i.known; ring = i.ring; queue = i.queue; held = i.held; moves = i.moves }) (hushed pt.view (Line.Forwarded id m) refl).told sane h)
line_keeps P loud pt t (Line.Proto id) need sane is h = unmoved_kernel P pt t (Line.Proto id) is (quiet_line P loud pt (Line.Proto id) refl (let i = proto_stays (handled pt.view id) (pt.view.told id) in record { known = i.known; ring = i.ring; queue = i.queue; held = i.held; moves = i.moves }) (hushed pt.view (Line.Proto id) refl).told sane h)
line_keeps P loud pt t (Line.Taken a b n) need sane is h =
    let p = pt.view.pair a b in
    let i = taken_stays (view.with_pair pt.view a b (record p { taken = p.taken + 1; kept = filter (λ k. not (k == n)) p.kept })) b (view.oldest p) in
    unmoved_kernel P pt t (Line.Taken a b n) is (quiet_line P loud pt (Line.Taken a b n) refl (record { known = i.known; ring = i.ring; queue = i.queue; held = i.held; moves = i.moves }) (hushed pt.view (Line.Taken a b n) refl).told sane h)
line_keeps P loud pt t (Line.Queued i) need sane is h = unmoved_kernel P pt t (Line.Queued i) is (loud.queued pt i need sane h)
line_keeps P loud pt t (Line.Held i) need sane is h = unmoved_kernel P pt t (Line.Held i) is (loud.held pt i need sane h)
line_keeps P loud pt t (Line.Migration Stage.Frozen p) need sane is h = unmoved_kernel P pt t (Line.Migration Stage.Frozen p) is (loud.frozen pt p need.0 need.1 h)
line_keeps P loud pt t (Line.Migration Stage.Accepted p) need sane is h = unmoved_kernel P pt t (Line.Migration Stage.Accepted p) is (loud.accepted pt p need.0 need.1 h)
line_keeps P loud pt t (Line.Migration Stage.Left p) need sane is h = unmoved_kernel P pt t (Line.Migration Stage.Left p) is (loud.left pt p need h)
line_keeps P loud pt t (Line.Migration Stage.Restarted p) need sane is h = unmoved_kernel P pt t (Line.Migration Stage.Restarted p) is (loud.restarted pt p need.0 need.1 h)
line_keeps P loud pt t (Line.Stays p) need sane is h = unmoved_kernel P pt t (Line.Stays p) is (loud.stays_ pt p need.0 need.1 h)
line_keeps P loud pt t (Line.SentOn p n) need sane is h = unmoved_kernel P pt t (Line.SentOn p n) is (loud.sent_on pt p n h)
line_keeps P loud pt t (Line.Called p n) need sane is h = unmoved_kernel P pt t (Line.Called p n) is (loud.called pt p n need h)
line_keeps P loud pt t (Line.Buried id n) need sane is h = unmoved_kernel P pt t (Line.Buried id n) is (loud.buried pt id n need sane h)
line_keeps P loud pt t any_ need sane is h = unmoved_kernel P pt t any_ is (quiet_line P loud pt any_ refl (record { known = refl; ring = refl; queue = refl; held = refl; moves = refl }) refl sane h)

pub keeps_by : (P : Point → Type 0) → Loud P → Keeps P
keeps_by P loud = record { rides = loud.rides; says = λ pt t l need sane is h. line_keeps P loud pt t l need sane is h }
