-- What a step of the kernel without machines does to the lives of processes: it ends one, makes one, or leaves all as they are.
use Rattle.dm_law_rule.proofs.Names.{◌≡◌, ◌⊎◌, Bool, true, false, refl, ap, ◌∙◌, sym, subst, inl, inr, if◌then◌else◌, Option, None, Some, cases_Bool, Pid, pid_eq, pid_eq-is, pid_eq-same, MsgId, Label, Why, plain_kind, PlainMessage, PlainWhat}
use Rattle.dm_law_rule.proofs.Names.{PlainProcess, Life, Alive, OneKernel, with_process, with_sent, without_message, answer_to, begun, take, drop, with_note, Ended}
use Rattle.dm_onekernel.specs.Pieces as pieces
use Rattle.dm_onekernel.specs.Service as service
use Rattle.dm_onekernel.specs.Step as kernel
use Rattle.dm_law_rule.proofs.Serving.{is_kill}
use Rattle.dm_law_rule.proofs.Changes.{by_step}

-- whether a process lives that was made
abbrev pub life_of : Option Life → Option Bool
life_of None = None
life_of (Some (Alive x)) = Some true
life_of (Some (Ended y)) = Some false

abbrev pub lives : OneKernel → Pid → Option Bool
lives s p = life_of (s.processes p)

pub life_ended : (l : Option Life) → life_of l ≡ Some false → (because : Why) × (l ≡ Some (Ended because))
life_ended None e = cc
life_ended (Some (Alive x)) e = cc
life_ended (Some (Ended y)) e = (y, refl)

pub life_alive : (l : Option Life) → life_of l ≡ Some true → (x : PlainProcess) × (l ≡ Some (Alive x))
life_alive None e = cc
life_alive (Some (Alive x)) e = (x, refl)
life_alive (Some (Ended y)) e = cc

abbrev pub Same : OneKernel → OneKernel → Type 0
Same s t = (q : Pid) → lives t q ≡ lives s q

pub record Sets (s : OneKernel) (p : Pid) (b : Bool) (t : OneKernel) : Type 0 where
  pub now : lives t p ≡ Some b
  pub others : (q : Pid) → pid_eq p q ≡ false → lives t q ≡ lives s q

-- a kill is served, or another message
pub record Kills (s : OneKernel) (id : MsgId) (t : OneKernel) : Type 0 where
  pub m : PlainMessage
  pub there : s.bag id ≡ Some m
  pub kill : is_kill (plain_kind m.what) ≡ true
  pub sets : Sets s m.to false t

pub record Spares (s : OneKernel) (id : MsgId) (t : OneKernel) : Type 0 where
  pub m : PlainMessage
  pub there : s.bag id ≡ Some m
  pub mild : is_kill (plain_kind m.what) ≡ false
  pub same : Same s t

abbrev pub After : OneKernel → Label → OneKernel → Type 0
After s (Label.End p y) t = Sets s p false t
After s (Label.Created id p) t = Sets s p true t
After s (Label.Served id) t = Kills s id t ⊎ Spares s id t
After s _ t = Same s t

sets : (s u : OneKernel) (p : Pid) (life : Life) (b : Bool) → life_of (Some life) ≡ Some b → ((q : Pid) → u.processes q ≡ (with_process s p life).processes q) → Sets s p b u
sets s u p life b is same = record {
  now = ap life_of (same p ∙ ap (λ (c : Bool). if c then Some life else s.processes p) (pid_eq-same p)) ∙ is;
  others = λ q off. ap life_of (same q ∙ ap (λ (c : Bool). if c then Some life else s.processes q) off);
}

-- a process that lives is set, and lives
alive_same : (s u : OneKernel) (p : Pid) (x y : PlainProcess) → s.processes p ≡ Some (Alive x) → ((q : Pid) → u.processes q ≡ (with_process s p (Alive y)).processes q) → Same s u
alive_same s u p x y alive same q = elim (cases_Bool (pid_eq p q)) [
  | inl is ↦ ap life_of (same q ∙ ap (λ (c : Bool). if c then Some (Alive y) else s.processes q) is) ∙ sym (subst (λ (z : Pid). lives s z ≡ Some true) (pid_eq-is p q is) (ap life_of alive))
  | inr off ↦ ap life_of (same q ∙ ap (λ (c : Bool). if c then Some (Alive y) else s.processes q) off)
]

sent_same : (s : OneKernel) (o : Option PlainMessage) (p : Pid) → (with_sent s o).processes p ≡ s.processes p
sent_same s None p = refl
sent_same s (Some m) p = refl

by : (s u : OneKernel) (l k : Label) → l ≡ k → After s k u → After s l u
by s u l k e h = subst (λ (x : Label). After s x u) (sym e) h

pub step_lives : (s t : OneKernel) (l : Label) → kernel.step s l ≡ Some t → After s l t
step_lives s t l = by_step (After s l) s t l (record {
  ran = λ p k x m e r. by s (kernel.goes_on s p (kernel.with_machine x m)) l (Label.Ran p k) e (alive_same s (kernel.goes_on s p (kernel.with_machine x m)) p x (kernel.with_machine x m) r.alive (λ q. refl));
  replies = λ p n k c d y e w. by s (kernel.goes_on s p y) l (Label.Call p n c) e (alive_same s (kernel.goes_on s p y) p w.so.x y w.so.is.alive (λ q. refl));
  sends = λ p id k m y e f w. by s (with_sent (kernel.goes_on s p y) (Some m)) l (Label.Send p id) e (alive_same s (with_sent (kernel.goes_on s p y) (Some m)) p w.so.x y w.so.is.alive (λ q. refl));
  waits = λ p k y e w. by s (kernel.goes_on s p y) l (Label.Wait p) e (alive_same s (kernel.goes_on s p y) p w.so.x y w.so.is.alive (λ q. refl));
  outputs = λ p word k v y e w. by s (kernel.goes_on s p y) l (Label.Out p word) e (alive_same s (kernel.goes_on s p y) p w.so.x y w.so.is.alive (λ q. refl));
  ends = λ p y next e w. by s (with_process s p (Ended y)) l (Label.End p y) e (sets s (with_process s p (Ended y)) p (Ended y) false refl (λ q. refl));
  receives = λ p id y e c is. by s (kernel.goes_on (without_message s id) p y) l (Label.Receive p id) e (alive_same s (kernel.goes_on (without_message s id) p y) p c.x y c.alive (λ q. refl));
  refuses = λ p id c d y e k is. by s (kernel.goes_on s p y) l (Label.Refuse p id c) e (alive_same s (kernel.goes_on s p y) p k.x y k.alive (λ q. refl));
  dropped = λ id m y e over drops. by s (without_message s id) l (Label.Dropped id) e (λ q. refl);
  gone = λ id m y e over w is. by s (with_sent (without_message s id) (Some (answer_to m w))) l (Label.Gone id) e (λ q. refl);
  stops = λ id m x b e h mild. let u = service.changed s id m (record x { stopped = b }) in by s u l (Label.Served id) e (inr (record { m = m; there = h.there; mild = mild.mild; same = alive_same s u m.to x (record x { stopped = b }) h.alive (λ q. refl) }));
  kills = λ id m x e h k. let u = with_process (without_message s id) m.to (Ended Why.Killed) in by s u l (Label.Served id) e (inl (record { m = m; there = h.there; kill = ap (λ (w : PlainWhat). is_kill (plain_kind w)) k; sets = sets s u m.to (Ended Why.Killed) false refl (λ q. refl) }));
  reads = λ id m x base len e h k.
      (let u = with_sent (service.changed s id m x) (Some (answer_to m (PlainWhat.Block (take len (drop base x.memory))))) in
      by s u l (Label.Served id) e (inr (record { m = m; there = h.there; mild = ap (λ (w : PlainWhat). is_kill (plain_kind w)) k; same = alive_same s u m.to x x h.alive (λ q. refl) })));
  writes = λ id m x base bytes e h k.
      (let y = record x { memory = pieces.written_at x.memory base bytes } in
      let u = with_sent (service.changed s id m y) (Some (answer_to m PlainWhat.Written)) in
      by s u l (Label.Served id) e (inr (record { m = m; there = h.there; mild = ap (λ (w : PlainWhat). is_kill (plain_kind w)) k; same = alive_same s u m.to x y h.alive (λ q. refl) })));
  lands = λ id m x r y e h mild lands. let u = with_sent (service.changed s id m y) (Some r) in by s u l (Label.Served id) e (inr (record { m = m; there = h.there; mild = mild.mild; same = alive_same s u m.to x y h.alive (λ q. refl) }));
  done = λ id m x c y e h mild lands. let u = service.changed s id m y in by s u l (Label.Served id) e (inr (record { m = m; there = h.there; mild = mild.mild; same = alive_same s u m.to x y h.alive (λ q. refl) }));
  board = λ id m k e there to took. by s (service.switchboard_took s id k) l (Label.Took id) e (λ q. ap life_of (sent_same (record (without_message s id) { switchboard = k.switchboard }) k.answer q));
  manager = λ id m k e there to took. by s (service.manager_took s id k) l (Label.Took id) e (λ q. ap life_of (sent_same (record (without_message s id) { manager = k.manager }) k.message q));
  creates = λ id child m image links i e asked is new.
      (let u = with_sent (service.with_created (without_message s id) child i links) (Some (answer_to m (PlainWhat.Created child))) in
      by s u l (Label.Created id child) e (sets s u child (Alive (begun s.format i links)) true refl (λ q. refl)));
  no_room = λ id a b m image links e asked. by s (with_sent (without_message s id) (Some (answer_to m PlainWhat.NoRoom))) l (Label.NoSpace id a b) e (λ q. refl);
  asked = λ id m x machine e h k. by s (with_note (without_message s id) m.to (record { id = id; asker = m.sender })) l (Label.Asked id) e (λ q. refl);
  answered = λ id o p n e f. by s (service.move_ended s id p n o) l (Label.Answered id o) e (λ q. refl);
})
