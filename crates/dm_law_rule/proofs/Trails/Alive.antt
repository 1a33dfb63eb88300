-- What lives behind a label has lived before it, but for a process that the label makes; and what a label ends doesn't live on.
use Rattle.dm_law_rule.proofs.Names.{◌≡◌, Bool, true, false, refl, ap, ◌∙◌, sym, subst, inl, inr, if◌then◌else◌, Option, None, Some, cases_Bool, false≢true, or_left, or_right, bind, bind-is, when-is, Pid, pid_eq, pid_eq-is, pid_eq-same, MsgId}
use Rattle.dm_law_rule.proofs.Names.{Label, PlainMessage, PlainWhat, PlainProcess, Alive, Life, OneKernel, with_process, with_sent, without_message, is_some, begun, ◌||◌, Why, is_server, is_alive, Ended, none_some}
use Rattle.dm_onekernel.specs.Calls as calls
use Rattle.dm_onekernel.specs.Pieces as pieces
use Rattle.dm_onekernel.specs.Service as service
use Rattle.dm_onekernel.specs.Step as kernel
use Rattle.dm_law_rule.proofs.Changes.{by_step}

-- the label makes this process
abbrev pub makes : Label → Pid → Bool
makes (Label.Created id p) q = pid_eq p q
makes l q = false

abbrev lives : Option Life → Bool
lives o = is_some (kernel.alive o)

-- where what is known of one process is set
set_life : (s : OneKernel) (p : Pid) (life : Life) (q : Pid) → (lives (Some life) ≡ true → is_alive s p ≡ true) → is_alive (with_process s p life) q ≡ true → is_alive s q ≡ true
set_life s p life q was e = elim (cases_Bool (pid_eq p q)) [
  | inl same ↦
      let is : p ≡ q = pid_eq-is p q same in
      let now : (is_server q || lives (Some life)) ≡ true = sym (ap (λ (c : Bool). is_server q || lives (if c then Some life else s.processes q)) same) ∙ e in
      elim (cases_Bool (lives (Some life))) [
        | inl on ↦ subst (λ (r : Pid). is_alive s r ≡ true) is (was on)
        | inr off ↦ or_left (is_server q) (lives (s.processes q)) (server_only (is_server q) (lives (Some life)) off now)
      ]
  | inr apart ↦ sym (ap (λ (c : Bool). is_server q || lives (if c then Some life else s.processes q)) apart) ∙ e
]
  where
    server_only : (a b : Bool) → b ≡ false → (a || b) ≡ true → a ≡ true
    server_only true b off e = refl
    server_only false b off e = absurd (false≢true (sym off ∙ e))

alive_there : (s : OneKernel) (p : Pid) (x : PlainProcess) → s.processes p ≡ Some (Alive x) → is_alive s p ≡ true
alive_there s p x is = or_right (is_server p) (lives (s.processes p)) (ap lives is)

goes : (s : OneKernel) (p : Pid) (x y : PlainProcess) → s.processes p ≡ Some (Alive x) → (q : Pid) → is_alive (with_process s p (Alive y)) q ≡ true → is_alive s q ≡ true
goes s p x y is q e = set_life s p (Alive y) q (λ on. alive_there s p x is) e

ends : (s : OneKernel) (p : Pid) (y : Why) (q : Pid) → is_alive (with_process s p (Ended y)) q ≡ true → is_alive s q ≡ true
ends s p y q e = set_life s p (Ended y) q (λ on. absurd (false≢true on)) e

sent_same : (s : OneKernel) (o : Option PlainMessage) (q : Pid) → is_alive (with_sent s o) q ≡ true → is_alive s q ≡ true
sent_same s None q e = e
sent_same s (Some m) q e = e

-- nothing else is born
pub alive_before : (s t : OneKernel) (l : Label) → kernel.step s l ≡ Some t → (q : Pid) → makes l q ≡ false → is_alive t q ≡ true → is_alive s q ≡ true
alive_before s t l e = by_step (λ u. (q : Pid) → makes l q ≡ false → is_alive u q ≡ true → is_alive s q ≡ true) s t l (record {
  ran = λ p k x m is w q off h. goes s p x (kernel.with_machine x m) w.alive q h;
  replies = λ p n k c d y is w q off h. goes s p w.so.x y w.so.is.alive q h;
  sends = λ p id k m y is same w q off h. goes s p w.so.x y w.so.is.alive q h;
  waits = λ p k y is w q off h. goes s p w.so.x y w.so.is.alive q h;
  outputs = λ p w k v y is n q off h. goes s p n.so.x y n.so.is.alive q h;
  ends = λ p y next is w q off h. ends s p y q h;
  receives = λ p id y is w c q off h. goes (without_message s id) p w.x y w.alive q h;
  refuses = λ p id c d y is w f q off h. goes s p w.x y w.alive q h;
  dropped = λ id m y is w f q off h. h;
  gone = λ id m y is w v f q off h. h;
  stops = λ id m x b is w mild q off h. goes (without_message s id) m.to x (record x { stopped = b }) w.alive q h;
  kills = λ id m x is w what q off h. ends (without_message s id) m.to Why.Killed q h;
  reads = λ id m x base len is w what q off h. goes (without_message s id) m.to x x w.alive q h;
  writes = λ id m x base bytes is w what q off h. goes (without_message s id) m.to x (record x { memory = pieces.written_at x.memory base bytes }) w.alive q h;
  lands = λ id m x r y is w mild f q off h. goes (without_message s id) m.to x y w.alive q h;
  done = λ id m x c y is w mild f q off h. goes (without_message s id) m.to x y w.alive q h;
  board = λ id m k is there at f q off h. sent_same (record (without_message s id) { switchboard = k.switchboard }) k.answer q h;
  manager = λ id m k is there at f q off h. sent_same (record (without_message s id) { manager = k.manager }) k.message q h;
  creates = λ id child m image links i is w at name q off h.
      let apart : pid_eq child q ≡ false = sym (ap (λ (k : Label). makes k q) is) ∙ off in
      sym (ap (λ (c : Bool). is_server q || lives (if c then Some (Alive (begun s.format i links)) else s.processes q)) apart) ∙ h;
  no_room = λ id a b m image links is w q off h. h;
  asked = λ id m x machine is w what q off h. h;
  answered = λ id o p n is w q off h. h;
}) e

-- what ends doesn't live on
over : (s : OneKernel) (p : Pid) (y : Why) → is_server p ≡ false → is_alive (with_process s p (Ended y)) p ≡ false
over s p y off = ap (λ (c : Bool). is_server p || lives (if c then Some (Ended y) else s.processes p)) (pid_eq-same p) ∙ ap (λ (c : Bool). c || false) off

ends_over : (s t : OneKernel) (p : Pid) (y : Why) (next : kernel.Trap) → is_server p ≡ false → kernel.ends s p y next ≡ Some t → is_alive t p ≡ false
ends_over s t p y (kernel.Calls k (calls.Ends because)) off e = subst (λ (u : OneKernel). is_alive u p ≡ false) (when-is _ (with_process s p (Ended y)) t e).1 (over s p y off)
ends_over s t p y (kernel.Faults fault) off e = subst (λ (u : OneKernel). is_alive u p ≡ false) (when-is _ (with_process s p (Ended y)) t e).1 (over s p y off)
ends_over s t p y _ off e = none_some t e

pub end_over : (s t : OneKernel) (p : Pid) (y : Why) → kernel.step s (Label.End p y) ≡ Some t → is_server p ≡ false → is_alive t p ≡ false
end_over s t p y is off = let (next, trap, rest) = bind-is (kernel.next_trap s p) (kernel.ends s p y) t is in ends_over s t p y next off rest

pub kill_over : (s t : OneKernel) (id : MsgId) (p : Pid) → kernel.step s (Label.Served id) ≡ Some t → ((m : PlainMessage) → s.bag id ≡ Some m → (m.to ≡ p) × (m.what ≡ PlainWhat.Kill)) → is_server p ≡ false → is_alive t p ≡ false
kill_over s t id p is kills off =
    let (m, there, rest) = bind-is (s.bag id) (λ v. bind (kernel.at_hand s v.to) (λ x. service.serves s id v x v.what)) t is in
    let (x, hand, last) = bind-is (kernel.at_hand s m.to) (λ x. service.serves s id m x m.what) t rest in
    let (to, what) = kills m there in
    let e : Some (with_process (without_message s id) m.to (Ended Why.Killed)) ≡ Some t = sym (ap (service.serves s id m x) what) ∙ last in
    let f : with_process (without_message s id) m.to (Ended Why.Killed) ≡ t = cc in
    subst (λ (u : OneKernel). is_alive u p ≡ false) f
    (subst (λ (r : Pid). is_alive (with_process (without_message s id) r (Ended Why.Killed)) p ≡ false) (sym to) (over (without_message s id) p Why.Killed off))
