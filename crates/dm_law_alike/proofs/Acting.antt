-- What a process does by itself changes places with all that isn't its own.
use Rattle.dm_law_one.proofs.Names.{◌≡◌, ℕ, ◌==◌, ◌&&◌, Bool, true, false, refl, ap, ◌∙◌, sym, subst, nat_lt, arith, nat_tests, if◌then◌else◌, Option, None, Some, Pid, pid_eq, MsgId, id_eq, id_of, option_map_or, PlainMessage, Label, Reply, Why, IsOwnStep}
use Rattle.dm_law_one.proofs.Names.{Replies, Sends, Waits, Outputs, Ends, PlainProcess, Life, Alive, Ended, MoveNote, OneKernel, with_process, with_sent, without_message, bind, when, instruction}
use Rattle.dm_law_one.proofs.Facts.{none_some}
use Rattle.dm_law_one.proofs.Steps.{bind-is, when-is, nexts, Nexts, runs}
use Rattle.dm_law_one.proofs.Sound.{Sound, not_counted, not_server, counts_process}
use Rattle.dm_law_one.proofs.Entered.{counts, is_counted}
use Rattle.dm_law_rule.proofs.Changes.{Changes, by_step}
use Rattle.dm_onekernel.specs.Codes.{reply_eq, why_eq}
use Rattle.dm_onekernel.specs.Step as kernel
use Rattle.dm_law_alike.specs.Acting.{IsAct}
use Rattle.dm_law_alike.proofs.Beside.{Beside, beside_set, beside_is}
use Rattle.dm_law_alike.proofs.Past.{Going, step_beside, other_by, swapped}

-- what an act comes to: a life, and maybe a message; and it is an act wherever the process is the same
pub record Acts (s : OneKernel) (p : Pid) (a : Label) (t : OneKernel) : Type 0 where
  pub x : PlainProcess
  pub alive : s.processes p ≡ Some (Alive x)
  pub free : s.notes p ≡ None
  pub life : Life
  pub message : Option PlainMessage
  pub is : t ≡ with_sent (with_process s p life) message
  pub own : (m : PlainMessage) → message ≡ Some m → m.id ≡ id_of p x.sent
  pub again : (u : OneKernel) → u.processes p ≡ s.processes p → u.notes p ≡ s.notes p → kernel.step u a ≡ Some (with_sent (with_process u p life) message)

hand_there : (s u : OneKernel) (p : Pid) → u.processes p ≡ s.processes p → u.notes p ≡ s.notes p → kernel.at_hand u p ≡ kernel.at_hand s p
hand_there s u p e n = λ i. option_map_or (λ note. None) (n i) (kernel.alive (e i))

running_there : (s u : OneKernel) (p : Pid) → u.processes p ≡ s.processes p → u.notes p ≡ s.notes p → kernel.running u p ≡ kernel.running s p
running_there s u p e n = ap (λ v. bind v (λ (x : PlainProcess). kernel.if_ready x x.status)) (hand_there s u p e n)

trap_there : (s u : OneKernel) (p : Pid) → u.processes p ≡ s.processes p → u.notes p ≡ s.notes p → kernel.next_trap u p ≡ kernel.next_trap s p
trap_there s u p e n = ap (λ v. bind v (λ (x : PlainProcess). kernel.next_row p x (instruction x.regs x.memory))) (running_there s u p e n)

pub some_is : {A : Type 0} (x y : A) → Some x ≡ Some y → x ≡ y
some_is x y e = cc

when_there : (b : Bool) (v t : OneKernel) → when b v ≡ Some t → b ≡ true
when_there true v t e = refl
when_there false v t e = none_some t e

replies_act : (s t : OneKernel) (p : Pid) (n : ℕ) (c : Reply) (x : PlainProcess) (b : kernel.Trap) → s.processes p ≡ Some (Alive x) → s.notes p ≡ None → kernel.next_trap s p ≡ Some b → kernel.replies s p n c b ≡ Some t → Acts s p (Label.Call p n c) t
replies_act s t p n c x (kernel.Calls k (Replies d y)) alive free next e =
    let (test, last) = when-is ((n == k) && reply_eq c d) (kernel.goes_on s p y) t e in
    record {
      x = x;
      alive = alive;
      free = free;
      life = Alive y;
      message = None;
      is = sym last;
      own = λ m f. none_some m f;
      again = λ u g h. ap (λ v. bind v (kernel.replies u p n c)) (trap_there s u p g h ∙ next) ∙ ap (λ v. when v (kernel.goes_on u p y)) test;
    }
replies_act s t p n c x _ alive free next e = none_some t e

waits_act : (s t : OneKernel) (p : Pid) (x : PlainProcess) (b : kernel.Trap) → s.processes p ≡ Some (Alive x) → s.notes p ≡ None → kernel.next_trap s p ≡ Some b → kernel.waits s p b ≡ Some t → Acts s p (Label.Wait p) t
waits_act s t p x (kernel.Calls k (Waits y)) alive free next e = record {
  x = x;
  alive = alive;
  free = free;
  life = Alive y;
  message = None;
  is = sym (some_is (kernel.goes_on s p y) t e);
  own = λ m f. none_some m f;
  again = λ u g h. ap (λ v. bind v (kernel.waits u p)) (trap_there s u p g h ∙ next);
}
waits_act s t p x _ alive free next e = none_some t e

outputs_act : (s t : OneKernel) (p : Pid) (w : ℕ) (x : PlainProcess) (b : kernel.Trap) → s.processes p ≡ Some (Alive x) → s.notes p ≡ None → kernel.next_trap s p ≡ Some b → kernel.outputs s p w b ≡ Some t → Acts s p (Label.Out p w) t
outputs_act s t p w x (kernel.Calls k (Outputs z y)) alive free next e =
    let (test, last) = when-is (w == z) (kernel.goes_on s p y) t e in
    record {
      x = x;
      alive = alive;
      free = free;
      life = Alive y;
      message = None;
      is = sym last;
      own = λ m f. none_some m f;
      again = λ u g h. ap (λ v. bind v (kernel.outputs u p w)) (trap_there s u p g h ∙ next) ∙ ap (λ v. when v (kernel.goes_on u p y)) test;
    }
outputs_act s t p w x _ alive free next e = none_some t e

ends_act : (s t : OneKernel) (p : Pid) (y : Why) (x : PlainProcess) (b : kernel.Trap) → s.processes p ≡ Some (Alive x) → s.notes p ≡ None → kernel.next_trap s p ≡ Some b → kernel.ends s p y b ≡ Some t → Acts s p (Label.End p y) t
ends_act s t p y x (kernel.Calls k (Ends z)) alive free next e =
    let (test, last) = when-is (why_eq y z) (with_process s p (Ended y)) t e in
    record {
      x = x;
      alive = alive;
      free = free;
      life = Ended y;
      message = None;
      is = sym last;
      own = λ m f. none_some m f;
      again = λ u g h. ap (λ v. bind v (kernel.ends u p y)) (trap_there s u p g h ∙ next) ∙ ap (λ v. when v (with_process u p (Ended y))) test;
    }
ends_act s t p y x (kernel.Faults z) alive free next e =
    let (test, last) = when-is (why_eq y (Why.Fault z)) (with_process s p (Ended y)) t e in
    record {
      x = x;
      alive = alive;
      free = free;
      life = Ended y;
      message = None;
      is = sym last;
      own = λ m f. none_some m f;
      again = λ u g h. ap (λ v. bind v (kernel.ends u p y)) (trap_there s u p g h ∙ next) ∙ ap (λ v. when v (with_process u p (Ended y))) test;
    }
ends_act s t p y x _ alive free next e = none_some t e

sends_act : (s t : OneKernel) (p : Pid) (id : MsgId) (x : PlainProcess) (b : kernel.Trap) → s.processes p ≡ Some (Alive x) → s.notes p ≡ None → Nexts s p b → kernel.next_trap s p ≡ Some b → kernel.sends s p id b ≡ Some t → Acts s p (Label.Send p id) t
sends_act s t p id x (kernel.Calls k (Sends m y)) alive free counted next e =
    let (test, last) = when-is (id_eq id m.id) (with_sent (kernel.goes_on s p y) (Some m)) t e in
    let (z, sent, pending, told) = counted.counts in
    let same : counted.x ≡ x = alive_one (s.processes p) counted.x x counted.is.alive alive in
    let name : m.id ≡ id_of p x.sent = told.id ∙ ap (id_of p) (sent ∙ ap (λ (v : PlainProcess). v.sent) same) in
    record {
      x = x;
      alive = alive;
      free = free;
      life = Alive y;
      message = Some m;
      is = sym last;
      own = λ n f. ap (λ (v : PlainMessage). v.id) (sym (some_is m n f)) ∙ name;
      again = λ u g h. ap (λ v. bind v (kernel.sends u p id)) (trap_there s u p g h ∙ next) ∙ ap (λ v. when v (with_sent (kernel.goes_on u p y) (Some m))) test;
    }
  where
    alive_one : (o : Option Life) (a b : PlainProcess) → o ≡ Some (Alive a) → o ≡ Some (Alive b) → a ≡ b
    alive_one o a b e f = let g : Some (Alive a) ≡ Some (Alive b) = sym e ∙ f in cc
sends_act s t p id x _ alive free counted next e = none_some t e

ran_act : (s t : OneKernel) (p : Pid) (k : ℕ) → kernel.step s (Label.Ran p k) ≡ Some t → Acts s p (Label.Ran p k) t
ran_act s t p k e =
    let (x, running, rest) = bind-is (kernel.running s p) (λ (w : PlainProcess). bind (kernel.plain_steps k (kernel.machine_of w)) (λ (m : kernel.Machine). Some (kernel.goes_on s p (kernel.with_machine w m)))) t e in
    let (m, plain, last) = bind-is (kernel.plain_steps k (kernel.machine_of x)) (λ (m : kernel.Machine). Some (kernel.goes_on s p (kernel.with_machine x m))) t rest in
    let r = runs s p x running in
    record {
      x = x;
      alive = r.alive;
      free = r.free;
      life = Alive (kernel.with_machine x m);
      message = None;
      is = sym (some_is (kernel.goes_on s p (kernel.with_machine x m)) t last);
      own = λ n f. none_some n f;
      again = λ u g h. ap (λ v. bind v (λ (w : PlainProcess). bind (kernel.plain_steps k (kernel.machine_of w)) (λ (n : kernel.Machine). Some (kernel.goes_on u p (kernel.with_machine w n))))) (running_there s u p g h ∙ running)
          ∙ ap (λ v. bind v (λ (n : kernel.Machine). Some (kernel.goes_on u p (kernel.with_machine x n)))) plain;
    }

at_own : (s t : OneKernel) (p q : Pid) (a b : Label) → a ≡ b → Acts s p a t → Acts s p b t
at_own s t p q a b e h = subst (λ l. Acts s p l t) e h

pub act_is : (s t : OneKernel) (p : Pid) (a : Label) → IsAct p a → kernel.step s a ≡ Some t → Acts s p a t
act_is s t p (Label.Ran q k) own e = at_own s t p q (Label.Ran p k) (Label.Ran q k) (ap (λ v. Label.Ran v k) (sym own)) (ran_act s t p k (ap (λ v. kernel.step s (Label.Ran v k)) (sym own) ∙ e))
act_is s t p (Label.Call q n c) own e =
    let f : kernel.step s (Label.Call p n c) ≡ Some t = ap (λ v. kernel.step s (Label.Call v n c)) (sym own) ∙ e in
    let (b, next, last) = bind-is (kernel.next_trap s p) (kernel.replies s p n c) t f in
    let r = nexts s p b next in
    at_own s t p q (Label.Call p n c) (Label.Call q n c) (ap (λ v. Label.Call v n c) (sym own)) (replies_act s t p n c r.x b r.is.alive r.is.free next last)
act_is s t p (Label.Send q id) own e =
    let f : kernel.step s (Label.Send p id) ≡ Some t = ap (λ v. kernel.step s (Label.Send v id)) (sym own) ∙ e in
    let (b, next, last) = bind-is (kernel.next_trap s p) (kernel.sends s p id) t f in
    let r = nexts s p b next in
    at_own s t p q (Label.Send p id) (Label.Send q id) (ap (λ v. Label.Send v id) (sym own)) (sends_act s t p id r.x b r.is.alive r.is.free r next last)
act_is s t p (Label.Wait q) own e =
    let f : kernel.step s (Label.Wait p) ≡ Some t = ap (λ v. kernel.step s (Label.Wait v)) (sym own) ∙ e in
    let (b, next, last) = bind-is (kernel.next_trap s p) (kernel.waits s p) t f in
    let r = nexts s p b next in
    at_own s t p q (Label.Wait p) (Label.Wait q) (ap Label.Wait (sym own)) (waits_act s t p r.x b r.is.alive r.is.free next last)
act_is s t p (Label.Out q w) own e =
    let f : kernel.step s (Label.Out p w) ≡ Some t = ap (λ v. kernel.step s (Label.Out v w)) (sym own) ∙ e in
    let (b, next, last) = bind-is (kernel.next_trap s p) (kernel.outputs s p w) t f in
    let r = nexts s p b next in
    at_own s t p q (Label.Out p w) (Label.Out q w) (ap (λ v. Label.Out v w) (sym own)) (outputs_act s t p w r.x b r.is.alive r.is.free next last)
act_is s t p (Label.End q y) own e =
    let f : kernel.step s (Label.End p y) ≡ Some t = ap (λ v. kernel.step s (Label.End v y)) (sym own) ∙ e in
    let (b, next, last) = bind-is (kernel.next_trap s p) (kernel.ends s p y) t f in
    let r = nexts s p b next in
    at_own s t p q (Label.End p y) (Label.End q y) (ap (λ v. Label.End v y) (sym own)) (ends_act s t p y r.x b r.is.alive r.is.free next last)
act_is s t p _ own e = absurd own

-- a step that isn't its own leaves a process as it is
pub alive_stays : (c e : MsgId → ℕ) (s t : OneKernel) (p : Pid) (x : PlainProcess) (l : Label) → Sound c e s → s.processes p ≡ Some (Alive x) → s.notes p ≡ None → (IsOwnStep s p l → ⊥) → kernel.step s l ≡ Some t → t.processes p ≡ s.processes p
alive_stays c e s t p x l sound alive free other is =
    let same : Beside p (Alive x) None s s = record {
      format = refl;
      machines = refl;
      images = refl;
      made = λ m. refl;
      there = alive;
      others = λ q f. refl;
      bag = λ i. refl;
      notes = λ q. refl;
      noted = λ i. refl;
      switchboard = refl;
      manager = refl;
    } in
    let k = step_beside c e p x (Alive x) None s s t l (record { sound = sound; alive = alive; free = free; own = λ m f. none_some m f; none = λ m f. none_some m f; beside = same }) other is in
    let one : k.kernel ≡ t = some_is k.kernel t (sym k.is ∙ is) in
    ap (λ (v : OneKernel). v.processes p) (sym one) ∙ k.beside.there ∙ sym alive

note_if : (b : Bool) (n : MoveNote) (o : Option MoveNote) → b ≡ false → o ≡ None → (if b then Some n else o) ≡ None
note_if b n o e f = ap (λ (c : Bool). if c then Some n else o) e ∙ f

unnote_if : (b : Bool) (o : Option MoveNote) → o ≡ None → (if b then None else o) ≡ None
unnote_if true o e = refl
unnote_if false o e = e

with_sent_notes : (s : OneKernel) (o : Option PlainMessage) (p : Pid) → (with_sent s o).notes p ≡ s.notes p
with_sent_notes s None p = refl
with_sent_notes s (Some m) p = refl

free_rows : (s : OneKernel) (p : Pid) (l : Label) → s.notes p ≡ None → (IsOwnStep s p l → ⊥) → Changes (λ u. u.notes p ≡ None) s l
free_rows s p l free other = record {
  ran = λ q k z m is r. free;
  replies = λ q n k d r y is next. free;
  sends = λ q id k m y is same next. free;
  waits = λ q k y is next. free;
  outputs = λ q w k v y is next. free;
  ends = λ q y next is w. free;
  receives = λ q id y is w completes. free;
  refuses = λ q id d r y is w completes. free;
  dropped = λ id m y is w kind. free;
  gone = λ id m y is w k answer. free;
  stops = λ id m y b is w mild. free;
  kills = λ id m y is w kill. free;
  reads = λ id m y base len is w read. free;
  writes = λ id m y base bytes is w write. free;
  lands = λ id m y r z is w mild last. free;
  done = λ id m y d z is w mild last. free;
  board = λ id m k is there to took. with_sent_notes (record (without_message s id) { switchboard = k.switchboard }) k.answer p ∙ free;
  manager = λ id m k is there to took. with_sent_notes (record (without_message s id) { manager = k.manager }) k.message p ∙ free;
  creates = λ id child m image links i is w found name. free;
  no_room = λ id a b m image links is w. free;
  asked = λ id m y machine is w move.
      let apart = swapped p m.to (other_by p m.to (λ same. other (subst (IsOwnStep s p) (sym is) (m, w.there, sym same)))) in
      note_if (pid_eq m.to p) (record { id = id; asker = m.sender }) (s.notes p) apart free;
  answered = λ id o q n is w. unnote_if (pid_eq q p) (s.notes p) free;
}

pub free_stays : (s t : OneKernel) (p : Pid) (l : Label) → s.notes p ≡ None → (IsOwnStep s p l → ⊥) → kernel.step s l ≡ Some t → t.notes p ≡ None
free_stays s t p l free other is = by_step (λ u. u.notes p ≡ None) s t l (free_rows s p l free other) is

-- the message that an act sends is new
pub fresh_message : (c e : MsgId → ℕ) (s t : OneKernel) (p : Pid) (a : Label) (h : Acts s p a t) (m : PlainMessage) → Sound c e s → h.message ≡ Some m → s.bag m.id ≡ None
fresh_message c e s t p a h m sound is =
    let name = h.own m is in
    let servers = not_server s p h.x h.alive sound.made in
    let from : m.id.from ≡ p = ap (λ (v : MsgId). v.from) name in
    let n : m.id.n ≡ h.x.sent = ap (λ (v : MsgId). v.n) name in
    let counted : counts s m.id ≡ is_counted m.id.n (s.processes p) = counts_process s p m.id from servers in
    let not_yet : is_counted m.id.n (s.processes p) ≡ false = ap (is_counted m.id.n) h.alive ∙ ap (λ v. nat_lt v h.x.sent) n ∙ (let z : nat_lt h.x.sent h.x.sent ≡ false = grind (arith, nat_tests) in z) in
    not_counted c e s m.id (counted ∙ not_yet) sound.entered

going : (c e : MsgId → ℕ) (s t : OneKernel) (p : Pid) (a : Label) (h : Acts s p a t) → Sound c e s → Going c e p h.x h.life h.message s (with_sent (with_process s p h.life) h.message)
going c e s t p a h sound = record {
  sound = sound;
  alive = h.alive;
  free = h.free;
  own = h.own;
  none = λ m is. fresh_message c e s t p a h m sound is;
  beside = beside_set s p h.life h.message;
}

-- an act and a step that isn't the process's own, in either order
pub record Diamond (s t u : OneKernel) (a l : Label) : Type 0 where
  pub end : OneKernel
  pub first : kernel.step t l ≡ Some end
  pub second : kernel.step u a ≡ Some end

pub diamond : (c e : MsgId → ℕ) (s t u : OneKernel) (p : Pid) (a l : Label) → Sound c e s → IsAct p a → kernel.step s a ≡ Some t → (IsOwnStep s p l → ⊥) → kernel.step s l ≡ Some u → Diamond s t u a l
diamond c e s t u p a l sound act is other leads =
    let h = act_is s t p a act is in
    let k = step_beside c e p h.x h.life h.message s (with_sent (with_process s p h.life) h.message) u l (going c e s t p a h sound) other leads in
    let life : u.processes p ≡ s.processes p = alive_stays c e s u p h.x l sound h.alive h.free other leads in
    let note : u.notes p ≡ s.notes p = free_stays s u p l h.free other leads ∙ sym h.free in
    record {
      end = k.kernel;
      first = ap (λ v. kernel.step v l) h.is ∙ k.is;
      second = h.again u life note ∙ ap Some (sym (beside_is p h.life h.message u k.kernel k.beside));
    }
