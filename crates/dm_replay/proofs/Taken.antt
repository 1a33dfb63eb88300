-- Processes that are taken out, and put back.
use Rattle.std.specs.Prelude.{◌≡◌, ◌&&◌, not, ℕ, Bool, true, false, if◌then◌else◌, is_some, option_map, IsSome}
use Rattle.std.specs.Option.{option_map_or}
use Rattle.std.proofs.Common.{refl, sym, subst, ap, ◌∙◌}
use Rattle.std.specs.declared.option.Option.{Option}
use Rattle.std.specs.declared.option.Option.TheVariants.{None, Some}
use Rattle.dm_link.specs.declared.Pid.{Pid}
use Rattle.dm_link.specs.Names.{pid_eq}
use Rattle.dm_linktable.proofs.ReceiverOrder.{pid_eq_same}
use Rattle.dm_process.specs.declared.process.Process.{Process}
use Rattle.dm_process.specs.declared.process.Status.{Status}
use Rattle.dm_process.specs.declared.process.Status.TheVariants as status
use Rattle.dm_onekernel.specs.declared.boot.Boot.{Boot}
use Rattle.dm_onekernel.specs.declared.label.Why.{Why}
use Rattle.dm_onekernel.specs.Kernel as one
use Rattle.dm_onekernel.specs.Kernel.{Life, MoveNote, OneKernel, with_process}
use Rattle.dm_onekernel.specs.Plain.{plain_process, plain_status}
use Rattle.dm_onekernel.specs.PlainProcess.{PlainProcess}
use Rattle.dm_onekernel.specs.Step.{alive, goes_on, if_ready}
use Rattle.dm_replay.specs.declared.kernel.Kernel.{Kernel}
use Rattle.dm_replay.specs.declared.kernel.Note.{Note}
use Rattle.dm_replay.specs.declared.life.Life as made
use Rattle.dm_replay.specs.declared.life.Life.TheVariants.{Alive, Ended}
use Rattle.dm_replay.specs.Living.{alive_of, at, life_of, with_life, without_life}
use Rattle.dm_replay.specs.Sound.{IsFit, IsSound}
use Rattle.dm_replay.specs.State.{one_kernel, plain_note, without_process}
pub use Rattle.dm_switchboard.proofs.Entries.{none_of as none_if}

-- a process that is put back where it was taken out
pub back : (s : OneKernel) (p : Pid) (l : Life) → with_process (without_process s p) p l ≡ with_process s p l
back s p l = λ i. record s { processes = λ q. chosen (pid_eq p q) (s.processes q) i }
  where
    chosen : (c : Bool) (o : Option Life) → (if c then Some l else if c then None else o) ≡ (if c then Some l else o)
    chosen true o = refl
    chosen false o = refl

life_without : (c : Bool) (o : Option (made.Life Process)) → life_of (if c then None else o) ≡ (if c then None else life_of o)
life_without true o = refl
life_without false o = refl

life_with : (c : Bool) (x : made.Life Process) (o : Option (made.Life Process)) → life_of (if c then Some x else o) ≡ (if c then life_of (Some x) else life_of o)
life_with true x o = refl
life_with false x o = refl

pub lives_without : (old new : Pid → Option (made.Life Process)) (p : Pid) → ((q : Pid) → new q ≡ without_life old p q)
    → (q : Pid) → life_of (new q) ≡ (if pid_eq p q then None else life_of (old q))
lives_without old new p e q = ap life_of (e q) ∙ life_without (pid_eq p q) (old q)

pub lives_with : (old new : Pid → Option (made.Life Process)) (p : Pid) (x : made.Life Process) → ((q : Pid) → new q ≡ with_life old p x q)
    → (q : Pid) → life_of (new q) ≡ (if pid_eq p q then life_of (Some x) else life_of (old q))
lives_with old new p x e q = ap life_of (e q) ∙ life_with (pid_eq p q) x (old q)

still_fit : (n : ℕ) (q : Pid) (c : Bool) (x : Process) (o : Option (made.Life Process)) → alive_of (if c then None else o) ≡ Some x → (alive_of o ≡ Some x → IsFit n q x) → IsFit n q x
still_fit n q true x o e h = absurd (cc)
still_fit n q false x o e h = h e

-- the others fit still
pub fit_without : (n : ℕ) (old new : Pid → Option (made.Life Process)) (p : Pid) → ((q : Pid) → new q ≡ without_life old p q) → ((q : Pid) (x : Process) → alive_of (old q) ≡ Some x → IsFit n q x)
    → (q : Pid) (x : Process) → alive_of (new q) ≡ Some x → IsFit n q x
fit_without n old new p e h q x there = still_fit n q (pid_eq p q) x (old q) (ap alive_of (sym (e q)) ∙ there) (h q x)

set_fit : (n : ℕ) (p q : Pid) (c : Bool) (y x : Process) (o : Option (made.Life Process)) → pid_eq p q ≡ c → IsFit n p y → alive_of (if c then Some (Alive y) else o) ≡ Some x
    → (alive_of o ≡ Some x → IsFit n q x) → IsFit n q x
set_fit n p q true y x o is f e h =
    let same : y ≡ x = cc in
    subst (IsFit n q) same (subst (λ (r : Pid). IsFit n r y) (pid_eq_same p q is) f)
set_fit n p q false y x o is f e h = h e

pub fit_with : (n : ℕ) (old new : Pid → Option (made.Life Process)) (p : Pid) (y : Process) → ((q : Pid) → new q ≡ with_life old p (Alive y) q) → IsFit n p y
    → ((q : Pid) (x : Process) → alive_of (old q) ≡ Some x → IsFit n q x) → (q : Pid) (x : Process) → alive_of (new q) ≡ Some x → IsFit n q x
fit_with n old new p y e f h q x there = set_fit n p q (pid_eq p q) y x (old q) refl f (ap alive_of (sym (e q)) ∙ there) (h q x)

end_fit : (n : ℕ) (q : Pid) (c : Bool) (y : Why) (x : Process) (o : Option (made.Life Process)) → alive_of (if c then Some (Ended y) else o) ≡ Some x → (alive_of o ≡ Some x → IsFit n q x) → IsFit n q x
end_fit n q true y x o e h = absurd (cc)
end_fit n q false y x o e h = h e

pub fit_ended : (n : ℕ) (old new : Pid → Option (made.Life Process)) (p : Pid) (y : Why) → ((q : Pid) → new q ≡ with_life old p (Ended y) q)
    → ((q : Pid) (x : Process) → alive_of (old q) ≡ Some x → IsFit n q x) → (q : Pid) (x : Process) → alive_of (new q) ≡ Some x → IsFit n q x
fit_ended n old new p y e h q x there = end_fit n q (pid_eq p q) y x (old q) (ap alive_of (sym (e q)) ∙ there) (h q x)

-- the kernel once a process is taken out, put back, or has ended
pub state_without : (b : Boot) (k new : Kernel) (p : Pid) → new ≡ record k { processes = new.processes } → ((q : Pid) → at new.processes q ≡ without_life (at k.processes) p q)
    → one_kernel b new ≡ without_process (one_kernel b k) p
state_without b k new p is e =
    ap (one_kernel b) is ∙ (λ i. record (one_kernel b k) { processes = λ q. lives_without (at k.processes) (at new.processes) p e q i })

pub state_back : (b : Boot) (k new : Kernel) (p : Pid) (x : Process) → new ≡ record k { processes = new.processes } → ((q : Pid) → at new.processes q ≡ with_life (at k.processes) p (Alive x) q)
    → one_kernel b new ≡ goes_on (one_kernel b k) p (plain_process x)
state_back b k new p x is e =
    ap (one_kernel b) is ∙ (λ i. record (one_kernel b k) { processes = λ q. lives_with (at k.processes) (at new.processes) p (Alive x) e q i })

pub state_ended : (b : Boot) (k new : Kernel) (p : Pid) (y : Why) → new ≡ record k { processes = new.processes } → ((q : Pid) → at new.processes q ≡ with_life (at k.processes) p (Ended y) q)
    → one_kernel b new ≡ with_process (one_kernel b k) p (one.Ended y)
state_ended b k new p y is e =
    ap (one_kernel b) is ∙ (λ i. record (one_kernel b k) { processes = λ q. lives_with (at k.processes) (at new.processes) p (Ended y) e q i })

-- it is sound still
pub sound_as : (n : ℕ) (k new : Kernel) → new ≡ record k { processes = new.processes } → IsSound n k → ((q : Pid) (x : Process) → alive_of (at new.processes q) ≡ Some x → IsFit n q x) → IsSound n new
sound_as n k new is h fit =
    subst (IsSound n) (sym is)
    (record {
      processes = fit;
      bag = h.bag;
      notes = h.notes;
      noted = h.noted;
      made = h.made;
      board = h.board;
      board_sent = h.board_sent;
      manager = h.manager;
      manager_sent = h.manager_sent;
      children = h.children;
    })

pub sound_without : (n : ℕ) (k new : Kernel) (p : Pid) → new ≡ record k { processes = new.processes } → ((q : Pid) → at new.processes q ≡ without_life (at k.processes) p q)
    → IsSound n k → IsSound n new
sound_without n k new p is e h = sound_as n k new is h (fit_without n (at k.processes) (at new.processes) p e h.processes)

pub sound_back : (n : ℕ) (k new : Kernel) (p : Pid) (x : Process) → new ≡ record k { processes = new.processes } → ((q : Pid) → at new.processes q ≡ with_life (at k.processes) p (Alive x) q)
    → IsSound n k → IsFit n p x → IsSound n new
sound_back n k new p x is e h f = sound_as n k new is h (fit_with n (at k.processes) (at new.processes) p x e f h.processes)

pub sound_ended : (n : ℕ) (k new : Kernel) (p : Pid) (y : Why) → new ≡ record k { processes = new.processes } → ((q : Pid) → at new.processes q ≡ with_life (at k.processes) p (Ended y) q)
    → IsSound n k → IsSound n new
sound_ended n k new p y is e h = sound_as n k new is h (fit_ended n (at k.processes) (at new.processes) p y e h.processes)

-- a process that is here lives, and is at hand where it has no note
pub is_here : (o : Option (made.Life Process)) (x : Process) → alive_of o ≡ Some x → alive (life_of o) ≡ Some (plain_process x)
is_here None x e = absurd (cc)
is_here (Some (Alive y)) x e = let same : y ≡ x = cc in ap (λ (x : Process). Some (plain_process x)) same
is_here (Some (Ended y)) x e = absurd (cc)

pub hand_is_here : (o : Option (made.Life Process)) (n : Option Note) → is_some (option_map_or (λ (note : MoveNote). None) (option_map plain_note n) (alive (life_of o))) ≡ true → IsSome (alive_of o)
hand_is_here (Some (Alive x)) n h = refl
hand_is_here o None h = absurd (cc)
hand_is_here o (Some n) h = absurd (cc)

pub at_hand_as : (o : Option (made.Life Process)) (n : Option Note) (x : Process) → alive_of o ≡ Some x → is_some (option_map_or (λ (note : MoveNote). None) (option_map plain_note n) (alive (life_of o))) ≡ true
    → option_map_or (λ (note : MoveNote). None) (option_map plain_note n) (alive (life_of o)) ≡ Some (plain_process x)
at_hand_as o None x e h = is_here o x e
at_hand_as o (Some n) x e h = absurd (cc)

pub is_executing : (x : Process) → is_some (if_ready (plain_process x) (plain_status x.status)) ≡ true → (x.status ≡ status.Ready) × (if_ready (plain_process x) (plain_status x.status) ≡ Some (plain_process x))
is_executing x h = by x.status x.stopped (plain_process x) h
  where
    by : (s : Status) (stopped : Bool) (y : PlainProcess) → is_some (if_ready (record y { stopped = stopped }) (plain_status s)) ≡ true → (s ≡ status.Ready) × (if_ready (record y { stopped = stopped }) (plain_status s) ≡ Some (record y { stopped = stopped }))
    by status.Ready true y h = absurd (cc)
    by status.Ready false y h = (refl, refl)
    by (status.Waiting mask base size) stopped y h = absurd (cc)
    by (status.Moving dir owner base own left pending) stopped y h = absurd (cc)
