-- A step, from what there is of it.
use Rattle.std.specs.Prelude.{◌≡◌, ◌≤◌, ℕ, Bool}
use Rattle.std.proofs.Common.{sym, subst, ap, arith, ◌∙◌}
use Rattle.std.proofs.lemmas.Bool.{false≢true}
use Rattle.std.specs.Result.{IsErr, IsErrAnd}
use Rattle.std.specs.declared.option.Option.{Option}
use Rattle.std.specs.declared.option.Option.TheVariants.{None, Some}
use Rattle.std.specs.declared.result.Result.{Result}
use Rattle.std.specs.declared.result.Result.TheVariants.{Ok, Err}
use Rattle.dm_link.specs.declared.Pid.{Pid}
use Rattle.dm_process.specs.declared.process.Process.{Process}
use Rattle.dm_onekernel.specs.Options.{bind, when}
use Rattle.dm_onekernel.specs.Kernel.{Life, Alive, OneKernel, with_process}
use Rattle.dm_onekernel.specs.PlainProcess.{PlainProcess}
use Rattle.dm_onekernel.specs.Step as one
use Rattle.dm_onekernel.specs.Step.{goes_on, machine_of, plain_steps, running, with_machine}
use Rattle.dm_replay.specs.declared.kernel.Kernel.{Kernel}
use Rattle.dm_replay.specs.declared.kernel.Refusal.{Refusal}
use Rattle.dm_replay.specs.declared.kernel.Refusal.TheVariants as no
use Rattle.dm_replay.specs.Answers.{Gives, IsRefused}
use Rattle.dm_replay.specs.Sound.{IsFit, IsSound}
use Rattle.dm_replay.specs.State.{without_process}
use Rattle.dm_replay.specs.Steps.{Stays}
use Rattle.dm_replay.proofs.Taken.{back}

-- where a part is refused, so is the whole
pub refused : {B C : Type 0} (e : Refusal) (o : Option B) (go : B → Option C) → IsRefused e o → IsRefused e (bind o go)
refused no.NoStep o go h = ap (λ o. bind o go) h
refused (no.NoMemory e) o go h = tt

-- what is put back where it was taken out
pub returned : (s m n : OneKernel) (p : Pid) (l : Life) → m ≡ without_process s p → n ≡ with_process m p l → n ≡ with_process s p l
returned s m n p l e f = f ∙ ap (λ s. with_process s p l) e ∙ back s p l

-- the process executed so many instructions
pub has_run : (s : OneKernel) (p : Pid) (k : ℕ) (x : PlainProcess) (m : one.Machine) → running s p ≡ Some x → plain_steps k (machine_of x) ≡ Some m
    → bind (running s p) (λ x. bind (plain_steps k (machine_of x)) (λ m. Some (goes_on s p (with_machine x m)))) ≡ Some (goes_on s p (with_machine x m))
has_run s p k x m e f =
    ap (λ o. bind o (λ x. bind (plain_steps k (machine_of x)) (λ m. Some (goes_on s p (with_machine x m))))) e
    ∙ ap (λ o. bind o (λ m. Some (goes_on s p (with_machine x m)))) f

pub runs_short : (s : OneKernel) (p : Pid) (k : ℕ) (x : PlainProcess) → running s p ≡ Some x → plain_steps k (machine_of x) ≡ None
    → bind (running s p) (λ x. bind (plain_steps k (machine_of x)) (λ m. Some (goes_on s p (with_machine x m)))) ≡ None
runs_short s p k x e f =
    ap (λ o. bind o (λ x. bind (plain_steps k (machine_of x)) (λ m. Some (goes_on s p (with_machine x m))))) e
    ∙ ap (λ o. bind o (λ m. Some (goes_on s p (with_machine x m)))) f

-- what a test of a trap says
pub goes_if : {T : Type 0} (s m : OneKernel) (p : Pid) (x : PlainProcess) (holds : Bool) (o t : Option T) (go : T → Option OneKernel) → m ≡ without_process s p
    → bind t go ≡ when holds (goes_on s p x) → o ≡ t → when holds (goes_on m p x) ≡ bind o go
goes_if s m p x holds o t go e f g =
    ap (λ s. when holds (goes_on s p x)) e ∙ ap (when holds) (back s p (Alive x)) ∙ sym f ∙ sym (ap (λ o. bind o go) g)

-- more labels
pub weaker : (n m : ℕ) (k : Kernel) → n ≤ m → IsSound n k → IsSound m k
weaker n m k le h =
    record {
      processes = λ p x e.
          let f : IsFit n p x = h.processes p x e in
          let few : x.sent ≤ n = f.sent in
          record { pid = f.pid; lawful = f.lawful; sent = omega (arith, few, le) };
      bag = h.bag;
      notes = h.notes;
      noted = h.noted;
      made = λ q. omega (arith, h.made q, le);
      board = h.board;
      board_sent = omega (arith, h.board_sent, le);
      manager = h.manager;
      manager_sent = omega (arith, h.manager_sent, le);
      children = omega (arith, h.children, le);
    }

pub fitter : (n m : ℕ) (p : Pid) (x : Process) → n ≤ m → IsFit n p x → IsFit m p x
fitter n m p x le f = record { pid = f.pid; lawful = f.lawful; sent = omega (arith, f.sent, le) }

-- a part that is refused passes on why
pub passes : {A B : Type 0} (r : Result A Refusal) (e : Refusal) (meaning : A → Option B) (wanted : Option B) → IsErr r × IsErrAnd r (λ y. y ≡ e) → IsRefused e wanted → Gives r meaning wanted
passes (Ok x) e meaning wanted h k = absurd (false≢true h.0)
passes (Err y) e meaning wanted h k = subst (λ (e : Refusal). IsRefused e wanted) (sym h.1) k

-- the same where what is wanted is another name for it
pub given_as : {A B : Type 0} (r : Result A Refusal) (meaning : A → Option B) (x y : Option B) → x ≡ y → Gives r meaning x → Gives r meaning y
given_as {B = B} r meaning x y e h = subst (λ (o : Option B). Gives r meaning o) e h

-- how many labels were taken says nothing of the rest
pub counted : (n m : ℕ) (k : Kernel) → IsSound n k → IsSound n (record k { labels = m })
counted n m k h =
    record {
      processes = h.processes;
      bag = h.bag;
      notes = h.notes;
      noted = h.noted;
      made = h.made;
      board = h.board;
      board_sent = h.board_sent;
      manager = h.manager;
      manager_sent = h.manager_sent;
      children = h.children;
    }

-- one call after the other
pub stays_both : (a b c : Kernel) → Stays a b → Stays b c → Stays a c
stays_both a b c h k = record { labels = k.labels ∙ h.labels; machines = k.machines ∙ h.machines; images = k.images ∙ h.images }
