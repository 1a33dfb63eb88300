-- What the lines say of processes, as the kernel without machines has them.
use Rattle.std.specs.Prelude.{◌≡◌, ◌≢◌, ℕ, ◌+◌, Bool, true, false, if◌then◌else◌, List, [], ◌∷◌}
use Rattle.std.specs.declared.option.Option.{Option}
use Rattle.std.specs.declared.option.Option.TheVariants.{None, Some}
use Rattle.dm_link.specs.declared.Pid.{Pid}
use Rattle.dm_link.specs.Names.{pid_eq}
use Rattle.dm_onekernel.specs.Kernel.{Life, Alive, Ended, OneKernel}
use Rattle.dm_law_rule.specs.View.{View, Known}
use Rattle.dm_law_rule.specs.View as view
use Rattle.dm_law_rule.specs.Phases.{is_here}
use Rattle.dm_law_rule.specs.Trails.{is_alive}
use Rattle.dm_law_always.specs.Fits.{is_server}

-- a process that a machine has, expects or holds back is alive, and one that was sent on from there was made
abbrev pub agrees : Known → Option Life → Bool
agrees view.Unknown o = true
agrees view.Here (Some (Alive x)) = true
agrees view.Here (Some (Ended because)) = false
agrees view.Here None = false
agrees (view.Frozen to) (Some (Alive x)) = true
agrees (view.Frozen to) (Some (Ended because)) = false
agrees (view.Frozen to) None = false
agrees (view.Incoming from) (Some (Alive x)) = true
agrees (view.Incoming from) (Some (Ended because)) = false
agrees (view.Incoming from) None = false
agrees (view.Forward at moves) (Some life) = true
agrees (view.Forward at moves) None = false

-- how often a process stands in a ring
abbrev pub rings : Pid → List Pid → ℕ
rings p [] = 0
rings p (q ∷ qs) = (if pid_eq p q then 1 else 0) + rings p qs

abbrev pub turns_here : Bool → Known → ℕ
turns_here true k = 0
turns_here false k = if is_here k then 1 else 0

-- what each machine knows agrees with the kernel without machines; the home of a process that lives knows it, and so does that of a
-- server; and a process stands once in the ring of the machine that has it, and in no other ring, and a server in none
pub record KnownStands (s : OneKernel) (v : View) : Type 0 where
  pub agree : (m : ℕ) (p : Pid) → is_server p ≡ false → agrees (v.known m p) (s.processes p) ≡ true
  pub home : (p : Pid) → is_alive s p ≡ true → v.known p.home p ≢ view.Unknown
  pub ring : (m : ℕ) (p : Pid) → rings p (v.ring m) ≡ turns_here (is_server p) (v.known m p)
