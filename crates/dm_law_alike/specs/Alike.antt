-- Kernels without machines that differ in the numbers of messages alone.
use Rattle.std.specs.Prelude.{◌≡◌, ⊤, ℕ, ◌+◌, true, nat_le, nat_lt, List, [], ◌∷◌}
use Rattle.std.specs.Option.{option_map}
use Rattle.std.specs.declared.option.Option.{Option}
use Rattle.std.specs.declared.option.Option.TheVariants.{None, Some}
use Rattle.dm_link.specs.declared.Pid.{Pid}
use Rattle.dm_message.specs.declared.MsgId.{MsgId}
use Rattle.dm_message.specs.Plain.{PlainMessage}
use Rattle.dm_onekernel.specs.declared.label.Label.{Label}
use Rattle.dm_onekernel.specs.declared.label.Label.TheVariants as label
use Rattle.dm_onekernel.specs.Boot.{switchboard, manager}
use Rattle.dm_onekernel.specs.Kernel.{Life, Alive, Ended, MoveNote, OneKernel, Pending}
use Rattle.dm_onekernel.specs.PlainProcess.{PlainProcess, PlainStatus, Ready, Waiting, Moving}
use Rattle.dm_onekernel.specs.Options.{bind}
use Rattle.dm_onekernel.specs.Step.{step, replay}

-- for each sender, the number in the other kernel that stands for a number here, if one does
abbrev pub Renaming : Type 0
Renaming = Pid → ℕ → Option ℕ

-- numbers keep their order
pub record KeepsOrder (r : Renaming) : Type 0 where
  pub order : (p : Pid) (m n a b : ℕ) → r p m ≡ Some a → r p n ≡ Some b → nat_lt m n ≡ nat_lt a b

-- numbers that aren't given yet, from a here and from b there on, stand for each other
abbrev pub GoOn : (ℕ → Option ℕ) → ℕ → ℕ → Type 0
GoOn f a b = (k : ℕ) → f (a + k) ≡ Some (b + k)

-- the name j there stands for i here
pub record Stands (r : Renaming) (i j : MsgId) : Type 0 where
  pub from : j.from ≡ i.from
  pub n : r i.from i.n ≡ Some j.n
  pub answer : j.answer ≡ i.answer

-- the same message under another name
abbrev pub under : MsgId → PlainMessage → PlainMessage
under j m = record m { id = j }

-- a process that moves data waits for the number that stands for its own
abbrev pub status_by : (ℕ → Option ℕ) → PlainStatus → Option PlainStatus
status_by f Ready = Some Ready
status_by f (Waiting mask base cap) = Some (Waiting mask base cap)
status_by f (Moving dir owner base own left pending) = option_map (λ n. Moving dir owner base own left n) (f pending)

pub record TwinProcess (f : ℕ → Option ℕ) (x y : PlainProcess) : Type 0 where
  pub regs : y.regs ≡ x.regs
  pub memory : y.memory ≡ x.memory
  pub links : y.links ≡ x.links
  pub status : status_by f x.status ≡ Some y.status
  pub stopped : y.stopped ≡ x.stopped
  pub sent : GoOn f x.sent y.sent

-- of a process that wasn't made yet, each number stands for itself
abbrev pub IsUnmade : Pid → (ℕ → Option ℕ) → Type 0
IsUnmade p f = nat_le 3 p.num ≡ true → (k : ℕ) → f k ≡ Some k

abbrev pub TwinLife : Pid → (ℕ → Option ℕ) → Option Life → Option Life → Type 0
TwinLife p f None None = IsUnmade p f
TwinLife p f (Some (Alive x)) (Some (Alive y)) = TwinProcess f x y
TwinLife p f (Some (Ended y)) (Some (Ended z)) = z ≡ y
TwinLife p f _ _ = ⊥

abbrev pub TwinNote : Renaming → Option MoveNote → Option MoveNote → Type 0
TwinNote r None None = ⊤
TwinNote r (Some n) (Some o) = Stands r n.id o.id × (o.asker ≡ n.asker)
TwinNote r _ _ = ⊥

abbrev pub TwinPending : (ℕ → Option ℕ) → List Pending → List Pending → Type 0
TwinPending f [] [] = ⊤
TwinPending f (a ∷ others) (b ∷ twins) = (f a.n ≡ Some b.n) × (b.kind ≡ a.kind) × (b.answer ≡ a.answer) × TwinPending f others twins
TwinPending f _ _ = ⊥

-- t is s under other numbers: processes, messages, notes, servers
pub record Twins (r : Renaming) (s t : OneKernel) : Type 0 where
  pub format : t.format ≡ s.format
  pub machines : t.machines ≡ s.machines
  pub images : t.images ≡ s.images
  pub made : (home : ℕ) → t.made home ≡ s.made home
  pub processes : (p : Pid) → TwinLife p (r p) (s.processes p) (t.processes p)
  pub bag : (i j : MsgId) → Stands r i j → t.bag j ≡ option_map (under j) (s.bag i)
  pub known : (i : MsgId) (m : PlainMessage) → s.bag i ≡ Some m → (j : MsgId) × Stands r i j
  pub back : (j : MsgId) (m : PlainMessage) → t.bag j ≡ Some m → (i : MsgId) × Stands r i j
  pub notes : (p : Pid) → TwinNote r (s.notes p) (t.notes p)
  pub noted : (i j : MsgId) → Stands r i j → t.noted j ≡ s.noted i
  pub names : t.switchboard.names ≡ s.switchboard.names
  pub board : GoOn (r switchboard) s.switchboard.sent t.switchboard.sent
  pub children : t.manager.children ≡ s.manager.children
  pub pending : TwinPending (r manager) s.manager.pending t.manager.pending
  pub manager : GoOn (r manager) s.manager.sent t.manager.sent

-- two labels say the same of everything but of names of messages
abbrev pub Says : Renaming → Label → Label → Type 0
Says r (label.Ran p k) (label.Ran q l) = (q ≡ p) × (l ≡ k)
Says r (label.Call p n c) (label.Call q o d) = (q ≡ p) × (o ≡ n) × (d ≡ c)
Says r (label.Send p i) (label.Send q j) = (q ≡ p) × Stands r i j
Says r (label.Wait p) (label.Wait q) = q ≡ p
Says r (label.Out p w) (label.Out q v) = (q ≡ p) × (v ≡ w)
Says r (label.End p y) (label.End q z) = (q ≡ p) × (z ≡ y)
Says r (label.Receive p i) (label.Receive q j) = (q ≡ p) × Stands r i j
Says r (label.Refuse p i c) (label.Refuse q j d) = (q ≡ p) × Stands r i j × (d ≡ c)
Says r (label.Dropped i) (label.Dropped j) = Stands r i j
Says r (label.Served i) (label.Served j) = Stands r i j
Says r (label.Gone i) (label.Gone j) = Stands r i j
Says r (label.Took i) (label.Took j) = Stands r i j
Says r (label.Created i p) (label.Created j q) = Stands r i j × (q ≡ p)
Says r (label.NoSpace i a b) (label.NoSpace j c d) = Stands r i j × (c ≡ a) × (d ≡ b)
Says r (label.Asked i) (label.Asked j) = Stands r i j
Says r (label.Answered i o) (label.Answered j u) = Stands r i j × (u ≡ o)
Says r _ _ = ⊥

-- what t does where s does l and is u then: the same under its own numbers, and they stay twins
pub record Twin (r : Renaming) (t : OneKernel) (l : Label) (u : OneKernel) : Type 0 where
  pub label : Label
  pub kernel : OneKernel
  pub says : Says r l label
  pub steps : step t label ≡ Some kernel
  pub twins : Twins r u kernel

-- the labels of two runs, one by one
abbrev pub SayAll : Renaming → List Label → List Label → Type 0
SayAll r [] [] = ⊤
SayAll r (l ∷ others) (k ∷ twins) = Says r l k × SayAll r others twins
SayAll r _ _ = ⊥

-- a run of t with the labels of a run of s that leads to u, under its own numbers
pub record TwinRun (r : Renaming) (t : OneKernel) (ls : List Label) (u : OneKernel) : Type 0 where
  pub labels : List Label
  pub kernel : OneKernel
  pub say : SayAll r ls labels
  pub replays : replay t labels ≡ Some kernel
  pub twins : Twins r u kernel

-- one renaming after another
abbrev pub renamed_again : Renaming → Renaming → Renaming
renamed_again r q p n = bind (r p n) (q p)
