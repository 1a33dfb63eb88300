-- Functions with one value set, and lists of messages and processes.
use Rattle.std.specs.Prelude.{ℕ, not, ◌==◌, ◌&&◌, if◌then◌else◌, List, [], ◌∷◌, ◌++◌, filter}
use Rattle.dm_link.specs.declared.Pid.{Pid}
use Rattle.dm_link.specs.Names.{pid_eq}
use Rattle.dm_message.specs.declared.MsgId.{MsgId}
use Rattle.dm_message.specs.Ids.{id_eq}

abbrev pub at_machine : {X : Type 0} → (ℕ → X) → ℕ → X → ℕ → X
at_machine f m x n = if m == n then x else f n

abbrev pub at_pair : {X : Type 0} → (ℕ → ℕ → X) → ℕ → ℕ → X → ℕ → ℕ → X
at_pair f a b x c d = if (a == c) && (b == d) then x else f c d

abbrev pub at_pid : {X : Type 0} → (Pid → X) → Pid → X → Pid → X
at_pid f p x q = if pid_eq p q then x else f q

abbrev pub at_id : {X : Type 0} → (MsgId → X) → MsgId → X → MsgId → X
at_id f i x j = if id_eq i j then x else f j

abbrev pub at_record : {X : Type 0} → (ℕ → Pid → X) → ℕ → Pid → X → ℕ → Pid → X
at_record f m p x n q = if (m == n) && pid_eq p q then x else f n q

-- the ring without a process
abbrev pub without : Pid → List Pid → List Pid
without p ring = filter (λ q. not (pid_eq p q)) ring

-- a served process goes to the back of its ring
abbrev pub moved_back : Pid → List Pid → List Pid
moved_back p ring = without p ring ++ p ∷ []

-- the first copy of a message taken out
abbrev pub without_id : MsgId → List MsgId → List MsgId
without_id i [] = []
without_id i (j ∷ js) = if id_eq i j then js else j ∷ without_id i js

-- the message taken from the front, where it stands there
abbrev pub without_front : MsgId → List MsgId → List MsgId
without_front i [] = []
without_front i (j ∷ js) = if id_eq i j then js else j ∷ js
