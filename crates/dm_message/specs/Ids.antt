-- Names of messages.
use Rattle.std.specs.Prelude.{ℕ, Bool, true, false, ◌==◌, ◌&&◌}
use Rattle.dm_link.specs.declared.Pid.{Pid}
use Rattle.dm_link.specs.Names.{pid_eq}
use Rattle.dm_message.specs.declared.MsgId.{MsgId}

abbrev pub bool_eq : Bool → Bool → Bool
bool_eq true b = b
bool_eq false true = false
bool_eq false false = true

-- the two names are one
abbrev pub id_eq : MsgId → MsgId → Bool
id_eq a b = (pid_eq a.from b.from && (a.n == b.n)) && bool_eq a.answer b.answer

-- the name of a sender's message number n
abbrev pub id_of : Pid → ℕ → MsgId
id_of p n = record { from = p; n = n; answer = false }
