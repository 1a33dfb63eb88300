-- Lines of a process that are steps of the kernel without machines, but not the one that it takes: what a due line and the
-- words of another one have in common.
use Rattle.std.specs.Prelude.{ℕ, Bool, false, ◌&&◌, if◌then◌else◌, List, [], ◌∷◌, codes}
use Rattle.std.specs.declared.option.Option.{Option}
use Rattle.std.specs.declared.option.Option.TheVariants.{None, Some}
use Rattle.dm_link.specs.declared.Pid.{Pid}
use Rattle.dm_link.specs.Names.{pid_eq}
use Rattle.dm_message.specs.declared.MsgId.{MsgId}
use Rattle.dm_message.specs.Ids.{id_eq}
use Rattle.dm_text.specs.Reading.{read_u32, read_pid, read_id}
use Rattle.dm_text.specs.Rows.{is}
use Rattle.dm_shape.specs.Choices.{one_of}

-- a word names this process, this message
abbrev pub names_pid : Option Pid → Pid → Bool
names_pid None p = false
names_pid (Some q) p = pid_eq q p

abbrev pub is_id : Option MsgId → MsgId → Bool
is_id None i = false
is_id (Some j) i = id_eq j i

-- the lines of what a process does after it ran: a call, or its end
abbrev pub calls : List (List ℕ)
calls = codes "call" ∷ codes "send" ∷ codes "wait" ∷ codes "out" ∷ codes "end" ∷ []

-- the lines of how its receive ends
abbrev pub reception_words : List (List ℕ)
reception_words = codes "receive" ∷ codes "refuse" ∷ []

-- call P N C, send P ID, wait P, out P W, end P WHY, for this process
abbrev pub tells_call : Pid → List (List ℕ) → Bool
tells_call p [] = false
tells_call p (w ∷ []) = false
tells_call p (w ∷ q ∷ ws) = one_of calls w && names_pid (read_pid q) p

-- receive P ID, refuse P ID C, for this process and this message
abbrev pub tells_reception : Pid → MsgId → List (List ℕ) → Bool
tells_reception p i [] = false
tells_reception p i (w ∷ []) = false
tells_reception p i (w ∷ q ∷ []) = false
tells_reception p i (w ∷ q ∷ j ∷ ws) = one_of reception_words w && names_pid (read_pid q) p && is_id (read_id j) i

-- created ID P, for this message
abbrev pub tells_made : MsgId → List (List ℕ) → Bool
tells_made i [] = false
tells_made i (w ∷ []) = false
tells_made i (w ∷ j ∷ ws) = is w (codes "created") && is_id (read_id j) i

-- ran P K, for this process: how many instructions
abbrev pub told_ran : Pid → List (List ℕ) → Option ℕ
told_ran p [] = None
told_ran p (w ∷ []) = None
told_ran p (w ∷ q ∷ []) = None
told_ran p (w ∷ q ∷ k ∷ ws) = if is w (codes "ran") && names_pid (read_pid q) p then read_u32 k else None
