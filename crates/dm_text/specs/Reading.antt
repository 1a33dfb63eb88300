-- The numbers, names and kinds that words spell.
use Rattle.std.specs.Prelude.{ℕ, ◌^◌, ◌==◌, Bool, true, false, if◌then◌else◌, List, [], ◌∷◌}
use Rattle.std.specs.Str.{bytes_eq}
use Rattle.std.specs.declared.option.Option.{Option}
use Rattle.std.specs.declared.option.Option.TheVariants.{None, Some}
unfoldable pub use Rattle.dm_reading.specs.Cuts.{pieces}
use Rattle.dm_reading.specs.Numbers.{read_number}
use Rattle.dm_link.specs.declared.Pid.{Pid}
use Rattle.dm_link.specs.Names.{pid_of}
use Rattle.dm_message.specs.declared.MsgId.{MsgId}
use Rattle.dm_message.specs.declared.Outcome.{Outcome}
use Rattle.dm_message.specs.declared.Outcome.TheVariants as ends
use Rattle.dm_message.specs.Outcomes.{code_of_outcome}
use Rattle.dm_message.specs.declared.kind.MessageKind.{MessageKind}
use Rattle.dm_message.specs.Kinds.{word_of, all_kinds}
use Rattle.dm_processor.specs.declared.registers.Fault.TheVariants as fault
use Rattle.dm_onekernel.specs.Codes.{reply_code, why_code}
use Rattle.dm_onekernel.specs.declared.label.Reply.{Reply}
use Rattle.dm_onekernel.specs.declared.label.Reply.TheVariants as reply
use Rattle.dm_onekernel.specs.declared.label.Why.{Why}
use Rattle.dm_onekernel.specs.declared.label.Why.TheVariants as why

-- the value of what makes it, where all of that is there
infixl 30 ◌<*>◌
abbrev pub ◌<*>◌ : {A B : Type 0} → Option (A → B) → Option A → Option B
None <*> o = None
Some f <*> None = None
Some f <*> Some x = Some (f x)

-- a machine, or another number of one byte
abbrev pub read_u8 : List ℕ → Option ℕ
read_u8 w = read_number (2 ^ 8) w

-- a number below 2 ^ 16
abbrev pub read_u16 : List ℕ → Option ℕ
read_u16 w = read_number (2 ^ 16) w

-- a number below 2 ^ 32
abbrev pub read_u32 : List ℕ → Option ℕ
read_u32 w = read_number (2 ^ 32) w

-- a number below 2 ^ 64
abbrev pub read_u64 : List ℕ → Option ℕ
read_u64 w = read_number (2 ^ 64) w

-- the process of these parts of its name: its home, and its number there
abbrev pub pid_in : List (List ℕ) → Option Pid
pid_in (home ∷ num ∷ []) = Some pid_of <*> read_u8 home <*> read_u32 num
pid_in _ = None

-- the process that a word names, as in 0.3
unfoldable pub read_pid : List ℕ → Option Pid
read_pid w = pid_in (pieces 46 w)

-- the message of this name
abbrev pub message_named : Bool → Pid → ℕ → MsgId
message_named answer p n = record { from = p; n = n; answer = answer }

-- the message of this sender, from the parts of its number: an answer has a mark after it
abbrev pub message_numbered : Option Pid → List (List ℕ) → Option MsgId
message_numbered p (n ∷ []) = Some (message_named false) <*> p <*> read_u32 n
message_numbered p (n ∷ [] ∷ []) = Some (message_named true) <*> p <*> read_u32 n
message_numbered p _ = None

-- the message of these parts of its name: the sender, and the number
abbrev pub id_in : List (List ℕ) → Option MsgId
id_in (p ∷ n ∷ []) = message_numbered (read_pid p) (pieces 33 n)
id_in _ = None

-- the message that a word names, as in 0.3#1 or 0.3#1!
unfoldable pub read_id : List ℕ → Option MsgId
read_id w = id_in (pieces 35 w)

-- the first of some values that passes a test
abbrev pub first_where : {X : Type 0} → (X → Bool) → List X → Option X
first_where test [] = None
first_where test (x ∷ xs) = if test x then Some x else first_where test xs

-- the kind with this word
unfoldable pub read_kind : List ℕ → Option MessageKind
read_kind w = first_where (λ k. bytes_eq (word_of k) w) all_kinds

-- all replies
abbrev pub replies : List Reply
replies = reply.Done ∷ reply.NoLink ∷ reply.TableFull ∷ reply.BadKind ∷ reply.BadRange ∷ reply.NoRight ∷ reply.TooLong ∷ reply.Gone ∷ reply.NotCopyable ∷ []

-- all reasons for an end
abbrev pub whys : List Why
whys = why.Exit ∷ why.Fault fault.OutOfRange ∷ why.Fault fault.UnknownOpcode ∷ why.Fault fault.Unaligned ∷ why.UnknownCall ∷ why.Killed ∷ []

-- all outcomes of a requested move
abbrev pub outcomes : List Outcome
outcomes = ends.Done ∷ ends.Stayed ∷ ends.Ended ∷ []

-- the reply with this code
abbrev pub reply_with : Option ℕ → Option Reply
reply_with None = None
reply_with (Some n) = first_where (λ r. reply_code r == n) replies

-- the reason for an end with this code
abbrev pub why_with : Option ℕ → Option Why
why_with None = None
why_with (Some n) = first_where (λ y. why_code y == n) whys

-- the outcome with this code
abbrev pub outcome_with : Option ℕ → Option Outcome
outcome_with None = None
outcome_with (Some n) = first_where (λ o. code_of_outcome o == n) outcomes

-- the reply that a word numbers
unfoldable pub read_reply : List ℕ → Option Reply
read_reply w = reply_with (read_u8 w)

-- the reason for an end that a word numbers
unfoldable pub read_why : List ℕ → Option Why
read_why w = why_with (read_u8 w)

-- the outcome of a requested move that a word numbers
unfoldable pub read_outcome : List ℕ → Option Outcome
read_outcome w = outcome_with (read_u8 w)
