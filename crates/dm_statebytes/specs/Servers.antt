-- What the states of the two servers have in common as bytes, and what is read of bytes where memory may lack.
use Rattle.std.specs.Prelude.{◌≡◌, ℕ, List, [], ◌∷◌, ◌++◌, length, ◌==◌, if◌then◌else◌, Ok, Err}
use Rattle.std.specs.declared.result.Result.{Result}
use denote.Ref.{Bor}
use Rattle.dm_link.specs.declared.Pid.{Pid}
use Rattle.dm_link.specs.declared.Addr.{Addr}
use Rattle.dm_link.specs.Lawful.{IsMachine}
use Rattle.dm_link.specs.Names.{pid_eq}
use Rattle.dm_packet.specs.declared.PacketError.{PacketError}
use Rattle.dm_packet.specs.declared.PacketError.TheVariants as bad
use Rattle.dm_packet.specs.Field.{Field, ◌>>=◌, number, version, tested, both, made}
use Rattle.dm_packet.specs.Fields.{machine, pid}
use Rattle.dm_packet.specs.Widths.{Fits}
use Rattle.dm_statebytes.specs.declared.StateBytesError.{StateBytesError}
use Rattle.dm_statebytes.specs.declared.server.ServerError.{ServerError}
use Rattle.dm_statebytes.specs.declared.server.ServerError.TheVariants.{StateBytes, NoMemory}
use Rattle.dm_statebytes.specs.declared.server.Unread.{Unread}
use Rattle.dm_statebytes.specs.declared.server.Unread.TheVariants as unread
use Rattle.dm_statebytes.specs.Rules.{rule_of}

-- the name of this server: another one is refused once it has been read whole
abbrev pub server_pid : Pid → Field Pid
server_pid p = tested pid (λ q. pid_eq q p) bad.Machine

-- an address of this server
abbrev pub address_of : Pid → Field Addr
address_of server = made (both (server_pid server) (λ _. both machine (λ _. number 4))) (λ a. record { pid = a.0; at = a.1.0; moves = a.1.1 }) (λ a. (a.pid, (a.at, a.moves)))

pub record IsAddressOf (server : Pid) (a : Addr) : Type 0 where
  pub pid : a.pid ≡ server
  pub at : IsMachine a.at

-- how many messages a server has sent, and how often it has moved
abbrev pub Counts : Type 0
Counts = ℕ × ℕ

-- what the state of this server begins with: the version, its name and its two counts
abbrev pub server_front : Pid → Field Counts
server_front p = made (both (version 4) (λ _. both (server_pid p) (λ _. both (number 4) (λ _. number 4)))) (λ f. f.1.1) (λ counts. (4, (p, counts)))

abbrev pub FitCounts : Counts → Type 0
FitCounts counts = Fits 4 counts.0 × Fits 4 counts.1

-- nothing follows what is read
abbrev pub only_read : {X : Type 0} → X × List ℕ → Result X PacketError
only_read x = if length x.1 == 0 then Ok x.0 else Err bad.Trailing

abbrev pub by_rules : {X : Type 0} → Result X PacketError → Result X StateBytesError
by_rules (Ok x) = Ok x
by_rules (Err rule) = Err (rule_of rule)

-- what the bytes spell, all of them, or the first rule that they break
abbrev pub whole_of : {X : Type 0} → Field X → List ℕ → Result X StateBytesError
whole_of f bytes = by_rules (f.read bytes >>= only_read)

-- it is what the bytes spell, or the first rule that they break, unless memory lacks
abbrev pub IsUnpacked : {X : Type 0} → Result X ServerError → Result X StateBytesError → Type 0
IsUnpacked (Ok x) read = read ≡ Ok x
IsUnpacked (Err (StateBytes rule)) read = read ≡ Err rule
IsUnpacked (Err (NoMemory none)) read = Unit {0}

-- it is this value, unless memory lacks
abbrev pub Gives : {X : Type 0} → Result X ServerError → X → Type 0
Gives (Ok y) x = y ≡ x
Gives (Err (StateBytes rule)) x = ⊥
Gives (Err (NoMemory none)) x = Unit {0}

-- what a reader leaves, for whoever asked for a server
abbrev pub refusal_of : Unread → ServerError
refusal_of (unread.Bytes rule) = StateBytes (rule_of rule)
refusal_of (unread.NoMemory none) = NoMemory none

-- it is what reading gives: the value, as a contract sees it, and the bytes behind it, or the rule that is broken, unless memory lacks
abbrev pub ReadsSeen : {X Y : Type 0} → (Y → X) → Result (Y × Bor (List ℕ)) Unread → Result (X × List ℕ) PacketError → Type 0
ReadsSeen see (Ok y) read = read ≡ Ok (see y.0, y.1.now)
ReadsSeen see (Err (unread.Bytes rule)) read = read ≡ Err rule
ReadsSeen see (Err (unread.NoMemory none)) read = Unit {0}

-- the same, where nothing is left of the bytes
abbrev pub ReadsWhole : {X : Type 0} → Result X Unread → Result X PacketError → Type 0
ReadsWhole (Ok x) read = read ≡ Ok x
ReadsWhole (Err (unread.Bytes rule)) read = read ≡ Err rule
ReadsWhole (Err (unread.NoMemory none)) read = Unit {0}

-- what is read goes behind the others, and these bytes are left; or the rule is broken, unless memory lacks
abbrev pub Adds : {X : Type 0} → List X → Result (Bor (List ℕ)) Unread → List X → Result (X × List ℕ) PacketError → Type 0
Adds {X} old (Ok rest) new read = (x : X) × (read ≡ Ok (x, rest.now)) × (new ≡ old ++ x ∷ [])
Adds old (Err (unread.Bytes rule)) new read = read ≡ Err rule
Adds old (Err (unread.NoMemory none)) new read = Unit {0}
