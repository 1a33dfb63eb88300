-- The manager as bytes: the one spelling of it, and what some bytes spell, or the first rule that they break.
use Rattle.std.specs.Prelude.{◌≡◌, ℕ, List, [], ◌∷◌, length}
use Rattle.std.specs.declared.result.Result.{Result}
use Rattle.std.specs.List.{All}
use Rattle.std.specs.Option.{IfSome}
use Rattle.dm_link.specs.declared.Addr.{Addr}
use Rattle.dm_packet.specs.declared.PacketError.TheVariants as bad
use Rattle.dm_packet.specs.declared.PacketError.{PacketError}
use Rattle.dm_packet.specs.Field.{Field, ◌>>=◌, number, both, made, counted, repeated_field}
use Rattle.dm_packet.specs.Fields.{addr, link}
use Rattle.dm_packet.specs.Whats.{coded, optional}
use Rattle.dm_packet.specs.Widths.{Fits, FitsAddr, FitsLink}
use Rattle.dm_statebytes.specs.declared.StateBytesError.{StateBytesError}
use Rattle.dm_statebytes.specs.Servers.{Counts, address_of, only_read, server_front, whole_of}
use Rattle.dm_onekernel.specs.Boot.{manager, switchboard}
use Rattle.dm_onekernel.specs.declared.request.PendingKind.{PendingKind}
use Rattle.dm_onekernel.specs.declared.request.PendingKind.TheVariants as wanted
use Rattle.dm_procman.specs.declared.pending.Pending.{Pending}
use Rattle.dm_procman.specs.Lawful.{IsLawfulManager}
use Rattle.dm_procman.specs.Managing.{Managing}

abbrev pub number_of_wanted : PendingKind → ℕ
number_of_wanted wanted.Create = 0
number_of_wanted wanted.Move = 1

abbrev pub kind_wanted : Field PendingKind
kind_wanted = coded (wanted.Create ∷ wanted.Move ∷ []) number_of_wanted bad.Flags

-- a pending request: its number, what it asks for, and the link for the answer, if there is one
abbrev pub request : Field Pending
request = made (both (number 4) (λ _. both kind_wanted (λ _. optional link))) (λ r. record { n = r.0; kind = r.1.0; answer = r.1.1 }) (λ r. (r.n, (r.kind, r.answer)))

-- the addresses of the children, and the pending requests, behind their numbers
abbrev pub children_field : Field (List Addr)
children_field = counted (number 4) (λ n. repeated_field addr n)

abbrev pub requests_field : Field (List Pending)
requests_field = counted (number 4) (λ n. repeated_field request n)

-- the version, the manager's name, its two counts, the children, the address of the switchboard, and the pending requests
abbrev pub ManagerParts : Type 0
ManagerParts = Counts × (List Addr × (Addr × List Pending))

abbrev pub manager_parts : Field ManagerParts
manager_parts = both (server_front manager) (λ _. both children_field (λ _. both (address_of switchboard) (λ _. requests_field)))

abbrev pub parts_of : Managing → ManagerParts
parts_of g = ((g.sent, g.moves), (g.children, (g.board, g.pending)))

-- the manager of so many machines and images
abbrev pub manager_with : ℕ → ℕ → ManagerParts → Managing
manager_with machines images p =
    record { children = p.1.0; pending = p.1.1.1; board = p.1.1.0; sent = p.0.0; moves = p.0.1; machines = machines; images = images }

abbrev pub managing : ℕ → ℕ → Field Managing
managing machines images = made manager_parts (manager_with machines images) parts_of

-- what all the bytes spell, as the reader has it
abbrev pub read_manager : ℕ → ℕ → List ℕ → Result Managing PacketError
read_manager machines images bytes = (managing machines images).read bytes >>= only_read

-- the one spelling of a manager
unfoldable pub manager_spelling : Managing → List ℕ
manager_spelling g = manager_parts.spell (parts_of g)

-- what the bytes spell, all of them, of a manager of so many machines and images, or the first rule that they break
unfoldable pub manager_of_bytes : ℕ → ℕ → List ℕ → Result Managing StateBytesError
manager_of_bytes machines images bytes = whole_of (managing machines images) bytes

abbrev pub FitsRequest : Pending → Type 0
FitsRequest r = Fits 4 r.n × IfSome r.answer FitsLink

-- the numbers that fields have room for: what the program holds fits by its types, but for how many children and requests there are
pub record FitsManager (g : Managing) : Type 0 where
  pub few_children : Fits 4 (length g.children)
  pub few_pending : Fits 4 (length g.pending)
  pub children : All FitsAddr g.children
  pub pending : All FitsRequest g.pending
  pub board : Fits 4 g.board.moves
  pub sent : Fits 4 g.sent
  pub moves : Fits 4 g.moves

-- the managers of so many machines and images that are spelled
pub record IsSpelledManager (machine_count image_count : ℕ) (g : Managing) : Type 0 where
  pub lawful : IsLawfulManager g
  pub fits : FitsManager g
  pub machines : g.machines ≡ machine_count
  pub images : g.images ≡ image_count
