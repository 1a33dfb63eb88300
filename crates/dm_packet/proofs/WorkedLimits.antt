-- Each limit of each kind's fields, on both sides: computed.
use Rattle.dm_packet.proofs.Names.{◌≡◌, ℕ, List, [], ◌∷◌, ◌++◌, length, replicate, Option, None, Some, Result, Ok, Err, refl, ◌==◌, if◌then◌else◌, What, MessageKind, PacketError, read_what}
use Rattle.dm_message.specs.declared.kind.MessageKind.TheVariants as kind
use Rattle.dm_packet.specs.declared.PacketError.TheVariants as bad

abbrev rule_of : Result (What × List ℕ) PacketError → Option PacketError
rule_of (Ok x) = if length x.1 == 0 then None else Some bad.Trailing
rule_of (Err d) = Some d

-- the rule that the fields of a kind, and so many bytes 0 behind them, break
abbrev broken : MessageKind → List ℕ → ℕ → Option PacketError
broken k fields zeros = rule_of (read_what k (fields ++ replicate zeros 0))

pub limits_of_user :
    (broken kind.User (0 ∷ 0 ∷ 0 ∷ 7 ∷ 31 ∷ 0 ∷ 0 ∷ 0 ∷ []) 0
    ∷ broken kind.User (0 ∷ 0 ∷ 0 ∷ 7 ∷ 32 ∷ []) 0
    ∷ broken kind.User (0 ∷ 0 ∷ 0 ∷ 7 ∷ 0 ∷ 1 ∷ 0 ∷ []) 257
    ∷ broken kind.User (0 ∷ 0 ∷ 0 ∷ 7 ∷ 0 ∷ 1 ∷ 1 ∷ []) 0
    ∷ broken kind.User (0 ∷ 0 ∷ 0 ∷ 7 ∷ 0 ∷ 0 ∷ 0 ∷ 4 ∷ []) 96
    ∷ broken kind.User (0 ∷ 0 ∷ 0 ∷ 7 ∷ 0 ∷ 0 ∷ 0 ∷ 4 ∷ []) 95
    ∷ broken kind.User (0 ∷ 0 ∷ 0 ∷ 7 ∷ 0 ∷ 0 ∷ 0 ∷ 5 ∷ []) 0 ∷ [])
    ≡ None ∷ Some bad.Limit ∷ None ∷ Some bad.Limit ∷ None ∷ Some bad.Missing ∷ Some bad.Limit ∷ []
unfolding read_what
limits_of_user = refl

pub limits_of_stop :
    (broken kind.Stop ([]) 0
    ∷ broken kind.Stop ([]) 1 ∷ [])
    ≡ None ∷ Some bad.Trailing ∷ []
unfolding read_what
limits_of_stop = refl

pub limits_of_read :
    (broken kind.Read (0 ∷ 0 ∷ 0 ∷ 0 ∷ 0 ∷ 0 ∷ []) 0
    ∷ broken kind.Read (0 ∷ 0 ∷ 0 ∷ 0 ∷ 0 ∷ 1 ∷ []) 0
    ∷ broken kind.Read (0 ∷ 0 ∷ 0 ∷ 0 ∷ 1 ∷ 0 ∷ []) 0
    ∷ broken kind.Read (0 ∷ 0 ∷ 0 ∷ 0 ∷ 1 ∷ 1 ∷ []) 0
    ∷ broken kind.Read (0 ∷ 0 ∷ 255 ∷ 255 ∷ 0 ∷ 1 ∷ []) 0
    ∷ broken kind.Read (0 ∷ 0 ∷ 255 ∷ 255 ∷ 0 ∷ 2 ∷ []) 0
    ∷ broken kind.Read (255 ∷ 255 ∷ 255 ∷ 255 ∷ 0 ∷ 1 ∷ []) 0 ∷ [])
    ≡ Some bad.Limit ∷ None ∷ None ∷ Some bad.Limit ∷ None ∷ Some bad.Limit ∷ Some bad.Limit ∷ []
unfolding read_what
limits_of_read = refl

pub limits_of_write :
    (broken kind.Write (0 ∷ 0 ∷ 0 ∷ 0 ∷ 0 ∷ 0 ∷ []) 0
    ∷ broken kind.Write (0 ∷ 0 ∷ 0 ∷ 0 ∷ 1 ∷ 0 ∷ []) 256
    ∷ broken kind.Write (0 ∷ 0 ∷ 0 ∷ 0 ∷ 1 ∷ 1 ∷ []) 0
    ∷ broken kind.Write (0 ∷ 0 ∷ 255 ∷ 255 ∷ 0 ∷ 1 ∷ []) 1
    ∷ broken kind.Write (0 ∷ 0 ∷ 255 ∷ 255 ∷ 0 ∷ 2 ∷ []) 0 ∷ [])
    ≡ Some bad.Limit ∷ None ∷ Some bad.Limit ∷ None ∷ Some bad.Limit ∷ []
unfolding read_what
limits_of_write = refl

pub limits_of_block :
    (broken kind.Block (0 ∷ 0 ∷ []) 0
    ∷ broken kind.Block (1 ∷ 0 ∷ []) 256
    ∷ broken kind.Block (1 ∷ 0 ∷ []) 255
    ∷ broken kind.Block (1 ∷ 1 ∷ []) 0 ∷ [])
    ≡ Some bad.Limit ∷ None ∷ Some bad.Missing ∷ Some bad.Limit ∷ []
unfolding read_what
limits_of_block = refl

pub limits_of_create :
    (broken kind.Create (0 ∷ 1 ∷ 3 ∷ []) 72
    ∷ broken kind.Create (0 ∷ 1 ∷ 4 ∷ []) 0
    ∷ broken kind.Create (0 ∷ 0 ∷ 1 ∷ 16 ∷ []) 0
    ∷ broken kind.Create (0 ∷ 0 ∷ 1 ∷ 2 ∷ 0 ∷ 0 ∷ 0 ∷ 5 ∷ 15 ∷ 0 ∷ 0 ∷ 0 ∷ 0 ∷ 13 ∷ []) 13
    ∷ broken kind.Create (0 ∷ 0 ∷ 1 ∷ 2 ∷ 0 ∷ 0 ∷ 0 ∷ 5 ∷ 16 ∷ []) 0
    ∷ broken kind.Create (0 ∷ 0 ∷ 1 ∷ 2 ∷ 0 ∷ 0 ∷ 0 ∷ 5 ∷ 15 ∷ 0 ∷ 0 ∷ 0 ∷ 0 ∷ 2 ∷ []) 0
    ∷ broken kind.Create (0 ∷ 0 ∷ 1 ∷ 2 ∷ 0 ∷ 0 ∷ 0 ∷ 5 ∷ 15 ∷ 0 ∷ 0 ∷ 0 ∷ 0 ∷ 15 ∷ []) 0
    ∷ broken kind.Create (0 ∷ 0 ∷ 1 ∷ 2 ∷ 0 ∷ 0 ∷ 0 ∷ 5 ∷ 15 ∷ 0 ∷ 0 ∷ 0 ∷ 0 ∷ 16 ∷ []) 0
    ∷ broken kind.Create (0 ∷ 0 ∷ 1 ∷ 2 ∷ 0 ∷ 0 ∷ 0 ∷ 5 ∷ 15 ∷ 0 ∷ 0 ∷ 0 ∷ 0 ∷ 0 ∷ 0 ∷ 0 ∷ 0 ∷ 0 ∷ 31 ∷ []) 8
    ∷ broken kind.Create (0 ∷ 0 ∷ 1 ∷ 2 ∷ 0 ∷ 0 ∷ 0 ∷ 5 ∷ 15 ∷ 0 ∷ 0 ∷ 0 ∷ 0 ∷ 0 ∷ 0 ∷ 0 ∷ 0 ∷ 0 ∷ 32 ∷ []) 0
    ∷ broken kind.Create (0 ∷ 0 ∷ 1 ∷ 2 ∷ 0 ∷ 0 ∷ 0 ∷ 5 ∷ 15 ∷ 0 ∷ 0 ∷ 0 ∷ 0 ∷ 0 ∷ 0 ∷ 0 ∷ 0 ∷ 0 ∷ 0 ∷ 0 ∷ 1 ∷ 0 ∷ 0 ∷ []) 4
    ∷ broken kind.Create (0 ∷ 0 ∷ 1 ∷ 2 ∷ 0 ∷ 0 ∷ 0 ∷ 5 ∷ 15 ∷ 0 ∷ 0 ∷ 0 ∷ 0 ∷ 0 ∷ 0 ∷ 0 ∷ 0 ∷ 0 ∷ 0 ∷ 0 ∷ 1 ∷ 0 ∷ 0 ∷ 0 ∷ 0 ∷ 0 ∷ 1 ∷ []) 0
    ∷ broken kind.Create (0 ∷ 0 ∷ 1 ∷ 2 ∷ 0 ∷ 0 ∷ 0 ∷ 5 ∷ 15 ∷ 0 ∷ 0 ∷ 0 ∷ 0 ∷ 0 ∷ 0 ∷ 0 ∷ 0 ∷ 0 ∷ 0 ∷ 255 ∷ 255 ∷ 255 ∷ 255 ∷ 0 ∷ 0 ∷ 0 ∷ 1 ∷ []) 0 ∷ [])
    ≡ None ∷ Some bad.Limit ∷ Some bad.Machine ∷ None ∷ Some bad.Machine ∷ Some bad.Flags ∷ Some bad.Flags ∷ Some bad.Flags ∷ None ∷ Some bad.Limit ∷ None ∷ Some bad.Limit ∷ Some bad.Limit ∷ []
unfolding read_what
limits_of_create = refl

pub limits_of_created :
    (broken kind.Created (15 ∷ []) 4
    ∷ broken kind.Created (16 ∷ []) 0 ∷ [])
    ≡ None ∷ Some bad.Machine ∷ []
unfolding read_what
limits_of_created = refl

pub limits_of_migrate :
    (broken kind.Migrate (16 ∷ []) 0 ∷ [])
    ≡ Some bad.Machine ∷ []
unfolding read_what
limits_of_migrate = refl

pub limits_of_update :
    (broken kind.Update (2 ∷ 0 ∷ 0 ∷ 0 ∷ 5 ∷ 15 ∷ []) 4
    ∷ broken kind.Update (2 ∷ 0 ∷ 0 ∷ 0 ∷ 5 ∷ 16 ∷ []) 0 ∷ [])
    ≡ None ∷ Some bad.Machine ∷ []
unfolding read_what
limits_of_update = refl

pub limits_of_ask :
    (broken kind.Ask (2 ∷ 0 ∷ 0 ∷ 0 ∷ 5 ∷ 0 ∷ 0 ∷ []) 0
    ∷ broken kind.Ask (2 ∷ 0 ∷ 0 ∷ 0 ∷ 5 ∷ 0 ∷ 1 ∷ []) 9
    ∷ broken kind.Ask (2 ∷ 0 ∷ 0 ∷ 0 ∷ 5 ∷ 1 ∷ 0 ∷ []) 9
    ∷ broken kind.Ask (2 ∷ 0 ∷ 0 ∷ 0 ∷ 5 ∷ 1 ∷ 1 ∷ []) 0
    ∷ broken kind.Ask (0 ∷ 0 ∷ 0 ∷ 0 ∷ 1 ∷ []) 11
    ∷ broken kind.Ask (0 ∷ 0 ∷ 0 ∷ 0 ∷ 2 ∷ []) 11
    ∷ broken kind.Ask (0 ∷ 0 ∷ 0 ∷ 0 ∷ 3 ∷ 0 ∷ 0 ∷ []) 0
    ∷ broken kind.Ask (0 ∷ 0 ∷ 0 ∷ 0 ∷ 1 ∷ 0 ∷ 1 ∷ []) 0
    ∷ broken kind.Ask (1 ∷ 0 ∷ 0 ∷ 0 ∷ 1 ∷ 0 ∷ 0 ∷ []) 0
    ∷ broken kind.Ask (2 ∷ 0 ∷ 0 ∷ 0 ∷ 5 ∷ 1 ∷ 0 ∷ 0 ∷ 0 ∷ 0 ∷ 0 ∷ 0 ∷ 0 ∷ 0 ∷ 0 ∷ 1 ∷ []) 14
    ∷ broken kind.Ask (2 ∷ 0 ∷ 0 ∷ 0 ∷ 5 ∷ 1 ∷ 0 ∷ 0 ∷ 0 ∷ 0 ∷ 0 ∷ 0 ∷ 0 ∷ 0 ∷ 0 ∷ 2 ∷ []) 0
    ∷ broken kind.Ask (2 ∷ 0 ∷ 0 ∷ 0 ∷ 5 ∷ 1 ∷ 0 ∷ 0 ∷ 0 ∷ 0 ∷ 0 ∷ 0 ∷ 0 ∷ 0 ∷ 0 ∷ 1 ∷ 0 ∷ 0 ∷ 0 ∷ 0 ∷ 16 ∷ []) 0 ∷ [])
    ≡ Some bad.Limit ∷ None ∷ None ∷ Some bad.Limit ∷ None ∷ None ∷ Some bad.Limit ∷ Some bad.Limit ∷ Some bad.Limit ∷ None ∷ Some bad.Flags ∷ Some bad.Machine ∷ []
unfolding read_what
limits_of_ask = refl

pub limits_of_refuse :
    (broken kind.Refuse (2 ∷ 0 ∷ 0 ∷ 0 ∷ 5 ∷ 64 ∷ 16 ∷ 0 ∷ []) 0
    ∷ broken kind.Refuse (2 ∷ 0 ∷ 0 ∷ 0 ∷ 5 ∷ 65 ∷ []) 0
    ∷ broken kind.Refuse (2 ∷ 0 ∷ 0 ∷ 0 ∷ 5 ∷ 64 ∷ 16 ∷ 1 ∷ []) 0 ∷ [])
    ≡ None ∷ Some bad.Limit ∷ Some bad.Limit ∷ []
unfolding read_what
limits_of_refuse = refl

pub limits_of_pull_state :
    (broken kind.PullState (2 ∷ 0 ∷ 0 ∷ 0 ∷ 5 ∷ []) 4
    ∷ broken kind.PullState (2 ∷ 0 ∷ 0 ∷ 0 ∷ 5 ∷ []) 5 ∷ [])
    ≡ None ∷ Some bad.Trailing ∷ []
unfolding read_what
limits_of_pull_state = refl

pub limits_of_state :
    (broken kind.State (2 ∷ 0 ∷ 0 ∷ 0 ∷ 5 ∷ 0 ∷ 0 ∷ 0 ∷ 0 ∷ 2 ∷ []) 0
    ∷ broken kind.State (2 ∷ 0 ∷ 0 ∷ 0 ∷ 5 ∷ 0 ∷ 0 ∷ 0 ∷ 0 ∷ 1 ∷ 0 ∷ 0 ∷ []) 0
    ∷ broken kind.State (2 ∷ 0 ∷ 0 ∷ 0 ∷ 5 ∷ 0 ∷ 0 ∷ 0 ∷ 0 ∷ 0 ∷ 2 ∷ 0 ∷ []) 512
    ∷ broken kind.State (2 ∷ 0 ∷ 0 ∷ 0 ∷ 5 ∷ 0 ∷ 0 ∷ 0 ∷ 0 ∷ 0 ∷ 2 ∷ 1 ∷ []) 0 ∷ [])
    ≡ Some bad.Flags ∷ Some bad.Limit ∷ None ∷ Some bad.Limit ∷ []
unfolding read_what
limits_of_state = refl

pub limits_of_pull_block :
    (broken kind.PullBlock (2 ∷ 0 ∷ 0 ∷ 0 ∷ 5 ∷ []) 0 ∷ [])
    ≡ Some bad.Missing ∷ []
unfolding read_what
limits_of_pull_block = refl

pub limits_of_memory :
    (broken kind.Memory (2 ∷ 0 ∷ 0 ∷ 0 ∷ 5 ∷ []) 256
    ∷ broken kind.Memory (2 ∷ 0 ∷ 0 ∷ 0 ∷ 5 ∷ []) 257
    ∷ broken kind.Memory (2 ∷ 0 ∷ 0 ∷ 0 ∷ 5 ∷ []) 258 ∷ [])
    ≡ Some bad.Missing ∷ None ∷ Some bad.Trailing ∷ []
unfolding read_what
limits_of_memory = refl

pub limits_of_move :
    (broken kind.Move (16 ∷ []) 0 ∷ [])
    ≡ Some bad.Machine ∷ []
unfolding read_what
limits_of_move = refl

pub limits_of_moved :
    (broken kind.Moved (1 ∷ []) 0
    ∷ broken kind.Moved (2 ∷ []) 0
    ∷ broken kind.Moved (3 ∷ []) 0
    ∷ broken kind.Moved (4 ∷ []) 0 ∷ [])
    ≡ None ∷ Some bad.Limit ∷ None ∷ Some bad.Limit ∷ []
unfolding read_what
limits_of_moved = refl
