-- What the messages of each kind carry.
use Rattle.std.specs.Prelude.{ℕ, ◌+◌, Bool, true, false, List, [], ◌∷◌, nat_le, ◌==◌, ◌&&◌, ◌||◌, if◌then◌else◌, Option, None, Some, is_some, ok_or, option_map, find, Ok}
use Rattle.std.specs.declared.result.Result.{Result}
use Rattle.std.specs.Option.{option_map_or}
use Rattle.dm_link.specs.declared.Pid.{Pid}
use Rattle.dm_link.specs.declared.Link.{Link}
use Rattle.dm_message.specs.declared.Asker.{Asker}
use Rattle.dm_message.specs.declared.Outcome.{Outcome}
use Rattle.dm_message.specs.declared.Outcome.TheVariants as ends
use Rattle.dm_message.specs.declared.What.{What}
use Rattle.dm_message.specs.declared.What.TheVariants as what
use Rattle.dm_message.specs.declared.kind.MessageKind.{MessageKind}
use Rattle.dm_message.specs.declared.kind.MessageKind.TheVariants as kind
use Rattle.dm_message.specs.Ids.{bool_eq}
pub use Rattle.dm_message.specs.Outcomes.{code_of_outcome}
use Rattle.dm_message.specs.Kinds.{all_kinds, number_of}
use Rattle.dm_packet.specs.declared.PacketError.{PacketError}
use Rattle.dm_packet.specs.declared.PacketError.TheVariants as bad
use Rattle.dm_packet.specs.declared.reading.kinds.Naming.{Naming}
use Rattle.dm_packet.specs.declared.reading.kinds.Naming.TheVariants as names
use Rattle.dm_packet.specs.Field.{Field, ◌>>=◌, number, number_within, run, tested, both, made, counted}
use Rattle.dm_packet.specs.Fields.{addr, bit_of, bytes_within, channel, links, machine, pid}

-- one of these values, each of which a byte stands for, or a rule that is broken
abbrev pub coded : {X : Type 0} → List X → (X → ℕ) → PacketError → Field X
coded all code rule = record {
  spell = λ x. (number 1).spell (code x);
  read = λ bytes. (number 1).read bytes >>= λ n. ok_or (option_map (λ x. (x, n.1)) (find (λ x. n.0 == code x) all)) rule;
}

-- a yes or no, or a rule that is broken
abbrev pub yes_or_no : PacketError → Field Bool
yes_or_no rule = coded (false ∷ true ∷ []) bit_of rule

abbrev pub message_kind : Field MessageKind
message_kind = coded all_kinds number_of bad.MessageKind

-- a value, if there is one
abbrev pub held_if : {X : Type 0} → Field X → Bool → Field (Option X)
held_if f holds = record {
  spell = λ o. option_map_or f.spell o [];
  read = λ bytes. if holds then (f.read bytes >>= λ x. Ok (Some x.0, x.1)) else Ok (None, bytes);
}

-- a yes and a value, or a no
abbrev pub optional : {X : Type 0} → Field X → Field (Option X)
optional f = made (both (yes_or_no bad.Flags) (held_if f)) (λ p. p.1) (λ o. (is_some o, o))

abbrev pub asker : Field Asker
asker = made (both (number 4) (λ _. addr)) (λ a. record { n = a.0; addr = a.1 }) (λ a. (a.n, a.addr))

-- the length of a piece, which begins at base
abbrev pub piece_from : ℕ → Field ℕ
piece_from base = tested (number 2) (λ n. (nat_le 1 n && nat_le n 256) && nat_le (base + n) 65536) bad.Limit

abbrev pub is_server_pid : Pid → Bool
is_server_pid p = (p.home == 0) && ((p.num == 1) || (p.num == 2))

-- a process's blocks, 1 to 256; a server has none
abbrev pub blocks_field : Pid → Field ℕ
blocks_field p = tested (number 2) (λ n. nat_le n 256 && bool_eq (n == 0) (is_server_pid p)) bad.Limit

-- the fields of the kinds that have more than one
abbrev pub user : Field (ℕ × (ℕ × (List ℕ × List Link)))
user = both (number 4) (λ _. both channel (λ _. both (bytes_within 0 256) (λ _. links 4)))

abbrev pub read : Field (ℕ × ℕ)
read = both (number 4) piece_from

abbrev pub write : Field (ℕ × List ℕ)
write = both (number 4) (λ base. counted (piece_from base) run)

abbrev pub create : Field (ℕ × List Link)
create = both (number 2) (λ _. links 3)

abbrev pub ask : Field (Pid × (ℕ × (ℕ × (ℕ × Option Asker))))
ask = both pid (λ p. both (blocks_field p) (λ _. both (number 4) (λ _. both (number 4) (λ _. optional asker))))

abbrev pub refuse : Field (Pid × (ℕ × ℕ))
refuse = both pid (λ _. both (number_within 1 0 64) (λ _. number_within 2 0 4096))

-- the number of a chunk or a block, in so many bytes
abbrev pub piece_asked : ℕ → Field (Pid × ℕ)
piece_asked size = both pid (λ _. number size)

abbrev pub state : Field (Pid × (ℕ × (Bool × List ℕ)))
state = both pid (λ _. both (number 4) (λ _. both (yes_or_no bad.Flags) (λ _. bytes_within 1 512)))

abbrev pub memory : Field (Pid × (ℕ × List ℕ))
memory = both pid (λ _. both (number 1) (λ _. run 256))

abbrev pub outcome_field : Field Outcome
outcome_field = coded (ends.Done ∷ ends.Stayed ∷ ends.Ended ∷ []) code_of_outcome bad.Limit

-- the one spelling of what a message carries
unfoldable pub spell_what : What → List ℕ
spell_what (what.User code channel body links) = user.spell (code, (channel, (body.items, links.items)))
spell_what (what.Read base len) = read.spell (base, len)
spell_what (what.Write base bytes) = write.spell (base, bytes.items)
spell_what (what.Block bytes) = (bytes_within 1 256).spell bytes.items
spell_what (what.Create image links) = create.spell (image, links.items)
spell_what (what.Created p) = pid.spell p
spell_what (what.Migrate m) = machine.spell m
spell_what (what.Update about) = addr.spell about
spell_what (what.Ask p blocks moves size who) = ask.spell (p, (blocks, (moves, (size, who))))
spell_what (what.Refuse p slots blocks) = refuse.spell (p, (slots, blocks))
spell_what (what.PullState p chunk) = (piece_asked 4).spell (p, chunk)
spell_what (what.State p chunk last bytes) = state.spell (p, (chunk, (last, bytes.items)))
spell_what (what.PullBlock p block) = (piece_asked 1).spell (p, block)
spell_what (what.Memory p block bytes) = memory.spell (p, (block, bytes))
spell_what (what.AllTaken p) = pid.spell p
spell_what (what.Restart p) = pid.spell p
spell_what (what.Move m) = machine.spell m
spell_what (what.Moved end) = outcome_field.spell end
spell_what (what.CallOff p) = pid.spell p
spell_what (what.Bury p) = pid.spell p
spell_what w = []

-- what is read, put into a message
abbrev pub read_as : {X : Type 0} → Field X → (X → What) → List ℕ → Result (What × List ℕ) PacketError
read_as f make bytes = f.read bytes >>= λ x. Ok (make x.0, x.1)

-- what a message says that names a process, and nothing else
abbrev pub naming_of : Naming → Pid → What
naming_of names.Created p = what.Created p
naming_of names.AllTaken p = what.AllTaken p
naming_of names.Restart p = what.Restart p
naming_of names.CallOff p = what.CallOff p
naming_of names.Bury p = what.Bury p

-- what a message of this kind carries, or the first rule that is broken
unfoldable pub read_what : MessageKind → List ℕ → Result (What × List ℕ) PacketError
read_what kind.User bytes = read_as user (λ x. what.User x.0 x.1.0 (record { items = x.1.1.0 }) (record { items = x.1.1.1 })) bytes
read_what kind.Stop bytes = Ok (what.Stop, bytes)
read_what kind.Resume bytes = Ok (what.Resume, bytes)
read_what kind.Kill bytes = Ok (what.Kill, bytes)
read_what kind.Read bytes = read_as read (λ x. what.Read x.0 x.1) bytes
read_what kind.Write bytes = read_as write (λ x. what.Write x.0 (record { items = x.1 })) bytes
read_what kind.Block bytes = read_as (bytes_within 1 256) (λ x. what.Block (record { items = x })) bytes
read_what kind.Written bytes = Ok (what.Written, bytes)
read_what kind.Gone bytes = Ok (what.Gone, bytes)
read_what kind.Create bytes = read_as create (λ x. what.Create x.0 (record { items = x.1 })) bytes
read_what kind.Created bytes = read_as pid what.Created bytes
read_what kind.NoRoom bytes = Ok (what.NoRoom, bytes)
read_what kind.Migrate bytes = read_as machine what.Migrate bytes
read_what kind.Update bytes = read_as addr what.Update bytes
read_what kind.Ask bytes = read_as ask (λ x. what.Ask x.0 x.1.0 x.1.1.0 x.1.1.1.0 x.1.1.1.1) bytes
read_what kind.Refuse bytes = read_as refuse (λ x. what.Refuse x.0 x.1.0 x.1.1) bytes
read_what kind.PullState bytes = read_as (piece_asked 4) (λ x. what.PullState x.0 x.1) bytes
read_what kind.State bytes = read_as state (λ x. what.State x.0 x.1.0 x.1.1.0 (record { items = x.1.1.1 })) bytes
read_what kind.PullBlock bytes = read_as (piece_asked 1) (λ x. what.PullBlock x.0 x.1) bytes
read_what kind.Memory bytes = read_as memory (λ x. what.Memory x.0 x.1.0 x.1.1) bytes
read_what kind.AllTaken bytes = read_as pid what.AllTaken bytes
read_what kind.Restart bytes = read_as pid what.Restart bytes
read_what kind.Move bytes = read_as machine what.Move bytes
read_what kind.Moved bytes = read_as outcome_field what.Moved bytes
read_what kind.CallOff bytes = read_as pid what.CallOff bytes
read_what kind.Bury bytes = read_as pid what.Bury bytes
