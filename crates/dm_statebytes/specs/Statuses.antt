-- What a process does when it is served, as bytes.
use Rattle.std.specs.Prelude.{ℕ, ◌+◌, List, [], ◌∷◌, ◌++◌, nat_le, ◌&&◌, Ok}
use Rattle.std.specs.declared.result.Result.{Result}
use Rattle.dm_link.specs.declared.Addr.{Addr}
use Rattle.dm_process.specs.Directions.{number_of_direction}
use Rattle.dm_process.specs.declared.process.Direction.{Direction}
use Rattle.dm_process.specs.declared.process.Direction.TheVariants.{FromArea, IntoArea}
use Rattle.dm_process.specs.declared.process.Status.{Status}
use Rattle.dm_process.specs.declared.process.Status.TheVariants.{Ready, Waiting, Moving}
use Rattle.dm_packet.specs.declared.PacketError.{PacketError}
use Rattle.dm_packet.specs.declared.PacketError.TheVariants as bad
use Rattle.dm_packet.specs.Field.{Field, ◌>>=◌, number, tested, both}
use Rattle.dm_packet.specs.Fields.{addr, len_from}
use Rattle.dm_packet.specs.Whats.{coded}
use Rattle.dm_statebytes.specs.declared.status.StatusKind.{StatusKind}
use Rattle.dm_statebytes.specs.declared.status.StatusKind.TheVariants as kinds

abbrev pub number_of_status_kind : StatusKind → ℕ
number_of_status_kind kinds.Ready = 0
number_of_status_kind kinds.Waiting = 1
number_of_status_kind kinds.Moving = 2

abbrev pub status_kind : Field StatusKind
status_kind = coded (kinds.Ready ∷ kinds.Waiting ∷ kinds.Moving ∷ []) number_of_status_kind bad.Flags

-- the channels that are waited for, and the buffer's first byte and size
abbrev pub waiting : ℕ → Field (ℕ × (ℕ × ℕ))
waiting size = both (number 4) (λ _. both (number 4) (len_from size))

abbrev pub direction : Field Direction
direction = coded (FromArea ∷ IntoArea ∷ []) number_of_direction bad.Flags

-- how much of a move is left: it begins at base in the owner's memory and at own in the mover's, which has so many bytes
abbrev pub left_from : ℕ → ℕ → ℕ → Field ℕ
left_from size base own = tested (number 4) (λ left. (nat_le 1 left && nat_le left 65536) && (nat_le (base + left) 65536 && nat_le (own + left) size)) bad.Limit

-- the direction, the owner, where the piece under way begins there and here, what is left, and the request's number
abbrev pub moving : ℕ → Field (Direction × (Addr × (ℕ × (ℕ × (ℕ × ℕ)))))
moving size = both direction (λ _. both addr (λ _. both (number 4) (λ base. both (number 4) (λ own. both (left_from size base own) (λ _. number 4)))))

abbrev pub spell_status : ℕ → Status → List ℕ
spell_status size Ready = status_kind.spell kinds.Ready
spell_status size (Waiting mask base cap) = status_kind.spell kinds.Waiting ++ (waiting size).spell (mask, (base, cap))
spell_status size (Moving dir owner base own left pending) = status_kind.spell kinds.Moving ++ (moving size).spell (dir, (owner, (base, (own, (left, pending)))))

abbrev pub read_status : ℕ → StatusKind → List ℕ → Result (Status × List ℕ) PacketError
read_status size kinds.Ready bytes = Ok (Ready, bytes)
read_status size kinds.Waiting bytes = (waiting size).read bytes >>= λ w. Ok (Waiting w.0.0 w.0.1.0 w.0.1.1, w.1)
read_status size kinds.Moving bytes = (moving size).read bytes >>= λ m. Ok (Moving m.0.0 m.0.1.0 m.0.1.1.0 m.0.1.1.1.0 m.0.1.1.1.1.0 m.0.1.1.1.1.1, m.1)

-- the status of a process whose memory has so many bytes
abbrev pub status : ℕ → Field Status
status size = record {
  spell = spell_status size;
  read = λ bytes. status_kind.read bytes >>= λ k. read_status size k.0 k.1;
}
