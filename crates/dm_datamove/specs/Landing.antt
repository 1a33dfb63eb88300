-- The landing of a piece at the mover.
use Rattle.std.specs.Prelude.{◌≡◌, ℕ, ◌+◌, ◌-◌, ◌==◌, if◌then◌else◌, length}
use Rattle.std.specs.declared.option.Option.{Option}
use Rattle.std.specs.declared.option.Option.TheVariants.{None, Some}
use Rattle.dm_message.specs.declared.Message.{Message}
use Rattle.dm_message.specs.declared.What.{What}
use Rattle.dm_message.specs.declared.What.TheVariants as what
use Rattle.dm_message.specs.Lawful.{IsLawfulMessage}
use Rattle.dm_message.specs.Plain.{PlainMessage, plain_message}
use Rattle.dm_process.specs.declared.process.Process.{Process}
use Rattle.dm_process.specs.declared.process.Status.{Status}
use Rattle.dm_process.specs.declared.process.Status.TheVariants as status
use Rattle.dm_process.specs.declared.process.Direction.{Direction}
use Rattle.dm_process.specs.declared.process.Direction.TheVariants as direction
use Rattle.dm_onekernel.specs.declared.label.Reply.{Reply}
use Rattle.dm_onekernel.specs.declared.label.Reply.TheVariants as reply
use Rattle.dm_onekernel.specs.Codes.{reply_code}
use Rattle.dm_onekernel.specs.PlainProcess.{setting}
use Rattle.dm_onekernel.specs.Plain.{plain_process}
use Rattle.dm_onekernel.specs.Options.{bind}
use Rattle.dm_onekernel.specs.Pieces.{piece_of, written_at, lands}
use Rattle.dm_onekernel.specs.Pieces as pieces
use Rattle.dm_datamove.specs.declared.Rest.{Rest}
use Rattle.dm_datamove.specs.declared.Landed.{Landed}
use Rattle.dm_datamove.specs.declared.Landed.TheVariants as landed
use Rattle.dm_datamove.specs.Requests.{request, moving}

-- the answer has what the request of a move with so many bytes left asked for, or says that the owner has ended
abbrev pub IsAnswerOf : Direction → ℕ → What → Type 0
IsAnswerOf direction.FromArea left (what.Block bytes) = length bytes.items ≡ piece_of left
IsAnswerOf direction.IntoArea left what.Written = Unit {0}
IsAnswerOf dir left what.Gone = Unit {0}
IsAnswerOf dir left w = ⊥

-- the answer to the request that is under way
abbrev pub IsAwaited : Status → Message → Type 0
IsAwaited status.Ready m = ⊥
IsAwaited (status.Waiting mask base cap) m = ⊥
IsAwaited (status.Moving dir owner base own left pending) m = (m.id.n ≡ pending) × IsAnswerOf dir left m.what

-- what a landing comes to, and the mover after it
pub record Landing : Type 0 where
  pub landed : Landed
  pub process : Process

-- the move is over
abbrev pub done : Reply → Process → Landing
done c p = record { landed = landed.Done c; process = record p { regs = setting p.regs 0 (reply_code c); status = status.Ready } }

-- the next piece is asked for
abbrev pub asks : ℕ → Process → Rest → Landing
asks here p r = record { landed = landed.Next (request here p r); process = moving p r }

-- what is left behind the first piece
abbrev pub behind : Rest → Rest
behind r =
    record r { base = r.base + piece_of r.left; own = r.own + piece_of r.left; left = r.left - piece_of r.left }

-- the first piece has come: the move goes on behind it, or is done where nothing is left
abbrev pub goes_on : ℕ → Process → Rest → Landing
goes_on here p r = if r.left - piece_of r.left == 0 then done reply.Done p else asks here p (behind r)

-- bytes of the area stand in the mover's memory, bytes of the mover's in the area, or the owner has ended
abbrev pub lands_what : ℕ → Process → Rest → Direction → What → Option Landing
lands_what here p r direction.FromArea (what.Block bytes) = Some (goes_on here (record p { memory = written_at p.memory r.own bytes.items }) r)
lands_what here p r direction.IntoArea what.Written = Some (goes_on here p r)
lands_what here p r dir what.Gone = Some (done reply.Gone p)
lands_what here p r dir w = None

-- the landing of an answer at a mover on machine `here`
abbrev pub landing : ℕ → Process → What → Status → Option Landing
landing here p w status.Ready = None
landing here p w (status.Waiting mask base cap) = None
landing here p w (status.Moving dir owner base own left pending) =
    lands_what here p (record { dir = dir; owner = owner; base = base; own = own; left = left }) dir w

-- what it comes to, without places
abbrev pub plain_landed : Landed → Process → Option pieces.Landed
plain_landed (landed.Next m) p = bind (plain_message m) (λ m. Some (pieces.Next m (plain_process p)))
plain_landed (landed.Done c) p = Some (pieces.Done c (plain_process p))

-- what the kernel without machines makes of the answer
abbrev pub plainly_landed : Process → Option PlainMessage → Option pieces.Landed
plainly_landed p m = bind m (λ m. lands p.pid (plain_process p) m (plain_process p).status)

-- a next request is lawful
abbrev pub IsLawfulLanded : Landed → Type 0
IsLawfulLanded (landed.Next m) = IsLawfulMessage m
IsLawfulLanded (landed.Done c) = Unit {0}
