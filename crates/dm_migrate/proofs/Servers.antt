-- The state bytes of a server: they are read again, in whatever system, and there is at least one.
use Rattle.dm_migrate.proofs.Names.{◌≡◌, ℕ, ◌<◌, ◌≤◌, ◌==◌, ◌∙◌, Bool, true, false, if◌then◌else◌, List, length, ap, subst, sym, arith, Result, Ok, Err, StateBytesError}
use Rattle.dm_statebytes.proofs.Names.{PacketError, ◌>>=◌}
use Rattle.dm_statebytes.specs.declared.server.ServerError.{ServerError}
use Rattle.dm_statebytes.specs.declared.server.ServerError.TheVariants.{StateBytes}
use Rattle.dm_statebytes.specs.Servers.{IsUnpacked, by_rules, only_read}
use Rattle.dm_statebytes.proofs.Servers.{whole_again}
use Rattle.dm_switchboard.specs.Board.{Board}
use Rattle.dm_switchboard.specs.Packed.{IsSpelledBoard, board, board_of_bytes, board_spelling}
use Rattle.dm_switchboard.proofs.Packed.{board_is}
use Rattle.dm_procman.specs.Managing.{Managing}
use Rattle.dm_procman.specs.Packed.{IsSpelledManager, ManagerParts, manager_of_bytes, manager_parts, manager_spelling, manager_with, managing}
use Rattle.dm_procman.proofs.Packed.{managing_is}

pub board_again : (b : Board) → IsSpelledBoard b → board_of_bytes (board_spelling b) ≡ Ok b
unfolding board_of_bytes board_spelling
board_again b h = whole_again board IsSpelledBoard board_is b h

pub board_some : (b : Board) → 1 ≤ length (board_spelling b)
unfolding board_spelling
board_some b = omega arith

pub manager_again : (g : Managing) → IsSpelledManager g.machines g.images g → manager_of_bytes g.machines g.images (manager_spelling g) ≡ Ok g
unfolding manager_of_bytes manager_spelling
manager_again g h = whole_again (managing g.machines g.images) (IsSpelledManager g.machines g.images) (managing_is g.machines g.images h.lawful.machines) g h

pub manager_some : (g : Managing) → 1 ≤ length (manager_spelling g)
unfolding manager_spelling
manager_some g = omega arith

-- how many machines and images there are isn't among the bytes

abbrev done : Managing → Result Managing StateBytesError
done g = Ok g

abbrev pub in_system : ℕ → ℕ → Managing → Managing
in_system machines images g = record g { machines = machines; images = images }

-- what all the bytes are of, behind the parts that are read of them
abbrev read_as : ℕ → ℕ → Result (ManagerParts × List ℕ) PacketError → Result Managing StateBytesError
read_as machines images r = by_rules ((r >>= λ x. Ok (manager_with machines images x.0, x.1)) >>= only_read)

ends_elsewhere : (end : Bool) (rule : PacketError) (p : ManagerParts) (g : Managing) (machines images : ℕ) → by_rules (if end then Ok (manager_with g.machines g.images p) else Err rule) ≡ done g
    → by_rules (if end then Ok (manager_with machines images p) else Err rule) ≡ done (in_system machines images g)
ends_elsewhere true rule p g machines images e =
    let same : manager_with g.machines g.images p ≡ g = cc in
    ap (λ (h : Managing). done (in_system machines images h)) same
ends_elsewhere false rule p g machines images e = absurd cc

read_elsewhere : (r : Result (ManagerParts × List ℕ) PacketError) (g : Managing) (machines images : ℕ) → read_as g.machines g.images r ≡ done g → read_as machines images r ≡ done (in_system machines images g)
read_elsewhere (Ok x) g machines images e = ends_elsewhere (length x.1 == 0) _ x.0 g machines images e
read_elsewhere (Err d) g machines images e = absurd cc

pub manager_elsewhere : (bytes : List ℕ) (g : Managing) (machines images : ℕ) → manager_of_bytes g.machines g.images bytes ≡ Ok g → manager_of_bytes machines images bytes ≡ Ok (in_system machines images g)
unfolding manager_of_bytes
manager_elsewhere bytes g machines images e = read_elsewhere (manager_parts.read bytes) g machines images e

-- what bytes spell is one

same_manager : (g h : Managing) → done g ≡ done h → g ≡ h
same_manager g h e = cc

pub once_more : (g h : Managing) (read : Result Managing StateBytesError) → read ≡ Ok g → read ≡ Ok h → g.moves < 4294967295 → h.moves < 4294967295
once_more g h read e f lt = subst (λ (x : Managing). x.moves < 4294967295) (same_manager g h (sym e ∙ f)) lt

-- so no rule is broken
pub spelled_so : (r : Result Managing ServerError) (rule : StateBytesError) (g : Managing) (read : Result Managing StateBytesError) → read ≡ Ok g → r ≡ Err (StateBytes rule) → IsUnpacked r read → ⊥
spelled_so r rule g read e is u =
    let broken : read ≡ Err rule = subst (λ (x : Result Managing ServerError). IsUnpacked x read) is u in
    let both : done g ≡ Err rule = sym e ∙ broken in
    absurd (cc both)
