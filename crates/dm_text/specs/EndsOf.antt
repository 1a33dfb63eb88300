-- The lines at the end of a run, read from their words.
use Rattle.std.specs.Prelude.{ℕ, ◌+◌, ◌-◌, ◌*◌, ◌^◌, nat_le, Bool, true, false, ◌&&◌, if◌then◌else◌, ◌==◌, List, [], ◌∷◌, length, take, get_or, codes}
use Rattle.std.specs.declared.option.Option.{Option}
use Rattle.std.specs.declared.option.Option.TheVariants.{None, Some}
use Rattle.dm_reading.specs.Numbers.{read_number}
use Rattle.dm_link.specs.declared.Pid.{Pid}
use Rattle.dm_link.specs.declared.Kind.{Kind}
use Rattle.dm_link.specs.declared.Kind.TheVariants.{General, Reply}
use Rattle.dm_link.specs.declared.Link.{Link}
use Rattle.dm_process.specs.declared.process.Direction.{Direction}
use Rattle.dm_process.specs.declared.process.Direction.TheVariants.{FromArea, IntoArea}
use Rattle.dm_line.specs.declared.end_line.Doing.{Doing}
use Rattle.dm_line.specs.declared.end_line.Doing.TheVariants as doing
use Rattle.dm_line.specs.declared.end_line.EndLine.{EndLine}
use Rattle.dm_line.specs.declared.end_line.EndLine.TheVariants as end
use Rattle.dm_line.specs.declared.end_line.Standing.{Standing}
use Rattle.dm_line.specs.declared.end_line.Standing.TheVariants as standing
use Rattle.dm_text.specs.Reading.{◌<*>◌, read_u8, read_u32, read_pid, read_id, read_why}
use Rattle.dm_text.specs.Rows.{is, of0, of1, of2, all_read}

unfoldable pub read_standing : List ℕ → Option Standing
read_standing w =
    if is w (codes "here") then Some standing.Here
    else if is w (codes "leaving") then Some standing.Leaving
    else if is w (codes "arriving") then Some standing.Arriving
    else None

unfoldable pub read_direction : List ℕ → Option Direction
read_direction w = if is w (codes "0") then Some FromArea else if is w (codes "1") then Some IntoArea else None

-- whether a process is stopped
unfoldable pub read_go : List ℕ → Option Bool
read_go w = if is w (codes "go") then Some false else if is w (codes "stopped") then Some true else None

unfoldable pub read_link_kind : List ℕ → Option Kind
read_link_kind w = if is w (codes "general") then Some General else if is w (codes "reply") then Some Reply else None

-- the rights to read and to write
unfoldable pub read_rights : List ℕ → Option (Bool × Bool)
read_rights w =
    if is w (codes "-") then Some (false, false)
    else if is w (codes "r") then Some (true, false)
    else if is w (codes "w") then Some (false, true)
    else if is w (codes "rw") then Some (true, true)
    else None

-- the number of a digit 0 to 9, a to f
abbrev pub hex_value : ℕ → Option ℕ
hex_value b = if nat_le 48 b && nat_le b 57 then Some (b - 48) else if nat_le 97 b && nat_le b 102 then Some (b - 87) else None

-- the bytes of two digits each
unfoldable pub read_hex : List ℕ → Option (List ℕ)
read_hex [] = Some []
read_hex (a ∷ []) = None
read_hex (a ∷ b ∷ bs) = Some (λ h l xs. (16 * h + l) ∷ xs) <*> hex_value a <*> hex_value b <*> read_hex bs

abbrev pub link_from : Kind → Pid → ℕ → ℕ → ℕ → ℕ → ℕ → ℕ → Bool × Bool → Link
link_from kind q at moves code channel base len rights =
    record {
      addr = record { pid = q; at = at; moves = moves };
      kind = kind;
      to_kernel = false;
      code = code;
      channel = channel;
      area = record { base = base; len = len; read = rights.0; write = rights.1 };
    }

-- KIND Q at M moves C code C channel H area BASE LEN RIGHTS
unfoldable pub read_link : List (List ℕ) → Option Link
read_link (k ∷ q ∷ at ∷ m ∷ moves ∷ c ∷ code ∷ n ∷ channel ∷ h ∷ area ∷ base ∷ len ∷ rights ∷ []) =
    if is at (codes "at") && is moves (codes "moves") && is code (codes "code") && is channel (codes "channel") && is area (codes "area")
    then Some link_from <*> read_link_kind k <*> read_pid q <*> read_u8 m <*> read_u32 c <*> read_u32 n <*> read_u8 h <*> read_u32 base <*> read_u32 len <*> read_rights rights
    else None
read_link _ = None

-- process P at M PLACE STATUS GO SENT, where its fixed words stand
abbrev pub process_from : Bool → List ℕ → List ℕ → List ℕ → Option Doing → List ℕ → List ℕ → Option EndLine
process_from false p m s d go sent = None
process_from true p m s d go sent =
    Some (λ p m s d go sent. end.Process p m s d go sent) <*> read_pid p <*> read_u8 m <*> read_standing s <*> d <*> read_go go <*> read_u32 sent

abbrev pub waiting : List ℕ → List ℕ → List ℕ → Option Doing
waiting mask base most = Some (λ mask base most. doing.Waiting mask base most) <*> read_u32 mask <*> read_u32 base <*> read_u32 most

abbrev pub moving : List ℕ → List ℕ → List ℕ → List ℕ → List ℕ → Option Doing
moving dir q base own left = Some (λ dir q base own left. doing.Moving dir q base own left) <*> read_direction dir <*> read_pid q <*> read_u32 base <*> read_u32 own <*> read_u32 left

-- process P ended WHY, and the three of a process that has not
abbrev pub process_of : List (List ℕ) → Option EndLine
process_of (p ∷ ended ∷ y ∷ []) = if is ended (codes "ended") then Some (λ p y. end.Ended p y) <*> read_pid p <*> read_why y else None
process_of (p ∷ at ∷ m ∷ s ∷ status ∷ go ∷ sent ∷ []) = process_from (is at (codes "at") && is status (codes "ready")) p m s (Some doing.Ready) go sent
process_of (p ∷ at ∷ m ∷ s ∷ status ∷ mask ∷ base ∷ most ∷ go ∷ sent ∷ []) =
    process_from (is at (codes "at") && is status (codes "waiting")) p m s (waiting mask base most) go sent
process_of (p ∷ at ∷ m ∷ s ∷ status ∷ dir ∷ q ∷ base ∷ own ∷ left ∷ go ∷ sent ∷ []) =
    process_from (is at (codes "at") && is status (codes "moving")) p m s (moving dir q base own left) go sent
process_of _ = None

-- the registers, 0 to 15, and the program counter
abbrev pub registers_from : Pid → List ℕ → Option EndLine
registers_from p xs = if length xs == 17 then Some (end.Registers p (take 16 xs) (get_or xs 16 0)) else None

-- where both are there
abbrev pub registers_in : Option Pid → Option (List ℕ) → Option EndLine
registers_in None xs = None
registers_in (Some p) None = None
registers_in (Some p) (Some xs) = registers_from p xs

abbrev pub registers_of : List (List ℕ) → Option EndLine
registers_of [] = None
registers_of (p ∷ ws) = registers_in (read_pid p) (all_read read_u32 ws)

-- memory P K HEX
abbrev pub memory_of : List (List ℕ) → Option EndLine
memory_of (p ∷ k ∷ bytes ∷ []) = Some (λ p k bytes. end.Memory p k (record { items = bytes })) <*> read_pid p <*> read_u8 k <*> read_hex bytes
memory_of _ = None

-- link P SLOT LINK
abbrev pub link_of : List (List ℕ) → Option EndLine
link_of (p ∷ slot ∷ ws) = Some (λ p slot l. end.Link p slot l) <*> read_pid p <*> read_u8 slot <*> read_link ws
link_of _ = None

-- name HEX LINK
abbrev pub name_of : List (List ℕ) → Option EndLine
name_of (name ∷ ws) = Some (λ name l. end.Name (record { items = name }) l) <*> read_hex name <*> read_link ws
name_of _ = None

-- child N P at M
abbrev pub child_of : List (List ℕ) → Option EndLine
child_of (n ∷ p ∷ at ∷ m ∷ []) = if is at (codes "at") then Some (λ n p m. end.Child n p m) <*> read_u32 n <*> read_pid p <*> read_u8 m else None
child_of _ = None

-- place P at M PLACE
abbrev pub place_of : List (List ℕ) → Option EndLine
place_of (p ∷ at ∷ m ∷ s ∷ []) = if is at (codes "at") then Some (λ p m s. end.Place p m s) <*> read_pid p <*> read_u8 m <*> read_standing s else None
place_of _ = None

-- queue P ID ..
abbrev pub queue_of : List (List ℕ) → Option EndLine
queue_of (p ∷ ids) = Some (λ p ids. end.Queue p ids) <*> read_pid p <*> all_read read_id ids
queue_of _ = None

-- holding M P ID ..
abbrev pub holding_of : List (List ℕ) → Option EndLine
holding_of (m ∷ p ∷ ids) = Some (λ m p ids. end.Holding m p ids) <*> read_u8 m <*> read_pid p <*> all_read read_id ids
holding_of _ = None

-- inbox M ID ..
abbrev pub inbox_of : List (List ℕ) → Option EndLine
inbox_of (m ∷ ids) = Some (λ m ids. end.Inbox m ids) <*> read_u8 m <*> all_read read_id ids
inbox_of _ = None

-- stream A B ID ..
abbrev pub stream_of : List (List ℕ) → Option EndLine
stream_of (a ∷ b ∷ ids) = Some (λ a b ids. end.Stream a b ids) <*> read_u8 a <*> read_u8 b <*> all_read read_id ids
stream_of _ = None

abbrev pub end_named : List ℕ → List (List ℕ) → Option EndLine
end_named w ws =
    if is w (codes "final") then of0 end.Final ws
    else if is w (codes "process") then process_of ws
    else if is w (codes "registers") then registers_of ws
    else if is w (codes "memory") then memory_of ws
    else if is w (codes "link") then link_of ws
    else if is w (codes "server") then of2 read_pid read_u32 (λ p n. end.Server p n) ws
    else if is w (codes "place") then place_of ws
    else if is w (codes "name") then name_of ws
    else if is w (codes "child") then child_of ws
    else if is w (codes "pending") then of1 read_id (λ i. end.Pending i) ws
    else if is w (codes "queue") then queue_of ws
    else if is w (codes "holding") then holding_of ws
    else if is w (codes "inbox") then inbox_of ws
    else if is w (codes "stream") then stream_of ws
    else if is w (codes "end") then of1 (read_number (2 ^ 128)) (λ g. end.Groups g) ws
    else None
