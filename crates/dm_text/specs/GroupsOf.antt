-- The other lines of groups, read from their words.
use Rattle.std.specs.Prelude.{ℕ, if◌then◌else◌, List, [], ◌∷◌, codes}
use Rattle.std.specs.declared.option.Option.{Option}
use Rattle.std.specs.declared.option.Option.TheVariants.{None, Some}
use Rattle.dm_line.specs.declared.line.Line.{Line}
use Rattle.dm_line.specs.declared.line.Line.TheVariants as line
use Rattle.dm_line.specs.declared.line.Load.{Load}
use Rattle.dm_line.specs.declared.line.Load.TheVariants as load
use Rattle.dm_line.specs.declared.line.Stage.{Stage}
use Rattle.dm_line.specs.declared.line.Stage.TheVariants as stage
use Rattle.dm_text.specs.Reading.{◌<*>◌, first_where, read_u8, read_u16, read_u32, read_u64, read_pid, read_id, read_kind}
use Rattle.dm_text.specs.Rows.{is, of0, of1, of2, of3}
use Rattle.dm_text.specs.Text.{stage_word}

abbrev pub stages : List Stage
stages = stage.Frozen ∷ stage.Asked ∷ stage.Accepted ∷ stage.StateTaken ∷ stage.MemoryTaken ∷ stage.Left ∷ stage.Restarted ∷ []

-- the step of a migration that has this number
unfoldable pub read_stage : List ℕ → Option Stage
read_stage w = first_where (λ s. is (stage_word s) w) stages

-- what a packet carries
abbrev pub read_load : List ℕ → List ℕ → Option Load
read_load w n =
    if is w (codes "data") then Some load.Data <*> read_u32 n
    else if is w (codes "ack") then Some load.Ack <*> read_u32 n
    else None

-- put A B ID KIND Q
abbrev pub put_of : List (List ℕ) → Option Line
put_of (a ∷ b ∷ i ∷ k ∷ q ∷ []) = Some (λ a b i k q. line.Put a b i k q) <*> read_u8 a <*> read_u8 b <*> read_id i <*> read_kind k <*> read_pid q
put_of _ = None

-- packet A B K data N, packet A B K ack N
abbrev pub packet_of : List (List ℕ) → Option Line
packet_of (a ∷ b ∷ k ∷ w ∷ n ∷ []) = Some (λ a b k l. line.Packet a b k l) <*> read_u8 a <*> read_u8 b <*> read_u64 k <*> read_load w n
packet_of _ = None

-- step S P, step 6 P N
abbrev pub step_of : List (List ℕ) → Option Line
step_of (s ∷ p ∷ []) = Some (λ s p. line.Migration s p) <*> read_stage s <*> read_pid p
step_of (s ∷ p ∷ n ∷ []) = if is s (codes "6") then Some (λ p n. line.SentOn p n) <*> read_pid p <*> read_u32 n else None
step_of _ = None

abbrev pub group_named : List ℕ → List (List ℕ) → Option Line
group_named w ws =
    if is w (codes "idle") then of1 read_u8 line.Idle ws
    else if is w (codes "put") then put_of ws
    else if is w (codes "packet") then packet_of ws
    else if is w (codes "taken") then of3 read_u8 read_u8 read_u32 line.Taken ws
    else if is w (codes "old") then of3 read_u8 read_u8 read_u32 line.Old ws
    else if is w (codes "early") then of3 read_u8 read_u8 read_u32 line.Early ws
    else if is w (codes "acked") then of3 read_u8 read_u8 read_u32 line.Acked ws
    else if is w (codes "none") then of0 line.Nothing ws
    else if is w (codes "resent") then of2 read_u8 read_u32 line.Resent ws
    else if is w (codes "queued") then of1 read_id line.Queued ws
    else if is w (codes "held") then of1 read_id line.Held ws
    else if is w (codes "forwarded") then of2 read_id read_u8 line.Forwarded ws
    else if is w (codes "updated") then of2 read_id read_u32 line.Updated ws
    else if is w (codes "buried") then of2 read_id read_u32 line.Buried ws
    else if is w (codes "step") then step_of ws
    else if is w (codes "called") then of2 read_pid read_u32 line.Called ws
    else if is w (codes "lacks") then of3 read_pid read_u8 read_u16 line.Lacks ws
    else if is w (codes "stays") then of1 read_pid line.Stays ws
    else if is w (codes "here") then of1 read_id line.Here ws
    else if is w (codes "nomove") then of1 read_id line.NoMove ws
    else if is w (codes "stale") then of1 read_id line.Stale ws
    else if is w (codes "proto") then of1 read_id line.Proto ws
    else if is w (codes "nochild") then of1 read_pid line.NoChild ws
    else if is w (codes "nocall") then of1 read_pid line.NoCall ws
    else if is w (codes "away") then of0 line.Away ws
    else None
