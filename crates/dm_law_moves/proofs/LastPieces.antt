-- The last chunk of a server, which has no blocks: step 4 handles no message, and step 5, which follows at once, the chunk's.
use Rattle.dm_law_moves.proofs.Names.{◌≡◌, ℕ, true, false, List, ◌∷◌, [], refl, ap, ◌∙◌, if◌then◌else◌, Bool, Pid, MessageKind, is_server, View, Line, Stage, Part, Says, to_kernel, view_after, handled_first, Spot, Inbox, ids_at, memory_off}
pub use Rattle.dm_law_rule.proofs.Moves.Rows.{server_front as state_front}

-- what is said of it
abbrev pub last_chunk : Pid → ℕ → List Part
last_chunk q b = Says (Line.Migration Stage.StateTaken q) ∷ Says (Line.Migration Stage.MemoryTaken q) ∷ to_kernel MessageKind.AllTaken b ∷ []

-- of a server, all stands where it stood
pub state_stays : (v : View) (q : Pid) (z : Spot) → is_server q ≡ true → ids_at (view_after v (Line.Migration Stage.StateTaken q)) z ≡ ids_at v z
state_stays v q (Inbox m) server = ap (λ (c : Bool). (if c then v.inbox else (handled_first v).inbox) m) server
state_stays v q _ server = refl

-- of a process that at the front goes
pub state_goes : (v : View) (q : Pid) (z : Spot) → is_server q ≡ false → ids_at (view_after v (Line.Migration Stage.StateTaken q)) z ≡ ids_at (handled_first v) z
state_goes v q (Inbox m) free = ap (λ (c : Bool). (if c then v.inbox else (handled_first v).inbox) m) free
state_goes v q _ free = refl

-- behind both steps that at the front has gone
first_alike : (v : View) (q : Pid) (z : Spot) → is_server q ≡ true → ids_at (handled_first (view_after v (Line.Migration Stage.StateTaken q))) z ≡ ids_at (handled_first v) z
first_alike v q (Inbox m) server = ap (λ (c : Bool). (handled_first (record v { inbox = if c then v.inbox else (handled_first v).inbox })).inbox m) server
first_alike v q _ server = refl

pub both_off : (v : View) (q : Pid) (z : Spot) → is_server q ≡ true → ids_at (view_after (view_after v (Line.Migration Stage.StateTaken q)) (Line.Migration Stage.MemoryTaken q)) z ≡ ids_at (handled_first v) z
both_off v q z server = memory_off (view_after v (Line.Migration Stage.StateTaken q)) q z ∙ first_alike v q z server
