-- Reading and writing one by one, as the loops of the code do.
use Rattle.std.specs.Prelude.{OnOk, ◌^◌}
use Rattle.dm_procman.proofs.Names.{◌≡◌, ℕ, ◌+◌, ◌<◌, List, [], ◌∷◌, ◌++◌, length, refl, sym, ap, ◌∙◌, arith, None, Result, Ok, Err, IfOk, Addr, NoMemory, Pending, IsLawfulManager, Managing, manager}
use Rattle.std.proofs.Common.{◌-◌, append_assoc}
use Rattle.std.specs.List.{All, flat_map}
use Rattle.dm_onekernel.specs.declared.request.PendingKind.TheVariants as wanted
use denote.Ref.{Bor}
use Rattle.dm_packet.specs.declared.PacketError.{PacketError}
use Rattle.dm_packet.specs.Field.{number, read_times}
use Rattle.dm_packet.specs.Fields.{addr}
use Rattle.dm_packet.specs.Widths.{FitsAddr}
use Rattle.dm_packet.proofs.Loop.{fails, goes_on, with_front}
use Rattle.dm_statebytes.specs.declared.server.Unread.{Unread}
use Rattle.dm_statebytes.specs.declared.server.Unread.TheVariants as unread
use Rattle.dm_statebytes.specs.Servers.{Adds, Counts, FitCounts, ReadsSeen, server_front, whole_of}
use Rattle.dm_statebytes.proofs.Servers.{whole_again}
use Rattle.dm_procman.specs.Packed.{FitsManager, FitsRequest, IsSpelledManager, manager_of_bytes, manager_parts, managing, parts_of, request}
use Rattle.dm_procman.proofs.Packed.{managing_is}

-- what stands behind the end of a list
abbrev pub no_child : Addr
no_child = record { pid = record { home = 0; num = 0 }; at = 0; moves = 0 }

abbrev pub no_request : Pending
no_request = record { n = 0; kind = wanted.Create; answer = None }

front_none : {X : Type 0} (read : Result (List X × List ℕ) PacketError) → with_front [] read ≡ read
front_none (Ok x) = refl
front_none (Err d) = refl

pub begins : {X : Type 0} (read : List ℕ → Result (X × List ℕ) PacketError) (front : List X) (count : ℕ) (bytes : List ℕ) → front ≡ [] → with_front front (read_times read (count - 0) bytes) ≡ read_times read count bytes
begins {X} read front count bytes none =
    let all : count - 0 ≡ count = omega arith in
    ap (λ (xs : List X). with_front xs (read_times read (count - 0) bytes)) none ∙ ap (λ (n : ℕ). with_front [] (read_times read n bytes)) all ∙ front_none (read_times read count bytes)

-- what one that is read comes to
abbrev pub Added : {X : Type 0} → (List ℕ → Result (X × List ℕ) PacketError) → List X → List X → List ℕ → List ℕ → Type 0
Added {X} read old new bytes after = (x : X) × (read bytes ≡ Ok (x, after)) × (new ≡ old ++ x ∷ [])

pub one_more : {X : Type 0} (read : List ℕ → Result (X × List ℕ) PacketError) (old new : List X) (count i : ℕ) (bytes after : List ℕ) (total : Result (List X × List ℕ) PacketError) → i < count → Added read old new bytes after
    → with_front old (read_times read (count - i) bytes) ≡ total → with_front new (read_times read (count - (i + 1)) after) ≡ total
one_more {X} read old new count i bytes after total lt added so_far =
    ap (λ (xs : List X). with_front xs (read_times read (count - (i + 1)) after)) added.2 ∙ goes_on read old count i bytes added.0 after total lt added.1 so_far

-- the reader's answer is named for its type alone
pub none_more : {X Y : Type 0} (answer : Result (Y × Bor (List ℕ)) Unread) (see : Y → List X) (read : List ℕ → Result (X × List ℕ) PacketError) (d : Unread) (old new : List X) (count i : ℕ) (bytes : List ℕ) (total : Result (List X × List ℕ) PacketError) → i < count → Adds old (Err d) new (read bytes)
    → with_front old (read_times read (count - i) bytes) ≡ total → ReadsSeen see (Err d) total
none_more answer see read (unread.Bytes rule) old new count i bytes total lt h so_far = fails read rule old count i bytes total lt h so_far
none_more answer see read (unread.NoMemory none) old new count i bytes total lt h so_far = tt

ends : {X : Type 0} (xs : List X) → xs ++ [] ≡ xs
ends [] = refl
ends {X} (x ∷ xs) = ap (λ (ys : List X). x ∷ ys) (ends xs)

pub all_read : {X : Type 0} (read : List ℕ → Result (X × List ℕ) PacketError) (front : List X) (left : ℕ) (bytes : List ℕ) (total : Result (List X × List ℕ) PacketError) → left ≡ 0 → with_front front (read_times read left bytes) ≡ total → total ≡ Ok (front, bytes)
all_read {X} read front left bytes total none so_far =
    sym so_far ∙ ap (λ (n : ℕ). with_front front (read_times read n bytes)) none ∙ ap (λ (xs : List X). Ok (xs, bytes)) (ends front)

-- the whole

grouped : (a b c d e f : List ℕ) → (((a ++ b) ++ c) ++ (d ++ e)) ++ f ≡ a ++ ((b ++ c) ++ (d ++ (e ++ f)))
grouped a b c d e f = simp append_assoc

pub whole_put : (counts : Counts) (cs : List Addr) (board : Addr) (rs : List Pending) (child_count request_count : ℕ) (first second third fourth : List ℕ)
    → child_count ≡ length cs → request_count ≡ length rs
    → first ≡ (server_front manager).spell counts ++ (number 4).spell child_count → second ≡ first ++ flat_map addr.spell cs
    → third ≡ second ++ (addr.spell board ++ (number 4).spell request_count) → fourth ≡ third ++ flat_map request.spell rs
    → fourth ≡ manager_parts.spell (counts, (cs, (board, rs)))
whole_put counts cs board rs child_count request_count first second third fourth is_cs is_rs e f g h =
    let front = (server_front manager).spell counts in
    let n = (number 4).spell (length cs) in
    let k = (number 4).spell (length rs) in
    let children = flat_map addr.spell cs in
    let place = addr.spell board in
    let requests = flat_map request.spell rs in
    let one : first ≡ front ++ n = e ∙ ap (λ (x : ℕ). front ++ (number 4).spell x) is_cs in
    let two : second ≡ (front ++ n) ++ children = f ∙ ap (λ (x : List ℕ). x ++ children) one in
    let three : third ≡ ((front ++ n) ++ children) ++ (place ++ k) = g ∙ ap (λ (x : List ℕ). x ++ (place ++ (number 4).spell request_count)) two ∙ ap (λ (x : ℕ). ((front ++ n) ++ children) ++ (place ++ (number 4).spell x)) is_rs in
    h ∙ ap (λ (x : List ℕ). x ++ requests) three ∙ grouped front n children place k requests

pub same_parts : {V : Type 0} (r : Result V NoMemory) (items : V → List ℕ) (counts : Counts) (cs cs2 : List Addr) (board : Addr) (rs rs2 : List Pending) → cs ≡ cs2 → rs ≡ rs2 → IfOk r (λ v. items v ≡ manager_parts.spell (counts, (cs, (board, rs))))
    → IfOk r (λ v. items v ≡ manager_parts.spell (counts, (cs2, (board, rs2))))
same_parts (Err e) items counts cs cs2 board rs rs2 same_cs same_rs put = tt
same_parts (Ok v) items counts cs cs2 board rs rs2 same_cs same_rs put = put ∙ (λ i. manager_parts.spell (counts, (same_cs i, (board, same_rs i))))

pub packed_again : {V : Type 0} (r : Result V NoMemory) (items : V → List ℕ) (g : Managing) → IfOk r (λ v. items v ≡ manager_parts.spell (parts_of g)) → OnOk r (FitsManager g) → IsLawfulManager g → IfOk r (λ v. manager_of_bytes g.machines g.images (items v) ≡ Ok g)
unfolding manager_of_bytes
packed_again (Err e) items g put fits lawful = tt
packed_again (Ok v) items g put fits lawful =
    ap (whole_of (managing g.machines g.images)) put
    ∙ whole_again (managing g.machines g.images) (IsSpelledManager g.machines g.images) (managing_is g.machines g.images lawful.machines) g (record { lawful = lawful; fits = fits; machines = refl; images = refl })

pub fits_of : {V : Type 0} (r : Result V NoMemory) (g : Managing) → FitCounts (g.sent, g.moves) → FitsAddr g.board → OnOk r (All FitsAddr g.children) → OnOk r (All FitsRequest g.pending) → length g.children + length g.pending < 2 ^ 31 → OnOk r (FitsManager g)
fits_of (Err e) g counts board children pending few = tt
fits_of (Ok v) g counts board children pending few = record {
  few_children = omega (arith, few);
  few_pending = omega (arith, few);
  children = children;
  pending = pending;
  board = board.1;
  sent = counts.0;
  moves = counts.1;
}
