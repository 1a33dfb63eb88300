-- Reading and writing name by name, as the loops of the code do.
use Rattle.dm_switchboard.proofs.Imports.{◌≡◌, ℕ, zero, suc, ◌+◌, ◌<◌, true, false, List, [], ◌∷◌, ◌++◌, length, refl, sym, ap, subst, ◌∙◌, arith, if◌then◌else◌, All, None, Some, is_some, option_map, slice_get, Result, ArrayVec, Link, NoMemory, Board, Named, IfOk}
use Rattle.dm_switchboard.proofs.Imports.{IsLawfulBoard, listed, named, link_named, switchboard}
use Rattle.std.proofs.Common.{take, ◌-◌, get_or, append_assoc}
use Rattle.std.specs.Prelude.{not, OnOk}
use Rattle.std.specs.declared.result.Result.TheVariants.{Ok, Err}
use Rattle.std.proofs.lemmas.Option.{get_or_from_slice_get, slice_get-map, slice_get_within}
use denote.Ref.{Bor}
use Rattle.dm_packet.specs.declared.PacketError.{PacketError}
use Rattle.dm_packet.specs.declared.PacketError.TheVariants as bad
use Rattle.dm_packet.specs.Field.{◌>>=◌, number}
use Rattle.dm_packet.specs.Fields.{link}
use Rattle.dm_packet.proofs.Names.{flat_map}
use Rattle.dm_packet.proofs.Field.{bind_ok, guard_ok}
use Rattle.dm_packet.proofs.Loop.{with_front}
use Rattle.dm_packet.proofs.Writes.{all_next, pieces_next, then_put}
use Rattle.dm_statebytes.specs.declared.server.Unread.{Unread}
use Rattle.dm_statebytes.specs.declared.server.Unread.TheVariants as unread
use Rattle.dm_statebytes.specs.Servers.{Adds, ReadsSeen, server_front, whole_of}
use Rattle.dm_statebytes.proofs.Servers.{whole_again}
use Rattle.dm_switchboard.specs.Packed.{FitsBoard, FitsNamed, HaveOwnNames, IsSpelledBoard, board, board_of_bytes, name, name_behind, named_behind, read_names, spell_named}
use Rattle.dm_switchboard.proofs.Entries.{listed_push}
use Rattle.dm_switchboard.proofs.Packed.{board_is, not_some}

-- one name

pub name_taken : (ks : List Named) (bytes rest n : List ℕ) → name.read bytes ≡ Ok (n, rest) → is_some (link_named n ks) ≡ true → (name_behind ks).read bytes ≡ Err bad.Limit
name_taken ks bytes rest n h found = rw (h, found) refl

pub name_free : (ks : List Named) (bytes rest n : List ℕ) → name.read bytes ≡ Ok (n, rest) → is_some (link_named n ks) ≡ false → (name_behind ks).read bytes ≡ Ok (n, rest)
name_free ks bytes rest n h none = rw (h, none) refl

-- a name that is read is none of those before it
pub name_new : (ks : List Named) (bytes rest n : List ℕ) → (name_behind ks).read bytes ≡ Ok (n, rest) → link_named n ks ≡ None
name_new ks bytes rest n h =
    let a = bind_ok (name.read bytes) (λ x. if not (is_some (link_named x.0 ks)) then Ok x else Err bad.Limit) (n, rest) h in
    let g = guard_ok (not (is_some (link_named a.0.0 ks))) bad.Limit a.0 (n, rest) a.2 in
    ap (λ (p : List ℕ × List ℕ). link_named p.0 ks) (sym g.1) ∙ not_some (link_named a.0.0 ks) g.0

pub named_read : (ks : List Named) (bytes mid rest n : List ℕ) (l : Link) → (name_behind ks).read bytes ≡ Ok (n, mid) → link.read mid ≡ Ok (l, rest) → (named_behind ks).read bytes ≡ Ok (record { name = n; link = l }, rest)
named_read ks bytes mid rest n l h g = rw (h, g) refl

pub grown : (es news : List (ArrayVec ℕ × Link)) (n : ArrayVec ℕ) (l : Link) → news ≡ es ++ (n, l) ∷ [] → listed news ≡ listed es ++ record { name = n.items; link = l } ∷ []
grown es news n l pushed = ap listed pushed ∙ listed_push es (n, l)

-- the names up to a place

regroup : (front : List Named) (k : Named) (read : Result (List Named × List ℕ) PacketError) → with_front front (read >>= λ y. Ok (k ∷ y.0, y.1)) ≡ with_front (front ++ k ∷ []) read
regroup front k (Ok y) = ap (λ (xs : List Named). Ok (xs, y.1)) (sym (append_assoc front (k ∷ []) y.0))
regroup front k (Err d) = refl

-- what is read behind these names
abbrev pub read_behind : List Named → ℕ → List ℕ → Result (List Named × List ℕ) PacketError
read_behind front n bytes = with_front front (read_names n front bytes)

front_none : (read : Result (List Named × List ℕ) PacketError) → with_front [] read ≡ read
front_none (Ok x) = refl
front_none (Err d) = refl

pub begins : (es : List (ArrayVec ℕ × Link)) (count : ℕ) (bytes : List ℕ) → es ≡ [] → read_behind (listed es) (count - 0) bytes ≡ read_names count [] bytes
begins es count bytes none =
    let all : count - 0 ≡ count = omega arith in
    ap (λ (xs : List (ArrayVec ℕ × Link)). read_behind (listed xs) (count - 0) bytes) none ∙ ap (λ (n : ℕ). read_behind [] n bytes) all ∙ front_none (read_names count [] bytes)

-- what one of the names that are read comes to
abbrev pub Added : List Named → List Named → List ℕ → List ℕ → Type 0
Added old new bytes after = (k : Named) × ((named_behind old).read bytes ≡ Ok (k, after)) × (new ≡ old ++ k ∷ [])

pub one_more : (old new : List Named) (count i : ℕ) (bytes after : List ℕ) (total : Result (List Named × List ℕ) PacketError) → i < count → Added old new bytes after → read_behind old (count - i) bytes ≡ total
    → read_behind new (count - (i + 1)) after ≡ total
one_more old new count i bytes after total lt added so_far =
    let k = added.0 in
    let left : count - i ≡ suc (count - (i + 1)) = omega arith in
    let h = added.1 in
    let one : read_behind old (count - i) bytes ≡ read_behind (old ++ k ∷ []) (count - (i + 1)) after = rw (left, h) (regroup old k (read_names (count - (i + 1)) (old ++ k ∷ []) after)) in
    ap (λ (ks : List Named). read_behind ks (count - (i + 1)) after) added.2 ∙ sym one ∙ so_far

one_fails : (d : PacketError) (front : List Named) (count i : ℕ) (bytes : List ℕ) (total : Result (List Named × List ℕ) PacketError) → i < count → (named_behind front).read bytes ≡ Err d → read_behind front (count - i) bytes ≡ total → total ≡ Err d
one_fails d front count i bytes total lt h so_far =
    let left : count - i ≡ suc (count - (i + 1)) = omega arith in
    let one : read_behind front (count - i) bytes ≡ Err d = rw (left, h) refl in
    sym so_far ∙ one

-- the reader's answer is named for its type alone
pub none_more : {Y : Type 0} (answer : Result (Y × Bor (List ℕ)) Unread) (see : Y → List Named) (d : Unread) (old new : List Named) (count i : ℕ) (bytes : List ℕ) (total : Result (List Named × List ℕ) PacketError) → i < count → Adds old (Err d) new ((named_behind old).read bytes)
    → read_behind old (count - i) bytes ≡ total → ReadsSeen see (Err d) total
none_more answer see (unread.Bytes rule) old new count i bytes total lt h so_far = one_fails rule old count i bytes total lt h so_far
none_more answer see (unread.NoMemory none) old new count i bytes total lt h so_far = tt

ends : (xs : List Named) → xs ++ [] ≡ xs
ends [] = refl
ends (x ∷ xs) = ap (λ (ys : List Named). x ∷ ys) (ends xs)

pub all_read : (front : List Named) (left : ℕ) (bytes : List ℕ) (total : Result (List Named × List ℕ) PacketError) → left ≡ 0 → read_behind front left bytes ≡ total → total ≡ Ok (front, bytes)
all_read front left bytes total none so_far =
    sym so_far ∙ ap (λ (n : ℕ). read_behind front n bytes) none ∙ ap (λ (xs : List Named). Ok (xs, bytes)) (ends front)

-- the names up to a place, and the one there, are written
pub named_written : (ks : List Named) (i : ℕ) (old now new : List ℕ) (k : Named) → slice_get ks i ≡ Some k → FitsNamed k → now ≡ old ++ flat_map spell_named (take i ks) → All FitsNamed (take i ks) → new ≡ now ++ spell_named k
    → (new ≡ old ++ flat_map spell_named (take (i + 1) ks)) × All FitsNamed (take (i + 1) ks)
named_written ks i old now new k there fits so_far all put =
    let lt = slice_get_within ks i k there in
    let is : get_or ks i k ≡ k = get_or_from_slice_get ks i k k there in
    let here : new ≡ now ++ spell_named (get_or ks i k) = put ∙ ap (λ (x : Named). now ++ spell_named x) (sym is) in
    let whole = then_put old now new (flat_map spell_named (take i ks)) (spell_named (get_or ks i k)) so_far here in
    (rw (pieces_next spell_named ks i k lt) whole, all_next FitsNamed ks i k lt all (subst FitsNamed (sym is) fits))

pub sliced : (es : List (ArrayVec ℕ × Link)) (i : ℕ) (e : ArrayVec ℕ × Link) → Some e ≡ slice_get es i → slice_get (listed es) i ≡ Some (named e)
sliced es i e h = slice_get-map named es i ∙ ap (option_map named) (sym h)

pub missing : (es : List (ArrayVec ℕ × Link)) (i : ℕ) → i < length es → None ≡ slice_get es i → ⊥
missing [] i lt h = omega (arith, lt)
missing (e ∷ es) zero lt h = cc h
missing (e ∷ es) (suc i) lt h = missing es i (omega (arith, lt)) h

-- the whole

pub whole_put : (ks : List Named) (sent moves : ℕ) (count : ℕ) (bytes new : List ℕ) → count ≡ length ks → bytes ≡ (server_front switchboard).spell (sent, moves) ++ (number 4).spell count → new ≡ bytes ++ flat_map spell_named ks
    → new ≡ board.spell (record { names = ks; sent = sent; moves = moves })
whole_put ks sent moves count bytes new is first others =
    let front = (server_front switchboard).spell (sent, moves) in
    let first_as : bytes ≡ front ++ (number 4).spell (length ks) = first ∙ ap (λ (n : ℕ). front ++ (number 4).spell n) is in
    others ∙ ap (λ (b : List ℕ). b ++ flat_map spell_named ks) first_as ∙ append_assoc front ((number 4).spell (length ks)) (flat_map spell_named ks)

pub packed_again : {V : Type 0} (r : Result V NoMemory) (items : V → List ℕ) (b : Board) → IfOk r (λ v. items v ≡ board.spell b) → OnOk r (FitsBoard b) → HaveOwnNames b.names → IsLawfulBoard b → IfOk r (λ v. board_of_bytes (items v) ≡ Ok b)
unfolding board_of_bytes
packed_again (Err e) items b put fits apart lawful = tt
packed_again (Ok v) items b put fits apart lawful = ap (whole_of board) put ∙ whole_again board IsSpelledBoard board_is b (record { lawful = lawful; apart = apart; fits = fits })
