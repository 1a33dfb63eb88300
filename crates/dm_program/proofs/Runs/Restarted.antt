-- The links that state bytes spell hide nothing: none leads to a kernel.
use Rattle.dm_program.proofs.Runs.Names.{◌≡◌, ℕ, zero, suc, ◌/◌, ◌%◌, ◌==◌, Bool, true, false, List, [], ◌∷◌, length, refl, sym, ap, subst, ⊤, if◌then◌else◌, All, All-nil, All-cons, Option, None, Some, Result, Ok, Err, Link, Process, PacketError}
use Rattle.dm_program.proofs.Runs.Names.{Field, ◌>>=◌, both, number, LinkParts, addr, channel, flags, len_from, link, link_of_parts, held_if, bind_ok, ok_is, StateBytesError, Shell, Front, by_rule, only_shell, front, read_shell, shell}
use Rattle.dm_program.proofs.Runs.Names.{shell_of_bytes, shell_with, mask, read_slots, slots, table, Arrival, restarted, revived, revived_from}
use Rattle.dm_program.proofs.Names.{◌++◌, option_map, pid_eq, switchboard, Counts, by_rules, only_read, server_front, Board, Named, board, name_behind, named_behind, names, names_behind, read_names, board_of_bytes, Managing}
use Rattle.dm_program.proofs.Names.{manager_of_bytes, moved_on, Resident, is_process_coming, moved_board, moved_manager, server_of_bytes}
use Rattle.dm_packet.specs.declared.PacketError.TheVariants as bad
use Rattle.dm_resident.specs.declared.Resident.TheVariants as resident

-- what a slot holds, if anything, leads to no kernel
abbrev pub SlotHides : Option Link → Type 0
SlotHides None = ⊤
SlotHides (Some l) = l.to_kernel ≡ false

abbrev pub TableHides : List (Option Link) → Type 0
TableHides slots = All SlotHides slots

abbrev pub NamedHides : Named → Type 0
NamedHides k = k.link.to_kernel ≡ false

abbrev named_of : List ℕ × Link → Named
named_of e = record { name = e.0; link = e.1 }

abbrev board_with : Counts × List Named → Board
board_with b = record { names = b.1; sent = b.0.0; moves = b.0.1 }

-- what can move, and what it keeps outside a queue
abbrev pub ResidentHides : Resident → Type 0
ResidentHides (resident.Process x) = TableHides x.table
ResidentHides (resident.Board b) = All NamedHides b.names
ResidentHides (resident.Manager g) = ⊤

abbrev link_parts : Field LinkParts
link_parts = both addr (λ _. both flags (λ _. both (number 4) (λ _. both channel (λ _. both (number 4) (len_from 65536)))))

link_hides : (bytes : List ℕ) (r : Link × List ℕ) → link.read bytes ≡ Ok r → r.0.to_kernel ≡ false
link_hides bytes r e =
    let a = bind_ok (link_parts.read bytes) (λ x. Ok (link_of_parts x.0, x.1)) r e in
    let f : (link_of_parts a.0.0, a.0.1) ≡ r = ok_is (link_of_parts a.0.0, a.0.1) r a.2 in
    ap (λ (x : Link × List ℕ). x.0.to_kernel) (sym f)

slot_hides : (holds : Bool) (bytes : List ℕ) (r : Option Link × List ℕ) → (held_if link holds).read bytes ≡ Ok r → SlotHides r.0
slot_hides false bytes r e =
    let start : Option Link × List ℕ = (None, bytes) in
    let f : start ≡ r = ok_is start r e in
    subst (λ (x : Option Link × List ℕ). SlotHides x.0) f tt
slot_hides true bytes r e =
    let a = bind_ok (link.read bytes) (λ x. Ok (Some x.0, x.1)) r e in
    let made : Option Link × List ℕ = (Some a.0.0, a.0.1) in
    let f : made ≡ r = ok_is made r a.2 in
    subst (λ (x : Option Link × List ℕ). SlotHides x.0) f (link_hides bytes a.0 a.1)

slots_hide : (n k : ℕ) (bytes : List ℕ) (r : List (Option Link) × List ℕ) → read_slots n k bytes ≡ Ok r → TableHides r.0
slots_hide zero k bytes r e =
    let none : List (Option Link) × List ℕ = ([], bytes) in
    let f : none ≡ r = ok_is none r e in
    subst (λ (x : List (Option Link) × List ℕ). TableHides x.0) f (All-nil SlotHides)
slots_hide (suc n) k bytes r e =
    let a = bind_ok ((held_if link (k % 2 == 1)).read bytes) (λ first. read_slots n (k / 2) first.1 >>= λ others. Ok (first.0 ∷ others.0, others.1)) r e in
    let c = bind_ok (read_slots n (k / 2) a.0.1) (λ others. Ok (a.0.0 ∷ others.0, others.1)) r a.2 in
    let made : List (Option Link) × List ℕ = (a.0.0 ∷ c.0.0, c.0.1) in
    let f : made ≡ r = ok_is made r c.2 in
    subst (λ (x : List (Option Link) × List ℕ). TableHides x.0) f
    (All-cons SlotHides a.0.0 c.0.0 (slot_hides (k % 2 == 1) bytes a.0 a.1) (slots_hide n (k / 2) a.0.1 c.0 c.1))

-- slots behind another value
pair_hides : {X : Type 0} (f : X) (y : List (Option Link) × List ℕ) (r : (X × List (Option Link)) × List ℕ) → TableHides y.0 → ((f, y.0), y.1) ≡ r → TableHides r.0.1
pair_hides {X} f y r h e = subst (λ (x : (X × List (Option Link)) × List ℕ). TableHides x.0.1) e h

second_hides : {X : Type 0} (y : (X × List (Option Link)) × List ℕ) (r : List (Option Link) × List ℕ) → TableHides y.0.1 → (y.0.1, y.1) ≡ r → TableHides r.0
second_hides y r h e = subst (λ (x : List (Option Link) × List ℕ). TableHides x.0) e h

table_hides : (cap : ℕ) (bytes : List ℕ) (r : List (Option Link) × List ℕ) → (table cap).read bytes ≡ Ok r → TableHides r.0
table_hides cap bytes r e =
    let a = bind_ok ((both (mask cap) (slots cap)).read bytes) (λ x. Ok (x.0.1, x.1)) r e in
    let c = bind_ok ((mask cap).read bytes) (λ x. read_slots cap x.0 x.1 >>= λ y. Ok ((x.0, y.0), y.1)) a.0 a.1 in
    let d = bind_ok (read_slots cap c.0.0 c.0.1) (λ y. Ok ((c.0.0, y.0), y.1)) a.0 c.2 in
    second_hides a.0 r (pair_hides c.0.0 d.0 a.0 (slots_hide cap c.0.0 c.0.1 d.0 d.1) (ok_is ((c.0.0, d.0.0), d.0.1) a.0 d.2)) (ok_is (a.0.0.1, a.0.1) r a.2)

whole_hides : (y : (Front × List (Option Link)) × List ℕ) (r : Shell × List ℕ) → TableHides y.0.1 → (shell_with y.0, y.1) ≡ r → TableHides r.0.table
whole_hides y r h e = subst (λ (x : Shell × List ℕ). TableHides x.0.table) e h

shell_hides : (cap : ℕ) (bytes : List ℕ) (r : Shell × List ℕ) → (shell cap).read bytes ≡ Ok r → TableHides r.0.table
shell_hides cap bytes r e =
    let a = bind_ok ((both front (λ _. table cap)).read bytes) (λ x. Ok (shell_with x.0, x.1)) r e in
    let c = bind_ok (front.read bytes) (λ x. (table cap).read x.1 >>= λ y. Ok ((x.0, y.0), y.1)) a.0 a.1 in
    let d = bind_ok ((table cap).read c.0.1) (λ y. Ok ((c.0.0, y.0), y.1)) a.0 c.2 in
    whole_hides a.0 r (pair_hides c.0.0 d.0 a.0 (table_hides cap c.0.1 d.0 d.1) (ok_is ((c.0.0, d.0.0), d.0.1) a.0 d.2)) (ok_is (shell_with a.0.0, a.0.1) r a.2)

ended_same : (t : Shell × List ℕ) (s : Shell) (whole : Bool) → (if whole then Ok t.0 else Err bad.Trailing) ≡ Ok s → t.0 ≡ s
ended_same t s true e = ok_is t.0 s e
ended_same t s false e = absurd cc

read_hides : (cap : ℕ) (bytes : List ℕ) (s : Shell) → read_shell bytes cap ≡ Ok s → TableHides s.table
read_hides cap bytes s e =
    let a = bind_ok ((shell cap).read bytes) only_shell s e in
    let f : a.0.0 ≡ s = ended_same a.0 s (length a.0.1 == 0) a.2 in
    subst (λ (x : Shell). TableHides x.table) f (shell_hides cap bytes a.0 a.1)

abbrev fine : Shell → Result Shell StateBytesError
fine s = Ok s

by_rule_same : (r : Result Shell PacketError) (s : Shell) → by_rule r ≡ fine s → r ≡ Ok s
by_rule_same (Ok t) s e = cc
by_rule_same (Err d) s e = absurd cc

bytes_hide : (bytes : List ℕ) (cap : ℕ) (s : Shell) → shell_of_bytes bytes cap ≡ Ok s → TableHides s.table
unfolding shell_of_bytes
bytes_hide bytes cap s e = read_hides cap bytes s (by_rule_same (read_shell bytes cap) s e)

revived_hides : (r : Result Shell StateBytesError) (memory : List ℕ) (x : Process) → ((s : Shell) → r ≡ Ok s → TableHides s.table) → revived_from r memory ≡ Some x → TableHides x.table
revived_hides (Ok s) memory x h e = let f : revived s memory ≡ x = cc in subst (λ (y : Process). TableHides y.table) f (h s refl)
revived_hides (Err d) memory x h e = cc

-- the names of a switchboard
named_hides : (earlier : List Named) (bytes : List ℕ) (r : Named × List ℕ) → (named_behind earlier).read bytes ≡ Ok r → NamedHides r.0
named_hides earlier bytes r e =
    let a = bind_ok ((both (name_behind earlier) (λ _. link)).read bytes) (λ x. Ok (named_of x.0, x.1)) r e in
    let c = bind_ok ((name_behind earlier).read bytes) (λ x. link.read x.1 >>= λ y. Ok ((x.0, y.0), y.1)) a.0 a.1 in
    let d = bind_ok (link.read c.0.1) (λ y. Ok ((c.0.0, y.0), y.1)) a.0 c.2 in
    let f : ((c.0.0, d.0.0), d.0.1) ≡ a.0 = ok_is ((c.0.0, d.0.0), d.0.1) a.0 d.2 in
    let g : (named_of a.0.0, a.0.1) ≡ r = ok_is (named_of a.0.0, a.0.1) r a.2 in
    let made : a.0.0.1.to_kernel ≡ false = subst (λ (x : (List ℕ × Link) × List ℕ). x.0.1.to_kernel ≡ false) f (link_hides c.0.1 d.0 d.1) in
    subst (λ (x : Named × List ℕ). NamedHides x.0) g made

names_hide : (n : ℕ) (earlier : List Named) (bytes : List ℕ) (r : List Named × List ℕ) → read_names n earlier bytes ≡ Ok r → All NamedHides r.0
names_hide zero earlier bytes r e =
    let none : List Named × List ℕ = ([], bytes) in
    let f : none ≡ r = ok_is none r e in
    subst (λ (x : List Named × List ℕ). All NamedHides x.0) f (All-nil NamedHides)
names_hide (suc n) earlier bytes r e =
    let a = bind_ok ((named_behind earlier).read bytes) (λ first. read_names n (earlier ++ first.0 ∷ []) first.1 >>= λ others. Ok (first.0 ∷ others.0, others.1)) r e in
    let c = bind_ok (read_names n (earlier ++ a.0.0 ∷ []) a.0.1) (λ others. Ok (a.0.0 ∷ others.0, others.1)) r a.2 in
    let made : List Named × List ℕ = (a.0.0 ∷ c.0.0, c.0.1) in
    let f : made ≡ r = ok_is made r c.2 in
    subst (λ (x : List Named × List ℕ). All NamedHides x.0) f (All-cons NamedHides a.0.0 c.0.0 (named_hides earlier bytes a.0 a.1) (names_hide n (earlier ++ a.0.0 ∷ []) a.0.1 c.0 c.1))

counted_hides : (bytes : List ℕ) (r : List Named × List ℕ) → names.read bytes ≡ Ok r → All NamedHides r.0
counted_hides bytes r e =
    let a = bind_ok ((both (number 4) (names_behind [])).read bytes) (λ x. Ok (x.0.1, x.1)) r e in
    let c = bind_ok ((number 4).read bytes) (λ x. (names_behind [] x.0).read x.1 >>= λ y. Ok ((x.0, y.0), y.1)) a.0 a.1 in
    let d = bind_ok ((names_behind [] c.0.0).read c.0.1) (λ y. Ok ((c.0.0, y.0), y.1)) a.0 c.2 in
    let f : ((c.0.0, d.0.0), d.0.1) ≡ a.0 = ok_is ((c.0.0, d.0.0), d.0.1) a.0 d.2 in
    let g : (a.0.0.1, a.0.1) ≡ r = ok_is (a.0.0.1, a.0.1) r a.2 in
    let made : All NamedHides a.0.0.1 = subst (λ (x : (ℕ × List Named) × List ℕ). All NamedHides x.0.1) f (names_hide c.0.0 [] c.0.1 d.0 d.1) in
    subst (λ (x : List Named × List ℕ). All NamedHides x.0) g made

board_hides : (bytes : List ℕ) (r : Board × List ℕ) → board.read bytes ≡ Ok r → All NamedHides r.0.names
board_hides bytes r e =
    let a = bind_ok ((both (server_front switchboard) (λ _. names)).read bytes) (λ x. Ok (board_with x.0, x.1)) r e in
    let c = bind_ok ((server_front switchboard).read bytes) (λ x. names.read x.1 >>= λ y. Ok ((x.0, y.0), y.1)) a.0 a.1 in
    let d = bind_ok (names.read c.0.1) (λ y. Ok ((c.0.0, y.0), y.1)) a.0 c.2 in
    let f : ((c.0.0, d.0.0), d.0.1) ≡ a.0 = ok_is ((c.0.0, d.0.0), d.0.1) a.0 d.2 in
    let g : (board_with a.0.0, a.0.1) ≡ r = ok_is (board_with a.0.0, a.0.1) r a.2 in
    let made : All NamedHides a.0.0.1 = subst (λ (x : (Counts × List Named) × List ℕ). All NamedHides x.0.1) f (counted_hides c.0.1 d.0 d.1) in
    subst (λ (x : Board × List ℕ). All NamedHides x.0.names) g made

only_same : (t : Board × List ℕ) (b : Board) (whole : Bool) → (if whole then Ok t.0 else Err bad.Trailing) ≡ Ok b → t.0 ≡ b
only_same t b true e = ok_is t.0 b e
only_same t b false e = absurd cc

abbrev fine_board : Board → Result Board StateBytesError
fine_board b = Ok b

by_rules_same : (r : Result Board PacketError) (b : Board) → by_rules r ≡ fine_board b → r ≡ Ok b
by_rules_same (Ok t) b e = cc
by_rules_same (Err d) b e = absurd cc

board_bytes_hide : (bytes : List ℕ) (b : Board) → board_of_bytes bytes ≡ Ok b → All NamedHides b.names
unfolding board_of_bytes
board_bytes_hide bytes b e =
    let a = bind_ok (board.read bytes) only_read b (by_rules_same (board.read bytes >>= only_read) b e) in
    let f : a.0.0 ≡ b = only_same a.0 b (length a.0.1 == 0) a.2 in
    subst (λ (x : Board). All NamedHides x.names) f (board_hides bytes a.0 a.1)

-- what has come whole, case by case
process_hides : (o : Option Process) (r : Resident) → ((x : Process) → o ≡ Some x → TableHides x.table) → option_map resident.Process o ≡ Some r → ResidentHides r
process_hides None r h e = absurd cc
process_hides (Some x) r h e = let f : resident.Process x ≡ r = cc in subst ResidentHides f (h x refl)

moved_board_hides : (o : Result Board StateBytesError) (r : Resident) → ((b : Board) → o ≡ Ok b → All NamedHides b.names) → moved_board o ≡ Some r → ResidentHides r
moved_board_hides (Ok b) r h e = let f : moved_on (resident.Board b) ≡ r = cc in subst ResidentHides f (h b refl)
moved_board_hides (Err d) r h e = absurd cc

moved_manager_hides : (o : Result Managing StateBytesError) (r : Resident) → moved_manager o ≡ Some r → ResidentHides r
moved_manager_hides (Ok g) r e = let f : moved_on (resident.Manager g) ≡ r = cc in subst ResidentHides f tt
moved_manager_hides (Err d) r e = absurd cc

server_hides : (t : Bool) (machines images : ℕ) (state : List ℕ) (r : Resident) → (if t then moved_board (board_of_bytes state) else moved_manager (manager_of_bytes machines images state)) ≡ Some r → ResidentHides r
server_hides true machines images state r e = moved_board_hides (board_of_bytes state) r (board_bytes_hide state) e
server_hides false machines images state r e = moved_manager_hides (manager_of_bytes machines images state) r e

either_hides : (t : Bool) (machines images : ℕ) (a : Arrival) (r : Resident) → (if t then option_map resident.Process (revived_from (shell_of_bytes a.state a.cap) a.memory) else server_of_bytes machines images a.pid a.state) ≡ Some r → ResidentHides r
either_hides true machines images a r e =
    process_hides (revived_from (shell_of_bytes a.state a.cap) a.memory) r (λ x. revived_hides (shell_of_bytes a.state a.cap) a.memory x (bytes_hide a.state a.cap)) e
either_hides false machines images a r e = server_hides (pid_eq a.pid switchboard) machines images a.state r e

-- so what has come whole has no link to a kernel
pub restarted_hides : (machines images : ℕ) (a : Arrival) (r : Resident) → restarted machines images a ≡ Some r → ResidentHides r
restarted_hides machines images a r e = either_hides (is_process_coming a) machines images a r e
