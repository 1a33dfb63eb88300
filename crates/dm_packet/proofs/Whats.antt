-- What the messages of each kind carry is read as it is spelled.
use Rattle.dm_packet.proofs.Names.{◌≡◌, ℕ, ◌+◌, ◌^◌, ◌<◌, ◌≤◌, Bool, true, false, eqb, List, [], ◌∷◌, ◌++◌, length, Option, None, Some, Result, Ok, refl, sym, ap, subst, ◌∙◌, arith, inl, inr, ◌↔◌, ◌&&◌, nat_le, ◌==◌, All, AllByRecursion, IfSome}
use Rattle.dm_packet.proofs.Names.{and_from, and_parts, eq-eqb, eqb-true, le-leb, leb-true, nat_tests, All-from_recursion, recursion_from_All, Pid, Link, IsMachine, IsLawfulAddr, IsLawfulEnclosed, Asker, What, MessageKind, bool_eq, kind_of}
use Rattle.dm_packet.proofs.Names.{IsLawfulWhat, IsPiece, IsServer, IsSize, PacketError, ◌>>=◌, Field, both, counted, number, run, addr, bytes_within, channel, links, machine, number_within, pid, ask, asker, blocks_field, create}
use Rattle.dm_packet.proofs.Names.{is_server_pid, memory, optional, outcome_field, piece_asked, piece_from, read, read_as, read_what, refuse, spell_what, state, user, write, yes_or_no, Fits, FitsAsker, FitsLink, FitsWhat}
use Rattle.dm_message.specs.declared.What.TheVariants as what
use Rattle.dm_message.specs.declared.kind.MessageKind.TheVariants as kind
use Rattle.dm_packet.specs.declared.PacketError.TheVariants as bad
use Rattle.dm_packet.proofs.Numbers.{IsBytes}
use Rattle.dm_packet.proofs.Field.{IsField, IsField-both, IsField-counted, IsField-for, IsField-made, IsField-number, IsField-run, IsField-tested, bind_ok, ok_is}
use Rattle.dm_packet.proofs.Fields.{IsSpelledAddr, IsSpelledLink, IsSpelledPid, addr_is, most_within_is, bytes_within_is, channel_is, links_is, machine_is, pid_is, run_is}
use Rattle.dm_packet.proofs.Coded.{optional_is, outcome_is, yes_or_no_is}

-- the fields that pieces, sizes and askers have

abbrev IsPieceFrom : ℕ → ℕ → Type 0
IsPieceFrom base n = IsPiece n × (base + n ≤ 65536)

piece_from_is : (base : ℕ) → IsField (piece_from base) (IsPieceFrom base)
piece_from_is base =
    IsField-for (piece_from base) (λ n. (n < 256 ^ 2) × (((nat_le 1 n && nat_le n 256) && nat_le (base + n) 65536) ≡ true)) (IsPieceFrom base)
    (IsField-tested (number 2) (λ n. n < 256 ^ 2) (IsField-number 2) (λ n. (nat_le 1 n && nat_le n 256) && nat_le (base + n) 65536) bad.Limit)
    (λ n fits. ((grind (arith, nat_tests), grind (arith, nat_tests)), grind (arith, nat_tests)))
    (λ n fits. (omega arith, grind (arith, nat_tests)))

-- the servers' names, as a test and as a fact
server_test : (p : Pid) → is_server_pid p ≡ true → IsServer p
server_test p e = grind (arith, nat_tests)

server_fact : (p : Pid) → IsServer p → is_server_pid p ≡ true
server_fact p (e, inl one) = rw (e, one) refl
server_fact p (e, inr two) = rw (e, two) refl

pub same_from : (a b : Bool) → bool_eq a b ≡ true → a ≡ b
same_from true b e = sym e
same_from false true e = absurd cc
same_from false false e = refl

pub bool_eq_refl : (a : Bool) → bool_eq a a ≡ true
bool_eq_refl true = refl
bool_eq_refl false = refl

both_or_neither : (a b : Bool) (P Q : Type 0) → (a ≡ true → P) → (P → a ≡ true) → (b ≡ true → Q) → (Q → b ≡ true) → P ↔ Q → a ≡ b
both_or_neither true b P Q ap pa bq qb h = sym (qb (h.0 (ap refl)))
both_or_neither false true P Q ap pa bq qb h = pa (h.1 (bq refl))
both_or_neither false false P Q ap pa bq qb h = refl

abbrev are_blocks_of : Pid → ℕ → Bool
are_blocks_of p n = nat_le n 256 && bool_eq (n == 0) (is_server_pid p)

blocks_of_is : (p : Pid) → IsField (blocks_field p) (IsSize p)
blocks_of_is p =
    IsField-for (blocks_field p) (λ n. (n < 256 ^ 2) × (are_blocks_of p n ≡ true)) (IsSize p)
    (IsField-tested (number 2) (λ n. n < 256 ^ 2) (IsField-number 2) (are_blocks_of p) bad.Limit)
    (λ n fits.
    let parts = and_parts (nat_le n 256) (bool_eq (eqb n 0) (is_server_pid p)) fits.1 in
    let same : eqb n 0 ≡ is_server_pid p = same_from (eqb n 0) (is_server_pid p) parts.1 in
    let few : n ≤ 256 = leb-true n 256 parts.0 in
    (few, ((λ e. server_test p (sym same ∙ eq-eqb n 0 e)), (λ is. eqb-true n 0 (same ∙ server_fact p is)))))
    (λ n fits.
    let same : eqb n 0 ≡ is_server_pid p = both_or_neither (eqb n 0) (is_server_pid p) (n ≡ 0) (IsServer p) (eqb-true n 0) (eq-eqb n 0) (server_test p) (server_fact p) fits.1 in
    (omega (arith, fits.0), and_from (nat_le n 256) (bool_eq (eqb n 0) (is_server_pid p)) (le-leb n 256 fits.0) (rw same (bool_eq_refl (is_server_pid p)))))

abbrev IsSpelledAsker : Asker → Type 0
IsSpelledAsker a = FitsAsker a × IsSpelledAddr a.addr

asker_is : IsField asker IsSpelledAsker
asker_is =
    IsField-made (both (number 4) (λ _. addr)) (λ a. Fits 4 a.0 × IsSpelledAddr a.1) (IsField-both (number 4) (Fits 4) (IsField-number 4) (λ _. addr) (λ _. IsSpelledAddr) (λ _. addr_is))
    (λ a. record { n = a.0; addr = a.1 }) (λ a. (a.n, a.addr)) IsSpelledAsker
    (λ a fits. (refl, ((fits.0, fits.1.1), fits.1)))
    (λ a fits. ((fits.0.0, fits.1), refl))

-- the kinds with fields of their own

abbrev IsBodyOf : ℕ → ℕ → List ℕ → Type 0
IsBodyOf least most xs = (least ≤ length xs) × (length xs ≤ most)

abbrev AreLinks : ℕ → List Link → Type 0
AreLinks most ls = (length ls ≤ most) × AllByRecursion IsSpelledLink ls

user_is : IsField user (λ u. Fits 4 u.0 × ((u.1.0 ≤ 31) × (IsBodyOf 0 256 u.1.1.0 × AreLinks 4 u.1.1.1)))
user_is =
    let from_body = IsField-both (bytes_within 0 256) (IsBodyOf 0 256) (bytes_within_is 0 256 (omega arith)) (λ _. links 4) (λ _. AreLinks 4) (λ _. links_is 4 (omega arith)) in
    let from_channel = IsField-both channel (λ c. c ≤ 31) channel_is (λ _. both (bytes_within 0 256) (λ _. links 4)) (λ _ u. IsBodyOf 0 256 u.0 × AreLinks 4 u.1) (λ _. from_body) in
    IsField-both (number 4) (Fits 4) (IsField-number 4) (λ _. both channel (λ _. both (bytes_within 0 256) (λ _. links 4))) (λ _ u. (u.0 ≤ 31) × (IsBodyOf 0 256 u.1.0 × AreLinks 4 u.1.1)) (λ _. from_channel)

read_is : IsField read (λ r. Fits 4 r.0 × IsPieceFrom r.0 r.1)
read_is = IsField-both (number 4) (Fits 4) (IsField-number 4) piece_from IsPieceFrom piece_from_is

piece_is : (base : ℕ) → IsField (counted (piece_from base) run) (λ xs. IsPieceFrom base (length xs) × Unit {0})
piece_is base = IsField-counted (piece_from base) (IsPieceFrom base) (piece_from_is base) run (λ _. Unit {0}) run_is

write_is : IsField write (λ w. Fits 4 w.0 × (IsPieceFrom w.0 (length w.1) × Unit {0}))
write_is = IsField-both (number 4) (Fits 4) (IsField-number 4) (λ base. counted (piece_from base) run) (λ base xs. IsPieceFrom base (length xs) × Unit {0}) piece_is

create_is : IsField create (λ c. Fits 2 c.0 × AreLinks 3 c.1)
create_is = IsField-both (number 2) (Fits 2) (IsField-number 2) (λ _. links 3) (λ _. AreLinks 3) (λ _. links_is 3 (omega arith))

ask_is : IsField ask (λ a. IsSpelledPid a.0 × (IsSize a.0 a.1.0 × (Fits 4 a.1.1.0 × (Fits 4 a.1.1.1.0 × IfSome a.1.1.1.1 IsSpelledAsker))))
ask_is =
    let from_size = IsField-both (number 4) (Fits 4) (IsField-number 4) (λ _. optional asker) (λ _ o. IfSome o IsSpelledAsker) (λ _. optional_is asker IsSpelledAsker asker_is) in
    let from_moves = IsField-both (number 4) (Fits 4) (IsField-number 4) (λ _. both (number 4) (λ _. optional asker)) (λ _ a. Fits 4 a.0 × IfSome a.1 IsSpelledAsker) (λ _. from_size) in
    let from_blocks = λ (p : Pid). IsField-both (blocks_field p) (IsSize p) (blocks_of_is p) (λ _. both (number 4) (λ _. both (number 4) (λ _. optional asker))) (λ _ a. Fits 4 a.0 × (Fits 4 a.1.0 × IfSome a.1.1 IsSpelledAsker)) (λ _. from_moves) in
    IsField-both pid IsSpelledPid pid_is (λ p. both (blocks_field p) (λ _. both (number 4) (λ _. both (number 4) (λ _. optional asker)))) (λ p a. IsSize p a.0 × (Fits 4 a.1.0 × (Fits 4 a.1.1.0 × IfSome a.1.1.1 IsSpelledAsker))) from_blocks

refuse_is : IsField refuse (λ r. IsSpelledPid r.0 × ((r.1.0 ≤ 64) × (r.1.1 ≤ 4096)))
refuse_is =
    let room = IsField-both (number_within 1 0 64) (λ n. n ≤ 64) (most_within_is 1 64 (omega arith)) (λ _. number_within 2 0 4096) (λ _ n. n ≤ 4096) (λ _. most_within_is 2 4096 (omega arith)) in
    IsField-both pid IsSpelledPid pid_is (λ _. both (number_within 1 0 64) (λ _. number_within 2 0 4096)) (λ _ r. (r.0 ≤ 64) × (r.1 ≤ 4096)) (λ _. room)

piece_asked_is : (size : ℕ) → IsField (piece_asked size) (λ p. IsSpelledPid p.0 × Fits size p.1)
piece_asked_is size = IsField-both pid IsSpelledPid pid_is (λ _. number size) (λ _. Fits size) (λ _. IsField-number size)

state_is : IsField state (λ s. IsSpelledPid s.0 × (Fits 4 s.1.0 × (Unit {0} × IsBodyOf 1 512 s.1.1.1)))
state_is =
    let from_last = IsField-both (yes_or_no bad.Flags) (λ _. Unit {0}) (yes_or_no_is bad.Flags) (λ _. bytes_within 1 512) (λ _. IsBodyOf 1 512) (λ _. bytes_within_is 1 512 (omega arith)) in
    let from_chunk = IsField-both (number 4) (Fits 4) (IsField-number 4) (λ _. both (yes_or_no bad.Flags) (λ _. bytes_within 1 512)) (λ _ s. Unit {0} × IsBodyOf 1 512 s.1) (λ _. from_last) in
    IsField-both pid IsSpelledPid pid_is (λ _. both (number 4) (λ _. both (yes_or_no bad.Flags) (λ _. bytes_within 1 512))) (λ _ s. Fits 4 s.0 × (Unit {0} × IsBodyOf 1 512 s.1.1)) (λ _. from_chunk)

memory_is : IsField memory (λ m. IsSpelledPid m.0 × (Fits 1 m.1.0 × (length m.1.1 ≡ 256)))
memory_is =
    let from_block = IsField-both (number 1) (Fits 1) (IsField-number 1) (λ _. run 256) (λ _ xs. length xs ≡ 256) (λ _. IsField-run 256) in
    IsField-both pid IsSpelledPid pid_is (λ _. both (number 1) (λ _. run 256)) (λ _ m. Fits 1 m.0 × (length m.1 ≡ 256)) (λ _. from_block)

block_is : IsField (bytes_within 1 256) (IsBodyOf 1 256)
block_is = bytes_within_is 1 256 (omega arith)

-- lists of links, seen place by place

lawful_links : (ls : List Link) → AllByRecursion IsSpelledLink ls → AllByRecursion IsLawfulEnclosed ls
lawful_links [] fits = tt
lawful_links (l ∷ ls) fits = (fits.0.0, lawful_links ls fits.1)

fitting_links : (ls : List Link) → AllByRecursion IsSpelledLink ls → AllByRecursion FitsLink ls
fitting_links [] fits = tt
fitting_links (l ∷ ls) fits = (fits.0.1, fitting_links ls fits.1)

spelled_links : (ls : List Link) → AllByRecursion IsLawfulEnclosed ls → AllByRecursion FitsLink ls → AllByRecursion IsSpelledLink ls
spelled_links [] lawful fits = tt
spelled_links (l ∷ ls) lawful fits = ((lawful.0, fits.0), spelled_links ls lawful.1 fits.1)

are_lawful : (ls : List Link) → AllByRecursion IsSpelledLink ls → All IsLawfulEnclosed ls
are_lawful ls fits = All-from_recursion IsLawfulEnclosed ls (lawful_links ls fits)

are_fitting : (ls : List Link) → AllByRecursion IsSpelledLink ls → All FitsLink ls
are_fitting ls fits = All-from_recursion FitsLink ls (fitting_links ls fits)

are_spelled : (ls : List Link) → All IsLawfulEnclosed ls → All FitsLink ls → AllByRecursion IsSpelledLink ls
are_spelled ls lawful fits = spelled_links ls (recursion_from_All IsLawfulEnclosed ls lawful) (recursion_from_All FitsLink ls fits)

lawful_asker : (o : Option Asker) → IfSome o IsSpelledAsker → IfSome o (λ (a : Asker). IsLawfulAddr a.addr)
lawful_asker None fits = tt
lawful_asker (Some a) fits = fits.1.0

fitting_asker : (o : Option Asker) → IfSome o IsSpelledAsker → IfSome o FitsAsker
fitting_asker None fits = tt
fitting_asker (Some a) fits = fits.0

spelled_asker : (o : Option Asker) → IfSome o (λ (a : Asker). IsLawfulAddr a.addr) → IfSome o FitsAsker → IfSome o IsSpelledAsker
spelled_asker None lawful fits = tt
spelled_asker (Some a) lawful fits = (fits, (lawful, fits.1))

-- what was read of one kind

pub record TookWhat (k : MessageKind) (bytes : List ℕ) (w : What) (rest : List ℕ) : Type 0 where
  pub parts : bytes ≡ spell_what w ++ rest
  pub rest_fits : IsBytes rest
  pub kind : kind_of w ≡ k
  pub lawful : IsLawfulWhat w
  pub fits : FitsWhat w

as_takes : {X : Type 0} (k : MessageKind) (f : Field X) (IsSpelled : X → Type 0) → IsField f IsSpelled → (make : X → What) → ((x : X) → spell_what (make x) ≡ f.spell x) → ((x : X) → kind_of (make x) ≡ k)
    → ((x : X) → IsSpelled x → IsLawfulWhat (make x) × FitsWhat (make x)) → (bytes : List ℕ) (w : What) (rest : List ℕ) → IsBytes bytes → read_as f make bytes ≡ Ok (w, rest) → TookWhat k bytes w rest
as_takes {X} k f IsSpelled is make spelled kinds means bytes w rest h e =
    let a = bind_ok (f.read bytes) (λ x. Ok (make x.0, x.1)) (w, rest) e in
    let t = is.takes bytes a.0.0 a.0.1 h a.1 in
    let good = means a.0.0 t.fits in
    subst (λ (p : What × List ℕ). TookWhat k bytes p.0 p.1) (ok_is (make a.0.0, a.0.1) (w, rest) a.2)
    (record { parts = t.parts ∙ ap (λ (front : List ℕ). front ++ a.0.1) (sym (spelled a.0.0)); rest_fits = t.rest_fits; kind = kinds a.0.0; lawful = good.0; fits = good.1 })

abbrev pub OkWhat : What × List ℕ → Result (What × List ℕ) PacketError
OkWhat p = Ok p

none_takes : (k : MessageKind) (w0 : What) → spell_what w0 ≡ [] → kind_of w0 ≡ k → IsLawfulWhat w0 → FitsWhat w0 → (bytes : List ℕ) (w : What) (rest : List ℕ) → IsBytes bytes → OkWhat (w0, bytes) ≡ OkWhat (w, rest) → TookWhat k bytes w rest
none_takes k w0 spelled kinds lawful fits bytes w rest h e =
    subst (λ (p : What × List ℕ). TookWhat k bytes p.0 p.1) (ok_is (w0, bytes) (w, rest) e)
    (record { parts = ap (λ (front : List ℕ). front ++ bytes) (sym spelled); rest_fits = h; kind = kinds; lawful = lawful; fits = fits })

-- a kind whose only field is a process's name
pid_takes : (k : MessageKind) (make : Pid → What) → ((p : Pid) → spell_what (make p) ≡ pid.spell p) → ((p : Pid) → kind_of (make p) ≡ k) → ((p : Pid) → IsSpelledPid p → IsLawfulWhat (make p) × FitsWhat (make p))
    → (bytes : List ℕ) (w : What) (rest : List ℕ) → IsBytes bytes → read_as pid make bytes ≡ Ok (w, rest) → TookWhat k bytes w rest
pid_takes k make = as_takes k pid IsSpelledPid pid_is make

machine_takes : (k : MessageKind) (make : ℕ → What) → ((m : ℕ) → spell_what (make m) ≡ machine.spell m) → ((m : ℕ) → kind_of (make m) ≡ k) → ((m : ℕ) → IsMachine m → IsLawfulWhat (make m) × FitsWhat (make m))
    → (bytes : List ℕ) (w : What) (rest : List ℕ) → IsBytes bytes → read_as machine make bytes ≡ Ok (w, rest) → TookWhat k bytes w rest
machine_takes k make = as_takes k machine IsMachine machine_is make

pub what_takes : (k : MessageKind) (bytes : List ℕ) (w : What) (rest : List ℕ) → IsBytes bytes → read_what k bytes ≡ Ok (w, rest) → TookWhat k bytes w rest
unfolding read_what spell_what
what_takes kind.User = as_takes kind.User user (λ u. Fits 4 u.0 × ((u.1.0 ≤ 31) × (IsBodyOf 0 256 u.1.1.0 × AreLinks 4 u.1.1.1))) user_is (λ x. what.User x.0 x.1.0 (record { items = x.1.1.0 }) (record { items = x.1.1.1 })) (λ x. refl) (λ x. refl) (λ x fits. ((fits.1.0, fits.1.1.0.1, fits.1.1.1.0, are_lawful x.1.1.1 fits.1.1.1.1), (fits.0, are_fitting x.1.1.1 fits.1.1.1.1)))
what_takes kind.Stop = none_takes kind.Stop what.Stop refl refl tt tt
what_takes kind.Resume = none_takes kind.Resume what.Resume refl refl tt tt
what_takes kind.Kill = none_takes kind.Kill what.Kill refl refl tt tt
what_takes kind.Read = as_takes kind.Read read (λ r. Fits 4 r.0 × IsPieceFrom r.0 r.1) read_is (λ x. what.Read x.0 x.1) (λ x. refl) (λ x. refl) (λ x fits. (fits.1, tt))
what_takes kind.Write = as_takes kind.Write write (λ w. Fits 4 w.0 × (IsPieceFrom w.0 (length w.1) × Unit {0})) write_is (λ x. what.Write x.0 (record { items = x.1 })) (λ x. refl) (λ x. refl) (λ x fits. (fits.1.0, tt))
what_takes kind.Block = as_takes kind.Block (bytes_within 1 256) (IsBodyOf 1 256) block_is (λ x. what.Block (record { items = x })) (λ x. refl) (λ x. refl) (λ x fits. (fits, tt))
what_takes kind.Written = none_takes kind.Written what.Written refl refl tt tt
what_takes kind.Gone = none_takes kind.Gone what.Gone refl refl tt tt
what_takes kind.Create = as_takes kind.Create create (λ c. Fits 2 c.0 × AreLinks 3 c.1) create_is (λ x. what.Create x.0 (record { items = x.1 })) (λ x. refl) (λ x. refl) (λ x fits. ((fits.1.0, are_lawful x.1 fits.1.1), (fits.0, are_fitting x.1 fits.1.1)))
what_takes kind.Created = pid_takes kind.Created what.Created (λ p. refl) (λ p. refl) (λ p fits. fits)
what_takes kind.NoRoom = none_takes kind.NoRoom what.NoRoom refl refl tt tt
what_takes kind.Migrate = machine_takes kind.Migrate what.Migrate (λ m. refl) (λ m. refl) (λ m fits. (fits, tt))
what_takes kind.Update = as_takes kind.Update addr IsSpelledAddr addr_is what.Update (λ x. refl) (λ x. refl) (λ x fits. fits)
what_takes kind.Ask = as_takes kind.Ask ask (λ a. IsSpelledPid a.0 × (IsSize a.0 a.1.0 × (Fits 4 a.1.1.0 × (Fits 4 a.1.1.1.0 × IfSome a.1.1.1.1 IsSpelledAsker)))) ask_is (λ x. what.Ask x.0 x.1.0 x.1.1.0 x.1.1.1.0 x.1.1.1.1) (λ x. refl) (λ x. refl) (λ x fits. ((fits.0.0, fits.1.0, lawful_asker x.1.1.1.1 fits.1.1.1.1), (fits.0.1, fits.1.1.0, fits.1.1.1.0, fitting_asker x.1.1.1.1 fits.1.1.1.1)))
what_takes kind.Refuse = as_takes kind.Refuse refuse (λ r. IsSpelledPid r.0 × ((r.1.0 ≤ 64) × (r.1.1 ≤ 4096))) refuse_is (λ x. what.Refuse x.0 x.1.0 x.1.1) (λ x. refl) (λ x. refl) (λ x fits. ((fits.0.0, fits.1.0, fits.1.1), fits.0.1))
what_takes kind.PullState = as_takes kind.PullState (piece_asked 4) (λ p. IsSpelledPid p.0 × Fits 4 p.1) (piece_asked_is 4) (λ x. what.PullState x.0 x.1) (λ x. refl) (λ x. refl) (λ x fits. (fits.0.0, (fits.0.1, fits.1)))
what_takes kind.State = as_takes kind.State state (λ s. IsSpelledPid s.0 × (Fits 4 s.1.0 × (Unit {0} × IsBodyOf 1 512 s.1.1.1))) state_is (λ x. what.State x.0 x.1.0 x.1.1.0 (record { items = x.1.1.1 })) (λ x. refl) (λ x. refl) (λ x fits. ((fits.0.0, fits.1.1.1.0, fits.1.1.1.1), (fits.0.1, fits.1.0)))
what_takes kind.PullBlock = as_takes kind.PullBlock (piece_asked 1) (λ p. IsSpelledPid p.0 × Fits 1 p.1) (piece_asked_is 1) (λ x. what.PullBlock x.0 x.1) (λ x. refl) (λ x. refl) (λ x fits. (fits.0.0, (fits.0.1, fits.1)))
what_takes kind.Memory = as_takes kind.Memory memory (λ m. IsSpelledPid m.0 × (Fits 1 m.1.0 × (length m.1.1 ≡ 256))) memory_is (λ x. what.Memory x.0 x.1.0 x.1.1) (λ x. refl) (λ x. refl) (λ x fits. (fits.0.0, (fits.0.1, fits.1.0, fits.1.1)))
what_takes kind.AllTaken = pid_takes kind.AllTaken what.AllTaken (λ p. refl) (λ p. refl) (λ p fits. fits)
what_takes kind.Restart = pid_takes kind.Restart what.Restart (λ p. refl) (λ p. refl) (λ p fits. fits)
what_takes kind.Move = machine_takes kind.Move what.Move (λ m. refl) (λ m. refl) (λ m fits. (fits, tt))
what_takes kind.Moved = as_takes kind.Moved outcome_field (λ _. Unit {0}) outcome_is what.Moved (λ x. refl) (λ x. refl) (λ x fits. (tt, tt))
what_takes kind.CallOff = pid_takes kind.CallOff what.CallOff (λ p. refl) (λ p. refl) (λ p fits. fits)
what_takes kind.Bury = pid_takes kind.Bury what.Bury (λ p. refl) (λ p. refl) (λ p fits. fits)

as_again : {X : Type 0} (f : Field X) (IsSpelled : X → Type 0) → IsField f IsSpelled → (make : X → What) (x : X) (rest : List ℕ) → IsSpelled x → read_as f make (f.spell x ++ rest) ≡ OkWhat (make x, rest)
as_again f IsSpelled is make x rest fits = ap (λ r. r >>= λ x. Ok (make x.0, x.1)) (is.again x rest fits)

pub what_again : (w : What) (rest : List ℕ) → IsLawfulWhat w → FitsWhat w → read_what (kind_of w) (spell_what w ++ rest) ≡ OkWhat (w, rest)
unfolding read_what spell_what
what_again (what.User code on body ls) rest lawful fits = as_again user (λ u. Fits 4 u.0 × ((u.1.0 ≤ 31) × (IsBodyOf 0 256 u.1.1.0 × AreLinks 4 u.1.1.1))) user_is (λ x. what.User x.0 x.1.0 (record { items = x.1.1.0 }) (record { items = x.1.1.1 })) (code, (on, (body.items, ls.items))) rest (fits.0, (lawful.0, ((omega arith, lawful.1), (lawful.2, are_spelled ls.items lawful.3 fits.1))))
what_again what.Stop rest lawful fits = refl
what_again what.Resume rest lawful fits = refl
what_again what.Kill rest lawful fits = refl
what_again (what.Read base len) rest lawful fits = as_again read (λ r. Fits 4 r.0 × IsPieceFrom r.0 r.1) read_is (λ x. what.Read x.0 x.1) (base, len) rest (omega (arith, lawful.1), lawful)
what_again (what.Write base bytes) rest lawful fits = as_again write (λ w. Fits 4 w.0 × (IsPieceFrom w.0 (length w.1) × Unit {0})) write_is (λ x. what.Write x.0 (record { items = x.1 })) (base, bytes.items) rest (omega (arith, lawful.1), (lawful, tt))
what_again (what.Block bytes) rest lawful fits = as_again (bytes_within 1 256) (IsBodyOf 1 256) block_is (λ x. what.Block (record { items = x })) bytes.items rest lawful
what_again what.Written rest lawful fits = refl
what_again what.Gone rest lawful fits = refl
what_again (what.Create image ls) rest lawful fits = as_again create (λ c. Fits 2 c.0 × AreLinks 3 c.1) create_is (λ x. what.Create x.0 (record { items = x.1 })) (image, ls.items) rest (fits.0, (lawful.0, are_spelled ls.items lawful.1 fits.1))
what_again (what.Created p) rest lawful fits = as_again pid IsSpelledPid pid_is what.Created p rest (lawful, fits)
what_again what.NoRoom rest lawful fits = refl
what_again (what.Migrate m) rest lawful fits = as_again machine IsMachine machine_is what.Migrate m rest lawful
what_again (what.Update about) rest lawful fits = as_again addr IsSpelledAddr addr_is what.Update about rest (lawful, fits)
what_again (what.Ask p blocks moves size who) rest lawful fits = as_again ask (λ a. IsSpelledPid a.0 × (IsSize a.0 a.1.0 × (Fits 4 a.1.1.0 × (Fits 4 a.1.1.1.0 × IfSome a.1.1.1.1 IsSpelledAsker)))) ask_is (λ x. what.Ask x.0 x.1.0 x.1.1.0 x.1.1.1.0 x.1.1.1.1) (p, (blocks, (moves, (size, who)))) rest ((lawful.0, fits.0), (lawful.1, (fits.1, (fits.2, spelled_asker who lawful.2 fits.3))))
what_again (what.Refuse p slots blocks) rest lawful fits = as_again refuse (λ r. IsSpelledPid r.0 × ((r.1.0 ≤ 64) × (r.1.1 ≤ 4096))) refuse_is (λ x. what.Refuse x.0 x.1.0 x.1.1) (p, (slots, blocks)) rest ((lawful.0, fits), (lawful.1, lawful.2))
what_again (what.PullState p chunk) rest lawful fits = as_again (piece_asked 4) (λ p. IsSpelledPid p.0 × Fits 4 p.1) (piece_asked_is 4) (λ x. what.PullState x.0 x.1) (p, chunk) rest ((lawful, fits.0), fits.1)
what_again (what.State p chunk last bytes) rest lawful fits = as_again state (λ s. IsSpelledPid s.0 × (Fits 4 s.1.0 × (Unit {0} × IsBodyOf 1 512 s.1.1.1))) state_is (λ x. what.State x.0 x.1.0 x.1.1.0 (record { items = x.1.1.1 })) (p, (chunk, (last, bytes.items))) rest ((lawful.0, fits.0), (fits.1, (tt, (lawful.1, lawful.2))))
what_again (what.PullBlock p block) rest lawful fits = as_again (piece_asked 1) (λ p. IsSpelledPid p.0 × Fits 1 p.1) (piece_asked_is 1) (λ x. what.PullBlock x.0 x.1) (p, block) rest ((lawful, fits.0), fits.1)
what_again (what.Memory p block bytes) rest lawful fits = as_again memory (λ m. IsSpelledPid m.0 × (Fits 1 m.1.0 × (length m.1.1 ≡ 256))) memory_is (λ x. what.Memory x.0 x.1.0 x.1.1) (p, (block, bytes)) rest ((lawful, fits.0), (fits.1, fits.2))
what_again (what.AllTaken p) rest lawful fits = as_again pid IsSpelledPid pid_is what.AllTaken p rest (lawful, fits)
what_again (what.Restart p) rest lawful fits = as_again pid IsSpelledPid pid_is what.Restart p rest (lawful, fits)
what_again (what.Move m) rest lawful fits = as_again machine IsMachine machine_is what.Move m rest lawful
what_again (what.Moved end) rest lawful fits = as_again outcome_field (λ _. Unit {0}) outcome_is what.Moved end rest tt
what_again (what.CallOff p) rest lawful fits = as_again pid IsSpelledPid pid_is what.CallOff p rest (lawful, fits)
what_again (what.Bury p) rest lawful fits = as_again pid IsSpelledPid pid_is what.Bury p rest (lawful, fits)
