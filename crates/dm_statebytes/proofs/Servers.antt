-- What a server's state begins with is read as it is spelled, and so is what a field spells whole.
use Rattle.dm_statebytes.proofs.Names.{◌≡◌, ℕ, ◌^◌, ◌<◌, Bool, true, false, List, [], ◌++◌, length, Result, Ok, Err, refl, sym, ap, subst, ◌∙◌, arith, eqb, ◌==◌, ◌&&◌, IfOk, eqb-true, eq-eqb, append-nil, nil_from_length, IsMachine, Pid}
use Rattle.dm_statebytes.proofs.Names.{PacketError, ◌>>=◌, both, number, version, Fits, IsBytes, IsField, IsField-both, IsField-for, IsField-made, IsField-number, IsField-tested, bind_ok, guard_ok, IsSpelledPid, pid_is, StateBytesError}
use Rattle.dm_link.specs.Names.{pid_eq}
use Rattle.dm_packet.specs.declared.PacketError.TheVariants as bad
use Rattle.dm_packet.specs.Field.{Field}
use Rattle.dm_packet.specs.Fields.{machine, pid}
use Rattle.dm_packet.proofs.Fields.{machine_is}
use Rattle.dm_statebytes.specs.declared.server.ServerError.{ServerError}
use Rattle.dm_statebytes.specs.declared.server.ServerError.TheVariants.{StateBytes, NoMemory}
use Rattle.dm_statebytes.specs.declared.server.Unread.{Unread}
use Rattle.dm_statebytes.specs.declared.server.Unread.TheVariants as unread
use Rattle.dm_statebytes.specs.Servers.{FitCounts, Gives, IsAddressOf, IsUnpacked, ReadsWhole, address_of, by_rules, only_read, refusal_of, server_front, server_pid, whole_of}

-- the version of a format

pub versions_are : (n : ℕ) → n < 256 → IsField (version n) (λ v. v ≡ n)
versions_are n small =
    IsField-for (version n) (λ v. (v < 256 ^ 1) × (eqb v n ≡ true)) (λ v. v ≡ n) (IsField-tested (number 1) (λ v. v < 256 ^ 1) (IsField-number 1) (λ v. v == n) bad.Version)
    (λ v fits. eqb-true v n fits.1)
    (λ v e. (omega (arith, e, small), eq-eqb v n e))

-- the name of a server

both_are : (a b : Bool) → (a && b) ≡ true → (a ≡ true) × (b ≡ true)
both_are true true h = (refl, refl)
both_are true false h = absurd (cc h)
both_are false b h = absurd (cc h)

pid_same : (q p : Pid) → pid_eq q p ≡ true → q ≡ p
pid_same q p h =
    let parts = both_are (q.home == p.home) (q.num == p.num) h in
    let home = eqb-true q.home p.home parts.0 in
    let num = eqb-true q.num p.num parts.1 in
    λ i. record { home = home i; num = num i }

pid_itself : (q p : Pid) → q ≡ p → pid_eq q p ≡ true
pid_itself q p e =
    let home = eq-eqb q.home p.home (ap (λ (x : Pid). x.home) e) in
    let num = eq-eqb q.num p.num (ap (λ (x : Pid). x.num) e) in
    rw (home, num) refl

pub server_pid_is : (p : Pid) → IsSpelledPid p → IsField (server_pid p) (λ q. q ≡ p)
server_pid_is p spelled =
    IsField-for (server_pid p) (λ q. IsSpelledPid q × (pid_eq q p ≡ true)) (λ q. q ≡ p) (IsField-tested pid IsSpelledPid pid_is (λ q. pid_eq q p) bad.Machine)
    (λ q fits. pid_same q p fits.1)
    (λ q e. (subst IsSpelledPid (sym e) spelled, pid_itself q p e))

-- an address of a server
pub address_is : (p : Pid) → IsSpelledPid p → IsField (address_of p) (λ a. IsAddressOf p a × Fits 4 a.moves)
address_is p spelled =
    let place = IsField-both machine IsMachine machine_is (λ _. number 4) (λ _. Fits 4) (λ _. IsField-number 4) in
    let parts = IsField-both (server_pid p) (λ q. q ≡ p) (server_pid_is p spelled) (λ _. both machine (λ _. number 4)) (λ _ x. IsMachine x.0 × Fits 4 x.1) (λ _. place) in
    IsField-made (both (server_pid p) (λ _. both machine (λ _. number 4))) (λ a. (a.0 ≡ p) × (IsMachine a.1.0 × Fits 4 a.1.1)) parts (λ a. record { pid = a.0; at = a.1.0; moves = a.1.1 }) (λ a. (a.pid, (a.at, a.moves)))
    (λ a. IsAddressOf p a × Fits 4 a.moves)
    (λ a fits. (refl, (record { pid = fits.0; at = fits.1.0 }, fits.1.1)))
    (λ a fits. ((fits.0.pid, (fits.0.at, fits.1)), refl))

-- what a server's state begins with

pub server_front_is : (p : Pid) → IsSpelledPid p → IsField (server_front p) FitCounts
server_front_is p spelled =
    let counts = IsField-both (number 4) (Fits 4) (IsField-number 4) (λ _. number 4) (λ _. Fits 4) (λ _. IsField-number 4) in
    let named = IsField-both (server_pid p) (λ q. q ≡ p) (server_pid_is p spelled) (λ _. both (number 4) (λ _. number 4)) (λ _. FitCounts) (λ _. counts) in
    let parts = IsField-both (version 4) (λ v. v ≡ 4) (versions_are 4 (omega arith)) (λ _. both (server_pid p) (λ _. both (number 4) (λ _. number 4))) (λ _ f. (f.0 ≡ p) × FitCounts f.1) (λ _. named) in
    IsField-made (both (version 4) (λ _. both (server_pid p) (λ _. both (number 4) (λ _. number 4)))) (λ f. (f.0 ≡ 4) × ((f.1.0 ≡ p) × FitCounts f.1.1)) parts (λ f. f.1.1) (λ counts. (4, (p, counts))) FitCounts
    (λ f fits. ((λ i. (sym fits.0 i, (sym fits.1.0 i, f.1.1))), fits.1.1))
    (λ counts fits. ((refl, (refl, fits)), refl))

-- what is read whole

abbrev done : {X : Type 0} → X → Result X StateBytesError
done x = Ok x

by_rules_ok : {X : Type 0} (r : Result X PacketError) (x : X) → by_rules r ≡ done x → r ≡ Ok x
by_rules_ok (Ok y) x e = cc
by_rules_ok (Err d) x e = absurd cc

only_ok : {X : Type 0} (t : X × List ℕ) (x : X) → only_read t ≡ Ok x → (t.1 ≡ []) × (t.0 ≡ x)
only_ok t x e = let g = guard_ok (eqb (length t.1) 0) bad.Trailing t.0 x e in (nil_from_length t.1 (eqb-true _ _ g.0), g.1)

pub whole_takes : {X : Type 0} (f : Field X) (FitsX : X → Type 0) → IsField f FitsX → (bytes : List ℕ) (x : X) → IsBytes bytes → whole_of f bytes ≡ Ok x → FitsX x × (bytes ≡ f.spell x)
whole_takes {X} f FitsX is bytes x h e =
    let whole = by_rules_ok (f.read bytes >>= only_read) x e in
    let a = bind_ok (f.read bytes) only_read x whole in
    let end = only_ok a.0 x a.2 in
    let t = is.takes bytes a.0.0 a.0.1 h a.1 in
    let parts : bytes ≡ f.spell a.0.0 = t.parts ∙ ap (λ (rest : List ℕ). f.spell a.0.0 ++ rest) end.0 ∙ append-nil (f.spell a.0.0) in
    subst (λ (y : X). FitsX y × (bytes ≡ f.spell y)) end.1 (t.fits, parts)

pub whole_again : {X : Type 0} (f : Field X) (FitsX : X → Type 0) → IsField f FitsX → (x : X) → FitsX x → whole_of f (f.spell x) ≡ Ok x
whole_again {X} f FitsX is x fits =
    let read : f.read (f.spell x) ≡ Ok (x, []) = ap f.read (sym (append-nil (f.spell x))) ∙ is.again x [] fits in
    ap (λ (r : Result (X × List ℕ) PacketError). by_rules (r >>= only_read)) read

-- what is unpacked fits, and the bytes are its spelling
pub unpacked_found : {X : Type 0} (f : Field X) (FitsX : X → Type 0) → IsField f FitsX → (bytes : List ℕ) (r : Result X ServerError) → IsBytes bytes → IsUnpacked r (whole_of f bytes) → IfOk r (λ x. FitsX x × (bytes ≡ f.spell x))
unpacked_found f FitsX is bytes (Ok x) h e = whole_takes f FitsX is bytes x h e
unpacked_found f FitsX is bytes (Err d) h e = tt

same_ok : {X : Type 0} (x y : X) → done x ≡ done y → x ≡ y
same_ok x y e = cc

-- the spelling of what fits is unpacked so, unless memory lacks
pub unpacked_only : {X : Type 0} (f : Field X) (FitsX : X → Type 0) → IsField f FitsX → (bytes : List ℕ) (r : Result X ServerError) (x : X) → IsUnpacked r (whole_of f bytes) → FitsX x → bytes ≡ f.spell x → Gives r x
unpacked_only f FitsX is bytes (Ok y) x e fits spelled = same_ok y x (sym e ∙ ap (whole_of f) spelled ∙ whole_again f FitsX is x fits)
unpacked_only f FitsX is bytes (Err (StateBytes d)) x e fits spelled =
    let both_ways = sym e ∙ ap (whole_of f) spelled ∙ whole_again f FitsX is x fits in absurd cc
unpacked_only f FitsX is bytes (Err (NoMemory none)) x e fits spelled = tt

-- the rule that is broken, for whoever asked for the server
pub refused : {X : Type 0} (d : Unread) (e : ServerError) (read : Result X PacketError) → e ≡ refusal_of d → ReadsWhole (Err d) read → IsUnpacked (Err e) (by_rules read)
refused (unread.Bytes rule) e read is h = subst (λ (x : ServerError). IsUnpacked (Err x) (by_rules read)) (sym is) (ap by_rules h)
refused (unread.NoMemory none) e read is h = subst (λ (x : ServerError). IsUnpacked (Err x) (by_rules read)) (sym is) tt
