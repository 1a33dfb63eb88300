-- The switchboard is read as it is spelled.
use Rattle.dm_switchboard.proofs.Imports.{◌≡◌, ℕ, zero, suc, ◌≤◌, true, List, [], ◌∷◌, ◌++◌, length, refl, sym, ap, ◌∙◌, arith, Option, None, is_some, is_name, Link, Board, Named, IsLawfulNamed, link_named, switchboard}
use Rattle.std.specs.declared.result.Result.TheVariants.{Ok}
use Rattle.std.specs.declared.option.Option.TheVariants.{Some}
use Rattle.std.specs.Prelude.{not}
use Rattle.dm_packet.proofs.Names.{AllByRecursion, All-from_recursion, recursion_from_All, append_assoc, flat_map, flat_map-cons, nat_tests}
use Rattle.dm_packet.specs.declared.PacketError.TheVariants as bad
use Rattle.dm_packet.specs.Field.{◌>>=◌, both, number, number_within, run}
use Rattle.dm_packet.specs.Fields.{link}
use Rattle.dm_packet.specs.Widths.{Fits}
use Rattle.dm_packet.proofs.Numbers.{IsBytes}
use Rattle.dm_packet.proofs.Field.{IsField, IsField-both, IsField-counted, IsField-for, IsField-made, IsField-number, IsField-tested, Took, bind_ok, then_parts, took_same}
use Rattle.dm_packet.proofs.Fields.{IsSpelledLink, IsSpelledPid, link_is, number_within_is, run_is}
use Rattle.dm_statebytes.specs.Servers.{Counts, FitCounts, server_front}
use Rattle.dm_statebytes.proofs.Servers.{server_front_is}
use Rattle.dm_switchboard.specs.Packed.{AreApart, FitsNamed, IsSpelledBoard, board, name, name_behind, named_behind, names, names_behind, read_names, spell_named}

name_is : IsField name (λ n. is_name n ≡ true)
name_is =
    let counts = IsField-counted (number_within 1 1 16) (λ n. (1 ≤ n) × (n ≤ 16)) (number_within_is 1 1 16 (omega arith)) run (λ _. Unit {0}) run_is in
    IsField-for name (λ n. ((1 ≤ length n) × (length n ≤ 16)) × Unit {0}) (λ n. is_name n ≡ true) counts
    (λ n fits. grind (arith, nat_tests))
    (λ n h. ((grind (arith, nat_tests), grind (arith, nat_tests)), tt))

-- the names before another

pub not_some : {X : Type 0} (o : Option X) → not (is_some o) ≡ true → o ≡ None
not_some None h = refl
not_some (Some x) h = absurd cc

abbrev IsNameBehind : List Named → List ℕ → Type 0
IsNameBehind earlier n = (is_name n ≡ true) × (link_named n earlier ≡ None)

name_behind_is : (earlier : List Named) → IsField (name_behind earlier) (IsNameBehind earlier)
name_behind_is earlier =
    IsField-for (name_behind earlier) (λ n. (is_name n ≡ true) × (not (is_some (link_named n earlier)) ≡ true)) (IsNameBehind earlier)
    (IsField-tested name (λ n. is_name n ≡ true) name_is (λ n. not (is_some (link_named n earlier))) bad.Limit)
    (λ n fits. (fits.0, not_some (link_named n earlier) fits.1))
    (λ n fits. (fits.0, ap (λ (o : Option Link). not (is_some o)) fits.1))

abbrev IsNamedBehind : List Named → Named → Type 0
IsNamedBehind earlier k = IsNameBehind earlier k.name × IsSpelledLink k.link

named_behind_is : (earlier : List Named) → IsField (named_behind earlier) (IsNamedBehind earlier)
named_behind_is earlier =
    let parts = IsField-both (name_behind earlier) (IsNameBehind earlier) (name_behind_is earlier) (λ _. link) (λ _. IsSpelledLink) (λ _. link_is) in
    IsField-made (both (name_behind earlier) (λ _. link)) (λ e. IsNameBehind earlier e.0 × IsSpelledLink e.1) parts (λ e. record { name = e.0; link = e.1 }) (λ k. (k.name, k.link)) (IsNamedBehind earlier)
    (λ e fits. (refl, fits))
    (λ k fits. (fits, refl))

-- the names

abbrev AreNames : List Named → List Named → Type 0
AreNames earlier [] = Unit {0}
AreNames earlier (k ∷ ks) = IsNamedBehind earlier k × AreNames (earlier ++ k ∷ []) ks

names_takes : (n : ℕ) (earlier : List Named) (bytes : List ℕ) (ks : List Named) (rest : List ℕ) → IsBytes bytes → read_names n earlier bytes ≡ Ok (ks, rest)
    → Took (names_behind earlier n) (λ ks. (length ks ≡ n) × AreNames earlier ks) bytes ks rest
names_takes zero earlier bytes ks rest h e =
    took_same (names_behind earlier 0) (λ ks. (length ks ≡ 0) × AreNames earlier ks) bytes ([], bytes) (ks, rest) e (record { parts = refl; rest_fits = h; fits = (refl, tt) })
names_takes (suc n) earlier bytes ks rest h e =
    let a = bind_ok ((named_behind earlier).read bytes) (λ first. read_names n (earlier ++ first.0 ∷ []) first.1 >>= λ others. Ok (first.0 ∷ others.0, others.1)) (ks, rest) e in
    let b = bind_ok (read_names n (earlier ++ a.0.0 ∷ []) a.0.1) (λ others. Ok (a.0.0 ∷ others.0, others.1)) (ks, rest) a.2 in
    let t = (named_behind_is earlier).takes bytes a.0.0 a.0.1 h a.1 in
    let u = names_takes n (earlier ++ a.0.0 ∷ []) a.0.1 b.0.0 b.0.1 t.rest_fits b.1 in
    let parts : bytes ≡ flat_map spell_named (a.0.0 ∷ b.0.0) ++ b.0.1 =
    then_parts bytes (spell_named a.0.0) a.0.1 (flat_map spell_named b.0.0) b.0.1 t.parts u.parts
    ∙ ap (λ (front : List ℕ). front ++ b.0.1) (sym (flat_map-cons spell_named a.0.0 b.0.0)) in
    took_same (names_behind earlier (suc n)) (λ ks. (length ks ≡ suc n) × AreNames earlier ks) bytes (a.0.0 ∷ b.0.0, b.0.1) (ks, rest) b.2
    (record { parts = parts; rest_fits = u.rest_fits; fits = (ap suc u.fits.0, (t.fits, u.fits.1)) })

names_again : (ks earlier : List Named) (rest : List ℕ) → AreNames earlier ks → read_names (length ks) earlier (flat_map spell_named ks ++ rest) ≡ Ok (ks, rest)
names_again [] earlier rest fits = refl
names_again (k ∷ ks) earlier rest fits =
    let regrouped : flat_map spell_named (k ∷ ks) ++ rest ≡ spell_named k ++ (flat_map spell_named ks ++ rest) =
    ap (λ (front : List ℕ). front ++ rest) (flat_map-cons spell_named k ks) ∙ append_assoc (spell_named k) (flat_map spell_named ks) rest in
    ap (read_names (suc (length ks)) earlier) regrouped
    ∙ rw ((named_behind_is earlier).again k (flat_map spell_named ks ++ rest) fits.0, names_again ks (earlier ++ k ∷ []) rest fits.1) refl

names_behind_are : (n : ℕ) → IsField (names_behind [] n) (λ ks. (length ks ≡ n) × AreNames [] ks)
names_behind_are n = record {
  takes = λ bytes ks rest h e. names_takes n [] bytes ks rest h e;
  again = λ ks rest fits. rw (sym fits.0) (names_again ks [] rest fits.1);
}

names_are : IsField names (λ ks. Fits 4 (length ks) × AreNames [] ks)
names_are = IsField-counted (number 4) (Fits 4) (IsField-number 4) (names_behind []) (AreNames []) names_behind_are

-- the same, said of all names

lawful_names : (earlier ks : List Named) → AreNames earlier ks → AllByRecursion IsLawfulNamed ks
lawful_names earlier [] fits = tt
lawful_names earlier (k ∷ ks) fits = (record { name = fits.0.0.0; link = fits.0.1.0 }, lawful_names (earlier ++ k ∷ []) ks fits.1)

fitting_names : (earlier ks : List Named) → AreNames earlier ks → AllByRecursion FitsNamed ks
fitting_names earlier [] fits = tt
fitting_names earlier (k ∷ ks) fits = (fits.0.1.1, fitting_names (earlier ++ k ∷ []) ks fits.1)

apart_names : (earlier ks : List Named) → AreNames earlier ks → AreApart earlier ks
apart_names earlier [] fits = tt
apart_names earlier (k ∷ ks) fits = (fits.0.0.1, apart_names (earlier ++ k ∷ []) ks fits.1)

spelled_names : (earlier ks : List Named) → AllByRecursion IsLawfulNamed ks → AllByRecursion FitsNamed ks → AreApart earlier ks → AreNames earlier ks
spelled_names earlier [] lawful fits apart = tt
spelled_names earlier (k ∷ ks) lawful fits apart = (((lawful.0.name, apart.0), (lawful.0.link, fits.0)), spelled_names (earlier ++ k ∷ []) ks lawful.1 fits.1 apart.1)

-- the whole

abbrev IsWhole : Counts × List Named → Type 0
IsWhole b = FitCounts b.0 × (Fits 4 (length b.1) × AreNames [] b.1)

made_of : (b : Counts × List Named) → IsWhole b → IsSpelledBoard (record { names = b.1; sent = b.0.0; moves = b.0.1 })
made_of b fits = record {
  lawful = All-from_recursion IsLawfulNamed b.1 (lawful_names [] b.1 fits.1.1);
  apart = apart_names [] b.1 fits.1.1;
  fits = record { few = fits.1.0; names = All-from_recursion FitsNamed b.1 (fitting_names [] b.1 fits.1.1); sent = fits.0.0; moves = fits.0.1 };
}

parts_of : (b : Board) → IsSpelledBoard b → IsWhole ((b.sent, b.moves), b.names)
parts_of b h =
    let fits = h.fits in
    let ks = spelled_names [] b.names (recursion_from_All IsLawfulNamed b.names h.lawful) (recursion_from_All FitsNamed b.names fits.names) h.apart in
    ((fits.sent, fits.moves), (fits.few, ks))

switchboard_is_spelled : IsSpelledPid switchboard
switchboard_is_spelled = (omega arith, omega arith)

pub board_is : IsField board IsSpelledBoard
board_is =
    let whole = IsField-both (server_front switchboard) FitCounts (server_front_is switchboard switchboard_is_spelled) (λ _. names) (λ _ ks. Fits 4 (length ks) × AreNames [] ks) (λ _. names_are) in
    IsField-made (both (server_front switchboard) (λ _. names)) IsWhole whole (λ b. record { names = b.1; sent = b.0.0; moves = b.0.1 }) (λ b. ((b.sent, b.moves), b.names)) IsSpelledBoard
    (λ b fits. (refl, made_of b fits))
    (λ b h. (parts_of b h, refl))
