-- The manager is read as it is spelled.
use Rattle.dm_procman.proofs.Names.{◌≡◌, ℕ, ◌<◌, ◌≤◌, List, [], ◌∷◌, length, None, Some, refl, sym, arith, ◌==◌, Option, IfSome, Addr, Link, IsLawfulAddr, IsLawfulEnclosed, Pending, PendingKind, IsLawfulManager, IsLawfulPending, Managing, manager, switchboard}
use Rattle.std.specs.List.{find}
use Rattle.dm_packet.proofs.Names.{AllByRecursion, All-from_recursion, recursion_from_All}
use Rattle.dm_packet.specs.declared.PacketError.TheVariants as bad
use Rattle.dm_packet.specs.Field.{both, number, repeated_field}
use Rattle.dm_packet.specs.Fields.{addr, link}
use Rattle.dm_packet.specs.Whats.{optional}
use Rattle.dm_packet.specs.Widths.{Fits, FitsAddr, FitsLink}
use Rattle.dm_packet.proofs.Field.{IsField, IsField-both, IsField-counted, IsField-made, IsField-number, IsField-repeated_field}
use Rattle.dm_packet.proofs.Fields.{IsSpelledAddr, IsSpelledLink, IsSpelledPid, addr_is, link_is}
use Rattle.dm_packet.proofs.Coded.{coded_is, optional_is}
use Rattle.dm_statebytes.specs.Servers.{FitCounts, IsAddressOf, address_of, server_front}
use Rattle.dm_statebytes.proofs.Servers.{address_is, server_front_is}
use Rattle.dm_onekernel.specs.declared.request.PendingKind.TheVariants as wanted
use Rattle.dm_procman.specs.Packed.{FitsManager, FitsRequest, IsSpelledManager, ManagerParts, children_field, kind_wanted, manager_parts, manager_with, managing, number_of_wanted, parts_of, request, requests_field}

kind_small : (k : PendingKind) → number_of_wanted k < 256
kind_small wanted.Create = omega arith
kind_small wanted.Move = omega arith

kind_there : (k : PendingKind) → find (λ j. number_of_wanted k == number_of_wanted j) (wanted.Create ∷ wanted.Move ∷ []) ≡ Some k
kind_there wanted.Create = refl
kind_there wanted.Move = refl

kind_is : IsField kind_wanted (λ _. Unit {0})
kind_is = coded_is (wanted.Create ∷ wanted.Move ∷ []) number_of_wanted bad.Flags kind_small kind_there

-- requests

abbrev IsSpelledRequest : Pending → Type 0
IsSpelledRequest r = Fits 4 r.n × (Unit {0} × IfSome r.answer IsSpelledLink)

request_is : IsField request IsSpelledRequest
request_is =
    let answer = optional_is link IsSpelledLink link_is in
    let wanted = IsField-both kind_wanted (λ _. Unit {0}) kind_is (λ _. optional link) (λ _ o. IfSome o IsSpelledLink) (λ _. answer) in
    let parts = IsField-both (number 4) (Fits 4) (IsField-number 4) (λ _. both kind_wanted (λ _. optional link)) (λ _ r. Unit {0} × IfSome r.1 IsSpelledLink) (λ _. wanted) in
    IsField-made (both (number 4) (λ _. both kind_wanted (λ _. optional link))) (λ r. Fits 4 r.0 × (Unit {0} × IfSome r.1.1 IsSpelledLink)) parts (λ r. record { n = r.0; kind = r.1.0; answer = r.1.1 }) (λ r. (r.n, (r.kind, r.answer))) IsSpelledRequest
    (λ r fits. (refl, fits))
    (λ r fits. (fits, refl))

lawful_answer : (o : Option Link) → IfSome o IsSpelledLink → IfSome o IsLawfulEnclosed
lawful_answer None fits = tt
lawful_answer (Some l) fits = fits.0

fitting_answer : (o : Option Link) → IfSome o IsSpelledLink → IfSome o FitsLink
fitting_answer None fits = tt
fitting_answer (Some l) fits = fits.1

spelled_answer : (o : Option Link) → IfSome o IsLawfulEnclosed → IfSome o FitsLink → IfSome o IsSpelledLink
spelled_answer None lawful fits = tt
spelled_answer (Some l) lawful fits = (lawful, fits)

lawful_requests : (rs : List Pending) → AllByRecursion IsSpelledRequest rs → AllByRecursion IsLawfulPending rs
lawful_requests [] fits = tt
lawful_requests (r ∷ rs) fits = (lawful_answer r.answer fits.0.1.1, lawful_requests rs fits.1)

fitting_requests : (rs : List Pending) → AllByRecursion IsSpelledRequest rs → AllByRecursion FitsRequest rs
fitting_requests [] fits = tt
fitting_requests (r ∷ rs) fits = ((fits.0.0, fitting_answer r.answer fits.0.1.1), fitting_requests rs fits.1)

spelled_requests : (rs : List Pending) → AllByRecursion IsLawfulPending rs → AllByRecursion FitsRequest rs → AllByRecursion IsSpelledRequest rs
spelled_requests [] lawful fits = tt
spelled_requests (r ∷ rs) lawful fits = ((fits.0.0, (tt, spelled_answer r.answer lawful.0 fits.0.1)), spelled_requests rs lawful.1 fits.1)

-- children

lawful_children : (cs : List Addr) → AllByRecursion IsSpelledAddr cs → AllByRecursion IsLawfulAddr cs
lawful_children [] fits = tt
lawful_children (c ∷ cs) fits = (fits.0.0, lawful_children cs fits.1)

fitting_children : (cs : List Addr) → AllByRecursion IsSpelledAddr cs → AllByRecursion FitsAddr cs
fitting_children [] fits = tt
fitting_children (c ∷ cs) fits = (fits.0.1, fitting_children cs fits.1)

spelled_children : (cs : List Addr) → AllByRecursion IsLawfulAddr cs → AllByRecursion FitsAddr cs → AllByRecursion IsSpelledAddr cs
spelled_children [] lawful fits = tt
spelled_children (c ∷ cs) lawful fits = ((lawful.0, fits.0), spelled_children cs lawful.1 fits.1)

-- the whole

abbrev AreChildren : List Addr → Type 0
AreChildren cs = Fits 4 (length cs) × AllByRecursion IsSpelledAddr cs

abbrev AreRequests : List Pending → Type 0
AreRequests rs = Fits 4 (length rs) × AllByRecursion IsSpelledRequest rs

abbrev IsBoard : Addr → Type 0
IsBoard a = IsAddressOf switchboard a × Fits 4 a.moves

abbrev IsWhole : ManagerParts → Type 0
IsWhole p = FitCounts p.0 × (AreChildren p.1.0 × (IsBoard p.1.1.0 × AreRequests p.1.1.1))

children_are : IsField children_field AreChildren
children_are = IsField-counted (number 4) (Fits 4) (IsField-number 4) (λ n. repeated_field addr n) (AllByRecursion IsSpelledAddr) (λ n. IsField-repeated_field addr IsSpelledAddr addr_is n)

requests_are : IsField requests_field AreRequests
requests_are = IsField-counted (number 4) (Fits 4) (IsField-number 4) (λ n. repeated_field request n) (AllByRecursion IsSpelledRequest) (λ n. IsField-repeated_field request IsSpelledRequest request_is n)

manager_is_spelled : IsSpelledPid manager
manager_is_spelled = (omega arith, omega arith)

switchboard_is_spelled : IsSpelledPid switchboard
switchboard_is_spelled = (omega arith, omega arith)

parts_are : IsField manager_parts IsWhole
parts_are =
    let from_board = IsField-both (address_of switchboard) IsBoard (address_is switchboard switchboard_is_spelled) (λ _. requests_field) (λ _. AreRequests) (λ _. requests_are) in
    let from_children = IsField-both children_field AreChildren children_are (λ _. both (address_of switchboard) (λ _. requests_field)) (λ _ p. IsBoard p.0 × AreRequests p.1) (λ _. from_board) in
    IsField-both (server_front manager) FitCounts (server_front_is manager manager_is_spelled) (λ _. both children_field (λ _. both (address_of switchboard) (λ _. requests_field))) (λ _ p. AreChildren p.0 × (IsBoard p.1.0 × AreRequests p.1.1)) (λ _. from_children)

made_of : (machines images : ℕ) → machines ≤ 16 → (p : ManagerParts) → IsWhole p → IsSpelledManager machines images (manager_with machines images p)
made_of machines images few p fits = record {
  lawful = record {
    children = All-from_recursion IsLawfulAddr p.1.0 (lawful_children p.1.0 fits.1.0.1);
    pending = All-from_recursion IsLawfulPending p.1.1.1 (lawful_requests p.1.1.1 fits.1.1.1.1);
    board = fits.1.1.0.0;
    machines = few;
  };
  fits = record {
    few_children = fits.1.0.0;
    few_pending = fits.1.1.1.0;
    children = All-from_recursion FitsAddr p.1.0 (fitting_children p.1.0 fits.1.0.1);
    pending = All-from_recursion FitsRequest p.1.1.1 (fitting_requests p.1.1.1 fits.1.1.1.1);
    board = fits.1.1.0.1;
    sent = fits.0.0;
    moves = fits.0.1;
  };
  machines = refl;
  images = refl;
}

whole_of_manager : (g : Managing) → IsLawfulManager g → FitsManager g → IsWhole (parts_of g)
whole_of_manager g lawful fits =
    let cs = spelled_children g.children (recursion_from_All IsLawfulAddr g.children lawful.children) (recursion_from_All FitsAddr g.children fits.children) in
    let rs = spelled_requests g.pending (recursion_from_All IsLawfulPending g.pending lawful.pending) (recursion_from_All FitsRequest g.pending fits.pending) in
    ((fits.sent, fits.moves), ((fits.few_children, cs), ((lawful.board, fits.board), (fits.few_pending, rs))))

pub managing_is : (machines images : ℕ) → machines ≤ 16 → IsField (managing machines images) (IsSpelledManager machines images)
managing_is machines images few =
    IsField-made manager_parts IsWhole parts_are (manager_with machines images) parts_of (IsSpelledManager machines images)
    (λ p fits. (refl, made_of machines images few p fits))
    (λ g h. (whole_of_manager g h.lawful h.fits, (λ i. record { children = g.children; pending = g.pending; board = g.board; sent = g.sent; moves = g.moves; machines = sym h.machines i; images = sym h.images i })))
