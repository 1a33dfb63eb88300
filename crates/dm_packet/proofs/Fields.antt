-- Each field of a packet reads what it spells: names, places, links and bytes.
use Rattle.dm_packet.proofs.Names.{◌≡◌, ℕ, zero, suc, ◌+◌, ◌^◌, ◌<◌, ◌≤◌, Bool, true, false, length, refl, sym, arith, nat_le, ◌&&◌, AllByRecursion, and_parts, ltb-true, nat_tests, Pid, Addr, Kind, General, Reply, Link, IsMachine}
use Rattle.dm_packet.proofs.Names.{IsLawfulAddr, IsLawfulEnclosed, PacketError, both, number, number_within, run, tested, repeated_field, addr, are_flags, bytes_within, channel, flags, flags_of, len_from, link, link_of_parts, links}
use Rattle.dm_packet.proofs.Names.{machine, number_of_flags, parts_of_link, pid, Fits, FitsPid, FitsAddr, FitsLink}
use Rattle.dm_packet.specs.declared.PacketError.TheVariants as bad
use Rattle.dm_packet.proofs.Field.{IsField, IsField-both, IsField-counted, IsField-for, IsField-made, IsField-number, IsField-repeated_field, IsField-run, IsField-tested}

-- a number at most so great
at_most_is : (size most : ℕ) (rule : PacketError) → most < 256 ^ size → IsField (tested (number size) (λ n. nat_le n most) rule) (λ n. n ≤ most)
at_most_is size most rule room =
    IsField-for (tested (number size) (λ n. nat_le n most) rule) (λ n. (n < 256 ^ size) × (nat_le n most ≡ true)) (λ n. n ≤ most)
    (IsField-tested (number size) (λ n. n < 256 ^ size) (IsField-number size) (λ n. nat_le n most) rule)
    (λ n fits. grind (arith, nat_tests))
    (λ n fits. (omega arith, grind (arith, nat_tests)))

pub number_within_is : (size least most : ℕ) → most < 256 ^ size → IsField (number_within size least most) (λ n. (least ≤ n) × (n ≤ most))
number_within_is size least most room =
    IsField-for (number_within size least most) (λ n. (n < 256 ^ size) × ((nat_le least n && nat_le n most) ≡ true)) (λ n. (least ≤ n) × (n ≤ most))
    (IsField-tested (number size) (λ n. n < 256 ^ size) (IsField-number size) (λ n. nat_le least n && nat_le n most) bad.Limit)
    (λ n fits. (grind (arith, nat_tests), grind (arith, nat_tests)))
    (λ n fits. (omega arith, grind (arith, nat_tests)))

pub most_within_is : (size most : ℕ) → most < 256 ^ size → IsField (number_within size 0 most) (λ n. n ≤ most)
most_within_is size most room = IsField-for (number_within size 0 most) (λ n. (0 ≤ n) × (n ≤ most)) (λ n. n ≤ most) (number_within_is size 0 most room) (λ n fits. fits.1) (λ n fits. (omega arith, fits))

pub machine_is : IsField machine IsMachine
machine_is = at_most_is 1 15 bad.Machine (omega arith)

pub channel_is : IsField channel (λ c. c ≤ 31)
channel_is = most_within_is 1 31 (omega arith)

-- names and addresses that are spelled
abbrev pub IsSpelledPid : Pid → Type 0
IsSpelledPid p = IsMachine p.home × FitsPid p

abbrev pub IsSpelledAddr : Addr → Type 0
IsSpelledAddr a = IsLawfulAddr a × FitsAddr a

pub pid_is : IsField pid IsSpelledPid
pid_is =
    IsField-made (both machine (λ _. number 4)) (λ p. IsMachine p.0 × Fits 4 p.1) (IsField-both machine IsMachine machine_is (λ _. number 4) (λ _. Fits 4) (λ _. IsField-number 4))
    (λ p. record { home = p.0; num = p.1 }) (λ p. (p.home, p.num)) IsSpelledPid (λ p fits. (refl, fits)) (λ p fits. (fits, refl))

pub addr_is : IsField addr IsSpelledAddr
addr_is =
    let place = IsField-both machine IsMachine machine_is (λ _. number 4) (λ _. Fits 4) (λ _. IsField-number 4) in
    let parts = IsField-both pid IsSpelledPid pid_is (λ _. both machine (λ _. number 4)) (λ _ p. IsMachine p.0 × Fits 4 p.1) (λ _. place) in
    IsField-made (both pid (λ _. both machine (λ _. number 4))) (λ a. IsSpelledPid a.0 × (IsMachine a.1.0 × Fits 4 a.1.1)) parts (λ a. record { pid = a.0; at = a.1.0; moves = a.1.1 }) (λ a. (a.pid, (a.at, a.moves))) IsSpelledAddr
    (λ a fits. (refl, (record { home = fits.0.0; at = fits.1.0 }, (fits.0.1, fits.1.1))))
    (λ a fits. (((fits.0.home, fits.1.0), (fits.0.at, fits.1.1)), refl))

flags_there : (n : ℕ) → are_flags n ≡ true → number_of_flags (flags_of n) ≡ n
flags_there zero h = refl
flags_there (suc zero) h = refl
flags_there (suc (suc zero)) h = absurd cc
flags_there (suc (suc (suc zero))) h = absurd cc
flags_there (suc (suc (suc (suc zero)))) h = refl
flags_there (suc (suc (suc (suc (suc zero))))) h = refl
flags_there (suc (suc (suc (suc (suc (suc zero)))))) h = absurd cc
flags_there (suc (suc (suc (suc (suc (suc (suc zero))))))) h = absurd cc
flags_there (suc (suc (suc (suc (suc (suc (suc (suc zero)))))))) h = refl
flags_there (suc (suc (suc (suc (suc (suc (suc (suc (suc zero))))))))) h = refl
flags_there (suc (suc (suc (suc (suc (suc (suc (suc (suc (suc zero)))))))))) h = absurd cc
flags_there (suc (suc (suc (suc (suc (suc (suc (suc (suc (suc (suc zero))))))))))) h = absurd cc
flags_there (suc (suc (suc (suc (suc (suc (suc (suc (suc (suc (suc (suc zero)))))))))))) h = refl
flags_there (suc (suc (suc (suc (suc (suc (suc (suc (suc (suc (suc (suc (suc zero))))))))))))) h = refl
flags_there (suc (suc (suc (suc (suc (suc (suc (suc (suc (suc (suc (suc (suc (suc zero)))))))))))))) h = absurd cc
flags_there (suc (suc (suc (suc (suc (suc (suc (suc (suc (suc (suc (suc (suc (suc (suc zero))))))))))))))) h = absurd cc
flags_there (suc (suc (suc (suc (suc (suc (suc (suc (suc (suc (suc (suc (suc (suc (suc (suc n)))))))))))))))) h = let lt : suc (suc (suc (suc (suc (suc (suc (suc (suc (suc (suc (suc (suc (suc (suc (suc n))))))))))))))) < 16 = ltb-true _ _ (and_parts _ _ h).0 in absurd (omega arith)

flags_back : (f : Kind × Bool × Bool) → (flags_of (number_of_flags f) ≡ f) × ((number_of_flags f < 256) × (are_flags (number_of_flags f) ≡ true))
flags_back (General, false, false) = (refl, (omega arith, refl))
flags_back (General, false, true) = (refl, (omega arith, refl))
flags_back (General, true, false) = (refl, (omega arith, refl))
flags_back (General, true, true) = (refl, (omega arith, refl))
flags_back (Reply, false, false) = (refl, (omega arith, refl))
flags_back (Reply, false, true) = (refl, (omega arith, refl))
flags_back (Reply, true, false) = (refl, (omega arith, refl))
flags_back (Reply, true, true) = (refl, (omega arith, refl))

pub flags_is : IsField flags (λ _. Unit {0})
flags_is =
    let numbers = IsField-tested (number 1) (λ n. n < 256 ^ 1) (IsField-number 1) are_flags bad.Flags in
    IsField-made (tested (number 1) are_flags bad.Flags) (λ n. (n < 256 ^ 1) × (are_flags n ≡ true)) numbers flags_of number_of_flags (λ _. Unit {0})
    (λ n fits. (flags_there n fits.1, tt))
    (λ f fits. let back = flags_back f in (back.1, back.0))

abbrev pub IsLenFrom : ℕ → ℕ → ℕ → Type 0
IsLenFrom size base len = Fits 4 len × (base + len ≤ size)

pub len_from_is : (size base : ℕ) → IsField (len_from size base) (IsLenFrom size base)
len_from_is size base =
    IsField-for (len_from size base) (λ len. Fits 4 len × (nat_le (base + len) size ≡ true)) (IsLenFrom size base)
    (IsField-tested (number 4) (Fits 4) (IsField-number 4) (λ len. nat_le (base + len) size) bad.Limit)
    (λ len fits. (fits.0, grind (arith, nat_tests)))
    (λ len fits. (fits.0, grind (arith, nat_tests)))

abbrev pub IsSpelledLink : Link → Type 0
IsSpelledLink l = IsLawfulEnclosed l × FitsLink l

sym_kernel : (l : Link) → l.to_kernel ≡ false → link_of_parts (parts_of_link l) ≡ l
sym_kernel l e i = record { addr = l.addr; kind = l.kind; to_kernel = sym e i; code = l.code; channel = l.channel; area = l.area }

pub link_is : IsField link IsSpelledLink
link_is =
    let area = IsField-both (number 4) (Fits 4) (IsField-number 4) (len_from 65536) (IsLenFrom 65536) (len_from_is 65536) in
    let from_channel = IsField-both channel (λ c. c ≤ 31) channel_is (λ _. both (number 4) (len_from 65536)) (λ _ a. Fits 4 a.0 × IsLenFrom 65536 a.0 a.1) (λ _. area) in
    let from_code = IsField-both (number 4) (Fits 4) (IsField-number 4) (λ _. both channel (λ _. both (number 4) (len_from 65536))) (λ _ l. (l.0 ≤ 31) × (Fits 4 l.1.0 × IsLenFrom 65536 l.1.0 l.1.1)) (λ _. from_channel) in
    let from_flags = IsField-both flags (λ _. Unit {0}) flags_is (λ _. both (number 4) (λ _. both channel (λ _. both (number 4) (len_from 65536)))) (λ _ l. Fits 4 l.0 × ((l.1.0 ≤ 31) × (Fits 4 l.1.1.0 × IsLenFrom 65536 l.1.1.0 l.1.1.1))) (λ _. from_code) in
    let parts = IsField-both addr IsSpelledAddr addr_is (λ _. both flags (λ _. both (number 4) (λ _. both channel (λ _. both (number 4) (len_from 65536))))) (λ _ l. Unit {0} × (Fits 4 l.1.0 × ((l.1.1.0 ≤ 31) × (Fits 4 l.1.1.1.0 × IsLenFrom 65536 l.1.1.1.0 l.1.1.1.1)))) (λ _. from_flags) in
    IsField-made (both addr (λ _. both flags (λ _. both (number 4) (λ _. both channel (λ _. both (number 4) (len_from 65536)))))) (λ l. IsSpelledAddr l.0 × (Unit {0} × (Fits 4 l.1.1.0 × ((l.1.1.1.0 ≤ 31) × (Fits 4 l.1.1.1.1.0 × IsLenFrom 65536 l.1.1.1.1.0 l.1.1.1.1.1))))) parts link_of_parts parts_of_link IsSpelledLink
    (λ l fits. (refl, (record { link = record { addr = fits.0.0; channel = fits.1.1.1.0; area = fits.1.1.1.1.1.1 }; not_to_kernel = refl }, (fits.0.1, fits.1.1.0))))
    (λ l fits. let area_fits = fits.0.link.area in (((fits.0.link.addr, fits.1.0), (tt, (fits.1.1, (fits.0.link.channel, (omega (arith, area_fits), (omega (arith, area_fits), area_fits)))))), sym_kernel l fits.0.not_to_kernel))

-- links of a list
pub links_is : (most : ℕ) → most < 256 → IsField (links most) (λ ls. (length ls ≤ most) × AllByRecursion IsSpelledLink ls)
links_is most room =
    IsField-counted (number_within 1 0 most) (λ n. n ≤ most) (most_within_is 1 most room) (λ n. repeated_field link n) (AllByRecursion IsSpelledLink) (λ n. IsField-repeated_field link IsSpelledLink link_is n)

-- a list of a given length, with nothing more asked
pub run_is : (n : ℕ) → IsField (run n) (λ xs. (length xs ≡ n) × Unit {0})
run_is n = IsField-for (run n) (λ xs. length xs ≡ n) (λ xs. (length xs ≡ n) × Unit {0}) (IsField-run n) (λ xs fits. (fits, tt)) (λ xs fits. fits.0)

pub bytes_within_is : (least most : ℕ) → most < 256 ^ 2 → IsField (bytes_within least most) (λ xs. (least ≤ length xs) × (length xs ≤ most))
bytes_within_is least most room =
    let counts = IsField-counted (number_within 2 least most) (λ n. (least ≤ n) × (n ≤ most)) (number_within_is 2 least most room) run (λ _. Unit {0}) run_is in
    IsField-for (bytes_within least most) (λ xs. ((least ≤ length xs) × (length xs ≤ most)) × Unit {0}) (λ xs. (least ≤ length xs) × (length xs ≤ most)) counts (λ xs fits. fits.0) (λ xs fits. (fits, tt))
