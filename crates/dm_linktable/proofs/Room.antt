-- An index of a table with an empty slot has room for one entry more.
use Rattle.dm_linktable.proofs.Names.{◌≡◌, ◌≢◌, ℕ, zero, suc, ◌<◌, ◌≤◌, true, false, eqb, List, [], ◌∷◌, length, get_or, map, Option, None, Some, arith, common_steps, get_or-map, length-map, IsDistinct-from_apart}
use Rattle.dm_linktable.proofs.Names.{length-le_from_distinct_below, bit_at-trailing_zeros, trailing_zeros, w128, list_any, Pid, Link, Entry, Agrees, IsIndex, leads, link_at}
use Rattle.dm_linktable.proofs.Entries.{apart, mask_at}
use Rattle.dm_linktable.proofs.ReceiverOrder.{pid_eq_same, pid_eq_self}

-- numbers below n, no two equal, are at most n
list_any_below : (xs : List ℕ) (n q : ℕ) → ((i : ℕ) → i < length xs → get_or xs i 0 < n) → list_any (eqb q) xs ≡ true → q < n
list_any_below [] n q below h = absurd (grind (arith, h))
list_any_below (x ∷ xs) n q below h = grind (arith, common_steps, below 0, h, list_any_below xs n q (λ i lt. below (suc i) (grind (arith, common_steps, lt))))

few : (xs : List ℕ) (n : ℕ) → ((i : ℕ) → i < length xs → get_or xs i 0 < n) → ((i j d : ℕ) → i < j → j < length xs → eqb (get_or xs i d) (get_or xs j d) ≡ false) → length xs ≤ n
few xs n below differ = length-le_from_distinct_below xs n (IsDistinct-from_apart eqb xs differ) (λ q h. list_any_below xs n q below h)

-- the lowest slot of an entry
abbrev lowest : Entry → ℕ
lowest e = trailing_zeros w128 e.slots

-- it leads to the entry's process
lowest_leads : (es : List Entry) (index : IsIndex es) (slots : List (Option Link)) (agrees : Agrees es slots) (i : ℕ) (d : Entry) → i < length es → leads (get_or es i d).receiver (link_at slots (lowest (get_or es i d))) ≡ 1
lowest_leads es index slots agrees i d lt =
    let e : Entry = get_or es i d in
    let low = bit_at-trailing_zeros w128 e.slots (index.used i d lt) (index.fits i d lt) in
    grind (arith, low.1, agrees e.receiver (lowest e), mask_at es index i d lt)

leads_one : (p q : Pid) (l : Option Link) → leads p l ≡ 1 → leads q l ≡ 1 → p ≡ q
leads_one p q None h k = absurd (grind (arith, h))
leads_one p q (Some l) h k = grind (arith, h, k, pid_eq_same l.addr.pid p, pid_eq_same l.addr.pid q)

leads_some : (slots : List (Option Link)) (p : Pid) (s : ℕ) → leads p (link_at slots s) ≡ 1 → s < length slots
leads_some slots p s h = grind (arith, common_steps, h)

none : Entry
none = record { receiver = record { home = 0; num = 0 }; slots = 0 }

lowest_at : (es : List Entry) (k d : ℕ) (e : Entry) → k < length es → get_or (map lowest es) k d ≡ lowest (get_or es k e)
lowest_at es k d e lt = get_or-map lowest es k e d lt

lowest_differ : (es : List Entry) (index : IsIndex es) (slots : List (Option Link)) (agrees : Agrees es slots) (a b : ℕ) (e : Entry) → a < b → b < length es → lowest (get_or es a e) ≢ lowest (get_or es b e)
lowest_differ es index slots agrees a b e lt bl same =
    let one = lowest_leads es index slots agrees a e (omega arith) in
    let other = lowest_leads es index slots agrees b e bl in
    let r : (get_or es a e).receiver ≡ (get_or es b e).receiver = leads_one (get_or es a e).receiver (get_or es b e).receiver (link_at slots (lowest (get_or es b e))) (rw same at one) other in
    absurd (grind (arith, r, pid_eq_self (get_or es b e).receiver, apart es index b a e bl))

lowest_full : (es : List Entry) (index : IsIndex es) (slots : List (Option Link)) (agrees : Agrees es slots) (s k : ℕ) (e : Entry) → k < length es → link_at slots s ≡ None → s ≢ lowest (get_or es k e)
lowest_full es index slots agrees s k e lt empty same =
    let one = lowest_leads es index slots agrees k e lt in
    absurd (grind (arith, one, same, empty))

lowest_below : (es : List Entry) (index : IsIndex es) (slots : List (Option Link)) (agrees : Agrees es slots) (k : ℕ) (e : Entry) → k < length es → lowest (get_or es k e) < length slots
lowest_below es index slots agrees k e lt = leads_some slots (get_or es k e).receiver (lowest (get_or es k e)) (lowest_leads es index slots agrees k e lt)

taken_below : (es : List Entry) (index : IsIndex es) (slots : List (Option Link)) (agrees : Agrees es slots) (s : ℕ) (e : Entry) → s < length slots → (i : ℕ) → i < length (s ∷ map lowest es) → get_or (s ∷ map lowest es) i 0 < length slots
taken_below es index slots agrees s e sl zero lt = sl
taken_below es index slots agrees s e sl (suc i) lt =
    let il : i < length es = grind (arith, common_steps, lt, length-map es lowest) in
    grind (arith, lowest_at es i 0 e il, lowest_below es index slots agrees i e il)

taken_differ : (es : List Entry) (index : IsIndex es) (slots : List (Option Link)) (agrees : Agrees es slots) (s : ℕ) (e : Entry) → link_at slots s ≡ None → (i j d : ℕ) → i < j → j < length (s ∷ map lowest es) → eqb (get_or (s ∷ map lowest es) i d) (get_or (s ∷ map lowest es) j d) ≡ false
taken_differ es index slots agrees s e empty i zero d ij jl = absurd (omega arith)
taken_differ es index slots agrees s e empty zero (suc j) d ij jl =
    let jb : j < length es = grind (arith, common_steps, jl, length-map es lowest) in
    grind (arith, lowest_at es j d e jb, lowest_full es index slots agrees s j e jb empty)
taken_differ es index slots agrees s e empty (suc i) (suc j) d ij jl =
    let jb : j < length es = grind (arith, common_steps, jl, length-map es lowest) in
    let ib : i < length es = grind (arith, common_steps, jl, ij, length-map es lowest) in
    grind (arith, lowest_at es i d e ib, lowest_at es j d e jb, lowest_differ es index slots agrees i j e (grind (arith, ij)) jb)

pub room : (es : List Entry) (index : IsIndex es) (slots : List (Option Link)) (agrees : Agrees es slots) (s : ℕ) → s < length slots → link_at slots s ≡ None → length es < length slots
room es index slots agrees s sl empty =
    let n : length (s ∷ map lowest es) ≤ length slots = few (s ∷ map lowest es) (length slots) (taken_below es index slots agrees s none sl) (taken_differ es index slots agrees s none empty) in
    grind (arith, common_steps, n, length-map es lowest)
