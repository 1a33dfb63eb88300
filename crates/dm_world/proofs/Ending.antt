-- What is left of a list from a place on, bytes up to the last that isn't 0, and the first machine that says something.
use Rattle.dm_world.proofs.Names.{◌≡◌, ℕ, zero, suc, ◌+◌, ◌<◌, ◌≤◌, Bool, true, false, ◌==◌, if◌then◌else◌, List, [], ◌∷◌, ◌++◌, length, take, drop, get_or, refl, sym, ap, subst, ◌∙◌, inl, inr, arith, append-nil, append_assoc, drop-cons}
use Rattle.dm_world.proofs.Names.{take-suc, slice_get, All, Option, None, Some, eqb_tells, nat_tests, get_or_from_slice_get, slice_get-get_or, slice_get_within, Message, MsgId, Named, IsLawfulNamed, EndLine, or, before_zeros, trimmed, Link}
use Rattle.dm_world.proofs.Names.{Pid, SaysSome, WorldState, first_says, home_with, homes_with, joined_below, lines_in, link_at, link_lines, name_lines, names_of, slot_line}
use Rattle.dm_world.proofs.Names.{Boot, Err, Ok, Result, option_map, option_map_or, ◌^◌}
use Rattle.std.specs.Option.{IfSome}
use Rattle.std.specs.Prelude.{IfOk}
use Rattle.dm_memory.specs.declared.NoMemory.{NoMemory}
use Rattle.dm_procman.specs.Managing.{Managing}
use Rattle.dm_resident.specs.Lawful.{IsLawfulResident}
use Rattle.dm_process.specs.declared.process.Process.{Process}
use Rattle.dm_resident.specs.Residents.{manager_of, process_of, queue_of}
use Rattle.dm_resident.specs.declared.Resident.{Resident}
use Rattle.dm_resident.specs.declared.Resident.TheVariants as resident
use Rattle.dm_migrate.specs.Arrival.{Arrival, is_process_coming, restarted}
use Rattle.dm_migrate.specs.declared.arriving.Wanted.TheVariants.{Nothing}
use Rattle.dm_line.specs.Ends.{is_at_home}
use Rattle.dm_line.specs.declared.end_line.Standing.{Standing}
use Rattle.dm_world.specs.Ends.{HasPlainEnd, come_lines, come_whole, lists_of, resident_lines, sent_lines, server_come}
use Rattle.dm_line.specs.declared.end_line.EndLine.TheVariants as end
use Rattle.dm_line.specs.declared.end_line.Standing.TheVariants as standing

drop_at : {X : Type 0} (xs : List X) (i : ℕ) (x : X) → slice_get xs i ≡ Some x → drop i xs ≡ x ∷ drop (i + 1) xs
drop_at xs i x e =
    let next : suc i ≡ i + 1 = omega arith in
    drop-cons xs i x (slice_get_within xs i x e) ∙ ap (λ y. y ∷ drop (suc i) xs) (get_or_from_slice_get xs i x x e) ∙ ap (λ k. x ∷ drop k xs) next

-- there is something at each place within
pub within_some : {X : Type 0} (xs : List X) (i : ℕ) → i < length xs → slice_get xs i ≡ None → ⊥
within_some [] i h none = absurd (omega arith)
within_some (x ∷ xs) i h none = let there : slice_get (x ∷ xs) i ≡ Some (get_or (x ∷ xs) i x) = slice_get-get_or (x ∷ xs) i x h in cc

-- one more message is named
pub names_more : (ms : List Message) (i : ℕ) (m : Message) (is whole : List MsgId) → slice_get ms i ≡ Some m → is ++ names_of (drop i ms) ≡ whole → (is ++ m.id ∷ []) ++ names_of (drop (i + 1) ms) ≡ whole
names_more ms i m is whole e h = append_assoc is (m.id ∷ []) (names_of (drop (i + 1) ms)) ∙ ap (λ l. is ++ names_of l) (sym (drop_at ms i m e)) ∙ h

-- one more name is said
pub name_more : (ks : List Named) (i : ℕ) (k : Named) (ls whole : List EndLine) → slice_get ks i ≡ Some k → ls ++ name_lines (drop i ks) ≡ whole
    → (ls ++ end.Name (record { items = k.name }) k.link ∷ []) ++ name_lines (drop (i + 1) ks) ≡ whole
name_more ks i k ls whole e h =
    append_assoc ls (end.Name (record { items = k.name }) k.link ∷ []) (name_lines (drop (i + 1) ks)) ∙ ap (λ l. ls ++ name_lines l) (sym (drop_at ks i k e)) ∙ h

-- a name of a lawful board is short
pub short_name : (ks : List Named) (i : ℕ) (k : Named) → All IsLawfulNamed ks → slice_get ks i ≡ Some k → length k.name ≤ 16
short_name ks i k all e =
    let same : get_or ks i k ≡ k = get_or_from_slice_get ks i k k e in
    let lawful : IsLawfulNamed (get_or ks i k) = all i k (slice_get_within ks i k e) in
    subst (λ (y : Named). length y.name ≤ 16) same (grind (arith, nat_tests, lawful.name))

trimmed_zero : (xs : List ℕ) → trimmed (xs ++ 0 ∷ []) ≡ trimmed xs
trimmed_zero [] = refl
trimmed_zero (x ∷ xs) = ap (before_zeros x) (trimmed_zero xs)

before_some : (y : ℕ) (xs : List ℕ) (x : ℕ) → before_zeros y (xs ++ x ∷ []) ≡ y ∷ xs ++ x ∷ []
before_some y [] x = refl
before_some y (z ∷ xs) x = refl

trimmed_other : (xs : List ℕ) (x : ℕ) → (x == 0) ≡ false → trimmed (xs ++ x ∷ []) ≡ xs ++ x ∷ []
trimmed_other [] x e = ap (λ (b : Bool). if b then [] else x ∷ []) e
trimmed_other (y ∷ xs) x e = ap (before_zeros y) (trimmed_other xs x e) ∙ before_some y xs x

take_more : (bs : List ℕ) (i : ℕ) → i < length bs → take (i + 1) bs ≡ take i bs ++ get_or bs i 0 ∷ []
take_more bs i h = let next : i + 1 ≡ suc i = omega arith in ap (λ k. take k bs) next ∙ take-suc bs i 0 h

-- a zero isn't shown
pub shows_same : (bs : List ℕ) (i e : ℕ) → i < length bs → get_or bs i 0 ≡ 0 → take e bs ≡ trimmed (take i bs) → take e bs ≡ trimmed (take (i + 1) bs)
shows_same bs i e h zero_ is =
    is ∙ sym (trimmed_zero (take i bs)) ∙ ap (λ x. trimmed (take i bs ++ x ∷ [])) (sym zero_) ∙ ap trimmed (sym (take_more bs i h))

-- another byte is, and all before it
pub shows_more : (bs : List ℕ) (i : ℕ) → i < length bs → (get_or bs i 0 == 0) ≡ false → take (i + 1) bs ≡ trimmed (take (i + 1) bs)
shows_more bs i h other =
    take_more bs i h ∙ sym (trimmed_other (take i bs) (get_or bs i 0) other) ∙ ap trimmed (sym (take_more bs i h))

first_stays : (f : ℕ → Option (List EndLine)) (m n : ℕ) (ls : List EndLine) → m < n → first_says f m ≡ None → Some ls ≡ f m → first_says f n ≡ Some ls
first_stays f m zero ls h none some = absurd (omega arith)
first_stays f m (suc n) ls h none some =
    elim (eqb_tells m n) [
      | inl e ↦
          let before : first_says f n ≡ None = ap (first_says f) (sym e.1) ∙ none in
          let here : f n ≡ Some ls = ap f (sym e.1) ∙ sym some in
          ap (λ o. or o (f n)) before ∙ here
      | inr e ↦
          let less : m < n = omega (arith, h, e.1) in
          ap (λ o. or o (f n)) (first_stays f m n ls less none some)
    ]

-- machine m is the first that says something
pub found : (f : ℕ → Option (List EndLine)) (m n : ℕ) (said : Bool) (o : Option (List EndLine)) (old mid new : List EndLine) → first_says f m ≡ None → m < n → o ≡ f m → said ≡ true → mid ≡ old
    → SaysSome said mid new o → new ≡ old ++ lines_in (first_says f n)
found f m n said None old mid new none h is yes_ same says_ = cc
found f m n said (Some ls) old mid new none h is yes_ same says_ =
    says_.1 ∙ ap (λ l. l ++ ls) same ∙ ap (λ o. old ++ lines_in o) (sym (first_stays f m n ls h none is))

-- machine m is the first, and so it is said whether there is one
pub found_some : (f : ℕ → Option (List EndLine)) (m n : ℕ) (said : Bool) (o : Option (List EndLine)) (old mid new : List EndLine) → first_says f m ≡ None → m < n → o ≡ f m → said ≡ true → mid ≡ old
    → SaysSome said mid new o → SaysSome true old new (first_says f n)
found_some f m n said None old mid new none h is yes_ same says_ = cc
found_some f m n said (Some ls) old mid new none h is yes_ same says_ =
    subst (SaysSome true old new) (sym (first_stays f m n ls h none is)) (refl, says_.1 ∙ ap (λ l. l ++ ls) same)

-- what the first of two says, or else the second
pub said_first : (said : Bool) (o q : Option (List EndLine)) (old new : List EndLine) → said ≡ true → SaysSome said old new o → new ≡ old ++ lines_in (or o q)
said_first said None q old new is h = let no_ = h.0 in cc
said_first said (Some ls) q old new is h = h.1

pub said_second : (said also : Bool) (o q : Option (List EndLine)) (old mid new : List EndLine) → said ≡ false → SaysSome said old mid o → SaysSome also mid new q → new ≡ old ++ lines_in (or o q)
said_second said also None None old mid new is h g = g.1 ∙ h.1 ∙ sym (append-nil old)
said_second said also None (Some ls) old mid new is h g = g.1 ∙ ap (λ l. l ++ ls) h.1
said_second said also (Some ls) q old mid new is h g = let yes_ = h.0 in cc

-- what one more says comes behind what was said so far
pub said_more : (f : ℕ → List EndLine) (n : ℕ) (old mid new : List EndLine) → mid ≡ old ++ joined_below f n → new ≡ mid ++ f n → new ≡ old ++ joined_below f (n + 1)
said_more f n old mid new h g =
    let next : suc n ≡ n + 1 = omega arith in
    g ∙ ap (λ ls. ls ++ f n) h ∙ append_assoc old (joined_below f n) (f n) ∙ ap (λ k. old ++ joined_below f k) next

-- and what is said of one more home
pub home_more : (w : WorldState) (f : Pid → List EndLine) (home : ℕ) (old mid new : List EndLine) → mid ≡ old ++ homes_with w f home
    → new ≡ mid ++ home_with f home (w.nodes home).kernel.made → new ≡ old ++ homes_with w f (home + 1)
home_more w f home old mid new h g =
    let next : suc home ≡ home + 1 = omega arith in
    g ∙ ap (λ ls. ls ++ home_with f home (w.nodes home).kernel.made) h ∙ append_assoc old (homes_with w f home) (home_with f home (w.nodes home).kernel.made)
    ∙ ap (λ k. old ++ homes_with w f k) next

-- all of them have said theirs
pub all_said : (f : ℕ → List EndLine) (n all : ℕ) (old new : List EndLine) → n ≡ all → new ≡ old ++ joined_below f n → new ≡ old ++ joined_below f all
all_said f n all old new end h = h ∙ ap (λ k. old ++ joined_below f k) end

pub all_homes_said : (w : WorldState) (f : Pid → List EndLine) (n all : ℕ) (old new : List EndLine) → n ≡ all → new ≡ old ++ homes_with w f n → new ≡ old ++ homes_with w f all
all_homes_said w f n all old new end h = h ∙ ap (λ k. old ++ homes_with w f k) end

-- some lines, one behind the other
pub two_said : (a b old one new : List EndLine) → one ≡ old ++ a → new ≡ one ++ b → new ≡ old ++ (a ++ b)
two_said a b old one new e f = f ∙ ap (λ ls. ls ++ b) e ∙ append_assoc old a b

pub three_said : (a b c old one two new : List EndLine) → one ≡ old ++ a → two ≡ one ++ b → new ≡ two ++ c → new ≡ old ++ ((a ++ b) ++ c)
three_said a b c old one two new e f g = two_said (a ++ b) c old two new (two_said a b old one two e f) g

pub four_said : (a b c d old one two three new : List EndLine) → one ≡ old ++ a → two ≡ one ++ b → three ≡ two ++ c → new ≡ three ++ d → new ≡ old ++ (((a ++ b) ++ c) ++ d)
four_said a b c d old one two three new e f g h = two_said ((a ++ b) ++ c) d old three new (three_said a b c old one two three e f g) h

-- all lines, part by part
pub all_lines : (x z : EndLine) (a b c d e f l0 l1 l2 l3 l4 l5 l6 l7 l8 : List EndLine) → l0 ≡ [] → l1 ≡ l0 ++ x ∷ [] → l2 ≡ l1 ++ a → l3 ≡ l2 ++ b → l4 ≡ l3 ++ c → l5 ≡ l4 ++ d → l6 ≡ l5 ++ e → l7 ≡ l6 ++ f → l8 ≡ l7 ++ z ∷ []
    → l8 ≡ x ∷ a ++ b ++ c ++ d ++ e ++ f ++ z ∷ []
all_lines x z a b c d e f l0 l1 l2 l3 l4 l5 l6 l7 l8 e0 e1 e2 e3 e4 e5 e6 e7 e8 =
    let p2 : l2 ≡ x ∷ a = e2 ∙ ap (λ l. l ++ a) (e1 ∙ ap (λ l. l ++ x ∷ []) e0) in
    let p3 : l3 ≡ x ∷ a ++ b = e3 ∙ ap (λ l. l ++ b) p2 in
    let p4 : l4 ≡ x ∷ a ++ b ++ c = e4 ∙ ap (λ l. l ++ c) p3 in
    let p5 : l5 ≡ x ∷ a ++ b ++ c ++ d = e5 ∙ ap (λ l. l ++ d) p4 in
    let p6 : l6 ≡ x ∷ a ++ b ++ c ++ d ++ e = e6 ∙ ap (λ l. l ++ e) p5 in
    let p7 : l7 ≡ x ∷ a ++ b ++ c ++ d ++ e ++ f = e7 ∙ ap (λ l. l ++ f) p6 in
    e8 ∙ ap (λ l. l ++ z ∷ []) p7

-- what waits for a process waits for what it is of
pub queue_is : (r : Resident) → queue_of r ≡ option_map_or (λ (x : Process). x.queue) (process_of r) []
queue_is (resident.Process x) = refl
queue_is (resident.Board b) = refl
queue_is (resident.Manager g) = refl

-- how many messages a server has sent, and where it is
pub server_at_home : (m : ℕ) (p : Pid) (s : Standing) (sent : ℕ) (old new : List EndLine) → is_at_home m s ≡ true → new ≡ old ++ end.Server p sent ∷ [] → new ≡ old ++ sent_lines m p s sent
server_at_home m p s sent old new home e = e ∙ ap (λ (t : Bool). old ++ end.Server p sent ∷ (if t then [] else end.Place p m s ∷ [])) (sym home)

pub server_elsewhere : (m : ℕ) (p : Pid) (s : Standing) (sent : ℕ) (old one new : List EndLine) → is_at_home m s ≡ false → one ≡ old ++ end.Server p sent ∷ [] → new ≡ one ++ end.Place p m s ∷ [] → new ≡ old ++ sent_lines m p s sent
server_elsewhere m p s sent old one new away e f =
    two_said (end.Server p sent ∷ []) (end.Place p m s ∷ []) old one new e f ∙ ap (λ (t : Bool). old ++ end.Server p sent ∷ (if t then [] else end.Place p m s ∷ [])) (sym away)

-- what has come, and is said
pub come_said : (b : Boot) (a : Arrival) (m : ℕ) (p : Pid) (o : Option Resident) (old new : List EndLine) → a.wanted ≡ Nothing → restarted (length b.machines) (length b.images) a ≡ o → SaysSome true old new (come_lines m p o) → SaysSome true old new (come_lines m p (come_whole b a a.wanted))
come_said b a m p o old new whole is said =
    let come : come_whole b a a.wanted ≡ o = ap (come_whole b a) whole ∙ is in
    subst (λ (q : Option Resident). SaysSome true old new (come_lines m p q)) (sym come) said

pub arrived_said : (m : ℕ) (p : Pid) (r : Resident) (o : Option Resident) (old new : List EndLine) → o ≡ Some r → new ≡ old ++ resident_lines m p standing.Arriving r → SaysSome true old new (come_lines m p o)
arrived_said m p r o old new is said = subst (λ (q : Option Resident). SaysSome true old new (come_lines m p q)) (sym is) (refl, said)

-- what a server keeps that has come
pub kept_said : (b : Boot) (a : Arrival) (r : Resident) (old new : List EndLine) → a.wanted ≡ Nothing → is_process_coming a ≡ false → restarted (length b.machines) (length b.images) a ≡ Some r → new ≡ old ++ lists_of r
    → SaysSome true old new (option_map lists_of (server_come b a a.wanted))
kept_said b a r old new whole server is said =
    let come : server_come b a a.wanted ≡ Some r = ap (λ (t : Bool). if t then None else come_whole b a a.wanted) server ∙ (ap (come_whole b a) whole ∙ is) in
    subst (λ (q : Option Resident). SaysSome true old new (option_map lists_of q)) (sym come) (refl, said)

pub none_kept_of : (b : Boot) (a : Arrival) (old : List EndLine) → is_process_coming a ≡ true → SaysSome false old old (option_map lists_of (server_come b a a.wanted))
none_kept_of b a old process =
    let none : server_come b a a.wanted ≡ None = ap (λ (t : Bool). if t then None else come_whole b a a.wanted) process in
    subst (λ (q : Option Resident). SaysSome false old old (option_map lists_of q)) (sym none) (refl, refl)

no_server : {A : Type 0} (t : Bool) (o : Option A) → o ≡ None → (if t then None else o) ≡ None
no_server true o e = refl
no_server false o e = e

pub not_come : (b : Boot) (a : Arrival) (old : List EndLine) → come_whole b a a.wanted ≡ None → SaysSome false old old (option_map lists_of (server_come b a a.wanted))
not_come b a old none =
    subst (λ (q : Option Resident). SaysSome false old old (option_map lists_of q)) (sym (no_server (is_process_coming a) (come_whole b a a.wanted) none)) (refl, refl)

-- what is read is lawful, and each child of a manager has a number
pub plain_end : (r : Resident) → IsLawfulResident r → IfSome (manager_of r) (λ (g : Managing). length g.children < 2 ^ 32) → HasPlainEnd r
plain_end (resident.Process x) lawful numbered = tt
plain_end (resident.Board b) lawful numbered = lawful
plain_end (resident.Manager g) lawful numbered = numbered

pub plain_ends : (r : Result Resident NoMemory) → IfOk r IsLawfulResident → IfOk r (λ x. IfSome (manager_of x) (λ (g : Managing). length g.children < 2 ^ 32)) → IfOk r HasPlainEnd
plain_ends (Ok x) lawful numbered = plain_end x lawful numbered
plain_ends (Err e) lawful numbered = tt

-- one more slot is said
pub slot_more : (p : Pid) (table : List (Option Link)) (k : ℕ) (o : Option Link) (ls whole : List EndLine) → k < length table → link_at table k ≡ o → ls ++ link_lines p k (drop k table) ≡ whole
    → (ls ++ slot_line p k o) ++ link_lines p (k + 1) (drop (k + 1) table) ≡ whole
slot_more p table k o ls whole within e h =
    let next : suc k ≡ k + 1 = omega arith in
    let here : drop k table ≡ o ∷ drop (k + 1) table = drop-cons table k None within ∙ ap (λ x. x ∷ drop (suc k) table) e ∙ ap (λ n. o ∷ drop n table) next in
    append_assoc ls (slot_line p k o) (link_lines p (k + 1) (drop (k + 1) table)) ∙ ap (λ t. ls ++ link_lines p k t) (sym here) ∙ h

-- machine m says nothing either
pub still_none : (f : ℕ → Option (List EndLine)) (m : ℕ) (said : Bool) (o : Option (List EndLine)) (old mid new : List EndLine) → first_says f m ≡ None → o ≡ f m → said ≡ false → mid ≡ old
    → SaysSome said mid new o → (first_says f (m + 1) ≡ None) × (new ≡ old)
still_none f m said None old mid new none is no_ same says_ =
    let next : m + 1 ≡ suc m = omega arith in
    (ap (first_says f) next ∙ ap (λ o. or o (f m)) none ∙ sym is, says_.1 ∙ same)
still_none f m said (Some ls) old mid new none is no_ same says_ = let yes_ = says_.0 in cc

-- none of them says anything
pub none_said : (f : ℕ → Option (List EndLine)) (m n : ℕ) (old new : List EndLine) → first_says f m ≡ None → m ≡ n → new ≡ old → new ≡ old ++ lines_in (first_says f n)
none_said f m n old new none end_ same =
    let all : first_says f n ≡ None = ap (first_says f) (sym end_) ∙ none in
    same ∙ sym (append-nil old) ∙ ap (λ o. old ++ lines_in o) (sym all)
