-- The numbers of a drill that words ask for are in their ranges.
use Rattle.dm_words.proofs.Names.{◌≡◌, ◌≤◌, ℕ, Bool, true, false, List, [], ◌∷◌, refl, arith, nat_tests, Some, None, ⊤, nat_le, ◌&&◌, if◌then◌else◌, option_and_then, codes, option_map_or, bytes_eq, Row, first_of, is_empty, subcommand_of}
use Rattle.dm_words.proofs.Names.{read_u32, read_u8, chart_request, charting, group_in, takes_chart, check_request, checking, count_request, IsWithin, OwnIsWithin, drawn_by, drill_by, drill_request, if_within, lines_asked, machines_asked}
use Rattle.dm_words.proofs.Names.{own_by, run_by, schedule_of, seed_of, shows_by, trace_of, Shows, explaining, both_files, ExploreIsWithin, acks_of, depth_of, exploration_of, explore_request, exploring, few_of, listed, looking_for, most_in}
use Rattle.dm_words.proofs.Names.{most_of, with_names, with_numbers, written_move, stuck_name, Exploration, WrittenMove, WrittenName, Request, Chart, Check, Count, Drill, Explain, Explore, Judge, OwnDrill, Run, Look, CheckLabels}
use Rattle.dm_words.proofs.Names.{groups_of, look_request, looking, names_of, run_request, Command, commands, demosmp, request_at, request_in, request_of}
use Rattle.std.specs.Prelude.{Option}
use Rattle.clap.specs.Faults.{fault_of}

-- what is asked for can be done: a drill is of numbers in their ranges
abbrev pub Fits : Option Request → Type 0
Fits None = ⊤
Fits (Some (Run boot schedule)) = ⊤
Fits (Some (Check boot trace)) = ⊤
Fits (Some (CheckLabels boot labels)) = ⊤
Fits (Some (Chart boot schedule first last)) = ⊤
Fits (Some (Explain boot schedule)) = ⊤
Fits (Some (Judge boot trace)) = ⊤
Fits (Some (Count boot schedule)) = ⊤
Fits (Some (Look boot schedule groups names)) = ⊤
Fits (Some (Explore boot line exploration)) = ExploreIsWithin exploration
Fits (Some (Drill drill)) = IsWithin drill
Fits (Some (OwnDrill boot drill)) = OwnIsWithin drill

-- a number, if there is one, is one of these
abbrev IsBetween : ℕ → ℕ → Option ℕ → Type 0
IsBetween least most None = ⊤
IsBetween least most (Some n) = (least ≤ n) × (n ≤ most)

below : (a b : ℕ) → nat_le a b ≡ true → a ≤ b
below a b e = grind (arith, nat_tests)

tested : (least most n : ℕ) (a b : Bool) → nat_le least n ≡ a → nat_le n most ≡ b → IsBetween least most (if a && b then Some n else None)
tested least most n true true e f = (below least n e, below n most f)
tested least most n true false e f = tt
tested least most n false b e f = tt

between : (least most : ℕ) (o : Option ℕ) → IsBetween least most (option_and_then (if_within least most) o)
between least most None = tt
between least most (Some n) = tested least most n (nat_le least n) (nat_le n most) refl refl

named : (word : Option (List ℕ)) (read : List ℕ → Option ℕ) (least most : ℕ) → IsBetween least most (option_and_then (λ w. option_and_then (if_within least most) (read w)) word)
named None read least most = tt
named (Some w) read least most = between least most (read w)

drawn_fits : (trace : Bool) (seed machines lines : Option ℕ) → IsBetween 2 16 machines → IsBetween 1 10000 lines → Fits (drawn_by trace seed machines lines)
drawn_fits trace (Some seed) (Some machines) (Some lines) h k = record { least = h.0; most = h.1; few = k.1 }
drawn_fits trace (Some seed) (Some machines) None h k = tt
drawn_fits trace (Some seed) None lines h k = tt
drawn_fits trace None machines lines h k = tt

run_fits_by : (schedule trace : Bool) (seed machines lines : Option ℕ) → IsBetween 2 16 machines → IsBetween 1 10000 lines → Fits (run_by schedule trace seed machines lines)
run_fits_by true trace seed machines lines h k = tt
run_fits_by false trace seed machines lines h k = drawn_fits trace seed machines lines h k

own_fits_by : (boot : List ℕ) (shown : Option Shows) (seed lines : Option ℕ) → IsBetween 1 10000 lines → Fits (own_by boot shown seed lines)
own_fits_by boot (Some shown) (Some seed) (Some lines) k = k.1
own_fits_by boot (Some shown) (Some seed) None k = tt
own_fits_by boot (Some shown) None lines k = tt
own_fits_by boot None seed lines k = tt

both_fit : (asked : List ℕ → List ℕ → Request) (one other : Option (List ℕ)) → ((x y : List ℕ) → Fits (Some (asked x y))) → Fits (both_files asked one other)
both_fit asked (Some one) (Some other) h = h one other
both_fit asked (Some one) None h = tt
both_fit asked None other h = tt

explain_fits : (boot schedule trace : Option (List ℕ)) → Fits (explaining boot schedule trace)
explain_fits None schedule trace = tt
explain_fits (Some boot) schedule None = tt
explain_fits (Some boot) None (Some trace) = tt
explain_fits (Some boot) (Some schedule) (Some trace) = tt

checking_fits : (boot trace labels : Option (List ℕ)) → Fits (checking boot trace labels)
checking_fits None trace labels = tt
checking_fits (Some boot) (Some trace) None = tt
checking_fits (Some boot) None (Some labels) = tt
checking_fits (Some boot) (Some trace) (Some labels) = tt
checking_fits (Some boot) None None = tt

abbrev AllFit : List Command → Type 0
AllFit [] = ⊤
AllFit (c ∷ cs) = ((rows : List Row) → Fits (c.request rows)) × AllFit cs

run_fits : (rows : List Row) → Fits (run_request rows)
run_fits rows = both_fit (λ boot schedule. Run boot schedule) (first_of (codes "boot") rows) (first_of (codes "schedule") rows) (λ x y. tt)

check_fits : (rows : List Row) → Fits (check_request rows)
check_fits rows = checking_fits (first_of (codes "boot") rows) (first_of (codes "trace") rows) (first_of (codes "labels") rows)

charting_fits : (boot schedule : Option (List ℕ)) (taken : Bool) (first last : Option ℕ) → Fits (charting boot schedule taken first last)
charting_fits (Some boot) (Some schedule) true first last = tt
charting_fits (Some boot) (Some schedule) false first last = tt
charting_fits (Some boot) None taken first last = tt
charting_fits None schedule taken first last = tt

chart_fits : (rows : List Row) → Fits (chart_request rows)
chart_fits rows =
    charting_fits (first_of (codes "boot") rows) (first_of (codes "schedule") rows) (takes_chart rows) (option_and_then group_in (first_of (codes "from") rows)) (option_and_then group_in (first_of (codes "to") rows))

count_fits : (rows : List Row) → Fits (count_request rows)
count_fits rows = both_fit (λ boot schedule. Count boot schedule) (first_of (codes "boot") rows) (first_of (codes "schedule") rows) (λ x y. tt)

looking_fits : (boot schedule : Option (List ℕ)) (groups : Option ℕ) (names : Bool) → Fits (looking boot schedule groups names)
looking_fits (Some boot) (Some schedule) (Some groups) names = tt
looking_fits (Some boot) (Some schedule) None names = tt
looking_fits (Some boot) None groups names = tt
looking_fits None schedule groups names = tt

look_fits : (rows : List Row) → Fits (look_request rows)
look_fits rows = looking_fits (first_of (codes "boot") rows) (first_of (codes "schedule") rows) (groups_of rows) (names_of rows)

-- what is explored has its numbers in their ranges
abbrev ExploresWithin : Option Exploration → Type 0
ExploresWithin None = ⊤
ExploresWithin (Some e) = ExploreIsWithin e

abbrev HasLeast : Option ℕ → Type 0
HasLeast None = ⊤
HasLeast (Some n) = 1 ≤ n

least_in : (n : ℕ) (b : Bool) → nat_le 1 n ≡ b → HasLeast (if b then Some n else None)
least_in n true e = below 1 n e
least_in n false e = tt

least_read : (o : Option ℕ) → HasLeast (option_and_then (λ n. if nat_le 1 n then Some n else None) o)
least_read None = tt
least_read (Some n) = least_in n (nat_le 1 n) refl

least_most : (word : Option (List ℕ)) → HasLeast (option_map_or most_in word (Some 1000000))
least_most None = below 1 1000000 refl
least_most (Some w) = least_read (read_u32 w)

numbers_within : (depth most ticks repeats : Option ℕ) (acks : Bool) → IsBetween 1 64 depth → HasLeast most → ExploresWithin (with_numbers depth most ticks repeats acks)
numbers_within (Some d) (Some m) (Some t) (Some r) acks h k = record { least = h.0; most = h.1; some = k }
numbers_within (Some d) (Some m) (Some t) None acks h k = tt
numbers_within (Some d) (Some m) None repeats acks h k = tt
numbers_within (Some d) None ticks repeats acks h k = tt
numbers_within None most ticks repeats acks h k = tt

names_within : (e : Option Exploration) (stuck : Option (List (Option WrittenName))) (moves calls : Option (List (Option WrittenMove))) → ExploresWithin e → ExploresWithin (with_names e stuck moves calls)
names_within (Some e) (Some x) (Some y) (Some z) h = record { least = h.least; most = h.most; some = h.some }
names_within (Some e) (Some x) (Some y) None h = tt
names_within (Some e) (Some x) None calls h = tt
names_within (Some e) None moves calls h = tt
names_within None stuck moves calls h = tt

exploring_fits : (boot line : Option (List ℕ)) (e : Option Exploration) → ExploresWithin e → Fits (exploring boot line e)
exploring_fits (Some boot) line (Some e) h = if_there (looking_for line e)
  where
    if_there : (b : Bool) → Fits (if b then Some (Explore boot line e) else None)
    if_there true = h
    if_there false = tt
exploring_fits (Some boot) line None h = tt
exploring_fits None line e h = tt

explore_fits : (rows : List Row) → Fits (explore_request rows)
explore_fits rows =
    exploring_fits (first_of (codes "boot") rows) (first_of (codes "line") rows) (exploration_of rows)
    (names_within (with_numbers (depth_of rows) (most_of rows) (few_of (codes "ticks") rows) (few_of (codes "repeats") rows) (acks_of rows))
    (listed stuck_name (codes "stuck") rows) (listed written_move (codes "move") rows) (listed written_move (codes "calloff") rows)
    (numbers_within (depth_of rows) (most_of rows) (few_of (codes "ticks") rows) (few_of (codes "repeats") rows) (acks_of rows)
    (named (first_of (codes "depth") rows) read_u8 1 64) (least_most (first_of (codes "most") rows))))

drill_fits_by : (boot machines : Option (List ℕ)) (rows : List Row) → Fits (drill_by boot machines rows)
drill_fits_by None machines rows =
    run_fits_by (schedule_of rows) (trace_of rows) (seed_of rows) (machines_asked rows) (lines_asked rows) (named (first_of (codes "machines") rows) read_u8 2 16) (named (first_of (codes "lines") rows) read_u32 1 10000)
drill_fits_by (Some boot) None rows = own_fits_by boot (shows_by (trace_of rows) (schedule_of rows)) (seed_of rows) (lines_asked rows) (named (first_of (codes "lines") rows) read_u32 1 10000)
drill_fits_by (Some boot) (Some machines) rows = tt

drill_fits : (rows : List Row) → Fits (drill_request rows)
drill_fits rows = drill_fits_by (first_of (codes "boot") rows) (first_of (codes "machines") rows) rows

-- a row a command
commands_fit : AllFit commands
commands_fit = (run_fits, (check_fits, (chart_fits, (λ rows. explain_fits (first_of (codes "boot") rows) (first_of (codes "schedule") rows) (first_of (codes "trace") rows), (count_fits, (look_fits, (explore_fits, (drill_fits, tt))))))))

if_fits : (b : Bool) (x y : Option Request) → Fits x → Fits y → Fits (if b then x else y)
if_fits true x y h k = h
if_fits false x y h k = k

in_fits : (cs : List Command) (name : List ℕ) (rows : List Row) → AllFit cs → Fits (request_in cs name rows)
in_fits [] name rows all = tt
in_fits (c ∷ cs) name rows all = if_fits (bytes_eq name c.shape.name) (c.request rows) (request_in cs name rows) (all.0 rows) (in_fits cs name rows all.1)

at_fits : (o : Option (List ℕ × List Row)) → Fits (option_and_then request_at o)
at_fits None = tt
at_fits (Some found) = in_fits commands found.0 found.1 commands_fit

pub asked_fits : (words : List (List ℕ)) → Fits (request_of words)
asked_fits words = if_fits (is_empty (fault_of demosmp words)) (option_and_then request_at (subcommand_of demosmp words)) None (at_fits (subcommand_of demosmp words)) tt
