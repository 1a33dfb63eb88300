-- What is written of directives is read as them.
use Rattle.dm_drill.proofs.Names.{◌≡◌, ◌≤◌, ◌<◌, ◌+◌, ◌*◌, ◌^◌, ℕ, suc, Bool, true, false, List, [], ◌∷◌, ◌++◌, length, take, drop, refl, ap, sym, ◌∙◌, arith, append-nil, append_assoc, All, Option, Some, Step, Directive, LineFits}
use Rattle.dm_drill.proofs.Names.{directive_text, schedule_text}
use Rattle.dm_drill.specs.Schedules.{CanStand, SchedulesAreRead}
use Rattle.std.proofs.Common.{cond, ◌&&◌, ◌||◌, ap₂}
use Rattle.std.proofs.Math.Seq.{drop-append-add}
use Rattle.std.proofs.lemmas.Bool.{le-leb, lt-ltb, ltb-true, ne_eqb}
use Rattle.std.proofs.lemmas.Bool.Decides.{nat_tests}
use Rattle.std.proofs.lemmas.Fmt.{decimal_nonempty, length-decimal-le}
use Rattle.std.proofs.lemmas.List.Elements.{All-head, All-tail}
use Rattle.std.specs.Fmt.{decimal}
use Rattle.std.specs.List.{position, position_or_len}
use Rattle.std.specs.Option.{option_and_then}
use Rattle.std.specs.Prelude.{◌==◌, nat_lt, nat_le, not, if◌then◌else◌, codes, filter, None, Result, Ok, Err}
use Rattle.dm_text.proofs.Names.{length-append, take-append_seam}
use Rattle.dm_text.proofs.LabelsBack.{head_words_are}
use Rattle.dm_text.proofs.Numbers.{read-decimal}
use Rattle.dm_text.proofs.Pieces.{AreWords, above, above-append, above-le}
use Rattle.dm_text.proofs.WordsBack.{below_u32, word_decimal}
use Rattle.dm_text.specs.Text.{spaced, spelled_line}
use Rattle.dm_text.specs.Words.{pid_word}
use Rattle.dm_text.specs.Written.{line_words}
use Rattle.dm_line.specs.declared.line.Line.TheVariants as line
use Rattle.dm_link.specs.Names.{pid_of}
use Rattle.dm_link.specs.declared.Pid.{Pid}
use Rattle.dm_reading.specs.Cuts.{cut, onto_first}
unfoldable use Rattle.dm_reading.specs.Lines.{lines}
use Rattle.dm_reading.specs.Numbers.{if_below, is_padded, number_after}
unfoldable use Rattle.dm_reading.specs.Numbers.{read_number}
use Rattle.dm_reading.specs.Words.{is_blank, words}
unfoldable use Rattle.dm_reading.specs.Words.{words_between}
use Rattle.dm_schedule.specs.Keywords.{Machine, Operand, Packet, Process, Rounds, operands}
unfoldable use Rattle.dm_schedule.specs.Keywords.{keyword_of}
use Rattle.dm_schedule.specs.Numbers.{is_point, pid_from_numbers}
unfoldable use Rattle.dm_schedule.specs.Numbers.{number_of_word, process_of}
use Rattle.dm_schedule.specs.Operands.{Value, Values, value_of, values_of, within, ◌>>=◌}
use Rattle.dm_schedule.specs.Schedule.{Accepted, directive_made, line_and_rest}
unfoldable use Rattle.dm_schedule.specs.Schedule.{directive_of, directives_of, line_directive, lines_from}
use Rattle.dm_schedule.specs.declared.Directive.TheVariants as directive
use Rattle.dm_schedule.specs.declared.LineFault.{LineFault}
use Rattle.dm_schedule.specs.declared.LineFault.TheVariants.{OutOfRange, SameMachine}
use Rattle.dm_schedule.specs.declared.Step.TheVariants as step
use Rattle.dm_schedule.specs.declared.keywords.Keyword.{Keyword}
use Rattle.dm_schedule.specs.declared.keywords.Keyword.TheVariants.{CallOff, Deliver, Migrate, Rest, Spin, Tick, Turn}

-- ---- lines and words

when_above : (t f : Bool) → (if t then f else false) ≡ true → (t ≡ true) × (f ≡ true)
when_above true f h = (refl, h)
when_above false f h = absurd (cc)

-- a byte that is greater is another
apart : (s x c : ℕ) → nat_lt s x ≡ true → c ≤ s → (x == c) ≡ false
apart s x c e le = let g : s < x = ltb-true s x e in ne_eqb x c (λ p. absurd (omega arith))

lines_onto : (x : ℕ) (xs : List ℕ) → (x == 10) ≡ false → (x == 13) ≡ false → lines (x ∷ xs) ≡ onto_first x (lines xs)
unfolding lines
lines_onto x xs e f = rw (e, f) refl

-- bytes above the control characters, before a line feed, are a line
lines_next : (t rest : List ℕ) → above 31 t ≡ true → lines (t ++ 10 ∷ rest) ≡ t ∷ lines rest
unfolding lines
lines_next [] rest h = refl
lines_next (x ∷ xs) rest h =
    let k : (nat_lt 31 x ≡ true) × (above 31 xs ≡ true) = when_above (nat_lt 31 x) (above 31 xs) h in
    lines_onto x (xs ++ 10 ∷ rest) (apart 31 x 10 k.0 (omega arith)) (apart 31 x 13 k.0 (omega arith)) ∙ ap (onto_first x) (lines_next xs rest k.1)

cut_onto : (x : ℕ) (xs : List ℕ) → nat_lt 32 x ≡ true → cut is_blank (x ∷ xs) ≡ onto_first x (cut is_blank xs)
cut_onto x xs h = rw (apart 32 x 32 h (omega arith), apart 32 x 9 h (omega arith)) refl

cut_next : (w t : List ℕ) → above 32 w ≡ true → cut is_blank (w ++ 32 ∷ t) ≡ w ∷ cut is_blank t
cut_next [] t h = refl
cut_next (x ∷ xs) t h =
    let k : (nat_lt 32 x ≡ true) × (above 32 xs ≡ true) = when_above (nat_lt 32 x) (above 32 xs) h in
    cut_onto x (xs ++ 32 ∷ t) k.0 ∙ ap (onto_first x) (cut_next xs t k.1)

cut_last : (x : ℕ) (xs : List ℕ) → above 32 (x ∷ xs) ≡ true → cut is_blank (x ∷ xs) ≡ (x ∷ xs) ∷ []
cut_last x [] h = let k : (nat_lt 32 x ≡ true) × (above 32 [] ≡ true) = when_above (nat_lt 32 x) true h in cut_onto x [] k.0
cut_last x (y ∷ ys) h =
    let k : (nat_lt 32 x ≡ true) × (above 32 (y ∷ ys) ≡ true) = when_above (nat_lt 32 x) (above 32 (y ∷ ys)) h in
    cut_onto x (y ∷ ys) k.0 ∙ ap (onto_first x) (cut_last y ys k.1)

-- no word is empty
abbrev AreSome : List (List ℕ) → Type 0
AreSome [] = Unit {0}
AreSome (w ∷ ws) = (0 < length w) × AreSome ws

cut_words : (w : List ℕ) (ws : List (List ℕ)) → AreWords (w ∷ ws) → AreSome (w ∷ ws) → cut is_blank (w ++ spaced ws) ≡ w ∷ ws
cut_words [] ws h k = absurd (omega (arith, k.0))
cut_words (x ∷ xs) [] h k = ap (λ t. cut is_blank t) (append-nil (x ∷ xs)) ∙ cut_last x xs h.0
cut_words (x ∷ xs) (v ∷ vs) h k = cut_next (x ∷ xs) (v ++ spaced vs) h.0 ∙ ap (λ ps. (x ∷ xs) ∷ ps) (cut_words v vs h.1 k.1)

some_word : (w : List ℕ) → 0 < length w → not (length w == 0) ≡ true
some_word w h = grind (arith, nat_tests)

all_kept : (ws : List (List ℕ)) → AreSome ws → filter (λ (word : List ℕ). not (length word == 0)) ws ≡ ws
all_kept [] k = refl
all_kept (w ∷ ws) k = rw (some_word w k.0, all_kept ws k.1) refl

-- words with one space between
abbrev bytes_of : List (List ℕ) → List ℕ
bytes_of [] = []
bytes_of (w ∷ ws) = w ++ spaced ws

words_back : (ws : List (List ℕ)) → AreWords ws → AreSome ws → words (bytes_of ws) ≡ ws
unfolding words_between
words_back [] h k = refl
words_back (w ∷ ws) h k = ap (λ ps. filter (λ (word : List ℕ). not (length word == 0)) ps) (cut_words w ws h k) ∙ all_kept (w ∷ ws) k

spaced_above : (ws : List (List ℕ)) → AreWords ws → above 31 (spaced ws) ≡ true
spaced_above [] h = refl
spaced_above (w ∷ ws) h = above-append 31 w (spaced ws) (above-le 31 32 w (omega arith) h.0) (spaced_above ws h.1)

bytes_above : (ws : List (List ℕ)) → AreWords ws → above 31 (bytes_of ws) ≡ true
bytes_above [] h = refl
bytes_above (w ∷ ws) h = above-append 31 w (spaced ws) (above-le 31 32 w (omega arith) h.0) (spaced_above ws h.1)

spelled_bytes : (ws : List (List ℕ)) → spelled_line ws ≡ bytes_of ws ++ 10 ∷ []
spelled_bytes [] = refl
spelled_bytes (w ∷ ws) = refl

-- ---- numbers and processes

chosen : (t : Bool) (m n : ℕ) → (if t then Some m else None) ≡ Some n → Some m ≡ Some n
chosen true m n e = e
chosen false m n e = absurd (cc)

tested : (t : Bool) (limit n : ℕ) (o : Option ℕ) → (if t then None else if_below limit o) ≡ Some n → o ≡ Some n
tested true limit n o e = absurd (cc)
tested false limit n None e = absurd (cc)
tested false limit n (Some m) e = chosen (nat_lt m limit) m n e

number_said : (n : ℕ) → n < 2 ^ 32 → number_after 0 (decimal n) ≡ Some n
unfolding read_number
number_said n h = tested (length (decimal n) == 0 || is_padded (decimal n)) (2 ^ 32) n (number_after 0 (decimal n)) (read-decimal (2 ^ 32) n h (below_u32 n h))

few_digits : (n : ℕ) → n < 2 ^ 32 → length (decimal n) ≤ 10
few_digits n h = length-decimal-le 10 n (omega arith) (omega (arith, h)) (omega (arith, h))

some_digits : (n : ℕ) → n < 2 ^ 32 → 0 < length (decimal n)
some_digits n h = decimal_nonempty n (omega (arith, h))

number_back : (n : ℕ) → n < 2 ^ 32 → number_of_word (decimal n) ≡ Some n
unfolding number_of_word
number_back n h =
    let a : nat_le 1 (length (decimal n)) ≡ true = le-leb 1 (length (decimal n)) (omega (arith, some_digits n h)) in
    let b : nat_le (length (decimal n)) 10 ≡ true = le-leb (length (decimal n)) 10 (few_digits n h) in
    rw (a, b, number_said n h) refl

digits_first : (a b : List ℕ) → above 46 a ≡ true → position_or_len is_point (a ++ 46 ∷ b) ≡ length a
digits_first [] b h = refl
digits_first (x ∷ xs) b h =
    let k : (nat_lt 46 x ≡ true) × (above 46 xs ≡ true) = when_above (nat_lt 46 x) (above 46 xs) h in
    ap (λ (t : Bool). cond (not t) (1 + position_or_len is_point (xs ++ 46 ∷ b)) 0) (apart 46 x 46 k.0 (omega arith)) ∙ omega (arith, digits_first xs b k.1)

point_at : (a b : List ℕ) → above 46 a ≡ true → position is_point (a ++ 46 ∷ b) ≡ Some (length a)
point_at a b h =
    let below : nat_lt (length a) (length (a ++ 46 ∷ b)) ≡ true = lt-ltb (length a) (length (a ++ 46 ∷ b)) (omega (arith, length-append a (46 ∷ b))) in
    ap (λ (n : ℕ). cond (nat_lt n (length (a ++ 46 ∷ b))) (Some n) None) (digits_first a b h) ∙ ap (λ (t : Bool). cond t (Some (length a)) None) below

named_back : (home num : ℕ) → home < 2 ^ 32 → num < 2 ^ 32 → process_of (decimal home ++ 46 ∷ decimal num) ≡ Some (pid_of home num)
unfolding process_of
named_back home num h k =
    let word : List ℕ = decimal home ++ 46 ∷ decimal num in
    ap (λ (o : Option ℕ). option_and_then (λ i. pid_from_numbers (number_of_word (take i word)) (number_of_word (drop (i + 1) word))) o) (point_at (decimal home) (decimal num) (word_decimal 46 home (omega arith) (below_u32 home h)))
    ∙ ap₂ pid_from_numbers (ap number_of_word (take-append_seam (decimal home) (46 ∷ decimal num)) ∙ number_back home h) (ap number_of_word (drop-append-add (decimal home) (46 ∷ decimal num) 1) ∙ number_back num k)

process_back : (p : Pid) → p.home < 2 ^ 32 → p.num < 2 ^ 32 → process_of (pid_word p) ≡ Some p
process_back p h k = ap process_of (append_assoc (decimal p.home) (46 ∷ []) (decimal p.num)) ∙ named_back p.home p.num h k

-- ---- operands

both_true : (a b : Bool) → a ≡ true → b ≡ true → a && b ≡ true
both_true true b e f = f
both_true false b e f = absurd (cc)

machine_back : (machines m : ℕ) → machines ≤ 16 → m < machines → value_of machines Machine (decimal m) ≡ Ok m
machine_back machines m few h =
    ap (λ (o : Option ℕ). within (λ x. nat_lt x machines) o) (number_back m (omega (arith, few, h)))
    ∙ ap (λ (t : Bool). if t then Ok m else Err OutOfRange) (lt-ltb m machines h)

process_value_back : (machines : ℕ) (p : Pid) → machines ≤ 16 → p.home < machines → p.num < 2 ^ 32 → value_of machines Process (pid_word p) ≡ Ok p
process_value_back machines p few h k =
    ap (λ (o : Option Pid). within (λ (q : Pid). nat_lt q.home machines && nat_le q.num 4294967295) o) (process_back p (omega (arith, few, h)) k)
    ∙ ap (λ (t : Bool). if t then Ok p else Err OutOfRange) (both_true (nat_lt p.home machines) (nat_le p.num 4294967295) (lt-ltb p.home machines h) (le-leb p.num 4294967295 (omega (arith, k))))

packet_back : (machines k : ℕ) → k < 2 ^ 32 → value_of machines Packet (decimal k) ≡ Ok k
packet_back machines k h =
    ap (λ (o : Option ℕ). within (λ x. nat_le x 4294967295) o) (number_back k h)
    ∙ ap (λ (t : Bool). if t then Ok k else Err OutOfRange) (le-leb k 4294967295 (omega (arith, h)))

rounds_back : (machines n : ℕ) → 1 ≤ n → n ≤ 65536 → value_of machines Rounds (decimal n) ≡ Ok n
rounds_back machines n least most =
    ap (λ (o : Option ℕ). within (λ x. nat_le 1 x && nat_le x 65536) o) (number_back n (omega (arith, most)))
    ∙ ap (λ (t : Bool). if t then Ok n else Err OutOfRange) (both_true (nat_le 1 n) (nat_le n 65536) (le-leb 1 n least) (le-leb n 65536 most))

next_value : (machines : ℕ) (o : Operand) (os : List Operand) (w : List ℕ) (ws : List (List ℕ)) (v : Value o) (vs : Values os) → value_of machines o w ≡ Ok v → values_of machines os ws ≡ Ok vs → values_of machines (o ∷ os) (w ∷ ws) ≡ Ok (v, vs)
next_value machines o os w ws v vs e f =
    ap (λ (r : Result (Value o) LineFault). r >>= (λ x. values_of machines os ws >>= (λ xs. Ok (x, xs)))) e
    ∙ ap (λ (r : Result (Values os) LineFault). r >>= (λ xs. Ok (v, xs))) f

-- ---- directives

-- the words of a directive
abbrev words_of : Directive → List (List ℕ)
words_of (directive.One s) = line_words (line.Head s)
words_of directive.Round = codes "round" ∷ []
words_of (directive.Spin n) = codes "spin" ∷ decimal n ∷ []
words_of directive.Settle = codes "settle" ∷ []
words_of (directive.Rest n) = codes "rest" ∷ decimal n ∷ []

spelled : (d : Directive) → directive_text d ≡ spelled_line (words_of d)
spelled (directive.One s) = refl
spelled directive.Round = refl
spelled (directive.Spin n) = ap (λ t. codes "spin " ++ t ++ codes "\n") (sym (append-nil (decimal n)))
spelled directive.Settle = refl
spelled (directive.Rest n) = ap (λ t. codes "rest " ++ t ++ codes "\n") (sym (append-nil (decimal n)))

head_fits : (machines : ℕ) (s : Step) → machines ≤ 16 → CanStand machines (directive.One s) → LineFits (line.Head s)
head_fits machines (step.Turn m) few h = (tt, (omega (arith, few, h), tt))
head_fits machines (step.Tick m) few h = (tt, (omega (arith, few, h), tt))
head_fits machines (step.Deliver a b k) few h = (tt, (omega (arith, few, h.0), (omega (arith, few, h.1), (omega (arith, h.3), tt))))
head_fits machines (step.Migrate p m) few h = (tt, ((omega (arith, few, h.0), h.1), (omega (arith, few, h.2), tt)))
head_fits machines (step.CallOff p m) few h = (tt, ((omega (arith, few, h.0), h.1), (omega (arith, few, h.2), tt)))

are_words : (machines : ℕ) (d : Directive) → machines ≤ 16 → CanStand machines d → AreWords (words_of d)
are_words machines (directive.One s) few h = head_words_are s (head_fits machines s few h)
are_words machines directive.Round few h = (refl, tt)
are_words machines (directive.Spin n) few h = (refl, (word_decimal 32 n (omega arith) (below_u32 n (omega (arith, h.1))), tt))
are_words machines directive.Settle few h = (refl, tt)
are_words machines (directive.Rest n) few h = (refl, (word_decimal 32 n (omega arith) (below_u32 n (omega (arith, h.1))), tt))

few_named : (p : Pid) → p.home < 2 ^ 32 → p.num < 2 ^ 32 → (0 < length (pid_word p)) × (length (pid_word p) ≤ 21)
few_named p h k =
    let a : length (pid_word p) ≡ length (decimal p.home ++ codes ".") + length (decimal p.num) = length-append (decimal p.home ++ codes ".") (decimal p.num) in
    let b : length (decimal p.home ++ codes ".") ≡ length (decimal p.home) + 1 = length-append (decimal p.home) (codes ".") in
    (omega (arith, a, b), omega (arith, a, b, few_digits p.home h, few_digits p.num k))

digits_of : (machines m : ℕ) → machines ≤ 16 → m < machines → 0 < length (decimal m)
digits_of machines m few h = some_digits m (omega (arith, few, h))

are_some : (machines : ℕ) (d : Directive) → machines ≤ 16 → CanStand machines d → AreSome (words_of d)
are_some machines (directive.One (step.Turn m)) few h = (omega arith, (digits_of machines m few h, tt))
are_some machines (directive.One (step.Tick m)) few h = (omega arith, (digits_of machines m few h, tt))
are_some machines (directive.One (step.Deliver a b k)) few h = (omega arith, (digits_of machines a few h.0, (digits_of machines b few h.1, (some_digits k h.3, tt))))
are_some machines (directive.One (step.Migrate p m)) few h = (omega arith, ((few_named p (omega (arith, few, h.0)) h.1).0, (digits_of machines m few h.2, tt)))
are_some machines (directive.One (step.CallOff p m)) few h = (omega arith, ((few_named p (omega (arith, few, h.0)) h.1).0, (digits_of machines m few h.2, tt)))
are_some machines directive.Round few h = (omega arith, tt)
are_some machines (directive.Spin n) few h = (omega arith, (some_digits n (omega (arith, h.1)), tt))
are_some machines directive.Settle few h = (omega arith, tt)
are_some machines (directive.Rest n) few h = (omega arith, (some_digits n (omega (arith, h.1)), tt))

-- what a line comes to whose operands are read
abbrev and_made : (k : Keyword) → Result (Values (operands k)) LineFault → Result (Option Directive) LineFault
and_made k r = (r >>= directive_made k) >>= λ d. Ok (Some d)

moved_values : (machines : ℕ) (p : Pid) (m : ℕ) → machines ≤ 16 → p.home < machines → p.num < 2 ^ 32 → m < machines → values_of machines (Process ∷ Machine ∷ []) (pid_word p ∷ decimal m ∷ []) ≡ Ok (p, (m, tt))
moved_values machines p m few h k at =
    next_value machines Process (Machine ∷ []) (pid_word p) (decimal m ∷ []) p (m, tt) (process_value_back machines p few h k) (next_value machines Machine [] (decimal m) [] m tt (machine_back machines m few at) refl)

read_one : (machines : ℕ) (d : Directive) → machines ≤ 16 → CanStand machines d → line_directive machines (words_of d) ≡ Ok (Some d)
unfolding line_directive directive_of keyword_of
read_one machines (directive.One (step.Turn m)) few h = ap (and_made Turn) (next_value machines Machine [] (decimal m) [] m tt (machine_back machines m few h) refl)
read_one machines (directive.One (step.Tick m)) few h = ap (and_made Tick) (next_value machines Machine [] (decimal m) [] m tt (machine_back machines m few h) refl)
read_one machines (directive.One (step.Deliver a b k)) few h =
    let packet : values_of machines (Packet ∷ []) (decimal k ∷ []) ≡ Ok (k, tt) = next_value machines Packet [] (decimal k) [] k tt (packet_back machines k h.3) refl in
    let second : values_of machines (Machine ∷ Packet ∷ []) (decimal b ∷ decimal k ∷ []) ≡ Ok (b, (k, tt)) = next_value machines Machine (Packet ∷ []) (decimal b) (decimal k ∷ []) b (k, tt) (machine_back machines b few h.1) packet in
    ap (and_made Deliver) (next_value machines Machine (Machine ∷ Packet ∷ []) (decimal a) (decimal b ∷ decimal k ∷ []) a (b, (k, tt)) (machine_back machines a few h.0) second)
    ∙ ap (λ (t : Bool). (if t then Err SameMachine else Ok (directive.One (step.Deliver a b k))) >>= λ d. Ok (Some d)) (ne_eqb a b h.2)
read_one machines (directive.One (step.Migrate p m)) few h = ap (and_made Migrate) (moved_values machines p m few h.0 h.1 h.2)
read_one machines (directive.One (step.CallOff p m)) few h = ap (and_made CallOff) (moved_values machines p m few h.0 h.1 h.2)
read_one machines directive.Round few h = refl
read_one machines (directive.Spin n) few h = ap (and_made Spin) (next_value machines Rounds [] (decimal n) [] n tt (rounds_back machines n h.0 h.1) refl)
read_one machines directive.Settle few h = refl
read_one machines (directive.Rest n) few h = ap (and_made Rest) (next_value machines Rounds [] (decimal n) [] n tt (rounds_back machines n h.0 h.1) refl)

line_back : (machines : ℕ) (d : Directive) → machines ≤ 16 → CanStand machines d → line_directive machines (words (bytes_of (words_of d))) ≡ Ok (Some d)
line_back machines d few h = ap (line_directive machines) (words_back (words_of d) (are_words machines d few h) (are_some machines d few h)) ∙ read_one machines d few h

text_next : (d : Directive) (ds : List Directive) → schedule_text (d ∷ ds) ≡ bytes_of (words_of d) ++ 10 ∷ schedule_text ds
unfolding schedule_text
text_next d ds = ap (λ t. t ++ schedule_text ds) (spelled d ∙ spelled_bytes (words_of d)) ∙ append_assoc (bytes_of (words_of d)) (10 ∷ []) (schedule_text ds)

lines_back : (machines line : ℕ) (ds : List Directive) → machines ≤ 16 → All (CanStand machines) ds → lines_from machines line (lines (schedule_text ds)) ≡ Accepted ds
unfolding schedule_text lines lines_from
lines_back machines line [] few h = refl
lines_back machines line (d ∷ ds) few h =
    let here : CanStand machines d = All-head (CanStand machines) d ds h in
    ap (λ t. lines_from machines line (lines t)) (text_next d ds)
    ∙ ap (λ ls. lines_from machines line ls) (lines_next (bytes_of (words_of d)) (schedule_text ds) (bytes_above (words_of d) (are_words machines d few here)))
    ∙ ap₂ (line_and_rest line) (line_back machines d few here) (lines_back machines (line + 1) ds few (All-tail (CanStand machines) d ds h))

read_back : (machines : ℕ) (ds : List Directive) → machines ≤ 16 → All (CanStand machines) ds → directives_of (schedule_text ds) machines ≡ Accepted ds
unfolding directives_of
read_back machines ds few h = lines_back machines 1 ds few h

-- ---- how long it is

abbrev spaced_length : List (List ℕ) → ℕ
spaced_length [] = 0
spaced_length (w ∷ ws) = 1 + length w + spaced_length ws

spaced_is : (ws : List (List ℕ)) → length (spaced ws) ≡ spaced_length ws
spaced_is [] = refl
spaced_is (w ∷ ws) = let e : length (spaced (w ∷ ws)) ≡ suc (length w) + length (spaced ws) = length-append (32 ∷ w) (spaced ws) in omega (arith, e, spaced_is ws)

line_is : (w : List ℕ) (ws : List (List ℕ)) → length (spelled_line (w ∷ ws)) ≡ length w + spaced_length ws + 1
line_is w ws =
    let e : length (spelled_line (w ∷ ws)) ≡ length (w ++ spaced ws) + 1 = length-append (w ++ spaced ws) (codes "\n") in
    omega (arith, e, length-append w (spaced ws), spaced_is ws)

digits_most : (machines m : ℕ) → machines ≤ 16 → m < machines → length (decimal m) ≤ 10
digits_most machines m few h = few_digits m (omega (arith, few, h))

short_one : (machines : ℕ) (d : Directive) → machines ≤ 16 → CanStand machines d → length (spelled_line (words_of d)) ≤ 48
short_one machines (directive.One (step.Turn m)) few h = omega (arith, line_is (codes "turn") (decimal m ∷ []), digits_most machines m few h)
short_one machines (directive.One (step.Tick m)) few h = omega (arith, line_is (codes "tick") (decimal m ∷ []), digits_most machines m few h)
short_one machines (directive.One (step.Deliver a b k)) few h = omega (arith, line_is (codes "deliver") (decimal a ∷ decimal b ∷ decimal k ∷ []), digits_most machines a few h.0, digits_most machines b few h.1, few_digits k h.3)
short_one machines (directive.One (step.Migrate p m)) few h = omega (arith, line_is (codes "migrate") (pid_word p ∷ decimal m ∷ []), (few_named p (omega (arith, few, h.0)) h.1).1, digits_most machines m few h.2)
short_one machines (directive.One (step.CallOff p m)) few h = omega (arith, line_is (codes "calloff") (pid_word p ∷ decimal m ∷ []), (few_named p (omega (arith, few, h.0)) h.1).1, digits_most machines m few h.2)
short_one machines directive.Round few h = omega (arith, line_is (codes "round") [])
short_one machines (directive.Spin n) few h = omega (arith, line_is (codes "spin") (decimal n ∷ []), few_digits n (omega (arith, h.1)))
short_one machines directive.Settle few h = omega (arith, line_is (codes "settle") [])
short_one machines (directive.Rest n) few h = omega (arith, line_is (codes "rest") (decimal n ∷ []), few_digits n (omega (arith, h.1)))

short_all : (machines : ℕ) (ds : List Directive) → machines ≤ 16 → All (CanStand machines) ds → length (schedule_text ds) ≤ 48 * length ds
unfolding schedule_text
short_all machines [] few h = omega arith
short_all machines (d ∷ ds) few h =
    let here : length (directive_text d) ≤ 48 = rw (spelled d) (short_one machines d few (All-head (CanStand machines) d ds h)) in
    let both : length (schedule_text (d ∷ ds)) ≡ length (directive_text d) + length (schedule_text ds) = length-append (directive_text d) (schedule_text ds) in
    omega (arith, here, both, short_all machines ds few (All-tail (CanStand machines) d ds h))

pub schedules_are_read : SchedulesAreRead
schedules_are_read = record { read = read_back; short = short_all }
