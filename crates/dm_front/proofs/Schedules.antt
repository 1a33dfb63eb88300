-- What the directives of a schedule are that is accepted.
use Rattle.dm_front.proofs.Names.{◌≡◌, ◌≢◌, ◌≤◌, ◌<◌, ℕ, suc, ◌+◌, Bool, true, false, List, [], ◌∷◌, length, refl, subst, arith, Option, Some, Result, Ok, Err, None, ◌==◌, ◌&&◌, nat_lt, nat_le, if◌then◌else◌, ⊤, All, All-nil, All-cons}
use Rattle.dm_front.proofs.Names.{nat_tests, Pid, Directive, LineFault, SameMachine, WrongCount, Keyword, Turn, Tick, Deliver, Migrate, CallOff, Round, Spin, Settle, Rest, keyword_of, words, onto_first, ends_line, is_return, line_ends}
use Rattle.dm_front.proofs.Names.{number_of_word, process_of, Schedule, Accepted, Refused, also, operands, Operand, Machine, Process, Packet, Rounds, lines, Value, Values, value_of, values_of, within, ◌>>=◌, directive_made, directive_of}
use Rattle.dm_front.proofs.Names.{begins_comment, line_directive, line_and_rest, lines_from, IsFor, Step, directives_of}
use Rattle.dm_schedule.specs.declared.Step.TheVariants as step
use Rattle.dm_schedule.specs.declared.Directive.TheVariants as directive

left_true : (a b : Bool) → (a && b) ≡ true → a ≡ true
left_true true b e = refl
left_true false b e = cc

-- a process that is to move is at home on one of so many machines
abbrev pub IsHome : ℕ → Step → Type 0
IsHome machines (step.Turn m) = ⊤
IsHome machines (step.Tick m) = ⊤
IsHome machines (step.Deliver a b k) = ⊤
IsHome machines (step.Migrate p m) = p.home < machines
IsHome machines (step.CallOff p m) = p.home < machines

abbrev pub HasHome : ℕ → Directive → Type 0
HasHome machines (directive.One s) = IsHome machines s
HasHome machines directive.Round = ⊤
HasHome machines (directive.Spin n) = ⊤
HasHome machines directive.Settle = ⊤
HasHome machines (directive.Rest n) = ⊤

-- a directive for so many machines, whose process is at home on one of them
abbrev IsFit : ℕ → Directive → Type 0
IsFit machines d = IsFor machines d × HasHome machines d

-- each of these is
abbrev AreFit : ℕ → List Directive → Type 0
AreFit machines [] = ⊤
AreFit machines (d ∷ ds) = IsFit machines d × AreFit machines ds

-- what holds of a value, if there is one
abbrev OkHas : {A : Type 0} → (A → Type 0) → Result A LineFault → Type 0
OkHas P (Ok x) = P x
OkHas P (Err e) = ⊤

then_has : {A B : Type 0} (P : A → Type 0) (Q : B → Type 0) (r : Result A LineFault) (f : A → Result B LineFault) → OkHas P r → ((x : A) → P x → OkHas Q (f x)) → OkHas Q (r >>= f)
then_has P Q (Ok x) f h k = k x h
then_has P Q (Err e) f h k = tt

tested_has : {A : Type 0} (fits : A → Bool) (x : A) (b : Bool) (e : LineFault) → fits x ≡ b → OkHas (λ (y : A). fits y ≡ true) (if b then Ok x else Err e)
tested_has fits x true e h = h
tested_has fits x false e h = tt

within_has : {A : Type 0} (fits : A → Bool) (o : Option A) → OkHas (λ (x : A). fits x ≡ true) (within fits o)
within_has fits None = tt
within_has fits (Some x) = tested_has fits x (fits x) _ refl

abbrev ValueFits : ℕ → (o : Operand) → Value o → Type 0
ValueFits machines Machine v = nat_lt v machines ≡ true
ValueFits machines Process v = (nat_lt v.home machines && nat_le v.num 4294967295) ≡ true
ValueFits machines Packet v = nat_le v 4294967295 ≡ true
ValueFits machines Rounds v = (nat_le 1 v && nat_le v 65536) ≡ true

abbrev ValuesFit : ℕ → (os : List Operand) → Values os → Type 0
ValuesFit machines [] v = ⊤
ValuesFit machines (o ∷ os) v = ValueFits machines o v.0 × ValuesFit machines os v.1

value_has : (machines : ℕ) (o : Operand) (word : List ℕ) → OkHas (ValueFits machines o) (value_of machines o word)
value_has machines Machine word = within_has (λ m. nat_lt m machines) (number_of_word word)
value_has machines Process word = within_has (λ (p : Pid). nat_lt p.home machines && nat_le p.num 4294967295) (process_of word)
value_has machines Packet word = within_has (λ k. nat_le k 4294967295) (number_of_word word)
value_has machines Rounds word = within_has (λ n. nat_le 1 n && nat_le n 65536) (number_of_word word)

values_has : (machines : ℕ) (os : List Operand) (ws : List (List ℕ)) → OkHas (ValuesFit machines os) (values_of machines os ws)
values_has machines [] [] = tt
values_has machines [] (w ∷ ws) = tt
values_has machines (o ∷ os) [] = tt
values_has machines (o ∷ os) (w ∷ ws) =
    then_has (ValueFits machines o) (ValuesFit machines (o ∷ os)) (value_of machines o w) (λ v. values_of machines os ws >>= (λ vs. Ok (v, vs))) (value_has machines o w)
    (λ v h. then_has (ValuesFit machines os) (ValuesFit machines (o ∷ os)) (values_of machines os ws) (λ vs. Ok (v, vs)) (values_has machines os ws) (λ vs k. (h, k)))

is_below : (m machines : ℕ) → nat_lt m machines ≡ true → m < machines
is_below m machines e = grind (arith, nat_tests)

in_range : (n : ℕ) → (nat_le 1 n && nat_le n 65536) ≡ true → (1 ≤ n) × (n ≤ 65536)
in_range n e = both (nat_le 1 n) (nat_le n 65536) refl refl e
  where
    least : (n : ℕ) → nat_le 1 n ≡ true → 1 ≤ n
    least n e = grind (arith, nat_tests)

    most : (n : ℕ) → nat_le n 65536 ≡ true → n ≤ 65536
    most n e = grind (arith, nat_tests)

    both : (a b : Bool) → nat_le 1 n ≡ a → nat_le n 65536 ≡ b → (a && b) ≡ true → (1 ≤ n) × (n ≤ 65536)
    both true true f g e = (least n f, most n g)
    both true false f g e = cc
    both false b f g e = cc

is_apart : (a c : ℕ) → (a == c) ≡ false → a ≢ c
is_apart a c e = grind (arith, nat_tests)

deliver_has : (machines a c k : ℕ) (same : Bool) → (a == c) ≡ same → a < machines → c < machines → OkHas (IsFit machines) (if same then Err SameMachine else Ok (directive.One (step.Deliver a c k)))
deliver_has machines a c k true e h g = tt
deliver_has machines a c k false e h g = ((h, g, is_apart a c e), tt)

made_has : (machines : ℕ) (k : Keyword) (v : Values (operands k)) → ValuesFit machines (operands k) v → OkHas (IsFit machines) (directive_made k v)
made_has machines Turn v h = (is_below v.0 machines h.0, tt)
made_has machines Tick v h = (is_below v.0 machines h.0, tt)
made_has machines Deliver v h = deliver_has machines v.0 v.1.0 v.1.1.0 (v.0 == v.1.0) refl (is_below v.0 machines h.0) (is_below v.1.0 machines h.1.0)
made_has machines Migrate v h = (is_below v.1.0 machines h.1.0, is_below v.0.home machines (left_true (nat_lt v.0.home machines) (nat_le v.0.num 4294967295) h.0))
made_has machines CallOff v h = (is_below v.1.0 machines h.1.0, is_below v.0.home machines (left_true (nat_lt v.0.home machines) (nat_le v.0.num 4294967295) h.0))
made_has machines Round v h = (tt, tt)
made_has machines Spin v h = (in_range v.0 h.0, tt)
made_has machines Settle v h = (tt, tt)
made_has machines Rest v h = (in_range v.0 h.0, tt)

counted_has : (machines : ℕ) (k : Keyword) (ws : List (List ℕ)) (b : Bool) → OkHas (IsFit machines) (if b then values_of machines (operands k) ws >>= directive_made k else Err WrongCount)
counted_has machines k ws true = then_has (ValuesFit machines (operands k)) (IsFit machines) (values_of machines (operands k) ws) (directive_made k) (values_has machines (operands k) ws) (made_has machines k)
counted_has machines k ws false = tt

directive_has : (machines : ℕ) (k : Option Keyword) (ws : List (List ℕ)) → OkHas (IsFit machines) (directive_of machines k ws)
unfolding directive_of
directive_has machines None ws = tt
directive_has machines (Some k) ws = counted_has machines k ws (length ws == length (operands k))

abbrev SomeFit : ℕ → Option Directive → Type 0
SomeFit machines None = ⊤
SomeFit machines (Some d) = IsFit machines d

commented_has : (machines : ℕ) (b : Bool) (r : Result Directive LineFault) → OkHas (IsFit machines) r → OkHas (SomeFit machines) (if b then Ok None else r >>= λ d. Ok (Some d))
commented_has machines true r h = tt
commented_has machines false r h = then_has (IsFit machines) (SomeFit machines) r (λ d. Ok (Some d)) h (λ d k. k)

line_has : (machines : ℕ) (ws : List (List ℕ)) → OkHas (SomeFit machines) (line_directive machines ws)
unfolding line_directive
line_has machines [] = tt
line_has machines (w ∷ ws) = commented_has machines (begins_comment w) (directive_of machines (keyword_of w) ws) (directive_has machines (keyword_of w) ws)

-- at most one directive a line
abbrev Has : ℕ → ℕ → Schedule → Type 0
Has machines n (Accepted ds) = AreFit machines ds × (length ds ≤ n)
Has machines n (Refused line fault) = ⊤

also_has : (machines n : ℕ) (d : Directive) (s : Schedule) → IsFit machines d → Has machines n s → Has machines (suc n) (also d s)
also_has machines n d (Accepted ds) h k = ((h, k.0), omega (arith, k.1))
also_has machines n d (Refused line fault) h k = tt

more_has : (machines n : ℕ) (s : Schedule) → Has machines n s → Has machines (suc n) s
more_has machines n (Accepted ds) k = (k.0, omega (arith, k.1))
more_has machines n (Refused line fault) k = tt

with_has : (machines n line : ℕ) (r : Result (Option Directive) LineFault) (s : Schedule) → OkHas (SomeFit machines) r → Has machines n s → Has machines (suc n) (line_and_rest line r s)
with_has machines n line (Ok None) s h k = more_has machines n s k
with_has machines n line (Ok (Some d)) s h k = also_has machines n d s h k
with_has machines n line (Err e) s h k = tt

lines_have : (machines line : ℕ) (ls : List (List ℕ)) → Has machines (length ls) (lines_from machines line ls)
unfolding lines_from
lines_have machines line [] = (tt, omega arith)
lines_have machines line (l ∷ ls) = with_has machines (length ls) line (line_directive machines (words l)) (lines_from machines (line + 1) ls) (line_has machines (words l)) (lines_have machines (line + 1) ls)

-- no more lines than bytes
onto_count : (c : ℕ) (ls : List (List ℕ)) (n : ℕ) → length ls ≤ n → length (onto_first c ls) ≤ suc n
onto_count c [] n h = omega arith
onto_count c (l ∷ ls) n h = omega (arith, h)

if_count : (n c : ℕ) (ls : List (List ℕ)) (a b : Bool) → length ls ≤ n → length (if a then [] ∷ ls else (if b then ls else onto_first c ls)) ≤ suc n
if_count n c ls true b h = omega (arith, h)
if_count n c ls false true h = omega (arith, h)
if_count n c ls false false h = onto_count c ls n h

few_lines : (text : List ℕ) → length (lines text) ≤ length text
unfolding lines
few_lines [] = omega arith
few_lines (c ∷ cs) = if_count (length cs) c (lines cs) (ends_line c) (is_return c && line_ends cs) (few_lines cs)

all_for : (machines : ℕ) (ds : List Directive) → AreFit machines ds → All (IsFor machines) ds
all_for machines [] h = All-nil (IsFor machines)
all_for machines (d ∷ ds) h = All-cons (IsFor machines) d ds h.0.0 (all_for machines ds h.1)

all_home : (machines : ℕ) (ds : List Directive) → AreFit machines ds → All (HasHome machines) ds
all_home machines [] h = All-nil (HasHome machines)
all_home machines (d ∷ ds) h = All-cons (HasHome machines) d ds h.0.1 (all_home machines ds h.1)

-- the directives of an accepted text are for its machines, and at most as many as it has bytes
pub record AreRead (text : List ℕ) (machines : ℕ) (ds : List Directive) : Type 0 where
  pub each : All (IsFor machines) ds
  pub homes : All (HasHome machines) ds
  pub few : length ds ≤ length text

read_so : (text : List ℕ) (machines : ℕ) (s : Schedule) (ds : List Directive) → Has machines (length (lines text)) s → s ≡ Accepted ds → AreRead text machines ds
read_so text machines s ds h e =
    let k : Has machines (length (lines text)) (Accepted ds) = subst (Has machines (length (lines text))) e h in
    record { each = all_for machines ds k.0; homes = all_home machines ds k.0; few = let g = k.1 in omega (arith, g, few_lines text) }

pub are_read : (text : List ℕ) (machines : ℕ) (ds : List Directive) → directives_of text machines ≡ Accepted ds → AreRead text machines ds
unfolding directives_of
are_read text machines ds e = read_so text machines (lines_from machines 1 (lines text)) ds (lines_have machines 1 (lines text)) e
