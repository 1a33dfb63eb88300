-- Which directive comes next is what the printed lines say; it is for the machines that there are.
use Rattle.dm_law_mirror.proofs.Names.{◌≡◌, ◌≢◌, ℕ, zero, suc, ◌+◌, ◌<◌, ◌≤◌, ◌==◌, Bool, true, false, List, [], ◌∷◌, map, length, refl, ap, ◌∙◌, sym, subst, arith, ⊤, if◌then◌else◌, All, Option, None, Some, nat_tests, All-nil, All-cons}
use Rattle.dm_law_mirror.proofs.Names.{All-head, All-tail, All-append, All-push, Message, Boot, IsValid, Step, Directive, Pass, Two, Todo, Next, below, pairs_with, pairs_of, pass_begun, here_or_later, next_delivery, takes_turn, next_turn}
use Rattle.dm_law_mirror.proofs.Names.{in_pass, or, begin_pass, settles, next_directive, next_pass, following, first_undelivered, IsStep, Leads, Point, first_point, based_always, Placed, WorldState, first_unseen, History, PairStands, Stands}
use Rattle.dm_law_mirror.proofs.Names.{bytes_of, line_of, IsTwo, IsDirective, IsTodo, NextIsSaid, next_and_left, is_over, ◌&&◌, ◌||◌, not, each_below, Seen, at_rest, all_same, passes_rest, rest_passes, RestIsSaid}
use Rattle.dm_stream.specs.Packets as stream
use Rattle.dm_law_rule.specs.Good as rule
use Rattle.dm_world.specs.Next as world
use Rattle.dm_law_mirror.proofs.QuietSaid.{mail_same, quiet_same, serves_same}

-- there are as many machines wherever the rule leads
pub machines_stay : (b : Boot) (es : List Step) (pt : Point) → IsValid b → Leads b (first_point b) es pt → pt.kernel.machines ≡ length b.machines
machines_stay b es pt valid leads = (based_always b es pt valid leads).machines

-- the first packet that was never delivered, by the marks on the wire and by the lines
first_same : (a c k : ℕ) (ps : List (stream.Packet Message)) → first_unseen k (map (bytes_of a c) ps) ≡ first_undelivered k (map line_of ps)
first_same a c k [] = refl
first_same a c k (p ∷ ps) = ap (λ (o : Option ℕ). if p.delivered then o else Some k) (first_same a c (k + 1) ps)

undelivered_same : (b : Boot) (w : WorldState) (pt : Point) (l : Placed) (h : History) (a c : ℕ) → PairStands b pt l w h a c → world.world_undelivered w a c ≡ rule.undelivered pt.view a c
undelivered_same b w pt l h a c p = ap (first_unseen 0) p.bytes ∙ (first_same a c 0 (h.packets a c) ∙ ap (first_undelivered 0) p.packets)

pub undelivered_said : (b : Boot) (es : List Step) (w : WorldState) (pt : Point) (a c : ℕ) → IsValid b → Leads b (first_point b) es pt → Stands b w pt → a < length b.machines → c < length b.machines → a ≢ c → world.world_undelivered w a c ≡ rule.undelivered pt.view a c
undelivered_said b es w pt a c valid leads stands from to apart =
    let ((l, h, s), counts) = stands in
    let machines = machines_stay b es pt valid leads in
    undelivered_same b w pt l h a c (s.pairs a c (omega (arith, from, machines)) (omega (arith, to, machines)) apart)

-- two ways to find a wire's first packet that agree on each pair of different machines
abbrev Agrees : ℕ → (ℕ → ℕ → Option ℕ) → (ℕ → ℕ → Option ℕ) → Type 0
Agrees machines f g = (a c : ℕ) → a < machines → c < machines → a ≢ c → f a c ≡ g a c

delivery_same : (machines : ℕ) (f g : ℕ → ℕ → Option ℕ) (ps : List Two) → Agrees machines f g → All (IsTwo machines) ps → next_delivery f ps ≡ next_delivery g ps
delivery_same machines f g [] same fit = refl
delivery_same machines f g (p ∷ ps) same fit =
    let one = All-head (IsTwo machines) p ps fit in
    ap (λ (o : Option ℕ). here_or_later p ps o (next_delivery f ps)) (same p.from p.to one.from one.to one.apart)
    ∙ ap (here_or_later p ps (g p.from p.to)) (delivery_same machines f g ps same (All-tail (IsTwo machines) p ps fit))

-- a round's machines, and its pairs
abbrev pub IsBelow : ℕ → ℕ → Type 0
IsBelow machines m = m < machines

below_fits : (n machines : ℕ) → n ≤ machines → All (IsBelow machines) (below n)
below_fits zero machines h = All-nil (IsBelow machines)
below_fits (suc n) machines h = All-push (IsBelow machines) (below n) n (below_fits n machines (omega (arith, h))) (omega (arith, h))

pair_fits : (machines a c : ℕ) (ps : List Two) (b : Bool) → (a == c) ≡ b → a < machines → c < machines → All (IsTwo machines) ps → All (IsTwo machines) (if b then ps else record { from = a; to = c } ∷ ps)
pair_fits machines a c ps true e h k fit = fit
pair_fits machines a c ps false e h k fit =
    let apart : a ≢ c = grind (arith, nat_tests) in
    All-cons (IsTwo machines) (record { from = a; to = c }) ps (record { from = h; to = k; apart = apart }) fit

with_fit : (machines a : ℕ) (bs : List ℕ) → a < machines → All (IsBelow machines) bs → All (IsTwo machines) (pairs_with a bs)
with_fit machines a [] h fit = All-nil (IsTwo machines)
with_fit machines a (c ∷ cs) h fit =
    pair_fits machines a c (pairs_with a cs) (a == c) refl h (All-head (IsBelow machines) c cs fit) (with_fit machines a cs h (All-tail (IsBelow machines) c cs fit))

pairs_fit : (machines : ℕ) (as_ bs : List ℕ) → All (IsBelow machines) as_ → All (IsBelow machines) bs → All (IsTwo machines) (pairs_of as_ bs)
pairs_fit machines [] bs h fit = All-nil (IsTwo machines)
pairs_fit machines (a ∷ as_) bs h fit =
    All-append (IsTwo machines) (pairs_with a bs) (pairs_of as_ bs) (with_fit machines a bs (All-head (IsBelow machines) a as_ h) fit) (pairs_fit machines as_ bs (All-tail (IsBelow machines) a as_ h) fit)

pub all_below : (machines : ℕ) → All (IsBelow machines) (below machines)
all_below machines = below_fits machines machines (omega arith)

pub all_pairs : (machines : ℕ) → All (IsTwo machines) (pairs_of (below machines) (below machines))
all_pairs machines = pairs_fit machines (below machines) (below machines) (all_below machines) (all_below machines)

-- two ways to see whether a machine has mail that agree on the machines that there are
abbrev SameMail : ℕ → (ℕ → Bool) → (ℕ → Bool) → Type 0
SameMail machines f g = (m : ℕ) → m < machines → f m ≡ g m

-- what is seen of the machines agrees
pub record SameSeen (machines : ℕ) (s u : Seen) : Type 0 where
  pub first : Agrees machines s.first u.first
  pub mail : SameMail machines s.mail u.mail
  pub serves : SameMail machines s.serves u.serves
  pub quiet : s.quiet ≡ u.quiet

takes_same : (machines : ℕ) (p : Pass) (s u : Seen) → SameSeen machines s u → SameMail machines (takes_turn p s) (takes_turn p u)
takes_same machines (Pass.Round k) s u same m h = refl
takes_same machines Pass.Settle s u same m h = same.mail m h
takes_same machines (Pass.Rest k) s u same m h = ap (λ (c : Bool). c || s.serves m) (same.mail m h) ∙ ap (λ (c : Bool). u.mail m || c) (same.serves m h)

pub rest_same : (machines : ℕ) (s u : Seen) → SameSeen machines s u → at_rest machines s ≡ at_rest machines u
rest_same machines s u same =
    ap (λ (c : Bool). c && each_below machines (λ m. not (s.serves m))) same.quiet
    ∙ ap (λ (c : Bool). u.quiet && c) (all_same machines (λ m. not (s.serves m)) (λ m. not (u.serves m)) (λ m h. ap not (same.serves m h)))

over_same : (machines : ℕ) (p : Pass) (s u : Seen) → SameSeen machines s u → is_over machines s p ≡ is_over machines u p
over_same machines (Pass.Round k) s u same = refl
over_same machines Pass.Settle s u same = same.quiet
over_same machines (Pass.Rest k) s u same = rest_same machines s u same

turn_same : (machines : ℕ) (f g : ℕ → Bool) (t : Todo) (ms : List ℕ) → SameMail machines f g → All (IsBelow machines) ms → next_turn f t ms ≡ next_turn g t ms
turn_same machines f g t [] same fit = refl
turn_same machines f g t (m ∷ ms) same fit =
    ap (λ (b : Bool). if b then next_and_left (Step.Turn m) (record t { pairs = []; machines = ms }) else next_turn f t ms) (same m (All-head (IsBelow machines) m ms fit))
    ∙ ap (λ (o : Option Next). if g m then next_and_left (Step.Turn m) (record t { pairs = []; machines = ms }) else o) (turn_same machines f g t ms same (All-tail (IsBelow machines) m ms fit))

in_same : (machines : ℕ) (s u : Seen) (t : Todo) (d : Option (Step × List Two)) → SameSeen machines s u → All (IsBelow machines) t.machines → in_pass s t d ≡ in_pass u t d
in_same machines s u t None same fit = turn_same machines (takes_turn t.pass s) (takes_turn t.pass u) t t.machines (takes_same machines t.pass s u same) fit
in_same machines s u t (Some d) same fit = refl

-- what follows is the same
begin_same : (machines : ℕ) (s u : Seen) (p : Pass) (ds : List Directive) → SameSeen machines s u → begin_pass machines s p ds ≡ begin_pass machines u p ds
begin_same machines s u p ds same =
    let pairs = pairs_of (below machines) (below machines) in
    ap (in_pass s (pass_begun machines p ds)) (delivery_same machines s.first u.first pairs same.first (all_pairs machines))
    ∙ in_same machines s u (pass_begun machines p ds) (next_delivery u.first pairs) same (all_below machines)

settles_same : (c d : Bool) (x y v z : Option Next) → c ≡ d → x ≡ v → y ≡ z → settles c x y ≡ settles d v z
settles_same c d x y v z e f g = λ i. settles (e i) (f i) (g i)

directive_same : (machines : ℕ) (s u : Seen) (ds : List Directive) → SameSeen machines s u → next_directive machines s ds ≡ next_directive machines u ds
directive_same machines s u (Directive.Round ∷ ds) same = begin_same machines s u (Pass.Round 0) ds same
directive_same machines s u (Directive.Spin zero ∷ ds) same = directive_same machines s u ds same
directive_same machines s u (Directive.Spin (suc n) ∷ ds) same = begin_same machines s u (Pass.Round n) ds same
directive_same machines s u (Directive.Settle ∷ ds) same =
    settles_same s.quiet u.quiet (begin_pass machines s Pass.Settle ds) (next_directive machines s ds) (begin_pass machines u Pass.Settle ds) (next_directive machines u ds) same.quiet (begin_same machines s u Pass.Settle ds same) (directive_same machines s u ds same)
directive_same machines s u (Directive.Rest zero ∷ ds) same = directive_same machines s u ds same
directive_same machines s u (Directive.Rest (suc n) ∷ ds) same =
    settles_same (at_rest machines s) (at_rest machines u) (begin_pass machines s (Pass.Rest n) ds) (next_directive machines s ds) (begin_pass machines u (Pass.Rest n) ds) (next_directive machines u ds) (rest_same machines s u same) (begin_same machines s u (Pass.Rest n) ds same) (directive_same machines s u ds same)
directive_same machines s u _ same = refl

later_same : (machines : ℕ) (s u : Seen) (p : Pass) (ds : List Directive) → SameSeen machines s u → next_pass machines s p ds ≡ next_pass machines u p ds
later_same machines s u (Pass.Round zero) ds same = directive_same machines s u ds same
later_same machines s u (Pass.Round (suc k)) ds same = begin_same machines s u (Pass.Round k) ds same
later_same machines s u Pass.Settle ds same = directive_same machines s u (Directive.Settle ∷ ds) same
later_same machines s u (Pass.Rest zero) ds same = directive_same machines s u ds same
later_same machines s u (Pass.Rest (suc k)) ds same = directive_same machines s u (Directive.Rest (suc k) ∷ ds) same

unless_same : (c d : Bool) (x y v z : Option Next) → c ≡ d → x ≡ v → y ≡ z → or (if c then None else x) y ≡ or (if d then None else v) z
unless_same c d x y v z e f g = λ i. or (if e i then None else f i) (g i)

following_same : (machines : ℕ) (s u : Seen) (t : Todo) → SameSeen machines s u → All (IsTwo machines) t.pairs → All (IsBelow machines) t.machines → following machines s t ≡ following machines u t
following_same machines s u t same fit below =
    unless_same (is_over machines s t.pass) (is_over machines u t.pass) (in_pass s t (next_delivery s.first t.pairs)) (next_pass machines s t.pass t.directives) (in_pass u t (next_delivery u.first t.pairs)) (next_pass machines u t.pass t.directives)
    (over_same machines t.pass s u same)
    (ap (in_pass s t) (delivery_same machines s.first u.first t.pairs same.first fit) ∙ in_same machines s u t (next_delivery u.first t.pairs) same below)
    (later_same machines s u t.pass t.directives same)

-- what follows is for the machines that there are
pub record NextFits (machines : ℕ) (n : Next) : Type 0 where
  pub step : IsStep machines n.step
  pub left : IsTodo machines n.left

abbrev Fits : ℕ → Option Next → Type 0
Fits machines None = ⊤
Fits machines (Some n) = NextFits machines n

abbrev DeliveryFits : ℕ → Option (Step × List Two) → Type 0
DeliveryFits machines None = ⊤
DeliveryFits machines (Some d) = IsStep machines d.0 × All (IsTwo machines) d.1

delivery_fits : (machines : ℕ) (first : ℕ → ℕ → Option ℕ) (ps : List Two) → All (IsTwo machines) ps → DeliveryFits machines (next_delivery first ps)
delivery_fits machines first [] fit = tt
delivery_fits machines first (p ∷ ps) fit = grind (arith, nat_tests, All-head, delivery_fits machines first ps (All-tail (IsTwo machines) p ps fit))

turn_or_later : (machines : ℕ) (t : Todo) (m : ℕ) (ms : List ℕ) (b : Bool) (o : Option Next) → IsTodo machines t → All (IsBelow machines) (m ∷ ms) → Fits machines o
    → Fits machines (if b then next_and_left (Step.Turn m) (record t { pairs = []; machines = ms }) else o)
turn_or_later machines t m ms true o h fit later =
    record { step = All-head (IsBelow machines) m ms fit; left = record { pairs = All-nil (IsTwo machines); machines_ = All-tail (IsBelow machines) m ms fit; directives = h.directives } }
turn_or_later machines t m ms false o h fit later = later

turn_fits : (machines : ℕ) (takes : ℕ → Bool) (t : Todo) (ms : List ℕ) → IsTodo machines t → All (IsBelow machines) ms → Fits machines (next_turn takes t ms)
turn_fits machines takes t [] h fit = tt
turn_fits machines takes t (m ∷ ms) h fit = turn_or_later machines t m ms (takes m) (next_turn takes t ms) h fit (turn_fits machines takes t ms h (All-tail (IsBelow machines) m ms fit))

pass_fits : (machines : ℕ) (seen : Seen) (t : Todo) (d : Option (Step × List Two)) → IsTodo machines t → DeliveryFits machines d → Fits machines (in_pass seen t d)
pass_fits machines seen t None h k = turn_fits machines (takes_turn t.pass seen) t t.machines h h.machines_
pass_fits machines seen t (Some d) h k = record { step = k.0; left = record { pairs = k.1; machines_ = h.machines_; directives = h.directives } }

begun_fits : (machines : ℕ) (seen : Seen) (p : Pass) (ds : List Directive) → All (IsDirective machines) ds → Fits machines (begin_pass machines seen p ds)
begun_fits machines seen p ds h =
    pass_fits machines seen (pass_begun machines p ds) (next_delivery seen.first (pairs_of (below machines) (below machines)))
    (record { pairs = all_pairs machines; machines_ = all_below machines; directives = h })
    (delivery_fits machines seen.first (pairs_of (below machines) (below machines)) (all_pairs machines))

settles_fit : (machines : ℕ) (quiet : Bool) (x y : Option Next) → Fits machines x → Fits machines y → Fits machines (settles quiet x y)
settles_fit machines quiet x y h k = grind (arith, nat_tests)

directive_fits : (machines : ℕ) (seen : Seen) (ds : List Directive) → All (IsDirective machines) ds → Fits machines (next_directive machines seen ds)
directive_fits machines seen [] h = tt
directive_fits machines seen (Directive.One s ∷ ds) h =
    record { step = All-head (IsDirective machines) (Directive.One s) ds h; left = record { pairs = All-nil (IsTwo machines); machines_ = All-nil (IsBelow machines); directives = All-tail (IsDirective machines) (Directive.One s) ds h } }
directive_fits machines seen (Directive.Round ∷ ds) h = begun_fits machines seen (Pass.Round 0) ds (All-tail (IsDirective machines) Directive.Round ds h)
directive_fits machines seen (Directive.Spin zero ∷ ds) h = directive_fits machines seen ds (All-tail (IsDirective machines) (Directive.Spin 0) ds h)
directive_fits machines seen (Directive.Spin (suc n) ∷ ds) h = begun_fits machines seen (Pass.Round n) ds (All-tail (IsDirective machines) (Directive.Spin (suc n)) ds h)
directive_fits machines seen (Directive.Rest zero ∷ ds) h = directive_fits machines seen ds (All-tail (IsDirective machines) (Directive.Rest 0) ds h)
directive_fits machines seen (Directive.Rest (suc n) ∷ ds) h =
    let rest = All-tail (IsDirective machines) (Directive.Rest (suc n)) ds h in
    settles_fit machines (at_rest machines seen) (begin_pass machines seen (Pass.Rest n) ds) (next_directive machines seen ds) (begun_fits machines seen (Pass.Rest n) ds rest) (directive_fits machines seen ds rest)
directive_fits machines seen (Directive.Settle ∷ ds) h =
    let rest = All-tail (IsDirective machines) Directive.Settle ds h in
    settles_fit machines seen.quiet (begin_pass machines seen Pass.Settle ds) (next_directive machines seen ds) (begun_fits machines seen Pass.Settle ds rest) (directive_fits machines seen ds rest)

later_fits : (machines : ℕ) (seen : Seen) (p : Pass) (ds : List Directive) → All (IsDirective machines) ds → Fits machines (next_pass machines seen p ds)
later_fits machines seen (Pass.Round zero) ds h = directive_fits machines seen ds h
later_fits machines seen (Pass.Round (suc k)) ds h = begun_fits machines seen (Pass.Round k) ds h
later_fits machines seen (Pass.Rest zero) ds h = directive_fits machines seen ds h
later_fits machines seen (Pass.Rest (suc k)) ds h =
    settles_fit machines (at_rest machines seen) (begin_pass machines seen (Pass.Rest k) ds) (next_directive machines seen ds) (begun_fits machines seen (Pass.Rest k) ds h) (directive_fits machines seen ds h)
later_fits machines seen Pass.Settle ds h =
    settles_fit machines seen.quiet (begin_pass machines seen Pass.Settle ds) (next_directive machines seen ds) (begun_fits machines seen Pass.Settle ds h) (directive_fits machines seen ds h)

pub next_fits : (machines : ℕ) (seen : Seen) (t : Todo) (n : Next) → IsTodo machines t → following machines seen t ≡ Some n → NextFits machines n
next_fits machines seen t n h is =
    let or_fits : (machines : ℕ) (x y : Option Next) → Fits machines x → Fits machines y → Fits machines (or x y) = λ machines x y h k. grind (arith, nat_tests) in
    let here = in_pass seen t (next_delivery seen.first t.pairs) in
    let unless_fits : Fits machines (if (is_over machines seen t.pass) then None else here) = grind (arith, nat_tests, pass_fits machines seen t (next_delivery seen.first t.pairs) h (delivery_fits machines seen.first t.pairs h.pairs)) in
    subst (Fits machines) is
    (or_fits machines (if is_over machines seen t.pass then None else here) (next_pass machines seen t.pass t.directives)
    unless_fits
    (later_fits machines seen t.pass t.directives h.directives))

-- where the world stands for a point
pub seen_same : (b : Boot) (es : List Step) (w : WorldState) (pt : Point) → IsValid b → Leads b (first_point b) es pt → Stands b w pt → SameSeen (length b.machines) (world.world_seen (length b.machines) w) (rule.seen_at (length b.machines) pt)
seen_same b es w pt valid leads stands =
    let ((l, h, s), counts) = stands in
    let machines = machines_stay b es pt valid leads in
    record {
      first = λ a c from to apart. undelivered_same b w pt l h a c (s.pairs a c (omega (arith, from, machines)) (omega (arith, to, machines)) apart);
      mail = λ m small. mail_same b w pt l h m (omega (arith, small, machines)) s;
      serves = λ m small. serves_same b es w pt l h m valid leads (omega (arith, small, machines)) s;
      quiet = quiet_same b es w pt valid leads stands;
    }

pub next_is_said : NextIsSaid
next_is_said b es w pt t valid leads stands fit =
    let n = length b.machines in
    following_same n (world.world_seen n w) (rule.seen_at n pt) t (seen_same b es w pt valid leads stands) fit.pairs fit.machines_
    ∙ ap (λ (m : ℕ). following m (rule.seen_at m pt) t) (sym (machines_stay b es pt valid leads))

-- whether all is at rest
pub rest_is_said : RestIsSaid
rest_is_said b es w pt valid leads stands =
    let n = length b.machines in
    let same = rest_same n (world.world_seen n w) (rule.seen_at n pt) (seen_same b es w pt valid leads stands) ∙ ap (λ (m : ℕ). at_rest m (rule.seen_at m pt)) (sym (machines_stay b es pt valid leads)) in
    (λ e. passes_rest pt.kernel.machines pt (sym same ∙ e), λ r. same ∙ rest_passes pt.kernel.machines pt r)
