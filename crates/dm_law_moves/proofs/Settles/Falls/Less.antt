-- What holds of each state from which less is left holds of all: what is left to do comes to an end.
use Rattle.dm_law_moves.proofs.Names.{ℕ, zero, suc, ◌<◌, ◌≤◌, arith, IsLess, Left, Messages, Numbers, Packets, Releases}

-- it holds of a state, once it holds of each from which less is left
abbrev pub Falls : (Left → Type 0) → Type 0
Falls P = (x : Left) → ((y : Left) → IsLess y x → P y) → P x

-- it holds of each state whose numbers are within these, and of which one is below its own
abbrev FewerNumbers : (Left → Type 0) → ℕ → Type 0
FewerNumbers P a = (y : Left) → y.numbers < a → P y

abbrev FewerReleases : (Left → Type 0) → ℕ → ℕ → Type 0
FewerReleases P a b = (y : Left) → y.numbers ≤ a → y.releases < b → P y

abbrev FewerMessages : (Left → Type 0) → ℕ → ℕ → ℕ → Type 0
FewerMessages P a b c = (y : Left) → y.numbers ≤ a → y.releases ≤ b → y.messages < c → P y

abbrev FewerPackets : (Left → Type 0) → ℕ → ℕ → ℕ → ℕ → Type 0
FewerPackets P a b c d = (y : Left) → y.numbers ≤ a → y.releases ≤ b → y.messages ≤ c → y.packets < d → P y

smaller : (P : Left → Type 0) (a b c d : ℕ) → FewerNumbers P a → FewerReleases P a b → FewerMessages P a b c → FewerPackets P a b c d → (x y : Left) → x.numbers ≤ a → x.releases ≤ b → x.messages ≤ c → x.packets ≤ d → IsLess y x → P y
smaller P a b c d one two three four x y h i j k (Numbers e) = one y (omega (arith, e, h))
smaller P a b c d one two three four x y h i j k (Releases e f) = two y (omega (arith, e, h)) (omega (arith, f, i))
smaller P a b c d one two three four x y h i j k (Messages e f g) = three y (omega (arith, e, h)) (omega (arith, f, i)) (omega (arith, g, j))
smaller P a b c d one two three four x y h i j k (Packets e f g l) = four y (omega (arith, e, h)) (omega (arith, f, i)) (omega (arith, g, j)) (omega (arith, l, k))

-- the four numbers, the last first
packets_down : (P : Left → Type 0) → Falls P → (a b c : ℕ) → FewerNumbers P a → FewerReleases P a b → FewerMessages P a b c → (d : ℕ) → (x : Left) → x.numbers ≤ a → x.releases ≤ b → x.messages ≤ c → x.packets ≤ d → P x
packets_down P by a b c one two three zero x h i j k = by x (λ y e. smaller P a b c 0 one two three (λ z l m n o. absurd (omega (arith, o))) x y h i j k e)
packets_down P by a b c one two three (suc d) x h i j k = by x (λ y e. smaller P a b c (suc d) one two three (λ z l m n o. packets_down P by a b c one two three d z l m n (omega (arith, o))) x y h i j k e)

messages_down : (P : Left → Type 0) → Falls P → (a b : ℕ) → FewerNumbers P a → FewerReleases P a b → (c : ℕ) → (x : Left) → x.numbers ≤ a → x.releases ≤ b → x.messages ≤ c → P x
messages_down P by a b one two zero x h i j = packets_down P by a b 0 one two (λ y l m n. absurd (omega (arith, n))) x.packets x h i j (omega arith)
messages_down P by a b one two (suc c) x h i j = packets_down P by a b (suc c) one two (λ y l m n. messages_down P by a b one two c y l m (omega (arith, n))) x.packets x h i j (omega arith)

releases_down : (P : Left → Type 0) → Falls P → (a : ℕ) → FewerNumbers P a → (b : ℕ) → (x : Left) → x.numbers ≤ a → x.releases ≤ b → P x
releases_down P by a one zero x h i = messages_down P by a 0 one (λ y l m. absurd (omega (arith, m))) x.messages x h i (omega arith)
releases_down P by a one (suc b) x h i = messages_down P by a (suc b) one (λ y l m. releases_down P by a one b y l (omega (arith, m))) x.messages x h i (omega arith)

numbers_down : (P : Left → Type 0) → Falls P → (a : ℕ) → (x : Left) → x.numbers ≤ a → P x
numbers_down P by zero x h = releases_down P by 0 (λ y l. absurd (omega (arith, l))) x.releases x h (omega arith)
numbers_down P by (suc a) x h = releases_down P by (suc a) (λ y l. numbers_down P by a y (omega (arith, l))) x.releases x h (omega arith)

pub by_left : (P : Left → Type 0) → Falls P → (x : Left) → P x
by_left P by x = numbers_down P by x.numbers x (omega arith)
