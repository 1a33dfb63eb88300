-- The parts of a turn, one after another.
use Rattle.dm_node.proofs.Names.{◌≡◌, suc, List, [], ◌∷◌, ◌++◌, length, refl, sym, subst, Result, Option, None, Some, Ok, Err}
use Rattle.dm_node.proofs.Names.{All, IsLawfulPart, IsLawfulTurned, Message, Line, Kernel, Part, Turned, Node, Stop, Out, Says, NodeState, Acts, Goes, Worn, behind, then_, acts, routes}
use Rattle.dm_node.proofs.Names.{turns, Answers, AnswersSome, GaveActs, HasStreams, OrNoMemory, Sent, Spoke, Spoken, node_state, so_far}
use Rattle.dm_line.specs.declared.line.Line.TheVariants as line
use Rattle.dm_kernel.specs.declared.part.Part.TheVariants as part
use Rattle.dm_kernel.specs.Meets as kernel
use Rattle.dm_node.specs.declared.stop.Stop.TheVariants as stop
pub use Rattle.dm_kernel.proofs.Opening.{is_state as kernel_is}
use Rattle.dm_node.proofs.Speaking.{spoke_line, spoke_more, spoke_none}

-- what answers the rest answers the whole
pub answers_behind : (r : Result Unit Stop) (after : Node) (old mid new : Spoken) (outs : List Out) (a : Acts) → Spoke old mid outs → Answers r after mid new a → Answers r after old new (behind outs a)
answers_behind (Ok done) after old mid new outs (Goes a) e g = record { state = g.state; streams = g.streams; outs = spoke_more old mid new outs a.outs e g.outs }
answers_behind (Ok done) after old mid new outs (Worn x y) e g = g
answers_behind (Err (stop.NoMemory f)) after old mid new outs a e g = tt
answers_behind (Err (stop.Worn x y)) after old mid new outs (Goes a) e g = g
answers_behind (Err (stop.Worn x y)) after old mid new outs (Worn v w) e g = g

-- a line is said
pub line_said : (r : Result Unit Stop) (after : Node) (n : NodeState) (l : Line) (ps : List Part) (old mid new : Spoken) → Spoke old mid (Says l ∷ []) → Answers r after mid new (acts n ps)
    → Answers r after old new (acts n (part.Says l ∷ ps))
line_said r after n l ps old mid new e g = answers_behind r after old mid new (Says l ∷ []) (acts n ps) e g

-- a message is routed, then the rest
then_answers : (r : Result Unit Stop) (after between : Node) (old mid new : Spoken) (a : Acts) (go : NodeState → Acts) → GaveActs between old mid a → Answers r after mid new (go (node_state between))
    → Answers r after old new (then_ a go)
then_answers r after between old mid new (Goes a) go g rest = answers_behind r after old mid new a.outs (go a.state) g.outs (subst (λ n. Answers r after mid new (go n)) g.state rest)
then_answers r after between old mid new (Worn x y) go g rest = absurd g

pub message_routed : (r : Result Unit Stop) (after between : Node) (n : NodeState) (m : Message) (ps : List Part) (old mid new : Spoken) → GaveActs between old mid (routes n m)
    → Answers r after mid new (acts (node_state between) ps) → Answers r after old new (acts n (part.Routes m ∷ ps))
message_routed r after between n m ps old mid new g rest = then_answers r after between old mid new (routes n m) (λ next. acts next ps) g rest

nothing_left : (n : Node) (s : Spoken) → HasStreams n → Answers (Ok tt) n s s (acts (node_state n) [])
nothing_left n s h = record { state = refl; streams = h; outs = spoke_none s }

none_in : (ps : List Part) → length ps ≡ 0 → ps ≡ []
none_in [] h = refl
none_in (p ∷ ps) h = absurd (let e : suc (length ps) ≡ 0 = h in cc)

pub all_done : (n : Node) (s : Spoken) (ps : List Part) → length ps ≡ 0 → HasStreams n → Answers (Ok tt) n s s (acts (node_state n) ps)
all_done n s ps e h = subst (λ xs. Answers (Ok tt) n s s (acts (node_state n) xs)) (sym (none_in ps e)) (nothing_left n s h)

-- an idle machine says that alone
pub idle_said : (n : Node) (wires : List (List Sent)) (old new : List Line) → new ≡ old ++ line.Idle n.kernel.here ∷ [] → HasStreams n
    → Answers (Ok tt) n (so_far wires old) (so_far wires new) (acts (node_state n) (part.Says (line.Idle n.kernel.here) ∷ []))
idle_said n wires old new e h =
    let l = line.Idle n.kernel.here in
    line_said (Ok tt) n (node_state n) l [] (so_far wires old) (so_far wires new) (so_far wires new) (spoke_line wires old new l e) (nothing_left n (so_far wires new) h)

pub gave_streams : (a : Acts) (after : Node) (old new : Spoken) → GaveActs after old new a → HasStreams after
gave_streams (Goes a) after old new g = g.streams
gave_streams (Worn x y) after old new g = absurd g

-- the kernel's turn, then what comes of its parts
some_answered : (r : Result Unit Stop) (after : Node) (old new : Spoken) (a : Acts) → Answers r after old new a → AnswersSome r after old new (Some a)
some_answered (Ok done) after old new a g = g
some_answered (Err (stop.Worn x y)) after old new a g = g
some_answered (Err (stop.NoMemory e)) after old new a g = tt

pub turn_answered : (r : Result Unit Stop) (after : Node) (n : NodeState) (k : Kernel) (parts : List Part) (t : Option Turned) (old new : Spoken) → kernel.MeetsSome k parts t
    → Answers r after old new (acts (record n { kernel = kernel.kernel_state k }) parts) → AnswersSome r after old new (turns n t)
turn_answered r after n k parts None old new h g = absurd h
turn_answered r after n k parts (Some t) old new h g =
    some_answered r after old new (acts (record n { kernel = t.state }) t.parts)
    (subst (λ ps. Answers r after old new (acts (record n { kernel = t.state }) ps)) h.parts
    (subst (λ s. Answers r after old new (acts (record n { kernel = s }) parts)) (kernel_is k t.state h.state) g))

-- what holds holds, memory or not
pub or_no_memory : {X : Type 0} (r : Result X Stop) (P : Type 0) → P → OrNoMemory r P
or_no_memory (Ok done) P h = h
or_no_memory (Err (stop.Worn from to)) P h = h
or_no_memory (Err (stop.NoMemory e)) P h = tt

-- what an event of the kernel says and routes is lawful, as all that it gives
pub lawful_parts : (k : Kernel) (ps : List Part) (o : Option Turned) → kernel.MeetsSome k ps o → ((t : Turned) → o ≡ Some t → IsLawfulTurned t) → All IsLawfulPart ps
lawful_parts k ps None h f = absurd h
lawful_parts k ps (Some t) h f = subst (All IsLawfulPart) (sym h.parts) (f t refl).parts.each
