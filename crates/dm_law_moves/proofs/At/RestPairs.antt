-- No message goes from a machine that there isn't.
use Rattle.dm_law_moves.proofs.Names.{◌≡◌, ℕ, ◌<◌, ◌≤◌, Bool, true, false, List, [], ◌∷◌, ◌++◌, length, refl, subst, arith, if◌then◌else◌, nat_tests, Some, Pid, MsgId, MessageKind, Boot, IsValid, Step, Line, Load, IsStep, Leads, Part}
use Rattle.dm_law_moves.proofs.Names.{Spelled, spelled, Point, first_point, moved, group_of, at_pair, View, Pair, view_after, after_head, after_put, IsNetLine, group_is, acting_label, touches, pair_same, taken_pair, acting_taken}
use Rattle.dm_law_moves.proofs.Names.{proto_acting, queued_acting, held_acting, forwarded_acting, Run, Within, line_within}
use Rattle.dm_law_rule.specs.View as view
use Rattle.dm_law_moves.proofs.Leading.{All, Behind, whatever_put, parts_lead, Saying, outcome_says}
use Rattle.dm_law_moves.proofs.After.{keeps_always}

pub record Routed (n : ℕ) (v : View) : Type 0 where
  pub acting : v.acting < n
  pub none : (a b : ℕ) → n ≤ a → (v.pair a b).ids ≡ []

-- a pair changes, and its messages stay
ids_if : (c : Bool) (p q : Pair) → p.ids ≡ [] → (c ≡ true → q.ids ≡ []) → (if c then q else p).ids ≡ []
ids_if c p q h k = grind (arith, nat_tests)

kept : (n : ℕ) (v w : View) (a b : ℕ) (p : Pair) → w.acting ≡ v.acting → w.pair ≡ at_pair v.pair a b p → p.ids ≡ (v.pair a b).ids → Routed n v → Routed n w
kept n v w a b p acting pair ids h = grind (arith, nat_tests, ids_if)

-- a message goes from the acting machine
put_routed : (n : ℕ) (v : View) (b : ℕ) (i : MsgId) (k : MessageKind) (q : Pid) → Routed n v → Routed n (after_put v v.acting b i k q)
put_routed n v b i k q h = grind (arith, nat_tests, ids_if)

packet_routed : (n : ℕ) (v : View) (a b k : ℕ) (l : Load) → Routed n v → Routed n (view_after v (Line.Packet a b k l))
packet_routed n v a b k l h = kept n v (view_after v (Line.Packet a b k l)) a b (record (v.pair a b) { gone = view.gone_after l (v.pair a b).gone; wire = (v.pair a b).wire ++ record { load = l; delivered = false } ∷ [] }) refl refl refl h

-- the other lines
abbrev is_calm : Line → Bool
is_calm (Line.Head d) = false
is_calm (Line.Put a b id k q) = false
is_calm l = true

calm_line : (n : ℕ) (v : View) (l : Line) → is_calm l ≡ true → Routed n v → Routed n (view_after v l)
calm_line n v l calm h =
    grind (arith, nat_tests, packet_routed, kept, acting_taken, taken_pair, acting_label, pair_same, queued_acting, held_acting, forwarded_acting, proto_acting)

-- all parts are such lines, puts by the acting machine, and packets
abbrev PartCalm : Part → Type 0
PartCalm = Saying (λ l. is_calm l ≡ true)

routed_behind : (n : ℕ) (pt : Point) (p : Part) → PartCalm p → Routed n pt.view → Behind (λ q. Routed n q.view) pt p
routed_behind n pt p calm h = whatever_put (λ q. Routed n q.view) pt p (λ l is s step. record { acting = (calm_line n pt.view l (subst PartCalm is calm) h).acting; none = (calm_line n pt.view l (subst PartCalm is calm) h).none }) (λ b i k q. put_routed n pt.view b i k q h) h

routed_group : (n : ℕ) (b : Boot) (pt : Point) (d : Step) (w : Spelled) → IsStep n d → Within n pt.view → group_of b pt d ≡ Some w → Routed n pt.view → Routed n w.point.view
routed_group n b pt d w fit within is h =
    let net_calm : (l : Line) → IsNetLine l → is_calm l ≡ true = λ l h. grind (arith, nat_tests) in
    let calm_of : (l : Line) → touches l ≡ false → is_calm l ≡ true = λ l e. grind (arith, nat_tests) in
    let g = group_is b pt d w is in
    -- a group
    let acts : (after_head pt.view d).acting < n = (line_within n pt.view (Line.Head d) fit within).acting in
    let head_routed : Routed n (after_head pt.view d) = grind (arith, nat_tests, kept, acts) in
    let parts_routed : (n : ℕ) (ps : List Part) (pt : Point) (w : Spelled) → All PartCalm ps → spelled pt ps ≡ Some w → Routed n pt.view → Routed n w.point.view =
    λ n. parts_lead (λ q. Routed n q.view) (λ q a b k l h. packet_routed n q.view a b k l h) PartCalm (routed_behind n) in
    subst (λ (q : Point). Routed n q.view) g.point (parts_routed n g.parts (moved pt (Line.Head d) pt.kernel) g.rest (outcome_says (λ l. is_calm l ≡ true) calm_of net_calm b pt d g.parts g.is) g.said head_routed)

-- machines that know a process, and the acting one, are among those of the boot file
pub within_run : (b : Boot) (pt : Point) → Run b pt → Within (length b.machines) pt.view
within_run b pt run = subst (λ (n : ℕ). Within n pt.view) run.based.machines (record { known = λ m q some. run.found.known_within m q some; acting = run.kept.acting })

-- wherever the rule leads
pub routed_always : (b : Boot) (es : List Step) (pt : Point) → IsValid b → Leads b (first_point b) es pt → Routed (length b.machines) pt.view
routed_always b es pt valid leads =
    let some : 0 < length b.machines = let e = valid.some_machines in grind (arith, nat_tests) in
    keeps_always b (λ q. Routed (length b.machines) q.view) (λ q d w fit is run h. routed_group (length b.machines) b q d w (subst (λ (k : ℕ). IsStep k d) run.based.machines fit) (within_run b q run) is h)
    valid (record { acting = some; none = λ a c most. refl }) es pt leads
