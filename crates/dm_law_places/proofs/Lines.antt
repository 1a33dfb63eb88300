-- Lines that are no steps leave the kernel with places as it is, and a line that is one leads on.
use Rattle.dm_law_places.proofs.Names.{◌≡◌, ℕ, List, refl, ap, ◌∙◌, sym, subst, Option, Some, Pid, MsgId, plain_kind, Stage, PlainMessage, MessageKind, Label, OneKernel, Line, About, View, Told, after_label, handled, view_after, Addresses}
use Rattle.dm_law_places.proofs.Names.{Gets, first_gives, given, own_given, Point, Placed, Mirrors, KeepsPlaces, LinesKeep, own_none, first_none, ◌+◌, ◌==◌, not, filter, Pair, seen, sort_of, arith, nat_tests}
use Rattle.dm_law_rule.specs.View as view

-- another view, in which as many moves are counted
pub mirrors_view : (s : OneKernel) (v w : View) (a : Addresses) (l : Placed) → w.moves ≡ v.moves → Mirrors s v a l → Mirrors s w a l
mirrors_view s v w a l e h = search arith

moves_kills : (v : View) (k : MessageKind) (o : Option Pid) → (view.ends_by (sort_of k) v o).moves ≡ v.moves
moves_kills v k o = search arith

pub moves_label : (v : View) (e : Label) → (after_label v e).moves ≡ v.moves
moves_label v e = grind (arith, nat_tests, moves_kills)

moves_taken : (v : View) (b : ℕ) (o : Option MsgId) → (view.taken_id v b o).moves ≡ v.moves
moves_taken v b o = search arith

moves_queued : (v : View) (id : MsgId) (o : Option Pid) → (view.queued_for v id o).moves ≡ v.moves
moves_queued v id o = search arith

moves_held : (v : View) (id : MsgId) (o : Option Pid) → (view.held_for v id o).moves ≡ v.moves
moves_held v id o = search arith

moves_forgotten : (v : View) (a : About) → (view.forgotten v a).moves ≡ v.moves
moves_forgotten v a = search arith

moves_buried : (v : View) (o : Option Told) → (view.buried_for v o).moves ≡ v.moves
moves_buried v o = search (arith, moves_forgotten)

moves_on : (v : View) (a : About) → (view.asks_on v a).moves ≡ v.moves
moves_on v a = search arith

moves_proto : (v : View) (o : Option Told) → (view.after_proto v o).moves ≡ v.moves
moves_proto v o = search (arith, moves_on)

moves_sets : (v : View) (p : Pid) (a : About) → (view.sets_off v p a).moves ≡ v.moves
moves_sets v p a = search arith

-- a line that is no step leads to the point with its view, and the same addresses
says : (pt pt' : Point) (l : Placed) (x : Line) → (view_after pt.view x).moves ≡ pt.view.moves → Mirrors pt.kernel pt.view pt.addresses l
    → record { kernel = pt.kernel; view = seen pt.kernel pt.view x; addresses = pt.addresses } ≡ pt' → Mirrors pt'.kernel pt'.view pt'.addresses l
says pt pt' l x e h f = subst (λ (q : Point). Mirrors q.kernel q.view q.addresses l) f (mirrors_view pt.kernel pt.view (seen pt.kernel pt.view x) pt.addresses l e h)

-- a message that was put before, and one of the kernel's, get no addresses when they are put
pub told_keeps : (pt : Point) (from to : ℕ) (id : MsgId) (k : MessageKind) (q : Pid) (t : Told) → pt.view.told id ≡ Some t → KeepsPlaces pt (Line.Put from to id k q)
told_keeps pt from to id k q t told = ap (λ (o : Option Told). first_gives o (own_given pt.kernel pt.view pt.addresses id q (sort_of k))) told

pub routed_keeps : (pt : Point) (from to : ℕ) (id : MsgId) (m : PlainMessage) → KeepsPlaces pt (Line.Put from to id (plain_kind m.what) m.to)
routed_keeps pt from to id m = search (arith, first_none, own_none)

pub lines_keep : LinesKeep
lines_keep pt pt' l (Line.Head d) keeps h e = search (arith, says)
lines_keep pt pt' l (Line.Label x) keeps h e = absurd keeps
lines_keep pt pt' l (Line.Put from to id k q) keeps h e =
    let gives = first_gives (pt.view.told id) (own_given pt.kernel pt.view pt.addresses id q (sort_of k)) in
    let v = view_after pt.view (Line.Put from to id k q) in
    says pt pt' l (Line.Put from to id k q) refl h (ap (λ (g : List Gets). record { kernel = pt.kernel; view = v; addresses = given pt.addresses g }) (sym keeps) ∙ (cc))
lines_keep pt pt' l (Line.Taken from to n) keeps h e = says pt pt' l (Line.Taken from to n) (let p : Pair = pt.view.pair from to in let w = view.with_pair pt.view from to (record p { taken = p.taken + 1; kept = filter (λ k. not (k == n)) p.kept }) in moves_taken w to (view.oldest p)) h (cc)
lines_keep pt pt' l (Line.Queued id) keeps h e = says pt pt' l (Line.Queued id) (moves_queued (handled pt.view id) id (view.receiver_of (pt.view.told id))) h (cc)
lines_keep pt pt' l (Line.Held id) keeps h e = says pt pt' l (Line.Held id) (moves_held (handled pt.view id) id (view.receiver_of (pt.view.told id))) h (cc)
lines_keep pt pt' l (Line.Forwarded id m) keeps h e = absurd keeps
lines_keep pt pt' l (Line.Updated id n) keeps h e = absurd keeps
lines_keep pt pt' l (Line.Buried id n) keeps h e = says pt pt' l (Line.Buried id n) (moves_buried (handled pt.view id) (pt.view.told id)) h (cc)
lines_keep pt pt' l (Line.Migration Stage.Frozen p) keeps h e = says pt pt' l (Line.Migration Stage.Frozen p) (moves_sets pt.view p pt.view.topic) h (cc)
lines_keep pt pt' l (Line.Migration Stage.Asked p) keeps h e = says pt pt' l (Line.Migration Stage.Asked p) refl h (cc)
lines_keep pt pt' l (Line.Migration Stage.Accepted p) keeps h e = says pt pt' l (Line.Migration Stage.Accepted p) refl h (cc)
lines_keep pt pt' l (Line.Migration Stage.StateTaken p) keeps h e = says pt pt' l (Line.Migration Stage.StateTaken p) refl h (cc)
lines_keep pt pt' l (Line.Migration Stage.MemoryTaken p) keeps h e = says pt pt' l (Line.Migration Stage.MemoryTaken p) refl h (cc)
lines_keep pt pt' l (Line.Migration Stage.Left p) keeps h e = says pt pt' l (Line.Migration Stage.Left p) refl h (cc)
lines_keep pt pt' l (Line.Migration Stage.Restarted p) keeps h e = absurd keeps
lines_keep pt pt' l (Line.SentOn p n) keeps h e = absurd keeps
lines_keep pt pt' l (Line.Called p n) keeps h e = absurd keeps
lines_keep pt pt' l (Line.Proto id) keeps h e = says pt pt' l (Line.Proto id) (moves_proto (handled pt.view id) (pt.view.told id)) h (cc)
lines_keep pt pt' l any_ keeps h e = says pt pt' l any_ refl h (cc)
