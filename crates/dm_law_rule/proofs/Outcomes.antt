-- The outcome of a directive: what holds of each way that it may come about holds of it.
use Rattle.dm_law_rule.proofs.Names.{◌≡◌, ℕ, List, [], ◌∷◌, refl, subst, Option, None, Some, Pid, MsgId, Boot, PlainMessage, Step, Line, Load, Part, Says, Transmits, Point, migrates, bind, bind-is, Spelled, spelled, behind, lines_of, after}
use Rattle.dm_law_rule.proofs.Names.{moved, group_of, arith, calls_off}
use Rattle.dm_law_rule.proofs.Groups.{IsNetLine, IsNet, arrives_net, resends_net, group_is}
use Rattle.dm_law_rule.specs.Rule as rule
use Rattle.dm_law_rule.proofs.Hearing.{given}

-- what deliveries and repeats say and transmit, part by part
pub by_net : (P : List Part → Type 0) → P [] → ((l : Line) (ps : List Part) → IsNetLine l → P ps → P (Says l ∷ ps)) → ((a b : ℕ) (l : Load) (ps : List Part) → P ps → P (Transmits a b l ∷ ps)) → (ps : List Part) → IsNet ps → P ps
by_net P none says transmits [] h = none
by_net P none says transmits (Says l ∷ ps) h = says l ps h.0 (by_net P none says transmits ps h.1)
by_net P none says transmits (Transmits a b l ∷ ps) h = transmits a b l ps (by_net P none says transmits ps h.1)
by_net P none says transmits _ h = absurd h.0

-- an empty inbox, a message of the bag at its front, one that kernels sent, repeats, a delivery, a request to move a process, and the calling off of a migration
pub record Outcomes (P : Step → List Part → Type 0) (b : Boot) (o : Point) : Type 0 where
  pub round : (m : ℕ) (ps : List Part) → o.view.inbox m ≡ [] → rule.goes_round b o m (rule.first_runnable o.kernel (o.view.queue m) (o.view.ring m)) ≡ Some ps → P (Step.Turn m) ps
  pub handles : (m : ℕ) (i : MsgId) (is : List MsgId) (msg : PlainMessage) (ps : List Part) → o.view.inbox m ≡ i ∷ is → o.kernel.bag i ≡ Some msg → rule.handles b o m i msg ≡ Some ps → P (Step.Turn m) ps
  pub hears : (m : ℕ) (i : MsgId) (is : List MsgId) (ps : List Part) → o.view.inbox m ≡ i ∷ is → o.kernel.bag i ≡ None → rule.hears b o m i (o.view.told i) ≡ Some ps → P (Step.Turn m) ps
  pub ticks : (m : ℕ) (ps : List Part) → IsNet ps → P (Step.Tick m) ps
  pub delivers : (a c k : ℕ) (ps : List Part) → IsNet ps → P (Step.Deliver a c k) ps
  pub asks : (p : Pid) (m : ℕ) → P (Step.Migrate p m) (migrates o p)
  pub calls : (p : Pid) (m : ℕ) → P (Step.CallOff p m) (calls_off o m p (o.view.known m p))

by_front : (P : Step → List Part → Type 0) (b : Boot) (o : Point) (m : ℕ) (i : MsgId) (is : List MsgId) (q : Option PlainMessage) (ps : List Part) → o.view.inbox m ≡ i ∷ is → o.kernel.bag i ≡ q → Outcomes P b o → rule.comes_to b o m i q ≡ Some ps → P (Step.Turn m) ps
by_front P b o m i is None ps box there h e = h.hears m i is ps box there e
by_front P b o m i is (Some msg) ps box there h e = h.handles m i is msg ps box there e

by_turns : (P : Step → List Part → Type 0) (b : Boot) (o : Point) (m : ℕ) (inbox : List MsgId) (ps : List Part) → o.view.inbox m ≡ inbox → Outcomes P b o → rule.turns b o m inbox ≡ Some ps → P (Step.Turn m) ps
by_turns P b o m [] ps box h e = h.round m ps box e
by_turns P b o m (i ∷ is) ps box h e = by_front P b o m i is (o.kernel.bag i) ps box refl h e

pub by_outcome : (P : Step → List Part → Type 0) (b : Boot) (o : Point) (d : Step) (ps : List Part) → Outcomes P b o → rule.outcome b o d ≡ Some ps → P d ps
by_outcome P b o d ps h1 h2 = search (arith, by_turns, given, resends_net, arrives_net)

-- what is said and where it leads, part by part
pub by_parts : (P : List Part → Point → Spelled → Type 0) → ((pt : Point) → P [] pt (record { lines = []; point = pt }))
    → ((p : Part) (ps : List Part) (pt next : Point) (ls : List Line) (z : Spelled) → lines_of pt p ≡ Some ls → after pt ls ≡ Some next → P ps next z → P (p ∷ ps) pt (behind ls z)) → (ps : List Part) (pt : Point) (w : Spelled) → spelled pt ps ≡ Some w → P ps pt w
by_parts P none more [] pt w e = let f : record { lines = []; point = pt } ≡ w = cc in subst (P [] pt) f (none pt)
by_parts P none more (p ∷ ps) pt w e =
    let (ls, lines, rest) = bind-is (lines_of pt p) (λ (xs : List Line). bind (after pt xs) (λ (q : Point). bind (spelled q ps) (λ (z : Spelled). Some (behind xs z)))) w e in
    let (next, leads, last) = bind-is (after pt ls) (λ (q : Point). bind (spelled q ps) (λ (z : Spelled). Some (behind ls z))) w rest in
    let (z, is, end) = bind-is (spelled next ps) (λ (y : Spelled). Some (behind ls y)) w last in
    let f : behind ls z ≡ w = cc in subst (P (p ∷ ps) pt) f (more p ps pt next ls z lines leads (by_parts P none more ps next z is))

-- a group is its head and what is spelled behind it
pub by_group : (P : Spelled → Type 0) (b : Boot) (pt : Point) (d : Step) (w : Spelled) → ((ps : List Part) (rest : Spelled) → rule.outcome b pt d ≡ Some ps → spelled (moved pt (Line.Head d) pt.kernel) ps ≡ Some rest → P (rule.behind (Line.Head d ∷ []) rest))
    → group_of b pt d ≡ Some w → P w
by_group P b pt d w h e = let g = group_is b pt d w e in subst P g.whole (h g.parts g.rest g.is g.said)
