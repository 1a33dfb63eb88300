-- Wherever all of it holds, each directive has its group.
use Rattle.dm_law_always.proofs.Names.{◌≡◌, ◌≢◌, ℕ, ◌+◌, ◌≤◌, ◌==◌, ◌&&◌, ◌||◌, Bool, true, false, not, List, [], ◌∷◌, refl, ap, ◌∙◌, sym, is_some, inl, inr, arith, ⊤, if◌then◌else◌, Option, None, Some, false≢true, Pid, pid_eq, MsgId}
use Rattle.dm_law_always.proofs.Names.{PlainMessage, Boot, IsValid, Step, Line, MessageKind, child_number, migrates, Point, moved, Spelled, group_of, Spot, Queue, Inbox, standing, StandsOutside, Told, Target, is_kernels, IsStep, arrives_net}
use Rattle.dm_law_always.proofs.Names.{resends_net, stands_right, StandsAsBag-elsewhere, Each, has_bytes, is_fixed, Life, OneKernel, pid_eq-is, cases_Bool, by_migrates, rooted, position_from, ◌++◌, length, Part, Of, Held}
use Rattle.dm_law_always.proofs.Names.{to_kernel, sends_on, by_calls_off, called_parts, is_still}
pub use Rattle.dm_law_rule.proofs.Moves.States.{front_one as stands_first}
use Rattle.dm_law_rule.specs.Rule as rule
use Rattle.dm_law_rule.specs.View as view
use Rattle.dm_law_always.proofs.Runs.{Run}
use Rattle.dm_law_always.proofs.Own.Told.{OwnTold, own_sort, OwnsFit, NoOwns, FirstOwns, ThenOwns, sends_own}
use Rattle.dm_law_always.proofs.Goes.Parts.{ArePlain, Can, Shape, Goes, goes, can_plain, can_line, can_net}
use Rattle.dm_law_always.proofs.Goes.Serves.{can_turn}
use Rattle.dm_law_always.proofs.Goes.Turns.{no_preds, queue_drops}
use Rattle.dm_law_always.proofs.Goes.Front.{here_free, begun, begun_sane, Calm, CanTurn, Front}
use Rattle.dm_law_always.proofs.Goes.Servers.{can_handle, server_number}
use Rattle.dm_law_always.proofs.Names.{Place, ToBoard, Child, option_map, switchboard, manager, none_some}
use Rattle.dm_law_always.proofs.Goes.Own.{FrontOwn, can_hear, sends_plain}

-- the message at the front of an inbox
abbrev is_box : Spot → Bool
is_box (Inbox m) = true
is_box _ = false

pub queue_apart : (m n : ℕ) (p : Pid) → Queue n p ≢ Inbox m
queue_apart m n p e = false≢true (ap is_box e)

pub told_of : (o : Option Told) → is_some o ≡ true → (t : Told) × (o ≡ Some t)
told_of None e = cc
told_of (Some t) e = (t, refl)

-- it is in the bag
pub front : (b : Boot) (m : ℕ) (o : Point) (i : MsgId) (is : List MsgId) (x : PlainMessage) → o.view.inbox m ≡ i ∷ is → o.kernel.bag i ≡ Some x → Run b o → Front b m o i x
front b m o i is x box there h =
    let first = stands_first o.view m i is box in
    let kept = stands_right o i h.based.phased.state (Some x) there in
    let (t, told) = told_of (o.view.told i) (h.found.told i (Inbox m) first) in
    record {
      rest = is;
      box = box;
      there = there;
      told = t;
      told_is = told;
      first = first;
      unqueued = λ n p. StandsAsBag-elsewhere (Some x) (standing o.view i) (Inbox m) (Queue n p) first (queue_apart m n p) kept;
      drops = λ q. queue_drops b m o q h.based;
      run = h;
    }

-- or it is a kernel's own
pub own_by : (c : Bool) (f : Spot → ℕ) (z : Spot) → 1 ≤ f z → StandsOutside c f → c ≡ true
own_by true f z least h = refl
own_by false f z least h = absurd (let e : f z ≡ 0 = h z in omega (arith, least, e))

pub front_own : (b : Boot) (m : ℕ) (o : Point) (i : MsgId) (is : List MsgId) → o.view.inbox m ≡ i ∷ is → o.kernel.bag i ≡ None → Run b o → OwnTold o → FrontOwn b m o i
front_own b m o i is box none h own =
    let first = stands_first o.view m i is box in
    let (t, told) = told_of (o.view.told i) (h.found.told i (Inbox m) first) in
    record { told = t; told_is = told; mine = own_by (is_kernels i) (standing o.view i) (Inbox m) first (stands_right o i h.based.phased.state None none); first = first; run = h; own = own }

can_front : (b : Boot) (m : ℕ) (o : Point) (i : MsgId) (is : List MsgId) (x : Option PlainMessage) → o.kernel.bag i ≡ x → o.view.inbox m ≡ i ∷ is → Run b o → OwnTold o → CanTurn m o (rule.comes_to b o m i (o.kernel.bag i))
can_front b m o i is (Some x) there box h own = can_handle b m o i x (front b m o i is x box there h) own
can_front b m o i is None none box h own = can_hear b m o i is box (front_own b m o i is box none h own) none

can_turn_by : (b : Boot) (m : ℕ) (o : Point) (box : List MsgId) → o.view.inbox m ≡ box → Run b o → OwnTold o → CanTurn m o (rule.turns b o m box)
can_turn_by b m o [] is h own = can_turn (Calm m o) b m o (begun o m) refl (λ q. refl) (λ q e. here_free o.kernel o.view m q h.based.noted ((rooted o h.based.phased.sane h.based.phased.ground).served m q e)) (λ q. queue_drops b m o q h.based) (λ c q. no_preds o m q (λ n. c.preds n q)) (λ c. c.ring) refl (begun_sane o m h.based.phased.sane)
can_turn_by b m o (i ∷ is) box h own = can_front b m o i is (o.kernel.bag i) refl box h own

-- the manager's children are processes
child_made : (s : OneKernel) (n k : ℕ) (p : Pid) (qs : List Pid) → (position_from (pid_eq p) n qs) ≡ Some k → Each (λ (q : Pid). has_bytes 0 (s.processes q) ≡ true) qs → has_bytes 0 (s.processes p) ≡ true
child_made s n k p [] e h = none_some k e
child_made s n k p (q ∷ qs) e h = elim (cases_Bool (pid_eq p q)) [
  | inl same ↦ ap (λ (r : Pid). has_bytes 0 (s.processes r)) (pid_eq-is p q same) ∙ h.0
  | inr off ↦ child_made s (n + 1) k p qs (sym (ap (λ (c : Bool). if c then Some n else (position_from (pid_eq p) (n + 1) qs)) off) ∙ e) h.1
]

some_life : (o : Option Life) → has_bytes 0 o ≡ true → is_some o ≡ true
some_life None e = cc
some_life (Some x) e = refl

child_num : (b : Boot) (pt : Point) (p : Pid) (n : ℕ) → child_number pt.kernel p ≡ Some n → Run b pt → (p.num == 0) ≡ false
child_num b pt p n is h = search (arith, some_life, pt.kernel.processes, child_made, pt.kernel, pt.kernel.manager.children, h.based.fits.children, h.based.phased.sane.sound.made.least)

-- so are those that it knows the place of
place_num : (b : Boot) (pt : Point) (p : Pid) (m : ℕ) (a : Place) (c d : Bool) (o : Option ℕ) → pid_eq p switchboard ≡ c → pid_eq p manager ≡ d → child_number pt.kernel p ≡ o → Run b pt
    → (if c then Some (pt.addresses ToBoard) else if d then Some (record { at = m; moves = pt.view.moves p }) else option_map (λ (n : ℕ). pt.addresses (Child n)) o) ≡ Some a → (p.num == 0) ≡ false
place_num b pt p m a true d o one two is h e = server_number p (ap (λ (c : Bool). c || pid_eq p manager) one)
place_num b pt p m a false true o one two is h e = server_number p (ap (λ (c : Bool). c || pid_eq p manager) one ∙ two)
place_num b pt p m a false false None one two is h e = absurd (let f : None ≡ Some a = e in cc)
place_num b pt p m a false false (Some n) one two is h e = child_num b pt p n is h

target_sort : (p : Pid) (m : ℕ) → is_fixed p ≡ false → own_sort MessageKind.Migrate p (Target m) ≡ true
target_sort p m e = ap (λ (c : Bool). not c && true) e

migrates_own : (b : Boot) (pt : Point) (p : Pid) (m : ℕ) → Run b pt → OwnsFit (moved pt (Line.Head (Step.Migrate p m)) pt.kernel).view (migrates pt p)
migrates_own b pt p m h =
    by_migrates (OwnsFit (moved pt (Line.Head (Step.Migrate p m)) pt.kernel).view) pt p (NoOwns (tt, tt)) (NoOwns (tt, tt))
    (λ a here knows. FirstOwns (target_sort p m (place_num b pt p pt.view.seat a (pid_eq p switchboard) (pid_eq p manager) (child_number pt.kernel p) refl refl refl h knows), tt))

-- what a group asks for to keep the order of messages
abbrev pub CalmFor : Point → Step → Type 0
CalmFor pt (Step.Turn m) = Calm m pt
CalmFor pt (Step.Migrate p m) = ⊥
CalmFor pt (Step.CallOff p m) = is_still (pt.view.known m p) ≡ true
CalmFor pt _ = ⊤

-- a group, whether it receives, and its kernels' own messages
pub record Group (b : Boot) (pt : Point) (d : Step) : Type 0 where
  pub goes : Goes (CalmFor pt d) b pt d
  pub shape : Shape (view.actor pt.view d) (moved pt (Line.Head d) pt.kernel) goes.parts
  pub owns : OwnsFit (moved pt (Line.Head d) pt.kernel).view goes.parts

group_by : (b : Boot) (pt : Point) (d : Step) → Can (CalmFor pt d) (view.actor pt.view d) (moved pt (Line.Head d) pt.kernel) (rule.outcome b pt d) → Group b pt d
group_by b pt d c = record { goes = goes (CalmFor pt d) b pt d c.ps c.is c.does; shape = c.shape; owns = c.owns }

pub group_on : (b : Boot) (pt : Point) (d : Step) → Run b pt → OwnTold pt → Group b pt d
group_on b pt (Step.Turn m) h own = group_by b pt (Step.Turn m) (can_turn_by b m pt (pt.view.inbox m) refl h own)
group_on b pt (Step.Tick m) h own = search (arith, pt.view, group_by, can_net, resends_net)
group_on b pt (Step.Deliver a c k) h own = search (arith, group_by, can_net, arrives_net)
group_on b pt (Step.Migrate p m) h own =
    let q = moved pt (Line.Head (Step.Migrate p m)) pt.kernel in
    group_by b pt (Step.Migrate p m) (can_plain ⊥ (view.actor pt.view (Step.Migrate p m)) q (migrates pt p) (λ c. c) (by_migrates (ArePlain q.view) pt p (refl, tt) (refl, tt) (λ a here knows. (tt, tt))) (migrates_own b pt p m h))
group_on b pt (Step.CallOff p m) h own =
    let q = moved pt (Line.Head (Step.CallOff p m)) pt.kernel in
    let calm = CalmFor pt (Step.CallOff p m) in
    let ids = pt.view.held m p in
    group_by b pt (Step.CallOff p m)
    (by_calls_off (λ (ps : List Part). Can calm m q (Some ps)) pt m p (can_line calm m q (Line.NoCall p) refl refl (λ c k o. o)) (λ from is come. (
    let end = to_kernel MessageKind.CallOff from ∷ [] in
    can_plain calm m q (called_parts p ids from) (λ c. absurd (false≢true (sym (ap is_still is) ∙ c))) (refl, sends_plain q.view from [] ids end (λ j least. absurd (omega (arith, least))) (λ j least. h.found.told j (Held m p) least) (tt, tt))
    (ThenOwns (Line.Called p (length ids)) (sends_on from ids ++ end) refl refl (sends_own (Of p) from ids end (refl, tt)))
    )))

-- each directive has its group
pub goes_on : (b : Boot) (pt : Point) (e : Step) → IsValid b → Run b pt → OwnTold pt → IsStep pt.kernel.machines e → (w : Spelled) × (group_of b pt e ≡ Some w)
goes_on b pt e valid h own fit = let g = (group_on b pt e h own).goes in (g.w, g.is)
