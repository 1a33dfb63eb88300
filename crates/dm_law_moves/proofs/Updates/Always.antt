-- A group that says that an update was handled says nothing else, and where it leads.
use Rattle.dm_law_moves.proofs.Names.{◌&&◌, ◌≡◌, ◌⊎◌, ℕ, ◌<◌, ◌≤◌, ◌==◌, Bool, true, false, not, [], ◌++◌, refl, ap, ◌∙◌, sym, inl, inr, nat_lt, arith, if◌then◌else◌, cases_Bool, false≢true, nat_tests, Option, None, Some, Pid, Place, pid_eq}
use Rattle.dm_law_moves.proofs.Names.{MsgId, Boot, switchboard, manager, OneKernel, pid_eq-same, Step, Addresses, Holder, belongs_to, leads_to, is_behind, place_told, updated, holders_of, behind_among, behind_count, holders_numbered}
use Rattle.dm_law_moves.proofs.Names.{answers_in, slot_holders, Spelled, Point, View, Told, About, Unknown, after_head, is_server, KnownStands, Updated, UpdatesAlways, front_own, Both, is_place, own_sort, run_always, pid_there, second, zero}
use Rattle.dm_law_moves.proofs.Names.{suc, ◌+◌, List, ◌∷◌, length, slice_get, slice_get_cases, PlainLink, link_at, NamedLink, Pending, PlainProcess, pid_eq-is, not_server, alive-is, Slot, Owner, Child, Name, Answer, ToBoard, holder_eq, link_target}
use Rattle.dm_law_moves.proofs.Names.{ascends, listings, is_owner, group_is, ◌||◌, MessageKind, plain_kind, Line, Part, Says, lines_of, spelled, moved, GroupIs, by_parts, sends_on, by_migrates, by_hears, option_and_then, option_map_or}
use Rattle.dm_law_moves.proofs.Names.{by_net, by_outcome, ⊤, PlainMessage, forwards_on, Loose, loose_round, loose_handles, by_forwards, by_calls_off, to_kernel, false_from_ne_true, preds_of, buries_kept, Run, Inbox, standing}
use Rattle.dm_law_moves.proofs.Names.{is_alive, is_some, stands_first}
use Rattle.dm_law_one.proofs.Entered.{Made}
use Rattle.dm_law_moves.proofs.Leading.{lines_are}
use Rattle.dm_onekernel.specs.Step as kernel
use Rattle.dm_law_rule.specs.View as view
use Rattle.dm_onekernel.specs.Manager as manage
use Rattle.dm_law_rule.specs.Rule as rule

-- the update is at the front of an inbox and not in the bag: its receiver is a server or here and the line counts the addresses
-- that are behind, or its receiver has ended
pub record Handles (o : Point) (m : ℕ) (id : MsgId) (n : ℕ) : Type 0 where
  pub told : Told
  pub is : o.view.told id ≡ Some told
  pub update : told.kind ≡ MessageKind.Update
  pub counts : (n ≡ behind_count o.kernel o.addresses told.receiver (place_told told.about)) ⊎ ((n ≡ 0) × (o.view.known m told.receiver ≡ Unknown) × ((told.receiver.num == 0) ≡ false))
  pub rest : List MsgId
  pub box : o.view.inbox m ≡ id ∷ rest
  pub none : o.kernel.bag id ≡ None

-- no update is handled
abbrev pub is_updated : Line → Bool
is_updated (Line.Updated id n) = true
is_updated l = false

abbrev pub PartQuiet : Part → Type 0
PartQuiet (Says l) = is_updated l ≡ false
PartQuiet _ = ⊤

abbrev pub AllQuiet : List Part → Type 0
AllQuiet [] = ⊤
AllQuiet (p ∷ ps) = PartQuiet p × AllQuiet ps

-- the parts of a group: none of them says so, or the only one
pub data Shape (o : Point) (ps : List Part) : Type 0 where
  Quiet : AllQuiet ps → Shape o ps
  Updates : (m : ℕ) → (id : MsgId) → (n : ℕ) → ps ≡ Says (Line.Updated id n) ∷ [] → Handles o m id n → Shape o ps

quiet_loose : Loose AllQuiet
quiet_loose = record { none = tt; label = λ l ps h. (refl, h); routes = λ i ps h. (tt, h); buries = λ to ps h. (tt, h) }

-- a message of the bag
pub forwards_shape : (o : Point) (c : Addresses) (id : MsgId) (k : MessageKind) (sender : Pid) (to : ℕ) → Shape o (forwards_on c id k sender to)
forwards_shape o c id k sender to = by_forwards (Shape o) c id k sender to (Quiet (refl, (tt, tt))) (Quiet (refl, (tt, (tt, tt))))

pub handles_shape : (b : Boot) (o : Point) (m : ℕ) (id : MsgId) (msg : PlainMessage) (ps : List Part) → rule.handles b o m id msg ≡ Some ps → Shape o ps
handles_shape b o m id msg ps e =
    loose_handles (Shape o) AllQuiet quiet_loose (λ xs. Quiet) b o m id msg ps (λ here. Quiet (refl, tt)) (Quiet (refl, tt)) (λ to here what apart. Quiet (refl, (refl, (refl, (tt, tt))))) (λ to moves at_. forwards_shape o o.addresses id (plain_kind msg.what) msg.sender to) e

-- a kernel's own message
sends_quiet : (to : ℕ) (ids : List MsgId) (ps : List Part) → AllQuiet ps → AllQuiet (sends_on to ids ++ ps)
sends_quiet to [] ps h = h
sends_quiet to (i ∷ is) ps h = (tt, sends_quiet to is ps h)

-- a kernel's own message at the front of an inbox
pub record Front (o : Point) (m : ℕ) (id : MsgId) (t : Told) : Type 0 where
  pub is : o.view.told id ≡ Some t
  pub rest : List MsgId
  pub box : o.view.inbox m ≡ id ∷ rest
  pub none : o.kernel.bag id ≡ None

hears_shape : (b : Boot) (o : Point) (m : ℕ) (id : MsgId) (is : List MsgId) (q : Option Told) (ps : List Part) → o.view.told id ≡ q → o.view.inbox m ≡ id ∷ is → o.kernel.bag id ≡ None → rule.hears b o m id q ≡ Some ps → Shape o ps
hears_shape b o m id is q ps told box none = by_hears (Shape o) b o m id q ps (λ t there. (
    let f : Front o m id t = record { is = told ∙ there; rest = is; box = box; none = none } in
    record {
      stale = λ p about late. Quiet (refl, tt);
      buried = λ p about kind. Quiet (refl, buries_kept AllQuiet tt (λ to xs h. (tt, h)) (preds_of o m p));
      told = λ p x about alive due. grind (arith, nat_tests, sends_quiet);
      updated = λ kind. Updates m id (behind_count o.kernel o.addresses t.receiver (place_told t.about)) refl (record { told = t; is = f.is; update = kind; counts = inl refl; rest = f.rest; box = f.box; none = f.none });
      updated_none = λ kind at_. Updates m id 0 refl (record { told = t; is = f.is; update = kind; counts = inr (refl, at_.known, at_.kernel); rest = f.rest; box = f.box; none = f.none });
      no_move = λ at_. Quiet (refl, tt);
      leaving = λ to at_. Quiet (refl, tt);
      coming = λ from at_. Quiet (refl, tt);
      forwarded = λ to moves at_. forwards_shape o o.addresses id t.kind manager to;
      stays_here = λ at_. Quiet (refl, tt);
      frozen = λ to at_. Quiet (refl, (refl, (tt, tt)));
    }
    ))

-- the other directives
pub outcome_shape : (b : Boot) (o : Point) (d : Step) (ps : List Part) → rule.outcome b o d ≡ Some ps → Shape o ps
outcome_shape b o d ps = by_outcome (λ x. Shape o) b o d ps (record {
  round = λ m xs box e. Quiet (loose_round AllQuiet quiet_loose b o m (rule.first_runnable o.kernel (o.view.queue m) (o.view.ring m)) xs (refl, tt) e);
  handles = λ m i is msg xs box there e. handles_shape b o m i msg xs e;
  hears = λ m i is xs box none e. hears_shape b o m i is (o.view.told i) xs refl box none e;
  ticks = λ m xs net. Quiet ((by_net AllQuiet tt (λ l ps net h. ((let e_ : is_updated l ≡ false = grind (arith, nat_tests) in e_), h)) (λ a b l ps h. (tt, h))) xs net);
  delivers = λ a c k xs net. Quiet ((by_net AllQuiet tt (λ l ps net h. ((let e_ : is_updated l ≡ false = grind (arith, nat_tests) in e_), h)) (λ a b l ps h. (tt, h))) xs net);
  asks = λ p m. Quiet (by_migrates AllQuiet o p (refl, tt) (refl, tt) (λ n off is. (tt, tt)));
  calls = λ p m. Quiet (by_calls_off AllQuiet o m p (refl, tt) (λ from is come. (refl, sends_quiet from (o.view.held m p) (to_kernel MessageKind.CallOff from ∷ []) (tt, tt))));
})

abbrev begun : Point → Step → Point
begun pt d = moved pt (Line.Head d) pt.kernel

-- whether one of the lines says so
abbrev has : List Line → Bool
has [] = false
has (l ∷ ls) = is_updated l || has ls

has_in : (xs ys : List Line) (id : MsgId) (n : ℕ) → has (xs ++ Line.Updated id n ∷ ys) ≡ true
has_in [] ys id n = refl
has_in (x ∷ xs) ys id n = ap (λ (c : Bool). is_updated x || c) (has_in xs ys id n) ∙ (let e_ : ((is_updated x) || true) ≡ true = grind (arith, nat_tests) in e_)

neither : (xs ys : List Line) → has xs ≡ false → has ys ≡ false → has (xs ++ ys) ≡ false
neither [] ys e f = f
neither (x ∷ xs) ys e f =
    let neither_if : (c : Bool) (xs ys zs : List Line) → (has xs ≡ false → has zs ≡ false) → (c || has xs) ≡ false → (c || has zs) ≡ false = λ c xs ys zs rest e. grind (arith, nat_tests) in
    neither_if (is_updated x) xs ys (xs ++ ys) (λ g. neither xs ys g f) e

-- what was handled, and where it leads
pub record Handled (b : Boot) (pt : Point) (d : Step) (w : Spelled) (id : MsgId) (n : ℕ) : Type 0 where
  pub machine : ℕ
  pub handles : Handles pt machine id n
  pub lines : w.lines ≡ Line.Head d ∷ Line.Updated id n ∷ []
  pub point : moved (begun pt d) (Line.Updated id n) pt.kernel ≡ w.point

-- the only line of two that says so is the second
same_line : (d : Step) (xs ys : List Line) (id i : MsgId) (n k : ℕ) → xs ++ Line.Updated id n ∷ ys ≡ Line.Head d ∷ Line.Updated i k ∷ [] → Line.Updated i k ≡ Line.Updated id n
same_line d [] ys id i n k e = absurd (false≢true (sym (ap first_is e)))
  where
    first_is : List Line → Bool
    first_is [] = false
    first_is (l ∷ ls) = is_updated l
same_line d (x ∷ []) ys id i n k e = let f : Line.Updated id n ∷ ys ≡ Line.Updated i k ∷ [] = cc in cc
same_line d (x ∷ y ∷ zs) ys id i n k e =
    let f : zs ++ Line.Updated id n ∷ ys ≡ [] = cc in
    absurd (false≢true (sym (ap has f) ∙ has_in zs ys id n))

pub by_shape : (b : Boot) (pt : Point) (d : Step) (w : Spelled) (id : MsgId) (n : ℕ) (xs ys : List Line) (g : GroupIs b pt d w) → w.lines ≡ xs ++ Line.Updated id n ∷ ys → Shape pt g.parts → Handled b pt d w id n
by_shape b pt d w id n xs ys g there (Quiet quiet) =
    let parts_have : (ps : List Part) (pt : Point) (w : Spelled) → AllQuiet ps → spelled pt ps ≡ Some w → has w.lines ≡ false = λ ps pt w quiet is.
    let part_has : (pt : Point) (p : Part) (ls : List Line) → PartQuiet p → lines_of pt p ≡ Some ls → has ls ≡ false = λ pt p ls quiet is. grind (arith, nat_tests, lines_are) in
    by_parts (λ qs q v. AllQuiet qs → has v.lines ≡ false) (λ q h. refl) (λ x qs q next ls z lines leads rest h. neither ls z.lines (part_has q x ls h.0 lines) (rest h.1)) ps pt w is quiet in
    absurd (false≢true (sym (parts_have g.parts (begun pt d) g.rest quiet g.said) ∙ ap (λ (x : Spelled). has x.lines) g.whole ∙ ap has there ∙ has_in xs ys id n))
by_shape b pt d w id n xs ys g there (Updates m i k form handles) = search (arith, pt.kernel, g.rest, g.said, w.lines, g.whole, w.point, same_line)

-- What an update does wherever the rule leads.

-- where a list has something
got : {X : Type 0} (xs : List X) (k : ℕ) (x : X) → slice_get xs k ≡ Some x → k < length xs
got xs k x e = elim (slice_get_cases xs k).1 [
  | inl w ↦ w.1
  | inr w ↦ absurd (let f : None ≡ Some x = sym w.1 ∙ e in cc)
]

-- slots
slots_below : (p q : Pid) (k n : ℕ) (ls : List (Option PlainLink)) → k < n → listings (Slot p k) (holders_numbered (Slot q) n ls) ≡ 0
slots_below p q k n [] le = refl
slots_below p q k n (l ∷ ls) le = grind (arith, nat_tests, slots_below p q k (n + 1) ls)

slots_once : (p q : Pid) (k n : ℕ) (ls : List (Option PlainLink)) → pid_eq q p ≡ true → n ≤ k → k < n + length ls → listings (Slot p k) (holders_numbered (Slot q) n ls) ≡ 1
slots_once p q k n [] same least most = absurd (omega (arith, least, most))
slots_once p q k n (l ∷ ls) same least most = grind (arith, nat_tests, slots_below, slots_once p q k (n + 1) ls same)

-- names and children, by number
pub record Counts (f : ℕ → Holder) : Type 0 where
  pub eq : (m n : ℕ) → holder_eq (f m) (f n) ≡ (m == n)

numbered_below : {X : Type 0} (f : ℕ → Holder) (k n : ℕ) (xs : List X) → Counts f → k < n → listings (f k) (holders_numbered f n xs) ≡ 0
numbered_below f k n [] c le = refl
numbered_below f k n (x ∷ xs) c le = grind (arith, nat_tests, numbered_below f k (n + 1) xs c)

numbered_once : {X : Type 0} (f : ℕ → Holder) (k n : ℕ) (xs : List X) → Counts f → n ≤ k → k < n + length xs → listings (f k) (holders_numbered f n xs) ≡ 1
numbered_once f k n [] c least most = absurd (omega (arith, least, most))
numbered_once f k n (x ∷ xs) c least most = grind (arith, nat_tests, numbered_below, numbered_once f k (n + 1) xs c)

-- requests, whose numbers ascend
answers_below : (k from to : ℕ) (rs : List Pending) → ascends from rs to ≡ true → k < from → listings (Answer k) (answers_in rs) ≡ 0
answers_below k from to [] up le = refl
answers_below k from to (r ∷ rs) up le =
    let least : from ≤ r.n = grind (arith, nat_tests) in
    let more : ascends (r.n + 1) rs to ≡ true = grind (arith, nat_tests) in
    let off : (r.n == k) ≡ false = grind (arith, nat_tests) in
    let rest = answers_below k (r.n + 1) to rs more (omega (arith, least, le)) in
    let first : listings (Answer k) (answers_in (r ∷ rs)) ≡ 0 + listings (Answer k) (answers_in rs) = ap (λ (c : Bool). (if c then 1 else 0) + listings (Answer k) (answers_in rs)) off in
    omega (arith, first, rest)

answers_once : (k from to : ℕ) (rs : List Pending) (r : Pending) → ascends from rs to ≡ true → manage.pending_numbered k rs ≡ Some r → listings (Answer k) (answers_in rs) ≡ 1
answers_once k from to [] r up e = absurd (let f : None ≡ Some r = e in cc)
answers_once k from to (x ∷ xs) r up e = elim (cases_Bool (x.n == k)) [
  | inl same ↦
      let more : ascends (x.n + 1) xs to ≡ true = grind (arith, nat_tests) in
      let g : x.n ≡ k = grind (arith, nat_tests) in
      let rest = answers_below k (x.n + 1) to xs more (omega (arith, g)) in
      let first : listings (Answer k) (answers_in (x ∷ xs)) ≡ 1 + listings (Answer k) (answers_in xs) = ap (λ (c : Bool). (if c then 1 else 0) + listings (Answer k) (answers_in xs)) same in
      omega (arith, first, rest)
  | inr off ↦
      let more : ascends (x.n + 1) xs to ≡ true = grind (arith, nat_tests) in
      let rest = answers_once k (x.n + 1) to xs r more (sym (ap (λ (c : Bool). if c then Some x else manage.pending_numbered k xs) off) ∙ e) in
      let first : listings (Answer k) (answers_in (x ∷ xs)) ≡ 0 + listings (Answer k) (answers_in xs) = ap (λ (c : Bool). (if c then 1 else 0) + listings (Answer k) (answers_in xs)) off in
      omega (arith, first, rest)
]

-- two lists
listings-append : (h : Holder) (xs ys : List Holder) → listings h (xs ++ ys) ≡ listings h xs + listings h ys
listings-append h [] ys = omega arith
listings-append h (x ∷ xs) ys = let f = listings-append h xs ys in omega (arith, f)

no_answer : (k : ℕ) (rs : List Pending) → listings (Child k) (answers_in rs) ≡ 0
no_answer k [] = refl
no_answer k (r ∷ rs) = let f = no_answer k rs in omega (arith, f)

no_child : {X : Type 0} (k n : ℕ) (xs : List X) → listings (Answer k) (holders_numbered Child n xs) ≡ 0
no_child k n [] = refl
no_child k n (x ∷ xs) = let f = no_child k (n + 1) xs in omega (arith, f)

-- where the switchboard is
no_child_board : {X : Type 0} (n : ℕ) (xs : List X) → listings ToBoard (holders_numbered Child n xs) ≡ 0
no_child_board n [] = refl
no_child_board n (x ∷ xs) = let f = no_child_board (n + 1) xs in omega (arith, f)

no_answer_board : (rs : List Pending) → listings ToBoard (answers_in rs) ≡ 0
no_answer_board [] = refl
no_answer_board (r ∷ rs) = let f = no_answer_board rs in omega (arith, f)

-- all that the manager has
managers : (h : Holder) (s : OneKernel) → listings h (holders_numbered Child 1 s.manager.children ++ answers_in s.manager.pending ++ ToBoard ∷ []) ≡ listings h (holders_numbered Child 1 s.manager.children) + (listings h (answers_in s.manager.pending) + listings h (ToBoard ∷ []))
managers h s =
    let last = listings-append h (holders_numbered Child 1 s.manager.children ++ answers_in s.manager.pending) (ToBoard ∷ []) in
    let first = listings-append h (holders_numbered Child 1 s.manager.children) (answers_in s.manager.pending) in
    omega (arith, last, first)

-- each by what it belongs to
slot_link : (o : Option PlainProcess) (k : ℕ) (q : Pid) → link_target (option_and_then (λ x. link_at x.links k) o) ≡ Some q → (x : PlainProcess) × (o ≡ Some x) × (k < length x.links)
slot_link None k q e = absurd (let f : None ≡ Some q = e in cc)
slot_link (Some x) k q e = (x, refl, at_place x.links k q e)
  where
    at_place : (ls : List (Option PlainLink)) (k : ℕ) (q : Pid) → link_target (link_at ls k) ≡ Some q → k < length ls
    at_place [] k q e = absurd (let f : None ≡ Some q = e in cc)
    at_place (l ∷ ls) zero q e = let long : length (l ∷ ls) ≡ length ls + 1 = omega arith in omega (arith, long)
    at_place (l ∷ ls) (suc k) q e = let f = at_place ls k q e in let long : length (l ∷ ls) ≡ length ls + 1 = omega arith in omega (arith, long, f)

abbrev listed_as : OneKernel → Pid → Bool → Bool → List Holder
listed_as s q c d = if c then holders_numbered Name 0 s.switchboard.names else if d then holders_numbered Child 1 s.manager.children ++ answers_in s.manager.pending ++ ToBoard ∷ [] else slot_holders q (kernel.alive (s.processes q))

not_board : (q : Pid) → pid_eq q manager ≡ true → pid_eq q switchboard ≡ false
not_board q e = grind (arith, nat_tests)

pub listed : (s : OneKernel) (q : Pid) (h : Holder) (r : Pid) → Made s → ascends 0 s.manager.pending s.manager.sent ≡ true → belongs_to q h ≡ true → is_owner h ≡ false → leads_to s h ≡ Some r → listings h (holders_of s q) ≡ 1
listed s q (Slot p k) r made up mine other leads =
    let (x, alive, within) = slot_link (kernel.alive (s.processes p)) k r leads in
    let same : p ≡ q = pid_eq-is p q mine in
    let not = not_server s p x (alive-is (s.processes p) x alive) made in
    let board : pid_eq q switchboard ≡ false = ap (λ (z : Pid). pid_eq z switchboard) (sym same) ∙ not.0 in
    let man : pid_eq q manager ≡ false = ap (λ (z : Pid). pid_eq z manager) (sym same) ∙ not.1 in
    let there : kernel.alive (s.processes q) ≡ Some x = ap (λ (z : Pid). kernel.alive (s.processes z)) (sym same) ∙ alive in
    let back : pid_eq q p ≡ true = ap (pid_eq q) same ∙ pid_eq-same q in
    ap (λ (c : Bool). listings (Slot p k) (listed_as s q c (pid_eq q manager))) board
    ∙ ap (λ (c : Bool). listings (Slot p k) (listed_as s q false c)) man
    ∙ ap (λ (o : Option PlainProcess). listings (Slot p k) (slot_holders q o)) there
    ∙ slots_once p q k 0 x.links back (omega arith) (omega (arith, within))
listed s q (Owner p) r made up mine other leads = absurd (false≢true (sym other))
listed s q (Child zero) r made up mine other leads = absurd (let f : None ≡ Some r = leads in cc)
listed s q (Child (suc n)) r made up mine other leads =
    let within = got s.manager.children n r leads in
    let once : listings (Child (suc n)) (holders_numbered Child 1 s.manager.children) ≡ 1 = numbered_once Child (suc n) 1 s.manager.children (record { eq = λ i j. refl }) (omega arith) (omega (arith, within)) in
    let none = no_answer (suc n) s.manager.pending in
    let sum = managers (Child (suc n)) s in
    let last : listings (Child (suc n)) (ToBoard ∷ []) ≡ 0 = refl in
    ap (λ (c : Bool). listings (Child (suc n)) (listed_as s q c (pid_eq q manager))) (not_board q mine)
    ∙ ap (λ (c : Bool). listings (Child (suc n)) (listed_as s q false c)) mine
    ∙ (let f : listings (Child (suc n)) (holders_numbered Child 1 s.manager.children ++ answers_in s.manager.pending ++ ToBoard ∷ []) ≡ 1 = omega (arith, once, none, sum, last) in f)
listed s q (Name n) r made up mine other leads =
    let (k, there) = (let e_ : (k : NamedLink) × ((slice_get s.switchboard.names n) ≡ Some k) = grind (arith, nat_tests) in e_) in
    ap (λ (c : Bool). listings (Name n) (listed_as s q c (pid_eq q manager))) mine
    ∙ numbered_once Name n 0 s.switchboard.names (record { eq = λ i j. refl }) (omega arith) (let f = got s.switchboard.names n k there in omega (arith, f))
listed s q (Answer n) r made up mine other leads =
    let (k, there) = (let e_ : (k : Pending) × ((manage.pending_numbered n s.manager.pending) ≡ Some k) = grind (arith, nat_tests) in e_) in
    let none = no_child n 1 s.manager.children in
    let once = answers_once n 0 s.manager.sent s.manager.pending k up there in
    let sum = managers (Answer n) s in
    let last : listings (Answer n) (ToBoard ∷ []) ≡ 0 = refl in
    ap (λ (c : Bool). listings (Answer n) (listed_as s q c (pid_eq q manager))) (not_board q mine)
    ∙ ap (λ (c : Bool). listings (Answer n) (listed_as s q false c)) mine
    ∙ (let f : listings (Answer n) (holders_numbered Child 1 s.manager.children ++ answers_in s.manager.pending ++ ToBoard ∷ []) ≡ 1 = omega (arith, once, none, sum, last) in f)
listed s q ToBoard r made up mine other leads =
    let child = no_child_board 1 s.manager.children in
    let answer = no_answer_board s.manager.pending in
    let sum = managers ToBoard s in
    let once : listings ToBoard (ToBoard ∷ []) ≡ 1 = refl in
    ap (λ (c : Bool). listings ToBoard (listed_as s q c (pid_eq q manager))) (not_board q mine)
    ∙ ap (λ (c : Bool). listings ToBoard (listed_as s q false c)) mine
    ∙ (let f : listings ToBoard (holders_numbered Child 1 s.manager.children ++ answers_in s.manager.pending ++ ToBoard ∷ []) ≡ 1 = omega (arith, once, child, answer, sum) in f)
listed s q _ r made up mine other leads = absurd (false≢true mine)

-- what it tells
record Tells (a : About) : Type 0 where
  process : Pid
  place : Place
  is : a ≡ view.Place process place.at place.moves

tells : (a : About) → is_place a ≡ true → Tells a
tells (view.Place p m c) e = record { process = p; place = record { at = m; moves = c }; is = refl }
tells _ e = absurd (false≢true e)

record Kept (v w : View) : Type 0 where
  known : w.known ≡ v.known
  queue : w.queue ≡ v.queue
  held : w.held ≡ v.held
  ring : w.ring ≡ v.ring

behind_is : (s : OneKernel) (a : Addresses) (q p : Pid) (c : ℕ) (h : Holder) (x : Bool) → belongs_to q h ≡ true → leads_to s h ≡ Some p → nat_lt (a h).moves c ≡ x → is_behind s a q p c h ≡ x
behind_is s a q p c h x mine leads e = grind (arith, nat_tests)

-- who isn't known where a message for it stands is no server, and doesn't live
record Linkless (s : OneKernel) (q : Pid) : Type 0 where
  server : is_server q ≡ false
  lives : kernel.alive (s.processes q) ≡ None

ended_loose : (b : Boot) (pt : Point) (m : ℕ) (id : MsgId) (t : Told) → Run b pt → 1 ≤ standing pt.view id (Inbox m) → pt.view.told id ≡ Some t → pt.view.known m t.receiver ≡ Unknown → (t.receiver.num == 0) ≡ false → Linkless pt.kernel t.receiver
ended_loose b pt m id t run stands told unknown other =
    let q = t.receiver in
    let dead : is_alive pt.kernel q ≡ false = false_from_ne_true (is_alive pt.kernel q) (λ lives. run.found.process id (Inbox m) t stands told other lives unknown) in
    let server : is_server q ≡ false = false_from_ne_true (is_server q) (λ is. false≢true (sym dead ∙ ap (λ (c : Bool). c || is_some (kernel.alive (pt.kernel.processes q))) is)) in
    record { server = server; lives = dead_none (kernel.alive (pt.kernel.processes q)) (sym (ap (λ (c : Bool). c || is_some (kernel.alive (pt.kernel.processes q))) server) ∙ dead) }
  where
    dead_none : {X : Type 0} (o : Option X) → is_some o ≡ false → o ≡ None
    dead_none None e = refl
    dead_none (Some x) e = absurd (false≢true (sym e))

updated_by : (b : Boot) (pt : Point) (d : Step) (w : Spelled) (id : MsgId) (n : ℕ) → Both b pt → Handled b pt d w id n → Updated pt w.point id n
updated_by b pt d w id n both h =
    -- the head changes nothing that it reads
    -- whether an address is behind
    -- an ended process has no links
    let count_is : (s : OneKernel) (v : View) (a : Addresses) (t : Told) (p : Pid) (at_ : Place) (m n : ℕ) → t.about ≡ view.Place p at_.at at_.moves → KnownStands s v
    → (n ≡ behind_count s a t.receiver (place_told t.about)) ⊎ ((n ≡ 0) × Linkless s t.receiver)
    → behind_among (is_behind s a t.receiver p at_.moves) (holders_of s t.receiver) ≡ n =
    λ s v a t p at_ m n about known counts. grind (arith, nat_tests) in
    let address : (s : OneKernel) (v w : View) (a : Addresses) (id : MsgId) (t : Told) (p : Pid) (at_ : Place) (h : Holder) → w.told ≡ v.told → v.told id ≡ Some t → t.about ≡ view.Place p at_.at at_.moves
    → updated s w a (w.told id) h ≡ (if is_behind s a t.receiver p at_.moves h then at_ else a h) =
    λ s v w a id t p at_ h same told about. search in
    let three : (a b c : Bool) → (a && (b && c)) ≡ true → (a ≡ true) × (b ≡ true) × (c ≡ true) = λ a b c e. grind (arith, nat_tests) in
    let head_told : (v : View) (d : Step) → (after_head v d).told ≡ v.told = λ v d. grind (arith, nat_tests) in
    let head_kept : (v : View) (d : Step) → Kept v (after_head v d) = λ v d. grind (arith, nat_tests) in
    let u = h.handles in
    let t = u.told in
    let s = pt.kernel in
    let a = pt.addresses in
    let own = front_own b h.machine pt id u.rest u.box u.none both.run both.own in
    let sort : own_sort t.kind t.receiver t.about ≡ true = both.own.own id t u.is own.mine in
    let place : is_place t.about ≡ true = second (not (t.receiver.num == 0)) (is_place t.about) (sym (ap (λ k. own_sort k t.receiver t.about) u.update) ∙ sort) in
    let x = tells t.about place in
    let behind = is_behind s a t.receiver x.process x.place.moves in
    let now : (g : Holder) → w.point.addresses g ≡ (if behind g then x.place else a g) =
    λ g. ap (λ (q : Point). q.addresses g) (sym h.point) ∙ address s pt.view (after_head pt.view d) a id t x.process x.place g (head_told pt.view d) u.is x.is in
    let lag : (g : Holder) → behind g ≡ true → w.point.addresses g ≡ x.place = λ g e. now g ∙ ap (λ (c : Bool). if c then x.place else a g) e in
    let stay : (g : Holder) → behind g ≡ false → w.point.addresses g ≡ a g = λ g e. now g ∙ ap (λ (c : Bool). if c then x.place else a g) e in
    record {
      told = t;
      is = u.is;
      update = u.update;
      process = x.process;
      place = x.place;
      about = x.is;
      raised = λ g mine leads. elim (cases_Bool (nat_lt (a g).moves x.place.moves)) [
        | inl less ↦ (let e : (w.point.addresses g).moves ≡ x.place.moves = ap (λ (p : Place). p.moves) (lag g (behind_is s a t.receiver x.process x.place.moves g true mine leads less)) in omega (arith, e))
        | inr more ↦ (let e : (w.point.addresses g).moves ≡ (a g).moves = ap (λ (p : Place). p.moves) (stay g (behind_is s a t.receiver x.process x.place.moves g false mine leads more)) in
            let f : x.place.moves ≤ (a g).moves = grind (arith, nat_tests) in omega (arith, e, f))
      ];
      followed = λ g mine leads less. lag g (behind_is s a t.receiver x.process x.place.moves g true mine leads (let f : nat_lt (a g).moves x.place.moves ≡ true = grind (arith, nat_tests) in f));
      others = λ g most. elim (cases_Bool (behind g)) [
        | inl e ↦
            let k = three (belongs_to t.receiver g) (option_map_or (pid_eq x.process) (leads_to s g) false) (nat_lt (a g).moves x.place.moves) e in
            let f = most k.0 (pid_there x.process (leads_to s g) k.1) in
            let less : (a g).moves < x.place.moves = let l = k.2 in grind (arith, nat_tests) in
            absurd (omega (arith, f, less))
        | inr e ↦ stay g e
      ];
      count = count_is s pt.view a t x.process x.place h.machine n x.is both.run.based.known (elim u.counts [ inl e ↦ inl e | inr over ↦ inr (over.0, ended_loose b pt h.machine id t both.run (stands_first pt.view h.machine id u.rest u.box) u.is over.1 over.2) ]);
      listed = λ g q mine other leads. listed s t.receiver g q both.run.based.phased.sane.sound.made both.run.based.pending mine other leads;
      kernel = sym (ap (λ (q : Point). q.kernel) h.point);
      known = sym (ap (λ (q : Point). q.view.known) h.point) ∙ (head_kept pt.view d).known;
      queue = sym (ap (λ (q : Point). q.view.queue) h.point) ∙ (head_kept pt.view d).queue;
      held = sym (ap (λ (q : Point). q.view.held) h.point) ∙ (head_kept pt.view d).held;
      ring = sym (ap (λ (q : Point). q.view.ring) h.point) ∙ (head_kept pt.view d).ring;
    }

pub updates_always : UpdatesAlways
updates_always b es pt d w id n earlier later valid leads is there =
    let h = let g = group_is b pt d w is in by_shape b pt d w id n earlier later g there (outcome_shape b pt d g.parts g.is) in
    (h.lines, updated_by b pt d w id n (run_always b es pt valid leads) h)
