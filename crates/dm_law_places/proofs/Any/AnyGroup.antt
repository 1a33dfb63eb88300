-- Behind each group there is a kernel with places, where there was one before.
use Rattle.dm_law_places.proofs.Names.{◌≡◌, ℕ, ◌+◌, ◌==◌, ◌||◌, Bool, true, false, List, [], ◌∷◌, length, refl, ap, ◌∙◌, subst, inl, inr, is_some, arith, ⊤, if◌then◌else◌, slice_get, Option, None, Some, nat_tests, nat_lt, Pid, pid_eq, pid_of, MsgId, Label, Line, PlainMessage}
use Rattle.dm_law_places.proofs.Names.{PlainWhat, Boot, first_number, manager, switchboard, Life, OneKernel, bind, Step, bind-is, View, after_head, Part, Routes, Spelled, spelled, Point, after_line, moved, group_of, behind, outcome, Placed}
use Rattle.dm_law_places.proofs.Names.{GroupNeeds, MirrorsPoint, is_made, is_server, Known, PlainProcess}
use Rattle.dm_law_places.proofs.EasyRows.{AsksEasily, Easy, arrives_easy, hears_easy, migrates_easy, calls_off_easy, resends_easy, round_easy, routes_easy, away_easy, own_easy}
use Rattle.dm_law_places.proofs.Any.AnyPart.{Behind, EasyParts, PartsNeed, SoundAt, parts_follow}
use Rattle.dm_law_places.proofs.Lines.{lines_keep}
use Rattle.dm_onekernel.specs.Manager as manage
use Rattle.dm_onekernel.specs.Pieces as pieces
use Rattle.dm_onekernel.specs.Switchboard as board
use Rattle.dm_onekernel.specs.Step as kernel
use Rattle.dm_law_rule.specs.Rule as rule

-- where the first part needs something
abbrev Fits : OneKernel → View → Option (List Part) → Type 0
Fits s v None = ⊤
Fits s v (Some ps) = PartsNeed s v ps

easy_parts : (s : OneKernel) (v : View) (ps : List Part) → EasyParts ps → PartsNeed s v ps
easy_parts s v ps h1 = search arith

easy_fits : (s : OneKernel) (v : View) (o : Option (List Part)) → Easy o → Fits s v o
easy_fits s v o h1 = search (arith, easy_parts)

if_fits : (s : OneKernel) (v : View) (c : Bool) (o p : Option (List Part)) → (c ≡ true → Fits s v o) → Fits s v p → Fits s v (if c then o else p)
if_fits s v c o p h1 h2 = search arith

board_fits : (pt : Point) (v : View) (id : MsgId) (o : Option board.BoardTook) → GroupNeeds pt → Fits pt.kernel v (rule.board_took id o)
board_fits pt v id o h1 = search (arith, routes_easy)

manager_fits : (pt : Point) (v : View) (id : MsgId) (o : Option manage.ManagerTook) → GroupNeeds pt → Fits pt.kernel v (rule.manager_parts id o)
manager_fits pt v id o h1 = search (arith, routes_easy)

-- the next process of a home wasn't made, and is no server
none_made : (o : Option Life) → (is_some o ≡ true → ⊥) → is_some o ≡ false
none_made o h1 = grind (arith, nat_tests)

pub no_server : (m n : ℕ) → is_server (pid_of m (first_number + n)) ≡ false
no_server m n = grind (arith, nat_tests)

not_made : (s : OneKernel) (m : ℕ) → SoundAt s → is_made s (pid_of m (first_number + s.made m)) ≡ false
not_made s m h =
    let none : is_some (s.processes (pid_of m (first_number + s.made m))) ≡ false =
    none_made (s.processes (pid_of m (first_number + s.made m))) (λ there. let less : nat_lt (first_number + s.made m) (3 + s.made m) ≡ true = h.sound.made.most (pid_of m (first_number + s.made m)) there in grind (arith, nat_tests, less)) in
    (λ i. no_server m (s.made m) i || none i)

creates_if : (pt : Point) (v : View) (m : ℕ) (id : MsgId) (r : rule.Room) (c : Bool) → v.moves ≡ pt.view.moves → SoundAt pt.kernel → GroupNeeds pt
    → PartsNeed pt.kernel v ((if c then rule.says (Label.Created id (pid_of m (first_number + pt.kernel.made m))) else rule.says (Label.NoSpace id r.slots r.blocks)) ∷ Routes (pieces.answer_id id) ∷ [])
creates_if pt v m id r true counts h needs =
    let p : Pid = pid_of m (first_number + pt.kernel.made m) in
    (inr (Label.Created id p, refl, ap (λ (f : Pid → ℕ). f p) counts ∙ needs.unmoved p (not_made pt.kernel m h)), (tt, tt))
creates_if pt v m id r false counts h needs = (inl tt, (tt, tt))

-- a message whose receiver is here: a server, or another process
here_fit : (pt : Point) (v : View) (m : ℕ) (id : MsgId) (k : PlainMessage) → GroupNeeds pt → AsksEasily id k.what → Fits pt.kernel v (rule.handles_here pt m id k)
here_fit pt v m id k needs asks =
    let s = pt.kernel in
    let two = rule.board_took id (board.board_takes s.switchboard k k.what) in
    let three = rule.manager_parts id (manage.manager_takes s.manager s.machines (length s.images) k k.what) in
    let four = bind (kernel.alive (s.processes k.to)) (λ (x : PlainProcess). rule.here_handles pt m id k x k.what) in
    if_fits s v (pid_eq k.to switchboard) two (if pid_eq k.to manager then three else four)
    (λ e. board_fits pt v id (board.board_takes s.switchboard k k.what) needs)
    (if_fits s v (pid_eq k.to manager) three four
    (λ e. manager_fits pt v id (manage.manager_takes s.manager s.machines (length s.images) k k.what) needs)
    (easy_fits s v four (own_easy pt m id k (kernel.alive (s.processes k.to)) asks)))

known_fit : (pt : Point) (v : View) (m : ℕ) (id : MsgId) (k : PlainMessage) (w : Known) → GroupNeeds pt → AsksEasily id k.what → Fits pt.kernel v (rule.process_handles pt m id k w)
known_fit pt v m id k Known.Here needs asks = here_fit pt v m id k needs asks
known_fit pt v m id k w needs asks = easy_fits pt.kernel v (rule.process_handles pt m id k w) (away_easy pt id k (Some []) w tt)

comes_fit : (b : Boot) (pt : Point) (v : View) (m : ℕ) (id : MsgId) (o : Option PlainMessage) → v.moves ≡ pt.view.moves → SoundAt pt.kernel → GroupNeeds pt
    → ((x : PlainMessage) → o ≡ Some x → AsksEasily id x.what) → Fits pt.kernel v (rule.comes_to b pt m id o)
comes_fit b pt v m id None counts h needs asks = easy_fits pt.kernel v (rule.hears b pt m id (pt.view.told id)) (hears_easy b pt m id (pt.view.told id))
comes_fit b pt v m id (Some k) counts h needs asks =
    let s = pt.kernel in
    let one = rule.kernel_handles b pt m id k.what in
    if_fits s v (k.to.num == 0) one (rule.process_handles pt m id k (pt.view.known m k.to)) (λ e. elim k.what as (λ w. Fits pt.kernel v (rule.kernel_handles b pt m id w)) [
      | PlainWhat.Create image links ↦ (elim (slice_get b.images image) as (λ o. Fits pt.kernel v (rule.creation_parts pt m id (rule.free_room b pt m) o))
          [ None ↦ tt | Some i ↦ creates_if pt v m id (rule.free_room b pt m) (rule.has_room (rule.free_room b pt m) i.blocks) counts h needs ])
      | _ ↦ tt
    ]) (known_fit pt v m id k (pt.view.known m k.to) needs (asks k refl))

turns_fit : (b : Boot) (pt : Point) (v : View) (m : ℕ) (is : List MsgId) → v.moves ≡ pt.view.moves → SoundAt pt.kernel → GroupNeeds pt → Fits pt.kernel v (rule.turns b pt m is)
turns_fit b pt v m [] counts h needs = search (arith, easy_fits, round_easy)
turns_fit b pt v m (i ∷ is) counts h needs = comes_fit b pt v m i (pt.kernel.bag i) counts h needs (λ x there machine what. needs.asks i x machine there what)

outcome_fits : (b : Boot) (pt : Point) (d : Step) → SoundAt pt.kernel → GroupNeeds pt → Fits pt.kernel (after_head pt.view d) (outcome b pt d)
outcome_fits b pt (Step.Turn m) h needs = turns_fit b pt (after_head pt.view (Step.Turn m)) m (pt.view.inbox m) refl h needs
outcome_fits b pt (Step.Tick m) h needs = easy_fits pt.kernel (after_head pt.view (Step.Tick m)) (outcome b pt (Step.Tick m)) (tt, resends_easy m pt.view pt.kernel.machines)
outcome_fits b pt (Step.Deliver a c k) h needs = search (arith, easy_fits, arrives_easy)
outcome_fits b pt (Step.Migrate p m) h needs = easy_fits pt.kernel (after_head pt.view (Step.Migrate p m)) (outcome b pt (Step.Migrate p m)) (migrates_easy pt p)
outcome_fits b pt (Step.CallOff p m) h needs = easy_fits pt.kernel (after_head pt.view (Step.CallOff p m)) (outcome b pt (Step.CallOff p m)) (calls_off_easy pt m p)

-- a group
group_behind : (b : Boot) (pt : Point) (l : Placed) (d : Step) (w : Spelled) → SoundAt pt.kernel → GroupNeeds pt → group_of b pt d ≡ Some w → MirrorsPoint pt l → Behind w.point
group_behind b pt l d w sound needs is h =
    let begun = moved pt (Line.Head d) pt.kernel in
    let (ps, comes, rest) = bind-is (outcome b pt d) (λ (xs : List Part). bind (after_line pt (Line.Head d)) (λ (q : Point). bind (spelled q xs) (λ (z : Spelled). Some (behind (Line.Head d ∷ []) z)))) w is in
    let (z, more, end) = bind-is (spelled begun ps) (λ (y : Spelled). Some (behind (Line.Head d ∷ []) y)) w rest in
    let f : behind (Line.Head d ∷ []) z ≡ w = cc in
    subst (λ (x : Spelled). Behind x.point) f
    (parts_follow ps begun z l (subst (Fits pt.kernel (after_head pt.view d)) comes (outcome_fits b pt d sound needs)) sound (lines_keep pt begun l (Line.Head d) tt h refl) more)

pub group_follows : (b : Boot) (pt : Point) (l : Placed) (d : Step) (w : Spelled) → SoundAt pt.kernel → GroupNeeds pt → group_of b pt d ≡ Some w → MirrorsPoint pt l → (m : Placed) × MirrorsPoint w.point m × SoundAt w.point.kernel
group_follows b pt l d w sound needs is h = let z = group_behind b pt l d w sound needs is h in (z.l, z.mirrors, z.sound)
