-- What the one message of a migration under way carries stays, where a row is no migration's.
use Rattle.dm_law_mirror.proofs.Names.{◌≡◌, ℕ, ◌==◌, Bool, true, false, refl, ap, ◌∙◌, sym, subst, Option, None, Some, false≢true, Pid, pid_of, Message, MsgId, What, MessageKind, kind_of, plain_message, with_what, incoming_of, Arrival, Phase}
use Rattle.dm_law_mirror.proofs.Names.{Moves, is_between, is_early, sender_in, told_between, Point, View, Told, is_kernels, InPhases, Placed, AllOwnStand, told_of, AllRecords, Carries, TokenStands, TokensStand, destination_of, List, [], ◌∷◌}
use Rattle.dm_law_mirror.proofs.Names.{◌++◌, map, inl, inr, arith, eqb_tells, Boot, at_machine, Run, KernelState, nat_tests, Part, sort_of, Cargo, ◌||◌, is_restart, cargo_at, Wanted, IsIn, Wants, LeftStands, pulls_piece, IsLeft, is_calloff}
use Rattle.dm_law_mirror.proofs.Names.{destination_expects, resident_at, source_holds, ◌+◌, length}
use Rattle.dm_law_mirror.proofs.Turning.{is_moving, AllMayPut, AreCounted, AreGiven, First, Gives, Nothing, Own, Route, Row, Sends, Tells, TurnsAt, begun, given_parts, owns, part_of, rule_given, rule_own, rule_part_of}
use Rattle.dm_law_mirror.proofs.Kernel.Sets.{eq_self, off_if, on_if, eq_apart}
use Rattle.dm_law_mirror.proofs.Row.Lines.{StillKeeps, still_keeps, row_walks}
use Rattle.dm_law_mirror.proofs.Serve.Stops.{nothing_more}
use Rattle.dm_law_mirror.proofs.Serve.Receives.{Ready, serve_row}
use Rattle.dm_kernel.specs.State as machine
use Rattle.dm_law_rule.specs.Parts as rule
use Rattle.dm_law_mirror.proofs.Cargoes.{cargo_same}
use Rattle.dm_law_mirror.proofs.LeftOver.{DueOf, carries_plain, destination_is, due_of, due_same, left_held, left_keeps, left_plain, left_told, one_keeps, over_of, some_told}
use Rattle.dm_law_always.proofs.Calling.{neither}

-- what it carries doesn't depend on what comes while that isn't accepted yet, nor once it is called off
carries_with : (p : Pid) (c : Cargo) (n : ℕ) (a b : Option Arrival) (w : What) → (is_early (kind_of w) ≡ false → is_calloff (kind_of w) ≡ false → a ≡ b) → Carries p c n a w → Carries p c n b w
carries_with p c n a b (What.PullState q chunk) same h = (h.0, h.1, subst (λ (o : Option Arrival). Wants o (Wanted.Chunk chunk)) (same refl refl) h.2)
carries_with p c n a b (What.State q chunk last bytes) same h = (h.0, h.1, subst (λ (o : Option Arrival). Wants o (Wanted.Chunk chunk)) (same refl refl) h.2)
carries_with p c n a b (What.PullBlock q block) same h = (h.0, h.1, subst (λ (o : Option Arrival). Wants o (Wanted.Block block)) (same refl refl) h.2)
carries_with p c n a b (What.Memory q block bytes) same h = (h.0, h.1, subst (λ (o : Option Arrival). Wants o (Wanted.Block block)) (same refl refl) h.2)
carries_with p c n a b (What.AllTaken q) same h = (h.0, subst (λ (o : Option Arrival). Wants o Wanted.Nothing) (same refl refl) h.1)
carries_with p c n a b (What.Restart q) same h = (h.0, subst (λ (o : Option Arrival). Wants o Wanted.Nothing) (same refl refl) h.1)
carries_with p c n a b (What.Ask q blocks moves size asker) same h = h
carries_with p c n a b (What.Refuse q slots blocks) same h = h
carries_with p c n a b (What.CallOff q) same h = h
carries_with p c n a b _ same h = absurd h

-- a process that moves leaves a machine or comes to one
pub record Moving (v : View) (p : Pid) (i : MsgId) (t : Told) : Type 0 where
  pub at : ℕ
  pub moving : is_moving (v.known at p) ≡ true
  -- once it was accepted, and until it is called off, it comes there
  pub comes_ : is_early t.kind ≡ false → is_calloff t.kind ≡ false → at ≡ destination_of i t

held_on : (k : MessageKind) → (is_early k || is_calloff k) ≡ true → is_restart k ≡ false
held_on MessageKind.Ask e = refl
held_on MessageKind.Refuse e = refl
held_on MessageKind.CallOff e = refl
held_on _ e = absurd (false≢true e)

moving_by : (v : View) (p : Pid) (i : MsgId) (t : Told) (k : MessageKind) (s d : ℕ) → t ≡ told_between p k s d → i.from ≡ pid_of (sender_in k s d) 0 → IsIn v p (Moves k s d (Some i)) → (c : Bool) → (is_early k || is_calloff k) ≡ c → Moving v p i t
moving_by v p i t k s d is from inside true held = record {
  at = s;
  moving = ap is_moving (source_holds v p k s d (Some i) inside (held_on k held));
  comes_ = λ late on. absurd (false≢true (sym (ap (λ (a : Bool). a || is_calloff k) (sym (ap (λ (u : Told). is_early u.kind) is) ∙ late) ∙ sym (ap (λ (u : Told). is_calloff u.kind) is) ∙ on) ∙ held));
}
moving_by v p i t k s d is from inside false comes = record {
  at = d;
  moving = (let both = neither (is_early k) (is_calloff k) comes in ap is_moving (destination_expects v p k s d (Some i) inside both.0 both.1));
  comes_ = λ late on. sym (ap (destination_of i) is ∙ destination_is p k s d i from);
}

pub moving_of : (v : View) (p : Pid) (i : MsgId) (t : Told) (h : InPhases v) → DueOf v p (h.of p) i t → Moving v p i t
moving_of v p i t h d = moving_by v p i t d.kind d.s d.d d.told d.from (subst (λ (x : Phase). IsIn v p x) d.phase (h.each p)) (is_early d.kind || is_calloff d.kind) refl

-- what a row leaves of what moves
pub record LeavesMoving (pt : Point) (l : Placed) (records : AllRecords) (next : Point) (placed : Placed) (after : AllRecords) : Type 0 where
  pub resident : (n : ℕ) (p : Pid) → is_moving (pt.view.known n p) ≡ true → resident_at placed p ≡ resident_at l p
  pub notes : (n : ℕ) (p : Pid) → is_moving (pt.view.known n p) ≡ true → placed.notes p ≡ l.notes p
  pub records_ : (n : ℕ) (p : Pid) → is_moving (pt.view.known n p) ≡ true → records n p ≡ after n p
  pub told : next.view.told ≡ pt.view.told
  pub lines : StillKeeps pt.view next.view
  pub own : (i : MsgId) (x : Message) → plain_message x ≡ None → l.bag i ≡ Some x → placed.bag i ≡ Some x

token_keeps : (pt : Point) (l : Placed) (records : AllRecords) (next : Point) (placed : Placed) (after : AllRecords) (p : Pid) (i : MsgId) (t : Told) → LeavesMoving pt l records next placed after → AllOwnStand pt.view l → Moving pt.view p i t → pt.view.told i ≡ Some t
    → TokenStands pt.view l records p i t → TokenStands next.view placed after p i t
token_keeps pt l records next placed after p i t g own h told s =
    let x = s.message in
    let none : plain_message x ≡ None = ap (with_what x) (carries_plain p s.cargo (pt.view.asked p) (incoming_of (records (destination_of i t) p)) x.what s.carries) in
    let o = own i x s.is none in
    let is : t ≡ told_of x = some_told t (told_of x) (sym told ∙ o.told) in
    let same : is_early (kind_of x.what) ≡ false → is_calloff (kind_of x.what) ≡ false → incoming_of (records (destination_of i t) p) ≡ incoming_of (after (destination_of i t) p) =
    λ late on. (let at = h.comes_ (ap (λ (u : Told). is_early u.kind) is ∙ late) (ap (λ (u : Told). is_calloff u.kind) is ∙ on) in
    ap (λ (r : Option machine.KernelKnown). incoming_of r) (g.records_ (destination_of i t) p (subst (λ (n : ℕ). is_moving (pt.view.known n p) ≡ true) at h.moving))) in
    record {
      cargo = s.cargo;
      there = cargo_same l placed p (g.resident h.at p h.moving) (g.notes h.at p h.moving) ∙ s.there;
      message = x;
      is = g.own i x none s.is;
      sender = s.sender;
      carries = subst (λ (n : ℕ). Carries p s.cargo n (incoming_of (after (destination_of i t) p)) x.what) (ap (λ (f : Pid → ℕ). f p) (sym g.lines.asked))
          (carries_with p s.cargo (pt.view.asked p) (incoming_of (records (destination_of i t) p)) (incoming_of (after (destination_of i t) p)) x.what same s.carries);
    }

-- what is left over and asks for a piece asks for one of what leaves
over_keeps : (pt : Point) (l : Placed) (records : AllRecords) (next : Point) (placed : Placed) (after : AllRecords) (p : Pid) (i : MsgId) (t : Told) (h : InPhases pt.view) → LeavesMoving pt l records next placed after → AllOwnStand pt.view l → pt.view.told i ≡ Some t
    → IsLeft pt.view p (h.of p) i t → LeftStands l p i → LeftStands placed p i
over_keeps pt l records next placed after p i t h g own told left x =
    let kind : t.kind ≡ kind_of x.message.what = ap (λ (u : Told). u.kind) (left_told pt.view l p i t x own told) in
    left_keeps l placed p i x
    (λ asks. let (s, d, held) = left_held pt.view p (h.of p) i t (h.each p) left (ap (λ (k : MessageKind). pulls_piece (sort_of k)) kind ∙ asks) in cargo_same l placed p (g.resident s p (ap is_moving held)) (g.notes s p (ap is_moving held)))
    (g.own i x.message (ap (with_what x.message) (left_plain p (cargo_at l p) x.message.what x.carries)) x.is)

-- a message of the protocol is a kernel's own
abbrev pub TokensAreOwn : View → Type 0
TokensAreOwn v = (i : MsgId) (t : Told) → v.told i ≡ Some t → is_between t.kind ≡ true → is_kernels i ≡ true

pub tokens_keep : (pt : Point) (l : Placed) (records : AllRecords) (next : Point) (placed : Placed) (after : AllRecords) → InPhases pt.view → TokensAreOwn pt.view → LeavesMoving pt l records next placed after → AllOwnStand pt.view l → TokensStand pt.view l records
    → TokensStand next.view placed after
tokens_keep pt l records next placed after phases mine g own h p i t z told b about st =
    let before : pt.view.told i ≡ Some t = ap (λ (f : MsgId → Option Told). f i) (sym g.told) ∙ told in
    let stood = g.lines.stood i z (mine i t before b) st in
    one_keeps pt.view next.view l placed records after p i t (due_same pt.view next.view p i t (λ n from. g.lines.awaits n p from))
    (λ due x. token_keeps pt l records next placed after p i t g own (moving_of pt.view p i t phases (due_of pt.view phases p i t z before b about stood due)) before x)
    (λ off x. over_keeps pt l records next placed after p i t phases g own before (over_of pt.view phases p i t z before b about stood off) x) (h p i t z before b about stood)

-- A row that is no migration's is a turn: it leaves what moves, and the kernels' own messages, as they are.

-- the messages that the row routes, as routes
abbrev pub row_routes : Gives → List Route
row_routes (Sends None) = []
row_routes (Sends (Some x)) = First x ∷ []
row_routes (Tells xs) = map Own xs

pub tells_parts : (xs : List Message) → map Part.Routes xs ≡ map part_of (map Own xs)
tells_parts [] = refl
tells_parts (x ∷ xs) = ap (λ (ps : List Part). Part.Routes x ∷ ps) (tells_parts xs)

routes_parts : (g : Gives) → given_parts g ≡ map part_of (row_routes g)
routes_parts (Sends None) = refl
routes_parts (Sends (Some x)) = refl
routes_parts (Tells xs) = tells_parts xs

pub tells_rule_parts : (xs : List Message) → map rule_own xs ≡ map rule_part_of (map Own xs)
tells_rule_parts [] = refl
tells_rule_parts (x ∷ xs) = ap (λ (ps : List rule.Part). rule_own x ∷ ps) (tells_rule_parts xs)

routes_rule_parts : (g : Gives) → rule_given g ≡ map rule_part_of (row_routes g)
routes_rule_parts (Sends None) = refl
routes_rule_parts (Sends (Some x)) = refl
routes_rule_parts (Tells xs) = tells_rule_parts xs

pub tells_owns : (xs : List Message) → owns (map Own xs) ≡ length xs
tells_owns [] = refl
tells_owns (x ∷ xs) = let e = tells_owns xs in omega (arith, e)

routes_counted : (g : Gives) (before now : ℕ) → AreCounted before now g → now ≡ before + owns (row_routes g)
routes_counted (Sends None) before now e = omega (arith, e)
routes_counted (Sends (Some x)) before now e = omega (arith, e)
routes_counted (Tells xs) before now e = let f = tells_owns xs in omega (arith, e, f)

routes_may : (g : Gives) (counted said : ℕ) (next : Point) (placed : Placed) (records : AllRecords) → counted ≡ said → AreGiven counted said next placed g → AllMayPut next placed records 0 (row_routes g)
routes_may (Sends None) counted said next placed records e h = tt
routes_may (Sends (Some x)) counted said next placed records e h = (h, tt)
routes_may (Tells xs) counted said next placed records e h = h e records

-- what it leaves of what moves, on its machine and elsewhere
row_leaves : (b : Boot) (m : ℕ) (pt : Point) (l : Placed) (records : AllRecords) (k : KernelState) → Run b pt → records m ≡ k.records → (r : Row b m pt l k) → LeavesMoving pt l records r.next r.placed (at_machine records m r.state.records)
row_leaves b m pt l records k run same r = record {
  resident = λ n p is. elim (eqb_tells n m) [
    | inl e ↦ (r.moving p (subst (λ (q : ℕ). is_moving (pt.view.known q p) ≡ true) e.1 is)).0
    | inr e ↦ r.elsewhere.resident n p e.1 (grind (arith, nat_tests))
  ];
  notes = λ n p is. elim (eqb_tells n m) [
    | inl e ↦ (r.moving p (subst (λ (q : ℕ). is_moving (pt.view.known q p) ≡ true) e.1 is)).2
    | inr e ↦ r.elsewhere.notes n p e.1 (grind (arith, nat_tests))
  ];
  records_ = λ n p is. elim (eqb_tells n m) [
    | inl e ↦
        let moved = r.moving p (subst (λ (q : ℕ). is_moving (pt.view.known q p) ≡ true) e.1 is) in
        let here : records m p ≡ at_machine records m r.state.records m p =
        ap (λ (f : Pid → Option machine.KernelKnown). f p) same ∙ sym moved.1 ∙ ap (λ (f : Pid → Option machine.KernelKnown). f p) (sym (on_if (m == m) r.state.records (records m) (eq_self m)))
        in
        subst (λ (q : ℕ). records q p ≡ at_machine records m r.state.records q p) (sym e.1) here
    | inr e ↦ ap (λ (f : Pid → Option machine.KernelKnown). f p) (sym (off_if (m == n) r.state.records (records n) (eq_apart m n e.1)))
  ];
  told = r.elsewhere.told;
  lines = (let h = still_keeps (rule_given r.route) r.says (begun pt m) r.next r.still (row_walks b pt m r.says r.route run.based.phased run.based.known r.still r.outcome) r.after in record { asked = h.asked; awaits = h.awaits; stood = h.stood });
  own = r.own;
}

pub row_turns : (b : Boot) (m : ℕ) (pt : Point) (l : Placed) (records : AllRecords) (k : KernelState) → Run b pt → AllOwnStand pt.view l → TokensStand pt.view l records → records m ≡ k.records → k.sent ≡ pt.view.count m → Row b m pt l k → TurnsAt b m pt l records k
row_turns b m pt l records k run own tokens same counted r = record {
  state = r.state;
  says = r.says;
  routes = row_routes r.route;
  late = Nothing;
  turn = r.turn ∙ ap (λ (ps : List Part). Some (record { state = r.state; parts = ps })) (ap (λ (ps : List Part). map Part.Says r.says ++ ps) (routes_parts r.route) ∙ sym (nothing_more (map Part.Says r.says ++ map part_of (row_routes r.route))));
  outcome = r.outcome ∙ ap (λ (ps : List rule.Part). Some ps) (ap (λ (ps : List rule.Part). map rule.Says r.says ++ ps) (routes_rule_parts r.route) ∙ sym (nothing_more (map rule.Says r.says ++ map rule_part_of (row_routes r.route))));
  next = r.next;
  after = r.after;
  placed = r.placed;
  mirrors = r.mirrors;
  kernel = r.kernel;
  sent = λ e. (let a = routes_counted r.route k.sent r.state.sent r.count in let c : r.next.view.count m ≡ pt.view.count m = r.elsewhere.count m in omega (arith, e, a, c));
  elsewhere = r.elsewhere;
  may = routes_may r.route k.sent (pt.view.count m) r.next r.placed (at_machine records m r.state.records) counted r.sent;
  late_may = tt;
  over = r.over;
  topic = tt;
  own = λ i x there none. (let o = own i x (r.own_back i x none there) none in record { told = ap (λ (f : MsgId → Option Told). f i) r.elsewhere.told ∙ o.told; mine = o.mine; sender = o.sender });
  tokens = tokens_keep pt l records r.next r.placed (at_machine records m r.state.records) run.based.phased.phases run.based.phased.sane.tells.own (row_leaves b m pt l records k run same r) own tokens;
}

-- a turn with an empty inbox
pub serve_turns : (b : Boot) (m : ℕ) (pt : Point) (l : Placed) (records : AllRecords) (k : KernelState) → Ready b m pt l k → TokensStand pt.view l records → records m ≡ k.records → k.sent ≡ pt.view.count m → pt.view.inbox m ≡ [] → TurnsAt b m pt l records k
serve_turns b m pt l records k h tokens same counted box = row_turns b m pt l records k h.run h.own tokens same counted (serve_row b m pt l k h box)
