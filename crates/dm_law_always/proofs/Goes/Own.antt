-- A kernel's own message at the front of the inbox can be handled.
use Rattle.dm_law_always.proofs.Names.{◌≡◌, ℕ, ◌≤◌, ◌==◌, ◌&&◌, ◌||◌, Bool, true, false, not, List, [], ◌∷◌, ◌++◌, length, refl, ap, ◌∙◌, sym, subst, is_some, arith, if◌then◌else◌, Option, None, Some, false≢true, nat_tests, Pid}
use Rattle.dm_law_always.proofs.Names.{MsgId, MessageKind, Line, Stage, Boot, manager, bind, PlainProcess, Life, Alive, View, Told, Of, Known, Unknown, Here, Frozen, Forward, is_kernels, target_of, to_kernel, forwards_on}
use Rattle.dm_law_always.proofs.Names.{accepts, takes_chunk, takes_block, gives_piece, told_step, chunks_of, pieces_of, updates, told_here, told_ended, process_told, sends_on, fits, free_room, kernel_hears, hears, is_between}
use Rattle.dm_law_always.proofs.Names.{is_restart, kind_comes, knows, is_away, Moves, sender_in, receiver_in, told_between, IsIn, Point, Part, Says, Spot, Queue, Held, Inbox, times, standing, token_is, token_at, is_server, first_of}
use Rattle.dm_law_always.proofs.Names.{eq_self, inbox_is, about_same, kind_leaves, Label, MoveNote, Outcome, label_of, with_label, is_put, moved, answers_move, tells_asker, agrees, sort_of, leaves_for, pulls_piece, IsLeft, Token, LeftOver}
use Rattle.dm_law_always.proofs.Names.{pulled, Size, size_of, is_alive, Sort, buried, buries, inl, inr, preds_of, tells_between, tells_end}
use Rattle.dm_law_always.proofs.Runs.{Run}
use Rattle.dm_law_always.proofs.Own.Told.{Later, buries_later, OwnTold, own_sort, own_between, NoOwns, ThenOwns, forwarded_place, forwards_own, accepts_own, piece_own, chunk_own, block_own, moves_own, sends_own}
use Rattle.dm_law_always.proofs.Goes.Parts.{buries_plain, ArePlain, Can, can_as, can_plain, does_line, Quiet, no_receive}
use Rattle.dm_law_always.proofs.Goes.Front.{begun, Calm, CanTurn, does_answers}
use Rattle.dm_law_always.proofs.Goes.Process.{forwards_plain}
use Rattle.dm_law_always.proofs.Sized.{sized}
use Rattle.dm_onekernel.specs.Service as service
use Rattle.dm_onekernel.specs.Step as kernel
use Rattle.dm_law_rule.specs.Migrating as migrating
use Rattle.dm_law_rule.specs.Rule as rule
use Rattle.dm_law_rule.specs.View as view

-- it was told of
pub record FrontOwn (b : Boot) (m : ℕ) (o : Point) (i : MsgId) : Type 0 where
  pub told : Told
  pub told_is : o.view.told i ≡ Some told
  pub mine : is_kernels i ≡ true
  pub first : 1 ≤ standing o.view i (Inbox m)
  pub run : Run b o
  pub own : OwnTold o

pub own_sorted : (b : Boot) (m : ℕ) (o : Point) (i : MsgId) (f : FrontOwn b m o i) → own_sort f.told.kind f.told.receiver f.told.about ≡ true
own_sorted b m o i f = f.own.own i f.told f.told_is f.mine

-- a living process
abbrev IsAlive : Option Life → Type 0
IsAlive o = (y : PlainProcess) × (o ≡ Some (Alive y))

pub source_knows : (k : MessageKind) (s d : ℕ) (id : Option MsgId) (n : Known) → knows (Moves k s d id) s n ≡ true → kind_leaves k d n ≡ true
source_knows k s d id n e = sym (ap (λ (c : Bool). if c then kind_leaves k d n else if d == s then kind_comes k s n else is_away n) (eq_self s)) ∙ e

pub apart_is : (b : Bool) (s d : ℕ) → (b && not (s == d)) ≡ true → (s == d) ≡ false
apart_is true s d e = grind (arith, nat_tests)
apart_is false s d e = absurd (false≢true e)

pub destination_knows : (k : MessageKind) (s d : ℕ) (id : Option MsgId) (n : Known) → (s == d) ≡ false → knows (Moves k s d id) d n ≡ true → kind_comes k s n ≡ true
destination_knows k s d id n off e =
    sym (ap (λ (c : Bool). if c then kind_leaves k d n else if d == d then kind_comes k s n else is_away n) off ∙ ap (λ (c : Bool). if c then kind_comes k s n else is_away n) (eq_self d)) ∙ e

-- the message of a process's migration, where it comes
pub record Coming (b : Boot) (m : ℕ) (o : Point) (p : Pid) (k : MessageKind) : Type 0 where
  pub s : ℕ
  pub d : ℕ
  pub id : Option MsgId
  pub phase : IsIn o.view p (Moves k s d id)
  pub here : m ≡ receiver_in k s d

coming_alive : (s : ℕ) (n : Known) (o : Option Life) → kind_comes MessageKind.Restart s n ≡ true → agrees n o ≡ true → IsAlive o
coming_alive s n o h1 h2 = search arith

moving_process : (s d : ℕ) (k : MessageKind) (b : Boot) (m : ℕ) (o : Point) (p : Pid) (r : Bool) → is_server p ≡ false → is_restart k ≡ r → Run b o → (s == d) ≡ false → kind_leaves k d (o.view.known s p) ≡ true → (is_restart k ≡ true → kind_comes MessageKind.Restart s (o.view.known d p) ≡ true) → IsAlive (o.kernel.processes p)
moving_process s d k b m o p true server restart run off leave come = coming_alive s (o.view.known d p) (o.kernel.processes p) (come restart) (run.based.known.agree d p server)
moving_process s d k b m o p false server restart run off leave come = search (arith, o.view.known s p, o.kernel.processes p, run.based.known.agree s p server)

pub is_it : (k : MessageKind) → is_restart k ≡ true → k ≡ MessageKind.Restart
is_it MessageKind.Restart e = refl
is_it _ e = absurd (false≢true e)

-- what moves is a process that lives, or a server
moving_alive : (b : Boot) (m : ℕ) (o : Point) (p : Pid) (k : MessageKind) → Run b o → Coming b m o p k → is_alive o.kernel p ≡ true
moving_alive b m o p k run c = by (is_server p) refl
  where
    off : (c.s == c.d) ≡ false
    off = apart_is (is_between k) c.s c.d c.phase.apart

    by : (e : Bool) → is_server p ≡ e → is_alive o.kernel p ≡ true
    by true server = ap (λ (d : Bool). d || is_some (kernel.alive (o.kernel.processes p))) server
    by false server =
        ap (λ (d : Bool). d || is_some (kernel.alive (o.kernel.processes p))) server
        ∙ ap (λ (l : Option Life). is_some (kernel.alive l))
        (moving_process c.s c.d k b m o p (is_restart k) server refl run off (source_knows k c.s c.d c.id (o.view.known c.s p) (c.phase.known c.s))
        (λ r. ap (λ (j : MessageKind). kind_comes j c.s (o.view.known c.d p)) (sym (is_it k r)) ∙ destination_knows k c.s c.d c.id (o.view.known c.d p) off (c.phase.known c.d))).1

-- what a message is of has a size, and where all is taken it is the message of its migration
record Hearing (b : Boot) (m : ℕ) (o : Point) (p : Pid) (k : MessageKind) : Type 0 where
  size : (x : Size) × (size_of o.kernel p ≡ Some x)
  all : k ≡ MessageKind.AllTaken → Coming b m o p k

abbrev kind_in : Option Told → MessageKind
kind_in None = MessageKind.Bury
kind_in (Some t) = t.kind

token_hearing : (b : Boot) (m : ℕ) (o : Point) (i : MsgId) (p : Pid) (f : FrontOwn b m o i) (k : MessageKind) (s d : ℕ) → f.run.based.phased.phases.of p ≡ Moves k s d (Some i) → Hearing b m o p f.told.kind
token_hearing b m o i p f k s d phase =
    let v = o.view in
    let h = f.run.based.phased.phases in
    let token = token_at v p (h.of p) k s d i phase (h.each p) in
    let kind_is : k ≡ f.told.kind = (let g : Some f.told ≡ Some (told_between p k s d) = sym f.told_is ∙ token.told in sym (ap kind_in g)) in
    let c : Coming b m o p f.told.kind = record {
      s = s;
      d = d;
      id = Some i;
      phase = subst (λ (j : MessageKind). IsIn v p (Moves j s d (Some i))) kind_is (subst (IsIn v p) phase (h.each p));
      here = inbox_is m (sender_in k s d) (receiver_in k s d) (token.ways (Inbox m) f.first) ∙ ap (λ (j : MessageKind). receiver_in j s d) kind_is;
    } in
    record { size = sized o.kernel p (moving_alive b m o p f.told.kind f.run c); all = λ e. c }

left_hearing : (b : Boot) (m : ℕ) (o : Point) (i : MsgId) (p : Pid) (f : FrontOwn b m o i) → IsLeft o.view p (f.run.based.phased.phases.of p) i f.told → rule.is_stale o m i f.told.kind p ≡ false → Hearing b m o p f.told.kind
left_hearing b m o i p f left fresh =
    let v = o.view in
    let h = f.run.based.phased.phases in
    let u = pulled v p (h.of p) i f.told m left f.first fresh in
    let c : Coming b m o p MessageKind.CallOff = record { s = u.s; d = u.d; id = u.id; phase = subst (IsIn v p) u.is (h.each p); here = u.here } in
    record { size = sized o.kernel p (moving_alive b m o p MessageKind.CallOff f.run c); all = λ e. absurd (false≢true (sym (ap (λ (k : MessageKind). pulls_piece (sort_of k)) e) ∙ u.pulls)) }

hearing : (b : Boot) (m : ℕ) (o : Point) (i : MsgId) (p : Pid) (f : FrontOwn b m o i) → is_between f.told.kind ≡ true → f.told.about ≡ Of p → rule.is_stale o m i f.told.kind p ≡ false → Hearing b m o p f.told.kind
hearing b m o i p f between about fresh =
    let v = o.view in
    let h = f.run.based.phased.phases in
    let (q, of_q, which) = token_is v h i f.told (Inbox m) f.told_is between f.first in
    let same : q ≡ p = about_same q p (sym of_q ∙ about) in
    elim which [
      | Token k s d phase ↦ token_hearing b m o i p f k s d (subst (λ (r : Pid). h.of r ≡ Moves k s d (Some i)) same phase)
      | LeftOver left ↦ left_hearing b m o i p f (subst (λ (r : Pid). IsLeft v r (h.of r) i f.told) same left) fresh
    ]

-- parts of the protocol say nothing of the kernel
accepts_plain : (v : View) (from : ℕ) (p : Pid) (room : Bool) (slots blocks : ℕ) → ArePlain v (accepts from p room slots blocks)
accepts_plain v from p true slots blocks = (refl, (tt, tt))
accepts_plain v from p false slots blocks = (refl, (tt, tt))

chunk_plain : (v : View) (i : MsgId) (p : Pid) (last server : Bool)
    → ArePlain v (if last then (if server then Says (Line.Migration Stage.StateTaken p) ∷ Says (Line.Migration Stage.MemoryTaken p) ∷ to_kernel MessageKind.AllTaken i.from.home ∷ [] else Says (Line.Migration Stage.StateTaken p) ∷ to_kernel MessageKind.PullBlock i.from.home ∷ [])
    else Says (Line.Proto i) ∷ to_kernel MessageKind.PullState i.from.home ∷ [])
chunk_plain v i p true true = (refl, (refl, (tt, tt)))
chunk_plain v i p true false = (refl, (tt, tt))
chunk_plain v i p false server = (refl, (tt, tt))

block_plain : (v : View) (i : MsgId) (p : Pid) (last : Bool) → ArePlain v (takes_block i p last)
block_plain v i p true = (refl, (tt, tt))
block_plain v i p false = (refl, (tt, tt))

moves_plain : (v : View) (m : ℕ) (i : MsgId) (p : Pid) (to : ℕ) (c : Bool) → ArePlain v (if c then Says (Line.Here i) ∷ [] else Says (Line.Migration Stage.Frozen p) ∷ Says (Line.Migration Stage.Asked p) ∷ to_kernel MessageKind.Ask to ∷ [])
moves_plain v m i p to true = (refl, tt)
moves_plain v m i p to false = (refl, (refl, (tt, tt)))

pub sends_plain : (v : View) (to : ℕ) (xs ys : List MsgId) (ps : List Part) → ((i : MsgId) → 1 ≤ times i xs → is_some (v.told i) ≡ true) → ((i : MsgId) → 1 ≤ times i ys → is_some (v.told i) ≡ true) → ArePlain v ps → ArePlain v (sends_on to (xs ++ ys) ++ ps)
sends_plain v to [] [] ps first more h = h
sends_plain v to [] (y ∷ ys) ps first more h = (more y (first_of y ys), sends_plain v to [] ys ps first (λ i least. more i (omega (arith, least))) h)
sends_plain v to (x ∷ xs) ys ps first more h = (first x (first_of x xs), sends_plain v to xs ys ps (λ i least. first i (omega (arith, least))) more h)

can_leave : (C : Type 0) (never : C → ⊥) (m : ℕ) (o : Point) (i : MsgId) (p : Pid) (n : Known) (d : ℕ) → kind_leaves MessageKind.AllTaken d n ≡ true → ((j : MsgId) (z : Spot) → 1 ≤ standing o.view j z → is_some (o.view.told j) ≡ true)
    → Can C m (begun o m) (migrating.leaves i p (o.view.queue m p ++ o.view.held m p) n)
can_leave C never m o i p (Frozen to) d e told =
    can_plain C m (begun o m) _ never (refl, sends_plain (begun o m).view to (o.view.queue m p) (o.view.held m p) (Says (Line.Migration Stage.Left p) ∷ to_kernel MessageKind.Restart i.from.home ∷ []) (λ j least. told j (Queue m p) least) (λ j least. told j (Held m p) least) (refl, (tt, tt)))
    (ThenOwns (Line.SentOn p (length (o.view.queue m p ++ o.view.held m p))) _ refl refl (sends_own (Of p) to (o.view.queue m p ++ o.view.held m p) (Says (Line.Migration Stage.Left p) ∷ to_kernel MessageKind.Restart i.from.home ∷ []) (refl, tt)))
can_leave C never m o i p _ d e told = absurd (false≢true e)

-- whoever asked for the move is told
can_asker : (C : Type 0) (never : C → ⊥) (b : Boot) (m : ℕ) (o : Point) (l : Line) (p : Pid) (q : Option MoveNote) (r : Outcome) → o.kernel.notes p ≡ q → label_of l ≡ None → is_put l ≡ false
    → ((n : MoveNote) → service.ends_move o.kernel n.id p n r ≡ Some (service.move_ended o.kernel n.id p n r)) → Run b o → Can C m (begun o m) (Some (Says l ∷ tells_asker q r))
can_asker C never b m o l p None r notes none quiet ends run = can_plain C m (begun o m) (Says l ∷ []) never (none, tt) (NoOwns (tt, tt))
can_asker C never b m o l p (Some n) r notes none quiet ends run =
    let pt = begun o m in
    record {
      ps = Says l ∷ answers_move n.id r;
      is = refl;
      does = does_line C pt l (answers_move n.id r) none quiet (λ c. absurd (never c)) (does_answers C (moved pt l pt.kernel) n.id p n r (run.based.phased.sane.sound.notes.noted p n notes) notes (ends n));
      shape = Quiet (ap (λ (k : Option Label). no_receive (with_label k (Label.Answered n.id r ∷ []))) none);
      owns = NoOwns (tt, (tt, (tt, tt)));
    }

can_told : (C : Type 0) (never : C → ⊥) (b : Boot) (m : ℕ) (o : Point) (i : MsgId) (p : Pid) (room : Bool × ℕ × ℕ) (x : Size) (k : MessageKind) (t : Told) → o.view.told i ≡ Some t → t.about ≡ Of p → is_between k ≡ true → (k ≡ MessageKind.AllTaken → Coming b m o p k) → Run b o → Can C m (begun o m) (told_step o m i p room x (sort_of k))
can_told C never b m o i p room x MessageKind.Ask t told about e c run = can_plain C m (begun o m) (accepts i.from.home p room.0 room.1 room.2) never (accepts_plain (begun o m).view i.from.home p room.0 room.1 room.2) (accepts_own (begun o m).view i.from.home p room.0 room.1 room.2)
can_told C never b m o i p room x MessageKind.Refuse t told about e c run = can_asker C never b m o (Line.Stays p) p (o.kernel.notes p) Outcome.Stayed refl refl refl (λ n. refl) run
can_told C never b m o i p room x MessageKind.PullState t told about e c run = can_plain C m (begun o m) (gives_piece i MessageKind.State) never (refl, (tt, tt)) (piece_own (begun o m).view i MessageKind.State t p told about (λ a e. e))
can_told C never b m o i p room x MessageKind.State t told about e c run = can_plain C m (begun o m) (takes_chunk i p (o.view.asked p == chunks_of x)) never (chunk_plain (begun o m).view i p (o.view.asked p == chunks_of x) (is_server p)) (chunk_own (begun o m).view i p (o.view.asked p == chunks_of x) t p told about)
can_told C never b m o i p room x MessageKind.PullBlock t told about e c run = can_plain C m (begun o m) (gives_piece i MessageKind.Memory) never (refl, (tt, tt)) (piece_own (begun o m).view i MessageKind.Memory t p told about (λ a e. e))
can_told C never b m o i p room x MessageKind.Memory t told about e c run = can_plain C m (begun o m) (takes_block i p (o.view.asked p == pieces_of x)) never (block_plain (begun o m).view i p (o.view.asked p == pieces_of x)) (block_own (begun o m).view i p (o.view.asked p == pieces_of x) t p told about)
can_told C never b m o i p room x MessageKind.AllTaken t told about e all run = let c = all refl in grind (arith, nat_tests, can_leave, o.view.known, c.d, c.here, source_knows, c.s, c.id, c.phase.known, run.found.told)
can_told C never b m o i p room x MessageKind.Restart t told about e c run = can_asker C never b m o (Line.Migration Stage.Restarted p) p (o.kernel.notes p) Outcome.Done refl refl refl (λ n. refl) run
can_told C never b m o i p room x MessageKind.CallOff t told about e c run = can_asker C never b m o (Line.Stays p) p (o.kernel.notes p) Outcome.Stayed refl refl refl (λ n. refl) run
can_told C never b m o i p room x _ t told about e c run = absurd (false≢true e)

can_hear_of : (C : Type 0) (never : C → ⊥) (b : Boot) (m : ℕ) (o : Point) (i : MsgId) (t : Told) (p : Pid) (stale : Bool) → o.view.told i ≡ Some t → t.about ≡ Of p → is_between t.kind ≡ true → (stale ≡ false → Hearing b m o p t.kind) → Run b o
    → Can C m (begun o m) (if stale then Some (Says (Line.Stale i) ∷ []) else bind (size_of o.kernel p) (λ (x : Size). told_step o m i p (fits (free_room b o m) x.blocks) x (sort_of t.kind)))
can_hear_of C never b m o i t p true told about between h run = can_plain C m (begun o m) (Says (Line.Stale i) ∷ []) never (refl, tt) (NoOwns (tt, tt))
can_hear_of C never b m o i t p false told about between h run =
    let k = h refl in
    let (y, size) = k.size in
    can_as C m (begun o m) (bind (size_of o.kernel p) (λ (x : Size). told_step o m i p (fits (free_room b o m) x.blocks) x (sort_of t.kind))) (told_step o m i p (fits (free_room b o m) y.blocks) y (sort_of t.kind))
    (ap (λ (z : Option Size). bind z (λ (x : Size). told_step o m i p (fits (free_room b o m) x.blocks) x (sort_of t.kind))) size)
    (can_told C never b m o i p (fits (free_room b o m) y.blocks) y t.kind t told about between k.all run)

-- a message that tells of an end: the process is forgotten, and its predecessors are told
can_bury : (C : Type 0) (never : C → ⊥) (m : ℕ) (o : Point) (i : MsgId) (t : Told) (p : Pid) → o.view.told i ≡ Some t → t.about ≡ Of p → Can C m (begun o m) (Some (buried o m i p))
can_bury C never m o i t p told about =
    let v = (begun o m).view in
    let l = Line.Buried i (length (preds_of o m p)) in
    let topic : (view.view_after v l).topic ≡ Of p = ap (λ (q : Option Told). (view.buried_for (view.handled v i) q).topic) told ∙ ap (λ (a : view.About). (view.forgotten (view.handled v i) a).topic) about in
    can_plain C m (begun o m) (buried o m i p) never (refl, buries_plain v (preds_of o m p)) (ThenOwns l (buries o m p) refl refl (subst (λ (a : view.About). Later a (buries o m p)) (sym topic) (buries_later p (preds_of o m p))))

between_on : (s : Sort) → tells_between s ≡ true → tells_end s ≡ false
between_on (Sort.Between passage) e = refl
between_on _ e = absurd (false≢true e)

can_kernel : (C : Type 0) (never : C → ⊥) (b : Boot) (m : ℕ) (o : Point) (i : MsgId) (f : FrontOwn b m o i) → (f.told.receiver.num == 0) ≡ true → Can C m (begun o m) (kernel_hears b o m i f.told.kind f.told.about)
can_kernel C never b m o i f num =
    let (which, p, about) = own_between f.told.kind f.told.receiver f.told.about (own_sorted b m o i f) num in
    let k = f.told.kind in
    let stale = rule.is_stale o m i k p in
    let steps = if stale then Some (Says (Line.Stale i) ∷ []) else bind (size_of o.kernel p) (λ (x : Size). told_step o m i p (fits (free_room b o m) x.blocks) x (sort_of k)) in
    elim which [
      | inl between ↦
          can_as C m (begun o m) (kernel_hears b o m i k f.told.about) steps (ap (kernel_hears b o m i k) about ∙ ap (λ (c : Bool). if c then Some (buried o m i p) else steps) (between_on (sort_of k) between))
          (can_hear_of C never b m o i f.told p stale f.told_is about between (λ fresh. hearing b m o i p f between about fresh) f.run)
      | inr bury ↦
          can_as C m (begun o m) (kernel_hears b o m i k f.told.about) (Some (buried o m i p)) (ap (kernel_hears b o m i k) about ∙ ap (λ (j : MessageKind). if tells_end (sort_of j) then Some (buried o m i p) else steps) bury)
          (can_bury C never m o i f.told p f.told_is about)
    ]

-- at a process or a server
can_here : (C : Type 0) (never : C → ⊥) (m : ℕ) (o : Point) (i : MsgId) (t : Told) (k : MessageKind) → own_sort k t.receiver t.about ≡ true → (t.receiver.num == 0) ≡ false → Can C m (begun o m) (told_here o m i t (sort_of k))
can_here C never m o i t MessageKind.Migrate e num = can_plain C m (begun o m) (if m == (target_of (Some t)) then Says (Line.Here i) ∷ [] else leaves_for t.receiver (target_of (Some t))) never (moves_plain (begun o m).view m i t.receiver (target_of (Some t)) (m == target_of (Some t))) (moves_own (begun o m).view i t.receiver (target_of (Some t)) (m == target_of (Some t)))
can_here C never m o i t MessageKind.Update e num = can_plain C m (begun o m) (updates o i t) never (refl, tt) (NoOwns (tt, tt))
can_here C never m o i t _ e num = absurd (grind (arith, nat_tests))

can_over : (C : Type 0) (never : C → ⊥) (m : ℕ) (o : Point) (i : MsgId) (t : Told) (k : MessageKind) → own_sort k t.receiver t.about ≡ true → (t.receiver.num == 0) ≡ false → Can C m (begun o m) (told_ended i (sort_of k))
can_over C never m o i t k h1 h2 = search (arith, can_plain)

can_known : (C : Type 0) (never : C → ⊥) (b : Boot) (m : ℕ) (o : Point) (i : MsgId) (f : FrontOwn b m o i) (n : Known) → o.view.known m f.told.receiver ≡ n → (f.told.receiver.num == 0) ≡ false → Can C m (begun o m) (process_told o m i f.told n)
can_known C never b m o i f Unknown is num = can_over C never m o i f.told f.told.kind (own_sorted b m o i f) num
can_known C never b m o i f Here is num = can_here C never m o i f.told f.told.kind (own_sorted b m o i f) num
can_known C never b m o i f (Forward at_ moves) is num = can_plain C m (begun o m) (forwards_on o.addresses i f.told.kind manager at_) never (forwards_plain (begun o m).view o.addresses i f.told.kind manager at_ (ap is_some f.told_is))
    (forwards_own (begun o m).view o.addresses i f.told.kind manager at_ (forwarded_place (begun o m).view i at_ f.told at_ moves f.told_is is) (λ e. refl))
can_known C never b m o i f _ is num = can_plain C m (begun o m) (Says (Line.Held i) ∷ []) never (refl, tt) (NoOwns (tt, tt))

can_by : (C : Type 0) (never : C → ⊥) (b : Boot) (m : ℕ) (o : Point) (i : MsgId) (f : FrontOwn b m o i) (c : Bool) → (f.told.receiver.num == 0) ≡ c
    → Can C m (begun o m) (if c then kernel_hears b o m i f.told.kind f.told.about else process_told o m i f.told (o.view.known m f.told.receiver))
can_by C never b m o i f true num = can_kernel C never b m o i f num
can_by C never b m o i f false num = can_known C never b m o i f (o.view.known m f.told.receiver) refl num

pub can_hear : (b : Boot) (m : ℕ) (o : Point) (i : MsgId) (is : List MsgId) → o.view.inbox m ≡ i ∷ is → FrontOwn b m o i → o.kernel.bag i ≡ None → CanTurn m o (rule.comes_to b o m i (o.kernel.bag i))
can_hear b m o i is box f none =
    can_as (Calm m o) m (begun o m) (rule.comes_to b o m i (o.kernel.bag i)) (hears b o m i (Some f.told)) (ap (rule.comes_to b o m i) none ∙ ap (hears b o m i) f.told_is)
    (can_by (Calm m o) (λ c. c.none i is box none) b m o i f (f.told.receiver.num == 0) refl)
