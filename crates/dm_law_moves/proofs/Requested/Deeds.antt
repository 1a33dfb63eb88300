-- The groups of the rule by what they do with requests to move and with processes that move: none of it, or one of eight deeds.
use Rattle.dm_law_rule.specs.Migrating.{Size, size_of}
use Rattle.dm_law_moves.proofs.LastPieces.{last_chunk}
use Rattle.dm_law_moves.proofs.Names.{is_server, none_some}
use Rattle.dm_law_moves.proofs.Names.{◌≡◌, ◌⊎◌, ℕ, ◌==◌, Bool, true, false, List, [], ◌∷◌, ◌++◌, refl, ap, ⊤, inl, inr, if◌then◌else◌, Option, None, Some, Pid, MsgId, MessageKind, Outcome, Boot, PlainMessage, PlainWhat}
use Rattle.dm_law_moves.proofs.Names.{Label, Line, Stage, Step, Told, About, Of, Known, Unknown, Here, Frozen, Incoming, Forward, Addresses, target_of, Point, Part, Says, Owns, bind, bind-is, to_kernel, forwards_on, leaves_for}
use Rattle.dm_law_moves.proofs.Names.{answers_move, tells_asker, gives_piece, takes_chunk, takes_block, chunks_of, pieces_of, leaves, left_parts, sends_on, called_parts, told_step, updates, told_here, told_ended, process_told}
use Rattle.dm_law_moves.proofs.Names.{buried, preds_of, tells_end, is_stale, ends_with, sort_of, plain_kind, manager, IsNetLine, IsNet, by_net, by_round, by_handles, by_forwards, by_migrates, by_calls_off, by_outcome}
use Rattle.dm_law_moves.proofs.Names.{buries_kept, ends_kept, nat_tests, arith, kernel_hears, by_test, TurnsBack}
use Rattle.dm_law_rule.proofs.Hearing.{given}
use Rattle.dm_law_rule.specs.Rule as rule
use Rattle.dm_law_moves.proofs.Leading.{All}
use Rattle.dm_law_moves.proofs.Ends.Parts.{is_migrate}
use Rattle.dm_law_moves.proofs.Asked.Following.{EndLine}

-- lines that say something of it
abbrev pub is_wild : Line → Bool
is_wild (Line.Head d) = true
is_wild (Line.Put a b i k q) = true
is_wild (Line.Label (Label.Asked i)) = true
is_wild (Line.Label (Label.Answered i o)) = true
is_wild (Line.Migration Stage.Frozen q) = true
is_wild (Line.Migration Stage.Accepted q) = true
is_wild (Line.Migration Stage.Restarted q) = true
is_wild (Line.Called q n) = true
is_wild (Line.Lacks q s b) = true
is_wild (Line.Stays q) = true
is_wild _ = false

abbrev pub MildPart : Part → Type 0
MildPart (Says l) = is_wild l ≡ false
MildPart (Owns k q to) = is_migrate k ≡ false
MildPart _ = ⊤

abbrev pub AllMild : List Part → Type 0
AllMild = All MildPart

-- a kernel's own message at the front of the inbox of the machine whose turn it is
pub record AtFront (o : Point) (d : Step) (m : ℕ) (i : MsgId) (is : List MsgId) (t : Told) : Type 0 where
  pub turn : d ≡ Step.Turn m
  pub box : o.view.inbox m ≡ i ∷ is
  pub told : o.view.told i ≡ Some t

-- the answer to another machine's question whether a process may come
abbrev pub AnswerLine : Pid → Line → Type 0
AnswerLine p l = (l ≡ Line.Migration Stage.Accepted p) ⊎ ((s : ℕ) × (b : ℕ) × (l ≡ Line.Lacks p s b))

-- the message that ends a move so
abbrev pub EndsBy : MessageKind → Outcome → Type 0
EndsBy k Outcome.Done = k ≡ MessageKind.Restart
EndsBy k Outcome.Stayed = TurnsBack k
EndsBy k Outcome.Ended = ⊥

-- a message of the bag at a process that is here
pub record AtHere (o : Point) (d : Step) (m : ℕ) (id : MsgId) (msg : PlainMessage) : Type 0 where
  pub turn : d ≡ Step.Turn m
  pub there : o.kernel.bag id ≡ Some msg
  pub here : o.view.known m msg.to ≡ Here

pub data Deed (o : Point) (d : Step) (ps : List Part) : Type 0 where
  Mild : AllMild ps → Deed o d ps
  -- the directives
  Directs : (q : Pid) → (m : ℕ) → (to : ℕ) → d ≡ Step.Migrate q m → ps ≡ Owns MessageKind.Migrate q to ∷ [] → Deed o d ps
  Calls : (m : ℕ) → (p : Pid) → (from : ℕ) → d ≡ Step.CallOff p m → o.view.known m p ≡ Incoming from → ps ≡ called_parts p (o.view.held m p) from → Deed o d ps
  -- a process is asked to move: it is there already, or sets off
  IsThere : (m : ℕ) → (id : MsgId) → (msg : PlainMessage) → AtHere o d m id msg → msg.what ≡ PlainWhat.Move m → ps ≡ rule.says (Label.Asked id) ∷ answers_move id Outcome.Done → Deed o d ps
  SetsOff : (m : ℕ) → (id : MsgId) → (msg : PlainMessage) → (to : ℕ) → AtHere o d m id msg → msg.what ≡ PlainWhat.Move to → ps ≡ rule.says (Label.Asked id) ∷ leaves_for msg.to to → Deed o d ps
  -- it sets off by a directive
  Obeys : (m : ℕ) → (i : MsgId) → (is : List MsgId) → (t : Told) → AtFront o d m i is t → is_migrate t.kind ≡ true → o.view.known m t.receiver ≡ Here → ps ≡ leaves_for t.receiver (target_of (Some t)) → Deed o d ps
  -- whether it may come is answered
  Answers : (m : ℕ) → (i : MsgId) → (is : List MsgId) → (t : Told) → (p : Pid) → (l : Line) → (k : MessageKind) → AtFront o d m i is t → t.about ≡ Of p → t.kind ≡ MessageKind.Ask → AnswerLine p l → is_migrate k ≡ false → ps ≡ Says l ∷ to_kernel k i.from.home ∷ [] → Deed o d ps
  -- its move ends
  Ends : (m : ℕ) → (i : MsgId) → (is : List MsgId) → (t : Told) → (p : Pid) → (l : Line) → (r : Outcome) → AtFront o d m i is t → t.about ≡ Of p → EndsBy t.kind r → EndLine p r l → ps ≡ Says l ∷ tells_asker (o.kernel.notes p) r → Deed o d ps

-- what is mild
ends_mild : (o : Point) (m : ℕ) (p : Pid) → AllMild (ends_with o m p)
ends_mild o m p = ends_kept AllMild tt (λ i xs h. (refl, h)) (λ to xs h. (refl, h)) o m p

routes_mild : (o : Option PlainMessage) → AllMild (rule.routes o)
routes_mild None = tt
routes_mild (Some m) = (tt, tt)

forwards_mild : (a : Addresses) (id : MsgId) (k : MessageKind) (sender : Pid) (to : ℕ) → AllMild (forwards_on a id k sender to)
forwards_mild a id k sender to = by_forwards AllMild a id k sender to (refl, (tt, tt)) (refl, (tt, (refl, tt)))

sends_mild : (to : ℕ) (ids : List MsgId) (ps : List Part) → AllMild ps → AllMild (sends_on to ids ++ ps)
sends_mild to [] ps h = h
sends_mild to (i ∷ is) ps h = (tt, sends_mild to is ps h)

round_mild : (b : Boot) (o : Point) (m : ℕ) (q : Option Pid) (ps : List Part) → rule.goes_round b o m q ≡ Some ps → AllMild ps
round_mild b o m q ps = by_round AllMild b o m q ps (refl, tt) (λ p x is alive. record {
  runs = λ k rest stops. (
    refl,
    stops AllMild (record {
      over = tt;
      replies = λ n r. (refl, tt);
      sends = λ id. (refl, (tt, tt));
      waits = (refl, tt);
      outputs = λ word. (refl, tt);
      ends = λ y. (refl, ends_mild o m p);
    }),
  );
  takes = λ mask id first. (refl, tt);
  refuses = λ id r. (refl, tt);
})

handles_deed : (b : Boot) (o : Point) (m : ℕ) (id : MsgId) (msg : PlainMessage) (ps : List Part) → o.kernel.bag id ≡ Some msg → rule.handles b o m id msg ≡ Some ps → Deed o (Step.Turn m) ps
handles_deed b o m id msg ps there = by_handles (Deed o (Step.Turn m)) b o m id msg ps (record {
  created = λ fixed. Mild (refl, (tt, tt));
  no_space = λ fixed slots blocks. Mild (refl, (tt, tt));
  took = λ fixed sent. Mild (refl, routes_mild sent);
  queued = λ to user. Mild (refl, tt);
  served = λ to mild. Mild (refl, tt);
  answers = λ to mild i. Mild (refl, (tt, tt));
  kills = λ to kills. Mild (refl, ends_mild o m msg.to);
  moved = λ to what. IsThere m id msg (record { turn = refl; there = there; here = to.known }) what refl;
  sets_off = λ n to what apart. SetsOff m id msg n (record { turn = refl; there = there; here = to.known }) what refl;
  gone = λ to. Mild (refl, (tt, tt));
  dropped = λ to. Mild (refl, tt);
  leaving = λ n to. Mild (refl, tt);
  coming = λ n to. Mild (refl, tt);
  forwarded = λ n c to. Mild (forwards_mild o.addresses id (plain_kind msg.what) msg.sender n);
})

-- what a kernel is told by another
leaves_deed : (o : Point) (m : ℕ) (i : MsgId) (p : Pid) (ids : List MsgId) (k : Known) (ps : List Part) → leaves i p ids k ≡ Some ps → Deed o (Step.Turn m) ps
leaves_deed o m i p ids (Frozen to) ps e = given (Deed o (Step.Turn m)) (left_parts i p ids to) ps (Mild (refl, sends_mild to ids (Says (Line.Migration Stage.Left p) ∷ to_kernel MessageKind.Restart i.from.home ∷ []) (refl, (refl, tt)))) e
leaves_deed o m i p ids _ ps e = none_some ps e

told_deed : (o : Point) (m : ℕ) (i : MsgId) (is : List MsgId) (t : Told) (p : Pid) (room : Bool × ℕ × ℕ) (x : Size) (k : MessageKind) (ps : List Part) → AtFront o (Step.Turn m) m i is t → t.about ≡ Of p → t.kind ≡ k → told_step o m i p room x (sort_of k) ≡ Some ps
    → Deed o (Step.Turn m) ps
told_deed o m i is t p room x MessageKind.Ask ps f about kind e =
    let D = Deed o (Step.Turn m) in
    let taken = Says (Line.Migration Stage.Accepted p) ∷ to_kernel MessageKind.PullState i.from.home ∷ [] in
    let lacks = Says (Line.Lacks p room.1 room.2) ∷ to_kernel MessageKind.Refuse i.from.home ∷ [] in
    given D (if room.0 then taken else lacks) ps
    (by_test D room.0 taken lacks (Answers m i is t p (Line.Migration Stage.Accepted p) MessageKind.PullState f about kind (inl refl) refl refl) (Answers m i is t p (Line.Lacks p room.1 room.2) MessageKind.Refuse f about kind (inr (room.1, room.2, refl)) refl refl)) e
told_deed o m i is t p room x MessageKind.Refuse ps f about kind e =
    given (Deed o (Step.Turn m)) (Says (Line.Stays p) ∷ tells_asker (o.kernel.notes p) Outcome.Stayed) ps (Ends m i is t p (Line.Stays p) Outcome.Stayed f about (inl kind) refl refl) e
told_deed o m i is t p room x MessageKind.CallOff ps f about kind e =
    given (Deed o (Step.Turn m)) (Says (Line.Stays p) ∷ tells_asker (o.kernel.notes p) Outcome.Stayed) ps (Ends m i is t p (Line.Stays p) Outcome.Stayed f about (inr kind) refl refl) e
told_deed o m i is t p room x MessageKind.Restart ps f about kind e =
    given (Deed o (Step.Turn m)) (Says (Line.Migration Stage.Restarted p) ∷ tells_asker (o.kernel.notes p) Outcome.Done) ps (Ends m i is t p (Line.Migration Stage.Restarted p) Outcome.Done f about kind refl refl) e
told_deed o m i is t p room x MessageKind.PullState ps f about kind e = given (Deed o (Step.Turn m)) (gives_piece i MessageKind.State) ps (Mild (refl, (refl, tt))) e
told_deed o m i is t p room x MessageKind.PullBlock ps f about kind e = given (Deed o (Step.Turn m)) (gives_piece i MessageKind.Memory) ps (Mild (refl, (refl, tt))) e
told_deed o m i is t p room x MessageKind.State ps f about kind e =
    let D = Deed o (Step.Turn m) in
    let block = Says (Line.Migration Stage.StateTaken p) ∷ to_kernel MessageKind.PullBlock i.from.home ∷ [] in
    let last = if is_server p then last_chunk p i.from.home else block in
    let takes : D last = by_test D (is_server p) (last_chunk p i.from.home) block (Mild (refl, (refl, (refl, tt)))) (Mild (refl, (refl, tt))) in
    let next = Says (Line.Proto i) ∷ to_kernel MessageKind.PullState i.from.home ∷ [] in
    given D (takes_chunk i p (o.view.asked p == chunks_of x)) ps (by_test D (o.view.asked p == chunks_of x) last next takes (Mild (refl, (refl, tt)))) e
told_deed o m i is t p room x MessageKind.Memory ps f about kind e =
    let D = Deed o (Step.Turn m) in
    let last = Says (Line.Migration Stage.MemoryTaken p) ∷ to_kernel MessageKind.AllTaken i.from.home ∷ [] in
    let next = Says (Line.Proto i) ∷ to_kernel MessageKind.PullBlock i.from.home ∷ [] in
    given D (takes_block i p (o.view.asked p == pieces_of x)) ps (by_test D (o.view.asked p == pieces_of x) last next (Mild (refl, (refl, tt))) (Mild (refl, (refl, tt)))) e
told_deed o m i is t p room x MessageKind.AllTaken ps f about kind e = leaves_deed o m i p (o.view.queue m p ++ o.view.held m p) (o.view.known m p) ps e
told_deed o m i is t p room x _ ps f about kind e = none_some ps e

due_deed : (b : Boot) (o : Point) (m : ℕ) (i : MsgId) (is : List MsgId) (t : Told) (p : Pid) (stale : Bool) (ps : List Part) → AtFront o (Step.Turn m) m i is t → t.about ≡ Of p
    → (if stale then Some (Says (Line.Stale i) ∷ []) else bind (size_of o.kernel p) (λ x. told_step o m i p (rule.fits (rule.free_room b o m) x.blocks) x (sort_of t.kind))) ≡ Some ps → Deed o (Step.Turn m) ps
due_deed b o m i is t p true ps f about e = given (Deed o (Step.Turn m)) (Says (Line.Stale i) ∷ []) ps (Mild (refl, tt)) e
due_deed b o m i is t p false ps f about e =
    let (x, sized, steps) = bind-is (size_of o.kernel p) (λ (x : Size). told_step o m i p (rule.fits (rule.free_room b o m) x.blocks) x (sort_of t.kind)) ps e in
    told_deed o m i is t p (rule.fits (rule.free_room b o m) x.blocks) x t.kind ps f about refl steps

over_deed : (b : Boot) (o : Point) (m : ℕ) (i : MsgId) (is : List MsgId) (t : Told) (p : Pid) (over : Bool) (ps : List Part) → AtFront o (Step.Turn m) m i is t → t.about ≡ Of p
    → (if over then Some (buried o m i p)
    else if is_stale o m i t.kind p then Some (Says (Line.Stale i) ∷ [])
    else bind (size_of o.kernel p) (λ x. told_step o m i p (rule.fits (rule.free_room b o m) x.blocks) x (sort_of t.kind))) ≡ Some ps
    → Deed o (Step.Turn m) ps
over_deed b o m i is t p true ps f about e = given (Deed o (Step.Turn m)) (buried o m i p) ps (Mild (refl, buries_kept AllMild tt (λ to xs h. (refl, h)) (preds_of o m p))) e
over_deed b o m i is t p false ps f about e = due_deed b o m i is t p (is_stale o m i t.kind p) ps f about e

kernel_deed : (b : Boot) (o : Point) (m : ℕ) (i : MsgId) (is : List MsgId) (t : Told) (a : About) (ps : List Part) → AtFront o (Step.Turn m) m i is t → t.about ≡ a → kernel_hears b o m i t.kind a ≡ Some ps → Deed o (Step.Turn m) ps
kernel_deed b o m i is t (Of p) ps f about e = over_deed b o m i is t p (tells_end (sort_of t.kind)) ps f about e
kernel_deed b o m i is t _ ps f about e = none_some ps e

-- at a process or a server
here_deed : (o : Point) (m : ℕ) (i : MsgId) (is : List MsgId) (t : Told) (k : MessageKind) (ps : List Part) → AtFront o (Step.Turn m) m i is t → t.kind ≡ k → o.view.known m t.receiver ≡ Here → told_here o m i t (sort_of k) ≡ Some ps → Deed o (Step.Turn m) ps
here_deed o m i is t MessageKind.Migrate ps f kind here e =
    let D = Deed o (Step.Turn m) in
    let stays = Says (Line.Here i) ∷ [] in
    let goes = leaves_for t.receiver (target_of (Some t)) in
    given D (if m == target_of (Some t) then stays else goes) ps (by_test D (m == target_of (Some t)) stays goes (Mild (refl, tt)) (Obeys m i is t f (ap is_migrate kind) here refl)) e
here_deed o m i is t MessageKind.Update ps f kind here e = given (Deed o (Step.Turn m)) (updates o i t) ps (Mild (refl, tt)) e
here_deed o m i is t _ ps f kind here e = none_some ps e

ended_deed : (o : Point) (m : ℕ) (i : MsgId) (k : MessageKind) (ps : List Part) → told_ended i (sort_of k) ≡ Some ps → Deed o (Step.Turn m) ps
ended_deed o m i MessageKind.Migrate ps e = given (Deed o (Step.Turn m)) (Says (Line.NoMove i) ∷ []) ps (Mild (refl, tt)) e
ended_deed o m i MessageKind.Update ps e = given (Deed o (Step.Turn m)) (Says (Line.Updated i 0) ∷ []) ps (Mild (refl, tt)) e
ended_deed o m i _ ps e = none_some ps e

process_deed : (o : Point) (m : ℕ) (i : MsgId) (is : List MsgId) (t : Told) (k : Known) (ps : List Part) → AtFront o (Step.Turn m) m i is t → o.view.known m t.receiver ≡ k → process_told o m i t k ≡ Some ps → Deed o (Step.Turn m) ps
process_deed o m i is t Here ps f known e = here_deed o m i is t t.kind ps f refl known e
process_deed o m i is t Unknown ps f known e = ended_deed o m i t.kind ps e
process_deed o m i is t (Frozen to) ps f known e = given (Deed o (Step.Turn m)) (Says (Line.Held i) ∷ []) ps (Mild (refl, tt)) e
process_deed o m i is t (Incoming from) ps f known e = given (Deed o (Step.Turn m)) (Says (Line.Held i) ∷ []) ps (Mild (refl, tt)) e
process_deed o m i is t (Forward to moves) ps f known e = given (Deed o (Step.Turn m)) (forwards_on o.addresses i t.kind manager to) ps (Mild (forwards_mild o.addresses i t.kind manager to)) e

receiver_deed : (b : Boot) (o : Point) (m : ℕ) (i : MsgId) (is : List MsgId) (t : Told) (c : Bool) (ps : List Part) → AtFront o (Step.Turn m) m i is t → (if c then kernel_hears b o m i t.kind t.about else process_told o m i t (o.view.known m t.receiver)) ≡ Some ps → Deed o (Step.Turn m) ps
receiver_deed b o m i is t true ps f e = kernel_deed b o m i is t t.about ps f refl e
receiver_deed b o m i is t false ps f e = process_deed o m i is t (o.view.known m t.receiver) ps f refl e

hears_deed : (b : Boot) (o : Point) (m : ℕ) (i : MsgId) (is : List MsgId) (q : Option Told) (ps : List Part) → o.view.inbox m ≡ i ∷ is → o.view.told i ≡ q → rule.hears b o m i q ≡ Some ps → Deed o (Step.Turn m) ps
hears_deed b o m i is None ps box told e = none_some ps e
hears_deed b o m i is (Some t) ps box told e = receiver_deed b o m i is t (t.receiver.num == 0) ps (record { turn = refl; box = box; told = told }) e

net_is_mild : (l : Line) → IsNetLine l → is_wild l ≡ false
net_is_mild l h = grind (arith, nat_tests)

net_parts_mild : (ps : List Part) → IsNet ps → AllMild ps
net_parts_mild = by_net AllMild tt (λ l ps net h. (net_is_mild l net, h)) (λ a b l ps h. (tt, h))

pub outcome_deed : (b : Boot) (o : Point) (d : Step) (ps : List Part) → rule.outcome b o d ≡ Some ps → Deed o d ps
outcome_deed b o d ps = by_outcome (Deed o) b o d ps (record {
  round = λ m xs box e. Mild (round_mild b o m (rule.first_runnable o.kernel (o.view.queue m) (o.view.ring m)) xs e);
  handles = λ m i is msg xs box there e. handles_deed b o m i msg xs there e;
  hears = λ m i is xs box none e. hears_deed b o m i is (o.view.told i) xs box refl e;
  ticks = λ m xs net. Mild (net_parts_mild xs net);
  delivers = λ a c k xs net. Mild (net_parts_mild xs net);
  asks = λ p m. by_migrates (Deed o (Step.Migrate p m)) o p (Mild (refl, tt)) (Mild (refl, tt)) (λ a here knows. Directs p m a.at refl refl);
  calls = λ p m. by_calls_off (Deed o (Step.CallOff p m)) o m p (Mild (refl, tt)) (λ from is come. Calls m p from refl is refl);
})
