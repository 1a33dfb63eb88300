-- Each group keeps where addresses lead, what machines know, and where messages stand.
use Rattle.dm_law_always.proofs.Names.{◌≡◌, ℕ, ◌<◌, ◌≤◌, Bool, true, false, is_some, List, ◌∷◌, refl, ap, ◌∙◌, sym, subst, inl, inr, arith, if◌then◌else◌, Option, None, Some, Pid, MsgId, plain_kind, PlainMessage, MessageKind, Boot, manager}
use Rattle.dm_law_always.proofs.Names.{Step, id_eq-same, alive-is, Line, View, Told, About, Of, Unknown, Here, Frozen, Incoming, Forward, is_kernels, receiver_of, target_in, target_of, front_of, Receiver, Sender, sender_of}
use Rattle.dm_law_always.proofs.Names.{IsStep, forwards_on, migrates, Part, Owns, Spelled, Moves, is_between, is_restart, is_early, knows, receiver_in, tells_onward, Point, moved, group_of, Inbox, Queue, Held, times, standing, group_is}
use Rattle.dm_law_always.proofs.Names.{turn_off, letters, eq_is, both_lists, both_times, under_way, front_kernels, Phased, head_calm, InPhases, calm_phases, rooted, State, Sane, sane_line, outcome_sayable, Comes, Named, Links}
use Rattle.dm_law_always.proofs.Names.{source_holds, destination_expects, is_fixed, eq_self, about_same, front_one, least_of, by_migrates, by_net, by_outcome, sort_of, slice_get, option_and_then, call_off, by_calls_off, coming_is}
use Rattle.dm_law_always.proofs.Names.{source_knows, calls_off, is_calloff, pulls_piece, Due, due_or_left, Pulled, pulled, false≢true, Says, [], ◌≢◌, ◌==◌, Known, Lives, bury_over, is_away, kind_comes, kind_leaves, not, right_true}
use Rattle.dm_law_always.proofs.Names.{Place, own_id, own_given, known_place, has_seat, given, acting_place, is_here, ◌∙◌}
use Rattle.dm_law_rule.specs.Addresses.{unmoved}
use Rattle.std.specs.Option.{unwrap_or}
use Rattle.dm_law_rule.proofs.KnownPlaces.{known_by}
use Rattle.dm_law_rule.proofs.Groups.{begun}
use Rattle.dm_law_rule.proofs.Trails.Places.{Owns}
use Rattle.dm_law_always.proofs.Found.Labels.{there_known, line_core}
use Rattle.dm_law_always.proofs.Found.Core.{IsReal, Knows, KnowsAt, AboutIs, KnownIs, LineCore, known_within}
use Rattle.dm_law_always.proofs.Found.Forward.{forwards_need, moves_back, leaves_need, calls_need, named_for}
use Rattle.dm_law_always.proofs.Found.Parts.{AllNeed, NeedOf, NeedsOwn, AllLoose, loose_need, first_need, parts_core, Heard, told_by_need, round_need, handles_need, Moves as MovesTo}
use Rattle.dm_law_always.proofs.Found.Real.{made_free, named_by, server_real, sends_real, has_some}
use Rattle.dm_law_always.proofs.Based.Needs.{is_over}
use Rattle.dm_law_always.proofs.Found.Core.{NeedsOver, There}
use Rattle.dm_law_rule.specs.Phases as phases
use Rattle.dm_law_rule.specs.Rule as rule

-- behind the head of a group
abbrev pub headed : Point → Step → Point
headed pt d = moved pt (Line.Head d) pt.kernel

pub head_sane : (pt : Point) (d : Step) → Sane pt → Sane (headed pt d)
head_sane pt d h = sane_line pt (headed pt d) (Line.Head d) refl refl h

group_core : (n : ℕ) (b : Boot) (pt : Point) (d : Step) (w : Spelled) → IsStep n d → group_of b pt d ≡ Some w → ((ps : List Part) → rule.outcome b pt d ≡ Some ps → LineCore n (headed pt d) → AllNeed n (headed pt d) ps) → Sane pt → LineCore n pt → LineCore n w.point
group_core n b pt d w fit e needs sane h =
    let g = group_is b pt d w e in
    let start = line_core n pt pt.kernel (Line.Head d) fit sane refl h in
    subst (LineCore n) g.point (parts_core n g.parts (headed pt d) g.rest (outcome_sayable b pt d g.parts g.is) (needs g.parts g.is start) (head_sane pt d sane) g.said start)

-- the manager is here, on its seat
pub here_is : (k : Known) → is_here k ≡ true → k ≡ Here
here_is Here e = refl
here_is _ e = absurd (false≢true e)

seat_knows : (n : ℕ) (pt : Point) → has_seat pt.view ≡ true → LineCore n pt → KnowsAt n pt.kernel.processes pt.view manager pt.view.seat
seat_knows n pt here h =
    let v = pt.view in
    let known : v.known v.seat manager ≡ Here = here_is (v.known v.seat manager) here in
    let some : v.known v.seat manager ≢ Unknown = λ e. (let f : Here ≡ Unknown = sym known ∙ e in cc) in
    inr (refl, (known_within n pt.kernel.processes v v.seat manager (v.known v.seat manager) some (h.known v.seat manager), λ lives. some))

-- it knows the place of what it tells to move, which is its own, or that of one of its holders
place_knows : (n : ℕ) (pt : Point) (p : Pid) (a : Place) → known_place pt.kernel pt.view pt.view.acting pt.addresses p ≡ Some a → KnowsAt n pt.kernel.processes pt.view manager pt.view.acting → LineCore n pt
    → Knows n pt.kernel.processes pt.view p a × IsReal n pt.kernel.processes pt.view p
place_knows n pt p a place seat h =
    let v = pt.view in
    let l = pt.kernel.processes in
    elim (known_by pt.kernel v v.acting pt.addresses p a place) [
      | inl own ↦ (subst (λ (q : Pid). Knows n l v q a) (sym own.0) (subst (Knows n l v manager) (sym own.1) seat), subst (IsReal n l v) (sym own.0) (server_real pt n manager h refl))
      | inr other ↦ (subst (Knows n l v p) (sym other.1.1) (h.all other.0 p (Links other.1.0)), named_by pt n other.0 p h other.1.0)
    ]

asks_own : (n : ℕ) (pt : Point) (p : Pid) (a : Place) → has_seat pt.view ≡ true → pt.view.acting ≡ pt.view.seat → known_place pt.kernel pt.view pt.view.seat pt.addresses p ≡ Some a → LineCore n pt → NeedsOwn n pt MessageKind.Migrate p a.at
asks_own n pt p a here acts knows h =
    let v = pt.view in
    let l = pt.kernel.processes in
    let i = own_id v in
    let place : known_place pt.kernel v v.acting pt.addresses p ≡ Some a = ap (λ (m : ℕ). known_place pt.kernel v m pt.addresses p) acts ∙ knows in
    let seat : KnowsAt n l v manager v.acting = subst (KnowsAt n l v manager) (sym acts) (seat_knows n pt here h) in
    let gs = own_given pt.kernel v pt.addresses i p (sort_of MessageKind.Migrate) in
    let to : given pt.addresses gs (Receiver i) ≡ a =
    ap (λ (c : Bool). if c then unwrap_or (known_place pt.kernel v v.acting pt.addresses p) (unmoved 0) else pt.addresses (Receiver i)) (id_eq-same i) ∙ ap (λ (o : Option Place). unwrap_or o (unmoved 0)) place in
    let from : given pt.addresses gs (Sender i) ≡ acting_place v manager = ap (λ (c : Bool). if c then acting_place v manager else pt.addresses (Sender i)) (id_eq-same i) in
    let both = place_knows n pt p a place seat h in
    record {
      knows = subst (Knows n l v p) (sym to) both.0;
      from = λ e. subst (Knows n l v manager) (sym from) seat;
      at = ap (λ (x : Place). x.at) to;
      real = both.1;
      own = refl;
    }

migrates_need : (n : ℕ) (pt : Point) (p : Pid) → (has_seat pt.view ≡ true → pt.view.acting ≡ pt.view.seat) → LineCore n pt → AllNeed n pt (migrates pt p)
migrates_need n pt p acts h =
    by_migrates (AllNeed n pt) pt p (first_need n pt (Says Line.Away) [] tt tt) (first_need n pt (Says (Line.NoChild p)) [] tt tt)
    (λ a here knows. (asks_own n pt p a here (acts here) knows h, λ ls next is leads. tt))

pub told_there : (o : Option Told) → is_some o ≡ true → (t : Told) × (o ≡ Some t)
told_there o h1 = search arith

-- the machines of a migration
abbrev AllKnown : ℕ → Lives → View → Type 0
AllKnown n l v = (m : ℕ) (p : Pid) → KnownIs n l v m p (v.known m p)

moves_by : (n : ℕ) (l : Lives) (v : View) (p : Pid) (k : MessageKind) (s d : ℕ) (x : Known) → kind_leaves k d x ≡ true → KnownIs n l v s p x → (s < n) × (d < n) × (is_fixed p ≡ false)
moves_by n l v p k s d (Frozen to) e h = let f : (d == to) ≡ true = right_true (not (is_restart k)) (d == to) e in (h.0, subst (λ (m : ℕ). m < n) (sym (eq_is d to f)) h.1, h.2)
moves_by n l v p k s d (Forward to c) e h = let f : (d == to) ≡ true = right_true (is_restart k) (d == to) e in (h.0, subst (λ (m : ℕ). m < n) (sym (eq_is d to f)) h.1.0, h.2)
moves_by n l v p k s d (Incoming from) e h = absurd (false≢true e)
moves_by n l v p k s d Here e h = absurd (false≢true e)
moves_by n l v p k s d Unknown e h = absurd (false≢true e)

moves_within : (n : ℕ) (l : Lives) (v : View) (p : Pid) (k : MessageKind) (s d : ℕ) (o : Option MsgId) → knows (Moves k s d o) s (v.known s p) ≡ true → AllKnown n l v → (s < n) × (d < n) × (is_fixed p ≡ false)
moves_within n l v p k s d o e h =
    let leaves : kind_leaves k d (v.known s p) ≡ true = sym (ap (λ (c : Bool). if c then kind_leaves k d (v.known s p) else if d == s then kind_comes k s (v.known s p) else is_away (v.known s p)) (eq_self s)) ∙ e in
    moves_by n l v p k s d (v.known s p) leaves (h s p)

sender_within : (n s d : ℕ) (c : Bool) → s < n → d < n → (if c then s else d) < n
sender_within n s d c h1 h2 = search arith

-- the message is the one of a migration that is under way
target_within : (n : ℕ) (l : Lives) (v : View) (a : About) → 0 < n → AboutIs n l v a → target_in a < n
target_within n l v a h1 h2 = search arith

-- what waits for a process is for it
pub queued_for : (pt : Point) (p : Pid) (i : MsgId) → State None pt → 1 ≤ times i (pt.view.queue pt.view.acting p) → receiver_of (pt.view.told i) ≡ Some p
queued_for pt p i state least =
    let bag = letters state.own pt.kernel.bag in
    let (x, is) = under_way (bag i) (standing pt.view i) (Queue pt.view.acting p) least (state.stands.kept i) in
    state.stands.told i x is ∙ ap Some (state.stands.mine pt.view.acting p i x least is)

pub told_for : (pt : Point) (o : Option Told) (i : MsgId) (p q : Pid) → Sane pt → pt.view.told i ≡ o → receiver_of o ≡ Some p → Named pt.kernel pt.view (Receiver i) q → q ≡ p
told_for pt o i p q h1 h2 h3 h4 = search (arith, named_for)

-- what is held for a process is for it
abbrev pub HeldFor : View → Type 0
HeldFor v = (m : ℕ) (p : Pid) (i : MsgId) → 1 ≤ times i (v.held m p) → (t : Told) × (v.told i ≡ Some t) × (t.receiver ≡ p)

waits_for : (pt : Point) (p : Pid) (i : MsgId) (q : Pid) → HeldFor pt.view → State None pt → Sane pt → 1 ≤ times i (both_lists pt.view p) → Named pt.kernel pt.view (Receiver i) q → q ≡ p
waits_for pt p i q holds state sane least named = elim (least_of (standing pt.view i (Queue pt.view.acting p)) (standing pt.view i (Held pt.view.acting p)) (let f = both_times pt.view p i in omega (arith, least, f))) [
  | inl queue ↦ told_for pt (pt.view.told i) i p q sane refl (queued_for pt p i state queue) named
  | inr hold ↦ let (t, told, to) = holds pt.view.acting p i hold in told_for pt (pt.view.told i) i p q sane refl (ap receiver_of told ∙ ap Some to) named
]

-- a message of a migration is heard: the one of its process
heard_due : (n : ℕ) (pt : Point) (m : ℕ) (i : MsgId) (is : List MsgId) (t : Told) (p : Pid) (in_ : InPhases (headed pt (Step.Turn m)).view) → LineCore n (headed pt (Step.Turn m)) → HeldFor pt.view → Sane (headed pt (Step.Turn m)) → State None (headed pt (Step.Turn m))
    → pt.view.inbox m ≡ i ∷ is → is_kernels i ≡ true → t.about ≡ Of p → Due (headed pt (Step.Turn m)) i t in_ → Heard n (headed pt (Step.Turn m)) pt m i p t.kind
heard_due n pt m i is t p in_ h holds sane state front own about u =
    let start = headed pt (Step.Turn m) in
    let v = start.view in
    let pq : p ≡ u.p = about_same p u.p (sym about ∙ ap (λ (x : Told). x.about) u.told) in
    let isin : phases.IsIn v u.p (Moves u.k u.s u.d (Some i)) = subst (phases.IsIn v u.p) u.phase (in_.each u.p) in
    let within = moves_within n start.kernel.processes v u.p u.k u.s u.d (Some i) (isin.known u.s) h.known in
    let free : is_fixed p ≡ false = ap is_fixed pq ∙ within.2 in
    let from : i.from.home < n = subst (λ (x : ℕ). x < n) (sym (ap (λ (x : Pid). x.home) u.from)) (sender_within n u.s u.d (tells_onward (sort_of u.k)) within.0 within.1) in (
      from,
      (subst (λ (x : ℕ). x < n) (sym (ap front_of front)) from, free),
      (λ z e. sane.sound.notes.noted p z e),
      (λ all.
          let kind_ : u.k ≡ MessageKind.AllTaken = sym (ap (λ (x : Told). x.kind) u.told) ∙ all in
          let late : is_restart u.k ≡ false = ap is_restart kind_ in
          let at : m ≡ u.s = u.acting ∙ ap (λ (x : MessageKind). receiver_in x u.s u.d) kind_ in
          let held : pt.view.known m p ≡ Frozen u.d = ap (pt.view.known m) pq ∙ ap (λ (x : ℕ). pt.view.known x u.p) at ∙ source_holds v u.p u.k u.s u.d (Some i) isin late in
          let comes_ : pt.view.known u.d p ≡ Incoming u.s = ap (pt.view.known u.d) pq ∙ destination_expects v u.p u.k u.s u.d (Some i) isin (ap is_early kind_) (ap is_calloff kind_) in
          leaves_need n start i is p (pt.view.known m p) front state h own refl
          (λ to e. let g : u.d ≡ to = cc (sym held ∙ e) in
          subst (λ (x : ℕ). There n start.kernel.processes v x p) g (within.1, λ lives f. let z : Incoming u.s ≡ Unknown = sym comes_ ∙ f in cc))
          free
          (λ j q least named. waits_for start p j q holds state sane least named) from),
    )

-- or what asks for a piece of one that is called off
heard_left : (n : ℕ) (pt : Point) (m : ℕ) (i : MsgId) (is : List MsgId) (t : Told) (p : Pid) (in_ : InPhases (headed pt (Step.Turn m)).view) → LineCore n (headed pt (Step.Turn m)) → Sane (headed pt (Step.Turn m)) → pt.view.inbox m ≡ i ∷ is
    → Pulled (headed pt (Step.Turn m)).view p (in_.of p) i t m → Heard n (headed pt (Step.Turn m)) pt m i p t.kind
heard_left n pt m i is t p in_ h sane front u =
    let v = (headed pt (Step.Turn m)).view in
    let isin : phases.IsIn v p (Moves MessageKind.CallOff u.s u.d u.id) = subst (phases.IsIn v p) u.is (in_.each p) in
    let within = moves_within n pt.kernel.processes v p MessageKind.CallOff u.s u.d u.id (isin.known u.s) h.known in
    let from : i.from.home < n = subst (λ (x : ℕ). x < n) (sym (ap (λ (x : Pid). x.home) u.from)) within.1 in (
      from,
      (subst (λ (x : ℕ). x < n) (sym (ap front_of front)) from, within.2),
      (λ z e. sane.sound.notes.noted p z e),
      (λ all. absurd (false≢true (sym (ap (λ (k : MessageKind). pulls_piece (sort_of k)) all) ∙ u.pulls))),
    )

heard : (n : ℕ) (pt : Point) (m : ℕ) (i : MsgId) (is : List MsgId) (t : Told) (p : Pid) → LineCore n (headed pt (Step.Turn m)) → HeldFor pt.view → Sane (headed pt (Step.Turn m)) → State None (headed pt (Step.Turn m)) → InPhases (headed pt (Step.Turn m)).view
    → pt.view.inbox m ≡ i ∷ is → pt.view.told i ≡ Some t → is_kernels i ≡ true → t.about ≡ Of p → is_between t.kind ≡ true → rule.is_stale pt m i t.kind p ≡ false → Heard n (headed pt (Step.Turn m)) pt m i p t.kind
heard n pt m i is t p h holds sane state in_ front told own about between fresh =
    let start = headed pt (Step.Turn m) in
    let v = start.view in
    elim (due_or_left start i is t in_ front told between) [
      | inl u ↦ heard_due n pt m i is t p in_ h holds sane state front own about u
      | inr r ↦
          let same : r.p ≡ p = about_same r.p p (sym r.about ∙ about) in
          let left : phases.IsLeft v p (in_.of p) i t = subst (λ (q : Pid). phases.IsLeft v q (in_.of q) i t) same r.left in
          heard_left n pt m i is t p in_ h sane front (pulled v p (in_.of p) i t m left (front_one v m i is front) fresh)
    ]

-- a turn
forward_free : (n : ℕ) (l : Lives) (v : View) (m : ℕ) (p : Pid) (to c : ℕ) → v.known m p ≡ Forward to c → AllKnown n l v → is_fixed p ≡ false
forward_free n l v m p to c e h = (subst (KnownIs n l v m p) e (h m p)).2

asked_to : (n : ℕ) (pt : Point) (i : MsgId) (k : PlainMessage) → pt.kernel.bag i ≡ Some k → Sane pt → LineCore n pt → MovesTo n k
asked_to n pt i k there sane h to e = search (arith, k.what, made_free, has_some)

front_need : (n : ℕ) (b : Boot) (pt : Point) (m : ℕ) (i : MsgId) (is : List MsgId) (k : PlainMessage) (ps : List Part) → LineCore n (headed pt (Step.Turn m)) → Sane (headed pt (Step.Turn m)) → State None (headed pt (Step.Turn m)) → pt.view.inbox m ≡ i ∷ is → pt.kernel.bag i ≡ Some k
    → rule.handles b pt m i k ≡ Some ps → AllNeed n (headed pt (Step.Turn m)) ps
front_need n b pt m i is k ps h sane state front there =
    let start = headed pt (Step.Turn m) in
    let at = h.places i (Inbox m) (front_one start.view m i is front) in
    let (t, told) = told_there (start.view.told i) at.1 in
    let to_same : t.receiver ≡ k.to = sane.tells.receiver i k t there told in
    let kind_same : t.kind ≡ plain_kind k.what = sane.tells.kind i k t there told in
    let knows = there_known n start i k there at.0 h in
    let moves = asked_to n start i k there sane h in
    handles_need n start b pt m i k ps h.machines at there knows moves
    (λ to c e. subst (λ (x : MessageKind). AllNeed n start (forwards_on pt.addresses i x k.sender to)) kind_same
    (forwards_need n start i is t k.sender to c front state sane h told (ap (pt.view.known m) to_same ∙ e) (subst (λ (x : Pid). is_fixed x ≡ false) (sym to_same) (forward_free n pt.kernel.processes start.view m k.to to c e h.known))
    (λ back. (h.all (Sender i) k.sender (Links (ap sender_of there)), sends_real start n k.sender h (h.senders i k there)))))

-- a message that tells of an end tells of one that has ended
told_over : (pt : Point) (m : ℕ) (i : MsgId) (t : Told) → Phased pt → pt.view.told i ≡ Some t → t.kind ≡ MessageKind.Bury → NeedsOver (headed pt (Step.Turn m)) i
told_over pt m i t base told kind u p is about =
    let f : Some t ≡ Some u = sym told ∙ is in
    let same : t ≡ u = cc in
    let (y, over) = bury_over pt i t p base told kind (ap (λ (x : Told). x.about) same ∙ about) in
    ap is_over over

own_need : (n : ℕ) (b : Boot) (pt : Point) (m : ℕ) (i : MsgId) (is : List MsgId) (ps : List Part) → Phased pt → LineCore n (headed pt (Step.Turn m)) → HeldFor pt.view → Sane (headed pt (Step.Turn m)) → State None (headed pt (Step.Turn m)) → InPhases (headed pt (Step.Turn m)).view
    → pt.view.inbox m ≡ i ∷ is → pt.kernel.bag i ≡ None → rule.hears b pt m i (pt.view.told i) ≡ Some ps → AllNeed n (headed pt (Step.Turn m)) ps
own_need n b pt m i is ps base h holds sane state in_ front there e =
    let start = headed pt (Step.Turn m) in
    let at = h.places i (Inbox m) (front_one start.view m i is front) in
    let (t, told) = told_there (start.view.told i) at.1 in
    let own : is_kernels i ≡ true = front_kernels start i is state front there in
    let some : 0 < n = let le = h.acting in omega (arith, le) in
    let le : target_of (Some t) < n = target_within n pt.kernel.processes start.view t.about some (h.tells i t told) in
    let front_is : option_and_then start.view.told (slice_get (start.view.inbox m) 0) ≡ Some t = ap (λ (ids : List MsgId). option_and_then start.view.told (slice_get ids 0)) front ∙ told in
    subst (NeedOf n start) (ap (rule.hears b pt m i) (sym told) ∙ e)
    (told_by_need n start b pt m i t h.machines h.acting (told_over pt m i t base told) at le (subst (λ (x : Option Told). target_of x < n) (sym front_is) le)
    (λ p about between fresh. heard n pt m i is t p h holds sane state in_ front told own about between fresh)
    (λ to c f. forwards_need n start i is t manager to c front state sane h told f (forward_free n pt.kernel.processes start.view m t.receiver to c f h.known)
    (λ back. (h.all (Sender i) manager (Owns (Comes i t refl own told (moves_back t.kind (h.real i t told own).1 back) refl)), server_real start n manager h refl))))

-- a migration is called off
held_for : (pt : Point) (p : Pid) (i : MsgId) (q : Pid) → HeldFor pt.view → Sane pt → 1 ≤ times i (pt.view.held pt.view.acting p) → Named pt.kernel pt.view (Receiver i) q → q ≡ p
held_for pt p i q holds sane least named = let (t, told, to) = holds pt.view.acting p i least in told_for pt (pt.view.told i) i p q sane refl (ap receiver_of told ∙ ap Some to) named

calls_off_need : (n : ℕ) (pt : Point) (p : Pid) (m : ℕ) → Phased pt → HeldFor pt.view → LineCore n (headed pt (Step.CallOff p m)) → AllNeed n (headed pt (Step.CallOff p m)) (calls_off pt m p (pt.view.known m p))
calls_off_need n pt p m base holds h =
    let start = headed pt (Step.CallOff p m) in
    let within_there : (k : ℕ) (q : Pid) → pt.view.known k q ≢ Unknown → There n pt.kernel.processes start.view k q = λ k q some. (known_within n pt.kernel.processes start.view k q (pt.view.known k q) some (h.known k q), λ lives. some) in
    let state = begun pt (Step.CallOff p m) base.state (λ z. call_off pt.view p m z) (λ i. refl) in
    by_calls_off (AllNeed n start) pt m p (first_need n start (Says (Line.NoCall p)) [] tt tt) (λ from is come. (
    let phase = base.phases.of p in
    let c = coming_is phase m from (sym (ap (knows phase m) is) ∙ (base.phases.each p).known m) in
    let there = source_knows pt.view p c.kind from m c.id (subst (phases.IsIn pt.view p) c.is (base.phases.each p)) in
    calls_need n start p from state h is (within_there from p there) (λ i q least named. held_for start p i q holds (head_sane pt (Step.CallOff p m) base.sane) least named)
    ))

pub outcome_need : (n : ℕ) (b : Boot) (pt : Point) (d : Step) (ps : List Part) → Phased pt → HeldFor pt.view → LineCore n pt → rule.outcome b pt d ≡ Some ps → LineCore n (headed pt d) → AllNeed n (headed pt d) ps
outcome_need n b pt d ps base holds core =
    let state : (m : ℕ) → State None (headed pt (Step.Turn m)) = λ m. begun pt (Step.Turn m) base.state (λ z. turn_off pt.view m z) (λ i. refl) in
    by_outcome (λ x xs. LineCore n (headed pt x) → AllNeed n (headed pt x) xs) b pt d ps (record {
      round = λ m xs box e h. round_need n (headed pt (Step.Turn m)) b pt m (rule.first_runnable pt.kernel (pt.view.queue m) (pt.view.ring m)) xs h.machines
          (λ p x runs alive. inr (
            made_free pt p base.sane.sound.made (ap is_some (alive-is (pt.kernel.processes p) x alive)),
            (h.acting, λ lives f. (let g : Here ≡ Unknown = sym ((rooted pt base.sane base.ground).served m p runs) ∙ f in cc)),
          )) e;
      handles = λ m i is k xs box there e h. front_need n b pt m i is k xs h (head_sane pt (Step.Turn m) base.sane) (state m) box there e;
      hears = λ m i is xs box none e h.
          own_need n b pt m i is xs base h holds (head_sane pt (Step.Turn m) base.sane) (state m) (calm_phases pt.view (headed pt (Step.Turn m)).view (head_calm pt.view (Step.Turn m)) base.phases) box none e;
      ticks = λ m xs net h. loose_need n (headed pt (Step.Tick m)) xs ((by_net (AllLoose n) tt (λ l ps net h. ((λ pt. search arith), h)) (λ a b l ps h. (λ pt. tt, h))) xs net);
      delivers = λ a c k xs net h. loose_need n (headed pt (Step.Deliver a c k)) xs ((by_net (AllLoose n) tt (λ l ps net h. ((λ pt. search arith), h)) (λ a b l ps h. (λ pt. tt, h))) xs net);
      calls = λ p m h. calls_off_need n pt p m base holds h;
      asks = λ p m h. migrates_need n (headed pt (Step.Migrate p m)) p (λ here. ap (λ (c : Bool). if c then pt.view.seat else 0) here) h;
    })

-- each group
pub core_group : (n : ℕ) (b : Boot) (pt : Point) (d : Step) (w : Spelled) → IsStep n d → group_of b pt d ≡ Some w → Phased pt → HeldFor pt.view → LineCore n pt → LineCore n w.point
core_group n b pt d w fit e base holds h = group_core n b pt d w fit e (λ ps. outcome_need n b pt d ps base holds h) base.sane h
