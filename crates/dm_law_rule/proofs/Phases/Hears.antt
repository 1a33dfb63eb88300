-- A kernel's own message is handled: each process stays in a phase.
use Rattle.dm_law_rule.proofs.Names.{◌≡◌, ℕ, ◌==◌, Bool, true, false, List, [], ◌∷◌, ◌++◌, refl, ap, ◌∙◌, sym, subst, length, if◌then◌else◌, Option, None, Some, false≢true, Pid, MsgId, MessageKind, Line, Stage, Boot, none_some}
use Rattle.dm_law_rule.proofs.Names.{manager, Size, size_of, View, Told, About, Of, Known, Unknown, Here, Forward, is_kernels, target_of, Addresses, Sender, is_told_back, Point, Part, Says, Owns, Spelled, spelled, forwards_on, accepts}
use Rattle.dm_law_rule.proofs.Names.{takes_chunk, takes_block, gives_piece, told_step, chunks_of, pieces_of, updates, told_here, told_ended, process_told, fits, free_room, kernel_hears, hears, is_between, bind-is, Label, MoveNote}
use Rattle.dm_law_rule.proofs.Names.{NothingElse, Outcome, bind, kernel_after, label_of, leaves_for, moved, tells_asker, sort_of, eq-eqb, is_stale, is_waited_from, pulls_piece, brings_piece, inl, inr, not, ◌&&◌, buried, buries, preds_of, tells_end}
use Rattle.dm_law_rule.proofs.Hushed.{is_put}
use Rattle.dm_law_rule.proofs.States.{State, State-at}
use Rattle.dm_law_rule.proofs.Moves.Sent.{line_next}
use Rattle.dm_law_rule.proofs.Moves.States.{front_kernels}
use Rattle.dm_law_rule.proofs.Moves.Rows.{SeesSame, given, both_same, hears_row}
use Rattle.dm_law_rule.proofs.Telling.{Sane, sane_line}
use Rattle.dm_law_rule.proofs.Phases.Calm.{calm_same}
use Rattle.dm_law_rule.proofs.Phases.Quiet.{Tame, AllQuiet, parts_settle, tame_plain}
use Rattle.dm_law_rule.proofs.Phases.Stand.{InPhases, calm_phases, left_receiver}
use Rattle.dm_law_rule.proofs.Phases.Answers.{Whole, due, due_or_left, stale_left, remains_whole}
use Rattle.dm_law_rule.proofs.Phases.Pieces.{ask_row, pull_state_row, pull_block_row, left_pull_row, chunk_row, block_row}
use Rattle.dm_law_rule.proofs.Phases.Rests.{restart_whole, refused_whole, called_whole, frozen_row}
use Rattle.dm_law_rule.proofs.Phases.Ranked.{Ranked}
use Rattle.dm_law_rule.proofs.States.{said}
use Rattle.dm_law_rule.proofs.Moves.Lists.{first_off}
use Rattle.dm_law_rule.proofs.Moves.Rows.{goes_front}
use Rattle.dm_law_rule.proofs.Phases.Leaves.{leaves_row}
use Rattle.dm_law_rule.proofs.Phases.Put.{of_same}
use Rattle.dm_law_rule.proofs.Phases.Ends.{Ends, ended_gone}
use Rattle.dm_law_rule.proofs.Phases.Lives.{buried_phases}
use Rattle.dm_law_rule.proofs.Hearing.{bury_is}
use Rattle.dm_law_rule.proofs.Serving.{buries_kept}
use Rattle.dm_law_rule.proofs.Said.{fits_as}
use Rattle.dm_law_rule.proofs.Pairs.Lines.{pair_same}

-- what the rule saw before the head is what stands behind it
pub record SeesAll (o pt : Point) (m : ℕ) : Type 0 where
  pub same : SeesSame o pt m
  pub acting : pt.view.acting ≡ m
  pub known : (q : Pid) → o.view.known m q ≡ pt.view.known pt.view.acting q
  pub topic : pt.view.topic ≡ NothingElse

-- quiet parts
pub quiet_row : (parts : List Part) (pt : Point) (w : Spelled) → Whole pt → Sane pt → State None w.point → AllQuiet pt.view parts → spelled pt parts ≡ Some w → Whole w.point
quiet_row parts pt w h sane state quiet e =
    let s = parts_settle parts pt.view pt w quiet (record { calm = calm_same pt.view; sane = sane; fits = h.fits }) e in
    record { state = state; fits = s.fits; phases = calm_phases pt.view w.point.view s.calm h.phases }

pub forwards_quiet : (v : View) (a : Addresses) (i : MsgId) (k : MessageKind) (sender : Pid) (to : ℕ) → Tame v i → AllQuiet v (forwards_on a i k sender to)
forwards_quiet v a i k sender to tame = (
  tame,
  (
    tame,
    elim (is_told_back k) as (λ c. AllQuiet v (if c then Owns MessageKind.Update sender (a (Sender i)).at ∷ [] else []))
        [ true ↦ (refl, tt) | false ↦ tt ],
  ),
)

-- a line that ends a move is followed by the answer, if somebody asked for it
ends_row : (pt : Point) (l : Line) (q : Option MoveNote) (r : Outcome) (w : Spelled) → label_of l ≡ None → is_put l ≡ false → Whole (moved pt l pt.kernel) → Sane pt → State None w.point → spelled pt (Says l ∷ tells_asker q r) ≡ Some w → Whole w.point
ends_row pt l q r w none quiet h sane state e =
    let next = moved pt l pt.kernel in
    let n = line_next pt l (tells_asker q r) w none e in
    let sane_ : Sane next = sane_line pt next l quiet (ap (λ (o : Option Label). bind (kernel_after pt.kernel o) (λ s. Some (moved pt l s))) none) sane in
    subst Whole n.point (quiet_row (tells_asker q r) next n.rest h sane_ (State-at None w.point n.rest.point (sym n.point) state) (elim q as (λ q_. AllQuiet next.view (tells_asker q_ r)) [ None ↦ tt | Some n' ↦ (tt, (tt, tt)) ]) n.more)

-- a message of the protocol, by its kind
told_row : (o pt : Point) (m : ℕ) (i : MsgId) (is : List MsgId) (t : Told) (p : Pid) (room : Bool × ℕ × ℕ) (x : Size) (k : MessageKind) (parts : List Part) (w : Spelled) (h : Whole pt) → Sane pt → State None w.point
    → pt.view.inbox pt.view.acting ≡ i ∷ is → pt.view.told i ≡ Some t → is_kernels i ≡ true → SeesAll o pt m → Ranked pt.view → is_stale pt pt.view.acting i t.kind p ≡ false
    → t.kind ≡ k → t.about ≡ Of p → told_step o m i p room x (sort_of k) ≡ Some parts → spelled pt parts ≡ Some w → Whole w.point
told_row o pt m i is t p room x MessageKind.Ask parts w h sane state front told mine sees ranked fresh e about g n =
    let u = due pt i is t h.phases p front told (ap is_between e) about (ap (λ (k : MessageKind). pulls_piece (sort_of k)) e) fresh in
    let pu : u.p ≡ p = of_same u.p p (sym (ap (λ (y : Told). y.about) u.told) ∙ about) in
    let mine_ : told_step o m i u.p room x (sort_of MessageKind.Ask) ≡ Some parts = subst (λ (q : Pid). told_step o m i q room x (sort_of MessageKind.Ask) ≡ Some parts) (sym pu) g in
    ask_row pt i is t room.0 room.1 room.2 w h u (sym (ap (λ (y : Told). y.kind) u.told) ∙ e) ranked front told mine (given pt (accepts i.from.home u.p room.0 room.1 room.2) parts w mine_ n)
told_row o pt m i is t p room x MessageKind.Refuse parts w h sane state front told mine sees ranked fresh e about g n =
    let u = due pt i is t h.phases p front told (ap is_between e) about (ap (λ (k : MessageKind). pulls_piece (sort_of k)) e) fresh in
    let pu : u.p ≡ p = of_same u.p p (sym (ap (λ (y : Told). y.about) u.told) ∙ about) in
    let ku : u.k ≡ MessageKind.Refuse = sym (ap (λ (y : Told). y.kind) u.told) ∙ e in
    let mine_ : told_step o m i u.p room x (sort_of MessageKind.Refuse) ≡ Some parts = subst (λ (q : Pid). told_step o m i q room x (sort_of MessageKind.Refuse) ≡ Some parts) (sym pu) g in
    let q = o.kernel.notes u.p in
    ends_row pt (Line.Stays u.p) q Outcome.Stayed w refl refl (refused_whole pt i is t h u ku front told mine) sane state (given pt (Says (Line.Stays u.p) ∷ tells_asker q Outcome.Stayed) parts w mine_ n)
told_row o pt m i is t p room x MessageKind.CallOff parts w h sane state front told mine sees ranked fresh e about g n =
    let u = due pt i is t h.phases p front told (ap is_between e) about (ap (λ (k : MessageKind). pulls_piece (sort_of k)) e) fresh in
    let pu : u.p ≡ p = of_same u.p p (sym (ap (λ (y : Told). y.about) u.told) ∙ about) in
    let ku : u.k ≡ MessageKind.CallOff = sym (ap (λ (y : Told). y.kind) u.told) ∙ e in
    let mine_ : told_step o m i u.p room x (sort_of MessageKind.CallOff) ≡ Some parts = subst (λ (q : Pid). told_step o m i q room x (sort_of MessageKind.CallOff) ≡ Some parts) (sym pu) g in
    let q = o.kernel.notes u.p in
    ends_row pt (Line.Stays u.p) q Outcome.Stayed w refl refl (called_whole pt i is t h u ku ranked front told mine) sane state (given pt (Says (Line.Stays u.p) ∷ tells_asker q Outcome.Stayed) parts w mine_ n)
told_row o pt m i is t p room x MessageKind.PullState parts w h sane state front told mine sees ranked fresh e about g n =
    let gives = given pt (gives_piece i MessageKind.State) parts w g n in
    elim (due_or_left pt i is t h.phases front told (ap is_between e)) [
      | inl u ↦ pull_state_row pt i is t w h u (sym (ap (λ (y : Told). y.kind) u.told) ∙ e) front told mine gives
      | inr r ↦ left_pull_row pt i is t MessageKind.State w h r (ap (λ (k : MessageKind). pulls_piece (sort_of k)) e) refl front told mine gives
    ]
told_row o pt m i is t p room x MessageKind.State parts w h sane state front told mine sees ranked fresh e about g n =
    let u = due pt i is t h.phases p front told (ap is_between e) about (ap (λ (k : MessageKind). pulls_piece (sort_of k)) e) fresh in
    let pu : u.p ≡ p = of_same u.p p (sym (ap (λ (y : Told). y.about) u.told) ∙ about) in
    let mine_ : told_step o m i u.p room x (sort_of MessageKind.State) ≡ Some parts = subst (λ (q : Pid). told_step o m i q room x (sort_of MessageKind.State) ≡ Some parts) (sym pu) g in
    chunk_row pt i is t (o.view.asked u.p == chunks_of x) w h u (sym (ap (λ (y : Told). y.kind) u.told) ∙ e) front told mine (given pt (takes_chunk i u.p (o.view.asked u.p == chunks_of x)) parts w mine_ n)
told_row o pt m i is t p room x MessageKind.PullBlock parts w h sane state front told mine sees ranked fresh e about g n =
    let gives = given pt (gives_piece i MessageKind.Memory) parts w g n in
    elim (due_or_left pt i is t h.phases front told (ap is_between e)) [
      | inl u ↦ pull_block_row pt i is t w h u (sym (ap (λ (y : Told). y.kind) u.told) ∙ e) front told mine gives
      | inr r ↦ left_pull_row pt i is t MessageKind.Memory w h r (ap (λ (k : MessageKind). pulls_piece (sort_of k)) e) refl front told mine gives
    ]
told_row o pt m i is t p room x MessageKind.Memory parts w h sane state front told mine sees ranked fresh e about g n =
    let u = due pt i is t h.phases p front told (ap is_between e) about (ap (λ (k : MessageKind). pulls_piece (sort_of k)) e) fresh in
    let pu : u.p ≡ p = of_same u.p p (sym (ap (λ (y : Told). y.about) u.told) ∙ about) in
    let mine_ : told_step o m i u.p room x (sort_of MessageKind.Memory) ≡ Some parts = subst (λ (q : Pid). told_step o m i q room x (sort_of MessageKind.Memory) ≡ Some parts) (sym pu) g in
    block_row pt i is t (o.view.asked u.p == pieces_of x) w h u (sym (ap (λ (y : Told). y.kind) u.told) ∙ e) front told mine (given pt (takes_block i u.p (o.view.asked u.p == pieces_of x)) parts w mine_ n)
told_row o pt m i is t p room x MessageKind.AllTaken parts w h sane state front told mine sees ranked fresh e about g n =
    let u = due pt i is t h.phases p front told (ap is_between e) about (ap (λ (k : MessageKind). pulls_piece (sort_of k)) e) fresh in
    let pu : u.p ≡ p = of_same u.p p (sym (ap (λ (y : Told). y.about) u.told) ∙ about) in
    let mine_ : told_step o m i u.p room x (sort_of MessageKind.AllTaken) ≡ Some parts = subst (λ (q : Pid). told_step o m i q room x (sort_of MessageKind.AllTaken) ≡ Some parts) (sym pu) g in
    leaves_row pt i is t (o.view.queue m u.p ++ o.view.held m u.p) (o.view.known m u.p) parts w h u (sym (ap (λ (y : Told). y.kind) u.told) ∙ e) front told mine (both_same o pt m u.p sees.same) mine_ n
told_row o pt m i is t p room x MessageKind.Restart parts w h sane state front told mine sees ranked fresh e about g n =
    let u = due pt i is t h.phases p front told (ap is_between e) about (ap (λ (k : MessageKind). pulls_piece (sort_of k)) e) fresh in
    let pu : u.p ≡ p = of_same u.p p (sym (ap (λ (y : Told). y.about) u.told) ∙ about) in
    let mine_ : told_step o m i u.p room x (sort_of MessageKind.Restart) ≡ Some parts = subst (λ (q : Pid). told_step o m i q room x (sort_of MessageKind.Restart) ≡ Some parts) (sym pu) g in
    let q = o.kernel.notes u.p in
    let l = Line.Migration Stage.Restarted u.p in
    ends_row pt l q Outcome.Done w refl refl (restart_whole pt i is t h u (sym (ap (λ (y : Told). y.kind) u.told) ∙ e) front told mine) sane state (given pt (Says l ∷ tells_asker q Outcome.Done) parts w mine_ n)
told_row o pt m i is t p room x _ parts w h sane state front told mine sees ranked fresh e about g n = none_some parts g

-- the others, at a process or a server
pub tame_of : (v : View) (i : MsgId) (t : Told) → v.told i ≡ Some t → is_between t.kind ≡ false → Tame v i
tame_of v i t told plain = record { what = t; told = told; plain = plain }

one_quiet : (pt : Point) (p : List Part) (parts : List Part) (w : Spelled) → Whole pt → Sane pt → State None w.point → AllQuiet pt.view p → Some p ≡ Some parts → spelled pt parts ≡ Some w → Whole w.point
one_quiet pt p parts w h sane state quiet e n = quiet_row p pt w h sane state quiet (given pt p parts w e n)

moves_row : (o pt : Point) (m : ℕ) (i : MsgId) (is : List MsgId) (t : Told) (same : Bool) (w : Spelled) (h : Whole pt) → Sane pt → State None w.point → is_between t.kind ≡ false → pt.view.inbox pt.view.acting ≡ i ∷ is → pt.view.told i ≡ Some t → is_kernels i ≡ true → SeesAll o pt m
    → pt.view.known pt.view.acting t.receiver ≡ Here → (m == target_of (Some t)) ≡ same
    → spelled pt (if same then Says (Line.Here i) ∷ [] else leaves_for t.receiver (target_of (Some t))) ≡ Some w → Whole w.point
moves_row o pt m i is t true w h sane state plain front told mine sees here e n = quiet_row (Says (Line.Here i) ∷ []) pt w h sane state (tame_of pt.view i t told plain, tt) n
moves_row o pt m i is t false w h sane state plain front told mine sees here e n =
    frozen_row pt i is t t.receiver (target_of (Some t)) w h sees.topic plain front told mine here refl (ap (λ (a : ℕ). a == target_of (Some t)) sees.acting ∙ e) n

here_row : (o pt : Point) (m : ℕ) (i : MsgId) (is : List MsgId) (t : Told) (k : MessageKind) (parts : List Part) (w : Spelled) (h : Whole pt) → Sane pt → State None w.point → is_between t.kind ≡ false → pt.view.inbox pt.view.acting ≡ i ∷ is → pt.view.told i ≡ Some t → is_kernels i ≡ true → SeesAll o pt m
    → pt.view.known pt.view.acting t.receiver ≡ Here → told_here o m i t (sort_of k) ≡ Some parts → spelled pt parts ≡ Some w → Whole w.point
here_row o pt m i is t MessageKind.Migrate parts w h sane state plain front told mine sees here g n = moves_row o pt m i is t (m == target_of (Some t)) w h sane state plain front told mine sees here refl (given pt (if m == (target_of (Some t)) then Says (Line.Here i) ∷ [] else leaves_for t.receiver (target_of (Some t))) parts w g n)
here_row o pt m i is t MessageKind.Update parts w h sane state plain front told mine sees here g n = one_quiet pt (updates o i t) parts w h sane state (tame_of pt.view i t told plain, tt) g n
here_row o pt m i is t _ parts w h sane state plain front told mine sees here g n = none_some parts g

ended_row : (pt : Point) (i : MsgId) (t : Told) (k : MessageKind) (parts : List Part) (w : Spelled) (h : Whole pt) → Sane pt → State None w.point → Tame pt.view i → told_ended i (sort_of k) ≡ Some parts → spelled pt parts ≡ Some w → Whole w.point
ended_row pt i t MessageKind.Migrate parts w h sane state tame g n = one_quiet pt (Says (Line.NoMove i) ∷ []) parts w h sane state (tame, tt) g n
ended_row pt i t MessageKind.Update parts w h sane state tame g n = one_quiet pt (Says (Line.Updated i 0) ∷ []) parts w h sane state (tame, tt) g n
ended_row pt i t _ parts w h sane state tame g n = none_some parts g

process_row : (o pt : Point) (m : ℕ) (i : MsgId) (is : List MsgId) (t : Told) (k : Known) (parts : List Part) (w : Spelled) (h : Whole pt) → Sane pt → State None w.point → is_between t.kind ≡ false → pt.view.inbox pt.view.acting ≡ i ∷ is → pt.view.told i ≡ Some t → is_kernels i ≡ true → SeesAll o pt m
    → pt.view.known pt.view.acting t.receiver ≡ k → process_told o m i t k ≡ Some parts → spelled pt parts ≡ Some w → Whole w.point
process_row o pt m i is t Unknown parts w h sane state plain front told mine sees here g n = ended_row pt i t t.kind parts w h sane state (tame_of pt.view i t told plain) g n
process_row o pt m i is t Here parts w h sane state plain front told mine sees here g n = here_row o pt m i is t t.kind parts w h sane state plain front told mine sees here g n
process_row o pt m i is t (Forward at moves) parts w h sane state plain front told mine sees here g n =
    one_quiet pt (forwards_on o.addresses i t.kind manager at) parts w h sane state (forwards_quiet pt.view o.addresses i t.kind manager at (tame_of pt.view i t told plain)) g n
process_row o pt m i is t _ parts w h sane state plain front told mine sees here g n = one_quiet pt (Says (Line.Held i) ∷ []) parts w h sane state (tame_of pt.view i t told plain, tt) g n

-- a piece that isn't awaited goes
stale_row : (pt : Point) (i : MsgId) (is : List MsgId) (t : Told) (p : Pid) (w : Spelled) (h : Whole pt) → pt.view.inbox pt.view.acting ≡ i ∷ is → pt.view.told i ≡ Some t → is_kernels i ≡ true → t.about ≡ Of p → is_stale pt pt.view.acting i t.kind p ≡ true → spelled pt (Says (Line.Stale i) ∷ []) ≡ Some w → Whole w.point
stale_row pt i is t p w h front told mine about stale e =
    let l = Line.Stale i in
    let n = line_next pt l [] w refl e in
    let whole = remains_whole pt l i is t h (stale_left pt i is t h.phases p front told about stale) refl refl refl front told (goes_front pt l i is refl h.state front mine (λ z. refl)) (λ z. sym (first_off pt.view i is front z)) refl refl in
    subst Whole n.point (subst Whole (said (moved pt l pt.kernel) n.rest n.more) whole.whole)

stale_by : (b : Boot) (o pt : Point) (m : ℕ) (i : MsgId) (is : List MsgId) (t : Told) (p : Pid) (stale : Bool) (parts : List Part) (w : Spelled) (h : Whole pt) → Sane pt → State None w.point → pt.view.inbox pt.view.acting ≡ i ∷ is
    → pt.view.told i ≡ Some t → is_kernels i ≡ true → SeesAll o pt m → Ranked pt.view → t.about ≡ Of p → is_stale pt pt.view.acting i t.kind p ≡ stale
    → (if stale then Some (Says (Line.Stale i) ∷ []) else bind (size_of o.kernel p) (λ x. told_step o m i p (fits (free_room b o m) x.blocks) x (sort_of t.kind))) ≡ Some parts → spelled pt parts ≡ Some w → Whole w.point
stale_by b o pt m i is t p true parts w h sane state front told mine sees ranked about stale g n = stale_row pt i is t p w h front told mine about stale (given pt (Says (Line.Stale i) ∷ []) parts w g n)
stale_by b o pt m i is t p false parts w h sane state front told mine sees ranked about fresh g n =
    let (x, there, last) = bind-is (size_of o.kernel p) (λ x. told_step o m i p (fits (free_room b o m) x.blocks) x (sort_of t.kind)) parts g in
    told_row o pt m i is t p (fits (free_room b o m) x.blocks) x t.kind parts w h sane state front told mine sees ranked fresh refl about last n

pub buries_quiet : (v : View) (o : Point) (m : ℕ) (p : Pid) → AllQuiet v (buries o m p)
buries_quiet v o m p = buries_kept (AllQuiet v) tt (λ to ps h. (refl, h)) (preds_of o m p)

-- a process that has ended is forgotten, and others are told
buried_row : (o pt : Point) (m : ℕ) (i : MsgId) (t : Told) (p : Pid) (w : Spelled) (h : Whole pt) → Sane pt → State None w.point → Ends pt → is_between t.kind ≡ false → pt.view.told i ≡ Some t → t.kind ≡ MessageKind.Bury → t.about ≡ Of p
    → spelled pt (buried o m i p) ≡ Some w → Whole w.point
buried_row o pt m i t p w h sane state ends plain told bury about e =
    let l = Line.Buried i (length (preds_of o m p)) in
    let n = line_next pt l (buries o m p) w refl e in
    let next = moved pt l pt.kernel in
    let gone = ended_gone pt p (h.phases.of p) ends (ends.buries i t p told bury about) (h.phases.each p) in
    let phases : InPhases next.view = buried_phases pt.view i (length (preds_of o m p)) t p h.phases (tame_plain pt.view i (tame_of pt.view i t told plain)) told about gone in
    let s = parts_settle (buries o m p) next.view next n.rest (buries_quiet next.view o m p) (record { calm = calm_same next.view; sane = sane_line pt next l refl refl sane; fits = fits_as pt.view next.view (pair_same pt.view l refl) h.fits }) n.more in
    subst Whole n.point (record { state = State-at None w.point n.rest.point (sym n.point) state; fits = s.fits; phases = calm_phases next.view n.rest.point.view s.calm phases })

over_by : (b : Boot) (o pt : Point) (m : ℕ) (i : MsgId) (is : List MsgId) (t : Told) (p : Pid) (over : Bool) (parts : List Part) (w : Spelled) (h : Whole pt) → Sane pt → State None w.point → pt.view.inbox pt.view.acting ≡ i ∷ is
    → pt.view.told i ≡ Some t → is_kernels i ≡ true → SeesAll o pt m → Ranked pt.view → Ends pt → t.about ≡ Of p → tells_end (sort_of t.kind) ≡ over
    → (if over then Some (buried o m i p) else if is_stale o m i t.kind p then Some (Says (Line.Stale i) ∷ []) else bind (size_of o.kernel p) (λ x. told_step o m i p (fits (free_room b o m) x.blocks) x (sort_of t.kind))) ≡ Some parts
    → spelled pt parts ≡ Some w → Whole w.point
over_by b o pt m i is t p true parts w h sane state front told mine sees ranked ends about over g n =
    let bury = bury_is t.kind over in
    buried_row o pt m i t p w h sane state ends (ap is_between bury) told bury about (given pt (buried o m i p) parts w g n)
over_by b o pt m i is t p false parts w h sane state front told mine sees ranked ends about over g n =
    stale_by b o pt m i is t p (is_stale o m i t.kind p) parts w h sane state front told mine sees ranked about (ap (λ (k : Known). brings_piece (sort_of t.kind) && not (is_waited_from i.from.home k)) (sym (sees.known p))) g n

kernel_row : (b : Boot) (o pt : Point) (m : ℕ) (i : MsgId) (is : List MsgId) (t : Told) (a : About) (parts : List Part) (w : Spelled) (h : Whole pt) → Sane pt → State None w.point → pt.view.inbox pt.view.acting ≡ i ∷ is
    → pt.view.told i ≡ Some t → is_kernels i ≡ true → SeesAll o pt m → Ranked pt.view → Ends pt
    → t.about ≡ a → kernel_hears b o m i t.kind a ≡ Some parts → spelled pt parts ≡ Some w → Whole w.point
kernel_row b o pt m i is t (Of p) parts w h sane state front told mine sees ranked ends about g n = over_by b o pt m i is t p (tells_end (sort_of t.kind)) parts w h sane state front told mine sees ranked ends about refl g n
kernel_row b o pt m i is t _ parts w h sane state front told mine sees ranked ends about g n = none_some parts g

-- what kernels tell each other of migrations is told to a kernel
kernel_told : (pt : Point) (i : MsgId) (is : List MsgId) (t : Told) (h : InPhases pt.view) → is_between t.kind ≡ true → pt.view.inbox pt.view.acting ≡ i ∷ is → pt.view.told i ≡ Some t → t.receiver.num ≡ 0
kernel_told pt i is t h b front told = elim (due_or_left pt i is t h front told b) [
  | inl u ↦ ap (λ (y : Told). y.receiver.num) u.told
  | inr r ↦ left_receiver pt.view r.p (h.of r.p) i t r.left
]

pub plain_by : (pt : Point) (i : MsgId) (is : List MsgId) (t : Told) (h : InPhases pt.view) (b : Bool) → is_between t.kind ≡ b → pt.view.inbox pt.view.acting ≡ i ∷ is → pt.view.told i ≡ Some t → (t.receiver.num == 0) ≡ false → b ≡ false
plain_by pt i is t h true e front told off = absurd (false≢true (sym off ∙ eq-eqb t.receiver.num 0 (kernel_told pt i is t h e front told)))
plain_by pt i is t h false e front told off = refl

hears_by : (b : Boot) (o pt : Point) (m : ℕ) (i : MsgId) (is : List MsgId) (t : Told) (c : Bool) (parts : List Part) (w : Spelled) (h : Whole pt) → Sane pt → State None w.point → (t.receiver.num == 0) ≡ c → pt.view.inbox pt.view.acting ≡ i ∷ is → pt.view.told i ≡ Some t → is_kernels i ≡ true → SeesAll o pt m → Ranked pt.view → Ends pt
    → (if c then kernel_hears b o m i t.kind t.about else process_told o m i t (o.view.known m t.receiver)) ≡ Some parts → spelled pt parts ≡ Some w → Whole w.point
hears_by b o pt m i is t true parts w h sane state c front told mine sees ranked ends e n = kernel_row b o pt m i is t t.about parts w h sane state front told mine sees ranked ends refl e n
hears_by b o pt m i is t false parts w h sane state c front told mine sees ranked ends e n =
    process_row o pt m i is t (o.view.known m t.receiver) parts w h sane state (plain_by pt i is t h.phases (is_between t.kind) refl front told c) front told mine sees (sym (sees.known t.receiver)) e n

-- a kernel's own message at the front of the inbox
pub phases_hears : (b : Boot) (o pt : Point) (m : ℕ) (i : MsgId) (is : List MsgId) (t : Option Told) (parts : List Part) (w : Spelled) (h : Whole pt) → Sane pt → Ranked pt.view → Ends pt → pt.view.inbox pt.view.acting ≡ i ∷ is → pt.kernel.bag i ≡ None → pt.view.told i ≡ t → SeesAll o pt m
    → hears b o m i t ≡ Some parts → spelled pt parts ≡ Some w → Whole w.point
phases_hears b o pt m i is None parts w h sane ranked ends front none told sees e n = none_some parts e
phases_hears b o pt m i is (Some t) parts w h sane ranked ends front none told sees e n =
    hears_by b o pt m i is t (t.receiver.num == 0) parts w h sane
    (hears_row b o pt m i is (Some t) parts w h.state h.fits sees.topic front none sees.same e n) refl front told (front_kernels pt i is h.state front none) sees ranked ends e n
