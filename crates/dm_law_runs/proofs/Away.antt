-- A directive to move finds the manager away exactly where its own migration is open.
use Rattle.dm_law_runs.proofs.Names.{◌≡◌, ◌∙◌, ◌∷◌, ◌+◌, ◌&&◌, ◌==◌, ℕ, Bool, true, false, false≢true, if◌then◌else◌, refl, ap, sym, is_some, not, length, append-nil, MsgId, List, [], Option, Some, None, Pid, Boot, IsValid, MessageKind, Step, Line, Load, Point, first_point, moved, Spelled, group_of, spelled, Part, Says, LeadsBy, group_is, bind-is, count, View}
use Rattle.dm_law_rule.specs.Addresses.{known_place}
use Rattle.dm_law_rule.specs.Migrating.{migrates, migrates_to}
use Rattle.dm_law_rule.specs.Parts.{Owns, goes_out, lines_of, packet_line, puts}
use Rattle.dm_law_rule.specs.Phases.{Phase, Nowhere, Rests, Over, Moves, IsIn, kind_comes, kind_leaves, is_away, is_between, knows, tells_between}
use Rattle.dm_law_rule.specs.Point.{after}
use Rattle.dm_law_rule.specs.View.{Known, Here, has_seat, is_here, own_id}
use Rattle.dm_law_rule.specs.Rule as rule
use Rattle.dm_law_rule.proofs.Lines.{eq_self}
use Rattle.dm_law_rule.proofs.Phases.Ends.{is_gone}
use Rattle.dm_law_rule.proofs.Phases.Always.{phased_on, phased_start, server_phase}
use Rattle.dm_link.specs.Names.{Place}
use Rattle.dm_onekernel.specs.Options.{bind}
use Rattle.dm_message.specs.Sorts.{Sort, sort_of}
use Rattle.dm_message.specs.Sorts as sort
use Rattle.dm_onekernel.specs.Boot.{manager}
use Rattle.dm_law_moves.specs.Open.{is_open, mark_told, mark_while}
use Rattle.dm_law_moves.specs.Stages.{Mark}
use Rattle.dm_law_moves.proofs.Open.Moves.{leads_of, open_moves}
use Rattle.dm_law_always.proofs.Found.Groups.{here_is}
use Rattle.dm_law_mirror.proofs.Seats.{SeatStands, seat_always}
use Rattle.dm_law_moves.specs.Ends.{is_away_line}
use Rattle.dm_law_runs.specs.Away.{AwayWhileOpen}

-- what kernels tell each other of a migration has a mark
mark_of_sort : (s : Sort) → tells_between s ≡ true → is_some (mark_told s) ≡ true
mark_of_sort (sort.Between sort.Ask) e = refl
mark_of_sort (sort.Between sort.Refuse) e = refl
mark_of_sort (sort.Between sort.PullState) e = refl
mark_of_sort (sort.Between sort.State) e = refl
mark_of_sort (sort.Between sort.PullBlock) e = refl
mark_of_sort (sort.Between sort.Memory) e = refl
mark_of_sort (sort.Between sort.AllTaken) e = refl
mark_of_sort (sort.Between sort.Restart) e = refl
mark_of_sort (sort.Between sort.CallOff) e = refl
mark_of_sort s e = absurd (false≢true e)

-- who moves is here on no machine
not_here : (k : MessageKind) (s d m : ℕ) (id : Option MsgId) (x : Known) → knows (Moves k s d id) m x ≡ true → is_here x ≡ false
not_here k s d m id Here e = absurd (false≢true (sym (none (s == m) (d == m)) ∙ e))
  where
    none : (c a : Bool) → (if c then kind_leaves k d Here else if a then kind_comes k s Here else is_away Here) ≡ false
    none true a = refl
    none false true = refl
    none false false = refl
not_here k s d m id x e = refl

-- the manager is on its seat exactly where no migration of it has a mark
seat_by : (v : View) (phase : Phase) → SeatStands v → IsIn v manager phase → is_gone phase ≡ false → has_seat v ≡ not (is_some (mark_while phase))
seat_by v Nowhere stands h gone = absurd (false≢true (sym gone))
seat_by v (Over at) stands h gone = absurd (false≢true (sym gone))
seat_by v (Rests at) stands h gone =
    let here : is_here (v.known at manager) ≡ true = sym (ap (λ (c : Bool). if c then is_here (v.known at manager) else is_away (v.known at manager)) (eq_self at)) ∙ h.known at in
    ap (λ (n : ℕ). is_here (v.known n manager)) (stands at (here_is (v.known at manager) here)) ∙ here
seat_by v (Moves k s d id) stands h gone =
    let between : is_between k ≡ true = first_true (is_between k) (not (s == d)) h.apart in
    not_here k s d v.seat id (v.known v.seat manager) (h.known v.seat) ∙ sym (ap not (mark_of_sort (sort_of k) between))
  where
    first_true : (c a : Bool) → (c && a) ≡ true → c ≡ true
    first_true true a e = refl
    first_true false a e = e

seat_while : (b : Boot) (es : List Step) (ls : List Line) (pt : Point) → IsValid b → LeadsBy b (first_point b) es ls pt → has_seat pt.view ≡ not (is_open manager ls)
seat_while b es ls pt valid by =
    let leads = leads_of b es ls (first_point b) pt by in
    let (phase, h, due, mark) = open_moves b es ls pt manager valid by in
    seat_by pt.view phase (seat_always b es pt valid leads) h (server_phase pt manager phase (phased_on b es (first_point b) pt leads (phased_start b valid)) refl h)
    ∙ ap (λ (o : Option Mark). not (is_some o)) (sym mark)

-- the lines of one part
one_part : (pt : Point) (q : Part) (w : Spelled) → spelled pt (q ∷ []) ≡ Some w → (ls : List Line) × (lines_of pt q ≡ Some ls) × (w.lines ≡ ls)
one_part pt q w e =
    let (ls, is, more) = bind-is (lines_of pt q) (λ ls. bind (after pt ls) (λ next. Some (rule.behind ls (record { lines = []; point = next })))) w e in
    let (next, at, end) = bind-is (after pt ls) (λ next. Some (rule.behind ls (record { lines = []; point = next }))) w more in
    let same : rule.behind ls (record { lines = []; point = next }) ≡ w = cc in
    (ls, is, sym (ap (λ (x : Spelled). x.lines) same) ∙ append-nil ls)

said_away : (pt : Point) (w : Spelled) → spelled pt (Says Line.Away ∷ []) ≡ Some w → w.lines ≡ Line.Away ∷ []
said_away pt w e =
    let (ls, is, same) = one_part pt (Says Line.Away) w e in
    let away : Line.Away ∷ [] ≡ ls = cc in
    same ∙ sym away

-- a message that is put is no such line
puts_quiet : (v : View) (b : ℕ) (id : MsgId) (k : MessageKind) (q : Pid) → count is_away_line (puts v b id k q) ≡ 0
puts_quiet v b id k q = ap (λ (n : ℕ). 0 + n) (packet_quiet (v.acting == b) (goes_out (v.pair v.acting b)))
  where
    packet_quiet : (c a : Bool) → count is_away_line (if c then [] else if a then packet_line v v.acting b (Load.Data (length (v.pair v.acting b).ids)) ∷ [] else []) ≡ 0
    packet_quiet true a = refl
    packet_quiet false true = refl
    packet_quiet false false = refl

quiet_to : (pt : Point) (p : Pid) (o : Option Place) (w : Spelled) → spelled pt (migrates_to p o) ≡ Some w → count is_away_line w.lines ≡ 0
quiet_to pt p None w e =
    let (ls, is, same) = one_part pt (Says (Line.NoChild p)) w e in
    let one : Line.NoChild p ∷ [] ≡ ls = cc in
    ap (λ (xs : List Line). count is_away_line xs) (same ∙ sym one)
quiet_to pt p (Some a) w e =
    let (ls, is, same) = one_part pt (Owns MessageKind.Migrate p a.at) w e in
    let one : puts pt.view a.at (own_id pt.view) MessageKind.Migrate p ≡ ls = cc in
    ap (λ (xs : List Line). count is_away_line xs) (same ∙ sym one) ∙ puts_quiet pt.view a.at (own_id pt.view) MessageKind.Migrate p

pub away_while_open : AwayWhileOpen
away_while_open b es ls pt p m w valid by e =
    let g = group_is b pt (Step.Migrate p m) w e in
    let seat = seat_while b es ls pt valid by in
    let begun = moved pt (Line.Head (Step.Migrate p m)) pt.kernel in
    let place = known_place pt.kernel pt.view pt.view.seat pt.addresses p in
    let parts : migrates pt p ≡ g.parts = (let f : Some (migrates pt p) ≡ Some g.parts = g.is in cc) in
    let said : spelled begun (migrates pt p) ≡ Some g.rest = ap (λ (qs : List Part). spelled begun qs) parts ∙ g.said in
    let lines : Line.Head (Step.Migrate p m) ∷ g.rest.lines ≡ w.lines = ap (λ (x : Spelled). x.lines) g.whole in
    let chosen : (c : Bool) → has_seat pt.view ≡ c → migrates pt p ≡ (if c then migrates_to p place else Says Line.Away ∷ []) =
    λ c is. ap (λ (a : Bool). if a then migrates_to p place else Says Line.Away ∷ []) is in (
      λ moving.
          let away = said_away begun g.rest (sym (ap (λ (qs : List Part). spelled begun qs) (chosen false (seat ∙ ap not moving))) ∙ said) in
          sym lines ∙ ap (λ (xs : List Line). Line.Head (Step.Migrate p m) ∷ xs) away,
      λ closed.
          let none = quiet_to begun p place g.rest (sym (ap (λ (qs : List Part). spelled begun qs) (chosen true (seat ∙ ap not closed))) ∙ said) in
          sym (ap (λ (xs : List Line). count is_away_line xs) lines) ∙ ap (λ (n : ℕ). 0 + n) none,
    )
