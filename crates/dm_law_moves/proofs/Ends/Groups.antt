-- Ends of moves that no process asked for: those that no answer to a request follows.
use Rattle.dm_law_moves.proofs.Names.{◌≡◌, ℕ, ◌+◌, Bool, true, List, [], ◌∷◌, length, refl, ap, ◌∙◌, sym, subst, inl, inr, arith, if◌then◌else◌, Option, Some, cases_Bool, Pid, pid_eq, MsgId, MessageKind, Boot, Step, Line, migrates}
use Rattle.dm_law_moves.proofs.Names.{View, Told, after_head, after_put, view_after, own_id, Point, Part, Says, Owns, Spelled, behind, spelled, group_of, IsNet, front_way, Phased, told_some, head_calm, InPhases, calm_phases, PairsFit}
use Rattle.dm_law_moves.proofs.Names.{PacketsKeep, said, Sane, KnownStands, Begins, begins, WalksOf, loose_walks, begun, begun_sane, turned, resting, round_walks, handles_walks, asks, ends, count, by_migrates, by_outcome, group_is, None}
use Rattle.dm_law_moves.proofs.Names.{false, label_of, nat_tests, seen_none, MoveNote, Outcome, PlainMessage, PlainWhat, Label, Stage, Target, Frozen, Known, Here, to_kernel, leaves_for, answers_move, said_by, part_sane, move_target, sets}
use Rattle.dm_law_moves.proofs.Names.{aim, asked_off, moved, is_moving, Walks, pid_eq-is, pid_eq-same, own_ends, ◌&&◌, not, ◌++◌, lines_of, LeadsBy, by_parts, NothingElse, is_answered_next, is_answer_by, act_of, hears, line_next}
use Rattle.dm_law_moves.proofs.Names.{loose_round, loose_handles, by_forwards, plain_kind, turn_off, tick_off, deliver_off, migrate_off, option_map_or, calls_off, by_calls_off, call_off, not_true, is_due, TellsEnd, buries_here, Of}
use Rattle.dm_law_moves.proofs.Names.{kernel_hears, process_told, ◌==◌}
use Rattle.dm_law_moves.proofs.Ends.Parts.{packet_smooth, zero_if, Rest, rest_packet, rest_behind, Handled, Quiets, SetsOff, part_count, unit_if, is_migrate, Extends, Still, plain_in_bag, AllQuiet, quiet_loose, Silent, count-append}
use Rattle.dm_law_moves.proofs.Ends.Parts.{smooth_same, Tame, still_same, Smooth, smooth_trans, moves_none, lines_count, smooth_still, asks_for}
use Rattle.dm_law_moves.proofs.Ends.Open.{Opens, Balance, level_balance, smooth_opens, add_opens, moving_in, still_moves, here_stays, Turn, Comes, quiet_row, and_off, line_then, other_still, pid_swap, Neither, net_none, net_level, own_adds}
use Rattle.dm_law_moves.proofs.Ends.Hears.{ComesOf, kernel_comes, process_comes}
use Rattle.dm_law_moves.proofs.Names.{is_away_line, is_away_next, own_asks}
use Rattle.dm_law_moves.proofs.Leading.{next_of, part_leads, net_says, lines_are, asker_known}
use Rattle.dm_law_moves.proofs.Asked.Following.{Row, Plain, Ends, IsHere, Leaves, outcome_row, plain_notes, ends_notes, here_notes, leaves_notes, AllUnmarked, IsUnmarked, net_unmarked, EndLine}
use Rattle.dm_law_rule.specs.Rule as rule
use Rattle.dm_law_moves.proofs.Ends.Hears.{called_comes, nocall_comes}
use Rattle.dm_law_one.proofs.Facts.{and_no}

abbrev pub is_answer_part : List Part → Bool
is_answer_part (Says l ∷ ps) = is_answer_by (act_of l)
is_answer_part _ = false

abbrev pub own_count : (MsgId → Option Told) → Pid → List Part → ℕ
own_count f p [] = 0
own_count f p (Says l ∷ ps) = unit_if (ends f p l && not (is_answer_part ps)) + own_count f p ps
own_count f p (x ∷ ps) = own_count f p ps

-- as the lines of the parts have it
own_step : (f : MsgId → Option Told) (p : Pid) (pt : Point) (x : Part) (ps : List Part) (ls zs : List Line) → lines_of pt x ≡ Some ls → own_ends f p zs ≡ own_count f p ps → is_answered_next zs ≡ is_answer_part ps
    → (own_ends f p (ls ++ zs) ≡ own_count f p (x ∷ ps)) × (is_answered_next (ls ++ zs) ≡ is_answer_part (x ∷ ps))
own_step f p pt x ps ls zs h1 h2 h3 = search (arith, lines_are)

pub own_is : (f : MsgId → Option Told) (p : Pid) (ps : List Part) (pt : Point) (w : Spelled) → spelled pt ps ≡ Some w → (own_ends f p w.lines ≡ own_count f p ps) × (is_answered_next w.lines ≡ is_answer_part ps)
own_is f p = by_parts (λ ps pt w. (own_ends f p w.lines ≡ own_count f p ps) × (is_answered_next w.lines ≡ is_answer_part ps)) (λ pt. (refl, refl)) (λ x ps pt next ls z lines leads rest. own_step f p pt x ps ls z.lines lines rest.0 rest.1)

pub unmarked_answer : (l : Line) → IsUnmarked l → is_answer_by (act_of l) ≡ false
unmarked_answer l h = grind (arith, nat_tests)

unmarked_next : (ps : List Part) → AllUnmarked ps → is_answer_part ps ≡ false
unmarked_next [] so = refl
unmarked_next (Says l ∷ ps) so = unmarked_answer l so.0
unmarked_next (x ∷ ps) so = refl

pub own_same : (f : MsgId → Option Told) (p : Pid) (ps : List Part) → AllUnmarked ps → own_count f p ps ≡ part_count (ends f p) ps
own_same f p [] so = refl
own_same f p (Says l ∷ ps) so = let a : unit_if ((ends f p l) && not (is_answer_part ps)) ≡ unit_if (ends f p l) = grind (arith, nat_tests, unmarked_next ps so.1) in let h = own_same f p ps so.1 in omega (arith, a, h)
own_same f p (x ∷ ps) so = own_same f p ps so.1

-- a move is a process's own, unless it follows a request
abbrev pub owned : Option MoveNote → ℕ → ℕ
owned None n = n
owned (Some k) n = 0

pub owned_zero : (o : Option MoveNote) (n : ℕ) → n ≡ 0 → owned o n ≡ 0
owned_zero None n e = e
owned_zero (Some k) n e = refl

-- what a group does, where only these ends count
pub record OwnBalance (p : Pid) (w : View) (ids : List MsgId) (asked before behind : ℕ) (parts : List Part) : Type 0 where
  pub left : List MsgId
  pub opens : Opens (asks_for p) w left
  pub quiet : part_count (asks p) parts ≡ 0
  pub sum : (f : MsgId → Option Told) → Extends w.told f → asked + (length ids + before) ≡ own_count f p parts + (length left + behind)

-- the process follows what it followed
pub kept_own : (p : Pid) (w : View) (ids : List MsgId) (asked before behind : ℕ) (ps : List Part) (a : Option MoveNote) → ((f : MsgId → Option Told) → own_count f p ps ≡ part_count (ends f p) ps) → ((n : MoveNote) → a ≡ Some n → before ≡ 1)
    → ((n : MoveNote) → a ≡ Some n → behind ≡ 1) → Balance p w ids asked before behind ps
    → OwnBalance p w ids asked (owned a before) (owned a behind) ps
kept_own p w ids asked before behind ps a h1 h2 h3 h4 = search arith

pub end_ends : (f : MsgId → Option Told) (p q : Pid) (r : Outcome) (l : Line) → EndLine q r l → ends f p l ≡ pid_eq p q
end_ends f p q Outcome.Done l e = ap (ends f p) e
end_ends f p q Outcome.Stayed l e = ap (ends f p) e
end_ends f p q Outcome.Ended l e = absurd e

-- a process that is asked to move where it is stays there
pub asker_here : (pt : Point) (id : MsgId) (r : Outcome) (q : Pid) (w : Spelled) → spelled pt (rule.says (Label.Asked id) ∷ answers_move id r) ≡ Some w → pt.view.known pt.view.acting q ≡ Here → w.point.view.known pt.view.acting q ≡ Here
asker_here pt id r q w e here = search (arith, next_of, said_by, pt.view.acting, asker_known)

-- lists of lines, one after another
pub own-append : (f : MsgId → Option Told) (p : Pid) (xs ys : List Line) → is_answered_next ys ≡ false → own_ends f p (xs ++ ys) ≡ own_ends f p xs + own_ends f p ys
own-append f p [] ys e = omega arith
own-append f p (x ∷ []) ys e = let a : own_ends f p (x ∷ ys) ≡ own_ends f p (x ∷ []) + own_ends f p ys = (let k = ap (λ (c : Bool). unit_if (ends f p x && not c)) e in omega (arith, k)) in a
own-append f p (x ∷ y ∷ xs) ys e = let h = own-append f p (y ∷ xs) ys e in omega (arith, h)

pub leads_next : (b : Boot) (es : List Step) (pt end : Point) (ls : List Line) → LeadsBy b pt es ls end → (is_answered_next ls ≡ false) × (is_away_next ls ≡ false)
leads_next b [] pt end ls (none, at) = (ap is_answered_next none, ap is_away_next none)
leads_next b (d ∷ ds) pt end ls (w, rest, fit, is, split, more) =
    let k = group_is b pt d w is in
    let first = split ∙ ap (λ (x : Spelled). x.lines ++ rest) (sym k.whole) in
    (ap is_answered_next first, ap is_away_next first)

-- directives that the manager hears, by lines and by the parts of one
pub asks-append : (p : Pid) (xs ys : List Line) → is_away_next ys ≡ false → own_asks p (xs ++ ys) ≡ own_asks p xs + own_asks p ys
asks-append p [] ys e = omega arith
asks-append p (x ∷ []) ys e = let k = ap (λ (c : Bool). unit_if (asks p x && not c)) e in omega (arith, k)
asks-append p (x ∷ y ∷ xs) ys e = let h = asks-append p (y ∷ xs) ys e in omega (arith, h)

abbrev pub is_away_part : List Part → Bool
is_away_part (Says l ∷ ps) = is_away_line l
is_away_part _ = false

away_step : (pt : Point) (x : Part) (ps : List Part) (ls zs : List Line) → lines_of pt x ≡ Some ls → is_away_next (ls ++ zs) ≡ is_away_part (x ∷ ps)
away_step pt x ps ls zs h = search (arith, lines_are)

away_is : (ps : List Part) (pt : Point) (w : Spelled) → spelled pt ps ≡ Some w → is_away_next w.lines ≡ is_away_part ps
away_is = by_parts (λ ps pt w. is_away_next w.lines ≡ is_away_part ps) (λ pt. refl) (λ x ps pt next ls z lines leads rest. away_step pt x ps ls z.lines lines)

-- lines without a directive
asks_none : (p : Pid) (ls : List Line) → count (asks p) ls ≡ 0 → own_asks p ls ≡ 0
asks_none p [] e = refl
asks_none p (l ∷ ls) e =
    let one : unit_if (asks p l) ≡ 0 = omega (arith, e) in
    let rest = asks_none p ls (omega (arith, e)) in
    let first : unit_if (asks p l && not (is_away_next ls)) ≡ 0 = grind (arith, nat_tests) in
    omega (arith, first, rest)

-- What each group does with requests to move a process: directives and ends are counted against those that are under way.

abbrev pub begun_phases : (pt : Point) (d : Step) → InPhases pt.view → InPhases (begun pt d).view
begun_phases pt d h = calm_phases pt.view (after_head pt.view d) (head_calm pt.view d) h

-- what a turn begins with, at the message at the front of the inbox
abbrev pub front_turn : (o : Point) (m : ℕ) (i : MsgId) (is : List MsgId) → InPhases o.view → Begins o m → PairsFit o.view → o.view.inbox m ≡ i ∷ is → (t : Told) × Turn (turned o m) i is t
front_turn o m i is h s fits front =
    let (q, way) = front_way (turned o m) i is s.state front in
    let (t, told) = told_some (o.view.told i) q (s.state.stands.told i q way) in
    (t, record { front = front; told = told; state = s.state; sane = s.sane; fits = record { within = fits.within; home = fits.home }; phases = begun_phases o (Step.Turn m) h; topic = refl })

-- a delivery or a tick
net_comes : (p : Pid) (pt : Point) (h : InPhases pt.view) (ps : List Part) (w : Spelled) → IsNet ps → spelled pt ps ≡ Some w → Comes p pt h ps w
net_comes p pt h ps w net e g ids opens =
    let net_ends : (g : MsgId → Option Told) (p : Pid) (ps : List Part) → IsNet ps → part_count (ends g p) ps ≡ 0 =
    λ g p ps h. let net_line_ends : (g : MsgId → Option Told) (p : Pid) → Neither (ends g p) = λ g p l h. grind (arith, nat_tests) in net_none (ends g p) (net_line_ends g p) ps h in
    let net_asks : (p : Pid) (ps : List Part) → IsNet ps → part_count (asks p) ps ≡ 0 = λ p ps h. let net_line_asks : (p : Pid) → Neither (asks p) = λ p l h. grind (arith, nat_tests) in net_none (asks p) (net_line_asks p) ps h in
    let s = net_level p ps pt w net e in
    level_balance p pt.view w.point.view ids (moving_in (h.of p)) (moving_in (g.of p)) ps s.smooth opens (still_moves p pt.view w.point.view h g s.still) (net_asks p ps net) (λ f ext. net_ends f p ps net)

-- the directive to move
abbrev asked_by : Pid → Step → List Part → ℕ
asked_by p d ps = unit_if (asks p (Line.Head d) && not (is_away_part ps))

abbrev Directed : Pid → ℕ → (pt : Point) → InPhases pt.view → List Part → Spelled → Type 0
Directed p asked pt h parts w = (g : InPhases w.point.view) (ids : List MsgId) → Opens (asks_for p) pt.view ids → Balance p w.point.view ids asked (moving_in (h.of p)) (moving_in (g.of p)) parts

said_comes : (p : Pid) (c : Bool) (pt : Point) (l : Line) (h : InPhases pt.view) (w : Spelled) → label_of l ≡ None → view_after pt.view l ≡ pt.view → asks p l ≡ false → ((f : MsgId → Option Told) → ends f p l ≡ c) → spelled pt (Says l ∷ []) ≡ Some w
    → Directed p (unit_if c) pt h (Says l ∷ []) w
said_comes p c pt l h w none alike plain ended e g ids opens =
    let v = pt.view in
    let at : v ≡ w.point.view = sym alike ∙ sym (seen_none pt.kernel v l none) ∙ ap (λ (x : Point). x.view) (let n = line_next pt l [] w none e in said (moved pt l pt.kernel) n.rest n.more ∙ n.point) in
    let same = still_moves p v w.point.view h g (subst (Still p v) at (still_same p v)) in
    grind (arith, nat_tests, zero_if, smooth_opens, smooth_same)

-- a request is put
record Added (p : Pid) (v : View) (ids : List MsgId) (w : View) : Type 0 where
  opens : Opens (asks_for p) w ids
  still : Still p v w

request_comes : (p q : Pid) (b : ℕ) (pt : Point) (h : InPhases pt.view) (w : Spelled) → Sane pt → PairsFit pt.view → pid_eq p q ≡ true → spelled pt (Owns MessageKind.Migrate q b ∷ []) ≡ Some w → Directed p 1 pt h (Owns MessageKind.Migrate q b ∷ []) w
request_comes p q b pt h w sane fits same e g ids opens =
    let v = pt.view in
    let i = own_id v in
    let n = next_of pt (Owns MessageKind.Migrate q b) [] w e in
    let at : n.next ≡ w.point = said n.next n.rest n.more ∙ n.point in
    let first : Added p v (i ∷ ids) (after_put v v.acting b i MessageKind.Migrate q) = record { opens = add_opens (asks_for p) v (after_put v v.acting b i MessageKind.Migrate q) ids i (own_adds (asks_for p) pt b MessageKind.Migrate q sane fits same) opens; still = λ n. refl } in
    let to : Point → Type 0 = λ x. Added p v (i ∷ ids) x.view in
    let added_packet : (p : Pid) (v : View) (ids : List MsgId) → PacketsKeep (λ q. Added p v ids q.view) =
    λ p v ids q a b k l h. record { opens = smooth_opens (asks_for p) q.view (view_after q.view (Line.Packet a b k l)) ids (packet_smooth (asks_for p) q.view a b k l) h.opens; still = h.still } in
    let there : Added p v (i ∷ ids) w.point.view = subst to at (part_leads to (added_packet p v (i ∷ ids)) pt n.next (Owns MessageKind.Migrate q b) first n.steps) in
    let mv = still_moves p v w.point.view h g there.still in
    record { left = i ∷ ids; opens = there.opens; quiet = refl; sum = λ f ext. omega (arith, mv) }

owns_comes : (p q : Pid) (b : ℕ) (pt : Point) (h : InPhases pt.view) (w : Spelled) → Sane pt → PairsFit pt.view → spelled pt (Owns MessageKind.Migrate q b ∷ []) ≡ Some w → Directed p (unit_if (pid_eq p q)) pt h (Owns MessageKind.Migrate q b ∷ []) w
owns_comes p q b pt h w sane fits e g ids opens = elim (cases_Bool (pid_eq p q)) [
  | inl same ↦
      let r = request_comes p q b pt h w sane fits same e g ids opens in
      let one : unit_if (pid_eq p q) ≡ 1 = ap unit_if same in
      record { left = r.left; opens = r.opens; quiet = r.quiet; sum = λ f ext. (let s = r.sum f ext in omega (arith, s, one)) }
  | inr off ↦
      let ps = Owns MessageKind.Migrate q b ∷ [] in
      let r = quiet_row p pt h ps w sane fits (and_off (is_migrate MessageKind.Migrate) (pid_eq p q) off, tt) (loose_walks ps pt (λ x. tt, tt)) e g ids opens in
      let zero_ = zero_if (pid_eq p q) off in
      record { left = r.left; opens = r.opens; quiet = r.quiet; sum = λ f ext. (let s = r.sum f ext in omega (arith, s, zero_)) }
]

and_all : (c : Bool) → (c && true) ≡ c
and_all true = refl
and_all false = refl

migrates_comes : (p q : Pid) (m : ℕ) (o pt : Point) (h : InPhases pt.view) (w : Spelled) → Sane pt → PairsFit pt.view → spelled pt (migrates o q) ≡ Some w → Directed p (asked_by p (Step.Migrate q m) (migrates o q)) pt h (migrates o q) w
migrates_comes p q m o pt h w sane fits =
    let heard : (ps : List Part) → is_away_part ps ≡ false → Directed p (unit_if (pid_eq p q)) pt h ps w → Directed p (asked_by p (Step.Migrate q m) ps) pt h ps w =
    λ ps here. subst (λ (n : ℕ). Directed p n pt h ps w) (ap unit_if (sym (and_all (pid_eq p q)) ∙ ap (λ (c : Bool). pid_eq p q && not c) (sym here))) in
    let away : Directed p 0 pt h (Says Line.Away ∷ []) w → Directed p (asked_by p (Step.Migrate q m) (Says Line.Away ∷ [])) pt h (Says Line.Away ∷ []) w = subst (λ (n : ℕ). Directed p n pt h (Says Line.Away ∷ []) w) (ap unit_if (sym (and_no (pid_eq p q)))) in
    by_migrates (λ (ps : List Part). spelled pt ps ≡ Some w → Directed p (asked_by p (Step.Migrate q m) ps) pt h ps w) o q
    (λ e. away (said_comes p false pt Line.Away h w refl refl refl (λ f. refl) e))
    (λ e. heard (Says (Line.NoChild q) ∷ []) refl (said_comes p (pid_eq p q) pt (Line.NoChild q) h w refl refl refl (λ f. refl) e))
    (λ a here knows e. heard (Owns MessageKind.Migrate q a.at ∷ []) refl (owns_comes p q a.at pt h w sane fits e))

-- what is known of requests to move that the process follows: it moves
abbrev Follows : Pid → (pt : Point) → InPhases pt.view → Type 0
Follows p pt h = (n : MoveNote) → pt.kernel.notes p ≡ Some n → moving_in (h.of p) ≡ 1

abbrev OwnDirected : Pid → ℕ → (pt : Point) → InPhases pt.view → List Part → Spelled → Type 0
OwnDirected p asked pt h parts w = (g : InPhases w.point.view) (ids : List MsgId) → Opens (asks_for p) pt.view ids → Follows p pt h → Follows p w.point g
    → OwnBalance p w.point.view ids asked (owned (pt.kernel.notes p) (moving_in (h.of p))) (owned (w.point.kernel.notes p) (moving_in (g.of p))) parts

-- a process is asked to move, and sets off
leaves_own : (p : Pid) (asked : ℕ) (pt : Point) (h : InPhases pt.view) (id : MsgId) (msg : PlainMessage) (to : ℕ) (w : Spelled) → asked ≡ 0 → Sane pt → PairsFit pt.view → pt.kernel.bag id ≡ Some msg
    → pt.view.known pt.view.acting msg.to ≡ Here → msg.what ≡ PlainWhat.Move to
    → spelled pt (rule.says (Label.Asked id) ∷ leaves_for msg.to to) ≡ Some w → OwnDirected p asked pt h (rule.says (Label.Asked id) ∷ leaves_for msg.to to) w
leaves_own p asked pt h id msg to w zero_ sane fits there here what e g ids opens before behind =
    let q = msg.to in
    let l = Line.Label (Label.Asked id) in
    let l2 = Line.Migration Stage.Frozen q in
    let ps = Says (Line.Migration Stage.Asked q) ∷ to_kernel MessageKind.Ask to ∷ [] in
    let n = next_of pt (Says l) (leaves_for q to) w e in
    let k = said_by pt n.next l n.steps in
    let c = part_leads (λ y. Rest p pt.view y.view) (rest_packet p pt.view) pt n.next (Says l) (rest_behind p pt (Says l) sane fits tt tt) n.steps in
    let mid = n.next.view in
    let sane_ = part_sane pt n.next (Says l) n.steps.lines refl n.steps.are n.steps.leads sane in
    let topic : mid.topic ≡ Target to = sym (ap (λ (x : Point). x.view.topic) k.is) ∙ ap (λ (o : Option PlainMessage). option_map_or (λ m. move_target m.what) o NothingElse) there ∙ ap move_target what in
    let rest = line_then p n.next l2 ps n.rest refl refl refl sane_ c.fits (tt, (refl, tt)) (loose_walks ps (moved n.next l2 n.next.kernel) (λ y. tt, (λ y. tt, tt))) n.more in
    let set = sets mid q mid.topic in
    let x = Frozen (aim mid mid.topic) in
    let first : Smooth (asks_for p) mid (view_after mid l2) = moves_none (asks_for p) mid l2 refl (λ z. asked_off mid q to topic z) in
    let smooth : Smooth (asks_for p) pt.view w.point.view = subst (λ (y : Point). Smooth (asks_for p) pt.view y.view) n.point (smooth_trans (asks_for p) pt.view mid n.rest.point.view c.smooth (smooth_trans (asks_for p) mid (view_after mid l2) n.rest.point.view first rest.smooth)) in
    let notes = leaves_notes pt id msg to p w there e in
    elim (cases_Bool (pid_eq q p)) [
      | inl same ↦
          let none : moving_in (h.of p) ≡ 0 = here_stays pt.view h p pt.view.acting (ap (pt.view.known pt.view.acting) (sym (pid_eq-is q p same)) ∙ here) in
          let now : owned (w.point.kernel.notes p) (moving_in (g.of p)) ≡ 0 = ap (λ (o : Option MoveNote). owned o (moving_in (g.of p))) (notes ∙ ap (λ (b : Bool). if b then Some (record { id = id; asker = msg.sender }) else pt.kernel.notes p) same) in
          let was = owned_zero (pt.kernel.notes p) (moving_in (h.of p)) none in
          record { left = ids; opens = smooth_opens (asks_for p) pt.view w.point.view ids smooth opens; quiet = refl; sum = λ f ext. (let z : own_count f p (rule.says (Label.Asked id) ∷ leaves_for q to) ≡ 0 = refl in omega (arith, z, zero_, now, was)) }
      | inr off ↦
          let off_ : pid_eq p q ≡ false = pid_swap q p off in
          let still : Still p pt.view w.point.view = subst (λ (y : Point). Still p pt.view y.view) n.point
          (λ m. rest.still m ∙ ap is_moving (ap (λ (f : ℕ → Pid → Known). f m p) set.known) ∙ other_still p q mid.known mid.acting x off_ m ∙ c.still m) in
          let moves = still_moves p pt.view w.point.view h g still in
          let kept : w.point.kernel.notes p ≡ pt.kernel.notes p = notes ∙ ap (λ (b : Bool). if b then Some (record { id = id; asker = msg.sender }) else pt.kernel.notes p) off in
          let same : owned (pt.kernel.notes p) (moving_in (h.of p)) ≡ owned (w.point.kernel.notes p) (moving_in (g.of p)) = ap (owned (pt.kernel.notes p)) moves ∙ ap (λ (o : Option MoveNote). owned o (moving_in (g.of p))) (sym kept) in
          record { left = ids; opens = smooth_opens (asks_for p) pt.view w.point.view ids smooth opens; quiet = refl; sum = λ f ext. (let z : own_count f p (rule.says (Label.Asked id) ∷ leaves_for q to) ≡ 0 = refl in omega (arith, z, zero_, same)) }
    ]

-- parts that say nothing of requests to move
plain_own : (p : Pid) (asked : ℕ) (pt : Point) (d : Step) (h : InPhases (begun pt d).view) (ps : List Part) (w : Spelled) → AllUnmarked ps → spelled (begun pt d) ps ≡ Some w → Directed p asked (begun pt d) h ps w → OwnDirected p asked (begun pt d) h ps w
plain_own p asked pt d h ps w so e r g ids opens before behind =
    let a = pt.kernel.notes p in
    let notes = plain_notes p ps (begun pt d) w so e in
    subst (λ (x : Option MoveNote). OwnBalance p w.point.view ids asked (owned a (moving_in (h.of p))) (owned x (moving_in (g.of p))) ps) (sym notes)
    (kept_own p w.point.view ids asked (moving_in (h.of p)) (moving_in (g.of p)) ps a (λ f. own_same f p ps so) before (λ n is. behind n (notes ∙ is)) (r g ids opens))

-- by what the parts say of requests to move
own_of : (p : Pid) (asked : ℕ) (pt : Point) (d : Step) (h : InPhases (begun pt d).view) (ps : List Part) (w : Spelled) → (asks p (Line.Head d) ≡ false → asked ≡ 0) → Sane (begun pt d) → PairsFit (begun pt d).view → Row pt d ps → spelled (begun pt d) ps ≡ Some w
    → Directed p asked (begun pt d) h ps w → OwnDirected p asked (begun pt d) h ps w
own_of p asked pt d h ps w silent sane fits (Plain so) e r g ids opens before behind = plain_own p asked pt d h ps w so e r g ids opens before behind
own_of p asked pt d h ps w silent sane fits (Ends q n l k noted end are) e r g ids opens before behind =
    let start = begun pt d in
    let qs = Says l ∷ answers_move n.id k in
    let notes = ends_notes start q p n l k w (sane.sound.notes.noted q n noted) end (ap (spelled start) (sym are) ∙ e) in
    let old : Balance p w.point.view ids asked (moving_in (h.of p)) (moving_in (g.of p)) qs = subst (Balance p w.point.view ids asked (moving_in (h.of p)) (moving_in (g.of p))) are (r g ids opens) in
    subst (OwnBalance p w.point.view ids asked (owned (pt.kernel.notes p) (moving_in (h.of p))) (owned (w.point.kernel.notes p) (moving_in (g.of p)))) (sym are)
    (elim (cases_Bool (pid_eq q p)) [
      | inl same ↦
          let is : q ≡ p = pid_eq-is q p same in
          let mine : pt.kernel.notes p ≡ Some n = ap pt.kernel.notes (sym is) ∙ noted in
          let one : moving_in (h.of p) ≡ 1 = before n mine in
          let was : owned (pt.kernel.notes p) (moving_in (h.of p)) ≡ 0 = ap (λ (o : Option MoveNote). owned o (moving_in (h.of p))) mine in
          let now : owned (w.point.kernel.notes p) (moving_in (g.of p)) ≡ moving_in (g.of p) = ap (λ (o : Option MoveNote). owned o (moving_in (g.of p))) (notes ∙ ap (λ (b : Bool). if b then None else pt.kernel.notes p) same) in
          let other : pid_eq p q ≡ true = ap (pid_eq p) is ∙ pid_eq-same p in
          search (arith, old.left, old.opens, old.quiet, old.sum, end_ends, and_off)
      | inr off ↦
          let off_ : pid_eq p q ≡ false = pid_swap q p off in
          let kept : w.point.kernel.notes p ≡ pt.kernel.notes p = notes ∙ ap (λ (b : Bool). if b then None else pt.kernel.notes p) off in
          subst (λ (x : Option MoveNote). OwnBalance p w.point.view ids asked (owned (pt.kernel.notes p) (moving_in (h.of p))) (owned x (moving_in (g.of p))) qs) (sym kept)
          (kept_own p w.point.view ids asked (moving_in (h.of p)) (moving_in (g.of p)) qs (pt.kernel.notes p)
          (λ f. let x : unit_if (ends f p l) ≡ 0 = ap (λ (b : Bool). unit_if b) (end_ends f p q k l end ∙ off_) in let y : unit_if (ends f p l && false) ≡ 0 = ap (λ (b : Bool). unit_if b) (and_off (ends f p l) false refl) in omega (arith, x, y))
          before (λ n is. behind n (kept ∙ is)) old)
    ])
own_of p asked pt d h ps w silent sane fits (IsHere id msg there here are) e r g ids opens before behind =
    let start = begun pt d in
    let qs = rule.says (Label.Asked id) ∷ answers_move id Outcome.Done in
    let old : Balance p w.point.view ids asked (moving_in (h.of p)) (moving_in (g.of p)) qs = subst (Balance p w.point.view ids asked (moving_in (h.of p)) (moving_in (g.of p))) are (r g ids opens) in
    subst (OwnBalance p w.point.view ids asked (owned (pt.kernel.notes p) (moving_in (h.of p))) (owned (w.point.kernel.notes p) (moving_in (g.of p)))) (sym are)
    (elim (cases_Bool (pid_eq msg.to p)) [
      | inl same ↦
          let is : msg.to ≡ p = pid_eq-is msg.to p same in
          let q = asker_here start id Outcome.Done msg.to w (ap (spelled start) (sym are) ∙ e) here in
          let none : moving_in (h.of p) ≡ 0 = here_stays start.view h p start.view.acting (ap (start.view.known start.view.acting) (sym is) ∙ here) in
          let none_ : moving_in (g.of p) ≡ 0 = here_stays w.point.view g p start.view.acting (ap (w.point.view.known start.view.acting) (sym is) ∙ q) in
          let was = owned_zero (pt.kernel.notes p) (moving_in (h.of p)) none in
          let now = owned_zero (w.point.kernel.notes p) (moving_in (g.of p)) none_ in
          record { left = old.left; opens = old.opens; quiet = old.quiet; sum = λ f ext. (let s = old.sum f ext in let z : own_count f p qs ≡ part_count (ends f p) qs = refl in omega (arith, s, z, none, none_, was, now)) }
      | inr off ↦
          let kept = here_notes start id msg p w there off (ap (spelled start) (sym are) ∙ e) in
          subst (λ (x : Option MoveNote). OwnBalance p w.point.view ids asked (owned (pt.kernel.notes p) (moving_in (h.of p))) (owned x (moving_in (g.of p))) qs) (sym kept)
          (kept_own p w.point.view ids asked (moving_in (h.of p)) (moving_in (g.of p)) qs (pt.kernel.notes p) (λ f. refl) before (λ n is. behind n (kept ∙ is)) old)
    ])
own_of p asked pt d h ps w silent sane fits (Leaves id msg to unasked there here what are) e r g ids opens before behind =
    subst (OwnBalance p w.point.view ids asked (owned (pt.kernel.notes p) (moving_in (h.of p))) (owned (w.point.kernel.notes p) (moving_in (g.of p)))) (sym are)
    (leaves_own p asked (begun pt d) h id msg to w (silent (unasked p)) sane fits there here what (ap (spelled (begun pt d)) (sym are) ∙ e) g ids opens before behind)

handled_own : (p : Pid) (pt : Point) (m : ℕ) (id : MsgId) (msg : PlainMessage) (h : InPhases (turned pt m).view) (ps : List Part) (w : Spelled) → Sane (turned pt m) → PairsFit (turned pt m).view → pt.kernel.bag id ≡ Some msg
    → Row pt (Step.Turn m) ps → Walks (turned pt m) ps → spelled (turned pt m) ps ≡ Some w
    → Handled p (turned pt m).view pt m id msg ps → OwnDirected p 0 (turned pt m) h ps w
handled_own p pt m id msg h ps w sane fits there row walks e (Quiets quiet) = own_of p 0 pt (Step.Turn m) h ps w (λ none. refl) sane fits row e (quiet_row p (turned pt m) h ps w sane fits quiet walks e)
handled_own p pt m id msg h ps w sane fits there row walks e (SetsOff to here what are) =
    subst (λ (xs : List Part). OwnDirected p 0 (turned pt m) h xs w) (sym are) (leaves_own p 0 (turned pt m) h id msg to w refl sane fits there here what (ap (spelled (turned pt m)) (sym are) ∙ e))

-- what comes of a directive
directed : (p : Pid) (b : Boot) (pt : Point) (d : Step) (parts : List Part) (w : Spelled) (h : InPhases pt.view) → Phased pt → KnownStands pt.kernel pt.view → PairsFit pt.view → rule.outcome b pt d ≡ Some parts
    → spelled (begun pt d) parts ≡ Some w → OwnDirected p (asked_by p d parts) (begun pt d) (begun_phases pt d h) parts w
directed p b pt d parts w h phased known fits is =
    let hears_comes : (p : Pid) (b : Boot) (o : Point) (m : ℕ) (i : MsgId) (is : List MsgId) (t : Told) (h : Turn (turned o m) i is t) → ((q : Pid) → t.about ≡ Of q → t.kind ≡ MessageKind.Bury → TellsEnd (turned o m).kernel (turned o m).view i) → ComesOf p (turned o m) h.phases (hears b o m i (Some t)) = λ p b o m i is t h ends.
    let of_if : (p : Pid) (pt : Point) (h : InPhases pt.view) (c : Bool) (x y : Option (List Part)) → ComesOf p pt h x → ComesOf p pt h y → ComesOf p pt h (if c then x else y) = λ p pt h c x y k l. grind (arith, nat_tests) in
    of_if p (turned o m) h.phases (t.receiver.num == 0) (kernel_hears b o m i t.kind t.about) (process_told o m i t (o.view.known m t.receiver)) (kernel_comes p b o m i is t t.about h refl ends) (process_comes p o m i is t (o.view.known m t.receiver) h refl) in
    by_outcome (λ x ps. (u : Spelled) → Row pt x ps → spelled (begun pt x) ps ≡ Some u → OwnDirected p (asked_by p x ps) (begun pt x) (begun_phases pt x h) ps u) b pt d parts (record {
      round = λ m ps box e u row said.
          (let s = begins pt m phased known in
          let q = rule.first_runnable pt.kernel (pt.view.queue m) (pt.view.ring m) in
          let pairs : PairsFit (turned pt m).view = record { within = fits.within; home = fits.home } in
          let round_quiet : AllQuiet p (turned pt m).view ps = loose_round (AllQuiet p (turned pt m).view) (quiet_loose p (turned pt m).view) b pt m q ps (tt, tt) e in
          own_of p 0 pt (Step.Turn m) (begun_phases pt (Step.Turn m) h) ps u (λ none. refl) s.sane pairs row said (quiet_row p (turned pt m) (begun_phases pt (Step.Turn m) h) ps u s.sane pairs round_quiet
          (subst (WalksOf (turned pt m)) e (round_walks (turned pt m) b pt m q (λ r is. resting (turned pt m).view r s.phases (s.rooted.served m r is)))) said));
      handles = λ m i is msg ps box there e u row said.
          (let s = begins pt m phased known in
          let (t, turn) = front_turn pt m i is h s fits box in
          let tame : Tame p (turned pt m).view i = record { what = t; told = turn.told; plain = plain_in_bag p (turned pt m) i msg s.sane there t turn.told } in
          let handles_quiet : (p : Pid) (v : View) (b : Boot) (o : Point) (m : ℕ) (id : MsgId) (msg : PlainMessage) (ps : List Part) → Tame p v id → rule.handles b o m id msg ≡ Some ps → Handled p v o m id msg ps =
          λ p v b o m id msg ps h e.
          loose_handles (Handled p v o m id msg) (AllQuiet p v) (quiet_loose p v) (λ qs k. Quiets k) b o m id msg ps (λ here. Quiets (h, tt)) (Quiets (h, tt)) (λ to here what apart. SetsOff to here.known what refl)
          (λ to moves at_. Quiets (by_forwards (AllQuiet p v) o.addresses id (plain_kind msg.what) msg.sender to (h, (h, tt)) (h, (h, (refl, tt))))) e in
          handled_own p pt m i msg (begun_phases pt (Step.Turn m) h) ps u s.sane turn.fits there row
          (subst (WalksOf (turned pt m)) e (handles_walks b pt m i msg s.sane s.phases s.rooted known (record { there = there; told = t; is = turn.told }))) said (handles_quiet p (turned pt m).view b pt m i msg ps tame e));
      hears = λ m i is ps box none e u row said.
          (let s = begins pt m phased known in
          let (t, turn) = front_turn pt m i is h s fits box in
          let comes = subst (ComesOf p (turned pt m) turn.phases) (ap (rule.hears b pt m i) (sym turn.told) ∙ e) (hears_comes p b pt m i is t turn (λ q about kind. buries_here pt m i t q turn.told (s.over i is t q box turn.told about kind) about)) in
          own_of p 0 pt (Step.Turn m) (begun_phases pt (Step.Turn m) h) ps u (λ none. refl) s.sane turn.fits row said (comes u said));
      ticks = λ m ps net u row said.
          (let x = Step.Tick m in
          plain_own p 0 pt x (begun_phases pt x h) ps u (net_says IsUnmarked net_unmarked ps net) said (net_comes p (begun pt x) (begun_phases pt x h) ps u net said));
      delivers = λ a c k ps net u row said.
          (let x = Step.Deliver a c k in
          plain_own p 0 pt x (begun_phases pt x h) ps u (net_says IsUnmarked net_unmarked ps net) said (net_comes p (begun pt x) (begun_phases pt x h) ps u net said));
      asks = λ q m u row said.
          (let x = Step.Migrate q m in
          let pairs : PairsFit (begun pt x).view = record { within = fits.within; home = fits.home } in
          own_of p (asked_by p x (migrates pt q)) pt x (begun_phases pt x h) (migrates pt q) u (λ none. ap (λ (c : Bool). unit_if (c && not (is_away_part (migrates pt q)))) none) (begun_sane pt x phased.sane) pairs row said (migrates_comes p q m pt (begun pt x) (begun_phases pt x h) u (begun_sane pt x phased.sane) pairs said));
      calls = λ q m u row said.
          (let x = Step.CallOff q m in
          let ps = calls_off pt m q (pt.view.known m q) in
          let start = begun pt x in
          let sane = begun_sane pt x phased.sane in
          let phases = begun_phases pt x h in
          let pairs : PairsFit start.view = record { within = fits.within; home = fits.home } in
          let due : is_due (phases.of q) ≡ false = not_true (is_due (phases.of q)) (λ e. let f : None ≡ Some q = phases.put q e in cc) in
          own_of p 0 pt x phases ps u (λ none. refl) sane pairs row said
          (by_calls_off (λ qs. spelled start qs ≡ Some u → Comes p start phases qs u) pt m q (λ k. nocall_comes p start phases q u sane pairs k) (λ from is come k. called_comes p start phases q from u sane pairs due is come k) said));
    }) is w (outcome_row b pt d parts is)

-- what comes of a group
pub record GroupBalance (p : Pid) (w : Spelled) (ids : List MsgId) (before behind : ℕ) : Type 0 where
  pub left : List MsgId
  pub opens : Opens (asks_for p) w.point.view left
  pub sum : (f : MsgId → Option Told) → Extends w.point.view.told f → own_asks p w.lines + (length ids + before) ≡ own_ends f p w.lines + (length left + behind)

-- the lines of parts, counted
pub parts_count : (f : Line → Bool) → Silent f → (ps : List Part) (pt : Point) (w : Spelled) → spelled pt ps ≡ Some w → count f w.lines ≡ part_count f ps
parts_count f h = by_parts (λ ps pt w. count f w.lines ≡ part_count f ps) (λ pt. refl) (λ x ps pt next ls z lines leads rest. count-append f ls z.lines ∙ ap (λ n. count f ls + n) rest ∙ lines_count f pt x ps ls h lines)

whole_balance : (p : Pid) (d : Step) (parts : List Part) (ids : List MsgId) (before behind : ℕ) (start : Point) (rest : Spelled) → spelled start parts ≡ Some rest → OwnBalance p rest.point.view ids (asked_by p d parts) before behind parts
    → GroupBalance p (rule.behind (Line.Head d ∷ []) rest) ids before behind
whole_balance p d parts ids before behind start rest e h = record {
  left = h.left;
  opens = h.opens;
  sum = λ f ext.
      let s = h.sum f ext in
      let a = parts_count (asks p) (record { put = λ a b i k q. refl; packet = λ a b k l. refl }) parts start rest e in
      let q = h.quiet in
      let n = asks_none p rest.lines (omega (arith, a, q)) in
      let first : unit_if (asks p (Line.Head d) && not (is_away_next rest.lines)) ≡ asked_by p d parts = ap (λ (c : Bool). unit_if (asks p (Line.Head d) && not c)) (away_is parts start rest e) in
      let o = (own_is f p parts start rest e).0 in
      omega (arith, s, n, first, o);
}

pub group_balance : (p : Pid) (b : Boot) (pt : Point) (d : Step) (w : Spelled) (h : InPhases pt.view) (g : InPhases w.point.view) (ids : List MsgId) → Phased pt → KnownStands pt.kernel pt.view → PairsFit pt.view
    → group_of b pt d ≡ Some w → Opens (asks_for p) pt.view ids → Follows p pt h → Follows p w.point g
    → GroupBalance p w ids (owned (pt.kernel.notes p) (moving_in (h.of p))) (owned (w.point.kernel.notes p) (moving_in (g.of p)))
group_balance p b pt d w h g ids phased known fits e opens before behind =
    let head_still : (p : Pid) (v : View) (d : Step) → Still p v (after_head v d) = λ p v d m. grind (arith, nat_tests) in
    let k = group_is b pt d w e in
    let head_smooth : Smooth (asks_for p) pt.view (after_head pt.view d) = grind (arith, nat_tests, smooth_still, turn_off, tick_off, deliver_off, migrate_off, call_off) in
    let start : Opens (asks_for p) (begun pt d).view ids = smooth_opens (asks_for p) pt.view (begun pt d).view ids head_smooth opens in
    let back : InPhases k.rest.point.view = subst (λ (x : Spelled). InPhases x.point.view) (sym k.whole) g in
    let same : moving_in (back.of p) ≡ moving_in (g.of p) = still_moves p k.rest.point.view w.point.view back g (subst (λ (x : Spelled). Still p k.rest.point.view x.point.view) k.whole (still_same p k.rest.point.view)) in
    let notes : k.rest.point.kernel.notes p ≡ w.point.kernel.notes p = ap (λ (x : Spelled). x.point.kernel.notes p) k.whole in
    let begun_ : moving_in (h.of p) ≡ moving_in ((begun_phases pt d h).of p) = still_moves p pt.view (begun pt d).view h (begun_phases pt d h) (head_still p pt.view d) in
    let r = directed p b pt d k.parts k.rest h phased known fits k.is k.said back ids start (λ n is. sym begun_ ∙ before n is) (λ n is. same ∙ behind n (sym notes ∙ is)) in
    let whole = whole_balance p d k.parts ids (owned (pt.kernel.notes p) (moving_in ((begun_phases pt d h).of p))) (owned (k.rest.point.kernel.notes p) (moving_in (back.of p))) (begun pt d) k.rest k.said r in
    let one = subst (λ (x : Spelled). GroupBalance p x ids (owned (pt.kernel.notes p) (moving_in ((begun_phases pt d h).of p))) (owned (k.rest.point.kernel.notes p) (moving_in (back.of p)))) k.whole whole in
    subst (λ (n : ℕ). GroupBalance p w ids n (owned (w.point.kernel.notes p) (moving_in (g.of p)))) (ap (owned (pt.kernel.notes p)) (sym begun_))
    (subst (GroupBalance p w ids (owned (pt.kernel.notes p) (moving_in ((begun_phases pt d h).of p)))) (ap (owned (k.rest.point.kernel.notes p)) same ∙ ap (λ (o : Option MoveNote). owned o (moving_in (g.of p))) notes) one)
