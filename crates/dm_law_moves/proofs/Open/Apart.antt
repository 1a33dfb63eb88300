-- Each line of a group leaves a process that moves alone, where it stands.
use Rattle.dm_law_moves.proofs.Names.{◌≡◌, ◌≢◌, ℕ, ◌==◌, Bool, true, false, List, [], ◌∷◌, ◌++◌, refl, ap, ◌∙◌, sym, subst, ⊤, Option, Some, false≢true, Pid, MsgId, MessageKind, PlainMessage, Boot, Label, Why}
use Rattle.dm_law_moves.proofs.Names.{OneKernel, bind, bind-is, Step, Line, Part, Spelled, spelled, Moves, knows, IsIn, Point, label_of, kernel_after, moved, after_line, after, group_of, Here, FirstApart, ApartOf}
use Rattle.dm_law_moves.proofs.Names.{apart_first, rooted, lines_of, Rooted, nowhere_known, moves_away, is_fixed, IsAnothersIf, moves_known, by_parts, by_group, is_some, IsValid, start, replay}
use Rattle.dm_law_moves.proofs.Names.{ended_stays, Phase, is_between, is_restart, kind_comes, first_point, labels, moving_stays_always, is_server, LeadsBy, after_replay, Run, run_always, mark_while, IsSpared, OpenSpares, apart_is}
use Rattle.dm_law_moves.proofs.Names.{destination_knows, SparesPart, why_ended-is, kind_leaves, nat_tests, arith, Ended}
pub use Rattle.dm_law_rule.proofs.Apart.Groups.{kernel_same}
use Rattle.dm_law_rule.proofs.Apart.Groups.{outcome_apart}
pub use Rattle.dm_law_always.proofs.Goes.Own.{source_knows}
use Rattle.dm_law_always.proofs.Based.Rows.{made_server}
use Rattle.dm_law_rule.specs.Rule as rule
use Rattle.dm_law_moves.proofs.Leading.{lines_are}
use Rattle.dm_law_moves.proofs.After.{after-append, group_after}
use Rattle.dm_law_moves.proofs.Open.Moves.{leads_of, run_after, open_moves}
use Rattle.dm_law_moves.proofs.Stages.Spares.{restart_late}
use Rattle.dm_law_moves.proofs.Open.Fine.{AnswersIf}
use Rattle.dm_law_moves.specs.Open.{server_value}
use Rattle.dm_law_moves.proofs.Open.Servers.{kernel_value, value_same}
use Rattle.dm_law_rule.proofs.Apart.Steps.{Avoids, spares_of}

by_process : (r : Bool) (b : Boot) (pt : Point) (p : Pid) (k : MessageKind) (s d : ℕ) (y : Why) → is_server p ≡ false → is_restart k ≡ r → Run b pt → kind_leaves k d (pt.view.known s p) ≡ true → kind_comes k s (pt.view.known d p) ≡ true → pt.kernel.processes p ≡ Some (Ended y) → ⊥
by_process r b pt p k s d y h1 h2 h3 h4 h5 h6 = search (arith, restart_late, pt.view.known)

pub moving_lives : (b : Boot) (pt : Point) (p : Pid) (k : MessageKind) (s d : ℕ) (id : Option MsgId) (y : Why) → Run b pt → IsIn pt.view p (Moves k s d id) → pt.kernel.processes p ≡ Some (Ended y) → ⊥
moving_lives b pt p k s d id y run phase over =
    by_process (is_restart k) b pt p k s d y (made_server pt.kernel p run.based.phased.sane.sound.made (ap is_some over)) refl run (source_knows k s d id (pt.view.known s p) (phase.known s))
    (destination_knows k s d id (pt.view.known d p) (apart_is (is_between k) s d phase.apart) (phase.known d)) over

-- the rest of a group leads on from where its first lines lead
pub after-rest : (xs ys : List Line) (pt mid end : Point) → after pt xs ≡ Some mid → after pt (xs ++ ys) ≡ Some end → after mid ys ≡ Some end
after-rest [] ys pt mid end e f = let g : pt ≡ mid = cc in ap (λ (x : Point). after x ys) (sym g) ∙ f
after-rest (x ∷ xs) ys pt mid end e f =
    let (next, first, rest) = bind-is (after_line pt x) (λ (q : Point). after q xs) mid e in
    after-rest xs ys next mid end rest (sym (ap (λ (o : Option Point). bind o (λ (q : Point). after q (xs ++ ys))) first) ∙ f)

-- a group that keeps the process drops no message for it
dropped_for_other : (b : Boot) (ls earlier later : List Line) (pt before end : Point) (p : Pid) (id : MsgId) (m : PlainMessage) → IsValid b → ((y : Why) → pt.kernel.processes p ≡ Some (Ended y) → ⊥) → end.kernel.processes p ≡ pt.kernel.processes p
    → after (first_point b) ls ≡ Some pt → after pt earlier ≡ Some before → after before (Line.Label (Label.Dropped id) ∷ later) ≡ Some end → before.kernel.bag id ≡ Some m → m.to ≢ p
dropped_for_other b ls earlier later pt before end p id m valid lives same first comes goes there to =
    let l = Line.Label (Label.Dropped id) in
    let (mid, line_, rest) = bind-is (after_line before l) (λ (q : Point). after q later) end goes in
    let (t, step_, last) = bind-is (kernel_after before.kernel (label_of l)) (λ (s : OneKernel). Some (moved before l s)) mid line_ in
    let (y, over) = (let e_ : (y : Why) × (before.kernel.processes m.to ≡ Some (Ended y)) = grind (arith, nat_tests, bind-is, why_ended-is) in e_) in
    let ended : before.kernel.processes p ≡ Some (Ended y) = ap before.kernel.processes (sym to) ∙ over in
    let to_here : replay (start b) (labels (ls ++ earlier)) ≡ Some before.kernel = after_replay (ls ++ earlier) (first_point b) before (after-append ls earlier (first_point b) pt before first comes) in
    lives y (sym same ∙ ended_stays b (labels (ls ++ earlier)) (labels (l ∷ later)) before.kernel end.kernel p y valid (to_here, after_replay (l ∷ later) before end goes) ended)

-- each of these lines avoids the process where it stands
abbrev pub AllAlone : Pid → Point → List Line → Type 0
AllAlone y pt [] = ⊤
AllAlone y pt (l ∷ ls) = Avoids pt.kernel y (label_of l) × ((next : Point) → after_line pt l ≡ Some next → AllAlone y next ls)

alone_append : (y : Pid) (xs ys : List Line) (pt : Point) → AllAlone y pt xs → ((end : Point) → after pt xs ≡ Some end → AllAlone y end ys) → AllAlone y pt (xs ++ ys)
alone_append y [] ys pt h k = k pt refl
alone_append y (x ∷ xs) ys pt h k = (h.0, λ next e. alone_append y xs ys next (h.1 next e) (λ end f. k end (ap (λ (o : Option Point). bind o (λ (q : Point). after q xs)) e ∙ f)))

-- the lines of a part
part_alone : (y : Pid) (pt : Point) (x : Part) (ls : List Line) → SparesPart pt.kernel y x → lines_of pt x ≡ Some ls → AllAlone y pt ls
part_alone y pt x ls h is = lines_are (AllAlone y pt) pt x ls (record {
  says = λ l e. (subst (SparesPart pt.kernel y) e h, λ next f. tt);
  put = λ none a b i c q. (tt, λ next f. tt);
  goes = λ none a b n i c q l. (tt, λ next f. (tt, λ last g. tt));
  packet = λ none a b n l. (tt, λ next f. tt);
}) is

parts_alone : (y : Pid) (ps : List Part) (pt : Point) (w : Spelled) → FirstApart pt.kernel y ps → spelled pt ps ≡ Some w → AllAlone y pt w.lines
parts_alone y qs p w h is = by_parts (λ ps pt v. FirstApart pt.kernel y ps → AllAlone y pt v.lines) (λ pt h. tt) (λ x ps pt next ls z lines leads rest h. (
    let others : AllAlone y next z.lines = rest (apart_first next.kernel y ps h.1) in
    alone_append y ls z.lines pt (part_alone y pt x ls h.0 lines) (λ mid e. let g : next ≡ mid = (let k : Some next ≡ Some mid = sym leads ∙ e in cc) in subst (λ (q : Point). AllAlone y q z.lines) g others)
    )) qs p w is h

group_alone : (b : Boot) (pt : Point) (d : Step) (w : Spelled) (y : Pid) → ApartOf pt.kernel y (rule.outcome b pt d) → group_of b pt d ≡ Some w → AllAlone y pt w.lines
group_alone b pt d w y h = by_group (λ v. AllAlone y pt v.lines) b pt d w (λ ps rest is said. (
    let begun = moved pt (Line.Head d) pt.kernel in
    let all : AllAlone y begun rest.lines = parts_alone y ps begun rest (subst (ApartOf pt.kernel y) is h) said in
    (tt, λ next n. let m : begun ≡ next = cc in subst (λ (q : Point). AllAlone y q rest.lines) m all)
    ))

pub moving_off : (pt : Point) (y : Pid) (k : MessageKind) (s t : ℕ) (o : Option MsgId) → IsIn pt.view y (Moves k s t o) → (m : ℕ) (p : Pid) → pt.view.known m p ≡ Here → p ≢ y
moving_off pt y k s t o phase m p here is = false≢true (sym (moves_away k s t m o (s == m) (t == m) refl refl) ∙ sym (ap (knows (Moves k s t o) m) (ap (pt.view.known m) (sym is) ∙ here)) ∙ phase.known m)

pub moving_alone : (b : Boot) (pt : Point) (d : Step) (w : Spelled) (y : Pid) (k : MessageKind) (s t : ℕ) (o : Option MsgId) → Rooted pt → IsIn pt.view y (Moves k s t o) → group_of b pt d ≡ Some w → AllAlone y pt w.lines
moving_alone b pt d w y k s t o h phase e =
    group_alone b pt d w y
    (outcome_apart b pt d y h
    (λ m is. moves_known k s t o (nowhere_known (Moves k s t o)
    (λ j. sym (ap (knows (Moves k s t o) j) (ap (pt.view.known j) (sym is) ∙ h.unborn m j)) ∙ phase.known j) (λ at over. cc)))
    (moving_off pt y k s t o phase)) e

-- somewhere among the lines
pub record Alone (y : Pid) (pt mid : Point) (ls : List Line) : Type 0 where
  pub rest : AllAlone y mid ls
  pub same : mid.kernel.processes y ≡ pt.kernel.processes y
  pub server : server_value y mid.kernel ≡ server_value y pt.kernel

pub alone_rest : (y : Pid) (xs ys : List Line) (pt mid : Point) → AllAlone y pt (xs ++ ys) → after pt xs ≡ Some mid → Alone y pt mid ys
alone_rest y [] ys pt mid h e = let f : pt ≡ mid = cc in subst (λ (q : Point). Alone y pt q ys) f (record { rest = h; same = refl; server = refl })
alone_rest y (x ∷ xs) ys pt mid h e =
    let (next, first, more) = bind-is (after_line pt x) (λ (q : Point). after q xs) mid e in
    let (s, is, last) = bind-is (kernel_after pt.kernel (label_of x)) (λ (s : OneKernel). Some (moved pt x s)) next first in
    let f : moved pt x s ≡ next = cc in
    let k = alone_rest y xs ys next mid (h.1 next first) more in
    record {
      rest = k.rest;
      same = k.same ∙ sym (ap (λ (q : Point). q.kernel.processes y) f) ∙ kernel_same pt.kernel s y (label_of x) (spares_of pt.kernel y (label_of x) h.0) is;
      server = k.server ∙ sym (ap (λ (q : Point). server_value y q.kernel) f) ∙ kernel_value pt.kernel s y (label_of x) h.0 is;
    }

-- the phase of an open mark
spared : (b : Boot) (es : List Step) (ls : List Line) (pt : Point) (d : Step) (w : Spelled) (p : Pid) (phase : Phase) → IsValid b → LeadsBy b (first_point b) es ls pt → group_of b pt d ≡ Some w → is_some (mark_while phase) ≡ true → IsIn pt.view p phase → IsSpared pt w p
spared b es ls pt d w p (Moves k s t id) valid by e begun h =
    let leads = leads_of b es ls (first_point b) pt by in
    let stays = moving_stays_always b es pt d w p k s t id valid leads e h in
    let run = (run_always b es pt valid leads).run in
    let phased = run.based.phased in
    let alone = moving_alone b pt d w p k s t id (rooted pt phased.sane phased.ground) h e in
    record {
      others = stays.0;
      untaken = λ earlier later before i m split comes there. (alone_rest p earlier (Line.Label (Label.Took i) ∷ later) pt before (subst (AllAlone p pt) split alone) comes).rest.0 m there;
      kept = λ earlier later before i m split comes there. dropped_for_other b ls earlier later pt before w.point p i m valid (λ y over. moving_lives b pt p k s t id y run h over) stays.1
          (run_after b es ls (first_point b) pt by) comes
          (after-rest earlier (Line.Label (Label.Dropped i) ∷ later) pt before w.point comes (ap (after pt) (sym split) ∙ group_after b pt d w e)) there;
      same = stays.1;
      server = value_same p pt.kernel w.point.kernel stays.2 stays.3;
    }
spared b es ls pt d w p _ valid by e begun h = absurd (false≢true begun)

-- wherever the rule leads
pub open_spares : OpenSpares
open_spares b es ls pt d w p valid by begun e =
    let (phase, h, due, mark) = open_moves b es ls pt p valid by in
    spared b es ls pt d w p phase valid by e (sym (ap is_some mark) ∙ begun) h

-- a step that spares a living process takes no message for it
pub anothers_if : (s t : OneKernel) (y : Pid) (o : Option Label) → is_fixed y ≡ false → ((z : Why) → s.processes y ≡ Some (Ended z) → ⊥) → AnswersIf s y o → Avoids s y o → kernel_after s o ≡ Some t → IsAnothersIf s y o
anothers_if s t y (Some (Label.Answered id r)) free lives fine h e = fine
anothers_if s t y (Some (Label.Took id)) free lives fine h e = h
anothers_if s t y o free lives fine h e = grind (arith, nat_tests)
