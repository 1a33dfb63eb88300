-- Wherever the rule leads, each request to move is asked once at most, and answered as often where nothing is on its way.
use Rattle.dm_law_moves.proofs.Names.{◌≡◌, ℕ, ◌+◌, List, [], ◌∷◌, refl, ap, ◌∙◌, sym, arith, Option, None, Some, Pid, MsgId, Label, Line, first_point, labels, label_of, with_label, after_replay, start, start-sound, in_bag, OneKernel}
use Rattle.dm_law_moves.proofs.Names.{notes_always_agree, count, AnsweredAlways, asks_move}
use Rattle.dm_law_moves.specs.Asked.{answers_move}
use Rattle.dm_law_moves.proofs.At.Always.{at_rest_always}
use Rattle.dm_law_moves.proofs.Open.Moves.{leads_of, run_after}
use Rattle.dm_law_moves.proofs.Asked.Following.{asked_by, answered_by, of_labels, one_for, run_counts, Counted}

-- lines, by their labels
line_asked : (i : MsgId) (l : Line) (ks : List Label) → of_labels (asked_by i) (with_label (label_of l) ks) ≡ one_for (asks_move i l) + of_labels (asked_by i) ks
line_asked i (Line.Label (Label.Asked j)) ks = refl
line_asked i (Line.Label l) ks = refl
line_asked i _ ks = omega arith

line_answered : (i : MsgId) (l : Line) (ks : List Label) → of_labels (answered_by i) (with_label (label_of l) ks) ≡ one_for (answers_move i l) + of_labels (answered_by i) ks
line_answered i (Line.Label (Label.Answered j o)) ks = refl
line_answered i (Line.Label l) ks = refl
line_answered i _ ks = omega arith

lines_asked : (i : MsgId) (ls : List Line) → of_labels (asked_by i) (labels ls) ≡ count (asks_move i) ls
lines_asked i [] = refl
lines_asked i (l ∷ ls) = line_asked i l (labels ls) ∙ ap (λ (n : ℕ). one_for (asks_move i l) + n) (lines_asked i ls)

lines_answered : (i : MsgId) (ls : List Line) → of_labels (answered_by i) (labels ls) ≡ count (answers_move i) ls
lines_answered i [] = refl
lines_answered i (l ∷ ls) = line_answered i l (labels ls) ∙ ap (λ (n : ℕ). one_for (answers_move i l) + n) (lines_answered i ls)

none_noted : (o : Option Pid) → ((p : Pid) → o ≡ Some p → ⊥) → in_bag o ≡ 0
none_noted None h = refl
none_noted (Some p) h = absurd (h p refl)

-- wherever the rule leads
pub answered_always : AnsweredAlways
answered_always b es ls pt i valid leads =
    let counted_start : (i : MsgId) (s : OneKernel) → s.bag i ≡ None → s.noted i ≡ None → Counted i (λ j. 0) s 0 0 =
    λ i s none free. let x : in_bag (s.bag i) ≡ 0 = ap in_bag none in let y : in_bag (s.noted i) ≡ 0 = ap in_bag free in record { once = omega (arith, x); sum = omega (arith, y) } in
    let replayed = after_replay ls (first_point b) pt (run_after b es ls (first_point b) pt leads) in
    let c = run_counts i (labels ls) (λ j. 0) (λ j. 0) (start b) pt.kernel 0 0 replayed (start-sound b valid) (counted_start i (start b) refl refl) in
    let once = c.once in
    let sum = c.sum in
    let a = lines_asked i ls in
    let d = lines_answered i ls in
    record {
      once = omega (arith, once, a);
      few = omega (arith, sum, a, d);
      all = λ quiet.
          let rest = at_rest_always b es pt valid (leads_of b es ls (first_point b) pt leads) quiet in
          let agree = notes_always_agree b (labels ls) pt.kernel valid replayed in
          let none : in_bag (pt.kernel.noted i) ≡ 0 = none_noted (pt.kernel.noted i) (λ p noted. (
          let (n, notes, name) = agree.follows i p noted in
          let f : None ≡ Some n = sym (rest.unasked p) ∙ notes in cc)) in
          omega (arith, sum, a, d, none);
    }
