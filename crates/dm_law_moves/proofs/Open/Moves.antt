-- The open mark among the lines of a run says in what phase a process is.
use Rattle.dm_law_moves.proofs.Names.{◌≡◌, List, [], ◌∷◌, refl, ap, ◌∙◌, subst, Option, None, Some, Pid, Boot, Step, Line, Leads, Phase, Point, first_point, after, first_view, Phased, phased_start, phased_group, LeadsBy, Mark, marks}
use Rattle.dm_law_moves.proofs.Names.{left_open, open_mark, mark_while, OpenMoves, nat_tests, arith, rooted}
use Rattle.dm_law_moves.proofs.After.{after-append, group_after}
use Rattle.dm_law_moves.proofs.Stages.Spares.{mark_in, open_after, open-append, marks-append}
use Rattle.dm_law_moves.proofs.Stages.Always.{group_marked}
pub use Rattle.dm_law_moves.proofs.Stages.Always.{not_due as none_due}
use Rattle.dm_law_moves.proofs.Stages.Waits.{group_waits}

-- the lines of a run lead where the run leads
pub leads_of : (b : Boot) (es : List Step) (ls : List Line) (pt end : Point) → LeadsBy b pt es ls end → Leads b pt es end
leads_of b [] ls pt end (none, at) = at
leads_of b (d ∷ ds) ls pt end (w, rest, fit, is, split, more) = (w, fit, is, leads_of b ds rest w.point end more)

pub run_after : (b : Boot) (es : List Step) (ls : List Line) (pt end : Point) → LeadsBy b pt es ls end → after pt ls ≡ Some end
run_after b [] ls pt end (none, at) = ap (after pt) none ∙ ap Some at
run_after b (d ∷ ds) ls pt end (w, rest, fit, is, split, more) =
    ap (after pt) split ∙ after-append w.lines rest pt w.point end (group_after b pt d w is) (run_after b ds rest w.point end more)

-- the words of specs/ and those of proofs/ are the same
pub open_is : (o : Option Mark) (ms : List Mark) → open_mark o ms ≡ open_after o ms
open_is o [] = refl
open_is o (m ∷ ms) = open_is (left_open m) ms

-- between groups no message is due

-- where a run has come, with this open mark
pub record Opened (end : Point) (p : Pid) (o : Option Mark) : Type 0 where
  pub phased : Phased end
  pub is : o ≡ mark_in (phased.phases.of p)

pub run_open : (b : Boot) (es : List Step) (ls : List Line) (pt end : Point) (p : Pid) → LeadsBy b pt es ls end → (h : Phased pt) → Opened end p (open_after (mark_in (h.phases.of p)) (marks p ls))
run_open b [] ls pt end p (none, at) h =
    subst (λ (x : Point). Opened x p (open_after (mark_in (h.phases.of p)) (marks p ls))) at
    (record { phased = h; is = ap (λ (xs : List Line). open_after (mark_in (h.phases.of p)) (marks p xs)) none })
run_open b (d ∷ ds) ls pt end p (w, rest, fit, is, split, more) h =
    let k = phased_group b pt d w fit is h in
    let o = mark_in (h.phases.of p) in
    let g = group_marked b pt d w is h p (h.phases.of p) (k.phases.of p) (h.phases.each p) (k.phases.each p) (none_due pt.view h.phases p) (none_due w.point.view k.phases p)
    (group_waits b pt d w p (h.phases.of p) h (rooted pt h.sane h.ground) (h.phases.each p) (none_due pt.view h.phases p) is) in
    let later = run_open b ds rest w.point end p more k in
    record {
      phased = later.phased;
      is = grind (arith, nat_tests, marks-append, open-append);
    }

-- nothing is told of before the first line

-- wherever the rule leads
pub open_moves : OpenMoves
open_moves b es ls pt p valid leads =
    let mark_is : (phase : Phase) → mark_in phase ≡ mark_while phase = λ phase. grind (arith, nat_tests) in
    let h = phased_start b valid in
    let none : mark_in (h.phases.of p) ≡ None = grind (arith, nat_tests, (h.phases.each p), (none_due (first_view b) h.phases p)) in
    let o = run_open b es ls (first_point b) pt p leads h in
    search (arith, o.phased.phases.of, o.phased.phases.each, none_due, pt.view, o.phased.phases, open_is, o.is, mark_is)
