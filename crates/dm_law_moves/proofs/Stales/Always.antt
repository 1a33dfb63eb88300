-- Of each migration that was called off one piece comes too late, once all is at rest, and never more.
use Rattle.dm_law_moves.proofs.Names.{◌≡◌, ℕ, ◌+◌, ◌≤◌, ◌&&◌, Bool, true, false, List, [], ◌∷◌, length, refl, ap, ◌∙◌, sym, subst, arith, nat_tests, if◌then◌else◌, None, Some, Pid, MsgId, MessageKind, Boot, IsValid, Step, Line, View, Point}
use Rattle.dm_law_moves.proofs.Names.{first_point, IsQuiet, LeadsBy, Both, both_start, both_group, run_start, run_group, Phase, Moves, is_due, IsIn, told_between, times, count, marks, false≢true, pid_eq-same, StalesAlways, stales, is_about}
use Rattle.dm_law_moves.proofs.Stages.Spares.{is_piece, mark_in, mark_of, open_after}
use Rattle.dm_law_moves.proofs.Stages.Always.{marked_always, not_due}
use Rattle.dm_law_moves.proofs.Ends.Parts.{Extends, count-append}
use Rattle.dm_law_moves.proofs.Ends.Open.{Opens, IsOpen}
use Rattle.dm_law_moves.proofs.Ends.Sources.{Sources, group_acts}
use Rattle.dm_law_moves.proofs.Ends.Always.{empty_by, quiet_own, step_for}
use Rattle.dm_law_moves.proofs.Stales.Weighs.{weight, takes_on, takes_all, lines_weigh}
use Rattle.dm_law_moves.proofs.Stales.Pieces.{piece_for, piece_between}
use Rattle.dm_law_moves.proofs.Stales.Groups.{group_flows}
use Rattle.dm_law_moves.proofs.At.RestPairs.{within_run}

-- what comes of a run
record Ran (p : Pid) (b : Boot) (pt end : Point) (ls : List Line) (n : ℕ) : Type 0 where
  both : Both b end
  grows : Extends pt.view.told end.view.told
  sources : Sources (length b.machines) end.view
  left : List MsgId
  opens : Opens (piece_for p) end.view left
  sum : count (takes_on p) ls + n ≡ count (takes_all p) ls + (count (stales end.view.told p) ls + length left)

none_ran : (p : Pid) (b : Boot) (pt : Point) (ls : List Line) (ids : List MsgId) → Both b pt → Sources (length b.machines) pt.view → Opens (piece_for p) pt.view ids → ls ≡ [] → Ran p b pt pt ls (length ids)
none_ran p b pt ls ids h sources opens none = record {
  both = h;
  grows = λ i t e. e;
  sources = sources;
  left = ids;
  opens = opens;
  sum = (let x : count (takes_on p) ls ≡ 0 = ap (count (takes_on p)) none in let y : count (takes_all p) ls ≡ 0 = ap (count (takes_all p)) none in let z : count (stales pt.view.told p) ls ≡ 0 = ap (count (stales pt.view.told p)) none in omega (arith, x, y, z));
}

ran : (p : Pid) (b : Boot) (es : List Step) (pt end : Point) (ls : List Line) (ids : List MsgId) → IsValid b → Both b pt → Sources (length b.machines) pt.view → Opens (piece_for p) pt.view ids → LeadsBy b pt es ls end → Ran p b pt end ls (length ids)
ran p b [] pt end ls ids valid h sources opens (none, at) = subst (λ (x : Point). Ran p b pt x ls (length ids)) at (none_ran p b pt ls ids h sources opens none)
ran p b (d ∷ ds) pt end ls ids valid h sources opens (w, rest, fit, is, split, more) =
    let based = h.run.based in
    let next : Both b w.point = both_group run_group b pt d w valid fit is h in
    let acts = group_acts (length b.machines) b pt d w (step_for b pt d h fit) (within_run b pt h.run) is sources in
    let g = group_flows p b pt d w ids based.phased based.known is opens in
    let r = ran p b ds w.point end rest g.left valid next acts.sources g.opens more in
    record {
      both = r.both;
      grows = λ i t e. r.grows i t (acts.grows i t e);
      sources = r.sources;
      left = r.left;
      opens = r.opens;
      sum = (
          let f = end.view.told in
          let s = g.sum f (λ i t e. r.grows i t e) in
          let z = r.sum in
          let x : count (takes_on p) ls ≡ count (takes_on p) w.lines + count (takes_on p) rest = ap (count (takes_on p)) split ∙ count-append (takes_on p) w.lines rest in
          let y : count (takes_all p) ls ≡ count (takes_all p) w.lines + count (takes_all p) rest = ap (count (takes_all p)) split ∙ count-append (takes_all p) w.lines rest in
          let c : count (stales f p) ls ≡ count (stales f p) w.lines + count (stales f p) rest = ap (count (stales f p)) split ∙ count-append (stales f p) w.lines rest in
          omega (arith, s, z, x, y, c));
    }

-- where pieces are under way, the phase's message is one
weight_piece : (k : MessageKind) → weight (mark_of k) ≡ (if is_piece k then 1 else 0)
weight_piece k = grind (arith, nat_tests)

listed_some : (i : MsgId) (ids : List MsgId) → times i ids ≡ 1 → 1 ≤ length ids
listed_some i [] one = omega (arith, one)
listed_some i (j ∷ js) one = omega arith

weight_listed : (p : Pid) (v : View) (x : Phase) (ids : List MsgId) → IsIn v p x → is_due x ≡ false → Opens (piece_for p) v ids → weight (mark_in x) ≤ length ids
weight_listed p v (Moves k s d None) ids h due opens = absurd (false≢true (sym due))
weight_listed p v (Moves k s d (Some i)) ids h due opens = by_piece (is_piece k) refl
  where
    by_piece : (c : Bool) → is_piece k ≡ c → weight (mark_of k) ≤ length ids
    by_piece true piece =
        let t = told_between p k s d in
        let mine : piece_for p t ≡ true = ap (λ (c : Bool). c && is_about p t.about) piece ∙ pid_eq-same p in
        let one : times i ids ≡ 1 = opens.all i (record { told = t; is = h.token.told; picked = mine; stands = (h.token.spot, h.token.stands) }) in
        let most = listed_some i ids one in
        let is = weight_piece k ∙ ap (λ (c : Bool). if c then 1 else 0) piece in
        omega (arith, most, is)
    by_piece false plain = let is = weight_piece k ∙ ap (λ (c : Bool). if c then 1 else 0) plain in omega (arith, is)
weight_listed p v _ ids h due opens = omega arith

pub stales_always : StalesAlways
stales_always b es ls pt p valid leads =
    let h = both_start run_start b valid in
    let none_stands : (i : MsgId) → IsOpen (piece_for p) (first_point b).view i → ⊥ = λ i k. (let f : None ≡ Some k.told = k.is in cc) in
    let first : Opens (piece_for p) (first_point b).view [] = record { each = λ i least. absurd (omega (arith, least)); all = λ i k. absurd (none_stands i k) } in
    let r = ran p b es (first_point b) pt ls [] valid h (λ x y le. refl) first leads in
    let m = marked_always b es ls pt p valid leads in
    let weighs = lines_weigh p ls m.order in
    let same : weight (open_after None (marks p ls)) ≡ weight (mark_in (m.phased.phases.of p)) = ap weight m.last in
    let listed = weight_listed p pt.view (m.phased.phases.of p) r.left (m.phased.phases.each p) (not_due pt.view m.phased.phases p) r.opens in
    let sum = r.sum in
    record {
      few = omega (arith, weighs, same, listed, sum);
      all = λ quiet.
          let n = length b.machines in
          let is = r.both.run.based.machines in
          let still : IsQuiet n pt.view = subst (λ (k : ℕ). IsQuiet k pt.view) is quiet in
          let none_open : (i : MsgId) → IsOpen (piece_for p) pt.view i → ⊥ = λ i k.
          let (z, st) = k.stands in
          quiet_own b pt r.both.run n is still r.sources i k.told k.is (r.both.run.based.phased.sane.tells.own i k.told k.is (piece_between p k.told k.picked)) z st in
          let none = empty_by (piece_for p) pt.view r.left none_open r.opens in
          omega (arith, weighs, same, listed, sum, none);
    }
