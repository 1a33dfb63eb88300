use Rattle.dm_chart.proofs.Names.{◌≡◌, ℕ, ◌+◌, ◌-◌, ◌<◌, Bool, false, true, List, [], ◌∷◌, ◌++◌, Line, Frame, take, Option, ap, arith, drop, get_or, take_rest, length, subst, sym, ◌∙◌}
use Rattle.std.proofs.Common.{◌*◌, ◌≤◌, below_more, length-append}
use Rattle.std.proofs.lemmas.List.{length-replicate, length-take-le, take-take}
use Rattle.std.proofs.Math.ListN.{get_or-append}
use Rattle.std.proofs.Math.Seq.{get_or-append_seam}
use Rattle.dm_chart.specs.declared.frame.Layer.{Layer}
use Rattle.dm_chart.specs.Left.{AreCounts, LeavesNothing, role_left}
use Rattle.dm_chart.proofs.Leaving.{counts_more, each_more, leaving, zeros}
use Rattle.dm_chart.proofs.left.left_of.Goals as goal

pub loop-i-init : goal.loop-i-init
loop-i-init c = record {
  few = ap length c.new-left.ensures;
  long = length-replicate {A = ℕ} 256 0;
  counts = λ a b h i. zeros 256 (16 * a + b);
  each = λ k h. let none = zeros 256 k in omega (arith, none);
  nothing = λ k h e. let none = ap length c.new-left.ensures in absurd (omega (arith, none, h));
}

pub count-requires : goal.count-requires
count-requires c = λ k h. let each = c.loop-i.invariant.each k h in let within = c.loop-i-test.true in let fits = c.hidden_within-hidden.type_inv in let long = length-take-le c.hidden_within-hidden.result c.args.lines.now c.hidden_within-hidden.ensures.within in omega (arith, each, within, fits, long)

-- one more line
more : (left : List Bool) (b : Bool) (i : ℕ) (f : Frame) (all : List Line) → length left ≡ i
    → ((k : ℕ) → k < length left → get_or left k true ≡ false → LeavesNothing f.rows f.hidden (λ (y : Layer). record f { layer = y }) all k)
    → (b ≡ false → LeavesNothing f.rows f.hidden (λ (y : Layer). record f { layer = y }) all i)
    → (k : ℕ) → k < length (left ++ b ∷ []) → get_or (left ++ b ∷ []) k true ≡ false → LeavesNothing f.rows f.hidden (λ (y : Layer). record f { layer = y }) all k
more left b i f all long before here k within =
    let both = length-append left (b ∷ []) in
    below_more (λ (j : ℕ). get_or (left ++ b ∷ []) j true ≡ false → LeavesNothing f.rows f.hidden (λ (y : Layer). record f { layer = y }) all j) i
    (λ j h e. before j (omega (arith, h, long)) (sym (get_or-append left (b ∷ []) true j (omega (arith, h, long))) ∙ e))
    (λ e. here (sym (ap (λ (n : ℕ). get_or (left ++ b ∷ []) n true) (sym long) ∙ get_or-append_seam left b [] true) ∙ e))
    k (omega (arith, within, both, long))

pub loop-i-preserved : goal.loop-i-preserved
loop-i-preserved c =
    let hidden = c.hidden_within-hidden.result in
    let all = c.args.lines.now in
    let i = c.loop-i.i in
    let long = length-take-le hidden all c.hidden_within-hidden.ensures.within in
    let within : i < hidden = let test = c.loop-i-test.true in omega (arith, test, long) in
    let pushed = c.in_ok-push.ensures.ok in
    let both = length-append c.loop-i.left (c.role_left.result ∷ []) in
    let few : length c.push.new.self ≡ i + 1 = let same = ap length pushed in let before = c.loop-i.invariant.few in omega (arith, same, both, before) in
    let before : AreCounts c.loop-i.counts (take i all) = subst (AreCounts c.loop-i.counts) (take-take i hidden all (omega (arith, within))) c.loop-i.invariant.counts in
    let said = rw (take_rest, take_rest) at c.role_left.ensures in
    record {
      few = few;
      long = c.count.array_long;
      counts = subst (λ (cs : List ℕ). AreCounts cs (take (i + 1) (take hidden all))) (sym c.count.ensures) (counts_more c.loop-i.counts c.role_of-role.result (take hidden all) i _ c.loop-i.invariant.long c.loop-i-test.true c.role_of-role.ensures c.loop-i.invariant.counts);
      each = λ k h. subst (λ (cs : List ℕ). get_or cs k 0 ≤ i + 1) (sym c.count.ensures) (each_more c.loop-i.counts c.role_of-role.result i c.loop-i.invariant.long c.loop-i.invariant.each k h);
      nothing =
          subst (λ (ls : List Bool). (k : ℕ) → k < length ls → get_or ls k true ≡ false → LeavesNothing c.args.frame.now.rows c.args.frame.now.hidden (λ (y : Layer). record c.args.frame.now { layer = y }) all k) (sym pushed)
          (more c.loop-i.left c.role_left.result i c.args.frame.now all c.loop-i.invariant.few c.loop-i.invariant.nothing
          (λ e. leaving c.args.frame.now all hidden i c.loop-i.counts c.role_of-role.result _ c.hidden_within-hidden.ensures.within c.hidden_within-hidden.ensures.few within before c.role_of-role.ensures
          (ap (λ (n : Option ℕ). role_left c.args.frame.now n (drop (i + 1) (take hidden all)) (drop (hidden - 1) all) c.role_of-role.result) (sym c.number_in-number.ensures) ∙ sym said ∙ e)));
    }
