use Rattle.dm_explain.proofs.Names.{◌≡◌, ◌++◌, List, ℕ, false, true, map, rules, sym, subst, ◌∙◌, concat, OnOk, view, is_met, part_text, wish_fault, wish_told, Wish, wish_of}
use Rattle.dm_explain.proofs.Loops.{bad-here-copied, bad-more-copied}
use Rattle.dm_explain.proofs.faults.put_wish_fault.Goals as goal

pub returns-then-not-is_met : goal.returns-then-not-is_met
unfolding wish_fault
returns-then-not-is_met c =
    let fails : c.is_met.result ≡ false = search rules in
    subst (λ (t : List ℕ). OnOk c.put_wish.result (c.put_wish.new.into.items ≡ c.args.into.now.items ++ t))
    (sym (bad-here-copied wish_of (λ (w : Wish). is_met w (view c.args.table.now)) (λ (w : Wish). wish_told w (view c.args.table.now)) (concat (map part_text c.args.other.now)) c.args.keys.now c.loop-key.key-index _ c.loop-key-test.true (sym c.is_met.ensures ∙ fails)) ∙ c.loop-key.invariant.same)
    (rw c.loop-key.invariant.unwritten at c.put_wish.ensures)

pub loop-key-preserved : goal.loop-key-preserved
unfolding wish_fault
loop-key-preserved c =
    let passes : c.is_met.result ≡ true = search rules in
    record {
      same = sym (bad-more-copied wish_of (λ (w : Wish). is_met w (view c.args.table.now)) (λ (w : Wish). wish_told w (view c.args.table.now)) (concat (map part_text c.args.other.now)) c.args.keys.now c.loop-key.key-index _ c.loop-key-test.true (sym c.is_met.ensures ∙ passes)) ∙ c.loop-key.invariant.same;
      unwritten = c.loop-key.invariant.unwritten;
    }
