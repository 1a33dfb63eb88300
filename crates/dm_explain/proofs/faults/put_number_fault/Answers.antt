use Rattle.dm_explain.proofs.Names.{◌≡◌, ◌++◌, List, ℕ, false, true, map, rules, sym, subst, ◌∙◌, concat, OnOk, view, is_within, limit_told, number_fault, part_text, Limit, limit_of}
use Rattle.dm_explain.proofs.Loops.{bad-here-copied, bad-more-copied}
use Rattle.dm_explain.proofs.faults.put_number_fault.Goals as goal

pub returns-then-not-is_within : goal.returns-then-not-is_within
unfolding number_fault
returns-then-not-is_within c =
    let fails : c.is_within.result ≡ false = search rules in
    subst (λ (t : List ℕ). OnOk c.put_limit.result (c.put_limit.new.into.items ≡ c.args.into.now.items ++ t))
    (sym (bad-here-copied limit_of (λ (l : Limit). is_within l (view c.args.table.now)) (λ (l : Limit). limit_told l (view c.args.table.now)) (concat (map part_text c.args.other.now)) c.args.ranges.now c.loop-range.range-index _ c.loop-range-test.true (sym c.is_within.ensures ∙ fails)) ∙ c.loop-range.invariant.same)
    (rw c.loop-range.invariant.unwritten at c.put_limit.ensures)

pub loop-range-preserved : goal.loop-range-preserved
unfolding number_fault
loop-range-preserved c =
    let passes : c.is_within.result ≡ true = search rules in
    record {
      same = sym (bad-more-copied limit_of (λ (l : Limit). is_within l (view c.args.table.now)) (λ (l : Limit). limit_told l (view c.args.table.now)) (concat (map part_text c.args.other.now)) c.args.ranges.now c.loop-range.range-index _ c.loop-range-test.true (sym c.is_within.ensures ∙ passes)) ∙ c.loop-range.invariant.same;
      unwritten = c.loop-range.invariant.unwritten;
    }
