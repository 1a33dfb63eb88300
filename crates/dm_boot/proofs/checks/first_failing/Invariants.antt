use Rattle.dm_boot.proofs.Imports.{◌≡◌, drop, items_view, view, first_failing, keeps, rule_of}
use Rattle.dm_boot.proofs.checks.first_failing.Given as goal

abbrev pub invariant-loop-i : goal.invariant-loop-i
invariant-loop-i l =
    first_failing (keeps (rule_of l.rule) (view l.document.top.now)) l.i (items_view (drop l.i l.elements)) ≡ first_failing (keeps (rule_of l.rule) (view l.document.top.now)) 0 (items_view l.elements)
