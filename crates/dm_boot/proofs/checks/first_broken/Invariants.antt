use Rattle.dm_boot.proofs.Imports.{◌≡◌, drop, map, view, first_broken, rule_of}
use Rattle.dm_boot.proofs.checks.first_broken.Given as goal

abbrev pub invariant-loop-rule : goal.invariant-loop-rule
invariant-loop-rule l = first_broken (map rule_of (drop l.rule-index l.rules)) (view l.document.top.now) ≡ first_broken (map rule_of l.rules) (view l.document.top.now)
