use Rattle.dm_explain.proofs.Names.{◌≡◌, drop, map, concat, view, number_fault, part_text, limit_of}
use Rattle.dm_explain.proofs.faults.put_number_fault.Given as goal

abbrev pub invariant-loop-range : goal.invariant-loop-range
invariant-loop-range l = record {
  same : number_fault (map limit_of (drop l.range-index l.ranges)) (concat (map part_text l.other)) (view l.table) ≡ number_fault (map limit_of l.ranges) (concat (map part_text l.other)) (view l.table);
  unwritten : l.into.items ≡ l.initial.into.items;
}
