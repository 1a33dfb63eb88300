use Rattle.dm_explain.proofs.Names.{◌≡◌, drop, map, concat, view, part_text, wish_fault, wish_of}
use Rattle.dm_explain.proofs.faults.put_wish_fault.Given as goal

abbrev pub invariant-loop-key : goal.invariant-loop-key
invariant-loop-key l = record {
  same : wish_fault (map wish_of (drop l.key-index l.keys)) (concat (map part_text l.other)) (view l.table) ≡ wish_fault (map wish_of l.keys) (concat (map part_text l.other)) (view l.table);
  unwritten : l.into.items ≡ l.initial.into.items;
}
