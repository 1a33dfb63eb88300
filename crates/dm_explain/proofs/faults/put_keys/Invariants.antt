use Rattle.dm_explain.proofs.Names.{◌≡◌, ◌++◌, drop, map, keys_text, wish_of}
use Rattle.dm_explain.proofs.faults.put_keys.Given as goal

abbrev pub invariant-loop-key : goal.invariant-loop-key
invariant-loop-key l = l.into.items ++ keys_text (map wish_of (drop l.key-index l.keys)) ≡ l.initial.into.items ++ keys_text (map wish_of l.keys)
