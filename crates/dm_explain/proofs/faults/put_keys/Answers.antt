use Rattle.dm_explain.proofs.Names.{◌≡◌, ◌+◌, ◌<◌, ◌++◌, List, ℕ, ap, append_assoc, codes, drop, get_or, keys_text, length, map, sym, ◌∙◌, wish_of}
use Rattle.dm_explain.proofs.Pieces.{get_or_same, mapped-end, mapped-more}
use Rattle.dm_explain.specs.declared.wanted.Key.{Key}
use Rattle.dm_explain.proofs.faults.put_keys.Goals as goal

-- a key behind a space
keys-more : (done mid after : List ℕ) (ks : List Key) (i : ℕ) (d : Key) → i < length ks → mid ≡ done ++ codes " " → after ≡ mid ++ (get_or ks i d).name.now → after ++ keys_text (map wish_of (drop (i + 1) ks)) ≡ done ++ keys_text (map wish_of (drop i ks))
keys-more done mid after ks i d within first second =
    let rest = keys_text (map wish_of (drop (i + 1) ks)) in
    let name = (get_or ks i d).name.now in
    ap (λ (t : List ℕ). t ++ rest) (second ∙ ap (λ (t : List ℕ). t ++ name) first ∙ append_assoc done (codes " ") name)
    ∙ sym (mapped-more (λ w. codes " " ++ w.key) wish_of done ks i (get_or ks i d) within (get_or_same ks i d (get_or ks i d) within))

pub loop-key-preserved : goal.loop-key-preserved
loop-key-preserved c = keys-more c.loop-key.into.items _ _ c.args.keys.now c.loop-key.key-index _ c.loop-key-test.true c.in_ok-put.ensures c.in_ok-put-2.ensures ∙ c.loop-key.invariant

pub returns : goal.returns
returns c = sym (mapped-end (λ w. codes " " ++ w.key) wish_of c.loop-key.into.items c.args.keys.now c.loop-key.key-index c.loop-key-test.false) ∙ c.loop-key.invariant
