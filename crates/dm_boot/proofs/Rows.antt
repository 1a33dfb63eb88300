-- The rules, as a loop goes through them.
use Rattle.dm_boot.proofs.Imports.{◌≡◌, ℕ, ◌+◌, ◌<◌, ◌≤◌, List, ◌∷◌, length, get_or, drop, map, Some, None, ap, drop_more, drop_of_length-le, Data, TableRule, broken_at, first_broken, rule_of}
use Rattle.dm_boot.specs.declared.rules.TableRule.TheVariants.{TopKeys}

-- rule i of these; `TopKeys` stands where there is none
rule_at : (rs : List TableRule) (i : ℕ) → i < length rs → drop i rs ≡ get_or rs i TopKeys ∷ drop (i + 1) rs
rule_at rs i within = drop_more rs i TopKeys within

pub rows-end : (rs : List TableRule) (i : ℕ) (d : Data) → length rs ≤ i → first_broken (map rule_of (drop i rs)) d ≡ None
unfolding first_broken
rows-end rs i d past = ap (λ l. first_broken (map rule_of l) d) (drop_of_length-le rs past)

pub rows-more : (rs : List TableRule) (i : ℕ) (d : Data) → i < length rs → broken_at (rule_of (get_or rs i TopKeys)) d ≡ None
    → first_broken (map rule_of (drop i rs)) d ≡ first_broken (map rule_of (drop (i + 1) rs)) d
unfolding first_broken
rows-more rs i d within kept = rw (rule_at rs i within, kept)

pub rows-here : (rs : List TableRule) (i : ℕ) (d : Data) (p : ℕ) → i < length rs → broken_at (rule_of (get_or rs i TopKeys)) d ≡ Some p
    → first_broken (map rule_of (drop i rs)) d ≡ Some (rule_of (get_or rs i TopKeys), p)
unfolding first_broken
rows-here rs i d p within broken = rw (rule_at rs i within, broken)

pub ruleset row_lemmas = (rows-end, rows-more, rows-here)
