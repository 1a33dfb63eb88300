use Rattle.std.specs.Prelude.{OnOk}
use Rattle.dm_judge.proofs.Names.{◌≡◌, ◌++◌, ◌∙◌, List, ℕ, ap, subst, codes, pair_told, worn_told}
use Rattle.dm_judge.proofs.Pieces.{three}
use Rattle.dm_judge.proofs.report.put_worn.Goals as goal

pub returns : goal.returns
unfolding worn_told
returns c =
    let old : List ℕ = c.args.into.now.items in
    let pair : List ℕ = pair_told c.args.from c.args.to in
    let so_far : c.put_pair.new.into.items ≡ (old ++ codes "no group, the pair ") ++ pair = c.in_ok-put_pair.ensures ∙ ap (λ (t : List ℕ). t ++ pair) c.in_ok-put.ensures in
    subst (λ (t : List ℕ). OnOk c.put-2.result (c.put-2.new.into.items ≡ t)) (ap (λ (t : List ℕ). t ++ codes " is worn\n") so_far ∙ three old (codes "no group, the pair ") pair (codes " is worn\n")) c.put-2.ensures
