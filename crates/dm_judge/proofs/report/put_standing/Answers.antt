use Rattle.std.proofs.Common.{Bor}
use Rattle.std.specs.Prelude.{OnOk}
use Rattle.dm_judge.proofs.Names.{◌≡◌, ◌++◌, ◌==◌, ◌∙◌, List, ℕ, true, false, length, ap, sym, subst, codes, option_map, Option, Some, pieces_of, standing_told, line_told}
use Rattle.dm_judge.proofs.Pieces.{told_empty, told_split}
use Rattle.dm_judge.proofs.report.put_standing.Goals as goal

pub returns-then-is_empty : goal.returns-then-is_empty
returns-then-is_empty c =
    let ends : standing_told (pieces_of (option_map (λ t. t.now) c.args.rest)) ≡ codes "the text ends" =
    ap (λ (o : Option (Bor (List ℕ))). standing_told (pieces_of (option_map (λ t. t.now) o))) c.in-Some.is ∙ told_empty c.in-Some.text.now (sym c.is_empty.ensures ∙ c.if-is_empty.true) in
    subst (λ (t : List ℕ). OnOk c.put-then-is_empty.result (c.put-then-is_empty.new.into.items ≡ c.args.into.now.items ++ t)) (sym ends) c.put-then-is_empty.ensures

pub returns-else-is_empty : goal.returns-else-is_empty
returns-else-is_empty c =
    let told : standing_told (pieces_of (option_map (λ t. t.now) c.args.rest)) ≡ line_told c.split.result.0.now =
    ap (λ (o : Option (Bor (List ℕ))). standing_told (pieces_of (option_map (λ t. t.now) o))) c.in-Some.is
    ∙ told_split c.in-Some.text.now c.split.result.0.now (option_map (λ t. t.now) c.split.result.1) c.split.ensures (sym c.is_empty.ensures ∙ c.if-is_empty.false) in
    subst (λ (t : List ℕ). OnOk c.put_line.result (c.put_line.new.into.items ≡ c.args.into.now.items ++ t)) (sym told) c.put_line.ensures
