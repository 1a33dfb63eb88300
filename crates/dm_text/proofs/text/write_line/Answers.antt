use Rattle.std.specs.Prelude.{OnOk}
use Rattle.dm_text.proofs.Names.{◌≡◌, ◌++◌, ap, subst, ◌∙◌, text, text_of_lines}
use Rattle.dm_text.proofs.Lines.{lines-one}
use Rattle.dm_text.proofs.text.write_line.Goals as goal

pub returns-clause-written : goal.returns-clause-written
returns-clause-written c =
    let e : text_of_lines c.from_ref.result.now ≡ text c.args.line.now = ap (λ ls. text_of_lines ls) c.from_ref.ensures.value ∙ lines-one c.args.line.now in
    subst (λ t. OnOk c.write_lines.result (c.write_lines.new.into.items ≡ c.args.into.now.items ++ t)) e c.write_lines.ensures.written
