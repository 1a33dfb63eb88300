use Rattle.dm_chart.proofs.Names.{◌+◌, ap, drop, sym, ◌∙◌, Option, Letter, Role, letter_last, news_from, news_here, puts_it}
use Rattle.dm_chart.proofs.Walks.{news-here, news-more}
use Rattle.dm_chart.proofs.scan.news_of.Goals as goal

pub returns-then-puts_it : goal.returns-then-puts_it
returns-then-puts_it c =
    c.news_here.ensures
    ∙ (ap (λ (r : Role). news_here r c.loop-line.last) c.role_of-role.ensures
    ∙ (sym (news-here c.args.id c.loop-line.last _ _ _ c.loop-line-test.true (sym (c.puts_it.ensures ∙ ap (puts_it c.args.id) c.role_of-role.ensures) ∙ c.if-puts_it.true))
    ∙ c.loop-line.invariant))

pub loop-line-preserved : goal.loop-line-preserved
loop-line-preserved c =
    ap (λ (t : Option Letter). news_from c.args.id t (drop (c.loop-line.line-index + 1) c.args.lines.now)) (c.letter_last-last.ensures ∙ ap (letter_last c.loop-line.last) c.role_of-role.ensures)
    ∙ (sym (news-more c.args.id c.loop-line.last _ _ _ c.loop-line-test.true (sym (c.puts_it.ensures ∙ ap (puts_it c.args.id) c.role_of-role.ensures) ∙ c.if-puts_it.false))
    ∙ c.loop-line.invariant)
