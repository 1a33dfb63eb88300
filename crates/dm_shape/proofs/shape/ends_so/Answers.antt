use Rattle.dm_shape.proofs.Imports.{◌&&◌, ap, sym, ◌∙◌, list_all, pieces, ends_so, is_of}
use Rattle.dm_shape.specs.declared.sort.Sort.TheVariants as sort
use Rattle.dm_shape.proofs.Fitting.{behind_some, ends_in_words}
use Rattle.dm_shape.proofs.shape.ends_so.Goals as goal

pub returns-then-lists : goal.returns-then-lists
returns-then-lists c =
    c.are_messages.ensures
    ∙ sym (ap (ends_so c.args.lists) (behind_some 32 c.args.words c.in-Some.text c.in-Some.is) ∙ ends_in_words c.args.lists c.in-Some.text.now
    ∙ ap (λ b. b && list_all (is_of sort.Message) (pieces 32 c.in-Some.text.now)) c.if-lists.true)

pub returns-else-lists : goal.returns-else-lists
returns-else-lists c =
    c.if-lists.false
    ∙ sym (ap (ends_so c.args.lists) (behind_some 32 c.args.words c.in-Some.text c.in-Some.is) ∙ ends_in_words c.args.lists c.in-Some.text.now
    ∙ ap (λ b. b && list_all (is_of sort.Message) (pieces 32 c.in-Some.text.now)) c.if-lists.false)
