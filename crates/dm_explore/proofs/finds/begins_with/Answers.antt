use Rattle.std.proofs.Common.{◌≡◌, ◌++◌, sym, ap, ◌∙◌}
use Rattle.std.specs.declared.option.Option.TheVariants.{None, Some}
use Rattle.std.proofs.lemmas.Bool.Decides.{Decides-eqb}
use Rattle.std.proofs.lemmas.Slice.Eq.{strip_prefix_is}
use Rattle.dm_explore.specs.Finds.{begins_with}
use Rattle.dm_explore.proofs.Beginnings.{begins_after, begins_not}
use Rattle.dm_explore.proofs.finds.begins_with.Goals as goal

pub returns-in-Some : goal.returns-in-Some
returns-in-Some c =
    let parts : c.args.text.now ≡ c.args.words.now ++ c.in-Some.rest.now = strip_prefix_is Decides-eqb c.args.text.now c.args.words.now (Some c.in-Some.rest) c.in-Some.ensures.cases in
    c.ends_word.ensures ∙ (sym (begins_after c.args.words.now c.in-Some.rest.now) ∙ ap (λ text. begins_with text c.args.words.now) (sym parts))

pub returns-in-None : goal.returns-in-None
returns-in-None c = begins_not c.args.text.now c.args.words.now (strip_prefix_is Decides-eqb c.args.text.now c.args.words.now None c.in-None.ensures.cases)
