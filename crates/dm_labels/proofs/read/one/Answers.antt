use Rattle.std.specs.Prelude.{ℕ, List, ◌∷◌, option_map}
use Rattle.std.proofs.Common.{Bor, ap, sym, ◌∙◌}
use Rattle.std.specs.declared.option.Option.{Option}
use Rattle.dm_reading.specs.Cuts.{behind}
use Rattle.dm_labels.specs.Labels.{just_one}
use Rattle.dm_labels.proofs.Words.{not_alone}
use Rattle.dm_labels.proofs.read.one.Goals as goal

abbrev behind_text : Option (Bor (List ℕ)) → List (List ℕ)
behind_text o = behind 32 (option_map (λ (t : Bor (List ℕ)). t.now) o)

pub returns-in-Some : goal.returns-in-Some
returns-in-Some c =
    sym (
    ap (λ (o : Option (Bor (List ℕ))). just_one (behind_text o)) c.in_ok-rest.was
    ∙ ap just_one c.split.ensures
    ∙ ap (λ (o : Option (Bor (List ℕ))). just_one (c.split.result.0.now ∷ behind_text o)) c.in-Some.is
    ∙ not_alone c.split.result.0.now c.in-Some.field-0.now
    )
