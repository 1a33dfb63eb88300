use Rattle.dm_words.proofs.Names.{◌≡◌, true, ap, ◌∙◌, codes, app_of, new_app, app_of_fields, on_top}
use Rattle.dm_words.proofs.words.bare.Goals as goal

pub returns : goal.returns
returns c =
    let quiet : app_of c.disable_help_subcommand.result ≡ on_top (λ s. record s { disable_help_subcommand = true }) (new_app (codes "demosmp")) = ap app_of_fields c.disable_help_subcommand.ensures ∙ ap (on_top (λ s. record s { disable_help_subcommand = true })) c.new.ensures.app in
    ap app_of_fields c.subcommand_required.ensures ∙ ap (on_top (λ s. record s { subcommand_required = true })) quiet
