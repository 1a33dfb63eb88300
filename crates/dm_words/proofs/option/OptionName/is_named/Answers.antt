use Rattle.dm_words.proofs.Names.{rules, tests, ◌≡◌, ◌∙◌, YieldsList-from_slice, any_from_yields_List, list_any, string_bytes, is_named, names}
use Rattle.dm_words.proofs.Usages.{any-map}
use Rattle.dm_words.proofs.option.OptionName.is_named.Goals as goal

pub returns : goal.returns
unfolding is_named
returns c =
    let found : c.any.result ≡ list_any (λ w. names c.args.self (string_bytes w)) c.args.words.now =
    any_from_yields_List (λ w. names c.args.self (string_bytes w)) _ _ c.any.result c.any.ensures.ran (YieldsList-from_slice c.args.words.now cc) (λ x b q k. search (rules, tests)) in
    found ∙ any-map (names c.args.self) string_bytes c.args.words.now
