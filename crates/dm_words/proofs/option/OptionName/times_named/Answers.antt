use Rattle.dm_words.proofs.Names.{rules, ◌≡◌, ◌∙◌, count_by, string_bytes, names}
use Rattle.dm_words.proofs.Usages.{count-map}
use Rattle.dm_words.proofs.option.OptionName.times_named.Goals as goal

pub returns : goal.returns
returns c =
    let found : c.count.result ≡ count_by (λ w. names c.args.self (string_bytes w)) c.args.words.now = search rules in
    found ∙ count-map (names c.args.self) string_bytes c.args.words.now
