use Rattle.dm_words.proofs.Names.{◌≡◌, List, ℕ, map, sym, ◌∙◌, subst, None, Err, app_of, fault_of, ArgMatches, MatchesError, FailsBy, request_of}
use Rattle.dm_words.proofs.CommandWords.{not_taken, refused, taken}
use Rattle.dm_words.proofs.Given.{only_refused}
use Rattle.dm_words.proofs.words.read_by.Goals as goal

pub returns-in-Some-clause-asks : goal.returns-in-Some-clause-asks
returns-in-Some-clause-asks c =
    let words : List (List ℕ) = map (λ w. w.now) c.args.words.now in
    let parse = c.in-Ok in
    taken (app_of c.args.command) words parse.matches c.requires parse.ensures.fails parse.ensures.matches ∙ sym c.in-Some.ensures.asked

pub returns-in-Ok-clause-usage : goal.returns-in-Ok-clause-usage
returns-in-Ok-clause-usage c = λ usage.
    let words : List (List ℕ) = map (λ w. w.now) c.args.words.now in
    let parse = c.in-Ok in
    taken (app_of c.args.command) words parse.matches c.requires parse.ensures.fails parse.ensures.matches ∙ sym c.in-None.ensures.asked

pub returns-in-Ok-clause-refused : goal.returns-in-Ok-clause-refused
returns-in-Ok-clause-refused c = λ usage is_taken.
    let words : List (List ℕ) = map (λ w. w.now) c.args.words.now in
    let parse = c.in-Ok in
    let none : request_of words ≡ None = taken (app_of c.args.command) words parse.matches c.requires parse.ensures.fails parse.ensures.matches ∙ sym c.in-None.ensures.asked in
    only_refused words none is_taken

pub returns-in-Err-Refused-clause-refused : goal.returns-in-Err-Refused-clause-refused
returns-in-Err-Refused-clause-refused c = λ usage is_taken.
    let words : List (List ℕ) = map (λ w. w.now) c.args.words.now in
    not_taken (app_of c.args.command) words c.requires
    (λ simple. subst (λ (n : MatchesError). FailsBy {A = ArgMatches} (fault_of (app_of c.args.command) words) (Err n)) c.in-Err-Refused.field-0-is (c.in-Err-Refused.ensures.fails simple)) is_taken.passes

pub returns-in-Err-Refused-clause-usage : goal.returns-in-Err-Refused-clause-usage
returns-in-Err-Refused-clause-usage c = λ usage.
    let words : List (List ℕ) = map (λ w. w.now) c.args.words.now in
    refused (app_of c.args.command) words c.requires
    (λ simple. subst (λ (n : MatchesError). FailsBy {A = ArgMatches} (fault_of (app_of c.args.command) words) (Err n)) c.in-Err-Refused.field-0-is (c.in-Err-Refused.ensures.fails simple))
