-- What is said before the line of a status, of the words that the program was given and of the files that they name.
use Rattle.std.specs.Prelude.{◌≡◌, List, [], ℕ, Vec, String, map, string_bytes}
use Rattle.std.specs.declared.alloc.Global.{Global}
use Rattle.std.specs.declared.option.Option.{Option}
use Rattle.std.specs.declared.result.Result.{Result}
use Rattle.std.specs.declared.result.Result.TheVariants.{Ok, Err}
use Rattle.dm_ending.specs.declared.status.Status.{Status}
use Rattle.dm_words.specs.declared.words.WordsError.{WordsError}
use Rattle.dm_words.specs.declared.words.WordsError.TheVariants as why
use Rattle.dm_words.specs.Said.{no_pieces, said_pieces, unread_pieces}
use Rattle.dm_words.specs.Words.{request_of}
use Rattle.dm_program.specs.Commands.{promised}
use Rattle.dm_program.specs.Rule.{of_rule}

-- with none: where a word isn't Unicode that is said
abbrev pub none_pieces : WordsError → List (List ℕ)
none_pieces why.Usage = unread_pieces
none_pieces (why.NoMemory lack) = no_pieces

-- with the words, or with none
abbrev pub given_pieces : Result (Vec (String Global) Global) WordsError → Status → List (List ℕ)
given_pieces (Ok words) s = said_pieces (map string_bytes words.items) s
given_pieces (Err reason) s = none_pieces reason

-- and behind that of a file that is refused
abbrev pub GivenFirst : Result (Vec (String Global) Global) WordsError → Option (List ℕ → Option (List ℕ)) → Status → List ℕ → Type 0
GivenFirst (Ok words) files s said = (promised of_rule (request_of (map string_bytes words.items))).first files s said
GivenFirst (Err reason) files s said = said ≡ []
