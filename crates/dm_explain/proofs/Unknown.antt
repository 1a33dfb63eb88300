-- The first key of a table that isn't among some, as the code goes through them.
use Rattle.dm_explain.proofs.Names.{◌≡◌, ℕ, Bool, if◌then◌else◌, List, [], ◌∷◌, refl, true, false, Value, first_unknown}
use Rattle.dm_boot.proofs.Imports.{String, string_bytes, Global, keys_of, members_view}
use Rattle.std.specs.List.{find}
use Rattle.std.specs.Prelude.{not, option_map}
use Rattle.std.specs.declared.option.Option.{Option}
use Rattle.std.specs.declared.option.Option.TheVariants.{Some}
use Rattle.dm_boot.specs.Tables.{is_known}

by_test : (b : Bool) (k : String Global) (more : Option (List ℕ)) (found : Option (String Global)) → more ≡ option_map string_bytes found → (if b then more else Some (string_bytes k)) ≡ option_map string_bytes (if not b then Some k else found)
by_test true k more found same = same
by_test false k more found same = refl

pub unknown-keys : (names : List (List ℕ)) (es : List (String Global × Value)) → first_unknown names (members_view es) ≡ option_map string_bytes (find (λ k. not (is_known names (string_bytes k))) (keys_of es))
unfolding first_unknown
unknown-keys names [] = refl
unknown-keys names (e ∷ es) = by_test (is_known names (string_bytes e.0)) e.0 (first_unknown names (members_view es)) (find (λ k. not (is_known names (string_bytes k))) (keys_of es)) (unknown-keys names es)

pub ruleset unknown_lemmas = (unknown-keys)
