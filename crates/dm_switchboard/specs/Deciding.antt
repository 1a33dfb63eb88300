-- What a request comes to, before a new name is kept.
use Rattle.std.specs.Prelude.{◌≡◌, ℕ, List, [], ◌∷◌, ◌++◌}
use Rattle.std.specs.declared.option.Option.{Option}
use Rattle.std.specs.declared.option.Option.TheVariants.{None, Some}
use Rattle.arrayvec.specs.ArrayVec.{ArrayVec}
use Rattle.dm_link.specs.declared.Link.{Link}
use Rattle.dm_switchboard.specs.declared.names.Decision.{Decision}
use Rattle.dm_switchboard.specs.Board.{Named, named}
use Rattle.dm_switchboard.specs.Taking.{Asked, link_named}

-- the names with one that is new, if there is one
abbrev pub with_new : List Named → Option (ArrayVec ℕ × Link) → List Named
with_new names None = names
with_new names (Some e) = names ++ named e ∷ []

-- the names and the answer that it comes to
abbrev pub decided : List Named → Decision → Asked
decided names d = record { names = with_new names d.new; reply = d.reply }

-- its name isn't taken
abbrev pub IsFree : List Named → ArrayVec ℕ × Link → Type 0
IsFree names e = link_named e.0.items names ≡ None
