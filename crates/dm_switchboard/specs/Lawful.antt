-- The boards that packets and processes can make: each name is one, and each link can be enclosed.
use Rattle.std.specs.Prelude.{◌≡◌, true}
use Rattle.std.specs.List.{All}
use Rattle.dm_link.specs.Lawful.{IsLawfulEnclosed}
use Rattle.dm_onekernel.specs.Switchboard.{is_name}
use Rattle.dm_switchboard.specs.Board.{Board, Named}

pub record IsLawfulNamed (k : Named) : Type 0 where
  pub name : is_name k.name ≡ true
  pub link : IsLawfulEnclosed k.link

abbrev pub IsLawfulBoard : Board → Type 0
IsLawfulBoard b = All IsLawfulNamed b.names
