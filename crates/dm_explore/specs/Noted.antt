-- What the code notes of directives that were done.
use Rattle.std.specs.Prelude.{◌≡◌, ◌+◌, ◌-◌, List, [], ◌∷◌, ◌++◌, drop, length, take}
use Rattle.dm_explore.specs.declared.past.Done.{Done}
use Rattle.dm_explore.specs.declared.past.Past.{Past as ThePast}
use Rattle.dm_explore.specs.declared.past.Put.{Put}
use Rattle.dm_explore.specs.Past.{Did, comes_again, puts_in, sent}

-- the first one first
abbrev pub noted : List Did → List Done
noted [] = []
noted (d ∷ ds) = noted ds ++ record {
  step = d.step;
  machine = d.machine;
  away = d.away;
  again = comes_again ds d.step;
  first = length (sent ds);
  behind = length (sent ds) + length (puts_in d.lines);
} ∷ []

pub record IsPast (p : ThePast) (ds : List Did) : Type 0 where
  pub done : p.done.items ≡ noted ds
  pub puts : p.puts.items ≡ sent ds

pub record HasPast (p : ThePast) : Type 0 where
  pub done : List Did
  pub is : IsPast p done

-- what is noted of a directive, and the packets that it put among these
pub record NotedIn (d : Did) (noted_ : Done) (puts : List Put) : Type 0 where
  pub machine : noted_.machine ≡ d.machine
  pub away : noted_.away ≡ d.away
  pub puts_are : take (noted_.behind - noted_.first) (drop noted_.first puts) ≡ puts_in d.lines
