-- What a run has printed, by a notion of a run: all of it, or as far as it came.
use Rattle.std.specs.Prelude.{◌≡◌, ℕ, ◌<◌, ◌⊎◌, List, [], ◌++◌, length}
use Rattle.std.specs.List.{All}
use Rattle.std.specs.Option.{IsSomeAnd}
use Rattle.std.specs.declared.option.Option.{Option}
use Rattle.dm_onekernel.specs.declared.boot.Boot.{Boot}
use Rattle.dm_schedule.specs.declared.Directive.{Directive}
use Rattle.dm_line.specs.declared.end_line.EndLine.{EndLine}
use Rattle.dm_line.specs.declared.line.Line.{Line}
use Rattle.dm_run.specs.Runs.{joined}
use Rattle.dm_text.specs.Fits.{EndFits, LineFits}
use Rattle.dm_text.specs.Text.{text_of_ends, text_of_lines}
use Rattle.dm_world.specs.declared.world.World.{World}
use Rattle.dm_world.specs.Meets.{IsWorld}
use Rattle.dm_outside.specs.Outside.{appended}
use Rattle.dm_run.specs.Notion.{Notion}

-- there is a world: it is one of this boot file, with all its machines, and it is where the groups lead
abbrev pub StandsFor : (r : Notion) → Boot → r.Place → Option World → Type 0
StandsFor r b at world = IsSomeAnd world (λ w. IsWorld w × (w.boot ≡ b) × r.Stands b at w)

-- the text of good lines was appended, one group for each directive, one by one, and then that of the lines that say where
-- all stands; the world is where they lead; each line fits, so the text spells these lines and no others
pub record IsWhole (r : Notion) (b : Boot) (ds : List Directive) (old new : Option (List ℕ)) (world : Option World) : Type 0 where
  pub groups : List (List Line)
  pub at : r.Place
  pub good : r.Leads b ds groups at
  pub over : r.IsOver b ds at
  pub rests : r.Rests b ds at
  pub fits : All LineFits (joined groups)
  pub ends_fit : All EndFits (r.ends b at)
  pub written : new ≡ appended old (text_of_lines (joined groups) ++ text_of_ends (r.ends b at))
  pub stands : StandsFor r b at world

-- the text of good lines was appended, one group for each of the first directives
pub record IsOfFirst (r : Notion) (b : Boot) (ds : List Directive) (old new : Option (List ℕ)) : Type 0 where
  pub groups : List (List Line)
  pub at : r.Place
  pub good : r.Leads b ds groups at
  pub fits : All LineFits (joined groups)
  pub written : new ≡ appended old (text_of_lines (joined groups))

-- the text of good lines, one group for each of the first directives, and where no directive is left perhaps of the lines
-- that say where all stands, was begun, and some of it is left; the world is where these groups lead
pub record IsBegun (r : Notion) (b : Boot) (ds : List Directive) (old new : Option (List ℕ)) (world : Option World) : Type 0 where
  pub groups : List (List Line)
  pub at : r.Place
  pub good : r.Leads b ds groups at
  pub last : List EndLine
  pub last_is : (last ≡ []) ⊎ (r.IsOver b ds at × (last ≡ r.ends b at))
  pub fits : All LineFits (joined groups)
  pub last_fits : All EndFits last
  pub begun : List ℕ
  pub others : List ℕ
  pub prefix : text_of_lines (joined groups) ++ text_of_ends last ≡ begun ++ others
  pub more : 0 < length others
  pub written : new ≡ appended old begun
  pub stands : StandsFor r b at world

-- good groups, one for each of the first directives, lead to a directive that would route a message between these two
-- machines, which count as many messages as they may
pub record WearsAfter (r : Notion) (b : Boot) (ds : List Directive) (groups : List (List Line)) (from to : ℕ) : Type 0 where
  pub at : r.Place
  pub good : r.Leads b ds groups at
  pub worn : r.Wears b ds at from to

-- the text of such groups was appended
pub record RunWears (r : Notion) (b : Boot) (ds : List Directive) (old new : Option (List ℕ)) (from to : ℕ) : Type 0 where
  pub groups : List (List Line)
  pub wears : WearsAfter r b ds groups from to
  pub fits : All LineFits (joined groups)
  pub written : new ≡ appended old (text_of_lines (joined groups))
