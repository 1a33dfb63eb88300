-- A notion of a run: by what a command says where one has come. The commands go by the world; the rule is another, for which the
-- world stands.
use Rattle.std.specs.Prelude.{◌≡◌, ⊤, ℕ, true, List, length}
use Rattle.dm_onekernel.specs.declared.boot.Boot.{Boot}
use Rattle.dm_schedule.specs.declared.Step.{Step}
use Rattle.dm_schedule.specs.declared.Directive.{Directive}
use Rattle.dm_line.specs.declared.end_line.EndLine.{EndLine}
use Rattle.dm_line.specs.declared.line.Line.{Line}
use Rattle.dm_world.specs.declared.cursor.Cursor.{Cursor}
use Rattle.dm_world.specs.declared.world.World.{World}
use Rattle.dm_world.specs.Ends.{end_lines}
use Rattle.dm_world.specs.Meets.{world_state}
use Rattle.dm_world.specs.Next.{world_is_quiet}
use Rattle.dm_world.specs.World.{WorldState}
use Rattle.dm_run.specs.declared.way.Way.{Way}
use Rattle.dm_run.specs.Way.{IsDone}
use Rattle.dm_run.specs.Went.{ComesNext, Led, WearsBy}

pub record Notion : Type 1 where
  -- where a run may have come
  pub Place : Type 0
  -- these groups, one for each of the first directives, one by one, lead there
  pub Leads : Boot → List Directive → List (List Line) → Place → Type 0
  -- no directive is left
  pub IsOver : Boot → List Directive → Place → Type 0
  -- what else holds where none is left
  pub Rests : Boot → List Directive → Place → Type 0
  -- the next one would route a message between these two machines, which count as many messages as they may
  pub Wears : Boot → List Directive → Place → ℕ → ℕ → Type 0
  -- the lines that say where all stands
  pub ends : Boot → Place → List EndLine
  -- nothing is on its way
  pub IsQuiet : Boot → Place → Type 0
  -- the world is there
  pub Stands : Boot → Place → World → Type 0

-- where a run of the world may have come
pub record WorldPlace : Type 0 where
  pub way : Way
  pub steps : List Step
  pub state : WorldState

-- the next directive of the world wears these two
pub record WorldWears (b : Boot) (p : WorldPlace) (from to : ℕ) : Type 0 where
  pub step : Step
  pub after : Cursor
  pub comes : ComesNext (length b.machines) p.state p.way.cursor step after
  pub wears : WearsBy b p.state step from to

-- by the world
abbrev pub by_world : Notion
by_world = record {
  Place = WorldPlace;
  Leads = λ b ds groups p. Led b ds p.way p.steps groups p.state;
  IsOver = λ b ds p. IsDone b ds p.state p.way;
  Rests = λ b ds p. ⊤;
  Wears = λ b ds p from to. WorldWears b p from to;
  ends = λ b p. end_lines b p.state;
  IsQuiet = λ b p. world_is_quiet (length b.machines) p.state ≡ true;
  Stands = λ b p w. world_state w ≡ p.state;
}
