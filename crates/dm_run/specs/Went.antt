-- What a run of the world is, by the world's own functions; and the law that whoever makes one rests on.
use Rattle.std.specs.Prelude.{◌≡◌, ℕ, ◌+◌, ◌*◌, ◌^◌, ◌≤◌, List, [], ◌∷◌, ◌++◌, length, slice_get}
use Rattle.std.specs.List.{All}
use Rattle.std.specs.declared.option.Option.TheVariants.{None, Some}
use Rattle.dm_onekernel.specs.declared.boot.Boot.{Boot}
use Rattle.dm_onekernel.specs.Boot.{IsValid}
use Rattle.dm_schedule.specs.declared.Step.{Step}
use Rattle.dm_schedule.specs.declared.Directive.{Directive}
use Rattle.dm_line.specs.declared.line.Line.{Line}
use Rattle.dm_line.specs.declared.pass.Pass.TheVariants.{Round}
use Rattle.dm_run.specs.Runs.{IsFor, IsStep, cursor_of}
use Rattle.dm_text.specs.Fits.{HidesNothing}
use Rattle.dm_world.specs.declared.cursor.Cursor.{Cursor}
use Rattle.dm_world.specs.declared.cursor.Cursor.TheVariants.{Passing}
use Rattle.dm_world.specs.declared.cursor.Place.TheVariants as place
use Rattle.dm_world.specs.Cursor.{Falls, NextIs}
use Rattle.dm_world.specs.Ends.{MayEnd, end_lines}
use Rattle.dm_world.specs.May.{MayStep}
use Rattle.dm_world.specs.Readable.{AreReadBack, gave}
use Rattle.dm_world.specs.Whole.{AreWhole}
use Rattle.dm_world.specs.World.{WorldState, Says, WornOut, first_world, world_step}
use Rattle.dm_run.specs.declared.way.Way.{Way}

-- an elementary directive for these machines prints these lines, and leads there; what it puts on wires is read again, and a
-- process that it freezes can be carried whole
pub record Does (b : Boot) (w : WorldState) (e : Step) (lines : List Line) (u : WorldState) : Type 0 where
  pub fits : IsStep (length b.machines) e
  pub happens : world_step b w e ≡ Some (Says (record { state = u; lines = lines }))
  pub again : AreReadBack (gave b w e)
  pub whole : AreWhole w e

-- or it would let these two machines count one message too many
pub record WearsBy (b : Boot) (w : WorldState) (e : Step) (from to : ℕ) : Type 0 where
  pub fits : IsStep (length b.machines) e
  pub happens : world_step b w e ≡ Some (WornOut from to)
  pub whole : AreWhole w e

-- elementary directives, done one by one by whoever chooses them: the group of lines of each, and where the world is then
pub data Went (b : Boot) : List Step → List (List Line) → WorldState → Type 0 where
  begins : Went b [] [] (first_world b)
  goes : (es : List Step) (gs : List (List Line)) (w : WorldState) (e : Step) (lines : List Line) (u : WorldState) → Went b es gs w → Does b w e lines u → Went b (es ++ e ∷ []) (gs ++ lines ∷ []) u

-- this elementary directive comes next of one that has come so far, whatever directives are behind it; at most so many can still
-- come as `Falls` says
pub record ComesNext (n : ℕ) (w : WorldState) (c : Cursor) (e : Step) (after : Cursor) : Type 0 where
  pub is : (rest : List Directive) → NextIs n w c rest (Some (e, after))
  pub falls : Falls n w c e after

-- none is left of it
abbrev pub NoneLeft : ℕ → WorldState → Cursor → Type 0
NoneLeft n w c = (rest : List Directive) → NextIs n w c rest None

-- no directive was begun
abbrev pub first_way : Way
first_way = record { begun = 0; cursor = Passing (Round 0) place.End }

-- a run by directives: how many of them were begun, and how far the last of those has come; the elementary ones that were done, and
-- the group of each; where the world is then
pub data Led (b : Boot) (ds : List Directive) : Way → List Step → List (List Line) → WorldState → Type 0 where
  starts : Led b ds first_way [] [] (first_world b)
  -- nothing is left of a directive, and the next is begun
  turns : (way : Way) (es : List Step) (gs : List (List Line)) (w : WorldState) (d : Directive) → Led b ds way es gs w → NoneLeft (length b.machines) w way.cursor → slice_get ds way.begun ≡ Some d → Led b ds (record { begun = way.begun + 1; cursor = cursor_of d }) es gs w
  -- its next elementary directive is done
  does : (way : Way) (es : List Step) (gs : List (List Line)) (w : WorldState) (e : Step) (after : Cursor) (lines : List Line) (u : WorldState) → Led b ds way es gs w → ComesNext (length b.machines) w way.cursor e after → Does b w e lines u
      → Led b ds (record way { cursor = after }) (es ++ e ∷ []) (gs ++ lines ∷ []) u

-- the lines at the end can be said, and say each link whole
pub record EndsMay (b : Boot) (w : WorldState) : Type 0 where
  pub may : MayEnd (length b.machines) w
  pub whole : All HidesNothing (end_lines b w)

-- the law of runs: wherever one has come, each directive for its machines may be done, and so is what comes next of directives for
-- them; where everything stands can be said; and no directive has more than 2 ^ 90 groups
pub record RunsGo : Type 0 where
  pub may : (b : Boot) (es : List Step) (gs : List (List Line)) (w : WorldState) (e : Step) → IsValid b → Went b es gs w → IsStep (length b.machines) e → MayStep b w e
  pub fits : (b : Boot) (ds : List Directive) (way : Way) (es : List Step) (gs : List (List Line)) (w : WorldState) (e : Step) (after : Cursor) → IsValid b → All (IsFor (length b.machines)) ds → Led b ds way es gs w → ComesNext (length b.machines) w way.cursor e after → IsStep (length b.machines) e
  pub may_end : (b : Boot) (es : List Step) (gs : List (List Line)) (w : WorldState) → IsValid b → Went b es gs w → EndsMay b w
  pub few : (b : Boot) (ds : List Directive) (way : Way) (es : List Step) (gs : List (List Line)) (w : WorldState) → IsValid b → All (IsFor (length b.machines)) ds → Led b ds way es gs w → w.groups ≤ way.begun * 2 ^ 90
