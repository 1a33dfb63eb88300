-- What a run that is counted, as a drill is, has printed and counted, by a notion of a run.
use Rattle.std.specs.Prelude.{◌≡◌, ◌↔◌, ℕ, ◌<◌, ◌⊎◌, Bool, true, false, List, [], ◌++◌, length}
use Rattle.std.specs.List.{All}
use Rattle.std.specs.declared.option.Option.{Option}
use Rattle.std.specs.declared.option.Option.TheVariants.{Some}
use Rattle.std.specs.declared.result.Result.{Result}
use Rattle.std.specs.declared.result.Result.TheVariants.{Ok, Err}
use Rattle.dm_onekernel.specs.declared.boot.Boot.{Boot}
use Rattle.dm_schedule.specs.declared.Directive.{Directive}
use Rattle.dm_line.specs.declared.line.Line.{Line}
use Rattle.dm_run.specs.Runs.{joined}
use Rattle.dm_text.specs.Fits.{LineFits}
use Rattle.dm_text.specs.Text.{text_of_lines}
use Rattle.dm_world.specs.declared.world.World.{World}
use Rattle.dm_world.specs.Meets.{IsWorld, world_state}
use Rattle.dm_outside.specs.Outside.{appended}
use Rattle.dm_ending.specs.declared.stop.Stop.{Stop}
use Rattle.dm_ending.specs.declared.stop.Stop.TheVariants.{NoMemory, WriteFault, Worn}
use Rattle.dm_run.specs.Coming.{HasEnded}
use Rattle.dm_run.specs.Notion.{Notion, by_world}
use Rattle.dm_run.specs.Printed.{StandsFor, WearsAfter}
use Rattle.dm_drill.specs.Counts.{totals_of}
use Rattle.dm_drill.specs.Reported.{told}
use Rattle.dm_drill.specs.declared.report.Report.{Report}
use Rattle.dm_drill.specs.Totals.{Totals}

-- the text of lines, where they are printed
abbrev pub text_shown : Bool → List Line → List ℕ
text_shown true ls = text_of_lines ls
text_shown false ls = []

-- groups were counted, and printed where that is asked for
pub record IsCounted (trace : Bool) (old new : Option (List ℕ)) (totals : Totals) (groups : List (List Line)) : Type 0 where
  pub fits : All LineFits (joined groups)
  pub counted : totals ≡ totals_of groups
  pub written : new ≡ appended old (text_shown trace (joined groups))

-- the text of good groups was appended, one for each of the first directives
pub record DrillIsOfFirst (r : Notion) (trace : Bool) (b : Boot) (ds : List Directive) (old new : Option (List ℕ)) : Type 0 where
  pub groups : List (List Line)
  pub at : r.Place
  pub good : r.Leads b ds groups at
  pub fits : All LineFits (joined groups)
  pub written : new ≡ appended old (text_shown trace (joined groups))

-- whether all is quiet is told right
pub record TellsQuiet (r : Notion) (b : Boot) (quiet : Bool) (at : r.Place) : Type 0 where
  pub tells : (quiet ≡ true) ↔ r.IsQuiet b at

-- the report of such groups, where all directives are done
pub record SumsUp (r : Notion) (report : Report) (b : Boot) (ds : List Directive) (groups : List (List Line)) (at : r.Place) (text : List ℕ) : Type 0 where
  pub over : r.IsOver b ds at
  pub quiet : Bool
  pub tells : TellsQuiet r b quiet at
  pub is : text ≡ told report (totals_of groups) quiet

-- some of that text is left, perhaps with the report behind it
pub record DrillIsBegun (r : Notion) (trace : Bool) (report : Report) (b : Boot) (ds : List Directive) (old new : Option (List ℕ)) (world : Option World) : Type 0 where
  pub groups : List (List Line)
  pub at : r.Place
  pub good : r.Leads b ds groups at
  pub last : List ℕ
  pub last_is : (last ≡ []) ⊎ SumsUp r report b ds groups at last
  pub fits : All LineFits (joined groups)
  pub begun : List ℕ
  pub others : List ℕ
  pub prefix : text_shown trace (joined groups) ++ last ≡ begun ++ others
  pub more : 0 < length others
  pub written : new ≡ appended old begun
  pub stands : StandsFor r b at world

-- the text of good groups that lead to a directive that wears a pair
pub record DrillWears (r : Notion) (trace : Bool) (b : Boot) (ds : List Directive) (old new : Option (List ℕ)) (from to : ℕ) : Type 0 where
  pub groups : List (List Line)
  pub wears : WearsAfter r b ds groups from to
  pub fits : All LineFits (joined groups)
  pub written : new ≡ appended old (text_shown trace (joined groups))

-- good groups came, one for each directive, one by one; their text was appended where that is asked for, then the report: its
-- counts are those of these groups; the world is where they lead
pub record DrillIsWhole (r : Notion) (trace : Bool) (report : Report) (b : Boot) (ds : List Directive) (old new : Option (List ℕ)) (world : Option World) : Type 0 where
  pub groups : List (List Line)
  pub at : r.Place
  pub good : r.Leads b ds groups at
  pub rests : r.Rests b ds at
  pub fits : All LineFits (joined groups)
  pub last : List ℕ
  pub sums : SumsUp r report b ds groups at last
  pub written : new ≡ appended old (text_shown trace (joined groups) ++ last)
  pub stands : StandsFor r b at world

-- why such a run came to no end, and what it has written
abbrev pub Stopped : Notion → Bool → Report → Boot → List Directive → Option (List ℕ) → Option (List ℕ) → Option World → Stop → Type 0
Stopped r trace report b ds before after w (NoMemory lack) = DrillIsOfFirst r trace b ds before after
Stopped r trace report b ds before after w WriteFault = DrillIsBegun r trace report b ds before after w
Stopped r trace report b ds before after w (Worn from to) = DrillWears r trace b ds before after from to

-- all directives were done, and counted
pub record IsThrough (trace : Bool) (b : Boot) (ds : List Directive) (before after : Option (List ℕ)) (totals : Totals) (w : World) : Type 0 where
  pub world : IsWorld w
  pub boot : w.boot ≡ b
  pub ended : HasEnded b ds (IsCounted trace before after totals) (world_state w)

abbrev pub Came : {A : Type 0} → Bool → Report → Boot → List Directive → Option (List ℕ) → Option (List ℕ) → Totals → World → Result A Stop → Type 0
Came trace report b ds before after totals w (Ok _) = IsThrough trace b ds before after totals w
Came trace report b ds before after totals w (Err s) = Stopped by_world trace report b ds before after (Some w) s

-- such a run has come to its end, or to none
abbrev pub Ended : {A : Type 0} → Notion → Bool → Report → Boot → List Directive → Option (List ℕ) → Option (List ℕ) → Option World → Result A Stop → Type 0
Ended r trace report b ds before after w (Ok _) = DrillIsWhole r trace report b ds before after w
Ended r trace report b ds before after w (Err s) = Stopped r trace report b ds before after w s
