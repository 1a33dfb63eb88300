-- What a drill promises is kept.
use Rattle.dm_cmd_count.proofs.Names.{◌≡◌, ◌⊎◌, ℕ, List, length, ap, refl, subst, sym, Option, None, All, TheNoMemory, IsValid, Boot, Directive, World, boot_valid, boot_machines, directive_fits, directives_fit, boot_of_machines}
use Rattle.dm_cmd_count.proofs.Names.{directive_drawn, Drill, nothing_drilled, Carries, Notion, by_world, IsFor, Input, Status, NoMemory, ReadFault, IsWithin, Decides, ends, wears_out, Kept, lack_unread, no_write, unwritten, Nothing}
use Rattle.dm_cmd_count.proofs.Names.{SinkAround, CountedSays, DrillMeets, DrilledSays, SaysDrill, directives_of_drill, drill_promise, report_of}
use Rattle.dm_cmd_count.proofs.Counted.{counted_said, counted_tells}
use Rattle.dm_cmd_count.proofs.Drills.{all_for}

-- the directives of a drill are for its machines
pub drill_for : (d : Drill) → IsWithin d → All (IsFor (length (boot_of_machines d.machines).machines)) (directives_of_drill d)
drill_for d within =
    subst (λ (n : ℕ). All (IsFor n) (directives_of_drill d)) (sym (boot_machines d.machines)) (all_for d.machines (directives_of_drill d) (directives_fit d.machines (directive_drawn d.machines) d.seed d.lines (λ x. directive_fits d.machines x within.least)))

-- want of memory says nothing of it
silent : (d : Drill) (before after : Option (List ℕ)) (world : Option World) (lack : TheNoMemory) → after ≡ before → world ≡ None → SaysDrill (DrilledSays by_world) d before after world (NoMemory lack)
silent d before after world lack told no_world =
    subst (λ w. SaysDrill (DrilledSays by_world) d before after w (NoMemory lack)) (sym no_world)
    (subst (λ t. SaysDrill (DrilledSays by_world) d before t None (NoMemory lack)) (sym told) (nothing_drilled d.trace (boot_of_machines d.machines) (directives_of_drill d) before))

-- it says of no read that it failed
pub drilled_unread : {K : Type 0} (r : Notion) (d : Drill) (k : SinkAround K) (world : Option World) (s : Status) → DrillMeets (DrilledSays r) d k world s → (i : Input) → s ≡ ReadFault i → ⊥
drilled_unread r d k world s h i e = subst (λ x. SaysDrill (DrilledSays r) d (k.told k.old) (k.told k.new) world x) e h.says

pub drill_kept : (q : Notion) (d : Drill) → IsWithin d → Decides q → ((b : Boot) (ds : List Directive) → IsValid b → All (IsFor (length b.machines)) ds → Carries by_world q b ds) → Kept (drill_promise by_world d) (drill_promise q d)
drill_kept q d fits decides carries =
    let b = boot_of_machines d.machines in
    let ds = directives_of_drill d in
    record {
      carried = λ a world s h. record {
        within = h.within;
        meets = record { says = counted_said by_world q d.trace (report_of d) b ds _ _ world s (carries b ds (boot_valid d.machines h.within.least h.within.most) (drill_for d h.within)) h.meets.says; sink = h.meets.sink };
        shelf = h.shelf;
      };
      first = λ files s said h. h;
      lacks = λ a world lack h nothing. record {
        within = fits;
        meets = record { says = silent d (a.sink.told a.sink.old) (a.sink.told a.sink.new) world lack (ap a.sink.told h.unwritten) h.no_world; sink = unwritten a.sink (NoMemory lack) h.unwritten (no_write lack) };
        shelf = lack_unread Nothing a world lack h nothing;
      };
      silent = λ files lack said e. e;
      met = λ a world s h. record { shelf = h.shelf; sink = h.meets.sink };
      taken = λ a world s h e. subst (λ x. SaysDrill (DrilledSays by_world) d (a.sink.told a.sink.old) (a.sink.told a.sink.new) world x) e h.meets.says;
      decided = λ a world s h.
          let says = CountedSays q d.trace (report_of d) b ds (a.sink.told a.sink.old) (a.sink.told a.sink.new) world in
          let tells = counted_tells q d.trace (report_of d) b ds (a.sink.told a.sink.old) (a.sink.told a.sink.new) world decides in
          record {
            completes = λ lasts never. ends q says b ds (a.sink.faults a.sink.old) (a.sink.faults a.sink.new) s tells h.meets.says h.meets.sink.blames lasts never.writes;
            wears = λ from to wears never. wears_out q says b ds (a.sink.faults a.sink.old) (a.sink.faults a.sink.new) s from to decides tells h.meets.says h.meets.sink.blames wears never.writes;
          };
    }
