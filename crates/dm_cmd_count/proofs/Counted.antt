-- A run that is counted, as a drill is, in other terms; and whether its directives last.
use Rattle.dm_cmd_count.proofs.Names.{ℕ, Bool, List, Option, Boot, Directive, World, Carries, Notion, carried_begun, carried_drill_wears, carried_first, carried_whole, DrillIsBegun, DrillIsOfFirst, DrillIsWhole, DrillWears, Report, Status}
use Rattle.dm_cmd_count.proofs.Names.{Decides, Tells, ran_said, CountedSays}

pub counted_said : (r q : Notion) (tr : Bool) (k : Report) (b : Boot) (ds : List Directive) (before after : Option (List ℕ)) (world : Option World) (s : Status) → Carries r q b ds → CountedSays r tr k b ds before after world s → CountedSays q tr k b ds before after world s
counted_said r q tr k b ds before after world s c h =
    ran_said (DrillIsWhole r tr k b ds before after world) (DrillIsOfFirst r tr b ds before after) (DrillIsBegun r tr k b ds before after world) (DrillIsWhole q tr k b ds before after world) (DrillIsOfFirst q tr b ds before after) (DrillIsBegun q tr k b ds before after world)
    (λ from to. DrillWears r tr b ds before after from to) (λ from to. DrillWears q tr b ds before after from to)
    (λ x. carried_whole r q tr k b ds before after world c x) (λ x. carried_first r q tr b ds before after c x) (λ x. carried_begun r q tr k b ds before after world c x) (λ from to x. carried_drill_wears r q tr b ds before after from to c x) s h

pub counted_tells : (r : Notion) (tr : Bool) (k : Report) (b : Boot) (ds : List Directive) (before after : Option (List ℕ)) (world : Option World) → Decides r → Tells r (CountedSays r tr k b ds before after world) b ds
counted_tells r tr k b ds before after world d = record {
  Whole = DrillIsWhole r tr k b ds before after world;
  First = DrillIsOfFirst r tr b ds before after;
  Begun = DrillIsBegun r tr k b ds before after world;
  Worn_ = λ from to. DrillWears r tr b ds before after from to;
  is = λ s h. h;
  done = λ h. d.lasts b ds h.groups h.at h.good h.sums.over h.rests;
  worn = λ from to h. (h.groups, h.wears);
}
