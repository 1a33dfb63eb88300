-- What the command `chart` promises is kept.
use Rattle.dm_cmd_chart.proofs.Names.{◌≡◌, ℕ, List, length, Option, inl, inr, All, IsValid, Boot, Directive, World, Carries, carried_before_worn, carried_picture, Notion, IsFor, Status, Decides, Tells, run_decided, Kept, ran_said, run_met}
use Rattle.dm_cmd_chart.proofs.Names.{run_taken, runs_lack, outside, Part, BeginsPicture, ChartSays, IsPicture, ShowsBegun, ShowsWhole, chart_promise, part_of}

-- what is said in some terms is said in others to which they are carried
picture_said : (part : Part) (r q : Notion) (b : Boot) (ds : List Directive) (text : List ℕ) → Carries r q b ds → IsPicture part r b ds text → IsPicture part q b ds text
picture_said part r q b ds text c (inl whole) = inl (carried_picture part r q b ds text c whole)
picture_said part r q b ds text c (inr worn) = inr (worn.0, worn.1, carried_before_worn part r q b ds text worn.0 worn.1 c worn.2)

chart_said : (part : Part) (r q : Notion) (b : Boot) (ds : List Directive) (before after : Option (List ℕ)) (world : Option World) (s : Status) → Carries r q b ds → ChartSays part r b ds before after world s → ChartSays part q b ds before after world s
chart_said part r q b ds before after world s c h =
    ran_said (ShowsWhole part r b ds before after) (after ≡ before) (BeginsPicture part r b ds before after) (ShowsWhole part q b ds before after) (after ≡ before) (BeginsPicture part q b ds before after)
    (λ from to. ShowsBegun part r b ds before after from to) (λ from to. ShowsBegun part q b ds before after from to)
    (λ k. record { text = k.text; is = carried_picture part r q b ds k.text c k.is; written = k.written }) (λ k. k)
    (λ k. record { text = k.text; is = picture_said part r q b ds k.text c k.is; begun = k.begun })
    (λ from to k. record { text = k.text; is = carried_before_worn part r q b ds k.text from to c k.is; written = k.written }) s h

-- it tells whether the directives last
chart_tells : (part : Part) (r : Notion) (b : Boot) (ds : List Directive) (before after : Option (List ℕ)) (world : Option World) → Decides r → Tells r (ChartSays part r b ds before after world) b ds
chart_tells part r b ds before after world d = record {
  Whole = ShowsWhole part r b ds before after;
  First = after ≡ before;
  Begun = BeginsPicture part r b ds before after;
  Worn_ = λ from to. ShowsBegun part r b ds before after from to;
  is = λ s h. h;
  done = λ h. d.lasts b ds h.is.groups h.is.at h.is.good h.is.over h.is.rests;
  worn = λ from to h. (h.is.groups, h.is.wears);
}

pub chart_kept : (r q : Notion) (boot schedule : List ℕ) (first last : Option ℕ) → Decides q → ((b : Boot) (ds : List Directive) → IsValid b → All (IsFor (length b.machines)) ds → Carries r q b ds) → Kept (chart_promise r boot schedule first last) (chart_promise q boot schedule first last)
chart_kept r q boot schedule first last d carries =
    let part = part_of first last in
    record {
      carried = λ a world s h. record {
        as_run = run_met (ChartSays part r) (ChartSays part q) boot schedule a world s (λ b ds before after valid each says. chart_said part r q b ds before after world s (carries b ds valid each) says) h.as_run;
        no_world = h.no_world;
      };
      first = λ files s said h. h;
      lacks = λ a world lack h nothing. record { as_run = runs_lack (ChartSays part r) boot schedule a world lack h nothing; no_world = h.no_world };
      silent = λ files lack said e. e;
      met = λ a world s h. h.as_run.met;
      taken = λ a world s h e. run_taken (ChartSays part r) boot schedule a world s (λ b ds before after w k. k) h.as_run e;
      decided = λ a world s h. run_decided q (ChartSays part q) boot schedule (outside a world) s d (λ b ds. chart_tells part q b ds _ _ world d) h.as_run.says h.as_run.met.sink.blames;
    }
