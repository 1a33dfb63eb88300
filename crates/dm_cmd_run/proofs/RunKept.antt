-- What the command `run` promises is kept.
use Rattle.dm_cmd_run.proofs.Names.{◌≡◌, ℕ, List, length, Option, All, IsValid, Boot, Directive, World, Carries, carried_begun, carried_first, carried_run_wears, carried_whole, Notion, IsFor, Status, Decides, Tells, run_decided, Kept}
use Rattle.dm_cmd_run.proofs.Names.{ran_said, run_met, run_taken, runs_lack, outside, IsBegun, IsOfFirst, IsWhole, RunWears, RunSays, run_promise}

-- what is said in some terms is said in others to which they are carried
run_said : (r q : Notion) (b : Boot) (ds : List Directive) (before after : Option (List ℕ)) (world : Option World) (s : Status) → Carries r q b ds → RunSays r b ds before after world s → RunSays q b ds before after world s
run_said r q b ds before after world s c h =
    ran_said (IsWhole r b ds before after world) (IsOfFirst r b ds before after) (IsBegun r b ds before after world) (IsWhole q b ds before after world) (IsOfFirst q b ds before after) (IsBegun q b ds before after world)
    (λ from to. RunWears r b ds before after from to) (λ from to. RunWears q b ds before after from to)
    (λ k. carried_whole r q b ds before after world c k) (λ k. carried_first r q b ds before after c k) (λ k. carried_begun r q b ds before after world c k) (λ from to k. carried_run_wears r q b ds before after from to c k) s h

-- it tells whether the directives last
run_tells : (r : Notion) (b : Boot) (ds : List Directive) (before after : Option (List ℕ)) (world : Option World) → Decides r → Tells r (RunSays r b ds before after world) b ds
run_tells r b ds before after world d = record {
  Whole = IsWhole r b ds before after world;
  First = IsOfFirst r b ds before after;
  Begun = IsBegun r b ds before after world;
  Worn_ = λ from to. RunWears r b ds before after from to;
  is = λ s h. h;
  done = λ h. d.lasts b ds h.groups h.at h.good h.over h.rests;
  worn = λ from to h. (h.groups, h.wears);
}

pub run_kept : (r q : Notion) (boot schedule : List ℕ) → Decides q → ((b : Boot) (ds : List Directive) → IsValid b → All (IsFor (length b.machines)) ds → Carries r q b ds) → Kept (run_promise r boot schedule) (run_promise q boot schedule)
run_kept r q boot schedule d carries = record {
  carried = λ a world s h. run_met (RunSays r) (RunSays q) boot schedule a world s (λ b ds before after valid each says. run_said r q b ds before after world s (carries b ds valid each) says) h;
  first = λ files s said h. h;
  lacks = λ a world lack h nothing. runs_lack (RunSays r) boot schedule a world lack h nothing;
  silent = λ files lack said e. e;
  met = λ a world s h. h.met;
  taken = λ a world s h e. run_taken (RunSays r) boot schedule a world s (λ b ds before after w k. k) h e;
  decided = λ a world s h. run_decided q (RunSays q) boot schedule (outside a world) s d (λ b ds. run_tells q b ds _ _ world d) h.says h.met.sink.blames;
}
