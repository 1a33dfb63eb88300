-- What the command `look` promises is kept.
use Rattle.dm_cmd_look.proofs.Names.{◌≡◌, ◌<◌, ◌⊎◌, ℕ, Bool, List, length, inl, inr, subst, sym, Option, All, IsValid, Boot, Directive, World, Carries, Notion, IsFor, Status, Decides, Kept, ran_said, to_end, to_worn, run_met, run_taken}
use Rattle.dm_cmd_look.proofs.Names.{runs_lack, Outside, outside, Line, WearsAfter, Sees, seen_by, wears_by, IsAt, WearsBefore, Holding, BlamesSink, only_want, same_inputs, SaysRun, BeginsSeen, LookIsDecided, LookSays, SeesWorn, ShowsSeen}
use Rattle.dm_cmd_look.proofs.Names.{look_promise}

-- what is said in some terms is said in others to which they are carried
look_said : (r q : Notion) (Holds : Holding r) (Held : Holding q) (most : ℕ) (names : Bool) (b : Boot) (ds : List Directive) (before after : Option (List ℕ)) (world : Option World) (s : Status) → Carries r q b ds → Sees r q Holds Held b ds → LookSays r Holds most names b ds before after world s
    → LookSays q Held most names b ds before after world s
look_said r q Holds Held most names b ds before after world s c sees h =
    ran_said (ShowsSeen r Holds most names b ds before after) (after ≡ before) (BeginsSeen r Holds most names b ds before after) (ShowsSeen q Held most names b ds before after) (after ≡ before) (BeginsSeen q Held most names b ds before after)
    (λ from to. SeesWorn r most b ds before after from to) (λ from to. SeesWorn q most b ds before after from to)
    (λ k. record { text = k.text; is = seen_by r q Holds Held b ds most names k.text sees k.is; written = k.written }) (λ k. k)
    (λ k. record { text = k.text; is = seen_by r q Holds Held b ds most names k.text sees k.is; begun = k.begun })
    (λ from to k. record { worn = wears_by r q b ds most from to c k.worn; nothing = k.nothing }) s h

-- where a run has come to so many groups, none is worn before
pub record NoneBefore (r : Notion) : Type 0 where
  pub never : (b : Boot) (ds : List Directive) (most from to : ℕ) (gs : List (List Line)) (p : r.Place) → IsAt r b ds most gs p → (hs : List (List Line)) → WearsAfter r b ds hs from to → length hs < most → ⊥

look_decided : (r : Notion) (Holds : Holding r) (most : ℕ) (names : Bool) (boot schedule : List ℕ) (o : Outside) (s : Status) → Decides r → NoneBefore r → SaysRun (LookSays r Holds most names) boot schedule o s → BlamesSink o.writes_before o.writes_after s → LookIsDecided r most boot schedule o s
look_decided r Holds most names boot schedule o s d none says sink = record {
  completes = λ files b ds told a lasts never. elim says [
    | inl k ↦
        let same = same_inputs boot schedule o.files files k.system b k.directives ds told k.accepts a in
        let none_worn : (from to : ℕ) → WearsBefore r k.system k.directives most from to → ⊥ =
        subst (λ (x : Boot). (from to : ℕ) → WearsBefore r x k.directives most from to → ⊥) (sym same.boots) (subst (λ (xs : List Directive). (from to : ℕ) → WearsBefore r b xs most from to → ⊥) (sym same.directives) lasts) in
        to_end (ShowsSeen r Holds most names k.system k.directives o.before o.after) (o.after ≡ o.before) (BeginsSeen r Holds most names k.system k.directives o.before o.after) (λ from to. SeesWorn r most k.system k.directives o.before o.after from to)
        o.writes_before o.writes_after s k.says sink (λ from to w. none_worn from to w.worn) never.writes
    | inr n ↦ inr (only_want boot schedule o.files files o.reads_before o.reads_after b ds s told n.why a never.reads)
  ];
  wears = λ files b ds from to told a worn never. elim says [
    | inl k ↦
        let same = same_inputs boot schedule o.files files k.system b k.directives ds told k.accepts a in
        let w : WearsBefore r k.system k.directives most from to =
        subst (λ (x : Boot). WearsBefore r x k.directives most from to) (sym same.boots) (subst (λ (xs : List Directive). WearsBefore r b xs most from to) (sym same.directives) worn) in
        to_worn (ShowsSeen r Holds most names k.system k.directives o.before o.after) (o.after ≡ o.before) (BeginsSeen r Holds most names k.system k.directives o.before o.after) (λ x y. SeesWorn r most k.system k.directives o.before o.after x y)
        o.writes_before o.writes_after s from to k.says sink (λ seen. none.never k.system k.directives most from to seen.is.groups seen.is.at seen.is.there w.groups w.wears w.early)
        (λ x y v. d.once k.system k.directives v.worn.groups w.groups x y from to v.worn.wears w.wears) never.writes
    | inr n ↦ inr (only_want boot schedule o.files files o.reads_before o.reads_after b ds s told n.why a never.reads)
  ];
}

pub look_kept : (r q : Notion) (Holds : Holding r) (Held : Holding q) (boot schedule : List ℕ) (groups : ℕ) (names : Bool) → Decides q → NoneBefore q → ((b : Boot) (ds : List Directive) → IsValid b → All (IsFor (length b.machines)) ds → Carries r q b ds)
    → ((b : Boot) (ds : List Directive) → IsValid b → All (IsFor (length b.machines)) ds → Sees r q Holds Held b ds) → Kept (look_promise r Holds boot schedule groups names) (look_promise q Held boot schedule groups names)
look_kept r q Holds Held boot schedule groups names d none carries sees = record {
  carried = λ a world s h. record {
    as_run = run_met (LookSays r Holds groups names) (LookSays q Held groups names) boot schedule a world s
        (λ b ds before after valid each says. look_said r q Holds Held groups names b ds before after world s (carries b ds valid each) (sees b ds valid each) says) h.as_run;
    no_world = h.no_world;
  };
  first = λ files s said h. h;
  lacks = λ a world lack h nothing. record { as_run = runs_lack (LookSays r Holds groups names) boot schedule a world lack h nothing; no_world = h.no_world };
  silent = λ files lack said e. e;
  met = λ a world s h. h.as_run.met;
  taken = λ a world s h e. run_taken (LookSays r Holds groups names) boot schedule a world s (λ b ds before after w k. k) h.as_run e;
  decided = λ a world s h. look_decided q Held groups names boot schedule (outside a world) s d none h.as_run.says h.as_run.met.sink.blames;
}
