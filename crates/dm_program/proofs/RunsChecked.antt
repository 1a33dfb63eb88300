-- What `run` writes, `check` finds good.
use Rattle.dm_program.proofs.Names.{◌≡◌, ◌⊎◌, inl, inr, ℕ, Bool, true, false, List, [], ◌∷◌, ◌++◌, length, ap, sym, subst, ◌∙◌, Option, Some, All, All-cons, All-head, All-nil, All-tail, Boot, Directive, appended, good_verdict, Status}
use Rattle.dm_program.proofs.Names.{HasTrace, AcceptsFiles, SaysBoot, SaysDirectives, IsWant, append-nil, Step, Line, IsGood, IsWhole, RunWears, beginnings_open, runs_ended, HasHome, IsHome, verdict, NeverFails, Outside, Accepts, GivesGood}
use Rattle.dm_program.proofs.Names.{IsKept, RunsCheck, SaysItIs, WornRunsCheck, by_rule, traced_by_rule}
use Rattle.dm_schedule.specs.declared.Step.TheVariants as step
use Rattle.dm_schedule.specs.declared.Directive.TheVariants as directive
use Rattle.dm_front.proofs.Schedules as schedules
use Rattle.dm_program.proofs.Runs.Fits.{directives_fit}

step_home : (machines : ℕ) (e : Step) → schedules.IsHome machines e → IsHome machines e
step_home machines (step.Turn m) h = h
step_home machines (step.Tick m) h = h
step_home machines (step.Deliver a b k) h = h
step_home machines (step.Migrate p m) h = h
step_home machines (step.CallOff p m) h = h

directive_home : (machines : ℕ) (d : Directive) → schedules.HasHome machines d → HasHome machines d
directive_home machines (directive.One e) h = step_home machines e h
directive_home machines directive.Round h = tt
directive_home machines (directive.Spin n) h = tt
directive_home machines directive.Settle h = tt
directive_home machines (directive.Rest n) h = tt

homes : (machines : ℕ) (ds : List Directive) → All (schedules.HasHome machines) ds → All (HasHome machines) ds
homes machines [] h = All-nil (HasHome machines)
homes machines (d ∷ ds) h = All-cons (HasHome machines) d ds (directive_home machines d (All-head (schedules.HasHome machines) d ds h)) (homes machines ds (All-tail (schedules.HasHome machines) d ds h))

-- the directives of a schedule name processes that are at home on machines that there are
homes_of : (files : Option (List ℕ → Option (List ℕ))) (name : List ℕ) (machines : ℕ) (ds : List Directive) → SaysDirectives files name machines ds → All (HasHome machines) ds
homes_of files name machines ds h = homes machines ds (schedules.are_read h.bytes machines ds h.says).homes

-- a trace that was kept is there
kept_trace : (boot trace : List ℕ) (run check : Outside) (b : Boot) (bytes : List ℕ) (k : IsKept boot trace run check) → SaysBoot (Some k.files) boot b → run.after ≡ appended run.before bytes → HasTrace (Some k.later) boot trace b bytes
kept_trace boot trace run check b bytes k says written =
    let there : k.later trace ≡ Some bytes = k.trace_is ∙ written ∙ ap (λ o. appended o bytes) k.from_nothing in
    record {
      says_boot = record { bytes = says.bytes; file = record { is = k.boot_is ∙ says.file.is; within = says.file.within }; says = says.says };
      file = record { is = there; within = k.short bytes there };
    }

-- so what is good by the verdict is said to be good
said_of : (boot schedule trace : List ℕ) (run check : Outside) (s : Status) (b : Boot) (ds : List Directive) (bytes : List ℕ) (groups : ℕ) (ended : Bool) (k : IsKept boot trace run check) → AcceptsFiles (Some k.files) boot schedule b ds
    → run.after ≡ appended run.before bytes → verdict b bytes ≡ good_verdict groups ended → Accepts traced_by_rule boot trace check s → NeverFails check → SaysItIs ended check s ⊎ IsWant s
said_of boot schedule trace run check s b ds bytes groups ended k accepts written good promise never =
    let gives : GivesGood traced_by_rule k.later boot trace groups ended = record { system = b; bytes = bytes; has = kept_trace boot trace run check b bytes k accepts.says_boot written; good = good } in
    elim (promise k.later groups ended k.at_check gives never) [
      | inl said ↦ inl (record { groups = groups; done = said.0; said = said.1 })
      | inr want ↦ inr want
    ]

accepted : (boot schedule trace : List ℕ) (run check : Outside) (b : Boot) (ds : List Directive) (k : IsKept boot trace run check) → AcceptsFiles run.files boot schedule b ds → AcceptsFiles (Some k.files) boot schedule b ds
accepted boot schedule trace run check b ds k h = subst (λ (f : Option (List ℕ → Option (List ℕ))). AcceptsFiles f boot schedule b ds) k.at_run h

pub runs_check : RunsCheck
runs_check boot schedule trace run check s says kept promise never = elim says [
  | inl r ↦
      let a : AcceptsFiles (Some kept.files) boot schedule r.system r.directives = accepted boot schedule trace run check r.system r.directives kept r.accepts in
      let w : IsWhole by_rule r.system r.directives run.before run.after run.world = r.says in
      said_of boot schedule trace run check s r.system r.directives _ (length w.groups) true kept a w.written
      (runs_ended r.system r.directives w.groups w.at.end w.at.left (directives_fit (length r.system.machines) r.directives r.within) (homes_of _ schedule (length r.system.machines) r.directives a.says_directives) w.good w.fits w.ends_fit) promise never
  | inr r ↦ absurd r.why
]

pub worn_runs_check : WornRunsCheck
worn_runs_check boot schedule trace run check from to s says kept promise never = elim says [
  | inl r ↦
      let a : AcceptsFiles (Some kept.files) boot schedule r.system r.directives = accepted boot schedule trace run check r.system r.directives kept r.accepts in
      let w : RunWears by_rule r.system r.directives run.before run.after from to = r.says in
      let good : IsGood r.system r.directives (w.groups ++ []) w.wears.at.end w.wears.at.left = subst (λ (gs : List (List Line)). IsGood r.system r.directives gs w.wears.at.end w.wears.at.left) (sym (append-nil w.groups)) w.wears.good in
      said_of boot schedule trace run check s r.system r.directives _ (length w.groups) false kept a w.written
      (beginnings_open r.system r.directives w.groups [] w.wears.at.end w.wears.at.left (directives_fit (length r.system.machines) r.directives r.within) (homes_of _ schedule (length r.system.machines) r.directives a.says_directives) good w.fits) promise never
  | inr r ↦ absurd r.why
]
