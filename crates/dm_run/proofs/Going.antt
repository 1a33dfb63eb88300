-- A run of the world goes on, group by group, to its end.
use Rattle.dm_run.proofs.Names.{◌≡◌, ◌≤◌, ◌<◌, ℕ, ◌+◌, ◌*◌, ◌^◌, false, get_or, slice_get-get_or, cursor_of, NoneLeft, List, [], ◌∷◌, ◌++◌, length, sym, subst, All, Boot, IsValid, Step, Directive, Line, IsStep, IsFor, Cursor, World, IsWorld, world_state, WorldState}
use Rattle.dm_run.proofs.Names.{MeetsSome, AreReadBack, gave, AreWhole, MayStep, first_world, world_step, Way, Does, WearsBy, Went, begins, goes, Led, starts, turns, does, first_way, EndsMay, RunsGo, GoesOn, Stays, IsAtStart, IsRunning}
use Rattle.dm_run.proofs.Names.{HasCome, HasEnded, WearsAfter, by_world, Answers, OrNoMemory, StopsWorn, Result, Ok, Err, IsErr, IsErrAnd, IfErr, false≢true}
use Rattle.dm_node.specs.declared.stop.Stop as stopping
use Rattle.dm_node.specs.declared.stop.Stop.TheVariants as stop
use Rattle.dm_run.proofs.Counted.{happens, worn_out}

-- what a step of the world comes to
pub done : (b : Boot) (w : WorldState) (e : Step) (lines : List Line) (u : WorldState) → IsStep (length b.machines) e → MeetsSome u lines (world_step b w e) → AreReadBack (gave b w e) → AreWhole w e → Does b w e lines u
done b w e lines u fits meets again whole = record { fits = fits; happens = happens u lines (world_step b w e) meets; again = again; whole = whole }

-- a run by directives is one of elementary directives
pub went : (b : Boot) (ds : List Directive) (way : Way) (es : List Step) (gs : List (List Line)) (w : WorldState) → Led b ds way es gs w → Went b es gs w
went b ds _ _ _ _ starts = begins
went b ds _ _ _ _ (turns way es gs w d before none is) = went b ds way es gs w before
went b ds _ _ _ _ (does way es gs w e after lines u before comes d) = goes es gs w e lines u (went b ds way es gs w before) d

-- the next directive is begun
pub turns_to : (b : Boot) (ds : List Directive) (way : Way) (c : Cursor) (es : List Step) (gs : List (List Line)) (w : WorldState) (x : Directive) → way.begun < length ds → c ≡ cursor_of (get_or ds way.begun x) → NoneLeft (length b.machines) w way.cursor → Led b ds way es gs w
    → Led b ds (record { begun = way.begun + 1; cursor = c }) es gs w
turns_to b ds way c es gs w x within same none led =
    subst (λ (k : Cursor). Led b ds (record { begun = way.begun + 1; cursor = k }) es gs w) (sym same) (turns way es gs w (get_or ds way.begun x) led none (slice_get-get_or ds way.begun x within))

-- a world as the boot file has it
pub running_first : (w : World) → IsAtStart w → IsRunning w
running_first w h = record { world = h.world; going = h.going; steps = []; groups = []; went = subst (Went w.boot [] []) (sym h.first) begins }

-- a directive for its machines may be done
pub may_step : RunsGo → (w : World) (e : Step) → IsRunning w → IsStep (length w.boot.machines) e → MayStep w.boot (world_state w) e
may_step law w e r fits = law.may w.boot r.steps r.groups (world_state w) e r.world.valid r.went fits

-- and it runs on behind it
pub running_on : (old new : World) (e : Step) (lines : List Line) → IsRunning old → IsWorld new → new.stopped ≡ false → new.boot ≡ old.boot → Does old.boot (world_state old) e lines (world_state new) → IsRunning new
running_on old new e lines r world going same d = record {
  world = world;
  going = going;
  steps = r.steps ++ e ∷ [];
  groups = r.groups ++ lines ∷ [];
  went = subst (λ (x : Boot). Went x (r.steps ++ e ∷ []) (r.groups ++ lines ∷ []) (world_state new)) (sym same) (goes r.steps r.groups (world_state old) e lines (world_state new) r.went d);
}

pub ends_may : RunsGo → (w : World) → IsRunning w → EndsMay w.boot (world_state w)
ends_may law w r = law.may_end w.boot r.steps r.groups (world_state w) r.world.valid r.went

-- what a loop over directives has of its world
pub running_come : (b : Boot) (ds : List Directive) (Keeps : List (List Line) → Type 0) (way : Way) (w : World) → IsWorld w → w.stopped ≡ false → w.boot ≡ b → HasCome b ds Keeps way (world_state w) → IsRunning w
running_come b ds Keeps way w world going same h = record {
  world = world;
  going = going;
  steps = h.steps;
  groups = h.groups;
  went = subst (λ (x : Boot). Went x h.steps h.groups (world_state w)) (sym same) (went b ds way h.steps h.groups (world_state w) h.led);
}

-- before the first directive
pub comes_first : (b : Boot) (ds : List Directive) (Keeps : List (List Line) → Type 0) (way : Way) (w : WorldState) → way ≡ first_way → w ≡ first_world b → Keeps [] → HasCome b ds Keeps way w
comes_first b ds Keeps way w none first kept = record {
  steps = [];
  groups = [];
  led = subst (λ (x : Way). Led b ds x [] [] w) (sym none) (subst (Led b ds first_way [] []) (sym first) starts);
  kept = kept;
}

-- what comes next is for its machines
pub next_fits : RunsGo → (a b : Boot) (ds : List Directive) (Keeps : List (List Line) → Type 0) (old new : Way) (w : WorldState) (e : Step) → a ≡ b → IsValid b → All (IsFor (length b.machines)) ds → HasCome b ds Keeps old w → GoesOn a ds w old new e → IsStep (length a.machines) e
next_fits law a b ds Keeps old new w e same valid each h =
    subst (λ (x : Boot). GoesOn x ds w old new e → IsStep (length x.machines) e) (sym same)
    (λ g. law.fits b ds (record { begun = new.begun; cursor = g.from }) h.steps h.groups w e new.cursor valid each (g.reached h.steps h.groups h.led) g.comes)

-- its group came
pub led_on : (a b : Boot) (ds : List Directive) (Keeps : List (List Line) → Type 0) (old new : Way) (w u : WorldState) (e : Step) (lines : List Line) → a ≡ b → (h : HasCome b ds Keeps old w) → GoesOn a ds w old new e → Does a w e lines u → Led b ds new (h.steps ++ e ∷ []) (h.groups ++ lines ∷ []) u
led_on a b ds Keeps old new w u e lines same h next d =
    subst (λ (x : Boot). GoesOn x ds w old new e → Does x w e lines u → Led b ds new (h.steps ++ e ∷ []) (h.groups ++ lines ∷ []) u) (sym same)
    (λ g k. does (record { begun = new.begun; cursor = g.from }) h.steps h.groups w e new.cursor lines u (g.reached h.steps h.groups h.led) g.comes k)
    next d

pub comes_on : (a b : Boot) (ds : List Directive) (Keeps Kept : List (List Line) → Type 0) (old new : Way) (w u : WorldState) (e : Step) (lines : List Line) → a ≡ b → HasCome b ds Keeps old w → GoesOn a ds w old new e → Does a w e lines u
    → ((gs : List (List Line)) → Keeps gs → Kept (gs ++ lines ∷ [])) → HasCome b ds Kept new u
comes_on a b ds Keeps Kept old new w u e lines same h next d on = record {
  steps = h.steps ++ e ∷ [];
  groups = h.groups ++ lines ∷ [];
  led = led_on a b ds Keeps old new w u e lines same h next d;
  kept = on h.groups h.kept;
}

-- none is left
pub ends_there : (a b : Boot) (ds : List Directive) (Keeps : List (List Line) → Type 0) (old new : Way) (w : WorldState) → a ≡ b → HasCome b ds Keeps old w → Stays a ds w old new → HasEnded b ds Keeps w
ends_there a b ds Keeps old new w same h next =
    subst (λ (x : Boot). Stays x ds w old new → HasEnded b ds Keeps w) (sym same)
    (λ s. record { way = new; come = record { steps = h.steps; groups = h.groups; led = s.reached h.steps h.groups h.led; kept = h.kept }; done = s.done })
    next

-- it wears two machines
pub wears_there : (a b : Boot) (ds : List Directive) (Keeps : List (List Line) → Type 0) (old new : Way) (w : WorldState) (e : Step) (from to : ℕ) → a ≡ b → (h : HasCome b ds Keeps old w) → GoesOn a ds w old new e → WearsBy a w e from to → WearsAfter by_world b ds h.groups from to
wears_there a b ds Keeps old new w e from to same h next worn =
    subst (λ (x : Boot). GoesOn x ds w old new e → WearsBy x w e from to → WearsAfter by_world b ds h.groups from to) (sym same)
    (λ g k. record {
      at = record { way = record { begun = new.begun; cursor = g.from }; steps = h.steps; state = w };
      good = g.reached h.steps h.groups h.led;
      worn = record { step = e; after = new.cursor; comes = g.comes; wears = k };
    })
    next worn

-- there are few groups
pub few_come : RunsGo → (b : Boot) (ds : List Directive) (Keeps : List (List Line) → Type 0) (way : Way) (w : WorldState) → IsValid b → All (IsFor (length b.machines)) ds → HasCome b ds Keeps way w → w.groups ≤ way.begun * 2 ^ 90
few_come law b ds Keeps way w valid each h = law.few b ds way h.steps h.groups w valid each h.led

-- what its error says
pub stops_as : (b : Boot) (w u : WorldState) (e : Step) (s : stopping.Stop) → IsStep (length b.machines) e → Answers (Err s) u (world_step b w e) → OrNoMemory {X = List Line} (Err s) (AreWhole w e) → StopsWorn b w e s
stops_as b w u e (stop.Worn from to) fits answers whole = record { fits = fits; happens = worn_out from to (world_step b w e) answers; whole = whole }
stops_as b w u e (stop.NoMemory lack) fits answers whole = tt

-- what holds of the one error holds of the error there is
pub if_err : {A E : Type 0} (r : Result A E) (e : E) (P : E → Type 0) → IsErr r × IsErrAnd r (λ y. y ≡ e) → P e → IfErr r P
if_err (Ok x) e P h p = absurd (false≢true h.0)
if_err (Err y) e P h p = subst P (sym h.1) p
