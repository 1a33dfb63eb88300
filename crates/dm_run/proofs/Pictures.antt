-- What is kept of a run that came to its end, or to a worn pair, has its picture.
use Rattle.dm_run.proofs.Names.{◌≡◌, ℕ, List, [], ◌∷◌, ◌++◌, length, ap, sym, subst, ◌∙◌, fold-append, false≢true, IsErr, IsErrAnd, Result, Ok, Err, Pid, Boot, Step, Directive, Line, Kept, keep, kept_of, none_kept, picture_of, boot_pids, names_drawn, WorldState}
use Rattle.dm_run.proofs.Names.{Way, Does, GoesOn, HasCome, HasEnded, StopsWorn, Keeps, HasWorn, IsCollected, IsBeforeWorn, PictureIsWhole, by_world}
use Rattle.dm_chart.specs.declared.chart.Reach.{Reach}
use Rattle.dm_chart.specs.declared.kept.Part.{Part}
use Rattle.dm_chart.specs.declared.chart.Reach.TheVariants as reach
use Rattle.dm_node.specs.declared.stop.Stop.{Stop}
use Rattle.dm_node.specs.declared.stop.Stop.TheVariants.{NoMemory, Worn}
use Rattle.dm_run.proofs.Going.{comes_on, wears_there}

-- one more group was kept
pub keeps_more : (part : Part) (k j : Kept) (gs : List (List Line)) (ls : List Line) → Keeps part k gs → j ≡ keep k ls → Keeps part j (gs ++ ls ∷ [])
keeps_more part k j gs ls h e = e ∙ ap (λ (x : Kept). keep x ls) h ∙ sym (fold-append keep (none_kept part) gs (ls ∷ []))

-- a directive came to no end
pub stops_kept : (part : Part) (a b : Boot) (ds : List Directive) (old new : Way) (k : Kept) (w u : WorldState) (e : Step) (s : Stop) → a ≡ b → HasCome b ds (Keeps part k) old w → GoesOn a ds w old new e → StopsWorn a w e s → IsCollected {A = Unit {0}} part b ds k u (Err s)
stops_kept part a b ds old new k w u e (NoMemory lack) same h next stops = tt
stops_kept part a b ds old new k w u e (Worn from to) same h next stops = record { groups = h.groups; wears = wears_there a b ds (Keeps part k) old new w e from to same h next stops; kept = h.kept }

kept_stop : (A : Type 0) (part : Part) (b : Boot) (ds : List Directive) (k : Kept) (u : WorldState) (s : Stop) → IsCollected {A = Unit {0}} part b ds k u (Err s) → IsCollected {A = A} part b ds k u (Err s)
kept_stop A part b ds k u (NoMemory lack) p = tt
kept_stop A part b ds k u (Worn from to) p = p

pub collected_err : {A : Type 0} (part : Part) (b : Boot) (ds : List Directive) (k : Kept) (u : WorldState) (r : Result A Stop) (e : Stop) → IsErr r × IsErrAnd r (λ y. y ≡ e) → IsCollected {A = Unit {0}} part b ds k u (Err e) → IsCollected part b ds k u r
collected_err part b ds k u (Ok x) e h p = absurd (false≢true h.0)
collected_err {A} part b ds k u (Err y) e h p = kept_stop A part b ds k u y (subst (λ (x : Stop). IsCollected {A = Unit {0}} part b ds k u (Err x)) (sym h.1) p)

text_is : (part : Part) (b : Boot) (groups : List (List Line)) (machines : ℕ) (pids : List Pid) (names : List ℕ) (k : Kept) (r : Reach) (text : List ℕ) → machines ≡ length b.machines → pids ≡ boot_pids b → names ≡ names_drawn b.processes → k ≡ kept_of part groups → text ≡ picture_of machines pids names k r → text ≡ picture_of (length b.machines) (boot_pids b) (names_drawn b.processes) (kept_of part groups) r
text_is part b groups machines pids names k r text many there named kept e =
    e
    ∙ (ap (λ (n : ℕ). picture_of n pids names k r) many
    ∙ (ap (λ (ps : List Pid). picture_of (length b.machines) ps names k r) there
    ∙ (ap (λ (t : List ℕ). picture_of (length b.machines) (boot_pids b) t k r) named ∙ ap (λ (x : Kept). picture_of (length b.machines) (boot_pids b) (names_drawn b.processes) x r) kept)))

pub whole_drawn : (part : Part) (b : Boot) (ds : List Directive) (machines : ℕ) (pids : List Pid) (names : List ℕ) (k : Kept) (w : WorldState) (text : List ℕ) → HasEnded b ds (Keeps part k) w → machines ≡ length b.machines → pids ≡ boot_pids b → names ≡ names_drawn b.processes → text ≡ picture_of machines pids names k reach.Whole → PictureIsWhole part by_world b ds text
whole_drawn part b ds machines pids names k w text h many there named e = record {
  groups = h.come.groups;
  at = record { way = h.way; steps = h.come.steps; state = w };
  good = h.come.led;
  over = h.done;
  rests = tt;
  text_is = text_is part b h.come.groups machines pids names k reach.Whole text many there named h.come.kept e;
}

pub worn_drawn : (part : Part) (b : Boot) (ds : List Directive) (machines : ℕ) (pids : List Pid) (names : List ℕ) (k : Kept) (text : List ℕ) (from to : ℕ) → HasWorn part b ds k from to → machines ≡ length b.machines → pids ≡ boot_pids b → names ≡ names_drawn b.processes → text ≡ picture_of machines pids names k (reach.BeforeWorn from to) → IsBeforeWorn part by_world b ds text from to
worn_drawn part b ds machines pids names k text from to h many there named e = record {
  groups = h.groups;
  wears = h.wears;
  text_is = text_is part b h.groups machines pids names k (reach.BeforeWorn from to) text many there named h.kept e;
}

-- one more group came
pub comes_kept : (part : Part) (a b : Boot) (ds : List Directive) (old new : Way) (k j : Kept) (w u : WorldState) (e : Step) (ls : List Line) → a ≡ b → HasCome b ds (Keeps part k) old w → GoesOn a ds w old new e → Does a w e ls u → j ≡ keep k ls → HasCome b ds (Keeps part j) new u
comes_kept part a b ds old new k j w u e ls same h next d kept = comes_on a b ds (Keeps part k) (Keeps part j) old new w u e ls same h next d (λ gs x. keeps_more part k j gs ls x kept)
