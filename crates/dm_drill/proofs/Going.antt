-- A drill goes on, group by group: as a run does, with what is counted beside what is printed.
use Rattle.dm_drill.proofs.Names.{◌≡◌, ◌↔◌, ℕ, Bool, true, false, List, [], ◌∷◌, ◌++◌, length, take, drop, refl, ap, ◌∙◌, sym, subst, inl, inr, All, All-nil, false≢true, Option, Some, IsErr, IsErrAnd, Result, Ok, Err, World, Stop, NoMemory}
use Rattle.dm_drill.proofs.Names.{WriteFault, Worn, Boot, Step, Directive, Line, LineFits, joined, IsWorld, world_state, WorldState, first_world, appended, Offered, Way, first_way, Does, GoesOn, HasCome, StopsSo, by_world, Report}
use Rattle.dm_drill.proofs.Names.{with_group, with_groups, nothing, told, Came, Ended, IsCounted, IsThrough, DrillIsOfFirst, Stopped, TellsQuiet, text_shown, Totals, comes_first, comes_on, led_on, wears_there, world_is_quiet, some_left}
use Rattle.dm_run.proofs.Names.{append-nil}
use Rattle.dm_run.proofs.Printing as run

-- one more group is counted behind the others
groups_push : (t : Totals) (gs : List (List Line)) (g : List Line) → with_groups t (gs ++ g ∷ []) ≡ with_group (with_groups t gs) g
unfolding with_groups
groups_push t [] g = refl
groups_push t (h ∷ hs) g = groups_push (with_group t h) hs g

groups_none : (t : Totals) → with_groups t [] ≡ t
unfolding with_groups
groups_none t = refl

-- the text of one more group
shown_last : (tr : Bool) (gs : List (List Line)) (g : List Line) → text_shown tr (joined gs) ++ text_shown tr g ≡ text_shown tr (joined (gs ++ g ∷ []))
shown_last true gs g = sym (run.text_last gs g)
shown_last false gs g = refl

shown_none : (tr : Bool) → text_shown tr [] ≡ []
shown_none true = run.text_none
shown_none false = refl

-- nothing was counted yet
pub counted_none : (tr : Bool) (before : Option (List ℕ)) (t : Totals) → t ≡ nothing → IsCounted tr before before t []
counted_none tr before t none = record {
  fits = All-nil LineFits;
  counted = none ∙ sym (groups_none nothing);
  written = run.appended_none before ∙ ap (appended before) (sym (shown_none tr));
}

-- one more group
pub counted_more : (tr : Bool) (before now after : Option (List ℕ)) (t u : Totals) (gs : List (List Line)) (ls : List Line) → IsCounted tr before now t gs → All LineFits ls → after ≡ appended now (text_shown tr ls) → u ≡ with_group t ls → IsCounted tr before after u (gs ++ ls ∷ [])
counted_more tr before now after t u gs ls h fit e c = record {
  fits = run.fits_last gs ls h.fits fit;
  counted = c ∙ (ap (λ (x : Totals). with_group x ls) h.counted ∙ sym (groups_push nothing gs ls));
  written = run.more_written before now after (text_shown tr (joined gs)) (text_shown tr ls) h.written e ∙ ap (appended before) (shown_last tr gs ls);
}

-- memory lacked
pub of_first : (tr : Bool) (b : Boot) (ds : List Directive) (way : Way) (before now after : Option (List ℕ)) (t : Totals) (w : WorldState) → HasCome b ds (IsCounted tr before now t) way w → after ≡ now → DrillIsOfFirst by_world tr b ds before after
of_first tr b ds way before now after t w h e = record {
  groups = h.groups;
  at = record { way = way; steps = h.steps; state = w };
  good = h.led;
  fits = h.kept.fits;
  written = e ∙ h.kept.written;
}

-- nothing was done, since memory lacked
pub nothing_drilled : (tr : Bool) (b : Boot) (ds : List Directive) (before : Option (List ℕ)) → DrillIsOfFirst by_world tr b ds before before
nothing_drilled tr b ds before =
    of_first tr b ds first_way before before before nothing (first_world b) (comes_first b ds (IsCounted tr before before nothing) first_way (first_world b) refl refl (counted_none tr before nothing refl)) refl

-- a directive came to no end
pub stops_there : (tr : Bool) (k : Report) (a b : Boot) (ds : List Directive) (old new : Way) (before now : Option (List ℕ)) (t : Totals) (w : WorldState) (u : World) (e : Step) (s : Stop) → a ≡ b → HasCome b ds (IsCounted tr before now t) old w → GoesOn a ds w old new e → StopsSo a w e s → Stopped by_world tr k b ds before now (Some u) s
stops_there tr k a b ds old new before now t w u e (NoMemory lack) same h next stops = of_first tr b ds old before now now t w h refl
stops_there tr k a b ds old new before now t w u e WriteFault same h next stops = absurd stops
stops_there tr k a b ds old new before now t w u e (Worn from to) same h next stops = record {
  groups = h.groups;
  wears = wears_there a b ds (IsCounted tr before now t) old new w e from to same h next stops;
  fits = h.kept.fits;
  written = h.kept.written;
}

-- the text of a group was offered, and not all was taken
pub offer_stops : (tr : Bool) (k : Report) (a b : Boot) (ds : List Directive) (old new : Way) (before now after : Option (List ℕ)) (t : Totals) (w : WorldState) (u : World) (e : Step) (ls : List Line) (s : Stop) → a ≡ b → IsWorld u → u.boot ≡ b → HasCome b ds (IsCounted tr before now t) old w → GoesOn a ds w old new e
    → Does a w e ls (world_state u) → All LineFits ls → Offered {A = Unit {0}} now (text_shown tr ls) after (Err s) → Stopped by_world tr k b ds before after (Some u) s
offer_stops tr k a b ds old new before now after t w u e ls (NoMemory lack) same one boot h next d fit o = of_first tr b ds old before now after t w h o
offer_stops tr k a b ds old new before now after t w u e ls (Worn from to) same one boot h next d fit o = absurd o
offer_stops tr k a b ds old new before now after t w u e ls WriteFault same one boot h next d fit o =
    record {
      groups = h.groups ++ ls ∷ [];
      at = record { way = new; steps = h.steps ++ e ∷ []; state = world_state u };
      good = led_on a b ds (IsCounted tr before now t) old new w (world_state u) e ls same h next d;
      last = [];
      last_is = inl refl;
      fits = run.fits_last h.groups ls h.kept.fits fit;
      begun = text_shown tr (joined h.groups) ++ take o.count (text_shown tr ls);
      others = drop o.count (text_shown tr ls);
      prefix = append-nil (text_shown tr (joined (h.groups ++ ls ∷ []))) ∙ (sym (shown_last tr h.groups ls) ∙ run.cut_text (text_shown tr (joined h.groups)) (text_shown tr ls) o.count);
      more = some_left (text_shown tr ls) o.count o.fewer;
      written = run.more_written before now after (text_shown tr (joined h.groups)) (take o.count (text_shown tr ls)) h.kept.written o.taken;
      stands = (one, boot, refl);
    }

-- the summary was offered
pub ended_by : {A : Type 0} (tr : Bool) (k : Report) (b : Boot) (ds : List Directive) (before now after : Option (List ℕ)) (t : Totals) (w : World) (quiet : Bool) (last : List ℕ) (r : Result A Stop) → (h : IsThrough tr b ds before now t w) → TellsQuiet by_world b quiet (record { way = h.ended.way; steps = h.ended.come.steps; state = world_state w })
    → last ≡ told k t quiet → Offered now last after r → Ended by_world tr k b ds before after (Some w) r
ended_by tr k b ds before now after t w quiet last (Ok x) h tells is o =
    let come = h.ended.come in
    record {
      groups = come.groups;
      at = record { way = h.ended.way; steps = come.steps; state = world_state w };
      good = come.led;
      rests = tt;
      fits = come.kept.fits;
      last = last;
      sums = record { over = h.ended.done; quiet = quiet; tells = tells; is = is ∙ ap (λ (x : Totals). told k x quiet) come.kept.counted };
      written = run.more_written before now after (text_shown tr (joined come.groups)) last come.kept.written o;
      stands = (h.world, h.boot, refl);
    }
ended_by tr k b ds before now after t w quiet last (Err (NoMemory lack)) h tells is o = of_first tr b ds h.ended.way before now after t (world_state w) h.ended.come o
ended_by tr k b ds before now after t w quiet last (Err (Worn from to)) h tells is o = absurd o
ended_by tr k b ds before now after t w quiet last (Err WriteFault) h tells is o =
    let come = h.ended.come in
    record {
      groups = come.groups;
      at = record { way = h.ended.way; steps = come.steps; state = world_state w };
      good = come.led;
      last = last;
      last_is = inr (record { over = h.ended.done; quiet = quiet; tells = tells; is = is ∙ ap (λ (x : Totals). told k x quiet) come.kept.counted });
      fits = come.kept.fits;
      begun = text_shown tr (joined come.groups) ++ take o.count last;
      others = drop o.count last;
      prefix = run.cut_text (text_shown tr (joined come.groups)) last o.count;
      more = some_left last o.count o.fewer;
      written = run.more_written before now after (text_shown tr (joined come.groups)) (take o.count last) come.kept.written o.taken;
      stands = (h.world, h.boot, refl);
    }

pub came_err : {A : Type 0} (tr : Bool) (k : Report) (b : Boot) (ds : List Directive) (before after : Option (List ℕ)) (t : Totals) (u : World) (r : Result A Stop) (e : Stop) → IsErr r × IsErrAnd r (λ y. y ≡ e) → Stopped by_world tr k b ds before after (Some u) e → Came tr k b ds before after t u r
came_err tr k b ds before after t u (Ok x) e h p = absurd (false≢true h.0)
came_err tr k b ds before after t u (Err y) e h p = subst (λ (x : Stop). Stopped by_world tr k b ds before after (Some u) x) (sym h.1) p

pub ended_err : {A : Type 0} (tr : Bool) (k : Report) (b : Boot) (ds : List Directive) (before after : Option (List ℕ)) (u : World) (r : Result A Stop) (e : Stop) → IsErr r × IsErrAnd r (λ y. y ≡ e) → Stopped by_world tr k b ds before after (Some u) e → Ended by_world tr k b ds before after (Some u) r
ended_err tr k b ds before after u (Ok x) e h p = absurd (false≢true h.0)
ended_err tr k b ds before after u (Err y) e h p = subst (λ (x : Stop). Stopped by_world tr k b ds before after (Some u) x) (sym h.1) p

-- whether all is quiet
same_way : (x y : Bool) → x ≡ y → (x ≡ true) ↔ (y ≡ true)
same_way x y e = (λ h. sym e ∙ h, λ h. e ∙ h)

pub tells_quiet : (b : Boot) (w : World) (quiet : Bool) (way : Way) (steps : List Step) → w.boot ≡ b → quiet ≡ world_is_quiet (length w.boot.machines) (world_state w) → TellsQuiet by_world b quiet (record { way = way; steps = steps; state = world_state w })
tells_quiet b w quiet way steps same e = record {
  tells = same_way quiet (world_is_quiet (length b.machines) (world_state w)) (e ∙ ap (λ (x : Boot). world_is_quiet (length x.machines) (world_state w)) same);
}

-- one more group was counted
pub comes_counted : (tr : Bool) (a b : Boot) (ds : List Directive) (old new : Way) (before now after : Option (List ℕ)) (t v : Totals) (w u : WorldState) (e : Step) (ls : List Line) → a ≡ b → HasCome b ds (IsCounted tr before now t) old w → GoesOn a ds w old new e → Does a w e ls u → All LineFits ls
    → after ≡ appended now (text_shown tr ls) → v ≡ with_group t ls → HasCome b ds (IsCounted tr before after v) new u
comes_counted tr a b ds old new before now after t v w u e ls same h next d fit o c =
    comes_on a b ds (IsCounted tr before now t) (IsCounted tr before after v) old new w u e ls same h next d (λ gs k. counted_more tr before now after t v gs ls k fit o c)
