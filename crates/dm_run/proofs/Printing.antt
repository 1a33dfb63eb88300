-- The text of a run's groups, and of the lines at its end.
use Rattle.dm_run.proofs.Names.{◌≡◌, inl, inr, ℕ, List, [], ◌∷◌, ◌++◌, take, drop, refl, ap, ◌∙◌, sym, subst, append_assoc, append-nil, take-append-drop, All, All-nil, All-append, Option, None, Some, false≢true, IsErr, IsErrAnd, Result, Ok, Err}
use Rattle.dm_run.proofs.Names.{Boot, Step, Directive, EndLine, Line, EndFits, LineFits, joined, text, text_of_ends, text_of_lines, World, IsWorld, world_state, WorldState, world_end_lines, appended, Stop, NoMemory, WriteFault, Worn}
use Rattle.dm_run.proofs.Names.{Way, first_way, first_world, Does, GoesOn, HasCome, IsThrough, IsWritten, Offered, Came, Ended, Stopped, StopsSo, IsOfFirst, by_world}
use Rattle.dm_run.proofs.Writing.{appended_twice, some_left}
use Rattle.dm_run.proofs.Going.{comes_first, comes_on, led_on, wears_there}

pub text_append : (a b : List Line) → text_of_lines (a ++ b) ≡ text_of_lines a ++ text_of_lines b
unfolding text_of_lines
text_append [] b = refl
text_append (l ∷ ls) b = ap (λ t. text l ++ t) (text_append ls b) ∙ sym (append_assoc (text l) (text_of_lines ls) (text_of_lines b))

pub text_none : text_of_lines [] ≡ []
unfolding text_of_lines
text_none = refl

ends_none : text_of_ends [] ≡ []
unfolding text_of_ends
ends_none = refl

pub joined_last : (gs : List (List Line)) (g : List Line) → joined (gs ++ g ∷ []) ≡ joined gs ++ g
joined_last [] g = append-nil g
joined_last (h ∷ hs) g = ap (λ (ls : List Line). h ++ ls) (joined_last hs g) ∙ sym (append_assoc h (joined hs) g)

pub appended_none : (old : Option (List ℕ)) → old ≡ appended old []
appended_none None = refl
appended_none (Some old) = ap Some (sym (append-nil old))

-- the text of one more group, in its parts
pub text_last : (gs : List (List Line)) (g : List Line) → text_of_lines (joined (gs ++ g ∷ [])) ≡ text_of_lines (joined gs) ++ text_of_lines g
text_last gs g = ap text_of_lines (joined_last gs g) ∙ text_append (joined gs) g

pub cut_text : (a b : List ℕ) (c : ℕ) → a ++ b ≡ (a ++ take c b) ++ drop c b
cut_text a b c = ap (λ t. a ++ t) (sym (take-append-drop c b)) ∙ sym (append_assoc a (take c b) (drop c b))

-- no lines at the end
no_ends : (ls : List Line) → text_of_lines ls ++ text_of_ends [] ≡ text_of_lines ls
no_ends ls = ap (λ t. text_of_lines ls ++ t) ends_none ∙ append-nil (text_of_lines ls)

pub more_written : (before now after : Option (List ℕ)) (a b : List ℕ) → now ≡ appended before a → after ≡ appended now b → after ≡ appended before (a ++ b)
more_written before now after a b e f = f ∙ (ap (λ t. appended t b) e ∙ appended_twice before a b)

pub fits_last : (gs : List (List Line)) (g : List Line) → All LineFits (joined gs) → All LineFits g → All LineFits (joined (gs ++ g ∷ []))
fits_last gs g h k = subst (All LineFits) (sym (joined_last gs g)) (All-append LineFits (joined gs) g h k)

-- nothing was written yet
pub written_none : (before : Option (List ℕ)) → IsWritten before before []
written_none before = record { fits = All-nil LineFits; written = appended_none before ∙ ap (λ t. appended before t) (sym text_none) }

-- the text of one more group
pub written_more : (before now after : Option (List ℕ)) (gs : List (List Line)) (ls : List Line) → IsWritten before now gs → All LineFits ls → after ≡ appended now (text_of_lines ls) → IsWritten before after (gs ++ ls ∷ [])
written_more before now after gs ls h fit e = record {
  fits = fits_last gs ls h.fits fit;
  written = more_written before now after (text_of_lines (joined gs)) (text_of_lines ls) h.written e ∙ ap (λ t. appended before t) (sym (text_last gs ls));
}

-- memory lacked
pub of_first : (b : Boot) (ds : List Directive) (way : Way) (before now after : Option (List ℕ)) (w : WorldState) → HasCome b ds (IsWritten before now) way w → after ≡ now → IsOfFirst by_world b ds before after
of_first b ds way before now after w h e = record {
  groups = h.groups;
  at = record { way = way; steps = h.steps; state = w };
  good = h.led;
  fits = h.kept.fits;
  written = e ∙ h.kept.written;
}

-- a directive came to no end
pub stops_there : (a b : Boot) (ds : List Directive) (old new : Way) (before now : Option (List ℕ)) (w : WorldState) (u : World) (e : Step) (s : Stop) → a ≡ b → HasCome b ds (IsWritten before now) old w → GoesOn a ds w old new e → StopsSo a w e s → Stopped by_world b ds before now (Some u) s
stops_there a b ds old new before now w u e (NoMemory lack) same h next stops = of_first b ds old before now now w h refl
stops_there a b ds old new before now w u e WriteFault same h next stops = absurd stops
stops_there a b ds old new before now w u e (Worn from to) same h next stops = record {
  groups = h.groups;
  wears = wears_there a b ds (IsWritten before now) old new w e from to same h next stops;
  fits = h.kept.fits;
  written = h.kept.written;
}

-- the text of a group was offered, and not all was taken
pub offer_stops : (a b : Boot) (ds : List Directive) (old new : Way) (before now after : Option (List ℕ)) (w : WorldState) (u : World) (e : Step) (ls : List Line) (s : Stop) → a ≡ b → IsWorld u → u.boot ≡ b → HasCome b ds (IsWritten before now) old w → GoesOn a ds w old new e → Does a w e ls (world_state u)
    → All LineFits ls → Offered {A = Unit {0}} now (text_of_lines ls) after (Err s) → Stopped by_world b ds before after (Some u) s
offer_stops a b ds old new before now after w u e ls (NoMemory lack) same one boot h next d fit o = of_first b ds old before now after w h o
offer_stops a b ds old new before now after w u e ls (Worn from to) same one boot h next d fit o = absurd o
offer_stops a b ds old new before now after w u e ls WriteFault same one boot h next d fit o =
    record {
      groups = h.groups ++ ls ∷ [];
      at = record { way = new; steps = h.steps ++ e ∷ []; state = world_state u };
      good = led_on a b ds (IsWritten before now) old new w (world_state u) e ls same h next d;
      last = [];
      last_is = inl refl;
      fits = fits_last h.groups ls h.kept.fits fit;
      last_fits = All-nil EndFits;
      begun = text_of_lines (joined h.groups) ++ take o.count (text_of_lines ls);
      others = drop o.count (text_of_lines ls);
      prefix = no_ends (joined (h.groups ++ ls ∷ [])) ∙ (text_last h.groups ls ∙ cut_text (text_of_lines (joined h.groups)) (text_of_lines ls) o.count);
      more = some_left (text_of_lines ls) o.count o.fewer;
      written = more_written before now after (text_of_lines (joined h.groups)) (take o.count (text_of_lines ls)) h.kept.written o.taken;
      stands = (one, boot, refl);
    }

-- the lines at the end were offered
pub ended_by : (A : Type 0) (b : Boot) (ds : List Directive) (before now after : Option (List ℕ)) (w : World) (es : List EndLine) (r : Result A Stop) → IsThrough b ds before now w → es ≡ world_end_lines b (world_state w) → All EndFits es → Offered now (text_of_ends es) after r → Ended by_world b ds before after (Some w) r
ended_by A b ds before now after w es (Ok x) h said fits o =
    let come = h.ended.come in
    record {
      groups = come.groups;
      at = record { way = h.ended.way; steps = come.steps; state = world_state w };
      good = come.led;
      over = h.ended.done;
      rests = tt;
      fits = come.kept.fits;
      ends_fit = subst (All EndFits) said fits;
      written = more_written before now after (text_of_lines (joined come.groups)) (text_of_ends es) come.kept.written o ∙ ap (λ (l : List EndLine). appended before (text_of_lines (joined come.groups) ++ text_of_ends l)) said;
      stands = (h.world, h.boot, refl);
    }
ended_by A b ds before now after w es (Err (NoMemory lack)) h said fits o = of_first b ds h.ended.way before now after (world_state w) h.ended.come o
ended_by A b ds before now after w es (Err (Worn from to)) h said fits o = absurd o
ended_by A b ds before now after w es (Err WriteFault) h said fits o =
    let come = h.ended.come in
    record {
      groups = come.groups;
      at = record { way = h.ended.way; steps = come.steps; state = world_state w };
      good = come.led;
      last = es;
      last_is = inr (h.ended.done, said);
      fits = come.kept.fits;
      last_fits = fits;
      begun = text_of_lines (joined come.groups) ++ take o.count (text_of_ends es);
      others = drop o.count (text_of_ends es);
      prefix = cut_text (text_of_lines (joined come.groups)) (text_of_ends es) o.count;
      more = some_left (text_of_ends es) o.count o.fewer;
      written = more_written before now after (text_of_lines (joined come.groups)) (take o.count (text_of_ends es)) come.kept.written o.taken;
      stands = (h.world, h.boot, refl);
    }

-- what an error says of a run, and of whom it blames
pub came_err : {A : Type 0} (b : Boot) (ds : List Directive) (before after : Option (List ℕ)) (u : World) (r : Result A Stop) (e : Stop) → IsErr r × IsErrAnd r (λ y. y ≡ e) → Stopped by_world b ds before after (Some u) e → Came b ds before after u r
came_err b ds before after u (Ok x) e h p = absurd (false≢true h.0)
came_err b ds before after u (Err y) e h p = subst (λ (x : Stop). Stopped by_world b ds before after (Some u) x) (sym h.1) p

-- nothing was done, since memory lacked
pub nothing_printed : (b : Boot) (ds : List Directive) (before : Option (List ℕ)) → IsOfFirst by_world b ds before before
nothing_printed b ds before =
    of_first b ds first_way before before before (first_world b) (comes_first b ds (IsWritten before before) first_way (first_world b) refl refl (written_none before)) refl

-- one more group was written
pub comes_written : (a b : Boot) (ds : List Directive) (old new : Way) (before now after : Option (List ℕ)) (w u : WorldState) (e : Step) (ls : List Line) → a ≡ b → HasCome b ds (IsWritten before now) old w → GoesOn a ds w old new e → Does a w e ls u → All LineFits ls → after ≡ appended now (text_of_lines ls)
    → HasCome b ds (IsWritten before after) new u
comes_written a b ds old new before now after w u e ls same h next d fit o =
    comes_on a b ds (IsWritten before now) (IsWritten before after) old new w u e ls same h next d (λ gs k. written_more before now after gs ls k fit o)
