-- A run goes on, group by group, up to so many groups.
use Rattle.dm_run.proofs.Names.{◌≡◌, ◌<◌, ℕ, ◌+◌, List, [], ◌∷◌, ◌++◌, refl, ap, sym, subst, ◌∙◌, false≢true, IsErr, IsErrAnd, Result, Ok, Err, Boot, Step, Directive, Line, World, WorldState, Does, GoesOn, HasCome, StopsWorn}
use Rattle.dm_run.specs.declared.way.Way.{Way}
use Rattle.std.specs.Prelude.{Vec}
use Rattle.std.specs.declared.alloc.Global.{Global}
use Rattle.std.proofs.Common.{length-append}
use Rattle.dm_node.specs.declared.stop.Stop.{Stop}
use Rattle.dm_node.specs.declared.stop.Stop.TheVariants.{NoMemory, Worn}
use Rattle.dm_run.proofs.Going.{comes_on, wears_there}
use Rattle.dm_look.specs.Groups.{Came, Keeps, last_behind, last_group}

behind_push : (h : List Line) (hs : List (List Line)) (g : List Line) → last_behind h (hs ++ g ∷ []) ≡ g
behind_push h [] g = refl
behind_push h (k ∷ ks) g = behind_push k ks g

last_push : (gs : List (List Line)) (g : List Line) → last_group (gs ++ g ∷ []) ≡ g
last_push [] g = refl
last_push (h ∷ hs) g = behind_push h hs g

-- no group has come
pub keeps_none : (lines : List Line) → lines ≡ [] → Keeps 0 lines []
keeps_none lines none = record { count_is = refl; lines_are = none }

-- one more group
keeps_more : (n : ℕ) (old new : List Line) (gs : List (List Line)) → Keeps n old gs → Keeps (n + 1) new (gs ++ new ∷ [])
keeps_more n old new gs h = record { count_is = length-append gs (new ∷ []) ∙ ap (λ k. k + 1) h.count_is; lines_are = sym (last_push gs new) }

pub comes_kept : (a b : Boot) (ds : List Directive) (old new : Way) (n : ℕ) (before ls : List Line) (w u : WorldState) (e : Step) → a ≡ b → HasCome b ds (Keeps n before) old w → GoesOn a ds w old new e → Does a w e ls u → HasCome b ds (Keeps (n + 1) ls) new u
comes_kept a b ds old new n before ls w u e same h next d = comes_on a b ds (Keeps n before) (Keeps (n + 1) ls) old new w u e ls same h next d (λ gs k. keeps_more n before ls gs k)

-- a directive came to no end
pub stops_looked : (a b : Boot) (ds : List Directive) (old new : Way) (most n : ℕ) (before : List Line) (w : WorldState) (u : World) (e : Step) (s : Stop) → a ≡ b → n < most → HasCome b ds (Keeps n before) old w → GoesOn a ds w old new e → StopsWorn a w e s → Came b ds most u (Err s)
stops_looked a b ds old new most n before w u e (NoMemory lack) same fewer h next stops = tt
stops_looked a b ds old new most n before w u e (Worn from to) same fewer h next stops = record {
  groups = h.groups;
  wears = wears_there a b ds (Keeps n before) old new w e from to same h next stops;
  early = subst (λ k. k < most) (sym h.kept.count_is) fewer;
}

pub came_err : (b : Boot) (ds : List Directive) (most : ℕ) (u : World) (r : Result (Vec Line Global) Stop) (e : Stop) → IsErr r × IsErrAnd r (λ y. y ≡ e) → Came b ds most u (Err e) → Came b ds most u r
came_err b ds most u (Ok x) e h p = absurd (false≢true h.0)
came_err b ds most u (Err y) e h p = subst (λ (x : Stop). Came b ds most u (Err x)) (sym h.1) p
