-- What a search has of its world while it does the directives of its past once more.
use Rattle.std.specs.Prelude.{◌≡◌, ◌<◌, ◌≤◌, ◌+◌, ◌^◌, ℕ, true, List, [], ◌∷◌, drop, get_or, length, map}
use Rattle.std.specs.List.{All}
use Rattle.std.specs.declared.option.Option.TheVariants.{Some}
use Rattle.std.proofs.Common.{refl, sym, ap, ◌∙◌, subst, arith}
use Rattle.std.proofs.lemmas.List.{drop_all}
use Rattle.dm_onekernel.specs.declared.boot.Boot.{Boot}
use Rattle.dm_line.specs.declared.line.Line.{Line}
use Rattle.dm_schedule.specs.declared.Step.{Step}
use Rattle.dm_world.specs.declared.world.World.{World}
use Rattle.dm_world.specs.Meets.{world_state}
use Rattle.dm_world.specs.World.{Says, WorldState, first_world, world_step}
use Rattle.dm_run.specs.Running.{IsAtStart, IsRunning}
use Rattle.dm_run.specs.Runs.{IsStep}
use Rattle.dm_explore.specs.declared.past.Done.{Done}
use Rattle.dm_explore.specs.declared.past.Past.{Past as ThePast}
use Rattle.dm_explore.specs.Noted.{IsPast, noted}
use Rattle.dm_explore.specs.Past.{steps_of}
use Rattle.dm_explore.specs.Places.{Place, first_place}
use Rattle.dm_explore.specs.Search.{HasGone, Leads, led}
use Rattle.dm_explore.proofs.Notes.{noted_length}
use Rattle.dm_explore.proofs.Ways.{first_fits, follows, led_first, left_here, noted_steps, others_fit, says_one, step_noted, steps_left, went_fit}

-- what is left leads from where the world is to the place, and can be done
pub record Redoes (b : Boot) (p : Place) (es : List Step) (w : WorldState) : Type 0 where
  pub place : Place
  pub state : w ≡ place.state
  pub leads : led b place es ≡ Some p
  pub each : All (IsStep (length b.machines)) es

-- from the start
pub redoes_first : (b : Boot) (p : Place) (past : ThePast) (xs : List Done) (w : WorldState) → HasGone b p → IsPast past p.done → xs ≡ past.done.items → w ≡ first_world b → Redoes b p (steps_left xs 0) w
redoes_first b p past xs w gone h same is =
    let all : steps_of p.done ≡ steps_left xs 0 = sym (noted_steps p.done) ∙ ap (map step_noted) (sym h.done ∙ sym same) in
    record {
      place = first_place b;
      state = is;
      leads = subst (λ es. led b (first_place b) es ≡ Some p) all gone.led_;
      each = subst (All (IsStep (length b.machines))) all (went_fit b _ _ _ gone.went);
    }

-- the next one can be done
pub record Next (b : Boot) (w : WorldState) (e : Step) : Type 0 where
  pub fits : IsStep (length b.machines) e
  pub says : (u : WorldState) × (ls : List Line) × (world_step b w e ≡ Some (Says (record { state = u; lines = ls })))

pub redoes_next : (b : Boot) (p : Place) (xs : List Done) (i : ℕ) (d : Done) (w : WorldState) → Redoes b p (steps_left xs i) w → i < length xs → Next b w (get_or xs i d).step
redoes_next b p xs i d w h lt =
    let e = (get_or xs i d).step in
    let here : steps_left xs i ≡ e ∷ steps_left xs (i + 1) = left_here xs i d lt in
    let l = led_first b h.place p e (steps_left xs (i + 1)) (subst (λ es. led b h.place es ≡ Some p) here h.leads) in
    let f = follows b h.place l.place e l.first in
    record {
      fits = first_fits (length b.machines) e (steps_left xs (i + 1)) (subst (All (IsStep (length b.machines))) here h.each);
      says = (f.said.state, f.said.lines, ap (λ (v : WorldState). world_step b v e) h.state ∙ f.happens);
    }

pub redoes_more : (b : Boot) (p : Place) (xs : List Done) (i : ℕ) (d : Done) (w u : WorldState) → Redoes b p (steps_left xs i) w → i < length xs
    → ((v : WorldState) (ls : List Line) → world_step b w (get_or xs i d).step ≡ Some (Says (record { state = v; lines = ls })) → u ≡ v) → Redoes b p (steps_left xs (i + 1)) u
redoes_more b p xs i d w u h lt does =
    let e = (get_or xs i d).step in
    let here : steps_left xs i ≡ e ∷ steps_left xs (i + 1) = left_here xs i d lt in
    let l = led_first b h.place p e (steps_left xs (i + 1)) (subst (λ es. led b h.place es ≡ Some p) here h.leads) in
    let f = follows b h.place l.place e l.first in
    record {
      place = l.place;
      state = does f.said.state f.said.lines (ap (λ (v : WorldState). world_step b v e) h.state ∙ f.happens) ∙ sym f.state;
      leads = l.leads;
      each = others_fit (length b.machines) e (steps_left xs (i + 1)) (subst (All (IsStep (length b.machines))) here h.each);
    }

-- where none is left the world is at the place
pub redone : (b : Boot) (p : Place) (xs : List Done) (i : ℕ) (w : WorldState) → Redoes b p (steps_left xs i) w → length xs ≤ i → w ≡ p.state
redone b p xs i w h most =
    let none : led b h.place [] ≡ Some p = ap (λ ds. led b h.place (map step_noted ds)) (sym (drop_all i xs most)) ∙ h.leads in
    let same : h.place ≡ p = cc in
    h.state ∙ ap (λ (z : Place). z.state) same

-- directives are done once more, one by one
pub record IsRedoing (old new : World) (past : ThePast) (xs : List Done) (i : ℕ) : Type 0 where
  pub running : IsRunning new
  pub groups : new.groups ≡ i
  pub boot : new.boot ≡ old.boot
  pub items : xs ≡ past.done.items
  pub redoes : (p : Place) → IsPast past p.done → HasGone old.boot p → Redoes old.boot p (steps_left xs i) (world_state new)

pub redoing_first : (old new : World) (past : ThePast) (xs : List Done) → IsAtStart new → IsRunning new → new.groups ≡ 0 → new.boot ≡ old.boot → xs ≡ past.done.items → IsRedoing old new past xs 0
redoing_first old new past xs start running groups boot items = record {
  running = running;
  groups = groups;
  boot = boot;
  items = items;
  redoes = λ p h gone. redoes_first old.boot p past xs (world_state new) gone h items (start.first ∙ ap (λ (b : Boot). first_world b) boot);
}

-- the next one
pub next_here : (old new : World) (past : ThePast) (xs : List Done) (i : ℕ) (d : Done) → Leads old.boot past → IsRedoing old new past xs i → i < length xs → Next new.boot (world_state new) (get_or xs i d).step
next_here old new past xs i d l r lt =
    subst (λ b. Next b (world_state new) (get_or xs i d).step) (sym r.boot) (redoes_next old.boot l.place xs i d (world_state new) (r.redoes l.place l.noted_ l.gone) lt)

pub few_groups : (old new : World) (past : ThePast) (xs : List Done) (i : ℕ) → Leads old.boot past → IsRedoing old new past xs i → i < length xs → new.groups < 2 ^ 127
few_groups old new past xs i l r lt =
    let size : length xs ≡ length l.place.done = ap (λ (ds : List Done). length ds) (r.items ∙ l.noted_.done) ∙ noted_length l.place.done in
    let few = l.few in
    let groups = r.groups in
    let least : 64 < 2 ^ 127 = omega arith in
    omega arith

pub redoing_more : (old mid new : World) (past : ThePast) (xs : List Done) (i : ℕ) (d : Done) → IsRedoing old mid past xs i → i < length xs
    → IsRunning new → new.groups ≡ mid.groups + 1 → new.boot ≡ mid.boot
    → ((v : WorldState) (ls : List Line) → world_step mid.boot (world_state mid) (get_or xs i d).step ≡ Some (Says (record { state = v; lines = ls })) → world_state new ≡ v) → IsRedoing old new past xs (i + 1)
redoing_more old mid new past xs i d r lt running groups boot does = record {
  running = running;
  groups = groups ∙ ap (λ n. n + 1) r.groups;
  boot = boot ∙ r.boot;
  items = r.items;
  redoes = λ p h gone. redoes_more old.boot p xs i d (world_state mid) (world_state new) (r.redoes p h gone) lt
      (subst (λ b. (v : WorldState) (ls : List Line) → world_step b (world_state mid) (get_or xs i d).step ≡ Some (Says (record { state = v; lines = ls })) → world_state new ≡ v) r.boot does);
}
