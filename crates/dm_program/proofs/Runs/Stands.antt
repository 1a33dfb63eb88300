-- A run of the world by directives stands for one by the rule; and there are few groups.
use Rattle.dm_program.proofs.Runs.Names.{◌≡◌, ◌≤◌, ◌<◌, ℕ, ◌+◌, ◌*◌, ◌^◌, List, [], ◌∷◌, ◌++◌, length, drop, get_or, slice_get, add-one, drop-cons, refl, ap, ◌∙◌, sym, subst, ◌⊎◌, inl, inr, arith, All, All-get_or, get_or_from_slice_get, slice_get_within, None, Some}
use Rattle.dm_program.proofs.Runs.Names.{Boot, IsValid, Step, Directive, Line, Next, Todo, all_of, IsStep, Point, first_point, Cursor, todo_of, world_has_mail, world_is_quiet, world_next_step, world_undelivered, WorldState, Said, Says, WornOut, world_step}
use Rattle.dm_program.proofs.Runs.Names.{GoesOn, RunGoes, RunStands, next_fits, run_begins, run_goes_on, counts, IsFor, cursor_of, ComesNext, Does, Led, NoneLeft, starts, turns, does, first_way, Way}
use Rattle.dm_program.proofs.Names.{world_seen}
use Rattle.dm_program.proofs.Runs.Begun.{begun_next}
use Rattle.dm_program.proofs.Runs.Fits.{directives_fit}
use Rattle.dm_program.proofs.Runs.Settling.{IsGroup, ahead, falls_ahead, few_ahead}

-- no directive was begun and no group has come, or so much is left of the last one that there are few
abbrev pub Few : Boot → Way → Point → WorldState → Type 0
Few b way pt w = ((way ≡ first_way) × (w.groups ≡ 0)) ⊎ (ahead b w way.cursor pt.view + w.groups ≤ way.begun * 2 ^ 90)

-- the world stands for what was printed
pub record IsLed (b : Boot) (ds : List Directive) (way : Way) (gs : List (List Line)) (w : WorldState) : Type 0 where
  pub end : Point
  pub left : Todo
  pub stands : RunStands b ds gs end left w
  pub follows : world_next_step (length b.machines) w left ≡ world_next_step (length b.machines) w (todo_of (length b.machines) way.cursor (drop way.begun ds))
  pub few : Few b way end w

pub few_groups : (b : Boot) (way : Way) (pt : Point) (w : WorldState) → Few b way pt w → w.groups ≤ way.begun * 2 ^ 90
few_groups b way pt w (inl none) = let e = none.1 in omega (arith, e)
few_groups b way pt w (inr h) = omega (arith, h)

-- the directives from one on
cut : (ds : List Directive) (i : ℕ) (d : Directive) → slice_get ds i ≡ Some d → drop i ds ≡ d ∷ drop (i + 1) ds
cut ds i d e =
    drop-cons ds i d (slice_get_within ds i d e)
    ∙ (ap (λ k. get_or ds i d ∷ drop k ds) (sym (add-one i))
    ∙ ap (λ (x : Directive). x ∷ drop (i + 1) ds) (get_or_from_slice_get ds i d d e))

fits_there : (n : ℕ) (ds : List Directive) (i : ℕ) (d : Directive) → All (IsFor n) ds → slice_get ds i ≡ Some d → IsFor n d
fits_there n ds i d each e = subst (IsFor n) (get_or_from_slice_get ds i d d e) (All-get_or (IsFor n) ds i d (slice_get_within ds i d e) each)

-- the next directive is begun
turned : (b : Boot) (ds : List Directive) (way : Way) (gs : List (List Line)) (w : WorldState) (d : Directive) → IsValid b → All (IsFor (length b.machines)) ds → IsLed b ds way gs w → NoneLeft (length b.machines) w way.cursor → slice_get ds way.begun ≡ Some d
    → IsLed b ds (record { begun = way.begun + 1; cursor = cursor_of d }) gs w
turned b ds way gs w d valid each h none is =
    let n = length b.machines in
    let few = few_groups b way h.end w h.few in
    let more = few_ahead b d h.stands.steps h.end w valid (fits_there n ds way.begun d each is) h.stands.leads h.stands.stands in
    record {
      end = h.end;
      left = h.left;
      stands = h.stands;
      follows = h.follows
          ∙ (none (drop way.begun ds)
          ∙ (ap (λ (rest : List Directive). world_next_step n w (all_of rest)) (cut ds way.begun d is)
          ∙ begun_next n (world_seen n w) d (drop (way.begun + 1) ds)));
      few = inr (omega (arith, few, more));
    }

-- what comes next, by what is left
pub comes_there : (b : Boot) (ds : List Directive) (way : Way) (gs : List (List Line)) (w : WorldState) (e : Step) (after : Cursor) → (h : IsLed b ds way gs w) → ComesNext (length b.machines) w way.cursor e after
    → world_next_step (length b.machines) w h.left ≡ Some (record { step = e; left = todo_of (length b.machines) after (drop way.begun ds) })
comes_there b ds way gs w e after h comes = h.follows ∙ comes.is (drop way.begun ds)

pub goes_there : (b : Boot) (ds : List Directive) (way : Way) (gs : List (List Line)) (w : WorldState) (e : Step) (after : Cursor) → IsValid b → (h : IsLed b ds way gs w) → ComesNext (length b.machines) w way.cursor e after
    → RunGoes b ds gs h.end w (record { step = e; left = todo_of (length b.machines) after (drop way.begun ds) })
goes_there b ds way gs w e after valid h comes =
    run_goes_on b ds gs h.end h.left w (record { step = e; left = todo_of (length b.machines) after (drop way.begun ds) }) valid h.stands (comes_there b ds way gs w e after h comes)

pub fits_next : (b : Boot) (ds : List Directive) (way : Way) (gs : List (List Line)) (w : WorldState) (e : Step) (after : Cursor) → (h : IsLed b ds way gs w) → ComesNext (length b.machines) w way.cursor e after → IsStep (length b.machines) e
fits_next b ds way gs w e after h comes =
    let n = length b.machines in
    (next_fits n (world_seen n w) h.left (record { step = e; left = todo_of n after (drop way.begun ds) }) h.stands.todo (comes_there b ds way gs w e after h comes)).step

-- nothing comes next before a directive is begun
none_first : (b : Boot) (w : WorldState) (e : Step) (c after : Cursor) → c ≡ first_way.cursor → ComesNext (length b.machines) w c e after → ⊥
none_first b w e c after first comes =
    let n = length b.machines in
    let some : world_next_step n w (todo_of n first_way.cursor []) ≡ Some (record { step = e; left = todo_of n after [] }) = subst (λ (x : Cursor). world_next_step n w (todo_of n x []) ≡ Some (record { step = e; left = todo_of n after [] })) first (comes.is []) in
    let bad : None ≡ Some (record { step = e; left = todo_of n after [] }) = some in
    cc

few_more : (b : Boot) (way : Way) (after : Cursor) (pt next : Point) (w u : WorldState) (e : Step) → ComesNext (length b.machines) w way.cursor e after → ahead b u after next.view < ahead b w way.cursor pt.view → u.groups ≡ w.groups + 1 → Few b way pt w → Few b (record way { cursor = after }) next u
few_more b way after pt next w u e comes fewer one (inl none) = absurd (none_first b w e way.cursor after (ap (λ (x : Way). x.cursor) none.0) comes)
few_more b way after pt next w u e comes fewer one (inr h) = inr (omega (arith, fewer, one, h))

-- one more group
grown : (b : Boot) (ds : List Directive) (way : Way) (gs : List (List Line)) (w : WorldState) (e : Step) (after : Cursor) (lines : List Line) (u : WorldState) → IsValid b → (h : IsLed b ds way gs w) → ComesNext (length b.machines) w way.cursor e after → Does b w e lines u
    → (g : GoesOn b w h.end e) → RunStands b ds (gs ++ g.said.lines ∷ []) g.group.point (todo_of (length b.machines) after (drop way.begun ds)) g.said.state → IsLed b ds (record way { cursor = after }) (gs ++ lines ∷ []) u
grown b ds way gs w e after lines u valid h comes d g on =
    let n = length b.machines in
    let same : g.said ≡ record { state = u; lines = lines } = let i = g.happens in let k = d.happens in cc in
    let state : g.said.state ≡ u = ap (λ (x : Said). x.state) same in
    let later : RunStands b ds (gs ++ lines ∷ []) g.group.point (todo_of n after (drop way.begun ds)) u = subst (λ (x : Said). RunStands b ds (gs ++ x.lines ∷ []) g.group.point (todo_of n after (drop way.begun ds)) x.state) same on in
    let group : IsGroup b h.stands.steps h.end g.group.point w u e g.said = record {
      leads = h.stands.leads;
      stands = h.stands.stands;
      fits = fits_next b ds way gs w e after h comes;
      happens = g.happens;
      state = state;
      group = g.group;
      due = g.due;
      point = refl;
      steps = later.steps;
      later = later.leads;
      behind = later.stands;
    } in
    let fewer = falls_ahead b h.stands.steps h.end g.group.point w u way.cursor after e g.said valid group comes.falls in
    let one = counts b w e (record { state = u; lines = lines }) d.happens in
    record {
      end = g.group.point;
      left = todo_of n after (drop way.begun ds);
      stands = later;
      follows = refl;
      few = few_more b way after h.end g.group.point w u e comes fewer one h.few;
    }

done_there : (b : Boot) (ds : List Directive) (way : Way) (gs : List (List Line)) (w : WorldState) (e : Step) (after : Cursor) (lines : List Line) (u : WorldState) → IsValid b → IsLed b ds way gs w → ComesNext (length b.machines) w way.cursor e after → Does b w e lines u
    → IsLed b ds (record way { cursor = after }) (gs ++ lines ∷ []) u
done_there b ds way gs w e after lines u valid h comes d =
    let k = goes_there b ds way gs w e after valid h comes in
    elim (k.steps d.whole) [
      | inl g ↦ grown b ds way gs w e after lines u valid h comes d g (k.on g d.again)
      | inr s ↦ absurd (let i = s.happens in let j = d.happens in let bad : Says (record { state = u; lines = lines }) ≡ WornOut s.from s.to = cc in cc)
    ]

pub is_led : (b : Boot) (ds : List Directive) (way : Way) (es : List Step) (gs : List (List Line)) (w : WorldState) → IsValid b → All (IsFor (length b.machines)) ds → Led b ds way es gs w → IsLed b ds way gs w
is_led b ds _ _ _ _ valid each starts = record {
  end = first_point b;
  left = all_of ds;
  stands = run_begins b ds valid (directives_fit (length b.machines) ds each);
  follows = refl;
  few = inl (refl, refl);
}
is_led b ds _ _ _ _ valid each (turns way es gs w d before none is) = turned b ds way gs w d valid each (is_led b ds way es gs w valid each before) none is
is_led b ds _ _ _ _ valid each (does way es gs w e after lines u before comes d) = done_there b ds way gs w e after lines u valid (is_led b ds way es gs w valid each before) comes d
