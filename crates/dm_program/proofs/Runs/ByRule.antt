-- What is said of a run of the world is so by the rule.
use Rattle.dm_program.proofs.Runs.Names.{◌≡◌, ℕ, true, List, [], length, drop, drop_all, refl, ap, ◌∙◌, sym, subst, inl, inr, arith, All, None, Some, Boot, IsValid, Step, Directive, EndLine, Line, Next, Todo, first_point, all_of, IsWorn, ends_settled, is_at_rest}
use Rattle.dm_program.proofs.Runs.Names.{at_rest_always, ends_at_rest, ends_quiet, Says, WornOut, todo_of, world_next_step, next_step, end_is_said, next_is_said, quiet_is_said, world_state, World, Stands, WorldState, IsFor, Carried, Carries, IsDone, WorldPlace, WorldWears}
use Rattle.dm_program.proofs.Runs.Names.{by_world, EndsWell, IsGood, Lasts, RulePlace, RuleWears, WearsAfter}
use Rattle.dm_program.proofs.Names.{ends_rested_so, ends_still, by_rule}
use Rattle.dm_program.proofs.Runs.Decisions.{Wearing, ends_once}
use Rattle.dm_program.proofs.Runs.Stands.{IsLed, goes_there, comes_there, is_led}

-- which directive comes next, by the rule
said : (b : Boot) (ds : List Directive) (p : WorldPlace) (gs : List (List Line)) → IsValid b → (h : IsLed b ds p.way gs p.state) → world_next_step (length b.machines) p.state h.left ≡ next_step h.end.kernel.machines h.end h.left
said b ds p gs valid h = next_is_said b h.stands.steps p.state h.end h.left valid h.stands.leads h.stands.stands h.stands.todo

pub over : (b : Boot) (ds : List Directive) (p : WorldPlace) (gs : List (List Line)) → IsValid b → (h : IsLed b ds p.way gs p.state) → IsDone b ds p.state p.way → next_step h.end.kernel.machines h.end h.left ≡ None
over b ds p gs valid h done =
    let n = length b.machines in
    sym (said b ds p gs valid h)
    ∙ (h.follows
    ∙ (ap (λ (rest : List Directive). world_next_step n p.state (todo_of n p.way.cursor rest)) (drop_all p.way.begun ds (let e = done.all in omega (arith, e)))
    ∙ done.none []))

-- a run that is over lasts: no other wears
pub lasts : (b : Boot) (ds : List Directive) (gs : List (List Line)) (p : RulePlace) → IsGood b ds gs p.end p.left → next_step p.end.kernel.machines p.end p.left ≡ None → Lasts b ds
lasts b ds gs p good over groups from to w =
    ends_once b (first_point b) (all_of ds) gs groups p.end w.end p.left w.left from to good.run over w.good.run (record { next = w.next; next_is = w.next_is; worn = w.worn })

rests : (b : Boot) (ds : List Directive) (p : WorldPlace) (gs : List (List Line)) → IsValid b → (h : IsLed b ds p.way gs p.state) → next_step h.end.kernel.machines h.end h.left ≡ None → EndsWell b ds (record { end = h.end; left = h.left })
rests b ds p gs valid h over = record {
  lasts = lasts b ds gs (record { end = h.end; left = h.left }) h.stands.good over;
  rests = λ settled.
      let quiet = ends_quiet b h.stands.steps ds gs h.end h.left valid h.stands.leads h.stands.good.run over settled in
      record { quiet = quiet; lines = ends_at_rest b h.stands.steps h.end valid h.stands.leads quiet };
  forgotten = λ settled. (at_rest_always b h.stands.steps h.end valid h.stands.leads (ends_quiet b h.stands.steps ds gs h.end h.left valid h.stands.leads h.stands.good.run over settled)).forgotten;
  rested = λ last. elim (ends_rested_so b h.stands.steps ds gs h.end h.left valid h.stands.leads h.stands.good.run over last) [
    | inl gone ↦ inl gone
    | inr all ↦ inr (record { rest = all; lines = ends_still b h.stands.steps h.end valid h.stands.leads all; forgotten = (at_rest_always b h.stands.steps h.end valid h.stands.leads all.quiet).forgotten })
  ];
}

wears : (b : Boot) (ds : List Directive) (p : WorldPlace) (gs : List (List Line)) (from to : ℕ) → IsValid b → (h : IsLed b ds p.way gs p.state) → WorldWears b p from to → RuleWears b (record { end = h.end; left = h.left }) from to
wears b ds p gs from to valid h w =
    let n = length b.machines in
    let next : Next = record { step = w.step; left = todo_of n w.after (drop p.way.begun ds) } in
    let k = goes_there b ds p.way gs p.state w.step w.after valid h w.comes in
    elim (k.steps w.wears.whole) [
      | inl g ↦ absurd (let i = g.happens in let j = w.wears.happens in let bad : Says g.said ≡ WornOut from to = cc in cc)
      | inr s ↦
          let e : WornOut s.from s.to ≡ WornOut from to = let i = s.happens in let j = w.wears.happens in cc in
          let one : s.from ≡ from = cc in
          let two : s.to ≡ to = cc in
          record {
            next = next;
            next_is = sym (said b ds p gs valid h) ∙ comes_there b ds p.way gs p.state w.step w.after h w.comes;
            worn = subst (λ (m : ℕ). IsWorn b h.end w.step from m) two (subst (λ (m : ℕ). IsWorn b h.end w.step m s.to) one s.worn);
          }
    ]

by_led : (b : Boot) (ds : List Directive) (gs : List (List Line)) (p : WorldPlace) → IsValid b → IsLed b ds p.way gs p.state → Carried by_world by_rule b ds gs p
by_led b ds gs p valid h = record {
  at = record { end = h.end; left = h.left };
  good = h.stands.good;
  over = λ done. over b ds p gs valid h done;
  rests = λ done. rests b ds p gs valid h (over b ds p gs valid h done);
  wears = λ from to w. wears b ds p gs from to valid h w;
  ends = end_is_said b h.stands.steps p.state h.end valid h.stands.leads h.stands.stands;
  quiet = quiet_is_said b h.stands.steps p.state h.end valid h.stands.leads h.stands.stands;
  stands = λ w e. subst (λ (x : WorldState). Stands b x h.end) (sym e) h.stands.stands;
}

pub carries : (b : Boot) (ds : List Directive) → IsValid b → All (IsFor (length b.machines)) ds → Carries by_world by_rule b ds
carries b ds valid each gs p led = by_led b ds gs p valid (is_led b ds p.way p.steps gs p.state valid each led)
