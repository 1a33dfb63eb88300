-- Whatever was told of was routed from one machine to another.
use Rattle.dm_law_moves.proofs.Names.{◌≡◌, ℕ, ◌+◌, ◌≤◌, ◌==◌, ◌&&◌, Bool, true, false, is_some, List, [], ◌∷◌, refl, ap, ◌∙◌, sym, subst, inl, inr, arith, if◌then◌else◌, Option, Some, cases_Bool, false≢true, nat_tests, Pid, MsgId}
use Rattle.dm_law_moves.proofs.Names.{MessageKind, id_eq, Boot, id_eq-is, id_eq-same, bind-is, Step, Line, Leads, Point, after, after_line, first_point, times, Pair, Told, View, seen, OneKernel, hushed, is_put, line_view, set_is}
use Rattle.dm_law_moves.proofs.Names.{set_other, times-append}
use Rattle.dm_law_moves.proofs.After.{group_after}
use Rattle.dm_law_moves.proofs.Ends.Sources.{line_ids}
use Rattle.dm_law_rule.specs.View as view

pub record WasRouted (v : View) (i : MsgId) : Type 0 where
  pub from : ℕ
  pub to : ℕ
  pub is : 1 ≤ times i (v.pair from to).ids

abbrev pub Covers : View → Type 0
Covers v = (i : MsgId) → is_some (v.told i) ≡ true → WasRouted v i

quiet_covers : (s : OneKernel) (v : View) (l : Line) → is_put l ≡ false → Covers v → Covers (seen s v l)
quiet_covers s v l e h i told =
    let same : is_some (v.told i) ≡ true = ap (λ (f : MsgId → Option Told). is_some (f i)) (sym (hushed v l e).told) ∙ told in
    let r = h i same in
    record { from = r.from; to = r.to; is = subst (λ (ids : List MsgId). 1 ≤ times i ids) (sym (line_ids v l e r.from r.to)) r.is }

-- and a put tells of what it routes
put_longer : (v : View) (a b : ℕ) (id : MsgId) (k : MessageKind) (q : Pid) (i : MsgId) (c d : ℕ) → times i (v.pair c d).ids ≤ times i ((view.after_put v a b id k q).pair c d).ids
put_longer v a b id k q i c d = elim (cases_Bool ((a == c) && (b == d))) [
  | inl same ↦
      let one : a ≡ c = grind (arith, nat_tests) in
      let two : b ≡ d = grind (arith, nat_tests) in
      let is = ap (λ (p : Pair). times i p.ids) (set_is v.pair a b (view.routed_on a b (v.pair a b) id) c d same) in
      let old : times i (v.pair a b).ids ≡ times i (v.pair c d).ids = ap (λ (n : ℕ). times i (v.pair n b).ids) one ∙ ap (λ (n : ℕ). times i (v.pair c n).ids) two in
      let more = times-append i (v.pair a b).ids (id ∷ []) in
      omega (arith, is, old, more)
  | inr apart ↦ let is = ap (λ (p : Pair). times i p.ids) (set_other v.pair a b (view.routed_on a b (v.pair a b) id) c d apart) in omega (arith, is)
]

put_there : (v : View) (a b : ℕ) (id : MsgId) (k : MessageKind) (q : Pid) → 1 ≤ times id ((view.after_put v a b id k q).pair a b).ids
put_there v a b id k q =
    let both : ((a == a) && (b == b)) ≡ true = grind (arith, nat_tests) in
    let is = ap (λ (p : Pair). times id p.ids) (set_is v.pair a b (view.routed_on a b (v.pair a b) id) a b both) in
    let more = times-append id (v.pair a b).ids (id ∷ []) in
    let one : times id (id ∷ []) ≡ 1 = ap (λ (c : Bool). (if c then 1 else 0) + 0) (id_eq-same id) in
    omega (arith, is, more, one)

put_covers : (v : View) (a b : ℕ) (id : MsgId) (k : MessageKind) (q : Pid) → Covers v → Covers (view.after_put v a b id k q)
put_covers v a b id k q h i told = elim (cases_Bool (id_eq id i)) [
  | inl e ↦ record { from = a; to = b; is = subst (λ (j : MsgId). 1 ≤ times j ((view.after_put v a b id k q).pair a b).ids) (id_eq-is id i e) (put_there v a b id k q) }
  | inr e ↦
      let t = Some (view.first_told (v.told id) (record { kind = k; receiver = q; about = v.topic })) in
      let same : is_some (v.told i) ≡ true = ap (λ (c : Bool). is_some (if c then t else v.told i)) (sym e) ∙ told in
      let r = h i same in
      let longer = put_longer v a b id k q i r.from r.to in
      let is = r.is in
      record { from = r.from; to = r.to; is = omega (arith, longer, is) }
]

line_covers : (s : OneKernel) (v : View) (l : Line) → Covers v → Covers (seen s v l)
line_covers s v (Line.Put a b id k q) h = put_covers v a b id k q h
line_covers s v any_ h = quiet_covers s v any_ refl h

lines_cover : (ls : List Line) (pt next : Point) → after pt ls ≡ Some next → Covers pt.view → Covers next.view
lines_cover [] pt next e h = let f : pt ≡ next = cc in subst (λ (q : Point). Covers q.view) f h
lines_cover (l ∷ ls) pt next e h =
    let (mid, first, rest) = bind-is (after_line pt l) (λ (q : Point). after q ls) next e in
    lines_cover ls mid next rest (subst Covers (sym (line_view pt mid l first)) (line_covers pt.kernel pt.view l h))

covers_on : (b : Boot) (es : List Step) (pt end : Point) → Leads b pt es end → Covers pt.view → Covers end.view
covers_on b [] pt end leads h = subst (λ (q : Point). Covers q.view) leads h
covers_on b (d ∷ es) pt end (w, fit, is, more) h = covers_on b es w.point end more (lines_cover w.lines pt w.point (group_after b pt d w is) h)

pub covers_always : (b : Boot) (es : List Step) (pt : Point) → Leads b (first_point b) es pt → Covers pt.view
covers_always b es pt leads = covers_on b es (first_point b) pt leads (λ i told. absurd (false≢true told))
