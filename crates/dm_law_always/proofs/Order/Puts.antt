-- A route, a delivery, a queue and a message that is taken keep the order in which messages were sent.
use Rattle.dm_law_always.proofs.Names.{◌≡◌, ℕ, zero, suc, ◌+◌, ◌==◌, Bool, true, false, List, [], ◌∷◌, ◌++◌, drop, refl, ap, ◌∙◌, sym, subst, is_some, inl, inr, arith, if◌then◌else◌, Some, cases_Bool, nat_tests, Pid, MsgId, MessageKind}
use Rattle.dm_law_always.proofs.Names.{id_of, PlainMessage, OneKernel, counts, id_eq-same, at_machine, at_pair, at_id, untaken, View, Pair, Told, after_put, Each, ◌⊎◌, plain_kind, pair_keeps, ◌&&◌, not, filter, slice_get, Option, None}
use Rattle.dm_law_always.proofs.Names.{false≢true, pid_eq, pid_eq-is, at_record, without_front, after_taken, handled, at_place, context}
use Rattle.dm_law_rule.specs.View as view
use Rattle.dm_law_always.proofs.Queued.{is_user}
use Rattle.dm_law_always.proofs.Order.Lines.{Each-both, thins_same, drop_end, Which, is_one, is_told, awaiting, Sourced, AllTold, Ord, ThinFor, ord_view, thin_same, box_same, told_on, handled_thin, append-assoc, append-none, Last}
use Rattle.dm_law_always.proofs.Order.Lines.{One, one_is, order_last, order_not, pair_at, pair_off, pair_on, pair_else, box_on, box_off, order_as}

-- pairs whose messages stay
pub thin_pair : (q : Which) (v : View) (a c : ℕ) (p : Pair) → untaken p ≡ untaken (v.pair a c) → ThinFor q v (view.with_pair v a c p)
thin_pair q v a c p same = thin_same q v (view.with_pair v a c p) refl (box_same v q.to.home) (λ x. pair_keeps v.pair a c p same x q.to.home) (λ j. refl)

-- routes
told_put : (v : View) (j : MsgId) (t : Told) (i : MsgId) → is_told v i ≡ true → is_some (at_id v.told j (Some t) i) ≡ true
told_put v j t i e = search (arith, v.told)

told_now : (v : View) (j : MsgId) (t : Told) → is_some (at_id v.told j (Some t) j) ≡ true
told_now v j t = ap (λ (c : Bool). is_some (if c then Some t else v.told j)) (id_eq-same j)

abbrev after : View → ℕ → MsgId → MessageKind → Pid → View
after v c j k p = after_put v v.acting c j k p

abbrev new_told : View → MsgId → MessageKind → Pid → Told
new_told v j k p = view.first_told (v.told j) (record { kind = k; receiver = p; about = v.topic })

drop_put : (n : ℕ) (xs : List MsgId) (j : MsgId) → drop n xs ≡ [] → drop (suc n) (xs ++ j ∷ []) ≡ []
drop_put zero [] j e = refl
drop_put zero (x ∷ xs) j e = cc
drop_put (suc n) [] j e = refl
drop_put (suc n) (x ∷ xs) j e = drop_put n xs j e

-- to itself
put_home : (q : Which) (s : OneKernel) (v : View) (j : MsgId) (x : PlainMessage) (k : MessageKind) (p : Pid) → ((i : MsgId) (y : PlainMessage) → s.bag i ≡ Some y → counts s i ≡ true) → (is_one s q j ≡ true → Last s v j) → (v.acting == q.to.home) ≡ true → Ord q s v → Ord q s (after v q.to.home j k p)
put_home q s v j x k p bagged last home h =
    let m = q.to.home in
    let a = v.acting in
    let w = after v m j k p in
    let am : a ≡ m = grind (arith, nat_tests) in
    let g = is_one s q in
    let Q = v.queue m q.to in
    let I = v.inbox m in
    let U = untaken (v.pair q.from.home m) in
    let box : w.inbox m ≡ I ++ j ∷ [] = ap (λ (c : Bool). (if c then at_machine v.inbox m (v.inbox m ++ j ∷ []) else v.inbox) m) home ∙ box_on v.inbox m (I ++ j ∷ []) in
    let none : untaken (v.pair a m) ≡ [] = ap (λ n. untaken (v.pair n m)) am ∙ h.loop in
    let routed : untaken (view.routed_on a m (v.pair a m) j) ≡ [] =
    ap (λ (c : Bool). drop (if c then (v.pair a m).taken + 1 else (v.pair a m).taken) ((v.pair a m).ids ++ j ∷ [])) home ∙ ap (λ n. drop n ((v.pair a m).ids ++ j ∷ [])) (let e : (v.pair a m).taken + 1 ≡ suc (v.pair a m).taken = omega arith in e) ∙ drop_put (v.pair a m).taken (v.pair a m).ids j none in
    let away : (y : ℕ) → untaken (w.pair y m) ≡ untaken (v.pair y m) = pair_keeps_at a m (view.routed_on a m (v.pair a m) j) routed none in
    let told : (i : MsgId) → is_told v i ≡ true → is_told w i ≡ true = (λ i e. told_put v j (new_told v j k p) i e) in
    let list : awaiting q w ≡ Q ++ ((I ++ j ∷ []) ++ U) = ap (λ xs. Q ++ (xs ++ untaken (w.pair q.from.home m))) box ∙ ap (λ xs. Q ++ ((I ++ j ∷ []) ++ xs)) (away q.from.home) in
    record {
      order = order_as g q.floor (Q ++ ((I ++ j ∷ []) ++ U)) (awaiting q w) list (elim (cases_Bool (g j)) [
        | inl mine ↦
            let o = one_is s q j mine in
            let l = last mine in
            let from : q.from.home ≡ m = ap (λ (r : Pid). r.home) (sym o.from) ∙ l.home ∙ am in
            let empty : U ≡ [] = ap (λ n. untaken (v.pair n m)) from ∙ h.loop in
            order_as g q.floor (awaiting q v ++ j ∷ []) (Q ++ ((I ++ j ∷ []) ++ U))
            (ap (λ xs. Q ++ ((I ++ j ∷ []) ++ xs)) empty ∙ ap (λ xs. Q ++ xs) (append-none (I ++ j ∷ [])) ∙ sym (append-assoc Q I (j ∷ [])) ∙ ap (λ xs. (Q ++ xs) ++ j ∷ []) (sym (append-none I)) ∙ ap (λ xs. (Q ++ (I ++ xs)) ++ j ∷ []) (sym empty))
            (order_last q s v j bagged h mine l)
        | inr other ↦
            order_as g q.floor ((Q ++ I) ++ j ∷ U) (Q ++ ((I ++ j ∷ []) ++ U)) (ap (λ xs. Q ++ xs) (append-assoc I (j ∷ []) U) ∙ sym (append-assoc Q I (j ∷ U)))
            (order_not g q.floor (Q ++ I) U j other (order_as g q.floor (awaiting q v) ((Q ++ I) ++ U) (append-assoc Q I U) h.order))
      ]);
      floor = h.floor;
      last_told = λ n e. told (id_of q.from n) (h.last_told n e);
      queue_told = told_on v w Q told h.queue_told;
      inbox_told = subst (AllTold w) (sym box) (Each-both (λ (i : MsgId). is_told w i ≡ true) I (j ∷ []) (told_on v w I told h.inbox_told) (told_now v j (new_told v j k p), tt));
      away_told = λ y. subst (AllTold w) (sym (away y)) (told_on v w (untaken (v.pair y m)) told (h.away_told y));
      sourced = λ y. subst (Each (Sourced s y)) (sym (away y)) (h.sourced y);
      loop = away m ∙ h.loop;
    }
  where
    pair_keeps_at : (a m : ℕ) (p : Pair) → untaken p ≡ [] → untaken (v.pair a m) ≡ [] → (y : ℕ) → untaken (at_pair v.pair a m p y m) ≡ untaken (v.pair y m)
    pair_keeps_at a m p e f y = pair_keeps v.pair a m p (e ∙ sym f) y m

-- to another machine
put_away : (q : Which) (s : OneKernel) (v : View) (j : MsgId) (x : PlainMessage) (k : MessageKind) (p : Pid) → s.bag j ≡ Some x → ((i : MsgId) (y : PlainMessage) → s.bag i ≡ Some y → counts s i ≡ true) → (is_user x.what ≡ true → Last s v j) → (v.acting == q.to.home) ≡ false
    → Ord q s v → Ord q s (after v q.to.home j k p)
put_away q s v j x k p there bagged last away h =
    let m = q.to.home in
    let a = v.acting in
    let w = after v m j k p in
    let g = is_one s q in
    let Q = v.queue m q.to in
    let I = v.inbox m in
    let pr = view.routed_on a m (v.pair a m) j in
    let old = untaken (v.pair a m) in
    let box : w.inbox m ≡ I = ap (λ (c : Bool). (if c then at_machine v.inbox m (v.inbox m ++ j ∷ []) else v.inbox) m) away in
    let now : untaken pr ≡ drop (v.pair a m).taken ((v.pair a m).ids ++ j ∷ []) = ap (λ (c : Bool). drop (if c then (v.pair a m).taken + 1 else (v.pair a m).taken) ((v.pair a m).ids ++ j ∷ [])) away in
    let ends : (untaken pr ≡ old ++ j ∷ []) ⊎ (untaken pr ≡ []) = elim (drop_end (v.pair a m).taken (v.pair a m).ids j) [
      | inl e ↦ inl (now ∙ e)
      | inr e ↦ inr (now ∙ e)
    ] in
    let told : (i : MsgId) → is_told v i ≡ true → is_told w i ≡ true = (λ i e. told_put v j (new_told v j k p) i e) in
    let source : Sourced s a j = (λ y e user. (let f : Some x ≡ Some y = sym there ∙ e in let xy : x ≡ y = cc in (last (ap (λ (z : PlainMessage). is_user z.what) xy ∙ user)).home)) in
    record {
      order = elim (cases_Bool (a == q.from.home)) [
        | inr other ↦
            order_as g q.floor (awaiting q v) (awaiting q w) (ap (λ xs. Q ++ (xs ++ untaken (w.pair q.from.home m))) box ∙ ap (λ xs. Q ++ (I ++ xs)) (pair_else v.pair a m q.from.home m pr other)) h.order
        | inl same ↦
            let is : a ≡ q.from.home = grind (arith, nat_tests) in
            let list : awaiting q w ≡ Q ++ (I ++ untaken pr) = ap (λ xs. Q ++ (xs ++ untaken (w.pair q.from.home m))) box ∙ ap (λ n. Q ++ (I ++ untaken (w.pair n m))) (sym is) ∙ ap (λ xs. Q ++ (I ++ xs)) (pair_on v.pair a m pr) in
            let was : awaiting q v ≡ Q ++ (I ++ old) = ap (λ n. Q ++ (I ++ untaken (v.pair n m))) (sym is) in
            order_as g q.floor (Q ++ (I ++ untaken pr)) (awaiting q w) list (elim ends [
              | inr none ↦
                  order_as g q.floor (Q ++ (I ++ [])) (Q ++ (I ++ untaken pr)) (ap (λ xs. Q ++ (I ++ xs)) none)
                  (context g q.floor Q (I ++ old) (I ++ []) (λ d e. context g d I old [] (λ d e. refl) e) (order_as g q.floor (awaiting q v) (Q ++ (I ++ old)) (sym was) h.order))
              | inl more ↦
                  order_as g q.floor (awaiting q v ++ j ∷ []) (Q ++ (I ++ untaken pr))
                  (ap (λ xs. Q ++ (I ++ xs)) more ∙ ap (λ xs. Q ++ xs) (sym (append-assoc I old (j ∷ []))) ∙ sym (append-assoc Q (I ++ old) (j ∷ [])) ∙ ap (λ xs. xs ++ j ∷ []) (sym was))
                  (elim (cases_Bool (g j)) [
                    | inl mine ↦ order_last q s v j bagged h mine (last (user_of (one_is s q j mine)))
                    | inr not_ ↦ order_not g q.floor (awaiting q v) [] j not_ (order_as g q.floor (awaiting q v) (awaiting q v ++ []) (append-none (awaiting q v)) h.order)
                  ])
            ])
      ];
      floor = h.floor;
      last_told = λ n e. told (id_of q.from n) (h.last_told n e);
      queue_told = told_on v w Q told h.queue_told;
      inbox_told = subst (AllTold w) (sym box) (told_on v w I told h.inbox_told);
      away_told = λ y. pair_at v.pair a m y m pr (AllTold w) (λ ay mm. elim ends [
        | inl more ↦ subst (AllTold w) (sym more) (Each-both (λ (i : MsgId). is_told w i ≡ true) old (j ∷ []) (told_on v w old told (h.away_told a)) (told_now v j (new_told v j k p), tt))
        | inr none ↦ subst (AllTold w) (sym none) tt
      ]) (told_on v w (untaken (v.pair y m)) told (h.away_told y));
      sourced = λ y. pair_at v.pair a m y m pr (Each (Sourced s y)) (λ ay mm. elim ends [
        | inl more ↦ subst (Each (Sourced s y)) (sym more) (subst (λ n. Each (Sourced s n) (old ++ j ∷ [])) ay (Each-both (Sourced s a) old (j ∷ []) (h.sourced a) (source, tt)))
        | inr none ↦ subst (Each (Sourced s y)) (sym none) tt
      ]) (h.sourced y);
      loop = pair_else v.pair a m m m pr away ∙ h.loop;
    }
  where
    user_of : One s q j → is_user x.what ≡ true
    user_of o = let f : Some o.x ≡ Some x = sym o.there ∙ there in let ox : o.x ≡ x = cc in sym (ap (λ (z : PlainMessage). is_user z.what) ox) ∙ o.user

pub ord_put : (q : Which) (s : OneKernel) (v : View) (c : ℕ) (j : MsgId) (x : PlainMessage) → s.bag j ≡ Some x → ((i : MsgId) (y : PlainMessage) → s.bag i ≡ Some y → counts s i ≡ true) → (is_user x.what ≡ true → Last s v j) → Ord q s v → Ord q s (after_put v v.acting c j (plain_kind x.what) x.to)
ord_put q s v c j x there bagged last h = elim (cases_Bool (c == q.to.home)) [
  | inr off ↦ ord_view q s v (after v c j (plain_kind x.what) x.to) (search (arith, thins_same, v.queue, q.to.home, q.to, v.inbox, v.acting, pair_off, v.pair, told_put, box_off)) h
  | inl same ↦
      let is : c ≡ q.to.home = grind (arith, nat_tests) in
      subst (λ n. Ord q s (after v n j (plain_kind x.what) x.to)) (sym is) (elim (cases_Bool (v.acting == q.to.home)) [
        | inl home ↦ put_home q s v j x (plain_kind x.what) x.to bagged (λ mine. last (user_of (one_is s q j mine))) home h
        | inr away ↦ put_away q s v j x (plain_kind x.what) x.to there bagged last away h
      ])
]
  where
    user_of : One s q j → is_user x.what ≡ true
    user_of o = let f : Some o.x ≡ Some x = sym o.there ∙ there in let ox : o.x ≡ x = cc in sym (ap (λ (z : PlainMessage). is_user z.what) ox) ∙ o.user

place_none : (xs : List MsgId) (k : ℕ) → slice_get xs k ≡ None → drop (suc k) xs ≡ drop k xs
place_none [] zero e = refl
place_none [] (suc k) e = refl
place_none (y ∷ ys) zero e = cc
place_none (y ∷ ys) (suc k) e = place_none ys k e

abbrev taken_pair : Pair → ℕ → Pair
taken_pair p n = record p { taken = p.taken + 1; kept = filter (λ k. not (k == n)) p.kept }

taken_is : (p : Pair) (n : ℕ) → untaken (taken_pair p n) ≡ drop (suc p.taken) p.ids
taken_is p n = let e : p.taken + 1 ≡ suc p.taken = omega arith in ap (λ k. drop k p.ids) e

none_here : (q : Which) (s : OneKernel) (v : View) (a n : ℕ) (o : Option MsgId) → slice_get (v.pair a q.to.home).ids (v.pair a q.to.home).taken ≡ o → Ord q s v → Ord q s (view.taken_id (view.with_pair v a q.to.home (taken_pair (v.pair a q.to.home) n)) q.to.home o)
none_here q s v a n None is h = search (arith, ord_view, thin_pair, taken_is, place_none)
none_here q s v a n (Some i) is h =
    let m = q.to.home in
    let p = v.pair a m in
    let r = taken_pair p n in
    let w = view.taken_id (view.with_pair v a m r) m (Some i) in
    let g = is_one s q in
    let Q = v.queue m q.to in
    let I = v.inbox m in
    let U = untaken (v.pair q.from.home m) in
    let rest = untaken r in
    let first : untaken p ≡ i ∷ rest = at_place p.ids p.taken i is ∙ ap (λ xs. i ∷ xs) (sym (taken_is p n)) in
    let box : w.inbox m ≡ I ++ i ∷ [] = box_on v.inbox m (I ++ i ∷ []) in
    let told : AllTold v (i ∷ rest) = subst (AllTold v) first (h.away_told a) in
    let sourced : Each (Sourced s a) (i ∷ rest) = subst (Each (Sourced s a)) first (h.sourced a) in
    record {
      order = elim (cases_Bool (a == q.from.home)) [
        | inl same ↦
            let e : a ≡ q.from.home = grind (arith, nat_tests) in
            order_as g q.floor (awaiting q v) (awaiting q w)
            (ap (λ xs. Q ++ (xs ++ untaken (w.pair q.from.home m))) box ∙ ap (λ k. Q ++ ((I ++ i ∷ []) ++ untaken (w.pair k m))) (sym e) ∙ ap (λ xs. Q ++ ((I ++ i ∷ []) ++ xs)) (pair_on v.pair a m r) ∙ ap (λ xs. Q ++ xs) (append-assoc I (i ∷ []) rest)
            ∙ ap (λ xs. Q ++ (I ++ xs)) (sym first) ∙ ap (λ k. Q ++ (I ++ untaken (v.pair k m))) e) h.order
        | inr other ↦
            let not_one : g i ≡ false = never (g i) (λ one. let o = one_is s q i one in let from : q.from.home ≡ a = ap (λ (x : Pid). x.home) (sym o.from) ∙ sourced.0 o.x o.there o.user in let same : (a == q.from.home) ≡ true = grind (arith, nat_tests) in sym other ∙ same) in
            order_as g q.floor ((Q ++ I) ++ i ∷ U) (awaiting q w)
            (ap (λ xs. Q ++ (xs ++ untaken (w.pair q.from.home m))) box ∙ ap (λ xs. Q ++ ((I ++ i ∷ []) ++ xs)) (pair_else v.pair a m q.from.home m r other) ∙ ap (λ xs. Q ++ xs) (append-assoc I (i ∷ []) U) ∙ sym (append-assoc Q I (i ∷ U)))
            (order_not g q.floor (Q ++ I) U i not_one (order_as g q.floor (awaiting q v) ((Q ++ I) ++ U) (append-assoc Q I U) h.order))
      ];
      floor = h.floor;
      last_told = h.last_told;
      queue_told = h.queue_told;
      inbox_told = subst (AllTold v) (sym box) (Each-both (λ (j : MsgId). is_told v j ≡ true) I (i ∷ []) h.inbox_told (told.0, tt));
      away_told = λ y. pair_at v.pair a m y m r (AllTold v) (λ ay mm. told.1) (h.away_told y);
      sourced = λ y. pair_at v.pair a m y m r (Each (Sourced s y)) (λ ay mm. subst (λ k. Each (Sourced s k) rest) ay sourced.1) (h.sourced y);
      loop = pair_at v.pair a m m m r (λ (xs : List MsgId). xs ≡ []) (λ am mm. absurd (let e : i ∷ rest ≡ [] = sym first ∙ ap (λ k. untaken (v.pair k m)) am ∙ h.loop in cc)) h.loop;
    }
  where
    never : (c : Bool) → (c ≡ true → false ≡ true) → c ≡ false
    never false f = refl
    never true f = absurd (false≢true (f refl))

pub ord_taken : (q : Which) (s : OneKernel) (v : View) (a c n : ℕ) → Ord q s v → Ord q s (after_taken v a c n)
ord_taken q s v a c n h = elim (cases_Bool (c == q.to.home)) [
  | inr off ↦ ord_view q s v (after_taken v a c n) (search (arith, thin_same, v.pair, box_same, q.to.home, pair_off, thins_same, v.inbox, box_off)) h
  | inl same ↦
      let is : c ≡ q.to.home = grind (arith, nat_tests) in
      subst (λ k. Ord q s (after_taken v a k n)) (sym is) (none_here q s v a n (slice_get (v.pair a q.to.home).ids (v.pair a q.to.home).taken) refl h)
]

-- queued
pub queue_on : (f : ℕ → Pid → List MsgId) (a m : ℕ) (p r : Pid) (xs : List MsgId) → a ≡ m → pid_eq p r ≡ true → at_record f a p xs m r ≡ xs
queue_on f a m p r xs e same = let k : (a == m) ≡ true = grind (arith, nat_tests) in ap (λ (c : Bool). if c && pid_eq p r then xs else f m r) k ∙ ap (λ (c : Bool). if c then xs else f m r) same

front_is : (i : MsgId) (is : List MsgId) → without_front i (i ∷ is) ≡ is
front_is i is = ap (λ (c : Bool). if c then is else i ∷ is) (id_eq-same i)

pub ord_queued : (q : Which) (s : OneKernel) (v : View) (i : MsgId) (is : List MsgId) (p : Pid) → v.inbox v.acting ≡ i ∷ is → p.home ≡ v.acting → is_told v i ≡ true → Ord q s v → Ord q s (view.queued_for (handled v i) i (Some p))
ord_queued q s v i is p box home now h =
    let u = handled v i in
    let w = view.queued_for u i (Some p) in
    let m = q.to.home in
    elim (cases_Bool (pid_eq p q.to)) [
      | inr other ↦
          ord_view q s v w (search (arith, thins_same, w.queue, q.to, v.queue, handled_thin)) h
      | inl same ↦
          let is_p : p ≡ q.to = pid_eq-is p q.to same in
          let at : v.acting ≡ m = sym home ∙ ap (λ (r : Pid). r.home) is_p in
          let Q = v.queue m q.to in
          let U = untaken (v.pair q.from.home m) in
          let front : v.inbox m ≡ i ∷ is = ap v.inbox (sym at) ∙ box in
          let inbox : w.inbox m ≡ is = ap (λ k. at_machine v.inbox k (without_front i (v.inbox k)) m) at ∙ box_on v.inbox m (without_front i (v.inbox m)) ∙ ap (without_front i) front ∙ front_is i is in
          let queue : w.queue m q.to ≡ Q ++ i ∷ [] = queue_on v.queue v.acting m p q.to (v.queue v.acting p ++ i ∷ []) at same ∙ ap (λ k. v.queue k p ++ i ∷ []) at ∙ ap (λ r. v.queue m r ++ i ∷ []) is_p in
          let told : AllTold v (i ∷ is) = subst (AllTold v) front h.inbox_told in
          search (arith, order_as, q.floor, w.inbox, append-assoc, h.order, h.floor, h.last_told, Each-both, h.queue_told, told.1, h.away_told, h.sourced, h.loop)
    ]
