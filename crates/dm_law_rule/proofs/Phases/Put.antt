-- The next message about a process that moves is put.
use Rattle.dm_law_rule.proofs.Names.{◌≡◌, ◌⊎◌, ℕ, ◌+◌, ◌≤◌, ◌==◌, Bool, true, false, List, [], ◌∷◌, ◌++◌, drop, refl, ap, ◌∙◌, sym, subst, inl, inr, arith, if◌then◌else◌, Option, None, Some, cases_Bool, false≢true, drop-append-le, Pid, pid_of}
use Rattle.dm_law_rule.proofs.Names.{pid_eq, MsgId, MessageKind, id_eq, at_machine, View, Told, About, Of, own_id, after_put, routed_on, Spot, Inbox, Untaken, times, untaken, standing, StandsOnce, Phase, Moves, knows, sender_in, receiver_in}
use Rattle.dm_law_rule.proofs.Names.{told_between, HasToken, IsIn, id_eq-is, id_eq-same, pid_eq-same, false_from_ne_true, id_of, is_kernels, nat_lt, nat_tests, not, not-true, right_true, ◌<◌, sort_of, is_between, IsWay, IsLeft, IsBefore, Comes}
use Rattle.dm_law_rule.proofs.Names.{ComesIn, brings_piece}
use Rattle.dm_message.specs.declared.kind.MessageKind.TheVariants as kind
use Rattle.dm_law_rule.proofs.Telling.{Numbered}
use Rattle.dm_law_rule.proofs.Phases.Calm.{left_on, left_same}
use Rattle.dm_law_rule.specs.View as view
use Rattle.dm_law_rule.proofs.Standing.{spot_cases, once_at, times-append}
use Rattle.dm_law_rule.proofs.Once.{one_of}
use Rattle.dm_law_rule.proofs.Lines.{at_machine_at, pair_at}
use Rattle.dm_law_rule.proofs.States.{PairsFit, put_told_off}
use Rattle.dm_law_rule.proofs.Phases.Lines.{put_spots, put_at}
use Rattle.dm_law_rule.proofs.Phases.Stand.{PhasesBut, InPhases, some_only, phase_set, calls_in, piece_ways, called_known}

-- where it stands then
abbrev pub put_spot : ℕ → ℕ → Spot
put_spot a b = if a == b then Inbox b else Untaken a b

pub last_there : (i : MsgId) (xs : List MsgId) → 1 ≤ times i (xs ++ i ∷ [])
last_there i xs = let a = times-append i xs (i ∷ []) in let one : one_of i i ≡ 1 = ap (λ (c : Bool). if c then 1 else 0) (id_eq-same i) in omega (arith, a, one)

put_by : (v : View) (a b : ℕ) (i : MsgId) (k : MessageKind) (q : Pid) (c : Bool) → (a == b) ≡ c → PairsFit v → 1 ≤ standing (after_put v a b i k q) i (if c then Inbox b else Untaken a b)
put_by v a b i k q true is fits =
    let l = last_there i (v.inbox b) in omega (arith, ap (λ (c : Bool). times i ((if c then at_machine v.inbox b (v.inbox b ++ i ∷ []) else v.inbox) b)) is ∙ ap (times i) (at_machine_at v.inbox b (v.inbox b ++ i ∷ [])), l)
put_by v a b i k q false is fits =
    let p = v.pair a b in
    let at : untaken ((after_put v a b i k q).pair a b) ≡ untaken p ++ i ∷ [] = ap untaken (pair_at v.pair a b (routed_on a b p i)) ∙ ap (λ (c : Bool). drop (if c then p.taken + 1 else p.taken) (p.ids ++ i ∷ [])) is ∙ drop-append-le p.taken p.ids (i ∷ []) (fits.within a b) in
    omega (arith, ap (times i) at, last_there i (untaken p))

pub put_there : (v : View) (a b : ℕ) (i : MsgId) (k : MessageKind) (q : Pid) → PairsFit v → 1 ≤ standing (after_put v a b i k q) i (put_spot a b)
put_there v a b i k q fits = put_by v a b i k q (a == b) refl fits

spot_ways : (a b : ℕ) (c : Bool) → (if c then Inbox b else Untaken a b) ≡ (if c then Inbox b else Untaken a b) → ((if c then Inbox b else Untaken a b) ≡ Inbox b) ⊎ ((if c then Inbox b else Untaken a b) ≡ Untaken a b)
spot_ways a b true e = inl refl
spot_ways a b false e = inr refl

one_way : (f : Spot → ℕ) (x z : Spot) (a b : ℕ) → StandsOnce f → 1 ≤ f x → (x ≡ Inbox b) ⊎ (x ≡ Untaken a b) → 1 ≤ f z → (z ≡ Inbox b) ⊎ (z ≡ Untaken a b)
one_way f x z a b once least ways there = elim (spot_cases z x) [
  | inl is ↦ subst (λ (y : Spot). (y ≡ Inbox b) ⊎ (y ≡ Untaken a b)) (sym is) ways
  | inr apart ↦ absurd (let none : f z ≡ 0 = (once_at f x once least).1 z apart in omega (arith, there, none))
]

-- a process whose next message is due, and what is told of it
abbrev pub next_told : View → MessageKind → ℕ → Told
next_told v k b = record { kind = k; receiver = pid_of b 0; about = v.topic }

pub first_none : (o : Option Told) (u : Told) → o ≡ None → Some (view.first_told o u) ≡ Some u
first_none None u e = refl
first_none (Some t) u e = cc

pub of_same : (p q : Pid) → Of p ≡ Of q → p ≡ q
of_same p q e = cc

others_has : (v w : View) (q : Pid) (phase : Phase) (i : MsgId) → ((j : MsgId) (t : Told) → v.told j ≡ Some t → id_eq i j ≡ false) → ((j : MsgId) → id_eq i j ≡ false → w.told j ≡ v.told j)
    → ((j : MsgId) → id_eq i j ≡ false → (z : Spot) → standing w j z ≡ standing v j z) → HasToken v q phase → HasToken w q phase
others_has v w q (Moves k s d (Some id)) i kept told spots h =
    let apart = kept id (told_between q k s d) h.told in
    search arith
others_has v w q _ i kept told spots h = tt

-- a message that was put, and the others as before: what it is to this process
put_in : (v w : View) (q : Pid) (phase : Phase) (i : MsgId) (u : Told) → ((m : ℕ) → w.known m q ≡ v.known m q) → w.come q ≡ v.come q → w.told i ≡ Some u → (is_between u.kind ≡ true → u.about ≡ Of q → IsLeft w q phase i u) → ((j : MsgId) → id_eq i j ≡ false → w.told j ≡ v.told j)
    → ((j : MsgId) → id_eq i j ≡ false → (z : Spot) → standing w j z ≡ standing v j z) → ((j : MsgId) (t : Told) → v.told j ≡ Some t → id_eq i j ≡ false) → IsIn v q phase → IsIn w q phase
put_in v w q phase i u same come told_i mine told spots kept h = record {
  known = λ m. ap (knows phase m) (same m) ∙ h.known m;
  token = others_has v w q phase i kept told spots h.token;
  alone = λ j t z tj bt ab st. elim (cases_Bool (id_eq i j)) [
    | inl is ↦
        (let ij : i ≡ j = id_eq-is i j is in
        let f : Some u ≡ Some t = sym told_i ∙ ap w.told ij ∙ tj in
        let g : u ≡ t = cc in
        inr (subst (λ (x : MsgId). IsLeft w q phase x t) ij (subst (λ (x : Told). IsLeft w q phase i x) g (mine (ap (λ (x : Told). is_between x.kind) g ∙ bt) (ap (λ (x : Told). x.about) g ∙ ab)))))
    | inr apart ↦ elim (h.alone j t z (sym (told j apart) ∙ tj) bt ab (subst (λ n. 1 ≤ n) (spots j apart z) st)) [
      | inl is ↦ inl is
      | inr left ↦ inr (left_same v w q phase j t (λ y s. inl (subst (λ n. 1 ≤ n) (spots j apart y) s)) same left)
    ]
  ];
  apart = h.apart;
  come = subst (λ (x : Bool). ComesIn phase x) (sym come) h.come;
}

-- it is about another process
put_others : (v w : View) (p q : Pid) (phase : Phase) (i : MsgId) (u : Told) → pid_eq p q ≡ false → ((m : ℕ) → w.known m q ≡ v.known m q) → w.come q ≡ v.come q → w.told i ≡ Some u → u.about ≡ Of p → ((j : MsgId) → id_eq i j ≡ false → w.told j ≡ v.told j)
    → ((j : MsgId) → id_eq i j ≡ false → (z : Spot) → standing w j z ≡ standing v j z) → ((j : MsgId) (t : Told) → v.told j ≡ Some t → id_eq i j ≡ false) → IsIn v q phase → IsIn w q phase
put_others v w p q phase i u off same come told_i about told spots kept h =
    put_in v w q phase i u same come told_i (λ b a. absurd (false≢true (sym off ∙ ap (pid_eq p) (sym (of_same p q (sym about ∙ a))) ∙ pid_eq-same p))) told spots kept h

-- what a kernel has put has a lower number than what it puts next
pub put_before : (v : View) (a : ℕ) (j : MsgId) (t : Told) → Numbered v → j.from ≡ pid_of a 0 → is_kernels j ≡ true → v.told j ≡ Some t → j.n < v.count a
put_before v a j t numbered from own told = elim (cases_Bool (nat_lt j.n (v.count a))) [
  | inl less ↦ grind (arith, nat_tests)
  | inr past ↦
      (let le : v.count a ≤ j.n = grind (arith, nat_tests) in
      let plain : j.answer ≡ false = not-true j.answer (right_true (j.from.num == 0) (not j.answer) own) in
      let is : j ≡ id_of (pid_of a 0) j.n = λ x. record { from = from x; n = j.n; answer = plain x } in
      let f : None ≡ Some t = sym (numbered a j.n le) ∙ ap v.told (sym is) ∙ told in
      cc)
]

-- a message of its kernel that was put before
before_next : (v : View) (m to : ℕ) (i j : MsgId) (t : Told) → Numbered v → IsWay v j m to → v.acting ≡ m → i ≡ own_id v → v.told j ≡ Some t → j.n < i.n
before_next v m to i j t numbered way at own told =
    let less : j.n < v.count m = put_before v m j t numbered way.sender way.own told in
    let same : i.n ≡ v.count m = ap (λ (x : MsgId). x.n) own ∙ ap v.count at in
    omega (arith, less, same)

-- what is left over stands before the next message of its kernel
next_left : (v w : View) (p : Pid) (k : MessageKind) (s d : ℕ) (i j : MsgId) (t : Told) → Numbered v → v.told j ≡ Some t → v.acting ≡ sender_in k s d → i ≡ own_id v → ((z : Spot) → standing w j z ≡ standing v j z)
    → ((m : ℕ) → w.known m p ≡ v.known m p) → IsLeft v p (Moves k s d None) j t → IsLeft w p (Moves k s d (Some i)) j t
next_left v w p k s d i j t numbered told acting own spots same left =
    left_on v w p (Moves k s d None) (Moves k s d (Some i)) j t (λ z st. inl (subst (λ n. 1 ≤ n) (spots z) st))
    (λ a b o pulls way is first.
    (let kind_is : k ≡ kind.CallOff = cc in
    let to : d ≡ b = cc in
    let from : s ≡ a = cc in (
      Some i,
      (let e : Moves k s d (Some i) ≡ Moves kind.CallOff a b (Some i) = cc in e),
      before_next v b a i j t numbered way (acting ∙ ap (λ (m : MessageKind). sender_in m s d) kind_is ∙ to) own told,
    )))
    (λ a b brings way off first now. off (sym (same b) ∙ now))
    (λ a b o brings way first is.
    (let kind_is : k ≡ kind.Ask = cc in
    let from : s ≡ a = cc in
    let id : Some i ≡ o = cc in
    subst (λ (x : Option MsgId). IsBefore j x) id (before_next v a b i j t numbered way (acting ∙ ap (λ (m : MessageKind). sender_in m s d) kind_is ∙ from) own told)))
    left

-- where the kernel's next message stands
own_ways : (v : View) (b : ℕ) (k : MessageKind) (q : Pid) (z : Spot) → PairsFit v → StandsOnce (standing (after_put v v.acting b (own_id v) k q) (own_id v)) → 1 ≤ standing (after_put v v.acting b (own_id v) k q) (own_id v) z → (z ≡ Inbox b) ⊎ (z ≡ Untaken v.acting b)
own_ways v b k q z fits once st =
    let i = own_id v in
    let w = after_put v v.acting b i k q in
    one_way (standing w i) (put_spot v.acting b) z v.acting b once (put_there v v.acting b i k q fits) (spot_ways v.acting b (v.acting == b) refl) st

pub own_put_phases : (v : View) (p : Pid) (k : MessageKind) (s d : ℕ) (h : PhasesBut (Some p) v) → PairsFit v → Numbered v → h.of p ≡ Moves k s d None → v.topic ≡ Of p → v.acting ≡ sender_in k s d → v.told (own_id v) ≡ None
    → StandsOnce (standing (after_put v v.acting (receiver_in k s d) (own_id v) k (pid_of (receiver_in k s d) 0)) (own_id v))
    → InPhases (after_put v v.acting (receiver_in k s d) (own_id v) k (pid_of (receiver_in k s d) 0))
own_put_phases v p k s d h fits numbered phase topic acting untold once =
    let i = own_id v in
    let b = receiver_in k s d in
    let w = after_put v v.acting b i k (pid_of b 0) in
    let u = next_told v k b in
    let told_i : w.told i ≡ Some u = put_at v v.acting b i k (pid_of b 0) ∙ first_none (v.told i) u untold in
    let told_off : (j : MsgId) → id_eq i j ≡ false → w.told j ≡ v.told j = λ j apart. put_told_off v v.acting b i j k (pid_of b 0) apart in
    let spots : (j : MsgId) → id_eq i j ≡ false → (z : Spot) → standing w j z ≡ standing v j z = λ j apart z. put_spots v v.acting b i j k (pid_of b 0) fits apart z in
    let kept : (j : MsgId) (t : Told) → v.told j ≡ Some t → id_eq i j ≡ false = λ j t e. false_from_ne_true (id_eq i j) (λ x. let is : i ≡ j = id_eq-is i j x in let f : None ≡ Some t = sym untold ∙ ap v.told is ∙ e in cc) in
    let mine : IsIn v p (Moves k s d None) = subst (λ (x : Phase). IsIn v p x) phase (h.each p) in
    phase_set v w p (Moves k s d (Some i)) None h (some_only p) (λ e. absurd (false≢true e))
    (λ q off. put_others v w p q (h.of q) i u off (λ m. refl) refl told_i topic told_off spots kept (h.each q))
    (record {
      known = mine.known;
      token = record {
        told = told_i ∙ ap (λ (a : About). Some (record { kind = k; receiver = pid_of b 0; about = a })) topic;
        from = ap (λ (m : ℕ). pid_of m 0) acting;
        spot = put_spot v.acting b;
        stands = put_there v v.acting b i k (pid_of b 0) fits;
        ways = λ z st. subst (λ (m : ℕ). (z ≡ Inbox b) ⊎ (z ≡ Untaken m b)) acting (own_ways v b k (pid_of b 0) z fits once st);
      };
      alone = λ j t z told bt about st. elim (cases_Bool (id_eq i j)) [
        | inl same ↦ inl (ap Some (id_eq-is i j same))
        | inr apart ↦
            (let was : v.told j ≡ Some t = sym (told_off j apart) ∙ told in
            elim (mine.alone j t z was bt about (subst (λ n. 1 ≤ n) (spots j apart z) st)) [
              | inl none ↦ absurd (let f : None ≡ Some j = none in cc)
              | inr left ↦ inr (next_left v w p k s d i j t numbered was acting refl (spots j apart) (λ m. refl) left)
            ])
      ];
      apart = mine.apart;
      come = mine.come;
    })
    (λ j t told bt. elim (cases_Bool (id_eq i j)) [
      | inl same ↦
          let f : Some u ≡ Some t = sym told_i ∙ ap w.told (id_eq-is i j same) ∙ told in
          let g : u ≡ t = cc in (p, sym (ap (λ (x : Told). x.about) g) ∙ topic)
      | inr apart ↦ h.about j t (sym (told_off j apart) ∙ told) bt
    ])

-- a piece is put that is left over: the move is called off already
pub left_put_phases : (v : View) (p : Pid) (k : MessageKind) (s d : ℕ) (o : Option MsgId) (h : InPhases v) → PairsFit v → brings_piece (sort_of k) ≡ true → h.of p ≡ Moves kind.CallOff s d o → v.topic ≡ Of p → v.acting ≡ s → v.told (own_id v) ≡ None
    → StandsOnce (standing (after_put v v.acting d (own_id v) k (pid_of d 0)) (own_id v)) → InPhases (after_put v v.acting d (own_id v) k (pid_of d 0))
left_put_phases v p k s d o h fits brings phase topic acting untold once =
    let i = own_id v in
    let w = after_put v v.acting d i k (pid_of d 0) in
    let u = next_told v k d in
    let told_i : w.told i ≡ Some u = put_at v v.acting d i k (pid_of d 0) ∙ first_none (v.told i) u untold in
    let told_off : (j : MsgId) → id_eq i j ≡ false → w.told j ≡ v.told j = λ j apart. put_told_off v v.acting d i j k (pid_of d 0) apart in
    let spots : (j : MsgId) → id_eq i j ≡ false → (z : Spot) → standing w j z ≡ standing v j z = λ j apart z. put_spots v v.acting d i j k (pid_of d 0) fits apart z in
    let kept : (j : MsgId) (t : Told) → v.told j ≡ Some t → id_eq i j ≡ false = λ j t e. false_from_ne_true (id_eq i j) (λ x. let is : i ≡ j = id_eq-is i j x in let f : None ≡ Some t = sym untold ∙ ap v.told is ∙ e in cc) in
    let now : IsIn v p (Moves kind.CallOff s d o) = subst (λ (x : Phase). IsIn v p x) phase (h.each p) in
    let to : receiver_in k s d ≡ d = (piece_ways k s d brings).1 in
    let way : IsWay w i s d = record {
      sender = ap (λ (m : ℕ). pid_of m 0) acting;
      own = refl;
      ways = λ z st. subst (λ (m : ℕ). (z ≡ Inbox d) ⊎ (z ≡ Untaken m d)) acting (own_ways v d k (pid_of d 0) z fits once st);
    } in
    let left : (q : Pid) → Of p ≡ Of q → IsLeft w q (h.of q) i u = λ q ab. subst (λ (x : Pid). IsLeft w x (h.of x) i u) (of_same p q ab)
    (Comes s d brings (ap (λ (a : About). record { kind = k; receiver = pid_of d 0; about = a }) topic ∙ ap (λ (m : ℕ). record { kind = k; receiver = pid_of m 0; about = Of p }) (sym to)) way
    (λ here. called_known v p s d o now here)
    (λ j is. absurd (let f : Moves kind.CallOff s d o ≡ Moves kind.Ask s d j = sym phase ∙ is in false≢true (sym (ap calls_in f))))) in
    record {
      of = h.of;
      each = λ q. put_in v w q (h.of q) i u (λ m. refl) refl told_i (λ b ab. left q (sym topic ∙ ab)) told_off spots kept (h.each q);
      about = λ j t told bt. elim (cases_Bool (id_eq i j)) [
        | inl same ↦
            let f : Some u ≡ Some t = sym told_i ∙ ap w.told (id_eq-is i j same) ∙ told in
            let g : u ≡ t = cc in (p, sym (ap (λ (x : Told). x.about) g) ∙ topic)
        | inr apart ↦ h.about j t (sym (told_off j apart) ∙ told) bt
      ];
      put = h.put;
    }
