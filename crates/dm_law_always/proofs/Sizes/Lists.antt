-- What a line leaves of the lists: no more messages for a server wait on a machine than before and were routed there since.
use Rattle.dm_law_always.proofs.Names.{◌≡◌, ℕ, suc, ◌+◌, ◌≤◌, ◌<◌, ◌==◌, ◌&&◌, not, filter, Bool, true, false, List, [], ◌∷◌, ◌++◌, length, refl, ap, ◌∙◌, sym, subst, inl, inr, arith, nat_tests, if◌then◌else◌, drop, slice_get, Option, None, Some, cases_Bool, Pid, pid_eq, MsgId, Label}
use Rattle.dm_law_always.proofs.Names.{nat_lt, ⊤, Spot, Sort, sort_of, MessageKind, Line, Stage, Step, View, Told, About, Pair, Inbox, Held, Untaken, standing, is_some, is_server, without_front, times, untaken, at_machine, at_pair, at_record, receiver_of, view_after, after_label, after_put}
use Rattle.dm_law_always.proofs.Names.{after_taken, after_stage, after_proto, after_head, handled, handled_first, queued_for, held_for, forwarded_for, dropped_for, served_told, rejoins, taken_id, oldest, routed_on, eq_is, eq_self, length-append, pid_eq-is, marked}
use Rattle.dm_law_always.specs.Sizes.{for_it, count_for, routed_to, waiting_at}
use Rattle.dm_line.specs.Each.{sum_below}
use Rattle.dm_law_rule.specs.View as view
use Rattle.dm_message.specs.Sorts.{Passage}
use Rattle.dm_law_always.proofs.Based.Queues.{told_kept}
use Rattle.dm_law_always.proofs.Based.Sets.{killed_or}
use Rattle.dm_law_always.proofs.Goes.Parts.{some_is}
use Rattle.dm_law_always.proofs.Sizes.Counts.{count_same, count_more, count_append, count_none, front_less, front_one, first_less, drop_one, drop_less, drop_last, drop_full, sum_same, sum_pairs, sum_at, machine_less, pair_cases}

pub record Lists (n : ℕ) (p : Pid) (v w : View) : Type 0 where
  pub flow : (m : ℕ) → waiting_at n w p m + routed_to n v p m ≤ waiting_at n v p m + routed_to n w p m
  -- more and more is routed, but from no other machine
  pub ids : (a c : ℕ) → length (v.pair a c).ids ≤ length (w.pair a c).ids
  pub outside : ((a c : ℕ) → n ≤ a → (v.pair a c).ids ≡ []) → (a c : ℕ) → n ≤ a → (w.pair a c).ids ≡ []
  -- on a machine's pair with itself all is taken at once
  pub home : ((m : ℕ) → length (v.pair m m).ids ≤ (v.pair m m).taken) → (m : ℕ) → length (w.pair m m).ids ≤ (w.pair m m).taken

-- one line after the other
pub lists_then : (n : ℕ) (p : Pid) (v u w : View) → Lists n p v u → Lists n p u w → Lists n p v w
lists_then n p v u w h k = record {
  flow = λ m. (let a = h.flow m in let b = k.flow m in omega (arith, a, b));
  ids = λ a c. (let x = h.ids a c in let y = k.ids a c in omega (arith, x, y));
  outside = λ o. k.outside (h.outside o);
  home = λ o. k.home (h.home o);
}

-- pairs that keep what was routed and taken
pub record PairsSame (v w : View) : Type 0 where
  pub ids : (a c : ℕ) → (w.pair a c).ids ≡ (v.pair a c).ids
  pub taken : (a c : ℕ) → (w.pair a c).taken ≡ (v.pair a c).taken

untaken_same : (x y : Pair) → y.ids ≡ x.ids → y.taken ≡ x.taken → untaken y ≡ untaken x
untaken_same x y ids taken = ap (λ (k : ℕ). drop k y.ids) taken ∙ ap (λ (is : List MsgId). drop x.taken is) ids

-- what waits, where what was told stays, and what comes to an inbox leaves a pair
flow_by : (n : ℕ) (p : Pid) (v w : View) (m d : ℕ) → ((i : MsgId) → w.told i ≡ v.told i)
    → (sum_below (λ a. count_for v p (untaken (w.pair a m))) n + sum_below (λ a. count_for v p (v.pair a m).ids) n) + d ≤ sum_below (λ a. count_for v p (untaken (v.pair a m))) n + sum_below (λ a. count_for v p (w.pair a m).ids) n
    → count_for v p (w.inbox m) + count_for v p (w.held m p) ≤ (count_for v p (v.inbox m) + count_for v p (v.held m p)) + d → waiting_at n w p m + routed_to n v p m ≤ waiting_at n v p m + routed_to n w p m
flow_by n p v w m d told sums boxes =
    let inbox = count_same v w p (w.inbox m) (λ i least. told i) in
    let held = count_same v w p (w.held m p) (λ i least. told i) in
    let out = sum_same (λ a. count_for w p (untaken (w.pair a m))) (λ a. count_for v p (untaken (w.pair a m))) n (λ a. count_same v w p (untaken (w.pair a m)) (λ i least. told i)) in
    let routed = sum_same (λ a. count_for w p (w.pair a m).ids) (λ a. count_for v p (w.pair a m).ids) n (λ a. count_same v w p (w.pair a m).ids (λ i least. told i)) in
    omega (arith, inbox, held, out, routed, sums, boxes)

pub lists_by : (n : ℕ) (p : Pid) (v w : View) → PairsSame v w → ((i : MsgId) → w.told i ≡ v.told i) → ((m : ℕ) → count_for v p (w.inbox m) + count_for v p (w.held m p) ≤ count_for v p (v.inbox m) + count_for v p (v.held m p)) → Lists n p v w
lists_by n p v w pairs told boxes = record {
  flow = λ m. (
      let out = sum_same (λ a. count_for v p (untaken (w.pair a m))) (λ a. count_for v p (untaken (v.pair a m))) n (λ a. ap (λ (is : List MsgId). count_for v p is) (untaken_same (v.pair a m) (w.pair a m) (pairs.ids a m) (pairs.taken a m))) in
      let routed = sum_same (λ a. count_for v p (w.pair a m).ids) (λ a. count_for v p (v.pair a m).ids) n (λ a. ap (λ (is : List MsgId). count_for v p is) (pairs.ids a m)) in
      let less = boxes m in flow_by n p v w m 0 told (omega (arith, out, routed)) (omega (arith, less))
      );
  ids = λ a c. (let e = ap (λ (is : List MsgId). length is) (pairs.ids a c) in omega (arith, e));
  outside = λ h a c le. pairs.ids a c ∙ h a c le;
  home = λ h m. (let e = ap (λ (is : List MsgId). length is) (pairs.ids m m) in let f = pairs.taken m m in let le = h m in omega (arith, e, f, le));
}

pub pairs_as : (v w : View) → w.pair ≡ v.pair → PairsSame v w
pairs_as v w e = record { ids = λ a c. ap (λ (f : ℕ → ℕ → Pair). (f a c).ids) e; taken = λ a c. ap (λ (f : ℕ → ℕ → Pair). (f a c).taken) e }

-- the same lists
pub same_lists : (n : ℕ) (p : Pid) (v w : View) → w.pair ≡ v.pair → w.inbox ≡ v.inbox → w.held ≡ v.held → w.told ≡ v.told → Lists n p v w
same_lists n p v w pair inbox held told = lists_by n p v w (pairs_as v w pair) (λ i. ap (λ (f : MsgId → Option Told). f i) told) (λ m. (
    let e = ap (λ (f : ℕ → List MsgId). count_for v p (f m)) inbox in
    let h = ap (λ (f : ℕ → Pid → List MsgId). count_for v p (f m p)) held in omega (arith, e, h)
    ))

-- a pair whose wire changes
pub pair_lists : (n : ℕ) (p : Pid) (v w : View) (a b : ℕ) (x : Pair) → w.pair ≡ at_pair v.pair a b x → x.ids ≡ (v.pair a b).ids → x.taken ≡ (v.pair a b).taken → w.inbox ≡ v.inbox → w.held ≡ v.held → w.told ≡ v.told → Lists n p v w
pair_lists n p v w a b x pair ids taken inbox held told = lists_by n p v w (record {
  ids = λ c d. ap (λ (f : ℕ → ℕ → Pair). (f c d).ids) pair
      ∙ pair_cases (λ (y : Pair). y.ids ≡ (v.pair c d).ids) v.pair a b x c d (λ e f. ids ∙ ap (λ (k : ℕ). (v.pair k b).ids) e ∙ ap (λ (k : ℕ). (v.pair c k).ids) f) refl;
  taken = λ c d. ap (λ (f : ℕ → ℕ → Pair). (f c d).taken) pair
      ∙ pair_cases (λ (y : Pair). y.taken ≡ (v.pair c d).taken) v.pair a b x c d (λ e f. taken ∙ ap (λ (k : ℕ). (v.pair k b).taken) e ∙ ap (λ (k : ℕ). (v.pair c k).taken) f) refl;
}) (λ i. ap (λ (f : MsgId → Option Told). f i) told) (λ m. (
    let e = ap (λ (f : ℕ → List MsgId). count_for v p (f m)) inbox in
    let h = ap (λ (f : ℕ → Pid → List MsgId). count_for v p (f m p)) held in omega (arith, e, h)
    ))

-- an inbox with fewer
pub box_lists : (n : ℕ) (p : Pid) (v w : View) (xs : List MsgId) → w.pair ≡ v.pair → w.inbox ≡ at_machine v.inbox v.acting xs → count_for v p xs ≤ count_for v p (v.inbox v.acting) → w.held ≡ v.held → w.told ≡ v.told → Lists n p v w
box_lists n p v w xs pair inbox less held told = lists_by n p v w (pairs_as v w pair) (λ i. ap (λ (f : MsgId → Option Told). f i) told) (λ m. (
    let e = ap (λ (f : ℕ → List MsgId). count_for v p (f m)) inbox in
    let k = machine_less v p v.inbox v.acting xs less m in
    let h = ap (λ (f : ℕ → Pid → List MsgId). count_for v p (f m p)) held in omega (arith, e, h, k)
    ))

pub handled_lists : (n : ℕ) (p : Pid) (v : View) (id : MsgId) → Lists n p v (handled v id)
handled_lists n p v id = box_lists n p v (handled v id) (without_front id (v.inbox v.acting)) refl refl (front_less v p id (v.inbox v.acting)) refl refl

pub first_lists : (n : ℕ) (p : Pid) (v : View) → Lists n p v (handled_first v)
first_lists n p v = box_lists n p v (handled_first v) (drop 1 (v.inbox v.acting)) refl refl (first_less v p (v.inbox v.acting)) refl refl

-- held messages go
pub emptied_lists : (n : ℕ) (p q : Pid) (v w : View) → w.pair ≡ v.pair → w.inbox ≡ v.inbox → w.held ≡ at_record v.held v.acting q [] → w.told ≡ v.told → Lists n p v w
emptied_lists n p q v w pair inbox held told = lists_by n p v w (pairs_as v w pair) (λ i. ap (λ (f : MsgId → Option Told). f i) told) (λ m. (
    let e = ap (λ (f : ℕ → List MsgId). count_for v p (f m)) inbox in
    let h = ap (λ (f : ℕ → Pid → List MsgId). count_for v p (f m p)) held in
    let k = emptied m in omega (arith, e, h, k)
    ))
  where
    emptied : (m : ℕ) → count_for v p (at_record v.held v.acting q [] m p) ≤ count_for v p (v.held m p)
    emptied m = elim (cases_Bool ((v.acting == m) && pid_eq q p)) [
      | inl same ↦ let f = ap (λ (c : Bool). count_for v p (if c then [] else v.held m p)) same in omega (arith, f)
      | inr off ↦ let f = ap (λ (c : Bool). count_for v p (if c then [] else v.held m p)) off in omega (arith, f)
    ]

-- they come to the inbox: of those for another none counts
abbrev pub HeldFor : View → Pid → Type 0
HeldFor v q = (i : MsgId) → 1 ≤ times i (v.held v.acting q) → receiver_of (v.told i) ≡ Some q

pub rejoin_lists : (n : ℕ) (p q : Pid) (v : View) → HeldFor v q → Lists n p v (rejoins v q)
rejoin_lists n p q v for = lists_by n p v (rejoins v q) (record { ids = λ a c. refl; taken = λ a c. refl }) (λ i. refl) (λ m. by (v.acting == m) (pid_eq q p) m refl refl)
  where
    by : (c d : Bool) (m : ℕ) → (v.acting == m) ≡ c → pid_eq q p ≡ d → count_for v p (at_machine v.inbox v.acting (v.held v.acting q ++ v.inbox v.acting) m) + count_for v p (at_record v.held v.acting q [] m p) ≤ count_for v p (v.inbox m) + count_for v p (v.held m p)
    by false d m off any_ =
        let e = ap (λ (t : Bool). count_for v p (if t then v.held v.acting q ++ v.inbox v.acting else v.inbox m)) off in
        let h = ap (λ (t : Bool). count_for v p (if t && pid_eq q p then [] else v.held m p)) off in
        omega (arith, e, h)
    by true false m same apart =
        let e = ap (λ (t : Bool). count_for v p (if t then v.held v.acting q ++ v.inbox v.acting else v.inbox m)) same in
        let sum = count_append v p (v.held v.acting q) (v.inbox v.acting) in
        let none = count_none v p q (v.held v.acting q) apart for in
        let box = ap (λ (k : ℕ). count_for v p (v.inbox k)) (eq_is v.acting m same) in
        let h = ap (λ (t : Bool). count_for v p (if (v.acting == m) && t then [] else v.held m p)) apart in
        let f = ap (λ (t : Bool). count_for v p (if t && false then [] else v.held m p)) same in
        omega (arith, e, sum, none, box, h, f)
    by true true m same it =
        let e = ap (λ (t : Bool). count_for v p (if t then v.held v.acting q ++ v.inbox v.acting else v.inbox m)) same in
        let sum = count_append v p (v.held v.acting q) (v.inbox v.acting) in
        let box = ap (λ (k : ℕ). count_for v p (v.inbox k)) (eq_is v.acting m same) in
        let mine = ap (λ (k : ℕ). count_for v p (v.held k q)) (eq_is v.acting m same) ∙ ap (λ (r : Pid). count_for v p (v.held m r)) (pid_eq-is q p it) in
        let h = ap (λ (t : Bool). count_for v p (if (v.acting == m) && t then [] else v.held m p)) it in
        let f = ap (λ (t : Bool). count_for v p (if t && true then [] else v.held m p)) same in
        omega (arith, e, sum, box, mine, h, f)

-- a message is held: it leaves the inbox
abbrev pub Fronted : View → MsgId → Type 0
Fronted v id = (is : List MsgId) × (v.inbox v.acting ≡ id ∷ is)

pub held_lists : (n : ℕ) (p : Pid) (v : View) (id : MsgId) → Fronted v id → Lists n p v (view_after v (Line.Held id))
held_lists n p v id front = by (v.told id) refl
  where
    by : (o : Option Told) → v.told id ≡ o → Lists n p v (held_for (handled v id) id (receiver_of o))
    by None told = handled_lists n p v id
    by (Some t) told = lists_by n p v (held_for (handled v id) id (Some t.receiver)) (record { ids = λ a c. refl; taken = λ a c. refl }) (λ i. refl) (λ m. move (v.acting == m) (pid_eq t.receiver p) m refl refl)
      where
        move : (c d : Bool) (m : ℕ) → (v.acting == m) ≡ c → pid_eq t.receiver p ≡ d
            → count_for v p (at_machine v.inbox v.acting (without_front id (v.inbox v.acting)) m) + count_for v p (at_record v.held v.acting t.receiver (v.held v.acting t.receiver ++ id ∷ []) m p) ≤ count_for v p (v.inbox m) + count_for v p (v.held m p)
        move false d m off any_ =
            let e = ap (λ (c : Bool). count_for v p (if c then without_front id (v.inbox v.acting) else v.inbox m)) off in
            let h = ap (λ (c : Bool). count_for v p (if c && pid_eq t.receiver p then v.held v.acting t.receiver ++ id ∷ [] else v.held m p)) off in
            omega (arith, e, h)
        move true false m same apart =
            let k = machine_less v p v.inbox v.acting (without_front id (v.inbox v.acting)) (front_less v p id (v.inbox v.acting)) m in
            let h = ap (λ (c : Bool). count_for v p (if (v.acting == m) && c then v.held v.acting t.receiver ++ id ∷ [] else v.held m p)) apart in
            let f = ap (λ (c : Bool). count_for v p (if c && false then v.held v.acting t.receiver ++ id ∷ [] else v.held m p)) same in
            omega (arith, k, h, f)
        move true true m same it =
            let e = ap (λ (c : Bool). count_for v p (if c then without_front id (v.inbox v.acting) else v.inbox m)) same in
            let less = ap (λ (is : List MsgId). count_for v p (without_front id is)) front.1 in
            let one = front_one v p id front.0 in
            let box = sym (ap (λ (is : List MsgId). count_for v p is) front.1) ∙ ap (λ (k : ℕ). count_for v p (v.inbox k)) (eq_is v.acting m same) in
            let h = ap (λ (c : Bool). count_for v p (if (v.acting == m) && c then v.held v.acting t.receiver ++ id ∷ [] else v.held m p)) it in
            let f = ap (λ (c : Bool). count_for v p (if c && true then v.held v.acting t.receiver ++ id ∷ [] else v.held m p)) same in
            let sum = count_append v p (v.held v.acting t.receiver) (id ∷ []) in
            let mine = ap (λ (k : ℕ). count_for v p (v.held k t.receiver)) (eq_is v.acting m same) ∙ ap (λ (r : Pid). count_for v p (v.held m r)) (pid_eq-is t.receiver p it) in
            omega (arith, e, less, one, box, h, f, sum, mine)

-- a machine takes the oldest message of a pair
taken_by : (n : ℕ) (p : Pid) (v : View) (a b k : ℕ) (x : Pair) (o : Option MsgId) → slice_get (v.pair a b).ids (v.pair a b).taken ≡ o → x.ids ≡ (v.pair a b).ids → x.taken ≡ (v.pair a b).taken + 1 → ((c d : ℕ) → n ≤ c → (v.pair c d).ids ≡ []) → Lists n p v (taken_id (view.with_pair v a b x) b o)
taken_by n p v a b k x o first ids taken none = record { flow = flow o first; ids = same_ids o; outside = λ h c d le. out o c d (h c d le); home = λ h m. full o m (h m) }
  where
    u : View
    u = view.with_pair v a b x

    -- what is left of the pair
    left : count_for v p (untaken x) ≡ count_for v p (drop (suc (v.pair a b).taken) (v.pair a b).ids)
    left = ap (λ (j : ℕ). count_for v p (drop j x.ids)) (let e : x.taken ≡ suc (v.pair a b).taken = omega (arith, taken) in e) ∙ ap (λ (is : List MsgId). count_for v p (drop (suc (v.pair a b).taken) is)) ids

    same_id : (c d : ℕ) → (u.pair c d).ids ≡ (v.pair c d).ids
    same_id c d = pair_cases (λ (y : Pair). y.ids ≡ (v.pair c d).ids) v.pair a b x c d (λ e f. ids ∙ ap (λ (j : ℕ). (v.pair j b).ids) e ∙ ap (λ (j : ℕ). (v.pair c j).ids) f) refl

    less : (m c : ℕ) → count_for v p (untaken (u.pair c m)) + count_for v p (v.pair c m).ids ≤ count_for v p (untaken (v.pair c m)) + count_for v p (u.pair c m).ids
    less m c =
        let same = ap (λ (is : List MsgId). count_for v p is) (same_id c m) in
        let fewer = pair_cases (λ (y : Pair). count_for v p (untaken y) ≤ count_for v p (untaken (v.pair c m))) v.pair a b x c m (λ e f. (
        let here = ap (λ (j : ℕ). count_for v p (untaken (v.pair j b))) e ∙ ap (λ (j : ℕ). count_for v p (untaken (v.pair c j))) f in
        let lower = drop_less v p (v.pair a b).ids (v.pair a b).taken in
        let l = left in omega (arith, here, lower, l)
        )) (omega arith) in
        omega (arith, same, fewer)

    same_ids : (q : Option MsgId) (c d : ℕ) → length (v.pair c d).ids ≤ length ((taken_id u b q).pair c d).ids
    same_ids None c d = let e = ap (λ (is : List MsgId). length is) (same_id c d) in omega (arith, e)
    same_ids (Some i) c d = let e = ap (λ (is : List MsgId). length is) (same_id c d) in omega (arith, e)

    out : (q : Option MsgId) (c d : ℕ) → (v.pair c d).ids ≡ [] → ((taken_id u b q).pair c d).ids ≡ []
    out None c d e = same_id c d ∙ e
    out (Some i) c d e = same_id c d ∙ e

    more_taken : (m : ℕ) → (v.pair m m).taken ≤ (u.pair m m).taken
    more_taken m = pair_cases (λ (y : Pair). (v.pair m m).taken ≤ y.taken) v.pair a b x m m (λ e f. (
        let here = ap (λ (j : ℕ). (v.pair j b).taken) e ∙ ap (λ (j : ℕ). (v.pair m j).taken) f in omega (arith, taken, here)
        )) (omega arith)

    full : (q : Option MsgId) (m : ℕ) → length (v.pair m m).ids ≤ (v.pair m m).taken → length ((taken_id u b q).pair m m).ids ≤ ((taken_id u b q).pair m m).taken
    full None m le = let e = ap (λ (is : List MsgId). length is) (same_id m m) in let t = more_taken m in omega (arith, e, t, le)
    full (Some i) m le = let e = ap (λ (is : List MsgId). length is) (same_id m m) in let t = more_taken m in omega (arith, e, t, le)

    -- the sums, where its count stays and where it comes to an inbox
    sums : (m : ℕ) → sum_below (λ c. count_for v p (untaken (u.pair c m))) n + sum_below (λ c. count_for v p (v.pair c m).ids) n ≤ sum_below (λ c. count_for v p (untaken (v.pair c m))) n + sum_below (λ c. count_for v p (u.pair c m).ids) n
    sums m = sum_pairs (λ c. count_for v p (untaken (u.pair c m))) (λ c. count_for v p (v.pair c m).ids) (λ c. count_for v p (untaken (v.pair c m))) (λ c. count_for v p (u.pair c m).ids) n (less m)

    inside : (i : MsgId) → slice_get (v.pair a b).ids (v.pair a b).taken ≡ Some i → a < n
    inside i e = elim (cases_Bool (nat_lt a n)) [
      | inl lt ↦ (let f : a < n = grind (arith, nat_tests) in f)
      | inr ge ↦
          let le : n ≤ a = grind (arith, nat_tests) in
          let f : slice_get (v.pair a b).ids (v.pair a b).taken ≡ None = ap (λ (is : List MsgId). slice_get is (v.pair a b).taken) (none a b le) in
          absurd (let g : None ≡ Some i = sym f ∙ e in cc)
    ]

    both_self : ((a == a) && (b == b)) ≡ true
    both_self = ap (λ (t : Bool). t && (b == b)) (eq_self a) ∙ eq_self b

    -- it leaves the pair
    leaves : (i : MsgId) → slice_get (v.pair a b).ids (v.pair a b).taken ≡ Some i → (count_for v p (untaken (u.pair a b)) + count_for v p (v.pair a b).ids) + for_it v p i ≤ count_for v p (untaken (v.pair a b)) + count_for v p (u.pair a b).ids
    leaves i e =
        let here = ap (λ (t : Bool). count_for v p (untaken (if t then x else v.pair a b))) both_self in
        let one = drop_one v p (v.pair a b).ids (v.pair a b).taken i e in
        let same = ap (λ (is : List MsgId). count_for v p is) (same_id a b) in
        let l = left in
        omega (arith, here, one, same, l)

    flow : (q : Option MsgId) → slice_get (v.pair a b).ids (v.pair a b).taken ≡ q → (m : ℕ) → waiting_at n (taken_id u b q) p m + routed_to n v p m ≤ waiting_at n v p m + routed_to n (taken_id u b q) p m
    flow None e m = let s = sums m in flow_by n p v u m 0 (λ i. refl) (omega (arith, s)) (omega arith)
    flow (Some i) e m = elim (cases_Bool (b == m)) [
      | inl same ↦
          let at = eq_is b m same in
          let mine = subst (λ (k : ℕ). (count_for v p (untaken (u.pair a k)) + count_for v p (v.pair a k).ids) + for_it v p i ≤ count_for v p (untaken (v.pair a k)) + count_for v p (u.pair a k).ids) at (leaves i e) in
          let s = sum_at (λ c. count_for v p (untaken (u.pair c m))) (λ c. count_for v p (v.pair c m).ids) (λ c. count_for v p (untaken (v.pair c m))) (λ c. count_for v p (u.pair c m).ids) n a (for_it v p i) (less m) (inside i e) mine in
          let new = ap (λ (t : Bool). count_for v p (if t then v.inbox b ++ i ∷ [] else v.inbox m)) same in
          let more = count_append v p (v.inbox b) (i ∷ []) in
          let old = ap (λ (k : ℕ). count_for v p (v.inbox k)) at in
          flow_by n p v (taken_id u b (Some i)) m (for_it v p i) (λ j. refl) s (omega (arith, new, more, old))
      | inr off ↦
          let s = sums m in
          let new = ap (λ (t : Bool). count_for v p (if t then v.inbox b ++ i ∷ [] else v.inbox m)) off in
          flow_by n p v (taken_id u b (Some i)) m 0 (λ j. refl) (omega (arith, s)) (omega (arith, new))
    ]

pub taken_lists : (n : ℕ) (p : Pid) (v : View) (a b k : ℕ) → ((c d : ℕ) → n ≤ c → (v.pair c d).ids ≡ []) → Lists n p v (after_taken v a b k)
taken_lists n p v a b k none =
    let q = v.pair a b in
    taken_by n p v a b k (record q { taken = q.taken + 1; kept = filter (λ j. not (j == k)) q.kept }) (oldest q) refl refl refl none

-- a put: what stands was told of, so nothing else changes its receiver
told_stays : (v : View) (a b : ℕ) (id : MsgId) (k : MessageKind) (q : Pid) (i : MsgId) → is_some (v.told i) ≡ true → (after_put v a b id k q).told i ≡ v.told i
told_stays v a b id k q i some = let (t, told) = some_is (v.told i) some in told_kept v a b id k q i t told ∙ sym told

abbrev pub AllTold : View → Type 0
AllTold v = (i : MsgId) (z : Spot) → 1 ≤ standing v i z → is_some (v.told i) ≡ true

pub put_lists : (n : ℕ) (p : Pid) (v : View) (a b : ℕ) (id : MsgId) (k : MessageKind) (q : Pid) → a < n → AllTold v → ((m : ℕ) → length (v.pair m m).ids ≤ (v.pair m m).taken) → Lists n p v (after_put v a b id k q)
put_lists n p v a b id k q lt all full = record {
  flow = λ m. flow m;
  ids = λ c d. pair_cases (λ (y : Pair). length (v.pair c d).ids ≤ length y.ids) v.pair a b x c d (λ e f. (
      let here = ap (λ (j : ℕ). length (v.pair j b).ids) e ∙ ap (λ (j : ℕ). length (v.pair c j).ids) f in
      let more = length-append (v.pair a b).ids (id ∷ []) in omega (arith, here, more)
      )) (omega arith);
  outside = λ h c d le. pair_cases (λ (y : Pair). y.ids ≡ []) v.pair a b x c d (λ e f. absurd (omega (arith, lt, le, e))) (h c d le);
  home = λ h m. pair_cases (λ (y : Pair). length y.ids ≤ y.taken) v.pair a b x m m (λ e f. (
      let here : length (v.pair a b).ids ≤ (v.pair a b).taken = subst (λ (j : ℕ). length (v.pair a j).ids ≤ (v.pair a j).taken) (sym f) (subst (λ (j : ℕ). length (v.pair j m).ids ≤ (v.pair j m).taken) (sym e) (h m)) in
      let same : (a == b) ≡ true = ap (λ (j : ℕ). a == j) (f ∙ sym e) ∙ ap (λ (j : ℕ). j == a) e ∙ ap (λ (j : ℕ). m == j) e ∙ eq_self m in
      let taken = ap (λ (t : Bool). if t then (v.pair a b).taken + 1 else (v.pair a b).taken) same in
      let more = length-append (v.pair a b).ids (id ∷ []) in omega (arith, here, taken, more)
      )) (h m);
}
  where
    w : View
    w = after_put v a b id k q

    x : Pair
    x = routed_on a b (v.pair a b) id

    old : (z : Spot) (i : MsgId) → 1 ≤ standing v i z → w.told i ≡ v.told i
    old z i least = told_stays v a b id k q i (all i z least)

    out_same : (c m : ℕ) → count_for w p (untaken (v.pair c m)) ≡ count_for v p (untaken (v.pair c m))
    out_same c m = count_same v w p (untaken (v.pair c m)) (λ i least. old (Untaken c m) i least)

    in_same : (m : ℕ) → count_for w p (v.inbox m) ≡ count_for v p (v.inbox m)
    in_same m = count_same v w p (v.inbox m) (λ i least. old (Inbox m) i least)

    held_same : (m : ℕ) → count_for w p (v.held m p) ≡ count_for v p (v.held m p)
    held_same m = count_same v w p (v.held m p) (λ i least. old (Held m p) i least)

    ids_more : (c m : ℕ) → count_for v p (v.pair c m).ids ≤ count_for w p (v.pair c m).ids
    ids_more c m = count_more v w p (v.pair c m).ids (λ i t told. told_kept v a b id k q i t told)

    -- on the pair, where it is of one machine with itself, and where it is not
    apart : (a == b) ≡ false → count_for w p (untaken x) + count_for v p (v.pair a b).ids ≤ count_for v p (untaken (v.pair a b)) + count_for w p x.ids
    apart off =
        let taken = ap (λ (t : Bool). count_for w p (drop (if t then (v.pair a b).taken + 1 else (v.pair a b).taken) ((v.pair a b).ids ++ id ∷ []))) off in
        let last = drop_last w p id (v.pair a b).ids (v.pair a b).taken in
        let same = out_same a b in
        let more = ids_more a b in
        let sum = count_append w p (v.pair a b).ids (id ∷ []) in
        omega (arith, taken, last, same, more, sum)

    together : (a == b) ≡ true → (count_for w p (untaken x) + count_for v p (v.pair a b).ids) + for_it w p id ≤ count_for v p (untaken (v.pair a b)) + count_for w p x.ids
    together same =
        let taken = ap (λ (t : Bool). count_for w p (drop (if t then (v.pair a b).taken + 1 else (v.pair a b).taken) ((v.pair a b).ids ++ id ∷ []))) same in
        let here : length (v.pair a b).ids ≤ (v.pair a b).taken = subst (λ (j : ℕ). length (v.pair a j).ids ≤ (v.pair a j).taken) (eq_is a b same) (full a) in
        let long = length-append (v.pair a b).ids (id ∷ []) in
        let none = drop_full w p ((v.pair a b).ids ++ id ∷ []) ((v.pair a b).taken + 1) (omega (arith, here, long)) in
        let more = ids_more a b in
        let sum = count_append w p (v.pair a b).ids (id ∷ []) in
        omega (arith, taken, none, more, sum)

    here : count_for w p (untaken x) + count_for v p (v.pair a b).ids ≤ count_for v p (untaken (v.pair a b)) + count_for w p x.ids
    here = elim (cases_Bool (a == b)) [ inl same ↦ (let t = together same in omega (arith, t)) | inr off ↦ apart off ]

    less : (m c : ℕ) → count_for w p (untaken (w.pair c m)) + count_for v p (v.pair c m).ids ≤ count_for v p (untaken (v.pair c m)) + count_for w p (w.pair c m).ids
    less m c = pair_cases (λ (y : Pair). count_for w p (untaken y) + count_for v p (v.pair c m).ids ≤ count_for v p (untaken (v.pair c m)) + count_for w p y.ids) v.pair a b x c m
        (λ e f. subst (λ (y : Pair). count_for w p (untaken x) + count_for v p y.ids ≤ count_for v p (untaken y) + count_for w p x.ids) (ap (λ (j : ℕ). v.pair j b) e ∙ ap (λ (j : ℕ). v.pair c j) f) here)
        (let s = out_same c m in let more = ids_more c m in omega (arith, s, more))

    sums : (m : ℕ) → sum_below (λ c. count_for w p (untaken (w.pair c m))) n + sum_below (λ c. count_for v p (v.pair c m).ids) n ≤ sum_below (λ c. count_for v p (untaken (v.pair c m))) n + sum_below (λ c. count_for w p (w.pair c m).ids) n
    sums m = sum_pairs (λ c. count_for w p (untaken (w.pair c m))) (λ c. count_for v p (v.pair c m).ids) (λ c. count_for v p (untaken (v.pair c m))) (λ c. count_for w p (w.pair c m).ids) n (less m)

    both_self : ((a == a) && (b == b)) ≡ true
    both_self = ap (λ (t : Bool). t && (b == b)) (eq_self a) ∙ eq_self b

    self : (a == b) ≡ true → (count_for w p (untaken (w.pair a b)) + count_for v p (v.pair a b).ids) + for_it w p id ≤ count_for v p (untaken (v.pair a b)) + count_for w p (w.pair a b).ids
    self same = subst (λ (y : Pair). (count_for w p (untaken y) + count_for v p (v.pair a b).ids) + for_it w p id ≤ count_for v p (untaken (v.pair a b)) + count_for w p y.ids) (sym (ap (λ (t : Bool). if t then x else v.pair a b) both_self)) (together same)

    flow : (m : ℕ) → waiting_at n w p m + routed_to n v p m ≤ waiting_at n v p m + routed_to n w p m
    flow m = by (a == b) (b == m) refl refl
      where
        by : (c d : Bool) → (a == b) ≡ c → (b == m) ≡ d → waiting_at n w p m + routed_to n v p m ≤ waiting_at n v p m + routed_to n w p m
        by false d off any_ =
            let s = sums m in
            let h = held_same m in
            let i = in_same m in
            let box = ap (λ (t : Bool). count_for w p ((if t then at_machine v.inbox b (v.inbox b ++ id ∷ []) else v.inbox) m)) off in
            omega (arith, s, h, i, box)
        by true false same off =
            let s = sums m in
            let h = held_same m in
            let i = in_same m in
            let box = ap (λ (t : Bool). count_for w p ((if t then at_machine v.inbox b (v.inbox b ++ id ∷ []) else v.inbox) m)) same ∙ ap (λ (t : Bool). count_for w p (if t then v.inbox b ++ id ∷ [] else v.inbox m)) off in
            omega (arith, s, h, i, box)
        by true true same at =
            let is = eq_is b m at in
            let mine = subst (λ (j : ℕ). (count_for w p (untaken (w.pair a j)) + count_for v p (v.pair a j).ids) + for_it w p id ≤ count_for v p (untaken (v.pair a j)) + count_for w p (w.pair a j).ids) is (self same) in
            let s = sum_at (λ c. count_for w p (untaken (w.pair c m))) (λ c. count_for v p (v.pair c m).ids) (λ c. count_for v p (untaken (v.pair c m))) (λ c. count_for w p (w.pair c m).ids) n a (for_it w p id) (less m) lt mine in
            let h = held_same m in
            let i = in_same m in
            let box = ap (λ (t : Bool). count_for w p ((if t then at_machine v.inbox b (v.inbox b ++ id ∷ []) else v.inbox) m)) same ∙ ap (λ (t : Bool). count_for w p (if t then v.inbox b ++ id ∷ [] else v.inbox m)) at in
            let sum = count_append w p (v.inbox b) (id ∷ []) in
            let j = ap (λ (o : ℕ). count_for w p (v.inbox o)) is in
            omega (arith, s, h, i, box, sum, j)

-- the rest, line by line
queued_lists : (n : ℕ) (p : Pid) (v : View) (id : MsgId) (o : Option Pid) → Lists n p v (queued_for v id o)
queued_lists n p v id None = same_lists n p v v refl refl refl refl
queued_lists n p v id (Some q) = same_lists n p v (queued_for v id (Some q)) refl refl refl refl

dropped_lists : (n : ℕ) (p : Pid) (v : View) (id : MsgId) (o : Option Pid) → Lists n p v (dropped_for v id o)
dropped_lists n p v id None = same_lists n p v v refl refl refl refl
dropped_lists n p v id (Some q) = same_lists n p v (dropped_for v id (Some q)) refl refl refl refl

forwarded_lists : (n : ℕ) (p : Pid) (v : View) (o : Option Pid) → Lists n p v (forwarded_for v o)
forwarded_lists n p v None = same_lists n p v v refl refl refl refl
forwarded_lists n p v (Some q) = same_lists n p v (forwarded_for v (Some q)) refl refl refl refl

forgotten_lists : (n : ℕ) (p : Pid) (v : View) (a : About) → Lists n p v (view.forgotten v a)
forgotten_lists n p v (view.Of q) = same_lists n p v (view.forgotten v (view.Of q)) refl refl refl refl
forgotten_lists n p v _ = same_lists n p v v refl refl refl refl

buried_lists : (n : ℕ) (p : Pid) (v : View) (o : Option Told) → Lists n p v (view.buried_for v o)
buried_lists n p v None = same_lists n p v v refl refl refl refl
buried_lists n p v (Some t) = forgotten_lists n p v t.about

served_lists : (n : ℕ) (p : Pid) (v : View) (o : Option Told) → Lists n p v (served_told v o)
served_lists n p v None = same_lists n p v v refl refl refl refl
served_lists n p v (Some t) = killed_or (Lists n p v) t.kind v t.receiver (λ kills. same_lists n p v (view.ended v t.receiver) refl refl refl refl) (λ mild. same_lists n p v v refl refl refl refl)

asks_lists : (n : ℕ) (p : Pid) (v : View) (a : About) → Lists n p v (view.asks_on v a)
asks_lists n p v (view.Of q) = same_lists n p v (view.asks_on v (view.Of q)) refl refl refl refl
asks_lists n p v _ = same_lists n p v v refl refl refl refl

follows_lists : (n : ℕ) (p : Pid) (v : View) (a : About) (s : Sort) → Lists n p v (view.follows_by v a s)
follows_lists n p v a (Sort.Between Passage.State) = asks_lists n p v a
follows_lists n p v a (Sort.Between Passage.Memory) = asks_lists n p v a
follows_lists n p v a _ = same_lists n p v v refl refl refl refl

proto_lists : (n : ℕ) (p : Pid) (v : View) (o : Option Told) → Lists n p v (after_proto v o)
proto_lists n p v None = same_lists n p v (after_proto v None) refl refl refl refl
proto_lists n p v (Some t) =
    let u = view.follows_by v t.about (sort_of t.kind) in
    lists_then n p v u (after_proto v (Some t)) (follows_lists n p v t.about (sort_of t.kind)) (same_lists n p u (after_proto v (Some t)) refl refl refl refl)

pub label_lists : (n : ℕ) (p : Pid) (v : View) (l : Label) → Lists n p v (after_label v l)
label_lists n p v (Label.Dropped id) = lists_then n p v (handled v id) (after_label v (Label.Dropped id)) (handled_lists n p v id) (dropped_lists n p (handled v id) id (receiver_of (v.told id)))
label_lists n p v (Label.Served id) = lists_then n p v (handled v id) (after_label v (Label.Served id)) (handled_lists n p v id) (served_lists n p (handled v id) (v.told id))
label_lists n p v (Label.Gone id) = handled_lists n p v id
label_lists n p v (Label.Took id) = handled_lists n p v id
label_lists n p v (Label.NoSpace id s b) = handled_lists n p v id
label_lists n p v (Label.Asked id) = handled_lists n p v id
label_lists n p v (Label.Created id q) = lists_then n p v (handled v id) (after_label v (Label.Created id q)) (handled_lists n p v id) (same_lists n p (handled v id) (after_label v (Label.Created id q)) refl refl refl refl)
label_lists n p v any_ = same_lists n p v (after_label v any_) refl refl refl refl

off_lists : (n : ℕ) (p q : Pid) (v : View) (a : About) → Lists n p v (view.sets_off v q a)
off_lists n p q v (view.Target m) = same_lists n p v (view.frozen_for v q m) refl refl refl refl
off_lists n p q v any_ = lists_then n p v (handled_first v) (view.sets_off v q any_) (first_lists n p v) (same_lists n p (handled_first v) (view.sets_off v q any_) refl refl refl refl)

-- step 4 of a server leaves the message
for_lists : (n : ℕ) (p : Pid) (v : View) (c : Bool) → Lists n p v (record v { inbox = if c then v.inbox else (handled_first v).inbox })
for_lists n p v true = same_lists n p v (record v { inbox = v.inbox }) refl refl refl refl
for_lists n p v false = box_lists n p v (record v { inbox = (handled_first v).inbox }) (drop 1 (v.inbox v.acting)) refl refl (first_less v p (v.inbox v.acting)) refl refl

-- steps of migrations
abbrev pub NeedsStage : View → Pid → Stage → Type 0
NeedsStage v q Stage.Restarted = HeldFor v q
NeedsStage v q s = ⊤

stage_lists : (n : ℕ) (p q : Pid) (v : View) (s : Stage) → NeedsStage v q s → Lists n p v (after_stage v q s)
stage_lists n p q v Stage.Frozen need = off_lists n p q v v.topic
stage_lists n p q v Stage.Asked need = same_lists n p v v refl refl refl refl
stage_lists n p q v Stage.Left need = same_lists n p v (after_stage v q Stage.Left) refl refl refl refl
stage_lists n p q v Stage.StateTaken need =
    let u = view.handled_for v q in
    lists_then n p v u (after_stage v q Stage.StateTaken) (for_lists n p v (is_server q)) (same_lists n p u (after_stage v q Stage.StateTaken) refl refl refl refl)
stage_lists n p q v Stage.Restarted need =
    let u = rejoins (handled_first v) q in
    lists_then n p v u (after_stage v q Stage.Restarted) (lists_then n p v (handled_first v) u (first_lists n p v) (rejoin_lists n p q (handled_first v) need)) (same_lists n p u (after_stage v q Stage.Restarted) refl refl refl refl)
stage_lists n p q v any_ need = lists_then n p v (handled_first v) (after_stage v q any_) (first_lists n p v) (same_lists n p (handled_first v) (after_stage v q any_) refl refl refl refl)

stays_lists : (n : ℕ) (p q : Pid) (v : View) → HeldFor v q → Lists n p v (view_after v (Line.Stays q))
stays_lists n p q v need =
    let u = view.staying v q in
    lists_then n p v u (view_after v (Line.Stays q)) (same_lists n p v u refl refl refl refl) (lists_then n p u (handled_first u) (rejoins (handled_first u) q) (first_lists n p u) (rejoin_lists n p q (handled_first u) need))

head_lists : (n : ℕ) (p : Pid) (v : View) (d : Step) → Lists n p v (after_head v d)
head_lists n p v (Step.Deliver a b k) = pair_lists n p v (after_head v (Step.Deliver a b k)) a b (marked (v.pair a b) k) refl refl refl refl refl refl
head_lists n p v any_ = same_lists n p v (after_head v any_) refl refl refl refl

-- what a line needs
abbrev pub NeedsLists : ℕ → View → Line → Type 0
NeedsLists n v (Line.Put a b id k q) = (a < n) × AllTold v × ((m : ℕ) → length (v.pair m m).ids ≤ (v.pair m m).taken)
NeedsLists n v (Line.Taken a b k) = (c d : ℕ) → n ≤ c → (v.pair c d).ids ≡ []
NeedsLists n v (Line.Held id) = Fronted v id
NeedsLists n v (Line.Migration s q) = NeedsStage v q s
NeedsLists n v (Line.Stays q) = HeldFor v q
NeedsLists n v _ = ⊤

pub line_lists : (n : ℕ) (p : Pid) (v : View) (l : Line) → NeedsLists n v l → Lists n p v (view_after v l)
line_lists n p v (Line.Head d) need = head_lists n p v d
line_lists n p v (Line.Label l) need = label_lists n p v l
line_lists n p v (Line.Put a b id k q) need = put_lists n p v a b id k q need.0 need.1 need.2
line_lists n p v (Line.Packet a b k l) need = pair_lists n p v (view_after v (Line.Packet a b k l)) a b (record (v.pair a b) { gone = view.gone_after l (v.pair a b).gone; wire = (v.pair a b).wire ++ record { load = l; delivered = false } ∷ [] }) refl refl refl refl refl refl
line_lists n p v (Line.Taken a b k) need = taken_lists n p v a b k need
line_lists n p v (Line.Early a b k) need = pair_lists n p v (view_after v (Line.Early a b k)) a b (record (v.pair a b) { kept = k ∷ filter (λ j. not (j == k)) (v.pair a b).kept }) refl refl refl refl refl refl
line_lists n p v (Line.Acked a b k) need = pair_lists n p v (view_after v (Line.Acked a b k)) b a (record (v.pair b a) { acked = view.at_least (v.pair b a).acked k }) refl refl refl refl refl refl
line_lists n p v (Line.Queued id) need = lists_then n p v (handled v id) (view_after v (Line.Queued id)) (handled_lists n p v id) (queued_lists n p (handled v id) id (receiver_of (v.told id)))
line_lists n p v (Line.Held id) need = held_lists n p v id need
line_lists n p v (Line.Forwarded id k) need = lists_then n p v (handled v id) (view_after v (Line.Forwarded id k)) (handled_lists n p v id) (forwarded_lists n p (handled v id) (receiver_of (v.told id)))
line_lists n p v (Line.Updated id k) need = handled_lists n p v id
line_lists n p v (Line.Buried id k) need = lists_then n p v (handled v id) (view_after v (Line.Buried id k)) (handled_lists n p v id) (buried_lists n p (handled v id) (v.told id))
line_lists n p v (Line.Migration s q) need = stage_lists n p q v s need
line_lists n p v (Line.SentOn q k) need = lists_then n p v (handled_first v) (view_after v (Line.SentOn q k)) (first_lists n p v) (emptied_lists n p q (handled_first v) (view_after v (Line.SentOn q k)) refl refl refl refl)
line_lists n p v (Line.Called q k) need = emptied_lists n p q v (view_after v (Line.Called q k)) refl refl refl refl
line_lists n p v (Line.Lacks q a b) need = lists_then n p v (handled_first v) (view_after v (Line.Lacks q a b)) (first_lists n p v) (same_lists n p (handled_first v) (view_after v (Line.Lacks q a b)) refl refl refl refl)
line_lists n p v (Line.Stays q) need = stays_lists n p q v need
line_lists n p v (Line.Here id) need = handled_lists n p v id
line_lists n p v (Line.NoMove id) need = handled_lists n p v id
line_lists n p v (Line.Stale id) need = handled_lists n p v id
line_lists n p v (Line.Proto id) need = lists_then n p v (handled v id) (view_after v (Line.Proto id)) (handled_lists n p v id) (proto_lists n p (handled v id) (v.told id))
line_lists n p v any_ need = same_lists n p v v refl refl refl refl
