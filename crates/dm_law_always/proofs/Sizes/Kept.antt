-- What each line keeps of the size of a server.
use Rattle.dm_law_always.proofs.Names.{◌≡◌, ℕ, ◌+◌, ◌*◌, ◌/◌, ◌≤◌, ◌<◌, ◌==◌, ◌&&◌, Bool, true, false, List, [], ◌∷◌, length, refl, ap, ◌∙◌, sym, subst, inl, inr, arith, if◌then◌else◌, Option, Some, cases_Bool, false≢true, Pid, pid_eq, pid_eq-is, pid_eq-same}
use Rattle.dm_law_always.proofs.Names.{MsgId, MessageKind, Label, Line, Stage, PlainMessage, OneKernel, View, Told, About, Known, Here, Incoming, Point, label_of, kernel_after, moved, view_after, after_stage, after_put, topic_by, handled}
use Rattle.dm_law_always.proofs.Names.{is_server, is_away, at_record, at_record_at, routed_on, untaken, eq_is, eq_self, length-append, without_front, size_of, Size, front_of, option_map_or}
use Rattle.dm_law_rule.specs.Phases.{has_it}
use Rattle.dm_onekernel.specs.Step as kernel
use Rattle.dm_law_rule.specs.View as view
use Rattle.dm_law_always.specs.Sizes.{AreFew, count_for, routed_to, server_size, waiting_at}
use Rattle.dm_law_always.proofs.Based.Needs.{Resting}
use Rattle.dm_law_always.proofs.Based.Sets.{set_all}
use Rattle.dm_law_always.proofs.Sizes.Counts.{count_length, count_same, front_one, it_is, sum_most, sum_same}
use Rattle.dm_law_always.proofs.Sizes.Lists.{Lists, Fronted, NeedsLists, label_lists, line_lists, same_lists}
use Rattle.dm_law_always.proofs.Sizes.Lines.{Knows, KnowsLine, knows_as, line_knows}
use Rattle.dm_law_always.proofs.Sizes.Servers.{is_took, same_size, step_servers, took_grows}

-- between two lines of a group one piece more may have been asked for than the machine that it comes to has told the other
pub record Sizes (k n : ℕ) (p : Pid) (s : OneKernel) (v : View) : Type 0 where
  pub outside : (a c : ℕ) → n ≤ a → (v.pair a c).ids ≡ []
  pub home : (m : ℕ) → length (v.pair m m).ids ≤ (v.pair m m).taken
  pub within : (m : ℕ) → waiting_at n v p m ≤ routed_to n v p m
  pub grown : AreFew v → (m : ℕ) → has_it (v.known m p) ≡ true → server_size s p + 41 * waiting_at n v p m ≤ 536870912 + 41 * routed_to n v p m
  pub carried : AreFew v → (m from : ℕ) → v.known m p ≡ Incoming from → v.come p ≡ true → server_size s p ≤ 536870912
  pub asked : v.come p ≡ false → (m from : ℕ) → v.known m p ≡ Incoming from → v.asked p ≤ length (v.pair m from).ids + k
  pub small : AreFew v → server_size s p < 2147483648

-- a server, and few machines
pub record Server (n : ℕ) (p : Pid) : Type 0 where
  pub is : is_server p ≡ true
  pub few : n ≤ 16

-- a line that leaves the server as it is
pub record Slow (n : ℕ) (p : Pid) (s t : OneKernel) (v w : View) : Type 0 where
  pub lists : Lists n p v w
  pub knows : Knows p v w
  pub size : server_size t p ≤ server_size s p

pub few_before : (n : ℕ) (p : Pid) (v w : View) → Lists n p v w → AreFew w → AreFew v
few_before n p v w l few a c = let x = l.ids a c in let y = few a c in omega (arith, x, y)

pub slow_keeps : (k n : ℕ) (p : Pid) (s t : OneKernel) (v w : View) → Slow n p s t v w → Sizes k n p s v → Sizes k n p t w
slow_keeps k n p s t v w h z = record {
  outside = h.lists.outside z.outside;
  home = h.lists.home z.home;
  within = λ m. (let f = h.lists.flow m in let o = z.within m in omega (arith, f, o));
  grown = λ few m has. (let f = h.lists.flow m in let g = z.grown (few_before n p v w h.lists few) m (h.knows.has m has) in let e = h.size in omega (arith, f, g, e));
  carried = λ few m from is come. (let c = z.carried (few_before n p v w h.lists few) m from (h.knows.comes m from is) (sym h.knows.come ∙ come) in let e = h.size in omega (arith, c, e));
  asked = λ come m from is. (let a = z.asked (sym h.knows.come ∙ come) m from (h.knows.comes m from is) in let e = h.knows.asked in let i = h.lists.ids m from in omega (arith, a, e, i));
  small = λ few. (let o = z.small (few_before n p v w h.lists few) in let e = h.size in omega (arith, o, e));
}

-- the topic doesn't matter
pub sizes_about : (k n : ℕ) (p : Pid) (s : OneKernel) (v : View) (a : About) → Sizes k n p s v → Sizes k n p s (view.about v a)
sizes_about k n p s v a h = slow_keeps k n p s s v (view.about v a) (record { lists = same_lists n p v (view.about v a) refl refl refl refl; knows = knows_as p v (view.about v a) refl refl refl; size = omega arith }) h

-- lines that are no step of the kernel, and labels by which no server takes a message
abbrev pub takes_line : Line → Bool
takes_line (Line.Label l) = is_took l
takes_line l = false

line_size : (s t : OneKernel) (p : Pid) (l : Line) → is_server p ≡ true → takes_line l ≡ false → kernel_after s (label_of l) ≡ Some t → server_size t p ≤ server_size s p
line_size s t p (Line.Label l) server off is = let e = same_size s t p server (step_servers s t l off is) in omega (arith, e)
line_size s t p any_ server off is = let f : s ≡ t = cc in let e = ap (λ (u : OneKernel). server_size u p) f in omega (arith, e)

pub line_slow : (k n : ℕ) (p : Pid) (pt : Point) (t : OneKernel) (l : Line) → is_server p ≡ true → takes_line l ≡ false → NeedsLists n pt.view l → KnowsLine p pt.view l → kernel_after pt.kernel (label_of l) ≡ Some t → Sizes k n p pt.kernel pt.view → Sizes k n p t (moved pt l t).view
line_slow k n p pt t l server off lists knows is h =
    let v = pt.view in
    let u = view_after v l in
    sizes_about k n p t u (topic_by pt.kernel u.topic (label_of l)) (slow_keeps k n p pt.kernel t v u (record { lists = line_lists n p v l lists; knows = line_knows p v l knows; size = line_size pt.kernel t p l server off is }) h)

-- one piece more is asked for
pub raise_keeps : (n : ℕ) (p : Pid) (s : OneKernel) (v w : View) → Lists n p v w → ((m : ℕ) → has_it (w.known m p) ≡ true → has_it (v.known m p) ≡ true) → ((m from : ℕ) → w.known m p ≡ Incoming from → v.known m p ≡ Incoming from) → w.come p ≡ v.come p → w.asked p ≤ v.asked p + 1 → Sizes 0 n p s v → Sizes 1 n p s w
raise_keeps n p s v w lists has comes come asked z = record {
  outside = lists.outside z.outside;
  home = lists.home z.home;
  within = λ m. (let f = lists.flow m in let o = z.within m in omega (arith, f, o));
  grown = λ few m is. (let f = lists.flow m in let g = z.grown (few_before n p v w lists few) m (has m is) in omega (arith, f, g));
  carried = λ few m from is e. z.carried (few_before n p v w lists few) m from (comes m from is) (sym come ∙ e);
  asked = λ e m from is. (let a = z.asked (sym come ∙ e) m from (comes m from is) in let i = lists.ids m from in omega (arith, a, asked, i));
  small = λ few. z.small (few_before n p v w lists few);
}

-- it is accepted: one piece is asked for, and nothing has come
pub accepted_keeps : (n : ℕ) (p : Pid) (s : OneKernel) (v : View) → Lists n p v (after_stage v p Stage.Accepted) → Sizes 0 n p s v → Sizes 1 n p s (after_stage v p Stage.Accepted)
accepted_keeps n p s v lists z = record {
  outside = lists.outside z.outside;
  home = lists.home z.home;
  within = λ m. (let f = lists.flow m in let o = z.within m in omega (arith, f, o));
  grown = λ few m is. (
      let f = lists.flow m in
      let has : has_it (v.known m p) ≡ true = set_all (λ j r x. r ≡ p → has_it x ≡ true → has_it (v.known j p) ≡ true) v.known v.acting p (Incoming (front_of (v.inbox v.acting))) (λ same e. absurd (false≢true e)) (λ j r off same e. ap (λ (q : Pid). has_it (v.known j q)) (sym same) ∙ e) m p refl is in
      let g = z.grown (few_before n p v w lists few) m has in omega (arith, f, g)
      );
  carried = λ few m from is e. absurd (false≢true (sym not_come ∙ e));
  asked = λ e m from is. (let one = once in omega (arith, one));
  small = λ few. z.small (few_before n p v w lists few);
}
  where
    w : View
    w = after_stage v p Stage.Accepted

    not_come : w.come p ≡ false
    not_come = ap (λ (c : Bool). if c then false else v.come p) (pid_eq-same p)

    once : w.asked p ≡ 1
    once = ap (λ (c : Bool). if c then 1 else v.asked p) (pid_eq-same p)

-- all of it has come
pub come_keeps : (k n : ℕ) (p : Pid) (s : OneKernel) (v w : View) → Lists n p v w → ((m : ℕ) → has_it (w.known m p) ≡ true → has_it (v.known m p) ≡ true) → w.come p ≡ true → (AreFew v → server_size s p ≤ 536870912) → Sizes k n p s v → Sizes 0 n p s w
come_keeps k n p s v w lists has come small z = record {
  outside = lists.outside z.outside;
  home = lists.home z.home;
  within = λ m. (let f = lists.flow m in let o = z.within m in omega (arith, f, o));
  grown = λ few m is. (let f = lists.flow m in let g = z.grown (few_before n p v w lists few) m (has m is) in omega (arith, f, g));
  carried = λ few m from is e. small (few_before n p v w lists few);
  asked = λ e m from is. absurd (false≢true (sym e ∙ come));
  small = λ few. z.small (few_before n p v w lists few);
}

-- it goes on where it has come to
pub restarts_keeps : (n : ℕ) (p : Pid) (s : OneKernel) (v : View) (from : ℕ) → Lists n p v (after_stage v p Stage.Restarted) → v.known v.acting p ≡ Incoming from → v.come p ≡ true → Sizes 0 n p s v → Sizes 0 n p s (after_stage v p Stage.Restarted)
restarts_keeps n p s v from lists here come z = record {
  outside = lists.outside z.outside;
  home = lists.home z.home;
  within = within;
  grown = λ few m is. (elim (cases_Bool (v.acting == m)) [
    | inl same ↦
        let c = z.carried (few_before n p v w lists few) v.acting from here come in
        let o = within m in omega (arith, c, o)
    | inr off ↦
        let f = lists.flow m in
        let g = z.grown (few_before n p v w lists few) m (sym (ap has_it (away m off)) ∙ is) in omega (arith, f, g)
  ]);
  carried = λ few m f is e. z.carried (few_before n p v w lists few) m f (came m f is) e;
  asked = λ e m f is. (let a = z.asked e m f (came m f is) in let i = lists.ids m f in omega (arith, a, i));
  small = λ few. z.small (few_before n p v w lists few);
}
  where
    w : View
    w = after_stage v p Stage.Restarted

    away : (m : ℕ) → (v.acting == m) ≡ false → w.known m p ≡ v.known m p
    away m off = ap (λ (c : Bool). if c && pid_eq p p then Here else v.known m p) off

    within : (m : ℕ) → waiting_at n w p m ≤ routed_to n w p m
    within m = let f = lists.flow m in let o = z.within m in omega (arith, f, o)

    came : (m f : ℕ) → w.known m p ≡ Incoming f → v.known m p ≡ Incoming f
    came m f is = elim (cases_Bool (v.acting == m)) [
      | inl same ↦
          let k : w.known m p ≡ Here = ap (λ (j : ℕ). at_record v.known v.acting p Here j p) (sym (eq_is v.acting m same)) ∙ at_record_at v.known v.acting p Here in
          absurd (let g : Here ≡ Incoming f = sym k ∙ is in cc)
      | inr off ↦ sym (away m off) ∙ is
    ]

-- it takes a message: so much less waits there, and it is nowhere else
took_it : (n : ℕ) (p : Pid) (s t : OneKernel) (v : View) (id : MsgId) (u : Told) → n ≤ 16 → Fronted v id → v.told id ≡ Some u → u.receiver ≡ p → Resting v p → server_size t p ≤ server_size s p + 41 → Sizes 0 n p s v → Sizes 0 n p t (handled v id)
took_it n p s t v id u machines front told to rests size z = record {
  outside = lists.outside z.outside;
  home = lists.home z.home;
  within = λ m. (let f = lists.flow m in let o = z.within m in omega (arith, f, o));
  grown = λ few m is. (elim (cases_Bool (v.acting == m)) [
    | inl same ↦ subst (λ (j : ℕ). server_size t p + 41 * waiting_at n w p j ≤ 536870912 + 41 * routed_to n w p j) (eq_is v.acting m same) (here few)
    | inr off ↦ absurd (away_has (v.known m p) (rests.away m off) is)
  ]);
  carried = λ few m from is e. absurd (nowhere m from is);
  asked = λ e m from is. absurd (nowhere m from is);
  small = λ few. (let g = here few in let most = sum_most (λ a. count_for w p (w.pair a v.acting).ids) n (λ c. let l = count_length w p (w.pair c v.acting).ids in let f = few c v.acting in omega (arith, l, f)) in omega (arith, g, most, machines));
}
  where
    w : View
    w = handled v id

    lists : Lists n p v w
    lists = label_lists n p v (Label.Took id)

    away_has : (x : Known) → is_away x ≡ true → has_it x ≡ true → ⊥
    away_has x e f = search arith

    away_comes : (x : Known) (from : ℕ) → is_away x ≡ true → x ≡ Incoming from → ⊥
    away_comes x from e f = absurd (false≢true (sym (ap is_away f) ∙ e))

    nowhere : (m from : ℕ) → v.known m p ≡ Incoming from → ⊥
    nowhere m from is = elim (cases_Bool (v.acting == m)) [
      | inl same ↦ (let g : Here ≡ Incoming from = sym rests.here ∙ ap (λ (j : ℕ). v.known j p) (eq_is v.acting m same) ∙ is in cc)
      | inr off ↦ away_comes (v.known m p) from (rests.away m off) is
    ]

    routed : (m : ℕ) → routed_to n w p m ≡ routed_to n v p m
    routed m = sum_same (λ a. count_for w p (w.pair a m).ids) (λ a. count_for v p (v.pair a m).ids) n (λ a. count_same v w p (v.pair a m).ids (λ i least. refl))

    less : waiting_at n w p v.acting + 1 ≤ waiting_at n v p v.acting
    less =
        let m = v.acting in
        let box = count_same v w p (w.inbox m) (λ i least. refl) in
        let at = ap (λ (c : Bool). count_for v p (if c then without_front id (v.inbox m) else v.inbox m)) (eq_self m) ∙ ap (λ (is : List MsgId). count_for v p (without_front id is)) front.1 in
        let one = front_one v p id front.0 in
        let it = it_is v p id u told to in
        let all = ap (λ (is : List MsgId). count_for v p is) front.1 in
        let held = count_same v w p (v.held m p) (λ i least. refl) in
        let out = sum_same (λ a. count_for w p (untaken (w.pair a m))) (λ a. count_for v p (untaken (v.pair a m))) n (λ a. count_same v w p (untaken (v.pair a m)) (λ i least. refl)) in
        omega (arith, box, at, one, it, all, held, out)

    here : AreFew v → server_size t p + 41 * waiting_at n w p v.acting ≤ 536870912 + 41 * routed_to n w p v.acting
    here few =
        let f = less in
        let r = routed v.acting in
        let g = z.grown few v.acting (ap has_it rests.here) in omega (arith, f, r, g, size)

-- what a message that a server takes needs
pub record NeedsTook (p : Pid) (s : OneKernel) (v : View) (id : MsgId) : Type 0 where
  pub front : Fronted v id
  pub told : (m : PlainMessage) → s.bag id ≡ Some m → (u : Told) × (v.told id ≡ Some u) × (u.receiver ≡ m.to)
  pub rests : (m : PlainMessage) → s.bag id ≡ Some m → m.to ≡ p → Resting v p

pub took_keeps : (n : ℕ) (p : Pid) (pt : Point) (t : OneKernel) (id : MsgId) → Server n p → NeedsTook p pt.kernel pt.view id → kernel.step pt.kernel (Label.Took id) ≡ Some t → Sizes 0 n p pt.kernel pt.view → Sizes 0 n p t (moved pt (Line.Label (Label.Took id)) t).view
took_keeps n p pt t id server need is h =
    let (m, there, size) = took_grows pt.kernel t id p server.is is in
    let v = pt.view in
    let w = handled v id in
    sizes_about 0 n p t w (topic_by pt.kernel w.topic (Some (Label.Took id))) (elim (cases_Bool (pid_eq m.to p)) [
      | inl same ↦
          let to = pid_eq-is m.to p same in
          let (u, told, receiver) = need.told m there in
          let more = ap {B = ℕ} (λ (c : Bool). if c then 41 else 0) same in
          took_it n p pt.kernel t v id u server.few need.front told (receiver ∙ to) (need.rests m there to) (omega (arith, size, more)) h
      | inr off ↦
          let none = ap {B = ℕ} (λ (c : Bool). if c then 41 else 0) off in
          slow_keeps 0 n p pt.kernel t v w (record { lists = label_lists n p v (Label.Took id); knows = knows_as p v w refl refl refl; size = omega (arith, size, none) }) h
    ])

-- a piece that was asked for is told of: the pair that leads to the other machine has one message more
pub pulls_keep : (n : ℕ) (p : Pid) (s : OneKernel) (v : View) (b : ℕ) (id : MsgId) (k : MessageKind) (q : Pid) → Lists n p v (after_put v v.acting b id k q) → ((m from : ℕ) → v.known m p ≡ Incoming from → (m ≡ v.acting) × (from ≡ b)) → Sizes 1 n p s v → Sizes 0 n p s (after_put v v.acting b id k q)
pulls_keep n p s v b id k q lists only z = record {
  outside = lists.outside z.outside;
  home = lists.home z.home;
  within = λ m. (let f = lists.flow m in let o = z.within m in omega (arith, f, o));
  grown = λ few m is. (let f = lists.flow m in let g = z.grown (few_before n p v w lists few) m is in omega (arith, f, g));
  carried = λ few m from is e. z.carried (few_before n p v w lists few) m from is e;
  asked = λ e m from is. (
      let here = only m from is in
      let a = z.asked e m from is in
      let same = ap (λ (j : ℕ). length (v.pair j from).ids) here.0 ∙ ap (λ (j : ℕ). length (v.pair v.acting j).ids) here.1 in
      let now = ap (λ (j : ℕ). length (w.pair j from).ids) here.0 ∙ ap (λ (j : ℕ). length (w.pair v.acting j).ids) here.1 in
      let more = longer in
      omega (arith, a, same, now, more)
      );
  small = λ few. z.small (few_before n p v w lists few);
}
  where
    w : View
    w = after_put v v.acting b id k q

    longer : length (w.pair v.acting b).ids ≡ length (v.pair v.acting b).ids + 1
    longer =
        let both : ((v.acting == v.acting) && (b == b)) ≡ true = ap (λ (t : Bool). t && (b == b)) (eq_self v.acting) ∙ eq_self b in
        ap (λ (t : Bool). length (if t then routed_on v.acting b (v.pair v.acting b) id else v.pair v.acting b).ids) both ∙ length-append (v.pair v.acting b).ids (id ∷ [])

-- the last chunk: as many were asked for as there are
pub chunks_small : (s : OneKernel) (p : Pid) (x : Size) (n : ℕ) → size_of s p ≡ Some x → (n == (x.state + 511) / 512) ≡ true → n ≤ 1048576 → server_size s p ≤ 536870912
chunks_small s p x n is same few =
    let e : server_size s p ≡ x.state = ap (λ (o : Option Size). option_map_or (λ (z : Size). z.state) o 0) is in
    let f : n ≡ (x.state + 511) / 512 = eq_is n ((x.state + 511) / 512) same in
    omega (arith, e, f, few)

pub pieces_small : (s : OneKernel) (p : Pid) (x : Size) (n : ℕ) → size_of s p ≡ Some x → (n == (x.state + 511) / 512 + x.blocks) ≡ true → n ≤ 1048576 → server_size s p ≤ 536870912
pieces_small s p x n is same few =
    let e : server_size s p ≡ x.state = ap (λ (o : Option Size). option_map_or (λ (z : Size). z.state) o 0) is in
    let f : n ≡ (x.state + 511) / 512 + x.blocks = eq_is n ((x.state + 511) / 512 + x.blocks) same in
    omega (arith, e, f, few)
