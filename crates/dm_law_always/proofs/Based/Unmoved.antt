-- What was never made, and is no server, has never moved: each group keeps it.
use Rattle.dm_law_always.proofs.Names.{sets, ◌≡◌, ℕ, ◌+◌, Bool, refl, ap, ◌∙◌, sym, subst, inl, inr, if◌then◌else◌, cases_Bool, Option, None, Some, Pid, pid_eq, MsgId, Boot, Label, Line, Stage, PlainProcess, OneKernel, Step, pid_eq-is}
use Rattle.dm_law_always.proofs.Names.{after_step, Spelled, Point, kernel_after, label_of, group_of, View, Told, handled, receiver_of, served_told, view_after, Kept, grown_none, Phased, Sane, KnownStands, ◌≢◌, ◌==◌, ◌&&◌, true, false, List}
use Rattle.dm_law_always.proofs.Names.{[], ◌∷◌, ◌++◌, is_some, arith, false≢true, nat_tests, Life, bind-is, completing, at_machine, at_record, without, moved_back, Known, Unknown, Here, Frozen, Incoming, Forward, front_of, gone_to, is_away}
use Rattle.dm_law_always.proofs.Names.{is_here, at_machine_at, is_kill, is_server, agrees, ring_with, rings, turns_here, aim, at_hand-is, goes_back, is_alive, plain_kind, ◌||◌}
use Rattle.dm_onekernel.specs.Step as kernel
use Rattle.dm_law_rule.specs.View as view
use Rattle.dm_law_always.proofs.Based.Groups.{group_keeps}
use Rattle.dm_law_always.proofs.Based.Loud.{Loud, keeps_by, Alike, SetLife, life_sort, living_alike, step_ends, step_serves, step_creates}
use Rattle.dm_law_always.proofs.Based.Sets.{killed_or, rings_without, rings_others, back_self, back_others, last_self, last_others, ring_set, set_all}
use Rattle.dm_law_always.proofs.Based.Needs.{Buries, Resting, Serves}
use Rattle.dm_law_always.proofs.Based.Rows.{living}

pub record Unmoved (s : OneKernel) (v : View) : Type 0 where
  pub none : (p : Pid) → is_server p ≡ false → s.processes p ≡ None → v.moves p ≡ 0

-- what was made stays made
kept_label : (pt : Point) (t : OneKernel) (l : Label) → Sane pt → kernel.step pt.kernel l ≡ Some t → Kept pt.kernel t
kept_label pt t l h e p none =
    let a = after_step h.r h.e pt.kernel t l e h.sound in
    grown_none (pt.kernel.processes p) (t.processes p) (a.grown.lives p) none

kept_by : (pt : Point) (t : OneKernel) (o : Option Label) → Sane pt → kernel_after pt.kernel o ≡ Some t → Kept pt.kernel t
kept_by pt t o h1 h2 = search (arith, pt.kernel, kept_label)

unmoved_as : (s t : OneKernel) (v w : View) → Kept s t → w.moves ≡ v.moves → Unmoved s v → Unmoved t w
unmoved_as s t v w kept moves h = record { none = λ p server none. ap (λ (f : Pid → ℕ). f p) moves ∙ h.none p server (kept p none) }

by_label : (pt : Point) (t : OneKernel) (l : Label) → Sane pt → kernel.step pt.kernel l ≡ Some t → (view_after pt.view (Line.Label l)).moves ≡ pt.view.moves → Unmoved pt.kernel pt.view → Unmoved t (view_after pt.view (Line.Label l))
by_label pt t l sane is moves h = unmoved_as pt.kernel t pt.view (view_after pt.view (Line.Label l)) (kept_label pt t l sane is) moves h

pub dropped_moves : (v : View) (id : MsgId) (o : Option Pid) → (view.dropped_for v id o).moves ≡ v.moves
dropped_moves v id o = search arith

pub queued_moves : (v : View) (id : MsgId) (o : Option Pid) → (view.queued_for v id o).moves ≡ v.moves
queued_moves v id o = search arith

pub held_moves : (v : View) (id : MsgId) (o : Option Pid) → (view.held_for v id o).moves ≡ v.moves
held_moves v id o = search arith

buried_moves : (v : View) (o : Option Told) → (view.buried_for v o).moves ≡ v.moves
buried_moves v None = refl
buried_moves v (Some t) = by t.about
  where
    by : (a : view.About) → (view.forgotten v a).moves ≡ v.moves
    by (view.Of p) = refl
    by _ = refl

served_moves : (v : View) (o : Option Told) → (served_told v o).moves ≡ v.moves
served_moves v o = search (arith, killed_or, v.moves)

-- who lives has moved once more
made_of : (s : OneKernel) (p : Pid) → is_alive s p ≡ true → is_server p ≡ false → s.processes p ≡ None → ⊥
made_of s p lives server none =
    let dead : is_alive s p ≡ false = ap (λ (c : Bool). c || is_some (kernel.alive (s.processes p))) server ∙ ap (λ (o : Option Life). is_some (kernel.alive o)) none in
    false≢true (sym dead ∙ lives)

restarted_moves : (s : OneKernel) (v w : View) (p : Pid) → is_alive s p ≡ true → w.moves ≡ (λ q. if pid_eq p q then v.moves p + 1 else v.moves q) → Unmoved s v → Unmoved s w
restarted_moves s v w p lives is h = record {
  none = λ q server none. elim (cases_Bool (pid_eq p q)) [
    | inl same ↦ absurd (made_of s q (ap (is_alive s) (sym (pid_eq-is p q same)) ∙ lives) server none)
    | inr apart ↦ ap (λ (f : Pid → ℕ). f q) is ∙ ap (λ (c : Bool). if c then v.moves p + 1 else v.moves q) apart ∙ h.none q server none
  ];
}

unmoved_loud : Loud (λ pt. Unmoved pt.kernel pt.view)
unmoved_loud = record {
  rides = (search arith);
  quiet = λ pt w t l e s told alike sane is h. subst (Unmoved t) (sym e) (unmoved_as pt.kernel t pt.view w (kept_by pt t (label_of l) sane is) s.moves h);
  ran = λ pt t p k here alike sane is h. by_label pt t (Label.Ran p k) sane is refl h;
  receive = λ pt t p id here alike sane is h. by_label pt t (Label.Receive p id) sane is refl h;
  refuse = λ pt t p id c here alike sane is h. by_label pt t (Label.Refuse p id c) sane is refl h;
  end = λ pt t p y rests sane is h. by_label pt t (Label.End p y) sane is refl h;
  dropped = λ pt t id alike sane is h. by_label pt t (Label.Dropped id) sane is (dropped_moves (handled pt.view id) id (receiver_of (pt.view.told id))) h;
  served = λ pt t id serves sane is h. by_label pt t (Label.Served id) sane is (served_moves (handled pt.view id) (pt.view.told id)) h;
  created = λ pt t id p unborn sane is h. by_label pt t (Label.Created id p) sane is refl h;
  queued = λ pt id need sane h. unmoved_as pt.kernel pt.kernel pt.view (view_after pt.view (Line.Queued id)) (λ p e. e) (queued_moves (handled pt.view id) id (receiver_of (pt.view.told id))) h;
  held = λ pt id need sane h. unmoved_as pt.kernel pt.kernel pt.view (view_after pt.view (Line.Held id)) (λ p e. e) (held_moves (handled pt.view id) id (receiver_of (pt.view.told id))) h;
  frozen = λ pt p lives here h. unmoved_as pt.kernel pt.kernel pt.view (view_after pt.view (Line.Migration Stage.Frozen p)) (λ q e. e) (sets pt.view p pt.view.topic).moves h;
  accepted = λ pt p lives away h. record { none = h.none };
  left = λ pt p leaves h. record { none = h.none };
  restarted = λ pt p lives off h. restarted_moves pt.kernel pt.view (view_after pt.view (Line.Migration Stage.Restarted p)) p lives refl h;
  stays_ = λ pt p lives off h. record { none = h.none };
  sent_on = λ pt p n h. record { none = h.none };
  called = λ pt p n calls h. record { none = h.none };
  buried = λ pt id n tells sane h. unmoved_as pt.kernel pt.kernel pt.view (view_after pt.view (Line.Buried id n)) (λ p e. e) (buried_moves (handled pt.view id) (pt.view.told id)) h;
}

pub unmoved_group : (b : Boot) (pt : Point) (d : Step) (w : Spelled) → group_of b pt d ≡ Some w → Phased pt → KnownStands pt.kernel pt.view → Unmoved pt.kernel pt.view → Unmoved w.point.kernel w.point.view
unmoved_group b pt d w is phased known h = group_keeps (λ q. Unmoved q.kernel q.view) (keeps_by (λ q. Unmoved q.kernel q.view) unmoved_loud) b pt d w is phased known h

-- What machines know of processes agrees with the kernel without machines: each group keeps it.

-- what a machine knows agrees by whether a process was made, lives or has ended
agrees_by : Known → Option Bool → Bool
agrees_by Unknown o = true
agrees_by (Forward at moves) (Some b) = true
agrees_by _ None = false
agrees_by _ (Some true) = true
agrees_by _ (Some false) = false

by_sort : (k : Known) (o : Option Life) → agrees k o ≡ agrees_by k (life_sort o)
unfolding agrees_by
by_sort k o = search arith

agrees_alike : (k : Known) (a b : Option Life) → life_sort a ≡ life_sort b → agrees k a ≡ agrees k b
agrees_alike k a b e = by_sort k a ∙ ap (agrees_by k) e ∙ sym (by_sort k b)

here_agrees : (o : Option Life) → life_sort o ≡ Some true → agrees Here o ≡ true
here_agrees o h1 = search arith

frozen_agrees : (to : ℕ) (o : Option Life) → life_sort o ≡ Some true → agrees (Frozen to) o ≡ true
frozen_agrees to o h1 = search arith

coming_agrees : (from : ℕ) (o : Option Life) → life_sort o ≡ Some true → agrees (Incoming from) o ≡ true
coming_agrees from o h1 = search arith

coming_some : (from : ℕ) (o : Option Life) → agrees (Incoming from) o ≡ true → is_some o ≡ true
coming_some from o h1 = search arith

frozen_some : (to : ℕ) (o : Option Life) → agrees (Frozen to) o ≡ true → is_some o ≡ true
frozen_some to o h1 = search arith

forward_agrees : (at moves : ℕ) (o : Option Life) → is_some o ≡ true → agrees (Forward at moves) o ≡ true
forward_agrees at moves o h1 = search arith

turns_off : (c : Bool) (k : Known) → is_here k ≡ false → turns_here c k ≡ 0
turns_off c k h1 = search arith

away_off : (k : Known) → is_away k ≡ true → is_here k ≡ false
away_off k h1 = search arith

-- who lives lived before
alive_back : (s t : OneKernel) (q : Pid) → life_sort (t.processes q) ≡ life_sort (s.processes q) → is_alive t q ≡ true → is_alive s q ≡ true
alive_back s t q e lives = ap (λ (c : Bool). is_server q || c) (sym (living_alike (t.processes q) (s.processes q) e)) ∙ lives

-- nothing is learnt, and nobody ends
known_same : (s t : OneKernel) (v w : View) → Alike s t → w.known ≡ v.known → ((m : ℕ) (q : Pid) → rings q (w.ring m) ≡ rings q (v.ring m)) → KnownStands s v → KnownStands t w
known_same s t v w alike known ring h = record {
  agree = λ m q e. ap (λ (f : ℕ → Pid → Known). agrees (f m q) (t.processes q)) known ∙ agrees_alike (v.known m q) (t.processes q) (s.processes q) (alike q) ∙ h.agree m q e;
  home = λ q lives unknown. h.home q (alive_back s t q (alike q) lives) (sym (ap (λ (f : ℕ → Pid → Known). f q.home q) known) ∙ unknown);
  ring = λ m q. ring m q ∙ h.ring m q ∙ ap (λ (f : ℕ → Pid → Known). turns_here (is_server q) (f m q)) (sym known);
}

known_as : (s t : OneKernel) (v w : View) → Alike s t → w.known ≡ v.known → w.ring ≡ v.ring → KnownStands s v → KnownStands t w
known_as s t v w alike known ring h = known_same s t v w alike known (λ m q. ap (λ (f : ℕ → List Pid). rings q (f m)) ring) h

-- the acting machine learns something of a process or a server
record Learnt (s t : OneKernel) (v w : View) (p : Pid) (k : Known) : Type 0 where
  known : w.known ≡ at_record v.known v.acting p k
  others : (q : Pid) → pid_eq p q ≡ false → life_sort (t.processes q) ≡ life_sort (s.processes q)
  mine : is_server p ≡ false → agrees k (t.processes p) ≡ true
  away : is_server p ≡ false → (n : ℕ) → (v.acting == n) ≡ false → agrees (v.known n p) (t.processes p) ≡ true
  some : is_alive t p ≡ true → k ≢ Unknown
  far : (v.acting == p.home) ≡ false → is_alive t p ≡ true → is_alive s p ≡ true
  ring : rings p (w.ring v.acting) ≡ turns_here (is_server p) k
  rings_ : (m : ℕ) (q : Pid) → ((v.acting == m) && pid_eq p q) ≡ false → rings q (w.ring m) ≡ rings q (v.ring m)

off_first : (a c : Bool) → (a && c) ≡ false → c ≡ true → a ≡ false
off_first a c h1 h2 = search arith

known_learns : (s t : OneKernel) (v w : View) (p : Pid) (k : Known) → Learnt s t v w p k → KnownStands s v → KnownStands t w
known_learns s t v w p k l h = record {
  agree = λ m q e. ap (λ (f : ℕ → Pid → Known). agrees (f m q) (t.processes q)) l.known
      ∙ set_all (λ n r x. is_server r ≡ false → agrees x (t.processes r) ≡ true) v.known v.acting p k l.mine
      (λ n r off e_. elim (cases_Bool (pid_eq p r)) [
        | inl same ↦
            let is = pid_eq-is p r same in
            subst (λ (x : Pid). agrees (v.known n x) (t.processes x) ≡ true) is (l.away (ap is_server is ∙ e_) n (off_first (v.acting == n) (pid_eq p r) off same))
        | inr apart ↦ agrees_alike (v.known n r) (t.processes r) (s.processes r) (l.others r apart) ∙ h.agree n r e_
      ]) m q e;
  home = λ q some unknown. set_all (λ n r x. n ≡ r.home → is_alive t r ≡ true → x ≢ Unknown) v.known v.acting p k (λ at some_. l.some some_)
      (λ n r off at some_. elim (cases_Bool (pid_eq p r)) [
        | inl same ↦
            let is = pid_eq-is p r same in
            let home : n ≡ p.home = at ∙ ap (λ (x : Pid). x.home) (sym is) in
            let there : is_alive s p ≡ true = l.far (ap (λ (i : ℕ). v.acting == i) (sym home) ∙ off_first (v.acting == n) (pid_eq p r) off same) (ap (is_alive t) is ∙ some_) in
            (λ z. h.home p there (ap (λ (i : ℕ). v.known i p) (sym home) ∙ ap (v.known n) is ∙ z))
        | inr apart ↦
            let there : is_alive s r ≡ true = alive_back s t r (l.others r apart) some_ in
            (λ z. h.home r there (ap (λ (i : ℕ). v.known i r) (sym at) ∙ z))
      ]) q.home q refl some (sym (ap (λ (f : ℕ → Pid → Known). f q.home q) l.known) ∙ unknown);
  ring = λ m q. set_all (λ n r x. rings r (w.ring n) ≡ turns_here (is_server r) x) v.known v.acting p k l.ring (λ n r off. l.rings_ n r off ∙ h.ring n r) m q
      ∙ ap (λ (f : ℕ → Pid → Known). turns_here (is_server q) (f m q)) (sym l.known);
}

-- one machine's ring
ring_there : (f : ℕ → List Pid) (a : ℕ) (p : Pid) (zs : List Pid) → rings p (at_machine f a zs a) ≡ rings p zs
ring_there f a p zs = ap (rings p) (at_machine_at f a zs)

ring_off : (f : ℕ → List Pid) (a : ℕ) (p : Pid) (zs : List Pid) → ((q : Pid) → pid_eq p q ≡ false → rings q zs ≡ rings q (f a)) → (m : ℕ) (q : Pid) → ((a == m) && pid_eq p q) ≡ false → rings q (at_machine f a zs m) ≡ rings q (f m)
ring_off f a p zs others m q off = search (arith, off_first, ring_set)

-- a served process goes to its ring's back
serving_ring : (s : OneKernel) (v : View) (p : Pid) → KnownStands s v → is_server p ≡ false → v.known v.acting p ≡ Here → (m : ℕ) (q : Pid) → rings q (at_machine v.ring v.acting (moved_back p (v.ring v.acting)) m) ≡ rings q (v.ring m)
serving_ring s v p h server here m q =
    let f = v.ring in
    let a = v.acting in
    let one : rings p (f a) ≡ 1 = h.ring a p ∙ ap (λ (k : Known). turns_here (is_server p) k) here ∙ ap (λ (c : Bool). turns_here c Here) server in
    elim (cases_Bool (pid_eq p q)) [
      | inl same ↦ subst (λ (r : Pid). rings r (at_machine f a (moved_back p (f a)) m) ≡ rings r (f m)) (pid_eq-is p q same) (ring_set f a (moved_back p (f a)) p (back_self p (f a) ∙ sym one) m)
      | inr apart ↦ ring_set f a (moved_back p (f a)) q (back_others p q (f a) apart) m
    ]

-- what is away agrees with an end
away_over : (k : Known) (o : Option Life) → is_away k ≡ true → life_sort o ≡ Some false → agrees k o ≡ true
away_over k o h1 h2 = search arith

-- a process ends
over_dead : (s : OneKernel) (p : Pid) → is_server p ≡ false → life_sort (s.processes p) ≡ Some false → is_alive s p ≡ false
over_dead s p server over = ap (λ (c : Bool). c || is_some (kernel.alive (s.processes p))) server ∙ dead (s.processes p) over
  where
    dead : (o : Option Life) → life_sort o ≡ Some false → is_some (kernel.alive o) ≡ false
    dead o e = search arith

ends_known : (s t : OneKernel) (v : View) (p : Pid) → is_server p ≡ false → SetLife s t p (Some false) → Resting v p → KnownStands s v → KnownStands t (view.ended v p)
ends_known s t v p server set rests h = known_learns s t v (view.ended v p) p Unknown (record {
  known = refl;
  others = set.off;
  mine = λ e. refl;
  away = λ e n off. away_over (v.known n p) (t.processes p) (rests.away n off) set.at_;
  some = λ lives. absurd (false≢true (sym (over_dead t p server set.at_) ∙ lives));
  far = λ e lives. absurd (false≢true (sym (over_dead t p server set.at_) ∙ lives));
  ring = ring_there v.ring v.acting p (without p (v.ring v.acting)) ∙ rings_without p (v.ring v.acting) ∙ sym (turns_off (is_server p) Unknown refl);
  rings_ = ring_off v.ring v.acting p (without p (v.ring v.acting)) (λ q apart. rings_others p q (v.ring v.acting) apart);
}) h

-- it stands in the ring once, or never where it is a server, and the others as before
ring_self : (p : Pid) (xs : List Pid) (c : Bool) → rings p xs ≡ 0 → rings p (if c then xs else xs ++ p ∷ []) ≡ turns_here c Here
ring_self p xs true none = none
ring_self p xs false none = last_self p xs none

ring_others : (p q : Pid) (xs : List Pid) (c : Bool) → pid_eq p q ≡ false → rings q (if c then xs else xs ++ p ∷ []) ≡ rings q xs
ring_others p q xs true apart = refl
ring_others p q xs false apart = last_others p q xs apart

-- a process or a server is here, at its ring's back where it stands in it
comes_known : (s t : OneKernel) (v w : View) (p : Pid) → w.known ≡ at_record v.known v.acting p Here → w.ring ≡ at_machine v.ring v.acting (ring_with (v.ring v.acting) p) → ((q : Pid) → pid_eq p q ≡ false → life_sort (t.processes q) ≡ life_sort (s.processes q))
    → (is_server p ≡ false → agrees Here (t.processes p) ≡ true) → (is_server p ≡ false → (n : ℕ) → (v.acting == n) ≡ false → agrees (v.known n p) (t.processes p) ≡ true) → ((v.acting == p.home) ≡ false → is_alive t p ≡ true → is_alive s p ≡ true) → is_here (v.known v.acting p) ≡ false
    → KnownStands s v → KnownStands t w
comes_known s t v w p known ring others mine away far off h =
    let zs = ring_with (v.ring v.acting) p in
    let none : rings p (v.ring v.acting) ≡ 0 = h.ring v.acting p ∙ turns_off (is_server p) (v.known v.acting p) off in
    known_learns s t v w p Here (record {
      known = known;
      others = others;
      mine = mine;
      away = away;
      some = λ lives e. cc;
      far = far;
      ring = ap (λ (f : ℕ → List Pid). rings p (f v.acting)) ring ∙ ring_there v.ring v.acting p zs ∙ ring_self p (v.ring v.acting) (is_server p) none;
      rings_ = λ m q o. ap (λ (f : ℕ → List Pid). rings q (f m)) ring ∙ ring_off v.ring v.acting p zs (λ r apart. ring_others p r (v.ring v.acting) (is_server p) apart) m q o;
    }) h

-- who lives, and is no server, is made and hasn't ended
alive_agrees : (o : Option Life) → is_some (kernel.alive o) ≡ true → (life_sort o ≡ Some true)
alive_agrees o e = search arith

alive_life : (s : OneKernel) (p : Pid) → is_alive s p ≡ true → is_server p ≡ false → life_sort (s.processes p) ≡ Some true
alive_life s p lives server = alive_agrees (s.processes p) (sym (ap (λ (c : Bool). c || is_some (kernel.alive (s.processes p))) server) ∙ lives)

-- the lines
ran_living : (s t : OneKernel) (p : Pid) (k : ℕ) → kernel.step s (Label.Ran p k) ≡ Some t → (x : PlainProcess) × (kernel.alive (s.processes p) ≡ Some x)
ran_living s t p k is = search (arith, bind-is, at_hand-is)

served_known : (s t : OneKernel) (v : View) (told : Told) → is_server told.receiver ≡ false → (is_kill told.kind ≡ true → SetLife s t told.receiver (Some false)) → (is_kill told.kind ≡ false → Alike s t)
    → (is_kill told.kind ≡ true → Resting v told.receiver) → KnownStands s v → KnownStands t (served_told v (Some told))
served_known s t v told server kill other rests h =
    killed_or (KnownStands t) told.kind v told.receiver (λ k. ends_known s t v told.receiver server (kill k) (rests k) h) (λ k. known_as s t v v (other k) refl refl h)

served_line : (pt : Point) (t : OneKernel) (id : MsgId) → Serves pt.view id → Sane pt → kernel.step pt.kernel (Label.Served id) ≡ Some t → KnownStands pt.kernel pt.view → KnownStands t (view_after pt.view (Line.Label (Label.Served id)))
served_line pt t id serves sane is h =
    let s = pt.kernel in
    let v = handled pt.view id in
    let l = step_serves s t id is in
    let told = serves.told in
    let kind : told.kind ≡ plain_kind l.message.what = sane.tells.kind id l.message told l.there serves.is in
    let to : told.receiver ≡ l.message.to = sane.tells.receiver id l.message told l.there serves.is in
    let lives = living pt l.message.to l.process sane (ap kernel.alive l.alive) in
    let k : KnownStands s v = record { agree = h.agree; home = h.home; ring = h.ring } in
    subst (λ (o : Option Told). KnownStands t (served_told v o)) (sym serves.is)
    (served_known s t v told (ap is_server to ∙ lives.server) (λ kill. subst (λ (q : Pid). SetLife s t q (Some false)) (sym to) (l.served.kill (sym (ap is_kill kind) ∙ kill))) (λ mild. l.served.other (sym (ap is_kill kind) ∙ mild))
    (λ kill. let r = serves.rests kill in record { here = r.here; away = r.away }) k)

dropped_known : (s t : OneKernel) (v : View) (id : MsgId) (o : Option Pid) → Alike s t → KnownStands s v → KnownStands t (view.dropped_for v id o)
dropped_known s t v id o h1 h2 = search (arith, known_as)

queued_known : (s : OneKernel) (v : View) (id : MsgId) (o : Option Pid) → KnownStands s v → KnownStands s (view.queued_for v id o)
queued_known s v id o h1 = search arith

held_known : (s : OneKernel) (v : View) (id : MsgId) (o : Option Pid) → KnownStands s v → KnownStands s (view.held_for v id o)
held_known s v id o h1 = search arith

handled_known : (s : OneKernel) (v : View) (id : MsgId) → KnownStands s v → KnownStands s (handled v id)
handled_known s v id h = record { agree = h.agree; home = h.home; ring = h.ring }

-- a process is forgotten that has ended
forgets_known : (s : OneKernel) (v : View) (p : Pid) → Buries s v p → KnownStands s v → KnownStands s (view.forgotten v (view.Of p))
forgets_known s v p b h = known_learns s s v (view.forgotten v (view.Of p)) p Unknown (record {
  known = refl;
  others = λ q apart. refl;
  mine = λ e. refl;
  away = λ e n off. h.agree n p e;
  some = λ lives. absurd (false≢true (sym (over_dead s p b.server b.over) ∙ lives));
  far = λ e lives. lives;
  ring = h.ring v.acting p ∙ turns_off (is_server p) (v.known v.acting p) (away_off (v.known v.acting p) (b.away v.acting)) ∙ sym (turns_off (is_server p) Unknown refl);
  rings_ = λ m q off. refl;
}) h

buried_known : (s : OneKernel) (v : View) (o : Option Told) → ((u : Told) (p : Pid) → o ≡ Some u → u.about ≡ view.Of p → Buries s v p) → KnownStands s v → KnownStands s (view.buried_for v o)
buried_known s v None tells h = h
buried_known s v (Some u) tells h = by u.about (λ p e. tells u p refl e)
  where
    by : (a : view.About) → ((p : Pid) → a ≡ view.Of p → Buries s v p) → KnownStands s (view.forgotten v a)
    by (view.Of p) k = forgets_known s v p (k p refl) h
    by _ k = h

created_ring : (v : View) (p : Pid) (c : Bool) → c ≡ false → at_machine v.ring v.acting (v.ring v.acting ++ p ∷ []) ≡ at_machine v.ring v.acting (if c then v.ring v.acting else v.ring v.acting ++ p ∷ [])
created_ring v p c e = ap (λ (d : Bool). at_machine v.ring v.acting (if d then v.ring v.acting else v.ring v.acting ++ p ∷ [])) (sym e)

home_apart : (a b : ℕ) → b ≡ a → (a == b) ≡ false → ⊥
home_apart a b e off = let k : (a == b) ≡ true = grind (arith, nat_tests) in false≢true (sym off ∙ k)

known_loud : Loud (λ pt. KnownStands pt.kernel pt.view)
known_loud = record {
  rides = (search arith);
  quiet = λ pt w t l e s told alike sane is h. subst (KnownStands t) (sym e) (known_as pt.kernel t pt.view w alike s.known s.ring h);
  ran = λ pt t p k here alike sane is h.
      let (x, alive) = ran_living pt.kernel t p k is in
      known_same pt.kernel t pt.view (view_after pt.view (Line.Label (Label.Ran p k))) alike refl (serving_ring pt.kernel pt.view p h (living pt p x sane alive).server here) h;
  receive = λ pt t p id here alike sane is h.
      let (c, done, last) = bind-is (kernel.completing pt.kernel p id) (kernel.receives pt.kernel p id) t is in
      let x = completing pt.kernel p id c done in
      known_same pt.kernel t pt.view (view_after pt.view (Line.Label (Label.Receive p id))) alike refl (serving_ring pt.kernel pt.view p h (living pt p x.x sane (ap kernel.alive x.alive)).server here) h;
  refuse = λ pt t p id r here alike sane is h.
      let (c, done, last) = bind-is (kernel.completing pt.kernel p id) (kernel.refuses pt.kernel p r) t is in
      let x = completing pt.kernel p id c done in
      known_same pt.kernel t pt.view (view_after pt.view (Line.Label (Label.Refuse p id r))) alike refl (serving_ring pt.kernel pt.view p h (living pt p x.x sane (ap kernel.alive x.alive)).server here) h;
  end = λ pt t p y rests sane is h.
      let l = step_ends pt.kernel t p y is in
      ends_known pt.kernel t pt.view p (living pt p l.process sane (ap kernel.alive l.alive)).server l.set rests h;
  dropped = λ pt t id alike sane is h. dropped_known pt.kernel t (handled pt.view id) id (receiver_of (pt.view.told id)) alike (handled_known pt.kernel pt.view id h);
  served = λ pt t id serves sane is h. served_line pt t id serves sane is h;
  created = λ pt t id p unborn sane is h.
      let set = step_creates pt.kernel t id p is in
      comes_known pt.kernel t pt.view (view_after pt.view (Line.Label (Label.Created id p))) p refl (created_ring pt.view p (is_server p) unborn.server) set.off (λ e. here_agrees (t.processes p) set.at_)
      (λ e n off. ap (λ (k : Known). agrees k (t.processes p)) (unborn.unknown n)) (λ off lives. absurd (home_apart pt.view.acting p.home unborn.home off)) (ap is_here (unborn.unknown pt.view.acting)) h;
  queued = λ pt id need sane h. queued_known pt.kernel (handled pt.view id) id (receiver_of (pt.view.told id)) (handled_known pt.kernel pt.view id h);
  held = λ pt id need sane h. held_known pt.kernel (handled pt.view id) id (receiver_of (pt.view.told id)) (handled_known pt.kernel pt.view id h);
  frozen = λ pt p lives here h.
      let v = pt.view in
      let to = aim v v.topic in
      let set = sets v p v.topic in
      known_learns pt.kernel pt.kernel v (view_after v (Line.Migration Stage.Frozen p)) p (Frozen to) (record {
        known = set.known;
        others = λ q apart. refl;
        mine = λ e. frozen_agrees to (pt.kernel.processes p) (alive_life pt.kernel p lives e);
        away = λ e n off. h.agree n p e;
        some = λ lives_ e. cc;
        far = λ e lives_. lives_;
        ring = ap (λ (f : ℕ → List Pid). rings p (f v.acting)) set.ring ∙ ring_there v.ring v.acting p (without p (v.ring v.acting)) ∙ rings_without p (v.ring v.acting) ∙ sym (turns_off (is_server p) (Frozen to) refl);
        rings_ = λ m q off. ap (λ (f : ℕ → List Pid). rings q (f m)) set.ring ∙ ring_off v.ring v.acting p (without p (v.ring v.acting)) (λ r apart. rings_others p r (v.ring v.acting) apart) m q off;
      }) h;
  accepted = λ pt p lives away h.
      let v = pt.view in
      let from = front_of (v.inbox v.acting) in
      known_learns pt.kernel pt.kernel v (view_after v (Line.Migration Stage.Accepted p)) p (Incoming from) (record {
        known = refl;
        others = λ q apart. refl;
        mine = λ e. coming_agrees from (pt.kernel.processes p) (alive_life pt.kernel p lives e);
        away = λ e n off. h.agree n p e;
        some = λ lives_ e. cc;
        far = λ e lives_. lives_;
        ring = h.ring v.acting p ∙ turns_off (is_server p) (v.known v.acting p) (away_off (v.known v.acting p) away) ∙ sym (turns_off (is_server p) (Incoming from) refl);
        rings_ = λ m q off. refl;
      }) h;
  left = λ pt p leaves h.
      let v = pt.view in
      let n = v.moves p + 1 in
      let k : gone_to (v.known v.acting p) n ≡ Forward leaves.to n = ap (λ (x : Known). gone_to x n) leaves.frozen in
      known_learns pt.kernel pt.kernel v (view_after v (Line.Migration Stage.Left p)) p (gone_to (v.known v.acting p) n) (record {
        known = refl;
        others = λ q apart. refl;
        mine = λ e. ap (λ (x : Known). agrees x (pt.kernel.processes p)) k ∙ forward_agrees leaves.to n (pt.kernel.processes p) (frozen_some leaves.to (pt.kernel.processes p) (sym (ap (λ (x : Known). agrees x (pt.kernel.processes p)) leaves.frozen) ∙ h.agree v.acting p e));
        away = λ e m off. h.agree m p e;
        some = λ lives e. (let f : Forward leaves.to n ≡ Unknown = sym k ∙ e in cc);
        far = λ e lives. lives;
        ring = h.ring v.acting p ∙ turns_off (is_server p) (v.known v.acting p) (ap is_here leaves.frozen) ∙ sym (turns_off (is_server p) (gone_to (v.known v.acting p) n) (ap is_here k));
        rings_ = λ m q off. refl;
      }) h;
  restarted = λ pt p lives off h.
      comes_known pt.kernel pt.kernel pt.view (view_after pt.view (Line.Migration Stage.Restarted p)) p refl refl (λ q apart. refl) (λ e. here_agrees (pt.kernel.processes p) (alive_life pt.kernel p lives e))
      (λ e n o. h.agree n p e) (λ e l. l) off h;
  stays_ = λ pt p lives off h.
      comes_known pt.kernel pt.kernel pt.view (view_after pt.view (Line.Stays p)) p refl refl (λ q apart. refl) (λ e. here_agrees (pt.kernel.processes p) (alive_life pt.kernel p lives e))
      (λ e n o. h.agree n p e) (λ e l. l) off h;
  sent_on = λ pt p n h. record { agree = h.agree; home = h.home; ring = h.ring };
  called = λ pt p n calls h.
      let v = pt.view in
      let at = v.moves p in
      let k : goes_back (v.known v.acting p) at ≡ Forward calls.from at = ap (λ (x : Known). goes_back x at) calls.comes in
      known_learns pt.kernel pt.kernel v (view_after v (Line.Called p n)) p (goes_back (v.known v.acting p) at) (record {
        known = refl;
        others = λ q apart. refl;
        mine = λ e. ap (λ (x : Known). agrees x (pt.kernel.processes p)) k ∙ forward_agrees calls.from at (pt.kernel.processes p) (coming_some calls.from (pt.kernel.processes p) (sym (ap (λ (x : Known). agrees x (pt.kernel.processes p)) calls.comes) ∙ h.agree v.acting p e));
        away = λ e m off. h.agree m p e;
        some = λ lives e. (let f : Forward calls.from at ≡ Unknown = sym k ∙ e in cc);
        far = λ e lives. lives;
        ring = h.ring v.acting p ∙ turns_off (is_server p) (v.known v.acting p) (ap is_here calls.comes) ∙ sym (turns_off (is_server p) (goes_back (v.known v.acting p) at) (ap is_here k));
        rings_ = λ m q off. refl;
      }) h;
  buried = λ pt id n tells sane h. buried_known pt.kernel (handled pt.view id) (pt.view.told id) (λ u p told about. let b = tells u p told about in record { over = b.over; away = b.away; server = b.server }) (handled_known pt.kernel pt.view id h);
}

pub known_group : (b : Boot) (pt : Point) (d : Step) (w : Spelled) → group_of b pt d ≡ Some w → Phased pt → KnownStands pt.kernel pt.view → KnownStands w.point.kernel w.point.view
known_group b pt d w is phased h = group_keeps (λ q. KnownStands q.kernel q.view) (keeps_by (λ q. KnownStands q.kernel q.view) known_loud) b pt d w is phased h h
