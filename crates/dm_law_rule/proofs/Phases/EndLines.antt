-- Lines and parts keep where processes are that have ended and that live, where each line has what it needs.
use Rattle.dm_law_rule.proofs.Names.{◌≡◌, ◌⊎◌, ℕ, ◌==◌, Bool, true, false, List, [], ◌∷◌, ⊤, refl, ap, ◌∙◌, sym, subst, inl, inr, length, if◌then◌else◌, Option, None, Some, cases_Bool, false≢true, Pid, pid_eq, pid_eq-is, MsgId, ◌+◌}
use Rattle.dm_law_rule.proofs.Names.{MessageKind, id_eq, id_eq-is, Label, Load, Stage, Line, plain_kind, PlainWhat, OneKernel, View, Told, Of, Known, Unknown, Here, Receiver, at_record, after_step, view_after, after_label, after_put, handled}
use Rattle.dm_law_rule.proofs.Names.{own_id, receiver_of, front_of, gone_to, goes_back, taken_id, dropped_for, served_told, ends_by, is_away, sort_of, tells_end, Point, label_of, kernel_after, moved, after_line, after, bind-is, Part, Says}
use Rattle.dm_law_rule.proofs.Names.{Routes, Again, Owns, Transmits, Spelled, spelled, lines_of, puts, goes_out, packet_line, ended_stays_of}
use Rattle.dm_law_rule.proofs.Names.{◌||◌, arith, nat_tests, nat_le, is_some, is_server, switchboard, manager, Life, Made, none_some}
use Rattle.dm_law_rule.specs.View as view
use Rattle.dm_law_rule.proofs.Hushed.{is_put, hushed}
use Rattle.dm_law_rule.proofs.Homes.Lines.{acting_label}
use Rattle.dm_law_rule.proofs.Homes.Parts.{acting_taken}
use Rattle.dm_law_rule.proofs.Lines.{eq_self, taken_pair}
use Rattle.dm_law_rule.proofs.Pairs.Lines.{onward}
use Rattle.dm_law_rule.proofs.Seen.{aim, sets}
use Rattle.dm_law_rule.proofs.Serving.{is_kill}
use Rattle.dm_law_rule.proofs.States.{said, put_told_off}
use Rattle.dm_law_rule.proofs.Telling.{Sane, Sayable, part_sane}
use Rattle.dm_law_rule.proofs.Phases.Lines.{queued_known, held_known, dropped_known, forwarded_known, put_at}
use Rattle.dm_law_rule.proofs.Phases.Pieces.{proto_known, proto_acting}
use Rattle.dm_law_rule.proofs.Phases.Quiet.{served_known}
use Rattle.dm_law_rule.proofs.Phases.Ends.{IsEnded, Ends}
use Rattle.dm_law_rule.proofs.Phases.Lived.{lives, life_of, life_ended, life_alive, Same, Sets, Kills, Spares, After, step_lives}
use Rattle.dm_law_rule.proofs.Phases.Lives.{buried_is}
use Rattle.dm_law_rule.proofs.Phases.Order.{put_kept}
use Rattle.dm_law_rule.proofs.Phases.Put.{of_same}
use Rattle.dm_law_rule.proofs.Trails.Steps.{set_at, set_off}
use Rattle.dm_law_rule.proofs.Trails.Within.{queued_acting, held_acting, forwarded_acting}

-- a machine has the process, or it comes to one
abbrev pub Somewhere : View → Pid → Type 0
Somewhere v p = (m : ℕ) × (is_away (v.known m p) ≡ false)

-- so has another machine than the one that acts; or no other has it
abbrev pub Elsewhere : View → Pid → Type 0
Elsewhere v p = (m : ℕ) × ((v.acting == m) ≡ false) × (is_away (v.known m p) ≡ false)

abbrev pub Others : View → Pid → Type 0
Others v p = (m : ℕ) → (v.acting == m) ≡ false → is_away (v.known m p) ≡ true

-- where they are
record Placed (s : OneKernel) (v : View) : Type 0 where
  away : (m : ℕ) (p : Pid) → lives s p ≡ Some false → is_away (v.known m p) ≡ true
  there : (p : Pid) → lives s p ≡ Some true → Somewhere v p
  servers : (p : Pid) → is_server p ≡ true → Somewhere v p

placed_of : (pt : Point) → Ends pt → Placed pt.kernel pt.view
placed_of pt h = record {
  away = λ m p over. h.away m p (life_ended (pt.kernel.processes p) over);
  there = λ p alive. let (x, is) = life_alive (pt.kernel.processes p) alive in h.there p x is;
  servers = h.servers;
}

-- what becomes of one process
placed_by : (s t : OneKernel) (v w : View) (p : Pid) → ((q : Pid) → pid_eq p q ≡ false → lives t q ≡ lives s q) → ((m : ℕ) (q : Pid) → pid_eq p q ≡ false → w.known m q ≡ v.known m q)
    → ((m : ℕ) → lives t p ≡ Some false → is_away (w.known m p) ≡ true) → (lives t p ≡ Some true → Somewhere w p) → (is_server p ≡ true → Somewhere w p) → Placed s v → Placed t w
placed_by s t v w p same known away there serves h = record {
  away = λ m q over. elim (cases_Bool (pid_eq p q)) [
    | inl is ↦ subst (λ (z : Pid). is_away (w.known m z) ≡ true) (pid_eq-is p q is) (away m (subst (λ (z : Pid). lives t z ≡ Some false) (sym (pid_eq-is p q is)) over))
    | inr off ↦ ap is_away (known m q off) ∙ h.away m q (sym (same q off) ∙ over)
  ];
  there = λ q alive. elim (cases_Bool (pid_eq p q)) [
    | inl is ↦ subst (λ (z : Pid). Somewhere w z) (pid_eq-is p q is) (there (subst (λ (z : Pid). lives t z ≡ Some true) (sym (pid_eq-is p q is)) alive))
    | inr off ↦ let (m, on) = h.there q (sym (same q off) ∙ alive) in (m, ap is_away (known m q off) ∙ on)
  ];
  servers = λ q server. elim (cases_Bool (pid_eq p q)) [
    | inl is ↦ subst (λ (z : Pid). Somewhere w z) (pid_eq-is p q is) (serves (subst (λ (z : Pid). is_server z ≡ true) (sym (pid_eq-is p q is)) server))
    | inr off ↦ let (m, on) = h.servers q server in (m, ap is_away (known m q off) ∙ on)
  ];
}

placed_same : (s t : OneKernel) (v w : View) → Same s t → ((m : ℕ) (q : Pid) → w.known m q ≡ v.known m q) → Placed s v → Placed t w
placed_same s t v w same known h = record {
  away = λ m q over. ap is_away (known m q) ∙ h.away m q (sym (same q) ∙ over);
  there = λ q alive. let (m, on) = h.there q (sym (same q) ∙ alive) in (m, ap is_away (known m q) ∙ on);
  servers = λ q server. let (m, on) = h.servers q server in (m, ap is_away (known m q) ∙ on);
}

-- one machine learns something of one process
known_off : (v w : View) (p : Pid) (k : Known) → w.known ≡ at_record v.known v.acting p k → (m : ℕ) (q : Pid) → pid_eq p q ≡ false → w.known m q ≡ v.known m q
known_off v w p k known m q off = ap (λ (f : ℕ → Pid → Known). f m q) known ∙ set_off v p k m q off

known_at : (v w : View) (p : Pid) (k : Known) → w.known ≡ at_record v.known v.acting p k → (m : ℕ) → w.known m p ≡ (if v.acting == m then k else v.known m p)
known_at v w p k known m = ap (λ (f : ℕ → Pid → Known). f m p) known ∙ set_at v p k m

known_here : (v w : View) (p : Pid) (k : Known) → w.known ≡ at_record v.known v.acting p k → w.known v.acting p ≡ k
known_here v w p k known = known_at v w p k known v.acting ∙ ap (λ (c : Bool). if c then k else v.known v.acting p) (eq_self v.acting)

away_if : (b : Bool) (k y : Known) → (b ≡ true → is_away k ≡ true) → (b ≡ false → is_away y ≡ true) → is_away (if b then k else y) ≡ true
away_if true k y now was = now refl
away_if false k y now was = was refl

-- it has one that hasn't ended
placed_learns : (s t : OneKernel) (v w : View) (p : Pid) (k : Known) → Same s t → w.known ≡ at_record v.known v.acting p k → (lives s p ≡ Some false → ⊥) → is_away k ≡ false → Placed s v → Placed t w
placed_learns s t v w p k same known lasts on h =
    placed_by s t v w p (λ q off. same q) (known_off v w p k known) (λ m over. absurd (lasts (sym (same p) ∙ over))) (λ alive. (v.acting, ap is_away (known_here v w p k known) ∙ on)) (λ server. (v.acting, ap is_away (known_here v w p k known) ∙ on)) h

-- it has one no more that another has
elsewhere_stays : (v w : View) (p : Pid) (k : Known) → w.known ≡ at_record v.known v.acting p k → Elsewhere v p → Somewhere w p
elsewhere_stays v w p k known h = let (m, off, on) = h in (m, ap is_away (known_at v w p k known m ∙ ap (λ (c : Bool). if c then k else v.known m p) off) ∙ on)

placed_goes : (s t : OneKernel) (v w : View) (p : Pid) (k : Known) → Same s t → w.known ≡ at_record v.known v.acting p k → (is_away (v.known v.acting p) ≡ true → is_away k ≡ true) → (lives s p ≡ Some true → Elsewhere v p) → (is_server p ≡ true → Elsewhere v p) → Placed s v → Placed t w
placed_goes s t v w p k same known goes elsewhere serves h =
    placed_by s t v w p (λ q off. same q) (known_off v w p k known)
    (λ m over. ap is_away (known_at v w p k known m) ∙ away_if (v.acting == m) k (v.known m p) (λ e. goes (h.away v.acting p (sym (same p) ∙ over))) (λ e. h.away m p (sym (same p) ∙ over)))
    (λ alive. elsewhere_stays v w p k known (elsewhere (sym (same p) ∙ alive))) (λ server. elsewhere_stays v w p k known (serves server)) h

-- what was made is no server
made_life : (l : Option Life) (b : Bool) → life_of l ≡ Some b → is_some l ≡ true
made_life None b e = none_some b e
made_life (Some l) b e = refl

made_plain : (s : OneKernel) (p : Pid) (b : Bool) → Made s → lives s p ≡ Some b → is_server p ≡ false
made_plain s p b made is =
    let least : nat_le 3 p.num ≡ true = made.least p (made_life (s.processes p) b is) in
    let f : (pid_eq p switchboard || pid_eq p manager) ≡ false = grind (arith, nat_tests) in
    f

-- one ends where it is, or is made
placed_ends : (s t : OneKernel) (v w : View) (p : Pid) → is_server p ≡ false → Sets s p false t → w.known ≡ at_record v.known v.acting p Unknown → Others v p → Placed s v → Placed t w
placed_ends s t v w p plain sets_ known others h =
    placed_by s t v w p sets_.others (known_off v w p Unknown known) (λ m over. ap is_away (known_at v w p Unknown known m) ∙ away_if (v.acting == m) Unknown (v.known m p) (λ e. refl) (λ e. others m e))
    (λ alive. absurd (let f : Some false ≡ Some true = sym sets_.now ∙ alive in let g : false ≡ true = cc in false≢true g)) (λ server. absurd (false≢true (sym plain ∙ server))) h

placed_born : (s t : OneKernel) (v w : View) (p : Pid) → Sets s p true t → w.known ≡ at_record v.known v.acting p Here → Placed s v → Placed t w
placed_born s t v w p sets_ known h =
    placed_by s t v w p sets_.others (known_off v w p Here known) (λ m over. absurd (let f : Some true ≡ Some false = sym sets_.now ∙ over in let g : true ≡ false = cc in false≢true (sym g)))
    (λ alive. (v.acting, ap is_away (known_here v w p Here known))) (λ server. (v.acting, ap is_away (known_here v w p Here known))) h

-- the lines that change what machines know of processes, or that no part says
abbrev pub changes : Line → Bool
changes (Line.Head d) = true
changes (Line.Put a b i k q) = true
changes (Line.Label (Label.End p y)) = true
changes (Line.Label (Label.Served id)) = true
changes (Line.Label (Label.Created id p)) = true
changes (Line.Migration Stage.Frozen p) = true
changes (Line.Migration Stage.Accepted p) = true
changes (Line.Migration Stage.Left p) = true
changes (Line.Migration Stage.Restarted p) = true
changes (Line.Stays p) = true
changes (Line.Called p n) = true
changes (Line.Buried id n) = true
changes _ = false

not_changes : {A : Type 0} → true ≡ false → A
not_changes e = absurd (false≢true (sym e))

label_known : (v : View) (l : Label) → changes (Line.Label l) ≡ false → (m : ℕ) (q : Pid) → (after_label v l).known m q ≡ v.known m q
label_known v (Label.End p y) e m q = not_changes e
label_known v (Label.Served id) e m q = not_changes e
label_known v (Label.Created id p) e m q = not_changes e
label_known v (Label.Dropped id) e m q = dropped_known (handled v id) id (receiver_of (v.told id)) m q
label_known v any_ e m q = refl

pub dropped_topic : (v : View) (i : MsgId) (o : Option Pid) → (dropped_for v i o).topic ≡ v.topic
dropped_topic v i None = refl
dropped_topic v i (Some p) = refl

pub taken_known : (v : View) (b : ℕ) (o : Option MsgId) (m : ℕ) (q : Pid) → (taken_id v b o).known m q ≡ v.known m q
taken_known v b None m q = refl
taken_known v b (Some i) m q = refl

line_known : (v : View) (l : Line) → changes l ≡ false → (m : ℕ) (q : Pid) → (view_after v l).known m q ≡ v.known m q
line_known v (Line.Head d) e m q = not_changes e
line_known v (Line.Label l) e m q = label_known v l e m q
line_known v (Line.Migration Stage.Frozen p) e m q = not_changes e
line_known v (Line.Migration Stage.Accepted p) e m q = not_changes e
line_known v (Line.Migration Stage.Left p) e m q = not_changes e
line_known v (Line.Migration Stage.Restarted p) e m q = not_changes e
line_known v (Line.Stays p) e m q = not_changes e
line_known v (Line.Called p n) e m q = not_changes e
line_known v (Line.Buried id n) e m q = not_changes e
line_known v (Line.Queued i) e m q = queued_known (handled v i) i (receiver_of (v.told i)) m q
line_known v (Line.Held i) e m q = held_known (handled v i) i (receiver_of (v.told i)) m q
line_known v (Line.Forwarded i to) e m q = forwarded_known (handled v i) (receiver_of (v.told i)) m q
line_known v (Line.Proto i) e m q = proto_known (handled v i) (v.told i) m q
line_known v (Line.Taken a b n) e m q = taken_known (view.with_pair v a b (taken_pair (v.pair a b) n)) b (view.oldest (v.pair a b)) m q
line_known v any_ e m q = refl

line_acting : (v : View) (l : Line) → changes l ≡ false → (view_after v l).acting ≡ v.acting
line_acting v (Line.Head d) e = not_changes e
line_acting v (Line.Label l) e = acting_label v l
line_acting v (Line.Migration Stage.Frozen p) e = not_changes e
line_acting v (Line.Migration Stage.Accepted p) e = not_changes e
line_acting v (Line.Migration Stage.Left p) e = not_changes e
line_acting v (Line.Migration Stage.Restarted p) e = not_changes e
line_acting v (Line.Stays p) e = not_changes e
line_acting v (Line.Called p n) e = not_changes e
line_acting v (Line.Buried id n) e = not_changes e
line_acting v (Line.Queued i) e = queued_acting (handled v i) i (receiver_of (v.told i))
line_acting v (Line.Held i) e = held_acting (handled v i) i (receiver_of (v.told i))
line_acting v (Line.Forwarded i to) e = forwarded_acting (handled v i) (receiver_of (v.told i))
line_acting v (Line.Proto i) e = proto_acting (handled v i) (v.told i)
line_acting v (Line.Taken a b n) e = acting_taken (view.with_pair v a b (taken_pair (v.pair a b) n)) b (view.oldest (v.pair a b))
line_acting v any_ e = refl

-- a process that has ended is forgotten
pub record Buries (pt : Point) (id : MsgId) : Type 0 where
  pub u : Told
  pub p : Pid
  pub told : pt.view.told id ≡ Some u
  pub about : u.about ≡ Of p
  pub over : lives pt.kernel p ≡ Some false

-- a message is served
pub record Serves (pt : Point) (id : MsgId) : Type 0 where
  pub u : Told
  pub told : pt.view.told id ≡ Some u
  pub others : u.kind ≡ MessageKind.Kill → Others pt.view u.receiver

-- what these lines need
abbrev pub Needs : Point → Line → Type 0
Needs pt (Line.Head d) = ⊥
Needs pt (Line.Put a b i k q) = ⊥
Needs pt (Line.Label (Label.End p y)) = Others pt.view p
Needs pt (Line.Label (Label.Served id)) = Serves pt id
Needs pt (Line.Migration Stage.Frozen p) = lives pt.kernel p ≡ Some false → ⊥
Needs pt (Line.Migration Stage.Accepted p) = lives pt.kernel p ≡ Some false → ⊥
Needs pt (Line.Migration Stage.Left p) = Elsewhere pt.view p
Needs pt (Line.Migration Stage.Restarted p) = lives pt.kernel p ≡ Some false → ⊥
Needs pt (Line.Stays p) = lives pt.kernel p ≡ Some false → ⊥
Needs pt (Line.Called p n) = Elsewhere pt.view p
Needs pt (Line.Buried id n) = Buries pt id
Needs pt _ = ⊤

pub kill_is : (k : MessageKind) → is_kill k ≡ true → k ≡ MessageKind.Kill
kill_is MessageKind.Kill e = refl
kill_is _ e = cc

-- a kill's receiver ends
killed_is : (v : View) (u : Told) (o : Option Told) → o ≡ Some u → u.kind ≡ MessageKind.Kill → served_told v o ≡ view.ended v u.receiver
killed_is v u o told kill = ap (served_told v) told ∙ ap (λ (k : MessageKind). ends_by (sort_of k) v (Some u.receiver)) kill

served_placed : (pt : Point) (t : OneKernel) (id : MsgId) → Serves pt id → Sane pt → Made t → Kills pt.kernel id t ⊎ Spares pt.kernel id t → Placed pt.kernel pt.view → Placed t (after_label pt.view (Label.Served id))
served_placed pt t id need sane made a h =
    let v = pt.view in
    elim a [
      | inl k ↦
          let kill : need.u.kind ≡ MessageKind.Kill = kill_is need.u.kind (ap is_kill (sane.tells.kind id k.m need.u k.there need.told) ∙ k.kill) in
          let same : k.m.to ≡ need.u.receiver = sym (sane.tells.receiver id k.m need.u k.there need.told) in
          let is = killed_is (handled v id) need.u (v.told id) need.told kill in
          let ended : Sets pt.kernel need.u.receiver false t = subst (λ (q : Pid). Sets pt.kernel q false t) same k.sets in
          placed_ends pt.kernel t v (after_label v (Label.Served id)) need.u.receiver (made_plain t need.u.receiver false made ended.now) ended (ap (λ (w : View). w.known) is) (need.others kill) h
      | inr k ↦
          let mild : is_kill need.u.kind ≡ false = ap is_kill (sane.tells.kind id k.m need.u k.there need.told) ∙ k.mild in
          placed_same pt.kernel t v (after_label v (Label.Served id)) k.same (λ m q. served_known (handled v id) (v.told id) need.u need.told mild m q) h
    ]

label_placed : (pt : Point) (t : OneKernel) (l : Label) → Needs pt (Line.Label l) → Sane pt → Made t → After pt.kernel l t → Placed pt.kernel pt.view → Placed t (after_label pt.view l)
label_placed pt t (Label.End p y) need sane made a h = placed_ends pt.kernel t pt.view (after_label pt.view (Label.End p y)) p (made_plain t p false made a.now) a refl need h
label_placed pt t (Label.Served id) need sane made a h = served_placed pt t id need sane made a h
label_placed pt t (Label.Created id p) need sane made a h = placed_born pt.kernel t pt.view (after_label pt.view (Label.Created id p)) p a refl h
label_placed pt t (Label.Dropped id) need sane made a h = placed_same pt.kernel t pt.view (after_label pt.view (Label.Dropped id)) a (λ m q. label_known pt.view (Label.Dropped id) refl m q) h
label_placed pt t any_ need sane made a h = placed_same pt.kernel t pt.view (after_label pt.view any_) a (λ m q. refl) h

none_same : (s t : OneKernel) → Some s ≡ Some t → Same s t
none_same s t e q = let f : s ≡ t = cc in ap (λ (k : OneKernel). lives k q) (sym f)

away_gone : (k : Known) (n : ℕ) → is_away k ≡ true → is_away (gone_to k n) ≡ true
away_gone (view.Frozen to) n e = refl
away_gone _ n e = e

away_back : (k : Known) (n : ℕ) → is_away k ≡ true → is_away (goes_back k n) ≡ true
away_back Unknown n e = refl
away_back (view.Forward at_ moves) n e = refl
away_back _ n e = cc

line_placed : (pt : Point) (t : OneKernel) (l : Line) → Needs pt l → Sane pt → kernel_after pt.kernel (label_of l) ≡ Some t → Placed pt.kernel pt.view → Placed t (view_after pt.view l)
line_placed pt t (Line.Head d) need sane e h = absurd need
line_placed pt t (Line.Put a b i k q) need sane e h = absurd need
line_placed pt t (Line.Label l) need sane e h = label_placed pt t l need sane (after_step sane.r sane.e pt.kernel t l e sane.sound).sound.made (step_lives pt.kernel t l e) h
line_placed pt t (Line.Migration Stage.Frozen p) need sane e h = placed_learns pt.kernel t pt.view (view_after pt.view (Line.Migration Stage.Frozen p)) p (view.Frozen (aim pt.view pt.view.topic)) (none_same pt.kernel t e) (sets pt.view p pt.view.topic).known need refl h
line_placed pt t (Line.Migration Stage.Accepted p) need sane e h = placed_learns pt.kernel t pt.view (view_after pt.view (Line.Migration Stage.Accepted p)) p (view.Incoming (front_of (pt.view.inbox pt.view.acting))) (none_same pt.kernel t e) refl need refl h
line_placed pt t (Line.Migration Stage.Left p) need sane e h =
    placed_goes pt.kernel t pt.view (view_after pt.view (Line.Migration Stage.Left p)) p (gone_to (pt.view.known pt.view.acting p) (pt.view.moves p + 1)) (none_same pt.kernel t e) refl (away_gone (pt.view.known pt.view.acting p) (pt.view.moves p + 1)) (λ alive. need) (λ server. need) h
line_placed pt t (Line.Migration Stage.Restarted p) need sane e h = placed_learns pt.kernel t pt.view (view_after pt.view (Line.Migration Stage.Restarted p)) p Here (none_same pt.kernel t e) refl need refl h
line_placed pt t (Line.Stays p) need sane e h = placed_learns pt.kernel t pt.view (view_after pt.view (Line.Stays p)) p Here (none_same pt.kernel t e) refl need refl h
line_placed pt t (Line.Called p n) need sane e h =
    placed_goes pt.kernel t pt.view (view_after pt.view (Line.Called p n)) p (goes_back (pt.view.known pt.view.acting p) (pt.view.moves p)) (none_same pt.kernel t e) refl (away_back (pt.view.known pt.view.acting p) (pt.view.moves p)) (λ alive. need) (λ server. need) h
line_placed pt t (Line.Buried id n) need sane e h =
    placed_goes pt.kernel t pt.view (view_after pt.view (Line.Buried id n)) need.p Unknown (none_same pt.kernel t e) (ap (λ (w : View). w.known) (buried_is pt.view id n need.u need.p need.told need.about)) (λ away. refl)
    (λ alive. absurd (let f : Some false ≡ Some true = sym need.over ∙ alive in let g : false ≡ true = cc in false≢true g))
    (λ server. absurd (false≢true (sym (made_plain pt.kernel need.p false sane.sound.made need.over) ∙ server))) h
line_placed pt t (Line.Queued i) need sane e h = placed_same pt.kernel t pt.view (view_after pt.view (Line.Queued i)) (none_same pt.kernel t e) (λ m q. line_known pt.view (Line.Queued i) refl m q) h
line_placed pt t (Line.Held i) need sane e h = placed_same pt.kernel t pt.view (view_after pt.view (Line.Held i)) (none_same pt.kernel t e) (λ m q. line_known pt.view (Line.Held i) refl m q) h
line_placed pt t (Line.Forwarded i to) need sane e h = placed_same pt.kernel t pt.view (view_after pt.view (Line.Forwarded i to)) (none_same pt.kernel t e) (λ m q. line_known pt.view (Line.Forwarded i to) refl m q) h
line_placed pt t (Line.Proto i) need sane e h = placed_same pt.kernel t pt.view (view_after pt.view (Line.Proto i)) (none_same pt.kernel t e) (λ m q. line_known pt.view (Line.Proto i) refl m q) h
line_placed pt t (Line.Taken a b n) need sane e h = placed_same pt.kernel t pt.view (view_after pt.view (Line.Taken a b n)) (none_same pt.kernel t e) (λ m q. line_known pt.view (Line.Taken a b n) refl m q) h
line_placed pt t any_ need sane e h = placed_same pt.kernel t pt.view (view_after pt.view any_) (none_same pt.kernel t e) (λ m q. refl) h

-- what has ended stays so
ended_on : (pt : Point) (t : OneKernel) (o : Option Label) (p : Pid) → Sane pt → kernel_after pt.kernel o ≡ Some t → IsEnded pt.kernel p → IsEnded t p
ended_on pt t None p sane e h = let f : pt.kernel ≡ t = cc in subst (λ (k : OneKernel). IsEnded k p) f h
ended_on pt t (Some l) p sane e h = let (y, over) = h in (y, ended_stays_of (pt.kernel.processes p) (t.processes p) y ((after_step sane.r sane.e pt.kernel t l e sane.sound).grown.lives p) over)

ends_of : (pt : Point) → Placed pt.kernel pt.view → ((i : MsgId) (u : Told) (p : Pid) → pt.view.told i ≡ Some u → u.kind ≡ MessageKind.Bury → u.about ≡ Of p → IsEnded pt.kernel p) → Ends pt
ends_of pt h buries = record {
  away = λ m p over. let (y, is) = over in h.away m p (ap life_of is);
  there = λ p x is. h.there p (ap life_of is);
  servers = h.servers;
  buries = buries;
}

line_ends : (pt : Point) (t : OneKernel) (l : Line) → is_put l ≡ false → Needs pt l → Sane pt → kernel_after pt.kernel (label_of l) ≡ Some t → Ends pt → Ends (moved pt l t)
line_ends pt t l quiet need sane e h =
    let p_ = line_placed pt t l need sane e (placed_of pt h) in
    ends_of (moved pt l t) (record { away = p_.away; there = p_.there; servers = p_.servers })
    (λ i u p told bury about. ended_on pt t (label_of l) p sane e (h.buries i u p (sym (ap (λ (f : MsgId → Option Told). f i) (hushed pt.view l quiet).told) ∙ told) bury about))

-- what stays as it was where the group began
pub record SameAs (o pt : Point) : Type 0 where
  pub acting : pt.view.acting ≡ o.view.acting
  pub known : (m : ℕ) (q : Pid) → pt.view.known m q ≡ o.view.known m q
  pub lives_ : Same o.kernel pt.kernel
  pub kept : (i : MsgId) (u : Told) → o.view.told i ≡ Some u → pt.view.told i ≡ Some u

pub same_self : (pt : Point) → SameAs pt pt
same_self pt = record { acting = refl; known = λ m q. refl; lives_ = λ q. refl; kept = λ i u told. told }

others_later : (o pt : Point) (p : Pid) → SameAs o pt → Others o.view p → Others pt.view p
others_later o pt p s h m off = ap is_away (s.known m p) ∙ h m (ap (λ (a : ℕ). a == m) (sym s.acting) ∙ off)

elsewhere_later : (o pt : Point) (p : Pid) → SameAs o pt → Elsewhere o.view p → Elsewhere pt.view p
elsewhere_later o pt p s h = let (m, off, on) = h in (m, ap (λ (a : ℕ). a == m) s.acting ∙ off, ap is_away (s.known m p) ∙ on)

needs_later : (o pt : Point) (l : Line) → SameAs o pt → Needs o l → Needs pt l
needs_later o pt (Line.Label (Label.End p y)) s h = others_later o pt p s h
needs_later o pt (Line.Label (Label.Served id)) s h = record { u = h.u; told = s.kept id h.u h.told; others = λ k. others_later o pt h.u.receiver s (h.others k) }
needs_later o pt (Line.Migration Stage.Frozen p) s h = λ over. h (sym (s.lives_ p) ∙ over)
needs_later o pt (Line.Migration Stage.Accepted p) s h = λ over. h (sym (s.lives_ p) ∙ over)
needs_later o pt (Line.Migration Stage.Left p) s h = elsewhere_later o pt p s h
needs_later o pt (Line.Migration Stage.Restarted p) s h = λ over. h (sym (s.lives_ p) ∙ over)
needs_later o pt (Line.Stays p) s h = λ over. h (sym (s.lives_ p) ∙ over)
needs_later o pt (Line.Called p n) s h = elsewhere_later o pt p s h
needs_later o pt (Line.Buried id n) s h = record { u = h.u; p = h.p; told = s.kept id h.u h.told; about = h.about; over = s.lives_ h.p ∙ h.over }
needs_later o pt (Line.Head d) s h = absurd h
needs_later o pt (Line.Put a b i k q) s h = absurd h
needs_later o pt any_ s h = tt

-- a line that changes none of it
calm_lives : (s t : OneKernel) (l : Label) → changes (Line.Label l) ≡ false → After s l t → Same s t
calm_lives s t (Label.End p y) e a = not_changes e
calm_lives s t (Label.Served id) e a = not_changes e
calm_lives s t (Label.Created id p) e a = not_changes e
calm_lives s t any_ e a = a

same_by : (s t : OneKernel) (l : Line) → changes l ≡ false → kernel_after s (label_of l) ≡ Some t → Same s t
same_by s t (Line.Label l) e is = calm_lives s t l e (step_lives s t l is)
same_by s t any_ e is = none_same s t is

calm_put : (l : Line) → changes l ≡ false → is_put l ≡ false
calm_put (Line.Put a b i k q) e = not_changes e
calm_put _ e = refl

calm_needs : (pt : Point) (l : Line) → changes l ≡ false → Needs pt l
calm_needs pt (Line.Head d) e = not_changes e
calm_needs pt (Line.Put a b i k q) e = not_changes e
calm_needs pt (Line.Label (Label.End p y)) e = not_changes e
calm_needs pt (Line.Label (Label.Served id)) e = not_changes e
calm_needs pt (Line.Migration Stage.Frozen p) e = not_changes e
calm_needs pt (Line.Migration Stage.Accepted p) e = not_changes e
calm_needs pt (Line.Migration Stage.Left p) e = not_changes e
calm_needs pt (Line.Migration Stage.Restarted p) e = not_changes e
calm_needs pt (Line.Stays p) e = not_changes e
calm_needs pt (Line.Called p n) e = not_changes e
calm_needs pt (Line.Buried id n) e = not_changes e
calm_needs pt any_ e = tt

same_line : (o pt : Point) (t : OneKernel) (l : Line) → changes l ≡ false → kernel_after pt.kernel (label_of l) ≡ Some t → SameAs o pt → SameAs o (moved pt l t)
same_line o pt t l e is s = record {
  acting = line_acting pt.view l e ∙ s.acting;
  known = λ m q. line_known pt.view l e m q ∙ s.known m q;
  lives_ = λ q. same_by pt.kernel t l e is q ∙ s.lives_ q;
  kept = λ i u told. ap (λ (f : MsgId → Option Told). f i) (hushed pt.view l (calm_put l e)).told ∙ s.kept i u told;
}

-- a put: a kernel tells of an end only where the group is about one
abbrev Tells : Point → MsgId → MessageKind → Type 0
Tells pt i k = pt.view.told i ≡ None → k ≡ MessageKind.Bury → (p : Pid) → pt.view.topic ≡ Of p → IsEnded pt.kernel p

told_by : (s : OneKernel) (o : Option Told) (x u : Told) (p : Pid) → Some (view.first_told o x) ≡ Some u → u.kind ≡ MessageKind.Bury → u.about ≡ Of p → ((y : Told) → o ≡ Some y → y.kind ≡ MessageKind.Bury → y.about ≡ Of p → IsEnded s p)
    → (o ≡ None → x.kind ≡ MessageKind.Bury → x.about ≡ Of p → IsEnded s p) → IsEnded s p
told_by s None x u p e bury about was now = let f : x ≡ u = cc in now refl (ap (λ (y : Told). y.kind) f ∙ bury) (ap (λ (y : Told). y.about) f ∙ about)
told_by s (Some y) x u p e bury about was now = let f : y ≡ u = cc in was y refl (ap (λ (z : Told). z.kind) f ∙ bury) (ap (λ (z : Told). z.about) f ∙ about)

put_ends : (pt : Point) (a b : ℕ) (i : MsgId) (k : MessageKind) (q : Pid) → Tells pt i k → Ends pt → Ends (moved pt (Line.Put a b i k q) pt.kernel)
put_ends pt a b i k q tells h = record {
  away = h.away;
  there = h.there;
  servers = h.servers;
  buries = λ j u p told bury about. elim (cases_Bool (id_eq i j)) [
    | inl same ↦
        let is : i ≡ j = id_eq-is i j same in
        told_by pt.kernel (pt.view.told i) (record { kind = k; receiver = q; about = pt.view.topic }) u p (sym (put_at pt.view a b i k q) ∙ ap (λ (x : MsgId). (after_put pt.view a b i k q).told x) is ∙ told) bury about
        (λ y was. h.buries i y p was) (λ none bury_ about_. tells none bury_ p about_)
    | inr apart ↦ h.buries j u p (sym (put_told_off pt.view a b i j k q apart) ∙ told) bury about
  ];
}

-- with its packet
puts_behind : (P : Point → Type 0) (pt next : Point) (b : ℕ) (i : MsgId) (k : MessageKind) (q : Pid) (c d : Bool) → ((x : Point) (a b n : ℕ) (l : Load) → P x → P (moved x (Line.Packet a b n l) x.kernel)) → P (moved pt (Line.Put pt.view.acting b i k q) pt.kernel)
    → after pt (Line.Put pt.view.acting b i k q ∷ (if c then [] else if d then packet_line pt.view pt.view.acting b (Load.Data (length (pt.view.pair pt.view.acting b).ids)) ∷ [] else [])) ≡ Some next → P next
puts_behind P pt next b i k q true d packet h is = let f : moved pt (Line.Put pt.view.acting b i k q) pt.kernel ≡ next = cc in subst P f h
puts_behind P pt next b i k q false false packet h is = let f : moved pt (Line.Put pt.view.acting b i k q) pt.kernel ≡ next = cc in subst P f h
puts_behind P pt next b i k q false true packet h is =
    let mid = moved pt (Line.Put pt.view.acting b i k q) pt.kernel in
    let n = length (pt.view.pair pt.view.acting b).wire in
    let l : Load = Load.Data (length (pt.view.pair pt.view.acting b).ids) in
    let f : moved mid (Line.Packet pt.view.acting b n l) mid.kernel ≡ next = cc in subst P f (packet mid pt.view.acting b n l h)

puts_lead : (P : Point → Type 0) (pt next : Point) (b : ℕ) (i : MsgId) (k : MessageKind) (q : Pid) (ls : List Line) → ((x : Point) (a b n : ℕ) (l : Load) → P x → P (moved x (Line.Packet a b n l) x.kernel)) → P (moved pt (Line.Put pt.view.acting b i k q) pt.kernel)
    → Some (puts pt.view b i k q) ≡ Some ls → after pt ls ≡ Some next → P next
puts_lead P pt next b i k q ls packet h is leads = puts_behind P pt next b i k q (pt.view.acting == b) (goes_out (pt.view.pair pt.view.acting b)) packet h (ap (after pt) (let f : puts pt.view b i k q ≡ ls = cc in f) ∙ leads)

-- a line by itself
one_line : (P : Point → Type 0) (pt next : Point) (l : Line) (ls : List Line) → ((s : OneKernel) → kernel_after pt.kernel (label_of l) ≡ Some s → P (moved pt l s)) → Some (l ∷ []) ≡ Some ls → after pt ls ≡ Some next → P next
one_line P pt next l ls h is leads =
    let (mid, first, last) = bind-is (after_line pt l) (λ q. after q []) next (ap (after pt) (let f : l ∷ [] ≡ ls = cc in f) ∙ leads) in
    let (s, step_, then_) = bind-is (kernel_after pt.kernel (label_of l)) (λ s. Some (moved pt l s)) mid first in
    subst P ((let g : moved pt l s ≡ mid = cc in g) ∙ (let e : mid ≡ next = cc in e)) (h s step_)

-- parts that change none of it, and tell of no end
abbrev pub Calm : Part → Type 0
Calm (Says l) = changes l ≡ false
Calm (Owns k q b) = tells_end (sort_of k) ≡ false
Calm _ = ⊤

abbrev pub AllCalm : List Part → Type 0
AllCalm [] = ⊤
AllCalm (p ∷ ps) = Calm p × AllCalm ps

record Along (o pt : Point) : Type 0 where
  ends : Ends pt
  same : SameAs o pt

along_packet : (o x : Point) (a b n : ℕ) (l : Load) → Along o x → Along o (moved x (Line.Packet a b n l) x.kernel)
along_packet o x a b n l h = record { ends = let e = h.ends in record { away = e.away; there = e.there; servers = e.servers; buries = e.buries }; same = let s = h.same in record { acting = s.acting; known = s.known; lives_ = s.lives_; kept = s.kept } }

along_put : (o pt : Point) (b : ℕ) (i : MsgId) (k : MessageKind) (q : Pid) → Tells pt i k → Along o pt → Along o (moved pt (Line.Put pt.view.acting b i k q) pt.kernel)
along_put o pt b i k q tells h = record {
  ends = put_ends pt pt.view.acting b i k q tells h.ends;
  same = let s = h.same in record { acting = s.acting; known = s.known; lives_ = s.lives_; kept = λ j u told. put_kept pt.view pt.view.acting b i k q j u (s.kept j u told) };
}

no_bury : (k : MessageKind) → tells_end (sort_of k) ≡ false → k ≡ MessageKind.Bury → ⊥
no_bury k off is = false≢true (sym off ∙ ap (λ (x : MessageKind). tells_end (sort_of x)) is)

plain_ends_not : (w : PlainWhat) → tells_end (sort_of (plain_kind w)) ≡ false
plain_ends_not (PlainWhat.User x1 x2 x3 x4) = refl
plain_ends_not _ = refl

calm_part : (o pt next : Point) (p : Part) (ls : List Line) → Calm p → Sane pt → lines_of pt p ≡ Some ls → after pt ls ≡ Some next → Along o pt → Along o next
calm_part o pt next (Says l) ls calm sane is leads h = one_line (Along o) pt next l ls (λ s step_. record { ends = line_ends pt s l (calm_put l calm) (calm_needs pt l calm) sane step_ h.ends; same = same_line o pt s l calm step_ h.same }) is leads
calm_part o pt next (Routes i) ls calm sane is leads h =
    let (m, there, last) = bind-is (pt.kernel.bag i) (λ m. Some (puts pt.view (pt.addresses (Receiver i)).at i (plain_kind m.what) m.to)) ls is in
    puts_lead (Along o) pt next (pt.addresses (Receiver i)).at i (plain_kind m.what) m.to ls (along_packet o) (along_put o pt (pt.addresses (Receiver i)).at i (plain_kind m.what) m.to (λ none bury p topic. absurd (no_bury (plain_kind m.what) (plain_ends_not m.what) bury)) h) last leads
calm_part o pt next (Again i b) ls calm sane is leads h =
    let (t, there, last) = bind-is (pt.view.told i) (λ t. Some (puts pt.view b i t.kind t.receiver)) ls is in
    puts_lead (Along o) pt next b i t.kind t.receiver ls (along_packet o) (along_put o pt b i t.kind t.receiver (λ none bury p topic. absurd (let f : Some t ≡ None = sym there ∙ none in cc)) h) last leads
calm_part o pt next (Owns k q b) ls calm sane is leads h =
    puts_lead (Along o) pt next b (own_id pt.view) k q ls (along_packet o) (along_put o pt b (own_id pt.view) k q (λ none bury p topic. absurd (no_bury k calm bury)) h) is leads
calm_part o pt next (Transmits a b l) ls calm sane is leads h =
    one_line (Along o) pt next (packet_line pt.view a b l) ls (λ s step_. (let f : pt.kernel ≡ s = cc in subst (λ (k : OneKernel). Along o (moved pt (packet_line pt.view a b l) k)) f (along_packet o pt a b (length (pt.view.pair a b).wire) l h))) is leads

calm_sayable : (p : Part) → Calm p → Sayable p
calm_sayable (Says l) h = calm_put l h
calm_sayable _ h = tt

calm_ends : (ps : List Part) (o pt : Point) (w : Spelled) → AllCalm ps → Sane pt → Along o pt → spelled pt ps ≡ Some w → Ends w.point
calm_ends [] o pt w calm sane h e = subst Ends (said pt w e) h.ends
calm_ends (p ∷ ps) o pt w calm sane h e =
    let n = onward pt p ps w e in
    subst Ends n.end (calm_ends ps o n.next n.rest calm.1 (part_sane pt n.next p n.lines (calm_sayable p calm.0) n.lines_are n.leads sane) (calm_part o pt n.next p n.lines calm.0 sane n.lines_are n.leads h) n.on)

-- behind an end messages are dropped, and kernels are told of it
abbrev pub Tail : Part → Type 0
Tail (Says (Line.Label (Label.Dropped i))) = ⊤
Tail (Owns k q b) = ⊤
Tail _ = ⊥

abbrev pub AllTail : List Part → Type 0
AllTail [] = ⊤
AllTail (p ∷ ps) = Tail p × AllTail ps

record Over (p : Pid) (pt : Point) : Type 0 where
  ends : Ends pt
  topic : pt.view.topic ≡ Of p
  over : IsEnded pt.kernel p

over_packet : (p : Pid) (x : Point) (a b n : ℕ) (l : Load) → Over p x → Over p (moved x (Line.Packet a b n l) x.kernel)
over_packet p x a b n l h = record { ends = let e = h.ends in record { away = e.away; there = e.there; servers = e.servers; buries = e.buries }; topic = h.topic; over = h.over }

tail_part : (y : Pid) (pt next : Point) (p : Part) (ls : List Line) → Tail p → Sane pt → lines_of pt p ≡ Some ls → after pt ls ≡ Some next → Over y pt → Over y next
tail_part y pt next (Says (Line.Label (Label.Dropped i))) ls tail sane is leads h = one_line (Over y) pt next (Line.Label (Label.Dropped i)) ls (λ s step_. record {
  ends = line_ends pt s (Line.Label (Label.Dropped i)) refl tt sane step_ h.ends;
  topic = dropped_topic (handled pt.view i) i (receiver_of (pt.view.told i)) ∙ h.topic;
  over = ended_on pt s (Some (Label.Dropped i)) y sane step_ h.over;
}) is leads
tail_part y pt next (Owns k q b) ls tail sane is leads h =
    puts_lead (Over y) pt next b (own_id pt.view) k q ls (over_packet y)
    (record { ends = put_ends pt pt.view.acting b (own_id pt.view) k q (λ none bury p topic. subst (λ (z : Pid). IsEnded pt.kernel z) (of_same y p (sym h.topic ∙ topic)) h.over) h.ends; topic = h.topic; over = h.over }) is leads
tail_part y pt next _ ls tail sane is leads h = absurd tail

tail_sayable : (p : Part) → Tail p → Sayable p
tail_sayable (Says (Line.Label (Label.Dropped i))) h = refl
tail_sayable (Owns k q b) h = tt
tail_sayable _ h = absurd h

tail_ends : (ps : List Part) (y : Pid) (pt : Point) (w : Spelled) → AllTail ps → Sane pt → Over y pt → spelled pt ps ≡ Some w → Ends w.point
tail_ends [] y pt w tail sane h e = subst Ends (said pt w e) h.ends
tail_ends (p ∷ ps) y pt w tail sane h e =
    let n = onward pt p ps w e in
    subst Ends n.end (tail_ends ps y n.next n.rest tail.1 (part_sane pt n.next p n.lines (tail_sayable p tail.0) n.lines_are n.leads sane) (tail_part y pt n.next p n.lines tail.0 sane n.lines_are n.leads h) n.on)

-- the lines that say an end, or forget what has ended
pub record Kill (pt : Point) (id : MsgId) : Type 0 where
  pub u : Told
  pub told : pt.view.told id ≡ Some u
  pub kind : u.kind ≡ MessageKind.Kill

abbrev pub SaysEnd : Point → Line → Type 0
SaysEnd o (Line.Label (Label.End p y)) = ⊤
SaysEnd o (Line.Label (Label.Served id)) = Kill o id
SaysEnd o (Line.Buried id n) = ⊤
SaysEnd o _ = ⊥

end_later : (o pt : Point) (l : Line) → SameAs o pt → SaysEnd o l → SaysEnd pt l
end_later o pt (Line.Label (Label.End p y)) s h = tt
end_later o pt (Line.Label (Label.Served id)) s h = record { u = h.u; told = s.kept id h.u h.told; kind = h.kind }
end_later o pt (Line.Buried id n) s h = tt
end_later o pt _ s h = absurd h

-- whom it is about
end_over : (pt : Point) (s : OneKernel) (l : Line) → SaysEnd pt l → Needs pt l → Sane pt → kernel_after pt.kernel (label_of l) ≡ Some s → (p : Pid) × ((moved pt l s).view.topic ≡ Of p) × IsEnded s p
end_over pt s (Line.Label (Label.End p y)) end need sane e = (p, refl, life_ended (s.processes p) (let a = step_lives pt.kernel s (Label.End p y) e in a.now))
end_over pt s (Line.Label (Label.Served id)) end need sane e =
    let v = pt.view in
    let topic : (served_told (handled v id) (v.told id)).topic ≡ Of end.u.receiver = ap (λ (w : View). w.topic) (killed_is (handled v id) end.u (v.told id) end.told end.kind) in (
      end.u.receiver,
      topic,
      life_ended (s.processes end.u.receiver)
          (elim (step_lives pt.kernel s (Label.Served id) e) [
            | inl k ↦ subst (λ (q : Pid). lives s q ≡ Some false) (sym (sane.tells.receiver id k.m end.u k.there end.told)) k.sets.now
            | inr k ↦ absurd (false≢true (sym k.mild ∙ sym (ap is_kill (sane.tells.kind id k.m end.u k.there end.told)) ∙ ap is_kill end.kind))
          ]),
    )
end_over pt s (Line.Buried id n) end need sane e =
    (need.p, ap (λ (w : View). w.topic) (buried_is pt.view id n need.u need.p need.told need.about), life_ended (s.processes need.p) (none_same pt.kernel s e need.p ∙ need.over))
end_over pt s _ end need sane e = absurd end

-- parts from where the group begins: calm ones, then perhaps a line that needs something, and calm ones or the tail of an end behind it
abbrev pub NeedsPart : Point → Part → Type 0
NeedsPart o (Says l) = Needs o l
NeedsPart o _ = ⊥

abbrev pub EndsPart : Point → Part → Type 0
EndsPart o (Says l) = SaysEnd o l
EndsPart o _ = ⊥

abbrev pub Behind : Point → Part → List Part → Type 0
Behind o p ps = AllCalm ps ⊎ (EndsPart o p × AllTail ps)

abbrev pub Walks : Point → List Part → Type 0
Walks o [] = ⊤
Walks o (p ∷ ps) = (Calm p × Walks o ps) ⊎ (NeedsPart o p × Behind o p ps)

needs_put : (o : Point) (l : Line) → Needs o l → is_put l ≡ false
needs_put o (Line.Put a b i k q) h = absurd h
needs_put o _ h = refl

-- the line that needs something, and what is behind it
last_ends : (o pt : Point) (p : Part) (ps : List Part) (w : Spelled) → NeedsPart o p → Behind o p ps → Sane pt → Along o pt → spelled pt (p ∷ ps) ≡ Some w → Ends w.point
last_ends o pt (Says l) ps w need rest sane h e =
    let n = onward pt (Says l) ps w e in
    let need_ = needs_later o pt l h.same need in
    let sane_ = part_sane pt n.next (Says l) n.lines (needs_put o l need) n.lines_are n.leads sane in
    let ends : Ends n.next = one_line Ends pt n.next l n.lines (λ s step_. line_ends pt s l (needs_put o l need) need_ sane step_ h.ends) n.lines_are n.leads in
    subst Ends n.end
    (elim rest [
      | inl calm ↦ calm_ends ps n.next n.next n.rest calm sane_ (record { ends = ends; same = same_self n.next }) n.on
      | inr tail ↦
          (let (y, topic, over) = one_line (λ (x : Point). (p : Pid) × (x.view.topic ≡ Of p) × IsEnded x.kernel p) pt n.next l n.lines (λ s step_. end_over pt s l (end_later o pt l h.same tail.0) need_ sane step_) n.lines_are n.leads in
          tail_ends ps y n.next n.rest tail.1 sane_ (record { ends = ends; topic = topic; over = over }) n.on)
    ])
last_ends o pt _ ps w need rest sane h e = absurd need

pub walks_ends : (ps : List Part) (o pt : Point) (w : Spelled) → Walks o ps → Sane pt → Ends pt → SameAs o pt → spelled pt ps ≡ Some w → Ends w.point
walks_ends [] o pt w walks sane h same e = subst Ends (said pt w e) h
walks_ends (p ∷ ps) o pt w walks sane h same e =
    let along : Along o pt = record { ends = h; same = same } in
    elim walks [
      | inl calm ↦
          (let n = onward pt p ps w e in
          let next = calm_part o pt n.next p n.lines calm.0 sane n.lines_are n.leads along in
          subst Ends n.end (walks_ends ps o n.next n.rest calm.1 (part_sane pt n.next p n.lines (calm_sayable p calm.0) n.lines_are n.leads sane) next.ends next.same n.on))
      | inr last ↦ last_ends o pt p ps w last.0 last.1 sane along e
    ]
