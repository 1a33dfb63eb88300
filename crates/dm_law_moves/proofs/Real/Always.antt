-- Each line keeps that whoever is told of is somebody.
use Rattle.dm_law_rule.specs.Migrating.{Size, size_of, process_size, board_size, manager_size}
use Rattle.dm_law_moves.proofs.Names.{◌≡◌, ◌≢◌, ℕ, ◌<◌, ◌≤◌, true, false, ◌∷◌, is_some, refl, ap, ◌∙◌, sym, subst, inl, inr, arith, Option, Some, cases_Bool, nat_tests, Pid, MsgId, Line, PlainMessage, PlainWhat, Boot, manager, Life}
use Rattle.dm_law_moves.proofs.Names.{OneKernel, Step, IsStep, Spelled, Point, group_of, Inbox, times, View, Told, Unknown, Here, after_head, is_kernels, group_is, outcome_sayable, line_within, is_server, WhatFits, begun, begun_sane}
use Rattle.dm_law_moves.proofs.Names.{named_real, times_self, Run, IsReal, Kernel, Server, Made, IsAboutReal, RealAlways, or_cases, from_kernel, run_always, ◌⊎◌, List, None, false≢true, MessageKind, plain_kind, Stage, Label, id_eq-is}
use Rattle.dm_law_moves.proofs.Names.{LifeGrows, after_step, Sound, Receiver, Part, Says, Routes, Again, Owns, Transmits, spelled, label_of, kernel_after, moved, About, view_after, handled, receiver_of, own_id, not_kernels, grown_none}
use Rattle.dm_law_moves.proofs.Names.{put_at, PacketsKeep, put_told_off, Sane, AllSayable, label_topic, Within, has_bytes, KernelFits, step_constant, fits_step, queued_topic, held_topic, taken_topic, told_kept, [], ◌++◌, ⊤, pid_eq-same}
use Rattle.dm_law_moves.proofs.Names.{alive-is, to_kernel, sends_on, IsNetLine, by_migrates, by_outcome, by_forwards, by_hears, topic_by, sets, InOrder, Loose, loose_handles, HeadIn, counts, first_point, is_put, NothingElse, move_target}
use Rattle.dm_law_moves.proofs.Names.{option_map_or, by_calls_off, Incoming, preds_of, buries_kept, Of, step_ends, step_serves, served_told, killed_or, is_over}
use Rattle.dm_law_moves.proofs.Names.{Bool, PlainProcess, if◌then◌else◌, option_map, pid_eq, switchboard, ◌||◌}
use Rattle.dm_law_always.proofs.Found.Core as core
use Rattle.dm_law_rule.specs.View as view
use Rattle.dm_onekernel.specs.Step as kernel
use Rattle.dm_law_rule.specs.Rule as rule
use Rattle.dm_law_moves.proofs.After.{keeps_always}
use Rattle.dm_law_moves.proofs.Ends.Parts.{told_by}
use Rattle.dm_law_moves.proofs.Leading.{Behind, sane_lead, All, Saying, net_says}
use Rattle.dm_law_moves.proofs.Stages.Rows.{MildLine, AllMild}
use Rattle.dm_law_moves.proofs.Stages.Steps.{round_mild}
use Rattle.dm_law_moves.proofs.NumbersAlways.{bag_counted, told_counted}
pub use Rattle.dm_law_always.proofs.Found.Always.{over_some as over_made}

-- a row a line, seen from where its group begins
abbrev pub LineReal : Point → Line → Type 0
LineReal o (Line.Migration s p) = IsReal o.kernel p
LineReal o (Line.SentOn p n) = IsReal o.kernel p
LineReal o (Line.Called p n) = IsReal o.kernel p
LineReal o (Line.Lacks p a b) = IsReal o.kernel p
LineReal o (Line.Forwarded i m) = is_some (o.view.told i) ≡ true
LineReal o (Line.Head d) = ⊥
LineReal o (Line.Put a b i k q) = ⊥
LineReal o _ = ⊤

abbrev pub PartReal : Point → Part → Type 0
PartReal o = Saying (LineReal o)

abbrev pub AllReal : Point → List Part → Type 0
AllReal o = All (PartReal o)

-- parts that leave all migrations as they are; the message at the front was told of
abbrev FrontTold : Point → Option MsgId → Type 0
FrontTold o front = (i : MsgId) → front ≡ Some i → is_some (o.view.told i) ≡ true

mild_line : (o : Point) (front : Option MsgId) (l : Line) → FrontTold o front → ((me : Pid) → MildLine me front l) → LineReal o l
mild_line o front (Line.Migration Stage.Asked q) told h = absurd (false≢true (sym (h q) ∙ pid_eq-same q))
mild_line o front (Line.Migration Stage.Left q) told h = absurd (false≢true (sym (h q) ∙ pid_eq-same q))
mild_line o front (Line.Migration s q) told h = absurd (h q)
mild_line o front (Line.SentOn q n) told h = absurd (h q)
mild_line o front (Line.Called q n) told h = absurd (h q)
mild_line o front (Line.Lacks q a b) told h = absurd (h q)
mild_line o front (Line.Forwarded i m) told h = told i (h manager)
mild_line o front (Line.Head d) told h = absurd (h manager)
mild_line o front (Line.Put a b i k q) told h = absurd (h manager)
mild_line o front _ told h = tt

mild_real : (o : Point) (front : Option MsgId) (ps : List Part) → FrontTold o front → ((me : Pid) → AllMild me front ps) → AllReal o ps
mild_real o front [] told h = tt
mild_real o front (Says l ∷ ps) told h = (mild_line o front l told (λ me. (h me).0), mild_real o front ps told (λ me. (h me).1))
mild_real o front (p ∷ ps) told h = (tt, mild_real o front ps told (λ me. (h me).1))

-- deliveries and repeats
net_line : (o : Point) (l : Line) → IsNetLine l → LineReal o l
net_line o (Line.Taken a b n) h = tt
net_line o (Line.Old a b n) h = tt
net_line o (Line.Early a b n) h = tt
net_line o (Line.Acked a b n) h = tt
net_line o (Line.Resent m n) h = tt
net_line o Line.Nothing h = tt
net_line o _ h = absurd h

-- what kernels tell each other of a process
sends_real : (o : Point) (to : ℕ) (ids : List MsgId) (ps : List Part) → AllReal o ps → AllReal o (sends_on to ids ++ ps)
sends_real o to [] ps h = h
sends_real o to (i ∷ is) ps h = (tt, sends_real o to is ps h)

-- whom a machine knows is somebody
abbrev pub KnownReal : Point → Type 0
KnownReal o = (m : ℕ) (q : Pid) → o.view.known m q ≢ Unknown → IsReal o.kernel q

-- what has a size lives, or is a server
sized_real : (s : OneKernel) (p : Pid) (x : Size) → size_of s p ≡ Some x → IsReal s p
sized_real s p x = by (pid_eq p switchboard) (pid_eq p manager) refl refl
  where
    by_life : (o : Option PlainProcess) → kernel.alive (s.processes p) ≡ o → option_map process_size o ≡ Some x → IsReal s p
    by_life None alive e = (let f : None ≡ Some x = e in cc)
    by_life (Some y) alive e = Made (ap is_some (alive-is (s.processes p) y alive))

    by : (c d : Bool) → pid_eq p switchboard ≡ c → pid_eq p manager ≡ d
        → (if c then Some (record { state = board_size s.switchboard; blocks = 0 }) else if d then Some (record { state = manager_size s.manager; blocks = 0 }) else option_map process_size (kernel.alive (s.processes p))) ≡ Some x → IsReal s p
    by true d is other e = Server (ap (λ (c : Bool). c || pid_eq p manager) is)
    by false true off is e = Server (ap (λ (c : Bool). c || pid_eq p manager) off ∙ is)
    by false false off other e = by_life (kernel.alive (s.processes p)) refl e

hears_real : (b : Boot) (o : Point) (m : ℕ) (i : MsgId) (q : Option Told) (ps : List Part) → FrontTold o (Some i) → KnownReal o → rule.hears b o m i q ≡ Some ps → AllReal o ps
hears_real b o m i q ps told here = by_hears (AllReal o) b o m i q ps (λ t is. record {
  stale = λ p about late. (tt, tt);
  buried = λ p about kind. (tt, buries_kept (AllReal o) tt (λ to xs h. (tt, h)) (preds_of o m p));
  told = λ p x about sized due. (
      let h = sized_real o.kernel p x sized in
      record {
        accepted = λ ask. (h, (tt, tt));
        lacks = λ slots blocks. (h, (tt, tt));
        stays = λ kind free. (tt, tt);
        stays_asked = λ kind n noted. (tt, (tt, (tt, tt)));
        restarted_asked = λ kind n noted. (h, (tt, (tt, tt)));
        state = (tt, (tt, tt));
        next_chunk = (tt, (tt, tt));
        last_chunk = (h, (tt, tt));
        server_chunk = λ server. (h, (h, (tt, tt)));
        memory = (tt, (tt, tt));
        next_block = (tt, (tt, tt));
        last_block = (h, (tt, tt));
        left = λ ids to leaves. (h, sends_real o to ids (Says (Line.Migration Stage.Left p) ∷ to_kernel MessageKind.Restart i.from.home ∷ []) (h, (tt, tt)));
        restarted = λ kind free. (h, tt);
      }
      );
  updated = λ kind. (tt, tt);
  updated_none = λ kind at_. (tt, tt);
  no_move = λ at_. (tt, tt);
  leaving = λ to at_. (tt, tt);
  coming = λ from at_. (tt, tt);
  forwarded = λ to moves at_. by_forwards (AllReal o) o.addresses i t.kind manager to (told i refl, (tt, tt)) (told i refl, (tt, (tt, tt)));
  stays_here = λ at_. (tt, tt);
  frozen = λ to at_. (let h = here m t.receiver (λ e. let f : Here ≡ Unknown = sym at_.known ∙ e in cc) in (h, (h, (tt, tt))));
})

handles_real : (b : Boot) (o : Point) (m : ℕ) (i : MsgId) (msg : PlainMessage) (ps : List Part) → FrontTold o (Some i) → KnownReal o → rule.handles b o m i msg ≡ Some ps → AllReal o ps
handles_real b o m i msg ps told here e =
    -- what a turn says of a message of the bag
    let real_loose : Loose (AllReal o) = record { none = tt; label = λ l ps h. (tt, h); routes = λ i ps h. (tt, h); buries = λ to ps h. (tt, h) } in
    loose_handles (AllReal o) (AllReal o) real_loose (λ qs h. h) b o m i msg ps (λ at_. (tt, tt)) (tt, tt) (λ to at_ what apart. (let h = here m msg.to (λ e. let f : Here ≡ Unknown = sym at_.known ∙ e in cc) in (tt, (h, (h, (tt, tt))))))
    (λ to moves at_. by_forwards (AllReal o) o.addresses i (plain_kind msg.what) msg.sender to (told i refl, (tt, tt)) (told i refl, (tt, (tt, tt)))) e

-- what stands in an inbox was told of
abbrev pub InboxTold : Point → Type 0
InboxTold o = (m : ℕ) (i : MsgId) (is : List MsgId) → o.view.inbox m ≡ i ∷ is → is_some (o.view.told i) ≡ true

front_is : (o : Point) (m : ℕ) (i : MsgId) (is : List MsgId) → InboxTold o → o.view.inbox m ≡ i ∷ is → FrontTold o (Some i)
front_is o m i is told at j e = let f : i ≡ j = cc in subst (λ (x : MsgId). is_some (o.view.told x) ≡ true) f (told m i is at)

pub outcome_real : (b : Boot) (o : Point) (d : Step) (ps : List Part) → InboxTold o → KnownReal o → rule.outcome b o d ≡ Some ps → AllReal o ps
outcome_real b o d ps told here = by_outcome (λ x. AllReal o) b o d ps (record {
  round = λ m xs box e. mild_real o None xs (λ i k. cc) (λ p. round_mild p None b o m (rule.first_runnable o.kernel (o.view.queue m) (o.view.ring m)) xs e);
  handles = λ m i is msg xs box there e. handles_real b o m i msg xs (front_is o m i is told box) here e;
  hears = λ m i is xs box none e. hears_real b o m i (o.view.told i) xs (front_is o m i is told box) here e;
  ticks = λ m. net_says (LineReal o) (net_line o);
  delivers = λ a c k. net_says (LineReal o) (net_line o);
  asks = λ p m. by_migrates (AllReal o) o p (tt, tt) (tt, tt) (λ n off is. (tt, tt));
  calls = λ p m. by_calls_off (AllReal o) o m p (tt, tt)
      (λ from is come. (here m p (λ e. let f : Incoming from ≡ Unknown = sym is ∙ e in cc), sends_real o from (o.view.held m p) (to_kernel MessageKind.CallOff from ∷ []) (tt, tt)));
})

-- who was made stays so, and there are as many machines
pub record Rises (s t : OneKernel) : Type 0 where
  pub machines : t.machines ≡ s.machines
  pub made : (q : Pid) → is_some (s.processes q) ≡ true → is_some (t.processes q) ≡ true

pub rises_same : (s : OneKernel) → Rises s s
rises_same s = record { machines = refl; made = λ q e. e }

real_rises : (s t : OneKernel) (q : Pid) → Rises s t → IsReal s q → IsReal t q
real_rises s t q h e = grind (arith, nat_tests)

pub made_by : (a b : Option Life) → LifeGrows a b → is_some a ≡ true → is_some b ≡ true
made_by a b g e = grind (arith, nat_tests, grown_none)

step_rises : (r e : MsgId → ℕ) (s t : OneKernel) (o : Option Label) → kernel_after s o ≡ Some t → Sound r e s → InOrder s.manager → KernelFits s → Rises s t × InOrder t.manager × KernelFits t
step_rises r e s t None is h order fits = let f : s ≡ t = cc in subst (λ (u : OneKernel). Rises s u × InOrder u.manager × KernelFits u) f (rises_same s, order, fits)
step_rises r e s t (Some l) is h order fits =
    (record { machines = (step_constant s t l is).machines; made = λ q some. made_by (s.processes q) (t.processes q) ((after_step r e s t l is h).grown.lives q) some }, (step_constant s t l is).pending order, fits_step r e s t l is h order fits)

-- what stands between the lines of a group that begins at o
pub record Reals (o pt : Point) : Type 0 where
  pub within : Within pt.kernel.machines pt.view
  pub fits : KernelFits pt.kernel
  pub order : InOrder pt.kernel.manager
  pub rises : Rises o.kernel pt.kernel
  pub kept : (i : MsgId) (t : Told) → o.view.told i ≡ Some t → pt.view.told i ≡ Some t
  pub own : (i : MsgId) (t : Told) → pt.view.told i ≡ Some t → is_kernels i ≡ true → i.from.home < pt.kernel.machines
  pub receiver : (i : MsgId) (t : Told) → pt.view.told i ≡ Some t → is_kernels i ≡ false → IsReal pt.kernel t.receiver
  pub about : (i : MsgId) (t : Told) → pt.view.told i ≡ Some t → IsAboutReal pt.kernel t.about
  pub topic : IsAboutReal pt.kernel pt.view.topic

-- and of what was told before
abbrev pub Receivers : Point → Type 0
Receivers o = (i : MsgId) (t : Told) → o.view.told i ≡ Some t → IsReal o.kernel t.receiver

-- who ends was made
label_real : (pt : Point) (t : OneKernel) (l : Label) → Sane pt → kernel.step pt.kernel l ≡ Some t → IsAboutReal pt.kernel pt.view.topic → IsAboutReal pt.kernel (view_after pt.view (Line.Label l)).topic
label_real pt t (Label.End p y) sane is h = Made (ap is_some (step_ends pt.kernel t p y is).alive)
label_real pt t (Label.Served i) sane is h = served (pt.view.told i) refl
  where
    served : (o : Option Told) → pt.view.told i ≡ o → IsAboutReal pt.kernel (served_told (handled pt.view i) o).topic
    served None e = h
    served (Some u) e =
        let k = step_serves pt.kernel t i is in
        killed_or (λ w. IsAboutReal pt.kernel w.topic) u.kind (handled pt.view i) u.receiver (λ kills. subst (IsReal pt.kernel) (sym (sane.tells.receiver i k.message u k.there e)) (Made (ap is_some k.alive))) (λ mild. h)
label_real pt t l sane is h = subst (IsAboutReal pt.kernel) (sym (label_topic pt.view l)) h

-- and so was what a burial is about
buried_real : (o pt : Point) (i : MsgId) (q : Option Told) → pt.view.told i ≡ q → Reals o pt → IsAboutReal pt.kernel (view.buried_for (handled pt.view i) q).topic
buried_real o pt i None e h = h.topic
buried_real o pt i (Some u) e h = by_about u.about refl
  where
    by_about : (a : About) → u.about ≡ a → IsAboutReal pt.kernel (view.forgotten (handled pt.view i) a).topic
    by_about (Of p) is = subst (IsAboutReal pt.kernel) is (h.about i u e)
    by_about _ is = h.topic

line_topic : (o pt : Point) (t : OneKernel) (l : Line) → Receivers o → LineReal o l → Sane pt → kernel_after pt.kernel (label_of l) ≡ Some t → Reals o pt → IsAboutReal pt.kernel (view_after pt.view l).topic
line_topic o pt t (Line.Migration Stage.Frozen p) known need sane is h = subst (IsAboutReal pt.kernel) (sym (sets pt.view p pt.view.topic).topic) (real_rises o.kernel pt.kernel p h.rises need)
line_topic o pt t (Line.Migration Stage.Accepted p) known need sane is h = real_rises o.kernel pt.kernel p h.rises need
line_topic o pt t (Line.Migration Stage.StateTaken p) known need sane is h = real_rises o.kernel pt.kernel p h.rises need
line_topic o pt t (Line.Migration Stage.MemoryTaken p) known need sane is h = real_rises o.kernel pt.kernel p h.rises need
line_topic o pt t (Line.Migration Stage.Left p) known need sane is h = real_rises o.kernel pt.kernel p h.rises need
line_topic o pt t (Line.SentOn p n) known need sane is h = real_rises o.kernel pt.kernel p h.rises need
line_topic o pt t (Line.Called p n) known need sane is h = real_rises o.kernel pt.kernel p h.rises need
line_topic o pt t (Line.Lacks p a b) known need sane is h = real_rises o.kernel pt.kernel p h.rises need
line_topic o pt t (Line.Forwarded i m) known need sane is h = search (arith, pt.kernel, real_rises, o.kernel, h.rises, h.topic)
line_topic o pt t (Line.Proto i) known need sane is h =
    let proto_real : (s : OneKernel) (v : View) (q : Option Told) → ((t : Told) → q ≡ Some t → IsAboutReal s t.about) → IsAboutReal s (view.after_proto v q).topic = λ s v q h. grind (arith, nat_tests) in
    proto_real pt.kernel (handled pt.view i) (pt.view.told i) (λ t e. h.about i t e)
line_topic o pt t (Line.Label l) known need sane is h = label_real pt t l sane is h.topic
line_topic o pt t (Line.Buried i n) known need sane is h = buried_real o pt i (pt.view.told i) refl h
line_topic o pt t (Line.Queued i) known need sane is h = subst (IsAboutReal pt.kernel) (sym (queued_topic (handled pt.view i) i (receiver_of (pt.view.told i)))) h.topic
line_topic o pt t (Line.Held i) known need sane is h = subst (IsAboutReal pt.kernel) (sym (held_topic (handled pt.view i) i (receiver_of (pt.view.told i)))) h.topic
line_topic o pt t (Line.Taken a b n) known need sane is h = subst (IsAboutReal pt.kernel) (sym (taken_topic (view.with_pair pt.view a b _) b (view.oldest (pt.view.pair a b)))) h.topic
line_topic o pt t (Line.Head d) known need sane is h = absurd need
line_topic o pt t (Line.Put a b i k q) known need sane is h = absurd need
line_topic o pt t _ known need sane is h = h.topic

asked_real : (s : OneKernel) (o : Option PlainMessage) → IsAboutReal s (option_map_or (λ (m : PlainMessage). move_target m.what) o NothingElse)
asked_real s None = tt
asked_real s (Some m) = search (arith, m.what)

topic_real : (s : OneKernel) (a : About) (o : Option Label) → IsAboutReal s a → IsAboutReal s (topic_by s a o)
topic_real s a None h = h
topic_real s a (Some (Label.Asked i)) h = asked_real s (s.bag i)
topic_real s a (Some _) h = h

line_reals : (o pt : Point) (t : OneKernel) (l : Line) → Receivers o → LineReal o l → kernel_after pt.kernel (label_of l) ≡ Some t → Sane pt → Reals o pt → Reals o (moved pt l t)
line_reals o pt t l known need is sane h =
    let about_rises : (s t : OneKernel) (a : About) → Rises s t → IsAboutReal s a → IsAboutReal t a = λ s t a h e. grind (arith, nat_tests, real_rises) in
    let no_head : (o : Point) (n : ℕ) (l : Line) → LineReal o l → HeadIn n l = λ o n l h. grind (arith, nat_tests) in
    let no_put : (o : Point) (l : Line) → LineReal o l → is_put l ≡ false = λ o l h. grind (arith, nat_tests) in
    let s = pt.kernel in
    let w = view_after pt.view l in
    let same : (i : MsgId) → w.told i ≡ pt.view.told i = told_by pt.view l (no_put o l need) in
    let (rises, order, fits) = step_rises sane.r sane.e s t (label_of l) is sane.sound h.order h.fits in
    let within = line_within s.machines pt.view l (no_head o s.machines l need) h.within in
    let rises_on : (s t u : OneKernel) → Rises s t → Rises t u → Rises s u = λ s t u h k. record { machines = k.machines ∙ h.machines; made = λ q e. k.made q (h.made q e) } in
    record {
      within = subst (λ (k : ℕ). Within k (moved pt l t).view) (sym rises.machines) (record { known = within.known; acting = within.acting });
      fits = fits;
      order = order;
      rises = rises_on o.kernel s t h.rises rises;
      kept = λ i u e. same i ∙ h.kept i u e;
      own = λ i u e mine. subst (λ (k : ℕ). i.from.home < k) (sym rises.machines) (h.own i u (sym (same i) ∙ e) mine);
      receiver = λ i u e other. real_rises s t u.receiver rises (h.receiver i u (sym (same i) ∙ e) other);
      about = λ i u e. about_rises s t u.about rises (h.about i u (sym (same i) ∙ e));
      topic = about_rises s t (moved pt l t).view.topic rises (topic_real s w.topic (label_of l) (line_topic o pt t l known need sane is h));
    }

-- a put
abbrev put_of : View → MessageKind → Pid → Told
put_of v k q = record { kind = k; receiver = q; about = v.topic }

-- what is put for the first time is a kernel's own, or for somebody
record Puts (pt : Point) (i : MsgId) (q : Pid) : Type 0 where
  mine : pt.view.told i ≡ None → is_kernels i ≡ true → i.from.home < pt.kernel.machines
  other : pt.view.told i ≡ None → is_kernels i ≡ false → IsReal pt.kernel q

put_reals : (o pt : Point) (b : ℕ) (i : MsgId) (k : MessageKind) (q : Pid) → Puts pt i q → Reals o pt → Reals o (moved pt (Line.Put pt.view.acting b i k q) pt.kernel)
put_reals o pt b i k q new h =
    let v = pt.view in
    let s = pt.kernel in
    record {
      within = line_within s.machines v (Line.Put v.acting b i k q) tt h.within;
      fits = h.fits;
      order = h.order;
      rises = h.rises;
      kept = λ j t e. told_kept v v.acting b i k q j t (h.kept j t e);
      own = λ j t e mine. elim (let e_ : (v.told j ≡ Some t) ⊎ ((i ≡ j) × (v.told i ≡ None) × (put_of v k q ≡ t)) = grind (arith, nat_tests, id_eq-is, put_at, put_told_off) in e_) [
        | inl old ↦ h.own j t old mine
        | inr put ↦ subst (λ (x : MsgId). x.from.home < s.machines) put.0 (new.mine put.1 (ap is_kernels put.0 ∙ mine))
      ];
      receiver = λ j t e other. elim (let e_ : (v.told j ≡ Some t) ⊎ ((i ≡ j) × (v.told i ≡ None) × (put_of v k q ≡ t)) = grind (arith, nat_tests, id_eq-is, put_at, put_told_off) in e_) [
        | inl old ↦ h.receiver j t old other
        | inr put ↦ subst (λ (u : Told). IsReal s u.receiver) put.2 (new.other put.1 (ap is_kernels put.0 ∙ other))
      ];
      about = λ j t e. elim (let e_ : (v.told j ≡ Some t) ⊎ ((i ≡ j) × (v.told i ≡ None) × (put_of v k q ≡ t)) = grind (arith, nat_tests, id_eq-is, put_at, put_told_off) in e_) [
        | inl old ↦ h.about j t old
        | inr put ↦ subst (λ (u : Told). IsAboutReal s u.about) put.2 h.topic
      ];
      topic = h.topic;
    }

-- a part
reals_behind : (o pt : Point) (p : Part) → Receivers o → PartReal o p → Sane pt → Reals o pt → Behind (Reals o) pt p
reals_behind o pt (Says l) known need sane h = λ s step. line_reals o pt s l known need step sane h
reals_behind o pt (Routes i) known need sane h =
    let receiver_real : (s : OneKernel) (i : MsgId) (m : PlainMessage) (w : PlainWhat) → WhatFits s i m w → IsReal s m.to = λ s i m w h1.
    let has_made : (s : OneKernel) (q : Pid) (n : ℕ) (l : Option Life) → s.processes q ≡ l → has_bytes n l ≡ true → IsReal s q = λ s q n l is e. grind (arith, nat_tests) in
    search (arith, or_cases, has_made, m.to, s.processes) in
    λ m there.
    put_reals o pt (pt.addresses (Receiver i)).at i (plain_kind m.what) m.to
    (record {
      mine = λ none own. absurd (false≢true (sym (not_kernels sane.r sane.e pt.kernel i m there sane.sound) ∙ own));
      other = λ none other. receiver_real pt.kernel i m m.what (h.fits.messages i m there);
    }) h
reals_behind o pt (Again i b) known need sane h = λ t there. put_reals o pt b i t.kind t.receiver (record { mine = λ none own. cc; other = λ none other. cc }) h
reals_behind o pt (Owns k q b) known need sane h = put_reals o pt b (own_id pt.view) k q (record { mine = λ none own. h.within.acting; other = λ none other. absurd (false≢true (sym other)) }) h
reals_behind o pt (Transmits a b l) known need sane h = h

-- Wherever the rule leads, whoever is named is a kernel of a machine that there is, a server, or a process that was made.

known_real : (b : Boot) (pt : Point) (n : ℕ) (p : Pid) → Run b pt → pt.view.known n p ≢ Unknown → IsReal pt.kernel p
known_real b pt n p run some = elim (cases_Bool (is_server p)) [
  | inl server ↦ Server server
  | inr other ↦ Made (grind (arith, nat_tests, (run.based.known.agree n p other)))
]

core_real : (b : Boot) (pt : Point) (q : Pid) → Run b pt → core.IsReal pt.kernel.machines pt.kernel.processes pt.view q → IsReal pt.kernel q
core_real b pt q run h = elim h [
  | inl fixed ↦ grind (arith, nat_tests, or_cases)
  | inr there ↦ elim (cases_Bool (is_over (pt.kernel.processes q))) [
    | inl over ↦ Made (over_made (pt.kernel.processes q) over)
    | inr lives ↦ known_real b pt q.home q run (there.1 lives)
  ]
]

-- what stands between groups
record RealAt (pt : Point) : Type 0 where
  own : (i : MsgId) (t : Told) → pt.view.told i ≡ Some t → is_kernels i ≡ true → i.from.home < pt.kernel.machines
  receiver : (i : MsgId) (t : Told) → pt.view.told i ≡ Some t → is_kernels i ≡ false → IsReal pt.kernel t.receiver
  about : (i : MsgId) (t : Told) → pt.view.told i ≡ Some t → IsAboutReal pt.kernel t.about

receivers : (b : Boot) (pt : Point) → Run b pt → RealAt pt → Receivers pt
receivers b pt run h i t told = elim (cases_Bool (is_kernels i)) [
  | inl own ↦ core_real b pt t.receiver run (run.kept.real i t told own).0
  | inr other ↦ h.receiver i t told other
]

begins_real : (b : Boot) (pt : Point) (d : Step) → IsStep pt.kernel.machines d → Run b pt → RealAt pt → Reals pt (begun pt d)
begins_real b pt d fit run h =
    let same : (i : MsgId) → (after_head pt.view d).told i ≡ pt.view.told i = told_by pt.view (Line.Head d) refl in
    record {
      within = line_within pt.kernel.machines pt.view (Line.Head d) fit (record { known = λ m q some. run.found.known_within m q some; acting = run.kept.acting });
      fits = run.based.fits;
      order = run.based.pending;
      rises = rises_same pt.kernel;
      kept = λ i t e. same i ∙ e;
      own = λ i t e mine. h.own i t (sym (same i) ∙ e) mine;
      receiver = λ i t e other. h.receiver i t (sym (same i) ∙ e) other;
      about = λ i t e. h.about i t (sym (same i) ∙ e);
      topic = grind (arith, nat_tests);
    }

real_group : (b : Boot) (pt : Point) (d : Step) (w : Spelled) → IsStep pt.kernel.machines d → group_of b pt d ≡ Some w → Run b pt → RealAt pt → RealAt w.point
real_group b pt d w fit e run h =
    -- a group
    let parts_reals : (o : Point) (ps : List Part) (pt : Point) (w : Spelled) → Receivers o → AllReal o ps → AllSayable ps → Sane pt → spelled pt ps ≡ Some w → Reals o pt → Reals o w.point = λ o qs q w known need ok sane is h.
    let packet_reals : (o : Point) → PacketsKeep (Reals o) = λ o pt a b k l h. search in
    sane_lead (Reals o) (packet_reals o) (PartReal o) (λ pt p so say fine. reals_behind o pt p known so fine) qs q w need ok sane is h in
    let here_real : (b : Boot) (pt : Point) → Run b pt → KnownReal pt = λ b pt run m q known. known_real b pt m q run known in
    let g = group_is b pt d w e in
    let inbox_told : (b : Boot) (pt : Point) → Run b pt → InboxTold pt =
    λ b pt run m i is at. run.found.told i (Inbox m) (let a : times i (pt.view.inbox m) ≡ times i (i ∷ is) = ap (times i) at in let c = times_self i is in subst (λ (n : ℕ). 1 ≤ n) (sym a) c) in
    let k = parts_reals pt g.parts (begun pt d) g.rest (receivers b pt run h) (outcome_real b pt d g.parts (inbox_told b pt run) (here_real b pt run) g.is) (outcome_sayable b pt d g.parts g.is) (begun_sane pt d run.based.phased.sane) g.said (begins_real b pt d fit run h) in
    subst RealAt g.point (record { own = k.own; receiver = k.receiver; about = k.about })

-- wherever the rule leads
pub real_always : RealAlways
real_always b es pt valid leads =
    -- a run
    -- a child that is named was made
    let child_made : (s : OneKernel) (i : MsgId) (m : PlainMessage) (w : PlainWhat) (p : Pid) → w ≡ PlainWhat.Created p → WhatFits s i m w → IsReal s p = λ s i m w p is fits. grind (arith, nat_tests) in
    let start_real : (b : Boot) → RealAt (first_point b) = λ b. grind (arith, nat_tests) in
    let counted_real : (s : OneKernel) (i : MsgId) → counts s i ≡ true → IsReal s i.from = λ s i e. search arith in
    let real = keeps_always b RealAt (λ q d w fit is h. real_group b q d w fit is h) valid (start_real b) es pt leads in
    let run = (run_always b es pt valid leads).run in
    let sane = run.based.phased.sane in
    record {
      named = λ h q e. core_real b pt q run (named_real pt pt.kernel.machines h q run.kept e);
      bag = λ i m there. counted_real pt.kernel i (bag_counted sane.r sane.e pt.kernel i m sane.sound there);
      told = λ i t told. elim (cases_Bool (is_kernels i)) [
        | inl own ↦ Kernel (from_kernel i own) (real.own i t told own)
        | inr other ↦ counted_real pt.kernel i (told_counted pt i t sane told other)
      ];
      receiver = receivers b pt run real;
      about = real.about;
      child = λ i m p there is. child_made pt.kernel i m m.what p is (run.based.fits.messages i m there);
      known = λ n p some. known_real b pt n p run some;
    }
