-- What a process does by itself can come first.
use Rattle.dm_law_one.proofs.Names.{◌≡◌, ℕ, ◌+◌, Bool, true, false, refl, ap, ◌∙◌, sym, subst, if◌then◌else◌, List, [], ◌∷◌, Option, None, Some, cases_Bool, false≢true, inl, inr, Pid, pid_eq, MsgId, id_eq, PlainMessage, PlainWhat, Label, IsOwnStep, start, replay, reception, entry, bind}
use Rattle.dm_law_one.proofs.Names.{PlainProcess, PlainStatus, Ready, Waiting, Moving, Life, Alive, OneKernel, with_process, with_sent, serves, follows_request}
use Rattle.dm_law_one.proofs.Facts.{none_some}
use Rattle.dm_law_one.proofs.Equal.{pid_eq-same, id_eq-is}
use Rattle.dm_law_one.proofs.Counted.{pending_of}
use Rattle.dm_law_one.proofs.Runs.{after_step, start-sound}
use Rattle.dm_law_one.proofs.Sound.{Sound, process_at}
use Rattle.dm_law_one.proofs.Steps.{bind-is, at_hand-is}
use Rattle.dm_onekernel.specs.Receiving as receiving
use Rattle.dm_onekernel.specs.Step as kernel
use Rattle.dm_law_always.proofs.Fits.Start.{start_fits}
use Rattle.dm_law_always.proofs.RunLabels.{replay_fits}
use Rattle.dm_law_alike.specs.Acting.{IsAct, AreActs, IsAtHand, IsReady, NoneOwn}
use Rattle.dm_law_alike.specs.Laws.{ActsGoFirst, BothWays, ActsComeFirst, First, SparedStays, OwnAreActs}
use Rattle.dm_law_alike.specs.Private.{MessageSpares}
use Rattle.dm_law_alike.proofs.Beside.{with_bag, beside_set}
use Rattle.dm_law_alike.proofs.Acting.{Acts, act_is, alive_stays, free_stays, diamond, fresh_message, some_is}
use Rattle.dm_law_alike.proofs.Alone.{step_spares}

-- the bag behind an act, under a name that is there
bag_behind : (c e : MsgId → ℕ) (s t : OneKernel) (p : Pid) (a : Label) (h : Acts s p a t) (i : MsgId) (m n : PlainMessage) → Sound c e s → s.bag i ≡ Some m → t.bag i ≡ Some n → s.bag i ≡ Some n
bag_behind c e s t p a h i m n sound was now =
    let b = beside_set s p h.life h.message in
    let there : with_bag h.message s.bag i ≡ Some n = sym (b.bag i) ∙ ap (λ (v : OneKernel). v.bag i) (sym h.is) ∙ now in
    by_message h.message refl there
  where
    by_message : (o : Option PlainMessage) → h.message ≡ o → with_bag o s.bag i ≡ Some n → s.bag i ≡ Some n
    by_message None f g = g
    by_message (Some v) f g = elim (cases_Bool (id_eq v.id i)) [
      | inl same ↦ none_some m (sym (fresh_message c e s t p a h v sound f) ∙ ap s.bag (id_eq-is v.id i same) ∙ was)
      | inr off ↦ sym (ap (λ (b : Bool). if b then Some v else s.bag i) off) ∙ g
    ]

served_there : (s w : OneKernel) (id : MsgId) → kernel.step s (Label.Served id) ≡ Some w → (m : PlainMessage) × (s.bag id ≡ Some m)
served_there s w id e = let (m, there, rest) = bind-is (s.bag id) (λ v. bind (kernel.at_hand s v.to) (λ y. serves s id v y v.what)) w e in (m, there)

asked_there : (s w : OneKernel) (id : MsgId) → kernel.step s (Label.Asked id) ≡ Some w → (m : PlainMessage) × (s.bag id ≡ Some m)
asked_there s w id e = let (m, there, rest) = bind-is (s.bag id) (λ v. bind (kernel.at_hand s v.to) (λ y. follows_request s id v v.what)) w e in (m, there)

-- what is its own behind an act was so before
own_before : (c e : MsgId → ℕ) (s t w : OneKernel) (p : Pid) (a l : Label) (h : Acts s p a t) → Sound c e s → kernel.step s l ≡ Some w → IsOwnStep t p l → IsOwnStep s p l
own_before c e s t w p a (Label.Served id) h sound is (m, there, to) = let (n, was) = served_there s w id is in (m, bag_behind c e s t p a h id n m sound was there, to)
own_before c e s t w p a (Label.Asked id) h sound is (m, there, to) = let (n, was) = asked_there s w id is in (m, bag_behind c e s t p a h id n m sound was there, to)
own_before c e s t w p a (Label.Ran q k) h sound is own = own
own_before c e s t w p a (Label.Call q n d) h sound is own = own
own_before c e s t w p a (Label.Send q id) h sound is own = own
own_before c e s t w p a (Label.Wait q) h sound is own = own
own_before c e s t w p a (Label.Out q v) h sound is own = own
own_before c e s t w p a (Label.End q y) h sound is own = own
own_before c e s t w p a (Label.Receive q id) h sound is own = own
own_before c e s t w p a (Label.Refuse q id d) h sound is own = own
own_before c e s t w p a (Label.Dropped id) h sound is own = absurd own
own_before c e s t w p a (Label.Gone id) h sound is own = absurd own
own_before c e s t w p a (Label.Took id) h sound is own = absurd own
own_before c e s t w p a (Label.Created id child) h sound is own = absurd own
own_before c e s t w p a (Label.NoSpace id x y) h sound is own = absurd own
own_before c e s t w p a (Label.Answered id o) h sound is own = absurd own

-- one act, and a run in which nothing is its own
pub record OnePast (t u : OneKernel) (p : Pid) (a : Label) (ls : List Label) : Type 0 where
  pub end : OneKernel
  pub run : replay t ls ≡ Some end
  pub acting : kernel.step u a ≡ Some end
  pub none : NoneOwn t p ls

pub one_past : (ls : List Label) (c e : MsgId → ℕ) (s t u : OneKernel) (p : Pid) (a : Label) → Sound c e s → IsAct p a → kernel.step s a ≡ Some t → NoneOwn s p ls → replay s ls ≡ Some u → OnePast t u p a ls
one_past [] c e s t u p a sound act is none leads = record { end = t; run = refl; acting = ap (λ v. kernel.step v a) (sym (some_is s u leads)) ∙ is; none = tt }
one_past (l ∷ ls) c e s t u p a sound act is none leads =
    let (w, first, rest) = bind-is (kernel.step s l) (λ (v : OneKernel). replay v ls) u leads in
    let d = diamond c e s t w p a l sound act is none.0 first in
    let after = after_step c e s w l first sound in
    let more = one_past ls (λ i. c i + reception i l) (λ i. e i + entry i s w) w d.end u p a after.sound act d.second (none.1 w first) rest in
    record {
      end = more.end;
      run = ap (λ o. bind o (λ (v : OneKernel). replay v ls)) d.first ∙ more.run;
      acting = more.acting;
      none = (λ own. none.0 (own_before c e s t w p a l (act_is s t p a act is) sound first own), λ v f. subst (λ z. NoneOwn z p ls) (some_is d.end v (sym d.first ∙ f)) more.none);
    }

pub go_first : (acts ls : List Label) (c e : MsgId → ℕ) (s t u : OneKernel) (p : Pid) → Sound c e s → AreActs p acts → replay s acts ≡ Some t → NoneOwn s p ls → replay s ls ≡ Some u → BothWays s t u p acts ls
go_first [] ls c e s t u p sound acts is none leads =
    let same : s ≡ t = some_is s t is in
    record { end = u; run = ap (λ v. replay v ls) (sym same) ∙ leads; acting = refl; none = subst (λ v. NoneOwn v p ls) same none }
go_first (a ∷ as_) ls c e s t u p sound acts is none leads =
    let (w, first, rest) = bind-is (kernel.step s a) (λ (v : OneKernel). replay v as_) t is in
    let one = one_past ls c e s w u p a sound acts.0 first none leads in
    let after = after_step c e s w a first sound in
    let more = go_first as_ ls (λ i. c i + reception i a) (λ i. e i + entry i s w) w t one.end p after.sound acts.1 rest one.none one.run in
    record { end = more.end; run = more.run; acting = ap (λ o. bind o (λ (v : OneKernel). replay v as_)) one.acting ∙ more.acting; none = more.none }

pub acts_go_first : ActsGoFirst
acts_go_first b before acts ls s t u p valid lead own is none leads =
    let (c, e, sound, order, fits) = replay_fits before (λ i. 0) (λ i. 0) (start b) s lead (start-sound b valid) refl (start_fits b valid) in
    go_first acts ls c e s t u p sound own is none leads

-- a process that lives and follows nothing stays so through a run in which nothing is its own
record Stays (s t : OneKernel) (p : Pid) : Type 0 where
  same : t.processes p ≡ s.processes p
  free : t.notes p ≡ None

stays : (ls : List Label) (c e : MsgId → ℕ) (s t : OneKernel) (p : Pid) (x : PlainProcess) → Sound c e s → s.processes p ≡ Some (Alive x) → s.notes p ≡ None → NoneOwn s p ls → replay s ls ≡ Some t → Stays s t p
stays [] c e s t p x sound alive free none leads = let same = some_is s t leads in record { same = ap (λ (v : OneKernel). v.processes p) (sym same); free = ap (λ (v : OneKernel). v.notes p) (sym same) ∙ free }
stays (l ∷ ls) c e s t p x sound alive free none leads =
    let (w, first, rest) = bind-is (kernel.step s l) (λ (v : OneKernel). replay v ls) t leads in
    let life = alive_stays c e s w p x l sound alive free none.0 first in
    let note = free_stays s w p l free none.0 first in
    let after = after_step c e s w l first sound in
    let more = stays ls (λ i. c i + reception i l) (λ i. e i + entry i s w) w t p x after.sound (life ∙ alive) note (none.1 w first) rest in
    record { same = more.same ∙ life; free = more.free }

with_sent_processes : (s : OneKernel) (o : Option PlainMessage) (p : Pid) → (with_sent s o).processes p ≡ s.processes p
with_sent_processes s None p = refl
with_sent_processes s (Some m) p = refl

with_sent_notes : (s : OneKernel) (o : Option PlainMessage) (p : Pid) → (with_sent s o).notes p ≡ s.notes p
with_sent_notes s None p = refl
with_sent_notes s (Some m) p = refl

life_behind : (s t : OneKernel) (p : Pid) (a : Label) (h : Acts s p a t) → t.processes p ≡ Some h.life
life_behind s t p a h = ap (λ (v : OneKernel). v.processes p) h.is ∙ with_sent_processes (with_process s p h.life) h.message p ∙ process_at s p h.life

note_behind : (s t : OneKernel) (p : Pid) (a : Label) (h : Acts s p a t) → t.notes p ≡ None
note_behind s t p a h = ap (λ (v : OneKernel). v.notes p) h.is ∙ with_sent_notes (with_process s p h.life) h.message p ∙ h.free

come_first : (acts ls : List Label) (c e : MsgId → ℕ) (s t u : OneKernel) (p : Pid) (life : Life) → Sound c e s → s.processes p ≡ Some life → s.notes p ≡ None → t.processes p ≡ Some life → NoneOwn s p ls → replay s ls ≡ Some t → AreActs p acts → replay t acts ≡ Some u → First s u acts ls
come_first [] ls c e s t u p life sound is free there none leads acts last = record { kernel = s; acting = refl; run = leads ∙ last }
come_first (a ∷ as_) ls c e s t u p life sound is free there none leads acts last =
    let (w, first, rest) = bind-is (kernel.step t a) (λ (v : OneKernel). replay v as_) u last in
    let h = act_is t w p a acts.0 first in
    let v = with_sent (with_process s p h.life) h.message in
    let here : kernel.step s a ≡ Some v = h.again s (is ∙ sym there) (free ∙ sym h.free) in
    let one = one_past ls c e s v t p a sound acts.0 here none leads in
    let end : one.end ≡ w = some_is one.end w (sym one.acting ∙ first) in
    let after = after_step c e s v a here sound in
    let mine = act_is s v p a acts.0 here in
    let more = come_first as_ ls (λ i. c i + reception i a) (λ i. e i + entry i s v) v w u p h.life after.sound (with_sent_processes (with_process s p h.life) h.message p ∙ process_at s p h.life) (with_sent_notes (with_process s p h.life) h.message p ∙ free)
    (life_behind t w p a h) one.none (one.run ∙ ap Some end) acts.1 rest in
    record { kernel = more.kernel; acting = ap (λ o. bind o (λ (z : OneKernel). replay z as_)) here ∙ more.acting; run = more.run }

pub acts_come_first : ActsComeFirst
acts_come_first b before acts ls s t u p x valid lead hand none leads own last =
    let (c, e, sound, order, fits) = replay_fits before (λ i. 0) (λ i. 0) (start b) s lead (start-sound b valid) refl (start_fits b valid) in
    let k = stays ls c e s t p x sound hand.alive hand.free none leads in
    come_first acts ls c e s t u p (Alive x) sound hand.alive hand.free (k.same ∙ hand.alive) none leads own last

still_ready : (st : PlainStatus) → IsReady st → pending_of st ≡ None
still_ready Ready h = refl
still_ready (Waiting mask base cap) h = refl
still_ready (Moving dir owner base own left pending) h = absurd h

pub spared_stays : SparedStays
spared_stays b before s t p x l valid lead hand spared other is =
    let (c, e, sound, order, fits) = replay_fits before (λ i. 0) (λ i. 0) (start b) s lead (start-sound b valid) refl (start_fits b valid) in
    record {
      spared = step_spares c e s t p x l (record { sound = sound; fits = fits; alive = hand.alive; still = still_ready x.status hand.ready; spared = spared }) other is;
      same = alive_stays c e s t p x l sound hand.alive hand.free other is;
    }

-- a ready process receives nothing
no_completion : (p : Pid) (x : PlainProcess) (m : PlainMessage) (b : Bool) (st : PlainStatus) (d : receiving.Completed) → IsReady st → (if b then None else receiving.completes_status p x m st) ≡ Some d → ⊥
no_completion p x m true st d ready e = none_some d e
no_completion p x m false Ready d ready e = none_some d e
no_completion p x m false (Waiting mask base cap) d ready e = absurd ready
no_completion p x m false (Moving dir owner base own left pending) d ready e = absurd ready

alive_one : (o : Option Life) (a b : PlainProcess) → o ≡ Some (Alive a) → o ≡ Some (Alive b) → a ≡ b
alive_one o a b e f = let g : Some (Alive a) ≡ Some (Alive b) = sym e ∙ f in cc

no_receive : (s : OneKernel) (p : Pid) (x : PlainProcess) (id : MsgId) (d : receiving.Completed) → IsAtHand s p x → kernel.completing s p id ≡ Some d → ⊥
no_receive s p x id d hand e =
    let (y, is, rest) = bind-is (kernel.at_hand s p) (λ (v : PlainProcess). bind (s.bag id) (receiving.completes_with p v)) d e in
    let (m, there, last) = bind-is (s.bag id) (receiving.completes_with p y) d rest in
    let same = alive_one (s.processes p) x y hand.alive (at_hand-is s p y is).1 in
    no_completion p y m y.stopped y.status d (subst (λ (v : PlainProcess). IsReady v.status) same hand.ready) last

not_for : (cs : List Pid) (s u : OneKernel) (p : Pid) (id : MsgId) (m : PlainMessage) (y : PlainProcess) (w : PlainWhat) → MessageSpares cs p m w → m.to ≡ p → serves s id m y w ≡ Some u → ⊥
not_for cs s u p id m y (PlainWhat.User code channel body links) h to e = none_some u e
not_for cs s u p id m y (PlainWhat.Create image links) h to e = none_some u e
not_for cs s u p id m y (PlainWhat.Created child) h to e = none_some u e
not_for cs s u p id m y PlainWhat.NoRoom h to e = none_some u e
not_for cs s u p id m y (PlainWhat.Move machine) h to e = none_some u e
not_for cs s u p id m y (PlainWhat.Moved outcome) h to e = none_some u e
not_for cs s u p id m y PlainWhat.Stop h to e = false≢true (sym h ∙ ap (pid_eq p) to ∙ pid_eq-same p)
not_for cs s u p id m y PlainWhat.Resume h to e = false≢true (sym h ∙ ap (pid_eq p) to ∙ pid_eq-same p)
not_for cs s u p id m y PlainWhat.Kill h to e = false≢true (sym h ∙ ap (pid_eq p) to ∙ pid_eq-same p)
not_for cs s u p id m y (PlainWhat.Read base len) h to e = false≢true (sym h ∙ ap (pid_eq p) to ∙ pid_eq-same p)
not_for cs s u p id m y (PlainWhat.Write base bytes) h to e = false≢true (sym h ∙ ap (pid_eq p) to ∙ pid_eq-same p)
not_for cs s u p id m y (PlainWhat.Block bytes) h to e = false≢true (sym h ∙ ap (pid_eq p) to ∙ pid_eq-same p)
not_for cs s u p id m y PlainWhat.Written h to e = false≢true (sym h ∙ ap (pid_eq p) to ∙ pid_eq-same p)
not_for cs s u p id m y PlainWhat.Gone h to e = false≢true (sym h ∙ ap (pid_eq p) to ∙ pid_eq-same p)

not_asked : (cs : List Pid) (s u : OneKernel) (p : Pid) (id : MsgId) (m : PlainMessage) (w : PlainWhat) → MessageSpares cs p m w → m.to ≡ p → follows_request s id m w ≡ Some u → ⊥
not_asked cs s u p id m (PlainWhat.Move machine) h to e = false≢true (sym h ∙ ap (pid_eq p) to ∙ pid_eq-same p)
not_asked cs s u p id m _ h to e = none_some u e

same_message : (s : OneKernel) (id : MsgId) (m n : PlainMessage) → s.bag id ≡ Some m → s.bag id ≡ Some n → m ≡ n
same_message s id m n e f = some_is m n (sym e ∙ f)

pub own_are_acts : OwnAreActs
own_are_acts s t p x (Label.Ran q k) hand spared own is = own
own_are_acts s t p x (Label.Call q n d) hand spared own is = own
own_are_acts s t p x (Label.Send q id) hand spared own is = own
own_are_acts s t p x (Label.Wait q) hand spared own is = own
own_are_acts s t p x (Label.Out q w) hand spared own is = own
own_are_acts s t p x (Label.End q y) hand spared own is = own
own_are_acts s t p x (Label.Receive q id) hand spared own is =
    let (d, completes, last) = bind-is (kernel.completing s q id) (kernel.receives s q id) t is in absurd (no_receive s p x id d hand (ap (λ v. kernel.completing s v id) (sym own) ∙ completes))
own_are_acts s t p x (Label.Refuse q id r) hand spared own is =
    let (d, completes, last) = bind-is (kernel.completing s q id) (kernel.refuses s q r) t is in absurd (no_receive s p x id d hand (ap (λ v. kernel.completing s v id) (sym own) ∙ completes))
own_are_acts s t p x (Label.Served id) hand spared (m, there, to) is =
    let (n, found, rest) = bind-is (s.bag id) (λ v. bind (kernel.at_hand s v.to) (λ y. serves s id v y v.what)) t is in
    let (y, at, last) = bind-is (kernel.at_hand s n.to) (λ y. serves s id n y n.what) t rest in
    let same = same_message s id m n there found in
    absurd (not_for s.manager.children s t p id n y n.what (spared.messages id n found) (ap (λ (v : PlainMessage). v.to) (sym same) ∙ to) last)
own_are_acts s t p x (Label.Asked id) hand spared (m, there, to) is =
    let (n, found, rest) = bind-is (s.bag id) (λ v. bind (kernel.at_hand s v.to) (λ y. follows_request s id v v.what)) t is in
    let (y, at, last) = bind-is (kernel.at_hand s n.to) (λ y. follows_request s id n n.what) t rest in
    let same = same_message s id m n there found in
    absurd (not_asked s.manager.children s t p id n n.what (spared.messages id n found) (ap (λ (v : PlainMessage). v.to) (sym same) ∙ to) last)
own_are_acts s t p x _ hand spared own is = absurd own
