-- What holds of every run of the kernel without machines.
use Rattle.dm_law_one.proofs.Names.{◌≡◌, ℕ, ◌+◌, ◌≤◌, List, [], ◌∷◌, refl, ap, ◌∙◌, sym, subst, ◌⊎◌, inl, inr, arith, Option, None, Some, MsgId, id_of, PlainMessage, Boot, Label, Why, IsValid, bind, follows_request, serves, PlainProcess, Life}
use Rattle.dm_law_one.proofs.Names.{Alive, Ended, Pid, OneKernel, answer_id, start, replay, ReceivesOnce, EntersOnce, StaysOrLeaves, EndedStays, CountsOnlyRise, MoverHasOne, NotedRests, NotesAlwaysAgree, IsOwnStep, Leads, reception}
use Rattle.dm_law_one.proofs.Names.{receptions, entry, entries, entries_on, in_bag}
use Rattle.dm_onekernel.specs.Receiving as receiving
use Rattle.dm_onekernel.specs.Step as kernel
use Rattle.dm_law_one.proofs.Counted.{pending_of}
use Rattle.dm_law_one.proofs.Movers.{One}
use Rattle.dm_law_one.proofs.Notes.{Notes-agree}
use Rattle.dm_law_one.proofs.Grown.{Grown, Grown-same, Grown-trans, LifeGrows, AliveGrows}
use Rattle.dm_law_one.proofs.Start.{start-made, start-entered, start-movers, start-notes}
use Rattle.dm_law_one.proofs.Sound.{Sound, Sound-same}
use Rattle.dm_law_one.proofs.Steps.{After, bind-is, at_hand-is, nexts, runs, completing, after_ran, after_replies, after_sends, after_waits, after_outputs, after_ends, after_receives, after_refuses}
use Rattle.dm_law_one.proofs.Services.{after_serves}
use Rattle.dm_law_one.proofs.Servers.{after_took, after_dropped, after_gone, after_created, after_no_space, after_asked, after_answered}

pub after_step : (r e : MsgId → ℕ) (s t : OneKernel) (l : Label) → kernel.step s l ≡ Some t → Sound r e s → After r e s l t
after_step r e s t (Label.Ran p k) is h = after_ran r e s t p k is h
after_step r e s t (Label.Call p n c) is h = let (x, next, rest) = bind-is (kernel.next_trap s p) (kernel.replies s p n c) t is in after_replies r e s t p n c x (nexts s p x next) rest h
after_step r e s t (Label.Send p id) is h = let (x, next, rest) = bind-is (kernel.next_trap s p) (kernel.sends s p id) t is in after_sends r e s t p id x (nexts s p x next) rest h
after_step r e s t (Label.Wait p) is h = let (x, next, rest) = bind-is (kernel.next_trap s p) (kernel.waits s p) t is in after_waits r e s t p x (nexts s p x next) rest h
after_step r e s t (Label.Out p w) is h = let (x, next, rest) = bind-is (kernel.next_trap s p) (kernel.outputs s p w) t is in after_outputs r e s t p w x (nexts s p x next) rest h
after_step r e s t (Label.End p y) is h = let (x, next, rest) = bind-is (kernel.next_trap s p) (kernel.ends s p y) t is in after_ends r e s t p y x (nexts s p x next) rest h
after_step r e s t (Label.Receive p id) is h = let (x, c, rest) = bind-is (kernel.completing s p id) (kernel.receives s p id) t is in after_receives r e s t p id x (completing s p id x c) rest h
after_step r e s t (Label.Refuse p id d) is h = let (x, c, rest) = bind-is (kernel.completing s p id) (kernel.refuses s p d) t is in after_refuses r e s t p id d x (completing s p id x c) rest h
after_step r e s t (Label.Served id) is h =
    let (m, there, rest) = bind-is (s.bag id) (λ v. bind (kernel.at_hand s v.to) (λ p. serves s id v p v.what)) t is in
    let (x, at, last) = bind-is (kernel.at_hand s m.to) (λ p. serves s id m p m.what) t rest in
    let (free, alive) = at_hand-is s m.to x at in
    after_serves r e s t id m x m.what refl there alive free last h
after_step r e s t (Label.Took id) is h = after_took r e s t id is h
after_step r e s t (Label.Dropped id) is h = after_dropped r e s t id is h
after_step r e s t (Label.Gone id) is h = after_gone r e s t id is h
after_step r e s t (Label.Created id child) is h = after_created r e s t id child is h
after_step r e s t (Label.NoSpace id a b) is h = after_no_space r e s t id a b is h
after_step r e s t (Label.Asked id) is h = after_asked r e s t id is h
after_step r e s t (Label.Answered id o) is h = after_answered r e s t id o is h

-- where a run comes to, and what it counts
pub record Reached (r e : MsgId → ℕ) (s t : OneKernel) : Type 0 where
  pub e' : MsgId → ℕ
  pub sound : Sound r e' t
  pub grown : Grown s t

pub reached : (r e : MsgId → ℕ) (s t : OneKernel) (ls : List Label) → replay s ls ≡ Some t → Sound r e s → Reached (λ i. r i + receptions i ls) e s t
reached r e s t [] is h =
    let k : s ≡ t = cc in
    subst (λ v. Reached (λ i. r i + receptions i []) e s v) k (record { e' = e; sound = Sound-same r e (λ i. r i + receptions i []) e s (λ i. omega arith) (λ i. refl) h; grown = Grown-same s })
reached r e s t (l ∷ ls) is h =
    let (u, first, rest) = bind-is (kernel.step s l) (λ v. replay v ls) t is in
    let a = after_step r e s u l first h in
    let b = reached (λ i. r i + reception i l) (λ i. e i + entry i s u) u t ls rest a.sound in
    record {
      e' = b.e';
      sound = Sound-same (λ i. (r i + reception i l) + receptions i ls) b.e' (λ i. r i + receptions i (l ∷ ls)) b.e' t (λ i. omega arith) (λ i. refl) b.sound;
      grown = Grown-trans s u t a.grown b.grown;
    }

pub start-sound : (b : Boot) → IsValid b → Sound (λ i. 0) (λ i. 0) (start b)
start-sound b valid = record { entered = start-entered b; made = start-made b valid; movers = start-movers b; notes = start-notes b }

pub received_once : ReceivesOnce
received_once b ls s id valid is =
    let h = (reached (λ i. 0) (λ i. 0) (start b) s ls is (start-sound b valid)).sound.entered in
    let few = h.fewer id in let once = h.once id in omega (arith, few, once)

entries_on_few : (e : ℕ) (id : MsgId) (s : OneKernel) (o : Option OneKernel) (go : OneKernel → ℕ) → e ≤ 1 → ((t : OneKernel) → o ≡ Some t → (e + entry id s t) + go t ≤ 1) → e + entries_on id s o go ≤ 1
entries_on_few e id s None go once h = omega (arith, once)
entries_on_few e id s (Some t) go once h = let k = h t refl in omega (arith, k)

entries_few : (ls : List Label) (r e : MsgId → ℕ) (s : OneKernel) (id : MsgId) → Sound r e s → e id + entries id s ls ≤ 1
entries_few [] r e s id h = let k = h.entered.once id in omega (arith, k)
entries_few (l ∷ ls) r e s id h =
    entries_on_few (e id) id s (kernel.step s l) (λ t. entries id t ls) (h.entered.once id)
    (λ t is. entries_few ls (λ i. r i + reception i l) (λ i. e i + entry i s t) t id (after_step r e s t l is h).sound)

pub entered_once : EntersOnce
entered_once b ls id valid = let k = entries_few ls (λ i. 0) (λ i. 0) (start b) id (start-sound b valid) in omega (arith, k)

stays_or_leaves_of : (o : Option PlainMessage) (m : PlainMessage) → ((x : PlainMessage) → o ≡ Some x → m ≡ x) → (o ≡ None) ⊎ (o ≡ Some m)
stays_or_leaves_of None m only = inl refl
stays_or_leaves_of (Some x) m only = inr (ap Some (sym (only x refl)))

-- new messages come under new names, so whatever stands under an old one was there before
pub stays_or_leaves : StaysOrLeaves
stays_or_leaves b ls s t l id m valid is next there =
    let first = reached (λ i. 0) (λ i. 0) (start b) s ls is (start-sound b valid) in
    let a = after_step (λ i. 0 + receptions i ls) first.e' s t l next first.sound in
    stays_or_leaves_of (t.bag id) m (λ x then_. a.only id m x there then_)

pub ended_stays_of : (l m : Option Life) (y : Why) → LifeGrows l m → l ≡ Some (Ended y) → m ≡ Some (Ended y)
ended_stays_of (Some (Ended z)) m y g e = g ∙ e
ended_stays_of _ m y g e = cc

leads_grown : (b : Boot) (ls ms : List Label) (s t : OneKernel) → IsValid b → Leads b ls s ms t → Grown s t
leads_grown b ls ms s t valid leads =
    let first = reached (λ i. 0) (λ i. 0) (start b) s ls leads.0 (start-sound b valid) in
    (reached (λ i. 0 + receptions i ls) first.e' s t ms leads.1 first.sound).grown

pub ended_stays : EndedStays
ended_stays b ls ms s t p y valid leads is = ended_stays_of (s.processes p) (t.processes p) y ((leads_grown b ls ms s t valid leads).lives p) is

sent_grows : (l m : Option Life) (x y : PlainProcess) → LifeGrows l m → l ≡ Some (Alive x) → m ≡ Some (Alive y) → x.sent ≤ y.sent
sent_grows l m x y g e f = subst (AliveGrows x.sent) f (subst (λ v. LifeGrows v m) e g)

pub counts_only_rise : CountsOnlyRise
counts_only_rise b ls ms s t valid leads =
    let g = leads_grown b ls ms s t valid leads in
    record {
      process = λ p x y is then_. sent_grows (s.processes p) (t.processes p) x y (g.lives p) is then_;
      switchboard = g.switchboard;
      manager = g.manager;
      made = g.made;
      children = g.children;
    }

one_counts : (a b : Option PlainMessage) → One a b → in_bag a + in_bag b ≡ 1
one_counts None None h = absurd h
one_counts (Some m) None h = omega arith
one_counts None (Some m) h = omega arith
one_counts (Some m) (Some n) h = absurd h

pub mover_has_one : MoverHasOne
mover_has_one b ls s p x dir owner base own left pending valid is alive status =
    let h = (reached (λ i. 0) (λ i. 0) (start b) s ls is (start-sound b valid)).sound.movers in
    one_counts (s.bag (id_of p pending)) (s.bag (answer_id (id_of p pending))) (h.mover p x pending alive (ap pending_of status))

pub notes_always_agree : NotesAlwaysAgree
notes_always_agree b ls s valid is =
    let first = reached (λ i. 0) (λ i. 0) (start b) s ls is (start-sound b valid) in
    Notes-agree (λ i. 0 + receptions i ls) first.e' s first.sound.entered first.sound.notes

free_trap : (s t : OneKernel) (p q : Pid) (go : kernel.Trap → Option OneKernel) → bind (kernel.next_trap s q) go ≡ Some t → q ≡ p → s.notes p ≡ None
free_trap s t p q go is own = let (x, next, rest) = bind-is (kernel.next_trap s q) go t is in ap s.notes (sym own) ∙ (nexts s q x next).is.free

free_receive : (s t : OneKernel) (p q : Pid) (id : MsgId) (go : receiving.Completed → Option OneKernel) → bind (kernel.completing s q id) go ≡ Some t → q ≡ p → s.notes p ≡ None
free_receive s t p q id go is own = let (x, next, rest) = bind-is (kernel.completing s q id) go t is in ap s.notes (sym own) ∙ (completing s q id x next).free

free_receiver : (s t : OneKernel) (p : Pid) (id : MsgId) (go : PlainMessage → PlainProcess → Option OneKernel) → bind (s.bag id) (λ m. bind (kernel.at_hand s m.to) (go m)) ≡ Some t
    → (m : PlainMessage) × (s.bag id ≡ Some m) × (m.to ≡ p) → s.notes p ≡ None
free_receiver s t p id go is own =
    let (m, there, rest) = bind-is (s.bag id) (λ v. bind (kernel.at_hand s v.to) (go v)) t is in
    let (x, at, last) = bind-is (kernel.at_hand s m.to) (go m) t rest in
    let same : Some m ≡ Some own.0 = sym there ∙ own.1 in
    let is_own : m ≡ own.0 = cc in
    ap s.notes (sym (ap (λ (v : PlainMessage). v.to) is_own ∙ own.2)) ∙ (at_hand-is s m.to x at).0

-- whose step it is follows no request
own_free : (s t : OneKernel) (l : Label) (p : Pid) → kernel.step s l ≡ Some t → IsOwnStep s p l → s.notes p ≡ None
own_free s t (Label.Ran q k) p is own =
    let go = λ (x : PlainProcess). bind (kernel.plain_steps k (kernel.machine_of x)) (λ (m : kernel.Machine). Some (kernel.goes_on s q (kernel.with_machine x m))) in
    let (x, running, rest) = bind-is (kernel.running s q) go t is in
    ap s.notes (sym own) ∙ (runs s q x running).free
own_free s t (Label.Call q n c) p is own = free_trap s t p q (kernel.replies s q n c) is own
own_free s t (Label.Send q id) p is own = free_trap s t p q (kernel.sends s q id) is own
own_free s t (Label.Wait q) p is own = free_trap s t p q (kernel.waits s q) is own
own_free s t (Label.Out q w) p is own = free_trap s t p q (kernel.outputs s q w) is own
own_free s t (Label.End q y) p is own = free_trap s t p q (kernel.ends s q y) is own
own_free s t (Label.Receive q id) p is own = free_receive s t p q id (kernel.receives s q id) is own
own_free s t (Label.Refuse q id c) p is own = free_receive s t p q id (kernel.refuses s q c) is own
own_free s t (Label.Served id) p is own = free_receiver s t p id (λ m x. serves s id m x m.what) is own
own_free s t (Label.Asked id) p is own = free_receiver s t p id (λ m x. follows_request s id m m.what) is own
own_free s t _ p is own = absurd own

pub noted_rests : NotedRests
noted_rests b ls s t l p n valid is next notes =
    let first = reached (λ i. 0) (λ i. 0) (start b) s ls is (start-sound b valid) in
    let a = after_step (λ i. 0 + receptions i ls) first.e' s t l next first.sound in
    (λ own. absurd (let k : None ≡ Some n = sym (own_free s t l p next own) ∙ notes in cc), a.rests p n notes)
