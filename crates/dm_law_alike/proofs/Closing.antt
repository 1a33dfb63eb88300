-- Where nothing leads out of what is kept, no services ever show what is asked.
use Rattle.dm_law_one.proofs.Names.{◌≡◌, ◌⊎◌, ℕ, ◌+◌, ◌≤◌, ◌==◌, Bool, true, false, refl, ap, ◌∙◌, sym, subst, arith, if◌then◌else◌, List, [], ◌∷◌, length, slice_get, Option, None, Some, false≢true, inl, inr, Pid, pid_eq, MsgId, PlainMessage, PlainWhat, Label, IsOwnStep, option_map, option_map_or, bind, replay, reception, entry, start, instruction}
use Rattle.dm_law_one.proofs.Names.{PlainProcess, PlainStatus, Ready, Waiting, Moving, Life, Alive, Ended, MoveNote, Pending, OneKernel, with_process, with_sent, manager}
use Rattle.std.specs.Prelude.{zero, suc, ◌<◌}
use Rattle.dm_law_one.proofs.Facts.{none_some}
use Rattle.dm_law_one.proofs.Equal.{pid_eq-is, pid_eq-same}
use Rattle.dm_law_one.proofs.Counted.{pending_of}
use Rattle.dm_law_one.proofs.Runs.{after_step, start-sound}
use Rattle.dm_law_one.proofs.Sound.{Sound}
use Rattle.dm_law_one.proofs.Steps.{bind-is, at_hand-is}
use Rattle.dm_onekernel.specs.Kernel.{NamedLink}
use Rattle.dm_onekernel.specs.Step as kernel
use Rattle.dm_law_rule.specs.Rule as rule
use Rattle.dm_law_always.specs.Fits.{Each, KernelFits}
use Rattle.dm_law_always.proofs.Fits.Constants.{InOrder, step_constant}
use Rattle.dm_law_always.proofs.Fits.Start.{fits_step, start_fits}
use Rattle.dm_law_alike.specs.Acting.{IsAct, AreActs, IsAtHand, IsReady, NoneOwn}
use Rattle.dm_law_alike.specs.Alike.{Renaming, KeepsOrder, under, status_by, Says, SayAll, TwinProcess, TwinLife, TwinNote, TwinPending, Twins, TwinRun, renamed_again}
use Rattle.dm_law_alike.specs.Closed.{NoneAsked, NoneAskedIn, IsNameless, GoesAlone, EachIsKept, OneGoes, ClosedIsNever}
use Rattle.dm_law_alike.specs.Private.{Spared, MaybeSpared, OwnerSpared, MessageSpares, IsSpared}
use Rattle.dm_law_alike.specs.Services.{execute_labels, trap_labels, called_labels, Executes, is_act, IsService, Services}
use Rattle.dm_law_alike.proofs.Again.{twins_of_twins}
use Rattle.dm_law_alike.proofs.Acting.{act_is, some_is, alive_stays, free_stays}
use Rattle.dm_law_alike.proofs.Alone.{step_spares}
use Rattle.dm_law_alike.proofs.Firsts.{go_first, own_are_acts}
use Rattle.dm_law_alike.proofs.Numbers.{some_same}
use Rattle.dm_law_alike.proofs.Runs.{twin_run}
use Rattle.dm_law_alike.proofs.Services.{says_act, all_one, execute_say, can_execute, ready_is}
use Rattle.dm_law_alike.proofs.Serving.{twin_running}

-- a kernel that steps lead to, as far as laws of all of them say
pub record Kernel (c e : MsgId → ℕ) (s : OneKernel) : Type 0 where
  pub sound : Sound c e s
  pub order : InOrder s.manager
  pub fits : KernelFits s

pub record Reached (s : OneKernel) : Type 0 where
  pub receptions : MsgId → ℕ
  pub entries : MsgId → ℕ
  pub is : Kernel receptions entries s

reached_on : (s t : OneKernel) (l : Label) → Reached s → kernel.step s l ≡ Some t → Reached t
reached_on s t l h is =
    let a = after_step h.receptions h.entries s t l is h.is.sound in
    record {
      receptions = λ i. h.receptions i + reception i l;
      entries = λ i. h.entries i + entry i s t;
      is = record { sound = a.sound; order = (step_constant s t l is).pending h.is.order; fits = fits_step h.receptions h.entries s t l is h.is.sound h.is.order h.is.fits };
    }

reached_all : (ls : List Label) (s t : OneKernel) → Reached s → replay s ls ≡ Some t → Reached t
reached_all [] s t h is = subst Reached (some_is s t is) h
reached_all (l ∷ ls) s t h is = let (u, first, rest) = bind-is (kernel.step s l) (λ (v : OneKernel). replay v ls) t is in reached_all ls u t (reached_on s u l h first) rest

-- where a service leads
service_leads : (quantum : ℕ) (s : OneKernel) (ls : List Label) (t : OneKernel) → IsService quantum s ls t → replay s ls ≡ Some t
service_leads quantum s ls t (inl (p, h)) = h.leads
service_leads quantum s ls t (inr h) = ap (replay s) h.labels ∙ ap (λ o. bind o (λ (v : OneKernel). Some v)) h.leads

-- a service of the twin
pub record ServiceTwin (quantum : ℕ) (r : Renaming) (k : OneKernel) (ls : List Label) (t : OneKernel) : Type 0 where
  pub labels : List Label
  pub kernel : OneKernel
  pub service : IsService quantum k labels kernel
  pub say : SayAll r ls labels
  pub twins : Twins r t kernel

run_twin : (r : Renaming) (s k t : OneKernel) (ls : List Label) → KeepsOrder r → Reached s → Twins r s k → replay s ls ≡ Some t → TwinRun r k ls t
run_twin r s k t ls keeps h twins is = twin_run ls r h.receptions h.entries s k t keeps h.is.sound h.is.order h.is.fits twins is

one_label : (r : Renaming) (l : Label) (ks : List Label) → SayAll r (l ∷ []) ks → (k : Label) × (ks ≡ k ∷ []) × Says r l k
one_label r l (k ∷ []) h = (k, refl, h.0)
one_label r l [] h = absurd h
one_label r l (k ∷ j ∷ js) h = absurd h.1

twin_service : (quantum : ℕ) (r : Renaming) (s k t : OneKernel) (ls : List Label) → KeepsOrder r → Reached s → Twins r s k → IsService quantum s ls t → ServiceTwin quantum r k ls t
twin_service quantum r s k t ls keeps h twins (inl (p, x)) =
    let y = twin_running r s k p x.process twins x.runs in
    let run = run_twin r s k t ls keeps h twins x.leads in
    let say : SayAll r ls (execute_labels quantum p y.process) = subst (λ v. SayAll r v (execute_labels quantum p y.process)) (sym x.labels) (execute_say r quantum p x.process y.process y.twin) in
    record {
      labels = run.labels;
      kernel = run.kernel;
      service = inl (p, record { process = y.process; runs = y.is; labels = all_one r ls run.labels (execute_labels quantum p y.process) run.say say; leads = run.replays });
      say = run.say;
      twins = run.twins;
    }
twin_service quantum r s k t ls keeps h twins (inr x) =
    let run = run_twin r s k t ls keeps h twins (service_leads quantum s ls t (inr x)) in
    let (one, is, says) = one_label r x.one run.labels (subst (λ v. SayAll r v run.labels) x.labels run.say) in
    let (u, first, last) = bind-is (kernel.step k one) (λ (v : OneKernel). replay v []) run.kernel (ap (replay k) (sym is) ∙ run.replays) in
    record {
      labels = run.labels;
      kernel = run.kernel;
      service = inr (record { one = one; labels = is; other = says_act r x.one one says ∙ x.other; leads = first ∙ last });
      say = run.say;
      twins = run.twins;
    }

-- a question's answer is that of the twin's labels
none_asked : (asks : Label → Bool) (r : Renaming) (ls ks : List Label) → IsNameless asks → SayAll r ls ks → NoneAsked asks ks → NoneAsked asks ls
none_asked asks r [] [] same say h = tt
none_asked asks r (l ∷ ls) (k ∷ ks) same say h = (sym (same r l k say.0) ∙ h.0, none_asked asks r ls ks same say.1 h.1)
none_asked asks r [] (k ∷ ks) same say h = tt
none_asked asks r (l ∷ ls) [] same say h = absurd say

-- a process of the twin that nobody can reach is one that nobody can reach
slots_back : (f : ℕ → Option ℕ) (cs ds : List Pid) (p : Pid) (x y : PlainProcess) → ds ≡ cs → TwinProcess f x y → Each (MaybeSpared ds p) y.links → Each (MaybeSpared cs p) x.links
slots_back f cs ds p x y e h each = subst (λ v. Each (MaybeSpared v p) x.links) e (subst (Each (MaybeSpared ds p)) h.links each)

pending_owner : (p : Pid) (dir : _) (owner : Pid) (base own left : ℕ) (o : Option ℕ) (w : PlainStatus) → option_map (λ n. Moving dir owner base own left n) o ≡ Some w → OwnerSpared p w → pid_eq p owner ≡ false
pending_owner p dir owner base own left None w e h = none_some w e
pending_owner p dir owner base own left (Some n) w e h = subst (OwnerSpared p) (sym (some_same (Moving dir owner base own left n) w e)) h

owner_back : (p : Pid) (f : ℕ → Option ℕ) (v w : PlainStatus) → status_by f v ≡ Some w → OwnerSpared p w → OwnerSpared p v
owner_back p f Ready w e h = tt
owner_back p f (Waiting mask base cap) w e h = tt
owner_back p f (Moving dir owner base own left pending) w e h = pending_owner p dir owner base own left (f pending) w e h

lives_back : (q : Pid) (f : ℕ → Option ℕ) (a b : Option Life) (x : PlainProcess) → TwinLife q f a b → a ≡ Some (Alive x) → (y : PlainProcess) × (b ≡ Some (Alive y)) × TwinProcess f x y
lives_back q f (Some (Alive z)) (Some (Alive y)) x h e = let g : z ≡ x = cc in (y, refl, subst (λ (v : PlainProcess). TwinProcess f v y) g h)
lives_back q f (Some (Alive z)) (Some (Ended y)) x h e = absurd h
lives_back q f (Some (Alive z)) None x h e = absurd h
lives_back q f (Some (Ended z)) b x h e = absurd (let g : Some (Ended z) ≡ Some (Alive x) = e in cc)
lives_back q f None b x h e = none_some (Alive x) e

answers_back : (f : ℕ → Option ℕ) (cs : List Pid) (p : Pid) (xs ys : List Pending) → TwinPending f xs ys → Each (λ (v : Pending). MaybeSpared cs p v.answer) ys → Each (λ (v : Pending). MaybeSpared cs p v.answer) xs
answers_back f cs p [] [] t h = tt
answers_back f cs p (x ∷ xs) (y ∷ ys) t h = (subst (MaybeSpared cs p) t.2 h.0, answers_back f cs p xs ys t.3 h.1)
answers_back f cs p [] (y ∷ ys) t h = absurd t
answers_back f cs p (x ∷ xs) [] t h = absurd t

spared_back : (r : Renaming) (s k : OneKernel) (p : Pid) → Twins r s k → IsSpared k p → IsSpared s p
spared_back r s k p twins h = record {
  tables = λ q x apart is.
      let (y, there, twin) = lives_back q (r q) (s.processes q) (k.processes q) x (twins.processes q) is in
      slots_back (r q) s.manager.children k.manager.children p x y twins.children twin (h.tables q y apart there);
  movers = λ q x apart is.
      let (y, there, twin) = lives_back q (r q) (s.processes q) (k.processes q) x (twins.processes q) is in
      owner_back p (r q) x.status y.status twin.status (h.movers q y apart there);
  messages = λ i m is.
      let (j, st) = twins.known i m is in
      let there : k.bag j ≡ Some (under j m) = twins.bag i j st ∙ ap (option_map (under j)) is in
      under_back s.manager.children p j m m.what (subst (λ cs. MessageSpares cs p (under j m) m.what) twins.children (h.messages j (under j m) there));
  names = subst (λ cs. Each (λ (v : NamedLink). Spared cs p v.link) s.switchboard.names) twins.children (subst (Each (λ (v : NamedLink). Spared k.manager.children p v.link)) twins.names h.names);
  answers = answers_back (r manager) s.manager.children p s.manager.pending k.manager.pending twins.pending (subst (λ cs. Each (λ (v : Pending). MaybeSpared cs p v.answer) k.manager.pending) twins.children h.answers);
}
  where
    under_back : (cs : List Pid) (p : Pid) (j : MsgId) (m : PlainMessage) (w : PlainWhat) → MessageSpares cs p (under j m) w → MessageSpares cs p m w
    under_back cs p j m (PlainWhat.User code channel body links) h = h
    under_back cs p j m (PlainWhat.Create image links) h = h
    under_back cs p j m (PlainWhat.Created child) h = h
    under_back cs p j m PlainWhat.Stop h = h
    under_back cs p j m PlainWhat.Resume h = h
    under_back cs p j m PlainWhat.Kill h = h
    under_back cs p j m (PlainWhat.Read base len) h = h
    under_back cs p j m (PlainWhat.Write base bytes) h = h
    under_back cs p j m (PlainWhat.Block bytes) h = h
    under_back cs p j m PlainWhat.Written h = h
    under_back cs p j m PlainWhat.Gone h = h
    under_back cs p j m PlainWhat.NoRoom h = h
    under_back cs p j m (PlainWhat.Move machine) h = h
    under_back cs p j m (PlainWhat.Moved outcome) h = h

-- the process there that is the twin of one here, the other way round
hand_back : (r : Renaming) (p : Pid) (a b : Option MoveNote) (u v : Option Life) (y : PlainProcess) → TwinNote r a b → TwinLife p (r p) u v → option_map_or (λ note. None) b (kernel.alive v) ≡ Some y
    → (x : PlainProcess) × (option_map_or (λ note. None) a (kernel.alive u) ≡ Some x) × TwinProcess (r p) x y
hand_back r p None None (Some (Alive x)) (Some (Alive z)) y n h e = (x, refl, subst (TwinProcess (r p) x) (some_same z y e) h)
hand_back r p None None (Some (Ended x)) (Some (Alive z)) y n h e = absurd h
hand_back r p None None None (Some (Alive z)) y n h e = absurd h
hand_back r p None None u (Some (Ended z)) y n h e = none_some y e
hand_back r p None None u None y n h e = none_some y e
hand_back r p (Some m) None u v y n h e = absurd n
hand_back r p a (Some m) u v y n h e = none_some y e

status_back : (f : ℕ → Option ℕ) (v : PlainStatus) → status_by f v ≡ Some Ready → v ≡ Ready
status_back f Ready e = refl
status_back f (Waiting mask base cap) e = absurd (let g : Waiting mask base cap ≡ Ready = some_same (Waiting mask base cap) Ready e in cc)
status_back f (Moving dir owner base own left pending) e = absurd (not_ready (f pending) e)
  where
    not_ready : (o : Option ℕ) → option_map (λ n. Moving dir owner base own left n) o ≡ Some Ready → ⊥
    not_ready None g = none_some Ready g
    not_ready (Some n) g = let k : Moving dir owner base own left n ≡ Ready = some_same (Moving dir owner base own left n) Ready g in absurd (cc)

running_back : (r : Renaming) (s k : OneKernel) (p : Pid) (y : PlainProcess) → Twins r s k → kernel.running k p ≡ Some y → (x : PlainProcess) × (kernel.running s p ≡ Some x)
running_back r s k p y twins e =
    let (z, hand, ready) = bind-is (kernel.at_hand k p) (λ (v : PlainProcess). kernel.if_ready v v.status) y e in
    let (status, stopped, same) = ready_is z y z.status ready in
    let (x, here, twin) = hand_back r p (s.notes p) (k.notes p) (s.processes p) (k.processes p) z (twins.notes p) (twins.processes p) hand in
    let st : x.status ≡ Ready = status_back (r p) x.status (twin.status ∙ ap Some status) in
    let still : x.stopped ≡ false = sym twin.stopped ∙ stopped in
    (x, ap (λ o. bind o (λ (v : PlainProcess). kernel.if_ready v v.status)) here ∙ ap (kernel.if_ready x) st ∙ ap (λ (b : Bool). if b then None else Some x) still)

ready_status : (st : PlainStatus) → st ≡ Ready → IsReady st
ready_status st e = subst IsReady (sym e) tt

hand_of : (s : OneKernel) (p : Pid) (x : PlainProcess) → kernel.running s p ≡ Some x → IsAtHand s p x
hand_of s p x e =
    let (z, hand, ready) = bind-is (kernel.at_hand s p) (λ (v : PlainProcess). kernel.if_ready v v.status) x e in
    let (status, stopped, same) = ready_is z x z.status ready in
    let (free, alive) = at_hand-is s p z hand in
    record { alive = alive ∙ ap (λ v. Some (Alive v)) same; free = free; ready = ready_status x.status (ap (λ (v : PlainProcess). v.status) (sym same) ∙ status) }

running_kept : (s u : OneKernel) (p : Pid) → u.processes p ≡ s.processes p → u.notes p ≡ s.notes p → kernel.running u p ≡ kernel.running s p
running_kept s u p e n = λ i. bind (option_map_or (λ note. None) (n i) (kernel.alive (e i))) (λ (x : PlainProcess). kernel.if_ready x x.status)

-- all labels of a process that executes are its acts
trap_acts : (p : Pid) (o : Option kernel.Trap) → AreActs p (trap_labels p o)
trap_acts p None = tt
trap_acts p (Some (kernel.Faults f)) = (refl, tt)
trap_acts p (Some (kernel.Calls n c)) = by_called c
  where
    by_called : (c : _) → AreActs p (called_labels p n c)
    by_called c = search arith

acts_if : (p : Pid) (b : Bool) (ls : List Label) → AreActs p ls → AreActs p (if b then [] else ls)
acts_if p true ls h = tt
acts_if p false ls h = h

execute_acts : (quantum : ℕ) (p : Pid) (x : PlainProcess) → AreActs p (execute_labels quantum p x)
execute_acts quantum p x =
    let r = kernel_ran quantum x in
    (refl, acts_if p (r.count == quantum) (trap_labels p (kernel.next_row p (kernel.with_machine x r.machine) (instruction r.machine.regs r.machine.bytes))) (trap_acts p (kernel.next_row p (kernel.with_machine x r.machine) (instruction r.machine.regs r.machine.bytes))))
  where
    kernel_ran : ℕ → PlainProcess → rule.Ran
    kernel_ran quantum x = rule.ran quantum (kernel.machine_of x)

-- what another process does isn't p's own
act_other : (s : OneKernel) (p q : Pid) (l : Label) → IsAct q l → pid_eq p q ≡ false → IsOwnStep s p l → ⊥
act_other s p q (Label.Ran z k) act apart own = false≢true (sym apart ∙ ap (λ v. pid_eq p v) (sym act ∙ own) ∙ pid_eq-same p)
act_other s p q (Label.Call z n c) act apart own = false≢true (sym apart ∙ ap (λ v. pid_eq p v) (sym act ∙ own) ∙ pid_eq-same p)
act_other s p q (Label.Send z id) act apart own = false≢true (sym apart ∙ ap (λ v. pid_eq p v) (sym act ∙ own) ∙ pid_eq-same p)
act_other s p q (Label.Wait z) act apart own = false≢true (sym apart ∙ ap (λ v. pid_eq p v) (sym act ∙ own) ∙ pid_eq-same p)
act_other s p q (Label.Out z w) act apart own = false≢true (sym apart ∙ ap (λ v. pid_eq p v) (sym act ∙ own) ∙ pid_eq-same p)
act_other s p q (Label.End z y) act apart own = false≢true (sym apart ∙ ap (λ v. pid_eq p v) (sym act ∙ own) ∙ pid_eq-same p)
act_other s p q _ act apart own = absurd act

acts_other : (ls : List Label) (s : OneKernel) (p q : Pid) → AreActs q ls → pid_eq p q ≡ false → NoneOwn s p ls
acts_other [] s p q acts apart = tt
acts_other (l ∷ ls) s p q acts apart = (act_other s p q l acts.0 apart, λ t e. acts_other ls t p q acts.1 apart)

act_true : (p : Pid) (l : Label) → IsAct p l → is_act l ≡ true
act_true p l h = search arith

with_sent_life : (s : OneKernel) (o : Option PlainMessage) (q : Pid) → (with_sent s o).processes q ≡ s.processes q
with_sent_life s None q = refl
with_sent_life s (Some m) q = refl

with_sent_note : (s : OneKernel) (o : Option PlainMessage) (q : Pid) → (with_sent s o).notes q ≡ s.notes q
with_sent_note s None q = refl
with_sent_note s (Some m) q = refl

-- a process's acts leave another as it is
acts_leave : (acts : List Label) (s t : OneKernel) (p q : Pid) → AreActs p acts → replay s acts ≡ Some t → pid_eq p q ≡ false → kernel.running t q ≡ kernel.running s q
acts_leave [] s t p q own is apart = ap (λ v. kernel.running v q) (sym (some_is s t is))
acts_leave (a ∷ as_) s t p q own is apart =
    let (w, first, rest) = bind-is (kernel.step s a) (λ (v : OneKernel). replay v as_) t is in
    let h = act_is s w p a own.0 first in
    let life : w.processes q ≡ s.processes q = ap (λ (v : OneKernel). v.processes q) h.is ∙ with_sent_life (with_process s p h.life) h.message q ∙ ap (λ (b : Bool). if b then Some h.life else s.processes q) apart in
    let note : w.notes q ≡ s.notes q = ap (λ (v : OneKernel). v.notes q) h.is ∙ with_sent_note (with_process s p h.life) h.message q in
    acts_leave as_ w t p q own.1 rest apart ∙ running_kept s w q life note

-- what isn't its own leaves a process that nobody can reach so, and as it is
pub record Through (t : OneKernel) (p : Pid) (x : PlainProcess) : Type 0 where
  pub runs : kernel.running t p ≡ Some x
  pub spared : IsSpared t p

still_of : (st : PlainStatus) → IsReady st → pending_of st ≡ None
still_of Ready h = refl
still_of (Waiting mask base cap) h = refl
still_of (Moving dir owner base own left pending) h = absurd h

through : (ls : List Label) (s t : OneKernel) (p : Pid) (x : PlainProcess) → Reached s → kernel.running s p ≡ Some x → IsSpared s p → NoneOwn s p ls → replay s ls ≡ Some t → Through t p x
through [] s t p x reached runs spared none is = let same = some_is s t is in record { runs = ap (λ v. kernel.running v p) (sym same) ∙ runs; spared = subst (λ v. IsSpared v p) same spared }
through (l ∷ ls) s t p x reached runs spared none is =
    let (w, first, rest) = bind-is (kernel.step s l) (λ (v : OneKernel). replay v ls) t is in
    let hand = hand_of s p x runs in
    let c = reached.receptions in
    let e = reached.entries in
    let life = alive_stays c e s w p x l reached.is.sound hand.alive hand.free none.0 first in
    let note = free_stays s w p l hand.free none.0 first ∙ sym hand.free in
    let spares = step_spares c e s w p x l (record { sound = reached.is.sound; fits = reached.is.fits; alive = hand.alive; still = still_of x.status hand.ready; spared = spared }) none.0 first in
    through ls w t p x (reached_on s w l reached first) (running_kept s w p life note ∙ runs) spares (none.1 w first) rest

-- a service is the process's, or not its own
pub record NotOwn (quantum : ℕ) (s s1 u : OneKernel) (p : Pid) (x : PlainProcess) (acts ls : List Label) : Type 0 where
  pub end : OneKernel
  pub service : IsService quantum s1 ls end
  pub acting : replay u acts ≡ Some end
  pub through_ : Through u p x

pub record Own (s1 u : OneKernel) (acts ls : List Label) : Type 0 where
  pub same : ls ≡ acts
  pub end : u ≡ s1

executes_or : (quantum : ℕ) (s s1 u : OneKernel) (p q : Pid) (x : PlainProcess) (acts ls : List Label) (b : Bool) → pid_eq p q ≡ b → Reached s → kernel.running s p ≡ Some x → IsSpared s p → acts ≡ execute_labels quantum p x → replay s acts ≡ Some s1 → Executes quantum s q ls u
    → Own s1 u acts ls ⊎ NotOwn quantum s s1 u p x acts ls
executes_or quantum s s1 u p q x acts ls true e reached runs spared labels leads h =
    let pq : p ≡ q = pid_eq-is p q e in
    let same : h.process ≡ x = some_same h.process x (sym h.runs ∙ ap (kernel.running s) (sym pq) ∙ runs) in
    let ls_is : ls ≡ acts = h.labels ∙ (λ i. execute_labels quantum (sym pq i) (same i)) ∙ sym labels in
    inl (record { same = ls_is; end = some_same u s1 (sym h.leads ∙ ap (replay s) ls_is ∙ leads) })
executes_or quantum s s1 u p q x acts ls false e reached runs spared labels leads h =
    let own : AreActs p acts = subst (AreActs p) (sym labels) (execute_acts quantum p x) in
    let none : NoneOwn s p ls = acts_other ls s p q (subst (AreActs q) (sym h.labels) (execute_acts quantum q h.process)) e in
    let both_ = go_first acts ls reached.receptions reached.entries s s1 u p reached.is.sound own leads none h.leads in
    inr (record {
      end = both_.end;
      service = inl (q, record { process = h.process; runs = acts_leave acts s s1 p q own leads e ∙ h.runs; labels = h.labels; leads = both_.run });
      acting = both_.acting;
      through_ = through ls s u p x reached runs spared none h.leads;
    })

service_or : (quantum : ℕ) (s s1 u : OneKernel) (p : Pid) (x : PlainProcess) (acts ls : List Label) → Reached s → kernel.running s p ≡ Some x → IsSpared s p → acts ≡ execute_labels quantum p x → replay s acts ≡ Some s1 → IsService quantum s ls u
    → Own s1 u acts ls ⊎ NotOwn quantum s s1 u p x acts ls
service_or quantum s s1 u p x acts ls reached runs spared labels leads (inl (q, h)) = executes_or quantum s s1 u p q x acts ls (pid_eq p q) refl reached runs spared labels leads h
service_or quantum s s1 u p x acts ls reached runs spared labels leads (inr h) =
    let own : AreActs p acts = subst (AreActs p) (sym labels) (execute_acts quantum p x) in
    let not_own : IsOwnStep s p h.one → ⊥ = λ mine. false≢true (sym h.other ∙ act_true p h.one (own_are_acts s u p x h.one (hand_of s p x runs) spared mine h.leads)) in
    let none : NoneOwn s p ls = subst (NoneOwn s p) (sym h.labels) (not_own, λ t e. tt) in
    let led = service_leads quantum s ls u (inr h) in
    let both_ = go_first acts ls reached.receptions reached.entries s s1 u p reached.is.sound own leads none led in
    let (w, first, last) = bind-is (kernel.step s1 h.one) (λ (v : OneKernel). replay v []) both_.end (ap (replay s1) (sym h.labels) ∙ both_.run) in
    inr (record {
      end = both_.end;
      service = inr (record { one = h.one; labels = h.labels; other = h.other; leads = first ∙ last });
      acting = both_.acting;
      through_ = through ls s u p x reached runs spared none led;
    })

-- a run beside what the process does first: the run has that too, and without it is shorter, or it can follow it
pub record Taken (quantum : ℕ) (asks : Label → Bool) (s1 : OneKernel) (acts : List Label) (run : List (List Label)) : Type 0 where
  pub others : List (List Label)
  pub end : OneKernel
  pub services : Services quantum s1 others end
  pub shorter : length run ≡ length others + 1
  pub asked : NoneAskedIn asks others → NoneAsked asks acts → NoneAskedIn asks run

pub record Follows (quantum : ℕ) (s1 : OneKernel) (run : List (List Label)) : Type 0 where
  pub end : OneKernel
  pub services : Services quantum s1 run end

longer : (m n : ℕ) → m ≡ n + 1 → m + 1 ≡ (n + 1) + 1
longer m n e = ap (λ k. k + 1) e

split : (run : List (List Label)) (quantum : ℕ) (asks : Label → Bool) (s s1 t : OneKernel) (p : Pid) (x : PlainProcess) (acts : List Label) → Reached s → kernel.running s p ≡ Some x → IsSpared s p → acts ≡ execute_labels quantum p x → replay s acts ≡ Some s1 → Services quantum s run t
    → Taken quantum asks s1 acts run ⊎ Follows quantum s1 run
split [] quantum asks s s1 t p x acts reached runs spared labels leads services = inr (record { end = s1; services = refl })
split (ls ∷ more) quantum asks s s1 t p x acts reached runs spared labels leads (u, service, rest) =
    elim (service_or quantum s s1 u p x acts ls reached runs spared labels leads service) [
      | inl h ↦ inl (record {
        others = more;
        end = t;
        services = subst (λ v. Services quantum v more t) h.end rest;
        shorter = omega arith;
        asked = λ k none. (subst (NoneAsked asks) (sym h.same) none, k);
      })
      | inr h ↦ go_on h (split more quantum asks u h.end t p x acts (reached_all ls s u reached (service_leads quantum s ls u service)) h.through_.runs h.through_.spared labels h.acting rest)
    ]
  where
    go_on : (h : NotOwn quantum s s1 u p x acts ls) → Taken quantum asks h.end acts more ⊎ Follows quantum h.end more → Taken quantum asks s1 acts (ls ∷ more) ⊎ Follows quantum s1 (ls ∷ more)
    go_on h (inl k) = inl (record {
      others = ls ∷ k.others;
      end = k.end;
      services = (h.end, h.service, k.services);
      shorter = let e = k.shorter in omega (arith, e);
      asked = λ others none. (others.0, k.asked others.1 none);
    })
    go_on h (inr k) = inr (record { end = k.end; services = (h.end, h.service, k.services) })

-- one renaming after another keeps the order
keeps_again : (r q : Renaming) → KeepsOrder r → KeepsOrder q → KeepsOrder (renamed_again r q)
keeps_again r q h k = record {
  order = λ p m n a b f g.
      let (c, first, second) = bind-is (r p m) (q p) a f in
      let (d, third, fourth) = bind-is (r p n) (q p) b g in
      h.order p m n c d first third ∙ k.order p c d a b second fourth;
}

-- what is claimed of a kernel from which a process goes alone, with so few services behind it
abbrev pub At : ℕ → (Label → Bool) → (ℕ → ℕ) → List OneKernel → ℕ → ℕ → List (List Label) → Type 0
At quantum asks rank ks n m path =
    (s v : OneKernel) (r : Renaming) (p : Pid) (run : List (List Label)) (t : OneKernel) → KeepsOrder r → Reached s → Twins r s v → GoesAlone quantum asks rank ks m p v path → Services quantum s run t → length run ≤ n → NoneAskedIn asks run

abbrev pub Claim : ℕ → (Label → Bool) → (ℕ → ℕ) → List OneKernel → ℕ → Type 0
Claim quantum asks rank ks n = (m : ℕ) (path : List (List Label)) → At quantum asks rank ks n m path

abbrev pub AllClosed : ℕ → (Label → Bool) → (ℕ → ℕ) → List OneKernel → Type 0
AllClosed quantum asks rank ks = (i : ℕ) (k : OneKernel) → slice_get ks i ≡ Some k → EachIsKept quantum asks ks k ⊎ OneGoes quantum asks rank ks (rank i) k

none_of_none : (quantum : ℕ) (asks : Label → Bool) (run : List (List Label)) → length run ≤ 0 → NoneAskedIn asks run
none_of_none quantum asks [] le = tt
none_of_none quantum asks (ls ∷ more) le = absurd (omega (arith, le))

-- from the twin of a kept kernel
at_kept : (quantum : ℕ) (asks : Label → Bool) (rank : ℕ → ℕ) (ks : List OneKernel) (n m : ℕ) → IsNameless asks → AllClosed quantum asks rank ks → Claim quantum asks rank ks n → ((j : ℕ) → j < m → (path : List (List Label)) → At quantum asks rank ks (n + 1) j path)
    → (i : ℕ) (k : OneKernel) → slice_get ks i ≡ Some k → rank i < m → (s : OneKernel) (r : Renaming) (run : List (List Label)) (t : OneKernel) → KeepsOrder r → Reached s → Twins r s k → Services quantum s run t → length run ≤ n + 1 → NoneAskedIn asks run
at_kept quantum asks rank ks n m same closed ih lower i k here less s r run t keeps reached twins services len = elim (closed i k here) [
  | inl full ↦ by_each full run services len
  | inr one ↦ lower (rank i) less one.services s k r one.process run t keeps reached twins one.goes services len
]
  where
    by_each : EachIsKept quantum asks ks k → (ys : List (List Label)) → Services quantum s ys t → length ys ≤ n + 1 → NoneAskedIn asks ys
    by_each full [] sv le = tt
    by_each full (ls ∷ more) (u, service, rest) le =
        let w = twin_service quantum r s k u ls keeps reached twins service in
        let kept = full.each w.labels w.kernel w.service in
        let first = none_asked asks r ls w.labels same w.say kept.0 in
        let leads = kept.1 in
        let after = reached_all ls s u reached (service_leads quantum s ls u service) in
        (first, ih (rank leads.index + 1) [] u w.kernel r manager more t keeps after w.twins (record { leads = leads; below = omega arith }) rest (omega (arith, le)))

at_path : (quantum : ℕ) (asks : Label → Bool) (rank : ℕ → ℕ) (ks : List OneKernel) (n m : ℕ) → IsNameless asks → AllClosed quantum asks rank ks → Claim quantum asks rank ks n → ((j : ℕ) → j < m → (path : List (List Label)) → At quantum asks rank ks (n + 1) j path)
    → (path : List (List Label)) → At quantum asks rank ks (n + 1) m path
at_path quantum asks rank ks n m same closed ih lower [] s v r p run t keeps reached twins goes services len =
    at_kept quantum asks rank ks n m same closed ih lower goes.leads.index goes.leads.kept goes.leads.here goes.below s (renamed_again r goes.leads.renaming) run t (keeps_again r goes.leads.renaming keeps goes.leads.keeps) reached
    (twins_of_twins r goes.leads.renaming s v goes.leads.kept twins goes.leads.twins) services len
at_path quantum asks rank ks n m same closed ih lower (ls ∷ path) s v r p run t keeps reached twins (spared, none, (w, ex, rest)) services len =
    let (x, runs) = running_back r s v p ex.process twins ex.runs in
    let y = twin_running r s v p x twins runs in
    let acts = execute_labels quantum p x in
    let can = can_execute quantum s p x runs in
    let twin = run_twin r s v can.end acts keeps reached twins can.is in
    let same_process : y.process ≡ ex.process = some_same y.process ex.process (sym y.is ∙ ex.runs) in
    let say : SayAll r acts ls = subst (SayAll r acts) (ap (execute_labels quantum p) same_process ∙ sym ex.labels) (execute_say r quantum p x y.process y.twin) in
    let labels : twin.labels ≡ ls = all_one r acts twin.labels ls twin.say say in
    let end : twin.kernel ≡ w = some_same twin.kernel w (sym twin.replays ∙ ap (replay v) labels ∙ ex.leads) in
    let twins1 : Twins r can.end w = subst (Twins r can.end) end twin.twins in
    let quiet : NoneAsked asks acts = none_asked asks r acts ls same say none in
    let after = reached_all acts s can.end reached can.is in
    let here = spared_back r s v p twins spared in
    elim (split run quantum asks s can.end t p x acts reached runs here refl can.is services) [
      | inl k ↦ k.asked (ih m path can.end w r p k.others k.end keeps after twins1 rest k.services (let e = k.shorter in omega (arith, e, len))) quiet
      | inr k ↦ at_path quantum asks rank ks n m same closed ih lower path can.end w r p run k.end keeps after twins1 rest k.services len
    ]

below_rank : (quantum : ℕ) (asks : Label → Bool) (rank : ℕ → ℕ) (ks : List OneKernel) (n : ℕ) → IsNameless asks → AllClosed quantum asks rank ks → Claim quantum asks rank ks n → (m j : ℕ) → j < m → (path : List (List Label)) → At quantum asks rank ks (n + 1) j path
below_rank quantum asks rank ks n same closed ih zero j lt path = absurd (omega (arith, lt))
below_rank quantum asks rank ks n same closed ih (suc m) j lt path = at_path quantum asks rank ks n j same closed ih (λ i less q. below_rank quantum asks rank ks n same closed ih m i (omega (arith, less, lt)) q) path

claim : (quantum : ℕ) (asks : Label → Bool) (rank : ℕ → ℕ) (ks : List OneKernel) → IsNameless asks → AllClosed quantum asks rank ks → (n : ℕ) → Claim quantum asks rank ks n
claim quantum asks rank ks same closed zero m path s v r p run t keeps reached twins goes services len = none_of_none quantum asks run len
claim quantum asks rank ks same closed (suc n) m path s v r p run t keeps reached twins goes services len =
    let ih = claim quantum asks rank ks same closed n in
    at_path quantum asks rank ks n m same closed ih (λ j lt q. below_rank quantum asks rank ks n same closed ih m j lt q) path s v r p run t keeps reached twins goes services (let e : suc n ≡ n + 1 = omega arith in omega (arith, len, e))

pub closed_is_never : ClosedIsNever
closed_is_never b asks rank ks run t valid same closed services =
    let leads = closed.begins in
    let n = length run in
    let ih = claim b.quantum asks rank ks same closed.each n in
    let m = rank leads.index + 1 in
    let begun : Reached (start b) = record { receptions = λ i. 0; entries = λ i. 0; is = record { sound = start-sound b valid; order = refl; fits = start_fits b valid } } in
    at_kept b.quantum asks rank ks n m same closed.each ih (λ j lt q. below_rank b.quantum asks rank ks n same closed.each ih m j lt q) leads.index leads.kept leads.here (omega arith) (start b) leads.renaming run t leads.keeps begun leads.twins services (omega arith)
