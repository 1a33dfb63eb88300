-- What is known of the process that an event is about.
use Rattle.dm_kernel.proofs.Names.{◌≡◌, ◌∙◌, Bool, true, false, if◌then◌else◌, refl, ap, sym, subst, Some, None, IsSome, rules, Option, IfSome, Pid, pid_eq, pid_eq_same, pid_eq_self, is_runnable, IsServiceOf, Service, Process, HasTaken, ℕ}
use Rattle.dm_kernel.proofs.Names.{Taken, Here, Frozen, Incoming, Forward, process_in, with_record, bind, KernelState, KernelKnown, Turned, blocks_of, with_here, CanTellAll, MayAct, IsHere, Serves, known_is_runnable}
use Rattle.dm_resident.specs.declared.Resident.TheVariants as resident

-- what holds of it
pub is_here : (P : Process → Type 0) (o : Option KernelKnown) (x : Process) → process_in o ≡ Some x → IsHere P o → P x
is_here P None x e h = absurd h
is_here P (Some (Here (resident.Process y))) x e h = let same : y ≡ x = cc in subst P same h
is_here P (Some (Here (resident.Board v))) x e h = absurd h
is_here P (Some (Here (resident.Manager v))) x e h = absurd h
is_here P (Some (Frozen leaving)) x e h = absurd h
is_here P (Some (Incoming arriving)) x e h = absurd h
is_here P (Some (Forward machine moves)) x e h = absurd h

-- what follows for the process that is here
pub here_as : (P Q : Process → Type 0) (o : Option KernelKnown) → ((x : Process) → P x → Q x) → IsHere P o → IsHere Q o
here_as P Q None go h = absurd h
here_as P Q (Some (Here (resident.Process x))) go h = go x h
here_as P Q (Some (Here (resident.Board v))) go h = absurd h
here_as P Q (Some (Here (resident.Manager v))) go h = absurd h
here_as P Q (Some (Frozen leaving)) go h = absurd h
here_as P Q (Some (Incoming arriving)) go h = absurd h
here_as P Q (Some (Forward machine moves)) go h = absurd h

pub is_here_as : (P : Process → Type 0) (o : Option KernelKnown) (x : Process) → process_in o ≡ Some x → P x → IsHere P o
is_here_as P None x e h = absurd (cc)
is_here_as P (Some (Here (resident.Process y))) x e h = let same : x ≡ y = cc in subst P same h
is_here_as P (Some (Here (resident.Board v))) x e h = absurd (cc)
is_here_as P (Some (Here (resident.Manager v))) x e h = absurd (cc)
is_here_as P (Some (Frozen leaving)) x e h = absurd (cc)
is_here_as P (Some (Incoming arriving)) x e h = absurd (cc)
is_here_as P (Some (Forward machine moves)) x e h = absurd (cc)

-- whether it can be served goes by the process that is here
pub here_runs : (o : Option KernelKnown) (x : Process) → process_in o ≡ Some x → known_is_runnable o ≡ is_runnable x
here_runs None x e = absurd (cc)
here_runs (Some (Here (resident.Process y))) x e = let same : y ≡ x = cc in ap is_runnable same
here_runs (Some (Here (resident.Board v))) x e = absurd (cc)
here_runs (Some (Here (resident.Manager v))) x e = absurd (cc)
here_runs (Some (Frozen leaving)) x e = absurd (cc)
here_runs (Some (Incoming arriving)) x e = absurd (cc)
here_runs (Some (Forward machine moves)) x e = absurd (cc)

pub none_runs : (o : Option KernelKnown) → process_in o ≡ None → known_is_runnable o ≡ false
none_runs None e = refl
none_runs (Some (Here (resident.Process y))) e = absurd (cc)
none_runs (Some (Here (resident.Board v))) e = refl
none_runs (Some (Here (resident.Manager v))) e = refl
none_runs (Some (Frozen leaving)) e = refl
none_runs (Some (Incoming arriving)) e = refl
none_runs (Some (Forward machine moves)) e = refl

-- a process that is set as it is there changes nothing
is_known : (o : Option KernelKnown) (x : Process) → process_in o ≡ Some x → Some (Here (resident.Process x)) ≡ o
is_known None x e = absurd (cc)
is_known (Some (Here (resident.Process y))) x e = let same : y ≡ x = cc in ap (λ (x : Process). Some (Here (resident.Process x))) (sym same)
is_known (Some (Here (resident.Board v))) x e = absurd (cc)
is_known (Some (Here (resident.Manager v))) x e = absurd (cc)
is_known (Some (Frozen leaving)) x e = absurd (cc)
is_known (Some (Incoming arriving)) x e = absurd (cc)
is_known (Some (Forward machine moves)) x e = absurd (cc)

set_or_not : (same : Bool) (k o : Option KernelKnown) → (same ≡ true → k ≡ o) → (if same then k else o) ≡ o
set_or_not true k o e = e refl
set_or_not false k o e = refl

-- a record that is set as it was
pub set_same : (records : Pid → Option KernelKnown) (n : Option KernelKnown) (p q : Pid) (k : KernelKnown) → records p ≡ Some k → n ≡ with_record records p k q → n ≡ records q
set_same records n p q k is e = e ∙ set_or_not (pid_eq p q) (Some k) (records q) (λ same. sym is ∙ ap records (pid_eq_same p q same))

pub set_again : (records : Pid → Option KernelKnown) (p : Pid) (x : Process) → process_in (records p) ≡ Some x → (q : Pid) → with_record records p (Here (resident.Process x)) q ≡ records q
set_again records p x e q =
    set_or_not (pid_eq p q) (Some (Here (resident.Process x))) (records q) (λ same. is_known (records p) x e ∙ ap records (pid_eq_same p q same))

-- nothing of the room changes
pub acts_still : (s t : KernelState) (p : Pid) (x : Process) → t.room ≡ s.room → MayAct s p x → MayAct t p x
acts_still s t p x room m =
    let P : Taken → Type 0 = λ r. HasTaken r (blocks_of x) in
    record { pid = m.pid; named = m.named; lawful = m.lawful; sent = m.sent; room = subst P (sym room) m.room }

pub holds_at : (P : Pid → Type 0) (o : Option Pid) (p : Pid) → o ≡ Some p → IfSome o P → P p
holds_at P None p e h = absurd (cc)
holds_at P (Some q) p e h = let same : q ≡ p = cc in subst P same h

-- it can be served so
pub can_serve : (s t : KernelState) (p : Pid) (service : Service) (o : Option KernelKnown) → t.room ≡ s.room → CanTellAll t → ((x : Process) → o ≡ Some (Here (resident.Process x)) → MayAct s p x) → IsHere (λ x. IsServiceOf x service) o
    → IsHere (Serves t p service) o
can_serve s t p service None room sent may h = absurd h
can_serve s t p service (Some (Here (resident.Process x))) room sent may h = record { acts = acts_still s t p x room (may x refl); sent = sent; does = h }
can_serve s t p service (Some (Here (resident.Board v))) room sent may h = absurd h
can_serve s t p service (Some (Here (resident.Manager v))) room sent may h = absurd h
can_serve s t p service (Some (Frozen leaving)) room sent may h = absurd h
can_serve s t p service (Some (Incoming arriving)) room sent may h = absurd h
can_serve s t p service (Some (Forward machine moves)) room sent may h = absurd h

-- a state with these records and predecessors
pub same_places : (s : KernelState) (records r : Pid → Option KernelKnown) (preds d : Pid → ℕ → Bool) → ((q : Pid) → records q ≡ r q) → ((q : Pid) (n : ℕ) → preds q n ≡ d q n)
    → record s { records = records; preds = preds } ≡ record s { records = r; preds = d }
same_places s records r preds d e f = λ i. record s { records = λ q. e q i; preds = λ q n. f q n i }

-- a state with the same records
pub same_state : (s : KernelState) (records : Pid → Option KernelKnown) (preds : Pid → ℕ → Bool) → ((q : Pid) → records q ≡ s.records q) → ((q : Pid) (n : ℕ) → preds q n ≡ s.preds q n)
    → record s { records = records; preds = preds } ≡ s
same_state s records preds e f = same_places s records s.records preds s.preds e f

-- the process p is set to x
pub sets : (s : KernelState) (p : Pid) (x : Process) (records : Pid → Option KernelKnown) (preds : Pid → ℕ → Bool) → ((q : Pid) → records q ≡ with_record s.records p (Here (resident.Process x)) q) → ((q : Pid) (n : ℕ) → preds q n ≡ s.preds q n)
    → record s { records = records; preds = preds } ≡ with_here s p x
sets s p x records preds e f = same_places s records (with_record s.records p (Here (resident.Process x))) preds s.preds e f

pub there : (s : KernelState) (p : Pid) (x : Process) → process_in ((with_here s p x).records p) ≡ Some x
there s p x = rw (pid_eq_self p) refl

-- what follows of the process that is here
pub of_here : (o : Option Process) (x : Process) (go : Process → Option Turned) → o ≡ Some x → bind o go ≡ go x
of_here o x go e = ap (λ o. bind o go) e

pub has_some : {X : Type 0} (o : Option X) (x : X) → o ≡ Some x → IsSome o
has_some o x e = rw e (search rules)
