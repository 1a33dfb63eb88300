-- Each label keeps addresses where they may be, as at homes, and what it does to the rings too.
use Rattle.dm_law_rule.proofs.Names.{◌≡◌, ℕ, ◌==◌, ◌&&◌, Bool, true, false, not, List, [], ◌∷◌, ◌++◌, refl, ap, ◌∙◌, arith, ⊤, if◌then◌else◌, filter, Some, nat_tests, Pid, Place, pid_eq, Label, OneKernel, Why, at_machine, at_record, nobody}
use Rattle.dm_law_rule.proofs.Names.{without, View, Known, Frozen, Incoming, Forward, Addresses, given, gives, acting_place, are_home, and_parts, bind-is}
use Rattle.dm_law_rule.proofs.Homes.{IsHome, AtHome}
use Rattle.dm_law_rule.proofs.Homes.Steps.{ran_home, call_home, send_home, end_row, wait_home, out_home}
use Rattle.dm_law_rule.proofs.Homes.Receives.{receive_home, refuse_home}
use Rattle.dm_law_rule.proofs.Homes.Serves.{Named, ReceivedAt, ServedAt, EndedAt, dropped_home, gone_home, no_space_home, served_home, created_home, AnsweredAt, asked_home, answered_home}
use Rattle.dm_law_rule.proofs.Homes.Manager.{took_home}
use Rattle.dm_onekernel.specs.Step as kernel

-- a label is said where its process is at home, or where its message's receiver is
abbrev pub SaidAt : OneKernel → ℕ → Label → Type 0
SaidAt s m (Label.Ran p k) = p.home ≡ m
SaidAt s m (Label.Call p n c) = p.home ≡ m
SaidAt s m (Label.Send p id) = p.home ≡ m
SaidAt s m (Label.Wait p) = p.home ≡ m
SaidAt s m (Label.Out p w) = p.home ≡ m
SaidAt s m (Label.End p y) = p.home ≡ m
SaidAt s m (Label.Receive p id) = p.home ≡ m
SaidAt s m (Label.Refuse p id c) = p.home ≡ m
SaidAt s m (Label.Dropped id) = ⊤
SaidAt s m (Label.Served id) = ReceivedAt s m id
SaidAt s m (Label.Gone id) = ReceivedAt s m id
SaidAt s m (Label.Took id) = ReceivedAt s m id
SaidAt s m (Label.Created id child) = ReceivedAt s m id × (child.home ≡ m)
SaidAt s m (Label.NoSpace id f b) = ReceivedAt s m id
SaidAt s m (Label.Asked id) = ⊤
SaidAt s m (Label.Answered id o) = (p : Pid) → s.noted id ≡ Some p → p.home ≡ m

-- a label is said where its process is, where its message's receiver is or has ended, or at a kernel's home
abbrev pub SaidOn : (Pid → Place → Type 0) → OneKernel → View → Addresses → Label → Type 0
SaidOn P s v a (Label.Call p n c) = P p (acting_place v p)
SaidOn P s v a (Label.Send p id) = P p (acting_place v p)
SaidOn P s v a (Label.Wait p) = P p (acting_place v p)
SaidOn P s v a (Label.Out p w) = P p (acting_place v p)
SaidOn P s v a (Label.Served id) = ServedAt P s v id
SaidOn P s v a (Label.Gone id) = EndedAt P s v a id
SaidOn P s v a (Label.Took id) = ServedAt P s v id
SaidOn P s v a (Label.Created id child) = ReceivedAt s v.acting id
SaidOn P s v a (Label.NoSpace id f b) = ReceivedAt s v.acting id
SaidOn P s v a (Label.Answered id o) = AnsweredAt P s v id
SaidOn P s v a _ = ⊤

-- each label keeps addresses where they may be
pub label_on : (P : Pid → Place → Type 0) (s t : OneKernel) (v : View) (a : Addresses) (l : Label) → kernel.step s l ≡ Some t → Named s → SaidOn P s v a l → AtHome P s a → AtHome P t (given a (gives s v a l))
label_on P s t v a (Label.Ran p k) is named at h = ran_home P s t v a p k is h
label_on P s t v a (Label.Call p n c) is named at h = call_home P s t v a p n c is at h
label_on P s t v a (Label.Send p id) is named at h = send_home P s t v a p id is at h
label_on P s t v a (Label.Wait p) is named at h = wait_home P s t v a p is at h
label_on P s t v a (Label.Out p w) is named at h = out_home P s t v a p w is at h
label_on P s t v a (Label.End p y) is named at h =
    let end_home : (P : Pid → Place → Type 0) (s t : OneKernel) (a : Addresses) (p : Pid) (y : Why) → kernel.step s (Label.End p y) ≡ Some t → AtHome P s a → AtHome P t a =
    λ P s t a p y is h. let (x, next, rest) = bind-is (kernel.next_trap s p) (kernel.ends s p y) t is in end_row P s t a p y x rest h in
    end_home P s t a p y is h
label_on P s t v a (Label.Receive p id) is named at h = receive_home P s t v a p id is h
label_on P s t v a (Label.Refuse p id c) is named at h = refuse_home P s t a p id c is h
label_on P s t v a (Label.Dropped id) is named at h = dropped_home P s t a id is h
label_on P s t v a (Label.Served id) is named at h = served_home P s t v a id is named at h
label_on P s t v a (Label.Gone id) is named at h = gone_home P s t v a id is named at h
label_on P s t v a (Label.Took id) is named at h = took_home P s t v a id is named at h
label_on P s t v a (Label.Created id child) is named at h = created_home P s t v a id child is named at h
label_on P s t v a (Label.NoSpace id f b) is named at h = no_space_home P s t v a id f b is named at h
label_on P s t v a (Label.Asked id) is named at h = asked_home P s t v a id is h
label_on P s t v a (Label.Answered id o) is named at h = answered_home P s t v a id o is at h

pub label_home : (s t : OneKernel) (v : View) (a : Addresses) (l : Label) → kernel.step s l ≡ Some t → Named s → ((q : Pid) → v.moves q ≡ 0) → SaidAt s v.acting l → AtHome IsHome s a → AtHome IsHome t (given a (gives s v a l))
label_home s t v a l is named still at h =
    -- as long as nothing moves
    let said_home : (s : OneKernel) (v : View) (a : Addresses) (l : Label) → ((q : Pid) → v.moves q ≡ 0) → SaidAt s v.acting l → AtHome IsHome s a → SaidOn IsHome s v a l = λ s v a l h1 h2 h3. search arith in
    label_on IsHome s t v a l is named (said_home s v a l still at h) h

filter_home : (m : ℕ) (ps : List Pid) (f : Pid → Bool) → are_home m ps ≡ true → are_home m (filter f ps) ≡ true
filter_home m [] f h = refl
filter_home m (p ∷ ps) f h =
    let k = and_parts (p.home == m) (are_home m ps) h in
    (elim (f p) as (λ b. are_home m (if b then p ∷ (filter f ps) else (filter f ps)) ≡ true)
    [ true ↦ ap (λ (c : Bool). c && are_home m (filter f ps)) k.0 ∙ (filter_home m ps f k.1) | false ↦ (filter_home m ps f k.1) ])

pub without_home : (m : ℕ) (p : Pid) (ps : List Pid) → are_home m ps ≡ true → are_home m (without p ps) ≡ true
without_home m p ps h = filter_home m ps (λ q. not (pid_eq p q)) h

pub joins_home : (m : ℕ) (p : Pid) (ps : List Pid) → p.home ≡ m → are_home m ps ≡ true → are_home m (ps ++ p ∷ []) ≡ true
joins_home m p [] e h = grind (arith, nat_tests)
joins_home m p (q ∷ qs) e h = let k = and_parts (q.home == m) (are_home m qs) h in ap (λ (c : Bool). c && are_home m (qs ++ p ∷ [])) k.0 ∙ joins_home m p qs e k.1

-- what a machine knows of a process as long as nothing moves
abbrev pub is_still : Known → Bool
is_still (Frozen to) = false
is_still (Incoming from) = false
is_still (Forward at moves) = false
is_still _ = true

-- rings whose processes are at home, and no process has moved
pub record RingsHome (v : View) : Type 0 where
  pub moves : (p : Pid) → v.moves p ≡ 0
  pub ring : (m : ℕ) → are_home m (v.ring m) ≡ true
  pub known : (m : ℕ) (p : Pid) → is_still (v.known m p) ≡ true
  -- so no machine forwards to another
  pub preds : (m n : ℕ) (p : Pid) → v.preds m p n ≡ false

pub known_set : (v : View) (a : ℕ) (p : Pid) (k : Known) → is_still k ≡ true → RingsHome v → (m : ℕ) (q : Pid) → is_still (at_record v.known a p k m q) ≡ true
known_set v a p k h r m q = elim ((a == m) && pid_eq p q) as (λ b. is_still (if b then k else (v.known m q)) ≡ true) [ true ↦ h | false ↦ (r.known m q) ]

pub preds_none : (v : View) (a : ℕ) (p : Pid) → RingsHome v → (m n : ℕ) (q : Pid) → at_record v.preds a p nobody m q n ≡ false
preds_none v a p r m n q = elim ((a == m) && pid_eq p q) as (λ b. (if b then nobody else v.preds m q) n ≡ false) [ true ↦ refl | false ↦ r.preds m n q ]

pub rings_set : (v w : View) (ps : List Pid) → w.moves ≡ v.moves → w.ring ≡ at_machine v.ring v.acting ps → ((m : ℕ) (p : Pid) → is_still (w.known m p) ≡ true) → ((m n : ℕ) (p : Pid) → w.preds m p n ≡ false) → are_home v.acting ps ≡ true → RingsHome v → RingsHome w
rings_set v w ps moves ring known preds h k = record {
  known = known;
  preds = preds;
  moves = λ p. ap (λ (f : Pid → ℕ). f p) moves ∙ k.moves p;
  ring = λ m. ap (λ (f : ℕ → List Pid). are_home m (f m)) ring ∙ (search arith);
}

pub rings_same : (v w : View) → w.moves ≡ v.moves → w.ring ≡ v.ring → w.known ≡ v.known → w.preds ≡ v.preds → RingsHome v → RingsHome w
rings_same v w moves ring known preds k = search arith
