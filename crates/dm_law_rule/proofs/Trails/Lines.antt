-- Lines that give addresses beside the kernel keep each on its trail: a message that is forwarded, messages that are sent on, an
-- update, and the first put of a kernel's own message.
use Rattle.dm_law_rule.proofs.Names.{◌≡◌, ℕ, ◌+◌, ◌≤◌, ◌&&◌, Bool, true, false, List, [], ◌∷◌, ◌++◌, refl, ap, sym, subst, inl, inr, arith, nat_lt, if◌then◌else◌, slice_get, Option, None, Some, cases_Bool, false≢true, Pid, Place, MsgId, id_eq}
use Rattle.dm_law_rule.proofs.Names.{MessageKind, manager, OneKernel, pid_eq-is, id_eq-same, View, Told, About, Known, Frozen, Incoming, Forward, is_kernels, own_id, Addresses, Holder, Receiver, Sender, given, place_known, all_follow}
use Rattle.dm_law_rule.proofs.Names.{is_told_back, told_back_gets, forwards, place_told, belongs_to, leads_to, is_behind, updated_to, updated, names, times, Trails, Trail, IsOn, AddressesOn, OwnOn, nat_tests, and_parts, option_map_or, pid_eq}
use Rattle.dm_law_rule.proofs.Once.{one_of}
use Rattle.dm_law_rule.proofs.Trails.Places.{Goes, Comes, Named, Links, Owns, AllAre, AllGet, given_on, all_grown}

-- all of them are on their trails, and each kind of holder's are
pub all_are : (s : OneKernel) (v : View) (a : Addresses) (t : Trails) → AddressesOn s a t → OwnOn v a t → AllAre s v a t
all_are s v a t h1 h2 = search arith

pub links_are : (s : OneKernel) (v : View) (a : Addresses) (t : Trails) → AllAre s v a t → AddressesOn s a t
links_are s v a t h g q e = h g q (Links e)

pub receivers_are : (s : OneKernel) (v : View) (a : Addresses) (t : Trails) → AllAre s v a t → (i : MsgId) (u : Told) → is_kernels i ≡ true → v.told i ≡ Some u → IsOn t u.receiver (a (Receiver i))
receivers_are s v a t h i u k told = h (Receiver i) u.receiver (Owns (Goes i u refl k told refl))

pub senders_are : (s : OneKernel) (v : View) (a : Addresses) (t : Trails) → AllAre s v a t → (i : MsgId) (u : Told) → is_kernels i ≡ true → v.told i ≡ Some u → u.kind ≡ MessageKind.Migrate → IsOn t manager (a (Sender i))
senders_are s v a t h i u mine told k = h (Sender i) manager (Owns (Comes i u refl mine told k refl))

pub unnamed_receiver : (s : OneKernel) (v : View) (i : MsgId) (q : Pid) → s.bag i ≡ None → v.told i ≡ None → Named s v (Receiver i) q → ⊥
unnamed_receiver s v i q h1 h2 h3 = search arith

pub unnamed_sender : (s : OneKernel) (v : View) (i : MsgId) (q : Pid) → s.bag i ≡ None → v.told i ≡ None → Named s v (Sender i) q → ⊥
unnamed_sender s v i q h1 h2 h3 = search arith

pub forwarded_all : {lives : Bool} (s : OneKernel) (v : View) (a : Addresses) (t : Trails) (id : MsgId) (u : Told) (d n : ℕ) → v.told id ≡ Some u → v.known v.acting u.receiver ≡ Forward d n → ((q : Pid) → Named s v (Receiver id) q → q ≡ u.receiver)
    → s.bag (own_id v) ≡ None → v.told (own_id v) ≡ None → Trail lives v t u.receiver → AllAre s v a t → AllAre s v (given a (forwards v a id (v.told id))) t
forwarded_all s v a t id u d n told at for bag fresh trail h =
    subst (λ (o : Option Told). AllAre s v (given a (forwards v a id o)) t) (sym told)
    (given_on s v a t (forwards v a id (Some u)) h (
      (λ q e. let is : q ≡ u.receiver = for q e in
          subst (λ (x : Known). IsOn t q (place_known x (v.moves u.receiver) (a (Receiver id)))) (sym at)
          (subst (λ (p : Pid). slice_get (t p) n ≡ Some d) (sym is) (trail.named v.acting d n at))),
      (elim (is_told_back u.kind) as (λ b. AllGet s v t (told_back_gets v a id b))
          [ true ↦ ((λ q e. absurd (unnamed_receiver s v (own_id v) q bag fresh e)), ((λ q e. absurd (unnamed_sender s v (own_id v) q bag fresh e)), tt)) | false ↦ tt ]),
    ))

-- the update goes to where the message came from
pub forwarded_back : (v : View) (a : Addresses) (id : MsgId) (u : Told) → v.told id ≡ Some u → id_eq id (own_id v) ≡ false → is_told_back u.kind ≡ true → given a (forwards v a id (v.told id)) (Receiver (own_id v)) ≡ a (Sender id)
forwarded_back v a id u told other back = grind (arith, nat_tests, id_eq-same)

-- messages of a process follow it to a place of its trail
follow_gets : (s : OneKernel) (v : View) (a : Addresses) (t : Trails) (p : Pid) (ids : List MsgId) → ((place : Place) → IsOn t p (place_known (v.known v.acting p) (v.moves p) place)) → ((i : MsgId) (q : Pid) → 1 ≤ times i ids → Named s v (Receiver i) q → q ≡ p) → AllGet s v t (all_follow v a p ids)
follow_gets s v a t p [] on for = tt
follow_gets s v a t p (i ∷ is) on for = (
  (λ q e. let same : q ≡ p = for i q first e in
      subst (λ (r : Pid). IsOn t r (place_known (v.known v.acting p) (v.moves p) (a (Receiver i)))) (sym same) (on (a (Receiver i)))),
  follow_gets s v a t p is on (λ j q least. for j q (more j least)),
)
  where
    first : 1 ≤ times i (i ∷ is)
    first = let e : one_of i i ≡ 1 = ap (λ (c : Bool). if c then 1 else 0) (id_eq-same i) in omega (arith, e)

    more : (j : MsgId) → 1 ≤ times j is → 1 ≤ times j (i ∷ is)
    more j least = omega (arith, least)

-- its messages are sent on to where a process goes
pub sent_on_all : (s : OneKernel) (v : View) (a : Addresses) (t u : Trails) (p : Pid) (d : ℕ) (ids : List MsgId) → v.known v.acting p ≡ Frozen d → ((q : Pid) → (ds : List ℕ) × (u q ≡ t q ++ ds)) → slice_get (u p) (v.moves p + 1) ≡ Some d
    → ((i : MsgId) (q : Pid) → 1 ≤ times i ids → Named s v (Receiver i) q → q ≡ p) → AllAre s v a t → AllAre s v (given a (all_follow v a p ids)) u
sent_on_all s v a t u p d ids at grows last for h =
    given_on s v a u (all_follow v a p ids) (all_grown s v a t u grows h) (follow_gets s v a u p ids (λ place. subst (λ (x : Known). IsOn u p (place_known x (v.moves p) place)) (sym at) last) for)

-- and what was held goes back to where it stands
pub called_all : (s : OneKernel) (v : View) (a : Addresses) (t : Trails) (p : Pid) (from : ℕ) (ids : List MsgId) → v.known v.acting p ≡ Incoming from → slice_get (t p) (v.moves p) ≡ Some from
    → ((i : MsgId) (q : Pid) → 1 ≤ times i ids → Named s v (Receiver i) q → q ≡ p) → AllAre s v a t → AllAre s v (given a (all_follow v a p ids)) t
called_all s v a t p from ids comes at for h = given_on s v a t (all_follow v a p ids) h (follow_gets s v a t p ids (λ place. subst (λ (x : Known). IsOn t p (place_known x (v.moves p) place)) (sym comes) at) for)

-- an update
pub pid_there : (p : Pid) (o : Option Pid) → (option_map_or (pid_eq p) o false) ≡ true → o ≡ Some p
pid_there p None e = absurd (false≢true e)
pid_there p (Some q) e = ap Some (sym (pid_eq-is p q e))

pub leads_where : (s : OneKernel) (v : View) (h : Holder) (p q : Pid) → leads_to s h ≡ Some p → Named s v h q → p ≡ q
leads_where s v h p q h1 h2 = let leads_names : (s : OneKernel) (h : Holder) (p : Pid) → leads_to s h ≡ Some p → names s h ≡ Some p = λ s h p h1. search arith in search (arith, leads_names)

pub behind_where : (s : OneKernel) (a : Addresses) (q p : Pid) (n : ℕ) (h : Holder) → is_behind s a q p n h ≡ true → leads_to s h ≡ Some p
behind_where s a q p n h e =
    let y = and_parts (option_map_or (pid_eq p) (leads_to s h) false) (nat_lt (a h).moves n) (and_parts (belongs_to q h) ((option_map_or (pid_eq p) (leads_to s h) false) && nat_lt (a h).moves n) e).1 in pid_there p (leads_to s h) y.0

update_by : (s : OneKernel) (v : View) (a : Addresses) (t : Trails) (r p : Pid) (place : Place) → IsOn t p place → AllAre s v a t → AllAre s v (updated_to s a (Some r) (Some (p, place))) t
update_by s v a t r p place on h g q e = elim (cases_Bool (is_behind s a r p place.moves g)) [
  | inl yes_ ↦
      subst (IsOn t q) (sym (ap (λ (c : Bool). if c then place else a g) yes_))
      (subst (λ (x : Pid). IsOn t x place) (leads_where s v g p q (behind_where s a r p place.moves g yes_) e) on)
  | inr not_ ↦ subst (IsOn t q) (sym (ap (λ (c : Bool). if c then place else a g) not_)) (h g q e)
]

update_about : (s : OneKernel) (v : View) (a : Addresses) (t : Trails) (r : Pid) (x : About) → ((p : Pid) (m c : ℕ) → x ≡ About.Place p m c → slice_get (t p) c ≡ Some m) → AllAre s v a t → AllAre s v (updated_to s a (Some r) (place_told x)) t
update_about s v a t r (About.Place p m c) on h = update_by s v a t r p (record { at = m; moves = c }) (on p m c refl) h
update_about s v a t r _ on h = h

pub updated_all : (s : OneKernel) (v : View) (a : Addresses) (t : Trails) (o : Option Told) → ((u : Told) (p : Pid) (m c : ℕ) → o ≡ Some u → u.about ≡ About.Place p m c → slice_get (t p) c ≡ Some m) → AllAre s v a t → AllAre s v (updated s v a o) t
updated_all s v a t None on h = h
updated_all s v a t (Some u) on h = update_about s v a t u.receiver u.about (λ p m c e. on u p m c refl e) h
