-- Puts keep each address on its trail.
use Rattle.dm_law_rule.proofs.Names.{◌≡◌, ◌⊎◌, ℕ, suc, ◌+◌, Bool, true, false, List, [], ◌∷◌, refl, ap, ◌∙◌, sym, subst, inl, inr, arith, if◌then◌else◌, slice_get, Option, None, Some, cases_Bool, false≢true, Pid, pid_eq, MsgId, id_eq}
use Rattle.dm_law_rule.proofs.Names.{MessageKind, manager, OneKernel, pid_eq-is, id_eq-is, id_eq-same, View, Told, is_kernels, after_put, Addresses, Holder, Receiver, Sender, Child, Gets, given, acting_place, unmoved, child_number, own_given, position_from}
use Rattle.dm_law_rule.proofs.Names.{first_gives, names, Trails, IsOn, Sort, sort_of, Place, known_place, none_some}
use Rattle.std.specs.Option.{unwrap_or}
use Rattle.dm_law_rule.proofs.States.{put_told_off}
use Rattle.dm_law_rule.proofs.Phases.Lines.{put_at}
use Rattle.dm_law_rule.proofs.Trails.Places.{Goes, Comes, Named, Links, Owns, AllAre, AllGet, given_on}
use Rattle.dm_law_rule.proofs.Trails.Lines.{unnamed_receiver, unnamed_sender}
use Rattle.dm_law_rule.specs.View as view

-- the first put of a kernel's own message
pub put_named : (s : OneKernel) (v : View) (x y : ℕ) (id : MsgId) (k : MessageKind) (q : Pid) (h : Holder) (r : Pid) → v.told id ≡ None → Named s (after_put v x y id k q) h r
    → Named s v h r ⊎ (((h ≡ Receiver id) × (q ≡ r)) ⊎ ((h ≡ Sender id) × (k ≡ MessageKind.Migrate) × (manager ≡ r)))
put_named s v x y id k q h r none (Links e) = inl (Links e)
put_named s v x y id k q h r none (Owns (Goes i u is own told to)) = elim (cases_Bool (id_eq id i)) [
  | inl same ↦
      let at : id ≡ i = id_eq-is id i same in
      let w : Told = record { kind = k; receiver = q; about = v.topic } in
      let e : Some w ≡ Some u = sym (put_at v x y id k q ∙ ap (λ (o : Option Told). Some (view.first_told o w)) none) ∙ ap (λ (j : MsgId). (after_put v x y id k q).told j) at ∙ told in
      let f : w ≡ u = cc in inr (inl (is ∙ ap Receiver (sym at), ap (λ (z : Told). z.receiver) f ∙ to))
  | inr apart ↦ inl (Owns (Goes i u is own (sym (put_told_off v x y id i k q apart) ∙ told) to))
]
put_named s v x y id k q h r none (Owns (Comes i u is mine told move to)) = elim (cases_Bool (id_eq id i)) [
  | inl same ↦
      let at : id ≡ i = id_eq-is id i same in
      let w : Told = record { kind = k; receiver = q; about = v.topic } in
      let e : Some w ≡ Some u = sym (put_at v x y id k q ∙ ap (λ (o : Option Told). Some (view.first_told o w)) none) ∙ ap (λ (j : MsgId). (after_put v x y id k q).told j) at ∙ told in
      let f : w ≡ u = cc in inr (inr (is ∙ ap Sender (sym at), ap (λ (z : Told). z.kind) f ∙ move, to))
  | inr apart ↦ inl (Owns (Comes i u is mine (sym (put_told_off v x y id i k q apart) ∙ told) move to))
]

pub put_all : (s : OneKernel) (v : View) (a : Addresses) (t : Trails) (x y : ℕ) (id : MsgId) (k : MessageKind) (q : Pid) → s.bag id ≡ None → v.told id ≡ None → IsOn t q (given a (own_given s v a id q (sort_of k)) (Receiver id))
    → (k ≡ MessageKind.Migrate → IsOn t manager (given a (own_given s v a id q (sort_of k)) (Sender id))) → AllAre s v a t → AllAre s (after_put v x y id k q) (given a (first_gives (v.told id) (own_given s v a id q (sort_of k)))) t
put_all s v a t x y id k q bag none to from h g r e =
    subst (λ (o : Option Told). IsOn t r (given a (first_gives o (own_given s v a id q (sort_of k))) g)) (sym none)
    (elim (put_named s v x y id k q g r none e) [
      | inl old ↦ given_on s v a t (own_given s v a id q (sort_of k)) h (let e_ : AllGet s v t (own_given s v a id q (sort_of k)) = search (arith, unnamed_receiver, unnamed_sender) in e_) g r old
      | inr new ↦ elim new [
        | inl way ↦ subst (λ (i : Holder). IsOn t r (given a (own_given s v a id q (sort_of k)) i)) (sym way.0) (subst (λ (p : Pid). IsOn t p (given a (own_given s v a id q (sort_of k)) (Receiver id))) way.1 to)
        | inr way ↦ subst (λ (i : Holder). IsOn t r (given a (own_given s v a id q (sort_of k)) i)) (sym way.0) (subst (λ (p : Pid). IsOn t p (given a (own_given s v a id q (sort_of k)) (Sender id))) way.2 (from way.1))
      ]
    ])

-- a request to move a child, along the manager's link to it
child_there : (k : ℕ) (p : Pid) (ps : List Pid) (n : ℕ) → (position_from (pid_eq p) k ps) ≡ Some n → (j : ℕ) × (n ≡ k + j) × (slice_get ps j ≡ Some p)
child_there k p [] n e = none_some n e
child_there k p (q ∷ ps) n e = elim (cases_Bool (pid_eq p q)) [
  | inl same ↦
      let f : Some k ≡ Some n = sym (ap (λ (c : Bool). if c then Some k else (position_from (pid_eq p) (k + 1) ps)) same) ∙ e in
      let g : k ≡ n = cc in (0, omega (arith, g), ap Some (sym (pid_eq-is p q same)))
  | inr apart ↦
      let (j, is, at) = child_there (k + 1) p ps n (sym (ap (λ (c : Bool). if c then Some k else (position_from (pid_eq p) (k + 1) ps)) apart) ∙ e) in
      (suc j, omega (arith, is), at)
]

pub child_is : (s : OneKernel) (p : Pid) (n : ℕ) → child_number s p ≡ Some n → names s (Child n) ≡ Some p
child_is s p n e =
    let (j, is, at) = child_there 1 p s.manager.children n e in
    let next : n ≡ suc j = omega (arith, is) in ap (λ (k : ℕ). names s (Child k)) next ∙ at

-- a message that was put before: nothing changes
pub told_again : (v : View) (x y : ℕ) (id : MsgId) (k : MessageKind) (q : Pid) (u : Told) → v.told id ≡ Some u → (i : MsgId) → (after_put v x y id k q).told i ≡ v.told i
told_again v x y id k q u told i = elim (cases_Bool (id_eq id i)) [
  | inl same ↦
      let at : id ≡ i = id_eq-is id i same in
      ap (λ (j : MsgId). (after_put v x y id k q).told j) (sym at) ∙ put_at v x y id k q ∙
      ((elim (v.told id) as (λ o_. o_ ≡ Some u → Some (view.first_told o_ (record { kind = k; receiver = q; about = v.topic })) ≡ o_) [ None ↦ λ e'. cc | Some v' ↦ λ e'. refl ]) told) ∙ ap v.told at
  | inr apart ↦ put_told_off v x y id i k q apart
]

-- a message of the bag
abbrev pub is_own_sort : Sort → Bool
is_own_sort Sort.Request = true
is_own_sort Sort.Notice = true
is_own_sort (Sort.Between passage) = true
is_own_sort Sort.Buries = true
is_own_sort _ = false

abbrev pub is_own : MessageKind → Bool
is_own k = is_own_sort (sort_of k)

pub plain_gives : (s : OneKernel) (v : View) (a : Addresses) (id : MsgId) (q : Pid) (k : MessageKind) → is_own k ≡ false → own_given s v a id q (sort_of k) ≡ []
plain_gives s v a id q k e = search arith

pub not_own : (k : MessageKind) → is_own k ≡ false → k ≡ MessageKind.Migrate → ⊥
not_own k plain e = false≢true (sym plain ∙ ap is_own e)

pub routed_named : (s : OneKernel) (v : View) (x y : ℕ) (id : MsgId) (k : MessageKind) (q : Pid) (h : Holder) (r : Pid) → is_kernels id ≡ false → is_own k ≡ false → v.told id ≡ None → Named s (after_put v x y id k q) h r → Named s v h r
routed_named s v x y id k q h r other plain none (Links e) = Links e
routed_named s v x y id k q h r other plain none (Owns (Goes i u is own told to)) = elim (cases_Bool (id_eq id i)) [
  | inl same ↦ absurd (false≢true (sym other ∙ ap is_kernels (id_eq-is id i same) ∙ own))
  | inr apart ↦ Owns (Goes i u is own (sym (put_told_off v x y id i k q apart) ∙ told) to)
]
routed_named s v x y id k q h r other plain none (Owns (Comes i u is mine told move to)) = elim (put_named s v x y id k q h r none (Owns (Comes i u is mine told move to))) [
  | inl old ↦ old
  | inr new ↦ elim new [ inl way ↦ absurd (let f : Receiver id ≡ Sender i = sym way.0 ∙ is in cc) | inr way ↦ absurd (not_own k plain way.1) ]
]

pub put_routed : (s : OneKernel) (v : View) (a : Addresses) (t : Trails) (x y : ℕ) (id : MsgId) (k : MessageKind) (q : Pid) → is_kernels id ≡ false → is_own k ≡ false → v.told id ≡ None → AllAre s v a t
    → AllAre s (after_put v x y id k q) (given a (first_gives (v.told id) (own_given s v a id q (sort_of k)))) t
put_routed s v a t x y id k q other plain none h g r e =
    subst (λ (gs : List Gets). IsOn t r (given a gs g)) (sym (ap (λ (o : Option Told). first_gives o (own_given s v a id q (sort_of k))) none ∙ plain_gives s v a id q k plain)) (h g r (routed_named s v x y id k q g r other plain none e))

-- what is told of places, with a put
about_by : (t : Trails) (o : Option Told) (w u : Told) (p : Pid) (m c : ℕ) → Some (view.first_told o w) ≡ Some u → u.about ≡ view.Place p m c → (o ≡ Some u → slice_get (t p) c ≡ Some m) → (w.about ≡ view.Place p m c → slice_get (t p) c ≡ Some m) → slice_get (t p) c ≡ Some m
about_by t None w u p m c e f was now = let g : w ≡ u = cc in now (ap (λ (x : Told). x.about) g ∙ f)
about_by t (Some x) w u p m c e f was now = was e

pub about_put : (v : View) (t : Trails) (x y : ℕ) (id : MsgId) (k : MessageKind) (q : Pid) → ((i : MsgId) (u : Told) (p : Pid) (m c : ℕ) → v.told i ≡ Some u → u.about ≡ view.Place p m c → slice_get (t p) c ≡ Some m)
    → ((p : Pid) (m c : ℕ) → v.topic ≡ view.Place p m c → slice_get (t p) c ≡ Some m) → (i : MsgId) (u : Told) (p : Pid) (m c : ℕ) → (after_put v x y id k q).told i ≡ Some u → u.about ≡ view.Place p m c → slice_get (t p) c ≡ Some m
about_put v t x y id k q about topic i u p m c told e = elim (cases_Bool (id_eq id i)) [
  | inl same ↦
      let at : id ≡ i = id_eq-is id i same in
      about_by t (v.told id) (record { kind = k; receiver = q; about = v.topic }) u p m c (sym (put_at v x y id k q) ∙ ap (λ (j : MsgId). (after_put v x y id k q).told j) at ∙ told) e (λ was. about id u p m c was e) (λ now. topic p m c now)
  | inr apart ↦ about i u p m c (sym (put_told_off v x y id i k q apart) ∙ told) e
]

-- the places of a request to move
pub migrate_to : (s : OneKernel) (v : View) (a : Addresses) (t : Trails) (id : MsgId) (q : Pid) (x : Place) → known_place s v v.acting a q ≡ Some x → IsOn t q x → IsOn t q (given a (own_given s v a id q (sort_of MessageKind.Migrate)) (Receiver id))
migrate_to s v a t id q x knows on =
    subst (IsOn t q) (sym (ap (λ (c : Bool). if c then unwrap_or (known_place s v v.acting a q) (unmoved 0) else a (Receiver id)) (id_eq-same id) ∙ ap (λ (o : Option Place). unwrap_or o (unmoved 0)) knows)) on

pub migrate_from : (s : OneKernel) (v : View) (a : Addresses) (t : Trails) (id : MsgId) (q : Pid) → IsOn t manager (acting_place v manager) → IsOn t manager (given a (own_given s v a id q (sort_of MessageKind.Migrate)) (Sender id))
migrate_from s v a t id q here = subst (IsOn t manager) (sym (ap (λ (c : Bool). if c then acting_place v manager else a (Sender id)) (id_eq-same id))) here
