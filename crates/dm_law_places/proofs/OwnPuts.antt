-- A message that a machine's kernel sends itself, where it is put for the first time.
use Rattle.dm_law_places.proofs.Names.{◌≡◌, ℕ, zero, suc, ◌+◌, Bool, false, List, [], ◌∷◌, map, refl, ap, ◌∙◌, sym, subst, ◌⊎◌, inl, inr, arith, if◌then◌else◌, cond, slice_get, Option, None, Some, cases_Bool, Pid, Addr, Place, pid_eq}
use Rattle.dm_law_places.proofs.Names.{nat_tests, place_of, MsgId, Message, Line, MessageKind, id_eq, plain_message, plain_child, child_named, Manager, OneKernel, pid_eq-swap, Told, View, own_id, view_after, Addresses, Child, Gets, Receiver}
use Rattle.dm_law_places.proofs.Names.{Sender, child_number, first_gives, given, own_given, Point, moved, SameMessage, SameProcess, SameServers, two, two_off, two_process, two_servers, Placed, Mirrors, MirrorsMessage, enclosed, position_from}
use Rattle.dm_law_places.proofs.Names.{MirrorsPoint, with_message, Sort, sort_of, none_some}
use Rattle.dm_law_places.proofs.Keeps.{stays_message, stays_process, stays_servers}
use Rattle.dm_law_places.proofs.Following.Changed.{free_mirrors, kernel_again, places_message, this_message}
use Rattle.dm_law_places.proofs.Lines.{mirrors_view}

-- it gets nothing then, or a receiver's and a sender's place
abbrev OwnGives : OneKernel → View → Addresses → MsgId → Pid → Sort → Type 0
OwnGives s v a id q w = (own_given s v a id q w ≡ []) ⊎ ((to : Place) × (from : Place) × (own_given s v a id q w ≡ two id to from))

own_are_by : (s : OneKernel) (v : View) (a : Addresses) (id : MsgId) (q : Pid) (w : Sort) → OwnGives s v a id q w
own_are_by s v a id q w = search arith

-- no other holder gets any
record OnlyFor (a b : Addresses) (id : MsgId) : Type 0 where
  processes : (q : Pid) → SameProcess a b q
  others : (i : MsgId) → id_eq id i ≡ false → SameMessage a b i
  servers : SameServers a b

only_two : (a : Addresses) (id : MsgId) (to from : Place) → OnlyFor a (given a (two id to from)) id
only_two a id to from = record { processes = two_process a id to from; others = two_off a id to from; servers = two_servers a id to from }

only_own : (s : OneKernel) (v : View) (a : Addresses) (id : MsgId) (q : Pid) (k : MessageKind) → OnlyFor a (given a (own_given s v a id q (sort_of k))) id
only_own s v a id q k = search (arith, own_are_by, stays_process, stays_message, stays_servers, only_two)

-- a message without links that has its places by then
pub own_put_mirrors : (pt : Point) (l : Placed) (from to : ℕ) (k : MessageKind) (q : Pid) (y : Message) → MirrorsPoint pt l → plain_message y ≡ None → enclosed y.what ≡ [] → pt.kernel.bag y.id ≡ None → pt.view.told y.id ≡ None
    → given pt.addresses (own_given pt.kernel pt.view pt.addresses y.id q (sort_of k)) (Receiver y.id) ≡ place_of y.to → given pt.addresses (own_given pt.kernel pt.view pt.addresses y.id q (sort_of k)) (Sender y.id) ≡ place_of y.sender
    → MirrorsPoint (moved pt (Line.Put from to y.id k q) pt.kernel) (with_message l y.id (Some y))
own_put_mirrors pt l from to k q y h plain none out told receiver sender =
    let v = pt.view in
    let a = pt.addresses in
    let s = pt.kernel in
    let gs = own_given s v a y.id q (sort_of k) in
    let b = given a gs in
    let l' = with_message l y.id (Some y) in
    let w = view_after v (Line.Put from to y.id k q) in
    let only = only_own s v a y.id q k in
    let m : MirrorsMessage b y.id y = (search (arith)) in
    let now : Mirrors s v b l' = record {
      plain = kernel_again s l y.id (Some y) (plain ∙ sym out) h.plain;
      places = places_message v a b l y.id (Some y) h.places only.processes (λ i x there apart. only.others i apart) (this_message b y.id y m) only.servers;
    } in
    subst (λ (g : List Gets). Mirrors s w (given a g) l') (sym (ap (λ (o : Option Told). first_gives o gs) told)) (mirrors_view s v w b l' refl now)

-- one that nobody reads yet
pub absent_put_mirrors : (pt : Point) (l : Placed) (from to : ℕ) (id : MsgId) (k : MessageKind) (q : Pid) → MirrorsPoint pt l → l.bag id ≡ None → MirrorsPoint (moved pt (Line.Put from to id k q) pt.kernel) l
absent_put_mirrors pt l from to id k q h none =
    let v = pt.view in
    let a = pt.addresses in
    let s = pt.kernel in
    let w = view_after v (Line.Put from to id k q) in
    let gs = own_given s v a id q (sort_of k) in
    let b = given a (first_gives (v.told id) gs) in
    let now : Mirrors s v b l = elim (elim (v.told id) as (λ o. (first_gives o gs ≡ []) ⊎ (first_gives o gs ≡ gs)) [ None ↦ inr refl | Some t ↦ inl refl ]) [
      | inl e ↦ subst (λ (g : List Gets). Mirrors s v (given a g) l) (sym e) h
      | inr e ↦ elim (own_are_by s v a id q (sort_of k)) [
        | inl f ↦ subst (λ (g : List Gets). Mirrors s v (given a g) l) (sym (e ∙ f)) h
        | inr f ↦ subst (λ (g : List Gets). Mirrors s v (given a g) l) (sym (e ∙ f.2)) (free_mirrors s v a l id f.0 f.1 none h)
      ]
    ] in
    mirrors_view s v w b l refl now

-- the manager's child of a name, and its number
child_has : (cs : List Addr) (k : ℕ) (p : Pid) (c : Addr) → child_named p cs ≡ Some c → (j : ℕ) × ((position_from (pid_eq p) k (map plain_child cs)) ≡ Some (k + j)) × (slice_get cs j ≡ Some c)
child_has [] k p c e = none_some c e
child_has (d ∷ ds) k p c e = elim (cases_Bool (pid_eq d.pid p)) [
  | inl same ↦
      let f : Some d ≡ Some c = sym (ap (λ (b : Bool). cond b (Some d) (child_named p ds)) same) ∙ e in
      let n : k ≡ k + 0 = omega arith in
      (zero, ap (λ (b : Bool). if b then Some k else (position_from (pid_eq p) (k + 1) (map plain_child ds))) (pid_eq-swap p d.pid ∙ same) ∙ ap Some n, f)
  | inr apart ↦
      let (j, from, there) = child_has ds (k + 1) p c (sym (ap (λ (b : Bool). cond b (Some d) (child_named p ds)) apart) ∙ e) in
      let n : (k + 1) + j ≡ k + suc j = omega arith in
      (suc j, ap (λ (b : Bool). if b then Some k else (position_from (pid_eq p) (k + 1) (map plain_child ds))) (pid_eq-swap p d.pid ∙ apart) ∙ from ∙ ap Some n, there)
]

children_are : (s : OneKernel) (v : View) (a : Addresses) (l : Placed) (p : Pid) → Mirrors s v a l → child_number s p ≡ (position_from (pid_eq p) 1 (map plain_child l.manager.children))
children_are s v a l p h = ap (λ (g : Manager). (position_from (pid_eq p) 1 g.children)) (sym h.plain.manager)

pub child_place : (s : OneKernel) (v : View) (a : Addresses) (l : Placed) (p : Pid) (c : Addr) → Mirrors s v a l → child_named p l.manager.children ≡ Some c → (n : ℕ) × (child_number s p ≡ Some n) × (a (Child n) ≡ place_of c)
child_place s v a l p c h e =
    let (j, from, there) = child_has l.manager.children 1 p c e in
    let n : 1 + j ≡ suc j = omega arith in (suc j, children_are s v a l p h ∙ from ∙ ap Some n, h.places.child (suc j) c there)

child_none : (cs : List Addr) (k : ℕ) (p : Pid) → child_named p cs ≡ None → (position_from (pid_eq p) k (map plain_child cs)) ≡ None
child_none [] k p e = refl
child_none (d ∷ ds) k p e = elim (cases_Bool (pid_eq d.pid p)) [
  | inl same ↦ absurd (let f : Some d ≡ None = sym (ap (λ (b : Bool). cond b (Some d) (child_named p ds)) same) ∙ e in cc)
  | inr apart ↦
      ap (λ (b : Bool). if b then Some k else (position_from (pid_eq p) (k + 1) (map plain_child ds))) (pid_eq-swap p d.pid ∙ apart)
      ∙ child_none ds (k + 1) p (sym (ap (λ (b : Bool). cond b (Some d) (child_named p ds)) apart) ∙ e)
]

-- where there is no such child there is none without places
pub no_child : (s : OneKernel) (v : View) (a : Addresses) (l : Placed) (p : Pid) → Mirrors s v a l → child_named p l.manager.children ≡ None → child_number s p ≡ None
no_child s v a l p h e = children_are s v a l p h ∙ child_none l.manager.children 1 p e

pub put_own_id : (pt : Point) (from to : ℕ) (id : MsgId) (k : MessageKind) (q : Pid) (t : Told) → pt.view.told id ≡ Some t → own_id (moved pt (Line.Put from to id k q) pt.kernel).view ≡ own_id pt.view
put_own_id pt from to id k q t told = grind (arith, nat_tests)
