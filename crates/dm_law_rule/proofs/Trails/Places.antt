-- Addresses that holders get are on trails, where each of them is.
use Rattle.dm_law_rule.proofs.Names.{◌≡◌, ℕ, Bool, true, List, [], ◌∷◌, ◌++◌, ap, ◌∙◌, sym, subst, inl, inr, ⊤, if◌then◌else◌, slice_get, Some, cases_Bool, Pid, Place, MsgId, MessageKind, manager, OneKernel, pid_eq-is, id_eq-is, View, Told}
use Rattle.dm_law_rule.proofs.Names.{is_kernels, Addresses, Holder, Receiver, Sender, Gets, given, holder_eq, names, Trails, IsOn, arith, and_parts, eqb-true}
use Rattle.dm_law_rule.proofs.Trails.Known.{get_more}

-- holders that test as one are one
pub holder_is : (g h : Holder) → holder_eq g h ≡ true → g ≡ h
holder_is g h h1 = search (arith, and_parts, pid_eq-is, eqb-true, id_eq-is)

-- whose address a holder has, of the kernel without machines and of kernels' own messages
pub data Owned (v : View) (h : Holder) (q : Pid) : Type 0 where
  Goes : (i : MsgId) (u : Told) → h ≡ Receiver i → is_kernels i ≡ true → v.told i ≡ Some u → u.receiver ≡ q → Owned v h q
  Comes : (i : MsgId) (u : Told) → h ≡ Sender i → is_kernels i ≡ true → v.told i ≡ Some u → u.kind ≡ MessageKind.Migrate → manager ≡ q → Owned v h q

pub data Named (s : OneKernel) (v : View) (h : Holder) (q : Pid) : Type 0 where
  Links : names s h ≡ Some q → Named s v h q
  Owns : Owned v h q → Named s v h q

-- each address of these is on the trail
abbrev pub AllAre : OneKernel → View → Addresses → Trails → Type 0
AllAre s v a t = (h : Holder) (q : Pid) → Named s v h q → IsOn t q (a h)

-- what holders get is on the trail
abbrev pub AllGet : OneKernel → View → Trails → List Gets → Type 0
AllGet s v t [] = ⊤
AllGet s v t (g ∷ gs) = ((q : Pid) → Named s v g.holder q → IsOn t q g.place) × AllGet s v t gs

pub given_on : (s : OneKernel) (v : View) (a : Addresses) (t : Trails) (gs : List Gets) → AllAre s v a t → AllGet s v t gs → AllAre s v (given a gs) t
given_on s v a t [] h all g q e = h g q e
given_on s v a t (x ∷ xs) h all g q e = elim (cases_Bool (holder_eq x.holder g)) [
  | inl same ↦
      subst (IsOn t q) (sym (ap (λ (c : Bool). if c then x.place else given a xs g) same))
      (all.0 q (subst (λ (k : Holder). Named s v k q) (sym (holder_is x.holder g same)) e))
  | inr apart ↦ subst (IsOn t q) (sym (ap (λ (c : Bool). if c then x.place else given a xs g) apart)) (given_on s v a t xs h all.1 g q e)
]

-- trails only grow
pub on_grown : (t u : Trails) (q : Pid) (place : Place) (ds : List ℕ) → u q ≡ t q ++ ds → IsOn t q place → IsOn u q place
on_grown t u q place ds more on = ap (λ (xs : List ℕ). slice_get xs place.moves) more ∙ get_more (t q) ds place.moves place.at on

pub all_grown : (s : OneKernel) (v : View) (a : Addresses) (t u : Trails) → ((q : Pid) → (ds : List ℕ) × (u q ≡ t q ++ ds)) → AllAre s v a t → AllAre s v a u
all_grown s v a t u grows h g q e = let (ds, more) = grows q in on_grown t u q (a g) ds more (h g q e)
