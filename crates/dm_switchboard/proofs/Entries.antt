-- The entries of the map of names, and the list of names.
use Rattle.dm_switchboard.proofs.Imports.{◌≡◌, ℕ, true, false, ◌==◌, List, [], ◌∷◌, ◌++◌, Some, refl, sym, ap, ◌∙◌, nat_eq, is_some, arith, pointwise, lookup, ArrayVec, Link, bytes_eq, Named, listed, named, Asked, link_named, registers_new}
use Rattle.std.proofs.Common.{Option, None}
use Rattle.dm_switchboard.specs.declared.reply.Reply.TheVariants as reply

pub eq_sym : (a b : ℕ) → (a == b) ≡ (b == a)
eq_sym a b = grind arith

-- the test of a map's keys
pub same_bytes : (bs cs : List ℕ) → pointwise nat_eq bs cs ≡ bytes_eq cs bs
same_bytes [] [] = refl
same_bytes [] (c ∷ cs) = refl
same_bytes (b ∷ bs) [] = refl
same_bytes (b ∷ bs) (c ∷ cs) = grind (arith, eq_sym b c, same_bytes bs cs)

-- a look-up in the map is one in the list
pub look_up_listed : (name : List ℕ) (es : List (ArrayVec ℕ × Link)) → lookup (λ (k : ArrayVec ℕ). pointwise nat_eq name k.items) es ≡ link_named name (listed es)
look_up_listed name [] = refl
look_up_listed name (e ∷ es) = grind (arith, same_bytes name e.0.items, look_up_listed name es)

pub listed_push : (es : List (ArrayVec ℕ × Link)) (e : ArrayVec ℕ × Link) → listed (es ++ e ∷ []) ≡ listed es ++ named e ∷ []
listed_push [] e = refl
listed_push (x ∷ es) e = ap (λ ns. named x ∷ ns) (listed_push es e)

-- a name that is taken stays
pub taken_stays : (names : List Named) (name : List ℕ) (l : Link) (kept : Option Link) → is_some kept ≡ true → registers_new names name l kept ≡ record { names = names; reply = reply.Taken }
taken_stays names name l None h = absurd (cc h)
taken_stays names name l (Some k) h = refl

pub none_of : {A : Type 0} (o : Option A) → is_some o ≡ false → o ≡ None
none_of None h = refl
none_of (Some x) h = absurd (cc h)

-- a new one goes last
pub new_stands : (es news : List (ArrayVec ℕ × Link)) (name : ArrayVec ℕ) (l : Link) → link_named name.items (listed es) ≡ None → news ≡ es ++ (name, l) ∷ [] → registers_new (listed es) name.items l (link_named name.items (listed es)) ≡ record { names = listed news; reply = reply.Registered }
new_stands es news name l none pushed =
    let last : Asked = record { names = listed news; reply = reply.Registered } in
    let there : listed es ++ record { name = name.items; link = l } ∷ [] ≡ listed news = sym (ap listed pushed ∙ listed_push es (name, l)) in
    ap (registers_new (listed es) name.items l) none ∙ ap (λ (ns : List Named). let a : Asked = record { names = ns; reply = reply.Registered } in a) there
