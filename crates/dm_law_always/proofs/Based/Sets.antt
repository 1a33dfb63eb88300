-- A value set for one process on one machine, lists with messages taken out, how often a process stands in a ring, and what a kill may do.
use Rattle.dm_law_always.proofs.Names.{◌≡◌, ℕ, ◌≤◌, ◌==◌, ◌&&◌, Bool, true, false, List, [], ◌∷◌, ◌++◌, refl, arith, if◌then◌else◌, Some, Pid, pid_eq, MsgId, MessageKind, id_eq-is, pid_eq-is, at_record, without_id, without_front, times, View}
use Rattle.dm_law_always.proofs.Names.{ends_by, ended, parts, eq_is, is_kill, times-append, ◌+◌, not, ap, ◌∙◌, sym, pid_eq-same, pid_eq-swap, at_machine, without, moved_back, rings, id_eq, sort_of}

-- one value set: there, and elsewhere
pub set_all : {X : Type 0} (T : ℕ → Pid → X → Type 0) (f : ℕ → Pid → X) (a : ℕ) (p : Pid) (x : X) → T a p x → ((n : ℕ) (q : Pid) → ((a == n) && pid_eq p q) ≡ false → T n q (f n q)) → (n : ℕ) (q : Pid) → T n q (at_record f a p x n q)
set_all T f a p x mine others n q = search (arith, parts, eq_is, pid_eq-is)

pub without_fewer : (i id : MsgId) (xs : List MsgId) → 1 ≤ times i (without_id id xs) → 1 ≤ times i xs
without_fewer i id [] least = least
without_fewer i id (j ∷ js) least = search (arith, id_eq id j, without_id id js, without_fewer i id js)

pub front_fewer : (i id : MsgId) (xs : List MsgId) → 1 ≤ times i (without_front id xs) → 1 ≤ times i xs
front_fewer i id xs h1 = search arith

-- one more at the end
pub last_of : (T : Type 0) (i id : MsgId) (xs : List MsgId) → 1 ≤ times i (xs ++ id ∷ []) → (1 ≤ times i xs → T) → (i ≡ id → T) → T
last_of T i id xs least old new = search (arith, id_eq-is, times-append)

-- a message kills its receiver, or leaves what is known
pub killed_or : (P : View → Type 0) (k : MessageKind) (v : View) (p : Pid) → (is_kill k ≡ true → P (ended v p)) → (is_kill k ≡ false → P v) → P (ends_by (sort_of k) v (Some p))
killed_or P k v p h1 h2 = search arith

-- rings
abbrev pub one_if : Bool → ℕ
one_if c = if c then 1 else 0

pub rings-append : (p : Pid) (xs ys : List Pid) → rings p (xs ++ ys) ≡ rings p xs + rings p ys
rings-append p [] ys = omega arith
rings-append p (x ∷ xs) ys = let h = rings-append p xs ys in omega (arith, h)

rings_if : (q x : Pid) (xs : List Pid) (c : Bool) → rings q (if c then x ∷ xs else xs) ≡ (if c then one_if (pid_eq q x) else 0) + rings q xs
rings_if q x xs c = search arith

pub rings_without : (p : Pid) (xs : List Pid) → rings p (without p xs) ≡ 0
rings_without p [] = refl
rings_without p (x ∷ xs) =
    let h = rings_without p xs in
    let k = rings_if p x (without p xs) (not (pid_eq p x)) in
    let z = none_or (pid_eq p x) in
    omega (arith, h, k, z)
  where
    none_or : (c : Bool) → (if not c then one_if c else 0) ≡ 0
    none_or true = refl
    none_or false = refl

pub rings_others : (p q : Pid) (xs : List Pid) → pid_eq p q ≡ false → rings q (without p xs) ≡ rings q xs
rings_others p q [] apart = refl
rings_others p q (x ∷ xs) apart =
    let h = rings_others p q xs apart in
    let k = rings_if q x (without p xs) (not (pid_eq p x)) in
    let z : (if not (pid_eq p x) then one_if (pid_eq q x) else 0) ≡ one_if (pid_eq q x) = kept (pid_eq p x) (pid_eq q x) (λ e f. (let a = pid_eq-is p x e in let b = pid_eq-is q x f in sym apart ∙ ap (pid_eq p) (b ∙ sym a) ∙ pid_eq-same p)) in
    omega (arith, h, k, z)
  where
    kept : (c d : Bool) → (c ≡ true → d ≡ true → false ≡ true) → (if not c then one_if d else 0) ≡ one_if d
    kept true true f = absurd (let e = f refl refl in cc)
    kept true false f = refl
    kept false d f = refl

rings_one : (p q : Pid) → rings q (p ∷ []) ≡ one_if (pid_eq q p)
rings_one p q = omega arith

pub back_self : (p : Pid) (xs : List Pid) → rings p (moved_back p xs) ≡ 1
back_self p xs = search (arith, rings-append, rings_without, rings_one, pid_eq-same)

one_off : (p q : Pid) → pid_eq p q ≡ false → one_if (pid_eq q p) ≡ 0
one_off p q apart = ap one_if (pid_eq-swap q p ∙ apart)

pub back_others : (p q : Pid) (xs : List Pid) → pid_eq p q ≡ false → rings q (moved_back p xs) ≡ rings q xs
back_others p q xs apart = search (arith, rings-append, rings_others, rings_one, one_off)

pub last_self : (p : Pid) (xs : List Pid) → rings p xs ≡ 0 → rings p (xs ++ p ∷ []) ≡ 1
last_self p xs none = search (arith, rings-append, rings_one, pid_eq-same)

pub last_others : (p q : Pid) (xs : List Pid) → pid_eq p q ≡ false → rings q (xs ++ p ∷ []) ≡ rings q xs
last_others p q xs apart = search (arith, rings-append, rings_one, one_off)

-- one machine's ring is set
pub ring_set : (f : ℕ → List Pid) (a : ℕ) (zs : List Pid) (q : Pid) → rings q zs ≡ rings q (f a) → (m : ℕ) → rings q (at_machine f a zs m) ≡ rings q (f m)
ring_set f a zs q same m = search (arith, eq_is)
