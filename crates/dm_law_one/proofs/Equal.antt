-- Tests for equality of names.
use Rattle.dm_law_one.proofs.Names.{◌≡◌, Bool, true, false, refl, arith, nat_tests, Pid, pid_eq, MsgId, id_eq, bool_eq}
pub use Rattle.dm_linktable.proofs.ReceiverOrder.{pid_eq_self as pid_eq-same}
pub use Rattle.dm_linktable.proofs.ReceiverOrder.{pid_eq_same as pid_eq-is}

pub pid_eq-swap : (p q : Pid) → pid_eq p q ≡ pid_eq q p
pid_eq-swap p q = grind (arith, nat_tests)

bool_eq-is : (a b : Bool) → bool_eq a b ≡ true → a ≡ b
bool_eq-is true b e = cc
bool_eq-is false true e = cc
bool_eq-is false false e = refl

bool_eq-same : (a : Bool) → bool_eq a a ≡ true
bool_eq-same true = refl
bool_eq-same false = refl

pub id_eq-same : (i : MsgId) → id_eq i i ≡ true
id_eq-same i = grind (arith, nat_tests, bool_eq-same)

pub id_eq-is : (i j : MsgId) → id_eq i j ≡ true → i ≡ j
id_eq-is i j e = grind (arith, nat_tests, bool_eq-is)

pub id_eq-swap : (i j : MsgId) → id_eq i j ≡ id_eq j i
id_eq-swap i j = grind (arith, nat_tests, bool_eq-is, bool_eq-same)
