-- Facts on truths that std hasn't in this form.
use Rattle.dm_law_one.proofs.Names.{◌≡◌, Bool, false, refl, if◌then◌else◌, None, Some, ◌&&◌, ◌||◌, or_parts, and_right, cond_some}

pub or-left : (b c : Bool) → (b || c) ≡ false → b ≡ false
or-left b c e = (or_parts b c e).0

pub or-right : (b c : Bool) → (b || c) ≡ false → c ≡ false
or-right b c e = (or_parts b c e).1

pub and_no : (b : Bool) → (b && false) ≡ false
and_no b = and_right b false refl

pub if_some-is : {A : Type 0} (b : Bool) (x y : A) → (if b then Some x else None) ≡ Some y → x ≡ y
if_some-is b x y e = (cond_some b x y e).1

-- what can't be
pub none_some : {A B : Type 0} (x : A) → None ≡ Some x → B
none_some x e = absurd (cc)
