-- Steps that there may not be.
use Rattle.std.specs.Prelude.{Bool, true, false}
use Rattle.std.specs.declared.option.Option.{Option}
use Rattle.std.specs.declared.option.Option.TheVariants.{None, Some}

-- what follows a value, where there is one
abbrev pub bind : {A B : Type 0} → Option A → (A → Option B) → Option B
bind None go = None
bind (Some x) go = go x

-- the value, where the test holds
abbrev pub when : {A : Type 0} → Bool → A → Option A
when true x = Some x
when false x = None
