-- The children of the manager by their names.
use Rattle.std.specs.Prelude.{◌≡◌, ℕ, suc, if◌then◌else◌, List, [], ◌∷◌}
use Rattle.std.specs.declared.option.Option.{Option}
use Rattle.std.specs.declared.option.Option.TheVariants.{None, Some}
use Rattle.std.specs.BTreeMap.{BTreeMap, get}
use Rattle.std.specs.Option.{option_map}
use Rattle.dm_link.specs.declared.Pid.{Pid}
use Rattle.dm_link.specs.declared.Addr.{Addr}
use Rattle.dm_link.specs.Names.{pid_cmp, pid_eq}

-- the place of the first child of a name
abbrev pub place_named : Pid → List Addr → Option ℕ
place_named p [] = None
place_named p (a ∷ children) = if pid_eq a.pid p then Some 0 else option_map suc (place_named p children)

-- the places lead from each name to its first child
abbrev pub FindsChildren : BTreeMap Pid ℕ → List Addr → Type 0
FindsChildren places children = (p : Pid) → get pid_cmp places p ≡ place_named p children
