-- What the proofs of this crate say of parts of its definitions.
use Rattle.std.specs.Prelude.{ℕ, Bool, false, ℤ, codes, List, Some, nat_lt, option_and_then, option_map, unwrap_or}
use Rattle.std.specs.Option.{option_or}
use Rattle.std.specs.declared.option.Option.{Option}
use Rattle.toml.specs.Data.{Data, as_integer}
use Rattle.dm_link.specs.Names.{pid_of}
use Rattle.dm_link.specs.declared.Link.{Link}
use Rattle.dm_link.specs.declared.Pid.{Pid}
use Rattle.dm_onekernel.specs.declared.boot.Boot.{Boot}
use Rattle.dm_onekernel.specs.declared.boot.BootProcess.{BootProcess}
use Rattle.dm_boot.specs.Build.{images_of, link_of, link_tables, machines_of, processes_of, system_with}
use Rattle.dm_boot.specs.Tables.{in_range, map_items, text_at}
use Rattle.dm_boot.specs.declared.rules.BootRule.{BootRule}

abbrev pub integer_in : ℕ → ℕ → Option ℤ → Option ℕ
integer_in least most z = option_and_then (in_range least most) z

abbrev pub number_or : ℕ → ℕ → ℕ → Option Data → Option ℕ
number_or default least most o = unwrap_or (option_map (λ v. integer_in least most (as_integer v)) o) (Some default)

abbrev pub is_below : ℕ → Option ℕ → Bool
is_below n m = unwrap_or (option_map (λ k. nat_lt k n) m) false

abbrev pub pid_of_start : Option BootProcess → Pid
pid_of_start o = unwrap_or (option_map (λ p. p.pid) o) (pid_of 0 0)

abbrev pub links_of : Data → List BootProcess → Data → List Link
links_of d starts t = map_items (link_of d starts) (link_tables t)

abbrev pub name_in : Data → List ℕ
name_in t = text_at (codes "name") t

abbrev pub linked : BootProcess → List ℕ → List Link → BootProcess
linked p name links = record p { name = name; links = links }

abbrev pub system_of : Data → Boot
system_of d = system_with d (machines_of d) (images_of d) (processes_of d)

abbrev pub broken_or : BootRule → Option ℕ → Option (BootRule × ℕ) → Option (BootRule × ℕ)
broken_or rule o rest = option_or (option_map (λ place. (rule, place)) o) rest
