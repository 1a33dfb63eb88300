-- Whether links are sound: they lead somewhere, and their numbers are within their limits. And what a link is where no more is said.
use Rattle.std.specs.Prelude.{ℕ, ◌&&◌, Bool, false}
use Rattle.toml.specs.Data.{Data}
use Rattle.dm_link.specs.declared.Link.{Link}
use Rattle.dm_link.specs.declared.Pid.{Pid}
use Rattle.dm_link.specs.declared.Kind.TheVariants.{General}
use Rattle.dm_boot.specs.Tables.{all_items}
use Rattle.dm_boot.specs.Build.{link_tables, process_tables}
use Rattle.dm_boot.specs.Rules.{has_target, is_limited}

-- one link
unfoldable pub is_sound : Data → Data → Bool
is_sound d l = has_target d l && is_limited d l

-- the links of a process
abbrev pub has_sound_links : Data → Data → Bool
has_sound_links d t = all_items (is_sound d) (link_tables t)

-- the links of all processes
abbrev pub all_sound : Data → Bool
all_sound d = all_items (has_sound_links d) (process_tables d)

-- a general link to a process where it starts, with a code and no area
abbrev pub general_link : Pid → ℕ → Link
general_link p code = record {
  addr = record { pid = p; at = p.home; moves = 0 };
  kind = General;
  to_kernel = false;
  code = code;
  channel = 0;
  area = record { base = 0; len = 0; read = false; write = false };
}
