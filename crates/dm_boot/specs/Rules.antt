-- The rules that a boot file keeps, and the first that it breaks.
use Rattle.std.specs.Prelude.{ℕ, ◌+◌, ◌*◌, ◌==◌, ◌&&◌, ◌||◌, not, Bool, true, false, nat_le, nat_lt, List, [], ◌∷◌, ◌++◌, codes, length, take, slice_get, Some, None, if◌then◌else◌}
use Rattle.std.specs.Option.{is_some, option_and_then, option_map, option_or, unwrap_or}
use Rattle.std.specs.declared.option.Option.{Option}
use Rattle.toml.specs.Data.{Data, Items, no_items, item, as_array, as_bool, as_integer, as_str, as_table}
use Rattle.dm_onekernel.specs.declared.boot.BootMachine.{BootMachine}
use Rattle.dm_onekernel.specs.declared.boot.BootImage.{BootImage}
use Rattle.dm_onekernel.specs.declared.boot.BootProcess.{BootProcess}
use Rattle.dm_onekernel.specs.Boot.{slots_of, starting_at, blocks_at, blocks_of_image}
use Rattle.dm_boot.specs.declared.rules.BootRule.{BootRule}
use Rattle.dm_boot.specs.declared.rules.BootRule.TheVariants.{Document, TopKeys, Settings, MachineCount, MachineKeys, MachineRoom, ImageCount, ImageKeys, ImageName, ImageBlocks, ImageText, ImageBytes, ProcessKeys, ProcessName, ProcessMachine, ProcessImage, ProcessRoom, LinkCount, LinkTarget, LinkLimits}
use Rattle.dm_boot.specs.declared.rules.TableRule.{TableRule}
use Rattle.dm_boot.specs.declared.rules.TableRule.TheVariants as of_tables
use Rattle.dm_boot.specs.Tables.{has_only, has_value, may_have, text_at, truth_at, or_zero, count, all_items, first_failing, element_place, named, items_at}
use Rattle.dm_boot.specs.Text.{is_boot_name, is_server_name, bytes_of_image}
use Rattle.dm_boot.specs.Build.{machine_tables, image_tables, process_tables, link_tables, numbers_of, quantum_of, format_number, format_of, slots_in, blocks_in, machines_of, image_blocks, image_of, images_of, machine_number, image_place, start_of, starts_of, code_in, channel_in, base_in, len_in, base_of, len_of, program_of, is_control}

-- an array of tables, or nothing
unfoldable pub may_have_tables : List ℕ → Data → Bool
may_have_tables key d = may_have as_array key d && all_items (λ t. is_some (as_table t)) (items_at key d)

-- the top table has only its keys, and they have the right types
unfoldable pub is_top : Data → Bool
is_top d =
    has_only (codes "format" ∷ codes "numbers" ∷ codes "quantum" ∷ codes "machine" ∷ codes "image" ∷ codes "process" ∷ []) d
    && (may_have as_integer (codes "format") d && (may_have as_integer (codes "numbers") d && (may_have as_integer (codes "quantum") d
    && (may_have_tables (codes "machine") d && (may_have_tables (codes "image") d && may_have_tables (codes "process") d)))))

-- the settings lie within their limits
unfoldable pub has_good_settings : Data → Bool
has_good_settings d = is_some (numbers_of d) && (is_some (quantum_of d) && is_some (format_number d))

-- 1 to 16 machines
unfoldable pub has_good_machine_count : Data → Bool
has_good_machine_count d = nat_le 1 (count (machine_tables d)) && nat_le (count (machine_tables d)) 16

-- at most 256 images
unfoldable pub has_good_image_count : Data → Bool
has_good_image_count d = nat_le (count (image_tables d)) 256

-- the keys of a machine, and their types
unfoldable pub is_machine : Data → Bool
is_machine t = has_only (codes "slots" ∷ codes "blocks" ∷ []) t && (has_value as_integer (codes "slots") t && has_value as_integer (codes "blocks") t)

-- its room is within the limits
unfoldable pub has_good_room : Data → Bool
has_good_room t = is_some (slots_in t) && is_some (blocks_in t)

-- the keys of an image, and their types
unfoldable pub is_image : Data → Bool
is_image t =
    has_only (codes "name" ∷ codes "blocks" ∷ codes "text" ∷ []) t
    && (has_value as_str (codes "name") t && (has_value as_integer (codes "blocks") t && has_value as_str (codes "text") t))

-- the name of element i is a name, and no earlier one of these has it
unfoldable pub has_own_name : Items → ℕ → Data → Bool
has_own_name ts i t = is_boot_name (text_at (codes "name") t) && unwrap_or (option_map (λ k. k == i) (element_place (text_at (codes "name") t) ts)) false

-- the assembler takes an image's text
unfoldable pub assembles : Data → Bool
assembles t = is_some (bytes_of_image (text_at (codes "text") t))

-- the first of these images, from i on, whose text the assembler refuses
unfoldable pub first_unassembled : ℕ → Items → Option ℕ
first_unassembled i ts = first_failing (λ _ t. assembles t) i ts

-- the image's bytes fit its blocks
unfoldable pub image_fits : BootImage → Bool
image_fits i = nat_le (length i.bytes) (256 * i.blocks)

-- the first of these images, from i on, whose bytes don't fit
unfoldable pub first_long : ℕ → List BootImage → Option ℕ
first_long i [] = None
first_long i (image ∷ images) = if image_fits image then first_long (i + 1) images else Some i

-- the key is missing, or has an integer or a label
abbrev pub may_have_place : List ℕ → Data → Bool
may_have_place key t = may_have as_integer key t || has_value as_str key t

-- the keys of a link, and their types
abbrev pub is_link_to : Data → Bool
is_link_to t =
    has_only (codes "to" ∷ codes "code" ∷ codes "channel" ∷ codes "base" ∷ codes "len" ∷ codes "reply" ∷ codes "read" ∷ codes "write" ∷ []) t
    && (has_value as_str (codes "to") t
    && ((may_have as_integer (codes "code") t && (may_have as_integer (codes "channel") t && (may_have_place (codes "base") t && may_have_place (codes "len") t)))
    && (may_have as_bool (codes "reply") t && (may_have as_bool (codes "read") t && may_have as_bool (codes "write") t))))

abbrev pub is_control_link : Data → Bool
is_control_link t = has_only (codes "control" ∷ []) t && has_value as_str (codes "control") t

unfoldable pub is_link : Data → Bool
is_link t = is_link_to t || is_control_link t

-- the keys of a process, and their types, those of its links included
unfoldable pub is_process : Data → Bool
is_process t =
    has_only (codes "name" ∷ codes "image" ∷ codes "machine" ∷ codes "links" ∷ []) t
    && (has_value as_str (codes "name") t && (has_value as_str (codes "image") t && (has_value as_integer (codes "machine") t
    && (may_have as_array (codes "links") t && all_items is_link (link_tables t)))))

-- its name is its own, and no server's
unfoldable pub has_process_name : Items → ℕ → Data → Bool
has_process_name ts i t = has_own_name ts i t && not (is_server_name (text_at (codes "name") t))

unfoldable pub has_machine : Data → Data → Bool
has_machine d t = unwrap_or (option_map (λ m. nat_lt m (count (machine_tables d))) (machine_number t)) false

-- there is a free slot on this machine after these processes, and so many free blocks
abbrev pub fits_machine : Option BootMachine → ℕ → ℕ → ℕ → Bool
fits_machine machine taken_slots taken_blocks blocks =
    unwrap_or (option_map (λ m. nat_lt taken_slots m.slots && nat_le (taken_blocks + blocks) m.blocks) machine) false

-- a process fits its machine with the earlier ones
unfoldable pub fits_after : List BootMachine → List BootImage → List BootProcess → BootProcess → Bool
fits_after machines images earlier p =
    fits_machine (slice_get machines p.pid.home) (starting_at p.pid.home earlier) (blocks_at p.pid.home images earlier) (blocks_of_image (slice_get images p.image))

-- process i fits with those before it
unfoldable pub has_place : Data → ℕ → Data → Bool
has_place d i t = fits_after (machines_of d) (images_of d) (take i (starts_of d)) (start_of d (take i (starts_of d)) t)

-- no more links than the format lets a process have
unfoldable pub has_link_count : Data → Data → Bool
has_link_count d t = nat_le (count (link_tables t)) (slots_of (format_of d))

-- a link leads to a process or a server, a control link to a process
unfoldable pub has_target : Data → Data → Bool
has_target d l =
    if is_control l then is_some (element_place (text_at (codes "control") l) (process_tables d))
    else is_server_name (text_at (codes "to") l) || is_some (element_place (text_at (codes "to") l) (process_tables d))

-- the bytes of the memory of the process with this name
unfoldable pub memory_size_of : Data → List ℕ → ℕ
memory_size_of d name =
    256 * or_zero (option_and_then image_blocks (option_and_then (λ t. named (text_at (codes "image") t) (image_tables d)) (named name (process_tables d))))

-- a link's area within so many bytes of a program
unfoldable pub has_area : ℕ → List ℕ → Data → Bool
has_area size program l =
    is_some (base_of program l) && (is_some (len_of program l) && nat_le (or_zero (base_of program l) + or_zero (len_of program l)) size)

-- a link to a server has no code and no area
unfoldable pub is_plain : Data → Bool
is_plain l =
    is_some (code_in 0 l) && (is_some (base_in 0 l) && (is_some (len_in 0 l) && (not (truth_at (codes "read") l) && not (truth_at (codes "write") l))))

-- a link's numbers are within their limits
unfoldable pub is_limited : Data → Data → Bool
is_limited d l =
    is_some (channel_in l)
    && (if is_control l || is_server_name (text_at (codes "to") l) then is_plain l
    else is_some (code_in 4294967295 l) && has_area (memory_size_of d (text_at (codes "to") l)) (program_of d (text_at (codes "to") l)) l)

-- the top table alone
abbrev pub only : Data → Items
only d = item d no_items

-- each rule: its number; what it speaks of, which is the top table, each machine, each image or each process; and what element i of
-- those must be
abbrev pub rule_row : BootRule → ℕ × (Data → Items) × (Data → ℕ → Data → Bool)
rule_row Document = (1, only, λ d i t. true)
rule_row TopKeys = (2, only, λ d i t. is_top t)
rule_row Settings = (3, only, λ d i t. has_good_settings t)
rule_row MachineCount = (4, only, λ d i t. has_good_machine_count t)
rule_row MachineKeys = (5, machine_tables, λ d i t. is_machine t)
rule_row MachineRoom = (6, machine_tables, λ d i t. has_good_room t)
rule_row ImageCount = (7, only, λ d i t. has_good_image_count t)
rule_row ImageKeys = (8, image_tables, λ d i t. is_image t)
rule_row ImageName = (9, image_tables, λ d i t. has_own_name (image_tables d) i t)
rule_row ImageBlocks = (10, image_tables, λ d i t. is_some (image_blocks t))
rule_row ImageText = (11, image_tables, λ d i t. assembles t)
rule_row ImageBytes = (12, image_tables, λ d i t. image_fits (image_of t))
rule_row ProcessKeys = (13, process_tables, λ d i t. is_process t)
rule_row ProcessName = (14, process_tables, λ d i t. has_process_name (process_tables d) i t)
rule_row ProcessMachine = (15, process_tables, λ d i t. has_machine d t)
rule_row ProcessImage = (16, process_tables, λ d i t. is_some (image_place d t))
rule_row ProcessRoom = (17, process_tables, λ d i t. has_place d i t)
rule_row LinkCount = (18, process_tables, λ d i t. has_link_count d t)
rule_row LinkTarget = (19, process_tables, λ d i t. all_items (has_target d) (link_tables t))
rule_row LinkLimits = (20, process_tables, λ d i t. all_items (is_limited d) (link_tables t))

unfoldable pub rule_number : BootRule → ℕ
rule_number rule = (rule_row rule).0

unfoldable pub subjects : BootRule → Data → Items
subjects rule d = (rule_row rule).1 d

unfoldable pub keeps : BootRule → Data → ℕ → Data → Bool
keeps rule d i t = (rule_row rule).2 d i t

-- the first place where a rule is broken
unfoldable pub broken_at : BootRule → Data → Option ℕ
broken_at rule d = first_failing (keeps rule d) 0 (subjects rule d)

-- the first of these rules that is broken, and its first place
unfoldable pub first_broken : List BootRule → Data → Option (BootRule × ℕ)
first_broken [] d = None
first_broken (rule ∷ rules) d = option_or (option_map (λ place. (rule, place)) (broken_at rule d)) (first_broken rules d)

-- the rules of the top table, the machines and the images
abbrev pub image_rules : List BootRule
image_rules =
    TopKeys ∷ Settings ∷ MachineCount ∷ MachineKeys ∷ MachineRoom
    ∷ ImageCount ∷ ImageKeys ∷ ImageName ∷ ImageBlocks ∷ ImageText ∷ ImageBytes ∷ []

-- the rules of the processes
abbrev pub process_rules : List BootRule
process_rules = ProcessKeys ∷ ProcessName ∷ ProcessMachine ∷ ProcessImage ∷ ProcessRoom ∷ []

-- the rules of the links
abbrev pub link_rules : List BootRule
link_rules = LinkCount ∷ LinkTarget ∷ LinkLimits ∷ []

-- the rules of a document, in the order of their numbers
abbrev pub rules : List BootRule
rules = image_rules ++ (process_rules ++ link_rules)

-- the rule that is one of those which tables alone decide; the others need the images' bytes or the processes before
unfoldable pub rule_of : TableRule → BootRule
rule_of of_tables.TopKeys = TopKeys
rule_of of_tables.Settings = Settings
rule_of of_tables.MachineCount = MachineCount
rule_of of_tables.MachineKeys = MachineKeys
rule_of of_tables.MachineRoom = MachineRoom
rule_of of_tables.ImageCount = ImageCount
rule_of of_tables.ImageKeys = ImageKeys
rule_of of_tables.ImageName = ImageName
rule_of of_tables.ImageBlocks = ImageBlocks
rule_of of_tables.ProcessKeys = ProcessKeys
rule_of of_tables.ProcessName = ProcessName
rule_of of_tables.ProcessMachine = ProcessMachine
rule_of of_tables.ProcessImage = ProcessImage
rule_of of_tables.LinkCount = LinkCount
rule_of of_tables.LinkTarget = LinkTarget
rule_of of_tables.LinkLimits = LinkLimits
