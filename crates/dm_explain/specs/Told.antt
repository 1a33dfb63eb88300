-- What is said of a boot file that breaks a rule.
use Rattle.std.specs.Prelude.{ℕ, ◌+◌, ◌==◌, nat_lt, Bool, if◌then◌else◌, codes, List, [], ◌∷◌, ◌++◌, length, Option, None, Some, option_map, unwrap_or, Result, Ok, Err}
use Rattle.std.specs.List.{concat}
use Rattle.std.specs.Fmt.{decimal}
use Rattle.std.specs.Option.{is_some, option_and_then}
use Rattle.toml.specs.Data.{Data, Items, as_table, get, get_item, item, no_items}
use Rattle.dm_asm.specs.declared.refusals.Why.{Why}
use Rattle.dm_asm.specs.declared.refusals.Why.TheVariants.{UnknownWord, BadRegister, BadNumber, OutOfRange, UnknownLabel, LabelTwice, OperandCount, TooLong}
use Rattle.dm_asm.specs.declared.labels.Place.{Place}
use Rattle.dm_asm.specs.Assembled.{assembled, places_of}
use Rattle.dm_asm.specs.Lines.{without_comment}
use Rattle.dm_asm.specs.Places.{label_of_words, line_size}
use Rattle.dm_reading.specs.Lines.{source_lines}
use Rattle.dm_reading.specs.Words.{source_words}
use Rattle.dm_onekernel.specs.Boot.{slots_of}
use Rattle.dm_boot.specs.declared.rules.BootRule.{BootRule}
use Rattle.dm_boot.specs.declared.rules.BootRule.TheVariants.{Document, TopKeys, Settings, MachineCount, MachineKeys, MachineRoom, ImageCount, ImageKeys, ImageName, ImageBlocks, ImageText, ImageBytes, ProcessKeys, ProcessName, ProcessMachine, ProcessImage, ProcessRoom, LinkCount, LinkTarget, LinkLimits}
use Rattle.dm_boot.specs.Build.{base_of, format_of, home_of, image_tables, is_control, len_of, link_tables, machine_tables, process_tables, program_of}
use Rattle.dm_boot.specs.Rules.{has_target, is_limited, is_link, memory_size_of, rule_number}
use Rattle.dm_boot.specs.Tables.{count, first_failing, items_at, named, text_at}
use Rattle.dm_boot.specs.Text.{is_boot_name, is_server_name}
use Rattle.dm_explain.specs.declared.told.keys.NotTable.{NotTable}
use Rattle.dm_explain.specs.declared.told.keys.TopRule.{TopRule}
use Rattle.dm_explain.specs.declared.told.keys.TopRule.TheVariants as top_rule
use Rattle.dm_explain.specs.declared.told.images.MachineRule.{MachineRule}
use Rattle.dm_explain.specs.declared.told.images.MachineRule.TheVariants as machine_rule
use Rattle.dm_explain.specs.declared.told.images.ImageRule.{ImageRule}
use Rattle.dm_explain.specs.declared.told.images.ImageRule.TheVariants as image_rule
use Rattle.dm_explain.specs.declared.told.processes.ProcessRule.{ProcessRule}
use Rattle.dm_explain.specs.declared.told.processes.ProcessRule.TheVariants as process_rule
use Rattle.dm_explain.specs.declared.told.links.LinkRule.{LinkRule}
use Rattle.dm_explain.specs.declared.told.links.LinkRule.TheVariants as link
use Rattle.dm_explain.specs.declared.told.families.Family.{Family}
use Rattle.dm_explain.specs.declared.told.families.Family.TheVariants as family
use Rattle.dm_explain.specs.declared.source.Last.{Last}
use Rattle.dm_explain.specs.declared.source.Last.TheVariants as last
use Rattle.dm_explain.specs.BadSources.{BadWord, bad_word_in, last_of, refused_told, source_of}
use Rattle.dm_explain.specs.Faults.{integer_at, key_fault, number_fault}
use Rattle.dm_explain.specs.LineAt.{line_at}
use Rattle.dm_explain.specs.Parts.{integer_text, quoted}
use Rattle.dm_explain.specs.TextFaults.{line_why}
use Rattle.dm_explain.specs.TextPlace.{line_before}
use Rattle.dm_explain.specs.Wanted.{channel_limits, control_wishes, image_limits, image_wishes, link_limits, link_wishes, machine_limits, machine_wishes, process_wishes, top_limits, top_wishes}

abbrev pub name_at : Data → List ℕ
name_at t = text_at (codes "name") t

-- an element by its place, and by its name
unfoldable pub place_title : List ℕ → ℕ → List ℕ
place_title kind place = concat (kind ∷ codes " " ∷ decimal place ∷ codes ": " ∷ [])

unfoldable pub titled : List ℕ → Data → List ℕ
titled kind t = concat (kind ∷ codes " " ∷ quoted (name_at t) ∷ codes ": " ∷ [])

-- what is said of an element, where there is one
abbrev pub of_element : Option Data → (Data → List ℕ) → List ℕ
of_element None told = []
of_element (Some t) told = told t

-- so many, which must be within limits
unfoldable pub count_told : ℕ → List ℕ → ℕ → ℕ → List ℕ
count_told n what least most = concat (decimal n ∷ codes " " ∷ what ∷ codes ", which must be " ∷ decimal least ∷ codes " to " ∷ decimal most ∷ [])

-- an element that is no table: the key of its array, and its place there
pub record NoTable : Type 0 where
  pub key : List ℕ
  pub place : ℕ

abbrev pub not_table : NotTable → NoTable
not_table n = record { key = n.key.now; place = n.place }

-- the first of the array at a key, or another
abbrev pub no_table_or : List ℕ → Option ℕ → Option NoTable → Option NoTable
no_table_or k None other = other
no_table_or k (Some i) other = Some (record { key = k; place = i })

-- the place of the first element of the array at a key that is no table
abbrev pub no_table_at : List ℕ → Data → Option ℕ
no_table_at key d = first_failing (λ i t. is_some (as_table t)) 0 (items_at key d)

-- the first machine, image or process that is none
abbrev pub first_no_table : Data → Option NoTable
first_no_table d =
    no_table_or (codes "machine") (no_table_at (codes "machine") d)
    (no_table_or (codes "image") (no_table_at (codes "image") d) (no_table_or (codes "process") (no_table_at (codes "process") d) None))

abbrev pub no_table_told : Option NoTable → List ℕ
no_table_told None = []
no_table_told (Some n) = concat (n.key ∷ codes " " ∷ decimal n.place ∷ codes ": it must be a table" ∷ [])

-- rules of the top table
abbrev pub top_told : TopRule → Data → List ℕ
top_told top_rule.Keys d = key_fault top_wishes (no_table_told (first_no_table d)) d
top_told top_rule.Settings d = number_fault top_limits [] d
top_told top_rule.Machines d = count_told (count (machine_tables d)) (codes "machines") 1 16
top_told top_rule.Images d = count_told (count (image_tables d)) (codes "images") 0 256

-- what is wrong with a machine
abbrev pub machine_fault : MachineRule → Data → List ℕ
machine_fault machine_rule.Keys t = key_fault machine_wishes [] t
machine_fault machine_rule.Room t = number_fault machine_limits [] t

-- rules of machine i
abbrev pub machine_rule_told : MachineRule → ℕ → Data → List ℕ
machine_rule_told r i t = place_title (codes "machine") i ++ machine_fault r t

-- a name that is another's, or none
abbrev pub no_name : List ℕ
no_name = codes " is no name, which has 1 to 16 of a to z, 0 to 9 and _"

abbrev pub image_name_words : List ℕ → List ℕ
image_name_words name = if is_boot_name name then codes " is an earlier image's name" else no_name

abbrev pub process_name_words : List ℕ → List ℕ
process_name_words name = if is_boot_name name then (if is_server_name name then codes " is a server's name" else codes " is an earlier process's name") else no_name

-- a line of an image's text is refused
abbrev pub image_line_told : Data → (List ℕ → Option Place) → ℕ → Why → List ℕ → List ℕ
image_line_told t places number why line = concat (codes "image " ∷ quoted (name_at t) ∷ codes ", line " ∷ decimal number ∷ codes ": " ∷ []) ++ refused_told places why (source_of line) line

abbrev pub text_told : Data → List ℕ → Result (List ℕ) (ℕ × Why) → List ℕ
text_told t text (Ok bytes) = []
text_told t text (Err refused) =
    image_line_told t (places_of text) refused.0 refused.1 (line_at refused.0 (source_lines text))

-- how a rule is named
abbrev pub rule_title : BootRule → List ℕ
rule_title rule = concat (codes "rule " ∷ decimal (rule_number rule) ∷ codes ": " ∷ [])

-- what a number is, or the label of .equ
abbrev pub given_label_note : Option BadWord → List ℕ
given_label_note None = []
given_label_note (Some b) =
    if b.place == 1 then codes "    a label has 1 to 16 of a to z, 0 to 9 and _, the first no digit, and is no register\n"
    else codes "    a number has digits alone, or 0x and hexadecimal digits, or is a character, as 'a'\n"

-- what a number is, or a text, behind a line in which none stands where one must
abbrev pub literal_note : Last → Option BadWord → List ℕ
literal_note last.Label b = []
literal_note last.Nothing b = []
literal_note last.Text b = codes "    a text has printed bytes alone, without quotation marks and semicolons, and nothing stands behind it\n"
literal_note last.Multiple b = codes "    a number has digits alone, or 0x and hexadecimal digits, or is a character, as 'a'\n"
literal_note last.Call b = codes "    a number has digits alone, or 0x and hexadecimal digits, or is a character, as 'a'; a call is EXIT OUT MAKE COPY DROP SEND RECEIVE or MOVE\n"
literal_note (last.Number most) b = codes "    a number has digits alone, or 0x and hexadecimal digits, or is a character, as 'a'\n"
literal_note (last.Value most) b = codes "    a number has digits alone, or 0x and hexadecimal digits, or is a character, as 'a'\n"
literal_note (last.Arguments c) b = codes "    a number has digits alone, or 0x and hexadecimal digits, or is a character, as 'a'\n"
literal_note last.Bytes b = codes "    a number has digits alone, or 0x and hexadecimal digits, or is a character, as 'a'\n"
literal_note last.GivenLabel b = given_label_note b

-- on which line a label stands first, behind a line that has it again
abbrev pub label_note : Option Place → List ℕ
label_note None = []
label_note (Some p) = concat (codes "    the label stands on line " ∷ decimal p.line ∷ codes " already\n" ∷ [])

-- what more there is to say of why a line is refused
abbrev pub note_told : (List ℕ → Option Place) → Why → List ℕ → List ℕ
note_told places BadNumber line = literal_note (last_of (source_of line)) (bad_word_in places (source_of line))
note_told places LabelTwice line = label_note (option_and_then places (label_of_words (source_words (without_comment line))))
note_told places UnknownWord line = []
note_told places BadRegister line = []
note_told places OutOfRange line = []
note_told places UnknownLabel line = []
note_told places OperandCount line = []
note_told places TooLong line = []

-- where the line stands in the file, if its text stands there as it is
abbrev pub place_told : Option ℕ → ℕ → List ℕ
place_told None number = []
place_told (Some before) number = concat (codes "    line " ∷ decimal (before + number) ∷ codes " of the file\n" ∷ [])

-- a line that is refused; the first was said before
abbrev pub again_told : Data → ℕ → (List ℕ → Option Place) → ℕ → Why → List ℕ → List ℕ
again_told t first places number why line = if nat_lt first number then rule_title ImageText ++ image_line_told t places number why line ++ codes "\n" else []

unfoldable pub refusal_told : Data → Option ℕ → ℕ → (List ℕ → Option Place) → ℕ → Why → List ℕ → List ℕ
refusal_told t before first places number why line = again_told t first places number why line ++ note_told places why line ++ place_told before number

abbrev pub line_fault_told : Data → Option ℕ → ℕ → (List ℕ → Option Place) → ℕ → List ℕ → Option Why → List ℕ
line_fault_told t before first places number line None = []
line_fault_told t before first places number line (Some why) = refusal_told t before first places number why line

-- each line that is refused, from a line on with its number and address
unfoldable pub later_lines : Data → Option ℕ → ℕ → (List ℕ → Option Place) → ℕ → ℕ → List (List ℕ) → List ℕ
later_lines t before first places number at [] = []
later_lines t before first places number at (l ∷ ls) =
    line_fault_told t before first places number l (line_why places number at l) ++ later_lines t before first places (number + 1) (at + line_size at l) ls

-- what is said behind the first line of an image's text that is refused, whose text stands in a file
abbrev pub program_told : List ℕ → Data → List ℕ → Result (List ℕ) (ℕ × Why) → List ℕ
program_told file t text (Ok bytes) = []
program_told file t text (Err refused) = later_lines t (line_before text 1 file) refused.0 (places_of text) 1 0 (source_lines text)

-- the same of a text of which no line was told before
abbrev pub whole_program_told : List ℕ → Data → List ℕ → List ℕ
whole_program_told file t text = later_lines t (line_before text 1 file) 0 (places_of text) 1 0 (source_lines text)

-- of each of these images that stands behind a place, where the first of them is image i
unfoldable pub later_images : List ℕ → ℕ → ℕ → Items → List ℕ
later_images file place i no_items = []
later_images file place i (item t ts) = (if nat_lt place i then whole_program_told file t (text_at (codes "text") t) else []) ++ later_images file place (i + 1) ts

abbrev pub bytes_told : Data → Result (List ℕ) (ℕ × Why) → List ℕ
bytes_told t (Ok bytes) =
    titled (codes "image") t ++ concat (decimal (length bytes) ∷ codes " bytes, and 256 times blocks = " ∷ integer_text (integer_at (codes "blocks") t) ∷ codes " have room" ∷ [])
bytes_told t (Err refused) = []

-- how image i is named, where a rule is broken, and what is wrong with it
abbrev pub image_title : ImageRule → ℕ → Data → List ℕ
image_title image_rule.Keys i t = place_title (codes "image") i
image_title image_rule.Name i t = place_title (codes "image") i
image_title image_rule.Blocks i t = titled (codes "image") t
image_title image_rule.Text i t = []
image_title image_rule.Bytes i t = []

abbrev pub image_fault : ImageRule → Data → List ℕ
image_fault image_rule.Keys t = key_fault image_wishes [] t
image_fault image_rule.Name t = concat (quoted (name_at t) ∷ image_name_words (name_at t) ∷ [])
image_fault image_rule.Blocks t = number_fault image_limits [] t
image_fault image_rule.Text t = text_told t (text_at (codes "text") t) (assembled (text_at (codes "text") t))
image_fault image_rule.Bytes t = bytes_told t (assembled (text_at (codes "text") t))

-- rules of image i
abbrev pub image_rule_told : ImageRule → ℕ → Data → List ℕ
image_rule_told r i t = image_title r i t ++ image_fault r t

-- what is said of a link by a rule that it breaks
abbrev pub target_told : Data → List ℕ
target_told l =
    if is_control l then concat (codes "no process is named " ∷ quoted (text_at (codes "control") l) ∷ [])
    else concat (codes "no process or server is named " ∷ quoted (text_at (codes "to") l) ∷ [])

abbrev pub area_told : Data → Data → List ℕ
area_told d l = concat (codes "base and len are more than " ∷ decimal (memory_size_of d (text_at (codes "to") l)) ∷ codes " together, the bytes of the memory of " ∷ quoted (text_at (codes "to") l) ∷ [])

-- the name of the image of the process with this name
unfoldable pub image_name_of : Data → List ℕ → List ℕ
image_name_of d name = unwrap_or (option_map (λ t. text_at (codes "image") t) (named name (process_tables d))) []

-- the text at a key is no label of the image of the process to which a link leads
abbrev pub no_line_told : List ℕ → Data → Data → List ℕ
no_line_told key d l =
    concat (key ∷ codes " = " ∷ quoted (text_at key l) ∷ codes ", and no line of image " ∷ quoted (image_name_of d (text_at (codes "to") l)) ∷ codes " has this label" ∷ [])

-- the label where an area is to end isn't one, or stands before it begins
abbrev pub end_told : Data → Data → List ℕ
end_told d l =
    if is_some (places_of (program_of d (text_at (codes "to") l)) (text_at (codes "len") l))
    then concat (codes "len = " ∷ quoted (text_at (codes "len") l) ∷ codes ", and this label stands before base" ∷ [])
    else no_line_told (codes "len") d l

-- which label of an area isn't where it must be, or that the area isn't within the memory
abbrev pub places_told : List ℕ → Data → Data → List ℕ
places_told program d l =
    if is_some (base_of program l) then (if is_some (len_of program l) then area_told d l else end_told d l) else no_line_told (codes "base") d l

abbrev pub limits_told : Data → Data → List ℕ
limits_told d l =
    if is_server_name (text_at (codes "to") l) then number_fault channel_limits (concat (codes "a link to a server has no code, base, len, read or write" ∷ [])) l
    else number_fault link_limits (places_told (program_of d (text_at (codes "to") l)) d l) l

-- the keys of a link, which may control if it has that key
abbrev pub table_keys_told : Data → Option Data → List ℕ
table_keys_told l None = key_fault link_wishes [] l
table_keys_told l (Some d) = key_fault control_wishes [] l

abbrev pub link_keys_told : Data → List ℕ
link_keys_told l = if is_some (as_table l) then table_keys_told l (get (codes "control") l) else codes "it must be a table"

abbrev pub link_rule_told : LinkRule → Data → Data → List ℕ
link_rule_told link.Keys d l = link_keys_told l
link_rule_told link.Target d l = target_told l
link_rule_told link.Limits d l = limits_told d l

-- a link keeps a rule
abbrev pub link_keeps : LinkRule → Data → Data → Bool
link_keeps link.Keys d l = is_link l
link_keeps link.Target d l = has_target d l
link_keeps link.Limits d l = is_limited d l

-- the first link that breaks a rule
abbrev pub bad_link : LinkRule → Data → Data → Option ℕ
bad_link r d t = first_failing (λ k l. link_keeps r d l) 0 (link_tables t)

abbrev pub at_link : LinkRule → Data → Data → Option ℕ → List ℕ
at_link r d t None = []
at_link r d t (Some k) = place_title (codes "link") k ++ of_element (get_item k (link_tables t)) (λ l. link_rule_told r d l)

-- the keys of a process, or of its first bad link
abbrev pub keys_told : Data → Data → Option ℕ → List ℕ
keys_told d t None = key_fault process_wishes [] t
keys_told d t (Some k) = at_link link.Keys d t (Some k)

-- the room of the machine of a process
abbrev pub room_told : Data → List ℕ
room_told m = concat (codes ", which has slots = " ∷ integer_text (integer_at (codes "slots") m) ∷ codes " and blocks = " ∷ integer_text (integer_at (codes "blocks") m) ∷ [])

-- the machine of a process, and those that there are
abbrev pub home_told : Data → Data → List ℕ
home_told d t = concat (codes "machine = " ∷ integer_text (integer_at (codes "machine") t) ∷ codes ", and the machines are " ∷ decimal (count (machine_tables d)) ∷ codes ", from 0 on" ∷ [])

-- a machine has no room for a process
abbrev pub no_room_told : Data → Data → List ℕ
no_room_told d t = concat (codes "with those before it there is no room for it on machine " ∷ decimal (home_of t) ∷ []) ++ of_element (get_item (home_of t) (machine_tables d)) room_told

-- how process i is named, where a rule is broken, and what is wrong with it
abbrev pub process_title : ProcessRule → ℕ → Data → List ℕ
process_title process_rule.Keys i t = place_title (codes "process") i
process_title process_rule.Name i t = place_title (codes "process") i
process_title process_rule.Machine i t = titled (codes "process") t
process_title process_rule.Image i t = titled (codes "process") t
process_title process_rule.Room i t = titled (codes "process") t
process_title process_rule.LinkCount i t = titled (codes "process") t
process_title process_rule.LinkTarget i t = titled (codes "process") t
process_title process_rule.LinkLimits i t = titled (codes "process") t

abbrev pub process_fault : ProcessRule → Data → Data → List ℕ
process_fault process_rule.Keys d t = keys_told d t (bad_link link.Keys d t)
process_fault process_rule.Name d t = concat (quoted (name_at t) ∷ process_name_words (name_at t) ∷ [])
process_fault process_rule.Machine d t = home_told d t
process_fault process_rule.Image d t = concat (codes "no image is named " ∷ quoted (text_at (codes "image") t) ∷ [])
process_fault process_rule.Room d t = no_room_told d t
process_fault process_rule.LinkCount d t = count_told (count (link_tables t)) (codes "links") 0 (slots_of (format_of d))
process_fault process_rule.LinkTarget d t = at_link link.Target d t (bad_link link.Target d t)
process_fault process_rule.LinkLimits d t = at_link link.Limits d t (bad_link link.Limits d t)

-- rules of process i
abbrev pub process_rule_told : ProcessRule → Data → ℕ → Data → List ℕ
process_rule_told r d i t = process_title r i t ++ process_fault r d t

-- a rule by what it is of
abbrev pub family_of : BootRule → Family
family_of Document = family.Document
family_of TopKeys = family.Top top_rule.Keys
family_of Settings = family.Top top_rule.Settings
family_of MachineCount = family.Top top_rule.Machines
family_of MachineKeys = family.Machine machine_rule.Keys
family_of MachineRoom = family.Machine machine_rule.Room
family_of ImageCount = family.Top top_rule.Images
family_of ImageKeys = family.Image image_rule.Keys
family_of ImageName = family.Image image_rule.Name
family_of ImageBlocks = family.Image image_rule.Blocks
family_of ImageText = family.Image image_rule.Text
family_of ImageBytes = family.Image image_rule.Bytes
family_of ProcessKeys = family.Process process_rule.Keys
family_of ProcessName = family.Process process_rule.Name
family_of ProcessMachine = family.Process process_rule.Machine
family_of ProcessImage = family.Process process_rule.Image
family_of ProcessRoom = family.Process process_rule.Room
family_of LinkCount = family.Process process_rule.LinkCount
family_of LinkTarget = family.Process process_rule.LinkTarget
family_of LinkLimits = family.Process process_rule.LinkLimits

-- what is said of a rule that the element at a place breaks
abbrev pub rule_told : Family → ℕ → Data → List ℕ
rule_told family.Document i d = []
rule_told (family.Top r) i d = top_told r d
rule_told (family.Machine r) i d = of_element (get_item i (machine_tables d)) (λ t. machine_rule_told r i t)
rule_told (family.Image r) i d = of_element (get_item i (image_tables d)) (λ t. image_rule_told r i t)
rule_told (family.Process r) i d = of_element (get_item i (process_tables d)) (λ t. process_rule_told r d i t)

-- what else is said of it, in lines behind that: of the other lines of its text, and of later images
abbrev pub behind_told : List ℕ → Family → ℕ → Data → List ℕ
behind_told file family.Document i d = []
behind_told file (family.Top r) i d = []
behind_told file (family.Machine r) i d = []
behind_told file (family.Image image_rule.Keys) i d = []
behind_told file (family.Image image_rule.Name) i d = []
behind_told file (family.Image image_rule.Blocks) i d = []
behind_told file (family.Image image_rule.Text) i d =
    of_element (get_item i (image_tables d)) (λ t. program_told file t (text_at (codes "text") t) (assembled (text_at (codes "text") t))) ++ later_images file i 0 (image_tables d)
behind_told file (family.Image image_rule.Bytes) i d = []
behind_told file (family.Process r) i d = []

-- all that is said of it, of the document of a file
abbrev pub broken_told : List ℕ → BootRule → ℕ → Data → List ℕ
broken_told file rule i d = rule_title rule ++ rule_told (family_of rule) i d ++ codes "\n" ++ behind_told file (family_of rule) i d
