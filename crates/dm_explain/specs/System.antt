-- What a boot file says that breaks no rule.
use Rattle.std.specs.Prelude.{ℕ, ◌+◌, Bool, true, false, codes, List, [], ◌∷◌, ◌++◌, length, Option, None, Some}
use Rattle.std.specs.List.{concat}
use Rattle.std.specs.Fmt.{decimal}
use Rattle.toml.specs.Data.{Data, Items, get_item}
use Rattle.dm_link.specs.declared.Link.{Link}
use Rattle.dm_link.specs.declared.Kind.{Kind}
use Rattle.dm_link.specs.declared.Kind.TheVariants.{General, Reply}
use Rattle.dm_onekernel.specs.declared.boot.Boot.{Boot}
use Rattle.dm_onekernel.specs.declared.boot.BootImage.{BootImage}
use Rattle.dm_onekernel.specs.declared.boot.BootMachine.{BootMachine}
use Rattle.dm_onekernel.specs.declared.boot.BootProcess.{BootProcess}
use Rattle.dm_onekernel.specs.declared.boot.Format.{Format}
use Rattle.dm_onekernel.specs.declared.boot.Format.TheVariants.{One, Two}
use Rattle.dm_text.specs.Words.{pid_word}
use Rattle.dm_boot.specs.Build.{image_tables, process_tables}
use Rattle.dm_boot.specs.Tables.{text_at}
use Rattle.dm_explain.specs.Parts.{quoted}

-- what is said of each element, with its place from i on
unfoldable pub each : {X : Type 0} → (ℕ → X → List ℕ) → ℕ → List X → List ℕ
each told i [] = []
each told i (x ∷ xs) = told i x ++ each told (i + 1) xs

-- the text at a key of a table; nothing where there is no table
abbrev pub text_in : List ℕ → Option Data → List ℕ
text_in key None = []
text_in key (Some t) = text_at key t

abbrev pub format_word : Format → List ℕ
format_word One = codes "1"
format_word Two = codes "2"

unfoldable pub settings_told : Boot → List ℕ
settings_told b = concat (codes "format " ∷ format_word b.format ∷ codes ", numbers " ∷ decimal b.numbers ∷ codes ", quantum " ∷ decimal b.quantum ∷ codes "\n" ∷ [])

unfoldable pub machine_told : ℕ → BootMachine → List ℕ
machine_told i m = concat (codes "machine " ∷ decimal i ∷ codes ": " ∷ decimal m.slots ∷ codes " slots, " ∷ decimal m.blocks ∷ codes " blocks\n" ∷ [])

unfoldable pub image_told : Items → ℕ → BootImage → List ℕ
image_told ts i image =
    concat (codes "image " ∷ decimal i ∷ codes ": " ∷ quoted (text_in (codes "name") (get_item i ts)) ∷ codes ", " ∷ decimal image.blocks ∷ codes " blocks, " ∷ decimal (length image.bytes) ∷ codes " bytes of text\n" ∷ [])

abbrev pub link_kind_word : Kind → List ℕ
link_kind_word General = codes "general"
link_kind_word Reply = codes "reply"

-- what may be done with a link's area
abbrev pub area_rights_word : Bool → Bool → List ℕ
area_rights_word true true = codes ", to read and write"
area_rights_word true false = codes ", to read"
area_rights_word false true = codes ", to write"
area_rights_word false false = []

unfoldable pub link_told : ℕ → Link → List ℕ
link_told k l =
    concat (codes "    link " ∷ decimal k ∷ codes ": " ∷ link_kind_word l.kind ∷ codes " to " ∷ pid_word l.addr.pid ∷ codes " at " ∷ decimal l.addr.at
    ∷ codes ", code " ∷ decimal l.code ∷ codes ", channel " ∷ decimal l.channel ∷ codes ", area " ∷ decimal l.area.base ∷ codes " " ∷ decimal l.area.len
    ∷ area_rights_word l.area.read l.area.write ∷ codes "\n" ∷ [])

unfoldable pub boot_process_told : Items → ℕ → BootProcess → List ℕ
boot_process_told ts i p =
    concat (codes "process " ∷ pid_word p.pid ∷ codes ": " ∷ quoted p.name ∷ codes ", image " ∷ quoted (text_in (codes "image") (get_item i ts)) ∷ codes ", links: " ∷ decimal (length p.links) ∷ codes "\n" ∷ [])
    ++ each link_told 0 p.links

-- all of it
abbrev pub system_told : Boot → Data → List ℕ
system_told b d =
    settings_told b
    ++ each machine_told 0 b.machines
    ++ each (image_told (image_tables d)) 0 b.images
    ++ each (boot_process_told (process_tables d)) 0 b.processes
