-- Rules in parts, one after the other.
use Rattle.dm_boot.proofs.Imports.{◌≡◌, ℕ, ◌+◌, ◌≤◌, Bool, true, false, nat_le, if◌then◌else◌, List, [], ◌∷◌, ◌++◌, Option, Some, None, Result, Ok, Err, map, refl, ap, ◌∙◌, arith, nat_tests, Data, Items, no_items, item, Boot, BootRule}
use Rattle.dm_boot.proofs.Imports.{TopKeys, Settings, MachineCount, MachineKeys, MachineRoom, ImageCount, ImageText, ImageBytes, ProcessKeys, ProcessName, ProcessMachine, ProcessImage, ProcessRoom, BootError, Refused, NoMemory}
use Rattle.dm_boot.proofs.Imports.{before_images, count, first_failing, map_items, image_of, images_of, image_tables, process_tables, system_of, keeps, subjects, broken_at, broken_or, first_broken, first_unassembled, first_long, image_fits}
use Rattle.dm_boot.proofs.Imports.{has_place, rule_of, has_good_image_count, image_rules, process_rules, link_rules, rules, Answers, unless, unless_at, boot_of_table}
use Rattle.dm_boot.specs.declared.rules.TableRule.TheVariants as of_tables

-- what is broken first, or else what comes later
abbrev pub or_later : Option (BootRule × ℕ) → Option (BootRule × ℕ) → Option (BootRule × ℕ)
or_later None later = later
or_later (Some broken) later = Some broken

or_later-step : (rule : BootRule) (o : Option ℕ) (first later : Option (BootRule × ℕ)) → broken_or rule o (or_later first later) ≡ or_later (broken_or rule o first) later
or_later-step rule None first later = refl
or_later-step rule (Some place) first later = refl

-- the rules of two lists, one after the other
pub broken-append : (rs ss : List BootRule) (d : Data) → first_broken (rs ++ ss) d ≡ or_later (first_broken rs d) (first_broken ss d)
unfolding first_broken
broken-append [] ss d = refl
broken-append (r ∷ rs) ss d = ap (broken_or r (broken_at r d)) (broken-append rs ss d) ∙ or_later-step r (broken_at r d) (first_broken rs d) (first_broken ss d)

-- a list of rules of which none is broken
pub none-first : (rule : BootRule) (o : Option ℕ) (rest : Option (BootRule × ℕ)) → broken_or rule o rest ≡ None → (o ≡ None) × (rest ≡ None)
none-first rule None rest h = (refl, h)
none-first rule (Some place) rest h = absurd (cc)

pub none-head : (rule : BootRule) (rs : List BootRule) (d : Data) → first_broken (rule ∷ rs) d ≡ None → (broken_at rule d ≡ None) × (first_broken rs d ≡ None)
unfolding first_broken
none-head rule rs d h = none-first rule (broken_at rule d) (first_broken rs d) h

-- what an answer says of the rules
pub unless-ok : {A : Type 0} (o : Option (BootRule × ℕ)) (x y : A) → unless o x ≡ Ok y → (o ≡ None) × (x ≡ y)
unless-ok None x y h = (refl, cc)
unless-ok (Some broken) x y h = absurd (cc)

pub unless-err : {A : Type 0} (o : Option (BootRule × ℕ)) (x : A) (e : BootRule × ℕ) → unless o x ≡ Err e → o ≡ Some e
unless-err None x e h = absurd (cc)
unless-err (Some broken) x e h = cc

-- the rules that the code looks at by itself
pub texts-at : (d : Data) → broken_at ImageText d ≡ first_unassembled 0 (image_tables d)
unfolding broken_at keeps subjects first_unassembled
texts-at d = refl

pub room-at : (d : Data) → broken_at ProcessRoom d ≡ first_failing (has_place d) 0 (process_tables d)
unfolding broken_at keeps subjects
room-at d = refl

long-from : (i : ℕ) (ts : Items) → first_failing (λ _ t. image_fits (image_of t)) i ts ≡ first_long i (map_items image_of ts)
unfolding first_failing first_long map_items
long-from i no_items = refl
long-from i (item t ts) = ap (λ (rest : Option ℕ). if image_fits (image_of t) then rest else Some i) (long-from (i + 1) ts)

pub bytes-at : (d : Data) → broken_at ImageBytes d ≡ first_long 0 (images_of d)
unfolding broken_at keeps subjects
bytes-at d = long-from 0 (image_tables d)

-- one rule that the code looks at by itself
pub at-ok : {A : Type 0} (rule : BootRule) (o : Option ℕ) (x y : A) → unless_at rule o x ≡ Ok y → (o ≡ None) × (x ≡ y)
unfolding unless_at
at-ok rule None x y h = (refl, cc)
at-ok rule (Some place) x y h = absurd (cc)

pub at-err : {A : Type 0} (rule : BootRule) (o : Option ℕ) (rest : Option (BootRule × ℕ)) (x : A) (e : BootRule × ℕ) → unless_at rule o x ≡ Err e → broken_or rule o rest ≡ Some e
unfolding unless_at
at-err rule None rest x e h = absurd (cc)
at-err rule (Some place) rest x e h = cc

-- an answer that says what another said
pub pass-err : {A B : Type 0} (w : Result A (BootRule × ℕ)) (v : Result B (BootRule × ℕ)) (e : BootError) → ((x : BootRule × ℕ) → w ≡ Err x → v ≡ Err x) → Answers w (Err e) → Answers v (Err e)
pass-err w v (Refused rule place) turn h = turn (rule, place) h
pass-err w v (NoMemory _) turn h = tt

-- the rules before those that the code looks at by itself
abbrev pub before_room : List BootRule
before_room = ProcessKeys ∷ ProcessName ∷ ProcessMachine ∷ ProcessImage ∷ []

-- as the code lists them
pub room-listed : map rule_of (of_tables.ProcessKeys ∷ of_tables.ProcessName ∷ of_tables.ProcessMachine ∷ of_tables.ProcessImage ∷ []) ≡ before_room
unfolding rule_of
room-listed = refl

texts_and_bytes : (d : Data) → first_broken (ImageText ∷ ImageBytes ∷ []) d ≡ broken_or ImageText (first_unassembled 0 (image_tables d)) (broken_or ImageBytes (first_long 0 (images_of d)) None)
unfolding first_broken
texts_and_bytes d = ap (λ o. broken_or ImageText o (broken_or ImageBytes (broken_at ImageBytes d) None)) (texts-at d) ∙ ap (λ o. broken_or ImageText (first_unassembled 0 (image_tables d)) (broken_or ImageBytes o None)) (bytes-at d)

pub images-whole : (d : Data) → first_broken image_rules d ≡ or_later (first_broken before_images d) (broken_or ImageText (first_unassembled 0 (image_tables d)) (broken_or ImageBytes (first_long 0 (images_of d)) None))
images-whole d = broken-append before_images (ImageText ∷ ImageBytes ∷ []) d ∙ ap (or_later (first_broken before_images d)) (texts_and_bytes d)

pub starts-whole : (d : Data) → first_broken process_rules d ≡ or_later (first_broken before_room d) (broken_or ProcessRoom (first_failing (has_place d) 0 (process_tables d)) None)
unfolding first_broken
starts-whole d = broken-append before_room (ProcessRoom ∷ []) d ∙ ap (λ o. or_later (first_broken before_room d) (broken_or ProcessRoom o None)) (room-at d)

pub all-whole : (d : Data) → first_broken rules d ≡ or_later (first_broken image_rules d) (or_later (first_broken process_rules d) (first_broken link_rules d))
all-whole d = broken-append image_rules (process_rules ++ link_rules) d ∙ ap (or_later (first_broken image_rules d)) (broken-append process_rules link_rules d)

-- where the images' rules hold, there are at most 256 images
if_none : (b : Bool) → ◌≡◌ {A = Option ℕ} (if b then None else Some 0) None → b ≡ true
if_none true h = refl
if_none false h = absurd (cc)

pub at_top : (rule : BootRule) (d : Data) → subjects rule d ≡ item d no_items → broken_at rule d ≡ None → keeps rule d 0 d ≡ true
unfolding broken_at first_failing
at_top rule d alone h =
    let e = rw alone at h in
    if_none (keeps rule d 0 d) e

pub few-images : (d : Data) → first_broken before_images d ≡ None → count (image_tables d) ≤ 256
unfolding keeps subjects has_good_image_count
few-images d h =
    let a = (none-head TopKeys _ d h).1 in
    let b = (none-head Settings _ d a).1 in
    let e = (none-head MachineCount _ d b).1 in
    let f = (none-head MachineKeys _ d e).1 in
    let g = (none-head MachineRoom _ d f).1 in
    let k = (none-head ImageCount _ d g).0 in
    let few : nat_le (count (image_tables d)) 256 ≡ true = at_top ImageCount d refl k in
    grind (arith, nat_tests)

-- the whole, from its parts
pub whole-stops-images : {A : Type 0} (d : Data) (x : A) (e : BootRule × ℕ) → unless (first_broken image_rules d) x ≡ Err e → boot_of_table d ≡ Err e
unfolding boot_of_table
whole-stops-images d x e h =
    let broken = unless-err (first_broken image_rules d) x e h in
    rw (all-whole d, broken)

-- the rules of processes and of links, one after the other
pub links-stop : {A B : Type 0} (d : Data) (x : A) (y : B) (e : BootRule × ℕ) → unless (first_broken process_rules d) x ≡ Err e → unless (first_broken (process_rules ++ link_rules) d) y ≡ Err e
links-stop d x y e h =
    let broken = unless-err (first_broken process_rules d) x e h in
    rw (broken-append process_rules link_rules d, broken)

pub links-alone : {A : Type 0} (d : Data) (x : A) → first_broken process_rules d ≡ None → unless (first_broken link_rules d) x ≡ unless (first_broken (process_rules ++ link_rules) d) x
links-alone d x none = rw (broken-append process_rules link_rules d, none) refl

later-whole : (d : Data) → first_broken rules d ≡ or_later (first_broken image_rules d) (first_broken (process_rules ++ link_rules) d)
later-whole d = broken-append image_rules (process_rules ++ link_rules) d

pub whole-stops-later : {A : Type 0} (d : Data) (x : A) (e : BootRule × ℕ) → first_broken image_rules d ≡ None → unless (first_broken (process_rules ++ link_rules) d) x ≡ Err e → boot_of_table d ≡ Err e
unfolding boot_of_table
whole-stops-later d x e none h =
    let broken = unless-err (first_broken (process_rules ++ link_rules) d) x e h in
    rw (later-whole d, none, broken)

pub whole-ok : (d : Data) (b : Boot) → first_broken image_rules d ≡ None → first_broken (process_rules ++ link_rules) d ≡ None → system_of d ≡ b → boot_of_table d ≡ Ok b
unfolding boot_of_table
whole-ok d b none none_later built = rw (later-whole d, none, none_later) (ap (λ (s : Boot). Ok s) built)
