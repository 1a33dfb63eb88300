-- The keys that tables of a boot file may have, and the limits of their numbers.
use Rattle.std.specs.Prelude.{ℕ, codes, List, [], ◌∷◌, Bool, true, false}
use Rattle.dm_explain.specs.declared.wanted.Key.{Key}
use Rattle.dm_explain.specs.declared.wanted.Range.{Range}
use Rattle.dm_explain.specs.declared.wanted.Sort.{Sort}
use Rattle.dm_explain.specs.declared.wanted.Sort.TheVariants.{Integer, Text, Truth, Array, Place}

abbrev pub sort_words : Sort → List ℕ
sort_words Integer = codes "an integer"
sort_words Text = codes "a text"
sort_words Truth = codes "true or false"
sort_words Place = codes "an integer or a text"
sort_words Array = codes "an array of tables"

-- what a key must be, and whether it must be there
pub record Wish : Type 0 where
  pub key : List ℕ
  pub sort : Sort
  pub needed : Bool

abbrev pub must : List ℕ → Sort → Wish
must k s = record { key = k; sort = s; needed = true }

abbrev pub may : List ℕ → Sort → Wish
may k s = record { key = k; sort = s; needed = false }

abbrev pub wish_of : Key → Wish
wish_of k = record { key = k.name.now; sort = k.sort; needed = k.needed }

abbrev pub top_wishes : List Wish
top_wishes =
    may (codes "format") Integer ∷ may (codes "numbers") Integer ∷ may (codes "quantum") Integer
    ∷ may (codes "machine") Array ∷ may (codes "image") Array ∷ may (codes "process") Array ∷ []

abbrev pub machine_wishes : List Wish
machine_wishes = must (codes "slots") Integer ∷ must (codes "blocks") Integer ∷ []

abbrev pub image_wishes : List Wish
image_wishes = must (codes "name") Text ∷ must (codes "blocks") Integer ∷ must (codes "text") Text ∷ []

abbrev pub process_wishes : List Wish
process_wishes = must (codes "name") Text ∷ must (codes "image") Text ∷ must (codes "machine") Integer ∷ may (codes "links") Array ∷ []

abbrev pub link_wishes : List Wish
link_wishes =
    must (codes "to") Text ∷ may (codes "code") Integer ∷ may (codes "channel") Integer ∷ may (codes "base") Place ∷ may (codes "len") Place
    ∷ may (codes "reply") Truth ∷ may (codes "read") Truth ∷ may (codes "write") Truth ∷ []

abbrev pub control_wishes : List Wish
control_wishes = must (codes "control") Text ∷ []

-- the least and the most that a number may be
pub record Limit : Type 0 where
  pub key : List ℕ
  pub least : ℕ
  pub most : ℕ

abbrev pub limit : List ℕ → ℕ → ℕ → Limit
limit k a b = record { key = k; least = a; most = b }

abbrev pub limit_of : Range → Limit
limit_of r = limit r.name.now r.least r.most

abbrev pub top_limits : List Limit
top_limits = limit (codes "numbers") 1 1048576 ∷ limit (codes "quantum") 1 1000 ∷ limit (codes "format") 1 2 ∷ []

abbrev pub machine_limits : List Limit
machine_limits = limit (codes "slots") 0 64 ∷ limit (codes "blocks") 0 4096 ∷ []

abbrev pub image_limits : List Limit
image_limits = limit (codes "blocks") 1 256 ∷ []

abbrev pub channel_limits : List Limit
channel_limits = limit (codes "channel") 0 31 ∷ []

abbrev pub link_limits : List Limit
link_limits = limit (codes "channel") 0 31 ∷ limit (codes "code") 0 4294967295 ∷ limit (codes "base") 0 65536 ∷ limit (codes "len") 0 65536 ∷ []
