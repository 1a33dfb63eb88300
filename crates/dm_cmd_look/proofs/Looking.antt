-- What the status of the command `look` says of what is seen.
use Rattle.dm_cmd_look.proofs.Names.{◌≡◌, ℕ, Bool, List, Option, None, Result, Ok, Err, OnErr, OnOk, Failed, appended, IsCutShort, Boot, Directive, Done, Notion, Holding, IsSeen, unless_failed, LookSays}

-- what is seen was written, unless the sink failed
pub seen_says : {A : Type 0} (r : Notion) (Holds : Holding r) (most : ℕ) (names : Bool) (b : Boot) (ds : List Directive) (text : List ℕ) (before after : Option (List ℕ)) (wrote : Result A Failed) → IsSeen r Holds b ds most names text → OnOk wrote (after ≡ appended before text) → OnErr wrote (IsCutShort before text after)
    → LookSays r Holds most names b ds before after None (unless_failed wrote Done)
seen_says r Holds most names b ds text before after (Ok x) seen all cut = record { text = text; is = seen; written = all }
seen_says r Holds most names b ds text before after (Err e) seen all cut = record { text = text; is = seen; begun = cut }
