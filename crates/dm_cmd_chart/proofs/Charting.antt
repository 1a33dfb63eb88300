-- What the status of a run says that was drawn.
use Rattle.dm_cmd_chart.proofs.Names.{◌≡◌, inl, inr, ℕ, List, Option, None, Result, Ok, Err, OnErr, OnOk, Boot, Directive, Failed, appended, IsCutShort, Done, Worn, Part, Notion, IsBeforeWorn, PictureIsWhole, ChartSays, unless_failed}

-- the picture of all of a run
pub whole_says : {A : Type 0} (part : Part) (q : Notion) (b : Boot) (ds : List Directive) (text : List ℕ) (before after : Option (List ℕ)) (r : Result A Failed) → PictureIsWhole part q b ds text → OnOk r (after ≡ appended before text) → OnErr r (IsCutShort before text after)
    → ChartSays part q b ds before after None (unless_failed r Done)
whole_says part q b ds text before after (Ok x) is all cut = record { text = text; is = is; written = all }
whole_says part q b ds text before after (Err e) is all cut = record { text = text; is = inl is; begun = cut }

-- the picture of what comes before a worn pair
pub worn_says : {A : Type 0} (part : Part) (q : Notion) (b : Boot) (ds : List Directive) (text : List ℕ) (from to : ℕ) (before after : Option (List ℕ)) (r : Result A Failed) → IsBeforeWorn part q b ds text from to → OnOk r (after ≡ appended before text) → OnErr r (IsCutShort before text after)
    → ChartSays part q b ds before after None (unless_failed r (Worn from to))
worn_says part q b ds text from to before after (Ok x) is all cut = record { text = text; is = is; written = all }
worn_says part q b ds text from to before after (Err e) is all cut = record { text = text; is = inr (from, to, is); begun = cut }
