-- What is seen by one notion of a run is seen by another, to which it is carried.
use Rattle.dm_run.proofs.Names.{◌≡◌, inl, inr, ℕ, Bool, List, ap, ◌∙◌, Boot, Directive, EndLine, Line, Notion}
use Rattle.dm_run.proofs.Carried.{Carries, carried_wears}
use Rattle.dm_look.specs.Groups.{WearsBefore, last_group}
use Rattle.dm_look.specs.Letters.{Letter}
use Rattle.dm_look.specs.Looked.{Holding, IsSeen, look_text}
use Rattle.dm_look.specs.Names.{names_if}

-- where a run has come by one notion, it has by the other, and the same is seen there
pub record Seen (r q : Notion) (Holds : Holding r) (Held : Holding q) (b : Boot) (ds : List Directive) (gs : List (List Line)) (p : r.Place) : Type 0 where
  pub at : q.Place
  pub good : q.Leads b ds gs at
  pub over : r.IsOver b ds p → q.IsOver b ds at
  pub ends : r.ends b p ≡ q.ends b at
  pub holds : (letters : List Letter) → Holds b p letters → Held b at letters

abbrev pub Sees : (r q : Notion) → Holding r → Holding q → Boot → List Directive → Type 0
Sees r q Holds Held b ds = (gs : List (List Line)) (p : r.Place) → r.Leads b ds gs p → Seen r q Holds Held b ds gs p

pub seen_by : (r q : Notion) (Holds : Holding r) (Held : Holding q) (b : Boot) (ds : List Directive) (most : ℕ) (names : Bool) (text : List ℕ) → Sees r q Holds Held b ds → IsSeen r Holds b ds most names text → IsSeen q Held b ds most names text
seen_by r q Holds Held b ds most names text c h =
    let k = c h.groups h.at h.there.good in
    record {
      groups = h.groups;
      at = k.at;
      there = record { good = k.good; few = h.there.few; enough = elim h.there.enough [ inl all ↦ inl all | inr over ↦ inr (k.over over) ] };
      letters = h.letters;
      holds = k.holds h.letters h.holds;
      text_is = h.text_is ∙ ap (λ (es : List EndLine). look_text (names_if names b) (last_group h.groups) es h.letters) k.ends;
    }

pub wears_by : (r q : Notion) (b : Boot) (ds : List Directive) (most from to : ℕ) → Carries r q b ds → WearsBefore r b ds most from to → WearsBefore q b ds most from to
wears_by r q b ds most from to c h = record { groups = h.groups; wears = carried_wears r q b ds h.groups from to c h.wears; early = h.early }
