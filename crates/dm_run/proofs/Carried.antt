-- One notion of a run carries to another what is said by it.
use Rattle.dm_chart.specs.declared.kept.Part.{Part}
use Rattle.dm_run.proofs.Names.{◌≡◌, ◌↔◌, ◌⊎◌, inl, inr, ℕ, ◌++◌, List, [], ap, ◌∙◌, subst, All, Option, None, Some, Boot, Directive, EndLine, Line, EndFits, text_of_ends, text_of_lines, joined, World, appended}
use Rattle.dm_run.proofs.Names.{Notion, StandsFor, IsWhole, IsOfFirst, IsBegun, WearsAfter, RunWears, PictureIsWhole, IsBeforeWorn}

-- where a run has come by one notion, it has by the other, and all is alike there
pub record Carried (r s : Notion) (b : Boot) (ds : List Directive) (gs : List (List Line)) (p : r.Place) : Type 0 where
  pub at : s.Place
  pub good : s.Leads b ds gs at
  pub over : r.IsOver b ds p → s.IsOver b ds at
  pub rests : r.IsOver b ds p → s.Rests b ds at
  pub wears : (from to : ℕ) → r.Wears b ds p from to → s.Wears b ds at from to
  pub ends : r.ends b p ≡ s.ends b at
  pub quiet : r.IsQuiet b p ↔ s.IsQuiet b at
  pub stands : (w : World) → r.Stands b p w → s.Stands b at w

abbrev pub Carries : Notion → Notion → Boot → List Directive → Type 0
Carries r s b ds = (gs : List (List Line)) (p : r.Place) → r.Leads b ds gs p → Carried r s b ds gs p

pub carried_world : (r s : Notion) (b : Boot) (ds : List Directive) (gs : List (List Line)) (p : r.Place) (c : Carried r s b ds gs p) (world : Option World) → StandsFor r b p world → StandsFor s b c.at world
carried_world r s b ds gs p c None h = h
carried_world r s b ds gs p c (Some w) h = (h.0, h.1, c.stands w h.2)

pub carried_whole : (r s : Notion) (b : Boot) (ds : List Directive) (old new : Option (List ℕ)) (world : Option World) → Carries r s b ds → IsWhole r b ds old new world → IsWhole s b ds old new world
carried_whole r s b ds old new world carries h =
    let c = carries h.groups h.at h.good in
    record {
      groups = h.groups;
      at = c.at;
      good = c.good;
      over = c.over h.over;
      rests = c.rests h.over;
      fits = h.fits;
      ends_fit = subst (All EndFits) c.ends h.ends_fit;
      written = h.written ∙ ap (λ (es : List EndLine). appended old (text_of_lines (joined h.groups) ++ text_of_ends es)) c.ends;
      stands = carried_world r s b ds h.groups h.at c world h.stands;
    }

pub carried_first : (r s : Notion) (b : Boot) (ds : List Directive) (old new : Option (List ℕ)) → Carries r s b ds → IsOfFirst r b ds old new → IsOfFirst s b ds old new
carried_first r s b ds old new carries h =
    let c = carries h.groups h.at h.good in
    record { groups = h.groups; at = c.at; good = c.good; fits = h.fits; written = h.written }

carried_last : (r s : Notion) (b : Boot) (ds : List Directive) (gs : List (List Line)) (p : r.Place) (c : Carried r s b ds gs p) (last : List EndLine) → (last ≡ []) ⊎ (r.IsOver b ds p × (last ≡ r.ends b p)) → (last ≡ []) ⊎ (s.IsOver b ds c.at × (last ≡ s.ends b c.at))
carried_last r s b ds gs p c last (inl none) = inl none
carried_last r s b ds gs p c last (inr h) = inr (c.over h.0, h.1 ∙ c.ends)

pub carried_begun : (r s : Notion) (b : Boot) (ds : List Directive) (old new : Option (List ℕ)) (world : Option World) → Carries r s b ds → IsBegun r b ds old new world → IsBegun s b ds old new world
carried_begun r s b ds old new world carries h =
    let c = carries h.groups h.at h.good in
    record {
      groups = h.groups;
      at = c.at;
      good = c.good;
      last = h.last;
      last_is = carried_last r s b ds h.groups h.at c h.last h.last_is;
      fits = h.fits;
      last_fits = h.last_fits;
      begun = h.begun;
      others = h.others;
      prefix = h.prefix;
      more = h.more;
      written = h.written;
      stands = carried_world r s b ds h.groups h.at c world h.stands;
    }

pub carried_wears : (r s : Notion) (b : Boot) (ds : List Directive) (gs : List (List Line)) (from to : ℕ) → Carries r s b ds → WearsAfter r b ds gs from to → WearsAfter s b ds gs from to
carried_wears r s b ds gs from to carries h =
    let c = carries gs h.at h.good in
    record { at = c.at; good = c.good; worn = c.wears from to h.worn }

pub carried_run_wears : (r s : Notion) (b : Boot) (ds : List Directive) (old new : Option (List ℕ)) (from to : ℕ) → Carries r s b ds → RunWears r b ds old new from to → RunWears s b ds old new from to
carried_run_wears r s b ds old new from to carries h = record { groups = h.groups; wears = carried_wears r s b ds h.groups from to carries h.wears; fits = h.fits; written = h.written }

pub carried_picture : (part : Part) (r s : Notion) (b : Boot) (ds : List Directive) (text : List ℕ) → Carries r s b ds → PictureIsWhole part r b ds text → PictureIsWhole part s b ds text
carried_picture part r s b ds text carries h =
    let c = carries h.groups h.at h.good in
    record { groups = h.groups; at = c.at; good = c.good; over = c.over h.over; rests = c.rests h.over; text_is = h.text_is }

pub carried_before_worn : (part : Part) (r s : Notion) (b : Boot) (ds : List Directive) (text : List ℕ) (from to : ℕ) → Carries r s b ds → IsBeforeWorn part r b ds text from to → IsBeforeWorn part s b ds text from to
carried_before_worn part r s b ds text from to carries h = record { groups = h.groups; wears = carried_wears r s b ds h.groups from to carries h.wears; text_is = h.text_is }
