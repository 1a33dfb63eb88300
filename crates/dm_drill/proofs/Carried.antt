-- One notion of a run carries to another what is said of a drill by it.
use Rattle.dm_drill.proofs.Names.{◌≡◌, ◌↔◌, ◌⊎◌, inl, inr, ℕ, Bool, true, List, [], Option, Boot, Directive, Line, World, Report, Notion, SumsUp, DrillIsBegun, DrillIsOfFirst, DrillIsWhole, DrillWears, Carried, Carries}
use Rattle.dm_drill.proofs.Names.{carried_wears, carried_world}

both_ways : (x y z : Type 0) → x ↔ y → y ↔ z → x ↔ z
both_ways x y z f g = (λ a. g.0 (f.0 a), λ c. f.1 (g.1 c))

carried_sums : (r s : Notion) (k : Report) (b : Boot) (ds : List Directive) (gs : List (List Line)) (p : r.Place) (c : Carried r s b ds gs p) (text : List ℕ) → SumsUp r k b ds gs p text → SumsUp s k b ds gs c.at text
carried_sums r s k b ds gs p c text h = record {
  over = c.over h.over;
  quiet = h.quiet;
  tells = record { tells = both_ways (h.quiet ≡ true) (r.IsQuiet b p) (s.IsQuiet b c.at) h.tells.tells c.quiet };
  is = h.is;
}

carried_last : (r s : Notion) (k : Report) (b : Boot) (ds : List Directive) (gs : List (List Line)) (p : r.Place) (c : Carried r s b ds gs p) (last : List ℕ) → (last ≡ []) ⊎ SumsUp r k b ds gs p last → (last ≡ []) ⊎ SumsUp s k b ds gs c.at last
carried_last r s k b ds gs p c last (inl none) = inl none
carried_last r s k b ds gs p c last (inr h) = inr (carried_sums r s k b ds gs p c last h)

pub carried_whole : (r s : Notion) (tr : Bool) (k : Report) (b : Boot) (ds : List Directive) (old new : Option (List ℕ)) (world : Option World) → Carries r s b ds → DrillIsWhole r tr k b ds old new world → DrillIsWhole s tr k b ds old new world
carried_whole r s tr k b ds old new world carries h =
    let c = carries h.groups h.at h.good in
    record {
      groups = h.groups;
      at = c.at;
      good = c.good;
      rests = c.rests h.sums.over;
      fits = h.fits;
      last = h.last;
      sums = carried_sums r s k b ds h.groups h.at c h.last h.sums;
      written = h.written;
      stands = carried_world r s b ds h.groups h.at c world h.stands;
    }

pub carried_first : (r s : Notion) (tr : Bool) (b : Boot) (ds : List Directive) (old new : Option (List ℕ)) → Carries r s b ds → DrillIsOfFirst r tr b ds old new → DrillIsOfFirst s tr b ds old new
carried_first r s tr b ds old new carries h =
    let c = carries h.groups h.at h.good in
    record { groups = h.groups; at = c.at; good = c.good; fits = h.fits; written = h.written }

pub carried_begun : (r s : Notion) (tr : Bool) (k : Report) (b : Boot) (ds : List Directive) (old new : Option (List ℕ)) (world : Option World) → Carries r s b ds → DrillIsBegun r tr k b ds old new world → DrillIsBegun s tr k b ds old new world
carried_begun r s tr k b ds old new world carries h =
    let c = carries h.groups h.at h.good in
    record {
      groups = h.groups;
      at = c.at;
      good = c.good;
      last = h.last;
      last_is = carried_last r s k b ds h.groups h.at c h.last h.last_is;
      fits = h.fits;
      begun = h.begun;
      others = h.others;
      prefix = h.prefix;
      more = h.more;
      written = h.written;
      stands = carried_world r s b ds h.groups h.at c world h.stands;
    }

pub carried_drill_wears : (r s : Notion) (tr : Bool) (b : Boot) (ds : List Directive) (old new : Option (List ℕ)) (from to : ℕ) → Carries r s b ds → DrillWears r tr b ds old new from to → DrillWears s tr b ds old new from to
carried_drill_wears r s tr b ds old new from to carries h = record { groups = h.groups; wears = carried_wears r s b ds h.groups from to carries h.wears; fits = h.fits; written = h.written }
