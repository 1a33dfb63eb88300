-- No line of any run of several machines shows what nothing kept shows.
use Rattle.dm_law_rule.proofs.Names.{◌≡◌, ℕ, Bool, List, [], ◌∷◌, ◌++◌, refl, ap, ◌∙◌, sym, subst, Label, Boot, Step, Line, Point, OneKernel}
use Rattle.dm_law_rule.specs.Point.{first_point, labels}
use Rattle.dm_law_always.specs.Order.{LeadsBy}
use Rattle.dm_law_always.proofs.RunLabels.{labels-append}
use Rattle.dm_law_alike.specs.Closed.{NoneAsked, NoneAskedIn, NeverIsNever}
use Rattle.dm_law_alike.specs.Services.{Services, AreServices, all_labels}
use Rattle.dm_law_alike.proofs.Closing.{closed_is_never}
use Rattle.dm_law_alike.proofs.Grouped.{groups_are_services}

services_append : (xs ys : List (List Label)) (quantum : ℕ) (s t u : OneKernel) → Services quantum s xs t → Services quantum t ys u → Services quantum s (xs ++ ys) u
services_append [] ys quantum s t u h k = subst (λ v. Services quantum v ys u) (sym h) k
services_append (x ∷ xs) ys quantum s t u (v, service, rest) k = (v, service, services_append xs ys quantum v t u rest k)

associates : {A : Type 0} (xs ys zs : List A) → (xs ++ ys) ++ zs ≡ xs ++ (ys ++ zs)
associates [] ys zs = refl
associates (x ∷ xs) ys zs = ap (λ v. x ∷ v) (associates xs ys zs)

all_append : (xs ys : List (List Label)) → all_labels (xs ++ ys) ≡ all_labels xs ++ all_labels ys
all_append [] ys = refl
all_append (x ∷ xs) ys = ap (λ v. x ++ v) (all_append xs ys) ∙ sym (associates x (all_labels xs) (all_labels ys))

-- the labels of a run are those of services
runs_are_services : (es : List Step) (b : Boot) (pt end : Point) (ls : List Line) → LeadsBy b pt es ls end → AreServices b.quantum pt.kernel (labels ls) end.kernel
runs_are_services [] b pt end ls (none, same) = record { services = []; run = ap (λ (v : Point). v.kernel) same; labels = sym (ap labels none) }
runs_are_services (e ∷ es) b pt end ls (w, rest, fit, group, whole, more) =
    let first = groups_are_services b pt e w group in
    let behind_ = runs_are_services es b w.point end rest more in
    record {
      services = first.services ++ behind_.services;
      run = services_append first.services behind_.services b.quantum pt.kernel w.point.kernel end.kernel first.run behind_.run;
      labels = all_append first.services behind_.services ∙ (λ i. first.labels i ++ behind_.labels i) ∙ sym (labels-append w.lines rest) ∙ sym (ap labels whole);
    }

none_append : (asks : Label → Bool) (xs ys : List Label) → NoneAsked asks xs → NoneAsked asks ys → NoneAsked asks (xs ++ ys)
none_append asks [] ys h k = k
none_append asks (x ∷ xs) ys h k = (h.0, none_append asks xs ys h.1 k)

none_in_all : (asks : Label → Bool) (xs : List (List Label)) → NoneAskedIn asks xs → NoneAsked asks (all_labels xs)
none_in_all asks [] h = tt
none_in_all asks (x ∷ xs) h = none_append asks x (all_labels xs) h.0 (none_in_all asks xs h.1)

pub never_is_never : NeverIsNever
never_is_never b asks rank ks es ls pt valid same closed leads =
    let run = runs_are_services es b (first_point b) pt ls leads in
    subst (NoneAsked asks) run.labels (none_in_all asks run.services (closed_is_never b asks rank ks run.services pt.kernel valid same closed run.run))
