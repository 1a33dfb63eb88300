-- What a burial leaves: no message stands elsewhere but the one that is handled, and a machine knows nothing any more of the process that it is about.
use Rattle.dm_law_moves.proofs.Names.{◌≡◌, ℕ, Bool, true, false, refl, ap, ◌∙◌, sym, Option, None, Some, Pid, pid_eq, MsgId, id_eq, Line, View, Told, About, Of, Known, Unknown, handled, view_after, Spot, Queue, ids_at, times, standing}
use Rattle.dm_law_moves.proofs.Names.{handled_spots, set_all, record_off, ◌==◌, ◌&&◌, if◌then◌else◌}
use Rattle.dm_law_rule.specs.View as view

-- no message comes or goes where a machine forgets a process
forgotten_off : (v : View) (a : About) (z : Spot) → ids_at (view.forgotten v a) z ≡ ids_at v z
forgotten_off v (Of p) (Queue m q) = refl
forgotten_off v (Of p) z = refl
forgotten_off v a z = refl

pub buried_off : (v : View) (o : Option Told) (z : Spot) → ids_at (view.buried_for v o) z ≡ ids_at v z
buried_off v None z = refl
buried_off v (Some t) z = forgotten_off v t.about z

pub buried_spots : (v : View) (i j : MsgId) (n : ℕ) → id_eq i j ≡ false → (z : Spot) → standing (view_after v (Line.Buried i n)) j z ≡ standing v j z
buried_spots v i j n apart z = ap (times j) (buried_off (handled v i) (v.told i) z) ∙ handled_spots v i j apart z

-- what holds where nothing is known, holds still
forgotten_at : (P : Known → Bool) → P Unknown ≡ true → (v : View) (a : About) (m : ℕ) (p : Pid) → P (v.known m p) ≡ true → P ((view.forgotten v a).known m p) ≡ true
forgotten_at P none v (Of q) m p h = (elim ((v.acting == m) && pid_eq q p) as (λ c. P (if c then Unknown else v.known m p) ≡ true) [ true ↦ none | false ↦ h ])
forgotten_at P none v _ m p h = h

pub buried_at : (P : Known → Bool) → P Unknown ≡ true → (v : View) (i : MsgId) (n m : ℕ) (p : Pid) → P (v.known m p) ≡ true → P ((view_after v (Line.Buried i n)).known m p) ≡ true
buried_at P none v i n m p h = by_told (v.told i)
  where
    by_told : (o : Option Told) → P ((view.buried_for (handled v i) o).known m p) ≡ true
    by_told None = h
    by_told (Some t) = forgotten_at P none (handled v i) t.about m p h

-- where it is about a process that satisfies what nothing known does too
pub buried_same : (P : Known → Bool) (v : View) (i : MsgId) (n : ℕ) → ((t : Told) (q : Pid) → v.told i ≡ Some t → t.about ≡ Of q → P (v.known v.acting q) ≡ P Unknown) → (m : ℕ) (p : Pid) → P ((view_after v (Line.Buried i n)).known m p) ≡ P (v.known m p)
buried_same P v i n same m p = by_told (v.told i) refl
  where
    by_about : (a : About) → ((q : Pid) → a ≡ Of q → P (v.known v.acting q) ≡ P Unknown) → P ((view.forgotten (handled v i) a).known m p) ≡ P (v.known m p)
    by_about (Of q) e = set_all (λ k r x. P x ≡ P (v.known k r)) v.known v.acting q Unknown (sym (e q refl)) (λ k r off. refl) m p
    by_about _ e = refl

    by_told : (o : Option Told) → v.told i ≡ o → P ((view.buried_for (handled v i) o).known m p) ≡ P (v.known m p)
    by_told None e = refl
    by_told (Some t) e = by_about t.about (λ q is. same t q e is)

-- of another process it is known what was
pub buried_others : (v : View) (i : MsgId) (n m : ℕ) (p : Pid) (y : Known) → ((t : Told) (q : Pid) → v.told i ≡ Some t → t.about ≡ Of q → pid_eq q p ≡ false) → v.known m p ≡ y → (view_after v (Line.Buried i n)).known m p ≡ y
buried_others v i n m p y off h = by_told (v.told i) refl
  where
    by_about : (a : About) → ((q : Pid) → a ≡ Of q → pid_eq q p ≡ false) → (view.forgotten (handled v i) a).known m p ≡ y
    by_about (Of q) e = record_off v.known v.acting q Unknown m p (e q refl) ∙ h
    by_about _ e = h

    by_told : (o : Option Told) → v.told i ≡ o → (view.buried_for (handled v i) o).known m p ≡ y
    by_told None e = h
    by_told (Some t) e = by_about t.about (λ q is. off t q e is)
