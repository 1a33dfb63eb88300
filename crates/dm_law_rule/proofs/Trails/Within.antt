-- Only machines that act know processes, and so all machines of a trail are among those of the boot file.
use Rattle.dm_law_rule.proofs.Names.{◌≡◌, ◌≢◌, ℕ, ◌+◌, ◌<◌, ◌==◌, refl, ◌∙◌, sym, subst, ⊤, not, filter, slice_get, Option, None, Some, Pid, MsgId, Label, Step, Line, at_record, View, Told, Known, Unknown, Here, actor, view_after, after_label}
use Rattle.dm_law_rule.proofs.Names.{Bool, false, ap, if◌then◌else◌, manager, has_seat, is_here, IsStep}
use Rattle.dm_law_rule.proofs.Names.{after_head, handled, taken_id, queued_for, held_for, forwarded_for, served_told, receiver_of, Trails, arith, and_parts, eqb-true, is_made, true, OneKernel}
use Rattle.dm_law_rule.proofs.Seen.{sets}
use Rattle.dm_law_rule.proofs.Homes.Lines.{acting_label}
use Rattle.dm_law_rule.proofs.Phases.Lines.{queued_known, held_known, dropped_known, forwarded_known}
use Rattle.dm_law_rule.proofs.Phases.Pieces.{proto_known, proto_acting}
use Rattle.dm_law_rule.specs.View as view

pub record Within (n : ℕ) (v : View) : Type 0 where
  pub known : (m : ℕ) (q : Pid) → v.known m q ≢ Unknown → m < n
  pub acting : v.acting < n

-- all machines of the trails of what was made are among so many
pub record TrailsIn (n : ℕ) (s : OneKernel) (t : Trails) : Type 0 where
  pub within : (p : Pid) → is_made s p ≡ true → (c m : ℕ) → slice_get (t p) c ≡ Some m → m < n

-- a head names one of so many machines
abbrev pub HeadIn : ℕ → Line → Type 0
HeadIn n (Line.Head d) = IsStep n d
HeadIn n l = ⊤

within_same : (n : ℕ) (v w : View) → ((m : ℕ) (q : Pid) → w.known m q ≡ v.known m q) → w.acting ≡ v.acting → Within n v → Within n w
within_same n v w known acting h = record { known = λ m q there. h.known m q (λ e. there (known m q ∙ e)); acting = subst (λ (a : ℕ). a < n) (sym acting) h.acting }

within_set : (n : ℕ) (v w : View) (p : Pid) (x : Known) → w.known ≡ at_record v.known v.acting p x → w.acting ≡ v.acting → Within n v → Within n w
within_set n v w p x known acting h = record {
  known = λ m q there. (search (arith, eqb-true, and_parts));
  acting = subst (λ (a : ℕ). a < n) (sym acting) h.acting;
}

pub queued_acting : (v : View) (i : MsgId) (o : Option Pid) → (queued_for v i o).acting ≡ v.acting
queued_acting v i None = refl
queued_acting v i (Some p) = refl

pub held_acting : (v : View) (i : MsgId) (o : Option Pid) → (held_for v i o).acting ≡ v.acting
held_acting v i None = refl
held_acting v i (Some p) = refl

pub forwarded_acting : (v : View) (o : Option Pid) → (forwarded_for v o).acting ≡ v.acting
forwarded_acting v None = refl
forwarded_acting v (Some p) = refl

-- the manager is on a machine that there is
seat_less : (n : ℕ) (v : View) (c : Bool) → has_seat v ≡ c → 0 < n → ((m : ℕ) (q : Pid) → v.known m q ≢ Unknown → m < n) → (if c then v.seat else 0) < n
seat_less n v true here least within = within v.seat manager (λ e. let off : is_here Unknown ≡ true = sym (ap is_here e) ∙ here in absurd (cc))
seat_less n v false here least within = least

pub head_less : (n : ℕ) (v : View) (d : Step) → ((m : ℕ) (q : Pid) → v.known m q ≢ Unknown → m < n) → IsStep n d → actor v d < n
head_less n v (Step.Turn m) within fit = fit
head_less n v (Step.Tick m) within fit = fit
head_less n v (Step.Deliver a b k) within fit = fit.1
head_less n v (Step.Migrate p m) within fit = seat_less n v (has_seat v) refl (omega (arith, fit)) within
head_less n v (Step.CallOff p m) within fit = fit

pub line_within : (n : ℕ) (v : View) (l : Line) → HeadIn n l → Within n v → Within n (view_after v l)
line_within n v (Line.Head d) e h = (elim d as (λ d_. actor v d_ < n → Within n (after_head v d_))
    [ Step.Turn m ↦ λ e_. record { known = h.known; acting = e_ } | _ ↦ λ e_. record { known = h.known; acting = e_ } ]) (head_less n v d h.known e)
line_within n v (Line.Label l) e h =
    let label_within : (n : ℕ) (v : View) (l : Label) → Within n v → Within n (after_label v l) = λ n v l h1.
    let served_within : (n : ℕ) (v : View) (o : Option Told) → Within n v → Within n (served_told v o) = λ n v o h1. search (arith, within_set) in
    search (arith, within_set, served_within, within_same, dropped_known, acting_label) in
    label_within n v l h
line_within n v (Line.Migration s p) e h = search (arith, sets, within_set)
line_within n v (Line.Stays p) e h = within_set n v (view_after v (Line.Stays p)) p Here refl refl h
line_within n v (Line.Called p k) e h = within_set n v (view_after v (Line.Called p k)) p (view.goes_back (v.known v.acting p) (v.moves p)) refl refl h
line_within n v (Line.Queued i) e h = within_same n v (view_after v (Line.Queued i)) (λ m q. queued_known (handled v i) i (receiver_of (v.told i)) m q) (queued_acting (handled v i) i (receiver_of (v.told i))) h
line_within n v (Line.Held i) e h = within_same n v (view_after v (Line.Held i)) (λ m q. held_known (handled v i) i (receiver_of (v.told i)) m q) (held_acting (handled v i) i (receiver_of (v.told i))) h
line_within n v (Line.Forwarded i k) e h = within_same n v (view_after v (Line.Forwarded i k)) (λ m q. forwarded_known (handled v i) (receiver_of (v.told i)) m q) (forwarded_acting (handled v i) (receiver_of (v.told i))) h
line_within n v (Line.Proto i) e h = within_same n v (view_after v (Line.Proto i)) (λ m q. proto_known (handled v i) (v.told i) m q) (proto_acting (handled v i) (v.told i)) h
line_within n v (Line.Buried i k) e h =
    let forgotten_within : (a : view.About) → Within n (view.forgotten (handled v i) a) = λ a. elim a as (λ a_. Within n (view.forgotten (handled v i) a_)) [
      | view.Of p ↦ within_set n v (view.forgotten (handled v i) (view.Of p)) p Unknown refl refl h
      | _ ↦ record { known = h.known; acting = h.acting }
    ] in
    elim (v.told i) as (λ o. Within n (view.buried_for (handled v i) o)) [ None ↦ record { known = h.known; acting = h.acting } | Some u ↦ forgotten_within u.about ]
line_within n v (Line.Taken a b k) e h =
    let taken_within : (n : ℕ) (v : View) (b : ℕ) (o : Option MsgId) → Within n v → Within n (taken_id v b o) =
    λ n v b o h. elim o as (λ o_. Within n (taken_id v b o_)) [ None ↦ h | Some i' ↦ record { known = h.known; acting = h.acting } ] in
    taken_within n (view.with_pair v a b (record (v.pair a b) { taken = (v.pair a b).taken + 1; kept = filter (λ j. not (j == k)) (v.pair a b).kept })) b (view.oldest (v.pair a b)) (record { known = h.known; acting = h.acting })
line_within n v (Line.Idle m) e h = h
line_within n v (Line.Old a b k) e h = h
line_within n v (Line.Resent m k) e h = h
line_within n v (Line.NoChild p) e h = h
line_within n v (Line.NoCall p) e h = h
line_within n v Line.Away e h = h
line_within n v Line.Nothing e h = h
line_within n v _ e h = record { known = h.known; acting = h.acting }
