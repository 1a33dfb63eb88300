-- Each step with places, a label after the other.
use Rattle.dm_law_places.proofs.Names.{◌≡◌, ◌∙◌, ap, sym, subst, true, ℕ, Some, Label, Line, Manager, OneKernel, View, Addresses, ascends, Point, after_line, moved, bind-is, Placed, Mirrors, placed_step, StepNeeds, StepsFollow, act_of, addresses_by}
use Rattle.dm_law_places.proofs.Names.{MirrorsPoint}
use Rattle.dm_onekernel.specs.Step as kernel
use Rattle.dm_law_places.proofs.Lines.{mirrors_view, moves_label}
use Rattle.dm_law_places.proofs.Labels.Acts.{ran_follows, call_follows, send_follows, wait_follows, out_follows, end_follows}
use Rattle.dm_law_places.proofs.Labels.Receives.{receive_follows, refuse_follows}
use Rattle.dm_law_places.proofs.Labels.Answers.{answered_follows, asked_follows, dropped_follows, gone_follows, no_space_follows}
use Rattle.dm_law_places.proofs.Labels.Serves.{served_follows}
use Rattle.dm_law_places.proofs.Labels.Creates.{created_follows}
use Rattle.dm_law_places.proofs.Labels.Managers.{InOrder}
use Rattle.dm_law_places.proofs.Labels.Takes.{took_follows}

in_order : (s : OneKernel) (v : View) (a : Addresses) (l : Placed) → Mirrors s v a l → ascends 0 s.manager.pending s.manager.sent ≡ true → InOrder l.manager
in_order s v a l h e = ap (λ (g : Manager). ascends 0 g.pending g.sent) h.plain.manager ∙ e

pub steps_follow : StepsFollow
steps_follow s t v a l (Label.Ran p k) h needs is = ran_follows s t v a l p k is h
steps_follow s t v a l (Label.Call p n c) h needs is = call_follows s t v a l p n c is h
steps_follow s t v a l (Label.Send p id) h needs is = send_follows s t v a l p id is h
steps_follow s t v a l (Label.Wait p) h needs is = wait_follows s t v a l p is h
steps_follow s t v a l (Label.Out p w) h needs is = out_follows s t v a l p w is h
steps_follow s t v a l (Label.End p y) h needs is = end_follows s t v a l p y is h
steps_follow s t v a l (Label.Receive p id) h needs is = receive_follows s t v a l p id is h
steps_follow s t v a l (Label.Refuse p id c) h needs is = refuse_follows s t v a l p id c is h
steps_follow s t v a l (Label.Dropped id) h needs is = dropped_follows s t v a l id is h
steps_follow s t v a l (Label.Served id) h needs is = served_follows s t v a l id is h
steps_follow s t v a l (Label.Gone id) h needs is = gone_follows s t v a l id is h
steps_follow s t v a l (Label.Took id) h needs is = took_follows s t v a l id is (in_order s v a l h needs) h
steps_follow s t v a l (Label.Created id child) h needs is = created_follows s t v a l id child is needs h
steps_follow s t v a l (Label.NoSpace id f b) h needs is = no_space_follows s t v a l id f b is h
steps_follow s t v a l (Label.Asked id) h needs is = asked_follows s t v a l id is needs h
steps_follow s t v a l (Label.Answered id o) h needs is = answered_follows s t v a l id o is needs h

-- the same for a machine that is the one that acts
pub placed_follows : (s t : OneKernel) (v : View) (a : Addresses) (l : Placed) (here : ℕ) (e : Label) → Mirrors s v a l → v.acting ≡ here → StepNeeds s v e → kernel.step s e ≡ Some t
    → (m : Placed) × (placed_step here s.format s.images l e ≡ Some m) × Mirrors t v (addresses_by s v a (act_of (Line.Label e))) m
placed_follows s t v a l here e h at needs is =
    let (m, step, mirrors) = steps_follow s t v a l e h needs is in
    (m, ap (λ (n : ℕ). placed_step n s.format s.images l e) (sym at) ∙ step, mirrors)

-- a line that is a step leads on
pub label_follows : (pt pt' : Point) (l : Placed) (e : Label) → ((t : OneKernel) → kernel.step pt.kernel e ≡ Some t → StepNeeds pt.kernel pt.view e) → MirrorsPoint pt l → after_line pt (Line.Label e) ≡ Some pt'
    → (m : Placed) × (placed_step pt.view.acting pt.kernel.format pt.kernel.images l e ≡ Some m) × MirrorsPoint pt' m
label_follows pt pt' l e needs h is =
    let (t, step, last) = bind-is (kernel.step pt.kernel e) (λ (s : OneKernel). Some (moved pt (Line.Label e) s)) pt' is in
    let f : moved pt (Line.Label e) t ≡ pt' = cc in
    let (m, placed, mirrors) = steps_follow pt.kernel t pt.view pt.addresses l e h (needs t step) step in
    let after = addresses_by pt.kernel pt.view pt.addresses (act_of (Line.Label e)) in
    (m, placed, subst (λ (q : Point). MirrorsPoint q m) f (mirrors_view t pt.view (moved pt (Line.Label e) t).view after m (moves_label pt.view e) mirrors))
