-- The labels of a run's lines replay as steps of the kernel without machines; so all fits wherever the rule leads.
use Rattle.dm_law_always.proofs.Names.{◌≡◌, ℕ, ◌+◌, List, [], ◌∷◌, ◌++◌, refl, ap, ◌∙◌, subst, Option, None, Some, MsgId, Boot, Label, OneKernel, bind, replay, entry, reception, after_step, start-sound, Sound, bind-is, Step, Line, Point}
use Rattle.dm_law_always.proofs.Names.{first_point, label_of, labels, with_label, kernel_after, after_line, after, moved, Part, Spelled, spelled, group_of, Leads, KernelFits, FitsAlways, by_parts, by_group, arith}
use Rattle.dm_onekernel.specs.Step as kernel
use Rattle.dm_law_always.proofs.Fits.Constants.{InOrder, step_constant}
use Rattle.dm_law_always.proofs.Fits.Start.{fits_step, start_fits}

-- one line
line_replay : (o : Option Label) (ls : List Label) (s t u : OneKernel) → kernel_after s o ≡ Some t → replay t ls ≡ Some u → replay s (with_label o ls) ≡ Some u
line_replay None ls s t u e f = let g : s ≡ t = cc in ap (λ (v : OneKernel). replay v ls) g ∙ f
line_replay (Some l) ls s t u e f = ap (λ (o : Option OneKernel). bind o (λ (v : OneKernel). replay v ls)) e ∙ f

pub after_replay : (ls : List Line) (pt q : Point) → after pt ls ≡ Some q → replay pt.kernel (labels ls) ≡ Some q.kernel
after_replay [] pt q e = let f : pt ≡ q = cc in ap (λ (v : Point). Some v.kernel) f
after_replay (l ∷ ls) pt q e =
    let (mid, first, rest) = bind-is (after_line pt l) (λ (next : Point). after next ls) q e in
    let (s, step, last) = bind-is (kernel_after pt.kernel (label_of l)) (λ (s : OneKernel). Some (moved pt l s)) mid first in
    let f : moved pt l s ≡ mid = cc in
    line_replay (label_of l) (labels ls) pt.kernel s q.kernel step (ap (λ (v : Point). replay v.kernel (labels ls)) f ∙ after_replay ls mid q rest)

with_label-append : (o : Option Label) (xs ys : List Label) → with_label o (xs ++ ys) ≡ with_label o xs ++ ys
with_label-append None xs ys = refl
with_label-append (Some l) xs ys = refl

pub labels-append : (xs ys : List Line) → labels (xs ++ ys) ≡ labels xs ++ labels ys
labels-append [] ys = refl
labels-append (x ∷ xs) ys = ap (with_label (label_of x)) (labels-append xs ys) ∙ with_label-append (label_of x) (labels xs) (labels ys)

pub replay-append : (xs ys : List Label) (s t u : OneKernel) → replay s xs ≡ Some t → replay t ys ≡ Some u → replay s (xs ++ ys) ≡ Some u
replay-append [] ys s t u e f = let g : s ≡ t = cc in ap (λ (v : OneKernel). replay v ys) g ∙ f
replay-append (x ∷ xs) ys s t u e f =
    let (v, first, rest) = bind-is (kernel.step s x) (λ (w : OneKernel). replay w xs) t e in
    ap (λ (o : Option OneKernel). bind o (λ (w : OneKernel). replay w (xs ++ ys))) first ∙ replay-append xs ys v t u rest f

pub spelled_replay : (ps : List Part) (pt : Point) (w : Spelled) → spelled pt ps ≡ Some w → replay pt.kernel (labels w.lines) ≡ Some w.point.kernel
spelled_replay = by_parts (λ ps pt w. replay pt.kernel (labels w.lines) ≡ Some w.point.kernel) (λ pt. refl)
    (λ p ps pt next ls z lines leads rest. ap (replay pt.kernel) (labels-append ls z.lines) ∙ replay-append (labels ls) (labels z.lines) pt.kernel next.kernel z.point.kernel (after_replay ls pt next leads) rest)

-- a group
pub group_replay : (b : Boot) (pt : Point) (d : Step) (w : Spelled) → group_of b pt d ≡ Some w → replay pt.kernel (labels w.lines) ≡ Some w.point.kernel
group_replay b pt d w = by_group (λ v. replay pt.kernel (labels v.lines) ≡ Some v.point.kernel) b pt d w (λ ps rest is said. spelled_replay ps (moved pt (Line.Head d) pt.kernel) rest said)

-- all fits wherever a run comes
pub replay_fits : (ls : List Label) (r e : MsgId → ℕ) (s t : OneKernel) → replay s ls ≡ Some t → Sound r e s → InOrder s.manager → KernelFits s → (r' : MsgId → ℕ) × (e' : MsgId → ℕ) × Sound r' e' t × InOrder t.manager × KernelFits t
replay_fits [] r e s t is h order fits = search arith
replay_fits (l ∷ ls) r e s t is h order fits =
    let (u, first, rest) = bind-is (kernel.step s l) (λ (v : OneKernel). replay v ls) t is in
    let a = after_step r e s u l first h in
    replay_fits ls (λ i. r i + reception i l) (λ i. e i + entry i s u) u t rest a.sound ((step_constant s u l first).pending order) (fits_step r e s u l first h order fits)

fits_on : (b : Boot) (es : List Step) (pt end : Point) (r e : MsgId → ℕ) → Leads b pt es end → Sound r e pt.kernel → InOrder pt.kernel.manager → KernelFits pt.kernel → KernelFits end.kernel
fits_on b [] pt end r e leads h order fits = subst (λ (v : Point). KernelFits v.kernel) leads fits
fits_on b (d ∷ ds) pt end r e (w, fit, is, more) h order fits =
    let (r', e', sound, ordered, on) = replay_fits (labels w.lines) r e pt.kernel w.point.kernel (group_replay b pt d w is) h order fits in
    fits_on b ds w.point end r' e' more sound ordered on

pub fits_always : FitsAlways
fits_always b es pt valid leads = fits_on b es (first_point b) pt (λ i. 0) (λ i. 0) leads (start-sound b valid) refl (start_fits b valid)
