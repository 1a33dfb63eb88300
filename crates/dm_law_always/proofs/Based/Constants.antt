-- The format, the images and the number of machines of the kernel without machines never change, and the manager's pending
-- requests stay in order.
use Rattle.dm_law_always.proofs.Names.{◌≡◌, List, [], ◌∷◌, ◌∙◌, subst, Some, OneKernel, replay, Step, Boot, Spelled, Point, labels, group_of, Label, bind-is}
use Rattle.dm_onekernel.specs.Step as kernel
use Rattle.dm_law_always.proofs.Fits.Constants.{Constant, same, step_constant}
use Rattle.dm_law_always.proofs.RunLabels.{group_replay}

-- a run of labels, and a group
constant_on : (s t u : OneKernel) → Constant s t → Constant t u → Constant s u
constant_on s t u h k = record { format = k.format ∙ h.format; images = k.images ∙ h.images; machines = k.machines ∙ h.machines; pending = λ e. k.pending (h.pending e) }

replay_constant : (ls : List Label) (s t : OneKernel) → replay s ls ≡ Some t → Constant s t
replay_constant [] s t is = let k : s ≡ t = cc in subst (Constant s) k (same s)
replay_constant (l ∷ ls) s t is =
    let (u, first, rest) = bind-is (kernel.step s l) (λ v. replay v ls) t is in
    constant_on s u t (step_constant s u l first) (replay_constant ls u t rest)

pub constant_group : (b : Boot) (pt : Point) (d : Step) (w : Spelled) → group_of b pt d ≡ Some w → Constant pt.kernel w.point.kernel
constant_group b pt d w is = replay_constant (labels w.lines) pt.kernel w.point.kernel (group_replay b pt d w is)
