-- All that the kernel without machines and the lines say of processes and of what waits for them holds wherever the rule leads.
use Rattle.dm_law_always.proofs.Names.{◌≡◌, List, [], ◌∷◌, ◌∙◌, subst, Some, Boot, IsValid, Step, IsStep, Leads, Spelled, Point, first_point, labels, group_of, phased_start, phased_group, arith}
use Rattle.dm_law_always.proofs.Based.Noted.{noted_start, noted_group}
use Rattle.dm_law_always.proofs.Fits.Start.{start_fits}
use Rattle.dm_law_always.proofs.RunLabels.{group_replay, replay_fits}
use Rattle.dm_law_always.proofs.Runs.{Based}
use Rattle.dm_law_always.proofs.Based.Constants.{constant_group}
use Rattle.dm_law_always.proofs.Based.Queues.{lists_start, lists_group, waits_start, waits_group, waits_by, queued_of, held_of}
use Rattle.dm_law_always.proofs.Based.Start.{known_start}
use Rattle.dm_law_always.proofs.Based.Unmoved.{unmoved_group, known_group}

pub based_start : (b : Boot) → IsValid b → Based b (first_point b)
based_start b valid =
    let phased = phased_start b valid in
    let waits = waits_start b in
    search (arith, start_fits b valid, queued_of (first_point b) phased waits, held_of (first_point b) waits, known_start b valid, noted_start, lists_start b)

pub based_group : (b : Boot) (pt : Point) (d : Step) (w : Spelled) → IsStep pt.kernel.machines d → group_of b pt d ≡ Some w → Based b pt → Based b w.point
based_group b pt d w fit is h =
    let phased = phased_group b pt d w fit is h.phased in
    let same = constant_group b pt d w is in
    let waits = waits_group b pt d w is h.phased h.known (waits_by pt h.phased h.queued h.held) in
    let (r, e, sound, order, fits) = replay_fits (labels w.lines) h.phased.state.r h.phased.state.e pt.kernel w.point.kernel (group_replay b pt d w is) h.phased.state.sound h.pending h.fits in
    record {
      phased = phased;
      fits = fits;
      images = same.images ∙ h.images;
      machines = same.machines ∙ h.machines;
      format = same.format ∙ h.format;
      queued = queued_of w.point phased waits;
      held = held_of w.point waits;
      lists = lists_group b pt d w is h.phased h.known h.lists;
      known = known_group b pt d w is h.phased h.known;
      noted = noted_group b pt d w is h.phased h.known h.noted;
      pending = same.pending h.pending;
      unmoved = (unmoved_group b pt d w is h.phased h.known (record { none = h.unmoved })).none;
    }

pub based_on : (b : Boot) (es : List Step) (pt end : Point) → Leads b pt es end → Based b pt → Based b end
based_on b [] pt end leads h = subst (Based b) leads h
based_on b (d ∷ es) pt end (w, fit, is, rest) h = based_on b es w.point end rest (based_group b pt d w fit is h)

pub based_always : (b : Boot) (es : List Step) (pt : Point) → IsValid b → Leads b (first_point b) es pt → Based b pt
based_always b es pt valid leads = based_on b es (first_point b) pt leads (based_start b valid)
