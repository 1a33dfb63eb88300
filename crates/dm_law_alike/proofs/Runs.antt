-- Each run of a kernel without machines is one of its twin.
use Rattle.dm_law_one.proofs.Names.{◌≡◌, ℕ, ◌+◌, true, refl, ap, ◌∙◌, subst, List, [], ◌∷◌, Some, MsgId, PlainMessage, PlainWhat, Label, OneKernel, manager, bind, replay, start, reception, entry}
use Rattle.dm_law_one.proofs.Runs.{after_step, start-sound}
use Rattle.dm_law_one.proofs.Sound.{Sound}
use Rattle.dm_law_one.proofs.Steps.{bind-is}
use Rattle.dm_onekernel.specs.Step as kernel
use Rattle.dm_law_always.specs.Fits.{KernelFits, WhatFits}
use Rattle.dm_law_always.proofs.Fits.Constants.{InOrder, step_constant}
use Rattle.dm_law_always.proofs.Fits.Start.{fits_step, start_fits}
use Rattle.dm_law_always.proofs.RunLabels.{replay_fits}
use Rattle.dm_law_alike.specs.Alike.{Renaming, KeepsOrder, Twins, TwinRun}
use Rattle.dm_law_alike.specs.Laws.{RunsAreTwins}
use Rattle.dm_law_alike.proofs.Taking.{is_told}
use Rattle.dm_law_alike.proofs.Steps.{Told, twin_step}

told_by : (s : OneKernel) (i : MsgId) (m : PlainMessage) (w : PlainWhat) → WhatFits s i m w → is_told w ≡ true → i.from ≡ manager
told_by s i m (PlainWhat.Created child) h e = h.2.from
told_by s i m PlainWhat.NoRoom h e = h.2.from
told_by s i m (PlainWhat.Moved outcome) h e = h.2.from
told_by s i m _ h e = absurd (cc)

pub told : (s : OneKernel) → KernelFits s → Told s
told s h i m is e = told_by s i m m.what (h.messages i m is) e

pub twin_run : (ls : List Label) (r : Renaming) (c e : MsgId → ℕ) (s t u : OneKernel) → KeepsOrder r → Sound c e s → InOrder s.manager → KernelFits s → Twins r s t → replay s ls ≡ Some u → TwinRun r t ls u
twin_run [] r c e s t u keeps sound order fits h is =
    let same : s ≡ u = cc in
    record { labels = []; kernel = t; say = tt; replays = refl; twins = subst (λ v. Twins r v t) same h }
twin_run (l ∷ ls) r c e s t u keeps sound order fits h is =
    let (v, first, rest) = bind-is (kernel.step s l) (λ (w : OneKernel). replay w ls) u is in
    let one = twin_step r c e s t v l keeps sound (told s fits) h first in
    let after = after_step c e s v l first sound in
    let more = twin_run ls r (λ i. c i + reception i l) (λ i. e i + entry i s v) v one.kernel u keeps after.sound ((step_constant s v l first).pending order) (fits_step c e s v l first sound order fits) one.twins rest in
    record {
      labels = one.label ∷ more.labels;
      kernel = more.kernel;
      say = (one.says, more.say);
      replays = ap (λ o. bind o (λ (w : OneKernel). replay w more.labels)) one.steps ∙ more.replays;
      twins = more.twins;
    }

pub runs_are_twins : RunsAreTwins
runs_are_twins b before ls s t u r valid lead keeps h is =
    let (c, e, sound, order, fits) = replay_fits before (λ i. 0) (λ i. 0) (start b) s lead (start-sound b valid) refl (start_fits b valid) in
    twin_run ls r c e s t u keeps sound order fits h is
