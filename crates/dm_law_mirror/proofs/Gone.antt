-- The receiver of a message has ended where nothing is known of it on the machine that the message came to.
use Rattle.dm_law_mirror.proofs.Names.{◌≡◌, ℕ, ◌≤◌, ◌||◌, ◌==◌, Bool, true, false, refl, ap, ◌∙◌, sym, is_some, Option, None, Some, false≢true, Pid, MsgId, PlainMessage, PlainWhat, Boot, Why, Alive, Life, OneKernel, WhatFits, is_server}
use Rattle.dm_law_mirror.proofs.Names.{is_fixed, not_true, Point, Run, Spot, Told, standing, Unknown, machine_of, manager, Ended, is_alive, awaits, has_bytes, life_sort, PlainProcess}
use Rattle.dm_onekernel.specs.Step as kernel
pub use Rattle.dm_law_always.proofs.Found.Real.{has_some}

-- what is known nowhere where a message for it stands isn't alive
pub not_alive : (b : Boot) (pt : Point) (i : MsgId) (z : Spot) (t : Told) → Run b pt → 1 ≤ standing pt.view i z → pt.view.told i ≡ Some t → is_fixed t.receiver ≡ false → pt.view.known (machine_of z) t.receiver ≡ Unknown → is_alive pt.kernel t.receiver ≡ false
not_alive b pt i z t run least told loose unknown = not_true (is_alive pt.kernel t.receiver) (λ alive. run.found.process i z t least told loose alive unknown)

awaits_some : (n : ℕ) (w : PlainWhat) (o : Option Life) → awaits o n w ≡ true → is_some o ≡ true
awaits_some n w None e = absurd (false≢true e)
awaits_some n w (Some life) e = refl

no_number : (p : Pid) → p.num ≡ 0 → (p.num == 0) ≡ false → ⊥
no_number p e off = false≢true (sym off ∙ ap (λ (n : ℕ). n == 0) e)

no_manager : (p : Pid) → p ≡ manager → is_server p ≡ false → ⊥
no_manager p e off = false≢true (sym off ∙ ap is_server e)

-- the receiver of a message of the bag was made
pub receiver_made : (s : OneKernel) (i : MsgId) (x : PlainMessage) (w : PlainWhat) → WhatFits s i x w → (x.to.num == 0) ≡ false → is_server x.to ≡ false → is_some (s.processes x.to) ≡ true
receiver_made s i x (PlainWhat.User code channel bytes links) h num server = has_some 0 (s.processes x.to) (sym (ap (λ (d : Bool). d || has_bytes 0 (s.processes x.to)) server) ∙ h.0)
receiver_made s i x PlainWhat.Stop h num server = has_some 0 (s.processes x.to) h
receiver_made s i x PlainWhat.Resume h num server = has_some 0 (s.processes x.to) h
receiver_made s i x PlainWhat.Kill h num server = has_some 0 (s.processes x.to) h
receiver_made s i x (PlainWhat.Read base len) h num server = has_some _ (s.processes x.to) h.0
receiver_made s i x (PlainWhat.Write base bytes) h num server = has_some _ (s.processes x.to) h.0
receiver_made s i x (PlainWhat.Block bytes) h num server = ap (λ (p : Pid). is_some (s.processes p)) h.0 ∙ awaits_some i.n (PlainWhat.Block bytes) (s.processes i.from) h.1
receiver_made s i x PlainWhat.Written h num server = ap (λ (p : Pid). is_some (s.processes p)) h.0 ∙ awaits_some i.n PlainWhat.Written (s.processes i.from) h.1
receiver_made s i x PlainWhat.Gone h num server = ap (λ (p : Pid). is_some (s.processes p)) h.0 ∙ awaits_some i.n PlainWhat.Gone (s.processes i.from) h.1
receiver_made s i x (PlainWhat.Create image links) h num server = absurd (no_number x.to h.0 num)
receiver_made s i x (PlainWhat.Created child) h num server = absurd (no_manager x.to h.0 server)
receiver_made s i x PlainWhat.NoRoom h num server = absurd (no_manager x.to h.0 server)
receiver_made s i x (PlainWhat.Move machine) h num server = has_some 0 (s.processes x.to) h.0
receiver_made s i x (PlainWhat.Moved outcome) h num server = absurd (no_manager x.to h.0 server)

-- what is alive hasn't ended
pub living_sort : (o : Option Life) (x : PlainProcess) → kernel.alive o ≡ Some x → life_sort o ≡ Some false → ⊥
living_sort None x alive over = cc
living_sort (Some (Alive y)) x alive over = cc
living_sort (Some (Ended y)) x alive over = cc

-- what was made and isn't alive has ended
pub ended_by : (o : Option Life) → is_some o ≡ true → is_some (kernel.alive o) ≡ false → (y : Why) × (o ≡ Some (Ended y))
ended_by None made off = absurd (false≢true made)
ended_by (Some (Alive x)) made off = absurd (false≢true (sym off))
ended_by (Some (Ended y)) made off = (y, refl)

pub alive_none : (o : Option Life) → is_some (kernel.alive o) ≡ false → kernel.alive o ≡ None
alive_none None off = refl
alive_none (Some (Alive x)) off = absurd (false≢true (sym off))
alive_none (Some (Ended y)) off = refl
