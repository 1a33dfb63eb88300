-- Which machines there are, and what a message with places is without them.
use Rattle.dm_law_mirror.proofs.Names.{◌≡◌, ◌≤◌, List, [], ◌∷◌, length, ap, ◌∙◌, sym, arith, Option, Some, nat_tests, Message, MsgId, plain_message, Boot, IsValid, OneKernel, bind, Step, Leads, Spelled, Point, first_point, group_of}
use Rattle.dm_law_mirror.proofs.Names.{constant_group, Placed, inl, inr, ◌+◌, ◌<◌, ◌==◌, Bool, true, false, refl, subst, is_some, Pid, pid_of, pid_eq, BootProcess, Label, first_number, process_named, Alive, BootImage, plain_link, map}
use Rattle.dm_law_mirror.proofs.Names.{slice_get, start, first_life, replay, pid_eq-is, bind-is, labels, group_replay, MadeStands}
use Rattle.dm_law_one.proofs.Names.{begun}
use Rattle.dm_onekernel.specs.Step as kernel
use Rattle.dm_law_mirror.proofs.Numbering.{life_named, named_all, named_is, some_of as some_is}
use Rattle.dm_law_mirror.proofs.RaisesMade.{Makes, step_makes}
pub use Rattle.dm_law_always.proofs.Sizes.Always.{few_machines}

-- there are as many machines as at first
pub machines_group : (b : Boot) (pt : Point) (d : Step) (w : Spelled) → group_of b pt d ≡ Some w → w.point.kernel.machines ≡ pt.kernel.machines
machines_group b pt d w is = (constant_group b pt d w is).machines

machines_lead : (b : Boot) (es : List Step) (pt end : Point) → Leads b pt es end → end.kernel.machines ≡ pt.kernel.machines
machines_lead b [] pt end leads = ap (λ (v : Point). v.kernel.machines) (sym leads)
machines_lead b (d ∷ ds) pt end (w, fit, is, more) = machines_lead b ds w.point end more ∙ machines_group b pt d w is

pub machines_are : (b : Boot) (es : List Step) (pt : Point) → Leads b (first_point b) es pt → pt.kernel.machines ≡ length b.machines
machines_are b es pt leads = machines_lead b es (first_point b) pt leads

pub some_machine : (b : Boot) → IsValid b → 1 ≤ length b.machines
some_machine b valid = let k = valid.some_machines in grind (arith, nat_tests)

-- a message of the bag has its plain meaning
pub plainly_is : (s : OneKernel) (l : Placed) (i : MsgId) (x : Message) → bind (l.bag i) plain_message ≡ s.bag i → l.bag i ≡ Some x → plain_message x ≡ s.bag i
plainly_is s l i x e there = sym (ap (λ (o : Option Message). bind o plain_message) there) ∙ e

-- Wherever the rule leads, the processes are those that each home made, numbered from the first number on.

-- one is
abbrev child_of : (s t : OneKernel) → Makes s t → Pid
child_of s t k = pid_of k.home (first_number + s.made k.home)

record IsMade (s t : OneKernel) (p : Pid) : Type 0 where
  home : p.home < t.machines
  first : first_number ≤ p.num
  below : p.num < first_number + t.made p.home

made_if : (s t : OneKernel) (p : Pid) (c : Bool) (k : Makes s t) → pid_eq (child_of s t k) p ≡ c → MadeStands s → is_some (t.processes p) ≡ true → IsMade s t p
made_if s t p true k e h there =
    let is : child_of s t k ≡ p = pid_eq-is (child_of s t k) p e in
    subst (IsMade s t) is (record { home = omega (arith, k.within, k.machines); first = omega arith; below = omega (arith, k.made) })
made_if s t p false k e h there =
    let was : is_some (s.processes p) ≡ true = sym (k.lives p e) ∙ there in
    let home = h.home p was in
    let below = h.below p was in
    record { home = omega (arith, home, k.machines); first = h.first p was; below = omega (arith, below, rises_at (p.home == k.home) refl) }
  where
    rises_at : (d : Bool) → (p.home == k.home) ≡ d → s.made p.home ≤ t.made p.home
    rises_at true f =
        let same : p.home ≡ k.home = grind (arith, nat_tests) in
        subst (λ v. s.made v ≤ t.made v) (sym same) (omega (arith, k.made))
    rises_at false f = let e = k.others p.home (grind (arith, nat_tests)) in omega (arith, e)

makes_stands : (s t : OneKernel) → Makes s t → MadeStands s → MadeStands t
makes_stands s t k h = record {
  home = λ p there. (made_if s t p (pid_eq (child_of s t k) p) k refl h there).home;
  first = λ p there. (made_if s t p (pid_eq (child_of s t k) p) k refl h there).first;
  below = λ p there. (made_if s t p (pid_eq (child_of s t k) p) k refl h there).below;
  all = λ home n within below. grind (arith, nat_tests, pid_eq-is);
}

-- each step, and each group
-- nobody is made
pub made_replay : (ls : List Label) (s t : OneKernel) → replay s ls ≡ Some t → MadeStands s → MadeStands t
made_replay [] s t is h = let k : s ≡ t = cc in subst MadeStands k h
made_replay (l ∷ ls) s t is h =
    let (u, first, rest) = bind-is (kernel.step s l) (λ v. replay v ls) t is in
    made_replay ls u t rest (elim (step_makes s u l first) [ inl k ↦ (let e_ : MadeStands u = grind (arith, nat_tests) in e_) | inr k ↦ makes_stands s u k h ])

-- where a run begins
start_life : (b : Boot) (p : Pid) (o : Option BootProcess) → process_named p b.processes ≡ o → is_some ((start b).processes p) ≡ true → (x : BootProcess) × (process_named p b.processes ≡ Some x)
start_life b p o e there = grind (arith, nat_tests, life_named)

pub first_alive : (b : Boot) (p : BootProcess) (i : BootImage) → slice_get b.images p.image ≡ Some i → first_life b p ≡ Some (Alive (begun b.format i (map plain_link p.links)))
first_alive b p i there = search

pub made_start : (b : Boot) → IsValid b → MadeStands (start b)
made_start b valid = record {
  home = λ p there. let (x, e) = start_life b p (process_named p b.processes) refl there in (named_is b [] b.processes p x valid.processes e).home;
  first = λ p there. let (x, e) = start_life b p (process_named p b.processes) refl there in let w = (named_is b [] b.processes p x valid.processes e).least in omega (arith, w);
  below = λ p there. let (x, e) = start_life b p (process_named p b.processes) refl there in let w = (named_is b [] b.processes p x valid.processes e).most in omega (arith, w);
  all = λ home n within below.
      let p = pid_of home (first_number + n) in
      let (x, e) = some_is (process_named p b.processes) (named_all b [] b.processes home n valid.processes (omega arith) (omega (arith, below))) in
      let k = named_is b [] b.processes p x valid.processes e in
      ap is_some (life_named b b.processes p ∙ ap (λ (o : Option BootProcess). bind o (first_life b)) e ∙ first_alive b x k.image k.there);
}

made_leads : (b : Boot) (es : List Step) (pt end : Point) → Leads b pt es end → MadeStands pt.kernel → MadeStands end.kernel
made_leads b [] pt end leads h = subst (λ (v : Point). MadeStands v.kernel) leads h
made_leads b (d ∷ ds) pt end (w, fit, is, more) h = made_leads b ds w.point end more (made_replay (labels w.lines) pt.kernel w.point.kernel (group_replay b pt d w is) h)

pub made_always : (b : Boot) (es : List Step) (pt : Point) → IsValid b → Leads b (first_point b) es pt → MadeStands pt.kernel
made_always b es pt valid leads = made_leads b es (first_point b) pt leads (made_start b valid)
