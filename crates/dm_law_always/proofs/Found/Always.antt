-- Each message stands where its receiver is known, wherever the rule leads.
use Rattle.dm_law_always.proofs.Names.{◌≡◌, ◌≢◌, ℕ, ◌<◌, ◌≤◌, ◌==◌, ◌&&◌, Bool, true, false, is_some, List, [], ◌∷◌, ◌++◌, length, refl, ap, ◌∙◌, sym, subst, inl, inr, arith, if◌then◌else◌, Option, None, Some, cases_Bool, false≢true}
use Rattle.dm_law_always.proofs.Names.{nat_tests, Pid, pid_eq, MsgId, PlainMessage, BootProcess, Boot, IsValid, processes_are_valid, first_life, life_at, Step, View, Told, Unknown, Here, is_kernels, known_at, first_view, Holder, Receiver}
use Rattle.dm_law_always.proofs.Names.{names, to_of, IsStep, Spelled, Point, first_point, group_of, Spot, StandsOutside, standing, stands_right, Homes-start, Phased, Goes, Named, Links, Found, machine_of, is_fixed, times, receiver_of, Comes}
use Rattle.dm_law_always.proofs.Names.{Sender, manager, ◌||◌, Alive, Ended, Life, Lives, OneKernel, Why, is_alive, is_made, is_server, not_true, Made}
use Rattle.dm_law_rule.proofs.Trails.Places.{Owns}
use Rattle.dm_law_always.proofs.Fits.Start.{start_fits}
use Rattle.dm_onekernel.specs.Step as kernel
use Rattle.dm_law_always.proofs.Based.Needs.{is_over}
use Rattle.dm_law_always.proofs.Based.Rows.{made_server}
use Rattle.dm_law_always.proofs.Based.Start.{known_start}
use Rattle.dm_law_always.proofs.Found.Core.{There, KnowsAt, Knows, IsReal, AboutIs, KnownIs, LineCore, Core, lines_of_core, known_within}
use Rattle.dm_law_always.proofs.Found.Groups.{core_group}
use Rattle.dm_law_always.proofs.Found.Real.{named_real, server_real}

-- what each group keeps
abbrev pub FoundBy : Point → Type 0
FoundBy pt = Core pt.kernel.machines pt

-- where a run begins
start_knows : (b : Boot) (l : Lives) (v : View) (earlier ps : List BootProcess) (m : ℕ) (q : Pid) → processes_are_valid b earlier ps ≡ true → 0 < length b.machines → KnownIs (length b.machines) l v m q (known_at ps m q)
start_knows b l v earlier [] m q valid some = search (arith, b.machines)
start_knows b l v earlier (p ∷ ps) m q valid some =
    let home : p.pid.home < length b.machines = grind (arith, nat_tests) in
    let rest : processes_are_valid b (earlier ++ p ∷ []) ps ≡ true = grind (arith, nat_tests) in
    first_is (pid_eq p.pid q && (p.pid.home == m)) refl home (start_knows b l v (earlier ++ p ∷ []) ps m q rest some)
  where
    first_is : (c : Bool) → (pid_eq p.pid q && (p.pid.home == m)) ≡ c → p.pid.home < length b.machines → KnownIs (length b.machines) l v m q (known_at ps m q) → KnownIs (length b.machines) l v m q (if c then Here else known_at ps m q)
    first_is true e home rest = let f : p.pid.home ≡ m = grind (arith, nat_tests) in subst (λ (k : ℕ). k < length b.machines) f home
    first_is false e home rest = rest

nothing_stands : (b : Boot) (i : MsgId) (z : Spot) → standing (first_view b) i z ≡ 0
nothing_stands b i z = search arith

start_all : (b : Boot) → IsValid b → (h : Holder) (q : Pid) → Named (first_point b).kernel (first_point b).view h q → Knows (length b.machines) (first_point b).kernel.processes (first_point b).view q ((first_point b).addresses h)
start_all b h1 h q h2 = search (arith, Homes-start)

start_home : (b : Boot) (ps : List BootProcess) (q : Pid) → is_some (life_at b ps q) ≡ true → known_at ps q.home q ≢ Unknown
start_home b [] q made = absurd (false≢true made)
start_home b (p ∷ ps) q made = elim (cases_Bool (pid_eq p.pid q)) [
  | inl same ↦
      let here : known_at (p ∷ ps) q.home q ≡ Here =
      ap (λ (c : Bool). if c then Here else known_at ps q.home q) (let f : (pid_eq p.pid q && (p.pid.home == q.home)) ≡ true = grind (arith, nat_tests) in f) in
      λ e. let f : Here ≡ Unknown = sym here ∙ e in cc
  | inr off ↦ λ e. start_home b ps q (sym (ap (λ (c : Bool). is_some (if c then first_life b p else life_at b ps q)) off) ∙ made) (sym (ap (λ (c : Bool). if c && (p.pid.home == q.home) then Here else known_at ps q.home q) off) ∙ e)
]

-- a process of the boot file is known where it is at home, and that is a machine that there is
-- so is a server
known_home : (b : Boot) (q : Pid) (c : Bool) → IsValid b → is_server q ≡ c → (c || is_some (life_at b b.processes q)) ≡ true → known_at b.processes q.home q ≢ Unknown
known_home b q true valid server made = (known_start b valid).home q (ap (λ (c : Bool). c || is_some (kernel.alive (life_at b b.processes q))) server)
known_home b q false valid server made = start_home b b.processes q made

home_there : (b : Boot) (q : Pid) → IsValid b → 0 < length b.machines → is_made (first_point b).kernel q ≡ true → There (length b.machines) (first_point b).kernel.processes (first_view b) q.home q
home_there b q valid some made =
    let known = known_home b q (is_server q) valid refl made in
    (known_within (length b.machines) (first_point b).kernel.processes (first_view b) q.home q (known_at b.processes q.home q) known (start_knows b (first_point b).kernel.processes (first_view b) [] b.processes q.home q valid.processes some), λ lives. known)

pub found_start : (b : Boot) → IsValid b → FoundBy (first_point b)
found_start b valid =
    let some : 0 < length b.machines = let e = valid.some_machines in grind (arith, nat_tests) in
    record {
      acting = some;
      machines = refl;
      all = start_all b valid;
      tells = λ i u e. absurd (let f : None ≡ Some u = e in cc);
      real = λ i u e own. absurd (let f : None ≡ Some u = e in cc);
      topic = tt;
      known = λ m q. start_knows b (first_point b).kernel.processes (first_view b) [] b.processes m q valid.processes some;
      places = λ i z e. absurd (let f = nothing_stands b i z in omega (arith, e, f));
      held = λ m p i least. absurd (omega (arith, least));
      senders = λ i m e. absurd (let f : None ≡ Some m = e in cc);
      fits = start_fits b valid;
      home = λ q made. home_there b q valid some made;
      pending = refl;
    }

-- what is held for a process is for it
abbrev pub HoldsFor : Point → Type 0
HoldsFor pt = (m : ℕ) (p : Pid) (i : MsgId) → 1 ≤ times i (pt.view.held m p) → (t : Told) × (pt.view.told i ≡ Some t) × (t.receiver ≡ p)

-- each group
pub found_group : (b : Boot) (pt : Point) (d : Step) (w : Spelled) → IsStep pt.kernel.machines d → group_of b pt d ≡ Some w → Phased pt → HoldsFor pt → HoldsFor w.point → FoundBy pt → FoundBy w.point
found_group b pt d w fit is phased holds next h =
    let line = core_group pt.kernel.machines b pt d w fit is phased holds (lines_of_core pt.kernel.machines pt h) in
    let k = subst (λ (n : ℕ). LineCore n w.point) (sym line.machines) line in
    record {
      acting = k.acting;
      machines = k.machines;
      all = k.all;
      tells = k.tells;
      real = k.real;
      topic = k.topic;
      known = k.known;
      places = k.places;
      held = λ m p i least. let (t, told, to) = next m p i least in ap receiver_of told ∙ ap Some to;
      senders = k.senders;
      fits = k.fits;
      home = k.home;
      pending = k.pending;
    }

-- what stands somewhere is in the bag, or a kernel's own
stands_own : (i : MsgId) (c : Bool) (f : Spot → ℕ) (z : Spot) → is_kernels i ≡ c → StandsOutside c f → 1 ≤ f z → c ≡ true
stands_own i c f z h1 h2 h3 = search arith

stands_named : (pt : Point) (i : MsgId) (z : Spot) (t : Told) (o : Option PlainMessage) → Phased pt → FoundBy pt → 1 ≤ standing pt.view i z → pt.view.told i ≡ Some t → pt.kernel.bag i ≡ o
    → Knows pt.kernel.machines pt.kernel.processes pt.view t.receiver (pt.addresses (Receiver i)) × IsReal pt.kernel.machines pt.kernel.processes pt.view t.receiver
stands_named pt i z t None base h e told is =
    let own : is_kernels i ≡ true = stands_own i (is_kernels i) (standing pt.view i) z refl (stands_right pt i base.state None is) e in
    (h.all (Receiver i) t.receiver (Owns (Goes i t refl own told refl)), (h.real i t told own).0)
stands_named pt i z t (Some m) base h e told is =
    let same : t.receiver ≡ m.to = base.sane.tells.receiver i m t is told in
    let named : names pt.kernel (Receiver i) ≡ Some t.receiver = ap to_of is ∙ ap Some (sym same) in
    (h.all (Receiver i) t.receiver (Links named), named_real pt pt.kernel.machines (Receiver i) t.receiver h named)

-- where someone is known there is a machine
real_home : (n : ℕ) (l : Lives) (v : View) (q : Pid) → IsReal n l v q → q.home < n
real_home n l v q real = elim real [
  | inl fixed ↦ fixed.1
  | inr home ↦ home.0
]

known_there : (pt : Point) (q : Pid) (m : ℕ) → FoundBy pt → KnowsAt pt.kernel.machines pt.kernel.processes pt.view q m → IsReal pt.kernel.machines pt.kernel.processes pt.view q → m < pt.kernel.machines
known_there pt q m h knows real = elim knows [
  | inl home ↦ subst (λ (k : ℕ). k < pt.kernel.machines) (sym home) (real_home pt.kernel.machines pt.kernel.processes pt.view q real)
  | inr away ↦ away.1.0
]

free_known : (n : ℕ) (l : Lives) (v : View) (q : Pid) (m : ℕ) → is_fixed q ≡ false → is_over (l q) ≡ false → KnowsAt n l v q m → IsReal n l v q → v.known m q ≢ Unknown
free_known n l v q m free lives knows real = elim knows [
  | inl home ↦ elim real [
    | inl fixed ↦ absurd (false≢true (sym free ∙ fixed.0))
    | inr there ↦ (λ e. there.1 lives (ap (λ (k : ℕ). v.known k q) (sym home) ∙ e))
  ]
  | inr away ↦ away.1.1 lives
]

-- who lives hasn't ended
pub over_some : (o : Option Life) → is_over o ≡ true → is_some o ≡ true
over_some o e = search arith

over_dead : (o : Option Life) → is_over o ≡ true → is_some (kernel.alive o) ≡ false
over_dead o e = search arith

lives_on : (s : OneKernel) (q : Pid) → Made s → is_alive s q ≡ true → is_over (s.processes q) ≡ false
lives_on s q made lives = not_true (is_over (s.processes q)) (λ over. (
    let server : is_server q ≡ false = made_server s q made (over_some (s.processes q) over) in
    let dead : is_alive s q ≡ false = ap (λ (c : Bool). c || is_some (kernel.alive (s.processes q))) server ∙ over_dead (s.processes q) over in
    false≢true (sym dead ∙ lives)
    ))

fixed_home : (n : ℕ) (l : Lives) (v : View) (q : Pid) (m : ℕ) → is_fixed q ≡ true → KnowsAt n l v q m → m ≡ q.home
fixed_home n l v q m fixed knows = search arith

pub found_of : (pt : Point) → Phased pt → FoundBy pt → Found pt
found_of pt base h =
    let v = pt.view in
    let n = pt.kernel.machines in
    let l = pt.kernel.processes in
    record {
      told = λ i z e. (h.places i z e).1;
      at_ = λ i z e. (h.places i z e).0;
      process = λ i z t e told free lives. let k = stands_named pt i z t (pt.kernel.bag i) base h e told refl in free_known n l v t.receiver (machine_of z) free (lives_on pt.kernel t.receiver base.sane.sound.made lives) (subst (KnowsAt n l v t.receiver) (h.places i z e).0 k.0) k.1;
      fixed = λ i z t e told fixed. let k = stands_named pt i z t (pt.kernel.bag i) base h e told refl in fixed_home n l v t.receiver (machine_of z) fixed (subst (KnowsAt n l v t.receiver) (h.places i z e).0 k.0);
      within = λ g q e. known_there pt q (pt.addresses g).at h (h.all g q (Links e)) (named_real pt n g q h e);
      own_within = λ i t told own. known_there pt t.receiver (pt.addresses (Receiver i)).at h (h.all (Receiver i) t.receiver (Owns (Goes i t refl own told refl))) (h.real i t told own).0;
      asker_within = λ i t told own move. known_there pt manager (pt.addresses (Sender i)).at h (h.all (Sender i) manager (Owns (Comes i t refl own told move refl))) (server_real pt n manager (lines_of_core n pt h) refl);
      target_within = λ i t m told about. subst (AboutIs n l v) about (h.tells i t told);
      forward_within = λ m k j p e. (subst (KnownIs n l v m p) e (h.known m p)).1.0;
      frozen_within = λ m k p e. (subst (KnownIs n l v m p) e (h.known m p)).1;
      incoming_within = λ m k p e. (subst (KnownIs n l v m p) e (h.known m p)).1;
      known_within = λ m p known. known_within n l v m p (v.known m p) known (h.known m p);
    }

-- a receiver that nothing is known of where a message for it stands has ended
pub unknown_over : (pt : Point) (i : MsgId) (z : Spot) (t : Told) → Phased pt → FoundBy pt → 1 ≤ standing pt.view i z → pt.view.told i ≡ Some t → is_fixed t.receiver ≡ false → pt.view.known (machine_of z) t.receiver ≡ Unknown
    → (y : Why) × (pt.kernel.processes t.receiver ≡ Some (Ended y))
unknown_over pt i z t base h e told free none =
    let n = pt.kernel.machines in
    let l = pt.kernel.processes in
    let v = pt.view in
    let q = t.receiver in
    let k = stands_named pt i z t (pt.kernel.bag i) base h e told refl in
    let there : is_over (l q) ≡ false → v.known (machine_of z) q ≢ Unknown = λ lives. free_known n l v q (machine_of z) free lives (subst (KnowsAt n l v q) (h.places i z e).0 k.0) k.1 in
    by (l q) refl (λ lives. there lives none)
  where
    by : (o : Option Life) → pt.kernel.processes t.receiver ≡ o → (is_over (pt.kernel.processes t.receiver) ≡ false → ⊥) → (y : Why) × (pt.kernel.processes t.receiver ≡ Some (Ended y))
    by (Some (Ended y)) is off = (y, is)
    by (Some (Alive x)) is off = absurd (off (ap is_over is))
    by None is off = absurd (off (ap is_over is))
