-- The world after what a turn says, before the messages that it sends are routed.
use Rattle.dm_law_mirror.proofs.Names.{◌≡◌, ◌≢◌, ℕ, ◌<◌, ◌≤◌, ◌==◌, Bool, true, length, refl, ap, ◌∙◌, sym, subst, inl, inr, if◌then◌else◌, eqb_tells, Boot, Point, at_machine, Untaken, Pair, Placed, Mirrors, IsLawfulState, KernelState, arith}
use Rattle.dm_law_mirror.proofs.Names.{nat_tests, NodeState, WorldState, AllOwnStand, KernelStands, NodeStands, History, StandsWith, AllRecords, TokensStand, ◌+◌, is_some, List, nat_lt, Option, None, Some, Pid, pid_of, MsgId, PlainMessage}
use Rattle.dm_law_mirror.proofs.Names.{first_number, Life, OneKernel, reached, Sound, Line, Receiver, to_of, after, labels, Spot, standing, Known, stands_right, machine_of, Run, after_replay, own_by, [], ◌∷◌, Message, What, Load, IsKindOfPlain}
use Rattle.dm_law_mirror.proofs.Names.{kind_of, plain_kind, plain_message, plain_what, bind, goes_out, lines_of, packet_line, puts, moved, own_id, MessageKind, Why}
use Rattle.dm_onekernel.specs.Step as kernels
use Rattle.dm_law_always.proofs.Goes.Always.{told_of}
use Rattle.dm_law_mirror.proofs.Turning.{own_first, Elsewhere, Route, First, On, Own, MayPut, message_of, rule_part_of}
use Rattle.dm_law_mirror.proofs.Others.{MadeHere, apart_tells, kernel_stays, pair_stays}

-- machine m with this kernel
abbrev pub with_kernel : NodeState → KernelState → NodeState
with_kernel n k = record n { kernel = k }

abbrev pub with_turned : WorldState → ℕ → KernelState → WorldState
with_turned w m k = record w { nodes = at_machine w.nodes m (with_kernel (w.nodes m) k) }

-- the machine itself, and another one
pub turned_here : (w : WorldState) (m : ℕ) (k : KernelState) → (with_turned w m k).nodes m ≡ with_kernel (w.nodes m) k
turned_here w m k = ap (λ (c : Bool). if c then with_kernel (w.nodes m) k else w.nodes m) (elim (eqb_tells m m) [ inl e ↦ e.0 | inr e ↦ absurd (e.1 refl) ])

pub turned_records : (w : WorldState) (m : ℕ) (k : KernelState) (n : ℕ) → ((with_turned w m k).nodes n).kernel.records ≡ at_machine (λ (d : ℕ). (w.nodes d).kernel.records) m k.records n
turned_records w m k n = grind (arith, nat_tests)

-- the machine that turns, and another one
node_turns : (b : Boot) (m : ℕ) (pt next : Point) (l placed : Placed) (n : NodeState) (k : KernelState) → next.kernel.machines ≡ pt.kernel.machines → next.view.pair m m ≡ pt.view.pair m m
    → KernelStands b next placed m k → IsLawfulState k → NodeStands b pt l m n → NodeStands b next placed m (with_kernel n k)
node_turns b m pt next l placed n k machines pair kernel lawful h = search (h.machines ∙ sym machines, h.home ∙ sym (ap (λ (p : Pair). length p.ids) pair))

node_stays : (b : Boot) (m i : ℕ) (pt next : Point) (l placed : Placed) (n : NodeState) → i ≢ m → MadeHere m i pt next → Elsewhere m pt l next placed → NodeStands b pt l i n → NodeStands b next placed i n
node_stays b m i pt next l placed n apart made e h = search (
  kernel_stays b m i pt next l placed n.kernel apart made e h.kernel,
  h.machines ∙ sym e.machines,
  h.home ∙ sym (ap (λ (p : Pair). length p.ids) (e.pair i i)),
)

-- the world stands for the point behind what is said
pub turned_stands : (b : Boot) (w : WorldState) (pt next : Point) (l placed : Placed) (h : History) (m : ℕ) (k : KernelState) → StandsWith b w pt l h → m < pt.kernel.machines → ((i : ℕ) → i ≢ m → MadeHere m i pt next) → Elsewhere m pt l next placed
    → Mirrors next.kernel next.view next.addresses placed → KernelStands b next placed m k → IsLawfulState k → AllOwnStand next.view placed → TokensStand next.view placed (at_machine (λ (d : ℕ). (w.nodes d).kernel.records) m k.records)
    → (ended : Pid → Option Why) → ((p : Pid) → ended p ≡ kernels.why_ended (next.kernel.processes p)) → StandsWith b (record (with_turned w m k) { ended = ended }) next placed h
turned_stands b w pt next l placed h m k x within made e mirrors kernel lawful own tokens ended is =
    let u : WorldState = record (with_turned w m k) { ended = ended } in
    let machines : next.kernel.machines ≡ pt.kernel.machines = e.machines in
    record {
      mirrors = mirrors;
      groups = x.groups ∙ sym e.groups;
      ended = is;
      nodes = λ i below.
          elim (eqb_tells i m) [
            | inl same ↦
                subst (λ (j : ℕ). NodeStands b next placed j (u.nodes j)) (sym same.1)
                (subst (NodeStands b next placed m) (sym (turned_here w m k)) (node_turns b m pt next l placed (w.nodes m) k machines (e.pair m m) kernel lawful (x.nodes m within)))
            | inr apart ↦
                subst (NodeStands b next placed i)
                (sym (ap (λ (c : Bool). if c then with_kernel (w.nodes m) k else w.nodes i) (apart_tells m i (λ z. apart.1 (sym z)))))
                (node_stays b m i pt next l placed (w.nodes i) apart.1 (made i apart.1) e (x.nodes i (subst (λ (j : ℕ). i < j) machines below)))
          ];
      pairs = λ a c from to apart.
          pair_stays b pt next l placed w u h a c (grind (arith, nat_tests, eqb_tells))
          (grind (arith, nat_tests, eqb_tells)) refl (e.pair a c) (λ i stands. e.bag i (Untaken a c) refl stands)
          (x.pairs a c (subst (λ (j : ℕ). a < j) machines from) (subst (λ (j : ℕ). c < j) machines to) apart);
      counts = λ a c. subst (λ (p : Pair). length p.ids ≤ b.numbers) (sym (e.pair a c)) (x.counts a c);
      own = own;
      tokens = subst (λ (f : AllRecords). TokensStand next.view placed f) (λ i. λ n. sym (turned_records w m k n) i) tokens;
    }

-- Whatever stands somewhere stands on a machine that there is; and what a turn makes is known to no other machine.

address_within : (b : Boot) (pt : Point) → Run b pt → (i : MsgId) (z : Spot) (o : Option PlainMessage) → pt.kernel.bag i ≡ o → 1 ≤ standing pt.view i z → (pt.addresses (Receiver i)).at < pt.kernel.machines
address_within b pt run i z (Some x) there st = run.found.within (Receiver i) x.to (ap to_of there)
address_within b pt run i z None there st = grind (arith, nat_tests, told_of, own_by, stands_right)

pub stands_within : (b : Boot) (pt : Point) → Run b pt → (i : MsgId) (z : Spot) → 1 ≤ standing pt.view i z → machine_of z < pt.kernel.machines
stands_within b pt run i z st = subst (λ (k : ℕ). k < pt.kernel.machines) (run.found.at_ i z st) (address_within b pt run i z (pt.kernel.bag i) refl st)

-- a process that was never made
unmade_by : (s : OneKernel) (p : Pid) (o : Option Life) → s.processes p ≡ o → (is_some (s.processes p) ≡ true → nat_lt p.num (3 + s.made p.home) ≡ true) → 3 + s.made p.home ≤ p.num → o ≡ None
unmade_by s p o e most le = grind (arith, nat_tests, nat_lt)

pub made_here : (b : Boot) (pt start next : Point) (ls : List Line) (m n : ℕ) → Run b pt → start.kernel ≡ pt.kernel → start.view.known ≡ pt.view.known → after start ls ≡ Some next → MadeHere m n start next
made_here b pt start next ls m n run kernel known comes =
    let s : OneKernel = pt.kernel in
    let sane = run.based.phased.sane in
    record {
      more = (reached sane.r sane.e start.kernel next.kernel (labels ls) (after_replay ls start next comes) (subst (λ (k : OneKernel). Sound sane.r sane.e k) (sym kernel) sane.sound)).grown.made m;
      fresh = λ k le.
          let p : Pid = pid_of m (first_number + k) in
          let none : s.processes p ≡ None = unmade_by s p (s.processes p) refl (sane.sound.made.most p) (omega (arith, (subst (λ (f : OneKernel). f.made m ≤ k) kernel le))) in
          ap (λ (f : ℕ → Pid → Known). f n p) known ∙ run.based.phased.ground.lives.none p none (omega arith) n;
    }

-- The line of a message that is routed, as the machine says it and as the rule has it.

-- the kind of a message is that of its plain meaning
pub kind_plain : (w : What) → IsKindOfPlain w (plain_what w)
kind_plain (What.Migrate machine) = tt
kind_plain (What.Update about) = tt
kind_plain (What.Ask pid blocks moves size asker) = tt
kind_plain (What.Refuse pid slots blocks) = tt
kind_plain (What.PullState pid chunk) = tt
kind_plain (What.State pid chunk last bytes) = tt
kind_plain (What.PullBlock pid block) = tt
kind_plain (What.Memory pid block bytes) = tt
kind_plain (What.AllTaken pid) = tt
kind_plain (What.Restart pid) = tt
kind_plain (What.CallOff pid) = tt
kind_plain (What.Bury pid) = tt
kind_plain _ = refl

-- a message of the bag, without places
pub record IsPlain (o : Option PlainMessage) (x : Message) : Type 0 where
  pub m : PlainMessage
  pub there : o ≡ Some m
  pub kind : plain_kind m.what ≡ kind_of x.what
  pub to : m.to ≡ x.to.pid

pub some_plain : (o : Option PlainMessage) → is_some o ≡ true → (m : PlainMessage) × (o ≡ Some m)
some_plain o e = grind (arith, nat_tests)

pub plain_of : (pt : Point) (l : Placed) (x : Message) → Mirrors pt.kernel pt.view pt.addresses l → l.bag x.id ≡ Some x → is_some (plain_message x) ≡ true → IsPlain (pt.kernel.bag x.id) x
plain_of pt l x mirrors there plain =
    let (m, is) = some_plain (plain_message x) plain in
    let k : ((plain_what x.what) ≡ Some m.what) × (m.to ≡ x.to.pid) = grind (arith, nat_tests) in
    search (sym (mirrors.plain.bag x.id) ∙ ap (λ (o : Option Message). bind o plain_message) there ∙ is, subst (IsKindOfPlain x.what) k.0 (kind_plain x.what))

-- the packet that goes with it
abbrev pub packet_with : Point → ℕ → ℕ → Line
packet_with pt m c = packet_line pt.view m c (Load.Data (length (pt.view.pair m c).ids))

abbrev pub line_put : ℕ → ℕ → Message → Line
line_put m c x = Line.Put m c x.id (kind_of x.what) x.to.pid

abbrev pub lines_put : Point → ℕ → ℕ → Message → Bool → Bool → List Line
lines_put pt m c x home out = line_put m c x ∷ (if home then [] else if out then packet_with pt m c ∷ [] else [])

-- where the lines lead
abbrev pub put_point : Point → ℕ → ℕ → Message → Point
put_point pt m c x = moved pt (line_put m c x) pt.kernel

abbrev pub put_end : Point → ℕ → ℕ → Message → Bool → Bool → Point
put_end pt m c x home out = if home then put_point pt m c x else if out then moved (put_point pt m c x) (packet_with pt m c) pt.kernel else put_point pt m c x

pub put_leads : (pt : Point) (m c : ℕ) (x : Message) (home out : Bool) → after pt (lines_put pt m c x home out) ≡ Some (put_end pt m c x home out)
put_leads pt m c x home out = grind (arith, nat_tests)

-- the lines of a message whose kind, receiver and machine are these
puts_are : (pt : Point) (m c : ℕ) (x : Message) (id : MsgId) (k : MessageKind) (q : Pid) (at_ : ℕ) (home out : Bool) → pt.view.acting ≡ m → at_ ≡ c → id ≡ x.id → k ≡ kind_of x.what → q ≡ x.to.pid → (m == c) ≡ home → goes_out (pt.view.pair m c) ≡ out
    → puts pt.view at_ id k q ≡ lines_put pt m c x home out
puts_are pt m c x id k q at_ home out acting place name kind to same goes = grind (arith, nat_tests)

pub part_is : (pt : Point) (l : Placed) (records : AllRecords) (m : ℕ) (r : Route) (home out : Bool) → Mirrors pt.kernel pt.view pt.addresses l → pt.view.acting ≡ m → MayPut pt l records 0 r → (m == (message_of r).to.at) ≡ home → goes_out (pt.view.pair m (message_of r).to.at) ≡ out
    → lines_of pt (rule_part_of r) ≡ Some (lines_put pt m (message_of r).to.at (message_of r) home out)
part_is pt l records m (First x) home out mirrors acting may same goes =
    let p : IsPlain (pt.kernel.bag x.id) x = plain_of pt l x mirrors may.0 may.1 in
    let place : (pt.addresses (Receiver x.id)).at ≡ x.to.at = ap (λ z. z.at) (mirrors.places.message x.id x may.0).receiver in
    ap (λ (o : Option PlainMessage). bind o (λ (z : PlainMessage). Some (puts pt.view (pt.addresses (Receiver x.id)).at x.id (plain_kind z.what) z.to))) p.there
    ∙ ap Some (puts_are pt m x.to.at x x.id (plain_kind p.m.what) p.m.to (pt.addresses (Receiver x.id)).at home out acting place refl p.kind p.to same goes)
part_is pt l records m (On x) home out mirrors acting may same goes = grind (arith, nat_tests, puts_are)
part_is pt l records m (Own x) home out mirrors acting may same goes =
    ap Some (puts_are pt m x.to.at x (own_id pt.view) (kind_of x.what) x.to.pid x.to.at home out acting refl (own_first pt.view ∙ sym may.id) refl refl same goes)
