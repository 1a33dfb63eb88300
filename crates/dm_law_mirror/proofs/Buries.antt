-- Where a process has ended its machine's kernel tells the predecessors, each under the next name of its own: as many messages as the rule
-- has, and each may be put.
use Rattle.dm_law_mirror.proofs.Names.{◌≡◌, ℕ, ◌+◌, ◌≤◌, Bool, true, List, [], ◌∷◌, length, map, refl, ap, ◌∙◌, sym, subst, arith, if◌then◌else◌, None, false≢true, nat_tests, nat_le, Pid, pid_of, kernel_at, Message, What, MessageKind, id_of}
use Rattle.dm_law_mirror.proofs.Names.{id_eq-same, Boot, IsValid, Gets, Receiver, Sender, gets, given, unmoved, to_kernel, Point, Of, Run, Placed, Mirrors, KernelState, own, AllOwnStand, KernelStands, AllRecords, Part, bind, plain_message}
use Rattle.dm_law_mirror.proofs.Names.{with_sent}
use Rattle.dm_law_rule.specs.Parts as rule
use Rattle.dm_law_rule.specs.Burying as burying
use Rattle.dm_kernel.specs.Burying as machine
use Rattle.dm_law_mirror.proofs.Turning.{AllMayPut, MayOwn, Own, own_behind, rule_own}
use Rattle.dm_law_mirror.proofs.Preds.{preds_same}
use Rattle.dm_law_mirror.proofs.Leave.Fronts.{absent_by}

-- the messages to the kernels of these machines
abbrev pub bury_messages : KernelState → Pid → List ℕ → List Message
bury_messages k p [] = []
bury_messages k p (n ∷ ns) = own k (kernel_at n) (What.Bury p) ∷ bury_messages (with_sent k) p ns

pub machine_buries : (k : KernelState) (p : Pid) (ns : List ℕ) → machine.buries k p ns ≡ map Part.Routes (bury_messages k p ns)
machine_buries k p [] = refl
machine_buries k p (n ∷ ns) = ap (λ (ps : List Part). Part.Routes (own k (kernel_at n) (What.Bury p)) ∷ ps) (machine_buries (with_sent k) p ns)

pub rule_buries : (k : KernelState) (p : Pid) (ns : List ℕ) → map (to_kernel MessageKind.Bury) ns ≡ map rule_own (bury_messages k p ns)
rule_buries k p [] = refl
rule_buries k p (n ∷ ns) = ap (λ (ps : List rule.Part). to_kernel MessageKind.Bury n ∷ ps) (rule_buries (with_sent k) p ns)

pub many_buries : (k : KernelState) (p : Pid) (ns : List ℕ) → length (bury_messages k p ns) ≡ length ns
many_buries k p [] = refl
many_buries k p (n ∷ ns) = let e = many_buries (with_sent k) p ns in omega (arith, e)

-- to the same machines as the rule has
pub preds_are : (b : Boot) (pt : Point) (l : Placed) (m : ℕ) (k : KernelState) (p : Pid) → IsValid b → pt.kernel.machines ≡ length b.machines → KernelStands b pt l m k → machine.preds_of k p ≡ burying.preds_of pt m p
preds_are b pt l m k p valid machines h =
    let few : length b.machines ≤ 16 = (let t : nat_le (length b.machines) 16 ≡ true = valid.few_machines in grind (arith, nat_tests)) in
    preds_same (k.preds p) (pt.view.preds m p) pt.kernel.machines (h.preds.same p) (subst (λ (n : ℕ). n ≤ 16) (sym machines) few) (λ j far. h.preds.within p j (subst (λ (n : ℕ). n ≤ j) machines far))

-- the point where they are put: about this process, and no name of the kernel's own from here on was told or stands in the bag
pub record MayTell (next : Point) (placed : Placed) (m c : ℕ) (p : Pid) : Type 0 where
  pub acting : next.view.acting ≡ m
  pub count : next.view.count m ≡ c
  pub topic : next.view.topic ≡ Of p
  pub untold : (n : ℕ) → c ≤ n → next.view.told (id_of (pid_of m 0) n) ≡ None
  pub absent : (n : ℕ) → c ≤ n → placed.bag (id_of (pid_of m 0) n) ≡ None

bury_may : (next : Point) (placed : Placed) (records : AllRecords) (m c j n : ℕ) (p : Pid) (k : KernelState) → MayTell next placed m c p → k.here ≡ m → k.sent ≡ c + j → MayOwn next placed records j (own k (kernel_at n) (What.Bury p))
bury_may next placed records m c j n p k h here sent =
    let x = own k (kernel_at n) (What.Bury p) in
    let a = next.addresses in
    let v = next.view in
    let second : List Gets = gets (Sender x.id) (unmoved v.acting) ∷ [] in
    let more : c ≤ c + j = omega arith in
    let id : x.id ≡ id_of (pid_of m 0) (c + j) = λ i. id_of (pid_of (here i) 0) (sent i) in
    let behind : own_behind v j ≡ id_of (pid_of m 0) (c + j) = ap (λ (d : ℕ). id_of (pid_of d 0) (v.count d + j)) h.acting ∙ ap (λ (d : ℕ). id_of (pid_of m 0) (d + j)) h.count in
    record {
      id = id ∙ sym behind;
      plain = refl;
      encloses = refl;
      bag = ap placed.bag id ∙ h.absent (c + j) more;
      untold = ap v.told id ∙ h.untold (c + j) more;
      receiver = ap (λ (e : Bool). if e then unmoved n else given a second (Receiver x.id)) (id_eq-same x.id);
      sender = ap (λ (e : Bool). if e then unmoved v.acting else a (Sender x.id)) (id_eq-same x.id) ∙ ap unmoved (h.acting ∙ sym here);
      about = h.topic;
      asker = λ (e : MessageKind.Bury ≡ MessageKind.Migrate). cc;
      carried = λ between. absurd (false≢true between);
    }

pub buries_may : (next : Point) (placed : Placed) (records : AllRecords) (m c j : ℕ) (p : Pid) (k : KernelState) (ns : List ℕ) → MayTell next placed m c p → k.here ≡ m → k.sent ≡ c + j → AllMayPut next placed records j (map Own (bury_messages k p ns))
buries_may next placed records m c j p k [] h here sent = tt
buries_may next placed records m c j p k (n ∷ ns) h here sent =
    let more : k.sent + 1 ≡ c + (j + 1) = omega (arith, sent) in
    (bury_may next placed records m c j n p k h here sent, buries_may next placed records m c (j + 1) p (with_sent k) ns h here more)

-- what a kernel hasn't counted wasn't told, and isn't in the bag
pub untold_from : (b : Boot) (pt : Point) (m n : ℕ) → Run b pt → pt.view.count m ≤ n → pt.view.told (id_of (pid_of m 0) n) ≡ None
untold_from b pt m n run le = run.based.phased.state.numbered m n le

pub absent_from : (b : Boot) (pt : Point) (l : Placed) (m n : ℕ) → Run b pt → Mirrors pt.kernel pt.view pt.addresses l → AllOwnStand pt.view l → pt.view.count m ≤ n → l.bag (id_of (pid_of m 0) n) ≡ None
absent_from b pt l m n run mirrors own le =
    let i = id_of (pid_of m 0) n in
    absent_by b pt l i (l.bag i) (bind (l.bag i) plain_message) run mirrors own refl (untold_from b pt m n run le) refl refl
