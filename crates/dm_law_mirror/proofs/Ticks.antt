-- A tick: what is out and not acknowledged goes out again, by the machine and by the rule.
use Rattle.dm_law_mirror.proofs.Names.{◌≡◌, ◌≢◌, ℕ, zero, suc, ◌+◌, ◌-◌, ◌<◌, ◌≤◌, ◌==◌, nat_lt, Bool, true, false, List, [], ◌∷◌, ◌++◌, length, refl, ap, ◌∙◌, sym, subst, arith, if◌then◌else◌, slice_get, Option, None, Some, nat_tests, load_of}
use Rattle.dm_law_mirror.proofs.Names.{append-nil, length-drop, map-append, Message, Data, outstanding, numbered, Stream, Boot, bind, Step, Load, NodeState, here, Out, Sends, again, all_out, count_out, counts_out, first_out, sends, tick}
use Rattle.dm_law_mirror.proofs.Names.{spoken, Line, View, NothingElse, after_packet, begins, Transmits, Spelled, spelled, Point, behind, numbers_from, repeats, resends, Placed, WorldState, acted, at_machine, CountsStand, History, PairStands}
use Rattle.dm_law_mirror.proofs.Names.{StandsWith, stream_of, GoesOn, packet_of_load}
use Rattle.dm_law_rule.proofs.Names.{Part}
use Rattle.std.proofs.lemmas.List.{append_assoc}
use Rattle.dm_law_mirror.proofs.Streams.{joined, put_back, went_again, at_same, node_same}
use Rattle.dm_node.proofs.Speaking.{spoken-append}
use Rattle.dm_law_mirror.proofs.Puts.{ids_same, spelled_on, stands_begins, stands_put, wire_length, same_senders}
use Rattle.dm_law_mirror.proofs.Deliver.Moves.{given_at as get_there}
use Rattle.dm_law_mirror.proofs.QuietSaid.{not_same as apart_of}
use Rattle.dm_stream.specs.Order as order
use Rattle.dm_law_rule.specs.Parts as rule
use Rattle.dm_law_rule.specs.Rule as rules
use Rattle.dm_node.specs.Wired.{packet_line}

-- what goes out again, and the parts that the rule has for it
record Again (b : Boot) (l : Placed) (w : WorldState) (pt : Point) (outs : List Out) (ps : List Part) : Type 0 where
  lines : List Line
  next : Point
  spells : (qs : List Part) (v : Spelled) → spelled next qs ≡ Some v → spelled pt (ps ++ qs) ≡ Some (behind lines v)
  said : (spoken w.wires outs).lines ≡ lines
  history : History
  stands : StandsWith b (record w { wires = (spoken w.wires outs).wires }) next l history
  machines : next.kernel.machines ≡ pt.kernel.machines
  counts : next.view.count ≡ pt.view.count

again_none : (b : Boot) (l : Placed) (w : WorldState) (pt : Point) (h : History) → StandsWith b w pt l h → Again b l w pt [] []
again_none b l w pt h st = record { lines = []; next = pt; spells = λ qs v e. e; said = refl; history = h; stands = st; machines = refl; counts = refl }

-- the world behind what was given to the outside
abbrev spoke : WorldState → List Out → WorldState
spoke w outs = record w { wires = (spoken w.wires outs).wires }

again_then : (b : Boot) (l : Placed) (w : WorldState) (pt : Point) (xs ys : List Out) (ps qs : List Part) (a : Again b l w pt xs ps) → Again b l (spoke w xs) a.next ys qs → Again b l w pt (xs ++ ys) (ps ++ qs)
again_then b l w pt xs ys ps qs a c = record {
  lines = a.lines ++ c.lines;
  next = c.next;
  spells = λ rs v e.
      ap (spelled pt) (append_assoc ps qs rs) ∙ a.spells (qs ++ rs) (behind c.lines v) (c.spells rs v e)
      ∙ ap (λ (ls : List Line). Some (record { lines = ls; point = v.point })) (sym (append_assoc a.lines c.lines v.lines));
  said = ap (λ s. s.lines) (spoken-append w.wires xs ys) ∙ (λ i. a.said i ++ c.said i);
  history = c.history;
  stands = subst (λ z. StandsWith b (record w { wires = z }) c.next l c.history) (sym (ap (λ s. s.wires) (spoken-append w.wires xs ys))) c.stands;
  machines = c.machines ∙ a.machines;
  counts = c.counts ∙ a.counts;
}

-- one message goes out again
again_one : (b : Boot) (l : Placed) (w : WorldState) (pt : Point) (h : History) (m c k n : ℕ) (x : Message) → m ≢ c → m < pt.kernel.machines → c < pt.kernel.machines → outstanding ((w.nodes m).senders c) k ≡ Some (n, x) → StandsWith b w pt l h
    → Again b l w pt (sends (w.nodes m) c (Data n x) ∷ []) (Transmits m c (Load.Data n) ∷ [])
again_one b l w pt h m c k n x apart small less out st =
    let pair : PairStands b pt l w h m c = st.pairs m c small less apart in
    let next : Point = record pt { view = after_packet pt.view m c (Load.Data n) } in
    let is : Again b l w pt (Sends (packet_of_load m c (Data n x)) ∷ []) (Transmits m c (Load.Data n) ∷ []) =
    -- the line is the same
    let line_put : packet_line w.wires (packet_of_load m c (Data n x)) ≡ Line.Packet m c (length (pt.view.pair m c).wire) (load_of (Data n x)) = grind (arith, nat_tests, wire_length b pt l w h m c pair) in
    record {
      lines = rule.packet_line pt.view m c (Load.Data n) ∷ [];
      next = next;
      spells = λ qs v e. spelled_on pt next (Transmits m c (Load.Data n)) (rule.packet_line pt.view m c (Load.Data n) ∷ []) qs v refl refl e;
      said = ap (λ (z : Line). z ∷ []) line_put;
      history = _;
      stands = stands_put b pt l w h m c w.nodes ((w.nodes m).senders c) (Data n x) apart (same_senders w m c) (λ d e. refl) (λ d. refl) (node_same b pt l (after_packet pt.view m c (Load.Data n)) m (w.nodes m) refl (ids_same pt.view.pair m c _ refl m m) (st.nodes m small))
          (went_again b l.bag m c (stream_of w h m c) (w.wires m c) (pt.view.pair m c) k n x out (joined b pt l w h m c pair))
          (put_back b l.bag c m (stream_of w h c m) (w.wires c m) (pt.view.pair c m) n x (joined b pt l w h c m (st.pairs c m less small (λ e. apart (sym e))))) st;
      machines = refl;
      counts = refl;
    } in
    subst (λ (z : ℕ). Again b l w pt (Sends (packet_of_load z c (Data n x)) ∷ []) (Transmits m c (Load.Data n) ∷ [])) (sym (st.nodes m small).kernel.here) is

-- the numbers one after the other
numbers_next : (n k : ℕ) → numbers_from n (suc k) ≡ numbers_from n k ++ (n + k) ∷ []
numbers_next n zero = ap (λ (z : ℕ). z ∷ []) (omega arith)
numbers_next n (suc k) = ap (λ (ns : List ℕ). n ∷ ns) (numbers_next (n + 1) k ∙ ap (λ (z : ℕ). numbers_from (n + 1) k ++ z ∷ []) (omega arith))

out_there : (s : Stream Message) (k : ℕ) → order.StreamStands s → suc k ≤ count_out s.sender → (x : Message) × (outstanding s.sender k ≡ Some (s.sender.acked + k, x))
out_there s k st few =
    let long : length s.sender.unacked ≡ length s.given - s.sender.acked = ap length st.in_order.unacked ∙ length-drop s.sender.acked s.given in
    let (x, is) = get_there s.sender.unacked k (omega (arith, long, few, st.in_order.gone_given)) in
    let test : nat_lt (s.sender.acked + k) s.sender.gone ≡ true = grind (arith, nat_tests, few) in (
      x,
      ap (λ (t : Bool). if t then numbered (s.sender.acked + k) (slice_get s.sender.unacked k) else None) test ∙ ap (numbered (s.sender.acked + k)) is,
    )

module _ (b : Boot) (l : Placed) (w : WorldState) (m : ℕ) where
  first_then : (pt : Point) (h : History) (c k : ℕ) → m ≢ c → m < pt.kernel.machines → c < pt.kernel.machines → StandsWith b w pt l h → suc k ≤ count_out ((w.nodes m).senders c)
      → Again b l w pt (first_out (w.nodes m) c k) (repeats m c (numbers_from ((w.nodes m).senders c).acked k)) → Again b l w pt (first_out (w.nodes m) c (suc k)) (repeats m c (numbers_from ((w.nodes m).senders c).acked (suc k)))
  first_then pt h c k apart small less st few a =
      let s = (w.nodes m).senders c in
      let outs : List Out = first_out (w.nodes m) c k in
      let (x, is) = out_there (stream_of w h m c) k (st.pairs m c small less apart).stream few in
      let one : Again b l (spoke w outs) a.next (sends (w.nodes m) c (Data (s.acked + k) x) ∷ []) (Transmits m c (Load.Data (s.acked + k)) ∷ []) =
      again_one b l (spoke w outs) a.next a.history m c k (s.acked + k) x apart (omega (arith, small, a.machines)) (omega (arith, less, a.machines)) is a.stands in
      let both = again_then b l w pt outs (sends (w.nodes m) c (Data (s.acked + k) x) ∷ []) (repeats m c (numbers_from s.acked k)) (Transmits m c (Load.Data (s.acked + k)) ∷ []) a one in
      subst (λ (ps : List Part). Again b l w pt (first_out (w.nodes m) c (suc k)) ps)
      (sym (ap (repeats m c) (numbers_next s.acked k) ∙ map-append (λ (z : ℕ). Transmits m c (Load.Data z)) (numbers_from s.acked k) ((s.acked + k) ∷ [])))
      (subst (λ (o : Option (ℕ × Message)). Again b l w pt (outs ++ again (w.nodes m) c o) (repeats m c (numbers_from s.acked k) ++ Transmits m c (Load.Data (s.acked + k)) ∷ [])) (sym is) both)

  -- the first k of what is out to machine c
  first_on : (pt : Point) (h : History) (c : ℕ) → m ≢ c → m < pt.kernel.machines → c < pt.kernel.machines → StandsWith b w pt l h → (k : ℕ) → k ≤ count_out ((w.nodes m).senders c)
      → Again b l w pt (first_out (w.nodes m) c k) (repeats m c (numbers_from ((w.nodes m).senders c).acked k))
  first_on pt h c apart small less st zero few = again_none b l w pt h st
  first_on pt h c apart small less st (suc k) few = first_then pt h c k apart small less st few (first_on pt h c apart small less st k (omega (arith, few)))

  -- what is out to machine c, unless that is the machine itself
  to_one : (pt : Point) (h : History) (v : View) (c : ℕ) (t : Bool) → (m == c) ≡ t → m < pt.kernel.machines → c < pt.kernel.machines → ((m ≢ c) → ((w.nodes m).senders c).acked ≡ (v.pair m c).acked) → ((m ≢ c) → ((w.nodes m).senders c).gone ≡ (v.pair m c).gone)
      → StandsWith b w pt l h
      → Again b l w pt (if t then [] else first_out (w.nodes m) c (count_out ((w.nodes m).senders c))) (if t then [] else repeats m c (numbers_from (v.pair m c).acked ((v.pair m c).gone - (v.pair m c).acked)))
  to_one pt h v c true e small less acked gone st = again_none b l w pt h st
  to_one pt h v c false e small less acked gone st =
      let apart : m ≢ c = apart_of m c e in
      let outs : List Out = first_out (w.nodes m) c (count_out ((w.nodes m).senders c)) in
      subst (λ (p : ℕ × ℕ). Again b l w pt outs (repeats m c (numbers_from p.0 (p.1 - p.0)))) (λ i. (acked apart i, gone apart i)) (first_on pt h c apart small less st (count_out ((w.nodes m).senders c)) (omega arith))

  count_if : (pt : Point) (h : History) (c : ℕ) (t : Bool) → (m == c) ≡ t → m < pt.kernel.machines → c < pt.kernel.machines → StandsWith b w pt l h → (if t then 0 else count_out ((w.nodes m).senders c)) ≡ (if t then 0 else (pt.view.pair m c).gone - (pt.view.pair m c).acked)
  count_if pt h c t e small less st = grind (arith, nat_tests, apart_of)

-- what is out to the first n machines, as the rule has it for the lines before
all_on : (b : Boot) (l : Placed) (w : WorldState) (m : ℕ) (pt : Point) (h : History) → m < pt.kernel.machines → StandsWith b w pt l h → (n : ℕ) → n ≤ pt.kernel.machines → Again b l w pt (all_out (w.nodes m) n) (resends pt.view m n)
all_on b l w m pt h small st zero few = again_none b l w pt h st
all_on b l w m pt h small st (suc n) few = next (all_on b l w m pt h small st n (omega (arith, few)))
  where
    next : Again b l w pt (all_out (w.nodes m) n) (resends pt.view m n) → Again b l w pt (all_out (w.nodes m) (suc n)) (resends pt.view m (suc n))
    next a =
        let less : n < pt.kernel.machines = omega (arith, few) in
        let is : here (w.nodes m) ≡ m = (st.nodes m small).kernel.here in
        let one = to_one b l (spoke w (all_out (w.nodes m) n)) m a.next a.history pt.view n (m == n) refl (omega (arith, small, a.machines)) (omega (arith, less, a.machines)) (λ apart. (st.pairs m n small less apart).acked) (λ apart. (st.pairs m n small less apart).gone) a.stands in
        let outs : ℕ → List Out = λ (z : ℕ). if z == n then [] else first_out (w.nodes m) n (count_out ((w.nodes m).senders n)) in
        let ps : List Part = if m == n then [] else repeats m n (numbers_from (pt.view.pair m n).acked ((pt.view.pair m n).gone - (pt.view.pair m n).acked)) in
        subst (λ (z : ℕ). Again b l w pt (all_out (w.nodes m) n ++ outs z) (resends pt.view m n ++ ps)) (sym is) (again_then b l w pt (all_out (w.nodes m) n) (outs m) (resends pt.view m n) ps a one)

counts_same : (b : Boot) (l : Placed) (w : WorldState) (m : ℕ) (pt : Point) (h : History) → m < pt.kernel.machines → StandsWith b w pt l h → (n : ℕ) → n ≤ pt.kernel.machines → counts_out (w.nodes m) n ≡ rules.outstanding_count pt.view m n
counts_same b l w m pt h small st zero few = refl
counts_same b l w m pt h small st (suc n) few =
    let rest = counts_same b l w m pt h small st n (omega (arith, few)) in
    let own : ℕ → ℕ = λ (z : ℕ). if z == n then 0 else count_out ((w.nodes m).senders n) in
    λ i. rest i + (ap own ((st.nodes m small).kernel.here) ∙ count_if b l w m pt h n (m == n) refl small (omega (arith, few)) st) i

-- no machine counts more of its own messages
tick_sent : (w : WorldState) (m d : ℕ) (f : ℕ → ℕ) {g : ℕ → ℕ} → f ≡ g → (w.nodes d).kernel.sent ≡ g d → (at_machine w.nodes m (w.nodes m) d).kernel.sent ≡ f d
tick_sent w m d f e h = ap (λ (n : ℕ → NodeState). (n d).kernel.sent) (at_same w.nodes m) ∙ h ∙ ap (λ (k : ℕ → ℕ). k d) (sym e)

-- the whole group
pub tick_goes : (b : Boot) (w : WorldState) (pt : Point) (l : Placed) (h : History) (m : ℕ) → StandsWith b w pt l h → CountsStand w pt → m < pt.kernel.machines → GoesOn b w pt (Step.Tick m)
tick_goes b w pt l h m st sent small =
    let n : NodeState = w.nodes m in
    let begun : Point = record pt { view = begins pt.view m NothingElse } in
    let later : WorldState = record w { groups = w.groups + 1 } in
    let stood : StandsWith b later begun l h = stands_begins b w pt l h m NothingElse st in
    let machines : n.machines ≡ pt.kernel.machines = (st.nodes m small).machines in
    let a : Again b l later begun (all_out n n.machines) (resends pt.view m pt.kernel.machines) = subst (λ (z : ℕ). Again b l later begun (all_out n z) (resends pt.view m pt.kernel.machines)) (sym machines) (all_on b l later m begun h small stood pt.kernel.machines (omega arith)) in
    let count : counts_out n n.machines ≡ rules.outstanding_count pt.view m pt.kernel.machines = ap (counts_out n) machines ∙ counts_same b l w m pt h small st pt.kernel.machines (omega arith) in
    let said : Line = Line.Resent m (rules.outstanding_count pt.view m pt.kernel.machines) in
    let rest : Spelled = record { lines = a.lines ++ []; point = a.next } in
    let ends : spelled begun (resends pt.view m pt.kernel.machines) ≡ Some rest = ap (spelled begun) (sym (append-nil (resends pt.view m pt.kernel.machines))) ∙ a.spells [] (record { lines = []; point = a.next }) refl in
    record {
      said = acted w (Step.Tick m) m (tick n);
      happens = refl;
      group = behind (Line.Head (Step.Tick m) ∷ []) (behind (said ∷ []) rest);
      due = ap (λ (o : Option Spelled). bind o (λ v. Some (behind (Line.Head (Step.Tick m) ∷ []) v))) (spelled_on begun begun (rule.Says said) (said ∷ []) (resends pt.view m pt.kernel.machines) rest refl refl ends);
      lines = λ i. Line.Head (Step.Tick m) ∷ Line.Resent ((st.nodes m small).kernel.here i) (count i) ∷ (a.said ∙ sym (append-nil a.lines)) i;
      stands = ((l, a.history, subst (λ (f : ℕ → NodeState). StandsWith b (record { nodes = f; wires = (spoken w.wires (all_out n n.machines)).wires; ended = w.ended; groups = w.groups + 1 }) a.next l a.history) (sym (at_same w.nodes m)) a.stands), λ d few. tick_sent w m d a.next.view.count (a.counts) (sent d (subst (λ (k : ℕ). d < k) a.machines few)));
    }
