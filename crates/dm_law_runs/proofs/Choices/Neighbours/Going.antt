-- Where two directives behind a run don't meet, the second may go first.
use Rattle.dm_law_mirror.proofs.Names.{◌≡◌, ◌≢◌, ◌<◌, ℕ, true, false, List, [], ◌∷◌, ◌++◌, length, refl, ap, ◌∙◌, sym, subst, inl, ⊤, is_some, Option, None, Some, Pid, Why, pid_eq-same, if◌then◌else◌, Bool, Boot, IsValid, Step, Line}
use Rattle.dm_law_mirror.proofs.Names.{NodeState, here, WorldState, Said, world_step, with_over, DoesSame, SamePacket}
use Rattle.std.specs.Prelude.{is_none, unwrap_or}
use Rattle.dm_law_one.proofs.Names.{fun_ext}
use Rattle.dm_kernel.specs.State.{manager_in}
use Rattle.dm_onekernel.specs.Boot.{manager}
use Rattle.dm_world.specs.Local.{acts_on}
use Rattle.dm_world.specs.World.{Says, seat_of}
use Rattle.dm_run.specs.Runs.{IsStep}
use Rattle.dm_run.specs.Went.{Does, Went, goes}
use Rattle.dm_law_mirror.proofs.Local.{acts_locally, reads_locally}
use Rattle.dm_law_mirror.proofs.Seats.{seat_has}
use Rattle.dm_law_mirror.proofs.Staying.{kernel_stays}
use Rattle.dm_explore.specs.Order.{delivers_of, is_away}
use Rattle.dm_explore.specs.Past.{puts_in}
use Rattle.dm_explore.specs.Sights.{world_sight}
use Rattle.dm_law_runs.proofs.Choices.Neighbours.Acting.{SameSeat, acts_less, acts_same, does_there, ends_by, ends_in}
use Rattle.dm_law_runs.proofs.Choices.Neighbours.Changing.{Settled, four_same, marks_leave, others_long, over_swaps, settled_same}
use Rattle.dm_law_runs.proofs.Choices.Neighbours.Reaching.{ended_on, has_manager, is_at, seat_only}
use Rattle.dm_law_runs.proofs.Choices.Neighbours.Wires.{not_put_settled, wires_numbered}

-- a delivery finds its packet
abbrev pub IsThere : Step → WorldState → Type 0
IsThere (Step.Turn m) w = ⊤
IsThere (Step.Tick m) w = ⊤
IsThere (Step.Deliver a c k) w = k < length (w.wires a c)
IsThere (Step.Migrate p m) w = ⊤
IsThere (Step.CallOff p m) w = ⊤

-- two directives behind a run: the first acts on another machine than the second, and puts no packet that the second delivers; both find the
-- manager, if they ask it; the first finds its packet
pub record Pair (b : Boot) (es : List Step) (gs : List (List Line)) (w : WorldState) (d e : Step) (s t : Said) : Type 0 where
  pub valid : IsValid b
  pub went : Went b es gs w
  pub first : Does b w d s.lines s.state
  pub second : Does b s.state e t.lines t.state
  pub seat_d : is_away (world_sight (length b.machines) w) d ≡ false
  pub seat_e : is_away (world_sight (length b.machines) s.state) e ≡ false
  pub apart : acts_on b w d ≢ acts_on b s.state e
  pub brings_none : delivers_of (puts_in s.lines) e ≡ false
  pub there : IsThere d w

-- the second goes first, and says the same; and so does the first behind it, and where they lead is the same
pub record Swapped (b : Boot) (w : WorldState) (d e : Step) (s t : Said) : Type 0 where
  pub first : Said
  pub last : Said
  pub does_first : Does b w e first.lines first.state
  pub does_last : Does b first.state d last.lines last.state
  pub lines_first : first.lines ≡ t.lines
  pub lines_last : last.lines ≡ s.lines
  pub same : last.state ≡ t.state
  pub seats_e : SameSeat b e s.state w
  pub seats_d : SameSeat b d w first.state
  -- what they don't act on stays
  pub node_e : w.nodes (acts_on b s.state e) ≡ s.state.nodes (acts_on b s.state e)
  pub node_d : first.state.nodes (acts_on b w d) ≡ w.nodes (acts_on b w d)

-- the manager is on the same machine in another world, where that machine is the same
seat_by : (b : Boot) (es : List Step) (gs : List (List Line)) (w u : WorldState) (o : Option ℕ) → IsValid b → Went b es gs u → seat_of (length b.machines) w.nodes ≡ o → is_none o ≡ false → ((m : ℕ) → o ≡ Some m → u.nodes m ≡ w.nodes m)
    → seat_of (length b.machines) u.nodes ≡ seat_of (length b.machines) w.nodes
seat_by b es gs w u None valid went is there same = absurd (let f : true ≡ false = there in cc)
seat_by b es gs w u (Some m) valid went is there same =
    let k = seat_has (length b.machines) m w.nodes is in
    let has : has_manager u m ≡ true = ap (λ (n : NodeState). is_some (manager_in (n.kernel.records manager))) (same m refl) ∙ k.1 in
    seat_only b es gs u m valid went k.0 has ∙ sym is

pub seats_stay : (b : Boot) (es : List Step) (gs : List (List Line)) (w u : WorldState) (e : Step) → IsValid b → Went b es gs u → is_away (world_sight (length b.machines) w) e ≡ false → u.nodes (acts_on b w e) ≡ w.nodes (acts_on b w e) → SameSeat b e w u
seats_stay b es gs w u (Step.Turn m) valid went there same = tt
seats_stay b es gs w u (Step.Tick m) valid went there same = tt
seats_stay b es gs w u (Step.Deliver a c k) valid went there same = tt
seats_stay b es gs w u (Step.Migrate p m) valid went there same = seat_by b es gs w u (seat_of (length b.machines) w.nodes) valid went refl there (λ s is. subst (λ (k : ℕ). u.nodes k ≡ w.nodes k) (ap (λ (o : Option ℕ). unwrap_or o 0) is) same)
seats_stay b es gs w u (Step.CallOff p m) valid went there same = tt

-- what the second delivers was not put by the first
pub settled_by : (b : Boot) (es : List Step) (gs : List (List Line)) (w : WorldState) (d e : Step) (s : Said) → IsValid b → Went b es gs w → Does b w d s.lines s.state → IsStep (length b.machines) e → delivers_of (puts_in s.lines) e ≡ false → Settled e w s.state
settled_by b es gs w d (Step.Turn m) s valid went does fits none = tt
settled_by b es gs w d (Step.Tick m) s valid went does fits none = tt
settled_by b es gs w d (Step.Deliver a c k) s valid went does fits none = not_put_settled w s.state s.lines a c k (wires_numbered b es gs w d s.lines s.state a c valid went does fits.0 fits.1 fits.2) none
settled_by b es gs w d (Step.Migrate p m) s valid went does fits none = tt
settled_by b es gs w d (Step.CallOff p m) s valid went does fits none = tt

-- nor what the first delivers by the second
there_settled : (d : Step) (w u : WorldState) → IsThere d w → Settled d w u
there_settled (Step.Turn m) w u there = tt
there_settled (Step.Tick m) w u there = tt
there_settled (Step.Deliver a c k) w u there = inl there
there_settled (Step.Migrate p m) w u there = tt
there_settled (Step.CallOff p m) w u there = tt

pub packet_back : (e : Step) (w u : WorldState) → SamePacket e w u → SamePacket e u w
packet_back (Step.Turn m) w u same = tt
packet_back (Step.Tick m) w u same = tt
packet_back (Step.Deliver a c k) w u same = sym same
packet_back (Step.Migrate p m) w u same = tt
packet_back (Step.CallOff p m) w u same = tt

-- who ends in a turn has ended for this reason
over_self : (ended : Pid → Option Why) (q : Pid) (y : Why) → with_over ended (Some (q, y)) q ≡ Some y
over_self ended q y = ap (λ (c : Bool). if c then Some y else ended q) (pid_eq-same q)

-- from w by d to v and by e to z, and from w by e to u and by d to t: the same have ended
ended_same : (b : Boot) (es : List Step) (gs : List (List Line)) (w : WorldState) (d e : Step) (s t : Said) (k j : Said) (h : Pair b es gs w d e s t) → world_step b w e ≡ Some (Says k) → world_step b k.state d ≡ Some (Says j)
    → ends_in b (w.nodes (acts_on b w e)) e ≡ ends_in b (s.state.nodes (acts_on b s.state e)) e → ends_in b (k.state.nodes (acts_on b k.state d)) d ≡ ends_in b (w.nodes (acts_on b w d)) d → (p : Pid) → j.state.ended p ≡ t.state.ended p
ended_same b es gs w d e s t k j h one two same_e same_d p =
    let x = ends_in b (w.nodes (acts_on b w d)) d in
    let y = ends_in b (s.state.nodes (acts_on b s.state e)) e in
    let by_d : s.state.ended ≡ with_over w.ended x = fun_ext (λ q. ends_by b w d s q h.first.happens) in
    let by_e : (q : Pid) → t.state.ended q ≡ with_over s.state.ended y q = λ q. ends_by b s.state e t q h.second.happens in
    let first : k.state.ended ≡ with_over w.ended y = fun_ext (λ q. ends_by b w e k q one ∙ ap (λ (o : Option (Pid × Why)). with_over w.ended o q) same_e) in
    let last : j.state.ended p ≡ with_over k.state.ended x p = ends_by b k.state d j p two ∙ ap (λ (o : Option (Pid × Why)). with_over k.state.ended o p) same_d in
    let one_reason : (q : Pid) (f g : Why) → x ≡ Some (q, f) → y ≡ Some (q, g) → f ≡ g = λ q f g is there.
    (let over : s.state.ended q ≡ Some f = ap (λ (z : Pid → Option Why). z q) by_d ∙ ap (λ (o : Option (Pid × Why)). with_over w.ended o q) is ∙ over_self w.ended q f in
    let still : t.state.ended q ≡ Some f = ended_on b (es ++ d ∷ []) (gs ++ s.lines ∷ []) s.state e t.lines t.state q f h.valid (goes es gs w d s.lines s.state h.went h.first) h.second over in
    let again : t.state.ended q ≡ Some g = by_e q ∙ ap (λ (o : Option (Pid × Why)). with_over s.state.ended o q) there ∙ over_self s.state.ended q g in
    let same : Some f ≡ Some g = sym still ∙ again in
    cc) in
    last
    ∙ ap (λ (z : Pid → Option Why). with_over z x p) first
    ∙ sym (over_swaps w.ended x y p one_reason)
    ∙ ap (λ (z : Pid → Option Why). with_over z y p) (sym by_d)
    ∙ sym (by_e p)

ends_there : (b : Boot) (e : Step) (w u : WorldState) (m n : ℕ) → n ≡ m → u.nodes m ≡ w.nodes m → ends_in b (u.nodes n) e ≡ ends_in b (w.nodes m) e
ends_there b e w u m n same node = ap (λ (k : ℕ). ends_in b (u.nodes k) e) same ∙ ap (λ (x : NodeState). ends_in b x e) node

pub swapped : (b : Boot) (es : List Step) (gs : List (List Line)) (w : WorldState) (d e : Step) (s t : Said) → Pair b es gs w d e s t → Swapped b w d e s t
swapped b es gs w d e s t h =
    let v = s.state in
    let m = acts_on b w d in
    let n = acts_on b v e in
    let back : n ≢ m = λ same. h.apart (sym same) in
    let went_v : Went b (es ++ d ∷ []) (gs ++ s.lines ∷ []) v = goes es gs w d s.lines v h.went h.first in
    let here_d : here (w.nodes m) ≡ m = is_at b es gs w m h.valid h.went (acts_less b w d h.first.fits) in
    let here_e : here (v.nodes n) ≡ n = is_at b (es ++ d ∷ []) (gs ++ s.lines ∷ []) v n h.valid went_v (acts_less b v e h.second.fits) in
    let (more, puts) = acts_locally kernel_stays b w d s here_d h.first.happens in
    let node_e : w.nodes n ≡ v.nodes n = sym (puts.nodes n back ∙ marks_leave d w n) in
    let seats_e : SameSeat b e v w = seats_stay b es gs v w e h.valid h.went h.seat_e node_e in
    let acts_e : acts_on b w e ≡ n = acts_same b e v w seats_e in
    let settled_e : Settled e w v = settled_by b es gs w d e s h.valid h.went h.first h.second.fits h.brings_none in
    let packet_e : SamePacket e v w = packet_back e w v (settled_same e m more d w v puts settled_e) in
    let k : DoesSame b v w e t = reads_locally kernel_stays b v w e t here_e acts_e node_e packet_e h.second.happens in
    let u = k.said.state in
    let does_e : Does b w e k.said.lines u = does_there b v w e t seats_e node_e packet_e h.second k in
    let went_u : Went b (es ++ e ∷ []) (gs ++ k.said.lines ∷ []) u = goes es gs w e k.said.lines u h.went does_e in
    let node_d : u.nodes m ≡ w.nodes m = k.puts_there.nodes m h.apart ∙ marks_leave e w m in
    let seats_d : SameSeat b d w u = seats_stay b (es ++ e ∷ []) (gs ++ k.said.lines ∷ []) w u d h.valid went_u h.seat_d node_d in
    let acts_d : acts_on b u d ≡ m = acts_same b d w u seats_d in
    let settled_d : Settled d w u = there_settled d w u h.there in
    let packet_d : SamePacket d w u = settled_same d n k.more e w u k.puts_there settled_d in
    let j : DoesSame b w u d s = reads_locally kernel_stays b w u d s here_d acts_d node_d packet_d h.first.happens in
    record {
      first = k.said;
      last = j.said;
      does_first = does_e;
      does_last = does_there b w u d s seats_d node_d packet_d h.first j;
      lines_first = k.exact (λ y. sym (others_long m n more d w v back puts y));
      lines_last = j.exact (others_long n m k.more e w u h.apart k.puts_there);
      same = four_same d e m n w v t.state u j.said.state (record {
        apart = h.apart;
        by_d = j.more;
        by_e = k.more;
        first = j.puts;
        second = k.puts;
        other = k.puts_there;
        last = j.puts_there;
        node_d = j.node;
        node_e = k.node;
        settled_e = settled_e;
        settled_d = settled_d;
        ended = ended_same b es gs w d e s t k.said j.said h k.happens j.happens (ends_there b e v w n (acts_on b w e) acts_e node_e) (ends_there b d w u m (acts_on b u d) acts_d node_d);
      });
      seats_e = seats_e;
      seats_d = seats_d;
      node_e = node_e;
      node_d = node_d;
    }
