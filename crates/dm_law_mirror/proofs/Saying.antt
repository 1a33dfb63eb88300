-- What the lines of a group say, row by row: whatever each row's lines keep, the group keeps.
use Rattle.dm_law_mirror.proofs.Names.{◌≡◌, ⊤, ℕ, ◌+◌, ◌==◌, Bool, true, false, List, [], ◌∷◌, ◌++◌, map, length, refl, subst, if◌then◌else◌, Option, None, Some, bind, bind-is, Pid, pid_of, MsgId, MessageKind, plain_kind}
use Rattle.dm_law_mirror.proofs.Names.{PlainMessage, is_server, manager, Boot, OneKernel, PlainProcess, Why, first_number, Step, Line, Stage, Label, Load, View, Incoming, Of, Told, Point, label_of, kernel_after, moved, after_line, after, Spelled, spelled}
use Rattle.dm_law_mirror.proofs.Names.{Outcome, answer_id, lines_of, puts, packet_line, goes_out, behind, outcome, group_of, to_kernel, sends_on, slice_get, Receiver}
use Rattle.dm_onekernel.specs.Step as kernel
use Rattle.dm_law_rule.specs.Parts.{Part, Says, Routes, Again, Owns, Transmits}
use Rattle.dm_law_rule.specs.Rule as rule
use Rattle.dm_law_rule.specs.View as view
use Rattle.dm_law_rule.specs.Point.{seen}
use Rattle.dm_law_rule.specs.Addresses.{Addresses, place_told}
use Rattle.dm_law_rule.specs.Migrating.{answers_move, behind_count, calls_off, forwards_on, migrates}
use Rattle.dm_law_rule.specs.Burying.{ends_with, preds_of}
use Rattle.dm_law_rule.proofs.Groups.{IsNetLine, IsNet, arrives_net, resends_net}
use Rattle.dm_law_rule.proofs.Hearing.{Heard, TurnsBack, by_hears}
use Rattle.dm_law_rule.proofs.Serving.{by_round, by_handles, by_forwards, ends_kept}
use Rattle.dm_law_rule.proofs.Requests.{by_migrates, by_calls_off}

-- these are said only where something is known
abbrev pub is_calm : Line → Bool
is_calm (Line.Head d) = false
is_calm (Line.Stays p) = false
is_calm (Line.Called p n) = false
is_calm (Line.Buried i n) = false
is_calm (Line.Migration Stage.Left p) = false
is_calm (Line.Migration Stage.Restarted p) = false
is_calm (Line.Label (Label.Created i p)) = false
is_calm (Line.Label (Label.End p y)) = false
is_calm (Line.Label (Label.Served i)) = false
is_calm l = true

-- what is known where each of them is said, at the point before the group, by machine m
pub record Rows (S : Line → Type 0) (o : Point) (m : ℕ) : Type 0 where
  pub calm : (l : Line) → is_calm l ≡ true → S l
  pub stays : (i : MsgId) (is : List MsgId) (t : Told) (p : Pid) → o.view.inbox m ≡ i ∷ is → o.view.told i ≡ Some t → t.about ≡ Of p → TurnsBack t.kind → S (Line.Stays p)
  pub restarted : (i : MsgId) (is : List MsgId) (t : Told) (p : Pid) → o.view.inbox m ≡ i ∷ is → o.view.told i ≡ Some t → t.about ≡ Of p → t.kind ≡ MessageKind.Restart → S (Line.Migration Stage.Restarted p)
  pub left : (i : MsgId) (is : List MsgId) (t : Told) (p : Pid) → o.view.inbox m ≡ i ∷ is → o.view.told i ≡ Some t → t.about ≡ Of p → t.kind ≡ MessageKind.AllTaken → S (Line.Migration Stage.Left p)
  pub buried : (i : MsgId) (t : Told) (p : Pid) (n : ℕ) → o.view.told i ≡ Some t → t.about ≡ Of p → t.kind ≡ MessageKind.Bury → S (Line.Buried i n)
  pub created : (i : MsgId) → S (Line.Label (Label.Created i (pid_of m (first_number + o.kernel.made m))))
  pub called : (p : Pid) (from n : ℕ) → o.view.known m p ≡ Incoming from → o.view.come p ≡ false → S (Line.Called p n)
  pub ends : (p : Pid) (x : PlainProcess) (y : Why) → kernel.alive (o.kernel.processes p) ≡ Some x → S (Line.Label (Label.End p y))
  pub serves : (i : MsgId) (msg : PlainMessage) → o.kernel.bag i ≡ Some msg → is_server msg.to ≡ false → S (Line.Label (Label.Served i))

-- Parts, and where they lead.

abbrev pub SayPart : (Line → Type 0) → Part → Type 0
SayPart S (Says l) = S l
SayPart S (Routes i) = ⊤
SayPart S (Again i b) = ⊤
SayPart S (Owns k q b) = ⊤
SayPart S (Transmits a b l) = ⊤

abbrev pub AllSay : (Line → Type 0) → List Part → Type 0
AllSay S [] = ⊤
AllSay S (p ∷ ps) = SayPart S p × AllSay S ps

abbrev AllLines : (Line → Type 0) → List Line → Type 0
AllLines S [] = ⊤
AllLines S (l ∷ ls) = S l × AllLines S ls

module _ (S : Line → Type 0) (calm : (l : Line) → is_calm l ≡ true → S l) (R : View → Type 0) (step : (s : OneKernel) (v : View) (l : Line) → S l → R v → R (seen s v l)) where
  lines_walk : (ls : List Line) (pt q : Point) → AllLines S ls → after pt ls ≡ Some q → R pt.view → R q.view
  lines_walk [] pt q says e h = subst (λ (p : Point). R p.view) (let f : pt ≡ q = cc in f) h
  lines_walk (l ∷ ls) pt q says e h =
      let (mid, first, rest) = bind-is (after_line pt l) (λ (p : Point). after p ls) q e in
      let (s, step_, is) = bind-is (kernel_after pt.kernel (label_of l)) (λ (s : OneKernel). Some (moved pt l s)) mid first in
      let f : moved pt l s ≡ mid = cc in
      lines_walk ls mid q says.1 rest (subst (λ (p : Point). R p.view) f (step pt.kernel pt.view l says.0 h))

  puts_if : (c d : Bool) (l : Line) → S l → AllLines S (if c then [] else if d then l ∷ [] else [])
  puts_if true d l h = tt
  puts_if false true l h = (h, tt)
  puts_if false false l h = tt

  puts_say : (v : View) (b : ℕ) (i : MsgId) (k : MessageKind) (q : Pid) → AllLines S (puts v b i k q)
  puts_say v b i k q =
      let l : Line = packet_line v v.acting b (Load.Data (length (v.pair v.acting b).ids)) in
      (calm (Line.Put v.acting b i k q) refl, puts_if (v.acting == b) (goes_out (v.pair v.acting b)) l (calm l refl))

  part_lines : (pt : Point) (p : Part) (ls : List Line) → SayPart S p → lines_of pt p ≡ Some ls → AllLines S ls
  part_lines pt (Says l) ls h e = subst (AllLines S) (let f : l ∷ [] ≡ ls = cc in f) (h, tt)
  part_lines pt (Routes i) ls h e =
      let (m, there, is) = bind-is (pt.kernel.bag i) (λ (m : PlainMessage). Some (puts pt.view (pt.addresses (Receiver i)).at i (plain_kind m.what) m.to)) ls e in
      subst (AllLines S) (let f : puts pt.view (pt.addresses (Receiver i)).at i (plain_kind m.what) m.to ≡ ls = cc in f) (puts_say pt.view (pt.addresses (Receiver i)).at i (plain_kind m.what) m.to)
  part_lines pt (Again i b) ls h e =
      let (t, there, is) = bind-is (pt.view.told i) (λ (t : Told). Some (puts pt.view b i t.kind t.receiver)) ls e in
      subst (AllLines S) (let f : puts pt.view b i t.kind t.receiver ≡ ls = cc in f) (puts_say pt.view b i t.kind t.receiver)
  part_lines pt (Owns k q b) ls h e = subst (AllLines S) (let f : puts pt.view b (view.own_id pt.view) k q ≡ ls = cc in f) (puts_say pt.view b (view.own_id pt.view) k q)
  part_lines pt (Transmits a b l) ls h e = subst (AllLines S) (let f : packet_line pt.view a b l ∷ [] ≡ ls = cc in f) (calm (packet_line pt.view a b l) refl, tt)

  pub parts_walk : (ps : List Part) (pt : Point) (w : Spelled) → AllSay S ps → spelled pt ps ≡ Some w → R pt.view → R w.point.view
  parts_walk [] pt w says e h = subst (λ (s : Spelled). R s.point.view) (let f : record { lines = []; point = pt } ≡ w = cc in f) h
  parts_walk (p ∷ ps) pt w says e h =
      let (ls, lines, rest) = bind-is (lines_of pt p) (λ (xs : List Line). bind (after pt xs) (λ (q : Point). bind (spelled q ps) (λ (s : Spelled). Some (behind xs s)))) w e in
      let (next, leads, last) = bind-is (after pt ls) (λ (q : Point). bind (spelled q ps) (λ (s : Spelled). Some (behind ls s))) w rest in
      let (s, more, end) = bind-is (spelled next ps) (λ (x : Spelled). Some (behind ls x)) w last in
      subst (λ (x : Spelled). R x.point.view) (let f : behind ls s ≡ w = cc in f)
      (parts_walk ps next s says.1 more (lines_walk ls pt next (part_lines pt p ls says.0 lines) leads h))

-- What comes of each directive.

module _ (S : Line → Type 0) (o : Point) (m : ℕ) (c : Rows S o m) where
  one : (l : Line) (ps : List Part) → is_calm l ≡ true → AllSay S ps → AllSay S (Says l ∷ ps)
  one l ps e h = (c.calm l e, h)

  sends_say : (to : ℕ) (ids : List MsgId) (ps : List Part) → AllSay S ps → AllSay S (sends_on to ids ++ ps)
  sends_say to [] ps h = h
  sends_say to (i ∷ is) ps h = (tt, sends_say to is ps h)

  buries_say : (ms : List ℕ) → AllSay S (map (to_kernel MessageKind.Bury) ms)
  buries_say [] = tt
  buries_say (m ∷ ms) = (tt, buries_say ms)

  forwards_say : (a : Addresses) (i : MsgId) (k : MessageKind) (sender : Pid) (to : ℕ) → AllSay S (forwards_on a i k sender to)
  forwards_say a i k sender to =
      let l : S (Line.Forwarded i to) = c.calm (Line.Forwarded i to) refl in
      by_forwards (AllSay S) a i k sender to (l, (tt, tt)) (l, (tt, (tt, tt)))

  answers_say : (l : Line) → S l → (i : MsgId) (r : Outcome) → AllSay S (Says l ∷ answers_move i r)
  answers_say l h i r = (h, (c.calm (Line.Label (Label.Answered i r)) refl, (tt, tt)))

  heard_say : (i : MsgId) (is : List MsgId) (t : Told) → o.view.inbox m ≡ i ∷ is → o.view.told i ≡ Some t → Heard (AllSay S) o m i t
  heard_say i is t box told =
      let two : (l : Line) (k : MessageKind) (b : ℕ) → is_calm l ≡ true → AllSay S (Says l ∷ to_kernel k b ∷ []) = λ l k b e. (c.calm l e, (tt, tt)) in
      let home = i.from.home in
      record {
        buried = λ p about kind. (c.buried i t p (length (preds_of o m p)) told about kind, buries_say (preds_of o m p));
        stale = λ p about late. one (Line.Stale i) [] refl tt;
        told = λ p x about alive due. record {
          accepted = λ ask. two (Line.Migration Stage.Accepted p) MessageKind.PullState home refl;
          lacks = λ slots blocks. two (Line.Lacks p slots blocks) MessageKind.Refuse home refl;
          stays = λ kind none. (c.stays i is t p box told about kind, tt);
          stays_asked = λ kind n note. answers_say (Line.Stays p) (c.stays i is t p box told about kind) n.id Outcome.Stayed;
          state = two (Line.Proto i) MessageKind.State home refl;
          next_chunk = two (Line.Proto i) MessageKind.PullState home refl;
          last_chunk = two (Line.Migration Stage.StateTaken p) MessageKind.PullBlock home refl;
          server_chunk = λ server. one (Line.Migration Stage.StateTaken p) (Says (Line.Migration Stage.MemoryTaken p) ∷ to_kernel MessageKind.AllTaken home ∷ []) refl (two (Line.Migration Stage.MemoryTaken p) MessageKind.AllTaken home refl);
          memory = two (Line.Proto i) MessageKind.Memory home refl;
          next_block = two (Line.Proto i) MessageKind.PullBlock home refl;
          last_block = two (Line.Migration Stage.MemoryTaken p) MessageKind.AllTaken home refl;
          left = λ ids to frozen.
              (let end = Says (Line.Migration Stage.Left p) ∷ to_kernel MessageKind.Restart home ∷ [] in
              one (Line.SentOn p (length ids)) (sends_on to ids ++ end) refl (sends_say to ids end (c.left i is t p box told about frozen.kind, (tt, tt))));
          restarted = λ kind none. (c.restarted i is t p box told about kind, tt);
          restarted_asked = λ kind n note. answers_say (Line.Migration Stage.Restarted p) (c.restarted i is t p box told about kind) n.id Outcome.Done;
        };
        updated = λ kind. one (Line.Updated i (behind_count o.kernel o.addresses t.receiver (place_told t.about))) [] refl tt;
        updated_none = λ kind at_. one (Line.Updated i 0) [] refl tt;
        no_move = λ at_. one (Line.NoMove i) [] refl tt;
        leaving = λ to at_. one (Line.Held i) [] refl tt;
        coming = λ from at_. one (Line.Held i) [] refl tt;
        forwarded = λ to moves at_. forwards_say o.addresses i t.kind manager to;
        stays_here = λ at_. one (Line.Here i) [] refl tt;
        frozen = λ to at_. one (Line.Migration Stage.Frozen t.receiver) (Says (Line.Migration Stage.Asked t.receiver) ∷ to_kernel MessageKind.Ask to ∷ []) refl (two (Line.Migration Stage.Asked t.receiver) MessageKind.Ask to refl);
      }

  -- what follows an end
  ends_say : (p : Pid) → AllSay S (ends_with o m p)
  ends_say p = ends_kept (AllSay S) tt (λ i ps h. one (Line.Label (Label.Dropped i)) ps refl h) (λ to ps h. (tt, h)) o m p

  routes_say : (sent : Option PlainMessage) → AllSay S (rule.routes sent)
  routes_say None = tt
  routes_say (Some m) = (tt, tt)

  handles_say : (b : Boot) (i : MsgId) (msg : PlainMessage) (ps : List Part) → o.kernel.bag i ≡ Some msg → rule.handles b o m i msg ≡ Some ps → AllSay S ps
  handles_say b i msg ps there e = by_handles (AllSay S) b o m i msg ps (record {
    created = λ fixed. (c.created i, (tt, tt));
    no_space = λ fixed slots blocks. one (Line.Label (Label.NoSpace i slots blocks)) (Routes (answer_id i) ∷ []) refl (tt, tt);
    took = λ to sent. one (Line.Label (Label.Took i)) (rule.routes sent) refl (routes_say sent);
    queued = λ to user. one (Line.Queued i) [] refl tt;
    served = λ to mild. (c.serves i msg there to.process, tt);
    answers = λ to mild j. (c.serves i msg there to.process, (tt, tt));
    kills = λ to kills. (c.serves i msg there to.process, ends_say msg.to);
    moved = λ to what. answers_say (Line.Label (Label.Asked i)) (c.calm (Line.Label (Label.Asked i)) refl) i Outcome.Done;
    sets_off = λ machine to what apart. (
      c.calm (Line.Label (Label.Asked i)) refl,
      (c.calm (Line.Migration Stage.Frozen msg.to) refl, (c.calm (Line.Migration Stage.Asked msg.to) refl, (tt, tt))),
    );
    gone = λ to. one (Line.Label (Label.Gone i)) (Routes (answer_id i) ∷ []) refl (tt, tt);
    dropped = λ to. one (Line.Label (Label.Dropped i)) [] refl tt;
    leaving = λ n to. one (Line.Held i) [] refl tt;
    coming = λ n to. one (Line.Held i) [] refl tt;
    forwarded = λ n moves to. forwards_say o.addresses i (plain_kind msg.what) msg.sender n;
  }) e

  round_say : (b : Boot) (q : Option Pid) (ps : List Part) → rule.goes_round b o m q ≡ Some ps → AllSay S ps
  round_say b q ps e = by_round (AllSay S) b o m q ps (one (Line.Idle m) [] refl tt) (λ p x is alive. record {
    runs = λ k rest stops. one (Line.Label (Label.Ran p k)) rest refl (stops (AllSay S) (record {
      over = tt;
      replies = λ n r. one (Line.Label (Label.Call p n r)) [] refl tt;
      sends = λ id. one (Line.Label (Label.Send p id)) (Routes id ∷ []) refl (tt, tt);
      waits = one (Line.Label (Label.Wait p)) [] refl tt;
      outputs = λ word. one (Line.Label (Label.Out p word)) [] refl tt;
      ends = λ y. (c.ends p x y alive, ends_say p);
    }));
    takes = λ mask id first. one (Line.Label (Label.Receive p id)) [] refl tt;
    refuses = λ id r. one (Line.Label (Label.Refuse p id r)) [] refl tt;
  }) e

  comes_say : (b : Boot) (i : MsgId) (is : List MsgId) (q : Option PlainMessage) (ps : List Part) → o.view.inbox m ≡ i ∷ is → o.kernel.bag i ≡ q → rule.comes_to b o m i q ≡ Some ps → AllSay S ps
  comes_say b i is None ps box there e = by_hears (AllSay S) b o m i (o.view.told i) ps (λ t told. heard_say i is t box told) e
  comes_say b i is (Some msg) ps box there e = handles_say b i msg ps there e

  pub turns_say : (b : Boot) (inbox : List MsgId) (ps : List Part) → o.view.inbox m ≡ inbox → rule.turns b o m inbox ≡ Some ps → AllSay S ps
  turns_say b [] ps box e = round_say b (rule.first_runnable o.kernel (o.view.queue m) (o.view.ring m)) ps e
  turns_say b (i ∷ is) ps box e = comes_say b i is (o.kernel.bag i) ps box refl e

  net_line : (l : Line) → IsNetLine l → S l
  net_line (Line.Taken a b n) h = c.calm (Line.Taken a b n) refl
  net_line (Line.Old a b n) h = c.calm (Line.Old a b n) refl
  net_line (Line.Early a b n) h = c.calm (Line.Early a b n) refl
  net_line (Line.Acked a b n) h = c.calm (Line.Acked a b n) refl
  net_line Line.Nothing h = c.calm Line.Nothing refl
  net_line (Line.Resent m n) h = c.calm (Line.Resent m n) refl
  net_line _ h = absurd h

  pub net_say : (ps : List Part) → IsNet ps → AllSay S ps
  net_say [] h = tt
  net_say (Says l ∷ ps) h = (net_line l h.0, net_say ps h.1)
  net_say (Transmits a b l ∷ ps) h = (tt, net_say ps h.1)
  net_say _ h = absurd h.0

  pub migrates_say : (p : Pid) → AllSay S (migrates o p)
  migrates_say p = by_migrates (AllSay S) o p (one Line.Away [] refl tt) (one (Line.NoChild p) [] refl tt) (λ a here knows_. (tt, tt))

  pub calls_say : (p : Pid) → AllSay S (calls_off o m p (o.view.known m p))
  calls_say p = by_calls_off (AllSay S) o m p (one (Line.NoCall p) [] refl tt)
      (λ from is come. (c.called p from (length (o.view.held m p)) is come, sends_say from (o.view.held m p) (to_kernel MessageKind.CallOff from ∷ []) (tt, tt)))

pub outcome_says : (S : Line → Type 0) (o : Point) (b : Boot) (d : Step) (ps : List Part) → Rows S o (view.actor o.view d) → outcome b o d ≡ Some ps → AllSay S ps
outcome_says S o b (Step.Turn m) ps c e = turns_say S o m c b (o.view.inbox m) ps refl e
outcome_says S o b (Step.Tick m) ps c e =
    let qs = rule.resends o.view m o.kernel.machines in
    let l = Line.Resent m (rule.outstanding_count o.view m o.kernel.machines) in
    subst (AllSay S) (let f : Says l ∷ qs ≡ ps = cc in f) (c.calm l refl, net_say S o m c qs (resends_net o.view m o.kernel.machines))
outcome_says S o b (Step.Deliver a d k) ps c e =
    let s = slice_get (o.view.pair a d).wire k in
    let qs = rule.arrives a d (o.view.pair a d) (o.view.pair d a) s in
    subst (AllSay S) (let f : qs ≡ ps = cc in f) (net_say S o d c qs (arrives_net a d (o.view.pair a d) (o.view.pair d a) s))
outcome_says S o b (Step.Migrate p m) ps c e = subst (AllSay S) (let f : migrates o p ≡ ps = cc in f) (migrates_say S o (view.actor o.view (Step.Migrate p m)) c p)
outcome_says S o b (Step.CallOff p m) ps c e = subst (AllSay S) (let f : calls_off o m p (o.view.known m p) ≡ ps = cc in f) (calls_say S o m c p)

-- A group: its head, and then the lines of its parts.
pub group_walk : (S : Line → Type 0) (b : Boot) (pt : Point) (d : Step) (w : Spelled) (R : View → Type 0) → Rows S pt (view.actor pt.view d) → ((s : OneKernel) (v : View) (l : Line) → S l → R v → R (seen s v l)) → group_of b pt d ≡ Some w → R (moved pt (Line.Head d) pt.kernel).view → R w.point.view
group_walk S b pt d w R c step e h =
    let (ps, is, more) = bind-is (outcome b pt d) (λ (ps : List Part). bind (after_line pt (Line.Head d)) (λ (q : Point). bind (spelled q ps) (λ (s : Spelled). Some (behind (Line.Head d ∷ []) s)))) w e in
    let (start, head, last) = bind-is (after_line pt (Line.Head d)) (λ (q : Point). bind (spelled q ps) (λ (s : Spelled). Some (behind (Line.Head d ∷ []) s))) w more in
    let (rest, told, end) = bind-is (spelled start ps) (λ (s : Spelled). Some (behind (Line.Head d ∷ []) s)) w last in
    let same : moved pt (Line.Head d) pt.kernel ≡ start = cc in
    subst (λ (s : Spelled). R s.point.view) (let f : behind (Line.Head d ∷ []) rest ≡ w = cc in f)
    (parts_walk S c.calm R step ps start rest (outcome_says S pt b d ps c is) told (subst (λ (q : Point). R q.view) same h))
