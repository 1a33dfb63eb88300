-- Each group keeps what is known of the size of a server.
use Rattle.dm_law_always.proofs.Names.{◌≡◌, ℕ, ◌+◌, Bool, true, false, List, [], ◌∷◌, ◌++◌, refl, ap, ◌∙◌, sym, subst, arith, Option, None, Some, false≢true, Pid, pid_of, pid_eq, pid_eq-is, MsgId, MessageKind, Label, Stage, Boot, plain_kind, PlainMessage}
use Rattle.dm_law_always.proofs.Names.{Step, Line, Told, Here, Point, Part, Says, Routes, Spelled, group_of, group_is, outcome_sayable, first_number, is_server, Phased, KnownStands, IsStep, IsNetLine, receiver_of}
use Rattle.dm_law_always.proofs.Names.{by_round, by_handles, by_net, by_outcome, by_migrates, by_calls_off, answers_move, Outcome, to_kernel, buries, preds_of, ends_with, migrates, calls_off, forwards_on, told_some, front_way}
use Rattle.dm_law_rule.specs.Rule as rule
use Rattle.dm_onekernel.specs.Pieces as pieces
use Rattle.dm_law_always.proofs.Based.Rows.{resting, turned, unborn}
use Rattle.dm_law_always.proofs.Based.Groups.{Begins, begins}
use Rattle.dm_law_always.proofs.Found.Core.{LineCore}
use Rattle.dm_law_always.proofs.Found.Groups.{HeldFor, headed, head_sane, outcome_need}
use Rattle.dm_law_always.proofs.Found.Labels.{line_core}
use Rattle.dm_law_always.proofs.Sizes.Kept.{Server}
use Rattle.dm_law_always.proofs.Sizes.Walks.{AllLoose, Keeps, NeedsSize, PartsKeep, Walks, first_walks, line_keeps, loose_walks, walks_keep}
use Rattle.dm_law_always.proofs.Sizes.Heard.{buries_loose, forwards_loose, hears_keep, loose_keep, sends_loose, answers_loose}

-- what a round says
drops_loose : (p : Pid) (ids : List MsgId) (ps : List Part) → AllLoose p ps → AllLoose p (rule.drop_parts ids ++ ps)
drops_loose p [] ps h = h
drops_loose p (i ∷ is) ps h = (λ pt. tt, drops_loose p is ps h)

ends_loose : (p : Pid) (o : Point) (m : ℕ) (q : Pid) → AllLoose p (ends_with o m q)
ends_loose p o m q = drops_loose p (o.view.queue m q) (buries o m q) (buries_loose p (preds_of o m q))

routes_loose : (p : Pid) (o : Option PlainMessage) → AllLoose p (rule.routes o)
routes_loose p None = tt
routes_loose p (Some k) = (λ q. tt, tt)

round_loose : (p : Pid) (b : Boot) (o : Point) (m : ℕ) (q : Option Pid) (ps : List Part) → rule.goes_round b o m q ≡ Some ps → AllLoose p ps
round_loose p b o m q ps e = by_round (AllLoose p) b o m q ps (λ z. tt, tt) (λ r x is alive. record {
  runs = λ k rest stops. (
    λ z. tt,
    stops (AllLoose p) (record {
      over = tt;
      replies = λ j a. (λ z. tt, tt);
      sends = λ id. (λ z. tt, (λ z. tt, tt));
      waits = (λ z. tt, tt);
      outputs = λ word. (λ z. tt, tt);
      ends = λ y. (λ z. tt, ends_loose p o m r);
    }),
  );
  takes = λ mask id first. (λ z. tt, tt);
  refuses = λ id a. (λ z. tt, tt);
}) e

-- a child is no server
child_other : (p q : Pid) → is_server p ≡ true → is_server q ≡ false → pid_eq q p ≡ false
child_other p q server none = by (pid_eq q p) refl
  where
    by : (c : Bool) → pid_eq q p ≡ c → pid_eq q p ≡ false
    by false e = e
    by true e = absurd (false≢true (sym none ∙ ap is_server (pid_eq-is q p e) ∙ server))

-- a message of the bag
handles_keep : (n : ℕ) (p : Pid) (b : Boot) (o : Point) (m : ℕ) (i : MsgId) (is : List MsgId) (msg : PlainMessage) (t : Told) (ps : List Part) → Server n p → Begins o m → o.view.inbox m ≡ i ∷ is → o.kernel.bag i ≡ Some msg → o.view.told i ≡ Some t → rule.handles b o m i msg ≡ Some ps → PartsKeep n p (turned o m) ps
handles_keep n p b o m i is msg t ps server s box there told e =
    let pt = turned o m in
    let child = pid_of m (first_number + o.kernel.made m) in
    let held : Walks p pt (Says (Line.Held i) ∷ []) = first_walks p (Says (Line.Held i)) [] pt (is, box) tt in
    walks_keep n p server ps pt (by_handles (Walks p pt) b o m i msg ps (record {
      created = λ fixed. first_walks p (rule.says (Label.Created i child)) (Routes (pieces.answer_id i) ∷ []) pt (child_other p child server.is (unborn o m s.rooted).server) (λ q. tt, tt);
      no_space = λ fixed slots blocks. loose_walks p (rule.says (Label.NoSpace i slots blocks) ∷ Routes (pieces.answer_id i) ∷ []) pt (λ q. tt, (λ q. tt, tt));
      took = λ fixed sent. first_walks p (rule.says (Label.Took i)) (rule.routes sent) pt (record {
        front = (is, box);
        told = λ k at. (t, told, s.sane.tells.receiver i k t at told);
        rests = λ k at to. (
            let f : Some msg ≡ Some k = sym there ∙ at in
            let g : msg ≡ k = cc in
            let here : pt.view.known pt.view.acting p ≡ Here = sym (ap (pt.view.known pt.view.acting) (ap (λ (x : PlainMessage). x.to) g ∙ to)) ∙ fixed.known in
            resting pt.view p s.phases here
            );
      }) (routes_loose p sent);
      queued = λ to user. loose_walks p (Says (Line.Queued i) ∷ []) pt (λ q. tt, tt);
      served = λ to mild. loose_walks p (rule.says (Label.Served i) ∷ []) pt (λ q. tt, tt);
      answers = λ to mild j. loose_walks p (rule.says (Label.Served i) ∷ Routes j ∷ []) pt (λ q. tt, (λ q. tt, tt));
      kills = λ to kills. loose_walks p (rule.says (Label.Served i) ∷ ends_with o m msg.to) pt (λ q. tt, ends_loose p o m msg.to);
      moved = λ to what. loose_walks p (rule.says (Label.Asked i) ∷ answers_move i Outcome.Done) pt (λ q. tt, answers_loose p i Outcome.Done);
      sets_off = λ to here what apart. (
        tt,
        λ next st. first_walks p (Says (Line.Migration Stage.Frozen msg.to)) (Says (Line.Migration Stage.Asked msg.to) ∷ to_kernel MessageKind.Ask to ∷ []) next (λ same. absurd (false≢true (sym here.process ∙ ap is_server same ∙ server.is))) (λ q. tt, (λ q. tt, tt)),
      );
      gone = λ to. loose_walks p (rule.says (Label.Gone i) ∷ Routes (pieces.answer_id i) ∷ []) pt (λ q. tt, (λ q. tt, tt));
      dropped = λ to. loose_walks p (rule.says (Label.Dropped i) ∷ []) pt (λ q. tt, tt);
      leaving = λ to at. held;
      coming = λ from at. held;
      forwarded = λ to c at. loose_walks p (forwards_on o.addresses i (plain_kind msg.what) msg.sender to) pt (forwards_loose p o i (plain_kind msg.what) msg.sender to);
    }) e)

net_loose : (p : Pid) (pt : Point) (l : Line) → IsNetLine l → NeedsSize p pt l
net_loose p pt l h = search arith

-- what comes of a directive
outcome_keep : (n : ℕ) (p : Pid) (b : Boot) (pt : Point) (d : Step) (ps : List Part) → Server n p → Phased pt → KnownStands pt.kernel pt.view → HeldFor pt.view → rule.outcome b pt d ≡ Some ps → PartsKeep n p (headed pt d) ps
outcome_keep n p b pt d ps server base known holds = by_outcome (λ x xs. PartsKeep n p (headed pt x) xs) b pt d ps (record {
  round = λ m xs box e. loose_keep n p (turned pt m) server xs (round_loose p b pt m (rule.first_runnable pt.kernel (pt.view.queue m) (pt.view.ring m)) xs e);
  handles = λ m i is msg xs box there e. (
      let s = begins pt m base known in
      let (q, way) = front_way (turned pt m) i is s.state box in
      let (t, told) = told_some (pt.view.told i) q (s.state.stands.told i q way) in
      handles_keep n p b pt m i is msg t xs server s box there told e
      );
  hears = λ m i is xs box none e. heard m i is xs (pt.view.told i) box refl e;
  ticks = λ m xs net. loose_keep n p (headed pt (Step.Tick m)) server xs ((by_net (AllLoose p) tt (λ l ps net h. ((λ z. net_loose p z l net), h)) (λ a c l ps h. (λ z. tt, h))) xs net);
  delivers = λ a c k xs net. loose_keep n p (headed pt (Step.Deliver a c k)) server xs ((by_net (AllLoose p) tt (λ l ps net h. ((λ z. net_loose p z l net), h)) (λ a c l ps h. (λ z. tt, h))) xs net);
  asks = λ q m. loose_keep n p (headed pt (Step.Migrate q m)) server (migrates pt q) (by_migrates (AllLoose p) pt q (λ z. tt, tt) (λ z. tt, tt) (λ a here knows. (λ z. tt, tt)));
  calls = λ q m. loose_keep n p (headed pt (Step.CallOff q m)) server (calls_off pt m q (pt.view.known m q))
      (by_calls_off (AllLoose p) pt m q (λ z. tt, tt) (λ from is come. (λ z. tt, sends_loose p from (pt.view.held m q) (to_kernel MessageKind.CallOff from ∷ []) (λ z. tt, tt))));
})
  where
    heard : (m : ℕ) (i : MsgId) (is : List MsgId) (xs : List Part) (o : Option Told) → pt.view.inbox m ≡ i ∷ is → pt.view.told i ≡ o → rule.hears b pt m i o ≡ Some xs → PartsKeep n p (turned pt m) xs
    heard m i is xs None box told e = cc
    heard m i is xs (Some t) box told e =
        let s = begins pt m base known in
        hears_keep n p b pt m i t xs server (record {
          phases = s.phases;
          rest = is;
          front = box;
          told = told;
          held = λ q j least. (let (u, is_, to) = holds m q j least in ap receiver_of is_ ∙ ap Some to);
        }) e

pub size_group : (n : ℕ) (p : Pid) (b : Boot) (pt : Point) (d : Step) (w : Spelled) → Server n p → IsStep n d → group_of b pt d ≡ Some w → Phased pt → KnownStands pt.kernel pt.view → HeldFor pt.view → LineCore n pt → Keeps 0 n p pt → Keeps 0 n p w.point
size_group n p b pt d w server fit is base known holds core h =
    let g = group_is b pt d w is in
    let start = line_core n pt pt.kernel (Line.Head d) fit base.sane refl core in
    let need = outcome_need n b pt d g.parts base holds core g.is start in
    let kept : Keeps 0 n p (headed pt d) = line_keeps n p pt pt.kernel (Line.Head d) server tt refl h in
    subst (Keeps 0 n p) g.point (outcome_keep n p b pt d g.parts server base known holds g.is g.rest (outcome_sayable b pt d g.parts g.is) need (head_sane pt d base.sane) start g.said kept)
