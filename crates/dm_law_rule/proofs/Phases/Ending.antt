-- Each group keeps where processes are that have ended and that live, and tells kernels to forget only what has ended.
use Rattle.dm_law_rule.proofs.Names.{◌≡◌, ℕ, ◌==◌, ◌&&◌, Bool, true, false, List, [], ◌∷◌, ◌++◌, refl, ap, ◌∙◌, sym, subst, inl, inr, if◌then◌else◌, Option, None, Some, false≢true, false_from_ne_true, eqb-true, both_true, Pid, pid_eq}
use Rattle.dm_law_rule.proofs.Names.{pid_eq-is, cases_Bool, MsgId, MessageKind, Stage, Step, Line, plain_kind, PlainMessage, PlainProcess, Alive, Boot, BootProcess, IsValid, first_life, life_at, known_at, manager, BootImage, begun, map}
use Rattle.dm_law_rule.proofs.Names.{plain_link, option_map, slice_get, View, Told, Of, Here, Incoming, Addresses, is_away, is_here, receiver_in, Phase, Rests, Moves, knows, IsIn, is_between, sort_of, pulls_piece, Point, first_point}
use Rattle.dm_law_rule.proofs.Names.{moved, after_head, Part, Says, Transmits, Spelled, forwards_on, sends_on, to_kernel, preds_of, ends_with, group_of, Inbox, Size, size_of, switchboard, Life, is_some, nat_le, nat_tests, arith}
use Rattle.dm_law_rule.proofs.Names.{Known, Unknown, is_server}
use Rattle.dm_law_rule.specs.Migrating.{process_size}
use Rattle.dm_law_rule.proofs.Sizes.{size_other}
use Rattle.dm_onekernel.specs.Step as kernel
use Rattle.dm_law_rule.specs.Rule as rule
use Rattle.dm_law_rule.proofs.Groups.{IsNetLine, IsNet, group_is}
use Rattle.dm_law_rule.proofs.Hearing.{by_hears}
use Rattle.dm_law_rule.proofs.Lines.{eq_self}
use Rattle.dm_law_rule.proofs.Moves.States.{front_one}
use Rattle.dm_law_rule.proofs.Outcomes.{by_outcome}
use Rattle.dm_law_rule.proofs.Requests.{by_migrates, by_calls_off}
use Rattle.dm_law_rule.proofs.Serving.{is_kill, by_round, by_handles, by_forwards, ends_kept, buries_kept}
use Rattle.dm_law_rule.proofs.States.{State}
use Rattle.dm_law_rule.proofs.Telling.{Sane, sane_line}
use Rattle.dm_law_rule.proofs.Phases.Answers.{Due, due}
use Rattle.dm_law_rule.proofs.Phases.Groups.{Rooted}
use Rattle.dm_law_rule.proofs.Phases.Net.{head_calm}
use Rattle.dm_law_rule.proofs.Phases.Order.{standing_told}
use Rattle.dm_law_rule.proofs.Phases.Put.{of_same}
use Rattle.dm_law_rule.proofs.Phases.Rests.{rests_here}
use Rattle.dm_law_rule.proofs.Phases.Stand.{InPhases, calm_phases}
use Rattle.dm_law_rule.proofs.Phases.Ends.{Ends}
use Rattle.dm_law_rule.proofs.Phases.Lived.{lives, life_of, life_ended}
use Rattle.dm_law_rule.proofs.Phases.EndLines.{Others, Elsewhere, AllCalm, AllTail, Walks, changes, Serves, same_self, walks_ends}
use Rattle.dm_law_rule.proofs.Trails.Steps.{two_apart, source_holds, destination_expects, coming_is, holds_on}

-- where a process is here, no other machine has it
others_away : (v : View) (h : InPhases v) (p : Pid) → v.known v.acting p ≡ Here → Others v p
others_away v h p here m off =
    let a = v.acting in
    let phase : h.of p ≡ Rests a = rests_here (h.of p) a (sym (ap (knows (h.of p) a) here) ∙ (h.each p).known a) in
    let rested : knows (Rests a) m (v.known m p) ≡ true = subst (λ (x : Phase). knows x m (v.known m p) ≡ true) phase ((h.each p).known m) in
    sym (ap (λ (c : Bool). if c then is_here (v.known m p) else is_away (v.known m p)) off) ∙ rested

-- where all of it was taken, its destination has it
left_elsewhere : (pt : Point) (i : MsgId) (t : Told) (h : InPhases pt.view) (p : Pid) → Due pt i t h → t.kind ≡ MessageKind.AllTaken → t.about ≡ Of p → Elsewhere pt.view p
left_elsewhere pt i t h p u k about =
    let v = pt.view in
    let kind : u.k ≡ MessageKind.AllTaken = sym (ap (λ (y : Told). y.kind) u.told) ∙ k in
    let same : u.p ≡ p = of_same u.p p (sym (ap (λ (y : Told). y.about) u.told) ∙ about) in
    let acts : v.acting ≡ u.s = u.acting ∙ ap (λ (x : MessageKind). receiver_in x u.s u.d) kind in
    let is : IsIn v p (Moves MessageKind.AllTaken u.s u.d (Some i)) =
    subst (λ (q : Pid). IsIn v q (Moves MessageKind.AllTaken u.s u.d (Some i))) same (subst (λ (x : MessageKind). IsIn v u.p (Moves x u.s u.d (Some i))) kind (subst (λ (x : Phase). IsIn v u.p x) u.phase (h.each u.p))) in (
      u.d,
      false_from_ne_true (v.acting == u.d) (λ e. two_apart v p MessageKind.AllTaken u.s u.d (Some i) is (sym (eqb-true v.acting u.d e) ∙ acts)),
      ap is_away (destination_expects v p MessageKind.AllTaken u.s u.d (Some i) is refl refl),
    )

-- where not all of it has come, its source has it
called_elsewhere : (v : View) (h : InPhases v) (p : Pid) (from : ℕ) → v.known v.acting p ≡ Incoming from → v.come p ≡ false → Elsewhere v p
called_elsewhere v h p from comes off =
    let c = coming_is (h.of p) v.acting from (sym (ap (knows (h.of p) v.acting) comes) ∙ (h.each p).known v.acting) in
    let is : IsIn v p (Moves c.kind from v.acting c.id) = subst (λ (x : Phase). IsIn v p x) c.is (h.each p) in (
      from,
      false_from_ne_true (v.acting == from) (λ e. two_apart v p c.kind from v.acting c.id is (eqb-true v.acting from e)),
      ap is_away (source_holds v p c.kind from v.acting c.id is (holds_on v p c.kind from v.acting c.id is off)),
    )

-- what follows an end
tail_after : (o : Point) (m : ℕ) (p : Pid) → AllTail (ends_with o m p)
tail_after o m p = ends_kept AllTail tt (λ i ps h. (tt, h)) (λ to ps h. (tt, h)) o m p

-- what has a size hasn't ended: it lives, or is a server
sized_lasts : (pt : Point) (p : Pid) (x : Size) → Sane pt → size_of pt.kernel p ≡ Some x → lives pt.kernel p ≡ Some false → ⊥
sized_lasts pt p x sane sized over =
    let (y, ended) = life_ended (pt.kernel.processes p) over in
    let least : nat_le 3 p.num ≡ true = sane.sound.made.least p (ap is_some ended) in
    let board : pid_eq p switchboard ≡ false = grind (arith, nat_tests) in
    let manages : pid_eq p manager ≡ false = grind (arith, nat_tests) in
    let f : None ≡ Some x = sym (size_other pt.kernel p board manages ∙ ap (λ (l : Option Life). option_map process_size (kernel.alive l)) ended) ∙ sized in
    cc

-- nor has what is here
here_lasts : (pt : Point) (p : Pid) (m : ℕ) → Ends pt → pt.view.known m p ≡ Here → lives pt.kernel p ≡ Some false → ⊥
here_lasts pt p m h here over = false≢true (sym (ap is_away here) ∙ h.away m p (life_ended (pt.kernel.processes p) over))

-- messages go on
agains_walk : (o : Point) (to : ℕ) (ids : List MsgId) (ps : List Part) → Walks o ps → Walks o (sends_on to ids ++ ps)
agains_walk o to [] ps h = h
agains_walk o to (i ∷ is) ps h = inl (tt, agains_walk o to is ps h)

agains_calm : (to : ℕ) (ids : List MsgId) (ps : List Part) → AllCalm ps → AllCalm (sends_on to ids ++ ps)
agains_calm to [] ps h = h
agains_calm to (i ∷ is) ps h = (tt, agains_calm to is ps h)

forwards_walk : (o : Point) (a : Addresses) (i : MsgId) (k : MessageKind) (sender : Pid) (to : ℕ) → Walks o (forwards_on a i k sender to)
forwards_walk o a i k sender to = by_forwards (Walks o) a i k sender to (inl (refl, inl (tt, tt))) (inl (refl, inl (tt, inl (refl, tt))))

-- a process is served
round_walks : (b : Boot) (pt : Point) (m : ℕ) (q : Option Pid) (ps : List Part) → InPhases (moved pt (Line.Head (Step.Turn m)) pt.kernel).view → ((p : Pid) → q ≡ Some p → pt.view.known m p ≡ Here) → rule.goes_round b pt m q ≡ Some ps
    → Walks (moved pt (Line.Head (Step.Turn m)) pt.kernel) ps
round_walks b pt m q ps h here =
    let o = moved pt (Line.Head (Step.Turn m)) pt.kernel in
    by_round (Walks o) b pt m q ps (inl (refl, tt)) (λ p x is alive. record {
      runs = λ k rest stops. inl (
        refl,
        stops (Walks o) (record {
          over = tt;
          replies = λ n r. inl (refl, tt);
          sends = λ id. inl (refl, inl (tt, tt));
          waits = inl (refl, tt);
          outputs = λ word. inl (refl, tt);
          ends = λ y. inr (others_away o.view h p (here p is), inr (tt, tail_after pt m p));
        }),
      );
      takes = λ mask id first. inl (refl, tt);
      refuses = λ id r. inl (refl, tt);
    })

-- a message of the bag
handles_walks : (b : Boot) (pt : Point) (m : ℕ) (i : MsgId) (msg : PlainMessage) (t : Told) (ps : List Part) → InPhases (moved pt (Line.Head (Step.Turn m)) pt.kernel).view → Sane pt → Ends pt → pt.kernel.bag i ≡ Some msg → pt.view.told i ≡ Some t
    → rule.handles b pt m i msg ≡ Some ps → Walks (moved pt (Line.Head (Step.Turn m)) pt.kernel) ps
handles_walks b pt m i msg t ps h sane ends there told =
    let o = moved pt (Line.Head (Step.Turn m)) pt.kernel in
    let kind : t.kind ≡ plain_kind msg.what = sane.tells.kind i msg t there told in
    let receiver : t.receiver ≡ msg.to = sane.tells.receiver i msg t there told in
    let mild : is_kill (plain_kind msg.what) ≡ false → Serves o i = λ e. record { u = t; told = told; others = λ k. absurd (false≢true (sym e ∙ ap is_kill (sym kind) ∙ ap is_kill k)) } in
    by_handles (Walks o) b pt m i msg ps (record {
      created = λ fixed. inr (tt, inl (tt, tt));
      no_space = λ fixed slots blocks. inl (refl, inl (tt, tt));
      took = λ fixed sent. inl (refl, elim sent as (λ x. Walks o (rule.routes x)) [ None ↦ tt | Some n ↦ inl (tt, tt) ]);
      queued = λ to user. inl (refl, tt);
      served = λ to e. inr (mild e, inl tt);
      answers = λ to e j. inr (mild e, inl (tt, tt));
      kills = λ to e. inr (
        record { u = t; told = told; others = λ k. others_away o.view h t.receiver (ap (λ (q : Pid). pt.view.known m q) receiver ∙ to.known) },
        inr (record { u = t; told = told; kind = kind ∙ (elim (plain_kind msg.what) as (λ k. is_kill k ≡ true → k ≡ MessageKind.Kill) [ MessageKind.Kill ↦ λ e. refl | _ ↦ λ e. cc ]) e }, tail_after pt m msg.to),
      );
      moved = λ to what. inl (refl, inl (refl, inl (tt, tt)));
      sets_off = λ machine to what apart. inl (refl, inr (here_lasts pt msg.to m ends to.known, inl (refl, (refl, tt))));
      gone = λ to. inl (refl, inl (tt, tt));
      dropped = λ to. inl (refl, tt);
      leaving = λ n to. inl (refl, tt);
      coming = λ n to. inl (refl, tt);
      forwarded = λ n c to. forwards_walk o pt.addresses i (plain_kind msg.what) msg.sender n;
    })

-- a kernel's own message
hears_walks : (b : Boot) (pt : Point) (m : ℕ) (i : MsgId) (is : List MsgId) (ps : List Part) → InPhases (moved pt (Line.Head (Step.Turn m)) pt.kernel).view → Sane pt → Ends pt → pt.view.inbox m ≡ i ∷ is → rule.hears b pt m i (pt.view.told i) ≡ Some ps
    → Walks (moved pt (Line.Head (Step.Turn m)) pt.kernel) ps
hears_walks b pt m i is ps h sane ends front =
    let o = moved pt (Line.Head (Step.Turn m)) pt.kernel in
    by_hears (Walks o) b pt m i (pt.view.told i) ps (λ t told. record {
      buried = λ p about kind. inr (
        record { u = t; p = p; told = told; about = about; over = let (y, over) = ends.buries i t p told kind about in ap life_of over },
        inr (tt, buries_kept AllTail tt (λ to qs k. (tt, k)) (preds_of pt m p)),
      );
      stale = λ p about late. inl (refl, tt);
      told = λ p x about sized fresh.
          (let lasts = sized_lasts pt p x sane sized in
          record {
            accepted = λ ask. inr (lasts, inl (refl, tt));
            lacks = λ slots blocks. inl (refl, inl (refl, tt));
            stays = λ kind none. inr (lasts, inl tt);
            stays_asked = λ kind n asked. inr (lasts, inl (refl, (tt, tt)));
            state = inl (refl, inl (refl, tt));
            next_chunk = inl (refl, inl (refl, tt));
            last_chunk = inl (refl, inl (refl, tt));
            server_chunk = λ server. inl (refl, inl (refl, inl (refl, tt)));
            memory = inl (refl, inl (refl, tt));
            next_block = inl (refl, inl (refl, tt));
            last_block = inl (refl, inl (refl, tt));
            left = λ ids to l.
                (let u = due o i is t h p front told (ap is_between l.kind) about (ap (λ (k : MessageKind). pulls_piece (sort_of k)) l.kind) fresh in
                inl (refl, agains_walk o to ids (Says (Line.Migration Stage.Left p) ∷ to_kernel MessageKind.Restart i.from.home ∷ []) (inr (left_elsewhere o i t h p u l.kind about, inl (refl, tt)))));
            restarted = λ kind none. inr (lasts, inl tt);
            restarted_asked = λ kind n asked. inr (lasts, inl (refl, (tt, tt)));
          });
      updated = λ kind. inl (refl, tt);
      updated_none = λ kind at_. inl (refl, tt);
      no_move = λ at_. inl (refl, tt);
      leaving = λ to at_. inl (refl, tt);
      coming = λ from at_. inl (refl, tt);
      forwarded = λ to moves at_. forwards_walk o pt.addresses i t.kind manager to;
      stays_here = λ at_. inl (refl, tt);
      frozen = λ to at_. inr (here_lasts pt t.receiver m ends at_.known, inl (refl, (refl, tt)));
    })

-- what deliveries and repeats say
net_calm_line : (l : Line) → IsNetLine l → changes l ≡ false
net_calm_line (Line.Taken a b n) h = refl
net_calm_line (Line.Old a b n) h = refl
net_calm_line (Line.Early a b n) h = refl
net_calm_line (Line.Acked a b n) h = refl
net_calm_line Line.Nothing h = refl
net_calm_line (Line.Resent m n) h = refl
net_calm_line _ h = absurd h

net_walks : (o : Point) (ps : List Part) → IsNet ps → Walks o ps
net_walks o [] h = tt
net_walks o (Says l ∷ ps) h = inl (net_calm_line l h.0, net_walks o ps h.1)
net_walks o (Transmits a b l ∷ ps) h = inl (tt, net_walks o ps h.1)
net_walks o _ h = absurd h.0

outcome_walks : (b : Boot) (pt : Point) (d : Step) (ps : List Part) → InPhases pt.view → State None pt → Sane pt → Rooted pt → Ends pt → rule.outcome b pt d ≡ Some ps → Walks (moved pt (Line.Head d) pt.kernel) ps
outcome_walks b pt d ps phases state sane rooted ends =
    let turns : (m : ℕ) → InPhases (moved pt (Line.Head (Step.Turn m)) pt.kernel).view = λ m. calm_phases pt.view (after_head pt.view (Step.Turn m)) (head_calm pt.view (Step.Turn m)) phases in
    by_outcome (λ (e : Step) (qs : List Part). Walks (moved pt (Line.Head e) pt.kernel) qs) b pt d ps (record {
      round = λ m qs box e. round_walks b pt m (rule.first_runnable pt.kernel (pt.view.queue m) (pt.view.ring m)) qs (turns m) (λ p is. rooted.served m p is) e;
      handles = λ m i is msg qs box there e. (let (t, told) = standing_told pt (Inbox m) i state (front_one pt.view m i is box) in handles_walks b pt m i msg t qs (turns m) sane ends there told e);
      hears = λ m i is qs box there e. hears_walks b pt m i is qs (turns m) sane ends box e;
      ticks = λ m qs net. net_walks (moved pt (Line.Head (Step.Tick m)) pt.kernel) qs net;
      delivers = λ a c k qs net. net_walks (moved pt (Line.Head (Step.Deliver a c k)) pt.kernel) qs net;
      asks = λ p m. by_migrates (Walks (moved pt (Line.Head (Step.Migrate p m)) pt.kernel)) pt p (inl (refl, tt)) (inl (refl, tt)) (λ n off is. inl (refl, tt));
      calls = λ p m.
          (let o = moved pt (Line.Head (Step.CallOff p m)) pt.kernel in
          let there : InPhases o.view = calm_phases pt.view (after_head pt.view (Step.CallOff p m)) (head_calm pt.view (Step.CallOff p m)) phases in
          by_calls_off (Walks o) pt m p (inl (refl, tt)) (λ from is come. inr (called_elsewhere o.view there p from is come, inl (agains_calm from (pt.view.held m p) (to_kernel MessageKind.CallOff from ∷ []) (refl, tt)))));
    })

pub ends_group : (b : Boot) (pt : Point) (d : Step) (w : Spelled) → group_of b pt d ≡ Some w → InPhases pt.view → State None pt → Sane pt → Rooted pt → Ends pt → Ends w.point
ends_group b pt d w e phases state sane rooted h =
    let g = group_is b pt d w e in
    let start = moved pt (Line.Head d) pt.kernel in
    let begun : Ends start = elim d as (λ x. Ends (moved pt (Line.Head x) pt.kernel)) [
      | Step.Turn m ↦ record { away = h.away; there = h.there; servers = h.servers; buries = h.buries }
      | Step.Tick m ↦ record { away = h.away; there = h.there; servers = h.servers; buries = h.buries }
      | Step.Deliver a c k ↦ record { away = h.away; there = h.there; servers = h.servers; buries = h.buries }
      | Step.Migrate p m ↦ record { away = h.away; there = h.there; servers = h.servers; buries = h.buries }
      | Step.CallOff p m ↦ record { away = h.away; there = h.there; servers = h.servers; buries = h.buries }
    ] in
    subst Ends g.point (walks_ends g.parts start start g.rest (outcome_walks b pt d g.parts phases state sane rooted h g.is) (sane_line pt start (Line.Head d) refl refl sane) begun (same_self start) g.said)

-- at the start no process has ended, and each is at home
first_alive : (b : Boot) (p : BootProcess) → life_of (first_life b p) ≡ Some false → ⊥
first_alive b p e = elim (slice_get b.images p.image) as (λ (o : Option BootImage). life_of (option_map (λ image. Alive (begun b.format image (map plain_link p.links))) o) ≡ Some false → ⊥)
    [ None ↦ λ f. cc | Some i ↦ λ f. let g : true ≡ false = cc in false≢true (sym g) ] e

none_ended : (b : Boot) (ps : List BootProcess) (q : Pid) → life_of (life_at b ps q) ≡ Some false → ⊥
none_ended b [] q e = cc
none_ended b (p ∷ ps) q e = elim (cases_Bool (pid_eq p.pid q)) [
  | inl same ↦ first_alive b p (sym (ap (λ (c : Bool). life_of (if c then first_life b p else life_at b ps q)) same) ∙ e)
  | inr off ↦ none_ended b ps q (sym (ap (λ (c : Bool). life_of (if c then first_life b p else life_at b ps q)) off) ∙ e)
]

first_there : (b : Boot) (ps : List BootProcess) (q : Pid) (x : PlainProcess) → life_at b ps q ≡ Some (Alive x) → is_away (known_at ps q.home q) ≡ false
first_there b [] q x e = cc
first_there b (p ∷ ps) q x e = elim (cases_Bool (pid_eq p.pid q)) [
  | inl same ↦
      let home : (p.pid.home == q.home) ≡ true = ap (λ (z : Pid). p.pid.home == z.home) (sym (pid_eq-is p.pid q same)) ∙ eq_self p.pid.home in
      ap (λ (c : Bool). is_away (if c then Here else known_at ps q.home q)) (both_true (pid_eq p.pid q) (p.pid.home == q.home) same home)
  | inr off ↦
      ap (λ (c : Bool). is_away (if c && (p.pid.home == q.home) then Here else known_at ps q.home q)) off
      ∙ first_there b ps q x (sym (ap (λ (c : Bool). if c then first_life b p else life_at b ps q) off) ∙ e)
]

-- a server on the first machine
here_or : (c : Bool) (k : Known) → is_away k ≡ false → is_away (if c then Here else k) ≡ false
here_or true k e = refl
here_or false k e = e

first_server : (ps : List BootProcess) (q : Pid) → is_server q ≡ true → is_away (known_at ps 0 q) ≡ false
first_server [] q server = ap (λ (c : Bool). is_away (if c then Here else Unknown)) (both_true (0 == 0) (is_server q) (eq_self 0) server)
first_server (p ∷ ps) q server = here_or (pid_eq p.pid q && (p.pid.home == 0)) (known_at ps 0 q) (first_server ps q server)

pub ends_start : (b : Boot) → IsValid b → Ends (first_point b)
ends_start b valid = record {
  away = λ m p over. let (y, is) = over in absurd (none_ended b b.processes p (ap life_of is));
  there = λ p x is. (p.home, first_there b b.processes p x is);
  servers = λ p server. (0, first_server b.processes p server);
  buries = λ i t p told bury about. cc;
}
