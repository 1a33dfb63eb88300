-- Each message that the kernel without machines holds stands in one line at the end.
use Rattle.dm_law_moves.proofs.Names.{◌≡◌, ◌≢◌, ℕ, zero, suc, ◌+◌, ◌<◌, ◌≤◌, ◌==◌, ◌||◌, Bool, true, false, is_some, nat_le, List, [], ◌∷◌, ◌++◌, refl, ap, ◌∙◌, sym, subst, inl, inr, arith, if◌then◌else◌, Option, None, Some, cases_Bool}
use Rattle.dm_law_moves.proofs.Names.{nat_tests, Pid, pid_of, pid_eq, PlainLink, PlainMessage, MsgId, Boot, first_number, switchboard, manager, PlainProcess, Life, Alive, NamedLink, Pending, pid_eq-is, EndLine}
use Rattle.dm_law_moves.proofs.Names.{block_line, memory_lines, home_with, list_line, joined_below, Addresses, Stood, standing_of, first_with, stood, slot_line, link_lines, alive_lines, process_lines}
use Rattle.dm_law_moves.proofs.Names.{each_process, name_lines, child_lines, pending_lines, queue_at, queue_lines, holding_lines, inbox_lines, stream_lines, server_lines, sent_lines, end_lines, Point, is_server, Run, run_always}
use Rattle.dm_law_moves.proofs.Names.{false≢true, MessageKind, Standing, Phase, Nowhere, Rests, Over, Moves, knows, is_here, Known, Unknown, or_first, Spot, Queue, Held, Inbox, Untaken, times, untaken, standing, filter, take, drop, length, ◌*◌, ◌/◌, ◌-◌}
use Rattle.dm_line.specs.Ends.{trimmed}
use Rattle.dm_law_rule.specs.Spots.{StandsNowhere, StandsOnce, StandsOutside, StandsRight}
use Rattle.std.proofs.Math.Seq.{drop-nil}
use Rattle.dm_law_rule.specs.Addresses.{Receiver}
use Rattle.dm_law_rule.specs.Homes.{to_of}
use Rattle.dm_law_rule.specs.Phases as phases
use Rattle.dm_law_rule.specs.View as view
use Rattle.dm_law_rule.specs.View.{Pair, is_kernels}
use Rattle.dm_law_rule.specs.Ends.{each_holder, is_moved}
use Rattle.dm_law_rule.proofs.Groups.{stands_once_always}
use Rattle.dm_law_always.specs.KnownStands.{agrees}
use Rattle.dm_law_always.specs.Found.{has_no_queue, has_nothing_held, machine_of}
use Rattle.dm_law_moves.proofs.At.RestPairs.{routed_always}
use Rattle.dm_law_moves.proofs.LifeLines.{first_or}
use Rattle.dm_law_moves.proofs.Lists.Always.{lists_always}
use Rattle.dm_law_moves.specs.Lists.{ListsRight}
use Rattle.dm_law_moves.proofs.EndLines.{Mute, both, mute_both, mute_homes, mute_machines, one_first, one_last}
use Rattle.dm_law_moves.specs.LetterLines.{IsListed, LettersStandInLines, ids_of, lists}

module _ (id : MsgId) where
  -- lines of lists
  absent : (l : EndLine) → times id (ids_of l) ≡ 0 → lists id l ≡ false
  absent l e = grind (arith, nat_tests)

  present : (l : EndLine) → times id (ids_of l) ≡ 1 → lists id l ≡ true
  present l e = grind (arith, nat_tests)

  alone_by : (l : EndLine) (c : Bool) → lists id l ≡ c → filter (lists id) (l ∷ []) ≡ (if c then l ∷ [] else [])
  alone_by l c e = ap (λ (d : Bool). if d then l ∷ [] else []) e

  mute_list : (g : List MsgId → EndLine) (ids : List MsgId) → ((is : List MsgId) → ids_of (g is) ≡ is) → times id ids ≡ 0 → Mute (lists id) (list_line g ids)
  mute_list g [] same e = refl
  mute_list g (i ∷ is) same e = alone_by (g (i ∷ is)) false (absent (g (i ∷ is)) (ap (times id) (same (i ∷ is)) ∙ e))

  one_list : (g : List MsgId → EndLine) (ids : List MsgId) → ((is : List MsgId) → ids_of (g is) ≡ is) → times id ids ≡ 1 → filter (lists id) (list_line g ids) ≡ g ids ∷ []
  one_list g [] same e = absurd (omega (arith, e))
  one_list g (i ∷ is) same e = alone_by (g (i ∷ is)) true (present (g (i ∷ is)) (ap (times id) (same (i ∷ is)) ∙ e))

  -- lines of which one machine's alone has it
  below_mute : (g : ℕ → List EndLine) (n m : ℕ) → n ≤ m → ((k : ℕ) → k ≢ m → Mute (lists id) (g k)) → Mute (lists id) (joined_below g n)
  below_mute g zero m past others = refl
  below_mute g (suc n) m past others = mute_both (lists id) (joined_below g n) (g n) (below_mute g n m (omega (arith, past)) others) (others n (λ e. omega (arith, e, past)))

  one_below : (g : ℕ → List EndLine) (n m : ℕ) (ls : List EndLine) → m < n → filter (lists id) (g m) ≡ ls → ((k : ℕ) → k ≢ m → Mute (lists id) (g k)) → filter (lists id) (joined_below g n) ≡ ls
  one_below g zero m ls less is others = absurd (omega (arith, less))
  one_below g (suc n) m ls less is others = elim (cases_Bool (m == n)) [
    | inl here ↦
        let same : m ≡ n = grind (arith, nat_tests) in
        one_last (lists id) (joined_below g n) (g n) ls (below_mute g n m (omega (arith, same)) others) (ap (λ (k : ℕ). filter (lists id) (g k)) (sym same) ∙ is)
    | inr off ↦
        let before : m < n = grind (arith, nat_tests) in
        one_first (lists id) (joined_below g n) (g n) ls (one_below g n m ls before is others) (others n (λ e. omega (arith, e, before)))
  ]

  -- lines of processes and servers list nothing
  mute_names : (a : Addresses) (n : ℕ) (ks : List NamedLink) → Mute (lists id) (name_lines a n ks)
  mute_names a n [] = refl
  mute_names a n (k ∷ ks) = mute_names a (n + 1) ks

  mute_children : (a : Addresses) (n : ℕ) (qs : List Pid) → Mute (lists id) (child_lines a n qs)
  mute_children a n [] = refl
  mute_children a n (q ∷ qs) = mute_children a (n + 1) qs

  mute_pending : (rs : List Pending) → Mute (lists id) (pending_lines rs)
  mute_pending [] = refl
  mute_pending (r ∷ rs) = mute_pending rs

  mute_block : (q : Pid) (k : ℕ) (bytes : List ℕ) → Mute (lists id) (block_line q k bytes)
  mute_block q k [] = refl
  mute_block q k (x ∷ xs) = refl

  mute_memory : (q : Pid) (bytes : List ℕ) (k : ℕ) → Mute (lists id) (memory_lines q bytes k)
  mute_memory q bytes k = mute_machines (lists id) (λ n. block_line q n (trimmed (take 256 (drop (256 * n) bytes)))) k (λ n. mute_block q n (trimmed (take 256 (drop (256 * n) bytes))))

  mute_slot : (a : Addresses) (q : Pid) (k : ℕ) (slot : Option PlainLink) → Mute (lists id) (slot_line a q k slot)
  mute_slot a q k None = refl
  mute_slot a q k (Some l) = refl

  mute_links : (a : Addresses) (q : Pid) (k : ℕ) (ls : List (Option PlainLink)) → Mute (lists id) (link_lines a q k ls)
  mute_links a q k [] = refl
  mute_links a q k (l ∷ ls) = mute_both (lists id) (slot_line a q k l) (link_lines a q (k + 1) ls) (mute_slot a q k l) (mute_links a q (k + 1) ls)

  mute_alive : (a : Addresses) (q : Pid) (x : PlainProcess) (o : Option Stood) → Mute (lists id) (alive_lines a q x o)
  mute_alive a q x None = refl
  mute_alive a q x (Some s) = mute_both (lists id) (memory_lines q x.memory (length x.memory / 256)) (link_lines a q 0 x.links) (mute_memory q x.memory (length x.memory / 256)) (mute_links a q 0 x.links)

  mute_life : (pt : Point) (q : Pid) (l : Option Life) → Mute (lists id) (process_lines pt q l)
  mute_life pt q None = refl
  mute_life pt q (Some (Alive x)) = mute_alive pt.addresses q x (stood pt.view q pt.kernel.machines)
  mute_life pt q (Some (Life.Ended because)) = refl

  mute_place : (q : Pid) (s : Stood) (c : Bool) → Mute (lists id) (if c then EndLine.Place q s.at s.standing ∷ [] else [])
  mute_place q s true = refl
  mute_place q s false = refl

  mute_sent : (q : Pid) (n : ℕ) (o : Option Stood) → Mute (lists id) (sent_lines q n o)
  mute_sent q n None = refl
  mute_sent q n (Some s) = mute_place q s (is_moved s)

  mute_servers : (pt : Point) → Mute (lists id) (server_lines pt)
  mute_servers pt =
      let a = sent_lines switchboard pt.kernel.switchboard.sent (stood pt.view switchboard pt.kernel.machines) in
      let c = sent_lines manager pt.kernel.manager.sent (stood pt.view manager pt.kernel.machines) in
      let names_ = name_lines pt.addresses 0 pt.kernel.switchboard.names in
      let children_ = child_lines pt.addresses 1 pt.kernel.manager.children in
      mute_both (lists id) (((a ++ c) ++ names_) ++ children_) (pending_lines pt.kernel.manager.pending)
      (mute_both (lists id) ((a ++ c) ++ names_) children_
      (mute_both (lists id) (a ++ c) names_
      (mute_both (lists id) a c (mute_sent switchboard pt.kernel.switchboard.sent (stood pt.view switchboard pt.kernel.machines)) (mute_sent manager pt.kernel.manager.sent (stood pt.view manager pt.kernel.machines)))
      (mute_names pt.addresses 0 pt.kernel.switchboard.names)) (mute_children pt.addresses 1 pt.kernel.manager.children)) (mute_pending pt.kernel.manager.pending)

  -- what the four sorts of lists say is all
  join : (xs ys us ws : List EndLine) → filter (lists id) xs ≡ us → filter (lists id) ys ≡ ws → filter (lists id) (xs ++ ys) ≡ us ++ ws
  join xs ys us ws e f = both (lists id) xs ys ∙ ap (λ (zs : List EndLine). zs ++ filter (lists id) ys) e ∙ ap (λ (zs : List EndLine). us ++ zs) f

  end_is : (pt : Point) (q h i s : List EndLine) → filter (lists id) (queue_lines pt) ≡ q → filter (lists id) (holding_lines pt) ≡ h → filter (lists id) (inbox_lines pt) ≡ i → filter (lists id) (stream_lines pt) ≡ s
      → filter (lists id) (end_lines pt) ≡ ((q ++ h) ++ i) ++ s
  end_is pt q h i s e f g k =
      let of = λ (p : Pid). process_lines pt p (pt.kernel.processes p) in
      let lives = EndLine.Final ∷ each_process pt of in
      let servers = lives ++ server_lines pt in
      let queues = servers ++ queue_lines pt in
      let holding = queues ++ holding_lines pt in
      let inboxes = holding ++ inbox_lines pt in
      let streams = inboxes ++ stream_lines pt in
      let none : Mute (lists id) servers = mute_both (lists id) lives (server_lines pt) (mute_homes (lists id) pt of pt.kernel.machines (λ p. mute_life pt p (pt.kernel.processes p))) (mute_servers pt) in
      one_first (lists id) streams (EndLine.Groups pt.view.groups ∷ []) (((q ++ h) ++ i) ++ s)
      (join inboxes (stream_lines pt) ((q ++ h) ++ i) s
      (join holding (inbox_lines pt) (q ++ h) i
      (join queues (holding_lines pt) q h (join servers (queue_lines pt) [] q none e) f) g) k) refl

  -- where a list has nothing of it
  module _ (pt : Point) (z : Spot) (zero_ : (y : Spot) → y ≢ z → standing pt.view id y ≡ 0) where
    queue_mute : (q : Pid) (o : Option Stood) → ((m : ℕ) → Queue m q ≢ z) → Mute (lists id) (queue_at pt.view q o)
    queue_mute q None off = refl
    queue_mute q (Some s) off = mute_list (EndLine.Queue q) (pt.view.queue s.at q) (λ is. refl) (zero_ (Queue s.at q) (off s.at))

    queues_mute : ((m : ℕ) (q : Pid) → Queue m q ≢ z) → Mute (lists id) (queue_lines pt)
    queues_mute off =
        mute_homes (lists id) pt (λ q. queue_at pt.view q (first_with standing_of pt.view q pt.kernel.machines)) pt.kernel.machines (λ q. queue_mute q (first_with standing_of pt.view q pt.kernel.machines) (λ m. off m q))

    held_mute : (m : ℕ) (q : Pid) → Held m q ≢ z → Mute (lists id) (list_line (EndLine.Holding m q) (pt.view.held m q))
    held_mute m q off = mute_list (EndLine.Holding m q) (pt.view.held m q) (λ is. refl) (zero_ (Held m q) off)

    holder_mute : (m : ℕ) → ((q : Pid) → Held m q ≢ z) → Mute (lists id) (each_holder pt (λ q. list_line (EndLine.Holding m q) (pt.view.held m q)))
    holder_mute m off =
        let g = λ (q : Pid). list_line (EndLine.Holding m q) (pt.view.held m q) in
        mute_both (lists id) (g switchboard ++ g manager) (each_process pt g) (mute_both (lists id) (g switchboard) (g manager) (held_mute m switchboard (off switchboard)) (held_mute m manager (off manager)))
        (mute_homes (lists id) pt g pt.kernel.machines (λ q. held_mute m q (off q)))

    holding_mute : ((m : ℕ) (q : Pid) → Held m q ≢ z) → Mute (lists id) (holding_lines pt)
    holding_mute off = mute_machines (lists id) (λ m. each_holder pt (λ q. list_line (EndLine.Holding m q) (pt.view.held m q))) pt.kernel.machines (λ m. holder_mute m (off m))

    inbox_mute : (m : ℕ) → Inbox m ≢ z → Mute (lists id) (list_line (EndLine.Inbox m) (pt.view.inbox m))
    inbox_mute m off = mute_list (EndLine.Inbox m) (pt.view.inbox m) (λ is. refl) (zero_ (Inbox m) off)

    inboxes_mute : ((m : ℕ) → Inbox m ≢ z) → Mute (lists id) (inbox_lines pt)
    inboxes_mute off = mute_machines (lists id) (λ m. list_line (EndLine.Inbox m) (pt.view.inbox m)) pt.kernel.machines (λ m. inbox_mute m (off m))

    stream_mute : (a b : ℕ) → Untaken a b ≢ z → Mute (lists id) (list_line (EndLine.Stream a b) (untaken (pt.view.pair a b)))
    stream_mute a b off = mute_list (EndLine.Stream a b) (untaken (pt.view.pair a b)) (λ is. refl) (zero_ (Untaken a b) off)

    row_mute : (a : ℕ) → ((b : ℕ) → Untaken a b ≢ z) → Mute (lists id) (joined_below (λ b. list_line (EndLine.Stream a b) (untaken (pt.view.pair a b))) pt.kernel.machines)
    row_mute a off = mute_machines (lists id) (λ b. list_line (EndLine.Stream a b) (untaken (pt.view.pair a b))) pt.kernel.machines (λ b. stream_mute a b (off b))

    streams_mute : ((a b : ℕ) → Untaken a b ≢ z) → Mute (lists id) (stream_lines pt)
    streams_mute off =
        mute_machines (lists id) (λ a. joined_below (λ b. list_line (EndLine.Stream a b) (untaken (pt.view.pair a b))) pt.kernel.machines) pt.kernel.machines (λ a. row_mute a (off a))

  -- a process among all
  record Numbered (pt : Point) (p : Pid) : Type 0 where
    home : p.home < pt.kernel.machines
    number : ℕ
    less : number < pt.kernel.made p.home
    is : p.num ≡ first_number + number

  mute_numbered : (pt : Point) (g : Pid → List EndLine) → ((home k : ℕ) → Mute (lists id) (g (pid_of home (first_number + k)))) → Mute (lists id) (each_process pt g)
  mute_numbered pt g h =
      mute_machines (lists id) (λ home. home_with g home (pt.kernel.made home)) pt.kernel.machines (λ home. mute_machines (lists id) (λ k. g (pid_of home (first_number + k))) (pt.kernel.made home) (λ k. h home k))

  one_process : (pt : Point) (g : Pid → List EndLine) (p : Pid) (ls : List EndLine) → Numbered pt p → filter (lists id) (g p) ≡ ls → ((q : Pid) → q ≢ p → Mute (lists id) (g q)) → filter (lists id) (each_process pt g) ≡ ls
  one_process pt g p ls n is others =
      let same : p ≡ pid_of p.home (first_number + n.number) = λ i. record { home = p.home; num = n.is i } in
      one_below (λ home. home_with g home (pt.kernel.made home)) pt.kernel.machines p.home ls n.home
      (one_below (λ k. g (pid_of p.home (first_number + k))) (pt.kernel.made p.home) n.number ls n.less (ap (λ (q : Pid). filter (lists id) (g q)) (sym same) ∙ is)
      (λ k off. others (pid_of p.home (first_number + k)) (λ e. off (let f : first_number + k ≡ p.num = ap (λ (q : Pid). q.num) e in let h = n.is in omega (arith, f, h)))))
      (λ home off. mute_machines (lists id) (λ k. g (pid_of home (first_number + k))) (pt.kernel.made home) (λ k. others (pid_of home (first_number + k)) (λ e. off (ap (λ (q : Pid). q.home) e))))

  -- a server, or a process
  data Holds (pt : Point) (p : Pid) : Type 0 where
    Board : p ≡ switchboard → Holds pt p
    Manages : p ≡ manager → Holds pt p
    Made : Numbered pt p → Holds pt p

  one_holder : (pt : Point) (g : Pid → List EndLine) (p : Pid) (ls : List EndLine) → Holds pt p → filter (lists id) (g p) ≡ ls → ((q : Pid) → q ≢ p → Mute (lists id) (g q)) → filter (lists id) (each_holder pt g) ≡ ls
  one_holder pt g p ls (Board e) is others =
      let first : filter (lists id) (g switchboard) ≡ ls = ap (λ (q : Pid). filter (lists id) (g q)) (sym e) ∙ is in
      one_first (lists id) (g switchboard ++ g manager) (each_process pt g) ls (one_first (lists id) (g switchboard) (g manager) ls first (others manager (λ f. let n : 2 ≡ 1 = ap (λ (q : Pid). q.num) (f ∙ e) in omega (arith, n))))
      (mute_numbered pt g (λ home k. others (pid_of home (first_number + k)) (λ f. let n : first_number + k ≡ 1 = ap (λ (q : Pid). q.num) (f ∙ e) in omega (arith, n))))
  one_holder pt g p ls (Manages e) is others =
      let first : filter (lists id) (g manager) ≡ ls = ap (λ (q : Pid). filter (lists id) (g q)) (sym e) ∙ is in
      one_first (lists id) (g switchboard ++ g manager) (each_process pt g) ls (one_last (lists id) (g switchboard) (g manager) ls (others switchboard (λ f. let n : 1 ≡ 2 = ap (λ (q : Pid). q.num) (f ∙ e) in omega (arith, n))) first)
      (mute_numbered pt g (λ home k. others (pid_of home (first_number + k)) (λ f. let n : first_number + k ≡ 2 = ap (λ (q : Pid). q.num) (f ∙ e) in omega (arith, n))))
  one_holder pt g p ls (Made n) is others =
      let num = n.is in
      one_last (lists id) (g switchboard ++ g manager) (each_process pt g) ls
      (mute_both (lists id) (g switchboard) (g manager) (others switchboard (λ f. let k : 1 ≡ p.num = ap (λ (q : Pid). q.num) f in omega (arith, k, num))) (others manager (λ f. let k : 2 ≡ p.num = ap (λ (q : Pid). q.num) f in omega (arith, k, num))))
      (one_process pt g p ls n is others)

  -- where it stands, it stands in a line
  module _ (pt : Point) where
    one_inbox : (m : ℕ) → ((y : Spot) → y ≢ Inbox m → standing pt.view id y ≡ 0) → m < pt.kernel.machines → standing pt.view id (Inbox m) ≡ 1 → IsListed id (end_lines pt)
    one_inbox m zero_ less one =
        let z = Inbox m in
        let line = EndLine.Inbox m (pt.view.inbox m) in
        record {
          line = line;
          alone = end_is pt [] [] (line ∷ []) [] (queues_mute pt z zero_ (λ k q e. cc)) (holding_mute pt z zero_ (λ k q e. cc))
              (one_below (λ k. list_line (EndLine.Inbox k) (pt.view.inbox k)) pt.kernel.machines m (line ∷ []) less (one_list (EndLine.Inbox m) (pt.view.inbox m) (λ is. refl) one) (λ k off. inbox_mute pt z zero_ k (λ e. off (let f : k ≡ m = cc in f))))
              (streams_mute pt z zero_ (λ a b e. cc));
          once = one;
        }

    one_stream : (a b : ℕ) → ((y : Spot) → y ≢ Untaken a b → standing pt.view id y ≡ 0) → a < pt.kernel.machines → b < pt.kernel.machines → standing pt.view id (Untaken a b) ≡ 1 → IsListed id (end_lines pt)
    one_stream a b zero_ from to one =
        let z = Untaken a b in
        let line = EndLine.Stream a b (untaken (pt.view.pair a b)) in
        record {
          line = line;
          alone = end_is pt [] [] [] (line ∷ []) (queues_mute pt z zero_ (λ k q e. cc)) (holding_mute pt z zero_ (λ k q e. cc)) (inboxes_mute pt z zero_ (λ k e. cc))
              (one_below (λ c. joined_below (λ d. list_line (EndLine.Stream c d) (untaken (pt.view.pair c d))) pt.kernel.machines) pt.kernel.machines a (line ∷ []) from
              (one_below (λ d. list_line (EndLine.Stream a d) (untaken (pt.view.pair a d))) pt.kernel.machines b (line ∷ []) to (one_list (EndLine.Stream a b) (untaken (pt.view.pair a b)) (λ is. refl) one) (λ d off. stream_mute pt z zero_ a d (λ e. off (let f : d ≡ b = cc in f))))
              (λ c off. row_mute pt z zero_ c (λ d e. off (let f : c ≡ a = cc in f))));
          once = one;
        }

    one_held : (m : ℕ) (p : Pid) → ((y : Spot) → y ≢ Held m p → standing pt.view id y ≡ 0) → m < pt.kernel.machines → Holds pt p → standing pt.view id (Held m p) ≡ 1 → IsListed id (end_lines pt)
    one_held m p zero_ less holds one =
        let z = Held m p in
        let line = EndLine.Holding m p (pt.view.held m p) in
        record {
          line = line;
          alone = end_is pt [] (line ∷ []) [] [] (queues_mute pt z zero_ (λ k q e. cc))
              (one_below (λ k. each_holder pt (λ q. list_line (EndLine.Holding k q) (pt.view.held k q))) pt.kernel.machines m (line ∷ []) less
              (one_holder pt (λ q. list_line (EndLine.Holding m q) (pt.view.held m q)) p (line ∷ []) holds (one_list (EndLine.Holding m p) (pt.view.held m p) (λ is. refl) one) (λ q off. held_mute pt z zero_ m q (λ e. off (let f : q ≡ p = cc in f))))
              (λ k off. holder_mute pt z zero_ k (λ q e. off (let f : k ≡ m = cc in f))))
              (inboxes_mute pt z zero_ (λ k e. cc)) (streams_mute pt z zero_ (λ a b e. cc));
          once = one;
        }

    one_queue : (p : Pid) (s : Stood) → ((y : Spot) → y ≢ Queue s.at p → standing pt.view id y ≡ 0) → first_with standing_of pt.view p pt.kernel.machines ≡ Some s → Numbered pt p → standing pt.view id (Queue s.at p) ≡ 1 → IsListed id (end_lines pt)
    one_queue p s zero_ found n one =
        let z = Queue s.at p in
        let line = EndLine.Queue p (pt.view.queue s.at p) in
        let g = λ (q : Pid). queue_at pt.view q (first_with standing_of pt.view q pt.kernel.machines) in
        let own : filter (lists id) (g p) ≡ line ∷ [] = ap (λ (o : Option Stood). filter (lists id) (queue_at pt.view p o)) found ∙ one_list (EndLine.Queue p) (pt.view.queue s.at p) (λ is. refl) one in
        record {
          line = line;
          alone = end_is pt (line ∷ []) [] [] [] (one_process pt g p (line ∷ []) n own (λ q off. queue_mute pt z zero_ q (first_with standing_of pt.view q pt.kernel.machines) (λ m e. off (let f : q ≡ p = cc in f))))
              (holding_mute pt z zero_ (λ k q e. cc)) (inboxes_mute pt z zero_ (λ k e. cc)) (streams_mute pt z zero_ (λ a b e. cc));
          once = one;
        }

    -- and where it stands nowhere, in none
    nowhere : ((y : Spot) → standing pt.view id y ≡ 0) → filter (lists id) (end_lines pt) ≡ []
    nowhere none =
        end_is pt [] [] [] [] (mute_homes (lists id) pt (λ q. queue_at pt.view q (first_with standing_of pt.view q pt.kernel.machines)) pt.kernel.machines (λ q. quiet q (first_with standing_of pt.view q pt.kernel.machines)))
        (mute_machines (lists id) (λ m. each_holder pt (λ q. list_line (EndLine.Holding m q) (pt.view.held m q))) pt.kernel.machines (λ m. holders m))
        (mute_machines (lists id) (λ m. list_line (EndLine.Inbox m) (pt.view.inbox m)) pt.kernel.machines (λ m. mute_list (EndLine.Inbox m) (pt.view.inbox m) (λ is. refl) (none (Inbox m))))
        (mute_machines (lists id) (λ a. joined_below (λ b. list_line (EndLine.Stream a b) (untaken (pt.view.pair a b))) pt.kernel.machines) pt.kernel.machines
        (λ a. mute_machines (lists id) (λ b. list_line (EndLine.Stream a b) (untaken (pt.view.pair a b))) pt.kernel.machines (λ b. mute_list (EndLine.Stream a b) (untaken (pt.view.pair a b)) (λ is. refl) (none (Untaken a b)))))
      where
        quiet : (q : Pid) (o : Option Stood) → Mute (lists id) (queue_at pt.view q o)
        quiet q None = refl
        quiet q (Some s) = mute_list (EndLine.Queue q) (pt.view.queue s.at q) (λ is. refl) (none (Queue s.at q))

        holder : (m : ℕ) (q : Pid) → Mute (lists id) (list_line (EndLine.Holding m q) (pt.view.held m q))
        holder m q = mute_list (EndLine.Holding m q) (pt.view.held m q) (λ is. refl) (none (Held m q))

        holders : (m : ℕ) → Mute (lists id) (each_holder pt (λ q. list_line (EndLine.Holding m q) (pt.view.held m q)))
        holders m =
            let g = λ (q : Pid). list_line (EndLine.Holding m q) (pt.view.held m q) in
            mute_both (lists id) (g switchboard ++ g manager) (each_process pt g) (mute_both (lists id) (g switchboard) (g manager) (holder m switchboard) (holder m manager)) (mute_homes (lists id) pt g pt.kernel.machines (λ q. holder m q))

-- one machine alone has a process, or holds it back as it leaves
unknown_none : (k : Known) (x : Standing) → phases.is_unknown k ≡ true → standing_of k ≡ Some x → ⊥
unknown_none Unknown x e f = let g : None ≡ Some x = f in cc
unknown_none _ x e f = false≢true e

away_none : (k : Known) (x : Standing) → phases.is_away k ≡ true → standing_of k ≡ Some x → ⊥
away_none Unknown x e f = let g : None ≡ Some x = f in cc
away_none (view.Forward at moves) x e f = let g : None ≡ Some x = f in cc
away_none _ x e f = false≢true e

comes_none : (c : MessageKind) (from : ℕ) (k : Known) (x : Standing) → phases.kind_comes c from k ≡ true → standing_of k ≡ Some x → ⊥
comes_none c from Unknown x e f = let g : None ≡ Some x = f in cc
comes_none c from (view.Incoming m) x e f = let g : None ≡ Some x = f in cc
comes_none c from (view.Forward at moves) x e f = let g : None ≡ Some x = f in cc
comes_none c from _ x e f = false≢true e

abbrev source : Phase → ℕ
source Nowhere = 0
source (Rests at) = at
source (Over at) = at
source (Moves c s d id) = s

equal : (m n : ℕ) → (m == n) ≡ true → n ≡ m
equal m n e = grind (arith, nat_tests)

rests_at : (at m : ℕ) (k : Known) (x : Standing) (t : Bool) → (at == m) ≡ t → (if t then is_here k else phases.is_away k) ≡ true → standing_of k ≡ Some x → m ≡ at
rests_at at m k x true is e f = equal at m is
rests_at at m k x false is e f = absurd (away_none k x e f)

over_at : (at m : ℕ) (k : Known) (x : Standing) (t : Bool) → (if t then phases.is_unknown k else phases.is_away k) ≡ true → standing_of k ≡ Some x → m ≡ at
over_at at m k x true e f = absurd (unknown_none k x e f)
over_at at m k x false e f = absurd (away_none k x e f)

moves_at : (c : MessageKind) (s d m : ℕ) (k : Known) (x : Standing) (t u : Bool) → (s == m) ≡ t → (if t then phases.kind_leaves c d k else if u then phases.kind_comes c s k else phases.is_away k) ≡ true → standing_of k ≡ Some x → m ≡ s
moves_at c s d m k x true u is e f = equal s m is
moves_at c s d m k x false true is e f = absurd (comes_none c s k x e f)
moves_at c s d m k x false false is e f = absurd (away_none k x e f)

has_it : (phase : Phase) (m : ℕ) (k : Known) (x : Standing) → knows phase m k ≡ true → standing_of k ≡ Some x → m ≡ source phase
has_it Nowhere m k x e f = absurd (unknown_none k x e f)
has_it (Rests at) m k x e f = rests_at at m k x (at == m) refl e f
has_it (Over at) m k x e f = over_at at m k x (at == m) e f
has_it (Moves c s d id) m k x e f = moves_at c s d m k x (s == m) (d == m) refl e f

-- the process of a list is there, on a machine that there is
queue_standing : (k : Known) → has_no_queue k ≡ false → (x : Standing) × (standing_of k ≡ Some x)
queue_standing view.Here e = (Standing.Here, refl)
queue_standing (view.Frozen to) e = (Standing.Leaving, refl)
queue_standing _ e = absurd (false≢true (sym e))

queue_lives : (k : Known) (o : Option Life) → has_no_queue k ≡ false → agrees k o ≡ true → is_some o ≡ true
queue_lives k (Some life) e f = refl
queue_lives view.Here None e f = f
queue_lives (view.Frozen to) None e f = f
queue_lives _ None e f = absurd (false≢true (sym e))

held_lives : (k : Known) (o : Option Life) → has_nothing_held k ≡ false → agrees k o ≡ true → is_some o ≡ true
held_lives k (Some life) e f = refl
held_lives (view.Frozen to) None e f = f
held_lives (view.Incoming from) None e f = f
held_lives _ None e f = absurd (false≢true (sym e))

queue_known : (k : Known) → has_no_queue k ≡ false → k ≢ Unknown
queue_known k e f = false≢true (sym (sym (ap has_no_queue f) ∙ e))

held_known : (k : Known) → has_nothing_held k ≡ false → k ≢ Unknown
held_known k e f = false≢true (sym (sym (ap has_nothing_held f) ∙ e))

numbered : (b : Boot) (pt : Point) (id : MsgId) (p : Pid) → Run b pt → is_some (pt.kernel.processes p) ≡ true → Numbered id pt p
numbered b pt id p run made =
    let sane = run.based.phased.sane in
    let least = sane.sound.made.least p made in
    let most = sane.sound.made.most p made in
    record {
      home = (run.kept.home p (or_first (is_server p) (is_some (pt.kernel.processes p)) made)).0;
      number = p.num - first_number;
      less = grind (arith, nat_tests);
      is = grind (arith, nat_tests);
    }

holds : (b : Boot) (pt : Point) (id : MsgId) (p : Pid) → Run b pt → (is_server p ≡ false → is_some (pt.kernel.processes p) ≡ true) → Holds id pt p
holds b pt id p run made = elim (cases_Bool (pid_eq p switchboard)) [
  | inl board ↦ Board (pid_eq-is p switchboard board)
  | inr off ↦ elim (cases_Bool (pid_eq p manager)) [
    | inl manages ↦ Manages (pid_eq-is p manager manages)
    | inr neither ↦ Made (numbered b pt id p run (made (ap (λ (c : Bool). c || pid_eq p manager) off ∙ neither)))
  ]
]

not_empty : (id : MsgId) (ids : List MsgId) (c : Bool) → (c ≡ true → ids ≡ []) → times id ids ≡ 1 → c ≡ false
not_empty id ids true h one = absurd (let e : times id ids ≡ 0 = ap (times id) (h refl) in omega (arith, e, one))
not_empty id ids false h one = refl

module _ (b : Boot) (pt : Point) (run : Run b pt) (right : ListsRight pt.view) (none : (a c : ℕ) → length b.machines ≤ a → (pt.view.pair a c).ids ≡ []) (id : MsgId) (m : PlainMessage) (there : pt.kernel.bag id ≡ Some m) where
  within : (z : Spot) → standing pt.view id z ≡ 1 → machine_of z < pt.kernel.machines
  within z one =
      let at : (pt.addresses (Receiver id)).at ≡ machine_of z = run.found.at_ id z (omega (arith, one)) in
      let less = run.found.within (Receiver id) m.to (ap to_of there) in
      omega (arith, at, less)

  from_within : (a c : ℕ) → standing pt.view id (Untaken a c) ≡ 1 → a < pt.kernel.machines
  from_within a c one = elim (cases_Bool (nat_le (length b.machines) a)) [
    | inl past ↦ absurd (
        let empty : (pt.view.pair a c).ids ≡ [] = none a c (grind (arith, nat_tests)) in
        let e : times id (untaken (pt.view.pair a c)) ≡ 0 = ap (λ (is : List MsgId). times id (drop (pt.view.pair a c).taken is)) empty ∙ ap (times id) (drop-nil (pt.view.pair a c).taken) in
        omega (arith, e, one))
    | inr before ↦ (let n = run.based.machines in grind (arith, nat_tests))
  ]

  letter : (z : Spot) → standing pt.view id z ≡ 1 → ((y : Spot) → y ≢ z → standing pt.view id y ≡ 0) → IsListed id (end_lines pt)
  letter (Inbox n) one zero_ = one_inbox id pt n zero_ (within (Inbox n) one) one
  letter (Untaken a c) one zero_ = one_stream id pt a c zero_ (from_within a c one) (within (Untaken a c) one) one
  letter (Held n p) one zero_ =
      let some = not_empty id (pt.view.held n p) (has_nothing_held (pt.view.known n p)) (right.stand.held n p) one in
      one_held id pt n p zero_ (within (Held n p) one)
      (holds b pt id p run (λ off. held_lives (pt.view.known n p) (pt.kernel.processes p) some (run.based.known.agree n p off))) one
  letter (Queue n p) one zero_ =
      let some = not_empty id (pt.view.queue n p) (has_no_queue (pt.view.known n p)) (right.stand.queue n p) one in
      let off = not_empty id (pt.view.queue n p) (is_server p) (right.server n p) one in
      let made = queue_lives (pt.view.known n p) (pt.kernel.processes p) some (run.based.known.agree n p off) in
      let (x, stands) = queue_standing (pt.view.known n p) some in
      let less = run.found.known_within n p (queue_known (pt.view.known n p) some) in
      let all = run.based.phased.phases in
      elim (first_or standing_of pt.view p pt.kernel.machines) [
        | inl found ↦
            let here : n ≡ source (all.of p) = has_it (all.of p) n (pt.view.known n p) x ((all.each p).known n) stands in
            let same : n ≡ found.at.at = here ∙ sym (has_it (all.of p) found.at.at (pt.view.known found.at.at p) found.at.standing ((all.each p).known found.at.at) found.stands) in
            one_queue id pt p found.at (λ y off_. zero_ y (λ e. off_ (e ∙ ap (λ (k : ℕ). Queue k p) same))) found.is (numbered b pt id p run made) (ap (λ (k : ℕ). standing pt.view id (Queue k p)) (sym same) ∙ one)
        | inr nothing ↦ absurd (let e : None ≡ Some x = sym (nothing.none n less) ∙ stands in cc)
      ]

-- wherever the rule leads
bag_of : (o : Option PlainMessage) → is_some o ≡ true → (m : PlainMessage) × (o ≡ Some m)
bag_of None e = absurd (false≢true e)
bag_of (Some m) e = (m, refl)

outside : (f : Spot → ℕ) (c : Bool) → c ≡ false → StandsOutside c f → StandsNowhere f
outside f true e h = absurd (false≢true (sym e))
outside f false e h = h

pub letters_stand_in_lines : LettersStandInLines
letters_stand_in_lines b es pt valid leads =
    let run = (run_always b es pt valid leads).run in
    let stands = λ (id : MsgId). stands_once_always b es pt id valid leads in
    record {
      held = λ id some.
          let (m, there) = bag_of (pt.kernel.bag id) some in
          let (z, one, zero_) : StandsOnce (standing pt.view id) = subst (λ (o : Option PlainMessage). StandsRight id o (standing pt.view id)) there (stands id) in
          letter b pt run (lists_always b es pt valid leads) (routed_always b es pt valid leads).none id m there z one zero_;
      others = λ id none off.
          nowhere id pt (outside (standing pt.view id) (is_kernels id) off (subst (λ (o : Option PlainMessage). StandsRight id o (standing pt.view id)) none (stands id)));
    }
