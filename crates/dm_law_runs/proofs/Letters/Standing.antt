-- The messages that wait by the machines are those that the printed lists name.
use Rattle.std.proofs.Common.{◌≡◌, ◌≢◌, ℕ, zero, suc, ◌+◌, ◌-◌, ◌==◌, ◌<◌, Bool, true, false, if◌then◌else◌, List, [], ◌++◌, map, drop, refl, ap, ap₂, sym, ◌∙◌, inl, inr, arith}
use Rattle.std.proofs.lemmas.List.{append-nil}
use Rattle.std.specs.declared.option.Option.{Option}
use Rattle.std.specs.declared.option.Option.TheVariants.{None, Some}
use Rattle.dm_link.specs.declared.Pid.{Pid}
use Rattle.dm_link.specs.Names.{pid_of}
use Rattle.dm_message.specs.declared.Message.{Message}
use Rattle.dm_message.specs.declared.MsgId.{MsgId}
use Rattle.dm_records.specs.declared.record.Record.{Record}
use Rattle.dm_onekernel.specs.declared.boot.Boot.{Boot}
use Rattle.dm_onekernel.specs.Boot.{first_number, manager, switchboard}
use Rattle.dm_resident.specs.Residents.{queue_of}
use Rattle.dm_kernel.specs.State.{KernelKnown}
use Rattle.dm_line.specs.Each.{joined_below}
use Rattle.dm_law_rule.specs.Point.{Point}
use Rattle.dm_law_rule.specs.Spots.{untaken}
use Rattle.dm_law_rule.specs.View.{Known, Unknown, Here, Frozen, Incoming, Forward}
use Rattle.dm_law_always.specs.Found.{has_no_queue, has_nothing_held}
use Rattle.dm_law_moves.specs.Lists.{ListsRight}
use Rattle.dm_law_places.specs.Placed.{Placed}
use Rattle.dm_world.specs.Ends as world
use Rattle.dm_world.specs.World.{WorldState}
use Rattle.dm_law_mirror.specs.Stands.{AreMessages, History, KnownStands, PairStands, StandsWith}
use Rattle.dm_law_mirror.proofs.Names.{drop-drop, eqb_tells}
use Rattle.dm_look.specs.Waiting.{given_by, given_on, kept_at, kept_for, kept_of_home, kept_of_servers, waiting, waiting_at}
use Rattle.dm_law_runs.proofs.Letters.Spots.{all_ids, ids_at_machine, ids_given, ids_given_by, ids_kept, ids_kept_at, ids_of_home, ids_of_homes, ids_of_servers}
use Rattle.dm_law_mirror.proofs.Leave.Stays.{messages_append}

-- lists of machines, one behind another
joined_are : (bag : MsgId → Option Message) (f : ℕ → List MsgId) (g : ℕ → List Message) (n : ℕ) → ((k : ℕ) → k < n → AreMessages bag (f k) (g k)) → AreMessages bag (joined_below f n) (joined_below g n)
joined_are bag f g zero each = refl
joined_are bag f g (suc n) each = messages_append bag (joined_below f n) (f n) (joined_below g n) (g n) (joined_are bag f g n (λ k h. each k (omega (arith, h)))) (each n (omega arith))

-- what a machine has for a process or a server
kept_are : (l : Placed) (p : Pid) (q held : List MsgId) (k : Known) (r : Option KernelKnown) → (has_no_queue k ≡ true → q ≡ []) → (has_nothing_held k ≡ true → held ≡ []) → KnownStands l p q held k r → AreMessages l.bag (q ++ held) (kept_for r)
kept_are l p q held Unknown None queue none h = ap₂ (λ (x y : List MsgId). map l.bag (x ++ y)) (queue refl) (none refl)
kept_are l p q held Here (Some (Record.Here x)) queue none h = ap (λ (y : List MsgId). map l.bag (q ++ y)) (none refl) ∙ (ap (map l.bag) (append-nil q) ∙ h.1)
kept_are l p q held (Frozen to) (Some (Record.Frozen d)) queue none h = messages_append l.bag q held (queue_of d.resident) d.held h.here.1 h.held
kept_are l p q held (Incoming from) (Some (Record.Incoming a)) queue none h = ap (λ (x : List MsgId). map l.bag (x ++ held)) (queue refl) ∙ h.held
kept_are l p q held (Forward place moves) (Some (Record.Forward to count)) queue none h = ap₂ (λ (x y : List MsgId). map l.bag (x ++ y)) (queue refl) (none refl)
kept_are l p q held k r queue none h = absurd h

-- what one machine has for another, and was not taken yet
untaken_are : (b : Boot) (pt : Point) (l : Placed) (w : WorldState) (h : History) (a c : ℕ) → PairStands b pt l w h a c → AreMessages l.bag (untaken (pt.view.pair a c)) (world.untaken w a c)
untaken_are b pt l w h a c p =
    let s = (w.nodes a).senders c in
    let r = (w.nodes c).receivers a in
    let given = h.given a c in
    let order = p.stream.in_order in
    let same : world.untaken w a c ≡ drop (pt.view.pair a c).taken given =
    ap (λ (ms : List Message). drop (r.count - s.acked) ms) order.unacked
    ∙ (drop-drop (r.count - s.acked) s.acked given
    ∙ ap (λ (n : ℕ). drop n given) ((let k = order.acked_taken in omega (arith, k)) ∙ p.taken)) in
    p.untaken ∙ ap (map Some) (sym same)

given_are : (b : Boot) (pt : Point) (l : Placed) (w : WorldState) (h : History) (a c : ℕ) → (a ≢ c → PairStands b pt l w h a c) → AreMessages l.bag (ids_given pt.view a c) (given_on w a c)
given_are b pt l w h a c pair = by_test (a == c) (elim (eqb_tells a c) [ inl e ↦ λ off. absurd (cc) | inr e ↦ λ off. untaken_are b pt l w h a c (pair e.1) ])
  where
    by_test : (t : Bool) → (t ≡ false → AreMessages l.bag (untaken (pt.view.pair a c)) (world.untaken w a c)) → AreMessages l.bag (if t then [] else untaken (pt.view.pair a c)) (if t then [] else world.untaken w a c)
    by_test true f = refl
    by_test false f = f refl

-- all of them
module _ (b : Boot) (pt : Point) (l : Placed) (w : WorldState) (h : History) (stands : StandsWith b w pt l h) (lists : ListsRight pt.view) where
  known_are : (m : ℕ) (p : Pid) → m < pt.kernel.machines → AreMessages l.bag (ids_kept pt.view m p) (kept_for ((w.nodes m).kernel.records p))
  known_are m p below =
      kept_are l p (pt.view.queue m p) (pt.view.held m p) (pt.view.known m p) ((w.nodes m).kernel.records p) (λ e. lists.stand.queue m p e) (λ e. lists.stand.held m p e) ((stands.nodes m below).kernel.known p)

  home_are : (m home : ℕ) → m < pt.kernel.machines → home < pt.kernel.machines → AreMessages l.bag (ids_of_home pt m home) (kept_of_home w m home)
  home_are m home below within =
      joined_are l.bag (λ n. ids_kept pt.view m (pid_of home (first_number + n))) (λ n. kept_for ((w.nodes m).kernel.records (pid_of home (first_number + n)))) (pt.kernel.made home) (λ n less. known_are m (pid_of home (first_number + n)) below)
      ∙ ap (λ (n : ℕ). map Some (joined_below (λ k. kept_for ((w.nodes m).kernel.records (pid_of home (first_number + k)))) n)) (sym (stands.nodes home within).kernel.made)

  servers_are : (m : ℕ) → m < pt.kernel.machines → AreMessages l.bag (ids_of_servers pt m) (kept_of_servers w m)
  servers_are m below =
      messages_append l.bag (ids_kept pt.view m switchboard) (ids_kept pt.view m manager) (kept_for ((w.nodes m).kernel.records switchboard)) (kept_for ((w.nodes m).kernel.records manager))
      (known_are m switchboard below) (known_are m manager below)

  homes_are : (m : ℕ) → m < pt.kernel.machines → AreMessages l.bag (ids_of_homes pt m) (joined_below (λ home. kept_of_home w m home) pt.kernel.machines)
  homes_are m below = joined_are l.bag (λ home. ids_of_home pt m home) (λ home. kept_of_home w m home) pt.kernel.machines (λ home within. home_are m home below within)

  machine_are : (m : ℕ) → m < pt.kernel.machines → AreMessages l.bag (ids_at_machine pt m) (waiting_at pt.kernel.machines w m)
  machine_are m below =
      messages_append l.bag (ids_kept_at pt m ++ pt.view.inbox m) (ids_given_by pt m) (kept_at pt.kernel.machines w m ++ (w.nodes m).kernel.inbox) (given_by pt.kernel.machines w m)
      (messages_append l.bag (ids_kept_at pt m) (pt.view.inbox m) (kept_at pt.kernel.machines w m) (w.nodes m).kernel.inbox
      (messages_append l.bag (ids_of_servers pt m) (ids_of_homes pt m) (kept_of_servers w m) (joined_below (λ home. kept_of_home w m home) pt.kernel.machines) (servers_are m below) (homes_are m below)) (stands.nodes m below).kernel.inbox)
      (joined_are l.bag (λ c. ids_given pt.view m c) (λ c. given_on w m c) pt.kernel.machines (λ c within. given_are b pt l w h m c (λ apart. stands.pairs m c below within apart)))

  pub waiting_are : AreMessages l.bag (all_ids pt) (waiting pt.kernel.machines w)
  unfolding waiting
  waiting_are = joined_are l.bag (λ m. ids_at_machine pt m) (λ m. waiting_at pt.kernel.machines w m) pt.kernel.machines (λ m below. machine_are m below)
