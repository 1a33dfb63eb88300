-- What a machine has of a process or a server at the end, by what the lines say that it knows.
use Rattle.dm_law_mirror.proofs.Names.{View, ◌≡◌, ◌≢◌, ◌⊎◌, ℕ, ◌<◌, ◌==◌, true, false, is_some, List, refl, ap, ◌∙◌, sym, subst, inl, inr, cases_Bool, arith, option_map, Option, None, Some, nat_tests, Pid, pid_of, MessageKind, Record, About, with_what, Process}
use Rattle.dm_law_mirror.proofs.Names.{incoming_of, Arrival, Nothing, Boot, Alive, plain_process, EndLine, Standing, or, list_line, Stood, stood_at, first_with, is_away, is_due, Point, Known, Unknown, Incoming, Told, not_true, is_server, Run}
use Rattle.dm_law_mirror.proofs.Names.{Placed, WorldState, awaited_lines, come_lines, first_awaited, first_had, first_says, lines_in, record_lines, record_queue, told_of, History, KnownStands, StandsWith, Wants, alive-is, [], none_some}
use Rattle.dm_law_mirror.proofs.Names.{Message, MsgId, What, kind_of, Here, Frozen, Forward, come_whole, held_for, names_of, has_nothing_held, AreMessages, ComesStand, Carries, ◌≤◌, ◌∷◌, length, map, IfSome, IsValid, Manager, plain_child}
use Rattle.dm_law_mirror.proofs.Names.{Step, Leads, first_point, EndMay, Cargo, PlainProcess, Ended, ended_away, living_phase, Life, Why, false≢true, Resident, resident_at, Phase, IsIn, switchboard, manager, Switchboard, restarted, HereStands, append_assoc, Managing, if◌then◌else◌, not, ◌++◌}
use Rattle.dm_resident.specs.Lawful.{IsLawfulResident}
use Rattle.dm_kernel.specs.Lawful.{IsLawfulKnown}
use Rattle.dm_resident.specs.Residents as residents
use Rattle.dm_onekernel.specs.Step as kernel
use Rattle.dm_law_rule.specs.Ends as rule
use Rattle.dm_law_rule.proofs.Phases.Ends.{is_gone}
use Rattle.dm_kernel.specs.State as machine
use Rattle.dm_world.specs.Ends as world
use Rattle.dm_world.specs.Ends.{HasPlainEnd, KnownHasPlainEnd}
pub use Rattle.dm_law_mirror.proofs.LeftOver.{carries_plain as carried_own}
use Rattle.dm_law_mirror.proofs.End.Servers.{first_at, first_none, names_are, names_said, children_said, sent_same, alive_same, ComesTo, HasIt, is_silent, where_is}
use Rattle.dm_law_mirror.proofs.Handle.Taking.{some_same}
pub use Rattle.dm_law_mirror.proofs.Handle.Kills.{child_off as no_server}
use Rattle.dm_law_mirror.proofs.Recorded.{Recorded, recorded}
use Rattle.dm_law_mirror.proofs.Residents.{OfBoard, OfManager, OfProcess, process_at, who}
use Rattle.dm_law_mirror.proofs.Next.{machines_stay}
use Rattle.dm_law_mirror.proofs.Lasting.{ServersLast}
use Rattle.dm_law_mirror.proofs.Counts.Pairs.{CountsFew}
use Rattle.dm_law_mirror.proofs.Cargoes.{comes_again}
use Rattle.dm_law_mirror.proofs.Call.{coming_fits}
use Rattle.dm_law_rule.proofs.Phases.Ends.{gone_known}

-- a machine that says nothing
pub silent_has : (k : Known) → is_silent k ≡ true → rule.standing_of k ≡ None
silent_has k e = grind (arith, nat_tests)

away_silent : (k : Known) → is_away k ≡ true → is_silent k ≡ true
away_silent k e = grind (arith, nat_tests)

pub away_awaits : (k : Known) → is_away k ≡ true → rule.awaits k ≡ None
away_awaits k e = grind (arith, nat_tests)

-- What is said of a process or a server doesn't hang on what waits for it, nor on how often it has moved.

queue_lines : (m : ℕ) (p : Pid) (s : Standing) (q : List Message) (r : Resident) → world.resident_lines m p s (residents.with_queue q r) ≡ world.resident_lines m p s r
queue_lines m p s q (Resident.Process x) = refl
queue_lines m p s q (Resident.Board v) = refl
queue_lines m p s q (Resident.Manager g) = refl

moved_lines : (m : ℕ) (p : Pid) (s : Standing) (r : Resident) → world.resident_lines m p s (residents.moved r) ≡ world.resident_lines m p s r
moved_lines m p s (Resident.Process x) = refl
moved_lines m p s (Resident.Board v) = refl
moved_lines m p s (Resident.Manager g) = refl

queue_lists : (q : List Message) (r : Resident) → world.lists_of (residents.with_queue q r) ≡ world.lists_of r
queue_lists q (Resident.Process x) = refl
queue_lists q (Resident.Board v) = refl
queue_lists q (Resident.Manager g) = refl

moved_lists : (r : Resident) → world.lists_of (residents.moved r) ≡ world.lists_of r
moved_lists (Resident.Process x) = refl
moved_lists (Resident.Board v) = refl
moved_lists (Resident.Manager g) = refl

-- a machine that has it
pub record IsAt (l : Placed) (p : Pid) (q : List MsgId) (m : ℕ) (s : Standing) (r : Option machine.KernelKnown) : Type 0 where
  pub resident : Resident
  pub lines : record_lines m p r ≡ Some (world.resident_lines m p s resident)
  pub queue : record_queue p r ≡ Some (list_line (EndLine.Queue p) (names_of (residents.queue_of resident)))
  pub kept : world.record_kept r ≡ Some (world.lists_of resident)
  pub rest : List Message
  pub placed : resident_at l p ≡ Some (residents.with_queue rest resident)
  pub waits : AreMessages l.bag q (residents.queue_of resident)

pub is_at : (l : Placed) (p : Pid) (q held : List MsgId) (m : ℕ) (s : Standing) (k : Known) (r : Option machine.KernelKnown) → rule.standing_of k ≡ Some s → KnownStands l p q held k r → IsAt l p q m s r
is_at l p q held m s Here (Some (Record.Here x)) e h =
    let f : Standing.Here ≡ s = cc in
    subst (λ (t : Standing). IsAt l p q m t (Some (Record.Here x))) f (record { resident = x; lines = refl; queue = refl; kept = refl; rest = h.0.0; placed = h.0.1; waits = h.1 })
is_at l p q held m s (Frozen to) (Some (Record.Frozen x)) e h =
    let f : Standing.Leaving ≡ s = cc in
    subst (λ (t : Standing). IsAt l p q m t (Some (Record.Frozen x))) f (record { resident = x.resident; lines = refl; queue = refl; kept = refl; rest = h.here.0.0; placed = h.here.0.1; waits = h.here.1 })
is_at l p q held m s Unknown None e h = none_some s e
is_at l p q held m s (Incoming from) (Some (Record.Incoming x)) e h = none_some s e
is_at l p q held m s (Forward at moves) (Some (Record.Forward x y)) e h = none_some s e
is_at l p q held m s k r e h = absurd h

-- one that has nothing of it, says nothing
record Silent (m : ℕ) (p : Pid) (r : Option machine.KernelKnown) : Type 0 where
  lines : record_lines m p r ≡ None
  queue : record_queue p r ≡ None
  kept : world.record_kept r ≡ None

silent_record : (l : Placed) (p : Pid) (q held : List MsgId) (m : ℕ) (k : Known) (r : Option machine.KernelKnown) → is_silent k ≡ true → KnownStands l p q held k r → Silent m p r
silent_record l p q held m Here (Some (Record.Here x)) e h = absurd (false≢true e)
silent_record l p q held m (Frozen to) (Some (Record.Frozen x)) e h = absurd (false≢true e)
silent_record l p q held m Unknown None e h = record { lines = refl; queue = refl; kept = refl }
silent_record l p q held m (Incoming from) (Some (Record.Incoming x)) e h = record { lines = refl; queue = refl; kept = refl }
silent_record l p q held m (Forward at moves) (Some (Record.Forward x y)) e h = record { lines = refl; queue = refl; kept = refl }
silent_record l p q held m k r e h = absurd h

-- nor does one that doesn't expect it
record NoneAwaited (b : Boot) (m : ℕ) (p : Pid) (r : Option machine.KernelKnown) : Type 0 where
  lines : awaited_lines b m p r ≡ None
  kept : world.awaited_kept b r ≡ None

away_record : (b : Boot) (l : Placed) (p : Pid) (q held : List MsgId) (m : ℕ) (k : Known) (r : Option machine.KernelKnown) → is_away k ≡ true → KnownStands l p q held k r → NoneAwaited b m p r
away_record b l p q held m Unknown None e h = record { lines = refl; kept = refl }
away_record b l p q held m (Forward at moves) (Some (Record.Forward x y)) e h = record { lines = refl; kept = refl }
away_record b l p q held m Here (Some (Record.Here x)) e h = absurd (false≢true e)
away_record b l p q held m (Frozen to) (Some (Record.Frozen x)) e h = absurd (false≢true e)
away_record b l p q held m (Incoming from) (Some (Record.Incoming x)) e h = absurd (false≢true e)
away_record b l p q held m k r e h = absurd h

-- the message that lets a process restart tells that all of it has come
pub restart_wants : (p : Pid) (x : Cargo) (n : ℕ) (o : Option Arrival) (w : What) → kind_of w ≡ MessageKind.Restart → Carries p x n o w → Wants o Nothing
restart_wants p x n o (What.Restart pid) e h = h.1
restart_wants p x n o _ e h = cc

-- all its pieces give the process or the server
pub come_all : (b : Boot) (l : Placed) (p : Pid) (from : ℕ) (held : List MsgId) (a : Arrival) (c : ComesStand l p from held a) (r : Resident) → l.manager.machines ≡ length b.machines → l.manager.images ≡ length b.images
    → resident_at l p ≡ Some r → a.wanted ≡ Nothing → come_whole b a a.wanted ≡ Some (residents.moved r)
come_all b l p from held a c r machines images there wanted =
    ap (come_whole b a) wanted ∙ (λ i. restarted (sym machines i) (sym images i) a) ∙ comes_again l p from held a r there wanted c

-- of a server no blocks come
come_server : (b : Boot) (a : Arrival) (o : Option Resident) → a.blocks ≡ 0 → come_whole b a a.wanted ≡ o → world.server_come b a a.wanted ≡ o
come_server b a o none e = ap (λ (n : ℕ). if not (n == 0) then None else come_whole b a a.wanted) none ∙ e

-- the messages that are held
pub held_said : (l : Placed) (p : Pid) (q held : List MsgId) (k : Known) (r : Option machine.KernelKnown) → ((i : MsgId) (m : Message) → l.bag i ≡ Some m → m.id ≡ i) → (has_nothing_held k ≡ true → held ≡ []) → KnownStands l p q held k r → names_of (held_for r) ≡ held
held_said l p q held k r named none h = grind (arith, nat_tests, names_are)

-- What is said of each process and each server at the end: the machine that has it says it, or where it comes to; or it has ended.

-- where the world stands for the point
pub record IsOfHome (b : Boot) (w : WorldState) (pt : Point) (l : Placed) (h : History) (p : Pid) : Type 0 where
  pub stands : StandsWith b w pt l h
  pub run : Run b pt

-- where a process comes to a machine, nobody has it
none_has : (v : View) (p : Pid) (a : ComesTo v p) (m : ℕ) → is_silent (v.known m p) ≡ true
none_has v p a m = grind (arith, nat_tests)

pub not_gone : (v : View) (p : Pid) (phase : Phase) (m : ℕ) → IsIn v p phase → is_away (v.known m p) ≡ false → is_gone phase ≡ false
not_gone v p phase m h there = elim (cases_Bool (is_gone phase)) [
  | inl gone ↦ absurd (false≢true (sym there ∙ gone_known phase m (v.known m p) gone (h.known m)))
  | inr off ↦ off
]

-- what is said of it, where it lives or is a server
pub record Said (b : Boot) (w : WorldState) (pt : Point) (p : Pid) (r : Resident) : Type 0 where
  pub at : ℕ
  pub standing : Standing
  pub stood : rule.stood pt.view p pt.kernel.machines ≡ Some (record { at = at; standing = standing })
  pub lines : world.living_lines b w p ≡ world.resident_lines at p standing r
  pub kept : residents.blocks_of r ≡ 0 → world.kept_lines b w p ≡ world.lists_of r

module _ (b : Boot) (w : WorldState) (pt : Point) (l : Placed) (h : History) (p : Pid) (g : IsOfHome b w pt l h p) where
  -- what machine m knows
  abbrev Stood_ : ℕ → Type 0
  Stood_ m = KnownStands l p (pt.view.queue m p) (pt.view.held m p) (pt.view.known m p) ((w.nodes m).kernel.records p)

  knows_ : (m : ℕ) → m < pt.kernel.machines → Stood_ m
  knows_ m below = (g.stands.nodes m below).kernel.known p

  abbrev n : ℕ
  n = length b.machines

  -- as many machines
  few : (m : ℕ) → m < n → m < pt.kernel.machines
  few m less = subst (λ (k : ℕ). m < k) (sym g.run.based.machines) less

  of_file : (m : ℕ) → m < pt.kernel.machines → m < n
  of_file m less = subst (λ (k : ℕ). m < k) g.run.based.machines less

  -- a machine that says nothing
  silent_machine : (m : ℕ) → is_silent (pt.view.known m p) ≡ true → m < n → Silent m p ((w.nodes m).kernel.records p)
  silent_machine m silent below = silent_record l p (pt.view.queue m p) (pt.view.held m p) m (pt.view.known m p) ((w.nodes m).kernel.records p) silent (knows_ m (few m below))

  away_machine : (m : ℕ) → is_away (pt.view.known m p) ≡ true → m < n → NoneAwaited b m p ((w.nodes m).kernel.records p)
  away_machine m away below = away_record b l p (pt.view.queue m p) (pt.view.held m p) m (pt.view.known m p) ((w.nodes m).kernel.records p) away (knows_ m (few m below))

  -- the machine that says the first thing
  had_at : (at : ℕ) → at < pt.kernel.machines → ((m : ℕ) → m ≢ at → is_silent (pt.view.known m p) ≡ true) → first_had n w p ≡ record_lines at p ((w.nodes at).kernel.records p)
  had_at at below others =
      let f : ℕ → Option (List EndLine) = λ m. record_lines m p ((w.nodes m).kernel.records p) in
      first_at (first_says f) f at n refl (λ m. refl) (of_file at below) (λ m less apart. (silent_machine m (others m apart) less).lines)

  kept_at : (at : ℕ) → at < pt.kernel.machines → ((m : ℕ) → m ≢ at → is_silent (pt.view.known m p) ≡ true)
      → first_says (λ m. world.record_kept ((w.nodes m).kernel.records p)) n ≡ world.record_kept ((w.nodes at).kernel.records p)
  kept_at at below others =
      let f : ℕ → Option (List EndLine) = λ m. world.record_kept ((w.nodes m).kernel.records p) in
      first_at (first_says f) f at n refl (λ m. refl) (of_file at below) (λ m less apart. (silent_machine m (others m apart) less).kept)

  queue_by : (at : ℕ) → at < pt.kernel.machines → ((m : ℕ) → m ≢ at → is_silent (pt.view.known m p) ≡ true) → world.queue_of n w p ≡ lines_in (record_queue p ((w.nodes at).kernel.records p))
  queue_by at below others =
      let f : ℕ → Option (List EndLine) = λ m. record_queue p ((w.nodes m).kernel.records p) in
      ap lines_in (first_at (first_says f) f at n refl (λ m. refl) (of_file at below) (λ m less apart. (silent_machine m (others m apart) less).queue))

  with_at : (at : ℕ) → at < pt.kernel.machines → ((m : ℕ) → m ≢ at → is_silent (pt.view.known m p) ≡ true)
      → first_with rule.standing_of pt.view p pt.kernel.machines ≡ stood_at at (rule.standing_of (pt.view.known at p))
  with_at at below others =
      first_at (first_with rule.standing_of pt.view p) (λ m. stood_at m (rule.standing_of (pt.view.known m p))) at pt.kernel.machines refl (λ m. refl) below
      (λ m less apart. ap (stood_at m) (silent_has (pt.view.known m p) (others m apart)))

  -- a machine that knows something is one of them
  has_known : (k : Known) (s : Standing) → rule.standing_of k ≡ Some s → k ≢ Unknown
  has_known k s e is = let f : rule.standing_of Unknown ≡ Some s = sym (ap rule.standing_of is) ∙ e in cc

  within_has : (a : HasIt pt.view p) → a.at < pt.kernel.machines
  within_has a = g.run.found.known_within a.at p (has_known (pt.view.known a.at p) a.standing a.known)

  within_to : (a : ComesTo pt.view p) → a.to < pt.kernel.machines
  within_to a = g.run.found.known_within a.to p (λ is. let f : Incoming a.from ≡ Unknown = sym a.known ∙ is in cc)

  alive_of : (x : Process) → l.processes p ≡ Some x → pt.kernel.processes p ≡ Some (Alive (plain_process x))
  alive_of x placed = alive-is (pt.kernel.processes p) (plain_process x) (g.stands.mirrors.plain.processes p ∙ ap (option_map plain_process) placed)

  -- one that is alive hasn't ended
  not_ended : (x : PlainProcess) → pt.kernel.processes p ≡ Some (Alive x) → w.ended p ≡ None
  not_ended x alive = g.stands.ended p ∙ ap kernel.why_ended alive

  -- what a machine has
  at_machine : (a : HasIt pt.view p) → IsAt l p (pt.view.queue a.at p) a.at a.standing ((w.nodes a.at).kernel.records p)
  at_machine a =
      is_at l p (pt.view.queue a.at p) (pt.view.held a.at p) a.at a.standing (pt.view.known a.at p) ((w.nodes a.at).kernel.records p) a.known (knows_ a.at (within_has a))

  has_said : (r : Resident) → resident_at l p ≡ Some r → HasIt pt.view p → Said b w pt p r
  has_said r there a =
      let below = within_has a in
      let i = at_machine a in
      let same : residents.with_queue i.rest i.resident ≡ r = some_same (residents.with_queue i.rest i.resident) r (sym i.placed ∙ there) in
      record {
        at = a.at;
        standing = a.standing;
        stood = ap (λ (o : Option Stood). or o (first_with rule.awaits pt.view p pt.kernel.machines)) (with_at a.at below a.others ∙ ap (stood_at a.at) a.known);
        lines = ap (λ (o : Option (List EndLine)). lines_in (or o (first_awaited b w p))) (had_at a.at below a.others ∙ i.lines)
            ∙ sym (queue_lines a.at p a.standing i.rest i.resident) ∙ ap (world.resident_lines a.at p a.standing) same;
        kept = λ none. ap (λ (o : Option (List EndLine)). lines_in (or o (first_says (λ m. world.awaited_kept b ((w.nodes m).kernel.records p)) n))) (kept_at a.at below a.others ∙ i.kept)
            ∙ sym (queue_lists i.rest i.resident) ∙ ap world.lists_of same;
      }

  has_queue : (a : HasIt pt.view p) → world.queue_of n w p ≡ rule.queue_at pt.view p (first_with rule.standing_of pt.view p pt.kernel.machines)
  has_queue a =
      let below = within_has a in
      let i = at_machine a in
      queue_by a.at below a.others
      ∙ (ap lines_in i.queue
      ∙ (ap (list_line (EndLine.Queue p)) (names_are l.bag (pt.view.queue a.at p) (residents.queue_of i.resident) (λ j m there. (g.stands.mirrors.places.message j m there).id) i.waits)
      ∙ ap (rule.queue_at pt.view p) (sym (with_at a.at below a.others ∙ ap (stood_at a.at) a.known))))

  -- a process that has ended
  over_said : (y : Why) → pt.kernel.processes p ≡ Some (Ended y) → world.process_lines b w p ≡ rule.process_lines pt p (pt.kernel.processes p)
  over_said y life = ap (world.lines_by b w p) (g.stands.ended p ∙ ap kernel.why_ended life) ∙ ap (rule.process_lines pt p) (sym life)

  to_machine : (a : ComesTo pt.view p) → Recorded l p (pt.view.queue a.to p) (pt.view.held a.to p) (Incoming a.from) ((w.nodes a.to).kernel.records p)
  to_machine a = recorded b pt l a.to (w.nodes a.to).kernel p (Incoming a.from) (g.stands.nodes a.to (within_to a)).kernel a.known

  -- all of it has come
  all_come : (a : ComesTo pt.view p) (c : Arrival) → (w.nodes a.to).kernel.records p ≡ Some (Record.Incoming c) → c.wanted ≡ Nothing
  all_come a c is =
      let told = a.token.told in
      let t = (g.stands.tokens p a.id (record { kind = MessageKind.Restart; receiver = pid_of a.to 0; about = About.Of p }) a.token.spot told refl refl a.token.stands).0 refl in
      let m = t.message in
      let own = g.stands.own a.id m t.is (ap (with_what m) (carried_own p t.cargo (pt.view.asked p) (incoming_of ((w.nodes a.to).kernel.records p)) m.what t.carries)) in
      let same : told_of m ≡ record { kind = MessageKind.Restart; receiver = pid_of a.to 0; about = About.Of p } = some_same (told_of m) (record { kind = MessageKind.Restart; receiver = pid_of a.to 0; about = About.Of p }) (sym own.told ∙ told) in
      subst (λ (o : Option machine.KernelKnown). Wants (incoming_of o) Nothing) is
      (restart_wants p t.cargo (pt.view.asked p) (incoming_of ((w.nodes a.to).kernel.records p)) m.what (ap (λ (x : Told). x.kind) same) t.carries)

  -- the manager knows the machines and images of the boot file
  machines_are : l.manager.machines ≡ n
  machines_are = g.stands.mirrors.plain.machines ∙ g.run.based.machines

  images_are : l.manager.images ≡ length b.images
  images_are = g.stands.mirrors.plain.images ∙ ap length g.run.based.images

  to_said : (r : Resident) → resident_at l p ≡ Some r → ComesTo pt.view p → Said b w pt p r
  to_said r placed a =
      let below = within_to a in
      let (c, is, comes) = to_machine a in
      let fits = coming_fits pt l p a.from (pt.view.held a.to p) c g.stands.mirrors comes in
      let whole : come_whole b c c.wanted ≡ Some (residents.moved r) = come_all b l p a.from (pt.view.held a.to p) c comes r machines_are images_are placed (all_come a c is) in
      let f : ℕ → Option (List EndLine) = λ m. record_lines m p ((w.nodes m).kernel.records p) in
      let v : ℕ → Option (List EndLine) = λ m. awaited_lines b m p ((w.nodes m).kernel.records p) in
      let k : ℕ → Option (List EndLine) = λ m. world.record_kept ((w.nodes m).kernel.records p) in
      let u : ℕ → Option (List EndLine) = λ m. world.awaited_kept b ((w.nodes m).kernel.records p) in
      let had : first_had n w p ≡ None = first_none (first_says f) f n refl (λ m. refl) (λ m less. (silent_machine m (none_has pt.view p a m) less).lines) in
      let keeps : first_says k n ≡ None = first_none (first_says k) k n refl (λ m. refl) (λ m less. (silent_machine m (none_has pt.view p a m) less).kept) in
      let awaited : first_awaited b w p ≡ Some (world.resident_lines a.to p Standing.Arriving (residents.moved r)) =
      first_at (first_says v) v a.to n refl (λ m. refl) (of_file a.to below) (λ m less apart. (away_machine m (a.others m apart) less).lines) ∙ (ap (awaited_lines b a.to p) is ∙ ap (come_lines a.to p) whole) in
      let there : Option Stood = Some (record { at = a.to; standing = Standing.Arriving }) in
      let has : first_with rule.standing_of pt.view p pt.kernel.machines ≡ None =
      first_none (first_with rule.standing_of pt.view p) (λ m. stood_at m (rule.standing_of (pt.view.known m p))) pt.kernel.machines refl (λ m. refl) (λ m less. ap (stood_at m) (silent_has (pt.view.known m p) (none_has pt.view p a m))) in
      let awaits : first_with rule.awaits pt.view p pt.kernel.machines ≡ there =
      first_at (first_with rule.awaits pt.view p) (λ m. stood_at m (rule.awaits (pt.view.known m p))) a.to pt.kernel.machines refl (λ m. refl) below (λ m less apart. ap (stood_at m) (away_awaits (pt.view.known m p) (a.others m apart)))
      ∙ ap (λ (k : Known). stood_at a.to (rule.awaits k)) a.known in
      record {
        at = a.to;
        standing = Standing.Arriving;
        stood = ap (λ (o : Option Stood). or o (first_with rule.awaits pt.view p pt.kernel.machines)) has ∙ awaits;
        lines = ap (λ (o : Option (List EndLine)). lines_in (or o (first_awaited b w p))) had ∙ ap lines_in awaited ∙ moved_lines a.to p Standing.Arriving r;
        kept = λ none.
            (let blocks : c.blocks ≡ 0 = fits.blocks ∙ ap residents.blocks_of (some_same fits.resident r (sym fits.there ∙ placed)) ∙ none in
            let come : first_says u n ≡ Some (world.lists_of (residents.moved r)) =
            first_at (first_says u) u a.to n refl (λ m. refl) (of_file a.to below) (λ m less apart. (away_machine m (a.others m apart) less).kept)
            ∙ (ap (world.awaited_kept b) is ∙ ap (option_map world.lists_of) (come_server b c (Some (residents.moved r)) blocks whole)) in
            ap (λ (o : Option (List EndLine)). lines_in (or o (first_says u n))) keeps ∙ ap lines_in come ∙ moved_lists r);
      }

  -- no machine has it
  none_queue : ((m : ℕ) → is_silent (pt.view.known m p) ≡ true) → world.queue_of n w p ≡ rule.queue_at pt.view p (first_with rule.standing_of pt.view p pt.kernel.machines)
  none_queue none =
      let f : ℕ → Option (List EndLine) = λ m. record_queue p ((w.nodes m).kernel.records p) in
      let has : first_with rule.standing_of pt.view p pt.kernel.machines ≡ None =
      first_none (first_with rule.standing_of pt.view p) (λ m. stood_at m (rule.standing_of (pt.view.known m p))) pt.kernel.machines refl (λ m. refl) (λ m less. ap (stood_at m) (silent_has (pt.view.known m p) (none m))) in
      ap lines_in (first_none (first_says f) f n refl (λ m. refl) (λ m less. (silent_machine m (none m) less).queue)) ∙ ap (rule.queue_at pt.view p) (sym has)

  -- what isn't gone is somewhere
  somewhere : is_gone (g.run.based.phased.phases.of p) ≡ false → HasIt pt.view p ⊎ ComesTo pt.view p
  somewhere lives =
      let phases = g.run.based.phased.phases in
      where_is pt.view p (phases.of p) (phases.each p) (not_true (is_due (phases.of p)) (λ e. let f : None ≡ Some p = phases.put p e in cc)) lives

  lives_on : (x : PlainProcess) → pt.kernel.processes p ≡ Some (Alive x) → is_gone (g.run.based.phased.phases.of p) ≡ false
  lives_on x alive = (let phased = g.run.based.phased in living_phase pt p x (phased.phases.of p) phased alive (phased.phases.each p))

  pub said : (r : Resident) → resident_at l p ≡ Some r → is_gone (g.run.based.phased.phases.of p) ≡ false → Said b w pt p r
  said r there lives = elim (somewhere lives) as (λ z. Said b w pt p r) [ inl a ↦ has_said r there a | inr a ↦ to_said r there a ]

  -- each process that was made lives or has ended
  alive_said : (x : PlainProcess) → is_server p ≡ false → pt.kernel.processes p ≡ Some (Alive x) → (o : Option Process) → l.processes p ≡ o → world.process_lines b w p ≡ rule.process_lines pt p (pt.kernel.processes p)
  alive_said x server alive (Some y) placed =
      let there : resident_at l p ≡ Some (Resident.Process y) = process_at l p server ∙ ap (option_map Resident.Process) placed in
      let s = said (Resident.Process y) there (lives_on x alive) in
      ap (world.lines_by b w p) (not_ended x alive) ∙ s.lines
      ∙ (alive_same pt.addresses s.at p s.standing y (g.stands.mirrors.places.process p y placed).slots
      ∙ (ap (rule.alive_lines pt.addresses p (plain_process y)) (sym s.stood) ∙ ap (rule.process_lines pt p) (sym (alive_of y placed))))
  alive_said x server alive None placed =
      let f : None ≡ Some x = sym (ap (option_map plain_process) placed) ∙ sym (g.stands.mirrors.plain.processes p) ∙ ap kernel.alive alive in
      cc

  process_by : is_server p ≡ false → (o : Option Life) → pt.kernel.processes p ≡ o → is_some o ≡ true → world.process_lines b w p ≡ rule.process_lines pt p (pt.kernel.processes p)
  process_by server None life made = absurd (false≢true made)
  process_by server (Some (Alive x)) life made = alive_said x server life (l.processes p) refl
  process_by server (Some (Ended y)) life made = over_said y life

  queue_by_life : (o : Option Life) → pt.kernel.processes p ≡ o → is_some o ≡ true → world.queue_of n w p ≡ rule.queue_at pt.view p (first_with rule.standing_of pt.view p pt.kernel.machines)
  queue_by_life None life made = absurd (false≢true made)
  queue_by_life (Some (Alive x)) life made = elim (somewhere (lives_on x life)) [ inl a ↦ has_queue a | inr a ↦ none_queue (none_has pt.view p a) ]
  queue_by_life (Some (Ended y)) life made = none_queue (λ m. away_silent (pt.view.known m p) (ended_away pt p g.run.based.phased (y, life) m))

  pub process_said : is_server p ≡ false → is_some (pt.kernel.processes p) ≡ true → world.process_lines b w p ≡ rule.process_lines pt p (pt.kernel.processes p)
  process_said server made = process_by server (pt.kernel.processes p) refl made

  pub queue_said : is_some (pt.kernel.processes p) ≡ true → world.queue_of n w p ≡ rule.queue_at pt.view p (first_with rule.standing_of pt.view p pt.kernel.machines)
  queue_said made = queue_by_life (pt.kernel.processes p) refl made

  -- what a machine holds for it
  pub holding_said : (m : ℕ) → m < pt.kernel.machines → world.held_line w m p ≡ list_line (EndLine.Holding m p) (pt.view.held m p)
  holding_said m below =
      ap (list_line (EndLine.Holding m p))
      (held_said l p (pt.view.queue m p) (pt.view.held m p) (pt.view.known m p) ((w.nodes m).kernel.records p) (λ i x there. (g.stands.mirrors.places.message i x there).id) (λ e. g.run.based.lists.held m p e) (knows_ m below))

-- The servers, each on a machine, or on its way to one.

module _ (b : Boot) (w : WorldState) (pt : Point) (l : Placed) (h : History) (stands : StandsWith b w pt l h) (run : Run b pt) (lasts : ServersLast pt.view) where
  server_said : (p : Pid) (r : Resident) → is_server p ≡ true → resident_at l p ≡ Some r → Said b w pt p r
  server_said p r server there =
      let (m, on) = lasts p server in
      let phases = run.based.phased.phases in
      said b w pt l h p (record { stands = stands; run = run }) r there (not_gone pt.view p (phases.of p) m (phases.each p) on)

  pub servers_said : world.server_lines b w ≡ rule.server_lines pt
  servers_said =
      let board = server_said switchboard (Resident.Board l.board) refl refl in
      let manages = server_said manager (Resident.Manager l.manager) refl refl in
      let board_sent : l.board.sent ≡ pt.kernel.switchboard.sent = ap (λ (v : Switchboard). v.sent) stands.mirrors.plain.board in
      let manager_sent : l.manager.sent ≡ pt.kernel.manager.sent = ap (λ (v : Manager). v.sent) stands.mirrors.plain.manager in
      let first : world.living_lines b w switchboard ≡ rule.sent_lines switchboard pt.kernel.switchboard.sent (rule.stood pt.view switchboard pt.kernel.machines) =
      board.lines ∙ sent_same board.at switchboard board.standing l.board.sent ∙ (λ i. rule.sent_lines switchboard (board_sent i) (sym board.stood i)) in
      let second : world.living_lines b w manager ≡ rule.sent_lines manager pt.kernel.manager.sent (rule.stood pt.view manager pt.kernel.machines) =
      manages.lines ∙ sent_same manages.at manager manages.standing l.manager.sent ∙ (λ i. rule.sent_lines manager (manager_sent i) (sym manages.stood i)) in
      let names : world.kept_lines b w switchboard ≡ rule.name_lines pt.addresses 0 pt.kernel.switchboard.names = board.kept (omega arith) ∙ names_said pt l stands.mirrors in
      let children : world.kept_lines b w manager ≡ rule.child_lines pt.addresses 1 pt.kernel.manager.children ++ rule.pending_lines pt.kernel.manager.pending = manages.kept (omega arith) ∙ children_said pt l stands.mirrors in
      (λ i. first i ++ second i ++ names i ++ children i)
      ∙ sym (append_assoc (rule.sent_lines switchboard pt.kernel.switchboard.sent (rule.stood pt.view switchboard pt.kernel.machines) ++ rule.sent_lines manager pt.kernel.manager.sent (rule.stood pt.view manager pt.kernel.machines) ++ rule.name_lines pt.addresses 0 pt.kernel.switchboard.names)
      (rule.child_lines pt.addresses 1 pt.kernel.manager.children) (rule.pending_lines pt.kernel.manager.pending))

-- Where the world stands, its lines at the end can be said.

map-length : {A B : Type 0} (f : A → B) (xs : List A) → length (map f xs) ≡ length xs
map-length f [] = refl
map-length f (x ∷ xs) = let h = map-length f xs in omega (arith, h)

resident_end : (l : Placed) (p : Pid) (queue : List MsgId) (r : Resident) → length l.manager.children < 4294967295 → HereStands l p queue r → IsLawfulResident r → HasPlainEnd r
resident_end l p queue (Resident.Process x) few h lawful = tt
resident_end l p queue (Resident.Board v) few h lawful = lawful
resident_end l p queue (Resident.Manager g) few h lawful = elim (who p) [
  | OfProcess off ↦
      let f : option_map Resident.Process (l.processes p) ≡ Some (Resident.Manager g) = sym (process_at l p off) ∙ h.0.1 in
      absurd (no_process (l.processes p) g f)
  | OfBoard at_board ↦ absurd (let f : Some (Resident.Board l.board) ≡ Some (Resident.Manager g) = subst (λ (q : Pid). resident_at l q ≡ Some (Resident.Manager g)) at_board h.0.1 in cc)
  | OfManager at_manager ↦
      let f : Some (Resident.Manager l.manager) ≡ Some (Resident.Manager g) = subst (λ (q : Pid). resident_at l q ≡ Some (Resident.Manager g)) at_manager h.0.1 in
      let same : l.manager ≡ g = cc in
      omega (arith, (ap (λ (v : Managing). length v.children) same), few)
]
  where
    no_process : (o : Option Process) (g : Managing) → option_map Resident.Process o ≡ Some (Resident.Manager g) → ⊥
    no_process None g e = cc
    no_process (Some x) g e = cc

known_end : (l : Placed) (p : Pid) (queue held : List MsgId) (k : Known) (o : Option machine.KernelKnown) → length l.manager.children < 4294967295 → KnownStands l p queue held k o → IfSome o IsLawfulKnown → IfSome o KnownHasPlainEnd
known_end l p queue held Here (Some (Record.Here r)) few h lawful = resident_end l p queue r few h lawful
known_end l p queue held (Frozen to) (Some (Record.Frozen d)) few h lawful = resident_end l p queue d.resident few h.here lawful.resident
known_end l p queue held k None few h lawful = tt
known_end l p queue held k (Some (Record.Incoming a)) few h lawful = tt
known_end l p queue held k (Some (Record.Forward at n)) few h lawful = tt
known_end l p queue held k o few h lawful = absurd h

-- where no pair counts more messages than it may, no count is too great
abbrev pub FewAlways : Type 0
FewAlways = (b : Boot) (es : List Step) (pt : Point) → IsValid b → Leads b (first_point b) es pt → ((a c : ℕ) → length (pt.view.pair a c).ids ≤ b.numbers) → CountsFew pt

pub end_may_by : FewAlways → EndMay
end_may_by fews b es w pt valid leads ((l, h, stands), counts) =
    let few = fews b es pt valid leads stands.counts in
    let node = λ (m : ℕ) (lt : m < length b.machines). stands.nodes m (subst (λ (n : ℕ). m < n) (sym (machines_stay b es pt valid leads)) lt) in
    let children : length l.manager.children ≡ length pt.kernel.manager.children = sym (map-length plain_child l.manager.children) ∙ ap (λ (g : Manager). length g.children) stands.mirrors.plain.manager in
    record {
      made = λ m lt. let made = (node m lt).kernel.made in let below = few.made m in omega (arith, made, below);
      servers = λ m lt p.
          known_end l p (pt.view.queue m p) (pt.view.held m p) (pt.view.known m p) ((w.nodes m).kernel.records p) (let most = few.children in omega (arith, children, most)) ((node m lt).kernel.known p) ((node m lt).lawful.records p);
    }
