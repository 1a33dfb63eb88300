-- No count is too great: each is at most what the boot file has, and one for each message that was routed.
pub mod Pairs
pub mod AtEnds
pub mod Waiting
use Rattle.dm_law_mirror.proofs.Names.{◌≡◌, inl, inr, ℕ, ◌+◌, ◌<◌, ◌≤◌, true, List, [], ◌∷◌, length, nat_le, refl, ap, ◌∙◌, sym, subst, arith, Some, nat_tests, Pid, Boot, IsValid, Step, Line, Stage, Known, ascends, IsStep, Leads, false≢true}
use Rattle.dm_law_mirror.proofs.Names.{Says, Spelled, spelled, Point, first_point, moved, group_of, at_pid, at_record, actor, view_after, GroupIs, group_is, said, says_next, both, Both, RunGoes, RunStarts, both_group, both_start, Run, Label}
use Rattle.dm_law_mirror.proofs.Names.{None, Option, Routes, answer_id, Outcome, MoveNote}
use Rattle.dm_law_always.proofs.Names.{Pending}
use Rattle.dm_law_rule.proofs.Names.{Part}
use Rattle.dm_law_rule.specs.Migrating.{tells_asker}
use Rattle.dm_law_mirror.proofs.Counts.AtEnds.{BearEnds, Ends, PutsOne, Under, bear_ends, ends, ends_before, own_puts, part_next, under_more, under_within, Bears, FrontRestarts, Pays, Restarts, Sort, SortIf, outcome_sort}
use Rattle.dm_law_mirror.proofs.Counts.Pairs.{within_group, OwnFew, PairsWithin, line_still, CountsFew, group_keeps, line_own}
use Rattle.dm_law_mirror.proofs.Counts.Waiting.{Routed, waiting_few, first_count, moves_start, under_start, MovesFew, moves_put, moves_restart, moves_still, line_routed}
use Rattle.dm_law_mirror.proofs.Machines.{few_machines, machines_group, some_machine}
use Rattle.dm_law_mirror.proofs.Raises.{sent_of}
use Rattle.dm_law_mirror.proofs.Names.{is_server}
use Rattle.dm_law_always.specs.Sizes.{AreFew, server_size}
use Rattle.dm_law_rule.proofs.Trails.Within.{head_less}
use Rattle.dm_law_always.proofs.Sizes.Always.{sizes_always}
use Rattle.dm_law_mirror.proofs.RaisesMade.{move_answered_raises}
use Rattle.dm_law_mirror.proofs.Totals.{Grows, grows_on, grows_same, line_grows, total, total_grows, total_most, total_adds}

-- what the counts of a run are below
pub record Few (n : ℕ) (pt : Point) : Type 0 where
  pub within : PairsWithin n pt.view
  pub own : OwnFew n pt.view
  pub under : Under (first_count + total pt.view n) pt.kernel
  pub moves : MovesFew n pt.view
  pub routed : Routed pt.view

-- of which a group's parts say these
record Rises (n : ℕ) (pt : Point) : Type 0 where
  under : Under (first_count + total pt.view n) pt.kernel
  moves : MovesFew n pt.view

paid_rises : (n : ℕ) (pt end : Point) → PairsWithin n end.view → Ends (first_count + total pt.view n) pt end → MovesFew n pt.view → Rises n end
paid_rises n pt end within h moves =
    record {
      under = elim h.under [
        | inl u ↦ under_more (first_count + total pt.view n) (first_count + total end.view n) end.kernel (omega (arith, total_grows pt.view end.view n h.grows)) u
        | inr u ↦
            let adds : total pt.view n + 1 ≤ total end.view n = grind (arith, nat_tests, total_adds, h.grows, u.1) in
            under_more (first_count + total pt.view n + 1) (first_count + total end.view n) end.kernel (omega (arith, adds)) u.0
      ];
      moves = moves_still n pt.view end.view h.grows h.still moves;
    }

own_rises : (n : ℕ) (pt start end : Point) → start.kernel ≡ pt.kernel → Grows pt.view start.view → start.view.moves ≡ pt.view.moves → BearEnds start end → PutsOne start.view end.view → PairsWithin n end.view → Under (first_count + total pt.view n) pt.kernel → MovesFew n pt.view → Rises n end
own_rises n pt start end kernel grows same h puts within under moves =
    let first = total_grows pt.view start.view n grows in
    let adds : total start.view n + 1 ≤ total end.view n = grind (arith, nat_tests, total_adds, h.grows) in
    record {
      under = under_more (first_count + total pt.view n) (first_count + total end.view n) end.kernel (omega (arith, first, adds)) (subst (Under (first_count + total pt.view n)) (sym (h.kernel ∙ kernel)) under);
      moves = moves_put n pt.view end.view (omega (arith, first, adds)) (h.moves ∙ same) moves;
    }

restart_rises : (b : Boot) (n m : ℕ) (pt end : Point) (p : Pid) → Run b pt → Run b end → FrontRestarts pt m p
    → ((k : ℕ) → Under k pt.kernel → Under k end.kernel) → Grows pt.view end.view → end.view.moves ≡ at_pid pt.view.moves p (pt.view.moves p + 1)
    → end.view.known ≡ at_record pt.view.known m p Known.Here
    → Under (first_count + total pt.view n) pt.kernel → MovesFew n pt.view → Rises n end
restart_rises b n m pt end p run after f kernel grows moves known under few =
    let more = total_grows pt.view end.view n grows in
    record {
      under = under_more (first_count + total pt.view n) (first_count + total end.view n) end.kernel (omega (arith, more)) (kernel (first_count + total pt.view n) under);
      moves = moves_restart b pt m n p end.view run f more moves known after.based.phased.phases few;
    }

-- behind the head
abbrev begun : Point → Step → Point
begun pt d = moved pt (Line.Head d) pt.kernel

head_moves : (pt : Point) (d : Step) → (begun pt d).view.moves ≡ pt.view.moves
head_moves pt d = (line_still pt.view (Line.Head d) refl).moves

-- whoever asked for a move is told that it has ended: no count is raised, and nothing moves
record Answered (pt end : Point) : Type 0 where
  under : (n : ℕ) → Under n pt.kernel → Under n end.kernel
  grows : Grows pt.view end.view
  moves : end.view.moves ≡ pt.view.moves
  known : end.view.known ≡ pt.view.known

answered : (asked : Option MoveNote) (pt : Point) (w : Spelled) → spelled pt (tells_asker asked Outcome.Done) ≡ Some w → Answered pt w.point
answered None pt w e = subst (Answered pt) (said pt w e) (record { under = λ n u. u; grows = grows_same pt.view pt.view refl; moves = refl; known = refl })
answered (Some note) pt w e =
    let l = Line.Label (Label.Answered note.id Outcome.Done) in
    let k = says_next pt l (Routes (answer_id note.id) ∷ []) w e in
    let r = part_next (moved pt l k.s) (Routes (answer_id note.id)) [] k.rest refl k.more in
    let a = r.after_put in
    let within = (move_answered_raises pt.kernel k.s note.id Outcome.Done k.is).within in
    subst (Answered pt) (said r.next r.rest r.on ∙ r.end ∙ k.point)
    (record { under = λ n u. subst (Under n) (sym a.kernel) (under_within n 0 n pt.kernel k.s (omega arith) within u); grows = a.grows; moves = a.still.moves; known = a.known })

-- what a machine says of a process that restarts
record Restarted (start : Point) (p : Pid) (end : Point) : Type 0 where
  under : (n : ℕ) → Under n start.kernel → Under n end.kernel
  grows : Grows start.view end.view
  moves : end.view.moves ≡ at_pid start.view.moves p (start.view.moves p + 1)
  known : end.view.known ≡ at_record start.view.known start.view.acting p Known.Here

restarted : (start : Point) (p : Pid) (asked : Option MoveNote) (ps : List Part) (w : Spelled) → ps ≡ Says (Line.Migration Stage.Restarted p) ∷ tells_asker asked Outcome.Done → spelled start ps ≡ Some w → Restarted start p w.point
restarted start p asked ps w is e =
    let l = Line.Migration Stage.Restarted p in
    let k = says_next start l (tells_asker asked Outcome.Done) w (ap (spelled start) (sym is) ∙ e) in
    let same : k.s ≡ start.kernel = (let i : Some start.kernel ≡ Some k.s = k.is in cc) in
    let a = answered asked (moved start l k.s) k.rest k.more in
    subst (Restarted start p) k.point (record {
      under = λ n u. a.under n (subst (Under n) (sym same) u);
      grows = grows_on start.view (view_after start.view l) k.rest.point.view (line_grows start.view l) a.grows;
      moves = a.moves;
      known = a.known;
    })

rises : (b : Boot) (pt : Point) (d : Step) (w : Spelled) (n : ℕ) (g : GroupIs b pt d w) → Sort pt (actor pt.view d) g.parts → Run b pt → Run b w.point → PairsWithin n w.point.view → Under (first_count + total pt.view n) pt.kernel → MovesFew n pt.view → Rises n w.point
rises b pt d w n g (Pays paid) run after within under moves =
    let start = begun pt d in
    let e = ends g.parts (first_count + total pt.view n) start g.rest g.said paid under in
    paid_rises n pt w.point within (subst (Ends (first_count + total pt.view n) pt) g.point (ends_before (first_count + total pt.view n) pt start g.rest.point (line_grows pt.view (Line.Head d)) (line_still pt.view (Line.Head d) refl) e)) moves
rises b pt d w n g (Bears all own) run after within under moves =
    let start = begun pt d in
    own_rises n pt start w.point refl (line_grows pt.view (Line.Head d)) (head_moves pt d) (subst (BearEnds start) g.point (bear_ends g.parts start g.rest g.said all)) (subst (λ (q : Point). PutsOne start.view q.view) g.point (own_puts g.parts start g.rest g.said all own)) within under moves
rises b pt d w n g (Restarts p front asked is) run after within under moves =
    let start = begun pt d in
    let r = subst (Restarted start p) g.point (restarted start p asked g.parts g.rest is g.said) in
    let head_known : (view_after pt.view (Line.Head d)).known ≡ pt.view.known = grind (arith, nat_tests) in
    restart_rises b n (actor pt.view d) pt w.point p run after front r.under (grows_on pt.view start.view w.point.view (line_grows pt.view (Line.Head d)) r.grows)
    (r.moves ∙ ap (λ (f : Pid → ℕ). at_pid f p (f p + 1)) (head_moves pt d))
    (r.known ∙ ap (λ (m : ℕ). at_record start.view.known m p Known.Here) (let e_ : (view_after pt.view (Line.Head d)).acting ≡ actor pt.view d = grind (arith, nat_tests) in e_) ∙ ap (λ f. at_record f (actor pt.view d) p Known.Here) head_known) under moves

-- a machine that there is acts
acts_within : (b : Boot) (pt : Point) (d : Step) (n : ℕ) → pt.kernel.machines ≡ n → IsStep n d → Run b pt → actor pt.view d < n
acts_within b pt d n machines fit run = head_less n pt.view d (λ m q known. subst (λ (k : ℕ). m < k) machines (run.found.known_within m q known)) fit

-- each group
few_group : (b : Boot) (pt : Point) (d : Step) (w : Spelled) (n : ℕ) → 0 < n → pt.kernel.machines ≡ n → IsStep n d → group_of b pt d ≡ Some w → Run b pt → Run b w.point → Few n pt → Few n w.point
few_group b pt d w n some machines fit is run after h =
    let g = group_is b pt d w is in
    let within = within_group b pt d w n some machines (machines_group b pt d w is ∙ machines) fit is run.based.phased.pairs (acts_within b pt d n machines fit run) after h.within in
    let r = rises b pt d w n g (subst (SortIf pt (actor pt.view d)) g.is (outcome_sort b pt d run)) run after within h.under h.moves in
    let routed_group : Routed w.point.view = group_keeps Routed (λ v a k i told. let r = k i told in record { from = r.from; to = r.to; there = r.there }) line_routed b pt d w is h.routed in
    record { within = within; own = group_keeps (OwnFew n) (λ v a k. k) (line_own n) b pt d w is h.own; under = r.under; moves = r.moves; routed = routed_group }

few_start : (b : Boot) (n : ℕ) → IsValid b → Few n (first_point b)
few_start b n valid =
    record { within = λ a c some. absurd (omega (arith, some)); own = λ within m. omega arith; under = under_start b n valid; moves = moves_start b n; routed = (λ i told. absurd (false≢true told)) }

few_on : RunGoes → (b : Boot) (es : List Step) (pt end : Point) (n : ℕ) → IsValid b → 0 < n → pt.kernel.machines ≡ n → Leads b pt es end → Both b pt → Few n pt → Few n end
few_on goes b [] pt end n valid some machines leads both h = subst (Few n) leads h
few_on goes b (d ∷ ds) pt end n valid some machines (w, fit, is, more) both h =
    let next = both_group goes b pt d w valid fit is both in
    few_on goes b ds w.point end n valid some (machines_group b pt d w is ∙ machines) more next (few_group b pt d w n some machines (subst (λ (k : ℕ). IsStep k d) machines fit) is both.run next.run h)

pub few_always : RunStarts → RunGoes → (b : Boot) (es : List Step) (pt : Point) → IsValid b → Leads b (first_point b) es pt → Few (length b.machines) pt
few_always starts goes b es pt valid leads =
    few_on goes b es (first_point b) pt (length b.machines) valid (omega (arith, some_machine b valid)) refl leads (both_start starts b valid) (few_start b (length b.machines) valid)

-- the manager's pending requests are among what it has sent
pending_few : (from : ℕ) (rs : List Pending) (to : ℕ) → ascends from rs to ≡ true → from + length rs ≤ to
pending_few from [] to e = grind (arith, nat_tests)
pending_few from (r ∷ rs) to e =
    let k = both (nat_le from r.n) (ascends (r.n + 1) rs to) e in
    let le : from ≤ r.n = (let t = k.0 in grind (arith, nat_tests)) in
    omega (arith, le, pending_few (r.n + 1) rs to k.1)

-- where no pair counts more messages than it may, no count is too great
pub counts_by : (b : Boot) (pt : Point) → IsValid b → Run b pt → Few (length b.machines) pt → ((p : Pid) → is_server p ≡ true → server_size pt.kernel p < 2147483648) → ((a c : ℕ) → length (pt.view.pair a c).ids ≤ b.numbers) → CountsFew pt
counts_by b pt valid run h sizes counts =
    let n = length b.machines in
    let under = h.under in
    let numbers = valid.most_numbers in
    let most : b.numbers ≤ 1048576 = grind (arith, nat_tests) in
    let all = total_most pt.view n (few_machines b valid) (λ a c. let k = counts a c in omega (arith, k, most)) in
    let board = under.board in
    let manager = under.manager in
    let children = under.children in
    let names = under.names in
    record {
      sent = λ p x is. let e : sent_of (pt.kernel.processes p) ≡ x.sent = ap sent_of is in let k = under.sent p in omega (arith, e, k, all);
      board = omega (arith, board, all);
      manager = omega (arith, manager, all);
      children = omega (arith, children, all);
      made = λ home. let k = under.made home in omega (arith, k, all);
      names = omega (arith, names, all);
      managed = omega (arith, children, pending_few 0 pt.kernel.manager.pending pt.kernel.manager.sent run.based.pending, manager, all);
      own = λ m. let k = h.own h.within m in omega (arith, k, all);
      moves = λ p. let k = h.moves.moves p in omega (arith, k, all);
      waiting = λ m p. let k = waiting_few b pt n run h.within h.routed m p in omega (arith, k, all);
      sizes = sizes;
    }

-- wherever the rule leads
pub counts_few : RunStarts → RunGoes → (b : Boot) (es : List Step) (pt : Point) → IsValid b → Leads b (first_point b) es pt → Run b pt → ((a c : ℕ) → length (pt.view.pair a c).ids ≤ b.numbers) → CountsFew pt
counts_few starts goes b es pt valid leads run counts =
    let most : b.numbers ≤ 1048576 = let t = valid.most_numbers in grind (arith, nat_tests) in
    let few : AreFew pt.view = λ a c. let k = counts a c in omega (arith, k, most) in
    counts_by b pt valid run (few_always starts goes b es pt valid leads) (λ p server. let k = (sizes_always b es pt p valid leads few server).1 in omega (arith, k)) counts
