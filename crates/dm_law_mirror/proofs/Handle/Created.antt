-- A kernel makes a process.
use Rattle.dm_law_mirror.proofs.Names.{◌≡◌, ◌≢◌, ℕ, ◌+◌, ◌≤◌, ◌==◌, ◌&&◌, Bool, true, false, List, [], ◌∷◌, ◌++◌, map, refl, ap, ◌∙◌, sym, subst, is_some, arith, if◌then◌else◌, slice_get, Option, None, Some, false≢true, Pid, nat_tests, pid_of}
use Rattle.dm_law_mirror.proofs.Names.{pid_eq, PlainLink, MsgId, Message, What, Record, Label, Line, PlainMessage, PlainWhat, plain_message, Process, begun_process, answer, Boot, BootImage, first_number, image_is_valid, slots_of, Alive}
use Rattle.dm_law_mirror.proofs.Names.{OneKernel, bind, answer_id, answer_to, without_message, memory_of, slots_with, pid_eq-same, Routes, Point, Room, and, taken_at, taken_by, at_record, without_front, Spot, Queue, Held, Inbox, standing}
use Rattle.dm_law_mirror.proofs.Names.{Known, after_label, is_kernels, bag_none, bag_created, has_no_queue, fresh_child, Placed, plainly, create_what, child_of, with_child, next_pid, KernelState, turned, KnownStands, ◌<◌, IsValid}
use Rattle.dm_law_mirror.proofs.Names.{manager, switchboard, plain_process, is_server, WhatFits, is_fixed, can_handle, OwnTold, Run, Mirrors, plainly_is, MadeStands, AllOwnStand, KernelStands, nat_le, times, begun, Unknown}
use Rattle.dm_law_mirror.proofs.Names.{life_sort}
use Rattle.dm_law_always.proofs.Names.{with_sent}
use Rattle.dm_law_rule.proofs.Names.{Part}
use Rattle.dm_onekernel.specs.Service as service
use Rattle.dm_onekernel.specs.Start as one
use Rattle.dm_onekernel.specs.Step as kernel
use Rattle.dm_law_rule.specs.Rule as rule
use Rattle.dm_law_places.specs.PlacedStep as placed
use Rattle.dm_kernel.specs.declared.part.Part.TheVariants as part
use Rattle.dm_kernel.specs.State as state
use Rattle.dm_law_mirror.proofs.Handle.Rows.{IsLeft, Elsewhere, Moves, after_one, kept_at, kept_behind, mirrors_one, own_back, own_kept, seen_point, standing_begun, other_than}
use Rattle.dm_law_mirror.proofs.Handle.Taking.{Taking, outcome_is, sane_of, sent_other, sent_there, turn_is, held_apart, queue_apart, eq_off, eq_self, machine_off, machine_self, map_same, pid_apart, record_off, record_others, record_self}
use Rattle.dm_law_mirror.proofs.Handle.Taking.{stands_set, took, rule_to_board, rule_to_kernel, rule_to_manager}
use Rattle.dm_law_mirror.proofs.Residents.{OfBoard, OfManager, OfProcess, here_process, not_board, not_manager, resident_same, same_manager, who}
use Rattle.dm_law_mirror.proofs.Names.{Resident, resident_at}
use Rattle.dm_law_mirror.proofs.Turning.{NoneEnds, spared, Row, Sends, has_process, is_elsewhere}
use Rattle.dm_law_mirror.proofs.Handle.Ended.{ended_row, is_ended, IsHere, here_outcome, is_here}
use Rattle.dm_law_mirror.proofs.Handle.Kills.{kill_row, no_room_row, valid_at, free_of, kernel_is, create_turn, kernel_home, child_off, user_row}
use Rattle.dm_law_mirror.proofs.Handle.Landings.{block_row, gone_row, written_row, read_row, resume_row, stop_row, write_row}
use Rattle.dm_law_mirror.proofs.Handle.Servers.{board_row, manager_row}
use Rattle.dm_law_mirror.proofs.Follow.Fronts.{front_gone, elsewhere_apart}
use Rattle.dm_law_mirror.proofs.StartRooms.{memory_blocks}
use Rattle.dm_law_mirror.proofs.Rooms.{made_homes}

-- it is made
abbrev made_point : Point → ℕ → MsgId → Pid → OneKernel → Point
made_point pt m i child next = seen_point pt m (Label.Created i child) next (after_label (begun pt m).view (Label.Created i child))

made_known : (b : Boot) (m : ℕ) (pt : Point) (l : Placed) (k : KernelState) (y : Message) (w : PlainWhat) (c : Taking b m pt l k y w) (next : Point) (on : Placed) (p : Pid) (held : List MsgId) (x : Process) (r : Option state.KernelKnown) → pt.view.known m p ≡ Known.Unknown → pt.kernel.processes p ≡ None → r ≡ Some (Record.Here (Resident.Process x)) → x.queue ≡ [] → on.processes p ≡ Some x → is_server p ≡ false
    → (known : Known) → known ≡ Known.Here → KnownStands on p (pt.view.queue m p) held known r
made_known b m pt l k y w c next on p held x r none unmade is empty there off known here =
    subst (λ (z : Known). KnownStands on p (pt.view.queue m p) held z r) (sym here)
    (subst (KnownStands on p (pt.view.queue m p) held Known.Here) (sym is)
    (here_process on p (pt.view.queue m p) x x.queue off there (ap (map on.bag) (c.run.based.lists.queue m p (ap has_no_queue none) (λ ended. (let e : None ≡ Some false = sym (ap life_sort unmade) ∙ ended in cc))) ∙ ap (map Some) (sym empty))))

pub created_row : (b : Boot) (m : ℕ) (pt : Point) (l : Placed) (k : KernelState) (y : Message) (image : ℕ) (ls : List PlainLink) (g : BootImage) → Taking b m pt l k y (PlainWhat.Create image ls) → (y.to.pid.num == 0) ≡ true → slice_get b.images image ≡ Some g
    → rule.has_room (rule.free_room b pt m) g.blocks ≡ true → image_is_valid g ≡ true → Row b m pt l k
created_row b m pt l k y image ls g c num found some valid =
    let unknown_left : (pt : Point) (m : ℕ) (p q : Pid) → ((n : ℕ) → pt.view.known n p ≡ Unknown) → IsLeft m pt q → pid_eq p q ≡ false = λ pt m p q h is. other_than p q (λ e. grind (arith, nat_tests)) in
    let s = pt.kernel in
    let p = y.to.pid in
    let v = (begun pt m).view in
    let x = plainly y (PlainWhat.Create image ls) in
    let k0 = record k { inbox = c.rest } in
    let child = pid_of m (first_number + s.made m) in
    let e = Label.Created y.id child in
    let w = create_what y.what image ls c.says in
    let links = w.links.items in
    let z = child_of b child g links in
    let first = one.begun s.format g ls in
    let free = free_of k.room (slice_get b.machines m) (taken_at pt m s.machines) c.stands.room in
    let a = answer m 0 y (What.Created child) in
    let u = service.with_created (without_message s y.id) child g ls in
    let next = with_sent u (Some (answer_to x (PlainWhat.Created child))) in
    let there : slice_get s.images image ≡ Some g = ap (λ (gs : List BootImage). slice_get gs image) c.run.based.images ∙ found in
    let on = placed.with_sent (placed.with_child (placed.without_message l y.id) s.format child g links) (Some a) in
    let home = kernel_home b m pt l k y (PlainWhat.Create image ls) c num in
    let named : pid_eq child (pid_of p.home (first_number + s.made p.home)) ≡ true = ap (λ (n : ℕ). pid_eq child (pid_of n (first_number + s.made n))) home ∙ pid_eq-same child in
    let step : kernel.step s e ≡ Some next = grind (arith, nat_tests, kernel_is, y.id, c.front.there, p.home, s.made, c.below) in
    let seen = sane_of b m pt l k y (PlainWhat.Create image ls) c in
    let bag = bag_created seen.r seen.e s next y.id child step seen.sound in
    let fresh : (n : Message) → Some a ≡ Some n → s.bag n.id ≡ None =
    λ n is. (let same : a ≡ n = cc in ap (λ (q : Message). s.bag q.id) (sym same) ∙ bag_none seen.r seen.e s (answer_id y.id) (bag.fresh (answer_id y.id) refl) seen.sound.entered) in
    let none = fresh_child seen.r seen.e s child m refl seen.sound in
    let unknown : (n : ℕ) → pt.view.known n child ≡ Known.Unknown = c.run.based.phased.ground.lives.none child none (omega arith) in
    let left : (q : Pid) → IsLeft m pt q → pid_eq child q ≡ false = λ q is. unknown_left pt m child q unknown is in
    let off = child_off m (s.made m) in
    let goal = made_point pt m y.id child next in
    let placed_is : placed.placed_step m s.format s.images l e ≡ Some on =
    ap (λ (o : Option Message). bind o (λ (n : Message). placed.creates m s.format s.images (placed.without_message l y.id) n child n.what)) c.there
    ∙ ap (placed.creates m s.format s.images (placed.without_message l y.id) y child) w.is
    ∙ ap (λ (o : Option BootImage). bind o (λ (i : BootImage). Some (placed.with_sent (placed.with_child (placed.without_message l y.id) s.format child i links) (Some a)))) there in
    let name : next_pid k0 ≡ child = (λ i. pid_of (c.stands.here i) (first_number + c.stands.made i)) in
    let here : at_record pt.view.known m child Known.Here m child ≡ Known.Here = record_self pt.view.known m child Known.Here (pid_eq-same child) in
    let lives : next.processes child ≡ Some (Alive first) = ap (λ (d : Bool). if d then Some (Alive first) else s.processes child) (pid_eq-same child) in
    let stands_there : on.processes child ≡ Some z = grind (arith, nat_tests, pid_eq-same, s.format, l.processes, c.run.based.format) in
    let bag_is : (j : MsgId) → on.bag j ≡ (placed.with_sent (placed.without_message l y.id) (Some a)).bag j = λ j. refl in
    let mirrors = mirrors_one pt m e next (after_label v e) l on step refl (c.run.based.unmoved child off none) placed_is c.mirrors in
    let a_plain : (n : Message) → Some a ≡ Some n → is_some (plain_message n) ≡ true = λ n is. (let same : a ≡ n = cc in ap (λ (q : Message). is_some (plain_message q)) (sym same)) in
    let a_there : on.bag a.id ≡ Some a = sent_there (placed.with_child (placed.without_message l y.id) s.format child g links) a in
    let other : (n : Message) → Some a ≡ Some n → is_kernels n.id ≡ false =
    λ n is. (let same : a ≡ n = cc in ap (λ (q : Message). is_kernels q.id) (sym same) ∙ sent_other pt e next on a step mirrors.plain a_there refl seen) in
    let both : (n : Message) → Some a ≡ Some n → (s.bag n.id ≡ None) × (is_kernels n.id ≡ false) = λ n is. (fresh n is, other n is) in
    let kept : (q : Spot) (j : MsgId) → q ≢ Inbox m → 1 ≤ standing pt.view j q → on.bag j ≡ l.bag j = kept_at b m pt l k y (PlainWhat.Create image ls) c on (Some a) bag_is both in
    let takes : taken_by goal m child ≡ record { slots = 1; blocks = g.blocks } = grind (arith, nat_tests, memory_blocks, ap kernel.alive lives) in
    let others : (q : Pid) → q ≢ child → taken_by goal m q ≡ taken_by pt m q =
    grind (arith, nat_tests, pid_apart, record_others, pt.view.known, s.processes) in
    let others_placed : (q : Pid) → pid_eq child q ≡ false → on.processes q ≡ l.processes q = λ q o. ap (λ (d : Bool). if d then Some (begun_process child (memory_of g) (slots_with (slots_of s.format) links)) else l.processes q) o in
    let stays_resident : (q : Pid) → pid_eq child q ≡ false → resident_at on q ≡ resident_at l q = λ q o. resident_same l on q (others_placed q o) refl refl in
    let others_live : (q : Pid) → pid_eq child q ≡ false → next.processes q ≡ s.processes q = λ q o. ap (λ (d : Bool). if d then Some (Alive first) else s.processes q) o in
    let made_here : next.made m ≡ s.made m + 1 = ap (λ (d : Bool). s.made m + (if d then 1 else 0)) (eq_self m) in
    let made_off : (n : ℕ) → n ≢ m → next.made n ≡ s.made n = λ n apart. (let o = eq_off m n apart in ap (λ (d : Bool). s.made n + (if d then 1 else 0)) o ∙ (let f : s.made n + 0 ≡ s.made n = omega arith in f)) in
    -- a process is made, the next of its home
    let taken_made : (pt next : Point) (m home : ℕ) → next.kernel.machines ≡ pt.kernel.machines → home < pt.kernel.machines
    → next.kernel.made home ≡ pt.kernel.made home + 1 → ((h : ℕ) → h ≢ home → next.kernel.made h ≡ pt.kernel.made h)
    → ((q : Pid) → q ≢ pid_of home (first_number + pt.kernel.made home) → taken_by next m q ≡ taken_by pt m q)
    → taken_at next m next.kernel.machines ≡ and (taken_at pt m pt.kernel.machines) (taken_by next m (pid_of home (first_number + pt.kernel.made home))) =
    λ pt next m home machines within one made others. ap (taken_at next m) machines ∙ made_homes pt next m home pt.kernel.machines within one made others in
    let all = taken_made pt goal m m refl c.below made_here made_off others ∙ ap (and (taken_at pt m s.machines)) takes in
    let sets : (q : Pid) → pid_eq child q ≡ false → (with_child k0 child z g.blocks).records q ≡ k.records q = λ q off. ap (λ (c : Bool). if c then Some (Record.Here (Resident.Process z)) else k.records q) off in
    let queues : (q : Pid) (j : MsgId) → pid_eq child q ≡ false → 1 ≤ times j (pt.view.queue m q) → on.bag j ≡ l.bag j = λ q j o least. kept (Queue m q) j (queue_apart m m q) least in
    let holds : (q : Pid) (j : MsgId) → pid_eq child q ≡ false → 1 ≤ times j (pt.view.held m q) → on.bag j ≡ l.bag j = λ q j o least. kept (Held m q) j (held_apart m m q) least in
    let mine : KnownStands on child (goal.view.queue m child) (goal.view.held m child) (goal.view.known m child) ((with_child k0 child z g.blocks).records child) =
    made_known b m pt l k y (PlainWhat.Create image ls) c goal on child (goal.view.held m child) z ((with_child k0 child z g.blocks).records child) (unknown m) none
    (ap (λ (c : Bool). if c then Some (Record.Here (Resident.Process z)) else k.records child) (pid_eq-same child)) refl stands_there off (goal.view.known m child) here in
    record {
      state = with_child k0 child z g.blocks;
      says = Line.Label e ∷ [];
      route = Sends (Some a);
      turn = turn_is b m pt l k y (PlainWhat.Create image ls) c (turned (with_child k0 child z g.blocks) (state.says e ∷ part.Routes a ∷ []))
          (create_turn b k0 y image w.links g true num w.is found ((λ i. nat_le 1 (free.0 i) && nat_le g.blocks (free.1 i)) ∙ some)
          ∙ (λ i. turned (with_child k0 (name i) (child_of b (name i) g links) g.blocks) (state.says (Label.Created y.id (name i)) ∷ part.Routes (answer (c.stands.here i) 0 y (What.Created (name i))) ∷ [])));
      outcome = outcome_is b m pt l k y (PlainWhat.Create image ls) c (Some (rule.says e ∷ Routes (answer_id y.id) ∷ [])) (grind (arith, nat_tests, rule_to_kernel));
      next = goal;
      after = after_one pt m e next (after_label v e) step refl;
      placed = on;
      mirrors = mirrors;
      kernel = stands_set b pt goal l on m k (with_child k0 child z g.blocks) child
          (search (sets, record_others, stays_resident, same_manager l on refl, queues, holds, mine)) c.stands
          (ap (λ (ps : List Pid). ps ++ child ∷ []) c.stands.ring ∙ sym (machine_self pt.view.ring m (pt.view.ring m ++ child ∷ [])))
          (ap (map on.bag) (machine_self pt.view.inbox m (without_front y.id (pt.view.inbox m)) ∙ front_gone y.id c.ids (pt.view.inbox m) c.box)
          ∙ map_same l.bag on.bag c.ids (kept_behind b m pt l k y (PlainWhat.Create image ls) c on (Some a) bag_is both) ∙ c.others)
          (ap (λ (n : ℕ). n + 1) c.stands.made ∙ sym made_here)
          (record {
            slots = c.stands.room.slots;
            blocks = c.stands.room.blocks;
            taken_slots = ap (λ (n : ℕ). n + 1) c.stands.room.taken_slots ∙ ap (λ (r : Room). r.slots) (sym all);
            taken_blocks = ap (λ (n : ℕ). n + g.blocks) c.stands.room.taken_blocks ∙ ap (λ (r : Room). r.blocks) (sym all);
          }) c.stands.preds;
      elsewhere = search (
        machine_off,
        record_off,
        same_manager l on refl,
        λ (n : ℕ) (q : Pid) (o : n ≢ m) (has : has_process (pt.view.known n q) ≡ true). stays_resident q (left q (Elsewhere n o has)),
        λ (n : ℕ) (q : Pid) (o : n ≢ m) (has : has_process (pt.view.known n q) ≡ true). others_live q (left q (Elsewhere n o has)),
        λ (i : MsgId) (q : Spot) (is : is_elsewhere m q ≡ true) (least : 1 ≤ standing (begun pt m).view i q). kept q i (elsewhere_apart m q is) (subst (λ (n : ℕ). 1 ≤ n) (standing_begun pt m i q) least),
      );
      sent = (a_there, refl);
      still = refl;
      over = NoneEnds refl (spared s next child others_live (ap kernel.why_ended lives ∙ sym (ap kernel.why_ended none)));
      count = refl;
      moving = λ q is. let o = left q (Moves is) in (stays_resident q o, ap (λ (d : Bool). if d then Some (Record.Here (Resident.Process z)) else k.records q) o, refl);
      own = own_kept b m pt l k y (PlainWhat.Create image ls) c on (Some a) bag_is other;
      own_back = own_back l on y.id (Some a) bag_is a_plain;
    }

-- by the image and the room that there are
abbrev room_for : Room → Option BootImage → Bool
room_for r None = false
room_for r (Some g) = rule.has_room r g.blocks

asks_row : (b : Boot) (m : ℕ) (pt : Point) (l : Placed) (k : KernelState) (y : Message) (image : ℕ) (ls : List PlainLink) (ps : List Part) (o : Option BootImage) (d : Bool) → Taking b m pt l k y (PlainWhat.Create image ls) → (y.to.pid.num == 0) ≡ true → slice_get b.images image ≡ o
    → room_for (rule.free_room b pt m) o ≡ d → rule.creation_parts pt m y.id (rule.free_room b pt m) o ≡ Some ps → Row b m pt l k
asks_row b m pt l k y image ls ps None d c num found room goes = absurd (let f : None ≡ Some ps = goes in cc)
asks_row b m pt l k y image ls ps (Some g) true c num found room goes = created_row b m pt l k y image ls g c num found room (valid_at b.images image g found c.valid.images)
asks_row b m pt l k y image ls ps (Some g) false c num found room goes = no_room_row b m pt l k y image ls g c num found room

-- a row for the kernel
pub kernel_row : (b : Boot) (m : ℕ) (pt : Point) (l : Placed) (k : KernelState) (y : Message) (w : PlainWhat) (ps : List Part) → Taking b m pt l k y w → (y.to.pid.num == 0) ≡ true → rule.kernel_handles b pt m y.id w ≡ Some ps → Row b m pt l k
kernel_row b m pt l k y (PlainWhat.Create image ls) ps c num goes = asks_row b m pt l k y image ls ps (slice_get b.images image) (room_for (rule.free_room b pt m) (slice_get b.images image)) c num refl refl goes
kernel_row b m pt l k y w ps c num goes = absurd (let f : None ≡ Some ps = goes in cc)

-- A message of the bag at the inbox's front, for a kernel, for a process or a server that is here, or for a process that has ended.

-- whom the message is for
pub data BagFor (m : ℕ) (pt : Point) (p : Pid) (w : PlainWhat) : Type 0 where
  ForFixed : (fixed : is_fixed p ≡ true) → BagFor m pt p w
  -- a server, or a process that isn't asked to move
  ForHere : (here : pt.view.known m p ≡ Known.Here) → (stays : (machine : ℕ) → w ≡ PlainWhat.Move machine → ⊥) → BagFor m pt p w
  -- one that has ended
  ForUnknown : (unknown : pt.view.known m p ≡ Known.Unknown) → BagFor m pt p w

-- the receiver is here, a row a kind
here_row : (b : Boot) (m : ℕ) (pt : Point) (l : Placed) (k : KernelState) (y : Message) (w : PlainWhat) (ps : List Part) (c : Taking b m pt l k y w) (h : IsHere b m pt l k y.to.pid)
    → ((machine : ℕ) → w ≡ PlainWhat.Move machine → ⊥) → WhatFits pt.kernel y.id (plainly y w) w → rule.here_handles pt m y.id (plainly y w) (plain_process h.x) w ≡ Some ps → Row b m pt l k
here_row b m pt l k y (PlainWhat.User code channel bytes ls) ps c h stays fits goes = user_row b m pt l k y code channel bytes ls c h
here_row b m pt l k y PlainWhat.Stop ps c h stays fits goes = stop_row b m pt l k y c h
here_row b m pt l k y PlainWhat.Resume ps c h stays fits goes = resume_row b m pt l k y c h
here_row b m pt l k y PlainWhat.Kill ps c h stays fits goes = kill_row b m pt l k y c h
here_row b m pt l k y (PlainWhat.Read base len) ps c h stays fits goes = read_row b m pt l k y base len c h fits
here_row b m pt l k y (PlainWhat.Write base bytes) ps c h stays fits goes = write_row b m pt l k y base bytes c h fits
here_row b m pt l k y (PlainWhat.Block bytes) ps c h stays fits goes = block_row b m pt l k y bytes ps c h goes
here_row b m pt l k y PlainWhat.Written ps c h stays fits goes = written_row b m pt l k y ps c h goes
here_row b m pt l k y PlainWhat.Gone ps c h stays fits goes = gone_row b m pt l k y ps c h goes
here_row b m pt l k y (PlainWhat.Move machine) ps c h stays fits goes = absurd (stays machine refl)
here_row b m pt l k y _ ps c h stays fits goes = absurd (let f : None ≡ Some ps = goes in cc)

-- a process or a server that is here
present_row : (b : Boot) (m : ℕ) (pt : Point) (l : Placed) (k : KernelState) (y : Message) (w : PlainWhat) (ps : List Part) (c : Taking b m pt l k y w) → (y.to.pid.num == 0) ≡ false → pt.view.known m y.to.pid ≡ Known.Here → ((machine : ℕ) → w ≡ PlainWhat.Move machine → ⊥)
    → WhatFits pt.kernel y.id (plainly y w) w → rule.handles b pt m y.id (plainly y w) ≡ Some ps → Row b m pt l k
present_row b m pt l k y w ps c num here stays fits goes =
    let p = y.to.pid in
    elim (who p) [
      | OfProcess off ↦
          let h = is_here b m pt l k y w c (record { number = num; no_board = not_board p off; no_manager = not_manager p off }) here in
          here_row b m pt l k y w ps c h stays fits (sym (here_outcome b m pt l k y w h (rule.here_handles pt m y.id (plainly y w) (plain_process h.x) w) refl) ∙ goes)
      | OfBoard to ↦ board_row b m pt l k y w ps c here to (sym (rule_to_board b pt m y.id (plainly y w) num here (ap (λ (q : Pid). pid_eq q switchboard) to)) ∙ goes)
      | OfManager to ↦
          manager_row b m pt l k y w ps c here to fits (sym (rule_to_manager b pt m y.id (plainly y w) num here (ap (λ (q : Pid). pid_eq q switchboard) to) (ap (λ (q : Pid). pid_eq q manager) to)) ∙ goes)
    ]

-- or one that has ended
loose_row : (b : Boot) (m : ℕ) (pt : Point) (l : Placed) (k : KernelState) (y : Message) (w : PlainWhat) (ps : List Part) (c : Taking b m pt l k y w) → (y.to.pid.num == 0) ≡ false → BagFor m pt y.to.pid w → WhatFits pt.kernel y.id (plainly y w) w
    → rule.handles b pt m y.id (plainly y w) ≡ Some ps → Row b m pt l k
loose_row b m pt l k y w ps c num (ForFixed fixed) fits goes = absurd (false≢true (sym num ∙ fixed))
loose_row b m pt l k y w ps c num (ForHere here stays) fits goes = present_row b m pt l k y w ps c num here stays fits goes
loose_row b m pt l k y w ps c num (ForUnknown unknown) fits goes = ended_row b m pt l k y w c (is_ended b m pt l k y w c num unknown fits) fits

-- a kernel, or a server or a process
row_by : (b : Boot) (m : ℕ) (pt : Point) (l : Placed) (k : KernelState) (y : Message) (w : PlainWhat) (ps : List Part) (d : Bool) (c : Taking b m pt l k y w) → (y.to.pid.num == 0) ≡ d → BagFor m pt y.to.pid w → WhatFits pt.kernel y.id (plainly y w) w
    → rule.handles b pt m y.id (plainly y w) ≡ Some ps → Row b m pt l k
row_by b m pt l k y w ps true c num whom fits goes = kernel_row b m pt l k y w ps c num (sym (rule_to_kernel b pt m y.id (plainly y w) num) ∙ goes)
row_by b m pt l k y w ps false c num whom fits goes = loose_row b m pt l k y w ps c num whom fits goes

pub taking_row : (b : Boot) (m : ℕ) (pt : Point) (l : Placed) (k : KernelState) (y : Message) (w : PlainWhat) → Taking b m pt l k y w → BagFor m pt y.to.pid w → Row b m pt l k
taking_row b m pt l k y w c whom =
    let x = plainly y w in
    let can = can_handle b m pt y.id x c.front c.told in
    let goes : rule.handles b pt m y.id x ≡ Some can.ps = sym (ap (rule.comes_to b pt m y.id) c.front.there) ∙ can.is in
    row_by b m pt l k y w can.ps (y.to.pid.num == 0) c refl whom (c.run.based.fits.messages y.id x c.front.there) goes

-- the machine's kernel handles the message of the bag that the lines say is at the front, as the rule says
pub bag_row : (b : Boot) (m : ℕ) (pt : Point) (l : Placed) (k : KernelState) (i : MsgId) (is : List MsgId) (x : PlainMessage) → IsValid b → m < pt.kernel.machines → Run b pt → OwnTold pt → MadeStands pt.kernel → Mirrors pt.kernel pt.view pt.addresses l → KernelStands b pt l m k → AllOwnStand pt.view l
    → pt.view.inbox m ≡ i ∷ is → pt.kernel.bag i ≡ Some x → BagFor m pt x.to x.what → Row b m pt l k
bag_row b m pt l k i is x valid below run told made mirrors stands own box there whom =
    let t = took b m pt l k i is x valid below run told made mirrors stands own box there in
    let to : x.to ≡ t.message.to.pid = ap (λ (z : PlainMessage). z.to) (plainly_is t.message x t.plain) in
    taking_row b m pt l k t.message x.what t.taking (subst (λ (p : Pid). BagFor m pt p x.what) to whom)
