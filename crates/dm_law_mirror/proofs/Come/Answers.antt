-- A machine is asked to take a process: there is room for it, or what is free is said.
use Rattle.dm_law_mirror.proofs.Names.{◌≡◌, ◌≢◌, ℕ, ◌+◌, ◌/◌, ◌<◌, ◌==◌, ◌&&◌, Bool, true, false, nat_le, List, [], length, map, refl, ap, ◌∙◌, sym, subst, arith, if◌then◌else◌, slice_get, Option, Some, false≢true, All-nil, Pid, pid_eq, after}
use Rattle.dm_law_mirror.proofs.Names.{Message, MsgId, What, Record, Line, Stage, MessageKind, kind_of, IsLawfulMessage, Process, free_blocks, free_slots, incoming_of, Chunk, expected, CanMove, HasChunk, state_of, coming, Boot}
use Rattle.dm_law_mirror.proofs.Names.{slots_of, plain_process, pid_eq-same, told_step, Moves, kind_comes, knows, kind_leaves, Point, Room, fits, free_room, taken_at, taken_by, at_pid, at_record, Known, Unknown, Frozen, ◌∷◌}
use Rattle.dm_law_mirror.proofs.Names.{Incoming, Forward, front_of, is_server, has_nothing_held, Placed, accepts, with_expected, kernel_handles, KernelState, KnownStands, KernelStands, RoomStands, AllRecords, Carries, source_knows}
use Rattle.dm_law_mirror.proofs.Names.{and_false, tells_onward, nat_tests, sort_of, drop, IsReadAgain, Cargo, CanBeCarried, ask_for, IsSuch, ◌⊎◌, ◌≤◌, Of, Spot, Told, View, apart_is, cases_Bool, eqb-true, inl, inr, is_between, pid_of, standing}
use Rattle.dm_law_mirror.proofs.Names.{told_of, is_due_piece, pulls_piece, Asks, Brought, IsLeft, is_calloff, ranked_in, never_behind, Ranked, added, PredsStand}
use Rattle.dm_room.specs.Room as room_
use Rattle.dm_onekernel.specs.Step as kernel
use Rattle.dm_law_rule.specs.Migrating as rule_moves
use Rattle.dm_law_rule.specs.Rule as rule
use Rattle.dm_kernel.specs.State as machine
use Rattle.dm_law_mirror.proofs.Come.Frames.{Arrives, Comes, arrives}
use Rattle.dm_law_mirror.proofs.Come.Pieces.{room_kept, comes_known, first_gone, outcome_kernel, turn_kernel, turns_memory, turns_state}
use Rattle.dm_law_mirror.proofs.Come.Turns.{come_point, come_view, eq_off, eq_self, turns_answer}
use Rattle.dm_law_mirror.proofs.Recorded.{recorded}
use Rattle.dm_law_mirror.proofs.Rooms.{taken_changed}
use Rattle.dm_law_mirror.proofs.Turning.{TurnsAt, begun}
use Rattle.dm_law_mirror.proofs.Handle.Taking.{pid_apart as pid_off, some_same}
use Rattle.dm_law_mirror.proofs.Come.Restarts.{turns_restart}
use Rattle.dm_law_mirror.proofs.Handle.Kills.{free_of as free_as}
use Rattle.dm_law_mirror.proofs.LeftOver.{brings_on, piece_only, piece_over}
use Rattle.dm_law_mirror.proofs.Preds.{added_stand}
use Rattle.dm_migrate.specs.Rooms.{has_room_for, room_with}
use Rattle.dm_resident.specs.Lawful.{IsLawfulResident}
use Rattle.dm_resident.specs.Residents as residents
use Rattle.dm_law_mirror.proofs.Residents.{OfBoard, OfManager, OfProcess, cargo_queue, lawful_blocks, process_there, server_apart, who}
use Rattle.dm_law_mirror.proofs.Rooms.{taken_but_servers}
use Rattle.dm_law_mirror.proofs.Sized.{size_at, size_blocks}
use Rattle.dm_law_mirror.proofs.Leave.Goes.{life_some}
use Rattle.dm_law_mirror.proofs.Names.{Addresses, IsOfSystem, MadeStands, MirrorsKernel, Resident, option_map, resident_at, ◌||◌}

-- the machine that it leaves holds it back
frozen_is : (d : ℕ) (n : Known) → kind_leaves MessageKind.Ask d n ≡ true → (to : ℕ) × (n ≡ Frozen to)
frozen_is d n e = grind (arith, nat_tests)

frozen_unknown : (to : ℕ) → Frozen to ≢ Unknown
frozen_unknown to e = cc

-- whatever waits for it
pub without_queue : (r : Resident) → CanMove r → CanMove (residents.with_queue [] r)
unfolding IsReadAgain
without_queue (Resident.Process x) h = record {
  lawful = (let g = h.lawful in record { home = g.home; registers = g.registers; size = g.size; links = g.links; slots = g.slots; status = g.status; queue = All-nil IsLawfulMessage });
  moves = h.moves;
  again = h.again;
  some = h.some;
  most = h.most;
}
without_queue (Resident.Board v) h = h
without_queue (Resident.Manager g) h = h

queue_twice : (q : List Message) (r : Resident) → residents.with_queue [] (residents.with_queue q r) ≡ residents.with_queue [] r
queue_twice q (Resident.Process x) = refl
queue_twice q (Resident.Board v) = refl
queue_twice q (Resident.Manager g) = refl

-- it is of the system that the manager knows
of_system : (b : Boot) (l : Placed) (p : Pid) (r : Resident) → ((x : Process) → l.processes p ≡ Some x → length x.table ≡ slots_of b.format) → resident_at l p ≡ Some r → IsOfSystem (slots_of b.format) l.manager.machines l.manager.images r
of_system b l p r tables e = elim (who p) [
  | OfProcess off ↦ (let (x, is, there) = process_there l p r off e in subst (IsOfSystem (slots_of b.format) l.manager.machines l.manager.images) (sym is) (sym (tables x there)))
  | OfBoard at_board ↦
      let f : Resident.Board l.board ≡ r = let g : Some (Resident.Board l.board) ≡ Some r = subst (λ (q : Pid). resident_at l q ≡ Some r) at_board e in cc in
      subst (IsOfSystem (slots_of b.format) l.manager.machines l.manager.images) f tt
  | OfManager at_manager ↦
      let f : Resident.Manager l.manager ≡ r = let g : Some (Resident.Manager l.manager) ≡ Some r = subst (λ (q : Pid). resident_at l q ≡ Some r) at_manager e in cc in
      subst (IsOfSystem (slots_of b.format) l.manager.machines l.manager.images) f (refl, refl)
]

leaves_where : (b : Boot) (m : ℕ) (pt : Point) (l : Placed) (k : KernelState) (y : Message) (p : Pid) (a : Arrives b m pt l k y p) → kind_of y.what ≡ MessageKind.Ask → (to : ℕ) × (pt.view.known a.source p ≡ Frozen to)
leaves_where b m pt l k y p a is =
    frozen_is m (pt.view.known a.source p)
    (source_knows MessageKind.Ask a.source m (Some y.id) (pt.view.known a.source p) (subst (λ (j : MessageKind). knows (Moves j a.source m (Some y.id)) a.source (pt.view.known a.source p) ≡ true) is (a.phase.known a.source)))

can_by : (b : Boot) (pt : Point) (l : Placed) (s to : ℕ) (z : KernelState) (p : Pid) (r : Resident) → pt.view.known s p ≡ Frozen to → KernelStands b pt l s z → resident_at l p ≡ Some r → CanMove (residents.with_queue [] r)
can_by b pt l s to z p r frozen stands there =
    let (d, is, leaves) = recorded b pt l s z p (Frozen to) stands frozen in
    let q = leaves.here.0.0 in
    let same : residents.with_queue q d.resident ≡ r = some_same (residents.with_queue q d.resident) r (sym leaves.here.0.1 ∙ there) in
    subst CanMove (sym (queue_twice q d.resident) ∙ ap (residents.with_queue []) same) (without_queue d.resident leaves.whole)

pub can_come : (b : Boot) (m : ℕ) (pt : Point) (l : Placed) (records : AllRecords) (k : KernelState) (y : Message) (p : Pid) → Comes b m pt l records k y p → (a : Arrives b m pt l k y p) → kind_of y.what ≡ MessageKind.Ask
    → ((n : ℕ) → n < pt.kernel.machines → (z : KernelState) × KernelStands b pt l n z) → CanMove (residents.with_queue [] a.resident)
can_come b m pt l records k y p c a is nodes =
    let (to, frozen) = leaves_where b m pt l k y p a is in
    let (z, stands) = nodes a.source (c.run.found.known_within a.source p (λ e. frozen_unknown to (sym frozen ∙ e))) in
    can_by b pt l a.source to z p a.resident frozen stands a.is_resident

-- nothing of it is here
record Absent (n : Known) : Type 0 where
  held : has_nothing_held n ≡ true
  room : rule.takes_room n ≡ 0

absent : (s : ℕ) (n : Known) → kind_comes MessageKind.Ask s n ≡ true → Absent n
absent s Unknown e = record { held = refl; room = refl }
absent s (Forward at_ moves) e = record { held = refl; room = refl }
absent s _ e = absurd (false≢true e)

-- there is no room for it
lacks_row : (b : Boot) (m : ℕ) (pt : Point) (l : Placed) (records : AllRecords) (k : KernelState) (y : Message) (p : Pid) (c : Comes b m pt l records k y p) (a : Arrives b m pt l k y p) → kind_of y.what ≡ MessageKind.Ask
    → kernel_handles b (record k { inbox = c.rest }) y y.what ≡ accepts b (record k { inbox = c.rest }) y p (residents.blocks_of a.resident) (residents.moves_of a.resident) (length (state_of a.resident)) (l.notes p) false
    → (rule.fits (free_room b pt m) (residents.blocks_of a.resident)).0 ≡ false → TurnsAt b m pt l records k
lacks_row b m pt l records k y p c a is handles none =
    let s = record k { inbox = c.rest } in
    let v = pt.view in
    let r = free_room b pt m in
    let free = free_as k.room (slice_get b.machines m) (taken_at pt m pt.kernel.machines) c.stands.room in
    let box = drop 1 (v.inbox m) in
    let next = come_point pt (come_view v m p box v.known v.asked v.come v.preds) in
    let over : (i : MsgId) (t : Told) (z : Spot) → v.told i ≡ Some t → is_between t.kind ≡ true → t.about ≡ Of p → 1 ≤ standing v i z → is_due_piece v p i t ≡ false → is_due_piece (come_view v m p box v.known v.asked v.come v.preds) p i t ≡ false =
    λ i t z told between about st off. off in
    turns_answer b m pt l records k y p c a (search (
      over,
      c.stands.preds,
      turn_kernel b m pt l records k y p c a (accepts b s y p (residents.blocks_of a.resident) (residents.moves_of a.resident) (length (state_of a.resident)) (l.notes p) false) handles,
      outcome_kernel b m pt l records k y p c a _ (ap (λ (k : MessageKind). told_step pt m y.id p (fits r (size_at a.resident).blocks) (size_at a.resident) (sort_of k)) is
          ∙ ap (λ (n : ℕ). Some (rule_moves.accepts y.id.from.home p (fits r n).0 r.slots r.blocks)) (size_blocks a.resident) ∙ ap (λ (d : Bool). Some (rule_moves.accepts y.id.from.home p d r.slots r.blocks)) none ∙ (λ i. Some (rule_moves.accepts y.id.from.home p false (sym free.0 i) (sym free.1 i)))),
      Line.Lacks p (free_slots k.room) (free_blocks k.room) ∷ [],
      (let e_ : after (begun pt m) (Line.Lacks p (free_slots k.room) (free_blocks k.room) ∷ []) ≡ Some (come_point pt (come_view pt.view m p (drop 1 (pt.view.inbox m)) pt.view.known pt.view.asked pt.view.come pt.view.preds)) = refl in e_),
      first_gone y.id c.ids (v.inbox m) c.box,
      room_kept b pt m p box v.asked v.come l records k y c,
      c.stands.known p,
    ))

-- there is
record_self : (f : ℕ → Pid → Known) (m : ℕ) (p : Pid) (x : Known) → at_record f m p x m p ≡ x
record_self f m p x = ap (λ (d : Bool). if d && pid_eq p p then x else f m p) (eq_self m) ∙ ap (λ (d : Bool). if d then x else f m p) (pid_eq-same p)

record_off : (f : ℕ → Pid → Known) (m n : ℕ) (p q : Pid) (x : Known) → pid_eq p q ≡ false → at_record f m p x n q ≡ f n q
record_off f m n p q x off = ap (λ (d : Bool). if d then x else f n q) (and_false (m == n) (pid_eq p q) off)

-- what it takes here then: a process a slot and its blocks, a server nothing
room_come : (pt : Point) (w : View) (a : Addresses) (m : ℕ) (p : Pid) (l : Placed) (r : Resident) (t given : room_.Taken) → resident_at l p ≡ Some r → IsLawfulResident (residents.with_queue [] r) → MadeStands pt.kernel → MirrorsKernel pt.kernel l
    → rule.takes_room (pt.view.known m p) ≡ 0 → rule.takes_room (w.known m p) ≡ 1 → ((q : Pid) → pid_eq p q ≡ false → w.known m q ≡ pt.view.known m q)
    → RoomStands t given (taken_at pt m pt.kernel.machines) → RoomStands (room_with t (residents.blocks_of r)) given (taken_at (record { kernel = pt.kernel; view = w; addresses = a }) m pt.kernel.machines)
room_come pt w a m p l r t given there lawful made h none one others room =
    let end : Point = record { kernel = pt.kernel; view = w; addresses = a } in
    let same : (q : Pid) → pid_eq p q ≡ false → taken_by end m q ≡ taken_by pt m q = λ q off. ap (λ (n : Known). takes_as n (rule.blocks_of (kernel.alive (pt.kernel.processes q)))) (others q off) in
    let server : (x : Resident) → is_server p ≡ true → residents.blocks_of x ≡ 0 → Some x ≡ Some r → RoomStands (room_with t (residents.blocks_of r)) given (taken_at end m pt.kernel.machines) =
    λ x on zero_ is. subst (λ (n : ℕ). RoomStands (room_with t n) given (taken_at end m pt.kernel.machines)) (sym zero_ ∙ ap residents.blocks_of (some_same x r is))
    (subst (RoomStands t given) (sym (taken_but_servers pt end m refl (λ n. refl) (λ q off. same q (server_apart p q on off)))) room) in
    elim (who p) [
      | OfProcess off ↦
          let (x, is, found) = process_there l p r off there in
          let n : ℕ = length x.memory / 256 in
          let alive : kernel.alive (pt.kernel.processes p) ≡ Some (plain_process x) = h.processes p ∙ ap (option_map plain_process) found in
          let some_ = life_some (pt.kernel.processes p) (plain_process x) alive in
          let changed = taken_changed pt end m p refl (λ z. refl) (made.home p some_) (made.first p some_) (made.below p some_) (λ q apart. same q (pid_off p q apart)) in
          let before : taken_by pt m p ≡ record { slots = 0; blocks = 0 } = ap (λ (n : ℕ). record { slots = n; blocks = if n == 0 then 0 else rule.blocks_of (kernel.alive (pt.kernel.processes p)) }) none in
          let after_ : taken_by end m p ≡ record { slots = 1; blocks = n } = (λ i. record { slots = one i; blocks = if one i == 0 then 0 else rule.blocks_of (alive i) }) in
          let now : Room = taken_at end m pt.kernel.machines in
          let was : Room = taken_at pt m pt.kernel.machines in
          let blocks_ : (length x.memory / 256 == 0) ≡ false = lawful_blocks (record x { queue = [] }) (subst (λ (z : Resident). IsLawfulResident (residents.with_queue [] z)) is lawful) in
          let reserved : room_with t (residents.blocks_of r) ≡ room_.with_reserved t n =
          ap (λ (z : Resident). room_with t (residents.blocks_of z)) is ∙ ap (λ (d : Bool). if d then t else room_.with_reserved t n) blocks_ in
          let s0 = ap (λ (z : Room). z.slots) before in
          let s1 = ap (λ (z : Room). z.slots) after_ in
          let b0 = ap (λ (z : Room). z.blocks) before in
          let b1 = ap (λ (z : Room). z.blocks) after_ in
          subst (λ (z : room_.Taken). RoomStands z given now) (sym reserved) (record {
            slots = room.slots;
            blocks = room.blocks;
            taken_slots = reserve now.slots was.slots (taken_by pt m p).slots (taken_by end m p).slots t.taken_slots 1 changed.0 s0 s1 room.taken_slots;
            taken_blocks = reserve now.blocks was.blocks (taken_by pt m p).blocks (taken_by end m p).blocks t.taken_blocks n changed.1 b0 b1 room.taken_blocks;
          })
      | OfBoard at_board ↦ server (Resident.Board l.board) (ap is_server at_board) refl (subst (λ (q : Pid). resident_at l q ≡ Some r) at_board there)
      | OfManager at_manager ↦ server (Resident.Manager l.manager) (ap is_server at_manager) refl (subst (λ (q : Pid). resident_at l q ≡ Some r) at_manager there)
    ]
  where
    takes_as : Known → ℕ → Room
    takes_as n d = record { slots = rule.takes_room n; blocks = if rule.takes_room n == 0 then 0 else d }

    reserve : (new old none_ some_ taken more : ℕ) → new + none_ ≡ old + some_ → none_ ≡ 0 → some_ ≡ more → taken ≡ old → taken + more ≡ new
    reserve new old none_ some_ taken more e f g h = omega (arith, e, f, g, h)

-- what is left over of an earlier move from there stands before the request, and so nowhere
accepted_over : (b : Boot) (m : ℕ) (pt : Point) (l : Placed) (records : AllRecords) (k : KernelState) (y : Message) (p : Pid) (c : Comes b m pt l records k y p) (a : Arrives b m pt l k y p) → kind_of y.what ≡ MessageKind.Ask → (box : List MsgId) (asked : Pid → ℕ) (come : Pid → Bool) (preds : ℕ → Pid → ℕ → Bool)
    → (i : MsgId) (t : Told) (z : Spot) → pt.view.told i ≡ Some t → is_between t.kind ≡ true → t.about ≡ Of p → 1 ≤ standing pt.view i z → is_due_piece pt.view p i t ≡ false
    → is_due_piece (come_view pt.view m p box (at_record pt.view.known m p (Incoming (front_of (pt.view.inbox m)))) asked come preds) p i t ≡ false
accepted_over b m pt l records k y p c a is box asked come preds i t z told between about st off =
    let v = pt.view in
    let from = front_of (v.inbox m) in
    let w = come_view v m p box (at_record v.known m p (Incoming from)) asked come preds in
    let source : from ≡ a.source = ap front_of c.box ∙ ap (λ (q : Pid). q.home) a.from in
    elim (a.phase.alone i t z told between about st) [
      | inl mine ↦
          let e : y.id ≡ i = some_same y.id i mine in
          let u : told_of y ≡ t = some_same (told_of y) t (sym a.told ∙ ap v.told e ∙ told) in
          absurd (false≢true (sym off ∙ (λ j. is_due_piece v p (sym e j) (sym u j)) ∙ c.due))
      | inr left ↦
          by_left v w p (kind_of y.what) a.source m y.id c.ids (told_of y) i t z a.on is (λ n here. awaits_same v p m n from a.source source here) (ranked_in v c.run.based.phased.ranked) (apart_is (is_between (kind_of y.what)) a.source m a.phase.apart) c.box a.from a.told c.between told between st
          (off, left)
    ]
  where
    -- which machine awaits it then
    awaits_same : (v : View) (p : Pid) (m n from source : ℕ) → from ≡ source → (s : ℕ) → at_record v.known m p (Incoming from) n p ≡ Incoming s → ((m ≡ n) × (source ≡ s)) ⊎ (v.known n p ≡ Incoming s)
    awaits_same v p m n from source e s here = elim (cases_Bool (m == n)) [
      | inl same ↦
          let f : Incoming from ≡ Incoming s = sym (ap (λ (d : Bool). if d && pid_eq p p then Incoming from else v.known n p) same ∙ ap (λ (d : Bool). if d then Incoming from else v.known n p) (pid_eq-same p)) ∙ here in
          let g : from ≡ s = cc in
          inl (eqb-true m n same, sym e ∙ g)
      | inr other ↦ inr (sym (ap (λ (d : Bool). if d && pid_eq p p then Incoming from else v.known n p) other) ∙ here)
    ]

    no_piece_asks : (v : View) (p : Pid) (k : MessageKind) (s d : ℕ) (o : Option MsgId) (i : MsgId) (t : Told) → is_calloff k ≡ false → IsLeft v p (Moves k s d o) i t → pulls_piece (sort_of t.kind) ≡ false
    no_piece_asks v p k s d o i t on left = (brings_on t.kind (piece_only v p k s d o i t on left)).2

    by_left : (v w : View) (p : Pid) (k : MessageKind) (source m : ℕ) (j : MsgId) (ids : List MsgId) (u : Told) (i : MsgId) (t : Told) (z : Spot) → is_calloff k ≡ false → k ≡ MessageKind.Ask
        → ((n s : ℕ) → w.known n p ≡ Incoming s → ((m ≡ n) × (source ≡ s)) ⊎ (v.known n p ≡ Incoming s)) → Ranked v → (source == m) ≡ false → v.inbox m ≡ j ∷ ids → j.from ≡ pid_of source 0 → v.told j ≡ Some u → is_between u.kind ≡ true
        → v.told i ≡ Some t → is_between t.kind ≡ true → 1 ≤ standing v i z → (is_due_piece v p i t ≡ false) × IsLeft v p (Moves k source m (Some j)) i t → is_due_piece w p i t ≡ false
    by_left v w p k source m j ids u i t z on ask awaits ranked apart front from told_j between_j told between st (off, Asks s d o pulls say way is first) = absurd (false≢true (sym (no_piece_asks v p k source m (Some j) i t on (Asks s d o pulls say way is first)) ∙ pulls))
    by_left v w p k source m j ids u i t z on ask awaits ranked apart front from told_j between_j told between st (off, Brought s d brings say way away first) =
        piece_over w p i t s d brings say way.sender (λ here. elim (awaits d s here) [
          | inr was ↦ away was
          | inl both ↦
              let less : i.n < j.n = first (Some j) (λ e. Moves (ask e) (both.1 e) (both.0 e) (Some j)) in
              never_behind v s d j ids u i t z ranked (subst (λ (n : ℕ). (s == n) ≡ false) both.0 (subst (λ (n : ℕ). (n == m) ≡ false) both.1 apart)) (subst (λ (n : ℕ). v.inbox n ≡ j ∷ ids) both.0 front) (from ∙ ap (λ (n : ℕ). pid_of n 0) both.1) told_j between_j way told between st less
        ])

accepts_row : (b : Boot) (m : ℕ) (pt : Point) (l : Placed) (records : AllRecords) (k : KernelState) (y : Message) (p : Pid) (c : Comes b m pt l records k y p) (a : Arrives b m pt l k y p) → kind_of y.what ≡ MessageKind.Ask
    → kernel_handles b (record k { inbox = c.rest }) y y.what ≡ accepts b (record k { inbox = c.rest }) y p (residents.blocks_of a.resident) (residents.moves_of a.resident) (length (state_of a.resident)) (l.notes p) true
    → (rule.fits (free_room b pt m) (residents.blocks_of a.resident)).0 ≡ true → CanMove (residents.with_queue [] a.resident) → IsOfSystem (slots_of b.format) l.manager.machines l.manager.images a.resident → TurnsAt b m pt l records k
accepts_row b m pt l records k y p c a is handles some_ whole system =
    let s = record k { inbox = c.rest } in
    let v = pt.view in
    let x = a.resident in
    let r = free_room b pt m in
    let none = absent a.source (v.known m p) (ap (λ (j : MessageKind). kind_comes j a.source (v.known m p)) (sym is) ∙ comes_known b m pt l k y p a) in
    let box = drop 1 (v.inbox m) in
    let from = front_of (v.inbox m) in
    let now = at_record v.known m p (Incoming from) in
    let asked = at_pid v.asked p 1 in
    let come = at_pid v.come p false in
    let preds = at_record v.preds m p (added from (v.preds m p)) in
    let next = come_point pt (come_view v m p box now asked come preds) in
    -- the source is a machine that there is
    let (to, frozen) = leaves_where b m pt l k y p a is in
    let source : y.id.from.home ≡ a.source = ap (λ (q : Pid). q.home) a.from in
    let there_is : y.id.from.home < length b.machines =
    subst (λ (n : ℕ). n < length b.machines) (sym source) (subst (λ (n : ℕ). a.source < n) c.run.based.machines (c.run.found.known_within a.source p (λ e. frozen_unknown to (sym frozen ∙ e)))) in
    let new = expected p y.id.from.home (residents.blocks_of x) (residents.moves_of x) (length (state_of x)) (l.notes p) (slots_of b.format) in
    let state = machine.with_sent (with_expected b s p y.id.from.home (residents.blocks_of x) (residents.moves_of x) (length (state_of x)) (l.notes p)) in
    let named : residents.name_of x ≡ p = ap (λ (z : Cargo). z.pid) a.is_cargo ∙ a.named in
    let pieces : new ≡ coming a.cargo y.id.from.home (slots_of b.format) [] (Chunk 0) =
    (λ i. expected (sym named i) y.id.from.home (residents.blocks_of x) (residents.moves_of x) (length (state_of x)) (l.notes p) (slots_of b.format)) ∙ ap (λ (z : Cargo). coming z y.id.from.home (slots_of b.format) [] (Chunk 0)) a.is_cargo in
    let there : state.records p ≡ Some (Record.Incoming new) = ap (λ (d : Bool). if d then Some (Record.Incoming new) else k.records p) (pid_eq-same p) in
    let one : asked p ≡ 1 = ap (λ (d : Bool). if d then 1 else v.asked p) (pid_eq-same p) in
    let held : v.held m p ≡ [] = c.run.based.lists.held m p none.held in
    let first : HasChunk a.cargo.state 0 = subst (λ (z : Cargo). HasChunk z.state 0) a.is_cargo (let least : 1 ≤ length (state_of x) = subst (λ (z : Cargo). 1 ≤ length z.state) (cargo_queue [] x (l.notes p)) whole.some in let some : HasChunk (state_of x) 0 = omega (arith, least) in some) in
    turns_answer b m pt l records k y p c a (record {
      lines = Line.Migration Stage.Accepted p ∷ [];
      what = What.PullState p 0;
      state = state;
      over_is = refl;
      box = box;
      known = now;
      asked = asked;
      come = come;
      preds = preds;
      kept = subst (λ (n : ℕ). PredsStand b (at_record v.preds m p (added n (v.preds m p)) m) state.preds) (sym (ap front_of c.box)) (added_stand b v.preds k.preds m y.id.from.home p there_is c.stands.preds);
      preds_away = λ n q off. ap (λ (d : Bool). if d && pid_eq p q then added from (v.preds m p) else v.preds n q) (eq_off m n off);
      turn = turn_kernel b m pt l records k y p c a (accepts b s y p (residents.blocks_of x) (residents.moves_of x) (length (state_of x)) (l.notes p) true) handles;
      outcome = outcome_kernel b m pt l records k y p c a _ (ap (λ (k : MessageKind). told_step pt m y.id p (fits r (size_at x).blocks) (size_at x) (sort_of k)) is
          ∙ ap (λ (n : ℕ). Some (rule_moves.accepts y.id.from.home p (fits r n).0 r.slots r.blocks)) (size_blocks x)
          ∙ ap (λ (d : Bool). Some (rule_moves.accepts y.id.from.home p d r.slots r.blocks)) some_);
      after = refl;
      is_box = first_gone y.id c.ids (v.inbox m) c.box;
      known_off = λ n q off. record_off v.known m n p q (Incoming from) off;
      known_away = λ n q off. ap (λ (d : Bool). if d && pid_eq p q then (Incoming from) else v.known n q) (eq_off m n off);
      asked_off = λ q off. ap (λ (d : Bool). if d then 1 else v.asked q) off;
      over = accepted_over b m pt l records k y p c a is box asked come preds;
      here = refl;
      records_off = λ q off. ap (λ (d : Bool). if d then Some (Record.Incoming new) else k.records q) off;
      ring = refl;
      inbox = refl;
      made = refl;
      sent = refl;
      room = room_come pt next.view next.addresses m p l x k.room _ a.is_resident whole.lawful c.made c.mirrors.plain none.room (ap rule.takes_room (record_self v.known m p (Incoming from))) (λ q off. record_off v.known m m p q (Incoming from) off) c.stands.room;
      mine =
          subst (λ (n : Known). KnownStands l p (v.queue m p) (v.held m p) n (state.records p)) (sym (record_self v.known m p (Incoming from)))
          (subst (KnownStands l p (v.queue m p) (v.held m p) (Incoming from)) (sym there)
          (record { source = sym (ap front_of c.box); cargo = a.cargo; there = a.there; whole = subst (IsSuch (CanBeCarried (slots_of b.format) l.manager.machines l.manager.images)) (sym a.is_resident) (whole, system); pieces = pieces; held = ap (map l.bag) held }));
      between = refl;
      is_reply = refl;
      about = refl;
      plain = refl;
      encloses = refl;
      gives = λ w i q. refl;
      carries = subst (λ (o : Option machine.KernelKnown). Carries p a.cargo (asked p) (incoming_of o) (What.PullState p 0)) (sym there)
          (refl, (one, first), refl);
    })

ask_by : (b : Boot) (m : ℕ) (pt : Point) (l : Placed) (records : AllRecords) (k : KernelState) (y : Message) (p : Pid) (c : Comes b m pt l records k y p) (a : Arrives b m pt l k y p) (d : Bool) → kind_of y.what ≡ MessageKind.Ask
    → kernel_handles b (record k { inbox = c.rest }) y y.what ≡ accepts b (record k { inbox = c.rest }) y p (residents.blocks_of a.resident) (residents.moves_of a.resident) (length (state_of a.resident)) (l.notes p) d
    → (rule.fits (free_room b pt m) (residents.blocks_of a.resident)).0 ≡ d → CanMove (residents.with_queue [] a.resident) → IsOfSystem (slots_of b.format) l.manager.machines l.manager.images a.resident → TurnsAt b m pt l records k
ask_by b m pt l records k y p c a true is handles room whole system = accepts_row b m pt l records k y p c a is handles room whole system
ask_by b m pt l records k y p c a false is handles room whole system = lacks_row b m pt l records k y p c a is handles room

pub turns_ask : (b : Boot) (m : ℕ) (pt : Point) (l : Placed) (records : AllRecords) (k : KernelState) (y : Message) (p : Pid) (q : Pid) (blocks moves size : ℕ) (asker : _) → Comes b m pt l records k y p → y.what ≡ What.Ask q blocks moves size asker
    → ((n : ℕ) → n < pt.kernel.machines → (z : KernelState) × KernelStands b pt l n z) → ((x : Process) → l.processes p ≡ Some x → length x.table ≡ slots_of b.format) → TurnsAt b m pt l records k
turns_ask b m pt l records k y p q blocks moves size asker c e nodes tables =
    let a = arrives b m pt l records k y p c in
    let x = a.resident in
    let n = residents.blocks_of x in
    let s = record k { inbox = c.rest } in
    let carried = subst (λ (w : What). Carries p a.cargo (pt.view.asked p) (incoming_of (k.records p)) w) e a.carries in
    let is : kind_of y.what ≡ MessageKind.Ask = ap kind_of e in
    let free = free_as k.room (slice_get b.machines m) (taken_at pt m pt.kernel.machines) c.stands.room in
    ask_by b m pt l records k y p c a (rule.fits (free_room b pt m) n).0 is (ap (kernel_handles b s y) (e ∙ carried ∙ ap ask_for (sym a.is_cargo))
    ∙ ap (λ (z : Pid). accepts b s y z n (residents.moves_of x) (length (state_of x)) (l.notes p) (has_room_for k.room n)) (ap (λ (z : Cargo). z.pid) a.is_cargo ∙ a.named)
    ∙ ap (accepts b s y p (residents.blocks_of x) (residents.moves_of x) (length (state_of x)) (l.notes p)) (λ i. (n == 0) || (nat_le 1 (free.0 i) && nat_le n (free.1 i))))
    refl (can_come b m pt l records k y p c a is nodes) (of_system b l p x tables a.is_resident)

-- A turn that handles what the machine that a process leaves tells the machine that it comes to.

-- what a machine must know beside the message: what each machine has, and how large the tables of processes are
pub record Around (b : Boot) (pt : Point) (l : Placed) : Type 0 where
  pub nodes : (n : ℕ) → n < pt.kernel.machines → (z : KernelState) × KernelStands b pt l n z
  pub tables : (p : Pid) (x : Process) → l.processes p ≡ Some x → length x.table ≡ slots_of b.format

by_what : (b : Boot) (m : ℕ) (pt : Point) (l : Placed) (records : AllRecords) (k : KernelState) (y : Message) (p : Pid) (w : What) → y.what ≡ w → tells_onward (sort_of (kind_of w)) ≡ true → Comes b m pt l records k y p → Around b pt l → TurnsAt b m pt l records k
by_what b m pt l records k y p (What.Ask q blocks moves size asker) e is c r = turns_ask b m pt l records k y p q blocks moves size asker c e r.nodes (r.tables p)
by_what b m pt l records k y p (What.State q chunk last bytes) e is c r = turns_state b m pt l records k y p q chunk last bytes c e
by_what b m pt l records k y p (What.Memory q block bytes) e is c r = turns_memory b m pt l records k y p q block bytes c e
by_what b m pt l records k y p (What.Restart q) e is c r = turns_restart b m pt l records k y p q c e
by_what b m pt l records k y p _ e is c r = absurd (false≢true is)

pub turns_come : (b : Boot) (m : ℕ) (pt : Point) (l : Placed) (records : AllRecords) (k : KernelState) (y : Message) (p : Pid) → Comes b m pt l records k y p → Around b pt l → TurnsAt b m pt l records k
turns_come b m pt l records k y p c r = by_what b m pt l records k y p y.what refl c.of_source c r
