-- What a machine and the rule do with a message about a process that comes, and where the lines of it lead.
use Rattle.dm_law_mirror.proofs.Names.{turns, ◌≡◌, ℕ, ◌/◌, Bool, true, false, List, [], ◌∷◌, length, refl, ap, ◌∙◌, sym, subst, if◌then◌else◌, slice_get, Option, Some, Pid, pid_eq, Message, MsgId, kind_of, Record, incoming_of, Wanted, Chunk}
use Rattle.dm_law_mirror.proofs.Names.{Nothing, Arrival, pull, with_piece, coming, Boot, bind, pid_eq-same, Line, told_step, to_kernel, is_early, Point, after, fits, free_room, taken_at, Incoming, Known, Of, Placed, room_of}
use Rattle.dm_law_mirror.proofs.Names.{piece_lines, takes_piece, took_piece, kernel_handles, KernelState, about_of, ComesStand, KnownStands, RoomStands, AllRecords, Carries, IsAsked, ◌+◌, ◌==◌, MessageKind, Step, Stage, arith, nat_tests}
use Rattle.dm_law_mirror.proofs.Names.{kind_comes, outcome, at_pid, without_front, About, Turned, apart_is, expects_is, not, nat_lt, What, Block, after_chunk, is_last, ComesByPieces, by_pieces, chunks_of, pieces_of, takes_block, takes_chunk}
use Rattle.dm_law_mirror.proofs.Names.{Wants, sort_of, drop, Cargo, CanCome, CanBeCarried, IsSuch, comes_to, hears, kernel_hears, told_of, Addresses, None, OneKernel, View, enclosed, goes_between, is_between, own_given}
use Rattle.dm_law_mirror.proofs.Names.{plain_what, tells_onward, hears_piece, says_stale, buried}
use Rattle.dm_law_rule.proofs.Names.{Part}
use Rattle.dm_kernel.specs.declared.part.Part.TheVariants as part
use Rattle.dm_kernel.specs.State as machine
use Rattle.dm_law_mirror.proofs.Come.Frames.{Arrives, Comes, arrives, asked_after_block, block_last, chunk_last, chunk_next, chunks_same, pieces_same}
use Rattle.dm_law_mirror.proofs.Leave.Asks.{between_goes_on}
use Rattle.dm_law_mirror.proofs.Come.Turns.{come_point, come_view, turns_answer, eq_self}
use Rattle.dm_law_mirror.proofs.Recorded.{recorded}
use Rattle.dm_law_mirror.proofs.Rooms.{taken_same}
use Rattle.dm_law_mirror.proofs.Turning.{TurnsAt, begun}
use Rattle.dm_law_mirror.proofs.Kernel.Sets.{on_if as if_true}
use Rattle.dm_law_mirror.proofs.Follow.Fronts.{front_gone, set_self}
use Rattle.dm_law_mirror.proofs.Cargoes.{same_cargo, cargo_comes}
use Rattle.dm_law_mirror.proofs.Leave.Fronts.{to_kernel_hears}
use Rattle.dm_law_rule.specs.Rule as ruled
use Rattle.dm_law_rule.specs.Migrating as migrating
use Rattle.dm_law_rule.specs.Migrating.{Size, size_of}
use Rattle.dm_law_rule.specs.View.{about, asking, handled_first}
use Rattle.dm_law_rule.specs.View.{coming as coming_as}
use Rattle.dm_resident.specs.Lawful.{IsLawfulResident}
use Rattle.dm_resident.specs.Residents as residents
use Rattle.dm_law_mirror.proofs.Residents.{OfBoard, OfManager, OfProcess, cargo_queue, lawful_blocks, process_there, who}
use Rattle.dm_law_mirror.proofs.Sized.{size_at, size_blocks, size_queue}
use Rattle.dm_law_mirror.proofs.Names.{Resident, resident_at, is_server, ◌*◌, ◌<◌, ◌++◌, map, false≢true, HasBlock}

pub turn_kernel : (b : Boot) (m : ℕ) (pt : Point) (l : Placed) (records : AllRecords) (k : KernelState) (y : Message) (p : Pid) (c : Comes b m pt l records k y p) (a : Arrives b m pt l k y p) (o : Option Turned) → kernel_handles b (record k { inbox = c.rest }) y y.what ≡ o → turns b k k.inbox ≡ o
turn_kernel b m pt l records k y p c a o e = grind (arith, nat_tests, if_true)

pub outcome_kernel : (b : Boot) (m : ℕ) (pt : Point) (l : Placed) (records : AllRecords) (k : KernelState) (y : Message) (p : Pid) (c : Comes b m pt l records k y p) (a : Arrives b m pt l k y p) (o : Option (List Part))
    → told_step pt m y.id p (fits (free_room b pt m) (size_at a.resident).blocks) (size_at a.resident) (sort_of (kind_of y.what)) ≡ o → outcome b pt (Step.Turn m) ≡ o
outcome_kernel b m pt l records k y p c a o e =
    let step : Size → Option (List Part) = λ x. told_step pt m y.id p (fits (free_room b pt m) x.blocks) x (sort_of (kind_of y.what)) in
    ap (ruled.turns b pt m) c.box ∙ ap (comes_to b pt m y.id) a.unplain ∙ ap (hears b pt m y.id) a.told ∙ to_kernel_hears b pt m y.id (told_of y) (ap (λ (q : Pid). q.num == 0) a.to)
    ∙ ap (kernel_hears b pt m y.id (kind_of y.what)) c.about
    ∙ ap (λ (d : Bool). if d then Some (buried pt m y.id p) else if ruled.is_stale pt m y.id (kind_of y.what) p then Some (Part.Says (Line.Stale y.id) ∷ []) else bind (size_of pt.kernel p) step) (between_goes_on (kind_of y.what) c.between)
    ∙ ap (λ (d : Bool). if d then Some (Part.Says (Line.Stale y.id) ∷ []) else bind (size_of pt.kernel p) step) a.fresh ∙ ap (λ (q : Option Size). bind q step) a.is_sized ∙ e

pub comes_known : (b : Boot) (m : ℕ) (pt : Point) (l : Placed) (k : KernelState) (y : Message) (p : Pid) (a : Arrives b m pt l k y p) → kind_comes (kind_of y.what) a.source (pt.view.known m p) ≡ true
comes_known b m pt l k y p a = grind (arith, nat_tests, apart_is, eq_self)

pub known_incoming : (b : Boot) (m : ℕ) (pt : Point) (l : Placed) (k : KernelState) (y : Message) (p : Pid) (a : Arrives b m pt l k y p) → is_early (kind_of y.what) ≡ false → pt.view.known m p ≡ Incoming a.source
known_incoming b m pt l k y p a late = expects_is (kind_of y.what) a.source (pt.view.known m p) late a.on (comes_known b m pt l k y p a)

pub first_gone : (i : MsgId) (is xs : List MsgId) → xs ≡ i ∷ is → drop 1 xs ≡ is
first_gone i is xs e = ap (drop 1) e

-- a piece that isn't the last
pub after_piece : (pt : Point) (m : ℕ) (p q : Pid) (i : MsgId) (k : MessageKind) → (k ≡ MessageKind.State) → pt.view.told i ≡ Some (record { kind = k; receiver = q; about = Of p })
    → after (begun pt m) (Line.Proto i ∷ []) ≡ Some (come_point pt (come_view pt.view m p (without_front i (pt.view.inbox m)) pt.view.known (at_pid pt.view.asked p (pt.view.asked p + 1)) pt.view.come pt.view.preds))
after_piece pt m p q i k is told = grind (arith, nat_tests)

pub after_block : (pt : Point) (m : ℕ) (p q : Pid) (i : MsgId) (k : MessageKind) → (k ≡ MessageKind.Memory) → pt.view.told i ≡ Some (record { kind = k; receiver = q; about = Of p })
    → after (begun pt m) (Line.Proto i ∷ []) ≡ Some (come_point pt (come_view pt.view m p (without_front i (pt.view.inbox m)) pt.view.known (at_pid pt.view.asked p (pt.view.asked p + 1)) pt.view.come pt.view.preds))
after_block pt m p q i k is told = grind (arith, nat_tests)

-- what was told of it
pub told_about : (b : Boot) (m : ℕ) (pt : Point) (l : Placed) (records : AllRecords) (k : KernelState) (y : Message) (p : Pid) → Comes b m pt l records k y p → Arrives b m pt l k y p
    → pt.view.told y.id ≡ Some (record { kind = kind_of y.what; receiver = y.to.pid; about = Of p })
told_about b m pt l records k y p c a = a.told ∙ ap (λ (x : About). Some (record { kind = kind_of y.what; receiver = y.to.pid; about = x })) c.about

-- A piece comes of a process that comes, and the next is asked for, or all is said to have come.

pull_carries : (p : Pid) (c : Cargo) (n source size : ℕ) (held : List Message) (w : Wanted) → c.pid ≡ p → IsAsked c n w → Carries p c n (Some (coming c source size held w)) (pull c.pid w)
pull_carries p c n source size held Nothing named asked = (named, refl)
pull_carries p c n source size held _ named asked = (named, asked, refl)

-- what asks for a piece, or says that all has come
record AsksFor (p : Pid) (w : What) : Type 0 where
  between : is_between (kind_of w) ≡ true
  back : tells_onward (sort_of (kind_of w)) ≡ false
  about : about_of w ≡ Of p
  plain : plain_what w ≡ None
  encloses : enclosed w ≡ []
  gives : (s : OneKernel) (v : View) (a : Addresses) (i : MsgId) (q : Pid) → own_given s v a i q (sort_of (kind_of w)) ≡ goes_between v i q

asks_for : (p : Pid) (w : Wanted) → AsksFor p (pull p w)
asks_for p (Chunk n) = record { between = refl; back = refl; about = refl; plain = refl; encloses = refl; gives = λ s v a i q. refl }
asks_for p (Block n) = record { between = refl; back = refl; about = refl; plain = refl; encloses = refl; gives = λ s v a i q. refl }
asks_for p Nothing = record { between = refl; back = refl; about = refl; plain = refl; encloses = refl; gives = λ s v a i q. refl }

-- where other records are, a machine's room is as it was
pub room_kept : (b : Boot) (pt : Point) (m : ℕ) (p : Pid) (box : List MsgId) (asked : Pid → ℕ) (come : Pid → Bool) (l : Placed) (records : AllRecords) (k : KernelState) (y : Message) (c : Comes b m pt l records k y p)
    → RoomStands k.room (room_of (slice_get b.machines m)) (taken_at (come_point pt (come_view pt.view m p box pt.view.known asked come pt.view.preds)) m pt.kernel.machines)
room_kept b pt m p box asked come l records k y c =
    subst (RoomStands k.room (room_of (slice_get b.machines m))) (sym (taken_same pt (come_point pt (come_view pt.view m p box pt.view.known asked come pt.view.preds)) m refl (λ h. refl) (λ q. refl))) c.stands.room

-- a piece has come, and this is asked for then
pub record Piece (b : Boot) (m : ℕ) (pt : Point) (l : Placed) (records : AllRecords) (k : KernelState) (y : Message) (p : Pid) (c : Comes b m pt l records k y p) (a : Arrives b m pt l k y p) : Type 0 where
  pub late : is_early (kind_of y.what) ≡ false
  pub arrival : Arrival
  pub is : k.records p ≡ Some (Record.Incoming arrival)
  pub held : ComesStand l p a.source (pt.view.held m p) arrival
  pub wanted : Wanted
  pub lines : List Line
  pub box : List MsgId
  pub asked : Pid → ℕ
  pub come : Pid → Bool
  pub takes : kernel_handles b (record k { inbox = c.rest }) y y.what ≡ hears_piece (record k { inbox = c.rest }) y p (incoming_of (k.records p))
  pub took : with_piece arrival y.what ≡ Some (coming a.cargo arrival.source arrival.cap arrival.held wanted)
  pub says : piece_lines y.id p (length a.cargo.memory / 256) wanted ≡ lines
  pub told : told_step pt m y.id p (fits (free_room b pt m) (size_at a.resident).blocks) (size_at a.resident) (sort_of (kind_of y.what)) ≡ Some (map Part.Says lines ++ to_kernel (kind_of (pull a.cargo.pid wanted)) y.id.from.home ∷ [])
  pub after : after (begun pt m) lines ≡ Some (come_point pt (come_view pt.view m p box pt.view.known asked come pt.view.preds))
  pub is_box : box ≡ c.ids
  pub asked_off : (q : Pid) → pid_eq p q ≡ false → asked q ≡ pt.view.asked q
  pub is_asked : IsAsked a.cargo (asked p) wanted

pub turns_piece : (b : Boot) (m : ℕ) (pt : Point) (l : Placed) (records : AllRecords) (k : KernelState) (y : Message) (p : Pid) (c : Comes b m pt l records k y p) (a : Arrives b m pt l k y p) → Piece b m pt l records k y p c a → TurnsAt b m pt l records k
turns_piece b m pt l records k y p c a h =
    let s = record k { inbox = c.rest } in
    let now = coming a.cargo h.arrival.source h.arrival.cap h.arrival.held h.wanted in
    let state : KernelState = machine.with_sent (machine.with_known s p (Record.Incoming now)) in
    let next = come_point pt (come_view pt.view m p h.box pt.view.known h.asked h.come pt.view.preds) in
    let asks = asks_for a.cargo.pid h.wanted in
    let expected : (y.id.from.home == h.arrival.source) ≡ true = ap (λ (n : ℕ). n == h.arrival.source) (ap (λ (q : Pid). q.home) a.from ∙ sym h.held.source) ∙ eq_self h.arrival.source in
    turns_answer b m pt l records k y p c a (record {
      lines = h.lines;
      what = pull a.cargo.pid h.wanted;
      state = state;
      over_is = refl;
      box = h.box;
      known = pt.view.known;
      asked = h.asked;
      come = h.come;
      preds = pt.view.preds;
      kept = c.stands.preds;
      preds_away = λ n q off. refl;
      turn = turn_kernel b m pt l records k y p c a (Some (record { state = state; parts = map part.Says h.lines ++ part.Routes (machine.own k y.sender (pull a.cargo.pid h.wanted)) ∷ [] }))
          (h.takes ∙ ap (λ (o : Option machine.KernelKnown). hears_piece s y p (incoming_of o)) h.is ∙ ap (λ (d : Bool). if d then takes_piece s y p h.arrival else says_stale s y) expected ∙ ap (took_piece s y p) h.took
          ∙ ap (λ (xs : List Line). Some (record { state = state; parts = map part.Says xs ++ part.Routes (machine.own k y.sender (pull a.cargo.pid h.wanted)) ∷ [] })) h.says);
      outcome = outcome_kernel b m pt l records k y p c a (Some (map Part.Says h.lines ++ to_kernel (kind_of (pull a.cargo.pid h.wanted)) y.id.from.home ∷ [])) h.told;
      after = h.after;
      is_box = h.is_box;
      known_off = λ n q off. refl;
      known_away = λ n q off. refl;
      over = λ i t z told between about st off. off;
      asked_off = h.asked_off;
      here = refl;
      records_off = λ q off. ap (λ (d : Bool). if d then Some (Record.Incoming now) else k.records q) off;
      ring = refl;
      inbox = refl;
      made = refl;
      sent = refl;
      room = room_kept b pt m p h.box h.asked h.come l records k y c;
      mine =
          subst (λ (n : Known). KnownStands l p (pt.view.queue m p) (pt.view.held m p) n (state.records p)) (sym (known_incoming b m pt l k y p a h.late))
          (subst (KnownStands l p (pt.view.queue m p) (pt.view.held m p) (Incoming a.source)) (sym (set_self k.records p (Record.Incoming now)))
          (record { source = h.held.source; cargo = a.cargo; there = a.there; whole = h.held.whole; pieces = refl; held = h.held.held }));
      between = asks.between;
      is_reply = asks.back;
      about = asks.about ∙ ap Of a.named;
      plain = asks.plain;
      encloses = asks.encloses;
      gives = λ v i q. asks.gives pt.kernel v pt.addresses i q;
      carries = subst (λ (o : Option machine.KernelKnown). Carries p a.cargo (h.asked p) (incoming_of o) (pull a.cargo.pid h.wanted)) (sym (set_self k.records p (Record.Incoming now)))
          (pull_carries p a.cargo (h.asked p) h.arrival.source h.arrival.cap h.arrival.held h.wanted a.named h.is_asked);
    })

-- A chunk of the state of a process that comes, and a block of its memory.

-- what has come before, where this is asked for
pub record Before (b : Boot) (m : ℕ) (pt : Point) (l : Placed) (k : KernelState) (y : Message) (p : Pid) (a : Arrives b m pt l k y p) (w : Wanted) : Type 0 where
  pub arrival : Arrival
  pub is : k.records p ≡ Some (Record.Incoming arrival)
  pub comes_ : ComesStand l p a.source (pt.view.held m p) arrival
  pub pieces : arrival ≡ coming a.cargo arrival.source arrival.cap arrival.held w
  pub carried : CanBeCarried arrival.cap l.manager.machines l.manager.images a.resident
  pub comes : ComesByPieces a.cargo arrival.source arrival.cap arrival.held

pub before : (b : Boot) (m : ℕ) (pt : Point) (l : Placed) (records : AllRecords) (k : KernelState) (y : Message) (p : Pid) (c : Comes b m pt l records k y p) (a : Arrives b m pt l k y p) (w : Wanted) → is_early (kind_of y.what) ≡ false → Wants (incoming_of (k.records p)) w → Before b m pt l k y p a w
before b m pt l records k y p c a w late wants =
    let (arrival, is, h) = recorded b pt l m k p (Incoming a.source) c.stands (known_incoming b m pt l k y p a late) in
    let same : h.cargo ≡ a.cargo = same_cargo h.cargo a.cargo (sym h.there ∙ a.there) in
    let is_wanted : arrival.wanted ≡ w = subst (λ (o : Option machine.KernelKnown). Wants (incoming_of o) w) is wants in
    search (
      h.pieces ∙ (λ i. coming (same i) arrival.source arrival.cap arrival.held (is_wanted i)),
      subst (IsSuch (CanBeCarried arrival.cap l.manager.machines l.manager.images)) a.is_resident h.whole,
      by_pieces a.cargo arrival.source arrival.cap arrival.held (cargo_comes (resident_at l p) (l.notes p) a.cargo arrival.cap l.manager.machines l.manager.images a.there h.whole),
    )

asked_others : (f : Pid → ℕ) (p q : Pid) (n : ℕ) → pid_eq p q ≡ false → at_pid f p n q ≡ f q
asked_others f p q n off = ap (λ (d : Bool). if d then n else f q) off

-- A chunk: the last or another; and behind the last one the first block is asked for, where there are blocks.

-- whether there are blocks
none_of : (b : Boot) (m : ℕ) (pt : Point) (l : Placed) (k : KernelState) (y : Message) (p : Pid) (a : Arrives b m pt l k y p) → length a.cargo.memory / 256 ≡ (size_at a.resident).blocks
none_of b m pt l k y p a = ap (λ (z : Cargo). length z.memory / 256) (sym a.is_cargo) ∙ sym (size_blocks a.resident)

-- where a server's last chunk leads
last_two : (pt : Point) (m : ℕ) (p : Pid) → is_server p ≡ true → after (begun pt m) (Line.Migration Stage.StateTaken p ∷ Line.Migration Stage.MemoryTaken p ∷ [])
    ≡ Some (come_point pt (come_view pt.view m p (drop 1 (pt.view.inbox m)) pt.view.known (at_pid pt.view.asked p (pt.view.asked p + 1)) (at_pid pt.view.come p true) pt.view.preds))
last_two pt m p server =
    let v : View = (begun pt m).view in
    let taken : Bool → View = λ c. record v { inbox = if c then v.inbox else (handled_first v).inbox } in
    ap (λ (c : Bool). Some (record { kernel = pt.kernel; view = about (coming_as (handled_first (about (asking (taken c) p (pt.view.asked p + 1)) (Of p))) p true) (Of p); addresses = pt.addresses })) server

-- what has no blocks is a server
blockless : (r : Resident) → IsLawfulResident (residents.with_queue [] r) → (residents.blocks_of r == 0) ≡ true → (l : Placed) (p : Pid) → resident_at l p ≡ Some r → is_server p ≡ true
blockless r lawful none l p there = elim (who p) [
  | OfProcess off ↦
      let (x, is, found) = process_there l p r off there in
      let blocks = lawful_blocks (record x { queue = [] }) (subst (λ (z : Resident). IsLawfulResident (residents.with_queue [] z)) is lawful) in
      absurd (false≢true (sym blocks ∙ ap (λ (z : Resident). residents.blocks_of z == 0) (sym is) ∙ none))
  | OfBoard at_board ↦ ap is_server at_board
  | OfManager at_manager ↦ ap is_server at_manager
]

-- where the last chunk of a process leads
last_chunk_of : (pt : Point) (m : ℕ) (p : Pid) → is_server p ≡ false
    → after (begun pt m) (Line.Migration Stage.StateTaken p ∷ []) ≡ Some (come_point pt (come_view pt.view m p (drop 1 (pt.view.inbox m)) pt.view.known (at_pid pt.view.asked p (pt.view.asked p + 1)) pt.view.come pt.view.preds))
last_chunk_of pt m p off =
    let v : View = (begun pt m).view in
    let taken : Bool → View = λ c. record v { inbox = if c then v.inbox else (handled_first v).inbox } in
    ap (λ (c : Bool). Some (record { kernel = pt.kernel; view = about (asking (taken c) p (pt.view.asked p + 1)) (Of p); addresses = pt.addresses })) off

-- what has a block is no server
with_block : (l : Placed) (p : Pid) (r : Resident) (k : ℕ) → resident_at l p ≡ Some r → HasBlock (residents.memory_of r) k → is_server p ≡ false
with_block l p r k there has = elim (who p) [
  | OfProcess off ↦ off
  | OfBoard at_board ↦
      let e : Resident.Board l.board ≡ r = (let f : Some (Resident.Board l.board) ≡ Some r = subst (λ (q : Pid). resident_at l q ≡ Some r) at_board there in cc) in
      let h : HasBlock [] k = subst (λ (z : Resident). HasBlock (residents.memory_of z) k) (sym e) has in
      absurd (omega (arith, h))
  | OfManager at_manager ↦
      let e : Resident.Manager l.manager ≡ r = (let f : Some (Resident.Manager l.manager) ≡ Some r = subst (λ (q : Pid). resident_at l q ≡ Some r) at_manager there in cc) in
      let h : HasBlock [] k = subst (λ (z : Resident). HasBlock (residents.memory_of z) k) (sym e) has in
      absurd (omega (arith, h))
]

-- where it has blocks, it has the first
first_block : (n : ℕ) → (n / 256 == 0) ≡ false → 256 * 0 < n
first_block n some_ = grind (arith, nat_tests, some_)

-- the last chunk of a server, and of a process
last_by : (b : Boot) (m : ℕ) (pt : Point) (l : Placed) (records : AllRecords) (k : KernelState) (y : Message) (p : Pid) (c : Comes b m pt l records k y p) (a : Arrives b m pt l k y p) (chunk : ℕ) (h : Before b m pt l k y p a (Chunk chunk)) (none : Bool)
    → (length a.cargo.memory / 256 == 0) ≡ none → kind_of y.what ≡ MessageKind.State → kernel_handles b (record k { inbox = c.rest }) y y.what ≡ hears_piece (record k { inbox = c.rest }) y p (incoming_of (k.records p))
    → with_piece h.arrival y.what ≡ Some (coming a.cargo h.arrival.source h.arrival.cap h.arrival.held (if none then Nothing else Block 0))
    → IsAsked a.cargo (pt.view.asked p + 1) (if none then Nothing else Block 0) → (pt.view.asked p == chunks_of (size_at a.resident)) ≡ true → TurnsAt b m pt l records k
last_by b m pt l records k y p c a chunk h true empty is takes took asked test =
    let v = pt.view in
    let blocks = none_of b m pt l k y p a in
    let without : ((size_at a.resident).blocks == 0) ≡ true = ap (λ (n : ℕ). n == 0) (sym blocks) ∙ empty in
    let server : is_server p ≡ true = blockless a.resident h.carried.0.lawful (ap (λ (n : ℕ). n == 0) (sym (size_blocks a.resident)) ∙ without) l p a.is_resident in
    let two : List Line = Line.Migration Stage.StateTaken p ∷ Line.Migration Stage.MemoryTaken p ∷ [] in
    turns_piece b m pt l records k y p c a (record {
      late = ap is_early is;
      arrival = h.arrival;
      is = h.is;
      held = h.comes_;
      wanted = Nothing;
      lines = two;
      box = drop 1 (v.inbox m);
      asked = at_pid v.asked p (v.asked p + 1);
      come = at_pid v.come p true;
      takes = takes;
      took = took;
      says = ap (λ (d : Bool). if d then two else Line.Migration Stage.MemoryTaken p ∷ []) empty;
      told = ap (λ (k : MessageKind). told_step pt m y.id p (fits (free_room b pt m) (size_at a.resident).blocks) (size_at a.resident) (sort_of k)) is ∙ ap (λ (e : Bool). Some (takes_chunk y.id p e)) test
          ∙ ap (λ (d : Bool). Some (if d then Part.Says (Line.Migration Stage.StateTaken p) ∷ migrating.reply_parts y.id (Line.Migration Stage.MemoryTaken p) MessageKind.AllTaken else migrating.reply_parts y.id (Line.Migration Stage.StateTaken p) MessageKind.PullBlock)) server;
      after = last_two pt m p server;
      is_box = first_gone y.id c.ids (v.inbox m) c.box;
      asked_off = λ q off. asked_others v.asked p q (v.asked p + 1) off;
      is_asked = tt;
    })
last_by b m pt l records k y p c a chunk h false some_ is takes took asked test =
    let v = pt.view in
    let off : is_server p ≡ false = with_block l p a.resident 0 a.is_resident (subst (λ (z : Cargo). HasBlock z.memory 0) (sym a.is_cargo) (first_block (length a.cargo.memory) some_)) in
    turns_piece b m pt l records k y p c a (record {
      late = ap is_early is;
      arrival = h.arrival;
      is = h.is;
      held = h.comes_;
      wanted = Block 0;
      lines = Line.Migration Stage.StateTaken p ∷ [];
      box = drop 1 (v.inbox m);
      asked = at_pid v.asked p (v.asked p + 1);
      come = v.come;
      takes = takes;
      took = took;
      says = refl;
      told = ap (λ (k : MessageKind). told_step pt m y.id p (fits (free_room b pt m) (size_at a.resident).blocks) (size_at a.resident) (sort_of k)) is ∙ ap (λ (e : Bool). Some (takes_chunk y.id p e)) test
          ∙ ap (λ (d : Bool). Some (if d then Part.Says (Line.Migration Stage.StateTaken p) ∷ migrating.reply_parts y.id (Line.Migration Stage.MemoryTaken p) MessageKind.AllTaken else migrating.reply_parts y.id (Line.Migration Stage.StateTaken p) MessageKind.PullBlock)) off;
      after = last_chunk_of pt m p off;
      is_box = first_gone y.id c.ids (v.inbox m) c.box;
      asked_off = λ q off. asked_others v.asked p q (v.asked p + 1) off;
      is_asked = subst (λ (n : ℕ). IsAsked a.cargo n (Block 0)) (sym (ap (λ (d : Bool). if d then (v.asked p + 1) else v.asked p) (pid_eq-same p))) asked;
    })

state_by : (b : Boot) (m : ℕ) (pt : Point) (l : Placed) (records : AllRecords) (k : KernelState) (y : Message) (p : Pid) (c : Comes b m pt l records k y p) (a : Arrives b m pt l k y p) (chunk : ℕ) (h : Before b m pt l k y p a (Chunk chunk)) (d : Bool)
    → kind_of y.what ≡ MessageKind.State → kernel_handles b (record k { inbox = c.rest }) y y.what ≡ hears_piece (record k { inbox = c.rest }) y p (incoming_of (k.records p))
    → with_piece h.arrival y.what ≡ Some (coming a.cargo h.arrival.source h.arrival.cap h.arrival.held (after_chunk chunk d (length a.cargo.memory / 256)))
    → IsAsked a.cargo (pt.view.asked p + 1) (after_chunk chunk d (length a.cargo.memory / 256)) → (pt.view.asked p == chunks_of (size_at a.resident)) ≡ d → TurnsAt b m pt l records k
state_by b m pt l records k y p c a chunk h true is takes took asked test = last_by b m pt l records k y p c a chunk h (length a.cargo.memory / 256 == 0) refl is takes took asked test
state_by b m pt l records k y p c a chunk h false is takes took asked test =
    let v = pt.view in
    turns_piece b m pt l records k y p c a (search (
      ap is_early is,
      at_pid v.asked p (v.asked p + 1),
      v.come,
      ap (λ (k : MessageKind). told_step pt m y.id p (fits (free_room b pt m) (size_at a.resident).blocks) (size_at a.resident) (sort_of k)) is ∙ ap (λ (e : Bool). Some (takes_chunk y.id p e)) test,
      after_piece pt m p y.to.pid y.id (kind_of y.what) is (told_about b m pt l records k y p c a),
      front_gone y.id c.ids (v.inbox m) c.box,
      asked_others,
      subst (λ (n : ℕ). IsAsked a.cargo n (Chunk (chunk + 1)))
          (sym (ap (λ (d : Bool). if d then (v.asked p + 1) else v.asked p) (pid_eq-same p))) asked,
    ))

pub turns_state : (b : Boot) (m : ℕ) (pt : Point) (l : Placed) (records : AllRecords) (k : KernelState) (y : Message) (p : Pid) (q : Pid) (chunk : ℕ) (last : Bool) (bytes : _) → Comes b m pt l records k y p → y.what ≡ What.State q chunk last bytes → TurnsAt b m pt l records k
turns_state b m pt l records k y p q chunk last bytes c e =
    let a = arrives b m pt l records k y p c in
    let r = a.resident in
    let s = record k { inbox = c.rest } in
    let carried = subst (λ (w : What). Carries p a.cargo (pt.view.asked p) (incoming_of (k.records p)) w) e a.carries in
    let is : kind_of y.what ≡ MessageKind.State = ap kind_of e in
    let h = before b m pt l records k y p c a (Chunk chunk) (ap is_early is) carried.2 in
    let chunk_pid : q ≡ a.cargo.pid = cc (carried.0) in
    let chunks : (length a.cargo.state + 511) / 512 ≡ chunks_of (size_at r) =
    ap (λ (z : Cargo). (length z.state + 511) / 512) (sym a.is_cargo) ∙ ap (λ (z : Cargo). (length z.state + 511) / 512) (sym (cargo_queue [] r (l.notes p)))
    ∙ chunks_same (residents.with_queue [] r) h.carried.0.lawful ∙ ap chunks_of (size_queue [] r) in
    state_by b m pt l records k y p c a chunk h (is_last a.cargo.state chunk) is
    (ap (kernel_handles b s y) e ∙ ap (λ (z : Pid). hears_piece s y z (incoming_of (k.records z))) (chunk_pid ∙ a.named))
    ((λ i. with_piece (h.pieces i) ((e ∙ carried.0) i)) ∙ h.comes.chunk_taken chunk carried.1.1)
    (chunk_next (is_last a.cargo.state chunk) a.cargo (pt.view.asked p) chunk refl carried.1 (h.comes.after_chunk chunk carried.1.1))
    (chunk_last a.cargo (pt.view.asked p) chunk (chunks_of (size_at r)) chunks carried.1)

-- where the last block of a process leads
last_block : (pt : Point) (m : ℕ) (p : Pid) → after (begun pt m) (Line.Migration Stage.MemoryTaken p ∷ []) ≡ Some (come_point pt (come_view pt.view m p (drop 1 (pt.view.inbox m)) pt.view.known pt.view.asked (at_pid pt.view.come p true) pt.view.preds))
last_block pt m p = refl

-- and not without blocks
some_blocks : (n k : ℕ) → n ≡ 256 * (n / 256) → 256 * k < n → (n / 256 == 0) ≡ false
some_blocks n k whole less = grind (arith, nat_tests)

-- a block, another or the last
memory_by : (b : Boot) (m : ℕ) (pt : Point) (l : Placed) (records : AllRecords) (k : KernelState) (y : Message) (p : Pid) (c : Comes b m pt l records k y p) (a : Arrives b m pt l k y p) (block : ℕ) (h : Before b m pt l k y p a (Block block)) (more : Bool)
    → kind_of y.what ≡ MessageKind.Memory → kernel_handles b (record k { inbox = c.rest }) y y.what ≡ hears_piece (record k { inbox = c.rest }) y p (incoming_of (k.records p))
    → with_piece h.arrival y.what ≡ Some (coming a.cargo h.arrival.source h.arrival.cap h.arrival.held (if more then Block (block + 1) else Nothing)) → IsAsked a.cargo (pt.view.asked p + 1) (if more then Block (block + 1) else Nothing)
    → (pt.view.asked p == pieces_of (size_at a.resident)) ≡ not more → (block + 1 == 0) ≡ false → (length a.cargo.memory / 256 == 0) ≡ false → TurnsAt b m pt l records k
memory_by b m pt l records k y p c a block h true is takes took asked test later some_ =
    let v = pt.view in
    turns_piece b m pt l records k y p c a (search (
      ap is_early is,
      at_pid v.asked p (v.asked p + 1),
      v.come,
      ap (λ (e : Bool). (if e then Line.Migration Stage.StateTaken p else Line.Proto y.id) ∷ []) later,
      ap (λ (k : MessageKind). told_step pt m y.id p (fits (free_room b pt m) (size_at a.resident).blocks) (size_at a.resident) (sort_of k)) is ∙ ap (λ (e : Bool). Some (takes_block y.id p e)) test,
      after_block pt m p y.to.pid y.id (kind_of y.what) is (told_about b m pt l records k y p c a),
      front_gone y.id c.ids (v.inbox m) c.box,
      asked_others,
      subst (λ (n : ℕ). IsAsked a.cargo n (Block (block + 1)))
          (sym (ap (λ (d : Bool). if d then (v.asked p + 1) else v.asked p) (pid_eq-same p))) asked,
    ))
memory_by b m pt l records k y p c a block h false is takes took asked test later some_ =
    turns_piece b m pt l records k y p c a (search (
      ap is_early is,
      ap (λ (k : MessageKind). told_step pt m y.id p (fits (free_room b pt m) (size_at a.resident).blocks) (size_at a.resident) (sort_of k)) is ∙ ap (λ (e : Bool). Some (takes_block y.id p e)) test,
      ap (λ (d : Bool). if d then Line.Migration Stage.StateTaken p ∷ Line.Migration Stage.MemoryTaken p ∷ [] else Line.Migration Stage.MemoryTaken p ∷ []) some_,
      last_block pt m p,
      first_gone y.id c.ids (pt.view.inbox m) c.box,
    ))

pub turns_memory : (b : Boot) (m : ℕ) (pt : Point) (l : Placed) (records : AllRecords) (k : KernelState) (y : Message) (p : Pid) (q : Pid) (block : ℕ) (bytes : _) → Comes b m pt l records k y p → y.what ≡ What.Memory q block bytes → TurnsAt b m pt l records k
turns_memory b m pt l records k y p q block bytes c e =
    let a = arrives b m pt l records k y p c in
    let r = a.resident in
    let s = record k { inbox = c.rest } in
    let carried = subst (λ (w : What). Carries p a.cargo (pt.view.asked p) (incoming_of (k.records p)) w) e a.carries in
    let is : kind_of y.what ≡ MessageKind.Memory = ap kind_of e in
    let h = before b m pt l records k y p c a (Block block) (ap is_early is) carried.2 in
    let block_pid : q ≡ a.cargo.pid = cc (carried.0) in
    let pieces : (length a.cargo.state + 511) / 512 + length a.cargo.memory / 256 ≡ pieces_of (size_at r) =
    ap (λ (z : Cargo). (length z.state + 511) / 512 + length z.memory / 256) (sym a.is_cargo) ∙ ap (λ (z : Cargo). (length z.state + 511) / 512 + length z.memory / 256) (sym (cargo_queue [] r (l.notes p)))
    ∙ pieces_same (residents.with_queue [] r) h.carried.0.lawful ∙ ap pieces_of (size_queue [] r) in
    let can_come : CanCome a.cargo h.arrival.cap = cargo_comes (resident_at l p) (l.notes p) a.cargo h.arrival.cap l.manager.machines l.manager.images a.there h.comes_.whole in
    memory_by b m pt l records k y p c a block h (nat_lt (block + 1) (length a.cargo.memory / 256)) is
    (ap (kernel_handles b s y) e ∙ ap (λ (z : Pid). hears_piece s y z (incoming_of (k.records z))) (block_pid ∙ a.named))
    ((λ i. with_piece (h.pieces i) ((e ∙ carried.0) i)) ∙ h.comes.block_taken block carried.1.1)
    (asked_after_block a.cargo (pt.view.asked p) block carried.1 (h.comes.after_block block carried.1.1))
    (block_last a.cargo (pt.view.asked p) block (pieces_of (size_at r)) pieces can_come.whole carried.1) (not_first block) (some_blocks (length a.cargo.memory) block can_come.whole carried.1.1)
  where
    not_first : (n : ℕ) → (n + 1 == 0) ≡ false
    not_first n = grind (arith, nat_tests)
