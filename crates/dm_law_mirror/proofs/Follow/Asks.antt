-- A directive to move a process or a server: the manager's message goes to it, or a line says why none does.
use Rattle.dm_law_mirror.proofs.Names.{Child, ◌≡◌, ℕ, ◌+◌, ◌≤◌, ◌==◌, Bool, true, false, List, [], ◌∷◌, refl, ap, ◌∙◌, sym, inl, inr, arith, if◌then◌else◌, cond, Option, None, Some, cases_Bool, false≢true, nat_tests, Addr, Pid}
use Rattle.dm_law_mirror.proofs.Names.{pid_eq, pid_of, place_of, Message, What, MessageKind, Step, id_of, Boot, manager, switchboard, address_at, child_named, tells_to_move, asks_manager, asks_move, told_to_move}
use Rattle.dm_law_mirror.proofs.Names.{KernelState, id_eq-same, pid_eq-is, Line, Receiver, Sender, child_number, unmoved, migrates, Point, after, moved, at_machine, standing, Run, Placed, Mirrors, mirrors_view, child_place}
use Rattle.dm_law_mirror.proofs.Names.{no_child, AllOwnStand, KernelStands, AllRecords, TokensStand, ◌≢◌, ◌&&◌, not, kind_of, plain_what, Known, Unknown, Here, Frozen, Incoming, Forward, is_fixed, is_place, is_target, own_sort, Part}
use Rattle.dm_law_mirror.proofs.Names.{with_sent, acting_place, none_some}
use Rattle.dm_procman.specs.Moving.{known_address}
use Rattle.dm_law_rule.specs.Addresses.{known_place}
use Rattle.dm_law_rule.specs.Migrating.{migrates_to}
use Rattle.dm_law_rule.specs.Holders.{ToBoard}
use Rattle.dm_law_rule.specs.View.{has_seat}
use Rattle.std.specs.Option.{unwrap_or}
use Rattle.dm_kernel.specs.State.{manager_in}
use Rattle.dm_law_mirror.proofs.Names.{Managing, Place, eqb_tells, is_here, option_map}
use Rattle.dm_law_mirror.proofs.Recorded.{recorded_manager}
use Rattle.dm_law_mirror.proofs.Residents.{same_system}
use Rattle.dm_law_mirror.proofs.Follow.Forwards.{next_free, next_untold, forwards_turn, held_coming, held_leaving}
use Rattle.dm_law_mirror.proofs.Turning.{Elsewhere, NoneEnds, own_first, MayOwn, Nothing, Own, Turns, TurnsAt}
use Rattle.dm_law_mirror.proofs.Follow.Updates.{updated_here_turn, no_move_turn, updated_ended_turn}
use Rattle.dm_law_mirror.proofs.Follow.Fronts.{Fronts}
use Rattle.dm_law_mirror.proofs.LeftOver.{tokens_less}
use Rattle.dm_kernel.specs.State as machine
use Rattle.dm_law_rule.specs.Parts as rule

-- behind the head of the directive
abbrev pub asked_point : Point → Pid → ℕ → Point
asked_point pt p to = moved pt (Line.Head (Step.Migrate p to)) pt.kernel

-- what is known then of machine m, which has the manager
pub record Asks (b : Boot) (m : ℕ) (pt : Point) (l : Placed) (records : AllRecords) (k : KernelState) : Type 0 where
  pub run : Run b pt
  pub mirrors : Mirrors pt.kernel pt.view pt.addresses l
  pub stands : KernelStands b pt l m k
  pub own : AllOwnStand pt.view l
  pub tokens : TokensStand pt.view l records
  pub mine : records m ≡ k.records
  -- the kernel has counted its own messages as the lines have
  pub counted : k.sent ≡ pt.view.count m
  -- it is the seat
  pub seat : pt.view.seat ≡ m
  pub here : pt.view.known m manager ≡ Here

-- the child that a name finds bears it
named_is : (cs : List Addr) (p : Pid) (c : Addr) → child_named p cs ≡ Some c → c.pid ≡ p
named_is [] p c e = none_some c e
named_is (d ∷ ds) p c e = elim (cases_Bool (pid_eq d.pid p)) [
  | inl same ↦
      let g : d ≡ c = cc in
      ap (λ (a : Addr). a.pid) (sym g) ∙ pid_eq-is d.pid p same
  | inr apart ↦ named_is ds p c (sym (ap (λ (b : Bool). cond b (Some d) (child_named p ds)) apart) ∙ e)
]

-- so does each address that the manager knows
address_named : (here : ℕ) (g : Managing) (p : Pid) (a : Addr) → g.board.pid ≡ switchboard → known_address here g p ≡ Some a → a.pid ≡ p
address_named here g p a to_board e = elim (cases_Bool (pid_eq p switchboard)) [
  | inl is ↦
      let f : Some g.board ≡ Some a = sym (ap (λ (c : Bool). if c then Some g.board else if pid_eq p manager then Some (address_at here g.moves) else child_named p g.children) is) ∙ e in
      let same : g.board ≡ a = cc in
      ap (λ (z : Addr). z.pid) (sym same) ∙ to_board ∙ sym (pid_eq-is p switchboard is)
  | inr off ↦
      let f : (if pid_eq p manager then Some (address_at here g.moves) else child_named p g.children) ≡ Some a = sym (ap (λ (c : Bool). if c then Some g.board else if pid_eq p manager then Some (address_at here g.moves) else child_named p g.children) off) ∙ e in
      elim (cases_Bool (pid_eq p manager)) [
        | inl is ↦
            let h : Some (address_at here g.moves) ≡ Some a = sym (ap (λ (c : Bool). if c then Some (address_at here g.moves) else child_named p g.children) is) ∙ f in
            let same : address_at here g.moves ≡ a = cc in
            ap (λ (z : Addr). z.pid) (sym same) ∙ sym (pid_eq-is p manager is)
        | inr other ↦ named_is g.children p a (sym (ap (λ (c : Bool). if c then Some (address_at here g.moves) else child_named p g.children) other) ∙ f)
      ]
]

-- where the manager knows its receiver to be, as the lines say
child_is : (pt : Point) (l : Placed) (p : Pid) → Mirrors pt.kernel pt.view pt.addresses l → (o : Option Addr) → child_named p l.manager.children ≡ o → option_map (λ (n : ℕ). pt.addresses (Child n)) (child_number pt.kernel p) ≡ option_map place_of o
child_is pt l p h None e = ap (option_map (λ (n : ℕ). pt.addresses (Child n))) (no_child pt.kernel pt.view pt.addresses l p h e)
child_is pt l p h (Some a) e =
    let (n, number, place) = child_place pt.kernel pt.view pt.addresses l p a h e in
    ap (option_map (λ (n : ℕ). pt.addresses (Child n))) number ∙ ap Some place

known_is : (pt : Point) (l : Placed) (p : Pid) → Mirrors pt.kernel pt.view pt.addresses l → (here m : ℕ) → here ≡ m → (o : Option Addr) → known_address here l.manager p ≡ o → known_place pt.kernel pt.view m pt.addresses p ≡ option_map place_of o
known_is pt l p h here m same o e = elim (cases_Bool (pid_eq p switchboard)) [
  | inl is ↦
      ap (λ (c : Bool). if c then Some (pt.addresses ToBoard) else if pid_eq p manager then Some (record { at = m; moves = pt.view.moves p }) else option_map (λ (n : ℕ). pt.addresses (Child n)) (child_number pt.kernel p)) is
      ∙ ap Some h.places.board
      ∙ ap (option_map place_of) (sym (ap (λ (c : Bool). if c then Some l.manager.board else if pid_eq p manager then Some (address_at here l.manager.moves) else child_named p l.manager.children) is) ∙ e)
  | inr off ↦
      ap (λ (c : Bool). if c then Some (pt.addresses ToBoard) else if pid_eq p manager then Some (record { at = m; moves = pt.view.moves p }) else option_map (λ (n : ℕ). pt.addresses (Child n)) (child_number pt.kernel p)) off
      ∙ elim (cases_Bool (pid_eq p manager)) [
        | inl is ↦
            ap (λ (c : Bool). if c then Some (record { at = m; moves = pt.view.moves p }) else option_map (λ (n : ℕ). pt.addresses (Child n)) (child_number pt.kernel p)) is
            ∙ (λ i. Some (record { at = sym same i; moves = (ap pt.view.moves (pid_eq-is p manager is) ∙ sym h.places.manager_moves) i }))
            ∙ ap (option_map place_of) (sym (ap (λ (c : Bool). if c then Some (address_at here l.manager.moves) else child_named p l.manager.children) is)
            ∙ sym (ap (λ (c : Bool). if c then Some l.manager.board else if pid_eq p manager then Some (address_at here l.manager.moves) else child_named p l.manager.children) off) ∙ e)
        | inr other ↦
            ap (λ (c : Bool). if c then Some (record { at = m; moves = pt.view.moves p }) else option_map (λ (n : ℕ). pt.addresses (Child n)) (child_number pt.kernel p)) other
            ∙ child_is pt l p h o (sym (ap (λ (c : Bool). if c then Some (address_at here l.manager.moves) else child_named p l.manager.children) other)
            ∙ sym (ap (λ (c : Bool). if c then Some l.manager.board else if pid_eq p manager then Some (address_at here l.manager.moves) else child_named p l.manager.children) off) ∙ e)
      ]
]

module _ (b : Boot) (m : ℕ) (pt : Point) (l : Placed) (records : AllRecords) (k : KernelState) (c : Asks b m pt l records k) (p : Pid) (to : ℕ) where
  has_it_here : has_seat pt.view ≡ true
  has_it_here = ap (λ (n : ℕ). is_here (pt.view.known n manager)) c.seat ∙ ap is_here c.here

  acts : (asked_point pt p to).view.acting ≡ m
  acts = ap (λ (d : Bool). if d then pt.view.seat else 0) has_it_here ∙ c.seat

  tokens_asked : TokensStand (asked_point pt p to).view l (at_machine records m k.records)
  tokens_asked =
      tokens_less pt.view (asked_point pt p to).view l records (at_machine records m k.records) (λ i. refl) (λ q. refl) (λ n q. refl)
      (λ n q. ap (λ (f : Pid → Option machine.KernelKnown). f q) (let e_ : (if (m == n) then k.records else records n) ≡ records n = grind (arith, nat_tests, eqb_tells, c.mine) in e_))
      (λ i t z told between least. (z, (let e_ : 1 ≤ standing pt.view i z = grind (arith, nat_tests) in e_))) c.tokens

  own_asked : AllOwnStand (asked_point pt p to).view l
  own_asked i x there plain = let o = c.own i x there plain in record { told = o.told; mine = o.mine; sender = o.sender }

  kernel_asked : KernelStands b (asked_point pt p to) l m k
  kernel_asked = search c.stands.known

  elsewhere_asked : Elsewhere m (asked_point pt p to) l (asked_point pt p to) l
  elsewhere_asked = search (acts, same_system l)

  -- a line that changes nothing says why there is no message
  asked_line : (said : Line) → asks_move k p to ≡ Some (record { state = k; parts = Part.Says said ∷ [] }) → migrates pt p ≡ rule.Says said ∷ []
      → after (asked_point pt p to) (said ∷ []) ≡ Some (asked_point pt p to) → Turns b m (Step.Migrate p to) (asks_move k p to) pt (asked_point pt p to) l records k
  asked_line said turn is goes = record {
    state = k;
    says = said ∷ [];
    routes = [];
    late = Nothing;
    turn = turn;
    outcome = ap Some is;
    next = asked_point pt p to;
    after = goes;
    placed = l;
    mirrors = mirrors_view pt.kernel pt.view (asked_point pt p to).view pt.addresses l refl c.mirrors;
    kernel = kernel_asked;
    sent = λ e. e ∙ (let f : pt.view.count m ≡ pt.view.count m + (0 + 0) = omega arith in f);
    elsewhere = elsewhere_asked;
    may = tt;
    late_may = tt;
    over = NoneEnds refl (λ q. refl);
    topic = tt;
    own = own_asked;
    tokens = tokens_asked;
  }

  -- the message that tells it to move, from a manager that has moved so often
  abbrev move_of : Addr → Message
  move_of a = record { id = machine.own_id k; to = a; sender = address_at k.here l.manager.moves; what = What.Migrate to }

  move_may : (records_ : AllRecords) (a : Addr) → known_address k.here l.manager p ≡ Some a → MayOwn (asked_point pt p to) l records_ 0 (move_of a)
  move_may records_ a found =
      let q = asked_point pt p to in
      let named : machine.own_id k ≡ id_of (pid_of m 0) (pt.view.count m) = λ i. record { from = pid_of (c.stands.here i) 0; n = c.counted i; answer = false } in
      let acting : id_of (pid_of m 0) (pt.view.count m) ≡ id_of (pid_of q.view.acting 0) (pt.view.count q.view.acting) = ap (λ (n : ℕ). id_of (pid_of n 0) (pt.view.count n)) (sym acts) in
      let known = known_is pt l p c.mirrors k.here m c.stands.here (known_address k.here l.manager p) refl in
      let is : a.pid ≡ p = address_named k.here l.manager p a c.mirrors.plain.to_board found in
      let i = machine.own_id k in
      let place : unwrap_or (known_place pt.kernel q.view q.view.acting pt.addresses a.pid) (unmoved 0) ≡ place_of a =
      (λ j. unwrap_or (known_place pt.kernel q.view (acts j) pt.addresses (is j)) (unmoved 0)) ∙ ap (λ (o : Option Place). unwrap_or o (unmoved 0)) (known ∙ ap (option_map place_of) found) in
      record {
        id = named ∙ acting ∙ own_first q.view;
        plain = refl;
        encloses = refl;
        bag = ap l.bag named ∙ next_free b m pt l c.run c.mirrors c.own;
        untold = ap pt.view.told named ∙ next_untold b m pt c.run;
        receiver = ap (λ (t : Bool). if t then unwrap_or (known_place pt.kernel q.view q.view.acting pt.addresses a.pid) (unmoved 0) else pt.addresses (Receiver i)) (id_eq-same i) ∙ place;
        sender = ap (λ (t : Bool). if t then acting_place q.view manager else pt.addresses (Sender i)) (id_eq-same i)
            ∙ (λ j. record { at = (acts ∙ sym c.stands.here) j; moves = sym c.mirrors.places.manager_moves j });
        about = refl;
        asker = λ e. refl;
        carried = λ e r f. absurd (false≢true e);
      }

  asked_by : (o : Option Addr) → known_address k.here l.manager p ≡ o → asks_move k p to ≡ told_to_move k p (tells_to_move k.here l.manager.moves (machine.own_id k) to o) → migrates pt p ≡ migrates_to p (option_map place_of o) → Turns b m (Step.Migrate p to) (asks_move k p to) pt (asked_point pt p to) l records k
  asked_by None found turn is = asked_line (Line.NoChild p) turn is refl
  asked_by (Some a) found turn is =
      let sent : KernelStands b (asked_point pt p to) l m (with_sent k) = sent_asked kernel_asked in
      record {
        state = with_sent k;
        says = [];
        routes = Own (move_of a) ∷ [];
        late = Nothing;
        turn = turn;
        outcome = ap Some (is ∙ (λ i. rule.Owns MessageKind.Migrate (sym (address_named k.here l.manager p a c.mirrors.plain.to_board found) i) a.at ∷ []));
        next = asked_point pt p to;
        after = refl;
        placed = l;
        mirrors = mirrors_view pt.kernel pt.view (asked_point pt p to).view pt.addresses l refl c.mirrors;
        kernel = sent;
        sent = λ e. (let f : k.sent + 1 ≡ pt.view.count m + ((1 + 0) + 0) = omega (arith, e) in f);
        elsewhere = elsewhere_asked;
        may = (move_may (at_machine records m (with_sent k).records) a found, tt);
        late_may = tt;
        over = NoneEnds refl (λ q. refl);
        topic = tt;
        own = own_asked;
        tokens = tokens_asked;
      }
    where
      sent_asked : KernelStands b (asked_point pt p to) l m k → KernelStands b (asked_point pt p to) l m (with_sent k)
      sent_asked h = record { here = h.here; known = h.known; ring = h.ring; inbox = h.inbox; made = h.made; room = h.room; preds = h.preds }

  pub asks_turn : Turns b m (Step.Migrate p to) (asks_move k p to) pt (moved pt (Line.Head (Step.Migrate p to)) pt.kernel) l records k
  asks_turn =
      let there : manager_in (k.records manager) ≡ Some l.manager = ap manager_in (recorded_manager b pt l m k c.stands c.here) in
      let known = known_is pt l p c.mirrors k.here m c.stands.here (known_address k.here l.manager p) refl in
      asked_by (known_address k.here l.manager p) refl (ap (asks_manager k p to) there)
      (ap (λ (d : Bool). if d then migrates_to p (known_place pt.kernel pt.view pt.view.seat pt.addresses p) else rule.Says Line.Away ∷ []) has_it_here
      ∙ ap (λ (n : ℕ). migrates_to p (known_place pt.kernel pt.view n pt.addresses p)) c.seat ∙ ap (migrates_to p) known)

-- A message for what isn't here, an update, and a request to move what isn't here: by what the machine knows.

-- a process that leaves, comes or has gone on
abbrev pub is_apart : Known → Bool
is_apart (Frozen to) = true
is_apart (Incoming from) = true
is_apart (Forward at moves) = true
is_apart _ = false

-- whatever the message is, it is held or goes on
pub apart_turn : (b : Boot) (m : ℕ) (pt : Point) (l : Placed) (records : AllRecords) (k : KernelState) (y : Message) (c : Fronts b m pt l records k y) (w : Known) → is_fixed y.to.pid ≡ false → pt.view.known m y.to.pid ≡ w → is_apart w ≡ true → TurnsAt b m pt l records k
apart_turn b m pt l records k y c (Frozen to) fixed knows e = held_leaving b m pt l records k y c to fixed knows
apart_turn b m pt l records k y c (Incoming from) fixed knows e = held_coming b m pt l records k y c from fixed knows
apart_turn b m pt l records k y c (Forward at moves) fixed knows e = forwards_turn b m pt l records k y c at moves fixed knows
apart_turn b m pt l records k y c _ fixed knows e = absurd (false≢true e)

-- an own message is of a sort
pub front_sort : (b : Boot) (m : ℕ) (pt : Point) (l : Placed) (records : AllRecords) (k : KernelState) (y : Message) (c : Fronts b m pt l records k y) → plain_what y.what ≡ None → own_sort (kind_of y.what) y.to.pid c.told.about ≡ true
front_sort b m pt l records k y c none = grind (arith, nat_tests)

-- an update, by what is known of its receiver
update_known : (b : Boot) (m : ℕ) (pt : Point) (l : Placed) (records : AllRecords) (k : KernelState) (y : Message) (c : Fronts b m pt l records k y) (about : Addr) (w : Known) → is_fixed y.to.pid ≡ false → y.what ≡ What.Update about → pt.view.known m y.to.pid ≡ w → TurnsAt b m pt l records k
update_known b m pt l records k y c about Unknown fixed e knows = updated_ended_turn b m pt l records k y c about fixed knows e
update_known b m pt l records k y c about Here fixed e knows = updated_here_turn b m pt l records k y c about fixed knows e
update_known b m pt l records k y c about (Frozen to) fixed e knows = held_leaving b m pt l records k y c to fixed knows
update_known b m pt l records k y c about (Incoming from) fixed e knows = held_coming b m pt l records k y c from fixed knows
update_known b m pt l records k y c about (Forward at moves) fixed e knows = forwards_turn b m pt l records k y c at moves fixed knows

-- an update, wherever it comes
pub update_turn : (b : Boot) (m : ℕ) (pt : Point) (l : Placed) (records : AllRecords) (k : KernelState) (y : Message) (c : Fronts b m pt l records k y) (about : Addr) → y.what ≡ What.Update about → TurnsAt b m pt l records k
update_turn b m pt l records k y c about e =
    let none = ap plain_what e in
    let sort : (not (y.to.pid.num == 0) && is_place c.told.about) ≡ true = ap (λ (w : What). own_sort (kind_of w) y.to.pid c.told.about) (sym e) ∙ front_sort b m pt l records k y c none in
    let num : (y.to.pid.num == 0) ≡ false = grind (arith, nat_tests) in
    update_known b m pt l records k y c about (pt.view.known m y.to.pid) num e refl

-- a request to move is for no kernel
pub migrate_process : (b : Boot) (m : ℕ) (pt : Point) (l : Placed) (records : AllRecords) (k : KernelState) (y : Message) (c : Fronts b m pt l records k y) (to : ℕ) → y.what ≡ What.Migrate to → is_fixed y.to.pid ≡ false
migrate_process b m pt l records k y c to e =
    let sort : (not (is_fixed y.to.pid) && is_target c.told.about) ≡ true = ap (λ (w : What). own_sort (kind_of w) y.to.pid c.told.about) (sym e) ∙ front_sort b m pt l records k y c (ap plain_what e) in
    grind (arith, nat_tests)

-- where its receiver isn't here
pub migrate_apart : (b : Boot) (m : ℕ) (pt : Point) (l : Placed) (records : AllRecords) (k : KernelState) (y : Message) (c : Fronts b m pt l records k y) (to : ℕ) (w : Known) → y.what ≡ What.Migrate to → pt.view.known m y.to.pid ≡ w → w ≢ Here → TurnsAt b m pt l records k
migrate_apart b m pt l records k y c to Unknown e knows off = no_move_turn b m pt l records k y c to (migrate_process b m pt l records k y c to e) knows e
migrate_apart b m pt l records k y c to Here e knows off = absurd (off refl)
migrate_apart b m pt l records k y c to (Frozen d) e knows off = held_leaving b m pt l records k y c d (migrate_process b m pt l records k y c to e) knows
migrate_apart b m pt l records k y c to (Incoming s) e knows off = held_coming b m pt l records k y c s (migrate_process b m pt l records k y c to e) knows
migrate_apart b m pt l records k y c to (Forward at moves) e knows off = forwards_turn b m pt l records k y c at moves (migrate_process b m pt l records k y c to e) knows
