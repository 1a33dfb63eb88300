-- What the two servers take, with places: the manager's answers about children, and both servers' rows together.
use Rattle.dm_law_places.proofs.Names.{◌≡◌, ℕ, ◌+◌, Bool, true, false, List, [], ◌∷◌, ◌++◌, length, refl, ap, ◌∙◌, sym, subst, arith, if◌then◌else◌, map, option_map, slice_get, Option, None, Some, nat_tests, length-map, Pid, Addr, Link, Place}
use Rattle.dm_law_places.proofs.Names.{pid_eq, place_of, PlainLink, plain_link, MsgId, Message, What, id_of, Label, PlainMessage, PlainWhat, plain_message, plain_what, manager, switchboard, bind, Manager, OneKernel, goes_over, Pending}
use Rattle.dm_law_places.proofs.Names.{Managing, at_home, plain_child, plain_manager, plain_pending, answer_over, control_link, Taken, child_address, pending_request, plain_bear, plain_pending_numbered, plain_without, id_eq-same, bind-is, View}
use Rattle.dm_law_places.proofs.Names.{Addresses, Gets, gets, given, gives, Receiver, Sender, Enclosed, Child, Name, Answer, acting_place, unmoved, board_gets, manager_answers, manager_sends, manager_gets, SameProcess, SameMessage, Placed, Mirrors}
use Rattle.dm_law_places.proofs.Names.{MirrorsKernel, MirrorsMessage, enclosed, board_took, manager_took, without_message, AnswerNames, AskedBy, ToBoard, Outcome, code_of_outcome, none_some}
use Rattle.dm_law_places.proofs.Keeps.{answer_as, came_places, kernel_out, kernel_sent, manager_place, message_same, parts, place_after, places_out, process_same, there_of}
use Rattle.dm_law_places.proofs.Labels.Acts.{Follows}
use Rattle.dm_law_places.proofs.Labels.Boards.{board_row}
use Rattle.dm_law_places.proofs.Pendings.{child_last, still_pending}
use Rattle.dm_law_places.proofs.Labels.Managers.{InOrder, user_mirrors}
use Rattle.dm_law_places.proofs.Whats.{user_what, created_what, moved_what, no_room_what}
use Rattle.dm_onekernel.specs.Manager as one
use Rattle.dm_onekernel.specs.Service as service
use Rattle.dm_onekernel.specs.Step as kernel
use Rattle.dm_onekernel.specs.Switchboard as boards
use Rattle.dm_procman.specs.Taking as take
use Rattle.dm_switchboard.specs.Taking as board
use Rattle.dm_law_rule.specs.Addresses as addresses
use Rattle.dm_law_places.specs.PlacedStep as placed

-- the link of an answer about a child, if it carries one
enclosed_one : (a : Addresses) (sent : MsgId) (pl : Place) (ls : List Link) → ((k : ℕ) (w : Link) → slice_get ls k ≡ Some w → (k ≡ 0) × (pl ≡ place_of w.addr)) → (k : ℕ) (w : Link) → slice_get ls k ≡ Some w
    → given a (gets (Enclosed sent 0) pl ∷ []) (Enclosed sent k) ≡ place_of w.addr
enclosed_one a sent pl ls h k w e = grind (arith, nat_tests, id_eq-same)

one_link : (place : Place) (w : Link) → place ≡ place_of w.addr → (k : ℕ) (u : Link) → slice_get (w ∷ []) k ≡ Some u → (k ≡ 0) × (place ≡ place_of u.addr)
one_link place w h1 k u h2 = search arith

-- the manager goes on as g, and answers over the link of a request: c is a with what a new child gives
answers_mirrors : (s : OneKernel) (v : View) (a c : Addresses) (l : Placed) (id : MsgId) (n : ℕ) (r : Pending) (g : Managing) (k : Manager) (byte : ℕ) (ws : List Link) (over : Option Link) → r.answer ≡ over
    → pending_request n l.manager.pending ≡ Some r → InOrder l.manager → Mirrors s v a l
    → ((j : ℕ) (w : Link) → slice_get ws j ≡ Some w → (j ≡ 0) × (acting_place v manager ≡ place_of w.addr)) → plain_manager g ≡ k → g.board ≡ l.manager.board → g.moves ≡ l.manager.moves → g.pending ≡ take.without_pending n l.manager.pending → g.machines ≡ l.manager.machines → g.images ≡ l.manager.images
    → ((q : Pid) → SameProcess a c q) → ((i : MsgId) → SameMessage a c i) → ((j : ℕ) → c (Name j) ≡ a (Name j)) → ((j : ℕ) → c (Answer j) ≡ a (Answer j)) → ((q : Pid) → c (AskedBy q) ≡ a (AskedBy q)) → c ToBoard ≡ a ToBoard
    → ((j : ℕ) (w : Addr) → child_address g.children j ≡ Some w → c (Child j) ≡ place_of w)
    → Mirrors (service.manager_took s id (one.answers_over k (option_map plain_link over) byte (map plain_link ws))) v
    (given c (manager_answers v a n (one.answers_over k (option_map plain_link over) byte (map plain_link ws)).message))
    (manager_took (without_message l id) (take.answers_over v.acting g over byte ws))
answers_mirrors s v a c l id n r g k byte ws None is there order h one_is plain_is known moves pending machines images process message name answer asked to_board child =
    let u = kernel_out s l id h.plain in
    let o = places_out v a l id h.places in
    record {
      plain = record { processes = u.processes; bag = u.bag; notes = u.notes; noted = u.noted; board = u.board; manager = plain_is; machines = machines ∙ u.machines; images = images ∙ u.images; to_board = ap (λ (o : Addr). o.pid) known ∙ u.to_board };
      places = record {
        process = λ p x e. process_same v a c p x (process p) (o.process p x e);
        message = λ i x e. message_same a c i x (message i) (o.message i x e);
        name = λ j w e. name j ∙ h.places.name j w e;
        child = child;
        answer = λ j w e. answer_as w.answer (answer j) (h.places.answer j w (still_pending l.manager.pending 0 l.manager.sent n j w order (ap (pending_request j) (sym pending) ∙ e)));
        asker = λ q w e. asked q ∙ h.places.asker q w e;
        board = to_board ∙ h.places.board ∙ ap place_of (sym known);
        board_moves = h.places.board_moves;
        manager_moves = moves ∙ h.places.manager_moves;
      };
    }
answers_mirrors s v a c l id n r g k byte ws (Some over) is there order h one_is plain_is known moves pending machines images process message name answer asked to_board child =
    let sent = id_of manager g.sent in
    let from = acting_place v manager in
    let to = a (Answer n) in
    let b = given c (gets (Receiver sent) to ∷ gets (Sender sent) from ∷ gets (Enclosed sent 0) from ∷ []) in
    let m = answer_over v.acting g.moves g.sent over byte ws in
    let q = goes_over manager g.sent (plain_link over) (byte ∷ []) (map plain_link ws) in
    let u = kernel_out s l id h.plain in
    let o = places_out v a l id h.places in
    let s' = record (service.without_message s id) { manager = record (plain_manager g) { sent = g.sent + 1 } } in
    let l' = record (without_message l id) { manager = record g { sent = g.sent + 1 } } in
    let plain : MirrorsKernel s' l' = record { processes = u.processes; bag = u.bag; notes = u.notes; noted = u.noted; board = u.board; manager = refl; machines = machines ∙ u.machines; images = images ∙ u.images; to_board = ap (λ (o : Addr). o.pid) known ∙ u.to_board } in
    subst (λ (z : Manager). Mirrors (service.manager_took s id (one.answers_over z (Some (plain_link over)) byte (map plain_link ws))) v (given c (manager_answers v a n (one.answers_over z (Some (plain_link over)) byte (map plain_link ws)).message)) (manager_took (without_message l id) (take.answers v.acting g over byte ws))) plain_is
    (record {
      plain = kernel_sent s' l' q m refl plain;
      places = record {
        process = λ p x e. process_same v a b p x (let w = process p in record { slot = w.slot; owner = w.owner }) (h.places.process p x e);
        message = came_places a b l' m o.message
            (λ i e. let w = message i in (search (arith)))
            (search (
              ap (λ (d : Bool). if d then to else c (Receiver sent)) (id_eq-same sent) ∙ subst (λ (w : Option Link). AnswerNames w to) is (h.places.answer n r there),
              ap (λ (d : Bool). if d then from else c (Sender sent)) (id_eq-same sent) ∙ manager_place s v a l h ∙ ap (place_after v.acting) (sym moves),
              enclosed_one c sent from ws one_is,
            ));
        name = λ j w e. name j ∙ h.places.name j w e;
        child = child;
        answer = λ j w e. answer_as w.answer (answer j) (h.places.answer j w (still_pending l.manager.pending 0 l.manager.sent n j w order (ap (pending_request j) (sym pending) ∙ e)));
        asker = λ q w e. asked q ∙ h.places.asker q w e;
        board = to_board ∙ h.places.board ∙ ap place_of (sym known);
        board_moves = h.places.board_moves;
        manager_moves = moves ∙ h.places.manager_moves;
      };
    })

-- the kernel's manager has the request that this one has
pending_is : (s : OneKernel) (l : Placed) (n : ℕ) → plain_manager l.manager ≡ s.manager → one.pending_numbered n s.manager.pending ≡ option_map plain_pending (pending_request n l.manager.pending)
pending_is s l n e = ap (λ (g : Manager). one.pending_numbered n g.pending) (sym e) ∙ plain_pending_numbered n l.manager.pending

-- a row of the manager's: what it takes, and what that leads to
record TookTo (s : OneKernel) (v : View) (b : Addresses) (l : Placed) (id : MsgId) (k : one.ManagerTook) (o : Option Taken) : Type 0 where
  t : Taken
  takes : o ≡ Some t
  mirrors : Mirrors (service.manager_took s id k) v b (manager_took (without_message l id) t)

-- what a new child gives is given first or last
child_first : (s : OneKernel) (v : View) (a : Addresses) (l : Placed) (j : ℕ) (pl : Place) (n : ℕ) (m : Option PlainMessage) → Mirrors s v (given (given a (gets (Child j) pl ∷ [])) (manager_answers v a n m)) l
    → Mirrors s v (given a (gets (Child j) pl ∷ manager_answers v a n m)) l
child_first s v a l j pl n None h = h
child_first s v a l j pl n (Some q) h = search arith

-- the child stands
created_by : (s : OneKernel) (v : View) (a : Addresses) (l : Placed) (id : MsgId) (n : ℕ) (child : Pid) (p : Option Pending) (k : one.ManagerTook) → pending_request n l.manager.pending ≡ p
    → (one.takes_answer s.manager n (s.manager.children ++ child ∷ []) 0 (one.control_link (length s.manager.children + 1) ∷ [])) (option_map plain_pending p) ≡ Some k
    → InOrder l.manager → Mirrors s v a l
    → TookTo s v (given a (gets (Child (length s.manager.children + 1)) (unmoved child.home) ∷ manager_answers v a n k.message)) l id k (take.takes_created v.acting l.manager n child p)
created_by s v a l id n child None k is e order h = none_some k e
created_by s v a l id n child (Some r) k is e order h =
    let cs = l.manager.children in
    let w = control_link v.acting l.manager.moves (length cs + 1) in
    let g : Managing = record (take.settled l.manager n) { children = cs ++ at_home child ∷ [] } in
    let after : Manager = record s.manager { children = s.manager.children ++ child ∷ []; pending = one.without_pending n s.manager.pending } in
    let plain_is : plain_manager g ≡ after =
    (λ i. record { children = plain_bear cs (at_home child) i; pending = plain_without n l.manager.pending i; sent = l.manager.sent })
    ∙ ap (λ (z : Manager). record z { children = z.children ++ child ∷ []; pending = one.without_pending n z.pending }) h.plain.manager
    in
    let longer : length (map plain_child cs) ≡ length s.manager.children = ap (λ (z : Manager). length z.children) h.plain.manager in
    let count : length cs ≡ length s.manager.children = sym (length-map cs plain_child) ∙ longer in
    let f : one.answers_over after (option_map plain_link r.answer) 0 (one.control_link (length s.manager.children + 1) ∷ []) ≡ k = cc in
    let j = length s.manager.children + 1 in
    let pl = unmoved child.home in
    let c = given a (gets (Child j) pl ∷ []) in
    let children : (i : ℕ) (u : Addr) → child_address g.children i ≡ Some u → c (Child i) ≡ place_of u =
    λ i u there. ap (λ (z : ℕ). given a (gets (Child (z + 1)) pl ∷ []) (Child i)) (sym longer) ∙ child_last cs child i u a h.places.child there
    in
    let t = take.answers_over v.acting g r.answer 0 (w ∷ []) in
    let u = answers_mirrors s v a c l id n r g after 0 (w ∷ []) r.answer refl is order h (one_link (acting_place v manager) w (manager_place s v a l h)) plain_is refl refl refl refl refl
    (λ q. record { slot = λ i. refl; owner = refl }) (λ i. record { receiver = refl; sender = refl; enclosed = λ i. refl }) (λ i. refl) (λ i. refl) (λ q. refl) refl children in
    let told = λ (z : ℕ). one.answers_over after (option_map plain_link r.answer) 0 (one.control_link (z + 1) ∷ []) in
    let on = manager_took (without_message l id) t in
    search
    (subst (λ (z : one.ManagerTook). Mirrors (service.manager_took s id z) v (given a (gets (Child j) pl ∷ manager_answers v a n z.message)) on) (ap told count ∙ f)
    (child_first (service.manager_took s id (told (length cs))) v a on j pl n (told (length cs)).message u))

-- a request has ended otherwise
ended_by : (s : OneKernel) (v : View) (a : Addresses) (l : Placed) (id : MsgId) (n byte : ℕ) (r : Pending) (k : one.ManagerTook) → pending_request n l.manager.pending ≡ Some r
    → one.answers_over (record s.manager { pending = one.without_pending n s.manager.pending }) (option_map plain_link r.answer) byte [] ≡ k → InOrder l.manager → Mirrors s v a l
    → TookTo s v (given a (manager_answers v a n k.message)) l id k (Some (take.answers_over v.acting (take.settled l.manager n) r.answer byte []))
ended_by s v a l id n byte r k is f order h =
    let g = take.settled l.manager n in
    let after : Manager = record s.manager { pending = one.without_pending n s.manager.pending } in
    let plain_is : plain_manager g ≡ after =
    (λ i. record { children = map plain_child l.manager.children; pending = plain_without n l.manager.pending i; sent = l.manager.sent })
    ∙ ap (λ (z : Manager). record z { pending = one.without_pending n z.pending }) h.plain.manager
    in
    let t = take.answers_over v.acting g r.answer byte [] in
    let u = answers_mirrors s v a a l id n r g after byte [] r.answer refl is order h (λ i x there. absurd (let z : None ≡ Some x = there in cc)) plain_is refl refl refl refl refl
    (λ q. record { slot = λ i. refl; owner = refl }) (λ i. record { receiver = refl; sender = refl; enclosed = λ i. refl }) (λ i. refl) (λ i. refl) (λ q. refl) refl h.places.child in
    record { t = t; takes = refl; mirrors = subst (λ (z : one.ManagerTook). Mirrors (service.manager_took s id z) v (given a (manager_answers v a n z.message)) (manager_took (without_message l id) t)) f u }

no_room_by : (s : OneKernel) (v : View) (a : Addresses) (l : Placed) (id : MsgId) (n : ℕ) (p : Option Pending) (k : one.ManagerTook) → pending_request n l.manager.pending ≡ p
    → (one.takes_answer s.manager n s.manager.children 1 []) (option_map plain_pending p) ≡ Some k
    → InOrder l.manager → Mirrors s v a l → TookTo s v (given a (manager_answers v a n k.message)) l id k (take.takes_no_room v.acting l.manager n p)
no_room_by s v a l id n None k is e order h = none_some k e
no_room_by s v a l id n (Some r) k is e order h =
    let after : Manager = record s.manager { pending = one.without_pending n s.manager.pending } in
    ended_by s v a l id n 1 r k is (let f : one.answers_over after (option_map plain_link r.answer) 1 [] ≡ k = cc in f) order h

moved_by : (s : OneKernel) (v : View) (a : Addresses) (l : Placed) (id : MsgId) (n : ℕ) (outcome : Outcome) (p : Option Pending) (k : one.ManagerTook) → pending_request n l.manager.pending ≡ p
    → (one.takes_answer s.manager n s.manager.children (code_of_outcome outcome) []) (option_map plain_pending p) ≡ Some k → InOrder l.manager → Mirrors s v a l
    → TookTo s v (given a (manager_answers v a n k.message)) l id k (take.takes_moved v.acting l.manager n outcome p)
moved_by s v a l id n outcome None k is e order h = none_some k e
moved_by s v a l id n outcome (Some r) k is e order h =
    let after : Manager = record s.manager { pending = one.without_pending n s.manager.pending } in
    ended_by s v a l id n (code_of_outcome outcome) r k is (let f : one.answers_over after (option_map plain_link r.answer) (code_of_outcome outcome) [] ≡ k = cc in f) order h

abbrev manager_gives : OneKernel → View → Addresses → PlainMessage → PlainWhat → Addresses
manager_gives s v a k u = given a (manager_gets s v a k u (one.manager_takes s.manager s.machines (length s.images) k u))

-- what the manager takes with places
abbrev manager_step : ℕ → Placed → MsgId → ℕ → What → Option Placed
manager_step here l id n w = bind (take.takes here l.manager n w) (λ (z : Taken). Some (manager_took (without_message l id) z))

manager_row : (s t : OneKernel) (v : View) (a : Addresses) (l : Placed) (id : MsgId) (m : Message) (k : PlainMessage) (u : PlainWhat) → m.id ≡ k.id → plain_what m.what ≡ Some u → MirrorsMessage a id m → InOrder l.manager → Mirrors s v a l
    → bind (one.manager_takes s.manager s.machines (length s.images) k u) (λ (z : one.ManagerTook). Some (service.manager_took s id z)) ≡ Some t → Follows t v (manager_gives s v a k u) (manager_step v.acting l id m.id.n m.what)
manager_row s t v a l id m k (PlainWhat.User code channel bytes ls) name says hm order h e =
    let w = user_what m.what code channel bytes ls says in
    let body = w.body.items in
    let links = w.links.items in
    let q = λ (bs : List ℕ) (ks : List PlainLink). one.takes_user s.manager s.machines (length s.images) code bs ks in
    let f : service.manager_took s id (q bytes ls) ≡ t = cc in
    let z = take.takes_user v.acting l.manager code body links in
    let on = manager_took (without_message l id) z in (
      on,
      ap (manager_step v.acting l id m.id.n) w.is,
      subst (λ (o : OneKernel). Mirrors o v (given a (manager_sends v a k.id code (q bytes ls).message)) on) f
          (subst (λ (x : one.ManagerTook). Mirrors (service.manager_took s id x) v (given a (manager_sends v a k.id code x.message)) on) (λ i. q (w.bytes_are i) (w.links_are i))
          (user_mirrors s v a l id k.id code body links
          (λ n x g. ap (λ (i : MsgId). a (Enclosed i n)) (sym name ∙ hm.id) ∙ hm.enclosed n x (ap (λ (y : What). slice_get (enclosed y) n) w.is ∙ g)) order h)),
    )
manager_row s t v a l id m k (PlainWhat.Created child) name says hm order h e =
    let n = k.id.n in
    let o = (one.takes_answer s.manager n (s.manager.children ++ child ∷ []) 0 (one.control_link (length s.manager.children + 1) ∷ [])) (one.pending_numbered n s.manager.pending) in
    let (z, took, last) = bind-is o (λ (x : one.ManagerTook). Some (service.manager_took s id x)) t e in
    let f : service.manager_took s id z ≡ t = cc in
    let p = pending_request n l.manager.pending in
    let r = created_by s v a l id n child p z refl (ap (one.takes_answer s.manager n (s.manager.children ++ child ∷ []) 0 (one.control_link (length s.manager.children + 1) ∷ [])) (sym (pending_is s l n h.plain.manager)) ∙ took) order h in
    let on = manager_took (without_message l id) r.t in (
      on,
      (λ i. manager_step v.acting l id (name i).n (created_what m.what child says i)) ∙ ap (λ (x : Option Taken). bind x (λ (y : Taken). Some (manager_took (without_message l id) y))) r.takes,
      subst (λ (x : OneKernel). Mirrors x v (given a (manager_gets s v a k (PlainWhat.Created child) o)) on) f
          (subst (λ (x : Option one.ManagerTook). Mirrors (service.manager_took s id z) v (given a (manager_gets s v a k (PlainWhat.Created child) x)) on) (sym took) r.mirrors),
    )
manager_row s t v a l id m k PlainWhat.NoRoom name says hm order h e =
    let n = k.id.n in
    let o = (one.takes_answer s.manager n s.manager.children 1 []) (one.pending_numbered n s.manager.pending) in
    let (z, took, last) = bind-is o (λ (x : one.ManagerTook). Some (service.manager_took s id x)) t e in
    let f : service.manager_took s id z ≡ t = cc in
    let p = pending_request n l.manager.pending in
    let r = no_room_by s v a l id n p z refl (ap (one.takes_answer s.manager n s.manager.children 1 []) (sym (pending_is s l n h.plain.manager)) ∙ took) order h in
    let on = manager_took (without_message l id) r.t in (
      on,
      (λ i. manager_step v.acting l id (name i).n (no_room_what m.what says i)) ∙ ap (λ (x : Option Taken). bind x (λ (y : Taken). Some (manager_took (without_message l id) y))) r.takes,
      subst (λ (x : OneKernel). Mirrors x v (given a (manager_gets s v a k PlainWhat.NoRoom o)) on) f
          (subst (λ (x : Option one.ManagerTook). Mirrors (service.manager_took s id z) v (given a (manager_gets s v a k PlainWhat.NoRoom x)) on) (sym took) r.mirrors),
    )
manager_row s t v a l id m k (PlainWhat.Moved outcome) name says hm order h e =
    let n = k.id.n in
    let o = (one.takes_answer s.manager n s.manager.children (code_of_outcome outcome) []) (one.pending_numbered n s.manager.pending) in
    let (z, took, last) = bind-is o (λ (x : one.ManagerTook). Some (service.manager_took s id x)) t e in
    let f : service.manager_took s id z ≡ t = cc in
    let p = pending_request n l.manager.pending in
    let r = moved_by s v a l id n outcome p z refl (ap (one.takes_answer s.manager n s.manager.children (code_of_outcome outcome) []) (sym (pending_is s l n h.plain.manager)) ∙ took) order h in
    let on = manager_took (without_message l id) r.t in (
      on,
      (λ i. manager_step v.acting l id (name i).n (moved_what m.what outcome says i)) ∙ ap (λ (x : Option Taken). bind x (λ (y : Taken). Some (manager_took (without_message l id) y))) r.takes,
      subst (λ (x : OneKernel). Mirrors x v (given a (manager_gets s v a k (PlainWhat.Moved outcome) o)) on) f
          (subst (λ (x : Option one.ManagerTook). Mirrors (service.manager_took s id z) v (given a (manager_gets s v a k (PlainWhat.Moved outcome) x)) on) (sym took) r.mirrors),
    )
manager_row s t v a l id m k u name says hm order h e = none_some t e

-- what the two take with places
abbrev takes_if : Bool → Bool → ℕ → Placed → MsgId → Message → Option Placed
takes_if b c here l id m =
    if b then bind (board.takes here l.board m.what) (λ (z : board.Taken). Some (board_took (without_message l id) z))
    else if c then manager_step here l id m.id.n m.what
    else None

takes_by : (s t : OneKernel) (v : View) (a : Addresses) (l : Placed) (id : MsgId) (m : Message) (k : PlainMessage) (b c : Bool) → plain_message m ≡ Some k → MirrorsMessage a id m → InOrder l.manager → Mirrors s v a l
    → (if b then bind (boards.board_takes s.switchboard k k.what) (λ (z : boards.BoardTook). Some (service.switchboard_took s id z))
    else if c then bind (one.manager_takes s.manager s.machines (length s.images) k k.what) (λ (z : one.ManagerTook). Some (service.manager_took s id z))
    else None) ≡ Some t
    → Follows t v (given a (if b then board_gets s v a id k.what else manager_gets s v a k k.what (one.manager_takes s.manager s.machines (length s.images) k k.what))) (takes_if b c v.acting l id m)
takes_by s t v a l id m k true c says hm order h e = board_row s t v a l id m k k.what (parts m k says).what hm h e
takes_by s t v a l id m k false true says hm order h e = let g = parts m k says in manager_row s t v a l id m k k.what g.id g.what hm order h e
takes_by s t v a l id m k false false says hm order h e = none_some t e

-- took
pub took_follows : (s t : OneKernel) (v : View) (a : Addresses) (l : Placed) (id : MsgId) → kernel.step s (Label.Took id) ≡ Some t → InOrder l.manager → Mirrors s v a l
    → Follows t v (given a (gives s v a (Label.Took id))) (bind (l.bag id) (placed.takes v.acting (without_message l id)))
took_follows s t v a l id is order h =
    let (k, there, rest) = bind-is (s.bag id) (service.takes s id) t is in
    let (m, found, says) = there_of s l id k h.plain there in
    let g = parts m k says in
    let (on, step, mirrors) = takes_by s t v a l id m k (pid_eq k.to switchboard) (pid_eq k.to manager) says (h.places.message id m found) order h rest in (
      on,
      ap (λ (o : Option Message). bind o (placed.takes v.acting (without_message l id))) found ∙ ap (λ (q : Pid). takes_if (pid_eq q switchboard) (pid_eq q manager) v.acting l id m) g.to ∙ step,
      subst (λ (gs : List Gets). Mirrors t v (given a gs) on) (ap (addresses.taking_gets s v a id) (sym there)) mirrors,
    )
