-- What the process manager takes, with places: it tells kernels and children, and answers over links, where the lines say.
use Rattle.dm_law_places.proofs.Names.{◌≡◌, ℕ, suc, ◌+◌, ◌==◌, ◌&&◌, Bool, true, false, List, [], ◌∷◌, length, refl, ap, ◌∙◌, subst, inl, inr, nat_lt, arith, if◌then◌else◌, map, option_map, slice_get, Option, None, Some, nat_tests}
use Rattle.dm_law_places.proofs.Names.{slice_get-map, Addr, Link, place_of, plain_link, MsgId, What, id_of, PlainMessage, PlainWhat, plain_message, manager, OneKernel, goes_over, Pending, Managing, plain_child, plain_manager, plain_pending}
use Rattle.dm_law_places.proofs.Names.{answer_over, message_to, Taken, child_address, plain_numbered, plain_push, id_eq-same, View, Addresses, gets, given, Receiver, Sender, Enclosed, Child, Answer, acting_place, unmoved, encloses, enclosed_from}
use Rattle.dm_law_places.proofs.Names.{manager_sends, ascends, encloses_servers, encloses_process, encloses_message, encloses_at, two, enclosed_at, Placed, Mirrors, MirrorsKernel, enclosed, manager_took, without_message, AnswerNames, Place}
use Rattle.dm_law_places.proofs.Names.{PlainLink, pending_request, ◌++◌, kernel_at, PendingKind, sym, Pid, option_map_or}
use Rattle.dm_onekernel.specs.Kernel as kernels
use Rattle.dm_onekernel.specs.Manager as one
use Rattle.dm_onekernel.specs.Service as service
use Rattle.dm_procman.specs.Taking as take
use Rattle.dm_law_places.proofs.Keeps.{answer_as, came_places, kernel_out, kernel_sent, manager_place, message_same, places_out, process_same}
use Rattle.dm_law_places.proofs.Labels.Answers.{two_sends}
use Rattle.dm_law_places.proofs.Pendings.{numbered_below, pending_last}

-- the manager's requests have ascending numbers, below the number of its next message
abbrev pub InOrder : Managing → Type 0
InOrder g = ascends 0 (map plain_pending g.pending) g.sent ≡ true

abbrev TookAt : OneKernel → View → Addresses → Placed → MsgId → MsgId → ℕ → one.ManagerTook → Taken → Type 0
TookAt s v a l id mid code k t = Mirrors (service.manager_took s id k) v (given a (manager_sends v a mid code k.message)) (manager_took (without_message l id) t)

abbrev pub LinksKept : Addresses → MsgId → List Link → Type 0
LinksKept a id links = (n : ℕ) (w : Link) → slice_get links n ≡ Some w → a (Enclosed id n) ≡ place_of w.addr

took_if : (s : OneKernel) (v : View) (a : Addresses) (l : Placed) (id mid : MsgId) (code : ℕ) (b : Bool) (k j : one.ManagerTook) (t u : Taken) → TookAt s v a l id mid code k t → TookAt s v a l id mid code j u
    → TookAt s v a l id mid code (if b then k else j) (if b then t else u)
took_if s v a l id mid code b k j t u h1 h2 = search arith

-- its count rises
counted : (s : OneKernel) (v : View) (a : Addresses) (l : Placed) (id : MsgId) → Mirrors s v a l
    → Mirrors (record (service.without_message s id) { manager = record (plain_manager l.manager) { sent = l.manager.sent + 1 } }) v a (record (without_message l id) { manager = record l.manager { sent = l.manager.sent + 1 } })
counted s v a l id h = let u = kernel_out s l id h.plain in let g = places_out v a l id h.places in search

bad_mirrors : (s : OneKernel) (v : View) (a : Addresses) (l : Placed) (id mid : MsgId) (code : ℕ) (links : List Link) → LinksKept a mid links → Mirrors s v a l
    → TookAt s v a l id mid code (one.bad_request (plain_manager l.manager) (map plain_link links)) (take.bad_request v.acting l.manager links)
bad_mirrors s v a l id mid code [] en h = let u = kernel_out s l id h.plain in let g = places_out v a l id h.places in search
bad_mirrors s v a l id mid code (w ∷ ws) en h =
    let n = l.manager.sent in
    two_sends (record (service.without_message s id) { manager = record (plain_manager l.manager) { sent = n + 1 } }) v a (record (without_message l id) { manager = record l.manager { sent = n + 1 } })
    (answer_over v.acting l.manager.moves n w 2 []) (goes_over manager n (plain_link w) (2 ∷ []) []) (a (Enclosed mid 0)) (acting_place v manager) refl refl (en 0 w refl) (manager_place s v a l h) (counted s v a l id h)

-- the first link of a message, which is kept with a request
first_names : (a : Addresses) (mid : MsgId) (links : List Link) → LinksKept a mid links → AnswerNames (take.first_link links) (a (Enclosed mid 0))
first_names a mid [] en = tt
first_names a mid (w ∷ ws) en = en 0 w refl

first_plainly : (links : List Link) → option_map plain_link (take.first_link links) ≡ (slice_get (map plain_link links) 0)
first_plainly links = search arith

-- the links that are kept, once one more request is pending
asked_names : (a c : Addresses) (g : Managing) (z : Pending) (pl : Place) → ((j : ℕ) → c (Answer j) ≡ a (Answer j)) → z.n ≡ g.sent → AnswerNames z.answer pl → InOrder g
    → ((j : ℕ) (y : Pending) → pending_request j g.pending ≡ Some y → AnswerNames y.answer (a (Answer j)))
    → (j : ℕ) (x : Pending) → pending_request j (g.pending ++ z ∷ []) ≡ Some x → AnswerNames x.answer (if z.n == j then pl else c (Answer j))
asked_names a c g z pl same count new order h j x e =
    elim (pending_last g.pending j z x (λ y f. let i = (numbered_below g.pending 0 g.sent j y order f).1 in let k : (z.n == j) ≡ false = grind (arith, nat_tests) in k) e) [
      | inl f ↦ answer_as x.answer (ap (λ (d : Bool). if d then pl else c (Answer j)) f.0) (subst (λ (y : Pending). AnswerNames y.answer pl) f.1 new)
      | inr f ↦ answer_as x.answer (ap (λ (d : Bool). if d then pl else c (Answer j)) f.0 ∙ same j) (h j x f.1)
    ]

-- a process is to be made
asks_for_mirrors : (s : OneKernel) (v : View) (a : Addresses) (l : Placed) (id mid : MsgId) (code machine image : ℕ) (w : Link) (ws : List Link) → LinksKept a mid (w ∷ ws) → InOrder l.manager → Mirrors s v a l
    → TookAt s v a l id mid code (one.asks_for (plain_manager l.manager) machine image (plain_link w) (map plain_link ws)) (take.asks_for v.acting l.manager machine image w ws)
asks_for_mirrors s v a l id mid code machine image w ws en order h =
    let g = l.manager in
    let n = g.sent in
    let sent = id_of manager n in
    let ls = map plain_link ws in
    let ps = enclosed_from a mid 1 ls in
    let to = unmoved machine in
    let from = acting_place v manager in
    let pl = a (Enclosed mid 0) in
    let c = given a (encloses sent 0 ps) in
    let b = given c (gets (Receiver sent) to ∷ gets (Sender sent) from ∷ gets (Answer n) pl ∷ []) in
    let r : Pending = record { n = n; kind = PendingKind.Create; answer = Some w } in
    let k = one.asks_for (plain_manager g) machine image (plain_link w) ls in
    let t = take.asks_for v.acting g machine image w ws in
    let m = message_to v.acting g.moves n (kernel_at machine) (What.Create image (record { items = ws })) in
    let q : PlainMessage = record { id = sent; to = m.to.pid; sender = manager; what = PlainWhat.Create image ls } in
    let u = kernel_out s l id h.plain in
    let o = places_out v a l id h.places in
    let s' = record (service.without_message s id) { manager = k.manager } in
    let l' = record (without_message l id) { manager = t.manager } in
    let plain : MirrorsKernel s' l' = search
    (ap (λ (rs : List kernels.Pending). record (plain_manager g) { pending = rs; sent = n + 1 }) (plain_push g.pending r)) in
    let servers = encloses_servers a sent 0 ps in
    record {
      plain = kernel_sent s' l' q m refl plain;
      places = record {
        process = λ p x e. process_same v a b p x (let z = encloses_process a sent 0 ps p in record { slot = z.slot; owner = z.owner }) (h.places.process p x e);
        message = came_places a b l' m o.message
            (λ i e. let z = encloses_message a sent 0 ps i e in (search (arith)))
            (record {
              id = refl;
              receiver = ap (λ (d : Bool). if d then to else c (Receiver sent)) (id_eq-same sent);
              sender = ap (λ (d : Bool). if d then from else c (Sender sent)) (id_eq-same sent) ∙ manager_place s v a l h;
              enclosed = λ j x e. encloses_at a sent 0 ps j j (a (Enclosed mid (1 + j))) (enclosed_at a mid 1 ls j (plain_link x) (slice_get-map plain_link ws j ∙ ap (option_map plain_link) e)) (omega arith)
                  ∙ (let f : 1 + j ≡ suc j = omega arith in ap (λ (i : ℕ). a (Enclosed mid i)) f) ∙ en (suc j) x e;
            });
        name = λ j x e. servers.name j ∙ h.places.name j x e;
        child = λ j x e. servers.child j ∙ h.places.child j x e;
        answer = asked_names a c g r pl servers.answer refl (en 0 w refl) order h.places.answer;
        asker = λ q k e. servers.asked q ∙ h.places.asker q k e;
        board = servers.board ∙ h.places.board;
        board_moves = h.places.board_moves;
        manager_moves = h.places.manager_moves;
      };
    }

wants_mirrors : (s : OneKernel) (v : View) (a : Addresses) (l : Placed) (id mid : MsgId) (code machine image : ℕ) (links : List Link) → LinksKept a mid links → InOrder l.manager → Mirrors s v a l
    → TookAt s v a l id mid code (one.wants_child (plain_manager l.manager) l.manager.machines l.manager.images machine image (map plain_link links)) (take.wants_child v.acting l.manager machine image links)
wants_mirrors s v a l id mid code machine image [] en order h = bad_mirrors s v a l id mid code [] en h
wants_mirrors s v a l id mid code machine image (w ∷ ws) en order h =
    let g = l.manager in
    took_if s v a l id mid code (nat_lt machine g.machines && nat_lt image g.images) (one.asks_for (plain_manager g) machine image (plain_link w) (map plain_link ws)) (one.bad_request (plain_manager g) (map plain_link (w ∷ ws)))
    (take.asks_for v.acting g machine image w ws) (take.bad_request v.acting g (w ∷ ws)) (asks_for_mirrors s v a l id mid code machine image w ws en order h) (bad_mirrors s v a l id mid code (w ∷ ws) en h)

requests_mirrors : (s : OneKernel) (v : View) (a : Addresses) (l : Placed) (id mid : MsgId) (code : ℕ) (body : List ℕ) (links : List Link) → LinksKept a mid links → InOrder l.manager → Mirrors s v a l
    → TookAt s v a l id mid code (one.requests_child (plain_manager l.manager) l.manager.machines l.manager.images body (map plain_link links)) (take.requests v.acting l.manager body links)
requests_mirrors s v a l id mid code (b ∷ c ∷ d ∷ e ∷ []) links en order h = search (arith, took_if, wants_mirrors, bad_mirrors)
requests_mirrors s v a l id mid code _ links en order h = bad_mirrors s v a l id mid code links en h

-- a message to a child
tells_mirrors : (s : OneKernel) (v : View) (a : Addresses) (l : Placed) (id : MsgId) (code : ℕ) (child : Addr) (w : What) (u : PlainWhat)
    → plain_message (message_to v.acting l.manager.moves l.manager.sent child w) ≡ Some (record { id = id_of manager l.manager.sent; to = child.pid; sender = manager; what = u })
    → enclosed w ≡ [] → a (Child code) ≡ place_of child → Mirrors s v a l
    → Mirrors (service.manager_took s id (one.tells (plain_manager l.manager) child.pid u)) v (given a (two (id_of manager l.manager.sent) (a (Child code)) (acting_place v manager))) (manager_took (without_message l id) (take.sends l.manager (message_to v.acting l.manager.moves l.manager.sent child w)))
tells_mirrors s v a l id code child w u says none to h =
    let n = l.manager.sent in
    two_sends (record (service.without_message s id) { manager = record (plain_manager l.manager) { sent = n + 1 } }) v a (record (without_message l id) { manager = record l.manager { sent = n + 1 } })
    (message_to v.acting l.manager.moves n child w) (record { id = id_of manager n; to = child.pid; sender = manager; what = u }) (a (Child code)) (acting_place v manager) says none to (manager_place s v a l h) (counted s v a l id h)

control_by : (s : OneKernel) (v : View) (a : Addresses) (l : Placed) (id mid : MsgId) (code : ℕ) (child : Addr) (b c d : Bool) (links : List Link) → a (Child code) ≡ place_of child → LinksKept a mid links → Mirrors s v a l
    → TookAt s v a l id mid code
    (option_map_or (one.tells (plain_manager l.manager) child.pid) (if b then Some PlainWhat.Stop else if c then Some PlainWhat.Resume else if d then Some PlainWhat.Kill else None) (one.bad_request (plain_manager l.manager) (map plain_link links)))
    (take.controls_child v.acting l.manager child (if b then Some What.Stop else if c then Some What.Resume else if d then Some What.Kill else None) links)
control_by s v a l id mid code child true c d links to en h = tells_mirrors s v a l id code child What.Stop PlainWhat.Stop refl refl to h
control_by s v a l id mid code child false true d links to en h = tells_mirrors s v a l id code child What.Resume PlainWhat.Resume refl refl to h
control_by s v a l id mid code child false false true links to en h = tells_mirrors s v a l id code child What.Kill PlainWhat.Kill refl refl to h
control_by s v a l id mid code child false false false links to en h = bad_mirrors s v a l id mid code links en h

-- a child is to move
moves_mirrors : (s : OneKernel) (v : View) (a : Addresses) (l : Placed) (id mid : MsgId) (code : ℕ) (child : Addr) (machine : ℕ) (links : List Link) → a (Child code) ≡ place_of child → LinksKept a mid links → InOrder l.manager → Mirrors s v a l
    → TookAt s v a l id mid code (one.sends_request (plain_manager l.manager) PendingKind.Move child.pid (PlainWhat.Move machine) (slice_get (map plain_link links) 0))
    (take.asks v.acting l.manager PendingKind.Move child (What.Move machine) (take.first_link links))
moves_mirrors s v a l id mid code child machine links to en order h =
    let g = l.manager in
    let n = g.sent in
    let sent = id_of manager n in
    let pl = a (Enclosed mid 0) in
    let b = given a (gets (Answer n) pl ∷ []) in
    let r : Pending = record { n = n; kind = PendingKind.Move; answer = take.first_link links } in
    let k = one.sends_request (plain_manager g) PendingKind.Move child.pid (PlainWhat.Move machine) (slice_get (map plain_link links) 0) in
    let t = take.asks v.acting g PendingKind.Move child (What.Move machine) (take.first_link links) in
    let m = message_to v.acting g.moves n child (What.Move machine) in
    let q : PlainMessage = record { id = sent; to = child.pid; sender = manager; what = PlainWhat.Move machine } in
    let u = kernel_out s l id h.plain in
    let o = places_out v a l id h.places in
    let s' = record (service.without_message s id) { manager = k.manager } in
    let l' = record (without_message l id) { manager = t.manager } in
    let kept : plain_manager t.manager ≡ k.manager =
    ap (λ (rs : List kernels.Pending). record (plain_manager g) { pending = rs; sent = n + 1 })
    (plain_push g.pending r ∙ ap (λ (w : Option PlainLink). map plain_pending g.pending ++ record { n = n; kind = PendingKind.Move; answer = w } ∷ []) (first_plainly links))
    in
    let done : Mirrors s' v b l' = record {
      plain = record { processes = u.processes; bag = u.bag; notes = u.notes; noted = u.noted; board = u.board; manager = kept; machines = u.machines; images = u.images; to_board = u.to_board };
      places = record {
        process = λ p x e. process_same v a b p x (record { slot = λ i. refl; owner = refl }) (o.process p x e);
        message = λ i x e. message_same a b i x (record { receiver = refl; sender = refl; enclosed = λ j. refl }) (o.message i x e);
        name = o.name;
        child = o.child;
        answer = asked_names a a g r pl (λ j. refl) refl (first_names a mid links en) order h.places.answer;
        asker = o.asker;
        board = o.board;
        board_moves = o.board_moves;
        manager_moves = o.manager_moves;
      };
    } in
    let w = two_sends s' v b l' m q (a (Child code)) (acting_place v manager) refl refl to (manager_place s v a l h) done in
    let z = w.places in
    record {
      plain = w.plain;
      places = record {
        process = λ p x e. let y = z.process p x e in record { pid = y.pid; moves = y.moves; slots = y.slots; owner = y.owner };
        message = λ i x e. let y = z.message i x e in record { id = y.id; receiver = y.receiver; sender = y.sender; enclosed = y.enclosed };
        name = z.name;
        child = z.child;
        answer = z.answer;
        asker = z.asker;
        board = z.board;
        board_moves = z.board_moves;
        manager_moves = z.manager_moves;
      };
    }

controls_mirrors : (s : OneKernel) (v : View) (a : Addresses) (l : Placed) (id mid : MsgId) (code : ℕ) (o : Option Addr) (body : List ℕ) (links : List Link) → child_address l.manager.children code ≡ o → LinksKept a mid links
    → InOrder l.manager → Mirrors s v a l
    → TookAt s v a l id mid code (one.controls (plain_manager l.manager) l.manager.machines (option_map plain_child o) body (map plain_link links)) (take.controls v.acting l.manager o body links)
controls_mirrors s v a l id mid code (Some child) (op ∷ []) links is en order h = control_by s v a l id mid code child (op == 2) (op == 3) (op == 4) links (h.places.child code child is) en h
controls_mirrors s v a l id mid code (Some child) (op ∷ machine ∷ []) links is en order h =
    let g = l.manager in
    let one_bad = one.bad_request (plain_manager g) (map plain_link links) in
    let bad = take.bad_request v.acting g links in
    let refused = bad_mirrors s v a l id mid code links en h in
    took_if s v a l id mid code (op == 5) (one.moves_child (plain_manager g) g.machines child.pid machine (map plain_link links)) one_bad (take.wants_move v.acting g child machine links) bad
    (took_if s v a l id mid code (nat_lt machine g.machines) (one.sends_request (plain_manager g) PendingKind.Move child.pid (PlainWhat.Move machine) (slice_get (map plain_link links) 0)) one_bad
    (take.asks v.acting g PendingKind.Move child (What.Move machine) (take.first_link links)) bad (moves_mirrors s v a l id mid code child machine links (h.places.child code child is) en order h) refused) refused
controls_mirrors s v a l id mid code None (b ∷ []) links is en order h = bad_mirrors s v a l id mid code links en h
controls_mirrors s v a l id mid code None (b ∷ machine ∷ []) links is en order h = bad_mirrors s v a l id mid code links en h
controls_mirrors s v a l id mid code _ _ links is en order h = bad_mirrors s v a l id mid code links en h

user_of : (s : OneKernel) (v : View) (a : Addresses) (l : Placed) (id mid : MsgId) (code : ℕ) (body : List ℕ) (links : List Link) → LinksKept a mid links → InOrder l.manager → Mirrors s v a l
    → TookAt s v a l id mid code (one.takes_user (plain_manager l.manager) l.manager.machines l.manager.images code body (map plain_link links)) (take.takes_user v.acting l.manager code body links)
user_of s v a l id mid code body links en order h =
    let g = l.manager in
    took_if s v a l id mid code (code == 0) (one.requests_child (plain_manager g) g.machines g.images body (map plain_link links)) (one.controls (plain_manager g) g.machines (one.child_numbered (map plain_child g.children) code) body (map plain_link links))
    (take.requests v.acting g body links) (take.controls v.acting g (child_address g.children code) body links) (requests_mirrors s v a l id mid code body links en order h)
    (subst (λ (o : Option Pid). TookAt s v a l id mid code (one.controls (plain_manager g) g.machines o body (map plain_link links)) (take.controls v.acting g (child_address g.children code) body links)) (sym (plain_numbered g.children code))
    (controls_mirrors s v a l id mid code (child_address g.children code) body links refl en order h))

-- a user message to the manager
pub user_mirrors : (s : OneKernel) (v : View) (a : Addresses) (l : Placed) (id mid : MsgId) (code : ℕ) (body : List ℕ) (links : List Link) → LinksKept a mid links → InOrder l.manager → Mirrors s v a l
    → Mirrors (service.manager_took s id (one.takes_user s.manager s.machines (length s.images) code body (map plain_link links))) v
    (given a (manager_sends v a mid code (one.takes_user s.manager s.machines (length s.images) code body (map plain_link links)).message)) (manager_took (without_message l id) (take.takes_user v.acting l.manager code body links))
user_mirrors s v a l id mid code body links en order h =
    subst (λ (k : one.ManagerTook). TookAt s v a l id mid code k (take.takes_user v.acting l.manager code body links)) (λ i. one.takes_user (h.plain.manager i) (h.plain.machines i) (h.plain.images i) code body (map plain_link links))
    (user_of s v a l id mid code body links en order h)
