-- What the process manager does keeps addresses where they may be.
use Rattle.dm_law_rule.proofs.Names.{◌≡◌, ℕ, zero, suc, ◌+◌, ◌==◌, ◌&&◌, Bool, true, false, List, [], ◌∷◌, ◌++◌, refl, ap, ◌∙◌, sym, subst, inl, inr, arith, nat_lt, length, if◌then◌else◌, slice_get, Option, None, Some, nat_tests, Pid, Place}
use Rattle.dm_law_rule.proofs.Names.{Holder, Slot, pid_eq, PlainLink, MsgId, id_of, Label, PlainMessage, PlainWhat, bind, OneKernel, without_message, id_eq-same, bind-is, View, Addresses, Gets, gets, given, gives, Receiver, Sender, Enclosed}
use Rattle.dm_law_rule.proofs.Names.{unmoved, pid_of, ◌*◌, Pending, Manager, switchboard, manager, Child, Name, Answer, encloses, enclosed_from, board_gets, manager_sends, manager_answers, manager_gets, links_in, ascends, AskedBy, ToBoard, acting_place, pid_eq-is, Outcome}
use Rattle.dm_law_rule.proofs.Names.{code_of_outcome, PendingKind, fun_ext, option_map_or, none_some}
use Rattle.dm_law_rule.proofs.Homes.{place_as, pid_as, AtHome}
use Rattle.dm_law_rule.proofs.Homes.Rows.{SameProcess, SameMessage, sent_home, at_home_out, process_same, message_same, encloses_servers, encloses_process, encloses_message, encloses_at}
use Rattle.dm_law_rule.proofs.Homes.Serves.{two, two_sends, Named, ServedAt}
use Rattle.dm_law_rule.proofs.Homes.Servers.{get_last, ascends_more, ascends_last, ascends_without, numbered_from, pending_last, still_pending, board_row}
use Rattle.dm_law_rule.proofs.Requests.{by_test}
use Rattle.dm_onekernel.specs.Step as kernel
use Rattle.dm_law_rule.specs.Addresses as addresses
use Rattle.dm_onekernel.specs.Service as service
use Rattle.dm_onekernel.specs.Switchboard as board
use Rattle.dm_onekernel.specs.Manager as manage

abbrev TookAt : (Pid → Place → Type 0) → OneKernel → View → Addresses → MsgId → MsgId → ℕ → manage.ManagerTook → Type 0
TookAt P s v a id mid code k = AtHome P (service.manager_took s id k) (given a (manager_sends v a mid code k.message))

abbrev LinksHome : (Pid → Place → Type 0) → Addresses → MsgId → List PlainLink → Type 0
LinksHome P a id links = (n : ℕ) (w : PlainLink) → slice_get links n ≡ Some w → P w.to (a (Enclosed id n))

-- the same addresses
at_home_as : (P : Pid → Place → Type 0) (s : OneKernel) {a b : Addresses} → ((h : Holder) → a h ≡ b h) → AtHome P s a → AtHome P s b
at_home_as P s same = subst (AtHome P s) (fun_ext same)

-- its count rises
counted : (P : Pid → Place → Type 0) (s : OneKernel) (a : Addresses) (id : MsgId) → AtHome P s a → AtHome P (record (without_message s id) { manager = record s.manager { sent = s.manager.sent + 1 } }) a
counted P s a id h =
    let u = at_home_out P s a id h in
    record { processes = u.processes; messages = u.messages; children = u.children; named = u.named; answers = u.answers; askers = u.askers; board = u.board; rooted = u.rooted; pending = ascends_more s.manager.pending 0 s.manager.sent h.pending }

bad_home : (P : Pid → Place → Type 0) (s : OneKernel) (v : View) (a : Addresses) (id mid : MsgId) (code : ℕ) (links : List PlainLink) → LinksHome P a mid links → P manager (acting_place v manager) → AtHome P s a → TookAt P s v a id mid code (manage.bad_request s.manager links)
bad_home P s v a id mid code [] en at h =
    let u = at_home_out P s a id h in
    record { processes = u.processes; messages = u.messages; children = u.children; named = u.named; answers = u.answers; askers = u.askers; board = u.board; rooted = u.rooted; pending = u.pending }
bad_home P s v a id mid code (l ∷ ls) en at h =
    let m = board.goes_over manager s.manager.sent l (2 ∷ []) [] in
    two_sends P (record (without_message s id) { manager = record s.manager { sent = s.manager.sent + 1 } }) a m (a (Enclosed mid 0)) (acting_place v manager) (counted P s a id h) refl (en 0 l refl) at

pub enclosed_at : (a : Addresses) (id : MsgId) (n : ℕ) (ls : List PlainLink) (k : ℕ) (w : PlainLink) → slice_get ls k ≡ Some w → slice_get (enclosed_from a id n ls) k ≡ Some (a (Enclosed id (n + k)))
enclosed_at a id n [] k w e = none_some w e
enclosed_at a id n (l ∷ ls) zero w e = let f : n ≡ n + 0 = omega arith in ap (λ (i : ℕ). Some (a (Enclosed id i))) f
enclosed_at a id n (l ∷ ls) (suc k) w e = let f : (n + 1) + k ≡ n + suc k = omega arith in enclosed_at a id (n + 1) ls k w e ∙ ap (λ (i : ℕ). Some (a (Enclosed id i))) f

-- the first link of a message, which is kept with a request
first_home : (P : Pid → Place → Type 0) (a : Addresses) (mid : MsgId) (links : List PlainLink) (w : PlainLink) → LinksHome P a mid links → (slice_get links 0) ≡ Some w → P w.to (a (Enclosed mid 0))
first_home P a mid links w h1 h2 = search arith

-- the links that are kept, once one more request is pending
asked_answers : (P : Pid → Place → Type 0) (s : OneKernel) (a c : Addresses) (z : Pending) (pl : Place) → ((k : ℕ) → c (Answer k) ≡ a (Answer k)) → z.n ≡ s.manager.sent → ((l : PlainLink) → z.answer ≡ Some l → P l.to pl) → AtHome P s a
    → (k : ℕ) (r : Pending) (w : PlainLink) → manage.pending_numbered k (s.manager.pending ++ z ∷ []) ≡ Some r → r.answer ≡ Some w → P w.to (if z.n == k then pl else c (Answer k))
asked_answers P s a c z pl same count new h k r w e f =
    elim (pending_last s.manager.pending k z r (λ q i. let g = (numbered_from s.manager.pending 0 s.manager.sent k q h.pending i).1 in let y : (z.n == k) ≡ false = grind (arith, nat_tests) in y) e) [
      | inl g ↦ place_as P (ap (λ (d : Bool). if d then pl else c (Answer k)) g.0) (new w (ap (λ (v : Pending). v.answer) g.1 ∙ f))
      | inr g ↦ place_as P (ap (λ (d : Bool). if d then pl else c (Answer k)) g.0 ∙ same k) (h.answers k r w g.1 f)
    ]

asks_for_home : (P : Pid → Place → Type 0) (s : OneKernel) (v : View) (a : Addresses) (id mid : MsgId) (code machine image : ℕ) (l : PlainLink) (ls : List PlainLink) → LinksHome P a mid (l ∷ ls) → P manager (acting_place v manager) → AtHome P s a
    → TookAt P s v a id mid code (manage.asks_for s.manager machine image l ls)
asks_for_home P s v a id mid code machine image l ls en at h =
    let n = s.manager.sent in
    let sent = id_of manager n in
    let ps = enclosed_from a mid 1 ls in
    let to = unmoved machine in
    let from = acting_place v manager in
    let pl = a (Enclosed mid 0) in
    let c = given a (encloses sent 0 ps) in
    let b = given c (gets (Receiver sent) to ∷ gets (Sender sent) from ∷ gets (Answer n) pl ∷ []) in
    let z : Pending = record { n = n; kind = PendingKind.Create; answer = Some l } in
    let m : PlainMessage = record { id = sent; to = pid_of machine 0; sender = manager; what = PlainWhat.Create image ls } in
    let t = record (without_message s id) { manager = (manage.asks_for s.manager machine image l ls).manager } in
    let servers = encloses_servers a sent 0 ps in
    record {
      processes = λ q x e. process_same P a b q x (let w = encloses_process a sent 0 ps q in record { slot = w.slot; owner = w.owner }) (h.processes q x e);
      messages = sent_home P t a b m (at_home_out P s a id h).messages
          (λ i e. let w = encloses_message a sent 0 ps i e in (search arith))
          (record {
            receiver = place_as P (ap (λ (d : Bool). if d then to else c (Receiver sent)) (id_eq-same sent)) (h.rooted (pid_of machine 0));
            sender = place_as P (ap (λ (d : Bool). if d then from else c (Sender sent)) (id_eq-same sent)) at;
            enclosed = λ j w e. place_as P (encloses_at a sent 0 ps j j (a (Enclosed mid (1 + j))) (enclosed_at a mid 1 ls j w e) (omega arith) ∙ (let f : 1 + j ≡ suc j = omega arith in ap (λ (i : ℕ). a (Enclosed mid i)) f)) (en (suc j) w e);
          });
      children = λ j q e. place_as P (servers.child j) (h.children j q e);
      named = λ j w e. place_as P (servers.name j) (h.named j w e);
      answers = asked_answers P s a c z pl servers.answer refl (λ w e. first_home P a mid (l ∷ ls) w en e) h;
      askers = λ q o e. place_as P (servers.asked q) (h.askers q o e);
      board = place_as P servers.board h.board;
      rooted = h.rooted;
      pending = ascends_last s.manager.pending 0 z h.pending;
    }

wants_home : (P : Pid → Place → Type 0) (s : OneKernel) (v : View) (a : Addresses) (id mid : MsgId) (code machine image : ℕ) (links : List PlainLink) → LinksHome P a mid links → P manager (acting_place v manager) → AtHome P s a
    → TookAt P s v a id mid code (manage.wants_child s.manager s.machines (length s.images) machine image links)
wants_home P s v a id mid code machine image [] en at h = bad_home P s v a id mid code [] en at h
wants_home P s v a id mid code machine image (l ∷ ls) en at h =
    by_test (TookAt P s v a id mid code) (nat_lt machine s.machines && nat_lt image (length s.images)) (manage.asks_for s.manager machine image l ls) (manage.bad_request s.manager (l ∷ ls))
    (asks_for_home P s v a id mid code machine image l ls en at h) (bad_home P s v a id mid code (l ∷ ls) en at h)

requests_home : (P : Pid → Place → Type 0) (s : OneKernel) (v : View) (a : Addresses) (id mid : MsgId) (code : ℕ) (body : List ℕ) (links : List PlainLink) → LinksHome P a mid links → P manager (acting_place v manager) → AtHome P s a
    → TookAt P s v a id mid code (manage.requests_child s.manager s.machines (length s.images) body links)
requests_home P s v a id mid code (b ∷ c ∷ d ∷ e ∷ []) links en at h =
    by_test (TookAt P s v a id mid code) (b == 1) (manage.wants_child s.manager s.machines (length s.images) c (256 * d + e) links) (manage.bad_request s.manager links)
    (wants_home P s v a id mid code c (256 * d + e) links en at h) (bad_home P s v a id mid code links en at h)
requests_home P s v a id mid code _ links en at h = bad_home P s v a id mid code links en at h

-- a message to a child
tells_home : (P : Pid → Place → Type 0) (s : OneKernel) (v : View) (a : Addresses) (id : MsgId) (code : ℕ) (child : Pid) (w : PlainWhat) → links_in w ≡ [] → P child (a (Child code)) → P manager (acting_place v manager) → AtHome P s a
    → AtHome P (service.manager_took s id (manage.tells s.manager child w)) (given a (two (id_of manager s.manager.sent) (a (Child code)) (acting_place v manager)))
tells_home P s v a id code child w none to at h =
    two_sends P (record (without_message s id) { manager = record s.manager { sent = s.manager.sent + 1 } }) a (record { id = id_of manager s.manager.sent; to = child; sender = manager; what = w }) (a (Child code)) (acting_place v manager)
    (counted P s a id h) none to at

control_by : (P : Pid → Place → Type 0) (s : OneKernel) (v : View) (a : Addresses) (id mid : MsgId) (code : ℕ) (child : Pid) (b c d : Bool) (links : List PlainLink) → P child (a (Child code)) → LinksHome P a mid links → P manager (acting_place v manager) → AtHome P s a
    → TookAt P s v a id mid code (option_map_or (manage.tells s.manager child) (if b then Some PlainWhat.Stop else if c then Some PlainWhat.Resume else if d then Some PlainWhat.Kill else None) (manage.bad_request s.manager links))
control_by P s v a id mid code child true c d links to en at h = tells_home P s v a id code child PlainWhat.Stop refl to at h
control_by P s v a id mid code child false true d links to en at h = tells_home P s v a id code child PlainWhat.Resume refl to at h
control_by P s v a id mid code child false false true links to en at h = tells_home P s v a id code child PlainWhat.Kill refl to at h
control_by P s v a id mid code child false false false links to en at h = bad_home P s v a id mid code links en at h

-- a child is to move
moves_home : (P : Pid → Place → Type 0) (s : OneKernel) (v : View) (a : Addresses) (id mid : MsgId) (code : ℕ) (child : Pid) (machine : ℕ) (links : List PlainLink) → P child (a (Child code)) → LinksHome P a mid links → P manager (acting_place v manager) → AtHome P s a
    → TookAt P s v a id mid code (manage.sends_request s.manager PendingKind.Move child (PlainWhat.Move machine) (slice_get links 0))
moves_home P s v a id mid code child machine links to en at h =
    let u = at_home_out P s a id h in
    let n = s.manager.sent in
    let z : Pending = record { n = n; kind = PendingKind.Move; answer = (slice_get links 0) } in
    let pl = a (Enclosed mid 0) in
    let b = given a (gets (Answer n) pl ∷ []) in
    let k = manage.sends_request s.manager PendingKind.Move child (PlainWhat.Move machine) (slice_get links 0) in
    let m : PlainMessage = record { id = id_of manager n; to = child; sender = manager; what = PlainWhat.Move machine } in
    let kept : AtHome P (record (without_message s id) { manager = k.manager }) b = record {
      processes = λ q x e. process_same P a b q x (record { slot = λ i. refl; owner = refl }) (u.processes q x e);
      messages = λ i x e. message_same P a b i x (record { receiver = refl; sender = refl; enclosed = λ j. refl }) (u.messages i x e);
      children = u.children;
      named = u.named;
      answers = asked_answers P s a a z pl (λ i. refl) refl (λ w e. first_home P a mid links w en e) h;
      askers = u.askers;
      board = u.board;
      rooted = h.rooted;
      pending = ascends_last s.manager.pending 0 z h.pending;
    } in
    at_home_as P (service.manager_took s id k) (λ h. elim h as (λ h_. given b (two m.id (a (Child code)) (acting_place v manager)) h_ ≡ given a (manager_sends v a mid code k.message) h_) [ Slot q j ↦ refl | _ ↦ refl ])
    (two_sends P (record (without_message s id) { manager = k.manager }) b m (a (Child code)) (acting_place v manager) kept refl to at)

controls_home : (P : Pid → Place → Type 0) (s : OneKernel) (v : View) (a : Addresses) (id mid : MsgId) (code : ℕ) (o : Option Pid) (body : List ℕ) (links : List PlainLink) → manage.child_numbered s.manager.children code ≡ o → LinksHome P a mid links → P manager (acting_place v manager) → AtHome P s a
    → TookAt P s v a id mid code (manage.controls s.manager s.machines o body links)
controls_home P s v a id mid code (Some child) (op ∷ []) links is en at h = control_by P s v a id mid code child (op == 2) (op == 3) (op == 4) links (h.children code child is) en at h
controls_home P s v a id mid code (Some child) (op ∷ machine ∷ []) links is en at h =
    let k = manage.sends_request s.manager PendingKind.Move child (PlainWhat.Move machine) (slice_get links 0) in
    let bad = bad_home P s v a id mid code links en at h in
    by_test (TookAt P s v a id mid code) (op == 5) (manage.moves_child s.manager s.machines child machine links) (manage.bad_request s.manager links)
    (by_test (TookAt P s v a id mid code) (nat_lt machine s.machines) k (manage.bad_request s.manager links) (moves_home P s v a id mid code child machine links (h.children code child is) en at h) bad) bad
controls_home P s v a id mid code None (b ∷ []) links is en at h = bad_home P s v a id mid code links en at h
controls_home P s v a id mid code None (b ∷ machine ∷ []) links is en at h = bad_home P s v a id mid code links en at h
controls_home P s v a id mid code _ _ links is en at h = bad_home P s v a id mid code links en at h

-- an answer about a child
enclosed_one : (P : Pid → Place → Type 0) (a : Addresses) (sent : MsgId) (pl : Place) (ls : List PlainLink) → ((k : ℕ) (w : PlainLink) → slice_get ls k ≡ Some w → (k ≡ 0) × (P w.to pl)) → (k : ℕ) (w : PlainLink) → slice_get ls k ≡ Some w
    → P w.to (given a (gets (Enclosed sent 0) pl ∷ []) (Enclosed sent k))
enclosed_one P a sent pl ls h k w e = search (arith, id_eq-same, place_as)

-- the manager goes on as g, and answers over the link of a request
answers_home : (P : Pid → Place → Type 0) (s : OneKernel) (v : View) (a c : Addresses) (id : MsgId) (n : ℕ) (r : Pending) (g : Manager) (byte : ℕ) (ls : List PlainLink) (o : Option PlainLink) → r.answer ≡ o
    → manage.pending_numbered n s.manager.pending ≡ Some r → P manager (acting_place v manager) → AtHome P s a
    → ((k : ℕ) (w : PlainLink) → slice_get ls k ≡ Some w → (k ≡ 0) × (P w.to (acting_place v manager))) → g.sent ≡ s.manager.sent → g.pending ≡ manage.without_pending n s.manager.pending
    → ((q : Pid) → SameProcess a c q) → ((i : MsgId) → SameMessage a c i) → ((k : ℕ) → c (Name k) ≡ a (Name k)) → ((k : ℕ) → c (Answer k) ≡ a (Answer k)) → ((q : Pid) → c (AskedBy q) ≡ a (AskedBy q)) → c ToBoard ≡ a ToBoard
    → ((k : ℕ) (q : Pid) → manage.child_numbered g.children k ≡ Some q → P q (c (Child k)))
    → AtHome P (service.manager_took s id (manage.answers_over g o byte ls)) (given c (manager_answers v a n (manage.answers_over g o byte ls).message))
answers_home P s v a c id n r g byte ls None is there at h one count pending process message name answer asked on_board child =
    let u = at_home_out P s a id h in
    record {
      processes = λ q x e. process_same P a c q x (process q) (u.processes q x e);
      messages = λ i x e. message_same P a c i x (message i) (u.messages i x e);
      children = child;
      named = λ k w e. place_as P (name k) (h.named k w e);
      answers = λ k w l e f. place_as P (answer k) (h.answers k w l (still_pending s.manager.pending 0 s.manager.sent n k w h.pending (ap (manage.pending_numbered k) (sym pending) ∙ e)) f);
      askers = λ q w e. place_as P (asked q) (h.askers q w e);
      board = place_as P on_board h.board;
      rooted = h.rooted;
      pending = ap (λ (ps : List Pending). ascends 0 ps g.sent) pending ∙ ap (ascends 0 (manage.without_pending n s.manager.pending)) count ∙ ascends_without s.manager.pending 0 s.manager.sent n h.pending;
    }
answers_home P s v a c id n r g byte ls (Some over) is there at h one count pending process message name answer asked on_board child =
    let sent = id_of manager g.sent in
    let from = acting_place v manager in
    let to = a (Answer n) in
    let b = given c (gets (Receiver sent) to ∷ gets (Sender sent) from ∷ gets (Enclosed sent 0) from ∷ []) in
    let t = record (without_message s id) { manager = record g { sent = g.sent + 1 } } in
    record {
      processes = λ q x e. process_same P a b q x (let w = process q in record { slot = w.slot; owner = w.owner }) (h.processes q x e);
      messages = sent_home P t a b (board.goes_over manager g.sent over (byte ∷ []) ls) (at_home_out P s a id h).messages
          (λ i e. let w = message i in (search arith))
          (record {
            receiver = place_as P (ap (λ (d : Bool). if d then to else c (Receiver sent)) (id_eq-same sent)) (h.answers n r over there is);
            sender = place_as P (ap (λ (d : Bool). if d then from else c (Sender sent)) (id_eq-same sent)) at;
            enclosed = enclosed_one P c sent from ls one;
          });
      children = child;
      named = λ k w e. place_as P (name k) (h.named k w e);
      answers = λ k w l e f. place_as P (answer k) (h.answers k w l (still_pending s.manager.pending 0 s.manager.sent n k w h.pending (ap (manage.pending_numbered k) (sym pending) ∙ e)) f);
      askers = λ q w e. place_as P (asked q) (h.askers q w e);
      board = place_as P on_board h.board;
      rooted = h.rooted;
      pending = ap (λ (ps : List Pending). ascends 0 ps (g.sent + 1)) pending ∙ ap (λ (i : ℕ). ascends 0 (manage.without_pending n s.manager.pending) (i + 1)) count
          ∙ ascends_more (manage.without_pending n s.manager.pending) 0 s.manager.sent (ascends_without s.manager.pending 0 s.manager.sent n h.pending);
    }

one_link : (P : Pid → Place → Type 0) (place : Place) (l : PlainLink) → P l.to place → (k : ℕ) (w : PlainLink) → slice_get (l ∷ []) k ≡ Some w → (k ≡ 0) × (P w.to place)
one_link P place l at zero w e = let f : l ≡ w = cc in (refl, pid_as P (ap (λ (u : PlainLink). u.to) f) at)
one_link P place l at (suc k) w e = absurd (let f : None ≡ Some w = e in cc)

-- what the manager has told about a child comes last, but for the child that it adds
over_child : (P : Pid → Place → Type 0) (t : OneKernel) (a : Addresses) (v : View) (n k : ℕ) (pl : Place) (g : Manager) (byte : ℕ) (ls : List PlainLink) (o : Option PlainLink)
    → AtHome P t (given (given a (gets (Child k) pl ∷ [])) (manager_answers v a n (manage.answers_over g o byte ls).message)) → AtHome P t (given a (gets (Child k) pl ∷ manager_answers v a n (manage.answers_over g o byte ls).message))
over_child P t a v n k pl g byte ls None w = w
over_child P t a v n k pl g byte ls (Some l) w =
    let ys = manager_answers v a n (manage.answers_over g (Some l) byte ls).message in
    at_home_as P t (λ h. elim h as (λ h_. given (given a (gets (Child k) pl ∷ [])) ys h_ ≡ given a (gets (Child k) pl ∷ ys) h_) [ Slot q j ↦ refl | _ ↦ refl ]) w

created_by : (P : Pid → Place → Type 0) (s : OneKernel) (v : View) (a : Addresses) (id : MsgId) (m : PlainMessage) (child : Pid) (o : Option Pending) (k : manage.ManagerTook) → manage.pending_numbered m.id.n s.manager.pending ≡ o → (manage.takes_answer s.manager m.id.n (s.manager.children ++ child ∷ []) 0 (manage.control_link (length s.manager.children + 1) ∷ [])) o ≡ Some k
    → P manager (acting_place v manager) → AtHome P s a → AtHome P (service.manager_took s id k) (given a (gets (Child (length s.manager.children + 1)) (unmoved child.home) ∷ manager_answers v a m.id.n k.message))
created_by P s v a id m child None k is e at h = none_some k e
created_by P s v a id m child (Some r) k is e at h =
    let g = record s.manager { children = s.manager.children ++ child ∷ []; pending = manage.without_pending m.id.n s.manager.pending } in
    let l = manage.control_link (length s.manager.children + 1) in
    let t = manage.answers_over g r.answer 0 (l ∷ []) in
    let c = given a (gets (Child (length s.manager.children + 1)) (unmoved child.home) ∷ []) in
    let w = answers_home P s v a c id m.id.n r g 0 (l ∷ []) r.answer refl is at h (one_link P (acting_place v manager) l at) refl refl
    (λ q. record { slot = λ i. refl; owner = refl }) (λ i. record { receiver = refl; sender = refl; enclosed = λ j. refl }) (λ i. refl) (λ i. refl) (λ q. refl) refl
    (λ n q there. (let e_ : P q (given a (gets (Child (length s.manager.children + 1)) (unmoved child.home) ∷ []) (Child n)) = search (arith, get_last, place_as, pid_as, h.rooted child, h.children) in e_)) in
    subst (λ (t : manage.ManagerTook). AtHome P (service.manager_took s id t) (given a (gets (Child (length s.manager.children + 1)) (unmoved child.home) ∷ manager_answers v a m.id.n t.message))) (let f : t ≡ k = cc in f)
    (over_child P (service.manager_took s id t) a v m.id.n (length s.manager.children + 1) (unmoved child.home) g 0 (l ∷ []) r.answer w)

-- a request has ended otherwise
ended_by : (P : Pid → Place → Type 0) (s : OneKernel) (v : View) (a : Addresses) (id : MsgId) (n byte : ℕ) (r : Pending) (k : manage.ManagerTook) → manage.pending_numbered n s.manager.pending ≡ Some r
    → manage.answers_over (record s.manager { pending = manage.without_pending n s.manager.pending }) r.answer byte [] ≡ k → P manager (acting_place v manager) → AtHome P s a → AtHome P (service.manager_took s id k) (given a (manager_answers v a n k.message))
ended_by P s v a id n byte r k is f at h =
    let g = record s.manager { pending = manage.without_pending n s.manager.pending } in
    let w = answers_home P s v a a id n r g byte [] r.answer refl is at h (λ i x there. absurd (let z : None ≡ Some x = there in cc)) refl refl
    (λ q. record { slot = λ i. refl; owner = refl }) (λ i. record { receiver = refl; sender = refl; enclosed = λ j. refl }) (λ i. refl) (λ i. refl) (λ q. refl) refl h.children in
    subst (λ (t : manage.ManagerTook). AtHome P (service.manager_took s id t) (given a (manager_answers v a n t.message))) f w

no_room_by : (P : Pid → Place → Type 0) (s : OneKernel) (v : View) (a : Addresses) (id : MsgId) (n : ℕ) (o : Option Pending) (k : manage.ManagerTook) → manage.pending_numbered n s.manager.pending ≡ o → (manage.takes_answer s.manager n s.manager.children 1 []) o ≡ Some k
    → P manager (acting_place v manager) → AtHome P s a → AtHome P (service.manager_took s id k) (given a (manager_answers v a n k.message))
no_room_by P s v a id n None k is e at h = none_some k e
no_room_by P s v a id n (Some r) k is e at h =
    let g = record s.manager { pending = manage.without_pending n s.manager.pending } in
    ended_by P s v a id n 1 r k is (let f : manage.answers_over g r.answer 1 [] ≡ k = cc in f) at h

moved_by : (P : Pid → Place → Type 0) (s : OneKernel) (v : View) (a : Addresses) (id : MsgId) (n : ℕ) (outcome : Outcome) (o : Option Pending) (k : manage.ManagerTook) → manage.pending_numbered n s.manager.pending ≡ o
    → (manage.takes_answer s.manager n s.manager.children (code_of_outcome outcome) []) o ≡ Some k → P manager (acting_place v manager) → AtHome P s a → AtHome P (service.manager_took s id k) (given a (manager_answers v a n k.message))
moved_by P s v a id n outcome None k is e at h = none_some k e
moved_by P s v a id n outcome (Some r) k is e at h =
    let g = record s.manager { pending = manage.without_pending n s.manager.pending } in
    ended_by P s v a id n (code_of_outcome outcome) r k is (let f : manage.answers_over g r.answer (code_of_outcome outcome) [] ≡ k = cc in f) at h

manager_row : (P : Pid → Place → Type 0) (s t : OneKernel) (v : View) (a : Addresses) (id : MsgId) (m : PlainMessage) (w : PlainWhat) → m.what ≡ w → m.id ≡ id → s.bag id ≡ Some m → P manager (acting_place v manager) → AtHome P s a
    → bind (manage.manager_takes s.manager s.machines (length s.images) m w) (λ (k : manage.ManagerTook). Some (service.manager_took s id k)) ≡ Some t
    → AtHome P t (given a (manager_gets s v a m w (manage.manager_takes s.manager s.machines (length s.images) m w)))
manager_row P s t v a id m (PlainWhat.User code channel body links) is name there at h e =
    let k = manage.takes_user s.manager s.machines (length s.images) code body links in
    let f : service.manager_took s id k ≡ t = cc in
    let hm = h.messages id m there in
    let user_home : (P : Pid → Place → Type 0) (s : OneKernel) (v : View) (a : Addresses) (id mid : MsgId) (code : ℕ) (body : List ℕ) (links : List PlainLink) → LinksHome P a mid links → P manager (acting_place v manager) → AtHome P s a
    → TookAt P s v a id mid code (manage.takes_user s.manager s.machines (length s.images) code body links) = λ P s v a id mid code body links en at h.
    by_test (TookAt P s v a id mid code) (code == 0) (manage.requests_child s.manager s.machines (length s.images) body links) (manage.controls s.manager s.machines (manage.child_numbered s.manager.children code) body links)
    (requests_home P s v a id mid code body links en at h) (controls_home P s v a id mid code (manage.child_numbered s.manager.children code) body links refl en at h) in
    subst (λ (u : OneKernel). AtHome P u (given a (manager_sends v a m.id code k.message))) f
    (user_home P s v a id m.id code body links (λ n w g. place_as P (ap (λ (i : MsgId). a (Enclosed i n)) name) (hm.enclosed n w (ap (λ (x : PlainWhat). slice_get (links_in x) n) is ∙ g))) at h)
manager_row P s t v a id m (PlainWhat.Created child) is name there at h e =
    let o = (manage.takes_answer s.manager m.id.n (s.manager.children ++ child ∷ []) 0 (manage.control_link (length s.manager.children + 1) ∷ [])) (manage.pending_numbered m.id.n s.manager.pending) in
    let (k, took, last) = bind-is o (λ (x : manage.ManagerTook). Some (service.manager_took s id x)) t e in
    subst (λ (u : OneKernel). AtHome P u (given a (manager_gets s v a m (PlainWhat.Created child) o))) (let f : service.manager_took s id k ≡ t = cc in f)
    (subst (λ (p : Option manage.ManagerTook). AtHome P (service.manager_took s id k) (given a (manager_gets s v a m (PlainWhat.Created child) p))) (sym took) (created_by P s v a id m child (manage.pending_numbered m.id.n s.manager.pending) k refl took at h))
manager_row P s t v a id m PlainWhat.NoRoom is name there at h e =
    let o = (manage.takes_answer s.manager m.id.n s.manager.children 1 []) (manage.pending_numbered m.id.n s.manager.pending) in
    let (k, took, last) = bind-is o (λ (x : manage.ManagerTook). Some (service.manager_took s id x)) t e in
    subst (λ (u : OneKernel). AtHome P u (given a (manager_gets s v a m PlainWhat.NoRoom o))) (let f : service.manager_took s id k ≡ t = cc in f)
    (subst (λ (p : Option manage.ManagerTook). AtHome P (service.manager_took s id k) (given a (manager_gets s v a m PlainWhat.NoRoom p))) (sym took) (no_room_by P s v a id m.id.n (manage.pending_numbered m.id.n s.manager.pending) k refl took at h))
manager_row P s t v a id m (PlainWhat.Moved outcome) is name there at h e =
    let o = (manage.takes_answer s.manager m.id.n s.manager.children (code_of_outcome outcome) []) (manage.pending_numbered m.id.n s.manager.pending) in
    let (k, took, last) = bind-is o (λ (x : manage.ManagerTook). Some (service.manager_took s id x)) t e in
    subst (λ (u : OneKernel). AtHome P u (given a (manager_gets s v a m (PlainWhat.Moved outcome) o))) (let f : service.manager_took s id k ≡ t = cc in f)
    (subst (λ (p : Option manage.ManagerTook). AtHome P (service.manager_took s id k) (given a (manager_gets s v a m (PlainWhat.Moved outcome) p))) (sym took)
    (moved_by P s v a id m.id.n outcome (manage.pending_numbered m.id.n s.manager.pending) k refl took at h))
manager_row P s t v a id m _ is name there at h e = none_some t e

-- a server acts where its message has come
at_server : (P : Pid → Place → Type 0) (v : View) (p q : Pid) → pid_eq p q ≡ true → P p (acting_place v p) → P q (acting_place v q)
at_server P v p q is at = subst (λ (r : Pid). P r (acting_place v r)) (pid_eq-is p q is) at

takes_by : (P : Pid → Place → Type 0) (s t : OneKernel) (v : View) (a : Addresses) (id : MsgId) (m : PlainMessage) (b c : Bool) → pid_eq m.to switchboard ≡ b → pid_eq m.to manager ≡ c → m.id ≡ id → s.bag id ≡ Some m → P m.to (acting_place v m.to) → AtHome P s a
    → (if b then bind (board.board_takes s.switchboard m m.what) (λ (k : board.BoardTook). Some (service.switchboard_took s id k))
    else if c then bind (manage.manager_takes s.manager s.machines (length s.images) m m.what) (λ (k : manage.ManagerTook). Some (service.manager_took s id k))
    else None) ≡ Some t
    → AtHome P t (given a (if b then board_gets s v a id m.what else manager_gets s v a m m.what (manage.manager_takes s.manager s.machines (length s.images) m m.what)))
takes_by P s t v a id m true c is as_ name there at h e = board_row P s t v a id m m.what refl there (at_server P v m.to switchboard is at) h e
takes_by P s t v a id m false true is as_ name there at h e = manager_row P s t v a id m m.what refl name there (at_server P v m.to manager as_ at) h e
takes_by P s t v a id m false false is as_ name there at h e = none_some t e

pub took_home : (P : Pid → Place → Type 0) (s t : OneKernel) (v : View) (a : Addresses) (id : MsgId) → kernel.step s (Label.Took id) ≡ Some t → Named s → ServedAt P s v id → AtHome P s a → AtHome P t (given a (gives s v a (Label.Took id)))
took_home P s t v a id is named at h =
    let (m, there, rest) = bind-is (s.bag id) (service.takes s id) t is in
    subst (λ (gs : List Gets). AtHome P t (given a gs)) (ap (addresses.taking_gets s v a id) (sym there))
    (takes_by P s t v a id m (pid_eq m.to switchboard) (pid_eq m.to manager) refl refl (named id m there) there (at m there) h rest)
