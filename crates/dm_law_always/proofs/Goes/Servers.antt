-- A message for a kernel or a server at the front of the inbox can be handled.
use Rattle.dm_law_always.proofs.Names.{◌≡◌, ℕ, zero, suc, ◌+◌, ◌==◌, ◌&&◌, ◌||◌, ◌++◌, Bool, true, false, List, [], ◌∷◌, length, refl, ap, ◌∙◌, sym, nat_lt, arith, if◌then◌else◌, slice_get, Option, None, Some, false≢true, nat_tests, Pid}
use Rattle.dm_law_always.proofs.Names.{pid_of, pid_eq, PlainLink, MsgId, Label, Line, PlainMessage, PlainWhat, BootImage, Boot, first_number, switchboard, manager, bind, when, Pending, OneKernel, with_sent, answer_id, answer_to}
use Rattle.dm_law_always.proofs.Names.{without_message, pid_eq-same, Point, moved, Part, Routes, is_server, IsPending, WhatFits, counts, ServerSends, handled, is_kernels, not_kernels, board_takes_lem, manager_takes_lem}
use Rattle.dm_law_always.proofs.Names.{is_for, PendingKind, code_of_outcome, PlainProcess}
use Rattle.dm_onekernel.specs.Switchboard as board
use Rattle.dm_onekernel.specs.Manager as manage
use Rattle.dm_onekernel.specs.Service as service
use Rattle.dm_onekernel.specs.Step as kernel
use Rattle.dm_law_rule.specs.Rule as rule
use Rattle.dm_law_always.proofs.Own.Told.{OwnTold, HaveNoOwn}
use Rattle.dm_law_always.proofs.Goes.Parts.{said, no_receive, does_route, Can, can_as, can_say}
use Rattle.dm_law_always.proofs.Goes.Serves.{never_counted}
use Rattle.dm_law_always.proofs.Goes.Front.{begun, Calm, CanTurn, Front, name_of, home_of, process_not_kernel, process_not_board, process_not_manager, answer_there, does_routes}
use Rattle.dm_law_always.proofs.Goes.Front.{sent_there}
use Rattle.dm_law_always.proofs.Goes.Process.{can_known, can_process, front_over}
use Rattle.dm_law_always.proofs.Based.Rows.{made_server}
use Rattle.dm_law_rule.specs.View as view
use Rattle.dm_law_always.proofs.Names.{is_some, subst}
use Rattle.dm_law_always.proofs.Order.Lines.{Last, next_id}

get_is : {X : Type 0} (xs : List X) (k : ℕ) → nat_lt k (length xs) ≡ true → (x : X) × (slice_get xs k ≡ Some x)
get_is [] k e = absurd (let f : nat_lt k 0 ≡ false = grind (arith, nat_tests) in false≢true (sym f ∙ e))
get_is (x ∷ xs) zero e = (x, refl)
get_is (x ∷ xs) (suc k) e = get_is xs k (let f : nat_lt k (length xs) ≡ true = grind (arith, nat_tests) in f)

pub server_number : (p : Pid) → is_server p ≡ true → (p.num == 0) ≡ false
server_number p h1 = search (arith, p.num)

can_created : (b : Boot) (m : ℕ) (o : Point) (i : MsgId) (x : PlainMessage) (image : ℕ) (links : List PlainLink) (g : BootImage) → x.what ≡ PlainWhat.Create image links → x.to.home ≡ m → service.is_kernel o.kernel x.to ≡ true → slice_get o.kernel.images image ≡ Some g → Front b m o i x
    → CanTurn m o (Some (rule.says (Label.Created i (pid_of m (first_number + o.kernel.made m))) ∷ Routes (answer_id i) ∷ []))
can_created b m o i x image links g is home kern found f =
    let s = o.kernel in
    let child = pid_of m (first_number + s.made m) in
    let u = service.with_created (without_message s i) child g links in
    let k = answer_to x (PlainWhat.Created child) in
    let t = with_sent u (Some k) in
    let named : pid_eq child (pid_of x.to.home (first_number + s.made x.to.home)) ≡ true = ap (λ n. pid_eq child (pid_of n (first_number + s.made n))) home ∙ pid_eq-same child in
    let step : kernel.step s (Label.Created i child) ≡ Some t =
    ap (λ (o_ : Option PlainMessage). bind o_ (λ (v : PlainMessage). service.creates s i v child v.what)) f.there ∙ ap (service.creates s i x child) is
    ∙ ap (λ (o_ : Option BootImage). bind o_ (service.creates_of s i x child links)) found
    ∙ ap (λ (c : Bool). when (c && pid_eq child (pid_of x.to.home (first_number + s.made x.to.home))) t) kern ∙ ap (λ (c : Bool). when c t) named in
    can_say (Calm m o) m (begun o m) (Label.Created i child) t (Routes (answer_id i) ∷ []) step refl (tt, tt)
    (does_route (Calm m o) (moved (begun o m) (Line.Label (Label.Created i child)) t) (answer_id i) k (answer_there u i x (PlainWhat.Created child) (name_of b m o i x f)) (λ c s_ user. absurd (false≢true user)))

can_no_space : (b : Boot) (m : ℕ) (o : Point) (i : MsgId) (x : PlainMessage) (image : ℕ) (links : List PlainLink) (slots blocks : ℕ) → x.what ≡ PlainWhat.Create image links → service.is_kernel o.kernel x.to ≡ true → Front b m o i x
    → CanTurn m o (Some (rule.says (Label.NoSpace i slots blocks) ∷ Routes (answer_id i) ∷ []))
can_no_space b m o i x image links slots blocks is kern f =
    let s = o.kernel in
    let k = answer_to x PlainWhat.NoRoom in
    let t = with_sent (without_message s i) (Some k) in
    let step : kernel.step s (Label.NoSpace i slots blocks) ≡ Some t =
    ap (λ (o_ : Option PlainMessage). bind o_ (λ (v : PlainMessage). service.has_no_room s i v v.what)) f.there ∙ ap (service.has_no_room s i x) is ∙ ap (λ (c : Bool). when c t) kern in
    can_say (Calm m o) m (begun o m) (Label.NoSpace i slots blocks) t (Routes (answer_id i) ∷ []) step refl (tt, tt)
    (does_route (Calm m o) (moved (begun o m) (Line.Label (Label.NoSpace i slots blocks)) t) (answer_id i) k (answer_there (without_message s i) i x PlainWhat.NoRoom (name_of b m o i x f)) (λ c s_ user. absurd (false≢true user)))

can_if : (C : Type 0) (m : ℕ) (pt : Point) (c : Bool) (p q : Part) (ps : List Part) → Can C m pt (Some (p ∷ ps)) → Can C m pt (Some (q ∷ ps)) → Can C m pt (Some ((if c then p else q) ∷ ps))
can_if C m pt true p q ps h k = h
can_if C m pt false p q ps h k = k

can_kernel : (b : Boot) (m : ℕ) (o : Point) (i : MsgId) (x : PlainMessage) (w : PlainWhat) → x.what ≡ w → (x.to.num == 0) ≡ true → Front b m o i x → WhatFits o.kernel i x w → CanTurn m o (rule.kernel_handles b o m i w)
can_kernel b m o i x (PlainWhat.Create image links) is num f h =
    let (zero_, home, numbered, sender, request, pending, fits) = h in
    let s = o.kernel in
    let (g, found) = get_is s.images image numbered in
    let here : slice_get b.images image ≡ Some g = ap (λ xs. slice_get xs image) (sym f.run.based.images) ∙ found in
    let kern : service.is_kernel s x.to ≡ true = ap (λ (c : Bool). c && nat_lt x.to.home s.machines) num ∙ home in
    let r = rule.free_room b o m in
    can_as (Calm m o) m (begun o m) (rule.kernel_handles b o m i (PlainWhat.Create image links)) (rule.creation_parts o m i r (Some g)) (ap (rule.creation_parts o m i r) here)
    (can_if (Calm m o) m (begun o m) (rule.has_room r g.blocks) (rule.says (Label.Created i (pid_of m (first_number + s.made m)))) (rule.says (Label.NoSpace i r.slots r.blocks)) (Routes (answer_id i) ∷ [])
    (can_created b m o i x image links g is (home_of b m o i x num f) kern found f) (can_no_space b m o i x image links r.slots r.blocks is kern f))
can_kernel b m o i x any_ is num f h = search (arith, process_not_kernel, server_number)

routes_quiet : (k : Option PlainMessage) → no_receive (said (rule.routes k)) ≡ true
routes_quiet None = refl
routes_quiet (Some y) = refl

routes_own : (k : Option PlainMessage) → HaveNoOwn (rule.routes k)
routes_own None = tt
routes_own (Some y) = (tt, tt)

-- a server's message is its last, and has its home in its name
record Sends (m : ℕ) (o : Point) (u : OneKernel) (k : Option PlainMessage) : Type 0 where
  fresh : (y : PlainMessage) → k ≡ Some y → counts o.kernel y.id ≡ false
  last : (y : PlainMessage) → k ≡ Some y → counts u (next_id y.id) ≡ false
  home : (y : PlainMessage) → k ≡ Some y → y.id.from.home ≡ m

took_last : (b : Boot) (m : ℕ) (o : Point) (i : MsgId) (x : PlainMessage) (u : OneKernel) (k : Option PlainMessage) (y : PlainMessage) → Sends m o u k → k ≡ Some y → is_kernels y.id ≡ false → Front b m o i x → Last (with_sent u k) (handled (begun o m).view i) y.id
took_last b m o i x u k y sends e other f = search (arith, sends.home, y.id, sends.last, never_counted, f.run.based.phased.sane, sends.fresh)

can_take : (b : Boot) (m : ℕ) (o : Point) (i : MsgId) (x : PlainMessage) (u : OneKernel) (k : Option PlainMessage) → kernel.step o.kernel (Label.Took i) ≡ Some (with_sent u k) → Sends 0 o u k → (Calm m o → m ≡ 0) → Front b m o i x → CanTurn m o (Some (rule.says (Label.Took i) ∷ rule.routes k))
can_take b m o i x u k step sends at f =
    let t = with_sent u k in
    can_say (Calm m o) m (begun o m) (Label.Took i) t (rule.routes k) step (routes_quiet k) (routes_own k)
    (does_routes (Calm m o) (moved (begun o m) (Line.Label (Label.Took i)) t) k (λ y e. sent_there u k y e) (λ y e c s. took_last b m o i x u k y (subst (λ (n : ℕ). Sends n o u k) (sym (at c)) sends) e (not_kernels s.r s.e t y.id y (sent_there u k y e) s.sound) f))

-- what the servers send
board_sends : (m : ℕ) (o : Point) (i : MsgId) (x : PlainMessage) (k : board.BoardTook) → ServerSends switchboard o.kernel.switchboard.sent k.answer k.switchboard.sent → m ≡ 0 → Sends m o (record (without_message o.kernel i) { switchboard = k.switchboard }) k.answer
board_sends m o i x k sends at = search (arith, o.kernel.switchboard.sent, k.switchboard.sent, o.kernel, k.switchboard)

manager_sends : (m : ℕ) (o : Point) (i : MsgId) (x : PlainMessage) (k : manage.ManagerTook) → ServerSends manager o.kernel.manager.sent k.message k.manager.sent → m ≡ 0 → Sends m o (record (without_message o.kernel i) { manager = k.manager }) k.message
manager_sends m o i x k sends at = search (arith, o.kernel.manager.sent, k.manager.sent, o.kernel, k.manager)

at_server : (x : PlainMessage) (m : ℕ) → pid_eq x.to switchboard ≡ true → x.to.home ≡ m → m ≡ 0
at_server x m e home = let z : x.to.home ≡ 0 = grind (arith, nat_tests) in sym home ∙ z

at_manager : (x : PlainMessage) (m : ℕ) → pid_eq x.to manager ≡ true → x.to.home ≡ m → m ≡ 0
at_manager x m e home = let z : x.to.home ≡ 0 = grind (arith, nat_tests) in sym home ∙ z

can_board : (b : Boot) (m : ℕ) (o : Point) (i : MsgId) (x : PlainMessage) (w : PlainWhat) → x.what ≡ w → (x.to.num == 0) ≡ false → pid_eq x.to switchboard ≡ true → Front b m o i x → WhatFits o.kernel i x w
    → CanTurn m o (rule.board_took i (board.board_takes o.kernel.switchboard x w))
can_board b m o i x (PlainWhat.User code channel body links) is num one f h =
    let s = o.kernel in
    let k = board.takes_request s.switchboard body links in
    let u = record (without_message s i) { switchboard = k.switchboard } in
    let step : kernel.step s (Label.Took i) ≡ Some (with_sent u k.answer) =
    ap (λ (o_ : Option PlainMessage). bind o_ (service.takes s i)) f.there
    ∙ ap (λ (c : Bool). if c then bind (board.board_takes s.switchboard x x.what) (λ (t : board.BoardTook). Some (service.switchboard_took s i t)) else if pid_eq x.to manager then bind (manage.manager_takes s.manager s.machines (length s.images) x x.what) (λ (t : manage.ManagerTook). Some (service.manager_took s i t)) else None) one
    ∙ ap (λ (v : PlainWhat). bind (board.board_takes s.switchboard x v) (λ (t : board.BoardTook). Some (service.switchboard_took s i t))) is in
    can_take b m o i x u k.answer step (board_sends 0 o i x k (board_takes_lem s.switchboard x (PlainWhat.User code channel body links) k refl).2 refl) (λ c. at_server x m one (c.front i f.rest x f.box f.there)) f
can_board b m o i x any_ is num one f h = search (arith, process_not_board)

can_manage : (b : Boot) (m : ℕ) (o : Point) (i : MsgId) (x : PlainMessage) (w : PlainWhat) (k : manage.ManagerTook) → x.what ≡ w → pid_eq x.to switchboard ≡ false → pid_eq x.to manager ≡ true → manage.manager_takes o.kernel.manager o.kernel.machines (length o.kernel.images) x w ≡ Some k → Front b m o i x
    → CanTurn m o (rule.manager_parts i (manage.manager_takes o.kernel.manager o.kernel.machines (length o.kernel.images) x w))
can_manage b m o i x w k is one two takes f =
    let s = o.kernel in
    let u = record (without_message s i) { manager = k.manager } in
    let step : kernel.step s (Label.Took i) ≡ Some (with_sent u k.message) =
    ap (λ (o_ : Option PlainMessage). bind o_ (service.takes s i)) f.there
    ∙ ap (λ (c : Bool). if c then bind (board.board_takes s.switchboard x x.what) (λ (t : board.BoardTook). Some (service.switchboard_took s i t)) else if pid_eq x.to manager then bind (manage.manager_takes s.manager s.machines (length s.images) x x.what) (λ (t : manage.ManagerTook). Some (service.manager_took s i t)) else None) one
    ∙ ap (λ (c : Bool). if c then bind (manage.manager_takes s.manager s.machines (length s.images) x x.what) (λ (t : manage.ManagerTook). Some (service.manager_took s i t)) else None) two
    ∙ ap (λ (v : PlainWhat). bind (manage.manager_takes s.manager s.machines (length s.images) x v) (λ (t : manage.ManagerTook). Some (service.manager_took s i t))) is
    ∙ ap (λ (t : Option manage.ManagerTook). bind t (λ (t : manage.ManagerTook). Some (service.manager_took s i t))) takes in
    can_as (Calm m o) m (begun o m) (rule.manager_parts i (manage.manager_takes s.manager s.machines (length s.images) x w)) (rule.manager_parts i (Some k)) (ap (rule.manager_parts i) takes)
    (can_take b m o i x u k.message step (manager_sends 0 o i x k (manager_takes_lem s.manager s.machines (length s.images) x w k takes).2.sends refl) (λ c. at_manager x m two (c.front i f.rest x f.box f.there)) f)

pub pending_is : (kind : PendingKind) (o : Option Pending) → is_for kind o ≡ true → (r : Pending) × (o ≡ Some r)
pending_is kind None e = cc
pending_is kind (Some r) e = (r, refl)

-- the request that an answer belongs to is pending
asked : (b : Boot) (m : ℕ) (o : Point) (i : MsgId) (x : PlainMessage) (kind : PendingKind) → IsPending o.kernel kind i → Front b m o i x → (r : Pending) × (manage.pending_numbered x.id.n o.kernel.manager.pending ≡ Some r)
asked b m o i x kind p f = pending_is kind (manage.pending_numbered x.id.n o.kernel.manager.pending) (ap (λ (j : MsgId). is_for kind (manage.pending_numbered j.n o.kernel.manager.pending)) (name_of b m o i x f) ∙ p.pending)

can_manager : (b : Boot) (m : ℕ) (o : Point) (i : MsgId) (x : PlainMessage) (w : PlainWhat) → x.what ≡ w → (x.to.num == 0) ≡ false → pid_eq x.to switchboard ≡ false → pid_eq x.to manager ≡ true → Front b m o i x → WhatFits o.kernel i x w
    → CanTurn m o (rule.manager_parts i (manage.manager_takes o.kernel.manager o.kernel.machines (length o.kernel.images) x w))
can_manager b m o i x (PlainWhat.User code channel body links) is num one two f h =
    can_manage b m o i x (PlainWhat.User code channel body links) (manage.takes_user o.kernel.manager o.kernel.machines (length o.kernel.images) code body links) is one two refl f
can_manager b m o i x (PlainWhat.Created child) is num one two f h =
    let (to, answer, pending, made) = h in
    let g = o.kernel.manager in
    let (r, found) = asked b m o i x PendingKind.Create pending f in
    can_manage b m o i x (PlainWhat.Created child) (manage.answers_over (record g { children = g.children ++ child ∷ []; pending = manage.without_pending x.id.n g.pending }) r.answer 0 (manage.control_link (length g.children + 1) ∷ [])) is one two
    (ap (manage.takes_answer g x.id.n (g.children ++ child ∷ []) 0 (manage.control_link (length g.children + 1) ∷ [])) found) f
can_manager b m o i x PlainWhat.NoRoom is num one two f h =
    let (to, answer, pending) = h in
    let g = o.kernel.manager in
    let (r, found) = asked b m o i x PendingKind.Create pending f in
    can_manage b m o i x PlainWhat.NoRoom (manage.answers_over (record g { pending = manage.without_pending x.id.n g.pending }) r.answer 1 []) is one two (ap (manage.takes_answer g x.id.n g.children 1 []) found) f
can_manager b m o i x (PlainWhat.Moved outcome) is num one two f h =
    let (to, answer, pending) = h in
    let g = o.kernel.manager in
    let (r, found) = asked b m o i x PendingKind.Move pending f in
    can_manage b m o i x (PlainWhat.Moved outcome) (manage.answers_over (record g { pending = manage.without_pending x.id.n g.pending }) r.answer (code_of_outcome outcome) []) is one two (ap (manage.takes_answer g x.id.n g.children (code_of_outcome outcome) []) found) f
can_manager b m o i x any_ is num one two f h = search (arith, process_not_manager)

-- a server is never over
never_over : {X : Type 0} (b : Boot) (m : ℕ) (o : Point) (i : MsgId) (x : PlainMessage) → (x.to.num == 0) ≡ false → is_server x.to ≡ true → Front b m o i x → o.view.known m x.to ≡ view.Unknown → X
never_over b m o i x num server f none =
    let (y, over) = front_over b m o i x num f none in
    absurd (false≢true (sym (made_server o.kernel x.to f.run.based.phased.sane.sound.made (ap is_some over)) ∙ server))

-- a message whose receiver is no kernel
can_other : (b : Boot) (m : ℕ) (o : Point) (i : MsgId) (x : PlainMessage) (d e : Bool) → (x.to.num == 0) ≡ false → pid_eq x.to switchboard ≡ d → pid_eq x.to manager ≡ e → Front b m o i x → OwnTold o → CanTurn m o (rule.process_handles o m i x (o.view.known m x.to))
can_other b m o i x true e num one two f own =
    let server : is_server x.to ≡ true = ap (λ (c : Bool). c || pid_eq x.to manager) one in
    let took = rule.board_took i (board.board_takes o.kernel.switchboard x x.what) in
    let rest = if pid_eq x.to manager then rule.manager_parts i (manage.manager_takes o.kernel.manager o.kernel.machines (length o.kernel.images) x x.what) else bind (kernel.alive (o.kernel.processes x.to)) (λ (p : PlainProcess). rule.here_handles o m i x p x.what) in
    can_known b m o i x (o.view.known m x.to) refl (λ none. never_over b m o i x num server f none)
    (λ here. can_as (Calm m o) m (begun o m) (rule.handles_here o m i x) took (ap (λ (c : Bool). if c then took else rest) one) (can_board b m o i x x.what refl num one f (f.run.based.fits.messages i x f.there))) f own
can_other b m o i x false true num one two f own =
    let server : is_server x.to ≡ true = ap (λ (c : Bool). c || pid_eq x.to manager) one ∙ two in
    let took = rule.manager_parts i (manage.manager_takes o.kernel.manager o.kernel.machines (length o.kernel.images) x x.what) in
    let rest = bind (kernel.alive (o.kernel.processes x.to)) (λ (p : PlainProcess). rule.here_handles o m i x p x.what) in
    can_known b m o i x (o.view.known m x.to) refl (λ none. never_over b m o i x num server f none)
    (λ here. can_as (Calm m o) m (begun o m) (rule.handles_here o m i x) took
    (ap (λ (c : Bool). if c then rule.board_took i (board.board_takes o.kernel.switchboard x x.what) else if pid_eq x.to manager then took else rest) one ∙ ap (λ (c : Bool). if c then took else rest) two) (can_manager b m o i x x.what refl num one two f (f.run.based.fits.messages i x f.there))) f own
can_other b m o i x false false num one two f own = can_process b m o i x num one two f own

-- whoever the message is for
can_by : (b : Boot) (m : ℕ) (o : Point) (i : MsgId) (x : PlainMessage) (c : Bool) → (x.to.num == 0) ≡ c → Front b m o i x → OwnTold o → CanTurn m o (if c then rule.kernel_handles b o m i x.what else rule.process_handles o m i x (o.view.known m x.to))
can_by b m o i x true num f own = can_kernel b m o i x x.what refl num f (f.run.based.fits.messages i x f.there)
can_by b m o i x false num f own = can_other b m o i x (pid_eq x.to switchboard) (pid_eq x.to manager) num refl refl f own

pub can_handle : (b : Boot) (m : ℕ) (o : Point) (i : MsgId) (x : PlainMessage) → Front b m o i x → OwnTold o → CanTurn m o (rule.comes_to b o m i (o.kernel.bag i))
can_handle b m o i x f own = search (arith, can_as, o.kernel.bag, f.there, can_by)
