-- What servers do keeps, and what becomes of messages for the ended and for kernels.
use Rattle.dm_law_one.proofs.Names.{◌≡◌, ℕ, ◌+◌, ◌*◌, ◌≤◌, ◌==◌, ◌&&◌, Bool, true, false, List, [], ◌∷◌, ◌++◌, refl, ap, ◌∙◌, sym, subst, nat_lt, is_some, arith, length, if◌then◌else◌, slice_get, Option, None, Some, cases_Bool, inl, inr}
use Rattle.dm_law_one.proofs.Names.{false≢true, nat_tests, Pid, pid_eq, pid_of, PlainLink, MsgId, id_of, PlainMessage, PlainWhat, BootImage, Label, Why, first_number, switchboard, manager, bind, PlainProcess, Life, Alive, Ended, MoveNote}
use Rattle.dm_law_one.proofs.Names.{Outcome, Pending, Switchboard, Manager, OneKernel, with_process, with_sent, with_note, without_note, answer_id, answer_to, begun, without_message, gone_what, reception, code_of_outcome, PendingKind}
use Rattle.dm_onekernel.specs.Switchboard as board
use Rattle.dm_onekernel.specs.Manager as manage
use Rattle.dm_onekernel.specs.Service as service
use Rattle.dm_onekernel.specs.Step as step
use Rattle.dm_law_one.proofs.Equal.{pid_eq-is, id_eq-same}
use Rattle.dm_law_one.proofs.Counted.{is_of_memory, is_piece}
use Rattle.dm_law_one.proofs.Entered.{Made, asks, counts, is_counted}
use Rattle.dm_law_one.proofs.Movers.{Movers, other_names, IsUnawaited, unawaited, stayed, sent_at}
use Rattle.dm_law_one.proofs.Notes.{Notes}
use Rattle.dm_law_one.proofs.Grown.{LifeGrows, Went-bag, with_process-lives}
use Rattle.dm_law_one.proofs.Sound.{Sound, Serves, plus, leaves, sends, answers, begins, follows_no_more, server_sends, served_on, born}
use Rattle.dm_law_one.proofs.Steps.{bind-is, when-is, After, quiet, puts, was_none, at_hand-is}
use Rattle.dm_law_one.proofs.Names.{option_map_or}
use Rattle.dm_law_one.proofs.Facts.{none_some}

-- a server's answer: nothing, and its count stays, or a message under its count, which it raises
abbrev pub ServerSends : Pid → ℕ → Option PlainMessage → ℕ → Type 0
ServerSends server n None after = after ≡ n
ServerSends server n (Some m) after = (m.id ≡ id_of server n) × (after ≡ n + 1) × (is_of_memory m.what ≡ false) × (is_piece m.what ≡ false)

board_request : (b : Switchboard) (body : List ℕ) (links : List PlainLink) → ServerSends switchboard b.sent (board.takes_request b body links).answer (board.takes_request b body links).switchboard.sent
board_request b body [] = refl
board_request b body (l ∷ ls) = (refl, refl, refl, refl)

pub board_takes_lem : (b : Switchboard) (m : PlainMessage) (w : PlainWhat) (k : board.BoardTook) → board.board_takes b m w ≡ Some k
    → (is_of_memory w ≡ false) × (is_piece w ≡ false) × ServerSends switchboard b.sent k.answer k.switchboard.sent
board_takes_lem b m (PlainWhat.User code channel body links) k e =
    let f : board.takes_request b body links ≡ k = cc in
    (refl, refl, subst (λ (v : board.BoardTook). ServerSends switchboard b.sent v.answer v.switchboard.sent) f (board_request b body links))
board_takes_lem b m _ k e = none_some k e

-- the manager: its children and its count only rise
pub record ManagerSends (g : Manager) (k : manage.ManagerTook) : Type 0 where
  pub sends : ServerSends manager g.sent k.message k.manager.sent
  pub children : length g.children ≤ length k.manager.children

manager_answers : (g h : Manager) (l : PlainLink) (code : ℕ) (links : List PlainLink) → h.sent ≡ g.sent → length g.children ≤ length h.children → ManagerSends g (manage.answers_over h (Some l) code links)
manager_answers g h l code links e le = record { sends = (ap (id_of manager) e, ap (λ n. n + 1) e, refl, refl); children = le }

manager_bad : (g : Manager) (links : List PlainLink) → ManagerSends g (manage.bad_request g links)
manager_bad g [] = record { sends = refl; children = omega arith }
manager_bad g (l ∷ ls) = manager_answers g g l 2 [] refl (omega arith)

manager_over : (g h : Manager) (l : Option PlainLink) (code : ℕ) (links : List PlainLink) → h.sent ≡ g.sent → length g.children ≤ length h.children → ManagerSends g (manage.answers_over h l code links)
manager_over g h None code links e le = record { sends = e; children = le }
manager_over g h (Some l) code links e le = manager_answers g h l code links e le

manager_if : (g : Manager) (b : Bool) (x y : manage.ManagerTook) → ManagerSends g x → ManagerSends g y → ManagerSends g (if b then x else y)
manager_if g true x y h k = h
manager_if g false x y h k = k

manager_wants : (g : Manager) (machines images machine image : ℕ) (links : List PlainLink) → ManagerSends g (manage.wants_child g machines images machine image links)
manager_wants g machines images machine image [] = manager_bad g []
manager_wants g machines images machine image (l ∷ ls) =
    manager_if g (nat_lt machine machines && nat_lt image images) (manage.asks_for g machine image l ls) (manage.bad_request g (l ∷ ls))
    (record { sends = (refl, refl, refl, refl); children = omega arith }) (manager_bad g (l ∷ ls))

manager_requests : (g : Manager) (machines images : ℕ) (body : List ℕ) (links : List PlainLink) → ManagerSends g (manage.requests_child g machines images body links)
manager_requests g machines images (a ∷ b ∷ c ∷ d ∷ []) links =
    manager_if g (a == 1) (manage.wants_child g machines images b (256 * c + d) links) (manage.bad_request g links) (manager_wants g machines images b (256 * c + d) links) (manager_bad g links)
manager_requests g machines images _ links = manager_bad g links

-- what is done to a child is no data move
control_is : (b c d : Bool) (w : PlainWhat) → (if b then Some PlainWhat.Stop else if c then Some PlainWhat.Resume else if d then Some PlainWhat.Kill else None) ≡ Some w → (is_of_memory w ≡ false) × (is_piece w ≡ false)
control_is true c d w e = let f : PlainWhat.Stop ≡ w = cc in (sym (ap is_of_memory f), sym (ap is_piece f))
control_is false true d w e = let f : PlainWhat.Resume ≡ w = cc in (sym (ap is_of_memory f), sym (ap is_piece f))
control_is false false true w e = let f : PlainWhat.Kill ≡ w = cc in (sym (ap is_of_memory f), sym (ap is_piece f))
control_is false false false w e = none_some w e

manager_controls_child : (g : Manager) (child : Pid) (o : Option PlainWhat) (links : List PlainLink) → ((w : PlainWhat) → o ≡ Some w → (is_of_memory w ≡ false) × (is_piece w ≡ false))
    → ManagerSends g (option_map_or (manage.tells g child) o (manage.bad_request g links))
manager_controls_child g child None links h = manager_bad g links
manager_controls_child g child (Some w) links h = let k = h w refl in record { sends = (refl, refl, k.0, k.1); children = omega arith }

manager_controls : (g : Manager) (machines : ℕ) (child : Option Pid) (body : List ℕ) (links : List PlainLink) → ManagerSends g (manage.controls g machines child body links)
manager_controls g machines (Some child) (a ∷ []) links = manager_controls_child g child (manage.control_of a) links (control_is (a == 2) (a == 3) (a == 4))
manager_controls g machines (Some child) (a ∷ m ∷ []) links =
    manager_if g (a == 5) (manage.moves_child g machines child m links) (manage.bad_request g links)
    (manager_if g (nat_lt m machines) (manage.sends_request g PendingKind.Move child (PlainWhat.Move m) (slice_get links 0)) (manage.bad_request g links)
    (record { sends = (refl, refl, refl, refl); children = omega arith }) (manager_bad g links))
    (manager_bad g links)
manager_controls g machines None (a ∷ []) links = manager_bad g links
manager_controls g machines None (a ∷ m ∷ []) links = manager_bad g links
manager_controls g machines _ _ links = manager_bad g links

append-longer : {A : Type 0} (xs : List A) (y : A) → length (xs ++ y ∷ []) ≡ length xs + 1
append-longer [] y = refl
append-longer (x ∷ xs) y = omega (arith, append-longer xs y)

manager_created : (g : Manager) (n : ℕ) (child : Pid) (o : Option Pending) (k : manage.ManagerTook) → (manage.takes_answer g n (g.children ++ child ∷ []) 0 (manage.control_link (length g.children + 1) ∷ [])) o ≡ Some k → ManagerSends g k
manager_created g n child None k e = none_some k e
manager_created g n child (Some r) k e =
    let h = record g { children = g.children ++ child ∷ []; pending = manage.without_pending n g.pending } in
    let f : manage.answers_over h r.answer 0 (manage.control_link (length g.children + 1) ∷ []) ≡ k = cc in
    subst (ManagerSends g) f (manager_over g h r.answer 0 (manage.control_link (length g.children + 1) ∷ []) refl (let z = append-longer g.children child in omega (arith, z)))

manager_no_room : (g : Manager) (n : ℕ) (o : Option Pending) (k : manage.ManagerTook) → (manage.takes_answer g n g.children 1 []) o ≡ Some k → ManagerSends g k
manager_no_room g n None k e = none_some k e
manager_no_room g n (Some r) k e =
    let h = record g { pending = manage.without_pending n g.pending } in
    let f : manage.answers_over h r.answer 1 [] ≡ k = cc in
    subst (ManagerSends g) f (manager_over g h r.answer 1 [] refl (omega arith))

manager_moved : (g : Manager) (n : ℕ) (outcome : Outcome) (o : Option Pending) (k : manage.ManagerTook) → (manage.takes_answer g n g.children (code_of_outcome outcome) []) o ≡ Some k → ManagerSends g k
manager_moved g n outcome None k e = none_some k e
manager_moved g n outcome (Some r) k e =
    let h = record g { pending = manage.without_pending n g.pending } in
    let f : manage.answers_over h r.answer (code_of_outcome outcome) [] ≡ k = cc in
    subst (ManagerSends g) f (manager_over g h r.answer (code_of_outcome outcome) [] refl (omega arith))

pub manager_takes_lem : (g : Manager) (machines images : ℕ) (m : PlainMessage) (w : PlainWhat) (k : manage.ManagerTook) → manage.manager_takes g machines images m w ≡ Some k
    → (is_of_memory w ≡ false) × (is_piece w ≡ false) × ManagerSends g k
manager_takes_lem g machines images m (PlainWhat.User code channel body links) k e =
    let f : manage.takes_user g machines images code body links ≡ k = cc in (
      refl,
      refl,
      subst (ManagerSends g) f
          (manager_if g (code == 0) (manage.requests_child g machines images body links) (manage.controls g machines (manage.child_numbered g.children code) body links)
          (manager_requests g machines images body links) (manager_controls g machines (manage.child_numbered g.children code) body links)),
    )
manager_takes_lem g machines images m (PlainWhat.Created child) k e = (refl, refl, manager_created g m.id.n child (manage.pending_numbered m.id.n g.pending) k e)
manager_takes_lem g machines images m PlainWhat.NoRoom k e = (refl, refl, manager_no_room g m.id.n (manage.pending_numbered m.id.n g.pending) k e)
manager_takes_lem g machines images m (PlainWhat.Moved outcome) k e = (refl, refl, manager_moved g m.id.n outcome (manage.pending_numbered m.id.n g.pending) k e)
manager_takes_lem g machines images m _ k e = none_some k e

counts_at : (b c : Bool) (n x x' g g' : ℕ) (l l' : Option Life) → l' ≡ l → g ≤ g' → x ≤ x' → (if b then nat_lt n x else if c then nat_lt n g else is_counted n l) ≡ true → (if b then nat_lt n x' else if c then nat_lt n g' else is_counted n l') ≡ true
counts_at true c n x x' g g' l l' e p q h = grind (arith, nat_tests)
counts_at false true n x x' g g' l l' e p q h = grind (arith, nat_tests)
counts_at false false n x x' g g' l l' e p q h = ap (is_counted n) e ∙ h

counts_board_at : (s t : OneKernel) (i : MsgId) → t.processes i.from ≡ s.processes i.from → t.manager.sent ≡ s.manager.sent → s.switchboard.sent ≤ t.switchboard.sent → counts s i ≡ true → counts t i ≡ true
counts_board_at s t i p g le h = counts_at (pid_eq i.from switchboard) (pid_eq i.from manager) i.n s.switchboard.sent t.switchboard.sent s.manager.sent t.manager.sent (s.processes i.from) (t.processes i.from) p (omega (arith, g)) le h

counts_manager_at : (s t : OneKernel) (i : MsgId) → t.processes i.from ≡ s.processes i.from → t.switchboard.sent ≡ s.switchboard.sent → s.manager.sent ≤ t.manager.sent → counts s i ≡ true → counts t i ≡ true
counts_manager_at s t i p b le h = counts_at (pid_eq i.from switchboard) (pid_eq i.from manager) i.n s.switchboard.sent t.switchboard.sent s.manager.sent t.manager.sent (s.processes i.from) (t.processes i.from) p le (omega (arith, b)) h

-- the switchboard's count is its own
counts_board : (s t : OneKernel) (i : MsgId) → t.processes ≡ s.processes → t.manager ≡ s.manager → s.switchboard.sent ≤ t.switchboard.sent → counts s i ≡ true → counts t i ≡ true
counts_board s t i p g le h = counts_board_at s t i (ap (λ (f : Pid → Option Life). f i.from) p) (ap (λ (v : Manager). v.sent) g) le h

counts_manager : (s t : OneKernel) (i : MsgId) → t.processes ≡ s.processes → t.switchboard ≡ s.switchboard → s.manager.sent ≤ t.manager.sent → counts s i ≡ true → counts t i ≡ true
counts_manager s t i p b le h = counts_manager_at s t i (ap (λ (f : Pid → Option Life). f i.from) p) (ap (λ (v : Switchboard). v.sent) b) le h

after_board : (r e : MsgId → ℕ) (s : OneKernel) (id : MsgId) (k : board.BoardTook) → IsUnawaited s id → ServerSends switchboard s.switchboard.sent k.answer k.switchboard.sent → Sound r e s
    → (o : Option PlainMessage) → k.answer ≡ o → After r e s (Label.Took id) (with_sent (record (without_message s id) { switchboard = k.switchboard }) o)
after_board r e s id k un sends h None is =
    let count : k.switchboard.sent ≡ s.switchboard.sent = subst (λ o. ServerSends switchboard s.switchboard.sent o k.switchboard.sent) is sends in
    let u = without_message s id in
    let t = record u { switchboard = k.switchboard } in
    let w : Serves u t = record { processes = λ p. refl; made = λ n. refl; bag = λ i. refl; notes = λ p. refl; noted = λ i. refl; grows = λ i f. counts_board u t i refl refl (omega (arith, count)) f } in
    quiet r e s t (Label.Took id) (λ i. refl) (stayed s id) (Went-bag s t (λ q. refl) (λ n. refl) (omega (arith, count)) (omega arith) (omega arith))
    (served_on r e u t w (leaves r e s id un h))
after_board r e s id k un sends h (Some m) is =
    let all = subst (λ o. ServerSends switchboard s.switchboard.sent o k.switchboard.sent) is sends in
    let (name, count, memory, piece) = all in
    let u = without_message s id in
    let t = record u { switchboard = k.switchboard } in
    let w : Serves u t = record { processes = λ p. refl; made = λ n. refl; bag = λ i. refl; notes = λ p. refl; noted = λ i. refl; grows = λ i f. counts_board u t i refl refl (omega (arith, count)) f } in
    let fresh : counts u m.id ≡ false = ap (counts u) name ∙ (let z : nat_lt s.switchboard.sent s.switchboard.sent ≡ false = grind (arith, nat_tests) in z) in
    let counted : counts t m.id ≡ true = ap (counts t) name ∙ (let z : nat_lt s.switchboard.sent k.switchboard.sent ≡ true = grind (arith, nat_tests) in z) in
    let after = server_sends r e u t m w fresh counted (ap (λ (v : MsgId). v.answer) name) memory piece (leaves r e s id un h) in
    puts r e s t m (Label.Took id) (λ i. refl) (was_none r e s (with_sent t (Some m)) m.id m (sent_at t m m.id (id_eq-same m.id)) after h) (stayed s id)
    (Went-bag s (with_sent t (Some m)) (λ q. refl) (λ n. refl) (omega (arith, count)) (omega arith) (omega arith)) after

after_manager : (r e : MsgId → ℕ) (s : OneKernel) (id : MsgId) (k : manage.ManagerTook) → IsUnawaited s id → ManagerSends s.manager k → Sound r e s
    → (o : Option PlainMessage) → k.message ≡ o → After r e s (Label.Took id) (with_sent (record (without_message s id) { manager = k.manager }) o)
after_manager r e s id k un sends h None is =
    let count : k.manager.sent ≡ s.manager.sent = subst (λ o. ServerSends manager s.manager.sent o k.manager.sent) is sends.sends in
    let more = sends.children in
    let u = without_message s id in
    let t = record u { manager = k.manager } in
    let w : Serves u t = record { processes = λ p. refl; made = λ n. refl; bag = λ i. refl; notes = λ p. refl; noted = λ i. refl; grows = λ i f. counts_manager u t i refl refl (omega (arith, count)) f } in
    quiet r e s t (Label.Took id) (λ i. refl) (stayed s id) (Went-bag s t (λ q. refl) (λ n. refl) (omega arith) (omega (arith, count)) more)
    (served_on r e u t w (leaves r e s id un h))
after_manager r e s id k un sends h (Some m) is =
    let all = subst (λ o. ServerSends manager s.manager.sent o k.manager.sent) is sends.sends in
    let (name, count, memory, piece) = all in
    let more = sends.children in
    let u = without_message s id in
    let t = record u { manager = k.manager } in
    let w : Serves u t = record { processes = λ p. refl; made = λ n. refl; bag = λ i. refl; notes = λ p. refl; noted = λ i. refl; grows = λ i f. counts_manager u t i refl refl (omega (arith, count)) f } in
    let fresh : counts u m.id ≡ false = ap (counts u) name ∙ (let z : nat_lt s.manager.sent s.manager.sent ≡ false = grind (arith, nat_tests) in z) in
    let counted : counts t m.id ≡ true = ap (counts t) name ∙ (let z : nat_lt s.manager.sent k.manager.sent ≡ true = grind (arith, nat_tests) in z) in
    let after = server_sends r e u t m w fresh counted (ap (λ (v : MsgId). v.answer) name) memory piece (leaves r e s id un h) in
    puts r e s t m (Label.Took id) (λ i. refl) (was_none r e s (with_sent t (Some m)) m.id m (sent_at t m m.id (id_eq-same m.id)) after h) (stayed s id)
    (Went-bag s (with_sent t (Some m)) (λ q. refl) (λ n. refl) (omega arith) (omega (arith, count)) more) after

-- took: by which server
takes_by : (r e : MsgId → ℕ) (s t : OneKernel) (id : MsgId) (m : PlainMessage) (b c : Bool) → s.bag id ≡ Some m
    → (if b then bind (board.board_takes s.switchboard m m.what) (λ k. Some (service.switchboard_took s id k))
    else if c then bind (manage.manager_takes s.manager s.machines (length s.images) m m.what) (λ k. Some (service.manager_took s id k))
    else None) ≡ Some t → Sound r e s → After r e s (Label.Took id) t
takes_by r e s t id m true c there is h =
    let (k, took, last) = bind-is (board.board_takes s.switchboard m m.what) (λ v. Some (service.switchboard_took s id v)) t is in
    let (memory, piece, sends) = board_takes_lem s.switchboard m m.what k took in
    let f : service.switchboard_took s id k ≡ t = cc in
    subst (After r e s (Label.Took id)) f (after_board r e s id k (unawaited s id m there memory piece h.movers) sends h k.answer refl)
takes_by r e s t id m false true there is h =
    let (k, took, last) = bind-is (manage.manager_takes s.manager s.machines (length s.images) m m.what) (λ v. Some (service.manager_took s id v)) t is in
    let (memory, piece, sends) = manager_takes_lem s.manager s.machines (length s.images) m m.what k took in
    let f : service.manager_took s id k ≡ t = cc in
    subst (After r e s (Label.Took id)) f (after_manager r e s id k (unawaited s id m there memory piece h.movers) sends h k.message refl)
takes_by r e s t id m false false there is h = none_some t is

pub after_took : (r e : MsgId → ℕ) (s t : OneKernel) (id : MsgId) → step.step s (Label.Took id) ≡ Some t → Sound r e s → After r e s (Label.Took id) t
after_took r e s t id is h =
    let (m, there, rest) = bind-is (s.bag id) (service.takes s id) t is in
    takes_by r e s t id m (pid_eq m.to switchboard) (pid_eq m.to manager) there rest h

-- a message whose receiver has ended
pub why_ended-is : (l : Option Life) (y : Why) → step.why_ended l ≡ Some y → l ≡ Some (Ended y)
why_ended-is (Some (Ended z)) y e = ap (λ (v : Why). Some (Ended v)) (let f : z ≡ y = cc in f)
why_ended-is _ y e = none_some y e

apart_of : (s : OneKernel) (p q : Pid) (y : Why) (z : PlainProcess) (b : Bool) → pid_eq p q ≡ b → s.processes p ≡ Some (Ended y) → s.processes q ≡ Some (Alive z) → b ≡ false
apart_of s p q y z false e f g = refl
apart_of s p q y z true e f g = absurd (let is : p ≡ q = pid_eq-is p q e in let k : Some (Ended y) ≡ Some (Alive z) = sym f ∙ ap s.processes is ∙ g in cc)

dropped_by : (s : OneKernel) (id : MsgId) (m : PlainMessage) (y : Why) (b : Bool) → is_piece m.what ≡ b → s.bag id ≡ Some m → s.processes m.to ≡ Some (Ended y) → is_of_memory m.what ≡ false → Movers s → IsUnawaited s id
dropped_by s id m y false piece there gone memory h q z n alive waits = unawaited s id m there memory piece h q z n alive waits
dropped_by s id m y true piece there gone memory h q z n alive waits =
    let from : m.to ≡ id.from = (h.returns id m there piece).0 in
    let apart : pid_eq id.from q ≡ false = apart_of s id.from q y z (pid_eq id.from q) refl (ap s.processes (sym from) ∙ gone) alive in
    (other_names id.from q id (id_of q n) apart refl refl, other_names id.from q id (answer_id (id_of q n)) apart refl refl)

-- nobody waits for a message of a kind that is dropped, whose receiver has ended
dropped_unawaited : (s : OneKernel) (id : MsgId) (m : PlainMessage) (y : Why) → s.bag id ≡ Some m → s.processes m.to ≡ Some (Ended y) → is_of_memory m.what ≡ false → Movers s → IsUnawaited s id
dropped_unawaited s id m y there gone memory h = dropped_by s id m y (is_piece m.what) refl there gone memory h

not_memory : (w : PlainWhat) → service.is_dropped w ≡ true → is_of_memory w ≡ false
not_memory (PlainWhat.Read a b) e = cc
not_memory (PlainWhat.Write a b) e = cc
not_memory _ e = refl

pub after_dropped : (r e : MsgId → ℕ) (s t : OneKernel) (id : MsgId) → step.step s (Label.Dropped id) ≡ Some t → Sound r e s → After r e s (Label.Dropped id) t
after_dropped r e s t id is h =
    let (m, there, rest) = bind-is (s.bag id) (λ v. bind (step.why_ended (s.processes v.to)) (step.drops s id v)) t is in
    let (y, gone, last) = bind-is (step.why_ended (s.processes m.to)) (step.drops s id m) t rest in
    let k = when-is (service.is_dropped m.what) (without_message s id) t last in
    let un = dropped_unawaited s id m y there (why_ended-is (s.processes m.to) y gone) (not_memory m.what k.0) h.movers in
    subst (After r e s (Label.Dropped id)) k.1
    (quiet r e s (without_message s id) (Label.Dropped id) (λ i. refl) (stayed s id) (Went-bag s (without_message s id) (λ q. refl) (λ n. refl) (omega arith) (omega arith) (omega arith)) (leaves r e s id un h))

-- an answer takes the place of a request, and no process changes
answer_row : (r e : MsgId → ℕ) (s : OneKernel) (id : MsgId) (m : PlainMessage) (w : PlainWhat) (l : Label) → s.bag id ≡ Some m → asks m.what ≡ true → asks w ≡ false → is_of_memory w ≡ false → is_piece w ≡ is_of_memory m.what
    → ((i : MsgId) → reception i l ≡ 0) → Sound r e s → After r e s l (with_sent (without_message s id) (Some (answer_to m w)))
answer_row r e s id m w l there asking answering memory piece none h =
    let t = with_sent (without_message s id) (Some (answer_to m w)) in
    let name : m.id ≡ id = h.entered.named id m there in
    let after : Sound r (λ i. e i + plus (answer_to m w).id i) t =
    subst (λ v. Sound r (λ i. e i + plus v i) t) (sym (ap answer_id name)) (answers r e s id m w there asking answering memory piece h) in
    puts r e s (without_message s id) (answer_to m w) l none
    (was_none r e s t (answer_to m w).id (answer_to m w) (sent_at (without_message s id) (answer_to m w) (answer_to m w).id (id_eq-same (answer_to m w).id)) after h)
    (stayed s id) (Went-bag s t (λ q. refl) (λ n. refl) (omega arith) (omega arith) (omega arith)) after

-- what is answered where the receiver has ended
abbrev pub IsGoneSo : PlainWhat → PlainWhat → Type 0
IsGoneSo v w = (asks v ≡ true) × (asks w ≡ false) × (is_of_memory w ≡ false) × (is_piece w ≡ is_of_memory v)

pub gone_so : (v w : PlainWhat) → gone_what v ≡ Some w → IsGoneSo v w
gone_so (PlainWhat.Read a b) w e = let f : PlainWhat.Gone ≡ w = cc in (refl, sym (ap asks f), sym (ap is_of_memory f), sym (ap is_piece f))
gone_so (PlainWhat.Write a b) w e = let f : PlainWhat.Gone ≡ w = cc in (refl, sym (ap asks f), sym (ap is_of_memory f), sym (ap is_piece f))
gone_so (PlainWhat.Move a) w e = let f : PlainWhat.Moved Outcome.Ended ≡ w = cc in (refl, sym (ap asks f), sym (ap is_of_memory f), sym (ap is_piece f))
gone_so _ w e = none_some w e

pub after_gone : (r e : MsgId → ℕ) (s t : OneKernel) (id : MsgId) → step.step s (Label.Gone id) ≡ Some t → Sound r e s → After r e s (Label.Gone id) t
after_gone r e s t id is h =
    let (m, there, rest) = bind-is (s.bag id) (λ v. bind (step.why_ended (s.processes v.to)) (step.says_gone s id v)) t is in
    let (y, gone, last) = bind-is (step.why_ended (s.processes m.to)) (step.says_gone s id m) t rest in
    let (w, is_gone, so) = bind-is (gone_what m.what) (λ v. Some (with_sent (without_message s id) (Some (answer_to m v)))) t last in
    let (asking, answering, memory, piece) = gone_so m.what w is_gone in
    let k : with_sent (without_message s id) (Some (answer_to m w)) ≡ t = cc in
    subst (After r e s (Label.Gone id)) k (answer_row r e s id m w (Label.Gone id) there asking answering memory piece (λ i. refl) h)

-- a kernel answers a request for a process
no_room_row : (r e : MsgId → ℕ) (s t : OneKernel) (id : MsgId) (m : PlainMessage) (w : PlainWhat) (a b : ℕ) → m.what ≡ w → s.bag id ≡ Some m → service.has_no_room s id m w ≡ Some t → Sound r e s → After r e s (Label.NoSpace id a b) t
no_room_row r e s t id m (PlainWhat.Create image links) a b w there is h =
    let k = when-is _ (with_sent (without_message s id) (Some (answer_to m PlainWhat.NoRoom))) t is in
    subst (After r e s (Label.NoSpace id a b)) k.1 (answer_row r e s id m PlainWhat.NoRoom (Label.NoSpace id a b) there (ap asks w) refl refl (sym (ap is_of_memory w)) (λ i. refl) h)
no_room_row r e s t id m _ a b w there is h = none_some t is

pub after_no_space : (r e : MsgId → ℕ) (s t : OneKernel) (id : MsgId) (a b : ℕ) → step.step s (Label.NoSpace id a b) ≡ Some t → Sound r e s → After r e s (Label.NoSpace id a b) t
after_no_space r e s t id a b is h =
    let (m, there, rest) = bind-is (s.bag id) (λ v. service.has_no_room s id v v.what) t is in
    no_room_row r e s t id m m.what a b refl there rest h

pub none_below : (s : OneKernel) (p : Pid) (o : Option Life) → s.processes p ≡ o → (is_some (s.processes p) ≡ true → nat_lt p.num (3 + s.made p.home) ≡ true) → p.num ≡ first_number + s.made p.home → o ≡ None
none_below s p None e h n = refl
none_below s p (Some l) e h n = absurd (let k = h (ap is_some e) in let z : nat_lt p.num (3 + s.made p.home) ≡ false = grind (arith, nat_tests) in false≢true (sym z ∙ k))

-- the next number of a home is no process's
pub next_is_new : (s : OneKernel) (home : ℕ) → Made s → s.processes (pid_of home (first_number + s.made home)) ≡ None
next_is_new s home h = none_below s (pid_of home (first_number + s.made home)) (s.processes (pid_of home (first_number + s.made home))) refl (h.most (pid_of home (first_number + s.made home))) refl

unborn : (e : MsgId → ℕ) (s : OneKernel) (p q : Pid) (n : MoveNote) → s.processes p ≡ None → s.notes q ≡ Some n → Notes e s → pid_eq p q ≡ false
unborn e s p q n none notes h = elim (cases_Bool (pid_eq p q)) [
  | inl same ↦ let (x, alive) = h.lives q n notes in absurd (let k : None ≡ Some (Alive x) = sym none ∙ ap s.processes (pid_eq-is p q same) ∙ alive in cc)
  | inr apart ↦ apart
]

created_row : (r e : MsgId → ℕ) (s t : OneKernel) (id : MsgId) (m : PlainMessage) (child : Pid) (links : List PlainLink) (image : BootImage) → s.bag id ≡ Some m → asks m.what ≡ true → is_of_memory m.what ≡ false
    → service.creates_of s id m child links image ≡ Some t → Sound r e s → After r e s (Label.Created id child) t
created_row r e s t id m child links image there asking memory is h =
    let u = service.with_created (without_message s id) child image links in
    let k = when-is _ (with_sent u (Some (answer_to m (PlainWhat.Created child)))) t is in
    let both = k.0 in
    let name : pid_eq child (pid_of m.to.home (first_number + s.made m.to.home)) ≡ true = grind (arith, nat_tests) in
    let child_is : child ≡ pid_of m.to.home (first_number + s.made m.to.home) = pid_eq-is child (pid_of m.to.home (first_number + s.made m.to.home)) name in
    let home : child.home ≡ m.to.home = ap (λ (v : Pid). v.home) child_is in
    let num : child.num ≡ first_number + s.made m.to.home = ap (λ (v : Pid). v.num) child_is in
    let none : s.processes child ≡ None = ap s.processes child_is ∙ next_is_new s m.to.home h.made in
    let y = begun s.format image links in
    let made : ℕ → ℕ = λ n. s.made n + (if child.home == n then 1 else 0) in
    let v = record (with_process s child (Alive y)) { made = made } in
    let same_home : made child.home ≡ s.made m.to.home + 1 = grind (arith, nat_tests) in
    let stands = born r e s child y made none refl (let n = num in grind (arith, nat_tests)) (let n = num in let q = same_home in grind (arith, nat_tests)) (λ n. grind (arith, nat_tests)) h in
    let after_ = answers r e v id m (PlainWhat.Created child) there asking refl refl (sym memory) stands in
    let t_ = with_sent u (Some (answer_to m (PlainWhat.Created child))) in
    let name_ : m.id ≡ id = h.entered.named id m there in
    let after : Sound r (λ i. e i + plus (answer_to m (PlainWhat.Created child)).id i) t_ = subst (λ w. Sound r (λ i. e i + plus w i) t_) (sym (ap answer_id name_)) after_ in
    subst (After r e s (Label.Created id child)) k.1
    (puts r e s u (answer_to m (PlainWhat.Created child)) (Label.Created id child) (λ i. refl)
    (was_none r e s t_ (answer_to m (PlainWhat.Created child)).id (answer_to m (PlainWhat.Created child)) (sent_at u (answer_to m (PlainWhat.Created child)) (answer_to m (PlainWhat.Created child)).id (id_eq-same (answer_to m (PlainWhat.Created child)).id)) after h)
    (stayed s id)
    (record {
      grown = record {
        lives = with_process-lives s child (Alive y) (subst (λ w. LifeGrows w (Some (Alive y))) (sym none) tt);
        switchboard = omega arith;
        manager = omega arith;
        made = λ n. grind (arith, nat_tests);
        children = omega arith;
      };
      rests = λ q n notes. ap (λ (b : Bool). if b then Some (Alive y) else s.processes q) (unborn e s child q n none notes h.notes);
    }) after)

creates_row : (r e : MsgId → ℕ) (s t : OneKernel) (id : MsgId) (m : PlainMessage) (child : Pid) (w : PlainWhat) → m.what ≡ w → s.bag id ≡ Some m → service.creates s id m child w ≡ Some t → Sound r e s → After r e s (Label.Created id child) t
creates_row r e s t id m child (PlainWhat.Create image links) w there is h =
    let (i, found, rest) = bind-is (slice_get s.images image) (service.creates_of s id m child links) t is in
    created_row r e s t id m child links i there (ap asks w) (ap is_of_memory w) rest h
creates_row r e s t id m child _ w there is h = none_some t is

pub after_created : (r e : MsgId → ℕ) (s t : OneKernel) (id : MsgId) (child : Pid) → step.step s (Label.Created id child) ≡ Some t → Sound r e s → After r e s (Label.Created id child) t
after_created r e s t id child is h =
    let (m, there, rest) = bind-is (s.bag id) (λ v. service.creates s id v child v.what) t is in
    creates_row r e s t id m child m.what refl there rest h

-- a process is asked to move
follows_row : (r e : MsgId → ℕ) (s t : OneKernel) (id : MsgId) (m : PlainMessage) (x : PlainProcess) (w : PlainWhat) → m.what ≡ w → s.bag id ≡ Some m → s.notes m.to ≡ None
    → s.processes m.to ≡ Some (Alive x) → service.follows_request s id m w ≡ Some t → Sound r e s → After r e s (Label.Asked id) t
follows_row r e s t id m x (PlainWhat.Move machine) w there free alive is h =
    let u = with_note (without_message s id) m.to (record { id = id; asker = m.sender }) in
    let k : u ≡ t = cc in
    subst (After r e s (Label.Asked id)) k
    (quiet r e s u (Label.Asked id) (λ i. refl) (stayed s id) (Went-bag s u (λ q. refl) (λ n. refl) (omega arith) (omega arith) (omega arith)) (begins r e s id m machine x there w free alive h))
follows_row r e s t id m x _ w there free alive is h = none_some t is

pub after_asked : (r e : MsgId → ℕ) (s t : OneKernel) (id : MsgId) → step.step s (Label.Asked id) ≡ Some t → Sound r e s → After r e s (Label.Asked id) t
after_asked r e s t id is h =
    let (m, there, rest) = bind-is (s.bag id) (λ v. bind (step.at_hand s v.to) (λ p. service.follows_request s id v v.what)) t is in
    let (x, at, last) = bind-is (step.at_hand s m.to) (λ p. service.follows_request s id m m.what) t rest in
    let (free, alive) = at_hand-is s m.to x at in
    follows_row r e s t id m x m.what refl there free alive last h

-- the answer to a request that a process followed
pub ends_move-is : (s t : OneKernel) (id : MsgId) (p : Pid) (n : MoveNote) (o : Outcome) → service.ends_move s id p n o ≡ Some t → service.move_ended s id p n o ≡ t
ends_move-is s t id p n Outcome.Done e = cc
ends_move-is s t id p n Outcome.Stayed e = cc
ends_move-is s t id p n Outcome.Ended e = cc

ends_row : (r e : MsgId → ℕ) (s : OneKernel) (p : Pid) (n : MoveNote) (o : Outcome) → s.notes p ≡ Some n → Sound r e s → After r e s (Label.Answered n.id o) (service.move_ended s n.id p n o)
ends_row r e s p n o is h =
    let u = without_note s p n.id in
    let a : PlainMessage = record { id = answer_id n.id; to = n.asker; sender = p; what = PlainWhat.Moved o } in
    let after = follows_no_more r e s p n o is h in
    puts r e s u a (Label.Answered n.id o) (λ i. refl) (was_none r e s (with_sent u (Some a)) a.id a (sent_at u a a.id (id_eq-same a.id)) after h) (λ i z f. f)
    (Went-bag s (with_sent u (Some a)) (λ q. refl) (λ n. refl) (omega arith) (omega arith) (omega arith)) after

-- the note of the process that follows a request is of that request
pub note-is : (e : MsgId → ℕ) (s : OneKernel) (id : MsgId) (p : Pid) (n : MoveNote) → s.noted id ≡ Some p → s.notes p ≡ Some n → Notes e s → n.id ≡ id
note-is e s id p n noted notes h = let (k, there, is) = h.follows id p noted in let f : Some n ≡ Some k = sym notes ∙ there in let g : n ≡ k = cc in ap (λ (v : MoveNote). v.id) g ∙ is

pub after_answered : (r e : MsgId → ℕ) (s t : OneKernel) (id : MsgId) (o : Outcome) → step.step s (Label.Answered id o) ≡ Some t → Sound r e s → After r e s (Label.Answered id o) t
after_answered r e s t id o is h =
    let (p, noted, rest) = bind-is (s.noted id) (λ v. bind (s.notes v) (λ n. service.ends_move s id v n o)) t is in
    let (n, notes, last) = bind-is (s.notes p) (λ v. service.ends_move s id p v o) t rest in
    subst (After r e s (Label.Answered id o)) (ends_move-is s t id p n o last)
    (subst (λ i. After r e s (Label.Answered i o) (service.move_ended s i p n o)) (note-is e s id p n noted notes h.notes) (ends_row r e s p n o notes h))
