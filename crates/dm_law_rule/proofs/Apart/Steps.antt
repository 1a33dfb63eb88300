-- A step that is not of a process leaves its plain value.
use Rattle.dm_law_rule.proofs.Names.{◌≡◌, ◌≢◌, ◌+◌, ◌==◌, ◌&&◌, Bool, true, false, List, refl, ap, ⊤, if◌then◌else◌, slice_get, Option, None, Some, Pid, pid_of, pid_eq, PlainLink, MsgId, id_eq, Called, PlainMessage, PlainWhat, BootImage, Label}
use Rattle.dm_law_rule.proofs.Names.{first_number, reply_eq, bind, when, PlainProcess, Life, Alive, OneKernel, with_process, with_sent, answer_to, without_message, begun, IsOthers, pid_eq-is, Outcome, arith, false_from_ne_true, ◌∙◌, sym, subst, switchboard, manager, Spares, kernel_after}
use Rattle.dm_onekernel.specs.Pieces as pieces
use Rattle.dm_onekernel.specs.Receiving as receiving
use Rattle.dm_onekernel.specs.Service as service
use Rattle.dm_onekernel.specs.Switchboard as board
use Rattle.dm_onekernel.specs.Step as kernel
use Rattle.dm_law_rule.proofs.Requests.{by_test}
use Rattle.dm_law_rule.proofs.Changes.{by_step}

-- the next kernel, where there is one, has the process as it was
abbrev pub Keeps : OneKernel → Pid → Option OneKernel → Type 0
Keeps s p None = ⊤
Keeps s p (Some t) = t.processes p ≡ s.processes p

keeps_bind : {X : Type 0} (s : OneKernel) (p : Pid) (o : Option X) (f : X → Option OneKernel) → ((x : X) → o ≡ Some x → Keeps s p (f x)) → Keeps s p (bind o f)
keeps_bind s p None f h = tt
keeps_bind s p (Some x) f h = h x refl

keeps_when : (s : OneKernel) (p : Pid) (c : Bool) (t : OneKernel) → t.processes p ≡ s.processes p → Keeps s p (when c t)
keeps_when s p true t h = h
keeps_when s p false t h = tt

-- another process is set
set_off : (s : OneKernel) (q p : Pid) (life : Life) → q ≢ p → (with_process s q life).processes p ≡ s.processes p
set_off s q p life off = ap (λ (c : Bool). if c then Some life else s.processes p) (false_from_ne_true (pid_eq q p) (λ e. off (pid_eq-is q p e)))

sent_off : (s : OneKernel) (o : Option PlainMessage) (p : Pid) → (with_sent s o).processes p ≡ s.processes p
sent_off s None p = refl
sent_off s (Some m) p = refl

-- a message is served
changed_off : (s : OneKernel) (p : Pid) (id : MsgId) (m : PlainMessage) (x : PlainProcess) → m.to ≢ p → (service.changed s id m x).processes p ≡ s.processes p
changed_off s p id m x off = set_off (without_message s id) m.to p (Alive x) off

-- a row a label
-- calls, a row each
pub keeps_step : (s : OneKernel) (p : Pid) (l : Label) → IsOthers s p l → Keeps s p (kernel.step s l)
keeps_step s p (Label.Ran q k) off =
    keeps_bind s p (kernel.running s q) (λ x. bind (kernel.plain_steps k (kernel.machine_of x)) (λ m. Some (kernel.goes_on s q (kernel.with_machine x m))))
    (λ x is. keeps_bind s p (kernel.plain_steps k (kernel.machine_of x)) (λ m. Some (kernel.goes_on s q (kernel.with_machine x m))) (λ m e. set_off s q p (Alive (kernel.with_machine x m)) off))
keeps_step s p (Label.Call q n c) off =
    keeps_bind s p (kernel.next_trap s q) (kernel.replies s q n c) (λ x is.
    (elim x as (λ next_. Keeps s p (kernel.replies s q n c next_)) [ kernel.Calls number' (Called.Replies reply' x') ↦ keeps_when s p ((n == number') && reply_eq c reply') (kernel.goes_on s q x') (set_off s q p (Alive x') off) | _ ↦ tt ]))
keeps_step s p (Label.Send q id) off =
    keeps_bind s p (kernel.next_trap s q) (kernel.sends s q id) (λ x is.
    (elim x as (λ next_. Keeps s p (kernel.sends s q id next_)) [ kernel.Calls number' (Called.Sends m' x') ↦ keeps_when s p (id_eq id m'.id) (with_sent (kernel.goes_on s q x') (Some m')) (set_off s q p (Alive x') off) | _ ↦ tt ]))
keeps_step s p (Label.Wait q) off =
    keeps_bind s p (kernel.next_trap s q) (kernel.waits s q) (λ x is.
    (elim x as (λ next_. Keeps s p (kernel.waits s q next_)) [ kernel.Calls number' (Called.Waits x') ↦ set_off s q p (Alive x') off | _ ↦ tt ]))
keeps_step s p (Label.Out q w) off =
    keeps_bind s p (kernel.next_trap s q) (kernel.outputs s q w) (λ x is.
    (elim x as (λ next_. Keeps s p (kernel.outputs s q w next_)) [ kernel.Calls number' (Called.Outputs word' x') ↦ keeps_when s p (w == word') (kernel.goes_on s q x') (set_off s q p (Alive x') off) | _ ↦ tt ]))
keeps_step s p (Label.End q y) off = keeps_bind s p (kernel.next_trap s q) (kernel.ends s q y) (λ x is. (let e_ : Keeps s p (kernel.ends s q y x) = search (arith, keeps_when, set_off) in e_))
keeps_step s p (Label.Receive q id) off = keeps_bind s p (kernel.completing s q id) (kernel.receives s q id) (λ x is. elim x as (λ c. Keeps s p (kernel.receives s q id c))
    [ receiving.Receives x_ ↦ set_off (without_message s id) q p (Alive x_) off | receiving.Refuses reply x_ ↦ tt ])
keeps_step s p (Label.Refuse q id c) off = search (arith, keeps_bind, keeps_when, set_off)
keeps_step s p (Label.Dropped id) off =
    keeps_bind s p (s.bag id) (λ m. bind (kernel.why_ended (s.processes m.to)) (kernel.drops s id m))
    (λ m there. keeps_bind s p (kernel.why_ended (s.processes m.to)) (kernel.drops s id m) (λ y is. keeps_when s p (service.is_dropped m.what) (without_message s id) refl))
keeps_step s p (Label.Served id) off =
    let keeps_serves : (s : OneKernel) (p : Pid) (id : MsgId) (m : PlainMessage) (x : PlainProcess) (k : PlainWhat) → m.to ≢ p → Keeps s p (service.serves s id m x k) = λ s p id m x k h1.
    let landed_off : (s : OneKernel) (p : Pid) (id : MsgId) (m : PlainMessage) (r : pieces.Landed) → m.to ≢ p → (service.landed s id m r).processes p ≡ s.processes p = λ s p id m r h1. search (arith, changed_off) in
    search (arith, changed_off, set_off, keeps_bind, landed_off) in
    keeps_bind s p (s.bag id) (λ m. bind (kernel.at_hand s m.to) (λ x. service.serves s id m x m.what))
    (λ m there. keeps_bind s p (kernel.at_hand s m.to) (λ x. service.serves s id m x m.what) (λ x is. keeps_serves s p id m x m.what (off m there)))
keeps_step s p (Label.Gone id) off =
    keeps_bind s p (s.bag id) (λ m. bind (kernel.why_ended (s.processes m.to)) (kernel.says_gone s id m))
    (λ m there. keeps_bind s p (kernel.why_ended (s.processes m.to)) (kernel.says_gone s id m) (λ y is. keeps_bind s p (service.gone_what m.what) (λ w. Some (with_sent (without_message s id) (Some (answer_to m w)))) (λ w e. refl)))
keeps_step s p (Label.Took id) off =
    let keeps_takes : (s : OneKernel) (p : Pid) (id : MsgId) (m : PlainMessage) → Keeps s p (service.takes s id m) = λ s p id m.
    let to_board = bind (board.board_takes s.switchboard m m.what) (λ t. Some (service.switchboard_took s id t)) in
    search (arith, by_test, keeps_bind, sent_off) in
    keeps_bind s p (s.bag id) (service.takes s id) (λ m there. keeps_takes s p id m)
keeps_step s p (Label.Created id q) off =
    -- a process is made
    let keeps_image : (s : OneKernel) (p child : Pid) (id : MsgId) (m : PlainMessage) (links : List PlainLink) (i : BootImage) → child ≢ p → Keeps s p (service.creates_of s id m child links i) = λ s p child id m links i off.
    keeps_when s p (service.is_kernel s m.to && pid_eq child (pid_of m.to.home (first_number + s.made m.to.home))) (with_sent (service.with_created (without_message s id) child i links) (Some (answer_to m (PlainWhat.Created child))))
    (set_off (without_message s id) child p (Alive (begun s.format i links)) off) in
    keeps_bind s p (s.bag id) (λ m. service.creates s id m q m.what) (λ m there. elim m.what as (λ k. Keeps s p (service.creates s id m q k))
    [ PlainWhat.Create x1 x2 ↦ keeps_bind s p (slice_get s.images x1) (service.creates_of s id m q x2) (λ i is. keeps_image s p q id m x2 i off) | _ ↦ tt ])
keeps_step s p (Label.NoSpace id a b) off =
    keeps_bind s p (s.bag id) (λ m. service.has_no_room s id m m.what) (λ m there.
    (elim m.what as (λ k_. Keeps s p (service.has_no_room s id m k_)) [ PlainWhat.Create x1' x2' ↦ keeps_when s p (service.is_kernel s m.to) (with_sent (without_message s id) (Some (answer_to m PlainWhat.NoRoom))) refl | _ ↦ tt ]))
keeps_step s p (Label.Asked id) off =
    keeps_bind s p (s.bag id) (λ m. bind (kernel.at_hand s m.to) (λ x. service.follows_request s id m m.what))
    (λ m there. keeps_bind s p (kernel.at_hand s m.to) (λ x. service.follows_request s id m m.what) (λ x is. elim m.what as (λ k. Keeps s p (service.follows_request s id m k))
    [ PlainWhat.Move machine ↦ refl | _ ↦ tt ]))
keeps_step s p (Label.Answered id o) off =
    keeps_bind s p (s.noted id) (λ q. bind (s.notes q) (λ n. service.ends_move s id q n o)) (λ q noted. keeps_bind s p (s.notes q) (λ n. service.ends_move s id q n o) (λ n notes.
    (elim o as (λ o_. Keeps s p (service.ends_move s id q n o_)) [ Outcome.Ended ↦ tt | _ ↦ refl ])))

-- nor does a server that it is take a message
abbrev pub IsAnothers : OneKernel → Pid → Label → Type 0
IsAnothers s p (Label.Took id) = (m : PlainMessage) → s.bag id ≡ Some m → m.to ≢ p
IsAnothers s p l = IsOthers s p l

abbrev pub Avoids : OneKernel → Pid → Option Label → Type 0
Avoids s p None = ⊤
Avoids s p (Some l) = IsAnothers s p l

others_of : (s : OneKernel) (p : Pid) (l : Label) → IsAnothers s p l → IsOthers s p l
others_of s p (Label.Took id) h = h
others_of s p _ h = h

pub spares_of : (s : OneKernel) (p : Pid) (o : Option Label) → Avoids s p o → Spares s p o
spares_of s p None h = tt
spares_of s p (Some l) h = others_of s p l h

-- so it stays
abbrev pub ServerStays : Pid → OneKernel → OneKernel → Type 0
ServerStays y s t = (pid_eq y switchboard ≡ true → t.switchboard ≡ s.switchboard) × (pid_eq y manager ≡ true → t.manager ≡ s.manager)

pub stays_same : (y : Pid) (s : OneKernel) → ServerStays y s s
stays_same y s = (λ b. refl, λ g. refl)

pub stays_on : (y : Pid) (s t u : OneKernel) → ServerStays y s t → ServerStays y t u → ServerStays y s u
stays_on y s t u h k = (λ b. k.0 b ∙ h.0 b, λ g. k.1 g ∙ h.1 g)

sent_servers : (s : OneKernel) (o : Option PlainMessage) → ((with_sent s o).switchboard ≡ s.switchboard) × ((with_sent s o).manager ≡ s.manager)
sent_servers s None = (refl, refl)
sent_servers s (Some m) = (refl, refl)

server_stays : (s t : OneKernel) (l : Label) (y : Pid) → IsAnothers s y l → kernel.step s l ≡ Some t → ServerStays y s t
server_stays s t l y others =
    let off : (id : MsgId) → l ≡ Label.Took id → (m : PlainMessage) → s.bag id ≡ Some m → m.to ≢ y = λ id e. subst (λ (x : Label). IsAnothers s y x) e others in
    by_step (ServerStays y s) s t l (record {
      ran = λ p k x m e r. (λ b. refl, λ g. refl);
      replies = λ p n k c d x e w. (λ b. refl, λ g. refl);
      sends = λ p id k m x e f w. (λ b. refl, λ g. refl);
      waits = λ p k x e w. (λ b. refl, λ g. refl);
      outputs = λ p word k v x e w. (λ b. refl, λ g. refl);
      ends = λ p why next e w. (λ b. refl, λ g. refl);
      receives = λ p id x e c is. (λ b. refl, λ g. refl);
      refuses = λ p id c d x e k is. (λ b. refl, λ g. refl);
      dropped = λ id m why e over drops. (λ b. refl, λ g. refl);
      gone = λ id m why e over w is. (λ b. refl, λ g. refl);
      stops = λ id m x stopped e lives mild. (λ b. refl, λ g. refl);
      kills = λ id m x e lives kill. (λ b. refl, λ g. refl);
      reads = λ id m x base len e lives what. (λ b. refl, λ g. refl);
      writes = λ id m x base bytes e lives what. (λ b. refl, λ g. refl);
      lands = λ id m x r z e lives mild lands. (λ b. refl, λ g. refl);
      done = λ id m x c z e lives mild lands. (λ b. refl, λ g. refl);
      board = λ id m k e there to took. (λ b. absurd (off id e m there (pid_eq-is m.to switchboard to ∙ sym (pid_eq-is y switchboard b))), λ g. (sent_servers (record (without_message s id) { switchboard = k.switchboard }) k.answer).1);
      manager = λ id m k e there to took. (λ b. (sent_servers (record (without_message s id) { manager = k.manager }) k.message).0, λ g. absurd (off id e m there (pid_eq-is m.to manager to ∙ sym (pid_eq-is y manager g))));
      creates = λ id child m image links i e asked is new. (λ b. refl, λ g. refl);
      no_room = λ id a c m image links e asked. (λ b. refl, λ g. refl);
      asked = λ id m x machine e lives what. (λ b. refl, λ g. refl);
      answered = λ id o p n e f. (λ b. refl, λ g. refl);
    })

pub kernel_servers : (s t : OneKernel) (y : Pid) (o : Option Label) → Avoids s y o → kernel_after s o ≡ Some t → ServerStays y s t
kernel_servers s t y None h e = let f : s ≡ t = cc in subst (ServerStays y s) f (stays_same y s)
kernel_servers s t y (Some l) h e = server_stays s t l y h e
