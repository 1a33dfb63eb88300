-- A kernel's own message is handled: what comes of it, row by row. Whatever holds of the parts of each row holds of what comes of the message.
use Rattle.dm_law_rule.proofs.Names.{◌≡◌, ℕ, ◌==◌, Bool, false, List, [], ◌∷◌, ◌++◌, ◌⊎◌, true, refl, subst, length, ⊤, if◌then◌else◌, Option, None, Some, Pid, pid_of, MsgId, MessageKind, Line, Stage, Boot}
use Rattle.dm_law_rule.proofs.Names.{manager, Size, size_of, is_server, Told, About, Of, Known, Unknown, Here, Frozen, Incoming, Forward, Point, Part, Says, Again, Owns, Addresses, place_told, to_kernel, forwards_on, gives_piece, takes_last_chunk, sends_on, leaves}
use Rattle.dm_law_rule.proofs.Names.{told_step, updates, told_here, told_ended, process_told, kernel_hears, hears, bind, bind-is, behind_count, MoveNote, Outcome, answers_move, tells_asker, leaves_for, sort_of, arith, calls_off}
use Rattle.dm_law_rule.proofs.Names.{is_stale, map, buried, buries, preds_of, tells_end, none_some}
use Rattle.dm_law_rule.proofs.Requests.{by_test, by_calls_off}
use Rattle.dm_law_rule.specs.Rule as rule

-- a process's messages go on, and it has left
abbrev pub left_parts : MsgId → Pid → List MsgId → ℕ → List Part
left_parts id p ids to = Says (Line.SentOn p (length ids)) ∷ sends_on to ids ++ Says (Line.Migration Stage.Left p) ∷ to_kernel MessageKind.Restart id.from.home ∷ []

-- it is frozen there, and these are its messages
pub record Leaves (o : Point) (m : ℕ) (k : MessageKind) (p : Pid) (ids : List MsgId) (to : ℕ) : Type 0 where
  pub kind : k ≡ MessageKind.AllTaken
  pub known : o.view.known m p ≡ Frozen to
  pub lists : ids ≡ o.view.queue m p ++ o.view.held m p

-- it stays where it is: it was refused, or called off
abbrev pub TurnsBack : MessageKind → Type 0
TurnsBack k = (k ≡ MessageKind.Refuse) ⊎ (k ≡ MessageKind.CallOff)

-- what the kernels of two machines tell each other of a process
pub record Tells (P : List Part → Type 0) (o : Point) (m : ℕ) (id : MsgId) (k : MessageKind) (p : Pid) : Type 0 where
  pub accepted : k ≡ MessageKind.Ask → P (Says (Line.Migration Stage.Accepted p) ∷ to_kernel MessageKind.PullState id.from.home ∷ [])
  pub lacks : (slots blocks : ℕ) → P (Says (Line.Lacks p slots blocks) ∷ to_kernel MessageKind.Refuse id.from.home ∷ [])
  pub stays : TurnsBack k → o.kernel.notes p ≡ None → P (Says (Line.Stays p) ∷ [])
  pub stays_asked : TurnsBack k → (n : MoveNote) → o.kernel.notes p ≡ Some n → P (Says (Line.Stays p) ∷ answers_move n.id Outcome.Stayed)
  pub state : P (gives_piece id MessageKind.State)
  pub next_chunk : P (Says (Line.Proto id) ∷ to_kernel MessageKind.PullState id.from.home ∷ [])
  pub last_chunk : P (Says (Line.Migration Stage.StateTaken p) ∷ to_kernel MessageKind.PullBlock id.from.home ∷ [])
  -- a server has come with its last chunk
  pub server_chunk : is_server p ≡ true → P (Says (Line.Migration Stage.StateTaken p) ∷ Says (Line.Migration Stage.MemoryTaken p) ∷ to_kernel MessageKind.AllTaken id.from.home ∷ [])
  pub memory : P (gives_piece id MessageKind.Memory)
  pub next_block : P (Says (Line.Proto id) ∷ to_kernel MessageKind.PullBlock id.from.home ∷ [])
  pub last_block : P (Says (Line.Migration Stage.MemoryTaken p) ∷ to_kernel MessageKind.AllTaken id.from.home ∷ [])
  pub left : (ids : List MsgId) (to : ℕ) → Leaves o m k p ids to → P (left_parts id p ids to)
  pub restarted : k ≡ MessageKind.Restart → o.kernel.notes p ≡ None → P (Says (Line.Migration Stage.Restarted p) ∷ [])
  pub restarted_asked : k ≡ MessageKind.Restart → (n : MoveNote) → o.kernel.notes p ≡ Some n → P (Says (Line.Migration Stage.Restarted p) ∷ answers_move n.id Outcome.Done)

-- what a machine knows of a receiver, which is no kernel
pub record At (o : Point) (m : ℕ) (t : Told) (k : Known) : Type 0 where
  pub known : o.view.known m t.receiver ≡ k
  pub kernel : (t.receiver.num == 0) ≡ false

-- it is here
abbrev pub AtHere : Point → ℕ → Told → Type 0
AtHere o m t = At o m t Here

-- and all that a kernel's own message may say, at each receiver
pub record Heard (P : List Part → Type 0) (o : Point) (m : ℕ) (id : MsgId) (t : Told) : Type 0 where
  pub told : (p : Pid) (x : Size) → t.about ≡ Of p → size_of o.kernel p ≡ Some x → is_stale o m id t.kind p ≡ false → Tells P o m id t.kind p
  pub stale : (p : Pid) → t.about ≡ Of p → is_stale o m id t.kind p ≡ true → P (Says (Line.Stale id) ∷ [])
  pub buried : (p : Pid) → t.about ≡ Of p → t.kind ≡ MessageKind.Bury → P (buried o m id p)
  pub updated : t.kind ≡ MessageKind.Update → P (updates o id t)
  pub updated_none : t.kind ≡ MessageKind.Update → At o m t Unknown → P (Says (Line.Updated id 0) ∷ [])
  pub no_move : At o m t Unknown → P (Says (Line.NoMove id) ∷ [])
  pub leaving : (to : ℕ) → At o m t (Frozen to) → P (Says (Line.Held id) ∷ [])
  pub coming : (from : ℕ) → At o m t (Incoming from) → P (Says (Line.Held id) ∷ [])
  pub forwarded : (to moves : ℕ) → At o m t (Forward to moves) → P (forwards_on o.addresses id t.kind manager to)
  pub stays_here : AtHere o m t → P (Says (Line.Here id) ∷ [])
  pub frozen : (to : ℕ) → AtHere o m t → P (leaves_for t.receiver to)

pub given : (P : List Part → Type 0) (qs ps : List Part) → P qs → Some qs ≡ Some ps → P ps
given P qs ps h e = let k : qs ≡ ps = cc in subst P k h

-- whoever asked for a move is told how it ended, if somebody asked
by_asker : (P : List Part → Type 0) (l : Line) (r : Outcome) (q : Option MoveNote) → (q ≡ None → P (Says l ∷ [])) → ((n : MoveNote) → q ≡ Some n → P (Says l ∷ answers_move n.id r)) → P (Says l ∷ tells_asker q r)
by_asker P l r None alone asked = alone refl
by_asker P l r (Some n) alone asked = asked n refl

by_leaves : (P : List Part → Type 0) (o : Point) (m : ℕ) (id : MsgId) (p : Pid) (ids : List MsgId) (k : Known) (ps : List Part) → ids ≡ o.view.queue m p ++ o.view.held m p → ((to : ℕ) → Leaves o m MessageKind.AllTaken p ids to → P (left_parts id p ids to)) → o.view.known m p ≡ k → leaves id p ids k ≡ Some ps → P ps
by_leaves P o m id p ids (Frozen to) ps lists h is e = given P (left_parts id p ids to) ps (h to (record { kind = refl; known = is; lists = lists })) e
by_leaves P o m id p ids _ ps lists h is e = none_some ps e

-- the last chunk, of a server or of a process
by_last : (P : List Part → Type 0) (o : Point) (m : ℕ) (id : MsgId) (k : MessageKind) (p : Pid) → Tells P o m id k p → P (takes_last_chunk id p)
by_last P o m id k p h = (elim (is_server p) as (λ c. is_server p ≡ c → P (if c then Says (Line.Migration Stage.StateTaken p) ∷ Says (Line.Migration Stage.MemoryTaken p) ∷ to_kernel MessageKind.AllTaken id.from.home ∷ [] else Says (Line.Migration Stage.StateTaken p) ∷ to_kernel MessageKind.PullBlock id.from.home ∷ []))
    [ true ↦ λ e. h.server_chunk e | false ↦ λ e. h.last_chunk ]) refl

by_told : (P : List Part → Type 0) (o : Point) (m : ℕ) (id : MsgId) (p : Pid) (room : Bool × ℕ × ℕ) (x : Size) (k : MessageKind) (ps : List Part) → Tells P o m id k p → told_step o m id p room x (sort_of k) ≡ Some ps → P ps
by_told P o m id p room x k ps h1 h2 = search (arith, given, by_test, by_asker, by_leaves, by_last)

by_due : (P : List Part → Type 0) (b : Boot) (o : Point) (m : ℕ) (id : MsgId) (k : MessageKind) (p : Pid) (stale : Bool) (ps : List Part) → (stale ≡ true → P (Says (Line.Stale id) ∷ []))
    → ((x : Size) → size_of o.kernel p ≡ Some x → stale ≡ false → Tells P o m id k p)
    → (if stale then Some (Says (Line.Stale id) ∷ []) else bind (size_of o.kernel p) (λ x. told_step o m id p (rule.fits (rule.free_room b o m) x.blocks) x (sort_of k))) ≡ Some ps → P ps
by_due P b o m id k p true ps late due e = given P (Says (Line.Stale id) ∷ []) ps (late refl) e
by_due P b o m id k p false ps late due e =
    let (x, alive, steps) = bind-is (size_of o.kernel p) (λ (x : Size). told_step o m id p (rule.fits (rule.free_room b o m) x.blocks) x (sort_of k)) ps e in
    by_told P o m id p (rule.fits (rule.free_room b o m) x.blocks) x k ps (due x alive refl) steps

-- of these only a burial tells of an end
pub bury_is : (k : MessageKind) → tells_end (sort_of k) ≡ true → k ≡ MessageKind.Bury
bury_is MessageKind.Bury e = refl
bury_is _ e = cc

by_over : (P : List Part → Type 0) (b : Boot) (o : Point) (m : ℕ) (id : MsgId) (k : MessageKind) (p : Pid) (over : Bool) (ps : List Part) → (over ≡ true → P (buried o m id p)) → (is_stale o m id k p ≡ true → P (Says (Line.Stale id) ∷ []))
    → ((x : Size) → size_of o.kernel p ≡ Some x → is_stale o m id k p ≡ false → Tells P o m id k p)
    → (if over then Some (buried o m id p)
    else if is_stale o m id k p then Some (Says (Line.Stale id) ∷ [])
    else bind (size_of o.kernel p) (λ x. told_step o m id p (rule.fits (rule.free_room b o m) x.blocks) x (sort_of k))) ≡ Some ps
    → P ps
by_over P b o m id k p true ps ends late due e = given P (buried o m id p) ps (ends refl) e
by_over P b o m id k p false ps ends late due e = by_due P b o m id k p (is_stale o m id k p) ps late due e

pub by_kernel : (P : List Part → Type 0) (b : Boot) (o : Point) (m : ℕ) (id : MsgId) (k : MessageKind) (a : About) (ps : List Part) → ((p : Pid) → a ≡ Of p → k ≡ MessageKind.Bury → P (buried o m id p)) → ((p : Pid) → a ≡ Of p → is_stale o m id k p ≡ true → P (Says (Line.Stale id) ∷ []))
    → ((p : Pid) (x : Size) → a ≡ Of p → size_of o.kernel p ≡ Some x → is_stale o m id k p ≡ false → Tells P o m id k p) → kernel_hears b o m id k a ≡ Some ps → P ps
by_kernel P b o m id k (Of p) ps ends late due e = by_over P b o m id k p (tells_end (sort_of k)) ps (λ over. ends p refl (bury_is k over)) (late p refl) (λ x alive is. due p x refl alive is) e
by_kernel P b o m id k _ ps ends late due e = none_some ps e

by_here : (P : List Part → Type 0) (o : Point) (m : ℕ) (id : MsgId) (t : Told) (k : MessageKind) (ps : List Part) → t.kind ≡ k → Heard P o m id t → AtHere o m t → told_here o m id t (sort_of k) ≡ Some ps → P ps
by_here P o m id t k ps h1 h2 h3 h4 = search (arith, given, by_test)

by_ended : (P : List Part → Type 0) (o : Point) (m : ℕ) (id : MsgId) (t : Told) (k : MessageKind) (ps : List Part) → t.kind ≡ k → Heard P o m id t → At o m t Unknown → told_ended id (sort_of k) ≡ Some ps → P ps
by_ended P o m id t k ps h1 h2 h3 h4 = search (arith, given)

by_process : (P : List Part → Type 0) (o : Point) (m : ℕ) (id : MsgId) (t : Told) (k : Known) (ps : List Part) → Heard P o m id t → At o m t k → process_told o m id t k ≡ Some ps → P ps
by_process P o m id t Here ps h at_ e = by_here P o m id t t.kind ps refl h at_ e
by_process P o m id t (Frozen to) ps h at_ e = given P (Says (Line.Held id) ∷ []) ps (h.leaving to at_) e
by_process P o m id t (Incoming from) ps h at_ e = given P (Says (Line.Held id) ∷ []) ps (h.coming from at_) e
by_process P o m id t (Forward to moves) ps h at_ e = given P (forwards_on o.addresses id t.kind manager to) ps (h.forwarded to moves at_) e
by_process P o m id t Unknown ps h at_ e = by_ended P o m id t t.kind ps refl h at_ e

by_receiver : (P : List Part → Type 0) (b : Boot) (o : Point) (m : ℕ) (id : MsgId) (t : Told) (c : Bool) (ps : List Part) → (t.receiver.num == 0) ≡ c → Heard P o m id t
    → (if c then kernel_hears b o m id t.kind t.about else process_told o m id t (o.view.known m t.receiver)) ≡ Some ps → P ps
by_receiver P b o m id t true ps kernel_ h e = by_kernel P b o m id t.kind t.about ps h.buried h.stale h.told e
by_receiver P b o m id t false ps kernel_ h e = by_process P o m id t (o.view.known m t.receiver) ps h (record { known = refl; kernel = kernel_ }) e

pub by_hears : (P : List Part → Type 0) (b : Boot) (o : Point) (m : ℕ) (id : MsgId) (q : Option Told) (ps : List Part) → ((t : Told) → q ≡ Some t → Heard P o m id t) → hears b o m id q ≡ Some ps → P ps
by_hears P b o m id None ps h e = none_some ps e
by_hears P b o m id (Some t) ps h e = by_receiver P b o m id t (t.receiver.num == 0) ps refl (h t refl) e

-- the lines that a kernel's own message brings about, or calling off
abbrev pub IsHeardLine : Line → Type 0
IsHeardLine (Line.Migration step p) = ⊤
IsHeardLine (Line.SentOn p n) = ⊤
IsHeardLine (Line.Called p n) = ⊤
IsHeardLine (Line.NoCall p) = ⊤
IsHeardLine (Line.Lacks p slots blocks) = ⊤
IsHeardLine (Line.Stays p) = ⊤
IsHeardLine (Line.Proto i) = ⊤
IsHeardLine (Line.Updated i n) = ⊤
IsHeardLine (Line.Buried i n) = ⊤
IsHeardLine (Line.NoMove i) = ⊤
IsHeardLine (Line.Stale i) = ⊤
IsHeardLine (Line.Held i) = ⊤
IsHeardLine (Line.Forwarded i to) = ⊤
IsHeardLine (Line.Here i) = ⊤
IsHeardLine _ = ⊥

-- what each such line keeps, each message that goes on, and each that a kernel sends; and that a request is answered
pub record Kept (P : List Part → Type 0) : Type 0 where
  pub none : P []
  pub says : (l : Line) (ps : List Part) → IsHeardLine l → P ps → P (Says l ∷ ps)
  pub again : (i : MsgId) (to : ℕ) (ps : List Part) → P ps → P (Again i to ∷ ps)
  pub owns : (k : MessageKind) (q : Pid) (to : ℕ) (ps : List Part) → P ps → P (Owns k q to ∷ ps)
  pub answers : (i : MsgId) (r : Outcome) → P (answers_move i r)

kept_on : (P : List Part → Type 0) → Kept P → (to : ℕ) (ids : List MsgId) (ps : List Part) → P ps → P (sends_on to ids ++ ps)
kept_on P c to [] ps h = h
kept_on P c to (i ∷ is) ps h = c.again i to (sends_on to is ++ ps) (kept_on P c to is ps h)

-- a message goes on, and its sender may be told
pub kept_forward : (P : List Part → Type 0) → Kept P → (a : Addresses) (id : MsgId) (k : MessageKind) (sender : Pid) (to : ℕ) → P (forwards_on a id k sender to)
kept_forward P c a id k sender to = search (arith, by_test)

-- others are told of an end
kept_buries : (P : List Part → Type 0) → Kept P → (ms : List ℕ) → P (map (to_kernel MessageKind.Bury) ms)
kept_buries P c [] = c.none
kept_buries P c (m ∷ ms) = c.owns MessageKind.Bury (pid_of m 0) m (map (to_kernel MessageKind.Bury) ms) (kept_buries P c ms)

-- holds of all that comes of a kernel's own message
heard_kept : (P : List Part → Type 0) → Kept P → (o : Point) (m : ℕ) (id : MsgId) (t : Told) → Heard P o m id t
heard_kept P c o m id t =
    let one : (l : Line) → IsHeardLine l → P (Says l ∷ []) = λ l h. c.says l [] h c.none in
    let two : (l : Line) (k : MessageKind) (b : ℕ) → IsHeardLine l → P (Says l ∷ to_kernel k b ∷ []) = λ l k b h. c.says l (to_kernel k b ∷ []) h (c.owns k (pid_of b 0) b [] c.none) in
    let home = id.from.home in
    record {
      buried = λ p about kind. c.says (Line.Buried id (length (preds_of o m p))) (buries o m p) tt (kept_buries P c (preds_of o m p));
      stale = λ p about late. one (Line.Stale id) tt;
      told = λ p x about alive due. record {
        accepted = λ ask. two (Line.Migration Stage.Accepted p) MessageKind.PullState home tt;
        lacks = λ slots blocks. two (Line.Lacks p slots blocks) MessageKind.Refuse home tt;
        stays = λ kind none. one (Line.Stays p) tt;
        stays_asked = λ kind n is. c.says (Line.Stays p) (answers_move n.id Outcome.Stayed) tt (c.answers n.id Outcome.Stayed);
        state = two (Line.Proto id) MessageKind.State home tt;
        next_chunk = two (Line.Proto id) MessageKind.PullState home tt;
        last_chunk = two (Line.Migration Stage.StateTaken p) MessageKind.PullBlock home tt;
        server_chunk = λ server. c.says (Line.Migration Stage.StateTaken p) (Says (Line.Migration Stage.MemoryTaken p) ∷ to_kernel MessageKind.AllTaken home ∷ []) tt (two (Line.Migration Stage.MemoryTaken p) MessageKind.AllTaken home tt);
        memory = two (Line.Proto id) MessageKind.Memory home tt;
        next_block = two (Line.Proto id) MessageKind.PullBlock home tt;
        last_block = two (Line.Migration Stage.MemoryTaken p) MessageKind.AllTaken home tt;
        left = λ ids to frozen.
            (let end = Says (Line.Migration Stage.Left p) ∷ to_kernel MessageKind.Restart home ∷ [] in
            c.says (Line.SentOn p (length ids)) (sends_on to ids ++ end) tt (kept_on P c to ids end (two (Line.Migration Stage.Left p) MessageKind.Restart home tt)));
        restarted = λ kind none. one (Line.Migration Stage.Restarted p) tt;
        restarted_asked = λ kind n is. c.says (Line.Migration Stage.Restarted p) (answers_move n.id Outcome.Done) tt (c.answers n.id Outcome.Done);
      };
      updated = λ kind. one (Line.Updated id (behind_count o.kernel o.addresses t.receiver (place_told t.about))) tt;
      updated_none = λ kind at_. one (Line.Updated id 0) tt;
      no_move = λ at_. one (Line.NoMove id) tt;
      leaving = λ to at_. one (Line.Held id) tt;
      coming = λ from at_. one (Line.Held id) tt;
      forwarded = λ to moves at_. kept_forward P c o.addresses id t.kind manager to;
      stays_here = λ at_. one (Line.Here id) tt;
      frozen = λ to at_.
          c.says (Line.Migration Stage.Frozen t.receiver) (Says (Line.Migration Stage.Asked t.receiver) ∷ to_kernel MessageKind.Ask to ∷ []) tt (two (Line.Migration Stage.Asked t.receiver) MessageKind.Ask to tt);
    }

pub hears_kept : (P : List Part → Type 0) → Kept P → (b : Boot) (o : Point) (m : ℕ) (id : MsgId) (q : Option Told) (ps : List Part) → hears b o m id q ≡ Some ps → P ps
hears_kept P c b o m id q ps = by_hears P b o m id q ps (λ t is. heard_kept P c o m id t)

-- and of all that comes of calling a migration off
pub calls_off_kept : (P : List Part → Type 0) → Kept P → (pt : Point) (m : ℕ) (p : Pid) → P (calls_off pt m p (pt.view.known m p))
calls_off_kept P c pt m p =
    by_calls_off P pt m p (c.says (Line.NoCall p) [] tt c.none) (λ from is come.
    (let ids = pt.view.held m p in
    let end = to_kernel MessageKind.CallOff from ∷ [] in
    c.says (Line.Called p (length ids)) (sends_on from ids ++ end) tt (kept_on P c from ids end (c.owns MessageKind.CallOff (pid_of from 0) from [] c.none))))
