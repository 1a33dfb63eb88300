-- What kernels do with messages keeps addresses where they may be.
use Rattle.dm_law_rule.proofs.Names.{◌≡◌, ℕ, zero, suc, ◌+◌, ◌==◌, ◌&&◌, Bool, true, false, List, [], ◌∷◌, ◌++◌, refl, ap, ◌∙◌, sym, subst, arith, nat_le, length, ⊤, if◌then◌else◌, map, slice_get, Option, None, Some, nat_tests, Pid, Place}
use Rattle.dm_law_rule.proofs.Names.{pid_eq, PlainLink, link_at, MsgId, id_eq, Label, Why, PlainMessage, PlainWhat, Reply, bind, PlainProcess, PlainStatus, Moving, Alive, OneKernel, with_process, with_sent, without_message, pid_eq-same}
use Rattle.dm_law_rule.proofs.Names.{id_eq-same, bind-is, when-is, View, Addresses, Gets, gets, given, gives, Slot, Owner, Receiver, Sender, Enclosed, unmoved, acting_place, replicate, ◌-◌, take, drop, Direction, BootImage, first_number}
use Rattle.dm_law_rule.proofs.Names.{answer_id, answer_to, begun, pid_of, answer_gets, serving_gets, landing_gets, child_links, links_in, at_hand-is, AskedBy, MoveNote, Outcome, with_note, without_note, ends_move-is, option_map_or, cond_some}
use Rattle.dm_law_rule.proofs.Names.{Ended, none_some}
use Rattle.dm_law_rule.proofs.Homes.{place_as, pid_as, acts_at, HomeProcess, AtHome}
use Rattle.dm_law_rule.proofs.Homes.Rows.{SameProcess, SameMessage, SameServers, sent_home, at_home_process, at_home_out, home_goes, alive_on, message_same, process_same}
use Rattle.dm_law_rule.proofs.Homes.Steps.{OnlySlots, only_none, at_home_ended}
use Rattle.dm_law_rule.proofs.Requests.{by_test}
use Rattle.dm_onekernel.specs.Step as kernel
use Rattle.dm_law_rule.specs.Addresses as addresses
use Rattle.dm_onekernel.specs.Pieces as pieces
use Rattle.dm_onekernel.specs.Service as service
pub use Rattle.dm_law_one.proofs.Facts.{if_some-is as some_is}

-- the receiver and the sender of a new message get places
abbrev pub two : MsgId → Place → Place → List Gets
two i to from = gets (Receiver i) to ∷ gets (Sender i) from ∷ []

pub two_process : (a : Addresses) (i : MsgId) (to from : Place) (q : Pid) → SameProcess a (given a (two i to from)) q
two_process a i to from q = record { slot = λ k. refl; owner = refl }

pub two_servers : (a : Addresses) (i : MsgId) (to from : Place) → SameServers a (given a (two i to from))
two_servers a i to from = record { child = λ n. refl; name = λ n. refl; answer = λ n. refl; asked = λ q. refl; board = refl }

pub two_off : (a : Addresses) (i : MsgId) (to from : Place) (j : MsgId) → id_eq i j ≡ false → SameMessage a (given a (two i to from)) j
two_off a i to from j e = search arith

-- a message without links comes, and a process goes on or not
pub two_sends : (P : Pid → Place → Type 0) (s : OneKernel) (a : Addresses) (m : PlainMessage) (to from : Place) → AtHome P s a → links_in m.what ≡ [] → P m.to to → P m.sender from → AtHome P (with_sent s (Some m)) (given a (two m.id to from))
two_sends P s a m to from h none e f = record {
  processes = λ q x alive. process_same P a (given a (two m.id to from)) q x (two_process a m.id to from q) (h.processes q x alive);
  messages = sent_home P s a (given a (two m.id to from)) m h.messages (two_off a m.id to from) ((search (arith, place_as, id_eq-same)));
  children = h.children;
  named = h.named;
  answers = h.answers;
  askers = h.askers;
  board = h.board;
  rooted = h.rooted;
  pending = h.pending;
}

-- an answer goes back, where the message's name is its own
answer_sent : (P : Pid → Place → Type 0) (s u : OneKernel) (a : Addresses) (id : MsgId) (m : PlainMessage) (w : PlainWhat) (from : Place) → m.id ≡ id → s.bag id ≡ Some m → AtHome P s a → AtHome P u a → links_in w ≡ [] → P m.to from
    → AtHome P (with_sent u (Some (answer_to m w))) (given a (answer_gets a id from))
answer_sent P s u a id m w from name there h k none is =
    subst (λ (i : MsgId). AtHome P (with_sent u (Some (answer_to m w))) (given a (two (answer_id i) (a (Sender id)) from))) name
    (two_sends P u a (answer_to m w) (a (Sender id)) from k none (h.messages id m there).sender is)

-- dropped
pub dropped_home : (P : Pid → Place → Type 0) (s t : OneKernel) (a : Addresses) (id : MsgId) → kernel.step s (Label.Dropped id) ≡ Some t → AtHome P s a → AtHome P t a
dropped_home P s t a id is h =
    let (m, there, rest) = bind-is (s.bag id) (λ (w : PlainMessage). bind (kernel.why_ended (s.processes w.to)) (kernel.drops s id w)) t is in
    let (y, gone, last) = bind-is (kernel.why_ended (s.processes m.to)) (kernel.drops s id m) t rest in
    subst (λ (u : OneKernel). AtHome P u a) (when-is (service.is_dropped m.what) (without_message s id) t last).1 (at_home_out P s a id h)

-- the names of messages are their own
abbrev pub Named : OneKernel → Type 0
Named s = (i : MsgId) (m : PlainMessage) → s.bag i ≡ Some m → m.id ≡ i

-- where a message of the bag is for
abbrev pub ReceivedAt : OneKernel → ℕ → MsgId → Type 0
ReceivedAt s acting id = (m : PlainMessage) → s.bag id ≡ Some m → m.to.home ≡ acting

-- where the acting machine serves its receiver, or knows that it has ended
abbrev pub ServedAt : (Pid → Place → Type 0) → OneKernel → View → MsgId → Type 0
ServedAt P s v id = (m : PlainMessage) → s.bag id ≡ Some m → P m.to (acting_place v m.to)

abbrev pub EndedAt : (Pid → Place → Type 0) → OneKernel → View → Addresses → MsgId → Type 0
EndedAt P s v a id = (m : PlainMessage) → s.bag id ≡ Some m → P m.to (record { at = v.acting; moves = (a (Receiver id)).moves })

-- gone
pub gone_home : (P : Pid → Place → Type 0) (s t : OneKernel) (v : View) (a : Addresses) (id : MsgId) → kernel.step s (Label.Gone id) ≡ Some t → Named s → EndedAt P s v a id → AtHome P s a → AtHome P t (given a (gives s v a (Label.Gone id)))
gone_home P s t v a id is named at h =
    let (m, there, rest) = bind-is (s.bag id) (λ (w : PlainMessage). bind (kernel.why_ended (s.processes w.to)) (kernel.says_gone s id w)) t is in
    let (y, gone, end) = bind-is (kernel.why_ended (s.processes m.to)) (kernel.says_gone s id m) t rest in
    let (w, what, last) = bind-is (service.gone_what m.what) (λ (v : PlainWhat). Some (with_sent (without_message s id) (Some (answer_to m v)))) t end in
    let from : Place = record { at = v.acting; moves = (a (Receiver id)).moves } in
    subst (λ (u : OneKernel). AtHome P u (given a (answer_gets a id from))) (let k : with_sent (without_message s id) (Some (answer_to m w)) ≡ t = cc in k)
    (answer_sent P s (without_message s id) a id m w from (named id m there) there h (at_home_out P s a id h) (let e_ : links_in w ≡ [] = search arith in e_) (at m there))

-- no room
no_room_row : (P : Pid → Place → Type 0) (s t : OneKernel) (v : View) (a : Addresses) (id : MsgId) (m : PlainMessage) (w : PlainWhat) → service.has_no_room s id m w ≡ Some t → s.bag id ≡ Some m → Named s → ReceivedAt s v.acting id → AtHome P s a
    → AtHome P t (given a (answer_gets a id (unmoved v.acting)))
no_room_row P s t v a id m (PlainWhat.Create image links) is there named at h =
    subst (λ (u : OneKernel). AtHome P u (given a (answer_gets a id (unmoved v.acting)))) (when-is (service.is_kernel s m.to) (with_sent (without_message s id) (Some (answer_to m PlainWhat.NoRoom))) t is).1
    (answer_sent P s (without_message s id) a id m PlainWhat.NoRoom (unmoved v.acting) (named id m there) there h (at_home_out P s a id h) refl (acts_at P m.to v.acting (h.rooted m.to) (sym (at m there))))
no_room_row P s t v a id m _ is there named at h = cc

pub no_space_home : (P : Pid → Place → Type 0) (s t : OneKernel) (v : View) (a : Addresses) (id : MsgId) (f b : ℕ) → kernel.step s (Label.NoSpace id f b) ≡ Some t → Named s → ReceivedAt s v.acting id → AtHome P s a → AtHome P t (given a (gives s v a (Label.NoSpace id f b)))
no_space_home P s t v a id f b is named at h =
    let (m, there, rest) = bind-is (s.bag id) (λ (w : PlainMessage). service.has_no_room s id w w.what) t is in
    no_room_row P s t v a id m m.what rest there named at h

-- served: the answer to a piece
abbrev LandedHome : (Pid → Place → Type 0) → Addresses → Pid → pieces.Landed → Type 0
LandedHome P a p (pieces.Done reply y) = HomeProcess P a p y
LandedHome P a p (pieces.Next m y) = HomeProcess P a p y × (P m.to (a (Owner p))) × (m.sender ≡ p) × (links_in m.what ≡ [])

done_home : (P : Pid → Place → Type 0) (a : Addresses) (p : Pid) (x : PlainProcess) (c : Reply) → HomeProcess P a p x → LandedHome P a p (pieces.done c x)
done_home P a p x c h = record { slots = h.slots; owner = λ q e. absurd (let f : None ≡ Some q = e in cc) }

next_home : (P : Pid → Place → Type 0) (a : Addresses) (p : Pid) (x : PlainProcess) (dir : Direction) (owner : Pid) (base own left : ℕ) → HomeProcess P a p x → P owner (a (Owner p)) → LandedHome P a p (pieces.next_request (pieces.requests p x dir owner base own left))
next_home P a p x Direction.FromArea owner base own left h at = (record { slots = h.slots; owner = λ q e. let f : owner ≡ q = cc in pid_as P f at }, at, refl, refl)
next_home P a p x Direction.IntoArea owner base own left h at = (record { slots = h.slots; owner = λ q e. let f : owner ≡ q = cc in pid_as P f at }, at, refl, refl)

goes_on_home : (P : Pid → Place → Type 0) (a : Addresses) (p : Pid) (x : PlainProcess) (dir : Direction) (owner : Pid) (base own left piece : ℕ) → HomeProcess P a p x → P owner (a (Owner p)) → LandedHome P a p (pieces.move_goes_on p x dir owner base own left piece)
goes_on_home P a p x dir owner base own left piece h at =
    by_test (LandedHome P a p) (left - piece == 0) (pieces.done Reply.Done x) (pieces.next_request (pieces.requests p x dir owner (base + piece) (own + piece) (left - piece)))
    (done_home P a p x Reply.Done h) (next_home P a p x dir owner (base + piece) (own + piece) (left - piece) h at)

some_landed : (P : Pid → Place → Type 0) (a : Addresses) (p : Pid) (b : Bool) (c d : pieces.Landed) → LandedHome P a p c → (if b then Some c else None) ≡ Some d → LandedHome P a p d
some_landed P a p true c d h e = let f : c ≡ d = cc in subst (LandedHome P a p) f h
some_landed P a p false c d h e = none_some d e

if_lands_home : (P : Pid → Place → Type 0) (a : Addresses) (p : Pid) (x : PlainProcess) (b : Bool) (dir : Direction) (owner : Pid) (base own left : ℕ) (w : PlainWhat) (d : pieces.Landed) → HomeProcess P a p x → P owner (a (Owner p))
    → (if b then pieces.lands_what p x dir owner base own left w else None) ≡ Some d → LandedHome P a p d
if_lands_home P a p x true dir owner base own left w d h at e = search (arith, some_landed, goes_on_home, done_home)
if_lands_home P a p x false dir owner base own left w d h at e = none_some d e

lands_home : (P : Pid → Place → Type 0) (a : Addresses) (p : Pid) (x : PlainProcess) (m : PlainMessage) (st : PlainStatus) (d : pieces.Landed) → x.status ≡ st → HomeProcess P a p x → pieces.lands p x m st ≡ Some d → LandedHome P a p d
lands_home P a p x m st d h1 h2 h3 = search (arith, if_lands_home)

landed_home : (P : Pid → Place → Type 0) (s : OneKernel) (v : View) (a : Addresses) (id : MsgId) (m : PlainMessage) (c : pieces.Landed) → LandedHome P a m.to c → P m.to (acting_place v m.to) → AtHome P s a
    → AtHome P (service.landed s id m c) (given a (landing_gets v a m.to (Some c)))
landed_home P s v a id m (pieces.Done reply y) w at h = home_goes P (without_message s id) a m.to y (at_home_out P s a id h) w
landed_home P s v a id m (pieces.Next n y) w at h =
    two_sends P (service.changed s id m y) a n (a (Owner m.to)) (acting_place v m.to) (home_goes P (without_message s id) a m.to y (at_home_out P s a id h) w.0) w.3 w.1 (pid_as P (sym w.2) at)

lands_row : (P : Pid → Place → Type 0) (s t : OneKernel) (v : View) (a : Addresses) (id : MsgId) (m : PlainMessage) (x : PlainProcess) → HomeProcess P a m.to x → P m.to (acting_place v m.to) → AtHome P s a
    → bind (pieces.lands m.to x m x.status) (λ (c : pieces.Landed). Some (service.landed s id m c)) ≡ Some t → AtHome P t (given a (landing_gets v a m.to (pieces.lands m.to x m x.status)))
lands_row P s t v a id m x hx at h e =
    let (c, is, last) = bind-is (pieces.lands m.to x m x.status) (λ (w : pieces.Landed). Some (service.landed s id m w)) t e in
    subst (λ (u : OneKernel). AtHome P u (given a (landing_gets v a m.to (pieces.lands m.to x m x.status)))) (let k : service.landed s id m c ≡ t = cc in k)
    (subst (λ (o : Option pieces.Landed). AtHome P (service.landed s id m c) (given a (landing_gets v a m.to o))) (sym is) (landed_home P s v a id m c (lands_home P a m.to x m x.status c refl hx is) at h))

-- where the owner has ended, the move ends, and nothing is sent
abbrev NothingNext : pieces.Landed → Type 0
NothingNext (pieces.Done reply y) = ⊤
NothingNext (pieces.Next n y) = ⊥

gone_what : (p : Pid) (x : PlainProcess) (dir : Direction) (owner : Pid) (base own left : ℕ) (d : pieces.Landed) → pieces.lands_what p x dir owner base own left PlainWhat.Gone ≡ Some d → NothingNext d
gone_what p x Direction.FromArea owner base own left d e = let f : pieces.done Reply.Gone x ≡ d = cc in subst NothingNext f tt
gone_what p x Direction.IntoArea owner base own left d e = let f : pieces.done Reply.Gone x ≡ d = cc in subst NothingNext f tt

gone_if : (p : Pid) (x : PlainProcess) (b : Bool) (dir : Direction) (owner : Pid) (base own left : ℕ) (w : PlainWhat) (d : pieces.Landed) → w ≡ PlainWhat.Gone → (if b then pieces.lands_what p x dir owner base own left w else None) ≡ Some d → NothingNext d
gone_if p x true dir owner base own left w d is e = gone_what p x dir owner base own left d (ap (pieces.lands_what p x dir owner base own left) (sym is) ∙ e)
gone_if p x false dir owner base own left w d is e = none_some d e

pub gone_lands : (p : Pid) (x : PlainProcess) (m : PlainMessage) (st : PlainStatus) (d : pieces.Landed) → m.what ≡ PlainWhat.Gone → pieces.lands p x m st ≡ Some d → NothingNext d
gone_lands p x m (Moving dir owner base own left pending) d is e = gone_if p x (m.id.n == pending) dir owner base own left m.what d is e
gone_lands p x m _ d is e = none_some d e

pub nothing_lands : (v : View) (a : Addresses) (p : Pid) (c : pieces.Landed) → NothingNext c → landing_gets v a p (Some c) ≡ []
nothing_lands v a p (pieces.Done reply y) h = refl
nothing_lands v a p (pieces.Next n y) h = absurd h

gone_row : (P : Pid → Place → Type 0) (s t : OneKernel) (v : View) (a : Addresses) (id : MsgId) (m : PlainMessage) (x : PlainProcess) → m.what ≡ PlainWhat.Gone → HomeProcess P a m.to x → P m.to (acting_place v m.to) → AtHome P s a
    → bind (pieces.lands m.to x m x.status) (λ (c : pieces.Landed). Some (service.landed s id m c)) ≡ Some t → AtHome P t a
gone_row P s t v a id m x what_is hx at h e =
    let (c, is, last) = bind-is (pieces.lands m.to x m x.status) (λ (w : pieces.Landed). Some (service.landed s id m w)) t e in
    subst (λ (u : OneKernel). AtHome P u a) (let k : service.landed s id m c ≡ t = cc in k)
    (subst (λ (gs : List Gets). AtHome P (service.landed s id m c) (given a gs)) (nothing_lands v a m.to c (gone_lands m.to x m x.status c what_is is)) (landed_home P s v a id m c (lands_home P a m.to x m x.status c refl hx is) at h))

-- a row a kind
serve_row : (P : Pid → Place → Type 0) (s t : OneKernel) (v : View) (a : Addresses) (id : MsgId) (m : PlainMessage) (x : PlainProcess) (w : PlainWhat) → m.what ≡ w → service.serves s id m x w ≡ Some t → s.bag id ≡ Some m → m.id ≡ id → HomeProcess P a m.to x
    → P m.to (acting_place v m.to) → AtHome P s a → AtHome P t (given a (serving_gets v a id m x w))
serve_row P s t v a id m x PlainWhat.Stop w is there name hx at h =
    let k : service.changed s id m (record x { stopped = true }) ≡ t = cc in
    subst (λ (u : OneKernel). AtHome P u a) k (home_goes P (without_message s id) a m.to (record x { stopped = true }) (at_home_out P s a id h) (record { slots = hx.slots; owner = hx.owner }))
serve_row P s t v a id m x PlainWhat.Resume w is there name hx at h =
    let k : service.changed s id m (record x { stopped = false }) ≡ t = cc in
    subst (λ (u : OneKernel). AtHome P u a) k (home_goes P (without_message s id) a m.to (record x { stopped = false }) (at_home_out P s a id h) (record { slots = hx.slots; owner = hx.owner }))
serve_row P s t v a id m x PlainWhat.Kill w is there name hx at h =
    subst (λ (u : OneKernel). AtHome P u a) (let k : with_process (without_message s id) m.to (Ended Why.Killed) ≡ t = cc in k) (at_home_ended P (without_message s id) a m.to Why.Killed (at_home_out P s a id h))
serve_row P s t v a id m x (PlainWhat.Read base len) w is there name hx at h =
    let (c, served, last) = bind-is (pieces.reads x m base len) (λ (r : pieces.Served). Some (service.answered s id m r)) t is in
    let bytes = take len (drop base x.memory) in
    let k = cond_some (nat_le (base + len) (length x.memory)) (record { process = x; answer = answer_to m (PlainWhat.Block bytes) }) c served in
    subst (λ (u : OneKernel). AtHome P u (given a (answer_gets a id (acting_place v m.to)))) (ap (service.answered s id m) k.1 ∙ (let f : service.answered s id m c ≡ t = cc in f))
    (answer_sent P s (service.changed s id m x) a id m (PlainWhat.Block bytes) (acting_place v m.to) name there h (home_goes P (without_message s id) a m.to x (at_home_out P s a id h) hx) refl at)
serve_row P s t v a id m x (PlainWhat.Write base bytes) w is there name hx at h =
    let (c, served, last) = bind-is (pieces.writes x m base bytes) (λ (r : pieces.Served). Some (service.answered s id m r)) t is in
    let y = record x { memory = pieces.written_at x.memory base bytes } in
    let k = cond_some (nat_le (base + length bytes) (length x.memory)) (record { process = y; answer = answer_to m PlainWhat.Written }) c served in
    subst (λ (u : OneKernel). AtHome P u (given a (answer_gets a id (acting_place v m.to)))) (ap (service.answered s id m) k.1 ∙ (let f : service.answered s id m c ≡ t = cc in f))
    (answer_sent P s (service.changed s id m y) a id m PlainWhat.Written (acting_place v m.to) name there h (home_goes P (without_message s id) a m.to y (at_home_out P s a id h) (record { slots = hx.slots; owner = hx.owner })) refl at)
serve_row P s t v a id m x (PlainWhat.Block bytes) w is there name hx at h = lands_row P s t v a id m x hx at h is
serve_row P s t v a id m x PlainWhat.Written w is there name hx at h = lands_row P s t v a id m x hx at h is
serve_row P s t v a id m x PlainWhat.Gone w is there name hx at h = gone_row P s t v a id m x w hx at h is
serve_row P s t v a id m x _ w is there name hx at h = cc

pub served_home : (P : Pid → Place → Type 0) (s t : OneKernel) (v : View) (a : Addresses) (id : MsgId) → kernel.step s (Label.Served id) ≡ Some t → Named s → ServedAt P s v id → AtHome P s a → AtHome P t (given a (gives s v a (Label.Served id)))
served_home P s t v a id is named at h =
    let (m, there, rest) = bind-is (s.bag id) (λ (w : PlainMessage). bind (kernel.at_hand s w.to) (λ (p : PlainProcess). service.serves s id w p w.what)) t is in
    let (x, hand, last) = bind-is (kernel.at_hand s m.to) (λ (p : PlainProcess). service.serves s id m p m.what) t rest in
    let alive : kernel.alive (s.processes m.to) ≡ Some x = ap kernel.alive (at_hand-is s m.to x hand).1 in
    let gs_is : serving_gets v a id m x m.what ≡ gives s v a (Label.Served id) =
    ap (λ (o : Option PlainProcess). option_map_or (λ y. serving_gets v a id m y m.what) o []) (sym alive) ∙ ap (addresses.service_gets s v a id) (sym there) in
    subst (λ (gs : List Gets). AtHome P t (given a gs)) gs_is
    (serve_row P s t v a id m x m.what refl last there (named id m there) (h.processes m.to x alive) (at m there) h)

-- created
begun_link : (links : List PlainLink) (n k : ℕ) (l : PlainLink) → link_at (map Some links ++ replicate n None) k ≡ Some l → slice_get links k ≡ Some l
begun_link [] zero k l e = none_some l e
begun_link [] (suc n) zero l e = none_some l e
begun_link [] (suc n) (suc k) l e = begun_link [] n k l e
begun_link (x ∷ xs) n zero l e = e
begun_link (x ∷ xs) n (suc k) l e = begun_link xs n k l e

pub child_at : (a : Addresses) (child : Pid) (id : MsgId) (ls : List PlainLink) (n k j : ℕ) (w : PlainLink) → slice_get ls k ≡ Some w → j ≡ n + k → given a (child_links a child id n ls) (Slot child j) ≡ a (Enclosed id j)
child_at a child id [] n k j w e f = none_some w e
child_at a child id (l ∷ ls) n zero j w e f =
    let same : (pid_eq child child && (n == j)) ≡ true = let g = pid_eq-same child in grind (arith, nat_tests) in
    ap (λ (c : Bool). if c then a (Enclosed id n) else given a (child_links a child id (n + 1) ls) (Slot child j)) same ∙ ap (λ (i : ℕ). a (Enclosed id i)) (let nj : n ≡ j = omega (arith, f) in nj)
child_at a child id (l ∷ ls) n (suc k) j w e f =
    let apart : (pid_eq child child && (n == j)) ≡ false = grind (arith, nat_tests) in
    ap (λ (c : Bool). if c then a (Enclosed id n) else given a (child_links a child id (n + 1) ls) (Slot child j)) apart ∙ child_at a child id ls (n + 1) k j w e (omega (arith, f))

pub only_child : (a : Addresses) (child : Pid) (id : MsgId) (ls : List PlainLink) (n : ℕ) → OnlySlots a (given a (child_links a child id n ls)) child
only_child a child id [] n = only_none a child
only_child a child id (l ∷ ls) n =
    let h = only_child a child id ls (n + 1) in
    record {
      others = λ q e. let w = h.others q e in record { slot = λ k. ap (λ (c : Bool). if c && (n == k) then a (Enclosed id n) else (given a (child_links a child id (n + 1) ls)) (Slot q k)) e ∙ w.slot k; owner = w.owner };
      messages = λ i. let w = h.messages i in record { receiver = w.receiver; sender = w.sender; enclosed = w.enclosed };
      servers = let w = h.servers in record { child = w.child; name = w.name; answer = w.answer; asked = w.asked; board = w.board };
    }

begun_at_home : (P : Pid → Place → Type 0) (s : OneKernel) (a : Addresses) (id : MsgId) (m : PlainMessage) (child : Pid) (image : BootImage) (links : List PlainLink) → AtHome P s a → s.bag id ≡ Some m → links_in m.what ≡ links
    → AtHome P (service.with_created (without_message s id) child image links) (given a (child_links a child id 0 links))
begun_at_home P s a id m child image links h there is =
    let b = given a (child_links a child id 0 links) in
    let y = begun s.format image links in
    let o = only_child a child id links 0 in
    let hm = h.messages id m there in
    let hy : HomeProcess P b child y = (search (arith, begun_link, place_as, child_at)) in
    let u = at_home_process P (without_message s id) a b child (Alive y) (at_home_out P s a id h) o.others (alive_on P b child y hy) o.messages o.servers in
    record { processes = u.processes; messages = u.messages; children = u.children; named = u.named; answers = u.answers; askers = u.askers; board = u.board; rooted = u.rooted; pending = u.pending }

created_row : (P : Pid → Place → Type 0) (s t : OneKernel) (v : View) (a : Addresses) (id : MsgId) (m : PlainMessage) (child : Pid) (links : List PlainLink) (image : BootImage) → service.creates_of s id m child links image ≡ Some t → s.bag id ≡ Some m → links_in m.what ≡ links
    → Named s → ReceivedAt s v.acting id → AtHome P s a → AtHome P t (given a (answer_gets a id (unmoved v.acting) ++ child_links a child id 0 links))
created_row P s t v a id m child links image is there links_are named at h =
    let u = service.with_created (without_message s id) child image links in
    let b = given a (child_links a child id 0 links) in
    let n = answer_to m (PlainWhat.Created child) in
    let k = when-is (service.is_kernel s m.to && pid_eq child (pid_of m.to.home (first_number + s.made m.to.home))) (with_sent u (Some n)) t is in
    let sent : AtHome P (with_sent u (Some n)) (given b (two n.id (a (Sender id)) (unmoved v.acting))) =
    two_sends P u b n (a (Sender id)) (unmoved v.acting) (begun_at_home P s a id m child image links h there links_are) refl (h.messages id m there).sender (acts_at P m.to v.acting (h.rooted m.to) (sym (at m there))) in
    subst (λ (w : OneKernel). AtHome P w (given a (answer_gets a id (unmoved v.acting) ++ child_links a child id 0 links))) k.1
    (subst (λ (i : MsgId). AtHome P (with_sent u (Some n)) (given a (two (answer_id i) (a (Sender id)) (unmoved v.acting) ++ child_links a child id 0 links))) (named id m there) sent)

creates_row : (P : Pid → Place → Type 0) (s t : OneKernel) (v : View) (a : Addresses) (id : MsgId) (m : PlainMessage) (child : Pid) (w : PlainWhat) → m.what ≡ w → service.creates s id m child w ≡ Some t → s.bag id ≡ Some m → Named s → ReceivedAt s v.acting id → AtHome P s a
    → AtHome P t (given a (answer_gets a id (unmoved v.acting) ++ addresses.child_gets a id child w))
creates_row P s t v a id m child (PlainWhat.Create image links) w is there named at h =
    let (i, image_is, last) = bind-is (slice_get s.images image) (service.creates_of s id m child links) t is in
    created_row P s t v a id m child links i last there (ap links_in w) named at h
creates_row P s t v a id m child _ w is there named at h = cc

pub created_home : (P : Pid → Place → Type 0) (s t : OneKernel) (v : View) (a : Addresses) (id : MsgId) (child : Pid) → kernel.step s (Label.Created id child) ≡ Some t → Named s → ReceivedAt s v.acting id → AtHome P s a → AtHome P t (given a (gives s v a (Label.Created id child)))
created_home P s t v a id child is named at h =
    let (m, there, rest) = bind-is (s.bag id) (λ (w : PlainMessage). service.creates s id w child w.what) t is in
    subst (λ (gs : List Gets). AtHome P t (given a gs)) (ap (addresses.creation_gets v a id child) (sym there)) (creates_row P s t v a id m child m.what refl rest there named at h)

-- a process is asked to move: it knows who sent the request
asked_row : (P : Pid → Place → Type 0) (s t : OneKernel) (a : Addresses) (id : MsgId) (m : PlainMessage) (w : PlainWhat) → service.follows_request s id m w ≡ Some t → s.bag id ≡ Some m → AtHome P s a
    → AtHome P t (given a (gets (AskedBy m.to) (a (Sender id)) ∷ []))
asked_row P s t a id m (PlainWhat.Move machine) is there h =
    let u = at_home_out P s a id h in
    let b = given a (gets (AskedBy m.to) (a (Sender id)) ∷ []) in
    let k : with_note (without_message s id) m.to (record { id = id; asker = m.sender }) ≡ t = cc in
    subst (λ (v : OneKernel). AtHome P v b) k
    (record {
      processes = λ q x e. process_same P a b q x (record { slot = λ i. refl; owner = refl }) (u.processes q x e);
      messages = λ i x e. message_same P a b i x (record { receiver = refl; sender = refl; enclosed = λ j. refl }) (u.messages i x e);
      children = u.children;
      named = u.named;
      answers = u.answers;
      askers = λ q o e. (search (arith, place_as, pid_as));
      board = u.board;
      rooted = u.rooted;
      pending = u.pending;
    })
asked_row P s t a id m _ is there h = cc

pub asked_home : (P : Pid → Place → Type 0) (s t : OneKernel) (v : View) (a : Addresses) (id : MsgId) → kernel.step s (Label.Asked id) ≡ Some t → AtHome P s a → AtHome P t (given a (gives s v a (Label.Asked id)))
asked_home P s t v a id is h =
    let (m, there, rest) = bind-is (s.bag id) (λ (w : PlainMessage). bind (kernel.at_hand s w.to) (λ (p : PlainProcess). service.follows_request s id w w.what)) t is in
    let (x, hand, last) = bind-is (kernel.at_hand s m.to) (λ (p : PlainProcess). service.follows_request s id m m.what) t rest in
    subst (λ (gs : List Gets). AtHome P t (given a gs)) (ap (λ message. option_map_or (λ (m : PlainMessage). gets (AskedBy m.to) (a (Sender id)) ∷ []) message []) (sym there)) (asked_row P s t a id m m.what last there h)

-- the process that follows a request is where that is answered
abbrev pub AnsweredAt : (Pid → Place → Type 0) → OneKernel → View → MsgId → Type 0
AnsweredAt P s v id = (p : Pid) → s.noted id ≡ Some p → P p (acting_place v p)

pub answered_home : (P : Pid → Place → Type 0) (s t : OneKernel) (v : View) (a : Addresses) (id : MsgId) (o : Outcome) → kernel.step s (Label.Answered id o) ≡ Some t → AnsweredAt P s v id
    → AtHome P s a → AtHome P t (given a (gives s v a (Label.Answered id o)))
answered_home P s t v a id o is at h =
    let (p, noted, rest) = bind-is (s.noted id) (λ (q : Pid). bind (s.notes q) (λ (n : MoveNote). service.ends_move s id q n o)) t is in
    let (n, notes, last) = bind-is (s.notes p) (λ (k : MoveNote). service.ends_move s id p k o) t rest in
    let u = without_note s p id in
    let m : PlainMessage = record { id = answer_id id; to = n.asker; sender = p; what = PlainWhat.Moved o } in
    let left : AtHome P u a = search arith in
    subst (λ (w : OneKernel). AtHome P w (given a (gives s v a (Label.Answered id o)))) (ends_move-is s t id p n o last)
    (subst (λ (gs : List Gets). AtHome P (service.move_ended s id p n o) (given a gs)) (ap (λ process. option_map_or (λ (p : Pid). gets (Receiver (answer_id id)) (a (AskedBy p)) ∷ gets (Sender (answer_id id)) (acting_place v p) ∷ []) process []) (sym noted)) (two_sends P u a m (a (AskedBy p)) (acting_place v p) left refl (h.askers p n notes) (at p noted)))
