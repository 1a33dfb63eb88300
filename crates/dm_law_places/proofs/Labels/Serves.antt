-- What is served with places: control messages, pieces of data moves, and their landing.
use Rattle.dm_law_places.proofs.Names.{◌≡◌, ℕ, ◌+◌, ◌==◌, Bool, true, false, List, [], length, refl, ap, ◌∙◌, sym, subst, nat_le, if◌then◌else◌, take, drop, Option, None, Some, ArrayVec, Pid, Addr, place_of, MsgId, Message, What, Label, Why}
use Rattle.dm_law_places.proofs.Names.{PlainMessage, PlainWhat, plain_message, plain_what, Process, Direction, Status, Reply, bind, Ended, OneKernel, plain_process, plain_status, PlainProcess, answer_to, piece_of, written_at, Rest, Landed}
use Rattle.dm_law_places.proofs.Names.{Landing, plain_landed, after_serving, answer, answer_of, answer_with, serving_answer, ends_plainly, goes_on_plainly, bind-is, View, Addresses, Gets, answer_gets, given, gives, acting_place, serving_gets}
use Rattle.dm_law_places.proofs.Names.{Owner, two, gone_lands, nothing_lands, Placed, Mirrors, MirrorsMessage, MirrorsProcess, enclosed, owner_at, after_landing, with_process, with_sent, without_message, some_is, landing_gets, at_hand-is}
use Rattle.dm_law_places.proofs.Names.{option_map_or, arith, none_some}
use Rattle.dm_law_places.proofs.Keeps.{alive_of, ends_mirrors, goes_mirrors, out_mirrors, parts, there_of}
use Rattle.dm_law_places.proofs.Labels.Calls.{stands_here}
use Rattle.dm_law_places.proofs.Labels.Acts.{Follows}
use Rattle.dm_law_places.proofs.Labels.Answers.{answer_mirrors, two_sends}
use Rattle.dm_law_places.proofs.Whats.{read_what, write_what, block_what, stop_what, resume_what, kill_what, written_what, gone_what}
use Rattle.dm_message.specs.Plain as said
use Rattle.dm_onekernel.specs.Kernel as kernels
use Rattle.dm_onekernel.specs.Pieces as pieces
use Rattle.dm_onekernel.specs.Service as service
use Rattle.dm_onekernel.specs.Step as kernel
use Rattle.dm_datamove.specs.Landing as landing
use Rattle.dm_law_rule.specs.Addresses as addresses
use Rattle.dm_law_places.specs.PlacedStep as placed

-- a message without places that says this
abbrev pub plainly : Message → PlainWhat → PlainMessage
plainly m u = record { id = m.id; to = m.to.pid; sender = m.sender.pid; what = u }

pub plainly_is : (m : Message) (k : PlainMessage) → plain_message m ≡ Some k → k ≡ plainly m k.what
plainly_is m k e = let g = parts m k e in λ i. record { id = sym g.id i; to = sym g.to i; sender = sym g.sender i; what = k.what }

-- the landing of a piece
abbrev LandedKept : View → Addresses → Pid → Landed → Process → Type 0
LandedKept v a p (Landed.Done c) y = MirrorsProcess v a p y
LandedKept v a p (Landed.Next n) y = MirrorsProcess v a p y × (a (Owner p) ≡ place_of n.to) × (acting_place v p ≡ place_of n.sender) × (enclosed n.what ≡ [])

abbrev LandingKept : View → Addresses → Pid → Landing → Type 0
LandingKept v a p d = LandedKept v a p d.landed d.process

done_kept : (v : View) (a : Addresses) (p : Pid) (x : Process) (c : Reply) → MirrorsProcess v a p x → LandingKept v a p (landing.done c x)
done_kept v a p x c h = record { pid = h.pid; moves = h.moves; slots = h.slots; owner = λ q e. absurd (let f : None ≡ Some q = e in cc) }

asks_kept : (v : View) (a : Addresses) (p : Pid) (x : Process) (dir : Direction) (owner : Addr) (base own left : ℕ) → MirrorsProcess v a p x → a (Owner p) ≡ place_of owner
    → LandingKept v a p (landing.asks v.acting x (record { dir = dir; owner = owner; base = base; own = own; left = left }))
asks_kept v a p x dir owner base own left h1 h2 = search (arith, stands_here)

goes_on_kept : (v : View) (a : Addresses) (p : Pid) (x : Process) (r : Rest) → MirrorsProcess v a p x → a (Owner p) ≡ place_of r.owner → LandingKept v a p (landing.goes_on v.acting x r)
goes_on_kept v a p x r h at = search (arith, done_kept, asks_kept)

record Lands (v : View) (a : Addresses) (p : Pid) (x : Process) (o : Option Landing) (c : pieces.Landed) : Type 0 where
  d : Landing
  lands : o ≡ Some d
  plain : plain_landed d.landed d.process ≡ Some c
  kept : LandingKept v a p d

goes_lands : (v : View) (a : Addresses) (p : Pid) (x : Process) (o : Option Landing) (y : Process) (r : Rest) (c : pieces.Landed) → o ≡ Some (landing.goes_on v.acting y r) → MirrorsProcess v a p y → a (Owner p) ≡ place_of r.owner
    → pieces.move_goes_on p (plain_process y) r.dir r.owner.pid r.base r.own r.left (piece_of r.left) ≡ c → Lands v a p x o c
goes_lands v a p x o y r c e h at f = search (arith, goes_on_plainly, goes_on_kept)

ends_lands : (v : View) (a : Addresses) (p : Pid) (x : Process) (o : Option Landing) (c : pieces.Landed) → o ≡ Some (landing.done Reply.Gone x) → MirrorsProcess v a p x → pieces.done Reply.Gone (plain_process x) ≡ c → Lands v a p x o c
ends_lands v a p x o c e h f = record { d = landing.done Reply.Gone x; lands = e; plain = ends_plainly Reply.Gone x ∙ ap Some f; kept = done_kept v a p x Reply.Gone h }

lands_what_of : (v : View) (a : Addresses) (p : Pid) (x : Process) (dir : Direction) (owner : Addr) (base own left : ℕ) (w : What) (u : PlainWhat) (c : pieces.Landed) → plain_what w ≡ Some u → MirrorsProcess v a p x → a (Owner p) ≡ place_of owner
    → pieces.lands_what p (plain_process x) dir owner.pid base own left u ≡ Some c
    → Lands v a p x (landing.lands_what v.acting x (record { dir = dir; owner = owner; base = base; own = own; left = left }) dir w) c
lands_what_of v a p x dir owner base own left w u c h1 h2 h3 h4 = search (arith, block_what, some_is, goes_lands, written_what, ends_lands, gone_what)

lands_if : (v : View) (a : Addresses) (p : Pid) (x : Process) (b : Bool) (dir : Direction) (owner : Addr) (base own left : ℕ) (w : What) (u : PlainWhat) (c : pieces.Landed) → plain_what w ≡ Some u → MirrorsProcess v a p x → a (Owner p) ≡ place_of owner
    → (if b then pieces.lands_what p (plain_process x) dir owner.pid base own left u else None) ≡ Some c
    → Lands v a p x (landing.lands_what v.acting x (record { dir = dir; owner = owner; base = base; own = own; left = left }) dir w) c
lands_if v a p x b dir owner base own left w u c h1 h2 h3 h4 = search (arith, lands_what_of)

lands_of : (v : View) (a : Addresses) (p : Pid) (x : Process) (m : Message) (u : PlainWhat) (st : Status) (c : pieces.Landed) → x.status ≡ st → plain_what m.what ≡ Some u → MirrorsProcess v a p x
    → pieces.lands p (plain_process x) (plainly m u) (plain_status st) ≡ Some c → Lands v a p x (landing.landing v.acting x m.what st) c
lands_of v a p x m u (Status.Moving dir owner base own left pending) c st is h e =
    lands_if v a p x (m.id.n == pending) dir owner base own left m.what u c is h (h.owner owner (ap owner_at st)) e
lands_of v a p x m u _ c st is h e = none_some c e

landed_mirrors : (s : OneKernel) (v : View) (a : Addresses) (l : Placed) (id : MsgId) (m : Message) (u : PlainWhat) (w : Landed) (y : Process) (c : pieces.Landed) → plain_landed w y ≡ Some c → LandedKept v a m.to.pid w y → Mirrors s v a l
    → Mirrors (service.landed s id (plainly m u) c) v (given a (landing_gets v a m.to.pid (Some c))) (after_landing (without_message l id) m.to.pid w y)
landed_mirrors s v a l id m u (Landed.Done r) y c e k h =
    let f : pieces.Done r (plain_process y) ≡ c = cc in
    subst (λ (z : pieces.Landed). Mirrors (service.landed s id (plainly m u) z) v (given a (landing_gets v a m.to.pid (Some z))) (with_process (without_message l id) m.to.pid (Some y))) f
    (goes_mirrors (service.without_message s id) v a (without_message l id) m.to.pid y (out_mirrors s v a l id h) k)
landed_mirrors s v a l id m u (Landed.Next n) y c e k h =
    let (q, says, last) = bind-is (plain_message n) (λ (z : PlainMessage). Some (pieces.Next z (plain_process y))) c e in
    let f : pieces.Next q (plain_process y) ≡ c = cc in
    let on = with_process (without_message l id) m.to.pid (Some y) in
    subst (λ (z : pieces.Landed). Mirrors (service.landed s id (plainly m u) z) v (given a (landing_gets v a m.to.pid (Some z))) (with_sent on (Some n))) f
    (subst (λ (i : MsgId). Mirrors (service.landed s id (plainly m u) (pieces.Next q (plain_process y))) v (given a (two i (a (Owner m.to.pid)) (acting_place v m.to.pid))) (with_sent on (Some n))) (parts n q says).id
    (two_sends (service.changed s id (plainly m u) (plain_process y)) v a on n q (a (Owner m.to.pid)) (acting_place v m.to.pid) says k.3 k.1 k.2
    (goes_mirrors (service.without_message s id) v a (without_message l id) m.to.pid y (out_mirrors s v a l id h) k.0)))

lands_row : (s t : OneKernel) (v : View) (a : Addresses) (l : Placed) (id : MsgId) (m : Message) (x : Process) (u : PlainWhat) → plain_what m.what ≡ Some u → MirrorsProcess v a m.to.pid x → Mirrors s v a l
    → bind (pieces.lands m.to.pid (plain_process x) (plainly m u) (plain_status x.status)) (λ (c : pieces.Landed). Some (service.landed s id (plainly m u) c)) ≡ Some t
    → Follows t v (given a (landing_gets v a m.to.pid (pieces.lands m.to.pid (plain_process x) (plainly m u) (plain_status x.status)))) (placed.lands v.acting (without_message l id) m x)
lands_row s t v a l id m x u says hx h e =
    let o = pieces.lands m.to.pid (plain_process x) (plainly m u) (plain_status x.status) in
    let (c, is, last) = bind-is o (λ (w : pieces.Landed). Some (service.landed s id (plainly m u) w)) t e in
    let k : service.landed s id (plainly m u) c ≡ t = cc in
    let g = lands_of v a m.to.pid x m u x.status c refl says hx is in
    let on = after_landing (without_message l id) m.to.pid g.d.landed g.d.process in (
      on,
      ap (λ (w : Option Landing). bind w (λ (d : Landing). Some (after_landing (without_message l id) m.to.pid d.landed d.process))) g.lands,
      subst (λ (z : OneKernel). Mirrors z v (given a (landing_gets v a m.to.pid o)) on) k
          (subst (λ (z : Option pieces.Landed). Mirrors (service.landed s id (plainly m u) c) v (given a (landing_gets v a m.to.pid z)) on) (sym is)
          (landed_mirrors s v a l id m u g.d.landed g.d.process c g.plain g.kept h)),
    )

-- where the owner has ended nothing is sent
gone_row : (s t : OneKernel) (v : View) (a : Addresses) (l : Placed) (id : MsgId) (m : Message) (x : Process) → plain_what m.what ≡ Some said.Gone → MirrorsProcess v a m.to.pid x → Mirrors s v a l
    → bind (pieces.lands m.to.pid (plain_process x) (plainly m said.Gone) (plain_status x.status)) (λ (c : pieces.Landed). Some (service.landed s id (plainly m said.Gone) c)) ≡ Some t
    → Follows t v a (placed.lands v.acting (without_message l id) m x)
gone_row s t v a l id m x says hx h e =
    let o = pieces.lands m.to.pid (plain_process x) (plainly m said.Gone) (plain_status x.status) in
    let (c, is, last) = bind-is o (λ (w : pieces.Landed). Some (service.landed s id (plainly m said.Gone) w)) t e in
    let none : landing_gets v a m.to.pid o ≡ [] = ap (landing_gets v a m.to.pid) is ∙ nothing_lands v a m.to.pid c (gone_lands m.to.pid (plain_process x) (plainly m said.Gone) (plain_status x.status) c refl is) in
    let (on, step, mirrors) = lands_row s t v a l id m x said.Gone says hx h e in
    (on, step, subst (λ (gs : List Gets). Mirrors t v (given a gs) on) none mirrors)

-- a piece that is served
answers_row : (s : OneKernel) (v : View) (a : Addresses) (l : Placed) (id : MsgId) (m : Message) (x y : Process) (u r : PlainWhat) (w : What) → MirrorsMessage a id m → plain_what m.what ≡ Some u → plain_what w ≡ Some r → enclosed w ≡ [] → MirrorsProcess v a m.to.pid x → MirrorsProcess v a m.to.pid y
    → Mirrors s v a l → serving_answer v.acting x m ≡ Some (answer v.acting x.moves m w) → after_serving x m.what ≡ y
    → Follows (service.answered s id (plainly m u) (record { process = plain_process y; answer = answer_to (plainly m u) r })) v (given a (answer_gets a id (acting_place v m.to.pid))) (placed.answers v.acting (without_message l id) m x)
answers_row s v a l id m x y u r w hm says ws none hx hy h e f =
    let k = plainly m u in
    let t = service.answered s id k (record { process = plain_process y; answer = answer_to k r }) in
    let n = answer v.acting x.moves m w in
    let on = with_sent (with_process (without_message l id) m.to.pid (Some y)) (Some n) in (
      on,
      ap (λ (o : Option Message). bind o (λ (z : Message). Some (with_sent (with_process (without_message l id) m.to.pid (Some (after_serving x m.what))) (Some z)))) e
          ∙ ap (λ (z : Process). Some (with_sent (with_process (without_message l id) m.to.pid (Some z)) (Some n))) f,
      subst (λ (c : ℕ). Mirrors t v (given a (answer_gets a id (record { at = v.acting; moves = c }))) on) hx.moves
          (answer_mirrors (service.changed s id k (plain_process y)) v a (with_process (without_message l id) m.to.pid (Some y)) id m k w r x.moves hm (ap (said.with_what m) says) ws none
          (goes_mirrors (service.without_message s id) v a (without_message l id) m.to.pid y (out_mirrors s v a l id h) hy)),
    )

-- a row a kind
serve_row : (s t : OneKernel) (v : View) (a : Addresses) (l : Placed) (id : MsgId) (m : Message) (x : Process) (u : PlainWhat) → plain_what m.what ≡ Some u → service.serves s id (plainly m u) (plain_process x) u ≡ Some t → MirrorsMessage a id m
    → MirrorsProcess v a m.to.pid x → Mirrors s v a l → Follows t v (given a (serving_gets v a id (plainly m u) (plain_process x) u)) (placed.serves v.acting (without_message l id) m x m.what)
serve_row s t v a l id m x said.Stop says is hm hx h =
    let y : Process = record x { stopped = true } in
    let k : service.changed s id (plainly m said.Stop) (plain_process y) ≡ t = cc in
    let on = with_process (without_message l id) m.to.pid (Some y) in (
      on,
      ap (placed.serves v.acting (without_message l id) m x) (stop_what m.what says),
      subst (λ (z : OneKernel). Mirrors z v a on) k (goes_mirrors (service.without_message s id) v a (without_message l id) m.to.pid y (out_mirrors s v a l id h) (record { pid = hx.pid; moves = hx.moves; slots = hx.slots; owner = hx.owner })),
    )
serve_row s t v a l id m x said.Resume says is hm hx h =
    let y : Process = record x { stopped = false } in
    let k : service.changed s id (plainly m said.Resume) (plain_process y) ≡ t = cc in
    let on = with_process (without_message l id) m.to.pid (Some y) in (
      on,
      ap (placed.serves v.acting (without_message l id) m x) (resume_what m.what says),
      subst (λ (z : OneKernel). Mirrors z v a on) k (goes_mirrors (service.without_message s id) v a (without_message l id) m.to.pid y (out_mirrors s v a l id h) (record { pid = hx.pid; moves = hx.moves; slots = hx.slots; owner = hx.owner })),
    )
serve_row s t v a l id m x said.Kill says is hm hx h =
    let k : kernels.with_process (service.without_message s id) m.to.pid (Ended Why.Killed) ≡ t = cc in
    let on = with_process (without_message l id) m.to.pid None in (
      on,
      ap (placed.serves v.acting (without_message l id) m x) (kill_what m.what says),
      subst (λ (z : OneKernel). Mirrors z v a on) k (ends_mirrors (service.without_message s id) v a (without_message l id) m.to.pid Why.Killed (out_mirrors s v a l id h)),
    )
serve_row s t v a l id m x (said.Read base len) says is hm hx h =
    let k = plainly m (said.Read base len) in
    let bytes = take len (drop base x.memory) in
    let body : ArrayVec ℕ = record { items = bytes } in
    let (c, served, last) = bind-is (pieces.reads (plain_process x) k base len) (λ (r : pieces.Served). Some (service.answered s id k r)) t is in
    let z = some_is (nat_le (base + len) (length x.memory)) (record { process = plain_process x; answer = answer_to k (said.Block bytes) }) c served in
    let f : service.answered s id k c ≡ t = cc in
    let w = read_what m.what base len says in
    let (on, step, mirrors) = answers_row s v a l id m x x (said.Read base len) (said.Block bytes) (What.Block body) hm says refl refl hx hx h
    (ap (λ (q : What). answer_with v.acting x m (answer_of x q)) w) (ap (after_serving x) w) in
    (on, ap (placed.serves v.acting (without_message l id) m x) w ∙ step, subst (λ (q : OneKernel). Mirrors q v (given a (answer_gets a id (acting_place v m.to.pid))) on) (ap (service.answered s id k) z ∙ f) mirrors)
serve_row s t v a l id m x (said.Write base bytes) says is hm hx h =
    let k = plainly m (said.Write base bytes) in
    let b = write_what m.what base bytes says in
    let y : Process = record x { memory = written_at x.memory base b.body.items } in
    let (c, served, last) = bind-is (pieces.writes (plain_process x) k base bytes) (λ (r : pieces.Served). Some (service.answered s id k r)) t is in
    let y_is : plain_process y ≡ record (plain_process x) { memory = written_at x.memory base bytes } = ap (λ (bs : List ℕ). record (plain_process x) { memory = written_at x.memory base bs }) b.bytes_are in
    let z = some_is (nat_le (base + length bytes) (length x.memory)) (record { process = record (plain_process x) { memory = written_at x.memory base bytes }; answer = answer_to k said.Written }) c served in
    let f : service.answered s id k c ≡ t = cc in
    let (on, step, mirrors) = answers_row s v a l id m x y (said.Write base bytes) said.Written What.Written hm says refl refl hx (record { pid = hx.pid; moves = hx.moves; slots = hx.slots; owner = hx.owner }) h
    (ap (λ (q : What). answer_with v.acting x m (answer_of x q)) b.is) (ap (after_serving x) b.is) in (
      on,
      ap (placed.serves v.acting (without_message l id) m x) b.is ∙ step,
      subst (λ (q : OneKernel). Mirrors q v (given a (answer_gets a id (acting_place v m.to.pid))) on) (ap (λ (p : PlainProcess). service.answered s id k (record { process = p; answer = answer_to k said.Written })) y_is ∙ ap (service.answered s id k) z ∙ f) mirrors,
    )
serve_row s t v a l id m x (said.Block bytes) says is hm hx h =
    let (on, step, mirrors) = lands_row s t v a l id m x (said.Block bytes) says hx h is in
    (on, ap (placed.serves v.acting (without_message l id) m x) (block_what m.what bytes says).is ∙ step, mirrors)
serve_row s t v a l id m x said.Written says is hm hx h =
    let (on, step, mirrors) = lands_row s t v a l id m x said.Written says hx h is in
    (on, ap (placed.serves v.acting (without_message l id) m x) (written_what m.what says) ∙ step, mirrors)
serve_row s t v a l id m x said.Gone says is hm hx h =
    let (on, step, mirrors) = gone_row s t v a l id m x says hx h is in
    (on, ap (placed.serves v.acting (without_message l id) m x) (gone_what m.what says) ∙ step, mirrors)
serve_row s t v a l id m x u says is hm hx h = none_some t is

-- served
pub served_follows : (s t : OneKernel) (v : View) (a : Addresses) (l : Placed) (id : MsgId) → kernel.step s (Label.Served id) ≡ Some t → Mirrors s v a l
    → Follows t v (given a (gives s v a (Label.Served id))) (bind (l.bag id) (λ (m : Message). bind (l.processes m.to.pid) (λ (x : Process). placed.serves v.acting (without_message l id) m x m.what)))
served_follows s t v a l id is h =
    let (k, there, rest) = bind-is (s.bag id) (λ (w : PlainMessage). bind (kernel.at_hand s w.to) (λ (p : PlainProcess). service.serves s id w p w.what)) t is in
    let (m, found, says) = there_of s l id k h.plain there in
    let u = k.what in
    let km = plainly_is m k says in
    let (z, hand, last) = bind-is (kernel.at_hand s m.to.pid) (λ (p : PlainProcess). service.serves s id (plainly m u) p u) t
    (ap (λ (w : PlainMessage). bind (kernel.at_hand s w.to) (λ (p : PlainProcess). service.serves s id w p w.what)) (sym km) ∙ rest) in
    let alive : kernel.alive (s.processes m.to.pid) ≡ Some z = ap kernel.alive (at_hand-is s m.to.pid z hand).1 in
    let (x, stands, x_is) = alive_of s l m.to.pid z h.plain alive in
    let gs_is : serving_gets v a id (plainly m u) (plain_process x) u ≡ gives s v a (Label.Served id) =
    ap (λ (p : PlainProcess). serving_gets v a id (plainly m u) p u) x_is ∙ ap (λ (o : Option PlainProcess). option_map_or (λ y. serving_gets v a id (plainly m u) y u) o []) (sym alive)
    ∙ ap (λ (w : PlainMessage). addresses.service_gets s v a id (Some w)) (sym km) ∙ ap (addresses.service_gets s v a id) (sym there) in
    let (on, step, mirrors) = serve_row s t v a l id m x u (parts m k says).what (ap (λ (p : PlainProcess). service.serves s id (plainly m u) p u) x_is ∙ last) (h.places.message id m found) (h.places.process m.to.pid x stands) h in (
      on,
      ap (λ (o : Option Message). bind o (λ (n : Message). bind (l.processes n.to.pid) (λ (y : Process). placed.serves v.acting (without_message l id) n y n.what))) found
          ∙ ap (λ (o : Option Process). bind o (λ (y : Process). placed.serves v.acting (without_message l id) m y m.what)) stands ∙ step,
      subst (λ (gs : List Gets). Mirrors t v (given a gs) on) gs_is mirrors,
    )
