-- Messages without links that come in another's place, with places: answers, and what kernels say of ended processes and of
-- want of room.
use Rattle.dm_law_places.proofs.Names.{◌≡◌, ℕ, List, [], ◌∷◌, Bool, refl, ap, ◌∙◌, sym, subst, if◌then◌else◌, slice_get, Option, None, Some, Link, Place, place_of, MsgId, Message, What, Label, PlainMessage, PlainWhat, plain_message, plain_what}
use Rattle.dm_law_places.proofs.Names.{arith, bind, OneKernel, answer_id, answer_to, answer, gone_answer, id_eq-same, bind-is, when-is, View, Addresses, answer_gets, given, gives, Receiver, Sender, unmoved, two, two_process, two_servers}
use Rattle.dm_law_places.proofs.Names.{two_off, Placed, Mirrors, MirrorsMessage, enclosed, with_sent, without_message, Asker, AskedBy, Gets, MoveNote, Outcome, Pid, PlainProcess, Process, acting_place, asker_of, gets, id_of, manager}
use Rattle.dm_law_places.proofs.Names.{moved_answer, pid_eq-same, plain_note, manager_request, with_note, without_note, ends_move-is, option_map_or, none_some}
use Rattle.dm_onekernel.specs.Kernel as kernels
use Rattle.dm_onekernel.specs.Service as service
use Rattle.dm_onekernel.specs.Step as kernel
use Rattle.dm_law_places.proofs.Keeps.{alive_of, kernel_sent, noted_mirrors, of_map, out_mirrors, parts, places_sent, there_of, unnoted_mirrors}
use Rattle.dm_law_places.proofs.Labels.Calls.{stands_here}
use Rattle.dm_law_places.proofs.Whats.{move_what, read_what, write_what}
use Rattle.dm_law_places.proofs.Labels.Acts.{Follows, mirrors_as}
use Rattle.dm_datamove.specs.Serving as serving
use Rattle.dm_law_places.specs.PlacedStep as placed

-- a message without links comes
pub two_sends : (s : OneKernel) (v : View) (a : Addresses) (l : Placed) (m : Message) (k : PlainMessage) (to from : Place) → plain_message m ≡ Some k → enclosed m.what ≡ [] → to ≡ place_of m.to → from ≡ place_of m.sender → Mirrors s v a l
    → Mirrors (kernels.with_sent s (Some k)) v (given a (two m.id to from)) (with_sent l (Some m))
two_sends s v a l m k to from says none e f h = record {
  plain = kernel_sent s l k m says h.plain;
  places = places_sent v a (given a (two m.id to from)) l m h.places (two_process a m.id to from) (two_off a m.id to from) (record {
    id = refl;
    receiver = ap (λ (c : Bool). if c then to else a (Receiver m.id)) (id_eq-same m.id) ∙ e;
    sender = ap (λ (c : Bool). if c then from else a (Sender m.id)) (id_eq-same m.id) ∙ f;
    enclosed = λ k w there. absurd (let g : None ≡ Some w = ap (λ (ls : List Link). slice_get ls k) (sym none) ∙ there in cc);
  }) (two_servers a m.id to from);
}

-- an answer goes back to where its request came from
pub answer_mirrors : (s : OneKernel) (v : View) (a : Addresses) (l : Placed) (id : MsgId) (m : Message) (k : PlainMessage) (w : What) (u : PlainWhat) (moves : ℕ) → MirrorsMessage a id m → plain_message m ≡ Some k → plain_what w ≡ Some u → enclosed w ≡ []
    → Mirrors s v a l → Mirrors (kernels.with_sent s (Some (answer_to k u))) v (given a (answer_gets a id (record { at = v.acting; moves = moves }))) (with_sent l (Some (answer v.acting moves m w)))
answer_mirrors s v a l id m k w u moves hm says e none h = search (arith, two_sends, parts)

-- dropped
pub dropped_follows : (s t : OneKernel) (v : View) (a : Addresses) (l : Placed) (id : MsgId) → kernel.step s (Label.Dropped id) ≡ Some t → Mirrors s v a l → Follows t v a (Some (without_message l id))
dropped_follows s t v a l id is h =
    let (m, there, rest) = bind-is (s.bag id) (λ (w : PlainMessage). bind (kernel.why_ended (s.processes w.to)) (kernel.drops s id w)) t is in
    let (y, gone, last) = bind-is (kernel.why_ended (s.processes m.to)) (kernel.drops s id m) t rest in
    let k = when-is (service.is_dropped m.what) (service.without_message s id) t last in
    (without_message l id, refl, subst (λ (u : OneKernel). Mirrors u v a (without_message l id)) k.1 (out_mirrors s v a l id h))

-- gone
gone_says : (w : What) (k u : PlainWhat) → plain_what w ≡ Some k → service.gone_what k ≡ Some u → (plain_what (serving.gone_what w) ≡ Some u) × (enclosed (serving.gone_what w) ≡ [])
gone_says w k u h1 h2 = search (arith, read_what, write_what, move_what)

pub gone_follows : (s t : OneKernel) (v : View) (a : Addresses) (l : Placed) (id : MsgId) → kernel.step s (Label.Gone id) ≡ Some t → Mirrors s v a l
    → Follows t v (given a (gives s v a (Label.Gone id))) (bind (l.bag id) (λ (m : Message). Some (with_sent (without_message l id) (Some (gone_answer v.acting m)))))
gone_follows s t v a l id is h =
    let (k, there, rest) = bind-is (s.bag id) (λ (w : PlainMessage). bind (kernel.why_ended (s.processes w.to)) (kernel.says_gone s id w)) t is in
    let (y, gone, end) = bind-is (kernel.why_ended (s.processes k.to)) (kernel.says_gone s id k) t rest in
    let (u, what, last) = bind-is (service.gone_what k.what) (λ (w : PlainWhat). Some (kernels.with_sent (service.without_message s id) (Some (answer_to k w)))) t end in
    let z : kernels.with_sent (service.without_message s id) (Some (answer_to k u)) ≡ t = cc in
    let (m, found, says) = there_of s l id k h.plain there in
    let hm = h.places.message id m found in
    let on = with_sent (without_message l id) (Some (gone_answer v.acting m)) in
    let count : m.to.moves ≡ (a (Receiver id)).moves = ap (λ (p : Place). p.moves) (sym hm.receiver) in (
      on,
      ap (λ (o : Option Message). bind o (λ (n : Message). Some (with_sent (without_message l id) (Some (gone_answer v.acting n))))) found,
      subst (λ (w : OneKernel). Mirrors w v (given a (gives s v a (Label.Gone id))) on) z
          (subst (λ (n : ℕ). Mirrors (kernels.with_sent (service.without_message s id) (Some (answer_to k u))) v (given a (answer_gets a id (record { at = v.acting; moves = n }))) on) count
          (let g = gone_says m.what k.what u (parts m k says).what what in
          answer_mirrors (service.without_message s id) v a (without_message l id) id m k (serving.gone_what m.what) u m.to.moves hm says g.0 g.1 (out_mirrors s v a l id h))),
    )

-- nospace
no_room_row : (s t : OneKernel) (v : View) (a : Addresses) (l : Placed) (id : MsgId) (m : Message) (k : PlainMessage) (u : PlainWhat) → service.has_no_room s id k u ≡ Some t → MirrorsMessage a id m → plain_message m ≡ Some k → Mirrors s v a l
    → Mirrors t v (given a (answer_gets a id (unmoved v.acting))) (with_sent (without_message l id) (Some (answer v.acting 0 m What.NoRoom)))
no_room_row s t v a l id m k (PlainWhat.Create image links) is hm says h =
    let z = when-is (service.is_kernel s k.to) (kernels.with_sent (service.without_message s id) (Some (answer_to k PlainWhat.NoRoom))) t is in
    subst (λ (u : OneKernel). Mirrors u v (given a (answer_gets a id (unmoved v.acting))) (with_sent (without_message l id) (Some (answer v.acting 0 m What.NoRoom)))) z.1
    (answer_mirrors (service.without_message s id) v a (without_message l id) id m k What.NoRoom PlainWhat.NoRoom 0 hm says refl refl (out_mirrors s v a l id h))
no_room_row s t v a l id m k _ is hm says h = none_some t is

pub no_space_follows : (s t : OneKernel) (v : View) (a : Addresses) (l : Placed) (id : MsgId) (f b : ℕ) → kernel.step s (Label.NoSpace id f b) ≡ Some t → Mirrors s v a l
    → Follows t v (given a (gives s v a (Label.NoSpace id f b))) (bind (l.bag id) (λ (m : Message). Some (with_sent (without_message l id) (Some (answer v.acting 0 m What.NoRoom)))))
no_space_follows s t v a l id f b is h =
    let (k, there, rest) = bind-is (s.bag id) (λ (w : PlainMessage). service.has_no_room s id w w.what) t is in
    let (m, found, says) = there_of s l id k h.plain there in
    let hm = h.places.message id m found in
    let on = with_sent (without_message l id) (Some (answer v.acting 0 m What.NoRoom)) in (
      on,
      ap (λ (o : Option Message). bind o (λ (n : Message). Some (with_sent (without_message l id) (Some (answer v.acting 0 n What.NoRoom))))) found,
      no_room_row s t v a l id m k k.what rest hm says h,
    )

-- asked
asked_row : (s t : OneKernel) (v : View) (a : Addresses) (l : Placed) (id : MsgId) (m : Message) (k : PlainMessage) (u : PlainWhat) → service.follows_request s id k u ≡ Some t → id ≡ id_of manager id.n → MirrorsMessage a id m
    → plain_message m ≡ Some k → Mirrors s v a l
    → Mirrors t v (given a (gets (AskedBy k.to) (a (Sender id)) ∷ [])) (with_note (without_message l id) m.to.pid id (asker_of m))
asked_row s t v a l id m k (PlainWhat.Move machine) is needs hm says h =
    let g = parts m k says in
    let w = asker_of m in
    let pl = a (Sender id) in
    let name : manager_request w ≡ id = ap (λ (i : MsgId). id_of manager i.n) hm.id ∙ sym needs in
    let on : MoveNote = record { id = id; asker = k.sender } in
    let note : plain_note w ≡ on = λ i. record { id = name i; asker = g.sender i } in
    let eq : kernels.with_note (service.without_message s id) k.to on ≡ t = cc in
    let b = λ (p : Pid). given a (gets (AskedBy p) pl ∷ []) in
    let p = m.to.pid in
    let done = noted_mirrors (service.without_message s id) v a (b p) (without_message l id) p w (λ q. record { slot = λ i. refl; owner = refl }) (λ i. record { receiver = refl; sender = refl; enclosed = λ j. refl }) (λ n. refl) (λ n. refl) (λ n. refl) refl
    (λ q apart. ap (λ (c : Bool). if c then pl else a (AskedBy q)) apart) (ap (λ (c : Bool). if c then pl else a (AskedBy p)) (pid_eq-same p) ∙ hm.sender) (out_mirrors s v a l id h) in
    search (arith, mirrors_as)
asked_row s t v a l id m k _ is needs hm says h = none_some t is

pub asked_follows : (s t : OneKernel) (v : View) (a : Addresses) (l : Placed) (id : MsgId) → kernel.step s (Label.Asked id) ≡ Some t → id ≡ id_of manager id.n → Mirrors s v a l
    → Follows t v (given a (gives s v a (Label.Asked id))) (bind (l.bag id) (λ (m : Message). Some (with_note (without_message l id) m.to.pid id (asker_of m))))
asked_follows s t v a l id is needs h =
    let (k, there, rest) = bind-is (s.bag id) (λ (w : PlainMessage). bind (kernel.at_hand s w.to) (λ (p : PlainProcess). service.follows_request s id w w.what)) t is in
    let (x, hand, last) = bind-is (kernel.at_hand s k.to) (λ (p : PlainProcess). service.follows_request s id k k.what) t rest in
    let (m, found, says) = there_of s l id k h.plain there in
    let on = with_note (without_message l id) m.to.pid id (asker_of m) in (
      on,
      ap (λ (o : Option Message). bind o (λ (n : Message). Some (with_note (without_message l id) n.to.pid id (asker_of n)))) found,
      subst (λ (gs : List Gets). Mirrors t v (given a gs) on) (ap (λ message. option_map_or (λ (m : PlainMessage). gets (AskedBy m.to) (a (Sender id)) ∷ []) message []) (sym there)) (asked_row s t v a l id m k k.what last needs (h.places.message id m found) says h),
    )

pub answered_follows : (s t : OneKernel) (v : View) (a : Addresses) (l : Placed) (id : MsgId) (o : Outcome) → kernel.step s (Label.Answered id o) ≡ Some t
    → ((p : Pid) (n : MoveNote) → s.noted id ≡ Some p → s.notes p ≡ Some n → (x : PlainProcess) × (n.id ≡ id) × (kernel.alive (s.processes p) ≡ Some x)) → Mirrors s v a l
    → Follows t v (given a (gives s v a (Label.Answered id o))) (bind (l.noted id) (λ (p : Pid). placed.ends_move v.acting l id p o))
answered_follows s t v a l id o is needs h =
    let (p, noted, rest) = bind-is (s.noted id) (λ (q : Pid). bind (s.notes q) (λ (n : MoveNote). service.ends_move s id q n o)) t is in
    let (n, notes, last) = bind-is (s.notes p) (λ (m : MoveNote). service.ends_move s id p m o) t rest in
    let (x, name, alive) = needs p n noted notes in
    let (k, waits, is_note) = of_map plain_note (l.notes p) n (sym notes ∙ sym (h.plain.notes p)) in
    let (y, stands, is_process) = alive_of s l p x h.plain alive in
    let m = moved_answer v.acting y o k in
    let to : k.addr.pid ≡ n.asker = ap (λ (w : MoveNote). w.asker) is_note in
    let asked : manager_request k ≡ id = ap (λ (w : MoveNote). w.id) is_note ∙ name in
    let hy = h.places.process p y stands in
    let q : PlainMessage = record { id = answer_id id; to = n.asker; sender = p; what = PlainWhat.Moved o } in
    let says : plain_message m ≡ Some q = λ i. Some (record { id = answer_id (asked i); to = to i; sender = hy.pid i; what = PlainWhat.Moved o }) in
    let here : acting_place v p ≡ place_of m.sender = stands_here v a p y hy in
    let left = unnoted_mirrors s v a l p id h in
    let done = two_sends (kernels.without_note s p id) v a (without_note l p id) m q (a (AskedBy p)) (acting_place v p) says refl (h.places.asker p k waits) here left in
    let on = with_sent (without_note l p id) (Some m) in (
      on,
      ap (λ (w : Option Pid). bind w (λ (r : Pid). placed.ends_move v.acting l id r o)) (h.plain.noted id ∙ noted)
          ∙ ap (λ (w : Option Asker). bind w (λ (c : Asker). bind (l.processes p) (λ (z : Process). Some (with_sent (without_note l p id) (Some (moved_answer v.acting z o c)))))) waits
          ∙ ap (λ (w : Option Process). bind w (λ (z : Process). Some (with_sent (without_note l p id) (Some (moved_answer v.acting z o k))))) stands,
      mirrors_as (service.move_ended s id p n o) t v (given a (two m.id (a (AskedBy p)) (acting_place v p))) (given a (gives s v a (Label.Answered id o))) on on (ends_move-is s t id p n o last)
          (ap (λ (i : MsgId). given a (two (answer_id i) (a (AskedBy p)) (acting_place v p))) asked ∙ ap (λ (w : Option Pid). given a (option_map_or (λ (p : Pid). gets (Receiver (answer_id id)) (a (AskedBy p)) ∷ gets (Sender (answer_id id)) (acting_place v p) ∷ []) w [])) (sym noted)) refl done,
    )
