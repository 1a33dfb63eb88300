-- What the switchboard takes, with places: each link that it keeps or hands out has the place that the lines say.
use Rattle.dm_law_places.proofs.Names.{◌≡◌, ℕ, suc, ◌+◌, ◌==◌, Bool, false, List, [], ◌∷◌, ◌++◌, refl, ap, ◌∙◌, sym, subst, inl, inr, arith, if◌then◌else◌, map, slice_get, Option, None, Some, cases_Bool, length-map, Pid, Link, place_of}
use Rattle.dm_law_places.proofs.Names.{PlainLink, plain_link, MsgId, Message, What, id_eq, id_of, PlainMessage, PlainWhat, plain_what, is_general, switchboard, bind, OneKernel, Switchboard, bytes_eq, is_name, Named, plain_board, plain_named}
use Rattle.dm_law_places.proofs.Names.{Asked, plain_answer, plain_asks, plain_asked, plain_reply, id_eq-same, View, Addresses, given, Receiver, Sender, Enclosed, Child, Name, Answer, acting_place, place_named, board_asks, board_finds, board_keeps}
use Rattle.dm_law_places.proofs.Names.{board_gets, SameProcess, SameMessage, two, two_off, get_last, Placed, Mirrors, MirrorsKernel, MirrorsMessage, enclosed, board_took, without_message, AskedBy, ToBoard, none_some}
use Rattle.dm_switchboard.specs.declared.reply.Reply.{Reply}
use Rattle.dm_law_places.proofs.Keeps.{answer_as, board_place, came_places, kernel_out, kernel_sent, out_mirrors, places_out, process_same}
use Rattle.dm_law_places.proofs.Labels.Acts.{Follows}
use Rattle.dm_law_places.proofs.Whats.{user_what}
use Rattle.dm_onekernel.specs.Service as service
use Rattle.dm_onekernel.specs.Switchboard as one
use Rattle.dm_switchboard.specs.Taking as board

-- the names and the answer after a request, where b is a with what the request gives
record AskedKept (a b : Addresses) (sent : MsgId) (k : Asked) : Type 0 where
  name : (n : ℕ) (w : Named) → slice_get k.names n ≡ Some w → b (Name n) ≡ place_of w.link.addr
  enclosed : (n : ℕ) (w : Link) → slice_get (board.links_of_reply k.reply) n ≡ Some w → b (Enclosed sent n) ≡ place_of w.addr
  process : (q : Pid) → SameProcess a b q
  message : (i : MsgId) → id_eq sent i ≡ false → SameMessage a b i
  child : (n : ℕ) → b (Child n) ≡ a (Child n)
  answer : (n : ℕ) → b (Answer n) ≡ a (Answer n)
  asked : (q : Pid) → b (AskedBy q) ≡ a (AskedBy q)
  board : b ToBoard ≡ a ToBoard

abbrev NamesKept : Addresses → List Named → Type 0
NamesKept a names = (n : ℕ) (w : Named) → slice_get names n ≡ Some w → a (Name n) ≡ place_of w.link.addr

abbrev AsksKept : Addresses → MsgId → MsgId → List Named → List ℕ → Asked → Type 0
AsksKept a id sent names body k =
    AskedKept a (given a (board_finds a sent (map plain_named names) body (plain_reply k.reply) ++ board_keeps a id (map plain_named names) (plain_reply k.reply))) sent k

nothing_given : (a : Addresses) (sent : MsgId) (names : List Named) (r : Reply) → board.links_of_reply r ≡ [] → NamesKept a names → AskedKept a a sent (record { names = names; reply = r })
nothing_given a sent names r none h = search arith

asks_if : (a : Addresses) (id sent : MsgId) (names : List Named) (body : List ℕ) (b : Bool) (k l : Asked) → AsksKept a id sent names body k → AsksKept a id sent names body l → AsksKept a id sent names body (if b then k else l)
asks_if a id sent names body b k l h1 h2 = search arith

record FoundAt (name : List ℕ) (names : List Named) (n : ℕ) (w : Link) : Type 0 where
  i : ℕ
  k : Named
  there : slice_get names i ≡ Some k
  link : k.link ≡ w
  place : place_named name (map plain_named names) n ≡ n + i

found_at : (name : List ℕ) (names : List Named) (n : ℕ) (w : Link) → board.link_named name names ≡ Some w → FoundAt name names n w
found_at name [] n w e = none_some w e
found_at name (k ∷ ks) n w e = elim (cases_Bool (bytes_eq k.name name)) [
  | inl same ↦
      let f : Some k.link ≡ Some w = sym (ap (λ (b : Bool). if b then Some k.link else board.link_named name ks) same) ∙ e in
      record { i = 0; k = k; there = refl; link = let g : k.link ≡ w = cc in g; place = ap (λ (b : Bool). if b then n else place_named name (map plain_named ks) (n + 1)) same ∙ (let g : n ≡ n + 0 = omega arith in g) }
  | inr apart ↦
      let h = found_at name ks (n + 1) w (sym (ap (λ (b : Bool). if b then Some k.link else board.link_named name ks) apart) ∙ e) in
      let hp = h.place in
      let hi = h.i in
      record { i = suc hi; k = h.k; there = h.there; link = h.link; place = ap (λ (b : Bool). if b then n else place_named name (map plain_named ks) (n + 1)) apart ∙ hp ∙ (let g : (n + 1) + hi ≡ n + suc hi = omega arith in g) }
]

looks_up_kept : (a : Addresses) (id sent : MsgId) (names : List Named) (op : ℕ) (name : List ℕ) (o : Option Link) → board.link_named name names ≡ o → NamesKept a names
    → AsksKept a id sent names (op ∷ name) (record { names = names; reply = board.found_or_unknown o })
looks_up_kept a id sent names op name None is h = nothing_given a sent names Reply.Unknown refl h
looks_up_kept a id sent names op name (Some l) is h =
    let f = found_at name names 0 l is in
    search (arith, id_eq-same)

registers_kept : (a : Addresses) (id sent : MsgId) (names : List Named) (op : ℕ) (name : List ℕ) (l : Link) (o : Option Link) → a (Enclosed id 1) ≡ place_of l.addr → NamesKept a names
    → AsksKept a id sent names (op ∷ name) (board.registers_new names name l o)
registers_kept a id sent names op name l (Some k) at h = nothing_given a sent names Reply.Taken refl h
registers_kept a id sent names op name l None at h = record {
  name = λ n w e. elim (get_last names (record { name = name; link = l }) n w e) [
    | inl g ↦ ap (λ (k : ℕ). if k == n then a (Enclosed id 1) else a (Name n)) (length-map names plain_named) ∙ ap (λ (c : Bool). if c then a (Enclosed id 1) else a (Name n)) g.0 ∙ at ∙ ap (λ (k : Named). place_of k.link.addr) g.1
    | inr g ↦ ap (λ (k : ℕ). if k == n then a (Enclosed id 1) else a (Name n)) (length-map names plain_named) ∙ ap (λ (c : Bool). if c then a (Enclosed id 1) else a (Name n)) g.0 ∙ h n w g.1
  ];
  enclosed = λ n w e. absurd (let f : None ≡ Some w = e in cc);
  process = λ q. record { slot = λ n. refl; owner = refl };
  message = λ i e. record { receiver = refl; sender = refl; enclosed = λ n. refl };
  child = λ n. refl;
  answer = λ n. refl;
  asked = λ q. refl;
  board = refl;
}

to_register : (a : Addresses) (id sent : MsgId) (names : List Named) (op : ℕ) (name : List ℕ) (ls : List Link) → ((n : ℕ) (w : Link) → slice_get ls n ≡ Some w → a (Enclosed id (suc n)) ≡ place_of w.addr) → NamesKept a names
    → AsksKept a id sent names (op ∷ name) (board.asks_to_register names name ls)
to_register a id sent names op name (l ∷ []) en h =
    asks_if a id sent names (op ∷ name) (is_name name) (board.registers names name l) (board.bad_request names)
    (asks_if a id sent names (op ∷ name) (is_general l.kind) (board.registers_new names name l (board.link_named name names)) (record { names = names; reply = Reply.BadLink })
    (registers_kept a id sent names op name l (board.link_named name names) (en 0 l refl) h) (nothing_given a sent names Reply.BadLink refl h))
    (nothing_given a sent names Reply.BadRequest refl h)
to_register a id sent names op name _ en h = nothing_given a sent names Reply.BadRequest refl h

to_look_up : (a : Addresses) (id sent : MsgId) (names : List Named) (op : ℕ) (name : List ℕ) (ls : List Link) → NamesKept a names → AsksKept a id sent names (op ∷ name) (board.asks_to_look_up names name ls)
to_look_up a id sent names op name [] h = search (arith, asks_if, looks_up_kept, nothing_given)
to_look_up a id sent names op name (l ∷ ls) h = nothing_given a sent names Reply.BadRequest refl h

asks_kept : (a : Addresses) (id sent : MsgId) (names : List Named) (body : List ℕ) (ls : List Link) → ((n : ℕ) (w : Link) → slice_get ls n ≡ Some w → a (Enclosed id (suc n)) ≡ place_of w.addr) → NamesKept a names
    → AsksKept a id sent names body (board.asks names body ls)
asks_kept a id sent names [] ls en h = nothing_given a sent names Reply.BadRequest refl h
asks_kept a id sent names (op ∷ name) ls en h = search (arith, asks_if, to_register, to_look_up, nothing_given)

-- the kernel's board after a request is this one without places
abbrev BoardAt : OneKernel → View → Addresses → Placed → MsgId → List ℕ → Link → List Link → Switchboard → one.Asked → Type 0
BoardAt s v a l id body w ws b k =
    Mirrors (service.switchboard_took s id (one.board_answers b (plain_link w) k)) v (given a (board_asks v a id (id_of switchboard b.sent) b.names body k))
    (board_took (without_message l id) (board.answers v.acting l.board w (board.asks l.board.names body ws)))

request_mirrors : (s : OneKernel) (v : View) (a : Addresses) (l : Placed) (id : MsgId) (body : List ℕ) (w : Link) (ws : List Link) → ((n : ℕ) (u : Link) → slice_get (w ∷ ws) n ≡ Some u → a (Enclosed id n) ≡ place_of u.addr) → Mirrors s v a l
    → BoardAt s v a l id body w ws (plain_board l.board) (plain_asked (board.asks l.board.names body ws))
request_mirrors s v a l id body w ws en h =
    let names = l.board.names in
    let n = l.board.sent in
    let sent = id_of switchboard n in
    let asked = board.asks names body ws in
    let k = asks_kept a id sent names body ws (λ i u e. en (suc i) u e) h.places.name in
    let b = given a (board_finds a sent (map plain_named names) body (plain_reply asked.reply) ++ board_keeps a id (map plain_named names) (plain_reply asked.reply)) in
    let to = a (Enclosed id 0) in
    let from = acting_place v switchboard in
    let m = board.answer_over v.acting l.board.moves n w asked.reply in
    let q = one.goes_over switchboard n (plain_link w) (((one.answer_row (plain_reply asked.reply)).0) ∷ []) ((one.answer_row (plain_reply asked.reply)).1) in
    let u = kernel_out s l id h.plain in
    let g = places_out v a l id h.places in
    let s' = record (service.without_message s id) { switchboard = record { names = map plain_named asked.names; sent = n + 1 } } in
    let l' = record (without_message l id) { board = record { names = asked.names; sent = n + 1; moves = l.board.moves } } in
    let plain : MirrorsKernel s' l' = record { processes = u.processes; bag = u.bag; notes = u.notes; noted = u.noted; board = refl; manager = u.manager; machines = u.machines; images = u.images; to_board = u.to_board } in
    record {
      plain = kernel_sent s' l' q m (plain_answer v.acting l.board.moves n w asked.reply) plain;
      places = record {
        process = λ p x e. process_same v a (given b (two sent to from)) p x (let z = k.process p in record { slot = z.slot; owner = z.owner }) (h.places.process p x e);
        message = came_places a (given b (two sent to from)) l' m g.message
            (λ i e. let z = k.message i e in let y = two_off b sent to from i e in record { receiver = y.receiver ∙ z.receiver; sender = y.sender ∙ z.sender; enclosed = z.enclosed })
            (search (
              ap (λ (c : Bool). if c then to else b (Receiver sent)) (id_eq-same sent) ∙ en 0 w refl,
              ap (λ (c : Bool). if c then from else b (Sender sent)) (id_eq-same sent) ∙ board_place s v a l h,
            ));
        name = k.name;
        child = λ j c e. k.child j ∙ h.places.child j c e;
        answer = λ j r e. answer_as r.answer (k.answer j) (h.places.answer j r e);
        asker = λ q w e. k.asked q ∙ h.places.asker q w e;
        board = k.board ∙ h.places.board;
        board_moves = h.places.board_moves;
        manager_moves = h.places.manager_moves;
      };
    }

board_request : (s : OneKernel) (v : View) (a : Addresses) (l : Placed) (id : MsgId) (code channel : ℕ) (body : List ℕ) (links : List Link) → ((n : ℕ) (u : Link) → slice_get links n ≡ Some u → a (Enclosed id n) ≡ place_of u.addr) → Mirrors s v a l
    → Mirrors (service.switchboard_took s id (one.takes_request s.switchboard body (map plain_link links))) v (given a (board_gets s v a id (PlainWhat.User code channel body (map plain_link links)))) (board_took (without_message l id) (board.takes_request v.acting l.board body links))
board_request s v a l id code channel body [] en h = let u = out_mirrors s v a l id h in let p = u.plain in let g = u.places in search
board_request s v a l id code channel body (w ∷ ws) en h =
    let asked = board.asks l.board.names body ws in
    subst (λ (b : Switchboard). BoardAt s v a l id body w ws b (one.asks b.names body (map plain_link ws))) h.plain.board
    (subst (BoardAt s v a l id body w ws (plain_board l.board)) (sym (plain_asks l.board.names body ws)) (request_mirrors s v a l id body w ws en h))

pub board_row : (s t : OneKernel) (v : View) (a : Addresses) (l : Placed) (id : MsgId) (m : Message) (k : PlainMessage) (u : PlainWhat) → plain_what m.what ≡ Some u → MirrorsMessage a id m → Mirrors s v a l
    → bind (one.board_takes s.switchboard k u) (λ (z : one.BoardTook). Some (service.switchboard_took s id z)) ≡ Some t
    → Follows t v (given a (board_gets s v a id u)) (bind (board.takes v.acting l.board m.what) (λ (z : board.Taken). Some (board_took (without_message l id) z)))
board_row s t v a l id m k (PlainWhat.User code channel bytes ls) says hm h e =
    let w = user_what m.what code channel bytes ls says in
    let f : service.switchboard_took s id (one.takes_request s.switchboard bytes ls) ≡ t = cc in
    let body = w.body.items in
    let links = w.links.items in
    let on = board_took (without_message l id) (board.takes_request v.acting l.board body links) in (
      on,
      ap (λ (x : What). bind (board.takes v.acting l.board x) (λ (z : board.Taken). Some (board_took (without_message l id) z))) w.is,
      subst (λ (q : OneKernel). Mirrors q v (given a (board_gets s v a id (PlainWhat.User code channel bytes ls))) on) f
          (subst (λ (bs : List ℕ). Mirrors (service.switchboard_took s id (one.takes_request s.switchboard bs ls)) v (given a (board_gets s v a id (PlainWhat.User code channel bs ls))) on) w.bytes_are
          (subst (λ (ks : List PlainLink). Mirrors (service.switchboard_took s id (one.takes_request s.switchboard body ks)) v (given a (board_gets s v a id (PlainWhat.User code channel body ks))) on) w.links_are
          (board_request s v a l id code channel body links (λ n x g. hm.enclosed n x (ap (λ (y : What). slice_get (enclosed y) n) w.is ∙ g)) h))),
    )
board_row s t v a l id m k u says hm h e = none_some t e
