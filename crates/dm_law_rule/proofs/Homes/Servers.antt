-- What servers do keeps addresses where they may be.
use Rattle.dm_law_rule.proofs.Names.{◌≡◌, ℕ, zero, suc, ◌+◌, ◌==◌, ◌&&◌, Bool, true, false, List, [], ◌∷◌, ◌++◌, refl, ap, ◌∙◌, sym, subst, ◌⊎◌, inl, inr, arith, nat_lt, nat_le, length, if◌then◌else◌, slice_get, Option, None, Some, cases_Bool}
use Rattle.dm_law_rule.proofs.Names.{nat_tests, Pid, Place, PlainLink, MsgId, id_eq, id_of, PlainMessage, PlainWhat, bind, OneKernel, without_message, id_eq-same, View, Addresses, gets, given, Enclosed, NamedLink, Pending, switchboard}
use Rattle.dm_law_rule.proofs.Names.{is_general, Child, Name, Answer, AskedBy, ToBoard, acting_place, place_named, board_finds, board_keeps, board_gets, links_in, ascends, and_parts, bytes_eq, option_map_or, none_some}
use Rattle.dm_law_rule.proofs.Homes.{place_as, pid_as, AtHome}
use Rattle.dm_law_rule.proofs.Homes.Rows.{SameProcess, SameMessage, sent_home, at_home_out, process_same}
use Rattle.dm_law_rule.proofs.Homes.Serves.{two, two_off}
use Rattle.dm_law_rule.proofs.Requests.{by_test}
use Rattle.dm_onekernel.specs.Service as service
use Rattle.dm_onekernel.specs.Switchboard as board
use Rattle.dm_onekernel.specs.Manager as manage
pub use Rattle.std.proofs.lemmas.Bool.{and_parts as and-both}

-- a list with one more at its end
pub get_last : {A : Type 0} (xs : List A) (y : A) (n : ℕ) (q : A) → slice_get (xs ++ y ∷ []) n ≡ Some q → (((length xs == n) ≡ true) × (y ≡ q)) ⊎ (((length xs == n) ≡ false) × (slice_get xs n ≡ Some q))
get_last [] y zero q e = inl (refl, let f : Some y ≡ Some q = e in cc)
get_last [] y (suc n) q e = absurd (let f : None ≡ Some q = e in cc)
get_last (x ∷ xs) y zero q e = inr (let f : (length (x ∷ xs) == 0) ≡ false = grind (arith, nat_tests) in f, e)
get_last (x ∷ xs) y (suc n) q e = elim (get_last xs y n q e) [
  | inl h ↦ inl (let g = h.0 in let f : (length (x ∷ xs) == suc n) ≡ true = grind (arith, nat_tests) in f, h.1)
  | inr h ↦ inr (let g = h.0 in let f : (length (x ∷ xs) == suc n) ≡ false = grind (arith, nat_tests) in f, h.1)
]

ascends_le : (ps : List Pending) (from to : ℕ) → ascends from ps to ≡ true → nat_le from to ≡ true
ascends_le [] from to e = e
ascends_le (p ∷ ps) from to e =
    let k = and_parts (nat_le from p.n) (ascends (p.n + 1) ps to) e in
    let first = k.0 in
    let rest = ascends_le ps (p.n + 1) to k.1 in grind (arith, nat_tests)

pub ascends_more : (ps : List Pending) (from to : ℕ) → ascends from ps to ≡ true → ascends from ps (to + 1) ≡ true
ascends_more [] from to e = grind (arith, nat_tests)
ascends_more (p ∷ ps) from to e =
    let k = and_parts (nat_le from p.n) (ascends (p.n + 1) ps to) e in
    ap (λ (b : Bool). b && ascends (p.n + 1) ps (to + 1)) k.0 ∙ ascends_more ps (p.n + 1) to k.1

ascends_less : (ps : List Pending) (from less to : ℕ) → nat_le less from ≡ true → ascends from ps to ≡ true → ascends less ps to ≡ true
ascends_less [] from less to le e = grind (arith, nat_tests)
ascends_less (p ∷ ps) from less to le e =
    let k = and_parts (nat_le from p.n) (ascends (p.n + 1) ps to) e in
    let first = k.0 in
    let f : nat_le less p.n ≡ true = grind (arith, nat_tests) in ap (λ (b : Bool). b && ascends (p.n + 1) ps to) f ∙ k.1

pub ascends_last : (ps : List Pending) (from : ℕ) (z : Pending) → ascends from ps z.n ≡ true → ascends from (ps ++ z ∷ []) (z.n + 1) ≡ true
ascends_last [] from z e = grind (arith, nat_tests)
ascends_last (p ∷ ps) from z e =
    let k = and_parts (nat_le from p.n) (ascends (p.n + 1) ps z.n) e in
    ap (λ (b : Bool). b && ascends (p.n + 1) (ps ++ z ∷ []) (z.n + 1)) k.0 ∙ ascends_last ps (p.n + 1) z k.1

pub ascends_without : (ps : List Pending) (from to n : ℕ) → ascends from ps to ≡ true → ascends from (manage.without_pending n ps) to ≡ true
ascends_without [] from to n e = e
ascends_without (p ∷ ps) from to n e =
    let k = and_parts (nat_le from p.n) (ascends (p.n + 1) ps to) e in
    let first = k.0 in
    elim (cases_Bool (p.n == n)) [
      | inl same ↦
          ap (λ (b : Bool). ascends from (if b then ps else p ∷ manage.without_pending n ps) to) same ∙ ascends_less ps (p.n + 1) from to (let f : nat_le from (p.n + 1) ≡ true = grind (arith, nat_tests) in f) k.1
      | inr apart ↦
          ap (λ (b : Bool). ascends from (if b then ps else p ∷ manage.without_pending n ps) to) apart
          ∙ ap (λ (b : Bool). b && ascends (p.n + 1) (manage.without_pending n ps) to) k.0 ∙ ascends_without ps (p.n + 1) to n k.1
    ]

pub numbered_from : (ps : List Pending) (from to n : ℕ) (r : Pending) → ascends from ps to ≡ true → manage.pending_numbered n ps ≡ Some r → (nat_le from n ≡ true) × (nat_lt n to ≡ true)
numbered_from [] from to n r e f = none_some r f
numbered_from (p ∷ ps) from to n r e f =
    let k = and_parts (nat_le from p.n) (ascends (p.n + 1) ps to) e in
    let first = k.0 in
    elim (cases_Bool (p.n == n)) [
      | inl same ↦
          let le = ascends_le ps (p.n + 1) to k.1 in
          (let g : nat_le from n ≡ true = grind (arith, nat_tests) in g, let g : nat_lt n to ≡ true = grind (arith, nat_tests) in g)
      | inr apart ↦
          let h = numbered_from ps (p.n + 1) to n r k.1 (sym (ap (λ (b : Bool). if b then Some p else manage.pending_numbered n ps) apart) ∙ f) in
          let low = h.0 in (let g : nat_le from n ≡ true = grind (arith, nat_tests) in g, h.1)
    ]

pub pending_last : (ps : List Pending) (n : ℕ) (z r : Pending) → ((q : Pending) → manage.pending_numbered n ps ≡ Some q → (z.n == n) ≡ false) → manage.pending_numbered n (ps ++ z ∷ []) ≡ Some r
    → (((z.n == n) ≡ true) × (z ≡ r)) ⊎ (((z.n == n) ≡ false) × (manage.pending_numbered n ps ≡ Some r))
pending_last [] n z r h e = elim (cases_Bool (z.n == n)) [
  | inl same ↦ let f : Some z ≡ Some r = sym (ap (λ (b : Bool). if b then Some z else None) same) ∙ e in inl (same, let g : z ≡ r = cc in g)
  | inr apart ↦ absurd (let f : None ≡ Some r = sym (ap (λ (b : Bool). if b then Some z else None) apart) ∙ e in cc)
]
pending_last (p ∷ ps) n z r h e = elim (cases_Bool (p.n == n)) [
  | inl same ↦
      let one : manage.pending_numbered n (p ∷ ps) ≡ Some p = ap (λ (b : Bool). if b then Some p else manage.pending_numbered n ps) same in
      inr (h p one, one ∙ (sym (ap (λ (b : Bool). if b then Some p else manage.pending_numbered n (ps ++ z ∷ [])) same) ∙ e))
  | inr apart ↦
      let off : manage.pending_numbered n (p ∷ ps) ≡ manage.pending_numbered n ps = ap (λ (b : Bool). if b then Some p else manage.pending_numbered n ps) apart in
      elim (pending_last ps n z r (λ q f. h q (off ∙ f)) (sym (ap (λ (b : Bool). if b then Some p else manage.pending_numbered n (ps ++ z ∷ [])) apart) ∙ e)) [
        | inl g ↦ inl g
        | inr g ↦ inr (g.0, off ∙ g.1)
      ]
]

pub still_pending : (ps : List Pending) (from to n k : ℕ) (r : Pending) → ascends from ps to ≡ true → manage.pending_numbered k (manage.without_pending n ps) ≡ Some r → manage.pending_numbered k ps ≡ Some r
still_pending [] from to n k r e f = f
still_pending (p ∷ ps) from to n k r e f =
    let w = and_parts (nat_le from p.n) (ascends (p.n + 1) ps to) e in
    elim (cases_Bool (p.n == n)) [
      | inl same ↦
          let g : manage.pending_numbered k ps ≡ Some r = sym (ap (λ (b : Bool). manage.pending_numbered k (if b then ps else p ∷ manage.without_pending n ps)) same) ∙ f in
          let above = (numbered_from ps (p.n + 1) to k r w.1 g).0 in
          ap (λ (b : Bool). if b then Some p else manage.pending_numbered k ps) (let off : (p.n == k) ≡ false = grind (arith, nat_tests) in off) ∙ g
      | inr apart ↦
          let g : manage.pending_numbered k (p ∷ manage.without_pending n ps) ≡ Some r = sym (ap (λ (b : Bool). manage.pending_numbered k (if b then ps else p ∷ manage.without_pending n ps)) apart) ∙ f in
          elim (cases_Bool (p.n == k)) [
            | inl is ↦ ap (λ (b : Bool). if b then Some p else manage.pending_numbered k ps) is ∙ sym (ap (λ (b : Bool). if b then Some p else manage.pending_numbered k (manage.without_pending n ps)) is) ∙ g
            | inr off ↦
                ap (λ (b : Bool). if b then Some p else manage.pending_numbered k ps) off
                ∙ still_pending ps (p.n + 1) to n k r w.1 (sym (ap (λ (b : Bool). if b then Some p else manage.pending_numbered k (manage.without_pending n ps)) off) ∙ g)
          ]
    ]

-- the switchboard
pub record AskedHome (P : Pid → Place → Type 0) (a b : Addresses) (sent : MsgId) (k : board.Asked) : Type 0 where
  pub named : (n : ℕ) (w : NamedLink) → slice_get k.names n ≡ Some w → P w.link.to (b (Name n))
  pub enclosed : (n : ℕ) (l : PlainLink) → slice_get ((board.answer_row k.answer).1) n ≡ Some l → P l.to (b (Enclosed sent n))
  pub process : (q : Pid) → SameProcess a b q
  pub message : (i : MsgId) → id_eq sent i ≡ false → SameMessage a b i
  pub child : (n : ℕ) → b (Child n) ≡ a (Child n)
  pub answer : (n : ℕ) → b (Answer n) ≡ a (Answer n)
  pub asked : (q : Pid) → b (AskedBy q) ≡ a (AskedBy q)
  pub board : b ToBoard ≡ a ToBoard

abbrev NamesHome : (Pid → Place → Type 0) → Addresses → List NamedLink → Type 0
NamesHome P a names = (n : ℕ) (w : NamedLink) → slice_get names n ≡ Some w → P w.link.to (a (Name n))

abbrev AsksHome : (Pid → Place → Type 0) → Addresses → MsgId → MsgId → List NamedLink → List ℕ → board.Asked → Type 0
AsksHome P a id sent names body k = AskedHome P a (given a (board_finds a sent names body k.answer ++ board_keeps a id names k.answer)) sent k

plain_asked : (P : Pid → Place → Type 0) (a : Addresses) (sent : MsgId) (names : List NamedLink) (k : board.Answer) → ((board.answer_row k).1) ≡ [] → NamesHome P a names → AskedHome P a a sent (record { names = names; answer = k })
plain_asked P a sent names k none h = search arith

pub record FoundAt (name : List ℕ) (names : List NamedLink) (n : ℕ) (l : PlainLink) : Type 0 where
  pub i : ℕ
  pub k : NamedLink
  pub there : slice_get names i ≡ Some k
  pub link : k.link ≡ l
  pub place : place_named name names n ≡ n + i

pub found_at : (name : List ℕ) (names : List NamedLink) (n : ℕ) (l : PlainLink) → board.link_named name names ≡ Some l → FoundAt name names n l
found_at name [] n l e = none_some l e
found_at name (k ∷ ks) n l e = elim (cases_Bool (bytes_eq k.name name)) [
  | inl same ↦
      let f : Some k.link ≡ Some l = sym (ap (λ (b : Bool). if b then Some k.link else board.link_named name ks) same) ∙ e in
      record { i = 0; k = k; there = refl; link = let g : k.link ≡ l = cc in g; place = ap (λ (b : Bool). if b then n else place_named name ks (n + 1)) same ∙ (let g : n ≡ n + 0 = omega arith in g) }
  | inr apart ↦
      let h = found_at name ks (n + 1) l (sym (ap (λ (b : Bool). if b then Some k.link else board.link_named name ks) apart) ∙ e) in
      let hi = h.i in
      record { i = suc hi; k = h.k; there = h.there; link = h.link; place = ap (λ (b : Bool). if b then n else place_named name ks (n + 1)) apart ∙ h.place ∙ (let g : (n + 1) + hi ≡ n + suc hi = omega arith in g) }
]

found_one : (P : Pid → Place → Type 0) (a : Addresses) (sent : MsgId) (pl : Place) (l : PlainLink) → P l.to pl → (n : ℕ) (w : PlainLink) → slice_get (l ∷ []) n ≡ Some w → P w.to (given a (gets (Enclosed sent 0) pl ∷ []) (Enclosed sent n))
found_one P a sent pl l h1 n w h2 = search (arith, id_eq-same, place_as, pid_as)

looks_up_home : (P : Pid → Place → Type 0) (a : Addresses) (id sent : MsgId) (names : List NamedLink) (op : ℕ) (name : List ℕ) (o : Option PlainLink) → board.link_named name names ≡ o → NamesHome P a names
    → AsksHome P a id sent names (op ∷ name) (record { names = names; answer = (option_map_or board.Found o board.Unknown) })
looks_up_home P a id sent names op name None is h = plain_asked P a sent names board.Unknown refl h
looks_up_home P a id sent names op name (Some l) is h =
    let f = found_at name names 0 l is in
    search (arith, place_as, pid_as, found_one)

to_register : (P : Pid → Place → Type 0) (a : Addresses) (id sent : MsgId) (names : List NamedLink) (op : ℕ) (name : List ℕ) (ls : List PlainLink) → ((n : ℕ) (w : PlainLink) → slice_get ls n ≡ Some w → P w.to (a (Enclosed id (suc n)))) → NamesHome P a names
    → AsksHome P a id sent names (op ∷ name) (board.asks_to_register names name ls)
to_register P a id sent names op name (l ∷ []) en h =
    let registers_home : AsksHome P a id sent names (op ∷ name) (board.registers_new names name l (board.link_named name names)) = search (arith, plain_asked, get_last, place_as, pid_as, en 0 l refl) in
    by_test (AsksHome P a id sent names (op ∷ name)) (board.is_name name) (board.registers_name names name l) (board.board_bad_request names)
    (by_test (AsksHome P a id sent names (op ∷ name)) (is_general l.kind) (board.registers_new names name l (board.link_named name names)) (record { names = names; answer = board.BadLink })
    registers_home (plain_asked P a sent names board.BadLink refl h))
    (plain_asked P a sent names board.BadRequest refl h)
to_register P a id sent names op name _ en h = plain_asked P a sent names board.BadRequest refl h

to_look_up : (P : Pid → Place → Type 0) (a : Addresses) (id sent : MsgId) (names : List NamedLink) (op : ℕ) (name : List ℕ) (ls : List PlainLink) → NamesHome P a names → AsksHome P a id sent names (op ∷ name) (board.asks_to_look_up names name ls)
to_look_up P a id sent names op name [] h =
    by_test (AsksHome P a id sent names (op ∷ name)) (board.is_name name) (board.looks_up names name) (board.board_bad_request names) (looks_up_home P a id sent names op name (board.link_named name names) refl h) (plain_asked P a sent names board.BadRequest refl h)
to_look_up P a id sent names op name (l ∷ ls) h = plain_asked P a sent names board.BadRequest refl h

asks_home : (P : Pid → Place → Type 0) (a : Addresses) (id sent : MsgId) (names : List NamedLink) (body : List ℕ) (ls : List PlainLink) → ((n : ℕ) (w : PlainLink) → slice_get ls n ≡ Some w → P w.to (a (Enclosed id (suc n)))) → NamesHome P a names
    → AsksHome P a id sent names body (board.asks names body ls)
asks_home P a id sent names [] ls en h = plain_asked P a sent names board.BadRequest refl h
asks_home P a id sent names (op ∷ name) ls en h =
    by_test (AsksHome P a id sent names (op ∷ name)) (op == 1) (board.asks_to_register names name ls) (if op == 2 then board.asks_to_look_up names name ls else board.board_bad_request names)
    (to_register P a id sent names op name ls en h)
    (by_test (AsksHome P a id sent names (op ∷ name)) (op == 2) (board.asks_to_look_up names name ls) (board.board_bad_request names) (to_look_up P a id sent names op name ls h) (plain_asked P a sent names board.BadRequest refl h))

board_request : (P : Pid → Place → Type 0) (s : OneKernel) (v : View) (a : Addresses) (id : MsgId) (code channel : ℕ) (body : List ℕ) (links : List PlainLink) → ((n : ℕ) (w : PlainLink) → slice_get links n ≡ Some w → P w.to (a (Enclosed id n))) → P switchboard (acting_place v switchboard) → AtHome P s a
    → AtHome P (service.switchboard_took s id (board.takes_request s.switchboard body links)) (given a (board_gets s v a id (PlainWhat.User code channel body links)))
board_request P s v a id code channel body [] en at h =
    let u = at_home_out P s a id h in
    record { processes = u.processes; messages = u.messages; children = u.children; named = u.named; answers = u.answers; askers = u.askers; board = u.board; rooted = u.rooted; pending = u.pending }
board_request P s v a id code channel body (l ∷ ls) en at h =
    let sent = id_of switchboard s.switchboard.sent in
    let asked = board.asks s.switchboard.names body ls in
    let k = asks_home P a id sent s.switchboard.names body ls (λ n w e. en (suc n) w e) h.named in
    let b = given a (board_finds a sent s.switchboard.names body asked.answer ++ board_keeps a id s.switchboard.names asked.answer) in
    let to = a (Enclosed id 0) in
    let from = acting_place v switchboard in
    let t = record (without_message s id) { switchboard = (board.takes_request s.switchboard body (l ∷ ls)).switchboard } in
    record {
      processes = λ q x e. process_same P a (given b (two sent to from)) q x (let w = k.process q in record { slot = w.slot; owner = w.owner }) (h.processes q x e);
      messages = sent_home P t a (given b (two sent to from)) (board.goes_over switchboard s.switchboard.sent l (((board.answer_row asked.answer).0) ∷ []) ((board.answer_row asked.answer).1)) (at_home_out P s a id h).messages
          (λ i e. let w = k.message i e in let z = two_off b sent to from i e in record { receiver = z.receiver ∙ w.receiver; sender = z.sender ∙ w.sender; enclosed = w.enclosed })
          ((search (arith, place_as, id_eq-same)));
      children = λ n q e. place_as P (k.child n) (h.children n q e);
      named = k.named;
      answers = λ n r l e f. place_as P (k.answer n) (h.answers n r l e f);
      askers = λ q n e. place_as P (k.asked q) (h.askers q n e);
      board = place_as P k.board h.board;
      rooted = h.rooted;
      pending = h.pending;
    }

pub board_row : (P : Pid → Place → Type 0) (s t : OneKernel) (v : View) (a : Addresses) (id : MsgId) (m : PlainMessage) (w : PlainWhat) → m.what ≡ w → s.bag id ≡ Some m → P switchboard (acting_place v switchboard) → AtHome P s a
    → bind (board.board_takes s.switchboard m w) (λ (k : board.BoardTook). Some (service.switchboard_took s id k)) ≡ Some t → AtHome P t (given a (board_gets s v a id w))
board_row P s t v a id m (PlainWhat.User code channel body links) is there at h e =
    let k : service.switchboard_took s id (board.takes_request s.switchboard body links) ≡ t = cc in
    subst (λ (u : OneKernel). AtHome P u (given a (board_gets s v a id (PlainWhat.User code channel body links)))) k
    (board_request P s v a id code channel body links (λ n w f. (h.messages id m there).enclosed n w (ap (λ (x : PlainWhat). slice_get (links_in x) n) is ∙ f)) at h)
board_row P s t v a id m _ is there at h e = none_some t e
