-- What a message that changes its places keeps, and one whose addresses nobody reads.
use Rattle.dm_law_places.proofs.Names.{◌≡◌, ℕ, Bool, false, [], ◌∷◌, refl, ap, ◌∙◌, sym, subst, inl, inr, if◌then◌else◌, option_map, Option, None, Some, cases_Bool, Pid, Place, MsgId, Message, id_eq, plain_message, plain_what, arith, nat_tests}
use Rattle.dm_law_places.proofs.Names.{with_what, sent_on, OneKernel, bind, id_eq-is, id_eq-same, View, Addresses, Receiver, gets, given, SameMessage, SameProcess, SameServers, two, two_off, two_process, Placed, Mirrors, MirrorsKernel}
use Rattle.dm_law_places.proofs.Names.{MirrorsMessage, MirrorsPlaces, with_message}
use Rattle.dm_law_places.proofs.Keeps.{message_same, process_same}
use Rattle.dm_law_places.proofs.Keeps.{answer_as}

-- a message that means the same
bag_again : (s : OneKernel) (l : Placed) (id : MsgId) (m : Option Message) (i : MsgId) → bind m plain_message ≡ s.bag id → MirrorsKernel s l → bind ((with_message l id m).bag i) plain_message ≡ s.bag i
bag_again s l id m i e h = grind (arith, nat_tests, id_eq-is)

pub kernel_again : (s : OneKernel) (l : Placed) (id : MsgId) (m : Option Message) → bind m plain_message ≡ s.bag id → MirrorsKernel s l → MirrorsKernel s (with_message l id m)
kernel_again s l id m e h = search bag_again

-- the other messages keep their addresses
again_places : (a b : Addresses) (l : Placed) (id : MsgId) (m : Option Message) → ((i : MsgId) (x : Message) → l.bag i ≡ Some x → MirrorsMessage a i x) → ((i : MsgId) (x : Message) → l.bag i ≡ Some x → id_eq id i ≡ false → SameMessage a b i)
    → ((x : Message) → m ≡ Some x → MirrorsMessage b id x) → (i : MsgId) (x : Message) → (with_message l id m).bag i ≡ Some x → MirrorsMessage b i x
again_places a b l id m h off on i x e = elim (cases_Bool (id_eq id i)) [
  | inl same ↦ subst (λ (j : MsgId). MirrorsMessage b j x) (id_eq-is id i same) (on x (sym (ap (λ (c : Bool). if c then m else l.bag i) same) ∙ e))
  | inr apart ↦
      let f : l.bag i ≡ Some x = sym (ap (λ (c : Bool). if c then m else l.bag i) apart) ∙ e in
      message_same a b i x (off i x f apart) (h i x f)
]

pub places_message : (v : View) (a b : Addresses) (l : Placed) (id : MsgId) (m : Option Message) → MirrorsPlaces v a l → ((q : Pid) → SameProcess a b q) → ((i : MsgId) (x : Message) → l.bag i ≡ Some x → id_eq id i ≡ false → SameMessage a b i)
    → ((x : Message) → m ≡ Some x → MirrorsMessage b id x) → SameServers a b → MirrorsPlaces v b (with_message l id m)
places_message v a b l id m h processes off on servers = record {
  process = λ q x e. process_same v a b q x (processes q) (h.process q x e);
  message = again_places a b l id m h.message off on;
  name = λ n k e. servers.name n ∙ h.name n k e;
  child = λ n c e. servers.child n ∙ h.child n c e;
  answer = λ n r e. answer_as r.answer (servers.answer n) (h.answer n r e);
  asker = λ p k e. servers.asked p ∙ h.asker p k e;
  board = servers.board ∙ h.board;
  board_moves = h.board_moves;
  manager_moves = h.manager_moves;
}

pub this_message : (a : Addresses) (i : MsgId) (m : Message) → MirrorsMessage a i m → (x : Message) → Some m ≡ Some x → MirrorsMessage a i x
this_message a i m h x e = let f : m ≡ x = cc in subst (MirrorsMessage a i) f h

pub plain_sent_on : (at moves : ℕ) (x : Message) → plain_message (sent_on at moves x) ≡ plain_message x
plain_sent_on at moves x = elim (plain_what x.what) as (λ o. with_what (sent_on at moves x) o ≡ with_what x o) [ None ↦ refl | Some w ↦ refl ]

-- its receiver's address follows
pub sent_on_one : (s : OneKernel) (v : View) (a : Addresses) (l : Placed) (id : MsgId) (x : Message) (at moves : ℕ) → l.bag id ≡ Some x → Mirrors s v a l
    → Mirrors s v (given a (gets (Receiver id) (record { at = at; moves = moves }) ∷ [])) (with_message l id (Some (sent_on at moves x)))
sent_on_one s v a l id x at moves there h =
    let place : Place = record { at = at; moves = moves } in
    let b = given a (gets (Receiver id) place ∷ []) in
    let hm = h.places.message id x there in
    let on : MirrorsMessage b id (sent_on at moves x) = search (ap (λ (c : Bool). if c then place else a (Receiver id)) (id_eq-same id)) in
    record {
      plain = kernel_again s l id (Some (sent_on at moves x)) (plain_sent_on at moves x ∙ sym (ap (λ (o : Option Message). bind o plain_message) there) ∙ h.plain.bag id) h.plain;
      places = places_message v a b l id (Some (sent_on at moves x)) h.places (λ q. record { slot = λ k. refl; owner = refl })
          (λ i y f apart. record { receiver = ap (λ (c : Bool). if c then place else a (Receiver i)) apart; sender = refl; enclosed = λ k. refl })
          (this_message b id (sent_on at moves x) on) (record { child = λ n. refl; name = λ n. refl; answer = λ n. refl; asked = λ q. refl; board = refl });
    }

-- the same where there may be no message
pub sent_on_any : (s : OneKernel) (v : View) (a : Addresses) (l : Placed) (id : MsgId) (o : Option Message) (place : Place) → l.bag id ≡ o → Mirrors s v a l
    → Mirrors s v (given a (gets (Receiver id) place ∷ [])) (with_message l id (option_map (sent_on place.at place.moves) o))
sent_on_any s v a l id (Some x) place there h = sent_on_one s v a l id x place.at place.moves there h
sent_on_any s v a l id None place none h =
    let b = given a (gets (Receiver id) place ∷ []) in
    record {
      plain = kernel_again s l id None (sym (ap (λ (o : Option Message). bind o plain_message) none) ∙ h.plain.bag id) h.plain;
      places = places_message v a b l id None h.places (λ q. record { slot = λ k. refl; owner = refl })
          (λ i y f apart. record { receiver = ap (λ (c : Bool). if c then place else a (Receiver i)) apart; sender = refl; enclosed = λ k. refl })
          (λ x e. absurd (let z : None ≡ Some x = e in cc)) (record { child = λ n. refl; name = λ n. refl; answer = λ n. refl; asked = λ q. refl; board = refl });
    }

-- the addresses of a message that isn't there
pub free_off : (l : Placed) (i j : MsgId) (m : Message) → l.bag i ≡ None → l.bag j ≡ Some m → id_eq i j ≡ false
free_off l i j m none there = grind (arith, nat_tests, id_eq-is)

pub free_mirrors : (s : OneKernel) (v : View) (a : Addresses) (l : Placed) (i : MsgId) (to from : Place) → l.bag i ≡ None → Mirrors s v a l → Mirrors s v (given a (two i to from)) l
free_mirrors s v a l i to from none h =
    let g = h.places in
    record {
      plain = h.plain;
      places = record {
        process = λ q x e. process_same v a (given a (two i to from)) q x (two_process a i to from q) (g.process q x e);
        message = λ j m e. message_same a (given a (two i to from)) j m (two_off a i to from j (free_off l i j m none e)) (g.message j m e);
        name = g.name;
        child = g.child;
        answer = g.answer;
        asker = g.asker;
        board = g.board;
        board_moves = g.board_moves;
        manager_moves = g.manager_moves;
      };
    }
