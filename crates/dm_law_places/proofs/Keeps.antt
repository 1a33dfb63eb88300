-- What each way of changing the kernel with places keeps: a process that goes on or ends, a message that comes or goes.
use Rattle.dm_law_places.proofs.Names.{◌≡◌, Bool, false, refl, ap, ◌∙◌, sym, subst, inl, inr, if◌then◌else◌, option_map, Option, None, Some, cases_Bool, Pid, pid_eq, MsgId, Message, id_eq, PlainMessage, PlainWhat, plain_message, plain_what}
use Rattle.dm_law_places.proofs.Names.{with_what, Process, Life, OneKernel, bind, plain_process, PlainProcess, pid_eq-is, id_eq-is, bind-is, View, Addresses, SameProcess, SameMessage, SameServers, Placed, Mirrors, MirrorsKernel, MirrorsMessage}
use Rattle.dm_law_places.proofs.Names.{MirrorsPlaces, MirrorsProcess, with_message, with_process, with_sent, without_message, ℕ, Link, Place, place_of, Asker, Child, Name, Answer, AskedBy, AnswerNames, plain_note, with_note, without_note}
use Rattle.dm_law_places.proofs.Names.{manager_request, arith, ToBoard, acting_place, manager, switchboard}
use Rattle.dm_onekernel.specs.Kernel as one
use Rattle.dm_onekernel.specs.Service as service
use Rattle.dm_onekernel.specs.Step as kernel

-- what there is with places where there is something without
pub of_map : {A B : Type 0} (f : A → B) (o : Option A) (x : B) → Some x ≡ option_map f o → (y : A) × (o ≡ Some y) × (f y ≡ x)
of_map f o x h1 = search arith

pub alive_of : (s : OneKernel) (l : Placed) (p : Pid) (x : PlainProcess) → MirrorsKernel s l → kernel.alive (s.processes p) ≡ Some x → (y : Process) × (l.processes p ≡ Some y) × (plain_process y ≡ x)
alive_of s l p x h e = of_map plain_process (l.processes p) x (sym e ∙ h.processes p)

pub there_of : (s : OneKernel) (l : Placed) (i : MsgId) (k : PlainMessage) → MirrorsKernel s l → s.bag i ≡ Some k → (m : Message) × (l.bag i ≡ Some m) × (plain_message m ≡ Some k)
there_of s l i k h e = bind-is (l.bag i) plain_message k (h.bag i ∙ e)

-- the parts of a message without places
pub record Parts (m : Message) (o : Option PlainWhat) (k : PlainMessage) : Type 0 where
  pub id : m.id ≡ k.id
  pub to : m.to.pid ≡ k.to
  pub sender : m.sender.pid ≡ k.sender
  pub what : o ≡ Some k.what

parts_of : (m : Message) (o : Option PlainWhat) (k : PlainMessage) → with_what m o ≡ Some k → Parts m o k
parts_of m o k h1 = search arith

pub parts : (m : Message) (k : PlainMessage) → plain_message m ≡ Some k → Parts m (plain_what m.what) k
parts m k e = parts_of m (plain_what m.what) k e

-- without places
both_if : {A B C : Type 0} (f : A → C) (g : B → C) (b : Bool) (x u : A) (y w : B) → f x ≡ g y → f u ≡ g w → f (if b then x else u) ≡ g (if b then y else w)
both_if f g b x u y w h1 h2 = search arith

pub kernel_process : (s : OneKernel) (l : Placed) (p : Pid) (life : Life) (y : Option Process) → kernel.alive (Some life) ≡ option_map plain_process y → MirrorsKernel s l → MirrorsKernel (one.with_process s p life) (with_process l p y)
kernel_process s l p life y e h = search (arith, both_if)

pub kernel_message : (s : OneKernel) (l : Placed) (i : MsgId) (k : Option PlainMessage) (m : Option Message) → bind m plain_message ≡ k → MirrorsKernel s l → MirrorsKernel (one.with_message s i k) (with_message l i m)
kernel_message s l i k m e h = search (arith, both_if)

pub kernel_out : (s : OneKernel) (l : Placed) (i : MsgId) → MirrorsKernel s l → MirrorsKernel (service.without_message s i) (without_message l i)
kernel_out s l i h = kernel_message s l i None None refl h

pub kernel_sent : (s : OneKernel) (l : Placed) (k : PlainMessage) (m : Message) → plain_message m ≡ Some k → MirrorsKernel s l → MirrorsKernel (one.with_sent s (Some k)) (with_sent l (Some m))
kernel_sent s l k m e h = search (arith, parts, kernel_message)

-- the places
pub process_same : (v : View) (a b : Addresses) (p : Pid) (x : Process) → SameProcess a b p → MirrorsProcess v a p x → MirrorsProcess v b p x
process_same v a b p x w h = record { pid = h.pid; moves = h.moves; slots = λ k l e. w.slot k ∙ h.slots k l e; owner = λ q e. w.owner ∙ h.owner q e }

pub message_same : (a b : Addresses) (i : MsgId) (m : Message) → SameMessage a b i → MirrorsMessage a i m → MirrorsMessage b i m
message_same a b i m w h = record { id = h.id; receiver = w.receiver ∙ h.receiver; sender = w.sender ∙ h.sender; enclosed = λ k l e. w.enclosed k ∙ h.enclosed k l e }

pub answer_as : (o : Option Link) {x y : Place} → x ≡ y → AnswerNames o y → AnswerNames o x
answer_as o {x} {y} e h = subst (AnswerNames o) (sym e) h

-- a machine, after so many moves
abbrev pub place_after : ℕ → ℕ → Place
place_after m n = record { at = m; moves = n }

-- where the servers act
pub board_place : (s : OneKernel) (v : View) (a : Addresses) (l : Placed) → Mirrors s v a l → acting_place v switchboard ≡ place_after v.acting l.board.moves
board_place s v a l h = ap (place_after v.acting) (sym h.places.board_moves)

pub manager_place : (s : OneKernel) (v : View) (a : Addresses) (l : Placed) → Mirrors s v a l → acting_place v manager ≡ place_after v.acting l.manager.moves
manager_place s v a l h = ap (place_after v.acting) (sym h.places.manager_moves)

pub stays_process : (a : Addresses) (q : Pid) → SameProcess a a q
stays_process a q = record { slot = λ k. refl; owner = refl }

pub stays_message : (a : Addresses) (i : MsgId) → SameMessage a a i
stays_message a i = record { receiver = refl; sender = refl; enclosed = λ k. refl }

pub stays_servers : (a : Addresses) → SameServers a a
stays_servers a = record { child = λ n. refl; name = λ n. refl; answer = λ n. refl; asked = λ q. refl; board = refl }

-- processes once one was set
set_places : (v : View) (a b : Addresses) (l : Placed) (p : Pid) (y : Option Process) → ((q : Pid) (x : Process) → l.processes q ≡ Some x → MirrorsProcess v a q x) → ((q : Pid) → pid_eq p q ≡ false → SameProcess a b q)
    → ((x : Process) → y ≡ Some x → MirrorsProcess v b p x) → (q : Pid) (x : Process) → (with_process l p y).processes q ≡ Some x → MirrorsProcess v b q x
set_places v a b l p y h off on q x e = search (arith, pid_eq-is, process_same)

-- messages once one came
pub came_places : (a b : Addresses) (l : Placed) (m : Message) → ((i : MsgId) (x : Message) → l.bag i ≡ Some x → MirrorsMessage a i x) → ((i : MsgId) → id_eq m.id i ≡ false → SameMessage a b i) → MirrorsMessage b m.id m
    → (i : MsgId) (x : Message) → (with_sent l (Some m)).bag i ≡ Some x → MirrorsMessage b i x
came_places a b l m h off on i x e = elim (cases_Bool (id_eq m.id i)) [
  | inl same ↦
      let f : Some m ≡ Some x = sym (ap (λ (c : Bool). if c then Some m else l.bag i) same) ∙ e in
      let g : m ≡ x = cc in
      subst (λ (w : Message). MirrorsMessage b i w) g (subst (λ (j : MsgId). MirrorsMessage b j m) (id_eq-is m.id i same) on)
  | inr apart ↦ message_same a b i x (off i apart) (h i x (sym (ap (λ (c : Bool). if c then Some m else l.bag i) apart) ∙ e))
]

pub places_process : (v : View) (a b : Addresses) (l : Placed) (p : Pid) (y : Option Process) → MirrorsPlaces v a l → ((q : Pid) → pid_eq p q ≡ false → SameProcess a b q) → ((x : Process) → y ≡ Some x → MirrorsProcess v b p x)
    → ((i : MsgId) → SameMessage a b i) → SameServers a b → MirrorsPlaces v b (with_process l p y)
places_process v a b l p y h off on messages servers = search (arith, set_places, message_same, answer_as)

pub places_sent : (v : View) (a b : Addresses) (l : Placed) (m : Message) → MirrorsPlaces v a l → ((q : Pid) → SameProcess a b q) → ((i : MsgId) → id_eq m.id i ≡ false → SameMessage a b i) → MirrorsMessage b m.id m → SameServers a b
    → MirrorsPlaces v b (with_sent l (Some m))
places_sent v a b l m h processes off on servers = record {
  process = λ q x e. process_same v a b q x (processes q) (h.process q x e);
  message = came_places a b l m h.message off on;
  name = λ n k e. servers.name n ∙ h.name n k e;
  child = λ n c e. servers.child n ∙ h.child n c e;
  answer = λ n r e. answer_as r.answer (servers.answer n) (h.answer n r e);
  asker = λ p k e. servers.asked p ∙ h.asker p k e;
  board = servers.board ∙ h.board;
  board_moves = h.board_moves;
  manager_moves = h.manager_moves;
}

-- a process's and a message's
pub places_sends : (v : View) (a b : Addresses) (l : Placed) (p : Pid) (y : Option Process) (m : Message) → MirrorsPlaces v a l → ((q : Pid) → pid_eq p q ≡ false → SameProcess a b q) → ((x : Process) → y ≡ Some x → MirrorsProcess v b p x)
    → ((i : MsgId) → id_eq m.id i ≡ false → SameMessage a b i) → MirrorsMessage b m.id m → SameServers a b → MirrorsPlaces v b (with_sent (with_process l p y) (Some m))
places_sends v a b l p y m h off on messages sent servers = record {
  process = set_places v a b l p y h.process off on;
  message = came_places a b l m h.message messages sent;
  name = λ n k e. servers.name n ∙ h.name n k e;
  child = λ n c e. servers.child n ∙ h.child n c e;
  answer = λ n r e. answer_as r.answer (servers.answer n) (h.answer n r e);
  asker = λ p k e. servers.asked p ∙ h.asker p k e;
  board = servers.board ∙ h.board;
  board_moves = h.board_moves;
  manager_moves = h.manager_moves;
}

stood : (l : Placed) (id i : MsgId) (m : Message) (b : Bool) → (if b then None else l.bag i) ≡ Some m → l.bag i ≡ Some m
stood l id i m b h1 = search arith

pub places_out : (v : View) (a : Addresses) (l : Placed) (id : MsgId) → MirrorsPlaces v a l → MirrorsPlaces v a (without_message l id)
places_out v a l id h = search (h.message, stood)

pub this_process : (v : View) (a : Addresses) (p : Pid) (x : Process) → MirrorsProcess v a p x → (y : Process) → Some x ≡ Some y → MirrorsProcess v a p y
this_process v a p x h y e = let f : x ≡ y = cc in subst (MirrorsProcess v a p) f h

-- a process goes on where it was
pub places_goes : (v : View) (a : Addresses) (l : Placed) (p : Pid) (x : Process) → MirrorsPlaces v a l → MirrorsProcess v a p x → MirrorsPlaces v a (with_process l p (Some x))
places_goes v a l p x h k = places_process v a a l p (Some x) h (λ q e. stays_process a q) (this_process v a p x k) (stays_message a) (stays_servers a)

pub places_ends : (v : View) (a : Addresses) (l : Placed) (p : Pid) → MirrorsPlaces v a l → MirrorsPlaces v a (with_process l p None)
places_ends v a l p h = places_process v a a l p None h (λ q e. stays_process a q) (λ x e. absurd (let f : None ≡ Some x = e in cc)) (stays_message a) (stays_servers a)

-- a process goes on, without places too
pub goes_mirrors : (s : OneKernel) (v : View) (a : Addresses) (l : Placed) (p : Pid) (x : Process) → Mirrors s v a l → MirrorsProcess v a p x → Mirrors (kernel.goes_on s p (plain_process x)) v a (with_process l p (Some x))
goes_mirrors s v a l p x h k = record { plain = kernel_process s l p (one.Alive (plain_process x)) (Some x) refl h.plain; places = places_goes v a l p x h.places k }

pub ends_mirrors : (s : OneKernel) (v : View) (a : Addresses) (l : Placed) (p : Pid) (y : _) → Mirrors s v a l → Mirrors (one.with_process s p (one.Ended y)) v a (with_process l p None)
ends_mirrors s v a l p y h = record { plain = kernel_process s l p (one.Ended y) None refl h.plain; places = places_ends v a l p h.places }

-- somebody waits to hear how a process's move ends, or nobody does any more
pub noted_mirrors : (s : OneKernel) (v : View) (a b : Addresses) (l : Placed) (p : Pid) (k : Asker) → ((q : Pid) → SameProcess a b q) → ((i : MsgId) → SameMessage a b i) → ((n : ℕ) → b (Child n) ≡ a (Child n))
    → ((n : ℕ) → b (Name n) ≡ a (Name n)) → ((n : ℕ) → b (Answer n) ≡ a (Answer n)) → b ToBoard ≡ a ToBoard
    → ((q : Pid) → pid_eq p q ≡ false → b (AskedBy q) ≡ a (AskedBy q)) → b (AskedBy p) ≡ place_of k.addr → Mirrors s v a l → Mirrors (one.with_note s p (plain_note k)) v b (with_note l p (manager_request k) k)
noted_mirrors s v a b l p k processes messages child name answer board off on h =
    let g = h.places in
    record {
      plain = (search (arith, both_if));
      places = record {
        process = λ q x e. process_same v a b q x (processes q) (g.process q x e);
        message = λ i m e. message_same a b i m (messages i) (g.message i m e);
        name = λ n w e. name n ∙ g.name n w e;
        child = λ n c e. child n ∙ g.child n c e;
        answer = λ n r e. answer_as r.answer (answer n) (g.answer n r e);
        asker = λ q o e. (search (arith, pid_eq-is));
        board = board ∙ g.board;
        board_moves = g.board_moves;
        manager_moves = g.manager_moves;
      };
    }

still_noted : (l : Placed) (p q : Pid) (id : MsgId) (k : Asker) → (without_note l p id).notes q ≡ Some k → l.notes q ≡ Some k
still_noted l p q id k e = search arith

pub unnoted_mirrors : (s : OneKernel) (v : View) (a : Addresses) (l : Placed) (p : Pid) (id : MsgId) → Mirrors s v a l → Mirrors (one.without_note s p id) v a (without_note l p id)
unnoted_mirrors s v a l p id h = search (arith, both_if, still_noted)

pub out_mirrors : (s : OneKernel) (v : View) (a : Addresses) (l : Placed) (i : MsgId) → Mirrors s v a l → Mirrors (service.without_message s i) v a (without_message l i)
out_mirrors s v a l i h = record { plain = kernel_out s l i h.plain; places = places_out v a l i h.places }
