-- The twin of a twin is a twin.
use Rattle.dm_law_one.proofs.Names.{◌≡◌, ℕ, refl, ap, ◌∙◌, sym, List, [], ◌∷◌, Option, None, Some, Pid, MsgId, PlainMessage, option_map, switchboard, manager, bind}
use Rattle.dm_law_one.proofs.Names.{Life, Alive, Ended, MoveNote, Pending, OneKernel, PlainProcess, PlainStatus, Ready, Waiting, Moving}
use Rattle.dm_law_one.proofs.Facts.{none_some}
use Rattle.dm_law_one.proofs.Steps.{bind-is}
use Rattle.dm_law_alike.specs.Alike.{Renaming, GoOn, Stands, under, status_by, TwinProcess, TwinLife, TwinNote, TwinPending, Twins, renamed_again}
use Rattle.dm_law_alike.proofs.Numbers.{some_same}

-- the name between two
pub record Between (r q : Renaming) (i k : MsgId) : Type 0 where
  pub name : MsgId
  pub first : Stands r i name
  pub second : Stands q name k

pub between : (r q : Renaming) (i k : MsgId) → Stands (renamed_again r q) i k → Between r q i k
between r q i k h =
    let (a, first, second) = bind-is (r i.from i.n) (q i.from) k.n h.n in
    record { name = record { from = i.from; n = a; answer = i.answer }; first = record { from = refl; n = first; answer = refl }; second = record { from = h.from; n = second; answer = h.answer } }

pub stand_again : (r q : Renaming) (i j k : MsgId) → Stands r i j → Stands q j k → Stands (renamed_again r q) i k
stand_again r q i j k f g = record {
  from = g.from ∙ f.from;
  n = ap (λ o. bind o (q i.from)) f.n ∙ ap (λ p. q p j.n) (sym f.from) ∙ g.n;
  answer = g.answer ∙ f.answer;
}

go_again : (f g : ℕ → Option ℕ) (a b c : ℕ) → GoOn f a b → GoOn g b c → GoOn (λ n. bind (f n) g) a c
go_again f g a b c h k n = ap (λ o. bind o g) (h n) ∙ k n

pending_again : (dir : _) (owner : Pid) (base own left : ℕ) (g : ℕ → Option ℕ) (o : Option ℕ) (v w : PlainStatus) → option_map (λ n. Moving dir owner base own left n) o ≡ Some v → status_by g v ≡ Some w
    → option_map (λ n. Moving dir owner base own left n) (bind o g) ≡ Some w
pending_again dir owner base own left g None v w e f = none_some v e
pending_again dir owner base own left g (Some n) v w e f = ap (status_by g) (some_same (Moving dir owner base own left n) v e) ∙ f

status_again : (f g : ℕ → Option ℕ) (u v w : PlainStatus) → status_by f u ≡ Some v → status_by g v ≡ Some w → status_by (λ n. bind (f n) g) u ≡ Some w
status_again f g Ready v w e h = ap (status_by g) (some_same Ready v e) ∙ h
status_again f g (Waiting mask base cap) v w e h = ap (status_by g) (some_same (Waiting mask base cap) v e) ∙ h
status_again f g (Moving dir owner base own left pending) v w e h = pending_again dir owner base own left g (f pending) v w e h

process_again : (f g : ℕ → Option ℕ) (x y z : PlainProcess) → TwinProcess f x y → TwinProcess g y z → TwinProcess (λ n. bind (f n) g) x z
process_again f g x y z h k = record {
  regs = k.regs ∙ h.regs;
  memory = k.memory ∙ h.memory;
  links = k.links ∙ h.links;
  status = status_again f g x.status y.status z.status h.status k.status;
  stopped = k.stopped ∙ h.stopped;
  sent = go_again f g x.sent y.sent z.sent h.sent k.sent;
}

life_again : (p : Pid) (f g : ℕ → Option ℕ) (a b c : Option Life) → TwinLife p f a b → TwinLife p g b c → TwinLife p (λ n. bind (f n) g) a c
life_again p f g None None None h k = λ least n. ap (λ o. bind o g) (h least n) ∙ k least n
life_again p f g (Some (Alive x)) (Some (Alive y)) (Some (Alive z)) h k = process_again f g x y z h k
life_again p f g (Some (Ended x)) (Some (Ended y)) (Some (Ended z)) h k = k ∙ h
life_again p f g None None (Some c) h k = absurd k
life_again p f g None (Some b) c h k = absurd h
life_again p f g (Some (Alive x)) None c h k = absurd h
life_again p f g (Some (Ended x)) None c h k = absurd h
life_again p f g (Some (Alive x)) (Some (Ended y)) c h k = absurd h
life_again p f g (Some (Ended x)) (Some (Alive y)) c h k = absurd h
life_again p f g (Some (Alive x)) (Some (Alive y)) None h k = absurd k
life_again p f g (Some (Alive x)) (Some (Alive y)) (Some (Ended z)) h k = absurd k
life_again p f g (Some (Ended x)) (Some (Ended y)) None h k = absurd k
life_again p f g (Some (Ended x)) (Some (Ended y)) (Some (Alive z)) h k = absurd k

note_again : (r q : Renaming) (a b c : Option MoveNote) → TwinNote r a b → TwinNote q b c → TwinNote (renamed_again r q) a c
note_again r q None None None h k = tt
note_again r q (Some x) (Some y) (Some z) h k = (stand_again r q x.id y.id z.id h.0 k.0, k.1 ∙ h.1)
note_again r q None None (Some c) h k = absurd k
note_again r q None (Some b) c h k = absurd h
note_again r q (Some a) None c h k = absurd h
note_again r q (Some a) (Some b) None h k = absurd k

list_again : (f g : ℕ → Option ℕ) (xs ys zs : List Pending) → TwinPending f xs ys → TwinPending g ys zs → TwinPending (λ n. bind (f n) g) xs zs
list_again f g [] [] [] h k = tt
list_again f g (x ∷ xs) (y ∷ ys) (z ∷ zs) h k = (ap (λ o. bind o g) h.0 ∙ k.0, k.1 ∙ h.1, k.2 ∙ h.2, list_again f g xs ys zs h.3 k.3)
list_again f g [] [] (z ∷ zs) h k = absurd k
list_again f g [] (y ∷ ys) zs h k = absurd h
list_again f g (x ∷ xs) [] zs h k = absurd h
list_again f g (x ∷ xs) (y ∷ ys) [] h k = absurd k

under_again : (j k : MsgId) (o : Option PlainMessage) → option_map (under k) (option_map (under j) o) ≡ option_map (under k) o
under_again j k None = refl
under_again j k (Some m) = refl

came_from : (k : MsgId) (o u : Option PlainMessage) (m : PlainMessage) → u ≡ option_map (under k) o → u ≡ Some m → (x : PlainMessage) × (o ≡ Some x)
came_from k (Some x) u m e f = (x, refl)
came_from k None u m e f = none_some m (sym e ∙ f)

pub twins_of_twins : (r q : Renaming) (s t u : OneKernel) → Twins r s t → Twins q t u → Twins (renamed_again r q) s u
twins_of_twins r q s t u h k = record {
  format = k.format ∙ h.format;
  machines = k.machines ∙ h.machines;
  images = k.images ∙ h.images;
  made = λ m. k.made m ∙ h.made m;
  processes = λ p. life_again p (r p) (q p) (s.processes p) (t.processes p) (u.processes p) (h.processes p) (k.processes p);
  bag = λ i l st. let w = between r q i l st in k.bag w.name l w.second ∙ ap (option_map (under l)) (h.bag i w.name w.first) ∙ under_again w.name l (s.bag i);
  known = λ i m is.
      let (j, first) = h.known i m is in
      let (l, second) = k.known j (under j m) (h.bag i j first ∙ ap (option_map (under j)) is) in
      (l, stand_again r q i j l first second);
  back = λ l m is.
      let (j, second) = k.back l m is in
      let (x, there) = came_from l (t.bag j) (u.bag l) m (k.bag j l second) is in
      let (i, first) = h.back j x there in
      (i, stand_again r q i j l first second);
  notes = λ p. note_again r q (s.notes p) (t.notes p) (u.notes p) (h.notes p) (k.notes p);
  noted = λ i l st. let w = between r q i l st in k.noted w.name l w.second ∙ h.noted i w.name w.first;
  names = k.names ∙ h.names;
  board = go_again (r switchboard) (q switchboard) s.switchboard.sent t.switchboard.sent u.switchboard.sent h.board k.board;
  children = k.children ∙ h.children;
  pending = list_again (r manager) (q manager) s.manager.pending t.manager.pending u.manager.pending h.pending k.pending;
  manager = go_again (r manager) (q manager) s.manager.sent t.manager.sent u.manager.sent h.manager k.manager;
}
