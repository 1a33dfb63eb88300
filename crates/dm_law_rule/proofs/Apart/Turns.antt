-- A kernel's own message, a turn, and the other directives: the labels of a group are other processes'.
use Rattle.dm_law_rule.proofs.Names.{◌≡◌, ◌≢◌, ℕ, ◌+◌, List, [], ◌∷◌, refl, ap, ◌∙◌, sym, Option, None, Some, Pid, pid_of, MsgId, PlainMessage, Boot, first_number, OneKernel, Line, Here, Point, label_of, Part, Says, Transmits, migrates}
use Rattle.dm_law_rule.proofs.Apart.Steps.{Avoids}
use Rattle.dm_law_rule.proofs.Names.{arith, calls_off}
use Rattle.dm_law_rule.specs.Rule as rule
use Rattle.dm_law_rule.proofs.Groups.{IsNet}
use Rattle.dm_law_rule.proofs.Apart.Rows.{AllApart, ApartOf, apart_first, ForOther, round_apart, handles_apart}
use Rattle.dm_law_rule.proofs.Requests.{by_migrates}
use Rattle.dm_law_rule.proofs.Hearing.{Kept, IsHeardLine, hears_kept, calls_off_kept}
use Rattle.dm_law_rule.proofs.Apart.Rows.{apart_of}

-- a kernel's own message is handled: no label, but that a request to move is answered
apart_line : (y : Pid) (l : Line) → IsHeardLine l → (z : OneKernel) → Avoids z y (label_of l)
apart_line y (Line.Label l) h z = absurd h
apart_line y _ h z = tt

apart_kept : (y : Pid) → Kept (AllApart y)
apart_kept y = search (arith, apart_line)

-- a turn
other_is : (z : OneKernel) (y : Pid) (id : MsgId) (msg : PlainMessage) → z.bag id ≡ Some msg → msg.to ≢ y → ForOther z y id
other_is z y id msg there off n is e = off (let f : Some msg ≡ Some n = sym there ∙ is in let g : msg ≡ n = cc in ap (λ (x : PlainMessage). x.to) g ∙ e)

comes_apart : (y : Pid) (b : Boot) (o : Point) (m : ℕ) (id : MsgId) (q : Option PlainMessage) → o.kernel.bag id ≡ q → pid_of m (first_number + o.kernel.made m) ≢ y → ((p : Pid) → o.view.known m p ≡ Here → p ≢ y) → ApartOf o.kernel y (rule.comes_to b o m id q)
comes_apart y b o m id None there child off = apart_of o.kernel y (rule.hears b o m id (o.view.told id)) (λ ps e. apart_first o.kernel y ps (hears_kept (AllApart y) (apart_kept y) b o m id (o.view.told id) ps e))
comes_apart y b o m id (Some msg) there child off = handles_apart o.kernel y b o m id msg child (λ here. other_is o.kernel y id msg there (off msg.to here))

pub turns_apart : (y : Pid) (b : Boot) (o : Point) (m : ℕ) (inbox : List MsgId) → pid_of m (first_number + o.kernel.made m) ≢ y → ((p : Pid) → o.view.known m p ≡ Here → p ≢ y)
    → ((p : Pid) → rule.first_runnable o.kernel (o.view.queue m) (o.view.ring m) ≡ Some p → o.view.known m p ≡ Here) → ApartOf o.kernel y (rule.turns b o m inbox)
turns_apart y b o m [] child off served = round_apart o.kernel y b o m (rule.first_runnable o.kernel (o.view.queue m) (o.view.ring m)) (λ p is. off p (served p is))
turns_apart y b o m (i ∷ is) child off served = comes_apart y b o m i (o.kernel.bag i) refl child off

-- the other directives
pub net_apart : (y : Pid) (ps : List Part) → IsNet ps → AllApart y ps
net_apart y [] h = tt
net_apart y (Says l ∷ ps) h = (λ z. (let e_ : Avoids z y (label_of l) = search (arith, h.0) in e_), net_apart y ps h.1)
net_apart y (Transmits a b l ∷ ps) h = (λ z. tt, net_apart y ps h.1)
net_apart y _ h = absurd h.0

pub migrates_apart : (y : Pid) (o : Point) (p : Pid) → AllApart y (migrates o p)
migrates_apart y o p = by_migrates (AllApart y) o p (λ s. tt, tt) (λ s. tt, tt) (λ n off is. (λ s. tt, tt))

pub calls_off_apart : (y : Pid) (o : Point) (m : ℕ) (p : Pid) → AllApart y (calls_off o m p (o.view.known m p))
calls_off_apart y o m p = calls_off_kept (AllApart y) (apart_kept y) o m p
