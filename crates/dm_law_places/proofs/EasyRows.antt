-- Rows of the rule whose parts need nothing beside, so that a kernel with places goes along.
use Rattle.dm_law_places.proofs.Names.{◌≡◌, ℕ, zero, suc, ◌-◌, ◌==◌, Bool, List, [], ◌∷◌, ◌++◌, ⊤, if◌then◌else◌, Option, None, Some, Pid, MsgId, Line, PlainMessage, PlainWhat, Boot, manager, OneKernel, bind, PlainProcess, PlainStatus, Load}
use Rattle.dm_law_places.proofs.Names.{Known, Pair, SentLoad, Told, View, Part, Point, by_migrates, IsHeardLine, hears_kept, id_of, arith, Kept, calls_off_kept, plain_kind, MessageKind, buries, ends_with, map, preds_of, to_kernel}
use Rattle.dm_onekernel.specs.Pieces as pieces
use Rattle.dm_onekernel.specs.Receiving as receiving
use Rattle.dm_onekernel.specs.Step as kernel
use Rattle.dm_law_rule.specs.Migrating as migrating
use Rattle.dm_law_rule.specs.Rule as rule
use Rattle.dm_law_places.proofs.Any.AnyPart.{EasyLine, EasyParts}

-- parts that need nothing beside
abbrev pub Easy : Option (List Part) → Type 0
Easy None = ⊤
Easy (Some ps) = EasyParts ps

easy_append : (ps qs : List Part) → EasyParts ps → EasyParts qs → EasyParts (ps ++ qs)
easy_append [] qs h k = k
easy_append (p ∷ ps) qs h k = (h.0, easy_append ps qs h.1 k)

if_parts : (c : Bool) (ps qs : List Part) → EasyParts ps → EasyParts qs → EasyParts (if c then ps else qs)
if_parts c ps qs h1 h2 = search arith

drops_easy : (ids : List MsgId) → EasyParts (rule.drop_parts ids)
drops_easy [] = tt
drops_easy (i ∷ is) = (tt, drops_easy is)

pub routes_easy : (o : Option PlainMessage) → EasyParts (rule.routes o)
routes_easy o = search arith

buries_easy : (ms : List ℕ) → EasyParts (map (to_kernel MessageKind.Bury) ms)
buries_easy [] = tt
buries_easy (m ∷ ms) = (tt, buries_easy ms)

-- what follows an end
ends_easy : (pt : Point) (m : ℕ) (p : Pid) → EasyParts (ends_with pt m p)
ends_easy pt m p = easy_append (rule.drop_parts (pt.view.queue m p)) (buries pt m p) (drops_easy (pt.view.queue m p)) (buries_easy (preds_of pt m p))

stops_easy : (p : Pid) (over : List Part) (o : Option kernel.Trap) → EasyParts over → EasyParts (rule.stops p over o)
stops_easy p over o h = search arith

completes_easy : (p : Pid) (id : MsgId) (o : Option receiving.Completed) → Easy (bind o (λ (c : receiving.Completed). Some (rule.completion_parts p id c)))
completes_easy p id o = search arith

received_easy : (p : Pid) (x : PlainProcess) (id : MsgId) (o : Option PlainMessage) → Easy (bind o (λ (k : PlainMessage). bind (receiving.completes_with p x k) (λ (c : receiving.Completed). Some (rule.completion_parts p id c))))
received_easy p x id o = search (arith, completes_easy)

status_easy : (s : OneKernel) (quantum : ℕ) (p : Pid) (queue : List MsgId) (over : List Part) (x : PlainProcess) (st : PlainStatus) → EasyParts over → Easy (rule.serves_status quantum s p queue over x st)
status_easy s quantum p queue over x st h = search (arith, if_parts, stops_easy, received_easy)

alive_easy : (s : OneKernel) (quantum : ℕ) (p : Pid) (queue : List MsgId) (over : List Part) (o : Option PlainProcess) → EasyParts over → Easy (bind o (λ (x : PlainProcess). rule.serves_status quantum s p queue over x x.status))
alive_easy s quantum p queue over o h = search (arith, status_easy)

pub round_easy : (b : Boot) (pt : Point) (m : ℕ) (o : Option Pid) → Easy (rule.goes_round b pt m o)
round_easy b pt m None = (tt, tt)
round_easy b pt m (Some p) = alive_easy pt.kernel b.quantum p (pt.view.queue m p) (ends_with pt m p) (kernel.alive (pt.kernel.processes p)) (ends_easy pt m p)

-- a message for a process
lands_easy : (id : MsgId) (o : Option pieces.Landed) → Easy (rule.landing_parts id o)
lands_easy id o = search arith

-- a request to move is the manager's
abbrev pub AsksEasily : MsgId → PlainWhat → Type 0
AsksEasily id w = (machine : ℕ) → w ≡ PlainWhat.Move machine → id ≡ id_of manager id.n

here_easy : (pt : Point) (m : ℕ) (id : MsgId) (k : PlainMessage) (x : PlainProcess) (w : PlainWhat) → AsksEasily id w → Easy (rule.here_handles pt m id k x w)
here_easy pt m id k x w h1 = search (arith, ends_easy, lands_easy, if_parts)

ended_easy : (id : MsgId) (w : PlainWhat) → Easy (rule.ended_handles id w)
ended_easy id w = search arith

pub own_easy : (pt : Point) (m : ℕ) (id : MsgId) (k : PlainMessage) (o : Option PlainProcess) → AsksEasily id k.what → Easy (bind o (λ (x : PlainProcess). rule.here_handles pt m id k x k.what))
own_easy pt m id k o h1 = search (arith, here_easy)

-- a message whose receiver isn't here
pub away_easy : (pt : Point) (id : MsgId) (k : PlainMessage) (here : Option (List Part)) (w : Known) → Easy here → Easy (migrating.by_known pt id (plain_kind k.what) k.sender here (rule.ended_handles id k.what) w)
away_easy pt id k here w h1 = search (arith, if_parts, ended_easy)

-- a kernel's own message
told_easy : (l : Line) → IsHeardLine l → EasyLine l
told_easy l h1 = search arith

easy_of : (o : Option (List Part)) → ((ps : List Part) → o ≡ Some ps → EasyParts ps) → Easy o
easy_of o h1 = search arith

told_kept : Kept EasyParts
told_kept = record { none = tt; says = λ l ps h k. (told_easy l h, k); again = λ i to ps k. (tt, k); owns = λ k q to ps h. (tt, h); answers = λ i r. (tt, (tt, tt)) }

pub hears_easy : (b : Boot) (pt : Point) (m : ℕ) (id : MsgId) (o : Option Told) → Easy (rule.hears b pt m id o)
hears_easy b pt m id o =
    easy_of (rule.hears b pt m id o) (λ ps. hears_kept EasyParts told_kept b pt m id o ps)

-- the other directives
repeats_easy : (a b : ℕ) (ns : List ℕ) → EasyParts (rule.repeats a b ns)
repeats_easy a b [] = tt
repeats_easy a b (n ∷ ns) = (tt, repeats_easy a b ns)

pub resends_easy : (n : ℕ) (v : View) (b : ℕ) → EasyParts (rule.resends v n b)
resends_easy n v zero = tt
resends_easy n v (suc b) =
    let ns = rule.numbers_from (v.pair n b).acked ((v.pair n b).gone - (v.pair n b).acked) in
    easy_append (rule.resends v n b) (if n == b then [] else rule.repeats n b ns) (resends_easy n v b) (if_parts (n == b) [] (rule.repeats n b ns) tt (repeats_easy n b ns))

takes_easy : (a b : ℕ) (ns : List ℕ) → EasyParts (rule.taking_parts a b ns)
takes_easy a b [] = tt
takes_easy a b (n ∷ ns) = (tt, takes_easy a b ns)

load_easy : (a b : ℕ) (p q : Pair) (l : Load) → EasyParts (rule.comes a b p q l)
load_easy a b p q l = search (arith, if_parts, easy_append, takes_easy, repeats_easy)

pub arrives_easy : (a b : ℕ) (p q : Pair) (o : Option SentLoad) → EasyParts (rule.arrives a b p q o)
arrives_easy a b p q o = search (arith, load_easy)

pub migrates_easy : (pt : Point) (p : Pid) → EasyParts (migrating.migrates pt p)
migrates_easy pt p = by_migrates EasyParts pt p (tt, tt) (tt, tt) (λ n off is. (tt, tt))

pub calls_off_easy : (pt : Point) (m : ℕ) (p : Pid) → EasyParts (migrating.calls_off pt m p (pt.view.known m p))
calls_off_easy pt m p = calls_off_kept EasyParts told_kept pt m p
