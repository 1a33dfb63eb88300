-- The lines of a message that is put: the put, and a packet where it goes out at once.
use Rattle.dm_law_places.proofs.Names.{◌≡◌, ℕ, Bool, List, [], ◌∷◌, refl, ap, ◌∙◌, sym, if◌then◌else◌, Option, Some, Pid, MsgId, MessageKind, plain_kind, PlainMessage, bind, arith, nat_tests, id_eq-is, bind-is, Line, Load, Told, own_id}
use Rattle.dm_law_places.proofs.Names.{Receiver, Again, Routes, lines_of, puts, Point, after, moved, Placed, MirrorsPoint, Gets, given}
use Rattle.dm_law_places.proofs.Lines.{lines_keep, routed_keeps, told_keeps}
use Rattle.dm_law_places.proofs.OwnPuts.{put_own_id}

-- what the packet leaves as it is
pub record SamePoint (pt pt' : Point) : Type 0 where
  pub kernel : pt'.kernel ≡ pt.kernel
  pub addresses : pt'.addresses ≡ pt.addresses
  pub own : own_id pt'.view ≡ own_id pt.view
  pub told : (i : MsgId) → pt'.view.told i ≡ pt.view.told i
  pub mirrors : (l : Placed) → MirrorsPoint pt l → MirrorsPoint pt' l

same_point : (pt : Point) → SamePoint pt pt
same_point pt = record { kernel = refl; addresses = refl; own = refl; told = λ i. refl; mirrors = λ l h. h }

-- the packet after a put speaks of the view before it
packet_after : (pt pt' mid : Point) (a b n k : ℕ) (c d : Bool) → after mid (if c then [] else if d then Line.Packet a b k (Load.Data n) ∷ [] else []) ≡ Some pt' → SamePoint mid pt'
packet_after pt pt' mid a b n k c d h1 = search (arith, same_point, lines_keep)

pub puts_same : (pt pt' : Point) (b : ℕ) (id : MsgId) (k : MessageKind) (q : Pid) → after pt (puts pt.view b id k q) ≡ Some pt' → SamePoint (moved pt (Line.Put pt.view.acting b id k q) pt.kernel) pt'
puts_same pt pt' b id k q e = search (arith, packet_after)

-- a message of the bag
pub routes_mirrors : (pt pt' : Point) (l : Placed) (id : MsgId) (ls : List Line) → MirrorsPoint pt l → lines_of pt (Routes id) ≡ Some ls → after pt ls ≡ Some pt' → MirrorsPoint pt' l
routes_mirrors pt pt' l id ls h is next =
    let b = (pt.addresses (Receiver id)).at in
    let (m, there, last) = bind-is (pt.kernel.bag id) (λ (x : PlainMessage). Some (puts pt.view b id (plain_kind x.what) x.to)) ls is in
    let f : puts pt.view b id (plain_kind m.what) m.to ≡ ls = cc in
    let x = Line.Put pt.view.acting b id (plain_kind m.what) m.to in
    (puts_same pt pt' b id (plain_kind m.what) m.to (ap (after pt) f ∙ next)).mirrors l (lines_keep pt (moved pt x pt.kernel) l x (routed_keeps pt pt.view.acting b id m) h refl)

pub routes_kernel : (pt pt' : Point) (id : MsgId) (ls : List Line) → lines_of pt (Routes id) ≡ Some ls → after pt ls ≡ Some pt' → pt'.kernel ≡ pt.kernel
routes_kernel pt pt' id ls is next = grind (arith, nat_tests, bind-is, puts_same)

-- a message that goes on: it was told of before, so all stays
told_stays : (pt : Point) (a b : ℕ) (id : MsgId) (k : MessageKind) (q : Pid) (t : Told) (i : MsgId) → pt.view.told id ≡ Some t → (moved pt (Line.Put a b id k q) pt.kernel).view.told i ≡ pt.view.told i
told_stays pt a b id k q t i told = grind (arith, nat_tests, id_eq-is)

pub again_same : (pt pt' : Point) (id : MsgId) (b : ℕ) (t : Told) (ls : List Line) → pt.view.told id ≡ Some t → lines_of pt (Again id b) ≡ Some ls → after pt ls ≡ Some pt' → SamePoint pt pt'
again_same pt pt' id b t ls told is next =
    let a = pt.view.acting in
    let x = Line.Put a b id t.kind t.receiver in
    let mid = moved pt x pt.kernel in
    let lines : Some (puts pt.view b id t.kind t.receiver) ≡ Some ls = sym (ap (λ (o : Option Told). bind o (λ (w : Told). Some (puts pt.view b id w.kind w.receiver))) told) ∙ is in
    let f : puts pt.view b id t.kind t.receiver ≡ ls = cc in
    let keeps = told_keeps pt a b id t.kind t.receiver t told in
    let s = puts_same pt pt' b id t.kind t.receiver (ap (after pt) f ∙ next) in
    record {
      kernel = s.kernel;
      addresses = s.addresses ∙ ap (λ (g : List Gets). given pt.addresses g) keeps;
      own = s.own ∙ put_own_id pt a b id t.kind t.receiver t told;
      told = λ i. s.told i ∙ told_stays pt a b id t.kind t.receiver t i told;
      mirrors = λ l h. s.mirrors l (lines_keep pt mid l x keeps h refl);
    }
