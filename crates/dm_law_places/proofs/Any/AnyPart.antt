-- Behind the parts of a group there is a kernel with places, where there was one before.
use Rattle.dm_law_places.proofs.Names.{◌≡◌, ℕ, true, List, [], ◌∷◌, refl, ap, ◌∙◌, sym, subst, is_some, ◌⊎◌, inl, inr, ⊤, Option, None, Some, MsgId, PlainMessage, Label, manager, Life, OneKernel, bind, Sound, bind-is, after_step, Line, Told}
use Rattle.dm_law_places.proofs.Names.{View, is_kernels, own_id, Again, Owns, Part, Routes, Says, Spelled, Transmits, behind, lines_of, puts, spelled, Point, after, after_line, kernel_after, label_of, moved, not_kernels, Placed, LineNeeds}
use Rattle.dm_law_places.proofs.Names.{MirrorsPoint, StepNeeds, id_of, note-is, arith, nat_tests}
use Rattle.dm_onekernel.specs.Step as kernel
use Rattle.dm_law_places.proofs.Any.AnyLine.{line_follows}
use Rattle.dm_law_places.proofs.Putting.{SamePoint, again_same, puts_same, routes_kernel, routes_mirrors}

-- what the kernel without machines keeps
pub record SoundAt (s : OneKernel) : Type 0 where
  pub r : MsgId → ℕ
  pub e : MsgId → ℕ
  pub sound : Sound r e s

sound_after : (s t : OneKernel) (o : Option Label) → kernel_after s o ≡ Some t → SoundAt s → SoundAt t
sound_after s t None is h = let f : s ≡ t = cc in subst SoundAt f h
sound_after s t (Some l) is h = let a = after_step h.r h.e s t l is h.sound in record { r = _; e = _; sound = a.sound }

-- servers were never made, and a kernel's own message isn't in the bag
never_alive : (o : Option Life) → (is_some o ≡ true → ⊥) → kernel.alive o ≡ None
never_alive o h1 = grind (arith, nat_tests)

own_apart_of : (s : OneKernel) (i : MsgId) (o : Option PlainMessage) → s.bag i ≡ o → is_kernels i ≡ true → SoundAt s → o ≡ None
own_apart_of s i o h1 h2 h3 = grind (arith, nat_tests, not_kernels)

-- what needs little beside: all labels but those of a server and of a new process; a request to move is the manager's
abbrev pub EasyLabel : Label → Type 0
EasyLabel (Label.Took id) = ⊥
EasyLabel (Label.Created id child) = ⊥
EasyLabel (Label.Asked id) = id ≡ id_of manager id.n
EasyLabel _ = ⊤

easy_label : (s : OneKernel) (v : View) (l : Label) → EasyLabel l → SoundAt s → StepNeeds s v l
easy_label s v l h1 h2 = search (arith, note-is)

abbrev pub EasyLine : Line → Type 0
EasyLine (Line.Label e) = EasyLabel e
EasyLine (Line.Put from to id k q) = ⊥
EasyLine _ = ⊤

easy_line : (pt : Point) (x : Line) → EasyLine x → SoundAt pt.kernel → LineNeeds pt x
easy_line pt x h1 h2 = search (arith, easy_label, own_apart_of, never_alive)

abbrev pub EasyPart : Part → Type 0
EasyPart (Says x) = EasyLine x
EasyPart _ = ⊤

abbrev pub EasyParts : List Part → Type 0
EasyParts [] = ⊤
EasyParts (p ∷ ps) = EasyPart p × EasyParts ps

-- the first part of a group may be another label
abbrev pub FirstNeeds : OneKernel → View → Part → Type 0
FirstNeeds s v p = EasyPart p ⊎ ((l : Label) × (Says (Line.Label l) ≡ p) × StepNeeds s v l)

abbrev pub PartsNeed : OneKernel → View → List Part → Type 0
PartsNeed s v [] = ⊤
PartsNeed s v (p ∷ ps) = FirstNeeds s v p × EasyParts ps

-- what stands behind a part
pub record Behind (pt : Point) : Type 0 where
  pub l : Placed
  pub mirrors : MirrorsPoint pt l
  pub sound : SoundAt pt.kernel

says_follow : (pt next : Point) (l : Placed) (x : Line) → LineNeeds pt x → SoundAt pt.kernel → MirrorsPoint pt l → after pt (x ∷ []) ≡ Some next → Behind next
says_follow pt next l x needs sound h is =
    let (mid, first, rest) = bind-is (after_line pt x) (λ (q : Point). after q []) next is in
    let f : mid ≡ next = cc in
    let (s, steps, last) = bind-is (kernel_after pt.kernel (label_of x)) (λ (t : OneKernel). Some (moved pt x t)) mid first in
    let g : moved pt x s ≡ mid = cc in
    let (m, on) = line_follows pt mid l x needs h first in
    subst Behind f (record { l = m; mirrors = on; sound = subst (λ (q : Point). SoundAt q.kernel) g (sound_after pt.kernel s (label_of x) steps sound) })

same_follows : (pt next : Point) (l : Placed) → SamePoint pt next → SoundAt pt.kernel → MirrorsPoint pt l → Behind next
same_follows pt next l same sound h = record { l = l; mirrors = same.mirrors l h; sound = subst SoundAt (sym same.kernel) sound }

part_follows : (pt next : Point) (l : Placed) (p : Part) (ls : List Line) → EasyPart p → SoundAt pt.kernel → MirrorsPoint pt l → lines_of pt p ≡ Some ls → after pt ls ≡ Some next → Behind next
part_follows pt next l (Says x) ls easy sound h lines is =
    let f : x ∷ [] ≡ ls = cc in says_follow pt next l x (easy_line pt x easy sound) sound h (ap (after pt) f ∙ is)
part_follows pt next l (Routes id) ls easy sound h lines is =
    record { l = l; mirrors = routes_mirrors pt next l id ls h lines is; sound = subst SoundAt (sym (routes_kernel pt next id ls lines is)) sound }
part_follows pt next l (Again id b) ls easy sound h lines is =
    let (t, told, last) = bind-is (pt.view.told id) (λ (w : Told). Some (puts pt.view b id w.kind w.receiver)) ls lines in
    same_follows pt next l (again_same pt next id b t ls told lines is) sound h
part_follows pt next l (Owns k q b) ls easy sound h lines is =
    let own = own_id pt.view in
    let x = Line.Put pt.view.acting b own k q in
    let mid = moved pt x pt.kernel in
    let f : puts pt.view b own k q ≡ ls = cc in
    let (m, on) = line_follows pt mid l x (inr (own_apart_of pt.kernel (own_id pt.view) (pt.kernel.bag (own_id pt.view)) refl refl sound)) h refl in
    same_follows mid next m (puts_same pt next b own k q (ap (after pt) f ∙ is)) sound on
part_follows pt next l (Transmits a b x) ls easy sound h lines is = search (arith, says_follow)

first_follows : (pt next : Point) (l : Placed) (p : Part) (ls : List Line) → FirstNeeds pt.kernel pt.view p → SoundAt pt.kernel → MirrorsPoint pt l → lines_of pt p ≡ Some ls → after pt ls ≡ Some next → Behind next
first_follows pt next l p ls needs sound h lines is = elim needs [
  | inl easy ↦ part_follows pt next l p ls easy sound h lines is
  | inr said ↦
      let f : Some (Line.Label said.0 ∷ []) ≡ Some ls = ap (lines_of pt) said.1 ∙ lines in
      let g : Line.Label said.0 ∷ [] ≡ ls = cc in says_follow pt next l (Line.Label said.0) said.2 sound h (ap (after pt) g ∙ is)
]

abbrev StandsBehind : Spelled → Type 0
StandsBehind w = Behind w.point

easy_follow : (ps : List Part) (pt : Point) (w : Spelled) (l : Placed) → EasyParts ps → SoundAt pt.kernel → MirrorsPoint pt l → spelled pt ps ≡ Some w → Behind w.point
easy_follow [] pt w l easy sound h is = search arith
easy_follow (p ∷ ps) pt w l easy sound h is =
    let (ls, lines, rest) = bind-is (lines_of pt p) (λ (xs : List Line). bind (after pt xs) (λ (q : Point). bind (spelled q ps) (λ (z : Spelled). Some (behind xs z)))) w is in
    let (next, comes, last) = bind-is (after pt ls) (λ (q : Point). bind (spelled q ps) (λ (z : Spelled). Some (behind ls z))) w rest in
    let (z, more, end) = bind-is (spelled next ps) (λ (y : Spelled). Some (behind ls y)) w last in
    let f : behind ls z ≡ w = cc in
    let on = part_follows pt next l p ls easy.0 sound h lines comes in
    subst StandsBehind f (easy_follow ps next z on.l easy.1 on.sound on.mirrors more)

pub parts_follow : (ps : List Part) (pt : Point) (w : Spelled) (l : Placed) → PartsNeed pt.kernel pt.view ps → SoundAt pt.kernel → MirrorsPoint pt l → spelled pt ps ≡ Some w → Behind w.point
parts_follow [] pt w l needs sound h is = easy_follow [] pt w l tt sound h is
parts_follow (p ∷ ps) pt w l needs sound h is =
    let (ls, lines, rest) = bind-is (lines_of pt p) (λ (xs : List Line). bind (after pt xs) (λ (q : Point). bind (spelled q ps) (λ (z : Spelled). Some (behind xs z)))) w is in
    let (next, comes, last) = bind-is (after pt ls) (λ (q : Point). bind (spelled q ps) (λ (z : Spelled). Some (behind ls z))) w rest in
    let (z, more, end) = bind-is (spelled next ps) (λ (y : Spelled). Some (behind ls y)) w last in
    let f : behind ls z ≡ w = cc in
    let on = first_follows pt next l p ls needs.0 sound h lines comes in
    subst StandsBehind f (easy_follow ps next z on.l needs.1 on.sound on.mirrors more)
