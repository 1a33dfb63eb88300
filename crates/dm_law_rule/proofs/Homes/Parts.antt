-- The parts of a group keep all of it.
use Rattle.dm_law_rule.proofs.Names.{◌≡◌, ℕ, ◌+◌, ◌==◌, List, [], ◌∷◌, refl, ap, ◌∙◌, sym, subst, ⊤, Option, None, Some, MsgId, Label, OneKernel, bind, bind-is, Line, View, Pair, Point, after, moved, Part, Says, Routes, Again, Owns, Transmits}
use Rattle.dm_law_rule.proofs.Names.{Spelled, behind, spelled, lines_of, packet_line, not, filter, arith, after_taken}
use Rattle.dm_law_rule.specs.View as view
use Rattle.dm_law_rule.proofs.Homes.Labels.{SaidAt, RingsHome, rings_same}
use Rattle.dm_law_rule.proofs.Homes.Lines.{NoneReplaced, Home, Kept, same_lists, packet_line_home, routes_keep, label_keeps}
use Rattle.dm_law_rule.proofs.Homes.Lists.{ListsHome, taken_with, drop_first, pair_set, drop_one}

-- labels that may stand anywhere in a group of a machine: a process's, where it is at home, and what drops messages
abbrev pub SaidAnywhere : ℕ → Label → Type 0
SaidAnywhere m (Label.Ran p k) = p.home ≡ m
SaidAnywhere m (Label.Call p n c) = p.home ≡ m
SaidAnywhere m (Label.Send p id) = p.home ≡ m
SaidAnywhere m (Label.Wait p) = p.home ≡ m
SaidAnywhere m (Label.Out p w) = p.home ≡ m
SaidAnywhere m (Label.End p y) = p.home ≡ m
SaidAnywhere m (Label.Receive p id) = p.home ≡ m
SaidAnywhere m (Label.Refuse p id c) = p.home ≡ m
SaidAnywhere m (Label.Dropped id) = ⊤
SaidAnywhere m _ = ⊥

-- lines that may stand anywhere in a group
abbrev pub LineAnywhere : ℕ → Line → Type 0
LineAnywhere m (Line.Label l) = SaidAnywhere m l
LineAnywhere m (Line.Idle n) = ⊤
LineAnywhere m (Line.Packet a b k l) = ⊤
LineAnywhere m (Line.Taken a b n) = ⊤
LineAnywhere m (Line.Old a b n) = ⊤
LineAnywhere m (Line.Early a b n) = ⊤
LineAnywhere m (Line.Acked a b n) = ⊤
LineAnywhere m Line.Nothing = ⊤
LineAnywhere m (Line.Resent n c) = ⊤
LineAnywhere m (Line.NoCall p) = ⊤
LineAnywhere m _ = ⊥

abbrev pub PartAnywhere : ℕ → Part → Type 0
PartAnywhere m (Says l) = LineAnywhere m l
PartAnywhere m (Again id b) = ⊥
PartAnywhere m (Owns k q b) = ⊥
PartAnywhere m _ = ⊤

abbrev pub PartsAnywhere : ℕ → List Part → Type 0
PartsAnywhere m [] = ⊤
PartsAnywhere m (p ∷ ps) = PartAnywhere m p × PartsAnywhere m ps

-- nothing changes but the last line
still_home : (r e : MsgId → ℕ) (pt : Point) → Home r e pt → Home r e (record { kernel = pt.kernel; view = pt.view; addresses = pt.addresses })
still_home r e pt h = record { sound = h.sound; at = h.at; rings = h.rings; lists = h.lists }

pub acting_taken : (v : View) (b : ℕ) (o : Option MsgId) → (view.taken_id v b o).acting ≡ v.acting
acting_taken v b None = refl
acting_taken v b (Some id) = refl

line_keeps : NoneReplaced → (r e : MsgId → ℕ) (pt pt' : Point) (l : Line) → LineAnywhere pt.view.acting l → Home r e pt → after pt (l ∷ []) ≡ Some pt' → Kept pt.view.acting pt'
line_keeps none r e pt pt' (Line.Label l) at h is =
    label_keeps none r e pt pt' l ((let said_at : (s : OneKernel) (m : ℕ) (l : Label) → SaidAnywhere m l → SaidAt s m l = λ s m l h1. search arith in said_at) pt.kernel pt.view.acting l at) h is
line_keeps none r e pt pt' (Line.Idle n) at h is =
    let f : moved pt (Line.Idle n) pt.kernel ≡ pt' = cc in subst (Kept pt.view.acting) f (record { r = r; e = e; home = still_home r e pt h; acting = refl })
line_keeps none r e pt pt' (Line.Old a b n) at h is =
    let f : moved pt (Line.Old a b n) pt.kernel ≡ pt' = cc in subst (Kept pt.view.acting) f (record { r = r; e = e; home = still_home r e pt h; acting = refl })
line_keeps none r e pt pt' Line.Nothing at h is =
    let f : moved pt Line.Nothing pt.kernel ≡ pt' = cc in subst (Kept pt.view.acting) f (record { r = r; e = e; home = still_home r e pt h; acting = refl })
line_keeps none r e pt pt' (Line.Resent n c) at h is =
    let f : moved pt (Line.Resent n c) pt.kernel ≡ pt' = cc in subst (Kept pt.view.acting) f (record { r = r; e = e; home = still_home r e pt h; acting = refl })
line_keeps none r e pt pt' (Line.NoCall p) at h is =
    let f : moved pt (Line.NoCall p) pt.kernel ≡ pt' = cc in subst (Kept pt.view.acting) f (record { r = r; e = e; home = still_home r e pt h; acting = refl })
line_keeps none r e pt pt' (Line.Packet a b k l) at h is =
    let f : moved pt (Line.Packet a b k l) pt.kernel ≡ pt' = cc in subst (Kept pt.view.acting) f (record { r = r; e = e; home = packet_line_home r e pt a b k l h; acting = refl })
line_keeps none r e pt pt' (Line.Taken a b n) at h is =
    let taken_lists : (s : OneKernel) (e : MsgId → ℕ) (v : View) (a b n : ℕ) → ListsHome s e v → ListsHome s e (after_taken v a b n) = λ s e v a b n h.
    let p = v.pair a b in
    search (arith, taken_with, drop_first, pair_set, drop_one) in
    let p = pt.view.pair a b in
    let w = view.with_pair pt.view a b (record p { taken = p.taken + 1; kept = filter (λ k. not (k == n)) p.kept }) in
    let rings_taken : (v : View) (b : ℕ) (o : Option MsgId) → RingsHome v → RingsHome (view.taken_id v b o) =
    λ v b o h. elim o as (λ o_. RingsHome (view.taken_id v b o_)) [ None ↦ h | Some id' ↦ record { moves = h.moves; ring = h.ring; known = h.known; preds = h.preds } ] in
    subst (Kept pt.view.acting) (let f : moved pt (Line.Taken a b n) pt.kernel ≡ pt' = cc in f) (record {
      r = r;
      e = e;
      home = record { sound = h.sound; at = h.at; rings = rings_taken w b (view.oldest p) (rings_same pt.view w refl refl refl refl h.rings); lists = taken_lists pt.kernel e pt.view a b n h.lists };
      acting = acting_taken w b (view.oldest p);
    })
line_keeps none r e pt pt' (Line.Early a b n) at h is =
    let f : moved pt (Line.Early a b n) pt.kernel ≡ pt' = cc in
    let p = pt.view.pair a b in
    let q : Pair = record p { kept = n ∷ filter (λ k. not (k == n)) p.kept } in
    let w = view.with_pair pt.view a b q in
    subst (Kept pt.view.acting) f (record { r = r; e = e; home = record { sound = h.sound; at = h.at; rings = rings_same pt.view w refl refl refl refl h.rings; lists = same_lists pt.kernel e pt.view a b q refl refl h.lists }; acting = refl })
line_keeps none r e pt pt' (Line.Acked a b n) at h is =
    let f : moved pt (Line.Acked a b n) pt.kernel ≡ pt' = cc in
    let p = pt.view.pair b a in
    let q : Pair = record p { acked = view.at_least p.acked n } in
    let w = view.with_pair pt.view b a q in
    subst (Kept pt.view.acting) f (record { r = r; e = e; home = record { sound = h.sound; at = h.at; rings = rings_same pt.view w refl refl refl refl h.rings; lists = same_lists pt.kernel e pt.view b a q refl refl h.lists }; acting = refl })
line_keeps none r e pt pt' _ at h is = absurd at

pub part_keeps : NoneReplaced → (r e : MsgId → ℕ) (pt pt' : Point) (p : Part) (ls : List Line) → PartAnywhere pt.view.acting p → Home r e pt → lines_of pt p ≡ Some ls → after pt ls ≡ Some pt' → Kept pt.view.acting pt'
part_keeps none r e pt pt' (Says l) ls at h is next = let f : l ∷ [] ≡ ls = cc in line_keeps none r e pt pt' l at h (ap (after pt) f ∙ next)
part_keeps none r e pt pt' (Routes id) ls at h is next = routes_keep r e pt pt' id ls h is next
part_keeps none r e pt pt' (Transmits a b l) ls at h is next =
    let f : packet_line pt.view a b l ∷ [] ≡ ls = cc in line_keeps none r e pt pt' (packet_line pt.view a b l) tt h (ap (after pt) f ∙ next)
part_keeps none r e pt pt' _ ls at h is next = absurd at

pub parts_keep : NoneReplaced → (ps : List Part) (r e : MsgId → ℕ) (m : ℕ) (pt : Point) (w : Spelled) → pt.view.acting ≡ m → PartsAnywhere m ps → Home r e pt → spelled pt ps ≡ Some w → Kept m w.point
parts_keep none [] r e m pt w acting at h is =
    let f : (record { lines = []; point = pt }) ≡ w = cc in subst (λ (x : Spelled). Kept m x.point) f (record { r = r; e = e; home = h; acting = acting })
parts_keep none (p ∷ ps) r e m pt w acting at h is =
    let (ls, lines, rest) = bind-is (lines_of pt p) (λ (xs : List Line). bind (after pt xs) (λ (q : Point). bind (spelled q ps) (λ (z : Spelled). Some (behind xs z)))) w is in
    let (next, comes, last) = bind-is (after pt ls) (λ (q : Point). bind (spelled q ps) (λ (z : Spelled). Some (behind ls z))) w rest in
    let (z, more, end) = bind-is (spelled next ps) (λ (y : Spelled). Some (behind ls y)) w last in
    let k = part_keeps none r e pt next p ls (subst (λ (n : ℕ). PartAnywhere n p) (sym acting) at.0) h lines comes in
    subst (λ (x : Spelled). Kept m x.point) (let f : behind ls z ≡ w = cc in f) (parts_keep none ps k.r k.e m next z (k.acting ∙ acting) at.1 k.home more)
