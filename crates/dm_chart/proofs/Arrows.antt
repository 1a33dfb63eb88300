-- Each message that is put has one arrow, and nothing else is an arrow.
use Rattle.dm_chart.proofs.Names.{◌≡◌, ℕ, zero, suc, ◌-◌, Bool, true, false, List, [], ◌∷◌, ◌++◌, map, Some, None, refl, ap, ◌∙◌, Option, flat_map, not, ◌&&◌, if◌then◌else◌, flat_map-append, append-nil, Pid, Line, Letter, Life, Role}
use Rattle.dm_chart.proofs.Names.{Spot, is_delivery, letter_of_shape, letter_of_role, letters_of, role_of, Shape, Group, columns, deliveries, fate, fate_here, first_bar, group_shapes, life_shapes, line_shapes, lost_unless, moves_shown}
use Rattle.dm_chart.proofs.Names.{own_shapes, shapes, shapes_from, wait_if, first_spot, next_spot}
use Rattle.dm_chart.specs.declared.role.Life.TheVariants as life
use Rattle.dm_chart.specs.declared.role.Role.TheVariants as role

-- the messages of the arrows among some shapes
abbrev arrows : List Shape → List Letter
arrows ss = flat_map letter_of_shape ss

-- two lists without arrows
none-both : (a b : List Shape) → arrows a ≡ [] → arrows b ≡ [] → arrows (a ++ b) ≡ []
none-both a b e f = flat_map-append letter_of_shape a b ∙ ap (λ x. x ++ arrows b) e ∙ f

none-columns : (n : ℕ) → arrows (columns n) ≡ []
unfolding columns
none-columns zero = refl
none-columns (suc n) = none-both (columns n) _ (none-columns n) refl

none-bars : (last hidden : ℕ) (all : List Line) (ps : List Pid) → arrows (map (first_bar last hidden all) ps) ≡ []
none-bars last hidden all [] = refl
none-bars last hidden all (p ∷ ps) = none-bars last hidden all ps

none-group : (b : Bool) (a s : Spot) → arrows (if b then Group s.row (s.groups - 1) s.step ∷ [] else []) ≡ []
none-group true a s = refl
none-group false a s = refl

none-fate-taken : (own : Bool) (a b row now c d n : ℕ) → arrows (fate a b row own now (role.Taken c d n)) ≡ []
none-fate-taken true a b row now c d n = refl
none-fate-taken false a b row now c d n = refl

none-fate : (a b row : ℕ) (own : Bool) (now : ℕ) (r : Role) → arrows (fate a b row own now r) ≡ []
none-fate a b row own now (role.Taken c d n) = none-fate-taken own a b row now c d n
none-fate a b row own now (role.Early c d n) = refl
none-fate a b row own now (role.Again c d n) = refl
none-fate a b row own now (role.Head e) = refl
none-fate a b row own now (role.Put x) = refl
none-fate a b row own now (role.Packet c d k n) = refl
none-fate a b row own now (role.Note l) = refl
none-fate a b row own now role.Unseen = refl

none-fate-here : (due : Bool) (a b row : ℕ) (own : Bool) (s : Spot) (r : Role) → arrows (fate_here due a b row own s r) ≡ []
none-fate-here false a b row own s r = refl
none-fate-here true a b row own s r = none-fate a b row own s.row r

none-deliveries : (a b k row : ℕ) (own due : Bool) (s : Spot) (ls : List Line) → arrows (deliveries a b k row own due s ls) ≡ []
unfolding deliveries
none-deliveries a b k row own due s [] = refl
none-deliveries a b k row own due s (l ∷ ls) =
    none-both (fate_here due a b row own (next_spot s l) (role_of l)) _ (none-fate-here due a b row own (next_spot s l) (role_of l))
    (none-deliveries a b k row own (is_delivery a b k (role_of l)) (next_spot s l) ls)

none-lost : (b : Bool) (x y row : ℕ) → arrows (lost_unless b x y row) ≡ []
none-lost true x y row = refl
none-lost false x y row = refl

none-moves : (last : ℕ) (p : Pid) (s : Spot) (o : Option Spot) → arrows (moves_shown last p s o) ≡ []
none-moves last p s None = refl
none-moves last p s (Some t) = refl

none-wait : (b : Bool) (last : ℕ) (all : List Line) (p : Pid) (s : Spot) (after : List Line) → arrows (wait_if b last all p s after) ≡ []
none-wait true last all p s after = refl
none-wait false last all p s after = refl

none-life : (last : ℕ) (all before : List Line) (way : Life) (s : Spot) (after : List Line) → arrows (life_shapes last all before way s after) ≡ []
none-life last all before life.Same s after = refl
none-life last all before (life.Made p) s after = refl
none-life last all before (life.From p) s after = none-wait _ last all p s after
none-life last all before (life.Ends p) s after = refl
none-life last all before (life.Leaves p) s after = none-moves last p s _
none-life last all before (life.Served i) s after = refl
none-life last all before (life.Waits p) s after = refl
none-life last all before (life.Wakes p) s after = refl

-- a line has the arrow of the message that it puts
of-role : (last : ℕ) (all : List Line) (own : Bool) (before : List Line) (s : Spot) (after : List Line) (r : Role) → arrows (own_shapes last all own before s after r) ≡ letter_of_role r
of-role last all own before s after (role.Head e) = refl
of-role last all own before s after (role.Put x) = refl
of-role last all own before s after (role.Packet a b k n) = none-both (deliveries a b k s.row own false s after) _ (none-deliveries a b k s.row own false s after) (none-lost _ a b s.row)
of-role last all own before s after (role.Taken a b n) = refl
of-role last all own before s after (role.Early a b n) = refl
of-role last all own before s after (role.Again a b n) = refl
of-role last all own before s after (role.Note way) = none-life last all before way s after
of-role last all own before s after role.Unseen = refl

of-line : (last : ℕ) (all before : List Line) (s : Spot) (l : Line) (after : List Line) → arrows (line_shapes last all before s l after) ≡ letter_of_role (role_of l)
of-line last all before s l after =
    let own : arrows (own_shapes last all s.own before (next_spot s l) after (role_of l)) ≡ letter_of_role (role_of l) = of-role last all s.own before (next_spot s l) after (role_of l) in
    flat_map-append letter_of_shape (group_shapes s (next_spot s l) ++ own_shapes last all s.own before (next_spot s l) after (role_of l)) _
    ∙ append-nil _
    ∙ flat_map-append letter_of_shape (group_shapes s (next_spot s l)) (own_shapes last all s.own before (next_spot s l) after (role_of l))
    ∙ ap (λ x. x ++ arrows (own_shapes last all s.own before (next_spot s l) after (role_of l))) (none-group (not s.begun && (next_spot s l).begun) s (next_spot s l))
    ∙ own

of-lines : (last : ℕ) (all before : List Line) (s : Spot) (ls : List Line) → arrows (shapes_from last all before s ls) ≡ letters_of ls
unfolding shapes_from
of-lines last all before s [] = refl
of-lines last all before s (l ∷ ls) =
    flat_map-append letter_of_shape (line_shapes last all before s l ls) (shapes_from last all (before ++ l ∷ []) (next_spot s l) ls)
    ∙ ap (λ x. x ++ arrows (shapes_from last all (before ++ l ∷ []) (next_spot s l) ls)) (of-line last all before s l ls)
    ∙ ap (λ x. letter_of_role (role_of l) ++ x) (of-lines last all (before ++ l ∷ []) (next_spot s l) ls)

pub of-shapes : (machines last hidden : ℕ) (ps : List Pid) (ls : List Line) → arrows (shapes machines last hidden ps ls) ≡ letters_of ls
of-shapes machines last hidden ps ls =
    flat_map-append letter_of_shape (columns machines ++ map (first_bar last hidden ls) ps) (shapes_from last ls [] (first_spot hidden) ls)
    ∙ ap (λ x. x ++ arrows (shapes_from last ls [] (first_spot hidden) ls)) (none-both (columns machines) (map (first_bar last hidden ls) ps) (none-columns machines) (none-bars last hidden ls ps))
    ∙ of-lines last ls [] (first_spot hidden) ls
