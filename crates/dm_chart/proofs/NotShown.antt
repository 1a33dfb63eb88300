-- Where all that a line before the first group that is shown begins is over by then, nothing is drawn of it.
use Rattle.dm_chart.proofs.Names.{◌≡◌, ℕ, ◌+◌, ◌-◌, ◌<◌, Bool, codes, true, false, List, [], ◌∷◌, ◌++◌, length, Some, None, refl, ap, sym, subst, ◌∙◌, arith, Option, flat_map-append, not, ◌&&◌, if◌then◌else◌}
use Rattle.dm_chart.proofs.Names.{Pid, Line, Frame, Letter, Life, Role, Spot, is_delivery, all_drawn, drawn_shape, role_of, Shape, Group, fate, fate_here, group_shapes, life_shapes, line_shapes, lost_unless, moves_shown, own_shapes, first_spot}
use Rattle.std.proofs.lemmas.Bool.Decides.{nat_tests}
use Rattle.std.proofs.Common.{◌≤◌, ◌⊎◌, inl, inr, ◌==◌, ◌||◌, is_some}
use Rattle.std.specs.List.{list_any}
use Rattle.dm_message.specs.declared.MsgId.{MsgId}
use Rattle.dm_chart.specs.declared.role.Life.TheVariants as life
use Rattle.dm_chart.specs.declared.role.Role.TheVariants as role
use Rattle.dm_chart.specs.declared.style.Style.{Style}
use Rattle.dm_chart.specs.Ahead.{is_end, is_restart, is_taken, is_wait_end}
use Rattle.dm_chart.specs.Behind.{kills_of, number_among, waits_behind, was_put}
use Rattle.dm_chart.specs.Drawn.{draw_arrow, draw_bar, draw_hidden_arrow, draw_lost, draw_marked, draw_moves, draw_packet, draw_waits, unless_over}
use Rattle.dm_chart.specs.Left.{delivers_it, ends_it, letter_left, life_left, restarts_it, role_left, takes_it, wakes_it}
use Rattle.dm_chart.specs.Measures.{lane_of}
use Rattle.dm_chart.specs.Styles.{style_of}
use Rattle.dm_chart.specs.Shapes.{Again, Arrow, Beside, Came, Early, Lost, Moves, bar, comes_at, letter_shapes, row_or, sending_shapes, spot_row, wait, wait_if}
use Rattle.dm_chart.specs.Spots.{hidden_after, one_less, seated}
unfoldable use Rattle.dm_chart.specs.Ahead.{first_ahead}
unfoldable use Rattle.dm_chart.specs.Shapes.{deliveries}
unfoldable use Rattle.dm_chart.specs.Spots.{next_spot}

-- a line that isn't shown has off row
record Passes (s n : Spot) : Type 0 where
  row : n.row ≡ s.row
  begun : n.begun ≡ s.begun
  less : n.hidden ≡ s.hidden - 1

passes_life : (s : Spot) (way : Life) → Passes s (seated way (one_less s))
passes_life s (life.From p) = record { row = refl; begun = refl; less = refl }
passes_life s life.Same = record { row = refl; begun = refl; less = refl }
passes_life s (life.Made p) = record { row = refl; begun = refl; less = refl }
passes_life s (life.Ends p) = record { row = refl; begun = refl; less = refl }
passes_life s (life.Leaves p) = record { row = refl; begun = refl; less = refl }
passes_life s (life.Served i) = record { row = refl; begun = refl; less = refl }
passes_life s (life.Waits p) = record { row = refl; begun = refl; less = refl }
passes_life s (life.Wakes p) = record { row = refl; begun = refl; less = refl }

passes_role : (s : Spot) (r : Role) → Passes s (hidden_after s r)
passes_role s (role.Note way) = passes_life s way
passes_role s (role.Head e) = record { row = refl; begun = refl; less = refl }
passes_role s (role.Put x) = record { row = refl; begun = refl; less = refl }
passes_role s (role.Packet a b k n) = record { row = refl; begun = refl; less = refl }
passes_role s (role.Taken a b n) = record { row = refl; begun = refl; less = refl }
passes_role s (role.Early a b n) = record { row = refl; begun = refl; less = refl }
passes_role s (role.Again a b n) = record { row = refl; begun = refl; less = refl }
passes_role s role.Unseen = record { row = refl; begun = refl; less = refl }

not_none : (n : ℕ) → 1 ≤ n → (n == 0) ≡ false
not_none n h = grind (arith, nat_tests)

passes : (s : Spot) (l : Line) → 1 ≤ s.hidden → Passes s (next_spot s l)
unfolding next_spot
passes s l h = rw (not_none s.hidden h) (passes_role s (role_of l))

-- a place before the first row
record IsOver (o : Option Spot) : Type 0 where
  spot : Spot
  is : o ≡ Some spot
  row : spot.row ≡ 0

-- where a line that isn't shown passes the test, the first that does has off row
abbrev sees : (Role → Bool) → Line → Bool
sees test l = test (role_of l)

rest_sees : (b c : Bool) → b ≡ false → (b || c) ≡ true → c ≡ true
rest_sees true c off e = absurd (cc)
rest_sees false c off e = e

over_by : (test : Role → Bool) (s : Spot) (l : Line) (ls v : List Line) (b : Bool) → test (role_of l) ≡ b → (list_any (sees test) ls ≡ true → IsOver (first_ahead test (next_spot s l) (ls ++ v))) → 1 ≤ s.hidden → list_any (sees test) (l ∷ ls) ≡ true → s.row ≡ 0
    → IsOver (first_ahead test s (l ∷ (ls ++ v)))
unfolding first_ahead
over_by test s l ls v true here go some e none =
    subst (λ (t : Bool). IsOver (if t then Some (next_spot s l) else first_ahead test (next_spot s l) (ls ++ v))) (sym here) (record { spot = next_spot s l; is = refl; row = (passes s l some).row ∙ none })
over_by test s l ls v false here go some e none =
    subst (λ (t : Bool). IsOver (if t then Some (next_spot s l) else first_ahead test (next_spot s l) (ls ++ v))) (sym here) (go (rest_sees (test (role_of l)) (list_any (sees test) ls) here e))

over : (test : Role → Bool) (s : Spot) (h v : List Line) → length h ≤ s.hidden → s.row ≡ 0 → list_any (sees test) h ≡ true → IsOver (first_ahead test s (h ++ v))
over test s [] v few none e = absurd (cc)
over test s (l ∷ ls) v few none e =
    let next = passes s l (omega arith) in
    let less = next.less in
    over_by test s l ls v (test (role_of l)) refl (λ more. over test (next_spot s l) ls v (omega (arith, less)) (next.row ∙ none) more) (omega arith) e none

-- a test that passes less
any_more : (f g : Line → Bool) (ls : List Line) → ((l : Line) → f l ≡ true → g l ≡ true) → list_any f ls ≡ true → list_any g ls ≡ true
any_more f g [] sub e = e
any_more f g (l ∷ ls) sub e = by (f l) (g l) (list_any f ls) (list_any g ls) (sub l) (any_more f g ls sub) e
  where
    by : (a b c d : Bool) → (a ≡ true → b ≡ true) → (c ≡ true → d ≡ true) → (a || c) ≡ true → (b || d) ≡ true
    by a true c d one rest e = refl
    by true false c d one rest e = absurd (let off = one refl in cc)
    by false false c d one rest e = rest e

end_more : (p : Pid) (kills : List MsgId) (r : Role) → is_end p [] r ≡ true → is_end p kills r ≡ true
end_more p kills (role.Note (life.Ends q)) e = e
end_more p kills (role.Note (life.Leaves q)) e = e
end_more p kills (role.Note way) e = absurd (cc)
end_more p kills r e = absurd (cc)

wait_more : (p : Pid) (kills : List MsgId) (r : Role) → is_wait_end p [] r ≡ true → is_wait_end p kills r ≡ true
wait_more p kills (role.Note (life.Ends q)) e = e
wait_more p kills (role.Note (life.Leaves q)) e = e
wait_more p kills (role.Note (life.Wakes q)) e = e
wait_more p kills (role.Note way) e = absurd (cc)
wait_more p kills r e = absurd (cc)

end_wakes : (p : Pid) (r : Role) → is_end p [] r ≡ true → is_wait_end p [] r ≡ true
end_wakes p (role.Note (life.Ends q)) e = e
end_wakes p (role.Note (life.Leaves q)) e = e
end_wakes p (role.Note way) e = absurd (cc)
end_wakes p r e = absurd (cc)

-- what is over isn't drawn, nor what has off lane
over_nothing : (n : ℕ) (t : List ℕ) → n ≡ 0 → unless_over n t ≡ []
over_nothing n t e = ap (λ (k : ℕ). unless_over k t) e

pub empty_nothing : (n : ℕ) (t : List ℕ) → t ≡ [] → unless_over n t ≡ []
empty_nothing n t e = ap (λ (u : List ℕ). unless_over n u) e ∙ same (n == 0) []
  where
    same : (b : Bool) (u : List ℕ) → (if b then u else u) ≡ u
    same true u = refl
    same false u = refl

pub one_nothing : (f : Frame) (x : Shape) → drawn_shape f x ≡ [] → all_drawn f (x ∷ []) ≡ []
one_nothing f x e = ap (λ (t : List ℕ). t ++ []) e

pub two_nothing : (a b : List ℕ) → a ≡ [] → b ≡ [] → a ++ b ≡ []
two_nothing a b e h = ap (λ (t : List ℕ). t ++ b) e ∙ h

no_lane : (o : Option ℕ) → is_some o ≡ false → o ≡ None
no_lane None e = refl
no_lane (Some n) e = absurd (cc)

not_left : (a b : Bool) → (a && not b) ≡ false → (a ≡ false) ⊎ (b ≡ true)
not_left false b e = inl refl
not_left true true e = inr refl
not_left true false e = absurd (cc)

abbrev IsPast : Frame → Pid → (Line → Bool) → List Line → Type 0
IsPast f p test h = (is_some (lane_of f p) ≡ false) ⊎ (list_any test h ≡ true)

row_is : (last : ℕ) (o : Option Spot) → IsOver o → row_or last o ≡ 0
row_is last o h = ap (row_or last) h.is ∙ h.row

bar_nothing : (f : Frame) (last : ℕ) (all : List Line) (p : Pid) (m : ℕ) (s : Spot) (h v : List Line) → length h ≤ s.hidden → s.row ≡ 0 → IsPast f p (ends_it p) h → drawn_shape f (bar last all p m s (h ++ v)) ≡ []
bar_nothing f last all p m s h v few none (inl e) =
    empty_nothing (row_or last (first_ahead (is_end p (kills_of p all)) s (h ++ v))) _
    (ap (draw_bar f p m s.row (row_or last (first_ahead (is_end p (kills_of p all)) s (h ++ v)))) (no_lane (lane_of f p) e))
bar_nothing f last all p m s h v few none (inr e) =
    over_nothing (row_or last (first_ahead (is_end p (kills_of p all)) s (h ++ v))) _
    (row_is last _ (over (is_end p (kills_of p all)) s h v few none (any_more (ends_it p) (sees (is_end p (kills_of p all))) h (λ l. end_more p (kills_of p all) (role_of l)) e)))

wait_nothing : (f : Frame) (last : ℕ) (all : List Line) (p : Pid) (s : Spot) (h v : List Line) → length h ≤ s.hidden → s.row ≡ 0 → IsPast f p (wakes_it p) h → drawn_shape f (wait last all p s (h ++ v)) ≡ []
wait_nothing f last all p s h v few none (inl e) =
    empty_nothing (row_or last (first_ahead (is_wait_end p (kills_of p all)) s (h ++ v))) _
    (ap (draw_waits f s.machine s.row (row_or last (first_ahead (is_wait_end p (kills_of p all)) s (h ++ v)))) (no_lane (lane_of f p) e))
wait_nothing f last all p s h v few none (inr e) =
    over_nothing (row_or last (first_ahead (is_wait_end p (kills_of p all)) s (h ++ v))) _
    (row_is last _ (over (is_wait_end p (kills_of p all)) s h v few none (any_more (wakes_it p) (sees (is_wait_end p (kills_of p all))) h (λ l. wait_more p (kills_of p all) (role_of l)) e)))

wait_if_nothing : (b : Bool) (f : Frame) (last : ℕ) (all : List Line) (p : Pid) (s : Spot) (h v : List Line) → length h ≤ s.hidden → s.row ≡ 0 → IsPast f p (wakes_it p) h → all_drawn f (wait_if b last all p s (h ++ v)) ≡ []
wait_if_nothing true f last all p s h v few none past = one_nothing f (wait last all p s (h ++ v)) (wait_nothing f last all p s h v few none past)
wait_if_nothing false f last all p s h v few none past = refl

still_past : (f : Frame) (p : Pid) (h : List Line) → IsPast f p (ends_it p) h → IsPast f p (wakes_it p) h
still_past f p h (inl e) = inl e
still_past f p h (inr e) = inr (any_more (ends_it p) (wakes_it p) h (λ l. end_wakes p (role_of l)) e)

moves_lane : (f : Frame) (last : ℕ) (p : Pid) (s : Spot) (o : Option Spot) → lane_of f p ≡ None → all_drawn f (moves_shown last p s o) ≡ []
moves_lane f last p s None e = one_nothing f (Moves p s.machine s.row s.machine last) (empty_nothing last (draw_moves f s.machine s.row s.machine last (lane_of f p)) (ap (draw_moves f s.machine s.row s.machine last) e))
moves_lane f last p s (Some t) e = one_nothing f (Moves p s.machine s.row t.machine t.row) (empty_nothing t.row (draw_moves f s.machine s.row t.machine t.row (lane_of f p)) (ap (draw_moves f s.machine s.row t.machine t.row) e))

moves_past : (f : Frame) (last : ℕ) (p : Pid) (s : Spot) (o : Option Spot) → IsOver o → all_drawn f (moves_shown last p s o) ≡ []
moves_past f last p s o h = ap (λ (x : Option Spot). all_drawn f (moves_shown last p s x)) h.is ∙ one_nothing f (Moves p s.machine s.row h.spot.machine h.spot.row) (over_nothing h.spot.row (draw_moves f s.machine s.row h.spot.machine h.spot.row (lane_of f p)) h.row)

moves_nothing : (f : Frame) (last : ℕ) (p : Pid) (s : Spot) (h v : List Line) → length h ≤ s.hidden → s.row ≡ 0 → IsPast f p (restarts_it p) h → all_drawn f (moves_shown last p s (first_ahead (is_restart p) s (h ++ v))) ≡ []
moves_nothing f last p s h v few none (inl e) = moves_lane f last p s (first_ahead (is_restart p) s (h ++ v)) (no_lane (lane_of f p) e)
moves_nothing f last p s h v few none (inr e) = moves_past f last p s (first_ahead (is_restart p) s (h ++ v)) (over (is_restart p) s h v few none e)

life_nothing : (f : Frame) (last : ℕ) (all before : List Line) (way : Life) (s : Spot) (h v : List Line) → length h ≤ s.hidden → s.row ≡ 0 → life_left f h way ≡ false → all_drawn f (life_shapes last all before way s (h ++ v)) ≡ []
life_nothing f last all before life.Same s h v few none e = refl
life_nothing f last all before (life.Made p) s h v few none e = one_nothing f (bar last all p s.machine s (h ++ v)) (bar_nothing f last all p s.machine s h v few none (not_left (is_some (lane_of f p)) (list_any (ends_it p) h) e))
life_nothing f last all before (life.From p) s h v few none e =
    let past : IsPast f p (ends_it p) h = not_left (is_some (lane_of f p)) (list_any (ends_it p) h) e in
    two_nothing (drawn_shape f (bar last all p s.machine s (h ++ v))) (all_drawn f (wait_if (waits_behind p false before) last all p s (h ++ v))) (bar_nothing f last all p s.machine s h v few none past) (wait_if_nothing (waits_behind p false before) f last all p s h v few none (still_past f p h past))
life_nothing f last all before (life.Ends p) s h v few none e = refl
life_nothing f last all before (life.Leaves p) s h v few none e = moves_nothing f last p s h v few none (not_left (is_some (lane_of f p)) (list_any (restarts_it p) h) e)
life_nothing f last all before (life.Served i) s h v few none e = refl
life_nothing f last all before (life.Waits p) s h v few none e = one_nothing f (wait last all p s (h ++ v)) (wait_nothing f last all p s h v few none (not_left (is_some (lane_of f p)) (list_any (wakes_it p) h) e))
life_nothing f last all before (life.Wakes p) s h v few none e = refl

-- a message that is put before the first row, and comes before it
arrow_nothing : (f : Frame) (y : Style) (x : Letter) (row : ℕ) (last : Option ℕ) → row ≡ 0 → last ≡ Some 0 → draw_arrow f y x row last ≡ []
arrow_nothing f y x row last e h = ap (λ (n : ℕ). draw_arrow f y x n last) e ∙ ap (draw_hidden_arrow f y x) h

comes_past : (a b : ℕ) (before : List Line) (s : Spot) (h v : List Line) (same : Bool) → (a == b) ≡ same → length h ≤ s.hidden → s.row ≡ 0 → (same ≡ true) ⊎ (list_any (takes_it a b (number_among a b before)) h ≡ true) → comes_at a b before s (h ++ v) ≡ Some 0
comes_past a b before s h v true at few none past = rw at (ap (λ (n : ℕ). Some n) none)
comes_past a b before s h v false at few none (inl e) = absurd (cc)
comes_past a b before s h v false at few none (inr e) =
    let o = over (is_taken a b (number_among a b before)) s h v few none e in
    rw at (ap spot_row o.is ∙ ap (λ (n : ℕ). Some n) o.row)

-- what is known of the number of a message
abbrev pub NumberIs : List Line → Option ℕ → Letter → Type 0
NumberIs before o x = (n : ℕ) → o ≡ Some n → n ≡ number_among x.from x.to before

not_both : (a b : Bool) → (not a && not b) ≡ false → (a ≡ true) ⊎ (b ≡ true)
not_both true b e = inl refl
not_both false true e = inr refl
not_both false false e = absurd (cc)

letter_nothing : (f : Frame) (x : Letter) (before : List Line) (s : Spot) (h v : List Line) (o : Option ℕ) → length h ≤ s.hidden → s.row ≡ 0 → NumberIs before o x → letter_left o h x ≡ false → all_drawn f (letter_shapes x before s (h ++ v)) ≡ []
letter_nothing f x before s h v None few none is e = absurd (cc)
letter_nothing f x before s h v (Some n) few none is e =
    let past = subst (λ (k : ℕ). (not (x.from == x.to) && not (list_any (takes_it x.from x.to k) h)) ≡ false) (is n refl) e in
    one_nothing f (Arrow (style_of s.step x.kind (was_put x.id before)) x s.row (comes_at x.from x.to before s (h ++ v))) (arrow_nothing f (style_of s.step x.kind (was_put x.id before)) x s.row (comes_at x.from x.to before s (h ++ v)) none (comes_past x.from x.to before s h v (x.from == x.to) refl few none (not_both (x.from == x.to) (list_any (takes_it x.from x.to (number_among x.from x.to before)) h) past)))

-- a packet that is sent before the first row, and delivered before it
fate_nothing : (f : Frame) (a b row : ℕ) (own : Bool) (now : ℕ) (r : Role) → now ≡ 0 → all_drawn f (fate a b row own now r) ≡ []
fate_nothing f a b row true now (role.Taken c d n) e = refl
fate_nothing f a b row false now (role.Taken c d n) e = one_nothing f (Came a b row now) (over_nothing now (draw_packet f a b row now) e)
fate_nothing f a b row own now (role.Early c d n) e = one_nothing f (Early a b row now) (over_nothing now (draw_marked f (codes "#early") a b row now) e)
fate_nothing f a b row own now (role.Again c d n) e = one_nothing f (Again a b row now) (over_nothing now (draw_marked f (codes "#again") a b row now) e)
fate_nothing f a b row own now (role.Head x) e = refl
fate_nothing f a b row own now (role.Put x) e = refl
fate_nothing f a b row own now (role.Packet c d k n) e = refl
fate_nothing f a b row own now (role.Note l) e = refl
fate_nothing f a b row own now role.Unseen e = refl

here_nothing : (f : Frame) (due : Bool) (a b row : ℕ) (own : Bool) (s : Spot) (r : Role) → s.row ≡ 0 → all_drawn f (fate_here due a b row own s r) ≡ []
here_nothing f true a b row own s r e = fate_nothing f a b row own s.row r e
here_nothing f false a b row own s r e = refl

pub none_first : (b c : Bool) → (b || c) ≡ false → b ≡ false
none_first true c e = e
none_first false c e = refl

pub none_rest : (b c : Bool) → (b || c) ≡ false → c ≡ false
none_rest true c e = absurd (cc)
none_rest false c e = e

shown_nothing : (a b k row : ℕ) (own due : Bool) (s : Spot) (v : List Line) → due ≡ false → list_any (delivers_it a b k) v ≡ false → deliveries a b k row own due s v ≡ []
unfolding deliveries
shown_nothing a b k row own due s [] off e = refl
shown_nothing a b k row own due s (l ∷ ls) off e =
    let rest = shown_nothing a b k row own (is_delivery a b k (role_of l)) (next_spot s l) ls (none_first (delivers_it a b k l) (list_any (delivers_it a b k) ls) e) (none_rest (delivers_it a b k l) (list_any (delivers_it a b k) ls) e) in
    ap (λ (d : Bool). fate_here d a b row own (next_spot s l) (role_of l) ++ deliveries a b k row own (is_delivery a b k (role_of l)) (next_spot s l) ls) off ∙ rest

-- whether a packet is due behind lines
abbrev pub due_behind : ℕ → ℕ → ℕ → Bool → List Line → Bool
due_behind a b k due [] = due
due_behind a b k due (l ∷ ls) = due_behind a b k (is_delivery a b k (role_of l)) ls

sent_nothing : (f : Frame) (a b k row : ℕ) (own due : Bool) (s : Spot) (h v : List Line) → length h ≤ s.hidden → s.row ≡ 0 → due_behind a b k due h ≡ false → list_any (delivers_it a b k) v ≡ false → all_drawn f (deliveries a b k row own due s (h ++ v)) ≡ []
unfolding deliveries
sent_nothing f a b k row own due s [] v few none off e = ap (all_drawn f) (shown_nothing a b k row own due s v off e)
sent_nothing f a b k row own due s (l ∷ ls) v few none off e =
    let next = passes s l (omega arith) in
    let less = next.less in
    flat_map-append (drawn_shape f) (fate_here due a b row own (next_spot s l) (role_of l)) (deliveries a b k row own (is_delivery a b k (role_of l)) (next_spot s l) (ls ++ v))
    ∙ two_nothing _ _ (here_nothing f due a b row own (next_spot s l) (role_of l) (next.row ∙ none)) (sent_nothing f a b k row own (is_delivery a b k (role_of l)) (next_spot s l) ls v (omega (arith, less)) (next.row ∙ none) off e)

lost_nothing : (f : Frame) (found : Bool) (a b row : ℕ) → row ≡ 0 → all_drawn f (lost_unless found a b row) ≡ []
lost_nothing f true a b row e = refl
lost_nothing f false a b row e = one_nothing f (Lost a b row) (over_nothing row (draw_lost f a b row) e)

sending_nothing : (f : Frame) (a b k : ℕ) (own : Bool) (s : Spot) (h v : List Line) → length h ≤ s.hidden → s.row ≡ 0 → due_behind a b k false h ≡ false → list_any (delivers_it a b k) v ≡ false → all_drawn f (sending_shapes a b k s.row own s (h ++ v)) ≡ []
sending_nothing f a b k own s h v few none off e =
    flat_map-append (drawn_shape f) (deliveries a b k s.row own false s (h ++ v)) _
    ∙ two_nothing _ _ (sent_nothing f a b k s.row own false s h v few none off e) (lost_nothing f _ a b s.row none)

-- what is known of a line: of a message its number, of a packet that the last line doesn't deliver it
abbrev pub IsKnown : List Line → List Line → List Line → Option ℕ → List Line → Role → Type 0
IsKnown before h v o due (role.Put x) = NumberIs before o x
IsKnown before h v o due (role.Packet a b k n) = list_any (delivers_it a b k) due ≡ false → (due_behind a b k false h ≡ false) × (list_any (delivers_it a b k) v ≡ false)
IsKnown before h v o due (role.Head e) = Unit {0}
IsKnown before h v o due (role.Taken a b n) = Unit {0}
IsKnown before h v o due (role.Early a b n) = Unit {0}
IsKnown before h v o due (role.Again a b n) = Unit {0}
IsKnown before h v o due (role.Note way) = Unit {0}
IsKnown before h v o due role.Unseen = Unit {0}

own_nothing : (f : Frame) (last : ℕ) (all : List Line) (own : Bool) (before : List Line) (s : Spot) (h v : List Line) (o : Option ℕ) (due : List Line) (r : Role) → length h ≤ s.hidden → s.row ≡ 0 → IsKnown before h v o due r → role_left f o h due r ≡ false → all_drawn f (own_shapes last all own before s (h ++ v) r) ≡ []
own_nothing f last all own before s h v o due (role.Put x) few none known e = letter_nothing f x before s h v o few none known e
own_nothing f last all own before s h v o due (role.Packet a b k n) few none known e = let both = known e in sending_nothing f a b k own s h v few none both.0 both.1
own_nothing f last all own before s h v o due (role.Note way) few none known e = life_nothing f last all before way s h v few none e
own_nothing f last all own before s h v o due (role.Head x) few none known e = refl
own_nothing f last all own before s h v o due (role.Taken a b n) few none known e = refl
own_nothing f last all own before s h v o due (role.Early a b n) few none known e = refl
own_nothing f last all own before s h v o due (role.Again a b n) few none known e = refl
own_nothing f last all own before s h v o due role.Unseen few none known e = refl

group_nothing : (a b : Bool) (s : Spot) → b ≡ false → (if not a && b then Group s.row (s.groups - 1) s.step ∷ [] else []) ≡ []
group_nothing true b s e = refl
group_nothing false b s e = ap (λ (t : Bool). if t then Group s.row (s.groups - 1) s.step ∷ [] else []) e

pub line_nothing : (f : Frame) (last : ℕ) (all before : List Line) (s : Spot) (l : Line) (h v : List Line) (o : Option ℕ) (due : List Line) → length h < s.hidden → s.row ≡ 0 → s.begun ≡ false → IsKnown before h v o due (role_of l) → role_left f o h due (role_of l) ≡ false → all_drawn f (line_shapes last all before s l (h ++ v)) ≡ []
line_nothing f last all before s l h v o due few none begun known e =
    let next = passes s l (omega arith) in
    let less = next.less in
    let n = next_spot s l in
    flat_map-append (drawn_shape f) (group_shapes s n ++ own_shapes last all s.own before n (h ++ v) (role_of l)) _
    ∙ two_nothing _ _
    (flat_map-append (drawn_shape f) (group_shapes s n) (own_shapes last all s.own before n (h ++ v) (role_of l))
    ∙ two_nothing _ _ (ap (all_drawn f) (group_nothing s.begun n.begun n (next.begun ∙ begun))) (own_nothing f last all s.own before n h v o due (role_of l) (omega (arith, less)) (next.row ∙ none) known e))
    (one_nothing f (Beside n.machine n.row before l) (over_nothing n.row _ (next.row ∙ none)))

-- the picture stands before the first row, behind the first i lines
pub record IsBefore (hidden i : ℕ) (s : Spot) : Type 0 where
  pub row : s.row ≡ 0
  pub begun : s.begun ≡ false
  pub more : s.hidden ≡ hidden - i

pub before_first : (hidden : ℕ) (s : Spot) → s ≡ first_spot hidden → IsBefore hidden 0 s
before_first hidden s e = record {
  row = ap (λ (t : Spot). t.row) e;
  begun = ap (λ (t : Spot). t.begun) e;
  more = let same = ap (λ (t : Spot). t.hidden) e in omega (arith, same);
}

pub before_more : (hidden i many : ℕ) (s n : Spot) (l : Line) → many ≤ hidden → n ≡ next_spot s l → (i ≤ many → IsBefore hidden i s) → i + 1 ≤ many → IsBefore hidden (i + 1) n
before_more hidden i many s n l few e h within =
    let old = h (omega arith) in
    let some = old.more in
    let next = passes s l (omega (arith, some)) in
    let less = next.less in
    record {
      row = ap (λ (t : Spot). t.row) e ∙ next.row ∙ old.row;
      begun = ap (λ (t : Spot). t.begun) e ∙ next.begun ∙ old.begun;
      more = let same = ap (λ (t : Spot). t.hidden) e in omega (arith, same, less, some);
    }
