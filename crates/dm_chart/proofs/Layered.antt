-- What isn't drawn in a layer.
use Rattle.dm_chart.proofs.Names.{◌≡◌, ℕ, Bool, true, false, List, [], ◌∷◌, ◌++◌, Some, None, Option, ap, codes, refl, sym, ◌∙◌, append-nil, flat_map-append, if◌then◌else◌}
use Rattle.dm_chart.proofs.Names.{Pid, Line, Frame, Letter, Role, Spot, all_drawn, drawn_shape, fate, fate_here, is_delivery, lost_unless, moves_shown, role_of, first_ahead}
use Rattle.std.proofs.Common.{◌==◌, is_some}
use Rattle.dm_chart.specs.declared.frame.Layer.{Layer}
use Rattle.dm_chart.specs.declared.frame.Layer.TheVariants as layer
use Rattle.dm_chart.specs.declared.role.Role.TheVariants as role
use Rattle.dm_chart.specs.declared.style.Style.{Style}
use Rattle.dm_chart.specs.Drawn.{by_layer, draw_arrow, draw_bar, draw_hidden_arrow, draw_lost, draw_marked, draw_moves, draw_packet, draw_shown_arrow, draw_waits, draw_way, letter_words}
unfoldable use Rattle.dm_chart.specs.Drawn.{draw_beside}
use Rattle.dm_chart.specs.Layers.{bar_in, bar_shows, end_seen, end_shows, letter_shows, move_in, move_shows, packet_shows, wait_in, wait_shows}
use Rattle.dm_chart.specs.Measures.{lane_of}
use Rattle.dm_chart.specs.Styles.{label_class}
unfoldable use Rattle.dm_chart.specs.Shapes.{deliveries}
use Rattle.dm_chart.specs.Shapes.{Again, Arrow, Bar, Came, Early, Lost, Moves, Waits, comes_at, sending_shapes}
unfoldable use Rattle.dm_chart.specs.Spots.{next_spot}
use Rattle.dm_chart.proofs.NotShown.{empty_nothing, one_nothing, two_nothing}

-- what is nothing may stand behind anything
pub adds_nothing : (done t : List ℕ) → t ≡ [] → done ≡ done ++ t
adds_nothing done t e = sym (ap (λ (u : List ℕ). done ++ u) e ∙ append-nil done)

-- one of two
either_nothing : (b : Bool) (t u : List ℕ) → t ≡ [] → u ≡ [] → (if b then t else u) ≡ []
either_nothing true t u e h = e
either_nothing false t u e h = h

-- a message
letter_way : (a : Layer) (w : List ℕ) → letter_shows a ≡ false → by_layer a [] w [] ≡ []
letter_way layer.Grounds w e = refl
letter_way layer.Ways w e = absurd (cc)
letter_way layer.Words w e = refl

letter_beside : (f : Frame) (m row : ℕ) (class : List ℕ) (words : List (List ℕ)) → letter_shows f.layer ≡ false → draw_beside f m row class words ≡ []
unfolding draw_beside
letter_beside f m row class words e = by f.layer _ e
  where
    by : (a : Layer) (x : List ℕ) → letter_shows a ≡ false → by_layer a [] [] x ≡ []
    by layer.Grounds x e = refl
    by layer.Ways x e = refl
    by layer.Words x e = absurd (cc)

shown_nothing : (f : Frame) (y : Style) (x : Letter) (row : ℕ) (last : Option ℕ) → letter_shows f.layer ≡ false → draw_shown_arrow f y x row last ≡ []
shown_nothing f y x row last e =
    two_nothing (by_layer f.layer [] (draw_way f y x.from x.to row last) []) (draw_beside f x.from row (label_class y) (letter_words x)) (letter_way f.layer (draw_way f y x.from x.to row last) e) (letter_beside f x.from row (label_class y) (letter_words x) e)

hidden_nothing : (f : Frame) (y : Style) (x : Letter) (last : Option ℕ) → letter_shows f.layer ≡ false → draw_hidden_arrow f y x last ≡ []
hidden_nothing f y x None e = refl
hidden_nothing f y x (Some last) e =
    either_nothing (last == 0) [] _ refl
    (two_nothing (by_layer f.layer [] (draw_way f y x.from x.to 0 (Some last)) []) (draw_beside f x.to last (label_class y) (letter_words x)) (letter_way f.layer (draw_way f y x.from x.to 0 (Some last)) e) (letter_beside f x.to last (label_class y) (letter_words x) e))

pub letter_hidden : (f : Frame) (done : List ℕ) (y : Style) (x : Letter) (row : ℕ) (last : Option ℕ) → letter_shows f.layer ≡ false → done ≡ done ++ all_drawn f (Arrow y x row last ∷ [])
letter_hidden f done y x row last e =
    adds_nothing done (all_drawn f (Arrow y x row last ∷ []))
    (one_nothing f (Arrow y x row last) (either_nothing (row == 0) (draw_hidden_arrow f y x last) (draw_shown_arrow f y x row last) (hidden_nothing f y x last e) (shown_nothing f y x row last e)))

-- of its words it isn't seen where it ends
abbrev with_layer : Layer → Frame → Style → Letter → ℕ → Option ℕ → List ℕ
with_layer a f y x row last = by_layer a [] (draw_way f y x.from x.to row last) [] ++ draw_beside f x.from row (label_class y) (letter_words x)

end_by : (a : Layer) (f : Frame) (y : Style) (x : Letter) (row : ℕ) (none : Bool) (last : Option ℕ) → (row == 0) ≡ none
    → (if none then draw_hidden_arrow f y x (if end_shows a row then last else None) else with_layer a f y x row (if end_shows a row then last else None)) ≡ (if none then draw_hidden_arrow f y x last else with_layer a f y x row last)
end_by layer.Grounds f y x row none last e = refl
end_by layer.Ways f y x row none last e = refl
end_by layer.Words f y x row true last e = ap (λ (b : Bool). draw_hidden_arrow f y x (if b then last else None)) e
end_by layer.Words f y x row false last e = refl

pub end_is_seen : (f : Frame) (y : Style) (x : Letter) (before : List Line) (s : Spot) (after : List Line) → draw_arrow f y x s.row (end_seen f.layer x before s after) ≡ draw_arrow f y x s.row (comes_at x.from x.to before s after)
end_is_seen f y x before s after = end_by f.layer f y x s.row (s.row == 0) (comes_at x.from x.to before s after) refl

-- a packet
packet_way : (a : Layer) (w : List ℕ) → packet_shows a ≡ false → by_layer a [] w [] ≡ []
packet_way layer.Grounds w e = refl
packet_way layer.Ways w e = absurd (cc)
packet_way layer.Words w e = refl

fate_hidden : (f : Frame) (a b row : ℕ) (own : Bool) (now : ℕ) (r : Role) → packet_shows f.layer ≡ false → all_drawn f (fate a b row own now r) ≡ []
fate_hidden f a b row true now (role.Taken c d n) e = refl
fate_hidden f a b row false now (role.Taken c d n) e = one_nothing f (Came a b row now) (empty_nothing now (draw_packet f a b row now) (packet_way f.layer _ e))
fate_hidden f a b row own now (role.Early c d n) e = one_nothing f (Early a b row now) (empty_nothing now (draw_marked f (codes "#early") a b row now) (packet_way f.layer _ e))
fate_hidden f a b row own now (role.Again c d n) e = one_nothing f (Again a b row now) (empty_nothing now (draw_marked f (codes "#again") a b row now) (packet_way f.layer _ e))
fate_hidden f a b row own now (role.Head x) e = refl
fate_hidden f a b row own now (role.Put x) e = refl
fate_hidden f a b row own now (role.Packet c d k n) e = refl
fate_hidden f a b row own now (role.Note l) e = refl
fate_hidden f a b row own now role.Unseen e = refl

here_hidden : (f : Frame) (due : Bool) (a b row : ℕ) (own : Bool) (s : Spot) (r : Role) → packet_shows f.layer ≡ false → all_drawn f (fate_here due a b row own s r) ≡ []
here_hidden f true a b row own s r e = fate_hidden f a b row own s.row r e
here_hidden f false a b row own s r e = refl

deliveries_hidden : (f : Frame) (a b k row : ℕ) (own due : Bool) (s : Spot) (ls : List Line) → packet_shows f.layer ≡ false → all_drawn f (deliveries a b k row own due s ls) ≡ []
unfolding deliveries
deliveries_hidden f a b k row own due s [] e = refl
deliveries_hidden f a b k row own due s (l ∷ ls) e =
    flat_map-append (drawn_shape f) (fate_here due a b row own (next_spot s l) (role_of l)) (deliveries a b k row own (is_delivery a b k (role_of l)) (next_spot s l) ls)
    ∙ two_nothing (all_drawn f (fate_here due a b row own (next_spot s l) (role_of l))) (all_drawn f (deliveries a b k row own (is_delivery a b k (role_of l)) (next_spot s l) ls))
    (here_hidden f due a b row own (next_spot s l) (role_of l) e) (deliveries_hidden f a b k row own (is_delivery a b k (role_of l)) (next_spot s l) ls e)

lost_hidden : (f : Frame) (found : Bool) (a b row : ℕ) → packet_shows f.layer ≡ false → all_drawn f (lost_unless found a b row) ≡ []
lost_hidden f true a b row e = refl
lost_hidden f false a b row e = one_nothing f (Lost a b row) (empty_nothing row (draw_lost f a b row) (packet_way f.layer _ e))

pub packet_hidden : (f : Frame) (done : List ℕ) (a b k row : ℕ) (own : Bool) (s : Spot) (after : List Line) → packet_shows f.layer ≡ false → done ≡ done ++ all_drawn f (sending_shapes a b k row own s after)
packet_hidden f done a b k row own s after e =
    adds_nothing done (all_drawn f (sending_shapes a b k row own s after))
    (flat_map-append (drawn_shape f) (deliveries a b k row own false s after) (lost_unless (is_some (first_ahead (is_delivery a b k) s after)) a b row)
    ∙ two_nothing (all_drawn f (deliveries a b k row own false s after)) (all_drawn f (lost_unless (is_some (first_ahead (is_delivery a b k) s after)) a b row))
    (deliveries_hidden f a b k row own false s after e) (lost_hidden f (is_some (first_ahead (is_delivery a b k) s after)) a b row e))

-- a process
bar_none : (a : Layer) (g x : List ℕ) → bar_in a true ≡ false → by_layer a g [] x ≡ []
bar_none layer.Grounds g x e = absurd (cc)
bar_none layer.Ways g x e = refl
bar_none layer.Words g x e = absurd (cc)

draw_bar_none : (f : Frame) (p : Pid) (m row last : ℕ) (o : Option ℕ) → bar_in f.layer (is_some o) ≡ false → draw_bar f p m row last o ≡ []
draw_bar_none f p m row last None e = refl
draw_bar_none f p m row last (Some lane) e = bar_none f.layer _ _ e

pub bar_hidden : (f : Frame) (done : List ℕ) (p : Pid) (m row last : ℕ) → bar_shows f p ≡ false → done ≡ done ++ all_drawn f (Bar p m row last ∷ [])
bar_hidden f done p m row last e =
    adds_nothing done (all_drawn f (Bar p m row last ∷ [])) (one_nothing f (Bar p m row last) (empty_nothing last (draw_bar f p m row last (lane_of f p)) (draw_bar_none f p m row last (lane_of f p) e)))

wait_none : (a : Layer) (g : List ℕ) → wait_in a true ≡ false → by_layer a g [] [] ≡ []
wait_none layer.Grounds g e = absurd (cc)
wait_none layer.Ways g e = refl
wait_none layer.Words g e = refl

draw_waits_none : (f : Frame) (m row last : ℕ) (o : Option ℕ) → wait_in f.layer (is_some o) ≡ false → draw_waits f m row last o ≡ []
draw_waits_none f m row last None e = refl
draw_waits_none f m row last (Some lane) e = wait_none f.layer _ e

pub wait_hidden : (f : Frame) (done : List ℕ) (p : Pid) (m row last : ℕ) → wait_shows f p ≡ false → done ≡ done ++ all_drawn f (Waits p m row last ∷ [])
wait_hidden f done p m row last e =
    adds_nothing done (all_drawn f (Waits p m row last ∷ [])) (one_nothing f (Waits p m row last) (empty_nothing last (draw_waits f m row last (lane_of f p)) (draw_waits_none f m row last (lane_of f p) e)))

move_none : (a : Layer) (w : List ℕ) → move_in a true ≡ false → by_layer a [] w [] ≡ []
move_none layer.Grounds w e = refl
move_none layer.Ways w e = absurd (cc)
move_none layer.Words w e = refl

draw_moves_none : (f : Frame) (a row b last : ℕ) (o : Option ℕ) → move_in f.layer (is_some o) ≡ false → draw_moves f a row b last o ≡ []
draw_moves_none f a row b last None e = refl
draw_moves_none f a row b last (Some lane) e = move_none f.layer _ e

move_nothing : (f : Frame) (p : Pid) (a row b last : ℕ) → move_shows f p ≡ false → all_drawn f (Moves p a row b last ∷ []) ≡ []
move_nothing f p a row b last e = one_nothing f (Moves p a row b last) (empty_nothing last (draw_moves f a row b last (lane_of f p)) (draw_moves_none f a row b last (lane_of f p) e))

moves_none : (f : Frame) (last : ℕ) (p : Pid) (s : Spot) (o : Option Spot) → move_shows f p ≡ false → all_drawn f (moves_shown last p s o) ≡ []
moves_none f last p s None e = move_nothing f p s.machine s.row s.machine last e
moves_none f last p s (Some t) e = move_nothing f p s.machine s.row t.machine t.row e

pub move_hidden : (f : Frame) (done : List ℕ) (last : ℕ) (p : Pid) (s : Spot) (o : Option Spot) → move_shows f p ≡ false → done ≡ done ++ all_drawn f (moves_shown last p s o)
move_hidden f done last p s o e = adds_nothing done (all_drawn f (moves_shown last p s o)) (moves_none f last p s o e)
