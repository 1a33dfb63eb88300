-- How each shape is drawn: in one layer what lies below, in the next what goes from machine to machine, in the last the words, so that
-- nothing lies on a word.
use Rattle.std.specs.Prelude.{ℕ, zero, suc, ◌+◌, ◌-◌, ◌==◌, if◌then◌else◌, codes, List, [], ◌∷◌, ◌++◌}
use Rattle.std.specs.List.{concat, flat_map}
use Rattle.std.specs.Fmt.{decimal}
use Rattle.std.specs.declared.option.Option.{Option}
use Rattle.std.specs.declared.option.Option.TheVariants.{None, Some}
use Rattle.dm_link.specs.declared.Pid.{Pid}
use Rattle.dm_message.specs.Kinds.{word_of}
use Rattle.dm_schedule.specs.declared.Step.{Step}
use Rattle.dm_schedule.specs.declared.Step.TheVariants as step
use Rattle.dm_text.specs.Words.{pid_word, id_word}
use Rattle.dm_chart.specs.declared.frame.Frame.{Frame}
use Rattle.dm_chart.specs.declared.frame.Layer.{Layer}
use Rattle.dm_chart.specs.declared.frame.Layer.TheVariants as layer
use Rattle.dm_chart.specs.declared.frame.Point.{Point}
use Rattle.dm_chart.specs.declared.role.Letter.{Letter}
use Rattle.dm_chart.specs.declared.style.Style.{Style}
use Rattle.dm_chart.specs.Styles.{arrow_class, loop_name, label_class, tint}
use Rattle.dm_chart.specs.Notes.{Note, note_of}
use Rattle.dm_chart.specs.Measures.{above_next, axis, blocks_before, column, goes_on, lane_at, lane_of, words_at, height, number_shown, point, on_axis, on_lane, towards}
use Rattle.dm_chart.specs.Xml.{alone, element_around}
use Rattle.dm_chart.specs.Shapes.{Shape, Column, Bar, Waits, Moves, Group, Arrow, Came, Early, Again, Lost, Beside}

-- where a line begins and ends
abbrev pub end_points : Point → Point → List (List ℕ × List ℕ)
end_points p q = (codes "x1", decimal p.x) ∷ (codes "y1", decimal p.y) ∷ (codes "x2", decimal q.x) ∷ (codes "y2", decimal q.y) ∷ []

-- a line of a class
unfoldable pub stroke : List ℕ → Point → Point → List ℕ
stroke class p q = alone (codes "line") ((codes "class", class) ∷ end_points p q)

-- a line of a class and a colour
unfoldable pub tinted : List ℕ → List ℕ → Point → Point → List ℕ
tinted class colour p q = alone (codes "line") ((codes "class", class) ∷ (codes "stroke", colour) ∷ end_points p q)

-- one of the marks that the head of the picture defines
unfoldable pub drawn_mark : List ℕ → Point → List ℕ
drawn_mark name p = alone (codes "use") ((codes "href", name) ∷ (codes "x", decimal p.x) ∷ (codes "y", decimal p.y) ∷ [])

-- words of a class
unfoldable pub written : List ℕ → Point → List (List ℕ) → List ℕ
written class p words = element_around (codes "text") ((codes "class", class) ∷ (codes "x", decimal p.x) ∷ (codes "y", decimal p.y) ∷ []) (concat words)

-- what a shape has in each layer
abbrev pub by_layer : Layer → List ℕ → List ℕ → List ℕ → List ℕ
by_layer layer.Grounds grounds ways words = grounds
by_layer layer.Ways grounds ways words = ways
by_layer layer.Words grounds ways words = words

-- the texts of the numbers below n, one behind another
unfoldable pub each_below : (ℕ → List ℕ) → ℕ → List ℕ
each_below text zero = []
each_below text (suc n) = each_below text n ++ text n

-- a machine's name, so far down
unfoldable pub heading : Frame → ℕ → ℕ → List ℕ
heading f m y = written (codes "m") (point (axis f m - 8) y) (codes "machine " ∷ decimal m ∷ [])

-- behind a block it comes again, on a white stripe that what goes on goes through
abbrev pub heading_again : Frame → ℕ → ℕ → List ℕ
heading_again f m block =
    stroke (codes "h") (point (axis f m - 20) (above_next block 30)) (point (axis f m + column f - 20) (above_next block 30)) ++ heading f m (above_next block 32)

unfoldable pub headings_again : Frame → ℕ → List ℕ
headings_again f m = each_below (heading_again f m) (blocks_before f.rows)

abbrev pub draw_column : Frame → ℕ → List ℕ
draw_column f m = by_layer f.layer (stroke (codes "ax") (point (axis f m) 166) (on_axis f m f.rows)) [] (heading f m 156 ++ headings_again f m)

-- a process's name above its bar, which begins at x
unfoldable pub bar_name : ℕ → Pid → ℕ → List ℕ
bar_name x p y = written (codes "s") (point (x - 9) y) (pid_word p ∷ [])

-- behind each block that the bar goes on behind it comes again
abbrev pub name_again : ℕ → Pid → ℕ → ℕ → ℕ → List ℕ
name_again x p row last block = if goes_on row last block then bar_name x p (above_next block 20) else []

unfoldable pub names_again : Frame → ℕ → Pid → ℕ → ℕ → List ℕ
names_again f x p row last = each_below (name_again x p row last) (blocks_before f.rows)

abbrev pub bar_names : Frame → ℕ → Pid → ℕ → ℕ → List ℕ
bar_names f x p row last = bar_name x p (height row - 4) ++ names_again f x p row last

-- a process without a lane has no bar
abbrev pub draw_bar : Frame → Pid → ℕ → ℕ → ℕ → Option ℕ → List ℕ
draw_bar f p m row last None = []
draw_bar f p m row last (Some lane) =
    by_layer f.layer (tinted (codes "b") (tint lane) (on_lane f m lane row) (on_lane f m lane last)) [] (bar_names f (lane_at f m lane) p row last)

-- a bar is hollow while its process waits
abbrev pub draw_waits : Frame → ℕ → ℕ → ℕ → Option ℕ → List ℕ
draw_waits f m row last None = []
draw_waits f m row last (Some lane) = by_layer f.layer (stroke (codes "w") (on_lane f m lane row) (on_lane f m lane last)) [] []

abbrev pub draw_moves : Frame → ℕ → ℕ → ℕ → ℕ → Option ℕ → List ℕ
draw_moves f a row b last None = []
draw_moves f a row b last (Some lane) = by_layer f.layer [] (tinted (codes "v") (tint lane) (on_lane f a lane row) (on_lane f b lane last)) []

abbrev pub directive_words : Step → List (List ℕ)
directive_words (step.Turn m) = codes "turn " ∷ decimal m ∷ []
directive_words (step.Tick m) = codes "tick " ∷ decimal m ∷ []
directive_words (step.Deliver a b k) = codes "deliver " ∷ decimal a ∷ codes " " ∷ decimal b ∷ codes " " ∷ decimal k ∷ []
directive_words (step.Migrate p m) = codes "migrate " ∷ pid_word p ∷ codes " " ∷ decimal m ∷ []
directive_words (step.CallOff p m) = codes "calloff " ∷ pid_word p ∷ codes " " ∷ decimal m ∷ []

unfoldable pub group_words : Frame → ℕ → ℕ → Step → List ℕ
group_words f row group e =
    written (codes "g") (point 10 (height row - 3)) (decimal (number_shown f group) ∷ []) ++ written (codes "g") (point 56 (height row - 3)) (directive_words e)

abbrev pub draw_group : Frame → ℕ → ℕ → Step → List ℕ
draw_group f row group e =
    by_layer f.layer (stroke (codes "r") (point 10 (height row - 14)) (point 420 (height row - 14))) [] (group_words f row group e)

-- a message's name, its kind and its receiver
abbrev pub letter_words : Letter → List (List ℕ)
letter_words x = id_word x.id ∷ codes " " ∷ word_of x.kind ∷ codes " to " ∷ pid_word x.receiver ∷ []

-- a message to its own machine; one that enters an inbox of another; one that hasn't at the end
abbrev pub draw_way : Frame → Style → ℕ → ℕ → ℕ → Option ℕ → List ℕ
draw_way f s a b row None = stroke (codes "o") (on_axis f a row) (towards f a b row 30 6) ++ drawn_mark (codes "#open") (towards f a b row 30 6)
draw_way f s a b row (Some last) = if a == b then drawn_mark (loop_name s) (on_axis f a row) else stroke (arrow_class s) (on_axis f a row) (on_axis f b last)

-- what a row says, and a mark on the machine of which it is said
unfoldable pub draw_beside : Frame → ℕ → ℕ → List ℕ → List (List ℕ) → List ℕ
draw_beside f m row class words =
    by_layer f.layer [] [] (drawn_mark (codes "#note") (on_axis f m row) ++ written class (point words_at (height row - 3)) words)

abbrev pub draw_shown_arrow : Frame → Style → Letter → ℕ → Option ℕ → List ℕ
draw_shown_arrow f s x row last = by_layer f.layer [] (draw_way f s x.from x.to row last) [] ++ draw_beside f x.from row (label_class s) (letter_words x)

-- a message that is put before the first row is told of where it enters an inbox
abbrev pub draw_arriving : Frame → Style → Letter → ℕ → List ℕ
draw_arriving f s x last =
    if last == 0 then [] else by_layer f.layer [] (draw_way f s x.from x.to 0 (Some last)) [] ++ draw_beside f x.to last (label_class s) (letter_words x)

abbrev pub draw_hidden_arrow : Frame → Style → Letter → Option ℕ → List ℕ
draw_hidden_arrow f s x None = []
draw_hidden_arrow f s x (Some last) = draw_arriving f s x last

abbrev pub draw_arrow : Frame → Style → Letter → ℕ → Option ℕ → List ℕ
draw_arrow f s x row last = if row == 0 then draw_hidden_arrow f s x last else draw_shown_arrow f s x row last

abbrev pub draw_packet : Frame → ℕ → ℕ → ℕ → ℕ → List ℕ
draw_packet f a b row last = by_layer f.layer [] (stroke (codes "p") (on_axis f a row) (on_axis f b last)) []

-- a packet with a mark where it comes
abbrev pub draw_marked : Frame → List ℕ → ℕ → ℕ → ℕ → ℕ → List ℕ
draw_marked f name a b row last = by_layer f.layer [] (stroke (codes "p") (on_axis f a row) (on_axis f b last) ++ drawn_mark name (on_axis f b last)) []

abbrev pub draw_lost : Frame → ℕ → ℕ → ℕ → List ℕ
draw_lost f a b row = by_layer f.layer [] (stroke (codes "p") (on_axis f a row) (towards f a b row 44 12) ++ drawn_mark (codes "#lost") (towards f a b row 44 12)) []

-- a note without words isn't drawn
abbrev pub draw_words : Frame → ℕ → ℕ → List ℕ → List (List ℕ) → List ℕ
draw_words f m row class [] = []
draw_words f m row class (w ∷ ws) = draw_beside f m row class (w ∷ ws)

abbrev pub draw_note : Frame → ℕ → ℕ → Note → List ℕ
draw_note f m row n = draw_words f m row n.class n.words

-- what ends at row 0 is over before the first row
abbrev pub unless_over : ℕ → List ℕ → List ℕ
unless_over last drawn = if last == 0 then [] else drawn

-- a shape, a row a shape
abbrev pub drawn_shape : Frame → Shape → List ℕ
drawn_shape f (Column m) = draw_column f m
drawn_shape f (Bar p m row last) = unless_over last (draw_bar f p m row last (lane_of f p))
drawn_shape f (Waits p m row last) = unless_over last (draw_waits f m row last (lane_of f p))
drawn_shape f (Moves p a row b last) = unless_over last (draw_moves f a row b last (lane_of f p))
drawn_shape f (Group row group e) = draw_group f row group e
drawn_shape f (Arrow s x row last) = draw_arrow f s x row last
drawn_shape f (Came a b row last) = unless_over last (draw_packet f a b row last)
drawn_shape f (Early a b row last) = unless_over last (draw_marked f (codes "#early") a b row last)
drawn_shape f (Again a b row last) = unless_over last (draw_marked f (codes "#again") a b row last)
drawn_shape f (Lost a b row) = unless_over row (draw_lost f a b row)
drawn_shape f (Beside m row before l) = unless_over row (draw_note f m row (note_of before l))

-- shapes, one after another
abbrev pub all_drawn : Frame → List Shape → List ℕ
all_drawn f ss = flat_map (drawn_shape f) ss
