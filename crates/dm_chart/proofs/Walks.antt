-- Walks over lines, as loops go through them.
use Rattle.dm_chart.proofs.Names.{◌≡◌, ℕ, ◌+◌, ◌<◌, ◌≤◌, Bool, true, false, List, [], ◌∷◌, ◌++◌, length, get_or, take, drop, map, Some, None, refl, ap, sym, ◌∙◌, add-one, append_assoc, flat_map-append, append-nil}
use Rattle.dm_chart.proofs.Names.{drop_more, flat_map_more, take_more, drop_of_length-le, Pid, Line, Frame, Role, Spot, first_ahead, is_delivery, all_drawn, drawn_shape, role_of, Shape, Column, columns, deliveries, fate_here}
use Rattle.dm_chart.proofs.Names.{line_shapes, shapes_from, next_spot, shown_spot, spot_behind, Option, MsgId, Letter, letter_last, news_from, news_here, puts_it, waits_behind, waits_on}
use Rattle.dm_chart.proofs.Pieces.{read_at}

-- the first line ahead that passes a test
pub ahead-end : (test : Role → Bool) (s : Spot) (ls : List Line) (i : ℕ) → length ls ≤ i → first_ahead test s (drop i ls) ≡ None
unfolding first_ahead
ahead-end test s ls i past = ap (first_ahead test s) (drop_of_length-le ls past)

pub ruleset ahead_lemmas = (ahead-end)

pub ahead-more : (test : Role → Bool) (s n : Spot) (ls : List Line) (i : ℕ) (d : Line) → i < length ls → n ≡ next_spot s (get_or ls i d) → test (role_of (get_or ls i d)) ≡ false → first_ahead test s (drop i ls) ≡ first_ahead test n (drop (i + 1) ls)
unfolding first_ahead
ahead-more test s n ls i d within next fails = rw (drop_more ls i d within, fails, next) refl

pub ahead-here : (test : Role → Bool) (s n : Spot) (ls : List Line) (i : ℕ) (d : Line) → i < length ls → n ≡ next_spot s (get_or ls i d) → test (role_of (get_or ls i d)) ≡ true → first_ahead test s (drop i ls) ≡ Some n
unfolding first_ahead
ahead-here test s n ls i d within next passes = rw (drop_more ls i d within, passes, next) refl

-- where a message was put first that tells where a process is
pub news-end : (id : MsgId) (last : Option Letter) (ls : List Line) (i : ℕ) → length ls ≤ i → news_from id last (drop i ls) ≡ None
unfolding news_from
news-end id last ls i past = ap (news_from id last) (drop_of_length-le ls past)

pub ruleset news_lemmas = (news-end)

pub news-more : (id : MsgId) (last : Option Letter) (ls : List Line) (i : ℕ) (d : Line) → i < length ls → puts_it id (role_of (get_or ls i d)) ≡ false → news_from id last (drop i ls) ≡ news_from id (letter_last last (role_of (get_or ls i d))) (drop (i + 1) ls)
unfolding news_from
news-more id last ls i d within fails = rw (drop_more ls i d within, fails) refl

pub news-here : (id : MsgId) (last : Option Letter) (ls : List Line) (i : ℕ) (d : Line) → i < length ls → puts_it id (role_of (get_or ls i d)) ≡ true → news_from id last (drop i ls) ≡ news_here (role_of (get_or ls i d)) last
unfolding news_from
news-here id last ls i d within passes = rw (drop_more ls i d within, passes) refl

-- behind all lines
pub spot_behind-end : (s : Spot) (ls : List Line) (i : ℕ) → length ls ≤ i → spot_behind s (drop i ls) ≡ s
spot_behind-end s ls i past = ap (spot_behind s) (drop_of_length-le ls past)

pub spot_behind-more : (s : Spot) (ls : List Line) (i : ℕ) (l : Line) → i < length ls → l ≡ get_or ls i l → spot_behind s (drop i ls) ≡ spot_behind (shown_spot s l) (drop (i + 1) ls)
spot_behind-more s ls i l within read = ap (spot_behind s) (read_at ls i l within read)

pub ruleset behind_lemmas = (spot_behind-end, spot_behind-more)

-- whether a process waits behind all lines
pub waits_behind-end : (p : Pid) (waits : Bool) (ls : List Line) (i : ℕ) → length ls ≤ i → waits_behind p waits (drop i ls) ≡ waits
waits_behind-end p waits ls i past = ap (waits_behind p waits) (drop_of_length-le ls past)

pub waits_behind-more : (p : Pid) (waits : Bool) (ls : List Line) (i : ℕ) (l : Line) → i < length ls → l ≡ get_or ls i l → waits_behind p waits (drop i ls) ≡ waits_behind p (waits_on p waits (role_of l)) (drop (i + 1) ls)
waits_behind-more p waits ls i l within read = ap (waits_behind p waits) (read_at ls i l within read)

pub ruleset wait_lemmas = (waits_behind-end, waits_behind-more)

-- what is drawn of two lists of shapes
pub drawn-both : (f : Frame) (done : List ℕ) (ss ts : List Shape) → done ++ all_drawn f (ss ++ ts) ≡ (done ++ all_drawn f ss) ++ all_drawn f ts
drawn-both f done ss ts = ap (λ t. done ++ t) (flat_map-append (drawn_shape f) ss ts) ∙ sym (append_assoc done (all_drawn f ss) (all_drawn f ts))

pub drawn_shape-one : (f : Frame) (done : List ℕ) (x : Shape) → done ++ all_drawn f (x ∷ []) ≡ done ++ drawn_shape f x
drawn_shape-one f done x = ap (λ t. done ++ t) (append-nil (drawn_shape f x))

pub ruleset drawn_lemmas = (drawn-both, drawn_shape-one)

-- all lines
pub walk-end : (f : Frame) (done : List ℕ) (last : ℕ) (all before : List Line) (s : Spot) (ls : List Line) (i : ℕ) → length ls ≤ i → done ++ all_drawn f (shapes_from last all before s (drop i ls)) ≡ done
unfolding shapes_from
walk-end f done last all before s ls i past = ap (λ t. done ++ all_drawn f (shapes_from last all before s t)) (drop_of_length-le ls past) ∙ append-nil done

pub walk-more : (f : Frame) (done new : List ℕ) (last : ℕ) (all : List Line) (s n : Spot) (i : ℕ) (d : Line) → i < length all → n ≡ next_spot s (get_or all i d) → new ≡ done ++ all_drawn f (line_shapes last all (take i all) s (get_or all i d) (drop (i + 1) all)) → done ++ all_drawn f (shapes_from last all (take i all) s (drop i all)) ≡ new ++ all_drawn f (shapes_from last all (take (i + 1) all) n (drop (i + 1) all))
unfolding shapes_from
walk-more f done new last all s n i d within next said =
    ap (λ t. done ++ all_drawn f (shapes_from last all (take i all) s t)) (drop_more all i d within)
    ∙ drawn-both f done (line_shapes last all (take i all) s (get_or all i d) (drop (i + 1) all)) (shapes_from last all (take i all ++ get_or all i d ∷ []) (next_spot s (get_or all i d)) (drop (i + 1) all))
    ∙ ap (λ t. t ++ all_drawn f (shapes_from last all (take i all ++ get_or all i d ∷ []) (next_spot s (get_or all i d)) (drop (i + 1) all))) (sym said)
    ∙ ap (λ t. new ++ all_drawn f (shapes_from last all t (next_spot s (get_or all i d)) (drop (i + 1) all))) (sym (take_more all i d within))
    ∙ ap (λ t. new ++ all_drawn f (shapes_from last all (take (i + 1) all) t (drop (i + 1) all))) (sym next)

-- the deliveries of a packet
pub deliveries-end : (f : Frame) (done : List ℕ) (a b k row : ℕ) (own due : Bool) (s : Spot) (ls : List Line) (i : ℕ) → length ls ≤ i → done ++ all_drawn f (deliveries a b k row own due s (drop i ls)) ≡ done
unfolding deliveries
deliveries-end f done a b k row own due s ls i past = ap (λ t. done ++ all_drawn f (deliveries a b k row own due s t)) (drop_of_length-le ls past) ∙ append-nil done

pub deliveries-more : (f : Frame) (done new : List ℕ) (a b k row : ℕ) (own due then : Bool) (s n : Spot) (r : Role) (ls : List Line) (i : ℕ) (d : Line) → i < length ls → n ≡ next_spot s (get_or ls i d) → r ≡ role_of (get_or ls i d) → new ≡ done ++ all_drawn f (fate_here due a b row own n r) → then ≡ is_delivery a b k r → done ++ all_drawn f (deliveries a b k row own due s (drop i ls)) ≡ new ++ all_drawn f (deliveries a b k row own then n (drop (i + 1) ls))
unfolding deliveries
deliveries-more f done new a b k row own due then s n r ls i d within next role said now =
    ap (λ t. done ++ all_drawn f (deliveries a b k row own due s t)) (drop_more ls i d within)
    ∙ drawn-both f done (fate_here due a b row own (next_spot s (get_or ls i d)) (role_of (get_or ls i d))) (deliveries a b k row own (is_delivery a b k (role_of (get_or ls i d))) (next_spot s (get_or ls i d)) (drop (i + 1) ls))
    ∙ ap (λ t. (done ++ all_drawn f (fate_here due a b row own (next_spot s (get_or ls i d)) t)) ++ all_drawn f (deliveries a b k row own (is_delivery a b k t) (next_spot s (get_or ls i d)) (drop (i + 1) ls))) (sym role)
    ∙ ap (λ t. (done ++ all_drawn f (fate_here due a b row own t r)) ++ all_drawn f (deliveries a b k row own (is_delivery a b k r) t (drop (i + 1) ls))) (sym next)
    ∙ ap (λ t. t ++ all_drawn f (deliveries a b k row own (is_delivery a b k r) n (drop (i + 1) ls))) (sym said)
    ∙ ap (λ t. new ++ all_drawn f (deliveries a b k row own t n (drop (i + 1) ls))) (sym now)

-- one process more
pub start-more : (f : Frame) (done new : List ℕ) (g : Pid → Shape) (ps : List Pid) (i : ℕ) (d : Pid) → i < length ps → new ≡ done ++ all_drawn f (g (get_or ps i d) ∷ []) → done ++ all_drawn f (map g (drop i ps)) ≡ new ++ all_drawn f (map g (drop (i + 1) ps))
start-more f done new g ps i d within said =
    ap (λ t. done ++ all_drawn f (map g t)) (drop_more ps i d within)
    ∙ drawn-both f done (g (get_or ps i d) ∷ []) (map g (drop (i + 1) ps))
    ∙ ap (λ t. t ++ all_drawn f (map g (drop (i + 1) ps))) (sym said)

-- one machine more
pub column-more : (f : Frame) (done new : List ℕ) (m : ℕ) → new ≡ (done ++ all_drawn f (columns m)) ++ drawn_shape f (Column m) → new ≡ done ++ all_drawn f (columns (m + 1))
unfolding columns
column-more f done new m e = e ∙ flat_map_more (drawn_shape f) done (columns m) (Column m) ∙ ap (λ n. done ++ all_drawn f (columns n)) (sym (add-one m))

pub column-none : (f : Frame) (done : List ℕ) → done ++ all_drawn f (columns 0) ≡ done
unfolding columns
column-none f done = append-nil done

pub ruleset column_lemmas = (column-none, column-more)
