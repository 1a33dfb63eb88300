-- The text of lines spells those lines, and no others.
use Rattle.dm_text.proofs.Names.{◌≡◌, ℕ, suc, ◌==◌, if◌then◌else◌, Bool, true, false, List, [], ◌∷◌, ◌++◌, length, refl, ap, sym, ◌∙◌, append_assoc, arith, Some, None, All, Option, EndLine, Line, end_words, line_words, spaced, spelled_line}
use Rattle.dm_text.proofs.Names.{text_of_lines, text_of_ends, pieces, line_of, line_of_words, lines_from, lines_in, lines_of, end_of, end_of_words, ends_from, Trace, at_end, trace_from, trace_in, trace_of, LineFits, EndFits}
use Rattle.std.proofs.Common.{append-nil}
use Rattle.dm_text.proofs.Pieces.{free, free-above, free-append, above-le, AreWords, pieces-free, pieces-next}
use Rattle.dm_text.proofs.LineBack.{line_words-are, line_words-back}
use Rattle.dm_text.proofs.EndsBack.{end_words_are, end_back, not_of_group}

-- words with one space between
abbrev pub line_bytes : List (List ℕ) → List ℕ
line_bytes [] = []
line_bytes (w ∷ ws) = w ++ spaced ws

pub spelled_bytes : (ws : List (List ℕ)) → spelled_line ws ≡ line_bytes ws ++ 10 ∷ []
spelled_bytes [] = refl
spelled_bytes (w ∷ ws) = refl

pub pieces_of_words : (w : List ℕ) (ws : List (List ℕ)) → AreWords (w ∷ ws) → pieces 32 (w ++ spaced ws) ≡ w ∷ ws
pieces_of_words w [] h = ap (λ t. pieces 32 t) (append-nil w) ∙ pieces-free 32 w (free-above 32 w h.0)
pieces_of_words w (v ∷ vs) h = rw (pieces-next 32 w (v ++ spaced vs) (free-above 32 w h.0), pieces_of_words v vs h.1) refl

free_spaced : (ws : List (List ℕ)) → AreWords ws → free 10 (spaced ws) ≡ true
free_spaced [] h = refl
free_spaced (w ∷ ws) h = free-append 10 w (spaced ws) (free-above 10 w (above-le 10 32 w (omega arith) h.0)) (free_spaced ws h.1)

pub free_bytes : (ws : List (List ℕ)) → AreWords ws → free 10 (line_bytes ws) ≡ true
free_bytes [] h = refl
free_bytes (w ∷ ws) h = free-append 10 w (spaced ws) (free-above 10 w (above-le 10 32 w (omega arith) h.0)) (free_spaced ws h.1)

-- the line of words that have neither spaces nor line feeds
words_read : (ws : List (List ℕ)) (l : Line) → AreWords ws → line_of_words ws ≡ Some l → line_of (line_bytes ws) ≡ Some l
unfolding line_of
words_read [] l h e = absurd (cc)
words_read (w ∷ ws) l h e = ap (λ ps. line_of_words ps) (pieces_of_words w ws h) ∙ e

line-back : (l : Line) → LineFits l → line_of (line_bytes (line_words l)) ≡ Some l
line-back l h = words_read (line_words l) l (line_words-are l h) (line_words-back l h)

end_read : (ws : List (List ℕ)) (e : EndLine) → AreWords ws → end_of_words ws ≡ Some e → end_of (line_bytes ws) ≡ Some e
unfolding end_of
end_read [] e h is = absurd (cc)
end_read (w ∷ ws) e h is = ap (λ ps. end_of_words ps) (pieces_of_words w ws h) ∙ is

end-back : (e : EndLine) → EndFits e → end_of (line_bytes (end_words e)) ≡ Some e
end-back e h = end_read (end_words e) e (end_words_are e h) (end_back e h)

none_read : (ws : List (List ℕ)) → AreWords ws → line_of_words ws ≡ None → line_of (line_bytes ws) ≡ None
unfolding line_of pieces
none_read [] h e = refl
none_read (w ∷ ws) h e = ap (λ ps. line_of_words ps) (pieces_of_words w ws h) ∙ e

end-no-line : (e : EndLine) → EndFits e → line_of (line_bytes (end_words e)) ≡ None
end-no-line e h = none_read (end_words e) (end_words_are e h) (not_of_group e)

-- a line before others
before_lines : (w : List ℕ) (l : Line) (ps : List (List ℕ)) (ls : List Line) → line_of w ≡ Some l → lines_in ps ≡ Some ls → lines_from w ps ≡ Some (l ∷ ls)
before_lines w l [] ls e f = absurd (cc)
before_lines w l (p ∷ ps) ls e f = rw (e, f) refl

-- words as a line, before a text
pub pieces_of_line : (ws : List (List ℕ)) (t : List ℕ) → AreWords ws → pieces 10 (spelled_line ws ++ t) ≡ line_bytes ws ∷ pieces 10 t
pieces_of_line ws t h =
    ap (λ s. pieces 10 (s ++ t)) (spelled_bytes ws)
    ∙ ap (λ s. pieces 10 s) (append_assoc (line_bytes ws) (10 ∷ []) t)
    ∙ pieces-next 10 (line_bytes ws) t (free_bytes ws h)

pieces_of_lines : (l : Line) (ls : List Line) → LineFits l → pieces 10 (text_of_lines (l ∷ ls)) ≡ line_bytes (line_words l) ∷ pieces 10 (text_of_lines ls)
unfolding text_of_lines
pieces_of_lines l ls h = pieces_of_line (line_words l) (text_of_lines ls) (line_words-are l h)

pub lines-back : (ls : List Line) → All LineFits ls → lines_of (text_of_lines ls) ≡ Some ls
unfolding lines_of text_of_lines pieces
lines-back [] h = refl
lines-back (l ∷ ls) h =
    let here : LineFits l = h 0 l (omega arith) in
    let rest : All LineFits ls = λ k d b. h (suc k) d (omega arith) in
    ap (λ ps. lines_in ps) (pieces_of_lines l ls here) ∙ before_lines (line_bytes (line_words l)) l (pieces 10 (text_of_lines ls)) ls (line-back l here) (lines-back ls rest)

-- the lines at the end of some pieces, of which the last stands after the last line feed
abbrev pub ends_in : List (List ℕ) → Option (List EndLine)
ends_in [] = None
ends_in (p ∷ ps) = ends_from p ps

before_ends : (w : List ℕ) (e : EndLine) (ps : List (List ℕ)) (es : List EndLine) → end_of w ≡ Some e → ends_in ps ≡ Some es → ends_from w ps ≡ Some (e ∷ es)
before_ends w e [] es is rest = absurd (cc)
before_ends w e (p ∷ ps) es is rest = rw (is, rest) refl

pieces_of_ends : (e : EndLine) (es : List EndLine) → EndFits e → pieces 10 (text_of_ends (e ∷ es)) ≡ line_bytes (end_words e) ∷ pieces 10 (text_of_ends es)
unfolding text_of_ends
pieces_of_ends e es h = pieces_of_line (end_words e) (text_of_ends es) (end_words_are e h)

ends-back : (es : List EndLine) → All EndFits es → ends_in (pieces 10 (text_of_ends es)) ≡ Some es
unfolding text_of_ends pieces
ends-back [] h = refl
ends-back (e ∷ es) h =
    let here : EndFits e = h 0 e (omega arith) in
    let rest : All EndFits es = λ k d b. h (suc k) d (omega arith) in
    ap (λ ps. ends_in ps) (pieces_of_ends e es here) ∙ before_ends (line_bytes (end_words e)) e (pieces 10 (text_of_ends es)) es (end-back e here) (ends-back es rest)

-- a line of a group before a trace, and lines at the end alone
before_trace : (w : List ℕ) (l : Line) (ps : List (List ℕ)) (t : Trace) → line_of w ≡ Some l → trace_in ps ≡ Some t → trace_from w ps ≡ Some (record { lines = l ∷ t.lines; ends = t.ends })
before_trace w l [] t e f = absurd (cc)
before_trace w l (p ∷ ps) t e f = rw (e, f) refl

alone : (b : Bool) (es : List EndLine) → (if b then Some [] else None) ≡ Some es → (if b then Some (at_end []) else None) ≡ Some (at_end es)
alone true es f = ap (λ (x : List EndLine). Some (at_end x)) (cc)
alone false es f = absurd (cc)

ends_alone : (w : List ℕ) (ps : List (List ℕ)) (es : List EndLine) → line_of w ≡ None → ends_from w ps ≡ Some es → trace_from w ps ≡ Some (record { lines = []; ends = es })
ends_alone w [] es e f = alone (length w == 0) es f
ends_alone w (p ∷ ps) es e f = rw (e, f) refl

pub trace-back : (ls : List Line) (es : List EndLine) → All LineFits ls → All EndFits es → trace_of (text_of_lines ls ++ text_of_ends es) ≡ Some (record { lines = ls; ends = es })
unfolding trace_of text_of_lines text_of_ends pieces
trace-back [] [] h k = refl
trace-back [] (e ∷ es) h k =
    let here : EndFits e = k 0 e (omega arith) in
    let w : List ℕ = line_bytes (end_words e) in
    let ps : List (List ℕ) = pieces 10 (text_of_ends es) in
    let is : ends_from w ps ≡ Some (e ∷ es) = ap (λ qs. ends_in qs) (sym (pieces_of_ends e es here)) ∙ ends-back (e ∷ es) k in
    ap (λ qs. trace_in qs) (pieces_of_ends e es here) ∙ ends_alone w ps (e ∷ es) (end-no-line e here) is
trace-back (l ∷ ls) es h k =
    let here : LineFits l = h 0 l (omega arith) in
    let rest : All LineFits ls = λ i d b. h (suc i) d (omega arith) in
    let t : List ℕ = text_of_lines ls ++ text_of_ends es in
    ap (λ s. trace_in (pieces 10 s)) (append_assoc (spelled_line (line_words l)) (text_of_lines ls) (text_of_ends es))
    ∙ ap (λ ps. trace_in ps) (pieces_of_line (line_words l) t (line_words-are l here))
    ∙ before_trace (line_bytes (line_words l)) l (pieces 10 t) (record { lines = ls; ends = es }) (line-back l here) (trace-back ls es rest k)

lines_same : (a b : List Line) → Some a ≡ Some b → a ≡ b
lines_same a b h = cc

pub text-same : (a b : List Line) → All LineFits a → All LineFits b → text_of_lines a ≡ text_of_lines b → a ≡ b
text-same a b h k e = lines_same a b (sym (lines-back a h) ∙ ap (λ t. lines_of t) e ∙ lines-back b k)

traces_same : (s t : Trace) → Some s ≡ Some t → s ≡ t
traces_same s t h = cc

-- one text, one trace
pub trace-same : (a b : List Line) (x y : List EndLine) → All LineFits a → All EndFits x → All LineFits b → All EndFits y → text_of_lines a ++ text_of_ends x ≡ text_of_lines b ++ text_of_ends y → (a ≡ b) × (x ≡ y)
trace-same a b x y ha hx hb hy e =
    let is : record { lines = a; ends = x } ≡ record { lines = b; ends = y } = traces_same (record { lines = a; ends = x }) (record { lines = b; ends = y }) (sym (trace-back a x ha hx) ∙ ap (λ t. trace_of t) e ∙ trace-back b y hb hy) in
    (ap (λ (t : Trace). t.lines) is, ap (λ (t : Trace). t.ends) is)
