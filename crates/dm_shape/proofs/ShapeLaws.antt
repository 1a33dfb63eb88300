-- Printed lines have shapes, and heads are read as what they are.
use Rattle.dm_shape.proofs.Imports.{◌≡◌, ℕ, Bool, true, false, if◌then◌else◌, List, [], ◌∷◌, refl, ap, ◌∙◌, Some, None, codes, is_some, bytes_eq, Option, append_cancel_right, bytes_eq-Decides, Pid, Step}
use Rattle.dm_shape.proofs.Imports.{end_words, LineFits, ◌<*>◌, pieces, read_u8, read_u64, read_pid, is, of1, of2, of3, line_words, spelled_line, end_words_are, line_words-are}
use Rattle.dm_shape.proofs.Imports.{line_bytes, spelled_bytes, pieces_of_words, read_u8_back, read_u64_back, read_pid_back, AreWords, head_in, head_named, head_step, IsLine, LinesHaveShapes, EndsHaveShapes, HeadsHaveShapes}
use Rattle.dm_shape.proofs.Imports.{HeadsAreRead, has_shape, is_of_shape, is_row, row_of, is_of}
use Rattle.dm_schedule.specs.declared.Step.TheVariants as step
use Rattle.dm_line.specs.declared.line.Line.TheVariants as line
use Rattle.dm_shape.specs.declared.shape.Shape.TheVariants as shape
use Rattle.dm_shape.specs.declared.shape.HeadShape.TheVariants as head_shape
use Rattle.dm_shape.proofs.EndsFit.{end_has_row}
use Rattle.dm_shape.proofs.LinesFit.{line_has_row}
use Rattle.dm_shape.proofs.Listed.{has_row, listed}

-- a text without line feed is its words
pub bytes_are : (ws : List (List ℕ)) (bytes : List ℕ) → IsLine bytes (spelled_line ws) → bytes ≡ line_bytes ws
bytes_are ws bytes e = append_cancel_right bytes (line_bytes ws) (codes "\n") (e ∙ spelled_bytes ws)

pub words_of_line : (w : List ℕ) (ws : List (List ℕ)) (bytes : List ℕ) → AreWords (w ∷ ws) → IsLine bytes (spelled_line (w ∷ ws)) → pieces 32 bytes ≡ w ∷ ws
words_of_line w ws bytes h e = ap (pieces 32) (bytes_are (w ∷ ws) bytes e) ∙ pieces_of_words w ws h

by_words : (bytes : List ℕ) (ws : List (List ℕ)) → pieces 32 bytes ≡ ws → has_shape bytes ≡ has_row ws
unfolding has_shape is_of_shape
by_words bytes ws e = ap has_row e

-- a line of these words
shape_of_words : (ws : List (List ℕ)) (bytes : List ℕ) → AreWords ws → has_row ws ≡ true → IsLine bytes (spelled_line ws) → has_shape bytes ≡ true
shape_of_words [] bytes h r e = absurd (no_row r)
  where
    no_row : has_row [] ≡ true → ⊥
    no_row r = cc
shape_of_words (w ∷ ws) bytes h r e = by_words bytes (w ∷ ws) (words_of_line w ws bytes h e) ∙ r

pub lines_have : LinesHaveShapes
lines_have l bytes h e = shape_of_words (line_words l) bytes (line_words-are l h) (line_has_row l h) e

pub ends_have : EndsHaveShapes
ends_have l bytes h f e = shape_of_words (end_words l) bytes (end_words_are l h) (end_has_row l h f) e

by_head : (bytes : List ℕ) (ws : List (List ℕ)) → pieces 32 bytes ≡ ws → head_step bytes ≡ head_in ws
unfolding head_step
by_head bytes ws e = ap head_in e

head_read : (e : Step) → LineFits (line.Head e) → head_in (line_words (line.Head e)) ≡ Some e
head_read (step.Turn m) h = rw (read_u8_back m h.1.0) refl
head_read (step.Tick m) h = rw (read_u8_back m h.1.0) refl
head_read (step.Deliver a b k) h = rw (read_u8_back a h.1.0, read_u8_back b h.1.1.0, read_u64_back k h.1.1.1.0) refl
head_read (step.Migrate p m) h = rw (read_pid_back p h.1.0, read_u8_back m h.1.1.0) refl
head_read (step.CallOff p m) h = rw (read_pid_back p h.1.0, read_u8_back m h.1.1.0) refl

head_of_words : (ws : List (List ℕ)) (e : Step) (bytes : List ℕ) → AreWords ws → head_in ws ≡ Some e → IsLine bytes (spelled_line ws) → head_step bytes ≡ Some e
head_of_words [] e bytes h r is = absurd (cc)
head_of_words (w ∷ ws) e bytes h r is = by_head bytes (w ∷ ws) (words_of_line w ws bytes h is) ∙ r

pub heads_read : HeadsAreRead
heads_read e bytes h is = head_of_words (line_words (line.Head e)) e bytes (line_words-are (line.Head e) h) (head_read e h) is

-- values that make one are there
made_here : {A B : Type 0} (o : Option (A → B)) (x : Option A) (b : B) → (o <*> x) ≡ Some b → is_some x ≡ true
made_here None x b e = absurd (cc)
made_here (Some f) None b e = absurd (cc)
made_here (Some f) (Some x) b e = refl

made_before : {A B : Type 0} (o : Option (A → B)) (x : Option A) (b : B) → (o <*> x) ≡ Some b → is_some o ≡ true
made_before None x b e = absurd (cc)
made_before (Some f) x b e = refl

some_is : {A : Type 0} (o : Option A) → is_some o ≡ true → (x : A) × (o ≡ Some x)
some_is None e = absurd (cc)
some_is (Some x) e = (x, refl)

turn_row : (ws : List (List ℕ)) (f : ℕ → Step) (e : Step) → of1 read_u8 f ws ≡ Some e → is_row (row_of (shape.Head head_shape.Turn)) (codes "turn" ∷ ws) ≡ true
unfolding is_of
turn_row [] f e h = absurd (cc)
turn_row (x ∷ []) f e h = rw (made_here (Some f) (read_u8 x) e h) refl
turn_row (x ∷ y ∷ zs) f e h = absurd (cc)

tick_row : (ws : List (List ℕ)) (f : ℕ → Step) (e : Step) → of1 read_u8 f ws ≡ Some e → is_row (row_of (shape.Head head_shape.Tick)) (codes "tick" ∷ ws) ≡ true
unfolding is_of
tick_row [] f e h = absurd (cc)
tick_row (x ∷ []) f e h = rw (made_here (Some f) (read_u8 x) e h) refl
tick_row (x ∷ y ∷ zs) f e h = absurd (cc)

abbrev migrating : Pid → ℕ → Step
migrating p m = step.Migrate p m

abbrev calling_off : Pid → ℕ → Step
calling_off p m = step.CallOff p m

abbrev delivering : ℕ → ℕ → ℕ → Step
delivering a b k = step.Deliver a b k

migrate_row : (ws : List (List ℕ)) (e : Step) → of2 read_pid read_u8 step.Migrate ws ≡ Some e → is_row (row_of (shape.Head head_shape.Migrate)) (codes "migrate" ∷ ws) ≡ true
unfolding is_of
migrate_row [] e h = absurd (cc)
migrate_row (x ∷ []) e h = absurd (cc)
migrate_row (x ∷ y ∷ []) e h =
    let m = made_here (Some migrating <*> read_pid x) (read_u8 y) e h in
    let (f, is) = some_is (Some migrating <*> read_pid x) (made_before (Some migrating <*> read_pid x) (read_u8 y) e h) in
    rw (made_here (Some migrating) (read_pid x) f is, m) refl
migrate_row (x ∷ y ∷ z ∷ zs) e h = absurd (cc)

calloff_row : (ws : List (List ℕ)) (e : Step) → of2 read_pid read_u8 step.CallOff ws ≡ Some e → is_row (row_of (shape.Head head_shape.CallOff)) (codes "calloff" ∷ ws) ≡ true
unfolding is_of
calloff_row [] e h = absurd (cc)
calloff_row (x ∷ []) e h = absurd (cc)
calloff_row (x ∷ y ∷ []) e h =
    let m = made_here (Some calling_off <*> read_pid x) (read_u8 y) e h in
    let (f, is) = some_is (Some calling_off <*> read_pid x) (made_before (Some calling_off <*> read_pid x) (read_u8 y) e h) in
    rw (made_here (Some calling_off) (read_pid x) f is, m) refl
calloff_row (x ∷ y ∷ z ∷ zs) e h = absurd (cc)

deliver_row : (ws : List (List ℕ)) (e : Step) → of3 read_u8 read_u8 read_u64 step.Deliver ws ≡ Some e → is_row (row_of (shape.Head head_shape.Deliver)) (codes "deliver" ∷ ws) ≡ true
unfolding is_of
deliver_row [] e h = absurd (cc)
deliver_row (x ∷ []) e h = absurd (cc)
deliver_row (x ∷ y ∷ []) e h = absurd (cc)
deliver_row (x ∷ y ∷ z ∷ []) e h =
    let two = Some delivering <*> read_u8 x <*> read_u8 y in
    let k = made_here two (read_u64 z) e h in
    let (f, is) = some_is two (made_before two (read_u64 z) e h) in
    let b = made_here (Some delivering <*> read_u8 x) (read_u8 y) f is in
    let (g, so) = some_is (Some delivering <*> read_u8 x) (made_before (Some delivering <*> read_u8 x) (read_u8 y) f is) in
    rw (made_here (Some delivering) (read_u8 x) g so, b, k) refl
deliver_row (x ∷ y ∷ z ∷ z' ∷ zs) e h = absurd (cc)

-- a name that is this one
named_so : (w v : List ℕ) → bytes_eq w v ≡ true → w ≡ v
named_so w v e = (bytes_eq-Decides w v).0 e

head_row : (w : List ℕ) (ws : List (List ℕ)) (e : Step) → head_named w ws ≡ Some e → has_row (w ∷ ws) ≡ true
head_row w ws e h = turns (is w (codes "turn")) refl h
  where
    go : (v : List ℕ) → w ≡ v → has_row (v ∷ ws) ≡ true → has_row (w ∷ ws) ≡ true
    go v e r = ap (λ (u : List ℕ). has_row (u ∷ ws)) e ∙ r

    calls_off : (t : Bool) → is w (codes "calloff") ≡ t → (if t then of2 read_pid read_u8 step.CallOff ws else None) ≡ Some e → has_row (w ∷ ws) ≡ true
    calls_off true f k = go (codes "calloff") (named_so w (codes "calloff") f) (listed (λ x. is_row (row_of x) (codes "calloff" ∷ ws)) (shape.Head head_shape.CallOff) (calloff_row ws e k))
    calls_off false f k = absurd (cc)

    migrates : (t : Bool) → is w (codes "migrate") ≡ t → (if t then of2 read_pid read_u8 step.Migrate ws else if is w (codes "calloff") then of2 read_pid read_u8 step.CallOff ws else None) ≡ Some e → has_row (w ∷ ws) ≡ true
    migrates true f k = go (codes "migrate") (named_so w (codes "migrate") f) (listed (λ x. is_row (row_of x) (codes "migrate" ∷ ws)) (shape.Head head_shape.Migrate) (migrate_row ws e k))
    migrates false f k = calls_off (is w (codes "calloff")) refl k

    delivers : (t : Bool) → is w (codes "deliver") ≡ t → (if t then of3 read_u8 read_u8 read_u64 step.Deliver ws else if is w (codes "migrate") then of2 read_pid read_u8 step.Migrate ws else if is w (codes "calloff") then of2 read_pid read_u8 step.CallOff ws else None) ≡ Some e → has_row (w ∷ ws) ≡ true
    delivers true f k = go (codes "deliver") (named_so w (codes "deliver") f) (listed (λ x. is_row (row_of x) (codes "deliver" ∷ ws)) (shape.Head head_shape.Deliver) (deliver_row ws e k))
    delivers false f k = migrates (is w (codes "migrate")) refl k

    ticks : (t : Bool) → is w (codes "tick") ≡ t
        → (if t then of1 read_u8 step.Tick ws else if is w (codes "deliver") then of3 read_u8 read_u8 read_u64 step.Deliver ws else if is w (codes "migrate") then of2 read_pid read_u8 step.Migrate ws else if is w (codes "calloff") then of2 read_pid read_u8 step.CallOff ws else None) ≡ Some e → has_row (w ∷ ws) ≡ true
    ticks true f k = go (codes "tick") (named_so w (codes "tick") f) (listed (λ x. is_row (row_of x) (codes "tick" ∷ ws)) (shape.Head head_shape.Tick) (tick_row ws step.Tick e k))
    ticks false f k = delivers (is w (codes "deliver")) refl k

    turns : (t : Bool) → is w (codes "turn") ≡ t
        → (if t then of1 read_u8 step.Turn ws else if is w (codes "tick") then of1 read_u8 step.Tick ws else if is w (codes "deliver") then of3 read_u8 read_u8 read_u64 step.Deliver ws else if is w (codes "migrate") then of2 read_pid read_u8 step.Migrate ws else if is w (codes "calloff") then of2 read_pid read_u8 step.CallOff ws else None) ≡ Some e
        → has_row (w ∷ ws) ≡ true
    turns true f k = go (codes "turn") (named_so w (codes "turn") f) (listed (λ x. is_row (row_of x) (codes "turn" ∷ ws)) (shape.Head head_shape.Turn) (turn_row ws step.Turn e k))
    turns false f k = ticks (is w (codes "tick")) refl k

head_in_row : (ws : List (List ℕ)) (e : Step) → head_in ws ≡ Some e → has_row ws ≡ true
head_in_row [] e h = absurd (cc)
head_in_row (w ∷ ws) e h = head_row w ws e h

pub heads_have : HeadsHaveShapes
unfolding head_step
heads_have bytes e h = by_words bytes (pieces 32 bytes) refl ∙ head_in_row (pieces 32 bytes) e h
