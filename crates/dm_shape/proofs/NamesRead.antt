-- Names read piece by piece: what stands behind the first separator has no other one, where it can be read.
use Rattle.dm_shape.proofs.Imports.{◌≡◌, ℕ, ◌+◌, ◌-◌, ◌*◌, ◌^◌, ◌<◌, ◌==◌, nat_le, Bool, true, false, ◌&&◌, ◌||◌, if◌then◌else◌, List, [], ◌∷◌, ◌++◌, length, refl, ap, sym, ◌∙◌, arith, Some, None, Option, option_and_then, nat_tests}
use Rattle.dm_shape.proofs.Imports.{Pid, pid_of, ◌<*>◌, onto_first, pieces, number_after, if_below, is_padded, read_number, read_u8, read_u32, read_pid, pid_in, message_named, message_numbered, id_in, free, free-append, pieces-free}

-- nothing comes of nothing
pub of_none : {A B : Type 0} (o : Option (A → B)) (x : Option A) → x ≡ None → (o <*> x) ≡ None
of_none None x e = refl
of_none (Some f) None e = refl
of_none (Some f) (Some x) e = absurd (cc)

-- a byte is no digit
abbrev pub IsApart : ℕ → Type 0
IsApart sep = (nat_le 48 sep && nat_le sep 57) ≡ false

stops_at : (sep b n : ℕ) (bs : List ℕ) (t : Bool) → IsApart sep → (b == sep) ≡ t → (if t then false else free sep bs) ≡ false → (free sep bs ≡ false → (m : ℕ) → number_after m bs ≡ None) → number_after n (b ∷ bs) ≡ None
stops_at sep b n bs true apart e h go = let f : b ≡ sep = grind (arith, nat_tests, e) in rw (f, apart) refl
stops_at sep b n bs false apart e h go = other (nat_le 48 b && nat_le b 57) (go h (10 * n + (b - 48)))
  where
    other : (t : Bool) → number_after (10 * n + (b - 48)) bs ≡ None → option_and_then (λ d. number_after (10 * n + d) bs) (if t then Some (b - 48) else None) ≡ None
    other true k = k
    other false k = refl

unfree_after : (sep n : ℕ) (w : List ℕ) → IsApart sep → free sep w ≡ false → number_after n w ≡ None
unfree_after sep n [] apart h = absurd (cc)
unfree_after sep n (b ∷ bs) apart h = stops_at sep b n bs (b == sep) apart refl h (λ k m. unfree_after sep m bs apart k)

if_none : (t : Bool) (o : Option ℕ) → o ≡ None → (if t then None else o) ≡ None
if_none true o e = refl
if_none false o e = e

-- a word with such a byte is no number
pub unfree_none : (sep limit : ℕ) (w : List ℕ) → IsApart sep → free sep w ≡ false → read_number limit w ≡ None
unfolding read_number
unfree_none sep limit w apart h = if_none (length w == 0 || is_padded w) (if_below limit (number_after 0 w)) (ap (λ o. if_below limit o) (unfree_after sep 0 w apart h))

-- texts with such a byte have two pieces or more
pub data IsCut : List (List ℕ) → Type 0 where
  Cut : (a b : List ℕ) (others : List (List ℕ)) → IsCut (a ∷ b ∷ others)

longer_cut : (b : ℕ) (ps : List (List ℕ)) → IsCut ps → IsCut (onto_first b ps)
longer_cut b (a ∷ c ∷ others) h = Cut (b ∷ a) c others
longer_cut b (a ∷ []) h = elim h [ ]
longer_cut b [] h = elim h [ ]

longer_some : (b : ℕ) (ps : List (List ℕ)) → onto_first b ps ≡ [] → ⊥
longer_some b [] e = cc
longer_some b (p ∷ ps) e = cc

piece_first : (t : Bool) (b : ℕ) (ps : List (List ℕ)) → (if t then [] ∷ ps else onto_first b ps) ≡ [] → ⊥
piece_first true b ps e = cc
piece_first false b ps e = longer_some b ps e

-- there is a piece
pub some_piece : (sep : ℕ) (w : List ℕ) → pieces sep w ≡ [] → ⊥
unfolding pieces
some_piece sep [] e = cc
some_piece sep (b ∷ bs) e = piece_first (b == sep) b (pieces sep bs) e

cut_empty : (ps : List (List ℕ)) → (ps ≡ [] → ⊥) → IsCut ([] ∷ ps)
cut_empty [] h = absurd (h refl)
cut_empty (c ∷ cs) h = Cut [] c cs

cut_first : (sep b : ℕ) (bs : List ℕ) (t : Bool) → (if t then false else free sep bs) ≡ false → (free sep bs ≡ false → IsCut (pieces sep bs)) → IsCut (if t then [] ∷ pieces sep bs else onto_first b (pieces sep bs))
cut_first sep b bs true h go = cut_empty (pieces sep bs) (some_piece sep bs)
cut_first sep b bs false h go = longer_cut b (pieces sep bs) (go h)

pub unfree_cut : (sep : ℕ) (w : List ℕ) → free sep w ≡ false → IsCut (pieces sep w)
unfolding pieces
unfree_cut sep [] h = absurd (cc)
unfree_cut sep (b ∷ bs) h = cut_first sep b bs (b == sep) h (λ k. unfree_cut sep bs k)

-- a text is its pieces with the separator between
abbrev pub join : ℕ → List ℕ → List (List ℕ) → List ℕ
join sep a [] = a
join sep a (b ∷ bs) = a ++ sep ∷ join sep b bs

abbrev joined : ℕ → List (List ℕ) → List ℕ
joined sep [] = []
joined sep (a ∷ as_) = join sep a as_

joined_longer : (sep b : ℕ) (ps : List (List ℕ)) → joined sep (onto_first b ps) ≡ b ∷ joined sep ps
joined_longer sep b [] = refl
joined_longer sep b (p ∷ []) = refl
joined_longer sep b (p ∷ q ∷ qs) = refl

joined_empty : (sep : ℕ) (ps : List (List ℕ)) → (ps ≡ [] → ⊥) → joined sep ([] ∷ ps) ≡ sep ∷ joined sep ps
joined_empty sep [] h = absurd (h refl)
joined_empty sep (p ∷ ps) h = refl

joined_first : (sep b : ℕ) (bs : List ℕ) (t : Bool) → (b == sep) ≡ t → joined sep (pieces sep bs) ≡ bs → joined sep (if t then [] ∷ pieces sep bs else onto_first b (pieces sep bs)) ≡ b ∷ bs
joined_first sep b bs true e h =
    let f : b ≡ sep = grind (arith, nat_tests, e) in
    joined_empty sep (pieces sep bs) (some_piece sep bs) ∙ ap (λ xs. sep ∷ xs) h ∙ ap (λ x. x ∷ bs) (sym f)
joined_first sep b bs false e h = joined_longer sep b (pieces sep bs) ∙ ap (λ xs. b ∷ xs) h

joined-pieces : (sep : ℕ) (w : List ℕ) → joined sep (pieces sep w) ≡ w
unfolding pieces
joined-pieces sep [] = refl
joined-pieces sep (b ∷ bs) = joined_first sep b bs (b == sep) refl (joined-pieces sep bs)

joined_more : (sep : ℕ) (a : List ℕ) (ps : List (List ℕ)) → (ps ≡ [] → ⊥) → joined sep (a ∷ ps) ≡ a ++ sep ∷ joined sep ps
joined_more sep a [] h = absurd (h refl)
joined_more sep a (p ∷ ps) h = refl

-- a text is its first piece, the separator, and what stands behind it
pub cut_is : (sep : ℕ) (w a rest : List ℕ) → pieces sep w ≡ a ∷ pieces sep rest → w ≡ a ++ sep ∷ rest
cut_is sep w a rest e =
    sym (joined-pieces sep w) ∙ ap (λ ps. joined sep ps) e ∙ joined_more sep a (pieces sep rest) (some_piece sep rest) ∙ ap (λ xs. a ++ sep ∷ xs) (joined-pieces sep rest)

-- so it is where another piece follows, whatever it is
pub first_is : (sep : ℕ) (w a b : List ℕ) (ps : List (List ℕ)) → pieces sep w ≡ a ∷ b ∷ ps → (rest : List ℕ) × (w ≡ a ++ sep ∷ rest)
first_is sep w a b ps e = (joined sep (b ∷ ps), sym (joined-pieces sep w) ∙ ap (λ qs. joined sep qs) e)

pub one_piece : (sep : ℕ) (w a : List ℕ) → pieces sep w ≡ a ∷ [] → w ≡ a
one_piece sep w a e = sym (joined-pieces sep w) ∙ ap (λ ps. joined sep ps) e

pub two_pieces : (sep : ℕ) (w a b : List ℕ) → pieces sep w ≡ a ∷ b ∷ [] → w ≡ a ++ sep ∷ b
two_pieces sep w a b e = sym (joined-pieces sep w) ∙ ap (λ ps. joined sep ps) e

-- a number behind the first separator of two
abbrev pid_rest : List ℕ → List ℕ → Option Pid
pid_rest home num = Some pid_of <*> read_u8 home <*> read_u32 num

pid_cut : (home num : List ℕ) (ps : List (List ℕ)) → IsCut ps → read_u32 num ≡ None → pid_in (home ∷ ps) ≡ pid_rest home num
pid_cut home num (a ∷ b ∷ others) h none = sym (of_none (Some pid_of <*> read_u8 home) (read_u32 num) none)
pid_cut home num (a ∷ []) h none = elim h [ ]
pid_cut home num [] h none = elim h [ ]

pub pid_behind : (home num : List ℕ) → pid_in (home ∷ pieces 46 num) ≡ pid_rest home num
pid_behind home num = by_test (free 46 num) refl
  where
    by_test : (t : Bool) → free 46 num ≡ t → pid_in (home ∷ pieces 46 num) ≡ pid_rest home num
    by_test true e = ap (λ ps. pid_in (home ∷ ps)) (pieces-free 46 num e)
    by_test false e = pid_cut home num (pieces 46 num) (unfree_cut 46 num e) (unfree_none 46 (2 ^ 32) num refl e)

-- the number of a message behind the first separator
unfree-append : (sep s : ℕ) (a : List ℕ) → free sep (s ∷ []) ≡ true → free sep (a ++ s ∷ []) ≡ false → free sep a ≡ false
unfree-append sep s a h e = by_test (free sep a) refl
  where
    by_test : (t : Bool) → free sep a ≡ t → free sep a ≡ false
    by_test true f = absurd (both (free-append sep a (s ∷ []) f h) e)
      where
        both : free sep (a ++ s ∷ []) ≡ true → free sep (a ++ s ∷ []) ≡ false → ⊥
        both f g = cc
    by_test false f = f

numbered_cut : (p : Option Pid) (rest : List ℕ) (ps : List (List ℕ)) → pieces 33 rest ≡ ps → free 35 rest ≡ false → message_numbered p ps ≡ None
numbered_cut p rest [] is e = refl
numbered_cut p rest (n ∷ []) is e =
    of_none (Some (message_named false) <*> p) (read_u32 n) (unfree_none 35 (2 ^ 32) n refl (ap (λ w. free 35 w) (sym (one_piece 33 rest n is)) ∙ e))
numbered_cut p rest (n ∷ [] ∷ []) is e =
    of_none (Some (message_named true) <*> p) (read_u32 n) (unfree_none 35 (2 ^ 32) n refl (unfree-append 35 33 n refl (ap (λ w. free 35 w) (sym (two_pieces 33 rest n [] is)) ∙ e)))
numbered_cut p rest (n ∷ [] ∷ a ∷ others) is e = refl
numbered_cut p rest (n ∷ (b ∷ bs) ∷ others) is e = refl

id_cut : (from : List ℕ) (ps : List (List ℕ)) → IsCut ps → id_in (from ∷ ps) ≡ None
id_cut from (a ∷ b ∷ others) h = refl
id_cut from (a ∷ []) h = elim h [ ]
id_cut from [] h = elim h [ ]

pub id_behind : (from rest : List ℕ) → id_in (from ∷ pieces 35 rest) ≡ message_numbered (read_pid from) (pieces 33 rest)
id_behind from rest = by_test (free 35 rest) refl
  where
    by_test : (t : Bool) → free 35 rest ≡ t → id_in (from ∷ pieces 35 rest) ≡ message_numbered (read_pid from) (pieces 33 rest)
    by_test true e = ap (λ ps. id_in (from ∷ ps)) (pieces-free 35 rest e)
    by_test false e = id_cut from (pieces 35 rest) (unfree_cut 35 rest e) ∙ sym (numbered_cut (read_pid from) rest (pieces 33 rest) refl e)

-- where something stands behind the mark of an answer, no message is named
marked_more : (p : Option Pid) (n : List ℕ) (t : Bool) (b : ℕ) (ps : List (List ℕ)) → (ps ≡ [] → ⊥) → message_numbered p (n ∷ (if t then [] ∷ ps else onto_first b ps)) ≡ None
marked_more p n true b [] h = absurd (h refl)
marked_more p n true b (q ∷ qs) h = refl
marked_more p n false b [] h = refl
marked_more p n false b (q ∷ qs) h = refl

pub numbered_more : (p : Option Pid) (n rest : List ℕ) → (length rest == 0) ≡ false → message_numbered p (n ∷ pieces 33 rest) ≡ None
unfolding pieces
numbered_more p n [] e = absurd (cc)
numbered_more p n (b ∷ bs) e = marked_more p n (b == 33) b (pieces 33 bs) (some_piece 33 bs)

no_bytes : (k : ℕ) → 0 < k → (k == 0) ≡ true → ⊥
no_bytes k h e = let f : k ≡ 0 = grind (arith, nat_tests, e) in omega arith

pub numbered_last : (p : Option Pid) (n rest : List ℕ) → (length rest == 0) ≡ true → message_numbered p (n ∷ pieces 33 rest) ≡ (Some (message_named true) <*> p <*> read_u32 n)
unfolding pieces
numbered_last p n [] e = refl
numbered_last p n (b ∷ bs) e = absurd (no_bytes (length (b ∷ bs)) (omega arith) e)
