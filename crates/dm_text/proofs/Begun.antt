-- A line that is put word by word.
use Rattle.dm_text.proofs.Names.{◌≡◌, ℕ, List, [], ◌∷◌, ◌++◌, ◌∙◌, ap, sym, append_assoc, append-nil, codes, decimal, spaced, spelled_line, text, load_words}
use Rattle.dm_line.specs.declared.line.Line.TheVariants as line
use Rattle.dm_line.specs.declared.line.Load.{Load}
use Rattle.dm_line.specs.declared.line.Load.TheVariants as load
use Rattle.dm_text.proofs.Spacing.{spaced-append}

-- behind the text of before, a line has its name and these words
pub record Begun (before name : List ℕ) (ws : List (List ℕ)) (now : List ℕ) : Type 0 where
  is : now ≡ before ++ name ++ spaced ws

-- its name
pub named_first : (before name now : List ℕ) → now ≡ before ++ name → Begun before name [] now
named_first before name now e = record { is = e ∙ sym (append-nil (before ++ name)) }

-- further words
pub words_more : (before name : List ℕ) (ws vs : List (List ℕ)) (t now : List ℕ) → Begun before name ws t → now ≡ t ++ spaced vs → Begun before name (ws ++ vs) now
words_more before name ws vs t now h e = record {
  is =
      e
      ∙ ap (λ s. s ++ spaced vs) h.is
      ∙ append_assoc (before ++ name) (spaced ws) (spaced vs)
      ∙ ap (λ s. before ++ name ++ s) (sym (spaced-append ws vs));
}

-- one more word
pub word_more : (before name : List ℕ) (ws : List (List ℕ)) (w t now : List ℕ) → Begun before name ws t → now ≡ t ++ codes " " ++ w → Begun before name (ws ++ w ∷ []) now
word_more before name ws w t now h e =
    words_more before name ws (w ∷ []) t now h (e ∙ append_assoc t (codes " ") w ∙ ap (λ s. t ++ (codes " " ++ s)) (sym (append-nil w)))

-- one more word, said in other words
pub word_as : (before name : List ℕ) (ws : List (List ℕ)) (v w t now : List ℕ) → Begun before name ws t → now ≡ t ++ codes " " ++ v → v ≡ w → Begun before name (ws ++ w ∷ []) now
word_as before name ws v w t now h e f = word_more before name ws w t now h (e ∙ ap (λ x. t ++ codes " " ++ x) f)

-- one more number
pub number_more : (before name : List ℕ) (ws : List (List ℕ)) (k n : ℕ) (t now : List ℕ) → Begun before name ws t → now ≡ t ++ codes " " ++ decimal k → k ≡ n → Begun before name (ws ++ decimal n ∷ []) now
number_more before name ws k n t now h e f = word_as before name ws (decimal k) (decimal n) t now h e (ap (λ x. decimal x) f)

-- two more words
pub pair_more : (before name : List ℕ) (ws : List (List ℕ)) (v w t now : List ℕ) → Begun before name ws t → now ≡ t ++ codes " " ++ v ++ codes " " ++ w → Begun before name (ws ++ v ∷ w ∷ []) now
pair_more before name ws v w t now h e =
    words_more before name ws (v ∷ w ∷ []) t now h
    (e
    ∙ append_assoc (t ++ codes " " ++ v) (codes " ") w
    ∙ append_assoc (t ++ codes " ") v (codes " " ++ w)
    ∙ append_assoc t (codes " ") (v ++ (codes " " ++ w))
    ∙ ap (λ s. t ++ (codes " " ++ (v ++ (codes " " ++ s)))) (sym (append-nil w)))

-- its end
pub ended : (before name : List ℕ) (ws : List (List ℕ)) (t now : List ℕ) → Begun before name ws t → now ≡ t ++ codes "\n" → now ≡ before ++ spelled_line (name ∷ ws)
ended before name ws t now h e =
    e
    ∙ ap (λ s. s ++ codes "\n") h.is
    ∙ append_assoc (before ++ name) (spaced ws) (codes "\n")
    ∙ append_assoc before name (spaced ws ++ codes "\n")
    ∙ ap (λ s. before ++ s) (sym (append_assoc name (spaced ws) (codes "\n")))

-- the line of a packet
pub packet_put : (l : Load) (a b k : ℕ) (before now : List ℕ) → now ≡ before ++ spelled_line (codes "packet" ∷ decimal a ∷ decimal b ∷ decimal k ∷ load_words l) → now ≡ before ++ text (line.Packet a b k l)
packet_put (load.Data n) a b k before now h = h
packet_put (load.Ack n) a b k before now h = h
