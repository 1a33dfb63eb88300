-- What a machine gives is said, one after the other.
use Rattle.dm_node.proofs.Names.{◌≡◌, ℕ, List, [], ◌∷◌, ◌++◌, refl, sym, ap, ◌∙◌, append_assoc, append-nil, Line, Sent, Out, Says, Sends, AreReadBack, Spoke, Spoken, packet_line, says, so_far, spoken, spoken_then, with_packet}

pub spoken-append : (wires : ℕ → ℕ → List Sent) (xs ys : List Out) → spoken wires (xs ++ ys) ≡ spoken_then (spoken wires xs) ys
spoken-append wires [] ys = refl
spoken-append wires (Says l ∷ xs) ys = ap (says l) (spoken-append wires xs ys)
spoken-append wires (Sends p ∷ xs) ys = ap (says (packet_line wires p)) (spoken-append (with_packet wires p) xs ys)

read_more : (xs ys : List Out) → AreReadBack xs → AreReadBack ys → AreReadBack (xs ++ ys)
read_more [] ys h k = k
read_more (Says l ∷ xs) ys h k = read_more xs ys h k
read_more (Sends p ∷ xs) ys h k = (h.0, read_more xs ys h.1 k)

-- nothing is said
pub spoke_none : (s : Spoken) → Spoke s s []
spoke_none s = record { lines = sym (append-nil s.lines); wires = λ a c. refl; again = tt }

-- a line is said
pub spoke_line : (wires : List (List Sent)) (old new : List Line) (l : Line) → new ≡ old ++ l ∷ [] → Spoke (so_far wires old) (so_far wires new) (Says l ∷ [])
spoke_line wires old new l e = record { lines = e; wires = λ a c. refl; again = tt }

-- one behind the other
pub spoke_more : (old mid new : Spoken) (xs ys : List Out) → Spoke old mid xs → Spoke mid new ys → Spoke old new (xs ++ ys)
spoke_more old mid new xs ys h k =
    let all = spoken-append old.wires xs ys in
    let same : mid.wires ≡ (spoken old.wires xs).wires = λ i. λ a c. h.wires a c i in
    record {
      lines =
          k.lines
          ∙ ap (λ (w : ℕ → ℕ → List Sent). mid.lines ++ (spoken w ys).lines) same
          ∙ ap (λ (ls : List Line). ls ++ (spoken (spoken old.wires xs).wires ys).lines) h.lines
          ∙ append_assoc old.lines (spoken old.wires xs).lines (spoken (spoken old.wires xs).wires ys).lines
          ∙ ap (λ (s : Spoken). old.lines ++ s.lines) (sym all);
      wires = λ a c. k.wires a c ∙ ap (λ (w : ℕ → ℕ → List Sent). (spoken w ys).wires a c) same ∙ ap (λ (s : Spoken). s.wires a c) (sym all);
      again = read_more xs ys h.again k.again;
    }
