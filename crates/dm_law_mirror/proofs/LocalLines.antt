-- The lines that a machine says hang on the wires only by the numbers of its packets.
use Rattle.dm_law_mirror.proofs.Names.{◌≡◌, ℕ, List, [], ◌∷◌, length, map, refl, ap, ◌∙◌, arith, length-append, Packet, Sent, Line, Out, Sends, with_packet, nat_tests, spoken, unnumbered}
use Rattle.dm_node.specs.declared.out.Out.TheVariants.{Says}
use Rattle.dm_node.specs.Wired.{packet_line}
use Rattle.dm_law_mirror.proofs.Outs.{AreFrom}

abbrev Wires : Type 0
Wires = ℕ → ℕ → List Sent

pub spoken_unnumbered : (v w : Wires) (outs : List Out) → map unnumbered (spoken v outs).lines ≡ map unnumbered (spoken w outs).lines
spoken_unnumbered v w [] = refl
spoken_unnumbered v w (Says l ∷ outs) = ap (λ (ls : List Line). unnumbered l ∷ ls) (spoken_unnumbered v w outs)
spoken_unnumbered v w (Sends p ∷ outs) =
    ap (λ (l : Line). l ∷ map unnumbered (spoken (with_packet v p) outs).lines) (grind (arith, nat_tests))
    ∙ ap (λ (ls : List Line). unnumbered (packet_line w p) ∷ ls) (spoken_unnumbered (with_packet v p) (with_packet w p) outs)

-- where as many packets are on the machine's wires
abbrev Long : ℕ → Wires → Wires → Type 0
Long m v w = (c : ℕ) → length (v m c) ≡ length (w m c)

pub spoken_same : (m : ℕ) (v w : Wires) (outs : List Out) → AreFrom m outs → Long m v w → (spoken v outs).lines ≡ (spoken w outs).lines
spoken_same m v w [] from h = refl
spoken_same m v w (Says l ∷ outs) from h = ap (λ (ls : List Line). l ∷ ls) (spoken_same m v w outs from h)
spoken_same m v w (Sends p ∷ outs) from h =
    let packet_long : (m : ℕ) (v w : Wires) (p : Packet) → Long m v w → Long m (with_packet v p) (with_packet w p) = λ m v w p h n. grind (arith, nat_tests, length-append) in
    ap (λ (l : Line). l ∷ (spoken (with_packet v p) outs).lines) (grind (arith, nat_tests))
    ∙ ap (λ (ls : List Line). packet_line w p ∷ ls) (spoken_same m (with_packet v p) (with_packet w p) outs from.1 (packet_long m v w p h))
