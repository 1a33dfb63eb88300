-- Pages: what stands before a place of one, and what is put behind it.
use Rattle.std.proofs.lemmas.List.{length-take-le, take-take, take_at}
use Rattle.std.proofs.Math.ListN.{drop}
use Rattle.dm_text.proofs.Names.{◌≡◌, ℕ, ◌≤◌, List, ◌++◌, length, take, ap, sym, ◌∙◌, arith, length-append}

-- a page whose room was lent holds what the room held in the end
pub room_back : (len : ℕ) (room items : List ℕ) → length room ≡ len → take len (room ++ drop (length room) items) ≡ room
room_back len room items e = take_at room (drop (length room) items) len e

-- what stands before a place stays where more is put behind it
pub same_before : (start at : ℕ) (old now t : List ℕ) → start ≤ length old → at ≤ length now → take at now ≡ take start old ++ t → take start now ≡ take start old
same_before start at old now t h k e =
    let n : length (take start old) ≡ start = length-take-le start old h in
    let m : length (take at now) ≡ at = length-take-le at now k in
    let g : start ≤ at = omega (arith, ap length e, length-append (take start old) t) in
    sym (take-take start at now g) ∙ ap (λ s. take start s) e ∙ take_at (take start old) t start n
