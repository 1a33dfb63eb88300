-- What was put at the end, piece after piece.
use Rattle.dm_packet.proofs.Names.{◌≡◌, ℕ, ◌+◌, ◌<◌, ◌≤◌, List, [], ◌∷◌, ◌++◌, length, get_or, take, sym, ap, subst, ◌∙◌, append_assoc, false, arith, All, flat_map, General, Link, take_at_read, append-nil, length-append, flat_map-append}
use Rattle.dm_packet.proofs.Names.{flat_map-cons, All-push, length-flat_map-take}

-- one piece behind another
pub then_put : (old mid new a b : List ℕ) → mid ≡ old ++ a → new ≡ mid ++ b → new ≡ old ++ (a ++ b)
then_put old mid new a b first second = second ∙ ap (λ (front : List ℕ). front ++ b) first ∙ append_assoc old a b

one_piece : {X : Type 0} (f : X → List ℕ) (x : X) → flat_map f (x ∷ []) ≡ f x
one_piece f x = flat_map-cons f x [] ∙ append-nil (f x)

-- the pieces so far, and the next
pub pieces_next : {X : Type 0} (f : X → List ℕ) (xs : List X) (i : ℕ) (d : X) → i < length xs → flat_map f (take (i + 1) xs) ≡ flat_map f (take i xs) ++ f (get_or xs i d)
pieces_next f xs i d lt =
    ap (flat_map f) (take_at_read xs i d lt).1 ∙ flat_map-append f (take i xs) (get_or xs i d ∷ []) ∙ ap (λ (r : List ℕ). flat_map f (take i xs) ++ r) (one_piece f (get_or xs i d))

-- what is left has room for the next piece
pub next_has_room : {X : Type 0} (f : X → List ℕ) (xs : List X) (i : ℕ) (d : X) (old now : List ℕ) → i < length xs → now ≡ old ++ flat_map f (take i xs) → length old + length (flat_map f xs) ≤ 1024 → length now + length (f (get_or xs i d)) ≤ 1024
next_has_room f xs i d old now lt so_far room =
    let len : length now ≡ length old + length (flat_map f (take i xs)) = ap length so_far ∙ length-append old (flat_map f (take i xs)) in
    omega (arith, len, room, length-flat_map-take f xs i d lt)

pub all_next : {X : Type 0} (P : X → Type 0) (xs : List X) (i : ℕ) (d : X) → i < length xs → All P (take i xs) → P (get_or xs i d) → All P (take (i + 1) xs)
all_next P xs i d lt so_far next = subst (All P) (sym (take_at_read xs i d lt).1) (All-push P (take i xs) (get_or xs i d) so_far next)

-- what stands for a link where there is none
abbrev pub no_link : Link
no_link = record {
  addr = record { pid = record { home = 0; num = 0 }; at = 0; moves = 0 };
  kind = General;
  to_kernel = false;
  code = 0;
  channel = 0;
  area = record { base = 0; len = 0; read = false; write = false };
}
