-- Worked cases of the definitions: each computes.
use Rattle.dm_stream.proofs.Names.{◌≡◌, ℕ, List, [], ◌∷◌, length, None, Some, refl, due, outstanding, kept_under, Ack, load_at, Event, Give, GoOut, Deliver, TakeKept, Acknowledge, DeliverBack, OtherAck, run, start}

-- two messages, whose packets come as 1, 0, 1: the first is kept, the second lets both be taken, the third is old
abbrev reordered : List (Event ℕ)
reordered = Give 10 ∷ Give 11 ∷ GoOut ∷ GoOut ∷ Deliver 1 ∷ Acknowledge ∷ Deliver 0 ∷ TakeKept ∷ TakeKept ∷ Acknowledge ∷ Deliver 1 ∷ Acknowledge ∷ []

reordered-taken : (run reordered (start 100)).taken ≡ 10 ∷ 11 ∷ []
unfolding load_at
reordered-taken = refl

reordered-answer : load_at (run reordered (start 100)).back 1 ≡ Some (Ack 2)
unfolding load_at
reordered-answer = refl

-- an early message stands under its number, before the first is taken
early-kept : kept_under {M = ℕ} (run (Give 10 ∷ Give 11 ∷ GoOut ∷ GoOut ∷ Deliver 1 ∷ []) (start 100)).receiver 1 ≡ Some 11
unfolding load_at
early-kept = refl

-- nine messages: eight go out, and the ninth once one is acknowledged
abbrev nine : List (Event ℕ)
nine =
    Give 0 ∷ Give 1 ∷ Give 2 ∷ Give 3 ∷ Give 4 ∷ Give 5 ∷ Give 6 ∷ Give 7 ∷ Give 8 ∷ GoOut ∷ GoOut ∷ GoOut ∷ GoOut ∷ GoOut ∷ GoOut ∷ GoOut ∷ GoOut ∷ GoOut ∷ []

nine-packets : length (run nine (start 100)).out ≡ 8
nine-packets = refl

nine-due : due (run nine (start 100)).sender ≡ None
nine-due = refl

nine-first : due (run (Deliver 0 ∷ Acknowledge ∷ DeliverBack 0 ∷ []) (run nine (start 100))).sender ≡ Some (8, 8)
unfolding load_at
nine-first = refl

nine-outstanding : outstanding (run nine (start 100)).sender 7 ≡ Some (7, 7)
nine-outstanding = refl

-- three numbers: the fourth message isn't given
worn : (run {M = ℕ} (Give 10 ∷ Give 11 ∷ Give 12 ∷ Give 13 ∷ []) (start 3)).given ≡ 10 ∷ 11 ∷ 12 ∷ []
worn = refl

-- the other stream's acknowledgement on the wire out is no message of this one
other : (run {M = ℕ} (Give 10 ∷ OtherAck 0 ∷ GoOut ∷ Deliver 0 ∷ Deliver 1 ∷ []) (start 3)).taken ≡ 10 ∷ []
unfolding load_at
other = refl
