-- What the switchboard keeps, whatever it takes.
use Rattle.std.specs.Prelude.{◌≡◌, ◌≤◌, ◌+◌, ℕ, List, [], ◌∷◌}
use Rattle.std.proofs.Common.{refl, subst, arith}
use Rattle.std.specs.declared.option.Option.TheVariants.{Some}
use Rattle.dm_link.specs.declared.Link.{Link}
use Rattle.dm_message.specs.declared.What.{What}
use Rattle.dm_message.specs.declared.What.TheVariants as what
use Rattle.dm_switchboard.specs.Board.{Board}
use Rattle.dm_switchboard.specs.Taking.{Taken, takes, takes_request}
use Rattle.dm_replay.proofs.Bag.{IsPlain}

-- at most one message more, which the kernel without machines has
pub record KeepsBoard (b : Board) (t : Taken) : Type 0 where
  pub sent : t.board.sent ≤ b.sent + 1
  pub plain : IsPlain t.took.answer

request_keeps : (here : ℕ) (b : Board) (body : List ℕ) (links : List Link) → KeepsBoard b (takes_request here b body links)
request_keeps here b body [] = record { sent = omega arith; plain = tt }
request_keeps here b body (l ∷ ls) = record { sent = omega arith; plain = refl }

some_is : {A : Type 0} {x y : A} → Some x ≡ Some y → x ≡ y
some_is e = cc

pub board_keeps : (here : ℕ) (b : Board) (w : What) (t : Taken) → takes here b w ≡ Some t → KeepsBoard b t
board_keeps here b (what.User code channel body links) t e = subst (KeepsBoard b) (some_is e) (request_keeps here b body.items links.items)
board_keeps here b w t e = absurd (cc)
