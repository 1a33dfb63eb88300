-- Where all is at rest, the lines of the end say so.
use Rattle.dm_law_moves.proofs.Names.{◌≡◌, ◌∙◌, true, List, refl, ap, subst, sym, All, All-nil, Pending, EndLine, doing_of, pending_lines, Point, ◌&&◌, ◌||◌, Bool, PlainStatus, Ready, Waiting, Moving, EndsStill, StandsStill, does_wait}
use Rattle.dm_law_moves.proofs.Names.{is_still, is_wait}
use Rattle.dm_law_moves.proofs.Settles.Rests.EndsAtRest.{Holds, ends_hold}
use Rattle.dm_law_moves.proofs.Settles.Rests.StillAlways.{still_always}

wait_same : (st : PlainStatus) → does_wait (doing_of st) ≡ is_wait st
wait_same Ready = refl
wait_same (Waiting mask base cap_) = refl
wait_same (Moving dir owner base own left pending) = refl

still_holds : (pt : Point) → StandsStill pt → Holds is_still pt
still_holds pt still = record {
  final = refl;
  ended = λ p y. refl;
  process = λ p x s alive here.
      ap (λ (c : Bool). c && (x.stopped || does_wait (doing_of x.status))) here ∙ ap (λ (c : Bool). x.stopped || c) (wait_same x.status) ∙ still.waits p x alive;
  registers = λ p x. refl;
  memory = λ p k bytes. refl;
  link = λ p k l place. refl;
  server = λ p sent. refl;
  place = λ p s here. here;
  name = λ k place. refl;
  child = λ n p m. refl;
  pending = subst (λ (rs : List Pending). All (λ (l : EndLine). is_still l ≡ true) (pending_lines rs)) (sym still.pending) (All-nil (λ (l : EndLine). is_still l ≡ true));
  queue = λ p is. refl;
  groups = λ n. refl;
}

pub ends_still : EndsStill
ends_still b es pt valid leads all =
    let still = still_always b es pt valid leads all in
    ends_hold is_still pt (still_holds pt still) still.rest
