-- What follows where the relation stands.
use Rattle.dm_stream.proofs.Names.{◌≡◌, nat_lt, ℕ, ◌∙◌, ◌-◌, ◌<◌, ◌≤◌, List, length, take, slice_get, None, inl, inr, arith, cases_Bool, nat_tests, take_all, due, next, Data, Ack, delivered_at, HasData, Stream, IsThere, StreamStands}
use Rattle.dm_stream.proofs.Names.{MayCome, IsUnderWayOrThere, IsAnswered, IsAnswerHeard, IsAtRest, IsAllDelivered, IsAllThere}
use Rattle.dm_stream.proofs.Lists.{front-none}
use Rattle.dm_stream.proofs.Packets.{load-within}

module _ {M : Type 0} where
  pub MayCome-stands : (w : Stream M) → StreamStands w → MayCome w
  MayCome-stands w h = record {
    in_window = λ k n m is. omega (arith, h.sent.data_gone k n m is, h.in_order.in_window, h.in_order.acked_taken);
    numbered = λ k n m is. omega (arith, h.sent.data_gone k n m is, h.in_order.gone_given, h.counted.given, h.counted.allowed, h.counted.small);
    ack = λ k n is. omega (arith, h.sent.ack_taken k n is, h.in_order.taken_gone);
  }

  -- its packet was never delivered, or has come
  pub UnderWay-stands : (w : Stream M) (n : ℕ) → StreamStands w → n < w.sender.gone → IsUnderWayOrThere w n
  UnderWay-stands w n h lt =
      let s : (m : M) × HasData w.out n m = h.heard.sent n lt in
      elim (cases_Bool (delivered_at w.out s.1.0)) [
        | inl on ↦ inr (h.heard.there n (s.1.0, (s.0, (s.1.1, on))))
        | inr off ↦ inl (s.1.0, (s.0, (s.1.1, off)))
      ]

  answer-heard : (w : Stream M) → IsAllDelivered w → IsAnswered w → IsAnswerHeard w
  answer-heard w d (inl none) = inl none
  answer-heard w d (inr a) = inr (a.0, (a.1, d.back a.0 (load-within w.back a.0 (Ack w.receiver.count) a.1)))

  pub IsAtRest-stands : (w : Stream M) → StreamStands w → IsAllDelivered w → IsAtRest w
  IsAtRest-stands w h d = record {
    none_due = d.none_due;
    none_next = d.none_next;
    all_came = λ n lt.
        let s : (m : M) × HasData w.out n m = h.heard.sent n lt in
        (s.1.0, (s.0, (s.1.1, d.out s.1.0 (load-within w.out s.1.0 (Data n s.0) s.1.1))));
    count_heard = answer-heard w d d.answered;
  }

  next-there : (w : Stream M) → next w.receiver ≡ None → IsThere w w.receiver.count → ⊥
  next-there w none (inl lt) = omega arith
  next-there w none (inr s) = grind (arith, nat_tests)

  -- the next message would have come, and would be kept
  all-taken : (w : Stream M) → StreamStands w → IsAtRest w → w.sender.gone ≤ w.receiver.count
  all-taken w h r = elim (cases_Bool (nat_lt w.receiver.count w.sender.gone)) [
    | inl less ↦ absurd (next-there w r.none_next (h.heard.there w.receiver.count (r.all_came w.receiver.count (grind (arith, nat_tests)))))
    | inr not_less ↦ grind (arith, nat_tests)
  ]

  count-acked : (w : Stream M) → StreamStands w → IsAnswerHeard w → w.receiver.count ≤ w.sender.acked
  count-acked w h (inl none) = omega arith
  count-acked w h (inr a) = h.heard.heard w.receiver.count a

  -- all that went out is acknowledged
  all-acked : (w : Stream M) → StreamStands w → IsAtRest w → w.sender.gone ≡ w.sender.acked
  all-acked w h r = omega (arith, all-taken w h r, count-acked w h r.count_heard, h.in_order.acked_taken, h.in_order.taken_gone)

  none-waits : (w : Stream M) → w.sender.gone ≡ w.sender.acked → due w.sender ≡ None → slice_get w.sender.unacked (w.sender.gone - w.sender.acked) ≡ None
  none-waits w is none = grind (arith, nat_tests)

  -- a message that waits could go out
  all-gone : (w : Stream M) → StreamStands w → IsAtRest w → length w.sender.unacked ≡ 0
  all-gone w h r = front-none w.sender.unacked (w.sender.gone - w.sender.acked) (omega (arith, all-acked w h r)) (none-waits w (all-acked w h r) r.none_due)

  all-given : (w : Stream M) → StreamStands w → IsAtRest w → w.sender.acked ≡ length w.given
  all-given w h r = omega (arith, all-gone w h r, h.counted.given)

  taken-all : (xs ys : List M) (n : ℕ) → length ys ≤ n → xs ≡ take n ys → xs ≡ ys
  taken-all xs ys n le is = is ∙ take_all n ys le

  pub IsAllThere-stands : (w : Stream M) → StreamStands w → IsAtRest w → IsAllThere w
  IsAllThere-stands w h r = record {
    taken = taken-all w.taken w.given w.receiver.count (omega (arith, all-given w h r, h.in_order.acked_taken)) h.in_order.taken;
    acked = all-given w h r;
  }
