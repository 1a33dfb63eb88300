-- All that stands of a stream, together, and what follows.
use Rattle.dm_stream.proofs.Names.{◌≡◌, sym, nat_lt, ℕ, ◌∙◌, ◌+◌, ◌-◌, ◌^◌, ◌<◌, ◌≤◌, true, List, [], ◌∷◌, length, slice_get, Option, Some, None, is_some, refl, inl, inr, arith, IsSome, cases_Bool, nat_tests, common_steps, gets, Receiving}
use Rattle.dm_stream.proofs.Names.{place, kept_under, Load, Data, Ack, marked, load_at, HasCome, Stream, Event, Give, GoOut, GoAgain, Deliver, TakeKept, Acknowledge, DeliverBack, OtherAck, OtherData, happens, arrives, run, start, IsThere}
use Rattle.dm_stream.proofs.Names.{StreamStands}
use Rattle.dm_stream.proofs.Counts as counts
use Rattle.dm_stream.proofs.Counts.{Counts, Within}
use Rattle.dm_stream.proofs.Packets.{load-marked, load-none}
use Rattle.dm_stream.proofs.Contents as contents
use Rattle.dm_stream.proofs.Contents.{Genuine}
use Rattle.dm_stream.proofs.Progress as progress
use Rattle.dm_stream.proofs.Progress.{Progress}

module _ {M : Type 0} where
  -- all of it, which each event keeps
  pub record Holds (w : Stream M) : Type 0 where
    pub counts : Counts w
    pub within : Within w
    pub genuine : Genuine w
    pub progress : Progress w
    pub places : length w.receiver.kept ≡ 8
    pub small : w.sender.numbers < 2 ^ 32

  near : (w : Stream M) → Counts w → w.sender.gone ≤ w.receiver.count + 8
  near w h = omega (arith, h.in_window, h.acked_taken)

  below : (w : Stream M) → Counts w → w.sender.acked ≤ w.sender.gone
  below w h = omega (arith, h.taken_gone, h.acked_taken)

  -- a packet comes, or there is none
  kept-comes : (w : Stream M) (o : Option (Load M)) → ((n : ℕ) (m : M) → o ≡ Some (Data n m) → slice_get w.given n ≡ Some m) → ((n : ℕ) (m : M) → o ≡ Some (Data n m) → n < w.receiver.count + 8) → Genuine w → length w.receiver.kept ≡ 8 → (i : ℕ) (m : M) → place (arrives w o).receiver.kept i ≡ Some m → slice_get (arrives w o).given ((arrives w o).receiver.count + i) ≡ Some m
  kept-comes w None genuine within h places i m is = h.kept i m is
  kept-comes w (Some (Data n x)) genuine within h places i m is = contents.kept-arrives w n x h (genuine n x refl) (within n x refl) places i m is
  kept-comes w (Some (Ack n)) genuine within h places i m is = h.kept i m is

  packet-near : (w : Stream M) → Counts w → Within w → (k n : ℕ) (m : M) → load_at w.out k ≡ Some (Data n m) → n < w.receiver.count + 8
  packet-near w c h k n m is = omega (arith, near w c, h.packets k n m is)

  marked-genuine : (w : Stream M) (k : ℕ) → Genuine w → Genuine (record w { out = marked w.out k })
  marked-genuine w k h = record {
    packets = λ j n m is. h.packets j n m (sym (load-marked w.out k j) ∙ is);
    kept = h.kept;
    unacked = h.unacked;
    taken = h.taken;
  }

  kept-happens : (w : Stream M) (e : Event M) → Holds w → (i : ℕ) (m : M) → place (happens w e).receiver.kept i ≡ Some m → slice_get (happens w e).given ((happens w e).receiver.count + i) ≡ Some m
  kept-happens w (Give x) h = contents.kept-happens w (Give x) h.genuine (λ k e. cc)
  kept-happens w GoOut h = contents.kept-happens w GoOut h.genuine (λ k e. cc)
  kept-happens w (GoAgain j) h = contents.kept-happens w (GoAgain j) h.genuine (λ k e. cc)
  kept-happens w (Deliver k) h = kept-comes (record w { out = marked w.out k }) (load_at w.out k) (h.genuine.packets k) (packet-near w h.counts h.within k) (marked-genuine w k h.genuine) h.places
  kept-happens w TakeKept h = contents.kept-happens w TakeKept h.genuine (λ k e. cc)
  kept-happens w Acknowledge h = contents.kept-happens w Acknowledge h.genuine (λ k e. cc)
  kept-happens w (DeliverBack j) h = contents.kept-happens w (DeliverBack j) h.genuine (λ k e. cc)
  kept-happens w (OtherAck j) h = contents.kept-happens w (OtherAck j) h.genuine (λ k e. cc)
  kept-happens w (OtherData j x) h = contents.kept-happens w (OtherData j x) h.genuine (λ k e. cc)

  small-happens : (w : Stream M) (e : Event M) → w.sender.numbers < 2 ^ 32 → (happens w e).sender.numbers < 2 ^ 32
  small-happens w e h = grind (arith, nat_tests)

  Counts-happens : (w : Stream M) (e : Event M) → Counts w → Within w → Counts (happens w e)
  Counts-happens w e c h = record {
    acked_taken = counts.acked_taken-happens w e h c.acked_taken;
    taken_gone = counts.taken_gone-happens w e h c.taken_gone;
    gone_given = counts.gone_given-happens w e c.gone_given (below w c) h c.taken_gone;
    given_allowed = counts.given_allowed-happens w e c.given_allowed c.gone_given (below w c) h c.taken_gone;
    in_window = counts.in_window-happens w e c.in_window;
    given = counts.given-happens w e c.given c.gone_given (below w c) h c.taken_gone;
  }

  Holds-happens : (w : Stream M) (e : Event M) → Holds w → Holds (happens w e)
  Holds-happens w e h = record {
    counts = Counts-happens w e h.counts h.within;
    within = record {
      packets = counts.packets-happens w e h.within;
      acks = counts.acks-happens w e h.within;
      kept = counts.kept-happens w e h.within h.places (near w h.counts);
    };
    genuine = record {
      packets = contents.packets-happens w e h.genuine (below w h.counts);
      kept = kept-happens w e h;
      unacked = contents.unacked-happens w e (omega (arith, h.counts.given)) h.genuine.unacked;
      taken = contents.taken-happens w e h.genuine (omega (arith, h.counts.given, h.counts.gone_given, h.counts.taken_gone));
    };
    progress = record {
      sent = progress.sent-happens w e h.progress;
      came = progress.came-happens w e h.within h.places (near w h.counts) h.progress;
      heard = progress.heard-happens w e h.progress;
      acked = progress.acked-happens w e h.progress;
    };
    places = counts.places-happens w e h.places;
    small = small-happens w e h.small;
  }

  -- a message at a place is kept under its number
  under-place : (r : Receiving M) (i : ℕ) (m : M) → place r.kept i ≡ Some m → kept_under r (r.count + i) ≡ Some m
  under-place r i m is = grind (arith, nat_tests)

  there-kept : (w : Stream M) (n : ℕ) → IsThere w n → w.receiver.count ≤ n → is_some (place w.receiver.kept (n - w.receiver.count)) ≡ true
  there-kept w n (inl lt) le = absurd (omega arith)
  there-kept w n (inr s) le = grind (arith, nat_tests)

  kept-there : (r : Receiving M) (n : ℕ) → r.count ≤ n → is_some (place r.kept (n - r.count)) ≡ true → IsSome (kept_under r n)
  kept-there r n le s = grind (arith, nat_tests)

  pub Holds-stands : (w : Stream M) → StreamStands w → Holds w
  Holds-stands w h = record {
    counts = record {
      acked_taken = h.in_order.acked_taken;
      taken_gone = h.in_order.taken_gone;
      gone_given = omega (arith, h.in_order.gone_given, h.counted.given);
      given_allowed = h.counted.allowed;
      in_window = h.in_order.in_window;
      given = h.counted.given;
    };
    within = record {
      packets = h.sent.data_gone;
      acks = h.sent.ack_taken;
      kept = λ i m is. h.sent.kept_gone (w.receiver.count + i) m (under-place w.receiver i m is);
    };
    genuine = record {
      packets = h.sent.data_given;
      kept = λ i m is. h.in_order.kept (w.receiver.count + i) m (under-place w.receiver i m is);
      unacked = h.in_order.unacked;
      taken = h.in_order.taken;
    };
    progress = record {
      sent = h.heard.sent;
      came = λ k n m is on le. there-kept w n (h.heard.there n (k, (m, (is, on)))) le;
      heard = λ k n is on. h.heard.heard n (k, (is, on));
      acked = h.heard.acked;
    };
    places = h.counted.places;
    small = h.counted.small;
  }

  kept-genuine : (w : Stream M) → Genuine w → (n : ℕ) (m : M) → kept_under w.receiver n ≡ Some m → slice_get w.given n ≡ Some m
  kept-genuine w h n m is = grind (arith, nat_tests, h.kept (n - w.receiver.count) m)

  kept-within : (w : Stream M) → Within w → (n : ℕ) (m : M) → kept_under w.receiver n ≡ Some m → n < w.sender.gone
  kept-within w h n m is = grind (arith, nat_tests, h.kept (n - w.receiver.count) m)

  come-there : (w : Stream M) → Progress w → (n : ℕ) → HasCome w.out n → IsThere w n
  come-there w h n c = elim (cases_Bool (nat_lt n w.receiver.count)) [
    | inl less ↦ inl (grind (arith, nat_tests))
    | inr not_less ↦
        let le : w.receiver.count ≤ n = grind (arith, nat_tests) in
        inr (kept-there w.receiver n le (h.came c.0 n c.1.0 c.1.1.0 c.1.1.1 le))
  ]

  pub StreamStands-holds : (w : Stream M) → Holds w → StreamStands w
  StreamStands-holds w h = record {
    in_order = record {
      taken = h.genuine.taken;
      kept = kept-genuine w h.genuine;
      unacked = h.genuine.unacked;
      acked_taken = h.counts.acked_taken;
      taken_gone = h.counts.taken_gone;
      gone_given = omega (arith, h.counts.gone_given, h.counts.given);
      in_window = h.counts.in_window;
    };
    sent = record {
      data_gone = h.within.packets;
      data_given = h.genuine.packets;
      kept_gone = kept-within w h.within;
      ack_taken = h.within.acks;
    };
    heard = record {
      sent = h.progress.sent;
      there = come-there w h.progress;
      heard = λ n a. h.progress.heard a.0 n a.1.0 a.1.1;
      acked = h.progress.acked;
    };
    counted = record {
      given = h.counts.given;
      allowed = h.counts.given_allowed;
      small = h.small;
      places = h.places;
    };
  }

  -- one step
  pub StreamStands-happens : (w : Stream M) (e : Event M) → StreamStands w → StreamStands (happens w e)
  StreamStands-happens w e h = StreamStands-holds (happens w e) (Holds-happens w e (Holds-stands w h))

  none-kept : (i : ℕ) (m : M) → place (start {M = M} 0).receiver.kept i ≡ Some m → ⊥
  none-kept i m is = grind (arith, gets, common_steps)

  Holds-start : (numbers : ℕ) → numbers < 2 ^ 32 → Holds (start {M = M} numbers)
  Holds-start numbers small = record {
    counts = record { acked_taken = omega arith; taken_gone = omega arith; gone_given = omega arith; given_allowed = omega arith; in_window = omega arith; given = refl };
    within = record { packets = λ k n m is. absurd (load-none k (Data n m) is); acks = λ k n is. absurd (load-none k (Ack n) is); kept = λ i m is. absurd (none-kept i m is) };
    genuine = record { packets = λ k n m is. absurd (load-none k (Data n m) is); kept = λ i m is. absurd (none-kept i m is); unacked = refl; taken = refl };
    progress = record { sent = λ n lt. absurd (omega arith); came = λ k n m is on le. absurd (load-none k (Data n m) is); heard = λ k n is on. absurd (load-none k (Ack n) is); acked = inl refl };
    places = refl;
    small = small;
  }

  pub StreamStands-start : (numbers : ℕ) → numbers < 2 ^ 32 → StreamStands (start {M = M} numbers)
  StreamStands-start numbers small = StreamStands-holds (start numbers) (Holds-start numbers small)

  StreamStands-run : (es : List (Event M)) (w : Stream M) → StreamStands w → StreamStands (run es w)
  StreamStands-run [] w h = h
  StreamStands-run (e ∷ es) w h = StreamStands-run es (happens w e) (StreamStands-happens w e h)

  pub stands : (numbers : ℕ) (es : List (Event M)) → numbers < 2 ^ 32 → StreamStands (run es (start numbers))
  stands numbers es small = StreamStands-run es (start numbers) (StreamStands-start numbers small)
