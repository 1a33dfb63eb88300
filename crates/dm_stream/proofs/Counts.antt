-- The counts of a stream are in order, and what was sent has numbers within them.
use Rattle.dm_stream.proofs.Names.{◌≡◌, ℕ, ◌+◌, ◌<◌, ◌≤◌, length, Some, arith, nat_tests, common_steps, slice_get_within, given_count, window, place, Data, Ack, load_at, Stream, Event, happens}
use Rattle.dm_stream.proofs.Packets.{load-pushed, load-marked}
use Rattle.dm_stream.proofs.Places.{place-moved_up, place-kept_same, place-kept_other}

module _ {M : Type 0} where
  pub record Counts (w : Stream M) : Type 0 where
    pub acked_taken : w.sender.acked ≤ w.receiver.count
    pub taken_gone : w.receiver.count ≤ w.sender.gone
    pub gone_given : w.sender.gone ≤ given_count w.sender
    pub given_allowed : given_count w.sender ≤ w.sender.numbers
    pub in_window : w.sender.gone ≤ w.sender.acked + window
    pub given : given_count w.sender ≡ length w.given

  -- all that is under way is within the counts
  pub record Within (w : Stream M) : Type 0 where
    pub packets : (k n : ℕ) (m : M) → load_at w.out k ≡ Some (Data n m) → n < w.sender.gone
    pub acks : (k n : ℕ) → load_at w.back k ≡ Some (Ack n) → n ≤ w.receiver.count
    pub kept : (i : ℕ) (m : M) → place w.receiver.kept i ≡ Some m → w.receiver.count + i < w.sender.gone

  pub acked_taken-happens : (w : Stream M) (e : Event M) → Within w → w.sender.acked ≤ w.receiver.count → (happens w e).sender.acked ≤ (happens w e).receiver.count
  acked_taken-happens w e h le = grind (arith, nat_tests, h.acks)

  pub taken_gone-happens : (w : Stream M) (e : Event M) → Within w → w.receiver.count ≤ w.sender.gone → (happens w e).receiver.count ≤ (happens w e).sender.gone
  taken_gone-happens w e h le = grind (arith, nat_tests, h.packets, h.kept)

  pub gone_given-happens : (w : Stream M) (e : Event M) → w.sender.gone ≤ given_count w.sender → w.sender.acked ≤ w.sender.gone → Within w → w.receiver.count ≤ w.sender.gone → (happens w e).sender.gone ≤ given_count (happens w e).sender
  gone_given-happens w e le below h taken = grind (arith, nat_tests, common_steps, h.acks, slice_get_within)

  pub given_allowed-happens : (w : Stream M) (e : Event M) → given_count w.sender ≤ w.sender.numbers → w.sender.gone ≤ given_count w.sender → w.sender.acked ≤ w.sender.gone → Within w → w.receiver.count ≤ w.sender.gone → given_count (happens w e).sender ≤ (happens w e).sender.numbers
  given_allowed-happens w e le gone below h taken = grind (arith, nat_tests, common_steps, h.acks)

  pub in_window-happens : (w : Stream M) (e : Event M) → w.sender.gone ≤ w.sender.acked + window → (happens w e).sender.gone ≤ (happens w e).sender.acked + window
  in_window-happens w e le = grind (arith, nat_tests)

  pub given-happens : (w : Stream M) (e : Event M) → given_count w.sender ≡ length w.given → w.sender.gone ≤ given_count w.sender → w.sender.acked ≤ w.sender.gone → Within w → w.receiver.count ≤ w.sender.gone → given_count (happens w e).sender ≡ length (happens w e).given
  given-happens w e le gone below h taken = grind (arith, nat_tests, common_steps, h.acks)

  pub packets-happens : (w : Stream M) (e : Event M) → Within w → (k n : ℕ) (m : M) → load_at (happens w e).out k ≡ Some (Data n m) → n < (happens w e).sender.gone
  packets-happens w e h k n m is = grind (arith, nat_tests, load-pushed, load-marked, h.packets)

  pub acks-happens : (w : Stream M) (e : Event M) → Within w → (k n : ℕ) → load_at (happens w e).back k ≡ Some (Ack n) → n ≤ (happens w e).receiver.count
  acks-happens w e h k n is = grind (arith, nat_tests, load-pushed, load-marked, h.acks)

  pub kept-happens : (w : Stream M) (e : Event M) → Within w → length w.receiver.kept ≡ 8 → w.sender.gone ≤ w.receiver.count + 8 → (i : ℕ) (m : M) → place (happens w e).receiver.kept i ≡ Some m → (happens w e).receiver.count + i < (happens w e).sender.gone
  kept-happens w e h places near i m is = grind (arith, nat_tests, place-moved_up, place-kept_same, place-kept_other, h.packets, h.kept)

  pub places-happens : (w : Stream M) (e : Event M) → length w.receiver.kept ≡ 8 → length (happens w e).receiver.kept ≡ 8
  places-happens w e places = grind (arith, nat_tests, common_steps)
