-- What stands at both ends and under way is what was given.
use Rattle.dm_stream.proofs.Names.{◌≡◌, ◌≢◌, ℕ, ◌+◌, ◌-◌, ◌<◌, ◌≤◌, List, length, take, drop, slice_get, Option, Some, append-nil, arith, nat_tests, common_steps, take-append-le, place, kept_once, Data, load_at, Stream, Event, Deliver}
use Rattle.dm_stream.proofs.Names.{happens, arrives}
use Rattle.dm_stream.proofs.Lists.{get-longer, take-next, get-drop, drop-more}
use Rattle.dm_stream.proofs.Packets.{load-pushed, load-marked}
use Rattle.dm_stream.proofs.Places.{place-moved_up, place-kept_same, place-kept_other}

module _ {M : Type 0} where
  -- each message under way, kept or not yet acknowledged is the one that was given under its number
  pub record Genuine (w : Stream M) : Type 0 where
    pub packets : (k n : ℕ) (m : M) → load_at w.out k ≡ Some (Data n m) → slice_get w.given n ≡ Some m
    pub kept : (i : ℕ) (m : M) → place w.receiver.kept i ≡ Some m → slice_get w.given (w.receiver.count + i) ≡ Some m
    pub unacked : w.sender.unacked ≡ drop w.sender.acked w.given
    pub taken : w.taken ≡ take w.receiver.count w.given

  pub unacked-happens : (w : Stream M) (e : Event M) → w.sender.acked ≤ length w.given → w.sender.unacked ≡ drop w.sender.acked w.given → (happens w e).sender.unacked ≡ drop (happens w e).sender.acked (happens w e).given
  unacked-happens w e within is = grind (arith, nat_tests, common_steps, drop-more)

  pub taken-happens : (w : Stream M) (e : Event M) → Genuine w → w.receiver.count ≤ length w.given → (happens w e).taken ≡ take (happens w e).receiver.count (happens w e).given
  taken-happens w e h within = grind (arith, nat_tests, take-append-le, append-nil, take-next, h.packets, h.kept 0, h.taken)

  pub packets-happens : (w : Stream M) (e : Event M) → Genuine w → w.sender.acked ≤ w.sender.gone → (k n : ℕ) (m : M) → load_at (happens w e).out k ≡ Some (Data n m) → slice_get (happens w e).given n ≡ Some m
  packets-happens w e h le k n m is = grind (arith, nat_tests, get-longer, load-pushed, load-marked, get-drop, h.packets, h.unacked)

  kept-early : (kept : List (Option M)) (given : List M) (count n : ℕ) (x : M) → count < n → n < count + 8 → length kept ≡ 8 → slice_get given n ≡ Some x → ((i : ℕ) (m : M) → place kept i ≡ Some m → slice_get given (count + i) ≡ Some m) → (i : ℕ) (m : M) → place (kept_once kept (n - count) x) i ≡ Some m → slice_get given (count + i) ≡ Some m
  kept-early kept given count n x low high places genuine h i m is = grind (arith, place-kept_same, place-kept_other, h)

  pub kept-arrives : (w : Stream M) (n : ℕ) (x : M) → Genuine w → slice_get w.given n ≡ Some x → n < w.receiver.count + 8 → length w.receiver.kept ≡ 8 → (i : ℕ) (m : M) → place (arrives w (Some (Data n x))).receiver.kept i ≡ Some m → slice_get w.given ((arrives w (Some (Data n x))).receiver.count + i) ≡ Some m
  kept-arrives w n x h genuine near places i m is = grind (arith, nat_tests, place-moved_up, kept-early w.receiver.kept w.given w.receiver.count n x, h.kept)

  pub kept-happens : (w : Stream M) (e : Event M) → Genuine w → ((k : ℕ) → e ≢ Deliver k) → (i : ℕ) (m : M) → place (happens w e).receiver.kept i ≡ Some m → slice_get (happens w e).given ((happens w e).receiver.count + i) ≡ Some m
  kept-happens w e h other i m is = grind (arith, nat_tests, get-longer, place-moved_up, h.kept)
