-- What a binary search finds in an index.
use Rattle.dm_linktable.proofs.Names.{◌≡◌, ℕ, ◌+◌, Result, Ok, Err, List, length, get_or, false, arith, searchable_from_sorted, IsBinarySearchResult, IsNonDecreasingBy, IsSearchInRange, is_lt, ordering_index, Less, Pid, pid_cmp, Entry}
use Rattle.dm_linktable.proofs.Names.{IsIndex, IsPlace}
use Rattle.dm_linktable.proofs.ReceiverOrder.{pid_equal, pid_greater_back, pid_less_back, pid_total}

not_less : (p q : Pid) → pid_cmp p q ≡ Less → is_lt (pid_cmp q p) ≡ false
not_less p q h = grind (arith, pid_less_back p q h)

rises : (es : List Entry) (index : IsIndex es) (p : Pid) → IsNonDecreasingBy (λ y. ordering_index (pid_cmp y.receiver p)) es
rises es index p = searchable_from_sorted pid_total (λ (e : Entry). e.receiver) es p (λ k d low high. not_less (get_or es k d).receiver (get_or es (k + 1) d).receiver (index.sorted k (k + 1) d (omega arith) high))

pub found : (es : List Entry) (index : IsIndex es) (p : Pid) (r : Result ℕ ℕ) → IsSearchInRange r (length es) → IsBinarySearchResult (λ y. pid_cmp y.receiver p) es r → IsPlace es p r
found es index p (Ok i) range h = (range, λ d. pid_equal (get_or es i d).receiver p (h d))
found es index p (Err i) range h =
    let parts = h (rises es index p) in
    (range, λ k d lt. parts.0 k d (omega arith) lt, λ k d le lt. pid_greater_back (get_or es k d).receiver p (parts.1 k d le lt))
