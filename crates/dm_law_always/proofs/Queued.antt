-- A message that was queued.
use Rattle.dm_law_always.proofs.Names.{◌≡◌, ℕ, ◌≤◌, Bool, true, false, Option, Some, Pid, PlainMessage, PlainWhat}

abbrev pub is_user : PlainWhat → Bool
is_user (PlainWhat.User code channel body links) = true
is_user _ = false

-- it has entered, and is a user message for this process as long as it is in the bag
pub record IsQueued (n : ℕ) (p : Pid) (o : Option PlainMessage) : Type 0 where
  pub entered : 1 ≤ n
  pub is : (x : PlainMessage) → o ≡ Some x → (x.to ≡ p) × (is_user x.what ≡ true)
