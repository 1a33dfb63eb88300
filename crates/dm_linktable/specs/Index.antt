-- Which slots of a table lead to which process.
use Rattle.std.specs.Prelude.{◌≡◌, ◌⊎◌, ℕ, ◌<◌, ◌≤◌, ◌^◌, List, length, slice_index_or, cond}
use Rattle.std.specs.declared.option.Option.{Option}
use Rattle.std.specs.declared.option.Option.TheVariants.{None, Some}
use Rattle.std.specs.declared.result.Result.{Result}
use Rattle.std.specs.Result.{MatchResult}
use Rattle.std.specs.declared.cmp.Ordering.TheVariants.{Less}
use Rattle.std.specs.List.{sum_by}
use Rattle.std.specs.Int.{bit_at}
use Rattle.dm_link.specs.declared.Pid.{Pid}
use Rattle.dm_link.specs.declared.Link.{Link}
use Rattle.dm_link.specs.Names.{pid_eq, pid_cmp}
use Rattle.dm_linktable.specs.declared.index.Entry.{Entry}
use Rattle.dm_linktable.specs.Slots.{link_at}

-- an entry's mask, where it is of this process
abbrev pub mask_in : Pid → Entry → ℕ
mask_in p e = cond (pid_eq e.receiver p) e.slots 0

-- the mask of a process, with a bit for each slot that leads to it
abbrev pub mask_of : List Entry → Pid → ℕ
mask_of entries p = sum_by (mask_in p) entries

-- the entries are in order, one for each process, and none of them is empty
pub record IsIndex (entries : List Entry) : Type 0 where
  pub sorted : (i j : ℕ) (d : Entry) → i < j → j < length entries → pid_cmp (slice_index_or entries i d).receiver (slice_index_or entries j d).receiver ≡ Less
  pub used : (i : ℕ) (d : Entry) → i < length entries → 0 < (slice_index_or entries i d).slots
  pub fits : (i : ℕ) (d : Entry) → i < length entries → (slice_index_or entries i d).slots < 2 ^ 128

-- what a search for this process answers: where its entry stands, or where it would, between the lower and the higher ones
abbrev pub IsPlace : List Entry → Pid → Result ℕ ℕ → Type 0
IsPlace es p r =
    MatchResult r
    (λ i. (i < length es) × ((d : Entry) → (slice_index_or es i d).receiver ≡ p))
    (λ i. (i ≤ length es) × ((k : ℕ) (d : Entry) → k < i → pid_cmp (slice_index_or es k d).receiver p ≡ Less) × ((k : ℕ) (d : Entry) → i ≤ k → k < length es → pid_cmp p (slice_index_or es k d).receiver ≡ Less))

-- 1 where the link leads to this process
abbrev pub leads : Pid → Option Link → ℕ
leads p None = 0
leads p (Some l) = cond (pid_eq l.addr.pid p) 1 0

-- the masks have a bit for each slot that leads to their process, and no other
abbrev pub Agrees : List Entry → List (Option Link) → Type 0
Agrees entries slots = (p : Pid) (s : ℕ) → bit_at (mask_of entries p) s ≡ leads p (link_at slots s)

-- a table's slots, and the index that goes with them
pub record IsTable (slots : List (Option Link)) (entries : List Entry) : Type 0 where
  pub cap : (length slots ≡ 32) ⊎ (length slots ≡ 128)
  pub index : IsIndex entries
  pub agrees : Agrees entries slots
