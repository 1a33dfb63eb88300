-- A row of the table is among all rows.
use Rattle.dm_shape.proofs.Imports.{◌≡◌, ℕ, zero, suc, Bool, true, false, ◌||◌, List, [], ◌∷◌, refl, ap, ◌∙◌, Some, list_any, slice_get, Shape, is_row, row_of, all_shapes}
use Rattle.dm_shape.specs.declared.shape.Shape.TheVariants as shape
use Rattle.dm_shape.specs.declared.shape.HeadShape.TheVariants as head_shape
use Rattle.dm_shape.specs.declared.shape.KernelShape.TheVariants as kernel_shape
use Rattle.dm_shape.specs.declared.shape.GroupShape.TheVariants as group_shape
use Rattle.dm_shape.specs.declared.shape.EndShape.TheVariants as end_shape

or_true : (a b : Bool) → b ≡ true → (a || b) ≡ true
or_true true b e = refl
or_true false b e = e

first_passes : (a b : Bool) → a ≡ true → (a || b) ≡ true
first_passes a b e = ap (λ (x : Bool). x || b) e

passes_at : {X : Type 0} (test : X → Bool) (xs : List X) (k : ℕ) (x : X) → slice_get xs k ≡ Some x → test x ≡ true → list_any test xs ≡ true
passes_at test [] k x is e = absurd (cc)
passes_at test (y ∷ ys) zero x is e = let f : y ≡ x = cc in first_passes (test y) (list_any test ys) (ap test f ∙ e)
passes_at test (y ∷ ys) (suc k) x is e = or_true (test y) (list_any test ys) (passes_at test ys k x is e)

-- what passes for a shape passes for one of all shapes
pub listed : (test : Shape → Bool) (s : Shape) → test s ≡ true → list_any test all_shapes ≡ true
listed test (shape.Head head_shape.Turn) e = passes_at test all_shapes 0 (shape.Head head_shape.Turn) refl e
listed test (shape.Head head_shape.Tick) e = passes_at test all_shapes 1 (shape.Head head_shape.Tick) refl e
listed test (shape.Head head_shape.Deliver) e = passes_at test all_shapes 2 (shape.Head head_shape.Deliver) refl e
listed test (shape.Head head_shape.Migrate) e = passes_at test all_shapes 3 (shape.Head head_shape.Migrate) refl e
listed test (shape.Head head_shape.CallOff) e = passes_at test all_shapes 4 (shape.Head head_shape.CallOff) refl e
listed test (shape.Kernel kernel_shape.Ran) e = passes_at test all_shapes 5 (shape.Kernel kernel_shape.Ran) refl e
listed test (shape.Kernel kernel_shape.Call) e = passes_at test all_shapes 6 (shape.Kernel kernel_shape.Call) refl e
listed test (shape.Kernel kernel_shape.Send) e = passes_at test all_shapes 7 (shape.Kernel kernel_shape.Send) refl e
listed test (shape.Kernel kernel_shape.Wait) e = passes_at test all_shapes 8 (shape.Kernel kernel_shape.Wait) refl e
listed test (shape.Kernel kernel_shape.Out) e = passes_at test all_shapes 9 (shape.Kernel kernel_shape.Out) refl e
listed test (shape.Kernel kernel_shape.End) e = passes_at test all_shapes 10 (shape.Kernel kernel_shape.End) refl e
listed test (shape.Kernel kernel_shape.Receive) e = passes_at test all_shapes 11 (shape.Kernel kernel_shape.Receive) refl e
listed test (shape.Kernel kernel_shape.Refuse) e = passes_at test all_shapes 12 (shape.Kernel kernel_shape.Refuse) refl e
listed test (shape.Kernel kernel_shape.Dropped) e = passes_at test all_shapes 13 (shape.Kernel kernel_shape.Dropped) refl e
listed test (shape.Kernel kernel_shape.Served) e = passes_at test all_shapes 14 (shape.Kernel kernel_shape.Served) refl e
listed test (shape.Kernel kernel_shape.Gone) e = passes_at test all_shapes 15 (shape.Kernel kernel_shape.Gone) refl e
listed test (shape.Kernel kernel_shape.Took) e = passes_at test all_shapes 16 (shape.Kernel kernel_shape.Took) refl e
listed test (shape.Kernel kernel_shape.Created) e = passes_at test all_shapes 17 (shape.Kernel kernel_shape.Created) refl e
listed test (shape.Kernel kernel_shape.NoSpace) e = passes_at test all_shapes 18 (shape.Kernel kernel_shape.NoSpace) refl e
listed test (shape.Kernel kernel_shape.Asked) e = passes_at test all_shapes 19 (shape.Kernel kernel_shape.Asked) refl e
listed test (shape.Kernel kernel_shape.Answered) e = passes_at test all_shapes 20 (shape.Kernel kernel_shape.Answered) refl e
listed test (shape.Group group_shape.Idle) e = passes_at test all_shapes 21 (shape.Group group_shape.Idle) refl e
listed test (shape.Group group_shape.Put) e = passes_at test all_shapes 22 (shape.Group group_shape.Put) refl e
listed test (shape.Group group_shape.Packet) e = passes_at test all_shapes 23 (shape.Group group_shape.Packet) refl e
listed test (shape.Group group_shape.Taken) e = passes_at test all_shapes 24 (shape.Group group_shape.Taken) refl e
listed test (shape.Group group_shape.Old) e = passes_at test all_shapes 25 (shape.Group group_shape.Old) refl e
listed test (shape.Group group_shape.Early) e = passes_at test all_shapes 26 (shape.Group group_shape.Early) refl e
listed test (shape.Group group_shape.Acked) e = passes_at test all_shapes 27 (shape.Group group_shape.Acked) refl e
listed test (shape.Group group_shape.Nothing) e = passes_at test all_shapes 28 (shape.Group group_shape.Nothing) refl e
listed test (shape.Group group_shape.Resent) e = passes_at test all_shapes 29 (shape.Group group_shape.Resent) refl e
listed test (shape.Group group_shape.Queued) e = passes_at test all_shapes 30 (shape.Group group_shape.Queued) refl e
listed test (shape.Group group_shape.Held) e = passes_at test all_shapes 31 (shape.Group group_shape.Held) refl e
listed test (shape.Group group_shape.Forwarded) e = passes_at test all_shapes 32 (shape.Group group_shape.Forwarded) refl e
listed test (shape.Group group_shape.Updated) e = passes_at test all_shapes 33 (shape.Group group_shape.Updated) refl e
listed test (shape.Group group_shape.Buried) e = passes_at test all_shapes 34 (shape.Group group_shape.Buried) refl e
listed test (shape.Group group_shape.Stage) e = passes_at test all_shapes 35 (shape.Group group_shape.Stage) refl e
listed test (shape.Group group_shape.SentOn) e = passes_at test all_shapes 36 (shape.Group group_shape.SentOn) refl e
listed test (shape.Group group_shape.Lacks) e = passes_at test all_shapes 37 (shape.Group group_shape.Lacks) refl e
listed test (shape.Group group_shape.Called) e = passes_at test all_shapes 38 (shape.Group group_shape.Called) refl e
listed test (shape.Group group_shape.Stays) e = passes_at test all_shapes 39 (shape.Group group_shape.Stays) refl e
listed test (shape.Group group_shape.Here) e = passes_at test all_shapes 40 (shape.Group group_shape.Here) refl e
listed test (shape.Group group_shape.NoMove) e = passes_at test all_shapes 41 (shape.Group group_shape.NoMove) refl e
listed test (shape.Group group_shape.Stale) e = passes_at test all_shapes 42 (shape.Group group_shape.Stale) refl e
listed test (shape.Group group_shape.Proto) e = passes_at test all_shapes 43 (shape.Group group_shape.Proto) refl e
listed test (shape.Group group_shape.NoChild) e = passes_at test all_shapes 44 (shape.Group group_shape.NoChild) refl e
listed test (shape.Group group_shape.Away) e = passes_at test all_shapes 45 (shape.Group group_shape.Away) refl e
listed test (shape.Group group_shape.NoCall) e = passes_at test all_shapes 46 (shape.Group group_shape.NoCall) refl e
listed test (shape.End end_shape.Final) e = passes_at test all_shapes 47 (shape.End end_shape.Final) refl e
listed test (shape.End end_shape.Ended) e = passes_at test all_shapes 48 (shape.End end_shape.Ended) refl e
listed test (shape.End end_shape.Ready) e = passes_at test all_shapes 49 (shape.End end_shape.Ready) refl e
listed test (shape.End end_shape.Waiting) e = passes_at test all_shapes 50 (shape.End end_shape.Waiting) refl e
listed test (shape.End end_shape.Moving) e = passes_at test all_shapes 51 (shape.End end_shape.Moving) refl e
listed test (shape.End end_shape.Registers) e = passes_at test all_shapes 52 (shape.End end_shape.Registers) refl e
listed test (shape.End end_shape.Memory) e = passes_at test all_shapes 53 (shape.End end_shape.Memory) refl e
listed test (shape.End end_shape.Link) e = passes_at test all_shapes 54 (shape.End end_shape.Link) refl e
listed test (shape.End end_shape.Server) e = passes_at test all_shapes 55 (shape.End end_shape.Server) refl e
listed test (shape.End end_shape.Place) e = passes_at test all_shapes 56 (shape.End end_shape.Place) refl e
listed test (shape.End end_shape.Name) e = passes_at test all_shapes 57 (shape.End end_shape.Name) refl e
listed test (shape.End end_shape.Child) e = passes_at test all_shapes 58 (shape.End end_shape.Child) refl e
listed test (shape.End end_shape.Pending) e = passes_at test all_shapes 59 (shape.End end_shape.Pending) refl e
listed test (shape.End end_shape.Queue) e = passes_at test all_shapes 60 (shape.End end_shape.Queue) refl e
listed test (shape.End end_shape.Holding) e = passes_at test all_shapes 61 (shape.End end_shape.Holding) refl e
listed test (shape.End end_shape.Inbox) e = passes_at test all_shapes 62 (shape.End end_shape.Inbox) refl e
listed test (shape.End end_shape.Stream) e = passes_at test all_shapes 63 (shape.End end_shape.Stream) refl e
listed test (shape.End end_shape.Groups) e = passes_at test all_shapes 64 (shape.End end_shape.Groups) refl e

-- words are those of a row
abbrev pub has_row : List (List ℕ) → Bool
has_row ws = list_any (λ s. is_row (row_of s) ws) all_shapes
