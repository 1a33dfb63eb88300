-- What a run puts and its picture doesn't show is what the picture says it leaves out.
use Rattle.dm_chart.proofs.Names.{◌≡◌, ◌<◌, ◌≤◌, ℕ, ◌+◌, Bool, true, false, List, [], ◌∷◌, ◌++◌, refl, ap, sym, ◌∙◌, arith, length, ◌&&◌, if◌then◌else◌, flat_map-append, append_assoc}
use Rattle.dm_chart.proofs.Names.{Line, Letter, Role, Spot, letter_of_role, letters_of, role_of, first_spot, spot_behind}
use Rattle.std.proofs.lemmas.Bool.Decides.{nat_tests}
use Rattle.std.proofs.lemmas.List.Sums.{sum_by-cons}
use Rattle.std.proofs.Common.{cond, length-append, nat_le, nat_lt, ◌^◌, not, fold, ◌==◌}
use Rattle.dm_chart.specs.Kept.{all_groups, comes_before, hides, plus, none_kept, is_put, messages_in, rows_in, passed, left, shown, rows_fit, kept_of}
unfoldable use Rattle.dm_chart.specs.Kept.{is_put_line, keep}
use Rattle.dm_chart.specs.Laws.{PutsHaveArrows, letters_in}
use Rattle.dm_chart.specs.Spots.{one_row_more, seated, spot_after}
unfoldable use Rattle.dm_chart.specs.Spots.{shown_spot}
use Rattle.dm_chart.specs.declared.kept.Kept.{Kept}
use Rattle.dm_chart.specs.declared.role.Role.TheVariants as role
use Rattle.dm_chart.proofs.Arrows.{of-shapes}

-- a line with a row leaves one, whatever comes behind it
one_row : (n : ℕ) → 1 ≤ one_row_more n
one_row n = grind (arith, nat_tests)

packet_row : (s : Spot) (a b k n : ℕ) (t : Bool) → s.begun ≡ t → 1 ≤ s.row → 1 ≤ (spot_after s (role.Packet a b k n)).row
packet_row s a b k n true e h = rw e h
packet_row s a b k n false e h = rw e (one_row s.row)

row_stays : (s : Spot) (r : Role) → 1 ≤ s.row → 1 ≤ (spot_after s r).row
row_stays s (role.Head e) h = h
row_stays s (role.Put x) h = one_row s.row
row_stays s (role.Packet a b k n) h = packet_row s a b k n s.begun refl h
row_stays s (role.Taken a b n) h = one_row s.row
row_stays s (role.Early a b n) h = one_row s.row
row_stays s (role.Again a b n) h = one_row s.row
row_stays s (role.Note way) h = one_row (seated way s).row
row_stays s role.Unseen h = h

some_row : (s : Spot) (g : List Line) → 1 ≤ s.row → 1 ≤ (spot_behind s g).row
unfolding shown_spot
some_row s [] h = h
some_row s (l ∷ ls) h = some_row (spot_after s (role_of l)) ls (row_stays s (role_of l) h)

-- so a group without a row puts no message
none_of_role : (s : Spot) (ls : List Line) (r : Role) → ((t : Spot) → (spot_behind t ls).row ≡ 0 → letters_of ls ≡ []) → (spot_behind (spot_after s r) ls).row ≡ 0 → letter_of_role r ++ letters_of ls ≡ []
none_of_role s ls (role.Put x) go e = absurd (let some = some_row (spot_after s (role.Put x)) ls (one_row s.row) in omega (arith, some, e))
none_of_role s ls r go e = go (spot_after s r) e

no_row : (s : Spot) (g : List Line) → (spot_behind s g).row ≡ 0 → letters_of g ≡ []
unfolding shown_spot
no_row s [] none = refl
no_row s (l ∷ ls) none = none_of_role s ls (role_of l) (λ t e. no_row t ls e) none

none_put : (g : List Line) → (rows_in g == 0) ≡ true → letters_of g ≡ []
none_put g e = no_row (first_spot 0) g (zero_is (rows_in g) e)
  where
    zero_is : (n : ℕ) → (n == 0) ≡ true → n ≡ 0
    zero_is n e = grind (arith, nat_tests)

-- as many as are counted
letter_counts : (r : Role) → cond (is_put r) 1 0 ≡ length (letter_of_role r)
letter_counts (role.Put x) = refl
letter_counts r = refl

puts_counted : (g : List Line) → messages_in g ≡ length (letters_of g)
unfolding is_put_line
puts_counted [] = refl
puts_counted (l ∷ ls) =
    let more = puts_counted ls in
    let one = letter_counts (role_of l) in
    let first = sum_by-cons (λ (x : Line). cond (is_put (role_of x)) 1 0) l ls in
    let both = length-append (letter_of_role (role_of l)) (letters_of ls) in
    omega (arith, more, one, first, both)

-- sums within 64 bits
plus_none : (a : ℕ) → a < 2 ^ 64 → plus a 0 ≡ a
plus_none a h = grind (arith, nat_tests)

plus_within : (a b : ℕ) → plus a b < 2 ^ 64
plus_within a b = grind (arith, nat_tests)

plus_on : (a b c : ℕ) → plus (plus a b) c ≡ plus a (b + c)
plus_on a b c = grind (arith, nat_tests)

-- behind a group that is left out all are
record Closed (k : Kept) (gs : List (List Line)) (end : Kept) : Type 0 where
  lines : end.lines ≡ k.lines
  count : end.left_messages ≡ plus k.left_messages (length (letters_in gs))

left_more : (k : Kept) (g : List Line) (gs : List (List Line)) (end : Kept) → Closed (left k (messages_in g)) gs end → Closed k (g ∷ gs) end
left_more k g gs end h =
    let one = puts_counted g in
    let both = length-append (letters_of g) (letters_in gs) in
    let all : messages_in g + length (letters_in gs) ≡ length (letters_in (g ∷ gs)) = omega (arith, one, both) in
    record { lines = h.lines; count = h.count ∙ plus_on k.left_messages (messages_in g) (length (letters_in gs)) ∙ ap (λ (n : ℕ). plus k.left_messages n) all }

-- what is kept behind one more group
abbrev kept_by : Bool → Bool → Bool → Kept → List Line → Kept
kept_by none early fit k g = if none then passed k (messages_in g) else if early then hides k (messages_in g) g else if fit then shown k (messages_in g) (rows_in g) g else left k (messages_in g)

closed_by : (k : Kept) (g : List Line) (gs : List (List Line)) (none early fit : Bool) → ((next : Kept) → next.full ≡ true → next.left_messages < 2 ^ 64 → Closed next gs (fold keep next gs)) → k.full ≡ true → k.left_messages < 2 ^ 64
    → (rows_in g == 0) ≡ none → early ≡ false → fit ≡ false → Closed k (g ∷ gs) (fold keep (kept_by none early fit k g) gs)
closed_by k g gs true early fit go full within none late out =
    let h = go (passed k (messages_in g)) full within in
    record { lines = h.lines; count = h.count ∙ ap (λ (ls : List Letter). plus k.left_messages (length (ls ++ letters_in gs))) (sym (none_put g none)) }
closed_by k g gs false true fit go full within some late out = absurd (cc)
closed_by k g gs false false true go full within some late out = absurd (cc)
closed_by k g gs false false false go full within some late out = left_more k g gs (fold keep (left k (messages_in g)) gs) (go (left k (messages_in g)) refl (plus_within k.left_messages (messages_in g)))

closed : (k : Kept) (gs : List (List Line)) → k.full ≡ true → k.left_messages < 2 ^ 64 → Closed k gs (fold keep k gs)
unfolding keep
closed k [] full within = record { lines = refl; count = sym (plus_none k.left_messages within) }
closed k (g ∷ gs) full within =
    closed_by k g gs (rows_in g == 0) (comes_before k) (rows_fit k (rows_in g)) (λ next f w. closed next gs f w) full within refl (ap (λ (t : Bool). not t && nat_lt (plus k.groups 1) k.part.first) full)
    (ap (λ (t : Bool). not t && (nat_le (plus k.groups 1) k.part.last && nat_lt (k.rows + rows_in g) 1200)) full)

-- the first have their lines, the others are counted
record Parts (k : Kept) (gs : List (List Line)) (end : Kept) : Type 0 where
  others : List Letter
  puts : letters_of k.lines ++ letters_in gs ≡ letters_of end.lines ++ others
  count : end.left_messages ≡ plus k.left_messages (length others)

parted_by : (k : Kept) (g : List Line) (gs : List (List Line)) (none early fit : Bool) → ((next : Kept) → next.left_messages < 2 ^ 64 → Parts next gs (fold keep next gs)) → k.left_messages < 2 ^ 64 → (rows_in g == 0) ≡ none
    → Parts k (g ∷ gs) (fold keep (kept_by none early fit k g) gs)
parted_by k g gs true early fit go within none =
    let h = go (passed k (messages_in g)) within in
    record { others = h.others; puts = ap (λ (ls : List Letter). letters_of k.lines ++ (ls ++ letters_in gs)) (none_put g none) ∙ h.puts; count = h.count }
parted_by k g gs false true fit go within some =
    let h = go (hides k (messages_in g) g) within in
    record {
      others = h.others;
      puts =
          sym (append_assoc (letters_of k.lines) (letters_of g) (letters_in gs))
          ∙ ap (λ (ls : List Letter). ls ++ letters_in gs) (sym (flat_map-append (λ (l : Line). letter_of_role (role_of l)) k.lines g))
          ∙ h.puts;
      count = h.count;
    }
parted_by k g gs false false true go within some =
    let h = go (shown k (messages_in g) (rows_in g) g) within in
    record {
      others = h.others;
      puts =
          sym (append_assoc (letters_of k.lines) (letters_of g) (letters_in gs))
          ∙ ap (λ (ls : List Letter). ls ++ letters_in gs) (sym (flat_map-append (λ (l : Line). letter_of_role (role_of l)) k.lines g))
          ∙ h.puts;
      count = h.count;
    }
parted_by k g gs false false false go within some =
    let h = left_more k g gs (fold keep (left k (messages_in g)) gs) (closed (left k (messages_in g)) gs refl (plus_within k.left_messages (messages_in g))) in
    record {
      others = letters_in (g ∷ gs);
      puts = ap (λ (ls : List Line). letters_of ls ++ letters_in (g ∷ gs)) (sym h.lines);
      count = h.count;
    }

parted : (k : Kept) (gs : List (List Line)) → k.left_messages < 2 ^ 64 → Parts k gs (fold keep k gs)
unfolding keep
parted k [] within = record { others = []; puts = refl; count = sym (plus_none k.left_messages within) }
parted k (g ∷ gs) within = parted_by k g gs (rows_in g == 0) (comes_before k) (rows_fit k (rows_in g)) (λ next w. parted next gs w) within refl

-- of a picture of the whole run no line stands before the first group that is shown
one_at_least : (a : ℕ) → 1 ≤ plus a 1
one_at_least a = grind (arith, nat_tests)

none_before : (full : Bool) (n : ℕ) → 1 ≤ n → (not full && nat_lt n 1) ≡ false
none_before true n h = refl
none_before false n h = grind (arith, nat_tests)

first_comes : (k : Kept) → k.part.first ≡ 1 → comes_before k ≡ false
first_comes k first = ap (λ (n : ℕ). not k.full && nat_lt (plus k.groups 1) n) first ∙ none_before k.full (plus k.groups 1) (one_at_least k.groups)

record FromFirst (k : Kept) : Type 0 where
  first : k.part.first ≡ 1
  none : k.hidden ≡ 0

from_by : (k : Kept) (g : List Line) (none early fit : Bool) → FromFirst k → early ≡ false → FromFirst (kept_by none early fit k g)
from_by k g true early fit h late = record { first = h.first; none = h.none }
from_by k g false true fit h late = absurd (cc)
from_by k g false false true h late = record { first = h.first; none = h.none }
from_by k g false false false h late = record { first = h.first; none = h.none }

from_first : (k : Kept) (gs : List (List Line)) → FromFirst k → FromFirst (fold keep k gs)
unfolding keep
from_first k [] h = h
from_first k (g ∷ gs) h =
    from_first (kept_by (rows_in g == 0) (comes_before k) (rows_fit k (rows_in g)) k g) gs (from_by k g (rows_in g == 0) (comes_before k) (rows_fit k (rows_in g)) h (first_comes k h.first))

pub puts_arrows : PutsHaveArrows
puts_arrows machines last ps groups =
    let h = parted (none_kept all_groups) groups (omega arith) in
    record {
      others = h.others;
      puts = h.puts ∙ ap (λ (ls : List Letter). ls ++ h.others) (sym (of-shapes machines last 0 ps (kept_of all_groups groups).lines));
      none_hidden = (from_first (none_kept all_groups) groups (record { first = refl; none = refl })).none;
      left = h.count;
    }
