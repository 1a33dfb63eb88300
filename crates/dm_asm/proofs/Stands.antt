-- Each label stands behind the bytes of the lines before it.
use Rattle.dm_asm.proofs.Names.{ℕ, Bool, true, false, ◌+◌, ◌-◌, ◌≤◌, nat_le, ◌≡◌, refl, sym, ap, ◌∙◌, List, [], ◌∷◌, ◌++◌, length, take, append_assoc, arith, subst, suc, Option, Some, Result, Ok, Err, if◌then◌else◌, length-append}
use Rattle.dm_asm.proofs.Names.{append-nil, take-append_seam, Place, Why, TooLong, StandsBehind, assembled, from_line, places_of, with_line, with_lines, source_lines, has_label, line_size, line_value, place_from, slice_get, ◌>>=◌}
use Rattle.dm_asm.proofs.Names.{line_bytes}
use Rattle.dm_asm.proofs.Sizes.{HasLength, line-length}

-- a list with more behind it
record Goes (image whole : List ℕ) : Type 0 where
  more : List ℕ
  all : whole ≡ image ++ more

goes-on : {a b c : List ℕ} → Goes a b → Goes b c → Goes a c
goes-on {a} g h = record { more = g.more ++ h.more; all = h.all ∙ ap (λ bs. bs ++ h.more) g.all ∙ append_assoc a g.more h.more }

-- an image with a line
record Longer (image new : List ℕ) (size : ℕ) : Type 0 where
  goes : Goes image new
  length_is : length new ≡ length image + size

short-enough : (b : Bool) (image new : List ℕ) → (if b then Ok image else Err TooLong) ≡ Ok new → new ≡ image
short-enough true image new h = cc
short-enough false image new h = absurd (cc)

longer-by : (image new : List ℕ) (size : ℕ) (r : Result (List ℕ) Why) → HasLength size r → ((r >>= λ more. Ok (image ++ more)) >>= λ longer. if nat_le (length longer) 65536 then Ok longer else Err TooLong) ≡ Ok new → Longer image new size
longer-by image new size (Ok bytes) e h =
    let same : new ≡ image ++ bytes = short-enough (nat_le (length (image ++ bytes)) 65536) (image ++ bytes) new h in
    record { goes = record { more = bytes; all = same }; length_is = ap length same ∙ length-append image bytes ∙ ap (λ k. length image + k) e }
longer-by image new size (Err why) e h = absurd (cc)

longer : (places : List ℕ → Option Place) (number : ℕ) (image line new : List ℕ) → with_line places number image line ≡ Ok new → Longer image new (line_size (length image) line)
unfolding with_line
longer places number image line new h =
    longer-by image new (line_size (length image) line) (line_bytes places number (length image) line) (line-length places number (length image) line) h

-- what a first line gives, where the lines give an image
first-gives : (number : ℕ) (r : Result (List ℕ) Why) (f : List ℕ → Result (List ℕ) (ℕ × Why)) (whole : List ℕ) → from_line number r f ≡ Ok whole → (new : List ℕ) × (r ≡ Ok new) × (f new ≡ Ok whole)
first-gives number (Ok new) f whole h = (new, refl, h)
first-gives number (Err why) f whole h = absurd (cc)

-- an image is the beginning of what the lines make of it
lines-go : (places : List ℕ → Option Place) (number : ℕ) (image : List ℕ) (ls : List (List ℕ)) (whole : List ℕ) → with_lines places number image ls ≡ Ok whole → Goes image whole
lines-go places number image [] whole h = record { more = []; all = let e : whole ≡ image = cc in e ∙ sym (append-nil image) }
lines-go places number image (l ∷ ls) whole h =
    let (new, e, rest) = first-gives number (with_line places number image l) (λ new. with_lines places (number + 1) new ls) whole h in
    goes-on (longer places number image l new e).goes (lines-go places (number + 1) new ls whole rest)

-- a label among lines that follow an image
record Found (places : List ℕ → Option Place) (number : ℕ) (image : List ℕ) (ls : List (List ℕ)) (whole : List ℕ) (place : Place) : Type 0 where
  later : number ≤ place.line
  before : List ℕ
  line : List ℕ
  is_line : slice_get ls (place.line - number) ≡ Some line
  of_lines : with_lines places number image (take (place.line - number) ls) ≡ Ok before
  value : place.address ≡ line_value (length before) line
  goes : Goes before whole

-- one line more before it
one-more : {places : List ℕ → Option Place} {number : ℕ} {image new l : List ℕ} {ls : List (List ℕ)} {whole : List ℕ} {place : Place} → with_line places number image l ≡ Ok new → Found places (number + 1) new ls whole place → Found places number image (l ∷ ls) whole place
one-more {places} {number} {image} {new} {l} {ls} {whole} {place} e f =
    let k : place.line - number ≡ suc (place.line - (number + 1)) = omega (arith, f.later) in
    let step : with_lines places number image (l ∷ take (place.line - (number + 1)) ls) ≡ Ok f.before =
    ap (λ r. from_line number r (λ next. with_lines places (number + 1) next (take (place.line - (number + 1)) ls))) e ∙ f.of_lines in
    record {
      later = omega (arith, f.later);
      before = f.before;
      line = f.line;
      is_line = ap (λ i. slice_get (l ∷ ls) i) k ∙ f.is_line;
      of_lines = ap (λ i. with_lines places number image (take i (l ∷ ls))) k ∙ step;
      value = f.value;
      goes = f.goes;
    }

-- no line before it
no-more : (places : List ℕ → Option Place) (number : ℕ) (image l : List ℕ) (ls : List (List ℕ)) (whole : List ℕ) → with_lines places number image (l ∷ ls) ≡ Ok whole → Found places number image (l ∷ ls) whole (record { line = number; address = line_value (length image) l })
no-more places number image l ls whole h =
    let k : number - number ≡ 0 = omega arith in
    record {
      later = omega arith;
      before = image;
      line = l;
      is_line = ap (λ i. slice_get (l ∷ ls) i) k;
      of_lines = ap (λ i. with_lines places number image (take i (l ∷ ls))) k;
      value = refl;
      goes = lines-go places number image (l ∷ ls) whole h;
    }

-- the label of this line, or of a later one
here-or-later : (P : Place → Type 0) (b : Bool) (here place : Place) (other : Option Place) → P here → (other ≡ Some place → P place) → (if b then Some here else other) ≡ Some place → P place
here-or-later P true here place other first after h =
    let same : here ≡ place = cc in
    subst P same first
here-or-later P false here place other first after h = after h

found : (places : List ℕ → Option Place) (number : ℕ) (image : List ℕ) (ls : List (List ℕ)) (whole name : List ℕ) (place : Place) → with_lines places number image ls ≡ Ok whole → place_from number (length image) ls name ≡ Some place → Found places number image ls whole place
found places number image [] whole name place h p = absurd (cc)
found places number image (l ∷ ls) whole name place h p =
    let (new, e, rest) = first-gives number (with_line places number image l) (λ new. with_lines places (number + 1) new ls) whole h in
    let size = (longer places number image l new e).length_is in
    here-or-later (Found places number image (l ∷ ls) whole) (has_label l name) (record { line = number; address = line_value (length image) l }) place (place_from (number + 1) (length image + line_size (length image) l) ls name)
    (no-more places number image l ls whole h)
    (λ after. one-more e (found places (number + 1) new ls whole name place rest (ap (λ at. place_from (number + 1) at ls name) size ∙ after)))
    p

-- each label of a text that assembles
pub stands_behind : (text image name : List ℕ) (place : Place) → assembled text ≡ Ok image → places_of text name ≡ Some place → StandsBehind text image place
unfolding assembled places_of
stands_behind text image name place h p =
    let f = found (places_of text) 1 [] (source_lines text) image name place h p in
    record {
      before = f.before;
      line = f.line;
      is_line = f.is_line;
      of_lines = f.of_lines;
      value = f.value;
      begins = ap (take (length f.before)) f.goes.all ∙ take-append_seam f.before f.goes.more;
    }
