-- The verdict on labels is a replay.
use Rattle.std.specs.Prelude.{◌≡◌, ℕ, ◌+◌, Bool, true, false, if◌then◌else◌, List, [], ◌∷◌, length}
use Rattle.std.proofs.Common.{refl, sym, ap, arith, ◌∙◌}
use Rattle.std.specs.Option.{option_map_or}
use Rattle.std.specs.declared.option.Option.{Option}
use Rattle.std.specs.declared.option.Option.TheVariants.{None, Some}
use Rattle.dm_reading.specs.Lines.{source_lines}
use Rattle.dm_onekernel.specs.declared.label.Label.{Label}
use Rattle.dm_onekernel.specs.Kernel.{OneKernel}
use Rattle.dm_onekernel.specs.Options.{bind}
use Rattle.dm_onekernel.specs.Start.{start}
use Rattle.dm_onekernel.specs.Step.{replay, step}
use Rattle.dm_labels.specs.declared.judge.Verdict.TheVariants.{Good, Refused}
use Rattle.dm_labels.specs.Exact.{FallsAt, JudgesExactly, Replays, labels_said}
use Rattle.dm_labels.specs.Judged.{judged_from, labels_in, line_step}
use Rattle.dm_labels.specs.Labels.{is_skipped, label_of}

-- what can't be
none_some : {A B : Type 0} (x : A) → None ≡ Some x → B
none_some x e = absurd (cc)

bad_good : {A : Type 0} (n m : ℕ) → Refused n ≡ Good m → A
bad_good n m e = absurd (cc)

good_bad : {A : Type 0} (n m : ℕ) → Good n ≡ Refused m → A
good_bad n m e = absurd (cc)

some_is : {A : Type 0} (x y : A) → Some x ≡ Some y → x ≡ y
some_is x y e = cc

pub good_is : (n m : ℕ) → Good n ≡ Good m → n ≡ m
good_is n m e = cc

pub line_is : (n m : ℕ) → Refused n ≡ Refused m → n ≡ m
line_is n m e = cc

-- what a line comes to, by whether it says nothing, and by the label that it says
abbrev stepped : Bool → Option Label → OneKernel → Option OneKernel
stepped c o s = if c then Some s else bind o (step s)

abbrev counted : Bool → ℕ
counted c = if c then 0 else 1

abbrev said_by : Bool → Option Label → Option (List Label) → Option (List Label)
said_by c o rest = if c then rest else bind o (λ x. bind rest (λ xs. Some (x ∷ xs)))

-- one line, and what replays behind it
record OneMore (c : Bool) (o : Option Label) (s : OneKernel) (rest : Option (List Label)) (xs : List Label) (end : OneKernel) : Type 0 where
  said : List Label
  says : said_by c o rest ≡ Some said
  many : length said ≡ counted c + length xs
  leads : replay s said ≡ Some end

one_more : (c : Bool) (o : Option Label) (s t : OneKernel) (rest : Option (List Label)) (xs : List Label) (end : OneKernel) → stepped c o s ≡ Some t → rest ≡ Some xs → replay t xs ≡ Some end
    → OneMore c o s rest xs end
one_more true o s t rest xs end goes says leads =
    record { said = xs; says = says; many = omega arith; leads = ap (λ (u : OneKernel). replay u xs) (some_is s t goes) ∙ leads }
one_more false None s t rest xs end goes says leads = none_some t goes
one_more false (Some x) s t rest xs end goes says leads =
    record {
      said = x ∷ xs;
      says = ap (λ (r : Option (List Label)). bind r (λ xs. Some (x ∷ xs))) says;
      many = omega arith;
      leads = ap (λ (u : Option OneKernel). bind u (λ t. replay t xs)) goes ∙ leads;
    }

-- labels are counted from those before on
record CountsOn (labels m : ℕ) : Type 0 where
  more : ℕ
  sum : m ≡ labels + more

counts_on : (s : OneKernel) (line labels m : ℕ) (ls : List (List ℕ)) → judged_from s line labels ls ≡ Good m → CountsOn labels m
counts_on s line labels m [] e = let same = good_is labels m e in record { more = 0; sum = omega (arith, same) }
counts_on s line labels m (l ∷ ls) e = by (line_step s l) (λ t. counts_on t (line + 1) (labels + labels_in l) m ls) e
  where
    by : (o : Option OneKernel) → ((t : OneKernel) → judged_from t (line + 1) (labels + labels_in l) ls ≡ Good m → CountsOn (labels + labels_in l) m)
        → option_map_or (λ t. judged_from t (line + 1) (labels + labels_in l) ls) o (Refused line) ≡ Good m → CountsOn labels m
    by None deep e = bad_good line m e
    by (Some t) deep e =
        let d = deep t e in
        let eq : m ≡ labels + labels_in l + d.more = d.sum in
        record { more = labels_in l + d.more; sum = omega (arith, eq) }

good_from : (s : OneKernel) (line labels n : ℕ) (ls : List (List ℕ)) → judged_from s line labels ls ≡ Good (labels + n) → Replays s ls n
good_from s line labels n [] e =
    let none = good_is labels (labels + n) e in
    record { said = []; says = refl; so_many = omega (arith, none); end = s; leads = refl }
good_from s line labels n (l ∷ ls) e = by (line_step s l) (λ t k. good_from t (line + 1) (labels + labels_in l) k ls) refl e
  where
    by : (o : Option OneKernel) → ((t : OneKernel) (k : ℕ) → judged_from t (line + 1) (labels + labels_in l) ls ≡ Good (labels + labels_in l + k) → Replays t ls k)
        → line_step s l ≡ o → option_map_or (λ t. judged_from t (line + 1) (labels + labels_in l) ls) o (Refused line) ≡ Good (labels + n) → Replays s (l ∷ ls) n
    by None deep is e = bad_good line (labels + n) e
    by (Some t) deep is e =
        let d = counts_on t (line + 1) (labels + labels_in l) (labels + n) ls e in
        let eq : labels + n ≡ labels + labels_in l + d.more = d.sum in
        let rest = deep t d.more (e ∙ ap Good eq) in
        let one = one_more (is_skipped l) (label_of l) s t (labels_said ls) rest.said rest.end is rest.says rest.leads in
        let many : length one.said ≡ labels_in l + length rest.said = one.many in
        let few : length rest.said ≡ d.more = rest.so_many in
        record { said = one.said; says = one.says; so_many = omega (arith, many, eq, few); end = rest.end; leads = one.leads }

-- and the other way round
record OneLess (c : Bool) (o : Option Label) (s : OneKernel) (rest : Option (List Label)) (ys : List Label) (end : OneKernel) : Type 0 where
  next : OneKernel
  said : List Label
  goes : stepped c o s ≡ Some next
  says : rest ≡ Some said
  many : length ys ≡ counted c + length said
  leads : replay next said ≡ Some end

less_by : (x : Label) (s : OneKernel) (xs ys : List Label) (end : OneKernel) (o : Option OneKernel) → step s x ≡ o → bind o (λ t. replay t xs) ≡ Some end → x ∷ xs ≡ ys → OneLess false (Some x) s (Some xs) ys end
less_by x s xs ys end None is e same = none_some end e
less_by x s xs ys end (Some t) is e same =
    let len : length (x ∷ xs) ≡ length ys = ap (λ (l : List Label). length l) same in
    record { next = t; said = xs; goes = is; says = refl; many = omega (arith, len); leads = e }

one_less : (c : Bool) (o : Option Label) (s : OneKernel) (rest : Option (List Label)) (ys : List Label) (end : OneKernel) → said_by c o rest ≡ Some ys → replay s ys ≡ Some end → OneLess c o s rest ys end
one_less true o s rest ys end says leads = record { next = s; said = ys; goes = refl; says = says; many = omega arith; leads = leads }
one_less false None s rest ys end says leads = none_some ys says
one_less false (Some x) s None ys end says leads = none_some ys says
one_less false (Some x) s (Some xs) ys end says leads =
    let same : x ∷ xs ≡ ys = some_is (x ∷ xs) ys says in
    less_by x s xs ys end (step s x) refl (ap (λ (l : List Label). replay s l) same ∙ leads) same

replays_from : (s : OneKernel) (line labels n : ℕ) (ls : List (List ℕ)) → Replays s ls n → judged_from s line labels ls ≡ Good (labels + n)
replays_from s line labels n [] h =
    let none : [] ≡ h.said = some_is [] h.said h.says in
    let zero : length h.said ≡ 0 = sym (ap (λ (l : List Label). length l) none) in
    let many : length h.said ≡ n = h.so_many in
    let sum : labels ≡ labels + n = omega (arith, many, zero) in
    ap Good sum
replays_from s line labels n (l ∷ ls) h =
    let one = one_less (is_skipped l) (label_of l) s (labels_said ls) h.said h.end h.says h.leads in
    let many : length h.said ≡ labels_in l + length one.said = one.many in
    let few : length h.said ≡ n = h.so_many in
    let rest : Replays one.next ls (length one.said) = record { said = one.said; says = one.says; so_many = refl; end = h.end; leads = one.leads } in
    let sum : labels + labels_in l + length one.said ≡ labels + n = omega (arith, many, few) in
    ap (λ (o : Option OneKernel). option_map_or (λ t. judged_from t (line + 1) (labels + labels_in l) ls) o (Refused line)) one.goes
    ∙ replays_from one.next (line + 1) (labels + labels_in l) (length one.said) ls rest
    ∙ ap Good sum

-- a refused line
refused_from : (s : OneKernel) (first labels line : ℕ) (ls : List (List ℕ)) → judged_from s first labels ls ≡ Refused line → FallsAt s first ls line
refused_from s first labels line [] e = good_bad labels line e
refused_from s first labels line (l ∷ ls) e = by (line_step s l) (λ t. refused_from t (first + 1) (labels + labels_in l) line ls) refl e
  where
    by : (o : Option OneKernel) → ((t : OneKernel) → judged_from t (first + 1) (labels + labels_in l) ls ≡ Refused line → FallsAt t (first + 1) ls line)
        → line_step s l ≡ o → option_map_or (λ t. judged_from t (first + 1) (labels + labels_in l) ls) o (Refused first) ≡ Refused line → FallsAt s first (l ∷ ls) line
    by None deep is e =
        let same = line_is first line e in
        record { before = []; bad = l; behind = ls; parts = refl; place = omega (arith, same); said = []; says = refl; end = s; leads = refl; falls = is }
    by (Some t) deep is e =
        let rest = deep t e in
        let one = one_more (is_skipped l) (label_of l) s t (labels_said rest.before) rest.said rest.end is rest.says rest.leads in
        let place = rest.place in
        record {
          before = l ∷ rest.before;
          bad = rest.bad;
          behind = rest.behind;
          parts = ap (λ (xs : List (List ℕ)). l ∷ xs) rest.parts;
          place = omega (arith, place);
          said = one.said;
          says = one.says;
          end = rest.end;
          leads = one.leads;
          falls = rest.falls;
        }

none_first : (n : ℕ) → n ≡ 0 + n
none_first n = omega arith

pub judges_exactly : JudgesExactly
judges_exactly = record {
  good = λ b text n e. good_from (start b) 1 0 n (source_lines text) (e ∙ ap Good (none_first n));
  replays = λ b text n h. replays_from (start b) 1 0 n (source_lines text) h ∙ ap Good (sym (none_first n));
  refused = λ b text line e. refused_from (start b) 1 0 line (source_lines text) e;
}
