-- What is noted of directives, against what they have done.
use Rattle.std.specs.Prelude.{◌≡◌, ◌<◌, ◌≤◌, ◌+◌, ◌-◌, ℕ, suc, Bool, true, false, ◌||◌, ◌⊎◌, List, [], ◌∷◌, ◌++◌, length, take, drop, get_or}
use Rattle.std.specs.List.{list_any}
use Rattle.std.proofs.Common.{refl, sym, ap, ◌∙◌, subst, inl, inr, arith, append_assoc, append-nil, length-append}
use Rattle.std.proofs.lemmas.Bool.{cases_eq}
use Rattle.std.proofs.lemmas.List.{take_all, take_more, take_at, drop_at, get_or_at}
use Rattle.std.proofs.lemmas.List.Elements.{filter_map-append}
use Rattle.std.proofs.lemmas.List.Folds.{list_any-append, list_any_at}
use Rattle.dm_schedule.specs.declared.Step.{Step}
use Rattle.dm_line.specs.declared.line.Line.{Line}
use Rattle.dm_line.specs.declared.line.Line.TheVariants as line
use Rattle.dm_line.specs.declared.line.Load.{Load}
use Rattle.dm_explore.specs.declared.past.Done.{Done}
use Rattle.dm_explore.specs.declared.past.Past.{Past as ThePast}
use Rattle.dm_explore.specs.declared.past.Put.{Put}
use Rattle.dm_explore.specs.Noted.{IsPast, NotedIn, noted}
use Rattle.dm_explore.specs.Past.{Did, acknowledges, comes_again, count_of, one_if, put_in, puts_in, repeats, sent}

-- what is noted of a directive behind these
abbrev pub done_of : List Did → Did → Done
done_of ds d = record { step = d.step; machine = d.machine; away = d.away; again = comes_again ds d.step; first = length (sent ds); behind = length (sent ds) + length (puts_in d.lines) }

-- tests of what was noted
either : (s t : Bool) → (s || (t || false)) ≡ (t || s)
either true true = refl
either true false = refl
either false true = refl
either false false = refl

pub noted_any : (test : Step → Bool) (ds : List Did) → list_any (λ (x : Done). test x.step) (noted ds) ≡ list_any (λ (d : Did). test d.step) ds
noted_any test [] = refl
noted_any test (d ∷ ds) =
    list_any-append (λ (x : Done). test x.step) (noted ds) (done_of ds d ∷ [])
    ∙ ap (λ t. t || (test d.step || false)) (noted_any test ds) ∙ either (list_any (λ (d : Did). test d.step) ds) (test d.step)

-- counts of what passes a test, one more at the end
pub count_push : {X : Type 0} (test : X → Bool) (xs : List X) (x : X) → count_of test (xs ++ x ∷ []) ≡ count_of test xs + one_if (test x)
count_push test [] x = refl
count_push test (y ∷ xs) x = let h = count_push test xs x in omega arith

pub count_more : {X : Type 0} (test : X → Bool) (xs : List X) (i : ℕ) (d : X) → i < length xs → count_of test (take (i + 1) xs) ≡ count_of test (take i xs) + one_if (test (get_or xs i d))
count_more test xs i d lt = ap (count_of test) (take_more xs i d lt) ∙ count_push test (take i xs) (get_or xs i d)

pub count_few : {X : Type 0} (test : X → Bool) (xs : List X) → count_of test xs ≤ length xs
count_few test [] = omega arith
count_few test (x ∷ xs) = by (test x) (count_few test xs)
  where
    by : (t : Bool) → count_of test xs ≤ length xs → count_of test xs + one_if t ≤ suc (length xs)
    by true h = omega arith
    by false h = omega arith

pub noted_count : (test : Step → Bool) (ds : List Did) → count_of (λ (x : Done). test x.step) (noted ds) ≡ count_of (λ (d : Did). test d.step) ds
noted_count test [] = refl
noted_count test (d ∷ ds) =
    count_push (λ (x : Done). test x.step) (noted ds) (done_of ds d)
    ∙ ap (λ n. n + one_if (test d.step)) (noted_count test ds)

pub noted_repeats : (ds : List Did) → count_of (λ (x : Done). x.again) (noted ds) ≡ repeats ds
noted_repeats [] = refl
noted_repeats (d ∷ ds) =
    count_push (λ (x : Done). x.again) (noted ds) (done_of ds d)
    ∙ ap (λ n. n + one_if (comes_again ds d.step)) (noted_repeats ds)

pub noted_length : (ds : List Did) → length (noted ds) ≡ length ds
noted_length [] = refl
noted_length (d ∷ ds) =
    let one = length-append (noted ds) (done_of ds d ∷ []) in
    let rest = noted_length ds in
    omega arith

-- the element at a place passes, or doesn't
pub counted_yes : {X : Type 0} (test : X → Bool) (xs : List X) (i : ℕ) (d : X) (n : ℕ) → i < length xs → test (get_or xs i d) ≡ true → n ≡ count_of test (take i xs) → n + 1 ≡ count_of test (take (i + 1) xs)
counted_yes test xs i d n lt is h = let more = count_more test xs i d lt in let one = ap one_if is in omega arith

pub counted_no : {X : Type 0} (test : X → Bool) (xs : List X) (i : ℕ) (d : X) (n : ℕ) → i < length xs → test (get_or xs i d) ≡ false → n ≡ count_of test (take i xs) → n ≡ count_of test (take (i + 1) xs)
counted_no test xs i d n lt is h = let more = count_more test xs i d lt in let none = ap one_if is in omega arith

pub counted_all : {X : Type 0} (test : X → Bool) (xs : List X) (i n : ℕ) → length xs ≤ i → n ≡ count_of test (take i xs) → n ≡ count_of test xs
counted_all test xs i n past h = h ∙ ap (count_of test) (take_all i xs past)

-- one that was noted passes, or none does
pub noted_yes : (test : Step → Bool) (done : List Done) (ds : List Did) (i : ℕ) (x : Done) → i < length done → test (get_or done i x).step ≡ true → done ≡ noted ds → true ≡ list_any (λ (d : Did). test d.step) ds
noted_yes test done ds i x lt is h = sym (list_any_at (λ (y : Done). test y.step) done i x lt is) ∙ (ap (list_any (λ (y : Done). test y.step)) h ∙ noted_any test ds)

pub noted_no : (test : Step → Bool) (done : List Done) (ds : List Did) (i : ℕ) → length done ≤ i → list_any (λ (y : Done). test y.step) (take i done) ≡ false → done ≡ noted ds → false ≡ list_any (λ (d : Did). test d.step) ds
noted_no test done ds i past none h = sym none ∙ (ap (list_any (λ (y : Done). test y.step)) (take_all i done past) ∙ (ap (list_any (λ (y : Done). test y.step)) h ∙ noted_any test ds))

-- packets of one line more
pub puts_more : (ls : List Line) (i : ℕ) (d : Line) → i < length ls → puts_in (take (i + 1) ls) ≡ puts_in (take i ls) ++ puts_in (get_or ls i d ∷ [])
puts_more ls i d lt = ap puts_in (take_more ls i d lt) ∙ filter_map-append put_in (take i ls) (get_or ls i d ∷ [])

-- a line that says a packet adds it, and any other nothing
pub line_put : (ls : List Line) (i : ℕ) (d : Line) (from to k : ℕ) (load : Load) (acks : Bool) (base old new : List Put) → i < length ls → get_or ls i d ≡ line.Packet from to k load → acks ≡ acknowledges load → old ≡ base ++ puts_in (take i ls)
    → new ≡ old ++ record { from = from; to = to; k = k; acks = acks } ∷ [] → new ≡ base ++ puts_in (take (i + 1) ls)
line_put ls i d from to k load acks base old new lt is ack h added =
    let one : puts_in (get_or ls i d ∷ []) ≡ record { from = from; to = to; k = k; acks = acks } ∷ [] = ap (λ l. puts_in (l ∷ [])) is ∙ ap (λ (t : Bool). record { from = from; to = to; k = k; acks = t } ∷ []) (sym ack) in
    added ∙ (ap (λ ps. ps ++ record { from = from; to = to; k = k; acks = acks } ∷ []) h
    ∙ (append_assoc base (puts_in (take i ls)) (record { from = from; to = to; k = k; acks = acks } ∷ []) ∙ (ap (λ ps. base ++ (puts_in (take i ls) ++ ps)) (sym one) ∙ ap (λ ps. base ++ ps) (sym (puts_more ls i d lt)))))

none_put : (l : Line) → ((from to k : ℕ) (load : Load) → l ≡ line.Packet from to k load → ⊥) → puts_in (l ∷ []) ≡ []
none_put (line.Packet from to k load) h = absurd (h from to k load refl)
none_put l h = refl

pub line_other : (ls : List Line) (i : ℕ) (d : Line) (base old new : List Put) → i < length ls → ((from to k : ℕ) (load : Load) → get_or ls i d ≡ line.Packet from to k load → ⊥) → old ≡ base ++ puts_in (take i ls) → new ≡ old → new ≡ base ++ puts_in (take (i + 1) ls)
line_other ls i d base old new lt other h same =
    same ∙ (h ∙ ap (λ ps. base ++ ps) (sym (append-nil (puts_in (take i ls))) ∙ (ap (λ ps. puts_in (take i ls) ++ ps) (sym (none_put (get_or ls i d) other)) ∙ sym (puts_more ls i d lt))))

-- one of them, by how many came before it
pub record At (ds : List Did) (n : ℕ) : Type 0 where
  pub did : Did
  pub before : List Did
  pub later : List Did
  pub is : ds ≡ later ++ did ∷ before
  pub place : length before ≡ n

pub one_at : (ds : List Did) (n : ℕ) → n < length ds → At ds n
one_at [] n lt = absurd (omega arith)
one_at (d ∷ ds) n lt = by (cases_eq n (length ds)) (λ less. one_at ds n less)
  where
    by : (n ≡ length ds) ⊎ (n ≡ length ds → ⊥) → (n < length ds → At ds n) → At (d ∷ ds) n
    by (inl e) earlier = record { did = d; before = ds; later = []; is = refl; place = sym e }
    by (inr other) earlier =
        let less : n < length ds = omega arith in
        let a = earlier less in
        record { did = a.did; before = a.before; later = d ∷ a.later; is = ap (λ (es : List Did). d ∷ es) a.is; place = a.place }

-- what is noted of it stands there, and its packets behind those of the ones before
pub record NotedThere (later : List Did) (d : Did) (before : List Did) : Type 0 where
  pub behind : List Done
  pub done : noted (later ++ d ∷ before) ≡ noted before ++ done_of before d ∷ behind
  pub more : List Put
  pub puts : sent (later ++ d ∷ before) ≡ sent before ++ (puts_in d.lines ++ more)

pub noted_there : (later : List Did) (d : Did) (before : List Did) → NotedThere later d before
noted_there [] d before = record { behind = []; done = refl; more = []; puts = ap (λ ps. sent before ++ ps) (sym (append-nil (puts_in d.lines))) }
noted_there (u ∷ us) d before =
    let h = noted_there us d before in
    record {
      behind = h.behind ++ done_of (us ++ d ∷ before) u ∷ [];
      done = ap (λ xs. xs ++ done_of (us ++ d ∷ before) u ∷ []) h.done ∙ append_assoc (noted before) (done_of before d ∷ h.behind) (done_of (us ++ d ∷ before) u ∷ []);
      more = h.more ++ puts_in u.lines;
      puts = ap (λ ps. ps ++ puts_in u.lines) h.puts ∙ (append_assoc (sent before) (puts_in d.lines ++ h.more) (puts_in u.lines) ∙ ap (λ ps. sent before ++ ps) (append_assoc (puts_in d.lines) h.more (puts_in u.lines)));
    }

-- what the code finds noted at a place
pub record Earlier (p : ThePast) (ds : List Did) (n : ℕ) (x : Done) : Type 0 where
  pub did : Did
  pub before : List Did
  pub here : drop (length ds - suc n) ds ≡ did ∷ before
  pub behind : drop (length ds - n) ds ≡ before
  pub noted_ : NotedIn did x p.puts.items
  pub ordered : x.first ≤ x.behind
  pub within : x.behind ≤ length p.puts.items

earlier_of : (p : ThePast) (later before : List Did) (d : Did) → IsPast p (later ++ d ∷ before) → Earlier p (later ++ d ∷ before) (length before) (done_of before d)
earlier_of p later before d h =
    let t = noted_there later d before in
    let long = length-append later (d ∷ before) in
    let past_it : drop (length (later ++ d ∷ before) - suc (length before)) (later ++ d ∷ before) ≡ d ∷ before = drop_at later (d ∷ before) (length (later ++ d ∷ before) - suc (length before)) (omega arith) in
    let over_it : drop (length (later ++ d ∷ before) - length before) (later ++ d ∷ before) ≡ before =
    ap (λ n. drop n (later ++ d ∷ before)) (let same : length (later ++ d ∷ before) - length before ≡ length (later ++ d ∷ []) = let one = length-append later (d ∷ []) in omega arith in same)
    ∙ (ap (drop (length (later ++ d ∷ []))) (sym (append_assoc later (d ∷ []) before)) ∙ drop_at (later ++ d ∷ []) before (length (later ++ d ∷ [])) refl)
    in
    let puts : p.puts.items ≡ sent before ++ (puts_in d.lines ++ t.more) = h.puts ∙ t.puts in
    let size : length p.puts.items ≡ length (sent before) + length (puts_in d.lines ++ t.more) = ap (λ (ps : List Put). length ps) puts ∙ length-append (sent before) (puts_in d.lines ++ t.more) in
    let part = length-append (puts_in d.lines) t.more in
    let count : length (sent before) + length (puts_in d.lines) - length (sent before) ≡ length (puts_in d.lines) = omega arith in
    record {
      did = d;
      before = before;
      here = past_it;
      behind = over_it;
      noted_ = record {
        machine = refl;
        away = refl;
        puts_are = ap (λ n. take n (drop (length (sent before)) p.puts.items)) count
            ∙ (ap (λ ps. take (length (puts_in d.lines)) (drop (length (sent before)) ps)) puts
            ∙ (ap (take (length (puts_in d.lines))) (drop_at (sent before) (puts_in d.lines ++ t.more) (length (sent before)) refl) ∙ take_at (puts_in d.lines) t.more (length (puts_in d.lines)) refl));
      };
      ordered = omega arith;
      within = omega arith;
    }

pub earlier : (p : ThePast) (ds : List Did) (n : ℕ) (x : Done) → IsPast p ds → n < length p.done.items → x ≡ get_or p.done.items n x → Earlier p ds n x
earlier p ds n x h lt is =
    let count : length p.done.items ≡ length ds = ap (λ (xs : List Done). length xs) h.done ∙ noted_length ds in
    let less : n < length ds = omega arith in
    let a = one_at ds n less in
    let t = noted_there a.later a.did a.before in
    let there : p.done.items ≡ noted a.before ++ done_of a.before a.did ∷ t.behind = h.done ∙ (ap noted a.is ∙ t.done) in
    let same : x ≡ done_of a.before a.did = is ∙ (ap (λ xs. get_or xs n x) there ∙ get_or_at (noted a.before) (done_of a.before a.did) t.behind x n (noted_length a.before ∙ a.place)) in
    let e : Earlier p (a.later ++ a.did ∷ a.before) (length a.before) (done_of a.before a.did) = earlier_of p a.later a.before a.did (subst (IsPast p) a.is h) in
    let by_place : Earlier p (a.later ++ a.did ∷ a.before) n (done_of a.before a.did) = subst (λ m. Earlier p (a.later ++ a.did ∷ a.before) m (done_of a.before a.did)) a.place e in
    subst (Earlier p ds n) (sym same) (subst (λ es. Earlier p es n (done_of a.before a.did)) (sym a.is) by_place)
