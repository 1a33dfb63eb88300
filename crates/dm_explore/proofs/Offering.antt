-- What is offered, one behind the other.
use Rattle.std.specs.Prelude.{◌≡◌, ◌<◌, ◌≤◌, ◌+◌, ◌==◌, ℕ, suc, Bool, true, false, not, cond, if◌then◌else◌, List, [], ◌∷◌, ◌++◌, drop, filter, flat_map, get_or, length, map, take}
use Rattle.std.proofs.Common.{sym, ap, ◌∙◌, arith, append_assoc, append-nil}
use Rattle.std.proofs.lemmas.List.{drop_all, drop_more, map-append, take_all, take_more}
use Rattle.std.proofs.lemmas.List.Concat.{flat_map-append}
use Rattle.std.proofs.lemmas.List.Elements.{filter-append}
use Rattle.dm_schedule.specs.declared.Step.{Step}
use Rattle.dm_line.specs.Todo.{below}
use Rattle.dm_world.specs.declared.world.World.{World}
use Rattle.dm_explore.specs.declared.past.Past.{Past as ThePast}
use Rattle.dm_explore.specs.declared.past.Put.{Put}
use Rattle.dm_explore.specs.Choices.{count_here, delivery, others, requests_left}
use Rattle.dm_explore.specs.Noted.{IsPast}
use Rattle.dm_explore.specs.Offered.{Offers, left_in, sight_of}
use Rattle.dm_explore.specs.Order.{is_left_out}
use Rattle.dm_explore.specs.Past.{Did, sent, times}
use Rattle.dm_explore.specs.Sights.{Sight}

pub offered_none : (w : World) (p : ThePast) (xs : List Step) → Offers w p (λ n s ds. []) xs xs
offered_none w p xs = λ ds h. sym (append-nil xs)

pub offered_on : (w : World) (p : ThePast) (f g : ℕ → Sight → List Did → List Step) (old mid new : List Step) → Offers w p f old mid → Offers w p g mid new → Offers w p (λ n s ds. f n s ds ++ g n s ds) old new
offered_on w p f g old mid new first second = λ ds h.
    let n : ℕ = length w.boot.machines in
    let s : Sight = sight_of w in
    second ds h ∙ (ap (λ xs. xs ++ left_in s ds (g n s ds)) (first ds h)
    ∙ (append_assoc old (left_in s ds (f n s ds)) (left_in s ds (g n s ds)) ∙ ap (λ xs. old ++ xs) (sym (filter-append (λ e. not (is_left_out s ds e)) (f n s ds) (g n s ds)))))

pub offered_as : (w : World) (p : ThePast) (f g : ℕ → Sight → List Did → List Step) (old new : List Step) → ((ds : List Did) → IsPast p ds → f (length w.boot.machines) (sight_of w) ds ≡ g (length w.boot.machines) (sight_of w) ds) → Offers w p f old new → Offers w p g old new
offered_as w p f g old new same first = λ ds h. first ds h ∙ ap (λ es. old ++ left_in (sight_of w) ds es) (same ds h)

-- those of one machine more
below_more : (m : ℕ) → below (m + 1) ≡ below m ++ m ∷ []
below_more m = let next : m + 1 ≡ suc m = omega arith in ap below next

chosen_yes : (make : ℕ → Step) (test : ℕ → Bool) (m : ℕ) → test m ≡ true → map make (filter test (below m)) ++ make m ∷ [] ≡ map make (filter test (below (m + 1)))
chosen_yes make test m is =
    sym (ap (λ ns. map make (filter test ns)) (below_more m) ∙ (ap (map make) (filter-append test (below m) (m ∷ []) ∙ ap (λ t. filter test (below m) ++ cond t (m ∷ []) []) is) ∙ map-append make (filter test (below m)) (m ∷ [])))

chosen_no : (make : ℕ → Step) (test : ℕ → Bool) (m : ℕ) → test m ≡ false → map make (filter test (below m)) ≡ map make (filter test (below (m + 1)))
chosen_no make test m is =
    sym (ap (λ ns. map make (filter test ns)) (below_more m) ∙ ap (map make) (filter-append test (below m) (m ∷ []) ∙ (ap (λ t. filter test (below m) ++ cond t (m ∷ []) []) is ∙ append-nil (filter test (below m)))))

-- of each machine one directive, where it passes a test of what is seen
abbrev pub ForEach : World → ThePast → (ℕ → Step) → (Sight → ℕ → Bool) → ℕ → List Step → List Step → Type 0
ForEach w p make test m old new = Offers w p (λ n s ds. map make (filter (test s) (below m))) old new

pub for_each_yes : (w : World) (p : ThePast) (make : ℕ → Step) (test : Sight → ℕ → Bool) (m : ℕ) (old mid new : List Step) → test (sight_of w) m ≡ true → ForEach w p make test m old mid → Offers w p (λ n s ds. make m ∷ []) mid new → ForEach w p make test (m + 1) old new
for_each_yes w p make test m old mid new is first second =
    offered_as w p (λ n s ds. map make (filter (test s) (below m)) ++ make m ∷ []) (λ n s ds. map make (filter (test s) (below (m + 1)))) old new (λ ds h. chosen_yes make (test (sight_of w)) m is)
    (offered_on w p (λ n s ds. map make (filter (test s) (below m))) (λ n s ds. make m ∷ []) old mid new first second)

pub for_each_no : (w : World) (p : ThePast) (make : ℕ → Step) (test : Sight → ℕ → Bool) (m : ℕ) (old new : List Step) → test (sight_of w) m ≡ false → ForEach w p make test m old new → ForEach w p make test (m + 1) old new
for_each_no w p make test m old new is first =
    offered_as w p (λ n s ds. map make (filter (test s) (below m))) (λ n s ds. map make (filter (test s) (below (m + 1)))) old new (λ ds h. chosen_no make (test (sight_of w)) m is) first

-- of each machine some directives
abbrev pub ForAll : World → ThePast → (ℕ → Sight → List Did → ℕ → List Step) → ℕ → List Step → List Step → Type 0
ForAll w p f m old new = Offers w p (λ n s ds. flat_map (f n s ds) (below m)) old new

all_more : (f : ℕ → List Step) (m : ℕ) → flat_map f (below m) ++ f m ≡ flat_map f (below (m + 1))
all_more f m = sym (ap (flat_map f) (below_more m) ∙ (flat_map-append f (below m) (m ∷ []) ∙ ap (λ es. flat_map f (below m) ++ es) (append-nil (f m))))

pub for_all_more : (w : World) (p : ThePast) (f : ℕ → Sight → List Did → ℕ → List Step) (m : ℕ) (old mid new : List Step) → ForAll w p f m old mid → Offers w p (λ n s ds. f n s ds m) mid new → ForAll w p f (m + 1) old new
for_all_more w p f m old mid new first second =
    offered_as w p (λ n s ds. flat_map (f n s ds) (below m) ++ f n s ds m) (λ n s ds. flat_map (f n s ds) (below (m + 1))) old new (λ ds h. all_more (f (length w.boot.machines) (sight_of w) ds) m)
    (offered_on w p (λ n s ds. flat_map (f n s ds) (below m)) (λ n s ds. f n s ds m) old mid new first second)

-- of each machine but one some directives
abbrev pub ForOthers : World → ThePast → (ℕ → Sight → List Did → ℕ → List Step) → ℕ → ℕ → List Step → List Step → Type 0
ForOthers w p f a m old new = Offers w p (λ n s ds. flat_map (f n s ds) (others m a)) old new

others_more : (a m : ℕ) → others (m + 1) a ≡ others m a ++ cond (not (a == m)) (m ∷ []) []
others_more a m = ap (filter (λ c. not (a == c))) (below_more m) ∙ filter-append (λ c. not (a == c)) (below m) (m ∷ [])

others_yes : (a m : ℕ) → (a == m) ≡ false → others (m + 1) a ≡ others m a ++ m ∷ []
others_yes a m is = others_more a m ∙ ap (λ t. others m a ++ cond (not t) (m ∷ []) []) is

others_no : (a m : ℕ) → (a == m) ≡ true → others (m + 1) a ≡ others m a
others_no a m is = others_more a m ∙ (ap (λ t. others m a ++ cond (not t) (m ∷ []) []) is ∙ append-nil (others m a))

with_one_more : (f : ℕ → List Step) (ms : List ℕ) (m : ℕ) → flat_map f ms ++ f m ≡ flat_map f (ms ++ m ∷ [])
with_one_more f ms m = sym (flat_map-append f ms (m ∷ []) ∙ ap (λ es. flat_map f ms ++ es) (append-nil (f m)))

pub for_others_yes : (w : World) (p : ThePast) (f : ℕ → Sight → List Did → ℕ → List Step) (a m : ℕ) (old mid new : List Step) → (a == m) ≡ false → ForOthers w p f a m old mid → Offers w p (λ n s ds. f n s ds m) mid new → ForOthers w p f a (m + 1) old new
for_others_yes w p f a m old mid new apart first second =
    offered_as w p (λ n s ds. flat_map (f n s ds) (others m a) ++ f n s ds m) (λ n s ds. flat_map (f n s ds) (others (m + 1) a)) old new
    (λ ds h. with_one_more (f (length w.boot.machines) (sight_of w) ds) (others m a) m ∙ ap (flat_map (f (length w.boot.machines) (sight_of w) ds)) (sym (others_yes a m apart)))
    (offered_on w p (λ n s ds. flat_map (f n s ds) (others m a)) (λ n s ds. f n s ds m) old mid new first second)

pub for_others_no : (w : World) (p : ThePast) (f : ℕ → Sight → List Did → ℕ → List Step) (a m : ℕ) (old new : List Step) → (a == m) ≡ true → ForOthers w p f a m old new → ForOthers w p f a (m + 1) old new
for_others_no w p f a m old new same first =
    offered_as w p (λ n s ds. flat_map (f n s ds) (others m a)) (λ n s ds. flat_map (f n s ds) (others (m + 1) a)) old new (λ ds h. ap (flat_map (f (length w.boot.machines) (sight_of w) ds)) (sym (others_no a m same))) first

-- of the first packets that were put the deliveries of those that pass a test
abbrev pub ForPuts : World → ThePast → (Sight → List Did → Put → Bool) → ℕ → List Step → List Step → Type 0
ForPuts w p test i old new = Offers w p (λ n s ds. map delivery (filter (test s ds) (take i p.puts.items))) old new

put_more : (test : Put → Bool) (ps : List Put) (i : ℕ) (d : Put) → i < length ps → map delivery (filter test (take (i + 1) ps)) ≡ map delivery (filter test (take i ps)) ++ map delivery (cond (test (get_or ps i d)) (get_or ps i d ∷ []) [])
put_more test ps i d lt =
    ap (λ qs. map delivery (filter test qs)) (take_more ps i d lt)
    ∙ (ap (map delivery) (filter-append test (take i ps) (get_or ps i d ∷ [])) ∙ map-append delivery (filter test (take i ps)) (cond (test (get_or ps i d)) (get_or ps i d ∷ []) []))

pub for_puts_yes : (w : World) (p : ThePast) (test : Sight → List Did → Put → Bool) (i : ℕ) (d : Put) (old mid new : List Step) → i < length p.puts.items → ((ds : List Did) → IsPast p ds → test (sight_of w) ds (get_or p.puts.items i d) ≡ true)
    → ForPuts w p test i old mid → Offers w p (λ n s ds. delivery (get_or p.puts.items i d) ∷ []) mid new → ForPuts w p test (i + 1) old new
for_puts_yes w p test i d old mid new lt is first second =
    offered_as w p (λ n s ds. map delivery (filter (test s ds) (take i p.puts.items)) ++ delivery (get_or p.puts.items i d) ∷ []) (λ n s ds. map delivery (filter (test s ds) (take (i + 1) p.puts.items))) old new
    (λ ds h. sym (put_more (test (sight_of w) ds) p.puts.items i d lt ∙ ap (λ t. map delivery (filter (test (sight_of w) ds) (take i p.puts.items)) ++ map delivery (cond t (get_or p.puts.items i d ∷ []) [])) (is ds h)))
    (offered_on w p (λ n s ds. map delivery (filter (test s ds) (take i p.puts.items))) (λ n s ds. delivery (get_or p.puts.items i d) ∷ []) old mid new first second)

pub for_puts_no : (w : World) (p : ThePast) (test : Sight → List Did → Put → Bool) (i : ℕ) (d : Put) (old new : List Step) → i < length p.puts.items → ((ds : List Did) → IsPast p ds → test (sight_of w) ds (get_or p.puts.items i d) ≡ false)
    → ForPuts w p test i old new → ForPuts w p test (i + 1) old new
for_puts_no w p test i d old new lt is first =
    offered_as w p (λ n s ds. map delivery (filter (test s ds) (take i p.puts.items))) (λ n s ds. map delivery (filter (test s ds) (take (i + 1) p.puts.items))) old new
    (λ ds h. sym (put_more (test (sight_of w) ds) p.puts.items i d lt ∙ (ap (λ t. map delivery (filter (test (sight_of w) ds) (take i p.puts.items)) ++ map delivery (cond t (get_or p.puts.items i d ∷ []) [])) (is ds h) ∙ append-nil (map delivery (filter (test (sight_of w) ds) (take i p.puts.items)))))) first

pub for_puts_all : (w : World) (p : ThePast) (test : Sight → List Did → Put → Bool) (i : ℕ) (old new : List Step) → length p.puts.items ≤ i → ForPuts w p test i old new → Offers w p (λ n s ds. map delivery (filter (test s ds) (sent ds))) old new
for_puts_all w p test i old new past first =
    offered_as w p (λ n s ds. map delivery (filter (test s ds) (take i p.puts.items))) (λ n s ds. map delivery (filter (test s ds) (sent ds))) old new
    (λ ds h. ap (λ ps. map delivery (filter (test (sight_of w) ds) ps)) (take_all i p.puts.items past ∙ h.puts)) first

-- the first of these requests were offered where they are left: those behind them are to come
abbrev pub ForRequests : World → ThePast → List Step → ℕ → List Step → List Step → Type 0
ForRequests w p rs i old new = (ds : List Did) → IsPast p ds → old ++ left_in (sight_of w) ds (requests_left [] rs ds) ≡ new ++ left_in (sight_of w) ds (requests_left (take i rs) (drop i rs) ds)

request_on : (rs : List Step) (i : ℕ) (e : Step) (ds : List Did) → i < length rs → get_or rs i e ≡ e
    → requests_left (take i rs) (drop i rs) ds ≡ (if count_here e (take i rs) == times e ds then e ∷ [] else []) ++ requests_left (take (i + 1) rs) (drop (i + 1) rs) ds
request_on rs i e ds lt is =
    let rest : drop i rs ≡ e ∷ drop (i + 1) rs = drop_more rs i e lt ∙ ap (λ d. d ∷ drop (i + 1) rs) is in
    let begun : take (i + 1) rs ≡ take i rs ++ e ∷ [] = take_more rs i e lt ∙ ap (λ d. take i rs ++ d ∷ []) is in
    ap (λ es. requests_left (take i rs) es ds) rest ∙ ap (λ bs. (if count_here e (take i rs) == times e ds then e ∷ [] else []) ++ requests_left bs (drop (i + 1) rs) ds) (sym begun)

pub for_requests_yes : (w : World) (p : ThePast) (rs : List Step) (i : ℕ) (e : Step) (old mid new : List Step) → i < length rs → get_or rs i e ≡ e → ((ds : List Did) → IsPast p ds → (count_here e (take i rs) == times e ds) ≡ true)
    → ForRequests w p rs i old mid → Offers w p (λ n s ds. e ∷ []) mid new → ForRequests w p rs (i + 1) old new
for_requests_yes w p rs i e old mid new lt at_place is first second = λ ds h.
    let rest : List Step = requests_left (take (i + 1) rs) (drop (i + 1) rs) ds in
    let s : Sight = sight_of w in
    let one : requests_left (take i rs) (drop i rs) ds ≡ (e ∷ []) ++ rest = request_on rs i e ds lt at_place ∙ ap (λ (t : Bool). (if t then e ∷ [] else []) ++ rest) (is ds h) in
    first ds h ∙ (ap (λ es. mid ++ left_in s ds es) one ∙ (ap (λ es. mid ++ es) (filter-append (λ d. not (is_left_out s ds d)) (e ∷ []) rest)
    ∙ (sym (append_assoc mid (left_in s ds (e ∷ [])) (left_in s ds rest)) ∙ ap (λ es. es ++ left_in s ds rest) (sym (second ds h)))))

pub for_requests_no : (w : World) (p : ThePast) (rs : List Step) (i : ℕ) (e : Step) (old new : List Step) → i < length rs → get_or rs i e ≡ e → ((ds : List Did) → IsPast p ds → (count_here e (take i rs) == times e ds) ≡ false)
    → ForRequests w p rs i old new → ForRequests w p rs (i + 1) old new
for_requests_no w p rs i e old new lt at_place is first = λ ds h.
    let rest : List Step = requests_left (take (i + 1) rs) (drop (i + 1) rs) ds in
    let one : requests_left (take i rs) (drop i rs) ds ≡ rest = request_on rs i e ds lt at_place ∙ ap (λ (t : Bool). (if t then e ∷ [] else []) ++ rest) (is ds h) in
    first ds h ∙ ap (λ es. new ++ left_in (sight_of w) ds es) one

pub for_requests_all : (w : World) (p : ThePast) (rs : List Step) (i : ℕ) (old new : List Step) → length rs ≤ i → ForRequests w p rs i old new → Offers w p (λ n s ds. requests_left [] rs ds) old new
for_requests_all w p rs i old new past first = λ ds h.
    sym (first ds h ∙ (ap (λ es. new ++ left_in (sight_of w) ds (requests_left (take i rs) es ds)) (drop_all i rs past) ∙ append-nil new))

-- five kinds of choices, one behind the other, from none on
pub offered_all : (w : World) (p : ThePast) (f g h k l : ℕ → Sight → List Did → List Step) (start one two three four all : List Step) → start ≡ []
    → Offers w p f start one → Offers w p g one two → Offers w p h two three → Offers w p k three four → Offers w p l four all
    → Offers w p (λ n s ds. f n s ds ++ g n s ds ++ h n s ds ++ k n s ds ++ l n s ds) [] all
offered_all w p f g h k l start one two three four all none first second third fourth fifth = λ ds is.
    offered_on w p (λ n s ds. f n s ds ++ g n s ds ++ h n s ds ++ k n s ds) l start four all
    (offered_on w p (λ n s ds. f n s ds ++ g n s ds ++ h n s ds) k start three four
    (offered_on w p (λ n s ds. f n s ds ++ g n s ds) h start two three
    (offered_on w p f g start one two first second) third) fourth) fifth ds is
    ∙ ap (λ es. es ++ left_in (sight_of w) ds (f (length w.boot.machines) (sight_of w) ds ++ g (length w.boot.machines) (sight_of w) ds ++ h (length w.boot.machines) (sight_of w) ds ++ k (length w.boot.machines) (sight_of w) ds ++ l (length w.boot.machines) (sight_of w) ds)) none
